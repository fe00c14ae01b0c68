pub mod CountedFile
