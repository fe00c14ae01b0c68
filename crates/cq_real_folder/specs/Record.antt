-- The record of a save: the renames and the removals that are still to be done.
use Rattle.std.specs.Prelude.{◌≡◌, ◌≢◌, ◌⊎◌, ◌+◌, ◌<◌, ◌≤◌, ◌^◌, ℕ, List, ◌∷◌, [], ◌++◌, All, Bool, Contains, IsSomeAnd, IsTrue, String, codes, if◌then◌else◌, length, map, nat_eq, not, pos, string_bytes}
use Rattle.std.specs.Fmt.{decimal}
use Rattle.std.specs.Global.{Global}
use Rattle.std.specs.IoError.{error_kind, raw_os_error}
use Rattle.std.specs.List.{ends_with, filter, flat_map, list_any}
use Rattle.std.specs.Str.{bytes_eq}
use Rattle.std.specs.declared.io.Error.{Error}
use Rattle.std.specs.declared.io.ErrorKind.TheVariants.{InvalidData, InvalidFilename, OutOfMemory}
use Rattle.cq_folder.specs.declared.storage.NewFile.{NewFile}
use Rattle.cq_real_folder.specs.declared.record.Record.{Record}
use Rattle.cq_real_folder.specs.declared.record.TheConstants.{KEPT_ENDING}
use Rattle.cq_folder.specs.declared.names.TheConstants.{CONFIG_FILE, IMAGE_ENDING, LOG_FILE, PART_ENDING, RECORD_FILE}

-- a file of a queue that a record can name: `queue.cqc`, `queue.log` or an image by its name, in no other folder and on one
-- line
abbrev pub IsFileName : List ℕ → Type 0
IsFileName name = ((name ≡ CONFIG_FILE.now) ⊎ ((name ≡ LOG_FILE.now) ⊎ IsTrue (ends_with nat_eq name IMAGE_ENDING.now)))
    × (¬ Contains name 47) × (¬ Contains name 10)

-- names that a record can have
abbrev pub AreFileNames : List (String Global) → Type 0
AreFileNames names = All (λ name. IsFileName (string_bytes name)) names

-- a record can be made of a save that replaces these files and removes those of these names
abbrev pub CanBeRecorded : List NewFile → List (String Global) → Type 0
CanBeRecorded changes removed = All (λ file. IsFileName (string_bytes file.name)) changes × AreFileNames removed

-- why no record is made: out of memory, or it cannot have one of the names, which must then hold
abbrev pub IsNamingError : Type 0 → Error → Type 0
IsNamingError Unnamed error = (error_kind error ≡ OutOfMemory) ⊎ ((error_kind error ≡ InvalidFilename) × Unnamed)

-- the form of a record's text: 1 if no file is removed, and else 2
abbrev pub form_of : List (String Global) → ℕ
form_of [] = 1
form_of (_ ∷ _) = 2

-- how a record begins: what it is, with its form, and the process, each on a line
abbrev pub record_head : ℕ → ℕ → List ℕ
record_head form process = codes "cq save " ++ (decimal form ++ (codes "\n" ++ (decimal process ++ codes "\n")))

-- names, each on a line
abbrev pub name_text : List (String Global) → List ℕ
name_text names = flat_map (λ name. string_bytes name ++ 10 ∷ []) names

-- an empty line, and then the names of the files that are removed; nothing if none is
abbrev pub removal_text : List (String Global) → List ℕ
removal_text [] = []
removal_text (name ∷ names) = codes "\n" ++ name_text (name ∷ names)

-- what follows the process: both lists, and a line that says that they are whole
abbrev pub record_lines : List (String Global) → List (String Global) → List ℕ
record_lines names removed = name_text names ++ (removal_text removed ++ codes "end\n")

-- the text of a record
abbrev pub record_text : ℕ → List (String Global) → List (String Global) → List ℕ
record_text process names removed = record_head (form_of removed) process ++ record_lines names removed

-- the first line of a text is no name that a record can have
abbrev pub BeginsWithNoName : List ℕ → Type 0
BeginsWithNoName text = (name more : List ℕ) → IsFileName name → text ≢ name ++ 10 ∷ more

-- a save has a record: the number of its process, and the names of the files that it replaces and of those that it removes,
-- together one or more
pub record IsRecord (process : ℕ) (names removed : List (String Global)) : Type 0 where
  pub number : process < 2 ^ 32
  pub some : 0 < length names + length removed
  pub files : AreFileNames names
  pub removals : AreFileNames removed

-- the text is that of a save's record
pub record IsRecordText (text : List ℕ) : Type 0 where
  pub process : ℕ
  pub names : List (String Global)
  pub removed : List (String Global)
  pub lawful : IsRecord process names removed
  pub spelled : text ≡ record_text process names removed

-- why a text is not read as a record: out of memory, or it is none, or longer than this
abbrev pub IsReadingError : ℕ → List ℕ → Error → Type 0
IsReadingError most text error = (error_kind error ≡ OutOfMemory)
    ⊎ ((error_kind error ≡ InvalidData) × (length text ≤ most → ¬ IsRecordText text))

-- whether one of these names is this
abbrev pub is_listed : List (List ℕ) → List ℕ → Bool
is_listed names name = list_any (λ (listed : List ℕ). bytes_eq listed name) names

-- these names, and then those of the files that are saved and not among them, each once
abbrev pub with_saved : List (List ℕ) → List (List ℕ) → List (List ℕ)
with_saved names [] = names
with_saved names (saved ∷ more) =
    with_saved (if is_listed names saved then names else names ++ saved ∷ []) more

-- what a folder lists once a save is done that replaces files and removes others
abbrev pub names_after : List (List ℕ) → List (List ℕ) → List (List ℕ) → List (List ℕ)
names_after saved removed names =
    filter (λ name. not (is_listed removed name)) (with_saved names saved)

-- the record is of this process, and names these files
pub record IsRecordOf (found : Record) (process : ℕ) (names removed : List (String Global)) : Type 0 where
  pub number : found.process ≡ process
  pub renames : map string_bytes found.names.items ≡ map string_bytes names
  pub removals : map string_bytes found.removed.items ≡ map string_bytes removed

-- a file that is kept when another replaces one that a record can name
abbrev pub IsKeptName : List ℕ → Type 0
IsKeptName file = (replaced : List ℕ) × (file ≡ replaced ++ KEPT_ENDING.now) × IsFileName replaced

-- a file whose new bytes are written to a part first: the record, one that a record can name, or one that is kept for it
abbrev pub HasParts : List ℕ → Type 0
HasParts file = (file ≡ RECORD_FILE.now) ⊎ (IsFileName file ⊎ IsKeptName file)

-- the name of the part that a process writes of a file: the file's name, a dot, the number of the process and `.part`
abbrev pub part_name : List ℕ → ℕ → List ℕ
part_name file process = file ++ (codes "." ++ (decimal process ++ PART_ENDING.now))

-- the name is that of a part
pub record IsPartName (name : List ℕ) : Type 0 where
  pub file : List ℕ
  pub process : ℕ
  pub whose : HasParts file
  pub number : process < 2 ^ 32
  pub spelled : name ≡ part_name file process

-- a folder lists itself and its parent by these names
abbrev pub IsFolderName : List ℕ → Type 0
IsFolderName name = (name ≡ codes ".") ⊎ (name ≡ codes "..")

-- the errors by which the system says that it has no locks on a folder: a bad descriptor, an invalid argument, no locks, no
-- such call, not supported
abbrev pub SaysNoLocks : Error → Type 0
SaysNoLocks error = IsSomeAnd (raw_os_error error) (λ code. (code ≡ pos 9) ⊎ ((code ≡ pos 22) ⊎ ((code ≡ pos 37) ⊎ ((code ≡ pos 38)
    ⊎ (code ≡ pos 95)))))
