mod Closings
mod Endings
mod Hearings
mod Readings
