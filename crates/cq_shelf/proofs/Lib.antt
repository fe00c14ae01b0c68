mod Follows
mod Kept
mod Names
mod Seeks
mod Waits
mod Ways
mod Writes
