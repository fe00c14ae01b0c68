mod Entries
mod Seen
