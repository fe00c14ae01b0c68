mod Images
mod Snapshots
mod Texts
