mod Faults
mod Holds
mod Names
mod Places
