-- Laws of entries in an output.
mod Entries
