-- Laws.
pub mod PowerTable
pub mod Reversal
pub mod Factors
pub mod Repeats
