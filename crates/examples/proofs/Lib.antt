-- That the examples hold.
pub mod WorkedExamples
