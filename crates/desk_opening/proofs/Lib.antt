-- Laws of the desk's answer.
pub mod Answers
