-- Laws of answers.
pub mod AnswerLaws
-- Laws of their codes.
pub mod CodeLaws
