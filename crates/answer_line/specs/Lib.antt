-- What the contracts of `answer_line` cite.
pub mod Line
