-- What a batch that is refused leaves, and what is shown of one that is not.
pub mod Laws
