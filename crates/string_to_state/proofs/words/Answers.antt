use Rattle.lists.proofs.FromFn.{from_fn-table}
use borrow.Author.Rules.{rules}
use Rattle.string_to_state.proofs.words.Goals as goal

pub returns : goal.returns
returns c = from_fn-table _ _ _ c.from_fn.result 25 0 (λ k y q h call. search rules) c.from_fn.ensures.items
