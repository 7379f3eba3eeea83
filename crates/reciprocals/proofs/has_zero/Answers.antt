use mathlib.Core.Path.{◌∙◌}
use mathlib.Core.Bool.{Bool, not, ◌||◌}
use Prim.Native.Nat.{ℕ}
use Rattle.std.proofs.lemmas.Iterator.{YieldsList-from_slice}
use Rattle.std.proofs.lemmas.Iterator.Consumers.{fold_from_yields_List}
use borrow.Author.Rules.{rules}
use borrow.Author.Tests.{tests}
use Rattle.lists.proofs.Scan.{fold_some}
use Rattle.reciprocals.specs.Reciprocals.{is_nonzero, has_zero}
use Rattle.reciprocals.proofs.has_zero.Goals as goal

pub returns : goal.returns
unfolding has_zero
returns c =
    let t = c.args.t in
    fold_from_yields_List _ (λ (any : Bool) (x : ℕ). any || not (is_nonzero x)) _ c.fold.result c.fold.ensures.ran (YieldsList-from_slice t c.iter.ensures.rest)
    (λ s x b f k. search (rules, tests))
    ∙ fold_some is_nonzero t
