use mathlib.Core.Path.{◌∙◌}
use Prim.Native.Nat.{ℕ, max}
use lib.IntN.{ℤ, nat_abs}
use Rattle.std.proofs.lemmas.Iterator.{YieldsList-from_slice}
use Rattle.std.proofs.lemmas.Iterator.Consumers.{fold_from_yields_List}
use Rattle.margins.proofs.LargestLaws.{largest_fold}
use borrow.Author.Rules.{rules}
use borrow.Author.Tests.{tests}
use Rattle.margins.proofs.largest_size.Goals as goal

pub returns : goal.returns
returns c =
    let w = c.args.w in
    fold_from_yields_List _ (λ (b : ℕ) (x : ℤ). max b (nat_abs x)) _ c.fold.result c.fold.ensures.ran (YieldsList-from_slice w c.iter.ensures.rest)
    (λ s x b f k. search (rules, tests))
    ∙ largest_fold w
