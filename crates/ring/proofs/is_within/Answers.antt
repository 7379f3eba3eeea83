use mathlib.Core.Path.{◌∙◌}
use mathlib.Core.Bool.{Bool, ◌&&◌}
use Prim.Native.Nat.{ℕ}
use Rattle.std.proofs.lemmas.Iterator.{YieldsList-from_slice}
use Rattle.std.proofs.lemmas.Iterator.Consumers.{fold_from_yields_List}
use borrow.Author.Rules.{rules}
use borrow.Author.Tests.{tests}
use Rattle.lists.proofs.Scan.{fold_all}
use Rattle.ring.specs.Centred.{is_near, is_within}
use Rattle.ring.proofs.is_within.Goals as goal

pub returns : goal.returns
unfolding is_within
returns c =
    let a = c.args.a in
    let near = is_near c.args.k in
    fold_from_yields_List _ (λ (all : Bool) (x : ℕ). all && near x) _ c.fold.result c.fold.ensures.ran (YieldsList-from_slice a c.iter.ensures.rest)
    (λ s x b f k. search (rules, tests))
    ∙ fold_all near a
