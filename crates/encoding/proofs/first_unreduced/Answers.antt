use mathlib.Core.Path.{◌≡◌, refl, ap, ◌∙◌}
use mathlib.Core.Bool.{not}
use Prim.Native.Nat.{ℕ}
use lib.Dec.{ltb}
use lib.ListN.{length}
use Rattle.std.specs.Prelude.{Option, unwrap_or}
use Rattle.std.proofs.lemmas.Iterator.{YieldsList-from_slice}
use Rattle.std.proofs.lemmas.Iterator.Search.{position_from_yields_List}
use Rattle.lists.proofs.Scan.{position-first}
use Rattle.ring.specs.Ring.{q, n}
use Rattle.encoding.specs.Words.{first_from}
use borrow.Author.Rules.{rules}
use borrow.Author.Tests.{tests}
use Rattle.encoding.proofs.first_unreduced.Goals as goal

pub returns : goal.returns
unfolding first_from
returns c =
    let a = c.args.a in
    let size : length a ≡ n = search rules in
    let found = position_from_yields_List (λ (w : ℕ). not (ltb w q)) _ _ c.position.result c.position.ensures.ran (YieldsList-from_slice a c.iter.ensures.rest)
    (λ x b f k. search (rules, tests)) in
    c.unwrap_or.ensures ∙ ap (λ (o : Option ℕ). unwrap_or o n) found ∙ position-first (λ (w : ℕ). ltb w q) (λ (w : ℕ). not (ltb w q)) a n size (λ w. refl)
