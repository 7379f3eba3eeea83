use mathlib.Core.Path.{refl, ap, ap₂}
use mathlib.Core.Bool.{Bool, ◌&&◌}
use mathlib.Core.List.{List}
use Prim.Native.Nat.{ℕ}
use lib.Dec.{eqb}
use lib.ListN.{length}
use Rattle.batch_cases.specs.BatchCases.{is_kept}
use Rattle.batch_cases.proofs.is_kept.Goals as goal

pub returns : goal.returns
unfolding is_kept
returns c =
    let none : List ℕ → Bool = λ l. eqb (length l) 0 in
    ap₂ ◌&&◌
    (ap₂ ◌&&◌ (ap₂ ◌&&◌ (ap none c.field.ensures) (ap none c.field-2.ensures)) refl)
    c.is_filled.ensures
