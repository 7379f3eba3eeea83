use mathlib.Core.Path.{ap₂}
use mathlib.Core.List.{◌++◌}
use Prim.Native.Nat.{ℕ}
use lib.ListN.{length}
use Rattle.std.proofs.lemmas.List.{drop-replicate}
use Rattle.shake.proofs.zero_filled.Goals as goal

pub returns : goal.returns
returns c =
    ap₂ (λ x y. x ++ y) c.copy_from_slice.ensures.after (drop-replicate {X = ℕ} (length c.args.t.now) 200 0)
