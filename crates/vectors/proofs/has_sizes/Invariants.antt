use mathlib.Core.Path.{◌≡◌}
use Prim.Native.Nat.{◌≤◌}
use lib.ListN.{length, drop}
use Rattle.vectors.specs.Fields.{sized_from, is_sized}
use Rattle.vectors.proofs.has_sizes.Given as goal

abbrev pub invariant-loop-k : goal.invariant-loop-k
invariant-loop-k l = (l.k ≤ length l.sizes) × (sized_from l.k (drop l.k l.sizes) l.text ≡ is_sized l.sizes l.text)
