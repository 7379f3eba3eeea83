use mathlib.Core.Path.{◌≡◌}
use mathlib.Core.List.{List}
use Prim.Native.Nat.{ℕ, ◌-◌, ◌*◌, ◌≤◌}
use lib.ListN.{length}
use Rattle.algebra.specs.Numbers.{Below}
use Rattle.ntt.specs.Spectrum.{q}
use Rattle.ntt.specs.Factors.{forward_factor}
use Rattle.butterflies.specs.Layers.{forward_layer}
use Rattle.ntt.specs.Layers.{layers}
use Rattle.ntt.proofs.forward.Given as goal

abbrev pub Layer : ℕ → List ℕ → List ℕ
Layer k = forward_layer q 512 (forward_factor k)

abbrev pub invariant-loop-k : goal.invariant-loop-k
invariant-loop-k l = (l.k ≤ 5) × (length l.s ≡ 1024) × (length l.t ≡ 1024) × Below q l.s × (l.s ≡ layers Layer (2 * l.k) l.initial.s)

abbrev pub decreases-loop-k : goal.decreases-loop-k
decreases-loop-k l = 5 - l.k
