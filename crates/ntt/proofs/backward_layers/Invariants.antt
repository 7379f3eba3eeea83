use mathlib.Core.Path.{◌≡◌}
use mathlib.Core.List.{List}
use Prim.Native.Nat.{ℕ, ◌-◌, ◌≤◌}
use lib.ListN.{length}
use Rattle.algebra.specs.Numbers.{Below}
use Rattle.ntt.specs.Spectrum.{q}
use Rattle.ntt.specs.Factors.{backward_factor}
use Rattle.butterflies.specs.Layers.{backward_layer}
use Rattle.ntt.specs.Layers.{layers}
use Rattle.ntt.proofs.backward_layers.Given as goal

abbrev pub Layer : ℕ → List ℕ → List ℕ
Layer k = backward_layer q 512 (backward_factor (9 - k))

-- what a layer leaves
pub record Made (s : List ℕ) : Type 0 where
  pub size : length s ≡ 1024
  pub below : Below q s

abbrev pub invariant-loop-k : goal.invariant-loop-k
invariant-loop-k l =
    (1 ≤ l.k) × (l.k ≤ 10) × (length l.v ≡ 512) × (length l.p ≡ 1024) × Made l.s × ((a : List ℕ) → l.initial.s ≡ layers Layer 1 a → l.s ≡ layers Layer l.k a)

abbrev pub decreases-loop-k : goal.decreases-loop-k
decreases-loop-k l = 10 - l.k
