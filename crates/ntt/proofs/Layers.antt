-- Layer after layer.
use mathlib.Core.Path.{◌≡◌, refl, ap, ◌∙◌}
use mathlib.Core.List.{List}
use Prim.Native.Nat.{ℕ, suc, ◌+◌}
use native.Mathlib.Numerals.{add-one}
use Rattle.ntt.specs.Layers.{layers}

pub layers-zero : (layer : ℕ → List ℕ → List ℕ) (a : List ℕ) → layers layer 0 a ≡ a
unfolding layers
layers-zero layer a = refl

pub layers-suc : (layer : ℕ → List ℕ → List ℕ) (k : ℕ) (a : List ℕ) → layers layer (suc k) a ≡ layer k (layers layer k a)
unfolding layers
layers-suc layer k a = refl

pub layers_more : (layer : ℕ → List ℕ → List ℕ) (k : ℕ) (a : List ℕ) → layers layer (k + 1) a ≡ layer k (layers layer k a)
layers_more layer k a = ap (λ (n : ℕ). layers layer n a) (add-one k) ∙ layers-suc layer k a
