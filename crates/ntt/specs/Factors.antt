-- The transform back by layers, with the factors of crate twiddles.
use Rattle.std.specs.Prelude.{List, ℕ, ◌-◌}
use Rattle.ntt.specs.Spectrum.{q}
use Rattle.butterflies.specs.Layers.{backward_layer}
use Rattle.ntt.specs.Layers.{layers}
pub use Rattle.twiddles.specs.Factors.{forward_factor, backward_factor}
unfoldable pub use Rattle.twiddles.specs.Factors.{forward_factors, backward_factors}

-- the ten layers of the transform back: the last layer of the forward transform comes first
unfoldable pub backward_layers : List ℕ → List ℕ
backward_layers a = layers (λ k. backward_layer q 512 (backward_factor (9 - k))) 10 a
