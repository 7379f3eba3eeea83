use mathlib.Core.Path.{ap, ap₂, ◌∙◌}
use mathlib.Core.Bool.{◌&&◌}
use mathlib.Core.List.{List}
use Prim.Native.Nat.{ℕ}
use lib.Dec.{eqb}
use lib.ListN.{get_or}
use Rattle.sampling.specs.Noise.{ternary_noise}
use Rattle.reference_vectors.specs.Cases.{residue_of}
use Rattle.reference_vectors.proofs.noise_agrees.Goals as goal

pub returns : goal.returns
returns c =
    ap₂ ◌&&◌ (ap (λ (k : ℕ). eqb k 0) c.number.ensures)
    (ap₂ eqb
    (ap (λ (p : List ℕ). get_or p 0 0) (c.ternary-p.ensures ∙ ap ternary_noise c.field.ensures))
    (c.residue.ensures ∙ ap residue_of c.number-2.ensures))
