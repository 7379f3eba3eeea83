use mathlib.Core.Path.{ap, ◌∙◌}
use mathlib.Core.List.{List, map}
use lib.IntN.{ℤ}
use Rattle.lists.proofs.Tables.{map-table}
use Rattle.ring.specs.Ring.{n}
use Rattle.ring.specs.Centred.{residue}
use Rattle.sampling.specs.Noise.{four_bits, noise_coefficient, nibble_at, noise_by}
use Rattle.sampling.proofs.ternary.Goals as goal

pub returns : goal.returns
unfolding noise_by noise_coefficient
returns c =
    let bytes = c.args.bytes.now in
    c.coefficients.ensures
    ∙ ap (λ (l : List ℤ). map residue l) c.signed_noise.ensures
    ∙ map-table residue n (λ k. four_bits (nibble_at bytes k))
