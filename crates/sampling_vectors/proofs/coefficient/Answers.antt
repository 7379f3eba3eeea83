use mathlib.Core.Path.{◌≡◌, ap, ◌∙◌}
use mathlib.Core.List.{[], ◌∷◌}
use native.Mathlib.Omega.{arith}
use Rattle.lists.proofs.Tables.{get_or-table}
use Rattle.encoding.proofs.Digits.{digit-first}
use Rattle.sampling.specs.Noise.{noise_coefficient, nibble_at, noise_by}
use Rattle.sampling_vectors.proofs.coefficient.Goals as goal

pub returns : goal.returns
unfolding noise_by
returns c =
    let t = c.args.t in
    let bits : nibble_at (t ∷ []) 0 ≡ t = digit-first 16 2 (t ∷ []) 0 (omega arith) ∙ omega (arith, c.requires) in
    rw c.ternary-p.ensures (get_or-table 1024 _ 0 0 (omega arith) ∙ ap noise_coefficient bits)
