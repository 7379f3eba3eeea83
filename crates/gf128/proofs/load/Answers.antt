use mathlib.Core.Path.{◌∙◌, ap₂}
use Prim.Native.Nat.{ℕ, ◌+◌, ◌*◌, ◌^◌}
use Rattle.gf128.proofs.Digits.{number_eight, number-halves}
use Rattle.gf128.proofs.load.Goals as goal

pub returns : goal.returns
returns c =
    let b = c.args.b.now in
    ap₂ (λ (hi lo : ℕ). hi * 2 ^ 64 + lo) (c.word64_at-2.ensures ∙ number_eight b 8) (c.word64_at.ensures ∙ number_eight b 0)
    ∙ number-halves b c.requires
