use mathlib.Core.Path.{refl, ap, ◌∙◌}
use Prim.Native.Nat.{ℕ, ◌<◌}
use native.Mathlib.Omega.{arith}
use lib.IntN.{ℤ, pos}
use lib.ListN.{get_or}
use mir.Syntax.{w16}
use Rattle.encoding.proofs.Digits.{digit-first, digit-in, digit_missing}
use Rattle.sampling.specs.Noise.{four_bits, nibble_at}
use Rattle.sampling.proofs.NoiseLaws.{four_bits_none}
use Rattle.sampling.proofs.FrontFill.{front-filled-start, front-filled-next, front-filled-all}
use Rattle.ring.proofs.SignedValues.{read_back}
use Rattle.sampling.proofs.signed_noise.Goals as goal

pub loop-i-init : goal.loop-i-init
loop-i-init c =
    let bytes = c.args.bytes.now in
    front-filled-start (λ k. four_bits (nibble_at bytes k)) (omega (arith, c.min-count.ensures)) (pos 0) refl
    (λ k l h. ap four_bits (digit_missing 16 2 bytes k (omega (arith, c.min-count.ensures))) ∙ four_bits_none)

pub loop-i-preserved : goal.loop-i-preserved
loop-i-preserved c =
    let at = c in
    let bytes = at.args.bytes.now in
    let i = at.loop-i.i in
    let b : get_or bytes i 0 < 256 = omega (arith, c.shared_slice_known-in-loop-i-1.given i) in
    let low = digit-first 16 2 bytes i (omega arith) in
    let high = digit-in 16 2 bytes i 1 (omega arith) in
    let rule : ℕ → ℤ = λ k. four_bits (nibble_at bytes k) in
    let first = c.noise in
    front-filled-next rule
    (front-filled-next rule at.loop-i.invariant (omega arith) (read_back w16 _ first.type_inv ∙ first.ensures ∙ ap four_bits (omega (arith, low))) refl)
    (omega arith) (read_back w16 _ c.noise-in-loop-i.type_inv ∙ c.noise-in-loop-i.ensures ∙ ap four_bits (omega (arith, high))) (omega arith)

pub returns : goal.returns
returns c =
    let bytes = c.args.bytes.now in
    front-filled-all (λ k. four_bits (nibble_at bytes k)) (omega (arith, c.min-count.ensures)) c.loop-i.invariant (omega arith)
