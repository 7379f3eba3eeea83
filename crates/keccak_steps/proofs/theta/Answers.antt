use mathlib.Core.Path.{◌≡◌, ap, ◌∙◌}
use mathlib.Core.List.{List}
use Prim.Native.Nat.{ℕ, ◌+◌, ◌%◌}
use lib.Bits.{bit_xor}
use lib.ListN.{get_or}
use Rattle.keccak_steps.specs.Steps.{lane, plane, state, rotate, effect}
use Rattle.keccak_steps.proofs.States.{planes-same}
use Rattle.keccak_steps.proofs.theta.Goals as goal

pub returns : goal.returns
returns c =
    let at-0 = c in
    let at-4 = at-0 in
    let at-3 = at-4 in
    let at-2 = at-3 in
    let at-effects = at-2 in
    let a = at-effects.args.a in
    let d : at-effects.effects-d.result ≡ plane (effect a) =
    at-effects.effects-d.ensures
    ∙ ap (λ (c : List ℕ). plane (λ x. bit_xor (get_or c ((x + 4) % 5) 0) (rotate 1 (get_or c ((x + 1) % 5) 0)))) at-effects.parities.ensures in
    planes-same at-0.xor_planes-p0.ensures c.xor_planes-p1.ensures at-2.xor_planes-p2.ensures at-3.xor_planes-p3.ensures at-4.xor_planes-p4.ensures
    ∙ ap (λ (d : List ℕ). state (λ x y. bit_xor (lane a x y) (get_or d x 0))) d
