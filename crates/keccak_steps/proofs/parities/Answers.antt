use mathlib.Core.Path.{ap, ◌∙◌}
use mathlib.Core.List.{List}
use Prim.Native.Nat.{ℕ}
use lib.Bits.{bit_xor}
use lib.ListN.{get_or}
use Rattle.keccak_steps.specs.Steps.{lane, plane}
use Rattle.keccak_steps.proofs.parities.Goals as goal

pub returns : goal.returns
returns c =
    let at-3 = c in
    let at-2 = at-3 in
    let at_1 = at-2 in
    let a = at_1.args.a in
    let with-plane : (y : ℕ) → List ℕ → List ℕ = λ y p. plane (λ x. bit_xor (get_or p x 0) (lane a x y)) in
    c.xor_planes-4.ensures
    ∙ ap (with-plane 4) (at-3.xor_planes-3.ensures ∙ ap (with-plane 3) (at-2.xor_planes-2.ensures ∙ ap (with-plane 2) at_1.xor_planes.ensures))
