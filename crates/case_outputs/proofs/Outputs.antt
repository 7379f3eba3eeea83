-- The output of a case in its buffer.
use mathlib.Core.Path.{◌≡◌, sym, ap, ◌∙◌}
use mathlib.Core.List.{List}
use Prim.Native.Nat.{ℕ, ◌-◌, ◌≤◌}
use native.Mathlib.Nat.{sub-zero}
use native.Mathlib.Omega.{arith}
use lib.ListN.{length, replicate, take, drop}
use Rattle.lists.specs.Table.{zeros}
use Rattle.lists.proofs.Zeros.{size-zeros}
use Rattle.lists.proofs.Parts.{length_part}
use Rattle.case_outputs.specs.Outputs.{room, filler, filled, output}

room_within : (i : ℕ) (text : List ℕ) → room i text ≤ 65536
unfolding room
room_within i text = omega arith

-- the front of an output buffer, filled, is the output
pub filled-output : (i : ℕ) (text : List ℕ) {buffer : List ℕ} {size : ℕ} → size ≡ room i text → buffer ≡ zeros 65536
    → filled (take (size - 0) (drop 0 buffer)) ≡ output i text
unfolding output
filled-output i text {buffer} {size} e z =
    let within : size ≤ length buffer = omega (arith, e, room_within i text, ap length z ∙ sym (size-zeros 65536)) in
    ap (λ (k : ℕ). replicate k filler) (length_part 0 size buffer within ∙ sub-zero size ∙ e)
