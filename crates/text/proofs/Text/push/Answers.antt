use Rattle.std.proofs.Common.{arith, ◌∙◌, ap, length, take, length-take-le, ◌+◌, ◌≤◌, ◌≡◌, ◌++◌, List, ℕ}
use Rattle.std.proofs.lemmas.Slice.{take-put_mid}
use Rattle.text.proofs.Texts.{pushed, put-length, zeros_behind}
use Rattle.text.proofs.Text.push.Goals as goal

pub returns : goal.returns
returns g c =
    let bytes : List ℕ = c.self.inside.bytes in
    let len : ℕ = c.self.inside.len in
    let n : ℕ = c.min-n.result in
    let s : List ℕ = c.args.s.now in
    let front : length (take len bytes) ≡ len = length-take-le len bytes c.self.invariant.0 in
    let size : length (take n s) ≡ n = length-take-le n s (omega (arith, c.min-n.ensures)) in
    let more : n ≡ length c.copy_from_slice.new.self = omega (arith, size, ap length c.copy_from_slice.ensures.after) in
    rw (← c.self.view_is)
    (take-put_mid len _ bytes c.copy_from_slice.new.self (len + n) (omega (arith, more)) c.self.invariant.0
    ∙ ap (λ (l : List ℕ). take len bytes ++ l) c.copy_from_slice.ensures.after
    ∙ pushed g.row.N (take len bytes) s (omega (arith, front, c.self.invariant.0, c.self.invariant.1)) (omega (arith, front, c.min-n.ensures)))

-- behind what was pushed stand the zeros that stood there before
pub invariant_of-self : goal.invariant_of-self
invariant_of-self g c =
    let bytes : List ℕ = c.self.inside.bytes in
    let len : ℕ = c.self.inside.len in
    let n : ℕ = c.min-n.result in
    let s : List ℕ = c.args.s.now in
    let room : len + n ≤ length bytes = omega (arith, c.self.invariant.0, c.self.invariant.1, c.min-n.ensures) in
    let size : length (take n s) ≡ n = length-take-le n s (omega (arith, c.min-n.ensures)) in
    let more : length c.copy_from_slice.new.self ≡ n = omega (arith, size, ap length c.copy_from_slice.ensures.after) in
    let whole = put-length len n bytes c.copy_from_slice.new.self room more in
    (omega (arith, whole, room), whole ∙ c.self.invariant.1, zeros_behind g.row.N len n bytes c.copy_from_slice.new.self c.self.invariant.0 more c.self.invariant.2)
