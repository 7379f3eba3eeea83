use mathlib.Core.Path.{sym, ◌∙◌}
use Prim.Native.Nat.{◌<◌, ◌^◌}
use native.Mathlib.Omega.{arith}
use Rattle.gf128.proofs.Digits.{bytes_eight, bytes-append, put_halves}
use Rattle.gf128.proofs.store.Goals as goal

pub returns : goal.returns
returns c =
    let e = c.args.e in
    let h : e.lo < 2 ^ 64 = omega arith in
    put_halves e.lo e.hi _ _
    (c.copy_from_slice.ensures.after ∙ c.to_le_bytes.ensures ∙ bytes_eight e.lo)
    (c.copy_from_slice-2.ensures.after ∙ c.to_le_bytes-2.ensures ∙ bytes_eight e.hi)
    ∙ sym (bytes-append 8 8 e.hi e.lo h)
