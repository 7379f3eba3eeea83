use Prim.Native.Nat.{◌<◌, ◌^◌}
use native.Mathlib.Omega.{arith}
use Rattle.gf128.proofs.TwoWords.{times_x-words, carry-fits}
use Rattle.gf128.proofs.times_x.Goals as goal

pub overflow_add-result : goal.overflow_add-result
overflow_add-result c =
    let e = c.args.e in
    let hl : e.lo < 2 ^ 64 = omega arith in
    record { fits = carry-fits e.hi e.lo hl }

pub returns : goal.returns
returns c =
    let e = c.args.e in
    let hh : e.hi < 2 ^ 64 = omega arith in
    let hl : e.lo < 2 ^ 64 = omega arith in
    times_x-words e.hi e.lo hh hl
