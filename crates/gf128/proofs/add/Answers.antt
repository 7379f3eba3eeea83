use mathlib.Core.Path.{sym}
use Prim.Native.Nat.{◌<◌, ◌^◌}
use native.Mathlib.Omega.{arith}
use lib.Bits.{xor_block}
use Rattle.gf128.proofs.add.Goals as goal

pub returns : goal.returns
returns c =
    let a = c.args.a in
    let b = c.args.b in
    let la : a.lo < 2 ^ 64 = omega arith in
    let lb : b.lo < 2 ^ 64 = omega arith in
    sym (xor_block 64 a.hi b.hi a.lo b.lo la lb)
