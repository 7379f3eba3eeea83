use mathlib.Core.Path.{◌≡◌, sym, ap, ◌∙◌}
use Prim.Native.Nat.{ℕ, ◌+◌, ◌-◌, ◌<◌, ◌^◌}
use native.Mathlib.Omega.{arith}
use Rattle.lists.specs.Bits.{bit}
use Rattle.lists.proofs.Bits.{bit_below, bit-above}
use Rattle.gf128.specs.Words.{value}
use Rattle.gf128.proofs.coefficient.Goals as goal

pub returns-then-i-lt64 : goal.returns-then-i-lt64
returns-then-i-lt64 c =
    let args = c.args in
    sym (bit_below 64 args.i args.e.hi args.e.lo c.if-i-lt64.true)

pub returns-else-i-lt64 : goal.returns-else-i-lt64
returns-else-i-lt64 c =
    let args = c.args in
    let small : args.e.lo < 2 ^ 64 = omega arith in
    let place : 64 + (args.i - 64) ≡ args.i = omega arith in
    sym (bit-above 64 (args.i - 64) args.e.hi args.e.lo small) ∙ ap (λ (k : ℕ). bit k (value args.e)) place
