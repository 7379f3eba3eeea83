use native.Mathlib.Nat.{mod-lt, div-le_self}
use Rattle.std.proofs.Common.{ℕ, ◌%◌, ◌<◌, arith}
use Rattle.modq.proofs.Reciprocals.{reciprocal-small-residue, reciprocal_step}
use Rattle.modq.proofs.+reciprocal.Goals as goal

pub returns-then-y-le1 : goal.returns-then-y-le1
returns-then-y-le1 t c = reciprocal-small-residue c.args.x c.if-y-le1.true

pub overflow_sub-y : goal.overflow_sub-y
overflow_sub-y t c = div-le_self 59393 _

pub reciprocal-requires : goal.reciprocal-requires
reciprocal-requires t c =
    let y : ℕ = c.args.x % 59393 in
    let less : 59393 % y < y = mod-lt 59393 (omega arith) in
    (omega (arith, less), tt)

pub returns : goal.returns
returns t c = reciprocal_step c.args.x _ _ c.if-y-le1.false c.reciprocal.ensures c.mul.ensures
