use native.Mathlib.Omega.{arith}
use Rattle.shake.proofs.Blocks.{padding-one, padding_more}
use Rattle.shake.proofs.Sponge.last_block.Goals as goal

pub returns-then-n : goal.returns-then-n
returns-then-n g c =
    let args = c.args in
    rw c.zero_filled-b.ensures (padding-one args.t.now g.row.RATE 200 (omega arith) (omega arith))

pub returns-else-n : goal.returns-else-n
returns-else-n g c =
    let args = c.args in
    rw c.zero_filled-b.ensures (padding_more args.t.now g.row.RATE 200 (omega arith) (omega arith))
