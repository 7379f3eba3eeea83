use mathlib.Core.Path.{◌≡◌, refl}
use Prim.Native.Nat.{◌+◌, ◌*◌}
use native.Mathlib.Omega.{arith}
use Rattle.ring.specs.Ring.{q, n}
use Rattle.sampling.proofs.Streams.{stream-words}
use Rattle.sampling.proofs.Reading.{read_none, read_pass, read_take, read-full, read_all}
use Rattle.sampling.proofs.uniform.Goals as goal
use Rattle.sampling.proofs.uniform.Goals.{then-w-lt-Q+else-count-eq-DEGREE, else-w-lt-Q}

pub blocks-2-init : goal.blocks-2-init
blocks-2-init c = (omega arith, omega arith, read_none q n _ _ refl)

pub loop-j-init : goal.loop-j-init
loop-j-init c =
    let at = c.blocks-2 in
    let start : 84 * at.k + 0 ≡ 84 * at.k = omega arith in
    (omega arith, c.blocks-2-test.true, at.invariant.1, rw start at.invariant.2)

pub loop-j-preserved : goal.loop-j-preserved
loop-j-preserved c =
    let at = c in
    let (_, block, room, inv) = at.loop-j.invariant in
    let k = at.blocks-2.k in
    let next : 84 * k + (at.loop-j.j + 1) ≡ 84 * k + at.loop-j.j + 1 = omega arith in
    let word = c.word-w.ensures in
    elim c.if-w-lt-Q.branch [
      | then-w-lt-Q+else-count-eq-DEGREE w ↦ (
        omega arith,
        block,
        omega (arith, w.if-count-eq-DEGREE.false, w.count-is),
        rw (next, w.value-is, w.count-is) (read_take _ inv (omega arith) (omega arith) word w.if-w-lt-Q.true room),
      )
      | else-w-lt-Q w ↦
          (omega arith, block, omega (arith, w.count-is), rw (next, w.value-is, w.count-is) (read_pass _ inv (omega arith) (omega arith) word w.if-w-lt-Q.false))
    ]

pub blocks-2-preserved : goal.blocks-2-preserved
blocks-2-preserved c =
    let (most, block, room, inv) = c.loop-j.invariant in
    let k = c.blocks-2.k in
    let next : 84 * (k + 1) ≡ 84 * k + c.loop-j.j = omega arith in
    (omega arith, room, rw next inv)

pub returns-after-blocks-2 : goal.returns-after-blocks-2
returns-after-blocks-2 c =
    let stream = c.args.stream.now in
    read_all c.blocks-2.invariant.2 (omega (arith, stream-words stream))

pub returns-then-at-stream : goal.returns-then-at-stream
returns-then-at-stream c =
    let at = c in
    let stream = at.args.stream.now in
    read_all at.loop-j.invariant.3 (omega (arith, stream-words stream))

pub returns-then-count-eq-DEGREE : goal.returns-then-count-eq-DEGREE
returns-then-count-eq-DEGREE c =
    let at = c in
    let (_, block, room, inv) = at.loop-j.invariant in
    read-full (read_take _ inv (omega arith) (omega arith) c.word-w.ensures c.if-w-lt-Q.true room) c.if-count-eq-DEGREE.true
