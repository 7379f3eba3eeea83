use mathlib.Core.Path.{sym}
use native.Mathlib.Omega.{arith}
use Rattle.string_to_state.proofs.Lanes.{word_past}
use Rattle.string_to_state.proofs.word.Goals as goal

pub returns-then-at-b : goal.returns-then-at-b
returns-then-at-b c = sym (word_past c.args.b.now c.args.k c.if-at-b.true)

pub word64_at-requires : goal.word64_at-requires
word64_at-requires c = omega (arith, c.requires.0, c.if-at-b.false)
