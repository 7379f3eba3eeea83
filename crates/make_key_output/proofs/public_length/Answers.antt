use mathlib.Core.Path.{sym}
use lib.ListN.{length}
use borrow.Author.Tests.{ne_eqb}
use Rattle.make_key_output.proofs.Keys.{seeded_length, long_length}
use Rattle.make_key_output.proofs.public_length.Goals as goal

pub returns-then-input-eq-SEEDED_INPUT_LENGTH : goal.returns-then-input-eq-SEEDED_INPUT_LENGTH
returns-then-input-eq-SEEDED_INPUT_LENGTH c = sym (seeded_length c.args.input.now c.if-input-eq-SEEDED_INPUT_LENGTH.true)

pub returns : goal.returns
returns c =
    let input = c.args.input.now in
    sym (long_length input (ne_eqb (length input) 1056 c.if-input-eq-SEEDED_INPUT_LENGTH.false))
