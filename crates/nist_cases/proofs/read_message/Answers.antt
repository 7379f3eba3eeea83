use mathlib.Core.Path.{refl, ap, ◌∙◌}
use borrow.Author.Tests.{eq-eqb, ne_eqb}
use Rattle.response_files.specs.Lines.{same}
use Rattle.nist_cases.specs.Cases.{is_message}
use Rattle.nist_cases.proofs.read_message.Goals as goal

pub returns-then-bytes-eq0 : goal.returns-then-bytes-eq0
unfolding is_message
returns-then-bytes-eq0 c = rw (eq-eqb _ 0 c.if-bytes-eq0.true) (record { value = c.eq.ensures ∙ ap (same c.args.digits.now) c.as_slice.ensures; out_after = refl })

pub returns : goal.returns
unfolding is_message
returns c =
    let read = c in
    rw (ne_eqb _ 0 read.if-bytes-eq0.false) (record { value = read.read_hex.ensures.value; out_after = read.read_hex.ensures.out_after })
