use mathlib.Core.Path.{sym, ◌∙◌}
use native.Mathlib.Omega.{arith}
use Rattle.response_files.proofs.Lines.{after-within}
use Rattle.response_files.proofs.Headers.{preamble-some, number_more, number-here}
use Rattle.response_files.proofs.header_number.Goals as goal

pub loop-rest-smaller : goal.loop-rest-smaller
loop-rest-smaller c =
    let tested = c in
    let rest = tested.loop-rest.rest.now in
    rw c.after_line-rest.ensures (omega (arith, after-within rest, preamble-some rest (sym tested.is_preamble.ensures ∙ c.loop-rest-test.true)))

pub loop-rest-preserved : goal.loop-rest-preserved
loop-rest-preserved c =
    let tested = c in
    let rest = tested.loop-rest.rest.now in
    let name = tested.args.name.now in
    let more = number_more rest (sym tested.is_preamble.ensures ∙ c.loop-rest-test.true) name tested.loop-rest.number in
    rw (c.after_line-rest.ensures, c.unwrap_or-number.ensures, c.length_header.ensures) (sym more ∙ tested.loop-rest.invariant)

pub returns : goal.returns
returns c =
    let at-loop = c in
    let e = sym c.is_preamble.ensures ∙ c.loop-rest-test.false in
    sym (number-here at-loop.loop-rest.rest.now e at-loop.args.name.now at-loop.loop-rest.number) ∙ at-loop.loop-rest.invariant
