use mathlib.Core.Path.{sym, ◌∙◌}
use native.Mathlib.Omega.{arith}
use Rattle.response_files.proofs.Lines.{after-within}
use Rattle.response_files.proofs.Headers.{preamble-some, body_more, body-here}
use Rattle.response_files.proofs.body.Goals as goal

pub loop-rest-smaller : goal.loop-rest-smaller
loop-rest-smaller c =
    let rest = c.loop-rest.rest.now in
    rw c.after_line-rest.ensures (omega (arith, after-within rest, preamble-some rest (sym c.is_preamble.ensures ∙ c.loop-rest-test.true)))

pub loop-rest-preserved : goal.loop-rest-preserved
loop-rest-preserved c =
    let at-loop = c in
    let rest = at-loop.loop-rest.rest.now in
    rw c.after_line-rest.ensures
    (sym (body_more rest (sym c.is_preamble.ensures ∙ c.loop-rest-test.true)) ∙ at-loop.loop-rest.invariant)

pub returns : goal.returns
returns c = sym (body-here c.loop-rest.rest.now (sym c.is_preamble.ensures ∙ c.loop-rest-test.false)) ∙ c.loop-rest.invariant
