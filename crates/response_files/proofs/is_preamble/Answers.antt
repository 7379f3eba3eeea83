use mathlib.Core.Path.{sym, ap, ◌∙◌}
use Rattle.response_files.specs.Headers.{is_remark, is_preamble}
use Rattle.response_files.proofs.is_preamble.Goals as goal

pub returns-then-is_blank : goal.returns-then-is_blank
unfolding is_preamble
returns-then-is_blank c = rw (c.if-is_blank.true, sym c.is_blank.ensures ∙ c.if-is_blank.true)

pub returns-else-is_blank : goal.returns-else-is_blank
unfolding is_preamble
returns-else-is_blank c =
    rw (sym c.is_blank.ensures ∙ c.if-is_blank.false)
    (c.is_remark.ensures ∙ ap is_remark c.first_line.ensures)
