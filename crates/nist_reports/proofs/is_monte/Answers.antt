use mathlib.Core.Path.{sym, ap, ◌∙◌}
use borrow.Author.Tests.{eq-eqb, ne_eqb}
use Rattle.response_files.specs.Fields.{is_hex}
use Rattle.nist_reports.specs.Reports.{is_monte}
use Rattle.nist_reports.proofs.is_monte.Goals as goal

pub returns-then-header_number-least_size : goal.returns-then-header_number-least_size
unfolding is_monte
returns-then-header_number-least_size c =
    rw (ne_eqb _ _ (λ e. c.if-header_number-least_size.true (c.header_number.ensures ∙ e ∙ sym c.least_size.ensures)))

pub returns-then-header_number-greatest_size : goal.returns-then-header_number-greatest_size
unfolding is_monte
returns-then-header_number-greatest_size c =
    rw (
      eq-eqb _ _ (sym c.header_number.ensures ∙ c.if-header_number-least_size.false ∙ c.least_size.ensures),
      ne_eqb _ _ (λ e. c.if-header_number-greatest_size.true (c.header_number-2.ensures ∙ e ∙ sym c.greatest_size.ensures)),
    )

pub returns : goal.returns
unfolding is_monte
returns c =
    let second = c in
    let greatest = sym second.header_number-2.ensures ∙ second.if-header_number-greatest_size.false ∙ second.greatest_size.ensures in
    rw (eq-eqb _ _ (sym c.header_number.ensures ∙ c.if-header_number-least_size.false ∙ c.least_size.ensures), eq-eqb _ _ greatest)
    (c.read_hex.ensures.value ∙ ap (is_hex 16 16) c.value.ensures)
