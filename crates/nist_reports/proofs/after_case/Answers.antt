use mathlib.Core.Path.{◌≡◌, ap, ◌∙◌}
use mathlib.Core.List.{List}
use Prim.Native.Nat.{ℕ}
use Rattle.response_files.specs.Lines.{after_line}
use Rattle.nist_reports.specs.Reports.{after_lines}
use Rattle.nist_reports.proofs.after_case.Goals as goal

third : (text : List ℕ) {a b rest : List ℕ} → rest ≡ after_line b → b ≡ after_line a → a ≡ after_line text → rest ≡ after_line (after_line (after_line text))
third text e d f = e ∙ ap after_line (d ∙ ap after_line f)

pub returns-in-Length : goal.returns-in-Length
unfolding after_lines
returns-in-Length c = rw c.in-Length.is (third c.args.text.now c.after_line-rest.ensures c.after_line-third.ensures c.after_line-second.ensures)

pub returns-in-Output : goal.returns-in-Output
unfolding after_lines
returns-in-Output c = rw c.in-Output.is (c.after_line.ensures ∙ ap after_line (third c.args.text.now c.after_line-rest.ensures c.after_line-third.ensures c.after_line-second.ensures))

pub returns-in-Monte : goal.returns-in-Monte
unfolding after_lines
returns-in-Monte c = rw c.in-Monte.is (third c.args.text.now c.after_line-rest.ensures c.after_line-third.ensures c.after_line-second.ensures)
