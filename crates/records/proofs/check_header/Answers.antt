use mathlib.Core.Path.{sym, ap, ◌∙◌}
use mathlib.Core.Bool.{true, false}
use Prim.Native.Nat.{ℕ}
use lib.Dec.{eqb}
use borrow.Author.Tests.{eq-eqb, ne_eqb}
use Rattle.encoding.specs.Header.{has_mark}
use Rattle.records.proofs.Checks.{wrong_mark, wrong_version, header-done}
use Rattle.records.proofs.check_header.Goals as goal

pub returns-then-not-has_mark : goal.returns-then-not-has_mark
returns-then-not-has_mark c =
    let at = c in
    let args = at.args in
    wrong_mark args.mark args.version args.bytes.now (sym at.has_mark.ensures ∙ c.if-not-has_mark.true)

pub returns-then-version : goal.returns-then-version
returns-then-version c =
    let at = c in
    let args = at.args in
    wrong_version args.mark args.version args.bytes.now
    (sym at.has_mark.ensures ∙ c.if-not-has_mark.false)
    (ap (λ (v : ℕ). eqb v args.version) (sym c.version.ensures) ∙ ne_eqb c.version.result args.version c.if-version.true)

pub returns : goal.returns
returns c =
    let at = c in
    let args = at.args in
    header-done args.mark args.version args.bytes.now
    (sym at.has_mark.ensures ∙ c.if-not-has_mark.false)
    (ap (λ (v : ℕ). eqb v args.version) (sym c.version.ensures) ∙ eq-eqb c.version.result args.version c.if-version.false)
