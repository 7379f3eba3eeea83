use mathlib.Core.Path.{◌≡◌, sym, ap, ◌∙◌}
use Rattle.std.specs.Prelude.{Err}
use mathlib.Core.Bool.{Bool, true, false, ◌&&◌}
use lib.Dec.{eqb, leb}
use lib.ListN.{length}
use Rattle.answers.specs.declared.Refusal.TheVariants.{WrongLength}
use Rattle.answers.specs.Answers.{number, unless, on_done, Answer}
use Rattle.triples.specs.Triple.{triple_bytes}
use Rattle.records.specs.Records.{encapsulation_answer}
use Rattle.triples.specs.Triple.{triple_answer}
use Rattle.secret_keys.specs.SecretKeys.{secret_answer}
use Rattle.calls.specs.Calls.{outcome_bytes, decapsulate_answer, decapsulate_out}
use Rattle.opening.specs.Parts.{decapsulated_outcome, decapsulated_answer}
use Rattle.calls.proofs.Lengths.{decapsulate-fits}
use Rattle.answers.proofs.AnswerLaws.{given-done, given-refused, on_done_lem}
use Rattle.std.proofs.lemmas.Result.{err_from_is_err_and}
use Rattle.encoding.proofs.Buffers.{put-exact}
use Rattle.triples.proofs.Triples.{length-triple_bytes}
use Rattle.scheme.specs.declared.Triple as Declared
use Rattle.opening.proofs.Laws.{triple-written}
use Rattle.calls.proofs.Promised.{decapsulate_promise}
use Rattle.opening.proofs.decapsulate.Goals as goal

pub returns-then-not-fits : goal.returns-then-not-fits
unfolding decapsulate_answer decapsulate_out
returns-then-not-fits c =
    let args = c.args in
    let k = args.key.now in
    let e = args.encapsulation.now in
    let d = args.dummy.now in
    let old = args.out.now in
    let misfit : leb 5 (length k) && eqb (length e) 4096 && eqb (length d) 768 && eqb (length old) 768 ≡ false = c.if-not-fits.true in
    let answer = sym (ap (λ (b : Bool). unless b WrongLength (decapsulated_answer k e d)) misfit) in
    let kept = ap (λ (a : Answer). on_done a (outcome_bytes (decapsulated_outcome k e d)) old) answer in record { value = answer; out_after = kept; decapsulate_exact = decapsulate_promise k e d old (ap number answer) kept }

pub decapsulate_records-requires : goal.decapsulate_records-requires
decapsulate_records-requires c =
    let args = c.args in
    let (key, encapsulation, dummy, room) =
    (decapsulate-fits args.key.now args.encapsulation.now args.dummy.now (length args.out.now)).0 (c.if-not-fits.false) in
    (encapsulation, dummy)

pub returns-in_err-t : goal.returns-in_err-t
unfolding decapsulate_answer decapsulate_out
returns-in_err-t c =
    let args = c.args in
    let k = args.key.now in
    let e = args.encapsulation.now in
    let d = args.dummy.now in
    let old = args.out.now in
    let fits : leb 5 (length k) && eqb (length e) 4096 && eqb (length d) 768 && eqb (length old) 768 ≡ true = c.if-not-fits.false in
    let whole = sym (ap (λ (b : Bool). unless b WrongLength (decapsulated_answer k e d)) fits) in
    let p = err_from_is_err_and c.from_residual.result c.from_residual.ensures.1 in
    let refused = sym (given-refused _ (sym c.in_err-t.was ∙ c.decapsulate_records.ensures)) ∙ whole in
    let answer = p.1 ∙ ap Err p.2 ∙ refused in
    let kept = ap (λ (a : Answer). on_done a (outcome_bytes (decapsulated_outcome k e d)) old) refused in
    record { value = answer; out_after = kept; decapsulate_exact = decapsulate_promise k e d old (ap number answer) kept }

pub returns : goal.returns
unfolding decapsulate_answer decapsulate_out
returns c =
    let args = c.args in
    let k = args.key.now in
    let e = args.encapsulation.now in
    let d = args.dummy.now in
    let old = args.out.now in
    let fits : leb 5 (length k) && eqb (length e) 4096 && eqb (length d) 768 && eqb (length old) 768 ≡ true = c.if-not-fits.false in
    let (_, _, _, room) = (decapsulate-fits k e d (length old)).0 c.if-not-fits.false in
    let whole = sym (ap (λ (b : Bool). unless b WrongLength (decapsulated_answer k e d)) fits) in
    let o = decapsulated_outcome k e d in
    let found = given-done (sym c.in_ok-t.was ∙ c.decapsulate_records.ensures) in
    let t = c.in_ok-t.t in
    let answer = sym found.0 ∙ whole in
    let written = c.write_triple.ensures
    ∙ put-exact (triple_bytes t.r t.e1 t.e2) old (length-triple_bytes t.r t.e1 t.e2 ∙ sym room)
    ∙ ap (λ (t : Declared.Triple). triple_bytes t.r t.e1 t.e2) found.1
    ∙ triple-written (secret_answer k) (encapsulation_answer e) (triple_answer d) o found.0
    ∙ sym (on_done_lem (outcome_bytes o) old (sym answer)) in
    record { value = answer; out_after = written; decapsulate_exact = decapsulate_promise k e d old (ap number answer) written }
