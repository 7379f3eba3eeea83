use mathlib.Core.Path.{sym, ap, ◌∙◌}
use Rattle.std.proofs.Common.{rules}
use Rattle.ntt.proofs.Factors.{forward-size, backward-size}
use Rattle.answers.proofs.AnswerLaws.{given-done, given-refused}
use Rattle.opening.proofs.Laws.{read_sized, outcome_by_lem}
use Rattle.opening.proofs.decapsulate_records.Goals as goal

pub slice_bounds-read_secret_key-end : goal.slice_bounds-read_secret_key-end
slice_bounds-read_secret_key-end c = forward-size c.forward_factors.ensures

pub slice_bounds-read_secret_key-end-2 : goal.slice_bounds-read_secret_key-end-2
slice_bounds-read_secret_key-end-2 c = backward-size c.backward_factors.ensures

pub slice_bounds-find_triple-end : goal.slice_bounds-find_triple-end
slice_bounds-find_triple-end c = forward-size c.forward_factors.ensures

pub slice_bounds-find_triple-end-2 : goal.slice_bounds-find_triple-end-2
slice_bounds-find_triple-end-2 c = backward-size c.backward_factors.ensures

pub returns-in_err-secret : goal.returns-in_err-secret
returns-in_err-secret c =
    let refused = given-refused _ (sym c.in_err-secret.was ∙ c.read_secret_key.ensures) in
    search (rules, refused)

pub returns-in_err-c : goal.returns-in_err-c
returns-in_err-c c =
    let key = given-done (sym c.in_ok-secret.was ∙ c.read_secret_key.ensures) in
    let refused = given-refused _ (sym c.in_err-c.was ∙ c.read_encapsulation.ensures) in
    search (rules, key.0, refused)

pub returns-in_err-check_triple : goal.returns-in_err-check_triple
returns-in_err-check_triple c =
    let key = given-done (sym c.in_ok-secret.was ∙ c.read_secret_key.ensures) in
    let words = given-done (sym c.in_ok-c.was ∙ c.read_encapsulation.ensures) in
    let refused = sym c.check_triple.ensures ∙ c.in_err-check_triple.was in
    search (rules, key.0, words.0, refused)

pub returns : goal.returns
returns c =
    let key = given-done (sym c.in_ok-secret.was ∙ c.read_secret_key.ensures) in
    let words = given-done (sym c.in_ok-c.was ∙ c.read_encapsulation.ensures) in
    let codes = sym c.check_triple.ensures ∙ c.in_ok-check_triple.was in
    let o = outcome_by_lem (read_sized c.args.key.now) key.1 c.read_triple-t.ensures words.1 in
    search (rules, key.0, words.0, codes, o)
