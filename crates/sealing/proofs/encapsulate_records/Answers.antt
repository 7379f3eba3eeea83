use mathlib.Core.Path.{sym, ◌∙◌}
use Rattle.std.proofs.Common.{rules}
use Rattle.ntt.proofs.Factors.{forward-size, backward-size}
use Rattle.answers.proofs.AnswerLaws.{given-done, given-refused}
use Rattle.public_keys.proofs.EitherKind.{length-a, length-b}
use Rattle.sealing.proofs.Laws.{encapsulated}
use Rattle.sealing.proofs.encapsulate_records.Goals as goal

pub slice_bounds-read_public_key-end : goal.slice_bounds-read_public_key-end
slice_bounds-read_public_key-end c = forward-size c.forward_factors.ensures

pub slice_bounds-encapsulate-end : goal.slice_bounds-encapsulate-end
slice_bounds-encapsulate-end c = forward-size c.forward_factors.ensures

pub slice_bounds-encapsulate-end-2 : goal.slice_bounds-encapsulate-end-2
slice_bounds-encapsulate-end-2 c = backward-size c.backward_factors.ensures

pub returns-in_err-k : goal.returns-in_err-k
returns-in_err-k c =
    let h = given-refused _ (sym c.in_err-k.was ∙ c.read_public_key.ensures) in
    search (rules, h)

pub returns-in_err-check_triple : goal.returns-in_err-check_triple
returns-in_err-check_triple c =
    let h = given-done (sym c.in_ok-k.was ∙ c.read_public_key.ensures) in
    search (rules, h.0)

pub returns : goal.returns
returns c =
    let key = c.args.key.now in
    let h = given-done (sym c.in_ok-k.was ∙ c.read_public_key.ensures) in
    let made = encapsulated _ _ (length-a key) (length-b key) h.1 c.read_triple-t.ensures c.encapsulate.ensures.0 c.encapsulate.ensures.1 in
    search (rules, h.0, made)
