use mathlib.Core.Path.{sym, ap, ◌∙◌}
use Rattle.std.proofs.Common.{rules}
use Rattle.ntt.proofs.Factors.{forward-size, backward-size}
use Rattle.answers.proofs.AnswerLaws.{given-done, given-refused}
use Rattle.opening.proofs.Laws.{read_sized, outcome_by_lem, quotients_by_lem}
use Rattle.opening.proofs.recover_sealed.Goals as goal

pub slice_bounds-read_secret_key-end : goal.slice_bounds-read_secret_key-end
slice_bounds-read_secret_key-end c = forward-size c.forward_factors.ensures

pub slice_bounds-read_secret_key-end-2 : goal.slice_bounds-read_secret_key-end-2
slice_bounds-read_secret_key-end-2 c = backward-size c.backward_factors.ensures

pub read_block-t-requires : goal.read_block-t-requires
read_block-t-requires c = c.requires.3

pub slice_bounds-recover-end : goal.slice_bounds-recover-end
slice_bounds-recover-end c = forward-size c.forward_factors.ensures

pub slice_bounds-recover-end-2 : goal.slice_bounds-recover-end-2
slice_bounds-recover-end-2 c = backward-size c.backward_factors.ensures

pub recover-requires : goal.recover-requires
recover-requires c = (c.requires.2, c.forward_factors.ensures, c.backward_factors.ensures)

pub returns-in_err-k : goal.returns-in_err-k
returns-in_err-k c =
    let refused = given-refused _ (sym c.in_err-k.was ∙ c.read_secret_key.ensures) in
    search (rules, refused)

pub returns-in_err-c : goal.returns-in_err-c
returns-in_err-c c =
    let key = given-done (sym c.in_ok-k.was ∙ c.read_secret_key.ensures) in
    let refused = given-refused _ (sym c.in_err-c.was ∙ c.read_sealed.ensures) in
    search (rules, key.0, refused)

pub returns : goal.returns
returns c =
    let key = given-done (sym c.in_ok-k.was ∙ c.read_secret_key.ensures) in
    let front = given-done (sym c.in_ok-c.was ∙ c.read_sealed.ensures) in
    let sized = read_sized c.args.key.now in
    let o = outcome_by_lem sized key.1 c.noise_triple-dummy.ensures front.1 in
    let w = quotients_by_lem sized key.1 c.noise_triple-dummy.ensures front.1 in
    search (rules, key.0, front.0, o, w)
