use mathlib.Core.Path.{sym, ◌∙◌}
use Rattle.std.proofs.Common.{rules}
use Rattle.ntt.proofs.Factors.{forward-size, backward-size}
use Rattle.answers.proofs.AnswerLaws.{given-done, given-refused}
use Rattle.public_keys.proofs.EitherKind.{length-a, length-b}
use Rattle.sealing.proofs.Laws.{encapsulated, noise_encapsulated}
use Rattle.sealing.proofs.encapsulate_noise.Goals as goal

pub slice_bounds-read_public_key-end : goal.slice_bounds-read_public_key-end
slice_bounds-read_public_key-end c = forward-size c.forward_factors.ensures

pub slice_bounds-encapsulate-end : goal.slice_bounds-encapsulate-end
slice_bounds-encapsulate-end c = forward-size c.forward_factors.ensures

pub slice_bounds-encapsulate-end-2 : goal.slice_bounds-encapsulate-end-2
slice_bounds-encapsulate-end-2 c = backward-size c.backward_factors.ensures

pub returns-in_err-k : goal.returns-in_err-k
returns-in_err-k c =
    let h = given-refused _ (sym c.in_err-k.was ∙ c.read_public_key.ensures) in
    search (rules, h)

pub returns : goal.returns
returns c =
    let key = c.args.key.now in
    let h = given-done (sym c.in_ok-k.was ∙ c.read_public_key.ensures) in
    let made = encapsulated _ _ (length-a key) (length-b key) h.1 c.noise_triple-t.ensures c.encapsulate-c.ensures.0 c.encapsulate-c.ensures.1 in
    let whole = noise_encapsulated _ _ (length-a key) (length-b key) h.1 c.noise_triple-t.ensures made in
    search (rules, h.0, whole)
