use mathlib.Core.Path.{sym, ◌∙◌}
use Rattle.std.proofs.Common.{rules}
use Rattle.answers.proofs.AnswerLaws.{given-done, given-refused}
use Rattle.calls.specs.Calls.{seeded_keygen_answer, new_seeded_key, new_secret_key, seeded_keygen_public, seeded_keygen_secret}
use Rattle.seeded_keygen.proofs.keygen_from_seed.Goals as goal

pub returns-then-not-fits : goal.returns-then-not-fits
unfolding seeded_keygen_answer seeded_keygen_public seeded_keygen_secret
returns-then-not-fits c = record { value = search rules; public_after = search rules; secret_after = search rules }

pub returns-in_err-key : goal.returns-in_err-key
unfolding seeded_keygen_answer seeded_keygen_public seeded_keygen_secret
returns-in_err-key c =
    let h = given-refused _ (sym c.in_err-key.was ∙ c.generate.ensures) in
    record { value = search (rules, h); public_after = search (rules, h); secret_after = search (rules, h) }

pub returns : goal.returns
unfolding seeded_keygen_answer new_seeded_key new_secret_key seeded_keygen_public seeded_keygen_secret
returns c =
    let h = given-done (sym c.in_ok-key.was ∙ c.generate.ensures) in
    record { value = search (rules, h.0); public_after = search (rules, h.0, h.1); secret_after = search (rules, h.0, h.1) }
