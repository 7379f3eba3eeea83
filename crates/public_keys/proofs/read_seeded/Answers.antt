use mathlib.Core.Path.{◌≡◌, sym, ◌∙◌}
use mathlib.Core.Bool.{true}
use mathlib.Core.List.{List}
use Prim.Native.Nat.{ℕ}
use lib.ListN.{length}
use borrow.Author.Tests.{eq-eqb}
use Rattle.std.proofs.Common.{rules}
use Rattle.answers.proofs.AnswerLaws.{given-done, given-refused}
use Rattle.records.specs.Layout.{seeded_key_length}
use Rattle.public_keys.specs.PublicKeys.{is_seeded_key, public_a, public_b, public_record_answer, public_stream_answer}
use Rattle.public_keys.proofs.read_seeded.Goals as goal

-- the length picks the record
seeded : (k : List ℕ) → length k ≡ seeded_key_length → is_seeded_key k ≡ true
seeded k size = eq-eqb (length k) seeded_key_length size

pub returns-in_err-b : goal.returns-in_err-b
unfolding public_record_answer
returns-in_err-b c =
    let h = given-refused _ (sym c.in_err-b.was ∙ c.read_seeded_key.ensures) in
    search (rules, seeded _ c.requires, h)

pub returns-in_err-unless : goal.returns-in_err-unless
unfolding public_record_answer public_stream_answer
returns-in_err-unless c =
    let h = given-done (sym c.in_ok-b.was ∙ c.read_seeded_key.ensures) in
    search (rules, seeded _ c.requires, h.0, h.1)

pub returns : goal.returns
unfolding public_record_answer public_stream_answer public_a public_b
returns c =
    let h = given-done (sym c.in_ok-b.was ∙ c.read_seeded_key.ensures) in
    search (rules, seeded _ c.requires, h.0, h.1)
