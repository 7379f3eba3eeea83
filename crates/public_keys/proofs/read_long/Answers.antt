use mathlib.Core.Path.{◌≡◌, sym, ◌∙◌}
use mathlib.Core.Bool.{false}
use mathlib.Core.List.{List}
use Prim.Native.Nat.{ℕ}
use native.Mathlib.Omega.{arith}
use lib.ListN.{length}
use borrow.Author.Tests.{ne_eqb}
use Rattle.std.proofs.Common.{rules}
use Rattle.answers.proofs.AnswerLaws.{given-done, given-refused}
use Rattle.records.specs.Layout.{public_key_length, seeded_key_length}
use Rattle.records.specs.Records.{record_answer, elements_answer, words_answer}
use Rattle.public_keys.specs.PublicKeys.{is_seeded_key, public_a, public_b, public_record_answer, public_stream_answer}
use Rattle.public_keys.proofs.read_long.Goals as goal

-- the length picks the record
long : (k : List ℕ) → length k ≡ public_key_length → is_seeded_key k ≡ false
long k size = ne_eqb (length k) seeded_key_length (λ e. omega arith)

pub returns-in_err-read : goal.returns-in_err-read
unfolding public_record_answer record_answer
returns-in_err-read c =
    let h = given-refused _ (sym c.in_err-read.was ∙ c.read_record.ensures) in
    search (rules, long _ c.requires, h)

pub returns-in_err-front_answer : goal.returns-in_err-front_answer
unfolding public_record_answer record_answer elements_answer words_answer
returns-in_err-front_answer c =
    let h = given-done (sym c.in_ok-read.was ∙ c.read_record.ensures) in
    search (rules, long _ c.requires, h.0, h.1)

pub returns : goal.returns
unfolding public_record_answer public_stream_answer public_a public_b record_answer elements_answer words_answer
returns c =
    let h = given-done (sym c.in_ok-read.was ∙ c.read_record.ensures) in
    search (rules, long _ c.requires, h.0, h.1)
