-- What functions of src/lib.rt answer, over the bytes of a key of any length and of other records with the right lengths.
use Rattle.std.specs.Prelude.{Bool, ◌&&◌, List, ℕ, eqb, leb, ℤ, length}
use Rattle.ring.specs.Centred.{quotients}
use Rattle.scheme.specs.Scheme.{Outcome, step2}
use Rattle.answers.specs.declared.Refusal.TheVariants.{WrongLength}
use Rattle.records.specs.Layout.{header_length, sealed_entry_length, block_length}
use Rattle.records.specs.Records.{first_of, second_of, c1_of, c2_of, encapsulation_answer, sealed_entry_answer}
use Rattle.sealed_records.specs.Front.{sealed_front_answer}
use Rattle.triples.specs.Triple.{triple_of, triple_answer}
use Rattle.secret_keys.specs.SecretKeys.{secret_answer, elements_of}
use Rattle.keys.specs.Keys.{triple_noise_length, noise_triple}
use Rattle.calls.specs.Calls.{outcome, opened_answer}
use Rattle.recovery.specs.Outcomes.{decapsulated_by, opened_by}
use Rattle.answers.specs.Answers.{unless, and_then, Answer}
use Rattle.opening.specs.declared.OpenedSealed.{OpenedSealed}

abbrev pub decapsulated_outcome : (key encapsulation dummy : List ℕ) → Outcome
decapsulated_outcome k c d = outcome (elements_of k) (triple_of d) (c1_of c) (c2_of c)

abbrev pub decapsulated_answer : (key encapsulation dummy : List ℕ) → Answer
decapsulated_answer k c d = decapsulated_by (secret_answer k) (encapsulation_answer c) (triple_answer d) (decapsulated_outcome k c d)

-- of a sealed entry or a batch
abbrev pub opened_outcome : (key sealed noise : List ℕ) → Outcome
opened_outcome k sealed noise = outcome (elements_of k) (noise_triple noise) (first_of sealed) (second_of sealed)

-- w of step 3 beside it
abbrev pub opened_quotients : (key sealed noise : List ℕ) → List ℤ
opened_quotients k sealed noise =
    quotients (step2 (elements_of k).a (elements_of k).b (elements_of k).s (noise_triple noise) (first_of sealed) (second_of sealed))

-- what is said of key and record before an opening: all that is no 9 and no 10
abbrev pub read_answer : (key sealed : List ℕ) (version : ℕ) (between : Answer) → Answer
read_answer k sealed version between = and_then (secret_answer k) (sealed_front_answer version between sealed)

-- .. and of all of it, 9 and 10 behind
abbrev pub sealed_answer : (key sealed : List ℕ) (version : ℕ) (between : Answer) (noise blocks tag : List ℕ) → Answer
sealed_answer k sealed version between noise blocks tag =
    opened_by (secret_answer k) (sealed_front_answer version between sealed) (opened_outcome k sealed noise) blocks tag

-- what is given of a key and a record that were read: 9, 10 or done, and w beside each
abbrev pub opened_with : (o : Outcome) (blocks tag : List ℕ) (w : List ℤ) → OpenedSealed
opened_with o blocks tag w = record { answer = opened_answer o blocks tag; quotients = w }

-- ---- a sealed entry and what is lent with it, of all lengths

-- the lengths that `open_answer` asks for
abbrev pub entry_fits : (key sealed noise : List ℕ) (room : ℕ) → Bool
entry_fits k sealed noise room =
    leb header_length (length k) && eqb (length sealed) sealed_entry_length && eqb (length noise) triple_noise_length && eqb room block_length

-- what is said before an opening
abbrev pub entry_read_answer : (key sealed noise : List ℕ) (room : ℕ) → Answer
entry_read_answer k sealed noise room =
    unless (entry_fits k sealed noise room) WrongLength (and_then (secret_answer k) (sealed_entry_answer sealed))
