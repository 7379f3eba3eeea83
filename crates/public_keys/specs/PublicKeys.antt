-- A public key of either kind: document 01's record, "PDK", or document 02's, "PDS" (No. 2), which holds the seed of a. Its length picks the
-- record. Its a and b, and what its checks answer.
use Rattle.std.specs.Prelude.{Bool, cond, ◌||◌, List, ℕ, eqb, length}
use Rattle.std.proofs.Math.Bool.{decide}
use Rattle.ring.specs.Ring.{n}
use Rattle.ring.specs.Invertible.{is_invertible}
use Rattle.sampling.specs.Stream.{taken}
use Rattle.seeds.specs.Seeds.{seed_stream, seed_element}
use Rattle.answers.specs.declared.Refusal.TheVariants as Refusal
use Rattle.answers.specs.Answers.{unless, and_then, Answer, Done}
use Rattle.records.specs.Layout.{public_key_length, seeded_key_length}
use Rattle.records.specs.Records.{first_of, second_of, public_front_answer, seed_of, seeded_b, seeded_record_answer}

-- ---- checks that key generation shares

-- 8: a stream with fewer than 1,024 words below q
abbrev pub stream_answer : List ℕ → Answer
stream_answer stream = unless (eqb (length (taken stream)) n) Refusal.StreamExhausted Done

-- 6
abbrev pub inverse_answer : (b : List ℕ) → Answer
inverse_answer b = unless (decide (is_invertible b)) Refusal.NotInvertible Done

-- ---- either record

-- one of the two lengths; any other is 1
abbrev pub is_public_length : ℕ → Bool
is_public_length size = eqb size public_key_length || eqb size seeded_key_length

-- the length is that of "PDS"
abbrev pub is_seeded_key : List ℕ → Bool
is_seeded_key k = eqb (length k) seeded_key_length

unfoldable pub public_a : List ℕ → List ℕ
public_a k = cond (is_seeded_key k) (seed_element (seed_of k)) (first_of k)

unfoldable pub public_b : List ℕ → List ℕ
public_b k = cond (is_seeded_key k) (seeded_b k) (second_of k)

-- 2, 3, 4
unfoldable pub public_record_answer : List ℕ → Answer
public_record_answer k = cond (is_seeded_key k) (seeded_record_answer k) (public_front_answer k)

-- 8, of a seed
unfoldable pub public_stream_answer : List ℕ → Answer
public_stream_answer k = cond (is_seeded_key k) (stream_answer (seed_stream (seed_of k))) Done

-- 2, 3, 4, then 8, then 6
unfoldable pub public_answer : List ℕ → Answer
public_answer k = and_then (public_record_answer k) (and_then (public_stream_answer k) (inverse_answer (public_b k)))
