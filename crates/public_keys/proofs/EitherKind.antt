-- A public key by its kind: what is read of a seeded one, and of one of any other length.
use mathlib.Core.Path.{◌≡◌, refl, ap, ◌∙◌}
use mathlib.Core.Bool.{Bool, true, false, cond}
use mathlib.Core.List.{List}
use Prim.Native.Nat.{ℕ}
use lib.ListN.{length}
use Rattle.ring.specs.Ring.{n}
use Rattle.encoding.proofs.Words.{length-element_of}
use Rattle.sampling.proofs.Streams.{uniform_element_lem}
use Rattle.seeds.specs.Seeds.{seed_stream, seed_element}
use Rattle.records.specs.Records.{first_of, second_of, public_front_answer, seed_of, seeded_b, seeded_record_answer}
use Rattle.public_keys.specs.PublicKeys.{stream_answer, is_seeded_key, public_a, public_b, public_record_answer, public_stream_answer}
use Rattle.answers.specs.Answers.{Done}

-- what a test picks
picked : {A : Type 0} {b b' : Bool} (x y : A) → b ≡ b' → cond b x y ≡ cond b' x y
picked x y e = ap (λ (b : Bool). cond b x y) e

module _ (k : List ℕ) (kind : is_seeded_key k ≡ true) where
  pub seeded-a : public_a k ≡ seed_element (seed_of k)
  unfolding public_a
  seeded-a = picked (seed_element (seed_of k)) (first_of k) kind

  pub seeded_b_lem : public_b k ≡ seeded_b k
  unfolding public_b
  seeded_b_lem = picked (seeded_b k) (second_of k) kind

  pub seeded-record : public_record_answer k ≡ seeded_record_answer k
  unfolding public_record_answer
  seeded-record = picked (seeded_record_answer k) (public_front_answer k) kind

  pub seeded-stream : public_stream_answer k ≡ stream_answer (seed_stream (seed_of k))
  unfolding public_stream_answer
  seeded-stream = picked (stream_answer (seed_stream (seed_of k))) Done kind

module _ (k : List ℕ) (kind : is_seeded_key k ≡ false) where
  pub long-a : public_a k ≡ first_of k
  unfolding public_a
  long-a = picked (seed_element (seed_of k)) (first_of k) kind

  pub long-b : public_b k ≡ second_of k
  unfolding public_b
  long-b = picked (seeded_b k) (second_of k) kind

  pub long-record : public_record_answer k ≡ public_front_answer k
  unfolding public_record_answer
  long-record = picked (seeded_record_answer k) (public_front_answer k) kind

  pub long-stream : public_stream_answer k ≡ Done
  unfolding public_stream_answer
  long-stream = picked (stream_answer (seed_stream (seed_of k))) Done kind

-- ---- a and b have 1,024 words

pub length-a : (k : List ℕ) → length (public_a k) ≡ n
length-a k = by_kind (is_seeded_key k) refl
  where
    by_kind : (b : Bool) → is_seeded_key k ≡ b → length (public_a k) ≡ n
    by_kind true kind = ap length (seeded-a k kind) ∙ (uniform_element_lem (seed_stream (seed_of k))).size
    by_kind false kind = ap length (long-a k kind) ∙ length-element_of _

pub length-b : (k : List ℕ) → length (public_b k) ≡ n
length-b k = by_kind (is_seeded_key k) refl
  where
    by_kind : (b : Bool) → is_seeded_key k ≡ b → length (public_b k) ≡ n
    by_kind true kind = ap length (seeded_b_lem k kind) ∙ length-element_of _
    by_kind false kind = ap length (long-b k kind) ∙ length-element_of _
