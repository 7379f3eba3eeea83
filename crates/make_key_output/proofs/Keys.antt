-- The keys by the input's length, and what their buffers hold.
use mathlib.Core.Path.{◌≡◌, refl, sym, ap, ap₂, ◌∙◌}
use mathlib.Core.Bool.{Bool, true, false}
use mathlib.Core.List.{List, ◌++◌}
use Prim.Native.Nat.{ℕ, ◌≤◌}
use native.Mathlib.Omega.{arith}
use lib.ListN.{length, take, drop, take-append-drop}
use lib.Seq.{take_all, length-take-le}
use borrow.Author.Tests.{eqb-true, ne_eqb}
use Rattle.seeds.specs.Seeds.{seed_stream}
use Rattle.answers.specs.declared.Refusal.TheVariants.{WrongLength}
use Rattle.answers.specs.Answers.{on_done, Answer}
use Rattle.records.specs.Layout.{public_key_mark}
use Rattle.records.specs.Records.{part}
use Rattle.records.proofs.Writing.{length-record_bytes}
use Rattle.records.proofs.WrittenRecords.{part_length, length_seeded}
use Rattle.calls.specs.Calls.{keygen_answer, new_public_key, new_secret_key, keygen_public, keygen_secret}
use Rattle.calls.specs.Calls.{seeded_keygen_answer, new_seeded_key, seeded_keygen_public, seeded_keygen_secret}
use Rattle.text.specs.Text.{written}
use Rattle.text.proofs.Texts.{written-fits, written_full}
use Rattle.make_key_output.specs.MakeKey.{is_seeded_key, make_key_answer, public_key, secret_key}
use Rattle.std.specs.Prelude.{Ok, Err}

-- ---- lengths of the public key

pub seeded_length : (input : List ℕ) → length input ≡ 1056 → length (public_key input) ≡ 2085
unfolding public_key new_seeded_key
seeded_length input size = rw size (length_seeded (part 0 32 input) _ (part_length 0 32 input (omega arith)))

pub long_length : (input : List ℕ) → is_seeded_key input ≡ false → length (public_key input) ≡ 4101
unfolding public_key new_public_key
long_length input kind = rw kind (length-record_bytes public_key_mark 1 _ _)

pub public-room : (input : List ℕ) → length (public_key input) ≤ 4101
public-room input = by (is_seeded_key input) refl
  where
    by : (kind : Bool) → is_seeded_key input ≡ kind → length (public_key input) ≤ 4101
    by true e = omega (arith, seeded_length input (eqb-true (length input) 1056 e))
    by false e = omega (arith, long_length input e)

-- ---- the public key's buffer

-- the key fills it
in_all : (a : Answer) (new old : List ℕ) → length new ≡ length old → on_done a new old ≡ on_done a (written new old) old
in_all a new old size = ap (λ (l : List ℕ). on_done a l old) (sym (written_full new old (omega arith) ∙ take_all (length old) new (omega arith)))

-- the key fills the first k bytes, which were lent
in_front_lem : (a : Answer) (new old : List ℕ) {k : ℕ} → length new ≡ k → k ≤ length old → on_done a new (take k old) ++ drop k old ≡ on_done a (written new old) old
in_front_lem (Ok _) new old size room = sym (written-fits new old (omega arith) ∙ rw size)
in_front_lem (Err r) new old {k} size room = take-append-drop k old

-- ---- an input with a stream: what key generation gives is what the definitions say

module _ (input : List ℕ) (size : length input ≡ 3712) where
  long-answer : keygen_answer (part 0 2688 input) (part 2688 512 input) (part 3200 512 input) 4101 4357 ≡ make_key_answer input
  unfolding make_key_answer
  long-answer = rw size

  long_public : new_public_key (part 0 2688 input) (part 2688 512 input) (part 3200 512 input) ≡ public_key input
  unfolding public_key
  long_public = rw size

  long-secret : new_secret_key (part 0 2688 input) (part 2688 512 input) (part 3200 512 input) ≡ secret_key input
  unfolding secret_key
  long-secret = rw size

  pub of-stream : (public secret : List ℕ) {a : Answer} {p q : List ℕ} → length public ≡ 4101 → length secret ≡ 4357
      → a ≡ keygen_answer (part 0 2688 input) (part 2688 512 input) (part 3200 512 input) (length public) (length secret)
      → p ≡ keygen_public (part 0 2688 input) (part 2688 512 input) (part 3200 512 input) public secret
      → q ≡ keygen_secret (part 0 2688 input) (part 2688 512 input) (part 3200 512 input) public secret
      → (a ≡ make_key_answer input) × ((p ≡ on_done a (written (public_key input) public) public) × (q ≡ on_done a (secret_key input) secret))
  unfolding keygen_public keygen_secret
  of-stream public secret {a} room-p room-s answered new-public new-secret = (
    answered ∙ ap₂ (keygen_answer (part 0 2688 input) (part 2688 512 input) (part 3200 512 input)) room-p room-s ∙ long-answer,
    (
      new-public ∙ ap₂ (λ (x : Answer) (l : List ℕ). on_done x l public) (sym answered) long_public
          ∙ in_all a (public_key input) public (long_length input (ne_eqb (length input) 1056 (λ e. omega arith)) ∙ sym room-p),
      new-secret ∙ ap₂ (λ (x : Answer) (l : List ℕ). on_done x l secret) (sym answered) long-secret,
    ),
  )

-- ---- an input with a seed

module _ (input : List ℕ) (size : length input ≡ 1056) where
  seeded-answer : seeded_keygen_answer (part 0 32 input) (part 32 512 input) (part 544 512 input) 2085 4357 ≡ make_key_answer input
  unfolding make_key_answer
  seeded-answer = rw size

  seeded_public : new_seeded_key (part 0 32 input) (part 32 512 input) (part 544 512 input) ≡ public_key input
  unfolding public_key
  seeded_public = rw size

  seeded-secret : new_secret_key (seed_stream (part 0 32 input)) (part 32 512 input) (part 544 512 input) ≡ secret_key input
  unfolding secret_key
  seeded-secret = rw size

  -- the first 2,085 bytes of the public key's buffer are lent
  pub of_seed : (public secret : List ℕ) {a : Answer} {p q : List ℕ} → length public ≡ 4101 → length secret ≡ 4357
      → a ≡ seeded_keygen_answer (part 0 32 input) (part 32 512 input) (part 544 512 input) (length (take 2085 public)) (length secret)
      → p ≡ seeded_keygen_public (part 0 32 input) (part 32 512 input) (part 544 512 input) (take 2085 public) secret
      → q ≡ seeded_keygen_secret (part 0 32 input) (part 32 512 input) (part 544 512 input) (take 2085 public) secret
      → (a ≡ make_key_answer input) × ((p ++ drop 2085 public ≡ on_done a (written (public_key input) public) public) × (q ≡ on_done a (secret_key input) secret))
  unfolding seeded_keygen_public seeded_keygen_secret
  of_seed public secret {a} room-p room-s answered new-public new-secret = (
    answered ∙ ap₂ (seeded_keygen_answer (part 0 32 input) (part 32 512 input) (part 544 512 input)) (length-take-le 2085 public (omega arith)) room-s ∙ seeded-answer,
    (
      ap (λ (l : List ℕ). l ++ drop 2085 public) (new-public ∙ ap₂ (λ (x : Answer) (l : List ℕ). on_done x l (take 2085 public)) (sym answered) seeded_public)
          ∙ in_front_lem a (public_key input) public (seeded_length input size) (omega arith),
      new-secret ∙ ap₂ (λ (x : Answer) (l : List ℕ). on_done x l secret) (sym answered) seeded-secret,
    ),
  )

-- ---- an input of any other length

pub other-answer : (input : List ℕ) → ¬ (length input ≡ 1056) → ¬ (length input ≡ 3712) → make_key_answer input ≡ Err WrongLength
unfolding make_key_answer
other-answer input no-seed no_stream = rw (ne_eqb (length input) 1056 no-seed, ne_eqb (length input) 3712 no_stream)
