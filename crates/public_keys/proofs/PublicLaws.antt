-- The checks of a public key of either kind: when they say Done, when 6, when 8, and which word 4 names.
use mathlib.Core.Path.{◌≡◌, refl, sym, ap, ◌∙◌}
use mathlib.Core.Bool.{Bool, true, false, decide, false≢true}
use mathlib.Core.Logic.Iff
use mathlib.Core.Logic.{◌↔◌, ◌⊎◌, inl, inr}
use mathlib.Core.List.{List}
use Prim.Native.Nat.{ℕ, ◌<◌}
use native.Mathlib.Omega.{arith}
use lib.Dec.{eqb}
use lib.ListN.{length}
use borrow.Author.Tests.{eqb-true, eq-eqb, ne_eqb}
use Rattle.std.specs.Prelude.{Ok, ok_or}
use Rattle.std.specs.Bool.{then_some}
use Rattle.ring.specs.Ring.{n, Invertible}
use Rattle.ring.specs.Invertible.{is_invertible}
use Rattle.sampling.specs.Stream.{taken}
use Rattle.sampling.proofs.Streams.{uniform_element_lem}
use Rattle.seeds.specs.Seeds.{seed_stream}
use Rattle.scheme.specs.Answers.{if_invertible}
use Rattle.answers.specs.declared.Refusal.TheVariants as Refusal
use Rattle.answers.specs.declared.Location.{Location}
use Rattle.answers.specs.Answers.{number, unless, and_then, Done}
use Rattle.answers.specs.Locations.{Names}
use Rattle.records.specs.Layout.{public_key_mark, public_key_length, seeded_key_length}
use Rattle.records.specs.Records.{second_of, seed_of, seeded_b}
use Rattle.records.specs.WellFormed.{WellFormedFront, WellFormedSeededKey}
use Rattle.public_keys.specs.PublicKeys.{stream_answer, inverse_answer, is_public_length, is_seeded_key, public_b, public_record_answer, public_stream_answer, public_answer}
use Rattle.public_keys.specs.WellFormed.{SeedFills, PublicHeader, PublicRecord, PublicNamed}
use Rattle.answers.proofs.AnswerLaws.{Never, done_never, unless_never, unless-refuses, decided-done, decided-refuses, then-done, then_never, then-says, then-refuses, names-first}
use Rattle.records.proofs.RecordLaws.{equal-done, one_of_two, public-front-done, seeded-done, OneOrAbove, none_of, above_lower, public-front_never, seeded_never}
use Rattle.records.proofs.NamedWords.{public-front_named, seeded_named}
use Rattle.public_keys.proofs.EitherKind.{seeded-a, seeded_b_lem, seeded-record, seeded-stream, long-a, long-b, long-record, long-stream}

-- ---- 6

pub inverse-done : (b : List ℕ) → (inverse_answer b ≡ Done) ↔ Invertible b
inverse-done b = decided-done (is_invertible b) Refusal.NotInvertible

pub inverse_refused : (b : List ℕ) → (number (inverse_answer b) ≡ 6) ↔ ¬ (Invertible b)
inverse_refused b = decided-refuses (is_invertible b) Refusal.NotInvertible

-- it says no other number
pub inverse_never : {number : ℕ} → 0 < number → ¬ (6 ≡ number) → (b : List ℕ) → Never number (inverse_answer b)
inverse_never some other b = unless_never (decide (is_invertible b)) Refusal.NotInvertible other (done_never some)

-- what it makes of an option that is there where b has an inverse
pub inverse_or : {A : Type 0} (b : List ℕ) (key : A) → ok_or (if_invertible b key) Refusal.NotInvertible ≡ and_then (inverse_answer b) (Ok key)
inverse_or b key = by (decide (is_invertible b))
  where
    by : (t : Bool) → ok_or (then_some t key) Refusal.NotInvertible ≡ and_then (unless t Refusal.NotInvertible Done) (Ok key)
    by true = refl
    by false = refl

-- ---- 8

pub stream-done : (stream : List ℕ) → (stream_answer stream ≡ Done) ↔ (length (taken stream) ≡ n)
stream-done stream = equal-done (length (taken stream)) n Refusal.StreamExhausted

pub stream_refused : (stream : List ℕ) → (number (stream_answer stream) ≡ 8) ↔ ¬ (length (taken stream) ≡ n)
stream_refused stream =
    Iff.trans (unless-refuses (eqb (length (taken stream)) n) Refusal.StreamExhausted)
    (λ e same. false≢true (sym e ∙ eq-eqb (length (taken stream)) n same), λ other. ne_eqb (length (taken stream)) n other)

pub stream_never : {number : ℕ} → 0 < number → ¬ (8 ≡ number) → (stream : List ℕ) → Never number (stream_answer stream)
stream_never some other stream = unless_never (eqb (length (taken stream)) n) Refusal.StreamExhausted other (done_never some)

-- ---- lengths

pub public_length : (size : ℕ) → (is_public_length size ≡ true) ↔ ((size ≡ public_key_length) ⊎ (size ≡ seeded_key_length))
public_length size = one_of_two size public_key_length seeded_key_length

pub long_length : (k : List ℕ) → is_public_length (length k) ≡ true → ¬ (length k ≡ seeded_key_length) → length k ≡ public_key_length
long_length k size other = one ((public_length (length k)).0 size)
  where
    one : (length k ≡ public_key_length) ⊎ (length k ≡ seeded_key_length) → length k ≡ public_key_length
    one (inl e) = e
    one (inr e) = absurd (other e)

-- ---- the record

module _ (k : List ℕ) where
  is_seeded : length k ≡ seeded_key_length → is_seeded_key k ≡ true
  is_seeded = eq-eqb (length k) seeded_key_length

  is_long : length k ≡ public_key_length → is_seeded_key k ≡ false
  is_long size = ne_eqb (length k) seeded_key_length (λ e. omega arith)

  record_never_either : (number : ℕ) → OneOrAbove 4 number → Never number (public_record_answer k)
  record_never_either number h = by_kind (is_seeded_key k) refl
    where
      by_kind : (b : Bool) → is_seeded_key k ≡ b → Never number (public_record_answer k)
      by_kind true kind = rw (seeded-record k kind) (seeded_never h k)
      by_kind false kind = rw (long-record k kind) (public-front_never h k)

  -- 2, 3, 4 and 8 pass
  record_either : ((is_public_length (length k) ≡ true) × (public_record_answer k ≡ Done) × (public_stream_answer k ≡ Done)) ↔ PublicRecord k
  record_either = (λ (size, checked, stream). whole (is_seeded_key k) refl size checked stream, λ w. parts w.header w)
    where
      whole : (b : Bool) → is_seeded_key k ≡ b → is_public_length (length k) ≡ true → public_record_answer k ≡ Done → public_stream_answer k ≡ Done → PublicRecord k
      whole true kind size checked stream =
          let (mark, version, words) = (seeded-done k).0 (sym (seeded-record k kind) ∙ checked) in
          let fills = (stream-done (seed_stream (seed_of k))).0 (sym (seeded-stream k kind) ∙ stream) in
          record {
            header = inr ((eqb-true (length k) seeded_key_length kind, mark, version), fills);
            a-words = rw (seeded-a k kind) (uniform_element_lem (seed_stream (seed_of k)));
            b-words = rw (seeded_b_lem k kind) words;
          }
      whole false kind size checked stream =
          let w = (public-front-done k).0 (sym (long-record k kind) ∙ checked) in
          record {
            header = inl (long_length k size (λ e. false≢true (sym kind ∙ is_seeded e)), w.marked, w.has_version);
            a-words = rw (long-a k kind) w.first-words;
            b-words = rw (long-b k kind) w.second-words;
          }

      parts : PublicHeader k → PublicRecord k → (is_public_length (length k) ≡ true) × (public_record_answer k ≡ Done) × (public_stream_answer k ≡ Done)
      parts (inl (size, mark, version)) w =
          let kind = is_long size in (
            (public_length (length k)).1 (inl size),
            long-record k kind ∙ (public-front-done k).1
                (record { marked = mark; has_version = version; first-words = rw (sym (long-a k kind)) w.a-words; second-words = rw (sym (long-b k kind)) w.b-words }),
            long-stream k kind,
          )
      parts (inr ((size, mark, version), fills)) w =
          let kind = is_seeded size in (
            (public_length (length k)).1 (inr size),
            seeded-record k kind ∙ (seeded-done k).1 (mark, version, rw (sym (seeded_b_lem k kind)) w.b-words),
            seeded-stream k kind ∙ (stream-done (seed_stream (seed_of k))).1 fills,
          )

  stream_never_either : {number : ℕ} → 0 < number → ¬ (8 ≡ number) → Never number (public_stream_answer k)
  stream_never_either {number} some other = by_kind (is_seeded_key k) refl
    where
      by_kind : (b : Bool) → is_seeded_key k ≡ b → Never number (public_stream_answer k)
      by_kind true kind = rw (seeded-stream k kind) (stream_never some other (seed_stream (seed_of k)))
      by_kind false kind = rw (long-stream k kind) (done_never some)

  -- ---- the key

  -- the record passes, and then the last check says what it says
  behind-record : {Says Meant : Type 0} → Says ↔ Meant
      → ((is_public_length (length k) ≡ true) × ((public_record_answer k ≡ Done) × ((public_stream_answer k ≡ Done) × Says))) ↔ (PublicRecord k × Meant)
  behind-record last =
      Iff.trans
      (λ (size, (checked, (stream, says))). ((size, checked, stream), says), λ ((size, checked, stream), says). (size, (checked, (stream, says))))
      (Iff.and record_either last)

  pub public-done : ((is_public_length (length k) ≡ true) × (public_answer k ≡ Done)) ↔ (PublicRecord k × Invertible (public_b k))
  unfolding public_answer
  public-done =
      Iff.trans (Iff.and Iff.rfl (Iff.trans (then-done _ _) (Iff.and Iff.rfl (then-done _ _)))) (behind-record (inverse-done (public_b k)))

  -- 6 is said last
  six_last : (number (public_answer k) ≡ 6) ↔ ((public_record_answer k ≡ Done) × ((public_stream_answer k ≡ Done) × (number (inverse_answer (public_b k)) ≡ 6)))
  unfolding public_answer
  six_last =
      Iff.trans (then-says _ (record_never_either 6 (omega arith))) (Iff.and Iff.rfl (then-says _ (stream_never_either (omega arith) (λ e. omega arith))))

  pub public_refused : ((is_public_length (length k) ≡ true) × (number (public_answer k) ≡ 6)) ↔ (PublicRecord k × ¬ (Invertible (public_b k)))
  public_refused = Iff.trans (Iff.and Iff.rfl six_last) (behind-record (inverse_refused (public_b k)))

  -- .. at every length
  pub long_refused : ¬ (length k ≡ seeded_key_length) → (number (public_answer k) ≡ 6) ↔ (WellFormedFront public_key_mark 1 k × ¬ (Invertible (second_of k)))
  long_refused other =
      let kind = ne_eqb (length k) seeded_key_length other in
      Iff.trans six_last (
        λ (checked, (stream, says)).
            ((public-front-done k).0 (sym (long-record k kind) ∙ checked), rw (long-b k kind) at ((inverse_refused (public_b k)).0 says)),
        λ (w, none).
            (long-record k kind ∙ (public-front-done k).1 w, (long-stream k kind, (inverse_refused (public_b k)).1 (rw (long-b k kind) none))),
      )

  pub seeded_refused : length k ≡ seeded_key_length → (number (public_answer k) ≡ 6) ↔ (WellFormedSeededKey k × SeedFills k × ¬ (Invertible (seeded_b k)))
  seeded_refused size =
      let kind = is_seeded size in
      Iff.trans six_last (
        λ (checked, (stream, says)).
            let (mark, version, words) = (seeded-done k).0 (sym (seeded-record k kind) ∙ checked) in (
              record { size = size; marked = mark; has_version = version; words = words },
              (stream-done (seed_stream (seed_of k))).0 (sym (seeded-stream k kind) ∙ stream),
              rw (seeded_b_lem k kind) at ((inverse_refused (public_b k)).0 says),
            ),
        λ (w, fills, none). (
          seeded-record k kind ∙ (seeded-done k).1 (w.marked, w.has_version, w.words),
          (seeded-stream k kind ∙ (stream-done (seed_stream (seed_of k))).1 fills, (inverse_refused (public_b k)).1 (rw (seeded_b_lem k kind) none)),
        ),
      )

  pub public_exhausted : ((is_public_length (length k) ≡ true) × (number (public_answer k) ≡ 8)) ↔ (WellFormedSeededKey k × ¬ (SeedFills k))
  unfolding public_answer
  public_exhausted =
      Iff.trans
      (Iff.and Iff.rfl
      (Iff.trans (then-says _ (record_never_either 8 (omega arith)))
      (Iff.and Iff.rfl (then-refuses (public_stream_answer k) (omega arith) (inverse_never (omega arith) (λ e. omega arith) (public_b k)))))) (
        λ (size, (checked, says)). by_kind (is_seeded_key k) refl checked says,
        λ (w, dry).
            let kind = is_seeded w.size in (
              (public_length (length k)).1 (inr w.size),
              (seeded-record k kind ∙ (seeded-done k).1 (w.marked, w.has_version, w.words), ap number (seeded-stream k kind) ∙ (stream_refused (seed_stream (seed_of k))).1 dry),
            ),
      )
    where
      by_kind : (b : Bool) → is_seeded_key k ≡ b → public_record_answer k ≡ Done → number (public_stream_answer k) ≡ 8 → WellFormedSeededKey k × ¬ (SeedFills k)
      by_kind true kind checked says =
          let (mark, version, words) = (seeded-done k).0 (sym (seeded-record k kind) ∙ checked) in (
            record { size = eqb-true (length k) seeded_key_length kind; marked = mark; has_version = version; words = words },
            (stream_refused (seed_stream (seed_of k))).0 (sym (ap number (seeded-stream k kind)) ∙ says),
          )
      by_kind false kind checked says = absurd (omega (arith, sym (ap number (long-stream k kind)) ∙ says))

  -- ---- 4

  behind_never : {number : ℕ} → 0 < number → ¬ (6 ≡ number) → ¬ (8 ≡ number) → Never number (and_then (public_stream_answer k) (inverse_answer (public_b k)))
  behind_never some six eight = then_never (stream_never_either some eight) (inverse_never some six (public_b k))

  pub public_named : (l : Location) → ((is_public_length (length k) ≡ true) × Names 4 l (public_answer k)) ↔ PublicNamed k l
  unfolding public_answer
  public_named l = Iff.trans (Iff.and Iff.rfl (names-first (public_record_answer k) (omega arith) (behind_never (omega arith) (λ e. omega arith) (λ e. omega arith)))) (to, from)
    where
      to : (is_public_length (length k) ≡ true) × Names 4 l (public_record_answer k) → PublicNamed k l
      to (size, names) = by_kind (is_seeded_key k) refl
        where
          by_kind : (b : Bool) → is_seeded_key k ≡ b → PublicNamed k l
          by_kind true kind =
              let (mark, version, named) = (seeded_named k l).0 (rw (seeded-record k kind) at names) in
              inr ((eqb-true (length k) seeded_key_length kind, mark, version), named)
          by_kind false kind =
              let (mark, version, named) = (public-front_named k l).0 (rw (long-record k kind) at names) in
              inl ((long_length k size (λ e. false≢true (sym kind ∙ is_seeded e)), mark, version), named)

      from : PublicNamed k l → (is_public_length (length k) ≡ true) × Names 4 l (public_record_answer k)
      from (inl ((size, mark, version), named)) =
          ((public_length (length k)).1 (inl size), rw (long-record k (is_long size)) ((public-front_named k l).1 (mark, version, named)))
      from (inr ((size, mark, version), named)) =
          ((public_length (length k)).1 (inr size), rw (seeded-record k (is_seeded size)) ((seeded_named k l).1 (mark, version, named)))

  -- its checks say 2 to 8 only
  pub public_never : {number : ℕ} → OneOrAbove 8 number → Never number (public_answer k)
  unfolding public_answer
  public_never {number} h =
      then_never (record_never_either number (above_lower (omega arith) h)) (behind_never h.0 (none_of h (omega arith)) (none_of h (omega arith)))
