-- Which word 4 and 11 name.
use mathlib.Core.Path.{◌≡◌}
use mathlib.Core.Bool.{Bool, true}
use mathlib.Core.Logic.Iff
use mathlib.Core.Logic.{◌↔◌, inl, inr}
use mathlib.Core.List.{List}
use Prim.Native.Nat.{ℕ, ◌<◌, ◌≤◌}
use native.Mathlib.Omega.{arith}
use lib.ListN.{length}
use Rattle.answers.specs.declared.Refusal.TheVariants.{WrongLength}
use Rattle.answers.specs.declared.Location.{Location}
use Rattle.answers.specs.Answers.{number, unless, and_then, Answer, Done}
use Rattle.answers.specs.Locations.{Names}
use Rattle.records.specs.Records.{first_of, second_of, body_part, tag_part, sealed_entry_answer, c1_of, c2_of, encapsulation_answer}
use Rattle.triples.specs.Triple.{triple_of}
use Rattle.seeds.specs.Seeds.{seed_stream}
use Rattle.public_keys.specs.PublicKeys.{public_answer}
use Rattle.secret_keys.specs.SecretKeys.{elements_of, secret_answer}
use Rattle.secret_keys.specs.WellFormed.{SecretNamed}
use Rattle.keys.specs.Keys.{noise_triple}
use Rattle.calls.specs.Calls.{check_answer, keygen_answer, seeded_keygen_answer, encapsulate_answer, decapsulate_answer, seal_answer, open_answer, outcome}
use Rattle.calls.specs.Located.{LocatedExact}
use Rattle.answers.proofs.AnswerLaws.{Never, unless_never, then_never, then_names, names-first}
use Rattle.answers.proofs.CodeLaws.{names_none}
use Rattle.records.proofs.NamedWords.{sealed_entry_named, encapsulation_named}
use Rattle.triples.proofs.TripleLaws.{triple_never}
use Rattle.public_keys.proofs.PublicLaws.{public_named, public_never}
use Rattle.secret_keys.proofs.SecretLaws.{secret_named, secret_never}
use Rattle.keys.proofs.KeyLaws.{generated_never}
use Rattle.calls.proofs.Behind.{opened_never, behind-words_never, encapsulation-rest_never, entry-rest_never}
use Rattle.calls.proofs.Lengths.{header-fits, keygen-fits, seeded-keygen-fits, encapsulate-fits, decapsulate-fits, seal-fits, open-fits, names-after_lengths}
use Rattle.calls.proofs.CheckExact.{accepted}

-- ---- calls that never say a number

-- 1 is another, and what follows never says it
pub never-after_lengths : {fit : Bool} {F : Type 0} {n : ℕ} {a : Answer} → 1 < n → (fit ≡ true) ↔ F → Never n a → ¬ (number (unless fit WrongLength a) ≡ n)
never-after_lengths {fit} h fits rest = (unless_never fit WrongLength (λ e. omega arith) rest).never

-- key generation says 1, 6 and 8 only
pub keygen-others : (n : ℕ) → 1 < n → ¬ (6 ≡ n) → ¬ (8 ≡ n) → (stream s e : List ℕ) (public secret : ℕ)
    → ¬ (number (keygen_answer stream s e public secret) ≡ n)
unfolding keygen_answer
keygen-others n h six eight stream s e public secret =
    never-after_lengths h (keygen-fits stream s e public secret) (generated_never (omega arith) six eight stream s e)

pub seeded-keygen-others : (n : ℕ) → 1 < n → ¬ (6 ≡ n) → ¬ (8 ≡ n) → (seed s e : List ℕ) (public secret : ℕ)
    → ¬ (number (seeded_keygen_answer seed s e public secret) ≡ n)
unfolding seeded_keygen_answer
seeded-keygen-others n h six eight seed s e public secret =
    never-after_lengths h (seeded-keygen-fits seed s e public secret) (generated_never (omega arith) six eight (seed_stream seed) s e)

-- ---- the words

-- a key that has a word named has a header
pub named-size : (k : List ℕ) {l : Location} → SecretNamed k l → 5 ≤ length k
named-size k (inl ((size, _, _), _)) = omega (arith, size)
named-size k (inr ((size, _, _), _)) = omega (arith, size)

-- behind the key's checks, which say no 11, those of a record name a word, and none behind them does
pub names-after-key : (k : List ℕ) (l : Location) (a : Answer) {b : Answer} {N : Type 0} → Never 11 b → Names 11 l a ↔ N
    → Names 11 l (and_then (secret_answer k) (and_then a b)) ↔ ((secret_answer k ≡ Done) × N)
names-after-key k l a rest named =
    Iff.trans (then_names _ (secret_never k (omega arith) (λ e. omega arith))) (Iff.and Iff.rfl (Iff.trans (names-first a (omega arith) rest) named))

pub located-exact : LocatedExact
unfolding check_answer encapsulate_answer decapsulate_answer seal_answer open_answer
located-exact = record {
  check = λ k l.
      Iff.trans (names-after_lengths 4 l (secret_answer k) (omega arith) (header-fits k) (secret_named k l))
      (λ (size, named). named, λ named. (named-size k named, named));
  encapsulate = λ k t room l.
      Iff.trans
      (names-after_lengths 4 l _ (omega arith) (encapsulate-fits k t room)
      (names-first (public_answer k) (omega arith) (triple_never (omega arith) (λ e. omega arith) t))) (
        λ ((size, h1, h2), names). ((public_named k l).0 (size, names), h1, h2),
        λ (named, h1, h2). let (size, names) = (public_named k l).1 named in ((size, h1, h2), names),
      );
  decapsulate = λ k c d room l.
      Iff.trans
      (names-after_lengths 4 l _ (omega arith) (decapsulate-fits k c d room)
      (Iff.trans
      (names-first (secret_answer k) (omega arith)
      (encapsulation-rest_never (omega arith) (λ e. omega arith) (λ e. omega arith) (λ e. omega arith) c d (outcome (elements_of k) (triple_of d) (c1_of c) (c2_of c))))
      (secret_named k l)))
      (with-key k);
  seal = λ k noise entry room l.
      Iff.trans (names-after_lengths 4 l (public_answer k) (omega arith) (seal-fits k noise entry room) Iff.rfl) (
        λ ((size, h1, h2, h3), names). ((public_named k l).0 (size, names), h1, h2, h3),
        λ (named, h1, h2, h3). let (size, names) = (public_named k l).1 named in ((size, h1, h2, h3), names),
      );
  open_entry = λ k e noise room l.
      Iff.trans
      (names-after_lengths 4 l _ (omega arith) (open-fits k e noise room)
      (Iff.trans
      (names-first (secret_answer k) (omega arith)
      (entry-rest_never (omega arith) (λ e. omega arith) (omega arith) (λ e. omega arith) (λ e. omega arith) e
      (outcome (elements_of k) (noise_triple noise) (first_of e) (second_of e)) (body_part e) (tag_part e)))
      (secret_named k l)))
      (with-key k);
  of-encapsulation = λ k c d room l.
      Iff.trans
      (names-after_lengths 11 l _ (omega arith) (decapsulate-fits k c d room)
      (names-after-key k l (encapsulation_answer c)
      (behind-words_never (omega arith) (λ e. omega arith) (λ e. omega arith) d (outcome (elements_of k) (triple_of d) (c1_of c) (c2_of c)))
      (encapsulation_named c l))) (
        λ ((size, h1, h2, h3), (key, named)). ((accepted k).1 (size, key), h1, h2, h3, named),
        λ (key, h1, h2, h3, named). let (size, checked) = (accepted k).0 key in ((size, h1, h2, h3), (checked, named)),
      );
  of-sealed_entry = λ k e noise room l.
      Iff.trans
      (names-after_lengths 11 l _ (omega arith) (open-fits k e noise room)
      (names-after-key k l (sealed_entry_answer e)
      (opened_never (omega arith) (λ e. omega arith) (λ e. omega arith) (outcome (elements_of k) (noise_triple noise) (first_of e) (second_of e))
      (body_part e) (tag_part e))
      (sealed_entry_named e l))) (
        λ ((size, h1, h2, h3), (key, (mark, version, named))). ((accepted k).1 (size, key), (h1, mark, version), h2, h3, named),
        λ (key, (h1, mark, version), h2, h3, named). let (size, checked) = (accepted k).0 key in ((size, h1, h2, h3), (checked, (mark, version, named))),
      );
  check_never = λ k. never-after_lengths (omega arith) (header-fits k) (secret_never k (omega arith) (λ e. omega arith));
  encapsulate_never = λ k t room.
      never-after_lengths (omega arith) (encapsulate-fits k t room)
      (then_never (public_never k (omega arith)) (triple_never (omega arith) (λ e. omega arith) t));
  seal_never = λ k noise entry room. never-after_lengths (omega arith) (seal-fits k noise entry room) (public_never k (omega arith));
  keygen_never = λ stream s e public secret.
      names_none (keygen_answer stream s e public secret) (keygen-others 4 (omega arith) (λ f. omega arith) (λ f. omega arith) stream s e public secret)
      (keygen-others 11 (omega arith) (λ f. omega arith) (λ f. omega arith) stream s e public secret);
  seeded-keygen_never = λ seed s e public secret.
      names_none (seeded_keygen_answer seed s e public secret) (seeded-keygen-others 4 (omega arith) (λ f. omega arith) (λ f. omega arith) seed s e public secret)
      (seeded-keygen-others 11 (omega arith) (λ f. omega arith) (λ f. omega arith) seed s e public secret);
  others = names_none;
}
  where
    -- a secret key among the lengths of the other buffers
    with-key : (k : List ℕ) {l : Location} {H1 H2 H3 : Type 0} → (((5 ≤ length k) × H1 × H2 × H3) × SecretNamed k l) ↔ (SecretNamed k l × H1 × H2 × H3)
    with-key k = (λ ((size, h1, h2, h3), named). (named, h1, h2, h3), λ (named, h1, h2, h3). ((named-size k named, h1, h2, h3), named))
