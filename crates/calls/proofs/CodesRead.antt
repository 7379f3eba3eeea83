-- Codes are read back, and what demand 3 says of a number it says of the code.
use mathlib.Core.Path.{◌≡◌, refl}
use mathlib.Core.Logic.{inl, inr}
use mathlib.Core.List.{List}
use Prim.Native.Nat.{ℕ, ◌<◌}
use native.Mathlib.Decide.{ℕ_discrete}
use native.Mathlib.Omega.{arith}
use Rattle.answers.specs.declared.Location.{Location}
use Rattle.answers.specs.Answers.{number, Answer}
use Rattle.answers.specs.Locations.{nowhere, location}
use Rattle.records.specs.Named.{Named, NamedInTwo}
use Rattle.public_keys.specs.WellFormed.{PublicNamed}
use Rattle.secret_keys.specs.WellFormed.{SecretNamed}
use Rattle.calls.specs.Calls.{check_answer, keygen_answer, seeded_keygen_answer, encapsulate_answer, decapsulate_answer, seal_answer, open_answer}
use Rattle.calls.specs.Located.{ReadBack, CodesRead}
use Rattle.answers.proofs.CodeLaws.{code_number_lem, code_location_lem, code-done, code-within, names_none}
use Rattle.calls.proofs.LocatedExact.{located-exact}

-- ---- the index of a word that is named is below 1,024

abbrev pub Small : Location → Type 0
Small l = l.index < 1024

named_small : {r p : ℕ} {words : List ℕ} {l : Location} → Named r p words l → Small l
named_small (i, e, first) = rw e first.within

pub in_two-small : {r p p' : ℕ} {first second : List ℕ} {l : Location} → NamedInTwo r p p' first second l → Small l
in_two-small (inl named) = named_small named
in_two-small (inr (passed, named)) = named_small named

pub secret-small : (k : List ℕ) {l : Location} → SecretNamed k l → Small l
secret-small k (inl (layout, named)) = in_two-small named
secret-small k (inr (layout, inl named)) = in_two-small named
secret-small k (inr (layout, inr (_, _, named))) = named_small named

pub public-small : (k : List ℕ) {l : Location} → PublicNamed k l → Small l
public-small k (inl (header, named)) = in_two-small named
public-small k (inr (header, named)) = named_small named

-- ---- an answer is read back where the words that 4 and 11 name have such an index

read_back : (a : Answer) → Small (location a) → ReadBack a
read_back a small = (code_number_lem a, code_location_lem a (omega arith))

pub by_number : (a : Answer) → (number a ≡ 4 → Small (location a)) → (number a ≡ 11 → Small (location a)) → ReadBack a
by_number a key encapsulation = read_back a (at (ℕ_discrete (number a) 4) (ℕ_discrete (number a) 11))
  where
    at : Dec (number a ≡ 4) → Dec (number a ≡ 11) → Small (location a)
    at (yes e) d = key e
    at (no f) (yes e) = encapsulation e
    at (no f) (no g) = rw (names_none a f g) (omega arith)

names_nothing : (a : Answer) → location a ≡ nowhere → ReadBack a
names_nothing a e = read_back a (rw e (omega arith))

pub codes-read : CodesRead
codes-read = record {
  zero-done = code-done;
  within = code-within;
  check = λ k. by_number (check_answer k) (λ e. secret-small k ((located-exact.check k _).0 (e, refl))) (λ e. absurd (located-exact.check_never k e));
  keygen = λ stream s e public secret. names_nothing (keygen_answer stream s e public secret) (located-exact.keygen_never stream s e public secret);
  seeded-keygen = λ seed s e public secret. names_nothing (seeded_keygen_answer seed s e public secret) (located-exact.seeded-keygen_never seed s e public secret);
  encapsulate = λ k t room.
      by_number (encapsulate_answer k t room) (λ e. public-small k ((located-exact.encapsulate k t room _).0 (e, refl)).0)
      (λ e. absurd (located-exact.encapsulate_never k t room e));
  decapsulate = λ k c d room.
      by_number (decapsulate_answer k c d room) (λ e. secret-small k ((located-exact.decapsulate k c d room _).0 (e, refl)).0)
      (λ e. in_two-small ((located-exact.of-encapsulation k c d room _).0 (e, refl)).4);
  seal = λ k noise entry room.
      by_number (seal_answer k noise entry room) (λ e. public-small k ((located-exact.seal k noise entry room _).0 (e, refl)).0)
      (λ e. absurd (located-exact.seal_never k noise entry room e));
  open_entry = λ k sealed noise room.
      by_number (open_answer k sealed noise room) (λ e. secret-small k ((located-exact.open_entry k sealed noise room _).0 (e, refl)).0)
      (λ e. in_two-small ((located-exact.of-sealed_entry k sealed noise room _).0 (e, refl)).4);
}
