-- The checks of a secret key of one version: any other is 3, and else they are those of either.
use mathlib.Core.Path.{◌≡◌, sym, ◌∙◌}
use mathlib.Core.Bool.{Bool, true, false}
use mathlib.Core.Logic.Iff
use mathlib.Core.Logic.{◌↔◌}
use mathlib.Core.List.{List}
use Prim.Native.Nat.{ℕ}
use native.Mathlib.Omega.{arith}
use Rattle.encoding.specs.Header.{has_mark, version_of}
use Rattle.answers.specs.declared.Location.{Location}
use Rattle.answers.specs.Answers.{number, Done}
use Rattle.answers.specs.Locations.{Names}
use Rattle.records.specs.Layout.{secret_key_mark}
use Rattle.answers.proofs.AnswerLaws.{Never, then-done, then_never, then-says, then_names}
use Rattle.records.proofs.RecordLaws.{header-done, OneOrAbove, header_never}
use Rattle.secret_keys.specs.SecretKeys.{secret_answer, version_answer}
use Rattle.secret_keys.specs.WellFormed.{WellFormedAs, UnitAs, Matches}
use Rattle.secret_keys.proofs.Checks.{version_in, is_version}
use Rattle.secret_keys.proofs.SecretLaws.{passes, secret-done}

-- mark and version
abbrev pub HasVersion : (version : ℕ) (key : List ℕ) → Type 0
HasVersion version k = (has_mark secret_key_mark k ≡ true) × (version_of k ≡ version)

module _ (k : List ℕ) where
  -- a well-formed record of one version is none of the other
  pub one_version : (expanded other : Bool) → version_of k ≡ version_in expanded → WellFormedAs other k → other ≡ expanded
  one_version expanded other version w = sym (passes k other w).kind ∙ is_version k expanded version

  pub well-formed_version : (expanded : Bool) → WellFormedAs expanded k → HasVersion (version_in expanded) k
  well-formed_version false w = (w.front.marked, w.front.has_version)
  well-formed_version true w = (w.front.marked, w.front.has_version)

  pub version-done : (expanded : Bool) → (version_answer (version_in expanded) k ≡ Done) ↔ (WellFormedAs expanded k × UnitAs expanded k × Matches k)
  unfolding version_answer
  version-done expanded = (
    λ e.
        let (header, checked) = (then-done _ _).0 e in
        let (mark, version) = (header-done secret_key_mark (version_in expanded) k).0 header in
        let (other, w, unit, matches) = (secret-done k).0 checked in
        let same : other ≡ expanded = one_version expanded other version w in
        rw (sym same) (w, unit, matches),
    λ (w, unit, matches).
        (then-done _ _).1 ((header-done secret_key_mark (version_in expanded) k).1 (well-formed_version expanded w), (secret-done k).1 (expanded, w, unit, matches)),
  )

  -- a number other than 2 and 3
  pub version-says : {n : ℕ} → OneOrAbove 3 n → (version : ℕ)
      → (number (version_answer version k) ≡ n) ↔ (HasVersion version k × (number (secret_answer k) ≡ n))
  unfolding version_answer
  version-says h version = Iff.trans (then-says _ (header_never h secret_key_mark version k)) (Iff.and (header-done secret_key_mark version k) Iff.rfl)

  pub version_names : (version : ℕ) (l : Location) → Names 4 l (version_answer version k) ↔ (HasVersion version k × Names 4 l (secret_answer k))
  unfolding version_answer
  version_names version l = Iff.trans (then_names _ (header_never (omega arith) secret_key_mark version k)) (Iff.and (header-done secret_key_mark version k) Iff.rfl)

  pub version_never : {n : ℕ} → OneOrAbove 3 n → (version : ℕ) → Never n (secret_answer k) → Never n (version_answer version k)
  unfolding version_answer
  version_never h version rest = then_never (header_never h secret_key_mark version k) rest
