-- Both conversions at once: the tests of lengths, then the checks of a key of one version. `expanded` is whether that is version 2, and `size`
-- the length that the output is to have.
use mathlib.Core.Path.{◌≡◌}
use mathlib.Core.Bool.{Bool, true, ◌&&◌, and-eq-true_iff}
use mathlib.Core.Logic.Iff
use mathlib.Core.Logic.{◌↔◌, ◌⊎◌, inl, inr}
use mathlib.Core.List.{List}
use Prim.Native.Nat.{ℕ, ◌<◌, ◌≤◌}
use native.Mathlib.Omega.{arith}
use lib.Dec.{eqb, leb}
use lib.ListN.{length}
use Rattle.encoding.specs.Header.{has_mark, version_of}
use Rattle.answers.specs.declared.Refusal.TheVariants.{WrongLength}
use Rattle.answers.specs.declared.Location.{Location}
use Rattle.answers.specs.Answers.{number, unless, Answer}
use Rattle.answers.specs.Locations.{Names}
use Rattle.records.specs.Layout.{secret_key_mark, header_length}
use Rattle.secret_keys.specs.SecretKeys.{secret_answer, version_answer}
use Rattle.secret_keys.specs.WellFormed.{WellFormedAs, UnitAs, Matches, LengthMisfits, SecretNamed}
use Rattle.calls.specs.Promises.{Accepted}
use Rattle.answers.proofs.AnswerLaws.{Never, number-done, unless-done, unless_never, fails_or}
use Rattle.secret_keys.proofs.Checks.{version_in}
use Rattle.secret_keys.proofs.SecretLaws.{secret-misfit, secret_named}
use Rattle.secret_keys.proofs.VersionLaws.{HasVersion, well-formed_version, version-done, version-says, version_names, version_never}
use Rattle.calls.proofs.Lengths.{header-fits, one-fits, says-after_lengths, names-after_lengths}
use Rattle.calls.proofs.CheckExact.{accepted_iff, accepted-size, accepted_of_version}
use Rattle.calls.proofs.LocatedExact.{named-size}

-- what is lent has the right length
abbrev pub Fits : (k : List ℕ) (room size : ℕ) → Type 0
Fits k room size = (header_length ≤ length k) × (room ≡ size)

module _ (k : List ℕ) (room size : ℕ) where
  abbrev fit : Bool
  fit = leb header_length (length k) && eqb room size

  fits : (fit ≡ true) ↔ Fits k room size
  fits = Iff.trans (and-eq-true_iff (leb header_length (length k)) (eqb room size)) (Iff.and (header-fits k) (one-fits room size))

  module _ (expanded : Bool) where
    abbrev pub convert_answer : Answer
    convert_answer = unless fit WrongLength (version_answer (version_in expanded) k)

    -- ---- 0

    pub convert-zero : (number convert_answer ≡ 0) ↔ (Accepted k × (version_of k ≡ version_in expanded) × (room ≡ size))
    convert-zero =
        Iff.trans (number-done convert_answer)
        (Iff.trans (unless-done fit WrongLength _) (Iff.trans (Iff.and fits (version-done k expanded)) (whole, parts)))
      where
        whole : Fits k room size × (WellFormedAs expanded k × UnitAs expanded k × Matches k) → Accepted k × (version_of k ≡ version_in expanded) × (room ≡ size)
        whole (f, (w, unit, matches)) = ((accepted_iff k).1 (expanded, w, unit, matches), (well-formed_version k expanded w).1, f.1)

        parts : Accepted k × (version_of k ≡ version_in expanded) × (room ≡ size) → Fits k room size × (WellFormedAs expanded k × UnitAs expanded k × Matches k)
        parts (h, version, e) = ((accepted-size k h, e), accepted_of_version k expanded h version)

    -- ---- other numbers

    -- one that only the checks behind mark and version say
    pub convert-says : {n : ℕ} → 3 < n
        → (number convert_answer ≡ n) ↔ (Fits k room size × (HasVersion (version_in expanded) k × (number (secret_answer k) ≡ n)))
    convert-says h = says-after_lengths _ _ (omega arith) fits (version-says k (omega arith) (version_in expanded))

    pub convert_never : {n : ℕ} → 3 < n → Never n (secret_answer k) → ¬ (number convert_answer ≡ n)
    convert_never h never =
        (unless_never fit WrongLength (λ e. omega arith) (version_never k (omega arith) (version_in expanded) never)).never

    -- 1 in both places
    pub convert-misfit : (number convert_answer ≡ 1) ↔ (¬ (Fits k room size) ⊎ (Fits k room size × (version_of k ≡ version_in expanded) × LengthMisfits k))
    convert-misfit =
        fails_or WrongLength _ fits
        (Iff.trans (Iff.and Iff.rfl (Iff.trans (version-says k (omega arith) (version_in expanded)) (Iff.and Iff.rfl (secret-misfit k)))) (
          λ (f, ((mark, version), misfit)). (f, version, misfit),
          λ (f, version, misfit). (f, ((misfit.marked, version), misfit)),
        ))

    -- 4, and the word that it names
    pub convert_named : (l : Location) → Names 4 l convert_answer ↔ (SecretNamed k l × (version_of k ≡ version_in expanded) × (room ≡ size))
    convert_named l =
        Iff.trans
        (names-after_lengths 4 l _ (omega arith) fits (Iff.trans (version_names k (version_in expanded) l) (Iff.and Iff.rfl (secret_named k l)))) (
          λ (f, ((mark, version), named)). (named, version, f.1),
          λ (named, version, e). ((named-size k named, e), ((named_mark named, version), named)),
        )
      where
        named_mark : SecretNamed k l → has_mark secret_key_mark k ≡ true
        named_mark (inl ((_, mark, _), _)) = mark
        named_mark (inr ((_, mark, _), _)) = mark
