-- Demand 3 of the key check.
use mathlib.Core.Path.{◌≡◌, sym}
use mathlib.Core.Bool.{Bool, true, false}
use mathlib.Core.Logic.Iff
use mathlib.Core.Logic.{◌↔◌}
use mathlib.Core.List.{List}
use Prim.Native.Nat.{ℕ, ◌≤◌}
use native.Mathlib.Omega.{arith}
use lib.ListN.{length}
use Rattle.ring.specs.Ring.{Invertible}
use Rattle.encoding.specs.Header.{version_of}
use Rattle.answers.specs.Answers.{number, Done}
use Rattle.answers.specs.Locations.{code}
use Rattle.records.specs.Records.{second_of, compact_bytes}
use Rattle.records.specs.WellFormed.{WellFormedExpandedKey}
use Rattle.secret_keys.specs.SecretKeys.{secret_answer}
use Rattle.secret_keys.specs.WellFormed.{WellFormedAs, UnitAs, Matches, InverseStored}
use Rattle.calls.specs.Calls.{check_answer}
use Rattle.calls.specs.Promises.{Accepted, CheckExact}
use Rattle.answers.proofs.AnswerLaws.{number-done}
use Rattle.answers.proofs.CodeLaws.{code-done}
use Rattle.secret_keys.proofs.Checks.{version_in}
use Rattle.secret_keys.proofs.SecretLaws.{secret-done}
use Rattle.secret_keys.proofs.VersionLaws.{one_version, well-formed_version}
use Rattle.secret_keys.proofs.ElementLaws.{unit-invertible}
use Rattle.calls.proofs.WhenDone.{check_done}
use Rattle.calls.proofs.Converted.{compact_well-formed, compact-sound}

-- ---- accepted

-- its checks say Done; it has a header
pub accepted : (k : List ℕ) → Accepted k ↔ ((5 ≤ length k) × (secret_answer k ≡ Done))
accepted k = Iff.trans (number-done (check_answer k)) (check_done k)

pub accepted-size : (k : List ℕ) → Accepted k → 5 ≤ length k
accepted-size k h = ((accepted k).0 h).0

-- the checks of an accepted key pass in every opening
pub accepted-done : (k : List ℕ) → Accepted k → secret_answer k ≡ Done
accepted-done k h = ((accepted k).0 h).1

well-formed-size : (expanded : Bool) (k : List ℕ) → WellFormedAs expanded k → 5 ≤ length k
well-formed-size false k w = omega (arith, w.size)
well-formed-size true k w = omega (arith, w.size)

-- well formed and sound, in one of the versions
pub accepted_iff : (k : List ℕ) → Accepted k ↔ ((expanded : Bool) × WellFormedAs expanded k × UnitAs expanded k × Matches k)
accepted_iff k = (
  λ h. (secret-done k).0 (accepted-done k h),
  λ (expanded, w, unit, matches). (accepted k).1 (well-formed-size expanded k w, (secret-done k).1 (expanded, w, unit, matches)),
)

-- .. in that of its header
pub accepted_of_version : (k : List ℕ) (expanded : Bool) → Accepted k → version_of k ≡ version_in expanded → WellFormedAs expanded k × UnitAs expanded k × Matches k
accepted_of_version k expanded h version =
    let (other, w, unit, matches) = (accepted_iff k).0 h in
    rw (sym (one_version k expanded other version w)) (w, unit, matches)

-- .. in that in which it is well formed
pub accepted_as : (k : List ℕ) (expanded : Bool) → WellFormedAs expanded k → Accepted k ↔ (UnitAs expanded k × Matches k)
accepted_as k expanded w = (
  λ h. let (_, unit, matches) = accepted_of_version k expanded h (well-formed_version k expanded w).1 in (unit, matches),
  λ (unit, matches). (accepted_iff k).1 (expanded, w, unit, matches),
)

-- ---- the promise

check-exact_of : (k : List ℕ) {said : ℕ} → (said ≡ 0) ↔ Accepted k → CheckExact k said
check-exact_of k zero = record {
  version_1 = λ w. Iff.trans zero (accepted_as k false w);
  version_2 = λ w. Iff.trans zero (Iff.trans (accepted_as k true w) (with-inverse w));
  as_version_1 = λ w.
      Iff.trans zero
      (Iff.trans (Iff.trans (accepted_as k true w) (with-inverse w))
      (Iff.and (Iff.symm (Iff.trans (accepted_as (compact_bytes k) false (compact_well-formed k w)) (compact-sound k w))) Iff.rfl));
}
  where
    -- the stored inverse shows that b has one
    with-inverse : WellFormedExpandedKey k → (InverseStored k × Matches k) ↔ ((Invertible (second_of k) × Matches k) × InverseStored k)
    with-inverse w = (λ (stored, matches). ((unit-invertible k true w stored, matches), stored), λ ((unit, matches), stored). (stored, matches))

pub check-exact : (k : List ℕ) → CheckExact k (number (check_answer k))
check-exact k = check-exact_of k Iff.rfl

pub check-exact-code : (k : List ℕ) → CheckExact k (code (check_answer k))
check-exact-code k = check-exact_of k (Iff.trans (code-done (check_answer k)) (Iff.symm (number-done (check_answer k))))
