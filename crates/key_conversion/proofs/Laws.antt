-- A key that passes the checks of one version: its length, and the inverse of its b.
use mathlib.Core.Path.{◌≡◌, ap, ◌∙◌}
use mathlib.Core.Bool.{Bool, true, false}
use mathlib.Core.List.{List}
use Prim.Native.Nat.{ℕ, ◌≤◌}
use native.Mathlib.Omega.{arith}
use lib.ListN.{length}
use Rattle.ring.specs.Invertible.{inverse_of}
use Rattle.ring.proofs.RingLaws.{inverse-times}
use Rattle.ring.proofs.Spectra.{coefficients_through}
use Rattle.ntt.specs.Spectrum.{spectrum_of, coefficients_of}
use Rattle.records.specs.Layout.{secret_key_version, secret_key_length}
use Rattle.records.specs.Records.{second_of}
use Rattle.secret_keys.specs.SecretKeys.{KeyElements, elements_of, version_answer}
use Rattle.secret_keys.specs.WellFormed.{WellFormedAs}
use Rattle.secret_keys.proofs.Checks.{version_in}
use Rattle.secret_keys.proofs.VersionLaws.{version-done}
use Rattle.secret_keys.proofs.ElementLaws.{elements_of_lem}
use Rattle.answers.specs.Answers.{Done}

-- a, b and s are there
pub long_enough : (expanded : Bool) (k : List ℕ) → version_answer (version_in expanded) k ≡ Done → secret_key_length ≤ length k
long_enough expanded k done = of expanded ((version-done k expanded).0 done).0
  where
    of : (expanded : Bool) → WellFormedAs expanded k → secret_key_length ≤ length k
    of false w = omega (arith, w.size)
    of true w = omega (arith, w.size)

-- the inverse that is read, from its spectrum
pub inverse-read : (k : List ℕ) → version_answer secret_key_version k ≡ Done → coefficients_of (spectrum_of (elements_of k).inverse) ≡ inverse_of (second_of k)
inverse-read k done =
    let (w, unit, matches) = (version-done k false).0 done in
    ap (λ (p : KeyElements). coefficients_of (spectrum_of p.inverse)) (elements_of_lem k false w)
    ∙ coefficients_through (inverse_of (second_of k)) (inverse-times (second_of k) unit).0
