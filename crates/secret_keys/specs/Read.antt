-- What the functions of src/lib.rt read of a key, each where the checks before it pass.
use Rattle.std.specs.Prelude.{Bool, true, false, not, List, ℕ, Option, Some, None, Result, Ok}
use Rattle.std.proofs.Math.Bool.{decide}
use Rattle.ntt.specs.Spectrum.{spectrum_of, coefficients_of}
use Rattle.ring.specs.Reciprocals.{has_zero, reciprocals_of}
use Rattle.ring.specs.Invertible.{is_inverse}
use Rattle.scheme.specs.declared.SecretKey.{SecretKey}
use Rattle.answers.specs.declared.Refusal.{Refusal}
use Rattle.answers.specs.declared.Refusal.TheVariants.{NotInvertible, InverseMismatch}
use Rattle.answers.specs.Answers.{unless, and_then, Answer, Done}
use Rattle.records.specs.Records.{first_of, second_of, codes_part, secret_of, stored_inverse, codes_answer}
use Rattle.secret_keys.specs.SecretKeys.{KeyElements, secret_words_answer}
use Rattle.secret_keys.specs.declared.Parts.{Parts}

-- the inverse that version 2 stores
abbrev pub stored_in : (expanded : Bool) (key : List ℕ) → Option (List ℕ)
stored_in false k = None
stored_in true k = Some (stored_inverse k)

abbrev pub parts_in : (expanded : Bool) (key : List ℕ) → Parts
parts_in expanded k = record { a = first_of k; b = second_of k; s = secret_of k; stored = stored_in expanded k }

-- 4, then 5
unfoldable pub parts_answer : (expanded : Bool) (key : List ℕ) → Answer
parts_answer expanded k = and_then (secret_words_answer expanded k) (codes_answer (codes_part k))

-- ---- the inverse of b, by the spectrum of b: what is answered to it, and its spectrum

-- it is stored
abbrev pub stored_spectrum : (stored b : List ℕ) → Result (List ℕ) Refusal
stored_spectrum i b = unless (decide (is_inverse (coefficients_of b) (coefficients_of (spectrum_of i)))) InverseMismatch (Ok (spectrum_of i))

-- .. or worked out
abbrev pub inverse_by : (stored : Option (List ℕ)) (b : List ℕ) → Result (List ℕ) Refusal
inverse_by None b = unless (not (has_zero b)) NotInvertible (Ok (reciprocals_of b))
inverse_by (Some i) b = stored_spectrum i b

abbrev pub inverse_answer : (stored : Option (List ℕ)) (b : List ℕ) → Answer
inverse_answer None b = unless (not (has_zero b)) NotInvertible Done
inverse_answer (Some i) b = unless (decide (is_inverse (coefficients_of b) (coefficients_of (spectrum_of i)))) InverseMismatch Done

-- ---- the key

abbrev pub spectra_of : KeyElements → SecretKey
spectra_of k = record { a = spectrum_of k.a; b = spectrum_of k.b; s = spectrum_of k.s; inverse = spectrum_of k.inverse }
