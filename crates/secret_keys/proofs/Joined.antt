-- What is read of a key, in the words of specs/SecretKeys.
use mathlib.Core.Path.{◌≡◌, refl, sym, ap, ap₂, ◌∙◌}
use mathlib.Core.Bool.{Bool, false, true, decide}
use mathlib.Core.List.{List}
use Prim.Native.Nat.{ℕ}
use lib.Dec.{eqb}
use borrow.Author.Tests.{eq-eqb, ne_eqb}
use Rattle.std.specs.Prelude.{Result, Ok, Err}
use Rattle.ntt.specs.Spectrum.{spectrum_of}
use Rattle.ring.specs.Invertible.{is_invertible, is_inverse}
use Rattle.ring.proofs.Transforms.{zero_decides, inverse-spectrum}
use Rattle.ring.proofs.Inverses.{inverse_through}
use Rattle.encoding.specs.Header.{version_of}
use Rattle.encoding.proofs.Words.{length-element_of}
use Rattle.answers.specs.declared.Refusal.{Refusal}
use Rattle.answers.specs.declared.Refusal.TheVariants.{NotInvertible, KeyMismatch, InverseMismatch}
use Rattle.answers.specs.Answers.{unless, and_then, Answer, Done}
use Rattle.answers.proofs.AnswerLaws.{unless-then, then_passed, then-failed, on_done_lem}
use Rattle.records.specs.Layout.{expanded_key_version}
use Rattle.records.specs.Records.{first_of, second_of, secret_of, stored_inverse, codes_part, codes_answer}
use Rattle.ring.specs.Centred.{is_within}
use Rattle.scheme.specs.Scheme.{key_error}
use Rattle.scheme.specs.declared.SecretKey.{SecretKey}
use Rattle.secret_keys.specs.declared.Parts.{Parts}
use Rattle.lists.proofs.Equal.{ap₃}
use Rattle.secret_keys.specs.SecretKeys.{is_expanded, layout_answer, inverse_in, parts_of, no_elements, elements_of}
use Rattle.secret_keys.specs.SecretKeys.{secret_words_answer, unit_answer, match_answer, content_answer, secret_answer}
use Rattle.secret_keys.specs.Read.{stored_in, parts_in, parts_answer, inverse_by, inverse_answer, spectra_of}

-- the version that was looked at
module _ (k : List ℕ) where
  pub expanded_by : {v : ℕ} → v ≡ version_of k → v ≡ expanded_key_version → is_expanded k ≡ true
  expanded_by {v} e same = ap (λ (w : ℕ). eqb w expanded_key_version) (sym e) ∙ eq-eqb v expanded_key_version same

  pub plain_by : {v : ℕ} → v ≡ version_of k → ¬ (v ≡ expanded_key_version) → is_expanded k ≡ false
  plain_by {v} e other = ap (λ (w : ℕ). eqb w expanded_key_version) (sym e) ∙ ne_eqb v expanded_key_version other

-- ---- the inverse of b, by the spectrum of b

pub inverse-read : (expanded : Bool) (k : List ℕ)
    → inverse_by (stored_in expanded k) (spectrum_of (second_of k)) ≡ and_then (unit_answer expanded k) (Ok (spectrum_of (inverse_in expanded k)))
unfolding unit_answer
inverse-read false k =
    let size = length-element_of _ in
    let give : Bool → List ℕ → Result (List ℕ) Refusal = λ t x. unless t NotInvertible (Ok x) in
    ap₂ give (zero_decides (second_of k) size) (inverse-spectrum (second_of k) size) ∙ sym (unless-then (decide (is_invertible (second_of k))) NotInvertible (Ok (spectrum_of (inverse_in false k))))
inverse-read true k =
    let give : Bool → Result (List ℕ) Refusal = λ t. unless t InverseMismatch (Ok (spectrum_of (stored_inverse k))) in
    ap give (inverse_through (second_of k) (stored_inverse k) (length-element_of _) (length-element_of _)) ∙ sym (unless-then (decide (is_inverse (second_of k) (stored_inverse k))) InverseMismatch (Ok (spectrum_of (stored_inverse k))))

pub inverse-answered : (expanded : Bool) (k : List ℕ) → inverse_answer (stored_in expanded k) (spectrum_of (second_of k)) ≡ unit_answer expanded k
unfolding unit_answer
inverse-answered false k = ap (λ (t : Bool). unless t NotInvertible Done) (zero_decides (second_of k) (length-element_of _))
inverse-answered true k =
    ap (λ (t : Bool). unless t InverseMismatch Done) (inverse_through (second_of k) (stored_inverse k) (length-element_of _) (length-element_of _))

-- ---- the key

-- its checks, as they are made
pub then-assoc : (a b c : Answer) → and_then (and_then a b) c ≡ and_then a (and_then b c)
then-assoc (Ok _) b c = refl
then-assoc (Err r) b c = refl

pub secret-in_parts : (k : List ℕ) → secret_answer k
    ≡ and_then (layout_answer k) (and_then (parts_answer (is_expanded k) k) (and_then (unit_answer (is_expanded k) k) (match_answer k)))
unfolding secret_answer content_answer parts_answer
secret-in_parts k = ap (and_then (layout_answer k)) (sym (then-assoc (secret_words_answer (is_expanded k) k) (codes_answer (codes_part k)) (and_then (unit_answer (is_expanded k) k) (match_answer k))))

pub elements-read : (k : List ℕ) → layout_answer k ≡ Done → elements_of k ≡ parts_of (is_expanded k) k
unfolding elements_of
elements-read k layout = on_done_lem (parts_of (is_expanded k) k) no_elements layout

abbrev key_with : (a b s inverse : List ℕ) → SecretKey
key_with a b s inverse = record { a = a; b = b; s = s; inverse = inverse }

-- what is answered, by the first check that refuses
module _ (k : List ℕ) where
  pub layout-refused : {r : Refusal} → layout_answer k ≡ Err r → secret_answer k ≡ Err r
  layout-refused layout = secret-in_parts k ∙ then-failed (and_then (parts_answer (is_expanded k) k) (and_then (unit_answer (is_expanded k) k) (match_answer k))) layout

  behind_layout : layout_answer k ≡ Done
      → secret_answer k ≡ and_then (parts_answer (is_expanded k) k) (and_then (unit_answer (is_expanded k) k) (match_answer k))
  behind_layout layout = secret-in_parts k ∙ then_passed (and_then (parts_answer (is_expanded k) k) (and_then (unit_answer (is_expanded k) k) (match_answer k))) layout

  pub parts-refused : {r : Refusal} → layout_answer k ≡ Done → parts_answer (is_expanded k) k ≡ Err r → secret_answer k ≡ Err r
  parts-refused layout parts = behind_layout layout ∙ then-failed (and_then (unit_answer (is_expanded k) k) (match_answer k)) parts

  behind-parts : layout_answer k ≡ Done → parts_answer (is_expanded k) k ≡ Done → secret_answer k ≡ and_then (unit_answer (is_expanded k) k) (match_answer k)
  behind-parts layout parts = behind_layout layout ∙ then_passed (and_then (unit_answer (is_expanded k) k) (match_answer k)) parts

  pub unit-refused : {r : Refusal} → layout_answer k ≡ Done → parts_answer (is_expanded k) k ≡ Done → unit_answer (is_expanded k) k ≡ Err r → secret_answer k ≡ Err r
  unit-refused layout parts unit = behind-parts layout parts ∙ then-failed (match_answer k) unit

  pub matched : layout_answer k ≡ Done → parts_answer (is_expanded k) k ≡ Done → unit_answer (is_expanded k) k ≡ Done → secret_answer k ≡ match_answer k
  matched layout parts unit = behind-parts layout parts ∙ then_passed (match_answer k) unit

  -- the parts that were read, and what is made of them
  module _ {parts : Parts} (read : parts ≡ parts_in (is_expanded k) k) {b : List ℕ} (through : b ≡ spectrum_of parts.b) where
    pub inverse-by : inverse_by parts.stored b ≡ and_then (unit_answer (is_expanded k) k) (Ok (spectrum_of (inverse_in (is_expanded k) k)))
    inverse-by =
        ap (inverse_by parts.stored) through ∙ ap (λ (p : Parts). inverse_by p.stored (spectrum_of p.b)) read ∙ inverse-read (is_expanded k) k

    pub inverse-said : inverse_answer parts.stored b ≡ unit_answer (is_expanded k) k
    inverse-said =
        ap (inverse_answer parts.stored) through ∙ ap (λ (p : Parts). inverse_answer p.stored (spectrum_of p.b)) read ∙ inverse-answered (is_expanded k) k

  pub matches-said : {parts : Parts} {t : Bool} → parts ≡ parts_in (is_expanded k) k → t ≡ is_within 1 (key_error parts.a parts.b parts.s)
      → unless t KeyMismatch Done ≡ match_answer k
  unfolding match_answer
  matches-said read e =
      ap (λ (t : Bool). unless t KeyMismatch Done) (e ∙ ap (λ (p : Parts). is_within 1 (key_error p.a p.b p.s)) read)

  pub spectra-read : {parts : Parts} {a b s inverse : List ℕ} → layout_answer k ≡ Done → parts ≡ parts_in (is_expanded k) k
      → (a ≡ spectrum_of parts.a) × (b ≡ spectrum_of parts.b) × (s ≡ spectrum_of parts.s) → inverse ≡ spectrum_of (inverse_in (is_expanded k) k)
      → key_with a b s inverse ≡ spectra_of (elements_of k)
  spectra-read {inverse = inverse} layout read (ea, eb, es) ei =
      ap₃ (λ (x y z : List ℕ). key_with x y z inverse) ea eb es
      ∙ ap (λ (p : Parts). key_with (spectrum_of p.a) (spectrum_of p.b) (spectrum_of p.s) inverse) read
      ∙ ap (key_with (spectrum_of (first_of k)) (spectrum_of (second_of k)) (spectrum_of (secret_of k))) ei
      ∙ ap spectra_of (sym (elements-read k layout))
