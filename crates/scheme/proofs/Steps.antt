-- The steps of the scheme as the code takes them: through spectra.
use mathlib.Core.Path.{◌≡◌, refl, sym, ap, ap₂, ◌∙◌}
use mathlib.Core.Bool.{Bool, true, false, ◌&&◌}
use mathlib.Core.List.{List}
use Prim.Native.Nat.{ℕ}
use lib.IntN.{ℤ}
use Rattle.std.specs.Prelude.{Option}
use Rattle.std.specs.Bool.{then_some}
use lib.ListN.{length}
use Rattle.exactness.specs.Scheme as AnySetting
use Rattle.exactness.specs.Scheme.{provided}
use Rattle.ntt.specs.Spectrum.{spectrum_of, coefficients_of, pointwise}
use Rattle.ntt.proofs.Spectrum.{length-spectrum, length-pointwise, coefficients_of-spectrum}
use Rattle.ring.specs.Ring.{n, fifth, sum, difference, multiple, product}
use Rattle.ring.proofs.RingLaws.{sum-element, difference-element, multiple-element, sum_swapped}
use Rattle.ring.proofs.Transforms.{product_by-spectra, left_through, right_through}
use Rattle.ring.proofs.Spectra.{difference-reduced, coefficients_through, spectrum_through, coefficients_of-sum, coefficients_of-difference, coefficients_of-multiple}
use Rattle.scheme.specs.declared.Triple as Struct
use Rattle.scheme.specs.declared.Decapsulation.{Decapsulation}
use Rattle.scheme.specs.Answers.{triple_of, answer}
use Rattle.scheme.specs.Scheme.{Triple, Outcome, found, failed, key_error, masked, summed, phase, core, decapsulation, recovered, recovers, without_dummy, is_ternary, judged, step2}

-- triples are known by their parts
pub triple-same : {t u : Triple} → t.r ≡ u.r → t.e1 ≡ u.e1 → t.e2 ≡ u.e2 → t ≡ u
triple-same {t} {u} r e1 e2 =
    ap (λ (x : List ℕ). make x t.e1 t.e2) r ∙ ap (λ (x : List ℕ). make u.r x t.e2) e1 ∙ ap (make u.r u.e1) e2
  where
    make : List ℕ → List ℕ → List ℕ → Triple
    make r e1 e2 = record { r = r; e1 = e1; e2 = e2 }

-- a × r + e, from the spectrum v of r
pub masked_by-spectra : (a r e v p x : List ℕ) → length r ≡ n → v ≡ spectrum_of r → p ≡ product (coefficients_of a) (coefficients_of v) → x ≡ sum p e
    → x ≡ masked (coefficients_of a) r e
unfolding AnySetting.masked
masked_by-spectra a r e v p x size ev ep ex =
    ex ∙ ap (λ (y : List ℕ). sum y e) (ep ∙ ap (λ (w : List ℕ). product (coefficients_of a) (coefficients_of w)) ev ∙ right_through (coefficients_of a) r size)

-- b ÷ 5 - a × s, from the spectra of a and s
pub error_through : (a b s : List ℕ) → length a ≡ n → length s ≡ n → key_error (coefficients_of (spectrum_of a)) b (coefficients_of (spectrum_of s)) ≡ key_error a b s
unfolding AnySetting.key_error
error_through a b s ha hs = ap (difference (multiple fifth b)) (left_through a (coefficients_of (spectrum_of s)) ha ∙ right_through a s hs)

-- ---- decapsulation, with the sums as spectra

-- step 1: c + (a × r + e), from the spectra v of r and w of c + e
pub summed_by-spectra : (a r e c v w p x : List ℕ) → length a ≡ n → length r ≡ n → v ≡ spectrum_of r → w ≡ spectrum_of (sum c e) → p ≡ pointwise a v → x ≡ sum p w
    → x ≡ spectrum_of (summed (coefficients_of a) r e c)
unfolding AnySetting.summed AnySetting.masked
summed_by-spectra a r e c v w p x ha hr ev ew ep ex =
    let v' = spectrum_of r in
    let size = length-spectrum r hr in
    ex ∙ ap₂ sum (ep ∙ ap (pointwise a) ev) ew
    ∙ sym (spectrum_through _ (sum-element (pointwise a v') (spectrum_of (sum c e))))
    ∙ ap spectrum_of
    (coefficients_of-sum (pointwise a v') (spectrum_of (sum c e)) (length-pointwise a v') (length-spectrum (sum c e) (sum-element c e).size)
    ∙ ap₂ sum (product_by-spectra a v' ha size ∙ right_through (coefficients_of a) r hr) (coefficients_through (sum c e) (sum-element c e))
    ∙ sum_swapped (product (coefficients_of a) r) c e)

-- step 2: m = s2 - 5 × p
pub phase_by-spectra : (v p : List ℕ) → length v ≡ n → length p ≡ n → coefficients_of (difference v (multiple 5 p)) ≡ phase (coefficients_of v) (coefficients_of p)
unfolding AnySetting.phase
phase_by-spectra v p hv hp =
    coefficients_of-difference v (multiple 5 p) hv (multiple-element 5 p).size ∙ ap (difference (coefficients_of v)) (coefficients_of-multiple 5 p hp)

-- step 4: R, from the spectrum w of E2
pub r_by-spectra : (i v e2 w : List ℕ) → length i ≡ n → length v ≡ n → length e2 ≡ n → w ≡ spectrum_of e2
    → coefficients_of (pointwise (difference v w) i) ≡ product (difference (coefficients_of v) e2) (coefficients_of i)
r_by-spectra i v e2 w hi hv he ew =
    ap (λ (x : List ℕ). coefficients_of (pointwise (difference v x) i)) ew
    ∙ product_by-spectra (difference v (spectrum_of e2)) i (difference-element v (spectrum_of e2)).size hi
    ∙ ap (λ (x : List ℕ). product x (coefficients_of i))
    (coefficients_of-difference v (spectrum_of e2) hv (length-spectrum e2 he)
    ∙ ap (difference (coefficients_of v)) (coefficients_of-spectrum e2 he) ∙ difference-reduced (coefficients_of v) e2)

-- .. and E1, from the spectrum r of R
pub e1_by-spectra : (a v r : List ℕ) → length a ≡ n → length v ≡ n → length r ≡ n
    → coefficients_of (difference v (pointwise a r)) ≡ difference (coefficients_of v) (product (coefficients_of a) (coefficients_of r))
e1_by-spectra a v r ha hv hr =
    coefficients_of-difference v (pointwise a r) hv (length-pointwise a r) ∙ ap (difference (coefficients_of v)) (product_by-spectra a r ha hr)

-- the sums are elements
pub summed_through : (a r e c : List ℕ) → coefficients_of (spectrum_of (summed a r e c)) ≡ summed a r e c
unfolding AnySetting.summed
summed_through a r e c = coefficients_through _ (sum-element c (masked a r e))

pub summed-size : (a r e c v : List ℕ) → v ≡ spectrum_of (summed a r e c) → length v ≡ n
unfolding AnySetting.summed
summed-size a r e c v h = ap length h ∙ length-spectrum _ (sum-element c (masked a r e)).size

-- the two tests
judged_by : (dummy t : Triple) (x y : Bool) → recovers t ≡ x → is_ternary (without_dummy dummy t) ≡ y
    → judged dummy t ≡ provided x (provided y (found (without_dummy dummy t)))
unfolding AnySetting.judged
judged_by dummy t x y ex ey = ap₂ (λ (x y : Bool). provided x (provided y (found (without_dummy dummy t)))) ex ey

-- what the code makes of both tests
abbrev pub decapsulated : Option Struct.Triple → List ℤ → Decapsulation
decapsulated t w = record { triple = t; quotients = w }

pub judged-answer : (dummy t : Triple) (u : Struct.Triple) (w : List ℤ) {b : Bool} → triple_of u ≡ without_dummy dummy t
    → b ≡ recovers t && is_ternary (without_dummy dummy t) → decapsulated (then_some b u) w ≡ answer (judged dummy t) w
judged-answer dummy t u w same tests =
    ap (λ (b : Bool). decapsulated (then_some b u) w) tests ∙ by (recovers t) (is_ternary (without_dummy dummy t)) refl refl
  where
    by : (x y : Bool) → recovers t ≡ x → is_ternary (without_dummy dummy t) ≡ y
        → decapsulated (then_some (recovers t && is_ternary (without_dummy dummy t)) u) w ≡ answer (judged dummy t) w
    by x y ex ey = ap₂ (λ (x y : Bool). decapsulated (then_some (x && y) u) w) ex ey ∙ at x y ∙ sym (ap (λ (o : Outcome). answer o w) (judged_by dummy t x y ex ey))
      where
        at : (x y : Bool) → decapsulated (then_some (x && y) u) w ≡ answer (provided x (provided y (found (without_dummy dummy t)))) w
        at true true = ap (λ (x : Triple). answer (found x) w) same
        at true false = refl
        at false y = refl

-- ---- a key that went through its spectra and back is the same key: its elements stand only in products

pub masked_through : (x : List ℕ) → length x ≡ n → (r e : List ℕ) → masked (coefficients_of (spectrum_of x)) r e ≡ masked x r e
unfolding AnySetting.masked
masked_through x size r e = ap (λ (y : List ℕ). sum y e) (left_through x r size)

summed_by-key : (x : List ℕ) → length x ≡ n → (r e c : List ℕ) → summed (coefficients_of (spectrum_of x)) r e c ≡ summed x r e c
unfolding AnySetting.summed
summed_by-key x size r e c = ap (sum c) (masked_through x size r e)

-- m of step 2
pub step2_through : (a b s : List ℕ) → length a ≡ n → length b ≡ n → length s ≡ n → (dummy : Triple) (c1 c2 : List ℕ)
    → step2 (coefficients_of (spectrum_of a)) (coefficients_of (spectrum_of b)) (coefficients_of (spectrum_of s)) dummy c1 c2 ≡ step2 a b s dummy c1 c2
step2_through a b s ha hb hs dummy c1 c2 =
    ap₂ phase (summed_by-key b hb dummy.r dummy.e2 c2)
    (ap (λ (x : List ℕ). product x (coefficients_of (spectrum_of s))) (summed_by-key a ha dummy.r dummy.e1 c1)
    ∙ right_through (summed a dummy.r dummy.e1 c1) s hs)

module _ (a b i s : List ℕ) (ha : length a ≡ n) (hb : length b ≡ n) (hi : length i ≡ n) (hs : length s ≡ n) where
  recovered_through : (s1 s2 e2 : List ℕ) → recovered (coefficients_of (spectrum_of a)) (coefficients_of (spectrum_of i)) s1 s2 e2 ≡ recovered a i s1 s2 e2
  unfolding AnySetting.recovered AnySetting.recovered_r AnySetting.recovered_e1
  recovered_through s1 s2 e2 =
      let r = right_through (difference s2 e2) i hi in
      triple-same r (ap (difference s1) (left_through a _ ha ∙ ap (product a) r)) refl

  pub decapsulation_through : (dummy : Triple) (c1 c2 : List ℕ)
      → decapsulation (coefficients_of (spectrum_of a)) (coefficients_of (spectrum_of b)) (coefficients_of (spectrum_of i)) (coefficients_of (spectrum_of s)) dummy c1 c2
      ≡ decapsulation a b i s dummy c1 c2
  unfolding AnySetting.decapsulation AnySetting.core
  decapsulation_through dummy c1 c2 =
      ap₂ (λ (s1 s2 : List ℕ). core (coefficients_of (spectrum_of a)) (coefficients_of (spectrum_of i)) dummy s1 s2 (product s1 (coefficients_of (spectrum_of s))))
      (summed_by-key a ha dummy.r dummy.e1 c1) (summed_by-key b hb dummy.r dummy.e2 c2)
      ∙ ap (core (coefficients_of (spectrum_of a)) (coefficients_of (spectrum_of i)) dummy s1 s2) (right_through s1 s hs)
      ∙ ap (judged dummy) (recovered_through s1 s2 _)
    where
      s1 : List ℕ
      s1 = summed a dummy.r dummy.e1 c1

      s2 : List ℕ
      s2 = summed b dummy.r dummy.e2 c2
