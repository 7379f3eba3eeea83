-- What is promised of the scheme over a setting: the record `Promises` at the end, proved from `Givens` in proofs/Promises.
use Rattle.std.specs.Prelude.{◌≡◌, true, List, ◌↔◌, ℕ, ◌+◌, ◌*◌}
use Rattle.exactness.specs.Setting.{Setting, Element, Within, Bounded, Ternary, weight, sum, difference, multiple}
use Rattle.exactness.specs.Scheme.{Triple, found, failed, key_element, key_error, masked, summed, phase, recovered_r, recovered_e1}
use Rattle.exactness.specs.Scheme.{decapsulation, TernaryTriple, Formula, Encapsulates, HasTriple, Matches, SoundKey}

module _ (S : Setting) where
  -- ---- exactness: decapsulation answers by whether there is a triple

  pub record Exact (a b i s c1 c2 : List ℕ) (dummy : Triple) : Type 0 where
    -- a triple is found exactly when it is ternary and the published formula turns it into (c1, c2)
    pub opens : (t : Triple) → Encapsulates S a b c1 c2 t ↔ (decapsulation S a b i s dummy c1 c2 ≡ found t)
    -- some triple is found exactly when there is one
    pub answers : HasTriple S a b c1 c2 ↔ ((t : Triple) × (decapsulation S a b i s dummy c1 c2 ≡ found t))
    -- decapsulation fails exactly when there is none
    pub refuses : ¬ (HasTriple S a b c1 c2) ↔ (decapsulation S a b i s dummy c1 c2 ≡ failed)
    -- there is one at most
    pub unique : (t u : Triple) → Encapsulates S a b c1 c2 t → Encapsulates S a b c1 c2 u → t ≡ u
    -- the dummy has no part in the outcome
    pub dummy_free : (other : Triple) → TernaryTriple S other → decapsulation S a b i s dummy c1 c2 ≡ decapsulation S a b i s other c1 c2

  -- ---- the triple R, E1, E2 that the formula turns into the sums of step 1

  pub record TripleWithin (k : ℕ) (t : Triple) : Type 0 where
    pub r_bounded : Bounded S k t.r
    pub e1_bounded : Bounded S k t.e1
    pub e2_bounded : Bounded S k t.e2

  -- the triple of (c1, c2) plus the dummy
  unfoldable pub sums : Triple → Triple → Triple
  sums t dummy = record {
    r = sum S t.r dummy.r;
    e1 = sum S t.e1 dummy.e1;
    e2 = sum S t.e2 dummy.e2;
  }

  pub record Step1 (a b c1 c2 : List ℕ) (t dummy : Triple) : Type 0 where
    pub within : TripleWithin 2 (sums t dummy)
    pub formula : Formula S a b (summed S a dummy.r dummy.e1 c1) (summed S b dummy.r dummy.e2 c2) (sums t dummy)

  -- ---- the phase, m of step 2

  -- m of step 2, where the formula turns R, E1, E2 into the sums
  abbrev pub phase_of : (a b s : List ℕ) (t : Triple) → List ℕ
  phase_of a b s t = phase S (masked S b t.r t.e2) (S.product (masked S a t.r t.e1) s)

  -- w = e × R - E1 × s
  unfoldable pub phase_quotient : (s e : List ℕ) (t : Triple) → List ℕ
  phase_quotient s e t = difference S (S.product e t.r) (S.product t.e1 s)

  -- for b = 5 × (a × s + e), where the rule makes coefficients at most κ times as large
  pub record NoiseBound (κ : ℕ) (a s e : List ℕ) (t : Triple) : Type 0 where
    -- m = E2 + 5 × w
    pub split : phase_of a (key_element S a s e) s t ≡ sum S t.e2 (multiple S 5 (phase_quotient s e t))
    -- w is at most 2 κ times the weight of s and e in size, and so m at most 2 + 10 κ times that
    pub quotient-bound : Within S (2 * κ * (weight S s + weight S e)) (phase_quotient s e t)
    pub bound : Within S (2 + 10 * κ * (weight S s + weight S e)) (phase_of a (key_element S a s e) s t)

  -- ---- recovery: steps 2 to 4 find R, E1, E2 in the sums. Of s they see only its product with the first sum

  pub record Recovers (a b i s : List ℕ) (t : Triple) : Type 0 where
    pub finds-e2 : S.remainders (phase_of a b s t) ≡ t.e2
    pub finds-r : recovered_r S i (masked S b t.r t.e2) t.e2 ≡ t.r
    pub finds-e1 : recovered_e1 S a (masked S a t.r t.e1) t.r ≡ t.e1

  -- ---- the promises

  pub record Promises (κ : ℕ) : Type 0 where
    -- for a sound key, elements c1 and c2, and any ternary dummy
    pub exact : (a b i s c1 c2 : List ℕ) (dummy : Triple) → SoundKey S a b i s → Element S c1 → Element S c2 → TernaryTriple S dummy
        → Exact a b i s c1 c2 dummy
    -- even among triples between - 2 and 2, the formula turns no two into the same (c1, c2)
    pub unique-within_2 : (a b i s c1 c2 : List ℕ) (t u : Triple) → SoundKey S a b i s → TripleWithin 2 t → TripleWithin 2 u
        → Formula S a b c1 c2 t → Formula S a b c1 c2 u → t ≡ u
    -- what is found is ternary, whatever the key, c1, c2 and the dummy
    pub found-ternary : (a b i s : List ℕ) (dummy : Triple) (c1 c2 : List ℕ) (t : Triple) → decapsulation S a b i s dummy c1 c2 ≡ found t
        → TernaryTriple S t
    -- step 1, for an encapsulation of a ternary triple and any ternary dummy
    pub step1 : (a b c1 c2 : List ℕ) (t dummy : Triple) → Element S a → Element S b → Encapsulates S a b c1 c2 t → TernaryTriple S dummy
        → Step1 a b c1 c2 t dummy
    -- m, by weight; for a sound key it is at most 2 + 20 κ n in size
    pub noise-bound : (a s e : List ℕ) (t : Triple) → Element S a → Element S s → Element S e → TripleWithin 2 t → NoiseBound κ a s e t
    pub largest-phase : (a b i s : List ℕ) (t : Triple) → SoundKey S a b i s → TripleWithin 2 t → Within S (2 + 20 * κ * S.n) (phase_of a b s t)
    -- steps 2 to 4, for a sound key
    pub recovers : (a b i s : List ℕ) (t : Triple) → SoundKey S a b i s → TripleWithin 2 t → Recovers a b i s t
    -- the key check: b ÷ 5 - a × s is ternary exactly when b = 5 × (a × s + e) for some ternary e, for an element b and all a and s;
    -- that e is what the key was made with
    pub key-check : (a b s : List ℕ) → Element S b → (S.is_within 1 (key_error S a b s) ≡ true) ↔ Matches S a b s
    pub key_error_is : (a s e : List ℕ) → Ternary S e → key_error S a (key_element S a s e) s ≡ e
