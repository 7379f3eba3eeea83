-- The noise bound at 1,024 coefficients.
use mathlib.Core.Path.{◌≡◌, refl, sym, ap, ap₂, ◌∙◌}
use mathlib.Core.Bool.{Bool, true, false, cond}
use mathlib.Core.Logic.{◌⊎◌, inl, inr}
use mathlib.Core.List.{List, [], ◌∷◌}
use Prim.Native.Nat.{ℕ, suc, ◌+◌, ◌-◌, ◌*◌, ◌%◌, ◌≤◌, ◌<◌}
use native.Mathlib.Nat.{mod-eq_of_lt}
use native.Mathlib.Omega.{arith}
use lib.Dec.{eqb}
use lib.IntN.{ℤ, pos, nat_abs, ◌+ℤ◌, ◌*ℤ◌}
use lib.ListN.{length, get_or}
use Rattle.algebra.specs.Numbers.{sum_below}
use Rattle.algebra.specs.Size.{magnitude}
use Rattle.exactness.specs.Setting.{weight}
use Rattle.exactness.specs.Scheme.{SoundKey, TernaryTriple, Encapsulates}
use Rattle.exactness.specs.Promises as P
use Rattle.exactness.specs.Promises.{TripleWithin, sums, Step1}
use Rattle.exactness.proofs.Identities.{key_of_error}
use Rattle.exactness.proofs.Sizes.{within-up, weight-bound}
use Rattle.exactness.proofs.KeyCheck.{error-ternary}
use Rattle.ring.specs.Ring.{q, n}
use Rattle.ring.specs.Centred.{centred, residue, quotient_of, quotients, Within, Ternary}
use Rattle.ring.specs.Division.{QuotientsWithin}
use Rattle.ring.proofs.Integers.{abs-plus, abs-multiple}
use Rattle.ring.proofs.Centring.{centred-same, centred-size, residue-below, centred-residue, residue-combination}
use Rattle.ring.proofs.QuotientLaws.{quotient-unique, quotients-at}
use Rattle.ring.proofs.Ternaries.{ternary_entry}
use Rattle.scheme.specs.Scheme.{Triple, setting, key_element, key_error, step2}
use Rattle.scheme.specs.Noise.{nonzeros, key_weight, phase_of, phase_quotient, NoiseBound, DecapsulationPhase}
use Rattle.scheme.proofs.Givens.{givens, combination-at, magnitude-at}
use Rattle.scheme.proofs.Promises.{promises}

-- ---- the weight of a ternary element is the number of its coefficients that are not 0

one_each : (x : ℕ) → x ≡ 0 ⊎ x ≡ 1 ⊎ x ≡ q - 1 → nat_abs (centred x) ≡ cond (eqb x 0) 0 1
one_each x (inl e) = rw e (centred-size 0)
one_each x (inr (inl e)) = rw e (centred-size 1)
one_each x (inr (inr e)) = rw e (centred-size (q - 1))

sum-nonzeros : (l : List ℕ) → ((i : ℕ) → i < length l → nat_abs (centred (get_or l i 0)) ≡ cond (eqb (get_or l i 0) 0) 0 1)
    → sum_below (length l) (λ i. nat_abs (centred (get_or l i 0))) ≡ nonzeros l
unfolding sum_below nonzeros
sum-nonzeros [] h = refl
sum-nonzeros (x ∷ l) h = ap₂ (λ (x y : ℕ). x + y) (h 0 (omega arith)) (sum-nonzeros l (λ i g. h (suc i) (omega arith))) ∙ add (eqb x 0)
  where
    add : (b : Bool) → cond b 0 1 + nonzeros l ≡ cond b (nonzeros l) (suc (nonzeros l))
    add true = omega arith
    add false = omega arith

weight-nonzeros : (a : List ℕ) → Ternary a → weight setting a ≡ nonzeros a
unfolding weight
weight-nonzeros a h =
    ap (λ (m : ℕ). sum_below m (λ i. nat_abs (centred (get_or a i 0)))) (sym h.0.size)
    ∙ sum-nonzeros a (λ i g. one_each (get_or a i 0) (ternary_entry a h i (omega (arith, h.0.size))))

-- ---- m as integers: nothing wraps

centred-combination : (c e w : ℕ) → c % q ≡ (e + 5 * w) % q → magnitude q e ≤ 2 → magnitude q w ≤ 4096 → centred c ≡ centred e +ℤ pos 5 *ℤ centred w
centred-combination c e w h he hw =
    centred-same c (residue total) (h ∙ sym (residue-combination e 5 w) ∙ sym (mod-eq_of_lt (residue-below total))) ∙ centred-residue total bound
  where
    total : ℤ
    total = centred e +ℤ pos 5 *ℤ centred w

    bound : nat_abs total ≤ 29696
    bound = omega (arith, abs-plus (centred e) (pos 5 *ℤ centred w), abs-multiple 5 (centred w), centred-size e, centred-size w)

-- ---- for a sound key, and R, E1, E2 between - 2 and 2

module _ (a b i s : List ℕ) (key : SoundKey setting a b i s) (t : Triple) (h : TripleWithin setting 2 t) where
  e : List ℕ
  e = key_error a b s

  e-ternary : Ternary e
  unfolding e
  e-ternary = error-ternary setting givens a b s key.matches

  -- the bound of crate exactness
  any : P.NoiseBound setting 1 a s e t
  any = promises.noise-bound a s e t key.a-element key.s-ternary.0 e-ternary.0 h

  key_is : key_element a s e ≡ b
  unfolding e
  key_is = key_of_error setting givens a b s key.b-element

  weights : weight setting s + weight setting e ≡ key_weight a b s
  unfolding key_weight e
  weights = ap₂ (λ (x y : ℕ). x + y) (weight-nonzeros s key.s-ternary) (weight-nonzeros e e-ternary)

  weight-most : key_weight a b s ≤ 2048
  weight-most = omega (arith, weights, weight-bound setting 1 s key.s-ternary.1, weight-bound setting 1 e e-ternary.1)

  quotient-most : Within (2 * key_weight a b s) (phase_quotient a b s t)
  unfolding e
  quotient-most = rw weights at any.quotient-bound

  phase-most : Within (2 + 10 * key_weight a b s) (phase_of a b s t)
  phase-most = rw (weights, key_is) at any.bound

  split_at : (k : ℕ) → k < n → centred (get_or (phase_of a b s t) k 0) ≡ centred (get_or t.e2 k 0) +ℤ pos 5 *ℤ centred (get_or (phase_quotient a b s t) k 0)
  unfolding e
  split_at k l =
      ap (λ (x : List ℕ). centred (get_or (phase_of a x s t) k 0)) (sym key_is) ∙ ap (λ (m : List ℕ). centred (get_or m k 0)) any.split
      ∙ centred-combination _ (get_or t.e2 k 0) (get_or (phase_quotient a b s t) k 0) (combination-at t.e2 (phase_quotient a b s t) k l)
      (magnitude-at t.e2 h.e2_bounded.1 k l) (omega (arith, magnitude-at (phase_quotient a b s t) quotient-most k l, weight-most))

  pub noise-bound : NoiseBound a b s t
  noise-bound = record {
    split = split_at;
    quotient-bound = quotient-most;
    bound = phase-most;
    weight-bound = weight-most;
    largest-quotient = within-up setting (phase_quotient a b s t) (omega (arith, weight-most)) quotient-most;
    largest = promises.largest-phase a b i s t key h;
  }

-- ---- in a decapsulation

pub decapsulation-phase : (a b i s c1 c2 : List ℕ) (t dummy : Triple) → SoundKey setting a b i s → Encapsulates setting a b c1 c2 t
    → TernaryTriple setting dummy → DecapsulationPhase a b s c1 c2 t dummy
unfolding quotient_of
decapsulation-phase a b i s c1 c2 t dummy key m hd = record {
  same = is-phase;
  bound = bounds;
  largest = rw is-phase bounds.largest;
  quotient = quotient-at;
  quotient-bound = quotients-most bounds.quotient-bound;
  largest-quotient = quotients-most bounds.largest-quotient;
}
  where
    first : Step1 setting a b c1 c2 t dummy
    first = promises.step1 a b c1 c2 t dummy key.a-element key.b-element m hd

    is-phase : step2 a b s dummy c1 c2 ≡ phase_of a b s (sums setting t dummy)
    is-phase = rw (first.formula.first, first.formula.second)

    bounds : NoiseBound a b s (sums setting t dummy)
    bounds = noise-bound a b i s key (sums setting t dummy) first.within

    -- the remainder is between - 2 and 2, so there is one quotient only
    quotient-at : (k : ℕ) → k < n → get_or (quotients (step2 a b s dummy c1 c2)) k (pos 0) ≡ centred (get_or (phase_quotient a b s (sums setting t dummy)) k 0)
    quotient-at k l =
        quotients-at (step2 a b s dummy c1 c2) k l
        ∙ quotient-unique (centred (get_or (step2 a b s dummy c1 c2) k 0)) (centred (get_or (sums setting t dummy).e2 k 0)) _ (first.within.e2_bounded.1 k l)
        (ap (λ (x : List ℕ). centred (get_or x k 0)) is-phase ∙ bounds.split k l)

    quotients-most : {most : ℕ} → Within most (phase_quotient a b s (sums setting t dummy)) → QuotientsWithin most (quotients (step2 a b s dummy c1 c2))
    quotients-most within k l = rw (quotient-at k l) (within k l)
