-- Sizes of coefficients: of sums, differences, multiples and products; the weight.
use mathlib.Core.Path.{◌≡◌, sym, ◌∙◌, subst, fun_ext}
use mathlib.Core.List.{List}
use Prim.Native.Nat.{ℕ, zero, suc, ◌+◌, ◌*◌, ◌≤◌, ◌<◌}
use native.Mathlib.Nat.{le_trans, le_refl, zero-mod}
use native.Mathlib.Decide.{dec_lt}
use native.Mathlib.Omega.{arith}
use lib.IntN.{nat_abs}
use lib.ListN.{length, get_or, get_or-eq_default}
use Rattle.algebra.specs.Residues.{Residue}
use Rattle.algebra.specs.Numbers.{add_mod, sub_mod, mul_mod, sum_below}
use Rattle.algebra.specs.Size.{magnitude, positive}
use Rattle.algebra.specs.Size as A
use Rattle.algebra.proofs.Residues.{ℤ/}
use Rattle.algebra.proofs.Numbers.{of-add_mod, of-sub_mod, of-mul_mod}
use Rattle.algebra.proofs.Elements.{plus-at, minus-at, scale_at}
use Rattle.algebra.proofs.Size.{count-residue, within-plus, within-neg, within-times, within-magnitude, magnitude-within, product-magnitude}
use Rattle.exactness.specs.Setting.{Setting, Within, weight, sum, difference, multiple}
use Rattle.exactness.specs.Givens.{Givens}

-- ---- numbers modulo q

module _ (q : ℕ) (pos : 0 < q) where
  abbrev Near : ℕ → Residue q → Type 0
  Near k x = A.Within (ℤ/ q pos) k x

  pub magnitude-sum : (j k x y : ℕ) → magnitude q x ≤ j → magnitude q y ≤ k → magnitude q (add_mod q x y) ≤ j + k
  magnitude-sum j k x y hx hy =
      magnitude-within q pos (j + k) (add_mod q x y)
      (subst (Near (j + k)) (sym (of-add_mod q pos x y)) (within-plus (ℤ/ q pos) (within-magnitude q pos j x hx) (within-magnitude q pos k y hy)))

  pub magnitude-difference : (j k x y : ℕ) → magnitude q x ≤ j → magnitude q y ≤ k → magnitude q (sub_mod q x y) ≤ j + k
  magnitude-difference j k x y hx hy =
      magnitude-within q pos (j + k) (sub_mod q x y)
      (subst (Near (j + k)) (sym (of-sub_mod q pos x y))
      (within-plus (ℤ/ q pos) (within-magnitude q pos j x hx) (within-neg (ℤ/ q pos) (within-magnitude q pos k y hy))))

  pub magnitude-multiple : (c k x : ℕ) → magnitude q x ≤ k → magnitude q (mul_mod q c x) ≤ c * k
  magnitude-multiple c k x h =
      magnitude-within q pos (c * k) (mul_mod q c x)
      (subst (Near (c * k)) (sym (of-mul_mod q pos c x))
      (within-times (ℤ/ q pos) (positive c (le_refl c) (sym (count-residue q pos c))) (within-magnitude q pos k x h)))

-- a sum of n terms of at most k each
pub sum_bound : (n k : ℕ) (f : ℕ → ℕ) → ((i : ℕ) → i < n → f i ≤ k) → sum_below n f ≤ n * k
unfolding sum_below
sum_bound zero k f h = omega arith
sum_bound (suc n) k f h = omega (arith, h 0 (omega arith), sum_bound n k (λ i. f (suc i)) (λ i l. h (suc i) (omega arith)))

-- ---- elements

module _ (S : Setting) where
  pub within-up : {j k : ℕ} (a : List ℕ) → j ≤ k → Within S j a → Within S k a
  within-up a h w i l = le_trans (w i l) h

  pub weight-bound : (k : ℕ) (a : List ℕ) → Within S k a → weight S a ≤ S.n * k
  unfolding weight
  weight-bound k a w = sum_bound S.n k _ w

module _ (S : Setting) (G : Givens S) where
  -- a bound on centred values is one on magnitudes
  magnitudes : {k : ℕ} (a : List ℕ) → Within S k a → (i : ℕ) → i < S.n → magnitude S.q (get_or a i 0) ≤ k
  magnitudes a w i h = rw (G.centred-size (get_or a i 0)) at (w i h)

  pub sum-size : (j k : ℕ) (a b : List ℕ) → Within S j a → Within S k b → Within S (j + k) (sum S a b)
  sum-size j k a b wa wb i h =
      rw (plus-at S.q G.q-positive S.n a b i h, G.centred-size (add_mod S.q (get_or a i 0) (get_or b i 0)))
      (magnitude-sum S.q G.q-positive j k (get_or a i 0) (get_or b i 0) (magnitudes a wa i h) (magnitudes b wb i h))

  pub difference-size : (j k : ℕ) (a b : List ℕ) → Within S j a → Within S k b → Within S (j + k) (difference S a b)
  difference-size j k a b wa wb i h =
      rw (minus-at S.q G.q-positive S.n a b i h, G.centred-size (sub_mod S.q (get_or a i 0) (get_or b i 0)))
      (magnitude-difference S.q G.q-positive j k (get_or a i 0) (get_or b i 0) (magnitudes a wa i h) (magnitudes b wb i h))

  pub multiple-size : (c k : ℕ) (a : List ℕ) → Within S k a → Within S (c * k) (multiple S c a)
  multiple-size c k a w i h =
      rw (scale_at S.q G.q-positive S.n c a i h, G.centred-size (mul_mod S.q c (get_or a i 0)))
      (magnitude-multiple S.q G.q-positive c k (get_or a i 0) (magnitudes a w i h))

  -- a coefficient of x × y is at most κ times the weight of x times the largest |y_j|
  pub product-size : (b : ℕ) (x y : List ℕ) → length x ≡ S.n → length y ≡ S.n → Within S b y → Within S (weight S x * (G.κ * b)) (S.product x y)
  unfolding weight
  product-size b x y hx hy w k h =
      rw (G.centred-size (get_or (S.product x y) k 0), weights, G.degree)
      (product-magnitude S.q G.q-positive G.p G.rule S.product G.is-product G.κ b G.spread x y
      (hx ∙ G.degree) (hy ∙ G.degree) all k)
    where
      weights : ◌≡◌ {A = ℕ → ℕ} (λ i. nat_abs (S.centred (get_or x i 0))) (λ i. magnitude S.q (get_or x i 0))
      weights = fun_ext λ i. G.centred-size (get_or x i 0)

      -- past the end the coefficients count as 0
      all : (i : ℕ) → magnitude S.q (get_or y i 0) ≤ b
      all i = by (dec_lt i S.n)
        where
          by : Dec (i < S.n) → magnitude S.q (get_or y i 0) ≤ b
          by (yes l) = magnitudes y w i l
          by (no l) = rw (get_or-eq_default y 0 {n = i} (omega arith)) (omega (arith, zero-mod S.q))
