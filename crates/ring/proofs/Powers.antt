-- The product of two powers of X.
use mathlib.Core.Path.{◌≡◌, refl, ◌∙◌}
use mathlib.Core.Bool.{cond}
use mathlib.Core.List.{[], ◌∷◌}
use Prim.Native.Nat.{ℕ, zero, suc, ◌+◌, ◌-◌, ◌%◌, ◌≤◌, ◌<◌}
use native.Mathlib.Decide.{dec_le}
use native.Mathlib.Omega.{arith}
use lib.Dec.{leb}
use lib.ListN.{get_or}
use borrow.Author.Tests.{le-leb, lt-leb, eq-eqb, ne_eqb}
use Rattle.lists.proofs.Tables.{table_is, get_or-table}
use Rattle.algebra.specs.Numbers as N
use Rattle.algebra.specs.Numbers.{sub_mod}
use Rattle.algebra.proofs.PlainProduct.{product-monomial}
use Rattle.modq.proofs.Prime.{q-positive}
use Rattle.ring.specs.Ring.{q, n, constant, power, product}
use Rattle.ring.proofs.RingLaws.{product-element}

-- the coefficients of X^j
power-one : (j : ℕ) → j < n → get_or (power j) j 0 ≡ 1
power-one j h = get_or-table n _ j 0 h ∙ rw (eq-eqb j j refl)

power_zero : (j k : ℕ) → k < n → (k ≡ j → ⊥) → get_or (power j) k 0 ≡ 0
power_zero j k h d = get_or-table n _ k 0 h ∙ rw (ne_eqb k j d)

-- X^i × X^j = - 1 where i + j = n
pub powers_wrap : (i j : ℕ) → i < n → j < n → i + j ≡ n → product (power i) (power j) ≡ constant (q - 1)
unfolding N.reduced
powers_wrap i j hi hj e = table_is n _ (product (power i) (power j)) 0 (product-element (power i) (power j)).size entry
  where
    wrapped : (k : ℕ) → k < i → sub_mod q 0 (get_or (power j) (n + k - i) 0) ≡ get_or ((q - 1) ∷ []) k 0 % q
    wrapped zero h =
        let at : n + 0 - i ≡ j = omega arith in
        rw (at, power-one j hj)
    wrapped (suc k) h = rw (power_zero j (n + suc k - i) (omega arith) (omega arith))

    direct : (k : ℕ) → i ≤ k → k < n → get_or (power j) (k - i) 0 % q ≡ get_or ((q - 1) ∷ []) k 0 % q
    direct zero h l = absurd (omega arith)
    direct (suc k) h l = rw (power_zero j (suc k - i) (omega arith) (omega arith))

    entry : (k : ℕ) → k < n → get_or (product (power i) (power j)) k 0 ≡ get_or ((q - 1) ∷ []) k 0 % q
    entry k h = product-monomial q q-positive 1023 i k (power j) (omega arith) (omega arith) ∙ by (dec_le i k)
      where
        by : Dec (i ≤ k)
            → cond (leb i k) (get_or (power j) (k - i) 0 % q) (sub_mod q 0 (get_or (power j) (n + k - i) 0)) ≡ get_or ((q - 1) ∷ []) k 0 % q
        by (yes l) = rw (le-leb i k l) (direct k l h)
        by (no l) = rw (lt-leb i k (omega arith)) (wrapped k (omega arith))
