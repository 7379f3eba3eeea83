-- The quotient beside the remainder by 5: m = remainder + 5 × quotient, that it is the only one, and bounds.
use mathlib.Core.Path.{◌≡◌, refl, sym, ap, ap₂, ◌∙◌}
use mathlib.Core.List.{List}
use Prim.Native.Nat.{ℕ, zero, suc, ◌+◌, ◌-◌, ◌*◌, ◌/◌, ◌%◌, ◌<◌, ◌≤◌}
use native.Mathlib.Nat.{le_trans}
use native.Mathlib.Decide.{dec_le}
use native.Mathlib.Omega.{arith}
use lib.Dec.{lit≤}
use lib.IntN.{ℤ, pos, negsuc, neg_ℤ, nat_abs, ◌+ℤ◌, ◌*ℤ◌, neg_ℤ-neg_ℤ, neg_ℤ-+ℤ, +ℤ_idr}
use lib.ListN.{length, get_or}
use Rattle.lists.proofs.Tables.{length-table, get_or-table}
use Rattle.ring.specs.Ring.{n}
use Rattle.ring.specs.Centred.{centred, around_zero, centred_remainder, centred_quotient, remainder_of, quotient_of, remainders, quotients}
use Rattle.ring.specs.Division.{DivisionExact}
use Rattle.ring.proofs.Integers.{sub_down, abs_neg, multiple-neg}
use Rattle.ring.proofs.Centring.{centred-bound, centred-residue}
use Rattle.ring.proofs.RemainderLaws.{around_low, around_high, remainder-small, remainder-neg, remainders-at, remainders-within}

-- ---- signs and sizes

pub quotient-neg : (m : ℤ) → centred_quotient (neg_ℤ m) ≡ neg_ℤ (centred_quotient m)
unfolding centred_quotient
quotient-neg (pos zero) = refl
quotient-neg (pos (suc a)) = refl
quotient-neg (negsuc a) = sym (neg_ℤ-neg_ℤ (pos ((suc a + 2) / 5)))

pub quotient-size : (m : ℤ) → nat_abs (centred_quotient m) ≡ (nat_abs m + 2) / 5
unfolding centred_quotient
quotient-size (pos a) = refl
quotient-size (negsuc a) = abs_neg (pos ((suc a + 2) / 5))

-- ---- m = remainder + 5 × quotient

split_natural : (a : ℕ) → pos a ≡ centred_remainder (pos a) +ℤ pos 5 *ℤ centred_quotient (pos a)
unfolding centred_remainder centred_quotient
split_natural a = by (dec_le (a % 5) 2)
  where
    by : Dec (a % 5 ≤ 2) → pos a ≡ around_zero (a % 5) +ℤ pos (5 * ((a + 2) / 5))
    by (yes h) =
        let e : a ≡ a % 5 + 5 * ((a + 2) / 5) = omega arith in
        rw (around_low (a % 5) h) (ap pos e)
    by (no h) =
        let s : 5 - a % 5 ≡ suc (4 - a % 5) = omega arith in
        let e : 5 * ((a + 2) / 5) - suc (4 - a % 5) ≡ a = omega arith in
        rw (around_high (a % 5) (omega arith) (omega arith), s) (sym (sub_down (5 * ((a + 2) / 5)) (suc (4 - a % 5)) (omega arith) ∙ ap pos e))

pub division-split : (m : ℤ) → m ≡ centred_remainder m +ℤ pos 5 *ℤ centred_quotient m
division-split (pos a) = split_natural a
division-split (negsuc a) =
    ap neg_ℤ (split_natural (suc a)) ∙ neg_ℤ-+ℤ (centred_remainder (pos (suc a))) (pos 5 *ℤ centred_quotient (pos (suc a)))
    ∙ ap₂ (λ (x y : ℤ). x +ℤ y) (sym (remainder-neg (pos (suc a))))
    (sym (multiple-neg 5 (centred_quotient (pos (suc a)))) ∙ ap (λ (w : ℤ). pos 5 *ℤ w) (sym (quotient-neg (pos (suc a)))))

-- ---- it is the only one

from-multiple : (e : ℤ) (k : ℕ) → nat_abs e ≤ 2 → centred_quotient (e +ℤ pos (5 * k)) ≡ pos k
unfolding centred_quotient
from-multiple (pos j) k h = ap pos (omega arith)
from-multiple (negsuc j) zero h =
    let z : (suc j + 2) / 5 ≡ 0 = omega arith in
    ap centred_quotient (+ℤ_idr (negsuc j)) ∙ ap (λ (x : ℕ). neg_ℤ (pos x)) z
from-multiple (negsuc j) (suc k) h =
    ap centred_quotient (sub_down (5 * suc k) (suc j) (omega arith)) ∙ ap pos (omega arith)

pub quotient-unique : (m e w : ℤ) → nat_abs e ≤ 2 → m ≡ e +ℤ pos 5 *ℤ w → centred_quotient m ≡ w
quotient-unique m e (pos k) h p = ap centred_quotient p ∙ from-multiple e k h
quotient-unique m e (negsuc k) h p =
    sym (neg_ℤ-neg_ℤ (centred_quotient m))
    ∙ ap neg_ℤ (sym (quotient-neg m) ∙ ap centred_quotient opposite ∙ from-multiple (neg_ℤ e) (suc k) (rw abs_neg h))
  where
    opposite : neg_ℤ m ≡ neg_ℤ e +ℤ pos (5 * suc k)
    opposite = ap neg_ℤ p ∙ neg_ℤ-+ℤ e _ ∙ ap (λ (x : ℤ). neg_ℤ e +ℤ x) (neg_ℤ-neg_ℤ (pos (5 * suc k)))

-- ---- words and elements

-- on every word
pub quotient-bound : (c : ℕ) → nat_abs (quotient_of c) ≤ 5939
unfolding quotient_of
quotient-bound c = omega (arith, quotient-size (centred c), centred-bound c)

pub length-quotients : (m : List ℕ) → length (quotients m) ≡ n
unfolding quotients
length-quotients m = length-table n _

pub quotients-at : (m : List ℕ) (k : ℕ) → k < n → get_or (quotients m) k (pos 0) ≡ quotient_of (get_or m k 0)
unfolding quotients
quotients-at m k h = get_or-table n _ k (pos 0) h

pub division-exact : (m : List ℕ) → DivisionExact m (remainders m) (quotients m)
unfolding remainder_of quotient_of
division-exact m = record { split = split_at; remainders-bound = remainders-within m; quotients-bound = bound_at }
  where
    split_at : (k : ℕ) → k < n → centred (get_or m k 0) ≡ centred (get_or (remainders m) k 0) +ℤ pos 5 *ℤ get_or (quotients m) k (pos 0)
    split_at k h =
        let c = centred (get_or m k 0) in
        rw (remainders-at m k h, quotients-at m k h, centred-residue (centred_remainder c) (le_trans (remainder-small c) (lit≤ tt))) (division-split c)

    bound_at : (k : ℕ) → k < n → nat_abs (get_or (quotients m) k (pos 0)) ≤ 5939
    bound_at k h = rw (quotients-at m k h) (quotient-bound (get_or m k 0))
