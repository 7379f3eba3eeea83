-- The remainder by 5 between - 2 and 2: bounds, and that it is the only one.
use mathlib.Core.Path.{◌≡◌, refl, sym, ap, ◌∙◌}
use mathlib.Core.List.{List}
use Prim.Native.Nat.{ℕ, zero, suc, ◌+◌, ◌-◌, ◌*◌, ◌%◌, ◌<◌, ◌≤◌}
use native.Mathlib.Nat.{mod-eq_of_lt, le_trans}
use native.Mathlib.Decide.{dec_le}
use native.Mathlib.Omega.{arith}
use lib.Dec.{lit≤}
use lib.IntN.{ℤ, pos, negsuc, neg_ℤ, nat_abs, ◌+ℤ◌, ◌*ℤ◌, neg_ℤ-neg_ℤ, neg_ℤ-+ℤ, +ℤ_idr}
use lib.ListN.{get_or}
use borrow.Author.Tests.{le-leb, lt-leb}
use Rattle.lists.proofs.Tables.{get_or-table}
use Rattle.algebra.specs.Size.{magnitude}
use Rattle.algebra.proofs.Numbers.{element-table}
use Rattle.ring.specs.Ring.{q, n, Element}
use Rattle.ring.specs.Centred.{centred, residue, around_zero, centred_remainder, remainder_of, remainders, Within}
use Rattle.ring.proofs.Integers.{minus-up, sub_down, abs_neg, abs-plus, abs-multiple}
use Rattle.ring.proofs.Centring.{centred-same, centred-size, residue-below, residue-centred, centred-residue, residue-combination}

-- ---- 0, 1, 2, 3, 4

pub around_low : (r : ℕ) → r ≤ 2 → around_zero r ≡ pos r
unfolding around_zero
around_low r h = rw (le-leb r 2 h)

pub around_high : (r : ℕ) → 2 < r → r < 5 → around_zero r ≡ neg_ℤ (pos (5 - r))
unfolding around_zero
around_high r h l = rw (lt-leb r 2 h) (minus-up r 5 l)

around-small : (r : ℕ) → r < 5 → nat_abs (around_zero r) ≤ 2
around-small r l = by (dec_le r 2)
  where
    by : Dec (r ≤ 2) → nat_abs (around_zero r) ≤ 2
    by (yes h) = rw (around_low r h) h
    by (no h) = rw (around_high r (omega arith) l, abs_neg) (omega arith)

-- ---- bounds and signs

pub remainder-small : (m : ℤ) → nat_abs (centred_remainder m) ≤ 2
unfolding centred_remainder
remainder-small (pos a) = around-small (a % 5) (omega arith)
remainder-small (negsuc a) = rw abs_neg (around-small (suc a % 5) (omega arith))

pub remainder-neg : (m : ℤ) → centred_remainder (neg_ℤ m) ≡ neg_ℤ (centred_remainder m)
unfolding centred_remainder around_zero
remainder-neg (pos zero) = refl
remainder-neg (pos (suc a)) = refl
remainder-neg (negsuc a) = sym (neg_ℤ-neg_ℤ (around_zero (suc a % 5)))

-- ---- it is the only one

from-multiple : (e : ℤ) (k : ℕ) → nat_abs e ≤ 2 → centred_remainder (e +ℤ pos (5 * k)) ≡ e
unfolding centred_remainder
from-multiple (pos j) k h =
    let r : (j + 5 * k) % 5 ≡ j = omega arith in
    rw r (around_low j h)
from-multiple (negsuc j) zero h =
    let r : suc j % 5 ≡ suc j = omega arith in
    ap centred_remainder (+ℤ_idr (negsuc j)) ∙ ap neg_ℤ (ap around_zero r ∙ around_low (suc j) h)
from-multiple (negsuc j) (suc k) h =
    let r : (5 * suc k - suc j) % 5 ≡ 4 - j = omega arith in
    let s : 5 - (4 - j) ≡ suc j = omega arith in
    ap centred_remainder (sub_down (5 * suc k) (suc j) (omega arith)) ∙ rw (r, around_high (4 - j) (omega arith) (omega arith), s) refl

pub remainder-unique : (m e w : ℤ) → nat_abs e ≤ 2 → m ≡ e +ℤ pos 5 *ℤ w → centred_remainder m ≡ e
remainder-unique m e (pos k) h p = ap centred_remainder p ∙ from-multiple e k h
remainder-unique m e (negsuc k) h p =
    sym (neg_ℤ-neg_ℤ (centred_remainder m))
    ∙ ap neg_ℤ (sym (remainder-neg m) ∙ ap centred_remainder opposite ∙ from-multiple (neg_ℤ e) (suc k) (rw abs_neg h))
    ∙ neg_ℤ-neg_ℤ e
  where
    opposite : neg_ℤ m ≡ neg_ℤ e +ℤ pos (5 * suc k)
    opposite = ap neg_ℤ p ∙ neg_ℤ-+ℤ e _ ∙ ap (λ (x : ℤ). neg_ℤ e +ℤ x) (neg_ℤ-neg_ℤ (pos (5 * suc k)))

-- ---- words

-- A coefficient c = e + 5 w modulo q gives e back, where e is between - 2 and 2 and w small enough that nothing wraps.
pub remainder-recovers : (c e w : ℕ) → c % q ≡ (e + 5 * w) % q → magnitude q e ≤ 2 → magnitude q w ≤ 5938 → remainder_of c ≡ e % q
unfolding remainder_of
remainder-recovers c e w h he hw =
    ap residue (remainder-unique (centred c) (centred e) (centred w) small is_total) ∙ residue-centred e
  where
    total : ℤ
    total = centred e +ℤ pos 5 *ℤ centred w

    small : nat_abs (centred e) ≤ 2
    small = rw (centred-size e) he

    bound : nat_abs total ≤ 29696
    bound = omega (arith, abs-plus (centred e) (pos 5 *ℤ centred w), abs-multiple 5 (centred w), centred-size e, centred-size w)

    is_total : centred c ≡ total
    is_total = centred-same c (residue total) (h ∙ sym (residue-combination e 5 w) ∙ sym (mod-eq_of_lt (residue-below total))) ∙ centred-residue total bound

pub remainder-below : (c : ℕ) → remainder_of c < q
unfolding remainder_of
remainder-below c = residue-below (centred_remainder (centred c))

-- ---- elements

pub remainders-at : (m : List ℕ) (k : ℕ) → k < n → get_or (remainders m) k 0 ≡ remainder_of (get_or m k 0)
unfolding remainders
remainders-at m k h = get_or-table n _ k 0 h

pub remainders-element : (m : List ℕ) → Element (remainders m)
unfolding remainders
remainders-element m = element-table q n _ (λ k. remainder-below (get_or m k 0))

-- they are between - 2 and 2
pub remainders-within : (m : List ℕ) → Within 2 (remainders m)
unfolding remainder_of
remainders-within m k h =
    let e = centred_remainder (centred (get_or m k 0)) in
    rw (remainders-at m k h, centred-residue e (le_trans (remainder-small (centred (get_or m k 0))) (lit≤ tt))) (remainder-small (centred (get_or m k 0)))
