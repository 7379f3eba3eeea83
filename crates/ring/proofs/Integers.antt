-- Signs and sizes of integers.
use mathlib.Core.Path.{◌≡◌, refl, sym, ap, ◌∙◌}
use Prim.Native.Nat.{ℕ, zero, suc, ◌+◌, ◌-◌, ◌*◌, ◌<◌, ◌≤◌}
use native.Mathlib.Decide.{dec_lt}
use native.Mathlib.Omega.{arith}
use lib.IntN.{ℤ, pos, negsuc, neg_ℤ, nat_abs, sub_ℕ, ◌+ℤ◌, ◌-ℤ◌, ◌*ℤ◌, neg_ℤ-neg_ℤ}
use borrow.Author.Tests.{lt-ltb, le-ltb}

-- a - b where b is at most a, and where it is more
pub sub_down : (a b : ℕ) → b ≤ a → sub_ℕ a b ≡ pos (a - b)
sub_down a b h = rw (le-ltb a b h)

pub sub-up : (a b : ℕ) → a < b → sub_ℕ a b ≡ negsuc (b - suc a)
sub-up a b h = rw (lt-ltb a b h)

pub minus-up : (a b : ℕ) → a < b → pos a -ℤ pos b ≡ neg_ℤ (pos (b - a))
minus-up a zero h = absurd (omega arith)
minus-up a (suc b) h =
    let e : suc b - a ≡ suc (suc b - suc a) = omega arith in
    sub-up a (suc b) h ∙ ap (λ (m : ℕ). neg_ℤ (pos m)) (sym e)

pub abs_neg : (m : ℤ) → nat_abs (neg_ℤ m) ≡ nat_abs m
abs_neg (pos zero) = refl
abs_neg (pos (suc a)) = refl
abs_neg (negsuc a) = refl

abs-sub : (a b : ℕ) → nat_abs (sub_ℕ a b) ≤ a + b
abs-sub a b = by (dec_lt a b)
  where
    by : Dec (a < b) → nat_abs (sub_ℕ a b) ≤ a + b
    by (yes h) = rw (sub-up a b h) (omega arith)
    by (no h) = rw (sub_down a b (omega arith)) (omega arith)

pub abs-plus : (x y : ℤ) → nat_abs (x +ℤ y) ≤ nat_abs x + nat_abs y
abs-plus (pos a) (pos b) = omega arith
abs-plus (pos a) (negsuc b) = abs-sub a (suc b)
abs-plus (negsuc a) (pos b) = omega (arith, abs-sub b (suc a))
abs-plus (negsuc a) (negsuc b) = omega arith

-- multiples by a natural number
pub abs-multiple : (k : ℕ) (x : ℤ) → nat_abs (pos k *ℤ x) ≡ k * nat_abs x
abs-multiple k (pos a) = refl
abs-multiple k (negsuc a) = abs_neg (pos (k * suc a))

pub multiple-neg : (k : ℕ) (x : ℤ) → pos k *ℤ neg_ℤ x ≡ neg_ℤ (pos k *ℤ x)
multiple-neg k (pos zero) =
    let e : k * 0 ≡ 0 = omega arith in
    rw e
multiple-neg k (pos (suc a)) = refl
multiple-neg k (negsuc a) = sym (neg_ℤ-neg_ℤ (pos (k * suc a)))
