-- Centred values and residues of integers.
use mathlib.Core.Path.{◌≡◌, sym, ap, ap₂, ◌∙◌}
use Prim.Native.Nat.{ℕ, zero, suc, ◌+◌, ◌-◌, ◌*◌, ◌%◌, ◌<◌, ◌≤◌}
use native.Mathlib.Nat.{mod-lt, mod-eq_of_lt}
use native.Mathlib.Decide.{dec_le, dec_lt}
use native.Mathlib.Omega.{arith}
use lib.IntN.{ℤ, pos, negsuc, neg_ℤ, nat_abs, sub_ℕ, ◌+ℤ◌, ◌*ℤ◌}
use borrow.Author.Tests.{le-leb, lt-leb}
use Rattle.algebra.specs.Ring.{CommRing}
use Rattle.algebra.specs.Residues.{Residue}
use Rattle.algebra.specs.Residues as R
use Rattle.algebra.specs.Size.{magnitude}
use Rattle.algebra.proofs.Ring.{ring}
use Rattle.algebra.proofs.Ring as L
use Rattle.algebra.proofs.Residues.{ℤ/, of-mod, of_zero, of-add, of-mul, same_of}
use Rattle.algebra.proofs.Numbers.{of-sub_mod}
use Rattle.modq.proofs.Prime.{q-positive}
use Rattle.ring.specs.Ring.{q}
use Rattle.ring.specs.Centred.{centred, residue}
use Rattle.ring.proofs.Integers.{minus-up, abs_neg, sub-up, sub_down}

-- ---- centred values

pub centred_low : (c : ℕ) → c % q ≤ 29696 → centred c ≡ pos (c % q)
unfolding centred
centred_low c h = rw (le-leb (c % q) 29696 h)

pub centred_high : (c : ℕ) → 29696 < c % q → centred c ≡ neg_ℤ (pos (q - c % q))
unfolding centred
centred_high c h = rw (lt-leb (c % q) 29696 h) (minus-up (c % q) q (mod-lt c q-positive))

-- it goes by the residue
pub centred-same : (c d : ℕ) → c % q ≡ d % q → centred c ≡ centred d
unfolding centred
centred-same c d e = rw e

-- the size of a centred value is the distance to the nearest multiple of q
pub centred-size : (c : ℕ) → nat_abs (centred c) ≡ magnitude q c
centred-size c = by (dec_le (c % q) 29696)
  where
    by : Dec (c % q ≤ 29696) → nat_abs (centred c) ≡ magnitude q c
    by (yes h) = ap nat_abs (centred_low c h) ∙ omega arith
    by (no h) = ap nat_abs (centred_high c (omega arith)) ∙ abs_neg (pos (q - c % q)) ∙ omega arith

pub centred-bound : (c : ℕ) → nat_abs (centred c) ≤ 29696
centred-bound c = rw (centred-size c) (omega arith)

-- ---- residues of integers

pub residue-below : (z : ℤ) → residue z < q
unfolding residue
residue-below (pos m) = mod-lt m q-positive
residue-below (negsuc m) = mod-lt _ q-positive

residue-neg : (m : ℕ) → 0 < m → m < q → residue (neg_ℤ (pos m)) ≡ q - m
unfolding residue
residue-neg zero h l = absurd (omega arith)
residue-neg (suc m) h l = omega arith

-- a word and its centred value have the same residue
pub residue-centred : (c : ℕ) → residue (centred c) ≡ c % q
residue-centred c = by (dec_le (c % q) 29696)
  where
    by : Dec (c % q ≤ 29696) → residue (centred c) ≡ c % q
    by (yes h) = ap residue (centred_low c h) ∙ (unfold residue in omega arith)
    by (no h) = ap residue (centred_high c (omega arith)) ∙ residue-neg (q - c % q) (omega arith) (omega arith) ∙ omega arith

-- an integer of at most (q - 1) / 2 in size is the centred value of its residue
pub centred-residue : (z : ℤ) → nat_abs z ≤ 29696 → centred (residue z) ≡ z
centred-residue (pos m) h =
    let e : residue (pos m) ≡ m = (unfold residue in omega arith) in
    centred_low (residue (pos m)) (omega arith) ∙ ap pos (omega arith)
centred-residue (negsuc m) h =
    let e : residue (negsuc m) ≡ q - suc m = residue-neg (suc m) (omega arith) (omega arith) in
    let d : q - residue (negsuc m) % q ≡ suc m = omega arith in
    centred_high (residue (negsuc m)) (omega arith) ∙ ap (λ (k : ℕ). neg_ℤ (pos k)) d

-- words with the same centred value have the same residue
pub centred_injective : (c d : ℕ) → centred c ≡ centred d → c % q ≡ d % q
centred_injective c d e = sym (residue-centred c) ∙ ap residue e ∙ residue-centred d

-- ---- the residue of a sum is the sum of the residues, in ℤ/q

abbrev Z : CommRing (Residue q)
Z = ℤ/ q q-positive

abbrev z : ℕ → Residue q
z = R.residue q q-positive

infixl 65 ◌⊕◌
infixl 70 ◌⊗◌
open Z use {◌⊕◌, ◌⊗◌, neg, 𝟘}

abbrev class : ℤ → Residue q
class x = z (residue x)

class_pos : (m : ℕ) → class (pos m) ≡ z m
unfolding residue
class_pos m = of-mod q q-positive m

class-neg : (m : ℕ) → class (neg_ℤ (pos m)) ≡ neg (z m)
unfolding residue
class-neg zero = of-mod q q-positive 0 ∙ of_zero q q-positive ∙ sym (L.neg-zero Z) ∙ ap neg (sym (of_zero q q-positive))
class-neg (suc m) = of-sub_mod q q-positive 0 (suc m) ∙ ap (λ (x : Residue q). x ⊕ neg (z (suc m))) (of_zero q q-positive) ∙ L.zero-plus Z _

class-sub : (a b : ℕ) → class (sub_ℕ a b) ≡ z a ⊕ neg (z b)
class-sub a b = by (dec_lt a b)
  where
    more : (x y : Residue q) → neg y ≡ x ⊕ neg (x ⊕ y)
    more x y = simp ring

    less : (x y : Residue q) → y ≡ x ⊕ y ⊕ neg x
    less x y = simp ring

    by : Dec (a < b) → class (sub_ℕ a b) ≡ z a ⊕ neg (z b)
    by (yes h) =
        ap class (sub-up a b h) ∙ class-neg (suc (b - suc a)) ∙ more (z a) (z (suc (b - suc a)))
        ∙ ap (λ (x : Residue q). z a ⊕ neg x) (sym (of-add q q-positive a (suc (b - suc a))) ∙ ap z (omega arith))
    by (no h) =
        ap class (sub_down a b (omega arith)) ∙ class_pos (a - b) ∙ less (z b) (z (a - b))
        ∙ ap (λ (x : Residue q). x ⊕ neg (z b)) (sym (of-add q q-positive b (a - b)) ∙ ap z (omega arith))

class-plus : (x y : ℤ) → class (x +ℤ y) ≡ class x ⊕ class y
class-plus (pos a) (pos b) =
    class_pos (a + b) ∙ of-add q q-positive a b ∙ ap₂ (λ (x y : Residue q). x ⊕ y) (sym (class_pos a)) (sym (class_pos b))
class-plus (pos a) (negsuc b) =
    class-sub a (suc b) ∙ ap₂ (λ (x y : Residue q). x ⊕ y) (sym (class_pos a)) (sym (class-neg (suc b)))
class-plus (negsuc a) (pos b) =
    class-sub b (suc a) ∙ L.plus_comm Z _ _ ∙ ap₂ (λ (x y : Residue q). x ⊕ y) (sym (class-neg (suc a))) (sym (class_pos b))
class-plus (negsuc a) (negsuc b) =
    class-neg (suc (suc (a + b))) ∙ ap (λ (m : ℕ). neg (z m)) both ∙ ap neg (of-add q q-positive (suc a) (suc b)) ∙ L.neg-plus Z _ _
    ∙ ap₂ (λ (x y : Residue q). x ⊕ y) (sym (class-neg (suc a))) (sym (class-neg (suc b)))
  where
    both : suc (suc (a + b)) ≡ suc a + suc b
    both = omega arith

class-multiple : (k : ℕ) (x : ℤ) → class (pos k *ℤ x) ≡ z k ⊗ class x
class-multiple k (pos a) = class_pos (k * a) ∙ of-mul q q-positive k a ∙ ap (λ (x : Residue q). z k ⊗ x) (sym (class_pos a))
class-multiple k (negsuc a) =
    class-neg (k * suc a) ∙ ap neg (of-mul q q-positive k (suc a)) ∙ sym (L.times-neg Z _ _)
    ∙ ap (λ (x : Residue q). z k ⊗ x) (sym (class-neg (suc a)))

-- e + k w, of the centred values of two words
pub residue-combination : (e k w : ℕ) → residue (centred e +ℤ pos k *ℤ centred w) ≡ (e + k * w) % q
residue-combination e k w =
    sym (mod-eq_of_lt (residue-below (centred e +ℤ pos k *ℤ centred w)))
    ∙ same_of q q-positive _ _ (
    class-plus (centred e) (pos k *ℤ centred w)
    ∙ ap₂ (λ (x y : Residue q). x ⊕ y) (word e) (class-multiple k (centred w) ∙ ap (λ (x : Residue q). z k ⊗ x) (word w))
    ∙ sym (of-add q q-positive e (k * w) ∙ ap (λ (x : Residue q). z e ⊕ x) (of-mul q q-positive k w)))
  where
    word : (c : ℕ) → class (centred c) ≡ z c
    word c = ap z (residue-centred c) ∙ of-mod q q-positive c
