-- Whether two strings of bytes are equal.
use mathlib.Core.Path.{◌≡◌, refl, sym, ◌∙◌}
use mathlib.Core.Bool.{Bool, true, false, false≢true}
use mathlib.Core.List.{List, [], ◌∷◌}
use Prim.Native.Nat.{ℕ, zero, suc}
use native.Mathlib.Omega.{arith}
use lib.Bits.{bit_xor, bit_or, or_add_and, and_le_l, and_le_r, xor_add_and, xor_self}
use lib.Dec.{eqb}
use borrow.Author.Tests.{eqb-true, eq-eqb, ne_eqb}
use Rattle.lists.proofs.Both.{both}
use Rattle.lists.proofs.Maps.{cons}
use Rattle.gf128.specs.Bytes.{equal}

equal-then-same : (a b : List ℕ) → equal a b ≡ true → a ≡ b
unfolding equal
equal-then-same [] [] h = refl
equal-then-same [] (y ∷ b) h = absurd (false≢true h)
equal-then-same (x ∷ a) [] h = absurd (false≢true h)
equal-then-same (x ∷ a) (y ∷ b) h =
    let (first, rest) = both (eqb x y) (equal a b) h in
    cons (eqb-true x y first) (equal-then-same a b rest)

equal-self : (a : List ℕ) → equal a a ≡ true
unfolding equal
equal-self [] = refl
equal-self (x ∷ a) = rw (eq-eqb x x refl) (equal-self a)

-- true exactly for equal strings
pub equal_iff : (a b : List ℕ) → (equal a b ≡ true → a ≡ b) × (a ≡ b → equal a b ≡ true)
equal_iff a b = (equal-then-same a b, λ e. rw e (equal-self b))

-- ---- the differences of all bytes, joined

pub or-zero : (d x y : ℕ) → bit_or d (bit_xor x y) ≡ 0 → (d ≡ 0) × (x ≡ y)
or-zero d x y e =
    let z : d ≡ 0 = omega (arith, or_add_and d (bit_xor x y), and_le_r d (bit_xor x y)) in
    let v : bit_xor x y ≡ 0 = omega (arith, or_add_and d (bit_xor x y), and_le_l d (bit_xor x y)) in
    (z, omega (arith, xor_add_and x y, and_le_l x y, and_le_r x y))

pub or_same : (d x y : ℕ) → d ≡ 0 → x ≡ y → bit_or d (bit_xor x y) ≡ 0
or_same d x y e f = rw (e, f) (xor_self y)

-- no difference, exactly where the strings are equal
pub equal_by : (d : ℕ) (a b : List ℕ) → (d ≡ 0 → a ≡ b) → (a ≡ b → d ≡ 0) → eqb d 0 ≡ equal a b
equal_by zero a b f g = sym ((equal_iff a b).1 (f refl))
equal_by (suc d) a b f g = ne_eqb (suc d) 0 (λ e. omega arith) ∙ not_equal (equal a b) refl
  where
    not_equal : (t : Bool) → equal a b ≡ t → false ≡ t
    not_equal true e = let z : suc d ≡ 0 = g ((equal_iff a b).0 e) in absurd (omega arith)
    not_equal false e = refl
