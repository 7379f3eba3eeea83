-- Words in two's complement.
use mathlib.Core.Path.{◌≡◌, refl, sym, ap, ◌∙◌}
use Prim.Native.Nat.{ℕ, suc, ◌-◌, ◌^◌}
use native.Mathlib.Omega.{arith}
use mathlib.Core.Bool.{Bool, true, false, false≢true, cond}
use lib.IntN.{ℤ, pos, negsuc}
use lib.Dec.{eqb, ltb}
use borrow.Author.Tests.{eqb-true, eq-eqb}
use mir.Syntax.{w32}
use mir.Val.{SFits, to_z, of_z, to_z as cast_signed, sel}
use mir.ValLaws.{to_z-of_z}
use Rattle.remainder_cases.specs.Remainders.{signed, is_same_integer}

-- the library's reading of a word as signed
pub signed-cast : (x : ℕ) → cast_signed w32 x ≡ signed x
unfolding signed
signed-cast x = by (ltb x 2147483648)
  where
    by : (t : Bool) → sel t (pos x) (negsuc (2 ^ 32 - suc x)) ≡ cond t (pos x) (negsuc (4294967295 - x))
    by true = refl
    by false = ap negsuc (omega arith)

-- two integers with the same bits
pub same_bits : (a b : ℤ) → SFits w32 a → SFits w32 b → of_z w32 a ≡ of_z w32 b → a ≡ b
same_bits a b f g e = sym (to_z-of_z w32 a f) ∙ ap (to_z w32) e ∙ to_z-of_z w32 b g

same_itself : (a : ℤ) → is_same_integer a a ≡ true
unfolding is_same_integer
same_itself (pos n) = eq-eqb n n refl
same_itself (negsuc n) = eq-eqb n n refl

same_integer : (a b : ℤ) → is_same_integer a b ≡ true → a ≡ b
unfolding is_same_integer
same_integer (pos m) (pos n) e = ap pos (eqb-true m n e)
same_integer (pos m) (negsuc n) e = absurd (false≢true e)
same_integer (negsuc m) (pos n) e = absurd (false≢true e)
same_integer (negsuc m) (negsuc n) e = ap negsuc (eqb-true m n e)

-- two integers are compared by their bits
pub compared : (a b : ℤ) → SFits w32 a → SFits w32 b → eqb (of_z w32 a) (of_z w32 b) ≡ is_same_integer a b
compared a b f g = by (eqb (of_z w32 a) (of_z w32 b)) refl (is_same_integer a b) refl
  where
    by : (r : Bool) → eqb (of_z w32 a) (of_z w32 b) ≡ r → (s : Bool) → is_same_integer a b ≡ s → r ≡ s
    by true p true q = refl
    by false p false q = refl
    by true p false q = sym (same_itself b) ∙ ap (λ (z : ℤ). is_same_integer z b) (sym (same_bits a b f g (eqb-true _ _ p))) ∙ q
    by false p true q = sym p ∙ eq-eqb _ _ (ap (of_z w32) (same_integer a b q))
