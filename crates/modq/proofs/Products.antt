-- Products modulo a number.
use mathlib.Core.Path.{◌≡◌, sym, ap, ◌∙◌}
use Prim.Native.Nat.{ℕ, ◌*◌, ◌%◌, ◌<◌}
use native.Mathlib.Nat.{mul_comm, mul_assoc, mul-one, mod-eq_of_lt, mul-le-mul}
use native.Mathlib.Omega.{arith}
use Rattle.algebra.specs.Numbers.{mul_mod}
use Rattle.algebra.proofs.Residues.{mod-mul-left, mod-mul-right}

-- the product of two u16 is a u32
pub product-fits : {a b : ℕ} → a < 65536 → b < 65536 → a * b < 4294967296
product-fits {a} {b} h g = omega (arith, mul-le-mul {n₁ = a} {m₁ = b} {n₂ = 65535} {m₂ = 65535} (omega arith) (omega arith))

module _ (m : ℕ) where
  pub mul_mod_comm : (x y : ℕ) → mul_mod m x y ≡ mul_mod m y x
  mul_mod_comm x y = ap (λ (n : ℕ). n % m) (mul_comm x y)

  pub mul_mod_assoc : (x y z : ℕ) → mul_mod m (mul_mod m x y) z ≡ mul_mod m x (mul_mod m y z)
  mul_mod_assoc x y z = mod-mul-left (x * y) z m ∙ ap (λ (n : ℕ). n % m) (mul_assoc x y z) ∙ sym (mod-mul-right x (y * z) m)

  pub mul_mod-one : (x : ℕ) → x < m → mul_mod m x 1 ≡ x
  mul_mod-one x h = ap (λ (n : ℕ). n % m) (mul-one x) ∙ mod-eq_of_lt h

  -- a number has at most one inverse below m
  pub inverse-unique : (x r s : ℕ) → r < m → s < m → mul_mod m x r ≡ 1 → mul_mod m x s ≡ 1 → r ≡ s
  inverse-unique x r s hr hs er es =
      sym (mul_mod-one r hr) ∙ ap (mul_mod m r) (sym es) ∙ sym (mul_mod_assoc r x s)
      ∙ ap (λ (n : ℕ). mul_mod m n s) (mul_mod_comm r x ∙ er) ∙ mul_mod_comm 1 s ∙ mul_mod-one s hs

  -- x y and its inverse u: the inverse of x is u y
  pub inverse-factor : (x y u : ℕ) → mul_mod m (mul_mod m x y) u ≡ 1 → mul_mod m x (mul_mod m u y) ≡ 1
  inverse-factor x y u e = ap (mul_mod m x) (mul_mod_comm u y) ∙ sym (mul_mod_assoc x y u) ∙ e
