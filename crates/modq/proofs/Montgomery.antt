-- Products by factors in Montgomery's form. With R = 2^16, w y is R `top` + its low half, and m q, with m = w y / q modulo R, has the same
-- low half; so w y / R is `top` less `over`, the high halves of the two products.
use mathlib.Core.Path.{◌≡◌, sym, ap, ◌∙◌}
use Prim.Native.Nat.{ℕ, ◌+◌, ◌*◌, ◌/◌, ◌%◌, ◌<◌, ◌≤◌}
use native.Mathlib.Nat.{mul_comm, mul_assoc, mod-add-mod, mod-lt, mod-eq_of_lt, mul-le-mul}
use native.Mathlib.Omega.{arith}
use Rattle.algebra.specs.Numbers.{add_mod, sub_mod, mul_mod}
use Rattle.algebra.proofs.Residues.{mod-mul-left}
use Rattle.modq.specs.Modulus.{q}
use Rattle.modq.specs.Montgomery.{montgomery_form, from_montgomery, montgomery_product}

-- a difference is known by its sum
sub_mod_is : (a b c : ℕ) → add_mod q c b ≡ a % q → c % q ≡ sub_mod q a b
sub_mod_is a b c e = omega arith

-- ---- the product

abbrev pub top : ℕ → ℕ
top p = p / 65536

abbrev pub over : ℕ → ℕ
over p = ((p % 65536) * 6145) % 65536 * 59393 / 65536

pub over_less : (p : ℕ) → over p < q
over_less p = omega arith

pub top_less : (w y : ℕ) → w < q → y < 65536 → top (w * y) < q
top_less w y h g =
    let l : w * y ≤ 59392 * 65535 = mul-le-mul {n₁ = w} {m₁ = y} {n₂ = 59392} {m₂ = 65535} (omega arith) (omega arith) in
    omega arith

-- p / R modulo q, as a difference
difference : (p : ℕ) → (p * 53824 + over p) % q ≡ top p % q
difference p =
    let lo = p % 65536 in
    let k = (lo * 6145) / 65536 in
    let m = (lo * 6145) % 65536 in
    let whole : (m * 59393) / 65536 + 59393 * k ≡ 5569 * lo =
    unique ((m * 59393) / 65536 + 59393 * k) (5569 * lo) ((m * 59393) % 65536) lo (omega arith) (omega arith) (omega arith) in
    same (p * 53824 + over p) k (top p) (59391 * top p + lo) (omega arith)
  where
    unique : (t u r s : ℕ) → 65536 * t + r ≡ 65536 * u + s → r < 65536 → s < 65536 → t ≡ u
    unique t u r s e h g = omega arith

    same : (a k b c : ℕ) → a + 59393 * k ≡ b + 59393 * c → a % 59393 ≡ b % 59393
    same a k b c e = omega arith

product_is : (w y : ℕ) → montgomery_product w y ≡ (w * y * 53824) % q
product_is w y =
    mod-mul-left (w * 53824) y q
    ∙ ap (λ (n : ℕ). n % q) (mul_assoc w 53824 y ∙ ap (λ (n : ℕ). w * n) (mul_comm 53824 y) ∙ sym (mul_assoc w y 53824))

module _ (w y : ℕ) (h : w < q) (g : y < 65536) where
  balance : add_mod q (montgomery_product w y) (over (w * y)) ≡ top (w * y) % q
  balance =
      ap (λ (n : ℕ). (n + over (w * y)) % q) (product_is w y) ∙ mod-add-mod (w * y * 53824) q (over (w * y)) ∙ difference (w * y)

  product_less : montgomery_product w y < q
  product_less = mod-lt (from_montgomery w * y) (omega arith)

  pub plain : sub_mod q (top (w * y)) (over (w * y)) ≡ montgomery_product w y
  plain = sym (sub_mod_is (top (w * y)) (over (w * y)) (montgomery_product w y) balance) ∙ mod-eq_of_lt product_less

-- ---- constants in Montgomery's form

pub to_form : (x : ℕ) → montgomery_product 21894 x ≡ montgomery_form x
to_form x = omega arith

-- a number below q comes back from its form
pub from_form : (x : ℕ) → x < q → from_montgomery (montgomery_form x) ≡ x
from_form x h = mod-mul-left (x * 65536) 53824 q ∙ back x h
  where
    back : (x : ℕ) → x < q → (x * 65536 * 53824) % q ≡ x
    back x h = omega arith

pub product_of_form : (x y : ℕ) → montgomery_product (montgomery_form x) y ≡ mul_mod q x y
product_of_form x y =
    ap (λ (n : ℕ). mul_mod q n y) (mod-mul-left (x * 65536) 53824 q ∙ back x) ∙ mod-mul-left x y q
  where
    back : (x : ℕ) → (x * 65536 * 53824) % q ≡ x % q
    back x = omega arith
