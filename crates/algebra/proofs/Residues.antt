-- The residues modulo q are a commutative ring, and numbers go into it by sums and products.
use mathlib.Core.Path.{◌≡◌, refl, sym, ap, ◌∙◌}
use mathlib.Core.HLevel.{Σ_prop_path}
use mathlib.Core.Logic.{◌↔◌}
use Prim.Native.Nat.{ℕ, zero, suc, ◌+◌, ◌-◌, ◌*◌, ◌/◌, ◌%◌, ◌^◌, ◌<◌}
use native.Mathlib.Bridge.{le_prop}
use native.Mathlib.Nat.{add_assoc, add_comm, add-zero, mul_assoc, mul_comm, mul-one, mul-add, add-sub_of_le, le_of_lt, pow-succ'}
use native.Mathlib.Nat.{mod-eq_of_lt, mod-mod, mod-add-mod, add-mod-mod, mod_self, zero-mod, div-add-mod', mul-add-mod_self_right}
use native.Mathlib.Nat as N
use native.Mathlib.Omega.{arith}
use Rattle.algebra.specs.Ring.{CommRing, pow}
use Rattle.algebra.specs.Residues.{Residue, residue, add_residue, mul_residue, neg_residue}
use Rattle.algebra.proofs.Ring as L

pub mod-mul-left : (a b m : ℕ) → (a % m) * b % m ≡ a * b % m
mod-mul-left a b m =
    sym (ap (λ (x : ℕ). x * b % m) (sym (div-add-mod' a m)) ∙ ap (λ (x : ℕ). x % m) step ∙ mul-add-mod_self_right (a / m * b) m (a % m * b))
  where
    step : (a / m * m + a % m) * b ≡ a / m * b * m + a % m * b
    step = omega arith

pub mod-mul-right : (a b m : ℕ) → a * (b % m) % m ≡ a * b % m
mod-mul-right a b m = ap (λ (x : ℕ). x % m) (mul_comm a (b % m)) ∙ mod-mul-left b a m ∙ ap (λ (x : ℕ). x % m) (mul_comm b a)

pub residue-same : {q : ℕ} (x y : Residue q) → x.0 ≡ y.0 → x ≡ y
residue-same x y p = Σ_prop_path (λ n. le_prop) p

module _ (q : ℕ) (pos : 0 < q) where
  abbrev z : ℕ → Residue q
  z = residue q pos

  pub residue-value : (n : ℕ) → (z n).0 ≡ n % q
  unfolding residue
  residue-value n = refl

  -- the residue of a number below q is that number
  pub residue_of-value : (x : Residue q) → z x.0 ≡ x
  residue_of-value x = residue-same _ _ (residue-value x.0 ∙ mod-eq_of_lt x.1)

  -- ℤ/q. It stands here and not in specs/, since the record holds the proofs of the laws; its operations are in specs/.
  pub ℤ/ : CommRing (Residue q)
  ℤ/ = record {
    ◌⊕◌ = add_residue q pos;
    ◌⊗◌ = mul_residue q pos;
    neg = neg_residue q pos;
    𝟘 = z 0;
    𝟙 = z 1;
    plus_assoc = λ a b c. residue-same _ _ (simp (residue-value, mod-add-mod, add-mod-mod, add_assoc));
    plus_comm = λ a b. ap z (add_comm a.0 b.0);
    plus-zero = λ a. residue-same _ _ (simp (residue-value, add-mod-mod, add-zero) (mod-eq_of_lt a.1));
    plus-neg = λ a. residue-same _ _ (simp (residue-value, add-mod-mod) (simp (add-sub_of_le, a.1, le_of_lt, mod_self, zero-mod)));
    times_assoc = λ a b c. residue-same _ _ (simp (residue-value, mod-mul-left, mod-mul-right, mul_assoc));
    times_comm = λ a b. ap z (mul_comm a.0 b.0);
    times-one = λ a. residue-same _ _ (simp (residue-value, mod-mul-right, mul-one) (mod-eq_of_lt a.1));
    times-plus = λ a b c. residue-same _ _ (simp (residue-value, mod-add-mod, add-mod-mod, mod-mul-right, mul-add));
  }

  infixl 65 ◌⊕◌
  infixl 70 ◌⊗◌
  open ℤ/ use {◌⊕◌, ◌⊗◌, neg, 𝟘, 𝟙}

  -- ---- `residue` takes 0, 1, sums, products, differences and powers of numbers to those of residues

  pub of-mod : (a : ℕ) → z (a % q) ≡ z a
  of-mod a = residue-same _ _ (simp (residue-value, mod-mod))

  -- equal residues, from a computation
  pub of-same : (a b : ℕ) → a % q ≡ b % q → z a ≡ z b
  of-same a b e = sym (of-mod a) ∙ ap z e ∙ of-mod b

  pub same_of : (a b : ℕ) → z a ≡ z b → a % q ≡ b % q
  same_of a b e = sym (residue-value a) ∙ ap (λ (x : Residue q). x.0) e ∙ residue-value b

  pub of_zero : z 0 ≡ 𝟘
  unfolding ℤ/
  of_zero = refl

  pub of_one : z 1 ≡ 𝟙
  unfolding ℤ/
  of_one = refl

  pub of-add : (a b : ℕ) → z (a + b) ≡ z a ⊕ z b
  unfolding ℤ/
  of-add a b = residue-same _ _ (simp (residue-value, mod-add-mod, add-mod-mod))

  pub of-mul : (a b : ℕ) → z (a * b) ≡ z a ⊗ z b
  unfolding ℤ/
  of-mul a b = residue-same _ _ (simp (residue-value, mod-mul-left, mod-mul-right))

  pub of-neg : (a : ℕ) → z (q - a % q) ≡ neg (z a)
  unfolding ℤ/
  of-neg a = ap (λ (k : ℕ). z (q - k)) (sym (residue-value a))

  pub of_pow : (a n : ℕ) → z (a ^ n) ≡ pow ℤ/ (z a) n
  of_pow a zero = ap z (N.pow-zero a) ∙ of_one ∙ sym (L.pow-zero ℤ/ (z a))
  of_pow a (suc n) = ap z (pow-succ' a n) ∙ of-mul a (a ^ n) ∙ ap (λ (x : Residue q). z a ⊗ x) (of_pow a n) ∙ sym (L.pow-suc ℤ/ (z a) n)

  pub of-modulus : z q ≡ 𝟘
  of-modulus = of-same q 0 (mod_self q ∙ sym (zero-mod q)) ∙ of_zero

  -- q - 1 stands for - 1
  pub of-minus-one : z (q - 1) ≡ neg 𝟙
  of-minus-one =
      L.neg_unique ℤ/ 𝟙 (z (q - 1)) (ap (λ (x : Residue q). x ⊕ z (q - 1)) (sym of_one) ∙ sym (of-add 1 (q - 1)) ∙ ap z (omega arith) ∙ of-modulus)

  -- a residue is zero exactly when q divides the number
  pub zero_iff : (a : ℕ) → (z a ≡ 𝟘) ↔ (a % q ≡ 0)
  zero_iff a = ((λ e. same_of a 0 (e ∙ sym of_zero) ∙ zero-mod q), (λ e. of-same a 0 (e ∙ sym (zero-mod q)) ∙ of_zero))

  -- gathers an expression in residues of numbers into the residue of one number: `simp numbers (of-same q pos a b refl)`
  pub ruleset numbers = (← of_zero, ← of_one, ← of-add, ← of-mul, ← of-neg)
