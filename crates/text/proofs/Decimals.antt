-- Numbers in decimal, by their last digit.
use mathlib.Core.Path.{◌≡◌, sym, ap, ◌∙◌}
use mathlib.Core.Bool.{Bool, true, false, cond}
use mathlib.Core.List.{List, [], ◌∷◌, ◌++◌}
use Prim.Native.Nat.{ℕ, zero, suc, ◌+◌, ◌*◌, ◌/◌, ◌%◌, ◌^◌, ◌<◌, ◌≤◌}
use native.Mathlib.Nat.{pow-suc}
use native.Mathlib.Decide.{dec_le}
use native.Mathlib.Omega.{arith}
use lib.Dec.{ltb}
use lib.ListN.{length, length-append}
use borrow.Author.Tests.{lt-ltb, le-ltb}
use Rattle.text.specs.Text.{digits_of, decimal}

digits-one : (k n : ℕ) → n < 10 → digits_of (suc k) n ≡ (48 + n) ∷ []
unfolding digits_of
digits-one k n h = rw (lt-ltb n 10 h)

digits_more : (k n : ℕ) → 10 ≤ n → digits_of (suc k) n ≡ digits_of k (n / 10) ++ ((48 + n % 10) ∷ [])
unfolding digits_of
digits_more k n h = rw (le-ltb n 10 h)

-- a larger bound changes nothing
digits_enough : (k n : ℕ) → n < 10 ^ suc k → digits_of (suc (suc k)) n ≡ digits_of (suc k) n
digits_enough zero n h = digits-one 1 n (omega (arith, h)) ∙ sym (digits-one 0 n (omega (arith, h)))
digits_enough (suc k) n h = by (dec_le 10 n) (digits_enough k (n / 10) (let p : 10 ^ suc (suc k) ≡ 10 ^ suc k * 10 = pow-suc 10 (suc k) in omega (arith, p, h)))
  where
    by : Dec (10 ≤ n) → digits_of (suc (suc k)) (n / 10) ≡ digits_of (suc k) (n / 10) → digits_of (suc (suc (suc k))) n ≡ digits_of (suc (suc k)) n
    by (no few) same = digits-one (suc (suc k)) n (omega (arith, few)) ∙ sym (digits-one (suc k) n (omega (arith, few)))
    by (yes many) same =
        digits_more (suc (suc k)) n many ∙ ap (λ (l : List ℕ). l ++ ((48 + n % 10) ∷ [])) same ∙ sym (digits_more (suc k) n many)

pub decimal-one : (n : ℕ) → n < 10 → decimal n ≡ (48 + n % 10) ∷ []
decimal-one n h = let same : n ≡ n % 10 = omega arith in digits-one 19 n h ∙ ap (λ (d : ℕ). (48 + d) ∷ []) same

pub decimal-more : (n : ℕ) → n < 18446744073709551616 → 10 ≤ n → decimal n ≡ decimal (n / 10) ++ ((48 + n % 10) ∷ [])
decimal-more n h many = digits_more 19 n many ∙ ap (λ (l : List ℕ). l ++ ((48 + n % 10) ∷ [])) (sym (digits_enough 18 (n / 10) (omega arith)))

-- a number has no more digits than its bound says
pub length_digits : (k n : ℕ) → length (digits_of k n) ≤ k
unfolding digits_of
length_digits zero n = omega arith
length_digits (suc k) n = by (ltb n 10) (length_digits k (n / 10))
  where
    by : (b : Bool) → length (digits_of k (n / 10)) ≤ k → length (cond b ((48 + n) ∷ []) (digits_of k (n / 10) ++ ((48 + n % 10) ∷ []))) ≤ suc k
    by true h = omega arith
    by false h = omega (arith, length-append (digits_of k (n / 10)) ((48 + n % 10) ∷ []))
