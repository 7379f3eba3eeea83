-- What follows from the laws of a commutative ring, and the rule set `ring` that closes its identities: `simp ring`.
use mathlib.Core.Path.{◌≡◌, refl, sym, ap, ap₂, ◌∙◌}
use Prim.Native.Nat.{ℕ, zero, suc, ◌+◌, ◌<◌, zero-le, suc-le-suc}
use native.Mathlib.Nat.{zero-add, suc-add, suc_inj, not-suc-le-zero}
use mathlib.Core.Logic.{◌≢◌}
use native.Mathlib.Omega.{arith}
use Rattle.algebra.specs.Ring.{CommRing, pow, sum}

module _ {F : Type 0} (R : CommRing F) where
  infixl 65 ◌⊕◌
  infixl 70 ◌⊗◌
  open R use {◌⊕◌, ◌⊗◌, neg, 𝟘, 𝟙}

  -- the ring's own laws, as functions of the ring: so `simp` finds the ring that is meant
  pub plus_assoc : (a b c : F) → (a ⊕ b) ⊕ c ≡ a ⊕ (b ⊕ c)
  plus_assoc = R.plus_assoc

  pub plus_comm : (a b : F) → a ⊕ b ≡ b ⊕ a
  plus_comm = R.plus_comm

  pub plus-zero : (a : F) → a ⊕ 𝟘 ≡ a
  plus-zero = R.plus-zero

  pub plus-neg : (a : F) → a ⊕ neg a ≡ 𝟘
  plus-neg = R.plus-neg

  pub times_assoc : (a b c : F) → (a ⊗ b) ⊗ c ≡ a ⊗ (b ⊗ c)
  times_assoc = R.times_assoc

  pub times_comm : (a b : F) → a ⊗ b ≡ b ⊗ a
  times_comm = R.times_comm

  pub times-one : (a : F) → a ⊗ 𝟙 ≡ a
  times-one = R.times-one

  pub times-plus : (a b c : F) → a ⊗ (b ⊕ c) ≡ a ⊗ b ⊕ a ⊗ c
  times-plus = R.times-plus

  -- ---- sums and products

  pub plus-left_comm : (a b c : F) → a ⊕ (b ⊕ c) ≡ b ⊕ (a ⊕ c)
  plus-left_comm a b c = simp (← plus_assoc, plus_comm a b)

  pub zero-plus : (a : F) → 𝟘 ⊕ a ≡ a
  zero-plus a = plus_comm 𝟘 a ∙ plus-zero a

  pub times-left_comm : (a b c : F) → a ⊗ (b ⊗ c) ≡ b ⊗ (a ⊗ c)
  times-left_comm a b c = simp (← times_assoc, times_comm a b)

  pub one-times : (a : F) → 𝟙 ⊗ a ≡ a
  one-times a = times_comm 𝟙 a ∙ times-one a

  pub plus_times : (a b c : F) → (a ⊕ b) ⊗ c ≡ a ⊗ c ⊕ b ⊗ c
  plus_times a b c = simp (times_comm, times-plus)

  -- ---- negatives

  pub neg_unique : (a b : F) → a ⊕ b ≡ 𝟘 → b ≡ neg a
  neg_unique a b h =
      sym (zero-plus b) ∙ ap (λ x. x ⊕ b) (sym (plus_comm (neg a) a ∙ plus-neg a))
      ∙ plus_assoc (neg a) a b ∙ ap (λ x. neg a ⊕ x) h ∙ plus-zero (neg a)

  pub plus_cancel : (a b : F) → a ⊕ (neg a ⊕ b) ≡ b
  plus_cancel a b = simp (← plus_assoc, plus-neg, zero-plus)

  pub plus_cancel' : (a b : F) → neg a ⊕ (a ⊕ b) ≡ b
  plus_cancel' a b = simp (← plus_assoc, plus_comm (neg a) a, plus-neg, zero-plus)

  pub neg-plus-self : (a : F) → neg a ⊕ a ≡ 𝟘
  neg-plus-self a = plus_comm (neg a) a ∙ plus-neg a

  pub plus-left_cancel : (a b c : F) → a ⊕ b ≡ a ⊕ c → b ≡ c
  plus-left_cancel a b c h = sym (plus_cancel' a b) ∙ ap (λ x. neg a ⊕ x) h ∙ plus_cancel' a c

  pub times_zero : (a : F) → a ⊗ 𝟘 ≡ 𝟘
  times_zero a = plus-left_cancel (a ⊗ 𝟘) (a ⊗ 𝟘) 𝟘 (sym (times-plus a 𝟘 𝟘) ∙ simp (plus-zero))

  pub zero-times : (a : F) → 𝟘 ⊗ a ≡ 𝟘
  zero-times a = times_comm 𝟘 a ∙ times_zero a

  pub neg-zero : neg 𝟘 ≡ 𝟘
  neg-zero = sym (neg_unique 𝟘 𝟘 (plus-zero 𝟘))

  pub neg-neg : (a : F) → neg (neg a) ≡ a
  neg-neg a = sym (neg_unique (neg a) a (neg-plus-self a))

  pub neg-plus : (a b : F) → neg (a ⊕ b) ≡ neg a ⊕ neg b
  neg-plus a b = sym (neg_unique (a ⊕ b) (neg a ⊕ neg b) (simp (plus_assoc, plus-left_comm b (neg a) (neg b), plus-neg, plus-zero)))

  pub times-neg : (a b : F) → a ⊗ neg b ≡ neg (a ⊗ b)
  times-neg a b = neg_unique (a ⊗ b) (a ⊗ neg b) (sym (times-plus a b (neg b)) ∙ simp (plus-neg, times_zero))

  pub neg-times : (a b : F) → neg a ⊗ b ≡ neg (a ⊗ b)
  neg-times a b = times_comm (neg a) b ∙ times-neg b a ∙ ap neg (times_comm b a)

  -- a and - a cancel over up to four other summands

  pub cancel₂ : (a b c : F) → a ⊕ (b ⊕ (neg a ⊕ c)) ≡ b ⊕ c
  cancel₂ a b c = simp (plus-left_comm a b, plus_cancel)

  pub cancel₂' : (a b : F) → a ⊕ (b ⊕ neg a) ≡ b
  cancel₂' a b = simp (plus-left_comm a b, plus-neg, plus-zero)

  pub cancel₃ : (a b c d : F) → a ⊕ (b ⊕ (c ⊕ (neg a ⊕ d))) ≡ b ⊕ (c ⊕ d)
  cancel₃ a b c d = simp (plus-left_comm a b, cancel₂)

  pub cancel₃' : (a b c : F) → a ⊕ (b ⊕ (c ⊕ neg a)) ≡ b ⊕ c
  cancel₃' a b c = simp (plus-left_comm a b, cancel₂')

  pub cancel₄ : (a b c d e : F) → a ⊕ (b ⊕ (c ⊕ (d ⊕ (neg a ⊕ e)))) ≡ b ⊕ (c ⊕ (d ⊕ e))
  cancel₄ a b c d e = simp (plus-left_comm a b, cancel₃)

  pub cancel₄' : (a b c d : F) → a ⊕ (b ⊕ (c ⊕ (d ⊕ neg a))) ≡ b ⊕ (c ⊕ d)
  cancel₄' a b c d = simp (plus-left_comm a b, cancel₃')

  pub cancel₅ : (a b c d e f : F) → a ⊕ (b ⊕ (c ⊕ (d ⊕ (e ⊕ (neg a ⊕ f))))) ≡ b ⊕ (c ⊕ (d ⊕ (e ⊕ f)))
  cancel₅ a b c d e f = simp (plus-left_comm a b, cancel₄)

  pub cancel₅' : (a b c d e : F) → a ⊕ (b ⊕ (c ⊕ (d ⊕ (e ⊕ neg a)))) ≡ b ⊕ (c ⊕ (d ⊕ e))
  cancel₅' a b c d e = simp (plus-left_comm a b, cancel₄')

  -- closes identities of commutative rings: `simp ring`
  pub ruleset ring = (
    plus_assoc,
    plus_comm,
    plus-left_comm,
    times_assoc,
    times_comm,
    times-left_comm,
    times-plus,
    plus_times,
    neg-plus,
    times-neg,
    neg-times,
    neg-neg,
    neg-zero,
    plus-zero,
    zero-plus,
    times_zero,
    zero-times,
    times-one,
    one-times,
    plus-neg,
    neg-plus-self,
    plus_cancel,
    plus_cancel',
    cancel₂,
    cancel₂',
    cancel₃,
    cancel₃',
    cancel₄,
    cancel₄',
    cancel₅,
    cancel₅',
  )

  -- a difference that is zero
  pub minus-zero : (a b : F) → a ⊕ neg b ≡ 𝟘 → a ≡ b
  minus-zero a b h = sym (neg-neg a) ∙ ap neg (sym (neg_unique a (neg b) h)) ∙ neg-neg b

  -- ---- units

  -- an element has one inverse at most
  pub inverse-unique : (x y z : F) → x ⊗ y ≡ 𝟙 → x ⊗ z ≡ 𝟙 → y ≡ z
  inverse-unique x y z e f = sym (times-one y) ∙ ap (λ (t : F). y ⊗ t) (sym f) ∙ swap ∙ ap (λ (t : F). z ⊗ t) e ∙ times-one z
    where
      swap : y ⊗ (x ⊗ z) ≡ z ⊗ (x ⊗ y)
      swap = simp ring

  -- ---- powers

  pub pow-zero : (x : F) → pow R x zero ≡ 𝟙
  unfolding pow
  pow-zero x = refl

  pub pow-suc : (x : F) (n : ℕ) → pow R x (suc n) ≡ x ⊗ pow R x n
  unfolding pow
  pow-suc x n = refl

  pub pow-one : (x : F) → pow R x 1 ≡ x
  unfolding pow
  pow-one x = times-one x

  pub pow-add : (x : F) (m n : ℕ) → pow R x (m + n) ≡ pow R x m ⊗ pow R x n
  pow-add x zero n = rw zero-add (simp (pow-zero, ring))
  pow-add x (suc m) n = rw (suc-add, pow-suc, pow-suc, pow-add x m n) (simp ring)

  -- ---- finite sums

  pub sum-zero : (f : ℕ → F) → sum R 0 f ≡ 𝟘
  unfolding sum
  sum-zero f = refl

  pub sum-suc : (n : ℕ) (f : ℕ → F) → sum R (suc n) f ≡ f 0 ⊕ sum R n (λ i. f (suc i))
  unfolding sum
  sum-suc n f = refl

  pub sum_same : (n : ℕ) (f g : ℕ → F) → ((i : ℕ) → i < n → f i ≡ g i) → sum R n f ≡ sum R n g
  unfolding sum
  sum_same zero f g h = refl
  sum_same (suc n) f g h =
      ap₂ (λ (x y : F). x ⊕ y) (h zero (suc-le-suc zero-le)) (sum_same n (λ i. f (suc i)) (λ i. g (suc i)) (λ i k. h (suc i) (suc-le-suc k)))

  pub sum-append : (m n : ℕ) (f : ℕ → F) → sum R (m + n) f ≡ sum R m f ⊕ sum R n (λ i. f (m + i))
  sum-append zero n f = rw (zero-add, sum-zero, zero-plus) (sum_same n f (λ i. f (0 + i)) (λ i h. ap f (sym (zero-add i))))
  sum-append (suc m) n f =
      rw (suc-add, sum-suc, sum-suc, sum-append m n (λ i. f (suc i)), plus_assoc)
      (ap (λ (x : F). f 0 ⊕ (sum R m (λ i. f (suc i)) ⊕ x)) (sum_same n (λ i. f (suc (m + i))) (λ i. f (suc m + i)) (λ i h. ap f (sym (suc-add m i)))))

  pub sum_zeros : (n : ℕ) (f : ℕ → F) → ((i : ℕ) → i < n → f i ≡ 𝟘) → sum R n f ≡ 𝟘
  sum_zeros zero f h = sum-zero f
  sum_zeros (suc n) f h = rw (sum-suc, h 0 (suc-le-suc zero-le), sum_zeros n (λ i. f (suc i)) (λ i l. h (suc i) (suc-le-suc l))) (plus-zero 𝟘)

  -- a sum with one term that is not zero
  pub sum-single : (n i : ℕ) (f : ℕ → F) → i < n → ((j : ℕ) → j < n → j ≢ i → f j ≡ 𝟘) → sum R n f ≡ f i
  sum-single zero i f l h = absurd (not-suc-le-zero l)
  sum-single (suc n) zero f l h = rw (sum-suc, sum_zeros n (λ i. f (suc i)) (λ i g. h (suc i) (suc-le-suc g) (λ e. omega arith))) (plus-zero (f 0))
  sum-single (suc n) (suc i) f l h =
      let rest = sum-single n i (λ i. f (suc i)) (omega arith) (λ j g d. h (suc j) (suc-le-suc g) (λ e. d (suc_inj e))) in
      rw (sum-suc, h 0 (suc-le-suc zero-le) (λ e. omega arith), rest) (zero-plus (f (suc i)))

  pub sum-neg : (n : ℕ) (f : ℕ → F) → sum R n (λ i. neg (f i)) ≡ neg (sum R n f)
  sum-neg zero f = rw (sum-zero, sum-zero) (sym neg-zero)
  sum-neg (suc n) f = rw (sum-suc, sum-suc, sum-neg n (λ i. f (suc i)), neg-plus)

-- The ring's laws hold on every set G that maps into the ring injectively, where the map keeps the operations.
module _ {G F : Type 0} (R : CommRing F) (f : G → F) (injective : (x y : G) → f x ≡ f y → x ≡ y)
    (plus times : G → G → G) (minus : G → G) (zero' one' : G)
    (f-plus : (x y : G) → f (plus x y) ≡ CommRing.◌⊕◌ R (f x) (f y))
    (f-times : (x y : G) → f (times x y) ≡ CommRing.◌⊗◌ R (f x) (f y))
    (f-neg : (x : G) → f (minus x) ≡ CommRing.neg R (f x))
    (f-zero : f zero' ≡ CommRing.𝟘 R) (f-one : f one' ≡ CommRing.𝟙 R) where
  abbrev pub subring : CommRing G
  subring = record {
    ◌⊕◌ = plus;
    ◌⊗◌ = times;
    neg = minus;
    𝟘 = zero';
    𝟙 = one';
    plus_assoc = λ a b c. injective _ _ (simp f-plus (plus_assoc R (f a) (f b) (f c)));
    plus_comm = λ a b. injective _ _ (f-plus a b ∙ plus_comm R (f a) (f b) ∙ sym (f-plus b a));
    plus-zero = λ a. injective _ _ (simp (f-plus, f-zero) (plus-zero R (f a)));
    plus-neg = λ a. injective _ _ (simp (f-plus, f-neg, f-zero) (plus-neg R (f a)));
    times_assoc = λ a b c. injective _ _ (simp f-times (times_assoc R (f a) (f b) (f c)));
    times_comm = λ a b. injective _ _ (f-times a b ∙ times_comm R (f a) (f b) ∙ sym (f-times b a));
    times-one = λ a. injective _ _ (simp (f-times, f-one) (times-one R (f a)));
    times-plus = λ a b c. injective _ _ (simp (f-times, f-plus) (times-plus R (f a) (f b) (f c)));
  }
