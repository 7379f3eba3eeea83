-- What `array::from_fn` makes, from what its closure gives at each index.
use mathlib.Core.Path.{◌≡◌, refl, sym, subst, ◌∙◌}
use mathlib.Core.List.{List}
use Prim.Native.Nat.{ℕ, zero, suc, ◌+◌, ◌<◌}
use native.Mathlib.Omega.{arith}
use denote.Param.Members.{Mut, Called}
use lib.ListN.{length, get_or}
use lib.Seq.{ext_get_or}
use Rattle.std.specs.Array.{index_steps, IsFromFnResultFrom, IsFromFnResult}
use Rattle.std.specs.Iterator.{CallableAtEachTurn}
use Rattle.std.proofs.lemmas.Fn.{serves_by}
use Rattle.lists.specs.Table.{table}
use Rattle.lists.proofs.Tables.{table_is}

-- g gives h of every index below n, and is left as it was
module _ {F A : Type 0} (g : Mut F (ℕ × Unit {0}) A) (f : F) (h : ℕ → A) where
  each_at : (ys : List A) (i n : ℕ) → ((k : ℕ) (y : A) (q : F) → k < i + n → Called g f (k, tt) y q → (q ≡ f) × (y ≡ h k))
      → IsFromFnResultFrom g f ys i n → (k j : ℕ) (d : A) → k < n → i + k ≡ j → get_or ys j d ≡ h j
  each_at ys i zero s c k j d l e = absurd (omega arith)
  each_at ys i (suc n) s c zero j d l e =
      let place : i ≡ j = omega arith in
      let call = s i c.1 c.0 (omega arith) c.3 in
      rw (← place) (c.2.1 d ∙ call.1)
  each_at ys i (suc n) s c (suc k) j d l e =
      let call = s i c.1 c.0 (omega arith) c.3 in
      each_at ys (i + 1) n (λ m y q b. s m y q (omega arith)) (subst (λ p. IsFromFnResultFrom g p ys (i + 1) n) call.0 c.4) k j d (omega arith) (omega arith)

  made-at : (ys : List A) (n : ℕ) → ((k : ℕ) (y : A) (q : F) → k < n → Called g f (k, tt) y q → (q ≡ f) × (y ≡ h k))
      → IsFromFnResult g f ys n → (k : ℕ) (d : A) → k < n → get_or ys k d ≡ h k
  made-at ys n s made k d l = each_at ys 0 n (λ m y q b. s m y q (omega arith)) made.each k k d l (omega arith)

  pub from_fn-table : (ys : List A) (n : ℕ) (d : A) → ((k : ℕ) (y : A) (q : F) → k < n → Called g f (k, tt) y q → (q ≡ f) × (y ≡ h k))
      → IsFromFnResult g f ys n → ys ≡ table n h
  from_fn-table ys n d s made = table_is n h ys d made.long (λ k l. made-at ys n s made k d l)

-- the entries of a list that is known otherwise
pub from_fn-list : {F A : Type 0} (g : Mut F (ℕ × Unit {0}) A) (f : F) (xs ys : List A) (n : ℕ) (d : A) → length xs ≡ n
    → ((k : ℕ) (y : A) (q : F) → k < n → Called g f (k, tt) y q → (q ≡ f) × (y ≡ get_or xs k d)) → IsFromFnResult g f ys n → ys ≡ xs
from_fn-list g f xs ys n d e s made =
    ext_get_or d ys xs (made.long ∙ sym e) (λ k l. made-at g f (λ j. get_or xs j d) ys n s made k d (omega (arith, made.long)))

-- the closure may be called at each index in turn, where a call leaves it as it was
pub from_fn-callable : {F A : Type 0} (g : Mut F (ℕ × Unit {0}) A) (f : F) (n : ℕ)
    → ((k : ℕ) (y : A) (q : F) → Called g f (k, tt) y q → q ≡ f) → ((k : ℕ) → k < n → g.pre f (k, tt))
    → CallableAtEachTurn (index_steps n) (λ p x q. (y : A) × Called g p (x, tt) y q) (λ p x. g.pre p (x, tt)) 0 f
from_fn-callable {F} {A} g f n same may =
    serves_by (λ (p : F) (x : ℕ) (q : F). (y : A) × Called g p (x, tt) y q) (λ (xs : List ℕ) (q : F). q ≡ f)
    (λ xs q x v e c. same x c.0 v (subst (λ p. Called g p (x, tt) c.0 v) e c.1)) (index_steps n) (λ (p : F) (x : ℕ). g.pre p (x, tt)) 0 f refl
    (λ xs t q x u y s e. subst (λ p. g.pre p (x, tt)) (sym e) (may x (subst (λ j. j < n) (sym s.1) s.0)))
