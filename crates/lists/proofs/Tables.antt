-- Laws of `table`: a list is known by its length and the rule for its entries.
use mathlib.Core.Path.{◌≡◌, refl, sym, ap, ap₂, ◌∙◌}
use native.Mathlib.Decide.{dec_lt}
use mathlib.Core.List.{List, [], ◌∷◌, ◌++◌, map, zip_with}
use Prim.Native.Nat.{ℕ, zero, suc, ◌+◌, ◌-◌, ◌<◌, ◌≤◌}
use native.Mathlib.Nat.{add-zero, zero-add, add-suc, suc-add}
use native.Mathlib.Omega.{arith}
use lib.ListN.{length, get_or, take, drop, length-append, get_or-append}
use lib.Seq.{ext_get_or, get_or-take, get_or-append-add, length-take-le, drop_at}
use Rattle.lists.specs.Table.{table, table_from}
use Rattle.lists.proofs.Maps.{cons}

module _ {ℓ} {A : Type ℓ} where
  length-table_from : (i n : ℕ) (f : ℕ → A) → length (table_from i n f) ≡ n
  unfolding table_from
  length-table_from i zero f = refl
  length-table_from i (suc n) f = ap suc (length-table_from (suc i) n f)

  pub length-table : (n : ℕ) (f : ℕ → A) → length (table n f) ≡ n
  unfolding table
  length-table n f = length-table_from 0 n f

  get_or-table_from : (i n : ℕ) (f : ℕ → A) (k : ℕ) (d : A) → k < n → get_or (table_from i n f) k d ≡ f (i + k)
  unfolding table_from
  get_or-table_from i zero f k d h = absurd (omega arith)
  get_or-table_from i (suc n) f zero d h = rw add-zero
  get_or-table_from i (suc n) f (suc k) d h = rw (add-suc, ← suc-add) (get_or-table_from (suc i) n f k d (omega arith))

  pub get_or-table : (n : ℕ) (f : ℕ → A) (k : ℕ) (d : A) → k < n → get_or (table n f) k d ≡ f k
  unfolding table
  get_or-table n f k d h = get_or-table_from 0 n f k d h ∙ ap f (zero-add k)

  -- a list of n entries that follow the rule f is its table
  pub table_is : (n : ℕ) (f : ℕ → A) (l : List A) (d : A) → length l ≡ n → ((k : ℕ) → k < n → get_or l k d ≡ f k) → l ≡ table n f
  table_is n f l d e h =
      ext_get_or d l (table n f) (e ∙ sym (length-table n f))
      (λ k g. let g' : k < n = omega arith in h k g' ∙ sym (get_or-table n f k d g'))

  pub table_same : (n : ℕ) (f g : ℕ → A) → ((k : ℕ) → k < n → f k ≡ g k) → table n f ≡ table n g
  unfolding table table_from
  table_same zero f g h = refl
  table_same (suc n) f g h =
      table_is (suc n) g (table (suc n) f) (f 0) (length-table (suc n) f) (λ k l. get_or-table (suc n) f k (f 0) l ∙ h k l)

  pub take-table : (k n : ℕ) (f : ℕ → A) → k ≤ n → take k (table n f) ≡ table k f
  unfolding table table_from
  take-table zero n f h = refl
  take-table (suc k) n f h =
      let e : length (take (suc k) (table n f)) ≡ suc k = length-take-le (suc k) (table n f) (rw length-table h) in
      table_is (suc k) f (take (suc k) (table n f)) (f 0) e
      (λ j l. get_or-take (suc k) (table n f) j (f 0) l ∙ get_or-table n f j (f 0) (omega arith))

  -- a table in two parts
  pub table-append : (a b : ℕ) (f : ℕ → A) → table (a + b) f ≡ table a f ++ table b (λ j. f (a + j))
  table-append a b f =
      let size : length (table a f ++ table b (λ j. f (a + j))) ≡ a + b =
      length-append (table a f) (table b (λ j. f (a + j))) ∙ ap₂ (λ (x y : ℕ). x + y) (length-table a f) (length-table b (λ j. f (a + j))) in
      sym (table_is (a + b) f (table a f ++ table b (λ j. f (a + j))) (f 0) size (λ k h. entry k h (dec_lt k a)))
    where
      entry : (k : ℕ) → k < a + b → Dec (k < a) → get_or (table a f ++ table b (λ j. f (a + j))) k (f 0) ≡ f k
      entry k h (yes l) =
          get_or-append (table a f) (table b (λ j. f (a + j))) (f 0) k (rw length-table l) ∙ get_or-table a f k (f 0) l
      entry k h (no l) =
          let e : k ≡ length (table a f) + (k - a) = omega (arith, length-table a f) in
          let c : a + (k - a) ≡ k = omega arith in
          ap (λ (m : ℕ). get_or (table a f ++ table b (λ j. f (a + j))) m (f 0)) e
          ∙ get_or-append-add (table a f) (table b (λ j. f (a + j))) (k - a) (f 0)
          ∙ get_or-table b (λ j. f (a + j)) (k - a) (f 0) (omega arith)
          ∙ ap f c

  -- a part of a table
  pub part-table : (i k n : ℕ) (f : ℕ → A) → i + k ≤ n → take k (drop i (table n f)) ≡ table k (λ j. f (i + j))
  part-table i k n f h =
      let e : i + (n - i) ≡ n = omega arith in
      rw (← e, table-append i (n - i) f, drop_at (table i f) (table (n - i) (λ j. f (i + j))) i (length-table i f)) (take-table k (n - i) (λ j. f (i + j)) (omega arith))

-- ---- entry by entry

module _ {ℓ} {A : Type ℓ} where
  pub table-zero : (f : ℕ → A) → table 0 f ≡ []
  unfolding table table_from
  table-zero f = refl

  pub table-cons : (n : ℕ) (f : ℕ → A) → table (suc n) f ≡ f 0 ∷ table n (λ k. f (suc k))
  table-cons n f = sym (table_is (suc n) f (f 0 ∷ table n (λ k. f (suc k))) (f 0) (ap suc (length-table n (λ k. f (suc k)))) entry)
    where
      entry : (k : ℕ) → k < suc n → get_or (f 0 ∷ table n (λ k. f (suc k))) k (f 0) ≡ f k
      entry zero h = refl
      entry (suc k) h = get_or-table n (λ k. f (suc k)) k (f 0) (omega arith)

  pub table-get_or : (n : ℕ) (a : List A) (d : A) → length a ≡ n → table n (λ k. get_or a k d) ≡ a
  table-get_or n a d e = sym (table_is n (λ k. get_or a k d) a d e (λ k h. refl))

pub map-table {ℓ κ} : {A : Type ℓ} {B : Type κ} (h : A → B) (n : ℕ) (f : ℕ → A) → map h (table n f) ≡ table n (λ k. h (f k))
map-table h zero f = rw (table-zero, table-zero)
map-table h (suc n) f = rw (table-cons, table-cons) (cons refl (map-table h n (λ k. f (suc k))))

pub zip_with-table {ℓ κ μ} : {A : Type ℓ} {B : Type κ} {C : Type μ} (h : A → B → C) (n : ℕ) (f : ℕ → A) (g : ℕ → B)
    → zip_with h (table n f) (table n g) ≡ table n (λ k. h (f k) (g k))
unfolding zip_with
zip_with-table h zero f g = rw (table-zero, table-zero)
zip_with-table h (suc n) f g = rw (table-cons, table-cons, table-cons) (cons refl (zip_with-table h n (λ k. f (suc k)) (λ k. g (suc k))))

-- ---- the two halves of a table

pub drop-table {ℓ} : {A : Type ℓ} (m n : ℕ) (f : ℕ → A) → drop m (table (m + n) f) ≡ table n (λ j. f (m + j))
drop-table m n f = rw (table-append m n f) (drop_at (table m f) (table n (λ j. f (m + j))) m (length-table m f))

pub zip_with-halves {ℓ κ} : {A : Type ℓ} {C : Type κ} (g : A → A → C) (m : ℕ) (f : ℕ → A)
    → zip_with g (take m (table (m + m) f)) (drop m (table (m + m) f)) ≡ table m (λ i. g (f i) (f (m + i)))
zip_with-halves g m f = ap₂ (zip_with g) (take-table m (m + m) f (omega arith)) (drop-table m m f) ∙ zip_with-table g m f (λ i. f (m + i))
