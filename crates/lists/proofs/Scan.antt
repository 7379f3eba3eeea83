-- The invariant of every loop that looks for the first entry of a list that fails a test.
use mathlib.Core.Path.{◌≡◌, refl, sym, ap, ◌∙◌}
use mathlib.Core.Bool.{Bool, true, false, cond, not, ◌&&◌, ◌||◌, false≢true}
use mathlib.Core.List.{List, [], ◌∷◌}
use Prim.Native.Nat.{ℕ, zero, suc, ◌+◌, ◌-◌, ◌<◌, ◌≤◌}
use native.Mathlib.Nat.{zero-add, suc_inj}
use native.Mathlib.Numerals.{add-one}
use native.Mathlib.Omega.{arith}
use native.Mathlib.Decide.{dec_le}
use lib.Dec.{leb, ltb, eqb}
use lib.ListN.{length, get_or, drop, length-drop}
use lib.Seq.{drop-cons, drop-length, get_or-drop}
use borrow.Author.Tests.{lt-ltb, le-ltb, ltb-true, ltb-false, eqb-true, le-leb, lt-leb, eq-eqb, ne_eqb}
use Rattle.std.specs.Prelude.{Some, None, unwrap_or}
use Rattle.std.specs.List.{fold, position_or_len}
use Rattle.lists.specs.First.{first_failing}

-- the first i entries of xs pass
pub record Passed (good : ℕ → Bool) (xs : List ℕ) (i : ℕ) : Type 0 where
  pub within : i ≤ length xs
  pub left : first_failing good xs ≡ i + first_failing good (drop i xs)

pub passed_none : (good : ℕ → Bool) (xs : List ℕ) → Passed good xs 0
passed_none good xs = record { within = omega arith; left = sym (zero-add _) }

pub passed_more : {good : ℕ → Bool} {xs : List ℕ} {i : ℕ} → Passed good xs i → i < length xs → good (get_or xs i 0) ≡ true → Passed good xs (i + 1)
unfolding first_failing
passed_more {good} {xs} {i} p h g =
    let e : first_failing good (drop i xs) ≡ suc (first_failing good (drop (i + 1) xs)) = rw (drop-cons xs i 0 h, g, add-one) in
    record { within = omega arith; left = omega (arith, p.left, e) }

-- the entry at i fails
pub passed-stop : {good : ℕ → Bool} {xs : List ℕ} {i : ℕ} → Passed good xs i → i < length xs → good (get_or xs i 0) ≡ false → i ≡ first_failing good xs
unfolding first_failing
passed-stop {good} {xs} {i} p h g =
    let e : first_failing good (drop i xs) ≡ 0 = rw (drop-cons xs i 0 h, g) in
    omega (arith, p.left, e)

pub passed_all : {good : ℕ → Bool} {xs : List ℕ} {i : ℕ} → Passed good xs i → length xs ≤ i → i ≡ first_failing good xs
unfolding first_failing
passed_all {good} {xs} {i} p h =
    let n : i ≡ length xs = omega (arith, p.within) in
    let e : first_failing good (drop i xs) ≡ 0 = rw (n, drop-length) in
    omega (arith, p.left, e)

-- ---- what `first_failing` finds

pub first-within : (good : ℕ → Bool) (xs : List ℕ) → first_failing good xs ≤ length xs
unfolding first_failing
first-within good [] = omega arith
first-within good (x ∷ xs) = either (good x) (first-within good xs)
  where
    either : (t : Bool) → first_failing good xs ≤ length xs → cond t (suc (first_failing good xs)) 0 ≤ suc (length xs)
    either true h = omega arith
    either false h = omega arith

pub before-first : (good : ℕ → Bool) (xs : List ℕ) (k : ℕ) → k < first_failing good xs → good (get_or xs k 0) ≡ true
unfolding first_failing
before-first good [] k h = absurd (omega arith)
before-first good (x ∷ xs) k h = at k (before-first good xs) (good x) refl h
  where
    at : (k : ℕ) → ((j : ℕ) → j < first_failing good xs → good (get_or xs j 0) ≡ true) → (t : Bool) → good x ≡ t
        → k < cond t (suc (first_failing good xs)) 0 → good (get_or (x ∷ xs) k 0) ≡ true
    at zero rest true e l = e
    at (suc j) rest true e l = rest j (omega arith)
    at j rest false e l = absurd (omega arith)

-- every entry passes, so none is found
pub first-none : (good : ℕ → Bool) (xs : List ℕ) → ((i : ℕ) → i < length xs → good (get_or xs i 0) ≡ true) → first_failing good xs ≡ length xs
unfolding first_failing
first-none good [] h = refl
first-none good (x ∷ xs) h = rw (h 0 (omega arith)) (ap suc (first-none good xs (λ i l. h (suc i) (omega arith))))

-- none is found, so every entry passes
pub first_passes : (good : ℕ → Bool) (xs : List ℕ) → length xs ≤ first_failing good xs → (i : ℕ) → i < length xs → good (get_or xs i 0) ≡ true
first_passes good xs e i h = before-first good xs i (omega arith)

-- what is found fails
pub first-fails : (good : ℕ → Bool) (xs : List ℕ) → first_failing good xs < length xs → good (get_or xs (first_failing good xs) 0) ≡ false
unfolding first_failing
first-fails good [] h = absurd (omega arith)
first-fails good (x ∷ xs) h = by (good x) refl h (first-fails good xs)
  where
    by : (b : Bool) → good x ≡ b → cond b (suc (first_failing good xs)) 0 < suc (length xs)
        → (first_failing good xs < length xs → good (get_or xs (first_failing good xs) 0) ≡ false)
        → good (get_or (x ∷ xs) (cond b (suc (first_failing good xs)) 0) 0) ≡ false
    by true p h rest = rest (omega arith)
    by false p h rest = p

-- the first i entries pass, and so do the others
pub passed-rest : {good : ℕ → Bool} {xs : List ℕ} {i : ℕ} → Passed good xs i → ((k : ℕ) → i ≤ k → k < length xs → good (get_or xs k 0) ≡ true)
    → first_failing good xs ≡ length xs
passed-rest {good} {xs} {i} p h =
    let size : length (drop i xs) ≡ length xs - i = length-drop i xs in
    let rest : first_failing good (drop i xs) ≡ length (drop i xs) =
    first-none good (drop i xs) (λ k l. rw (get_or-drop i xs k 0) (h (i + k) (omega arith) (omega arith))) in
    omega (arith, p.left, p.within, rest)

-- ---- a scan of every entry that does not stop: whether the first i have passed

pub record Scanned (good : ℕ → Bool) (xs : List ℕ) (all : Bool) (i : ℕ) : Type 0 where
  pub within : i ≤ length xs
  pub so_far : all ≡ leb i (first_failing good xs)

pub scanned_none : (good : ℕ → Bool) (xs : List ℕ) → Scanned good xs true 0
scanned_none good xs = record { within = omega arith; so_far = sym (le-leb 0 (first_failing good xs) (omega arith)) }

-- the entry at i passes
pub scanned_pass : {good : ℕ → Bool} {xs : List ℕ} {all : Bool} {i : ℕ} → Scanned good xs all i → i < length xs → good (get_or xs i 0) ≡ true
    → Scanned good xs all (i + 1)
scanned_pass {good} {xs} {all} {i} s h g = record { within = omega arith; so_far = s.so_far ∙ by (dec_le i f) (dec_le (i + 1) f) }
  where
    f : ℕ
    f = first_failing good xs

    by : Dec (i ≤ f) → Dec (i + 1 ≤ f) → leb i f ≡ leb (i + 1) f
    by (yes l) (yes m) = le-leb i f l ∙ sym (le-leb (i + 1) f m)
    by (yes l) (no m) =
        let e : f ≡ i = omega arith in
        absurd (false≢true (sym (rw e at (first-fails good xs (omega arith))) ∙ g))
    by (no l) d = lt-leb i f (omega arith) ∙ sym (lt-leb (i + 1) f (omega arith))

-- the entry at i fails
pub scanned_fail : {good : ℕ → Bool} {xs : List ℕ} {all : Bool} {i : ℕ} → Scanned good xs all i → i < length xs → good (get_or xs i 0) ≡ false
    → Scanned good xs false (i + 1)
scanned_fail {good} {xs} {all} {i} s h g = record { within = omega arith; so_far = by (dec_le (i + 1) f) }
  where
    f : ℕ
    f = first_failing good xs

    by : Dec (i + 1 ≤ f) → false ≡ leb (i + 1) f
    by (yes l) = sym g ∙ before-first good xs i (omega arith) ∙ sym (le-leb (i + 1) f l)
    by (no l) = sym (lt-leb (i + 1) f (omega arith))

pub scanned_all : {good : ℕ → Bool} {xs : List ℕ} {all : Bool} {i : ℕ} → Scanned good xs all i → length xs ≤ i
    → all ≡ eqb (first_failing good xs) (length xs)
scanned_all {good} {xs} {all} {i} s h = s.so_far ∙ by (dec_le i f)
  where
    f : ℕ
    f = first_failing good xs

    by : Dec (i ≤ f) → leb i f ≡ eqb f (length xs)
    by (yes l) = le-leb i f l ∙ sym (eq-eqb f (length xs) (omega (arith, s.within, first-within good xs)))
    by (no l) = lt-leb i f (omega arith) ∙ sym (ne_eqb f (length xs) (λ e. l (omega (arith, s.within, e))))

-- ---- the library's search for the first entry that a test finds

module _ (good bad : ℕ → Bool) where
  place_of : (xs : List ℕ) → ((x : ℕ) → bad x ≡ not (good x)) → position_or_len bad xs ≡ first_failing good xs
  unfolding first_failing
  place_of [] h = refl
  place_of (x ∷ xs) h = by (good x) refl (place_of xs h)
    where
      by : (t : Bool) → good x ≡ t → position_or_len bad xs ≡ first_failing good xs
          → position_or_len bad (x ∷ xs) ≡ cond (good x) (suc (first_failing good xs)) 0
      by true e rest = rw (h x, e) (omega (arith, rest))
      by false e rest = rw (h x, e)

  -- its place, and the length where there is none
  pub position-first : (xs : List ℕ) (n : ℕ) → length xs ≡ n → ((x : ℕ) → bad x ≡ not (good x))
      → unwrap_or (cond (ltb (position_or_len bad xs) (length xs)) (Some (position_or_len bad xs)) None) n ≡ first_failing good xs
  position-first xs n size h = rw (place_of xs h) (by (ltb (first_failing good xs) (length xs)) refl)
    where
      by : (t : Bool) → ltb (first_failing good xs) (length xs) ≡ t
          → unwrap_or (cond (ltb (first_failing good xs) (length xs)) (Some (first_failing good xs)) None) n ≡ first_failing good xs
      by true e = rw e
      by false e = rw e (omega (arith, first-within good xs, ltb-false (first_failing good xs) (length xs) e))

-- ---- a fold over all entries, with no early end: whether every entry passes, and whether some entry fails

eqb_suc : (a b : ℕ) → eqb a b ≡ eqb (suc a) (suc b)
eqb_suc a b = by (eqb a b) refl
  where
    by : (t : Bool) → eqb a b ≡ t → eqb a b ≡ eqb (suc a) (suc b)
    by true e = e ∙ sym (eq-eqb (suc a) (suc b) (ap suc (eqb-true a b e)))
    by false e = e ∙ sym (ne_eqb (suc a) (suc b) (λ h. false≢true (sym e ∙ eq-eqb a b (suc_inj h))))

ltb_suc : (a b : ℕ) → ltb a b ≡ ltb (suc a) (suc b)
ltb_suc a b = by (ltb a b) refl
  where
    by : (t : Bool) → ltb a b ≡ t → ltb a b ≡ ltb (suc a) (suc b)
    by true e = e ∙ sym (lt-ltb (suc a) (suc b) (omega (arith, ltb-true a b e)))
    by false e = e ∙ sym (le-ltb (suc a) (suc b) (omega (arith, ltb-false a b e)))

module _ (good : ℕ → Bool) where
  all-from : (t : Bool) (xs : List ℕ) → fold (λ (s : Bool) (x : ℕ). s && good x) t xs ≡ t && eqb (first_failing good xs) (length xs)
  unfolding first_failing
  all-from true [] = refl
  all-from false [] = refl
  all-from t (x ∷ xs) = by t (good x) refl (all-from (t && good x) xs)
    where
      by : (t g : Bool) → good x ≡ g → fold (λ (s : Bool) (x : ℕ). s && good x) (t && good x) xs ≡ (t && good x) && eqb (first_failing good xs) (length xs)
          → fold (λ (s : Bool) (x : ℕ). s && good x) (t && good x) xs ≡ t && eqb (cond (good x) (suc (first_failing good xs)) 0) (suc (length xs))
      by true true e rest = rest ∙ rw e (eqb_suc (first_failing good xs) (length xs))
      by true false e rest = rest ∙ rw e (sym (ne_eqb 0 (suc (length xs)) (λ z. omega arith)))
      by false g e rest = rest

  pub fold_all : (xs : List ℕ) → fold (λ (s : Bool) (x : ℕ). s && good x) true xs ≡ eqb (first_failing good xs) (length xs)
  fold_all xs = all-from true xs

  some-from : (t : Bool) (xs : List ℕ) → fold (λ (s : Bool) (x : ℕ). s || not (good x)) t xs ≡ t || ltb (first_failing good xs) (length xs)
  unfolding first_failing
  some-from true [] = refl
  some-from false [] = refl
  some-from t (x ∷ xs) = by t (good x) refl (some-from (t || not (good x)) xs)
    where
      by : (t g : Bool) → good x ≡ g → fold (λ (s : Bool) (x : ℕ). s || not (good x)) (t || not (good x)) xs ≡ (t || not (good x)) || ltb (first_failing good xs) (length xs)
          → fold (λ (s : Bool) (x : ℕ). s || not (good x)) (t || not (good x)) xs ≡ t || ltb (cond (good x) (suc (first_failing good xs)) 0) (suc (length xs))
      by true g e rest = rest
      by false true e rest = rest ∙ rw e (ltb_suc (first_failing good xs) (length xs))
      by false false e rest = rest ∙ rw e (sym (lt-ltb 0 (suc (length xs)) (omega arith)))

  pub fold_some : (xs : List ℕ) → fold (λ (s : Bool) (x : ℕ). s || not (good x)) false xs ≡ ltb (first_failing good xs) (length xs)
  fold_some xs = some-from false xs
