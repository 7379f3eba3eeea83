-- The invariant of every loop that writes a list into a buffer from the front: by one entry a turn, or by a part of several.
use mathlib.Core.Path.{◌≡◌, refl, sym, ap, ap₂, ◌∙◌}
use mathlib.Core.List.{List, ◌++◌, append_assoc}
use Prim.Native.Nat.{ℕ, suc, ◌+◌, ◌-◌, ◌<◌, ◌≤◌}
use native.Mathlib.Numerals.{add-one}
use native.Mathlib.Omega.{arith}
use lib.ListN.{length, get_or, take, drop, set, take-append-drop, length-append, length-drop, length-set}
use lib.Seq.{get_or-take, take-set-le, take-set-lt, drop-set-add, drop-set-lt, take-suc, take-suc-set, take_all, take-add, take_at, drop-drop, length-take-le, take-length, set_at, append_snoc}
use Rattle.lists.specs.Table.{table, zeros}
use Rattle.lists.proofs.Tables.{get_or-table}

-- The first i of the n entries of s stand at the front of the buffer `out`. What stands behind them is open, so the
-- invariant never names what the buffer held at the start.
pub record Filled {A : Type 0} (n : ℕ) (s out : List A) (i : ℕ) : Type 0 where
  pub within : i ≤ n
  pub whole : length s ≡ n
  pub size : length out ≡ n
  pub same : take i out ≡ take i s

module _ {A : Type 0} where
  pub filled_none : {n : ℕ} (s out : List A) → length s ≡ n → length out ≡ n → Filled n s out 0
  filled_none s out e h = record { within = omega arith; whole = e; size = h; same = refl }

  -- one entry more
  pub filled_more : {n : ℕ} {s out : List A} {i : ℕ} {v : A} (d : A) → Filled n s out i → i < n → v ≡ get_or s i d → Filled n s (set out i v) (i + 1)
  filled_more {n} {s} {out} {i} {v} d f h e =
      let ho : i < length out = omega (arith, f.size) in
      let hs : i < length s = omega (arith, f.whole) in
      record {
        within = omega arith;
        whole = f.whole;
        size = length-set out i v ∙ f.size;
        same = rw (add-one, take-suc-set out i v ho, take-suc s i d hs, f.same, e);
      }

  -- a part more: `&mut out[i..e]` was lent, and its k entries are now `part`
  pub filled-part : {n : ℕ} {s out : List A} {i : ℕ} (part : List A) (k : ℕ) {e : ℕ} → Filled n s out i → length part ≡ k → i + k ≡ e → e ≤ n
      → part ≡ take k (drop i s) → Filled n s (take i out ++ (part ++ drop k (drop i out))) e
  filled-part {n} {s} {out} {i} part k {e} f l m h g =
      let front : length (take i out) ≡ i = length-take-le i out (omega (arith, f.size)) in
      let written : length (take i out ++ part) ≡ e = length-append (take i out) part ∙ ap₂ (λ (x y : ℕ). x + y) front l ∙ m in
      let regroup : take i out ++ (part ++ drop k (drop i out)) ≡ (take i out ++ part) ++ drop e out =
      rw (drop-drop, m) (sym (append_assoc (take i out) part (drop e out))) in
      record {
        within = h;
        whole = f.whole;
        size = rw regroup (length-append (take i out ++ part) (drop e out) ∙ omega (arith, written, length-drop e out, f.size));
        same =
            rw regroup
            (take_at (take i out ++ part) (drop e out) e written ∙ ap₂ (λ (x y : List A). x ++ y) f.same g ∙ sym (take-add i k s) ∙ ap (λ (j : ℕ). take j s) m);
      }

  pub filled-all : {n : ℕ} {s out : List A} {i : ℕ} → Filled n s out i → n ≤ i → out ≡ s
  filled-all {n} {s} {out} {i} f h =
      sym (take_all i out (omega (arith, f.size))) ∙ f.same ∙ take_all i s (omega (arith, f.whole))

  -- one entry more of a list that is given by a rule
  pub filled-more-by : {n : ℕ} (g : ℕ → A) {out : List A} {i : ℕ} {v : A} (d : A) → Filled n (table n g) out i → i < n → v ≡ g i
      → Filled n (table n g) (set out i v) (i + 1)
  filled-more-by {n} g {out} {i} {v} d f h e = filled_more d f h (e ∙ sym (get_or-table n g i d h))

-- an entry that is filled already
pub filled_at : {A : Type 0} {n : ℕ} {s out : List A} {i : ℕ} (d : A) (k : ℕ) → Filled n s out i → k < i → get_or out k d ≡ get_or s k d
filled_at {out = out} {i = i} d k f h =
    sym (get_or-take i out k d h) ∙ ap (λ l. get_or l k d) f.same ∙ get_or-take i _ k d h

-- The first i entries of `low` and of `high` stand at the fronts of the two halves of `out`, h entries each.
pub record FilledHalves {A : Type 0} (h : ℕ) (low high out : List A) (i : ℕ) : Type 0 where
  pub first : Filled h low (take h out) i
  pub second : Filled h high (drop h out) i

module _ {A : Type 0} where
  pub filled-halves_none : (h : ℕ) (low high out : List A) → length low ≡ h → length high ≡ h → length out ≡ h + h → FilledHalves h low high out 0
  filled-halves_none h low high out l g e = record {
    first = filled_none low (take h out) l (length-take-le h out (omega arith));
    second = filled_none high (drop h out) g (length-drop h out ∙ omega arith);
  }

  -- one entry more in each half
  pub filled-halves_more : {h : ℕ} {low high out : List A} {i : ℕ} {x y : A} (d : A) → FilledHalves h low high out i → i < h
      → x ≡ get_or low i d → y ≡ get_or high i d → FilledHalves h low high (set (set out i x) (h + i) y) (i + 1)
  filled-halves_more {h} {low} {high} {out} {i} {x} {y} d f l e g = record {
    first = rw (take-set-le h (set out i x) (h + i) y (omega arith), take-set-lt h out i x l) (filled_more d f.first l e);
    second = rw (drop-set-add h (set out i x) i y, drop-set-lt h out i x l) (filled_more d f.second l g);
  }

  pub filled-halves_all : {h : ℕ} {low high out : List A} {i : ℕ} → FilledHalves h low high out i → h ≤ i → out ≡ low ++ high
  filled-halves_all {h} {out = out} f l =
      sym (take-append-drop h out) ∙ ap₂ (λ (a b : List A). a ++ b) (filled-all f.first l) (filled-all f.second l)

-- The first i entries of s, then zeros, n entries in all: the invariant of a loop that writes s into an array of zeros that may be longer.
pub record ZeroFilled (n : ℕ) (s out : List ℕ) (i : ℕ) : Type 0 where
  pub within : i ≤ length s
  pub fits : length s ≤ n
  pub same : out ≡ take i s ++ zeros (n - i)

pub zero-filled_none : (n : ℕ) (s out : List ℕ) → length s ≤ n → out ≡ zeros n → ZeroFilled n s out 0
zero-filled_none n s out h e =
    let z : n ≡ n - 0 = omega arith in
    record { within = omega arith; fits = h; same = e ∙ ap (λ (k : ℕ). zeros k) z }

pub zero-filled_more : {n : ℕ} {s out : List ℕ} {i v : ℕ} → ZeroFilled n s out i → i < length s → v ≡ get_or s i 0 → ZeroFilled n s (set out i v) (i + 1)
zero-filled_more {n} {s} {out} {i} {v} f h e =
    let z : n - i ≡ suc (n - (i + 1)) = omega (arith, f.fits) in
    let front : length (take i s) ≡ i = length-take-le i s f.within in
    record {
      within = omega arith;
      fits = f.fits;
      same =
          rw (f.same, z, set_at (take i s) 0 (zeros (n - (i + 1))) v i front, e, add-one, take-suc s i 0 h)
          (sym (append_snoc (take i s) (get_or s i 0) (zeros (n - suc i))));
    }

pub zero-filled_all : {n : ℕ} {s out : List ℕ} {i : ℕ} → ZeroFilled n s out i → length s ≤ i → out ≡ s ++ zeros (n - length s)
zero-filled_all {n} {s} {out} {i} f h =
    let e : i ≡ length s = omega (arith, f.within) in
    f.same ∙ rw (e, take-length s)
