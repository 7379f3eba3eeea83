-- Laws of the reader of decimal numbers.
use mathlib.Core.Path.{◌≡◌, refl}
use mathlib.Core.Bool.{true, false}
use mathlib.Core.List.{List, [], ◌∷◌}
use Prim.Native.Nat.{ℕ, ◌+◌, ◌-◌, ◌*◌, ◌<◌, ◌≤◌}
use native.Mathlib.Numerals.{add-one}
use native.Mathlib.Omega.{arith}
use lib.ListN.{length, get_or, drop, drop_of_length-le}
use lib.Seq.{drop-cons}
use borrow.Author.Tests.{le-leb, lt-leb, lt-ltb, le-ltb}
use Rattle.response_files.specs.Fields.{grows, continued, decimal_of}
use Rattle.std.specs.Prelude.{Some, None}

pub grows_digit : (n c : ℕ) → 48 ≤ c → c ≤ 57 → n < 100000000 → grows n c ≡ true
grows_digit n c l h s = rw (le-leb 48 c l, le-leb c 57 h, lt-ltb n 100000000 s)

pub no_digit-below : (n c : ℕ) → c < 48 → grows n c ≡ false
no_digit-below n c l = rw (lt-leb 48 c l)

pub no_digit-above : (n c : ℕ) → 48 ≤ c → 57 < c → grows n c ≡ false
no_digit-above n c l h = rw (le-leb 48 c l, lt-leb c 57 h)

pub too_large : (n c : ℕ) → 48 ≤ c → c ≤ 57 → 100000000 ≤ n → grows n c ≡ false
too_large n c l h s = rw (le-leb 48 c l, le-leb c 57 h, le-ltb n 100000000 s)

pub decimal_none : (text : List ℕ) → length text ≡ 0 → decimal_of text ≡ None
unfolding decimal_of
decimal_none [] h = refl
decimal_none (c ∷ text) h = absurd (omega arith)

pub decimal-some : (text : List ℕ) → (length text ≡ 0 → ⊥) → decimal_of text ≡ continued 0 text
unfolding decimal_of
decimal-some [] h = absurd (h refl)
decimal-some (c ∷ text) h = refl

module _ (n : ℕ) (text : List ℕ) (i : ℕ) where
  pub continued_more : i < length text → grows n (get_or text i 0) ≡ true
      → continued n (drop i text) ≡ continued (10 * n + (get_or text i 0 - 48)) (drop (i + 1) text)
  unfolding continued
  continued_more h g = rw (drop-cons text i 0 h, g, add-one)

  pub continued-stop : i < length text → grows n (get_or text i 0) ≡ false → continued n (drop i text) ≡ None
  unfolding continued
  continued-stop h g = rw (drop-cons text i 0 h, g)

  pub continued_end : length text ≤ i → continued n (drop i text) ≡ Some n
  unfolding continued
  continued_end h = rw (drop_of_length-le text h)
