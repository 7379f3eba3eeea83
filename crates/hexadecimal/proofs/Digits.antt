-- Digits and their values.
use mathlib.Core.Path.{◌≡◌}
use mathlib.Core.Bool.{true, false}
use Prim.Native.Nat.{ℕ, ◌<◌, ◌≤◌}
use lib.Dec.{eqb, eqb→eq}
use borrow.Author.Tests.{le-leb, lt-leb, lt-ltb}
use Rattle.lists.proofs.Finite.{at_each}
use Rattle.hexadecimal.specs.Hex.{digit_of, within, value_of, is_digit}

pub within_it : (low high c : ℕ) → low ≤ c → c ≤ high → within low high c ≡ true
within_it low high c l h = rw (le-leb low c l, le-leb c high h)

pub below_it : (low high c : ℕ) → c < low → within low high c ≡ false
below_it low high c l = rw (lt-leb low c l)

pub above_it : (low high c : ℕ) → low ≤ c → high < c → within low high c ≡ false
above_it low high c l h = rw (le-leb low c l, lt-leb c high h)

-- a digit has the value that it was made of
pub value_digit : (n : ℕ) → n < 16 → value_of (digit_of n) ≡ n
value_digit n h = eqb→eq (value_of (digit_of n)) n (at_each 16 (λ k. eqb (value_of (digit_of k)) k) tt n h)

pub digit_is_digit : (n : ℕ) → n < 16 → is_digit (digit_of n) ≡ true
digit_is_digit n h = rw (value_digit n h) (lt-ltb n 16 h)
