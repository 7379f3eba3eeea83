-- A part `&s[a..e]` of a slice, as a contract has it.
use mathlib.Core.Path.{◌≡◌}
use mathlib.Core.List.{List}
use Prim.Native.Nat.{ℕ, ◌-◌, ◌≤◌}
use native.Mathlib.Omega.{arith}
use lib.ListN.{length, take, drop, length-drop}
use lib.Seq.{length-take-le, take_all}

pub length_part : {A : Type 0} (a e : ℕ) (s : List A) → e ≤ length s → length (take (e - a) (drop a s)) ≡ e - a
length_part a e s h = length-take-le (e - a) (drop a s) (omega (arith, length-drop a s))

-- the part of a slice from a place to its end
pub take-to-end : {A : Type 0} (a : ℕ) (l : List A) → take (length l - a) (drop a l) ≡ drop a l
take-to-end a l = take_all (length l - a) (drop a l) (rw (length-drop a l) (omega arith))
