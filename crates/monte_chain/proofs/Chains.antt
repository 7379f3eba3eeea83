-- Laws of the rule of the Monte files.
use mathlib.Core.Path.{◌≡◌, sym, ◌∙◌}
use mathlib.Core.List.{List, ◌++◌, append-nil}
use Prim.Native.Nat.{ℕ, ◌+◌, ◌-◌, ◌≤◌, min}
use native.Mathlib.Decide.{dec_le}
use native.Mathlib.Omega.{arith}
use lib.ListN.{length, take, drop, replicate}
use lib.Seq.{take_all, take-append-le, take-append-add}
use Rattle.std.proofs.lemmas.List.{drop-replicate, take-replicate}
use Rattle.monte_chain.specs.declared.Function.{Function}
use Rattle.monte_chain.specs.declared.Function.TheVariants.{Shake128, Shake256}
use Rattle.monte_chain.specs.Monte.{least_size, greatest_size, output_size, message_of}

-- ---- the size of an output

pub sizes_ordered : (function : Function) → least_size function ≤ greatest_size function
sizes_ordered Shake128 = omega arith
sizes_ordered Shake256 = omega arith

pub greatest-most : (function : Function) → greatest_size function ≤ 250
greatest-most Shake128 = omega arith
greatest-most Shake256 = omega arith

-- a turn puts out two bytes at least, and 250 at most
pub size_least : (function : Function) (extra : ℕ) → 2 ≤ output_size function extra
size_least Shake128 extra = omega arith
size_least Shake256 extra = omega arith

pub size-most : (function : Function) (extra : ℕ) → output_size function extra ≤ 250
size-most Shake128 extra = omega arith
size-most Shake256 extra = omega arith

-- ---- the message that follows an output

zeros-behind : (n : ℕ) → n ≤ 16 → drop {A = ℕ} n (replicate 16 0) ≡ take (16 - n) (replicate 16 0)
zeros-behind n h = drop-replicate n 16 0 ∙ sym (take-replicate (16 - n) 16 0 (omega arith))

-- n bytes of the output were copied over zeros, which is all of them that there is room for
pub message-copied : (output : List ℕ) (n : ℕ) → n ≡ min (length output) 16 → take n output ++ drop n (replicate 16 0) ≡ message_of output
unfolding message_of
message-copied output n e = by (dec_le (length output) 16)
  where
    by : Dec (length output ≤ 16) → take n output ++ drop n (replicate 16 0) ≡ take 16 (output ++ replicate 16 0)
    by (yes h) =
        let size : n ≡ length output = omega (arith, e) in
        let all : length output + (16 - length output) ≡ 16 = omega arith in
        let whole : output ++ take (16 - length output) (replicate 16 0) ≡ take 16 (output ++ replicate 16 0) =
        rw all at (sym (take-append-add output (replicate 16 0) (16 - length output))) in
        rw (size, take_all (length output) output (omega arith), zeros-behind (length output) h) whole
    by (no h) =
        let size : n ≡ 16 = omega (arith, e, h) in
        rw size (append-nil (take 16 output) ∙ sym (take-append-le 16 output (replicate 16 0) (omega (arith, h))))
