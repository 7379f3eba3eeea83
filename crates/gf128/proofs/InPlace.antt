-- The invariant of the loop that adds a string to a buffer in place.
use mathlib.Core.Path.{◌≡◌, refl, sym, ap, ◌∙◌}
use mathlib.Core.List.{List}
use Prim.Native.Nat.{ℕ, ◌+◌, ◌<◌, ◌≤◌}
use native.Mathlib.Numerals.{unary_clauses}
use native.Mathlib.Omega.{arith}
use lib.Bits.{bit_xor}
use lib.ListN.{length, get_or, drop, set}
use lib.Seq.{get_or-drop, drop-set-lt, drop-drop}
use Rattle.lists.proofs.Fill.{Filled, filled_none, filled_more, filled-all}
use Rattle.gf128.specs.Bytes.{sum}
use Rattle.gf128.proofs.FieldLaws.{length-sum, get_or-sum}

-- the first i of n entries are those of the sum, and the others as they were
pub record Added (n : ℕ) (a before out : List ℕ) (i : ℕ) : Type 0 where
  pub length-a : length a ≡ n
  pub length_before : length before ≡ n
  pub filled : Filled n (sum a before) out i
  pub rest : drop i out ≡ drop i before

pub added_none : {n : ℕ} (a out : List ℕ) → length a ≡ n → length out ≡ n → Added n a out out 0
added_none {n} a out ha ho = record { length-a = ha; length_before = ho; filled = filled_none (sum a out) out (length-sum n a out ha ho) ho; rest = refl }

-- one entry more, from what stood there
pub added_more : {n : ℕ} {a before out : List ℕ} {i : ℕ} → Added n a before out i → i < n
    → Added n a before (set out i (bit_xor (get_or a i 0) (get_or out i 0))) (i + 1)
added_more {n} {a} {before} {out} {i} f h =
    let v = bit_xor (get_or a i 0) (get_or out i 0) in
    let here : get_or out i 0 ≡ get_or before i 0 =
    simp unary_clauses at (sym (get_or-drop i out 0 0) ∙ ap (λ (l : List ℕ). get_or l 0 0) f.rest ∙ get_or-drop i before 0 0) in
    let is : bit_xor (get_or a i 0) (get_or out i 0) ≡ get_or (sum a before) i 0 =
    ap (bit_xor (get_or a i 0)) here ∙ sym (get_or-sum a before i (omega (arith, f.length-a)) (omega (arith, f.length_before))) in
    record {
      length-a = f.length-a;
      length_before = f.length_before;
      filled = filled_more 0 f.filled h is;
      rest = drop-set-lt (i + 1) out i v (omega arith) ∙ sym (drop-drop 1 i out) ∙ ap (drop 1) f.rest ∙ drop-drop 1 i before;
    }

pub added_all : {n : ℕ} {a before out : List ℕ} {i : ℕ} → Added n a before out i → n ≤ i → out ≡ sum a before
added_all f h = filled-all f.filled h
