-- The lanes of a string.
use mathlib.Core.Path.{◌≡◌, sym, ap, ◌∙◌}
use mathlib.Core.List.{List, ◌++◌}
use Prim.Native.Nat.{ℕ, ◌+◌, ◌*◌, ◌≤◌}
use native.Mathlib.Omega.{arith}
use lib.Bits.{bit_xor}
use lib.ListN.{length, get_or, get_or-eq_default}
use Rattle.lists.specs.Table.{table, zeros}
use Rattle.lists.proofs.Tables.{get_or-table, table_same}
use Rattle.lists.proofs.Zeros.{get_or-append-zeros}
use Rattle.keccak_steps.specs.Steps.{State, lane, state}
use Rattle.keccak_steps.proofs.States.{state-same}
use Rattle.string_to_state.specs.Words.{word, state_of}

-- zeros behind a string do not change its lanes
pub word-zeros : (b : List ℕ) (m k : ℕ) → word (b ++ zeros m) k ≡ word b k
word-zeros b m k = simp get_or-append-zeros

pub words-zeros : (b : List ℕ) (m : ℕ) → table 25 (word (b ++ zeros m)) ≡ table 25 (word b)
words-zeros b m = table_same 25 (word (b ++ zeros m)) (word b) (λ k h. word-zeros b m k)

-- past the end of a string its lanes are zero
pub word_past : (b : List ℕ) (k : ℕ) → length b ≤ 8 * k → word b k ≡ 0
word_past b k h =
    let past : (j : ℕ) → get_or b (8 * k + j) 0 ≡ 0 = λ j. get_or-eq_default b 0 (omega arith) in
    let first : get_or b (8 * k) 0 ≡ 0 = get_or-eq_default b 0 h in
    rw (first, past 1, past 2, past 3, past 4, past 5, past 6, past 7)

-- adding the 25 lanes of a string to a state is adding the string's state
pub xor-words_is : (s : State) (b : List ℕ) (m : ℕ)
    → state (λ x y. bit_xor (lane s x y) (get_or (table 25 (word b)) (5 * y + x) 0)) ≡ state (λ x y. bit_xor (lane s x y) (lane (state_of (b ++ zeros m)) x y))
xor-words_is s b m =
    state-same (λ x y. bit_xor (lane s x y) (get_or (table 25 (word b)) (5 * y + x) 0))
    (λ x y. bit_xor (lane s x y) (word (b ++ zeros m) (5 * y + x)))
    (λ x y h g. ap (bit_xor (lane s x y)) (get_or-table 25 (word b) (5 * y + x) 0 (omega arith) ∙ sym (word-zeros b m (5 * y + x))))
