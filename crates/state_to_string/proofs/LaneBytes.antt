-- The bytes of lanes.
use mathlib.Core.Path.{◌≡◌, refl, sym, ap, ◌∙◌}
use mathlib.Core.List.{List, ◌++◌}
use Prim.Native.Nat.{ℕ, ◌+◌, ◌*◌, ◌-◌, ◌/◌, ◌%◌, ◌<◌, ◌≤◌}
use native.Mathlib.Nat.{div-one, le_refl, le_of_eq}
use native.Mathlib.Omega.{arith}
use lib.ListN.{length, take, drop}
use Rattle.std.specs.Int.{w64, to_le_bytes}
use Rattle.lists.specs.Table.{table, table_from}
use Rattle.lists.proofs.Tables.{length-table, table_same, take-table, part-table}
use Rattle.lists.proofs.Parts.{length_part}
use Rattle.lists.proofs.Fill.{Filled, filled-part, filled-all}
use Rattle.keccak_steps.specs.Steps.{State, lane}
use Rattle.state_to_string.specs.Bytes.{lane_byte, byte_of, bytes_of}

-- the library's bytes of a lane
pub lane_bytes_of : (v : ℕ) → to_le_bytes w64 v ≡ table 8 (lane_byte v)
unfolding table table_from
lane_bytes_of v = rw div-one refl

-- the first n of them
pub lane_bytes_part : (v n : ℕ) → n ≤ 8 → take n (to_le_bytes w64 v) ≡ table n (lane_byte v)
lane_bytes_part v n h = ap (take n) (lane_bytes_of v) ∙ take-table n 8 (lane_byte v) h

-- the bytes of lane k stand at 8 k in the state's string
pub lane_bytes_lem : (s : State) (k n l : ℕ) → n ≤ 8 → 8 * k + n ≤ l → table n (lane_byte (lane s (k % 5) (k / 5))) ≡ take n (drop (8 * k) (table l (byte_of s)))
lane_bytes_lem s k n l h g = sym (part-table (8 * k) n l (byte_of s) g ∙ table_same n (λ j. byte_of s (8 * k + j)) (lane_byte (lane s (k % 5) (k / 5))) same)
  where
    same : (j : ℕ) → j < n → byte_of s (8 * k + j) ≡ lane_byte (lane s (k % 5) (k / 5)) j
    same j i =
        let a : (8 * k + j) / 8 % 5 ≡ k % 5 = omega arith in
        let b : (8 * k + j) / 40 ≡ k / 5 = omega arith in
        let c : (8 * k + j) % 8 ≡ j = omega arith in
        rw (a, b, c)

pub take-bytes : (s : State) (n : ℕ) → n ≤ 200 → table n (byte_of s) ≡ take n (bytes_of s)
unfolding bytes_of
take-bytes s n h = sym (take-table n 200 (byte_of s) h)

-- the whole lanes of the first l bytes are stored, then the n bytes of the next lane that are left
pub put_rest : (s : State) (l k : ℕ) (out part : List ℕ) → Filled l (table l (byte_of s)) out (8 * k) → l ≤ 200 → l ≤ 8 * k + 8
    → part ≡ table (length (take (length out - 8 * k) (drop (8 * k) out))) (lane_byte (lane s (k % 5) (k / 5)))
    → take (8 * k) out ++ (part ++ drop (length out - 8 * k) (drop (8 * k) out)) ≡ take l (bytes_of s)
put_rest s l k out part f h g e =
    let n : ℕ = length out - 8 * k in
    let part-is : part ≡ table n (lane_byte (lane s (k % 5) (k / 5))) = rw (length_part (8 * k) (length out) out (le_refl (length out))) at e in
    let end : 8 * k + n ≡ l = omega (arith, f.size, f.within) in
    filled-all
    (filled-part part n f (ap length part-is ∙ length-table n (lane_byte (lane s (k % 5) (k / 5)))) end (le_refl l)
    (part-is ∙ lane_bytes_lem s k n l (omega arith) (le_of_eq end)))
    (le_refl l)
    ∙ take-bytes s l h
