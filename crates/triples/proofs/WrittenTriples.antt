-- Triples: readers find what writers wrote, and writers write what was read.
use mathlib.Core.Path.{◌≡◌, sym, ap, ap₂, ◌∙◌}
use mathlib.Core.List.{List, ◌++◌, append_assoc}
use Prim.Native.Nat.{ℕ, ◌+◌, ◌<◌, ◌≤◌}
use native.Mathlib.Omega.{arith}
use lib.ListN.{length, get_or, take, drop, length-drop, take-append-drop}
use lib.Seq.{take_all, drop-drop}
use Rattle.ring.specs.Centred.{Ternary}
use Rattle.encoding.specs.Codes.{ternary_of, first_invalid_code, ternary_bytes}
use Rattle.encoding.proofs.Codes.{ternary_of-take, length-ternary_bytes}
use Rattle.encoding.proofs.RoundTrips.{ternary_of-written, ternary_of-bytes, bytes-ternary_of}
use Rattle.records.specs.Records.{part}
use Rattle.records.proofs.WrittenRecords.{length_both, part_behind, part_end, part_length, part-below}
use Rattle.triples.specs.Triple.{r_of, e1_of, e2_of, triple_bytes}
use Rattle.triples.specs.WellFormed.{WellFormedTriple}

pub triple-r : (r e1 e2 : List ℕ) → Ternary r → r_of (triple_bytes r e1 e2) ≡ r
unfolding triple_bytes
triple-r r e1 e2 h =
    ternary_of-take (ternary_bytes r ++ ternary_bytes e1 ++ ternary_bytes e2)
    ∙ ap ternary_of (append_assoc (ternary_bytes r) (ternary_bytes e1) (ternary_bytes e2))
    ∙ ternary_of-written r (ternary_bytes e1 ++ ternary_bytes e2) h

pub triple-e1 : (r e1 e2 : List ℕ) → Ternary e1 → e1_of (triple_bytes r e1 e2) ≡ e1
unfolding triple_bytes
triple-e1 r e1 e2 h =
    ap ternary_of (part_behind (ternary_bytes r) (ternary_bytes e1) (ternary_bytes e2) (length-ternary_bytes r) (length-ternary_bytes e1))
    ∙ ternary_of-bytes e1 h

pub triple-e2 : (r e1 e2 : List ℕ) → Ternary e2 → e2_of (triple_bytes r e1 e2) ≡ e2
unfolding triple_bytes
triple-e2 r e1 e2 h =
    ap ternary_of
    (part_end (ternary_bytes r ++ ternary_bytes e1) (ternary_bytes e2)
    (length_both (ternary_bytes r) (ternary_bytes e1) (length-ternary_bytes r) (length-ternary_bytes e1)) (length-ternary_bytes e2))
    ∙ ternary_of-bytes e2 h

-- the bytes of what was read from bytes
pub triple_bytes_lem : (t : List ℕ) → WellFormedTriple t → ((i : ℕ) → get_or t i 0 < 256) → triple_bytes (r_of t) (e1_of t) (e2_of t) ≡ t
unfolding triple_bytes
triple_bytes_lem t w bytes =
    ap₂ (λ (x y : List ℕ). x ++ y)
    (ap₂ (λ (x y : List ℕ). x ++ y) (same 0 (omega arith) w.r-codes) (same 256 (omega arith) w.e1-codes))
    (same 512 (omega arith) w.e2-codes ∙ take_all 256 (drop 512 t) (omega (arith, length-drop 512 t, w.size)) ∙ sym (drop-drop 256 256 t))
    ∙ append_assoc (part 0 256 t) (part 256 256 t) (drop 256 (drop 256 t))
    ∙ ap (λ (x : List ℕ). take 256 t ++ x) (take-append-drop 256 (drop 256 t))
    ∙ take-append-drop 256 t
  where
    same : (i : ℕ) → i + 256 ≤ 768 → first_invalid_code (part i 256 t) ≡ 1024 → ternary_bytes (ternary_of (part i 256 t)) ≡ part i 256 t
    same i h valid =
        let within : i + 256 ≤ length t = omega (arith, w.size) in
        bytes-ternary_of (part i 256 t) (part_length i 256 t within) (part-below i 256 t within bytes) valid
