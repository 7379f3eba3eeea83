-- Conversions and the way back.
use mathlib.Core.Path.{◌≡◌, sym, ap, ap₂, ◌∙◌}
use mathlib.Core.Bool.{true, false}
use mathlib.Core.Logic.Iff
use mathlib.Core.Logic.{◌↔◌}
use mathlib.Core.List.{List, ◌++◌, append_assoc}
use Prim.Native.Nat.{ℕ, ◌+◌, ◌≤◌}
use native.Mathlib.Omega.{arith}
use lib.ListN.{length, take, drop, length-drop, take-append-drop}
use lib.Seq.{take_all, drop-drop}
use Rattle.algebra.proofs.Numbers.{below_by}
use Rattle.ring.specs.Ring.{Element, one, product, Invertible}
use Rattle.ring.specs.Invertible.{inverse_of}
use Rattle.ring.proofs.RingLaws.{inverse-times}
use Rattle.encoding.specs.Words.{element_bytes}
use Rattle.encoding.specs.Header.{has_mark, version_of, header}
use Rattle.encoding.proofs.Headers.{header_of}
use Rattle.encoding.proofs.RoundTrips.{bytes-element_of}
use Rattle.answers.specs.Answers.{number}
use Rattle.records.specs.Layout.{secret_key_mark, secret_key_version, expanded_key_version, secret_key_length, expanded_key_length}
use Rattle.records.specs.Records.{part, second_of, stored_inverse, key_body, compact_bytes, expanded_bytes}
use Rattle.records.specs.WellFormed.{WellFormedKey, WellFormedExpandedKey}
use Rattle.records.proofs.WrittenRecords.{part_length, part-below}
use Rattle.secret_keys.specs.WellFormed.{Matches, InverseStored}
use Rattle.secret_keys.proofs.ElementLaws.{inverse_held}
use Rattle.calls.specs.Promises.{Accepted, Bytes}
use Rattle.answers.proofs.AnswerLaws.{number-done, on_done_lem}
use Rattle.calls.proofs.CheckExact.{accepted_iff, accepted_of_version}
use Rattle.calls.proofs.Converted.{compact-first, compact-second, compact-secret, compact-body, compact_well-formed, compact-sound}
use Rattle.calls.proofs.Converted.{expanded-first, expanded-second, expanded-secret, expanded-body, expanded-inverse, expanded_well-formed, expanded-matches}
use Rattle.conversion_calls.specs.Calls.{expand_answer, expand_out, compact_answer, compact_out}
use Rattle.conversion_calls.specs.Promises.{SameKey, ExpandExact, CompactExact}
use Rattle.conversion_calls.proofs.Converting.{convert-zero}

-- ---- when 0 is said

pub expand-zero : (k : List ℕ) (room : ℕ) → (number (expand_answer k room) ≡ 0) ↔ (Accepted k × (version_of k ≡ secret_key_version) × (room ≡ expanded_key_length))
unfolding expand_answer
expand-zero k room = convert-zero k room expanded_key_length false

pub compact-zero : (k : List ℕ) (room : ℕ) → (number (compact_answer k room) ≡ 0) ↔ (Accepted k × (version_of k ≡ expanded_key_version) × (room ≡ secret_key_length))
unfolding compact_answer
compact-zero k room = convert-zero k room secret_key_length true

-- what is then written
expand_writes : (k out : List ℕ) → number (expand_answer k (length out)) ≡ 0 → expand_out k out ≡ expanded_bytes k (inverse_of (second_of k))
unfolding expand_out
expand_writes k out zero = on_done_lem (expanded_bytes k (inverse_of (second_of k))) out ((number-done (expand_answer k (length out))).0 zero)

compact_writes : (k out : List ℕ) → number (compact_answer k (length out)) ≡ 0 → compact_out k out ≡ compact_bytes k
unfolding compact_out
compact_writes k out zero = on_done_lem (compact_bytes k) out ((number-done (compact_answer k (length out))).0 zero)

-- ---- the bytes of a record, put together again

-- its header is that of its mark and version
header-kept : (k : List ℕ) (version : ℕ) → 5 ≤ length k → Bytes k → has_mark secret_key_mark k ≡ true → version_of k ≡ version → header secret_key_mark version ≡ take 5 k
header-kept k version size bytes mark e =
    ap (header secret_key_mark) (sym e) ∙ header_of secret_key_mark k size (below_by 256 k (λ j l. bytes j)) mark

-- version 1
compact-same : (k : List ℕ) → WellFormedKey k → Bytes k → compact_bytes k ≡ k
unfolding compact_bytes
compact-same k w bytes =
    ap₂ (λ (x y : List ℕ). x ++ y)
    (header-kept k secret_key_version (omega (arith, w.size)) bytes w.front.marked w.front.has_version)
    (take_all 4352 (drop 5 k) (omega (arith, length-drop 5 k, w.size)))
    ∙ take-append-drop 5 k

-- version 2, with what it stores
expanded-same : (k : List ℕ) → WellFormedExpandedKey k → Bytes k → expanded_bytes k (stored_inverse k) ≡ k
unfolding expanded_bytes
expanded-same k w bytes =
    let within : 4357 + 2048 ≤ length k = omega (arith, w.size) in
    let last = bytes-element_of (part 4357 2048 k) (part_length 4357 2048 k within) (part-below 4357 2048 k within bytes)
    ∙ take_all 2048 (drop 4357 k) (omega (arith, length-drop 4357 k, w.size)) ∙ sym (drop-drop 4352 5 k) in
    ap₂ (λ (x y : List ℕ). x ++ key_body k ++ y)
    (header-kept k expanded_key_version (omega (arith, w.size)) bytes w.front.marked w.front.has_version) last
    ∙ append_assoc (take 5 k) (key_body k) (drop 4352 (drop 5 k))
    ∙ ap (λ (x : List ℕ). take 5 k ++ x) (take-append-drop 4352 (drop 5 k))
    ∙ take-append-drop 5 k

-- ---- expanding

module _ (k : List ℕ) (w : WellFormedKey k) (unit : Invertible (second_of k)) (matches : Matches k) where
  abbrev i : List ℕ
  i = inverse_of (second_of k)

  abbrev x : List ℕ
  x = expanded_bytes k i

  long : secret_key_length ≤ length k
  long = omega (arith, w.size)

  is_inverse_lem : Element i × (product (second_of k) i ≡ one)
  is_inverse_lem = inverse-times (second_of k) unit

  expanded-formed : WellFormedExpandedKey x
  expanded-formed = expanded_well-formed k long i is_inverse_lem.0 w

  expanded-accepted : Accepted x
  expanded-accepted =
      let stored : InverseStored x = rw (expanded-second k long i, expanded-inverse k long i is_inverse_lem.0) is_inverse_lem.1 in
      (accepted_iff x).1 (true, expanded-formed, stored, expanded-matches k long i matches)

  expanded-same-key : SameKey x k
  expanded-same-key = (expanded-first k long i, expanded-second k long i, expanded-secret k long i)

  -- and back
  expanded-back : Bytes k → compact_bytes x ≡ k
  unfolding compact_bytes
  expanded-back bytes = ap (λ (b : List ℕ). header secret_key_mark secret_key_version ++ b) (expanded-body k long i) ∙ compact-same k w bytes

-- ---- compacting

module _ (k : List ℕ) (w : WellFormedExpandedKey k) (stored : InverseStored k) (matches : Matches k) where
  abbrev y : List ℕ
  y = compact_bytes k

  long' : secret_key_length ≤ length k
  long' = omega (arith, w.size)

  compact-accepted : Accepted y
  compact-accepted =
      let (unit, same) = (compact-sound k w).1 ((stored_inverse k, w.inverse-words, stored), matches) in
      (accepted_iff y).1 (false, compact_well-formed k w, unit, same)

  compact-same-key : SameKey y k
  compact-same-key = (compact-first k long', compact-second k long', compact-secret k long')

  -- and back
  compact-back : Bytes k → expanded_bytes y (inverse_of (second_of y)) ≡ k
  unfolding expanded_bytes
  compact-back bytes =
      let inverse : inverse_of (second_of y) ≡ stored_inverse k = ap inverse_of (compact-second k long') ∙ sym (inverse_held k true w stored) in
      ap₂ (λ (b j : List ℕ). header secret_key_mark expanded_key_version ++ b ++ element_bytes j) (compact-body k long') inverse ∙ expanded-same k w bytes

-- ---- the promises

pub expand-exact_of : (k before : List ℕ) {said : ℕ} → (said ≡ 0) ↔ (number (expand_answer k (length before)) ≡ 0) → ExpandExact k before said (expand_out k before)
expand-exact_of k before zero = record {
  answers = Iff.trans zero (expand-zero k (length before));
  accepted = λ e.
      let (w, unit, matches) = sound (zero.0 e) in
      rw (expand_writes k before (zero.0 e)) (expanded-accepted k w unit matches, (expanded-formed k w unit matches).front.has_version, expanded-same-key k w unit matches);
  back = λ e bytes out room.
      let (w, unit, matches) = sound (zero.0 e) in
      let after = expanded_bytes k (inverse_of (second_of k)) in
      let said = (compact-zero after (length out)).1 (expanded-accepted k w unit matches, (expanded-formed k w unit matches).front.has_version, room) in
      rw (expand_writes k before (zero.0 e)) (said, compact_writes after out said ∙ expanded-back k w unit matches bytes);
}
  where
    sound : number (expand_answer k (length before)) ≡ 0 → WellFormedKey k × Invertible (second_of k) × Matches k
    sound e = let (h, version, _) = (expand-zero k (length before)).0 e in accepted_of_version k false h version

pub compact-exact_of : (k before : List ℕ) {said : ℕ} → (said ≡ 0) ↔ (number (compact_answer k (length before)) ≡ 0) → CompactExact k before said (compact_out k before)
compact-exact_of k before zero = record {
  answers = Iff.trans zero (compact-zero k (length before));
  accepted = λ e.
      let (w, stored, matches) = sound (zero.0 e) in
      rw (compact_writes k before (zero.0 e)) (compact-accepted k w stored matches, (compact_well-formed k w).front.has_version, compact-same-key k w stored matches);
  back = λ e bytes out room.
      let (w, stored, matches) = sound (zero.0 e) in
      let after = compact_bytes k in
      let said = (expand-zero after (length out)).1 (compact-accepted k w stored matches, (compact_well-formed k w).front.has_version, room) in
      rw (compact_writes k before (zero.0 e)) (said, expand_writes after out said ∙ compact-back k w stored matches bytes);
}
  where
    sound : number (compact_answer k (length before)) ≡ 0 → WellFormedExpandedKey k × InverseStored k × Matches k
    sound e = let (h, version, _) = (compact-zero k (length before)).0 e in accepted_of_version k true h version
