-- A secret key's a, b and s under the header of a version, with what that version has behind them: they are read as they were.
use mathlib.Core.Path.{◌≡◌, refl, sym, ap, ◌∙◌}
use mathlib.Core.Logic.{◌↔◌}
use mathlib.Core.List.{List, [], ◌++◌, append_assoc, append-nil}
use Prim.Native.Nat.{ℕ, ◌+◌, ◌-◌, ◌<◌, ◌≤◌}
use native.Mathlib.Omega.{arith}
use lib.ListN.{length, take, drop, length-drop}
use lib.Seq.{take_at, drop_at, drop-drop, take-take, take-add, length-take-le}
use Rattle.ring.specs.Ring.{Element, Invertible}
use Rattle.encoding.specs.Words.{element_of, element_bytes}
use Rattle.encoding.specs.Codes.{ternary_of}
use Rattle.encoding.specs.Header.{header}
use Rattle.encoding.proofs.Words.{length-element_bytes}
use Rattle.encoding.proofs.Headers.{length_header_lem, header_mark, header_version}
use Rattle.encoding.proofs.RoundTrips.{element_of-written}
use Rattle.records.specs.Layout.{secret_key_mark, secret_key_version, expanded_key_version, secret_key_length, key_body_length}
use Rattle.records.specs.Records.{part, first_of, second_of, codes_part, secret_of, stored_inverse, key_body, compact_bytes, expanded_bytes}
use Rattle.records.specs.WellFormed.{WellFormedFront, WellFormedKey, WellFormedExpandedKey}
use Rattle.secret_keys.specs.WellFormed.{Matches}
use Rattle.records.proofs.WrittenRecords.{length_both, part_end, part_length}

-- what stands within the first b bytes
part_of-front : (bytes : List ℕ) (b i j : ℕ) → i + j ≤ b → i ≤ length bytes → part i j (take b bytes) ≡ part i j bytes
part_of-front bytes b i j h l =
    let split : b ≡ i + (b - i) = omega arith in
    ap (λ (m : ℕ). part i j (take m bytes)) split
    ∙ ap (part i j) (take-add i (b - i) bytes)
    ∙ ap (take j) (drop_at (take i bytes) (take (b - i) (drop i bytes)) i (length-take-le i bytes l))
    ∙ take-take j (b - i) (drop i bytes) (omega arith)

module _ (k : List ℕ) (long : secret_key_length ≤ length k) where
  body-size : length (key_body k) ≡ key_body_length
  body-size = part_length 5 4352 k (omega arith)

  -- ---- under any header, and in front of anything

  module _ (version : ℕ) (tail : List ℕ) where
    abbrev x : List ℕ
    x = header secret_key_mark version ++ (key_body k ++ tail)

    -- j bytes, i behind the header
    same-part : (i j : ℕ) → i + j ≤ key_body_length → part (5 + i) j x ≡ part (5 + i) j k
    same-part i j h =
        let rest = key_body k ++ tail in
        let within : i ≤ length rest = omega (arith, length_both (key_body k) tail body-size refl) in
        ap (take j) (sym (drop-drop i 5 x) ∙ ap (drop i) (drop_at (header secret_key_mark version) rest 5 (length_header_lem secret_key_mark version)))
        ∙ sym (part_of-front rest 4352 i j h within)
        ∙ ap (part i j) (take_at (key_body k) tail 4352 body-size)
        ∙ part_of-front (drop 5 k) 4352 i j h (omega (arith, length-drop 5 k))
        ∙ ap (take j) (drop-drop i 5 k)

    pub same_first : first_of x ≡ first_of k
    same_first = ap element_of (same-part 0 2048 (omega arith))

    pub same_second : second_of x ≡ second_of k
    same_second = ap element_of (same-part 2048 2048 (omega arith))

    pub same_codes : codes_part x ≡ codes_part k
    same_codes = same-part 4096 256 (omega arith)

    pub same_body : key_body x ≡ key_body k
    same_body = same-part 0 4352 (omega arith)

    converted-front : version < 65536 → Element (first_of k) → Element (second_of k) → WellFormedFront secret_key_mark version x
    converted-front small a b = record {
      marked = header_mark secret_key_mark version (key_body k ++ tail);
      has_version = header_version secret_key_mark version (key_body k ++ tail) small;
      first-words = rw same_first a;
      second-words = rw same_second b;
    }

    converted-size : length x ≡ 4357 + length tail
    converted-size = length_both (header secret_key_mark version) (key_body k ++ tail) (length_header_lem secret_key_mark version) (length_both (key_body k) tail body-size refl) ∙ omega arith

  -- ---- version 1

  is-compact : compact_bytes k ≡ header secret_key_mark secret_key_version ++ (key_body k ++ [])
  unfolding compact_bytes
  is-compact = ap (λ (r : List ℕ). header secret_key_mark secret_key_version ++ r) (sym (append-nil (key_body k)))

  pub compact-first : first_of (compact_bytes k) ≡ first_of k
  compact-first = ap first_of is-compact ∙ same_first secret_key_version []

  pub compact-second : second_of (compact_bytes k) ≡ second_of k
  compact-second = ap second_of is-compact ∙ same_second secret_key_version []

  compact-codes : codes_part (compact_bytes k) ≡ codes_part k
  compact-codes = ap codes_part is-compact ∙ same_codes secret_key_version []

  pub compact-secret : secret_of (compact_bytes k) ≡ secret_of k
  compact-secret = ap ternary_of compact-codes

  pub compact-body : key_body (compact_bytes k) ≡ key_body k
  compact-body = ap key_body is-compact ∙ same_body secret_key_version []

  compact-size : length (compact_bytes k) ≡ secret_key_length
  compact-size = ap length is-compact ∙ converted-size secret_key_version []

  pub compact-matches : Matches (compact_bytes k) ↔ Matches k
  compact-matches = (λ m. rw (compact-first, compact-second, compact-secret) at m, λ m. rw (compact-first, compact-second, compact-secret) m)

  -- ---- version 2, with the element i behind

  module _ (i : List ℕ) where
    is_expanded_lem : expanded_bytes k i ≡ header secret_key_mark expanded_key_version ++ (key_body k ++ element_bytes i)
    unfolding expanded_bytes
    is_expanded_lem = append_assoc (header secret_key_mark expanded_key_version) (key_body k) (element_bytes i)

    pub expanded-first : first_of (expanded_bytes k i) ≡ first_of k
    expanded-first = ap first_of is_expanded_lem ∙ same_first expanded_key_version (element_bytes i)

    pub expanded-second : second_of (expanded_bytes k i) ≡ second_of k
    expanded-second = ap second_of is_expanded_lem ∙ same_second expanded_key_version (element_bytes i)

    expanded-codes : codes_part (expanded_bytes k i) ≡ codes_part k
    expanded-codes = ap codes_part is_expanded_lem ∙ same_codes expanded_key_version (element_bytes i)

    pub expanded-secret : secret_of (expanded_bytes k i) ≡ secret_of k
    expanded-secret = ap ternary_of expanded-codes

    pub expanded-body : key_body (expanded_bytes k i) ≡ key_body k
    expanded-body = ap key_body is_expanded_lem ∙ same_body expanded_key_version (element_bytes i)

    before-inverse : length (header secret_key_mark expanded_key_version ++ key_body k) ≡ 4357
    before-inverse = length_both (header secret_key_mark expanded_key_version) (key_body k) (length_header_lem secret_key_mark expanded_key_version) body-size

    pub expanded-inverse : Element i → stored_inverse (expanded_bytes k i) ≡ i
    unfolding expanded_bytes
    expanded-inverse h =
        ap element_of (part_end (header secret_key_mark expanded_key_version ++ key_body k) (element_bytes i) before-inverse (length-element_bytes i) ∙ sym (append-nil (element_bytes i)))
        ∙ element_of-written i [] h

    pub expanded_well-formed : Element i → WellFormedKey k → WellFormedExpandedKey (expanded_bytes k i)
    expanded_well-formed h w = record {
      size = ap length is_expanded_lem ∙ converted-size expanded_key_version (element_bytes i) ∙ omega (arith, length-element_bytes i);
      front = rw is_expanded_lem (converted-front expanded_key_version (element_bytes i) (omega arith) w.front.first-words w.front.second-words);
      inverse-words = rw (expanded-inverse h) h;
      codes = rw expanded-codes w.codes;
    }

    pub expanded-matches : Matches k → Matches (expanded_bytes k i)
    expanded-matches m = rw (expanded-first, expanded-second, expanded-secret) m

-- an expanded key holds a key of version 1
pub compact_well-formed : (k : List ℕ) → WellFormedExpandedKey k → WellFormedKey (compact_bytes k)
compact_well-formed k w =
    let long : secret_key_length ≤ length k = omega (arith, w.size) in
    record {
      size = compact-size k long;
      front = rw (is-compact k long) (converted-front k long secret_key_version [] (omega arith) w.front.first-words w.front.second-words);
      codes = rw (compact-codes k long) w.codes;
    }

pub compact-sound : (k : List ℕ) → WellFormedExpandedKey k → (Invertible (second_of (compact_bytes k)) × Matches (compact_bytes k)) ↔ (Invertible (second_of k) × Matches k)
compact-sound k w =
    let long : secret_key_length ≤ length k = omega (arith, w.size) in (
      λ (unit, matches). (rw (compact-second k long) at unit, (compact-matches k long).0 matches),
      λ (unit, matches). (rw (compact-second k long) unit, (compact-matches k long).1 matches),
    )
