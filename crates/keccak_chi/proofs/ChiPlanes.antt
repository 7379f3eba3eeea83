-- A plane of chi on complemented lanes, as the code writes it.
use mathlib.Core.Path.{◌≡◌, sym, ap, ◌∙◌}
use mathlib.Core.List.{List, [], ◌∷◌}
use Prim.Native.Nat.{ℕ, ◌^◌, ◌<◌}
use lib.Bits.{bit_xor, bit_and, bit_or, xor_lt, or_lt, and_lt}
use lib.ListN.{get_or}
use Rattle.keccak_steps.specs.Steps.{complement}
use Rattle.keccak_chi.specs.Complementing.{complemented_chi_plane}
use Rattle.keccak_steps.proofs.States.{lanes-same}
use Rattle.keccak_chi.proofs.Complements.{not-lt, not-not, xor-not, not_xor, not_xor-not, not-or}

-- ---- a lane of chi, where u, v, w and the lane itself are complemented or not

module _ (u v w : ℕ) (hu : u < 2 ^ 64) (hv : v < 2 ^ 64) (hw : w < 2 ^ 64) where
  or-in : bit_xor (complement u) (bit_and (complement v) (complement w)) ≡ bit_xor u (bit_or v w)
  or-in = ap (bit_xor (complement u)) (not-or v w hv hw) ∙ not_xor-not u (bit_or v w) hu (or_lt 64 v w hv hw)

  or_out : complement (bit_xor u (bit_and (complement v) (complement w))) ≡ bit_xor u (bit_or v w)
  or_out =
      let h = or_lt 64 v w hv hw in
      ap (λ (t : ℕ). complement (bit_xor u t)) (not-or v w hv hw) ∙ ap complement (xor-not u (bit_or v w) hu h) ∙ not-not (bit_xor u (bit_or v w)) (xor_lt 64 u (bit_or v w) hu h)

  or-not : bit_xor u (bit_and (complement v) (complement w)) ≡ bit_xor (complement u) (bit_or v w)
  or-not =
      let h = or_lt 64 v w hv hw in
      ap (bit_xor u) (not-or v w hv hw) ∙ xor-not u (bit_or v w) hu h ∙ sym (not_xor u (bit_or v w) hu h)

  and_in : bit_xor u (bit_and (complement (complement v)) w) ≡ bit_xor u (bit_and v w)
  and_in = ap (λ (t : ℕ). bit_xor u (bit_and t w)) (not-not v hv)

  both_out : complement (bit_xor (complement u) (bit_and v w)) ≡ bit_xor u (bit_and v w)
  both_out =
      let h = and_lt 64 v w hv hw in
      ap complement (not_xor u (bit_and v w) hu h) ∙ not-not (bit_xor u (bit_and v w)) (xor_lt 64 u (bit_and v w) hu h)

or_last : (u v w : ℕ) → u < 2 ^ 64 → v < 2 ^ 64 → w < 2 ^ 64 → bit_xor (complement u) (bit_and (complement v) w) ≡ bit_xor u (bit_or v (complement w))
or_last u v w hu hv hw =
    ap (λ (t : ℕ). bit_xor (complement u) (bit_and (complement v) t)) (sym (not-not w hw)) ∙ or-in u v (complement w) hu hv (not-lt w)

and_out : (u v w : ℕ) → u < 2 ^ 64 → v < 2 ^ 64 → w < 2 ^ 64 → complement (bit_xor (complement u) (bit_and (complement (complement v)) w)) ≡ bit_xor u (bit_and v w)
and_out u v w hu hv hw = ap complement (and_in (complement u) v w (not-lt u) hv hw) ∙ both_out u v w hu hv hw

-- ---- what the code of each plane makes

module _ (p : List ℕ) (h : (x : ℕ) → get_or p x 0 < 2 ^ 64) where
  abbrev b : ℕ → ℕ
  b x = get_or p x 0

  pub chi-0 : complemented_chi_plane 0 p
      ≡ bit_xor (b 0) (bit_or (b 1) (b 2))
      ∷ bit_xor (b 1) (bit_or (complement (b 2)) (b 3))
      ∷ bit_xor (b 2) (bit_and (b 3) (b 4))
      ∷ bit_xor (b 3) (bit_or (b 4) (b 0))
      ∷ bit_xor (b 4) (bit_and (b 0) (b 1))
      ∷ []
  chi-0 =
      lanes-same
      (or-in (b 0) (b 1) (b 2) (h 0) (h 1) (h 2))
      (or_out (b 1) (complement (b 2)) (b 3) (h 1) (not-lt (b 2)) (h 3))
      (and_out (b 2) (b 3) (b 4) (h 2) (h 3) (h 4))
      (or-in (b 3) (b 4) (b 0) (h 3) (h 4) (h 0))
      (and_in (b 4) (b 0) (b 1) (h 4) (h 0) (h 1))

  pub chi-1 : complemented_chi_plane 1 p
      ≡ bit_xor (b 0) (bit_or (b 1) (b 2))
      ∷ bit_xor (b 1) (bit_and (b 2) (b 3))
      ∷ bit_xor (b 2) (bit_or (b 3) (complement (b 4)))
      ∷ bit_xor (b 3) (bit_or (b 4) (b 0))
      ∷ bit_xor (b 4) (bit_and (b 0) (b 1))
      ∷ []
  chi-1 =
      lanes-same
      (or-in (b 0) (b 1) (b 2) (h 0) (h 1) (h 2))
      (and_in (b 1) (b 2) (b 3) (h 1) (h 2) (h 3))
      (or_last (b 2) (b 3) (b 4) (h 2) (h 3) (h 4))
      (or_out (b 3) (b 4) (b 0) (h 3) (h 4) (h 0))
      (and_in (b 4) (b 0) (b 1) (h 4) (h 0) (h 1))

  pub chi-2 : complemented_chi_plane 2 p
      ≡ bit_xor (b 0) (bit_or (b 1) (b 2))
      ∷ bit_xor (b 1) (bit_and (b 2) (b 3))
      ∷ bit_xor (b 2) (bit_and (complement (b 3)) (b 4))
      ∷ bit_xor (complement (b 3)) (bit_or (b 4) (b 0))
      ∷ bit_xor (b 4) (bit_and (b 0) (b 1))
      ∷ []
  chi-2 =
      lanes-same
      (or-in (b 0) (b 1) (b 2) (h 0) (h 1) (h 2))
      (and_in (b 1) (b 2) (b 3) (h 1) (h 2) (h 3))
      (both_out (b 2) (complement (b 3)) (b 4) (h 2) (not-lt (b 3)) (h 4))
      (or-not (b 3) (b 4) (b 0) (h 3) (h 4) (h 0))
      (and_in (b 4) (b 0) (b 1) (h 4) (h 0) (h 1))

  pub chi-3 : complemented_chi_plane 3 p
      ≡ bit_xor (b 0) (bit_and (b 1) (b 2))
      ∷ bit_xor (b 1) (bit_or (b 2) (b 3))
      ∷ bit_xor (b 2) (bit_or (complement (b 3)) (b 4))
      ∷ bit_xor (complement (b 3)) (bit_and (b 4) (b 0))
      ∷ bit_xor (b 4) (bit_or (b 0) (b 1))
      ∷ []
  chi-3 =
      lanes-same
      (and_in (b 0) (b 1) (b 2) (h 0) (h 1) (h 2))
      (or-in (b 1) (b 2) (b 3) (h 1) (h 2) (h 3))
      (or_out (b 2) (complement (b 3)) (b 4) (h 2) (not-lt (b 3)) (h 4))
      (and_in (complement (b 3)) (b 4) (b 0) (not-lt (b 3)) (h 4) (h 0))
      (or-in (b 4) (b 0) (b 1) (h 4) (h 0) (h 1))

  pub chi-4 : complemented_chi_plane 4 p
      ≡ bit_xor (b 0) (bit_and (complement (b 1)) (b 2))
      ∷ bit_xor (complement (b 1)) (bit_or (b 2) (b 3))
      ∷ bit_xor (b 2) (bit_and (b 3) (b 4))
      ∷ bit_xor (b 3) (bit_or (b 4) (b 0))
      ∷ bit_xor (b 4) (bit_and (b 0) (b 1))
      ∷ []
  chi-4 =
      lanes-same
      (both_out (b 0) (complement (b 1)) (b 2) (h 0) (not-lt (b 1)) (h 2))
      (or-not (b 1) (b 2) (b 3) (h 1) (h 2) (h 3))
      (and_in (b 2) (b 3) (b 4) (h 2) (h 3) (h 4))
      (or-in (b 3) (b 4) (b 0) (h 3) (h 4) (h 0))
      (and_in (b 4) (b 0) (b 1) (h 4) (h 0) (h 1))
