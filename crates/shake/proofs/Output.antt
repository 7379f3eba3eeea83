-- What is squeezed out of a state, byte by byte.
use mathlib.Core.Path.{◌≡◌, refl, sym, ap, ap₂, ◌∙◌}
use mathlib.Core.List.{List, [], ◌∷◌, ◌++◌}
use Prim.Native.Nat.{ℕ, zero, suc, ◌+◌, ◌*◌, ◌-◌, ◌/◌, ◌%◌, ◌<◌, ◌≤◌}
use native.Mathlib.Nat.{mul-zero, mul-suc, mul-add-div, mul-add-mod_self_left, div-eq_of_lt, mod-eq_of_lt, add-zero, div-add-mod, mod-lt}
use native.Mathlib.Numerals.{add-one}
use native.Mathlib.Omega.{arith}
use lib.ListN.{length, take, drop}
use Rattle.lists.specs.Table.{table, table_from}
use Rattle.lists.proofs.Tables.{length-table, table-append, table_same, take-table, part-table}
use Rattle.lists.proofs.Parts.{length_part}
use Rattle.lists.proofs.Fill.{Filled, filled-part}
use Rattle.keccak_steps.specs.Steps.{State}
use Rattle.state_to_string.specs.Bytes.{byte_of, bytes_of}
use Rattle.state_to_string.proofs.LaneBytes.{take-bytes}
use Rattle.shake.specs.Sponge.{Rate, permuted, squeezed, absorb, squeeze}
use Rattle.shake.specs.Shake.{padded, shake, shake128, shake256}

-- byte i of all that is squeezed out of s
abbrev pub byte_at : ℕ → State → ℕ → ℕ
byte_at r s i = byte_of (permuted (i / r) s) (i % r)

module _ (r : ℕ) (rate : Rate r) (s : State) where
  block-bytes : (n j : ℕ) → j < r → byte_at r s (r * n + j) ≡ byte_of (permuted n s) j
  block-bytes n j h =
      let d : (r * n + j) / r ≡ n = mul-add-div rate.some n j ∙ ap (λ (x : ℕ). n + x) (div-eq_of_lt h) ∙ add-zero n in
      let m : (r * n + j) % r ≡ j = mul-add-mod_self_left r n j ∙ mod-eq_of_lt h in
      rw (d, m)

  -- the first k bytes of block n
  pub part-output : (n k d : ℕ) → k ≤ r → r * n + k ≤ d → take k (bytes_of (permuted n s)) ≡ take k (drop (r * n) (table d (byte_at r s)))
  part-output n k d h l =
      sym (take-bytes (permuted n s) k (omega (arith, rate.most)))
      ∙ sym (part-table (r * n) k d (byte_at r s) l ∙ table_same k (λ j. byte_at r s (r * n + j)) (byte_of (permuted n s)) (λ j g. block-bytes n j (omega arith)))

  squeezed-table : (n : ℕ) → squeezed r n s ≡ table (r * n) (byte_at r s)
  unfolding squeezed table table_from
  squeezed-table zero = rw mul-zero
  squeezed-table (suc n) =
      let same = table_same r (byte_of (permuted n s)) (λ j. byte_at r s (r * n + j)) (λ j h. sym (block-bytes n j h)) in
      rw mul-suc
      (ap₂ (λ (x y : List ℕ). x ++ y) (squeezed-table n) (sym (take-bytes (permuted n s) r rate.most) ∙ same) ∙ sym (table-append (r * n) r (byte_at r s)))

  pub squeeze-table : (d : ℕ) → squeeze r s d ≡ table d (byte_at r s)
  unfolding squeeze
  squeeze-table d =
      let enough : d ≤ r * (d / r + 1) = rw (add-one, mul-suc) (omega (arith, div-add-mod d r, mod-lt d rate.some)) in
      rw (squeezed-table (d / r + 1)) (take-table d (r * (d / r + 1)) (byte_at r s) enough)

  -- a block is stored: the part that was lent is now the front of the state's string
  pub squeeze-part : (d k e : ℕ) (out part : List ℕ) → Filled d (table d (byte_at r s)) out (r * k) → r * k ≤ e → e ≤ d → e ≤ r * k + r
      → part ≡ take (length (take (e - r * k) (drop (r * k) out))) (bytes_of (permuted k s))
      → Filled d (table d (byte_at r s)) (take (r * k) out ++ (part ++ drop (e - r * k) (drop (r * k) out))) e
  squeeze-part d k e out part f g h l p =
      let size : length (take (e - r * k) (drop (r * k) out)) ≡ e - r * k = length_part (r * k) e out (omega (arith, f.size)) in
      let bytes : part ≡ take (e - r * k) (drop (r * k) (table d (byte_at r s))) =
      rw size at p ∙ part-output k (e - r * k) d (omega arith) (omega arith) in
      let long : length part ≡ e - r * k =
      ap length bytes ∙ length_part (r * k) e (table d (byte_at r s)) (rw length-table h) in
      filled-part part (e - r * k) f long (omega arith) h bytes

-- an empty buffer is full
pub squeeze_none : (r : ℕ) (s : State) (out : List ℕ) → length out ≡ 0 → out ≡ squeeze r s (length out)
unfolding squeeze
squeeze_none r s [] h = refl
squeeze_none r s (x ∷ xs) h = absurd (omega arith)

-- ---- a SHAKE of any rate

module _ (r : ℕ) (rate : Rate r) (m : List ℕ) where
  pub length-shake : (d : ℕ) → length (shake r m d) ≡ d
  unfolding shake
  length-shake d = rw (squeeze-table r rate (absorb r (padded r m)) d) (length-table d _)

  -- the first n bytes of a longer output are the output of length n
  pub shake_prefix : (n d : ℕ) → n ≤ d → take n (shake r m d) ≡ shake r m n
  unfolding shake
  shake_prefix n d h =
      let s : State = absorb r (padded r m) in
      rw (squeeze-table r rate s d, squeeze-table r rate s n) (take-table n d (byte_at r s) h)

-- ---- SHAKE128

pub rate128 : Rate 168
rate128 = record { lanes = refl; some = omega arith; most = omega arith }

pub length-shake128 : (m : List ℕ) (d : ℕ) → length (shake128 m d) ≡ d
unfolding shake128
length-shake128 = length-shake 168 rate128

pub shake128_prefix : (m : List ℕ) (n d : ℕ) → n ≤ d → take n (shake128 m d) ≡ shake128 m n
unfolding shake128
shake128_prefix = shake_prefix 168 rate128

-- ---- SHAKE256

pub rate256 : Rate 136
rate256 = record { lanes = refl; some = omega arith; most = omega arith }

pub length-shake256 : (m : List ℕ) (d : ℕ) → length (shake256 m d) ≡ d
unfolding shake256
length-shake256 = length-shake 136 rate256

pub shake256_prefix : (m : List ℕ) (n d : ℕ) → n ≤ d → take n (shake256 m d) ≡ shake256 m n
unfolding shake256
shake256_prefix = shake_prefix 136 rate256
