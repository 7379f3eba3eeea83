-- What is promised of opening with margin (document 02, No. 7): demand 3 as of `open`, what the margin is, and how large w can be.
use Rattle.std.specs.Prelude.{◌≡◌, List, ℕ, ◌*◌, ◌≤◌, ◌<◌, pos, nat_abs, get_or}
use Rattle.ring.specs.Ring.{n}
use Rattle.ring.specs.Centred.{remainders}
use Rattle.ring.specs.Division.{QuotientsWithin, DivisionExact}
use Rattle.scheme.specs.Noise.{key_weight}
use Rattle.records.specs.Records.{first_of, second_of, secret_of}
use Rattle.calls.specs.Promises.{Accepted, HasTriple, OpenExact}
use Rattle.conversion_calls.specs.Promises.{SameKey}
use Rattle.margin_calls.specs.Calls.{open_phase, open_quotients, open_margin}

-- the W of a secret key: how many coefficients of its s and of e = b ÷ 5 - a × s are not 0
abbrev pub weight_of : (key : List ℕ) → ℕ
weight_of k = key_weight (first_of k) (second_of k) (secret_of k)

-- ---- the call

-- opening with margin, with the key k and some dummy noise. `before` and `lent` are what the output and the number for the margin held, `after`
-- and `value` what they hold then
pub record OpenMarginExact (k sealed noise before : List ℕ) (lent said : ℕ) (after : List ℕ) (value : ℕ) : Type 0 where
  -- demand 3: what it says and writes is what `open` says and writes, under this dummy and under every other
  pub exact : OpenExact k sealed noise before said after
  -- under 0 no coefficient of w is larger than the value in size, and one is as large
  pub none_passes : said ≡ 0 → QuotientsWithin value (open_quotients k sealed noise)
  pub one-reaches : said ≡ 0 → (i : ℕ) × (i < n) × (nat_abs (get_or (open_quotients k sealed noise) i (pos 0)) ≡ value)
  -- .. so it is at most 2 W, and at most 4,096
  pub by-weight : said ≡ 0 → value ≤ 2 * weight_of k
  pub most : said ≡ 0 → value ≤ 4096
  -- under any other number it is what it was
  pub kept : ¬ (said ≡ 0) → value ≡ lent

-- ---- w

pub record QuotientsExact : Type 0 where
  -- on every input: m = E2 + 5 × w as integers, with E2 between - 2 and 2 and w between - 5,939 and 5,939
  pub division : (k sealed noise : List ℕ) → DivisionExact (open_phase k sealed noise) (remainders (open_phase k sealed noise)) (open_quotients k sealed noise)
  -- with an accepted key, and an entry that has a triple, whatever the dummy and the tag: at most 2 W, and at most 4,096, in size
  pub by-weight : (k sealed noise : List ℕ) → Accepted k → HasTriple (first_of k) (second_of k) (first_of sealed) (second_of sealed)
      → QuotientsWithin (2 * weight_of k) (open_quotients k sealed noise)
  pub most : (k sealed noise : List ℕ) → Accepted k → HasTriple (first_of k) (second_of k) (first_of sealed) (second_of sealed)
      → QuotientsWithin 4096 (open_quotients k sealed noise)
  -- two accepted keys with the same a, b and s, of whatever versions, give the same margin under the same dummy
  pub either_form : (k k' sealed noise : List ℕ) → Accepted k → Accepted k' → SameKey k k' → open_margin k sealed noise ≡ open_margin k' sealed noise
