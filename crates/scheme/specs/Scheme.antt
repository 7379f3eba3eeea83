-- The scheme at 1,024 coefficients: the definitions of crate exactness at document 01's ring.
use Rattle.std.specs.Prelude.{Bool, List, ℕ}
use Rattle.exactness.specs.Setting.{Setting}
use Rattle.exactness.specs.Scheme as AnySetting
pub use Rattle.exactness.specs.Scheme.{Triple, Outcome, found, failed}
use Rattle.ring.specs.Ring.{q, n, fifth, product}
use Rattle.ring.specs.Centred.{centred, remainders, is_within}

-- degree 1,024, q = 59,393, X^1024 = - 1
abbrev pub setting : Setting
setting = record { q = q; n = n; fifth = fifth; product = product; centred = centred; remainders = remainders; is_within = is_within }

-- b = 5 × (a × s + e)
abbrev pub key_element : (a s e : List ℕ) → List ℕ
key_element a s e = AnySetting.key_element setting a s e

-- b ÷ 5 - a × s
abbrev pub key_error : (a b s : List ℕ) → List ℕ
key_error a b s = AnySetting.key_error setting a b s

-- a × r + e: c1 and c2 of an encapsulation
abbrev pub masked : (a r e : List ℕ) → List ℕ
masked a r e = AnySetting.masked setting a r e

-- ---- the steps of decapsulation

abbrev pub summed : (a r e c : List ℕ) → List ℕ
summed a r e c = AnySetting.summed setting a r e c

abbrev pub phase : (s2 s1s : List ℕ) → List ℕ
phase s2 s1s = AnySetting.phase setting s2 s1s

abbrev pub recovered : (a i s1 s2 e2 : List ℕ) → Triple
recovered a i s1 s2 e2 = AnySetting.recovered setting a i s1 s2 e2

abbrev pub recovers : Triple → Bool
recovers t = AnySetting.recovers setting t

abbrev pub without_dummy : (dummy t : Triple) → Triple
without_dummy dummy t = AnySetting.without_dummy setting dummy t

abbrev pub is_ternary : Triple → Bool
is_ternary t = AnySetting.is_ternary setting t

abbrev pub judged : (dummy t : Triple) → Outcome
judged dummy t = AnySetting.judged setting dummy t

abbrev pub core : (a i : List ℕ) (dummy : Triple) (s1 s2 s1s : List ℕ) → Outcome
core a i dummy s1 s2 s1s = AnySetting.core setting a i dummy s1 s2 s1s

abbrev pub decapsulation : (a b i s : List ℕ) (dummy : Triple) (c1 c2 : List ℕ) → Outcome
decapsulation a b i s dummy c1 c2 = AnySetting.decapsulation setting a b i s dummy c1 c2

-- ---- m of a decapsulation, which step 3 divides by 5: m = E2 + 5 × w (document 02, No. 7)

abbrev pub step2 : (a b s : List ℕ) (dummy : Triple) (c1 c2 : List ℕ) → List ℕ
step2 a b s dummy c1 c2 = phase (summed b dummy.r dummy.e2 c2) (product (summed a dummy.r dummy.e1 c1) s)
