-- The scheme of document 004, section 4.1, on elements of a setting: keys, encapsulation (document 01's capsule making) and
-- decapsulation (opening), by the five steps of document 01 ("Desk key", "Capsule and opening"). All of it is defined for every list,
-- sound or not.
use Rattle.std.specs.Prelude.{◌≡◌, Bool, true, false, ◌&&◌, List, ℕ}
use Rattle.exactness.specs.Setting.{Setting, Element, Ternary, sum, difference, multiple, one}

-- three polynomials: a triple of document 01
pub record Triple : Type 0 where
  pub r : List ℕ
  pub e1 : List ℕ
  pub e2 : List ℕ

-- what a decapsulation answers
pub data Outcome : Type 0 where
  -- the triple
  found : Triple → Outcome
  -- document 01's "no triple"
  failed : Outcome

-- the outcome, if the test passes
abbrev pub provided : Bool → Outcome → Outcome
provided true o = o
provided false o = failed

module _ (S : Setting) where
  -- ---- keys

  -- b = 5 × (a × s + e)
  unfoldable pub key_element : (a s e : List ℕ) → List ℕ
  key_element a s e = multiple S 5 (sum S (S.product a s) e)

  -- b ÷ 5 - a × s: the e of a sound key
  unfoldable pub key_error : (a b s : List ℕ) → List ℕ
  key_error a b s = difference S (multiple S S.fifth b) (S.product a s)

  -- ---- encapsulation: the published formula is c1 = a × r + e1, c2 = b × r + e2

  unfoldable pub masked : (a r e : List ℕ) → List ℕ
  masked a r e = sum S (S.product a r) e

  -- ---- decapsulation of (c1, c2) with the key a, b, s, the inverse i of b, and a dummy

  -- step 1, of either half: c and the dummy's encapsulation
  unfoldable pub summed : (a r e c : List ℕ) → List ℕ
  summed a r e c = sum S c (masked a r e)

  -- step 2: m = s2 - 5 × s1 × s, from the product of the first sum with s; the field calls it the phase
  unfoldable pub phase : (s2 s1s : List ℕ) → List ℕ
  phase s2 s1s = difference S s2 (multiple S 5 s1s)

  -- step 4
  unfoldable pub recovered_r : (i s2 e2 : List ℕ) → List ℕ
  recovered_r i s2 e2 = S.product (difference S s2 e2) i

  unfoldable pub recovered_e1 : (a s1 r : List ℕ) → List ℕ
  recovered_e1 a s1 r = difference S s1 (S.product a r)

  -- step 5, of R, E1, E2
  unfoldable pub without_dummy : (dummy t : Triple) → Triple
  without_dummy dummy t = record {
    r = difference S t.r dummy.r;
    e1 = difference S t.e1 dummy.e1;
    e2 = difference S t.e2 dummy.e2;
  }

  -- the test of step 4: R and E1 between - 2 and 2
  unfoldable pub recovers : Triple → Bool
  recovers t = S.is_within 2 t.r && S.is_within 2 t.e1

  -- the test of step 5: all three ternary
  unfoldable pub is_ternary : Triple → Bool
  is_ternary t = S.is_within 1 t.r && S.is_within 1 t.e1 && S.is_within 1 t.e2

  -- step 4, from the sums and E2
  unfoldable pub recovered : (a i s1 s2 e2 : List ℕ) → Triple
  recovered a i s1 s2 e2 = record { r = recovered_r i s2 e2; e1 = recovered_e1 a s1 (recovered_r i s2 e2); e2 = e2 }

  -- the tests of steps 4 and 5, of R, E1, E2
  unfoldable pub judged : (dummy t : Triple) → Outcome
  judged dummy t = provided (recovers t) (provided (is_ternary (without_dummy dummy t)) (found (without_dummy dummy t)))

  -- steps 2 to 5, from the sums and the product of the first with s; step 3 is `remainders`
  unfoldable pub core : (a i : List ℕ) (dummy : Triple) (s1 s2 s1s : List ℕ) → Outcome
  core a i dummy s1 s2 s1s = judged dummy (recovered a i s1 s2 (S.remainders (phase s2 s1s)))

  unfoldable pub decapsulation : (a b i s : List ℕ) (dummy : Triple) (c1 c2 : List ℕ) → Outcome
  decapsulation a b i s dummy c1 c2 =
      let s1 = summed a dummy.r dummy.e1 c1 in
      let s2 = summed b dummy.r dummy.e2 c2 in
      core a i dummy s1 s2 (S.product s1 s)

  -- ---- what the promises speak of

  pub record TernaryTriple (t : Triple) : Type 0 where
    pub r-ternary : Ternary S t.r
    pub e1-ternary : Ternary S t.e1
    pub e2-ternary : Ternary S t.e2

  -- the published formula turns the triple into (c1, c2)
  pub record Formula (a b c1 c2 : List ℕ) (t : Triple) : Type 0 where
    pub first : c1 ≡ masked a t.r t.e1
    pub second : c2 ≡ masked b t.r t.e2

  -- .. and the triple is ternary
  abbrev pub Encapsulates : (a b c1 c2 : List ℕ) (t : Triple) → Type 0
  Encapsulates a b c1 c2 t = TernaryTriple t × Formula a b c1 c2 t

  abbrev pub HasTriple : (a b c1 c2 : List ℕ) → Type 0
  HasTriple a b c1 c2 = (t : Triple) × Encapsulates a b c1 c2 t

  -- b = 5 × (a × s + e) for some ternary e
  abbrev pub Matches : (a b s : List ℕ) → Type 0
  Matches a b s = (e : List ℕ) × Ternary S e × (b ≡ key_element a s e)

  -- a sound key, and the inverse of its b
  pub record SoundKey (a b i s : List ℕ) : Type 0 where
    pub a-element : Element S a
    pub b-element : Element S b
    pub i-element : Element S i
    pub inverse : S.product b i ≡ one S
    pub s-ternary : Ternary S s
    pub matches : Matches a b s
