-- Exactness at 1,024 coefficients: demand 3 of the mission, on elements.
use mathlib.Core.Path.{◌≡◌}
use mathlib.Core.List.{List}
use Prim.Native.Nat.{ℕ}
use Rattle.exactness.specs.Scheme.{TernaryTriple, Formula, Matches, SoundKey}
use Rattle.exactness.specs.Promises.{Exact, TripleWithin}
use Rattle.exactness.proofs.Exactness as E
use Rattle.ring.specs.Ring.{Element, Invertible}
use Rattle.ring.specs.Centred.{Ternary}
use Rattle.ring.specs.Invertible.{inverse_of}
use Rattle.ring.proofs.RingLaws.{inverse-times}
use Rattle.scheme.specs.Scheme.{Triple, found, setting, masked, decapsulation}
use Rattle.scheme.proofs.Givens.{givens}
use Rattle.scheme.proofs.Promises.{promises}

-- ---- whatever the key, c1, c2 and the dummy

pub found-ternary : (a b i s : List ℕ) (dummy : Triple) (c1 c2 : List ℕ) (t : Triple) → decapsulation a b i s dummy c1 c2 ≡ found t
    → TernaryTriple setting t
found-ternary = promises.found-ternary

-- ---- for a sound key and the inverse i of its b

pub exact : (a b i s c1 c2 : List ℕ) (dummy : Triple) → SoundKey setting a b i s → Element c1 → Element c2 → TernaryTriple setting dummy
    → Exact setting a b i s c1 c2 dummy
exact = promises.exact

pub unique-within_2 : (a b i s c1 c2 : List ℕ) (t u : Triple) → SoundKey setting a b i s → TripleWithin setting 2 t → TripleWithin setting 2 u
    → Formula setting a b c1 c2 t → Formula setting a b c1 c2 u → t ≡ u
unique-within_2 = promises.unique-within_2

-- what encapsulation makes of a ternary triple is decapsulated to that triple
pub round_trip : (a b i s : List ℕ) (dummy t : Triple) → SoundKey setting a b i s → TernaryTriple setting dummy → TernaryTriple setting t
    → decapsulation a b i s dummy (masked a t.r t.e1) (masked b t.r t.e2) ≡ found t
round_trip = E.round_trip setting givens

-- ---- a key that the key check accepts is sound, with `inverse_of b`

pub sound-key : (a b s : List ℕ) → Element a → Element b → Ternary s → Invertible b → Matches setting a b s → SoundKey setting a b (inverse_of b) s
sound-key a b s ha hb hs unit matches =
    let (element, inverse) = inverse-times b unit in
    record { a-element = ha; b-element = hb; i-element = element; inverse = inverse; s-ternary = hs; matches = matches }

pub exact_by-inverse : (a b s c1 c2 : List ℕ) (dummy : Triple) → Element a → Element b → Ternary s → Invertible b → Matches setting a b s
    → Element c1 → Element c2 → TernaryTriple setting dummy → Exact setting a b (inverse_of b) s c1 c2 dummy
exact_by-inverse a b s c1 c2 dummy ha hb hs unit matches = exact a b (inverse_of b) s c1 c2 dummy (sound-key a b s ha hb hs unit matches)
