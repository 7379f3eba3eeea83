-- The word that an answer names (document 02, No. 3): the first of a record, in the order of its parts, that is q or more.
use Rattle.std.specs.Prelude.{◌≡◌, List, ◌⊎◌, ℕ, ◌<◌, ◌≤◌, get_or}
use Rattle.ring.specs.Ring.{q, n, Element}
use Rattle.answers.specs.declared.Location.{Location}
use Rattle.answers.specs.Locations.{at}

-- word i of an element's words is q or more, and every word before it is below q
pub record FirstUnreduced (words : List ℕ) (i : ℕ) : Type 0 where
  pub within : i < n
  pub before : (j : ℕ) → j < i → get_or words j 0 < q
  pub here : q ≤ get_or words i 0

-- l is the place of that word; part p of a record of kind r has these words
abbrev pub Named : (r p : ℕ) (words : List ℕ) (l : Location) → Type 0
Named r p words l = (i : ℕ) × (l ≡ at r p i) × FirstUnreduced words i

-- .. of parts p and p': it is in the second only where every word of the first is below q
abbrev pub NamedInTwo : (r p p' : ℕ) (first second : List ℕ) (l : Location) → Type 0
NamedInTwo r p p' first second l = Named r p first l ⊎ (Element first × Named r p' second l)

-- .. and p'': it is in the third only where every word of the others is below q
abbrev pub NamedInThree : (r p p' p'' : ℕ) (first second third : List ℕ) (l : Location) → Type 0
NamedInThree r p p' p'' first second third l = NamedInTwo r p p' first second l ⊎ (Element first × Element second × Named r p'' third l)
