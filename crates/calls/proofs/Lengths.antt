-- Number 1: when every length fits, and what is then said.
use mathlib.Core.Path.{◌≡◌}
use mathlib.Core.Bool.{Bool, true, ◌&&◌, and-eq-true_iff}
use mathlib.Core.Logic.Iff
use mathlib.Core.Logic.{◌↔◌}
use mathlib.Core.List.{List}
use Prim.Native.Nat.{ℕ, ◌<◌, ◌≤◌}
use native.Mathlib.Omega.{arith}
use lib.Dec.{eqb, leb}
use lib.ListN.{length}
use borrow.Author.Tests.{eqb-true, eq-eqb, leb-true, le-leb}
use Rattle.answers.specs.declared.Refusal.TheVariants.{WrongLength}
use Rattle.answers.specs.declared.Location.{Location}
use Rattle.answers.specs.Answers.{number, unless, Answer}
use Rattle.answers.specs.Locations.{Names}
use Rattle.answers.proofs.AnswerLaws.{unless-says, unless_names}
use Rattle.public_keys.specs.PublicKeys.{is_public_length}

-- ---- several tests of lengths at once

pub one-fits : (i i' : ℕ) → (eqb i i' ≡ true) ↔ (i ≡ i')
one-fits i i' = (eqb-true i i', eq-eqb i i')

-- a secret key has a header
pub header-fits : (k : List ℕ) → (leb 5 (length k) ≡ true) ↔ (5 ≤ length k)
header-fits k = (leb-true 5 (length k), le-leb 5 (length k))

-- the first test is any
pub three-fit : {F : Type 0} (first : Bool) → (first ≡ true) ↔ F → (j j' k k' : ℕ)
    → (first && eqb j j' && eqb k k' ≡ true) ↔ (F × (j ≡ j') × (k ≡ k'))
three-fit first f j j' k k' =
    Iff.trans (and-eq-true_iff (first && eqb j j') (eqb k k'))
    (Iff.trans (Iff.and (Iff.trans (and-eq-true_iff first (eqb j j')) (Iff.and f (one-fits j j'))) (one-fits k k'))
    (λ ((h, ej), ek). (h, ej, ek), λ (h, ej, ek). ((h, ej), ek)))

four-fit : {F : Type 0} (first : Bool) → (first ≡ true) ↔ F → (j j' k k' l l' : ℕ)
    → (first && eqb j j' && eqb k k' && eqb l l' ≡ true) ↔ (F × (j ≡ j') × (k ≡ k') × (l ≡ l'))
four-fit first f j j' k k' l l' =
    Iff.trans (and-eq-true_iff (first && eqb j j' && eqb k k') (eqb l l'))
    (Iff.trans (Iff.and (three-fit first f j j' k k') (one-fits l l'))
    (λ ((h, ej, ek), el). (h, ej, ek, el), λ (h, ej, ek, el). ((h, ej, ek), el)))

five-fit : {F : Type 0} (first : Bool) → (first ≡ true) ↔ F → (j j' k k' l l' m m' : ℕ)
    → (first && eqb j j' && eqb k k' && eqb l l' && eqb m m' ≡ true) ↔ (F × (j ≡ j') × (k ≡ k') × (l ≡ l') × (m ≡ m'))
five-fit first f j j' k k' l l' m m' =
    Iff.trans (and-eq-true_iff (first && eqb j j' && eqb k k' && eqb l l') (eqb m m'))
    (Iff.trans (Iff.and (four-fit first f j j' k k' l l') (one-fits m m'))
    (λ ((h, ej, ek, el), em). (h, ej, ek, el, em), λ (h, ej, ek, el, em). ((h, ej, ek, el), em)))

-- ---- the test of each call; `room`, `public` and `secret` are lengths of outputs

pub keygen-fits : (stream s e : List ℕ) (public secret : ℕ)
    → (eqb (length stream) 2688 && eqb (length s) 512 && eqb (length e) 512 && eqb public 4101 && eqb secret 4357 ≡ true)
    ↔ ((length stream ≡ 2688) × (length s ≡ 512) × (length e ≡ 512) × (public ≡ 4101) × (secret ≡ 4357))
keygen-fits stream s e public secret = five-fit (eqb (length stream) 2688) (one-fits (length stream) 2688) (length s) 512 (length e) 512 public 4101 secret 4357

pub seeded-keygen-fits : (seed s e : List ℕ) (public secret : ℕ)
    → (eqb (length seed) 32 && eqb (length s) 512 && eqb (length e) 512 && eqb public 2085 && eqb secret 4357 ≡ true)
    ↔ ((length seed ≡ 32) × (length s ≡ 512) × (length e ≡ 512) × (public ≡ 2085) × (secret ≡ 4357))
seeded-keygen-fits seed s e public secret = five-fit (eqb (length seed) 32) (one-fits (length seed) 32) (length s) 512 (length e) 512 public 2085 secret 4357

pub encapsulate-fits : (k t : List ℕ) (room : ℕ)
    → (is_public_length (length k) && eqb (length t) 768 && eqb room 4096 ≡ true) ↔ ((is_public_length (length k) ≡ true) × (length t ≡ 768) × (room ≡ 4096))
encapsulate-fits k t room = three-fit (is_public_length (length k)) Iff.rfl (length t) 768 room 4096

pub decapsulate-fits : (k c d : List ℕ) (room : ℕ)
    → (leb 5 (length k) && eqb (length c) 4096 && eqb (length d) 768 && eqb room 768 ≡ true)
    ↔ ((5 ≤ length k) × (length c ≡ 4096) × (length d ≡ 768) × (room ≡ 768))
decapsulate-fits k c d room = four-fit (leb 5 (length k)) (header-fits k) (length c) 4096 (length d) 768 room 768

pub seal-fits : (k noise entry : List ℕ) (room : ℕ)
    → (is_public_length (length k) && eqb (length noise) 1536 && eqb (length entry) 16 && eqb room 4133 ≡ true)
    ↔ ((is_public_length (length k) ≡ true) × (length noise ≡ 1536) × (length entry ≡ 16) × (room ≡ 4133))
seal-fits k noise entry room = four-fit (is_public_length (length k)) Iff.rfl (length noise) 1536 (length entry) 16 room 4133

pub open-fits : (k e noise : List ℕ) (room : ℕ)
    → (leb 5 (length k) && eqb (length e) 4133 && eqb (length noise) 1536 && eqb room 16 ≡ true)
    ↔ ((5 ≤ length k) × (length e ≡ 4133) × (length noise ≡ 1536) × (room ≡ 16))
open-fits k e noise room = four-fit (leb 5 (length k)) (header-fits k) (length e) 4133 (length noise) 1536 room 16

-- ---- what is said behind the lengths

-- a number of its own
pub says-after_lengths : {fit : Bool} {F G : Type 0} (n : ℕ) (a : Answer) → 1 < n → (fit ≡ true) ↔ F → (number a ≡ n) ↔ G
    → (number (unless fit WrongLength a) ≡ n) ↔ (F × G)
says-after_lengths {fit} n a h f g = Iff.trans (unless-says n fit WrongLength a (λ e. omega arith)) (Iff.and f g)

-- a number and a word
pub names-after_lengths : {fit : Bool} {F G : Type 0} (n : ℕ) (l : Location) (a : Answer) → 1 < n → (fit ≡ true) ↔ F → Names n l a ↔ G
    → Names n l (unless fit WrongLength a) ↔ (F × G)
names-after_lengths {fit} n l a h f g = Iff.trans (unless_names n l fit WrongLength a (λ e. omega arith)) (Iff.and f g)

-- a public key's length and what its checks say, R and N, among the lengths of the other buffers
pub of-encapsulate : {Size Says R N H1 H2 : Type 0} → (Size × Says) ↔ (R × N) → ((Size × H1 × H2) × Says) ↔ (R × H1 × H2 × N)
of-encapsulate key = (
  λ ((size, h1, h2), says). let (r, n) = key.0 (size, says) in (r, h1, h2, n),
  λ (r, h1, h2, n). let (size, says) = key.1 (r, n) in ((size, h1, h2), says),
)

pub of-seal : {Size Says R N H1 H2 H3 : Type 0} → (Size × Says) ↔ (R × N) → ((Size × H1 × H2 × H3) × Says) ↔ (R × H1 × H2 × H3 × N)
of-seal key = (
  λ ((size, h1, h2, h3), says). let (r, n) = key.0 (size, says) in (r, h1, h2, h3, n),
  λ (r, h1, h2, h3, n). let (size, says) = key.1 (r, n) in ((size, h1, h2, h3), says),
)

-- .. and the lengths of key generation
pub of-keygen : {N H1 H2 H3 H4 H5 : Type 0} → ((H1 × H2 × H3 × H4 × H5) × N) ↔ (H1 × H2 × H3 × H4 × H5 × N)
of-keygen = (λ ((h1, h2, h3, h4, h5), n). (h1, h2, h3, h4, h5, n), λ (h1, h2, h3, h4, h5, n). ((h1, h2, h3, h4, h5), n))
