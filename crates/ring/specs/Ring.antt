-- The ring of document 01: polynomials with coefficients modulo q = 59,393 and X^1024 = - 1.
-- An element is a list of 1,024 numbers below q, coefficient 0 first. The operations are those of crate algebra at q and n: they take
-- lists of any numbers, each as its residue modulo q, and give elements.
use Rattle.std.specs.Prelude.{List, ℕ}
use Rattle.algebra.specs.Numbers as N
pub use Rattle.modq.specs.Modulus.{q}

-- the degree
abbrev pub n : ℕ
n = 1024

abbrev pub Element : List ℕ → Type 0
Element a = N.Element q n a

-- an element as a list together with the proof that it is one: the carrier of the ring
abbrev pub Elements : Type 0
Elements = N.Elements q n

-- c, 0, .., 0
abbrev pub constant : ℕ → List ℕ
constant c = N.constant q n c

abbrev pub one : List ℕ
one = constant 1

-- X^i, for i below n
abbrev pub power : ℕ → List ℕ
power i = N.monomial n i

abbrev pub sum : (a b : List ℕ) → List ℕ
sum a b = N.plus q n a b

abbrev pub difference : (a b : List ℕ) → List ℕ
difference a b = N.minus q n a b

-- c × a for a number c
abbrev pub multiple : ℕ → List ℕ → List ℕ
multiple c a = N.scale q n c a

-- the plain sum over pairs: coefficient k is the sum of the a_i b_j with i + j = k less that of those with i + j = n + k
abbrev pub product : (a b : List ℕ) → List ℕ
product a b = N.product q n a b

-- document 01's unit: b × i = 1 for some element i
abbrev pub Invertible : List ℕ → Type 0
Invertible b = N.Invertible q n product b

-- 5⁻¹ modulo q
abbrev pub fifth : ℕ
fifth = 35636
