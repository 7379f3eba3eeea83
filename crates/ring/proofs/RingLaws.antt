-- Sums and products form a commutative ring with one; multiples by numbers; inverses.
use mathlib.Core.Path.{◌≡◌, refl, sym, ap, ◌∙◌}
use mathlib.Core.List.{List, [], ◌∷◌}
use Prim.Native.Nat.{ℕ, zero, suc, ◌%◌, ◌<◌}
use native.Mathlib.Nat.{mod-eq_of_lt, one-mul}
use native.Mathlib.Omega.{arith}
use lib.ListN.{length, get_or, set, length-replicate, get_or-replicate}
use Rattle.lists.specs.Table.{zeros}
use Rattle.lists.proofs.Tables.{table_is, table_same}
use Rattle.lists.proofs.Zeros.{size-zeros}
use Rattle.algebra.specs.Ring.{CommRing}
use Rattle.algebra.specs.Polynomials.{negacyclic}
use Rattle.algebra.specs.Numbers as N
use Rattle.algebra.specs.Numbers.{add_mod, mul_mod}
use Rattle.algebra.proofs.Ring.{ring}
use Rattle.algebra.proofs.Residues.{ℤ/}
use Rattle.algebra.proofs.Numbers.{below_at}
use Rattle.algebra.proofs.Elements as E
use Rattle.algebra.proofs.PlainProduct.{plain-product, plain_ring, plain-inverse-unique}
use Rattle.modq.proofs.Prime.{q-positive}
use Rattle.modq.proofs.Products.{mul_mod_assoc}
use Rattle.ring.specs.Ring.{q, n, Element, Elements, constant, one, sum, difference, multiple, product, Invertible, fifth}
use Rattle.ring.specs.Invertible.{is_invertible, witness, inverse_of}

-- ---- the ring: identities between elements are closed by `simp ring` of crate algebra

unfoldable pub elements : CommRing Elements
elements = plain_ring q q-positive 1023

infixl 65 ◌⊕◌
infixl 70 ◌⊗◌
open elements use {◌⊕◌, ◌⊗◌, neg, 𝟘, 𝟙}

-- elements are known by their lists
pub same-element : (x y : Elements) → x.0 ≡ y.0 → x ≡ y
same-element x y e = E.elements_same x y e

-- the lists of the ring's operations are those of specs/Ring
pub sum-list : (x y : Elements) → (x ⊕ y).0 ≡ sum x.0 y.0
unfolding elements plain_ring E.elements
sum-list x y = refl

pub product-list : (x y : Elements) → (x ⊗ y).0 ≡ product x.0 y.0
unfolding elements plain_ring E.elements
product-list x y = refl

pub one_list : 𝟙.0 ≡ one
unfolding elements plain_ring E.elements
one_list = refl

pub zero-list : 𝟘.0 ≡ constant 0
unfolding elements plain_ring E.elements
zero-list = refl

pub difference-list : (x y : Elements) → (x ⊕ neg y).0 ≡ difference x.0 y.0
unfolding elements plain_ring E.elements
difference-list x y = sym (E.minus_is q q-positive n x.0 y.0)

-- every operation gives an element
pub sum-element : (a b : List ℕ) → Element (sum a b)
sum-element = E.plus-element q q-positive n

pub difference-element : (a b : List ℕ) → Element (difference a b)
difference-element = E.minus-element q q-positive n

pub multiple-element : (c : ℕ) (a : List ℕ) → Element (multiple c a)
multiple-element = E.scale-element q q-positive n

pub constant-element : (c : ℕ) → Element (constant c)
constant-element c = E.reduced-element q q-positive n (c ∷ [])

pub product-element : (a b : List ℕ) → Element (product a b)
product-element a b = (plain-product q q-positive 1023).element a b

-- a sum less a summand, as an identity of the ring
pub sum_less : (a b : List ℕ) → Element a → Element b → difference (sum a b) b ≡ a
sum_less a b ha hb = ap (λ (x : List ℕ). difference x b) (sym (sum-list x y)) ∙ sym (difference-list (x ⊕ y) y) ∙ ap (λ (v : Elements). v.0) (cancel x y)
  where
    x : Elements
    x = (a, ha)

    y : Elements
    y = (b, hb)

    cancel : (x y : Elements) → x ⊕ y ⊕ neg y ≡ x
    cancel x y = simp ring

-- two summands exchanged, for all words
pub sum_swapped : (p c e : List ℕ) → sum p (sum c e) ≡ sum c (sum p e)
unfolding N.plus
sum_swapped p c e = table_same n _ _ (λ k h.
    ap (add_mod q (get_or p k 0)) (E.plus-at q q-positive n c e k h) ∙ omega arith ∙ sym (ap (add_mod q (get_or c k 0)) (E.plus-at q q-positive n p e k h)))

-- ---- multiples

pub multiple-product : (c : ℕ) (a : List ℕ) → length a ≡ n → product (constant c) a ≡ multiple c a
multiple-product = E.times-constant q q-positive 1023 (negacyclic (ℤ/ q q-positive)) (N.product q n) (plain-product q q-positive 1023)

-- 5 has the reciprocal `fifth`
pub five-fifth : mul_mod q 5 fifth ≡ 1
five-fifth = refl

multiple_twice : (c d : ℕ) → mul_mod q c d ≡ 1 → (a : List ℕ) → Element a → multiple c (multiple d a) ≡ a
unfolding N.scale
multiple_twice c d e a h = sym (table_is n _ a 0 h.size entry)
  where
    entry : (k : ℕ) → k < n → get_or a k 0 ≡ mul_mod q c (get_or (multiple d a) k 0)
    entry k l =
        sym (ap (mul_mod q c) (E.scale_at q q-positive n d a k l) ∙ sym (mul_mod_assoc q c d (get_or a k 0)) ∙ ap (λ (x : ℕ). mul_mod q x (get_or a k 0)) e
        ∙ ap (λ (x : ℕ). x % q) (one-mul (get_or a k 0)) ∙ mod-eq_of_lt (below_at q q-positive a h.below k))

pub five_of-fifth : (a : List ℕ) → Element a → multiple 5 (multiple fifth a) ≡ a
five_of-fifth = multiple_twice 5 fifth refl

pub fifth_of_five : (a : List ℕ) → Element a → multiple fifth (multiple 5 a) ≡ a
fifth_of_five = multiple_twice fifth 5 refl

-- ---- inverses

-- an inverse is the only one
pub inverse-unique : (b i j : List ℕ) → length b ≡ n → Element i → Element j → product b i ≡ one → product b j ≡ one → i ≡ j
inverse-unique = plain-inverse-unique q q-positive 1023

-- so it is `inverse_of`
pub inverse_is : (b i : List ℕ) → length b ≡ n → Element i → product b i ≡ one → inverse_of b ≡ i
unfolding inverse_of
inverse_is b i size h e = by (is_invertible b)
  where
    by : (d : Dec (Invertible b)) → witness b d ≡ i
    by (yes (j, g, f)) = inverse-unique b j i size g h f e
    by (no none) = absurd (none (i, h, e))

pub inverse_none : (b : List ℕ) → ¬ (Invertible b) → inverse_of b ≡ zeros n
unfolding inverse_of
inverse_none b none = by (is_invertible b)
  where
    by : (d : Dec (Invertible b)) → witness b d ≡ zeros n
    by (yes i) = absurd (none i)
    by (no f) = refl

pub inverse-times : (b : List ℕ) → Invertible b → Element (inverse_of b) × (product b (inverse_of b) ≡ one)
unfolding inverse_of
inverse-times b i = by (is_invertible b)
  where
    by : (d : Dec (Invertible b)) → Element (witness b d) × (product b (witness b d) ≡ one)
    by (yes (j, g, f)) = (g, f)
    by (no none) = absurd (none i)

pub length-inverse : (b : List ℕ) → length (inverse_of b) ≡ n
unfolding inverse_of
length-inverse b = by (is_invertible b)
  where
    by : (d : Dec (Invertible b)) → length (witness b d) ≡ n
    by (yes (j, g, f)) = g.size
    by (no none) = sym (size-zeros n)

-- ---- one, as the code builds it

one_from-zeros : (p : ℕ) → set (zeros (suc p)) 0 1 ≡ N.one q (suc p)
unfolding N.reduced
one_from-zeros p = table_is (suc p) _ (1 ∷ zeros p) 0 (ap suc (length-replicate p 0)) entry
  where
    entry : (k : ℕ) → k < suc p → get_or (1 ∷ zeros p) k 0 ≡ get_or (1 ∷ []) k 0 % q
    entry zero h = refl
    entry (suc k) h = get_or-replicate p k 0 0 (omega arith)

pub one_is : set (zeros n) 0 1 ≡ one
one_is = one_from-zeros 1023
