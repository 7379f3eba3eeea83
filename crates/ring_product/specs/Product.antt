-- The product of two ring elements over bytes: what is answered, and what is written.
use Rattle.std.specs.Prelude.{Bool, ◌&&◌, cond, List, ℕ, eqb, length}
use Rattle.ring.specs.Ring.{product}
use Rattle.encoding.specs.Words.{element_length, element_of, element_bytes}

-- all three have the length of an element
abbrev pub fit : (a b out : List ℕ) → Bool
fit a b out = eqb (length a) element_length && eqb (length b) element_length && eqb (length out) element_length

-- 0 where the product is written, 1 where a length is wrong
unfoldable pub product_number : (a b out : List ℕ) → ℕ
product_number a b out = cond (fit a b out) 0 1

-- `out` afterwards
unfoldable pub product_out : (a b out : List ℕ) → List ℕ
product_out a b out = cond (fit a b out) (element_bytes (product (element_of a) (element_of b))) out
