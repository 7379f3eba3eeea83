-- The bytes of a triple.
use mathlib.Core.Path.{◌≡◌}
use mathlib.Core.List.{List, ◌++◌}
use Prim.Native.Nat.{ℕ}
use native.Mathlib.Omega.{arith}
use lib.ListN.{length, length-append}
use Rattle.algebra.specs.Numbers.{Below}
use Rattle.algebra.proofs.Numbers.{below-append}
use Rattle.encoding.specs.Codes.{ternary_bytes}
use Rattle.encoding.proofs.Codes.{length-ternary_bytes, ternary_bytes-below}
use Rattle.records.specs.Layout.{triple_length}
use Rattle.triples.specs.Triple.{triple_bytes}

module _ (r e1 e2 : List ℕ) where
  pub length-triple_bytes : length (triple_bytes r e1 e2) ≡ triple_length
  unfolding triple_bytes
  length-triple_bytes =
      omega (
        arith,
        length-append (ternary_bytes r ++ ternary_bytes e1) (ternary_bytes e2),
        length-append (ternary_bytes r) (ternary_bytes e1),
        length-ternary_bytes r,
        length-ternary_bytes e1,
        length-ternary_bytes e2,
      )

  pub triple_bytes-below : Below 256 (triple_bytes r e1 e2)
  unfolding triple_bytes
  triple_bytes-below =
      below-append 256 (ternary_bytes r ++ ternary_bytes e1) (ternary_bytes e2)
      (below-append 256 (ternary_bytes r) (ternary_bytes e1) (ternary_bytes-below r) (ternary_bytes-below e1)) (ternary_bytes-below e2)
