-- The sum of a tag, written out in powers of the key. `tag-weighted` of proofs/TagLaws.antt shows that Horner's rule gives it.
use Rattle.std.specs.Prelude.{List, ◌∷◌, ℕ, zero, suc, drop}
use Rattle.lists.specs.Table.{zeros}
use Rattle.gf128.specs.Bytes.{sum, product, block}

-- k^n; k^0 is one
unfoldable pub power : List ℕ → ℕ → List ℕ
power k zero = 1 ∷ zeros 15
power k (suc n) = product k (power k n)

-- k^n × B1 + k^(n - 1) × B2 + .. + k × Bn over the first n blocks of a string
unfoldable pub weighted : (k : List ℕ) (blocks : ℕ) (s : List ℕ) → List ℕ
weighted k zero s = zeros 16
weighted k (suc n) s = sum (product (power k (suc n)) (block 0 s)) (weighted k n (drop 16 s))
