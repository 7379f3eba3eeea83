-- The tags, written out in powers of K1.
use mathlib.Core.Path.{◌≡◌, refl, ap, ◌∙◌}
use mathlib.Core.List.{List, ◌++◌}
use Prim.Native.Nat.{ℕ, zero, suc, ◌*◌, ◌<◌}
use native.Mathlib.Omega.{arith}
use lib.ListN.{length, get_or}
use Rattle.lists.specs.Table.{zeros}
use Rattle.lists.proofs.ByteLists.{small-zeros}
use Rattle.gf128.specs.Bytes.{Block, sum, product}
use Rattle.gf128.specs.Powers.{power, weighted}
use Rattle.derivation.specs.Derivation.{key1, key2, tag_of}
use Rattle.derivation.proofs.Laws.{tag_of-one, tag_of-first}
use Rattle.batch_records.specs.Batches.{count_bytes, count_block}
use Rattle.calls.specs.Promises.{Bytes}
use Rattle.batch_calls.specs.Promises.{TagsWritten}

-- L is a block: two bytes of the count and 14 zeros
pub count_block_lem : (m : ℕ) → Block (count_block m)
unfolding count_block
count_block_lem m = record { size = refl; small = small }
  where
    small : (k : ℕ) → get_or (count_bytes m ++ zeros 14) k 0 < 256
    small zero = omega arith
    small (suc zero) = omega arith
    small (suc (suc k)) = small-zeros 14 k

module _ (r e1 e2 : List ℕ) (m : ℕ) (body : List ℕ) where
  -- the sum with n blocks behind L
  abbrev written : ℕ → List ℕ
  written n = sum (sum (product (power (key1 r e1 e2) (suc n)) (count_block m)) (weighted (key1 r e1 e2) n body)) (key2 r e1 e2)

  -- a body of 16 m bytes has m blocks
  batch_tag_lem : length body ≡ 16 * m → Bytes body → tag_of r e1 e2 (count_block m ++ body) ≡ written m
  batch_tag_lem size bytes = tag_of-first r e1 e2 body (count_block_lem m) bytes ∙ ap written (omega (arith, size))

pub tags-written : TagsWritten
tags-written = record {
  single = λ r e1 e2 body size. tag_of-one r e1 e2 body size;
  batch = λ r e1 e2 m body size bytes. batch_tag_lem r e1 e2 m body size bytes;
}
