-- Batches: what is read from what is written with a triple.
use mathlib.Core.Path.{◌≡◌, refl, sym, ap, ap₂, ◌∙◌}
use mathlib.Core.List.{List, ◌++◌, append_assoc}
use Prim.Native.Nat.{ℕ, ◌+◌, ◌*◌}
use native.Mathlib.Omega.{arith}
use lib.ListN.{length, get_or}
use lib.Seq.{get_or-append-add}
use Rattle.scheme.specs.Scheme.{Triple, masked}
use Rattle.derivation.specs.Derivation.{body_of, tag_of}
use Rattle.derivation.proofs.Laws.{length-body_of, tag_of-block}
use Rattle.records.specs.Layout.{sealed_entry_mark, block_length}
use Rattle.records.specs.Records.{part, first_of, second_of, record_bytes}
use Rattle.records.proofs.Writing.{length-record_bytes}
use Rattle.records.proofs.WrittenRecords.{length_both, part_behind, part_end, record-first, record-second, record_well-formed}
use Rattle.batch_records.specs.Batches.{count_place, body_place, batch_length, count_of, count_bytes, count_block, batch_body, batch_tag, batch_bytes}
use Rattle.batch_records.specs.WellFormed.{WellFormedBatch}
use Rattle.calls.proofs.Encapsulations.{masked-element}
use Rattle.batch_calls.specs.Calls.{entries, batch_with}
use Rattle.batch_calls.specs.Promises.{WholeEntries}

-- ---- the parts of a batch that is sealed with the triple t

module _ (a b : List ℕ) (t : Triple) (blocks : List ℕ) (whole : WholeEntries blocks) where
  abbrev c1 : List ℕ
  c1 = masked a t.r t.e1

  abbrev c2 : List ℕ
  c2 = masked b t.r t.e2

  abbrev m : ℕ
  m = entries blocks

  abbrev body : List ℕ
  body = body_of t.r t.e1 t.e2 blocks

  abbrev tag : List ℕ
  tag = tag_of t.r t.e1 t.e2 (count_block m ++ body)

  abbrev front : List ℕ
  front = record_bytes sealed_entry_mark 2 c1 c2

  abbrev batch : List ℕ
  batch = batch_with a b t blocks

  -- ---- lengths

  front-size : length front ≡ count_place
  front-size = length-record_bytes sealed_entry_mark 2 c1 c2

  -- 16 bytes to an entry
  body-size : length body ≡ 16 * m
  body-size = length-body_of t.r t.e1 t.e2 blocks ∙ omega (arith, whole.0)

  tag-size : length tag ≡ block_length
  tag-size = (tag_of-block t.r t.e1 t.e2 (count_block m ++ body)).size

  before-body : length (front ++ count_bytes m) ≡ body_place
  before-body = length_both front (count_bytes m) front-size refl

  before-tag : length (front ++ count_bytes m ++ body) ≡ body_place + 16 * m
  before-tag = length_both (front ++ count_bytes m) body before-body body-size

  -- ---- the whole, by its parts

  is-written : batch ≡ front ++ count_bytes m ++ body ++ tag
  unfolding batch_with batch_bytes
  is-written = refl

  behind-front : batch ≡ front ++ (count_bytes m ++ (body ++ tag))
  behind-front = is-written ∙ append_assoc (front ++ count_bytes m) body tag ∙ append_assoc front (count_bytes m) (body ++ tag)

  pub length-batch : length batch ≡ batch_length m
  length-batch = ap length is-written ∙ length_both (front ++ count_bytes m ++ body) tag before-tag tag-size ∙ omega arith

  -- ---- what is read

  pub batch-first : first_of batch ≡ c1
  batch-first = ap first_of behind-front ∙ record-first sealed_entry_mark 2 c1 c2 _ (masked-element _ _ _)

  pub batch-second : second_of batch ≡ c2
  batch-second = ap second_of behind-front ∙ record-second sealed_entry_mark 2 c1 c2 _ (masked-element _ _ _)

  -- byte i behind the front
  byte_behind : (i : ℕ) → get_or batch (count_place + i) 0 ≡ get_or (count_bytes m ++ (body ++ tag)) i 0
  byte_behind i =
      ap₂ (λ (bytes : List ℕ) (place : ℕ). get_or bytes (place + i) 0) behind-front (sym front-size)
      ∙ get_or-append-add front (count_bytes m ++ (body ++ tag)) i 0

  -- its two bytes are those of m, which is at most 255
  pub batch-count : count_of batch ≡ m
  unfolding count_of
  batch-count = ap₂ (λ (low high : ℕ). low + 256 * high) (byte_behind 0) (byte_behind 1) ∙ omega (arith, whole.1.1)

  pub batch_body_lem : batch_body batch ≡ body
  batch_body_lem =
      ap₂ (λ (count : ℕ) (bytes : List ℕ). part body_place (16 * count) bytes) batch-count is-written
      ∙ part_behind (front ++ count_bytes m) body tag before-body body-size

  pub batch_tag_lem : batch_tag batch ≡ tag
  batch_tag_lem =
      ap₂ (λ (count : ℕ) (bytes : List ℕ). part (body_place + 16 * count) block_length bytes) batch-count is-written
      ∙ part_end (front ++ count_bytes m ++ body) tag before-tag tag-size

  pub batch_well-formed : WellFormedBatch batch
  batch_well-formed = record {
    front = rw behind-front (record_well-formed sealed_entry_mark 2 c1 c2 _ (omega arith) (masked-element _ _ _) (masked-element _ _ _));
    count = rw batch-count whole.1;
    size = length-batch ∙ ap batch_length (sym batch-count);
  }
