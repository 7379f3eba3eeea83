-- Sealed entries: what is read from what is written with a triple.
use mathlib.Core.Path.{◌≡◌, refl, ap, ◌∙◌}
use mathlib.Core.List.{List, ◌++◌, append_assoc}
use Prim.Native.Nat.{ℕ}
use lib.ListN.{length}
use native.Mathlib.Omega.{arith}
use Rattle.scheme.specs.Scheme.{Triple, masked}
use Rattle.gf128.specs.Bytes.{Block}
use Rattle.derivation.specs.Derivation.{body_of, tag_of}
use Rattle.records.specs.Records.{first_of, second_of, body_part, tag_part, record_bytes, sealed_entry_bytes}
use Rattle.calls.specs.Calls.{sealed_with}
use Rattle.records.specs.WellFormed.{WellFormedEntry}
use Rattle.records.specs.Layout.{sealed_entry_mark, sealed_entry_length, tag_place}
use Rattle.records.proofs.Writing.{length-record_bytes}
use Rattle.records.proofs.WrittenRecords.{length_both, part_behind, part_end, record-first, record-second, record_well-formed}
use Rattle.derivation.proofs.Laws.{body_of-block, tag_of-block}
use Rattle.calls.proofs.Encapsulations.{masked-element}

-- ---- the parts of an entry that is sealed with the triple t

module _ (a b : List ℕ) (t : Triple) {entry : List ℕ} (h : Block entry) where
  abbrev c1 : List ℕ
  c1 = masked a t.r t.e1

  abbrev c2 : List ℕ
  c2 = masked b t.r t.e2

  abbrev body : List ℕ
  body = body_of t.r t.e1 t.e2 entry

  abbrev tag : List ℕ
  tag = tag_of t.r t.e1 t.e2 body

  abbrev front : List ℕ
  front = record_bytes sealed_entry_mark 1 c1 c2

  body-block : Block body
  body-block = body_of-block t.r t.e1 t.e2 h

  tag-block : Block tag
  tag-block = tag_of-block t.r t.e1 t.e2 body

  -- by its parts, compared here once
  is-sealed : sealed_with a b t entry ≡ sealed_entry_bytes c1 c2 body tag
  unfolding sealed_with
  is-sealed = refl

  behind-front : sealed_with a b t entry ≡ front ++ (body ++ tag)
  behind-front = is-sealed ∙ append_assoc front body tag

  pub sealed-first : first_of (sealed_with a b t entry) ≡ c1
  sealed-first = ap first_of behind-front ∙ record-first sealed_entry_mark 1 c1 c2 (body ++ tag) (masked-element _ _ _)

  pub sealed-second : second_of (sealed_with a b t entry) ≡ c2
  sealed-second = ap second_of behind-front ∙ record-second sealed_entry_mark 1 c1 c2 (body ++ tag) (masked-element _ _ _)

  pub sealed-body : body_part (sealed_with a b t entry) ≡ body
  sealed-body = ap body_part is-sealed ∙ part_behind front body tag (length-record_bytes sealed_entry_mark 1 c1 c2) body-block.size

  before-tag : length (front ++ body) ≡ tag_place
  before-tag = length_both front body (length-record_bytes sealed_entry_mark 1 c1 c2) body-block.size

  pub sealed-tag : tag_part (sealed_with a b t entry) ≡ tag
  sealed-tag = ap tag_part is-sealed ∙ part_end (front ++ body) tag before-tag tag-block.size

  sealed-size : length (sealed_with a b t entry) ≡ sealed_entry_length
  sealed-size = ap length is-sealed ∙ length_both (front ++ body) tag before-tag tag-block.size

  pub sealed_well-formed : WellFormedEntry (sealed_with a b t entry)
  sealed_well-formed = record {
    size = sealed-size;
    front = rw behind-front (record_well-formed sealed_entry_mark 1 c1 c2 (body ++ tag) (omega arith) (masked-element _ _ _) (masked-element _ _ _));
  }
