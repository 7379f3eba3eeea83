-- Records already made: what was made for an accepted key with a ternary triple, that key opens.
use mathlib.Core.Path.{◌≡◌, sym, ap, ◌∙◌}
use mathlib.Core.List.{List}
use Prim.Native.Nat.{ℕ}
use lib.ListN.{length}
use Rattle.scheme.specs.Scheme.{Triple}
use Rattle.gf128.specs.Bytes.{Block}
use Rattle.derivation.specs.Derivation.{tag_of, entry_of}
use Rattle.answers.specs.Answers.{number}
use Rattle.records.specs.Layout.{triple_length, block_length}
use Rattle.records.specs.Records.{body_part}
use Rattle.triples.specs.Triple.{triple_bytes}
use Rattle.triples.specs.WellFormed.{WellFormedTriple}
use Rattle.public_keys.specs.PublicKeys.{public_a, public_b}
use Rattle.keys.specs.Keys.{triple_noise_length}
use Rattle.calls.specs.Calls.{encapsulated_with, decapsulate_answer, decapsulate_out, sealed_with, open_answer, open_out}
use Rattle.calls.specs.Promises.{Accepted, Ternaries, PublicOf, RecordsOpen}
use Rattle.derivation.proofs.Laws.{entry_of-body_of}
use Rattle.calls.proofs.DecapsulateExact.{decapsulate-exact}
use Rattle.calls.proofs.OpenExact.{open-exact}
use Rattle.calls.proofs.Encapsulations.{encapsulates}
use Rattle.calls.proofs.BareEncapsulations.{encapsulated-c1, encapsulated-c2, encapsulated_well-formed}
use Rattle.calls.proofs.SealedEntries.{sealed-first, sealed-second, sealed-body, sealed-tag, sealed_well-formed}

module _ {k p : List ℕ} (accepted : Accepted k) (public : PublicOf p k) (t : Triple) (ternary : Ternaries t) where
  abbrev a : List ℕ
  a = public_a p

  abbrev b : List ℕ
  b = public_b p

  -- ---- a sealed entry

  module _ {entry : List ℕ} (block : Block entry) (dummy out : List ℕ) (dummy-size : length dummy ≡ triple_noise_length) (room : length out ≡ block_length) where
    abbrev e : List ℕ
    e = sealed_with a b t entry

    by_triple : (number (open_answer k e dummy (length out)) ≡ 0) × (open_out k e dummy out ≡ entry_of t.r t.e1 t.e2 (body_part e))
    by_triple =
        (open-exact k e dummy out accepted (sealed_well-formed a b t block) dummy-size room).0.opens t
        (encapsulates public t ternary (sealed-first a b t block) (sealed-second a b t block))
        (sealed-tag a b t block ∙ ap (tag_of t.r t.e1 t.e2) (sym (sealed-body a b t block)))

    pub sealed-opens : (number (open_answer k e dummy (length out)) ≡ 0) × (open_out k e dummy out ≡ entry)
    sealed-opens = (
      by_triple.0,
      by_triple.1 ∙ ap (entry_of t.r t.e1 t.e2) (sealed-body a b t block) ∙ entry_of-body_of t.r t.e1 t.e2 entry,
    )

  -- ---- an encapsulation

  module _ (dummy out : List ℕ) (wd : WellFormedTriple dummy) (room : length out ≡ triple_length) where
    abbrev c : List ℕ
    c = encapsulated_with a b t

    pub encapsulated-opens : (number (decapsulate_answer k c dummy (length out)) ≡ 0) × (decapsulate_out k c dummy out ≡ triple_bytes t.r t.e1 t.e2)
    encapsulated-opens =
        ((decapsulate-exact k c dummy out accepted (encapsulated_well-formed a b t) wd room).0.opens t ternary).0
        (encapsulates public t ternary (encapsulated-c1 a b t) (encapsulated-c2 a b t))

pub records_open : RecordsOpen
records_open = record {
  sealed = λ k p t entry dummy out accepted public ternary size bytes dummy-size room.
      sealed-opens accepted public t ternary (record { size = size; small = bytes }) dummy out dummy-size room;
  encapsulated = λ k p t dummy out accepted public ternary wd room. encapsulated-opens accepted public t ternary dummy out wd room;
}
