-- Encapsulations: what is read from what is written of a triple.
use mathlib.Core.Path.{◌≡◌}
use mathlib.Core.List.{List}
use Prim.Native.Nat.{ℕ}
use lib.ListN.{length}
use Rattle.scheme.specs.Scheme.{Triple, masked}
use Rattle.records.specs.Layout.{encapsulation_length}
use Rattle.records.specs.Records.{c1_of, c2_of}
use Rattle.calls.specs.Calls.{encapsulated_with}
use Rattle.records.specs.WellFormed.{WellFormedEncapsulation}
use Rattle.records.proofs.WrittenRecords.{length-encapsulation, encapsulation-c1, encapsulation-c2}
use Rattle.calls.proofs.Encapsulations.{masked-element}

-- ---- the parts of an encapsulation of the triple t

module _ (a b : List ℕ) (t : Triple) where
  abbrev c1 : List ℕ
  c1 = masked a t.r t.e1

  abbrev c2 : List ℕ
  c2 = masked b t.r t.e2

  pub encapsulated-c1 : c1_of (encapsulated_with a b t) ≡ c1
  unfolding encapsulated_with
  encapsulated-c1 = encapsulation-c1 c1 c2 (masked-element _ _ _)

  pub encapsulated-c2 : c2_of (encapsulated_with a b t) ≡ c2
  unfolding encapsulated_with
  encapsulated-c2 = encapsulation-c2 c1 c2 (masked-element _ _ _)

  encapsulated-size : length (encapsulated_with a b t) ≡ encapsulation_length
  unfolding encapsulated_with
  encapsulated-size = length-encapsulation c1 c2

  pub encapsulated_well-formed : WellFormedEncapsulation (encapsulated_with a b t)
  encapsulated_well-formed = record {
    size = encapsulated-size;
    c1-words = rw encapsulated-c1 (masked-element a t.r t.e1);
    c2-words = rw encapsulated-c2 (masked-element b t.r t.e2);
  }
