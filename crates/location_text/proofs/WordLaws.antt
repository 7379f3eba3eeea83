-- How long the words of a location are, and that there is room for them.
use mathlib.Core.Path.{◌≡◌, refl, sym, ap, ◌∙◌}
use mathlib.Core.List.{List, [], ◌∷◌}
use Prim.Native.Nat.{ℕ, ◌≤◌}
use native.Mathlib.Omega.{arith}
use lib.Dec.{eqb}
use lib.ListN.{length, take, length-append}
use lib.Seq.{take_all}
use borrow.Author.Tests.{ne_eqb}
use Rattle.text.proofs.Texts.{either-most}
use Rattle.text.proofs.Decimals.{length_digits}
use Rattle.answers.specs.declared.Location.{Location}
use Rattle.location_text.specs.Words.{public_key_name, seeded_key_name, secret_key_name, sealed_entry_name, encapsulation_name, stored_inverse_name}
use Rattle.location_text.specs.Words.{record_name, part_name, text_length, location_words, location_text}

record-most : (kind : ℕ) → length (record_name kind) ≤ 17
record-most kind =
    either-most (eqb kind 1) public_key_name _ 17 (omega arith)
    (either-most (eqb kind 2) seeded_key_name _ 17 (omega arith)
    (either-most (eqb kind 3) secret_key_name _ 17 (omega arith)
    (either-most (eqb kind 4) sealed_entry_name _ 17 (omega arith)
    (either-most (eqb kind 5) encapsulation_name [] 17 (omega arith) (omega arith)))))

part-most : (part : ℕ) → length (part_name part) ≤ 14
part-most part =
    either-most (eqb part 1) (97 ∷ []) _ 14 (omega arith)
    (either-most (eqb part 2) (98 ∷ []) _ 14 (omega arith)
    (either-most (eqb part 3) stored_inverse_name _ 14 (omega arith)
    (either-most (eqb part 4) (99 ∷ 49 ∷ []) _ 14 (omega arith)
    (either-most (eqb part 5) (99 ∷ 50 ∷ []) [] 14 (omega arith) (omega arith)))))

words-most : (l : Location) → length (location_words l) ≤ text_length
words-most l = simp length-append (omega (arith, record-most l.kind, part-most l.part, length_digits 20 l.index))

pub no_words : (l : Location) → l.kind ≡ 0 → location_text l ≡ []
unfolding location_text
no_words l e = rw e refl

some_words : (l : Location) → ¬ (l.kind ≡ 0) → location_text l ≡ location_words l
unfolding location_text
some_words l some = rw (ne_eqb l.kind 0 some) refl

-- there is room for the words
pub words-put : (l : Location) → ¬ (l.kind ≡ 0) → take text_length (location_words l) ≡ location_text l
words-put l some = take_all text_length (location_words l) (words-most l) ∙ sym (some_words l some)
