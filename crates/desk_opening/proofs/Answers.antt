-- The desk's answer by the length of its input and the header of its key, and the entry of what is opened.
use mathlib.Core.Path.{◌≡◌, refl, sym, ap, ◌∙◌}
use mathlib.Core.Bool.{Bool, true}
use mathlib.Core.List.{List}
use Prim.Native.Nat.{ℕ}
use lib.Dec.{eqb}
use lib.ListN.{length}
use borrow.Author.Tests.{eq-eqb, ne_eqb}
use Rattle.lists.specs.Table.{zeros}
use Rattle.encoding.specs.Header.{has_mark, version_of}
use Rattle.answers.specs.declared.Refusal.{Refusal}
use Rattle.answers.specs.declared.Refusal.TheVariants.{WrongLength, WrongVersion}
use Rattle.answers.specs.Answers.{unless, and_then, on_done, Answer, Done}
use Rattle.answers.proofs.AnswerLaws.{unless_passed, unless-failed, then_passed, then-failed}
use Rattle.records.specs.Layout.{secret_key_mark, secret_key_version, block_length}
use Rattle.records.specs.Records.{header_answer}
use Rattle.calls.specs.Calls.{open_answer, open_out}
use Rattle.desk_opening.specs.Input.{key_part, sealed_part, dummy_part, parts_answer, desk_answer, desk_entry}
use Rattle.std.specs.Prelude.{Ok, Err}

-- ---- an input

pub answer_by_length : (input : List ℕ) {fits : Bool} → eqb (length input) 10026 ≡ fits
    → desk_answer input ≡ unless fits WrongLength (parts_answer (key_part input) (sealed_part input) (dummy_part input))
unfolding desk_answer
answer_by_length input e = ap (λ (b : Bool). unless b WrongLength (parts_answer (key_part input) (sealed_part input) (dummy_part input))) e

-- an input of the right length whose key has a secret key's mark and another version
pub other_version : (input : List ℕ) → length input ≡ 10026 → has_mark secret_key_mark (key_part input) ≡ true → ¬ (version_of (key_part input) ≡ secret_key_version)
    → desk_answer input ≡ Err WrongVersion
unfolding header_answer
other_version input size mark other =
    answer_by_length input (eq-eqb (length input) 10026 size)
    ∙ then-failed _ (unless_passed _ _ mark ∙ unless-failed WrongVersion Done (ne_eqb (version_of (key_part input)) secret_key_version other))

-- the entry of what is opened
pub entry_given : (input : List ℕ) → length input ≡ 10026
    → and_then (parts_answer (key_part input) (sealed_part input) (dummy_part input)) (Ok (open_out (key_part input) (sealed_part input) (dummy_part input) (zeros block_length)))
    ≡ and_then (desk_answer input) (Ok (desk_entry input))
unfolding desk_entry
entry_given input size =
    given (parts_answer (key_part input) (sealed_part input) (dummy_part input)) _ _ (sym (answer_by_length input (eq-eqb (length input) 10026 size)))
  where
    given : (a : Answer) (new old : List ℕ) {b : Answer} → a ≡ b → and_then a (Ok new) ≡ and_then b (Ok (on_done b new old))
    given a new old e = by a ∙ ap (λ (b : Answer). and_then b (Ok (on_done b new old))) e
      where
        by : (a : Answer) → and_then a (Ok new) ≡ and_then a (Ok (on_done a new old))
        by (Ok _) = refl
        by (Err r) = refl
