-- The loop over the cases of a text.
use mathlib.Core.Path.{◌≡◌, refl, sym, ap, ◌∙◌}
use mathlib.Core.List.{List}
use Prim.Native.Nat.{ℕ, zero, suc, ◌+◌, ◌-◌, ◌≤◌, ◌<◌}
use native.Mathlib.Omega.{arith}
use lib.ListN.{length, take, drop}
use borrow.Author.Tests.{lt-ltb, le-ltb}
use Rattle.lists.proofs.Parts.{take-to-end}
use Rattle.vectors.specs.declared.Verdict.{Verdict}
use Rattle.vectors.specs.Fields.{after_case, places_from, places}
use Rattle.vectors.specs.Answers.{tally}

-- The cases before a place have been counted: the count of those that are left, from what has been counted so far, is the count of all.
pub record Counted {A : Type 0} (add : A → Verdict → ℕ → A) (judge : List ℕ → Verdict) (fields : ℕ) (text : List ℕ) (none so_far : A) (at : ℕ) : Type 0 where
  pub some : 0 < fields
  pub within : at ≤ length text
  pub most : ℕ
  pub enough : length text ≤ at + most
  pub left : tally add judge text so_far (places_from most fields at text) ≡ tally add judge text none (places fields text)

pub counted_none : {A : Type 0} (add : A → Verdict → ℕ → A) (judge : List ℕ → Verdict) (fields : ℕ) (text : List ℕ) (none : A) → 0 < fields
    → Counted add judge fields text none none 0
counted_none add judge fields text none some = record { some = some; within = omega arith; most = length text; enough = omega arith; left = refl }

module _ {A : Type 0} (add : A → Verdict → ℕ → A) (judge : List ℕ → Verdict) (fields : ℕ) (text : List ℕ) where
  case_more : (so_far : A) (at most : ℕ) → at < length text
      → tally add judge text so_far (places_from (suc most) fields at text)
      ≡ tally add judge text (add so_far (judge (drop at text)) at) (places_from most fields (after_case fields at text) text)
  unfolding tally places_from
  case_more so_far at most h = rw (lt-ltb at (length text) h)

  case_none : (so_far : A) (at most : ℕ) → length text ≤ at → so_far ≡ tally add judge text so_far (places_from most fields at text)
  unfolding tally places_from
  case_none so_far at zero h = refl
  case_none so_far at (suc most) h = rw (le-ltb at (length text) h)

module _ {A : Type 0} {add : A → Verdict → ℕ → A} {judge : List ℕ → Verdict} {fields : ℕ} {text : List ℕ} where
  -- the case at the place is judged and added, and the place is that of the next one
  pub counted_more : {none so_far next : A} {at then : ℕ} {verdict : Verdict} → Counted add judge fields text none so_far at → at < length text
      → verdict ≡ judge (take (length text - at) (drop at text)) → next ≡ add so_far verdict at
      → (then ≡ after_case fields at text) × (at < then) × (then ≤ length text)
      → Counted add judge fields text none next then
  counted_more {none} {so_far} {next} {at} {then} p h v n (t, past, in-text) = by p.most p.enough p.left
    where
      judged : next ≡ add so_far (judge (drop at text)) at
      judged = n ∙ ap (λ (w : Verdict). add so_far w at) (v ∙ ap judge (take-to-end at text))

      by : (most : ℕ) → length text ≤ at + most
          → tally add judge text so_far (places_from most fields at text) ≡ tally add judge text none (places fields text)
          → Counted add judge fields text none next then
      by zero enough left = absurd (omega arith)
      by (suc most) enough left =
          record {
            some = p.some;
            within = in-text;
            most = most;
            enough = omega arith;
            left = rw (judged, t) (sym (case_more add judge fields text so_far at most h) ∙ left);
          }

  pub counted_all : {none so_far : A} {at : ℕ} → Counted add judge fields text none so_far at → length text ≤ at
      → so_far ≡ tally add judge text none (places fields text)
  counted_all {so_far = so_far} {at = at} p h = case_none add judge fields text so_far at p.most h ∙ p.left
