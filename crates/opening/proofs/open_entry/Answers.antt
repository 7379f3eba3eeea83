use mathlib.Core.Path.{◌≡◌, sym, ap, ◌∙◌}
use mathlib.Core.List.{List}
use Prim.Native.Nat.{ℕ}
use lib.ListN.{length}
use mathlib.Core.Bool.{Bool, true, false, ◌&&◌}
use lib.Dec.{eqb, leb}
use Rattle.answers.specs.declared.Refusal.TheVariants.{WrongLength}
use Rattle.answers.specs.Answers.{unless, and_then, on_done, Answer}
use Rattle.std.specs.Prelude.{Ok}
use Rattle.records.specs.Records.{body_part, tag_part, sealed_entry_answer}
use Rattle.secret_keys.specs.SecretKeys.{secret_answer}
use Rattle.calls.specs.Calls.{opened_entry, open_answer, open_out}
use Rattle.recovery.specs.Outcomes.{opened_by}
use Rattle.opening.specs.declared.OpenedSealed.{OpenedSealed}
use Rattle.opening.specs.Parts.{opened_outcome, opened_quotients, opened_with}
use Rattle.calls.proofs.Lengths.{open-fits}
use Rattle.opening.proofs.Laws.{entry-front}
use borrow.Author.Rules.{rules}
use Rattle.opening.proofs.open_entry.Goals as goal

abbrev whole : (key sealed noise : List ℕ) → Answer
whole k e noise = opened_by (secret_answer k) (sealed_entry_answer e) (opened_outcome k e noise) (body_part e) (tag_part e)

abbrev read_whole : (key sealed : List ℕ) → Answer
read_whole k e = and_then (secret_answer k) (sealed_entry_answer e)

abbrev given : (key sealed noise : List ℕ) → OpenedSealed
given k e noise = opened_with (opened_outcome k e noise) (body_part e) (tag_part e) (opened_quotients k e noise)

pub returns-then-not-fits : goal.returns-then-not-fits
unfolding open_answer open_out
returns-then-not-fits c =
    let args = c.args in
    let k = args.key.now in
    let e = args.sealed.now in
    let noise = args.noise.now in
    let old = args.out.now in
    let misfit : leb 5 (length k) && eqb (length e) 4133 && eqb (length noise) 1536 && eqb (length old) 16 ≡ false = c.if-not-fits.true in
    let answer = sym (ap (λ (b : Bool). unless b WrongLength (whole k e noise)) misfit) in
    let kept = ap (λ (a : Answer). on_done a (opened_entry (opened_outcome k e noise) (body_part e)) old) answer in
    let read = sym (ap (λ (b : Bool). unless b WrongLength (read_whole k e)) misfit) in
    record { value = ap (λ (a : Answer). and_then a (Ok (given k e noise))) read; out_after = kept }

pub slice_bounds-open_sealed-end-2 : goal.slice_bounds-open_sealed-end-2
slice_bounds-open_sealed-end-2 c =
    let left = c in
    let args = left.args in
    let (key, sealed, noise, room) =
    (open-fits args.key.now args.sealed.now args.noise.now (length args.out.now)).0 left.if-not-fits.false in
    search rules

pub slice_bounds-open_sealed-end-3 : goal.slice_bounds-open_sealed-end-3
slice_bounds-open_sealed-end-3 c =
    let left = c in
    let args = left.args in
    let (key, sealed, noise, room) =
    (open-fits args.key.now args.sealed.now args.noise.now (length args.out.now)).0 left.if-not-fits.false in
    search rules

pub open_sealed-requires : goal.open_sealed-requires
open_sealed-requires c =
    let left = c in
    let args = left.args in
    let (key, sealed, noise, room) =
    (open-fits args.key.now args.sealed.now args.noise.now (length args.out.now)).0 left.if-not-fits.false in
    let size = sealed in
    (search rules, noise, search rules, search rules, search rules)

pub returns : goal.returns
unfolding open_answer open_out
returns c =
    let opened = c in
    let left = opened in
    let args = left.args in
    let k = args.key.now in
    let e = args.sealed.now in
    let noise = args.noise.now in
    let old = args.out.now in
    let fits : leb 5 (length k) && eqb (length e) 4133 && eqb (length noise) 1536 && eqb (length old) 16 ≡ true = left.if-not-fits.false in
    let front = ap (λ (x : Answer). opened_by (secret_answer k) x (opened_outcome k e noise) (body_part e) (tag_part e)) (entry-front e)
    ∙ sym (ap (λ (b : Bool). unless b WrongLength (whole k e noise)) fits) in
    let read = ap (and_then (secret_answer k)) (entry-front e) ∙ sym (ap (λ (b : Bool). unless b WrongLength (read_whole k e)) fits) in
    let answer = opened.open_sealed.ensures.value ∙ ap (λ (a : Answer). and_then a (Ok (given k e noise))) read in
    let out = opened.open_sealed.ensures.out_after ∙ ap (λ (a : Answer). on_done a (opened_entry (opened_outcome k e noise) (body_part e)) old) front in
    record { value = answer; out_after = out }
