use mathlib.Core.Path.{ap, ap₂, ◌∙◌}
use Prim.Native.Nat.{ℕ, ◌+◌, ◌-◌, min}
use lib.ListN.{length, take, drop}
use Rattle.vectors.specs.Fields.{word32, field}
use Rattle.vectors.proofs.Texts.{part_cut}
use Rattle.vectors.proofs.field.Goals as goal

pub returns : goal.returns
unfolding field
returns c =
    let begin = c in
    let text = begin.args.text.now in
    let at = begin.start-at.result in
    ap₂ (λ (end first : ℕ). take (end - first) (drop first text))
    (c.min-end.ensures ∙ ap (λ (n : ℕ). min n (length text)) c.end_from.ensures)
    c.min-first.ensures
    ∙ part_cut (at + 4) (word32 (drop at text)) text
    ∙ ap (λ (n : ℕ). take (word32 (drop n text)) (drop (n + 4) text)) begin.start-at.ensures.0
