use mathlib.Core.Path.{ap, ap₂, ◌∙◌}
use mathlib.Core.Bool.{◌&&◌, cond, decide}
use mathlib.Core.List.{List}
use Prim.Native.Nat.{ℕ}
use lib.Dec.{eqb}
use Rattle.std.specs.Prelude.{Option, Some, None, is_some, unwrap_or, replicate}
use Rattle.ring.specs.Ring.{n}
use Rattle.ring.specs.Invertible.{is_invertible, inverse_of}
use Rattle.ring.proofs.Inverses.{found}
use Rattle.encoding.specs.Words.{element_of}
use Rattle.vectors.specs.Fields.{field}
use Rattle.vectors.specs.Answers.{is_same}
use Rattle.ring_cases.specs.Cases.{inverse_number}
use Rattle.ring_cases.proofs.inverse_agrees.Goals as goal

pub returns : goal.returns
returns c =
    let a = element_of (field 0 c.args.text.now) in
    let it = found a in
    let inverse = c.inverse_with-found.ensures ∙ ap (λ (l : List ℕ). cond (decide (is_invertible l)) (Some (inverse_of l)) None) c.element.ensures in
    let exists = c.is_some.ensures ∙ ap is_some inverse ∙ it.0 in
    let value = c.unwrap_or.ensures ∙ ap (λ (o : Option (List ℕ)). unwrap_or o (replicate n 0)) inverse ∙ it.1 in
    ap₂ ◌&&◌
    (ap₂ eqb c.number.ensures (c.inverse_number.ensures ∙ ap inverse_number exists))
    (c.same_elements.ensures ∙ ap₂ is_same value c.element-2.ensures)
