use mathlib.Core.Path.{sym, ap}
use mathlib.Core.Bool.{Bool}
use Rattle.answers.specs.Answers.{unless, Done}
use Rattle.answers.proofs.unless.Goals as goal

pub returns-then-passes : goal.returns-then-passes
returns-then-passes c =
    sym (ap (λ (b : Bool). unless b c.args.refusal Done) c.if-passes.true)

pub returns : goal.returns
returns c =
    sym (ap (λ (b : Bool). unless b c.args.refusal Done) c.if-passes.false)
