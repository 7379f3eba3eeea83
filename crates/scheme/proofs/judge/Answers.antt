use mathlib.Core.Path.{ap, ap₂, ◌∙◌}
use mathlib.Core.Bool.{◌&&◌}
use Rattle.std.proofs.Common.{rules}
use Rattle.scheme.specs.Scheme.{is_ternary}
use Rattle.scheme.specs.Answers.{triple_of}
use Rattle.scheme.proofs.Steps.{judged-answer}
use Rattle.scheme.proofs.judge.Goals as goal

pub returns : goal.returns
returns c =
    let u = c.subtract_dummy-u.ensures in
    let made = judged-answer (triple_of c.args.dummy) (triple_of c.args.t) c.subtract_dummy-u.result c.args.w u
    (ap₂ ◌&&◌ c.recovers-recovered.ensures (c.is_ternary-ternary.ensures ∙ ap is_ternary u)) in
    search (rules, made)
