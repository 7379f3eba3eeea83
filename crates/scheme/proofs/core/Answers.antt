use mathlib.Core.Path.{ap, ap₂, ◌∙◌}
use mathlib.Core.List.{List}
use lib.IntN.{ℤ}
use Rattle.exactness.specs.Scheme as AnySetting
use Rattle.ntt.specs.Spectrum.{coefficients_of}
use Rattle.ring.specs.Centred.{remainders, quotients}
use Rattle.scheme.specs.Scheme.{Triple, recovered, judged}
use Rattle.scheme.specs.Answers.{triple_of, answer}
use Rattle.scheme.proofs.core.Goals as goal

pub returns : goal.returns
unfolding AnySetting.core
returns c =
    let divided = c in
    let args = divided.args in
    let parts = divided.divide_by_5-d.ensures.remainders_value in
    let m = divided.phase.ensures in
    let e2 = parts.0 ∙ ap remainders m in
    let w = parts.1 ∙ ap quotients m in
    c.judge.ensures
    ∙ ap₂ (λ (t : Triple) (w : List ℤ). answer (judged (triple_of args.dummy) t) w)
    (c.recover-t.ensures
    ∙ ap (recovered (coefficients_of args.a) (coefficients_of args.inverse) (coefficients_of args.sums.first) (coefficients_of args.sums.second)) e2)
    w
