use mathlib.Core.Path.{ap, ◌∙◌}
use Prim.Native.Nat.{ℕ}
use Rattle.algebra.specs.Numbers.{scale}
use Rattle.modq.specs.Montgomery.{from_montgomery}
use Rattle.ntt.specs.Spectrum.{q, degree}
use Rattle.ntt.proofs.Factors.{scale_of_form}
use Rattle.ntt.proofs.multiple.Goals as goal

pub returns : goal.returns
returns c =
    let args = c.args in
    c.scaled.ensures ∙ ap (λ (w : ℕ). scale q degree (from_montgomery w) args.a) c.montgomery_form.ensures ∙ scale_of_form args.c args.a
