use mathlib.Core.Path.{◌∙◌}
use Rattle.sampling_cases.specs.Cases.{verdict}
use Rattle.sampling_cases.proofs.judge.Goals as goal

pub returns : goal.returns
unfolding verdict
returns c =
    let fits = c in
    let secret = fits in
    let public = secret in
    let noise = public in
    c.judged.ensures
    ∙ rw (
      fits.fitting.ensures,
      c.agrees.ensures,
      c.number.ensures,
      noise.field-stream.ensures,
      noise.field-noise.ensures,
      public.field-public.ensures,
      secret.field-secret.ensures,
    )
