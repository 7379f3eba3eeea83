use mathlib.Core.Path.{◌∙◌}
use native.Mathlib.Omega.{arith}
use lib.ListN.{drop, length-drop}
use lib.Seq.{take_all}
use Rattle.ntt.specs.Spectrum.{degree}
use Rattle.reciprocals.proofs.lower_half.Goals as goal

pub returns : goal.returns
returns c =
    let h = c.args.h.now in
    c.copy_from_slice.ensures.after ∙ take_all 1024 (drop degree h) (omega (arith, length-drop degree h, c.requires))
