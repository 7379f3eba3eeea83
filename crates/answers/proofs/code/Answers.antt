use mathlib.Core.Path.{ap₂}
use native.Mathlib.Omega.{arith}
use Rattle.answers.specs.Locations.{pack}
use Rattle.answers.proofs.CodeLaws.{both-fit}
use Rattle.answers.proofs.code.Goals as goal

pub overflow_mul-result : goal.overflow_mul-result
overflow_mul-result c =
    let fits = both-fit c.args.a c.number.ensures c.locate-l.ensures in
    omega (arith, fits.0, fits.1.kind_fits, fits.1.part-fits)

pub overflow_add-result : goal.overflow_add-result
overflow_add-result c =
    let fits = both-fit c.args.a c.number.ensures c.locate-l.ensures in
    omega (arith, fits.0, fits.1.kind_fits, fits.1.part-fits)

pub overflow_mul-result-2 : goal.overflow_mul-result-2
overflow_mul-result-2 c =
    let fits = both-fit c.args.a c.number.ensures c.locate-l.ensures in
    omega (arith, fits.0, fits.1.kind_fits, fits.1.part-fits)

pub overflow_add-result-2 : goal.overflow_add-result-2
overflow_add-result-2 c =
    let fits = both-fit c.args.a c.number.ensures c.locate-l.ensures in
    omega (arith, fits.0, fits.1.kind_fits, fits.1.part-fits)

pub overflow_add-result-3 : goal.overflow_add-result-3
overflow_add-result-3 c =
    let fits = both-fit c.args.a c.number.ensures c.locate-l.ensures in
    omega (arith, fits.0, fits.1.kind_fits, fits.1.part-fits)

pub returns : goal.returns
returns c = ap₂ pack c.number.ensures c.locate-l.ensures
