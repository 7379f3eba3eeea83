use Rattle.std.proofs.Common.{arith, ap, ◌∙◌, length}
use Rattle.reference_vectors.proofs.Agreement.{line-some}
use Rattle.reference_vectors.proofs.line_agrees.Goals as goal

pub slice_bounds-same-count : goal.slice_bounds-same-count
slice_bounds-same-count c = omega (arith, line-some c.field.result.now, ap length (c.as_bytes-line.ensures.value ∙ c.line-line.ensures))
