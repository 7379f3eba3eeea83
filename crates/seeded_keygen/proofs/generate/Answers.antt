use mathlib.Core.Path.{sym, ap, ◌∙◌}
use lib.ListN.{length}
use Rattle.std.proofs.Common.{rules}
use Rattle.seeds.proofs.SeedStream.{length-seed_stream}
use Rattle.seeded_keygen.proofs.generate.Goals as goal

pub slice_bounds-generate-end : goal.slice_bounds-generate-end
slice_bounds-generate-end c = sym (ap length c.stream-stream.ensures ∙ length-seed_stream _)

pub returns : goal.returns
returns c = search rules
