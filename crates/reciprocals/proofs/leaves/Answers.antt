use mathlib.Core.Path.{◌∙◌, ap}
use mathlib.Core.List.{◌++◌, append-nil}
use Rattle.lists.specs.Table.{zeros}
use Rattle.ntt.specs.Spectrum.{degree}
use Rattle.reciprocals.specs.Tree.{leaves_of}
use Rattle.reciprocals.proofs.leaves.Goals as goal

pub returns : goal.returns
unfolding leaves_of
returns c = ap (λ l. zeros degree ++ l) (append-nil c.copy_from_slice.new.self ∙ c.copy_from_slice.ensures.after)
