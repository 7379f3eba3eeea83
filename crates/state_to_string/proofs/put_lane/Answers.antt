use mathlib.Core.Path.{ap, ◌∙◌}
use lib.ListN.{take}
use Rattle.state_to_string.proofs.LaneBytes.{lane_bytes_part}
use Rattle.state_to_string.proofs.put_lane.Goals as goal

pub returns : goal.returns
returns c =
    c.copy_from_slice.ensures.after ∙ ap (take _) c.to_le_bytes.ensures ∙ lane_bytes_part c.args.v _ c.requires
