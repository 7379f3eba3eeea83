use mathlib.Core.Path.{ap₂, ◌∙◌}
use Rattle.records.specs.Records.{encapsulation_bytes}
use Rattle.example_records.specs.Made.{encapsulation}
use Rattle.example_records.proofs.encapsulation.Goals as goal

pub returns : goal.returns
unfolding encapsulation
returns c =
    let second = c in
    c.write_encapsulation.ensures ∙ ap₂ encapsulation_bytes second.constant.ensures second.constant-2.ensures
