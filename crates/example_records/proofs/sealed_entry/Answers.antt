use mathlib.Core.Path.{ap₂, ◌∙◌}
use mathlib.Core.List.{◌++◌}
use Rattle.records.specs.Layout.{sealed_entry_mark}
use Rattle.records.specs.Records.{record_bytes}
use Rattle.example_records.specs.Made.{sealed_entry}
use Rattle.example_records.proofs.Behind.{drop-zeros}
use Rattle.example_records.proofs.sealed_entry.Goals as goal

pub returns : goal.returns
unfolding sealed_entry
returns c =
    let second = c in
    c.write_record.ensures ∙ ap₂ ◌++◌ (ap₂ (record_bytes sealed_entry_mark 1) second.constant.ensures second.constant-2.ensures) (drop-zeros 4101 32)
