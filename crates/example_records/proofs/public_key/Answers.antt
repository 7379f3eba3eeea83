use mathlib.Core.Path.{ap₂, ◌∙◌}
use mathlib.Core.List.{append-nil}
use Rattle.records.specs.Layout.{public_key_mark}
use Rattle.records.specs.Records.{record_bytes}
use Rattle.example_records.specs.Made.{public_key}
use Rattle.example_records.proofs.public_key.Goals as goal

pub returns : goal.returns
unfolding public_key
returns c =
    let second = c in
    c.write_record.ensures ∙ append-nil _ ∙ ap₂ (record_bytes public_key_mark 1) second.constant.ensures second.constant-2.ensures
