use mathlib.Core.Path.{ap₂, ◌∙◌}
use mathlib.Core.List.{◌++◌}
use Rattle.records.specs.Layout.{secret_key_mark}
use Rattle.records.specs.Records.{record_bytes}
use Rattle.example_records.specs.Made.{secret_key}
use Rattle.example_records.proofs.Behind.{drop-zeros}
use Rattle.example_records.proofs.secret_key.Goals as goal

pub returns : goal.returns
unfolding secret_key
returns c =
    let second = c in
    c.write_record.ensures ∙ ap₂ ◌++◌ (ap₂ (record_bytes secret_key_mark 1) second.constant.ensures second.constant-2.ensures) (drop-zeros 4101 256)
