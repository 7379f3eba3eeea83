-- When a batch is well formed: its own checks pass.
use Rattle.std.specs.Prelude.{◌≡◌, List, ℕ, ◌≤◌, length}
use Rattle.records.specs.Layout.{sealed_entry_mark}
use Rattle.records.specs.WellFormed.{WellFormedFront}
use Rattle.batch_records.specs.Batches.{count_of, batch_length, most_entries}

-- a count of entries that fits
abbrev pub Count : (m : ℕ) → Type 0
Count m = (1 ≤ m) × (m ≤ most_entries)

pub record WellFormedBatch (batch : List ℕ) : Type 0 where
  pub front : WellFormedFront sealed_entry_mark 2 batch
  pub count : Count (count_of batch)
  pub size : length batch ≡ batch_length (count_of batch)
