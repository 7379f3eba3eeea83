-- Demand 3 of what opening a batch said and wrote, where that is what its definition gives; and of its export, which says the code.
use mathlib.Core.Path.{◌≡◌}
use mathlib.Core.List.{List}
use Prim.Native.Nat.{ℕ}
use lib.ListN.{length}
use Rattle.answers.specs.Answers.{number}
use Rattle.answers.specs.Locations.{code}
use Rattle.batch_calls.specs.Calls.{open_batch_answer, open_batch_out, open_batch_count}
use Rattle.batch_calls.specs.Promises.{OpenBatchExact}
use Rattle.batch_calls.proofs.BatchExact.{open-batch-exact, open-batch-exact-code}

pub open-batch_promise : (k batch noise before : List ℕ) (lent : ℕ) {said : ℕ} {after : List ℕ} {value : ℕ}
    → said ≡ number (open_batch_answer k batch noise (length before)) → after ≡ open_batch_out k batch noise before
    → value ≡ open_batch_count k batch noise (length before) lent → OpenBatchExact k batch noise before lent said after value
open-batch_promise k batch noise before lent es ea ev = rw (es, ea, ev) (open-batch-exact k batch noise before lent)

pub open-batch-export : (k batch noise before : List ℕ) (lent : ℕ) {said : ℕ} {after : List ℕ} {value : ℕ}
    → said ≡ code (open_batch_answer k batch noise (length before)) → after ≡ open_batch_out k batch noise before
    → value ≡ open_batch_count k batch noise (length before) lent → OpenBatchExact k batch noise before lent said after value
open-batch-export k batch noise before lent es ea ev = rw (es, ea, ev) (open-batch-exact-code k batch noise before lent)
