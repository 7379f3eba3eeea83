-- What is promised of what opening with margin said and wrote, where that is what its definitions give; and of its export, which says the code.
use mathlib.Core.Path.{◌≡◌}
use mathlib.Core.List.{List}
use Prim.Native.Nat.{ℕ}
use lib.ListN.{length}
use Rattle.answers.specs.Answers.{number}
use Rattle.answers.specs.Locations.{code}
use Rattle.calls.specs.Calls.{open_answer, open_out}
use Rattle.margin_calls.specs.Calls.{open_margin_out}
use Rattle.margin_calls.specs.Promises.{OpenMarginExact}
use Rattle.margin_calls.proofs.MarginExact.{margin-exact, margin-exact-code}

pub margin_promise : (k sealed noise before : List ℕ) (lent : ℕ) {said : ℕ} {after : List ℕ} {value : ℕ}
    → said ≡ number (open_answer k sealed noise (length before)) → after ≡ open_out k sealed noise before
    → value ≡ open_margin_out k sealed noise (length before) lent → OpenMarginExact k sealed noise before lent said after value
margin_promise k sealed noise before lent es ea ev = rw (es, ea, ev) (margin-exact k sealed noise before lent)

pub margin-export : (k sealed noise before : List ℕ) (lent : ℕ) {said : ℕ} {after : List ℕ} {value : ℕ}
    → said ≡ code (open_answer k sealed noise (length before)) → after ≡ open_out k sealed noise before
    → value ≡ open_margin_out k sealed noise (length before) lent → OpenMarginExact k sealed noise before lent said after value
margin-export k sealed noise before lent es ea ev = rw (es, ea, ev) (margin-exact-code k sealed noise before lent)
