-- Demand 3 of what a call said and wrote, where that is what its definition gives; and of an export, which says the code.
use mathlib.Core.Path.{◌≡◌}
use mathlib.Core.List.{List}
use Prim.Native.Nat.{ℕ}
use lib.ListN.{length}
use Rattle.answers.specs.Answers.{number}
use Rattle.answers.specs.Locations.{code}
use Rattle.calls.specs.Calls.{check_answer, decapsulate_answer, decapsulate_out, open_answer, open_out}
use Rattle.calls.specs.Promises.{CheckExact, DecapsulateExact, OpenExact}
use Rattle.calls.proofs.CheckExact.{check-exact, check-exact-code}
use Rattle.calls.proofs.DecapsulateExact.{decapsulate-exact, decapsulate-exact-code}
use Rattle.calls.proofs.OpenExact.{open-exact, open-exact-code}

-- ---- the number

pub check_promise : (k : List ℕ) {n : ℕ} → n ≡ number (check_answer k) → CheckExact k n
check_promise k e = rw e (check-exact k)

pub decapsulate_promise : (k c d before : List ℕ) {n : ℕ} {after : List ℕ} → n ≡ number (decapsulate_answer k c d (length before))
    → after ≡ decapsulate_out k c d before → DecapsulateExact k c d before n after
decapsulate_promise k c d before en ea = rw (en, ea) (decapsulate-exact k c d before)

pub open_promise : (k e noise before : List ℕ) {n : ℕ} {after : List ℕ} → n ≡ number (open_answer k e noise (length before))
    → after ≡ open_out k e noise before → OpenExact k e noise before n after
open_promise k e noise before en ea = rw (en, ea) (open-exact k e noise before)

-- ---- the code

pub check-export : (k : List ℕ) {n : ℕ} → n ≡ code (check_answer k) → CheckExact k n
check-export k e = rw e (check-exact-code k)

pub decapsulate-export : (k c d before : List ℕ) {n : ℕ} {after : List ℕ} → n ≡ code (decapsulate_answer k c d (length before))
    → after ≡ decapsulate_out k c d before → DecapsulateExact k c d before n after
decapsulate-export k c d before en ea = rw (en, ea) (decapsulate-exact-code k c d before)

pub open-export : (k e noise before : List ℕ) {n : ℕ} {after : List ℕ} → n ≡ code (open_answer k e noise (length before))
    → after ≡ open_out k e noise before → OpenExact k e noise before n after
open-export k e noise before en ea = rw (en, ea) (open-exact-code k e noise before)
