-- The promises of what a conversion said and wrote, where that is what its definition gives; and of an export, which says the code.
use mathlib.Core.Path.{◌≡◌}
use mathlib.Core.Logic.Iff
use mathlib.Core.Logic.{◌↔◌}
use mathlib.Core.List.{List}
use Prim.Native.Nat.{ℕ}
use lib.ListN.{length}
use Rattle.answers.specs.Answers.{number, Answer}
use Rattle.answers.specs.Locations.{code}
use Rattle.answers.proofs.AnswerLaws.{number-done}
use Rattle.answers.proofs.CodeLaws.{code-done}
use Rattle.conversion_calls.specs.Calls.{expand_answer, expand_out, compact_answer, compact_out}
use Rattle.conversion_calls.specs.Promises.{ExpandExact, CompactExact}
use Rattle.conversion_calls.proofs.ConvertExact.{expand-exact_of, compact-exact_of}

-- ---- the number

pub expand_promise : (k before : List ℕ) {n : ℕ} {after : List ℕ} → n ≡ number (expand_answer k (length before)) → after ≡ expand_out k before → ExpandExact k before n after
expand_promise k before en ea = rw (en, ea) (expand-exact_of k before Iff.rfl)

pub compact_promise : (k before : List ℕ) {n : ℕ} {after : List ℕ} → n ≡ number (compact_answer k (length before)) → after ≡ compact_out k before → CompactExact k before n after
compact_promise k before en ea = rw (en, ea) (compact-exact_of k before Iff.rfl)

-- ---- the code

coded : (a : Answer) → (code a ≡ 0) ↔ (number a ≡ 0)
coded a = Iff.trans (code-done a) (Iff.symm (number-done a))

pub expand-export : (k before : List ℕ) {n : ℕ} {after : List ℕ} → n ≡ code (expand_answer k (length before)) → after ≡ expand_out k before → ExpandExact k before n after
expand-export k before en ea = rw (en, ea) (expand-exact_of k before (coded (expand_answer k (length before))))

pub compact-export : (k before : List ℕ) {n : ℕ} {after : List ℕ} → n ≡ code (compact_answer k (length before)) → after ≡ compact_out k before → CompactExact k before n after
compact-export k before en ea = rw (en, ea) (compact-exact_of k before (coded (compact_answer k (length before))))
