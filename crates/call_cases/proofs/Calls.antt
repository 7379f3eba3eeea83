-- What a call does.
use mathlib.Core.Path.{◌≡◌, sym, subst}
use mathlib.Core.List.{List}
use Prim.Native.Nat.{ℕ}
use lib.ListN.{length}
use Rattle.call_cases.specs.declared.Call.{Call}
use Rattle.call_cases.specs.CallCases.{call_answer, call_out}
use Rattle.answers.specs.Answers.{Answer}

-- what a call does, known to be k
pub called : (k : Call) (x y z out : List ℕ) {call : Call} {after : List ℕ} {answer : Answer} → call ≡ k
    → (answer ≡ call_answer k x y z (length out)) × (after ≡ call_out k x y z out)
    → (answer ≡ call_answer call x y z (length out)) × (after ≡ call_out call x y z out)
called k x y z out {after = after} {answer = answer} e h =
    subst (λ (c : Call). (answer ≡ call_answer c x y z (length out)) × (after ≡ call_out c x y z out)) (sym e) h
