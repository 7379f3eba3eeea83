use mathlib.Core.Path.{◌∙◌}
use mathlib.Core.List.{List}
use Prim.Native.Nat.{ℕ}
use lib.ListN.{length}
use Rattle.calls.specs.Calls.{seal_answer, seal_out}
use Rattle.seal_entry_output.proofs.Printing.{of_parts}
use Rattle.seal_entry_output.proofs.seal_parts.Goals as goal

pub returns : goal.returns
returns c =
    let called = c in
    let args = called.args in
    let input = args.input.now in
    let sealed = args.sealed.now in
    let answered = called.seal.ensures.value in
    let written = called.seal.ensures.out_after in record { value = answered ∙ of_parts (λ (key noise entry : List ℕ). seal_answer key noise entry (length sealed)) input; sealed_after = written ∙ of_parts (λ (key noise entry : List ℕ). seal_out key noise entry sealed) input }
