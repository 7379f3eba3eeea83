-- When what a call with one output does agrees with what a case tells. The fields of a case are the inputs, with the length of the output
-- last, the number, the location, and the output.
use Rattle.std.specs.Prelude.{Bool, List, ℕ, ◌+◌, length}
use Rattle.shake.specs.Shake.{shake128, shake256}
use Rattle.calls.specs.Calls.{encapsulate_answer, encapsulate_out, decapsulate_answer, decapsulate_out, seal_answer, seal_out, open_answer, open_out}
use Rattle.batch_calls.specs.Calls.{seal_batch_answer, seal_batch_out}
use Rattle.conversion_calls.specs.Calls.{expand_answer, expand_out, compact_answer, compact_out}
use Rattle.vectors.specs.Fields.{word32, field}
use Rattle.case_outputs.specs.Outputs.{answer_agrees}
use Rattle.call_cases.specs.declared.Call.{Call}
use Rattle.call_cases.specs.declared.Call.TheVariants.{Encapsulate, Decapsulate, Seal, Open, SealBatch}
use Rattle.call_cases.specs.declared.Call.TheVariants.{ExpandSecretKey, CompactSecretKey, Shake128, Shake256}
use Rattle.answers.specs.Answers.{Answer, Done}

-- ---- calls with one output, by their inputs x, y and z, of which a call takes as many as it has

abbrev pub call_answer : (call : Call) (x y z : List ℕ) (size : ℕ) → Answer
call_answer Encapsulate x y z size = encapsulate_answer x y size
call_answer Decapsulate x y z size = decapsulate_answer x y z size
call_answer Seal x y z size = seal_answer x y z size
call_answer Open x y z size = open_answer x y z size
call_answer SealBatch x y z size = seal_batch_answer x y z size
call_answer ExpandSecretKey x y z size = expand_answer x size
call_answer CompactSecretKey x y z size = compact_answer x size
call_answer Shake128 x y z size = Done
call_answer Shake256 x y z size = Done

abbrev pub call_out : (call : Call) (x y z out : List ℕ) → List ℕ
call_out Encapsulate x y z out = encapsulate_out x y out
call_out Decapsulate x y z out = decapsulate_out x y z out
call_out Seal x y z out = seal_out x y z out
call_out Open x y z out = open_out x y z out
call_out SealBatch x y z out = seal_batch_out x y z out
call_out ExpandSecretKey x y z out = expand_out x out
call_out CompactSecretKey x y z out = compact_out x out
call_out Shake128 x y z out = shake128 x (length out)
call_out Shake256 x y z out = shake256 x (length out)

-- the field with the output's length; number, location and output follow it
abbrev pub size_field : Call → ℕ
size_field Encapsulate = 2
size_field Decapsulate = 3
size_field Seal = 3
size_field Open = 3
size_field SealBatch = 3
size_field ExpandSecretKey = 1
size_field CompactSecretKey = 1
size_field Shake128 = 1
size_field Shake256 = 1

-- ---- cases

-- the output after the call, where it holds `out` before it
unfoldable pub out_after : (call : Call) (text out : List ℕ) → List ℕ
out_after call text out = call_out call (field 0 text) (field 1 text) (field 2 text) out

unfoldable pub call_agrees : (call : Call) (text out : List ℕ) → Bool
call_agrees call text out =
    answer_agrees (call_answer call (field 0 text) (field 1 text) (field 2 text) (length out)) (word32 (field (size_field call + 1) text))
    (field (size_field call + 2) text) (field (size_field call + 3) text) (out_after call text out)
