-- The functions under test, and the rule of their Monte files.
use Rattle.std.specs.Prelude.{List, ◌++◌, ℕ, zero, suc, ◌+◌, ◌-◌, ◌*◌, ◌%◌, length, get_or, take, replicate}
use Rattle.shake.specs.Shake.{shake128, shake256}
use Rattle.monte_chain.specs.declared.Function.{Function}
use Rattle.monte_chain.specs.declared.Function.TheVariants.{Shake128, Shake256}
use Rattle.monte_chain.specs.declared.Chain.{Chain}

-- the output of so many bytes that a message gives
abbrev pub output_of : (function : Function) (message : List ℕ) (size : ℕ) → List ℕ
output_of Shake128 message size = shake128 message size
output_of Shake256 message size = shake256 message size

-- the least number of bytes that a turn puts out
abbrev pub least_size : Function → ℕ
least_size Shake128 = 16
least_size Shake256 = 2

-- the greatest number of bytes that a turn puts out
abbrev pub greatest_size : Function → ℕ
greatest_size Shake128 = 140
greatest_size Shake256 = 250

-- how many bytes a turn puts out, from the number that the last output ends with
abbrev pub output_size : (function : Function) (extra : ℕ) → ℕ
output_size function extra = least_size function + extra % (greatest_size function - least_size function + 1)

-- the message that follows an output: its first 16 bytes, filled with zeros if it is shorter
unfoldable pub message_of : List ℕ → List ℕ
message_of output = take 16 (output ++ replicate 16 0)

-- what the next turn starts from: the message, and the output's last two bytes, read big-endian
unfoldable pub chain_of : List ℕ → Chain
chain_of output =
    record {
      message = message_of output;
      extra = 256 * get_or output (length output - 2) 0 + get_or output (length output - 1) 0;
    }

-- one turn
unfoldable pub turned : (function : Function) (chain : Chain) → Chain
turned function chain = chain_of (output_of function chain.message (output_size function chain.extra))

unfoldable pub turns : (function : Function) (n : ℕ) (chain : Chain) → Chain
turns function zero chain = chain
turns function (suc n) chain = turned function (turns function n chain)
