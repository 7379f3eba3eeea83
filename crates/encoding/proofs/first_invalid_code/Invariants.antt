use mathlib.Core.Path.{◌≡◌}
use Prim.Native.Nat.{◌+◌, ◌*◌, ◌≤◌}
use lib.ListN.{length, drop}
use Rattle.std.specs.Slice.Iter.{iter_rest}
use Rattle.std.specs.Iterator.Adapters.{take_source, take_count, enumerate_source, enumerate_count}
use Rattle.encoding.proofs.Codes.{ValidTo}
use Rattle.encoding.proofs.first_invalid_code.Given as goal

abbrev pub invariant-loop-i : goal.invariant-loop-i
invariant-loop-i l =
    (enumerate_count l.i-iterator + take_count (enumerate_source l.i-iterator) ≡ 256)
    × (iter_rest (take_source (enumerate_source l.i-iterator)) ≡ drop (enumerate_count l.i-iterator) l.bytes)
    × (enumerate_count l.i-iterator ≤ length l.bytes)
    × ValidTo 256 l.bytes (4 * enumerate_count l.i-iterator)
