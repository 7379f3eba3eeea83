use lib.ListN.{length, take}
use Rattle.lists.proofs.Fill.{Filled}
use Rattle.hexadecimal.specs.Hex.{bytes_of}
use Rattle.hexadecimal.proofs.put_bytes.Given as goal

abbrev pub invariant-loop-i : goal.invariant-loop-i
invariant-loop-i l = Filled (length l.initial.out) (take (length l.initial.out) (bytes_of l.text)) l.out l.i
