use lib.ListN.{length, take}
use Rattle.lists.proofs.Fill.{Filled}
use Rattle.hexadecimal.specs.Hex.{text_of}
use Rattle.hexadecimal.proofs.put_text.Given as goal

abbrev pub invariant-loop-i : goal.invariant-loop-i
invariant-loop-i l = Filled (length l.initial.out) (take (length l.initial.out) (text_of l.bytes)) l.out l.i
