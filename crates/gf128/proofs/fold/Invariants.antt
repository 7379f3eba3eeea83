use mathlib.Core.Path.{◌≡◌}
use Prim.Native.Nat.{◌*◌, ◌≤◌}
use lib.ListN.{length, drop}
use Rattle.std.specs.Slice.Iter.{chunks_exact_rest, chunks_exact_size}
use Rattle.gf128.specs.Bytes.{number, bytes, folded}
use Rattle.gf128.specs.Words.{value}
use Rattle.gf128.proofs.fold.Given as goal

abbrev pub invariant-loop-block : goal.invariant-loop-block
invariant-loop-block l =
    (chunks_exact_size l.block-iterator ≡ 16)
    × (chunks_exact_rest l.block-iterator ≡ drop (16 * length l.yielded) l.blocks)
    × (16 * length l.yielded ≤ length l.blocks)
    × (value l.r ≡ number (folded (bytes 16 (value l.k)) (bytes 16 (value l.initial.r)) (length l.yielded) l.blocks))
