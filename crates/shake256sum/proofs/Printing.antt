-- What is printed, by the length of the input.
use mathlib.Core.Path.{◌≡◌, refl}
use mathlib.Core.List.{List, []}
use Prim.Native.Nat.{ℕ, ◌≤◌, ◌<◌}
use lib.ListN.{length}
use borrow.Author.Tests.{le-leb, lt-leb}
use Rattle.shake256sum.specs.Line.{line_of, too_long, standard_output, standard_error}

pub within : (input : List ℕ) → length input ≤ 1048576 → (standard_output input ≡ line_of input) × (standard_error input ≡ [])
unfolding standard_output standard_error
within input h = rw (le-leb (length input) 1048576 h) (refl, refl)

pub above : (input : List ℕ) → 1048576 < length input → (standard_output input ≡ []) × (standard_error input ≡ too_long)
unfolding standard_output standard_error
above input h = rw (lt-leb (length input) 1048576 h) (refl, refl)
