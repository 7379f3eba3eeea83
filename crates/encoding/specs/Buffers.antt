-- What a buffer holds after bytes were written to it.
use Rattle.std.specs.Prelude.{cond, List, ◌++◌, ℕ, leb, length, drop}

-- `new` at the front of a buffer that held `old`, and the rest as it came; all as it came where the buffer is too short
unfoldable pub put_front : (new old : List ℕ) → List ℕ
put_front new old = cond (leb (length new) (length old)) (new ++ drop (length new) old) old
