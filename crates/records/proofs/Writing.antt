-- What is written: how long it is, and of what.
use mathlib.Core.Path.{◌≡◌, ap, ◌∙◌}
use mathlib.Core.List.{List, ◌++◌}
use Prim.Native.Nat.{ℕ}
use native.Mathlib.Omega.{arith}
use lib.ListN.{length, length-append}
use Rattle.encoding.specs.Header.{header}
use Rattle.encoding.specs.Words.{element_bytes}
use Rattle.encoding.proofs.Words.{length-element_bytes}
use Rattle.encoding.proofs.Headers.{length_header_lem}
use Rattle.records.specs.Layout.{third_place}
use Rattle.records.specs.Records.{record_bytes}

pub length-record_bytes : (mark : List ℕ) (version : ℕ) (first second : List ℕ) → length (record_bytes mark version first second) ≡ third_place
unfolding record_bytes
length-record_bytes mark version first second =
    let h = header mark version in
    let x = element_bytes first in
    let y = element_bytes second in
    omega (arith, length-append (h ++ x) y, length-append h x, length_header_lem mark version, length-element_bytes first, length-element_bytes second)

-- an argument is compared by itself, so that a wrong one is seen at once
pub argument_is : {B : Type 0} (f : List ℕ → B) (given meant : List ℕ) {out : B} → out ≡ f given → given ≡ meant → out ≡ f meant
argument_is f given meant written same = written ∙ ap f same
