-- What the functions of src/lib.rt give, in the words of specs/Scheme.
use Rattle.std.specs.Prelude.{List, ℕ, ℤ, Option, Some, None}
use Rattle.std.specs.Bool.{then_some}
use Rattle.std.proofs.Math.Bool.{decide}
use Rattle.ntt.specs.Spectrum.{spectrum_of}
use Rattle.ring.specs.Invertible.{is_invertible}
use Rattle.scheme.specs.Scheme.{Triple, Outcome, found, failed}
use Rattle.scheme.specs.declared.Triple as Struct
use Rattle.scheme.specs.declared.PublicKey.{PublicKey}
use Rattle.scheme.specs.declared.Decapsulation.{Decapsulation}

abbrev pub triple_of : Struct.Triple → Triple
triple_of t = record { r = t.r; e1 = t.e1; e2 = t.e2 }

-- what a key is, where its b has an inverse
abbrev pub if_invertible : {A : Type 0} (b : List ℕ) (key : A) → Option A
if_invertible b key = then_some (decide (is_invertible b)) key

abbrev pub public_key : (a b : List ℕ) → PublicKey
public_key a b = record { a = spectrum_of a; b = spectrum_of b }

-- the quotients w of step 3 stand beside either
abbrev pub answer : Outcome → (w : List ℤ) → Decapsulation
answer (found t) w = record { triple = Some (record { r = t.r; e1 = t.e1; e2 = t.e2 }); quotients = w }
answer failed w = record { triple = None; quotients = w }
