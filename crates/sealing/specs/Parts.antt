-- An encapsulation to a public key, and one by a triple from noise, with that triple.
use Rattle.std.specs.Prelude.{List, ℕ}
use Rattle.scheme.specs.Scheme.{Triple, masked}
use Rattle.scheme.specs.declared.Encapsulation.{Encapsulation}
use Rattle.public_keys.specs.PublicKeys.{public_a, public_b}
use Rattle.keys.specs.Keys.{noise_triple}
use Rattle.sealing.specs.declared.Prepared.{Prepared}

-- c1 = a × r + e1 and c2 = b × r + e2
abbrev pub encapsulation : (a b : List ℕ) (t : Triple) → Encapsulation
encapsulation a b t = record { c1 = masked a t.r t.e1; c2 = masked b t.r t.e2 }

abbrev pub prepared_with : (a b : List ℕ) (t : Triple) → Prepared
prepared_with a b t = record { c = encapsulation a b t; triple = record { r = t.r; e1 = t.e1; e2 = t.e2 } }

abbrev pub prepared : (key noise : List ℕ) → Prepared
prepared k noise = prepared_with (public_a k) (public_b k) (noise_triple noise)
