-- What an opening answers and gives by a key, an encapsulation, and a dummy that were read.
use Rattle.std.specs.Prelude.{List, ℕ, ℤ}
use Rattle.lists.specs.Table.{zeros}
use Rattle.ntt.specs.Spectrum.{coefficients_of}
use Rattle.ring.specs.Ring.{n}
use Rattle.ring.specs.Centred.{quotients}
use Rattle.scheme.specs.Scheme.{Triple, Outcome, found, failed, decapsulation, step2}
use Rattle.scheme.specs.Answers as Struct
use Rattle.scheme.specs.declared.Triple as Declared
use Rattle.scheme.specs.declared.Encapsulation.{Encapsulation}
use Rattle.scheme.specs.declared.SecretKey.{SecretKey}
use Rattle.derivation.specs.Derivation.{key0}
use Rattle.answers.specs.Answers.{and_then, Answer}
use Rattle.calls.specs.Calls.{outcome_answer, opened_answer}
use Rattle.recovery.specs.declared.Recovered.{Recovered}

abbrev pub as_triple : Declared.Triple → Triple
as_triple t = Struct.triple_of t

-- .. and back
abbrev pub with_parts : Triple → Declared.Triple
with_parts t = record { r = t.r; e1 = t.e1; e2 = t.e2 }

-- the triple of an outcome; zeros where there is none
abbrev pub answered : Outcome → Triple
answered (found t) = t
answered failed = record { r = zeros n; e1 = zeros n; e2 = zeros n }

-- ---- by a key that was read, of an encapsulation that was read

-- what is found; the key is given by its spectra
abbrev pub outcome_by : (key : SecretKey) (dummy : Declared.Triple) (c : Encapsulation) → Outcome
outcome_by key dummy c =
    decapsulation (coefficients_of key.a) (coefficients_of key.b) (coefficients_of key.inverse) (coefficients_of key.s) (as_triple dummy) c.c1 c.c2

-- w of step 3 beside it
abbrev pub quotients_by : (key : SecretKey) (dummy : Declared.Triple) (c : Encapsulation) → List ℤ
quotients_by key dummy c = quotients (step2 (coefficients_of key.a) (coefficients_of key.b) (coefficients_of key.s) (as_triple dummy) c.c1 c.c2)

-- 9 behind the answers to key, encapsulation and dummy
abbrev pub decapsulated_by : (key encapsulation dummy : Answer) (o : Outcome) → Answer
decapsulated_by key encapsulation dummy o = and_then key (and_then encapsulation (and_then dummy (outcome_answer o)))

-- 9 and 10 behind the answers to key and sealed entry or batch, whose tag is that of `blocks`
abbrev pub opened_by : (key sealed : Answer) (o : Outcome) (blocks tag : List ℕ) → Answer
opened_by key sealed o blocks tag = and_then key (and_then sealed (opened_answer o blocks tag))

-- K0 of a triple
abbrev pub triple_key0 : Triple → List ℕ
triple_key0 t = key0 t.r t.e1 t.e2

-- what is answered of an outcome, K0 of its triple and w
abbrev pub recovered_with : (o : Outcome) (blocks tag : List ℕ) (w : List ℤ) → Recovered
recovered_with o blocks tag w = record { answer = opened_answer o blocks tag; k0 = triple_key0 (answered o); quotients = w }

-- .. on every path: where no triple was found, and where the tag is not that of `blocks`
abbrev pub recovered_by : (key : SecretKey) (dummy : Declared.Triple) (c : Encapsulation) (blocks tag : List ℕ) → Recovered
recovered_by key dummy c blocks tag = recovered_with (outcome_by key dummy c) blocks tag (quotients_by key dummy c)
