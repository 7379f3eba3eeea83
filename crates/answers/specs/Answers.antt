-- What a call answers, and its number: document 01's, and document 02's (No. 3 to 5).
use Rattle.std.specs.Prelude.{Bool, true, false, ℕ, Result, Ok, Err}
use Rattle.answers.specs.declared.Refusal.{Refusal}
use Rattle.answers.specs.declared.Refusal.TheVariants.{WrongLength, WrongMark, WrongVersion, KeyOutOfRange, InvalidCode, NotInvertible, KeyMismatch}
use Rattle.answers.specs.declared.Refusal.TheVariants.{StreamExhausted, DecapsulationFailure, TagMismatch, EncapsulationOutOfRange, WrongCount, InverseMismatch}

-- what a call answers: it is done, or refused
abbrev pub Answer : Type 0
Answer = Result (Unit {0}) Refusal

abbrev pub Done : Answer
Done = Ok tt

-- document 01's words beside the numbers
abbrev pub refusal_number : Refusal → ℕ
-- misfit
refusal_number WrongLength = 1
-- stranger
refusal_number WrongMark = 2
-- other issue
refusal_number WrongVersion = 3
-- off the ring: of a key
refusal_number (KeyOutOfRange k) = 4
-- bad code
refusal_number InvalidCode = 5
-- no unit
refusal_number NotInvertible = 6
-- parted key
refusal_number KeyMismatch = 7
-- dry stream
refusal_number StreamExhausted = 8
-- no triple
refusal_number DecapsulationFailure = 9
-- bad tag
refusal_number TagMismatch = 10
-- off the ring: of an encapsulation or a sealed entry
refusal_number (EncapsulationOutOfRange c) = 11
-- a count of entries that is not 1 to 255 (document 02, No. 4)
refusal_number WrongCount = 12
-- a stored inverse that is not that of b (document 02, No. 5)
refusal_number InverseMismatch = 13

-- also of a call that gives a value where it is done
abbrev pub number : {A : Type 0} → Result A Refusal → ℕ
number (Ok x) = 0
number (Err r) = refusal_number r

-- a refusal where the test fails, and otherwise what follows
abbrev pub unless : {A : Type 0} → Bool → Refusal → Result A Refusal → Result A Refusal
unless true r a = a
unless false r a = Err r

-- a refusal stands, and after Done comes what follows
abbrev pub and_then : {A : Type 0} → Answer → Result A Refusal → Result A Refusal
and_then (Ok u) a = a
and_then (Err r) a = Err r

-- what a lent output holds afterwards, bytes or a number: what is new under Done, and otherwise what it held
abbrev pub on_done : {A : Type 0} (answer : Answer) (new old : A) → A
on_done (Ok u) new old = new
on_done (Err r) new old = old

-- what a call gives, and what stands in its place beside a refusal
abbrev pub given_or : {A : Type 0} (none : A) → Result A Refusal → A
given_or none (Ok x) = x
given_or none (Err r) = none
