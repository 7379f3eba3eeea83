-- What the answers mean.
use Rattle.std.specs.Prelude.{◌≡◌, Bool, cond, List, [], ◌∷◌, ℕ, ◌+◌, min, take, drop, bytes_eq, Result, Ok, Err}
use Rattle.std.specs.Fn.{Shared, AnyResult}
use denote.Ref.{Bor}
use Rattle.vectors.specs.Fields.{places}
use Rattle.vectors.specs.declared.Verdict.{Verdict}
use Rattle.vectors.specs.declared.Verdict.TheVariants.{Agreed, Differed, Malformed}
use Rattle.vectors.specs.declared.Counts.{Counts}
use Rattle.vectors.specs.declared.MalformedAt.{MalformedAt}
use Rattle.vectors.specs.declared.MalformedAt.TheVariants.{Byte}
use Rattle.vectors.specs.declared.FileError.{FileError}

-- whether two lists are the same
abbrev pub is_same : (a b : List ℕ) → Bool
is_same a b = bytes_eq a b

-- the verdict by whether a case is sound, and whether it agrees
abbrev pub verdict_of : Bool → Bool → Verdict
verdict_of sound agrees = cond sound (cond agrees Agreed Differed) Malformed

-- the bytes that were read
abbrev pub bytes_read : Result ℕ FileError → List ℕ → List ℕ
bytes_read (Ok n) buffer = take n buffer
bytes_read (Err error) buffer = []

-- one more, as far as a word of 64 bits goes
abbrev pub one_more : ℕ → ℕ
one_more count = min (count + 1) 18446744073709551615

-- how many cases of a file agreed and how many differed, or where one is that is not whole or not of its kind
abbrev pub Report : Type 0
Report = Result Counts MalformedAt

-- a report with one case more, which starts at a byte; the first malformed case ends the count
abbrev pub counted : Report → Verdict → ℕ → Report
counted (Ok c) Agreed at = Ok (record { agreed = one_more c.agreed; differed = c.differed })
counted (Ok c) Differed at = Ok (record { agreed = c.agreed; differed = one_more c.differed })
counted (Ok c) Malformed at = Err (Byte at)
counted (Err malformed) verdict at = Err malformed

-- a closure that gives this verdict, of any text
abbrev pub Judges : {F : Type 0} (calls : Shared F (Bor (List ℕ) × Unit {0}) Verdict) (judge : F) (verdict : List ℕ → Verdict) → Type 0
Judges calls judge verdict = (text : Bor (List ℕ)) → AnyResult calls judge (text, tt) (λ v. v ≡ verdict text.now)

-- a closure that adds so
abbrev pub Adds : {F A : Type 0} (calls : Shared F (A × (Verdict × (ℕ × Unit {0}))) A) (add : F) (sum : A → Verdict → ℕ → A) → Type 0
Adds {A = A} calls add sum = (so_far : A) (verdict : Verdict) (at : ℕ) → AnyResult calls add (so_far, (verdict, (at, tt))) (λ a. a ≡ sum so_far verdict at)

-- a count over the cases at these places: `add` adds the verdict on each, which `judge` gives of the text from its place on
unfoldable pub tally : {A : Type 0} (add : A → Verdict → ℕ → A) (judge : List ℕ → Verdict) (text : List ℕ) (so_far : A) (at : List ℕ) → A
tally add judge text so_far [] = so_far
tally add judge text so_far (at ∷ rest) = tally add judge text (add so_far (judge (drop at text)) at) rest

-- the report on a text whose cases have so many fields
abbrev pub report : (judge : List ℕ → Verdict) (fields : ℕ) (text : List ℕ) → Report
report judge fields text = tally counted judge text (Ok (record { agreed = 0; differed = 0 })) (places fields text)
