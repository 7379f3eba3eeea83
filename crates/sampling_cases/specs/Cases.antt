-- When the samples of a case of key making agree with its keys, and how many cases of a text do.
use Rattle.std.specs.Prelude.{Bool, false, ◌&&◌, cond, List, ℕ, eqb, ltb, length}
use Rattle.ring.specs.Ring.{n}
use Rattle.encoding.specs.Words.{element_bytes}
use Rattle.encoding.specs.Codes.{ternary_bytes}
use Rattle.sampling.specs.Noise.{noise_length, ternary_noise}
use Rattle.sampling.specs.Stream.{stream_length, taken, uniform_element}
use Rattle.records.specs.Layout.{public_key_length, secret_key_length, first_place, element_length}
use Rattle.records.specs.Records.{part, codes_part}
use Rattle.vectors.specs.declared.Verdict.{Verdict}
use Rattle.vectors.specs.declared.Verdict.TheVariants.{Agreed, Differed, Malformed}
use Rattle.vectors.specs.Fields.{word32, field, places}
use Rattle.vectors.specs.Answers.{is_same, verdict_of, one_more, tally}
use Rattle.sampling_cases.specs.declared.Counts.{Counts}

-- the stream gives the a of a public key, which stands behind the header
abbrev pub element_agrees : (stream public : List ℕ) → Bool
element_agrees stream public = is_same (element_bytes (uniform_element stream)) (part first_place element_length public)

-- the noise gives the s of a secret key, which stands behind a and b
abbrev pub noise_agrees : (noise secret : List ℕ) → Bool
noise_agrees noise secret = is_same (ternary_bytes (ternary_noise noise)) (codes_part secret)

-- both keys are whole, and the samples are theirs
abbrev pub keys_agree : (stream noise public secret : List ℕ) → Bool
keys_agree stream noise public secret =
    eqb (length public) public_key_length && eqb (length secret) secret_key_length && element_agrees stream public && noise_agrees noise secret

-- of buffers with the right lengths key making says 0 with both keys; 6, where the stream has sufficed; or 8, where it has not
abbrev pub case_agrees : (number : ℕ) (stream noise public secret : List ℕ) → Bool
case_agrees number stream noise public secret =
    cond (eqb number 0) (keys_agree stream noise public secret)
    (cond (eqb number 6) (eqb (length (taken stream)) n)
    (cond (eqb number 8) (ltb (length (taken stream)) n) false))

-- every buffer has the right length: the stream, the noise of s and of e, and both keys
abbrev pub is_fitting : List ℕ → Bool
is_fitting text =
    eqb (length (field 0 text)) stream_length
    && eqb (length (field 1 text)) noise_length
    && eqb (length (field 2 text)) noise_length
    && eqb (word32 (field 3 text)) public_key_length
    && eqb (word32 (field 4 text)) secret_key_length

-- the verdict on the case that a text starts with
unfoldable pub verdict : List ℕ → Verdict
verdict text =
    verdict_of (is_fitting text)
    (case_agrees (word32 (field 5 text)) (field 0 text) (field 1 text) (field 7 text) (field 8 text))

-- ---- a text of cases

-- the counts with one verdict more
abbrev pub added : Counts → Verdict → Counts
added c Agreed = record { agreed = one_more c.agreed; differed = c.differed; skipped = c.skipped }
added c Differed = record { agreed = c.agreed; differed = one_more c.differed; skipped = c.skipped }
added c Malformed = record { agreed = c.agreed; differed = c.differed; skipped = one_more c.skipped }

abbrev pub no_counts : Counts
no_counts = record { agreed = 0; differed = 0; skipped = 0 }

-- of all cases of a text
abbrev pub counts : List ℕ → Counts
counts text = tally (λ c v at. added c v) verdict text no_counts (places 9 text)
