-- Key generation, from a stream and from a seed: the key check and the public check accept what it writes.
use mathlib.Core.Path.{◌≡◌, refl, sym, ap, ◌∙◌}
use mathlib.Core.Bool.{true, false}
use mathlib.Core.Logic.{inl, inr}
use mathlib.Core.List.{List, [], ◌++◌, append-nil}
use Prim.Native.Nat.{ℕ}
use lib.ListN.{length}
use native.Mathlib.Omega.{arith}
use borrow.Author.Tests.{eq-eqb, ne_eqb}
use Rattle.exactness.proofs.Elements.{key_element-element}
use Rattle.ring.specs.Ring.{n, Element, Invertible}
use Rattle.scheme.specs.Scheme.{setting}
use Rattle.scheme.proofs.Givens.{givens}
use Rattle.encoding.specs.Codes.{ternary_of, ternary_bytes}
use Rattle.encoding.proofs.Codes.{length-ternary_bytes, ternary_bytes_valid}
use Rattle.encoding.proofs.RoundTrips.{ternary_of-bytes}
use Rattle.sampling.specs.Noise.{ternary_noise}
use Rattle.sampling.specs.Stream.{taken, uniform_element}
use Rattle.sampling.proofs.NoiseLaws.{ternary_noise-ternary}
use Rattle.sampling.proofs.Streams.{uniform_element_lem}
use Rattle.answers.specs.Answers.{number, Done}
use Rattle.records.specs.Records.{first_of, second_of, codes_part, secret_of, record_bytes, seed_of, seeded_b}
use Rattle.seeds.specs.Seeds.{seed_stream, seed_element}
use Rattle.public_keys.specs.PublicKeys.{is_seeded_key, public_answer}
use Rattle.keys.specs.Keys.{keygen_b}
use Rattle.calls.specs.Calls.{keygen_answer, new_public_key, new_secret_key, keygen_public, keygen_secret}
use Rattle.calls.specs.Calls.{seeded_keygen_answer, new_seeded_key, seeded_keygen_public, seeded_keygen_secret}
use Rattle.records.specs.WellFormed.{WellFormedFront, WellFormedSeededKey, WellFormedKey}
use Rattle.calls.specs.Promises.{Accepted, PublicOf}
use Rattle.secret_keys.specs.WellFormed.{Matches}
use Rattle.answers.proofs.AnswerLaws.{number-done, on_done_lem}
use Rattle.records.specs.Layout.{public_key_mark, secret_key_mark, public_key_length, seed_length, seeded_key_length}
use Rattle.records.proofs.Writing.{length-record_bytes}
use Rattle.records.proofs.WrittenRecords.{length_both, part_end, record-first, record-second, record_well-formed, seeded_seed, seeded_well-formed}
use Rattle.records.proofs.WrittenRecords.{seeded_b_lem as written-b}
use Rattle.public_keys.proofs.EitherKind.{seeded-a, seeded_b_lem, long-a, long-b}
use Rattle.calls.proofs.WhenDone.{keygen-done, seeded-keygen-done}
use Rattle.calls.proofs.CheckExact.{accepted_iff}
use Rattle.calls.proofs.Encapsulations.{public-accepted}

module _ (stream s e : List ℕ) where
  abbrev a : List ℕ
  a = uniform_element stream

  abbrev b : List ℕ
  b = keygen_b stream s e

  a-element : Element a
  a-element = uniform_element_lem stream

  b-element : Element b
  unfolding keygen_b
  b-element = key_element-element setting givens a (ternary_noise s) (ternary_noise e)

  abbrev codes : List ℕ
  codes = ternary_bytes (ternary_noise s)

  -- ---- the parts of the secret key

  abbrev k : List ℕ
  k = new_secret_key stream s e

  secret-first : first_of k ≡ a
  unfolding new_secret_key
  secret-first = record-first secret_key_mark 1 a b codes a-element

  secret-second : second_of k ≡ b
  unfolding new_secret_key
  secret-second = record-second secret_key_mark 1 a b codes b-element

  secret-codes : codes_part k ≡ codes
  unfolding new_secret_key
  secret-codes = part_end (record_bytes secret_key_mark 1 a b) codes (length-record_bytes secret_key_mark 1 a b) (length-ternary_bytes (ternary_noise s))

  secret-front : WellFormedFront secret_key_mark 1 k
  unfolding new_secret_key
  secret-front = record_well-formed secret_key_mark 1 a b codes (omega arith) a-element b-element

  secret-size : length k ≡ 4357
  unfolding new_secret_key
  secret-size = length_both (record_bytes secret_key_mark 1 a b) codes (length-record_bytes secret_key_mark 1 a b) (length-ternary_bytes (ternary_noise s))

  secret_well-formed : WellFormedKey k
  secret_well-formed = record { size = secret-size; front = secret-front; codes = rw secret-codes (ternary_bytes_valid (ternary_noise s)) }

  -- b = 5 (a × s + e), by the e of the noise
  secret-matches : Matches k
  unfolding keygen_b
  secret-matches =
      let is-s : secret_of k ≡ ternary_noise s = ap ternary_of secret-codes ∙ ternary_of-bytes (ternary_noise s) (ternary_noise-ternary s) in
      (ternary_noise e, ternary_noise-ternary e, rw (secret-first, secret-second, is-s) refl)

  secret-accepted : Invertible b → Accepted k
  secret-accepted unit = (accepted_iff k).1 (false, secret_well-formed, rw secret-second unit, secret-matches)

  -- ---- the parts of the public key

  abbrev p : List ℕ
  p = new_public_key stream s e

  behind-front : p ≡ record_bytes public_key_mark 1 a b ++ []
  unfolding new_public_key
  behind-front = sym (append-nil (record_bytes public_key_mark 1 a b))

  public-size : length p ≡ public_key_length
  unfolding new_public_key
  public-size = length-record_bytes public_key_mark 1 a b

  public_of : PublicOf p k
  public_of =
      let front = record_well-formed public_key_mark 1 a b [] (omega arith) a-element b-element in
      let kind : is_seeded_key p ≡ false = ne_eqb (length p) seeded_key_length (λ e. omega (arith, public-size)) in
      record {
        header = inl (public-size, rw behind-front front.marked, rw behind-front front.has_version);
        same-a = long-a p kind ∙ ap first_of behind-front ∙ record-first public_key_mark 1 a b [] a-element ∙ sym secret-first;
        same-b = long-b p kind ∙ ap second_of behind-front ∙ record-second public_key_mark 1 a b [] b-element ∙ sym secret-second;
      }

  -- ---- under 0

  module _ (public secret : List ℕ) (zero : number (keygen_answer stream s e (length public) (length secret)) ≡ 0) where
    done : keygen_answer stream s e (length public) (length secret) ≡ Done
    done = (number-done _).0 zero

    writes_public : keygen_public stream s e public secret ≡ p
    unfolding keygen_public
    writes_public = on_done_lem p public done

    writes-secret : keygen_secret stream s e public secret ≡ k
    unfolding keygen_secret
    writes-secret = on_done_lem k secret done

    pub generated : Accepted (keygen_secret stream s e public secret)
        × PublicOf (keygen_public stream s e public secret) (keygen_secret stream s e public secret)
        × (number (public_answer (keygen_public stream s e public secret)) ≡ 0)
    generated =
        let accepted : Accepted k = secret-accepted ((keygen-done stream s e (length public) (length secret)).0 done).1.1 in
        rw (writes_public, writes-secret) (accepted, public_of, ap number (public-accepted public_of accepted).1)

-- ---- from a seed: the same secret key, and the seed in place of a

module _ (seed s e : List ℕ) (seed-size : length seed ≡ seed_length) where
  abbrev stream : List ℕ
  stream = seed_stream seed

  abbrev seeded-p : List ℕ
  seeded-p = new_seeded_key seed s e

  seeded-b-element : Element (keygen_b stream s e)
  seeded-b-element = b-element stream s e

  seeded-front : WellFormedSeededKey seeded-p
  unfolding new_seeded_key
  seeded-front = seeded_well-formed seed (keygen_b stream s e) seed-size seeded-b-element

  holds_seed : seed_of seeded-p ≡ seed
  unfolding new_seeded_key
  holds_seed = seeded_seed seed (keygen_b stream s e) seed-size

  holds-b : seeded_b seeded-p ≡ keygen_b stream s e
  unfolding new_seeded_key
  holds-b = written-b seed (keygen_b stream s e) seed-size seeded-b-element

  seeded_public_of : length (taken stream) ≡ n → PublicOf seeded-p (new_secret_key stream s e)
  seeded_public_of full =
      let kind : is_seeded_key seeded-p ≡ true = eq-eqb (length seeded-p) seeded_key_length seeded-front.size in
      record {
        header = inr ((seeded-front.size, seeded-front.marked, seeded-front.has_version), rw holds_seed full);
        same-a = seeded-a seeded-p kind ∙ ap seed_element holds_seed ∙ sym (secret-first stream s e);
        same-b = seeded_b_lem seeded-p kind ∙ holds-b ∙ sym (secret-second stream s e);
      }

module _ (seed s e public secret : List ℕ) (zero : number (seeded_keygen_answer seed s e (length public) (length secret)) ≡ 0) where
  seeded-done : seeded_keygen_answer seed s e (length public) (length secret) ≡ Done
  seeded-done = (number-done _).0 zero

  writes_seeded_public : seeded_keygen_public seed s e public secret ≡ new_seeded_key seed s e
  unfolding seeded_keygen_public
  writes_seeded_public = on_done_lem (new_seeded_key seed s e) public seeded-done

  writes_seeded-secret : seeded_keygen_secret seed s e public secret ≡ new_secret_key (seed_stream seed) s e
  unfolding seeded_keygen_secret
  writes_seeded-secret = on_done_lem (new_secret_key (seed_stream seed) s e) secret seeded-done

  pub seeded-generated : Accepted (seeded_keygen_secret seed s e public secret)
      × PublicOf (seeded_keygen_public seed s e public secret) (seeded_keygen_secret seed s e public secret)
      × (number (public_answer (seeded_keygen_public seed s e public secret)) ≡ 0)
  seeded-generated =
      let ((size, _, _, _, _), (full, unit)) = (seeded-keygen-done seed s e (length public) (length secret)).0 seeded-done in
      let accepted : Accepted (new_secret_key (seed_stream seed) s e) = secret-accepted (seed_stream seed) s e unit in
      let public-of-it = seeded_public_of seed s e size full in
      rw (writes_seeded_public, writes_seeded-secret) (accepted, public-of-it, ap number (public-accepted public-of-it accepted).1)
