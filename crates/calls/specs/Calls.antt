-- What each public call answers and what its lent outputs hold afterwards, over the lent bytes (document 01, "Bytes" and "What the desk
-- says"; document 02, No. 2, 3 and 5). Every definition holds for buffers of all lengths. Under any answer but Done an output is as it came.
-- `room`, and `public` and `secret` where they are numbers, are the lengths of outputs.
use Rattle.std.specs.Prelude.{◌&&◌, List, ℕ, eqb, leb, length, Err}
use Rattle.lists.specs.Table.{zeros}
use Rattle.scheme.specs.Scheme.{Triple, Outcome, found, failed, masked, decapsulation}
use Rattle.sampling.specs.Noise.{noise_length, ternary_noise}
use Rattle.sampling.specs.Stream.{stream_length, uniform_element}
use Rattle.derivation.specs.Derivation.{body_of, tag_of, is_genuine, entry_of}
use Rattle.answers.specs.declared.Refusal.TheVariants as Refusal
use Rattle.answers.specs.Answers.{unless, and_then, on_done, Answer, Done}
use Rattle.records.specs.Layout.{header_length, public_key_length, seed_length, seeded_key_length, secret_key_length, sealed_entry_length, encapsulation_length, triple_length, block_length}
use Rattle.records.specs.Records.{first_of, second_of, body_part, tag_part, sealed_entry_answer, public_key_bytes, secret_key_bytes, seeded_key_bytes, sealed_entry_bytes}
use Rattle.records.specs.Records.{c1_of, c2_of, encapsulation_answer, encapsulation_bytes}
use Rattle.triples.specs.Triple.{triple_of, triple_answer, triple_bytes}
use Rattle.seeds.specs.Seeds.{seed_stream}
use Rattle.public_keys.specs.PublicKeys.{is_public_length, public_a, public_b, public_answer}
use Rattle.secret_keys.specs.SecretKeys.{KeyElements, elements_of, secret_answer}
use Rattle.keys.specs.Keys.{keygen_b, generated_answer, triple_noise_length, noise_triple}

-- ---- check_secret_key; the key is a secret record of either version, here and wherever one is lent

-- 1 for a key without a header
unfoldable pub check_answer : (key : List ℕ) → Answer
check_answer k = unless (leb header_length (length k)) Refusal.WrongLength (secret_answer k)

-- ---- keygen, from a stream and the noise of s and of e

-- 1, then 8, 6
unfoldable pub keygen_answer : (stream s e : List ℕ) (public secret : ℕ) → Answer
keygen_answer stream s e public secret =
    unless
    (eqb (length stream) stream_length && eqb (length s) noise_length && eqb (length e) noise_length && eqb public public_key_length && eqb secret secret_key_length)
    Refusal.WrongLength (generated_answer stream s e)

unfoldable pub new_public_key : (stream s e : List ℕ) → List ℕ
new_public_key stream s e = public_key_bytes (uniform_element stream) (keygen_b stream s e)

unfoldable pub new_secret_key : (stream s e : List ℕ) → List ℕ
new_secret_key stream s e = secret_key_bytes (uniform_element stream) (keygen_b stream s e) (ternary_noise s)

unfoldable pub keygen_public : (stream s e public secret : List ℕ) → List ℕ
keygen_public stream s e public secret = on_done (keygen_answer stream s e (length public) (length secret)) (new_public_key stream s e) public

unfoldable pub keygen_secret : (stream s e public secret : List ℕ) → List ℕ
keygen_secret stream s e public secret = on_done (keygen_answer stream s e (length public) (length secret)) (new_secret_key stream s e) secret

-- ---- keygen from a seed (document 02, No. 2), and the noise of s and of e: as from the seed's stream, but that the public key holds the
-- seed in place of a

unfoldable pub seeded_keygen_answer : (seed s e : List ℕ) (public secret : ℕ) → Answer
seeded_keygen_answer seed s e public secret =
    unless
    (eqb (length seed) seed_length && eqb (length s) noise_length && eqb (length e) noise_length && eqb public seeded_key_length && eqb secret secret_key_length)
    Refusal.WrongLength (generated_answer (seed_stream seed) s e)

unfoldable pub new_seeded_key : (seed s e : List ℕ) → List ℕ
new_seeded_key seed s e = seeded_key_bytes seed (keygen_b (seed_stream seed) s e)

unfoldable pub seeded_keygen_public : (seed s e public secret : List ℕ) → List ℕ
seeded_keygen_public seed s e public secret = on_done (seeded_keygen_answer seed s e (length public) (length secret)) (new_seeded_key seed s e) public

unfoldable pub seeded_keygen_secret : (seed s e public secret : List ℕ) → List ℕ
seeded_keygen_secret seed s e public secret =
    on_done (seeded_keygen_answer seed s e (length public) (length secret)) (new_secret_key (seed_stream seed) s e) secret

-- ---- encapsulate, with the triple t; the key is a public record of either kind

unfoldable pub encapsulate_answer : (key triple : List ℕ) (room : ℕ) → Answer
encapsulate_answer k t room =
    unless (is_public_length (length k) && eqb (length t) triple_length && eqb room encapsulation_length) Refusal.WrongLength
    (and_then (public_answer k) (triple_answer t))

-- c1 = a × r + e1 and c2 = b × r + e2
unfoldable pub encapsulated_with : (a b : List ℕ) (t : Triple) → List ℕ
encapsulated_with a b t = encapsulation_bytes (masked a t.r t.e1) (masked b t.r t.e2)

unfoldable pub encapsulate_out : (key triple out : List ℕ) → List ℕ
encapsulate_out k t out = on_done (encapsulate_answer k t (length out)) (encapsulated_with (public_a k) (public_b k) (triple_of t)) out

-- ---- decapsulate the encapsulation c with the dummy triple d

-- by the steps of document 01, with the inverse of b that the key has
unfoldable pub outcome : (key : KeyElements) (dummy : Triple) (c1 c2 : List ℕ) → Outcome
outcome key dummy c1 c2 = decapsulation key.a key.b key.inverse key.s dummy c1 c2

-- 9
abbrev pub outcome_answer : Outcome → Answer
outcome_answer (found t) = Done
outcome_answer failed = Err Refusal.DecapsulationFailure

-- written only where a triple was found
abbrev pub outcome_bytes : Outcome → List ℕ
outcome_bytes (found t) = triple_bytes t.r t.e1 t.e2
outcome_bytes failed = zeros triple_length

unfoldable pub decapsulate_answer : (key encapsulation dummy : List ℕ) (room : ℕ) → Answer
decapsulate_answer k c d room =
    unless (leb header_length (length k) && eqb (length c) encapsulation_length && eqb (length d) triple_length && eqb room triple_length)
    Refusal.WrongLength
    (and_then (secret_answer k)
    (and_then (encapsulation_answer c)
    (and_then (triple_answer d)
    (outcome_answer (outcome (elements_of k) (triple_of d) (c1_of c) (c2_of c))))))

unfoldable pub decapsulate_out : (key encapsulation dummy out : List ℕ) → List ℕ
decapsulate_out k c d out = on_done (decapsulate_answer k c d (length out)) (outcome_bytes (outcome (elements_of k) (triple_of d) (c1_of c) (c2_of c))) out

-- ---- seal an entry; the key is a public record of either kind

unfoldable pub seal_answer : (key noise entry : List ℕ) (room : ℕ) → Answer
seal_answer k noise entry room =
    unless (is_public_length (length k) && eqb (length noise) triple_noise_length && eqb (length entry) block_length && eqb room sealed_entry_length)
    Refusal.WrongLength (public_answer k)

-- an entry protected by a triple, behind c1 and c2
abbrev pub protected_entry : (c1 c2 : List ℕ) (t : Triple) (entry : List ℕ) → List ℕ
protected_entry c1 c2 t entry =
    sealed_entry_bytes c1 c2 (body_of t.r t.e1 t.e2 entry) (tag_of t.r t.e1 t.e2 (body_of t.r t.e1 t.e2 entry))

unfoldable pub sealed_with : (a b : List ℕ) (t : Triple) (entry : List ℕ) → List ℕ
sealed_with a b t entry = protected_entry (masked a t.r t.e1) (masked b t.r t.e2) t entry

unfoldable pub sealed_bytes : (key noise entry : List ℕ) → List ℕ
sealed_bytes k noise entry = sealed_with (public_a k) (public_b k) (noise_triple noise) entry

unfoldable pub seal_out : (key noise entry out : List ℕ) → List ℕ
seal_out k noise entry out = on_done (seal_answer k noise entry (length out)) (sealed_bytes k noise entry) out

-- ---- open a sealed entry, with a dummy from noise

-- 9, then 10; the tag is that of `blocks`, which are the body of a sealed entry
abbrev pub opened_answer : (o : Outcome) (blocks tag : List ℕ) → Answer
opened_answer (found t) blocks tag = unless (is_genuine t.r t.e1 t.e2 blocks tag) Refusal.TagMismatch Done
opened_answer failed blocks tag = Err Refusal.DecapsulationFailure

-- written only where a triple was found and the tag is right
abbrev pub opened_entry : (o : Outcome) (body : List ℕ) → List ℕ
opened_entry (found t) body = entry_of t.r t.e1 t.e2 body
opened_entry failed body = zeros (length body)

unfoldable pub open_answer : (key sealed noise : List ℕ) (room : ℕ) → Answer
open_answer key sealed noise room =
    unless (leb header_length (length key) && eqb (length sealed) sealed_entry_length && eqb (length noise) triple_noise_length && eqb room block_length)
    Refusal.WrongLength
    (and_then (secret_answer key)
    (and_then (sealed_entry_answer sealed)
    (opened_answer (outcome (elements_of key) (noise_triple noise) (first_of sealed) (second_of sealed)) (body_part sealed) (tag_part sealed))))

unfoldable pub open_out : (key sealed noise out : List ℕ) → List ℕ
open_out key sealed noise out =
    on_done (open_answer key sealed noise (length out))
    (opened_entry (outcome (elements_of key) (noise_triple noise) (first_of sealed) (second_of sealed)) (body_part sealed)) out
