-- When each call says Done: every length fits, and every check passes.
use mathlib.Core.Path.{◌≡◌}
use mathlib.Core.Bool.{Bool, true}
use mathlib.Core.Logic.Iff
use mathlib.Core.Logic.{◌↔◌}
use mathlib.Core.List.{List}
use Prim.Native.Nat.{ℕ, ◌≤◌}
use lib.ListN.{length}
use Rattle.ring.specs.Ring.{Invertible}
use Rattle.sampling.specs.Stream.{taken}
use Rattle.answers.specs.declared.Refusal.TheVariants.{WrongLength}
use Rattle.answers.specs.Answers.{unless, Answer, Done}
use Rattle.records.specs.Records.{first_of, second_of, body_part, tag_part, sealed_entry_answer, c1_of, c2_of, encapsulation_answer}
use Rattle.triples.specs.Triple.{triple_answer}
use Rattle.seeds.specs.Seeds.{seed_stream}
use Rattle.public_keys.specs.PublicKeys.{is_public_length, public_answer}
use Rattle.secret_keys.specs.SecretKeys.{elements_of, secret_answer}
use Rattle.keys.specs.Keys.{keygen_b, noise_triple}
use Rattle.calls.specs.Calls.{check_answer, keygen_answer, seeded_keygen_answer, outcome, outcome_answer, opened_answer}
use Rattle.triples.specs.Triple.{triple_of}
use Rattle.calls.specs.Calls.{encapsulate_answer, decapsulate_answer, seal_answer, open_answer}
use Rattle.answers.proofs.AnswerLaws.{unless-done, then-done}
use Rattle.calls.proofs.Lengths.{header-fits, keygen-fits, seeded-keygen-fits, encapsulate-fits, decapsulate-fits, seal-fits, open-fits}
use Rattle.keys.proofs.KeyLaws.{generated-done}

-- the lengths fit, and what follows is Done
done-after_lengths : {fit : Bool} {F G : Type 0} (a : Answer) → (fit ≡ true) ↔ F → (a ≡ Done) ↔ G → (unless fit WrongLength a ≡ Done) ↔ (F × G)
done-after_lengths {fit} a f g = Iff.trans (unless-done fit WrongLength a) (Iff.and f g)

pub check_done : (k : List ℕ) → (check_answer k ≡ Done) ↔ ((5 ≤ length k) × (secret_answer k ≡ Done))
unfolding check_answer
check_done k = done-after_lengths (secret_answer k) (header-fits k) Iff.rfl

pub keygen-done : (stream s e : List ℕ) (public secret : ℕ)
    → (keygen_answer stream s e public secret ≡ Done)
    ↔ (((length stream ≡ 2688) × (length s ≡ 512) × (length e ≡ 512) × (public ≡ 4101) × (secret ≡ 4357))
    × ((length (taken stream) ≡ 1024) × Invertible (keygen_b stream s e)))
unfolding keygen_answer
keygen-done stream s e public secret =
    done-after_lengths _ (keygen-fits stream s e public secret)
    (generated-done stream s e)

pub seeded-keygen-done : (seed s e : List ℕ) (public secret : ℕ)
    → (seeded_keygen_answer seed s e public secret ≡ Done)
    ↔ (((length seed ≡ 32) × (length s ≡ 512) × (length e ≡ 512) × (public ≡ 2085) × (secret ≡ 4357))
    × ((length (taken (seed_stream seed)) ≡ 1024) × Invertible (keygen_b (seed_stream seed) s e)))
unfolding seeded_keygen_answer
seeded-keygen-done seed s e public secret =
    done-after_lengths _ (seeded-keygen-fits seed s e public secret)
    (generated-done (seed_stream seed) s e)

pub encapsulate-done : (k t : List ℕ) (room : ℕ)
    → (encapsulate_answer k t room ≡ Done)
    ↔ (((is_public_length (length k) ≡ true) × (length t ≡ 768) × (room ≡ 4096)) × ((public_answer k ≡ Done) × (triple_answer t ≡ Done)))
unfolding encapsulate_answer
encapsulate-done k t room = done-after_lengths _ (encapsulate-fits k t room) (then-done (public_answer k) (triple_answer t))

pub decapsulate-done : (k c d : List ℕ) (room : ℕ)
    → (decapsulate_answer k c d room ≡ Done)
    ↔ (((5 ≤ length k) × (length c ≡ 4096) × (length d ≡ 768) × (room ≡ 768))
    × ((secret_answer k ≡ Done)
    × (encapsulation_answer c ≡ Done)
    × (triple_answer d ≡ Done)
    × (outcome_answer (outcome (elements_of k) (triple_of d) (c1_of c) (c2_of c)) ≡ Done)))
unfolding decapsulate_answer
decapsulate-done k c d room =
    done-after_lengths _ (decapsulate-fits k c d room)
    (Iff.trans (Iff.trans (then-done (secret_answer k) _)
    (Iff.and Iff.rfl (Iff.trans (then-done (encapsulation_answer c) _) (Iff.and Iff.rfl (then-done (triple_answer d) _)))))
    (λ (key, (words, (codes, found))). (key, words, codes, found), λ (key, words, codes, found). (key, (words, (codes, found)))))

pub seal-done : (k noise entry : List ℕ) (room : ℕ)
    → (seal_answer k noise entry room ≡ Done)
    ↔ (((is_public_length (length k) ≡ true) × (length noise ≡ 1536) × (length entry ≡ 16) × (room ≡ 4133)) × (public_answer k ≡ Done))
unfolding seal_answer
seal-done k noise entry room = done-after_lengths (public_answer k) (seal-fits k noise entry room) Iff.rfl

pub open_done : (k e noise : List ℕ) (room : ℕ)
    → (open_answer k e noise room ≡ Done)
    ↔ (((5 ≤ length k) × (length e ≡ 4133) × (length noise ≡ 1536) × (room ≡ 16))
    × ((secret_answer k ≡ Done)
    × (sealed_entry_answer e ≡ Done)
    × (opened_answer (outcome (elements_of k) (noise_triple noise) (first_of e) (second_of e)) (body_part e) (tag_part e) ≡ Done)))
unfolding open_answer
open_done k e noise room =
    done-after_lengths _ (open-fits k e noise room)
    (Iff.trans (Iff.trans (then-done (secret_answer k) _) (Iff.and Iff.rfl (then-done (sealed_entry_answer e) _)))
    (λ (key, (front, opened)). (key, front, opened), λ (key, front, opened). (key, (front, opened))))
