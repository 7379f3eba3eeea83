-- When 6 is said.
use mathlib.Core.Path.{◌≡◌}
use mathlib.Core.Bool.{Bool, true}
use mathlib.Core.Logic.Iff
use mathlib.Core.Logic.{◌↔◌}
use mathlib.Core.List.{List}
use Prim.Native.Nat.{ℕ, ◌≤◌}
use native.Mathlib.Omega.{arith}
use lib.ListN.{length}
use Rattle.ring.specs.Ring.{Invertible}
use Rattle.answers.specs.declared.Refusal.TheVariants.{WrongLength}
use Rattle.answers.specs.Answers.{number, unless, and_then, Answer}
use Rattle.records.specs.Records.{first_of, second_of, body_part, tag_part, c1_of, c2_of}
use Rattle.seeds.specs.Seeds.{seed_stream}
use Rattle.public_keys.specs.PublicKeys.{public_answer}
use Rattle.secret_keys.specs.SecretKeys.{elements_of, secret_answer}
use Rattle.keys.specs.Keys.{noise_triple}
use Rattle.calls.specs.Calls.{check_answer, keygen_answer, seeded_keygen_answer, outcome}
use Rattle.triples.specs.Triple.{triple_of}
use Rattle.calls.specs.Calls.{encapsulate_answer, decapsulate_answer, seal_answer, open_answer}
use Rattle.records.specs.WellFormed.{WellFormedKey}
use Rattle.calls.specs.Promises.{NotInvertibleExact}
use Rattle.answers.proofs.AnswerLaws.{Never, then-refuses}
use Rattle.triples.proofs.TripleLaws.{triple_never}
use Rattle.calls.proofs.Behind.{encapsulation-rest_never, entry-rest_never}
use Rattle.calls.proofs.Lengths.{header-fits, keygen-fits, seeded-keygen-fits, encapsulate-fits, decapsulate-fits, seal-fits, open-fits, says-after_lengths, of-encapsulate, of-seal}
use Rattle.public_keys.proofs.PublicLaws.{public_refused, long_refused, seeded_refused}
use Rattle.secret_keys.proofs.SecretLaws.{secret-not-invertible}
use Rattle.keys.proofs.KeyLaws.{generated_refused}

-- ---- what stands before and behind the check of a key

-- 1 is no 6
six-after_lengths : {fit : Bool} {F G : Type 0} (a : Answer) → (fit ≡ true) ↔ F → (number a ≡ 6) ↔ G → (number (unless fit WrongLength a) ≡ 6) ↔ (F × G)
six-after_lengths a = says-after_lengths 6 a (omega arith)

-- what stands behind a key never says 6, so the key alone does
by_key : {G : Type 0} (key : Answer) {rest : Answer} → Never 6 rest → (number key ≡ 6) ↔ G → (number (and_then key rest) ≡ 6) ↔ G
by_key key h g = Iff.trans (then-refuses key (omega arith) h) g

-- the two openings: a secret key of version 1 and three further lengths
opening : (k : List ℕ) {i i' j j' l l' : ℕ}
    → (((5 ≤ length k) × (i ≡ i') × (j ≡ j') × (l ≡ l')) × (WellFormedKey k × ¬ (Invertible (second_of k))))
    ↔ (WellFormedKey k × (i ≡ i') × (j ≡ j') × (l ≡ l') × ¬ (Invertible (second_of k)))
opening k = (
  λ ((size, h1, h2, h3), (w, none)). (w, h1, h2, h3, none),
  λ (w, h1, h2, h3, none). ((omega (arith, w.size), h1, h2, h3), (w, none)),
)

-- key generation: the stream suffices, and there is no inverse
generating : {F M : Type 0} → {H1 H2 H3 H4 H5 : Type 0} → ((H1 × H2 × H3 × H4 × H5) × (F × M)) ↔ (H1 × H2 × H3 × H4 × H5 × F × M)
generating = (λ ((h1, h2, h3, h4, h5), (full, none)). (h1, h2, h3, h4, h5, full, none), λ (h1, h2, h3, h4, h5, full, none). ((h1, h2, h3, h4, h5), (full, none)))

pub not-invertible-exact : NotInvertibleExact
unfolding keygen_answer seeded_keygen_answer check_answer encapsulate_answer decapsulate_answer seal_answer open_answer
not-invertible-exact = record {
  public-key = long_refused;
  seeded-key = seeded_refused;
  secret-key = secret-not-invertible;
  keygen = λ stream s e public secret.
      Iff.trans (six-after_lengths _ (keygen-fits stream s e public secret) (generated_refused stream s e)) generating;
  seeded-keygen = λ seed s e public secret.
      Iff.trans (six-after_lengths _ (seeded-keygen-fits seed s e public secret) (generated_refused (seed_stream seed) s e)) generating;
  check = λ k.
      Iff.trans (six-after_lengths (secret_answer k) (header-fits k) (secret-not-invertible k))
      (λ (size, said). said, λ (w, none). (omega (arith, w.size), (w, none)));
  encapsulate = λ k t room.
      Iff.trans
      (six-after_lengths _ (encapsulate-fits k t room)
      (by_key (public_answer k) (triple_never (omega arith) (λ e. omega arith) t) Iff.rfl))
      (of-encapsulate (public_refused k));
  decapsulate = λ k c d room.
      Iff.trans
      (six-after_lengths _ (decapsulate-fits k c d room)
      (by_key (secret_answer k)
      (encapsulation-rest_never (omega arith) (λ e. omega arith) (λ e. omega arith) (λ e. omega arith) c d
      (outcome (elements_of k) (triple_of d) (c1_of c) (c2_of c)))
      (secret-not-invertible k)))
      (opening k);
  seal = λ k noise entry room.
      Iff.trans (six-after_lengths (public_answer k) (seal-fits k noise entry room) Iff.rfl) (of-seal (public_refused k));
  open_entry = λ k e noise room.
      Iff.trans
      (six-after_lengths _ (open-fits k e noise room)
      (by_key (secret_answer k)
      (entry-rest_never (omega arith) (λ e. omega arith) (omega arith) (λ e. omega arith) (λ e. omega arith) e
      (outcome (elements_of k) (noise_triple noise) (first_of e) (second_of e)) (body_part e) (tag_part e))
      (secret-not-invertible k)))
      (opening k);
}
