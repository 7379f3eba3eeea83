-- When 13 is said, and 6 of the conversions.
use mathlib.Core.Bool.{true, false}
use mathlib.Core.Logic.Iff
use mathlib.Core.Logic.{◌↔◌}
use mathlib.Core.List.{List}
use Prim.Native.Nat.{ℕ, ◌≤◌}
use native.Mathlib.Omega.{arith}
use lib.ListN.{length}
use Rattle.answers.specs.Answers.{number}
use Rattle.records.specs.Layout.{secret_key_length, expanded_key_length}
use Rattle.records.specs.Records.{first_of, second_of, body_part, tag_part, c1_of, c2_of}
use Rattle.records.specs.WellFormed.{WellFormedExpandedKey}
use Rattle.triples.specs.Triple.{triple_of}
use Rattle.triples.proofs.TripleLaws.{triple_never}
use Rattle.batch_records.specs.Batches.{batch_tag, tagged_blocks}
use Rattle.public_keys.proofs.PublicLaws.{public_never}
use Rattle.secret_keys.specs.SecretKeys.{elements_of, secret_answer}
use Rattle.secret_keys.specs.WellFormed.{InverseStored}
use Rattle.keys.specs.Keys.{noise_triple}
use Rattle.calls.specs.Calls.{check_answer, encapsulate_answer, decapsulate_answer, seal_answer, open_answer, outcome}
use Rattle.batch_calls.specs.Calls.{batch_outcome, open_batch_answer}
use Rattle.answers.proofs.AnswerLaws.{then_never, then-refuses}
use Rattle.secret_keys.proofs.SecretLaws.{secret-not-invertible, secret-inverse-mismatch}
use Rattle.calls.proofs.Lengths.{header-fits, encapsulate-fits, decapsulate-fits, seal-fits, open-fits, says-after_lengths}
use Rattle.calls.proofs.Behind.{encapsulation-rest_never, entry-rest_never}
use Rattle.calls.proofs.LocatedExact.{never-after_lengths, keygen-others, seeded-keygen-others}
use Rattle.batch_calls.proofs.Lengths.{opening-fits}
use Rattle.batch_calls.proofs.BatchAnswers.{seal-says, batch-rest_never}
use Rattle.conversion_calls.specs.Calls.{expand_answer, compact_answer}
use Rattle.conversion_calls.specs.Promises.{InverseMismatchExact}
use Rattle.conversion_calls.proofs.Converting.{convert-says}

-- an expanded key among the lengths of the other buffers
with_lengths : (k : List ℕ) {H1 H2 H3 : Type 0}
    → (((5 ≤ length k) × H1 × H2 × H3) × (WellFormedExpandedKey k × ¬ (InverseStored k))) ↔ (WellFormedExpandedKey k × H1 × H2 × H3 × ¬ (InverseStored k))
with_lengths k = (
  λ ((size, h1, h2, h3), (w, other)). (w, h1, h2, h3, other),
  λ (w, h1, h2, h3, other). ((omega (arith, w.size), h1, h2, h3), (w, other)),
)

pub inverse-mismatch-exact : InverseMismatchExact
unfolding check_answer encapsulate_answer decapsulate_answer seal_answer open_answer open_batch_answer expand_answer compact_answer
inverse-mismatch-exact = record {
  secret-key = secret-inverse-mismatch;
  check = λ k.
      Iff.trans (says-after_lengths 13 (secret_answer k) (omega arith) (header-fits k) (secret-inverse-mismatch k))
      (λ (size, said). said, λ (w, other). (omega (arith, w.size), (w, other)));
  decapsulate = λ k c d room.
      Iff.trans
      (says-after_lengths 13 _ (omega arith) (decapsulate-fits k c d room)
      (Iff.trans
      (then-refuses (secret_answer k) (omega arith)
      (encapsulation-rest_never (omega arith) (λ e. omega arith) (λ e. omega arith) (λ e. omega arith) c d (outcome (elements_of k) (triple_of d) (c1_of c) (c2_of c))))
      (secret-inverse-mismatch k)))
      (with_lengths k);
  open_entry = λ k sealed noise room.
      Iff.trans
      (says-after_lengths 13 _ (omega arith) (open-fits k sealed noise room)
      (Iff.trans
      (then-refuses (secret_answer k) (omega arith)
      (entry-rest_never (omega arith) (λ e. omega arith) (omega arith) (λ e. omega arith) (λ e. omega arith) sealed
      (outcome (elements_of k) (noise_triple noise) (first_of sealed) (second_of sealed)) (body_part sealed) (tag_part sealed)))
      (secret-inverse-mismatch k)))
      (with_lengths k);
  open-batch = λ k batch noise room.
      Iff.trans
      (says-after_lengths 13 _ (omega arith) (opening-fits k batch noise room)
      (Iff.trans
      (then-refuses (secret_answer k) (omega arith)
      (batch-rest_never batch (omega arith) (λ h. omega arith) (batch_outcome k batch noise) (tagged_blocks batch) (batch_tag batch)))
      (secret-inverse-mismatch k)))
      (λ (fits, (w, other)). (fits, w, other), λ (fits, w, other). (fits, (w, other)));
  compact = λ k room.
      Iff.trans (convert-says k room secret_key_length true (omega arith)) (
        λ (fits, (_, said)). let (w, other) = (secret-inverse-mismatch k).0 said in (w, fits.1, other),
        λ (w, e, other). ((omega (arith, w.size), e), ((w.front.marked, w.front.has_version), (secret-inverse-mismatch k).1 (w, other))),
      );
  expand_never = λ k room said.
      let (fits, ((_, version), e)) = (convert-says k room expanded_key_length false {n = 13} (omega arith)).0 said in
      omega (arith, version, ((secret-inverse-mismatch k).0 e).0.front.has_version);
  keygen_never = keygen-others 13 (omega arith) (λ e. omega arith) (λ e. omega arith);
  seeded-keygen_never = seeded-keygen-others 13 (omega arith) (λ e. omega arith) (λ e. omega arith);
  encapsulate_never = λ k t room.
      never-after_lengths (omega arith) (encapsulate-fits k t room)
      (then_never (public_never k (omega arith)) (triple_never (omega arith) (λ e. omega arith) t));
  seal_never = λ k noise entry room. never-after_lengths (omega arith) (seal-fits k noise entry room) (public_never k (omega arith));
  seal-batch_never = λ k noise blocks room e.
      (public_never k {number = 13} (omega arith)).never ((seal-says k noise blocks room 13 (omega arith) (λ e. omega arith)).0 e).2;
  expand_6 = λ k room.
      Iff.trans (convert-says k room expanded_key_length false (omega arith)) (
        λ (fits, (_, said)). let (w, none) = (secret-not-invertible k).0 said in (w, fits.1, none),
        λ (w, e, none). ((omega (arith, w.size), e), ((w.front.marked, w.front.has_version), (secret-not-invertible k).1 (w, none))),
      );
  compact_never_6 = λ k room said.
      let (fits, ((_, version), e)) = (convert-says k room secret_key_length true {n = 6} (omega arith)).0 said in
      omega (arith, version, ((secret-not-invertible k).0 e).0.front.has_version);
}
