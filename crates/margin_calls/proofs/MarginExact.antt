-- Opening with margin: demand 3, and what the margin is where it says 0.
use mathlib.Core.Path.{◌≡◌, sym, ◌∙◌}
use mathlib.Core.Logic.{◌↔◌, inl}
use mathlib.Core.List.{List}
use Prim.Native.Nat.{ℕ, ◌*◌, ◌≤◌, ◌<◌}
use native.Mathlib.Omega.{arith}
use lib.IntN.{ℤ, pos, nat_abs}
use lib.ListN.{length, get_or}
use Rattle.ring.specs.Ring.{n}
use Rattle.ring.specs.Division.{QuotientsWithin}
use Rattle.ring.proofs.QuotientLaws.{length-quotients}
use Rattle.margins.proofs.LargestLaws as Largest
use Rattle.answers.specs.Answers.{number, Done}
use Rattle.answers.specs.Locations.{code}
use Rattle.answers.proofs.AnswerLaws.{number-done, on_done_lem, on_refusal}
use Rattle.answers.proofs.CodeLaws.{code-done}
use Rattle.records.specs.Records.{first_of, second_of}
use Rattle.records.specs.WellFormed.{WellFormedEntry}
use Rattle.records.proofs.RecordLaws.{sealed_entry-done}
use Rattle.calls.specs.Calls.{open_answer, open_out}
use Rattle.calls.specs.Promises.{Accepted, HasTriple, OpenExact}
use Rattle.calls.proofs.CheckExact.{accepted}
use Rattle.calls.proofs.WhenDone.{open_done}
use Rattle.calls.proofs.OpenExact.{open-exact, open-exact-code}
use Rattle.margin_calls.specs.Calls.{open_quotients, open_margin, open_margin_out}
use Rattle.margin_calls.specs.Promises.{weight_of, OpenMarginExact}
use Rattle.margin_calls.proofs.QuotientsExact.{weight_bounds, most_bounds}

module _ (k sealed noise before : List ℕ) (lent : ℕ) where
  abbrev w : List ℤ
  w = open_quotients k sealed noise

  abbrev value : ℕ
  value = open_margin_out k sealed noise (length before) lent

  size : length w ≡ n
  size = length-quotients _

  -- ---- where it is Done

  module _ (done : open_answer k sealed noise (length before) ≡ Done) where
    is-margin : value ≡ open_margin k sealed noise
    unfolding open_margin_out
    is-margin = on_done_lem (open_margin k sealed noise) lent done

    -- the key is accepted, and there is a triple
    key-accepted : Accepted k
    key-accepted =
        let ((header, _, _, _), (key, _, _)) = (open_done k sealed noise (length before)).0 done in
        (accepted k).1 (header, key)

    has_triple : HasTriple (first_of k) (second_of k) (first_of sealed) (second_of sealed)
    has_triple =
        let ((_, whole, drawn, room), (_, front, _)) = (open_done k sealed noise (length before)).0 done in
        let well-formed : WellFormedEntry sealed = record { size = whole; front = (sealed_entry-done sealed).0 front } in
        (open-exact k sealed noise before key-accepted well-formed drawn room).0.answers.1 (inl ((number-done (open_answer k sealed noise (length before))).1 done))

    none : QuotientsWithin value w
    unfolding open_margin
    none i h = rw is-margin (Largest.none_passes w i (omega (arith, size)))

    one : (i : ℕ) × (i < n) × (nat_abs (get_or w i (pos 0)) ≡ value)
    unfolding open_margin
    one =
        let (i, within, reached) = Largest.one-reaches w (omega (arith, size)) in
        (i, omega (arith, size, within), reached ∙ sym is-margin)

    -- a bound on w is one on the margin
    bounded : {most : ℕ} → QuotientsWithin most w → value ≤ most
    unfolding open_margin
    bounded {most} h = rw is-margin (Largest.largest-most most w (λ i l. h i (omega (arith, size))))

  exact_of : {said : ℕ} → (said ≡ 0) ↔ (open_answer k sealed noise (length before) ≡ Done) → OpenExact k sealed noise before said (open_out k sealed noise before)
      → OpenMarginExact k sealed noise before lent said (open_out k sealed noise before) value
  unfolding open_margin_out
  exact_of zero exact = record {
    exact = exact;
    none_passes = λ e. none (zero.0 e);
    one-reaches = λ e. one (zero.0 e);
    by-weight = λ e. bounded (zero.0 e) (weight_bounds k sealed noise (key-accepted (zero.0 e)) (has_triple (zero.0 e)));
    most = λ e. bounded (zero.0 e) (most_bounds k sealed noise (key-accepted (zero.0 e)) (has_triple (zero.0 e)));
    kept = λ other. on_refusal (open_answer k sealed noise (length before)) (open_margin k sealed noise) lent
        (λ e. other (zero.1 ((number-done (open_answer k sealed noise (length before))).0 e)));
  }

  pub margin-exact : OpenMarginExact k sealed noise before lent (number (open_answer k sealed noise (length before))) (open_out k sealed noise before) value
  margin-exact = exact_of (number-done (open_answer k sealed noise (length before))) (open-exact k sealed noise before)

  pub margin-exact-code : OpenMarginExact k sealed noise before lent (code (open_answer k sealed noise (length before))) (open_out k sealed noise before) value
  margin-exact-code = exact_of (code-done (open_answer k sealed noise (length before))) (open-exact-code k sealed noise before)
