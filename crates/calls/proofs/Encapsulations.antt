-- What the published formula makes of a ternary triple, with a public record of an accepted key.
use mathlib.Core.Path.{◌≡◌, ap, ◌∙◌}
use mathlib.Core.Bool.{true}
use mathlib.Core.List.{List}
use Prim.Native.Nat.{ℕ}
use lib.ListN.{length}
use Rattle.exactness.proofs.Elements as E
use Rattle.ring.specs.Ring.{Element}
use Rattle.scheme.specs.Scheme.{Triple, setting, masked}
use Rattle.scheme.proofs.Givens.{givens}
use Rattle.records.specs.Records.{first_of, second_of}
use Rattle.public_keys.specs.PublicKeys.{is_public_length, public_a, public_b, public_answer}
use Rattle.calls.specs.Promises.{Accepted, Ternaries, Encapsulates, PublicOf}
use Rattle.public_keys.proofs.PublicLaws.{public-done}
use Rattle.secret_keys.proofs.SecretLaws.{second-words}
use Rattle.secret_keys.proofs.ElementLaws.{first-words, unit-invertible}
use Rattle.calls.proofs.CheckExact.{accepted_iff}
use Rattle.answers.specs.Answers.{Done}

pub masked-element : (a r e : List ℕ) → Element (masked a r e)
masked-element = E.masked-element setting givens

module _ {p k : List ℕ} (public : PublicOf p k) where
  -- the public check passes
  pub public-accepted : Accepted k → (is_public_length (length p) ≡ true) × (public_answer p ≡ Done)
  public-accepted accepted =
      let (expanded, w, unit, matches) = (accepted_iff k).0 accepted in
      (public-done p).1 (
        record {
          header = public.header;
          a-words = rw public.same-a (first-words k expanded w);
          b-words = rw public.same-b (second-words k expanded w);
        },
        rw public.same-b (unit-invertible k expanded w unit),
      )

  -- the formula with the public record's a and b is that with the key's
  pub encapsulates : {c1 c2 : List ℕ} (t : Triple) → Ternaries t → c1 ≡ masked (public_a p) t.r t.e1 → c2 ≡ masked (public_b p) t.r t.e2
      → Encapsulates (first_of k) (second_of k) c1 c2 t
  encapsulates t ternary e1 e2 = (
    ternary,
    record {
      first = e1 ∙ ap (λ (a : List ℕ). masked a t.r t.e1) public.same-a;
      second = e2 ∙ ap (λ (b : List ℕ). masked b t.r t.e2) public.same-b;
    },
  )
