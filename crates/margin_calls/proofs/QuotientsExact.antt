-- w of an opening: m = E2 + 5 × w on every input; by the weight of an accepted key, where there is a triple; and of a key in either version.
use mathlib.Core.Path.{◌≡◌, sym, ap, ◌∙◌}
use mathlib.Core.List.{List}
use Prim.Native.Nat.{ℕ, ◌*◌}
use Rattle.lists.proofs.Equal.{ap₃}
use Rattle.exactness.specs.Scheme.{SoundKey}
use Rattle.ring.specs.Centred.{quotients}
use Rattle.ring.specs.Division.{QuotientsWithin}
use Rattle.ring.specs.Invertible.{inverse_of}
use Rattle.ring.proofs.QuotientLaws.{division-exact}
use Rattle.margins.specs.Largest.{largest_size}
use Rattle.scheme.specs.Scheme.{setting, step2}
use Rattle.scheme.specs.Noise.{DecapsulationPhase}
use Rattle.scheme.proofs.NoiseBound.{decapsulation-phase}
use Rattle.records.specs.Records.{first_of, second_of, secret_of}
use Rattle.secret_keys.specs.SecretKeys.{KeyElements}
use Rattle.secret_keys.proofs.ElementLaws.{secret-elements, secret-sound}
use Rattle.keys.specs.Keys.{noise_triple}
use Rattle.calls.specs.Promises.{Accepted, HasTriple}
use Rattle.calls.proofs.CheckExact.{accepted-done}
use Rattle.calls.proofs.Outcomes.{noise-ternary}
use Rattle.conversion_calls.specs.Promises.{SameKey}
use Rattle.margin_calls.specs.Calls.{open_phase, open_quotients, open_margin}
use Rattle.margin_calls.specs.Promises.{weight_of, QuotientsExact}

-- of an accepted key m is that of its a, b and s
accepted-phase : (k sealed noise : List ℕ) → Accepted k
    → open_phase k sealed noise ≡ step2 (first_of k) (second_of k) (secret_of k) (noise_triple noise) (first_of sealed) (second_of sealed)
accepted-phase k sealed noise accepted =
    ap (λ (key : KeyElements). step2 key.a key.b key.s (noise_triple noise) (first_of sealed) (second_of sealed))
    (secret-elements k (accepted-done k accepted))

module _ (k sealed noise : List ℕ) (accepted : Accepted k) (triple : HasTriple (first_of k) (second_of k) (first_of sealed) (second_of sealed)) where
  of-elements : DecapsulationPhase (first_of k) (second_of k) (secret_of k) (first_of sealed) (second_of sealed) triple.0 (noise_triple noise)
  of-elements =
      decapsulation-phase (first_of k) (second_of k) (inverse_of (second_of k)) (secret_of k) (first_of sealed) (second_of sealed) triple.0 (noise_triple noise)
      (secret-sound k (accepted-done k accepted)) triple.1 (noise-ternary noise)

  pub weight_bounds : QuotientsWithin (2 * weight_of k) (open_quotients k sealed noise)
  weight_bounds = rw (accepted-phase k sealed noise accepted) of-elements.quotient-bound

  pub most_bounds : QuotientsWithin 4096 (open_quotients k sealed noise)
  most_bounds = rw (accepted-phase k sealed noise accepted) of-elements.largest-quotient

same-margin : (k k' sealed noise : List ℕ) → Accepted k → Accepted k' → SameKey k k' → open_margin k sealed noise ≡ open_margin k' sealed noise
unfolding open_margin
same-margin k k' sealed noise accepted accepted' same =
    ap (λ (m : List ℕ). largest_size (quotients m))
    (accepted-phase k sealed noise accepted
    ∙ ap₃ (λ (a b s : List ℕ). step2 a b s (noise_triple noise) (first_of sealed) (second_of sealed)) same.0 same.1 same.2
    ∙ sym (accepted-phase k' sealed noise accepted'))

pub quotients-exact : QuotientsExact
quotients-exact = record {
  division = λ k sealed noise. division-exact (open_phase k sealed noise);
  by-weight = weight_bounds;
  most = most_bounds;
  either_form = same-margin;
}
