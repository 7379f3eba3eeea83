-- The promises hold in every setting that has the givens.
use Rattle.exactness.specs.Setting.{Setting}
use Rattle.exactness.specs.Givens.{Givens}
use Rattle.exactness.specs.Promises.{Promises}
use Rattle.exactness.proofs.Identities.{error_of-key}
use Rattle.exactness.proofs.Step1.{step1}
use Rattle.exactness.proofs.Noise.{noise-bound, largest-phase}
use Rattle.exactness.proofs.Recovery.{recovers, unique-within_2}
use Rattle.exactness.proofs.Outcomes.{found-ternary}
use Rattle.exactness.proofs.Exactness.{exact}
use Rattle.exactness.proofs.KeyCheck.{key-check}

pub promises : (S : Setting) (G : Givens S) → Promises S G.κ
promises S G = record {
  exact = λ a b i s c1 c2 dummy key h1 h2 hd. exact S G a b i s c1 c2 key h1 h2 dummy hd;
  unique-within_2 = λ a b i s c1 c2 t u key. unique-within_2 S G a b i s key c1 c2 t u;
  found-ternary = found-ternary S G;
  step1 = step1 S G;
  noise-bound = noise-bound S G;
  largest-phase = largest-phase S G;
  recovers = λ a b i s t key. recovers S G a b i s key t;
  key-check = key-check S G;
  key_error_is = λ a s e he. error_of-key S G a s e he.0;
}
