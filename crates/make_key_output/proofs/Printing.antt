-- What is printed by the answer.
use mathlib.Core.Path.{◌≡◌, sym, ap, ap₂, ◌∙◌}
use mathlib.Core.List.{List, [], ◌++◌}
use Prim.Native.Nat.{ℕ, ◌≤◌}
use native.Mathlib.Omega.{arith}
use lib.ListN.{length, take, drop}
use lib.Seq.{take_all, take_at}
use Rattle.answers.specs.declared.Refusal.{Refusal}
use Rattle.answers.specs.Answers.{on_done, Answer, Done}
use Rattle.text.specs.Text.{written}
use Rattle.text.proofs.Texts.{written-fits}
use Rattle.make_key_output.specs.MakeKey.{make_key_answer, public_key, secret_key, standard_output}
use Rattle.make_key_output.proofs.Keys.{public-room}
use Rattle.std.specs.Prelude.{Err}

-- ---- standard output: so many bytes of each buffer

pub record Output (input public secret : List ℕ) (p s : ℕ) : Type 0 where
  pub public_length : (p ≡ length (on_done (make_key_answer input) (public_key input) [])) × (p ≤ 4101)
  pub secret_length : (s ≡ length (on_done (make_key_answer input) (secret_key input) [])) × (s ≤ 4357)
  pub bytes : take p public ++ take s secret ≡ standard_output input

pub output-done : (input old : List ℕ) {public secret : List ℕ} {p : ℕ} → make_key_answer input ≡ Done → public ≡ written (public_key input) old
    → secret ≡ secret_key input → length old ≡ 4101 → length secret ≡ 4357 → p ≡ length (public_key input) → Output input public secret p 4357
unfolding standard_output
output-done input old {public} {secret} {p} e ep es sp ss size =
    let fits : p ≤ 4101 = omega (arith, public-room input) in
    let front = ap (take p) (ep ∙ written-fits (public_key input) old (omega arith)) ∙ take_at (public_key input) (drop (length (public_key input)) old) p (sym size) in
    record {
      public_length = (size ∙ ap (λ (a : Answer). length (on_done a (public_key input) [])) (sym e), fits);
      secret_length = (sym ss ∙ ap length es ∙ ap (λ (a : Answer). length (on_done a (secret_key input) [])) (sym e), omega arith);
      bytes = ap₂ ◌++◌ front (take_all 4357 secret (omega arith) ∙ es) ∙ ap (λ (a : Answer). on_done a (public_key input ++ secret_key input) []) (sym e);
    }

pub output_refused : (input public secret : List ℕ) {r : Refusal} → make_key_answer input ≡ Err r → Output input public secret 0 0
unfolding standard_output
output_refused input public secret e = record {
  public_length = (ap (λ (a : Answer). length (on_done a (public_key input) [])) (sym e), omega arith);
  secret_length = (ap (λ (a : Answer). length (on_done a (secret_key input) [])) (sym e), omega arith);
  bytes = ap (λ (a : Answer). on_done a (public_key input ++ secret_key input) []) (sym e);
}
