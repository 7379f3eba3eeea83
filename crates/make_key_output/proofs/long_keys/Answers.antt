use mathlib.Core.Path.{refl}
use mathlib.Core.List.{List}
use Prim.Native.Nat.{ℕ}
use Rattle.records.specs.Records.{part}
use Rattle.records.proofs.Writing.{argument_is}
use Rattle.calls.specs.Calls.{keygen_secret}
use Rattle.make_key_output.proofs.Keys.{of-stream}
use Rattle.make_key_output.proofs.long_keys.Goals as goal

pub returns : goal.returns
returns c =
    let called = c in
    let start = called in
    let input = start.args.input.now in
    let public = start.args.public.now in
    let secret = start.args.secret.now in
    let size = start.requires.input_len in
    let (public-size, secret-size) = start.requires.public_len in
    let answered = called.keygen.ensures.value in
    let new-public = called.keygen.ensures.public_after in
    let new-secret = called.keygen.ensures.secret_after in
    -- compared by itself, so that other noise is seen at once
    let by-s = argument_is (λ (s : List ℕ). keygen_secret (part 0 2688 input) s (part 3200 512 input) public secret) _ (part 2688 512 input) new-secret refl in
    let all = of-stream input size public secret public-size secret-size answered new-public by-s in
    record { value = all.0; public_after = all.1.0; secret_after = all.1.1 }
