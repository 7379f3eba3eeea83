use Rattle.make_key_output.proofs.Keys.{of_seed}
use Rattle.make_key_output.proofs.seeded_keys.Goals as goal

pub returns : goal.returns
returns c =
    let called = c in
    let start = called in
    let size = start.requires.input_len in
    let (public-size, secret-size) = start.requires.public_len in
    let answered = called.keygen_from_seed.ensures.value in
    let public = called.keygen_from_seed.ensures.public_after in
    let secret = called.keygen_from_seed.ensures.secret_after in
    let all = of_seed start.args.input.now size start.args.public.now start.args.secret.now public-size secret-size answered public secret in
    record { value = all.0; public_after = all.1.0; secret_after = all.1.1 }
