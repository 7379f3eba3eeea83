use mathlib.Core.Path.{sym, ◌∙◌}
use Rattle.make_key_output.specs.MakeKey.{standard_error}
use Rattle.make_key_output.proofs.Printing.{output-done, output_refused}
use Rattle.make_key_output.proofs.make_key.Goals as goal

pub returns-in-Ok : goal.returns-in-Ok
unfolding standard_error
returns-in-Ok c =
    let lined = c in
    let made = lined in
    let start = made in
    let input = start.args.input.now in
    let answered = made.keys_of-answer.ensures.value in
    let public = made.keys_of-answer.ensures.public_after in
    let secret = made.keys_of-answer.ensures.secret_after in
    let told = c.in-Ok.is in
    let (public-size, secret-size) = start.requires in
    let output = output-done input start.args.public.now (sym answered ∙ told) (rw told at public) (rw told at secret) public-size
    (made.keys_of-answer.auto.secret ∙ secret-size) c.public_length.ensures in
    record {
      public_after = rw answered at public;
      secret_after = rw answered at secret;
      public_value = output.public_length;
      secret_value = output.secret_length;
      secret_after_2 = output.bytes;
      error_value = rw answered at lined.line-error.ensures;
    }

pub returns : goal.returns
unfolding standard_error
returns c =
    let made = c in
    let start = made in
    let input = start.args.input.now in
    let answered = made.keys_of-answer.ensures.value in
    let public = made.keys_of-answer.ensures.public_after in
    let secret = made.keys_of-answer.ensures.secret_after in
    let output = output_refused input made.keys_of-answer.new.public made.keys_of-answer.new.secret (sym answered ∙ c.in_default.is) in
    record {
      public_after = rw answered at public;
      secret_after = rw answered at secret;
      public_value = output.public_length;
      secret_value = output.secret_length;
      secret_after_2 = output.bytes;
      error_value = rw answered at c.line-error.ensures;
    }
