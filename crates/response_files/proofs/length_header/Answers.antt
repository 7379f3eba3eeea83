use Rattle.std.proofs.Common.{arith, ◌∙◌, ap, sym, length}
use Rattle.response_files.proofs.Headers.{header_none}
use Rattle.response_files.proofs.length_header.Goals as goal

pub returns-in_err-digits : goal.returns-in_err-digits
returns-in_err-digits c =
    c.from_residual.ensures ∙ sym (header_none c.args.name.now c.args.text.now (omega (arith, ap length c.value.ensures, c.in_err-digits.ensures.cases)))
