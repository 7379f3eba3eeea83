use mathlib.Core.Path.{◌∙◌}
use Rattle.encoding.proofs.Headers.{starts}
use borrow.Author.Rules.{rules}
use Rattle.encoding.proofs.has_mark.Goals as goal

pub returns : goal.returns
returns c = c.starts_with.ensures.value ∙ starts c.args.mark c.args.bytes.now (search rules)
