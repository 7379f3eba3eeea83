use mir.Syntax.{w64}
use mir.Val.{Fits}
use borrow.Author.Rules.{rules}
use Rattle.keccak_steps.proofs.Words.{rotate-code}
use Rattle.keccak_steps.proofs.rotate.Goals as goal

pub returns : goal.returns
returns c = rotate-code c.args.n c.args.v (let w : Fits w64 c.args.v = search rules in w.fits) c.requires
