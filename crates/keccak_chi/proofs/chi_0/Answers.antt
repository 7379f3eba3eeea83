use mathlib.Core.Path.{sym}
use lib.ListN.{get_or}
use mir.Syntax.{w64}
use mir.Val.{Fits}
use borrow.Author.Rules.{rules}
use Rattle.keccak_chi.proofs.ChiPlanes.{chi-0}
use Rattle.keccak_chi.proofs.chi_0.Goals as goal

pub returns : goal.returns
returns c = sym (chi-0 c.args.p (λ x. let w : Fits w64 (get_or c.args.p x 0) = search rules in w.fits))
