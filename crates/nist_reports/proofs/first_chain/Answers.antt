use Rattle.monte_chain.proofs.Chains.{sizes_ordered}
use Rattle.nist_reports.specs.Reports.{first_chain}
use Rattle.nist_reports.proofs.first_chain.Goals as goal

pub overflow_sub-extra : goal.overflow_sub-extra
overflow_sub-extra c =
    rw (c.least_size.ensures, c.greatest_size.ensures)
    (sizes_ordered c.args.function)

pub returns : goal.returns
unfolding first_chain
returns c =
    rw (← c.decode.ensures.out_after, ← c.least_size.ensures, ← c.greatest_size.ensures)
    c.many_turns.ensures
