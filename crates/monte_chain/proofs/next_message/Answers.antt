use Rattle.monte_chain.proofs.Chains.{message-copied}
use Rattle.monte_chain.proofs.next_message.Goals as goal

pub returns : goal.returns
returns c =
    rw c.copy_from_slice.ensures.after (message-copied c.args.output.now c.min-n.result c.min-n.ensures)
