use Rattle.std.proofs.Common.{arith, ℕ, ◌≡◌, ◌+◌, ◌-◌, ◌*◌, length, get_or}
use Rattle.monte_chain.specs.Monte.{chain_of}
use Rattle.monte_chain.proofs.chain_of.Goals as goal

pub returns : goal.returns
unfolding chain_of
returns c =
    let n : ℕ = length c.args.output.now in
    let extra : c.from_be_bytes.result ≡ 256 * get_or c.args.output.now (n - 2) 0 + get_or c.args.output.now (n - 1) 0 = omega (arith, c.from_be_bytes.ensures) in
    rw (c.next_message.ensures, extra)
