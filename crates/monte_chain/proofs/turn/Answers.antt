use mathlib.Core.Path.{◌≡◌, sym, ap, ◌∙◌}
use Prim.Native.Nat.{ℕ, ◌≤◌}
use native.Mathlib.Omega.{arith}
use lib.ListN.{length, take, drop, replicate, length-append}
use lib.Seq.{length-take-le, take_at}
use Rattle.lists.proofs.Zeros.{size-zeros}
use Rattle.monte_chain.specs.declared.Function.{Function}
use Rattle.monte_chain.specs.Monte.{output_of, output_size, chain_of, turned}
use Rattle.monte_chain.proofs.Chains.{size_least, size-most}
use Rattle.monte_chain.proofs.turn.Goals as goal

-- the output has two bytes at least, and the buffer has room for it
two : (f : Function) (extra n : ℕ) → n ≡ output_size f extra → 2 ≤ n
two f extra n e = rw e (size_least f extra)

room : (f : Function) (extra n : ℕ) → n ≡ output_size f extra → n ≤ 250
room f extra n e = rw e (size-most f extra)

-- the part of the buffer that is lent has n bytes
lent : (n : ℕ) → n ≤ 250 → length {A = ℕ} (take n (replicate 250 0)) ≡ n
lent n h = length-take-le n (replicate 250 0) (omega (arith, size-zeros 250, h))

pub slice_bounds-output-end : goal.slice_bounds-output-end
slice_bounds-output-end c = room _ _ _ c.output_size-n.ensures

pub slice_bounds-put_output-end-2 : goal.slice_bounds-put_output-end-2
slice_bounds-put_output-end-2 c = sym (lent c.output_size-n.result (room _ _ _ c.output_size-n.ensures))

pub slice_bounds-output-end-2 : goal.slice_bounds-output-end-2
slice_bounds-output-end-2 c =
    let filled : length c.put_output.new.output ≡ c.output_size-n.result = c.put_output.auto.output ∙ lent c.output_size-n.result (room _ _ _ c.output_size-n.ensures) in
    rw length-append (omega (arith, filled))

pub slice_bounds-chain_of-end : goal.slice_bounds-chain_of-end
slice_bounds-chain_of-end c =
    let filled : length c.put_output.new.output ≡ c.output_size-n.result = c.put_output.auto.output ∙ lent c.output_size-n.result (room _ _ _ c.output_size-n.ensures) in
    sym (ap length (take_at c.put_output.new.output _ c.output_size-n.result filled) ∙ filled)

pub chain_of-requires : goal.chain_of-requires
chain_of-requires c =
    let filled : length c.put_output.new.output ≡ c.output_size-n.result = c.put_output.auto.output ∙ lent c.output_size-n.result (room _ _ _ c.output_size-n.ensures) in
    omega (arith, ap length (take_at c.put_output.new.output (drop c.output_size-n.result (replicate 250 0)) c.output_size-n.result filled), filled, two _ _ _ c.output_size-n.ensures)

pub returns : goal.returns
unfolding turned
returns c =
    let n = c.output_size-n.result in
    let lent_part = lent n (room _ _ _ c.output_size-n.ensures) in
    let filled : length c.put_output.new.output ≡ n = c.put_output.auto.output ∙ lent_part in
    c.chain_of.ensures
    ∙ ap chain_of
    (take_at c.put_output.new.output _ n filled ∙ c.put_output.ensures ∙ ap (output_of c.args.function c.args.c.message) (lent_part ∙ c.output_size-n.ensures))
