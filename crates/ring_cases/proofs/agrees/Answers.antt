use Rattle.ring_cases.proofs.agrees.Goals as goal

pub returns-in-Products : goal.returns-in-Products
returns-in-Products c = rw c.in-Products.is c.product_agrees.ensures

pub returns-in-Inverses : goal.returns-in-Inverses
returns-in-Inverses c = rw c.in-Inverses.is c.inverse_agrees.ensures

pub returns-in-Remainders : goal.returns-in-Remainders
returns-in-Remainders c = rw c.in-Remainders.is c.remainder_agrees.ensures
