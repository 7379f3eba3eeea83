use Prim.Native.Nat.{◌*◌}
use native.Mathlib.Omega.{arith}
use lib.Dec.{eqb}
use lib.ListN.{length}
use borrow.Author.Tests.{eqb-true, eq-eqb}
use Rattle.response_files.proofs.Hex.{hex_test, not_hex}
use Rattle.response_files.proofs.read_hex.Goals as goal

pub returns-then-n-eq0 : goal.returns-then-n-eq0
returns-then-n-eq0 c =
    let called = c in record { value = not_hex _ _ _ _ called.decode-n.ensures.value (λ o s. omega arith); out_after = called.decode-n.ensures.out_after }

pub returns-then-n-size : goal.returns-then-n-size
returns-then-n-size c =
    let called = c in record { value = not_hex _ _ _ _ called.decode-n.ensures.value (λ o s. c.if-n-size.true s); out_after = called.decode-n.ensures.out_after }

pub returns : goal.returns
returns c =
    let called = c in
    let text = called.args.text.now in
    let n = called.decode-n.result in record {
      value = hex_test _ _ _ n called.decode-n.ensures.value (eqb (length text) (2 * n))
          (λ t. (omega arith, c.if-n-size.false, eqb-true (length text) (2 * n) t))
          (λ o s p. eq-eqb (length text) (2 * n) p);
      out_after = called.decode-n.ensures.out_after;
    }
