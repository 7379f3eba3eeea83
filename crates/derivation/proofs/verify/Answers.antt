use mathlib.Core.List.{◌++◌}
use Rattle.std.proofs.Common.{rules}
use Rattle.derivation.proofs.Laws.{genuine_by}
use Rattle.derivation.proofs.verify.Goals as goal

pub returns : goal.returns
returns c =
    let args = c.args in
    let t = args.t in
    let (first, second, third) = c.derive_keys-keys.ensures in
    let genuine = genuine_by t.r t.e1 t.e2 (args.front.now ++ args.body.now) args.tag second third c.tag-expected.ensures c.equal-genuine.ensures in
    record { genuine_value = genuine; k0_value = search (rules, first) }
