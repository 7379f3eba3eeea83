use mathlib.Core.Path.{refl}
use Rattle.call_cases.specs.declared.Call.TheVariants.{Encapsulate, Decapsulate, Seal, Open, SealBatch}
use Rattle.call_cases.specs.declared.Call.TheVariants.{ExpandSecretKey, CompactSecretKey, Shake128, Shake256}
use Rattle.call_cases.proofs.Calls.{called}
use Rattle.call_cases.proofs.run.Goals as goal

pub returns-in-Encapsulate : goal.returns-in-Encapsulate
returns-in-Encapsulate c =
    let args = c.args in
    let all = called Encapsulate args.x.now args.y.now args.z.now args.out.now
    c.in-Encapsulate.is (c.encapsulate.ensures.value, c.encapsulate.ensures.out_after) in
    record { value = all.0; out_after = all.1 }

pub returns-in-Decapsulate : goal.returns-in-Decapsulate
returns-in-Decapsulate c =
    let args = c.args in
    let all = called Decapsulate args.x.now args.y.now args.z.now args.out.now
    c.in-Decapsulate.is (c.decapsulate.ensures.value, c.decapsulate.ensures.out_after) in
    record { value = all.0; out_after = all.1 }

pub returns-in-Seal : goal.returns-in-Seal
returns-in-Seal c =
    let args = c.args in
    let all = called Seal args.x.now args.y.now args.z.now args.out.now
    c.in-Seal.is (c.seal.ensures.value, c.seal.ensures.out_after) in
    record { value = all.0; out_after = all.1 }

pub returns-in-Open : goal.returns-in-Open
returns-in-Open c =
    let args = c.args in
    let all = called Open args.x.now args.y.now args.z.now args.out.now
    c.in-Open.is (c.open.ensures.value, c.open.ensures.out_after) in
    record { value = all.0; out_after = all.1 }

pub returns-in-SealBatch : goal.returns-in-SealBatch
returns-in-SealBatch c =
    let args = c.args in
    let all = called SealBatch args.x.now args.y.now args.z.now args.out.now
    c.in-SealBatch.is (c.seal_batch.ensures.value, c.seal_batch.ensures.out_after) in
    record { value = all.0; out_after = all.1 }

pub returns-in-ExpandSecretKey : goal.returns-in-ExpandSecretKey
returns-in-ExpandSecretKey c =
    let args = c.args in
    let all = called ExpandSecretKey args.x.now args.y.now args.z.now args.out.now
    c.in-ExpandSecretKey.is
    (c.expand_secret_key.ensures.value, c.expand_secret_key.ensures.out_after) in
    record { value = all.0; out_after = all.1 }

pub returns-in-CompactSecretKey : goal.returns-in-CompactSecretKey
returns-in-CompactSecretKey c =
    let args = c.args in
    let all = called CompactSecretKey args.x.now args.y.now args.z.now args.out.now
    c.in-CompactSecretKey.is
    (c.compact_secret_key.ensures.value, c.compact_secret_key.ensures.out_after) in
    record { value = all.0; out_after = all.1 }

pub returns-in-Shake128 : goal.returns-in-Shake128
returns-in-Shake128 c =
    let args = c.args in
    let all = called Shake128 args.x.now args.y.now args.z.now args.out.now
    c.in-Shake128.is (refl, c.shake128.ensures) in
    record { value = all.0; out_after = all.1 }

pub returns-in-Shake256 : goal.returns-in-Shake256
returns-in-Shake256 c =
    let args = c.args in
    let all = called Shake256 args.x.now args.y.now args.z.now args.out.now
    c.in-Shake256.is (refl, c.shake256.ensures) in
    record { value = all.0; out_after = all.1 }
