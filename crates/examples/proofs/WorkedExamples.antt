-- Every starred worked example holds, straight from the definitions.
use mathlib.Core.Path.{refl}
use native.Mathlib.Omega.{arith}
use Rattle.ring.specs.Centred.{centred, around_zero, centred_remainder}
use Rattle.ring.proofs.Powers.{powers_wrap}
use Rattle.sampling.specs.Noise.{folded, four_bits}
use Rattle.gf128.specs.Field.{carryless_product, remainder, times}
use Rattle.gf128.specs.Bytes.{bytes, product}
use Rattle.examples.specs.Examples.{AllHold, examples}

pub examples_hold : AllHold examples
unfolding centred around_zero centred_remainder folded four_bits carryless_product remainder times bytes product
examples_hold =
    let x1023 = powers_wrap 1023 1 (omega arith) (omega arith) refl in
    let x512 = powers_wrap 512 512 (omega arith) (omega arith) refl in
    (x1023, (x512, (refl, (refl, (refl, (refl, (refl, (refl, (refl, (refl, (refl, (refl, (refl, (refl, (refl, (refl, (refl, (refl, tt))))))))))))))))))
