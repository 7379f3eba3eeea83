use native.Mathlib.Omega.{arith}
use Rattle.hexadecimal.proofs.Digits.{within_it, below_it, above_it}
use Rattle.hexadecimal.proofs.value.Goals as goal

pub returns-in-48-to-57 : goal.returns-in-48-to-57
returns-in-48-to-57 c =
    let x = c.args.c in
    simp (within_it 48 57 x (omega arith) (omega arith))

pub returns-in-65-to-70 : goal.returns-in-65-to-70
returns-in-65-to-70 c =
    let x = c.args.c in
    simp (above_it 48 57 x (omega arith) (omega arith), below_it 97 102 x (omega arith), within_it 65 70 x (omega arith) (omega arith))

pub returns-in-97-to-102 : goal.returns-in-97-to-102
returns-in-97-to-102 c =
    let x = c.args.c in
    simp (above_it 48 57 x (omega arith) (omega arith), within_it 97 102 x (omega arith) (omega arith))

pub returns-in_default : goal.returns-in_default
returns-in_default c =
    let x = c.args.c in
    simp (below_it 48 57 x (omega arith), below_it 97 102 x (omega arith), below_it 65 70 x (omega arith))

pub returns-in_default-2 : goal.returns-in_default-2
returns-in_default-2 c =
    let x = c.args.c in
    simp (above_it 48 57 x (omega arith) (omega arith), below_it 97 102 x (omega arith), below_it 65 70 x (omega arith))

pub returns-in_default-3 : goal.returns-in_default-3
returns-in_default-3 c =
    let x = c.args.c in
    simp (above_it 48 57 x (omega arith) (omega arith), below_it 97 102 x (omega arith), above_it 65 70 x (omega arith) (omega arith))

pub returns-in_default-4 : goal.returns-in_default-4
returns-in_default-4 c =
    let x = c.args.c in
    simp (above_it 48 57 x (omega arith) (omega arith), above_it 97 102 x (omega arith) (omega arith), above_it 65 70 x (omega arith) (omega arith))
