use mathlib.Core.Path.{◌≡◌, sym, subst, ap, ◌∙◌}
use mathlib.Core.List.{List, [], ◌∷◌}
use Prim.Native.Nat.{ℕ, zero, suc, ◌+◌, ◌-◌, ◌*◌, ◌<◌, ◌≤◌, min}
use native.Mathlib.Numerals.{add-one}
use native.Mathlib.Omega.{arith}
use lib.ListN.{length, get_or, drop, length-drop}
use lib.Seq.{drop-cons}
use Rattle.std.specs.Slice.Iter.{iter_rest}
use Rattle.std.specs.Iterator.Adapters.{take_source, take_count, enumerate_source, enumerate_count}
use Rattle.encoding.specs.Codes.{first_invalid}
use Rattle.encoding.proofs.Codes.{ValidTo, byte-stop, byte_more, valid_end}
use Rattle.encoding.proofs.first_invalid_code.Goals as goal

-- what stands behind entry n of a list, where the whole from that entry on is b and a rest
next_entry : (n : ℕ) (s : List ℕ) (b : ℕ) (rest : List ℕ) → drop n s ≡ b ∷ rest → (n < length s) × (b ≡ get_or s n 0) × (rest ≡ drop (n + 1) s)
next_entry n s b rest e =
    let inside : n < length s = omega (arith, length-drop n s, ap length e) in
    let both = sym e ∙ drop-cons s n 0 inside in
    (inside, ap (λ (l : List ℕ). get_or l 0 0) both, ap (drop 1) both ∙ sym (ap (λ (i : ℕ). drop i s) (add-one n)))

-- 256 bytes are looked at, or all
all_seen : (n left size : ℕ) → n + left ≡ 256 → (0 < left → size - n ≡ 0) → min size 256 * 4 ≤ 4 * n
all_seen n zero size e h = omega arith
all_seen n (suc left) size e h = omega (arith, h (omega arith))

pub returns-then-j-lt4 : goal.returns-then-j-lt4
returns-then-j-lt4 c =
    let bytes = c.args.bytes.now in
    let it = c.loop-i.i-iterator in
    let before = c.loop-i.invariant in
    let steps = c.in-Some.ensures.steps in
    let next = next_entry (enumerate_count it) bytes c.in-Some.b.now (iter_rest (take_source (enumerate_source c.next.new.self))) (sym before.1 ∙ steps.0.0) in
    let place = sym steps.1 in
    byte-stop 256 bytes (subst (λ (i : ℕ). ValidTo 256 bytes (4 * i)) place before.3) (omega (arith, next.0, before.0, steps.0.1))
    (c.invalid_in-j.ensures ∙ ap (λ (b : ℕ). first_invalid 1 (b ∷ [])) (next.1 ∙ ap (λ (i : ℕ). get_or bytes i 0) place)) c.if-j-lt4.true

pub loop-i-preserved : goal.loop-i-preserved
loop-i-preserved c =
    let bytes = c.args.bytes.now in
    let it = c.loop-i.i-iterator in
    let before = c.loop-i.invariant in
    let steps = c.in-Some.ensures.steps in
    let next = next_entry (enumerate_count it) bytes c.in-Some.b.now (iter_rest (take_source (enumerate_source c.next.new.self))) (sym before.1 ∙ steps.0.0) in (
      omega (arith, before.0, steps.0.1, steps.2),
      next.2 ∙ sym (ap (λ (i : ℕ). drop i bytes) steps.2),
      omega (arith, next.0, steps.2),
      byte_more 256 bytes before.3 (omega (arith, before.0, steps.0.1)) (c.invalid_in-j.ensures ∙ ap (λ (b : ℕ). first_invalid 1 (b ∷ [])) next.1)
          (omega (arith, c.if-j-lt4.false)) (omega (arith, steps.2)),
    )

pub returns : goal.returns
returns c =
    let bytes = c.args.bytes.now in
    let it = c.loop-i.i-iterator in
    let before = c.loop-i.invariant in
    valid_end 256 bytes before.3
    (all_seen (enumerate_count it) (take_count (enumerate_source it)) (length bytes) before.0
    (λ h. omega (arith, (c.in-None.ensures.steps.0 h).0, ap length before.1, length-drop (enumerate_count it) bytes)))
