use mathlib.Core.Path.{◌≡◌, sym, ap, ap₂, ◌∙◌}
use mathlib.Core.Bool.{Bool, true}
use mathlib.Core.List.{List}
use Prim.Native.Nat.{ℕ, ◌≤◌}
use native.Mathlib.Omega.{arith}
use lib.ListN.{length, take}
use lib.Seq.{length-take-le}
use Rattle.hexadecimal.specs.Hex.{bytes_of, decoded, written}
use Rattle.response_files.specs.Lines.{value_of}
use Rattle.response_files.specs.Fields.{is_hex}
use Rattle.response_files.proofs.Hex.{hex_facts, hex-decoded}
use Rattle.nist_cases.specs.Cases.{output_name, most, agrees, judged}
use Rattle.nist_cases.proofs.judge.Goals as goal

-- what the digits of the line tell
told : (text digits buffer : List ℕ) (size : ℕ) {r : Bool} → digits ≡ value_of output_name text → most ≡ length buffer
    → r ≡ is_hex (length buffer) size digits → is_hex most size (value_of output_name text) ≡ r
told text digits buffer size d b e = sym (e ∙ ap₂ (λ (room : ℕ) (v : List ℕ). is_hex room size v) (sym b) d)

-- where they are as many bytes as there is room for, these stand at the front of the buffer
record Read (text now : List ℕ) (size : ℕ) : Type 0 where
  pub hex : is_hex most size (value_of output_name text) ≡ true
  pub fits : size ≤ length now
  pub lent : length (take size now) ≡ size
  pub room : length (take size now) ≤ most
  pub expected : take size now ≡ bytes_of (value_of output_name text)

read : (text digits buffer now : List ℕ) (size : ℕ) {r : Bool} → digits ≡ value_of output_name text → most ≡ length buffer
    → r ≡ is_hex (length buffer) size digits → now ≡ written (decoded digits) buffer → length now ≡ length buffer → r ≡ true → Read text now size
read text digits buffer now size d b e w l t =
    let line : List ℕ = value_of output_name text in
    let hex : is_hex most size line ≡ true = told text digits buffer size d b e ∙ t in
    let within : size ≤ most = (hex_facts most size line hex).most in
    let fits : size ≤ length now = omega (arith, within, b, l) in
    let lent = length-take-le size now fits in
    record {
      hex = hex;
      fits = fits;
      lent = lent;
      room = omega (arith, within, lent);
      expected = ap (take size) (w ∙ ap (λ (v : List ℕ). written (decoded v) buffer) d) ∙ hex-decoded most size line hex buffer (omega (arith, within, b));
    }

pub returns-then-not-read_hex : goal.returns-then-not-read_hex
unfolding judged
returns-then-not-read_hex c = rw (told c.args.text.now c.value-digits.result.now c.large_buffer-expected.result c.args.size c.value-digits.ensures c.large_buffer-expected.ensures c.read_hex.ensures.value ∙ c.if-not-read_hex.true)

pub slice_bounds-expected-end : goal.slice_bounds-expected-end
slice_bounds-expected-end c =
    let r = read c.args.text.now c.value-digits.result.now c.large_buffer-expected.result c.read_hex.new.out c.args.size c.value-digits.ensures c.large_buffer-expected.ensures c.read_hex.ensures.value c.read_hex.ensures.out_after c.read_hex.auto.out c.if-not-read_hex.false in
    r.fits

pub slice_bounds-agrees-end : goal.slice_bounds-agrees-end
slice_bounds-agrees-end c =
    let r = read c.args.text.now c.value-digits.result.now c.large_buffer-expected.result c.read_hex.new.out c.args.size c.value-digits.ensures c.large_buffer-expected.ensures c.read_hex.ensures.value c.read_hex.ensures.out_after c.read_hex.auto.out c.if-not-read_hex.false in
    sym r.lent

pub agrees-requires : goal.agrees-requires
agrees-requires c =
    let r = read c.args.text.now c.value-digits.result.now c.large_buffer-expected.result c.read_hex.new.out c.args.size c.value-digits.ensures c.large_buffer-expected.ensures c.read_hex.ensures.value c.read_hex.ensures.out_after c.read_hex.auto.out c.if-not-read_hex.false in
    r.room

pub returns-then-agrees : goal.returns-then-agrees
unfolding judged
returns-then-agrees c =
    let r = read c.args.text.now c.value-digits.result.now c.large_buffer-expected.result c.read_hex.new.out c.args.size c.value-digits.ensures c.large_buffer-expected.ensures c.read_hex.ensures.value c.read_hex.ensures.out_after c.read_hex.auto.out c.if-not-read_hex.false in
    rw (r.hex, sym (c.agrees.ensures ∙ ap (agrees c.args.function c.args.message.now) r.expected) ∙ c.if-agrees.true)

pub returns-else-agrees : goal.returns-else-agrees
unfolding judged
returns-else-agrees c =
    let r = read c.args.text.now c.value-digits.result.now c.large_buffer-expected.result c.read_hex.new.out c.args.size c.value-digits.ensures c.large_buffer-expected.ensures c.read_hex.ensures.value c.read_hex.ensures.out_after c.read_hex.auto.out c.if-not-read_hex.false in
    rw (r.hex, sym (c.agrees.ensures ∙ ap (agrees c.args.function c.args.message.now) r.expected) ∙ c.if-agrees.false)
