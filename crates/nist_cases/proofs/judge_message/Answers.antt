use mathlib.Core.Path.{◌≡◌, sym, ap, ap₂, ◌∙◌}
use mathlib.Core.Bool.{Bool, true}
use mathlib.Core.List.{List}
use Prim.Native.Nat.{ℕ, ◌≤◌}
use native.Mathlib.Omega.{arith}
use lib.ListN.{length, take}
use lib.Seq.{length-take-le}
use Rattle.hexadecimal.specs.Hex.{bytes_of}
use Rattle.response_files.specs.Lines.{value_of}
use Rattle.nist_cases.specs.Cases.{message_name, most, judged, is_message, message_in, judged_message}
use Rattle.nist_cases.proofs.Messages.{message-most, message-read}
use Rattle.nist_cases.proofs.judge_message.Goals as goal

-- what the digits of the line tell
told : (text digits buffer : List ℕ) (bytes : ℕ) {r : Bool} → digits ≡ value_of message_name text → most ≡ length buffer
    → r ≡ is_message (length buffer) bytes digits → is_message most bytes (value_of message_name text) ≡ r
told text digits buffer bytes d b e = sym (e ∙ ap₂ (λ (room : ℕ) (v : List ℕ). is_message room bytes v) (sym b) d)

-- where they are a message of so many bytes, it stands at the front of the buffer
record Read (text now : List ℕ) (bytes : ℕ) : Type 0 where
  pub told : is_message most bytes (value_of message_name text) ≡ true
  pub fits : bytes ≤ length now
  pub message : take bytes now ≡ take bytes (bytes_of (value_of message_name text))

read : (text digits buffer now : List ℕ) (bytes : ℕ) {r : Bool} → digits ≡ value_of message_name text → most ≡ length buffer
    → r ≡ is_message (length buffer) bytes digits → now ≡ message_in bytes digits buffer → length now ≡ length buffer → r ≡ true
    → Read text now bytes
read text digits buffer now bytes d b e w l t =
    let line : List ℕ = value_of message_name text in
    let known : is_message most bytes line ≡ true = told text digits buffer bytes d b e ∙ t in
    let within : bytes ≤ most = message-most most line bytes known in
    record {
      told = known;
      fits = omega (arith, within, b, l);
      message = ap (take bytes) (w ∙ ap (λ (v : List ℕ). message_in bytes v buffer) d) ∙ message-read most line bytes known buffer (omega (arith, within, b));
    }

pub returns-then-not-read_message : goal.returns-then-not-read_message
unfolding judged_message
returns-then-not-read_message c = rw (told c.args.text.now c.value-digits.result.now c.large_buffer-message.result c.args.bytes c.value-digits.ensures c.large_buffer-message.ensures c.read_message.ensures.value ∙ c.if-not-read_message.true)

pub slice_bounds-message-end : goal.slice_bounds-message-end
slice_bounds-message-end c =
    let r = read c.args.text.now c.value-digits.result.now c.large_buffer-message.result c.read_message.new.out c.args.bytes c.value-digits.ensures c.large_buffer-message.ensures c.read_message.ensures.value c.read_message.ensures.out_after c.read_message.auto.out c.if-not-read_message.false in
    r.fits

pub slice_bounds-judge-end : goal.slice_bounds-judge-end
slice_bounds-judge-end c =
    let r = read c.args.text.now c.value-digits.result.now c.large_buffer-message.result c.read_message.new.out c.args.bytes c.value-digits.ensures c.large_buffer-message.ensures c.read_message.ensures.value c.read_message.ensures.out_after c.read_message.auto.out c.if-not-read_message.false in
    sym (length-take-le _ _ r.fits)

pub returns : goal.returns
unfolding judged_message
returns c =
    let r = read c.args.text.now c.value-digits.result.now c.large_buffer-message.result c.read_message.new.out c.args.bytes c.value-digits.ensures c.large_buffer-message.ensures c.read_message.ensures.value c.read_message.ensures.out_after c.read_message.auto.out c.if-not-read_message.false in
    rw r.told
    (c.judge.ensures
    ∙ ap₂ (λ (m t : List ℕ). judged c.args.function m c.args.size t) r.message c.after_line.ensures)
