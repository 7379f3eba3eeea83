-- Laws of the messages that a line tells.
use mathlib.Core.Path.{◌≡◌, refl, sym, ◌∙◌}
use mathlib.Core.Bool.{true}
use mathlib.Core.List.{List}
use Prim.Native.Nat.{ℕ, zero, suc, ◌≤◌}
use native.Mathlib.Omega.{arith}
use lib.Dec.{eqb-suc-zero}
use lib.ListN.{length, take}
use lib.Seq.{take_all}
use Rattle.hexadecimal.specs.Hex.{bytes_of}
use Rattle.response_files.specs.Fields.{is_hex}
use Rattle.response_files.proofs.Hex.{hex_facts, length_hex, hex-decoded}
use Rattle.nist_cases.specs.Cases.{is_message, message_in}

module _ (room : ℕ) (digits : List ℕ) where
  -- a message that is not empty
  message_hex : (b : ℕ) → is_message room (suc b) digits ≡ true → is_hex room (suc b) digits ≡ true
  unfolding is_message
  message_hex b e = rw (eqb-suc-zero b) at e

  pub message-most : (bytes : ℕ) → is_message room bytes digits ≡ true → bytes ≤ room
  message-most zero e = omega arith
  message-most (suc b) e = (hex_facts room (suc b) digits (message_hex b e)).most

  -- what is read into a buffer that has room
  pub message-read : (bytes : ℕ) → is_message room bytes digits ≡ true → (out : List ℕ) → bytes ≤ length out
      → take bytes (message_in bytes digits out) ≡ take bytes (bytes_of digits)
  message-read zero e out fits = refl
  message-read (suc b) e out fits =
      let hex = message_hex b e in
      rw (eqb-suc-zero b)
      (hex-decoded room (suc b) digits hex out fits
      ∙ sym (take_all (suc b) (bytes_of digits) (omega (arith, length_hex room (suc b) digits hex))))
