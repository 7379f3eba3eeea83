-- A secret key of either version: document 01's record, "SDK" version 1, or document 02's (No. 5), version 2, which has the inverse of b
-- behind s. Its elements, and what its checks answer.
use Rattle.std.specs.Prelude.{Bool, true, false, cond, ◌||◌, List, ℕ, eqb, length}
use Rattle.std.proofs.Math.Bool.{decide}
use Rattle.lists.specs.Table.{zeros}
use Rattle.ring.specs.Ring.{n}
use Rattle.ring.specs.Invertible.{inverse_of, is_inverse}
use Rattle.ring.specs.Centred.{is_within}
use Rattle.scheme.specs.Scheme.{key_error}
use Rattle.encoding.specs.Header.{has_mark, version_of}
use Rattle.answers.specs.declared.KeyRecord.TheVariants.{SecretKey}
use Rattle.answers.specs.declared.Refusal.TheVariants.{WrongLength, WrongMark, WrongVersion, KeyMismatch, InverseMismatch}
use Rattle.answers.specs.Answers.{unless, and_then, on_done, Answer, Done}
use Rattle.records.specs.Layout.{secret_key_mark, secret_key_version, expanded_key_version, secret_key_length, expanded_key_length}
use Rattle.records.specs.Records.{first_of, second_of, codes_part, secret_of, stored_inverse, header_answer, a_word, b_word, inverse_word, words_answer, elements_answer, codes_answer}
use Rattle.public_keys.specs.PublicKeys.{inverse_answer}

-- ---- mark, version and length

-- its version is 2
abbrev pub is_expanded : (key : List ℕ) → Bool
is_expanded k = eqb (version_of k) expanded_key_version

-- the length that a version sets
abbrev pub length_of : (expanded : Bool) → ℕ
length_of expanded = cond expanded expanded_key_length secret_key_length

-- 2, 3 for a version that is neither, then 1
unfoldable pub layout_answer : (key : List ℕ) → Answer
layout_answer k =
    unless (has_mark secret_key_mark k) WrongMark
    (unless (eqb (version_of k) secret_key_version || is_expanded k) WrongVersion
    (unless (eqb (length k) (length_of (is_expanded k))) WrongLength Done))

-- ---- a secret key by its elements

pub record KeyElements : Type 0 where
  pub a : List ℕ
  pub b : List ℕ
  pub s : List ℕ
  pub inverse : List ℕ

-- the inverse of b is worked out in version 1, and stored in version 2
abbrev pub inverse_in : (expanded : Bool) (key : List ℕ) → List ℕ
inverse_in false k = inverse_of (second_of k)
inverse_in true k = stored_inverse k

abbrev pub parts_of : (expanded : Bool) (key : List ℕ) → KeyElements
parts_of expanded k = record { a = first_of k; b = second_of k; s = secret_of k; inverse = inverse_in expanded k }

abbrev pub no_elements : KeyElements
no_elements = record { a = zeros n; b = zeros n; s = zeros n; inverse = zeros n }

-- those of a record; nothing is read where mark, version or length are refused
unfoldable pub elements_of : (key : List ℕ) → KeyElements
elements_of k = on_done (layout_answer k) (parts_of (is_expanded k) k) no_elements

-- ---- what stands behind mark, version and length

-- 4 of the stored inverse, which version 2 has
unfoldable pub stored_words_answer : (expanded : Bool) (key : List ℕ) → Answer
stored_words_answer false k = Done
stored_words_answer true k = words_answer inverse_word (stored_inverse k)

-- 4: a, b, then the stored inverse
unfoldable pub secret_words_answer : (expanded : Bool) (key : List ℕ) → Answer
secret_words_answer expanded k = and_then (elements_answer (a_word SecretKey) (b_word SecretKey) (first_of k) (second_of k)) (stored_words_answer expanded k)

-- 6 in version 1; in version 2 13: b × the stored inverse is not 1
unfoldable pub unit_answer : (expanded : Bool) (key : List ℕ) → Answer
unit_answer false k = inverse_answer (second_of k)
unit_answer true k = unless (decide (is_inverse (second_of k) (stored_inverse k))) InverseMismatch Done

-- 7
unfoldable pub match_answer : (key : List ℕ) → Answer
match_answer k = unless (is_within 1 (key_error (first_of k) (second_of k) (secret_of k))) KeyMismatch Done

-- 4, 5, 6 or 13, 7
unfoldable pub content_answer : (expanded : Bool) (key : List ℕ) → Answer
content_answer expanded k =
    and_then (secret_words_answer expanded k) (and_then (codes_answer (codes_part k)) (and_then (unit_answer expanded k) (match_answer k)))

-- ---- all checks

-- of a secret key of either version
unfoldable pub secret_answer : (key : List ℕ) → Answer
secret_answer k = and_then (layout_answer k) (content_answer (is_expanded k) k)

-- of one version; any other is 3
unfoldable pub version_answer : (version : ℕ) (key : List ℕ) → Answer
version_answer version k = and_then (header_answer secret_key_mark version k) (secret_answer k)
