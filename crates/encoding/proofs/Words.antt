-- Words of bytes and bytes of words, entry by entry.
use mathlib.Core.Path.{◌≡◌, sym, ap, ap₂, ◌∙◌}
use mathlib.Core.Logic.{◌↔◌}
use mathlib.Core.List.{List, [], ◌∷◌, ◌++◌}
use Prim.Native.Nat.{ℕ, zero, suc, ◌+◌, ◌*◌, ◌/◌, ◌%◌, ◌<◌, ◌≤◌, min}
use native.Mathlib.Decide.{dec_lt}
use native.Mathlib.Omega.{arith}
use lib.Dec.{ltb}
use lib.ListN.{length, get_or, take, length-append, length-take, get_or-eq_default, get_or-append}
use lib.Seq.{get_or-take, get_or-append-add, take_at}
use borrow.Author.Tests.{lt-ltb, ltb-true, ltb-false}
use Rattle.lists.proofs.Tables.{length-table, get_or-table, table_same, table-append}
use Rattle.lists.proofs.Scan.{before-first, first-none, first_passes, first-within, first-fails}
use Rattle.algebra.specs.Numbers.{Below}
use Rattle.algebra.specs.Numbers as N
use Rattle.algebra.proofs.Numbers.{below_by}
use Rattle.ring.specs.Ring.{q, n, Element}
use Rattle.encoding.specs.Digits.{digit_at}
use Rattle.encoding.specs.Words.{word_at, words, words_to, first_from, bytes_of, element_of, first_unreduced, element_bytes}

-- ---- words

pub length-words : (bytes : List ℕ) → length (words bytes) ≡ length bytes / 2
unfolding words
length-words bytes = length-table (length bytes / 2) (word_at bytes)

pub words_entry : (bytes : List ℕ) (k : ℕ) → k < length bytes / 2 → get_or (words bytes) k 0 ≡ word_at bytes k
unfolding words
words_entry bytes k h = get_or-table (length bytes / 2) (word_at bytes) k 0 h

pub words_missing : (bytes : List ℕ) (k : ℕ) → length bytes / 2 ≤ k → get_or (words bytes) k 0 ≡ 0
words_missing bytes k h = get_or-eq_default (words bytes) 0 {n = k} (rw (length-words bytes) h)

module _ (front rest : List ℕ) (even : length front % 2 ≡ 0) where
  word-before : (k : ℕ) → k < length front / 2 → word_at (front ++ rest) k ≡ word_at front k
  word-before k h =
      ap₂ (λ (x y : ℕ). x + 256 * y)
      (get_or-append front rest 0 (2 * k) (omega arith))
      (get_or-append front rest 0 (2 * k + 1) (omega arith))

  byte_behind : (i j : ℕ) → i ≡ length front + j → get_or (front ++ rest) i 0 ≡ get_or rest j 0
  byte_behind i j e = ap (λ (m : ℕ). get_or (front ++ rest) m 0) e ∙ get_or-append-add front rest j 0

  word_behind : (j : ℕ) → word_at (front ++ rest) (length front / 2 + j) ≡ word_at rest j
  word_behind j =
      ap₂ (λ (x y : ℕ). x + 256 * y)
      (byte_behind (2 * (length front / 2 + j)) (2 * j) (omega arith))
      (byte_behind (2 * (length front / 2 + j) + 1) (2 * j + 1) (omega arith))

  -- the words of a front of even length, then those of the rest
  pub words_append : words (front ++ rest) ≡ words front ++ words rest
  unfolding words
  words_append =
      let count : length (front ++ rest) / 2 ≡ length front / 2 + length rest / 2 = rw (length-append front rest) (omega arith) in
      rw count
      (table-append (length front / 2) (length rest / 2) (word_at (front ++ rest))
      ∙ ap₂ (λ (x y : List ℕ). x ++ y) (table_same _ _ (word_at front) word-before) (table_same _ _ (word_at rest) (λ j h. word_behind j)))

-- ---- the first n words

module _ (n : ℕ) where
  pub length-words_to : (bytes : List ℕ) → length (words_to n bytes) ≡ n
  unfolding words_to
  length-words_to bytes = length-table n _

  pub words_to_entry : (bytes : List ℕ) (k : ℕ) → k < n → get_or (words_to n bytes) k 0 ≡ get_or (words bytes) k 0
  unfolding words_to
  words_to_entry bytes k h = get_or-table n _ k 0 h

  -- the first 2 n bytes are read, and no more
  pub words_to-take : (bytes : List ℕ) → words_to n (take (2 * n) bytes) ≡ words_to n bytes
  unfolding words_to
  words_to-take bytes = table_same n _ _ (λ k h. entry k h (dec_lt k (length bytes / 2)))
    where
      front : List ℕ
      front = take (2 * n) bytes

      size : length front ≡ min (2 * n) (length bytes)
      size = length-take (2 * n) bytes

      entry : (k : ℕ) → k < n → Dec (k < length bytes / 2) → get_or (words front) k 0 ≡ get_or (words bytes) k 0
      entry k h (yes l) =
          words_entry front k (omega (arith, size))
          ∙ ap₂ (λ (x y : ℕ). x + 256 * y) (get_or-take (2 * n) bytes (2 * k) 0 (omega arith)) (get_or-take (2 * n) bytes (2 * k + 1) 0 (omega arith))
          ∙ sym (words_entry bytes k l)
      entry k h (no l) = words_missing front k (omega (arith, size)) ∙ sym (words_missing bytes k (omega arith))

  pub words_to-append : (front rest : List ℕ) → length front ≡ 2 * n → words_to n (front ++ rest) ≡ words_to n front
  words_to-append front rest e = sym (words_to-take (front ++ rest)) ∙ ap (words_to n) (take_at front rest (2 * n) e)

-- ---- the first word that is not below q

module _ (q : ℕ) where
  pub from-within : (a : List ℕ) → first_from q a ≤ length a
  unfolding first_from
  from-within a = first-within (λ w. ltb w q) a

  -- the word that is found
  pub from_found : (a : List ℕ) → first_from q a < length a → q ≤ get_or a (first_from q a) 0
  unfolding first_from
  from_found a h = ltb-false _ q (first-fails (λ w. ltb w q) a h)

  pub from-before : (a : List ℕ) (k : ℕ) → k < first_from q a → get_or a k 0 < q
  unfolding first_from
  from-before a k h = ltb-true (get_or a k 0) q (before-first (λ w. ltb w q) a k h)

  -- no other word is the first
  pub from-unique : (a : List ℕ) (i : ℕ) → i < length a → ((k : ℕ) → k < i → get_or a k 0 < q) → q ≤ get_or a i 0 → first_from q a ≡ i
  from-unique a i h below here = by (dec_lt (first_from q a) i) (dec_lt i (first_from q a))
    where
      by : Dec (first_from q a < i) → Dec (i < first_from q a) → first_from q a ≡ i
      by (yes l) d = absurd (omega (arith, below (first_from q a) l, from_found a (omega arith)))
      by (no l) (yes m) = absurd (omega (arith, from-before a i m))
      by (no l) (no m) = omega arith

  below_in : (a : List ℕ) → Below q a → (k : ℕ) → k < length a → get_or a k 0 < q
  below_in [] b k h = absurd (omega arith)
  below_in (x ∷ a) b zero h = b.0
  below_in (x ∷ a) b (suc k) h = below_in a b.1 k (omega arith)

  -- none is found exactly where every word is below q
  pub from_none : (a : List ℕ) → Below q a → first_from q a ≡ length a
  unfolding first_from
  from_none a b = first-none (λ w. ltb w q) a (λ k h. lt-ltb (get_or a k 0) q (below_in a b k h))

  pub none_from : (a : List ℕ) → first_from q a ≡ length a → Below q a
  unfolding first_from
  none_from a e = below_by q a (λ k h. ltb-true (get_or a k 0) q (first_passes (λ w. ltb w q) a (omega arith) k h))

-- none is found in n words exactly where they are an element
pub from_iff : (q n : ℕ) (a : List ℕ) → length a ≡ n → (first_from q a ≡ n) ↔ N.Element q n a
from_iff q n a size = (
  λ e. record { size = size; below = none_from q a (e ∙ sym size) },
  λ e. from_none q a e.below ∙ size,
)

-- ---- bytes of n words

module _ (n : ℕ) (a : List ℕ) where
  pub length-bytes_of : length (bytes_of n a) ≡ 2 * n
  unfolding bytes_of
  length-bytes_of = length-table (2 * n) (digit_at 256 2 a)

  pub bytes_of_entry : (i : ℕ) → i < 2 * n → get_or (bytes_of n a) i 0 ≡ digit_at 256 2 a i
  unfolding bytes_of
  bytes_of_entry i h = get_or-table (2 * n) (digit_at 256 2 a) i 0 h

  pub bytes_of-below : Below 256 (bytes_of n a)
  bytes_of-below = below_by 256 (bytes_of n a) (λ i h. rw (bytes_of_entry i (omega (arith, length-bytes_of))) (omega arith))

-- ---- ring elements

pub length-element_of : (bytes : List ℕ) → length (element_of bytes) ≡ n
length-element_of bytes = length-words_to n bytes

pub element_of-take : (bytes : List ℕ) → element_of (take 2048 bytes) ≡ element_of bytes
element_of-take bytes = words_to-take n bytes

pub unreduced_iff : (a : List ℕ) → length a ≡ n → (first_unreduced a ≡ n) ↔ Element a
unreduced_iff a size = from_iff q n a size

pub length-element_bytes : (a : List ℕ) → length (element_bytes a) ≡ 2048
length-element_bytes a = length-bytes_of n a
