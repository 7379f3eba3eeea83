-- The words that are taken from a stream.
use mathlib.Core.Path.{◌≡◌, refl, ap, ap₂, ◌∙◌}
use mathlib.Core.Logic.{ite}
use mathlib.Core.List.{List, [], ◌∷◌, ◌++◌, append-nil, filter-append}
use Prim.Native.Nat.{ℕ, zero, suc, ◌+◌, ◌-◌, ◌*◌, ◌/◌, ◌%◌, ◌<◌, ◌≤◌, min}
use native.Mathlib.Decide.{dec_lt}
use native.Mathlib.Omega.{arith}
use lib.ListN.{length, get_or, take, length-append, length-take, length-replicate}
use lib.Seq.{get_or-take, take_all, take-append-le, take-append-add}
use Rattle.lists.specs.Table.{zeros}
use Rattle.algebra.specs.Numbers.{Below}
use Rattle.algebra.specs.Numbers as N
use Rattle.modq.proofs.Prime.{q-positive}
use Rattle.algebra.proofs.Numbers.{below-append}
use Rattle.ring.specs.Ring.{q, n, Element}
use Rattle.encoding.specs.Words.{word_at, words}
use Rattle.encoding.proofs.Words.{length-words, words_entry, words_append}
use Rattle.sampling.specs.Stream.{reduced, taken_of, uniform_of, taken, uniform_element}

-- ---- words below q

module _ (q : ℕ) where
  pub reduced-append : (xs ys : List ℕ) → reduced q (xs ++ ys) ≡ reduced q xs ++ reduced q ys
  unfolding reduced
  reduced-append xs ys = filter-append {p = λ w. w < q} (λ w. dec_lt w q) xs ys

  pub reduced-take : (w : ℕ) → w < q → reduced q (w ∷ []) ≡ w ∷ []
  unfolding reduced
  reduced-take w h = by (dec_lt w q)
    where
      by : (d : Dec (w < q)) → ite {C = List ℕ} d (w ∷ []) [] ≡ w ∷ []
      by (yes l) = refl
      by (no l) = absurd (l h)

  pub reduced_pass : (w : ℕ) → q ≤ w → reduced q (w ∷ []) ≡ []
  unfolding reduced
  reduced_pass w h = by (dec_lt w q)
    where
      by : (d : Dec (w < q)) → ite {C = List ℕ} d (w ∷ []) [] ≡ []
      by (yes l) = absurd (omega arith)
      by (no l) = refl

  pub reduced-below : (ws : List ℕ) → Below q (reduced q ws)
  unfolding reduced
  reduced-below [] = tt
  reduced-below (w ∷ ws) = by (dec_lt w q) (reduced-below ws)
    where
      by : (d : Dec (w < q)) → Below q (reduced q ws) → Below q (ite {C = List ℕ} d (w ∷ reduced q ws) (reduced q ws))
      by (yes l) rest = (l, rest)
      by (no l) rest = rest

-- ---- the words of a stream

pub stream-words : (stream : List ℕ) → length (words (take 2688 stream)) ≡ min 2688 (length stream) / 2
stream-words stream = length-words (take 2688 stream) ∙ ap (λ (k : ℕ). k / 2) (length-take 2688 stream)

pub stream-word : (stream : List ℕ) (i : ℕ) → i < 1344 → 2 * i + 1 < length stream → get_or (words (take 2688 stream)) i 0 ≡ word_at stream i
stream-word stream i h l =
    words_entry (take 2688 stream) i (omega (arith, length-take 2688 stream))
    ∙ ap₂ (λ (x y : ℕ). x + 256 * y) (get_or-take 2688 stream (2 * i) 0 (omega arith)) (get_or-take 2688 stream (2 * i + 1) 0 (omega arith))

-- ---- what is sampled: up to n words below q

below-take : (q k : ℕ) (l : List ℕ) → Below q l → Below q (take k l)
below-take q zero l b = tt
below-take q (suc k) [] b = tt
below-take q (suc k) (x ∷ l) b = (b.0, below-take q k l b.1)

below-zeros : (q : ℕ) → 0 < q → (k : ℕ) → Below q (zeros k)
below-zeros q h zero = tt
below-zeros q h (suc k) = (h, below-zeros q h k)

module _ (q n : ℕ) where
  pub taken-below : (stream : List ℕ) → Below q (taken_of q n stream)
  unfolding taken_of
  taken-below stream = below-take q n (reduced q (words (take 2688 stream))) (reduced-below q (words (take 2688 stream)))

  pub taken-most : (stream : List ℕ) → length (taken_of q n stream) ≤ n
  unfolding taken_of
  taken-most stream = rw (length-take n (reduced q (words (take 2688 stream)))) (omega arith)

  -- any stream gives an element; where n words are taken it is these words
  pub uniform_of-element : 0 < q → (stream : List ℕ) → N.Element q n (uniform_of q n stream)
  unfolding uniform_of
  uniform_of-element pos stream =
      let ws : List ℕ = taken_of q n stream in
      record {
        size = length-append ws (zeros (n - length ws)) ∙ ap (λ (k : ℕ). length ws + k) (length-replicate (n - length ws) 0) ∙ omega (arith, taken-most stream);
        below = below-append q ws (zeros (n - length ws)) (taken-below stream) (below-zeros q pos (n - length ws));
      }

  pub uniform_of_full : (stream : List ℕ) → length (taken_of q n stream) ≡ n → uniform_of q n stream ≡ taken_of q n stream
  unfolding uniform_of
  uniform_of_full stream e =
      let none : n - length (taken_of q n stream) ≡ 0 = omega arith in
      rw none (append-nil (taken_of q n stream))

  -- later words change nothing: where `front`, of whole words, has n words below q, the rest of the stream does not matter
  pub taken-front : (front rest : List ℕ) → length front % 2 ≡ 0 → length front ≤ 2688 → length (taken_of q n front) ≡ n
      → taken_of q n (front ++ rest) ≡ taken_of q n front
  unfolding taken_of
  taken-front front rest even short full =
      let all : take 2688 front ≡ front = take_all 2688 front short in
      let behind : List ℕ = take (2688 - length front) rest in
      let length-is : 2688 ≡ length front + (2688 - length front) = omega arith in
      let cut : take 2688 (front ++ rest) ≡ front ++ behind =
      ap (λ (k : ℕ). take k (front ++ rest)) length-is ∙ take-append-add front rest (2688 - length front) in
      let enough : n ≤ length (reduced q (words (take 2688 front))) = omega (arith, full, length-take n (reduced q (words (take 2688 front)))) in
      rw (cut, all, words_append front behind even, reduced-append q (words front) (words behind))
      (take-append-le n (reduced q (words front)) (reduced q (words behind)) (rw all at enough))

  pub uniform_of-front : (front rest : List ℕ) → length front % 2 ≡ 0 → length front ≤ 2688 → length (taken_of q n front) ≡ n
      → uniform_of q n (front ++ rest) ≡ uniform_of q n front
  unfolding uniform_of
  uniform_of-front front rest even short full = ap (λ (l : List ℕ). l ++ zeros (n - length l)) (taken-front front rest even short full)

-- ---- in the ring

pub uniform_element_lem : (stream : List ℕ) → Element (uniform_element stream)
uniform_element_lem stream = uniform_of-element q n q-positive stream

pub uniform_full : (stream : List ℕ) → length (taken stream) ≡ n → uniform_element stream ≡ taken stream
uniform_full stream e = uniform_of_full q n stream e

pub uniform-front : (front rest : List ℕ) → length front % 2 ≡ 0 → length front ≤ 2688 → length (taken front) ≡ n
    → uniform_element (front ++ rest) ≡ uniform_element front
uniform-front front rest even short full = uniform_of-front q n front rest even short full
