-- The invariant of the loops that read a stream.
use mathlib.Core.Path.{◌≡◌, refl, sym, ap, ap₂, ◌∙◌}
use mathlib.Core.List.{List, [], ◌∷◌, ◌++◌, append-nil}
use Prim.Native.Nat.{ℕ, suc, ◌+◌, ◌-◌, ◌*◌, ◌<◌, ◌≤◌}
use native.Mathlib.Numerals.{add-one}
use native.Mathlib.Omega.{arith}
use lib.ListN.{length, get_or, take, drop, set, length-append, take-append-drop}
use lib.Seq.{take-suc, take_all, take_at, set_at, append_snoc}
use Rattle.lists.specs.Table.{zeros}
use Rattle.encoding.specs.Words.{word_at, words}
use Rattle.sampling.specs.Stream.{reduced, taken_of, uniform_of}
use Rattle.sampling.proofs.Streams.{reduced-append, reduced-take, reduced_pass, stream-words, stream-word}

-- the words below q among the first i of a stream
abbrev first_reduced : (q : ℕ) (stream : List ℕ) (i : ℕ) → List ℕ
first_reduced q stream i = reduced q (take i (words (take 2688 stream)))

-- i words of the stream are read; the `count` words below q among them stand at the front of out, and zeros behind them
pub record Read (q n : ℕ) (stream : List ℕ) (i : ℕ) (out : List ℕ) (count : ℕ) : Type 0 where
  pub counted : count ≡ length (first_reduced q stream i)
  pub within : count ≤ n
  pub same : out ≡ first_reduced q stream i ++ zeros (n - count)

pub read_none : (q n : ℕ) (stream out : List ℕ) → out ≡ zeros n → Read q n stream 0 out 0
unfolding reduced
read_none q n stream out e =
    let all : n - 0 ≡ n = omega arith in
    record { counted = refl; within = omega arith; same = rw all e }

-- ---- one word more

module _ {q n : ℕ} {stream : List ℕ} {i : ℕ} {out : List ℕ} {count : ℕ} (w : ℕ) (r : Read q n stream i out count)
    (inside : i < 1344) (there : 2 * i + 1 < length stream) (read : w ≡ word_at stream i) where
  reduced_more : first_reduced q stream (i + 1) ≡ first_reduced q stream i ++ reduced q (w ∷ [])
  reduced_more =
      let ws : List ℕ = words (take 2688 stream) in
      let h : i < length ws = omega (arith, stream-words stream) in
      let e : get_or ws i 0 ≡ w = stream-word stream i inside there ∙ sym read in
      rw (add-one, take-suc ws i 0 h, e) (reduced-append q (take i ws) (w ∷ []))

  -- it is passed over
  pub read_pass : q ≤ w → Read q n stream (i + 1) out count
  read_pass h =
      let none : first_reduced q stream (i + 1) ≡ first_reduced q stream i =
      reduced_more ∙ ap (λ (l : List ℕ). first_reduced q stream i ++ l) (reduced_pass q w h) ∙ append-nil (first_reduced q stream i) in
      record {
        counted = r.counted ∙ ap length (sym none);
        within = r.within;
        same = r.same ∙ ap (λ (l : List ℕ). l ++ zeros (n - count)) (sym none);
      }

  -- it is taken
  pub read_take : w < q → count < n → Read q n stream (i + 1) (set out count w) (count + 1)
  read_take h l =
      let one : first_reduced q stream (i + 1) ≡ first_reduced q stream i ++ (w ∷ []) =
      reduced_more ∙ ap (λ (l : List ℕ). first_reduced q stream i ++ l) (reduced-take q w h) in
      let room : n - count ≡ suc (n - (count + 1)) = omega arith in
      record {
        counted = rw (one, length-append) (omega (arith, r.counted));
        within = omega arith;
        same =
            rw (r.same, room, set_at (first_reduced q stream i) 0 (zeros (n - (count + 1))) w count (sym r.counted), one)
            (sym (append_snoc (first_reduced q stream i) w (zeros (n - (count + 1)))));
      }

-- ---- reading ends

module _ {q n : ℕ} {stream : List ℕ} {i : ℕ} {out : List ℕ} {count : ℕ} (r : Read q n stream i out count) where
  abbrev ws : List ℕ
  ws = words (take 2688 stream)

  -- the words that are read decide which are taken
  decided : taken_of q n stream ≡ first_reduced q stream i → (count ≡ length (taken_of q n stream)) × (out ≡ uniform_of q n stream)
  unfolding uniform_of
  decided e =
      let size : count ≡ length (taken_of q n stream) = r.counted ∙ ap length (sym e) in
      (size, r.same ∙ ap₂ (λ (l : List ℕ) (k : ℕ). l ++ zeros (n - k)) (sym e) size)

  -- at the word that completes the polynomial
  pub read-full : count ≡ n → (count ≡ length (taken_of q n stream)) × (out ≡ uniform_of q n stream)
  unfolding taken_of
  read-full e =
      let split : reduced q ws ≡ first_reduced q stream i ++ reduced q (drop i ws) =
      ap (reduced q) (sym (take-append-drop i ws)) ∙ reduced-append q (take i ws) (drop i ws) in
      decided (ap (take n) split ∙ take_at (first_reduced q stream i) (reduced q (drop i ws)) n (sym r.counted ∙ e))

  -- at the end of the stream
  pub read_all : length ws ≤ i → (count ≡ length (taken_of q n stream)) × (out ≡ uniform_of q n stream)
  unfolding taken_of
  read_all h =
      let all : first_reduced q stream i ≡ reduced q ws = ap (reduced q) (take_all i ws h) in
      let few : length (reduced q ws) ≡ count = ap length (sym all) ∙ sym r.counted in
      decided (take_all n (reduced q ws) (omega (arith, r.within)) ∙ sym all)
