-- A stream that is written word by word.
use mathlib.Core.Path.{◌≡◌, refl, sym, ap, ◌∙◌}
use mathlib.Core.List.{List, [], ◌∷◌, ◌++◌}
use Prim.Native.Nat.{ℕ, zero, suc, ◌+◌, ◌-◌, ◌*◌, ◌≤◌, ◌<◌}
use native.Mathlib.Omega.{arith}
use lib.ListN.{length, set, length-set, length-append}
use lib.Seq.{set_at, append_snoc}
use Rattle.lists.specs.Table.{zeros}
use Rattle.lists.proofs.Zeros.{size-zeros}
use Rattle.example_records.specs.Made.{words_of, stream}

length-words : (k low high : ℕ) → length (words_of k low high) ≡ 2 * k
unfolding words_of
length-words zero low high = refl
length-words (suc k) low high = omega (arith, length-words k low high)

-- a word behind so many words
one_more_lem : (k low high : ℕ) (rest : List ℕ) → words_of k low high ++ (low ∷ high ∷ rest) ≡ words_of (suc k) low high ++ rest
unfolding words_of
one_more_lem zero low high rest = refl
one_more_lem (suc k) low high rest = ap (λ (l : List ℕ). low ∷ high ∷ l) (one_more_lem k low high rest)

-- two bytes behind a list
two-set : (p : List ℕ) (a b : ℕ) (rest : List ℕ) (low high n : ℕ) → length p ≡ n
    → set (set (p ++ (a ∷ b ∷ rest)) n low) (n + 1) high ≡ p ++ (low ∷ high ∷ rest)
two-set p a b rest low high n e =
    ap (λ (l : List ℕ). set l (n + 1) high) (set_at p a (b ∷ rest) low n e ∙ sym (append_snoc p low (b ∷ rest)))
    ∙ set_at (p ++ (low ∷ [])) b rest high (n + 1) (omega (arith, e, length-append p (low ∷ [])))
    ∙ append_snoc p low (high ∷ rest)

-- k of the words are written
pub record Written (words low high : ℕ) (s : List ℕ) (k : ℕ) : Type 0 where
  pub size : length s ≡ 2688
  pub within : k ≤ words
  pub bytes : s ≡ stream k low high

pub written_none : (words low high : ℕ) → Written words low high (zeros 2688) 0
unfolding stream words_of
written_none words low high = record { size = sym (size-zeros 2688); within = omega arith; bytes = refl }

pub written_more : {words low high k : ℕ} {s : List ℕ} → Written words low high s k → k < words → words ≤ 1344
    → Written words low high (set (set s (2 * k) low) (2 * k + 1) high) (k + 1)
unfolding stream
written_more {words} {low} {high} {k} {s} w h most =
    let room : 2688 - 2 * k ≡ suc (suc (2688 - 2 * (k + 1))) = omega arith in
    let next : suc k ≡ k + 1 = omega arith in
    let rest = zeros (2688 - 2 * (k + 1)) in
    record {
      size = length-set (set s (2 * k) low) (2 * k + 1) high ∙ length-set s (2 * k) low ∙ w.size;
      within = omega arith;
      bytes =
          ap (λ (l : List ℕ). set (set l (2 * k) low) (2 * k + 1) high) (w.bytes ∙ ap (λ (n : ℕ). words_of k low high ++ zeros n) room)
          ∙ two-set (words_of k low high) 0 0 rest low high (2 * k) (length-words k low high)
          ∙ one_more_lem k low high rest
          ∙ ap (λ (n : ℕ). words_of n low high ++ rest) next;
    }

pub written_all : {words low high k : ℕ} {s : List ℕ} → Written words low high s k → words ≤ k → s ≡ stream words low high
written_all {words} {low} {high} {k} w h =
    let all : k ≡ words = omega (arith, w.within) in
    w.bytes ∙ ap (λ (n : ℕ). stream n low high) all
