-- A text that is put together piece by piece, as far as there is room, and one that is written into a buffer.
use mathlib.Core.Path.{◌≡◌, sym, ap, ◌∙◌}
use mathlib.Core.Bool.{Bool, true, false, cond}
use mathlib.Core.List.{List, ◌++◌, append_assoc, append-nil}
use Prim.Native.Nat.{ℕ, ◌+◌, ◌-◌, ◌≤◌, min}
use native.Mathlib.Decide.{dec_le}
use native.Mathlib.Omega.{arith}
use lib.ListN.{length, take, drop, length-append, drop_of_length-le}
use lib.Seq.{take_all, take-append-le, take-append-add, length-take-le}
use Rattle.std.proofs.Common.{drop-drop, length-drop}
use Rattle.std.proofs.lemmas.List.{drop-replicate}
use Rattle.std.proofs.lemmas.Slice.{drop-put_mid}
use borrow.Rule.Slice.PartMut.{put_mid, same_len_mid}
use Rattle.lists.specs.Table.{zeros}
use Rattle.text.specs.Text.{written}

-- there is room
pub written-fits : (s out : List ℕ) → length s ≤ length out → written s out ≡ s ++ drop (length s) out
written-fits s out h = rw (take_all (length out) s h)

-- the buffer is full before the text ends
pub written_full : (s out : List ℕ) → length out ≤ length s → written s out ≡ take (length out) s
written_full s out h = rw (drop_of_length-le out {i = length s} h) (append-nil _)

-- one of two texts, of which neither is longer than this
pub either-most : (b : Bool) (l m : List ℕ) (most : ℕ) → length l ≤ most → length m ≤ most → length (cond b l m) ≤ most
either-most true l m most p q = p
either-most false l m most p q = q

-- n bytes were appended, which is all that there is room for
pub pushed : (most : ℕ) (text s : List ℕ) {n : ℕ} → length text ≤ most → n ≡ min (length s) (most - length text)
    → text ++ take n s ≡ take most (text ++ s)
pushed most text s {n} h e = by (dec_le (length s) (most - length text))
  where
    by : Dec (length s ≤ most - length text) → text ++ take n s ≡ take most (text ++ s)
    by (yes room) =
        let whole : text ++ take n s ≡ text ++ s = ap (λ (l : List ℕ). text ++ l) (take_all n s (omega (arith, e))) in
        whole ∙ sym (take_all most (text ++ s) (omega (arith, length-append text s)))
    by (no full) =
        let left : n ≡ most - length text = omega (arith, e, full) in
        let all : length text + (most - length text) ≡ most = omega arith in
        ap (λ (k : ℕ). text ++ take k s) left ∙ sym (take-append-add text s (most - length text)) ∙ ap (λ (k : ℕ). take k (text ++ s)) all

push_more : (most : ℕ) (text s : List ℕ) → take most (take most text ++ s) ≡ take most (text ++ s)
push_more most text s = by (dec_le (length text) most)
  where
    by : Dec (length text ≤ most) → take most (take most text ++ s) ≡ take most (text ++ s)
    by (yes h) = ap (λ (l : List ℕ). take most (l ++ s)) (take_all most text h)
    by (no h) =
        take-append-le most (take most text) s (omega (arith, h, length-take-le most text (omega (arith, h))))
        ∙ take_all most (take most text) (omega (arith, h, length-take-le most text (omega (arith, h))))
        ∙ sym (take-append-le most text s (omega (arith, h)))

-- a text that holds what has been put together, as far as there is room, holds it with one piece more
pub put_more : (most : ℕ) (text s : List ℕ) {old new : List ℕ} → old ≡ take most text → new ≡ take most (old ++ s) → new ≡ take most (text ++ s)
put_more most text s e p = p ∙ ap (λ (l : List ℕ). take most (l ++ s)) e ∙ push_more most text s

-- the same behind what a text held before
pub put_both : (most : ℕ) (before text s : List ℕ) {old new : List ℕ} → old ≡ take most (before ++ text) → new ≡ take most (old ++ s)
    → new ≡ take most (before ++ (text ++ s))
put_both most before text s e p = put_more most (before ++ text) s e p ∙ ap (take most) (append_assoc before text s)

-- bytes that are put into a buffer, where there is room, leave its length as it was
pub put-length : (len n : ℕ) (bytes s : List ℕ) → len + n ≤ length bytes → length s ≡ n → length (put_mid len (len + n - len) bytes s) ≡ length bytes
put-length len n bytes s room size =
    same_len_mid len (len + n - len) bytes s (omega (arith, size, length-drop len bytes, length-take-le (len + n - len) (drop len bytes) (omega (arith, room, length-drop len bytes))))

-- where zeros stood behind a text, they stand behind what was put there
pub zeros_behind : (most len n : ℕ) (bytes s : List ℕ) → len ≤ length bytes → length s ≡ n → drop len bytes ≡ zeros (most - len)
    → drop (len + n) (put_mid len (len + n - len) bytes s) ≡ zeros (most - (len + n))
zeros_behind most len n bytes s within size behind =
    drop-put_mid len (len + n - len) bytes s (len + n) (omega arith) within (omega (arith, size))
    ∙ sym (drop-drop n len bytes) ∙ ap (drop n) behind ∙ drop-replicate n (most - len) 0 ∙ ap zeros (omega arith)
