-- Laws of `put_front`, and of a buffer that is written part by part.
use mathlib.Core.Path.{◌≡◌, refl, sym, ap, subst, ◌∙◌}
use mathlib.Core.List.{List, [], ◌∷◌, ◌++◌, append_assoc, append-nil}
use Prim.Native.Nat.{ℕ, suc, ◌+◌, ◌<◌, ◌≤◌}
use native.Mathlib.Nat.{zero-add, add-zero}
use native.Mathlib.Numerals.{add-one}
use native.Mathlib.Omega.{arith}
use lib.ListN.{length, get_or, take, drop, set, length-set, length-drop, drop_of_length-le}
use lib.Seq.{take_at, drop_at, drop-drop, drop-cons, set_at, append_snoc, length-take-le}
use borrow.Author.Tests.{le-leb, lt-leb}
use Rattle.lists.specs.Table.{table}
use Rattle.lists.proofs.Tables.{length-table, table-append, table-zero, table-cons}
use Rattle.encoding.specs.Buffers.{put_front}

-- there is room
pub put-fits : (new old : List ℕ) → length new ≤ length old → put_front new old ≡ new ++ drop (length new) old
unfolding put_front
put-fits new old h = rw (le-leb (length new) (length old) h)

-- the buffer is too short
pub put_short : (new old : List ℕ) → length old < length new → put_front new old ≡ old
unfolding put_front
put_short new old h = rw (lt-leb (length new) (length old) h)

-- it has the length of what is written
pub put-exact : (new old : List ℕ) → length new ≡ length old → put_front new old ≡ new
put-exact new old e =
    put-fits new old (omega arith) ∙ rw (drop_of_length-le old {i = length new} (omega arith)) (append-nil new)

-- the first k entries were lent, and are now `new`
pub put_front_lem : (new old : List ℕ) {part : List ℕ} {k : ℕ} → length new ≡ k → k ≤ length old → part ≡ new → part ++ drop k old ≡ put_front new old
put_front_lem new old e h p = sym (put-fits new old (omega arith) ∙ rw (e, p))

-- ---- part by part: `front` is written, and what stands behind it is as it came; `&mut out[a..a + k]` is lent

-- the part lent is `new` afterwards
pub put-plain : (front new old out : List ℕ) (a k : ℕ) {e : ℕ} {p : List ℕ} → out ≡ front ++ drop a old → length front ≡ a → a + k ≡ e → p ≡ new
    → take a out ++ (p ++ drop k (drop a out)) ≡ (front ++ new) ++ drop e old
put-plain front new old out a k {e} o f m q =
    let before : take a out ≡ front = ap (take a) o ∙ take_at front (drop a old) a f in
    let behind : drop a out ≡ drop a old = ap (drop a) o ∙ drop_at front (drop a old) a f in
    let rest : drop k (drop a out) ≡ drop e old = ap (drop k) behind ∙ drop-drop k a old ∙ ap (λ (j : ℕ). drop j old) m in
    rw (before, q, rest) (sym (append_assoc front new (drop e old)))

-- it is what `put_front` makes of it
pub put-part : (front new old out : List ℕ) (a k : ℕ) {e : ℕ} {p : List ℕ} → out ≡ front ++ drop a old → length front ≡ a → length new ≡ k → a + k ≡ e
    → e ≤ length old → p ≡ put_front new (take k (drop a out))
    → take a out ++ (p ++ drop k (drop a out)) ≡ (front ++ new) ++ drop e old
put-part front new old out a k {e} o f l m h p =
    let behind : drop a out ≡ drop a old = ap (drop a) o ∙ drop_at front (drop a old) a f in
    let room : length (take k (drop a out)) ≡ k = length-take-le k (drop a out) (rw behind (rw (length-drop a old) (omega arith))) in
    put-plain front new old out a k o f m (p ∙ put-exact new (take k (drop a out)) (l ∙ sym room))

-- nothing was written before
pub put_first : (new old : List ℕ) (k : ℕ) {p : List ℕ} → length new ≡ k → k ≤ length old → p ≡ put_front new (take k old) → p ++ drop k old ≡ new ++ drop k old
put_first new old k l h p = put-part [] new old old 0 k refl refl l (zero-add k) h p

-- all of it is written
pub put_all : (front old : List ℕ) (k : ℕ) → length old ≤ k → front ++ drop k old ≡ front
put_all front old k h = rw (drop_of_length-le old h) (append-nil front)

-- ---- entry by entry: g 0, .., g (i - 1) of m numbers to write stand at the front, and the rest is as it came

pub record Put (m : ℕ) (g : ℕ → ℕ) (old out : List ℕ) (i : ℕ) : Type 0 where
  pub within : i ≤ m
  pub room : m ≤ length old
  pub size : length out ≡ length old
  pub same : out ≡ table i g ++ drop i old

pub put_none : (m : ℕ) (g : ℕ → ℕ) (old : List ℕ) → m ≤ length old → Put m g old old 0
put_none m g old h = record { within = omega arith; room = h; size = refl; same = rw (table-zero g) }

-- the next number is written, and e numbers are
pub put_next : {m : ℕ} {g : ℕ → ℕ} {old out : List ℕ} {i v e : ℕ} → Put m g old out i → i < m → v ≡ g i → i + 1 ≡ e → Put m g old (set out i v) e
put_next {m} {g} {old} {out} {i} {v} p h r e =
    let there : i < length old = omega (arith, p.room) in
    let front : length (table i g) ≡ i = length-table i g in
    let one : table (i + 1) g ≡ table i g ++ (g i ∷ []) = rw (table-append i 1 g, table-cons 0 (λ j. g (i + j)), table-zero, add-zero) in
    subst (Put m g old (set out i v)) e (record {
      within = omega arith;
      room = p.room;
      size = length-set out i v ∙ p.size;
      same =
          rw (p.same, drop-cons old i 0 there, set_at (table i g) (get_or old i 0) (drop (suc i) old) v i front, r, one, add-one)
          (sym (append_snoc (table i g) (g i) (drop (suc i) old)));
    })

-- all numbers are written
pub put-done : {m : ℕ} {g : ℕ → ℕ} {old out : List ℕ} {i : ℕ} → Put m g old out i → m ≤ i → out ≡ put_front (table m g) old
put-done {m} {g} {old} {out} {i} p h =
    let all : i ≡ m = omega (arith, p.within) in
    let size : length (table m g) ≡ m = length-table m g in
    p.same ∙ rw all (sym (put-fits (table m g) old (omega (arith, p.room)) ∙ rw size))
