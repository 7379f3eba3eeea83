-- A row of 512 factors, made from its first 2^k by doubling.
use mathlib.Core.Path.{◌≡◌, sym, ap, ap₂, subst, ◌∙◌}
use mathlib.Core.List.{List, ◌++◌}
use Prim.Native.Nat.{ℕ, suc, ◌+◌, ◌-◌, ◌*◌, ◌%◌, ◌^◌, ◌<◌, ◌≤◌}
use native.Mathlib.Nat.{zero-add, le_of_eq, mod-lt, mod-eq_of_lt, two-pow-succ, pow-le-pow_right, mul-add-mod_self_left}
use native.Mathlib.Numerals.{add-one}
use native.Mathlib.Omega.{arith}
use lib.ListN.{length, get_or, take, drop, length-append, length-drop, get_or-append}
use lib.Pow.{pow_pos, pow-add}
use lib.Seq.{length-take-le, take-add, take-take, get_or-take, get_or-drop}
use Rattle.lists.specs.Table.{table}
use Rattle.lists.proofs.Tables.{length-table, table_same, take-table, part-table}
use Rattle.lists.proofs.Fill.{Filled, filled_none, filled-part, filled-all}
use Rattle.lists.proofs.ByteLists.{part-get_or}
use Rattle.twiddles.specs.Factors.{block_of}

-- ---- a list of m + m entries, whose first half is copied to the second

module _ (w : List ℕ) (m : ℕ) (size : length w ≡ m + m) where
  abbrev doubled : List ℕ
  doubled = take m w ++ take m w

  half : length (take m w) ≡ m
  half = length-take-le m w (omega arith)

  pub doubled-size : length doubled ≡ m + m
  doubled-size = length-append (take m w) (take m w) ∙ ap₂ (λ (x y : ℕ). x + y) half half

-- ---- the row

-- the entries of w from the front, each 2^k again from the first
abbrev pub row : List ℕ → ℕ → List ℕ
row w k = table 512 (λ j. get_or w (j % 2 ^ k) 0)

pub small : (k : ℕ) → k < 10 → 2 ^ k ≤ 512
small k h = pow-le-pow_right {n = 2} (omega arith) {i = k} {j = 9} (omega arith)

pub row-none : (w : List ℕ) (k : ℕ) → length w ≡ 512 → k < 10 → Filled 512 (row w k) w (2 ^ k)
row-none w k size h =
    let few : 2 ^ k ≤ 512 = small k h in
    record {
      within = few;
      whole = length-table 512 _;
      size = size;
      same =
          part-get_or 0 (2 ^ k) w (omega arith)
          ∙ table_same (2 ^ k) _ _ (λ j l. ap (λ (n : ℕ). get_or w n 0) (zero-add j ∙ sym (mod-eq_of_lt l)))
          ∙ sym (take-table (2 ^ k) 512 _ few);
    }

pub double-fits : (d : ℕ) → d < 9 → 2 ^ d + 2 ^ d ≤ 512
double-fits d h = omega (arith, small (suc d) (omega arith), two-pow-succ d)

-- the first 2^d entries twice, where n of the code is 2^d
pub row_more : (w out part : List ℕ) (k d n : ℕ) → n ≡ 2 ^ d → k ≤ d → d < 9 → Filled 512 (row w k) out (2 ^ d)
    → part ≡ take n (take (n + n - 0) (drop 0 out)) ++ take n (take (n + n - 0) (drop 0 out))
    → Filled 512 (row w k) (part ++ drop (n + n - 0) (drop 0 out)) (2 ^ (d + 1))
row_more w out part k d n same h l f =
    subst (λ (n : ℕ).
    part ≡ take n (take (n + n - 0) (drop 0 out)) ++ take n (take (n + n - 0) (drop 0 out))
    → Filled 512 (row w k) (part ++ drop (n + n - 0) (drop 0 out)) (2 ^ (d + 1))) (sym same) (λ e.
    let m = 2 ^ d in
    let few : m + m ≤ 512 = double-fits d l in
    let front : take m (take (m + m - 0) (drop 0 out)) ≡ take m (row w k) = take-take m (m + m - 0) out (omega arith) ∙ f.same in
    let multiple : m ≡ 2 ^ k * 2 ^ (d - k) = ap (λ (n : ℕ). 2 ^ n) (omega arith) ∙ pow-add 2 k (d - k) in
    let again : take m (drop m (row w k)) ≡ take m (row w k) =
    part-table m m 512 _ few
    ∙ table_same m _ _ (λ j _. ap (λ (n : ℕ). get_or w n 0) (ap (λ (n : ℕ). (n + j) % 2 ^ k) multiple ∙ mul-add-mod_self_left (2 ^ k) (2 ^ (d - k)) j))
    ∙ sym (take-table m 512 _ (omega arith)) in
    let both : m + m ≡ m + m - 0 = omega arith in
    let whole : part ≡ take (m + m - 0) (row w k) =
    e ∙ ap₂ (λ (x y : List ℕ). x ++ y) front (front ∙ sym again) ∙ sym (take-add m m (row w k)) ∙ ap (λ (n : ℕ). take n (row w k)) both in
    subst (Filled 512 (row w k) _) (sym (ap (λ (n : ℕ). 2 ^ n) (add-one d) ∙ two-pow-succ d))
    (filled-part part (m + m - 0) (filled_none (row w k) out (length-table 512 _) f.size)
    (ap length whole ∙ length-take-le (m + m - 0) (row w k) (omega (arith, length-table 512 (λ j. get_or w (j % 2 ^ k) 0)))) (omega arith) few whole))

pub row_all : {s out : List ℕ} (d : ℕ) → 9 ≤ d → d ≤ 9 → Filled 512 s out (2 ^ d) → out ≡ s
row_all d h l f =
    let all : 9 ≡ d = omega arith in
    filled-all f (le_of_eq (ap (λ (n : ℕ). 2 ^ n) all))

-- a row that begins with the factors of its blocks, n = 2^k of them
pub row_of_blocks : (f first rest : List ℕ) (k n : ℕ) → n ≡ 2 ^ k → k < 10 → length f ≡ 1024 → first ≡ take n (drop n f)
    → row (first ++ rest) k ≡ table 512 (λ j. get_or f (block_of k j) 0)
row_of_blocks f first rest k n same h size e =
    let few : 2 ^ k ≤ 512 = small k h in
    let long : length first ≡ n = ap length e ∙ length-take-le n (drop n f) (omega (arith, length-drop n f)) in
    table_same 512 _ _ (λ j l.
    let i = j % 2 ^ k in
    let within : i < n = omega (arith, mod-lt j (pow_pos k)) in
    get_or-append first rest 0 i (omega arith) ∙ ap (λ (x : List ℕ). get_or x i 0) e ∙ get_or-take n (drop n f) i 0 within ∙ get_or-drop n f i 0
    ∙ ap (λ (m : ℕ). get_or f (m + i) 0) same)
