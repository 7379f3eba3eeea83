-- Records: readers find what writers wrote.
use mathlib.Core.Path.{◌≡◌, sym, ap, ap₂, ◌∙◌}
use mathlib.Core.Bool.{true}
use mathlib.Core.List.{List, [], ◌++◌, append_assoc, append-nil}
use Prim.Native.Nat.{ℕ, ◌+◌, ◌<◌, ◌≤◌}
use native.Mathlib.Omega.{arith}
use lib.ListN.{length, get_or, take, drop, length-append, length-drop, take-append-drop}
use lib.Seq.{take_at, drop_at, drop-drop, take_all, get_or-take, get_or-drop, length-take-le}
use Rattle.algebra.specs.Numbers.{Below}
use Rattle.algebra.proofs.Numbers.{below_by}
use Rattle.ring.specs.Ring.{Element}
use Rattle.encoding.specs.Words.{element_of, element_bytes}
use Rattle.encoding.specs.Header.{has_mark, version_of, header}
use Rattle.encoding.proofs.Words.{element_of-take, length-element_bytes}
use Rattle.encoding.proofs.Headers.{length_header_lem, header_mark, header_version, header_of}
use Rattle.encoding.proofs.RoundTrips.{element_of-written, bytes-element_of}
use Rattle.records.specs.Records.{part, first_of, second_of, record_bytes, seed_of, seeded_b, seeded_key_bytes, c1_of, c2_of, encapsulation_bytes}
use Rattle.records.specs.Layout.{seeded_key_mark, seed_length, seeded_key_length}
use Rattle.records.specs.WellFormed.{WellFormedFront, WellFormedSeededKey}

-- ---- parts of what is written

pub length_both : (a b : List ℕ) {i j : ℕ} → length a ≡ i → length b ≡ j → length (a ++ b) ≡ i + j
length_both a b e f = length-append a b ∙ ap₂ (λ (x y : ℕ). x + y) e f

-- the k bytes behind i bytes
pub part_behind : (front middle rest : List ℕ) {i k : ℕ} → length front ≡ i → length middle ≡ k → part i k (front ++ middle ++ rest) ≡ middle
part_behind front middle rest {i} {k} f m =
    ap (part i k) (append_assoc front middle rest) ∙ ap (take k) (drop_at front (middle ++ rest) i f) ∙ take_at middle rest k m

-- .. where they are the last
pub part_end : (front end : List ℕ) {i k : ℕ} → length front ≡ i → length end ≡ k → part i k (front ++ end) ≡ end
part_end front end {i} {k} f m = ap (take k) (drop_at front end i f) ∙ take_all k end (omega arith)

-- ---- parts of bytes

pub part_length : (i k : ℕ) (bytes : List ℕ) → i + k ≤ length bytes → length (part i k bytes) ≡ k
part_length i k bytes h = length-take-le k (drop i bytes) (omega (arith, length-drop i bytes))

pub part-below : (i k : ℕ) (bytes : List ℕ) → i + k ≤ length bytes → ((j : ℕ) → get_or bytes j 0 < 256) → Below 256 (part i k bytes)
part-below i k bytes h small =
    below_by 256 (part i k bytes)
    (λ j l. let short : j < k = omega (arith, part_length i k bytes h) in rw (get_or-take k (drop i bytes) j 0 short, get_or-drop i bytes j 0) (small (i + j)))

-- ---- public key, secret key and sealed entry: the front

module _ (mark : List ℕ) (version : ℕ) (first second rest : List ℕ) where
  -- the front, and what stands behind it
  abbrev written : List ℕ
  written = record_bytes mark version first second ++ rest

  behind-first : written ≡ header mark version ++ element_bytes first ++ (element_bytes second ++ rest)
  unfolding record_bytes
  behind-first = append_assoc (header mark version ++ element_bytes first) (element_bytes second) rest

  behind-header : written ≡ header mark version ++ (element_bytes first ++ (element_bytes second ++ rest))
  behind-header = behind-first ∙ append_assoc (header mark version) (element_bytes first) (element_bytes second ++ rest)

  pub record-first : Element first → first_of written ≡ first
  record-first e =
      element_of-take (drop 5 written)
      ∙ ap element_of (ap (drop 5) behind-header ∙ drop_at (header mark version) _ 5 (length_header_lem mark version))
      ∙ element_of-written first (element_bytes second ++ rest) e

  pub record-second : Element second → second_of written ≡ second
  record-second e =
      element_of-take (drop 2053 written)
      ∙ ap element_of (ap (drop 2053) behind-first
      ∙ drop_at (header mark version ++ element_bytes first) _ 2053
      (length_both (header mark version) (element_bytes first) (length_header_lem mark version) (length-element_bytes first)))
      ∙ element_of-written second rest e

  pub record_well-formed : version < 65536 → Element first → Element second → WellFormedFront mark version written
  record_well-formed small e1 e2 = record {
    marked = rw behind-header (header_mark mark version _);
    has_version = rw behind-header (header_version mark version _ small);
    first-words = rw (record-first e1) e1;
    second-words = rw (record-second e2) e2;
  }

-- ---- seeded public key

module _ (seed b : List ℕ) (size : length seed ≡ seed_length) where
  abbrev key : List ℕ
  key = seeded_key_bytes seed b

  before-b : length (header seeded_key_mark 1 ++ seed) ≡ 37
  before-b = length_both (header seeded_key_mark 1) seed (length_header_lem seeded_key_mark 1) size

  pub length_seeded : length key ≡ seeded_key_length
  unfolding seeded_key_bytes
  length_seeded = length_both (header seeded_key_mark 1 ++ seed) (element_bytes b) before-b (length-element_bytes b)

  pub seeded_seed : seed_of key ≡ seed
  unfolding seeded_key_bytes
  seeded_seed = part_behind (header seeded_key_mark 1) seed (element_bytes b) (length_header_lem seeded_key_mark 1) size

  pub seeded_b_lem : Element b → seeded_b key ≡ b
  unfolding seeded_key_bytes
  seeded_b_lem e =
      ap element_of (part_end (header seeded_key_mark 1 ++ seed) (element_bytes b) before-b (length-element_bytes b) ∙ sym (append-nil (element_bytes b)))
      ∙ element_of-written b [] e

  behind_seeded : key ≡ header seeded_key_mark 1 ++ (seed ++ element_bytes b)
  unfolding seeded_key_bytes
  behind_seeded = append_assoc (header seeded_key_mark 1) seed (element_bytes b)

  pub seeded_well-formed : Element b → WellFormedSeededKey key
  seeded_well-formed e = record {
    size = length_seeded;
    marked = rw behind_seeded (header_mark seeded_key_mark 1 _);
    has_version = rw behind_seeded (header_version seeded_key_mark 1 _ (omega arith));
    words = rw (seeded_b_lem e) e;
  }

-- the bytes of what was read from a well-formed record
pub seeded-bytes : (k : List ℕ) → WellFormedSeededKey k → ((i : ℕ) → get_or k i 0 < 256) → seeded_key_bytes (seed_of k) (seeded_b k) ≡ k
unfolding seeded_key_bytes
seeded-bytes k w small =
    let size = w.size in
    let front = ap (λ (v : ℕ). header seeded_key_mark v) (sym w.has_version) ∙ header_of seeded_key_mark k (omega arith) (below_by 256 k (λ j l. small j)) w.marked in
    let last = bytes-element_of (part 37 2048 k) (part_length 37 2048 k (omega arith)) (part-below 37 2048 k (omega arith) small)
    ∙ take_all 2048 (drop 37 k) (omega (arith, length-drop 37 k)) ∙ sym (drop-drop 32 5 k) in
    ap₂ (λ (x y : List ℕ). x ++ seed_of k ++ y) front last
    ∙ append_assoc (take 5 k) (seed_of k) (drop 32 (drop 5 k))
    ∙ ap (λ (x : List ℕ). take 5 k ++ x) (take-append-drop 32 (drop 5 k))
    ∙ take-append-drop 5 k

-- ---- encapsulation

pub length-encapsulation : (c1 c2 : List ℕ) → length (encapsulation_bytes c1 c2) ≡ 4096
unfolding encapsulation_bytes
length-encapsulation c1 c2 = length_both (element_bytes c1) (element_bytes c2) (length-element_bytes c1) (length-element_bytes c2)

pub encapsulation-c1 : (c1 c2 : List ℕ) → Element c1 → c1_of (encapsulation_bytes c1 c2) ≡ c1
unfolding encapsulation_bytes
encapsulation-c1 c1 c2 e = element_of-take (element_bytes c1 ++ element_bytes c2) ∙ element_of-written c1 (element_bytes c2) e

pub encapsulation-c2 : (c1 c2 : List ℕ) → Element c2 → c2_of (encapsulation_bytes c1 c2) ≡ c2
unfolding encapsulation_bytes
encapsulation-c2 c1 c2 e =
    ap element_of (part_end (element_bytes c1) (element_bytes c2) (length-element_bytes c1) (length-element_bytes c2) ∙ sym (append-nil (element_bytes c2)))
    ∙ element_of-written c2 [] e
