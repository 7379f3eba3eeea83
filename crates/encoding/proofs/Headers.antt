-- Laws of marks, versions and headers.
use mathlib.Core.Path.{◌≡◌, refl, sym, ◌∙◌}
use mathlib.Core.Bool.{Bool, true, false, false≢true, ◌&&◌}
use mathlib.Core.List.{List, [], ◌∷◌, ◌++◌}
use Prim.Native.Nat.{ℕ, suc, ◌/◌, ◌%◌, ◌<◌, ◌≤◌}
use native.Mathlib.Omega.{arith}
use lib.Dec.{eqb, leb}
use lib.ListN.{length, get_or, take, drop}
use borrow.Rule.Slice.PartMut.{put_mid}
use Rattle.std.specs.List.{starts_with}
use borrow.Author.Tests.{le-leb, eq-eqb, ne_eqb, eqb-true}
use Rattle.lists.proofs.Both.{both}
use Rattle.lists.proofs.Maps.{cons}
use Rattle.algebra.specs.Numbers.{Below}
use Rattle.encoding.specs.Header.{has_mark, version_of, header}
use Rattle.encoding.specs.Buffers.{put_front}
use Rattle.encoding.proofs.Buffers.{put-fits}

pub length_header_lem : (mark : List ℕ) (version : ℕ) → length (header mark version) ≡ 5
unfolding header
length_header_lem mark version = refl

-- the mark and the version of a record that starts with a header
pub header_mark : (mark : List ℕ) (version : ℕ) (rest : List ℕ) → has_mark mark (header mark version ++ rest) ≡ true
unfolding has_mark header
header_mark mark version rest = rw (le-leb 3 (suc (suc (suc (suc (suc (length rest)))))) (omega arith), eq-eqb (get_or mark 0 0) (get_or mark 0 0) refl, eq-eqb (get_or mark 1 0) (get_or mark 1 0) refl, eq-eqb (get_or mark 2 0) (get_or mark 2 0) refl)

pub header_version : (mark : List ℕ) (version : ℕ) (rest : List ℕ) → version < 65536 → version_of (header mark version ++ rest) ≡ version
unfolding version_of header
header_version mark version rest h = omega arith

pub header-below : (mark : List ℕ) (version : ℕ) → get_or mark 0 0 < 256 → get_or mark 1 0 < 256 → get_or mark 2 0 < 256 → Below 256 (header mark version)
unfolding header
header-below mark version h0 h1 h2 = (h0, (h1, (h2, (omega arith, (omega arith, tt)))))

pub mark-bytes : (mark : List ℕ) (bytes : List ℕ) → has_mark mark bytes ≡ true
    → (get_or bytes 0 0 ≡ get_or mark 0 0) × (get_or bytes 1 0 ≡ get_or mark 1 0) × (get_or bytes 2 0 ≡ get_or mark 2 0)
unfolding has_mark
mark-bytes mark bytes e =
    let there : Bool = leb 3 (length bytes) in
    let (first_two, e2) = both (there && eqb (get_or bytes 0 0) (get_or mark 0 0) && eqb (get_or bytes 1 0) (get_or mark 1 0)) (eqb (get_or bytes 2 0) (get_or mark 2 0)) e in
    let (first, e1) = both (there && eqb (get_or bytes 0 0) (get_or mark 0 0)) (eqb (get_or bytes 1 0) (get_or mark 1 0)) first_two in
    let (_, e0) = both there (eqb (get_or bytes 0 0) (get_or mark 0 0)) first in
    (eqb-true (get_or bytes 0 0) (get_or mark 0 0) e0, eqb-true (get_or bytes 1 0) (get_or mark 1 0) e1, eqb-true (get_or bytes 2 0) (get_or mark 2 0) e2)

-- the header of a record is that of its mark and its version
pub header_of : (mark : List ℕ) (bytes : List ℕ) → 5 ≤ length bytes → Below 256 bytes → has_mark mark bytes ≡ true
    → header mark (version_of bytes) ≡ take 5 bytes
unfolding version_of header
header_of mark (b0 ∷ b1 ∷ b2 ∷ b3 ∷ b4 ∷ rest) h (_, (_, (_, (h3, (h4, _))))) e =
    let (e0, e1, e2) = mark-bytes mark (b0 ∷ b1 ∷ b2 ∷ b3 ∷ b4 ∷ rest) e in
    cons (sym e0) (cons (sym e1) (cons (sym e2) (cons (omega arith) (cons (omega arith) refl))))
header_of mark [] h b e = absurd (omega arith)
header_of mark (b0 ∷ []) h b e = absurd (omega arith)
header_of mark (b0 ∷ b1 ∷ []) h b e = absurd (omega arith)
header_of mark (b0 ∷ b1 ∷ b2 ∷ []) h b e = absurd (omega arith)
header_of mark (b0 ∷ b1 ∷ b2 ∷ b3 ∷ []) h b e = absurd (omega arith)

-- a mark and a version that are stored one after the other
pub header_stored : (mark : List ℕ) (version : ℕ) (old : List ℕ) → length mark ≡ 3 → 5 ≤ length old
    → put_mid 3 2 (mark ++ drop 3 old) (version % 256 ∷ version / 256 % 256 ∷ []) ≡ put_front (header mark version) old
unfolding header
header_stored (x ∷ y ∷ z ∷ []) version (a ∷ b ∷ c ∷ d ∷ e ∷ old) l h = sym (put-fits (header (x ∷ y ∷ z ∷ []) version) (a ∷ b ∷ c ∷ d ∷ e ∷ old) h)
header_stored [] version old l h = absurd (omega arith)
header_stored (x ∷ []) version old l h = absurd (omega arith)
header_stored (x ∷ y ∷ []) version old l h = absurd (omega arith)
header_stored (x ∷ y ∷ z ∷ w ∷ mark) version old l h = absurd (omega arith)
header_stored (x ∷ y ∷ z ∷ []) version [] l h = absurd (omega arith)
header_stored (x ∷ y ∷ z ∷ []) version (a ∷ []) l h = absurd (omega arith)
header_stored (x ∷ y ∷ z ∷ []) version (a ∷ b ∷ []) l h = absurd (omega arith)
header_stored (x ∷ y ∷ z ∷ []) version (a ∷ b ∷ c ∷ []) l h = absurd (omega arith)
header_stored (x ∷ y ∷ z ∷ []) version (a ∷ b ∷ c ∷ d ∷ []) l h = absurd (omega arith)

eqb_sym : (a b : ℕ) → eqb a b ≡ eqb b a
eqb_sym a b = by (eqb a b) refl
  where
    by : (t : Bool) → eqb a b ≡ t → eqb a b ≡ eqb b a
    by true e = e ∙ sym (eq-eqb b a (sym (eqb-true a b e)))
    by false e = e ∙ sym (ne_eqb b a (λ h. false≢true (sym e ∙ eq-eqb a b (sym h))))

-- three tests, in two orders
in_order : (p q r : Bool) → p && (q && (r && true)) ≡ p && q && r
in_order true true true = refl
in_order true true false = refl
in_order true false r = refl
in_order false q r = refl

too_short : (p q : Bool) → p && (q && false) ≡ false
too_short true true = refl
too_short true false = refl
too_short false q = refl

too_short_by_two : (p : Bool) → p && false ≡ false
too_short_by_two true = refl
too_short_by_two false = refl

-- a mark of three bytes stands in front
pub starts : (mark bytes : List ℕ) → length mark ≡ 3 → starts_with eqb bytes mark ≡ has_mark mark bytes
unfolding has_mark
starts (x ∷ y ∷ z ∷ []) (a ∷ b ∷ c ∷ rest) l =
    rw (le-leb 3 (suc (suc (suc (length rest)))) (omega arith), eqb_sym x a, eqb_sym y b, eqb_sym z c) (in_order (eqb a x) (eqb b y) (eqb c z))
starts (x ∷ y ∷ z ∷ []) [] l = refl
starts (x ∷ y ∷ z ∷ []) (a ∷ []) l = too_short_by_two (eqb x a)
starts (x ∷ y ∷ z ∷ []) (a ∷ b ∷ []) l = too_short (eqb x a) (eqb y b)
starts [] bytes l = absurd (omega arith)
starts (x ∷ []) bytes l = absurd (omega arith)
starts (x ∷ y ∷ []) bytes l = absurd (omega arith)
starts (x ∷ y ∷ z ∷ w ∷ mark) bytes l = absurd (omega arith)
