-- Ternary polynomials as bytes: a code of two bits a coefficient, lowest bits first. 0 is 0, 1 is 1, 2 is - 1, and 3 is invalid.
use Rattle.std.specs.Prelude.{cond, List, ℕ, ◌+◌, ◌-◌, ◌*◌, eqb, ltb, get_or}
use Rattle.lists.specs.Table.{table}
use Rattle.lists.specs.First.{first_failing}
use Rattle.ring.specs.Ring.{q}
use Rattle.encoding.specs.Digits.{digit_at}

-- code k of bytes, four a byte; a missing byte counts as 0
abbrev pub code_at : (bytes : List ℕ) (k : ℕ) → ℕ
code_at bytes k = digit_at 4 4 bytes k

-- the coefficient of a code modulo q; 0 where the code is invalid
unfoldable pub coefficient_of : (q code : ℕ) → ℕ
coefficient_of q code = cond (eqb code 1) 1 (cond (eqb code 2) (q - 1) 0)

-- the code of a coefficient modulo q; 0 where it is not 0, 1 or q - 1
unfoldable pub code_of : (q c : ℕ) → ℕ
code_of q c = cond (eqb c 1) 1 (cond (eqb c (q - 1)) 2 0)

-- the codes of the first m bytes
unfoldable pub codes_of : (m : ℕ) (bytes : List ℕ) → List ℕ
codes_of m bytes = table (4 * m) (code_at bytes)

-- the place of the first code 3 of these; 4 m where there is none
unfoldable pub first_invalid : (m : ℕ) (bytes : List ℕ) → ℕ
first_invalid m bytes = first_failing (λ code. ltb code 3) (codes_of m bytes)

-- the polynomial of these codes
unfoldable pub unpacked : (q m : ℕ) (bytes : List ℕ) → List ℕ
unpacked q m bytes = table (4 * m) (λ k. coefficient_of q (code_at bytes k))

-- the byte of four coefficients
abbrev pub packed_of : (q c0 c1 c2 c3 : ℕ) → ℕ
packed_of q c0 c1 c2 c3 = code_of q c0 + 4 * code_of q c1 + 16 * code_of q c2 + 64 * code_of q c3

-- byte i of a polynomial
abbrev pub packed_at : (q : ℕ) (t : List ℕ) (i : ℕ) → ℕ
packed_at q t i = packed_of q (get_or t (4 * i) 0) (get_or t (4 * i + 1) 0) (get_or t (4 * i + 2) 0) (get_or t (4 * i + 3) 0)

-- the m bytes of 4 m coefficients
unfoldable pub packed : (q m : ℕ) (t : List ℕ) → List ℕ
packed q m t = table m (packed_at q t)

-- ---- the ring's ternary polynomials: 1,024 coefficients modulo 59,393

-- how many bytes one has
abbrev pub ternary_length : ℕ
ternary_length = 256

abbrev pub first_invalid_code : List ℕ → ℕ
first_invalid_code bytes = first_invalid ternary_length bytes

abbrev pub ternary_of : List ℕ → List ℕ
ternary_of bytes = unpacked q ternary_length bytes

abbrev pub ternary_bytes : List ℕ → List ℕ
ternary_bytes t = packed q ternary_length t
