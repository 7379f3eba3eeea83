-- A list given by a rule for its entries.
use Rattle.std.specs.Prelude.{ℕ, zero, suc, List, [], ◌∷◌, replicate}

-- f i, f (i + 1), .., f (i + n - 1)
unfoldable pub table_from {ℓ} : {A : Type ℓ} → ℕ → ℕ → (ℕ → A) → List A
table_from i zero f = []
table_from i (suc n) f = f i ∷ table_from (suc i) n f

-- f 0, f 1, .., f (n - 1)
unfoldable pub table {ℓ} : {A : Type ℓ} → ℕ → (ℕ → A) → List A
table n f = table_from 0 n f

-- n zeros
abbrev pub zeros : ℕ → List ℕ
zeros n = replicate n 0
