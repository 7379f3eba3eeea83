-- Lane complementing: six lanes of the state are held complemented between the rounds, so that chi needs few complements of its own.
use Rattle.std.specs.Prelude.{List, [], ◌∷◌, ℕ, zero, suc, get_or}
use Rattle.keccak_steps.specs.Steps.{State, lane, plane, state, complement, chi_plane}

-- v for the mark 0, its complement for the mark 1
abbrev pub complement_if : ℕ → ℕ → ℕ
complement_if zero v = v
complement_if (suc n) v = complement v

-- the lanes with the mark 1 complemented, of a plane and of a state
abbrev pub plane_by : (marks p : List ℕ) → List ℕ
plane_by marks p = plane (λ x. complement_if (get_or marks x 0) (get_or p x 0))

abbrev pub complemented_by : State → State → State
complemented_by marks a = state (λ x y. complement_if (lane marks x y) (lane a x y))

-- between the rounds: lanes (1, 0), (2, 0), (3, 1), (2, 2), (2, 3) and (0, 4)
abbrev pub marks : State
marks =
    (0 ∷ 1 ∷ 1 ∷ 0 ∷ 0 ∷ [])
    ∷ (0 ∷ 0 ∷ 0 ∷ 1 ∷ 0 ∷ [])
    ∷ (0 ∷ 0 ∷ 1 ∷ 0 ∷ 0 ∷ [])
    ∷ (0 ∷ 0 ∷ 1 ∷ 0 ∷ 0 ∷ [])
    ∷ (1 ∷ 0 ∷ 0 ∷ 0 ∷ 0 ∷ [])
    ∷ []

-- before chi, where theta, rho and pi bring them
abbrev pub marks_before_chi : State
marks_before_chi =
    (1 ∷ 0 ∷ 1 ∷ 1 ∷ 0 ∷ [])
    ∷ (1 ∷ 0 ∷ 1 ∷ 0 ∷ 0 ∷ [])
    ∷ (1 ∷ 0 ∷ 1 ∷ 0 ∷ 0 ∷ [])
    ∷ (0 ∷ 1 ∷ 0 ∷ 1 ∷ 1 ∷ [])
    ∷ (1 ∷ 0 ∷ 0 ∷ 1 ∷ 0 ∷ [])
    ∷ []

-- Algorithm 4 on plane y, complemented before and after
abbrev pub complemented_chi_plane : ℕ → List ℕ → List ℕ
complemented_chi_plane y p = plane_by (get_or marks y []) (chi_plane (plane_by (get_or marks_before_chi y []) p))

-- Algorithm 4, the same
abbrev pub complemented_chi : State → State
complemented_chi a =
    complemented_chi_plane 0 (get_or a 0 [])
    ∷ complemented_chi_plane 1 (get_or a 1 [])
    ∷ complemented_chi_plane 2 (get_or a 2 [])
    ∷ complemented_chi_plane 3 (get_or a 3 [])
    ∷ complemented_chi_plane 4 (get_or a 4 [])
    ∷ []
