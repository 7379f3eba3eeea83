-- A state that a function is given by value has lanes of 64 bits.
use mathlib.Core.List.{List, [], ◌∷◌}
use Prim.Native.Nat.{ℕ, zero, suc}
use lib.ListN.{get_or}
use mir.Syntax.{w64}
use mir.Val.{Val, Fits}
use mir.Facts.{Fits-lit}
use denote.RattleType.{RattleType}
use denote.Plain.{UInt}
use denote.Array.{Array, each}
use denote.Shadow.{shadow}
use denote.Laws.{Is}
use borrow.Author.Rules.{elem_Fits}
use Rattle.keccak_steps.specs.Steps.{State}
use Rattle.keccak_steps.proofs.States.{Wide}

-- the types of a plane and of a state
abbrev Plane : RattleType
Plane = Array (UInt w64) 5

abbrev pub Planes : RattleType
Planes = Array Plane 5

lane-fits : (a : State) (us : List Val) (x y : ℕ) → shadow (each (List ℕ) Plane.own_val a us) → Fits w64 (get_or (get_or a y []) x 0)
lane-fits [] us x y p = Fits-lit tt
lane-fits (r ∷ a) [] x y p = absurd p
lane-fits (r ∷ a) (u ∷ us) x zero p = elem_Fits w64 w64 r p.0.0 x p.0.1.1 tt
lane-fits (r ∷ a) (u ∷ us) x (suc y) p = lane-fits a us x y p.1

pub wide : (a : State) (vs : List Val) → Is Planes a vs → Wide a
wide a vs (us, p) x y hx hy = (lane-fits a us x y p.1).fits
