-- What is said of pieces.
use Rattle.std.specs.Prelude.{◌≡◌, ℕ, suc, ◌+◌, ◌≤◌, ◌^◌, List, [], ◌∷◌}
use Rattle.std.specs.Coded.{×_prop, le_prop}
use Rattle.run_laws.specs.Layers.{whole_width}
use Rattle.placed_code.specs.Placed.{Placed, proc_of}
use Rattle.placed_code.specs.Layout.{proc_width, procedures_at, entry}
use Rattle.procedure_pieces.specs.Pieces.{Hole}

-- this is the procedure of that number, its first word is word k, and all its words stand below 2 ^ 32
pub record StandsAt (ps : List Placed) (p k : ℕ) (pr : Placed) : Type 0 where
  pub proc : proc_of ps p ≡ pr
  pub here : entry ps p ≡ k
  pub reach : k + proc_width p pr ≤ 2 ^ 32

-- all words of an image stand below 2 ^ 32
abbrev pub IsInReach : List Placed → Type 0
IsInReach ps = procedures_at ps + whole_width proc_width 0 ps ≤ 2 ^ 32

-- holes stand in order, each at a word of its own, from one word on and before another
abbrev pub AreInOrder : ℕ → ℕ → List Hole → Type 0
AreInOrder from end [] = from ≤ end
AreInOrder from end (h ∷ hs) = (from ≤ h.at) × AreInOrder (suc h.at) end hs

-- they do in one way alone
pub in_order_prop : (from end : ℕ) (hs : List Hole) → IsProp (AreInOrder from end hs)
in_order_prop from end [] = le_prop
in_order_prop from end (h ∷ hs) = ×_prop le_prop (in_order_prop (suc h.at) end hs)
