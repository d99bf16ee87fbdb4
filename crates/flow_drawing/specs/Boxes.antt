-- Boxes in a drawing.
use Rattle.std.specs.Prelude.{◌≡◌, ℕ, ◌+◌, ◌≤◌, List, Option, None, slice_index_or}
use Rattle.lir_core.specs.declared.flow.Node.{Node}
use Rattle.flow_drawing.specs.declared.layout.Corner.{Corner}
use Rattle.flow_drawing.specs.declared.paths.Point.{Point}
use Rattle.flow_drawing.specs.Layout.{places_of, widths_of, corners_of, box_width, box_height, drawing_width, drawing_height}

-- the box of a block, if it has one
abbrev pub box_at : List (Option Corner) → ℕ → Option Corner
box_at corners b = slice_index_or corners b None

abbrev pub box_of : List Node → ℕ → Option Corner
box_of nodes b = box_at (corners_of (places_of nodes)) b

-- a box lies left of another, or above it
abbrev pub IsLeftOf : Corner → Corner → Type 0
IsLeftOf a b = a.x + box_width ≤ b.x

abbrev pub IsAbove : Corner → Corner → Type 0
IsAbove a b = a.y + box_height ≤ b.y

-- two boxes don't overlap
pub data AreApart (a b : Corner) : Type 0 where
  left : IsLeftOf a b → AreApart a b
  right : IsLeftOf b a → AreApart a b
  above : IsAbove a b → AreApart a b
  lower : IsAbove b a → AreApart a b

-- a box lies within the drawing of nodes
pub record IsWithin (nodes : List Node) (c : Corner) : Type 0 where
  pub right : c.x + box_width ≤ drawing_width (widths_of (places_of nodes))
  pub lower : c.y + box_height ≤ drawing_height (widths_of (places_of nodes))

-- a point is above, within or below the width of a box
pub record IsInColumn (p : Point) (c : Corner) : Type 0 where
  pub left : c.x ≤ p.x
  pub right : p.x ≤ c.x + box_width

-- a point is on a box's upper side, or on its lower side
pub record IsOnUpperSide (p : Point) (c : Corner) : Type 0 where
  pub column : IsInColumn p c
  pub side : p.y ≡ c.y

pub record IsOnLowerSide (p : Point) (c : Corner) : Type 0 where
  pub column : IsInColumn p c
  pub side : p.y ≡ c.y + box_height
