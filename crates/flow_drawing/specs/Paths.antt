-- The lines of edges.
use Rattle.std.specs.Prelude.{ℕ, ◌+◌, ◌-◌, ◌*◌, ◌/◌, ◌%◌, nat_le, Bool, true, false, List, [], ◌∷◌, ◌++◌, codes}
use Rattle.std.specs.Fmt.{decimal}
use Rattle.flow_drawing.specs.declared.layout.Corner.{Corner}
use Rattle.flow_drawing.specs.declared.paths.Point.{Point}

abbrev pub point : ℕ → ℕ → Point
point x y = record { x = x; y = y }

-- a line from a point to another, and the points between them towards which it bends
pub record Curve : Type 0 where
  pub start : Point
  pub between : List Point
  pub end : Point

-- an edge leads back where its target's box doesn't lie lower
abbrev pub leads_back : Corner → Corner → Bool
leads_back from to = nat_le to.y from.y

-- half way between a box and one below it
abbrev pub middle : Corner → Corner → ℕ
middle from to = (from.y + 46 + to.y) / 2

-- an edge down: from the middle of the box's lower side to the middle of the other's upper side
abbrev pub forward : Corner → Corner → Curve
forward from to = record {
  start = point (from.x + 58) (from.y + 46);
  between = point (from.x + 58) (middle from to) ∷ point (to.x + 58) (middle from to) ∷ [];
  end = point (to.x + 58) to.y;
}

-- where an edge back to a box leads up, left of all boxes: in one of four lanes, by the box's layer
abbrev pub lane : Corner → ℕ
lane to = 6 + 10 * (to.y / 82 % 4)

-- an edge back: down to below the box's layer, left to the lane, up to above the other's layer, and to the other's upper side
abbrev pub backward : Corner → Corner → Curve
backward from to = record {
  start = point (from.x + 38) (from.y + 46);
  between =
      point (from.x + 38) (from.y + 72) ∷ point (lane to) (from.y + 72) ∷ point (lane to) (from.y + 46)
      ∷ point (lane to) (from.y + 46) ∷ point (lane to) to.y ∷ point (lane to) to.y
      ∷ point (lane to) (to.y - 26) ∷ point (to.x + 24) (to.y - 26) ∷ [];
  end = point (to.x + 24) to.y;
}

abbrev pub curve_of : Bool → Corner → Corner → Curve
curve_of true from to = backward from to
curve_of false from to = forward from to

---- As text

abbrev pub point_text : Point → List ℕ
point_text p = codes " " ++ (decimal p.x ++ (codes " " ++ decimal p.y))

abbrev pub points_text : List Point → List ℕ
points_text [] = []
points_text (p ∷ ps) = point_text p ++ points_text ps

unfoldable pub curve_text : Curve → List ℕ
curve_text c = codes "M" ++ (point_text c.start ++ (codes " C" ++ (points_text c.between ++ point_text c.end)))
