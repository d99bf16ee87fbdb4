-- Where blocks stand in the drawing of their flow.
use Rattle.std.specs.Prelude.{ℕ, suc, ◌+◌, ◌-◌, ◌*◌, ◌==◌, nat_lt, max, Bool, false, List, [], ◌∷◌, ◌++◌, map, fold, length, replicate, count_by, slice_set, slice_index_or, Option, Some, None, option_map, is_some, if◌then◌else◌}
use Rattle.run_laws.specs.Layers.{places_from}
use Rattle.lir_core.specs.declared.flow.Node.{Node}
use Rattle.lir_core.specs.Flows.{node_at}
use Rattle.flow_drawing.specs.declared.places.Place.{Place}
use Rattle.flow_drawing.specs.declared.layout.Corner.{Corner}
use Rattle.flow_drawing.specs.Order.{order_of}

-- the greatest of a number and the numbers of a list
abbrev pub greatest : ℕ → List ℕ → ℕ
greatest most [] = most
greatest most (n ∷ ns) = greatest (max n most) ns

---- Places

-- the place of a block, if it has one already
abbrev pub place_at : List (Option Place) → ℕ → Option Place
place_at places b = slice_index_or places b None

-- the layer below a place, or the first where there is none
abbrev pub below : Option Place → ℕ
below None = 0
below (Some p) = suc p.layer

-- the layer below all of some blocks, as far as they have places
abbrev pub layer_of : List (Option Place) → List ℕ → ℕ
layer_of places blocks = greatest 0 (map (λ b. below (place_at places b)) blocks)

abbrev pub stands_in : ℕ → Option Place → Bool
stands_in layer None = false
stands_in layer (Some p) = p.layer == layer

-- how many blocks a layer has
abbrev pub width_of : List (Option Place) → ℕ → ℕ
width_of places layer = count_by (stands_in layer) places

-- the next place in a layer: behind those that are in it
abbrev pub next_in : List (Option Place) → ℕ → Place
next_in places layer = record { layer = layer; column = width_of places layer }

-- a block's turn: unless it has a place, it gets the next one in the layer below its predecessors
abbrev pub settle : List Node → List (Option Place) → ℕ → List (Option Place)
settle nodes places b =
    if is_some (place_at places b) then places else slice_set places b (Some (next_in places (layer_of places (node_at nodes b).preds)))

abbrev pub settle_all : List Node → List (Option Place) → List ℕ → List (Option Place)
settle_all nodes places blocks = fold (settle nodes) places blocks

-- the places of all blocks
abbrev pub places_of : List Node → List (Option Place)
places_of nodes = settle_all nodes (replicate (length nodes) None) (order_of nodes)

---- Layers

-- how many layers there are
abbrev pub depth_of : List (Option Place) → ℕ
depth_of places = greatest 0 (map below places)

-- how many blocks each has
abbrev pub widths_of : List (Option Place) → List ℕ
widths_of places = map (width_of places) (places_from 0 (depth_of places))

-- how many the widest has
abbrev pub widest : List ℕ → ℕ
widest widths = greatest 0 widths

---- Boxes

-- the size of a box
abbrev pub box_width : ℕ
box_width = 116

abbrev pub box_height : ℕ
box_height = 46

-- the upper left corner of a box: columns are 140 apart, in the middle of the drawing, and layers 82
abbrev pub corner_at : (widest width column layer : ℕ) → Corner
corner_at widest width column layer = record { x = 46 + 70 * (widest - width) + 140 * column; y = 28 + 82 * layer }

-- that of a place, where layers have these widths
abbrev pub corner_of : List ℕ → Place → Corner
corner_of widths p = corner_at (widest widths) (slice_index_or widths p.layer 0) p.column p.layer

-- the corners of all boxes
abbrev pub corners_of : List (Option Place) → List (Option Corner)
corners_of places = map (option_map (corner_of (widths_of places))) places

-- the size of the drawing
abbrev pub drawing_width : List ℕ → ℕ
drawing_width widths = 68 + 140 * widest widths

abbrev pub drawing_height : List ℕ → ℕ
drawing_height widths = 28 + 82 * length widths

---- In the code

-- the widths of layers, with a block more in one of them or in the next layer
abbrev pub counted : List ℕ → ℕ → List ℕ
counted widths layer = if nat_lt layer (length widths) then slice_set widths layer (slice_index_or widths layer 0 + 1) else widths ++ 1 ∷ []
