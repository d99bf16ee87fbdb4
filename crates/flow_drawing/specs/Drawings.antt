-- The drawing of a flow.
use Rattle.std.specs.Prelude.{ℕ, suc, List, [], ◌∷◌, ◌++◌, map, flat_map, length, codes, slice_index_or, decimal, Option, Some, None}
use Rattle.block_runs.specs.Blocks.{successors}
use Rattle.lir_core.specs.declared.flow.Node.{Node}
use Rattle.lir_core.specs.declared.flow.Flow.{Flow}
use Rattle.lir_core.specs.declared.flow.Trace.{Trace}
use Rattle.flow_drawing.specs.declared.layout.Corner.{Corner}
use Rattle.flow_drawing.specs.declared.standings.Standing.{Standing}
use Rattle.flow_drawing.specs.declared.drawing.Block.{Block}
use Rattle.flow_drawing.specs.Layout.{greatest, places_of, widths_of, corners_of, drawing_width, drawing_height}
use Rattle.flow_drawing.specs.Boxes.{box_at}
use Rattle.flow_drawing.specs.Standings.{standings_of}
use Rattle.flow_drawing.specs.Paths.{leads_back}
use Rattle.flow_drawing.specs.Texts.{attribute, path_text, link_text, group_text, outline_text, name_text, small_text, heat, bar_text}

abbrev pub standing_at : List (Option Standing) → ℕ → Option Standing
standing_at standings b = slice_index_or standings b None

---- Edges

-- an edge between blocks that have boxes
abbrev pub between : Option Standing → (to : ℕ) → Option Corner → Option Corner → List ℕ
between standing to (Some c) (Some d) = path_text (leads_back c d) standing to c d
between standing to c d = []

abbrev pub edge_text : List (Option Corner) → List (Option Standing) → (from to : ℕ) → List ℕ
edge_text corners standings from to = between (standing_at standings from) to (box_at corners from) (box_at corners to)

-- the edges of nodes, the first of which has this number
abbrev pub edges_from : List (Option Corner) → List (Option Standing) → ℕ → List Node → List ℕ
edges_from corners standings b [] = []
edges_from corners standings b (n ∷ ns) = flat_map (edge_text corners standings b) (successors n.end) ++ edges_from corners standings (suc b) ns

---- Boxes

-- how often the most frequent node runs
abbrev pub greatest_freq : List Node → ℕ
greatest_freq nodes = greatest 0 (map (λ n. n.freq) nodes)

-- what is written into a box
unfoldable pub content_text : Block → Corner → List ℕ
content_text b c = name_text c b.number ++ (small_text c b.standing b.freq ++ bar_text c b.heat)

unfoldable pub block_text : (procedure : ℕ) → Block → Corner → List ℕ
block_text procedure b c =
    link_text procedure b.number ++ (group_text b.standing ++ (outline_text c ++ (content_text b c ++ codes "</g></a>")))

-- a block that has a box
abbrev pub boxed : (procedure : ℕ) → Block → Option Corner → List ℕ
boxed procedure b None = []
boxed procedure b (Some c) = block_text procedure b c

abbrev pub block : (most number : ℕ) → Option Standing → (freq : ℕ) → Block
block most number standing freq = record { number = number; standing = standing; freq = freq; heat = heat most freq }

abbrev pub box_text : (procedure most : ℕ) → List (Option Corner) → List (Option Standing) → ℕ → Node → List ℕ
box_text procedure most corners standings b n = boxed procedure (block most b (standing_at standings b) n.freq) (box_at corners b)

-- the boxes of nodes, the first of which has this number
abbrev pub boxes_from : (procedure most : ℕ) → List (Option Corner) → List (Option Standing) → ℕ → List Node → List ℕ
boxes_from procedure most corners standings b [] = []
boxes_from procedure most corners standings b (n ∷ ns) =
    box_text procedure most corners standings b n ++ boxes_from procedure most corners standings (suc b) ns

---- The whole

abbrev pub size_text : (width height : ℕ) → List ℕ
size_text width height = attribute (codes "width") width ++ attribute (codes "height") height

unfoldable pub svg_text : List ℕ
svg_text = codes "<svg class=\"graph\" viewBox=\"0 0 "

unfoldable pub role_text : List ℕ
role_text = codes " role=\"group\" aria-label=\"flow graph\">"

unfoldable pub head_text : (width height : ℕ) → List ℕ
head_text width height = svg_text ++ (decimal width ++ (codes " " ++ (decimal height ++ (codes "\"" ++ (size_text width height ++ role_text)))))

-- edges, and boxes over them
unfoldable pub graph_text : (procedure : ℕ) → List Node → List (Option Corner) → List (Option Standing) → List ℕ
graph_text procedure nodes corners standings =
    edges_from corners standings 0 nodes ++ boxes_from procedure (greatest_freq nodes) corners standings 0 nodes

-- a drawing of this size
unfoldable pub laid_text : (procedure width height : ℕ) → List Node → List (Option Corner) → List (Option Standing) → List ℕ
laid_text procedure width height nodes corners standings = head_text width height ++ (graph_text procedure nodes corners standings ++ codes "</svg>")

-- a flow with its traces, as the procedure of this number
abbrev pub drawing_text : (procedure : ℕ) → Flow → List Trace → List ℕ
drawing_text procedure flow traces =
    let places = places_of flow.nodes in
    let widths = widths_of places in
    laid_text procedure (drawing_width widths) (drawing_height widths) flow.nodes (corners_of places) (standings_of (length flow.nodes) traces)
