-- The texts of places, moves, steps and lines.
use Rattle.std.specs.Prelude.{ℕ, List, [], ◌∷◌, ◌++◌, codes, flat_map, slice_get}
use Rattle.std.specs.Fmt.{decimal}
use Rattle.lir_core.specs.declared.flow.Lir.{Lir}
use Rattle.lir_core.specs.declared.places.Place.{Place}
use Rattle.lir_core.specs.declared.places.Place.TheVariants.{Reg, Home, Out}
use Rattle.lir_core.specs.declared.places.Move.{Move}
use Rattle.lir_core.specs.declared.places.Line.{Line}
use Rattle.lir_core.specs.declared.places.Line.TheVariants.{Store, Load, Moves, Result, Target}
use Rattle.lir_core.specs.declared.places.Line.TheVariants.{Lir as Does}
use Rattle.parallel_move.specs.declared.step.Step.{Step}
use Rattle.parallel_move.specs.declared.step.Step.TheVariants.{Copy, Save, Restore}
use Rattle.trace_rows.specs.Operations.{value_text, spaced, maybe_operation}

abbrev pub register_text : ℕ → List ℕ
register_text r = codes "X" ++ decimal r

abbrev pub home_text : ℕ → List ℕ
home_text v = codes "home of " ++ value_text v

abbrev pub place_text : Place → List ℕ
place_text (Reg r) = register_text r
place_text (Home v) = home_text v
place_text (Out s) = codes "slot " ++ decimal s

---- Moves

abbrev pub move_text : Place → Place → List ℕ
move_text to from = place_text to ++ (codes " from " ++ place_text from)

abbrev pub next_move : Move → List ℕ
next_move m = codes ", " ++ move_text m.to m.from

abbrev pub moves_text : List Move → List ℕ
moves_text [] = []
moves_text (m ∷ ms) = move_text m.to m.from ++ flat_map next_move ms

-- a step of an edge; a cycle of moves goes through X16
abbrev pub step_text : Step → List ℕ
step_text (Copy to from) = move_text to from
step_text (Save from) = codes "X16 from " ++ place_text from
step_text (Restore to) = place_text to ++ codes " from X16"

---- Lines

-- which kind of row a line gives: an operation, a store or load of a home, or a move
abbrev pub kind_text : Line → List ℕ
kind_text (Does i) = codes "op"
kind_text (Store r v) = codes "mem"
kind_text (Load r v) = codes "mem"
kind_text (Moves ms) = codes "move"
kind_text (Result r) = codes "move"
kind_text (Target from) = codes "move"

abbrev pub line_text : List Lir → Line → List ℕ
line_text ops (Does i) = maybe_operation (slice_get ops i)
line_text ops (Store r v) = codes "store " ++ (register_text r ++ (codes " to " ++ home_text v))
line_text ops (Load r v) = codes "load " ++ (register_text r ++ (codes " from " ++ home_text v))
line_text ops (Moves ms) = codes "arguments " ++ moves_text ms
line_text ops (Result r) = codes "result " ++ (register_text r ++ codes " from X0")
line_text ops (Target from) = codes "target X25 from " ++ place_text from

---- Homes that are new behind a line

abbrev pub homed_at : Place → List ℕ
homed_at (Reg r) = []
homed_at (Home v) = spaced v
homed_at (Out s) = []

abbrev pub homed_to : Move → List ℕ
homed_to m = homed_at m.to

abbrev pub homed_by : Line → List ℕ
homed_by (Does i) = []
homed_by (Store r v) = spaced v
homed_by (Load r v) = []
homed_by (Moves ms) = flat_map homed_to ms
homed_by (Result r) = []
homed_by (Target from) = []

abbrev pub homed_behind : Step → List ℕ
homed_behind (Copy to from) = homed_at to
homed_behind (Save from) = []
homed_behind (Restore to) = homed_at to
