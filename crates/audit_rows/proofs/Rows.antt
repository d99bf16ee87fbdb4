-- What the audit says of results, as an independent audit has it, and what is read in notes. The numbers behind an equation's name are the
-- places of the notes' bytes that it changes, and what stands there.
use Rattle.std.proofs.Common.{◌≡◌, ℕ, Bool, true, false, List, [], ◌∷◌, ◌++◌, Option, Some, None, Ok, Err, length, refl}
use Rattle.std.specs.Prelude.{slice_set, take}
use Rattle.block_runs.specs.declared.code.Code.{Code}
use Rattle.block_runs.specs.declared.code.Code.TheVariants.{Add, Call, CallAt, Svc}
use Rattle.block_runs.specs.declared.end.End.{End}
use Rattle.block_runs.specs.declared.end.End.TheVariants.{Jump, Branch, Nonzero, Return, Trap}
use Rattle.lir_core.specs.declared.flow.Lir.{Lir}
use Rattle.lir_core.specs.declared.flow.Node.{Node}
use Rattle.lir_core.specs.declared.flow.Flow.{Flow}
use Rattle.lir_core.specs.declared.flow.Trace.{Trace}
use Rattle.lir_core.specs.declared.places.Place.{Place}
use Rattle.lir_core.specs.declared.places.Place.TheVariants.{Reg, Home, Out}
use Rattle.lir_core.specs.declared.places.Move.{Move}
use Rattle.lir_core.specs.declared.places.Places.{Places}
use Rattle.lir_core.specs.declared.places.Line.{Line}
use Rattle.lir_core.specs.declared.places.Line.TheVariants.{Store, Load, Moves, Target}
use Rattle.lir_core.specs.declared.places.Line.TheVariants.{Lir as Does, Result as Takes}
use Rattle.lir_core.specs.declared.places.TraceOut.{TraceOut}
use Rattle.alloc_audit.specs.declared.verdict.Verdict.TheVariants.{Sound, Unsound}
use Rattle.plain_form.specs.Spelling.{number}
use Rattle.plain_form.specs.Reading.{number_at, up_to_at, list_at, mark_at, whole_of}
use Rattle.plain_form.specs.results.Reading.{held_at, places_at, place_at, move_at, stored_at, line_at, result_at}
use Rattle.trace_notes.specs.Notes.{notes}
use Rattle.audit_rows.specs.Answers.{Planned, verdict, bytes_of, read}

abbrev lir : Code → List ℕ → Option ℕ → Bool → Lir
lir code uses def call = record { template = code; uses = uses; def = def; call = call }

abbrev node : List ℕ → List Lir → End → Node
node params lirs end = record { params = params; lirs = lirs; end = end; freq = 0; preds = []; enter = None }

abbrev flow : ℕ → List Node → Flow
flow values nodes = record { nodes = nodes; values = values; args = 0; counted = true; local_cells = 0; local_bytes = 0 }

abbrev trace : List ℕ → Trace
trace nodes = record { nodes = nodes }

abbrev move : Place → Place → Move
move to from = record { to = to; from = from }

abbrev places : List (Option ℕ) → List ℕ → Places
places regs homed = record { regs = regs; homed = homed }

abbrev result : ℕ → List Places → List Places → List (List Line) → List (List ℕ) → TraceOut
result number starts ends lines regs = record { trace = number; starts = starts; ends = ends; lines = lines; regs = regs }

abbrev empty : Planned
empty = record { flows = ((flow 0 ((node ([]) ([]) (Return None)) ∷ [])) ∷ []); live = ((([]) ∷ []) ∷ []); cuts = ((trace (0 ∷ []) ∷ []) ∷ []) }

abbrev loop : Planned
loop = record { flows = ((flow 26 ((node ([]) ((lir Add ([]) (Some 0) false) ∷ (lir Add ([]) (Some 1) false) ∷ (lir Add (0 ∷ 1 ∷ []) None false) ∷ []) (Jump 1 ([]))) ∷ (node ([]) ((lir Add ([]) (Some 2) false) ∷ (lir Add ([]) (Some 3) false) ∷ (lir Add (3 ∷ []) (Some 4) false) ∷ (lir Add ([]) (Some 5) false) ∷ (lir Add (4 ∷ 5 ∷ []) (Some 6) false) ∷ (lir Add (2 ∷ 6 ∷ []) None false) ∷ (lir Add ([]) (Some 7) false) ∷ (lir Add (7 ∷ []) (Some 8) false) ∷ (lir Add ([]) (Some 9) false) ∷ []) (Branch 0 8 9 2 3)) ∷ (node ([]) ((lir Add ([]) (Some 10) false) ∷ (lir Add (10 ∷ []) (Some 11) false) ∷ (lir Add ([]) (Some 12) false) ∷ (lir (Svc 2) (11 ∷ 12 ∷ []) None true) ∷ []) (Jump 7 ([]))) ∷ (node ([]) ((lir Add ([]) (Some 13) false) ∷ (lir Add (13 ∷ []) (Some 14) false) ∷ (lir Add ([]) (Some 15) false) ∷ []) (Branch 12 14 15 4 5)) ∷ (node ([]) ((lir Add ([]) (Some 16) false) ∷ (lir Add (16 ∷ []) (Some 17) false) ∷ (lir Add ([]) (Some 18) false) ∷ (lir Add (18 ∷ []) (Some 19) false) ∷ (lir Add (17 ∷ 19 ∷ []) (Some 20) false) ∷ (lir Add ([]) (Some 21) false) ∷ (lir (Svc 2) (20 ∷ 21 ∷ []) None true) ∷ []) (Jump 6 ([]))) ∷ (node ([]) ([]) (Jump 6 ([]))) ∷ (node ([]) ([]) (Jump 7 ([]))) ∷ (node ([]) ((lir Add ([]) (Some 22) false) ∷ (lir Add (22 ∷ []) (Some 23) false) ∷ (lir Add ([]) (Some 24) false) ∷ []) (Branch 0 23 24 9 8)) ∷ (node ([]) ([]) (Jump 1 ([]))) ∷ (node ([]) ((lir Add ([]) (Some 25) false) ∷ (lir (Svc 1) (25 ∷ []) None true) ∷ []) (Return None)) ∷ [])) ∷ []); live = ((([]) ∷ ([]) ∷ ([]) ∷ ([]) ∷ ([]) ∷ ([]) ∷ ([]) ∷ ([]) ∷ ([]) ∷ ([]) ∷ []) ∷ []); cuts = ((trace (0 ∷ 1 ∷ 2 ∷ 7 ∷ 8 ∷ []) ∷ trace (3 ∷ 4 ∷ 6 ∷ []) ∷ trace (5 ∷ []) ∷ trace (9 ∷ []) ∷ []) ∷ []) }

abbrev calls : Planned
calls = record { flows = ((flow 13 ((node (0 ∷ 1 ∷ 2 ∷ 3 ∷ []) ((lir Add ([]) (Some 4) false) ∷ (lir Add ([]) (Some 5) false) ∷ (lir Add ([]) (Some 6) false) ∷ (lir Add (1 ∷ 2 ∷ []) (Some 7) false) ∷ (lir Add (0 ∷ 7 ∷ []) (Some 8) false) ∷ []) (Jump 1 (8 ∷ []))) ∷ (node (9 ∷ []) ([]) (Branch 11 9 3 2 3)) ∷ (node ([]) ((lir Add (4 ∷ 5 ∷ []) (Some 10) false) ∷ (lir Add (9 ∷ 10 ∷ []) (Some 11) false) ∷ []) (Jump 1 (11 ∷ []))) ∷ (node ([]) ((lir Add (9 ∷ 0 ∷ []) (Some 12) false) ∷ []) (Return (Some 12))) ∷ [])) ∷ (flow 2 ((node (0 ∷ []) ((lir Add (0 ∷ 0 ∷ []) (Some 1) false) ∷ []) (Return (Some 1))) ∷ [])) ∷ (flow 13 ((node ([]) ((lir Add ([]) (Some 0) false) ∷ (lir Add ([]) (Some 1) false) ∷ (lir Add (0 ∷ 1 ∷ []) None false) ∷ (lir Add ([]) (Some 2) false) ∷ (lir Add ([]) (Some 3) false) ∷ (lir Add ([]) (Some 4) false) ∷ (lir Add ([]) (Some 5) false) ∷ (lir Add ([]) (Some 6) false) ∷ (lir Add (6 ∷ []) (Some 7) false) ∷ (lir Add ([]) (Some 8) false) ∷ (lir Add (7 ∷ []) None false) ∷ (lir CallAt (7 ∷ 8 ∷ []) (Some 9) true) ∷ (lir Add ([]) (Some 10) false) ∷ (lir Add ([]) (Some 11) false) ∷ (lir (Call 0) (3 ∷ 4 ∷ 5 ∷ 9 ∷ 10 ∷ 11 ∷ []) (Some 12) true) ∷ (lir Add (2 ∷ 12 ∷ []) None false) ∷ []) (Return None)) ∷ [])) ∷ []); live = ((([]) ∷ (0 ∷ 3 ∷ 4 ∷ 5 ∷ []) ∷ (0 ∷ 3 ∷ 4 ∷ 5 ∷ 9 ∷ []) ∷ (0 ∷ 9 ∷ []) ∷ []) ∷ (([]) ∷ []) ∷ (([]) ∷ []) ∷ []); cuts = ((trace (0 ∷ 1 ∷ 2 ∷ []) ∷ trace (3 ∷ []) ∷ []) ∷ (trace (0 ∷ []) ∷ []) ∷ (trace (0 ∷ []) ∷ []) ∷ []) }

abbrev gcd : Planned
gcd = record { flows = ((flow 6 ((node (0 ∷ 1 ∷ []) ([]) (Jump 1 (0 ∷ 1 ∷ []))) ∷ (node (2 ∷ 3 ∷ []) ([]) (Branch 12 2 3 2 3)) ∷ (node ([]) ((lir Add (2 ∷ 3 ∷ []) (Some 4) false) ∷ []) (Jump 1 (4 ∷ 3 ∷ []))) ∷ (node ([]) ([]) (Branch 12 3 2 4 5)) ∷ (node ([]) ((lir Add (3 ∷ 2 ∷ []) (Some 5) false) ∷ []) (Jump 1 (2 ∷ 5 ∷ []))) ∷ (node ([]) ([]) (Return (Some 2))) ∷ [])) ∷ (flow 6 ((node (0 ∷ 1 ∷ []) ((lir Add ([]) (Some 2) false) ∷ []) (Branch 1 1 2 1 2)) ∷ (node ([]) ((lir Add (0 ∷ 1 ∷ []) (Some 3) false) ∷ (lir (Call 1) (1 ∷ 3 ∷ []) (Some 4) true) ∷ []) (Jump 3 (4 ∷ []))) ∷ (node ([]) ([]) (Jump 3 (0 ∷ []))) ∷ (node (5 ∷ []) ([]) (Return (Some 5))) ∷ [])) ∷ (flow 9 ((node (0 ∷ 1 ∷ []) ((lir Add ([]) (Some 2) false) ∷ (lir (Svc 2) (0 ∷ 2 ∷ []) None true) ∷ (lir Add ([]) (Some 3) false) ∷ (lir (Svc 2) (1 ∷ 3 ∷ []) None true) ∷ (lir (Call 0) (0 ∷ 1 ∷ []) (Some 4) true) ∷ (lir Add ([]) (Some 5) false) ∷ (lir (Svc 2) (4 ∷ 5 ∷ []) None true) ∷ (lir (Call 1) (0 ∷ 1 ∷ []) (Some 6) true) ∷ (lir Add ([]) (Some 7) false) ∷ (lir (Svc 2) (6 ∷ 7 ∷ []) None true) ∷ (lir Add ([]) (Some 8) false) ∷ (lir (Svc 1) (8 ∷ []) None true) ∷ []) (Return None)) ∷ [])) ∷ (flow 8 ((node ([]) ((lir Add ([]) (Some 0) false) ∷ (lir Add ([]) (Some 1) false) ∷ (lir (Call 2) (0 ∷ 1 ∷ []) None true) ∷ (lir Add ([]) (Some 2) false) ∷ (lir Add ([]) (Some 3) false) ∷ (lir (Call 2) (2 ∷ 3 ∷ []) None true) ∷ (lir Add ([]) (Some 4) false) ∷ (lir Add ([]) (Some 5) false) ∷ (lir (Call 2) (4 ∷ 5 ∷ []) None true) ∷ (lir Add ([]) (Some 6) false) ∷ (lir Add ([]) (Some 7) false) ∷ (lir (Call 2) (6 ∷ 7 ∷ []) None true) ∷ []) (Return None)) ∷ [])) ∷ []); live = ((([]) ∷ ([]) ∷ (2 ∷ 3 ∷ []) ∷ (2 ∷ 3 ∷ []) ∷ (2 ∷ 3 ∷ []) ∷ (2 ∷ []) ∷ []) ∷ (([]) ∷ (0 ∷ 1 ∷ []) ∷ (0 ∷ []) ∷ ([]) ∷ []) ∷ (([]) ∷ []) ∷ (([]) ∷ []) ∷ []); cuts = ((trace (0 ∷ 1 ∷ 2 ∷ []) ∷ trace (3 ∷ 4 ∷ []) ∷ trace (5 ∷ []) ∷ []) ∷ (trace (0 ∷ 1 ∷ 3 ∷ []) ∷ trace (2 ∷ []) ∷ []) ∷ (trace (0 ∷ []) ∷ []) ∷ (trace (0 ∷ []) ∷ []) ∷ []) }

abbrev empty_plain_16 : List TraceOut
empty_plain_16 = (result 0 ((places (None ∷ None ∷ None ∷ None ∷ None ∷ None ∷ None ∷ None ∷ None ∷ None ∷ None ∷ None ∷ None ∷ None ∷ None ∷ None ∷ []) ([])) ∷ []) ((places (None ∷ None ∷ None ∷ None ∷ None ∷ None ∷ None ∷ None ∷ None ∷ None ∷ None ∷ None ∷ None ∷ None ∷ None ∷ None ∷ []) ([])) ∷ []) (([]) ∷ []) (([]) ∷ []) ∷ [])

pub empty_plain_16_passes : verdict 16 empty empty_plain_16 ≡ Sound
empty_plain_16_passes = refl

abbrev loop_linear_4 : List TraceOut
loop_linear_4 = (result 0 ((places (None ∷ None ∷ None ∷ None ∷ []) ([])) ∷ (places (None ∷ None ∷ None ∷ None ∷ []) ([])) ∷ (places (None ∷ None ∷ None ∷ None ∷ []) ([])) ∷ (places (None ∷ None ∷ None ∷ None ∷ []) ([])) ∷ (places (None ∷ None ∷ None ∷ None ∷ []) ([])) ∷ []) ((places (None ∷ None ∷ None ∷ None ∷ []) ([])) ∷ (places ((Some 8) ∷ (Some 9) ∷ None ∷ None ∷ []) ([])) ∷ (places (None ∷ None ∷ None ∷ None ∷ []) ([])) ∷ (places ((Some 23) ∷ (Some 24) ∷ None ∷ None ∷ []) ([])) ∷ (places (None ∷ None ∷ None ∷ None ∷ []) ([])) ∷ []) (((Does 0) ∷ (Does 1) ∷ (Does 2) ∷ []) ∷ ((Does 0) ∷ (Does 1) ∷ (Does 2) ∷ (Does 3) ∷ (Does 4) ∷ (Does 5) ∷ (Does 6) ∷ (Does 7) ∷ (Does 8) ∷ []) ∷ ((Does 0) ∷ (Does 1) ∷ (Does 2) ∷ (Moves (move (Reg 0) (Reg 0) ∷ move (Reg 1) (Reg 1) ∷ [])) ∷ (Does 3) ∷ []) ∷ ((Does 0) ∷ (Does 1) ∷ (Does 2) ∷ []) ∷ ([]) ∷ []) ((0 ∷ 1 ∷ 0 ∷ 1 ∷ []) ∷ (0 ∷ 1 ∷ 1 ∷ 1 ∷ 2 ∷ 1 ∷ 2 ∷ 1 ∷ 0 ∷ 1 ∷ 0 ∷ 0 ∷ 0 ∷ 1 ∷ 0 ∷ 1 ∷ []) ∷ (0 ∷ 0 ∷ 0 ∷ 1 ∷ []) ∷ (0 ∷ 0 ∷ 0 ∷ 1 ∷ 0 ∷ 1 ∷ []) ∷ ([]) ∷ []) ∷ result 1 ((places (None ∷ None ∷ None ∷ None ∷ []) ([])) ∷ (places (None ∷ None ∷ None ∷ None ∷ []) ([])) ∷ (places (None ∷ None ∷ None ∷ None ∷ []) ([])) ∷ []) ((places ((Some 14) ∷ (Some 15) ∷ None ∷ None ∷ []) ([])) ∷ (places (None ∷ None ∷ None ∷ None ∷ []) ([])) ∷ (places (None ∷ None ∷ None ∷ None ∷ []) ([])) ∷ []) (((Does 0) ∷ (Does 1) ∷ (Does 2) ∷ []) ∷ ((Does 0) ∷ (Does 1) ∷ (Does 2) ∷ (Does 3) ∷ (Does 4) ∷ (Does 5) ∷ (Moves (move (Reg 0) (Reg 0) ∷ move (Reg 1) (Reg 1) ∷ [])) ∷ (Does 6) ∷ []) ∷ ([]) ∷ []) ((0 ∷ 0 ∷ 0 ∷ 1 ∷ 0 ∷ 1 ∷ []) ∷ (0 ∷ 0 ∷ 0 ∷ 1 ∷ 1 ∷ 1 ∷ 0 ∷ 1 ∷ 0 ∷ 1 ∷ []) ∷ ([]) ∷ []) ∷ result 2 ((places (None ∷ None ∷ None ∷ None ∷ []) ([])) ∷ []) ((places (None ∷ None ∷ None ∷ None ∷ []) ([])) ∷ []) (([]) ∷ []) (([]) ∷ []) ∷ result 3 ((places (None ∷ None ∷ None ∷ None ∷ []) ([])) ∷ []) ((places (None ∷ None ∷ None ∷ None ∷ []) ([])) ∷ []) (((Does 0) ∷ (Moves (move (Reg 0) (Reg 0) ∷ [])) ∷ (Does 1) ∷ []) ∷ []) ((0 ∷ []) ∷ []) ∷ [])

pub loop_linear_4_passes : verdict 4 loop loop_linear_4 ≡ Sound
loop_linear_4_passes = refl

abbrev loop_bottomup_6 : List TraceOut
loop_bottomup_6 = (result 0 ((places (None ∷ None ∷ None ∷ None ∷ None ∷ None ∷ []) ([])) ∷ (places (None ∷ None ∷ None ∷ None ∷ None ∷ None ∷ []) ([])) ∷ (places (None ∷ None ∷ None ∷ None ∷ None ∷ None ∷ []) ([])) ∷ (places (None ∷ None ∷ None ∷ None ∷ None ∷ None ∷ []) ([])) ∷ (places (None ∷ None ∷ None ∷ None ∷ None ∷ None ∷ []) ([])) ∷ []) ((places (None ∷ None ∷ None ∷ None ∷ None ∷ None ∷ []) ([])) ∷ (places ((Some 8) ∷ (Some 9) ∷ None ∷ None ∷ None ∷ None ∷ []) ([])) ∷ (places (None ∷ None ∷ None ∷ None ∷ None ∷ None ∷ []) ([])) ∷ (places ((Some 23) ∷ (Some 24) ∷ None ∷ None ∷ None ∷ None ∷ []) ([])) ∷ (places (None ∷ None ∷ None ∷ None ∷ None ∷ None ∷ []) ([])) ∷ []) (((Does 0) ∷ (Does 1) ∷ (Does 2) ∷ []) ∷ ((Does 0) ∷ (Does 1) ∷ (Does 2) ∷ (Does 3) ∷ (Does 4) ∷ (Does 5) ∷ (Does 6) ∷ (Does 7) ∷ (Does 8) ∷ []) ∷ ((Does 0) ∷ (Does 1) ∷ (Does 2) ∷ (Moves (move (Reg 0) (Reg 0) ∷ move (Reg 1) (Reg 1) ∷ [])) ∷ (Does 3) ∷ []) ∷ ((Does 0) ∷ (Does 1) ∷ (Does 2) ∷ []) ∷ ([]) ∷ []) ((0 ∷ 1 ∷ 0 ∷ 1 ∷ []) ∷ (0 ∷ 1 ∷ 1 ∷ 1 ∷ 2 ∷ 1 ∷ 2 ∷ 1 ∷ 0 ∷ 1 ∷ 0 ∷ 0 ∷ 0 ∷ 1 ∷ 0 ∷ 1 ∷ []) ∷ (0 ∷ 0 ∷ 0 ∷ 1 ∷ []) ∷ (0 ∷ 0 ∷ 0 ∷ 1 ∷ 0 ∷ 1 ∷ []) ∷ ([]) ∷ []) ∷ result 1 ((places (None ∷ None ∷ None ∷ None ∷ None ∷ None ∷ []) ([])) ∷ (places (None ∷ None ∷ None ∷ None ∷ None ∷ None ∷ []) ([])) ∷ (places (None ∷ None ∷ None ∷ None ∷ None ∷ None ∷ []) ([])) ∷ []) ((places ((Some 14) ∷ (Some 15) ∷ None ∷ None ∷ None ∷ None ∷ []) ([])) ∷ (places (None ∷ None ∷ None ∷ None ∷ None ∷ None ∷ []) ([])) ∷ (places (None ∷ None ∷ None ∷ None ∷ None ∷ None ∷ []) ([])) ∷ []) (((Does 0) ∷ (Does 1) ∷ (Does 2) ∷ []) ∷ ((Does 0) ∷ (Does 1) ∷ (Does 2) ∷ (Does 3) ∷ (Does 4) ∷ (Does 5) ∷ (Moves (move (Reg 0) (Reg 0) ∷ move (Reg 1) (Reg 1) ∷ [])) ∷ (Does 6) ∷ []) ∷ ([]) ∷ []) ((0 ∷ 0 ∷ 0 ∷ 1 ∷ 0 ∷ 1 ∷ []) ∷ (0 ∷ 0 ∷ 0 ∷ 1 ∷ 1 ∷ 1 ∷ 0 ∷ 1 ∷ 0 ∷ 1 ∷ []) ∷ ([]) ∷ []) ∷ result 2 ((places (None ∷ None ∷ None ∷ None ∷ None ∷ None ∷ []) ([])) ∷ []) ((places (None ∷ None ∷ None ∷ None ∷ None ∷ None ∷ []) ([])) ∷ []) (([]) ∷ []) (([]) ∷ []) ∷ result 3 ((places (None ∷ None ∷ None ∷ None ∷ None ∷ None ∷ []) ([])) ∷ []) ((places (None ∷ None ∷ None ∷ None ∷ None ∷ None ∷ []) ([])) ∷ []) (((Does 0) ∷ (Moves (move (Reg 0) (Reg 0) ∷ [])) ∷ (Does 1) ∷ []) ∷ []) ((0 ∷ []) ∷ []) ∷ [])

pub loop_bottomup_6_passes : verdict 6 loop loop_bottomup_6 ≡ Sound
loop_bottomup_6_passes = refl

abbrev loop_plain_4 : List TraceOut
loop_plain_4 = (result 0 ((places (None ∷ None ∷ None ∷ None ∷ []) ([])) ∷ (places (None ∷ None ∷ None ∷ None ∷ []) ([])) ∷ (places (None ∷ None ∷ None ∷ None ∷ []) ([])) ∷ (places (None ∷ None ∷ None ∷ None ∷ []) ([])) ∷ (places (None ∷ None ∷ None ∷ None ∷ []) ([])) ∷ []) ((places (None ∷ None ∷ None ∷ None ∷ []) ([])) ∷ (places (None ∷ None ∷ None ∷ None ∷ []) (8 ∷ 9 ∷ [])) ∷ (places (None ∷ None ∷ None ∷ None ∷ []) ([])) ∷ (places (None ∷ None ∷ None ∷ None ∷ []) (23 ∷ 24 ∷ [])) ∷ (places (None ∷ None ∷ None ∷ None ∷ []) ([])) ∷ []) (((Does 0) ∷ (Store 0 0) ∷ (Does 1) ∷ (Store 0 1) ∷ (Load 0 0) ∷ (Load 1 1) ∷ (Does 2) ∷ []) ∷ ((Does 0) ∷ (Store 0 2) ∷ (Does 1) ∷ (Store 0 3) ∷ (Load 0 3) ∷ (Does 2) ∷ (Store 0 4) ∷ (Does 3) ∷ (Store 0 5) ∷ (Load 0 4) ∷ (Load 1 5) ∷ (Does 4) ∷ (Store 0 6) ∷ (Load 0 2) ∷ (Load 1 6) ∷ (Does 5) ∷ (Does 6) ∷ (Store 0 7) ∷ (Load 0 7) ∷ (Does 7) ∷ (Store 0 8) ∷ (Does 8) ∷ (Store 0 9) ∷ (Load 0 8) ∷ (Load 1 9) ∷ []) ∷ ((Does 0) ∷ (Store 0 10) ∷ (Load 0 10) ∷ (Does 1) ∷ (Store 0 11) ∷ (Does 2) ∷ (Store 0 12) ∷ (Moves (move (Reg 0) (Home 11) ∷ move (Reg 1) (Home 12) ∷ [])) ∷ (Does 3) ∷ []) ∷ ((Does 0) ∷ (Store 0 22) ∷ (Load 0 22) ∷ (Does 1) ∷ (Store 0 23) ∷ (Does 2) ∷ (Store 0 24) ∷ (Load 0 23) ∷ (Load 1 24) ∷ []) ∷ ([]) ∷ []) ((0 ∷ 0 ∷ 0 ∷ 1 ∷ []) ∷ (0 ∷ 0 ∷ 0 ∷ 0 ∷ 0 ∷ 0 ∷ 1 ∷ 0 ∷ 0 ∷ 1 ∷ 0 ∷ 0 ∷ 0 ∷ 0 ∷ 0 ∷ 1 ∷ []) ∷ (0 ∷ 0 ∷ 0 ∷ 0 ∷ []) ∷ (0 ∷ 0 ∷ 0 ∷ 0 ∷ 0 ∷ 1 ∷ []) ∷ ([]) ∷ []) ∷ result 1 ((places (None ∷ None ∷ None ∷ None ∷ []) ([])) ∷ (places (None ∷ None ∷ None ∷ None ∷ []) ([])) ∷ (places (None ∷ None ∷ None ∷ None ∷ []) ([])) ∷ []) ((places (None ∷ None ∷ None ∷ None ∷ []) (14 ∷ 15 ∷ [])) ∷ (places (None ∷ None ∷ None ∷ None ∷ []) ([])) ∷ (places (None ∷ None ∷ None ∷ None ∷ []) ([])) ∷ []) (((Does 0) ∷ (Store 0 13) ∷ (Load 0 13) ∷ (Does 1) ∷ (Store 0 14) ∷ (Does 2) ∷ (Store 0 15) ∷ (Load 0 14) ∷ (Load 1 15) ∷ []) ∷ ((Does 0) ∷ (Store 0 16) ∷ (Load 0 16) ∷ (Does 1) ∷ (Store 0 17) ∷ (Does 2) ∷ (Store 0 18) ∷ (Load 0 18) ∷ (Does 3) ∷ (Store 0 19) ∷ (Load 0 17) ∷ (Load 1 19) ∷ (Does 4) ∷ (Store 0 20) ∷ (Does 5) ∷ (Store 0 21) ∷ (Moves (move (Reg 0) (Home 20) ∷ move (Reg 1) (Home 21) ∷ [])) ∷ (Does 6) ∷ []) ∷ ([]) ∷ []) ((0 ∷ 0 ∷ 0 ∷ 0 ∷ 0 ∷ 1 ∷ []) ∷ (0 ∷ 0 ∷ 0 ∷ 0 ∷ 0 ∷ 0 ∷ 0 ∷ 1 ∷ 0 ∷ 0 ∷ []) ∷ ([]) ∷ []) ∷ result 2 ((places (None ∷ None ∷ None ∷ None ∷ []) ([])) ∷ []) ((places (None ∷ None ∷ None ∷ None ∷ []) ([])) ∷ []) (([]) ∷ []) (([]) ∷ []) ∷ result 3 ((places (None ∷ None ∷ None ∷ None ∷ []) ([])) ∷ []) ((places (None ∷ None ∷ None ∷ None ∷ []) ([])) ∷ []) (((Does 0) ∷ (Store 0 25) ∷ (Moves (move (Reg 0) (Home 25) ∷ [])) ∷ (Does 1) ∷ []) ∷ []) ((0 ∷ []) ∷ []) ∷ [])

pub loop_plain_4_passes : verdict 4 loop loop_plain_4 ≡ Sound
loop_plain_4_passes = refl

abbrev calls_linear_4 : List TraceOut
calls_linear_4 = (result 0 ((places ((Some 0) ∷ (Some 1) ∷ (Some 2) ∷ (Some 3) ∷ []) ([])) ∷ (places ((Some 0) ∷ (Some 9) ∷ None ∷ None ∷ []) (3 ∷ 4 ∷ 5 ∷ [])) ∷ (places ((Some 0) ∷ (Some 9) ∷ (Some 3) ∷ None ∷ []) (3 ∷ 4 ∷ 5 ∷ [])) ∷ []) ((places ((Some 0) ∷ (Some 8) ∷ None ∷ None ∷ []) (3 ∷ 4 ∷ 5 ∷ [])) ∷ (places ((Some 0) ∷ (Some 9) ∷ (Some 3) ∷ None ∷ []) (3 ∷ 4 ∷ 5 ∷ [])) ∷ (places ((Some 11) ∷ None ∷ (Some 3) ∷ (Some 4) ∷ []) (0 ∷ 3 ∷ 4 ∷ 5 ∷ [])) ∷ []) (((Store 3 3) ∷ (Does 0) ∷ (Store 3 4) ∷ (Does 1) ∷ (Store 3 5) ∷ (Does 2) ∷ (Does 3) ∷ (Does 4) ∷ []) ∷ ((Load 2 3) ∷ []) ∷ ((Load 3 4) ∷ (Store 0 0) ∷ (Load 0 5) ∷ (Does 0) ∷ (Does 1) ∷ []) ∷ []) ((3 ∷ 3 ∷ 3 ∷ 1 ∷ 2 ∷ 1 ∷ 0 ∷ 1 ∷ 1 ∷ []) ∷ (1 ∷ 2 ∷ []) ∷ (3 ∷ 0 ∷ 0 ∷ 1 ∷ 0 ∷ 0 ∷ []) ∷ []) ∷ result 1 ((places ((Some 0) ∷ (Some 9) ∷ None ∷ None ∷ []) ([])) ∷ []) ((places ((Some 12) ∷ None ∷ None ∷ None ∷ []) ([])) ∷ []) (((Does 0) ∷ []) ∷ []) ((1 ∷ 0 ∷ 0 ∷ 0 ∷ []) ∷ []) ∷ result 2 ((places ((Some 0) ∷ None ∷ None ∷ None ∷ []) ([])) ∷ []) ((places ((Some 1) ∷ None ∷ None ∷ None ∷ []) ([])) ∷ []) (((Does 0) ∷ []) ∷ []) ((0 ∷ 0 ∷ 0 ∷ 0 ∷ []) ∷ []) ∷ result 3 ((places (None ∷ None ∷ None ∷ None ∷ []) ([])) ∷ []) ((places (None ∷ None ∷ None ∷ None ∷ []) ([])) ∷ []) (((Does 0) ∷ (Does 1) ∷ (Does 2) ∷ (Does 3) ∷ (Does 4) ∷ (Does 5) ∷ (Does 6) ∷ (Store 0 2) ∷ (Does 7) ∷ (Does 8) ∷ (Store 1 3) ∷ (Does 9) ∷ (Does 10) ∷ (Store 2 4) ∷ (Store 3 5) ∷ (Target (Reg 0)) ∷ (Moves (move (Reg 0) (Reg 1) ∷ [])) ∷ (Does 11) ∷ (Does 12) ∷ (Does 13) ∷ (Moves (move (Reg 0) (Home 3) ∷ move (Reg 1) (Home 4) ∷ move (Reg 2) (Home 5) ∷ move (Reg 3) (Reg 0) ∷ move (Out 0) (Reg 1) ∷ move (Out 1) (Reg 2) ∷ [])) ∷ (Does 14) ∷ (Load 1 2) ∷ (Does 15) ∷ []) ∷ []) ((0 ∷ 1 ∷ 0 ∷ 1 ∷ 0 ∷ 1 ∷ 2 ∷ 3 ∷ 0 ∷ 0 ∷ 0 ∷ 1 ∷ 0 ∷ 1 ∷ 2 ∷ 1 ∷ 0 ∷ []) ∷ []) ∷ [])

pub calls_linear_4_passes : verdict 4 calls calls_linear_4 ≡ Sound
calls_linear_4_passes = refl

abbrev calls_bottomup_4 : List TraceOut
calls_bottomup_4 = (result 0 ((places (None ∷ None ∷ None ∷ (Some 1) ∷ []) (0 ∷ 2 ∷ 3 ∷ [])) ∷ (places ((Some 9) ∷ (Some 4) ∷ (Some 5) ∷ (Some 3) ∷ []) (0 ∷ 3 ∷ 4 ∷ 5 ∷ 9 ∷ [])) ∷ (places ((Some 9) ∷ (Some 4) ∷ (Some 5) ∷ None ∷ []) (0 ∷ 3 ∷ 4 ∷ 5 ∷ 9 ∷ [])) ∷ []) ((places ((Some 8) ∷ (Some 4) ∷ (Some 5) ∷ (Some 3) ∷ []) (0 ∷ 3 ∷ 4 ∷ 5 ∷ [])) ∷ (places ((Some 9) ∷ (Some 4) ∷ (Some 5) ∷ (Some 3) ∷ []) (0 ∷ 3 ∷ 4 ∷ 5 ∷ 9 ∷ [])) ∷ (places (None ∷ None ∷ None ∷ None ∷ []) (0 ∷ 3 ∷ 4 ∷ 5 ∷ 11 ∷ [])) ∷ []) (((Does 0) ∷ (Store 1 4) ∷ (Does 1) ∷ (Store 2 5) ∷ (Does 2) ∷ (Load 0 2) ∷ (Does 3) ∷ (Load 0 0) ∷ (Does 4) ∷ (Load 3 3) ∷ []) ∷ ([]) ∷ ((Does 0) ∷ (Does 1) ∷ (Store 0 11) ∷ []) ∷ []) ((1 ∷ 2 ∷ 0 ∷ 3 ∷ 0 ∷ 3 ∷ 0 ∷ 3 ∷ 0 ∷ []) ∷ (0 ∷ 3 ∷ []) ∷ (1 ∷ 2 ∷ 1 ∷ 0 ∷ 1 ∷ 0 ∷ []) ∷ []) ∷ result 1 ((places ((Some 9) ∷ (Some 0) ∷ None ∷ None ∷ []) ([])) ∷ []) ((places ((Some 12) ∷ None ∷ None ∷ None ∷ []) ([])) ∷ []) (((Does 0) ∷ []) ∷ []) ((0 ∷ 1 ∷ 0 ∷ 0 ∷ []) ∷ []) ∷ result 2 ((places ((Some 0) ∷ None ∷ None ∷ None ∷ []) ([])) ∷ []) ((places ((Some 1) ∷ None ∷ None ∷ None ∷ []) ([])) ∷ []) (((Does 0) ∷ []) ∷ []) ((0 ∷ 0 ∷ 0 ∷ 0 ∷ []) ∷ []) ∷ result 3 ((places (None ∷ None ∷ None ∷ None ∷ []) ([])) ∷ []) ((places (None ∷ None ∷ None ∷ None ∷ []) ([])) ∷ []) (((Does 0) ∷ (Does 1) ∷ (Does 2) ∷ (Does 3) ∷ (Store 0 2) ∷ (Does 4) ∷ (Store 0 3) ∷ (Does 5) ∷ (Store 0 4) ∷ (Does 6) ∷ (Store 0 5) ∷ (Does 7) ∷ (Does 8) ∷ (Does 9) ∷ (Does 10) ∷ (Target (Reg 1)) ∷ (Moves (move (Reg 0) (Reg 0) ∷ [])) ∷ (Does 11) ∷ (Takes 3) ∷ (Load 1 4) ∷ (Load 2 5) ∷ (Does 12) ∷ (Store 0 10) ∷ (Does 13) ∷ (Store 0 11) ∷ (Load 0 3) ∷ (Moves (move (Reg 0) (Reg 0) ∷ move (Reg 1) (Reg 1) ∷ move (Reg 2) (Reg 2) ∷ move (Reg 3) (Reg 3) ∷ move (Out 0) (Home 10) ∷ move (Out 1) (Home 11) ∷ [])) ∷ (Does 14) ∷ (Takes 1) ∷ (Load 0 2) ∷ (Does 15) ∷ []) ∷ []) ((0 ∷ 1 ∷ 0 ∷ 1 ∷ 0 ∷ 0 ∷ 0 ∷ 0 ∷ 0 ∷ 0 ∷ 1 ∷ 0 ∷ 1 ∷ 0 ∷ 0 ∷ 0 ∷ 1 ∷ []) ∷ []) ∷ [])

pub calls_bottomup_4_passes : verdict 4 calls calls_bottomup_4 ≡ Sound
calls_bottomup_4_passes = refl

abbrev calls_plain_6 : List TraceOut
calls_plain_6 = (result 0 ((places (None ∷ None ∷ None ∷ None ∷ None ∷ None ∷ []) (0 ∷ 1 ∷ 2 ∷ 3 ∷ [])) ∷ (places (None ∷ None ∷ None ∷ None ∷ None ∷ None ∷ []) (0 ∷ 3 ∷ 4 ∷ 5 ∷ 9 ∷ [])) ∷ (places (None ∷ None ∷ None ∷ None ∷ None ∷ None ∷ []) (0 ∷ 3 ∷ 4 ∷ 5 ∷ 9 ∷ [])) ∷ []) ((places (None ∷ None ∷ None ∷ None ∷ None ∷ None ∷ []) (0 ∷ 3 ∷ 4 ∷ 5 ∷ 8 ∷ [])) ∷ (places (None ∷ None ∷ None ∷ None ∷ None ∷ None ∷ []) (0 ∷ 3 ∷ 4 ∷ 5 ∷ 9 ∷ [])) ∷ (places (None ∷ None ∷ None ∷ None ∷ None ∷ None ∷ []) (0 ∷ 3 ∷ 4 ∷ 5 ∷ 11 ∷ [])) ∷ []) (((Does 0) ∷ (Store 0 4) ∷ (Does 1) ∷ (Store 0 5) ∷ (Does 2) ∷ (Store 0 6) ∷ (Load 0 1) ∷ (Load 1 2) ∷ (Does 3) ∷ (Store 0 7) ∷ (Load 0 0) ∷ (Load 1 7) ∷ (Does 4) ∷ (Store 0 8) ∷ []) ∷ ((Load 0 9) ∷ (Load 1 3) ∷ []) ∷ ((Load 0 4) ∷ (Load 1 5) ∷ (Does 0) ∷ (Store 0 10) ∷ (Load 0 9) ∷ (Load 1 10) ∷ (Does 1) ∷ (Store 0 11) ∷ []) ∷ []) ((0 ∷ 0 ∷ 0 ∷ 0 ∷ 1 ∷ 0 ∷ 0 ∷ 1 ∷ 0 ∷ []) ∷ (0 ∷ 1 ∷ []) ∷ (0 ∷ 1 ∷ 0 ∷ 0 ∷ 1 ∷ 0 ∷ []) ∷ []) ∷ result 1 ((places (None ∷ None ∷ None ∷ None ∷ None ∷ None ∷ []) (0 ∷ 9 ∷ [])) ∷ []) ((places (None ∷ None ∷ None ∷ None ∷ None ∷ None ∷ []) (12 ∷ [])) ∷ []) (((Load 0 9) ∷ (Load 1 0) ∷ (Does 0) ∷ (Store 0 12) ∷ (Load 0 12) ∷ []) ∷ []) ((0 ∷ 1 ∷ 0 ∷ 0 ∷ []) ∷ []) ∷ result 2 ((places (None ∷ None ∷ None ∷ None ∷ None ∷ None ∷ []) (0 ∷ [])) ∷ []) ((places (None ∷ None ∷ None ∷ None ∷ None ∷ None ∷ []) (1 ∷ [])) ∷ []) (((Load 0 0) ∷ (Does 0) ∷ (Store 0 1) ∷ (Load 0 1) ∷ []) ∷ []) ((0 ∷ 0 ∷ 0 ∷ 0 ∷ []) ∷ []) ∷ result 3 ((places (None ∷ None ∷ None ∷ None ∷ None ∷ None ∷ []) ([])) ∷ []) ((places (None ∷ None ∷ None ∷ None ∷ None ∷ None ∷ []) ([])) ∷ []) (((Does 0) ∷ (Store 0 0) ∷ (Does 1) ∷ (Store 0 1) ∷ (Load 0 0) ∷ (Load 1 1) ∷ (Does 2) ∷ (Does 3) ∷ (Store 0 2) ∷ (Does 4) ∷ (Store 0 3) ∷ (Does 5) ∷ (Store 0 4) ∷ (Does 6) ∷ (Store 0 5) ∷ (Does 7) ∷ (Store 0 6) ∷ (Load 0 6) ∷ (Does 8) ∷ (Store 0 7) ∷ (Does 9) ∷ (Store 0 8) ∷ (Load 0 7) ∷ (Does 10) ∷ (Target (Home 7)) ∷ (Moves (move (Reg 0) (Home 8) ∷ [])) ∷ (Does 11) ∷ (Store 0 9) ∷ (Does 12) ∷ (Store 0 10) ∷ (Does 13) ∷ (Store 0 11) ∷ (Moves (move (Reg 0) (Home 3) ∷ move (Reg 1) (Home 4) ∷ move (Reg 2) (Home 5) ∷ move (Reg 3) (Home 9) ∷ move (Out 0) (Home 10) ∷ move (Out 1) (Home 11) ∷ [])) ∷ (Does 14) ∷ (Store 0 12) ∷ (Load 0 2) ∷ (Load 1 12) ∷ (Does 15) ∷ []) ∷ []) ((0 ∷ 0 ∷ 0 ∷ 1 ∷ 0 ∷ 0 ∷ 0 ∷ 0 ∷ 0 ∷ 0 ∷ 0 ∷ 0 ∷ 0 ∷ 0 ∷ 0 ∷ 0 ∷ 1 ∷ []) ∷ []) ∷ [])

pub calls_plain_6_passes : verdict 6 calls calls_plain_6 ≡ Sound
calls_plain_6_passes = refl

abbrev gcd_linear_6 : List TraceOut
gcd_linear_6 = (result 0 ((places ((Some 0) ∷ (Some 1) ∷ None ∷ None ∷ None ∷ None ∷ []) ([])) ∷ (places ((Some 2) ∷ (Some 3) ∷ None ∷ None ∷ None ∷ None ∷ []) ([])) ∷ (places ((Some 2) ∷ (Some 3) ∷ None ∷ None ∷ None ∷ None ∷ []) ([])) ∷ []) ((places ((Some 0) ∷ (Some 1) ∷ None ∷ None ∷ None ∷ None ∷ []) ([])) ∷ (places ((Some 2) ∷ (Some 3) ∷ None ∷ None ∷ None ∷ None ∷ []) ([])) ∷ (places ((Some 4) ∷ (Some 3) ∷ None ∷ None ∷ None ∷ None ∷ []) ([])) ∷ []) (([]) ∷ ([]) ∷ ((Does 0) ∷ []) ∷ []) (([]) ∷ (0 ∷ 1 ∷ []) ∷ (0 ∷ 1 ∷ 0 ∷ []) ∷ []) ∷ result 1 ((places ((Some 2) ∷ (Some 3) ∷ None ∷ None ∷ None ∷ None ∷ []) ([])) ∷ (places ((Some 2) ∷ (Some 3) ∷ None ∷ None ∷ None ∷ None ∷ []) ([])) ∷ []) ((places ((Some 2) ∷ (Some 3) ∷ None ∷ None ∷ None ∷ None ∷ []) ([])) ∷ (places ((Some 2) ∷ (Some 5) ∷ None ∷ None ∷ None ∷ None ∷ []) ([])) ∷ []) (([]) ∷ ((Does 0) ∷ []) ∷ []) ((1 ∷ 0 ∷ []) ∷ (1 ∷ 0 ∷ 1 ∷ []) ∷ []) ∷ result 2 ((places ((Some 2) ∷ None ∷ None ∷ None ∷ None ∷ None ∷ []) ([])) ∷ []) ((places ((Some 2) ∷ None ∷ None ∷ None ∷ None ∷ None ∷ []) ([])) ∷ []) (([]) ∷ []) ((0 ∷ []) ∷ []) ∷ result 3 ((places ((Some 0) ∷ (Some 1) ∷ None ∷ None ∷ None ∷ None ∷ []) ([])) ∷ (places ((Some 0) ∷ (Some 1) ∷ None ∷ None ∷ None ∷ None ∷ []) ([])) ∷ (places ((Some 5) ∷ None ∷ None ∷ None ∷ None ∷ None ∷ []) ([])) ∷ []) ((places ((Some 0) ∷ (Some 1) ∷ (Some 2) ∷ None ∷ None ∷ None ∷ []) ([])) ∷ (places ((Some 4) ∷ None ∷ None ∷ None ∷ None ∷ None ∷ []) ([])) ∷ (places ((Some 5) ∷ None ∷ None ∷ None ∷ None ∷ None ∷ []) ([])) ∷ []) (((Does 0) ∷ []) ∷ ((Does 0) ∷ (Moves (move (Reg 0) (Reg 1) ∷ move (Reg 1) (Reg 0) ∷ [])) ∷ (Does 1) ∷ []) ∷ ([]) ∷ []) ((2 ∷ 1 ∷ 2 ∷ []) ∷ (0 ∷ 1 ∷ 0 ∷ []) ∷ (0 ∷ []) ∷ []) ∷ result 4 ((places ((Some 0) ∷ None ∷ None ∷ None ∷ None ∷ None ∷ []) ([])) ∷ []) ((places ((Some 0) ∷ None ∷ None ∷ None ∷ None ∷ None ∷ []) ([])) ∷ []) (([]) ∷ []) (([]) ∷ []) ∷ result 5 ((places ((Some 0) ∷ (Some 1) ∷ None ∷ None ∷ None ∷ None ∷ []) ([])) ∷ []) ((places (None ∷ None ∷ None ∷ None ∷ None ∷ None ∷ []) ([])) ∷ []) (((Does 0) ∷ (Store 0 0) ∷ (Store 1 1) ∷ (Moves (move (Reg 0) (Reg 0) ∷ move (Reg 1) (Reg 2) ∷ [])) ∷ (Does 1) ∷ (Does 2) ∷ (Moves (move (Reg 0) (Home 1) ∷ move (Reg 1) (Reg 0) ∷ [])) ∷ (Does 3) ∷ (Moves (move (Reg 0) (Home 0) ∷ move (Reg 1) (Home 1) ∷ [])) ∷ (Does 4) ∷ (Does 5) ∷ (Moves (move (Reg 0) (Reg 0) ∷ move (Reg 1) (Reg 1) ∷ [])) ∷ (Does 6) ∷ (Moves (move (Reg 0) (Home 0) ∷ move (Reg 1) (Home 1) ∷ [])) ∷ (Does 7) ∷ (Does 8) ∷ (Moves (move (Reg 0) (Reg 0) ∷ move (Reg 1) (Reg 1) ∷ [])) ∷ (Does 9) ∷ (Does 10) ∷ (Moves (move (Reg 0) (Reg 0) ∷ [])) ∷ (Does 11) ∷ []) ∷ []) ((2 ∷ 0 ∷ 1 ∷ 1 ∷ 0 ∷ []) ∷ []) ∷ result 6 ((places (None ∷ None ∷ None ∷ None ∷ None ∷ None ∷ []) ([])) ∷ []) ((places (None ∷ None ∷ None ∷ None ∷ None ∷ None ∷ []) ([])) ∷ []) (((Does 0) ∷ (Does 1) ∷ (Moves (move (Reg 0) (Reg 0) ∷ move (Reg 1) (Reg 1) ∷ [])) ∷ (Does 2) ∷ (Does 3) ∷ (Does 4) ∷ (Moves (move (Reg 0) (Reg 0) ∷ move (Reg 1) (Reg 1) ∷ [])) ∷ (Does 5) ∷ (Does 6) ∷ (Does 7) ∷ (Moves (move (Reg 0) (Reg 0) ∷ move (Reg 1) (Reg 1) ∷ [])) ∷ (Does 8) ∷ (Does 9) ∷ (Does 10) ∷ (Moves (move (Reg 0) (Reg 0) ∷ move (Reg 1) (Reg 1) ∷ [])) ∷ (Does 11) ∷ []) ∷ []) ((0 ∷ 1 ∷ 0 ∷ 1 ∷ 0 ∷ 1 ∷ 0 ∷ 1 ∷ []) ∷ []) ∷ [])

pub gcd_linear_6_passes : verdict 6 gcd gcd_linear_6 ≡ Sound
gcd_linear_6_passes = refl

-- missing
pub none : verdict 16 empty [] ≡ Unsound 0 0 0
none = refl

-- past the last trace
pub two : verdict 16 empty (empty_plain_16 ++ empty_plain_16) ≡ Unsound 1 0 0
two = refl

-- a start place names a value that is not live
pub empty_plain_16-24-to-1 : verdict 16 empty (slice_set empty_plain_16 0 (result 0 ((places ((Some 0) ∷ None ∷ None ∷ None ∷ None ∷ None ∷ None ∷ None ∷ None ∷ None ∷ None ∷ None ∷ None ∷ None ∷ None ∷ None ∷ []) ([])) ∷ []) ((places (None ∷ None ∷ None ∷ None ∷ None ∷ None ∷ None ∷ None ∷ None ∷ None ∷ None ∷ None ∷ None ∷ None ∷ None ∷ None ∷ []) ([])) ∷ []) (([]) ∷ []) (([]) ∷ []))) ≡ Unsound 0 0 0
empty_plain_16-24-to-1 = refl

-- empty
pub gcd_linear_6-1080-to-5 : verdict 6 gcd (slice_set gcd_linear_6 5 (result 5 ((places ((Some 0) ∷ (Some 1) ∷ None ∷ None ∷ None ∷ None ∷ []) ([])) ∷ []) ((places (None ∷ None ∷ None ∷ None ∷ None ∷ None ∷ []) ([])) ∷ []) (((Does 0) ∷ (Store 5 0) ∷ (Store 1 1) ∷ (Moves (move (Reg 0) (Reg 0) ∷ move (Reg 1) (Reg 2) ∷ [])) ∷ (Does 1) ∷ (Does 2) ∷ (Moves (move (Reg 0) (Home 1) ∷ move (Reg 1) (Reg 0) ∷ [])) ∷ (Does 3) ∷ (Moves (move (Reg 0) (Home 0) ∷ move (Reg 1) (Home 1) ∷ [])) ∷ (Does 4) ∷ (Does 5) ∷ (Moves (move (Reg 0) (Reg 0) ∷ move (Reg 1) (Reg 1) ∷ [])) ∷ (Does 6) ∷ (Moves (move (Reg 0) (Home 0) ∷ move (Reg 1) (Home 1) ∷ [])) ∷ (Does 7) ∷ (Does 8) ∷ (Moves (move (Reg 0) (Reg 0) ∷ move (Reg 1) (Reg 1) ∷ [])) ∷ (Does 9) ∷ (Does 10) ∷ (Moves (move (Reg 0) (Reg 0) ∷ [])) ∷ (Does 11) ∷ []) ∷ []) ((2 ∷ 0 ∷ 1 ∷ 1 ∷ 0 ∷ []) ∷ []))) ≡ Unsound 5 0 2
gcd_linear_6-1080-to-5 = refl

-- register
pub gcd_linear_6-1080-to-9 : verdict 6 gcd (slice_set gcd_linear_6 5 (result 5 ((places ((Some 0) ∷ (Some 1) ∷ None ∷ None ∷ None ∷ None ∷ []) ([])) ∷ []) ((places (None ∷ None ∷ None ∷ None ∷ None ∷ None ∷ []) ([])) ∷ []) (((Does 0) ∷ (Store 9 0) ∷ (Store 1 1) ∷ (Moves (move (Reg 0) (Reg 0) ∷ move (Reg 1) (Reg 2) ∷ [])) ∷ (Does 1) ∷ (Does 2) ∷ (Moves (move (Reg 0) (Home 1) ∷ move (Reg 1) (Reg 0) ∷ [])) ∷ (Does 3) ∷ (Moves (move (Reg 0) (Home 0) ∷ move (Reg 1) (Home 1) ∷ [])) ∷ (Does 4) ∷ (Does 5) ∷ (Moves (move (Reg 0) (Reg 0) ∷ move (Reg 1) (Reg 1) ∷ [])) ∷ (Does 6) ∷ (Moves (move (Reg 0) (Home 0) ∷ move (Reg 1) (Home 1) ∷ [])) ∷ (Does 7) ∷ (Does 8) ∷ (Moves (move (Reg 0) (Reg 0) ∷ move (Reg 1) (Reg 1) ∷ [])) ∷ (Does 9) ∷ (Does 10) ∷ (Moves (move (Reg 0) (Reg 0) ∷ [])) ∷ (Does 11) ∷ []) ∷ []) ((2 ∷ 0 ∷ 1 ∷ 1 ∷ 0 ∷ []) ∷ []))) ≡ Unsound 5 0 2
gcd_linear_6-1080-to-9 = refl

-- store of another value
pub gcd_linear_6-1092-to-2 : verdict 6 gcd (slice_set gcd_linear_6 5 (result 5 ((places ((Some 0) ∷ (Some 1) ∷ None ∷ None ∷ None ∷ None ∷ []) ([])) ∷ []) ((places (None ∷ None ∷ None ∷ None ∷ None ∷ None ∷ []) ([])) ∷ []) (((Does 0) ∷ (Store 0 0) ∷ (Store 2 1) ∷ (Moves (move (Reg 0) (Reg 0) ∷ move (Reg 1) (Reg 2) ∷ [])) ∷ (Does 1) ∷ (Does 2) ∷ (Moves (move (Reg 0) (Home 1) ∷ move (Reg 1) (Reg 0) ∷ [])) ∷ (Does 3) ∷ (Moves (move (Reg 0) (Home 0) ∷ move (Reg 1) (Home 1) ∷ [])) ∷ (Does 4) ∷ (Does 5) ∷ (Moves (move (Reg 0) (Reg 0) ∷ move (Reg 1) (Reg 1) ∷ [])) ∷ (Does 6) ∷ (Moves (move (Reg 0) (Home 0) ∷ move (Reg 1) (Home 1) ∷ [])) ∷ (Does 7) ∷ (Does 8) ∷ (Moves (move (Reg 0) (Reg 0) ∷ move (Reg 1) (Reg 1) ∷ [])) ∷ (Does 9) ∷ (Does 10) ∷ (Moves (move (Reg 0) (Reg 0) ∷ [])) ∷ (Does 11) ∷ []) ∷ []) ((2 ∷ 0 ∷ 1 ∷ 1 ∷ 0 ∷ []) ∷ []))) ≡ Unsound 5 0 3
gcd_linear_6-1092-to-2 = refl

-- register
pub calls_bottomup_4-816-to-1 : verdict 4 calls (slice_set calls_bottomup_4 3 (result 3 ((places (None ∷ None ∷ None ∷ None ∷ []) ([])) ∷ []) ((places (None ∷ None ∷ None ∷ None ∷ []) ([])) ∷ []) (((Does 0) ∷ (Does 1) ∷ (Does 2) ∷ (Does 3) ∷ (Store 0 2) ∷ (Store 4 1) ∷ (Does 3) ∷ (Does 5) ∷ (Store 0 4) ∷ (Does 6) ∷ (Store 0 5) ∷ (Does 7) ∷ (Does 8) ∷ (Does 9) ∷ (Does 10) ∷ (Target (Reg 1)) ∷ (Moves (move (Reg 0) (Reg 0) ∷ [])) ∷ (Does 11) ∷ (Takes 3) ∷ (Load 1 4) ∷ (Load 2 5) ∷ (Does 12) ∷ (Store 0 10) ∷ (Does 13) ∷ (Store 0 11) ∷ (Load 0 3) ∷ (Moves (move (Reg 0) (Reg 0) ∷ move (Reg 1) (Reg 1) ∷ move (Reg 2) (Reg 2) ∷ move (Reg 3) (Reg 3) ∷ move (Out 0) (Home 10) ∷ move (Out 1) (Home 11) ∷ [])) ∷ (Does 14) ∷ (Takes 1) ∷ (Load 0 2) ∷ (Does 15) ∷ []) ∷ []) ((0 ∷ 1 ∷ 0 ∷ 1 ∷ 0 ∷ 0 ∷ 0 ∷ 0 ∷ 0 ∷ 0 ∷ 1 ∷ 0 ∷ 1 ∷ 0 ∷ 0 ∷ 0 ∷ 1 ∷ []) ∷ []))) ≡ Unsound 3 0 6
calls_bottomup_4-816-to-1 = refl

-- a start place names a value that is not live
pub loop_linear_4-124-to-1 : verdict 4 loop (slice_set loop_linear_4 0 (result 0 ((places (None ∷ None ∷ None ∷ None ∷ []) ([])) ∷ (places (None ∷ None ∷ None ∷ None ∷ []) ([])) ∷ (places (None ∷ None ∷ None ∷ None ∷ []) ([])) ∷ (places (None ∷ None ∷ None ∷ None ∷ []) ([])) ∷ (places (None ∷ (Some 0) ∷ None ∷ None ∷ []) ([])) ∷ []) ((places (None ∷ None ∷ None ∷ None ∷ []) ([])) ∷ (places ((Some 8) ∷ (Some 9) ∷ None ∷ None ∷ []) ([])) ∷ (places (None ∷ None ∷ None ∷ None ∷ []) ([])) ∷ (places ((Some 23) ∷ (Some 24) ∷ None ∷ None ∷ []) ([])) ∷ (places (None ∷ None ∷ None ∷ None ∷ []) ([])) ∷ []) (((Does 0) ∷ (Does 1) ∷ (Does 2) ∷ []) ∷ ((Does 0) ∷ (Does 1) ∷ (Does 2) ∷ (Does 3) ∷ (Does 4) ∷ (Does 5) ∷ (Does 6) ∷ (Does 7) ∷ (Does 8) ∷ []) ∷ ((Does 0) ∷ (Does 1) ∷ (Does 2) ∷ (Moves (move (Reg 0) (Reg 0) ∷ move (Reg 1) (Reg 1) ∷ [])) ∷ (Does 3) ∷ []) ∷ ((Does 0) ∷ (Does 1) ∷ (Does 2) ∷ []) ∷ ([]) ∷ []) ((0 ∷ 1 ∷ 0 ∷ 1 ∷ []) ∷ (0 ∷ 1 ∷ 1 ∷ 1 ∷ 2 ∷ 1 ∷ 2 ∷ 1 ∷ 0 ∷ 1 ∷ 0 ∷ 0 ∷ 0 ∷ 1 ∷ 0 ∷ 1 ∷ []) ∷ (0 ∷ 0 ∷ 0 ∷ 1 ∷ []) ∷ (0 ∷ 0 ∷ 0 ∷ 1 ∷ 0 ∷ 1 ∷ []) ∷ ([]) ∷ []))) ≡ Unsound 0 4 0
loop_linear_4-124-to-1 = refl

-- a start place names a value that is not live
pub loop_linear_4-132-to-1 : verdict 4 loop (slice_set loop_linear_4 0 (result 0 ((places (None ∷ None ∷ None ∷ None ∷ []) ([])) ∷ (places (None ∷ None ∷ None ∷ None ∷ []) ([])) ∷ (places (None ∷ None ∷ None ∷ None ∷ []) ([])) ∷ (places (None ∷ None ∷ None ∷ None ∷ []) ([])) ∷ (places (None ∷ None ∷ None ∷ (Some 0) ∷ []) ([])) ∷ []) ((places (None ∷ None ∷ None ∷ None ∷ []) ([])) ∷ (places ((Some 8) ∷ (Some 9) ∷ None ∷ None ∷ []) ([])) ∷ (places (None ∷ None ∷ None ∷ None ∷ []) ([])) ∷ (places ((Some 23) ∷ (Some 24) ∷ None ∷ None ∷ []) ([])) ∷ (places (None ∷ None ∷ None ∷ None ∷ []) ([])) ∷ []) (((Does 0) ∷ (Does 1) ∷ (Does 2) ∷ []) ∷ ((Does 0) ∷ (Does 1) ∷ (Does 2) ∷ (Does 3) ∷ (Does 4) ∷ (Does 5) ∷ (Does 6) ∷ (Does 7) ∷ (Does 8) ∷ []) ∷ ((Does 0) ∷ (Does 1) ∷ (Does 2) ∷ (Moves (move (Reg 0) (Reg 0) ∷ move (Reg 1) (Reg 1) ∷ [])) ∷ (Does 3) ∷ []) ∷ ((Does 0) ∷ (Does 1) ∷ (Does 2) ∷ []) ∷ ([]) ∷ []) ((0 ∷ 1 ∷ 0 ∷ 1 ∷ []) ∷ (0 ∷ 1 ∷ 1 ∷ 1 ∷ 2 ∷ 1 ∷ 2 ∷ 1 ∷ 0 ∷ 1 ∷ 0 ∷ 0 ∷ 0 ∷ 1 ∷ 0 ∷ 1 ∷ []) ∷ (0 ∷ 0 ∷ 0 ∷ 1 ∷ []) ∷ (0 ∷ 0 ∷ 0 ∷ 1 ∷ 0 ∷ 1 ∷ []) ∷ ([]) ∷ []))) ≡ Unsound 0 4 0
loop_linear_4-132-to-1 = refl

-- end place
pub loop_plain_4-1148-to-2 : verdict 4 loop (slice_set loop_plain_4 1 (result 1 ((places (None ∷ None ∷ None ∷ None ∷ []) ([])) ∷ (places (None ∷ None ∷ None ∷ None ∷ []) ([])) ∷ (places (None ∷ None ∷ None ∷ None ∷ []) ([])) ∷ []) ((places (None ∷ None ∷ None ∷ None ∷ []) (14 ∷ 15 ∷ [])) ∷ (places (None ∷ None ∷ None ∷ None ∷ []) ([])) ∷ (places (None ∷ (Some 1) ∷ None ∷ None ∷ []) ([])) ∷ []) (((Does 0) ∷ (Store 0 13) ∷ (Load 0 13) ∷ (Does 1) ∷ (Store 0 14) ∷ (Does 2) ∷ (Store 0 15) ∷ (Load 0 14) ∷ (Load 1 15) ∷ []) ∷ ((Does 0) ∷ (Store 0 16) ∷ (Load 0 16) ∷ (Does 1) ∷ (Store 0 17) ∷ (Does 2) ∷ (Store 0 18) ∷ (Load 0 18) ∷ (Does 3) ∷ (Store 0 19) ∷ (Load 0 17) ∷ (Load 1 19) ∷ (Does 4) ∷ (Store 0 20) ∷ (Does 5) ∷ (Store 0 21) ∷ (Moves (move (Reg 0) (Home 20) ∷ move (Reg 1) (Home 21) ∷ [])) ∷ (Does 6) ∷ []) ∷ ([]) ∷ []) ((0 ∷ 0 ∷ 0 ∷ 0 ∷ 0 ∷ 1 ∷ []) ∷ (0 ∷ 0 ∷ 0 ∷ 0 ∷ 0 ∷ 0 ∷ 0 ∷ 1 ∷ 0 ∷ 0 ∷ []) ∷ ([]) ∷ []))) ≡ Unsound 1 2 1
loop_plain_4-1148-to-2 = refl

-- empty
pub calls_plain_6-1112-to-1 : verdict 6 calls (slice_set calls_plain_6 3 (result 3 ((places (None ∷ None ∷ None ∷ None ∷ None ∷ None ∷ []) ([])) ∷ []) ((places (None ∷ None ∷ None ∷ None ∷ None ∷ None ∷ []) ([])) ∷ []) (((Store 0 1) ∷ (Does 0) ∷ (Does 1) ∷ (Store 0 1) ∷ (Load 0 0) ∷ (Load 1 1) ∷ (Does 2) ∷ (Does 3) ∷ (Store 0 2) ∷ (Does 4) ∷ (Store 0 3) ∷ (Does 5) ∷ (Store 0 4) ∷ (Does 6) ∷ (Store 0 5) ∷ (Does 7) ∷ (Store 0 6) ∷ (Load 0 6) ∷ (Does 8) ∷ (Store 0 7) ∷ (Does 9) ∷ (Store 0 8) ∷ (Load 0 7) ∷ (Does 10) ∷ (Target (Home 7)) ∷ (Moves (move (Reg 0) (Home 8) ∷ [])) ∷ (Does 11) ∷ (Store 0 9) ∷ (Does 12) ∷ (Store 0 10) ∷ (Does 13) ∷ (Store 0 11) ∷ (Moves (move (Reg 0) (Home 3) ∷ move (Reg 1) (Home 4) ∷ move (Reg 2) (Home 5) ∷ move (Reg 3) (Home 9) ∷ move (Out 0) (Home 10) ∷ move (Out 1) (Home 11) ∷ [])) ∷ (Does 14) ∷ (Store 0 12) ∷ (Load 0 2) ∷ (Load 1 12) ∷ (Does 15) ∷ []) ∷ []) ((0 ∷ 0 ∷ 0 ∷ 1 ∷ 0 ∷ 0 ∷ 0 ∷ 0 ∷ 0 ∷ 0 ∷ 0 ∷ 0 ∷ 0 ∷ 0 ∷ 0 ∷ 0 ∷ 1 ∷ []) ∷ []))) ≡ Unsound 3 0 1
calls_plain_6-1112-to-1 = refl

-- operation order
pub calls_linear_4-376-to-1 : verdict 4 calls (slice_set calls_linear_4 0 (result 0 ((places ((Some 0) ∷ (Some 1) ∷ (Some 2) ∷ (Some 3) ∷ []) ([])) ∷ (places ((Some 0) ∷ (Some 9) ∷ None ∷ None ∷ []) (3 ∷ 4 ∷ 5 ∷ [])) ∷ (places ((Some 0) ∷ (Some 9) ∷ (Some 3) ∷ None ∷ []) (3 ∷ 4 ∷ 5 ∷ [])) ∷ []) ((places ((Some 0) ∷ (Some 8) ∷ None ∷ None ∷ []) (3 ∷ 4 ∷ 5 ∷ [])) ∷ (places ((Some 0) ∷ (Some 9) ∷ (Some 3) ∷ None ∷ []) (3 ∷ 4 ∷ 5 ∷ [])) ∷ (places ((Some 11) ∷ None ∷ (Some 3) ∷ (Some 4) ∷ []) (0 ∷ 3 ∷ 4 ∷ 5 ∷ [])) ∷ []) (((Store 3 3) ∷ (Does 0) ∷ (Store 3 4) ∷ (Does 1) ∷ (Store 3 5) ∷ (Does 2) ∷ (Does 3) ∷ (Does 4) ∷ []) ∷ ((Load 2 3) ∷ []) ∷ ((Load 3 4) ∷ (Store 0 0) ∷ (Load 0 5) ∷ (Does 1) ∷ (Does 1) ∷ []) ∷ []) ((3 ∷ 3 ∷ 3 ∷ 1 ∷ 2 ∷ 1 ∷ 0 ∷ 1 ∷ 1 ∷ []) ∷ (1 ∷ 2 ∷ []) ∷ (3 ∷ 0 ∷ 0 ∷ 1 ∷ 0 ∷ 0 ∷ []) ∷ []))) ≡ Unsound 0 2 4
calls_linear_4-376-to-1 = refl

-- end place
pub empty_plain_16-148-to-5 : verdict 16 empty (slice_set empty_plain_16 0 (result 0 ((places (None ∷ None ∷ None ∷ None ∷ None ∷ None ∷ None ∷ None ∷ None ∷ None ∷ None ∷ None ∷ None ∷ None ∷ None ∷ None ∷ []) ([])) ∷ []) ((places (None ∷ None ∷ None ∷ None ∷ None ∷ None ∷ None ∷ None ∷ None ∷ None ∷ None ∷ None ∷ (Some 4) ∷ None ∷ None ∷ None ∷ []) ([])) ∷ []) (([]) ∷ []) (([]) ∷ []))) ≡ Unsound 0 0 1
empty_plain_16-148-to-5 = refl

-- use is not
pub calls_bottomup_4-1192-196-to-1-0 : verdict 4 calls (slice_set (slice_set calls_bottomup_4 0 (result 0 ((places (None ∷ None ∷ None ∷ (Some 1) ∷ []) (0 ∷ 2 ∷ 3 ∷ [])) ∷ (places ((Some 9) ∷ (Some 4) ∷ (Some 5) ∷ (Some 3) ∷ []) (0 ∷ 3 ∷ 4 ∷ 5 ∷ 9 ∷ [])) ∷ (places ((Some 9) ∷ (Some 4) ∷ (Some 5) ∷ None ∷ []) (0 ∷ 3 ∷ 4 ∷ 5 ∷ 9 ∷ [])) ∷ []) ((places ((Some 8) ∷ (Some 4) ∷ (Some 5) ∷ (Some 3) ∷ []) (0 ∷ 3 ∷ 4 ∷ 5 ∷ [])) ∷ (places ((Some 9) ∷ None ∷ (Some 5) ∷ (Some 3) ∷ []) (0 ∷ 3 ∷ 4 ∷ 5 ∷ 9 ∷ [])) ∷ (places (None ∷ None ∷ None ∷ None ∷ []) (0 ∷ 3 ∷ 4 ∷ 5 ∷ 11 ∷ [])) ∷ []) (((Does 0) ∷ (Store 1 4) ∷ (Does 1) ∷ (Store 2 5) ∷ (Does 2) ∷ (Load 0 2) ∷ (Does 3) ∷ (Load 0 0) ∷ (Does 4) ∷ (Load 3 3) ∷ []) ∷ ([]) ∷ ((Does 0) ∷ (Does 1) ∷ (Store 0 11) ∷ []) ∷ []) ((1 ∷ 2 ∷ 0 ∷ 3 ∷ 0 ∷ 3 ∷ 0 ∷ 3 ∷ 0 ∷ []) ∷ (0 ∷ 3 ∷ []) ∷ (1 ∷ 2 ∷ 1 ∷ 0 ∷ 1 ∷ 0 ∷ []) ∷ []))) 3 (result 3 ((places (None ∷ None ∷ None ∷ None ∷ []) ([])) ∷ []) ((places (None ∷ None ∷ None ∷ None ∷ []) ([])) ∷ []) (((Does 0) ∷ (Does 1) ∷ (Does 2) ∷ (Does 3) ∷ (Store 0 2) ∷ (Does 4) ∷ (Store 0 3) ∷ (Does 5) ∷ (Store 0 4) ∷ (Does 6) ∷ (Store 0 5) ∷ (Does 7) ∷ (Does 8) ∷ (Does 9) ∷ (Does 10) ∷ (Target (Reg 1)) ∷ (Moves (move (Reg 0) (Reg 0) ∷ [])) ∷ (Does 11) ∷ (Takes 3) ∷ (Load 1 4) ∷ (Load 2 5) ∷ (Does 12) ∷ (Store 0 10) ∷ (Does 13) ∷ (Store 0 11) ∷ (Load 0 3) ∷ (Moves (move (Reg 0) (Reg 0) ∷ move (Reg 1) (Reg 1) ∷ move (Reg 2) (Reg 2) ∷ move (Reg 3) (Reg 3) ∷ move (Out 0) (Home 10) ∷ move (Out 1) (Home 11) ∷ [])) ∷ (Does 14) ∷ (Takes 1) ∷ (Load 0 2) ∷ (Does 15) ∷ []) ∷ []) ((0 ∷ 1 ∷ 1 ∷ 1 ∷ 0 ∷ 0 ∷ 0 ∷ 0 ∷ 0 ∷ 0 ∷ 1 ∷ 0 ∷ 1 ∷ 0 ∷ 0 ∷ 0 ∷ 1 ∷ []) ∷ []))) ≡ Unsound 3 0 3
calls_bottomup_4-1192-196-to-1-0 = refl

-- homed values rise
pub calls_plain_6-52-to-7 : verdict 6 calls (slice_set calls_plain_6 0 (result 0 ((places (None ∷ None ∷ None ∷ None ∷ None ∷ None ∷ []) (7 ∷ 1 ∷ 2 ∷ 3 ∷ [])) ∷ (places (None ∷ None ∷ None ∷ None ∷ None ∷ None ∷ []) (0 ∷ 3 ∷ 4 ∷ 5 ∷ 9 ∷ [])) ∷ (places (None ∷ None ∷ None ∷ None ∷ None ∷ None ∷ []) (0 ∷ 3 ∷ 4 ∷ 5 ∷ 9 ∷ [])) ∷ []) ((places (None ∷ None ∷ None ∷ None ∷ None ∷ None ∷ []) (0 ∷ 3 ∷ 4 ∷ 5 ∷ 8 ∷ [])) ∷ (places (None ∷ None ∷ None ∷ None ∷ None ∷ None ∷ []) (0 ∷ 3 ∷ 4 ∷ 5 ∷ 9 ∷ [])) ∷ (places (None ∷ None ∷ None ∷ None ∷ None ∷ None ∷ []) (0 ∷ 3 ∷ 4 ∷ 5 ∷ 11 ∷ [])) ∷ []) (((Does 0) ∷ (Store 0 4) ∷ (Does 1) ∷ (Store 0 5) ∷ (Does 2) ∷ (Store 0 6) ∷ (Load 0 1) ∷ (Load 1 2) ∷ (Does 3) ∷ (Store 0 7) ∷ (Load 0 0) ∷ (Load 1 7) ∷ (Does 4) ∷ (Store 0 8) ∷ []) ∷ ((Load 0 9) ∷ (Load 1 3) ∷ []) ∷ ((Load 0 4) ∷ (Load 1 5) ∷ (Does 0) ∷ (Store 0 10) ∷ (Load 0 9) ∷ (Load 1 10) ∷ (Does 1) ∷ (Store 0 11) ∷ []) ∷ []) ((0 ∷ 0 ∷ 0 ∷ 0 ∷ 1 ∷ 0 ∷ 0 ∷ 1 ∷ 0 ∷ []) ∷ (0 ∷ 1 ∷ []) ∷ (0 ∷ 1 ∷ 0 ∷ 0 ∷ 1 ∷ 0 ∷ []) ∷ []))) ≡ Unsound 0 0 0
calls_plain_6-52-to-7 = refl

-- without an end place
pub calls_linear_4-512-to-0 : verdict 4 calls (slice_set calls_linear_4 1 (result 1 ((places ((Some 0) ∷ (Some 9) ∷ None ∷ None ∷ []) ([])) ∷ []) ((places (None ∷ None ∷ None ∷ None ∷ []) ([])) ∷ []) (((Does 0) ∷ []) ∷ []) ((1 ∷ 0 ∷ 0 ∷ 0 ∷ []) ∷ []))) ≡ Unsound 1 0 2
calls_linear_4-512-to-0 = refl

-- operation order
pub calls_bottomup_4-480-368-to-2-3 : verdict 4 calls (slice_set calls_bottomup_4 0 (result 0 ((places (None ∷ None ∷ None ∷ (Some 1) ∷ []) (0 ∷ 2 ∷ 3 ∷ [])) ∷ (places ((Some 9) ∷ (Some 4) ∷ (Some 5) ∷ (Some 3) ∷ []) (0 ∷ 3 ∷ 4 ∷ 5 ∷ 9 ∷ [])) ∷ (places ((Some 9) ∷ (Some 4) ∷ (Some 5) ∷ None ∷ []) (0 ∷ 3 ∷ 4 ∷ 5 ∷ 9 ∷ [])) ∷ []) ((places ((Some 8) ∷ (Some 4) ∷ (Some 5) ∷ (Some 3) ∷ []) (0 ∷ 3 ∷ 4 ∷ 5 ∷ [])) ∷ (places ((Some 9) ∷ (Some 4) ∷ (Some 5) ∷ (Some 3) ∷ []) (0 ∷ 3 ∷ 4 ∷ 5 ∷ 9 ∷ [])) ∷ (places (None ∷ None ∷ None ∷ None ∷ []) (0 ∷ 3 ∷ 4 ∷ 5 ∷ 11 ∷ [])) ∷ []) (((Does 0) ∷ (Store 1 4) ∷ (Does 1) ∷ (Store 2 5) ∷ (Does 2) ∷ (Load 0 2) ∷ (Does 3) ∷ (Load 0 0) ∷ (Does 3) ∷ (Load 3 3) ∷ []) ∷ ([]) ∷ ((Does 0) ∷ (Does 1) ∷ (Store 0 11) ∷ []) ∷ []) ((1 ∷ 2 ∷ 0 ∷ 3 ∷ 0 ∷ 3 ∷ 0 ∷ 3 ∷ 0 ∷ []) ∷ (0 ∷ 3 ∷ []) ∷ (2 ∷ 2 ∷ 1 ∷ 0 ∷ 1 ∷ 0 ∷ []) ∷ []))) ≡ Unsound 0 0 9
calls_bottomup_4-480-368-to-2-3 = refl

-- number
pub loop_plain_4-1000-to-2 : verdict 4 loop (slice_set loop_plain_4 1 (result 2 ((places (None ∷ None ∷ None ∷ None ∷ []) ([])) ∷ (places (None ∷ None ∷ None ∷ None ∷ []) ([])) ∷ (places (None ∷ None ∷ None ∷ None ∷ []) ([])) ∷ []) ((places (None ∷ None ∷ None ∷ None ∷ []) (14 ∷ 15 ∷ [])) ∷ (places (None ∷ None ∷ None ∷ None ∷ []) ([])) ∷ (places (None ∷ None ∷ None ∷ None ∷ []) ([])) ∷ []) (((Does 0) ∷ (Store 0 13) ∷ (Load 0 13) ∷ (Does 1) ∷ (Store 0 14) ∷ (Does 2) ∷ (Store 0 15) ∷ (Load 0 14) ∷ (Load 1 15) ∷ []) ∷ ((Does 0) ∷ (Store 0 16) ∷ (Load 0 16) ∷ (Does 1) ∷ (Store 0 17) ∷ (Does 2) ∷ (Store 0 18) ∷ (Load 0 18) ∷ (Does 3) ∷ (Store 0 19) ∷ (Load 0 17) ∷ (Load 1 19) ∷ (Does 4) ∷ (Store 0 20) ∷ (Does 5) ∷ (Store 0 21) ∷ (Moves (move (Reg 0) (Home 20) ∷ move (Reg 1) (Home 21) ∷ [])) ∷ (Does 6) ∷ []) ∷ ([]) ∷ []) ((0 ∷ 0 ∷ 0 ∷ 0 ∷ 0 ∷ 1 ∷ []) ∷ (0 ∷ 0 ∷ 0 ∷ 0 ∷ 0 ∷ 0 ∷ 0 ∷ 1 ∷ 0 ∷ 0 ∷ []) ∷ ([]) ∷ []))) ≡ Unsound 1 0 0
loop_plain_4-1000-to-2 = refl

-- store of another value
pub loop_plain_4-432-to-3 : verdict 4 loop (slice_set loop_plain_4 0 (result 0 ((places (None ∷ None ∷ None ∷ None ∷ []) ([])) ∷ (places (None ∷ None ∷ None ∷ None ∷ []) ([])) ∷ (places (None ∷ None ∷ None ∷ None ∷ []) ([])) ∷ (places (None ∷ None ∷ None ∷ None ∷ []) ([])) ∷ (places (None ∷ None ∷ None ∷ None ∷ []) ([])) ∷ []) ((places (None ∷ None ∷ None ∷ None ∷ []) ([])) ∷ (places (None ∷ None ∷ None ∷ None ∷ []) (8 ∷ 9 ∷ [])) ∷ (places (None ∷ None ∷ None ∷ None ∷ []) ([])) ∷ (places (None ∷ None ∷ None ∷ None ∷ []) (23 ∷ 24 ∷ [])) ∷ (places (None ∷ None ∷ None ∷ None ∷ []) ([])) ∷ []) (((Does 0) ∷ (Store 0 0) ∷ (Does 1) ∷ (Store 0 1) ∷ (Load 0 0) ∷ (Load 1 1) ∷ (Does 2) ∷ []) ∷ ((Does 0) ∷ (Store 0 2) ∷ (Does 1) ∷ (Store 0 3) ∷ (Load 0 3) ∷ (Does 2) ∷ (Store 0 3) ∷ (Does 3) ∷ (Store 0 5) ∷ (Load 0 4) ∷ (Load 1 5) ∷ (Does 4) ∷ (Store 0 6) ∷ (Load 0 2) ∷ (Load 1 6) ∷ (Does 5) ∷ (Does 6) ∷ (Store 0 7) ∷ (Load 0 7) ∷ (Does 7) ∷ (Store 0 8) ∷ (Does 8) ∷ (Store 0 9) ∷ (Load 0 8) ∷ (Load 1 9) ∷ []) ∷ ((Does 0) ∷ (Store 0 10) ∷ (Load 0 10) ∷ (Does 1) ∷ (Store 0 11) ∷ (Does 2) ∷ (Store 0 12) ∷ (Moves (move (Reg 0) (Home 11) ∷ move (Reg 1) (Home 12) ∷ [])) ∷ (Does 3) ∷ []) ∷ ((Does 0) ∷ (Store 0 22) ∷ (Load 0 22) ∷ (Does 1) ∷ (Store 0 23) ∷ (Does 2) ∷ (Store 0 24) ∷ (Load 0 23) ∷ (Load 1 24) ∷ []) ∷ ([]) ∷ []) ((0 ∷ 0 ∷ 0 ∷ 1 ∷ []) ∷ (0 ∷ 0 ∷ 0 ∷ 0 ∷ 0 ∷ 0 ∷ 1 ∷ 0 ∷ 0 ∷ 1 ∷ 0 ∷ 0 ∷ 0 ∷ 0 ∷ 0 ∷ 1 ∷ []) ∷ (0 ∷ 0 ∷ 0 ∷ 0 ∷ []) ∷ (0 ∷ 0 ∷ 0 ∷ 0 ∷ 0 ∷ 1 ∷ []) ∷ ([]) ∷ []))) ≡ Unsound 0 1 7
loop_plain_4-432-to-3 = refl

-- end home
pub gcd_linear_6-180-to-1 : verdict 6 gcd (slice_set gcd_linear_6 0 (result 0 ((places ((Some 0) ∷ (Some 1) ∷ None ∷ None ∷ None ∷ None ∷ []) ([])) ∷ (places ((Some 2) ∷ (Some 3) ∷ None ∷ None ∷ None ∷ None ∷ []) ([])) ∷ (places ((Some 2) ∷ (Some 3) ∷ None ∷ None ∷ None ∷ None ∷ []) ([])) ∷ []) ((places ((Some 0) ∷ (Some 1) ∷ None ∷ None ∷ None ∷ None ∷ []) ([])) ∷ (places ((Some 2) ∷ (Some 3) ∷ None ∷ None ∷ None ∷ None ∷ []) (6 ∷ [])) ∷ (places ((Some 3) ∷ None ∷ None ∷ None ∷ None ∷ []) ([])) ∷ []) (([]) ∷ ([]) ∷ ((Does 0) ∷ []) ∷ []) (([]) ∷ (0 ∷ 1 ∷ []) ∷ (0 ∷ 1 ∷ 0 ∷ []) ∷ []))) ≡ Unsound 0 1 1
gcd_linear_6-180-to-1 = refl

-- destinations
pub calls_bottomup_4-1096-to-2 : verdict 4 calls (slice_set calls_bottomup_4 3 (result 3 ((places (None ∷ None ∷ None ∷ None ∷ []) ([])) ∷ []) ((places (None ∷ None ∷ None ∷ None ∷ []) ([])) ∷ []) (((Does 0) ∷ (Does 1) ∷ (Does 2) ∷ (Does 3) ∷ (Store 0 2) ∷ (Does 4) ∷ (Store 0 3) ∷ (Does 5) ∷ (Store 0 4) ∷ (Does 6) ∷ (Store 0 5) ∷ (Does 7) ∷ (Does 8) ∷ (Does 9) ∷ (Does 10) ∷ (Target (Reg 1)) ∷ (Moves (move (Reg 0) (Reg 0) ∷ [])) ∷ (Does 11) ∷ (Takes 3) ∷ (Load 1 4) ∷ (Load 2 5) ∷ (Does 12) ∷ (Store 0 10) ∷ (Does 13) ∷ (Store 0 11) ∷ (Load 0 3) ∷ (Moves (move (Reg 0) (Reg 0) ∷ move (Reg 1) (Reg 1) ∷ move (Reg 2) (Reg 2) ∷ move (Reg 2) (Reg 3) ∷ move (Out 0) (Home 10) ∷ move (Out 1) (Home 11) ∷ [])) ∷ (Does 14) ∷ (Takes 1) ∷ (Load 0 2) ∷ (Does 15) ∷ []) ∷ []) ((0 ∷ 1 ∷ 0 ∷ 1 ∷ 0 ∷ 0 ∷ 0 ∷ 0 ∷ 0 ∷ 0 ∷ 1 ∷ 0 ∷ 1 ∷ 0 ∷ 0 ∷ 0 ∷ 1 ∷ []) ∷ []))) ≡ Unsound 3 0 27
calls_bottomup_4-1096-to-2 = refl

-- use is not
pub calls_bottomup_4-456-to-2 : verdict 4 calls (slice_set calls_bottomup_4 0 (result 0 ((places (None ∷ None ∷ None ∷ (Some 1) ∷ []) (0 ∷ 2 ∷ 3 ∷ [])) ∷ (places ((Some 9) ∷ (Some 4) ∷ (Some 5) ∷ (Some 3) ∷ []) (0 ∷ 3 ∷ 4 ∷ 5 ∷ 9 ∷ [])) ∷ (places ((Some 9) ∷ (Some 4) ∷ (Some 5) ∷ None ∷ []) (0 ∷ 3 ∷ 4 ∷ 5 ∷ 9 ∷ [])) ∷ []) ((places ((Some 8) ∷ (Some 4) ∷ (Some 5) ∷ (Some 3) ∷ []) (0 ∷ 3 ∷ 4 ∷ 5 ∷ [])) ∷ (places ((Some 9) ∷ (Some 4) ∷ (Some 5) ∷ (Some 3) ∷ []) (0 ∷ 3 ∷ 4 ∷ 5 ∷ 9 ∷ [])) ∷ (places (None ∷ None ∷ None ∷ None ∷ []) (0 ∷ 3 ∷ 4 ∷ 5 ∷ 11 ∷ [])) ∷ []) (((Does 0) ∷ (Store 1 4) ∷ (Does 1) ∷ (Store 2 5) ∷ (Does 2) ∷ (Load 0 2) ∷ (Does 3) ∷ (Load 0 0) ∷ (Does 4) ∷ (Load 3 3) ∷ []) ∷ ([]) ∷ ((Does 0) ∷ (Does 1) ∷ (Store 0 11) ∷ []) ∷ []) ((1 ∷ 2 ∷ 0 ∷ 3 ∷ 0 ∷ 3 ∷ 0 ∷ 2 ∷ 0 ∷ []) ∷ (0 ∷ 3 ∷ []) ∷ (1 ∷ 2 ∷ 1 ∷ 0 ∷ 1 ∷ 0 ∷ []) ∷ []))) ≡ Unsound 0 0 9
calls_bottomup_4-456-to-2 = refl

-- number
pub calls_linear_4-672-to-0 : verdict 4 calls (slice_set calls_linear_4 3 (result 0 ((places (None ∷ None ∷ None ∷ None ∷ []) ([])) ∷ []) ((places (None ∷ None ∷ None ∷ None ∷ []) ([])) ∷ []) (((Does 0) ∷ (Does 1) ∷ (Does 2) ∷ (Does 3) ∷ (Does 4) ∷ (Does 5) ∷ (Does 6) ∷ (Store 0 2) ∷ (Does 7) ∷ (Does 8) ∷ (Store 1 3) ∷ (Does 9) ∷ (Does 10) ∷ (Store 2 4) ∷ (Store 3 5) ∷ (Target (Reg 0)) ∷ (Moves (move (Reg 0) (Reg 1) ∷ [])) ∷ (Does 11) ∷ (Does 12) ∷ (Does 13) ∷ (Moves (move (Reg 0) (Home 3) ∷ move (Reg 1) (Home 4) ∷ move (Reg 2) (Home 5) ∷ move (Reg 3) (Reg 0) ∷ move (Out 0) (Reg 1) ∷ move (Out 1) (Reg 2) ∷ [])) ∷ (Does 14) ∷ (Load 1 2) ∷ (Does 15) ∷ []) ∷ []) ((0 ∷ 1 ∷ 0 ∷ 1 ∷ 0 ∷ 1 ∷ 2 ∷ 3 ∷ 0 ∷ 0 ∷ 0 ∷ 1 ∷ 0 ∷ 1 ∷ 2 ∷ 1 ∷ 0 ∷ []) ∷ []))) ≡ Unsound 3 0 0
calls_linear_4-672-to-0 = refl

-- use of the end
pub gcd_linear_6-860-to-0 : verdict 6 gcd (slice_set gcd_linear_6 3 (result 3 ((places ((Some 0) ∷ (Some 1) ∷ None ∷ None ∷ None ∷ None ∷ []) ([])) ∷ (places ((Some 0) ∷ (Some 1) ∷ None ∷ None ∷ None ∷ None ∷ []) ([])) ∷ (places ((Some 5) ∷ None ∷ None ∷ None ∷ None ∷ None ∷ []) ([])) ∷ []) ((places ((Some 0) ∷ (Some 1) ∷ (Some 2) ∷ None ∷ None ∷ None ∷ []) ([])) ∷ (places ((Some 4) ∷ None ∷ None ∷ None ∷ None ∷ None ∷ []) ([])) ∷ (places ((Some 5) ∷ None ∷ None ∷ None ∷ None ∷ None ∷ []) ([])) ∷ []) (((Does 0) ∷ []) ∷ ((Does 0) ∷ (Moves (move (Reg 0) (Reg 1) ∷ move (Reg 1) (Reg 0) ∷ [])) ∷ (Does 1) ∷ []) ∷ ([]) ∷ []) ((2 ∷ 0 ∷ 2 ∷ []) ∷ (0 ∷ 1 ∷ 0 ∷ []) ∷ (0 ∷ []) ∷ []))) ≡ Unsound 3 0 2
gcd_linear_6-860-to-0 = refl

-- without an end place
pub gcd_linear_6-156-to-0 : verdict 6 gcd (slice_set gcd_linear_6 0 (result 0 ((places ((Some 0) ∷ (Some 1) ∷ None ∷ None ∷ None ∷ None ∷ []) ([])) ∷ (places ((Some 2) ∷ (Some 3) ∷ None ∷ None ∷ None ∷ None ∷ []) ([])) ∷ (places ((Some 2) ∷ (Some 3) ∷ None ∷ None ∷ None ∷ None ∷ []) ([])) ∷ []) ((places ((Some 0) ∷ (Some 1) ∷ None ∷ None ∷ None ∷ None ∷ []) ([])) ∷ (places (None ∷ (Some 3) ∷ None ∷ None ∷ None ∷ None ∷ []) ([])) ∷ (places ((Some 4) ∷ (Some 3) ∷ None ∷ None ∷ None ∷ None ∷ []) ([])) ∷ []) (([]) ∷ ([]) ∷ ((Does 0) ∷ []) ∷ []) (([]) ∷ (0 ∷ 1 ∷ []) ∷ (0 ∷ 1 ∷ 0 ∷ []) ∷ []))) ≡ Unsound 0 1 1
gcd_linear_6-156-to-0 = refl

-- two registers at the end
pub calls_bottomup_4-408-196-to-5-6 : verdict 4 calls (slice_set calls_bottomup_4 0 (result 0 ((places (None ∷ None ∷ None ∷ (Some 1) ∷ []) (0 ∷ 2 ∷ 3 ∷ [])) ∷ (places ((Some 9) ∷ (Some 4) ∷ (Some 5) ∷ (Some 3) ∷ []) (0 ∷ 3 ∷ 4 ∷ 5 ∷ 9 ∷ [])) ∷ (places ((Some 9) ∷ (Some 4) ∷ (Some 5) ∷ None ∷ []) (0 ∷ 3 ∷ 4 ∷ 5 ∷ 9 ∷ [])) ∷ []) ((places ((Some 8) ∷ (Some 4) ∷ (Some 5) ∷ (Some 3) ∷ []) (0 ∷ 3 ∷ 4 ∷ 5 ∷ [])) ∷ (places ((Some 9) ∷ (Some 5) ∷ (Some 5) ∷ (Some 3) ∷ []) (0 ∷ 3 ∷ 4 ∷ 5 ∷ 9 ∷ [])) ∷ (places (None ∷ None ∷ None ∷ None ∷ []) (0 ∷ 3 ∷ 4 ∷ 5 ∷ 11 ∷ [])) ∷ []) (((Does 0) ∷ (Store 1 4) ∷ (Does 1) ∷ (Store 2 5) ∷ (Does 2) ∷ (Load 0 2) ∷ (Does 3) ∷ (Load 0 0) ∷ (Does 4) ∷ (Load 3 3) ∷ []) ∷ ([]) ∷ ((Does 0) ∷ (Does 1) ∷ (Target (Reg 11)) ∷ []) ∷ []) ((1 ∷ 2 ∷ 0 ∷ 3 ∷ 0 ∷ 3 ∷ 0 ∷ 3 ∷ 0 ∷ []) ∷ (0 ∷ 3 ∷ []) ∷ (1 ∷ 2 ∷ 1 ∷ 0 ∷ 1 ∷ 0 ∷ []) ∷ []))) ≡ Unsound 0 1 1
calls_bottomup_4-408-196-to-5-6 = refl

-- store of another value
pub calls_plain_6-556-to-1 : verdict 6 calls (slice_set calls_plain_6 0 (result 0 ((places (None ∷ None ∷ None ∷ None ∷ None ∷ None ∷ []) (0 ∷ 1 ∷ 2 ∷ 3 ∷ [])) ∷ (places (None ∷ None ∷ None ∷ None ∷ None ∷ None ∷ []) (0 ∷ 3 ∷ 4 ∷ 5 ∷ 9 ∷ [])) ∷ (places (None ∷ None ∷ None ∷ None ∷ None ∷ None ∷ []) (0 ∷ 3 ∷ 4 ∷ 5 ∷ 9 ∷ [])) ∷ []) ((places (None ∷ None ∷ None ∷ None ∷ None ∷ None ∷ []) (0 ∷ 3 ∷ 4 ∷ 5 ∷ 8 ∷ [])) ∷ (places (None ∷ None ∷ None ∷ None ∷ None ∷ None ∷ []) (0 ∷ 3 ∷ 4 ∷ 5 ∷ 9 ∷ [])) ∷ (places (None ∷ None ∷ None ∷ None ∷ None ∷ None ∷ []) (0 ∷ 3 ∷ 4 ∷ 5 ∷ 11 ∷ [])) ∷ []) (((Does 0) ∷ (Store 0 4) ∷ (Does 1) ∷ (Store 0 5) ∷ (Does 2) ∷ (Store 0 6) ∷ (Load 0 1) ∷ (Load 1 2) ∷ (Does 3) ∷ (Store 0 7) ∷ (Load 0 0) ∷ (Load 1 7) ∷ (Does 4) ∷ (Store 0 8) ∷ []) ∷ ((Load 0 9) ∷ (Load 1 3) ∷ []) ∷ ((Load 0 4) ∷ (Load 1 5) ∷ (Does 0) ∷ (Store 1 10) ∷ (Load 0 9) ∷ (Load 1 10) ∷ (Does 1) ∷ (Store 0 11) ∷ []) ∷ []) ((0 ∷ 0 ∷ 0 ∷ 0 ∷ 1 ∷ 0 ∷ 0 ∷ 1 ∷ 0 ∷ []) ∷ (0 ∷ 1 ∷ []) ∷ (0 ∷ 1 ∷ 0 ∷ 0 ∷ 1 ∷ 0 ∷ []) ∷ []))) ≡ Unsound 0 2 4
calls_plain_6-556-to-1 = refl

-- a home takes its own value alone
pub loop_linear_4-888-to-1 : verdict 4 loop (slice_set loop_linear_4 1 (result 1 ((places (None ∷ None ∷ None ∷ None ∷ []) ([])) ∷ (places (None ∷ None ∷ None ∷ None ∷ []) ([])) ∷ (places (None ∷ None ∷ None ∷ None ∷ []) ([])) ∷ []) ((places ((Some 14) ∷ (Some 15) ∷ None ∷ None ∷ []) ([])) ∷ (places (None ∷ None ∷ None ∷ None ∷ []) ([])) ∷ (places (None ∷ None ∷ None ∷ None ∷ []) ([])) ∷ []) (((Does 0) ∷ (Does 1) ∷ (Does 2) ∷ []) ∷ ((Does 0) ∷ (Does 1) ∷ (Does 2) ∷ (Does 3) ∷ (Does 4) ∷ (Does 5) ∷ (Moves (move (Reg 0) (Reg 0) ∷ move (Home 1) (Reg 1) ∷ [])) ∷ (Does 6) ∷ []) ∷ ([]) ∷ []) ((0 ∷ 0 ∷ 0 ∷ 1 ∷ 0 ∷ 1 ∷ []) ∷ (0 ∷ 0 ∷ 0 ∷ 1 ∷ 1 ∷ 1 ∷ 0 ∷ 1 ∷ 0 ∷ 1 ∷ []) ∷ ([]) ∷ []))) ≡ Unsound 1 1 7
loop_linear_4-888-to-1 = refl

-- lengths
pub calls_linear_4-300-to-1 : verdict 4 calls (slice_set (slice_set (slice_set calls_linear_4 0 (result 0 ((places ((Some 0) ∷ (Some 1) ∷ (Some 2) ∷ (Some 3) ∷ []) ([])) ∷ (places ((Some 0) ∷ (Some 9) ∷ None ∷ None ∷ []) (3 ∷ 4 ∷ 5 ∷ [])) ∷ (places ((Some 0) ∷ (Some 9) ∷ (Some 3) ∷ None ∷ []) (3 ∷ 4 ∷ 5 ∷ [])) ∷ []) ((places ((Some 0) ∷ (Some 8) ∷ None ∷ None ∷ []) (3 ∷ 4 ∷ 5 ∷ [])) ∷ (places ((Some 0) ∷ (Some 9) ∷ (Some 3) ∷ None ∷ []) (3 ∷ 4 ∷ 5 ∷ [])) ∷ (places ((Some 11) ∷ None ∷ (Some 3) ∷ (Some 4) ∷ []) (0 ∷ 3 ∷ 4 ∷ 5 ∷ [])) ∷ []) (((Store 3 3) ∷ (Does 0) ∷ (Store 3 4) ∷ (Does 1) ∷ (Store 3 5) ∷ (Does 2) ∷ (Store 3 0) ∷ (Takes 1) ∷ []) ∷ ((Load 3 5) ∷ (Load 3 4) ∷ []) ∷ ((Does 0) ∷ []) ∷ []) (([]) ∷ (0 ∷ 0 ∷ 0 ∷ 1 ∷ 3 ∷ []) ∷ []))) 1 (result 9 ((places ((Some 2) ∷ (Some 0) ∷ (Some 1) ∷ []) (0 ∷ [])) ∷ (places ((Some 0) ∷ []) (1 ∷ 2 ∷ [])) ∷ (places ((Some 2) ∷ None ∷ None ∷ (Some 0) ∷ None ∷ None ∷ []) (1 ∷ [])) ∷ []) ((places ((Some 9) ∷ []) ([])) ∷ (places ([]) ([])) ∷ (places ((Some 3) ∷ []) (0 ∷ 0 ∷ 0 ∷ 0 ∷ 1 ∷ 1 ∷ 0 ∷ 0 ∷ 1 ∷ 4 ∷ 1 ∷ 0 ∷ 0 ∷ [])) ∷ (places ([]) (1 ∷ 4 ∷ [])) ∷ []) (([]) ∷ []) ([]))) 2 (result 0 ([]) ((places ((Some 1) ∷ None ∷ None ∷ None ∷ []) ([])) ∷ []) (((Does 0) ∷ []) ∷ []) ((0 ∷ 0 ∷ 0 ∷ 0 ∷ []) ∷ []))) ≡ Unsound 0 0 0
calls_linear_4-300-to-1 = refl

-- empty
pub loop_plain_4-1236-to-2 : verdict 4 loop (slice_set loop_plain_4 1 (result 1 ((places (None ∷ None ∷ None ∷ None ∷ []) ([])) ∷ (places (None ∷ None ∷ None ∷ None ∷ []) ([])) ∷ (places (None ∷ None ∷ None ∷ None ∷ []) ([])) ∷ []) ((places (None ∷ None ∷ None ∷ None ∷ []) (14 ∷ 15 ∷ [])) ∷ (places (None ∷ None ∷ None ∷ None ∷ []) ([])) ∷ (places (None ∷ None ∷ None ∷ None ∷ []) ([])) ∷ []) (((Does 0) ∷ (Store 0 13) ∷ (Load 0 13) ∷ (Does 1) ∷ (Store 0 14) ∷ (Does 2) ∷ (Store 2 15) ∷ (Load 0 14) ∷ (Load 1 15) ∷ []) ∷ ((Does 0) ∷ (Store 0 16) ∷ (Load 0 16) ∷ (Does 1) ∷ (Store 0 17) ∷ (Does 2) ∷ (Store 0 18) ∷ (Load 0 18) ∷ (Does 3) ∷ (Store 0 19) ∷ (Load 0 17) ∷ (Load 1 19) ∷ (Does 4) ∷ (Store 0 20) ∷ (Does 5) ∷ (Store 0 21) ∷ (Moves (move (Reg 0) (Home 20) ∷ move (Reg 1) (Home 21) ∷ [])) ∷ (Does 6) ∷ []) ∷ ([]) ∷ []) ((0 ∷ 0 ∷ 0 ∷ 0 ∷ 0 ∷ 1 ∷ []) ∷ (0 ∷ 0 ∷ 0 ∷ 0 ∷ 0 ∷ 0 ∷ 0 ∷ 1 ∷ 0 ∷ 0 ∷ []) ∷ ([]) ∷ []))) ≡ Unsound 1 0 7
loop_plain_4-1236-to-2 = refl

-- argument
pub loop_linear_4-884-to-1 : verdict 4 loop (slice_set loop_linear_4 1 (result 1 ((places (None ∷ None ∷ None ∷ None ∷ []) ([])) ∷ (places (None ∷ None ∷ None ∷ None ∷ []) ([])) ∷ (places (None ∷ None ∷ None ∷ None ∷ []) ([])) ∷ []) ((places ((Some 14) ∷ (Some 15) ∷ None ∷ None ∷ []) ([])) ∷ (places (None ∷ None ∷ None ∷ None ∷ []) ([])) ∷ (places (None ∷ None ∷ None ∷ None ∷ []) ([])) ∷ []) (((Does 0) ∷ (Does 1) ∷ (Does 2) ∷ []) ∷ ((Does 0) ∷ (Does 1) ∷ (Does 2) ∷ (Does 3) ∷ (Does 4) ∷ (Does 5) ∷ (Moves (move (Reg 0) (Reg 1) ∷ move (Reg 1) (Reg 1) ∷ [])) ∷ (Does 6) ∷ []) ∷ ([]) ∷ []) ((0 ∷ 0 ∷ 0 ∷ 1 ∷ 0 ∷ 1 ∷ []) ∷ (0 ∷ 0 ∷ 0 ∷ 1 ∷ 1 ∷ 1 ∷ 0 ∷ 1 ∷ 0 ∷ 1 ∷ []) ∷ ([]) ∷ []))) ≡ Unsound 1 1 8
loop_linear_4-884-to-1 = refl

-- homed values rise
pub calls_linear_4-112-to-4 : verdict 4 calls (slice_set calls_linear_4 0 (result 0 ((places ((Some 0) ∷ (Some 1) ∷ (Some 2) ∷ (Some 3) ∷ []) ([])) ∷ (places ((Some 0) ∷ (Some 9) ∷ None ∷ None ∷ []) (3 ∷ 4 ∷ 5 ∷ [])) ∷ (places ((Some 0) ∷ (Some 9) ∷ (Some 3) ∷ None ∷ []) (3 ∷ 4 ∷ 4 ∷ [])) ∷ []) ((places ((Some 0) ∷ (Some 8) ∷ None ∷ None ∷ []) (3 ∷ 4 ∷ 5 ∷ [])) ∷ (places ((Some 0) ∷ (Some 9) ∷ (Some 3) ∷ None ∷ []) (3 ∷ 4 ∷ 5 ∷ [])) ∷ (places ((Some 11) ∷ None ∷ (Some 3) ∷ (Some 4) ∷ []) (0 ∷ 3 ∷ 4 ∷ 5 ∷ [])) ∷ []) (((Store 3 3) ∷ (Does 0) ∷ (Store 3 4) ∷ (Does 1) ∷ (Store 3 5) ∷ (Does 2) ∷ (Does 3) ∷ (Does 4) ∷ []) ∷ ((Load 2 3) ∷ []) ∷ ((Load 3 4) ∷ (Store 0 0) ∷ (Load 0 5) ∷ (Does 0) ∷ (Does 1) ∷ []) ∷ []) ((3 ∷ 3 ∷ 3 ∷ 1 ∷ 2 ∷ 1 ∷ 0 ∷ 1 ∷ 1 ∷ []) ∷ (1 ∷ 2 ∷ []) ∷ (3 ∷ 0 ∷ 0 ∷ 1 ∷ 0 ∷ 0 ∷ []) ∷ []))) ≡ Unsound 0 2 0
calls_linear_4-112-to-4 = refl

-- lengths
pub gcd_linear_6-932-to-0 : verdict 6 gcd (slice_set gcd_linear_6 4 (result 4 ((places ((Some 0) ∷ None ∷ None ∷ None ∷ None ∷ None ∷ []) ([])) ∷ []) ([]) (((Does 0) ∷ []) ∷ ([]) ∷ ([]) ∷ ([]) ∷ ([]) ∷ ((Does 1) ∷ []) ∷ []) ([]))) ≡ Unsound 4 0 0
gcd_linear_6-932-to-0 = refl

-- destinations
pub gcd_linear_6-1184-to-0 : verdict 6 gcd (slice_set gcd_linear_6 5 (result 5 ((places ((Some 0) ∷ (Some 1) ∷ None ∷ None ∷ None ∷ None ∷ []) ([])) ∷ []) ((places (None ∷ None ∷ None ∷ None ∷ None ∷ None ∷ []) ([])) ∷ []) (((Does 0) ∷ (Store 0 0) ∷ (Store 1 1) ∷ (Moves (move (Reg 0) (Reg 0) ∷ move (Reg 1) (Reg 2) ∷ [])) ∷ (Does 1) ∷ (Does 2) ∷ (Moves (move (Reg 0) (Home 1) ∷ move (Reg 0) (Reg 0) ∷ [])) ∷ (Does 3) ∷ (Moves (move (Reg 0) (Home 0) ∷ move (Reg 1) (Home 1) ∷ [])) ∷ (Does 4) ∷ (Does 5) ∷ (Moves (move (Reg 0) (Reg 0) ∷ move (Reg 1) (Reg 1) ∷ [])) ∷ (Does 6) ∷ (Moves (move (Reg 0) (Home 0) ∷ move (Reg 1) (Home 1) ∷ [])) ∷ (Does 7) ∷ (Does 8) ∷ (Moves (move (Reg 0) (Reg 0) ∷ move (Reg 1) (Reg 1) ∷ [])) ∷ (Does 9) ∷ (Does 10) ∷ (Moves (move (Reg 0) (Reg 0) ∷ [])) ∷ (Does 11) ∷ []) ∷ []) ((2 ∷ 0 ∷ 1 ∷ 1 ∷ 0 ∷ []) ∷ []))) ≡ Unsound 5 0 7
gcd_linear_6-1184-to-0 = refl

-- home is not written
pub loop_plain_4-560-to-0 : verdict 4 loop (slice_set loop_plain_4 0 (result 0 ((places (None ∷ None ∷ None ∷ None ∷ []) ([])) ∷ (places (None ∷ None ∷ None ∷ None ∷ []) ([])) ∷ (places (None ∷ None ∷ None ∷ None ∷ []) ([])) ∷ (places (None ∷ None ∷ None ∷ None ∷ []) ([])) ∷ (places (None ∷ None ∷ None ∷ None ∷ []) ([])) ∷ []) ((places (None ∷ None ∷ None ∷ None ∷ []) ([])) ∷ (places (None ∷ None ∷ None ∷ None ∷ []) (8 ∷ 9 ∷ [])) ∷ (places (None ∷ None ∷ None ∷ None ∷ []) ([])) ∷ (places (None ∷ None ∷ None ∷ None ∷ []) (23 ∷ 24 ∷ [])) ∷ (places (None ∷ None ∷ None ∷ None ∷ []) ([])) ∷ []) (((Does 0) ∷ (Store 0 0) ∷ (Does 1) ∷ (Store 0 1) ∷ (Load 0 0) ∷ (Load 1 1) ∷ (Does 2) ∷ []) ∷ ((Does 0) ∷ (Store 0 2) ∷ (Does 1) ∷ (Store 0 3) ∷ (Load 0 3) ∷ (Does 2) ∷ (Store 0 4) ∷ (Does 3) ∷ (Store 0 5) ∷ (Load 0 4) ∷ (Load 1 5) ∷ (Does 4) ∷ (Store 0 6) ∷ (Load 0 2) ∷ (Load 1 6) ∷ (Does 5) ∷ (Does 6) ∷ (Store 0 7) ∷ (Load 0 0) ∷ (Does 7) ∷ (Store 0 8) ∷ (Does 8) ∷ (Store 0 9) ∷ (Load 0 8) ∷ (Load 1 9) ∷ []) ∷ ((Does 0) ∷ (Store 0 10) ∷ (Load 0 10) ∷ (Does 1) ∷ (Store 0 11) ∷ (Does 2) ∷ (Store 0 12) ∷ (Moves (move (Reg 0) (Home 11) ∷ move (Reg 1) (Home 12) ∷ [])) ∷ (Does 3) ∷ []) ∷ ((Does 0) ∷ (Store 0 22) ∷ (Load 0 22) ∷ (Does 1) ∷ (Store 0 23) ∷ (Does 2) ∷ (Store 0 24) ∷ (Load 0 23) ∷ (Load 1 24) ∷ []) ∷ ([]) ∷ []) ((0 ∷ 0 ∷ 0 ∷ 1 ∷ []) ∷ (0 ∷ 0 ∷ 0 ∷ 0 ∷ 0 ∷ 0 ∷ 1 ∷ 0 ∷ 0 ∷ 1 ∷ 0 ∷ 0 ∷ 0 ∷ 0 ∷ 0 ∷ 1 ∷ []) ∷ (0 ∷ 0 ∷ 0 ∷ 0 ∷ []) ∷ (0 ∷ 0 ∷ 0 ∷ 0 ∷ 0 ∷ 1 ∷ []) ∷ ([]) ∷ []))) ≡ Unsound 0 1 19
loop_plain_4-560-to-0 = refl

-- home is not written
pub calls_bottomup_4-400-976-to-5-0 : verdict 4 calls (slice_set (slice_set calls_bottomup_4 0 (result 0 ((places (None ∷ None ∷ None ∷ (Some 1) ∷ []) (0 ∷ 2 ∷ 3 ∷ [])) ∷ (places ((Some 9) ∷ (Some 4) ∷ (Some 5) ∷ (Some 3) ∷ []) (0 ∷ 3 ∷ 4 ∷ 5 ∷ 9 ∷ [])) ∷ (places ((Some 9) ∷ (Some 4) ∷ (Some 5) ∷ None ∷ []) (0 ∷ 3 ∷ 4 ∷ 5 ∷ 9 ∷ [])) ∷ []) ((places ((Some 8) ∷ (Some 4) ∷ (Some 5) ∷ (Some 3) ∷ []) (0 ∷ 3 ∷ 4 ∷ 5 ∷ [])) ∷ (places ((Some 9) ∷ (Some 4) ∷ (Some 5) ∷ (Some 3) ∷ []) (0 ∷ 3 ∷ 4 ∷ 5 ∷ 9 ∷ [])) ∷ (places (None ∷ None ∷ None ∷ None ∷ []) (0 ∷ 3 ∷ 4 ∷ 5 ∷ 11 ∷ [])) ∷ []) (((Does 0) ∷ (Store 1 4) ∷ (Does 1) ∷ (Store 2 5) ∷ (Does 2) ∷ (Load 0 2) ∷ (Does 3) ∷ (Load 0 0) ∷ (Does 4) ∷ (Load 3 3) ∷ []) ∷ ([]) ∷ ((Does 0) ∷ (Target (Home 1)) ∷ (Does 11) ∷ []) ∷ []) ((1 ∷ 2 ∷ 0 ∷ 3 ∷ 0 ∷ 3 ∷ 0 ∷ 3 ∷ 0 ∷ []) ∷ (0 ∷ 3 ∷ []) ∷ (1 ∷ 2 ∷ 1 ∷ 0 ∷ 1 ∷ 0 ∷ []) ∷ []))) 3 (result 3 ((places (None ∷ None ∷ None ∷ None ∷ []) ([])) ∷ []) ((places (None ∷ None ∷ None ∷ None ∷ []) ([])) ∷ []) (((Does 0) ∷ (Does 1) ∷ (Does 2) ∷ (Does 3) ∷ (Store 0 2) ∷ (Does 4) ∷ (Store 0 3) ∷ (Does 5) ∷ (Store 0 4) ∷ (Does 6) ∷ (Store 0 5) ∷ (Does 7) ∷ (Does 8) ∷ (Does 9) ∷ (Does 10) ∷ (Target (Reg 1)) ∷ (Moves (move (Reg 0) (Reg 0) ∷ [])) ∷ (Does 11) ∷ (Takes 3) ∷ (Load 1 4) ∷ (Load 0 5) ∷ (Does 12) ∷ (Store 0 10) ∷ (Does 13) ∷ (Store 0 11) ∷ (Load 0 3) ∷ (Moves (move (Reg 0) (Reg 0) ∷ move (Reg 1) (Reg 1) ∷ move (Reg 2) (Reg 2) ∷ move (Reg 3) (Reg 3) ∷ move (Out 0) (Home 10) ∷ move (Out 1) (Home 11) ∷ [])) ∷ (Does 14) ∷ (Takes 1) ∷ (Load 0 2) ∷ (Does 15) ∷ []) ∷ []) ((0 ∷ 1 ∷ 0 ∷ 1 ∷ 0 ∷ 0 ∷ 0 ∷ 0 ∷ 0 ∷ 0 ∷ 1 ∷ 0 ∷ 1 ∷ 0 ∷ 0 ∷ 0 ∷ 1 ∷ []) ∷ []))) ≡ Unsound 0 2 2
calls_bottomup_4-400-976-to-5-0 = refl

-- two registers
pub calls_linear_4-96-to-4 : verdict 4 calls (slice_set calls_linear_4 0 (result 0 ((places ((Some 0) ∷ (Some 1) ∷ (Some 2) ∷ (Some 3) ∷ []) ([])) ∷ (places ((Some 0) ∷ (Some 9) ∷ None ∷ None ∷ []) (3 ∷ 4 ∷ 5 ∷ [])) ∷ (places ((Some 0) ∷ (Some 9) ∷ (Some 3) ∷ (Some 3) ∷ []) (3 ∷ 4 ∷ 5 ∷ [])) ∷ []) ((places ((Some 0) ∷ (Some 8) ∷ None ∷ None ∷ []) (3 ∷ 4 ∷ 5 ∷ [])) ∷ (places ((Some 0) ∷ (Some 9) ∷ (Some 3) ∷ None ∷ []) (3 ∷ 4 ∷ 5 ∷ [])) ∷ (places ((Some 11) ∷ None ∷ (Some 3) ∷ (Some 4) ∷ []) (0 ∷ 3 ∷ 4 ∷ 5 ∷ [])) ∷ []) (((Store 3 3) ∷ (Does 0) ∷ (Store 3 4) ∷ (Does 1) ∷ (Store 3 5) ∷ (Does 2) ∷ (Does 3) ∷ (Does 4) ∷ []) ∷ ((Load 2 3) ∷ []) ∷ ((Load 3 4) ∷ (Store 0 0) ∷ (Load 0 5) ∷ (Does 0) ∷ (Does 1) ∷ []) ∷ []) ((3 ∷ 3 ∷ 3 ∷ 1 ∷ 2 ∷ 1 ∷ 0 ∷ 1 ∷ 1 ∷ []) ∷ (1 ∷ 2 ∷ []) ∷ (3 ∷ 0 ∷ 0 ∷ 1 ∷ 0 ∷ 0 ∷ []) ∷ []))) ≡ Unsound 0 2 0
calls_linear_4-96-to-4 = refl

-- register
pub calls_linear_4-556-to-5 : verdict 4 calls (slice_set calls_linear_4 1 (result 1 ((places ((Some 0) ∷ (Some 9) ∷ None ∷ None ∷ []) ([])) ∷ []) ((places ((Some 12) ∷ None ∷ None ∷ None ∷ []) ([])) ∷ []) (((Does 0) ∷ []) ∷ []) ((5 ∷ 0 ∷ 0 ∷ 0 ∷ []) ∷ []))) ≡ Unsound 1 0 1
calls_linear_4-556-to-5 = refl

-- two registers
pub gcd_linear_6-624-to-1 : verdict 6 gcd (slice_set gcd_linear_6 3 (result 3 ((places ((Some 0) ∷ (Some 1) ∷ None ∷ None ∷ None ∷ None ∷ []) ([])) ∷ (places ((Some 0) ∷ (Some 1) ∷ None ∷ None ∷ (Some 0) ∷ None ∷ []) ([])) ∷ (places ((Some 5) ∷ None ∷ None ∷ None ∷ None ∷ None ∷ []) ([])) ∷ []) ((places ((Some 0) ∷ (Some 1) ∷ (Some 2) ∷ None ∷ None ∷ None ∷ []) ([])) ∷ (places ((Some 4) ∷ None ∷ None ∷ None ∷ None ∷ None ∷ []) ([])) ∷ (places ((Some 5) ∷ None ∷ None ∷ None ∷ None ∷ None ∷ []) ([])) ∷ []) (((Does 0) ∷ []) ∷ ((Does 0) ∷ (Moves (move (Reg 0) (Reg 1) ∷ move (Reg 1) (Reg 0) ∷ [])) ∷ (Does 1) ∷ []) ∷ ([]) ∷ []) ((2 ∷ 1 ∷ 2 ∷ []) ∷ (0 ∷ 1 ∷ 0 ∷ []) ∷ (0 ∷ []) ∷ []))) ≡ Unsound 3 1 0
gcd_linear_6-624-to-1 = refl

-- a home takes its own value alone
pub gcd_linear_6-1164-to-1 : verdict 6 gcd (slice_set gcd_linear_6 5 (result 5 ((places ((Some 0) ∷ (Some 1) ∷ None ∷ None ∷ None ∷ None ∷ []) ([])) ∷ []) ((places (None ∷ None ∷ None ∷ None ∷ None ∷ None ∷ []) ([])) ∷ []) (((Does 0) ∷ (Store 0 0) ∷ (Store 1 1) ∷ (Moves (move (Reg 0) (Reg 0) ∷ move (Reg 1) (Reg 2) ∷ [])) ∷ (Does 1) ∷ (Does 2) ∷ (Moves (move (Home 0) (Home 1) ∷ move (Reg 1) (Reg 0) ∷ [])) ∷ (Does 3) ∷ (Moves (move (Reg 0) (Home 0) ∷ move (Reg 1) (Home 1) ∷ [])) ∷ (Does 4) ∷ (Does 5) ∷ (Moves (move (Reg 0) (Reg 0) ∷ move (Reg 1) (Reg 1) ∷ [])) ∷ (Does 6) ∷ (Moves (move (Reg 0) (Home 0) ∷ move (Reg 1) (Home 1) ∷ [])) ∷ (Does 7) ∷ (Does 8) ∷ (Moves (move (Reg 0) (Reg 0) ∷ move (Reg 1) (Reg 1) ∷ [])) ∷ (Does 9) ∷ (Does 10) ∷ (Moves (move (Reg 0) (Reg 0) ∷ [])) ∷ (Does 11) ∷ []) ∷ []) ((2 ∷ 0 ∷ 1 ∷ 1 ∷ 0 ∷ []) ∷ []))) ≡ Unsound 5 0 7
gcd_linear_6-1164-to-1 = refl

-- use of the end
pub loop_bottomup_6-648-to-2 : verdict 6 loop (slice_set loop_bottomup_6 0 (result 0 ((places (None ∷ None ∷ None ∷ None ∷ None ∷ None ∷ []) ([])) ∷ (places (None ∷ None ∷ None ∷ None ∷ None ∷ None ∷ []) ([])) ∷ (places (None ∷ None ∷ None ∷ None ∷ None ∷ None ∷ []) ([])) ∷ (places (None ∷ None ∷ None ∷ None ∷ None ∷ None ∷ []) ([])) ∷ (places (None ∷ None ∷ None ∷ None ∷ None ∷ None ∷ []) ([])) ∷ []) ((places (None ∷ None ∷ None ∷ None ∷ None ∷ None ∷ []) ([])) ∷ (places ((Some 8) ∷ (Some 9) ∷ None ∷ None ∷ None ∷ None ∷ []) ([])) ∷ (places (None ∷ None ∷ None ∷ None ∷ None ∷ None ∷ []) ([])) ∷ (places ((Some 23) ∷ (Some 24) ∷ None ∷ None ∷ None ∷ None ∷ []) ([])) ∷ (places (None ∷ None ∷ None ∷ None ∷ None ∷ None ∷ []) ([])) ∷ []) (((Does 0) ∷ (Does 1) ∷ (Does 2) ∷ []) ∷ ((Does 0) ∷ (Does 1) ∷ (Does 2) ∷ (Does 3) ∷ (Does 4) ∷ (Does 5) ∷ (Does 6) ∷ (Does 7) ∷ (Does 8) ∷ []) ∷ ((Does 0) ∷ (Does 1) ∷ (Does 2) ∷ (Moves (move (Reg 0) (Reg 0) ∷ move (Reg 1) (Reg 1) ∷ [])) ∷ (Does 3) ∷ []) ∷ ((Does 0) ∷ (Does 1) ∷ (Does 2) ∷ []) ∷ ([]) ∷ []) ((0 ∷ 1 ∷ 0 ∷ 1 ∷ []) ∷ (0 ∷ 1 ∷ 1 ∷ 1 ∷ 2 ∷ 1 ∷ 2 ∷ 1 ∷ 0 ∷ 1 ∷ 0 ∷ 0 ∷ 0 ∷ 1 ∷ 0 ∷ 2 ∷ []) ∷ (0 ∷ 0 ∷ 0 ∷ 1 ∷ []) ∷ (0 ∷ 0 ∷ 0 ∷ 1 ∷ 0 ∷ 1 ∷ []) ∷ ([]) ∷ []))) ≡ Unsound 0 1 10
loop_bottomup_6-648-to-2 = refl

-- end home
pub calls_linear_4-180-to-2 : verdict 4 calls (slice_set calls_linear_4 0 (result 0 ((places ((Some 0) ∷ (Some 1) ∷ (Some 2) ∷ (Some 3) ∷ []) ([])) ∷ (places ((Some 0) ∷ (Some 9) ∷ None ∷ None ∷ []) (3 ∷ 4 ∷ 5 ∷ [])) ∷ (places ((Some 0) ∷ (Some 9) ∷ (Some 3) ∷ None ∷ []) (3 ∷ 4 ∷ 5 ∷ [])) ∷ []) ((places ((Some 0) ∷ (Some 8) ∷ None ∷ None ∷ []) (3 ∷ 4 ∷ 5 ∷ [])) ∷ (places ((Some 0) ∷ (Some 9) ∷ (Some 3) ∷ None ∷ []) (2 ∷ 4 ∷ 5 ∷ [])) ∷ (places ((Some 11) ∷ None ∷ (Some 3) ∷ (Some 4) ∷ []) (0 ∷ 3 ∷ 4 ∷ 5 ∷ [])) ∷ []) (((Store 3 3) ∷ (Does 0) ∷ (Store 3 4) ∷ (Does 1) ∷ (Store 3 5) ∷ (Does 2) ∷ (Does 3) ∷ (Does 4) ∷ []) ∷ ((Load 2 3) ∷ []) ∷ ((Load 3 4) ∷ (Store 0 0) ∷ (Load 0 5) ∷ (Does 0) ∷ (Does 1) ∷ []) ∷ []) ((3 ∷ 3 ∷ 3 ∷ 1 ∷ 2 ∷ 1 ∷ 0 ∷ 1 ∷ 1 ∷ []) ∷ (1 ∷ 2 ∷ []) ∷ (3 ∷ 0 ∷ 0 ∷ 1 ∷ 0 ∷ 0 ∷ []) ∷ []))) ≡ Unsound 0 1 2
calls_linear_4-180-to-2 = refl

-- sound all the same
pub calls_bottomup_4-228-to-3 : verdict 4 calls (slice_set calls_bottomup_4 0 (result 0 ((places (None ∷ None ∷ None ∷ (Some 1) ∷ []) (0 ∷ 2 ∷ 3 ∷ [])) ∷ (places ((Some 9) ∷ (Some 4) ∷ (Some 5) ∷ (Some 3) ∷ []) (0 ∷ 3 ∷ 4 ∷ 5 ∷ 9 ∷ [])) ∷ (places ((Some 9) ∷ (Some 4) ∷ (Some 5) ∷ None ∷ []) (0 ∷ 3 ∷ 4 ∷ 5 ∷ 9 ∷ [])) ∷ []) ((places ((Some 8) ∷ (Some 4) ∷ (Some 5) ∷ (Some 3) ∷ []) (0 ∷ 3 ∷ 4 ∷ 5 ∷ [])) ∷ (places ((Some 9) ∷ (Some 4) ∷ (Some 5) ∷ (Some 3) ∷ []) (0 ∷ 3 ∷ 4 ∷ 5 ∷ 3 ∷ [])) ∷ (places (None ∷ None ∷ None ∷ None ∷ []) (0 ∷ 3 ∷ 4 ∷ 5 ∷ 11 ∷ [])) ∷ []) (((Does 0) ∷ (Store 1 4) ∷ (Does 1) ∷ (Store 2 5) ∷ (Does 2) ∷ (Load 0 2) ∷ (Does 3) ∷ (Load 0 0) ∷ (Does 4) ∷ (Load 3 3) ∷ []) ∷ ([]) ∷ ((Does 0) ∷ (Does 1) ∷ (Store 0 11) ∷ []) ∷ []) ((1 ∷ 2 ∷ 0 ∷ 3 ∷ 0 ∷ 3 ∷ 0 ∷ 3 ∷ 0 ∷ []) ∷ (0 ∷ 3 ∷ []) ∷ (1 ∷ 2 ∷ 1 ∷ 0 ∷ 1 ∷ 0 ∷ []) ∷ []))) ≡ Sound
calls_bottomup_4-228-to-3 = refl

-- slot
pub gcd_linear_6-1676-to-2 : verdict 6 gcd (slice_set gcd_linear_6 6 (result 6 ((places (None ∷ None ∷ None ∷ None ∷ None ∷ None ∷ []) ([])) ∷ []) ((places (None ∷ None ∷ None ∷ None ∷ None ∷ None ∷ []) ([])) ∷ []) (((Does 0) ∷ (Does 1) ∷ (Moves (move (Reg 0) (Reg 0) ∷ move (Reg 1) (Reg 1) ∷ [])) ∷ (Does 2) ∷ (Does 3) ∷ (Does 4) ∷ (Moves (move (Reg 0) (Reg 0) ∷ move (Reg 1) (Out 1) ∷ [])) ∷ (Does 5) ∷ (Does 6) ∷ (Does 7) ∷ (Moves (move (Reg 0) (Reg 0) ∷ move (Reg 1) (Reg 1) ∷ [])) ∷ (Does 8) ∷ (Does 9) ∷ (Does 10) ∷ (Moves (move (Reg 0) (Reg 0) ∷ move (Reg 1) (Reg 1) ∷ [])) ∷ (Does 11) ∷ []) ∷ []) ((0 ∷ 1 ∷ 0 ∷ 1 ∷ 0 ∷ 1 ∷ 0 ∷ 1 ∷ []) ∷ []))) ≡ Unsound 6 0 7
gcd_linear_6-1676-to-2 = refl

-- sound all the same
pub calls_bottomup_4-28-to-1 : verdict 4 calls (slice_set calls_bottomup_4 0 (result 0 ((places (None ∷ (Some 0) ∷ None ∷ (Some 1) ∷ []) (0 ∷ 2 ∷ 3 ∷ [])) ∷ (places ((Some 9) ∷ (Some 4) ∷ (Some 5) ∷ (Some 3) ∷ []) (0 ∷ 3 ∷ 4 ∷ 5 ∷ 9 ∷ [])) ∷ (places ((Some 9) ∷ (Some 4) ∷ (Some 5) ∷ None ∷ []) (0 ∷ 3 ∷ 4 ∷ 5 ∷ 9 ∷ [])) ∷ []) ((places ((Some 8) ∷ (Some 4) ∷ (Some 5) ∷ (Some 3) ∷ []) (0 ∷ 3 ∷ 4 ∷ 5 ∷ [])) ∷ (places ((Some 9) ∷ (Some 4) ∷ (Some 5) ∷ (Some 3) ∷ []) (0 ∷ 3 ∷ 4 ∷ 5 ∷ 9 ∷ [])) ∷ (places (None ∷ None ∷ None ∷ None ∷ []) (0 ∷ 3 ∷ 4 ∷ 5 ∷ 11 ∷ [])) ∷ []) (((Does 0) ∷ (Store 1 4) ∷ (Does 1) ∷ (Store 2 5) ∷ (Does 2) ∷ (Load 0 2) ∷ (Does 3) ∷ (Load 0 0) ∷ (Does 4) ∷ (Load 3 3) ∷ []) ∷ ([]) ∷ ((Does 0) ∷ (Does 1) ∷ (Store 0 11) ∷ []) ∷ []) ((1 ∷ 2 ∷ 0 ∷ 3 ∷ 0 ∷ 3 ∷ 0 ∷ 3 ∷ 0 ∷ []) ∷ (0 ∷ 3 ∷ []) ∷ (1 ∷ 2 ∷ 1 ∷ 0 ∷ 1 ∷ 0 ∷ []) ∷ []))) ≡ Sound
calls_bottomup_4-28-to-1 = refl

-- argument
pub calls_linear_4-1020-to-2 : verdict 4 calls (slice_set calls_linear_4 3 (result 3 ((places (None ∷ None ∷ None ∷ None ∷ []) ([])) ∷ []) ((places (None ∷ None ∷ None ∷ None ∷ []) ([])) ∷ []) (((Does 0) ∷ (Does 1) ∷ (Does 2) ∷ (Does 3) ∷ (Does 4) ∷ (Does 5) ∷ (Does 6) ∷ (Store 0 2) ∷ (Does 7) ∷ (Does 8) ∷ (Store 1 3) ∷ (Does 9) ∷ (Does 10) ∷ (Store 2 4) ∷ (Store 3 5) ∷ (Target (Reg 0)) ∷ (Moves (move (Reg 0) (Reg 1) ∷ [])) ∷ (Does 11) ∷ (Does 12) ∷ (Does 13) ∷ (Moves (move (Reg 0) (Home 3) ∷ move (Reg 1) (Home 4) ∷ move (Reg 2) (Home 5) ∷ move (Reg 3) (Reg 0) ∷ move (Out 0) (Reg 2) ∷ move (Out 1) (Reg 2) ∷ [])) ∷ (Does 14) ∷ (Load 1 2) ∷ (Does 15) ∷ []) ∷ []) ((0 ∷ 1 ∷ 0 ∷ 1 ∷ 0 ∷ 1 ∷ 2 ∷ 3 ∷ 0 ∷ 0 ∷ 0 ∷ 1 ∷ 0 ∷ 1 ∷ 2 ∷ 1 ∷ 0 ∷ []) ∷ []))) ≡ Unsound 3 0 22
calls_linear_4-1020-to-2 = refl

-- too few registers named
pub gcd_linear_6-1104-to-3 : verdict 6 gcd (slice_set gcd_linear_6 5 (result 5 ((places ((Some 0) ∷ (Some 1) ∷ None ∷ None ∷ None ∷ None ∷ []) ([])) ∷ []) ((places (None ∷ None ∷ None ∷ None ∷ None ∷ None ∷ []) ([])) ∷ []) (((Does 0) ∷ (Store 0 0) ∷ (Store 1 1) ∷ (Moves (move (Reg 0) (Reg 0) ∷ move (Reg 1) (Reg 2) ∷ move (Reg 1) (Reg 2) ∷ [])) ∷ (Moves (move (Reg 0) (Home 1) ∷ move (Reg 1) (Reg 0) ∷ [])) ∷ (Does 3) ∷ (Moves (move (Reg 0) (Home 0) ∷ move (Reg 1) (Home 1) ∷ [])) ∷ (Does 4) ∷ (Does 5) ∷ (Moves (move (Reg 0) (Reg 0) ∷ move (Reg 1) (Reg 1) ∷ [])) ∷ (Does 6) ∷ (Moves (move (Reg 0) (Home 0) ∷ move (Reg 1) (Home 1) ∷ [])) ∷ (Does 7) ∷ (Does 8) ∷ (Moves (move (Reg 0) (Reg 0) ∷ move (Reg 1) (Reg 1) ∷ [])) ∷ (Does 9) ∷ (Does 10) ∷ (Moves (move (Reg 0) (Reg 0) ∷ [])) ∷ (Does 11) ∷ (Store 5 2) ∷ (Does 1) ∷ []) ∷ []) (([]) ∷ []))) ≡ Unsound 5 0 1
gcd_linear_6-1104-to-3 = refl

-- two registers at the end
pub empty_plain_16-132-152-to-1-1 : verdict 16 empty (slice_set empty_plain_16 0 (result 0 ((places (None ∷ None ∷ None ∷ None ∷ None ∷ None ∷ None ∷ None ∷ None ∷ None ∷ None ∷ None ∷ None ∷ None ∷ None ∷ None ∷ []) ([])) ∷ []) ((places (None ∷ None ∷ None ∷ None ∷ None ∷ None ∷ None ∷ None ∷ (Some 0) ∷ None ∷ None ∷ None ∷ None ∷ (Some 0) ∷ None ∷ None ∷ []) ([])) ∷ []) (([]) ∷ []) (([]) ∷ []))) ≡ Unsound 0 0 1
empty_plain_16-132-152-to-1-1 = refl

-- too few registers named
pub loop_linear_4-948-to-9 : verdict 4 loop (slice_set loop_linear_4 1 (result 1 ((places (None ∷ None ∷ None ∷ None ∷ []) ([])) ∷ (places (None ∷ None ∷ None ∷ None ∷ []) ([])) ∷ (places (None ∷ None ∷ None ∷ None ∷ []) ([])) ∷ []) ((places ((Some 14) ∷ (Some 15) ∷ None ∷ None ∷ []) ([])) ∷ (places (None ∷ None ∷ None ∷ None ∷ []) ([])) ∷ (places (None ∷ None ∷ None ∷ None ∷ []) ([])) ∷ []) (((Does 0) ∷ (Does 1) ∷ (Does 2) ∷ []) ∷ ((Does 0) ∷ (Does 1) ∷ (Does 2) ∷ (Does 3) ∷ (Does 4) ∷ (Does 5) ∷ (Moves (move (Reg 0) (Reg 0) ∷ move (Reg 1) (Reg 1) ∷ [])) ∷ (Does 6) ∷ []) ∷ ([]) ∷ []) ((0 ∷ 0 ∷ 0 ∷ 1 ∷ 0 ∷ 1 ∷ []) ∷ (0 ∷ 0 ∷ 0 ∷ 1 ∷ 1 ∷ 1 ∷ 0 ∷ 1 ∷ 0 ∷ []) ∷ (0 ∷ []) ∷ []))) ≡ Unsound 1 1 6
loop_linear_4-948-to-9 = refl

-- row
pub calls_linear_4-192-to-3 : verdict 4 calls (slice_set calls_linear_4 0 (result 0 ((places ((Some 0) ∷ (Some 1) ∷ (Some 2) ∷ (Some 3) ∷ []) ([])) ∷ (places ((Some 0) ∷ (Some 9) ∷ None ∷ None ∷ []) (3 ∷ 4 ∷ 5 ∷ [])) ∷ (places ((Some 0) ∷ (Some 9) ∷ (Some 3) ∷ None ∷ []) (3 ∷ 4 ∷ 5 ∷ [])) ∷ []) ((places ((Some 0) ∷ (Some 8) ∷ None ∷ None ∷ []) (3 ∷ 4 ∷ 5 ∷ [])) ∷ (places ((Some 0) ∷ (Some 9) ∷ (Some 3) ∷ None ∷ []) (3 ∷ 4 ∷ 5 ∷ [])) ∷ (places ((Some 11) ∷ None ∷ (Some 3) ∷ []) (4 ∷ 0 ∷ 3 ∷ 4 ∷ 5 ∷ [])) ∷ []) (((Store 3 3) ∷ (Does 0) ∷ (Store 3 4) ∷ (Does 1) ∷ (Store 3 5) ∷ (Does 2) ∷ (Does 3) ∷ (Does 4) ∷ []) ∷ ((Load 2 3) ∷ []) ∷ ((Load 3 4) ∷ (Store 0 0) ∷ (Load 0 5) ∷ (Does 0) ∷ (Does 1) ∷ []) ∷ []) ((3 ∷ 3 ∷ 3 ∷ 1 ∷ 2 ∷ 1 ∷ 0 ∷ 1 ∷ 1 ∷ []) ∷ (1 ∷ 2 ∷ []) ∷ (3 ∷ 0 ∷ 0 ∷ 1 ∷ 0 ∷ 0 ∷ []) ∷ []))) ≡ Unsound 0 2 0
calls_linear_4-192-to-3 = refl

-- value
pub calls_plain_6-968-to-7 : verdict 6 calls (slice_set calls_plain_6 2 (result 2 ((places (None ∷ None ∷ None ∷ None ∷ None ∷ None ∷ []) (0 ∷ [])) ∷ []) ((places (None ∷ None ∷ None ∷ None ∷ None ∷ None ∷ []) (1 ∷ [])) ∷ []) (((Load 0 7) ∷ (Does 0) ∷ (Store 0 1) ∷ (Load 0 1) ∷ []) ∷ []) ((0 ∷ 0 ∷ 0 ∷ 0 ∷ []) ∷ []))) ≡ Unsound 2 0 1
calls_plain_6-968-to-7 = refl

-- slot
pub loop_plain_4-1264-424-to-14-4 : verdict 4 loop (slice_set (slice_set loop_plain_4 0 (result 0 ((places (None ∷ None ∷ None ∷ None ∷ []) ([])) ∷ (places (None ∷ None ∷ None ∷ None ∷ []) ([])) ∷ (places (None ∷ None ∷ None ∷ None ∷ []) ([])) ∷ (places (None ∷ None ∷ None ∷ None ∷ []) ([])) ∷ (places (None ∷ None ∷ None ∷ None ∷ []) ([])) ∷ []) ((places (None ∷ None ∷ None ∷ None ∷ []) ([])) ∷ (places (None ∷ None ∷ None ∷ None ∷ []) (8 ∷ 9 ∷ [])) ∷ (places (None ∷ None ∷ None ∷ None ∷ []) ([])) ∷ (places (None ∷ None ∷ None ∷ None ∷ []) (23 ∷ 24 ∷ [])) ∷ (places (None ∷ None ∷ None ∷ None ∷ []) ([])) ∷ []) (((Does 0) ∷ (Store 0 0) ∷ (Does 1) ∷ (Store 0 1) ∷ (Load 0 0) ∷ (Load 1 1) ∷ (Does 2) ∷ []) ∷ ((Does 0) ∷ (Store 0 2) ∷ (Does 1) ∷ (Store 0 3) ∷ (Load 0 3) ∷ (Does 2) ∷ (Takes 0) ∷ (Takes 0) ∷ (Moves (move (Reg 5) (Out 0) ∷ [])) ∷ (Takes 2) ∷ (Store 5 0) ∷ (Takes 1) ∷ (Does 6) ∷ (Load 0 2) ∷ (Load 1 6) ∷ (Does 5) ∷ (Does 6) ∷ (Store 0 7) ∷ (Load 0 7) ∷ (Does 7) ∷ (Store 0 8) ∷ (Does 8) ∷ (Store 0 9) ∷ (Load 0 8) ∷ (Load 1 9) ∷ []) ∷ ((Does 0) ∷ (Store 0 10) ∷ (Load 0 10) ∷ (Does 1) ∷ (Store 0 11) ∷ (Does 2) ∷ (Store 0 12) ∷ (Moves (move (Reg 0) (Home 11) ∷ move (Reg 1) (Home 12) ∷ [])) ∷ (Does 3) ∷ []) ∷ ((Does 0) ∷ (Store 0 22) ∷ (Load 0 22) ∷ (Does 1) ∷ (Store 0 23) ∷ (Does 2) ∷ (Store 0 24) ∷ (Load 0 23) ∷ (Load 1 24) ∷ []) ∷ ([]) ∷ []) ((0 ∷ 0 ∷ 0 ∷ 1 ∷ []) ∷ (0 ∷ 0 ∷ 0 ∷ 0 ∷ 0 ∷ 0 ∷ 1 ∷ 0 ∷ 0 ∷ 1 ∷ 0 ∷ 0 ∷ 0 ∷ 0 ∷ 0 ∷ 1 ∷ []) ∷ (0 ∷ 0 ∷ 0 ∷ 0 ∷ []) ∷ (0 ∷ 0 ∷ 0 ∷ 0 ∷ 0 ∷ 1 ∷ []) ∷ ([]) ∷ []))) 1 (result 1 ((places (None ∷ None ∷ None ∷ None ∷ []) ([])) ∷ (places (None ∷ None ∷ None ∷ None ∷ []) ([])) ∷ (places (None ∷ None ∷ None ∷ None ∷ []) ([])) ∷ []) ((places (None ∷ None ∷ None ∷ None ∷ []) (14 ∷ 15 ∷ [])) ∷ (places (None ∷ None ∷ None ∷ None ∷ []) ([])) ∷ (places (None ∷ None ∷ None ∷ None ∷ []) ([])) ∷ []) (((Does 0) ∷ (Store 0 13) ∷ (Load 0 13) ∷ (Does 1) ∷ (Store 0 14) ∷ (Does 2) ∷ (Store 0 15) ∷ (Load 0 14) ∷ (Load 1 14) ∷ []) ∷ ((Does 0) ∷ (Store 0 16) ∷ (Load 0 16) ∷ (Does 1) ∷ (Store 0 17) ∷ (Does 2) ∷ (Store 0 18) ∷ (Load 0 18) ∷ (Does 3) ∷ (Store 0 19) ∷ (Load 0 17) ∷ (Load 1 19) ∷ (Does 4) ∷ (Store 0 20) ∷ (Does 5) ∷ (Store 0 21) ∷ (Moves (move (Reg 0) (Home 20) ∷ move (Reg 1) (Home 21) ∷ [])) ∷ (Does 6) ∷ []) ∷ ([]) ∷ []) ((0 ∷ 0 ∷ 0 ∷ 0 ∷ 0 ∷ 1 ∷ []) ∷ (0 ∷ 0 ∷ 0 ∷ 0 ∷ 0 ∷ 0 ∷ 0 ∷ 1 ∷ 0 ∷ 0 ∷ []) ∷ ([]) ∷ []))) ≡ Unsound 0 1 9
loop_plain_4-1264-424-to-14-4 = refl

-- target
pub calls_linear_4-884-to-1 : verdict 4 calls (slice_set calls_linear_4 3 (result 3 ((places (None ∷ None ∷ None ∷ None ∷ []) ([])) ∷ []) ((places (None ∷ None ∷ None ∷ None ∷ []) ([])) ∷ []) (((Does 0) ∷ (Does 1) ∷ (Does 2) ∷ (Does 3) ∷ (Does 4) ∷ (Does 5) ∷ (Does 6) ∷ (Store 0 2) ∷ (Does 7) ∷ (Does 8) ∷ (Store 1 3) ∷ (Does 9) ∷ (Does 10) ∷ (Store 2 4) ∷ (Store 3 5) ∷ (Target (Reg 1)) ∷ (Moves (move (Reg 0) (Reg 1) ∷ [])) ∷ (Does 11) ∷ (Does 12) ∷ (Does 13) ∷ (Moves (move (Reg 0) (Home 3) ∷ move (Reg 1) (Home 4) ∷ move (Reg 2) (Home 5) ∷ move (Reg 3) (Reg 0) ∷ move (Out 0) (Reg 1) ∷ move (Out 1) (Reg 2) ∷ [])) ∷ (Does 14) ∷ (Load 1 2) ∷ (Does 15) ∷ []) ∷ []) ((0 ∷ 1 ∷ 0 ∷ 1 ∷ 0 ∷ 1 ∷ 2 ∷ 3 ∷ 0 ∷ 0 ∷ 0 ∷ 1 ∷ 0 ∷ 1 ∷ 2 ∷ 1 ∷ 0 ∷ []) ∷ []))) ≡ Unsound 3 0 18
calls_linear_4-884-to-1 = refl

-- parameter without a place
pub calls_plain_6-96-to-4 : verdict 6 calls (slice_set calls_plain_6 0 (result 0 ((places (None ∷ None ∷ None ∷ None ∷ None ∷ None ∷ []) (0 ∷ 1 ∷ 2 ∷ 3 ∷ [])) ∷ (places (None ∷ None ∷ None ∷ None ∷ None ∷ None ∷ []) (0 ∷ 3 ∷ 4 ∷ 5 ∷ [])) ∷ (places ((Some 5) ∷ None ∷ None ∷ None ∷ None ∷ None ∷ None ∷ (Some 4) ∷ None ∷ []) (4 ∷ 5 ∷ 9 ∷ [])) ∷ []) ((places (None ∷ None ∷ None ∷ None ∷ None ∷ None ∷ []) (0 ∷ 3 ∷ 4 ∷ 5 ∷ 8 ∷ [])) ∷ (places (None ∷ None ∷ None ∷ None ∷ None ∷ None ∷ []) (0 ∷ 3 ∷ 4 ∷ 5 ∷ 9 ∷ [])) ∷ (places (None ∷ None ∷ None ∷ None ∷ None ∷ None ∷ []) (0 ∷ 3 ∷ 4 ∷ 5 ∷ 11 ∷ [])) ∷ []) (((Does 0) ∷ (Store 0 4) ∷ (Does 1) ∷ (Store 0 5) ∷ (Does 2) ∷ (Store 0 6) ∷ (Load 0 1) ∷ (Load 1 2) ∷ (Does 3) ∷ (Store 0 7) ∷ (Load 0 0) ∷ (Load 1 7) ∷ (Does 4) ∷ (Store 0 8) ∷ []) ∷ ((Load 0 9) ∷ (Load 1 3) ∷ []) ∷ ((Load 0 4) ∷ (Load 1 5) ∷ (Does 0) ∷ (Store 0 10) ∷ (Load 0 9) ∷ (Load 1 10) ∷ (Does 1) ∷ (Store 0 11) ∷ []) ∷ []) ((0 ∷ 0 ∷ 0 ∷ 0 ∷ 1 ∷ 0 ∷ 0 ∷ 1 ∷ 0 ∷ []) ∷ (0 ∷ 1 ∷ []) ∷ (0 ∷ 1 ∷ 0 ∷ 0 ∷ 1 ∷ 0 ∷ []) ∷ []))) ≡ Unsound 0 1 0
calls_plain_6-96-to-4 = refl

-- live value without a place
pub calls_linear_4-1052-48-to-6-0 : verdict 4 calls (slice_set (slice_set calls_linear_4 0 (result 0 ((places ((Some 0) ∷ (Some 1) ∷ (Some 2) ∷ (Some 3) ∷ []) ([])) ∷ (places (None ∷ (Some 9) ∷ None ∷ None ∷ []) (3 ∷ 4 ∷ 5 ∷ [])) ∷ (places ((Some 0) ∷ (Some 9) ∷ (Some 3) ∷ None ∷ []) (3 ∷ 4 ∷ 5 ∷ [])) ∷ []) ((places ((Some 0) ∷ (Some 8) ∷ None ∷ None ∷ []) (3 ∷ 4 ∷ 5 ∷ [])) ∷ (places ((Some 0) ∷ (Some 9) ∷ (Some 3) ∷ None ∷ []) (3 ∷ 4 ∷ 5 ∷ [])) ∷ (places ((Some 11) ∷ None ∷ (Some 3) ∷ (Some 4) ∷ []) (0 ∷ 3 ∷ 4 ∷ 5 ∷ [])) ∷ []) (((Store 3 3) ∷ (Does 0) ∷ (Store 3 4) ∷ (Does 1) ∷ (Store 3 5) ∷ (Does 2) ∷ (Does 3) ∷ (Does 4) ∷ []) ∷ ((Load 2 3) ∷ []) ∷ ((Load 3 4) ∷ (Store 0 0) ∷ (Load 0 5) ∷ (Does 0) ∷ (Does 1) ∷ []) ∷ []) ((3 ∷ 3 ∷ 3 ∷ 1 ∷ 2 ∷ 1 ∷ 0 ∷ 1 ∷ 1 ∷ []) ∷ (1 ∷ 2 ∷ []) ∷ (3 ∷ 0 ∷ 0 ∷ 1 ∷ 0 ∷ 0 ∷ []) ∷ []))) 3 (result 3 ((places (None ∷ None ∷ None ∷ None ∷ []) ([])) ∷ []) ((places (None ∷ None ∷ None ∷ None ∷ []) ([])) ∷ []) (((Does 0) ∷ (Does 1) ∷ (Does 2) ∷ (Does 3) ∷ (Does 4) ∷ (Does 5) ∷ (Does 6) ∷ (Store 0 2) ∷ (Does 7) ∷ (Does 8) ∷ (Store 1 3) ∷ (Does 9) ∷ (Does 10) ∷ (Store 2 4) ∷ (Store 3 5) ∷ (Target (Reg 0)) ∷ (Moves (move (Reg 0) (Reg 1) ∷ [])) ∷ (Does 11) ∷ (Does 12) ∷ (Does 13) ∷ (Moves (move (Reg 0) (Home 3) ∷ move (Reg 1) (Home 4) ∷ move (Reg 2) (Home 5) ∷ move (Reg 3) (Reg 0) ∷ move (Out 0) (Reg 1) ∷ move (Out 1) (Reg 2) ∷ [])) ∷ (Does 14) ∷ (Load 6 2) ∷ (Does 15) ∷ []) ∷ []) ((0 ∷ 1 ∷ 0 ∷ 1 ∷ 0 ∷ 1 ∷ 2 ∷ 3 ∷ 0 ∷ 0 ∷ 0 ∷ 1 ∷ 0 ∷ 1 ∷ 2 ∷ 1 ∷ 0 ∷ []) ∷ []))) ≡ Unsound 0 1 0
calls_linear_4-1052-48-to-6-0 = refl

-- operations left
pub gcd_linear_6-776-to-3 : verdict 6 gcd (slice_set gcd_linear_6 3 (result 3 ((places ((Some 0) ∷ (Some 1) ∷ None ∷ None ∷ None ∷ None ∷ []) ([])) ∷ (places ((Some 0) ∷ (Some 1) ∷ None ∷ None ∷ None ∷ None ∷ []) ([])) ∷ (places ((Some 5) ∷ None ∷ None ∷ None ∷ None ∷ None ∷ []) ([])) ∷ []) ((places ((Some 0) ∷ (Some 1) ∷ (Some 2) ∷ None ∷ None ∷ None ∷ []) ([])) ∷ (places ((Some 4) ∷ None ∷ None ∷ None ∷ None ∷ None ∷ []) ([])) ∷ (places ((Some 5) ∷ None ∷ None ∷ None ∷ None ∷ None ∷ []) ([])) ∷ []) (((Moves ([])) ∷ []) ∷ ((Does 0) ∷ (Moves (move (Reg 0) (Reg 1) ∷ move (Reg 1) (Reg 0) ∷ [])) ∷ (Does 1) ∷ []) ∷ ([]) ∷ []) ((2 ∷ 1 ∷ 2 ∷ []) ∷ (0 ∷ 1 ∷ 0 ∷ []) ∷ (0 ∷ []) ∷ []))) ≡ Unsound 3 0 2
gcd_linear_6-776-to-3 = refl

-- live value without a place
pub gcd_linear_6-1760-88-to-0-0 : verdict 6 gcd (slice_set (slice_set gcd_linear_6 0 (result 0 ((places ((Some 0) ∷ (Some 1) ∷ None ∷ None ∷ None ∷ None ∷ []) ([])) ∷ (places ((Some 2) ∷ (Some 3) ∷ None ∷ None ∷ None ∷ None ∷ []) ([])) ∷ (places (None ∷ (Some 3) ∷ None ∷ None ∷ None ∷ None ∷ []) ([])) ∷ []) ((places ((Some 0) ∷ (Some 1) ∷ None ∷ None ∷ None ∷ None ∷ []) ([])) ∷ (places ((Some 2) ∷ (Some 3) ∷ None ∷ None ∷ None ∷ None ∷ []) ([])) ∷ (places ((Some 4) ∷ (Some 3) ∷ None ∷ None ∷ None ∷ None ∷ []) ([])) ∷ []) (([]) ∷ ([]) ∷ ((Does 0) ∷ []) ∷ []) (([]) ∷ (0 ∷ 1 ∷ []) ∷ (0 ∷ 1 ∷ 0 ∷ []) ∷ []))) 6 (result 6 ((places (None ∷ None ∷ None ∷ None ∷ None ∷ None ∷ []) ([])) ∷ []) ((places (None ∷ None ∷ None ∷ None ∷ None ∷ None ∷ []) ([])) ∷ []) (((Does 0) ∷ (Does 1) ∷ (Moves (move (Reg 0) (Reg 0) ∷ move (Reg 1) (Reg 1) ∷ [])) ∷ (Does 2) ∷ (Does 3) ∷ (Does 4) ∷ (Moves (move (Reg 0) (Reg 0) ∷ move (Reg 1) (Reg 1) ∷ [])) ∷ (Does 5) ∷ (Does 6) ∷ (Does 7) ∷ (Moves (move (Reg 0) (Reg 0) ∷ move (Reg 1) (Reg 1) ∷ [])) ∷ (Does 8) ∷ (Does 0) ∷ (Does 10) ∷ (Moves (move (Reg 0) (Reg 0) ∷ move (Reg 1) (Reg 1) ∷ [])) ∷ (Does 11) ∷ []) ∷ []) ((0 ∷ 1 ∷ 0 ∷ 1 ∷ 0 ∷ 1 ∷ 0 ∷ 1 ∷ []) ∷ []))) ≡ Unsound 0 2 0
gcd_linear_6-1760-88-to-0-0 = refl

-- value
pub calls_plain_6-968-to-5 : verdict 6 calls (slice_set calls_plain_6 2 (result 2 ((places (None ∷ None ∷ None ∷ None ∷ None ∷ None ∷ []) (0 ∷ [])) ∷ []) ((places (None ∷ None ∷ None ∷ None ∷ None ∷ None ∷ []) (1 ∷ [])) ∷ []) (((Load 0 5) ∷ (Does 0) ∷ (Store 0 1) ∷ (Load 0 1) ∷ []) ∷ []) ((0 ∷ 0 ∷ 0 ∷ 0 ∷ []) ∷ []))) ≡ Unsound 2 0 1
calls_plain_6-968-to-5 = refl

-- registers left
pub calls_bottomup_4-464-to-7 : verdict 4 calls (slice_set calls_bottomup_4 0 (result 0 ((places (None ∷ None ∷ None ∷ (Some 1) ∷ []) (0 ∷ 2 ∷ 3 ∷ [])) ∷ (places ((Some 9) ∷ (Some 4) ∷ (Some 5) ∷ (Some 3) ∷ []) (0 ∷ 3 ∷ 4 ∷ 5 ∷ 9 ∷ [])) ∷ (places ((Some 9) ∷ (Some 4) ∷ (Some 5) ∷ None ∷ []) (0 ∷ 3 ∷ 4 ∷ 5 ∷ 9 ∷ [])) ∷ []) ((places ((Some 8) ∷ (Some 4) ∷ (Some 5) ∷ (Some 3) ∷ []) (0 ∷ 3 ∷ 4 ∷ 5 ∷ [])) ∷ (places ((Some 9) ∷ (Some 4) ∷ (Some 5) ∷ (Some 3) ∷ []) (0 ∷ 3 ∷ 4 ∷ 5 ∷ 9 ∷ [])) ∷ (places (None ∷ None ∷ None ∷ None ∷ []) (0 ∷ 3 ∷ 4 ∷ 5 ∷ 11 ∷ [])) ∷ []) (((Does 0) ∷ (Store 1 4) ∷ (Does 1) ∷ (Store 2 5) ∷ (Does 2) ∷ (Load 0 2) ∷ (Does 3) ∷ (Load 0 0) ∷ (Does 4) ∷ (Load 3 3) ∷ []) ∷ ([]) ∷ ((Does 0) ∷ (Does 1) ∷ (Store 0 11) ∷ []) ∷ []) ((1 ∷ 2 ∷ 0 ∷ 3 ∷ 0 ∷ 3 ∷ 0 ∷ 3 ∷ 0 ∷ []) ∷ (0 ∷ 3 ∷ 6 ∷ 1 ∷ 2 ∷ 1 ∷ 0 ∷ []) ∷ (0 ∷ []) ∷ []))) ≡ Unsound 0 1 1
calls_bottomup_4-464-to-7 = refl

-- parameter without a place
pub gcd_linear_6-1000-to-0 : verdict 6 gcd (slice_set gcd_linear_6 5 (result 5 ((places ((Some 0) ∷ None ∷ None ∷ None ∷ None ∷ None ∷ []) ([])) ∷ []) ((places (None ∷ None ∷ None ∷ None ∷ None ∷ None ∷ []) ([])) ∷ []) (((Does 0) ∷ (Store 0 0) ∷ (Store 1 1) ∷ (Moves (move (Reg 0) (Reg 0) ∷ move (Reg 1) (Reg 2) ∷ [])) ∷ (Does 1) ∷ (Does 2) ∷ (Moves (move (Reg 0) (Home 1) ∷ move (Reg 1) (Reg 0) ∷ [])) ∷ (Does 3) ∷ (Moves (move (Reg 0) (Home 0) ∷ move (Reg 1) (Home 1) ∷ [])) ∷ (Does 4) ∷ (Does 5) ∷ (Moves (move (Reg 0) (Reg 0) ∷ move (Reg 1) (Reg 1) ∷ [])) ∷ (Does 6) ∷ (Moves (move (Reg 0) (Home 0) ∷ move (Reg 1) (Home 1) ∷ [])) ∷ (Does 7) ∷ (Does 8) ∷ (Moves (move (Reg 0) (Reg 0) ∷ move (Reg 1) (Reg 1) ∷ [])) ∷ (Does 9) ∷ (Does 10) ∷ (Moves (move (Reg 0) (Reg 0) ∷ [])) ∷ (Does 11) ∷ []) ∷ []) ((2 ∷ 0 ∷ 1 ∷ 1 ∷ 0 ∷ []) ∷ []))) ≡ Unsound 5 0 0
gcd_linear_6-1000-to-0 = refl

-- registers left
pub loop_bottomup_6-584-to-17 : verdict 6 loop (slice_set (slice_set loop_bottomup_6 0 (result 0 ((places (None ∷ None ∷ None ∷ None ∷ None ∷ None ∷ []) ([])) ∷ (places (None ∷ None ∷ None ∷ None ∷ None ∷ None ∷ []) ([])) ∷ (places (None ∷ None ∷ None ∷ None ∷ None ∷ None ∷ []) ([])) ∷ (places (None ∷ None ∷ None ∷ None ∷ None ∷ None ∷ []) ([])) ∷ (places (None ∷ None ∷ None ∷ None ∷ None ∷ None ∷ []) ([])) ∷ []) ((places (None ∷ None ∷ None ∷ None ∷ None ∷ None ∷ []) ([])) ∷ (places ((Some 8) ∷ (Some 9) ∷ None ∷ None ∷ None ∷ None ∷ []) ([])) ∷ (places (None ∷ None ∷ None ∷ None ∷ None ∷ None ∷ []) ([])) ∷ (places ((Some 23) ∷ (Some 24) ∷ None ∷ None ∷ None ∷ None ∷ []) ([])) ∷ (places (None ∷ None ∷ None ∷ None ∷ None ∷ None ∷ []) ([])) ∷ []) (((Does 0) ∷ (Does 1) ∷ (Does 2) ∷ []) ∷ ((Does 0) ∷ (Does 1) ∷ (Does 2) ∷ (Does 3) ∷ (Does 4) ∷ (Does 5) ∷ (Does 6) ∷ (Does 7) ∷ (Does 8) ∷ []) ∷ ((Does 0) ∷ (Does 1) ∷ (Does 2) ∷ (Moves (move (Reg 0) (Reg 0) ∷ move (Reg 1) (Reg 1) ∷ [])) ∷ (Does 3) ∷ []) ∷ ((Does 0) ∷ (Does 1) ∷ (Does 2) ∷ []) ∷ ([]) ∷ []) ((0 ∷ 1 ∷ 0 ∷ 1 ∷ []) ∷ (0 ∷ 1 ∷ 1 ∷ 1 ∷ 2 ∷ 1 ∷ 2 ∷ 1 ∷ 0 ∷ 1 ∷ 0 ∷ 0 ∷ 0 ∷ 1 ∷ 0 ∷ 1 ∷ 4 ∷ []) ∷ ([]) ∷ ([]) ∷ ([]) ∷ []))) 1 (result 1 ((places ([]) ([])) ∷ (places ([]) (0 ∷ [])) ∷ (places (None ∷ []) (3 ∷ [])) ∷ (places (None ∷ None ∷ None ∷ None ∷ None ∷ None ∷ []) ([])) ∷ (places (None ∷ None ∷ None ∷ None ∷ None ∷ None ∷ []) ([])) ∷ (places (None ∷ None ∷ None ∷ None ∷ None ∷ None ∷ []) ([])) ∷ []) ((places ((Some 14) ∷ (Some 15) ∷ None ∷ None ∷ None ∷ None ∷ []) ([])) ∷ (places (None ∷ None ∷ None ∷ None ∷ None ∷ None ∷ []) ([])) ∷ (places (None ∷ None ∷ None ∷ None ∷ None ∷ None ∷ []) ([])) ∷ []) (((Does 0) ∷ (Does 1) ∷ (Does 2) ∷ []) ∷ ((Does 0) ∷ (Does 1) ∷ (Does 2) ∷ (Does 3) ∷ (Does 4) ∷ (Does 5) ∷ (Moves (move (Reg 0) (Reg 0) ∷ move (Reg 1) (Reg 1) ∷ [])) ∷ (Does 6) ∷ []) ∷ ([]) ∷ []) ((0 ∷ 0 ∷ 0 ∷ 1 ∷ 0 ∷ 1 ∷ []) ∷ (0 ∷ 0 ∷ 0 ∷ 1 ∷ 1 ∷ 1 ∷ 0 ∷ 1 ∷ 0 ∷ 1 ∷ []) ∷ ([]) ∷ []))) ≡ Unsound 0 1 10
loop_bottomup_6-584-to-17 = refl

-- operations left
pub loop_linear_4-1172-to-4 : verdict 4 loop (slice_set loop_linear_4 3 (result 3 ((places (None ∷ None ∷ None ∷ None ∷ []) ([])) ∷ []) ((places (None ∷ None ∷ None ∷ None ∷ []) ([])) ∷ []) (((Does 0) ∷ (Moves (move (Reg 0) (Reg 0) ∷ [])) ∷ (Takes 1) ∷ []) ∷ []) ((0 ∷ []) ∷ []))) ≡ Unsound 3 0 4
loop_linear_4-1172-to-4 = refl

-- row
pub calls_bottomup_4-100-to-6 : verdict 4 calls (slice_set calls_bottomup_4 0 (result 0 ((places (None ∷ None ∷ None ∷ (Some 1) ∷ []) (0 ∷ 2 ∷ 3 ∷ [])) ∷ (places ((Some 9) ∷ (Some 4) ∷ (Some 5) ∷ (Some 3) ∷ []) (0 ∷ 3 ∷ 4 ∷ 5 ∷ 9 ∷ [])) ∷ (places ((Some 9) ∷ (Some 4) ∷ (Some 5) ∷ None ∷ (Some 4) ∷ None ∷ []) (4 ∷ 5 ∷ 9 ∷ [])) ∷ []) ((places ((Some 8) ∷ (Some 4) ∷ (Some 5) ∷ (Some 3) ∷ []) (0 ∷ 3 ∷ 4 ∷ 5 ∷ [])) ∷ (places ((Some 9) ∷ (Some 4) ∷ (Some 5) ∷ (Some 3) ∷ []) (0 ∷ 3 ∷ 4 ∷ 5 ∷ 9 ∷ [])) ∷ (places (None ∷ None ∷ None ∷ None ∷ []) (0 ∷ 3 ∷ 4 ∷ 5 ∷ 11 ∷ [])) ∷ []) (((Does 0) ∷ (Store 1 4) ∷ (Does 1) ∷ (Store 2 5) ∷ (Does 2) ∷ (Load 0 2) ∷ (Does 3) ∷ (Load 0 0) ∷ (Does 4) ∷ (Load 3 3) ∷ []) ∷ ([]) ∷ ((Does 0) ∷ (Does 1) ∷ (Store 0 11) ∷ []) ∷ []) ((1 ∷ 2 ∷ 0 ∷ 3 ∷ 0 ∷ 3 ∷ 0 ∷ 3 ∷ 0 ∷ []) ∷ (0 ∷ 3 ∷ []) ∷ (1 ∷ 2 ∷ 1 ∷ 0 ∷ 1 ∷ 0 ∷ []) ∷ []))) ≡ Unsound 0 2 0
calls_bottomup_4-100-to-6 = refl

-- target
pub calls_plain_6-1364-to-0 : verdict 6 calls (slice_set calls_plain_6 3 (result 3 ((places (None ∷ None ∷ None ∷ None ∷ None ∷ None ∷ []) ([])) ∷ []) ((places (None ∷ None ∷ None ∷ None ∷ None ∷ None ∷ []) ([])) ∷ []) (((Does 0) ∷ (Store 0 0) ∷ (Does 1) ∷ (Store 0 1) ∷ (Load 0 0) ∷ (Load 1 1) ∷ (Does 2) ∷ (Does 3) ∷ (Store 0 2) ∷ (Does 4) ∷ (Store 0 3) ∷ (Does 5) ∷ (Store 0 4) ∷ (Does 6) ∷ (Store 0 5) ∷ (Does 7) ∷ (Store 0 6) ∷ (Load 0 6) ∷ (Does 8) ∷ (Store 0 7) ∷ (Does 9) ∷ (Store 0 8) ∷ (Load 0 7) ∷ (Does 10) ∷ (Target (Home 0)) ∷ (Moves (move (Reg 0) (Home 8) ∷ [])) ∷ (Does 11) ∷ (Store 0 9) ∷ (Does 12) ∷ (Store 0 10) ∷ (Does 13) ∷ (Store 0 11) ∷ (Moves (move (Reg 0) (Home 3) ∷ move (Reg 1) (Home 4) ∷ move (Reg 2) (Home 5) ∷ move (Reg 3) (Home 9) ∷ move (Out 0) (Home 10) ∷ move (Out 1) (Home 11) ∷ [])) ∷ (Does 14) ∷ (Store 0 12) ∷ (Load 0 2) ∷ (Load 1 12) ∷ (Does 15) ∷ []) ∷ []) ((0 ∷ 0 ∷ 0 ∷ 1 ∷ 0 ∷ 0 ∷ 0 ∷ 0 ∷ 0 ∷ 0 ∷ 0 ∷ 0 ∷ 0 ∷ 0 ∷ 0 ∷ 0 ∷ 1 ∷ []) ∷ []))) ≡ Unsound 3 0 27
calls_plain_6-1364-to-0 = refl

---- Notes

abbrev small : List ℕ
small = (1 ∷ 0 ∷ 1 ∷ 16 ∷ 0 ∷ 0 ∷ 0 ∷ 0 ∷ 0 ∷ 0 ∷ 0 ∷ 0 ∷ 0 ∷ 0 ∷ 0 ∷ 0 ∷ 0 ∷ 0 ∷ 0 ∷ 0 ∷ 0 ∷ 1 ∷ 16 ∷ 0 ∷ 0 ∷ 0 ∷ 0 ∷ 0 ∷ 0 ∷ 0 ∷ 0 ∷ 0 ∷ 0 ∷ 0 ∷ 0 ∷ 0 ∷ 0 ∷ 0 ∷ 0 ∷ 0 ∷ 1 ∷ 0 ∷ 1 ∷ 0 ∷ [])

pub spelled : notes empty_plain_16 ≡ bytes_of small
unfolding number
spelled = refl

pub counted : length (notes empty_plain_16) ≡ 184
unfolding number
counted = refl

pub read-back : read (bytes_of small) ≡ Ok (result 0 ((places (None ∷ None ∷ None ∷ None ∷ None ∷ None ∷ None ∷ None ∷ None ∷ None ∷ None ∷ None ∷ None ∷ None ∷ None ∷ None ∷ []) ([])) ∷ []) ((places (None ∷ None ∷ None ∷ None ∷ None ∷ None ∷ None ∷ None ∷ None ∷ None ∷ None ∷ None ∷ None ∷ None ∷ None ∷ None ∷ []) ([])) ∷ []) (([]) ∷ []) (([]) ∷ []) ∷ [])
unfolding number number_at up_to_at held_at list_at places_at place_at move_at stored_at line_at result_at mark_at whole_of
read-back = refl

pub read-24-to-1 : read (bytes_of (slice_set small 4 1)) ≡ Ok (result 0 ((places ((Some 0) ∷ None ∷ None ∷ None ∷ None ∷ None ∷ None ∷ None ∷ None ∷ None ∷ None ∷ None ∷ None ∷ None ∷ None ∷ None ∷ []) ([])) ∷ []) ((places (None ∷ None ∷ None ∷ None ∷ None ∷ None ∷ None ∷ None ∷ None ∷ None ∷ None ∷ None ∷ None ∷ None ∷ None ∷ None ∷ []) ([])) ∷ []) (([]) ∷ []) (([]) ∷ []) ∷ [])
unfolding number number_at up_to_at held_at list_at places_at place_at move_at stored_at line_at result_at mark_at whole_of
read-24-to-1 = refl

pub read-first-0 : read (take 0 (bytes_of small)) ≡ Err (70, 0)
unfolding number number_at up_to_at held_at list_at places_at place_at move_at stored_at line_at result_at mark_at whole_of
read-first-0 = refl

pub read-first-7 : read (take 7 (bytes_of small)) ≡ Err (70, 7)
unfolding number number_at up_to_at held_at list_at places_at place_at move_at stored_at line_at result_at mark_at whole_of
read-first-7 = refl

pub read-first-8 : read (take 8 (bytes_of small)) ≡ Err (70, 8)
unfolding number number_at up_to_at held_at list_at places_at place_at move_at stored_at line_at result_at mark_at whole_of
read-first-8 = refl

pub read-first-183 : read (take 183 (bytes_of small)) ≡ Err (70, 183)
unfolding number number_at up_to_at held_at list_at places_at place_at move_at stored_at line_at result_at mark_at whole_of
read-first-183 = refl

pub read-0-to-85 : read (slice_set (bytes_of small) 0 85) ≡ Err (71, 0)
unfolding number number_at up_to_at held_at list_at places_at place_at move_at stored_at line_at result_at mark_at whole_of
read-0-to-85 = refl

pub read-one-more : read (bytes_of small ++ 0 ∷ []) ≡ Err (73, 184)
unfolding number number_at up_to_at held_at list_at places_at place_at move_at stored_at line_at result_at mark_at whole_of
read-one-more = refl

pub read-line-kind : read (bytes_of (1 ∷ 0 ∷ 0 ∷ 0 ∷ 1 ∷ 1 ∷ 6 ∷ [])) ≡ Err (72, 32)
unfolding number number_at up_to_at held_at list_at places_at place_at move_at stored_at line_at result_at mark_at whole_of
read-line-kind = refl

pub read-line-register : read (bytes_of (1 ∷ 0 ∷ 0 ∷ 0 ∷ 1 ∷ 1 ∷ 4 ∷ 16 ∷ [])) ≡ Err (72, 36)
unfolding number number_at up_to_at held_at list_at places_at place_at move_at stored_at line_at result_at mark_at whole_of
read-line-register = refl

pub read-line-place : read (bytes_of (1 ∷ 0 ∷ 0 ∷ 0 ∷ 1 ∷ 1 ∷ 5 ∷ 3 ∷ [])) ≡ Err (72, 36)
unfolding number number_at up_to_at held_at list_at places_at place_at move_at stored_at line_at result_at mark_at whole_of
read-line-place = refl

pub read-line-store : read (bytes_of (1 ∷ 0 ∷ 0 ∷ 0 ∷ 1 ∷ 1 ∷ 1 ∷ 15 ∷ 7 ∷ 0 ∷ [])) ≡ Ok (result 0 ([]) ([]) (((Store 15 7) ∷ []) ∷ []) ([]) ∷ [])
unfolding number number_at up_to_at held_at list_at places_at place_at move_at stored_at line_at result_at mark_at whole_of
read-line-store = refl

pub read-line-moves : read (bytes_of (1 ∷ 0 ∷ 0 ∷ 0 ∷ 1 ∷ 1 ∷ 3 ∷ 1 ∷ 0 ∷ 15 ∷ 1 ∷ 4294967295 ∷ 0 ∷ [])) ≡ Ok (result 0 ([]) ([]) (((Moves (move (Reg 15) (Home 4294967295) ∷ [])) ∷ []) ∷ []) ([]) ∷ [])
unfolding number number_at up_to_at held_at list_at places_at place_at move_at stored_at line_at result_at mark_at whole_of
read-line-moves = refl

pub read-line-target : read (bytes_of (1 ∷ 0 ∷ 0 ∷ 0 ∷ 1 ∷ 1 ∷ 5 ∷ 2 ∷ 9 ∷ 0 ∷ [])) ≡ Ok (result 0 ([]) ([]) (((Target (Out 9)) ∷ []) ∷ []) ([]) ∷ [])
unfolding number number_at up_to_at held_at list_at places_at place_at move_at stored_at line_at result_at mark_at whole_of
read-line-target = refl
