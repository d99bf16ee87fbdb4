-- What the code of an audit tests, over sets and rows of bits.
use Rattle.std.specs.Prelude.{◌≡◌, ℕ, zero, suc, ◌+◌, ◌==◌, ◌&&◌, ◌||◌, nat_lt, nat_le, Bool, true, not, cond, List, [], ◌∷◌, ◌++◌, drop, take, length, Option, Some, None}
use Rattle.std.specs.List.{list_all, list_any}
use Rattle.block_runs.specs.Blocks.{CodeBlock, end_uses, successors}
use Rattle.block_runs.specs.declared.end.End.{End}
use Rattle.block_runs.specs.Live.{has}
use Rattle.lir_core.specs.Rows.{has_bit}
use Rattle.lir_core.specs.declared.places.Places.{Places}
use Rattle.lir_core.specs.declared.places.Line.{Line}
use Rattle.lir_core.specs.Spots.{in_register, get}
use Rattle.lir_core.specs.Flows.{code_node, code_nodes, operation_of, IsValidFlow}
use Rattle.lir_core.specs.Lines.{end_reads, names, Room}
use Rattle.lir_core.specs.Walks.{begin}
use Rattle.lir_core.specs.Rows.{live_into}
use Rattle.alloc_audit.specs.Tests.{is_value, stand, are_below}
use Rattle.alloc_audit.specs.Nodes.{is_single, live_values, starts_well, lines_failure, node_failure, Grounds}
use Rattle.alloc_audit.specs.Results.{IsLive}
use Rattle.alloc_audit.specs.Verdicts.{verdict_from, grounds_of_flow, grounds_of}
use Rattle.alloc_audit.specs.declared.node.AuditedNode.{AuditedNode}
use Rattle.alloc_audit.specs.declared.node.NodePart.{NodePart}
use Rattle.alloc_audit.specs.declared.results.Audited.{Audited}
use Rattle.alloc_audit.specs.declared.walk.Walk.{Walk}
use Rattle.alloc_audit.specs.declared.verdict.Failure.{Failure}
use Rattle.alloc_audit.specs.declared.verdict.Verdict.{Verdict}
use Rattle.alloc_audit.specs.declared.verdict.Verdict.TheVariants.{Sound, Unsound}
use Rattle.lir_core.specs.declared.flow.Flow.{Flow}
use Rattle.lir_core.specs.declared.flow.Node.{Node}
use Rattle.lir_core.specs.declared.flow.Lir.{Lir}
use Rattle.lir_core.specs.declared.flow.Trace.{Trace}
use Rattle.lir_core.specs.declared.places.TraceOut.{TraceOut}

-- a value has a register or a home
abbrev pub placed_by : List (Option ℕ) → (ℕ → Bool) → ℕ → Bool
placed_by regs homed v = in_register regs v || homed v

-- a start may name a value
abbrev pub may_be : (ℕ → Bool) → (ℕ → Bool) → ℕ → Bool
may_be live param v = live v || param v

abbrev pub may_have : (ℕ → Bool) → (ℕ → Bool) → Option ℕ → Bool
may_have live param None = true
may_have live param (Some v) = may_be live param v

-- a start names what is live, and parameters
abbrev pub names_only : (ℕ → Bool) → (ℕ → Bool) → Places → Bool
names_only live param start = list_all (may_have live param) start.regs && list_all (may_be live param) start.homed

-- a value is live into some node that follows
abbrev pub passes_on : List (List ℕ) → End → ℕ → Bool
passes_on rows end v = list_any (λ to. has_bit rows to v) (successors end)

abbrev pub has_if_wanted : List (List ℕ) → (ℕ → Bool) → End → (ℕ → Bool) → ℕ → Bool
has_if_wanted rows reads end has_place v = not (reads v || passes_on rows end v) || has_place v

-- what is live into node n has a place, and each of the node's parameters that the node needs
abbrev pub has_all : ℕ → List (List ℕ) → ℕ → Node → (ℕ → Bool) → (ℕ → Bool) → Bool
has_all values rows n node reads has_place = list_all has_place (live_values values (has_bit rows) n) && list_all (has_if_wanted rows reads node.end has_place) node.params

-- all that is live into nodes has places
abbrev pub have_live : ℕ → List (List ℕ) → (ℕ → Bool) → List ℕ → Bool
have_live values rows has_place nodes = list_all (λ to. list_all has_place (live_into values rows to)) nodes

-- what a node's end reads or passes on has a place, and what is live into the nodes that follow
abbrev pub keeps : ℕ → List (List ℕ) → Node → (ℕ → Bool) → Bool
keeps values rows node has_place = list_all has_place (end_uses node.end) && have_live values rows has_place (successors node.end)

-- numbers rise, behind one that may stand before them
abbrev pub is_above : Option ℕ → ℕ → Bool
is_above None x = true
is_above (Some p) x = nat_lt p x

abbrev pub rises_from : Option ℕ → List ℕ → Bool
rises_from o [] = true
rises_from o (x ∷ xs) = is_above o x && rises_from (Some x) xs

-- a register's value is in none of the others
abbrev pub is_alone : Option ℕ → List (Option ℕ) → Bool
is_alone None regs = true
is_alone (Some v) regs = not (in_register regs v)

-- a place has what is said of it
abbrev pub is_so : Option ℕ → Option ℕ → Bool
is_so held None = true
is_so held (Some v) = is_value held v

abbrev pub are_true_of : (ℕ → Option ℕ) → ℕ → List (Option ℕ) → Bool
are_true_of at i [] = true
are_true_of at i (x ∷ xs) = is_so (at i) x && are_true_of at (suc i) xs

-- all operations are done, and what the end reads stands in the registers named for it
abbrev pub is_done : Node → List ℕ → Walk → Bool
is_done node named w = (w.next == length node.lirs) && are_below (length w.regs.items) (drop w.used named) && stand (get w.regs.items) (drop w.used named) (end_reads node.end)

-- end places have what is said of them
abbrev pub is_right : Places → Walk → Bool
is_right end w = are_true_of (get w.regs.items) 0 end.regs && list_all (has w.homes) end.homed && is_single end.regs

abbrev pub room_for : ℕ → ℕ → ℕ → Room
room_for regs slots values = record { regs = regs; slots = slots; values = values }

abbrev pub room_of : ℕ → ℕ → Flow → Room
room_of regs slots f = room_for regs slots f.values

-- a node's failure, by its block
abbrev pub block_failure : Room → CodeBlock → (ℕ → ℕ → Bool) → ℕ → Places → List Line → List ℕ → Places → Option ℕ
block_failure room bl live n start lines named end =
    cond ((length end.regs == room.regs) && starts_well room live bl n start)
    (lines_failure room live bl lines end (begin start named))
    (Some 0)

-- the line at which a node's part of a result fails
abbrev pub part_failure : AuditedNode → NodePart → Option ℕ
part_failure at part =
    block_failure (room_for at.registers at.slots at.values) (code_node at.node.now) (has_bit at.live.now) at.number
    part.start.now part.lines.now part.named.now part.end.now

-- the same behind a start that is well, which has as many registers as there are
abbrev pub part_lines_failure : AuditedNode → NodePart → Option ℕ
part_lines_failure at part =
    lines_failure (room_for (length part.start.now.regs) at.slots at.values) (has_bit at.live.now) (code_node at.node.now) part.lines.now part.end.now
    (begin part.start.now part.named.now)

-- an operation that is no call can read its uses, where these registers are named for what comes
abbrev pub can_read : Walk → Lir → List ℕ → Bool
can_read w op rest =
    nat_le (names (operation_of op)) (length rest)
    && are_below (length w.regs.items) (take (names (operation_of op)) rest)
    && stand (get w.regs.items) (take (length op.uses) rest) op.uses

---- Results

-- what a trace's result is held against, where a flow's slots are counted already
abbrev pub grounds_for : ℕ → ℕ → Flow → List (List ℕ) → List ℕ → Grounds
grounds_for k slots f rows ns = record { room = room_for k slots f.values; code = code_nodes f.nodes; live = has_bit rows; nodes = ns }

-- what the results of a trace with these nodes are held against
abbrev pub grounds_in : Audited → List ℕ → Grounds
grounds_in audited ns = grounds_for audited.registers audited.slots audited.flow.now audited.live.now ns

-- the line at which the part of a node with this number fails
abbrev pub numbered_failure : Audited → ℕ → NodePart → Option ℕ
numbered_failure audited n part =
    node_failure (room_for audited.registers audited.slots audited.flow.now.values) (code_nodes audited.flow.now.nodes) (has_bit audited.live.now) n
    part.start.now part.lines.now part.named.now part.end.now

abbrev pub or_else : Option Verdict → Verdict → Verdict
or_else None behind = behind
or_else (Some v) behind = v

-- what is said of the results of a flow's traces, the first of which has number t: the first failure, or none
abbrev pub TellsAll : ℕ → Flow → (ℕ → ℕ → Bool) → ℕ → List Trace → List TraceOut → Option Verdict → Type 0
TellsAll k f live t ts outs o = (rest : List Grounds)
    → verdict_from t (grounds_of_flow k f live ts ++ rest) (drop t outs) ≡ or_else o (verdict_from (t + length ts) rest (drop (t + length ts) outs))

-- what is said of one result
abbrev pub TellsOne : ℕ → Flow → (ℕ → ℕ → Bool) → ℕ → Trace → List TraceOut → Option Verdict → Type 0
TellsOne k f live t trace outs o = (rest : List Grounds)
    → verdict_from t (grounds_of k f live trace ∷ rest) (drop t outs) ≡ or_else o (verdict_from (suc t) rest (drop (suc t) outs))

abbrev pub verdict_at : ℕ → Option Failure → Option Verdict
verdict_at t None = None
verdict_at t (Some f) = Some (Unsound t f.node f.line)

-- what is told is a failure
abbrev pub IsFailure : Option Verdict → Type 0
IsFailure None = Unit {0}
IsFailure (Some Sound) = ⊥
IsFailure (Some (Unsound t n l)) = Unit {0}

---- What is known to be live

abbrev pub IsKnown : Flow → Type 0
IsKnown f = IsValidFlow f → (live : ℕ → ℕ → Bool) × IsLive f live

-- of so many flows
abbrev pub AreKnown : List Flow → ℕ → Type 0
AreKnown fs zero = Unit {0}
AreKnown [] (suc n) = Unit {0}
AreKnown (f ∷ fs) (suc n) = IsKnown f × AreKnown fs n
