-- Where a node's part of a result fails: its places and lines, as tests that compute.
use Rattle.std.specs.Prelude.{ℕ, suc, ◌+◌, ◌==◌, ◌&&◌, ◌||◌, nat_lt, Bool, true, not, cond, List, [], ◌∷◌, length, filter, Option, Some, None}
use Rattle.std.specs.List.{list_all, list_any}
use Rattle.run_laws.specs.Layers.{places_from}
use Rattle.block_runs.specs.Blocks.{CodeBlock, block_at, end_uses, successors}
use Rattle.block_runs.specs.Live.{has}
use Rattle.block_runs.specs.Valid.{block_reads}
use Rattle.lir_core.specs.declared.places.Places.{Places}
use Rattle.lir_core.specs.declared.places.Line.{Line}
use Rattle.lir_core.specs.Spots.{Spot, reg, home, in_register, placed}
use Rattle.lir_core.specs.Lines.{end_reads, Room}
use Rattle.lir_core.specs.Walks.{Walker, begin, walk}
use Rattle.alloc_audit.specs.Tests.{is_value, stand, are_below, first_unfit}

-- what a trace's result is held against: the room that its flow gives, the flow's code, which values are live into each node,
-- and the trace's nodes
pub record Grounds : Type 0 where
  pub room : Room
  pub code : List CodeBlock
  pub live : ℕ → ℕ → Bool
  pub nodes : List ℕ

---- A node's start: line 0

-- no value is in two registers
abbrev pub is_single : List (Option ℕ) → Bool
is_single [] = true
is_single (None ∷ regs) = is_single regs
is_single (Some v ∷ regs) = not (in_register regs v) && is_single regs

abbrev pub is_rising : List ℕ → Bool
is_rising [] = true
is_rising (x ∷ []) = true
is_rising (x ∷ (y ∷ ys)) = nat_lt x y && is_rising (y ∷ ys)

-- those of so many values that are live into a node
abbrev pub live_values : ℕ → (ℕ → ℕ → Bool) → ℕ → List ℕ
live_values values live n = filter (live n) (places_from 0 values)

-- a node needs a parameter: it reads it, or it is live into a node that follows
abbrev pub is_wanted : (ℕ → ℕ → Bool) → CodeBlock → ℕ → Bool
is_wanted live bl v = has (block_reads bl) v || list_any (λ to. live to v) (successors bl.end)

-- a start may name a value: one that is live into the node, or a parameter
abbrev pub may_name : (ℕ → ℕ → Bool) → CodeBlock → ℕ → ℕ → Bool
may_name live bl n v = live n v || has bl.params v

abbrev pub may_hold : (ℕ → ℕ → Bool) → CodeBlock → ℕ → Option ℕ → Bool
may_hold live bl n None = true
may_hold live bl n (Some v) = may_name live bl n v

-- a start names values that are live into the node, and the node's parameters
abbrev pub names_few : (ℕ → ℕ → Bool) → CodeBlock → ℕ → Places → Bool
names_few live bl n start = list_all (may_hold live bl n) start.regs && list_all (may_name live bl n) start.homed

-- a start has places for what is live into the node, and for each parameter that the node needs
abbrev pub has_needed : ℕ → (ℕ → ℕ → Bool) → CodeBlock → ℕ → Places → Bool
has_needed values live bl n start = list_all (placed start) (live_values values live n) && list_all (λ v. not (is_wanted live bl v) || placed start v) bl.params

abbrev pub starts_well : Room → (ℕ → ℕ → Bool) → CodeBlock → ℕ → Places → Bool
starts_well room live bl n start =
    (length start.regs == room.regs) && is_single start.regs && is_rising start.homed
    && list_all (may_hold live bl n) start.regs && list_all (may_name live bl n) start.homed
    && list_all (placed start) (live_values room.values live n)
    && list_all (λ v. not (is_wanted live bl v) || placed start v) bl.params

---- A node's end: the number behind its last line

-- each register, the first of these being register i, has what is said of it
abbrev pub are_true : (Spot → Option ℕ) → ℕ → List (Option ℕ) → Bool
are_true view i [] = true
are_true view i (None ∷ regs) = are_true view (suc i) regs
are_true view i (Some v ∷ regs) = is_value (view (reg i)) v && are_true view (suc i) regs

-- end places have all that the end reads or passes on, and all that is live into a node that follows
abbrev pub keeps_all : Room → (ℕ → ℕ → Bool) → CodeBlock → Places → Bool
keeps_all room live bl end = list_all (placed end) (end_uses bl.end) && list_all (λ to. list_all (placed end) (live_values room.values live to)) (successors bl.end)

abbrev pub ends_well : Room → (ℕ → ℕ → Bool) → CodeBlock → Places → Walker → Bool
ends_well room live bl end w =
    (w.next == length bl.ops) && are_below room.regs w.named && stand (λ r. w.view (reg r)) w.named (end_reads bl.end)
    && are_true w.view 0 end.regs && list_all (λ v. is_value (w.view (home v)) v) end.homed && is_single end.regs
    && keeps_all room live bl end

---- A node

-- the line at which a node fails, if it does
abbrev pub ended : ℕ → Bool → Option ℕ → Option ℕ
ended line well (Some n) = Some n
ended line well None = cond well None (Some line)

abbrev pub lines_failure : Room → (ℕ → ℕ → Bool) → CodeBlock → List Line → Places → Walker → Option ℕ
lines_failure room live bl lines end w = ended (length lines + 1) (ends_well room live bl end (walk bl.ops lines w)) (first_unfit room bl.ops 1 lines w)

abbrev pub node_failure : Room → List CodeBlock → (ℕ → ℕ → Bool) → ℕ → Places → List Line → List ℕ → Places → Option ℕ
node_failure room code live n start lines named end =
    cond ((length end.regs == room.regs) && starts_well room live (block_at code n) n start)
    (lines_failure room live (block_at code n) lines end (begin start named))
    (Some 0)
