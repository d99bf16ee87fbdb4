-- What is given: a valid flow, what is live in it, a trace, registers, and a hint that is fit.
use Rattle.std.specs.Prelude.{◌≡◌, ℕ, ◌≤◌, true, List, [], ◌∷◌, get_or, Option, Some, None}
use denote.Bor.{Bor}
use Rattle.block_runs.specs.Blocks.{CodeBlock, block_at}
use Rattle.block_runs.specs.Live.{has, Live}
use Rattle.lir_core.specs.declared.places.Places.{Places}
use Rattle.lir_core.specs.declared.flow.Trace.{Trace}
use Rattle.lir_core.specs.declared.places.TraceIn.{TraceIn}
use Rattle.lir_core.specs.declared.places.TraceOut.{TraceOut}
use Rattle.lir_core.specs.Flows.{code_nodes, leads, IsValidFlow, IsTrace}
use Rattle.lir_core.specs.Sound.{no_places}
use Rattle.lir_core.specs.Spots.{placed, IsRising, IsRow}
use Rattle.global_live.specs.Reading.{HasLive}
use Rattle.linear_scan.specs.Starts.{arguments_of}
use Rattle.linear_scan.specs.Linear.{Case, Hint}

-- an edge leads from the hint's node into a head, and the places are a row of k registers, and homes that rise, that have all that is live into the head, and each argument of the edge
pub record IsFit (k : ℕ) (bls : List CodeBlock) (head : ℕ) (h : Hint) : Type 0 where
  pub edge : leads bls head h.node ≡ true
  pub row : IsRow k h.places
  pub rises : IsRising h.places.homed
  pub live : (v : ℕ) → Live bls v head → placed h.places v ≡ true
  pub arguments : (v : ℕ) → has (arguments_of (block_at bls h.node).end) v ≡ true → placed h.places v ≡ true

abbrev pub FitsHead : ℕ → List CodeBlock → List ℕ → Option Hint → Type 0
FitsHead k bls [] hint = Unit {0}
FitsHead k bls (n ∷ ns) None = Unit {0}
FitsHead k bls (n ∷ ns) (Some h) = IsFit k bls n h

pub record IsInput (x : Case) (ns : List ℕ) (hint : Option Hint) : Type 0 where
  pub valid : IsValidFlow x.flow
  pub live : HasLive x.flow x.rows
  pub trace : IsTrace (code_nodes x.flow.nodes) ns
  pub enough : 4 ≤ x.regs
  pub fit : FitsHead x.regs (code_nodes x.flow.nodes) ns hint

-- what is lent, if anything is
abbrev pub lent : {A : Type 0} → Option (Bor A) → Option A
lent None = None
lent (Some b) = Some b.now

abbrev pub case_of : TraceIn → Case
case_of t = record { flow = t.flow.now; rows = t.live.now; regs = t.regs }

-- a hint is given where there are both the node and the places
abbrev pub hint_of : Option ℕ → Option Places → Option Hint
hint_of None hint = None
hint_of (Some n) None = None
hint_of (Some n) (Some q) = Some (record { node = n; places = q })

-- the end places of a trace's i-th node
abbrev pub hint_at : Trace → TraceOut → ℕ → Hint
hint_at t out i = record { node = get_or t.nodes i 0; places = get_or out.ends i no_places }
