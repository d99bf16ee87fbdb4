-- The verdict over all results: the first failure by trace, node and line.
use Rattle.std.specs.Prelude.{ℕ, suc, ◌==◌, ◌&&◌, Bool, cond, List, [], ◌∷◌, ◌++◌, length, Option, Some, None}
use Rattle.lir_core.specs.declared.flow.Flow.{Flow}
use Rattle.lir_core.specs.declared.flow.Trace.{Trace}
use Rattle.lir_core.specs.declared.places.Places.{Places}
use Rattle.lir_core.specs.declared.places.Line.{Line}
use Rattle.lir_core.specs.declared.places.TraceOut.{TraceOut}
use Rattle.lir_core.specs.Flows.{code_nodes}
use Rattle.lir_core.specs.Sound.{room_of}
use Rattle.alloc_audit.specs.declared.verdict.Failure.{Failure}
use Rattle.alloc_audit.specs.declared.verdict.Verdict.{Verdict}
use Rattle.alloc_audit.specs.declared.verdict.Verdict.TheVariants.{Sound, Unsound}
use Rattle.alloc_audit.specs.Nodes.{Grounds, node_failure}

-- what a node fails at, and what the nodes behind it fail at
abbrev pub or_behind : ℕ → Option ℕ → Option Failure → Option Failure
or_behind i None behind = behind
or_behind i (Some line) behind = Some (record { node = i; line = line })

-- of nodes, the first of which is the trace's i-th, the first that fails; a list that is too short fails at 0 and 0
abbrev pub nodes_failure : Grounds → ℕ → List ℕ → List Places → List (List Line) → List (List ℕ) → List Places → Option Failure
nodes_failure c i [] starts lines regs ends = None
nodes_failure c i (n ∷ ns) (s ∷ ss) (l ∷ ls) (g ∷ gs) (e ∷ es) = or_behind i (node_failure c.room c.code c.live n s l g e) (nodes_failure c (suc i) ns ss ls gs es)
nodes_failure c i (n ∷ ns) _ _ _ _ = Some (record { node = 0; line = 0 })

-- a result has an entry of each list for each node
abbrev pub is_long : ℕ → TraceOut → Bool
is_long n o = (length o.starts == n) && (length o.ends == n) && (length o.lines == n) && (length o.regs == n)

-- where the t-th trace's result fails
abbrev pub result_failure : Grounds → ℕ → TraceOut → Option Failure
result_failure c t o =
    cond ((o.trace == t) && is_long (length c.nodes) o)
    (nodes_failure c 0 c.nodes o.starts o.lines o.regs o.ends)
    (Some (record { node = 0; line = 0 }))

abbrev pub told : ℕ → Option Failure → Verdict → Verdict
told t None behind = behind
told t (Some f) behind = Unsound t f.node f.line

-- the first failure, from the t-th trace on; a result that is missing or past the last trace fails at 0 and 0
abbrev pub verdict_from : ℕ → List Grounds → List TraceOut → Verdict
verdict_from t [] [] = Sound
verdict_from t [] (o ∷ os) = Unsound t 0 0
verdict_from t (c ∷ cs) [] = Unsound t 0 0
verdict_from t (c ∷ cs) (o ∷ os) = told t (result_failure c t o) (verdict_from (suc t) cs os)

---- All procedures

abbrev pub grounds_of : ℕ → Flow → (ℕ → ℕ → Bool) → Trace → Grounds
grounds_of k f live trace = record { room = room_of k f; code = code_nodes f.nodes; live = live; nodes = trace.nodes }

abbrev pub grounds_of_flow : ℕ → Flow → (ℕ → ℕ → Bool) → List Trace → List Grounds
grounds_of_flow k f live [] = []
grounds_of_flow k f live (t ∷ ts) = grounds_of k f live t ∷ grounds_of_flow k f live ts

-- the traces of all procedures, numbered together; `lives` has for each flow which values are live into each node
abbrev pub grounds_of_flows : ℕ → List Flow → List (ℕ → ℕ → Bool) → List (List Trace) → List Grounds
grounds_of_flows k [] lives cuts = []
grounds_of_flows k (f ∷ fs) [] cuts = []
grounds_of_flows k (f ∷ fs) (live ∷ lives) [] = []
grounds_of_flows k (f ∷ fs) (live ∷ lives) (ts ∷ cuts) = grounds_of_flow k f live ts ++ grounds_of_flows k fs lives cuts

abbrev pub verdict_of : ℕ → List Flow → List (ℕ → ℕ → Bool) → List (List Trace) → List TraceOut → Verdict
verdict_of k fs lives cuts outs = verdict_from 0 (grounds_of_flows k fs lives cuts) outs
