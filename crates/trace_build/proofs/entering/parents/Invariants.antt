use Rattle.std.proofs.Common.{◌≡◌, ℕ, ◌<◌, length, get_or, None}
use Rattle.trace_build.specs.Parents.{trace_at, parent_by}
use Rattle.trace_build.proofs.entering.parents.Given as goal

abbrev pub invariant-loop-number : goal.invariant-loop-number
invariant-loop-number l = (length l.parents.items ≡ l.number) × ((t : ℕ) → t < l.number → get_or l.parents.items t None ≡ parent_by l.flow.nodes l.holders.items (trace_at l.traces t).nodes t)
