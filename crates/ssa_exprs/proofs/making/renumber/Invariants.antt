use Rattle.std.proofs.Common.{◌≡◌, ◌+◌, drop}
use Rattle.ssa_exprs.specs.Changes.{numbered_from}
use Rattle.ssa_exprs.proofs.making.renumber.Given as goal

abbrev pub invariant-loop-i : goal.invariant-loop-i
invariant-loop-i l =
    numbered_from (record { env = l.env.items; log = l.log.items }) (drop l.i l.vars) (l.first + l.i) ≡ numbered_from (record { env = l.initial.env.items; log = l.initial.log.items }) l.vars l.first
