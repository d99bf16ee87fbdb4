use Rattle.std.proofs.Common.{◌≡◌, map, drop}
use Rattle.loc_back.specs.Steps.{no_param}
use Rattle.loc_back.proofs.seating.drop_params.Given as goal

abbrev pub invariant-loop-param : goal.invariant-loop-param
invariant-loop-param l = map (no_param (drop l.param-index l.params)) l.regs ≡ map (no_param l.params) l.initial.regs
