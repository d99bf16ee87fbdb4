use Rattle.std.proofs.Common.{◌≡◌, drop}
use Rattle.ob_types.specs.Meaning.{at_most}
use Rattle.eval_at_once.specs.Here.{here_of}
use Rattle.eval_at_once.specs.Lists.{branches_by}
use Rattle.eval_at_once.proofs.choosing.choose.Given as goal

abbrev pub invariant-loop-branch : goal.invariant-loop-branch
invariant-loop-branch l = branches_by l.laid (at_most l.laid l.active.fuel) (here_of l.active) l.active.fuel l.branches l.world ≡ branches_by l.laid (at_most l.laid l.active.fuel) (here_of l.active) l.active.fuel (drop l.branch-index l.branches) l.world
