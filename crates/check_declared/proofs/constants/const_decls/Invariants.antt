use Rattle.std.proofs.Common.{◌≡◌, drop}
use Rattle.ob_judge.specs.Making.{Making}
use Rattle.check_types.proofs.steps.Answering.{Judging}
use Rattle.check_making.specs.Making.{Makes, IsSettled}
use Rattle.check_declared.proofs.Parts.{StateMakes}
use Rattle.check_declared.proofs.Consts.{consts_from}
use Rattle.check_declared.proofs.constants.const_decls.Given as goal

abbrev pub invariant-loop-tree : goal.invariant-loop-tree
invariant-loop-tree l = record {
  settled : IsSettled l.round l.state;
  types : l.state.types ≡ l.initial.state.types;
  judged : (m : Making) → Makes l.round l.initial.state m
      → Judging (StateMakes l.round) (consts_from l.round) (consts_from l.round (tt, m) l.trees) l.state (drop l.tree-index l.trees);
}
