use Rattle.std.proofs.Common.{ℕ, drop}
use Rattle.ob_judge.specs.Making.{Making}
use Rattle.judged_programs.specs.Tidy.{Tidy}
use Rattle.check_types.proofs.steps.Answering.{Judging}
use Rattle.table_builder.specs.Growing.{Grows}
use Rattle.check_making.specs.Making.{Makes}
use Rattle.check_declared.proofs.Parts.{StateMakes}
use Rattle.check_making.specs.parameters.Stands.{Stands}
use Rattle.check_declared.proofs.type_parts.Lists.{variables_from}
use Rattle.check_declared.proofs.type_parts.TidyStates.{TidyMakes}
use Rattle.check_declared.proofs.type_parts.declarations.var_decls.Given as goal

abbrev pub invariant-loop-tree : goal.invariant-loop-tree
invariant-loop-tree l = record {
  stands : Stands l.round l.state;
  grows : Grows l.initial.state.types.table l.state.types.table;
  judged : (m : Making) → Makes l.round l.initial.state m
      → Judging (StateMakes l.round) (variables_from l.round) (variables_from l.round (tt, m) l.trees) l.state (drop l.tree-index l.trees);
  legal : (from : ℕ) (m : Making) → Makes l.round l.initial.state m → Tidy from m
      → Judging (TidyMakes l.round from l.initial.state) (variables_from l.round) (variables_from l.round (tt, m) l.trees) l.state (drop l.tree-index l.trees);
}
