use Rattle.std.proofs.Common.{ℕ, Option, None, arith}
use Rattle.std.proofs.lemmas.List.{length-map}
use denote.Param.Send.{sendable}
use Rattle.std.proofs.Crossing.{crosses}
use Rattle.ob_types.specs.declared.program.Procedure.{Procedure}
use Rattle.ssa_exprs.proofs.tables.ProgramTables.TheSendSync as tables
use Rattle.program_image.proofs.Sharing.{program_sync}
use Rattle.program_image.proofs.Tasks.{is_tree, tasks_in}
use Rattle.program_image.proofs.making.tasks_of.Goals as goal

pub final_results-requires-sync-W : goal.final_results-requires-sync-W
final_results-requires-sync-W g c κs lived = search (program_sync, tables.the_sync, sendable, crosses) depth 30 fits 100000

pub final_results-requires-clause-tree : goal.final_results-requires-clause-tree
final_results-requires-clause-tree g c κs lived = is_tree c.args.work.now.program.now.procedures

pub returns : goal.returns
returns g c = tasks_in c.args.work.now.choice c.args.work.now.program.now c.final_results.result c.final_results.ensures

pub final_results-requires-clause-small : goal.final_results-requires-clause-small
final_results-requires-clause-small g c κs lived =
    let few = c.requires.few in
    let long = length-map {B = Option ℕ} c.args.work.now.program.now.procedures (λ (q : Procedure). None) in
    omega (arith, few, long)
