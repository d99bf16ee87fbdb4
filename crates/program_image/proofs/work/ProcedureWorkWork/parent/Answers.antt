use Rattle.program_image.proofs.Tasks.{parent_at}
use Rattle.program_image.proofs.work.ProcedureWorkWork.parent.Goals as goal

pub returns : goal.returns
returns c = parent_at c.args.self.now.program.now.procedures c.args.number c.requires
