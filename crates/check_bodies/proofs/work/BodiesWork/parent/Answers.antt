use Rattle.check_bodies.proofs.Tasks.{parent_at}
use Rattle.check_bodies.proofs.work.BodiesWork.parent.Goals as goal

pub returns : goal.returns
returns c = parent_at c.args.self.now.bodies.now c.args.number c.requires
