use Rattle.later_bodies.proofs.Walked.{put_first}
use Rattle.later_bodies.proofs.walk.no_procedure_waits_at_first.Goals as goal

pub returns : goal.returns
returns c = λ p s. put_first p s
