use Rattle.later_bodies.proofs.Walked.{put_next}
use Rattle.later_bodies.proofs.walk.one_more_procedure_waits.Goals as goal

pub returns : goal.returns
returns c = λ p q first s qs ws w so_far is. put_next p q first qs ws s w so_far is
