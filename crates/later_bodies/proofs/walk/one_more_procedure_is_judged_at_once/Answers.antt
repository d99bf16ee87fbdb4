use Rattle.later_bodies.proofs.Walked.{put_whole}
use Rattle.later_bodies.proofs.walk.one_more_procedure_is_judged_at_once.Goals as goal

pub returns : goal.returns
returns c = λ p q first s t qs ws so_far is. put_whole p q first qs ws s t so_far is
