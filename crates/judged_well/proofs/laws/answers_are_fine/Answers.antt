use Rattle.judged_well.proofs.Whole.{answers_fine}
use Rattle.judged_well.proofs.laws.answers_are_fine.Goals as goal

pub returns : goal.returns
returns c = λ p ok inside fine at s read w right k result kind end_word r c is o same. answers_fine p ok inside at fine s read w right k result kind end_word r c is o same
