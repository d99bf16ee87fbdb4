use Rattle.judged_well.proofs.Whole.{expression_formed}
use Rattle.judged_well.proofs.laws.expressions_have_forms.Goals as goal

pub returns : goal.returns
returns c = λ p ok inside fine at s read w right x o is plain t same. expression_formed p ok inside at fine s read w right x o is plain t same
