use Rattle.text_laws.proofs.constants.Values.{meant}
use Rattle.text_laws.proofs.constants.laws.constants_are_meant.Goals as goal

pub returns : goal.returns
returns c = λ p calls here types texts x. meant p calls here types texts x
