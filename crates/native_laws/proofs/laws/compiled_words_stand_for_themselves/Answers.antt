use Rattle.native_laws.proofs.Images.{stand}
use Rattle.native_laws.proofs.laws.compiled_words_stand_for_themselves.Goals as goal

pub returns : goal.returns
returns c = stand
