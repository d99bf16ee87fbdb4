use Rattle.meaning_commands.proofs.Agreeing.{both_agree}
use Rattle.meaning_commands.proofs.laws.both_agree.Goals as goal

pub returns : goal.returns
returns c = both_agree c.over_stays_over.ensures
