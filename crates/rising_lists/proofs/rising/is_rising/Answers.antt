use Rattle.std.proofs.Common.{◌∙◌, None, sym}
use Rattle.rising_lists.proofs.Ranks.{rises, risen}
use Rattle.rising_lists.proofs.rising.is_rising.Goals as goal

pub returns : goal.returns
returns c = (λ e. rises c.args.numbers.now None (sym c.rise.ensures ∙ e), λ r. c.rise.ensures ∙ risen c.args.numbers.now r)
