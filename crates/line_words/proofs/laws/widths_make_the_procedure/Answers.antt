use Rattle.line_words.proofs.Sums.{sum_lines}
use Rattle.line_words.proofs.laws.widths_make_the_procedure.Goals as goal

pub returns : goal.returns
returns c = sum_lines
