use Rattle.a64_select.proofs.Selection.{carries_out, fits}
use Rattle.a64_select.proofs.laws.selection_carries.Goals as goal

pub returns-clause-carries : goal.returns-clause-carries
returns-clause-carries c = carries_out

pub returns-clause-points : goal.returns-clause-points
returns-clause-points c = fits
