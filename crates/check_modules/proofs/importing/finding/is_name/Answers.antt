-- Bytes are compared as lists.
use Rattle.check_modules.proofs.importing.finding.is_name.Goals as goal

pub returns : goal.returns
returns c = c.eq.ensures
