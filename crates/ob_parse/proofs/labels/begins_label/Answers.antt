-- What a label begins with is computed.
use Rattle.ob_parse.proofs.labels.begins_label.Goals as goal

pub returns : goal.returns
returns c = c.is_at_any.ensures
