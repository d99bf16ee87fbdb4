use Rattle.html_text.proofs.Staying.{escaped_is_text, joined_is_text, text_is_harmless}
use Rattle.html_text.proofs.laws.escaped_is_text.Goals as goal

pub returns-clause-escaped : goal.returns-clause-escaped
returns-clause-escaped c = escaped_is_text

pub returns-clause-joined : goal.returns-clause-joined
returns-clause-joined c = joined_is_text

pub returns-clause-harmless : goal.returns-clause-harmless
returns-clause-harmless c = text_is_harmless
