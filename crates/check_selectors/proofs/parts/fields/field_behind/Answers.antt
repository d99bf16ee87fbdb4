use Rattle.check_selectors.proofs.parts.fields.field_behind.Goals as goal

pub returns : goal.returns
returns c = λ a h. c.field_in.ensures _ (c.in_ok-target.ensures a h).by
