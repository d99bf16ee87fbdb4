use Rattle.check_making.proofs.scopes.building.blank.Goals as goal

pub returns : goal.returns
returns c = cc (c.new.ensures, c.new-2.ensures, c.new-3.ensures, c.new-4.ensures)
