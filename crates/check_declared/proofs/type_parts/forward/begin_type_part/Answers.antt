use Rattle.std.proofs.Common.{[], true, refl, sym, ap, map}
use Rattle.check_making.specs.Making.{forward_of}
use Rattle.check_making.proofs.parameters.Updates.{settled_changed, makes_changed}
use Rattle.check_declared.proofs.type_parts.forward.begin_type_part.Goals as goal

pub returns-clause-settled : goal.returns-clause-settled
returns-clause-settled c =
    let s = c.args.state.now in
    settled_changed c.args.round.now s s.standing c.new.result true s.values c.requires

pub returns-clause-makes : goal.returns-clause-makes
returns-clause-makes c = λ m makes.
    let s = c.args.state.now in
    makes_changed c.args.round.now s s.standing c.new.result true s.values m makes m.standing [] true m.values makes.standing (sym (ap (map forward_of) c.new.ensures.items)) refl makes.values
