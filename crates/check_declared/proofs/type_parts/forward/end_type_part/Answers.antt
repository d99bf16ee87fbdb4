use Rattle.std.proofs.Common.{false, refl}
use Rattle.check_making.proofs.parameters.Updates.{settled_changed, makes_changed}
use Rattle.check_declared.proofs.type_parts.forward.end_type_part.Goals as goal

pub returns-clause-settled : goal.returns-clause-settled
returns-clause-settled c =
    let s = c.args.state.now in
    settled_changed c.args.round.now s s.standing s.forward false s.values c.requires

pub returns-clause-makes : goal.returns-clause-makes
returns-clause-makes c = λ m makes.
    let s = c.args.state.now in
    makes_changed c.args.round.now s s.standing s.forward false s.values m makes m.standing m.forward false m.values makes.standing makes.forward refl makes.values
