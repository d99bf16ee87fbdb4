use Rattle.std.proofs.Common.{ap, ◌∙◌, length, ◌-◌}
use Rattle.check_making.proofs.Known.{declared_made, settled_after, as_declared, as_offered, none_by}
use Rattle.check_making.proofs.making.Declaring.declare.Goals as goal

pub returns-clause-judged : goal.returns-clause-judged
returns-clause-judged c = λ m makes.
    let s = c.args.self.now in
    declared_made c.args.round.now s c.requires.settled c.args.ident.now c.args.named c.requires.stays c.requires.typed c.declare_in.new.levels c.offer.new.objects
    (as_declared s.levels.items c.declare_in.new.levels.items c.args.named _ _ _ _ _ _ (c.innermost-at.ensures ∙ ap (λ ls. length ls - 1) c.deref.ensures.value) c.spelled-name.ensures c.is_some.ensures c.in_ok-declare_in.ensures)
    (c.in_ok-offer.ensures ∙ as_offered s.objects.items c.args.named _ _ _ _ _ _ (none_by s.procedure c.is_none-of_module.result c.is_none-of_module.ensures) c.spelled-name.ensures c.is_some.ensures) m makes

pub returns-clause-settled : goal.returns-clause-settled
returns-clause-settled c =
    let s = c.args.self.now in
    settled_after c.args.round.now s c.requires.settled c.args.ident.now c.args.named c.requires.stays c.requires.typed c.declare_in.new.levels c.offer.new.objects
    (as_declared s.levels.items c.declare_in.new.levels.items c.args.named _ _ _ _ _ _ (c.innermost-at.ensures ∙ ap (λ ls. length ls - 1) c.deref.ensures.value) c.spelled-name.ensures c.is_some.ensures c.in_ok-declare_in.ensures)
    (c.in_ok-offer.ensures ∙ as_offered s.objects.items c.args.named _ _ _ _ _ _ (none_by s.procedure c.is_none-of_module.result c.is_none-of_module.ensures) c.spelled-name.ensures c.is_some.ensures)
