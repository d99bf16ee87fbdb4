use Rattle.std.proofs.Common.{refl, ap, ◌∙◌, length, ◌-◌, arith}
use Rattle.check_making.proofs.Known.{as_declared, as_offered}
use Rattle.check_making.proofs.scopes.Names.{settled_named, named_made}
use Rattle.check_making.proofs.scopes.naming.declare_procedure.Goals as goal

pub returns-clause-settled : goal.returns-clause-settled
returns-clause-settled c =
    let s = c.args.state.now in
    let named = c.requires.typed in
    settled_named c.args.round.now s c.requires.settled c.args.ident.now c.args.number c.args.signature c.args.is_local named c.declare_in.new.levels c.offer.new.objects
    (as_declared s.levels.items c.declare_in.new.levels.items _ _ _ _ _ _ _ (c.outer-at.ensures ∙ ap (λ ls. length ls - 2) c.deref.ensures.value) c.spelled-name.ensures c.is_some.ensures c.in_ok-declare_in.ensures)
    (c.in_ok-offer.ensures ∙ as_offered s.objects.items _ _ _ _ _ _ _ refl c.spelled-name.ensures c.is_some.ensures)
    (let o = c.requires.settled.open_scope in let w = c.requires.within in omega (arith, o, w))

pub returns-clause-judged : goal.returns-clause-judged
returns-clause-judged c = λ m makes.
    let s = c.args.state.now in
    named_made c.args.round.now s c.requires.settled c.args.ident.now c.args.number c.args.signature c.args.is_local c.requires.typed c.declare_in.new.levels c.offer.new.objects
    (as_declared s.levels.items c.declare_in.new.levels.items _ _ _ _ _ _ _ (c.outer-at.ensures ∙ ap (λ ls. length ls - 2) c.deref.ensures.value) c.spelled-name.ensures c.is_some.ensures c.in_ok-declare_in.ensures)
    (c.in_ok-offer.ensures ∙ as_offered s.objects.items _ _ _ _ _ _ _ refl c.spelled-name.ensures c.is_some.ensures)
    (let o = c.requires.settled.open_scope in let w = c.requires.within in omega (arith, o, w)) m makes
