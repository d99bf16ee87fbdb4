use Rattle.std.proofs.Common.{sym, ap, subst, ◌∙◌}
use Rattle.alloc_audit.specs.Holdings.{holdings_of, view_at, room_in, all_given}
use Rattle.alloc_audit.specs.Moving.{HasMoved}
use Rattle.alloc_audit.proofs.Lines.{moves_made}
use Rattle.alloc_audit.proofs.walk.Walk.make_moves.Goals as goal

pub returns : goal.returns
returns c = λ ops named le.
    let m = subst (HasMoved (room_in c.args.values c.args.self.now) (view_at (holdings_of c.args.self.now)) c.args.moves.now) c.in-Some.is c.in_ok-given.ensures in
    moves_made c.args.values ops named c.args.moves.now c.in-Some.given.items c.args.self.now c.give_all.new.self (sym c.in_ok-are_distinct.ensures ∙ c.if-not-branch.false) m.0 m.1
    (c.in_ok-give_all.ensures.holdings ∙ ap (λ vs. all_given c.args.moves.now vs (holdings_of c.args.self.now)) c.as_slice.ensures.value) c.in_ok-give_all.ensures.next c.in_ok-give_all.ensures.used le
