use Rattle.std.proofs.Common.{List, sym, subst}
use Rattle.legal_tables.specs.Promised.{HasLegalTypes}
use Rattle.check_making.specs.declared.making.Declaring.{Declaring}
use Rattle.check_making.specs.Making.{IsSettled}
use Rattle.check_making.specs.scopes.Building.{IsLater}
use Rattle.check_bodies.specs.declared.body.Body.{Body}
use Rattle.check_bodies.specs.Settled.{AreJudged}
use Rattle.check_bodies.proofs.Turning.{between_there, comes_to}
use Rattle.check_bodies.proofs.turns.judge_turn.Goals as goal

pub returns-clause-judged : goal.returns-clause-judged
returns-clause-judged g c = λ k m names represents between.
    let r = c.args.round.now in
    let s = c.put_off_all.new.state in
    let w = c.in-Ok.ensures.walked k m names represents between in
    let judged = subst (λ (bs : List Body). AreJudged r s.declaring bs c.in_ok-judged.judged.items) c.deref.ensures.value c.in_ok-judged.ensures in
    comes_to r k m names c.args.trees.now s c.fill_all.new.state c.in-Ok.bodies.items between w (c.in_ok-fill_all.ensures.filled k w.names w.making w.waiting judged w.represents w.waits w.stands)

pub returns-clause-between : goal.returns-clause-between
returns-clause-between g c =
    let r = c.args.round.now in
    let b = c.requires.between in
    let s = c.put_off_all.new.state in
    let w = c.in-Ok.ensures.walked b.so_far b.making b.names b.represents b.between in
    let judged = subst (λ (bs : List Body). AreJudged r s.declaring bs c.in_ok-judged.judged.items) c.deref.ensures.value c.in_ok-judged.ensures in
    between_there r b.so_far b.making b.names c.args.trees.now s c.fill_all.new.state c.in-Ok.bodies.items b.between
    (subst (IsSettled r) (sym c.in_ok-fill_all.ensures.declaring) c.in-Ok.ensures.between.settled)
    (comes_to r b.so_far b.making b.names c.args.trees.now s c.fill_all.new.state c.in-Ok.bodies.items b.between w (c.in_ok-fill_all.ensures.filled b.so_far w.names w.making w.waiting judged w.represents w.waits w.stands))

pub returns-clause-later : goal.returns-clause-later
returns-clause-later g c = subst (λ (d : Declaring). IsLater c.args.state.now.declaring.types.table d.types.table) (sym c.in_ok-fill_all.ensures.declaring) c.in-Ok.ensures.later

pub returns-clause-legal : goal.returns-clause-legal
returns-clause-legal g c = λ k m names represents between l.
    subst (λ (d : Declaring). HasLegalTypes d.types.table) (sym c.in_ok-fill_all.ensures.declaring) (c.in-Ok.ensures.legal k m names represents between l)
