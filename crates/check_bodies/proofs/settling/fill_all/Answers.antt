use Rattle.std.proofs.Common.{◌∷◌, refl, sym, subst, ◌∙◌, rules}
use Rattle.std.specs.Prelude.{slice_set}
use Rattle.ob_judge.specs.Image.{Procedure as JudgedProcedure}
use Rattle.ob_judge.specs.Making.{Making}
use Rattle.judged_modules.specs.steps.Procedures.{plain_procedure}
use Rattle.later_bodies.specs.Waiting.{Waiting, with_procedures}
use Rattle.trace_pool.proofs.Finish.{nil_of}
use Rattle.check_making.specs.Making.{IsSettled}
use Rattle.check_making.specs.declared.making.Declaring.{Declaring}
use Rattle.check_making.specs.scopes.Building.{Represents}
use Rattle.check_procedures.specs.Completing.{IsBody, IsCompleted}
use Rattle.check_bodies.specs.Settled.{AllFit}
use Rattle.check_bodies.specs.Waits.{Waits}
use Rattle.check_bodies.proofs.Filling.{FilledSoFar, all_fit_on, none_filled, one_filled, all_filled}
use Rattle.check_bodies.proofs.settling.fill_all.Goals as goal

pub fill_in-requires-clause-settled : goal.fill_in-requires-clause-settled
fill_in-requires-clause-settled c = subst (λ d. IsSettled c.args.round.now d) (sym c.loop-body.invariant.declaring) c.requires.settled

pub fill_in-requires-clause-fits : goal.fill_in-requires-clause-fits
fill_in-requires-clause-fits c = (subst (AllFit c.loop-body.state) c.in-Some.ensures.steps.0 c.loop-body.invariant.fit).0

pub loop-body-init : goal.loop-body-init
loop-body-init c =
    let bodies = c.into_iter-body-iterator.ensures.into_iter_gives.0 in
    record {
      declaring = refl;
      length = refl;
      fit = subst (AllFit c.args.state.now) (sym bodies) c.requires.fit;
      filled = λ k names m ws judged represents waits stands.
          subst (λ bs. FilledSoFar c.args.round.now c.args.state.now.declaring k names m c.args.bodies.items ws c.args.state.now bs c.into_iter-rest.result.rest.items) (sym bodies)
          (subst (λ ns. FilledSoFar c.args.round.now c.args.state.now.declaring k names m c.args.bodies.items ws c.args.state.now c.args.bodies.items ns) (sym c.into_iter-rest.ensures.rest)
          (none_filled c.args.round.now c.args.state.now.declaring k names m c.args.bodies.items ws c.args.state.now c.args.judged.items represents.makes judged represents waits stands));
    }

pub loop-body-preserved : goal.loop-body-preserved
loop-body-preserved c =
    let r = c.args.round.now in
    let s = c.args.state.now.declaring in
    let i = c.loop-body.invariant in
    let b = c.in-Some.body in
    let n = c.in-Some-next.numbered in
    let bs = c.next.new.self.rest.items in
    let ns = c.next-in-loop-body.new.self.rest.items in
    let fills = subst (λ (d : Declaring). (w : Waiting) (x : Making) (j : JudgedProcedure) → Waits d b w → IsCompleted r d.types.table (plain_procedure b.tree.now) w.heading w.inner j
    → IsBody r.source.now (plain_procedure b.tree.now) w.heading w.inner d.types.table n j → Represents r c.loop-body.state x → Represents r c.fill_in.new.state (with_procedures (slice_set x.procedures w.number j) x)) i.declaring c.fill_in.ensures.filled in
    record {
      declaring = c.fill_in.ensures.declaring ∙ i.declaring;
      length = c.fill_in.ensures.length ∙ i.length;
      fit = all_fit_on c.loop-body.state c.fill_in.new.state c.fill_in.ensures.declaring c.fill_in.ensures.length bs ((subst (AllFit c.loop-body.state) c.in-Some.ensures.steps.0 i.fit).1);
      filled = λ k names m ws judged represents waits stands.
          one_filled r s k names m c.args.bodies.items ws c.loop-body.state c.fill_in.new.state b n bs ns fills
          (subst (λ ys. FilledSoFar r s k names m c.args.bodies.items ws c.loop-body.state (b ∷ bs) ys) c.in-Some-next.ensures.items
          (subst (λ xs. FilledSoFar r s k names m c.args.bodies.items ws c.loop-body.state xs c.loop-body.rest.rest.items) c.in-Some.ensures.steps.0 (i.filled k names m ws judged represents waits stands)));
    }

pub returns-clause-filled : goal.returns-clause-filled
returns-clause-filled c = λ k names m ws judged represents waits stands.
    let r = c.args.round.now in
    let s = c.args.state.now.declaring in
    let none = nil_of c.loop-body.body-iterator.rest.items c.loop-body.body-iterator.rest.len (search rules) c.in-None.ensures.steps.0 in
    all_filled r s k names m c.args.bodies.items ws c.loop-body.state c.loop-body.rest.rest.items
    (subst (λ xs. FilledSoFar r s k names m c.args.bodies.items ws c.loop-body.state xs c.loop-body.rest.rest.items) none (c.loop-body.invariant.filled k names m ws judged represents waits stands))
