use Rattle.std.proofs.Common.{refl, sym, ◌∙◌}
use Rattle.ob_types.specs.Meaning.{at_most}
use Rattle.eval_at_once.specs.Here.{here_of}
use Rattle.eval_tasks.specs.Tasks.{performs_all}
use Rattle.eval_tasks.specs.Weights.{all_type_parts}
use Rattle.ob_eval.proofs.Falling.{falls_given, types_weigh}
use Rattle.ob_eval.proofs.Steps.{added_one}
use Rattle.ob_eval.proofs.Cases.{type_none, type_some}
use Rattle.ob_eval.proofs.machine.Machine.part_of.Goals as goal

pub returns-in-None-clause-went : goal.returns-in-None-clause-went
returns-in-None-clause-went c =
    let p = c.args.laid.now in
    let m = c.args.self.now in
    type_none p m c.args.parts.now c.args.found (c.in-None.ensures.part p (at_most p m.active.fuel) (here_of m.active) m.active.fuel m.world (sym c.types.ensures))

pub returns-in_ok-add-in-Some-clause-went : goal.returns-in_ok-add-in-Some-clause-went
returns-in_ok-add-in-Some-clause-went c =
    let p = c.args.laid.now in
    let m = c.args.self.now in
    added_one p m c.add.new.self _ (performs_all p c.in-Some.body.now) c.in_ok-add-in-Some.ensures.ok refl
    ∙ type_some p m c.args.parts.now c.args.found c.in-Some.body.now (c.in-Some.ensures.part p (at_most p m.active.fuel) (here_of m.active) m.active.fuel m.world (sym c.types.ensures))

pub returns-in-None-clause-falls : goal.returns-in-None-clause-falls
returns-in-None-clause-falls c = falls_given c.args.self.now c.args.self.now c.args.self.now.values (all_type_parts c.args.parts.now) refl (types_weigh c.args.parts.now)
