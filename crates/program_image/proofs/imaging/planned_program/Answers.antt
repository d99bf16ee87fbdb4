use Rattle.std.proofs.Common.{refl, sym, subst}
use Rattle.ssa_lowered.specs.Lowered.{lowered}
use Rattle.ssa_build.proofs.Limits.{all_within}
use Rattle.program_image.specs.Faults.{Tells}
use Rattle.program_image.specs.Tasks.{flows_from}
use Rattle.program_image.proofs.Telling.{constants_tell, imaging_tells, procedures_tell}
use Rattle.program_image.proofs.imaging.planned_program.Goals as goal

pub returns-in-Err-clause-limit : goal.returns-in-Err-clause-limit
returns-in-Err-clause-limit g c =
    let choice = c.args.choice.now in
    let p = c.args.program.now in
    subst (Tells choice p) (sym c.of_lowering.ensures) (procedures_tell choice p c.in-Err.fault c.requires.first c.in-Err.ensures.limit)

pub returns-in-Err-check_constants-clause-limit : goal.returns-in-Err-check_constants-clause-limit
returns-in-Err-check_constants-clause-limit g c =
    let choice = c.args.choice.now in
    let p = c.args.program.now in
    subst (Tells choice p) (sym c.of_lowering-in-Err-check_constants.ensures) (constants_tell choice p c.in-Err-check_constants.fault c.requires.first c.in-Ok.ensures.made.within c.in-Err-check_constants.ensures.limit)

pub returns-in-Ok-plan_outcomes-clause-planned : goal.returns-in-Ok-plan_outcomes-clause-planned
returns-in-Ok-plan_outcomes-clause-planned g c =
    let p = c.args.program.now in
    let made = c.in-Ok.ensures.made in
    record {
      are = c.in-Ok-plan_outcomes.ensures.planned (flows_from p 0 p.procedures) made.are;
      within = all_within p c.requires.first made.within c.in-Ok-check_constants.ensures.within;
      short = made.short;
      numbers = made.numbers;
    }

pub returns-in-Err-plan_outcomes-clause-limit : goal.returns-in-Err-plan_outcomes-clause-limit
returns-in-Err-plan_outcomes-clause-limit g c =
    let choice = c.args.choice.now in
    let p = c.args.program.now in
    let made = c.in-Ok.ensures.made in
    let told = c.in-Err-plan_outcomes.ensures in
    subst (Tells choice p) (sym c.of_imaging.ensures)
    (imaging_tells choice p (all_within p c.requires.first made.within c.in-Ok-check_constants.ensures.within) (lowered p) refl c.in-Err-plan_outcomes.fault (told.traces (flows_from p 0 p.procedures) made.are) (λ e. absurd (told.code e)))
