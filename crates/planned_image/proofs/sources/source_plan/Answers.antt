use Rattle.std.proofs.Common.{sym, subst}
use Rattle.image_words.specs.source_image.Refusals.{IsRefusalOf}
use Rattle.planned_image.specs.Plans.{TellsOfPlan}
use Rattle.planned_image.proofs.Refused.{program_refused}
use Rattle.planned_image.proofs.sources.source_plan.Goals as goal

pub returns-clause-refused : goal.returns-clause-refused
returns-clause-refused c =
    let builder = c.args.builder in
    let texts = c.args.texts.now in
    subst (IsRefusalOf (TellsOfPlan builder) texts) (sym c.refused_program.ensures)
    (program_refused builder texts c.in-Ok.program c.in-Ok.ensures.program c.in-Ok.ensures.well_formed c.in-Err-program_plan.fault c.in-Err-program_plan.ensures.limit)
