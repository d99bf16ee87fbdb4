use Rattle.note_commands.proofs.Once.{plan_once}
use Rattle.note_commands.proofs.laws.audits_come_to_one.Goals as goal

pub returns : goal.returns
returns c = plan_once c.texts_have_one_lowering.ensures c.texts_have_one_refusal_of_plans.ensures c.plans_exclude_refusals.ensures
