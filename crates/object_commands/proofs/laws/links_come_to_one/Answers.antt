use Rattle.object_commands.proofs.Once.{link_once}
use Rattle.object_commands.proofs.laws.links_come_to_one.Goals as goal

pub returns : goal.returns
returns c = link_once c.texts_have_one_lowering.ensures c.texts_have_one_refusal_of_plans.ensures c.plans_exclude_refusals.ensures
