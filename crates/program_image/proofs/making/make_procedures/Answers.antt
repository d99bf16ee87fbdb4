use Rattle.program_image.proofs.Ready.{few_procedures}
use Rattle.program_image.proofs.making.make_procedures.Goals as goal

pub tasks_of-requires-clause-few : goal.tasks_of-requires-clause-few
tasks_of-requires-clause-few g c κs lived = few_procedures c.args.program.now c.requires.first

pub returns-clause-made : goal.returns-clause-made
returns-clause-made g c = c.outcomes_of.ensures.made c.args.choice.now c.args.program.now c.in-Ok.ensures

pub returns-clause-limit : goal.returns-clause-limit
returns-clause-limit g c = c.outcomes_of.ensures.limit c.args.choice.now c.args.program.now c.in-Ok.ensures
