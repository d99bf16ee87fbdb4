use Rattle.std.proofs.Common.{ap}
use Rattle.ob_judge.specs.Types.{base_layout}
use Rattle.check_types.proofs.steps.Answering.{as_judged}
use Rattle.check_making.proofs.new_types.LayoutsSoFar.{begun_none}
use Rattle.check_making.proofs.new_types.layouts.begun.Goals as goal

pub returns-in-None : goal.returns-in-None
returns-in-None c = λ m makes.
    as_judged (ap (λ o. base_layout c.args.round.now.source.now o m.world) c.in-None.is) (record { by = begun_none c.args.state.now.types.table c.blank_layout.result c.blank_layout.ensures })

pub returns-in-Some : goal.returns-in-Some
returns-in-Some c = λ m makes. as_judged (ap (λ o. base_layout c.args.round.now.source.now o m.world) c.in-Some.is) (c.with_base.ensures m makes)
