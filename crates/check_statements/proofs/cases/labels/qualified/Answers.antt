use Rattle.std.proofs.Common.{ap, sym}
use Rattle.ob_judge.specs.Names.{qualified}
use Rattle.check_types.proofs.steps.Answering.{as_judged}
use Rattle.check_types.specs.names.Worlds.{world_of}
use Rattle.check_statements.proofs.cases.labels.qualified.Goals as goal

pub returns : goal.returns
returns c = as_judged (ap (qualified c.args.scope.now.source.now (world_of c.args.scope.now) c.args.tree.now.name) (sym c.member_symbol.ensures)) c.qualified.ensures
