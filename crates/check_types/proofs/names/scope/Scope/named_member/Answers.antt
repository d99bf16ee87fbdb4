use Rattle.std.proofs.Common.{ap, sym}
use Rattle.ob_judge.specs.Names.{member_of_object}
use Rattle.check_types.proofs.steps.Answering.{goes_on, stop, exit, as_judged}
use Rattle.check_types.specs.names.Worlds.{world_of}
use Rattle.check_types.proofs.names.scope.Scope.named_member.Goals as goal

pub returns : goal.returns
returns c = goes_on _ _ c.in_ok-named.ensures (λ a h. as_judged (ap (member_of_object c.args.self.now.source.now (world_of c.args.self.now) c.args.name c.args.i) (sym h)) c.member_of.ensures)

pub returns-in_err-named : goal.returns-in_err-named
returns-in_err-named c = exit _ c.from_residual.ensures.1 (stop _ _ c.in_err-named.ensures)
