use Rattle.std.proofs.Common.{sym, ap, subst}
use Rattle.std.specs.Prelude.{OnOk, option_to_list}
use Rattle.global_live.specs.Search.{marks_of, Reaches}
use Rattle.global_live.proofs.Filled.{reaches_none}
use Rattle.global_live.proofs.search.Search.follow_result.Goals as goal

pub returns-in-Some : goal.returns-in-Some
returns-in-Some c = subst (λ vs. OnOk c.follow.result (Reaches c.args.flow.now c.args.makers.now c.args.number vs (marks_of c.args.self.now) (marks_of c.follow.new.self))) (ap option_to_list (sym c.in-Some.is)) c.follow.ensures

pub returns-in-None : goal.returns-in-None
returns-in-None c = subst (λ vs. Reaches c.args.flow.now c.args.makers.now c.args.number vs (marks_of c.args.self.now) (marks_of c.args.self.now)) (ap option_to_list (sym c.in-None.is)) (reaches_none c.args.flow.now c.args.makers.now c.args.number (marks_of c.args.self.now))
