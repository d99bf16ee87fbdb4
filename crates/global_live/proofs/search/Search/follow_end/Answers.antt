use Rattle.std.proofs.Common.{◌∙◌, sym, ap, subst}
use Rattle.std.specs.Prelude.{OnOk}
use Rattle.block_runs.specs.Blocks.{end_uses}
use Rattle.global_live.specs.Search.{marks_of, Reaches}
use Rattle.global_live.proofs.Filled.{reaches_none}
use Rattle.global_live.proofs.search.Search.follow_end.Goals as goal

pub returns-in-Jump : goal.returns-in-Jump
returns-in-Jump c = subst (λ vs. OnOk c.follow.result (Reaches c.args.flow.now c.args.makers.now c.args.number vs (marks_of c.args.self.now) (marks_of c.follow.new.self))) (c.as_slice.ensures ∙ ap end_uses (sym c.in-Jump.is)) c.follow.ensures

pub returns-in-Branch : goal.returns-in-Branch
returns-in-Branch c = subst (λ vs. OnOk c.follow-in-Branch.result (Reaches c.args.flow.now c.args.makers.now c.args.number vs (marks_of c.args.self.now) (marks_of c.follow-in-Branch.new.self))) (ap end_uses (sym c.in-Branch.is)) c.follow-in-Branch.ensures

pub returns-in-Nonzero : goal.returns-in-Nonzero
returns-in-Nonzero c = subst (λ vs. OnOk c.follow-in-Nonzero.result (Reaches c.args.flow.now c.args.makers.now c.args.number vs (marks_of c.args.self.now) (marks_of c.follow-in-Nonzero.new.self))) (ap end_uses (sym c.in-Nonzero.is)) c.follow-in-Nonzero.ensures

pub returns-in-Return : goal.returns-in-Return
returns-in-Return c = subst (λ vs. OnOk c.follow_result.result (Reaches c.args.flow.now c.args.makers.now c.args.number vs (marks_of c.args.self.now) (marks_of c.follow_result.new.self))) (ap end_uses (sym c.in-Return.is)) c.follow_result.ensures

pub returns-in-Trap : goal.returns-in-Trap
returns-in-Trap c = subst (λ vs. Reaches c.args.flow.now c.args.makers.now c.args.number vs (marks_of c.args.self.now) (marks_of c.args.self.now)) (ap end_uses (sym c.in-Trap.is)) (reaches_none c.args.flow.now c.args.makers.now c.args.number (marks_of c.args.self.now))
