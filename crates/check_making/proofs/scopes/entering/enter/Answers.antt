use Rattle.std.proofs.Common.{◌∙◌, ap}
use Rattle.check_making.proofs.scopes.Scopes.{settled_opened, makes_opened}
use Rattle.check_making.proofs.scopes.entering.enter.Goals as goal

pub returns-clause-settled : goal.returns-clause-settled
returns-clause-settled c =
    settled_opened c.args.round.now c.args.state.now (record { names = c.new-3.result }) c.new-3.ensures.empty c.push.new.self c.in_ok-push.ensures.items
    c.replace.new.dest (ap (λ m. m.entries) c.replace.ensures.after ∙ c.new.ensures.empty) c.replace-2.new.dest (ap (λ v. v.items) c.replace-2.ensures.after ∙ c.new-2.ensures.items) c.args.procedure c.requires

pub returns-clause-makes : goal.returns-clause-makes
returns-clause-makes c = λ m makes.
    makes_opened c.args.round.now c.args.state.now (record { names = c.new-3.result }) c.new-3.ensures.empty c.push.new.self c.in_ok-push.ensures.items
    c.replace.new.dest (ap (λ m. m.entries) c.replace.ensures.after ∙ c.new.ensures.empty) c.replace-2.new.dest (ap (λ v. v.items) c.replace-2.ensures.after ∙ c.new-2.ensures.items) c.args.procedure m makes
