use Rattle.std.proofs.Common.{ap, sym, ◌∙◌, cond, Some}
use Rattle.std.specs.Str.{bytes_eq}
use Rattle.std.specs.Prelude.{is_some}
use Rattle.check_types.specs.steps.Maps.{at_bytes}
use Rattle.check_types.proofs.steps.Maps.{at_bytes_after}
use Rattle.check_making.proofs.OneName.{stand_refused, stand_settled, stand_made}
use Rattle.check_making.proofs.making.Declaring.stand.Goals as goal

pub returns-then-is_some-clause-judged : goal.returns-then-is_some-clause-judged
returns-then-is_some-clause-judged c = λ m makes.
    stand_refused c.args.round.now c.args.self.now m makes c.args.i c.fault.result c.fault.ensures
    (ap (λ q. is_some (at_bytes c.args.self.now.standing q)) (sym (c.in_ok-key.ensures.items ∙ c.spelled-name.ensures)) ∙ ap is_some (sym c.in_ok-before.ensures.old) ∙ sym c.is_some.ensures ∙ c.if-is_some.true)

pub returns-clause-judged : goal.returns-clause-judged
returns-clause-judged c = λ m makes.
    stand_made c.args.round.now c.args.self.now m makes c.args.i c.insert.new.self
    (ap (λ q. is_some (at_bytes c.args.self.now.standing q)) (sym (c.in_ok-key.ensures.items ∙ c.spelled-name.ensures)) ∙ ap is_some (sym c.in_ok-before.ensures.old) ∙ sym c.is_some.ensures ∙ c.if-is_some.false)
    (λ q. at_bytes_after c.in_ok-key.key.items c.args.self.now.standing c.insert.new.self _ c.in_ok-before.ensures.updates q
    ∙ ap (λ name. cond (bytes_eq name q) (Some c.args.i) (at_bytes c.args.self.now.standing q)) (c.in_ok-key.ensures.items ∙ c.spelled-name.ensures))

pub returns-clause-settled : goal.returns-clause-settled
returns-clause-settled c = stand_settled c.args.round.now c.args.self.now c.requires c.insert.new.self
