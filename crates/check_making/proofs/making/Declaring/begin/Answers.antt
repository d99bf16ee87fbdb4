use Rattle.check_making.proofs.First.{first_settled}
use Rattle.check_making.proofs.making.Declaring.begin.Goals as goal
use Rattle.std.proofs.Common.{◌∙◌, ap, ◌++◌, ◌∷◌, []}

pub returns-clause-settled : goal.returns-clause-settled
returns-clause-settled c =
    first_settled c.args.round.now _ (record { names = c.new.result }) c.requires.outermost c.new.ensures.empty c.requires.built c.requires.modules
    (c.in_ok-push.ensures.items ∙ ap (λ ls. ls ++ record { names = c.new.result } ∷ []) c.new-levels.ensures.items) c.new-4.ensures.items c.new-5.ensures.items c.requires.places c.requires.own_text
