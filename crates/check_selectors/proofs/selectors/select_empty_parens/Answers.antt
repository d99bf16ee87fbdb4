use Rattle.std.proofs.Common.{List, [], sym, subst}
use Rattle.check_types.proofs.steps.Answering.{goes_on, stop, exit, as_judged}
use Rattle.ob_judge.specs.Scopes.{place}
use Rattle.check_operands.specs.declared.calls.arguments.Given.{Given}
use Rattle.check_operands.specs.calls.Given.{AreGiven}
use Rattle.check_types.specs.names.Meaning.{standard_of}
use Rattle.check_types.specs.names.Worlds.{world_of}
use Rattle.check_selectors.proofs.Selecting.{empty_standard_is, empty_is}
use Rattle.check_selectors.proofs.selectors.select_empty_parens.Goals as goal

pub returns-in-Some : goal.returns-in-Some
returns-in-Some c = λ a l r h.
    let s = c.args.scope.now in
    as_judged (empty_standard_is s.source.now (world_of s) (place s.source.now c.args.symbol) a (standard_of c.in-Some.s) l r (c.in-Some.ensures a h))
    (c.standard_last.ensures [] (subst (λ (xs : List Given). AreGiven s xs []) (sym c.new.ensures.items) tt))

pub returns-in_ok-x-in-None : goal.returns-in_ok-x-in-None
returns-in_ok-x-in-None c = λ a l r h.
    let s = c.args.scope.now in
    as_judged (empty_is s.source.now (world_of s) (place s.source.now c.args.symbol) a l r (c.in-None.ensures a h))
    (goes_on _ _ (c.in_ok-x-in-None.ensures a h) (λ x k. c.called_last.ensures x [] k (subst (λ (xs : List Given). AreGiven s xs []) (sym c.new-in-None.ensures.items) tt)))
