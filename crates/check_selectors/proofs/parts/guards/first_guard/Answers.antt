use Rattle.std.proofs.Common.{◌≡◌, List, ℕ, sym, subst}
use Rattle.check_selectors.specs.parts.Parts.{IsGuardedForm}
use Rattle.check_selectors.proofs.parts.Reached.{named_form}
use Rattle.check_selectors.proofs.parts.guards.first_guard.Goals as goal

pub returns : goal.returns
returns c = λ a h n. c.further_guard.ensures a (subst (λ (l : List ℕ). IsGuardedForm c.args.scope.now c.args.place c.args.own l a) (sym c.new.ensures) (named_form c.args.scope.now c.args.place c.args.own a h n))
