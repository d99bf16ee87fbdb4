use Rattle.std.proofs.Common.{◌≡◌, List, [], ◌∷◌, sym, ap, ◌∙◌, subst}
use Rattle.std.proofs.lemmas.List.{nil_from_length}
use Rattle.ob_judge.specs.Scopes.{place}
use Rattle.ob_judge.specs.Calls as J
use Rattle.check_types.specs.names.Meaning.{standard_of}
use Rattle.check_types.specs.names.Worlds.{world_of}
use Rattle.check_types.proofs.steps.Answering.{as_judged}
use Rattle.check_operands.specs.calls.Given.{AreGiven}
use Rattle.check_operands.specs.declared.calls.arguments.Given.{Given}
use Rattle.check_operands.proofs.calls.Binding.{first_given, none_given}
use Rattle.check_selectors.proofs.standard.table.standard.Goals as goal

pub returns-in-None : goal.returns-in-None
returns-in-None c = λ xs h.
    let s = c.args.scope.now in
    let none : c.args.given.items ≡ [] = sym c.into_iter-rest.ensures.rest ∙ nil_from_length _ (sym c.into_iter-rest.result.rest.ok.0 ∙ c.in-None.ensures.cases.0) in
    as_judged (ap (J.standard (world_of s) (place s.source.now c.args.symbol) (standard_of c.args.s)) (none_given s xs (subst (λ (l : List Given). AreGiven s l xs) none h)))
    c.of_none.ensures

pub returns-in-None-next : goal.returns-in-None-next
returns-in-None-next c = λ xs h.
    let s = c.args.scope.now in
    let f = first_given s c.in-Some.x _ xs (subst (λ (l : List Given). AreGiven s l xs) (sym c.into_iter-rest.ensures.rest ∙ c.in-Some.ensures.items) h) in
    let none = nil_from_length _ (sym c.next.new.self.rest.ok.0 ∙ c.in-None-next.ensures.cases.0) in
    as_judged (ap (J.standard (world_of s) (place s.source.now c.args.symbol) (standard_of c.args.s)) (f.is ∙ ap (λ l. f.first ∷ l) (none_given s f.others (subst (λ (l : List Given). AreGiven s l f.others) none f.rests))))
    (c.of_one.ensures f.first f.given)

pub returns-in-None-next-2 : goal.returns-in-None-next-2
returns-in-None-next-2 c = λ xs h.
    let s = c.args.scope.now in
    let f = first_given s c.in-Some.x _ xs (subst (λ (l : List Given). AreGiven s l xs) (sym c.into_iter-rest.ensures.rest ∙ c.in-Some.ensures.items) h) in
    let g = first_given s c.in-Some-next.y _ f.others (subst (λ (l : List Given). AreGiven s l f.others) c.in-Some-next.ensures.items f.rests) in
    let none = nil_from_length _ (sym c.next-in-Some.new.self.rest.ok.0 ∙ c.in-None-next-2.ensures.cases.0) in
    as_judged (ap (J.standard (world_of s) (place s.source.now c.args.symbol) (standard_of c.args.s))
    (f.is ∙ ap (λ l. f.first ∷ l) (g.is ∙ ap (λ l. g.first ∷ l) (none_given s g.others (subst (λ (l : List Given). AreGiven s l g.others) none g.rests)))))
    (c.of_two.ensures f.first g.first f.given g.given)
