use Rattle.std.proofs.Common.{◌≡◌, ◌++◌, ◌∷◌, [], sym, ap, ◌∙◌, subst, w64}
use Rattle.std.specs.List.{filter}
use Rattle.std.proofs.lemmas.Int.{to_z-of_z}
use Rattle.check_statements.specs.ranges.Ranges.{last_within}
use Rattle.check_statements.proofs.ranges.Apart.{is_within, none_is, last_is}
use Rattle.check_statements.proofs.ranges.ranges.LabelRanges.last_end.Goals as goal

pub returns-in-None : goal.returns-in-None
returns-in-None c = sym (none_is c.args.high c.self.inside.ranges.entries
    (subst (λ n. filter (is_within n) c.self.inside.ranges.entries ≡ []) (to_z-of_z w64 c.args.high c.ranges.high) (sym (c.range.ensures.between tt) ∙ c.in-None.ensures.steps.0))) ∙ ap (last_within c.args.high) c.self.view_is

pub returns-in-Some : goal.returns-in-Some
returns-in-Some c = sym (last_is c.args.high c.self.inside.ranges.entries c.next_back.new.self (c.in-Some.field-0-0.now, c.in-Some.end.now)
    (subst (λ n. filter (is_within n) c.self.inside.ranges.entries ≡ c.next_back.new.self ++ (c.in-Some.field-0-0.now, c.in-Some.end.now) ∷ []) (to_z-of_z w64 c.args.high c.ranges.high) (sym (c.range.ensures.between tt) ∙ c.in-Some.ensures.steps))) ∙ ap (last_within c.args.high) c.self.view_is
