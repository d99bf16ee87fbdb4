use Rattle.std.proofs.Common.{◌+◌, ◌*◌, ◌-◌, ℕ, refl, sym, ap, subst, ◌∙◌}
use Rattle.image_file.specs.declared.fault.ImageFault.{ImageFault}
use Rattle.image_file.specs.Rules.{first_of, is_next, place_rules, Refuses}
use Rattle.image_file.proofs.Kept.{passed_on}
use Rattle.image_file.proofs.Places.{place_passed, place_refused}
use Rattle.image_file.proofs.rules.check_places.Goals as goal

pub returns-in_err-rule-clause-broken : goal.returns-in_err-rule-clause-broken
returns-in_err-rule-clause-broken c = λ e is.
    let bytes = c.args.bytes.now in
    let at = c.args.from + 12 * c.loop-i.i in
    let told = c.in_err-rule.ensures.broken c.in_err-rule.field-0.0 refl in
    let tests = ap (λ (w : ℕ). is_next c.args.words c.loop-i.least w) (sym c.number_at-word.ensures) ∙ sym c.is_next.ensures ∙ told.0 in
    let first = c.loop-i.invariant ∙ place_refused bytes c.args.words c.args.from c.loop-i.least c.args.count c.loop-i.i c.loop-i-test.true tests in
    passed_on c.from_residual.result c.in_err-rule.field-0.0 e (λ x. Refuses x (first_of (place_rules bytes c.args.words c.args.from 0 c.args.count))) c.from_residual.ensures.1 is
    (subst (λ (x : ImageFault). Refuses x (first_of (place_rules bytes c.args.words c.args.from 0 c.args.count))) (sym told.1) first)

pub loop-i-preserved : goal.loop-i-preserved
loop-i-preserved c =
    let bytes = c.args.bytes.now in
    let tests = ap (λ (w : ℕ). is_next c.args.words c.loop-i.least w) (sym c.number_at-word.ensures) ∙ sym c.is_next.ensures ∙ c.in_ok-rule.ensures.kept in
    c.loop-i.invariant ∙ place_passed bytes c.args.words c.args.from c.loop-i.least c.args.count c.loop-i.i c.loop-i-test.true tests
    ∙ ap (λ (w : ℕ). first_of (place_rules bytes c.args.words (c.args.from + 12 * (c.loop-i.i + 1)) (w + 1) (c.args.count - (c.loop-i.i + 1)))) (sym c.number_at-word.ensures)
