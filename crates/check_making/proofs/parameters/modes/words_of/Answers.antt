use Rattle.std.proofs.Common.{◌≡◌, ℕ, Bool, true, false, refl, sym, ap, ◌∙◌}
use Rattle.ob_types.specs.Table.{Table}
use Rattle.ob_judge.specs.Parameters.{words_of as judged_words}
use Rattle.check_types.specs.declared.types.TypeRef.{TypeRef}
use Rattle.check_types.specs.declared.types.TypeRef.TheVariants as TheType
use Rattle.check_types.specs.TypeMeaning.{type_shape}
use Rattle.check_making.proofs.parameters.modes.words_of.Goals as goal

-- other types take one word
one_word : (t : Table) (v : Bool) (k : TypeRef) → ((n : ℕ) → k ≡ TheType.Open n → ⊥) → ((n : ℕ) → k ≡ TheType.Record n → ⊥) → 1 ≡ judged_words v (type_shape t k)
one_word t v (TheType.Open n) o r = absurd (o n refl)
one_word t v (TheType.Record n) o r = absurd (r n refl)
one_word t v k o r = refl

pub returns-in-Open : goal.returns-in-Open
returns-in-Open c = λ t. sym (ap (λ k. judged_words c.args.variable (type_shape t k)) c.in-Open.is)

pub returns-then-variable : goal.returns-then-variable
returns-then-variable c = λ t. sym (ap (λ b. judged_words b (type_shape t c.args.of)) c.if-variable.true ∙ ap (λ k. judged_words true (type_shape t k)) c.in-Record.is)

pub returns-else-variable : goal.returns-else-variable
returns-else-variable c = λ t. sym (ap (λ b. judged_words b (type_shape t c.args.of)) c.if-variable.false ∙ ap (λ k. judged_words false (type_shape t k)) c.in-Record.is)

pub returns-in_default : goal.returns-in_default
returns-in_default c = λ t. one_word t c.args.variable c.args.of c.in_default.not-Open c.in_default.not-Record
