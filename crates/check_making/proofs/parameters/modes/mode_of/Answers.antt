use Rattle.std.proofs.Common.{◌≡◌, ℕ, true, false, refl, sym, ap, ◌∙◌}
use Rattle.ob_types.specs.Table.{Table}
use Rattle.ob_types.specs.declared.types.Mode.TheVariants as TheMode
use Rattle.ob_judge.specs.Parameters.{mode_of as judged_mode}
use Rattle.check_types.specs.declared.types.TypeRef.{TypeRef}
use Rattle.check_types.specs.declared.types.TypeRef.TheVariants as TheType
use Rattle.check_types.specs.TypeMeaning.{type_shape}
use Rattle.check_making.proofs.parameters.modes.mode_of.Goals as goal

variable_mode : (t : Table) (k : TypeRef) → ((n : ℕ) → k ≡ TheType.Open n → ⊥) → ((n : ℕ) → k ≡ TheType.Record n → ⊥) → judged_mode true (type_shape t k) ≡ TheMode.Place
variable_mode t (TheType.Open n) o r = absurd (o n refl)
variable_mode t (TheType.Record n) o r = absurd (r n refl)
variable_mode t k o r = refl

value_mode : (t : Table) (k : TypeRef) → ((n e : ℕ) → k ≡ TheType.Array n e → ⊥) → ((n : ℕ) → k ≡ TheType.Open n → ⊥) → ((n : ℕ) → k ≡ TheType.Record n → ⊥)
    → judged_mode false (type_shape t k) ≡ TheMode.Value
value_mode t (TheType.Array n e) a o r = absurd (a n e refl)
value_mode t (TheType.Open n) a o r = absurd (o n refl)
value_mode t (TheType.Record n) a o r = absurd (r n refl)
value_mode t k a o r = refl

pub returns-in-Open : goal.returns-in-Open
returns-in-Open c = λ t. sym (ap (λ k. judged_mode c.args.variable (type_shape t k)) c.in-Open.is)

pub returns-then-variable : goal.returns-then-variable
returns-then-variable c = λ t. sym (ap (λ b. judged_mode b (type_shape t c.args.of)) c.if-variable.true ∙ ap (λ k. judged_mode true (type_shape t k)) c.in-Record.is)

pub returns-else-variable : goal.returns-else-variable
returns-else-variable c = λ t. sym (ap (λ b. judged_mode b (type_shape t c.args.of)) c.if-variable.false ∙ ap (λ k. judged_mode false (type_shape t k)) c.in-Record.is)

pub returns-then-variable-2 : goal.returns-then-variable-2
returns-then-variable-2 c = λ t. sym (ap (λ b. judged_mode b (type_shape t c.args.of)) c.if-variable-2.true ∙ variable_mode t c.args.of c.in_default.not-Open c.in_default.not-Record)

pub returns-else-variable-2 : goal.returns-else-variable-2
returns-else-variable-2 c = λ t. sym (ap (λ b. judged_mode b (type_shape t c.args.of)) c.if-variable-2.false ∙ value_mode t c.args.of c.in_default.not-Array c.in_default.not-Open c.in_default.not-Record)
