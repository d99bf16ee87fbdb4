use Rattle.std.proofs.Common.{◌≡◌, List, ℕ, Option, None, refl, ap, sym, ◌∙◌}
use Rattle.ob_types.specs.Table.{Table}
use Rattle.ob_judge.specs.Operands as J
use Rattle.check_types.specs.names.Worlds.{table_of}
use Rattle.check_operands.specs.declared.operand.What.{What}
use Rattle.check_operands.specs.declared.operand.What.TheVariants as TheWhat
use Rattle.check_operands.specs.Operands.{what_image, outlined_what, texts_of, bases_of}
use Rattle.check_expressions.specs.constants.Constants.{chars_in}
use Rattle.check_expressions.proofs.constants.constants.text_number.Goals as goal

outlined_chars : (bases : List (Option ℕ)) (w : J.What) → chars_in (outlined_what bases w) ≡ chars_in w
outlined_chars bases (J.Named d) = refl
outlined_chars bases (J.Valued x) = refl
outlined_chars bases (J.Chars cs) = refl
outlined_chars bases (J.Code f l) = refl
outlined_chars bases (J.Proper d) = refl

no_chars : (t : Table) (texts : List (List ℕ)) (w : What) → ((k : ℕ) → w ≡ TheWhat.Chars k → ⊥) → None ≡ chars_in (what_image t texts w)
no_chars t texts (TheWhat.Chars k) h = absurd (h k refl)
no_chars t texts w h = refl

pub returns-in-Chars : goal.returns-in-Chars
returns-in-Chars c = λ w is.
    let s = c.args.scope.now in
    sym (ap (λ x. chars_in (what_image (table_of s) (texts_of s) x)) c.in-Chars.is) ∙ ap chars_in is ∙ outlined_chars (bases_of s) w

pub returns-in_default : goal.returns-in_default
returns-in_default c = λ w is.
    let s = c.args.scope.now in
    no_chars (table_of s) (texts_of s) c.args.what.now c.in_default.not-Chars ∙ ap chars_in is ∙ outlined_chars (bases_of s) w
