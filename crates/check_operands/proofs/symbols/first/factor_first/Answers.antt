use Rattle.std.proofs.Common.{sym, ap, ◌∙◌}
use Rattle.ob_syntax.specs.Plain.{plain_factor}
use Rattle.ob_syntax.specs.declared.expressions.Set.{out-Set}
use Rattle.ob_judge.specs.Symbols.{factor_first as first_of_factor}
use Rattle.check_operands.proofs.symbols.FirstSymbols.{set_first}
use Rattle.check_operands.proofs.symbols.first.factor_first.Goals as goal

pub returns-in-Int : goal.returns-in-Int
returns-in-Int c = ap (λ f. first_of_factor (plain_factor f)) (sym c.in-Int.is)

pub returns-in-Text : goal.returns-in-Text
returns-in-Text c = ap (λ f. first_of_factor (plain_factor f)) (sym c.in-Text.is)

pub returns-in-Char : goal.returns-in-Char
returns-in-Char c = ap (λ f. first_of_factor (plain_factor f)) (sym c.in-Char.is)

pub returns-in-Nil : goal.returns-in-Nil
returns-in-Nil c = ap (λ f. first_of_factor (plain_factor f)) (sym c.in-Nil.is)

pub returns-in-True : goal.returns-in-True
returns-in-True c = ap (λ f. first_of_factor (plain_factor f)) (sym c.in-True.is)

pub returns-in-False : goal.returns-in-False
returns-in-False c = ap (λ f. first_of_factor (plain_factor f)) (sym c.in-False.is)

pub returns-in-Set : goal.returns-in-Set
returns-in-Set c = ap (λ s. (out-Set s).left_brace) c.deref.ensures ∙ sym (set_first c.in-Set.set) ∙ ap (λ f. first_of_factor (plain_factor f)) (sym c.in-Set.is)

pub returns-in-Designator : goal.returns-in-Designator
returns-in-Designator c = ap (λ f. first_of_factor (plain_factor f)) (sym c.in-Designator.is)

pub returns-in-Paren : goal.returns-in-Paren
returns-in-Paren c = ap (λ f. first_of_factor (plain_factor f)) (sym c.in-Paren.is)

pub returns-in-Not : goal.returns-in-Not
returns-in-Not c = ap (λ f. first_of_factor (plain_factor f)) (sym c.in-Not.is)
