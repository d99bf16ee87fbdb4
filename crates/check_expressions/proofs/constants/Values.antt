-- Constants from the operands that constant expressions come to.
use Rattle.std.proofs.Common.{◌≡◌, ℕ, List, true, Option, Some, None, option_map, Result, Ok, Err, refl, sym, ap, ◌∙◌, subst}
use Rattle.ob_types.proofs.Tests.{none_some, some_same}
use Rattle.ob_syntax.specs.Syntax as S
use Rattle.ob_judge.specs.Judged.{Judged, Keeps, Breaks, ◌>>=◌, some}
use Rattle.ob_judge.specs.Shapes.{Shape, Integer, Boolean, Char, Byte, Set, Nil}
use Rattle.ob_judge.specs.Image as I
use Rattle.ob_judge.specs.Scopes.{place}
use Rattle.ob_judge.specs.Operands as J
use Rattle.ob_judge.specs.Symbols.{expression_first}
use Rattle.ob_judge.specs.Expressions.{expression, constant}
use Rattle.judged_tree.specs.Outline.{outlined_expr}
use Rattle.judged_well.specs.Gives.{Gives}
use Rattle.check_expressions.proofs.folding.Outlined.{outline_folds}
use Rattle.check_types.specs.steps.Answers.{Answers}
use Rattle.check_types.specs.declared.steps.fault.CheckFault.{CheckFault}
use Rattle.check_types.specs.declared.steps.fault.CheckFault.TheVariants.{Fault}
use Rattle.check_types.proofs.steps.Answering.{as_judged, there, missing}
use Rattle.check_types.specs.declared.names.scope.Scope.{Scope}
use Rattle.check_types.specs.names.Worlds.{world_of}
use Rattle.check_operands.specs.Operands.{texts_of, Stands}
use Rattle.check_operands.specs.declared.operand.Operand.{Operand}
use Rattle.check_expressions.specs.declared.constants.constants.ConstantValue.{ConstantValue}
use Rattle.check_expressions.specs.constants.Constants.{constant_meant, IsConstant, basic_in, chars_in, is_plain}
use Rattle.check_expressions.proofs.constants.Basic.{constants_are_plain}
use Rattle.check_operands.proofs.calls.Binding.{kept_on as nothing_behind}

-- ---- values

pub basic_same : (s b : Shape) → basic_in s ≡ Some b → b ≡ s
basic_same Integer b h = sym (some_same Integer b h)
basic_same Boolean b h = sym (some_same Boolean b h)
basic_same Char b h = sym (some_same Char b h)
basic_same Byte b h = sym (some_same Byte b h)
basic_same Set b h = sym (some_same Set b h)
basic_same Nil b h = sym (some_same Nil b h)
basic_same _ b h = none_some b h

-- what is no string has the value of its expression
no_string : (s : Shape) (w : J.What) → chars_in w ≡ None → J.constant_in s w ≡ option_map (I.Bits s) (J.fold (J.form_in s w))
no_string s (J.Chars cs) h = none_some cs (sym h)
no_string s (J.Named d) h = refl
no_string s (J.Valued x) h = refl
no_string s (J.Code f l) h = refl
no_string s (J.Proper d) h = refl

pub bits_are : (bases : List (Option ℕ)) (a : J.Operand) (e : I.Expr) (v : Option ℕ) → chars_in a.what ≡ None → e ≡ outlined_expr bases (J.form a) → J.fold e ≡ v →
    J.constant_in a.shape a.what ≡ option_map (I.Bits a.shape) v
bits_are bases a e v n i j = no_string a.shape a.what n ∙ ap (option_map (I.Bits a.shape)) (sym (outline_folds bases (J.form a)) ∙ ap J.fold (sym i) ∙ j)

-- ---- answers

goes_with : {A A' B B' : Type 0} {P : A → Type 0} {R : B → A → Type 0} {S : B' → A' → Type 0} {r : Result B' CheckFault} {b : B} (m : Judged A) (f : A → Judged A') →
    Gives P m → Answers R m (Ok b) → ((a : A) → P a → R b a → Answers S (f a) r) → Answers S (m >>= f) r
goes_with (Keeps a) f g h k = k a g.holds h.by
goes_with (Breaks n at) f g h k = absurd h.by

module _ (s : Scope) (e : S.Expression) (x : Operand) where
  -- where a constant is asked for
  abbrev asked : Scope
  asked = record s { constant = true }

  abbrev Walked : Scope → Type 0
  Walked k = Answers (Stands k) (expression k.source.now (world_of k) e) (Ok x)

  abbrev Comes : Option ConstantValue → Scope → Type 0
  Comes v k = (a : J.Operand) → Stands k x a → is_plain a.shape a.what ≡ true → option_map (constant_meant (texts_of k)) v ≡ J.constant_in a.shape a.what

  some_asked : (v : ConstantValue) → Walked asked → Comes (Some v) asked → Answers (IsConstant s) (constant s.source.now (world_of s) e) (Ok v)
  some_asked v walked comes = goes_with (expression s.source.now (world_of asked) e) (λ a. some 35 (place s.source.now (expression_first e)) (J.constant_in a.shape a.what)) (constants_are_plain s.source.now s e) walked (λ a p h.
      as_judged (nothing_behind (some 35 (place s.source.now (expression_first e)) (J.constant_in a.shape a.what)))
      (there 35 (place s.source.now (expression_first e)) (λ c. Keeps c) (sym (comes a h p)) (record { by = refl })))

  none_asked : (f : CheckFault) → f ≡ Fault 35 (place s.source.now (expression_first e)) → Walked asked → Comes None asked → Answers (IsConstant s) (constant s.source.now (world_of s) e) (Err f)
  none_asked f is walked comes = goes_with (expression s.source.now (world_of asked) e) (λ a. some 35 (place s.source.now (expression_first e)) (J.constant_in a.shape a.what)) (constants_are_plain s.source.now s e) walked (λ a p h.
      as_judged (nothing_behind (some 35 (place s.source.now (expression_first e)) (J.constant_in a.shape a.what)))
      (subst (λ (z : CheckFault). Answers (IsConstant s) (some 35 (place s.source.now (expression_first e)) (J.constant_in a.shape a.what) >>= λ c. Keeps c) (Err z)) (sym is)
      (missing 35 (place s.source.now (expression_first e)) (λ c. Keeps c) (sym (comes a h p)))))

  pub constant_some : (inner : Scope) (v : ConstantValue) → inner ≡ asked → Walked inner → Comes (Some v) inner → Answers (IsConstant s) (constant s.source.now (world_of s) e) (Ok v)
  constant_some inner v i walked comes = some_asked v (subst Walked i walked) (subst (Comes (Some v)) i comes)

  pub constant_none : (inner : Scope) (f : CheckFault) → f ≡ Fault 35 (place s.source.now (expression_first e)) → inner ≡ asked → Walked inner → Comes None inner → Answers (IsConstant s) (constant s.source.now (world_of s) e) (Err f)
  constant_none inner f is i walked comes = none_asked f is (subst Walked i walked) (subst (Comes None) i comes)
