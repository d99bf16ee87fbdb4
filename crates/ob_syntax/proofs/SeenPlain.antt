-- What a tree spells, read as syntax, is the tree's syntax.
use Rattle.std.proofs.Common.{◌≡◌, ℕ, List, [], ◌∷◌, Option, None, Some, refl, sym, ap, ap₂, ◌∙◌}
use Rattle.ob_syntax.specs.Syntax as S
use Rattle.ob_syntax.specs.Plain.{plain_option, plain_each, plain_expression, plain_simple, plain_added, plain_term, plain_multiplied, plain_factor, plain_elements, plain_element, plain_selectors, plain_selector, plain_list, plain_next_expressions, plain_each_expression, plain_each_selector, plain_designator, plain_idents, plain_section, plain_next_section, plain_sections, plain_formals, plain_type, plain_fields, plain_next_fields, plain_assigned, plain_by, plain_stats, plain_next_stats, plain_stat, plain_elsifs, plain_elsif_dos, plain_else, plain_case, plain_next_cases, plain_body, plain_const_decl, plain_consts, plain_type_decl, plain_types, plain_var_decl, plain_vars, plain_returned, plain_decls, plain_procedures, plain_imports, plain_module}
use Rattle.ob_syntax.specs.declared.expressions.Designator.{Designator, Row_of-Selector, end_of-Selector, more_of-Selector}
use Rattle.ob_syntax.specs.declared.expressions.Selector.{Selector, Selector-Parens-1-None', Selector-Parens-1-Some'}
use Rattle.ob_syntax.specs.declared.expressions.Selector.TheVariants as TheSelector
use Rattle.ob_syntax.specs.declared.expressions.List.{List as ExpressionList, List', Row_of-NextExpression, end_of-NextExpression, more_of-NextExpression}
use Rattle.ob_syntax.specs.declared.expressions.NextExpression.{NextExpression, NextExpression'}
use Rattle.ob_syntax.specs.declared.expressions.Expression.{Expression, Expression', Expression-compared-None', Expression-compared-Some'}
use Rattle.ob_syntax.specs.declared.expressions.Compared.{Compared'}
use Rattle.ob_syntax.specs.declared.expressions.Simple.{Simple, Simple', Row_of-Added, end_of-Added, more_of-Added}
use Rattle.ob_syntax.specs.declared.expressions.Added.{Added'}
use Rattle.ob_syntax.specs.declared.expressions.Term.{Term, Term', Row_of-Multiplied, end_of-Multiplied, more_of-Multiplied}
use Rattle.ob_syntax.specs.declared.expressions.Factor.{Factor}
use Rattle.ob_syntax.specs.declared.expressions.Factor.TheVariants as TheFactor
use Rattle.ob_syntax.specs.declared.expressions.Set.{Set', Set-elements-None', Set-elements-Some'}
use Rattle.ob_syntax.specs.declared.expressions.Elements.{Elements', Row_of-NextElement, end_of-NextElement, more_of-NextElement}
use Rattle.ob_syntax.specs.declared.expressions.NextElement.{NextElement'}
use Rattle.ob_syntax.specs.declared.expressions.Element.{Element, Element', Element-high-None', Element-high-Some'}
use Rattle.ob_syntax.specs.declared.expressions.ElementHigh.{ElementHigh'}
use Rattle.ob_syntax.specs.declared.expressions.Relation.{Relation}
use Rattle.ob_syntax.specs.declared.expressions.Relation.TheVariants as TheRelation
use Rattle.ob_syntax.specs.declared.expressions.Sign.{Sign}
use Rattle.ob_syntax.specs.declared.expressions.Sign.TheVariants as TheSign
use Rattle.ob_syntax.specs.declared.expressions.AddOperator.{AddOperator}
use Rattle.ob_syntax.specs.declared.expressions.AddOperator.TheVariants as TheAddOperator
use Rattle.ob_syntax.specs.declared.expressions.MulOperator.{MulOperator}
use Rattle.ob_syntax.specs.declared.expressions.MulOperator.TheVariants as TheMulOperator
use Rattle.ob_syntax.specs.ExpressionText.{sign_text}
use Rattle.ob_syntax.specs.declared.declarations.ConstDecl.{ConstDecl}
use Rattle.ob_syntax.specs.declared.declarations.Consts.{Consts}
use Rattle.ob_syntax.specs.declared.declarations.Decls.{Decls, Decls', Row_of-ProcedureDecl, end_of-ProcedureDecl, more_of-ProcedureDecl}
use Rattle.ob_syntax.specs.declared.declarations.Procedure.{Procedure'}
use Rattle.ob_syntax.specs.declared.declarations.ProcedureDecl.{ProcedureDecl'}
use Rattle.ob_syntax.specs.declared.declarations.Returned.{Returned}
use Rattle.ob_syntax.specs.declared.declarations.TypeDecl.{TypeDecl}
use Rattle.ob_syntax.specs.declared.declarations.Types.{Types}
use Rattle.ob_syntax.specs.declared.declarations.VarDecl.{VarDecl}
use Rattle.ob_syntax.specs.declared.declarations.Vars.{Vars}
use Rattle.ob_syntax.specs.declared.modules.Import.{Import}
use Rattle.ob_syntax.specs.declared.modules.ImportedName.{ImportedName}
use Rattle.ob_syntax.specs.declared.modules.Imports.{Imports}
use Rattle.ob_syntax.specs.declared.modules.Module.{Module}
use Rattle.ob_syntax.specs.declared.modules.NextImport.{NextImport}
use Rattle.ob_syntax.specs.declared.names.Identdef.{Identdef}
use Rattle.ob_syntax.specs.declared.names.Idents.{Idents}
use Rattle.ob_syntax.specs.declared.names.Member.{Member}
use Rattle.ob_syntax.specs.declared.names.NextIdent.{NextIdent}
use Rattle.ob_syntax.specs.declared.names.NextIdentdef.{NextIdentdef}
use Rattle.ob_syntax.specs.declared.names.Qualident.{Qualident}
use Rattle.ob_syntax.specs.declared.statements.Assigned.{Assigned}
use Rattle.ob_syntax.specs.declared.statements.Body.{Body}
use Rattle.ob_syntax.specs.declared.statements.By.{By}
use Rattle.ob_syntax.specs.declared.statements.Case.{Case, Case', Case-part-None', Case-part-Some'}
use Rattle.ob_syntax.specs.declared.statements.CasePart.{CasePart'}
use Rattle.ob_syntax.specs.declared.statements.CaseStat.{CaseStat', Row_of-NextCase, end_of-NextCase, more_of-NextCase}
use Rattle.ob_syntax.specs.declared.statements.Else.{Else'}
use Rattle.ob_syntax.specs.declared.statements.Elsif.{Elsif'}
use Rattle.ob_syntax.specs.declared.statements.ElsifDo.{ElsifDo'}
use Rattle.ob_syntax.specs.declared.statements.ForStat.{ForStat'}
use Rattle.ob_syntax.specs.declared.statements.High.{High}
use Rattle.ob_syntax.specs.declared.statements.IfStat.{IfStat', Row_of-Elsif, end_of-Elsif, more_of-Elsif, Held-IfStat-otherwise, IfStat-otherwise-None', IfStat-otherwise-Some'}
use Rattle.ob_syntax.specs.declared.statements.Label.TheVariants as TheLabel
use Rattle.ob_syntax.specs.declared.statements.Label.{Label}
use Rattle.ob_syntax.specs.declared.statements.NextCase.{NextCase'}
use Rattle.ob_syntax.specs.declared.statements.NextRange.{NextRange}
use Rattle.ob_syntax.specs.declared.statements.Range.{Range}
use Rattle.ob_syntax.specs.declared.statements.RepeatStat.{RepeatStat'}
use Rattle.ob_syntax.specs.declared.statements.Stat.TheVariants as TheStat
use Rattle.ob_syntax.specs.declared.statements.Stat.{Stat}
use Rattle.ob_syntax.specs.declared.statements.Stats.{Stats, Stats', Row_of-NextStat, end_of-NextStat, more_of-NextStat}
use Rattle.ob_syntax.specs.declared.statements.WhileStat.{WhileStat', Row_of-ElsifDo, end_of-ElsifDo, more_of-ElsifDo}
use Rattle.ob_syntax.specs.declared.types.Base.{Base}
use Rattle.ob_syntax.specs.declared.types.Formals.{Formals}
use Rattle.ob_syntax.specs.declared.types.NextFields.{NextFields'}
use Rattle.ob_syntax.specs.declared.types.NextSection.{NextSection}
use Rattle.ob_syntax.specs.declared.types.OpenArray.{OpenArray}
use Rattle.ob_syntax.specs.declared.types.RecordType.{RecordType', Held-NextFields-fields, None', Some', Row_of-NextFields, end_of-NextFields, more_of-NextFields}
use Rattle.ob_syntax.specs.declared.types.ResultType.{ResultType}
use Rattle.ob_syntax.specs.declared.types.Section.{Section}
use Rattle.ob_syntax.specs.declared.types.Sections.{Sections}
use Rattle.ob_syntax.specs.declared.types.TypeTree.TheVariants as TheTypeTree
use Rattle.ob_syntax.specs.declared.types.TypeTree.{TypeTree}
use Rattle.ob_grammar.specs.Grammar.{Phrase}
use Rattle.ob_grammar.specs.Leaves.{Leaf, Tree}
use Rattle.ob_syntax.specs.NameText.{member_text, next_identdef_text, next_ident_text}
use Rattle.ob_syntax.specs.ExpressionText.{selector_text, next_expression_text}
use Rattle.ob_syntax.specs.TypeText.{base_text, open_array_text, next_section_text, sections_text, result_type_text, formals_text}
use Rattle.ob_syntax.specs.StatementText.{assigned_text, high_text, next_range_text, by_text, body_text}
use Rattle.ob_syntax.specs.DeclarationText.{const_decl_text, consts_text, type_decl_text, types_text, var_decl_text, vars_text, returned_text}
use Rattle.ob_syntax.specs.ModuleText.{imported_name_text, next_import_text, imports_text, module_text}
use Rattle.ob_syntax.proofs.Spelled.{Spelled, if_there, all, maybe_symbol}
use Rattle.ob_syntax.proofs.NamesSpelled as N
use Rattle.ob_syntax.proofs.TypesSpelled as T
use Rattle.ob_syntax.proofs.StatementsSpelled as X
use Rattle.ob_syntax.proofs.DeclarationsSpelled as D
use Rattle.ob_syntax.proofs.ModulesSpelled as M
use Rattle.ob_syntax.proofs.ExpressionsSpelled as P
use Rattle.ob_syntax.proofs.Seen as V

relation : (x : Relation) → V.relation (P.relation x).tree ≡ x
relation (TheRelation.Equal i) = refl
relation (TheRelation.NotEqual i) = refl
relation (TheRelation.Less i) = refl
relation (TheRelation.LessEqual i) = refl
relation (TheRelation.Greater i) = refl
relation (TheRelation.GreaterEqual i) = refl
relation (TheRelation.In i) = refl
relation (TheRelation.Is i) = refl

sign : (x : Option Sign) → V.sign (if_there sign_text P.sign x).tree ≡ x
sign None = refl
sign (Some (TheSign.Plus i)) = refl
sign (Some (TheSign.Minus i)) = refl

add_operator : (x : AddOperator) → V.add_operator (P.add_operator x).tree ≡ x
add_operator (TheAddOperator.Plus i) = refl
add_operator (TheAddOperator.Minus i) = refl
add_operator (TheAddOperator.Or i) = refl

mul_operator : (x : MulOperator) → V.mul_operator (P.mul_operator x).tree ≡ x
mul_operator (TheMulOperator.Times i) = refl
mul_operator (TheMulOperator.Slash i) = refl
mul_operator (TheMulOperator.Div i) = refl
mul_operator (TheMulOperator.Mod i) = refl
mul_operator (TheMulOperator.And i) = refl

ap₃ : {A B C Z : Type 0} (g : A → B → C → Z) {a a' : A} {b b' : B} {c c' : C} → a ≡ a' → b ≡ b' → c ≡ c' → g a b c ≡ g a' b' c'
ap₃ g p q r = cc

ap₄ : {A B C D Z : Type 0} (g : A → B → C → D → Z) {a a' : A} {b b' : B} {c c' : C} {d d' : D} → a ≡ a' → b ≡ b' → c ≡ c' → d ≡ d' → g a b c d ≡ g a' b' c' d'
ap₄ g p q r s = cc

ap₅ : {A B C D E Z : Type 0} (g : A → B → C → D → E → Z) {a a' : A} {b b' : B} {c c' : C} {d d' : D} {e e' : E} → a ≡ a' → b ≡ b' → c ≡ c' → d ≡ d' → e ≡ e' → g a b c d e ≡ g a' b' c' d' e'
ap₅ g p q r s t = cc

seen_option : {A B : Type 0} {f : Phrase} (v : Tree f → B) (text : A → List Leaf) (h : (x : A) → Spelled f (text x)) (p : A → B) → ((x : A) → v (h x).tree ≡ p x) → (x : Option A) → V.optional v (if_there text h x).tree ≡ plain_option p x
seen_option v text h p e None = refl
seen_option v text h p e (Some x) = ap Some (e x)

same_option : {A : Type 0} {f : Phrase} (v : Tree f → A) (text : A → List Leaf) (h : (x : A) → Spelled f (text x)) → ((x : A) → v (h x).tree ≡ x) → (x : Option A) → V.optional v (if_there text h x).tree ≡ x
same_option v text h e None = refl
same_option v text h e (Some x) = ap Some (e x)

seen_each : {A B : Type 0} {f : Phrase} (v : Tree f → B) (text : A → List Leaf) (h : (x : A) → Spelled f (text x)) (p : A → B) → ((x : A) → v (h x).tree ≡ p x) → (xs : List A) → V.each v (all text h xs).tree ≡ plain_each p xs
seen_each v text h p e [] = refl
seen_each v text h p e (x ∷ xs) = ap₂ (λ y ys. y ∷ ys) (e x) (seen_each v text h p e xs)

same_each : {A : Type 0} {f : Phrase} (v : Tree f → A) (text : A → List Leaf) (h : (x : A) → Spelled f (text x)) → ((x : A) → v (h x).tree ≡ x) → (xs : List A) → V.each v (all text h xs).tree ≡ xs
same_each v text h e [] = refl
same_each v text h e (x ∷ xs) = ap₂ (λ y ys. y ∷ ys) (e x) (same_each v text h e xs)

same_symbol : (k : ℕ) (x : Option ℕ) → V.optional V.number (maybe_symbol {k = k} x).tree ≡ x
same_symbol k None = refl
same_symbol k (Some i) = refl

mutual
  pub expression : (x : Expression) → V.expression (P.expression x).tree ≡ plain_expression x
  expression (Expression' x Expression-compared-None') = ap S.only (simple x)
  expression (Expression' x (Expression-compared-Some' _ (Compared' r y))) = ap₃ S.compared (simple x) (relation r) (simple y)

  simple : (x : Simple) → V.simple (P.simple x).tree ≡ plain_simple x
  simple (Simple' s first _ more) = ap₃ S.simple (sign s) (term first) (added more)

  added : {m : _} (x : Row_of-Added m) → V.added (P.added_all x).tree ≡ plain_added x
  added end_of-Added = refl
  added (more_of-Added (Added' o x) rest) = ap₃ S.added (add_operator o) (term x) (added rest)

  term : (x : Term) → V.term (P.term x).tree ≡ plain_term x
  term (Term' first _ more) = ap₂ S.term (factor first) (multiplied more)

  multiplied : {m : _} (x : Row_of-Multiplied m) → V.multiplied (P.multiplied_all x).tree ≡ plain_multiplied x
  multiplied end_of-Multiplied = refl
  multiplied (more_of-Multiplied o x rest) = ap₃ S.multiplied (mul_operator o) (factor x) (multiplied rest)

  factor : (x : Factor) → V.factor (P.factor x).tree ≡ plain_factor x
  factor (TheFactor.Int i) = refl
  factor (TheFactor.Text i) = refl
  factor (TheFactor.Char i) = refl
  factor (TheFactor.Nil i) = refl
  factor (TheFactor.True i) = refl
  factor (TheFactor.False i) = refl
  factor (TheFactor.Set' _ (Set' i Set-elements-None' j)) = refl
  factor (TheFactor.Set' _ (Set' i (Set-elements-Some' (Elements' first _ more)) j)) = ap₂ (λ x y. S.Set i x y j) (element first) (elements more)
  factor (TheFactor.Designator' i _ more) = ap (S.Designated i) (selectors more)
  factor (TheFactor.Paren' i _ x j) = ap (λ y. S.Paren i y j) (expression x)
  factor (TheFactor.Not' i _ x) = ap (S.Not i) (factor x)

  elements : {m : _} (x : Row_of-NextElement m) → V.next_elements (P.next_element_all x).tree ≡ plain_elements x
  elements end_of-NextElement = refl
  elements (more_of-NextElement (NextElement' i x) rest) = ap₂ (S.next_element i) (element x) (elements rest)

  element : (x : Element) → V.element (P.element x).tree ≡ plain_element x
  element (Element' x Element-high-None') = ap S.one (expression x)
  element (Element' x (Element-high-Some' (ElementHigh' i y))) = ap₂ (λ a b. S.range a i b) (expression x) (expression y)

  selectors : {m : _} (x : Row_of-Selector m) → V.selectors_of (P.selector_all x).tree ≡ plain_selectors x
  selectors end_of-Selector = refl
  selectors (more_of-Selector x rest) = ap₂ S.selected (selector x) (selectors rest)

  selector : (x : Selector) → V.selector (P.selector x).tree ≡ plain_selector x
  selector (TheSelector.Field i j) = refl
  selector (TheSelector.Index i x j) = ap (λ y. S.Index i y j) (list x)
  selector (TheSelector.Arrow i) = refl
  selector (TheSelector.Parens' i Selector-Parens-1-None' j) = refl
  selector (TheSelector.Parens' i (Selector-Parens-1-Some' x) j) = ap (λ y. S.Parens i y j) (list x)

  list : (x : ExpressionList) → V.list (P.list x).tree ≡ plain_list x
  list (List' first _ more) = ap₂ S.expressions (expression first) (next_expressions more)

  next_expressions : {m : _} (x : Row_of-NextExpression m) → V.next_expressions (P.next_expression_all x).tree ≡ plain_next_expressions x
  next_expressions end_of-NextExpression = refl
  next_expressions (more_of-NextExpression (NextExpression' i x) rest) = ap₂ (S.next_expression i) (expression x) (next_expressions rest)

each_expression : (xs : List NextExpression) → V.next_expressions (all next_expression_text P.next_expression xs).tree ≡ plain_each_expression xs
each_expression [] = refl
each_expression (NextExpression' i x ∷ xs) = ap₂ (S.next_expression i) (expression x) (each_expression xs)

each_selector : (xs : List Selector) → V.selectors_of (all selector_text P.selector xs).tree ≡ plain_each_selector xs
each_selector [] = refl
each_selector (x ∷ xs) = ap₂ S.selected (selector x) (each_selector xs)

designator : (x : Designator) → V.designator (P.designator x).tree ≡ plain_designator x
designator x = ap (λ a. record { name = x.name; selectors = a }) (each_selector x.selectors.items)

member : (x : Member) → V.member (N.member x).tree ≡ x
member x = refl

qualident : (x : Qualident) → V.qualident (N.qualident x).tree ≡ x
qualident x = ap (λ m. record { name = x.name; member = m }) (same_option V.member member_text N.member member x.member)

identdef : (x : Identdef) → V.identdef (N.identdef x).tree ≡ x
identdef x = ap (λ m. record { name = x.name; star = m }) (same_symbol _ x.star)

next_identdef : (x : NextIdentdef) → V.next_identdef (N.next_identdef x).tree ≡ x
next_identdef x = ap (λ m. record { comma = x.comma; name = m }) (identdef x.name)

idents : (x : Idents) → V.idents (N.idents x).tree ≡ plain_idents x
idents x = ap₂ (λ a b. record { first = a; more = b }) (identdef x.first) (same_each V.next_identdef next_identdef_text N.next_identdef next_identdef x.more.items)

next_ident : (x : NextIdent) → V.next_ident (N.next_ident x).tree ≡ x
next_ident x = refl

base : (x : Base) → V.base (T.base x).tree ≡ x
base x = ap (λ m. record { left_paren = x.left_paren; name = m; right_paren = x.right_paren }) (qualident x.name)

open_array : (x : OpenArray) → V.open_array (T.open_array x).tree ≡ x
open_array x = refl

section : (x : Section) → V.section (T.section x).tree ≡ plain_section x
section x = ap₄ (λ v more o q. record { var_word = v; first = x.first; more = more; colon = x.colon; open_array = o; of = q }) (same_symbol _ x.var_word) (same_each V.next_ident next_ident_text N.next_ident next_ident x.more.items) (same_option V.open_array open_array_text T.open_array open_array x.open_array) (qualident x.of)

next_section : (x : NextSection) → V.next_section (T.next_section x).tree ≡ plain_next_section x
next_section x = ap (λ a. record { semicolon = x.semicolon; section = a }) (section x.section)

sections : (x : Sections) → V.sections (T.sections x).tree ≡ plain_sections x
sections x = ap₂ (λ a b. record { first = a; more = b }) (section x.first) (seen_each V.next_section next_section_text T.next_section plain_next_section next_section x.more.items)

result_type : (x : ResultType) → V.result_type (T.result_type x).tree ≡ x
result_type x = ap (λ m. record { colon = x.colon; name = m }) (qualident x.name)

formals : (x : Formals) → V.formals (T.formals x).tree ≡ plain_formals x
formals x = ap₂ (λ s r. record { left_paren = x.left_paren; sections = s; right_paren = x.right_paren; result = r }) (seen_option V.sections sections_text T.sections plain_sections sections x.sections) (same_option V.result_type result_type_text T.result_type result_type x.result)

mutual
  type : (x : TypeTree) → V.type (T.type_tree x).tree ≡ plain_type x
  type (TheTypeTree.Named x) = ap S.Named (qualident x)
  type (TheTypeTree.Array' i first more j _ x) = ap₃ (λ a b c. S.Array i a b j c) (expression first) (each_expression more.items) (type x)
  type (TheTypeTree.Record (RecordType' i b first _ more j)) = ap₃ (λ p q r. S.Record i p q r j) (same_option V.base base_text T.base base b) (fields first) (next_fields more)
  type (TheTypeTree.Pointer' i j _ x) = ap (S.Pointer i j) (type x)
  type (TheTypeTree.Procedure x) = ap (S.Procedure x.procedure_word) (seen_option V.formals formals_text T.formals plain_formals formals x.formals)

  fields : (x : Held-NextFields-fields) → V.fields (T.held_fields x).tree ≡ plain_fields x
  fields None' = refl
  fields (Some' names i _ x) = ap₂ (λ a b. S.fields a i b) (idents names) (type x)

  next_fields : {m : _} (x : Row_of-NextFields m) → V.next_fields (T.next_fields_all x).tree ≡ plain_next_fields x
  next_fields end_of-NextFields = refl
  next_fields (more_of-NextFields (NextFields' i x) rest) = ap₂ (S.next_fields i) (fields x) (next_fields rest)

label : (x : Label) → V.label (X.label x).tree ≡ x
label (TheLabel.Int i) = refl
label (TheLabel.Text i) = refl
label (TheLabel.Char i) = refl
label (TheLabel.Named x) = ap TheLabel.Named (qualident x)

high : (x : High) → V.high (X.high x).tree ≡ x
high x = ap (λ m. record { dots = x.dots; label = m }) (label x.label)

range : (x : Range) → V.range (X.range x).tree ≡ x
range x = ap₂ (λ m n. record { low = m; high = n }) (label x.low) (same_option V.high high_text X.high high x.high)

next_range : (x : NextRange) → V.next_range (X.next_range x).tree ≡ x
next_range x = ap (λ m. record { comma = x.comma; range = m }) (range x.range)

assigned : (x : Assigned) → V.assigned (X.assigned x).tree ≡ plain_assigned x
assigned x = ap (λ a. record { becomes = x.becomes; value = a }) (expression x.value)

by_part : (x : By) → V.by_part (X.by_part x).tree ≡ plain_by x
by_part x = ap (λ a. record { by_word = x.by_word; step = a }) (expression x.step)

mutual
  stats : (x : Stats) → V.stats (X.stats x).tree ≡ plain_stats x
  stats (Stats' first _ more) = ap₂ S.stats (stat first) (next_stats more)

  next_stats : {m : _} (x : Row_of-NextStat m) → V.next_stats (X.stat_all x).tree ≡ plain_next_stats x
  next_stats end_of-NextStat = refl
  next_stats (more_of-NextStat i x rest) = ap₂ (S.next_stat i) (stat x) (next_stats rest)

  stat : (x : Stat) → V.stat (X.stat x).tree ≡ plain_stat x
  stat TheStat.Empty = refl
  stat (TheStat.AssignOrCall x) = ap₂ S.AssignOrCall (designator x.value.designator) (seen_option V.assigned assigned_text X.assigned plain_assigned assigned x.value.assigned)
  stat (TheStat.If' _ (IfStat' i x j body _ more other k)) = ap₄ (λ a b c d. S.If i a j b c d k) (expression x) (stats body) (elsifs more) (otherwise other)
  stat (TheStat.Case' _ (CaseStat' i x j first _ more k)) = ap₃ (λ a b c. S.Case i a j b c k) (expression x) (case first) (next_cases more)
  stat (TheStat.While' _ (WhileStat' i x j body _ more k)) = ap₃ (λ a b c. S.While i a j b c k) (expression x) (stats body) (elsif_dos more)
  stat (TheStat.Repeat' _ (RepeatStat' i body j x)) = ap₂ (λ a b. S.Repeat i a j b) (stats body) (expression x)
  stat (TheStat.For' _ (ForStat' i v j a k b step m body n)) = ap₄ (λ p q r s. S.For i v j p k q r m s n) (expression a) (expression b) (seen_option V.by_part by_text X.by_part plain_by by_part step) (stats body)

  elsifs : {m : _} (x : Row_of-Elsif m) → V.elsifs (X.elsif_all x).tree ≡ plain_elsifs x
  elsifs end_of-Elsif = refl
  elsifs (more_of-Elsif (Elsif' i x j body) rest) = ap₃ (λ a b c. S.next_elsif i a j b c) (expression x) (stats body) (elsifs rest)

  elsif_dos : {m : _} (x : Row_of-ElsifDo m) → V.elsif_dos (X.elsif_do_all x).tree ≡ plain_elsif_dos x
  elsif_dos end_of-ElsifDo = refl
  elsif_dos (more_of-ElsifDo (ElsifDo' i x j body) rest) = ap₃ (λ a b c. S.next_elsif i a j b c) (expression x) (stats body) (elsif_dos rest)

  otherwise : (x : Held-IfStat-otherwise) → V.otherwise (X.held_else x).tree ≡ plain_else x
  otherwise IfStat-otherwise-None' = refl
  otherwise (IfStat-otherwise-Some' (Else' i body)) = ap (S.otherwise i) (stats body)

  case : (x : Case) → V.case (X.case x).tree ≡ plain_case x
  case (Case' Case-part-None') = refl
  case (Case' (Case-part-Some' _ (CasePart' first more i body))) = ap₃ (λ a b c. S.one_case a b i c) (range first) (same_each V.next_range next_range_text X.next_range next_range more.items) (stats body)

  next_cases : {m : _} (x : Row_of-NextCase m) → V.next_cases (X.case_all x).tree ≡ plain_next_cases x
  next_cases end_of-NextCase = refl
  next_cases (more_of-NextCase (NextCase' i x) rest) = ap₂ (S.next_case i) (case x) (next_cases rest)

body_part : (x : Body) → V.body_part (X.body_part x).tree ≡ plain_body x
body_part x = ap (λ a. record { begin_word = x.begin_word; stats = a }) (stats x.stats)

const_decl : (x : ConstDecl) → V.const_decl (D.const_decl x).tree ≡ plain_const_decl x
const_decl x = ap₂ (λ a b. record { name = a; equal = x.equal; value = b; semicolon = x.semicolon }) (identdef x.name) (expression x.value)

consts : (x : Consts) → V.consts (D.consts x).tree ≡ plain_consts x
consts x = ap (λ a. record { const_word = x.const_word; each = a }) (seen_each V.const_decl const_decl_text D.const_decl plain_const_decl const_decl x.each.items)

type_decl : (x : TypeDecl) → V.type_decl (D.type_decl x).tree ≡ plain_type_decl x
type_decl x = ap₂ (λ a b. record { name = a; equal = x.equal; is = b; semicolon = x.semicolon }) (identdef x.name) (type x.is)

types : (x : Types) → V.types (D.types x).tree ≡ plain_types x
types x = ap (λ a. record { type_word = x.type_word; each = a }) (seen_each V.type_decl type_decl_text D.type_decl plain_type_decl type_decl x.each.items)

var_decl : (x : VarDecl) → V.var_decl (D.var_decl x).tree ≡ plain_var_decl x
var_decl x = ap₂ (λ a b. record { names = a; colon = x.colon; of = b; semicolon = x.semicolon }) (idents x.names) (type x.of)

vars : (x : Vars) → V.vars (D.vars x).tree ≡ plain_vars x
vars x = ap (λ a. record { var_word = x.var_word; each = a }) (seen_each V.var_decl var_decl_text D.var_decl plain_var_decl var_decl x.each.items)

returned : (x : Returned) → V.returned (D.returned x).tree ≡ plain_returned x
returned x = ap (λ a. record { return_word = x.return_word; value = a }) (expression x.value)

procedure_all : (i j k n m : ℕ) {a a' : Identdef} {b b' : Option S.Formals} {c c' : S.Decls} {d d' : Option S.Body} {e e' : Option S.Returned} {f f' : S.Procedures} → a ≡ a' → b ≡ b' → c ≡ c' → d ≡ d' → e ≡ e' → f ≡ f' → S.procedure i a b j c d e k n m f ≡ S.procedure i a' b' j c' d' e' k n m f'
procedure_all i j k n m o p q r s t = cc

mutual
  decls : (x : Decls) → V.decls (D.decls x).tree ≡ plain_decls x
  decls (Decls' c t v _ more) = ap₄ S.decls (seen_option V.consts consts_text D.consts plain_consts consts c) (seen_option V.types types_text D.types plain_types types t) (seen_option V.vars vars_text D.vars plain_vars vars v) (procedures more)

  procedures : {m : _} (x : Row_of-ProcedureDecl m) → V.procedures (D.procedure_all x).tree ≡ plain_procedures x
  procedures end_of-ProcedureDecl = refl
  procedures (more_of-ProcedureDecl (ProcedureDecl' (Procedure' i name f j d b r k n) semicolon) rest) = procedure_all i j k n semicolon (identdef name) (seen_option V.formals formals_text T.formals plain_formals formals f) (decls d) (seen_option V.body_part body_text X.body_part plain_body body_part b) (seen_option V.returned returned_text D.returned plain_returned returned r) (procedures rest)

imported_name : (x : ImportedName) → V.imported_name (M.imported_name x).tree ≡ x
imported_name x = refl

import : (x : Import) → V.import (M.import x).tree ≡ x
import x = ap (λ m. record { name = x.name; of = m }) (same_option V.imported_name imported_name_text M.imported_name imported_name x.of)

next_import : (x : NextImport) → V.next_import (M.next_import x).tree ≡ x
next_import x = ap (λ m. record { comma = x.comma; import = m }) (import x.import)

imports : (x : Imports) → V.imports (M.imports x).tree ≡ plain_imports x
imports x = ap₂ (λ a b. record { import_word = x.import_word; first = a; more = b; semicolon = x.semicolon }) (import x.first) (same_each V.next_import next_import_text M.next_import next_import x.more.items)

seen_module : (x : Module) → V.module_ (M.module_spelled x).tree ≡ plain_module x
seen_module x = ap₃ (λ a b c. record { module_word = x.module_word; name = x.name; semicolon = x.semicolon; imports = a; decls = b; body = c; end_word = x.end_word; end_name = x.end_name; period = x.period }) (seen_option V.imports imports_text M.imports plain_imports imports x.imports) (decls x.decls) (seen_option V.body_part body_text X.body_part plain_body body_part x.body)

pub one_module : (m n : Module) → module_text m ≡ module_text n → plain_module m ≡ plain_module n
one_module m n e = sym (seen_module m) ∙ (ap (λ t. V.module_ t) (M.one_tree m n e) ∙ seen_module n)
