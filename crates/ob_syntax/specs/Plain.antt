-- The syntax of a tree: what it is without the memory that holds it.
use Rattle.std.specs.Prelude.{List, [], ◌∷◌, Option, None, Some, Box}
use Rattle.std.specs.Global.{Global}
use Rattle.ob_syntax.specs.Syntax as S
use Rattle.ob_syntax.specs.declared.expressions.Designator.{Designator, Row_of-Selector, end_of-Selector, more_of-Selector}
use Rattle.ob_syntax.specs.declared.expressions.Selector.{Selector, Selector-Parens-1-None', Selector-Parens-1-Some'}
use Rattle.ob_syntax.specs.declared.expressions.Selector.TheVariants as TheSelector
use Rattle.ob_syntax.specs.declared.expressions.List.{List as ExpressionList, List', Row_of-NextExpression, end_of-NextExpression, more_of-NextExpression}
use Rattle.ob_syntax.specs.declared.expressions.NextExpression.{NextExpression, NextExpression'}
use Rattle.ob_syntax.specs.declared.expressions.Expression.{Expression, Expression', Expression-compared-None', Expression-compared-Some'}
use Rattle.ob_syntax.specs.declared.expressions.Compared.{Compared, Compared'}
use Rattle.ob_syntax.specs.declared.expressions.Simple.{Simple, Simple', Row_of-Added, end_of-Added, more_of-Added}
use Rattle.ob_syntax.specs.declared.expressions.Added.{Added, Added'}
use Rattle.ob_syntax.specs.declared.expressions.Term.{Term, Term', Row_of-Multiplied, end_of-Multiplied, more_of-Multiplied}
use Rattle.ob_syntax.specs.declared.expressions.Multiplied.{Multiplied}
use Rattle.ob_syntax.specs.declared.expressions.Factor.{Factor}
use Rattle.ob_syntax.specs.declared.expressions.Factor.TheVariants as TheFactor
use Rattle.ob_syntax.specs.declared.expressions.Set.{Set', Set-elements-None', Set-elements-Some'}
use Rattle.ob_syntax.specs.declared.expressions.Elements.{Elements', Row_of-NextElement, end_of-NextElement, more_of-NextElement}
use Rattle.ob_syntax.specs.declared.expressions.NextElement.{NextElement'}
use Rattle.ob_syntax.specs.declared.expressions.Element.{Element, Element', Element-high-None', Element-high-Some'}
use Rattle.ob_syntax.specs.declared.expressions.ElementHigh.{ElementHigh'}
use Rattle.ob_syntax.specs.declared.declarations.ConstDecl.{ConstDecl}
use Rattle.ob_syntax.specs.declared.declarations.Consts.{Consts}
use Rattle.ob_syntax.specs.declared.declarations.Decls.{Decls, Decls', Row_of-ProcedureDecl, end_of-ProcedureDecl, more_of-ProcedureDecl}
use Rattle.ob_syntax.specs.declared.declarations.Procedure.{Procedure'}
use Rattle.ob_syntax.specs.declared.declarations.ProcedureDecl.{ProcedureDecl'}
use Rattle.ob_syntax.specs.declared.declarations.Returned.{Returned}
use Rattle.ob_syntax.specs.declared.declarations.TypeDecl.{TypeDecl}
use Rattle.ob_syntax.specs.declared.declarations.Types.{Types}
use Rattle.ob_syntax.specs.declared.declarations.VarDecl.{VarDecl}
use Rattle.ob_syntax.specs.declared.declarations.Vars.{Vars}
use Rattle.ob_syntax.specs.declared.modules.Imports.{Imports}
use Rattle.ob_syntax.specs.declared.modules.Module.{Module}
use Rattle.ob_syntax.specs.declared.names.Idents.{Idents}
use Rattle.ob_syntax.specs.declared.statements.Assigned.{Assigned}
use Rattle.ob_syntax.specs.declared.statements.Body.{Body}
use Rattle.ob_syntax.specs.declared.statements.By.{By}
use Rattle.ob_syntax.specs.declared.statements.Case.{Case, Case', Case-part-None', Case-part-Some'}
use Rattle.ob_syntax.specs.declared.statements.CasePart.{CasePart, CasePart'}
use Rattle.ob_syntax.specs.declared.statements.CaseStat.{CaseStat', Row_of-NextCase, end_of-NextCase, more_of-NextCase}
use Rattle.ob_syntax.specs.declared.statements.Else.{Else'}
use Rattle.ob_syntax.specs.declared.statements.Elsif.{Elsif'}
use Rattle.ob_syntax.specs.declared.statements.ElsifDo.{ElsifDo'}
use Rattle.ob_syntax.specs.declared.statements.ForStat.{ForStat'}
use Rattle.ob_syntax.specs.declared.statements.IfStat.{IfStat', Row_of-Elsif, end_of-Elsif, more_of-Elsif, Held-IfStat-otherwise, IfStat-otherwise-None', IfStat-otherwise-Some'}
use Rattle.ob_syntax.specs.declared.statements.NextCase.{NextCase'}
use Rattle.ob_syntax.specs.declared.statements.RepeatStat.{RepeatStat'}
use Rattle.ob_syntax.specs.declared.statements.Stat.TheVariants as TheStat
use Rattle.ob_syntax.specs.declared.statements.Stat.{Stat}
use Rattle.ob_syntax.specs.declared.statements.Stats.{Stats, Stats', Row_of-NextStat, end_of-NextStat, more_of-NextStat}
use Rattle.ob_syntax.specs.declared.statements.WhileStat.{WhileStat', Row_of-ElsifDo, end_of-ElsifDo, more_of-ElsifDo}
use Rattle.ob_syntax.specs.declared.types.Formals.{Formals}
use Rattle.ob_syntax.specs.declared.types.NextFields.{NextFields'}
use Rattle.ob_syntax.specs.declared.types.NextSection.{NextSection}
use Rattle.ob_syntax.specs.declared.types.RecordType.{RecordType', Held-NextFields-fields, None', Some', Row_of-NextFields, end_of-NextFields, more_of-NextFields}
use Rattle.ob_syntax.specs.declared.types.Section.{Section}
use Rattle.ob_syntax.specs.declared.types.Sections.{Sections}
use Rattle.ob_syntax.specs.declared.types.TypeTree.TheVariants as TheTypeTree
use Rattle.ob_syntax.specs.declared.types.TypeTree.{TypeTree}

-- what may stand, and each of a list
abbrev pub plain_option : {A B : Type 0} → (A → B) → Option A → Option B
plain_option f None = None
plain_option f (Some x) = Some (f x)

abbrev pub plain_each : {A B : Type 0} → (A → B) → List A → List B
plain_each f [] = []
plain_each f (x ∷ xs) = f x ∷ plain_each f xs

abbrev mutual
  pub plain_expression : Expression → S.Expression
  plain_expression (Expression' x Expression-compared-None') = S.only (plain_simple x)
  plain_expression (Expression' x (Expression-compared-Some' _ y)) = plain_compared y (plain_simple x)

  pub plain_compared : Compared → S.Simple → S.Expression
  plain_compared (Compared' r y) x = S.compared x r (plain_simple y)

  pub plain_simple : Simple → S.Simple
  plain_simple (Simple' sign first _ more) = S.simple sign (plain_term first) (plain_added more)

  pub plain_added : {m : _} → Row_of-Added m → S.Addeds
  plain_added end_of-Added = S.no_term
  plain_added (more_of-Added (Added' o x) rest) = S.added o (plain_term x) (plain_added rest)

  pub plain_term : Term → S.Term
  plain_term (Term' first _ more) = S.term (plain_factor first) (plain_multiplied more)

  pub plain_multiplied : {m : _} → Row_of-Multiplied m → S.Multiplieds
  plain_multiplied end_of-Multiplied = S.no_factor
  plain_multiplied (more_of-Multiplied o x rest) = S.multiplied o (plain_factor x) (plain_multiplied rest)

  pub plain_factor : Factor → S.Factor
  plain_factor (TheFactor.Int i) = S.Int i
  plain_factor (TheFactor.Text i) = S.Text i
  plain_factor (TheFactor.Char i) = S.Char i
  plain_factor (TheFactor.Nil i) = S.Nil i
  plain_factor (TheFactor.True i) = S.True i
  plain_factor (TheFactor.False i) = S.False i
  plain_factor (TheFactor.Set' _ (Set' i Set-elements-None' j)) = S.EmptySet i j
  plain_factor (TheFactor.Set' _ (Set' i (Set-elements-Some' (Elements' first _ more)) j)) = S.Set i (plain_element first) (plain_elements more) j
  plain_factor (TheFactor.Designator' i _ more) = S.Designated i (plain_selectors more)
  plain_factor (TheFactor.Paren' i _ x j) = S.Paren i (plain_expression x) j
  plain_factor (TheFactor.Not' i _ x) = S.Not i (plain_factor x)

  pub plain_elements : {m : _} → Row_of-NextElement m → S.NextElements
  plain_elements end_of-NextElement = S.no_element
  plain_elements (more_of-NextElement (NextElement' i x) rest) = S.next_element i (plain_element x) (plain_elements rest)

  pub plain_element : Element → S.Element
  plain_element (Element' x Element-high-None') = S.one (plain_expression x)
  plain_element (Element' x (Element-high-Some' (ElementHigh' i y))) = S.range (plain_expression x) i (plain_expression y)

  pub plain_selectors : {m : _} → Row_of-Selector m → S.Selectors
  plain_selectors end_of-Selector = S.no_selector
  plain_selectors (more_of-Selector x rest) = S.selected (plain_selector x) (plain_selectors rest)

  pub plain_selector : Selector → S.Selector
  plain_selector (TheSelector.Field i j) = S.Field i j
  plain_selector (TheSelector.Index i x j) = S.Index i (plain_list x) j
  plain_selector (TheSelector.Arrow i) = S.Arrow i
  plain_selector (TheSelector.Parens' i Selector-Parens-1-None' j) = S.EmptyParens i j
  plain_selector (TheSelector.Parens' i (Selector-Parens-1-Some' x) j) = S.Parens i (plain_list x) j

  pub plain_list : ExpressionList → S.Expressions
  plain_list (List' first _ more) = S.expressions (plain_expression first) (plain_next_expressions more)

  pub plain_next_expressions : {m : _} → Row_of-NextExpression m → S.NextExpressions
  plain_next_expressions end_of-NextExpression = S.no_expression
  plain_next_expressions (more_of-NextExpression (NextExpression' i x) rest) = S.next_expression i (plain_expression x) (plain_next_expressions rest)

abbrev pub plain_each_added : List Added → S.Addeds
plain_each_added [] = S.no_term
plain_each_added (Added' o x ∷ xs) = S.added o (plain_term x) (plain_each_added xs)

abbrev pub plain_each_multiplied : List Multiplied → S.Multiplieds
plain_each_multiplied [] = S.no_factor
plain_each_multiplied (x ∷ xs) = S.multiplied x.operator (plain_factor x.factor) (plain_each_multiplied xs)

abbrev pub plain_maybe_compared : S.Simple → Option (Box Compared Global) → S.Expression
plain_maybe_compared x None = S.only x
plain_maybe_compared x (Some y) = plain_compared y.value x

abbrev pub plain_each_expression : List NextExpression → S.NextExpressions
plain_each_expression [] = S.no_expression
plain_each_expression (NextExpression' i x ∷ xs) = S.next_expression i (plain_expression x) (plain_each_expression xs)

abbrev pub plain_each_selector : List Selector → S.Selectors
plain_each_selector [] = S.no_selector
plain_each_selector (x ∷ xs) = S.selected (plain_selector x) (plain_each_selector xs)

abbrev pub plain_designator : Designator → S.Designator
plain_designator x = record { name = x.name; selectors = plain_each_selector x.selectors.items }

abbrev pub plain_idents : Idents → S.Idents
plain_idents x = record { first = x.first; more = x.more.items }

abbrev pub plain_section : Section → S.Section
plain_section x = record { var_word = x.var_word; first = x.first; more = x.more.items; colon = x.colon; open_array = x.open_array; of = x.of }

abbrev pub plain_next_section : NextSection → S.NextSection
plain_next_section x = record { semicolon = x.semicolon; section = plain_section x.section }

abbrev pub plain_sections : Sections → S.Sections
plain_sections x = record { first = plain_section x.first; more = plain_each plain_next_section x.more.items }

abbrev pub plain_formals : Formals → S.Formals
plain_formals x = record { left_paren = x.left_paren; sections = plain_option plain_sections x.sections; right_paren = x.right_paren; result = x.result }

abbrev mutual
  pub plain_type : TypeTree → S.TypeTree
  plain_type (TheTypeTree.Named x) = S.Named x
  plain_type (TheTypeTree.Array' i first more j _ x) = S.Array i (plain_expression first) (plain_each_expression more.items) j (plain_type x)
  plain_type (TheTypeTree.Record (RecordType' i b first _ more j)) = S.Record i b (plain_fields first) (plain_next_fields more) j
  plain_type (TheTypeTree.Pointer' i j _ x) = S.Pointer i j (plain_type x)
  plain_type (TheTypeTree.Procedure x) = S.Procedure x.procedure_word (plain_option plain_formals x.formals)

  pub plain_fields : Held-NextFields-fields → S.MaybeFields
  plain_fields None' = S.no_fields
  plain_fields (Some' names i _ x) = S.fields (plain_idents names) i (plain_type x)

  pub plain_next_fields : {m : _} → Row_of-NextFields m → S.NextFields
  plain_next_fields end_of-NextFields = S.no_more_fields
  plain_next_fields (more_of-NextFields (NextFields' i x) rest) = S.next_fields i (plain_fields x) (plain_next_fields rest)

abbrev pub plain_assigned : Assigned → S.Assigned
plain_assigned x = record { becomes = x.becomes; value = plain_expression x.value }

abbrev pub plain_by : By → S.By
plain_by x = record { by_word = x.by_word; step = plain_expression x.step }

abbrev mutual
  pub plain_stats : Stats → S.Stats
  plain_stats (Stats' first _ more) = S.stats (plain_stat first) (plain_next_stats more)

  pub plain_next_stats : {m : _} → Row_of-NextStat m → S.NextStats
  plain_next_stats end_of-NextStat = S.no_stat
  plain_next_stats (more_of-NextStat i x rest) = S.next_stat i (plain_stat x) (plain_next_stats rest)

  pub plain_stat : Stat → S.Stat
  plain_stat TheStat.Empty = S.Empty
  plain_stat (TheStat.AssignOrCall x) = S.AssignOrCall (plain_designator x.value.designator) (plain_option plain_assigned x.value.assigned)
  plain_stat (TheStat.If' _ (IfStat' i x j body _ more other k)) = S.If i (plain_expression x) j (plain_stats body) (plain_elsifs more) (plain_else other) k
  plain_stat (TheStat.Case' _ (CaseStat' i x j first _ more k)) = S.Case i (plain_expression x) j (plain_case first) (plain_next_cases more) k
  plain_stat (TheStat.While' _ (WhileStat' i x j body _ more k)) = S.While i (plain_expression x) j (plain_stats body) (plain_elsif_dos more) k
  plain_stat (TheStat.Repeat' _ (RepeatStat' i body j x)) = S.Repeat i (plain_stats body) j (plain_expression x)
  plain_stat (TheStat.For' _ (ForStat' i v j a k b step m body n)) = S.For i v j (plain_expression a) k (plain_expression b) (plain_option plain_by step) m (plain_stats body) n

  pub plain_elsifs : {m : _} → Row_of-Elsif m → S.Elsifs
  plain_elsifs end_of-Elsif = S.no_elsif
  plain_elsifs (more_of-Elsif (Elsif' i x j body) rest) = S.next_elsif i (plain_expression x) j (plain_stats body) (plain_elsifs rest)

  pub plain_elsif_dos : {m : _} → Row_of-ElsifDo m → S.Elsifs
  plain_elsif_dos end_of-ElsifDo = S.no_elsif
  plain_elsif_dos (more_of-ElsifDo (ElsifDo' i x j body) rest) = S.next_elsif i (plain_expression x) j (plain_stats body) (plain_elsif_dos rest)

  pub plain_else : Held-IfStat-otherwise → S.MaybeElse
  plain_else IfStat-otherwise-None' = S.no_else
  plain_else (IfStat-otherwise-Some' (Else' i body)) = S.otherwise i (plain_stats body)

  pub plain_case : Case → S.MaybeCase
  plain_case (Case' Case-part-None') = S.no_case
  plain_case (Case' (Case-part-Some' _ x)) = plain_case_part x

  pub plain_case_part : CasePart → S.MaybeCase
  plain_case_part (CasePart' first more i body) = S.one_case first more.items i (plain_stats body)

  pub plain_next_cases : {m : _} → Row_of-NextCase m → S.NextCases
  plain_next_cases end_of-NextCase = S.no_next_case
  plain_next_cases (more_of-NextCase (NextCase' i x) rest) = S.next_case i (plain_case x) (plain_next_cases rest)

abbrev pub plain_body : Body → S.Body
plain_body x = record { begin_word = x.begin_word; stats = plain_stats x.stats }

abbrev pub plain_const_decl : ConstDecl → S.ConstDecl
plain_const_decl x = record { name = x.name; equal = x.equal; value = plain_expression x.value; semicolon = x.semicolon }

abbrev pub plain_consts : Consts → S.Consts
plain_consts x = record { const_word = x.const_word; each = plain_each plain_const_decl x.each.items }

abbrev pub plain_type_decl : TypeDecl → S.TypeDecl
plain_type_decl x = record { name = x.name; equal = x.equal; is = plain_type x.is; semicolon = x.semicolon }

abbrev pub plain_types : Types → S.Types
plain_types x = record { type_word = x.type_word; each = plain_each plain_type_decl x.each.items }

abbrev pub plain_var_decl : VarDecl → S.VarDecl
plain_var_decl x = record { names = plain_idents x.names; colon = x.colon; of = plain_type x.of; semicolon = x.semicolon }

abbrev pub plain_vars : Vars → S.Vars
plain_vars x = record { var_word = x.var_word; each = plain_each plain_var_decl x.each.items }

abbrev pub plain_returned : Returned → S.Returned
plain_returned x = record { return_word = x.return_word; value = plain_expression x.value }

abbrev mutual
  pub plain_decls : Decls → S.Decls
  plain_decls (Decls' c t v _ more) = S.decls (plain_option plain_consts c) (plain_option plain_types t) (plain_option plain_vars v) (plain_procedures more)

  pub plain_procedures : {m : _} → Row_of-ProcedureDecl m → S.Procedures
  plain_procedures end_of-ProcedureDecl = S.no_procedure
  plain_procedures (more_of-ProcedureDecl (ProcedureDecl' (Procedure' i name f j d b r k n) semicolon) rest) = S.procedure i name (plain_option plain_formals f) j (plain_decls d) (plain_option plain_body b) (plain_option plain_returned r) k n semicolon (plain_procedures rest)

abbrev pub plain_imports : Imports → S.Imports
plain_imports x = record { import_word = x.import_word; first = x.first; more = x.more.items; semicolon = x.semicolon }

abbrev pub plain_module : Module → S.Module
plain_module x = record { module_word = x.module_word; name = x.name; semicolon = x.semicolon; imports = plain_option plain_imports x.imports; decls = plain_decls x.decls; body = plain_option plain_body x.body; end_word = x.end_word; end_name = x.end_name; period = x.period }
