-- What a checked tree is without its memory: types by their shapes, strings by their characters, and each link, guard
-- and selector round what it is added to, the first innermost.
use Rattle.std.specs.Prelude.{ℕ, List, [], ◌∷◌, map, Option, Some, None, option_map, slice_get, slice_index_or}
use Rattle.wrapping_numbers.specs.Numbers.{unsigned}
use Rattle.ob_types.specs.Operators.{truth}
use Rattle.ob_types.specs.declared.types.Field.{Field as FieldOf}
use Rattle.ob_types.specs.declared.types.Formal.{Formal as FormalOf}
use Rattle.ob_types.specs.declared.types.RecordType.{RecordType as RecordOf}
use Rattle.ob_types.specs.declared.tree.Expr.{Expr, Literal, Routine, Load, Guard', Unary', Chain', Compare', CompareTexts', In', IsPointer', IsParameter, Byte', Length, Call', Row_of-Link, end_of-Link, more_of-Link}
use Rattle.ob_types.specs.declared.tree.Link.{Link, Operate, And, Or, Element, Elements'}
use Rattle.ob_types.specs.declared.tree.Base.{Base}
use Rattle.ob_types.specs.declared.tree.Base.TheVariants as TheBase
use Rattle.ob_types.specs.declared.tree.Designator.{Designator, Whole, Part', Row_of-Selector, end_of-Selector, more_of-Selector}
use Rattle.ob_types.specs.declared.tree.Selector.{Selector, Index, Field, Dereference, Narrow}
use Rattle.ob_types.specs.declared.tree.Call.{Call, Direct', Indirect', Row_of-Argument, end_of-Argument, more_of-Argument}
use Rattle.ob_types.specs.declared.tree.Argument.{Argument, ByValue, ByPlace, ByRecord, ByOpen}
use Rattle.ob_types.specs.declared.statements.Checked.{Checked}
use Rattle.ob_types.specs.declared.statements.Stmt.{Stmt, Assign, CopyArray, CopyRecord, Increase, Decrease, Include, Exclude, New, Assert, OutChar, OutInt, OutString, OutLn, InChar, If', While', Repeat', For', Case', CasePointer', CaseParameter', Row_of-Stmt, end_of-Stmt, more_of-Stmt, Row_of-Branch, end_of-Branch, more_of-Branch, Row_of-CasePart, end_of-CasePart, more_of-CasePart, Row_of-TypePart, end_of-TypePart, more_of-TypePart}
use Rattle.ob_types.specs.declared.statements.Stmt.{Call as Invoke}
use Rattle.ob_types.specs.declared.program.Constant.{Constant}
use Rattle.ob_types.specs.declared.program.Constant.TheVariants as TheConstant
use Rattle.ob_types.specs.declared.program.Entity.{Entity}
use Rattle.ob_types.specs.declared.program.Entity.TheVariants as TheEntity
use Rattle.ob_types.specs.declared.program.Object.{Object}
use Rattle.ob_types.specs.declared.program.Module.{Module}
use Rattle.ob_types.specs.declared.program.Procedure.{Procedure}
use Rattle.ob_types.specs.declared.program.Program.{Program}
use Rattle.ob_types.specs.Table.{Table}
use Rattle.ob_judge.specs.Shapes.{Integer, Boolean, Char, Set, Nil, Nothing, Added}
use Rattle.ob_judge.specs.Scopes.{part}
use Rattle.ob_judge.specs.Image as I
use Rattle.judged_tree.specs.TypeShapes.{shape_of, shape_of_kind, pointer_bases}

-- guards round a pointer's value, the first innermost
abbrev pub guarded : List ℕ → I.Expr → I.Expr
guarded [] x = x
guarded (r ∷ rs) x = guarded rs (I.Guard x r)

-- a pointer's value, whose type isn't said between two selectors
abbrev pub pointer_at : I.Place → I.Expr
pointer_at place = I.Load (I.of_type place Nothing)

-- a use of a string; where its number isn't in the list, what no judged image has: a guard of In.Done
abbrev pub text_place : Option (List ℕ) → I.Place
text_place (Some cs) = I.Text cs
text_place None = I.Narrow I.Done 0

-- in a table of types and in a procedure with these uses of strings
module _ (t : Table) (texts : List (List ℕ)) where
  abbrev pub plain_base : Base → I.Place
  plain_base TheBase.Done = I.Done
  plain_base (TheBase.Global m v) = I.Global m v
  plain_base (TheBase.Local v) = I.Local v
  plain_base (TheBase.Parameter n) = I.Parameter n
  plain_base (TheBase.Text k) = text_place (slice_get texts k)

  abbrev mutual
    pub plain_expr : Expr → I.Expr
    plain_expr (Literal n) = I.Literal n
    plain_expr (Routine f) = I.Routine f
    plain_expr (Load d) = I.Load (plain_designator d)
    plain_expr (Guard' _ d tags) = guarded tags (I.Load (plain_designator d))
    plain_expr (Unary' operator _ x) = I.Apply operator (plain_expr x)
    plain_expr (Chain' _ x _ links) = plain_links links (plain_expr x)
    plain_expr (Compare' relation _ x _ y) = I.Compare relation (plain_expr x) (plain_expr y)
    plain_expr (CompareTexts' relation _ d _ e) = I.CompareTexts relation (plain_designator d) (plain_designator e)
    plain_expr (In' _ x _ s) = I.In (plain_expr x) (plain_expr s)
    plain_expr (IsPointer' _ x tag) = I.IsPointer (plain_expr x) tag
    plain_expr (IsParameter d tag) = I.IsParameter (plain_designator d) tag
    plain_expr (Byte' _ x) = I.AsByte (plain_expr x)
    plain_expr (Length d) = I.Length (plain_designator d)
    plain_expr (Call' _ c) = I.Result (plain_call c)

    -- a value and what is done to it by one link after the other
    pub plain_links : {m : _} → Row_of-Link m → I.Expr → I.Expr
    plain_links end_of-Link x = x
    plain_links (more_of-Link l rest) x = plain_links rest (I.Linked x (plain_link l))

    pub plain_link : Link → I.Link
    plain_link (Operate operator y) = I.Operate operator (plain_expr y)
    plain_link (And y) = I.And (plain_expr y)
    plain_link (Or y) = I.Or (plain_expr y)
    plain_link (Element y) = I.Element (plain_expr y)
    plain_link (Elements' _ y _ z) = I.Elements (plain_expr y) (plain_expr z)

    pub plain_designator : Designator → I.Designator
    plain_designator (Whole b kind) = I.of_type (plain_base b) (shape_of_kind t kind)
    plain_designator (Part' _ b kind _ selectors) = I.of_type (plain_selectors selectors (plain_base b)) (shape_of_kind t kind)

    -- a place and what one selector after the other leads to
    pub plain_selectors : {m : _} → Row_of-Selector m → I.Place → I.Place
    plain_selectors end_of-Selector place = place
    plain_selectors (more_of-Selector s rest) place = plain_selectors rest (plain_selector s place)

    pub plain_selector : Selector → I.Place → I.Place
    plain_selector (Index length element index) place = I.Index place length (shape_of t element) (plain_expr index)
    plain_selector (Field adder number) place = I.Field place adder number
    plain_selector (Dereference tags) place = I.Dereference (guarded tags (pointer_at place))
    plain_selector (Narrow tag) place = I.Narrow place tag

    pub plain_call : Call → I.Call
    plain_call (Direct' f _ xs) = I.Direct f (plain_arguments xs)
    plain_call (Indirect' d _ xs) = I.Indirect (plain_designator d) (plain_arguments xs)

    pub plain_arguments : {m : _} → Row_of-Argument m → I.Arguments
    plain_arguments end_of-Argument = I.no_argument
    plain_arguments (more_of-Argument x rest) = I.next_argument (plain_argument x) (plain_arguments rest)

    pub plain_argument : Argument → I.Argument
    plain_argument (ByValue x) = I.ByValue (plain_expr x)
    plain_argument (ByPlace d) = I.ByPlace (plain_designator d)
    plain_argument (ByRecord d) = I.ByRecord (plain_designator d)
    plain_argument (ByOpen d) = I.ByOpen (plain_designator d)

  -- a whole expression
  abbrev pub plain_checked : Checked → I.Checked
  plain_checked x = record { form = plain_expr x.form; shape = shape_of_kind t x.kind }

  abbrev mutual
    pub plain_statement : Stmt → I.Statement
    plain_statement (Assign d x) = I.Assign (plain_designator d) (plain_checked x)
    plain_statement (CopyArray d e) = I.CopyArray (plain_designator d) (plain_designator e)
    plain_statement (CopyRecord d e) = I.CopyRecord (plain_designator d) (plain_designator e)
    plain_statement (Increase d x) = I.Increase (plain_designator d) (plain_checked x)
    plain_statement (Decrease d x) = I.Decrease (plain_designator d) (plain_checked x)
    plain_statement (Include d x) = I.Include (plain_designator d) (plain_checked x)
    plain_statement (Exclude d x) = I.Exclude (plain_designator d) (plain_checked x)
    plain_statement (New d) = I.New (plain_designator d)
    plain_statement (Assert x) = I.Assert (plain_checked x)
    plain_statement (OutChar x) = I.OutChar (plain_checked x)
    plain_statement (OutInt x n) = I.OutInt (plain_checked x) (plain_checked n)
    plain_statement (OutString d) = I.OutString (plain_designator d)
    plain_statement OutLn = I.OutLn
    plain_statement (InChar d) = I.InChar (plain_designator d)
    plain_statement (Invoke c) = I.Invoke (plain_call c)
    plain_statement (If' _ branches _ other) = I.If (plain_branches branches) (plain_statements other)
    plain_statement (While' _ branches) = I.While (plain_branches branches)
    plain_statement (Repeat' _ body x) = I.Repeat (plain_statements body) (plain_checked x)
    plain_statement (For' _ d x y step _ body) = I.For (plain_designator d) (plain_checked x) (plain_checked y) step (plain_statements body)
    plain_statement (Case' x _ parts) = I.Case (plain_checked x) (plain_case_parts parts)
    plain_statement (CasePointer' x _ parts) = I.CasePointer (plain_checked x) (plain_type_parts parts)
    plain_statement (CaseParameter' d _ parts) = I.CaseParameter (plain_designator d) (plain_type_parts parts)

    pub plain_statements : {m : _} → Row_of-Stmt m → I.Statements
    plain_statements end_of-Stmt = I.no_statement
    plain_statements (more_of-Stmt s rest) = I.next_statement (plain_statement s) (plain_statements rest)

    pub plain_branches : {m : _} → Row_of-Branch m → I.Branches
    plain_branches end_of-Branch = I.no_branch
    plain_branches (more_of-Branch x _ body rest) = I.next_branch (plain_checked x) (plain_statements body) (plain_branches rest)

    pub plain_case_parts : {m : _} → Row_of-CasePart m → I.Parts
    plain_case_parts end_of-CasePart = I.no_part
    plain_case_parts (more_of-CasePart labels _ body rest) = I.next_part (I.Labels labels) (plain_statements body) (plain_case_parts rest)

    pub plain_type_parts : {m : _} → Row_of-TypePart m → I.Parts
    plain_type_parts end_of-TypePart = I.no_part
    plain_type_parts (more_of-TypePart tag _ body rest) = I.next_part (I.Extends tag) (plain_statements body) (plain_type_parts rest)

  -- a procedure's statements
  abbrev pub plain_body : List Stmt → I.Statements
  plain_body [] = I.no_statement
  plain_body (s ∷ ss) = I.next_statement (plain_statement s) (plain_body ss)

-- ---- declarations

-- a constant, among modules with these bytes: a string is a part of its module's text
abbrev pub plain_constant : (sources : List (List ℕ)) → Constant → I.Constant
plain_constant sources (TheConstant.Int z) = I.Bits Integer (unsigned z)
plain_constant sources (TheConstant.Bool b) = I.Bits Boolean (truth b)
plain_constant sources (TheConstant.Char c) = I.Bits Char c
plain_constant sources (TheConstant.Set s) = I.Bits Set s
plain_constant sources (TheConstant.Text m from to) = I.Chars (part (slice_index_or sources m []) from to)
plain_constant sources TheConstant.Nil = I.Bits Nil 0

module _ (t : Table) where
  abbrev pub plain_entity : List (List ℕ) → Entity → I.Entity
  plain_entity sources (TheEntity.Constant c) = I.OfConstant (plain_constant sources c)
  plain_entity sources (TheEntity.Type k) = I.OfType (shape_of t k)
  plain_entity sources (TheEntity.Variable v) = I.OfVariable v
  plain_entity sources (TheEntity.Procedure f) = I.OfProcedure f

  abbrev pub plain_object : List (List ℕ) → Object → I.Declared
  plain_object sources o = record { name = o.name; exported = o.exported; entity = plain_entity sources o.entity }

  abbrev pub plain_module : List (List ℕ) → Module → I.Module
  plain_module sources m = record { name = m.name; objects = map (plain_object sources) m.objects; variables = map (shape_of t) m.variables; body = m.body }

  abbrev pub plain_formal : FormalOf → I.Formal
  plain_formal x = record { mode = x.mode; variable = x.variable; shape = shape_of t x.type_number }

  abbrev pub plain_procedure : Procedure → I.Procedure
  plain_procedure q = record {
    module_number = q.«module»;
    line = q.line;
    is_body = q.is_body;
    formals = map plain_formal q.formals;
    result = shape_of t q.result;
    locals = map (shape_of t) q.locals;
    texts = q.texts;
    body = plain_body t q.texts q.body;
    answer = option_map (plain_checked t q.texts) q.answer;
  }

  abbrev pub plain_field : FieldOf → Added
  plain_field f = record { name = f.name; exported = f.exported; shape = shape_of t f.type_number }

  abbrev pub plain_record : RecordOf → I.RecordType
  plain_record r = record { module_number = r.«module»; base = r.base; level = r.level; fields = map plain_field r.fields; cells = r.cells; extent = r.extent }

-- the whole program, its modules' texts having these bytes
abbrev pub plain_program : (sources : List (List ℕ)) → Program → I.Program
plain_program sources p = record {
  records = map (plain_record p.types) p.types.records;
  pointers = pointer_bases p.types.kinds;
  modules = map (plain_module p.types sources) p.modules;
  procedures = map (plain_procedure p.types) p.procedures;
  imports_in = p.imports_in;
}
