-- What a checked program does: a recursion on its tree and, for loops and calls, on a number that is never met before its turns are used up.
--
-- A turn is spent where a WHILE or FOR begins to try its guards and a REPEAT to evaluate its condition; where a procedure is called, behind
-- its arguments and the test for NIL and before the traps of the call, and where it returns; for each cell of a structured local variable that
-- is set to zero at a call; where an array, a record or a string begins to be copied, and for each cell; for each position at which two texts
-- are compared. Nothing else spends one.
use Rattle.std.specs.Prelude.{ℕ, zero, suc, ◌+◌, List, [], ◌∷◌, ◌++◌, map, length, take, filter, flat_map, sum_by, replicate, Bool, true, false, Option, Some, None, slice_get, slice_index_or, nat_lt, nat_le}
use Rattle.run_laws.specs.Runs.{Outcome}
use Rattle.run_laws.specs.Turns.{Gives, Spent, after, ◌>>=◌, give, look, spend, repeat, until_so, outcome}
use Rattle.ob_types.specs.Layout.{kind_of, cells, cells_of_all, record_cells, field_place, extends}
use Rattle.ob_types.specs.Store.{Cell, Bits, Code, Area, Globals, Frames, Strings, Store, Trap, Act, given, Handed, At, Sized, Tagged, Value, Here, unless, spend_all}
use Rattle.ob_types.specs.Operators.{labels_have}
use Rattle.ob_types.specs.Expressions.{element_place, field_of, object_of, narrowed, load, all_guarded, one_operand, two_operands, both, either, compared, texts_compared, contained, with_element, with_range, pointer_type, parameter_type, is_of, type_test, as_byte, length_of, by_value, by_place, by_record, by_open, cons, Calls, called_by_number, called_by_value, result_of}
use Rattle.ob_types.specs.Statements.{Deed, skip, assign, copy_array, copy_record, change_number, change_set, new, assert, out_char, out_int, out_string, in_char, otherwise, test, try, for, case, type_case}
use Rattle.ob_types.specs.declared.types.TypeKind.{TypeKind}
use Rattle.ob_types.specs.declared.types.TypeKind.TheVariants.{Array, Record, Pointer}
use Rattle.ob_types.specs.declared.types.TypeKind.TheVariants.{Byte as ByteKind, Text as TextKind}
use Rattle.ob_types.specs.declared.types.Mode.{Mode}
use Rattle.ob_types.specs.declared.types.Mode.TheVariants.{Place}
use Rattle.ob_types.specs.declared.types.Mode.TheVariants.{Value as OfValue, Record as OfRecord, Open as OfOpen}
use Rattle.ob_types.specs.declared.types.Formal.{Formal}
use Rattle.ob_types.specs.declared.tree.Binary.TheVariants.{Add, Subtract, Union, Difference}
use Rattle.ob_types.specs.declared.tree.Expr.{Expr, Literal, Routine, Load, Guard', Unary', Chain', Compare', CompareTexts', In', IsPointer', IsParameter, Byte', Length, Call', Row_of-Link, end_of-Link, more_of-Link}
use Rattle.ob_types.specs.declared.tree.Link.{Link, Operate, And, Or, Element, Elements'}
use Rattle.ob_types.specs.declared.tree.Base.{Base}
use Rattle.ob_types.specs.declared.tree.Base.TheVariants.{Done, Global, Local, Parameter, Text}
use Rattle.ob_types.specs.declared.tree.Designator.{Designator, Whole, Part', Row_of-Selector, end_of-Selector, more_of-Selector}
use Rattle.ob_types.specs.declared.tree.Selector.{Selector, Index, Field, Dereference, Narrow}
use Rattle.ob_types.specs.declared.tree.Call.{Call, Direct', Indirect', Row_of-Argument, end_of-Argument, more_of-Argument}
use Rattle.ob_types.specs.declared.tree.Argument.{Argument, ByValue, ByPlace, ByRecord, ByOpen}
use Rattle.ob_types.specs.declared.statements.Checked.{Checked}
use Rattle.ob_types.specs.declared.statements.Stmt.{Stmt, Assign, CopyArray, CopyRecord, Increase, Decrease, Include, Exclude, New, Assert, OutChar, OutInt, OutString, OutLn, InChar, If', While', Repeat', For', Case', CasePointer', CaseParameter', Row_of-Stmt, end_of-Stmt, more_of-Stmt, Row_of-Branch, end_of-Branch, more_of-Branch, Row_of-CasePart, end_of-CasePart, more_of-CasePart, Row_of-TypePart, end_of-TypePart, more_of-TypePart}
use Rattle.ob_types.specs.declared.statements.Stmt.{Call as Invoke}
use Rattle.ob_types.specs.declared.program.Module.{Module}
use Rattle.ob_types.specs.declared.program.Procedure.{Procedure}
use Rattle.ob_types.specs.declared.program.Program.{Program}

-- what stands for a procedure that isn't there
abbrev pub no_procedure : Procedure
no_procedure = record { «module» = 0; line = 0; is_body = false; formals = []; result = 0; locals = []; texts = []; body = []; answer = None }

-- a procedure by its number
abbrev pub procedure_of : Program → ℕ → Procedure
procedure_of p f = slice_index_or p.procedures f no_procedure

-- the types of a module's variables
abbrev pub globals_of : Program → ℕ → List ℕ
globals_of p m = (slice_index_or p.modules m (record { name = []; objects = []; variables = []; body = 0 })).variables

abbrev pub is_value : Mode → Bool
is_value OfValue = true
is_value _ = false

-- the types of the scalar value parameters and the local variables
abbrev pub locals_of : Procedure → List ℕ
locals_of q = map (λ x. x.type_number) (filter (λ x. is_value x.mode) q.formals) ++ q.locals

-- the characters of all uses of strings as arrays, procedure by procedure; where a procedure's k-th stands among them
abbrev pub texts_of : List Procedure → List (List ℕ)
texts_of qs = flat_map (λ q. q.texts) qs

abbrev pub text_number : Program → ℕ → ℕ → ℕ
text_number p f k = length (texts_of (take f p.procedures)) + k

-- a variable of a module or of a call: it stands behind the cells of those before it
abbrev pub variable_of : Program → Area → ℕ → List ℕ → ℕ → Handed
variable_of p area object variables v = At (record { area = area; object = object; cell = cells_of_all p.types (take v variables) })

-- the type that a designator has
abbrev pub kind_in : Designator → TypeKind
kind_in (Whole b k) = k
kind_in (Part' _ b k _ row) = k

-- the length of an array or a string, where the type has one: a string has a 0X behind its characters
abbrev pub length_of_kind : TypeKind → Option ℕ
length_of_kind (Array n element) = n
length_of_kind (TextKind n) = Some (suc n)
length_of_kind _ = None

-- the type of an array's elements
abbrev pub element_kind : TypeKind → ℕ
element_kind (Array n element) = element
element_kind _ = 0

-- the record type of a record, or of a pointer's objects
abbrev pub record_of_kind : TypeKind → ℕ
record_of_kind (Record r) = r
record_of_kind (Pointer r) = r
record_of_kind _ = 0

abbrev pub is_byte : TypeKind → Bool
is_byte ByteKind = true
is_byte _ = false

module _ (p : Program) (calls : Calls) (here : Here) where
  -- where a designator begins
  abbrev pub base_of : Base → Act Handed
  base_of Done = give (At (record { area = Globals; object = 0; cell = 0 }))
  base_of (Global m v) = give (variable_of p Globals (suc m) (globals_of p m) v)
  base_of (Local v) = give (variable_of p Frames here.frame (locals_of (procedure_of p here.procedure)) v)
  base_of (Parameter k) = given (slice_get here.arguments k)
  base_of (Text k) = give (At (record { area = Strings; object = text_number p here.procedure k; cell = 0 }))

  abbrev mutual
    pub value : Expr → Act Cell
    value (Literal n) = give (Bits n)
    value (Routine g) = give (Code g)
    value (Load d) = load (designated d)
    value (Guard' _ d rs) = all_guarded here.procedure (extends p.types) (load (designated d)) rs
    value (Unary' op _ x) = one_operand op (value x)
    value (Chain' _ x _ links) = linked links (value x)
    value (Compare' r _ x _ y) = compared r (value x) (value y)
    value (CompareTexts' r _ d _ e) = texts_compared r (designated d) (length_of_kind (kind_in d)) (designated e) (length_of_kind (kind_in e))
    value (In' _ x _ s) = contained here.procedure (value x) (value s)
    value (IsPointer' _ x r) = type_test (extends p.types) (pointer_type (value x)) r
    value (IsParameter d r) = type_test (extends p.types) (parameter_type (designated d)) r
    value (Byte' _ x) = as_byte here.procedure (value x)
    value (Length d) = length_of (designated d) (length_of_kind (kind_in d))
    value (Call' _ c) = result_of (called c)

    -- what the links make of a value, one after the other
    pub linked : {m : _} → Row_of-Link m → Act Cell → Act Cell
    linked end_of-Link x = x
    linked (more_of-Link l rest) x = linked rest (link l x)

    pub link : Link → Act Cell → Act Cell
    link (Operate op y) x = two_operands here.procedure op x (value y)
    link (And y) x = both x (value y)
    link (Or y) x = either x (value y)
    link (Element y) x = with_element here.procedure x (value y)
    link (Elements' _ y _ z) x = with_range here.procedure x (value y) (value z)

    -- what a designator names: its address, and what goes with it
    pub designated : Designator → Act Handed
    designated (Whole b k) = base_of b
    designated (Part' _ b k _ selectors) = selected selectors (base_of b)

    -- where the selectors lead to, one after the other
    pub selected : {m : _} → Row_of-Selector m → Act Handed → Act Handed
    selected end_of-Selector d = d
    selected (more_of-Selector s rest) d = selected rest (select s d)

    pub select : Selector → Act Handed → Act Handed
    select (Index n element x) d = element_place here.procedure d n (cells p.types element) (value x)
    select (Field r field) d = field_of d (field_place p.types r field)
    select (Dereference rs) d = object_of here.procedure (all_guarded here.procedure (extends p.types) (load d) rs)
    select (Narrow r) d = narrowed here.procedure (extends p.types) d r

    pub called : Call → Act (Option Cell)
    called (Direct' g _ args) = called_by_number calls g (arguments args)
    called (Indirect' d _ args) = called_by_value here.procedure calls (load (designated d)) (arguments args)

    pub argument : Argument → Act Handed
    argument (ByValue x) = by_value (value x)
    argument (ByPlace d) = by_place (designated d)
    argument (ByRecord d) = by_record (designated d) (record_of_kind (kind_in d))
    argument (ByOpen d) = by_open (designated d) (length_of_kind (kind_in d))

    pub arguments : {m : _} → Row_of-Argument m → Act (List Handed)
    arguments end_of-Argument = give []
    arguments (more_of-Argument x rest) = cons (argument x) (arguments rest)

  module _ (fuel : ℕ) where
    abbrev mutual
      pub effect : Stmt → Deed
      effect (Assign d x) = assign (designated d) (value x.form)
      effect (CopyArray d e) = copy_array here.procedure (designated d) (length_of_kind (kind_in d)) (designated e) (length_of_kind (kind_in e)) (cells p.types (element_kind (kind_in d)))
      effect (CopyRecord d e) = copy_record (designated d) (designated e) (record_cells p.types (record_of_kind (kind_in d)))
      effect (Increase d x) = change_number here.procedure Add (designated d) (value x.form) (is_byte (kind_in d))
      effect (Decrease d x) = change_number here.procedure Subtract (designated d) (value x.form) (is_byte (kind_in d))
      effect (Include d x) = change_set here.procedure Union (designated d) (value x.form)
      effect (Exclude d x) = change_set here.procedure Difference (designated d) (value x.form)
      effect (New d) = new here.procedure (designated d) (record_of_kind (kind_in d)) (record_cells p.types (record_of_kind (kind_in d)))
      effect (Assert x) = assert here.procedure (value x.form)
      effect (OutChar x) = out_char (value x.form)
      effect (OutInt x n) = out_int (value x.form) (value n.form)
      effect (OutString d) = out_string (designated d) (length_of_kind (kind_in d))
      effect OutLn = out_char (give (Bits 10))
      effect (InChar d) = in_char (designated d)
      effect (Invoke c) = called c >>= λ _. skip
      effect (If' _ parts _ other) = otherwise (branches parts) (effects other)
      effect (While' _ parts) = repeat fuel (branches parts)
      effect (Repeat' _ body x) = until_so fuel (effects body) (test (value x.form))
      effect (For' _ d x y step _ body) = for fuel (designated d) (value x.form) (value y.form) step (effects body)
      effect (Case' x _ parts) = case here.procedure (value x.form) (λ v. case_parts v parts)
      effect (CasePointer' x _ parts) = type_case (pointer_type (value x.form)) (λ t. type_parts t parts)
      effect (CaseParameter' d _ parts) = type_case (parameter_type (designated d)) (λ t. type_parts t parts)

      pub effects : {m : _} → Row_of-Stmt m → Deed
      effects end_of-Stmt = skip
      effects (more_of-Stmt s rest) = effect s >>= λ _. effects rest

      -- the first part whose condition holds, that has the value, that fits the dynamic type; whether there is one
      pub branches : {m : _} → Row_of-Branch m → Act Bool
      branches end_of-Branch = give false
      branches (more_of-Branch x _ body rest) = try (test (value x.form)) (effects body) (branches rest)

      pub case_parts : ℕ → {m : _} → Row_of-CasePart m → Act Bool
      case_parts v end_of-CasePart = give false
      case_parts v (more_of-CasePart labels _ body rest) = try (give (labels_have v labels)) (effects body) (case_parts v rest)

      pub type_parts : Option ℕ → {m : _} → Row_of-TypePart m → Act Bool
      type_parts t end_of-TypePart = give false
      type_parts t (more_of-TypePart r _ body rest) = try (give (is_of (extends p.types) t r)) (effects body) (type_parts t rest)

    abbrev pub effects_of : List Stmt → Deed
    effects_of [] = skip
    effects_of (s ∷ ss) = effect s >>= λ _. effects_of ss

  -- the expression behind RETURN
  abbrev pub answer : Option Checked → Act (Option Cell)
  answer None = give None
  answer (Some x) = do
    c ← value x.form
    give (Some c)

-- one argument, handed over as its parameter wants: a value becomes a cell
abbrev pub receives : Mode → Handed → Option (List Cell) → Option (List Cell)
receives OfValue (Value c) (Some cs) = Some (c ∷ cs)
receives Place (At a) cs = cs
receives OfRecord (Tagged a t) cs = cs
receives OfOpen (Sized a n) cs = cs
receives _ _ _ = None

-- the cells of the scalar value parameters
abbrev pub received : List Formal → List Handed → Option (List Cell)
received [] [] = Some []
received (x ∷ xs) (h ∷ hs) = receives x.mode h (received xs hs)
received _ _ = None

-- the cells of a variable that is an array or a record
abbrev pub structured_by : TypeKind → ℕ → ℕ
structured_by (Array n element) cells = cells
structured_by (Record r) cells = cells
structured_by _ cells = 0

-- the cells of the local variables that are arrays or records
abbrev pub zeroed : Program → Procedure → ℕ
zeroed p q = sum_by (λ k. structured_by (kind_of p.types k) (cells p.types k)) q.locals

-- the cells of all active calls
abbrev pub cells_in : List (List Cell) → ℕ
cells_in frames = sum_by (λ cs. length cs) frames

-- a call's own object while a part is done
abbrev pub within : {A : Type 0} → List Cell → (ℕ → Act A) → Act A
within cells body s = after (body (length s.store.frames) (record s { store = record s.store { frames = s.store.frames ++ cells ∷ [] } })) (λ a t.
    Gives a (record t { store = record t.store { frames = take (length s.store.frames) t.store.frames } }))

-- what a call does behind its first turn: traps 8 and 9, a turn for each cell of its structured variables, the body, the result, a turn
abbrev pub invoked : Program → Calls → ℕ → Calls
invoked p calls fuel f hs =
    let q = procedure_of p f in
    let own = cells_of_all p.types q.locals in do
      values ← given (received q.formals hs)
      frames ← look (λ s. s.frames)
      _ ← unless f 8 (nat_lt (length frames) 8192)
      _ ← unless f 9 (nat_le (cells_in frames + (length values + own)) 1048576)
      _ ← spend_all (zeroed p q)
      within (values ++ replicate own (Bits 0)) (λ frame.
          let here : Here = record { procedure = f; frame = frame; arguments = hs } in do
            _ ← effects_of p calls here fuel q.body
            c ← answer p calls here q.answer
            _ ← spend
            give c)

-- what calls do, for at most so many turns
abbrev pub at_most : Program → ℕ → Calls
at_most p zero f hs s = Spent s.out
at_most p (suc fuel) f hs s = (do
  _ ← spend
  invoked p (at_most p fuel) fuel f hs) s

-- the bodies of modules, one after the other
abbrev pub bodies : Program → ℕ → List Module → Deed
bodies p fuel [] = skip
bodies p fuel (m ∷ ms) = do
  _ ← effects_of p (at_most p fuel) (record { procedure = m.body; frame = 0; arguments = [] }) fuel (procedure_of p m.body).body
  bodies p fuel ms

-- variables begin as 0, FALSE, 0X, {} and NIL
abbrev pub zeros : Program → List ℕ → List Cell
zeros p variables = replicate (cells_of_all p.types variables) (Bits 0)

-- the store before the first body
abbrev pub start : Program → List ℕ → Store
start p input = record {
  globals = (Bits 0 ∷ []) ∷ map (λ m. zeros p m.variables) p.modules;
  frames = [];
  heap = [];
  tags = [];
  strings = map (λ xs. map Bits xs ++ Bits 0 ∷ []) (texts_of p.procedures);
  input = input;
}

-- the program on an input with n turns
abbrev pub meaning : Program → List ℕ → ℕ → Outcome Trap
meaning p input n = outcome (bodies p n p.modules (record { store = start p input; out = []; turns = n }))
