-- The procedures of a checked program, by recursion on its tree.
use Rattle.std.specs.Prelude.{ℕ, suc, ◌+◌, ◌-◌, ◌*◌, ◌&&◌, pos, ℤ, int_lt, List, [], ◌∷◌, ◌++◌, map, take, min, Bool, true, false, not, Option, Some, None, slice_get, slice_index_or, if◌then◌else◌}
use Rattle.wrapping_numbers.specs.Numbers.{unsigned}
use Rattle.ob_types.specs.Layout.{record_of, cells_of_all, record_cells}
use Rattle.ob_types.specs.Meaning.{locals_of, text_number, kind_in, length_of_kind, element_kind, record_of_kind, is_byte}
use Rattle.ob_types.specs.declared.types.TypeKind.TheVariants.{Bool as Boolean}
use Rattle.ob_types.specs.declared.types.Mode.{Mode}
use Rattle.ob_types.specs.declared.types.Mode.TheVariants.{Record as OfRecord, Open as OfOpen}
use Rattle.ob_types.specs.declared.types.Formal.{Formal}
use Rattle.ob_types.specs.declared.tree.Binary.TheVariants.{Add, Subtract, Union, Difference}
use Rattle.ob_types.specs.declared.tree.Unary.{Unary}
use Rattle.ob_types.specs.declared.tree.Unary.TheVariants.{Not}
use Rattle.ob_types.specs.declared.tree.Expr.{Expr, Literal, Routine, Load, Guard', Unary', Chain', Compare', CompareTexts', In', IsPointer', IsParameter, Byte', Length, Call', Row_of-Link, end_of-Link, more_of-Link}
use Rattle.ob_types.specs.declared.tree.Link.{Link, Operate, And, Or, Element, Elements'}
use Rattle.ob_types.specs.declared.tree.Base.{Base}
use Rattle.ob_types.specs.declared.tree.Base.TheVariants.{Done, Global, Local, Parameter, Text}
use Rattle.ob_types.specs.declared.tree.Designator.{Designator, Whole, Part', Row_of-Selector, end_of-Selector, more_of-Selector}
use Rattle.ob_types.specs.declared.tree.Selector.{Selector, Index, Field, Dereference, Narrow}
use Rattle.ob_types.specs.declared.tree.Call.{Call, Direct', Indirect', Row_of-Argument, end_of-Argument, more_of-Argument}
use Rattle.ob_types.specs.declared.tree.Argument.{Argument, ByValue, ByPlace, ByRecord, ByOpen}
use Rattle.ob_types.specs.declared.statements.Checked.{Checked}
use Rattle.ob_types.specs.declared.statements.Label.{Label}
use Rattle.ob_types.specs.declared.statements.Label.TheVariants.{One, Range}
use Rattle.ob_types.specs.declared.statements.Stmt.{Stmt, Assign, CopyArray, CopyRecord, Increase, Decrease, Include, Exclude, New, Assert, OutChar, OutInt, OutString, OutLn, InChar, If', While', Repeat', For', Case', CasePointer', CaseParameter', Row_of-Stmt, end_of-Stmt, more_of-Stmt, Row_of-Branch, end_of-Branch, more_of-Branch, Row_of-CasePart, end_of-CasePart, more_of-CasePart, Row_of-TypePart, end_of-TypePart, more_of-TypePart}
use Rattle.ob_types.specs.declared.statements.Stmt.{Call as Invoke}
use Rattle.ob_types.specs.declared.program.Procedure.{Procedure}
use Rattle.ob_types.specs.declared.program.Program.{Program}
use Rattle.block_runs.specs.declared.end.End.{End}
use Rattle.block_runs.specs.declared.end.End.TheVariants.{Jump, Return, Trap}
use Rattle.ssa_core.specs.declared.procedure.Proc.{Proc}
use Rattle.ssa_lowered.specs.Data.{Layout, layout, in_cells, rounded, global_at, descriptor_at, text_at, within}
use Rattle.ssa_lowered.specs.Pieces.{Cursor, Start, Made, Low, give, ◌>>=◌, skip, numbers, Mask, blocks_of}
use Rattle.ssa_lowered.specs.Values.{const, condition, Named, At, Beside, Held, data_at, local_at, element, field, dereferenced, narrowed, unary, binary, compared, texts_compared, routine, guarded, contained, with_element, with_range, is_pointer, is_tag, tag_of, as_byte, length_of, by_word, address, by_record, by_open, also, Request, call, call_at, with_result, without_result, Home, home_of, load}
use Rattle.ssa_lowered.specs.Control.{Test, fork_value, fork_branch, fork_not, fork_and, fork_or, Lowers, valued, tested, choose, Round, loop, repeat, for, Rung, case}
use Rattle.ssa_lowered.specs.Statements.{Deed, assign, change_number, change_set, new, copy_array, copy_record, assert, out_char, out_int, out_string, in_char}
use Rattle.ssa_lowered.specs.Variables.{lent_by_list, lent_by_answer, either, itself, assigned_all, assigned_branches, assigned_case_parts, assigned_type_parts, words_of, Site, Register, Memory, Variable, some_structured, structured_room, scalars_lent, placed, value_parameters, further, zeroing, stored, opened}

-- the procedure that is lowered, its number, where its variables are, and the bytes of its local data
pub record Here : Type 0 where
  pub procedure : Procedure
  pub number : ℕ
  pub variables : List Variable
  pub bytes : ℕ

-- what a parameter names: argument word w is value w
abbrev pub by_mode : Mode → ℕ → Named
by_mode OfRecord w = Beside w (suc w)
by_mode OfOpen w = Beside w (suc w)
by_mode _ w = At w

-- where there is none, a value is made here
abbrev pub parameter_by : Option Formal → ℕ → Low Named
parameter_by (Some x) w = give (by_mode x.mode w)
parameter_by None w = do
  a ← const 0
  give (At a)

-- `~` exchanges the targets
abbrev pub one_of : Unary → Lowers → Lowers
one_of Not x = record { value = unary Not x.value; test = fork_not x.test }
one_of op x = valued (unary op x.value)

module _ (p : Program) (l : Layout) (here : Here) where
  abbrev pub variable_of : ℕ → Variable
  variable_of x = slice_index_or here.variables x (record { type_number = 0; word = None; site = Register })

  abbrev pub parameter : ℕ → Low Named
  parameter k = parameter_by (slice_get here.procedure.formals k) (words_of (take k here.procedure.formals))

  abbrev pub local_by : Site → ℕ → Low Named
  local_by Register x = give (Held x)
  local_by (Memory n) x = local_at (here.bytes - n)

  abbrev pub descriptor : ℕ → ℕ
  descriptor r = within (descriptor_at p l r)

  -- the level of a record type
  abbrev pub level : ℕ → ℕ
  level r = (record_of p.types r).level

  -- where a designator begins
  abbrev pub based : Base → Low Named
  based Done = data_at 0
  based (Global m v) = data_at (global_at p l m v)
  based (Local x) = local_by (variable_of x).site x
  based (Parameter k) = parameter k
  based (Text k) = data_at (within (text_at p l (text_number p here.number k)))

  -- guarded by all of these, one after the other
  abbrev pub all_guarded : List ℕ → Low ℕ → Low ℕ
  all_guarded [] x = x
  all_guarded (r ∷ rs) x = all_guarded rs (guarded x (descriptor r) (level r))

  -- whether what a designator names takes one byte
  abbrev pub small : Designator → Bool
  small d = l.is_small (kind_in d)

  abbrev mutual
    pub expr : Expr → Lowers
    expr (Literal n) = valued (const n)
    expr (Routine g) = valued (routine g)
    expr (Load d) = valued (load (home_of (named d) (small d)))
    expr (Guard' _ d rs) = valued (all_guarded rs (load (home_of (named d) (small d))))
    expr (Unary' op _ x) = one_of op (expr x)
    expr (Chain' _ x _ links) = linked links (expr x)
    expr (Compare' r _ x _ y) = record { value = compared r (expr x).value (expr y).value; test = fork_branch (condition r) (expr x).value (expr y).value }
    expr (CompareTexts' r _ d _ e) = valued (texts_compared l.character r (named d) (length_of_kind (kind_in d)) (named e) (length_of_kind (kind_in e)))
    expr (In' _ x _ s) = valued (contained (expr x).value (expr s).value)
    expr (IsPointer' _ x r) = valued ((expr x).value >>= is_pointer (descriptor r) (level r))
    expr (IsParameter d r) = valued (tag_of (named d) >>= is_tag (descriptor r) (level r))
    expr (Byte' _ x) = valued (as_byte (expr x).value)
    expr (Length d) = valued (length_of (named d) (length_of_kind (kind_in d)))
    expr (Call' _ c) = valued (with_result (called c))

    -- what the links make of an expression, one after the other
    pub linked : {m : _} → Row_of-Link m → Lowers → Lowers
    linked end_of-Link x = x
    linked (more_of-Link k more) x = linked more (link k x)

    pub link : Link → Lowers → Lowers
    link (Operate op y) x = valued (binary op x.value (expr y).value)
    link (And y) x = tested (fork_and x.test (expr y).test)
    link (Or y) x = tested (fork_or x.test (expr y).test)
    link (Element y) x = valued (with_element x.value (expr y).value)
    link (Elements' _ y _ z) x = valued (with_range x.value (expr y).value (expr z).value)

    pub named : Designator → Low Named
    named (Whole b k) = based b
    named (Part' _ b k _ selectors) = selected selectors (based b)

    -- where the selectors lead to, one after the other
    pub selected : {m : _} → Row_of-Selector m → Low Named → Low Named
    selected end_of-Selector d = d
    selected (more_of-Selector s more) d = selected more (select s d)

    -- a pointer takes eight bytes
    pub select : Selector → Low Named → Low Named
    select (Index n k x) d = element d n (l.bytes k) (expr x).value
    select (Field r k) d = field d (l.offset r k)
    select (Dereference rs) d = dereferenced (all_guarded rs (load (home_of d false)))
    select (Narrow r) d = narrowed d (descriptor r) (level r)

    pub called : Call → Low Request
    called (Direct' g _ args) = call g (arguments args)
    called (Indirect' d _ args) = call_at (load (home_of (named d) (small d))) (arguments args)

    -- a record goes with its own type's descriptor where it has no dynamic type
    pub argument : Argument → Low (List ℕ)
    argument (ByValue x) = by_word (expr x).value
    argument (ByPlace d) = by_word (address (named d))
    argument (ByRecord d) = by_record (named d) (descriptor (record_of_kind (kind_in d)))
    argument (ByOpen d) = by_open (named d) (length_of_kind (kind_in d))

    pub arguments : {m : _} → Row_of-Argument m → Low (List ℕ)
    arguments end_of-Argument = give []
    arguments (more_of-Argument x more) = also (argument x) (arguments more)

  abbrev pub value : Checked → Low ℕ
  value x = (expr x.form).value

  abbrev pub test : Checked → Test
  test x = (expr x.form).test

  abbrev pub home : Designator → Low Home
  home d = home_of (named d) (small d)

  -- the register variables of a mask
  abbrev pub in_register : Site → Bool
  in_register Register = true
  in_register (Memory n) = false

  abbrev pub registers : Mask → Mask
  registers mask x = in_register (variable_of x).site && mask x

  -- whether a value is one of a label's, by EQ, or by GE and LE
  abbrev pub label_test : ℕ → Label → Test
  label_test v (One a) = fork_branch 0 (give v) (const (unsigned a))
  label_test v (Range a b) = fork_and (fork_branch 10 (give v) (const (unsigned a))) (fork_branch 13 (give v) (const (unsigned b)))

  -- whether a pointer's object or a tag is of a record type
  abbrev pub type_test : (ℕ → ℕ → ℕ → Low ℕ) → ℕ → ℕ → Test
  type_test is v r = fork_value (is (descriptor r) (level r) v)

  -- the tests of the parts, the i-th first
  abbrev pub rungs_from : ℕ → List (List Test) → List Rung
  rungs_from i [] = []
  rungs_from i (ts ∷ more) = map (λ t. record { test = t; part = i }) ts ++ rungs_from (suc i) more

  -- the selector, the tests of its value for each part, the parts
  abbrev pub case_of : Mask → Low ℕ → (ℕ → List (List Test)) → List Deed → (ℕ → List ℕ → End) → Deed
  case_of mask x tests bodies unmatched = do
    v ← x
    case mask (rungs_from 0 (tests v)) bodies unmatched

  abbrev pub labels_of : {m : _} → Row_of-CasePart m → List (List Label)
  labels_of end_of-CasePart = []
  labels_of (more_of-CasePart labels _ body more) = labels ∷ labels_of more

  abbrev pub records_of : {m : _} → Row_of-TypePart m → List ℕ
  records_of end_of-TypePart = []
  records_of (more_of-TypePart r _ body more) = r ∷ records_of more

  abbrev pub label_tests : {m : _} → Row_of-CasePart m → ℕ → List (List Test)
  label_tests parts v = map (λ ls. map (label_test v) ls) (labels_of parts)

  abbrev pub type_tests : {m : _} → Row_of-TypePart m → (ℕ → ℕ → ℕ → Low ℕ) → ℕ → List (List Test)
  type_tests parts is v = map (λ r. type_test is v r ∷ []) (records_of parts)

  -- FOR: the relation of the variable to the limit where the body is done, LE or GE by the step's sign
  abbrev pub bound : ℤ → ℕ
  bound step = if int_lt (pos 0) step then 13 else 10

  abbrev mutual
    pub deed : Stmt → Deed
    deed (Assign d x) = assign (home d) (value x)
    deed (CopyArray d e) = copy_array (named d) (length_of_kind (kind_in d)) (named e) (length_of_kind (kind_in e)) (l.bytes (element_kind (kind_in d)))
    deed (CopyRecord d e) = copy_record (named d) (named e) (l.record_bytes (record_of_kind (kind_in d)))
    deed (Increase d x) = change_number Add (home d) (value x) (is_byte (kind_in d))
    deed (Decrease d x) = change_number Subtract (home d) (value x) (is_byte (kind_in d))
    deed (Include d x) = change_set Union (home d) (value x)
    deed (Exclude d x) = change_set Difference (home d) (value x)
    deed (New d) = new (home d) (record_cells p.types (record_of_kind (kind_in d))) (rounded (l.record_bytes (record_of_kind (kind_in d)))) (descriptor (record_of_kind (kind_in d)))
    deed (Assert x) = assert (value x)
    deed (OutChar x) = out_char (value x)
    deed (OutInt x n) = out_int (value x) (value n)
    deed (OutString d) = out_string l.character (named d) (length_of_kind (kind_in d))
    deed OutLn = out_char (const 10)
    deed (InChar d) = in_char (named d) (l.is_small Boolean) (small d)
    deed (Invoke c) = without_result (called c)
    deed (If' _ parts _ other) = alternatives parts (assigned_all other) (deeds other)
    deed (While' _ parts) = loop (registers (assigned_branches parts)) (guarded_rounds parts)
    deed (Repeat' _ body x) = repeat (registers (assigned_all body)) (deeds body) (test x)
    deed (For' _ d x y step _ body) =
        for (registers (either (itself d) (assigned_all body))) (bound step) (assign (home d) (value x)) (value y) (load (home d))
        (deeds body >>= λ _. assign (home d) (binary Add (load (home d)) (const (unsigned step))))
    deed (Case' x _ parts) = case_of (registers (assigned_case_parts parts)) (value x) (label_tests parts) (case_bodies parts) (λ out args. Trap 6)
    deed (CasePointer' x _ parts) = case_of (registers (assigned_type_parts parts)) (value x) (type_tests parts is_pointer) (type_bodies parts) (λ out args. Jump out args)
    deed (CaseParameter' d _ parts) = case_of (registers (assigned_type_parts parts)) (tag_of (named d)) (type_tests parts is_tag) (type_bodies parts) (λ out args. Jump out args)

    pub deeds : {m : _} → Row_of-Stmt m → Deed
    deeds end_of-Stmt = skip
    deeds (more_of-Stmt s more) = deed s >>= λ _. deeds more

    -- IF: what is behind a condition that doesn't hold is an IF in its own block, with a join of its own
    pub alternatives : {m : _} → Row_of-Branch m → Mask → Deed → Deed
    alternatives end_of-Branch mask other = other
    alternatives (more_of-Branch x _ body more) mask other = choose (registers (either (assigned_all body) (either (assigned_branches more) mask))) (test x) (deeds body) (alternatives more mask other)

    pub guarded_rounds : {m : _} → Row_of-Branch m → List Round
    guarded_rounds end_of-Branch = []
    guarded_rounds (more_of-Branch x _ body more) = record { test = test x; body = deeds body } ∷ guarded_rounds more

    pub case_bodies : {m : _} → Row_of-CasePart m → List Deed
    case_bodies end_of-CasePart = []
    case_bodies (more_of-CasePart labels _ body more) = deeds body ∷ case_bodies more

    pub type_bodies : {m : _} → Row_of-TypePart m → List Deed
    type_bodies end_of-TypePart = []
    type_bodies (more_of-TypePart r _ body more) = deeds body ∷ type_bodies more

  abbrev pub deeds_of : List Stmt → Deed
  deeds_of [] = skip
  deeds_of (s ∷ more) = deed s >>= λ _. deeds_of more

  -- the expression behind RETURN
  abbrev pub answer : Option Checked → Low (Option ℕ)
  answer None = give None
  answer (Some x) = do
    v ← value x
    give (Some v)

  -- the values that the variables have from here on
  abbrev pub enters : List ℕ → Deed
  enters env c = record { pieces = []; result = tt; after = record c { env = env } }

  -- arguments, what is zeroed, scalars in memory, register variables, the body, the result
  abbrev pub whole : (words zeroed : ℕ) → Low (Option ℕ)
  whole words zeroed = do
    _ ← further 4 (words - 4)
    _ ← zeroing (some_structured p.types here.procedure.locals) here.bytes zeroed
    _ ← stored p.types l here.bytes here.variables
    env ← opened here.variables
    _ ← enters env
    _ ← deeds_of here.procedure.body
    answer here.procedure.answer

-- the first four argument words are the parameters of block 0, which runs 2^20 times
abbrev pub entry : ℕ → Start
entry words = record { params = numbers 0 (min words 4); freq = 1048576; enter = None; seen = [] }

abbrev pub at_entry : ℕ → Cursor
at_entry words = record { block = 0; op = 0; freq = 1048576; values = min words 4; env = []; seen = numbers 0 (min words 4) }

-- the variables that must have addresses
abbrev pub lent_in_body : Procedure → Mask
lent_in_body q = either (lent_by_list q.body) (lent_by_answer q.answer)

abbrev pub zeroed_bytes : Program → Layout → Procedure → ℕ
zeroed_bytes p l q = structured_room p.types l (locals_of q)

abbrev pub here_of : Program → Layout → ℕ → Procedure → Here
here_of p l f q = record {
  procedure = q;
  number = f;
  variables = placed p.types l (lent_in_body q) 0 (zeroed_bytes p l q) (value_parameters 0 q.formals ++ map (λ k. (k, None)) q.locals);
  bytes = zeroed_bytes p l q + 8 * scalars_lent p.types l (lent_in_body q) (locals_of q);
}

-- the pieces of procedure number f, and its result
abbrev pub made_of : Program → Layout → ℕ → Procedure → Made (Option ℕ)
made_of p l f q = whole p l (here_of p l f q) (words_of q.formals) (zeroed_bytes p l q) (at_entry (words_of q.formals))

-- the calls of a module's body aren't counted
abbrev pub proc_of : Program → Layout → ℕ → Procedure → Proc
proc_of p l f q =
    let w = made_of p l f q in
    record {
      blocks = blocks_of (entry (words_of q.formals)) [] (Return w.result) w.pieces;
      values = w.after.values;
      args = words_of q.formals;
      counted = not q.is_body;
      local_cells = cells_of_all p.types (locals_of q);
      local_bytes = (here_of p l f q).bytes;
    }

abbrev pub procs_from : Program → Layout → ℕ → List Procedure → List Proc
procs_from p l f [] = []
procs_from p l f (q ∷ qs) = proc_of p l f q ∷ procs_from p l (suc f) qs

-- all procedures in a layout
abbrev pub lowered_by : Layout → Program → List Proc
lowered_by l p = procs_from p l 0 p.procedures

-- in the layout in use
abbrev pub lowered : Program → List Proc
lowered p = lowered_by (layout p.types) p

-- where each cell takes eight bytes
abbrev pub lowered_in_cells : Program → List Proc
lowered_in_cells p = lowered_by (in_cells p.types) p
