-- Lowering as a function of a program's form: of expressions and statements.
use Rattle.std.specs.Prelude.{ℕ, suc, ◌&&◌, ◌==◌, pos, ℤ, int_lt, List, [], ◌∷◌, ◌++◌, map, Bool, true, Option, Some, None, if◌then◌else◌}
use Rattle.wrapping_numbers.specs.Numbers.{unsigned}
use Rattle.ob_types.specs.declared.tree.Binary.TheVariants.{Add, Subtract, Union, Difference}
use Rattle.ob_types.specs.declared.tree.Relation.{Relation}
use Rattle.ob_types.specs.declared.statements.Label.{Label}
use Rattle.ob_types.specs.declared.statements.Label.TheVariants.{One, Range}
use Rattle.block_runs.specs.declared.end.End.{End}
use Rattle.block_runs.specs.declared.end.End.TheVariants.{Jump, Trap}
use Rattle.ssa_lowered.specs.Data.{rounded}
use Rattle.ssa_lowered.specs.Pieces.{Low, give, ◌>>=◌, skip, Mask}
use Rattle.ssa_lowered.specs.Values.{const, condition, Named, data_at, element, field, dereferenced, narrowed, binary, compared, texts_compared, routine, guarded, contained, with_element, with_range, is_pointer, is_tag, tag_of, as_byte, length_of, by_word, address, by_record, by_open, also, Request, call, call_at, with_result, without_result, Home, home_of, load}
use Rattle.ssa_lowered.specs.Control.{Test, fork_value, fork_branch, fork_and, fork_or, Lowers, valued, tested, choose, Round, loop, repeat, for, Rung, case}
use Rattle.ssa_lowered.specs.Statements.{Deed, assign, change_number, change_set, new, copy_array, copy_record, assert, out_char, out_int, out_string, in_char}
use Rattle.ssa_lowered.specs.Variables.{none, either}
use Rattle.ssa_lowered.specs.Lowered.{one_of}
use Rattle.ob_judge.specs.Shapes.{Shape}
use Rattle.ob_judge.specs.Image as I
use Rattle.one_lowering.proofs.Sizes.{small_shape, shape_length, shape_record, shape_element, byte_shape}

-- what lowering asks of the whole program and of the procedure that it is in: the bytes of a type, the cells and the bytes of
-- a record type and its level, where a field stands, where descriptors, variables of modules and strings stand, what parameters
-- and variables name, and which variables are in registers
pub record Asked : Type 0 where
  pub size : Shape → ℕ
  pub whole : ℕ → ℕ
  pub whole_bytes : ℕ → ℕ
  pub level : ℕ → ℕ
  pub place : (r field : ℕ) → ℕ
  pub descriptor : ℕ → ℕ
  pub global : (m v : ℕ) → ℕ
  pub text : ℕ → ℕ
  pub parameter : ℕ → Low Named
  pub local : ℕ → Low Named
  pub register : Mask

-- the bytes from one character of a text to the next
abbrev pub character : ℕ
character = 1

abbrev pub compare : Relation → Lowers → Lowers → Lowers
compare r x y = record { value = compared r x.value y.value; test = fork_branch (condition r) x.value y.value }

abbrev pub length_in : I.Designator → Option ℕ
length_in (I.of_type place s) = shape_length s

abbrev pub record_in : I.Designator → ℕ
record_in (I.of_type place s) = shape_record s

abbrev pub element_in : I.Designator → Shape
element_in (I.of_type place s) = shape_element s

abbrev pub byte_in : I.Designator → Bool
byte_in (I.of_type place s) = byte_shape s

-- whether what a designator names takes one byte
abbrev pub small_in : I.Designator → Bool
small_in (I.of_type place s) = small_shape s

---- Masks

-- the variable that a place as a whole is
abbrev pub itself_at : I.Place → Mask
itself_at (I.Local x) = λ y. x == y
itself_at _ = none

abbrev pub itself_in : I.Designator → Mask
itself_in (I.of_type place s) = itself_at place

abbrev mutual
  pub lent_expr : I.Expr → Mask
  lent_expr (I.Literal n) = none
  lent_expr (I.Routine g) = none
  lent_expr (I.Load d) = lent_read d
  lent_expr (I.Guard x r) = lent_expr x
  lent_expr (I.Apply op x) = lent_expr x
  lent_expr (I.Linked x k) = either (lent_expr x) (lent_link k)
  lent_expr (I.Compare r x y) = either (lent_expr x) (lent_expr y)
  lent_expr (I.CompareTexts r d e) = either (lent_named d) (lent_named e)
  lent_expr (I.In x s) = either (lent_expr x) (lent_expr s)
  lent_expr (I.IsPointer x r) = lent_expr x
  lent_expr (I.IsParameter d r) = lent_named d
  lent_expr (I.AsByte x) = lent_expr x
  lent_expr (I.Length d) = lent_named d
  lent_expr (I.Result c) = lent_call c

  pub lent_link : I.Link → Mask
  lent_link (I.Operate op y) = lent_expr y
  lent_link (I.And y) = lent_expr y
  lent_link (I.Or y) = lent_expr y
  lent_link (I.Element y) = lent_expr y
  lent_link (I.Elements y z) = either (lent_expr y) (lent_expr z)

  -- by a designator that is read or assigned, and by one whose address is made
  pub lent_read : I.Designator → Mask
  lent_read (I.of_type place s) = lent_place place

  pub lent_named : I.Designator → Mask
  lent_named (I.of_type place s) = either (itself_at place) (lent_place place)

  pub lent_place : I.Place → Mask
  lent_place (I.Index place n s x) = either (lent_place place) (either (itself_at place) (lent_expr x))
  lent_place (I.Field place r field) = either (lent_place place) (itself_at place)
  lent_place (I.Dereference x) = lent_expr x
  lent_place (I.Narrow place r) = either (lent_place place) (itself_at place)
  lent_place _ = none

  pub lent_call : I.Call → Mask
  lent_call (I.Direct g xs) = lent_arguments xs
  lent_call (I.Indirect d xs) = either (lent_read d) (lent_arguments xs)

  pub lent_arguments : I.Arguments → Mask
  lent_arguments I.no_argument = none
  lent_arguments (I.next_argument x xs) = either (lent_argument x) (lent_arguments xs)

  pub lent_argument : I.Argument → Mask
  lent_argument (I.ByValue x) = lent_expr x
  lent_argument (I.ByPlace d) = lent_named d
  lent_argument (I.ByRecord d) = lent_named d
  lent_argument (I.ByOpen d) = lent_named d

abbrev mutual
  pub lent_statement : I.Statement → Mask
  lent_statement (I.Assign d x) = either (lent_read d) (lent_expr x.form)
  lent_statement (I.CopyArray d e) = either (lent_named d) (lent_named e)
  lent_statement (I.CopyRecord d e) = either (lent_named d) (lent_named e)
  lent_statement (I.Increase d x) = either (lent_read d) (lent_expr x.form)
  lent_statement (I.Decrease d x) = either (lent_read d) (lent_expr x.form)
  lent_statement (I.Include d x) = either (lent_read d) (lent_expr x.form)
  lent_statement (I.Exclude d x) = either (lent_read d) (lent_expr x.form)
  lent_statement (I.New d) = lent_read d
  lent_statement (I.Assert x) = lent_expr x.form
  lent_statement (I.OutChar x) = lent_expr x.form
  lent_statement (I.OutInt x n) = either (lent_expr x.form) (lent_expr n.form)
  lent_statement (I.OutString d) = lent_named d
  lent_statement I.OutLn = none
  lent_statement (I.InChar d) = lent_named d
  lent_statement (I.Invoke c) = lent_call c
  lent_statement (I.If parts other) = either (lent_branches parts) (lent_statements other)
  lent_statement (I.While parts) = lent_branches parts
  lent_statement (I.Repeat body x) = either (lent_statements body) (lent_expr x.form)
  lent_statement (I.For d x y step body) = either (lent_read d) (either (lent_expr x.form) (either (lent_expr y.form) (lent_statements body)))
  lent_statement (I.Case x parts) = either (lent_expr x.form) (lent_parts parts)
  lent_statement (I.CasePointer x parts) = either (lent_expr x.form) (lent_parts parts)
  lent_statement (I.CaseParameter d parts) = either (lent_named d) (lent_parts parts)

  pub lent_statements : I.Statements → Mask
  lent_statements I.no_statement = none
  lent_statements (I.next_statement s more) = either (lent_statement s) (lent_statements more)

  pub lent_branches : I.Branches → Mask
  lent_branches I.no_branch = none
  lent_branches (I.next_branch x body more) = either (lent_expr x.form) (either (lent_statements body) (lent_branches more))

  pub lent_parts : I.Parts → Mask
  lent_parts I.no_part = none
  lent_parts (I.next_part when body more) = either (lent_statements body) (lent_parts more)

abbrev pub lent_answer : Option I.Checked → Mask
lent_answer None = none
lent_answer (Some x) = lent_expr x.form

-- the variables that a statement assigns as wholes
abbrev mutual
  pub assigned_statement : I.Statement → Mask
  assigned_statement (I.Assign d x) = itself_in d
  assigned_statement (I.Increase d x) = itself_in d
  assigned_statement (I.Decrease d x) = itself_in d
  assigned_statement (I.Include d x) = itself_in d
  assigned_statement (I.Exclude d x) = itself_in d
  assigned_statement (I.New d) = itself_in d
  assigned_statement (I.If parts other) = either (assigned_branches parts) (assigned_statements other)
  assigned_statement (I.While parts) = assigned_branches parts
  assigned_statement (I.Repeat body x) = assigned_statements body
  assigned_statement (I.For d x y step body) = either (itself_in d) (assigned_statements body)
  assigned_statement (I.Case x parts) = assigned_parts parts
  assigned_statement (I.CasePointer x parts) = assigned_parts parts
  assigned_statement (I.CaseParameter d parts) = assigned_parts parts
  assigned_statement _ = none

  pub assigned_statements : I.Statements → Mask
  assigned_statements I.no_statement = none
  assigned_statements (I.next_statement s more) = either (assigned_statement s) (assigned_statements more)

  pub assigned_branches : I.Branches → Mask
  assigned_branches I.no_branch = none
  assigned_branches (I.next_branch x body more) = either (assigned_statements body) (assigned_branches more)

  pub assigned_parts : I.Parts → Mask
  assigned_parts I.no_part = none
  assigned_parts (I.next_part when body more) = either (assigned_statements body) (assigned_parts more)

---- Tests of CASE

abbrev pub label_test : ℕ → Label → Test
label_test v (One a) = fork_branch 0 (give v) (const (unsigned a))
label_test v (Range a b) = fork_and (fork_branch 10 (give v) (const (unsigned a))) (fork_branch 13 (give v) (const (unsigned b)))

abbrev pub rungs_from : ℕ → List (List Test) → List Rung
rungs_from i [] = []
rungs_from i (ts ∷ more) = map (λ t. record { test = t; part = i }) ts ++ rungs_from (suc i) more

abbrev pub case_of : Mask → Low ℕ → (ℕ → List (List Test)) → List Deed → (ℕ → List ℕ → End) → Deed
case_of mask x tests bodies unmatched = do
  v ← x
  case mask (rungs_from 0 (tests v)) bodies unmatched

abbrev pub bound : ℤ → ℕ
bound step = if int_lt (pos 0) step then 13 else 10

-- of the parts of a CASE of a value, and of one of types
abbrev pub labels_of : I.Parts → List (List Label)
labels_of I.no_part = []
labels_of (I.next_part (I.Labels labels) body more) = labels ∷ labels_of more
labels_of (I.next_part (I.Extends r) body more) = labels_of more

abbrev pub records_of : I.Parts → List ℕ
records_of I.no_part = []
records_of (I.next_part (I.Labels labels) body more) = records_of more
records_of (I.next_part (I.Extends r) body more) = r ∷ records_of more

abbrev pub label_tests : I.Parts → ℕ → List (List Test)
label_tests parts v = map (λ ls. map (label_test v) ls) (labels_of parts)

module _ (a : Asked) where
  -- a use of a string by its number
  abbrev pub text_at : List ℕ → Low Named
  text_at (k ∷ []) = data_at (a.text k)
  text_at _ = data_at 0

  abbrev mutual
    pub low_expr : I.Expr → Lowers
    low_expr (I.Literal n) = valued (const n)
    low_expr (I.Routine g) = valued (routine g)
    low_expr (I.Load d) = valued (load (home_of (low_named d) (small_in d)))
    low_expr (I.Guard x r) = valued (guarded (low_expr x).value (a.descriptor r) (a.level r))
    low_expr (I.Apply op x) = one_of op (low_expr x)
    low_expr (I.Linked x k) = low_link k (low_expr x)
    low_expr (I.Compare r x y) = compare r (low_expr x) (low_expr y)
    low_expr (I.CompareTexts r d e) = valued (texts_compared character r (low_named d) (length_in d) (low_named e) (length_in e))
    low_expr (I.In x s) = valued (contained (low_expr x).value (low_expr s).value)
    low_expr (I.IsPointer x r) = valued ((low_expr x).value >>= is_pointer (a.descriptor r) (a.level r))
    low_expr (I.IsParameter d r) = valued (tag_of (low_named d) >>= is_tag (a.descriptor r) (a.level r))
    low_expr (I.AsByte x) = valued (as_byte (low_expr x).value)
    low_expr (I.Length d) = valued (length_of (low_named d) (length_in d))
    low_expr (I.Result c) = valued (with_result (low_call c))

    pub low_link : I.Link → Lowers → Lowers
    low_link (I.Operate op y) x = valued (binary op x.value (low_expr y).value)
    low_link (I.And y) x = tested (fork_and x.test (low_expr y).test)
    low_link (I.Or y) x = tested (fork_or x.test (low_expr y).test)
    low_link (I.Element y) x = valued (with_element x.value (low_expr y).value)
    low_link (I.Elements y z) x = valued (with_range x.value (low_expr y).value (low_expr z).value)

    pub low_named : I.Designator → Low Named
    low_named (I.of_type place s) = low_place place

    pub low_place : I.Place → Low Named
    low_place I.Done = data_at 0
    low_place (I.Global m v) = data_at (a.global m v)
    low_place (I.Local x) = a.local x
    low_place (I.Parameter k) = a.parameter k
    low_place (I.Text cs) = text_at cs
    low_place (I.Index place n s x) = element (low_place place) n (a.size s) (low_expr x).value
    low_place (I.Field place r number) = field (low_place place) (a.place r number)
    low_place (I.Dereference x) = dereferenced (low_expr x).value
    low_place (I.Narrow place r) = narrowed (low_place place) (a.descriptor r) (a.level r)

    pub low_call : I.Call → Low Request
    low_call (I.Direct g xs) = call g (low_arguments xs)
    low_call (I.Indirect d xs) = call_at (load (home_of (low_named d) (small_in d))) (low_arguments xs)

    pub low_argument : I.Argument → Low (List ℕ)
    low_argument (I.ByValue x) = by_word (low_expr x).value
    low_argument (I.ByPlace d) = by_word (address (low_named d))
    low_argument (I.ByRecord d) = by_record (low_named d) (a.descriptor (record_in d))
    low_argument (I.ByOpen d) = by_open (low_named d) (length_in d)

    pub low_arguments : I.Arguments → Low (List ℕ)
    low_arguments I.no_argument = give []
    low_arguments (I.next_argument x more) = also (low_argument x) (low_arguments more)

  abbrev pub low_value : I.Checked → Low ℕ
  low_value x = (low_expr x.form).value

  abbrev pub low_test : I.Checked → Test
  low_test x = (low_expr x.form).test

  abbrev pub low_home : I.Designator → Low Home
  low_home d = home_of (low_named d) (small_in d)

  abbrev pub registers : Mask → Mask
  registers mask x = a.register x && mask x

  abbrev pub type_test : (ℕ → ℕ → ℕ → Low ℕ) → ℕ → ℕ → Test
  type_test is v r = fork_value (is (a.descriptor r) (a.level r) v)

  abbrev pub type_tests : I.Parts → (ℕ → ℕ → ℕ → Low ℕ) → ℕ → List (List Test)
  type_tests parts is v = map (λ r. type_test is v r ∷ []) (records_of parts)

  abbrev mutual
    pub low_statement : I.Statement → Deed
    low_statement (I.Assign d x) = assign (low_home d) (low_value x)
    low_statement (I.CopyArray d e) = copy_array (low_named d) (length_in d) (low_named e) (length_in e) (a.size (element_in d))
    low_statement (I.CopyRecord d e) = copy_record (low_named d) (low_named e) (a.whole_bytes (record_in d))
    low_statement (I.Increase d x) = change_number Add (low_home d) (low_value x) (byte_in d)
    low_statement (I.Decrease d x) = change_number Subtract (low_home d) (low_value x) (byte_in d)
    low_statement (I.Include d x) = change_set Union (low_home d) (low_value x)
    low_statement (I.Exclude d x) = change_set Difference (low_home d) (low_value x)
    low_statement (I.New d) = new (low_home d) (a.whole (record_in d)) (rounded (a.whole_bytes (record_in d))) (a.descriptor (record_in d))
    low_statement (I.Assert x) = assert (low_value x)
    low_statement (I.OutChar x) = out_char (low_value x)
    low_statement (I.OutInt x n) = out_int (low_value x) (low_value n)
    low_statement (I.OutString d) = out_string character (low_named d) (length_in d)
    low_statement I.OutLn = out_char (const 10)
    low_statement (I.InChar d) = in_char (low_named d) true (small_in d)
    low_statement (I.Invoke c) = without_result (low_call c)
    low_statement (I.If parts other) = low_alternatives parts (assigned_statements other) (low_statements other)
    low_statement (I.While parts) = loop (registers (assigned_branches parts)) (low_rounds parts)
    low_statement (I.Repeat body x) = repeat (registers (assigned_statements body)) (low_statements body) (low_test x)
    low_statement (I.For d x y step body) =
        for (registers (either (itself_in d) (assigned_statements body))) (bound step) (assign (low_home d) (low_value x)) (low_value y) (load (low_home d))
        (low_statements body >>= λ _. assign (low_home d) (binary Add (load (low_home d)) (const (unsigned step))))
    low_statement (I.Case x parts) = case_of (registers (assigned_parts parts)) (low_value x) (label_tests parts) (low_bodies parts) (λ out args. Trap 6)
    low_statement (I.CasePointer x parts) = case_of (registers (assigned_parts parts)) (low_value x) (type_tests parts is_pointer) (low_bodies parts) (λ out args. Jump out args)
    low_statement (I.CaseParameter d parts) = case_of (registers (assigned_parts parts)) (tag_of (low_named d)) (type_tests parts is_tag) (low_bodies parts) (λ out args. Jump out args)

    pub low_statements : I.Statements → Deed
    low_statements I.no_statement = skip
    low_statements (I.next_statement s more) = low_statement s >>= λ _. low_statements more

    pub low_alternatives : I.Branches → Mask → Deed → Deed
    low_alternatives I.no_branch mask other = other
    low_alternatives (I.next_branch x body more) mask other = choose (registers (either (assigned_statements body) (either (assigned_branches more) mask))) (low_test x) (low_statements body) (low_alternatives more mask other)

    pub low_rounds : I.Branches → List Round
    low_rounds I.no_branch = []
    low_rounds (I.next_branch x body more) = record { test = low_test x; body = low_statements body } ∷ low_rounds more

    pub low_bodies : I.Parts → List Deed
    low_bodies I.no_part = []
    low_bodies (I.next_part when body more) = low_statements body ∷ low_bodies more

  abbrev pub low_answer : Option I.Checked → Low (Option ℕ)
  low_answer None = give None
  low_answer (Some x) = do
    v ← low_value x
    give (Some v)
