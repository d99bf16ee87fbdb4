-- What lowering makes of a tree, where another program is asked.
use Rattle.std.proofs.Common.{◌≡◌, ℕ, suc, ◌<◌, true, List, [], ◌∷◌, ◌++◌, map, Option, Some, None, refl, subst}
use Rattle.std.specs.Prelude.{◌&&◌}
use Rattle.wrapping_numbers.specs.Numbers.{unsigned}
use Rattle.ob_types.specs.declared.tree.Unary.{Unary}
use Rattle.ob_types.specs.declared.tree.Unary.TheVariants as unary
use Rattle.ob_types.specs.declared.tree.Binary.TheVariants.{Add, Subtract, Union, Difference}
use Rattle.block_runs.specs.declared.end.End.{End}
use Rattle.block_runs.specs.declared.end.End.TheVariants.{Jump, Trap}
use Rattle.ssa_lowered.specs.Data.{rounded}
use Rattle.ssa_lowered.specs.Pieces.{Low, give, ◌>>=◌, skip, Mask}
use Rattle.ssa_lowered.specs.Values.{const, condition, Named, data_at, is_pointer, is_tag, tag_of, Home, home_of, load}
use Rattle.ssa_lowered.specs.Control.{Test, Lowers, valued, tested, Round, Rung, fork_value, loop, case}
use Rattle.ssa_lowered.specs.Statements.{Deed, assign}
use Rattle.ssa_lowered.specs.Variables.{either}
use Rattle.ssa_lowered.specs.Lowered.{one_of}
use Rattle.ob_judge.specs.Shapes.{Shape, Array, Record, Open, Text, Char, Nothing, Pointer}
use Rattle.ob_judge.specs.Image as I
use Rattle.one_lowering.proofs.Middle.{Asked, character, small_in, length_in, record_in, element_in, byte_in, itself_in, assigned_statements, assigned_branches, assigned_parts, rungs_from, case_of, bound, label_tests, text_at, low_expr, low_link, low_named, low_place, low_call, low_argument, low_arguments, low_value, low_test, low_home, registers, type_tests, low_statement, low_statements, low_alternatives, low_rounds, low_bodies, low_answer}
use Rattle.moved_lowering.specs.Within.{IsWithin, ElementOf, RecordOf, InExpr, InLink, InNamed, InPlace, InCall, InArgument, InArguments, InChecked, InStatement, InStatements, InBranches, InParts, InAnswer}
use Rattle.moved_lowering.proofs.Making.{AreAlike, alike, and_then, same_behind}
use Rattle.moved_lowering.proofs.Values
use Rattle.moved_lowering.proofs.Blocks

-- what is asked of one program is answered so by another, but for places of data
pub record Agree (n : ℕ) (a b : Asked) : Type 0 where
  pub size : (s : Shape) → IsWithin n s → a.size s ≡ b.size s
  pub char : a.size Char ≡ b.size Char
  pub nothing : a.size Nothing ≡ b.size Nothing
  pub whole : (r : ℕ) → r < n → a.whole r ≡ b.whole r
  pub whole_bytes : (r : ℕ) → r < n → a.whole_bytes r ≡ b.whole_bytes r
  pub level : (r : ℕ) → r < n → a.level r ≡ b.level r
  pub place : (r i : ℕ) → r < n → a.place r i ≡ b.place r i
  pub parameter : (k : ℕ) → AreAlike (a.parameter k) (b.parameter k)
  pub local : (v : ℕ) → AreAlike (a.local v) (b.local v)
  pub register : (v : ℕ) → a.register v ≡ b.register v

module _ (n : ℕ) (a b : Asked) (h : Agree n a b) where
  -- ---- expressions

  one_alike : (op : Unary) {x y : Lowers} → Blocks.AreAlikeLowers x y → Blocks.AreAlikeLowers (one_of op x) (one_of op y)
  one_alike unary.Negate k = Blocks.valued_alike (Values.unary_alike unary.Negate k.value)
  one_alike unary.Complement k = Blocks.valued_alike (Values.unary_alike unary.Complement k.value)
  one_alike unary.Not k = record { value = Values.unary_alike unary.Not k.value; test = Blocks.not_test k.test }
  one_alike unary.Abs k = Blocks.valued_alike (Values.unary_alike unary.Abs k.value)
  one_alike unary.Odd k = Blocks.valued_alike (Values.unary_alike unary.Odd k.value)

  text_alike : (cs : List ℕ) → AreAlike (text_at a cs) (text_at b cs)
  text_alike [] = alike (data_at 0)
  text_alike (k ∷ []) = Values.data_alike (a.text k) (b.text k)
  text_alike (k ∷ (l ∷ cs)) = alike (data_at 0)

  -- with the same number at the last place
  at_number : {A B : Type 0} {m : Low A} (f : B → Low A) (x y : B) → x ≡ y → AreAlike m (f x) → AreAlike m (f y)
  at_number {A} {B} {m} f x y e g = subst (λ z. AreAlike m (f z)) e g

  mutual
    pub expr_alike : (x : I.Expr) → InExpr n x → Blocks.AreAlikeLowers (low_expr a x) (low_expr b x)
    expr_alike (I.Literal k) i = Blocks.valued_alike (alike (const k))
    expr_alike (I.Routine g) i = Blocks.valued_alike (alike _)
    expr_alike (I.Load d) i = Blocks.valued_alike (Values.load_alike (Values.home_alike _ (named_alike d i)))
    expr_alike (I.Guard x r) i =
        Blocks.valued_alike (at_number (λ l. Rattle.ssa_lowered.specs.Values.guarded (low_expr b x).value (b.descriptor r) l) (a.level r) (b.level r) (h.level r i.1)
        (Values.guarded_alike (a.descriptor r) (b.descriptor r) (a.level r) (expr_alike x i.0).value))
    expr_alike (I.Apply op x) i = one_alike op (expr_alike x i)
    expr_alike (I.Linked x k) i = link_alike k i.1 (expr_alike x i.0)
    expr_alike (I.Compare r x y) i =
        let u = expr_alike x i.0 in
        let v = expr_alike y i.1 in
        record { value = Values.compared_alike r u.value v.value; test = Blocks.branch_test (condition r) u.value v.value }
    expr_alike (I.CompareTexts r d e) i = Blocks.valued_alike (Values.texts_alike character r (length_in d) (length_in e) (named_alike d i.0) (named_alike e i.1))
    expr_alike (I.In x s) i = Blocks.valued_alike (Values.contained_alike (expr_alike x i.0).value (expr_alike s i.1).value)
    expr_alike (I.IsPointer x r) i =
        Blocks.valued_alike (and_then (expr_alike x i.0).value (λ p. at_number (λ l. is_pointer (b.descriptor r) l p) (a.level r) (b.level r) (h.level r i.1) (Values.is_pointer_alike (a.descriptor r) (b.descriptor r) (a.level r) p)))
    expr_alike (I.IsParameter d r) i =
        Blocks.valued_alike (and_then (Values.tag_of_alike (named_alike d i.0)) (λ t. at_number (λ l. is_tag (b.descriptor r) l t) (a.level r) (b.level r) (h.level r i.1) (Values.is_tag_alike (a.descriptor r) (b.descriptor r) (a.level r) t)))
    expr_alike (I.AsByte x) i = Blocks.valued_alike (Values.as_byte_alike (expr_alike x i).value)
    expr_alike (I.Length d) i = Blocks.valued_alike (Values.length_alike (length_in d) (named_alike d i))
    expr_alike (I.Result c) i = Blocks.valued_alike (Values.with_result_alike (call_alike c i))

    link_alike : (k : I.Link) → InLink n k → {x y : Lowers} → Blocks.AreAlikeLowers x y → Blocks.AreAlikeLowers (low_link a k x) (low_link b k y)
    link_alike (I.Operate op y) i g = Blocks.valued_alike (Values.binary_alike op g.value (expr_alike y i).value)
    link_alike (I.And y) i g = Blocks.tested_alike (Blocks.and_test g.test (expr_alike y i).test)
    link_alike (I.Or y) i g = Blocks.tested_alike (Blocks.or_test g.test (expr_alike y i).test)
    link_alike (I.Element y) i g = Blocks.valued_alike (Values.with_element_alike g.value (expr_alike y i).value)
    link_alike (I.Elements y z) i g = Blocks.valued_alike (Values.with_range_alike g.value (expr_alike y i.0).value (expr_alike z i.1).value)

    pub named_alike : (d : I.Designator) → InNamed n d → AreAlike (low_named a d) (low_named b d)
    named_alike (I.of_type place s) i = place_alike place i

    place_alike : (place : I.Place) → InPlace n place → AreAlike (low_place a place) (low_place b place)
    place_alike I.Done i = alike (data_at 0)
    place_alike (I.Global m v) i = Values.data_alike (a.global m v) (b.global m v)
    place_alike (I.Local x) i = h.local x
    place_alike (I.Parameter k) i = h.parameter k
    place_alike (I.Text cs) i = text_alike cs
    place_alike (I.Index place k s x) i =
        at_number (λ size. Rattle.ssa_lowered.specs.Values.element (low_place b place) k size (low_expr b x).value) (a.size s) (b.size s) (h.size s i.1)
        (Values.element_alike k (a.size s) (place_alike place i.0) (expr_alike x i.2).value)
    place_alike (I.Field place r number) i =
        at_number (λ offset. Rattle.ssa_lowered.specs.Values.field (low_place b place) offset) (a.place r number) (b.place r number) (h.place r number i.1)
        (Values.field_alike (a.place r number) (place_alike place i.0))
    place_alike (I.Dereference x) i = Values.dereferenced_alike (expr_alike x i).value
    place_alike (I.Narrow place r) i =
        at_number (λ l. Rattle.ssa_lowered.specs.Values.narrowed (low_place b place) (b.descriptor r) l) (a.level r) (b.level r) (h.level r i.1)
        (Values.narrowed_alike (a.descriptor r) (b.descriptor r) (a.level r) (place_alike place i.0))

    pub call_alike : (c : I.Call) → InCall n c → AreAlike (low_call a c) (low_call b c)
    call_alike (I.Direct g xs) i = Values.call_alike g (arguments_alike xs i)
    call_alike (I.Indirect d xs) i = Values.call_at_alike (Values.load_alike (Values.home_alike _ (named_alike d i.0))) (arguments_alike xs i.1)

    argument_alike : (x : I.Argument) → InArgument n x → AreAlike (low_argument a x) (low_argument b x)
    argument_alike (I.ByValue x) i = Values.by_word_alike (expr_alike x i).value
    argument_alike (I.ByPlace d) i = Values.by_word_alike (Values.address_alike (named_alike d i))
    argument_alike (I.ByRecord d) i = Values.by_record_alike (a.descriptor (record_in d)) (b.descriptor (record_in d)) (named_alike d i)
    argument_alike (I.ByOpen d) i = Values.by_open_alike (length_in d) (named_alike d i)

    arguments_alike : (xs : I.Arguments) → InArguments n xs → AreAlike (low_arguments a xs) (low_arguments b xs)
    arguments_alike I.no_argument i = alike (give [])
    arguments_alike (I.next_argument x more) i = Values.also_alike (argument_alike x i.0) (arguments_alike more i.1)

  -- ---- statements

  value_alike : (x : I.Checked) → InChecked n x → AreAlike (low_value a x) (low_value b x)
  value_alike x i = (expr_alike x.form i).value

  test_alike : (x : I.Checked) → InChecked n x → Blocks.AreAlikeTests (low_test a x) (low_test b x)
  test_alike x i = (expr_alike x.form i).test

  home_alike : (d : I.Designator) → InNamed n d → AreAlike (low_home a d) (low_home b d)
  home_alike d i = Values.home_alike _ (named_alike d i)

  registers_same : (mask : Mask) → registers a mask ≡ registers b mask
  registers_same mask = λ k x. h.register x k && mask x

  element_size : (d : I.Designator) → ElementOf n d → a.size (element_in d) ≡ b.size (element_in d)
  element_size (I.of_type place (Array k s)) i = h.size s i
  element_size (I.of_type place (Open s)) i = h.size s i
  element_size (I.of_type place (Text k)) i = h.char
  element_size (I.of_type place s) i = h.nothing

  whole_cells : (d : I.Designator) → RecordOf n d → a.whole (record_in d) ≡ b.whole (record_in d)
  whole_cells (I.of_type place (Record r)) i = h.whole r i
  whole_cells (I.of_type place (Pointer r)) i = h.whole r i
  whole_cells (I.of_type place s) i = h.whole 0 i

  whole_size : (d : I.Designator) → RecordOf n d → a.whole_bytes (record_in d) ≡ b.whole_bytes (record_in d)
  whole_size (I.of_type place (Record r)) i = h.whole_bytes r i
  whole_size (I.of_type place (Pointer r)) i = h.whole_bytes r i
  whole_size (I.of_type place s) i = h.whole_bytes 0 i

  -- ---- CASE

  abbrev AreAlikeEach : List Test → List Test → Type 0
  AreAlikeEach [] [] = Unit {0}
  AreAlikeEach [] (u ∷ us) = ⊥
  AreAlikeEach (t ∷ ts) [] = ⊥
  AreAlikeEach (t ∷ ts) (u ∷ us) = Blocks.AreAlikeTests t u × AreAlikeEach ts us

  abbrev AreAlikeParts : List (List Test) → List (List Test) → Type 0
  AreAlikeParts [] [] = Unit {0}
  AreAlikeParts [] (u ∷ us) = ⊥
  AreAlikeParts (t ∷ ts) [] = ⊥
  AreAlikeParts (t ∷ ts) (u ∷ us) = AreAlikeEach t u × AreAlikeParts ts us

  abbrev rung : ℕ → Test → Rung
  rung i t = record { test = t; part = i }

  one_part : (i : ℕ) (ts us : List Test) (rs qs : List Rung) → AreAlikeEach ts us → Blocks.AllAlikeRungs rs qs → Blocks.AllAlikeRungs (map (rung i) ts ++ rs) (map (rung i) us ++ qs)
  one_part i [] [] rs qs g k = k
  one_part i [] (u ∷ us) rs qs g k = absurd g
  one_part i (t ∷ ts) [] rs qs g k = absurd g
  one_part i (t ∷ ts) (u ∷ us) rs qs g k = (record { test = g.0; part = refl }, one_part i ts us rs qs g.1 k)

  rungs_alike : (i : ℕ) (ts us : List (List Test)) → AreAlikeParts ts us → Blocks.AllAlikeRungs (rungs_from i ts) (rungs_from i us)
  rungs_alike i [] [] g = tt
  rungs_alike i [] (u ∷ us) g = absurd g
  rungs_alike i (t ∷ ts) [] g = absurd g
  rungs_alike i (t ∷ ts) (u ∷ us) g = one_part i t u (rungs_from (suc i) ts) (rungs_from (suc i) us) g.0 (rungs_alike (suc i) ts us g.1)

  each_same : (ts : List Test) → AreAlikeEach ts ts
  each_same [] = tt
  each_same (t ∷ ts) = (Blocks.test_same t, each_same ts)

  parts_same : (ts : List (List Test)) → AreAlikeParts ts ts
  parts_same [] = tt
  parts_same (t ∷ ts) = (each_same t, parts_same ts)

  pointer_tests : (parts : I.Parts) → InParts n parts → (v : ℕ) → AreAlikeParts (type_tests a parts is_pointer v) (type_tests b parts is_pointer v)
  pointer_tests I.no_part i v = tt
  pointer_tests (I.next_part (I.Labels labels) body more) i v = pointer_tests more i.2 v
  pointer_tests (I.next_part (I.Extends r) body more) i v =
      ((Blocks.value_test (at_number (λ l. is_pointer (b.descriptor r) l v) (a.level r) (b.level r) (h.level r i.0) (Values.is_pointer_alike (a.descriptor r) (b.descriptor r) (a.level r) v)), tt), pointer_tests more i.2 v)

  tag_tests : (parts : I.Parts) → InParts n parts → (v : ℕ) → AreAlikeParts (type_tests a parts is_tag v) (type_tests b parts is_tag v)
  tag_tests I.no_part i v = tt
  tag_tests (I.next_part (I.Labels labels) body more) i v = tag_tests more i.2 v
  tag_tests (I.next_part (I.Extends r) body more) i v =
      ((Blocks.value_test (at_number (λ l. is_tag (b.descriptor r) l v) (a.level r) (b.level r) (h.level r i.0) (Values.is_tag_alike (a.descriptor r) (b.descriptor r) (a.level r) v)), tt), tag_tests more i.2 v)

  case_alike : (mask : Mask) {x y : Low ℕ} (ts us : ℕ → List (List Test)) (fs gs : List Deed) (unmatched : ℕ → List ℕ → End) → AreAlike x y → ((v : ℕ) → AreAlikeParts (ts v) (us v)) → Blocks.AllAlike fs gs → AreAlike (case_of mask x ts fs unmatched) (case_of mask y us gs unmatched)
  case_alike mask ts us fs gs unmatched g k l = and_then g (λ v. Blocks.case_alike mask (rungs_from 0 (ts v)) (rungs_from 0 (us v)) (rungs_alike 0 (ts v) (us v) (k v)) fs gs l unmatched)

  -- with the registers that the other program says
  by_mask : {m : Deed} (f : Mask → Deed) (mask : Mask) → AreAlike m (f (registers a mask)) → AreAlike m (f (registers b mask))
  by_mask {m} f mask g = subst (λ k. AreAlike m (f k)) (registers_same mask) g

  mutual
    statement_alike : (s : I.Statement) → InStatement n s → AreAlike (low_statement a s) (low_statement b s)
    statement_alike (I.Assign d x) i = Values.assign_alike (home_alike d i.0) (value_alike x i.1)
    statement_alike (I.CopyArray d e) i =
        at_number (λ size. Rattle.ssa_lowered.specs.Statements.copy_array (low_named b d) (length_in d) (low_named b e) (length_in e) size) (a.size (element_in d)) (b.size (element_in d)) (element_size d i.2)
        (Values.copy_array_alike (length_in d) (length_in e) (a.size (element_in d)) (named_alike d i.0) (named_alike e i.1))
    statement_alike (I.CopyRecord d e) i =
        at_number (λ size. Rattle.ssa_lowered.specs.Statements.copy_record (low_named b d) (low_named b e) size) (a.whole_bytes (record_in d)) (b.whole_bytes (record_in d)) (whole_size d i.2)
        (Values.copy_record_alike (a.whole_bytes (record_in d)) (named_alike d i.0) (named_alike e i.1))
    statement_alike (I.Increase d x) i = Values.change_number_alike Add (byte_in d) (home_alike d i.0) (value_alike x i.1)
    statement_alike (I.Decrease d x) i = Values.change_number_alike Subtract (byte_in d) (home_alike d i.0) (value_alike x i.1)
    statement_alike (I.Include d x) i = Values.change_set_alike Union (home_alike d i.0) (value_alike x i.1)
    statement_alike (I.Exclude d x) i = Values.change_set_alike Difference (home_alike d i.0) (value_alike x i.1)
    statement_alike (I.New d) i =
        at_number (λ size. Rattle.ssa_lowered.specs.Statements.new (low_home b d) (b.whole (record_in d)) (rounded size) (b.descriptor (record_in d))) (a.whole_bytes (record_in d)) (b.whole_bytes (record_in d)) (whole_size d i.1)
        (at_number (λ cells. Rattle.ssa_lowered.specs.Statements.new (low_home b d) cells (rounded (a.whole_bytes (record_in d))) (b.descriptor (record_in d))) (a.whole (record_in d)) (b.whole (record_in d)) (whole_cells d i.1)
        (Values.new_alike (a.whole (record_in d)) (rounded (a.whole_bytes (record_in d))) (a.descriptor (record_in d)) (b.descriptor (record_in d)) (home_alike d i.0)))
    statement_alike (I.Assert x) i = Values.assert_alike (value_alike x i)
    statement_alike (I.OutChar x) i = Values.out_char_alike (value_alike x i)
    statement_alike (I.OutInt x k) i = Values.out_int_alike (value_alike x i.0) (value_alike k i.1)
    statement_alike (I.OutString d) i = Values.out_string_alike character (length_in d) (named_alike d i)
    statement_alike I.OutLn i = alike _
    statement_alike (I.InChar d) i = Values.in_char_alike true (small_in d) (named_alike d i)
    statement_alike (I.Invoke c) i = Values.without_result_alike (call_alike c i)
    statement_alike (I.If parts other) i = alternatives_alike parts i.0 (assigned_statements other) (statements_alike other i.1)
    statement_alike (I.While parts) i = by_mask (λ m. loop m (low_rounds b parts)) (assigned_branches parts) (Blocks.loop_alike (registers a (assigned_branches parts)) (low_rounds a parts) (low_rounds b parts) (rounds_alike parts i))
    statement_alike (I.Repeat body x) i =
        by_mask (λ m. Rattle.ssa_lowered.specs.Control.repeat m (low_statements b body) (low_test b x)) (assigned_statements body) (Blocks.repeat_alike (registers a (assigned_statements body)) (statements_alike body i.0) (test_alike x i.1))
    statement_alike (I.For d x y step body) i =
        let mask = either (itself_in d) (assigned_statements body) in
        by_mask
        (λ m. Rattle.ssa_lowered.specs.Control.for m (bound step) (assign (low_home b d) (low_value b x)) (low_value b y) (load (low_home b d)) (low_statements b body >>= λ u. assign (low_home b d) (Rattle.ssa_lowered.specs.Values.binary Add (load (low_home b d)) (const (unsigned step)))))
        mask
        (Blocks.for_alike (registers a mask) (bound step) (Values.assign_alike (home_alike d i.0) (value_alike x i.1)) (value_alike y i.2) (Values.load_alike (home_alike d i.0))
        (and_then (statements_alike body i.3) (λ u. Values.assign_alike (home_alike d i.0) (Values.binary_alike Add (Values.load_alike (home_alike d i.0)) (alike (const (unsigned step)))))))
    statement_alike (I.Case x parts) i =
        by_mask (λ m. case_of m (low_value b x) (label_tests parts) (low_bodies b parts) (λ out args. Trap 6)) (assigned_parts parts)
        (case_alike (registers a (assigned_parts parts)) (label_tests parts) (label_tests parts) (low_bodies a parts) (low_bodies b parts) (λ out args. Trap 6) (value_alike x i.0) (λ v. parts_same (label_tests parts v)) (bodies_alike parts i.1))
    statement_alike (I.CasePointer x parts) i =
        by_mask (λ m. case_of m (low_value b x) (type_tests b parts is_pointer) (low_bodies b parts) (λ out args. Jump out args)) (assigned_parts parts)
        (case_alike (registers a (assigned_parts parts)) (type_tests a parts is_pointer) (type_tests b parts is_pointer) (low_bodies a parts) (low_bodies b parts) (λ out args. Jump out args) (value_alike x i.0) (pointer_tests parts i.1) (bodies_alike parts i.1))
    statement_alike (I.CaseParameter d parts) i =
        by_mask (λ m. case_of m (tag_of (low_named b d)) (type_tests b parts is_tag) (low_bodies b parts) (λ out args. Jump out args)) (assigned_parts parts)
        (case_alike (registers a (assigned_parts parts)) (type_tests a parts is_tag) (type_tests b parts is_tag) (low_bodies a parts) (low_bodies b parts) (λ out args. Jump out args) (Values.tag_of_alike (named_alike d i.0)) (tag_tests parts i.1) (bodies_alike parts i.1))

    pub statements_alike : (ss : I.Statements) → InStatements n ss → AreAlike (low_statements a ss) (low_statements b ss)
    statements_alike I.no_statement i = alike skip
    statements_alike (I.next_statement s more) i = and_then (statement_alike s i.0) (λ u. statements_alike more i.1)

    alternatives_alike : (parts : I.Branches) → InBranches n parts → (mask : Mask) {f g : Deed} → AreAlike f g → AreAlike (low_alternatives a parts mask f) (low_alternatives b parts mask g)
    alternatives_alike I.no_branch i mask k = k
    alternatives_alike (I.next_branch x body more) i mask {f} {g} k =
        let all = either (assigned_statements body) (either (assigned_branches more) mask) in
        by_mask (λ m. Rattle.ssa_lowered.specs.Control.choose m (low_test b x) (low_statements b body) (low_alternatives b more mask g)) all
        (Blocks.choose_alike (registers a all) (test_alike x i.0) (statements_alike body i.1) (alternatives_alike more i.2 mask k))

    rounds_alike : (parts : I.Branches) → InBranches n parts → Blocks.AllAlikeRounds (low_rounds a parts) (low_rounds b parts)
    rounds_alike I.no_branch i = tt
    rounds_alike (I.next_branch x body more) i = (record { test = test_alike x i.0; body = statements_alike body i.1 }, rounds_alike more i.2)

    bodies_alike : (parts : I.Parts) → InParts n parts → Blocks.AllAlike (low_bodies a parts) (low_bodies b parts)
    bodies_alike I.no_part i = tt
    bodies_alike (I.next_part when body more) i = (statements_alike body i.1, bodies_alike more i.2)

  pub answer_alike : (o : Option I.Checked) → InAnswer n o → AreAlike (low_answer a o) (low_answer b o)
  answer_alike None i = alike (give None)
  answer_alike (Some x) i = same_behind (λ v. give (Some v)) (value_alike x i)
