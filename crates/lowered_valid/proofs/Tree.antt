-- The code of each construct keeps what `Scoped` says, and so does a whole procedure's.
use Rattle.std.proofs.Common.{◌≡◌, ℕ, zero, suc, ◌+◌, ◌*◌, ◌-◌, ◌<◌, List, [], ◌∷◌, ◌++◌, map, take, length, Bool, true, false, Option, Some, None, refl, sym, ap, ◌∙◌, slice_get, arith, ℤ}
use Rattle.std.specs.Prelude.{if◌then◌else◌, option_to_list, pos, int_lt}
use Rattle.wrapping_numbers.specs.Numbers.{unsigned}
use Rattle.ob_types.specs.Layout.{record_cells}
use Rattle.ob_types.specs.Meaning.{kind_in, length_of_kind, element_kind, record_of_kind, is_byte}
use Rattle.ob_types.specs.declared.types.TypeKind.TheVariants.{Bool as Boolean}
use Rattle.ob_types.specs.declared.types.Formal.{Formal}
use Rattle.ob_types.specs.declared.tree.Unary.{Unary}
use Rattle.ob_types.specs.declared.tree.Unary.TheVariants.{Negate, Complement, Not, Abs, Odd}
use Rattle.ob_types.specs.declared.tree.Binary.{Binary}
use Rattle.ob_types.specs.declared.tree.Binary.TheVariants.{Add, Subtract, Multiply, Div, Mod, Union, Difference, Intersection, SymmetricDifference, Subset, Superset, Lsl, Asr, Ror}
use Rattle.ob_types.specs.declared.tree.Relation.{Relation}
use Rattle.ob_types.specs.declared.tree.Relation.TheVariants.{Equal, Unequal, Less, LessEqual, Greater, GreaterEqual}
use Rattle.ob_types.specs.declared.tree.Expr.{Expr, Literal, Routine, Load, Guard', Unary', Chain', Compare', CompareTexts', In', IsPointer', IsParameter, Byte', Length, Call', Row_of-Link, end_of-Link, more_of-Link}
use Rattle.ob_types.specs.declared.tree.Link.{Link, Operate, Element, Elements'}
use Rattle.ob_types.specs.declared.tree.Link.{And as AndLink, Or as OrLink}
use Rattle.ob_types.specs.declared.tree.Base.{Base}
use Rattle.ob_types.specs.declared.tree.Base.TheVariants.{Done, Global, Local, Parameter, Text}
use Rattle.ob_types.specs.declared.tree.Designator.{Designator, Whole, Part', Row_of-Selector, end_of-Selector, more_of-Selector}
use Rattle.ob_types.specs.declared.tree.Selector.{Selector, Index, Field, Dereference, Narrow}
use Rattle.ob_types.specs.declared.tree.Call.{Row_of-Argument, end_of-Argument, more_of-Argument, Direct', Indirect'}
use Rattle.ob_types.specs.declared.tree.Call.{Call as CallForm}
use Rattle.ob_types.specs.declared.tree.Argument.{Argument, ByValue, ByPlace, ByRecord, ByOpen}
use Rattle.ob_types.specs.declared.statements.Checked.{Checked}
use Rattle.ob_types.specs.declared.statements.Label.{Label}
use Rattle.ob_types.specs.declared.statements.Label.TheVariants.{One, Range}
use Rattle.ob_types.specs.declared.statements.Stmt.{Stmt, Assign, CopyArray, CopyRecord, Increase, Decrease, Include, Exclude, New, Assert, OutChar, OutInt, OutString, OutLn, InChar, If', While', Repeat', For', Case', CasePointer', CaseParameter', Row_of-Stmt, end_of-Stmt, more_of-Stmt, Row_of-Branch, end_of-Branch, more_of-Branch, Row_of-CasePart, end_of-CasePart, more_of-CasePart, Row_of-TypePart, end_of-TypePart, more_of-TypePart}
use Rattle.ob_types.specs.declared.statements.Stmt.{Call as Invoke}
use Rattle.ob_types.specs.declared.program.Program.{Program}
use Rattle.block_runs.specs.declared.code.Code.TheVariants.{Svc, Max0, Copy, Fits, Set, True, Const, Plus, Call, CallAt, StoreByte, Mul, MulAdd, Below, NotNil, GuardPtr, GuardTag, IsPtr, IsTag, Bic, Compare, Elem, Has, Bit, Span, Or, Byte}
use Rattle.block_runs.specs.declared.code.Code.TheVariants.{Local as LocalOp, Global as GlobalOp, New as NewOp, Store as StoreOp, Load as LoadOp}
use Rattle.block_runs.specs.declared.end.End.{End}
use Rattle.block_runs.specs.declared.end.End.TheVariants.{Jump, Trap}
use Rattle.ssa_lowered.specs.Data.{Layout, rounded}
use Rattle.ssa_lowered.specs.Pieces.{Low, skip, give, ◌>>=◌, does, Mask}
use Rattle.ssa_lowered.specs.Values.{const, condition, Named, At, Beside, Object, Held, past, address_in, second, length_in, bytes_in, address, data_at, local_at, element, field, dereferenced, narrowed, one_operand, two_operands, included, unary, binary, compared, texts_compared, guarded, member, contained, with_element, with_range, is_pointer, is_tag, tag_of, tag_in, as_byte, length_of, by_word, by_record, by_open, also, Request, call, call_at, with_result, without_result, home_in, home_of, load, Home, current, change, store}
use Rattle.ssa_lowered.specs.Values.{Register as InRegister, Memory as InMemory}
use Rattle.ssa_lowered.specs.Control.{Test, fork_branch, Lowers, valued, tested, for, Rung}
use Rattle.ssa_lowered.specs.Statements.{Deed, assign, change_number, change_set, new, fits, copy_array, copy_record, assert, out_char, out_int, out_string, in_char}
use Rattle.ssa_lowered.specs.Variables.{Site, Register, Memory, either, assigned_all, assigned_branches, words_of}
use Rattle.ssa_lowered.specs.Lowered.{Here, by_mode, one_of, parameter_by, variable_of, local_by, based, descriptor, level, all_guarded, small, expr, linked, link, named, selected, select, called, argument, arguments, value, test, home, in_register, registers, label_test, type_test, rungs_from, case_of, labels_of, records_of, label_tests, type_tests, bound, deed, deeds, alternatives, guarded_rounds, case_bodies, type_bodies, deeds_of, answer}
use Rattle.ssa_lowered.proofs.Everywhere.{Each, each_on}
use Rattle.ob_types.proofs.Tests.{and_of}
use Rattle.lowered_valid.proofs.Lists.{In, Sub, AllIn, up_all, all_on}
use Rattle.lowered_valid.proofs.Scoped.{Certificate, OfValue, OfNone, Scoped, Leading, Both, Among, Quiet, Masks, bind, gives, gives_first, lift, emitted, done, variables, becoming, f_value, f_branch, f_not, f_and, f_or, flags, chooses, loops, repeats, cases}

condition_few : (r : Relation) → condition r < 14
condition_few Equal = omega arith
condition_few Unequal = omega arith
condition_few Less = omega arith
condition_few LessEqual = omega arith
condition_few Greater = omega arith
condition_few GreaterEqual = omega arith

either_few : (b : Bool) (m n k : ℕ) → m < k → n < k → (if b then m else n) < k
either_few true m n k p q = p
either_few false m n k p q = q

-- a first value that is an argument word
abbrev pub OfWord : List ℕ → Option ℕ → Type 0
OfWord given None = Unit {0}
OfWord given (Some w) = In w given

-- an end's value
abbrev pub OfAnswer : Option ℕ → List ℕ → Type 0
OfAnswer a w = AllIn (option_to_list a) w

-- what a designator names has values that are seen, or is a variable in a register
abbrev pub OfNamed : Mask → Named → List ℕ → Type 0
OfNamed regs (At a) w = In a w
OfNamed regs (Beside a b) w = In a w × In b w
OfNamed regs (Object a) w = In a w
OfNamed regs (Held x) w = regs x ≡ true

pub up_named : (regs : Mask) (v w : List ℕ) (h : Named) → Sub v w → OfNamed regs h v → OfNamed regs h w
up_named regs v w (At a) s i = s a i
up_named regs v w (Beside a b) s i = (s a i.0, s b i.1)
up_named regs v w (Object a) s i = s a i
up_named regs v w (Held x) s i = i

abbrev pub OfHome : Mask → Home → List ℕ → Type 0
OfHome regs (InRegister x) w = regs x ≡ true
OfHome regs (InMemory a is_small) w = In a w

up_home : (regs : Mask) (v w : List ℕ) (h : Home) → Sub v w → OfHome regs h v → OfHome regs h w
up_home regs v w (InRegister x) s i = i
up_home regs v w (InMemory a is_small) s i = s a i

abbrev OfRequest : Request → List ℕ → Type 0
OfRequest r w = AllIn r.words w

module _ (f : Certificate) where
  abbrev Value : List ℕ → Low ℕ → Type 0
  Value w m = Scoped f OfValue w m

  abbrev Place : List ℕ → Low Named → Type 0
  Place w m = Scoped f (OfNamed f.regs) w m

  abbrev Homes : List ℕ → Low Home → Type 0
  Homes w m = Scoped f (OfHome f.regs) w m

  abbrev Words : List ℕ → Low (List ℕ) → Type 0
  Words w m = Scoped f AllIn w m

  abbrev Acts : List ℕ → Deed → Type 0
  Acts w m = Scoped f OfNone w m

  named_up : (v w : List ℕ) (h : Named) → Sub v w → OfNamed f.regs h v → OfNamed f.regs h w
  named_up v w h s i = up_named f.regs v w h s i

  home_up : (v w : List ℕ) (h : Home) → Sub v w → OfHome f.regs h v → OfHome f.regs h w
  home_up v w h s i = up_home f.regs v w h s i

  gives_value : {w : List ℕ} (v : ℕ) → In v w → Value w (give v)
  gives_value v i = gives f v (λ x s. s v i)

  gives_named : {w : List ℕ} (h : Named) → OfNamed f.regs h w → Place w (give h)
  gives_named h i = gives f h (λ x s. named_up _ _ h s i)

  gives_words : {w : List ℕ} (xs : List ℕ) → AllIn xs w → Words w (give xs)
  gives_words {w} xs i = gives f xs (λ x s. up_all xs w x s i)

  pub s_skip : {w : List ℕ} → Acts w skip
  s_skip = gives f tt (λ x s. tt)

  -- values

  pub s_const : {w : List ℕ} (n : ℕ) → Value w (const n)
  s_const n = emitted f (Const n) [] tt

  s_past : {w : List ℕ} (a n : ℕ) → In a w → Value w (past a n)
  s_past a zero i = gives_value a i
  s_past a (suc n) i = emitted f (Plus (suc n)) (a ∷ []) (i, tt)

  s_address_in : {w : List ℕ} (h : Named) (n : ℕ) → OfNamed f.regs h w → Value w (address_in h n)
  s_address_in (At a) n i = s_past a n i
  s_address_in (Beside a b) n i = s_past a n i.0
  s_address_in (Object a) n i = emitted f (Plus (8 + n)) (a ∷ []) (i, tt)
  s_address_in (Held x) n i = s_const 0

  s_address : {w : List ℕ} {d : Low Named} → Place w d → Value w (address d)
  s_address p = bind f p (λ h x s i. s_address_in h 0 i)

  s_second : {w : List ℕ} (h : Named) → OfNamed f.regs h w → Value w (second h)
  s_second (At a) i = s_const 0
  s_second (Beside a b) i = gives_value b i.1
  s_second (Object a) i = emitted f LoadOp (a ∷ []) (i, tt)
  s_second (Held x) i = s_const 0

  s_length_in : {w : List ℕ} (n : Option ℕ) (h : Named) → OfNamed f.regs h w → Value w (length_in n h)
  s_length_in None h i = s_second h i
  s_length_in (Some n) h i = s_const n

  s_bytes_in : {w : List ℕ} (size : ℕ) (n : Option ℕ) (h : Named) → OfNamed f.regs h w → Value w (bytes_in size n h)
  s_bytes_in size None h i = bind f (s_second h i) (λ n x s j. bind f (s_const size) (λ k y t m. emitted f Mul (n ∷ k ∷ []) (t n j, (m, tt))))
  s_bytes_in size (Some n) h i = s_const (n * size)

  s_data_at : {w : List ℕ} (n : ℕ) → Place w (data_at n)
  s_data_at n = bind f (emitted f (GlobalOp n) [] tt) (λ a x s i. gives_named (At a) i)

  s_local_at : {w : List ℕ} (n : ℕ) → Place w (local_at n)
  s_local_at n = bind f (emitted f (LocalOp n) [] tt) (λ a x s i. gives_named (At a) i)

  s_element : {d : Low Named} {x : Low ℕ} (n : Option ℕ) (size : ℕ) → Place [] d → Value [] x → Place [] (element d n size x)
  s_element n size p q = bind f p (λ h w1 s1 ih. bind f (s_address_in h 0 ih) (λ a w2 s2 ia. bind f (lift f w2 q) (λ i w3 s3 ii.
      bind f (s_length_in n h (named_up _ _ h s3 (named_up _ _ h s2 ih))) (λ l w4 s4 il. bind f (done f Below (i ∷ l ∷ []) (s4 i ii, (il, tt))) (λ _ w5 s5 _. bind f (s_const size) (λ k w6 s6 ik.
      bind f (emitted f MulAdd (i ∷ k ∷ a ∷ []) (s6 i (s5 i (s4 i ii)), (ik, (s6 a (s5 a (s4 a (s3 a ia))), tt)))) (λ e w7 s7 ie. gives_named (At e) ie)))))))

  s_field : {d : Low Named} (n : ℕ) → Place [] d → Place [] (field d n)
  s_field n p = bind f p (λ h w1 s1 ih. bind f (s_address_in h n ih) (λ a w2 s2 ia. gives_named (At a) ia))

  s_dereferenced : {x : Low ℕ} → Value [] x → Place [] (dereferenced x)
  s_dereferenced q = bind f q (λ a w1 s1 ia. bind f (done f NotNil (a ∷ []) (ia, tt)) (λ _ w2 s2 _. gives_named (Object a) (s2 a ia)))

  s_narrowed : {d : Low Named} (g j : ℕ) → Place [] d → Place [] (narrowed d g j)
  s_narrowed g j p = bind f p (λ h w1 s1 ih. bind f (s_second h ih) (λ t w2 s2 it. bind f (emitted f (GlobalOp g) [] tt) (λ x w3 s3 ix.
      bind f (done f (GuardTag j) (t ∷ x ∷ []) (s3 t it, (ix, tt))) (λ _ w4 s4 _. gives_named h (named_up _ _ h s4 (named_up _ _ h s3 (named_up _ _ h s2 ih)))))))

  s_one_operand : {w : List ℕ} (op : Unary) (x : ℕ) → In x w → Value w (one_operand op x)
  s_one_operand Negate x i = emitted f _ _ (i, tt)
  s_one_operand Complement x i = emitted f _ _ (i, tt)
  s_one_operand Not x i = emitted f _ _ (i, tt)
  s_one_operand Abs x i = emitted f _ _ (i, tt)
  s_one_operand Odd x i = emitted f _ _ (i, tt)

  s_included : {w : List ℕ} (x y : ℕ) → In x w → In y w → Value w (included x y)
  s_included x y i j = bind f (emitted f Bic (x ∷ y ∷ []) (i, (j, tt))) (λ d w1 s1 id. bind f (s_const 0) (λ z w2 s2 iz. emitted f (Set 0) (d ∷ z ∷ []) (s2 d id, (iz, tt))))

  s_two_operands : {w : List ℕ} (op : Binary) (x y : ℕ) → In x w → In y w → Value w (two_operands op x y)
  s_two_operands Add x y i j = emitted f _ _ (i, (j, tt))
  s_two_operands Subtract x y i j = emitted f _ _ (i, (j, tt))
  s_two_operands Multiply x y i j = emitted f _ _ (i, (j, tt))
  s_two_operands Div x y i j = emitted f _ _ (i, (j, tt))
  s_two_operands Mod x y i j = emitted f _ _ (i, (j, tt))
  s_two_operands Union x y i j = emitted f _ _ (i, (j, tt))
  s_two_operands Difference x y i j = emitted f _ _ (i, (j, tt))
  s_two_operands Intersection x y i j = emitted f _ _ (i, (j, tt))
  s_two_operands SymmetricDifference x y i j = emitted f _ _ (i, (j, tt))
  s_two_operands Subset x y i j = s_included x y i j
  s_two_operands Superset x y i j = s_included y x j i
  s_two_operands Lsl x y i j = emitted f _ _ (i, (j, tt))
  s_two_operands Asr x y i j = emitted f _ _ (i, (j, tt))
  s_two_operands Ror x y i j = emitted f _ _ (i, (j, tt))

  s_unary : {w : List ℕ} {x : Low ℕ} (op : Unary) → Value w x → Value w (unary op x)
  s_unary op p = bind f p (λ a w1 s1 ia. s_one_operand op a ia)

  -- two values, and what reads them
  both : {B : Type 0} {Q : B → List ℕ → Type 0} {x y : Low ℕ} {k : ℕ → ℕ → Low B} → Value [] x → Value [] y → ((a b : ℕ) (w : List ℕ) → In a w → In b w → Scoped f Q w (k a b)) → Scoped f Q [] (x >>= λ a. y >>= λ b. k a b)
  both {y = y} {k = k} p q r = bind f p (λ a w1 s1 ia. bind f {k = λ b. k a b} (lift f w1 q) (λ b w2 s2 ib. r a b w2 (s2 a ia) ib))

  s_binary : {x y : Low ℕ} (op : Binary) → Value [] x → Value [] y → Value [] (binary op x y)
  s_binary op p q = both p q (λ a b w i j. s_two_operands op a b i j)

  s_compared : {x y : Low ℕ} (r : Relation) → Value [] x → Value [] y → Value [] (compared r x y)
  s_compared r p q = both p q (λ a b w i j. emitted f (Set (condition r)) (a ∷ b ∷ []) (i, (j, tt)))

  s_texts : {d e : Low Named} (size : ℕ) (r : Relation) (n m : Option ℕ) → Place [] d → Place [] e → Value [] (texts_compared size r d n e m)
  s_texts size r n m p q = bind f p (λ x w1 s1 ix. bind f (s_address_in x 0 ix) (λ a w2 s2 ia. bind f (s_bytes_in size n x (named_up _ _ x s2 ix)) (λ i w3 s3 ii. bind f (lift f w3 q) (λ y w4 s4 iy. bind f (s_address_in y 0 iy) (λ b w5 s5 ib.
      bind f (s_bytes_in size m y (named_up _ _ y s5 iy)) (λ j w6 s6 ij. bind f (emitted f Compare (a ∷ i ∷ b ∷ j ∷ []) (s6 a (s5 a (s4 a (s3 a ia))), (s6 i (s5 i (s4 i ii)), (s6 b ib, (ij, tt))))) (λ c w7 s7 ic. bind f (s_const 0) (λ z w8 s8 iz. emitted f (Set (condition r)) (c ∷ z ∷ []) (s8 c ic, (iz, tt))))))))))

  s_guarded : {x : Low ℕ} (g j : ℕ) → Value [] x → Value [] (guarded x g j)
  s_guarded g j p = bind f p (λ a w1 s1 ia. bind f (emitted f (GlobalOp g) [] tt) (λ b w2 s2 ib. bind f (done f (GuardPtr j) (a ∷ b ∷ []) (s2 a ia, (ib, tt))) (λ _ w3 s3 _. gives_value a (s3 a (s2 a ia)))))

  s_member : {x : Low ℕ} → Value [] x → Value [] (member x)
  s_member p = bind f p (λ a w1 s1 ia. bind f (done f Elem (a ∷ []) (ia, tt)) (λ _ w2 s2 _. gives_value a (s2 a ia)))

  s_contained : {x s : Low ℕ} → Value [] x → Value [] s → Value [] (contained x s)
  s_contained p q = both (s_member p) q (λ a b w i j. emitted f Has (a ∷ b ∷ []) (i, (j, tt)))

  s_with_element : {s x : Low ℕ} → Value [] s → Value [] x → Value [] (with_element s x)
  s_with_element q p = both q (s_member p) (λ b a w i j. bind f (emitted f Bit (a ∷ []) (j, tt)) (λ e w1 s1 ie. emitted f Or (b ∷ e ∷ []) (s1 b i, (ie, tt))))

  s_with_range : {s x y : Low ℕ} → Value [] s → Value [] x → Value [] y → Value [] (with_range s x y)
  s_with_range q p r = both q (s_member p) (λ b a w i j. bind f (lift f w (s_member r)) (λ c w1 s1 ic. bind f (emitted f Span (a ∷ c ∷ []) (s1 a j, (ic, tt))) (λ e w2 s2 ie. emitted f Or (b ∷ e ∷ []) (s2 b (s1 b i), (ie, tt)))))

  s_is_pointer : {w : List ℕ} (g j x : ℕ) → In x w → Value w (is_pointer g j x)
  s_is_pointer g j x i = bind f (emitted f (GlobalOp g) [] tt) (λ a w1 s1 ia. emitted f (IsPtr j) (x ∷ a ∷ []) (s1 x i, (ia, tt)))

  s_is_tag : {w : List ℕ} (g j x : ℕ) → In x w → Value w (is_tag g j x)
  s_is_tag g j x i = bind f (emitted f (GlobalOp g) [] tt) (λ a w1 s1 ia. emitted f (IsTag j) (x ∷ a ∷ []) (s1 x i, (ia, tt)))

  s_tag_of : {d : Low Named} → Place [] d → Value [] (tag_of d)
  s_tag_of p = bind f p (λ h w1 s1 ih. s_second h ih)

  s_as_byte : {x : Low ℕ} → Value [] x → Value [] (as_byte x)
  s_as_byte p = bind f p (λ a w1 s1 ia. bind f (done f Byte (a ∷ []) (ia, tt)) (λ _ w2 s2 _. gives_value a (s2 a ia)))

  s_length_of : {d : Low Named} (n : Option ℕ) → Place [] d → Value [] (length_of d n)
  s_length_of n p = bind f p (λ h w1 s1 ih. bind f (s_address_in h 0 ih) (λ _ w2 s2 _. s_length_in n h (named_up _ _ h s2 ih)))

  s_by_word : {x : Low ℕ} → Value [] x → Words [] (by_word x)
  s_by_word p = bind f p (λ a w1 s1 ia. gives_words (a ∷ []) (ia, tt))

  s_tag_in : {w : List ℕ} (g : ℕ) (h : Named) → OfNamed f.regs h w → Value w (tag_in g h)
  s_tag_in g (At a) i = emitted f _ _ tt
  s_tag_in g (Beside a b) i = gives_value b i.1
  s_tag_in g (Object p) i = emitted f _ _ (i, tt)
  s_tag_in g (Held x) i = s_const 0

  s_by_record : {d : Low Named} (g : ℕ) → Place [] d → Words [] (by_record d g)
  s_by_record g p = bind f p (λ h w1 s1 ih. bind f (s_address_in h 0 ih) (λ a w2 s2 ia. bind f (s_tag_in g h (named_up _ _ h s2 ih)) (λ t w3 s3 it. gives_words (a ∷ t ∷ []) (s3 a ia, (it, tt)))))

  s_by_open : {d : Low Named} (n : Option ℕ) → Place [] d → Words [] (by_open d n)
  s_by_open n p = bind f p (λ h w1 s1 ih. bind f (s_address_in h 0 ih) (λ a w2 s2 ia. bind f (s_length_in n h (named_up _ _ h s2 ih)) (λ l w3 s3 il. gives_words (a ∷ l ∷ []) (s3 a ia, (il, tt)))))

  s_also : {x more : Low (List ℕ)} → Words [] x → Words [] more → Words [] (also x more)
  s_also p q = bind f p (λ a w1 s1 ia. bind f (lift f w1 q) (λ b w2 s2 ib. gives_words (a ++ b) (all_on a b w2 (up_all a w1 w2 s2 ia) ib)))

  gives_request : {w : List ℕ} (r : Request) → AllIn r.words w → Scoped f OfRequest w (give r)
  gives_request {w} r i = gives f r (λ x s. up_all r.words w x s i)

  s_call : {args : Low (List ℕ)} (g : ℕ) → Words [] args → Scoped f OfRequest [] (call g args)
  s_call g q = bind f q (λ words w1 s1 i. gives_request (record { code = Call g; words = words }) i)

  s_call_at : {x : Low ℕ} {args : Low (List ℕ)} → Value [] x → Words [] args → Scoped f OfRequest [] (call_at x args)
  s_call_at p q = bind f p (λ t w1 s1 it. bind f (lift f w1 q) (λ words w2 s2 iw. bind f (done f NotNil (t ∷ []) (s2 t it, tt)) (λ _ w3 s3 _. gives_request (record { code = CallAt; words = t ∷ words }) (s3 t (s2 t it), up_all words w2 w3 s3 iw))))

  s_with_result : {m : Low Request} → Scoped f OfRequest [] m → Value [] (with_result m)
  s_with_result p = bind f p (λ r w s i. emitted f r.code r.words i)

  s_without_result : {m : Low Request} → Scoped f OfRequest [] m → Acts [] (without_result m)
  s_without_result p = bind f p (λ r w s i. done f r.code r.words i)

  s_current : {w : List ℕ} (h : Home) → OfHome f.regs h w → Value w (current h)
  s_current (InRegister x) i = variables f x i
  s_current (InMemory a is_small) i = emitted f _ _ (i, tt)

  s_home_in_memory : {w : List ℕ} (is_small : Bool) (h : Named) → OfNamed f.regs h w → Homes w (address_in h 0 >>= λ a. give (InMemory a is_small))
  s_home_in_memory is_small h i = bind f (s_address_in h 0 i) (λ a w s ia. gives f (InMemory a is_small) (λ x t. t a ia))

  s_home_in : {w : List ℕ} (is_small : Bool) (h : Named) → OfNamed f.regs h w → Homes w (home_in is_small h)
  s_home_in is_small (At a) i = s_home_in_memory is_small (At a) i
  s_home_in is_small (Beside a b) i = s_home_in_memory is_small (Beside a b) i
  s_home_in is_small (Object p) i = s_home_in_memory is_small (Object p) i
  s_home_in is_small (Held x) i = gives f (InRegister x) (λ y s. i)

  s_home_of : {d : Low Named} (is_small : Bool) → Place [] d → Homes [] (home_of d is_small)
  s_home_of is_small q = bind f q (λ h w s i. s_home_in is_small h i)

  s_load : {d : Low Home} → Homes [] d → Value [] (load d)
  s_load p = bind f p (λ h w s i. s_current h i)

  -- tests

  pub record Good (x : Lowers) : Type 0 where
    pub value : Value [] x.value
    pub test : Leading f [] x.test

  g_valued : {x : Low ℕ} → Value [] x → Good (valued x)
  g_valued p = record { value = p; test = f_value f p }

  g_tested : {t : Test} → Leading f [] t → Good (tested t)
  g_tested p = record { value = flags f p; test = p }

  g_one : {x : Lowers} (op : Unary) → Good x → Good (one_of op x)
  g_one Not p = record { value = s_unary Not p.value; test = f_not f p.test }
  g_one Negate p = g_valued (s_unary Negate p.value)
  g_one Complement p = g_valued (s_unary Complement p.value)
  g_one Abs p = g_valued (s_unary Abs p.value)
  g_one Odd p = g_valued (s_unary Odd p.value)

  -- statements

  pub s_store : {w : List ℕ} (is_small : Bool) (a v : ℕ) → In a w → In v w → Acts w (store is_small a v)
  s_store is_small a v i j = done f (if is_small then StoreByte else StoreOp) (a ∷ v ∷ []) (i, (j, tt))

  s_change : {w : List ℕ} (h : Home) (v : ℕ) → OfHome f.regs h w → In v w → Acts w (change h v)
  s_change (InRegister x) v e i = becoming f x v i
  s_change (InMemory a is_small) v e i = s_store is_small a v e i

  s_assign : {d : Low Home} {x : Low ℕ} → Homes [] d → Value [] x → Acts [] (assign d x)
  s_assign p q = bind f p (λ h w1 s1 ih. bind f (lift f w1 q) (λ v w2 s2 iv. s_change h v (home_up _ _ h s2 ih) iv))

  pub s_if : {A : Type 0} {P : A → List ℕ → Type 0} {w : List ℕ} (b : Bool) {m n : Low A} → Scoped f P w m → Scoped f P w n → Scoped f P w (if b then m else n)
  s_if true p q = p
  s_if false p q = q

  s_change_number : {d : Low Home} {x : Low ℕ} (op : Binary) (is_byte : Bool) → Homes [] d → Value [] x → Acts [] (change_number op d x is_byte)
  s_change_number op is_byte p q = bind f p (λ h w1 s1 ih. bind f (lift f w1 q) (λ n w2 s2 j. bind f (s_current h (home_up _ _ h s2 ih)) (λ v w3 s3 iv. bind f (s_two_operands op v n iv (s3 n j)) (λ u w4 s4 iu.
      bind f (s_if is_byte (done f Byte (u ∷ []) (iu, tt)) s_skip) (λ _ w5 s5 _. s_change h u (home_up _ _ h s5 (home_up _ _ h s4 (home_up _ _ h s3 (home_up _ _ h s2 ih)))) (s5 u iu))))))

  s_change_set : {d : Low Home} {x : Low ℕ} (op : Binary) → Homes [] d → Value [] x → Acts [] (change_set op d x)
  s_change_set op p q = bind f p (λ h w1 s1 ih. bind f (lift f w1 (s_member q)) (λ a w2 s2 ia. bind f (emitted f Bit (a ∷ []) (ia, tt)) (λ e w3 s3 ie. bind f (s_current h (home_up _ _ h s3 (home_up _ _ h s2 ih))) (λ v w4 s4 iv.
      bind f (s_two_operands op v e iv (s4 e ie)) (λ u w5 s5 iu. s_change h u (home_up _ _ h s5 (home_up _ _ h s4 (home_up _ _ h s3 (home_up _ _ h s2 ih)))) iu)))))

  s_new : {d : Low Home} (cells bytes g : ℕ) → Homes [] d → Acts [] (new d cells bytes g)
  s_new cells bytes g p = bind f p (λ h w1 s1 ih. bind f (s_const (cells + 1)) (λ n w2 s2 j. bind f (s_const (bytes + 8)) (λ b w3 s3 ib. bind f (emitted f (GlobalOp g) [] tt) (λ x w4 s4 ix.
      bind f (emitted f NewOp (n ∷ b ∷ x ∷ []) (s4 n (s3 n j), (s4 b ib, (ix, tt)))) (λ o w5 s5 io. s_change h o (home_up _ _ h s5 (home_up _ _ h s4 (home_up _ _ h s3 (home_up _ _ h s2 ih)))) io)))))

  s_fits_one : {w : List ℕ} (n m : Option ℕ) (to from : Named) → OfNamed f.regs to w → OfNamed f.regs from w → Acts w (length_in n to >>= λ a. length_in m from >>= λ b. does Fits (b ∷ a ∷ []))
  s_fits_one n m to from i j = bind f (s_length_in n to i) (λ a w1 s1 ia. bind f (s_length_in m from (named_up _ _ from s1 j)) (λ b w2 s2 ib. done f Fits (b ∷ a ∷ []) (ib, (s2 a ia, tt))))

  s_fits : {w : List ℕ} (n m : Option ℕ) (to from : Named) → OfNamed f.regs to w → OfNamed f.regs from w → Acts w (fits n to m from)
  s_fits None None to from i j = s_fits_one None None to from i j
  s_fits None (Some m) to from i j = s_fits_one None (Some m) to from i j
  s_fits (Some n) None to from i j = s_fits_one (Some n) None to from i j
  s_fits (Some n) (Some m) to from i j = s_skip

  s_copy_array : {d e : Low Named} (n m : Option ℕ) (size : ℕ) → Place [] d → Place [] e → Acts [] (copy_array d n e m size)
  s_copy_array n m size p q = bind f p (λ to w1 s1 i. bind f (s_address_in to 0 i) (λ a w2 s2 ia. bind f (lift f w2 q) (λ from w3 s3 j. bind f (s_address_in from 0 j) (λ b w4 s4 ib.
      bind f (s_fits n m to from (named_up _ _ to s4 (named_up _ _ to s3 (named_up _ _ to s2 i))) (named_up _ _ from s4 j)) (λ _ w5 s5 _. bind f (s_bytes_in size m from (named_up _ _ from s5 (named_up _ _ from s4 j))) (λ k w6 s6 ik.
      done f Copy (a ∷ b ∷ k ∷ []) (s6 a (s5 a (s4 a (s3 a ia))), (s6 b (s5 b ib), (ik, tt)))))))))

  s_copy_record : {d e : Low Named} (size : ℕ) → Place [] d → Place [] e → Acts [] (copy_record d e size)
  s_copy_record size p q = bind f p (λ to w1 s1 i. bind f (s_address_in to 0 i) (λ a w2 s2 ia. bind f (lift f w2 q) (λ from w3 s3 j. bind f (s_address_in from 0 j) (λ b w4 s4 ib.
      bind f (s_const size) (λ k w5 s5 ik. done f Copy (a ∷ b ∷ k ∷ []) (s5 a (s4 a (s3 a ia)), (s5 b ib, (ik, tt))))))))

  s_assert : {x : Low ℕ} → Value [] x → Acts [] (assert x)
  s_assert p = bind f p (λ a w1 s1 ia. done f True (a ∷ []) (ia, tt))

  s_out_char : {x : Low ℕ} → Value [] x → Acts [] (out_char x)
  s_out_char p = bind f p (λ a w1 s1 ia. done f (Svc 1) (a ∷ []) (ia, tt))

  s_out_int : {x n : Low ℕ} → Value [] x → Value [] n → Acts [] (out_int x n)
  s_out_int p q = both p q (λ a b w i j. done f (Svc 2) (a ∷ b ∷ []) (i, (j, tt)))

  s_out_string : {d : Low Named} (size : ℕ) (n : Option ℕ) → Place [] d → Acts [] (out_string size d n)
  s_out_string size n p = bind f p (λ h w1 s1 ih. bind f (s_address_in h 0 ih) (λ a w2 s2 ia. bind f (s_length_in n h (named_up _ _ h s2 ih)) (λ l w3 s3 il. bind f (s_const size) (λ k w4 s4 ik. done f (Svc 3) (a ∷ l ∷ k ∷ []) (s4 a (s3 a ia), (s4 l il, (ik, tt)))))))

  s_in_char : {d : Low Named} (b c : Bool) → Place [] d → Acts [] (in_char d b c)
  s_in_char b c p = bind f p (λ h w1 s1 ih. bind f (s_address_in h 0 ih) (λ a w2 s2 ia. bind f (emitted f (Svc 4) [] tt) (λ x w3 s3 ix. bind f (s_const 0) (λ z w4 s4 iz. bind f (emitted f (Set 10) (x ∷ z ∷ []) (s4 x ix, (iz, tt))) (λ ok w5 s5 iok.
      bind f (emitted f (GlobalOp 0) [] tt) (λ g w6 s6 ig. bind f (s_store b g ok ig (s6 ok iok)) (λ _ w7 s7 _. bind f (emitted f Max0 (x ∷ []) (s7 x (s6 x (s5 x (s4 x ix))), tt)) (λ v w8 s8 iv. s_store c a v (s8 a (s7 a (s6 a (s5 a (s4 a (s3 a ia)))))) iv))))))))

  s_for : {first body : Deed} {limit current : Low ℕ} (mask : Mask) → Masks mask f.regs → (k : ℕ) → k < 14 → Acts [] first → Value [] limit → Value [] current → Acts [] body → Acts [] (for mask k first limit current body)
  s_for {body = body} {current = current} mask m k few p q r t = bind f p (λ _ w1 s1 _. bind f (lift f w1 q) (λ l w2 s2 il.
      loops f mask m (record { test = fork_branch k current (give l); body = body } ∷ []) ((f_branch f k few (lift f w2 r) (λ a v s i. gives_value l (s l il)), lift f w2 t), tt)))

  -- regs are the register variables, and the parameters' words are given
  module _ (p : Program) (l : Layout) (here : Here)
      (same : (x : ℕ) → in_register p l here (variable_of p l here x).site ≡ f.regs x)
      (words : (k : ℕ) (x : Formal) → slice_get here.procedure.formals k ≡ Some x → OfNamed f.regs (by_mode x.mode (words_of (take k here.procedure.formals))) f.given) where
    s_local_by : (s : Site) (x : ℕ) → in_register p l here s ≡ f.regs x → Place [] (local_by p l here s x)
    s_local_by Register x e = gives f (Held x) (λ y s. sym e)
    s_local_by (Memory n) x e = s_local_at (here.bytes - n)

    s_parameter_by : (x : Option Formal) (w : ℕ) → ((k : Formal) → x ≡ Some k → OfNamed f.regs (by_mode k.mode w) f.given) → Place [] (parameter_by x w)
    s_parameter_by (Some x) w i = gives_first f (by_mode x.mode w) (λ y s. named_up _ _ (by_mode x.mode w) s (i x refl))
    s_parameter_by None w i = bind f (s_const 0) (λ a w1 s1 i. gives_named (At a) i)

    s_based : (b : Base) → Place [] (based p l here b)
    s_based Done = s_data_at 0
    s_based (Global m v) = s_data_at _
    s_based (Local x) = s_local_by (variable_of p l here x).site x (same x)
    s_based (Parameter k) = s_parameter_by (slice_get here.procedure.formals k) (words_of (take k here.procedure.formals)) (words k)
    s_based (Text k) = s_data_at _

    s_all_guarded : (rs : List ℕ) {x : Low ℕ} → Value [] x → Value [] (all_guarded p l here rs x)
    s_all_guarded [] q = q
    s_all_guarded (r ∷ rs) q = s_all_guarded rs (s_guarded (descriptor p l here r) (level p l here r) q)

    mutual
      g_expr : (x : Expr) → Good (expr p l here x)
      g_expr (Literal n) = g_valued (s_const n)
      g_expr (Routine g) = g_valued (emitted f _ _ tt)
      g_expr (Load d) = g_valued (s_load (s_home_of (small p l here d) (s_named d)))
      g_expr (Guard' _ d rs) = g_valued (s_all_guarded rs (s_load (s_home_of (small p l here d) (s_named d))))
      g_expr (Unary' op _ x) = g_one op (g_expr x)
      g_expr (Chain' _ x _ links) = g_linked links (g_expr x)
      g_expr (Compare' r _ x _ y) = record { value = s_compared r (g_expr x).value (g_expr y).value; test = f_branch f (condition r) (condition_few r) (g_expr x).value (λ a v s i. lift f v (g_expr y).value) }
      g_expr (CompareTexts' r _ d _ e) = g_valued (s_texts l.character r (length_of_kind (kind_in d)) (length_of_kind (kind_in e)) (s_named d) (s_named e))
      g_expr (In' _ x _ s) = g_valued (s_contained (g_expr x).value (g_expr s).value)
      g_expr (IsPointer' _ x r) = g_valued (bind f (g_expr x).value (λ a w s i. s_is_pointer (descriptor p l here r) (level p l here r) a i))
      g_expr (IsParameter d r) = g_valued (bind f (s_tag_of (s_named d)) (λ a w s i. s_is_tag (descriptor p l here r) (level p l here r) a i))
      g_expr (Byte' _ x) = g_valued (s_as_byte (g_expr x).value)
      g_expr (Length d) = g_valued (s_length_of (length_of_kind (kind_in d)) (s_named d))
      g_expr (Call' _ c) = g_valued (s_with_result (s_called c))

      g_linked : {m : _} (row : Row_of-Link m) {x : Lowers} → Good x → Good (linked p l here row x)
      g_linked end_of-Link q = q
      g_linked (more_of-Link k more) q = g_linked more (g_link k q)

      g_link : (k : Link) {x : Lowers} → Good x → Good (link p l here k x)
      g_link (Operate op y) q = g_valued (s_binary op q.value (g_expr y).value)
      g_link (AndLink y) q = g_tested (f_and f q.test (g_expr y).test)
      g_link (OrLink y) q = g_tested (f_or f q.test (g_expr y).test)
      g_link (Element y) q = g_valued (s_with_element q.value (g_expr y).value)
      g_link (Elements' _ y _ z) q = g_valued (s_with_range q.value (g_expr y).value (g_expr z).value)

      s_named : (d : Designator) → Place [] (named p l here d)
      s_named (Whole b k) = s_based b
      s_named (Part' _ b k _ row) = s_selected row (s_based b)

      s_selected : {m : _} (row : Row_of-Selector m) {d : Low Named} → Place [] d → Place [] (selected p l here row d)
      s_selected end_of-Selector q = q
      s_selected (more_of-Selector s more) q = s_selected more (s_select s q)

      s_select : (s : Selector) {d : Low Named} → Place [] d → Place [] (select p l here s d)
      s_select (Index n k x) q = s_element n (l.bytes k) q (g_expr x).value
      s_select (Field r k) q = s_field (l.offset r k) q
      s_select (Dereference rs) q = s_dereferenced (s_all_guarded rs (s_load (s_home_of false q)))
      s_select (Narrow r) q = s_narrowed (descriptor p l here r) (level p l here r) q

      s_called : (c : CallForm) → Scoped f OfRequest [] (called p l here c)
      s_called (Direct' g _ args) = s_call g (s_arguments args)
      s_called (Indirect' d _ args) = s_call_at (s_load (s_home_of (small p l here d) (s_named d))) (s_arguments args)

      s_argument : (a : Argument) → Words [] (argument p l here a)
      s_argument (ByValue x) = s_by_word (g_expr x).value
      s_argument (ByPlace d) = s_by_word (s_address (s_named d))
      s_argument (ByRecord d) = s_by_record _ (s_named d)
      s_argument (ByOpen d) = s_by_open (length_of_kind (kind_in d)) (s_named d)

      s_arguments : {m : _} (row : Row_of-Argument m) → Words [] (arguments p l here row)
      s_arguments end_of-Argument = gives_words [] tt
      s_arguments (more_of-Argument x more) = s_also (s_argument x) (s_arguments more)

    s_home : (d : Designator) → Homes [] (home p l here d)
    s_home d = s_home_of (small p l here d) (s_named d)

    s_value : (x : Checked) → Value [] (value p l here x)
    s_value x = (g_expr x.form).value

    f_test : (x : Checked) → Leading f [] (test p l here x)
    f_test x = (g_expr x.form).test

    masks : (mask : Mask) → Masks (registers p l here mask) f.regs
    masks mask x e = sym (same x) ∙ (and_of (in_register p l here (variable_of p l here x).site) (mask x) e).0

    -- CASE

    f_const : {w : List ℕ} (v k : ℕ) → k < 14 → In v w → (a : ℕ) → Leading f w (fork_branch k (give v) (const a))
    f_const v k few i a = f_branch f k few (gives_value v i) (λ _ w s _. s_const a)

    f_label : {w : List ℕ} (v : ℕ) → In v w → (x : Label) → Leading f w (label_test p l here v x)
    f_label v i (One a) = f_const v 0 (omega arith) i (unsigned a)
    f_label v i (Range a b) = f_and f (f_const v 10 (omega arith) i (unsigned a)) (f_const v 13 (omega arith) i (unsigned b))

    f_labels : (w : List ℕ) (v : ℕ) → In v w → (ls : List Label) → Each (Leading f w) (map (label_test p l here v) ls)
    f_labels w v i [] = tt
    f_labels w v i (x ∷ xs) = (f_label v i x, f_labels w v i xs)

    abbrev all_labels : ℕ → List (List Label) → List (List Test)
    all_labels v lss = map (λ ls. map (label_test p l here v) ls) lss

    f_all_labels : (w : List ℕ) (v : ℕ) → In v w → (lss : List (List Label)) → Each (Each (Leading f w)) (all_labels v lss)
    f_all_labels w v i [] = tt
    f_all_labels w v i (ls ∷ lss) = (f_labels w v i ls, f_all_labels w v i lss)

    abbrev all_types : (ℕ → ℕ → ℕ → Low ℕ) → ℕ → List ℕ → List (List Test)
    all_types is v rs = map (λ r. type_test p l here is v r ∷ []) rs

    f_all_types : (w : List ℕ) (is : ℕ → ℕ → ℕ → Low ℕ) → ((g j x : ℕ) → In x w → Value w (is g j x)) → (v : ℕ) → In v w → (rs : List ℕ) → Each (Each (Leading f w)) (all_types is v rs)
    f_all_types w is q v i [] = tt
    f_all_types w is q v i (r ∷ rs) = ((f_value f (q (descriptor p l here r) (level p l here r) v i), tt), f_all_types w is q v i rs)

    abbrev rung : ℕ → Test → Rung
    rung i t = record { test = t; part = i }

    each_rung : (w : List ℕ) (n i : ℕ) → i < n → (ts : List Test) → Each (Leading f w) ts → Each (Among f w n) (map (λ (t : Test). rung i t) ts)
    each_rung w n i less [] q = tt
    each_rung w n i less (t ∷ ts) q = ((q.0, less), each_rung w n i less ts q.1)

    each_rungs : (w : List ℕ) (n i : ℕ) (tests : List (List Test)) → i + length tests ≡ n → Each (Each (Leading f w)) tests → Each (Among f w n) (rungs_from p l here i tests)
    each_rungs w n i [] e q = tt
    each_rungs w n i (ts ∷ more) e q =
        each_on (Among f w n) (map (λ (t : Test). rung i t) ts) (rungs_from p l here (suc i) more) (each_rung w n i (omega (arith, e)) ts q.0) (each_rungs w n (suc i) more (omega (arith, e)) q.1)

    each_lifted : (w : List ℕ) (bodies : List Deed) → Each (λ (b : Deed). Acts [] b) bodies → Each (λ (b : Deed). Acts w b) bodies
    each_lifted w [] q = tt
    each_lifted w (b ∷ bodies) q = (lift f w q.0, each_lifted w bodies q.1)

    s_case_of : {x : Low ℕ} (mask : Mask) → Masks mask f.regs → (tests : ℕ → List (List Test)) (bodies : List Deed) (unmatched : ℕ → List ℕ → End) → Quiet f unmatched → Value [] x
        → ((w : List ℕ) (v : ℕ) → In v w → Each (Each (Leading f w)) (tests v)) → ((v : ℕ) → length (tests v) ≡ length bodies) → Each (λ (b : Deed). Acts [] b) bodies → Acts [] (case_of p l here mask x tests bodies unmatched)
    s_case_of mask m tests bodies unmatched u q r n t = bind f q (λ v w s i.
        cases f mask m (rungs_from p l here 0 (tests v)) bodies unmatched u (each_rungs w (length bodies) 0 (tests v) (let e = n v in omega (arith, e)) (r w v i)) (each_lifted w bodies t))

    traps : Quiet f (λ out args. Trap 6)
    traps args w out a o = (tt, tt)

    jumps : Quiet f (λ out args. Jump out args)
    jumps args w out a o = (a, o)

    -- as many tests as parts

    many_labels : {m : _} (row : Row_of-CasePart m) (v : ℕ) → length (label_tests p l here row v) ≡ length (case_bodies p l here row)
    many_labels end_of-CasePart v = refl
    many_labels (more_of-CasePart labels _ body more) v = ap suc (many_labels more v)

    many_types : {m : _} (row : Row_of-TypePart m) (is : ℕ → ℕ → ℕ → Low ℕ) (v : ℕ) → length (type_tests p l here row is v) ≡ length (type_bodies p l here row)
    many_types end_of-TypePart is v = refl
    many_types (more_of-TypePart r _ body more) is v = ap suc (many_types more is v)

    bound_few : (step : ℤ) → bound p l here step < 14
    bound_few step = either_few (int_lt (pos 0) step) 13 10 14 (omega arith) (omega arith)

    mutual
      s_deed : (s : Stmt) → Acts [] (deed p l here s)
      s_deed (Assign d x) = s_assign (s_home d) (s_value x)
      s_deed (CopyArray d e) = s_copy_array (length_of_kind (kind_in d)) (length_of_kind (kind_in e)) (l.bytes (element_kind (kind_in d))) (s_named d) (s_named e)
      s_deed (CopyRecord d e) = s_copy_record (l.record_bytes (record_of_kind (kind_in d))) (s_named d) (s_named e)
      s_deed (Increase d x) = s_change_number Add (is_byte (kind_in d)) (s_home d) (s_value x)
      s_deed (Decrease d x) = s_change_number Subtract (is_byte (kind_in d)) (s_home d) (s_value x)
      s_deed (Include d x) = s_change_set Union (s_home d) (s_value x)
      s_deed (Exclude d x) = s_change_set Difference (s_home d) (s_value x)
      s_deed (New d) = s_new (record_cells p.types (record_of_kind (kind_in d))) (rounded (l.record_bytes (record_of_kind (kind_in d)))) (descriptor p l here (record_of_kind (kind_in d))) (s_home d)
      s_deed (Assert x) = s_assert (s_value x)
      s_deed (OutChar x) = s_out_char (s_value x)
      s_deed (OutInt x n) = s_out_int (s_value x) (s_value n)
      s_deed (OutString d) = s_out_string l.character (length_of_kind (kind_in d)) (s_named d)
      s_deed OutLn = s_out_char (s_const 10)
      s_deed (InChar d) = s_in_char (l.is_small Boolean) (l.is_small (kind_in d)) (s_named d)
      s_deed (Invoke c) = s_without_result (s_called c)
      s_deed (If' _ parts _ other) = s_alternatives parts (assigned_all other) (s_deeds other)
      s_deed (While' _ parts) = loops f _ (masks _) (guarded_rounds p l here parts) (each_round parts)
      s_deed (Repeat' _ body x) = repeats f _ (masks _) (s_deeds body) (f_test x)
      s_deed (For' _ d x y step _ body) = s_for _ (masks _) (bound p l here step) (bound_few step) (s_assign (s_home d) (s_value x)) (s_value y) (s_load (s_home d)) (bind f (s_deeds body) (λ _ w s _. lift f w (s_assign (s_home d) (s_binary Add (s_load (s_home d)) (s_const (unsigned step))))))
      s_deed (Case' x _ parts) = s_case_of _ (masks _) (label_tests p l here parts) (case_bodies p l here parts) (λ out args. Trap 6) traps (s_value x) (λ w v i. f_all_labels w v i (labels_of p l here parts)) (many_labels parts) (each_case_body parts)
      s_deed (CasePointer' x _ parts) = s_case_of _ (masks _) (type_tests p l here parts is_pointer) (type_bodies p l here parts) (λ out args. Jump out args) jumps (s_value x) (λ w v i. f_all_types w is_pointer s_is_pointer v i (records_of p l here parts)) (many_types parts is_pointer) (each_type_body parts)
      s_deed (CaseParameter' d _ parts) = s_case_of _ (masks _) (type_tests p l here parts is_tag) (type_bodies p l here parts) (λ out args. Jump out args) jumps (s_tag_of (s_named d)) (λ w v i. f_all_types w is_tag s_is_tag v i (records_of p l here parts)) (many_types parts is_tag) (each_type_body parts)

      s_deeds : {m : _} (row : Row_of-Stmt m) → Acts [] (deeds p l here row)
      s_deeds end_of-Stmt = s_skip
      s_deeds (more_of-Stmt s more) = bind f (s_deed s) (λ _ w t _. lift f w (s_deeds more))

      s_alternatives : {m : _} (row : Row_of-Branch m) (mask : Mask) {other : Deed} → Acts [] other → Acts [] (alternatives p l here row mask other)
      s_alternatives end_of-Branch mask q = q
      s_alternatives (more_of-Branch x _ body more) mask q = chooses f _ (masks (either (assigned_all body) (either (assigned_branches more) mask))) (f_test x) (s_deeds body) (s_alternatives more mask q)

      each_round : {m : _} (row : Row_of-Branch m) → Each (Both f []) (guarded_rounds p l here row)
      each_round end_of-Branch = tt
      each_round (more_of-Branch x _ body more) = ((f_test x, s_deeds body), each_round more)

      each_case_body : {m : _} (row : Row_of-CasePart m) → Each (λ (b : Deed). Acts [] b) (case_bodies p l here row)
      each_case_body end_of-CasePart = tt
      each_case_body (more_of-CasePart labels _ body more) = (s_deeds body, each_case_body more)

      each_type_body : {m : _} (row : Row_of-TypePart m) → Each (λ (b : Deed). Acts [] b) (type_bodies p l here row)
      each_type_body end_of-TypePart = tt
      each_type_body (more_of-TypePart r _ body more) = (s_deeds body, each_type_body more)

    s_deeds_of : (ss : List Stmt) → Acts [] (deeds_of p l here ss)
    s_deeds_of [] = s_skip
    s_deeds_of (s ∷ more) = bind f (s_deed s) (λ _ w t _. lift f w (s_deeds_of more))

    s_answer : (x : Option Checked) → Scoped f OfAnswer [] (answer p l here x)
    s_answer None = gives f None (λ x s. tt)
    s_answer (Some x) = bind f (s_value x) (λ v w1 s1 i. gives f (Some v) (λ y s. (s v i, tt)))

    -- statements and what is returned
    pub s_rest : (ss : List Stmt) (x : Option Checked) → Scoped f OfAnswer [] (deeds_of p l here ss >>= λ _. answer p l here x)
    s_rest ss x = bind f (s_deeds_of ss) (λ _ w s _. lift f w (s_answer x))
