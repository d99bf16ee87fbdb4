-- Where lowered blocks end with a trap, its kind has 16 bits: the only such end is that of a CASE without a match.
--
-- One induction over the tree, as in `Everywhere` of `ssa_lowered`, whose laws hold for each end that such a CASE may have.
use Rattle.std.proofs.Common.{◌≡◌, ℕ, zero, suc, ◌+◌, ◌*◌, ◌-◌, List, [], ◌∷◌, ◌++◌, map, Bool, true, false, Option, Some, None, slice_get, refl}
use Rattle.std.specs.Prelude.{if◌then◌else◌}
use Rattle.wrapping_numbers.specs.Numbers.{unsigned}
use Rattle.ob_types.specs.Layout.{kind_of, record_cells}
use Rattle.ob_types.specs.Meaning.{kind_in, length_of_kind, element_kind, record_of_kind, is_byte}
use Rattle.ob_types.specs.declared.types.TypeKind.TheVariants.{Bool as Boolean}
use Rattle.ob_types.specs.declared.types.Formal.{Formal}
use Rattle.ob_types.specs.declared.tree.Unary.{Unary}
use Rattle.ob_types.specs.declared.tree.Unary.TheVariants.{Negate, Complement, Not, Abs, Odd}
use Rattle.ob_types.specs.declared.tree.Binary.{Binary}
use Rattle.ob_types.specs.declared.tree.Binary.TheVariants.{Add, Subtract, Multiply, Div, Mod, Union, Difference, Intersection, SymmetricDifference, Subset, Superset, Lsl, Asr, Ror}
use Rattle.ob_types.specs.declared.tree.Relation.{Relation}
use Rattle.ob_types.specs.declared.tree.Expr.{Expr, Literal, Routine, Load, Guard', Unary', Chain', Compare', CompareTexts', In', IsPointer', IsParameter, Byte', Length, Call', Row_of-Link, end_of-Link, more_of-Link}
use Rattle.ob_types.specs.declared.tree.Link.{Link, Operate, Element, Elements'}
use Rattle.ob_types.specs.declared.tree.Link.{And as AndLink, Or as OrLink}
use Rattle.ob_types.specs.declared.tree.Base.{Base}
use Rattle.ob_types.specs.declared.tree.Base.TheVariants.{Done, Global, Local, Parameter, Text}
use Rattle.ob_types.specs.declared.tree.Designator.{Designator, Whole, Part', Row_of-Selector, end_of-Selector, more_of-Selector}
use Rattle.ob_types.specs.declared.tree.Selector.{Selector, Index, Field, Dereference, Narrow}
use Rattle.ob_types.specs.declared.tree.Call.{Row_of-Argument, end_of-Argument, more_of-Argument, Direct', Indirect'}
use Rattle.ob_types.specs.declared.tree.Call.{Call as CallForm}
use Rattle.ob_types.specs.declared.tree.Argument.{Argument, ByValue, ByPlace, ByRecord, ByOpen}
use Rattle.ob_types.specs.declared.statements.Checked.{Checked}
use Rattle.ob_types.specs.declared.statements.Label.{Label}
use Rattle.ob_types.specs.declared.statements.Label.TheVariants.{One, Range}
use Rattle.ob_types.specs.declared.statements.Stmt.{Stmt, Assign, CopyArray, CopyRecord, Increase, Decrease, Include, Exclude, New, Assert, OutChar, OutInt, OutString, OutLn, InChar, If', While', Repeat', For', Case', CasePointer', CaseParameter', Row_of-Stmt, end_of-Stmt, more_of-Stmt, Row_of-Branch, end_of-Branch, more_of-Branch, Row_of-CasePart, end_of-CasePart, more_of-CasePart, Row_of-TypePart, end_of-TypePart, more_of-TypePart}
use Rattle.ob_types.specs.declared.statements.Stmt.{Call as Invoke}
use Rattle.ob_types.specs.declared.program.Program.{Program}
use Rattle.block_runs.specs.declared.code.Code.{Code}
use Rattle.block_runs.specs.declared.code.Code.TheVariants.{Svc, Max0, Copy, Fits, Set, True, Const, Plus, Call, CallAt, StoreByte, Arg, Zero, Mul, MulAdd, Below, NotNil, GuardPtr, GuardTag, IsPtr, IsTag, Bic, Compare, Elem, Has, Bit, Span, Or, Byte}
use Rattle.block_runs.specs.declared.code.Code.TheVariants.{Local as LocalOp, Global as GlobalOp, New as NewOp, Store as StoreOp, Load as LoadOp}
use Rattle.block_runs.specs.declared.end.End.{End}
use Rattle.block_runs.specs.declared.end.End.TheVariants.{Jump, Branch, Nonzero, Trap}
use Rattle.ssa_lowered.specs.Data.{Layout, rounded}
use Rattle.ssa_lowered.specs.Pieces.{Cursor, Start, Piece, Appends, Closes, Low, skip, give, ◌>>=◌, emits, does, fetched, variable, becomes, close, fresh, plain, Mask, picked, join, join_start}
use Rattle.ssa_lowered.specs.Values.{const, condition, Named, At, Beside, Object, Held, past, address_in, second, length_in, bytes_in, address, data_at, local_at, element, field, dereferenced, narrowed, one_operand, two_operands, included, unary, binary, compared, texts_compared, guarded, member, contained, with_element, with_range, is_pointer, is_tag, tag_of, tag_in, as_byte, length_of, by_word, by_record, by_open, also, Request, call, call_at, with_result, without_result, home_in, home_of, load, Home, current, change, store}
use Rattle.ssa_lowered.specs.Values.{Register as InRegister, Memory as InMemory}
use Rattle.ssa_lowered.specs.Control.{half, often, at_freq, Test, fork, fork_value, fork_branch, fork_not, fork_and, fork_or, flag, Lowers, valued, tested, choose, Round, behind, rounds, loop, repeat, for, Rung, ladder, limbs, case}
use Rattle.ssa_lowered.specs.Statements.{Deed, assign, change_number, change_set, new, fits, copy_array, copy_record, assert, out_char, out_int, out_string, in_char}
use Rattle.ssa_lowered.specs.Variables.{Site, Register, Memory, Variable, some_structured, further, zeroing, first_value, store_first, stored, first_of, opened, is_structured, either, assigned_all, assigned_branches}
use Rattle.ssa_lowered.specs.Lowered.{Here, one_of, parameter_by, variable_of, local_by, based, descriptor, level, all_guarded, small, expr, linked, link, named, selected, select, called, argument, arguments, value, test, home, registers, label_test, type_test, rungs_from, case_of, labels_of, records_of, label_tests, type_tests, bound, deed, deeds, alternatives, guarded_rounds, case_bodies, type_bodies, deeds_of, answer, enters, whole}
use Rattle.ssa_lowered.proofs.Everywhere.{Each, each_on}
use Rattle.link_blocks.specs.Fits.{trap_fits}

-- the ends of pieces
abbrev pub AllEndsFit : List Piece → Type 0
AllEndsFit [] = Unit {0}
AllEndsFit (Appends b i op ∷ ps) = AllEndsFit ps
AllEndsFit (Closes b i end start ∷ ps) = (trap_fits end ≡ true) × AllEndsFit ps

pub record EndsFit (ps : List Piece) : Type 0 where
  pub by : AllEndsFit ps

ends_on : (xs ys : List Piece) → AllEndsFit xs → AllEndsFit ys → AllEndsFit (xs ++ ys)
ends_on [] ys p q = q
ends_on (Appends b i op ∷ xs) ys p q = ends_on xs ys p q
ends_on (Closes b i end start ∷ xs) ys p q = (p.0, ends_on xs ys p.1 q)

joined : {xs ys : List Piece} → EndsFit xs → EndsFit ys → EndsFit (xs ++ ys)
joined {xs} {ys} p q = record { by = ends_on xs ys p.by q.by }

closing : {ps : List Piece} (c : Cursor) (end : End) (start : Start) → trap_fits end ≡ true → EndsFit ps → EndsFit (close c end start ∷ ps)
closing c end start e p = record { by = (e, p.by) }

no_end : EndsFit []
no_end = record { by = tt }

-- what a construct becomes, and what a condition becomes
pub record Fine (A : Type 0) (m : Low A) : Type 0 where
  pub by : (c : Cursor) → EndsFit (m c).pieces

pub record FineTest (t : Test) : Type 0 where
  pub by : (c : Cursor) (yes no freq : ℕ) → EndsFit ((t c).pieces yes no freq)

---- The smallest parts

bind : {A B : Type 0} {m : Low A} {f : A → Low B} → Fine A m → ((a : A) → Fine B (f a)) → Fine B (m >>= f)
bind {A = A} {B = B} {m = m} {f = f} p q = record { by = λ c. joined (p.by c) ((q (m c).result).by (m c).after) }

s_give : {A : Type 0} (a : A) → Fine A (give a)
s_give {A = A} a = record { by = λ c. no_end }

emitted : (code : Code) (uses : List ℕ) → Fine ℕ (emits code uses)
emitted code uses = record { by = λ c. record { by = tt } }

done : (code : Code) (uses : List ℕ) → Fine (Unit {0}) (does code uses)
done code uses = record { by = λ c. record { by = tt } }

fetched_fine : (v : Option ℕ) (c : Cursor) → EndsFit (fetched v c).pieces
fetched_fine (Some v) c = no_end
fetched_fine None c = record { by = tt }

variables : (x : ℕ) → Fine ℕ (variable x)
variables x = record { by = λ c. fetched_fine (slice_get c.env x) c }

becoming : (x v : ℕ) → Fine (Unit {0}) (becomes x v)
becoming x v = record { by = λ c. no_end }

forks : (m : Low (ℕ → ℕ → End)) → Fine (ℕ → ℕ → End) m → ((c : Cursor) (yes no : ℕ) → trap_fits ((m c).result yes no) ≡ true) → FineTest (fork m)
forks m p e = record { by = λ c yes no f. joined (p.by c) (closing (m c).after ((m c).result yes no) (plain f c.seen) (e c yes no) no_end) }

nots : (t : Test) → FineTest t → FineTest (fork_not t)
nots t p = record { by = λ c yes no f. p.by c no yes f }

ands : (t u : Test) → FineTest t → FineTest u → FineTest (fork_and t u)
ands t u p q = record { by = λ c yes no f. joined (p.by c (t c).after.block no c.freq) (q.by (t c).after yes no f) }

ors : (t u : Test) → FineTest t → FineTest u → FineTest (fork_or t u)
ors t u p q = record { by = λ c yes no f. joined (p.by c yes (t c).after.block c.freq) (q.by (t c).after yes no f) }

flags : (t : Test) → FineTest t → Fine ℕ (flag t)
flags t p = record {
  by = λ c.
      let x = t c in
      let yes = at_freq x.after (half c.freq) in
      let one = const 1 yes in
      let no : Cursor = record (fresh one.after) { seen = x.after.seen } in
      joined (p.by c yes.block no.block yes.freq) (record { by = (refl, (refl, tt)) });
}

---- Choices, loops and cases

chooses : (mask : Mask) (t : Test) (f g : Deed) → FineTest t → Fine (Unit {0}) f → Fine (Unit {0}) g → Fine (Unit {0}) (choose mask t f g)
chooses mask t f g p q r = record {
  by = λ c.
      let x = t c in
      let first_arm = at_freq x.after (half c.freq) in
      let one = f first_arm in
      let other : Cursor = record (fresh one.after) { freq = half c.freq; env = x.after.env; seen = x.after.seen } in
      let two = g other in
      let out = join mask two.after other c.freq in
      joined (p.by c x.after.block other.block (half c.freq))
      (joined (q.by first_arm) (closing one.after (Jump out.block (picked mask one.after.env)) (plain other.freq other.seen) refl
      (joined (r.by other) (closing two.after (Jump out.block (picked mask two.after.env)) (join_start mask two.after other c.freq None) refl no_end))));
}

rounds_fine : (mask : Mask) (head outside : ℕ) (rs : List Round) → Each (λ (r : Round). FineTest r.test × Fine (Unit {0}) r.body) rs → (c : Cursor) → EndsFit (rounds mask head outside rs c).pieces
rounds_fine mask head outside [] q c = no_end
rounds_fine mask head outside (r ∷ rs) q c =
    let t = r.test c in
    let first_arm = at_freq t.after c.freq in
    let one = r.body first_arm in
    let next : Cursor = record (fresh one.after) { freq = behind rs c.freq outside; env = t.after.env; seen = t.after.seen } in
    joined (q.0.0.by c t.after.block next.block c.freq)
    (joined (q.0.1.by first_arm) (closing one.after (Jump head (picked mask one.after.env)) (plain next.freq next.seen) refl (rounds_fine mask head outside rs q.1 next)))

loops : (mask : Mask) (rs : List Round) → Each (λ (r : Round). FineTest r.test × Fine (Unit {0}) r.body) rs → Fine (Unit {0}) (loop mask rs)
loops mask rs q = record {
  by = λ c.
      let head = join mask c c (often c.freq) in
      closing c (Jump head.block (picked mask c.env)) (join_start mask c c head.freq (Some c.block)) refl (rounds_fine mask head.block c.freq rs q head);
}

repeats : (mask : Mask) (f : Deed) (t : Test) → Fine (Unit {0}) f → FineTest t → Fine (Unit {0}) (repeat mask f t)
repeats mask f t q p = record {
  by = λ c.
      let head = join mask c c (often c.freq) in
      let one = f head in
      let x = t one.after in
      let back = at_freq x.after head.freq in
      let exit = at_freq (fresh back) c.freq in
      closing c (Jump head.block (picked mask c.env)) (join_start mask c c head.freq (Some c.block)) refl
      (joined (q.by head) (joined (p.by one.after exit.block back.block back.freq) (closing back (Jump head.block (picked mask back.env)) (plain exit.freq exit.seen) refl no_end)));
}

ladder_fine : (last : ℕ) (rs : List Rung) → Each (λ (r : Rung). FineTest r.test) rs → (to : ℕ → ℕ) (c : Cursor) → EndsFit ((ladder last rs c).pieces to)
ladder_fine last [] q to c = closing c (Jump (suc c.block) []) (plain last c.seen) refl no_end
ladder_fine last (r ∷ []) q to c = q.0.by c (to r.part) (r.test c).after.block last
ladder_fine last (r ∷ s ∷ rs) q to c = joined (q.0.by c (to r.part) (r.test c).after.block c.freq) (ladder_fine last (s ∷ rs) q.1 to (r.test c).after)

limbs_fine : (mask : Mask) (s : Cursor) (bodies : List Deed) → Each (Fine (Unit {0})) bodies → (c : Cursor) (end : ℕ → End) → ((out : ℕ) → trap_fits (end out) ≡ true) → (out : ℕ) → EndsFit ((limbs mask s bodies c end).pieces out)
limbs_fine mask s [] q c end e out = closing c (end out) (join_start mask c s s.freq None) (e out) no_end
limbs_fine mask s (body ∷ bodies) q c end e out =
    let start : Cursor = record (fresh c) { freq = half s.freq; env = s.env; seen = s.seen } in
    let one = body start in
    closing c (end out) (plain start.freq start.seen) (e out) (joined (q.0.by start) (limbs_fine mask s bodies q.1 one.after (λ to. Jump to (picked mask one.after.env)) (λ to. refl) out))

cases : (mask : Mask) (rungs : List Rung) (bodies : List Deed) (unmatched : ℕ → List ℕ → End) → ((out : ℕ) (args : List ℕ) → trap_fits (unmatched out args) ≡ true)
    → Each (λ (r : Rung). FineTest r.test) rungs → Each (Fine (Unit {0})) bodies → Fine (Unit {0}) (case mask rungs bodies unmatched)
cases mask rungs bodies unmatched e p q = record {
  by = λ c.
      let t = ladder (half c.freq) rungs c in
      let end : ℕ → End = λ out. unmatched out (picked mask c.env) in
      let a = limbs mask c bodies t.after end in
      joined (ladder_fine (half c.freq) rungs p a.starts c) (limbs_fine mask c bodies q t.after end (λ out. e out (picked mask c.env)) a.after.block);
}

---- Values

s_past : (a n : ℕ) → Fine ℕ (past a n)
s_past a zero = s_give a
s_past a (suc n) = emitted (Plus (suc n)) (a ∷ [])

s_const : (n : ℕ) → Fine ℕ (const n)
s_const n = emitted (Const n) []

s_address_in : (h : Named) (n : ℕ) → Fine ℕ (address_in h n)
s_address_in (At a) n = s_past a n
s_address_in (Beside a b) n = s_past a n
s_address_in (Object p) n = emitted (Plus (8 + n)) (p ∷ [])
s_address_in (Held x) n = s_const 0

s_address : {d : Low Named} → Fine Named d → Fine ℕ (address d)
s_address p = bind p (λ h. s_address_in h 0)

s_second : (h : Named) → Fine ℕ (second h)
s_second (At a) = emitted (Const 0) []
s_second (Beside a b) = s_give b
s_second (Object p) = emitted LoadOp (p ∷ [])
s_second (Held x) = s_const 0

s_length_in : (n : Option ℕ) (h : Named) → Fine ℕ (length_in n h)
s_length_in None h = s_second h
s_length_in (Some n) h = s_const n

s_bytes_in : (size : ℕ) (n : Option ℕ) (h : Named) → Fine ℕ (bytes_in size n h)
s_bytes_in size None h = bind (s_second h) (λ n. bind (s_const size) (λ s. emitted Mul (n ∷ s ∷ [])))
s_bytes_in size (Some n) h = s_const (n * size)

s_data_at : (n : ℕ) → Fine Named (data_at n)
s_data_at n = bind (emitted (GlobalOp n) []) (λ a. s_give (At a))

s_local_at : (n : ℕ) → Fine Named (local_at n)
s_local_at n = bind (emitted (LocalOp n) []) (λ a. s_give (At a))

s_element : {d : Low Named} {x : Low ℕ} (n : Option ℕ) (size : ℕ) → Fine Named d → Fine ℕ x → Fine Named (element d n size x)
s_element n size p q = bind p (λ h. bind (s_address_in h 0) (λ a. bind q (λ i. bind (s_length_in n h) (λ l. bind (done Below (i ∷ l ∷ [])) (λ _. bind (s_const size) (λ s. bind (emitted MulAdd (i ∷ s ∷ a ∷ [])) (λ e. s_give (At e))))))))

s_field : {d : Low Named} (n : ℕ) → Fine Named d → Fine Named (field d n)
s_field n p = bind p (λ h. bind (s_address_in h n) (λ a. s_give (At a)))

s_dereferenced : {x : Low ℕ} → Fine ℕ x → Fine Named (dereferenced x)
s_dereferenced q = bind q (λ a. bind (done NotNil (a ∷ [])) (λ _. s_give (Object a)))

s_narrowed : {d : Low Named} (g j : ℕ) → Fine Named d → Fine Named (narrowed d g j)
s_narrowed g j p = bind p (λ h. bind (s_second h) (λ t. bind (emitted (GlobalOp g) []) (λ x. bind (done (GuardTag j) (t ∷ x ∷ [])) (λ _. s_give h))))

s_one_operand : (op : Unary) (x : ℕ) → Fine ℕ (one_operand op x)
s_one_operand Negate x = emitted _ _
s_one_operand Complement x = emitted _ _
s_one_operand Not x = emitted _ _
s_one_operand Abs x = emitted _ _
s_one_operand Odd x = emitted _ _

s_included : (x y : ℕ) → Fine ℕ (included x y)
s_included x y = bind (emitted Bic (x ∷ y ∷ [])) (λ d. bind (s_const 0) (λ z. emitted (Set 0) (d ∷ z ∷ [])))

s_two_operands : (op : Binary) (x y : ℕ) → Fine ℕ (two_operands op x y)
s_two_operands Add x y = emitted _ _
s_two_operands Subtract x y = emitted _ _
s_two_operands Multiply x y = emitted _ _
s_two_operands Div x y = emitted _ _
s_two_operands Mod x y = emitted _ _
s_two_operands Union x y = emitted _ _
s_two_operands Difference x y = emitted _ _
s_two_operands Intersection x y = emitted _ _
s_two_operands SymmetricDifference x y = emitted _ _
s_two_operands Subset x y = s_included x y
s_two_operands Superset x y = s_included y x
s_two_operands Lsl x y = emitted _ _
s_two_operands Asr x y = emitted _ _
s_two_operands Ror x y = emitted _ _

s_unary : {x : Low ℕ} (op : Unary) → Fine ℕ x → Fine ℕ (unary op x)
s_unary op p = bind p (λ a. s_one_operand op a)

s_binary : {x y : Low ℕ} (op : Binary) → Fine ℕ x → Fine ℕ y → Fine ℕ (binary op x y)
s_binary op p q = bind p (λ a. bind q (λ b. s_two_operands op a b))

s_compared : {x y : Low ℕ} (r : Relation) → Fine ℕ x → Fine ℕ y → Fine ℕ (compared r x y)
s_compared r p q = bind p (λ a. bind q (λ b. emitted (Set (condition r)) (a ∷ b ∷ [])))

s_texts : {d e : Low Named} (size : ℕ) (r : Relation) (n m : Option ℕ) → Fine Named d → Fine Named e → Fine ℕ (texts_compared size r d n e m)
s_texts size r n m p q = bind p (λ x. bind (s_address_in x 0) (λ a. bind (s_bytes_in size n x) (λ i. bind q (λ y. bind (s_address_in y 0) (λ b. bind (s_bytes_in size m y) (λ j. bind (emitted Compare (a ∷ i ∷ b ∷ j ∷ [])) (λ c. bind (s_const 0) (λ z. emitted (Set (condition r)) (c ∷ z ∷ [])))))))))

s_guarded : {x : Low ℕ} (g j : ℕ) → Fine ℕ x → Fine ℕ (guarded x g j)
s_guarded g j p = bind p (λ a. bind (emitted (GlobalOp g) []) (λ b. bind (done (GuardPtr j) (a ∷ b ∷ [])) (λ _. s_give a)))

s_member : {x : Low ℕ} → Fine ℕ x → Fine ℕ (member x)
s_member p = bind p (λ a. bind (done Elem (a ∷ [])) (λ _. s_give a))

s_contained : {x s : Low ℕ} → Fine ℕ x → Fine ℕ s → Fine ℕ (contained x s)
s_contained p q = bind (s_member p) (λ a. bind q (λ b. emitted Has (a ∷ b ∷ [])))

s_with_element : {s x : Low ℕ} → Fine ℕ s → Fine ℕ x → Fine ℕ (with_element s x)
s_with_element q p = bind q (λ b. bind (s_member p) (λ a. bind (emitted Bit (a ∷ [])) (λ e. emitted Or (b ∷ e ∷ []))))

s_with_range : {s x y : Low ℕ} → Fine ℕ s → Fine ℕ x → Fine ℕ y → Fine ℕ (with_range s x y)
s_with_range q p r = bind q (λ b. bind (s_member p) (λ a. bind (s_member r) (λ c. bind (emitted Span (a ∷ c ∷ [])) (λ e. emitted Or (b ∷ e ∷ [])))))

s_is_pointer : (g j x : ℕ) → Fine ℕ (is_pointer g j x)
s_is_pointer g j x = bind (emitted (GlobalOp g) []) (λ a. emitted (IsPtr j) (x ∷ a ∷ []))

s_is_tag : (g j x : ℕ) → Fine ℕ (is_tag g j x)
s_is_tag g j x = bind (emitted (GlobalOp g) []) (λ a. emitted (IsTag j) (x ∷ a ∷ []))

s_tag_of : {d : Low Named} → Fine Named d → Fine ℕ (tag_of d)
s_tag_of p = bind p s_second

s_as_byte : {x : Low ℕ} → Fine ℕ x → Fine ℕ (as_byte x)
s_as_byte p = bind p (λ a. bind (done Byte (a ∷ [])) (λ _. s_give a))

s_length_of : {d : Low Named} (n : Option ℕ) → Fine Named d → Fine ℕ (length_of d n)
s_length_of n p = bind p (λ h. bind (s_address_in h 0) (λ _. s_length_in n h))

s_by_word : {x : Low ℕ} → Fine ℕ x → Fine (List ℕ) (by_word x)
s_by_word p = bind p (λ a. s_give (a ∷ []))

s_tag_in : (g : ℕ) (h : Named) → Fine ℕ (tag_in g h)
s_tag_in g (At a) = emitted _ _
s_tag_in g (Beside a b) = s_give b
s_tag_in g (Object p) = emitted _ _
s_tag_in g (Held x) = s_const 0

s_by_record : {d : Low Named} (g : ℕ) → Fine Named d → Fine (List ℕ) (by_record d g)
s_by_record g p = bind p (λ h. bind (s_address_in h 0) (λ a. bind (s_tag_in g h) (λ t. s_give (a ∷ t ∷ []))))

s_by_open : {d : Low Named} (n : Option ℕ) → Fine Named d → Fine (List ℕ) (by_open d n)
s_by_open n p = bind p (λ h. bind (s_address_in h 0) (λ a. bind (s_length_in n h) (λ l. s_give (a ∷ l ∷ []))))

s_also : {x more : Low (List ℕ)} → Fine (List ℕ) x → Fine (List ℕ) more → Fine (List ℕ) (also x more)
s_also p q = bind p (λ a. bind q (λ b. s_give (a ++ b)))

s_call : {args : Low (List ℕ)} (g : ℕ) → Fine (List ℕ) args → Fine Request (call g args)
s_call g q = bind q (λ words. s_give (record { code = Call g; words = words }))

s_call_at : {x : Low ℕ} {args : Low (List ℕ)} → Fine ℕ x → Fine (List ℕ) args → Fine Request (call_at x args)
s_call_at p q = bind p (λ t. bind q (λ words. bind (done NotNil (t ∷ [])) (λ _. s_give (record { code = CallAt; words = t ∷ words }))))

s_with_result : {m : Low Request} → Fine Request m → Fine ℕ (with_result m)
s_with_result p = bind p (λ r. emitted r.code r.words)

s_without_result : {m : Low Request} → Fine Request m → Fine (Unit {0}) (without_result m)
s_without_result p = bind p (λ r. done r.code r.words)

s_current : (h : Home) → Fine ℕ (current h)
s_current (InRegister x) = variables x
s_current (InMemory a is_small) = emitted _ _

s_home_in_memory : (is_small : Bool) (h : Named) → Fine Home (address_in h 0 >>= λ a. give (InMemory a is_small))
s_home_in_memory is_small h = bind (s_address_in h 0) (λ a. s_give (InMemory a is_small))

s_home_in : (is_small : Bool) (h : Named) → Fine Home (home_in is_small h)
s_home_in is_small (At a) = s_home_in_memory is_small (At a)
s_home_in is_small (Beside a b) = s_home_in_memory is_small (Beside a b)
s_home_in is_small (Object p) = s_home_in_memory is_small (Object p)
s_home_in is_small (Held x) = s_give (InRegister x)

s_home_of : {d : Low Named} (is_small : Bool) → Fine Named d → Fine Home (home_of d is_small)
s_home_of is_small q = bind q (λ h. s_home_in is_small h)

s_load : {d : Low Home} → Fine Home d → Fine ℕ (load d)
s_load p = bind p s_current

-- tests

record Good (x : Lowers) : Type 0 where
  pub value : Fine ℕ x.value
  pub test : FineTest x.test

f_value : {x : Low ℕ} → Fine ℕ x → FineTest (fork_value x)
f_value {x = x} p = forks _ (bind p (λ a. s_give (λ y n. Nonzero a y n))) (λ c yes no. refl)

f_branch : {x y : Low ℕ} (cond : ℕ) → Fine ℕ x → Fine ℕ y → FineTest (fork_branch cond x y)
f_branch cond p q = forks _ (bind p (λ a. bind q (λ b. s_give (λ y n. Branch cond a b y n)))) (λ c yes no. refl)

g_valued : {x : Low ℕ} → Fine ℕ x → Good (valued x)
g_valued p = record { value = p; test = f_value p }

g_tested : {t : Test} → FineTest t → Good (tested t)
g_tested {t = t} p = record { value = flags t p; test = p }

g_one : {x : Lowers} (op : Unary) → Good x → Good (one_of op x)
g_one {x = x} Not p = record { value = s_unary Not p.value; test = nots x.test p.test }
g_one Negate p = g_valued (s_unary Negate p.value)
g_one Complement p = g_valued (s_unary Complement p.value)
g_one Abs p = g_valued (s_unary Abs p.value)
g_one Odd p = g_valued (s_unary Odd p.value)

module _ (p : Program) (l : Layout) (here : Here) where
  s_local_by : (s : Site) (x : ℕ) → Fine Named (local_by p l here s x)
  s_local_by Register x = s_give (Held x)
  s_local_by (Memory n) x = s_local_at (here.bytes - n)

  s_parameter_by : (x : Option Formal) (w : ℕ) → Fine Named (parameter_by x w)
  s_parameter_by (Some x) w = s_give _
  s_parameter_by None w = bind (s_const 0) (λ a. s_give (At a))

  s_based : (b : Base) → Fine Named (based p l here b)
  s_based Done = s_data_at 0
  s_based (Global m v) = s_data_at _
  s_based (Local x) = s_local_by (variable_of p l here x).site x
  s_based (Parameter k) = s_parameter_by (slice_get here.procedure.formals k) _
  s_based (Text k) = s_data_at _

  s_all_guarded : (rs : List ℕ) {x : Low ℕ} → Fine ℕ x → Fine ℕ (all_guarded p l here rs x)
  s_all_guarded [] q = q
  s_all_guarded (r ∷ rs) q = s_all_guarded rs (s_guarded (descriptor p l here r) (level p l here r) q)

  mutual
    g_expr : (x : Expr) → Good (expr p l here x)
    g_expr (Literal n) = g_valued (s_const n)
    g_expr (Routine g) = g_valued (emitted _ _)
    g_expr (Load d) = g_valued (s_load (s_home_of (small p l here d) (s_named d)))
    g_expr (Guard' _ d rs) = g_valued (s_all_guarded rs (s_load (s_home_of (small p l here d) (s_named d))))
    g_expr (Unary' op _ x) = g_one op (g_expr x)
    g_expr (Chain' _ x _ links) = g_linked links (g_expr x)
    g_expr (Compare' r _ x _ y) = record { value = s_compared r (g_expr x).value (g_expr y).value; test = f_branch (condition r) (g_expr x).value (g_expr y).value }
    g_expr (CompareTexts' r _ d _ e) = g_valued (s_texts l.character r (length_of_kind (kind_in d)) (length_of_kind (kind_in e)) (s_named d) (s_named e))
    g_expr (In' _ x _ s) = g_valued (s_contained (g_expr x).value (g_expr s).value)
    g_expr (IsPointer' _ x r) = g_valued (bind (g_expr x).value (s_is_pointer _ _))
    g_expr (IsParameter d r) = g_valued (bind (s_tag_of (s_named d)) (s_is_tag _ _))
    g_expr (Byte' _ x) = g_valued (s_as_byte (g_expr x).value)
    g_expr (Length d) = g_valued (s_length_of (length_of_kind (kind_in d)) (s_named d))
    g_expr (Call' _ c) = g_valued (s_with_result (s_called c))

    g_linked : {m : _} (row : Row_of-Link m) {x : Lowers} → Good x → Good (linked p l here row x)
    g_linked end_of-Link q = q
    g_linked (more_of-Link k more) q = g_linked more (g_link k q)

    g_link : (k : Link) {x : Lowers} → Good x → Good (link p l here k x)
    g_link (Operate op y) q = g_valued (s_binary op q.value (g_expr y).value)
    g_link (AndLink y) q = g_tested (ands _ _ q.test (g_expr y).test)
    g_link (OrLink y) q = g_tested (ors _ _ q.test (g_expr y).test)
    g_link (Element y) q = g_valued (s_with_element q.value (g_expr y).value)
    g_link (Elements' _ y _ z) q = g_valued (s_with_range q.value (g_expr y).value (g_expr z).value)

    s_named : (d : Designator) → Fine Named (named p l here d)
    s_named (Whole b k) = s_based b
    s_named (Part' _ b k _ row) = s_selected row (s_based b)

    s_selected : {m : _} (row : Row_of-Selector m) {d : Low Named} → Fine Named d → Fine Named (selected p l here row d)
    s_selected end_of-Selector q = q
    s_selected (more_of-Selector s more) q = s_selected more (s_select s q)

    s_select : (s : Selector) {d : Low Named} → Fine Named d → Fine Named (select p l here s d)
    s_select (Index n k x) q = s_element n (l.bytes k) q (g_expr x).value
    s_select (Field r k) q = s_field (l.offset r k) q
    s_select (Dereference rs) q = s_dereferenced (s_all_guarded rs (s_load (s_home_of false q)))
    s_select (Narrow r) q = s_narrowed (descriptor p l here r) (level p l here r) q

    s_called : (c : CallForm) → Fine Request (called p l here c)
    s_called (Direct' g _ args) = s_call g (s_arguments args)
    s_called (Indirect' d _ args) = s_call_at (s_load (s_home_of (small p l here d) (s_named d))) (s_arguments args)

    s_argument : (a : Argument) → Fine (List ℕ) (argument p l here a)
    s_argument (ByValue x) = s_by_word (g_expr x).value
    s_argument (ByPlace d) = s_by_word (s_address (s_named d))
    s_argument (ByRecord d) = s_by_record _ (s_named d)
    s_argument (ByOpen d) = s_by_open (length_of_kind (kind_in d)) (s_named d)

    s_arguments : {m : _} (row : Row_of-Argument m) → Fine (List ℕ) (arguments p l here row)
    s_arguments end_of-Argument = s_give []
    s_arguments (more_of-Argument x more) = s_also (s_argument x) (s_arguments more)

  s_home : (d : Designator) → Fine Home (home p l here d)
  s_home d = s_home_of (small p l here d) (s_named d)

  s_expr : (x : Expr) → Fine ℕ (expr p l here x).value
  s_expr x = (g_expr x).value

  f_expr : (x : Expr) → FineTest (expr p l here x).test
  f_expr x = (g_expr x).test

-- statements

s_change : (h : Home) (v : ℕ) → Fine (Unit {0}) (change h v)
s_change (InRegister x) v = becoming x v
s_change (InMemory a is_small) v = done _ _

s_skip : Fine (Unit {0}) skip
s_skip = s_give tt

s_store : (is_small : Bool) (a v : ℕ) → Fine (Unit {0}) (store is_small a v)
s_store is_small a v = done (if is_small then StoreByte else StoreOp) (a ∷ v ∷ [])

s_assign : {d : Low Home} {x : Low ℕ} → Fine Home d → Fine ℕ x → Fine (Unit {0}) (assign d x)
s_assign p q = bind p (λ h. bind q (λ v. s_change h v))

s_if : {A : Type 0} (b : Bool) {m n : Low A} → Fine A m → Fine A n → Fine A (if b then m else n)
s_if true p q = p
s_if false p q = q

s_change_number : {d : Low Home} {x : Low ℕ} (op : Binary) (is_byte : Bool) → Fine Home d → Fine ℕ x → Fine (Unit {0}) (change_number op d x is_byte)
s_change_number op is_byte p q = bind p (λ h. bind q (λ n. bind (s_current h) (λ v. bind (s_two_operands op v n) (λ w. bind (s_if is_byte (done Byte (w ∷ [])) s_skip) (λ _. s_change h w)))))

s_change_set : {d : Low Home} {x : Low ℕ} (op : Binary) → Fine Home d → Fine ℕ x → Fine (Unit {0}) (change_set op d x)
s_change_set op p q = bind p (λ h. bind (s_member q) (λ a. bind (emitted Bit (a ∷ [])) (λ e. bind (s_current h) (λ v. bind (s_two_operands op v e) (λ w. s_change h w)))))

s_new : {d : Low Home} (cells bytes g : ℕ) → Fine Home d → Fine (Unit {0}) (new d cells bytes g)
s_new cells bytes g p = bind p (λ h. bind (s_const (cells + 1)) (λ n. bind (s_const (bytes + 8)) (λ b. bind (emitted (GlobalOp g) []) (λ x. bind (emitted NewOp (n ∷ b ∷ x ∷ [])) (λ o. s_change h o)))))

s_fits_one : (n m : Option ℕ) (to from : Named) → Fine (Unit {0}) (length_in n to >>= λ a. length_in m from >>= λ b. does Fits (b ∷ a ∷ []))
s_fits_one n m to from = bind (s_length_in n to) (λ a. bind (s_length_in m from) (λ b. done Fits (b ∷ a ∷ [])))

s_fits : (n m : Option ℕ) (to from : Named) → Fine (Unit {0}) (fits n to m from)
s_fits None None to from = s_fits_one None None to from
s_fits None (Some m) to from = s_fits_one None (Some m) to from
s_fits (Some n) None to from = s_fits_one (Some n) None to from
s_fits (Some n) (Some m) to from = s_skip

s_copy_array : {d e : Low Named} (n m : Option ℕ) (size : ℕ) → Fine Named d → Fine Named e → Fine (Unit {0}) (copy_array d n e m size)
s_copy_array n m size p q = bind p (λ to. bind (s_address_in to 0) (λ a. bind q (λ from. bind (s_address_in from 0) (λ b. bind (s_fits n m to from) (λ _. bind (s_bytes_in size m from) (λ bytes. done Copy (a ∷ b ∷ bytes ∷ [])))))))

s_copy_record : {d e : Low Named} (size : ℕ) → Fine Named d → Fine Named e → Fine (Unit {0}) (copy_record d e size)
s_copy_record size p q = bind p (λ to. bind (s_address_in to 0) (λ a. bind q (λ from. bind (s_address_in from 0) (λ b. bind (s_const size) (λ bytes. done Copy (a ∷ b ∷ bytes ∷ []))))))

s_assert : {x : Low ℕ} → Fine ℕ x → Fine (Unit {0}) (assert x)
s_assert p = bind p (λ a. done True (a ∷ []))

s_out_char : {x : Low ℕ} → Fine ℕ x → Fine (Unit {0}) (out_char x)
s_out_char p = bind p (λ a. done (Svc 1) (a ∷ []))

s_out_int : {x n : Low ℕ} → Fine ℕ x → Fine ℕ n → Fine (Unit {0}) (out_int x n)
s_out_int p q = bind p (λ a. bind q (λ b. done (Svc 2) (a ∷ b ∷ [])))

s_out_string : {d : Low Named} (size : ℕ) (n : Option ℕ) → Fine Named d → Fine (Unit {0}) (out_string size d n)
s_out_string size n p = bind p (λ h. bind (s_address_in h 0) (λ a. bind (s_length_in n h) (λ l. bind (s_const size) (λ s. done (Svc 3) (a ∷ l ∷ s ∷ [])))))

s_in_char : {d : Low Named} (f c : Bool) → Fine Named d → Fine (Unit {0}) (in_char d f c)
s_in_char f c p = bind p (λ h. bind (s_address_in h 0) (λ a. bind (emitted (Svc 4) []) (λ x. bind (s_const 0) (λ z. bind (emitted (Set 10) (x ∷ z ∷ [])) (λ ok. bind (emitted (GlobalOp 0) []) (λ g. bind (s_store f g ok) (λ _. bind (emitted Max0 (x ∷ [])) (λ v. s_store c a v))))))))

s_for : {first body : Deed} {limit current : Low ℕ} (mask : Mask) (cond : ℕ) → Fine (Unit {0}) first → Fine ℕ limit → Fine ℕ current → Fine (Unit {0}) body → Fine (Unit {0}) (for mask cond first limit current body)
s_for {body = body} {current = current} mask cond p q r t = bind p (λ _. bind q (λ l. loops mask (record { test = fork_branch cond current (give l); body = body } ∷ []) ((f_branch cond r (s_give l), t), tt)))

module _ (p : Program) (l : Layout) (here : Here) where
  s_value : (x : Checked) → Fine ℕ (value p l here x)
  s_value x = s_expr p l here x.form

  f_test : (x : Checked) → FineTest (test p l here x)
  f_test x = f_expr p l here x.form

  f_label : (v : ℕ) (x : Label) → FineTest (label_test p l here v x)
  f_label v (One a) = f_branch 0 (s_give v) (s_const (unsigned a))
  f_label v (Range a b) = ands _ _ (f_branch 10 (s_give v) (s_const (unsigned a))) (f_branch 13 (s_give v) (s_const (unsigned b)))

  f_labels : (v : ℕ) (ls : List Label) → Each FineTest (map (label_test p l here v) ls)
  f_labels v [] = tt
  f_labels v (x ∷ xs) = (f_label v x, f_labels v xs)

  abbrev all_labels : ℕ → List (List Label) → List (List Test)
  all_labels v lss = map (λ ls. map (label_test p l here v) ls) lss

  f_all_labels : (v : ℕ) (lss : List (List Label)) → Each (Each FineTest) (all_labels v lss)
  f_all_labels v [] = tt
  f_all_labels v (ls ∷ lss) = (f_labels v ls, f_all_labels v lss)

  abbrev all_types : (ℕ → ℕ → ℕ → Low ℕ) → ℕ → List ℕ → List (List Test)
  all_types is v rs = map (λ r. type_test p l here is v r ∷ []) rs

  f_all_types : (is : ℕ → ℕ → ℕ → Low ℕ) → ((g j x : ℕ) → Fine ℕ (is g j x)) → (v : ℕ) (rs : List ℕ) → Each (Each FineTest) (all_types is v rs)
  f_all_types is q v [] = tt
  f_all_types is q v (r ∷ rs) = ((f_value (q (descriptor p l here r) (level p l here r) v), tt), f_all_types is q v rs)

  abbrev rung : ℕ → Test → Rung
  rung i t = record { test = t; part = i }

  each_rung : (i : ℕ) (ts : List Test) → Each FineTest ts → Each (λ (r : Rung). FineTest r.test) (map (λ (t : Test). rung i t) ts)
  each_rung i [] q = tt
  each_rung i (t ∷ ts) q = (q.0, each_rung i ts q.1)

  each_rungs : (i : ℕ) (tests : List (List Test)) → Each (Each FineTest) tests → Each (λ (r : Rung). FineTest r.test) (rungs_from p l here i tests)
  each_rungs i [] q = tt
  each_rungs i (ts ∷ more) q = each_on (λ (r : Rung). FineTest r.test) (map (λ (t : Test). rung i t) ts) (rungs_from p l here (suc i) more) (each_rung i ts q.0) (each_rungs (suc i) more q.1)

  s_case_of : {x : Low ℕ} (mask : Mask) (tests : ℕ → List (List Test)) (bodies : List Deed) (unmatched : ℕ → List ℕ → End) → ((out : ℕ) (args : List ℕ) → trap_fits (unmatched out args) ≡ true) → Fine ℕ x → ((v : ℕ) → Each (Each FineTest) (tests v)) → Each (Fine (Unit {0})) bodies → Fine (Unit {0}) (case_of p l here mask x tests bodies unmatched)
  s_case_of mask tests bodies unmatched e q r t = bind q (λ v. cases mask (rungs_from p l here 0 (tests v)) bodies unmatched e (each_rungs 0 (tests v) (r v)) t)

  mutual
    s_deed : (s : Stmt) → Fine (Unit {0}) (deed p l here s)
    s_deed (Assign d x) = s_assign (s_home p l here d) (s_value x)
    s_deed (CopyArray d e) = s_copy_array (length_of_kind (kind_in d)) (length_of_kind (kind_in e)) (l.bytes (element_kind (kind_in d))) (s_named p l here d) (s_named p l here e)
    s_deed (CopyRecord d e) = s_copy_record (l.record_bytes (record_of_kind (kind_in d))) (s_named p l here d) (s_named p l here e)
    s_deed (Increase d x) = s_change_number Add (is_byte (kind_in d)) (s_home p l here d) (s_value x)
    s_deed (Decrease d x) = s_change_number Subtract (is_byte (kind_in d)) (s_home p l here d) (s_value x)
    s_deed (Include d x) = s_change_set Union (s_home p l here d) (s_value x)
    s_deed (Exclude d x) = s_change_set Difference (s_home p l here d) (s_value x)
    s_deed (New d) = s_new (record_cells p.types (record_of_kind (kind_in d))) (rounded (l.record_bytes (record_of_kind (kind_in d)))) (descriptor p l here (record_of_kind (kind_in d))) (s_home p l here d)
    s_deed (Assert x) = s_assert (s_value x)
    s_deed (OutChar x) = s_out_char (s_value x)
    s_deed (OutInt x n) = s_out_int (s_value x) (s_value n)
    s_deed (OutString d) = s_out_string l.character (length_of_kind (kind_in d)) (s_named p l here d)
    s_deed OutLn = s_out_char (s_const 10)
    s_deed (InChar d) = s_in_char (l.is_small Boolean) (l.is_small (kind_in d)) (s_named p l here d)
    s_deed (Invoke c) = s_without_result (s_called p l here c)
    s_deed (If' _ parts _ other) = s_alternatives parts (assigned_all other) (s_deeds other)
    s_deed (While' _ parts) = loops _ _ (each_round parts)
    s_deed (Repeat' _ body x) = repeats _ _ _ (s_deeds body) (f_test x)
    s_deed (For' _ d x y step _ body) = s_for _ (bound p l here step) (s_assign (s_home p l here d) (s_value x)) (s_value y) (s_load (s_home p l here d)) (bind (s_deeds body) (λ _. s_assign (s_home p l here d) (s_binary Add (s_load (s_home p l here d)) (s_const (unsigned step)))))
    s_deed (Case' x _ parts) = s_case_of _ (label_tests p l here parts) (case_bodies p l here parts) (λ out args. Trap 6) (λ out args. refl) (s_value x) (λ v. f_all_labels v (labels_of p l here parts)) (each_case_body parts)
    s_deed (CasePointer' x _ parts) = s_case_of _ (type_tests p l here parts is_pointer) (type_bodies p l here parts) (λ out args. Jump out args) (λ out args. refl) (s_value x) (λ v. f_all_types is_pointer s_is_pointer v (records_of p l here parts)) (each_type_body parts)
    s_deed (CaseParameter' d _ parts) = s_case_of _ (type_tests p l here parts is_tag) (type_bodies p l here parts) (λ out args. Jump out args) (λ out args. refl) (s_tag_of (s_named p l here d)) (λ v. f_all_types is_tag s_is_tag v (records_of p l here parts)) (each_type_body parts)

    s_deeds : {m : _} (row : Row_of-Stmt m) → Fine (Unit {0}) (deeds p l here row)
    s_deeds end_of-Stmt = s_skip
    s_deeds (more_of-Stmt s more) = bind (s_deed s) (λ _. s_deeds more)

    s_alternatives : {m : _} (row : Row_of-Branch m) (mask : Mask) {other : Deed} → Fine (Unit {0}) other → Fine (Unit {0}) (alternatives p l here row mask other)
    s_alternatives end_of-Branch mask q = q
    s_alternatives (more_of-Branch x _ body more) mask q = chooses (registers p l here (either (assigned_all body) (either (assigned_branches more) mask))) _ _ _ (f_test x) (s_deeds body) (s_alternatives more mask q)

    each_round : {m : _} (row : Row_of-Branch m) → Each (λ (r : Round). FineTest r.test × Fine (Unit {0}) r.body) (guarded_rounds p l here row)
    each_round end_of-Branch = tt
    each_round (more_of-Branch x _ body more) = ((f_test x, s_deeds body), each_round more)

    each_case_body : {m : _} (row : Row_of-CasePart m) → Each (Fine (Unit {0})) (case_bodies p l here row)
    each_case_body end_of-CasePart = tt
    each_case_body (more_of-CasePart labels _ body more) = (s_deeds body, each_case_body more)

    each_type_body : {m : _} (row : Row_of-TypePart m) → Each (Fine (Unit {0})) (type_bodies p l here row)
    each_type_body end_of-TypePart = tt
    each_type_body (more_of-TypePart r _ body more) = (s_deeds body, each_type_body more)

  s_deeds_of : (ss : List Stmt) → Fine (Unit {0}) (deeds_of p l here ss)
  s_deeds_of [] = s_skip
  s_deeds_of (s ∷ more) = bind (s_deed s) (λ _. s_deeds_of more)

  s_answer : (x : Option Checked) → Fine (Option ℕ) (answer p l here x)
  s_answer None = s_give None
  s_answer (Some x) = bind (s_value x) (λ v. s_give (Some v))

  s_further : (i n : ℕ) → Fine (Unit {0}) (further i n)
  s_further i zero = s_skip
  s_further i (suc n) = bind (emitted (Arg i) []) (λ _. s_further (suc i) n)

  s_zeroing : (b : Bool) (all size : ℕ) → Fine (Unit {0}) (zeroing b all size)
  s_zeroing false all size = s_skip
  s_zeroing true all size = bind (emitted (LocalOp all) []) (λ a. bind (s_const size) (λ b. done Zero (a ∷ b ∷ [])))

  s_first_value : (w : Option ℕ) → Fine ℕ (first_value w)
  s_first_value None = s_const 0
  s_first_value (Some w) = s_give w

  s_store_first : (v : Variable) (s : Site) → Fine (Unit {0}) (store_first p.types l here.bytes v s)
  s_store_first v Register = s_skip
  s_store_first v (Memory n) = s_if (is_structured (kind_of p.types v.type_number)) s_skip (bind (emitted (LocalOp (here.bytes - n)) []) (λ a. bind (s_first_value v.word) (λ u. s_store (l.is_small (kind_of p.types v.type_number)) a u)))

  s_stored : (vs : List Variable) → Fine (Unit {0}) (stored p.types l here.bytes vs)
  s_stored [] = s_skip
  s_stored (v ∷ vs) = bind (s_store_first v v.site) (λ _. s_stored vs)

  s_first_of : (w : Option ℕ) (s : Site) → Fine ℕ (first_of w s)
  s_first_of w Register = s_first_value w
  s_first_of w (Memory n) = s_give 0

  s_opened : (vs : List Variable) → Fine (List ℕ) (opened vs)
  s_opened [] = s_give []
  s_opened (v ∷ vs) = bind (s_first_of v.word v.site) (λ u. bind (s_opened vs) (λ more. s_give (u ∷ more)))

  s_enters : (env : List ℕ) → Fine (Unit {0}) (enters p l here env)
  s_enters env = record { by = λ c. no_end }

  pub s_whole : (words size : ℕ) → Fine (Option ℕ) (whole p l here words size)
  s_whole words size = bind (s_further 4 (words - 4)) (λ _. bind (s_zeroing (some_structured p.types here.procedure.locals) here.bytes size) (λ _. bind (s_stored here.variables) (λ _. bind (s_opened here.variables) (λ env. bind (s_enters env) (λ _. bind (s_deeds_of here.procedure.body) (λ _. s_answer here.procedure.answer))))))
