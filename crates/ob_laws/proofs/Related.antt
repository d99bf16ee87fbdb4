-- A relation between parts of programs that each small act keeps is kept by each construct, and so by every program.
use Rattle.ob_types.specs.Layout.{cells, record_cells, field_place, extends}
use Rattle.ob_types.specs.Meaning.{procedure_of, kind_in, length_of_kind, element_kind, record_of_kind, is_byte, base_of, value, linked, link, designated, selected, select, called, argument, arguments, effect, effects, branches, case_parts, type_parts, effects_of, answer, received, zeroed, within, invoked, at_most, bodies}
use Rattle.ob_types.specs.declared.tree.Expr.{Expr, Literal, Routine, Load, Guard', Unary', Chain', Compare', CompareTexts', In', IsPointer', IsParameter, Byte', Length, Call', Row_of-Link, end_of-Link, more_of-Link}
use Rattle.ob_types.specs.declared.tree.Link.{Link, Operate, And, Or, Element, Elements'}
use Rattle.ob_types.specs.declared.tree.Base.{Base}
use Rattle.ob_types.specs.declared.tree.Base.TheVariants.{Done, Global, Local, Parameter, Text}
use Rattle.ob_types.specs.declared.tree.Designator.{Designator, Whole, Part', Row_of-Selector, end_of-Selector, more_of-Selector}
use Rattle.ob_types.specs.declared.tree.Selector.{Selector, Index, Field, Dereference, Narrow}
use Rattle.ob_types.specs.declared.tree.Call.{Call, Direct', Indirect', Row_of-Argument, end_of-Argument, more_of-Argument}
use Rattle.ob_types.specs.declared.tree.Argument.{Argument, ByValue, ByPlace, ByRecord, ByOpen}
use Rattle.ob_types.specs.declared.tree.Binary.TheVariants.{Add, Subtract, Union, Difference}
use Rattle.ob_types.specs.declared.statements.Checked.{Checked}
use Rattle.ob_types.specs.declared.statements.Stmt.{Stmt, Assign, CopyArray, CopyRecord, Increase, Decrease, Include, Exclude, New, Assert, OutChar, OutInt, OutString, OutLn, InChar, If', While', Repeat', For', Case', CasePointer', CaseParameter', Row_of-Stmt, end_of-Stmt, more_of-Stmt, Row_of-Branch, end_of-Branch, more_of-Branch, Row_of-CasePart, end_of-CasePart, more_of-CasePart, Row_of-TypePart, end_of-TypePart, more_of-TypePart}
use Rattle.ob_types.specs.declared.statements.Stmt.{Call as Invoke}
use Rattle.ob_types.specs.declared.program.Module.{Module}
use Rattle.ob_types.specs.declared.program.Program.{Program}
use Rattle.std.proofs.Common.{ℕ, zero, suc, ◌*◌, List, [], ◌∷◌, length, Bool, true, false, Option, Some, None}
use Rattle.std.specs.Prelude.{slice_get, if◌then◌else◌, replicate, ℤ, nat_lt}
use Rattle.run_laws.specs.Turns.{◌>>=◌, give, fail, look, spend, repeat, while_so, until_so, each_so}
use Rattle.ob_types.specs.Store.{Cell, Bits, Pointer, Code, Heap, Address, Store, Trap, Kind, Senseless, Act, given, Handed, At, Sized, Tagged, Value, Span, Here, objects, cell_of, past, fetch, put, address_in, span_in, tag_in, write, unless, spend_all, bits_in, bits, object_in, tag_of, dynamic_in, code_in, place, span}
use Rattle.ob_types.specs.Operators.{holds, inside, elements, unary_of, binary_of, relation_of, text_of, text_common, labels_have}
use Rattle.ob_types.specs.Expressions.{element_place, field_of, object_of, narrowed, load, guarded, all_guarded, one_operand, quotient, two_operands, both, either, compared, bits_from, text_in, texts_compared, contained, with_element, with_range, pointer_type, parameter_type, is_of, type_test, as_byte, length_of, by_value, by_place, with_tag, by_record, by_open, cons, Calls, called_by_number, called_by_value, result_of, Extension}
use Rattle.ob_types.specs.Statements.{Deed, assign, copy, copy_array, copy_record, change_number, change_set, made, new, assert, out_char, out_int, out_string, done, next_byte, receive, in_char, otherwise, test, try, at_limit, for, case, type_case}
use Rattle.ob_types.specs.declared.tree.Unary.{Unary}
use Rattle.ob_types.specs.declared.tree.Binary.{Binary}
use Rattle.ob_types.specs.declared.tree.Relation.{Relation}

module _ (S : (A : Type 0) → Act A → Act A → Type 0) (fuel fuel' : ℕ)
    (bind : (A B : Type 0) (m m' : Act A) (f f' : A → Act B) → S A m m' → ((a : A) → S B (f a) (f' a)) → S B (m >>= f) (m' >>= f'))
    (gives : (A : Type 0) (a : A) → S A (give a) (give a))
    (fails : (A : Type 0) (t : Trap) → S A (fail t) (fail t))
    (looks : (A : Type 0) (f : Store → A) → S A (look f) (look f))
    (spends : S (Unit {0}) spend spend)
    (repeats : (round round' : Act Bool) → S Bool round round' → S (Unit {0}) (repeat fuel round) (repeat fuel' round'))
    (puts : (a : Address) (c : Cell) → S (Unit {0}) (put a c) (put a c))
    (writes : (xs : List ℕ) → S (Unit {0}) (write xs) (write xs))
    (makes : (cells : List Cell) (tag : ℕ) → S (Unit {0}) (made cells tag) (made cells tag))
    (reads : S (Option ℕ) next_byte next_byte)
    (frames : (A : Type 0) (own : List Cell) (body body' : ℕ → Act A) → ((k : ℕ) → S A (body k) (body' k)) → S A (within own body) (within own body')) where
  abbrev R : {A : Type 0} → Act A → Act A → Type 0
  R {A} m n = S A m n

  r_bind : {A B : Type 0} {m m' : Act A} {f f' : A → Act B} → S A m m' → ((a : A) → S B (f a) (f' a)) → S B (m >>= f) (m' >>= f')
  r_bind {A = A} {B = B} {m = m} {m' = m'} {f = f} {f' = f'} p q = bind A B m m' f f' p q

  r_give : {A : Type 0} (a : A) → R (give a) (give a)
  r_give {A = A} a = gives A a

  r_fail : {A : Type 0} (t : Trap) → R (fail {A = A} t) (fail {A = A} t)
  r_fail {A = A} t = fails A t

  r_look : {A : Type 0} (f : Store → A) → R (look f) (look f)
  r_look {A = A} f = looks A f

  r_spend : R spend spend
  r_spend = spends

  r_repeat : {round round' : Act Bool} → R round round' → R (repeat fuel round) (repeat fuel' round')
  r_repeat {round = round} {round' = round'} p = repeats round round' p

  r_put : (a : Address) (c : Cell) → R (put a c) (put a c)
  r_put a c = puts a c

  r_write : (xs : List ℕ) → R (write xs) (write xs)
  r_write xs = writes xs

  r_made : (cells : List Cell) (tag : ℕ) → R (made cells tag) (made cells tag)
  r_made cells tag = makes cells tag

  r_next_byte : R next_byte next_byte
  r_next_byte = reads

  r_within : {A : Type 0} (own : List Cell) {body body' : ℕ → Act A} → ((k : ℕ) → S A (body k) (body' k)) → R (within own body) (within own body')
  r_within {A = A} own {body = body} {body' = body'} p = frames A own body body' p

  pub r_given : {A : Type 0} (o : Option A) → R (given o) (given o)
  r_given None = r_fail Senseless
  r_given (Some a) = r_give a

  pub r_if : {A : Type 0} (b : Bool) {m m' n n' : Act A} → R m m' → R n n' → R (if b then m else n) (if b then m' else n')
  r_if true p q = p
  r_if false p q = q

  pub r_unless : (f kind : ℕ) (ok : Bool) → R (unless f kind ok) (unless f kind ok)
  r_unless f kind true = r_give tt
  r_unless f kind false = r_fail (Kind kind f)

  pub r_while : {x x' : Act Bool} {body body' : Deed} → R x x' → R body body' → R (while_so fuel x body) (while_so fuel' x' body')
  r_while p q = r_repeat (r_bind p (λ b. r_if b (r_bind q (λ _. r_give true)) (r_give false)))

  pub r_until : {body body' : Deed} {x x' : Act Bool} → R body body' → R x x' → R (until_so fuel body x) (until_so fuel' body' x')
  r_until q p = r_bind q (λ _. r_repeat (r_bind p (λ b. r_if b (r_give false) (r_bind q (λ _. r_give true)))))

  pub r_each : (n i : ℕ) {part part' : ℕ → Act Bool} → ((j : ℕ) → R (part j) (part' j)) → R (each_so n i part) (each_so n i part')
  r_each zero i p = r_give tt
  r_each (suc n) i p = r_bind (p i) (λ b. r_bind r_spend (λ _. r_if b (r_each n (suc i) p) (r_give tt)))

  pub r_fetch : (a : Address) → R (fetch a) (fetch a)
  r_fetch a = r_bind (r_look (objects a.area)) (λ all. r_given (cell_of all a.object a.cell))

  -- values in cells, addresses and spans

  pub r_bits_in : (c : Cell) → R (bits_in c) (bits_in c)
  r_bits_in (Bits n) = r_give n
  r_bits_in (Pointer o) = r_fail Senseless
  r_bits_in (Code f) = r_fail Senseless

  pub r_bits : {x x' : Act Cell} → R x x' → R (bits x) (bits x')
  r_bits p = r_bind p r_bits_in

  pub r_object_in : (f : ℕ) (c : Cell) → R (object_in f c) (object_in f c)
  r_object_in f (Bits zero) = r_fail (Kind 2 f)
  r_object_in f (Bits (suc n)) = r_fail Senseless
  r_object_in f (Pointer o) = r_give o
  r_object_in f (Code g) = r_fail Senseless

  pub r_code_in : (f : ℕ) (c : Cell) → R (code_in f c) (code_in f c)
  r_code_in f (Bits zero) = r_fail (Kind 2 f)
  r_code_in f (Bits (suc n)) = r_fail Senseless
  r_code_in f (Pointer o) = r_fail Senseless
  r_code_in f (Code g) = r_give g

  pub r_tag_of : (o : ℕ) → R (tag_of o) (tag_of o)
  r_tag_of o = r_bind (r_look (λ s. s.tags)) (λ tags. r_given (slice_get tags o))

  pub r_dynamic_in : (c : Cell) → R (dynamic_in c) (dynamic_in c)
  r_dynamic_in (Bits zero) = r_give None
  r_dynamic_in (Bits (suc n)) = r_fail Senseless
  r_dynamic_in (Pointer o) = r_bind (r_tag_of o) (λ t. r_give (Some t))
  r_dynamic_in (Code g) = r_fail Senseless

  pub r_place : {d d' : Act Handed} → R d d' → R (place d) (place d')
  r_place p = r_bind p (λ h. r_given (address_in h))

  pub r_span : {d d' : Act Handed} (n : Option ℕ) → R d d' → R (span d n) (span d' n)
  r_span None p = r_bind p (λ h. r_given (span_in h))
  r_span (Some n) p = r_bind (r_place p) (λ a. r_give (record { at = a; length = n }))

  pub r_spend_all : (n : ℕ) → R (spend_all n) (spend_all n)
  r_spend_all n = r_each n 0 (λ _. r_give true)

  -- the constructs of expressions

  module _ (f : ℕ) (extends : Extension) where
    pub r_element : {d d' : Act Handed} {x x' : Act Cell} (n : Option ℕ) (cells : ℕ) → R d d' → R x x' → R (element_place f d n cells x) (element_place f d' n cells x')
    r_element n cells p q = r_bind (r_span n p) (λ a. r_bind (r_bits q) (λ i. r_bind (r_unless f 1 (inside i a.length)) (λ _. r_give (At (past a.at (i * cells))))))

    pub r_field : {d d' : Act Handed} (cells : ℕ) → R d d' → R (field_of d cells) (field_of d' cells)
    r_field cells p = r_bind (r_place p) (λ a. r_give (At (past a cells)))

    pub r_object : {x x' : Act Cell} → R x x' → R (object_of f x) (object_of f x')
    r_object p = r_bind p (λ c. r_bind (r_object_in f c) (λ o. r_bind (r_tag_of o) (λ t. r_give (Tagged (record { area = Heap; object = o; cell = 0 }) t))))

    pub r_narrowed : {d d' : Act Handed} (r : ℕ) → R d d' → R (narrowed f extends d r) (narrowed f extends d' r)
    r_narrowed r p = r_bind p (λ h. r_bind (r_given (tag_in h)) (λ t. r_bind (r_unless f 3 (extends t r)) (λ _. r_give h)))

    pub r_guarded : {x x' : Act Cell} (r : ℕ) → R x x' → R (guarded f extends x r) (guarded f extends x' r)
    r_guarded r p = r_bind p (λ c. r_bind (r_object_in f c) (λ o. r_bind (r_tag_of o) (λ t. r_bind (r_unless f 3 (extends t r)) (λ _. r_give c))))

    pub r_guards : (rs : List ℕ) {x x' : Act Cell} → R x x' → R (all_guarded f extends x rs) (all_guarded f extends x' rs)
    r_guards [] p = p
    r_guards (r ∷ rs) p = r_guards rs (r_guarded r p)

    pub r_quotient : (o : Option ℕ) → R (quotient f o) (quotient f o)
    r_quotient None = r_fail (Kind 4 f)
    r_quotient (Some n) = r_give (Bits n)

    pub r_two : {x x' y y' : Act Cell} (op : Binary) → R x x' → R y y' → R (two_operands f op x y) (two_operands f op x' y')
    r_two op p q = r_bind (r_bits p) (λ a. r_bind (r_bits q) (λ b. r_quotient (binary_of op a b)))

    pub r_contained : {x x' s s' : Act Cell} → R x x' → R s s' → R (contained f x s) (contained f x' s')
    r_contained p q = r_bind (r_bits p) (λ a. r_bind (r_unless f 7 (inside a 64)) (λ _. r_bind (r_bits q) (λ b. r_give _)))

    pub r_with : {s s' x x' : Act Cell} → R s s' → R x x' → R (with_element f s x) (with_element f s' x')
    r_with p q = r_bind (r_bits p) (λ b. r_bind (r_bits q) (λ a. r_bind (r_unless f 7 (inside a 64)) (λ _. r_give _)))

    pub r_with_range : {s s' x x' y y' : Act Cell} → R s s' → R x x' → R y y' → R (with_range f s x y) (with_range f s' x' y')
    r_with_range p q r = r_bind (r_bits p) (λ b. r_bind (r_bits q) (λ a. r_bind (r_unless f 7 (inside a 64)) (λ _. r_bind (r_bits r) (λ c. r_bind (r_unless f 7 (inside c 64)) (λ _. r_give _)))))

    pub r_byte : {x x' : Act Cell} → R x x' → R (as_byte f x) (as_byte f x')
    r_byte p = r_bind (r_bits p) (λ n. r_bind (r_unless f 11 (inside n 256)) (λ _. r_give (Bits n)))

    pub r_type_test : {x x' : Act (Option ℕ)} (r : ℕ) → R x x' → R (type_test extends x r) (type_test extends x' r)
    r_type_test r p = r_bind p (λ t. r_give _)

  pub r_load : {d d' : Act Handed} → R d d' → R (load d) (load d')
  r_load p = r_bind (r_place p) r_fetch

  pub r_one : {x x' : Act Cell} (op : Unary) → R x x' → R (one_operand op x) (one_operand op x')
  r_one op p = r_bind (r_bits p) (λ a. r_give (Bits (unary_of op a)))

  pub r_both : {x x' y y' : Act Cell} → R x x' → R y y' → R (both x y) (both x' y')
  r_both p q = r_bind (r_bits p) (λ a. r_if (holds a) q (r_give (Bits 0)))

  pub r_either : {x x' y y' : Act Cell} → R x x' → R y y' → R (either x y) (either x' y')
  r_either p q = r_bind (r_bits p) (λ a. r_if (holds a) (r_give (Bits 1)) q)

  pub r_compared : {x x' y y' : Act Cell} (r : Relation) → R x x' → R y y' → R (compared r x y) (compared r x' y')
  r_compared r p q = r_bind p (λ c. r_bind q (λ d. r_bind (r_given (relation_of r c d)) (λ b. r_give _)))

  pub r_bits_from : (n : ℕ) (a : Address) → R (bits_from n a) (bits_from n a)
  r_bits_from zero a = r_give []
  r_bits_from (suc n) a = r_bind (r_bits (r_fetch a)) (λ x. r_bind (r_bits_from n (past a 1)) (λ xs. r_give (x ∷ xs)))

  pub r_text_in : (a : Span) → R (text_in a) (text_in a)
  r_text_in a = r_bind (r_bits_from a.length a.at) (λ xs. r_give (text_of xs))

  pub r_texts : {d d' e e' : Act Handed} (r : Relation) (n m : Option ℕ) → R d d' → R e e' → R (texts_compared r d n e m) (texts_compared r d' n e' m)
  r_texts r n m p q = r_bind (r_span n p) (λ a. r_bind (r_span m q) (λ b. r_bind (r_text_in a) (λ xs. r_bind (r_text_in b) (λ ys. r_bind (r_spend_all (suc (text_common xs ys))) (λ _. r_give _)))))

  pub r_pointer_type : {x x' : Act Cell} → R x x' → R (pointer_type x) (pointer_type x')
  r_pointer_type p = r_bind p r_dynamic_in

  pub r_parameter_type : {d d' : Act Handed} → R d d' → R (parameter_type d) (parameter_type d')
  r_parameter_type p = r_bind p (λ h. r_bind (r_given (tag_in h)) (λ t. r_give (Some t)))

  pub r_length : {d d' : Act Handed} (n : Option ℕ) → R d d' → R (length_of d n) (length_of d' n)
  r_length n p = r_bind (r_span n p) (λ a. r_give (Bits a.length))

  pub r_by_value : {x x' : Act Cell} → R x x' → R (by_value x) (by_value x')
  r_by_value p = r_bind p (λ c. r_give (Value c))

  pub r_by_place : {d d' : Act Handed} → R d d' → R (by_place d) (by_place d')
  r_by_place p = r_bind (r_place p) (λ a. r_give (At a))

  pub r_by_record : {d d' : Act Handed} (r : ℕ) → R d d' → R (by_record d r) (by_record d' r)
  r_by_record r p = r_bind p (λ h. r_given (with_tag h r))

  pub r_by_open : {d d' : Act Handed} (n : Option ℕ) → R d d' → R (by_open d n) (by_open d' n)
  r_by_open n p = r_bind (r_span n p) (λ a. r_give (Sized a.at a.length))

  pub r_cons : {x x' : Act Handed} {rest rest' : Act (List Handed)} → R x x' → R rest rest' → R (cons x rest) (cons x' rest')
  r_cons p q = r_bind p (λ h. r_bind q (λ hs. r_give (h ∷ hs)))

  pub r_call : {calls calls' : Calls} {args args' : Act (List Handed)} (g : ℕ) → ((g : ℕ) (hs : List Handed) → R (calls g hs) (calls' g hs)) → R args args' → R (called_by_number calls g args) (called_by_number calls' g args')
  r_call g k p = r_bind p (λ hs. k g hs)

  pub r_call_value : {calls calls' : Calls} {x x' : Act Cell} {args args' : Act (List Handed)} (f : ℕ) → ((g : ℕ) (hs : List Handed) → R (calls g hs) (calls' g hs)) → R x x' → R args args' → R (called_by_value f calls x args) (called_by_value f calls' x' args')
  r_call_value f k p q = r_bind p (λ c. r_bind q (λ hs. r_bind (r_code_in f c) (λ g. k g hs)))

  pub r_result : {call call' : Act (Option Cell)} → R call call' → R (result_of call) (result_of call')
  r_result p = r_bind p r_given

  -- the constructs of statements

  pub r_assign : {d d' : Act Handed} {x x' : Act Cell} → R d d' → R x x' → R (assign d x) (assign d' x')
  r_assign p q = r_bind (r_place p) (λ a. r_bind q (λ c. r_put a c))

  pub r_copy : (n : ℕ) (to from : Address) → R (copy n to from) (copy n to from)
  r_copy n to from = r_bind r_spend (λ _. r_each n 0 (λ i. r_bind (r_fetch (past from i)) (λ c. r_bind (r_put (past to i) c) (λ _. r_give true))))

  pub r_copy_array : {d d' e e' : Act Handed} (f : ℕ) (n m : Option ℕ) (cells : ℕ) → R d d' → R e e' → R (copy_array f d n e m cells) (copy_array f d' n e' m cells)
  r_copy_array f n m cells p q = r_bind (r_span n p) (λ to. r_bind (r_span m q) (λ from. r_bind (r_unless f 12 _) (λ _. r_copy (from.length * cells) to.at from.at)))

  pub r_copy_record : {d d' e e' : Act Handed} (cells : ℕ) → R d d' → R e e' → R (copy_record d e cells) (copy_record d' e' cells)
  r_copy_record cells p q = r_bind (r_place p) (λ to. r_bind (r_place q) (λ from. r_copy cells to from))

  pub r_change : {d d' : Act Handed} {x x' : Act Cell} (f : ℕ) (op : Binary) (is_byte : Bool) → R d d' → R x x' → R (change_number f op d x is_byte) (change_number f op d' x' is_byte)
  r_change f op is_byte p q = r_bind (r_place p) (λ a. r_bind (r_bits q) (λ n. r_bind (r_bits (r_fetch a)) (λ v. r_bind (r_given (binary_of op v n)) (λ w. r_bind (r_unless f 11 _) (λ _. r_put a (Bits w))))))

  pub r_change_set : {d d' : Act Handed} {x x' : Act Cell} (f : ℕ) (op : Binary) → R d d' → R x x' → R (change_set f op d x) (change_set f op d' x')
  r_change_set f op p q = r_bind (r_place p) (λ a. r_bind (r_bits q) (λ n. r_bind (r_unless f 7 (inside n 64)) (λ _. r_bind (r_bits (r_fetch a)) (λ v. r_bind (r_given (binary_of op v (elements n n))) (λ w. r_put a (Bits w))))))

  pub r_new : {d d' : Act Handed} (f tag cells : ℕ) → R d d' → R (new f d tag cells) (new f d' tag cells)
  r_new f tag cells p = r_bind (r_place p) (λ a. r_bind (r_look (λ s. s.heap)) (λ heap. r_bind (r_unless f 10 _) (λ _. r_bind (r_made (replicate cells (Bits 0)) tag) (λ _. r_put a (Pointer (length heap))))))

  pub r_assert : {x x' : Act Cell} (f : ℕ) → R x x' → R (assert f x) (assert f x')
  r_assert f p = r_bind (r_bits p) (λ n. r_unless f 5 (holds n))

  pub r_out_char : {x x' : Act Cell} → R x x' → R (out_char x) (out_char x')
  r_out_char p = r_bind (r_bits p) (λ n. r_if _ (r_write (n ∷ [])) (r_fail Senseless))

  pub r_out_int : {x x' n n' : Act Cell} → R x x' → R n n' → R (out_int x n) (out_int x' n')
  r_out_int p q = r_bind (r_bits p) (λ v. r_bind (r_bits q) (λ n. r_write _))

  pub r_out_string : {d d' : Act Handed} (n : Option ℕ) → R d d' → R (out_string d n) (out_string d' n)
  r_out_string n p = r_bind (r_span n p) (λ a. r_bind (r_text_in a) r_write)

  pub r_otherwise : {parts parts' : Act Bool} {other other' : Deed} → R parts parts' → R other other' → R (otherwise parts other) (otherwise parts' other')
  r_otherwise p q = r_bind p (λ done. r_if done (r_give tt) q)

  pub r_test : {x x' : Act Cell} → R x x' → R (test x) (test x')
  r_test p = r_bind (r_bits p) (λ n. r_give (holds n))

  pub r_try : {c c' : Act Bool} {body body' : Deed} {rest rest' : Act Bool} → R c c' → R body body' → R rest rest' → R (try c body rest) (try c' body' rest')
  r_try p q r = r_bind p (λ ok. r_if ok (r_bind q (λ _. r_give true)) r)

  pub r_for : {d d' : Act Handed} {x x' y y' : Act Cell} {body body' : Deed} (step : ℤ) → R d d' → R x x' → R y y' → R body body' → R (for fuel d x y step body) (for fuel' d' x' y' step body')
  r_for step p q r b = r_bind (r_place p) (λ a. r_bind q (λ c. r_bind (r_put a c) (λ _. r_bind (r_bits r) (λ limit. r_while (r_bind (r_bits (r_fetch a)) (λ v. r_give (at_limit step v limit))) (r_bind b (λ _. r_bind (r_bits (r_fetch a)) (λ v. r_put a _)))))))

  pub r_case : {x x' : Act Cell} {parts parts' : ℕ → Act Bool} (f : ℕ) → R x x' → ((v : ℕ) → R (parts v) (parts' v)) → R (case f x parts) (case f x' parts')
  r_case f p q = r_bind (r_bits p) (λ v. r_bind (q v) (r_unless f 6))

  pub r_type_case : {x x' : Act (Option ℕ)} {parts parts' : Option ℕ → Act Bool} → R x x' → ((t : Option ℕ) → R (parts t) (parts' t)) → R (type_case x parts) (type_case x' parts')
  r_type_case p q = r_bind p (λ t. r_bind (q t) (λ _. r_give tt))

  r_receive : (a : Address) (x : Option ℕ) → R (receive a x) (receive a x)
  r_receive a None = r_bind (r_put done (Bits 0)) (λ _. r_put a (Bits 0))
  r_receive a (Some x) = r_bind (r_put done (Bits 1)) (λ _. r_put a (Bits x))

  r_in_char : {d d' : Act Handed} → R d d' → R (in_char d) (in_char d')
  r_in_char p = r_bind (r_place p) (λ a. r_bind r_next_byte (r_receive a))

  -- the tree

  module _ (p : Program) (calls calls' : Calls) (here : Here) (k : (g : ℕ) (hs : List Handed) → R (calls g hs) (calls' g hs)) where
    r_base : (b : Base) → R (base_of p calls here b) (base_of p calls' here b)
    r_base Done = r_give _
    r_base (Global m v) = r_give _
    r_base (Local v) = r_give _
    r_base (Parameter i) = r_given (slice_get here.arguments i)
    r_base (Text i) = r_give _

    mutual
      pub r_value : (e : Expr) → R (value p calls here e) (value p calls' here e)
      r_value (Literal n) = r_give (Bits n)
      r_value (Routine g) = r_give (Code g)
      r_value (Load d) = r_load (r_designated d)
      r_value (Guard' _ d rs) = r_guards here.procedure (extends p.types) rs (r_load (r_designated d))
      r_value (Unary' op _ x) = r_one op (r_value x)
      r_value (Chain' _ x _ links) = r_linked _ links (r_value x)
      r_value (Compare' r _ x _ y) = r_compared r (r_value x) (r_value y)
      r_value (CompareTexts' r _ d _ e) = r_texts r (length_of_kind (kind_in d)) (length_of_kind (kind_in e)) (r_designated d) (r_designated e)
      r_value (In' _ x _ s) = r_contained here.procedure (extends p.types) (r_value x) (r_value s)
      r_value (IsPointer' _ x r) = r_type_test here.procedure (extends p.types) r (r_pointer_type (r_value x))
      r_value (IsParameter d r) = r_type_test here.procedure (extends p.types) r (r_parameter_type (r_designated d))
      r_value (Byte' _ x) = r_byte here.procedure (extends p.types) (r_value x)
      r_value (Length d) = r_length (length_of_kind (kind_in d)) (r_designated d)
      r_value (Call' _ c) = r_result (r_called c)

      r_linked : (m : _) (row : Row_of-Link m) {x x' : Act Cell} → R x x' → R (linked p calls here row x) (linked p calls' here row x')
      r_linked m end_of-Link q = q
      r_linked m (more_of-Link l rest) q = r_linked _ rest (r_link l q)

      r_link : (l : Link) {x x' : Act Cell} → R x x' → R (link p calls here l x) (link p calls' here l x')
      r_link (Operate op y) q = r_two here.procedure (extends p.types) op q (r_value y)
      r_link (And y) q = r_both q (r_value y)
      r_link (Or y) q = r_either q (r_value y)
      r_link (Element y) q = r_with here.procedure (extends p.types) q (r_value y)
      r_link (Elements' _ y _ z) q = r_with_range here.procedure (extends p.types) q (r_value y) (r_value z)

      pub r_designated : (d : Designator) → R (designated p calls here d) (designated p calls' here d)
      r_designated (Whole b kind) = r_base b
      r_designated (Part' _ b kind _ selectors) = r_selected _ selectors (r_base b)

      r_selected : (m : _) (row : Row_of-Selector m) {d d' : Act Handed} → R d d' → R (selected p calls here row d) (selected p calls' here row d')
      r_selected m end_of-Selector q = q
      r_selected m (more_of-Selector s rest) q = r_selected _ rest (r_select s q)

      r_select : (s : Selector) {d d' : Act Handed} → R d d' → R (select p calls here s d) (select p calls' here s d')
      r_select (Index n element x) q = r_element here.procedure (extends p.types) n (cells p.types element) q (r_value x)
      r_select (Field r field) q = r_field here.procedure (extends p.types) (field_place p.types r field) q
      r_select (Dereference rs) q = r_object here.procedure (extends p.types) (r_guards here.procedure (extends p.types) rs (r_load q))
      r_select (Narrow r) q = r_narrowed here.procedure (extends p.types) r q

      r_called : (c : Call) → R (called p calls here c) (called p calls' here c)
      r_called (Direct' g _ args) = r_call g k (r_arguments _ args)
      r_called (Indirect' d _ args) = r_call_value here.procedure k (r_load (r_designated d)) (r_arguments _ args)

      r_argument : (x : Argument) → R (argument p calls here x) (argument p calls' here x)
      r_argument (ByValue x) = r_by_value (r_value x)
      r_argument (ByPlace d) = r_by_place (r_designated d)
      r_argument (ByRecord d) = r_by_record (record_of_kind (kind_in d)) (r_designated d)
      r_argument (ByOpen d) = r_by_open (length_of_kind (kind_in d)) (r_designated d)

      r_arguments : (m : _) (row : Row_of-Argument m) → R (arguments p calls here row) (arguments p calls' here row)
      r_arguments m end_of-Argument = r_give []
      r_arguments m (more_of-Argument x rest) = r_cons (r_argument x) (r_arguments _ rest)

    mutual
      pub r_effect : (s : Stmt) → R (effect p calls here fuel s) (effect p calls' here fuel' s)
      r_effect (Assign d x) = r_assign (r_designated d) (r_value x.form)
      r_effect (CopyArray d e) = r_copy_array here.procedure (length_of_kind (kind_in d)) (length_of_kind (kind_in e)) (cells p.types (element_kind (kind_in d))) (r_designated d) (r_designated e)
      r_effect (CopyRecord d e) = r_copy_record (record_cells p.types (record_of_kind (kind_in d))) (r_designated d) (r_designated e)
      r_effect (Increase d x) = r_change here.procedure Add (is_byte (kind_in d)) (r_designated d) (r_value x.form)
      r_effect (Decrease d x) = r_change here.procedure Subtract (is_byte (kind_in d)) (r_designated d) (r_value x.form)
      r_effect (Include d x) = r_change_set here.procedure Union (r_designated d) (r_value x.form)
      r_effect (Exclude d x) = r_change_set here.procedure Difference (r_designated d) (r_value x.form)
      r_effect (New d) = r_new here.procedure (record_of_kind (kind_in d)) (record_cells p.types (record_of_kind (kind_in d))) (r_designated d)
      r_effect (Assert x) = r_assert here.procedure (r_value x.form)
      r_effect (OutChar x) = r_out_char (r_value x.form)
      r_effect (OutInt x n) = r_out_int (r_value x.form) (r_value n.form)
      r_effect (OutString d) = r_out_string (length_of_kind (kind_in d)) (r_designated d)
      r_effect OutLn = r_out_char (r_give (Bits 10))
      r_effect (InChar d) = r_in_char (r_designated d)
      r_effect (Invoke c) = r_bind (r_called c) (λ _. r_give tt)
      r_effect (If' _ parts _ other) = r_otherwise (r_branches _ parts) (r_effects _ other)
      r_effect (While' _ parts) = r_repeat (r_branches _ parts)
      r_effect (Repeat' _ body x) = r_until (r_effects _ body) (r_test (r_value x.form))
      r_effect (For' _ d x y step _ body) = r_for step (r_designated d) (r_value x.form) (r_value y.form) (r_effects _ body)
      r_effect (Case' x _ parts) = r_case here.procedure (r_value x.form) (λ v. r_case_parts v _ parts)
      r_effect (CasePointer' x _ parts) = r_type_case (r_pointer_type (r_value x.form)) (λ t. r_type_parts t _ parts)
      r_effect (CaseParameter' d _ parts) = r_type_case (r_parameter_type (r_designated d)) (λ t. r_type_parts t _ parts)

      r_effects : (m : _) (row : Row_of-Stmt m) → R (effects p calls here fuel row) (effects p calls' here fuel' row)
      r_effects m end_of-Stmt = r_give tt
      r_effects m (more_of-Stmt s rest) = r_bind (r_effect s) (λ _. r_effects _ rest)

      r_branches : (m : _) (row : Row_of-Branch m) → R (branches p calls here fuel row) (branches p calls' here fuel' row)
      r_branches m end_of-Branch = r_give false
      r_branches m (more_of-Branch x _ body rest) = r_try (r_test (r_value x.form)) (r_effects _ body) (r_branches _ rest)

      r_case_parts : (v : ℕ) (m : _) (row : Row_of-CasePart m) → R (case_parts p calls here fuel v row) (case_parts p calls' here fuel' v row)
      r_case_parts v m end_of-CasePart = r_give false
      r_case_parts v m (more_of-CasePart labels _ body rest) = r_try (r_give (labels_have v labels)) (r_effects _ body) (r_case_parts v _ rest)

      r_type_parts : (t : Option ℕ) (m : _) (row : Row_of-TypePart m) → R (type_parts p calls here fuel t row) (type_parts p calls' here fuel' t row)
      r_type_parts t m end_of-TypePart = r_give false
      r_type_parts t m (more_of-TypePart r _ body rest) = r_try (r_give (is_of (extends p.types) t r)) (r_effects _ body) (r_type_parts t _ rest)

    r_effects_of : (ss : List Stmt) → R (effects_of p calls here fuel ss) (effects_of p calls' here fuel' ss)
    r_effects_of [] = r_give tt
    r_effects_of (s ∷ ss) = r_bind (r_effect s) (λ _. r_effects_of ss)

    r_answer : (e : Option Checked) → R (answer p calls here e) (answer p calls' here e)
    r_answer None = r_give None
    r_answer (Some x) = r_bind (r_value x.form) (λ c. r_give (Some c))

  -- calls

  pub r_invoked : (p : Program) (calls calls' : Calls) → ((g : ℕ) (hs : List Handed) → R (calls g hs) (calls' g hs)) → (f : ℕ) (hs : List Handed) → R (invoked p calls fuel f hs) (invoked p calls' fuel' f hs)
  r_invoked p calls calls' k f hs =
      r_bind (r_given (received (procedure_of p f).formals hs)) (λ values. r_bind (r_look (λ s. s.frames)) (λ frames.
      r_bind (r_unless f 8 (nat_lt (length frames) 8192)) (λ _. r_bind (r_unless f 9 _) (λ _. r_bind (r_spend_all (zeroed p (procedure_of p f))) (λ _.
      r_within _ (λ frame. r_bind (r_effects_of p calls calls' (record { procedure = f; frame = frame; arguments = hs }) k (procedure_of p f).body) (λ _.
      r_bind (r_answer p calls calls' (record { procedure = f; frame = frame; arguments = hs }) k (procedure_of p f).answer) (λ c. r_bind r_spend (λ _. r_give c)))))))))

  pub r_bodies : (p : Program) → ((g : ℕ) (hs : List Handed) → R (at_most p fuel g hs) (at_most p fuel' g hs)) → (ms : List Module) → R (bodies p fuel ms) (bodies p fuel' ms)
  r_bodies p k [] = r_give tt
  r_bodies p k (m ∷ ms) = r_bind (r_effects_of p (at_most p fuel) (at_most p fuel') (record { procedure = m.body; frame = 0; arguments = [] }) k (procedure_of p m.body).body) (λ _. r_bodies p k ms)
