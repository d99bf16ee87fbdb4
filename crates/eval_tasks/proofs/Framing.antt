-- What is left of the meaning doesn't depend on what was written: each small act, each construct, each task.
use Rattle.std.proofs.Common.{◌≡◌, ℕ, zero, suc, ◌*◌, ◌+◌, List, [], ◌∷◌, ◌++◌, Bool, true, false, Option, Some, None, refl, ap, ◌∙◌, append_assoc, take, drop, length}
use Rattle.std.specs.Prelude.{if◌then◌else◌, bit_or, replicate, nat_lt, nat_le, ℤ, reverse, slice_get}
use Rattle.wrapping_numbers.specs.Numbers.{unsigned, add64}
use Rattle.wrapping_numbers.specs.Sets.{has}
use Rattle.out_text.specs.Text.{int_text}
use Rattle.run_laws.specs.Turns.{State, Ending, Gives, Fails, Spent, after, ◌>>=◌, give, fail, look, change, spend, spend_of, repeat, each_so}
use Rattle.ob_types.specs.Layout.{cells, record_cells, field_place, extends}
use Rattle.ob_types.specs.Store.{Cell, Bits, Pointer, Code, Heap, Address, Store, Trap, Kind, Senseless, Act, given, Handed, At, Sized, Tagged, Value, Span, Here, objects, with_objects, cell_of, cell_put, can_write, past, fetch, put, address_in, span_in, tag_in, write, unless, spend_all, bits_in, bits, object_in, tag_of, dynamic_in, code_in, place, span}
use Rattle.ob_types.specs.Operators.{truth, holds, inside, elements, unary_of, binary_of, relation_of, related, text_of, text_order, text_common, labels_have}
use Rattle.ob_types.specs.Expressions.{Calls, Extension, element_place, object_of, narrowed, load, guarded, all_guarded, one_operand, quotient, two_operands, both, either, compared, bits_from, text_in, texts_compared, with_element, with_range, parameter_type, is_of, type_test, as_byte, length_of, by_value, by_place, with_tag, by_record, by_open}
use Rattle.ob_types.specs.Statements.{Deed, assign, copy, copy_array, copy_record, change_number, change_set, heap_cells, made, new, assert, out_char, out_int, out_string, done, next_byte, next_byte_of, receive, in_char, test, try, at_limit, case, type_case}
use Rattle.ob_types.specs.Meaning.{kind_in, length_of_kind, record_of_kind, value, link, designated, select, argument, effect, effects, effects_of, within, invoked, at_most}
use Rattle.ob_types.specs.declared.tree.Unary.{Unary}
use Rattle.ob_types.specs.declared.tree.Binary.{Binary}
use Rattle.ob_types.specs.declared.tree.Relation.{Relation}
use Rattle.ob_types.specs.declared.tree.Expr.{Expr}
use Rattle.ob_types.specs.declared.tree.Link.{Link, Operate, And, Or, Element, Elements'}
use Rattle.ob_types.specs.declared.tree.Designator.{Designator}
use Rattle.ob_types.specs.declared.tree.Selector.{Selector, Index, Field, Dereference, Narrow}
use Rattle.ob_types.specs.declared.tree.Argument.{Argument, ByValue, ByPlace, ByRecord, ByOpen}
use Rattle.ob_types.specs.declared.statements.Stmt.{Stmt, Repeat', For', Row_of-Stmt, end_of-Stmt, more_of-Stmt}
use Rattle.ob_types.specs.declared.statements.Branch.{Branch}
use Rattle.ob_types.specs.declared.statements.CasePart.{CasePart}
use Rattle.ob_types.specs.declared.statements.TypePart.{TypePart}
use Rattle.ob_types.specs.declared.program.Program.{Program}
use Rattle.ob_laws.proofs.Related.{r_invoked, r_value, r_effect, r_designated}
use Rattle.eval_store.specs.Handing.{cell_in}
use Rattle.eval_at_once.specs.Here.{here_of}
use Rattle.eval_at_once.specs.Lists.{linked_by, selected_by, arguments_by, branches_by, case_parts_by, type_parts_by}
use Rattle.eval_at_once.specs.declared.active.Active.{Active}
use Rattle.eval_tasks.specs.declared.task.Act.{Act as TheAct}
use Rattle.eval_tasks.specs.declared.task.Act.TheVariants.{Fetch, OneOperand, Number, TwoOperands, Compared, TextsCompared, Contained, WithElement, WithRange, PointerIs, ParameterIs, AsByte, LengthOf, AsSpan, AsPlace, AsRecord, ElementOf, Put, PutFirst, ChangeNumber, ChangeSet, Make, Yes, Drop, Nothing, Invoke, InvokeValue}
use Rattle.eval_tasks.specs.declared.task.Act.TheVariants.{Element as AsElement, CopyArray as CopiesArray, CopyRecord as CopiesRecord, Assert as Asserts, OutChar as PutsChar, OutInt as PutsInt, OutString as PutsString, InChar as TakesChar}
use Rattle.eval_tasks.specs.declared.task.Stage.{Stage}
use Rattle.eval_tasks.specs.declared.task.Stage.TheVariants.{Begin, Rounds, Behind}
use Rattle.eval_tasks.specs.declared.task.Branching.{Branching}
use Rattle.eval_tasks.specs.declared.task.Branching.TheVariants.{Try, Chosen, Again}
use Rattle.eval_tasks.specs.declared.task.Branching.TheVariants.{Rounds as WhileRounds}
use Rattle.eval_tasks.specs.declared.task.Typing.TheVariants.{OfPointer, OfParameter}
use Rattle.eval_tasks.specs.declared.task.Task.{Task}
use Rattle.eval_tasks.specs.declared.task.Task.TheVariants.{Do, Evaluate, Follow, Locate, Select as SelectTask, Guards, Gather, Perform, PerformAll, Branches, Cases, Types, Return, Resume}
use Rattle.eval_tasks.specs.Tasks.{Next, taken, popped, flag, says, results, popped_frame, branching, until_round, for_step, for_rounds, limited, staged, acts, returns, does, rest}
use Rattle.eval_tasks.specs.Framed.{shifted, prefixed, Framed}

-- what follows, in every call and with any values
abbrev pub FramedNext : List ℕ → Next → Type 0
FramedNext front k = (x : Active) (vs : List Handed) → Framed front (k x vs)

module _ {front : List ℕ} where
  framed_after : {A B : Type 0} (e : Ending Store Trap A) (f : A → Act B) → ((a : A) → Framed front (f a)) → after (prefixed front e) f ≡ prefixed front (after e f)
  framed_after (Gives a s) f h = (h a).by s
  framed_after (Fails trap out) f h = refl
  framed_after (Spent out) f h = refl

  pub f_bind : {A B : Type 0} {m : Act A} {f : A → Act B} → Framed front m → ((a : A) → Framed front (f a)) → Framed front (m >>= f)
  f_bind {m = m} {f = f} p q = record { by = λ s. ap (λ e. after e f) (p.by s) ∙ framed_after (m s) f q }

  pub f_give : {A : Type 0} (a : A) → Framed front (give a)
  f_give a = record { by = λ s. refl }

  pub f_fail : {A : Type 0} (t : Trap) → Framed front (fail {A = A} t)
  f_fail t = record { by = λ s. refl }

  pub f_look : {A : Type 0} (f : Store → A) → Framed front (look f)
  f_look f = record { by = λ s. refl }

  pub f_change : (f : Store → Store) → Framed front (change f)
  f_change f = record { by = λ s. refl }

  pub f_spend : Framed front spend
  f_spend = record { by = λ s. at s s.turns }
    where
      at : (s : State Store) (n : ℕ) → spend_of {C = Store} {U = Trap} n (shifted front s) ≡ prefixed front (spend_of n s)
      at s zero = refl
      at s (suc n) = refl

  pub f_if : {A : Type 0} (b : Bool) {m n : Act A} → Framed front m → Framed front n → Framed front (if b then m else n)
  f_if true p q = p
  f_if false p q = q

  pub f_repeat : (fuel : ℕ) {round : Act Bool} → Framed front round → Framed front (repeat fuel round)
  f_repeat zero p = record { by = λ s. refl }
  f_repeat (suc fuel) p = record { by = λ s. (f_bind f_spend (λ _. f_bind p (λ b. f_if b (f_repeat fuel p) (f_give tt)))).by s }

  pub f_given : {A : Type 0} (o : Option A) → Framed front (given o)
  f_given None = f_fail Senseless
  f_given (Some a) = f_give a

  pub f_fetch : (a : Address) → Framed front (fetch a)
  f_fetch a = f_bind (f_look (objects a.area)) (λ all. f_given (cell_of all a.object a.cell))

  pub f_put : (a : Address) (c : Cell) → Framed front (put a c)
  f_put a c = f_bind (f_fetch a) (λ _. f_bind (f_look (objects a.area)) (λ all. f_if (can_write a.area) (f_change (with_objects a.area (cell_put all a.object a.cell c))) (f_fail Senseless)))

  pub f_write : (xs : List ℕ) → Framed front (write xs)
  f_write xs = record { by = λ s. ap (λ o. Gives tt (record s { out = o })) (append_assoc front s.out xs) }

  pub f_made : (cells : List Cell) (tag : ℕ) → Framed front (made cells tag)
  f_made cells tag = f_change _

  pub f_next_byte : Framed front next_byte
  f_next_byte = record { by = λ s. at s s.store.input }
    where
      at : (s : State Store) (xs : List ℕ) → next_byte_of xs (shifted front s) ≡ prefixed front (next_byte_of xs s)
      at s [] = refl
      at s (x ∷ xs) = refl

  pub f_within : {A : Type 0} (own : List Cell) {body : ℕ → Act A} → ((k : ℕ) → Framed front (body k)) → Framed front (within own body)
  f_within {A = A} own {body = body} p = record { by = λ s. ap (λ e. after e (λ a t. Gives a (record t { store = record t.store { frames = take (length s.store.frames) t.store.frames } }))) ((p (length s.store.frames)).by (record s { store = record s.store { frames = s.store.frames ++ own ∷ [] } })) ∙ at s (body (length s.store.frames) (record s { store = record s.store { frames = s.store.frames ++ own ∷ [] } })) }
    where
      at : (s : State Store) (e : Ending Store Trap A) → after (prefixed front e) (λ a t. Gives a (record t { store = record t.store { frames = take (length s.store.frames) t.store.frames } })) ≡ prefixed front (after e (λ a t. Gives a (record t { store = record t.store { frames = take (length s.store.frames) t.store.frames } })))
      at s (Gives a t) = refl
      at s (Fails trap out) = refl
      at s (Spent out) = refl

  pub f_unless : (f kind : ℕ) (ok : Bool) → Framed front (unless f kind ok)
  f_unless f kind true = f_give tt
  f_unless f kind false = f_fail (Kind kind f)

  pub f_each : (n i : ℕ) {part : ℕ → Act Bool} → ((j : ℕ) → Framed front (part j)) → Framed front (each_so n i part)
  f_each zero i p = f_give tt
  f_each (suc n) i p = f_bind (p i) (λ b. f_bind f_spend (λ _. f_if b (f_each n (suc i) p) (f_give tt)))

  -- the whole of programs
  module _ (p : Program) where
    f_invoked : (fuel : ℕ) (calls : Calls) → ((g : ℕ) (hs : List Handed) → Framed front (calls g hs)) → (f : ℕ) (hs : List Handed) → Framed front (invoked p calls fuel f hs)
    f_invoked fuel calls h f hs =
        r_invoked (λ A m n. Framed front n) fuel fuel
        (λ A B m n f g. f_bind) (λ A a. f_give a) (λ A t. f_fail t) (λ A f. f_look f) f_spend
        (λ round again. f_repeat fuel)
        f_put f_write f_made f_next_byte
        (λ A own body other. f_within own)
        p calls calls h f hs

    pub f_at_most : (fuel f : ℕ) (hs : List Handed) → Framed front (at_most p fuel f hs)
    f_at_most zero f hs = record { by = λ s. refl }
    f_at_most (suc fuel) f hs = record { by = λ s. (f_bind f_spend (λ _. f_invoked fuel (at_most p fuel) (f_at_most fuel) f hs)).by s }

  -- the small acts

  pub f_bits_in : (c : Cell) → Framed front (bits_in c)
  f_bits_in (Bits n) = f_give n
  f_bits_in (Pointer o) = f_fail Senseless
  f_bits_in (Code f) = f_fail Senseless

  pub f_bits : {x : Act Cell} → Framed front x → Framed front (bits x)
  f_bits p = f_bind p f_bits_in

  pub f_object_in : (f : ℕ) (c : Cell) → Framed front (object_in f c)
  f_object_in f (Bits zero) = f_fail (Kind 2 f)
  f_object_in f (Bits (suc n)) = f_fail Senseless
  f_object_in f (Pointer o) = f_give o
  f_object_in f (Code g) = f_fail Senseless

  pub f_code_in : (f : ℕ) (c : Cell) → Framed front (code_in f c)
  f_code_in f (Bits zero) = f_fail (Kind 2 f)
  f_code_in f (Bits (suc n)) = f_fail Senseless
  f_code_in f (Pointer o) = f_fail Senseless
  f_code_in f (Code g) = f_give g

  pub f_tag_of : (o : ℕ) → Framed front (tag_of o)
  f_tag_of o = f_bind (f_look (λ s. s.tags)) (λ tags. f_given (slice_get tags o))

  pub f_dynamic_in : (c : Cell) → Framed front (dynamic_in c)
  f_dynamic_in (Bits zero) = f_give None
  f_dynamic_in (Bits (suc n)) = f_fail Senseless
  f_dynamic_in (Pointer o) = f_bind (f_tag_of o) (λ t. f_give (Some t))
  f_dynamic_in (Code g) = f_fail Senseless

  pub f_place : {d : Act Handed} → Framed front d → Framed front (place d)
  f_place p = f_bind p (λ h. f_given (address_in h))

  pub f_span : {d : Act Handed} (n : Option ℕ) → Framed front d → Framed front (span d n)
  f_span None p = f_bind p (λ h. f_given (span_in h))
  f_span (Some n) p = f_bind (f_place p) (λ a. f_give (record { at = a; length = n }))

  pub f_load : {d : Act Handed} → Framed front d → Framed front (load d)
  f_load p = f_bind (f_place p) f_fetch

  -- expressions

  pub f_element_place : {d : Act Handed} {x : Act Cell} (f : ℕ) (n : Option ℕ) (cells : ℕ) → Framed front d → Framed front x → Framed front (element_place f d n cells x)
  f_element_place f n cells p q = f_bind (f_span n p) (λ a. f_bind (f_bits q) (λ i. f_bind (f_unless f 1 (inside i a.length)) (λ _. f_give (At (past a.at (i * cells))))))

  pub f_object : {x : Act Cell} (f : ℕ) → Framed front x → Framed front (object_of f x)
  f_object f p = f_bind p (λ c. f_bind (f_object_in f c) (λ o. f_bind (f_tag_of o) (λ t. f_give (Tagged (record { area = Heap; object = o; cell = 0 }) t))))

  pub f_narrowed : {d : Act Handed} (f : ℕ) (ext : Extension) (r : ℕ) → Framed front d → Framed front (narrowed f ext d r)
  f_narrowed f ext r p = f_bind p (λ h. f_bind (f_given (tag_in h)) (λ t. f_bind (f_unless f 3 (ext t r)) (λ _. f_give h)))

  pub f_guarded : {x : Act Cell} (f : ℕ) (ext : Extension) (r : ℕ) → Framed front x → Framed front (guarded f ext x r)
  f_guarded f ext r p = f_bind p (λ c. f_bind (f_object_in f c) (λ o. f_bind (f_tag_of o) (λ t. f_bind (f_unless f 3 (ext t r)) (λ _. f_give c))))

  pub f_guards : (f : ℕ) (ext : Extension) (rs : List ℕ) {x : Act Cell} → Framed front x → Framed front (all_guarded f ext x rs)
  f_guards f ext [] p = p
  f_guards f ext (r ∷ rs) p = f_guards f ext rs (f_guarded f ext r p)

  pub f_one : {x : Act Cell} (op : Unary) → Framed front x → Framed front (one_operand op x)
  f_one op p = f_bind (f_bits p) (λ a. f_give (Bits (unary_of op a)))

  f_quotient : (f : ℕ) (o : Option ℕ) → Framed front (quotient f o)
  f_quotient f None = f_fail (Kind 4 f)
  f_quotient f (Some n) = f_give (Bits n)

  pub f_two : {x y : Act Cell} (f : ℕ) (op : Binary) → Framed front x → Framed front y → Framed front (two_operands f op x y)
  f_two f op p q = f_bind (f_bits p) (λ a. f_bind (f_bits q) (λ b. f_quotient f (binary_of op a b)))

  pub f_both : {x y : Act Cell} → Framed front x → Framed front y → Framed front (both x y)
  f_both p q = f_bind (f_bits p) (λ a. f_if (holds a) q (f_give (Bits 0)))

  pub f_either : {x y : Act Cell} → Framed front x → Framed front y → Framed front (either x y)
  f_either p q = f_bind (f_bits p) (λ a. f_if (holds a) (f_give (Bits 1)) q)

  pub f_compared : {x y : Act Cell} (r : Relation) → Framed front x → Framed front y → Framed front (compared r x y)
  f_compared r p q = f_bind p (λ c. f_bind q (λ d. f_bind (f_given (relation_of r c d)) (λ answer. f_give (Bits (truth answer)))))

  f_bits_from : (n : ℕ) (a : Address) → Framed front (bits_from n a)
  f_bits_from zero a = f_give []
  f_bits_from (suc n) a = f_bind (f_bits (f_fetch a)) (λ x. f_bind (f_bits_from n (past a 1)) (λ xs. f_give (x ∷ xs)))

  f_text_in : (a : Span) → Framed front (text_in a)
  f_text_in a = f_bind (f_bits_from a.length a.at) (λ xs. f_give (text_of xs))

  pub f_spend_all : (n : ℕ) → Framed front (spend_all n)
  f_spend_all n = f_each n 0 (λ _. f_give true)

  pub f_texts : {d e : Act Handed} (r : Relation) (n m : Option ℕ) → Framed front d → Framed front e → Framed front (texts_compared r d n e m)
  f_texts r n m p q = f_bind (f_span n p) (λ a. f_bind (f_span m q) (λ b. f_bind (f_text_in a) (λ xs. f_bind (f_text_in b) (λ ys. f_bind (f_spend_all (suc (text_common xs ys))) (λ _. f_give (Bits (truth (text_order (related r) xs ys))))))))

  pub f_with_element : {s x : Act Cell} (f : ℕ) → Framed front s → Framed front x → Framed front (with_element f s x)
  f_with_element f p q = f_bind (f_bits p) (λ b. f_bind (f_bits q) (λ a. f_bind (f_unless f 7 (inside a 64)) (λ _. f_give (Bits (bit_or b (elements a a))))))

  pub f_with_range : {s x y : Act Cell} (f : ℕ) → Framed front s → Framed front x → Framed front y → Framed front (with_range f s x y)
  f_with_range f p q r = f_bind (f_bits p) (λ b. f_bind (f_bits q) (λ a. f_bind (f_unless f 7 (inside a 64)) (λ _. f_bind (f_bits r) (λ c. f_bind (f_unless f 7 (inside c 64)) (λ _. f_give (Bits (bit_or b (elements a c))))))))

  pub f_parameter_type : {d : Act Handed} → Framed front d → Framed front (parameter_type d)
  f_parameter_type p = f_bind p (λ h. f_bind (f_given (tag_in h)) (λ t. f_give (Some t)))

  pub f_type_test : {x : Act (Option ℕ)} (ext : Extension) (r : ℕ) → Framed front x → Framed front (type_test ext x r)
  f_type_test ext r p = f_bind p (λ t. f_give (Bits (truth (is_of ext t r))))

  pub f_byte : {x : Act Cell} (f : ℕ) → Framed front x → Framed front (as_byte f x)
  f_byte f p = f_bind (f_bits p) (λ n. f_bind (f_unless f 11 (inside n 256)) (λ _. f_give (Bits n)))

  pub f_length : {d : Act Handed} (n : Option ℕ) → Framed front d → Framed front (length_of d n)
  f_length n p = f_bind (f_span n p) (λ a. f_give (Bits a.length))

  pub f_by_value : {x : Act Cell} → Framed front x → Framed front (by_value x)
  f_by_value p = f_bind p (λ c. f_give (Value c))

  pub f_by_place : {d : Act Handed} → Framed front d → Framed front (by_place d)
  f_by_place p = f_bind (f_place p) (λ a. f_give (At a))

  pub f_by_record : {d : Act Handed} (r : ℕ) → Framed front d → Framed front (by_record d r)
  f_by_record r p = f_bind p (λ h. f_given (with_tag h r))

  pub f_by_open : {d : Act Handed} (n : Option ℕ) → Framed front d → Framed front (by_open d n)
  f_by_open n p = f_bind (f_span n p) (λ a. f_give (Sized a.at a.length))

  -- statements

  pub f_assign : {d : Act Handed} {x : Act Cell} → Framed front d → Framed front x → Framed front (assign d x)
  f_assign p q = f_bind (f_place p) (λ a. f_bind q (λ c. f_put a c))

  f_copy : (n : ℕ) (to from : Address) → Framed front (copy n to from)
  f_copy n to from = f_bind f_spend (λ _. f_each n 0 (λ i. f_bind (f_fetch (past from i)) (λ c. f_bind (f_put (past to i) c) (λ _. f_give true))))

  pub f_copy_array : {d e : Act Handed} (f : ℕ) (n m : Option ℕ) (cells : ℕ) → Framed front d → Framed front e → Framed front (copy_array f d n e m cells)
  f_copy_array f n m cells p q = f_bind (f_span n p) (λ to. f_bind (f_span m q) (λ from. f_bind (f_unless f 12 (nat_le from.length to.length)) (λ _. f_copy (from.length * cells) to.at from.at)))

  pub f_copy_record : {d e : Act Handed} (cells : ℕ) → Framed front d → Framed front e → Framed front (copy_record d e cells)
  f_copy_record cells p q = f_bind (f_place p) (λ to. f_bind (f_place q) (λ from. f_copy cells to from))

  pub f_change_number : {d : Act Handed} {x : Act Cell} (f : ℕ) (op : Binary) (b : Bool) → Framed front d → Framed front x → Framed front (change_number f op d x b)
  f_change_number f op b p q = f_bind (f_place p) (λ a. f_bind (f_bits q) (λ n. f_bind (f_bits (f_fetch a)) (λ v. f_bind (f_given (binary_of op v n)) (λ w. f_bind (f_unless f 11 (if b then inside w 256 else true)) (λ _. f_put a (Bits w))))))

  pub f_change_set : {d : Act Handed} {x : Act Cell} (f : ℕ) (op : Binary) → Framed front d → Framed front x → Framed front (change_set f op d x)
  f_change_set f op p q = f_bind (f_place p) (λ a. f_bind (f_bits q) (λ n. f_bind (f_unless f 7 (inside n 64)) (λ _. f_bind (f_bits (f_fetch a)) (λ v. f_bind (f_given (binary_of op v (elements n n))) (λ w. f_put a (Bits w))))))

  pub f_new : {d : Act Handed} (f tag cells : ℕ) → Framed front d → Framed front (new f d tag cells)
  f_new f tag cells p = f_bind (f_place p) (λ a. f_bind (f_look (λ s. s.heap)) (λ heap. f_bind (f_unless f 10 (nat_le (heap_cells heap + suc cells) 8388608)) (λ _. f_bind (f_made (replicate cells (Bits 0)) tag) (λ _. f_put a (Pointer (length heap))))))

  pub f_assert : {x : Act Cell} (f : ℕ) → Framed front x → Framed front (assert f x)
  f_assert f p = f_bind (f_bits p) (λ n. f_unless f 5 (holds n))

  pub f_out_char : {x : Act Cell} → Framed front x → Framed front (out_char x)
  f_out_char p = f_bind (f_bits p) (λ n. f_if (nat_lt n 256) (f_write (n ∷ [])) (f_fail Senseless))

  pub f_out_int : {x n : Act Cell} → Framed front x → Framed front n → Framed front (out_int x n)
  f_out_int p q = f_bind (f_bits p) (λ v. f_bind (f_bits q) (λ width. f_write (int_text v width)))

  pub f_out_string : {d : Act Handed} (n : Option ℕ) → Framed front d → Framed front (out_string d n)
  f_out_string n p = f_bind (f_span n p) (λ a. f_bind (f_text_in a) f_write)

  f_receive : (a : Address) (x : Option ℕ) → Framed front (receive a x)
  f_receive a None = f_bind (f_put done (Bits 0)) (λ _. f_put a (Bits 0))
  f_receive a (Some x) = f_bind (f_put done (Bits 1)) (λ _. f_put a (Bits x))

  pub f_in_char : {d : Act Handed} → Framed front d → Framed front (in_char d)
  f_in_char p = f_bind (f_place p) (λ a. f_bind f_next_byte (f_receive a))

  pub f_test : {x : Act Cell} → Framed front x → Framed front (test x)
  f_test p = f_bind (f_bits p) (λ n. f_give (holds n))

  pub f_try : {c : Act Bool} {body : Deed} {rest : Act Bool} → Framed front c → Framed front body → Framed front rest → Framed front (try c body rest)
  f_try p q r = f_bind p (λ ok. f_if ok (f_bind q (λ _. f_give true)) r)

  pub f_case : {x : Act Cell} {parts : ℕ → Act Bool} (f : ℕ) → Framed front x → ((v : ℕ) → Framed front (parts v)) → Framed front (case f x parts)
  f_case f p q = f_bind (f_bits p) (λ v. f_bind (q v) (f_unless f 6))

  pub f_type_case : {x : Act (Option ℕ)} {parts : Option ℕ → Act Bool} → Framed front x → ((t : Option ℕ) → Framed front (parts t)) → Framed front (type_case x parts)
  f_type_case p q = f_bind p (λ t. f_bind (q t) (λ _. f_give tt))

  -- the tree, and what is left to do
  module _ (p : Program) where
    module _ (fuel : ℕ) (here : Here) where
      f_value : (e : Expr) → Framed front (value p (at_most p fuel) here e)
      f_value e =
          r_value (λ A m n. Framed front n) fuel fuel
          (λ A B m n f g. f_bind) (λ A a. f_give a) (λ A t. f_fail t) (λ A f. f_look f) f_spend
          (λ round again. f_repeat fuel)
          f_put f_write f_made f_next_byte
          (λ A own body other. f_within own)
          p (at_most p fuel) (at_most p fuel) here (f_at_most p fuel) e

      f_effect : (s : Stmt) → Framed front (effect p (at_most p fuel) here fuel s)
      f_effect s =
          r_effect (λ A m n. Framed front n) fuel fuel
          (λ A B m n f g. f_bind) (λ A a. f_give a) (λ A t. f_fail t) (λ A f. f_look f) f_spend
          (λ round again. f_repeat fuel)
          f_put f_write f_made f_next_byte
          (λ A own body other. f_within own)
          p (at_most p fuel) (at_most p fuel) here (f_at_most p fuel) s

      f_designated : (d : Designator) → Framed front (designated p (at_most p fuel) here d)
      f_designated d =
          r_designated (λ A m n. Framed front n) fuel fuel
          (λ A B m n f g. f_bind) (λ A a. f_give a) (λ A t. f_fail t) (λ A f. f_look f) f_spend
          (λ round again. f_repeat fuel)
          f_put f_write f_made f_next_byte
          (λ A own body other. f_within own)
          p (at_most p fuel) (at_most p fuel) here (f_at_most p fuel) d

      f_effects : (ss : List Stmt) → Framed front (effects_of p (at_most p fuel) here fuel ss)
      f_effects [] = f_give tt
      f_effects (s ∷ ss) = f_bind (f_effect s) (λ _. f_effects ss)

      f_row : {m : _} (row : Row_of-Stmt m) → Framed front (effects p (at_most p fuel) here fuel row)
      f_row end_of-Stmt = f_give tt
      f_row (more_of-Stmt s rest) = f_bind (f_effect s) (λ _. f_row rest)

      f_link : (l : Link) {x : Act Cell} → Framed front x → Framed front (link p (at_most p fuel) here l x)
      f_link (Operate op y) q = f_two here.procedure op q (f_value y)
      f_link (And y) q = f_both q (f_value y)
      f_link (Or y) q = f_either q (f_value y)
      f_link (Element y) q = f_with_element here.procedure q (f_value y)
      f_link (Elements' _ y _ z) q = f_with_range here.procedure q (f_value y) (f_value z)

      f_linked : (ls : List Link) {x : Act Cell} → Framed front x → Framed front (linked_by p (at_most p fuel) here ls x)
      f_linked [] q = q
      f_linked (l ∷ ls) q = f_linked ls (f_link l q)

      f_select : (l : Selector) {d : Act Handed} → Framed front d → Framed front (select p (at_most p fuel) here l d)
      f_select (Index n element x) q = f_element_place here.procedure n (cells p.types element) q (f_value x)
      f_select (Field r field) q = f_bind (f_place q) (λ a. f_give (At (past a (field_place p.types r field))))
      f_select (Dereference rs) q = f_object here.procedure (f_guards here.procedure (extends p.types) rs (f_load q))
      f_select (Narrow r) q = f_narrowed here.procedure (extends p.types) r q

      f_selected : (ls : List Selector) {d : Act Handed} → Framed front d → Framed front (selected_by p (at_most p fuel) here ls d)
      f_selected [] q = q
      f_selected (l ∷ ls) q = f_selected ls (f_select l q)

      f_argument : (x : Argument) → Framed front (argument p (at_most p fuel) here x)
      f_argument (ByValue x) = f_by_value (f_value x)
      f_argument (ByPlace d) = f_by_place (f_designated d)
      f_argument (ByRecord d) = f_by_record (record_of_kind (kind_in d)) (f_designated d)
      f_argument (ByOpen d) = f_by_open (length_of_kind (kind_in d)) (f_designated d)

      f_arguments : (xs : List Argument) → Framed front (arguments_by p (at_most p fuel) here xs)
      f_arguments [] = f_give []
      f_arguments (x ∷ xs) = f_bind (f_argument x) (λ h. f_bind (f_arguments xs) (λ hs. f_give (h ∷ hs)))

      f_branches : (bs : List Branch) → Framed front (branches_by p (at_most p fuel) here fuel bs)
      f_branches [] = f_give false
      f_branches (b ∷ rest) = f_try (f_test (f_value b.condition.form)) (f_effects b.body.items) (f_branches rest)

      f_case_parts : (v : ℕ) (ps : List CasePart) → Framed front (case_parts_by p (at_most p fuel) here fuel v ps)
      f_case_parts v [] = f_give false
      f_case_parts v (c ∷ rest) = f_try (f_give (labels_have v c.labels)) (f_effects c.body.items) (f_case_parts v rest)

      f_type_parts : (t : Option ℕ) (ps : List TypePart) → Framed front (type_parts_by p (at_most p fuel) here fuel t ps)
      f_type_parts t [] = f_give false
      f_type_parts t (c ∷ rest) = f_try (f_give (is_of (extends p.types) t c.«record»)) (f_effects c.body.items) (f_type_parts t rest)

    f_taken : (vs : List Handed) {go : Handed → List Handed → Deed} → ((h : Handed) (rest : List Handed) → Framed front (go h rest)) → Framed front (taken vs go)
    f_taken [] q = f_fail Senseless
    f_taken (h ∷ vs) q = q h vs

    f_popped : (vs : List Handed) {go : Cell → List Handed → Deed} → ((c : Cell) (rest : List Handed) → Framed front (go c rest)) → Framed front (popped vs go)
    f_popped vs q = f_taken vs (λ h rest. f_bind (f_given (cell_in h)) (λ c. q c rest))

    f_results : (wanted : Bool) {k : Next} → FramedNext front k → (x : Active) (vs : List Handed) (c : Option Cell) → Framed front (results wanted k x vs c)
    f_results true q x vs c = f_bind (f_given c) (λ d. q x (Value d ∷ vs))
    f_results false q x vs c = q x vs

    f_popped_frame : (n : ℕ) → Framed front (popped_frame n)
    f_popped_frame n = record { by = λ s. refl }

    f_limited : (vs : List Handed) {go : ℕ → Address → List Handed → Deed} → ((n : ℕ) (a : Address) (rest : List Handed) → Framed front (go n a rest)) → Framed front (limited vs go)
    f_limited (Value (Bits n) ∷ At a ∷ vs) q = q n a vs
    f_limited _ q = f_fail Senseless

    f_act : (a : TheAct) {k : Next} → FramedNext front k → FramedNext front (acts p a k)
    f_act Fetch q x vs = f_taken vs (λ h rest. f_bind (f_load (f_give h)) (λ c. q x (Value c ∷ rest)))
    f_act (OneOperand op) q x vs = f_popped vs (λ c rest. f_bind (f_one op (f_give c)) (λ d. q x (Value d ∷ rest)))
    f_act Number q x vs = f_popped vs (λ c rest. f_bind (f_bits_in c) (λ n. q x (Value (Bits n) ∷ rest)))
    f_act AsElement q x vs = f_popped vs (λ c rest. f_bind (f_bits_in c) (λ n. f_bind (f_unless x.procedure 7 (inside n 64)) (λ _. q x (Value (Bits n) ∷ rest))))
    f_act (TwoOperands op) q x vs = f_popped vs (λ d rest. f_popped rest (λ c more. f_bind (f_two x.procedure op (f_give c) (f_give d)) (λ e. q x (Value e ∷ more))))
    f_act (Compared r) q x vs = f_popped vs (λ d rest. f_popped rest (λ c more. f_bind (f_compared r (f_give c) (f_give d)) (λ e. q x (Value e ∷ more))))
    f_act (TextsCompared r) q x vs = f_taken vs (λ e rest. f_taken rest (λ d more. f_bind (f_texts r None None (f_give d) (f_give e)) (λ c. q x (Value c ∷ more))))
    f_act Contained q x vs = f_popped vs (λ d rest. f_popped rest (λ c more. f_bind (f_bits_in c) (λ a. f_bind (f_bits_in d) (λ b. q x (Value (Bits (truth (has b a))) ∷ more)))))
    f_act WithElement q x vs = f_popped vs (λ d rest. f_popped rest (λ c more. f_bind (f_with_element x.procedure (f_give c) (f_give d)) (λ e. q x (Value e ∷ more))))
    f_act WithRange q x vs = f_popped vs (λ e rest. f_popped rest (λ d more. f_popped more (λ c others. f_bind (f_bits_in c) (λ b. f_bind (f_bits_in d) (λ low. f_bind (f_bits_in e) (λ high. f_bind (f_unless x.procedure 7 (inside high 64)) (λ _. q x (Value (Bits (bit_or b (elements low high))) ∷ others))))))))
    f_act (PointerIs r) q x vs = f_popped vs (λ c rest. f_bind (f_type_test (extends p.types) r (f_bind (f_give c) f_dynamic_in)) (λ d. q x (Value d ∷ rest)))
    f_act (ParameterIs r) q x vs = f_taken vs (λ h rest. f_bind (f_type_test (extends p.types) r (f_parameter_type (f_give h))) (λ d. q x (Value d ∷ rest)))
    f_act AsByte q x vs = f_popped vs (λ c rest. f_bind (f_byte x.procedure (f_give c)) (λ d. q x (Value d ∷ rest)))
    f_act (LengthOf n) q x vs = f_taken vs (λ h rest. f_bind (f_length n (f_give h)) (λ c. q x (Value c ∷ rest)))
    f_act (AsSpan n) q x vs = f_taken vs (λ h rest. f_bind (f_by_open n (f_give h)) (λ g. q x (g ∷ rest)))
    f_act AsPlace q x vs = f_taken vs (λ h rest. f_bind (f_by_place (f_give h)) (λ g. q x (g ∷ rest)))
    f_act (AsRecord r) q x vs = f_taken vs (λ h rest. f_bind (f_by_record r (f_give h)) (λ g. q x (g ∷ rest)))
    f_act (ElementOf cells) q x vs = f_popped vs (λ c rest. f_taken rest (λ h more. f_bind (f_element_place x.procedure None cells (f_give h) (f_give c)) (λ g. q x (g ∷ more))))
    f_act Put q x vs = f_popped vs (λ c rest. f_taken rest (λ h more. f_bind (f_assign (f_give h) (f_give c)) (λ _. q x more)))
    f_act PutFirst q x vs = f_popped vs (λ c rest. f_taken rest (λ h more. f_bind (f_assign (f_give h) (f_give c)) (λ _. q x (h ∷ more))))
    f_act (CopiesArray cells) q x vs = f_taken vs (λ e rest. f_taken rest (λ d more. f_bind (f_copy_array x.procedure None None cells (f_give d) (f_give e)) (λ _. q x more)))
    f_act (CopiesRecord cells) q x vs = f_taken vs (λ e rest. f_taken rest (λ d more. f_bind (f_copy_record cells (f_give d) (f_give e)) (λ _. q x more)))
    f_act (ChangeNumber op b) q x vs = f_popped vs (λ c rest. f_taken rest (λ h more. f_bind (f_change_number x.procedure op b (f_give h) (f_give c)) (λ _. q x more)))
    f_act (ChangeSet op) q x vs = f_popped vs (λ c rest. f_taken rest (λ h more. f_bind (f_change_set x.procedure op (f_give h) (f_give c)) (λ _. q x more)))
    f_act (Make r) q x vs = f_taken vs (λ h rest. f_bind (f_new x.procedure r (record_cells p.types r) (f_give h)) (λ _. q x rest))
    f_act Asserts q x vs = f_popped vs (λ c rest. f_bind (f_assert x.procedure (f_give c)) (λ _. q x rest))
    f_act PutsChar q x vs = f_popped vs (λ c rest. f_bind (f_out_char (f_give c)) (λ _. q x rest))
    f_act PutsInt q x vs = f_popped vs (λ d rest. f_popped rest (λ c more. f_bind (f_out_int (f_give c) (f_give d)) (λ _. q x more)))
    f_act PutsString q x vs = f_taken vs (λ h rest. f_bind (f_out_string None (f_give h)) (λ _. q x rest))
    f_act TakesChar q x vs = f_taken vs (λ h rest. f_bind (f_in_char (f_give h)) (λ _. q x rest))
    f_act Yes q x vs = q x (Value (flag true) ∷ vs)
    f_act Drop q x vs = f_popped vs (λ c rest. q x rest)
    f_act Nothing q x vs = f_fail Senseless
    f_act (Invoke g n wanted) q x vs = f_bind (f_at_most p x.fuel g (reverse (take n vs))) (λ c. f_results wanted q x (drop n vs) c)
    f_act (InvokeValue n wanted) q x vs = f_popped (drop n vs) (λ c rest. f_bind (f_code_in x.procedure c) (λ g. f_bind (f_at_most p x.fuel g (reverse (take n vs))) (λ d. f_results wanted q x rest d)))

    f_says : (c : Cell) → Framed front (says c)
    f_says c = f_test (f_give c)

    f_branching : (b : Branching) (bs : List Branch) {k : Next} → FramedNext front k → FramedNext front (branching p b bs k)
    f_branching Try bs q x vs = f_bind (f_branches x.fuel (here_of x) bs) (λ b. q x (Value (flag b) ∷ vs))
    f_branching Chosen [] q x vs = f_popped vs (λ c rest. f_bind (f_fail Senseless) (λ b. q x (Value (flag b) ∷ rest)))
    f_branching Chosen (b ∷ bs) q x vs = f_popped vs (λ c rest. f_bind (f_try (f_says c) (f_effects x.fuel (here_of x) b.body.items) (f_branches x.fuel (here_of x) bs)) (λ b. q x (Value (flag b) ∷ rest)))
    f_branching (WhileRounds n) bs q x vs = f_bind (f_repeat n (f_branches x.fuel (here_of x) bs)) (λ _. q x vs)
    f_branching (Again n) bs q x vs = f_popped vs (λ c rest. f_bind (f_bind (f_says c) (λ b. f_if b (f_repeat n (f_branches x.fuel (here_of x) bs)) (f_give tt))) (λ _. q x rest))

    f_until : {body : Deed} {t : Act Bool} → Framed front body → Framed front t → Framed front (until_round p body t)
    f_until b t = f_bind t (λ ok. f_if ok (f_give false) (f_bind b (λ _. f_give true)))

    f_for_step : (a : Address) (step : ℤ) → Framed front (for_step p a step)
    f_for_step a step = f_bind (f_bits (f_fetch a)) (λ v. f_put a (Bits (add64 v (unsigned step))))

    f_for_rounds : (n : ℕ) (a : Address) (step : ℤ) (limit : ℕ) {body : Deed} → Framed front body → Framed front (for_rounds p n a step limit body)
    f_for_rounds n a step limit b = f_repeat n (f_bind (f_bind (f_bits (f_fetch a)) (λ v. f_give (at_limit step v limit))) (λ ok. f_if ok (f_bind (f_bind b (λ _. f_for_step a step)) (λ _. f_give true)) (f_give false)))

    f_staged : (stage : Stage) (s : Stmt) {k : Next} → FramedNext front k → FramedNext front (staged p stage s k)
    f_staged Begin s q x vs = f_bind (f_effect x.fuel (here_of x) s) (λ _. q x vs)
    f_staged (Rounds n) (Repeat' _ body y) q x vs = f_bind (f_repeat n (f_until (f_row x.fuel (here_of x) body) (f_test (f_value x.fuel (here_of x) y.form)))) (λ _. q x vs)
    f_staged (Rounds n) (For' _ d y z step _ body) q x vs = f_limited vs (λ limit a rest. f_bind (f_for_rounds n a step limit (f_row x.fuel (here_of x) body)) (λ _. q x rest))
    f_staged (Rounds n) _ q x vs = f_fail Senseless
    f_staged (Behind n) (Repeat' _ body y) q x vs = f_popped vs (λ c rest. f_bind (f_bind (f_until (f_row x.fuel (here_of x) body) (f_says c)) (λ b. f_if b (f_repeat n (f_until (f_row x.fuel (here_of x) body) (f_test (f_value x.fuel (here_of x) y.form)))) (f_give tt))) (λ _. q x rest))
    f_staged (Behind n) (For' _ d y z step _ body) q x vs = f_limited vs (λ limit a rest. f_bind (f_bind (f_for_step a step) (λ _. f_for_rounds n a step limit (f_row x.fuel (here_of x) body))) (λ _. q x rest))
    f_staged (Behind n) _ q x vs = f_fail Senseless

    f_returns : (old : Active) (wanted : Bool) {k : Next} → FramedNext front k → FramedNext front (returns p old wanted k)
    f_returns old true q x vs = f_popped vs (λ c rest. f_bind f_spend (λ _. f_bind (f_popped_frame x.frame) (λ _. q old (Value c ∷ rest))))
    f_returns old false q x vs = f_bind f_spend (λ _. f_bind (f_popped_frame x.frame) (λ _. q old vs))

    f_does : (t : Task) {k : Next} → FramedNext front k → FramedNext front (does p t k)
    f_does (Do a) q = f_act a q
    f_does (Evaluate e) q = λ x vs. f_bind (f_value x.fuel (here_of x) e.now) (λ c. q x (Value c ∷ vs))
    f_does (Follow ls) q = λ x vs. f_popped vs (λ c rest. f_bind (f_linked x.fuel (here_of x) ls.now (f_give c)) (λ d. q x (Value d ∷ rest)))
    f_does (Locate d) q = λ x vs. f_bind (f_designated x.fuel (here_of x) d.now) (λ h. q x (h ∷ vs))
    f_does (SelectTask ss) q = λ x vs. f_taken vs (λ h rest. f_bind (f_selected x.fuel (here_of x) ss.now (f_give h)) (λ g. q x (g ∷ rest)))
    f_does (Guards rs) q = λ x vs. f_popped vs (λ c rest. f_bind (f_guards x.procedure (extends p.types) rs.now (f_give c)) (λ d. q x (Value d ∷ rest)))
    f_does (Gather xs) q = λ x vs. f_bind (f_arguments x.fuel (here_of x) xs.now) (λ hs. q x (reverse hs ++ vs))
    f_does (Perform s stage) q = f_staged stage s.now q
    f_does (PerformAll ss false) q = λ x vs. f_bind (f_effects x.fuel (here_of x) ss.now) (λ _. q x vs)
    f_does (PerformAll ss true) q = λ x vs. f_popped vs (λ c rest. f_bind (f_bind (f_says c) (λ b. f_if b (f_give tt) (f_effects x.fuel (here_of x) ss.now))) (λ _. q x rest))
    f_does (Branches bs stage) q = f_branching stage bs.now q
    f_does (Cases ps) q = λ x vs. f_popped vs (λ c rest. f_bind (f_case x.procedure (f_give c) (λ v. f_case_parts x.fuel (here_of x) v ps.now)) (λ _. q x rest))
    f_does (Types ps OfPointer) q = λ x vs. f_popped vs (λ c rest. f_bind (f_type_case (f_bind (f_give c) f_dynamic_in) (λ t. f_type_parts x.fuel (here_of x) t ps.now)) (λ _. q x rest))
    f_does (Types ps OfParameter) q = λ x vs. f_taken vs (λ h rest. f_bind (f_type_case (f_parameter_type (f_give h)) (λ t. f_type_parts x.fuel (here_of x) t ps.now)) (λ _. q x rest))
    f_does (Return old wanted) q = f_returns old wanted q
    f_does (Resume old) q = λ x vs. q old vs

    -- all that is left
    pub f_rest : (ts : List Task) → FramedNext front (rest p ts)
    f_rest [] x vs = f_give tt
    f_rest (t ∷ ts) x vs = f_does t (f_rest ts) x vs
