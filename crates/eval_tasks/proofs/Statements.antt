-- Each statement is what its tasks are.
use Rattle.std.proofs.Common.{◌≡◌, ℕ, suc, List, ◌∷◌, Bool, true, false, Option, refl, ap, ◌∙◌}
use Rattle.std.specs.Prelude.{if◌then◌else◌, ℤ}
use Rattle.run_laws.specs.Turns.{State, after, ◌>>=◌, give, repeat}
use Rattle.ob_types.specs.Layout.{cells, record_cells, extends}
use Rattle.ob_types.specs.Store.{Cell, Bits, Store, Act, Address, Handed, At, Sized, Value, put, unless, bits_in, bits, place, span, dynamic_in}
use Rattle.ob_types.specs.Operators.{holds, labels_have}
use Rattle.ob_types.specs.Expressions.{pointer_type, parameter_type, is_of}
use Rattle.ob_types.specs.Statements.{Deed, skip, change_number, change_set, new, assert, out_char, out_int, in_char, otherwise, test, try, case, type_case}
use Rattle.ob_types.specs.Meaning.{value, designated, effect, effects, effects_of, kind_in, length_of_kind, element_kind, record_of_kind, is_byte, at_most, called}
use Rattle.ob_types.specs.declared.tree.Binary.{Binary}
use Rattle.ob_types.specs.declared.tree.Binary.TheVariants.{Add, Subtract, Union, Difference}
use Rattle.ob_types.specs.declared.tree.Expr.{Expr}
use Rattle.ob_types.specs.declared.tree.Designator.{Designator}
use Rattle.ob_types.specs.declared.statements.Checked.{Checked}
use Rattle.ob_types.specs.declared.statements.Branch.{Branch}
use Rattle.ob_types.specs.declared.statements.CasePart.{CasePart}
use Rattle.ob_types.specs.declared.statements.TypePart.{TypePart}
use Rattle.ob_types.specs.declared.statements.Stmt.{Stmt, Assign, CopyArray, CopyRecord, Increase, Decrease, Include, Exclude, New, Assert, OutChar, OutInt, OutString, InChar, Repeat', For', Row_of-Stmt}
use Rattle.ob_types.specs.declared.statements.Stmt.{Call as Calling}
use Rattle.ob_types.specs.declared.program.Program.{Program}
use Rattle.eval_at_once.specs.Lists.{case_parts_by, type_parts_by}
use Rattle.eval_at_once.specs.declared.active.Active.{Active}
use Rattle.eval_tasks.specs.declared.task.Act.TheVariants.{Number, AsSpan, AsPlace, Put, PutFirst, ChangeNumber, ChangeSet, Make, OutInt as PutsInt, Yes}
use Rattle.eval_tasks.specs.declared.task.Act.TheVariants.{CopyArray as CopiesArray, CopyRecord as CopiesRecord, Assert as Asserts, OutChar as PutsChar, OutString as PutsString, InChar as TakesChar}
use Rattle.eval_tasks.specs.declared.task.Stage.TheVariants.{Rounds, Behind}
use Rattle.eval_tasks.specs.declared.task.Branching.TheVariants.{Try, Chosen, Again}
use Rattle.eval_tasks.specs.declared.task.Branching.TheVariants.{Rounds as WhileRounds}
use Rattle.eval_tasks.specs.declared.task.Typing.TheVariants.{OfPointer, OfParameter}
use Rattle.eval_at_once.specs.Here.{here_of}
use Rattle.eval_tasks.specs.Tasks.{Next, pushes, flag, evaluates, locates, reaches, performs, performs_all, otherwise_all, unless_done, tries, branching, until_round, for_test, for_step, for_rounds, staged, cases, typing, acts}
use Rattle.eval_store.proofs.Endings.{assoc, same, lead}
use Rattle.eval_at_once.proofs.Leads.{spanned, placed}

module _ (p : Program) (k : Next) (x : Active) (vs : List Handed) (s : State Store) where
  abbrev V : Expr → Act Cell
  V e = value p (at_most p x.fuel) (here_of x) e

  abbrev D : Designator → Act Handed
  D d = designated p (at_most p x.fuel) (here_of x) d

  abbrev B : List Stmt → Deed
  B ss = effects_of p (at_most p x.fuel) (here_of x) x.fuel ss

  abbrev K : Unit {0} → Deed
  K u = k x vs

  abbrev P : Bool → Deed
  P b = pushes k x vs (flag b)

  pub p_cons : (st : Stmt) (ss : List Stmt) → performs_all p (st ∷ ss) k x vs s ≡ performs p st (performs_all p ss k) x vs s
  p_cons st ss = assoc (effect p (at_most p x.fuel) (here_of x) x.fuel st s) (λ _. B ss) K

  pub p_assign : (d : Designator) (e : Checked) → performs p (Assign d e) k x vs s ≡ locates p d (acts p AsPlace (evaluates p e.form (acts p Put k))) x vs s
  p_assign d e =
      assoc (place (D d) s) _ K
      ∙ same (place (D d) s) (λ a t. assoc (V e.form t) (λ c. put a c) K)
      ∙ placed (D d) (λ h. evaluates p e.form (acts p Put k) x (h ∷ vs)) s

  pub p_copy_array : (d e : Designator) → performs p (CopyArray d e) k x vs s ≡ locates p d (acts p (AsSpan (length_of_kind (kind_in d))) (locates p e (acts p (AsSpan (length_of_kind (kind_in e))) (acts p (CopiesArray (cells p.types (element_kind (kind_in d)))) k)))) x vs s
  p_copy_array d e =
      assoc (span (D d) (length_of_kind (kind_in d)) s) _ K
      ∙ same (span (D d) (length_of_kind (kind_in d)) s) (λ v t.
      assoc (span (D e) (length_of_kind (kind_in e)) t) _ K
      ∙ spanned (length_of_kind (kind_in e)) (D e) (λ h. acts p (CopiesArray (cells p.types (element_kind (kind_in d)))) k x (h ∷ Sized v.at v.length ∷ vs)) t)
      ∙ spanned (length_of_kind (kind_in d)) (D d) (λ h. locates p e (acts p (AsSpan (length_of_kind (kind_in e))) (acts p (CopiesArray (cells p.types (element_kind (kind_in d)))) k)) x (h ∷ vs)) s

  pub p_copy_record : (d e : Designator) → performs p (CopyRecord d e) k x vs s ≡ locates p d (acts p AsPlace (locates p e (acts p AsPlace (acts p (CopiesRecord (record_cells p.types (record_of_kind (kind_in d)))) k)))) x vs s
  p_copy_record d e =
      assoc (place (D d) s) _ K
      ∙ same (place (D d) s) (λ a t.
      assoc (place (D e) t) _ K
      ∙ placed (D e) (λ h. acts p (CopiesRecord (record_cells p.types (record_of_kind (kind_in d)))) k x (h ∷ At a ∷ vs)) t)
      ∙ placed (D d) (λ h. locates p e (acts p AsPlace (acts p (CopiesRecord (record_cells p.types (record_of_kind (kind_in d)))) k)) x (h ∷ vs)) s

  number : (op : Binary) (d : Designator) (e : Expr) (b : Bool) → after (change_number x.procedure op (D d) (V e) b s) K ≡ locates p d (acts p AsPlace (evaluates p e (acts p (ChangeNumber op b) k))) x vs s
  number op d e b =
      assoc (place (D d) s) _ K
      ∙ same (place (D d) s) (λ a t. lead (λ e. after (change_number x.procedure op (give (At a)) (λ _. e) b t) K) (λ t o. refl) (λ o. refl) (λ c u. refl) (V e t))
      ∙ placed (D d) (λ h. evaluates p e (acts p (ChangeNumber op b) k) x (h ∷ vs)) s

  set : (op : Binary) (d : Designator) (e : Expr) → after (change_set x.procedure op (D d) (V e) s) K ≡ locates p d (acts p AsPlace (evaluates p e (acts p (ChangeSet op) k))) x vs s
  set op d e =
      assoc (place (D d) s) _ K
      ∙ same (place (D d) s) (λ a t. lead (λ e. after (change_set x.procedure op (give (At a)) (λ _. e) t) K) (λ t o. refl) (λ o. refl) (λ c u. refl) (V e t))
      ∙ placed (D d) (λ h. evaluates p e (acts p (ChangeSet op) k) x (h ∷ vs)) s

  pub p_increase : (d : Designator) (e : Checked) → performs p (Increase d e) k x vs s ≡ locates p d (acts p AsPlace (evaluates p e.form (acts p (ChangeNumber Add (is_byte (kind_in d))) k))) x vs s
  p_increase d e = number Add d e.form (is_byte (kind_in d))

  pub p_decrease : (d : Designator) (e : Checked) → performs p (Decrease d e) k x vs s ≡ locates p d (acts p AsPlace (evaluates p e.form (acts p (ChangeNumber Subtract (is_byte (kind_in d))) k))) x vs s
  p_decrease d e = number Subtract d e.form (is_byte (kind_in d))

  pub p_include : (d : Designator) (e : Checked) → performs p (Include d e) k x vs s ≡ locates p d (acts p AsPlace (evaluates p e.form (acts p (ChangeSet Union) k))) x vs s
  p_include d e = set Union d e.form

  pub p_exclude : (d : Designator) (e : Checked) → performs p (Exclude d e) k x vs s ≡ locates p d (acts p AsPlace (evaluates p e.form (acts p (ChangeSet Difference) k))) x vs s
  p_exclude d e = set Difference d e.form

  pub p_new : (d : Designator) → performs p (New d) k x vs s ≡ locates p d (acts p (Make (record_of_kind (kind_in d))) k) x vs s
  p_new d = lead (λ e. after (new x.procedure (λ _. e) (record_of_kind (kind_in d)) (record_cells p.types (record_of_kind (kind_in d))) s) K) (λ t o. refl) (λ o. refl) (λ h t. refl) (D d s)

  pub p_assert : (e : Checked) → performs p (Assert e) k x vs s ≡ evaluates p e.form (acts p Asserts k) x vs s
  p_assert e = lead (λ e. after (assert x.procedure (λ _. e) s) K) (λ t o. refl) (λ o. refl) (λ c t. refl) (V e.form s)

  pub p_out_char : (e : Checked) → performs p (OutChar e) k x vs s ≡ evaluates p e.form (acts p PutsChar k) x vs s
  p_out_char e = lead (λ e. after (out_char (λ _. e) s) K) (λ t o. refl) (λ o. refl) (λ c t. refl) (V e.form s)

  pub p_out_int : (e n : Checked) → performs p (OutInt e n) k x vs s ≡ evaluates p e.form (acts p Number (evaluates p n.form (acts p PutsInt k))) x vs s
  p_out_int e n = lead (λ e. after (out_int (λ _. e) (V n.form) s) K) (λ t o. refl) (λ o. refl) (λ c t.
      assoc (bits_in c t) _ K ∙ same (bits_in c t) (λ v u. lead (λ e. after (out_int (give (Bits v)) (λ _. e) u) K) (λ t o. refl) (λ o. refl) (λ d w. refl) (V n.form u))) (V e.form s)

  pub p_out_string : (d : Designator) → performs p (OutString d) k x vs s ≡ locates p d (acts p (AsSpan (length_of_kind (kind_in d))) (acts p PutsString k)) x vs s
  p_out_string d = assoc (span (D d) (length_of_kind (kind_in d)) s) _ K ∙ spanned (length_of_kind (kind_in d)) (D d) (λ h. acts p PutsString k x (h ∷ vs)) s

  pub p_in_char : (d : Designator) → performs p (InChar d) k x vs s ≡ locates p d (acts p TakesChar k) x vs s
  p_in_char d = lead (λ e. after (in_char (λ _. e) s) K) (λ t o. refl) (λ o. refl) (λ h t. refl) (D d s)

  pub p_call : (c : _) → performs p (Calling c) k x vs s ≡ reaches p c false k x vs s
  p_call c = assoc (called p (at_most p x.fuel) (here_of x) c s) (λ _. skip) K

  -- IF and WHILE

  otherwise_flag : (ss : List Stmt) (b : Bool) (t : State Store) → after ((if b then skip else B ss) t) K ≡ after (unless_done p (flag b) (B ss) t) K
  otherwise_flag ss true t = refl
  otherwise_flag ss false t = refl

  pub p_if : (bs : List Branch) (ss : List Stmt) → after (otherwise (tries p x bs) (B ss) s) K ≡ branching p Try bs (otherwise_all p ss k) x vs s
  p_if bs ss = assoc (tries p x bs s) _ K ∙ same (tries p x bs s) (λ b t. otherwise_flag ss b t)

  pub otherwise_holds : (ss : List Stmt) (a : ℕ) (b : Bool) → holds a ≡ b → otherwise_all p ss k x (Value (Bits a) ∷ vs) s ≡ (if b then k x vs else performs_all p ss k x vs) s
  otherwise_holds ss a b h = ap (λ b. after ((if b then skip else B ss) s) K) h ∙ by b
    where
      by : (b : Bool) → after ((if b then skip else B ss) s) K ≡ (if b then k x vs else performs_all p ss k x vs) s
      by true = refl
      by false = refl

  pub b_cons : (b : Branch) (bs : List Branch) → branching p Try (b ∷ bs) k x vs s ≡ evaluates p b.condition.form (branching p Chosen (b ∷ bs) k) x vs s
  b_cons b bs = lead (λ e. after (try (test (λ _. e)) (B b.body.items) (tries p x bs) s) P) (λ t o. refl) (λ o. refl) (λ c t. refl) (V b.condition.form s)

  tried : (c : Bool) (body : List Stmt) (rest : Act Bool) → after ((if c then (B body >>= λ _. give true) else rest) s) P ≡ (if c then performs_all p body (acts p Yes k) x vs else (rest >>= P)) s
  tried true body rest = assoc (B body s) (λ _. give true) P
  tried false body rest = refl

  pub b_chosen : (b : Branch) (bs : List Branch) (a : ℕ) (c : Bool) → holds a ≡ c → branching p Chosen (b ∷ bs) k x (Value (Bits a) ∷ vs) s ≡ (if c then performs_all p b.body.items (acts p Yes k) x vs else branching p Try bs k x vs) s
  b_chosen b bs a c h = ap (λ c. after ((if c then (B b.body.items >>= λ _. give true) else tries p x bs) s) P) h ∙ tried c b.body.items (tries p x bs)

  pub again_flag : (n : ℕ) (bs : List Branch) (b : Bool) (t : State Store) → after ((if b then repeat n (tries p x bs) else give tt) t) K ≡ branching p (Again n) bs k x (Value (flag b) ∷ vs) t
  again_flag n bs true t = refl
  again_flag n bs false t = refl

  pub w_round : (n m : ℕ) (bs : List Branch) → branching p (WhileRounds (suc n)) bs k x vs (record s { turns = suc m }) ≡ branching p Try bs (branching p (Again n) bs k) x vs (record s { turns = m })
  w_round n m bs = assoc (tries p x bs (record s { turns = m })) _ K ∙ same (tries p x bs (record s { turns = m })) (λ b t. again_flag n bs b t)

  pub w_again : (n : ℕ) (bs : List Branch) (a : ℕ) (b : Bool) → holds a ≡ b → branching p (Again n) bs k x (Value (Bits a) ∷ vs) s ≡ (if b then branching p (WhileRounds n) bs k x vs else k x vs) s
  w_again n bs a b h = ap (λ b. after ((if b then repeat n (tries p x bs) else skip) s) K) h ∙ by b
    where
      by : (b : Bool) → after ((if b then repeat n (tries p x bs) else skip) s) K ≡ (if b then branching p (WhileRounds n) bs k x vs else k x vs) s
      by true = refl
      by false = refl

  -- REPEAT

  abbrev E : {m : _} → Row_of-Stmt m → Deed
  E body = effects p (at_most p x.fuel) (here_of x) x.fuel body

  pub p_repeat : (i : _) (body : Row_of-Stmt _) (y : Checked) → performs p (Repeat' i body y) k x vs s ≡ after (E body s) (λ _. staged p (Rounds x.fuel) (Repeat' i body y) k x vs)
  p_repeat i body y = assoc (E body s) _ K

  pub r_round : (n m : ℕ) (i : _) (body : Row_of-Stmt _) (y : Checked) → staged p (Rounds (suc n)) (Repeat' i body y) k x vs (record s { turns = suc m }) ≡ evaluates p y.form (staged p (Behind n) (Repeat' i body y) k) x vs (record s { turns = m })
  r_round n m i body y = lead (λ e. after (after (until_round p (E body) (test (λ _. e)) (record s { turns = m })) (λ b. if b then repeat n (until_round p (E body) (test (V y.form))) else give tt)) K) (λ t o. refl) (λ o. refl) (λ c t. refl) (V y.form (record s { turns = m }))

  pub r_behind : (n : ℕ) (i : _) (body : Row_of-Stmt _) (y : Checked) (a : ℕ) (b : Bool) → holds a ≡ b → staged p (Behind n) (Repeat' i body y) k x (Value (Bits a) ∷ vs) s ≡ (if b then k x vs else (E body >>= λ _. staged p (Rounds n) (Repeat' i body y) k x vs)) s
  r_behind n i body y a b h = ap (λ b. after (after ((if b then give false else (E body >>= λ _. give true)) s) (λ b. if b then repeat n (until_round p (E body) (test (V y.form))) else skip)) K) h ∙ by b
    where
      by : (b : Bool) → after (after ((if b then give false else (E body >>= λ _. give true)) s) (λ b. if b then repeat n (until_round p (E body) (test (V y.form))) else skip)) K ≡ (if b then k x vs else (E body >>= λ _. staged p (Rounds n) (Repeat' i body y) k x vs)) s
      by true = refl
      by false = ap (λ e. after e K) (assoc (E body s) (λ _. give true) _) ∙ assoc (E body s) _ K

  -- FOR

  pub p_for : (i j : _) (d : Designator) (y z : Checked) (step : ℤ) (body : Row_of-Stmt _) → performs p (For' i d y z step j body) k x vs s ≡ locates p d (acts p AsPlace (evaluates p y.form (acts p PutFirst (evaluates p z.form (acts p Number (staged p (Rounds x.fuel) (For' i d y z step j body) k)))))) x vs s
  p_for i j d y z step body =
      assoc (place (D d) s) _ K
      ∙ same (place (D d) s) (λ a t.
      assoc (V y.form t) _ K ∙ same (V y.form t) (λ c u.
      assoc (put a c u) _ K ∙ same (put a c u) (λ _ v.
      assoc (bits (V z.form) v) _ K ∙ assoc (V z.form v) bits_in _)))
      ∙ placed (D d) (λ h. evaluates p y.form (acts p PutFirst (evaluates p z.form (acts p Number (staged p (Rounds x.fuel) (For' i d y z step j body) k)))) x (h ∷ vs)) s

  abbrev limited_by : ℕ → Address → List Handed
  limited_by limit a = Value (Bits limit) ∷ At a ∷ vs

  pub f_round : (n m : ℕ) (i j : _) (d : Designator) (y z : Checked) (step : ℤ) (body : Row_of-Stmt _) (limit : ℕ) (a : Address) → staged p (Rounds (suc n)) (For' i d y z step j body) k x (limited_by limit a) (record s { turns = suc m }) ≡ after (for_test p a step limit (record s { turns = m })) (λ b. if b then (E body >>= λ _. staged p (Behind n) (For' i d y z step j body) k x (limited_by limit a)) else k x vs)
  f_round n m i j d y z step body limit a =
      ap (λ e. after e K) (assoc (for_test p a step limit (record s { turns = m })) _ _)
      ∙ assoc (for_test p a step limit (record s { turns = m })) _ K
      ∙ same (for_test p a step limit (record s { turns = m })) (λ b t. by b t)
    where
      by : (b : Bool) (t : State Store) → after (after ((if b then ((E body >>= λ _. for_step p a step) >>= λ _. give true) else give false) t) (λ b. if b then for_rounds p n a step limit (E body) else give tt)) K ≡ (if b then (E body >>= λ _. staged p (Behind n) (For' i d y z step j body) k x (limited_by limit a)) else k x vs) t
      by true t =
          ap (λ e. after (after e (λ b. if b then for_rounds p n a step limit (E body) else give tt)) K) (assoc (E body t) (λ _. for_step p a step) (λ _. give true))
          ∙ ap (λ e. after e K) (assoc (E body t) _ (λ b. if b then for_rounds p n a step limit (E body) else give tt))
          ∙ assoc (E body t) _ K
          ∙ same (E body t) (λ _ u. ap (λ e. after e K) (assoc (for_step p a step u) (λ _. give true) (λ b. if b then for_rounds p n a step limit (E body) else give tt)))
      by false t = refl

  pub f_behind : (n : ℕ) (i j : _) (d : Designator) (y z : Checked) (step : ℤ) (body : Row_of-Stmt _) (limit : ℕ) (a : Address) → staged p (Behind n) (For' i d y z step j body) k x (limited_by limit a) s ≡ after (for_step p a step s) (λ _. staged p (Rounds n) (For' i d y z step j body) k x (limited_by limit a))
  f_behind n i j d y z step body limit a = assoc (for_step p a step s) _ K

  -- CASE

  pub p_case : (e : Checked) (ps : List CasePart) → after (case x.procedure (V e.form) (λ v. case_parts_by p (at_most p x.fuel) (here_of x) x.fuel v ps) s) K ≡ evaluates p e.form (cases p ps k) x vs s
  p_case e ps = lead (λ e. after (case x.procedure (λ _. e) (λ v. case_parts_by p (at_most p x.fuel) (here_of x) x.fuel v ps) s) K) (λ t o. refl) (λ o. refl) (λ c t. refl) (V e.form s)

  pub p_case_pointer : (e : Checked) (ps : List TypePart) → after (type_case (pointer_type (V e.form)) (λ t. type_parts_by p (at_most p x.fuel) (here_of x) x.fuel t ps) s) K ≡ evaluates p e.form (typing p OfPointer ps k) x vs s
  p_case_pointer e ps = lead (λ e. after (type_case (pointer_type (λ _. e)) (λ t. type_parts_by p (at_most p x.fuel) (here_of x) x.fuel t ps) s) K) (λ t o. refl) (λ o. refl) (λ c t. refl) (V e.form s)

  pub p_case_parameter : (d : Designator) (ps : List TypePart) → after (type_case (parameter_type (D d)) (λ t. type_parts_by p (at_most p x.fuel) (here_of x) x.fuel t ps) s) K ≡ locates p d (typing p OfParameter ps k) x vs s
  p_case_parameter d ps = lead (λ e. after (type_case (parameter_type (λ _. e)) (λ t. type_parts_by p (at_most p x.fuel) (here_of x) x.fuel t ps) s) K) (λ t o. refl) (λ o. refl) (λ h t. refl) (D d s)

  -- a part of CASE that is chosen, and none
  pub case_chosen : (v : ℕ) (ps : List CasePart) (body : List Stmt) → case_parts_by p (at_most p x.fuel) (here_of x) x.fuel v ps s ≡ (B body >>= λ _. give true) s → cases p ps k x (Value (Bits v) ∷ vs) s ≡ performs_all p body k x vs s
  case_chosen v ps body h =
      ap (λ e. after (after e (λ ok. unless x.procedure 6 ok)) K) h
      ∙ ap (λ e. after e K) (assoc (B body s) (λ _. give true) (λ ok. unless x.procedure 6 ok))
      ∙ assoc (B body s) _ K

  pub type_chosen : (t : Option ℕ) (ps : List TypePart) (body : List Stmt) → type_parts_by p (at_most p x.fuel) (here_of x) x.fuel t ps s ≡ (B body >>= λ _. give true) s → after (after (type_parts_by p (at_most p x.fuel) (here_of x) x.fuel t ps s) (λ _. skip)) K ≡ performs_all p body k x vs s
  type_chosen t ps body h =
      ap (λ e. after (after e (λ _. skip)) K) h
      ∙ ap (λ e. after e K) (assoc (B body s) (λ _. give true) (λ _. skip))
      ∙ assoc (B body s) _ K

  -- branches of IF and of WHILE that are chosen
  pub if_chosen : (bs : List Branch) (ss body : List Stmt) → tries p x bs s ≡ (B body >>= λ _. give true) s → after (otherwise (tries p x bs) (B ss) s) K ≡ performs_all p body k x vs s
  if_chosen bs ss body h =
      ap (λ e. after (after e (λ done. if done then skip else B ss)) K) h
      ∙ ap (λ e. after e K) (assoc (B body s) (λ _. give true) (λ done. if done then skip else B ss))
      ∙ assoc (B body s) _ K

  pub round_chosen : (n : ℕ) (bs : List Branch) (body : List Stmt) → tries p x bs s ≡ (B body >>= λ _. give true) s → after (after (tries p x bs s) (λ b. if b then repeat n (tries p x bs) else give tt)) K ≡ performs_all p body (branching p (WhileRounds n) bs k) x vs s
  round_chosen n bs body h =
      ap (λ e. after (after e (λ b. if b then repeat n (tries p x bs) else give tt)) K) h
      ∙ ap (λ e. after e K) (assoc (B body s) (λ _. give true) (λ b. if b then repeat n (tries p x bs) else give tt))
      ∙ assoc (B body s) _ K
