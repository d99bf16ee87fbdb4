-- Each call is what its tasks are.
use Rattle.std.proofs.Common.{◌≡◌, ℕ, suc, ◌+◌, List, [], ◌∷◌, ◌++◌, length, Bool, true, false, Option, Some, None, refl, ap, sym, ◌∙◌}
use Rattle.std.specs.Prelude.{take, drop, reverse, replicate, nat_lt, nat_le}
use Rattle.run_laws.specs.Turns.{State, Gives, after, ◌>>=◌, give, look, spend}
use Rattle.ob_types.specs.Layout.{cells_of_all}
use Rattle.ob_types.specs.Store.{Cell, Bits, Store, Act, given, Handed, Value, Here, code_in, unless, spend_all}
use Rattle.ob_types.specs.Expressions.{load, by_value, by_place, by_record, by_open, cons, Calls, called_by_number, called_by_value}
use Rattle.ob_types.specs.Meaning.{value, designated, argument, kind_in, length_of_kind, record_of_kind, effects_of, procedure_of, answer, received, zeroed, cells_in, within, at_most}
use Rattle.ob_types.specs.declared.tree.Expr.{Expr}
use Rattle.ob_types.specs.declared.tree.Designator.{Designator}
use Rattle.ob_types.specs.declared.tree.Argument.{Argument, ByValue, ByPlace, ByRecord, ByOpen}
use Rattle.ob_types.specs.declared.statements.Stmt.{Stmt}
use Rattle.ob_types.specs.declared.statements.Checked.{Checked}
use Rattle.ob_types.specs.declared.program.Program.{Program}
use Rattle.eval_at_once.specs.Lists.{arguments_by}
use Rattle.eval_at_once.specs.declared.active.Active.{Active}
use Rattle.eval_tasks.specs.declared.task.Act.TheVariants.{Fetch, AsSpan, AsPlace, AsRecord, Drop, Nothing, Invoke, InvokeValue}
use Rattle.eval_at_once.specs.Here.{here_of}
use Rattle.eval_tasks.specs.Tasks.{Next, hands, results, popped, popped_frame, evaluates, locates, gathers, performs_all, acts, returns}
use Rattle.eval_store.proofs.Endings.{assoc, same, lead}
use Rattle.eval_at_once.proofs.Leads.{load_lead}

-- arguments: as many as there are, and what takes them
pub gathered : {B : Type 0} (p : Program) (calls : Calls) (here : Here) (xs : List Argument) (F G : List Handed → Act B) (s : State Store) → ((hs : List Handed) (t : State Store) → length hs ≡ length xs → F hs t ≡ G hs t) → after (arguments_by p calls here xs s) F ≡ after (arguments_by p calls here xs s) G
gathered p calls here [] F G s h = h [] s refl
gathered p calls here (a ∷ xs) F G s h =
    assoc (argument p calls here a s) _ F
    ∙ same (argument p calls here a s) (λ v t.
    assoc (arguments_by p calls here xs t) _ F
    ∙ gathered p calls here xs (λ hs. F (v ∷ hs)) (λ hs. G (v ∷ hs)) t (λ hs u e. h (v ∷ hs) u (ap suc e))
    ∙ sym (assoc (arguments_by p calls here xs t) _ G))
    ∙ sym (assoc (argument p calls here a s) _ G)

module _ (p : Program) (k : Next) (x : Active) (vs : List Handed) (s : State Store) where
  abbrev A : List Argument → Act (List Handed)
  A xs = arguments_by p (at_most p x.fuel) (here_of x) xs

  abbrev D : Designator → Act Handed
  D d = designated p (at_most p x.fuel) (here_of x) d

  -- the arguments stand on the stack, the last first
  module _ (turned : (hs : List Handed) (h : Handed) (vs : List Handed) → reverse (h ∷ hs) ++ vs ≡ reverse hs ++ h ∷ vs) where
    next : (xs : List Argument) (h : Handed) (t : State Store) → after (after (A xs t) (λ hs. give (h ∷ hs))) (λ hs. k x (reverse hs ++ vs)) ≡ gathers p xs k x (h ∷ vs) t
    next xs h t = assoc (A xs t) (λ hs. give (h ∷ hs)) (λ hs. k x (reverse hs ++ vs)) ∙ same (A xs t) (λ hs u. ap (λ l. k x l u) (turned hs h vs))

    first : (m : Act Handed) (xs : List Argument) → after (cons m (A xs) s) (λ hs. k x (reverse hs ++ vs)) ≡ after (m s) (hands (gathers p xs k) x vs)
    first m xs = assoc (m s) _ _ ∙ same (m s) (λ h t. next xs h t)

    pub g_value : (e : Expr) (xs : List Argument) → gathers p (ByValue e ∷ xs) k x vs s ≡ evaluates p e (gathers p xs k) x vs s
    g_value e xs = first (by_value (value p (at_most p x.fuel) (here_of x) e)) xs ∙ assoc (value p (at_most p x.fuel) (here_of x) e s) _ _

    pub g_place : (d : Designator) (xs : List Argument) → gathers p (ByPlace d ∷ xs) k x vs s ≡ locates p d (acts p AsPlace (gathers p xs k)) x vs s
    g_place d xs = first (by_place (D d)) xs ∙ lead (λ e. after (by_place (λ _. e) s) (hands (gathers p xs k) x vs)) (λ t o. refl) (λ o. refl) (λ h t. refl) (D d s)

    pub g_record : (d : Designator) (xs : List Argument) → gathers p (ByRecord d ∷ xs) k x vs s ≡ locates p d (acts p (AsRecord (record_of_kind (kind_in d))) (gathers p xs k)) x vs s
    g_record d xs = first (by_record (D d) (record_of_kind (kind_in d))) xs ∙ lead (λ e. after (by_record (λ _. e) (record_of_kind (kind_in d)) s) (hands (gathers p xs k) x vs)) (λ t o. refl) (λ o. refl) (λ h t. refl) (D d s)

    pub g_open : (d : Designator) (xs : List Argument) → gathers p (ByOpen d ∷ xs) k x vs s ≡ locates p d (acts p (AsSpan (length_of_kind (kind_in d))) (gathers p xs k)) x vs s
    g_open d xs = first (by_open (D d) (length_of_kind (kind_in d))) xs ∙ by (length_of_kind (kind_in d))
      where
        by : (n : Option ℕ) → after (by_open (D d) n s) (hands (gathers p xs k) x vs) ≡ locates p d (acts p (AsSpan n) (gathers p xs k)) x vs s
        by None = lead (λ e. after (by_open (λ _. e) None s) (hands (gathers p xs k) x vs)) (λ t o. refl) (λ o. refl) (λ h t. refl) (D d s)
        by (Some n) = lead (λ e. after (by_open (λ _. e) (Some n) s) (hands (gathers p xs k) x vs)) (λ t o. refl) (λ o. refl) (λ h t. refl) (D d s)

  -- as many values as arguments are taken
  module _ (back : (hs vs : List Handed) → reverse (take (length hs) (reverse hs ++ vs)) ≡ hs) (left : (hs vs : List Handed) → drop (length hs) (reverse hs ++ vs) ≡ vs) where
    invoked_at : (g : ℕ) (wanted : Bool) (n : ℕ) (hs : List Handed) (t : State Store) → length hs ≡ n → after (at_most p x.fuel g hs t) (results wanted k x vs) ≡ acts p (Invoke g n wanted) k x (reverse hs ++ vs) t
    invoked_at g wanted n hs t e =
        ap (λ l. after (at_most p x.fuel g l t) (results wanted k x vs)) (sym (back hs vs))
        ∙ ap (λ l. after (at_most p x.fuel g (reverse (take (length hs) (reverse hs ++ vs))) t) (results wanted k x l)) (sym (left hs vs))
        ∙ ap (λ n. acts p (Invoke g n wanted) k x (reverse hs ++ vs) t) e

    pub c_direct : (g : ℕ) (wanted : Bool) (xs : List Argument) → after (called_by_number (at_most p x.fuel) g (A xs) s) (results wanted k x vs) ≡ gathers p xs (acts p (Invoke g (length xs) wanted) k) x vs s
    c_direct g wanted xs =
        assoc (A xs s) _ (results wanted k x vs)
        ∙ gathered p (at_most p x.fuel) (here_of x) xs _ _ s (λ hs t e. invoked_at g wanted (length xs) hs t e)

    value_at : (wanted : Bool) (n : ℕ) (c : Cell) (hs : List Handed) (t : State Store) → length hs ≡ n → after (after (code_in x.procedure c t) (λ g. at_most p x.fuel g hs)) (results wanted k x vs) ≡ acts p (InvokeValue n wanted) k x (reverse hs ++ Value c ∷ vs) t
    value_at wanted n c hs t e =
        assoc (code_in x.procedure c t) _ (results wanted k x vs)
        ∙ ap (λ l. after (code_in x.procedure c t) (λ g u. after (at_most p x.fuel g l u) (results wanted k x vs))) (sym (back hs (Value c ∷ vs)))
        ∙ ap (λ l. popped l (λ d rest. code_in x.procedure d >>= λ g. at_most p x.fuel g (reverse (take (length hs) (reverse hs ++ Value c ∷ vs))) >>= results wanted k x rest) t) (sym (left hs (Value c ∷ vs)))
        ∙ ap (λ n. acts p (InvokeValue n wanted) k x (reverse hs ++ Value c ∷ vs) t) e

    pub c_indirect : (d : Designator) (wanted : Bool) (xs : List Argument) → after (called_by_value x.procedure (at_most p x.fuel) (load (D d)) (A xs) s) (results wanted k x vs) ≡ locates p d (acts p Fetch (gathers p xs (acts p (InvokeValue (length xs) wanted) k))) x vs s
    c_indirect d wanted xs =
        assoc (load (D d) s) _ (results wanted k x vs)
        ∙ same (load (D d) s) (λ c t.
        assoc (A xs t) _ (results wanted k x vs)
        ∙ gathered p (at_most p x.fuel) (here_of x) xs _ _ t (λ hs u e. value_at wanted (length xs) c hs u e))
        ∙ load_lead (D d) (λ c. gathers p xs (acts p (InvokeValue (length xs) wanted) k) x (Value c ∷ vs)) s

  -- a call's body, its result and its return, from the moment when its object is there

  abbrev begun : (n g : ℕ) (hs : List Handed) → Active
  begun n g hs = record { fuel = n; procedure = g; frame = length s.store.frames; arguments = hs }

  abbrev entered : List Cell → State Store
  entered cells = record s { store = record s.store { frames = s.store.frames ++ cells ∷ [] } }

  -- what is left behind a body
  abbrev answers : Option Checked → Bool → Next
  answers (Some e) true = evaluates p e.form (returns p x true k)
  answers (Some e) false = evaluates p e.form (acts p Drop (returns p x false k))
  answers None true = returns p x false (acts p Nothing k)
  answers None false = returns p x false k

  abbrev body_of : (n g : ℕ) (hs : List Handed) → List Stmt → Option Checked → ℕ → Act (Option Cell)
  body_of n g hs body e frame =
      let here : Here = record { procedure = g; frame = frame; arguments = hs } in do
        _ ← effects_of p (at_most p n) here n body
        c ← answer p (at_most p n) here e
        _ ← spend
        give c

  abbrev Pop : Option Cell → Act (Option Cell)
  Pop a t = Gives a (record t { store = record t.store { frames = take (length s.store.frames) t.store.frames } })

  returned : (wanted : Bool) (c : Option Cell) (t : State Store) → after (after (after (spend t) (λ _. give c)) Pop) (results wanted k x vs) ≡ after (spend t) (λ _. popped_frame (length s.store.frames) >>= λ _. results wanted k x vs c)
  returned wanted c t = ap (λ e. after e (results wanted k x vs)) (assoc (spend t) (λ _. give c) Pop) ∙ assoc (spend t) _ (results wanted k x vs)

  answered : (n g : ℕ) (hs : List Handed) (e : Option Checked) (wanted : Bool) (t : State Store) → after (after (after (answer p (at_most p n) (here_of (begun n g hs)) e t) (λ c. spend >>= λ _. give c)) Pop) (results wanted k x vs) ≡ answers e wanted (begun n g hs) vs t
  answered n g hs None true t = returned true None t
  answered n g hs None false t = returned false None t
  answered n g hs (Some e) true t =
      lead (λ v. after (after (after (after v (λ c. give (Some c))) (λ c. spend >>= λ _. give c)) Pop) (results true k x vs)) (λ t o. refl) (λ o. refl) (λ c u. returned true (Some c) u) (value p (at_most p n) (here_of (begun n g hs)) e.form t)
  answered n g hs (Some e) false t =
      lead (λ v. after (after (after (after v (λ c. give (Some c))) (λ c. spend >>= λ _. give c)) Pop) (results false k x vs)) (λ t o. refl) (λ o. refl) (λ c u. returned false (Some c) u) (value p (at_most p n) (here_of (begun n g hs)) e.form t)

  pub i_body : (n g : ℕ) (hs : List Handed) (cells : List Cell) (body : List Stmt) (e : Option Checked) (wanted : Bool) → after (within cells (body_of n g hs body e) s) (results wanted k x vs) ≡ performs_all p body (answers e wanted) (begun n g hs) vs (entered cells)
  i_body n g hs cells body e wanted =
      ap (λ v. after v (results wanted k x vs)) (assoc (effects_of p (at_most p n) (here_of (begun n g hs)) n body (entered cells)) _ Pop)
      ∙ assoc (effects_of p (at_most p n) (here_of (begun n g hs)) n body (entered cells)) _ (results wanted k x vs)
      ∙ same (effects_of p (at_most p n) (here_of (begun n g hs)) n body (entered cells)) (λ _ t. answered n g hs e wanted t)

  -- a call begins: its turn, traps 8 and 9, its zeros
  pub i_call : (n m g : ℕ) (hs : List Handed) (cells : List Cell) (wanted : Bool) → received (procedure_of p g).formals hs ≡ Some cells →
      after (at_most p (suc n) g hs (record s { turns = suc m })) (results wanted k x vs) ≡
      (unless g 8 (nat_lt (length s.store.frames) 8192) >>= λ _.
      unless g 9 (nat_le (cells_in s.store.frames + (length cells + cells_of_all p.types (procedure_of p g).locals)) 1048576) >>= λ _.
      spend_all (zeroed p (procedure_of p g)) >>= λ _.
      within (cells ++ replicate (cells_of_all p.types (procedure_of p g).locals) (Bits 0)) (body_of n g hs (procedure_of p g).body (procedure_of p g).answer) >>= results wanted k x vs) (record s { turns = m })
  i_call n m g hs cells wanted is =
      ap (λ o. after ((given o >>= λ values. look (λ s. s.frames) >>= λ frames. unless g 8 (nat_lt (length frames) 8192) >>= λ _. unless g 9 (nat_le (cells_in frames + (length values + cells_of_all p.types (procedure_of p g).locals)) 1048576) >>= λ _. spend_all (zeroed p (procedure_of p g)) >>= λ _. within (values ++ replicate (cells_of_all p.types (procedure_of p g).locals) (Bits 0)) (body_of n g hs (procedure_of p g).body (procedure_of p g).answer)) (record s { turns = m })) (results wanted k x vs)) is
      ∙ assoc (unless g 8 (nat_lt (length s.store.frames) 8192) (record s { turns = m })) _ (results wanted k x vs)
      ∙ same (unless g 8 (nat_lt (length s.store.frames) 8192) (record s { turns = m })) (λ _ t.
      assoc (unless g 9 (nat_le (cells_in s.store.frames + (length cells + cells_of_all p.types (procedure_of p g).locals)) 1048576) t) _ (results wanted k x vs)
      ∙ same (unless g 9 (nat_le (cells_in s.store.frames + (length cells + cells_of_all p.types (procedure_of p g).locals)) 1048576) t) (λ _ u.
      assoc (spend_all (zeroed p (procedure_of p g)) u) _ (results wanted k x vs)))
