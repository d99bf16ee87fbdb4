-- Each part of an expression is what its tasks are.
use Rattle.std.proofs.Common.{◌≡◌, ℕ, List, [], ◌∷◌, Bool, true, false, Option, Some, None, refl, ap, sym, ◌∙◌}
use Rattle.std.specs.Prelude.{if◌then◌else◌}
use Rattle.run_laws.specs.Turns.{State, Fails, after, ◌>>=◌, give}
use Rattle.ob_types.specs.Layout.{cells, field_place, extends}
use Rattle.ob_types.specs.Store.{Cell, Bits, Pointer, Code, Store, Senseless, Act, given, Handed, At, Sized, Value, Here, past, unless, bits_in, bits, address_in, span_in, tag_in, place, span}
use Rattle.ob_types.specs.Operators.{holds, inside}
use Rattle.ob_types.specs.Expressions.{Extension, element_place, field_of, object_of, narrowed, load, guarded, all_guarded, one_operand, two_operands, both, either, compared, contained, with_element, with_range, pointer_type, parameter_type, type_test, as_byte, length_of, by_place, by_open, Calls}
use Rattle.ob_types.specs.Statements.{Deed}
use Rattle.ob_types.specs.Meaning.{base_of, value, link, designated, select, kind_in, length_of_kind, at_most}
use Rattle.ob_types.specs.declared.tree.Unary.{Unary}
use Rattle.ob_types.specs.declared.tree.Binary.{Binary}
use Rattle.ob_types.specs.declared.tree.Relation.{Relation}
use Rattle.ob_types.specs.declared.tree.Expr.{Expr, Load, Guard', Unary', Compare', CompareTexts', In', IsPointer', IsParameter, Byte', Length, Call'}
use Rattle.ob_types.specs.declared.tree.Link.{Link, Operate, And, Or, Element, Elements'}
use Rattle.ob_types.specs.declared.tree.Base.{Base}
use Rattle.ob_types.specs.declared.tree.Designator.{Designator}
use Rattle.ob_types.specs.declared.tree.Selector.{Selector, Index, Field, Dereference, Narrow}
use Rattle.ob_types.specs.declared.program.Program.{Program}
use Rattle.eval_at_once.specs.Lists.{linked_by, selected_by}
use Rattle.eval_at_once.specs.declared.active.Active.{Active}
use Rattle.eval_tasks.specs.declared.task.Act.TheVariants.{Fetch, OneOperand, Element as AsElement, TwoOperands, Compared, TextsCompared, Contained, WithElement, WithRange, PointerIs, ParameterIs, AsByte, LengthOf, AsSpan, ElementOf}
use Rattle.eval_at_once.specs.Here.{here_of}
use Rattle.eval_tasks.specs.Tasks.{Next, pushes, hands, evaluates, follows, locates, selects, guards, reaches, acts}
use Rattle.eval_store.proofs.Endings.{assoc, same, lead}
use Rattle.eval_store.proofs.Guarding.{guard_lead}
use Rattle.eval_at_once.proofs.Leads.{load_lead, length_lead, spanned, linked_on, selected_on}

-- Expressions

module _ (p : Program) (k : Next) (x : Active) (vs : List Handed) (s : State Store) where
  abbrev V : Expr → Act Cell
  V e = value p (at_most p x.fuel) (here_of x) e

  abbrev D : Designator → Act Handed
  D d = designated p (at_most p x.fuel) (here_of x) d

  abbrev P : Cell → Deed
  P = pushes k x vs

  pub e_load : (d : Designator) → evaluates p (Load d) k x vs s ≡ locates p d (acts p Fetch k) x vs s
  e_load d = load_lead (D d) P s

  pub e_guard : (b : _) (d : Designator) (rs : List ℕ) → evaluates p (Guard' b d rs) k x vs s ≡ locates p d (acts p Fetch (guards p rs k)) x vs s
  e_guard b d rs =
      ap (λ e. after e P) (guard_lead x.procedure (extends p.types) (load (D d)) rs s)
      ∙ assoc (load (D d) s) _ P
      ∙ load_lead (D d) _ s

  pub e_unary : (op : Unary) (b : _) (e : Expr) → evaluates p (Unary' op b e) k x vs s ≡ evaluates p e (acts p (OneOperand op) k) x vs s
  e_unary op b e = lead (λ e. after (one_operand op (λ _. e) s) P) (λ t o. refl) (λ o. refl) (λ c t. refl) (V e s)

  pub e_compare : (r : Relation) (a b : _) (e f : Expr) → evaluates p (Compare' r a e b f) k x vs s ≡ evaluates p e (evaluates p f (acts p (Compared r) k)) x vs s
  e_compare r a b e f = lead (λ e. after (compared r (λ _. e) (V f) s) P) (λ t o. refl) (λ o. refl) (λ c t. lead (λ e. after (compared r (give c) (λ _. e) t) P) (λ t o. refl) (λ o. refl) (λ d u. refl) (V f t)) (V e s)

  pub e_in : (a b : _) (e f : Expr) → evaluates p (In' a e b f) k x vs s ≡ evaluates p e (acts p AsElement (evaluates p f (acts p Contained k))) x vs s
  e_in a b e f = lead (λ e. after (contained x.procedure (λ _. e) (V f) s) P) (λ t o. refl) (λ o. refl) (λ c t.
      assoc (bits_in c t) _ P ∙ same (bits_in c t) (λ n u.
      assoc (unless x.procedure 7 (inside n 64) u) _ P ∙ same (unless x.procedure 7 (inside n 64) u) (λ _ v.
      assoc (bits (V f) v) _ P ∙ assoc (V f v) _ _))) (V e s)

  pub e_is_pointer : (b : _) (e : Expr) (r : ℕ) → evaluates p (IsPointer' b e r) k x vs s ≡ evaluates p e (acts p (PointerIs r) k) x vs s
  e_is_pointer b e r = lead (λ e. after (type_test (extends p.types) (pointer_type (λ _. e)) r s) P) (λ t o. refl) (λ o. refl) (λ c t. refl) (V e s)

  pub e_is_parameter : (d : Designator) (r : ℕ) → evaluates p (IsParameter d r) k x vs s ≡ locates p d (acts p (ParameterIs r) k) x vs s
  e_is_parameter d r = lead (λ e. after (type_test (extends p.types) (parameter_type (λ _. e)) r s) P) (λ t o. refl) (λ o. refl) (λ c t. refl) (D d s)

  pub e_byte : (b : _) (e : Expr) → evaluates p (Byte' b e) k x vs s ≡ evaluates p e (acts p AsByte k) x vs s
  e_byte b e = lead (λ e. after (as_byte x.procedure (λ _. e) s) P) (λ t o. refl) (λ o. refl) (λ c t. refl) (V e s)

  pub e_length : (d : Designator) → evaluates p (Length d) k x vs s ≡ locates p d (acts p (LengthOf (length_of_kind (kind_in d))) k) x vs s
  e_length d = length_lead (length_of_kind (kind_in d)) (D d) P s

  pub e_call : (b : _) (c : _) → evaluates p (Call' b c) k x vs s ≡ reaches p c true k x vs s
  e_call b c = assoc _ given P

  pub e_texts : (r : Relation) (a b : _) (d e : Designator) → evaluates p (CompareTexts' r a d b e) k x vs s ≡ locates p d (acts p (AsSpan (length_of_kind (kind_in d))) (locates p e (acts p (AsSpan (length_of_kind (kind_in e))) (acts p (TextsCompared r) k)))) x vs s
  e_texts r a b d e =
      assoc (span (D d) (length_of_kind (kind_in d)) s) _ P
      ∙ same (span (D d) (length_of_kind (kind_in d)) s) (λ v t.
      assoc (span (D e) (length_of_kind (kind_in e)) t) _ P
      ∙ spanned (length_of_kind (kind_in e)) (D e) (λ h. acts p (TextsCompared r) k x (h ∷ Sized v.at v.length ∷ vs)) t)
      ∙ spanned (length_of_kind (kind_in d)) (D d) (λ h. locates p e (acts p (AsSpan (length_of_kind (kind_in e))) (acts p (TextsCompared r) k)) x (h ∷ vs)) s

  -- links

  abbrev L : List Link → Act Cell → Act Cell
  L ls m = linked_by p (at_most p x.fuel) (here_of x) ls m

  abbrev Q : List Link → Cell → Deed
  Q ls c t = after (L ls (give c) t) P

  abbrev W : List Link → Cell → Deed
  W ls c = follows p ls k x (Value c ∷ vs)

  pub f_operate : (op : Binary) (y : Expr) (ls : List Link) (a : ℕ) → W (Operate op y ∷ ls) (Bits a) s ≡ evaluates p y (acts p (TwoOperands op) (follows p ls k)) x (Value (Bits a) ∷ vs) s
  f_operate op y ls a =
      linked_on p (at_most p x.fuel) (here_of x) ls (two_operands x.procedure op (give (Bits a)) (V y)) P s
      ∙ lead (λ e. after (two_operands x.procedure op (give (Bits a)) (λ _. e) s) (Q ls)) (λ t o. refl) (λ o. refl) (λ c t. refl) (V y s)

  pub f_and : (y : Expr) (ls : List Link) (a : ℕ) (b : Bool) → holds a ≡ b → W (And y ∷ ls) (Bits a) s ≡ (if b then evaluates p y (follows p ls k) x vs else W ls (Bits 0)) s
  f_and y ls a b h =
      linked_on p (at_most p x.fuel) (here_of x) ls (both (give (Bits a)) (V y)) P s
      ∙ ap (λ b. after ((if b then V y else give (Bits 0)) s) (Q ls)) h
      ∙ by b
    where
      by : (b : Bool) → after ((if b then V y else give (Bits 0)) s) (Q ls) ≡ (if b then evaluates p y (follows p ls k) x vs else W ls (Bits 0)) s
      by true = refl
      by false = refl

  pub f_or : (y : Expr) (ls : List Link) (a : ℕ) (b : Bool) → holds a ≡ b → W (Or y ∷ ls) (Bits a) s ≡ (if b then W ls (Bits 1) else evaluates p y (follows p ls k) x vs) s
  f_or y ls a b h =
      linked_on p (at_most p x.fuel) (here_of x) ls (either (give (Bits a)) (V y)) P s
      ∙ ap (λ b. after ((if b then give (Bits 1) else V y) s) (Q ls)) h
      ∙ by b
    where
      by : (b : Bool) → after ((if b then give (Bits 1) else V y) s) (Q ls) ≡ (if b then W ls (Bits 1) else evaluates p y (follows p ls k) x vs) s
      by true = refl
      by false = refl

  pub f_element : (y : Expr) (ls : List Link) (a : ℕ) → W (Element y ∷ ls) (Bits a) s ≡ evaluates p y (acts p WithElement (follows p ls k)) x (Value (Bits a) ∷ vs) s
  f_element y ls a =
      linked_on p (at_most p x.fuel) (here_of x) ls (with_element x.procedure (give (Bits a)) (V y)) P s
      ∙ lead (λ e. after (with_element x.procedure (give (Bits a)) (λ _. e) s) (Q ls)) (λ t o. refl) (λ o. refl) (λ c t. refl) (V y s)

  pub f_elements : (i j : _) (y z : Expr) (ls : List Link) (a : ℕ) → W (Elements' i y j z ∷ ls) (Bits a) s ≡ evaluates p y (acts p AsElement (evaluates p z (acts p WithRange (follows p ls k)))) x (Value (Bits a) ∷ vs) s
  f_elements i j y z ls a =
      linked_on p (at_most p x.fuel) (here_of x) ls (with_range x.procedure (give (Bits a)) (V y) (V z)) P s
      ∙ lead (λ e. after (with_range x.procedure (give (Bits a)) (λ _. e) (V z) s) (Q ls)) (λ t o. refl) (λ o. refl) (λ c t.
      assoc (bits_in c t) _ (Q ls) ∙ same (bits_in c t) (λ n u.
      assoc (unless x.procedure 7 (inside n 64) u) _ (Q ls) ∙ same (unless x.procedure 7 (inside n 64) u) (λ _ v.
      assoc (bits (V z) v) _ (Q ls) ∙ assoc (V z v) _ _ ∙ same (V z v) (λ d w. same (bits_in d w) (λ m q. assoc (unless x.procedure 7 (inside m 64) q) _ (Q ls)))))) (V y s)

  -- a value that is no number makes no sense
  pub f_senseless : (l : Link) (ls : List Link) (c : Cell) → ((n : ℕ) → c ≡ Bits n → ⊥) → W (l ∷ ls) c s ≡ Fails Senseless s.out
  f_senseless l ls (Bits n) none = absurd (none n refl)
  f_senseless l ls (Pointer o) none = linked_on p (at_most p x.fuel) (here_of x) ls (link p (at_most p x.fuel) (here_of x) l (give (Pointer o))) P s ∙ by l
    where
      by : (l : Link) → after (link p (at_most p x.fuel) (here_of x) l (give (Pointer o)) s) (Q ls) ≡ Fails Senseless s.out
      by (Operate op y) = refl
      by (And y) = refl
      by (Or y) = refl
      by (Element y) = refl
      by (Elements' _ y _ z) = refl
  f_senseless l ls (Code f) none = linked_on p (at_most p x.fuel) (here_of x) ls (link p (at_most p x.fuel) (here_of x) l (give (Code f))) P s ∙ by l
    where
      by : (l : Link) → after (link p (at_most p x.fuel) (here_of x) l (give (Code f)) s) (Q ls) ≡ Fails Senseless s.out
      by (Operate op y) = refl
      by (And y) = refl
      by (Or y) = refl
      by (Element y) = refl
      by (Elements' _ y _ z) = refl

  -- selectors

  abbrev G : List Selector → Handed → Deed
  G ss h t = after (selected_by p (at_most p x.fuel) (here_of x) ss (give h) t) (hands k x vs)

  pub s_index : (n : Option ℕ) (el : ℕ) (y : Expr) (ss : List Selector) (h : Handed) → selects p (Index n el y ∷ ss) k x (h ∷ vs) s ≡ acts p (AsSpan n) (evaluates p y (acts p (ElementOf (cells p.types el)) (selects p ss k))) x (h ∷ vs) s
  s_index n el y ss h =
      selected_on p (at_most p x.fuel) (here_of x) ss (element_place x.procedure (give h) n (cells p.types el) (V y)) (hands k x vs) s
      ∙ assoc (span (give h) n s) _ (G ss)
      ∙ same (span (give h) n s) (λ a t. lead (λ e. after (element_place x.procedure (give (Sized a.at a.length)) None (cells p.types el) (λ _. e) t) (G ss)) (λ t o. refl) (λ o. refl) (λ c t. refl) (V y t))
      ∙ sym (assoc (span (give h) n s) (λ a. give (Sized a.at a.length)) _)

  -- the first selector at once
  pub s_first : (l : Selector) (ls : List Selector) (h : Handed) → selects p (l ∷ ls) k x (h ∷ vs) s ≡ after (select p (at_most p x.fuel) (here_of x) l (give h) s) (λ g. selects p ls k x (g ∷ vs))
  s_first l ls h = selected_on p (at_most p x.fuel) (here_of x) ls (select p (at_most p x.fuel) (here_of x) l (give h)) (hands k x vs) s

  -- a designator with selectors
  pub d_part : (ls : List Selector) (b : Base) → after (selected_by p (at_most p x.fuel) (here_of x) ls (base_of p (at_most p x.fuel) (here_of x) b) s) (hands k x vs) ≡ after (base_of p (at_most p x.fuel) (here_of x) b s) (λ h. selects p ls k x (h ∷ vs))
  d_part ls b = selected_on p (at_most p x.fuel) (here_of x) ls (base_of p (at_most p x.fuel) (here_of x) b) (hands k x vs) s
