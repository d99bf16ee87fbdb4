-- Parts of expressions that begin with another.
use Rattle.std.proofs.Common.{◌≡◌, ℕ, List, [], ◌∷◌, Option, Some, None, refl, ap, sym, ◌∙◌}
use Rattle.run_laws.specs.Turns.{State, after, give}
use Rattle.ob_types.specs.Layout.{cells, field_place, extends}
use Rattle.ob_types.specs.Store.{Cell, Store, Act, given, Handed, At, Sized, Here, address_in, span_in, place, span}
use Rattle.ob_types.specs.Expressions.{element_place, field_of, object_of, narrowed, load, all_guarded, two_operands, both, either, with_element, with_range, length_of, by_place, by_open, Calls}
use Rattle.ob_types.specs.Meaning.{value, link, select}
use Rattle.ob_types.specs.declared.tree.Link.{Link, Operate, And, Or, Element, Elements'}
use Rattle.ob_types.specs.declared.tree.Selector.{Selector, Index, Field, Dereference, Narrow}
use Rattle.ob_types.specs.declared.program.Program.{Program}
use Rattle.eval_store.proofs.Endings.{assoc, same, lead, gives}
use Rattle.eval_store.proofs.Guarding.{guard_lead}
use Rattle.eval_at_once.specs.Lists.{linked_by, selected_by}

-- Acts that begin with another

pub load_lead : {B : Type 0} (d : Act Handed) (K : Cell → Act B) (s : State Store) → after (load d s) K ≡ after (d s) (λ h t. after (load (give h) t) K)
load_lead d K s = lead (λ e. after (load (λ _. e) s) K) (λ t o. refl) (λ o. refl) (λ h t. refl) (d s)

pub length_lead : {B : Type 0} (n : Option ℕ) (d : Act Handed) (K : Cell → Act B) (s : State Store) → after (length_of d n s) K ≡ after (d s) (λ h t. after (length_of (give h) n t) K)
length_lead None d K s = lead (λ e. after (length_of (λ _. e) None s) K) (λ t o. refl) (λ o. refl) (λ h t. refl) (d s)
length_lead (Some n) d K s = lead (λ e. after (length_of (λ _. e) (Some n) s) K) (λ t o. refl) (λ o. refl) (λ h t. refl) (d s)

-- an array's address and length, and what takes them
pub spanned : {B : Type 0} (n : Option ℕ) (d : Act Handed) (J : Handed → Act B) (s : State Store) → after (span d n s) (λ a. J (Sized a.at a.length)) ≡ after (d s) (λ h t. after (by_open (give h) n t) J)
spanned None d J s = lead (λ e. after (span (λ _. e) None s) (λ a. J (Sized a.at a.length))) (λ t o. refl) (λ o. refl) (λ h t. sym (assoc (given (span_in h) t) (λ a. give (Sized a.at a.length)) J)) (d s)
spanned (Some n) d J s = lead (λ e. after (span (λ _. e) (Some n) s) (λ a. J (Sized a.at a.length))) (λ t o. refl) (λ o. refl) (λ h t. sym (assoc (span (give h) (Some n) t) (λ a. give (Sized a.at a.length)) J)) (d s)

pub placed : {B : Type 0} (d : Act Handed) (J : Handed → Act B) (s : State Store) → after (place d s) (λ a. J (At a)) ≡ after (d s) (λ h t. after (by_place (give h) t) J)
placed d J s = lead (λ e. after (place (λ _. e) s) (λ a. J (At a))) (λ t o. refl) (λ o. refl) (λ h t. sym (assoc (given (address_in h) t) (λ a. give (At a)) J)) (d s)

module _ (p : Program) (calls : Calls) (here : Here) where
  pub link_lead : (l : Link) (m : Act Cell) (s : State Store) → link p calls here l m s ≡ after (m s) (λ c. link p calls here l (give c))
  link_lead (Operate op y) m s = lead (λ e. two_operands here.procedure op (λ _. e) (value p calls here y) s) (λ t o. refl) (λ o. refl) (λ c t. refl) (m s)
  link_lead (And y) m s = lead (λ e. both (λ _. e) (value p calls here y) s) (λ t o. refl) (λ o. refl) (λ c t. refl) (m s)
  link_lead (Or y) m s = lead (λ e. either (λ _. e) (value p calls here y) s) (λ t o. refl) (λ o. refl) (λ c t. refl) (m s)
  link_lead (Element y) m s = lead (λ e. with_element here.procedure (λ _. e) (value p calls here y) s) (λ t o. refl) (λ o. refl) (λ c t. refl) (m s)
  link_lead (Elements' _ y _ z) m s = lead (λ e. with_range here.procedure (λ _. e) (value p calls here y) (value p calls here z) s) (λ t o. refl) (λ o. refl) (λ c t. refl) (m s)

  pub linked_lead : (ls : List Link) (m : Act Cell) (s : State Store) → linked_by p calls here ls m s ≡ after (m s) (λ c. linked_by p calls here ls (give c))
  linked_lead [] m s = gives (m s)
  linked_lead (l ∷ ls) m s =
      linked_lead ls (link p calls here l m) s
      ∙ ap (λ e. after e (λ c. linked_by p calls here ls (give c))) (link_lead l m s)
      ∙ assoc (m s) _ _
      ∙ same (m s) (λ c t. sym (linked_lead ls (link p calls here l (give c)) t))

  pub linked_on : {B : Type 0} (ls : List Link) (m : Act Cell) (K : Cell → Act B) (s : State Store) → after (linked_by p calls here ls m s) K ≡ after (m s) (λ c t. after (linked_by p calls here ls (give c) t) K)
  linked_on ls m K s = ap (λ e. after e K) (linked_lead ls m s) ∙ assoc (m s) _ K

  pub select_lead : (l : Selector) (m : Act Handed) (s : State Store) → select p calls here l m s ≡ after (m s) (λ c. select p calls here l (give c))
  select_lead (Index None el y) m s = lead (λ e. element_place here.procedure (λ _. e) None (cells p.types el) (value p calls here y) s) (λ t o. refl) (λ o. refl) (λ c t. refl) (m s)
  select_lead (Index (Some n) el y) m s = lead (λ e. element_place here.procedure (λ _. e) (Some n) (cells p.types el) (value p calls here y) s) (λ t o. refl) (λ o. refl) (λ c t. refl) (m s)
  select_lead (Field r field) m s = lead (λ e. field_of (λ _. e) (field_place p.types r field) s) (λ t o. refl) (λ o. refl) (λ c t. refl) (m s)
  select_lead (Dereference rs) m s =
      ap (λ e. after e (λ c. object_of here.procedure (give c))) (guard_lead here.procedure (extends p.types) (load m) rs s ∙ load_lead m (λ c. all_guarded here.procedure (extends p.types) (give c) rs) s)
      ∙ assoc (m s) _ _
      ∙ same (m s) (λ h t. ap (λ e. after e (λ c. object_of here.procedure (give c))) (sym (guard_lead here.procedure (extends p.types) (load (give h)) rs t)))
  select_lead (Narrow r) m s = lead (λ e. narrowed here.procedure (extends p.types) (λ _. e) r s) (λ t o. refl) (λ o. refl) (λ c t. refl) (m s)

  pub selected_lead : (ls : List Selector) (m : Act Handed) (s : State Store) → selected_by p calls here ls m s ≡ after (m s) (λ c. selected_by p calls here ls (give c))
  selected_lead [] m s = gives (m s)
  selected_lead (l ∷ ls) m s =
      selected_lead ls (select p calls here l m) s
      ∙ ap (λ e. after e (λ c. selected_by p calls here ls (give c))) (select_lead l m s)
      ∙ assoc (m s) _ _
      ∙ same (m s) (λ c t. sym (selected_lead ls (select p calls here l (give c)) t))

  pub selected_on : {B : Type 0} (ls : List Selector) (m : Act Handed) (K : Handed → Act B) (s : State Store) → after (selected_by p calls here ls m s) K ≡ after (m s) (λ c t. after (selected_by p calls here ls (give c) t) K)
  selected_on ls m K s = ap (λ e. after e K) (selected_lead ls m s) ∙ assoc (m s) _ K
