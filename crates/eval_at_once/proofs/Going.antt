-- What goes on behind the first part of a list, and what stops there.
use Rattle.std.proofs.Common.{◌≡◌, ℕ, suc, ◌+◌, ◌<◌, ◌≤◌, List, [], ◌∷◌, length, get_or, drop, Bool, true, Option, Some, None, Vec, Box, Global, refl, sym, ap, ◌∙◌, arith}
use Rattle.std.proofs.Math.Seq.{drop-cons}
use Rattle.std.proofs.lemmas.Grind.{common_steps}
use Rattle.std.specs.Prelude.{if◌then◌else◌}
use Rattle.run_laws.specs.Turns.{State, Ending, Gives, Fails, after, ◌>>=◌, give}
use Rattle.ob_types.specs.Store.{Cell, Bits, Pointer, Code, Store, Trap, Senseless, Act, Handed, Here, given, address_in, fetch, place}
use Rattle.ob_types.specs.Expressions.{Calls, Extension, load, all_guarded, object_of}
use Rattle.ob_types.specs.Statements.{test}
use Rattle.ob_types.specs.Meaning.{base_of, value, link, designated, select, effect, effects_of}
use Rattle.ob_types.specs.declared.tree.Expr.{Expr, Chain}
use Rattle.ob_types.specs.declared.tree.Designator.{Part}
use Rattle.ob_types.specs.declared.tree.Access.{Access}
use Rattle.ob_types.specs.declared.tree.Link.{Link, Operate, And, Or, Element, Elements'}
use Rattle.ob_types.specs.declared.tree.Selector.{Selector}
use Rattle.ob_types.specs.declared.statements.Stmt.{Stmt}
use Rattle.ob_types.specs.declared.statements.Branch.{Branch}
use Rattle.ob_types.specs.declared.program.Program.{Program}
use Rattle.eval_store.specs.Cells.{number_of}
use Rattle.eval_store.specs.Did.{Stopped}
use Rattle.eval_store.specs.declared.stop.Stop.{Stop}
use Rattle.eval_store.specs.declared.stop.Stop.TheVariants.{Trapped, TurnsSpent, NoSense, NoMemory}
use Rattle.eval_store.proofs.Guarding.{guard_lead}
use Rattle.eval_at_once.specs.Lists.{linked_by, selected_by, branches_by}
use Rattle.eval_at_once.proofs.Leads.{linked_lead, selected_lead}
use Rattle.eval_at_once.proofs.Rows.{value_chain, designated_part}

-- an item of a list, and those behind it
pub at_item : {A : Type 0} (xs : List A) (i : ℕ) (x : A) → i < length xs → x ≡ get_or xs i x → drop i xs ≡ x ∷ drop (i + 1) xs
at_item {A = A} xs i x l is =
    let n : suc i ≡ i + 1 = omega arith in
    let G : A → List A = λ y. y ∷ drop (suc i) xs in
    let H : ℕ → List A = λ k. x ∷ drop k xs in
    drop-cons xs i x l ∙ ap G (sym is) ∙ ap H n

pub no_item : {A : Type 0} (xs : List A) (i : ℕ) → length xs ≤ i → drop i xs ≡ []
no_item xs i h = grind (arith, common_steps)

-- what stops a first part stops the whole
pub stops_first : {A B : Type 0} (e : Ending Store Trap A) (f : A → State Store → Ending Store Trap B) (whole : Ending Store Trap B) (stop : Stop) (out : List ℕ) → whole ≡ after e f → Stopped e stop out → Stopped whole stop out
stops_first e f whole (Trapped kind g) out is h = is ∙ ap (λ e. after e f) h
stops_first e f whole TurnsSpent out is h = is ∙ ap (λ e. after e f) h
stops_first e f whole NoSense out is h = is ∙ ap (λ e. after e f) h
stops_first e f whole NoMemory out is h = tt

module _ (p : Program) (calls : Calls) (here : Here) where
  linked_first : (l : Link) (ls : List Link) (c : Cell) (s : State Store) → linked_by p calls here (l ∷ ls) (give c) s ≡ after (link p calls here l (give c) s) (λ d. linked_by p calls here ls (give d))
  linked_first l ls c s = linked_lead p calls here ls (link p calls here l (give c)) s

  pub linked_more : (l : Link) (ls : List Link) (c d : Cell) (s : State Store) → link p calls here l (give c) s ≡ Gives d s → linked_by p calls here (l ∷ ls) (give c) s ≡ linked_by p calls here ls (give d) s
  linked_more l ls c d s h = linked_first l ls c s ∙ ap (λ e. after e (λ d. linked_by p calls here ls (give d))) h

  pub linked_stops : (l : Link) (ls : List Link) (c : Cell) (s : State Store) (stop : Stop) (out : List ℕ) → Stopped (link p calls here l (give c) s) stop out → Stopped (linked_by p calls here (l ∷ ls) (give c) s) stop out
  linked_stops l ls c s stop out h = stops_first (link p calls here l (give c) s) (λ d. linked_by p calls here ls (give d)) (linked_by p calls here (l ∷ ls) (give c) s) stop out (linked_first l ls c s) h

  selected_first : (l : Selector) (ls : List Selector) (c : Handed) (s : State Store) → selected_by p calls here (l ∷ ls) (give c) s ≡ after (select p calls here l (give c) s) (λ d. selected_by p calls here ls (give d))
  selected_first l ls c s = selected_lead p calls here ls (select p calls here l (give c)) s

  pub selected_more : (l : Selector) (ls : List Selector) (c d : Handed) (s : State Store) → select p calls here l (give c) s ≡ Gives d s → selected_by p calls here (l ∷ ls) (give c) s ≡ selected_by p calls here ls (give d) s
  selected_more l ls c d s h = selected_first l ls c s ∙ ap (λ e. after e (λ d. selected_by p calls here ls (give d))) h

  pub selected_stops : (l : Selector) (ls : List Selector) (c : Handed) (s : State Store) (stop : Stop) (out : List ℕ) → Stopped (select p calls here l (give c) s) stop out → Stopped (selected_by p calls here (l ∷ ls) (give c) s) stop out
  selected_stops l ls c s stop out h = stops_first (select p calls here l (give c) s) (λ d. selected_by p calls here ls (give d)) (selected_by p calls here (l ∷ ls) (give c) s) stop out (selected_first l ls c s) h

  module _ (fuel : ℕ) where
    -- a branch whose condition is known
    pub branch_tested : (b : Branch) (bs : List Branch) (s : State Store) (ok : Bool) → test (value p calls here b.condition.form) s ≡ Gives ok s → branches_by p calls here fuel (b ∷ bs) s ≡ (if ok then (effects_of p calls here fuel b.body.items >>= λ _. give true) else branches_by p calls here fuel bs) s
    branch_tested b bs s ok h = ap (λ e. after e (λ ok. if ok then (effects_of p calls here fuel b.body.items >>= λ _. give true) else branches_by p calls here fuel bs)) h

    pub branch_stops : (b : Branch) (bs : List Branch) (s : State Store) (stop : Stop) (out : List ℕ) → Stopped (test (value p calls here b.condition.form) s) stop out → Stopped (branches_by p calls here fuel (b ∷ bs) s) stop out
    branch_stops b bs s stop out h = stops_first (test (value p calls here b.condition.form) s) (λ ok. if ok then (effects_of p calls here fuel b.body.items >>= λ _. give true) else branches_by p calls here fuel bs) (branches_by p calls here fuel (b ∷ bs) s) stop out refl h

    pub effects_more : (st : Stmt) (ss : List Stmt) (s t : State Store) → effect p calls here fuel st s ≡ Gives tt t → effects_of p calls here fuel (st ∷ ss) s ≡ effects_of p calls here fuel ss t
    effects_more st ss s t h = ap (λ e. after e (λ _. effects_of p calls here fuel ss)) h

    pub effects_stop : (st : Stmt) (ss : List Stmt) (s : State Store) (stop : Stop) (out : List ℕ) → Stopped (effect p calls here fuel st s) stop out → Stopped (effects_of p calls here fuel (st ∷ ss) s) stop out
    effects_stop st ss s stop out h = stops_first (effect p calls here fuel st s) (λ _. effects_of p calls here fuel ss) (effects_of p calls here fuel (st ∷ ss) s) stop out refl h

-- guards of what a first part gives, and the object behind them
pub guards_on : (f : ℕ) (ext : Extension) (m : Act Cell) (rs : List ℕ) (c : Cell) (s : State Store) → m s ≡ Gives c s → all_guarded f ext m rs s ≡ all_guarded f ext (give c) rs s
guards_on f ext m rs c s h = guard_lead f ext m rs s ∙ ap (λ e. after e (λ c. all_guarded f ext (give c) rs)) h

pub guards_stop : (f : ℕ) (ext : Extension) (m : Act Cell) (rs : List ℕ) (s : State Store) (stop : Stop) (out : List ℕ) → Stopped (m s) stop out → Stopped (all_guarded f ext m rs s) stop out
guards_stop f ext m rs s stop out h = stops_first (m s) (λ c. all_guarded f ext (give c) rs) (all_guarded f ext m rs s) stop out (guard_lead f ext m rs s) h

pub object_on : (f : ℕ) (m : Act Cell) (d : Cell) (s : State Store) → m s ≡ Gives d s → object_of f m s ≡ object_of f (give d) s
object_on f m d s h = ap (λ e. after e (λ d. object_of f (give d))) h

pub object_stops : (f : ℕ) (m : Act Cell) (s : State Store) (stop : Stop) (out : List ℕ) → Stopped (m s) stop out → Stopped (object_of f m s) stop out
object_stops f m s stop out h = stops_first (m s) (λ d. object_of f (give d)) (object_of f m s) stop out refl h

pub load_on : (m : Act Handed) (h : Handed) (s : State Store) → m s ≡ Gives h s → load m s ≡ load (give h) s
load_on m h s is = ap (λ e. after (after e (λ h. given (address_in h))) fetch) is

pub load_stops : (m : Act Handed) (s : State Store) (stop : Stop) (out : List ℕ) → Stopped (m s) stop out → Stopped (load m s) stop out
load_stops m s stop out h = stops_first (place m s) fetch (load m s) stop out refl (stops_first (m s) (λ h. given (address_in h)) (place m s) stop out refl h)

pub none_there : (o : Option ℕ) (c : Cell) → o ≡ number_of c → ((n : ℕ) → o ≡ Some n → ⊥) → number_of c ≡ None
none_there None c e none = sym e
none_there (Some n) c e none = absurd (none n refl)

module _ (p : Program) (calls : Calls) (here : Here) where
  -- a value that is no number has no links
  pub no_number_link : (l : Link) (c : Cell) (s : State Store) → number_of c ≡ None → link p calls here l (give c) s ≡ Fails Senseless s.out
  no_number_link l (Bits n) s none = absurd (cc)
  no_number_link (Operate op y) (Pointer o) s none = refl
  no_number_link (And y) (Pointer o) s none = refl
  no_number_link (Or y) (Pointer o) s none = refl
  no_number_link (Element y) (Pointer o) s none = refl
  no_number_link (Elements' _ y _ z) (Pointer o) s none = refl
  no_number_link (Operate op y) (Code f) s none = refl
  no_number_link (And y) (Code f) s none = refl
  no_number_link (Or y) (Code f) s none = refl
  no_number_link (Element y) (Code f) s none = refl
  no_number_link (Elements' _ y _ z) (Code f) s none = refl

  -- a chain begins with its first value, a part with its variable
  pub chain_is : (x : Box Expr Global) (ks : Vec Link Global) (s : State Store) → value p calls here (Chain x ks) s ≡ after (value p calls here x.value s) (λ c. linked_by p calls here ks.items (give c))
  chain_is x ks s = ap (λ (m : Act Cell). m s) (value_chain p calls here x ks) ∙ linked_lead p calls here ks.items (value p calls here x.value) s

  pub part_is : (a : Box Access Global) (s : State Store) → designated p calls here (Part a) s ≡ after (base_of p calls here a.value.base s) (λ h. selected_by p calls here a.value.selectors.items (give h))
  part_is a s = ap (λ (m : Act Handed). m s) (designated_part p calls here a) ∙ selected_lead p calls here a.value.selectors.items (base_of p calls here a.value.base) s
