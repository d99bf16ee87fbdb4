-- What each event makes of a machine's fields.
use Rattle.std.proofs.Common.{◌≡◌, ℕ, suc, ◌+◌, ◌<◌, ◌≤◌, List, [], ◌∷◌, ◌++◌, length, get_or, set, Bool, true, false, cond, sym, refl, ap, ◌∙◌, subst, arith, lt-ltb, le-ltb, length-append}
use Rattle.std.proofs.lemmas.Bool.{false≢true}
use Rattle.std.specs.Prelude.{Option, Some, None, IsTrue, slice_get, vec_capacity, nat_lt}
use mathlib.Core.Logic.{inl, inr, ⊎_elim, ◌⊎◌}
use mathlib.Core.Option.{some, some-injective}
use lib.ListN.{get_elem?}
use Rattle.pool_core.specs.Tree.{children}
use Rattle.pool_core.specs.Events.{worker, state, child, drawn_stage, drawn_seen, looked_stage, looked_seen, saw, is_set}
use Rattle.pool_core.specs.Rule.{size, Within}
use Rattle.pool_core.specs.Runs.{May, Can, after, sees, next, seen_in}
use Rattle.pool_core.specs.Machine.{Machine, one_share, finished_of, worker_of, workers_from, mark_of, state_of, IsNextOf, IsSound}
use Rattle.pool_core.specs.declared.model.Stage.{Stage}
use Rattle.pool_core.specs.declared.model.Stage.TheVariants.{Idle, Ticket, Trace, Placed, Stopped, Spent}
use Rattle.pool_core.specs.declared.model.Event.{Event}
use Rattle.pool_core.specs.declared.model.Event.TheVariants.{Draw, Look, Reserve, Show, Finish, Stop, See}
use Rattle.pool_core.specs.declared.model.Seen.{Seen}
use Rattle.pool_core.specs.declared.model.Seen.TheVariants as seen
use Rattle.pool_core.specs.declared.model.State.{State}
use Rattle.pool_core.specs.declared.model.Worker.{Worker}
use Rattle.pool_core.specs.declared.workers.Hand.{Hand}
use Rattle.pool_core.specs.declared.workers.Entry.{Entry}
use Rattle.pool_core.specs.declared.machine.Core.TheInside.{Inside}
use Rattle.pool_core.proofs.Sums.{at_index, set_again}
use Rattle.pool_core.proofs.Trees.{child_of, children_le}
use Rattle.pool_core.proofs.Hands as hands

-- an event that is made: the state and what is seen are the row's, and the machine is sound again
pub record Made (P : List (Option ℕ)) (m : Machine) (i : ℕ) (e : Event) (s : State) (x : Seen) (hs : List Hand) (cap : ℕ) : Type 0 where
  pub state_is : s ≡ next m.parents m.state i e
  pub seen_is : x ≡ seen_in m.parents m.state i e
  pub kept : IsSound P s hs cap

pub read_at : (hs : List Hand) (i : ℕ) (h : Hand) → i < length hs → h ≡ get_or hs i h → get_elem? hs i ≡ some h
read_at hs i h lt e = at_index hs i h lt ∙ ap some (sym e)

pub drawn_ticket : (P : List (Option ℕ)) (head : ℕ) → head < length P → (Ticket head ≡ drawn_stage P head) × (seen.Ticket head ≡ drawn_seen P head)
drawn_ticket P head lt = let b = sym (lt-ltb head (length P) lt) in (ap (λ (t : Bool). cond t (Ticket head) Idle) b, ap (λ (t : Bool). cond t (seen.Ticket head) seen.NoMore) b)

pub drawn_none : (P : List (Option ℕ)) (head : ℕ) → length P ≤ head → (Idle ≡ drawn_stage P head) × (seen.NoMore ≡ drawn_seen P head)
drawn_none P head le = let b = sym (le-ltb head (length P) le) in (ap (λ (t : Bool). cond t (Ticket head) Idle) b, ap (λ (t : Bool). cond t (seen.Ticket head) seen.NoMore) b)

pub nothing : (o : Option ℕ) → ((c : ℕ) → o ≡ Some c → ⊥) → o ≡ None
nothing None h = refl
nothing (Some c) h = absurd (h c refl)

abbrev pub state_in : Inside → State
state_in x = state_of x.head x.tail x.stopped x.cells.items x.hands.items x.log.items

abbrev pub machine_in : Inside → Machine
machine_in x = record { parents = x.children; state = state_in x }

module _ (x : Inside) (sound : IsSound x.children (state_in x) x.hands.items (vec_capacity x.log)) (m : Machine) (view : machine_in x ≡ m) (i : ℕ) where
  here : (e : Event) → Can m.parents m.state i e → Can x.children (state_in x) i e
  here e can = subst (λ (n : Machine). Can n.parents n.state i e) (sym view) can

  pub within : (e : Event) → Can m.parents m.state i e → i < length x.hands.items
  within e can = hands.can_in x.children (state_in x) x.hands.items x.log.items i e refl (here e can)

  pub can_not : (e : Event) → length x.hands.items ≤ i → (IsTrue false → Can m.parents m.state i e) × (Can m.parents m.state i e → IsTrue false)
  can_not e past = ((λ no. absurd (false≢true no)), λ can. absurd (omega (arith, within e can)))

  module _ (h : Hand) (at : get_elem? x.hands.items i ≡ some h) where
    pub may : (e : Event) → Can m.parents m.state i e → May x.children e h.stage (worker_of i h x.log.items)
    may e can = hands.can_may x.children (state_in x) x.hands.items x.log.items i e h refl at (here e can)

    pub can_iff : (e : Event) (b : Bool)
        → ((P : List (Option ℕ)) (log : List Entry) (j : ℕ) → IsNextOf P h.stage h.next → Within P h.stage → (IsTrue b → May P e h.stage (worker_of j h log)) × (May P e h.stage (worker_of j h log) → IsTrue b))
        → (IsTrue b → Can m.parents m.state i e) × (Can m.parents m.state i e → IsTrue b)
    can_iff e b told =
        let t = told x.children x.log.items i (sound.next i h at) (hands.trace_within x.children (state_in x) x.hands.items (vec_capacity x.log) sound i (worker_of i h x.log.items) (hands.at_workers x.hands.items x.log.items i h at)) in (
          (λ yes. subst (λ (n : Machine). Can n.parents n.state i e) view (hands.may_can x.children (state_in x) x.hands.items x.log.items i e h refl at (t.0 yes))),
          (λ can. t.1 (may e can)),
        )

    at_worker : get_elem? (state_in x).workers i ≡ some (worker_of i h x.log.items)
    at_worker = hands.at_workers x.hands.items x.log.items i h at

    made : (e : Event) (stage : Stage) (h' : Hand) (s' : State) (cap' : ℕ) (y : Seen) → h.stage ≡ stage → Can m.parents m.state i e → IsNextOf x.children h'.stage h'.next → vec_capacity x.log ≤ cap'
        → s' ≡ after x.children e stage (state_in x) i (worker_of i h x.log.items) → y ≡ sees x.children e stage (state_in x)
        → Made x.children m i e s' y (set x.hands.items i h') cap'
    made e stage h' s' cap' y on can fits more is sees_is =
        let n = hands.next_is x.children (state_in x) x.hands.items x.log.items i e h stage refl at on in
        subst (λ (n : Machine). Made x.children n i e s' y (set x.hands.items i h') cap') view (record {
          state_is = is ∙ sym n.0;
          seen_is = sees_is ∙ sym n.1;
          kept = hands.sound_after x.children (state_in x) x.hands.items (vec_capacity x.log) sound i e h' s' cap' (here e can) (is ∙ sym n.0) fits more;
        })

    stays : (e : Event) (stage : Stage) (y : Seen) → h.stage ≡ stage → after x.children e stage (state_in x) i (worker_of i h x.log.items) ≡ state_in x → y ≡ sees x.children e stage (state_in x)
        → (m.state ≡ next m.parents m.state i e) × (y ≡ seen_in m.parents m.state i e)
    stays e stage y on same sees_is =
        let n = hands.next_is x.children (state_in x) x.hands.items x.log.items i e h stage refl at on in
        subst (λ (n : Machine). (n.state ≡ next n.parents n.state i e) × (y ≡ seen_in n.parents n.state i e)) view (sym same ∙ sym n.0, sees_is ∙ sym n.1)

    -- the state with this hand set
    with_hand : (head tail : ℕ) (stopped : Bool) (cells : List ℕ) (h' : Hand)
        → state_of head tail stopped cells (set x.hands.items i h') x.log.items ≡ state head tail (length x.log.items) (mark_of stopped) cells (set (workers_from 0 x.hands.items x.log.items) i (worker_of i h' x.log.items))
    with_hand head tail stopped cells h' = ap (state head tail (length x.log.items) (mark_of stopped) cells) (hands.set_workers x.hands.items i x.log.items x.log.items h' (λ j ne. refl))

    idle_of : (st : Stage) (w : Worker) → May x.children Draw st w → (st ≡ Idle) × (w.draws < w.share)
    idle_of Idle w may = (refl, may)
    idle_of (Ticket d) w may = absurd may
    idle_of (Trace t k) w may = absurd may
    idle_of (Placed t k d) w may = absurd may
    idle_of Stopped w may = absurd may
    idle_of Spent w may = absurd may

    ticket_may : (e : Event) → (e ≡ Look) ⊎ (e ≡ See) → (st : Stage) (w : Worker) → May x.children e st w → (c : ℕ) × (st ≡ Ticket c)
    ticket_may e which (Ticket c) w may = (c, refl)
    ticket_may e which Idle w may = absurd (⊎_elim (λ is. subst (λ (v : Event). May x.children v Idle w) is may) (λ is. subst (λ (v : Event). May x.children v Idle w) is may) which)
    ticket_may e which (Trace t k) w may = absurd (⊎_elim (λ is. subst (λ (v : Event). May x.children v (Trace t k) w) is may) (λ is. subst (λ (v : Event). May x.children v (Trace t k) w) is may) which)
    ticket_may e which (Placed t k d) w may = absurd (⊎_elim (λ is. subst (λ (v : Event). May x.children v (Placed t k d) w) is may) (λ is. subst (λ (v : Event). May x.children v (Placed t k d) w) is may) which)
    ticket_may e which Stopped w may = absurd (⊎_elim (λ is. subst (λ (v : Event). May x.children v Stopped w) is may) (λ is. subst (λ (v : Event). May x.children v Stopped w) is may) which)
    ticket_may e which Spent w may = absurd (⊎_elim (λ is. subst (λ (v : Event). May x.children v Spent w) is may) (λ is. subst (λ (v : Event). May x.children v Spent w) is may) which)

    pub ticket_look : Can m.parents m.state i Look → (c : ℕ) × (h.stage ≡ Ticket c)
    ticket_look can = ticket_may Look (inl refl) h.stage (worker_of i h x.log.items) (may Look can)

    pub ticket_see : Can m.parents m.state i See → (c : ℕ) × (h.stage ≡ Ticket c)
    ticket_see can = ticket_may See (inr refl) h.stage (worker_of i h x.log.items) (may See can)

    reserving : (st : Stage) (w : Worker) → May x.children Reserve st w → (t : ℕ) × (k : ℕ) × (st ≡ Trace t k) × (k < size x.children t)
    reserving (Trace t k) w may = (t, k, refl, may)
    reserving Idle w may = absurd may
    reserving (Ticket d) w may = absurd may
    reserving (Placed t k d) w may = absurd may
    reserving Stopped w may = absurd may
    reserving Spent w may = absurd may

    finishing : (st : Stage) (w : Worker) → May x.children Finish st w → (t : ℕ) × (k : ℕ) × (st ≡ Trace t k) × (k ≡ size x.children t)
    finishing (Trace t k) w may = (t, k, refl, may)
    finishing Idle w may = absurd may
    finishing (Ticket d) w may = absurd may
    finishing (Placed t k d) w may = absurd may
    finishing Stopped w may = absurd may
    finishing Spent w may = absurd may

    showing : (st : Stage) (w : Worker) → May x.children Show st w → (t : ℕ) × (k : ℕ) × (d : ℕ) × (st ≡ Placed t k d)
    showing (Placed t k d) w may = (t, k, d, refl)
    showing Idle w may = absurd may
    showing (Ticket d) w may = absurd may
    showing (Trace t k) w may = absurd may
    showing Stopped w may = absurd may
    showing Spent w may = absurd may

    pub reserve_stage : Can m.parents m.state i Reserve → (t : ℕ) × (k : ℕ) × (h.stage ≡ Trace t k) × (k < size x.children t)
    reserve_stage can = reserving h.stage (worker_of i h x.log.items) (may Reserve can)

    pub finish_stage : Can m.parents m.state i Finish → (t : ℕ) × (k : ℕ) × (h.stage ≡ Trace t k) × (k ≡ size x.children t)
    finish_stage can = finishing h.stage (worker_of i h x.log.items) (may Finish can)

    pub show_stage : Can m.parents m.state i Show → (t : ℕ) × (k : ℕ) × (d : ℕ) × (h.stage ≡ Placed t k d)
    show_stage can = showing h.stage (worker_of i h x.log.items) (may Show can)

    pub head_fits : x.head < 274877906945
    head_fits = omega (arith, hands.few_draws x.children (state_in x) x.hands.items (vec_capacity x.log) sound)

    pub draws_less : Can m.parents m.state i Draw → h.draws < one_share
    draws_less can = (idle_of h.stage (worker_of i h x.log.items) (may Draw can)).1

    pub drew : (stage : Stage) (y : Seen) → Can m.parents m.state i Draw → stage ≡ drawn_stage x.children x.head → y ≡ drawn_seen x.children x.head
        → Made x.children m i Draw (state_of (x.head + 1) x.tail x.stopped x.cells.items (set x.hands.items i (record { stage = stage; next = None; draws = h.draws + 1 })) x.log.items) y
        (set x.hands.items i (record { stage = stage; next = None; draws = h.draws + 1 })) (vec_capacity x.log)
    drew stage y can is sees_is =
        let h' : Hand = record { stage = stage; next = None; draws = h.draws + 1 } in
        made Draw Idle h' (state_of (x.head + 1) x.tail x.stopped x.cells.items (set x.hands.items i h') x.log.items) (vec_capacity x.log) y
        (idle_of h.stage (worker_of i h x.log.items) (may Draw can)).0 can
        (subst (λ (st : Stage). IsNextOf x.children st None) (sym is) (fits (nat_lt x.head (length x.children))))
        (omega arith)
        (with_hand (x.head + 1) x.tail x.stopped x.cells.items h' ∙ ap (λ (st : Stage). state (x.head + 1) x.tail (length x.log.items) (mark_of x.stopped) x.cells.items (set (workers_from 0 x.hands.items x.log.items) i (worker st (finished_of i x.log.items) one_share (h.draws + 1)))) is)
        sees_is
      where
        fits : (b : Bool) → IsNextOf x.children (cond b (Ticket x.head) Idle) None
        fits true = tt
        fits false = tt

    ticket_of : (e : Event) (c : ℕ) → h.stage ≡ Ticket c → (c < length x.children) × ((t : ℕ) → get_or x.cells.items c 0 ≡ suc t → t < length x.children)
    ticket_of e c on = let f = λ (t : ℕ). hands.ticket_within x.children (state_in x) x.hands.items (vec_capacity x.log) sound i c t (worker_of i h x.log.items) at_worker on in ((f 0).0, λ t. (f t).1)

    pub cells_small : length x.cells.items ≤ 262144
    cells_small = let s = sound.small in omega (arith, hands.cells_wide x.children (state_in x) x.hands.items (vec_capacity x.log) sound)

    pub cells_wide : length x.cells.items ≡ length x.children
    cells_wide = hands.cells_wide x.children (state_in x) x.hands.items (vec_capacity x.log) sound

    pub cell_in : (c : ℕ) → h.stage ≡ Ticket c → c < length x.cells.items
    cell_in c on = omega (arith, (ticket_of Look c on).0, hands.cells_wide x.children (state_in x) x.hands.items (vec_capacity x.log) sound)

    pub found_in : (c t : ℕ) → h.stage ≡ Ticket c → get_or x.cells.items c 0 ≡ suc t → t < length x.children
    found_in c t on = (ticket_of Look c on).1 t

    pub read_cell : (c r : ℕ) → h.stage ≡ Ticket c → r ≡ get_or x.cells.items c r → get_or x.cells.items c 0 ≡ r
    read_cell c r on e = some-injective (get_or x.cells.items c 0) r (sym (at_index x.cells.items c 0 (cell_in c on)) ∙ (at_index x.cells.items c r (cell_in c on) ∙ ap some (sym e)))

    -- a look at a cell that shows nothing
    pub looked_empty : (c : ℕ) → h.stage ≡ Ticket c → get_or x.cells.items c 0 ≡ 0 → (m.state ≡ next m.parents m.state i Look) × (seen.Empty ≡ seen_in m.parents m.state i Look)
    looked_empty c on empty = stays Look (Ticket c) seen.Empty on
        (ap (λ (n : ℕ). state x.head x.tail (length x.log.items) (mark_of x.stopped) x.cells.items (set (workers_from 0 x.hands.items x.log.items) i (worker (looked_stage x.children c n) (finished_of i x.log.items) one_share h.draws))) empty
        ∙ ap (λ (st : Stage). state x.head x.tail (length x.log.items) (mark_of x.stopped) x.cells.items (set (workers_from 0 x.hands.items x.log.items) i (worker st (finished_of i x.log.items) one_share h.draws))) (sym on)
        ∙ ap (λ (ws : List Worker). state x.head x.tail (length x.log.items) (mark_of x.stopped) x.cells.items ws) (set_again (workers_from 0 x.hands.items x.log.items) i (worker_of i h x.log.items) at_worker))
        (sym (ap (looked_seen x.children) empty))

    pub looked_trace : (c t : ℕ) (next : Option ℕ) → h.stage ≡ Ticket c → get_or x.cells.items c 0 ≡ suc t → next ≡ slice_get (children x.children t) 0 → Can m.parents m.state i Look
        → Made x.children m i Look (state_of x.head x.tail x.stopped x.cells.items (set x.hands.items i (record { stage = Trace t 0; next = next; draws = h.draws })) x.log.items) (seen.Trace t)
        (set x.hands.items i (record { stage = Trace t 0; next = next; draws = h.draws })) (vec_capacity x.log)
    looked_trace c t next on found fits can =
        let h' : Hand = record { stage = Trace t 0; next = next; draws = h.draws } in
        made Look (Ticket c) h' (state_of x.head x.tail x.stopped x.cells.items (set x.hands.items i h') x.log.items) (vec_capacity x.log) (seen.Trace t) on can fits (omega arith)
        (with_hand x.head x.tail x.stopped x.cells.items h' ∙ ap (λ (n : ℕ). state x.head x.tail (length x.log.items) (mark_of x.stopped) x.cells.items (set (workers_from 0 x.hands.items x.log.items) i (worker (looked_stage x.children c n) (finished_of i x.log.items) one_share h.draws))) (sym found))
        (sym (ap (looked_seen x.children) found))

    pub tail_within : (t k : ℕ) → h.stage ≡ Trace t k → k < size x.children t → x.tail < length x.children
    tail_within t k on less = hands.tail_below x.children (state_in x) x.hands.items (vec_capacity x.log) sound i t k (worker_of i h x.log.items) at_worker on less

    pub reserved : (t k : ℕ) → h.stage ≡ Trace t k → Can m.parents m.state i Reserve
        → Made x.children m i Reserve (state_of x.head (x.tail + 1) x.stopped x.cells.items (set x.hands.items i (record { stage = Placed t k x.tail; next = h.next; draws = h.draws })) x.log.items) (seen.Ticket x.tail)
        (set x.hands.items i (record { stage = Placed t k x.tail; next = h.next; draws = h.draws })) (vec_capacity x.log)
    reserved t k on can =
        let h' : Hand = record { stage = Placed t k x.tail; next = h.next; draws = h.draws } in
        made Reserve (Trace t k) h' (state_of x.head (x.tail + 1) x.stopped x.cells.items (set x.hands.items i h') x.log.items) (vec_capacity x.log) (seen.Ticket x.tail) on can
        (subst (λ (st : Stage). IsNextOf x.children st h.next) on (sound.next i h at)) (omega arith)
        (with_hand x.head (x.tail + 1) x.stopped x.cells.items h') refl

    -- the child that a worker with a reserved place shows
    pub next_there : (t k d : ℕ) → h.stage ≡ Placed t k d → (h.next ≡ slice_get (children x.children t) k) × (k < size x.children t) × (d < length x.children)
    next_there t k d on = (
      subst (λ (st : Stage). IsNextOf x.children st h.next) on (sound.next i h at),
      subst (Within x.children) on (hands.trace_within x.children (state_in x) x.hands.items (vec_capacity x.log) sound i (worker_of i h x.log.items) at_worker),
      hands.place_within x.children (state_in x) x.hands.items (vec_capacity x.log) sound i t k d (worker_of i h x.log.items) at_worker on,
    )

    pub next_is_there : (t k d : ℕ) → h.stage ≡ Placed t k d → h.next ≡ None → ⊥
    next_is_there t k d on gone = let n = next_there t k d on in absurd (omega (arith, n.1, hands.none_past (children x.children t) k (sym n.0 ∙ gone)))

    pub child_within : (t k d c : ℕ) → h.stage ≡ Placed t k d → h.next ≡ Some c → (c < length x.children) × (slice_get (children x.children t) k ≡ Some c) × (child x.children t k ≡ c)
    child_within t k d c on is =
        let n = next_there t k d on in
        let there = hands.some_there (children x.children t) k c (sym n.0 ∙ is) in
        ((child_of x.children t k c sound.tree there.0).0, sym n.0 ∙ is, there.1)

    pub place_in : (t k d : ℕ) → h.stage ≡ Placed t k d → d < length x.cells.items
    place_in t k d on = let n = next_there t k d on in omega (arith, n.2, hands.cells_wide x.children (state_in x) x.hands.items (vec_capacity x.log) sound)

    pub few_children : (t k d : ℕ) → h.stage ≡ Placed t k d → k < 262144
    few_children t k d on = let n = next_there t k d on in let s = sound.small in omega (arith, n.1, children_le x.children t)

    pub showed : (t k d c : ℕ) (next : Option ℕ) → h.stage ≡ Placed t k d → h.next ≡ Some c → next ≡ slice_get (children x.children t) (k + 1) → Can m.parents m.state i Show
        → Made x.children m i Show (state_of x.head x.tail x.stopped (set x.cells.items d (c + 1)) (set x.hands.items i (record { stage = Trace t (k + 1); next = next; draws = h.draws })) x.log.items) seen.Nothing
        (set x.hands.items i (record { stage = Trace t (k + 1); next = next; draws = h.draws })) (vec_capacity x.log)
    showed t k d c next on is fits can =
        let h' : Hand = record { stage = Trace t (k + 1); next = next; draws = h.draws } in
        let value : c + 1 ≡ suc (child x.children t k) = omega (arith, (child_within t k d c on is).2) in
        made Show (Placed t k d) h' (state_of x.head x.tail x.stopped (set x.cells.items d (c + 1)) (set x.hands.items i h') x.log.items) (vec_capacity x.log) seen.Nothing on can fits (omega arith)
        (with_hand x.head x.tail x.stopped (set x.cells.items d (c + 1)) h' ∙ ap (λ (n : ℕ). state x.head x.tail (length x.log.items) (mark_of x.stopped) (set x.cells.items d n) (set (workers_from 0 x.hands.items x.log.items) i (worker_of i h' x.log.items))) value)
        refl

    finished' : (t k : ℕ) → h.stage ≡ Trace t k → Can m.parents m.state i Finish → (cap' : ℕ) (log' : List Entry) → log' ≡ x.log.items ++ record { worker = i; trace = t } ∷ [] → vec_capacity x.log ≤ cap'
        → Made x.children m i Finish (state_of x.head x.tail x.stopped x.cells.items (set x.hands.items i (record { stage = Idle; next = None; draws = h.draws })) log') seen.Nothing
        (set x.hands.items i (record { stage = Idle; next = None; draws = h.draws })) cap'
    finished' t k on can cap' log' is more =
        let h' : Hand = record { stage = Idle; next = None; draws = h.draws } in
        let long : length log' ≡ length x.log.items + 1 = omega (arith, ap length is, length-append x.log.items (record { worker = i; trace = t } ∷ [])) in
        let mine : finished_of i log' ≡ finished_of i x.log.items ++ t ∷ [] = ap (finished_of i) is ∙ hands.logged x.log.items i t in
        made Finish (Trace t k) h' (state_of x.head x.tail x.stopped x.cells.items (set x.hands.items i h') log') cap' seen.Nothing on can tt more
        (ap (state x.head x.tail (length log') (mark_of x.stopped) x.cells.items) (hands.set_workers x.hands.items i x.log.items log' h' (λ j ne. ap (finished_of j) is ∙ hands.logged_else x.log.items i j t ne))
        ∙ (λ q. state x.head x.tail (long q) (mark_of x.stopped) x.cells.items (set (workers_from 0 x.hands.items x.log.items) i (worker Idle (mine q) one_share h.draws))))
        refl

    pub finished : (t k : ℕ) → h.stage ≡ Trace t k → Can m.parents m.state i Finish → (cap' : ℕ) (log' : List Entry) → log' ≡ x.log.items ++ record { worker = i; trace = t } ∷ [] → vec_capacity x.log ≤ cap'
        → Made x.children m i Finish (state_of x.head x.tail x.stopped x.cells.items (set x.hands.items i (record { stage = Idle; next = None; draws = h.draws })) log') seen.Nothing
        (set x.hands.items i (record { stage = Idle; next = None; draws = h.draws })) cap'
    finished t k on can cap' log' is more = finished' t k on can cap' log' is more

    pub halted : Can m.parents m.state i Stop
        → Made x.children m i Stop (state_of x.head x.tail true x.cells.items (set x.hands.items i (record { stage = Stopped; next = None; draws = h.draws })) x.log.items) seen.Nothing
        (set x.hands.items i (record { stage = Stopped; next = None; draws = h.draws })) (vec_capacity x.log)
    halted can =
        let h' : Hand = record { stage = Stopped; next = None; draws = h.draws } in
        made Stop h.stage h' (state_of x.head x.tail true x.cells.items (set x.hands.items i h') x.log.items) (vec_capacity x.log) seen.Nothing refl can tt (omega arith)
        (with_hand x.head x.tail true x.cells.items h') refl

    pub saw_unset : (c : ℕ) → h.stage ≡ Ticket c → x.stopped ≡ false → (m.state ≡ next m.parents m.state i See) × (seen.Mark false ≡ seen_in m.parents m.state i See)
    saw_unset c on unset = stays See (Ticket c) (seen.Mark false) on
        (ap (λ (b : Bool). saw (mark_of b) (state_in x) i (worker_of i h x.log.items)) unset)
        (sym (ap (λ (b : Bool). seen.Mark (is_set (mark_of b))) unset))

    pub saw_set : (c : ℕ) → h.stage ≡ Ticket c → x.stopped ≡ true → Can m.parents m.state i See
        → Made x.children m i See (state_of x.head x.tail x.stopped x.cells.items (set x.hands.items i (record { stage = Stopped; next = None; draws = h.draws })) x.log.items) (seen.Mark true)
        (set x.hands.items i (record { stage = Stopped; next = None; draws = h.draws })) (vec_capacity x.log)
    saw_set c on set_now can =
        let h' : Hand = record { stage = Stopped; next = None; draws = h.draws } in
        made See (Ticket c) h' (state_of x.head x.tail x.stopped x.cells.items (set x.hands.items i h') x.log.items) (vec_capacity x.log) (seen.Mark true) on can tt (omega arith)
        (with_hand x.head x.tail x.stopped x.cells.items h' ∙ sym (ap (λ (b : Bool). saw (mark_of b) (state_in x) i (worker_of i h x.log.items)) set_now))
        (sym (ap (λ (b : Bool). seen.Mark (is_set (mark_of b))) set_now))

    pub log_room : (t k : ℕ) → h.stage ≡ Trace t k → Can m.parents m.state i Finish → length x.log.items < vec_capacity x.log
    log_room t k on can =
        let log' : List Entry = x.log.items ++ record { worker = i; trace = t } ∷ [] in
        let f = finished_sound t k on can (vec_capacity x.log) log' refl (omega arith) in
        omega (arith, length-append x.log.items (record { worker = i; trace = t } ∷ []), f, sound.room_left)
      where
        finished_sound : (t k : ℕ) → h.stage ≡ Trace t k → Can m.parents m.state i Finish → (cap' : ℕ) (log' : List Entry) → log' ≡ x.log.items ++ record { worker = i; trace = t } ∷ [] → vec_capacity x.log ≤ cap' → length log' ≤ length x.children
        finished_sound t k on can cap' log' is more =
            let f = finished' t k on can cap' log' is more in
            hands.few_finished x.children (state_of x.head x.tail x.stopped x.cells.items (set x.hands.items i (record { stage = Idle; next = None; draws = h.draws })) log') (set x.hands.items i (record { stage = Idle; next = None; draws = h.draws })) cap'
            f.kept
