-- The workers that a machine's hands and log stand for.
use Rattle.std.proofs.Common.{◌≡◌, ℕ, zero, suc, ◌+◌, ◌*◌, ◌<◌, ◌≤◌, ◌≢◌, List, [], ◌∷◌, ◌++◌, length, get_or, set, Bool, true, false, not, eqb, eq-eqb, ne_eqb, sym, refl, ap, ◌∙◌, subst, arith, length-set, true≢false}
use Rattle.std.specs.Prelude.{Option, Some, None, IsTrue, is_some, slice_get}
use Rattle.std.proofs.Math.Bridge.{le_prop}
use Rattle.std.proofs.Math.Nat.{ℕ_set}
use Rattle.std.proofs.lemmas.Grind.{merely}
use mathlib.Core.Logic.{∥∥₁_elim, dite, ⊎_elim}
use native.Mathlib.Decide.{dec_lt}
use mathlib.Core.Option.{none, some, some-injective, some-ne-none}
use lib.ListN.{get_elem?}
use Rattle.pool_core.specs.Tree.{children, put_if}
use Rattle.pool_core.specs.Events.{worker}
use Rattle.pool_core.specs.Rule.{size, having, Rule, Kept, Within}
use Rattle.pool_core.specs.Runs.{May, Can, after, sees, next, next_of, seen_in, seen_of}
use Rattle.pool_core.specs.Machine.{one_share, finished_of, worker_of, workers_from, IsNextOf, IsSound}
use Rattle.pool_core.specs.declared.model.Stage.{Stage}
use Rattle.pool_core.specs.declared.model.Stage.TheVariants.{Idle, Ticket, Trace, Placed, Stopped, Spent}
use Rattle.pool_core.specs.declared.model.Event.{Event}
use Rattle.pool_core.specs.declared.model.Event.TheVariants.{Finish}
use Rattle.pool_core.specs.declared.model.State.{State}
use Rattle.pool_core.specs.declared.model.Worker.{Worker}
use Rattle.pool_core.specs.declared.workers.Hand.{Hand}
use Rattle.pool_core.specs.declared.workers.Entry.{Entry}
use Rattle.pool_core.specs.Sums.{total, hit}
use Rattle.pool_core.proofs.Sums.{at_index, at_set, term_le, hit_same}
use Rattle.pool_core.proofs.Keeps.{ticket_there, place_there}
use Rattle.pool_core.proofs.Once.{head-le, short, room, finished-le, is_trace}
use Rattle.pool_core.proofs.Law.{keeps}

at_from : (hs : List Hand) (n i : ℕ) (log : List Entry) (h : Hand) → get_elem? hs i ≡ some h → get_elem? (workers_from n hs log) i ≡ some (worker_of (n + i) h log)
at_from [] n i log h at = absurd (some-ne-none h (sym at))
at_from (x ∷ hs) n zero log h at = let z : n ≡ n + 0 = omega arith in ap (λ (v : Hand). some (worker_of n v log)) (some-injective x h at) ∙ ap (λ k. some (worker_of k h log)) z
at_from (x ∷ hs) n (suc i) log h at = let z : suc n + i ≡ n + suc i = omega arith in at_from hs (suc n) i log h at ∙ ap (λ k. some (worker_of k h log)) z

-- the worker with a number is that of the hand with the number
pub at_workers : (hs : List Hand) (log : List Entry) (i : ℕ) (h : Hand) → get_elem? hs i ≡ some h → get_elem? (workers_from 0 hs log) i ≡ some (worker_of i h log)
at_workers hs log i h at = let z : 0 + i ≡ i = omega arith in at_from hs 0 i log h at ∙ ap (λ k. some (worker_of k h log)) z

none_from : (hs : List Hand) (n i : ℕ) (log : List Entry) → length hs ≤ i → get_elem? (workers_from n hs log) i ≡ none
none_from [] n i log h = refl
none_from (x ∷ hs) n zero log h = absurd (omega arith)
none_from (x ∷ hs) n (suc i) log h = none_from hs (suc n) i log (omega arith)

same_from : (hs : List Hand) (n : ℕ) (log log' : List Entry) → ((j : ℕ) → n ≤ j → finished_of j log' ≡ finished_of j log) → workers_from n hs log' ≡ workers_from n hs log
same_from [] n log log' h = refl
same_from (x ∷ hs) n log log' h = λ k. worker x.stage (h n (omega arith) k) one_share x.draws ∷ same_from hs (suc n) log log' (λ j le. h j (omega arith)) k

set_from : (hs : List Hand) (n i : ℕ) (log log' : List Entry) (h : Hand) → ((j : ℕ) → j ≢ n + i → finished_of j log' ≡ finished_of j log)
    → workers_from n (set hs i h) log' ≡ set (workers_from n hs log) i (worker_of (n + i) h log')
set_from [] n i log log' h others = refl
set_from (x ∷ hs) n zero log log' h others = let z : n ≡ n + 0 = omega arith in
    λ k. worker_of (z k) h log' ∷ same_from hs (suc n) log log' (λ j le. others j (λ e. absurd (omega arith))) k
set_from (x ∷ hs) n (suc i) log log' h others =
    let z : suc n + i ≡ n + suc i = omega arith in
    let rest = set_from hs (suc n) i log log' h (λ j ne. others j (λ e. ne (omega arith))) in
    λ k. worker x.stage (others n (λ e. absurd (omega arith)) k) one_share x.draws ∷ (rest ∙ ap (λ q. set (workers_from (suc n) hs log) i (worker_of q h log')) z) k

-- one hand is set, and the log is as it was but for this worker
pub set_workers : (hs : List Hand) (i : ℕ) (log log' : List Entry) (h : Hand) → ((j : ℕ) → j ≢ i → finished_of j log' ≡ finished_of j log)
    → workers_from 0 (set hs i h) log' ≡ set (workers_from 0 hs log) i (worker_of i h log')
set_workers hs i log log' h others = let z : 0 + i ≡ i = omega arith in
    set_from hs 0 i log log' h (λ j ne. others j (λ e. ne (omega arith))) ∙ ap (λ k. set (workers_from 0 hs log) i (worker_of k h log')) z

entry : ℕ → ℕ → Entry
entry w t = record { worker = w; trace = t }

-- the log of a worker that finishes a trace, and of the others
pub logged : (log : List Entry) (i t : ℕ) → finished_of i (log ++ record { worker = i; trace = t } ∷ []) ≡ finished_of i log ++ t ∷ []
logged [] i t = ap (λ b. put_if b t []) (eq-eqb i i refl)
logged (e ∷ es) i t = ap (put_if (eqb e.worker i) e.trace) (logged es i t) ∙ over (eqb e.worker i) (finished_of i es)
  where
    over : (b : Bool) (xs : List ℕ) → put_if b e.trace (xs ++ t ∷ []) ≡ put_if b e.trace xs ++ t ∷ []
    over true xs = refl
    over false xs = refl

pub logged_else : (log : List Entry) (i j t : ℕ) → j ≢ i → finished_of j (log ++ record { worker = i; trace = t } ∷ []) ≡ finished_of j log
logged_else [] i j t ne = ap (λ b. put_if b t []) (ne_eqb i j (λ e. ne (sym e)))
logged_else (e ∷ es) i j t ne = ap (put_if (eqb e.worker j) e.trace) (logged_else es i j t ne)

module _ (P : List (Option ℕ)) where
  -- what is allowed is allowed to a worker that is there
  pub can_in : (s : State) (hs : List Hand) (log : List Entry) (i : ℕ) (e : Event) → s.workers ≡ workers_from 0 hs log → Can P s i e → i < length hs
  can_in s hs log i e is can = dite (dec_lt i (length hs)) (λ lt. lt)
      (λ ge. absurd (some-ne-none can.0 (sym can.1 ∙ ap (λ (l : List Worker). get_elem? l i) is ∙ none_from hs 0 i log (omega arith))))

  -- and its hand may do it
  pub can_may : (s : State) (hs : List Hand) (log : List Entry) (i : ℕ) (e : Event) (h : Hand) → s.workers ≡ workers_from 0 hs log → get_elem? hs i ≡ some h → Can P s i e → May P e h.stage (worker_of i h log)
  can_may s hs log i e h is at can =
      let same : can.0 ≡ worker_of i h log = some-injective can.0 (worker_of i h log) (sym can.1 ∙ ap (λ (l : List Worker). get_elem? l i) is ∙ at_workers hs log i h at) in
      subst (λ (w : Worker). May P e w.stage w) same can.2

  pub may_can : (s : State) (hs : List Hand) (log : List Entry) (i : ℕ) (e : Event) (h : Hand) → s.workers ≡ workers_from 0 hs log → get_elem? hs i ≡ some h → May P e h.stage (worker_of i h log) → Can P s i e
  may_can s hs log i e h is at may = (worker_of i h log, ap (λ (l : List Worker). get_elem? l i) is ∙ at_workers hs log i h at, may)

  -- what the event makes of the state, and what the worker sees
  pub next_is : (s : State) (hs : List Hand) (log : List Entry) (i : ℕ) (e : Event) (h : Hand) (stage : Stage) → s.workers ≡ workers_from 0 hs log → get_elem? hs i ≡ some h → h.stage ≡ stage
      → (next P s i e ≡ after P e stage s i (worker_of i h log)) × (seen_in P s i e ≡ sees P e stage s)
  next_is s hs log i e h stage is at on =
      let here = ap (λ (l : List Worker). get_elem? l i) is ∙ at_workers hs log i h at in (
        ap (next_of P i e s) here ∙ ap (λ st. after P e st s i (worker_of i h log)) on,
        ap (seen_of P e s) here ∙ ap (λ st. sees P e st s) on,
      )

  module _ (s : State) (hs : List Hand) (cap : ℕ) (sound : IsSound P s hs cap) where
    at_most : (x y : ℕ) → ((lost : List Stage) → Rule P (length hs * one_share) lost s → x ≤ y) → x ≤ y
    at_most x y f = ∥∥₁_elim sound.kept le_prop (λ k. f k.0 k.1)

    below : (x y : ℕ) → ((lost : List Stage) → Rule P (length hs * one_share) lost s → x < y) → x < y
    below x y f = ∥∥₁_elim sound.kept le_prop (λ k. f k.0 k.1)

    pub few_draws : s.head ≤ 274877906944
    few_draws = at_most s.head 274877906944 (λ lost r. let h = head-le P sound.tree (length hs * one_share) lost s r in let f = sound.few in omega arith)

    pub cells_wide : length s.cells ≡ length P
    cells_wide = ∥∥₁_elim sound.kept (ℕ_set _ _) (λ k. k.1.wide)

    pub few_finished : s.finished ≤ length P
    few_finished = at_most s.finished (length P) (λ lost r. finished-le P sound.tree (length hs * one_share) lost s r)

    pub few_shown : s.tail ≤ length P
    few_shown = at_most s.tail (length P) (λ lost r. short P sound.tree (length hs * one_share) lost s r)

    -- an allowed event leaves a sound machine, where the hand knows its next child
    pub sound_after : (i : ℕ) (e : Event) (h : Hand) (s' : State) (room' : ℕ) → Can P s i e → s' ≡ next P s i e → IsNextOf P h.stage h.next → cap ≤ room' → IsSound P s' (set hs i h) room'
    sound_after i e h s' room' can is fits more = record {
      tree = sound.tree;
      small = sound.small;
      few = omega (arith, length-set hs i h, sound.few);
      kept = ∥∥₁_elim sound.kept (hlevel) (λ k. merely (subst (λ (l : ℕ). Kept P (l * one_share) s') (sym (length-set hs i h)) (subst (Kept P (length hs * one_share)) (sym is) (keeps P sound.tree (length hs * one_share) s i e k can))));
      next = λ j g at. ⊎_elim (λ t. subst (λ (x : Hand). IsNextOf P x.stage x.next) t.1 fits) (λ t. sound.next j g t.1) (at_set hs i j h g at);
      room_left = omega (arith, sound.room_left);
    }

    -- a trace in a ticket's cell is a trace
    pub ticket_within : (i c t : ℕ) (w : Worker) → get_elem? s.workers i ≡ some w → w.stage ≡ Ticket c → (c < length P) × (get_or s.cells c 0 ≡ suc t → t < length P)
    ticket_within i c t w at is = (
      below c (length P) (λ lost r. let there = ticket_there P sound.tree (length hs * one_share) lost s r i w at c is in omega (arith, there.1)),
      (λ found. below t (length P) (λ lost r. is_trace P sound.tree (length hs * one_share) lost s r t (omega (arith, term_le (hit (suc t)) s.cells c (suc t) (at_cell lost r found), hit_same (suc t) (suc t) refl)))),
    )
      where
        at_cell : (lost : List Stage) → Rule P (length hs * one_share) lost s → get_or s.cells c 0 ≡ suc t → get_elem? s.cells c ≡ some (suc t)
        at_cell lost r found = let there = ticket_there P sound.tree (length hs * one_share) lost s r i w at c is in
            at_index s.cells c 0 (omega (arith, there.1, r.wide)) ∙ ap some found

    -- a worker with a trace has shown no more children than there are, and a reserved cell is there
    pub trace_within : (i : ℕ) (w : Worker) → get_elem? s.workers i ≡ some w → Within P w.stage
    trace_within i w at = ∥∥₁_elim sound.kept (within_prop w.stage) (λ k. (k.1.fair i w at).within)
      where
        within_prop : (st : Stage) → IsProp (Within P st)
        within_prop Idle = hlevel
        within_prop (Ticket d) = hlevel
        within_prop (Trace t k) = le_prop
        within_prop (Placed t k d) = le_prop
        within_prop Stopped = hlevel
        within_prop Spent = hlevel

    pub place_within : (i t k d : ℕ) (w : Worker) → get_elem? s.workers i ≡ some w → w.stage ≡ Placed t k d → d < length P
    place_within i t k d w at is = below d (length P) (λ lost r. let there = place_there P sound.tree (length hs * one_share) lost s r i w at t k d is in omega (arith, there.1, short P sound.tree (length hs * one_share) lost s r))

    pub trace_in : (i t k : ℕ) (w : Worker) → get_elem? s.workers i ≡ some w → w.stage ≡ Trace t k → t < length P
    trace_in i t k w at is = below t (length P) (λ lost r. is_trace P sound.tree (length hs * one_share) lost s r t
        (omega (arith, r.known t, term_le (λ u. having (hit t) u.stage + total (hit t) u.finished) s.workers i w at, ap (having (hit t)) is, hit_same t t refl)))

    pub tail_below : (i t k : ℕ) (w : Worker) → get_elem? s.workers i ≡ some w → w.stage ≡ Trace t k → k < size P t → s.tail < length P
    tail_below i t k w at is less = below s.tail (length P) (λ lost r. room P sound.tree (length hs * one_share) lost s r i w t k at is less)

-- there is a next child exactly where fewer are shown than there are
pub none_left : (xs : List ℕ) (k : ℕ) (o : Option ℕ) → o ≡ slice_get xs k → k ≤ length xs → (is_some o ≡ false → k ≡ length xs) × (k ≡ length xs → is_some o ≡ false)
none_left [] zero o e le = ((λ no. refl), λ same. ap is_some e)
none_left [] (suc k) o e le = absurd (omega arith)
none_left (x ∷ xs) zero o e le = ((λ no. absurd (true≢false (sym (ap is_some e) ∙ no))), λ same. absurd (omega arith))
none_left (x ∷ xs) (suc k) o e le = let r = none_left xs k o e (omega arith) in ((λ no. ap suc (r.0 no)), λ same. r.1 (omega arith))

pub some_there : (xs : List ℕ) (k c : ℕ) → slice_get xs k ≡ Some c → (get_elem? xs k ≡ some c) × (get_or xs k 0 ≡ c) × (k < length xs)
some_there [] k c e = absurd (let z : ⊥ = cc in z)
some_there (x ∷ xs) zero c e = let z : x ≡ c = cc in (ap some z, z, omega arith)
some_there (x ∷ xs) (suc k) c e = let r = some_there xs k c e in (r.0, r.1, omega (arith, r.2))

pub none_past : (xs : List ℕ) (k : ℕ) → slice_get xs k ≡ None → length xs ≤ k
none_past [] k e = omega arith
none_past (x ∷ xs) zero e = absurd (let z : ⊥ = cc in z)
none_past (x ∷ xs) (suc k) e = omega (arith, none_past xs k e)

-- a worker with a trace may finish it exactly where there is no next child
pub finishes_iff : (P : List (Option ℕ)) (e : Event) (h : Hand) (log : List Entry) (i t k : ℕ) (b : Bool) → e ≡ Finish → h.stage ≡ Trace t k → IsNextOf P h.stage h.next → Within P h.stage → is_some h.next ≡ not b
    → (IsTrue b → May P e h.stage (worker_of i h log)) × (May P e h.stage (worker_of i h log) → IsTrue b)
finishes_iff P e h log i t k b is on fits within told =
    let r = none_left (children P t) k h.next (subst (λ (st : Stage). IsNextOf P st h.next) on fits) (subst (Within P) on within) in
    subst (λ (v : Event). (IsTrue b → May P v h.stage (worker_of i h log)) × (May P v h.stage (worker_of i h log) → IsTrue b)) (sym is)
    (subst (λ (st : Stage). (IsTrue b → May P Finish st (worker_of i h log)) × (May P Finish st (worker_of i h log) → IsTrue b)) (sym on) (
      (λ yes. r.0 (told ∙ ap not yes)),
      (λ all. turned b (sym told ∙ r.1 all)),
    ))
  where
    turned : (b : Bool) → not b ≡ false → IsTrue b
    turned true e = refl
    turned false e = absurd (true≢false e)
