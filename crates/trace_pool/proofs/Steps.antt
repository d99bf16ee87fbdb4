-- Each step on the table keeps its rule.
use Rattle.std.proofs.Common.{◌≡◌, ℕ, zero, suc, ◌+◌, ◌-◌, ◌%◌, ◌^◌, ◌<◌, ◌≤◌, ◌≢◌, ◌⊎◌, List, [], ◌∷◌, ◌++◌, map, length, get_or, set, take, sym, refl, ap, ◌∙◌, subst, inl, inr, ⊎_elim, arith, length-set, get_or-set_other, get_or-set_same, lt-ltb, le-ltb, cond}
use Rattle.std.specs.Prelude.{Option, Some, None}
use mathlib.Core.Logic.{dite}
use native.Mathlib.Decide.{ℕ_discrete, dec_lt}
use mathlib.Core.Option as m
use mathlib.Core.Option.{none, some, some-injective, some-ne-none}
use lib.ListN.{get_elem?}
use lib.Seq.{map-set, set-get_or}
use Rattle.atomic_table.specs.Table as table
use Rattle.atomic_table.specs.Table.{State, Step, step, Act, keeps, takes, gives, Valid, carried_after, stepped, Allows}
use Rattle.atomic_table.proofs.Lists.{at_set, at_map, at_snoc, set_here, set_else, set_again}
use Rattle.pool_core.specs.Sums.{total, hit, times}
use Rattle.pool_core.specs.Tree.{children}
use Rattle.pool_core.specs.Events.{state, at_stage, child, drawn, drawn_seen, done}
use Rattle.pool_core.specs.Rule.{having, taken, showing, Within, size, Rule}
use Rattle.pool_core.specs.declared.model.Stage.{Stage}
use Rattle.pool_core.specs.declared.model.Stage.TheVariants.{Idle, Ticket, Trace, Placed, Stopped, Spent}
use Rattle.pool_core.specs.declared.model.Worker.{Worker}
use Rattle.pool_core.specs.declared.model.Event.TheVariants as event
use Rattle.pool_core.specs.declared.model.Seen.{Seen}
use Rattle.pool_core.specs.declared.model.Seen.TheVariants as seen
use Rattle.pool_core.proofs.Sums as sums
use Rattle.pool_core.proofs.Once as once
use Rattle.pool_core.proofs.Keeps as core
use Rattle.pool_core.proofs.Trees.{next_child, child_of}
use Rattle.trace_pool.specs.declared.parts.Content.{Content}
use Rattle.trace_pool.specs.declared.parts.Content.TheVariants.{Hint, Done}
use Rattle.trace_pool.specs.declared.parts.Step as entries
use Rattle.trace_pool.specs.declared.parts.View.{View}
use Rattle.trace_pool.specs.Slots.{all_shares, reserving, SawNoMore, HintFits, Fits, worker_of, Told, Holds}
use Rattle.trace_pool.specs.Sits.{IsNext, showing_view}
use Rattle.trace_pool.specs.Plays.{trace_of, count_of, entry, Sat, moved, drew, looked, reserved, showed, ended}

-- a trail with one entry more, which is no NoMore
no_more_yet : (trail : List entries.Step) (x : entries.Step) → (x.seen ≡ seen.NoMore → ⊥) → SawNoMore (trail ++ x ∷ []) → SawNoMore trail
no_more_yet trail x n h = ⊎_elim (λ e. (h.0, h.1, e, h.3)) (λ e. absurd (n (ap (λ (y : entries.Step). y.seen) e ∙ h.3))) (at_snoc trail x h.1 h.0 h.2)

module _ {W H D : Type 0} (P : List (Option ℕ)) (is_hint : ℕ → H → Type 0) (is_final : ℕ → D → Type 0) (work : W) where
  abbrev pub St : Type 0
  St = State (Option (Content H D)) (View W)

  abbrev pub Held : St → Type 0
  Held s = Holds P is_hint is_final work s

  -- the sums that the slot of a trace hangs on
  pub record Same (t : ℕ) (cells cells' : List ℕ) (ws ws' : List Worker) (lost : List Stage) : Type 0 where
    pub having_same : total (λ w. having (hit t) w.stage) ws' ≡ total (λ w. having (hit t) w.stage) ws
    pub reserving_same : total (λ w. reserving P t w.stage) ws' ≡ total (λ w. reserving P t w.stage) ws
    pub finished_same : total (λ w. times t w.finished) ws' ≡ total (λ w. times t w.finished) ws
    pub shown_same : times (suc t) cells' ≡ times (suc t) cells

  pub taken_sum : (t : ℕ) (ws : List Worker) (lost : List Stage) → taken P t ws lost ≡ total (λ w. having (hit t) w.stage) ws + total (λ w. times t w.finished) ws + total (having (hit t)) lost
  taken_sum t ws lost = omega (arith, sums.total-add (λ w. having (hit t) w.stage) (λ w. times t w.finished) ws)

  pub fits_same : (t : ℕ) (homes homes' : List (m.Option (Option (Content H D)))) (cells cells' : List ℕ) (ws ws' : List Worker) (lost : List Stage) → Same t cells cells' ws ws' lost → get_elem? homes' t ≡ get_elem? homes t
      → Fits P is_hint is_final t cells ws lost homes → Fits P is_hint is_final t cells' ws' lost homes'
  fits_same t homes homes' cells cells' ws ws' lost e home f = record {
    busy = λ h. home ∙ f.busy (omega (arith, e.having_same));
    due = λ h. home ∙ f.due (omega (arith, e.reserving_same));
    done = λ h. let d = f.done (omega (arith, e.finished_same)) in (d.0, home ∙ d.1, d.2);
    ready = λ h n. let x = f.ready (omega (arith, e.shown_same)) (omega (arith, e.having_same, e.finished_same, taken_sum t ws lost, taken_sum t ws' lost)) in (x.0, home ∙ x.1, x.2);
    early = λ h n. home ∙ f.early (omega (arith, e.shown_same)) (omega (arith, e.reserving_same));
    lost_home = λ h. home ∙ f.lost_home h;
  }

  -- the rule for one seat's new view
  pub rebuilt : (s : St) (h : Held s) (id : ℕ) (v' : View W) (words' : List ℕ) (homes' : List (m.Option (Option (Content H D)))) (head' tail' finished' mark' : ℕ) (cells' : List ℕ) (lost' : List Stage)
      → words' ≡ head' ∷ tail' ∷ finished' ∷ mark' ∷ cells'
      → Rule P all_shares lost' (state head' tail' finished' mark' cells' (set (map (worker_of P is_hint is_final work) s.views) id v'.worker))
      → length homes' ≡ length P
      → ((t : ℕ) → t < length P → Fits P is_hint is_final t cells' (set (map (worker_of P is_hint is_final work) s.views) id v'.worker) lost' homes')
      → Told P is_hint is_final work head' v' → h.head ≤ head'
      → Held record { words = words'; homes = homes'; views = set s.views id v' }
  rebuilt s h id v' words' homes' head' tail' finished' mark' cells' lost' words core wide slots told more =
      let f : View W → Worker = worker_of P is_hint is_final work in
      let same : set (map f s.views) id v'.worker ≡ map f (set s.views id v') = sym (map-set f s.views id v') in
      record {
        head = head';
        tail = tail';
        finished = finished';
        mark = mark';
        lost = lost';
        cells = cells';
        tree = h.tree;
        small = h.small;
        words = words;
        core = subst (λ (l : List Worker). Rule P all_shares lost' (state head' tail' finished' mark' cells' l)) same core;
        wide = wide;
        slots = λ t lt. subst (λ (l : List Worker). Fits P is_hint is_final t cells' l lost' homes') same (slots t lt);
        told = λ j v at. ⊎_elim
            (λ t. subst (Told P is_hint is_final work head') t.1 told)
            (λ t. let o = h.told j v t.1 in record { no_more = λ saw. omega (arith, o.no_more saw) })
            (at_set s.views id j v' v at);
      }

  abbrev pub Goes : St → ℕ → (ℕ → ℕ) → ℕ → Sat W H D → (ℕ → Sat W H D → Type 0) → ℕ → Type 0
  Goes s i f id me then n = (w : View W) × (a : Act (Option (Content H D))) × Valid s.homes me.1 a × Held (stepped s i (f n) id me.1 w a) × then n (w, carried_after me.1 a)

  module _ (s : St) (h : Held s) (id : ℕ) (me : Sat W H D) (at : get_elem? s.views id ≡ some me.0) where
    abbrev pub ws : List Worker
    ws = map (worker_of P is_hint is_final work) s.views

    abbrev pub now : Rattle.pool_core.specs.declared.model.State.State
    now = state h.head h.tail h.finished h.mark h.cells ws

    pub mine : get_elem? ws id ≡ some me.0.worker
    mine = at_map (worker_of P is_hint is_final work) s.views id me.0 at

    pub shift : (f : Worker → ℕ) (v : Worker) → total f (set ws id v) + f me.0.worker ≡ total f ws + f v
    shift f v = sums.total-set f ws id me.0.worker v mine

    pub told_same : (w : Worker) (e : Rattle.pool_core.specs.declared.model.Event.Event) (x : Seen) → (x ≡ seen.NoMore → ⊥) → Told P is_hint is_final work h.head (moved me.0 w e x)
    told_same w e x n = let o = h.told id me.0 at in record { no_more = λ saw. o.no_more (no_more_yet me.0.trail (entry e x) n saw) }

    quiet_drawn : (f : Stage → ℕ) → f Idle ≡ 0 → ((d : ℕ) → f (Ticket d) ≡ 0) → (b : Rattle.std.proofs.Common.Bool) (d : ℕ) → f (cond b (Ticket d) Idle) ≡ 0
    quiet_drawn f a t Rattle.std.proofs.Common.true d = t d
    quiet_drawn f a t Rattle.std.proofs.Common.false d = a

    saw_end : SawNoMore (me.0.trail ++ entry event.Draw (drawn_seen P h.head) ∷ []) → length P < h.head + 1
    saw_end saw = ⊎_elim
        (λ e. let o = (h.told id me.0 at).no_more (saw.0, saw.1, e, saw.3) in omega arith)
        (λ e. dite (dec_lt h.head (length P))
        (λ lt. let a : drawn_seen P h.head ≡ seen.Ticket h.head = ap (λ b. cond b (seen.Ticket h.head) seen.NoMore) (lt-ltb h.head (length P) lt) in
        let b : drawn_seen P h.head ≡ seen.NoMore = ap (λ (y : entries.Step). y.seen) e ∙ saw.3 in absurd (differ (sym a ∙ b)))
        (λ ge. omega arith))
        (at_snoc me.0.trail (entry event.Draw (drawn_seen P h.head)) saw.1 saw.0 saw.2)
      where
        differ : seen.Ticket h.head ≡ seen.NoMore → ⊥
        differ e = cc

    draws_goes : (slots : ℕ) → me.0.worker.stage ≡ Idle → me.0.worker.draws < me.0.worker.share → length s.homes ≡ slots
        → Goes s 0 (λ n. (n + 1) % 18446744073709551616) id me (λ n m. (m ≡ (moved me.0 (drawn P n me.0.worker) event.Draw (drawn_seen P n), me.1)) × (slots ≡ length P)) h.head
    draws_goes slots is more len =
        let w : Worker = drawn P h.head me.0.worker in
        let v' : View W = moved me.0 w event.Draw (drawn_seen P h.head) in
        let bound : h.head ≤ 4611686018427387904 = once.head-le P h.tree all_shares h.lost now h.core in
        let up : (h.head + 1) % 18446744073709551616 ≡ h.head + 1 = omega arith in
        let o = h.told id me.0 at in (
          v',
          keeps,
          tt,
          rebuilt s h id v' (set s.words 0 ((h.head + 1) % 18446744073709551616)) s.homes (h.head + 1) h.tail h.finished h.mark h.cells h.lost
              (ap (λ (l : List ℕ). set l 0 ((h.head + 1) % 18446744073709551616)) h.words ∙ ap (λ (n : ℕ). n ∷ h.tail ∷ h.finished ∷ h.mark ∷ h.cells) up)
              (core.draws P h.tree all_shares h.lost now h.core id me.0.worker mine is more)
              h.wide
              (λ t lt. fits_same t s.homes s.homes h.cells h.cells ws (set ws id w) h.lost (record {
                having_same = omega (arith, shift (λ u. having (hit t) u.stage) w, ap (having (hit t)) is, quiet_drawn (having (hit t)) refl (λ d. refl) (lib.Dec.ltb h.head (length P)) h.head);
                reserving_same = omega (arith, shift (λ u. reserving P t u.stage) w, ap (reserving P t) is, quiet_drawn (reserving P t) refl (λ d. refl) (lib.Dec.ltb h.head (length P)) h.head);
                finished_same = omega (arith, shift (λ u. times t u.finished) w);
                shown_same = refl;
              }) refl (h.slots t lt))
              (record { no_more = saw_end })
              (omega arith),
          (refl, sym len ∙ h.wide),
        )

    same_now : (w : Worker) → w ≡ me.0.worker → set ws id w ≡ ws
    same_now w e = ap (set ws id) e ∙ set_again ws id me.0.worker mine

    word_of : (c : ℕ) → get_or s.words (c + 4) 0 ≡ get_or h.cells c 0
    word_of c = let e : c + 4 ≡ suc (suc (suc (suc c))) = omega arith in ap (λ (l : List ℕ). get_or l (c + 4) 0) h.words ∙ ap (λ k. get_or (h.head ∷ h.tail ∷ h.finished ∷ h.mark ∷ h.cells) k 0) e

    cell_set : (c x : ℕ) → set s.words (c + 4) x ≡ h.head ∷ h.tail ∷ h.finished ∷ h.mark ∷ set h.cells c x
    cell_set c x = let e : c + 4 ≡ suc (suc (suc (suc c))) = omega arith in ap (λ (l : List ℕ). set l (c + 4) x) h.words ∙ ap (λ k. set (h.head ∷ h.tail ∷ h.finished ∷ h.mark ∷ h.cells) k x) e

    cell_kept : (c : ℕ) → set s.words (c + 4) (get_or h.cells c 0) ≡ h.head ∷ h.tail ∷ h.finished ∷ h.mark ∷ h.cells
    cell_kept c = cell_set c (get_or h.cells c 0) ∙ ap (λ (l : List ℕ). h.head ∷ h.tail ∷ h.finished ∷ h.mark ∷ l) (set-get_or h.cells c 0)

    empty_no : seen.Empty ≡ seen.NoMore → ⊥
    empty_no e = cc

    trace_no : (t : ℕ) → seen.Trace t ≡ seen.NoMore → ⊥
    trace_no t e = cc

    ticket_no : (t : ℕ) → seen.Ticket t ≡ seen.NoMore → ⊥
    ticket_no t e = cc

    pub nothing_no : seen.Nothing ≡ seen.NoMore → ⊥
    nothing_no e = cc

    -- a look at the cell of a ticket
    looks_goes : (c : ℕ) → me.0.worker.stage ≡ Ticket c → (x : ℕ) → get_or h.cells c 0 ≡ x
        → (v' : View W) × (a : Act (Option (Content H D))) × Valid s.homes me.1 a × Held (stepped s (c + 4) x id me.1 v' a) × looked (λ (w : W). P) (λ w. is_hint) (step (length s.homes) (c + 4) 0 0 none) me x (v', carried_after me.1 a)
    looks_goes c is zero cell =
        let v' : View W = moved me.0 me.0.worker event.Look seen.Empty in
        let same : ws ≡ set ws id me.0.worker = sym (same_now me.0.worker refl) in (
          v',
          keeps,
          tt,
          rebuilt s h id v' (set s.words (c + 4) 0) s.homes h.head h.tail h.finished h.mark h.cells h.lost
              (ap (λ (y : ℕ). set s.words (c + 4) y) (sym cell) ∙ cell_kept c)
              (subst (λ (l : List Worker). Rule P all_shares h.lost (state h.head h.tail h.finished h.mark h.cells l)) same h.core)
              h.wide
              (λ t lt. subst (λ (l : List Worker). Fits P is_hint is_final t h.cells l h.lost s.homes) same (h.slots t lt))
              (told_same me.0.worker event.Look seen.Empty empty_no)
              (omega arith),
          refl,
        )
    looks_goes c is (suc t) cell =
        let w : Worker = at_stage me.0.worker (Trace t 0) in
        let v' : View W = moved me.0 w event.Look (seen.Trace t) in
        let there = core.ticket_there P h.tree all_shares h.lost now h.core id me.0.worker mine c is in
        let not_taken : taken P t ws h.lost ≡ 0 = ap (λ x. Rattle.pool_core.specs.Rule.taken_at P x ws h.lost) (sym cell) ∙ there.0 in
        let c_in : c < length h.cells = omega (arith, h.core.wide, there.1) in
        let shown : 0 < times (suc t) h.cells = omega (arith, sums.term_le (hit (suc t)) h.cells c (suc t) (sums.at_index h.cells c 0 c_in ∙ ap some cell), sums.hit_same (suc t) (suc t) refl) in
        let t_in : t < length P = (dite (dec_lt t (length P)) (λ lt. lt) (λ ge. absurd (omega (arith, once.only_traces P h.tree all_shares h.lost now h.core t (omega arith))))) in
        let ready = (h.slots t t_in).ready shown not_taken in
        let parts = taken_sum t ws h.lost in
        let homes' : List (m.Option (Option (Content H D))) = set s.homes t none in
        let t_home : get_elem? homes' t ≡ some none = set_here s.homes t none (omega (arith, h.wide)) in (
          v',
          takes t ready.0,
          ready.1,
          rebuilt s h id v' (set s.words (c + 4) (suc t)) homes' h.head h.tail h.finished h.mark h.cells h.lost
              (ap (λ (y : ℕ). set s.words (c + 4) y) (sym cell) ∙ cell_kept c)
              (core.looks P h.tree all_shares h.lost now h.core id me.0.worker mine c t is cell)
              (length-set s.homes t none ∙ h.wide)
              (λ u lt. dite (ℕ_discrete u t)
              (λ e. subst (λ (k : ℕ). Fits P is_hint is_final k h.cells (set ws id w) h.lost homes') (sym e) (record {
                busy = λ _. t_home;
                due = λ _. t_home;
                done = λ some_done. absurd (omega (arith, shift (λ x. times t x.finished) w));
                ready = λ _ none_now. absurd (omega (arith, taken_sum t (set ws id w) h.lost, shift (λ x. having (hit t) x.stage) w, shift (λ x. times t x.finished) w, ap (having (hit t)) is, sums.hit_same t t refl));
                early = λ none_shown. absurd (omega arith);
                lost_home = λ some_lost. absurd (omega arith);
              }))
              (λ n. fits_same u s.homes homes' h.cells h.cells ws (set ws id w) h.lost (record {
                having_same = omega (arith, shift (λ x. having (hit u) x.stage) w, ap (having (hit u)) is, sums.hit_else u t n);
                reserving_same = omega (arith, shift (λ x. reserving P u x.stage) w, ap (reserving P u) is);
                finished_same = omega (arith, shift (λ x. times u x.finished) w);
                shown_same = refl;
              }) (set_else s.homes t u none n) (h.slots u lt)))
              (told_same w event.Look (seen.Trace t) (trace_no t))
              (omega arith),
          (ready.0, refl, ready.2, t_in),
        )

    -- who has a cell reserved for the child x of t has t
    reserving-le : (x t : ℕ) → ((u : ℕ) → times x (children P u) ≡ hit u t) → (st : Stage) → Within P st → reserving P x st ≤ having (hit t) st
    reserving-le x t only Idle inside = omega arith
    reserving-le x t only (Ticket d) inside = omega arith
    reserving-le x t only (Trace u k) inside = omega arith
    reserving-le x t only (Placed u k d) inside = dite (ℕ_discrete x (child P u k))
        (λ e. omega (arith, only u, sums.hit-sym u t, sums.hit-le x (child P u k), sums.hit_same x (child P u k) e, sums.term_le (hit x) (children P u) k (child P u k) (sums.at_index (children P u) k 0 inside)))
        (λ n. omega (arith, sums.hit_else x (child P u k) n))
    reserving-le x t only Stopped inside = omega arith
    reserving-le x t only Spent inside = omega arith

    one_has : (t : ℕ) → total (λ w. having (hit t) w.stage) ws ≤ 1
    one_has t = omega (arith, (once.once P h.tree all_shares h.lost now h.core t).1, taken_sum t ws h.lost)

    no_other : (t k x : ℕ) → me.0.worker.stage ≡ Trace t k → get_elem? (children P t) k ≡ some x → total (λ w. reserving P x w.stage) ws ≡ 0
    no_other t k x is next =
        let n = next_child P t k x h.tree next in
        omega (arith, one_has t, sums.total_less (λ w. reserving P x w.stage) (λ w. having (hit t) w.stage) ws id me.0.worker mine (omega (arith, ap (reserving P x) is, ap (having (hit t)) is, sums.hit_same t t refl)) (λ i w e. reserving-le x t n.2 w.stage (h.core.fair i w e).within))

    only_one : (t x : ℕ) → ((u : ℕ) → times x (children P u) ≡ hit u t) → total (λ w. reserving P x w.stage) ws ≤ 1
    only_one t x only = omega (arith, one_has t, sums.total_le (λ w. reserving P x w.stage) (λ w. having (hit t) w.stage) ws (λ i w e. reserving-le x t only w.stage (h.core.fair i w e).within))

    child_in : (t k x : ℕ) → get_elem? (children P t) k ≡ some x → (x < length P) × (get_elem? P x ≡ some (Some t))
    child_in t k x next = child_of P t k x h.tree next

    reserves_goes : (slots t k : ℕ) → me.0.worker.stage ≡ Trace t k → k < size P t → length s.homes ≡ slots
        → Goes s 1 (λ n. (n + 1) % 18446744073709551616) id me (λ n m. (m ≡ (moved me.0 (at_stage me.0.worker (Placed t k n)) event.Reserve (seen.Ticket n), (child P t k, None) ∷ me.1)) × (n < slots)) h.tail
    reserves_goes slots t k is less len =
        let w : Worker = at_stage me.0.worker (Placed t k h.tail) in
        let v' : View W = moved me.0 w event.Reserve (seen.Ticket h.tail) in
        let x : ℕ = child P t k in
        let next : get_elem? (children P t) k ≡ some x = sums.at_index (children P t) k 0 less in
        let x_in = child_in t k x next in
        let room : h.tail < length P = once.room P h.tree all_shares h.lost now h.core id me.0.worker t k mine is less in
        let few : length P ≤ 262144 = h.small in
        let up : (h.tail + 1) % 18446744073709551616 ≡ h.tail + 1 = omega arith in
        let new = core.unshown P h.tree all_shares h.lost now h.core id me.0.worker mine t k x (ap (having (hit t)) is ∙ sums.hit_same t t refl) (ap (showing P (hit x)) is) next in
        let alone = no_other t k x is next in
        let early = (h.slots x x_in.0).early new.0 alone in
        let homes' : List (m.Option (Option (Content H D))) = set s.homes x none in
        let x_home : get_elem? homes' x ≡ some none = set_here s.homes x none (omega (arith, h.wide, x_in.0)) in
        let parts = taken_sum x ws h.lost in (
          v',
          takes x None,
          early,
          rebuilt s h id v' (set s.words 1 ((h.tail + 1) % 18446744073709551616)) homes' h.head (h.tail + 1) h.finished h.mark h.cells h.lost
              (ap (λ (l : List ℕ). set l 1 ((h.tail + 1) % 18446744073709551616)) h.words ∙ ap (λ (n : ℕ). h.head ∷ n ∷ h.finished ∷ h.mark ∷ h.cells) up)
              (core.reserves P h.tree all_shares h.lost now h.core id me.0.worker mine t k is less)
              (length-set s.homes x none ∙ h.wide)
              (λ u lt. dite (ℕ_discrete u x)
              (λ e. subst (λ (z : ℕ). Fits P is_hint is_final z h.cells (set ws id w) h.lost homes') (sym e) (record {
                busy = λ _. x_home;
                due = λ _. x_home;
                done = λ some_done. absurd (omega (arith, new.1, shift (λ y. times x y.finished) w));
                ready = λ some_shown _. absurd (omega (arith, new.0));
                early = λ _ none_due. absurd (omega (arith, shift (λ y. reserving P x y.stage) w, ap (reserving P x) is, sums.hit_same x x refl));
                lost_home = λ some_lost. absurd (omega (arith, new.1));
              }))
              (λ n. fits_same u s.homes homes' h.cells h.cells ws (set ws id w) h.lost (record {
                having_same = omega (arith, shift (λ y. having (hit u) y.stage) w, ap (having (hit u)) is);
                reserving_same = omega (arith, shift (λ y. reserving P u y.stage) w, ap (reserving P u) is, sums.hit_else u x n);
                finished_same = omega (arith, shift (λ y. times u y.finished) w);
                shown_same = refl;
              }) (set_else s.homes x u none n) (h.slots u lt)))
              (told_same w event.Reserve (seen.Ticket h.tail) (ticket_no h.tail))
              (omega arith),
          (refl, omega (arith, room, h.wide)),
        )

    shows_goes : (t k d : ℕ) (hint : H) (rest : List (ℕ × Option (Content H D))) → me.0.worker.stage ≡ Placed t k d → me.1 ≡ (child P t k, Some (Hint hint)) ∷ rest → is_hint (child P t k) hint
        → Goes s (d + 4) (λ _. child P t k + 1) id me (λ n m. m ≡ (moved me.0 (at_stage me.0.worker (Trace t (k + 1))) event.Show seen.Nothing, table.rest me.1)) (child P t k + 1)
    shows_goes t k d hint rest is holds fit =
        let w : Worker = at_stage me.0.worker (Trace t (k + 1)) in
        let v' : View W = moved me.0 w event.Show seen.Nothing in
        let x : ℕ = child P t k in
        let less : k < size P t = subst (Within P) is (h.core.fair id me.0.worker mine).within in
        let next : get_elem? (children P t) k ≡ some x = sums.at_index (children P t) k 0 less in
        let only = next_child P t k x h.tree next in
        let x_in = child_in t k x next in
        let was = core.place_there P h.tree all_shares h.lost now h.core id me.0.worker mine t k d is in
        let d_in : d < length h.cells = omega (arith, h.core.wide, was.1, once.short P h.tree all_shares h.lost now h.core) in
        let at_d : get_elem? h.cells d ≡ some 0 = sums.at_index h.cells d 0 d_in ∙ ap some was.0 in
        let new = core.unshown P h.tree all_shares h.lost now h.core id me.0.worker mine t k x (ap (having (hit t)) is ∙ sums.hit_same t t refl) (ap (showing P (hit x)) is) next in
        let cells' : List ℕ = set h.cells d (suc x) in
        let homes' : List (m.Option (Option (Content H D))) = set s.homes x (some (Some (Hint hint))) in
        let x_home : get_elem? homes' x ≡ some (some (Some (Hint hint))) = set_here s.homes x (some (Some (Hint hint))) (omega (arith, h.wide, x_in.0)) in
        let up : x + 1 ≡ suc x = omega arith in
        let parts = taken_sum x ws h.lost in
        let shown_now = sums.total-set (hit (suc x)) h.cells d 0 (suc x) at_d in (
          v',
          gives,
          tt,
          subst (λ (l : List (m.Option (Option (Content H D)))). Held record { words = set s.words (d + 4) (x + 1); homes = l; views = set s.views id v' }) (sym (ap (table.put_back s.homes) holds))
              (rebuilt s h id v' (set s.words (d + 4) (x + 1)) homes' h.head h.tail h.finished h.mark cells' h.lost
              (ap (λ (n : ℕ). set s.words (d + 4) n) up ∙ cell_set d (suc x))
              (core.shows P h.tree all_shares h.lost now h.core id me.0.worker mine t k d is)
              (length-set s.homes x (some (Some (Hint hint))) ∙ h.wide)
              (λ u lt. dite (ℕ_discrete u x)
              (λ e. subst (λ (z : ℕ). Fits P is_hint is_final z cells' (set ws id w) h.lost homes') (sym e) (record {
                busy = λ some_has. absurd (omega (arith, new.1, shift (λ y. having (hit x) y.stage) w, ap (having (hit x)) is));
                due = λ some_due. absurd (omega (arith, only_one t x only.2, shift (λ y. reserving P x y.stage) w, ap (reserving P x) is, sums.hit_same x x refl));
                done = λ some_done. absurd (omega (arith, new.1, shift (λ y. times x y.finished) w));
                ready = λ _ _. (Some (Hint hint), x_home, subst (λ (o : m.Option (Option ℕ)). HintFits {D = D} o (is_hint x) (Some (Hint hint))) (sym x_in.1) fit);
                early = λ none_shown _. absurd (omega (arith, shown_now, sums.hit_same (suc x) (suc x) refl, sums.hit_else (suc x) 0 (λ z. omega arith)));
                lost_home = λ some_lost. absurd (omega (arith, new.1));
              }))
              (λ n. fits_same u s.homes homes' h.cells cells' ws (set ws id w) h.lost (record {
                having_same = omega (arith, shift (λ y. having (hit u) y.stage) w, ap (having (hit u)) is);
                reserving_same = omega (arith, shift (λ y. reserving P u y.stage) w, ap (reserving P u) is, sums.hit_else u x n);
                finished_same = omega (arith, shift (λ y. times u y.finished) w);
                shown_same = omega (arith, sums.total-set (hit (suc u)) h.cells d 0 (suc x) at_d, sums.hit_else (suc u) 0 (λ z. omega arith), sums.hit_else (suc u) (suc x) (λ z. n (omega arith)));
              }) (set_else s.homes x u (some (Some (Hint hint))) n) (h.slots u lt)))
              (told_same w event.Show seen.Nothing nothing_no)
              (omega arith)),
          refl,
        )

    -- who has a cell reserved for a trace has not shown it
    pub not_yet : (x : ℕ) → 0 < total (λ w. reserving P x w.stage) ws → times (suc x) h.cells ≡ 0
    not_yet x some_due = let f = sums.total-find (λ w. reserving P x w.stage) ws some_due in by_stage f.0 f.1 f.1.stage f.2 refl f.3
      where
        by_stage : (i : ℕ) (w : Worker) (st : Stage) → get_elem? ws i ≡ some w → w.stage ≡ st → 0 < reserving P x st → times (suc x) h.cells ≡ 0
        by_stage i w (Placed u k d) e is pos =
            let same : x ≡ child P u k = dite (ℕ_discrete x (child P u k)) (λ z. z) (λ n. absurd (omega (arith, sums.hit_else x (child P u k) n))) in
            let less : k < size P u = subst (Within P) is (h.core.fair i w e).within in
            (core.unshown P h.tree all_shares h.lost now h.core i w e u k x (ap (having (hit u)) is ∙ sums.hit_same u u refl) (ap (showing P (hit x)) is) (sums.at_index (children P u) k 0 less ∙ ap some (sym same))).0
        by_stage i w Idle e is pos = absurd (omega arith)
        by_stage i w (Ticket d) e is pos = absurd (omega arith)
        by_stage i w (Trace u k) e is pos = absurd (omega arith)
        by_stage i w Stopped e is pos = absurd (omega arith)
        by_stage i w Spent e is pos = absurd (omega arith)

    finishes_goes : (t k : ℕ) (result : D) (rest : List (ℕ × Option (Content H D))) → me.0.worker.stage ≡ Trace t k → k ≡ size P t → me.1 ≡ (t, Some (Done result)) ∷ rest → is_final t result
        → Goes s 2 (λ n. (n + 1) % 18446744073709551616) id me (λ n m. m ≡ (moved me.0 (done P me.0.worker t) event.Finish seen.Nothing, table.rest me.1)) h.finished
    finishes_goes t k result rest is all holds fit =
        let w : Worker = done P me.0.worker t in
        let v' : View W = moved me.0 w event.Finish seen.Nothing in
        let o = once.once P h.tree all_shares h.lost now h.core t in
        let has : having (hit t) me.0.worker.stage ≡ 1 = ap (having (hit t)) is ∙ sums.hit_same t t refl in
        let some_has = sums.term_le (λ y. having (hit t) y.stage) ws id me.0.worker mine in
        let parts = taken_sum t ws h.lost in
        let shown : 0 < times (suc t) h.cells = omega (arith, h.core.known t) in
        let t_in : t < length P = (dite (dec_lt t (length P)) (λ lt. lt) (λ ge. absurd (omega (arith, once.only_traces P h.tree all_shares h.lost now h.core t (omega arith))))) in
        let few : h.finished ≤ length P = once.finished-le P h.tree all_shares h.lost now h.core in
        let small : length P ≤ 262144 = h.small in
        let up : (h.finished + 1) % 18446744073709551616 ≡ h.finished + 1 = omega arith in
        let homes' : List (m.Option (Option (Content H D))) = set s.homes t (some (Some (Done result))) in
        let t_home : get_elem? homes' t ≡ some (some (Some (Done result))) = set_here s.homes t (some (Some (Done result))) (omega (arith, h.wide)) in (
          v',
          gives,
          tt,
          subst (λ (l : List (m.Option (Option (Content H D)))). Held record { words = set s.words 2 ((h.finished + 1) % 18446744073709551616); homes = l; views = set s.views id v' }) (sym (ap (table.put_back s.homes) holds))
              (rebuilt s h id v' (set s.words 2 ((h.finished + 1) % 18446744073709551616)) homes' h.head h.tail (h.finished + 1) h.mark h.cells h.lost
              (ap (λ (l : List ℕ). set l 2 ((h.finished + 1) % 18446744073709551616)) h.words ∙ ap (λ (n : ℕ). h.head ∷ h.tail ∷ n ∷ h.mark ∷ h.cells) up)
              (core.finishes P h.tree all_shares h.lost now h.core id me.0.worker mine t k is all)
              (length-set s.homes t (some (Some (Done result))) ∙ h.wide)
              (λ u lt. dite (ℕ_discrete u t)
              (λ e. subst (λ (z : ℕ). Fits P is_hint is_final z h.cells (set ws id w) h.lost homes') (sym e) (record {
                busy = λ some_has. absurd (omega (arith, o.1, shift (λ y. having (hit t) y.stage) w));
                due = λ some_due. absurd (omega (arith, not_yet t (omega (arith, shift (λ y. reserving P t y.stage) w, ap (reserving P t) is))));
                done = λ _. (result, t_home, fit);
                ready = λ _ none_now. absurd (omega (arith, taken_sum t (set ws id w) h.lost, shift (λ y. times t y.finished) w, sums.total-append (hit t) me.0.worker.finished (t ∷ []), sums.hit_same t t refl));
                early = λ none_shown _. absurd (omega arith);
                lost_home = λ some_lost. absurd (omega (arith, o.1));
              }))
              (λ n. fits_same u s.homes homes' h.cells h.cells ws (set ws id w) h.lost (record {
                having_same = omega (arith, shift (λ y. having (hit u) y.stage) w, ap (having (hit u)) is, sums.hit_else u t n);
                reserving_same = omega (arith, shift (λ y. reserving P u y.stage) w, ap (reserving P u) is);
                finished_same = omega (arith, shift (λ y. times u y.finished) w, sums.total-append (hit u) me.0.worker.finished (t ∷ []), sums.hit_else u t n);
                shown_same = refl;
              }) (set_else s.homes t u (some (Some (Done result))) n) (h.slots u lt)))
              (told_same w event.Finish seen.Nothing nothing_no)
              (omega arith)),
          refl,
        )

-- a draw
pub draws : {W H D : Type 0} (parents : W → List (Option ℕ)) (is_hint : W → ℕ → H → Type 0) (is_final : W → ℕ → D → Type 0) (slots id : ℕ) (me : Sat W H D)
    → me.0.worker.stage ≡ Idle → me.0.worker.draws < me.0.worker.share
    → (work : W) → me.0.work ≡ work → Allows (Holds (parents work) (is_hint work) (is_final work) work) slots id me 0 (λ n. (n + 1) % 2 ^ 64) (drew parents (step slots 0 1 0 none) me)
draws {W} parents is_hint is_final slots id me is more work same = subst (λ (k : W). Allows (Holds (parents k) (is_hint k) (is_final k) k) slots id me 0 (λ n. (n + 1) % 2 ^ 64) (drew parents (step slots 0 1 0 none) me)) same
    (λ s h len at small. subst (Goes (parents me.0.work) (is_hint me.0.work) (is_final me.0.work) me.0.work s 0 (λ n. (n + 1) % 18446744073709551616) id me (drew parents (step slots 0 1 0 none) me)) (sym (ap (λ (l : List ℕ). get_or l 0 0) h.words))
    (draws_goes (parents me.0.work) (is_hint me.0.work) (is_final me.0.work) me.0.work s h id me at slots is more len))

-- a look
pub looks : {W H D : Type 0} (parents : W → List (Option ℕ)) (is_hint : W → ℕ → H → Type 0) (is_final : W → ℕ → D → Type 0) (slots id : ℕ) (me : Sat W H D) (c : ℕ)
    → me.0.worker.stage ≡ Ticket c
    → (work : W) → me.0.work ≡ work → Allows (Holds (parents work) (is_hint work) (is_final work) work) slots id me (c + 4) (λ n. n) (looked parents is_hint (step slots (c + 4) 0 0 none) me)
looks {W} parents is_hint is_final slots id me c is work same = subst (λ (k : W). Allows (Holds (parents k) (is_hint k) (is_final k) k) slots id me (c + 4) (λ n. n) (looked parents is_hint (step slots (c + 4) 0 0 none) me)) same
    (λ s h len at small. subst (Goes (parents me.0.work) (is_hint me.0.work) (is_final me.0.work) me.0.work s (c + 4) (λ n. n) id me (looked parents is_hint (step slots (c + 4) 0 0 none) me)) (sym (word_of (parents me.0.work) (is_hint me.0.work) (is_final me.0.work) me.0.work s h id me at c))
    (found s h at (get_or h.cells c 0) refl))
  where
    found : (s : State (Option (Content _ _)) (View W)) (h : Holds (parents me.0.work) (is_hint me.0.work) (is_final me.0.work) me.0.work s) (at : get_elem? s.views id ≡ some me.0) (x : ℕ) → get_or h.cells c 0 ≡ x
        → Goes (parents me.0.work) (is_hint me.0.work) (is_final me.0.work) me.0.work s (c + 4) (λ n. n) id me (looked parents is_hint (step slots (c + 4) 0 0 none) me) x
    found s h at zero e = looks_goes (parents me.0.work) (is_hint me.0.work) (is_final me.0.work) me.0.work s h id me at c is zero e
    found s h at (suc t) e = looks_goes (parents me.0.work) (is_hint me.0.work) (is_final me.0.work) me.0.work s h id me at c is (suc t) e

module _ {W H D : Type 0} (parents : W → List (Option ℕ)) (is_hint : W → ℕ → H → Type 0) (is_final : W → ℕ → D → Type 0) (slots id : ℕ) (me : Sat W H D) where
  abbrev Ask : ℕ → (ℕ → ℕ) → (ℕ → Sat W H D → Type 0) → W → Type 0
  Ask i f then work = Allows (Holds (parents work) (is_hint work) (is_final work) work) slots id me i f then

  abbrev t : ℕ
  t = trace_of me.0.worker.stage

  abbrev k : ℕ
  k = count_of me.0.worker.stage

  -- a reserve
  pub reserves : me.0.worker.stage ≡ Trace t k → k < size (parents me.0.work) t → (work : W) → me.0.work ≡ work → Ask 1 (λ n. (n + 1) % 2 ^ 64) (reserved parents (step slots 1 1 0 none) me) work
  reserves is less work same = subst (Ask 1 (λ n. (n + 1) % 2 ^ 64) (reserved parents (step slots 1 1 0 none) me)) same
      (λ s h len at small. subst (Goes (parents me.0.work) (is_hint me.0.work) (is_final me.0.work) me.0.work s 1 (λ n. (n + 1) % 18446744073709551616) id me (reserved parents (step slots 1 1 0 none) me)) (sym (ap (λ (l : List ℕ). get_or l 1 0) h.words))
      (reserves_goes (parents me.0.work) (is_hint me.0.work) (is_final me.0.work) me.0.work s h id me at slots t k is less len))

  -- a show, with the hint in the child's slot
  pub shows : (d : ℕ) (hint : H) (rest : List (ℕ × Option (Content H D))) → me.0.worker.stage ≡ Placed t k d → me.1 ≡ (child (parents me.0.work) t k, Some (Hint hint)) ∷ rest → is_hint me.0.work (child (parents me.0.work) t k) hint
      → (new : ℕ) → new ≡ child (parents me.0.work) t k + 1 → (work : W) → me.0.work ≡ work → Ask (d + 4) (λ _. new) (λ _. showed parents (step slots (d + 4) new 0 none) me new) work
  shows d hint rest is holds fit new value work same = subst (Ask (d + 4) (λ _. new) (λ _. showed parents (step slots (d + 4) new 0 none) me new)) same
      (λ s h len at small. subst (λ (n : ℕ). Goes (parents me.0.work) (is_hint me.0.work) (is_final me.0.work) me.0.work s (d + 4) (λ _. n) id me (λ _. showed parents (step slots (d + 4) n 0 none) me n) 0) (sym value)
      (shows_goes (parents me.0.work) (is_hint me.0.work) (is_final me.0.work) me.0.work s h id me at t k d hint rest is holds fit))

  -- a finish, with the result in the trace's slot
  pub finishes : (result : D) (rest : List (ℕ × Option (Content H D))) → me.0.worker.stage ≡ Trace t k → k ≡ size (parents me.0.work) t → me.1 ≡ (t, Some (Done result)) ∷ rest → is_final me.0.work t result
      → (work : W) → me.0.work ≡ work → Ask 2 (λ n. (n + 1) % 2 ^ 64) (ended parents (step slots 2 1 0 none) me) work
  finishes result rest is all holds fit work same = subst (Ask 2 (λ n. (n + 1) % 2 ^ 64) (ended parents (step slots 2 1 0 none) me)) same
      (λ s h len at small. subst (Goes (parents me.0.work) (is_hint me.0.work) (is_final me.0.work) me.0.work s 2 (λ n. (n + 1) % 18446744073709551616) id me (ended parents (step slots 2 1 0 none) me)) (sym (ap (λ (l : List ℕ). get_or l 2 0) h.words))
      (finishes_goes (parents me.0.work) (is_hint me.0.work) (is_final me.0.work) me.0.work s h id me at t k result rest is all holds fit))

pub next_here : (P : List (Option ℕ)) (st : Stage) (c : ℕ) → IsNext P st c → (st ≡ Trace (trace_of st) (count_of st)) × (count_of st < size P (trace_of st)) × (c ≡ child P (trace_of st) (count_of st))
next_here P (Trace t k) c n = (refl, n.0, n.1)
next_here P Idle c n = absurd n
next_here P (Ticket d) c n = absurd n
next_here P (Placed t k d) c n = absurd n
next_here P Stopped c n = absurd n
next_here P Spent c n = absurd n

module _ {W H D : Type 0} (parents : W → List (Option ℕ)) (is_hint : W → ℕ → H → Type 0) (is_final : W → ℕ → D → Type 0) (slots id : ℕ) where
  -- a show, by a seat that has reserved a place and put the hint into the child's slot
  pub shows_after : (me : Sat W H D) (v : View W) (t k p : ℕ) (hint : H) (rest : List (ℕ × Option (Content H D)))
      → me ≡ (moved v (at_stage v.worker (Placed t k p)) event.Reserve (seen.Ticket p), (child (parents v.work) t k, Some (Hint hint)) ∷ rest)
      → is_hint v.work (child (parents v.work) t k) hint → (new : ℕ) → new ≡ child (parents v.work) t k + 1 → (work : W) → v.work ≡ work
      → Allows (Holds (parents work) (is_hint work) (is_final work) work) slots id me (p + 4) (λ _. new) (λ _. showed parents (step slots (p + 4) new 0 none) me new)
  shows_after me v t k p hint rest e fit new value work same =
      let after : Sat W H D = (moved v (at_stage v.worker (Placed t k p)) event.Reserve (seen.Ticket p), (child (parents v.work) t k, Some (Hint hint)) ∷ rest) in
      subst (λ (m : Sat W H D). Allows (Holds (parents work) (is_hint work) (is_final work) work) slots id m (p + 4) (λ _. new) (λ _. showed parents (step slots (p + 4) new 0 none) m new)) (sym e)
      (shows parents is_hint is_final slots id after p hint rest refl refl fit new value work same)

  -- a finish, by a seat that has shown each child and put the result into the trace's slot
  pub finishes_after : (me : Sat W H D) (before : View W) (t : ℕ) (ps : List ℕ) (result : D) (rest : List (ℕ × Option (Content H D)))
      → me ≡ (showing_view before t ps, (t, Some (Done result)) ∷ rest) → length ps ≡ size (parents before.work) t → is_final before.work t result → (work : W) → before.work ≡ work
      → Allows (Holds (parents work) (is_hint work) (is_final work) work) slots id me 2 (λ n. (n + 1) % 2 ^ 64) (ended parents (step slots 2 1 0 none) me)
  finishes_after me before t ps result rest e all fit work same =
      let after : Sat W H D = (showing_view before t ps, (t, Some (Done result)) ∷ rest) in
      subst (λ (m : Sat W H D). Allows (Holds (parents work) (is_hint work) (is_final work) work) slots id m 2 (λ n. (n + 1) % 2 ^ 64) (ended parents (step slots 2 1 0 none) m)) (sym e)
      (finishes parents is_hint is_final slots id after result rest refl all refl fit work same)
