-- A seat that stops keeps the rule.
use Rattle.std.proofs.Common.{◌≡◌, true, false, ℕ, zero, suc, ◌+◌, ◌<◌, ◌≢◌, List, ◌∷◌, map, length, get_or, set, sym, refl, ap, ◌∙◌, subst, arith, length-set}
use Rattle.std.specs.Prelude.{Option, None}
use mathlib.Core.Logic.{dite}
use native.Mathlib.Decide.{ℕ_discrete}
use mathlib.Core.Option.{none, some}
use mathlib.Core.Option as m
use lib.ListN.{get_elem?}
use Rattle.atomic_table.specs.Table as table
use Rattle.atomic_table.specs.Table.{State, step, Act, keeps, gives, Valid, carried_after, stepped, Allows}
use Rattle.atomic_table.proofs.Lists.{set_here, set_else, set_again}
use Rattle.pool_core.specs.Sums.{total, hit, times}
use Rattle.pool_core.specs.Events.{state, at_stage}
use Rattle.pool_core.specs.Rule.{having, place, Rule}
use Rattle.pool_core.specs.declared.model.Stage.{Stage}
use Rattle.pool_core.specs.declared.model.Stage.TheVariants.{Idle, Ticket, Trace, Stopped, Spent}
use Rattle.pool_core.specs.declared.model.Worker.{Worker}
use Rattle.pool_core.specs.declared.model.Event.TheVariants as event
use Rattle.pool_core.specs.declared.model.Seen.TheVariants as seen
use Rattle.pool_core.proofs.Sums as sums
use Rattle.pool_core.proofs.Once as once
use Rattle.pool_core.proofs.Keeps as core
use Rattle.trace_pool.specs.declared.parts.Content.{Content}
use Rattle.trace_pool.specs.declared.parts.View.{View}
use Rattle.trace_pool.specs.Slots.{all_shares, reserving, Fits, worker_of, Holds}
use Rattle.trace_pool.specs.Plays.{Sat, moved, halted, drop_last, saw}
use Rattle.trace_pool.specs.Sits.{IsStopping}
use Rattle.trace_pool.proofs.Steps.{Goes, Held, rebuilt, taken_sum, mine, shift, told_same, nothing_no, not_yet, now}

module _ {W H D : Type 0} (P : List (Option ℕ)) (is_hint : ℕ → H → Type 0) (is_final : ℕ → D → Type 0) (work : W) (s : State (Option (Content H D)) (View W)) (h : Holds P is_hint is_final work s) (id : ℕ) (me : Sat W H D) (at : get_elem? s.views id ≡ some me.0) where
  abbrev all : List Worker
  all = map (worker_of P is_hint is_final work) s.views

  abbrev w : Worker
  w = at_stage me.0.worker Stopped

  abbrev lost' : List Stage
  lost' = me.0.worker.stage ∷ h.lost

  moves : (f : Worker → ℕ) → total f (set all id w) + f me.0.worker ≡ total f all + f w
  moves f = shift P is_hint is_final work s h id me at f w

  -- of a trace that the seat does not have
  others : (u : ℕ) (homes' : List (m.Option (Option (Content H D)))) → having (hit u) me.0.worker.stage ≡ 0 → reserving P u me.0.worker.stage ≡ 0 → get_elem? homes' u ≡ get_elem? s.homes u → Fits P is_hint is_final u h.cells all h.lost s.homes
      → Fits P is_hint is_final u h.cells (set all id w) lost' homes'
  others u homes' without no_place home f = record {
    busy = λ e. home ∙ f.busy (omega (arith, moves (λ x. having (hit u) x.stage)));
    due = λ e. home ∙ f.due (omega (arith, moves (λ x. reserving P u x.stage)));
    done = λ e. let d = f.done (omega (arith, moves (λ x. times u x.finished))) in (d.0, home ∙ d.1, d.2);
    ready = λ e n. let x = f.ready e (omega (arith, moves (λ x. having (hit u) x.stage), moves (λ x. times u x.finished), taken_sum P is_hint is_final work u all h.lost, taken_sum P is_hint is_final work u (set all id w) lost')) in (x.0, home ∙ x.1, x.2);
    early = λ e n. home ∙ f.early e (omega (arith, moves (λ x. reserving P u x.stage)));
    lost_home = λ e. home ∙ f.lost_home (omega arith);
  }

  core_kept : ((c : ℕ) → place c me.0.worker.stage ≡ 0) → me.0.worker.stage ≢ Spent → Rule P all_shares lost' (state h.head h.tail h.finished 1 h.cells (set all id w))
  core_kept free going = core.gives_up P h.tree all_shares h.lost (now P is_hint is_final work s h id me at) h.core id me.0.worker (mine P is_hint is_final work s h id me at) 1 (λ z. omega arith) free going

  word : set s.words 3 1 ≡ h.head ∷ h.tail ∷ h.finished ∷ 1 ∷ h.cells
  word = ap (λ (l : List ℕ). set l 3 1) h.words

  -- an idle seat, or one with a ticket
  pub halts_quiet : ((u : ℕ) → having (hit u) me.0.worker.stage ≡ 0) → ((u : ℕ) → reserving P u me.0.worker.stage ≡ 0) → ((c : ℕ) → place c me.0.worker.stage ≡ 0) → me.0.worker.stage ≢ Spent
      → Goes P is_hint is_final work s 3 (λ _. 1) id me (λ n m. m ≡ (moved me.0 w event.Stop seen.Nothing, me.1)) 1
  halts_quiet without no_place free going = (
    moved me.0 w event.Stop seen.Nothing,
    keeps,
    tt,
    rebuilt P is_hint is_final work s h id (moved me.0 w event.Stop seen.Nothing) (set s.words 3 1) s.homes h.head h.tail h.finished 1 h.cells lost' word (core_kept free going) h.wide
        (λ t lt. others t s.homes (without t) (no_place t) refl (h.slots t lt))
        (told_same P is_hint is_final work s h id me at w event.Stop seen.Nothing (nothing_no P is_hint is_final work s h id me at))
        (omega arith),
    refl,
  )

  -- a seat with a trace, whose slot is empty
  pub halts_trace : (t k : ℕ) (rest : List (ℕ × Option (Content H D))) → me.0.worker.stage ≡ Trace t k → me.1 ≡ (t, None) ∷ rest
      → Goes P is_hint is_final work s 3 (λ _. 1) id me (λ n m. m ≡ (moved me.0 w event.Stop seen.Nothing, table.rest me.1)) 1
  halts_trace t k rest is holds =
      let homes' : List (m.Option (Option (Content H D))) = set s.homes t (some None) in
      let o = once.once P h.tree all_shares h.lost (now P is_hint is_final work s h id me at) h.core t in
      let has : having (hit t) me.0.worker.stage ≡ 1 = ap (having (hit t)) is ∙ sums.hit_same t t refl in
      let some_has = sums.term_le (λ y. having (hit t) y.stage) all id me.0.worker (mine P is_hint is_final work s h id me at) in
      let parts = taken_sum P is_hint is_final work t all h.lost in
      let shown : 0 < times (suc t) h.cells = omega (arith, h.core.known t) in
      let t_in = once.is_trace P h.tree all_shares h.lost (now P is_hint is_final work s h id me at) h.core t shown in
      let t_home : get_elem? homes' t ≡ some (some None) = set_here s.homes t (some None) (omega (arith, h.wide)) in (
        moved me.0 w event.Stop seen.Nothing,
        gives,
        tt,
        subst (λ (l : List (m.Option (Option (Content H D)))). Held P is_hint is_final work record { words = set s.words 3 1; homes = l; views = set s.views id (moved me.0 w event.Stop seen.Nothing) }) (sym (ap (table.put_back s.homes) holds))
            (rebuilt P is_hint is_final work s h id (moved me.0 w event.Stop seen.Nothing) (set s.words 3 1) homes' h.head h.tail h.finished 1 h.cells lost' word
            (core_kept (λ c. ap (place c) is) (λ e. differ (sym is ∙ e)))
            (length-set s.homes t (some None) ∙ h.wide)
            (λ u lt. dite (ℕ_discrete u t)
            (λ e. subst (λ (z : ℕ). Fits P is_hint is_final z h.cells (set all id w) lost' homes') (sym e) (record {
              busy = λ some_has. absurd (omega (arith, o.1, moves (λ y. having (hit t) y.stage)));
              due = λ some_due. absurd (omega (arith, not_yet P is_hint is_final work s h id me at t (omega (arith, moves (λ y. reserving P t y.stage), ap (reserving P t) is))));
              done = λ some_done. absurd (omega (arith, o.1, moves (λ y. times t y.finished)));
              ready = λ _ none_now. absurd (omega (arith, taken_sum P is_hint is_final work t (set all id w) lost'));
              early = λ none_shown _. absurd (omega arith);
              lost_home = λ _. t_home;
            }))
            (λ n. others u homes' (ap (having (hit u)) is ∙ sums.hit_else u t n) (ap (reserving P u) is) (set_else s.homes t u (some None) n) (h.slots u lt)))
            (told_same P is_hint is_final work s h id me at w event.Stop seen.Nothing (nothing_no P is_hint is_final work s h id me at))
            (omega arith)),
        refl,
      )
    where
      differ : Trace t k ≡ Spent → ⊥
      differ e = cc

module _ {W H D : Type 0} (P : List (Option ℕ)) (is_hint : ℕ → H → Type 0) (is_final : ℕ → D → Type 0) (work : W) (s : State (Option (Content H D)) (View W)) (h : Holds P is_hint is_final work s) (id : ℕ) (me : Sat W H D) (at : get_elem? s.views id ≡ some me.0) where
  -- a look at the mark, by a seat with a ticket
  pub sees_goes : (c m : ℕ) → me.0.worker.stage ≡ Ticket c → h.mark ≡ m → Goes P is_hint is_final work s 3 (λ n. n) id me (saw (step (length s.homes) 3 0 0 none) me) m
  sees_goes c zero is e = (
    moved me.0 me.0.worker event.See (seen.Mark false),
    keeps,
    tt,
    rebuilt P is_hint is_final work s h id (moved me.0 me.0.worker event.See (seen.Mark false)) (set s.words 3 0) s.homes h.head h.tail h.finished h.mark h.cells h.lost
        (ap (λ (l : List ℕ). set l 3 0) h.words ∙ ap (λ (n : ℕ). h.head ∷ h.tail ∷ h.finished ∷ n ∷ h.cells) (sym e))
        (subst (λ (l : List Worker). Rule P all_shares h.lost (state h.head h.tail h.finished h.mark h.cells l)) same h.core)
        h.wide
        (λ t lt. subst (λ (l : List Worker). Fits P is_hint is_final t h.cells l h.lost s.homes) same (h.slots t lt))
        (told_same P is_hint is_final work s h id me at me.0.worker event.See (seen.Mark false) (λ d. cc))
        (omega arith),
    refl,
  )
    where
      same : map (worker_of P is_hint is_final work) s.views ≡ set (map (worker_of P is_hint is_final work) s.views) id me.0.worker
      same = sym (set_again (map (worker_of P is_hint is_final work) s.views) id me.0.worker (mine P is_hint is_final work s h id me at))
  sees_goes c (suc m) is e = (
    moved me.0 (at_stage me.0.worker Stopped) event.See (seen.Mark true),
    keeps,
    tt,
    rebuilt P is_hint is_final work s h id (moved me.0 (at_stage me.0.worker Stopped) event.See (seen.Mark true)) (set s.words 3 (suc m)) s.homes h.head h.tail h.finished h.mark h.cells (me.0.worker.stage ∷ h.lost)
        (ap (λ (l : List ℕ). set l 3 (suc m)) h.words ∙ ap (λ (n : ℕ). h.head ∷ h.tail ∷ h.finished ∷ n ∷ h.cells) (sym e))
        (core.gives_up P h.tree all_shares h.lost (now P is_hint is_final work s h id me at) h.core id me.0.worker (mine P is_hint is_final work s h id me at) h.mark (λ z. omega arith) (λ d. ap (place d) is) (λ d. differ (sym is ∙ d)))
        h.wide
        (λ t lt. others P is_hint is_final work s h id me at t s.homes (ap (having (hit t)) is) (ap (reserving P t) is) refl (h.slots t lt))
        (told_same P is_hint is_final work s h id me at (at_stage me.0.worker Stopped) event.See (seen.Mark true) (λ d. cc))
        (omega arith),
    refl,
  )
    where
      differ : Ticket c ≡ Spent → ⊥
      differ e = cc

module _ {W H D : Type 0} (parents : W → List (Option ℕ)) (is_hint : W → ℕ → H → Type 0) (is_final : W → ℕ → D → Type 0) (slots id : ℕ) where
  -- a stop
  pub stops : (me : Sat W H D) (work : W) → me.0.work ≡ work → IsStopping me.0.worker.stage me.1 → Allows (Holds (parents work) (is_hint work) (is_final work) work) slots id me 3 (λ _. 1) (λ _. halted (step slots 3 1 0 none) me 1)
  stops me work same going = subst (λ (k : W). Allows (Holds (parents k) (is_hint k) (is_final k) k) slots id me 3 (λ _. 1) (λ _. halted (step slots 3 1 0 none) me 1)) same (λ s h len at small. by_stage s h at me.0.worker.stage refl going)
    where
      quiet : (s : State (Option (Content H D)) (View W)) (h : Holds (parents me.0.work) (is_hint me.0.work) (is_final me.0.work) me.0.work s) (at : get_elem? s.views id ≡ some me.0) (st : Stage) → me.0.worker.stage ≡ st
          → ((u : ℕ) → having (hit u) me.0.worker.stage ≡ 0) → ((u : ℕ) → reserving (parents me.0.work) u me.0.worker.stage ≡ 0) → ((c : ℕ) → place c me.0.worker.stage ≡ 0) → me.0.worker.stage ≢ Spent → drop_last st me.1 ≡ me.1
          → Goes (parents me.0.work) (is_hint me.0.work) (is_final me.0.work) me.0.work s 3 (λ _. 1) id me (λ _. halted (step slots 3 1 0 none) me 1) 1
      quiet s h at st is a b c d same = subst (λ (l : List (ℕ × Option (Content H D))). Goes (parents me.0.work) (is_hint me.0.work) (is_final me.0.work) me.0.work s 3 (λ _. 1) id me (λ _ m. m ≡ (moved me.0 (at_stage me.0.worker Stopped) event.Stop seen.Nothing, l)) 1)
          (sym (ap (λ st. drop_last st me.1) is ∙ same))
          (halts_quiet (parents me.0.work) (is_hint me.0.work) (is_final me.0.work) me.0.work s h id me at a b c d)

      by_stage : (s : State (Option (Content H D)) (View W)) (h : Holds (parents me.0.work) (is_hint me.0.work) (is_final me.0.work) me.0.work s) (at : get_elem? s.views id ≡ some me.0) (st : Stage) → me.0.worker.stage ≡ st → IsStopping st me.1
          → Goes (parents me.0.work) (is_hint me.0.work) (is_final me.0.work) me.0.work s 3 (λ _. 1) id me (λ _. halted (step slots 3 1 0 none) me 1) 1
      by_stage s h at Idle is going = quiet s h at Idle is (λ u. ap (having (hit u)) is) (λ u. ap (reserving (parents me.0.work) u) is) (λ c. ap (place c) is) (λ d. let e : Idle ≡ Spent = sym is ∙ d in cc) refl
      by_stage s h at (Ticket d) is going = quiet s h at (Ticket d) is (λ u. ap (having (hit u)) is) (λ u. ap (reserving (parents me.0.work) u) is) (λ c. ap (place c) is) (λ z. let e : Ticket d ≡ Spent = sym is ∙ z in cc) refl
      by_stage s h at (Trace t k) is going = subst (λ (c : List (ℕ × Option (Content H D))). Goes (parents me.0.work) (is_hint me.0.work) (is_final me.0.work) me.0.work s 3 (λ _. 1) id me (λ _ m. m ≡ (moved me.0 (at_stage me.0.worker Stopped) event.Stop seen.Nothing, c)) 1)
          (dropped going.0 going.1 ∙ sym (ap (λ st. drop_last st me.1) is))
          (halts_trace (parents me.0.work) (is_hint me.0.work) (is_final me.0.work) me.0.work s h id me at t k going.0 is going.1)
        where
          dropped : (rest : List (ℕ × Option (Content H D))) → me.1 ≡ (t, None) ∷ rest → table.rest me.1 ≡ drop_last (Trace t k) me.1
          dropped rest e = ap table.rest e ∙ sym (ap (drop_last (Trace t k)) e)
      by_stage s h at st is going = absurd going

  -- a look at the mark
  pub sees : (me : Sat W H D) (c : ℕ) → me.0.worker.stage ≡ Ticket c → (work : W) → me.0.work ≡ work → Allows (Holds (parents work) (is_hint work) (is_final work) work) slots id me 3 (λ n. n) (saw (step slots 3 0 0 none) me)
  sees me c is work same = subst (λ (k : W). Allows (Holds (parents k) (is_hint k) (is_final k) k) slots id me 3 (λ n. n) (saw (step slots 3 0 0 none) me)) same
      (λ s h len at small. subst (Goes (parents me.0.work) (is_hint me.0.work) (is_final me.0.work) me.0.work s 3 (λ n. n) id me (saw (step slots 3 0 0 none) me)) (sym (ap (λ (l : List ℕ). get_or l 3 0) h.words)) (by_mark s h at h.mark refl))
    where
      by_mark : (s : State (Option (Content H D)) (View W)) (h : Holds (parents me.0.work) (is_hint me.0.work) (is_final me.0.work) me.0.work s) (at : get_elem? s.views id ≡ some me.0) (m : ℕ) → h.mark ≡ m
          → Goes (parents me.0.work) (is_hint me.0.work) (is_final me.0.work) me.0.work s 3 (λ n. n) id me (saw (step slots 3 0 0 none) me) m
      by_mark s h at zero e = sees_goes (parents me.0.work) (is_hint me.0.work) (is_final me.0.work) me.0.work s h id me at c zero is e
      by_mark s h at (suc m) e = sees_goes (parents me.0.work) (is_hint me.0.work) (is_final me.0.work) me.0.work s h id me at c (suc m) is e

  pub sees_after : (me : Sat W H D) (v : View W) (held : List (ℕ × Option (Content H D))) (c : ℕ) → me ≡ (moved v v.worker event.Look seen.Empty, held) → v.worker.stage ≡ Ticket c → (work : W) → v.work ≡ work
      → Allows (Holds (parents work) (is_hint work) (is_final work) work) slots id me 3 (λ n. n) (saw (step slots 3 0 0 none) me)
  sees_after me v held c e is work same = subst (λ (m : Sat W H D). Allows (Holds (parents work) (is_hint work) (is_final work) work) slots id m 3 (λ n. n) (saw (step slots 3 0 0 none) m)) (sym e) (sees (moved v v.worker event.Look seen.Empty, held) c is work same)
