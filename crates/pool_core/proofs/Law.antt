-- The rule over all lists of events, and what it says of a pool that nobody works in.
use Rattle.std.proofs.Common.{◌≡◌, ℕ, zero, suc, ◌+◌, ◌<◌, ◌≤◌, List, [], ◌∷◌, length, get_or, set, sym, refl, ap, ◌∙◌, subst, inl, inr, arith, min}
use Rattle.std.specs.Prelude.{Option, Some, None}
use mathlib.Core.Logic.{dite}
use native.Mathlib.Decide.{ℕ_discrete, dec_lt}
use mathlib.Core.Option.{none, some, some-injective, some-ne-none}
use lib.ListN.{get_elem?}
use Rattle.pool_core.specs.Sums.{total, hit, times}
use Rattle.pool_core.specs.Tree.{children, IsTree}
use Rattle.pool_core.specs.Events.{at_stage, state, looked_stage, put, saw}
use Rattle.pool_core.specs.Rule.{ticket, place, having, is_working, showing, taken, taken_at, Rule, Kept}
use Rattle.pool_core.specs.Runs.{May, after, Can, next, next_of, runs, Allowed, IsFinished, IsWaiting}
use Rattle.pool_core.specs.declared.model.Stage.{Stage}
use Rattle.pool_core.specs.declared.model.Stage.TheVariants.{Idle, Ticket, Trace, Placed, Stopped, Spent}
use Rattle.pool_core.specs.declared.model.Worker.{Worker}
use Rattle.pool_core.specs.declared.model.State.{State}
use Rattle.pool_core.specs.declared.model.Event.{Event}
use Rattle.pool_core.specs.declared.model.Event.TheVariants.{Draw, Look, Reserve, Show, Finish, Stop, See}
use Rattle.pool_core.proofs.Sums.{hit_else, hit-sym, under_in, get_or_past, at_index, total_le_all, total-find, total-add, get_or_at, hit-le, set_again}
use Rattle.pool_core.proofs.Trees.{root_in, child_in}
use Rattle.pool_core.proofs.Once.{once}
use Rattle.pool_core.proofs.Keeps.{draws, gives_up, looks, reserves, shows, finishes}

module _ (P : List (Option ℕ)) (tree : IsTree P) (whole : ℕ) where
  module _ (lost : List Stage) (s : State) (r : Rule P whole lost s) (i : ℕ) (w : Worker) (at : get_elem? s.workers i ≡ some w) where
    look_by : (c x : ℕ) → w.stage ≡ Ticket c → get_or s.cells c 0 ≡ x → Rule P whole lost (put s i (at_stage w (looked_stage P c x)))
    look_by c zero is e = subst (λ (l : List Worker). Rule P whole lost (state s.head s.tail s.finished s.mark s.cells l)) (sym (ap (λ st. set s.workers i (at_stage w st)) (sym is) ∙ set_again s.workers i w at)) r
    look_by c (suc t) is e = looks P tree whole lost s r i w at c t is e

    see_by : (m c : ℕ) → s.mark ≡ m → w.stage ≡ Ticket c → Kept P whole (saw m s i w)
    see_by zero c e is = (lost, r)
    see_by (suc m) c e is = (w.stage ∷ lost, gives_up P tree whole lost s r i w at s.mark (λ z. omega arith) (λ d. ap (place d) is) (λ d. differ (sym is ∙ d)))
      where
        differ : Ticket c ≡ Spent → ⊥
        differ d = cc

    keeps_by : (e : Event) (st : Stage) → w.stage ≡ st → May P e st w → Kept P whole (after P e st s i w)
    keeps_by Draw Idle is m = (lost, draws P tree whole lost s r i w at is m)
    keeps_by Look (Ticket c) is m = (lost, look_by c (get_or s.cells c 0) is refl)
    keeps_by Reserve (Trace t k) is m = (lost, reserves P tree whole lost s r i w at t k is m)
    keeps_by Show (Placed t k d) is m = (lost, shows P tree whole lost s r i w at t k d is)
    keeps_by Finish (Trace t k) is m = (lost, finishes P tree whole lost s r i w at t k is m)
    keeps_by Stop Idle is m = (w.stage ∷ lost, gives_up P tree whole lost s r i w at 1 (λ z. omega arith) (λ d. ap (place d) is) (λ d. let e : Idle ≡ Spent = sym is ∙ d in cc))
    keeps_by Stop (Ticket c) is m = (w.stage ∷ lost, gives_up P tree whole lost s r i w at 1 (λ z. omega arith) (λ d. ap (place d) is) (λ d. let e : Ticket c ≡ Spent = sym is ∙ d in cc))
    keeps_by Stop (Trace t k) is m = (w.stage ∷ lost, gives_up P tree whole lost s r i w at 1 (λ z. omega arith) (λ d. ap (place d) is) (λ d. let e : Trace t k ≡ Spent = sym is ∙ d in cc))
    keeps_by See (Ticket c) is m = see_by s.mark c refl is
    keeps_by e st is m = absurd m

  next_keeps : (s : State) (i : ℕ) (e : Event) (o : mathlib.Core.Option.Option Worker) → get_elem? s.workers i ≡ o → Kept P whole s → Can P s i e → Kept P whole (next_of P i e s o)
  next_keeps s i e none at r can = r
  next_keeps s i e (some w) at r can = let same : can.0 ≡ w = some-injective can.0 w (sym can.1 ∙ at) in keeps_by r.0 s r.1 i w at e w.stage refl (subst (λ (v : Worker). May P e v.stage v) same can.2)

  -- an event that is allowed keeps the rule
  pub keeps : (s : State) (i : ℕ) (e : Event) → Kept P whole s → Can P s i e → Kept P whole (next P s i e)
  keeps s i e r can = next_keeps s i e (get_elem? s.workers i) refl r can

  -- so does each list of events, each of which is allowed when it comes
  pub runs_keep : (es : List (ℕ × Event)) (s : State) → Kept P whole s → Allowed P es s → Kept P whole (runs P es s)
  runs_keep [] s r a = r
  runs_keep (x ∷ xs) s r a = runs_keep xs (next P s x.0 x.1) (keeps s x.0 x.1 r a.0) a.1

  module _ (lost : List Stage) (s : State) (r : Rule P whole lost s) where
    -- each table entry is set once at most
    pub set_once : (t : ℕ) → total (λ w. times t w.finished) s.workers ≤ 1
    set_once t = omega (arith, (once P tree whole lost s r t).1, total_le_all (λ w. times t w.finished) (λ w. having (hit t) w.stage + total (hit t) w.finished) s.workers (λ w. omega arith))

    has_ticket : (c : ℕ) (st : Stage) → 0 < ticket c st → st ≡ Ticket c
    has_ticket c Idle h = absurd (omega arith)
    has_ticket c (Ticket d) h = dite (ℕ_discrete c d) (λ e. ap (λ (k : ℕ). Ticket k) (sym e)) (λ n. absurd (omega (arith, hit_else c d n)))
    has_ticket c (Trace t k) h = absurd (omega arith)
    has_ticket c (Placed t k d) h = absurd (omega arith)
    has_ticket c Stopped h = absurd (omega arith)
    has_ticket c Spent h = absurd (omega arith)

    is_hit : (x y : ℕ) → 0 < hit x y → y ≡ x
    is_hit x y h = dite (ℕ_discrete x y) (λ e. sym e) (λ n. absurd (omega (arith, hit_else x y n)))

    is_shown : (t : ℕ) (o : Option ℕ) → get_elem? P t ≡ some o → ((u : ℕ) → u < t → IsFinished P s u) → 0 < times (suc t) s.cells
    is_shown t None at lower = omega (arith, r.shown t, root_in P t at)
    is_shown t (Some p) at lower =
        let up = lower p (tree t p at) in
        omega (
          arith,
          r.shown t,
          total_le_all (λ w. times p w.finished) (λ w. showing P (hit t) w.stage + total (λ q. times t (children P q)) w.finished) s.workers
              (λ w. omega (arith, total_le_all (hit p) (λ q. times t (children P q)) w.finished (λ q. omega (arith, child_in P t p at q, hit-sym q p)))),
        )

    having-le : (t : ℕ) (st : Stage) → having (hit t) st ≤ is_working st
    having-le t Idle = omega arith
    having-le t (Ticket d) = omega arith
    having-le t (Trace u k) = hit-le t u
    having-le t (Placed u k d) = hit-le t u
    having-le t Stopped = omega arith
    having-le t Spent = omega arith

    -- where none has a trace and nothing was given up, the lowest unfinished trace waits in a cell
    pub waits_if : total (λ w. is_working w.stage) s.workers ≡ 0 → lost ≡ [] → (t : ℕ) → t < length P → ¬ IsFinished P s t → ((u : ℕ) → u < t → IsFinished P s u) → IsWaiting P s t
    waits_if none_works nothing t t_in not_done lower =
        let found = total-find (hit (suc t)) s.cells (is_shown t (get_or P t None) (at_index P t None t_in) lower) in
        let c : ℕ = found.0 in
        let is : found.1 ≡ suc t = is_hit (suc t) found.1 found.3 in
        let cell : get_or s.cells c 0 ≡ suc t = get_or_at s.cells c found.1 0 found.2 ∙ is in
        let free : taken P t s.workers lost ≡ 0 = omega (
          arith,
          total-add (λ w. having (hit t) w.stage) (λ w. total (hit t) w.finished) s.workers,
          total_le_all (λ w. having (hit t) w.stage) (λ w. is_working w.stage) s.workers (λ w. having-le t w.stage),
          ap (total (having (hit t))) nothing,
        ) in
        let at_cell : taken_at P (get_or s.cells c 0) s.workers lost ≡ 0 = ap (λ x. taken_at P x s.workers lost) cell ∙ free in
        let c_in : c < length P = (dite (dec_lt c (length s.cells)) (λ lt. omega (arith, r.wide)) (λ ge. absurd (omega (arith, get_or_past s.cells c 0 (omega arith))))) in
        dite (dec_lt c s.head)
        (λ lt. let t_found = total-find (λ w. ticket c w.stage) s.workers (omega (arith, r.tickets c, at_cell, ap (total (ticket c)) nothing, under_in c (min s.head (length P)) (omega arith))) in
        (c, cell, inr (t_found.0, t_found.1, t_found.2, has_ticket c t_found.1.stage t_found.3)))
        (λ ge. (c, cell, inl (omega arith)))

    -- the same where the mark is unset
    pub waits : total (λ w. is_working w.stage) s.workers ≡ 0 → s.mark ≡ 0 → (t : ℕ) → t < length P → ¬ IsFinished P s t → ((u : ℕ) → u < t → IsFinished P s u) → IsWaiting P s t
    waits none_works unset = waits_if none_works (r.given_up (r.unset unset))
