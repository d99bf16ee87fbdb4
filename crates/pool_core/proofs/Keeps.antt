-- Each event keeps the rule.
use Rattle.std.proofs.Common.{◌≡◌, ℕ, zero, suc, ◌+◌, ◌<◌, ◌≤◌, ◌≢◌, List, [], ◌∷◌, length, get_or, set, take, sym, refl, ap, ◌∙◌, subst, ⊎_elim, arith, cond, min, lt-ltb, le-ltb, length-set, get_or-set_other, get_or-set_same, length-append}
use Rattle.std.specs.Prelude.{Option}
use mathlib.Core.Logic.{dite}
use native.Mathlib.Decide.{ℕ_discrete, dec_lt}
use mathlib.Core.Option.{some, some-injective}
use lib.ListN.{get_elem?}
use Rattle.pool_core.specs.Sums.{total, hit, under, times}
use Rattle.pool_core.specs.Tree.{children, IsTree}
use Rattle.pool_core.specs.Events.{worker, at_stage, state, child, put, drew, reserved, showed, done, ended}
use Rattle.pool_core.specs.Rule.{ticket, place, having, is_stopped, filled, showing, spread, Within, taken, taken_at, size, Fair, Rule}
use Rattle.pool_core.specs.declared.model.Stage.{Stage}
use Rattle.pool_core.specs.declared.model.Stage.TheVariants.{Idle, Ticket, Trace, Placed, Stopped, Spent}
use Rattle.pool_core.specs.declared.model.Worker.{Worker}
use Rattle.pool_core.specs.declared.model.State.{State}
use Rattle.pool_core.proofs.Sums.{hit_same, hit_else, hit-sym, under_in, under_out, under-le, under-suc, get_or_past, at_set, at_index, total-append, total-set, total_le_all, total_less, total-take-suc, take_whole, term_le, terms_le}
use Rattle.pool_core.proofs.Trees.{next_child}
use Rattle.pool_core.proofs.Once.{once, short, showing-le}

module _ (P : List (Option ℕ)) (tree : IsTree P) (whole : ℕ) (lost : List Stage) (s : State) (r : Rule P whole lost s) (i : ℕ) (w : Worker) (at : get_elem? s.workers i ≡ some w) where
  abbrev ws : List Worker
  ws = s.workers

  fair_set : (v : Worker) → Fair P v → (j : ℕ) (u : Worker) → get_elem? (set ws i v) j ≡ some u → Fair P u
  fair_set v f j u e = ⊎_elim (λ t. subst (Fair P) t.1 f) (λ t. r.fair j u t.1) (at_set ws i j v u e)

  moved : (f : Worker → ℕ) (v : Worker) → total f (set ws i v) + f w ≡ total f ws + f v
  moved f v = total-set f ws i w v at

  -- a stage with no trace and no place
  record Quiet (st : Stage) : Type 0 where
    no_place : (c : ℕ) → place c st ≡ 0
    no_trace : (f : ℕ → ℕ) → having f st ≡ 0
    no_child : (f : ℕ → ℕ) → showing P f st ≡ 0
    no_spread : spread P st ≡ 0
    going : is_stopped st ≡ 0
    inside : Within P st

  idle_quiet : Quiet Idle
  idle_quiet = record { no_place = λ c. refl; no_trace = λ f. refl; no_child = λ f. refl; no_spread = refl; going = refl; inside = tt }

  ticket_quiet : (d : ℕ) → Quiet (Ticket d)
  ticket_quiet d = record { no_place = λ c. refl; no_trace = λ f. refl; no_child = λ f. refl; no_spread = refl; going = refl; inside = tt }

  taken_same : (ws' : List Worker) → ((t : ℕ) → taken P t ws' lost ≡ taken P t ws lost) → (x : ℕ) → taken_at P x ws' lost ≡ taken_at P x ws lost
  taken_same ws' h zero = refl
  taken_same ws' h (suc t) = h t

  draws_at : (st : Stage) → Quiet st → w.stage ≡ Idle → w.draws < w.share → ((c : ℕ) → ticket c st + under c (min s.head (length P)) ≡ under c (min (s.head + 1) (length P)))
      → Rule P whole lost (state (s.head + 1) s.tail s.finished s.mark s.cells (set ws i (worker st w.finished w.share (w.draws + 1))))
  draws_at st q is more h =
      let v : Worker = worker st w.finished w.share (w.draws + 1) in
      let ws' : List Worker = set ws i v in
      let old : Quiet w.stage = subst Quiet (sym is) idle_quiet in
      let same : (t : ℕ) → taken P t ws' lost ≡ taken P t ws lost = (λ t. omega (arith, moved (λ u. having (hit t) u.stage + total (hit t) u.finished) v, q.no_trace (hit t), old.no_trace (hit t))) in
      let not_spent : w.share ≢ 0 = (λ e. omega arith) in
      record {
        wide = r.wide;
        heads = omega (arith, moved (λ u. u.draws) v, r.heads);
        shares = omega (arith, moved (λ u. u.share) v, r.shares);
        fair = fair_set v (record { bounded = omega arith; within = q.inside; spent = λ e. absurd (not_spent e) });
        cells = λ c. omega (arith, moved (λ u. place c u.stage) v, r.cells c, q.no_place c, old.no_place c);
        tails = omega (arith, moved (λ u. spread P u.stage + total (size P) u.finished) v, r.tails, q.no_spread, old.no_spread);
        tickets = λ c. omega (arith, moved (λ u. ticket c u.stage) v, r.tickets c, taken_same ws' same (get_or s.cells c 0), h c, ap (ticket c) is);
        known = λ t. omega (arith, same t, r.known t);
        shown = λ t. omega (arith, moved (λ u. showing P (hit t) u.stage + total (λ p. times t (children P p)) u.finished) v, r.shown t, q.no_child (hit t), old.no_child (hit t));
        counted = omega (arith, moved (λ u. length u.finished) v, r.counted);
        lost_within = r.lost_within;
        given_up = λ e. r.given_up (omega (arith, moved (λ u. is_stopped u.stage) v, q.going, old.going));
        unset = λ e. omega (arith, moved (λ u. is_stopped u.stage) v, q.going, old.going, r.unset e);
      }

  pub draws : w.stage ≡ Idle → w.draws < w.share → Rule P whole lost (drew P s i w)
  draws is more = dite (dec_lt s.head (length P))
      (λ lt. subst (λ st. Rule P whole lost (state (s.head + 1) s.tail s.finished s.mark s.cells (set ws i (worker st w.finished w.share (w.draws + 1))))) (ap (λ b. cond b (Ticket s.head) Idle) (sym (lt-ltb s.head (length P) lt)))
      (draws_at (Ticket s.head) (ticket_quiet s.head) is more (λ c. let a : min (s.head + 1) (length P) ≡ s.head + 1 = omega arith in let b : min s.head (length P) ≡ s.head = omega arith in omega (arith, under-suc c s.head, ap (under c) a, ap (under c) b))))
      (λ ge. subst (λ st. Rule P whole lost (state (s.head + 1) s.tail s.finished s.mark s.cells (set ws i (worker st w.finished w.share (w.draws + 1))))) (ap (λ b. cond b (Ticket s.head) Idle) (sym (le-ltb s.head (length P) (omega arith))))
      (draws_at Idle idle_quiet is more (λ c. let a : min (s.head + 1) (length P) ≡ min s.head (length P) = omega arith in omega (arith, ap (under c) a))))

  -- the worker gives up what it has, and stops
  pub gives_up : (mark : ℕ) → mark ≢ 0 → ((c : ℕ) → place c w.stage ≡ 0) → (w.stage ≢ Spent) → Rule P whole (w.stage ∷ lost) (state s.head s.tail s.finished mark s.cells (set ws i (at_stage w Stopped)))
  gives_up mark set_now free not_spent =
      let v : Worker = at_stage w Stopped in
      let ws' : List Worker = set ws i v in
      let lost' : List Stage = w.stage ∷ lost in
      let f = r.fair i w at in
      let same : (t : ℕ) → taken P t ws' lost' ≡ taken P t ws lost = (λ t. omega (arith, moved (λ u. having (hit t) u.stage + total (hit t) u.finished) v)) in
      let same_at : (x : ℕ) → taken_at P x ws' lost' ≡ taken_at P x ws lost = taken_same' same in
      let one : 0 < total (λ u. is_stopped u.stage) ws' = omega (arith, moved (λ u. is_stopped u.stage) v, term_le (λ u. is_stopped u.stage) ws i w at) in
      record {
        wide = r.wide;
        heads = omega (arith, moved (λ u. u.draws) v, r.heads);
        shares = omega (arith, moved (λ u. u.share) v, r.shares);
        fair = fair_set v (record { bounded = f.bounded; within = tt; spent = λ e. absurd (not_spent (f.spent e).0) });
        cells = λ c. omega (arith, moved (λ u. place c u.stage) v, r.cells c, free c);
        tails = omega (arith, moved (λ u. spread P u.stage + total (size P) u.finished) v, r.tails);
        tickets = λ c. omega (arith, moved (λ u. ticket c u.stage) v, r.tickets c, same_at (get_or s.cells c 0));
        known = λ t. omega (arith, same t, r.known t);
        shown = λ t. omega (arith, moved (λ u. showing P (hit t) u.stage + total (λ p. times t (children P p)) u.finished) v, r.shown t);
        counted = omega (arith, moved (λ u. length u.finished) v, r.counted);
        lost_within = first_within f.within;
        given_up = λ e. absurd (omega arith);
        unset = λ e. absurd (set_now e);
      }
    where
      taken_same' : ((t : ℕ) → taken P t (set ws i (at_stage w Stopped)) (w.stage ∷ lost) ≡ taken P t ws lost) → (x : ℕ) → taken_at P x (set ws i (at_stage w Stopped)) (w.stage ∷ lost) ≡ taken_at P x ws lost
      taken_same' h zero = refl
      taken_same' h (suc t) = h t

      first_within : Within P w.stage → (j : ℕ) (g : Stage) → get_elem? (w.stage ∷ lost) j ≡ some g → Within P g
      first_within h zero g e = subst (Within P) (some-injective w.stage g e) h
      first_within h (suc j) g e = r.lost_within j g e

  -- a stage that goes on, with its share unspent
  keeps_fair : (st : Stage) → Within P st → w.stage ≢ Spent → Fair P (at_stage w st)
  keeps_fair st h n = let f = r.fair i w at in record { bounded = f.bounded; within = h; spent = λ e. absurd (n (f.spent e).0) }

  pub ticket_there : (c : ℕ) → w.stage ≡ Ticket c → (taken_at P (get_or s.cells c 0) ws lost ≡ 0) × (c < min s.head (length P)) × (total (λ u. place c u.stage) ws ≤ 1)
  ticket_there c is =
      let one = term_le (λ u. ticket c u.stage) ws i w at in
      let mine : ticket c w.stage ≡ 1 = ap (ticket c) is ∙ hit_same c c refl in
      dite (dec_lt c (min s.head (length P)))
      (λ lt. (omega (arith, r.tickets c, under_in c (min s.head (length P)) lt), lt, omega (arith, r.cells c, under-le c s.tail)))
      (λ ge. absurd (omega (arith, r.tickets c, under_out c (min s.head (length P)) (omega arith))))

  -- the trace of the ticket's cell is taken
  pub looks : (c t : ℕ) → w.stage ≡ Ticket c → get_or s.cells c 0 ≡ suc t → Rule P whole lost (put s i (at_stage w (Trace t 0)))
  looks c t is found =
      let v : Worker = at_stage w (Trace t 0) in
      let ws' : List Worker = set ws i v in
      let mine = ticket_there c is in
      let none : taken P t ws lost ≡ 0 = ap (λ x. taken_at P x ws lost) (sym found) ∙ mine.0 in
      let in_cells : c < length s.cells = omega (arith, r.wide, mine.1) in
      let at_c : get_elem? s.cells c ≡ some (suc t) = at_index s.cells c 0 in_cells ∙ ap some found in
      let more : (u : ℕ) → taken P u ws' lost ≡ taken P u ws lost + hit u t = (λ u. omega (arith, moved (λ x. having (hit u) x.stage + total (hit u) x.finished) v, ap (having (hit u)) is)) in
      record {
        wide = r.wide;
        heads = omega (arith, moved (λ u. u.draws) v, r.heads);
        shares = omega (arith, moved (λ u. u.share) v, r.shares);
        fair = fair_set v (keeps_fair (Trace t 0) (omega arith) (λ e. differ (sym is ∙ e)));
        cells = λ d. omega (arith, moved (λ u. place d u.stage) v, r.cells d, ap (place d) is);
        tails = omega (arith, moved (λ u. spread P u.stage + total (size P) u.finished) v, r.tails, ap (spread P) is);
        tickets = λ d. omega (arith, moved (λ u. ticket d u.stage) v, r.tickets d, ap (ticket d) is, here more at_c d (get_or s.cells d 0) refl);
        known = λ u. omega (arith, more u, r.known u, first u none at_c);
        shown = λ u. omega (arith, moved (λ x. showing P (hit u) x.stage + total (λ p. times u (children P p)) x.finished) v, r.shown u, ap (showing P (hit u)) is);
        counted = omega (arith, moved (λ u. length u.finished) v, r.counted);
        lost_within = r.lost_within;
        given_up = λ e. r.given_up (omega (arith, moved (λ u. is_stopped u.stage) v, ap is_stopped is));
        unset = λ e. omega (arith, moved (λ u. is_stopped u.stage) v, ap is_stopped is, r.unset e);
      }
    where
      differ : Ticket c ≡ Spent → ⊥
      differ e = cc

      twice : (d u : ℕ) → d ≢ c → u ≡ t → get_or s.cells d 0 ≡ suc u → get_elem? s.cells c ≡ some (suc t) → ⊥
      twice d u n same e at_c =
          let d_in : d < length s.cells = (dite (dec_lt d (length s.cells)) (λ lt. lt) (λ ge. absurd (omega (arith, get_or_past s.cells d 0 (omega arith))))) in
          omega (arith, (once P tree whole lost s r t).0, terms_le (hit (suc t)) s.cells c d (suc t) (get_or s.cells d 0) n at_c (at_index s.cells d 0 d_in), hit_same (suc t) (suc t) refl, hit_same (suc t) (get_or s.cells d 0) (omega arith))

      here : ((u : ℕ) → taken P u (set ws i (at_stage w (Trace t 0))) lost ≡ taken P u ws lost + hit u t) → get_elem? s.cells c ≡ some (suc t)
          → (d x : ℕ) → get_or s.cells d 0 ≡ x → taken_at P x (set ws i (at_stage w (Trace t 0))) lost ≡ taken_at P x ws lost + hit d c
      here more at_c d zero e = dite (ℕ_discrete d c) (λ same. absurd (omega (arith, ap (λ k. get_or s.cells k 0) same))) (λ n. omega (arith, hit_else d c n))
      here more at_c d (suc u) e = dite (ℕ_discrete d c)
          (λ same. let tu : t ≡ u = omega (arith, ap (λ k. get_or s.cells k 0) same) in omega (arith, more u, hit_same d c same, hit_same u t (sym tu)))
          (λ n. dite (ℕ_discrete u t)
          (λ same. absurd (twice d u n same e at_c))
          (λ m. omega (arith, more u, hit_else d c n, hit_else u t m)))

      first : (u : ℕ) → taken P t ws lost ≡ 0 → get_elem? s.cells c ≡ some (suc t) → taken P u ws lost + hit u t ≤ times (suc u) s.cells
      first u none at_c = dite (ℕ_discrete u t)
          (λ e. omega (arith, hit_same u t e, ap (λ k. taken P k ws lost) e, term_le (hit (suc u)) s.cells c (suc t) at_c, hit_same (suc u) (suc t) (ap suc e)))
          (λ n. omega (arith, hit_else u t n, r.known u))

  -- the next child of the worker's trace was shown by nobody
  pub unshown : (t k c : ℕ) → having (hit t) w.stage ≡ 1 → showing P (hit c) w.stage ≡ total (hit c) (take k (children P t)) → get_elem? (children P t) k ≡ some c → (times (suc c) s.cells ≡ 0) × (taken P c ws lost ≡ 0)
  unshown t k c has shows next =
      let n = next_child P t k c tree next in
      let none : times (suc c) s.cells ≡ 0 = omega (
        arith,
        r.shown c,
        n.1,
        (once P tree whole lost s r t).1,
        total_less (λ u. showing P (hit c) u.stage + total (λ p. times c (children P p)) u.finished) (λ u. having (hit t) u.stage + total (hit t) u.finished) ws i w at
            (omega (arith, n.0, total_le_all (λ p. times c (children P p)) (hit t) w.finished (λ p. omega (arith, n.2 p, hit-sym p t))))
            (λ j u _. omega (arith, showing-le P c t n.2 u.stage, total_le_all (λ p. times c (children P p)) (hit t) u.finished (λ p. omega (arith, n.2 p, hit-sym p t)))),
        total_le_all (showing P (hit c)) (having (hit t)) lost (λ st. showing-le P c t n.2 st),
      ) in
      (none, omega (arith, r.known c))

  pub reserves : (t k : ℕ) → w.stage ≡ Trace t k → k < size P t → Rule P whole lost (reserved P s i w t k)
  reserves t k is less =
      let v : Worker = at_stage w (Placed t k s.tail) in
      let ws' : List Worker = set ws i v in
      let same : (u : ℕ) → taken P u ws' lost ≡ taken P u ws lost = (λ u. omega (arith, moved (λ x. having (hit u) x.stage + total (hit u) x.finished) v, ap (having (hit u)) is)) in
      record {
        wide = r.wide;
        heads = omega (arith, moved (λ u. u.draws) v, r.heads);
        shares = omega (arith, moved (λ u. u.share) v, r.shares);
        fair = fair_set v (keeps_fair (Placed t k s.tail) less (λ e. differ (sym is ∙ e)));
        cells = λ d. omega (arith, moved (λ u. place d u.stage) v, r.cells d, ap (place d) is, under-suc d s.tail);
        tails = omega (arith, moved (λ u. spread P u.stage + total (size P) u.finished) v, r.tails, ap (spread P) is);
        tickets = λ d. omega (arith, moved (λ u. ticket d u.stage) v, r.tickets d, ap (ticket d) is, taken_same ws' same (get_or s.cells d 0));
        known = λ u. omega (arith, same u, r.known u);
        shown = λ u. omega (arith, moved (λ x. showing P (hit u) x.stage + total (λ p. times u (children P p)) x.finished) v, r.shown u, ap (showing P (hit u)) is);
        counted = omega (arith, moved (λ u. length u.finished) v, r.counted);
        lost_within = r.lost_within;
        given_up = λ e. r.given_up (omega (arith, moved (λ u. is_stopped u.stage) v, ap is_stopped is));
        unset = λ e. omega (arith, moved (λ u. is_stopped u.stage) v, ap is_stopped is, r.unset e);
      }
    where
      differ : Trace t k ≡ Spent → ⊥
      differ e = cc

  -- the reserved cell is empty, and one of those below tail
  pub place_there : (t k d : ℕ) → w.stage ≡ Placed t k d → (get_or s.cells d 0 ≡ 0) × (d < s.tail)
  place_there t k d is =
      let one = term_le (λ u. place d u.stage) ws i w at in
      let mine : place d w.stage ≡ 1 = ap (place d) is ∙ hit_same d d refl in
      dite (dec_lt d s.tail)
      (λ lt. (zero_of (get_or s.cells d 0) (omega (arith, r.cells d, under-le d s.tail)), lt))
      (λ ge. absurd (omega (arith, r.cells d, under_out d s.tail (omega arith))))
    where
      zero_of : (x : ℕ) → filled x ≡ 0 → x ≡ 0
      zero_of zero h = refl
      zero_of (suc x) h = absurd (omega arith)

  pub shows : (t k d : ℕ) → w.stage ≡ Placed t k d → Rule P whole lost (showed P s i w t k d)
  shows t k d is =
      let v : Worker = at_stage w (Trace t (k + 1)) in
      let ws' : List Worker = set ws i v in
      let c : ℕ = child P t k in
      let f = r.fair i w at in
      let less : k < size P t = subst (Within P) is f.within in
      let next : get_elem? (children P t) k ≡ some c = at_index (children P t) k 0 less in
      let was = place_there t k d is in
      let in_cells : d < length s.cells = omega (arith, r.wide, was.1, short P tree whole lost s r) in
      let at_d : get_elem? s.cells d ≡ some 0 = at_index s.cells d 0 in_cells ∙ ap some was.0 in
      let new = unshown t k c (ap (having (hit t)) is ∙ hit_same t t refl) (ap (showing P (hit c)) is) next in
      let same : (u : ℕ) → taken P u ws' lost ≡ taken P u ws lost = (λ u. omega (arith, moved (λ x. having (hit u) x.stage + total (hit u) x.finished) v, ap (having (hit u)) is)) in
      record {
        wide = length-set s.cells d (suc c) ∙ r.wide;
        heads = omega (arith, moved (λ u. u.draws) v, r.heads);
        shares = omega (arith, moved (λ u. u.share) v, r.shares);
        fair = fair_set v (keeps_fair (Trace t (k + 1)) (omega arith) (λ e. differ (sym is ∙ e)));
        cells = λ e. omega (arith, moved (λ u. place e u.stage) v, r.cells e, ap (place e) is, filled_at in_cells was.0 e);
        tails = omega (arith, moved (λ u. spread P u.stage + total (size P) u.finished) v, r.tails, ap (spread P) is);
        tickets = λ e. omega (arith, moved (λ u. ticket e u.stage) v, r.tickets e, ap (ticket e) is, here same in_cells was.0 new.1 e);
        known = λ u. omega (arith, same u, r.known u, total-set (hit (suc u)) s.cells d 0 (suc c) at_d, zero_miss u);
        shown = λ u. omega (arith, moved (λ x. showing P (hit u) x.stage + total (λ p. times u (children P p)) x.finished) v, r.shown u, ap (showing P (hit u)) is, total-set (hit (suc u)) s.cells d 0 (suc c) at_d, zero_miss u, one_more u c next, both_hit u c);
        counted = omega (arith, moved (λ u. length u.finished) v, r.counted);
        lost_within = r.lost_within;
        given_up = λ e. r.given_up (omega (arith, moved (λ u. is_stopped u.stage) v, ap is_stopped is));
        unset = λ e. omega (arith, moved (λ u. is_stopped u.stage) v, ap is_stopped is, r.unset e);
      }
    where
      differ : Placed t k d ≡ Spent → ⊥
      differ e = cc

      zero_miss : (u : ℕ) → hit (suc u) 0 ≡ 0
      zero_miss u = hit_else (suc u) 0 (λ e. omega arith)

      both_hit : (u c : ℕ) → hit (suc u) (suc c) ≡ hit u c
      both_hit u c = dite (ℕ_discrete u c) (λ e. hit_same (suc u) (suc c) (ap suc e) ∙ sym (hit_same u c e)) (λ n. hit_else (suc u) (suc c) (λ e. n (omega arith)) ∙ sym (hit_else u c n))

      one_more : (u c : ℕ) → get_elem? (children P t) k ≡ some c → total (hit u) (take (k + 1) (children P t)) ≡ total (hit u) (take k (children P t)) + hit u c
      one_more u c next = let e : k + 1 ≡ suc k = omega arith in ap (λ n. total (hit u) (take n (children P t))) e ∙ total-take-suc (hit u) k (children P t) c next

      filled_at : d < length s.cells → get_or s.cells d 0 ≡ 0 → (e : ℕ) → filled (get_or (set s.cells d (suc (child P t k))) e 0) ≡ filled (get_or s.cells e 0) + hit e d
      filled_at h z e = dite (ℕ_discrete e d)
          (λ same. omega (arith, hit_same e d same, ap filled (ap (λ n. get_or (set s.cells d (suc (child P t k))) n 0) same ∙ get_or-set_same s.cells d (suc (child P t k)) 0 h), ap filled (ap (λ n. get_or s.cells n 0) same ∙ z)))
          (λ n. omega (arith, hit_else e d n, ap filled (get_or-set_other s.cells d e (suc (child P t k)) 0 n)))

      here : ((u : ℕ) → taken P u (set ws i (at_stage w (Trace t (k + 1)))) lost ≡ taken P u ws lost) → d < length s.cells → get_or s.cells d 0 ≡ 0 → taken P (child P t k) ws lost ≡ 0
          → (e : ℕ) → taken_at P (get_or (set s.cells d (suc (child P t k))) e 0) (set ws i (at_stage w (Trace t (k + 1)))) lost ≡ taken_at P (get_or s.cells e 0) ws lost
      here same h z none e = dite (ℕ_discrete e d)
          (λ is_d. ap (λ x. taken_at P x (set ws i (at_stage w (Trace t (k + 1)))) lost) (ap (λ n. get_or (set s.cells d (suc (child P t k))) n 0) is_d ∙ get_or-set_same s.cells d (suc (child P t k)) 0 h) ∙ (same (child P t k) ∙ none)
          ∙ sym (ap (λ x. taken_at P x ws lost) (ap (λ n. get_or s.cells n 0) is_d ∙ z)))
          (λ n. ap (λ x. taken_at P x (set ws i (at_stage w (Trace t (k + 1)))) lost) (get_or-set_other s.cells d e (suc (child P t k)) 0 n) ∙ taken_same (set ws i (at_stage w (Trace t (k + 1)))) same (get_or s.cells e 0))

  pub finishes : (t k : ℕ) → w.stage ≡ Trace t k → k ≡ size P t → Rule P whole lost (ended P s i w t)
  finishes t k is all =
      let v : Worker = done P w t in
      let ws' : List Worker = set ws i v in
      let f = r.fair i w at in
      let same : (u : ℕ) → taken P u ws' lost ≡ taken P u ws lost = (λ u. omega (arith, moved (λ x. having (hit u) x.stage + total (hit u) x.finished) v, ap (having (hit u)) is, total-append (hit u) w.finished (t ∷ []))) in
      record {
        wide = r.wide;
        heads = omega (arith, moved (λ u. u.draws) v, r.heads);
        shares = omega (arith, moved (λ u. u.share) v, r.shares);
        fair = fair_set v (record { bounded = f.bounded; within = tt; spent = λ e. absurd (differ (sym is ∙ (f.spent e).0)) });
        cells = λ d. omega (arith, moved (λ u. place d u.stage) v, r.cells d, ap (place d) is);
        tails = omega (arith, moved (λ u. spread P u.stage + total (size P) u.finished) v, r.tails, ap (spread P) is, total-append (size P) w.finished (t ∷ []));
        tickets = λ d. omega (arith, moved (λ u. ticket d u.stage) v, r.tickets d, ap (ticket d) is, taken_same ws' same (get_or s.cells d 0));
        known = λ u. omega (arith, same u, r.known u);
        shown = λ u. omega (arith, moved (λ x. showing P (hit u) x.stage + total (λ p. times u (children P p)) x.finished) v, r.shown u, ap (showing P (hit u)) is, total-append (λ p. times u (children P p)) w.finished (t ∷ []), whole_taken u);
        counted = omega (arith, moved (λ u. length u.finished) v, r.counted, length-append w.finished (t ∷ []));
        lost_within = r.lost_within;
        given_up = λ e. r.given_up (omega (arith, moved (λ u. is_stopped u.stage) v, ap is_stopped is));
        unset = λ e. omega (arith, moved (λ u. is_stopped u.stage) v, ap is_stopped is, r.unset e);
      }
    where
      differ : Trace t k ≡ Spent → ⊥
      differ e = cc

      whole_taken : (u : ℕ) → total (hit u) (take k (children P t)) ≡ times u (children P t)
      whole_taken u = ap (λ n. total (hit u) (take n (children P t))) all ∙ ap (total (hit u)) (take_whole (children P t))
