-- A seat is cut in two, and two are made one.
use Rattle.std.proofs.Common.{◌≡◌, ℕ, zero, suc, ◌+◌, ◌<◌, ◌≤◌, ◌≢◌, List, [], ◌∷◌, ◌++◌, length, get_or, set, refl, ◌∙◌, subst, ⊎_elim, arith, length-append}
use Rattle.std.specs.Prelude.{Option}
use mathlib.Core.Option.{some}
use lib.ListN.{get_elem?}
use Rattle.pool_core.specs.Sums.{total, hit, times}
use Rattle.pool_core.specs.Tree.{children}
use Rattle.pool_core.specs.Events.{state, parted, AtRest, merged, merged_stage, nobody}
use Rattle.pool_core.specs.Rule.{ticket, place, having, is_stopped, showing, spread, Within, taken_at, size, Fair, Rule}
use Rattle.pool_core.specs.Runs.{fresh}
use Rattle.pool_core.specs.declared.model.Stage.{Stage}
use Rattle.pool_core.specs.declared.model.Stage.TheVariants.{Idle, Stopped, Spent}
use Rattle.pool_core.specs.declared.model.Worker.{Worker}
use Rattle.pool_core.specs.declared.model.State.{State}
use Rattle.pool_core.proofs.Sums.{at_set, at_snoc, total-append, total-set, terms_le}

module _ (P : List (Option ℕ)) (whole : ℕ) (lost : List Stage) (s : State) (r : Rule P whole lost s) where
  abbrev with_workers : List Worker → State
  with_workers ws' = state s.head s.tail s.finished s.mark s.cells ws'

  -- what is the same where each sum over workers is
  abbrev Sums : List Worker → Type 0
  Sums ws' = (f : Stage → ℕ) (g : ℕ → ℕ) → f Idle ≡ 0 → f Stopped ≡ 0 → f Spent ≡ 0 → total (λ u. f u.stage + total g u.finished) ws' ≡ total (λ u. f u.stage + total g u.finished) s.workers

  abbrev Plain : List Worker → Type 0
  Plain ws' = (f : Stage → ℕ) → f Idle ≡ 0 → f Stopped ≡ 0 → f Spent ≡ 0 → total (λ u. f u.stage) ws' ≡ total (λ u. f u.stage) s.workers

  taken_same : (ws' : List Worker) → Sums ws' → (x : ℕ) → taken_at P x ws' lost ≡ taken_at P x s.workers lost
  taken_same ws' sums zero = refl
  taken_same ws' sums (suc t) = omega (arith, sums (having (hit t)) (hit t) refl refl refl)

  regrouped : (ws' : List Worker) → Sums ws' → Plain ws' → ((j : ℕ) (u : Worker) → get_elem? ws' j ≡ some u → Fair P u)
      → total (λ u. u.draws) ws' ≡ total (λ u. u.draws) s.workers → total (λ u. u.share) ws' ≡ total (λ u. u.share) s.workers → total (λ u. length u.finished) ws' ≡ total (λ u. length u.finished) s.workers
      → (total (λ u. is_stopped u.stage) ws' ≡ 0 → total (λ u. is_stopped u.stage) s.workers ≡ 0) → (total (λ u. is_stopped u.stage) s.workers ≡ 0 → total (λ u. is_stopped u.stage) ws' ≡ 0)
      → Rule P whole lost (with_workers ws')
  regrouped ws' sums plain fair draws shares counted stopped going = record {
    wide = r.wide;
    heads = draws ∙ r.heads;
    shares = shares ∙ r.shares;
    fair = fair;
    cells = λ c. omega (arith, r.cells c, plain (place c) refl refl refl);
    tails = omega (arith, r.tails, sums (spread P) (size P) refl refl refl);
    tickets = λ c. omega (arith, r.tickets c, plain (ticket c) refl refl refl, taken_same ws' sums (get_or s.cells c 0));
    known = λ t. omega (arith, r.known t, sums (having (hit t)) (hit t) refl refl refl);
    shown = λ t. omega (arith, r.shown t, sums (showing P (hit t)) (λ p. times t (children P p)) refl refl refl);
    counted = counted ∙ r.counted;
    lost_within = r.lost_within;
    given_up = λ e. r.given_up (stopped e);
    unset = λ e. going (r.unset e);
  }

  pub rests : (f : Stage → ℕ) → f Idle ≡ 0 → f Stopped ≡ 0 → (st : Stage) → AtRest st → f st ≡ 0
  rests f a b Idle h = a
  rests f a b Stopped h = b
  rests f a b st h = absurd h

  pub record Merges (a b : Stage) : Type 0 where
    pub still : AtRest (merged_stage a b)
    pub most : is_stopped (merged_stage a b) ≤ is_stopped a + is_stopped b
    pub least : is_stopped a + is_stopped b ≤ is_stopped (merged_stage a b) + is_stopped (merged_stage a b)
    pub inside : Within P (merged_stage a b)

  pub merges : (a b : Stage) → AtRest a → AtRest b → Merges a b
  merges Idle Idle p q = record { still = tt; most = omega arith; least = omega arith; inside = tt }
  merges Idle Stopped p q = record { still = tt; most = omega arith; least = omega arith; inside = tt }
  merges Stopped Idle p q = record { still = tt; most = omega arith; least = omega arith; inside = tt }
  merges Stopped Stopped p q = record { still = tt; most = omega arith; least = omega arith; inside = tt }
  merges Idle b p q = absurd q
  merges Stopped b p q = absurd q
  merges a b p q = absurd p

  module _ (i : ℕ) (w : Worker) (at : get_elem? s.workers i ≡ some w) where
    -- a new idle worker gets a part of the share
    pub splits : (part : ℕ) → 0 < part → w.draws + part < w.share → Rule P whole lost (with_workers (set s.workers i (parted part w) ++ fresh part ∷ []))
    splits part pos more =
        let v : Worker = parted part w in
        let f = r.fair i w at in
        let sum : (m : Worker → ℕ) → total m (set s.workers i v ++ fresh part ∷ []) + m w ≡ total m s.workers + m v + m (fresh part) = (λ m. omega (arith, total-append m (set s.workers i v) (fresh part ∷ []), total-set m s.workers i w v at)) in
        regrouped (set s.workers i v ++ fresh part ∷ [])
        (λ f g a b c. omega (arith, sum (λ u. f u.stage + total g u.finished), a))
        (λ f a b c. omega (arith, sum (λ u. f u.stage), a))
        (λ j u e. ⊎_elim
        (λ old. ⊎_elim (λ t. subst (Fair P) t.1 (record { bounded = omega arith; within = f.within; spent = λ z. absurd (omega arith) })) (λ t. r.fair j u t.1) (at_set s.workers i j v u old))
        (λ new. subst (Fair P) new (record { bounded = omega arith; within = tt; spent = λ z. absurd (omega arith) }))
        (at_snoc (set s.workers i v) (fresh part) u j e))
        (omega (arith, sum (λ u. u.draws)))
        (omega (arith, sum (λ u. u.share)))
        (omega (arith, sum (λ u. length u.finished)))
        (λ e. omega (arith, sum (λ u. is_stopped u.stage)))
        (λ e. omega (arith, sum (λ u. is_stopped u.stage)))

    -- two idle or stopped workers are made one
    pub joins : (j : ℕ) (x : Worker) → j ≢ i → AtRest w.stage → AtRest x.stage → 0 < w.share + x.share → get_elem? (set s.workers i (merged w x)) j ≡ some x
        → Rule P whole lost (with_workers (set (set s.workers i (merged w x)) j nobody))
    joins j x ne rest_w rest_x some_share at_x =
        let v : Worker = merged w x in
        let fw = r.fair i w at in
        let sum : (m : Worker → ℕ) → total m (set (set s.workers i v) j nobody) + m w + m x ≡ total m s.workers + m v + m nobody = (λ m. omega (arith, total-set m s.workers i w v at, total-set m (set s.workers i v) j x nobody at_x)) in
        let m = merges w.stage x.stage rest_w rest_x in
        let was_x : get_elem? s.workers j ≡ some x = ⊎_elim (λ t. absurd (ne t.0)) (λ t. t.1) (at_set s.workers i j v x at_x) in
        let fx = r.fair j x was_x in
        regrouped (set (set s.workers i v) j nobody)
        (λ f g a b c. omega (arith, sum (λ u. f u.stage + total g u.finished), rests f a b w.stage rest_w, rests f a b x.stage rest_x, rests f a b v.stage m.still, total-append g w.finished x.finished, c))
        (λ f a b c. omega (arith, sum (λ u. f u.stage), rests f a b w.stage rest_w, rests f a b x.stage rest_x, rests f a b v.stage m.still, c))
        (λ k u e. ⊎_elim
        (λ t. subst (Fair P) t.1 (record { bounded = omega arith; within = tt; spent = λ z. (refl, refl) }))
        (λ old. ⊎_elim (λ t. subst (Fair P) t.1 (record { bounded = omega (arith, fw.bounded, fx.bounded); within = m.inside; spent = λ z. absurd (omega arith) })) (λ t. r.fair k u t.1) (at_set s.workers i k v u old.1))
        (at_set (set s.workers i v) j k nobody u e))
        (omega (arith, sum (λ u. u.draws)))
        (omega (arith, sum (λ u. u.share)))
        (omega (arith, sum (λ u. length u.finished), length-append w.finished x.finished))
        (λ e. omega (arith, sum (λ u. is_stopped u.stage), m.most, m.least, terms_le (λ u. is_stopped u.stage) s.workers i j w x ne at was_x))
        (λ e. omega (arith, sum (λ u. is_stopped u.stage), m.most))
