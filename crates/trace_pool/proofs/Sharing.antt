-- A seat is cut in two, two are made one, and the rule at the opening.
use Rattle.std.proofs.Common.{◌≡◌, ℕ, zero, suc, ◌+◌, ◌-◌, ◌<◌, ◌≤◌, ◌≢◌, ◌⊎◌, List, [], ◌∷◌, ◌++◌, map, replicate, length, get_or, set, cond, le-ltb, length-append, sym, refl, ap, ◌∙◌, subst, inl, inr, ⊎_elim, arith}
use Rattle.std.specs.Prelude.{Option, Some, None}
use mathlib.Core.Option.{none, some, some-injective, some-ne-none}
use mathlib.Core.Option as m
use mathlib.Core.List.{map-append}
use lib.ListN.{get_elem?}
use lib.Seq.{map-set}
use Rattle.atomic_table.specs.Table.{State, Splits, Joins, opening}
use Rattle.atomic_table.proofs.Lists.{at_set, at_map, at_snoc, at_last, at_longer}
use Rattle.pool_core.specs.Sums.{total, hit, times}
use Rattle.pool_core.specs.Events.{state, drawn_seen, parted, merged, merged_stage, nobody, AtRest}
use Rattle.pool_core.specs.Runs.{fresh}
use Rattle.pool_core.specs.Rule.{having, Rule}
use Rattle.pool_core.specs.declared.model.Stage.{Stage}
use Rattle.pool_core.specs.declared.model.Stage.TheVariants.{Idle, Stopped, Spent}
use Rattle.pool_core.specs.declared.model.Worker.{Worker}
use Rattle.pool_core.specs.declared.model.Seen.TheVariants as seen
use Rattle.pool_core.proofs.Sums as sums
use Rattle.pool_core.proofs.Seats as core
use Rattle.pool_core.proofs.Opens as starts
use Rattle.pool_core.proofs.Trees.{IsRoot, IsChild, place_of, child_in, spread_le}
use Rattle.std.proofs.lemmas.List.{length-replicate}
use Rattle.pool_core.specs.Tree.{IsTree, roots}
use Rattle.trace_pool.specs.Opened.{opening_words}
use Rattle.trace_pool.specs.declared.parts.Content.{Content}
use Rattle.trace_pool.specs.declared.parts.Step.{Step}
use Rattle.trace_pool.specs.declared.parts.View.{View}
use Rattle.trace_pool.specs.Slots.{all_shares, reserving, SawNoMore, HintFits, Fits, worker_of, Told, Holds}
use Rattle.trace_pool.specs.Plays.{first, view, cut, part_of, both_views, Carries}
use Rattle.trace_pool.proofs.Steps.{Same, fits_same}

-- a NoMore of two trails is one of either
either_saw : (xs ys : List Step) → SawNoMore (xs ++ ys) → SawNoMore xs ⊎ SawNoMore ys
either_saw [] ys h = inr h
either_saw (x ∷ xs) ys (zero, e, at, is) = inl (0, e, at, is)
either_saw (x ∷ xs) ys (suc k, e, at, is) = ⊎_elim (λ s. inl (suc s.0, s.1, s.2, s.3)) (λ s. inr s) (either_saw xs ys (k, e, at, is))

module _ {W H D : Type 0} (P : List (Option ℕ)) (is_hint : ℕ → H → Type 0) (is_final : ℕ → D → Type 0) (work : W) where
  abbrev Held : State (Option (Content H D)) (View W) → Type 0
  Held s = Holds P is_hint is_final work s

  abbrev f : View W → Worker
  f = worker_of P is_hint is_final work

  -- the rule for other views of the same words and slots
  reviewed : (s : State (Option (Content H D)) (View W)) (h : Held s) (vs : List (View W)) (ws' : List Worker) → ws' ≡ map f vs
      → Rule P all_shares h.lost (state h.head h.tail h.finished h.mark h.cells ws')
      → ((t : ℕ) → Same P is_hint is_final work t h.cells h.cells (map f s.views) ws' h.lost)
      → ((j : ℕ) (v : View W) → get_elem? vs j ≡ some v → Told P is_hint is_final work h.head v)
      → Held record { words = s.words; homes = s.homes; views = vs }
  reviewed s h vs ws' same core sums_same told = record {
    head = h.head;
    tail = h.tail;
    finished = h.finished;
    mark = h.mark;
    lost = h.lost;
    cells = h.cells;
    tree = h.tree;
    small = h.small;
    words = h.words;
    core = subst (λ (l : List Worker). Rule P all_shares h.lost (state h.head h.tail h.finished h.mark h.cells l)) same core;
    wide = h.wide;
    slots = λ t lt. subst (λ (l : List Worker). Fits P is_hint is_final t h.cells l h.lost s.homes) same (fits_same P is_hint is_final work t s.homes s.homes h.cells h.cells (map f s.views) ws' h.lost (sums_same t) refl (h.slots t lt));
    told = told;
  }

  module _ (s : State (Option (Content H D)) (View W)) (h : Held s) (id : ℕ) (v : View W) (at : get_elem? s.views id ≡ some v) where
    mine : get_elem? (map f s.views) id ≡ some v.worker
    mine = at_map f s.views id v at

    split_holds : (part : ℕ) → 0 < part → v.worker.draws + part < v.worker.share → Held record { words = s.words; homes = s.homes; views = set s.views id (cut part v) ++ part_of part v ∷ [] }
    split_holds part pos more =
        let ws : List Worker = map f s.views in
        let w : Worker = parted part v.worker in
        let o = h.told id v at in
        let sum : (g : Worker → ℕ) → total g (set ws id w ++ fresh part ∷ []) + g v.worker ≡ total g ws + g w + g (fresh part) = (λ g. omega (arith, sums.total-append g (set ws id w) (fresh part ∷ []), sums.total-set g ws id v.worker w mine)) in
        reviewed s h (set s.views id (cut part v) ++ part_of part v ∷ []) (set ws id w ++ fresh part ∷ [])
        (sym (map-append f (set s.views id (cut part v)) (part_of part v ∷ []) ∙ ap (λ (l : List Worker). l ++ fresh part ∷ []) (map-set f s.views id (cut part v))))
        (core.splits P all_shares h.lost (state h.head h.tail h.finished h.mark h.cells ws) h.core id v.worker mine part pos more)
        (λ t. record {
          having_same = omega (arith, sum (λ u. having (hit t) u.stage));
          reserving_same = omega (arith, sum (λ u. reserving P t u.stage));
          finished_same = omega (arith, sum (λ u. times t u.finished));
          shown_same = refl;
        })
        (λ j u e. ⊎_elim
        (λ old. ⊎_elim (λ t. subst (Told P is_hint is_final work h.head) t.1 (record { no_more = o.no_more })) (λ t. h.told j u t.1) (at_set s.views id j (cut part v) u old))
        (λ new. subst (Told P is_hint is_final work h.head) new (record { no_more = λ saw. absurd (some-ne-none saw.1 (sym saw.2)) }))
        (at_snoc (set s.views id (cut part v)) (part_of part v) u j e))

    has_share : (w : Worker) (i : ℕ) → get_elem? (map f s.views) i ≡ some w → AtRest w.stage → 0 < w.share
    has_share w i at rest = by_share w.share refl
      where
        spent_no : AtRest Spent → ⊥
        spent_no z = z

        by_share : (n : ℕ) → w.share ≡ n → 0 < w.share
        by_share zero e = absurd (spent_no (subst AtRest ((h.core.fair i w at).spent e).0 rest))
        by_share (suc n) e = omega arith

    join_holds : (j : ℕ) (x : View W) (new : W) → j ≢ id → AtRest v.worker.stage → AtRest x.worker.stage → get_elem? (set s.views id (both_views v x)) j ≡ some x
        → Held record { words = s.words; homes = s.homes; views = set (set s.views id (both_views v x)) j (view new nobody []) }
    join_holds j x new ne rest_v rest_x at_x =
        let ws : List Worker = map f s.views in
        let w : Worker = merged v.worker x.worker in
        let now = state h.head h.tail h.finished h.mark h.cells ws in
        let was_x : get_elem? s.views j ≡ some x = ⊎_elim (λ t. absurd (ne t.0)) (λ t. t.1) (at_set s.views id j (both_views v x) x at_x) in
        let at_w : get_elem? (set ws id w) j ≡ some x.worker = subst (λ (l : List Worker). get_elem? l j ≡ some x.worker) (map-set f s.views id (both_views v x)) (at_map f (set s.views id (both_views v x)) j x at_x) in
        let still = (core.merges P all_shares h.lost now h.core v.worker.stage x.worker.stage rest_v rest_x).still in
        let zero_of : (g : Stage → ℕ) → g Idle ≡ 0 → g Stopped ≡ 0 → (st : Stage) → AtRest st → g st ≡ 0 = (λ g a b st r. core.rests P all_shares h.lost now h.core g a b st r) in
        let sum : (g : Worker → ℕ) → total g (set (set ws id w) j nobody) + g v.worker + g x.worker ≡ total g ws + g w + g nobody = (λ g. omega (arith, sums.total-set g ws id v.worker w mine, sums.total-set g (set ws id w) j x.worker nobody at_w)) in
        let share = has_share v.worker id mine rest_v in
        let o = h.told id v at in
        let ox = h.told j x was_x in
        reviewed s h (set (set s.views id (both_views v x)) j (view new nobody [])) (set (set ws id w) j nobody)
        (sym (map-set f (set s.views id (both_views v x)) j (view new nobody []) ∙ ap (λ (l : List Worker). set l j nobody) (map-set f s.views id (both_views v x))))
        (core.joins P all_shares h.lost now h.core id v.worker mine j x.worker ne rest_v rest_x (omega arith) at_w)
        (λ t. record {
          having_same = omega (arith, sum (λ u. having (hit t) u.stage), zero_of (having (hit t)) refl refl v.worker.stage rest_v, zero_of (having (hit t)) refl refl x.worker.stage rest_x, zero_of (having (hit t)) refl refl w.stage still);
          reserving_same = omega (arith, sum (λ u. reserving P t u.stage), zero_of (reserving P t) refl refl v.worker.stage rest_v, zero_of (reserving P t) refl refl x.worker.stage rest_x, zero_of (reserving P t) refl refl w.stage still);
          finished_same = omega (arith, sum (λ u. times t u.finished), sums.total-append (hit t) v.worker.finished x.worker.finished);
          shown_same = refl;
        })
        (λ k u e. ⊎_elim
        (λ t. subst (Told P is_hint is_final work h.head) t.1 (record { no_more = λ saw. absurd (some-ne-none saw.1 (sym saw.2)) }))
        (λ old. ⊎_elim
        (λ t. subst (Told P is_hint is_final work h.head) t.1 (record { no_more = λ saw. ⊎_elim (λ a. o.no_more a) (λ b. ox.no_more b) (either_saw v.trail x.trail saw) }))
        (λ t. h.told k u t.1) (at_set s.views id k (both_views v x) u old.1))
        (at_set (set s.views id (both_views v x)) j k (view new nobody []) u e))

module _ {W H D : Type 0} (parents : W → List (Option ℕ)) (is_hint : W → ℕ → H → Type 0) (is_final : W → ℕ → D → Type 0) (work : W) where
  -- a split
  pub splits : (id part : ℕ) (v : View W) → 0 < part → v.worker.draws + part < v.worker.share → Splits (Holds (parents work) (is_hint work) (is_final work) work) id v (cut part v) (part_of part v)
  splits id part v pos more s h at = split_holds (parents work) (is_hint work) (is_final work) work s h id v at part pos more

  -- a join
  pub joins : (id j : ℕ) (v x : View W) (new : W) → AtRest v.worker.stage → AtRest x.worker.stage → Joins (Holds (parents work) (is_hint work) (is_final work) work) id v j x (both_views v x) (view new nobody [])
  joins id j v x new rest_v rest_x s h at ne at_x = join_holds (parents work) (is_hint work) (is_final work) work s h id v at j x new ne rest_v rest_x at_x

-- the rule when the pool opens
pub opens : {W H D : Type 0} (P : List (Option ℕ)) (is_hint : ℕ → H → Type 0) (is_final : ℕ → D → Type 0) (work : W) → IsTree P → length P ≤ 262144
    → Holds P is_hint is_final work (opening (opening_words P) (replicate {A = Option (Content H D)} (length P) None) (first all_shares work))
opens {W} {H} {D} P is_hint is_final work tree small =
    let ws : List Worker = fresh all_shares ∷ [] in
    let core = starts.opens P all_shares ws (one P) (omega arith) in
    record {
      head = 0;
      tail = length (roots P);
      finished = 0;
      mark = 0;
      lost = [];
      cells = map suc (roots P) ++ replicate (length P - length (roots P)) 0;
      tree = tree;
      small = small;
      words = refl;
      core = core;
      wide = all_length (length P);
      slots = λ t lt. record {
        busy = λ some. absurd (omega arith);
        due = λ some. absurd (omega arith);
        done = λ some. absurd (omega arith);
        ready = λ shown _. (None, all_home (length P) t lt, root_fits t (place_of P t tree) shown core lt);
        early = λ _ _. all_home (length P) t lt;
        lost_home = λ some. absurd (omega arith);
      };
      told = λ j v at. by_place j v at;
    }
  where
    one : (P : List (Option ℕ)) → (j : ℕ) (u : Worker) → get_elem? (fresh all_shares ∷ []) j ≡ some u → (0 < u.share) × (u ≡ fresh u.share)
    one P zero u at = let e : fresh all_shares ≡ u = some-injective (fresh all_shares) u at in (omega (arith, ap (λ (w : Worker). w.share) e), sym e ∙ ap (λ (w : Worker). fresh w.share) e)
    one P (suc j) u at = absurd (some-ne-none u (sym at))

    all_length : (n : ℕ) → length (map {A = Option (Content H D)} some (replicate n None)) ≡ n
    all_length zero = refl
    all_length (suc n) = omega (arith, all_length n)

    all_home : (n t : ℕ) → t < n → get_elem? (map {A = Option (Content H D)} some (replicate n None)) t ≡ some (some None)
    all_home zero t lt = absurd (omega arith)
    all_home (suc n) zero lt = refl
    all_home (suc n) (suc t) lt = all_home n t (omega arith)

    by_place : (j : ℕ) (v : View W) → get_elem? (first all_shares work ∷ []) j ≡ some v → Told P is_hint is_final work 0 v
    by_place zero v at = let e : first all_shares work ≡ v = some-injective (first all_shares work) v at in subst (Told P is_hint is_final work 0) e (record { no_more = λ saw. absurd (some-ne-none saw.1 (sym saw.2)) })
    by_place (suc j) v at = absurd (some-ne-none v (sym at))

    root_fits : (t : ℕ) → IsRoot P t ⊎ ((p : ℕ) × (p < t) × IsChild P t p) → 0 < times (suc t) (map suc (roots P) ++ replicate (length P - length (roots P)) 0)
        → Rule P all_shares [] (state 0 (length (roots P)) 0 0 (map suc (roots P) ++ replicate (length P - length (roots P)) 0) (fresh all_shares ∷ [])) → t < length P → HintFits {D = D} (get_elem? P t) (is_hint t) None
    root_fits t (inl root) shown core lt = by_parent (get_or P t None) (sums.at_index P t None lt)
      where
        by_parent : (o : Option ℕ) → get_elem? P t ≡ some o → HintFits {D = D} (get_elem? P t) (is_hint t) None
        by_parent None e = subst (λ (x : m.Option (Option ℕ)). HintFits {D = D} x (is_hint t) None) (sym e) tt
        by_parent (Some p) e = absurd (omega (arith, root.1 p, child_in P t p e p, sums.hit_same p p refl))
    root_fits t (inr ch) shown core lt = absurd (omega (arith, ch.2.0, core.shown t))

-- a seat at rest holds no slot
pub rest_carries : {H D : Type 0} (P : List (Option ℕ)) (st : Stage) (c : List (ℕ × Option (Content H D))) → AtRest st → Carries P st c → c ≡ []
rest_carries P Idle c rest e = e
rest_carries P Stopped c rest e = e
rest_carries P st c rest e = absurd rest

-- the last entry of a trail that saw NoMore
pub saw_last : (trail : List Step) (x : Step) → x.seen ≡ seen.NoMore → SawNoMore (trail ++ x ∷ [])
saw_last trail x e = (length trail, x, at_last trail x (length trail) refl, e)

pub drawn_none : (P : List (Option ℕ)) (r : ℕ) → length P ≤ r → drawn_seen P r ≡ seen.NoMore
drawn_none P r h = ap (λ b. cond b (seen.Ticket r) seen.NoMore) (le-ltb r (length P) h)

pub saw_more : (xs ys : List Step) → SawNoMore xs → SawNoMore (xs ++ ys)
saw_more xs ys saw = (saw.0, saw.1, at_longer xs ys saw.0 saw.1 saw.2, saw.3)

-- two seats at rest that make an idle one were idle
pub merged_idle : (a b : Stage) → AtRest a → AtRest b → merged_stage a b ≡ Idle → a ≡ Idle
merged_idle Idle b p q e = refl
merged_idle Stopped b p q e = absurd (differ e)
  where
    differ : Stopped ≡ Idle → ⊥
    differ e = cc
merged_idle a b p q e = absurd p

pub merged_rest : (a b : Stage) → AtRest a → AtRest b → AtRest (merged_stage a b)
merged_rest Idle Idle p q = tt
merged_rest Idle Stopped p q = tt
merged_rest Stopped b p q = tt
merged_rest Idle b p q = absurd q
merged_rest a b p q = absurd p

-- a pool has a word for each trace, and four more
pub opening_length : (P : List (Option ℕ)) → length (opening_words P) ≡ length P + 4
opening_length P = omega (arith, length-append (map suc (roots P)) (replicate (length P - length (roots P)) 0), starts.raised (roots P), length-replicate (length P - length (roots P)) zero, spread_le P 0)

pub opens_at : {W H D : Type 0} (P : List (Option ℕ)) (is_hint : ℕ → H → Type 0) (is_final : ℕ → D → Type 0) (work : W) (words : List ℕ) (count : ℕ) → IsTree P → length P ≤ 262144 → words ≡ opening_words P → count ≡ length P
    → Holds P is_hint is_final work (opening words (replicate {A = Option (Content H D)} count None) (first all_shares work))
opens_at {W} {H} {D} P is_hint is_final work words count tree small e n = subst (λ (z : List ℕ × ℕ). Holds P is_hint is_final work (opening z.0 (replicate {A = Option (Content H D)} z.1 None) (first all_shares work))) (λ i. (sym e i, sym n i)) (opens P is_hint is_final work tree small)
