-- What the last seat knows.
use Rattle.std.proofs.Common.{Bool, true, false, get_or-set_other, ◌≡◌, ℕ, zero, suc, ◌+◌, ◌<◌, ◌≢◌, List, [], ◌∷◌, ◌++◌, map, take, length, set, get_or, sym, refl, ap, ◌∙◌, subst, ⊎_elim, arith}
use Rattle.std.specs.Prelude.{Option, Some, None}
use mathlib.Core.Logic.{dite}
use native.Mathlib.Decide.{ℕ_discrete, dec_lt}
use mathlib.Core.Option.{none, some, some-injective, some-ne-none}
use mathlib.Core.Option as m
use lib.ListN.{get_elem?}
use Rattle.atomic_table.specs.Table.{State, Final, Seen, step, keeps, Allows}
use Rattle.atomic_table.proofs.Lists.{at_set, at_map, set_again}
use lib.Seq.{set-get_or}
use Rattle.trace_pool.specs.Plays.{Sat, completed}
use Rattle.pool_core.specs.Sums.{total, hit, times}
use Rattle.pool_core.specs.Events.{state, nobody, AtRest}
use Rattle.pool_core.specs.Runs.{IsWaiting}
use Rattle.pool_core.specs.Rule.{ticket, having, is_working, is_stopped}
use Rattle.pool_core.specs.declared.model.Stage.{Stage}
use Rattle.pool_core.specs.declared.model.Stage.TheVariants.{Idle, Stopped, Spent}
use Rattle.pool_core.specs.declared.model.Worker.{Worker}
use Rattle.pool_core.proofs.Sums as sums
use Rattle.pool_core.proofs.Seats as seats
use Rattle.pool_core.proofs.Law.{waits_if}
use Rattle.trace_pool.specs.declared.parts.Content.{Content}
use Rattle.trace_pool.specs.declared.parts.Content.TheVariants.{Hint, Done}
use Rattle.trace_pool.specs.declared.parts.View.{View}
use Rattle.trace_pool.specs.Slots.{all_shares, reserving, SawNoMore, HintFits, Fits, worker_of, Holds}
use Rattle.trace_pool.specs.Ends.{IsNoResult, Ended, ClosedAs, done_of}

module _ {W H D : Type 0} (P : List (Option ℕ)) (is_hint : ℕ → H → Type 0) (is_final : ℕ → D → Type 0) (work : W) (s : State (Option (Content H D)) (View W)) (h : Holds P is_hint is_final work s) (id : ℕ) (v : View W) (at : get_elem? s.views id ≡ some v) (all : v.worker.share ≡ all_shares) where
  abbrev ws : List Worker
  ws = map (worker_of P is_hint is_final work) s.views

  mine : get_elem? ws id ≡ some v.worker
  mine = at_map (worker_of P is_hint is_final work) s.views id v at

  -- each other seat is spent
  other : (j : ℕ) (u : Worker) → j ≢ id → get_elem? ws j ≡ some u → (u.stage ≡ Spent) × (u.finished ≡ [])
  other j u ne e = (h.core.fair j u e).spent (omega (arith, h.core.shares, sums.terms_le (λ w. w.share) ws id j v.worker u ne mine e))

  -- so a sum over all seats is that of the last one
  alone : (f : Stage → ℕ) (g : ℕ → ℕ) → f Spent ≡ 0 → total (λ w. f w.stage + total g w.finished) ws ≡ f v.worker.stage + total g v.worker.finished
  alone f g z =
      let F : Worker → ℕ = λ w. f w.stage + total g w.finished in
      omega (
        arith,
        sums.total-set F ws id v.worker nobody mine,
        sums.total_le F (λ _. 0) (set ws id nobody) (λ j u e. ⊎_elim
            (λ t. omega (arith, ap F t.1))
            (λ t. let o = other j u t.0 t.1 in omega (arith, ap f o.0, ap (total g) o.1))
            (at_set ws id j nobody u e)),
        sums.total-zero (set ws id nobody),
      )

  only_stage : (f : Stage → ℕ) → f Spent ≡ 0 → total (λ w. f w.stage) ws ≡ f v.worker.stage
  only_stage f z = omega (arith, alone f (λ _. 0) z, sums.total-add (λ w. f w.stage) (λ w. total (λ _. 0) w.finished) ws, zeros ws, sums.total-zero v.worker.finished)
    where
      zeros : (l : List Worker) → total (λ w. total (λ _. 0) w.finished) l ≡ 0
      zeros [] = refl
      zeros (x ∷ xs) = omega (arith, sums.total-zero x.finished, zeros xs)

  only_finished : (t : ℕ) → total (λ w. times t w.finished) ws ≡ times t v.worker.finished
  only_finished t = omega (arith, alone (λ _. 0) (hit t) refl, sums.total-add (λ _. 0) (λ w. times t w.finished) ws, sums.total-zero ws)

  now : Rattle.pool_core.specs.declared.model.State.State
  now = state h.head h.tail h.finished h.mark h.cells ws

  -- an idle last seat that saw a NoMore has finished every trace
  pub all_finished : v.worker.stage ≡ Idle → SawNoMore v.trail → (t : ℕ) → t < length P → 0 < times t v.worker.finished
  all_finished idle saw t t_in = (below (suc t) t (omega arith) t_in)
    where
      nothing : h.lost ≡ []
      nothing = h.core.given_up (only_stage is_stopped refl ∙ ap is_stopped idle)

      below : (n t : ℕ) → t < n → t < length P → 0 < times t v.worker.finished
      below zero t lt t_in = absurd (omega arith)
      below (suc n) t lt t_in = dite (dec_lt 0 (times t v.worker.finished)) (λ yes. yes)
          (λ no. let found : IsWaiting P (state h.head h.tail h.finished h.mark h.cells ws) t = waits_if P h.tree all_shares h.lost (state h.head h.tail h.finished h.mark h.cells ws) h.core (only_stage is_working refl ∙ ap is_working idle) nothing t t_in
          (λ done. no (omega (arith, only_finished t)))
          (λ u less. let lower = below n u (omega arith) (omega arith) in omega (arith, only_finished u)) in
          let past = (h.told id v at).no_more saw in
          let c : ℕ = found.0 in
          let c_in : c < length P = (dite (dec_lt c (length h.cells)) (λ l. omega (arith, h.core.wide)) (λ g. absurd (omega (arith, sums.get_or_past h.cells c 0 (omega arith), found.1)))) in
          absurd (⊎_elim (λ undrawn. omega arith) (λ has. omega (arith, only_stage (ticket c) refl, ap (ticket c) idle, sums.term_le (λ w. ticket c w.stage) ws has.0 has.1 has.2, ap (ticket c) has.3, sums.hit_same c c refl)) found.2))

  pub ends : AtRest v.worker.stage → (t : ℕ) → t < length P → (xs : List (Option (Content H D))) → ((k : ℕ) (y : Option (Content H D)) → get_elem? s.homes k ≡ some (some y) → get_elem? xs k ≡ some y) → Ended is_final v.worker.finished xs t
  ends rest t t_in xs kept = record {
    done = λ some_done. let d = f.done (omega (arith, only_finished t)) in (d.0, kept t (Some (Done d.0)) d.1, d.2);
    open_yet = λ none_done. dite (dec_lt 0 (total (having (hit t)) h.lost))
        (λ lost. (None, kept t None (f.lost_home lost), tt))
        (λ not_lost. dite (dec_lt 0 (times (suc t) h.cells))
        (λ shown. let x = f.ready shown (omega (arith, alone (having (hit t)) (hit t) refl, still (having (hit t)) refl refl)) in (x.0, kept t x.0 x.1, no_result (get_elem? P t) x.0 x.2))
        (λ not_shown. (None, kept t None (f.early (omega arith) (only_stage (reserving P t) refl ∙ still (reserving P t) refl refl)), tt)));
  }
    where
      f : Fits P is_hint is_final t h.cells ws h.lost s.homes
      f = h.slots t t_in

      still : (g : Stage → ℕ) → g Idle ≡ 0 → g Stopped ≡ 0 → g v.worker.stage ≡ 0
      still g a b = seats.rests P all_shares h.lost (state h.head h.tail h.finished h.mark h.cells ws) h.core g a b v.worker.stage rest

      no_result : (o : m.Option (Option ℕ)) (x : Option (Content H D)) → HintFits o (is_hint t) x → IsNoResult x
      no_result o None fits = tt
      no_result o (Some (Hint y)) fits = tt
      no_result (some (Some p)) (Some (Done d)) fits = fits
      no_result (some None) (Some (Done d)) fits = fits
      no_result none (Some (Done d)) fits = fits

no_result_none : {H D : Type 0} (x : Option (Content H D)) → IsNoResult x → done_of x ≡ None
no_result_none None h = refl
no_result_none (Some (Hint y)) h = refl
no_result_none (Some (Done d)) h = absurd h

-- what a pool that the last seat closes gives
pub closes : {W H D : Type 0} (P : List (Option ℕ)) (is_hint : ℕ → H → Type 0) (is_final : ℕ → D → Type 0) (work : W) (id : ℕ) (v : View W) (words : List ℕ) (xs : List (Option (Content H D)))
    → Final (Seen (Holds P is_hint is_final work) id v) words xs → v.worker.share ≡ all_shares → AtRest v.worker.stage → (results : List (Option D)) → results ≡ map done_of xs → ClosedAs is_final P v.worker.finished results
closes {W} {H} {D} P is_hint is_final work id v words xs last all rest results is =
    let s = last.0 in
    let h = last.1.0 in
    let long : length xs ≡ length P = omega (arith, last.3, h.wide) in
    let end = λ (t : ℕ) (lt : t < length P). ends P is_hint is_final work s h id v last.1.1 all rest t lt xs last.4 in
    subst (ClosedAs is_final P v.worker.finished) (sym is) (
      omega (arith, mapped xs, long),
      (λ t lt some_done. let d = (end t lt).done some_done in (d.0, at_map done_of xs t (Some (Done d.0)) d.1, d.2)),
      (λ t lt none_done. let x = (end t lt).open_yet none_done in at_map done_of xs t x.0 x.1 ∙ ap some (no_result_none x.0 x.2)),
    )
  where
    mapped : (l : List (Option (Content H D))) → length (map done_of l) ≡ length l
    mapped [] = refl
    mapped (x ∷ l) = omega (arith, mapped l)

pub take_more : {A B : Type 0} (f : A → B) (l : List A) (i : ℕ) (a : A) → get_elem? l i ≡ some a → map f (take (i + 1) l) ≡ map f (take i l) ++ f a ∷ []
take_more f l i a e = let n : i + 1 ≡ suc i = omega arith in ap (λ k. map f (take k l)) n ∙ more f l i a e
  where
    more : {A B : Type 0} (f : A → B) (l : List A) (i : ℕ) (a : A) → get_elem? l i ≡ some a → map f (take (suc i) l) ≡ map f (take i l) ++ f a ∷ []
    more f [] i a e = absurd (some-ne-none a (sym e))
    more f (x ∷ xs) zero a e = ap (λ y. f y ∷ []) (some-injective x a e)
    more {A} {B} f (x ∷ xs) (suc i) a e = ap (λ (m : List B). f x ∷ m) (more f xs i a e)

-- the look of the last seat
pub completes : {W H D : Type 0} (parents : W → List (Option ℕ)) (is_hint : W → ℕ → H → Type 0) (is_final : W → ℕ → D → Type 0) (slots id : ℕ) (me : Sat W H D) (work : W)
    → Allows (Holds (parents work) (is_hint work) (is_final work) work) slots id me 0 (λ n. n) (completed all_shares (step slots 0 0 0 none) me)
completes {W} parents is_hint is_final slots id me work s h len at small = (
  me.0,
  keeps,
  tt,
  subst (Holds (parents work) (is_hint work) (is_final work) work) (λ i. record { words = sym same_words i; homes = s.homes; views = sym (set_again s.views id me.0 at) i }) h,
  (refl, λ all idle saw t lt. all_finished (parents work) (is_hint work) (is_final work) work s h id me.0 at all idle saw t (omega (arith, h.wide))),
)
  where
    same_words : set s.words 0 (get_or s.words 0 0) ≡ s.words
    same_words = set-get_or s.words 0 0

pub take_next : {A : Type 0} (l : List A) (i : ℕ) (a : A) → get_elem? l i ≡ some a → take (i + 1) l ≡ take i l ++ a ∷ []
take_next l i a e = let n : i + 1 ≡ suc i = omega arith in ap (λ k. take k l) n ∙ more l i a e
  where
    more : {A : Type 0} (l : List A) (i : ℕ) (a : A) → get_elem? l i ≡ some a → take (suc i) l ≡ take i l ++ a ∷ []
    more [] i a e = absurd (some-ne-none a (sym e))
    more (x ∷ xs) zero a e = ap (λ y. y ∷ []) (some-injective x a e)
    more {A} (x ∷ xs) (suc i) a e = ap (λ (m : List A). x ∷ m) (more xs i a e)

-- of the slots that are full, one is emptied
pub still_filled : (full full' : List Bool) (i k : ℕ) → full' ≡ set full i false → i < k → get_or full k false ≡ true → get_or full' k false ≡ true
still_filled full full' i k is above h = ap (λ l. get_or l k false) is ∙ (get_or-set_other full i k false false (λ e. absurd (omega arith)) ∙ h)

pub still_empty : (full full' : List Bool) (i k : ℕ) → full' ≡ set full i false → (k ≢ i → get_or full k false ≡ false) → get_or full' k false ≡ false
still_empty full full' i k is others = ap (λ l. get_or l k false) is ∙ dite (ℕ_discrete k i)
    (λ e. ap (λ j. get_or (set full i false) j false) e ∙ here full i)
    (λ n. get_or-set_other full i k false false n ∙ others n)
  where
    here : (l : List Bool) (i : ℕ) → get_or (set l i false) i false ≡ false
    here [] i = refl
    here (x ∷ xs) zero = refl
    here (x ∷ xs) (suc i) = here xs i
