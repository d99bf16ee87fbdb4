-- The rule of the table: the words and the views are a state of the machine that meets its rule, and each slot has what its trace asks.
use Rattle.std.specs.Prelude.{◌≡◌, ℕ, suc, ◌<◌, ◌≤◌, List, ◌∷◌, length, map, Option, Some, None}
use mathlib.Core.Option.{none, some}
use mathlib.Core.Option as m
use lib.ListN.{get_elem?}
use Rattle.atomic_table.specs.Table as table
use Rattle.pool_core.specs.Sums.{total, hit, times}
use Rattle.pool_core.specs.Tree.{IsTree}
use Rattle.pool_core.specs.Events.{state, child}
use Rattle.pool_core.specs.Rule.{having, taken, Rule}
use Rattle.pool_core.specs.declared.model.Stage.{Stage}
use Rattle.pool_core.specs.declared.model.Stage.TheVariants.{Idle, Ticket, Trace, Placed, Stopped, Spent}
use Rattle.pool_core.specs.declared.model.Worker.{Worker}
use Rattle.pool_core.specs.declared.model.Seen.TheVariants as seen
use Rattle.trace_pool.specs.declared.parts.Content.{Content}
use Rattle.trace_pool.specs.declared.parts.Content.TheVariants.{Hint, Done}
use Rattle.trace_pool.specs.declared.parts.Step.{Step}
use Rattle.trace_pool.specs.declared.parts.View.{View}

abbrev pub all_shares : ℕ
all_shares = 4611686018427387904

-- 1 where the child t has a reserved cell
abbrev pub reserving : List (Option ℕ) → ℕ → Stage → ℕ
reserving P t Idle = 0
reserving P t (Ticket d) = 0
reserving P t (Trace u k) = 0
reserving P t (Placed u k d) = hit t (child P u k)
reserving P t Stopped = 0
reserving P t Spent = 0

-- a draw found no cell
abbrev pub SawNoMore : List Step → Type 0
SawNoMore trail = (k : ℕ) × (x : Step) × (get_elem? trail k ≡ some x) × (x.seen ≡ seen.NoMore)

module _ {H D : Type 0} where
  -- the hint that a shown trace has in its slot
  abbrev pub HintFits : m.Option (Option ℕ) → (H → Type 0) → Option (Content H D) → Type 0
  HintFits (some (Some p)) fits (Some (Hint h)) = fits h
  HintFits (some None) fits None = Unit {0}
  HintFits o fits x = ⊥

  module _ (P : List (Option ℕ)) (is_hint : ℕ → H → Type 0) (is_final : ℕ → D → Type 0) where
    -- what the slot of the trace t has
    pub record Fits (t : ℕ) (cells : List ℕ) (ws : List Worker) (lost : List Stage) (homes : List (m.Option (Option (Content H D)))) : Type 0 where
      -- out with the seat that has the trace, or that has reserved a cell for it
      pub busy : 0 < total (λ w. having (hit t) w.stage) ws → get_elem? homes t ≡ some none
      pub due : 0 < total (λ w. reserving P t w.stage) ws → get_elem? homes t ≡ some none
      -- the final result
      pub done : 0 < total (λ w. times t w.finished) ws → (d : D) × (get_elem? homes t ≡ some (some (Some (Done d)))) × is_final t d
      -- the hint
      pub ready : 0 < times (suc t) cells → taken P t ws lost ≡ 0 → (x : Option (Content H D)) × (get_elem? homes t ≡ some (some x)) × HintFits (get_elem? P t) (is_hint t) x
      -- nothing yet
      pub early : times (suc t) cells ≡ 0 → total (λ w. reserving P t w.stage) ws ≡ 0 → get_elem? homes t ≡ some (some None)
      -- given up
      pub lost_home : 0 < total (having (hit t)) lost → get_elem? homes t ≡ some (some None)

    module _ {W : Type 0} (work : W) where
      abbrev pub worker_of : View W → Worker
      worker_of v = v.worker

      pub record Told (head : ℕ) (v : View W) : Type 0 where
        pub no_more : SawNoMore v.trail → length P < head

      pub record Holds (s : table.State (Option (Content H D)) (View W)) : Type 0 where
        pub head : ℕ
        pub tail : ℕ
        pub finished : ℕ
        pub mark : ℕ
        pub lost : List Stage
        pub cells : List ℕ
        pub tree : IsTree P
        pub small : length P ≤ 262144
        pub words : s.words ≡ head ∷ tail ∷ finished ∷ mark ∷ cells
        pub core : Rule P all_shares lost (state head tail finished mark cells (map worker_of s.views))
        pub wide : length s.homes ≡ length P
        pub slots : (t : ℕ) → t < length P → Fits t cells (map worker_of s.views) lost s.homes
        pub told : (j : ℕ) (v : View W) → get_elem? s.views j ≡ some v → Told head v
