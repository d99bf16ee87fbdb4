-- The table of standings.
use Rattle.std.proofs.Common.{◌≡◌, ℕ, ◌+◌, ◌<◌, ◌≤◌, List, length, drop, get_or, slice_get, map, Option, None, ap, ◌∙◌, arith}
use Rattle.run_laws.specs.Layers.{places_from}
use Rattle.lir_core.specs.declared.flow.Trace.{Trace}
use Rattle.flow_drawing.specs.declared.standings.Standing.{Standing}
use Rattle.flow_drawing.specs.Standings.{standing_in, standing_from, first_of, standings_of}
use Rattle.flow_drawing.proofs.Lists.{tabulated}

-- a trace's blocks from one on have their standings, and that block is known
pub record IsStood (trace : ℕ) (blocks : List ℕ) (at : ℕ) (next : Option ℕ) (now before : List (Option Standing)) : Type 0 where
  pub within : at ≤ length blocks
  pub first : next ≡ slice_get (drop at blocks) 0
  pub same : length now ≡ length before
  pub each : (b : ℕ) → b < length before → get_or now b None ≡ first_of (standing_in trace (drop at blocks) b) (get_or before b None)

-- the blocks of traces from one on have
pub record IsTraced (traces : List Trace) (number count : ℕ) (now : List (Option Standing)) : Type 0 where
  pub within : number ≤ length traces
  pub same : length now ≡ count
  pub each : (b : ℕ) → b < count → get_or now b None ≡ standing_from number (drop number traces) b

-- of all blocks
pub all_stand : (traces : List Trace) (count : ℕ) (standings : List (Option Standing)) → length standings ≡ count → ((b : ℕ) → b < count → get_or standings b None ≡ standing_from 0 traces b) → standings ≡ standings_of count traces
all_stand traces count standings each h =
    tabulated (standing_from 0 traces) 0 standings None (λ b l. let e : b ≡ 0 + b = omega arith in h b (omega (arith, l, each)) ∙ ap (standing_from 0 traces) e)
    ∙ ap (λ n. map (standing_from 0 traces) (places_from 0 n)) each
