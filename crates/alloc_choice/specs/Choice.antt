-- By what a trace's result is made.
use Rattle.std.specs.Prelude.{ℕ, ◌≤◌, nat_le, Bool, true, false, ◌&&◌, cond, List, [], ◌∷◌, Option, Some, None, slice_get}
use Rattle.std.specs.List.{list_any}
use Rattle.block_runs.specs.declared.end.End.{End}
use Rattle.block_runs.specs.declared.end.End.TheVariants.{Jump}
use Rattle.lir_core.specs.declared.flow.Node.{Node}
use Rattle.alloc_choice.specs.declared.choice.Choice.{Choice}
use Rattle.alloc_choice.specs.declared.choice.Policy.{Policy}
use Rattle.alloc_choice.specs.declared.choice.Policy.TheVariants.{Plain, Linear, BottomUp, Mixed}
use Rattle.alloc_choice.specs.declared.choice.Used.{Used}
use Rattle.alloc_choice.specs.declared.choice.Used.TheVariants.{Plain as ByPlain, Trivial as ByTrivial, Linear as ByLinear, BottomUp as ByBottomUp}

-- there are 4 to 16 registers and 1 to 64 workers
pub record IsFitChoice (choice : Choice) : Type 0 where
  pub enough : 4 ≤ choice.regs
  pub few : choice.regs ≤ 16
  pub some_jobs : 1 ≤ choice.jobs
  pub few_jobs : choice.jobs ≤ 64

abbrev pub is_jump : End → Bool
is_jump (Jump to args) = true
is_jump _ = false

abbrev pub is_none : {A : Type 0} → List A → Bool
is_none [] = true
is_none (x ∷ xs) = false

-- without parameters and operations, and ends with a jump
abbrev pub is_bare : Option Node → Bool
is_bare None = false
is_bare (Some node) = is_jump node.end && (is_none node.params && is_none node.lirs)

-- a trivial trace: one node that is bare
abbrev pub is_trivial : List Node → List ℕ → Bool
is_trivial nodes [] = false
is_trivial nodes (n ∷ []) = is_bare (slice_get nodes n)
is_trivial nodes (n ∷ (m ∷ ns)) = false

abbrev pub freq_of : Option Node → ℕ
freq_of None = 0
freq_of (Some node) = node.freq

-- the most frequent node of a trace runs at least 2^20 times, as often as its procedure's entry
abbrev pub is_often : List Node → List ℕ → Bool
is_often nodes ns = list_any (λ n. nat_le 1048576 (freq_of (slice_get nodes n))) ns

-- plain for all traces; under the others a trivial trace by the hint alone
abbrev pub used : Policy → List Node → List ℕ → Used
used Plain nodes ns = ByPlain
used Linear nodes ns = cond (is_trivial nodes ns) ByTrivial ByLinear
used BottomUp nodes ns = cond (is_trivial nodes ns) ByTrivial ByBottomUp
used Mixed nodes ns = cond (is_trivial nodes ns) ByTrivial (cond (is_often nodes ns) ByLinear ByBottomUp)
