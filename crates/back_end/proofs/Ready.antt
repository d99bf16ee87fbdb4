-- What linking asks, from what allocation gives.
use Rattle.std.proofs.Common.{◌≡◌, ℕ, zero, suc, true, ◌+◌, ◌<◌, ◌^◌, List, [], ◌∷◌, map, drop, length, sym, subst, arith, false}
use Rattle.std.specs.Prelude.{All}
use Rattle.block_runs.specs.Blocks.{Operation, block_at}
use Rattle.ssa_core.specs.declared.procedure.Proc.{Proc}
use Rattle.lir_core.specs.declared.flow.Flow.{Flow}
use Rattle.lir_core.specs.Flows.{code_nodes, IsValidFlow}
use Rattle.a64_select.specs.Selected.{selected}
use Rattle.a64_select.proofs.FlowValid.{selected_valid}
use Rattle.placed_code.specs.Claims.{IsNumber}
use Rattle.linked_flows.specs.Allocations.{Cut}
use Rattle.link_blocks.specs.Laid.{Fits}
use Rattle.link_plan.specs.Linked.{IsAllocated, AreSmall}
use Rattle.alloc_choice.specs.declared.choice.Choice.{Choice}
use Rattle.flow_allocation.specs.Allocations.{IsAllocation, AllAllocations}
use Rattle.modest_flows.specs.Modest.{IsModest}
use Rattle.modest_flows.proofs.Fitting.{modest_fits}
use Rattle.back_end.specs.Images.{IsReady, HasFewValues}
use Rattle.back_end.specs.Numbers.{node_numbers}
use Rattle.back_end.proofs.Reading.{of_nodes, kinds_of}

-- what linking asks of a flow besides its result
record CanPlace (f : Flow) : Type 0 where
  numbers : (b i : ℕ) (op : Operation) (rest : List Operation) → drop i (block_at (code_nodes f.nodes) b).ops ≡ op ∷ rest → IsNumber op.code
  local_data : (f.local_cells < 2 ^ 64) × (f.local_bytes < 2 ^ 24)
  body : f.counted ≡ false → f.args ≡ 0

can_place : (p : Proc) → IsReady p → node_numbers (selected p).nodes ≡ true → CanPlace (selected p)
can_place p r numbers = record { numbers = of_nodes (selected p).nodes numbers; local_data = r.local_data; body = r.body }

-- all operations of these flows have numbers of 64 bits
abbrev pub HaveNumbers : List Flow → Type 0
HaveNumbers flows = All (λ (f : Flow). node_numbers f.nodes ≡ true) flows

allocated : (choice : Choice) (first : ℕ) (c : Cut) → IsAllocation choice first c → CanPlace c.flow → IsAllocated choice.regs c
allocated choice first c a can = record { sound = a.sound; paths = a.paths; numbers = can.numbers; local_data = can.local_data; body = can.body }

pub all_allocated : (choice : Choice) (first : ℕ) (procs : List Proc) (cuts : List Cut) → All IsReady procs → HaveNumbers (map selected procs) → map (λ c. c.flow) cuts ≡ map selected procs → AllAllocations choice first cuts
    → (q : ℕ) (c : Cut) (rest : List Cut) → drop q cuts ≡ c ∷ rest → IsAllocated choice.regs c
all_allocated choice first procs [] ready numbers same each zero c rest e = cc
all_allocated choice first procs [] ready numbers same each (suc q) c rest e = cc
all_allocated choice first [] (d ∷ cuts) ready numbers same each q c rest e = absurd (let z : d.flow ∷ map (λ x. x.flow) cuts ≡ [] = same in cc)
all_allocated choice first (p ∷ procs) (d ∷ cuts) ready numbers same each zero c rest e =
    let flow : d.flow ≡ selected p = cc in
    let is : d ≡ c = cc in
    subst (IsAllocated choice.regs) is (allocated choice first d each.0 (subst CanPlace (sym flow) (can_place p (ready 0 p (omega arith)) (numbers 0 (selected p) (omega arith)))))
all_allocated choice first (p ∷ procs) (d ∷ cuts) ready numbers same each (suc q) c rest e =
    let rest_same : map (λ (x : Cut). x.flow) cuts ≡ map selected procs = cc in
    all_allocated choice (first + length d.traces) procs cuts (λ k x n. ready (suc k) x (omega (arith, n))) (λ k x n. numbers (suc k) x (omega (arith, n))) rest_same each.1 q c rest e

---- Flows of few values fit instructions

is_modest : (p : Proc) → IsReady p → HasFewValues p → node_numbers (selected p).nodes ≡ true → IsModest (selected p)
is_modest p r few numbers = let bytes = r.local_data.1 in record { values = few; local_bytes = omega (arith, bytes); kinds = kinds_of (selected p).nodes numbers }

small : (choice : Choice) (first : ℕ) (c : Cut) → IsAllocation choice first c → IsModest c.flow → Fits c
small choice first c a modest = modest_fits choice.regs c a.sound a.paths modest

pub all_small : (choice : Choice) (first : ℕ) (procs : List Proc) (cuts : List Cut) → All IsReady procs → All HasFewValues procs → HaveNumbers (map selected procs)
    → map (λ c. c.flow) cuts ≡ map selected procs → AllAllocations choice first cuts → AreSmall cuts
all_small choice first procs [] ready few numbers same each zero c rest e = cc
all_small choice first procs [] ready few numbers same each (suc q) c rest e = cc
all_small choice first [] (d ∷ cuts) ready few numbers same each q c rest e = absurd (let z : d.flow ∷ map (λ x. x.flow) cuts ≡ [] = same in cc)
all_small choice first (p ∷ procs) (d ∷ cuts) ready few numbers same each zero c rest e =
    let flow : d.flow ≡ selected p = cc in
    let is : d ≡ c = cc in
    let modest = is_modest p (ready 0 p (omega arith)) (few 0 p (omega arith)) (numbers 0 (selected p) (omega arith)) in
    subst Fits is (small choice first d each.0 (subst IsModest (sym flow) modest))
all_small choice first (p ∷ procs) (d ∷ cuts) ready few numbers same each (suc q) c rest e =
    let rest_same : map (λ (x : Cut). x.flow) cuts ≡ map selected procs = cc in
    all_small choice (first + length d.traces) procs cuts (λ k x n. ready (suc k) x (omega (arith, n))) (λ k x n. few (suc k) x (omega (arith, n))) (λ k x n. numbers (suc k) x (omega (arith, n))) rest_same each.1 q c rest e

-- the flows of valid procedures are valid
pub valid_flows : (procs : List Proc) → All IsReady procs → All IsValidFlow (map selected procs)
valid_flows [] ready k f n = absurd (omega (arith, n))
valid_flows (p ∷ procs) ready zero f n = selected_valid p (ready 0 p (omega arith)).valid
valid_flows (p ∷ procs) ready (suc k) f n = valid_flows procs (λ i x m. ready (suc i) x (omega (arith, m))) k f (omega (arith, n))
