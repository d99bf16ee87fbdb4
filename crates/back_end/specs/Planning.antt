-- Pieces of procedures, one after the other.
use Rattle.std.specs.Prelude.{◌≡◌, ◌+◌, ◌<◌, ◌≤◌, ◌^◌, List, ◌++◌, length, map, All, true, false}
use Rattle.std.specs.List.{list_all}
use Rattle.ssa_core.specs.declared.procedure.Proc.{Proc}
use Rattle.lir_core.specs.declared.flow.Flow.{Flow}
use Rattle.a64_select.specs.Selected.{selected}
use Rattle.placed_code.specs.declared.data.ImageData.{ImageData}
use Rattle.linked_flows.specs.Allocations.{Cut}
use Rattle.link_blocks.specs.Fits.{numbers_fit}
use Rattle.procedure_code.specs.Views.{piece_in}
use Rattle.link_plan.specs.Linked.{AllAllocated, AreSmall, pieces_of}
use Rattle.alloc_choice.specs.declared.choice.Choice.{Choice}
use Rattle.alloc_choice.specs.Choice.{IsFitChoice}
use Rattle.flow_allocation.specs.Allocations.{AllAllocations, trace_count}
use Rattle.back_end.specs.Images.{IsReady, code_length}
use Rattle.back_end.specs.Numbers.{node_numbers}
use Rattle.back_end.specs.declared.joining.Planned.{Planned}

-- the pieces of flows in traces with final results, at most 262,144 of these; where linking can take the results, some cut doesn't
-- fit, or the code is too long, if they are marked so
pub record IsPlanned (choice : Choice) (flows : List Flow) (planned : Planned) : Type 0 where
  pub cuts : List Cut
  pub flows_are : map (λ c. c.flow) cuts ≡ flows
  pub each : AllAllocations choice 0 cuts
  pub few : planned.traces ≤ 262144
  pub count : planned.traces ≡ trace_count cuts
  pub pieces : AllAllocated choice.regs cuts → planned.fit ≡ true → planned.room ≡ true
      → (map piece_in planned.pieces.items ≡ pieces_of cuts) × (list_all (λ f. numbers_fit f) flows ≡ true)
  pub misfit : AllAllocated choice.regs cuts → planned.fit ≡ false → AreSmall cuts → ⊥
  pub over : AllAllocated choice.regs cuts → planned.room ≡ false → 2 ^ 18 < code_length cuts

-- the pieces of flows are added, where all before them fit and have room and they do too, and their traces
pub record AreMore (choice : Choice) (flows : List Flow) (old new : Planned) : Type 0 where
  pub cuts : List Cut
  pub flows_are : flows ≡ map (λ c. c.flow) cuts
  pub each : AllAllocations choice old.traces cuts
  pub few : new.traces ≤ 262144
  pub count : new.traces ≡ old.traces + trace_count cuts
  pub pieces : AllAllocated choice.regs cuts → new.fit ≡ true → new.room ≡ true
      → (old.fit ≡ true) × (old.room ≡ true) × (map piece_in new.pieces.items ≡ map piece_in old.pieces.items ++ pieces_of cuts) × (list_all (λ f. numbers_fit f) flows ≡ true)
  pub misfit : AllAllocated choice.regs cuts → new.fit ≡ false → old.fit ≡ true → AreSmall cuts → ⊥
  pub over : AllAllocated choice.regs cuts → new.room ≡ false → old.room ≡ true → 2 ^ 18 < code_length cuts

-- what can be linked: procedures that are ready, with numbers of 64 bits, whose flows are planned
pub record ArePlanned (choice : Choice) (procs : List Proc) (planned : Planned) : Type 0 where
  pub fit : IsFitChoice choice
  pub ready : All IsReady procs
  pub numbers : All (λ (f : Flow). node_numbers f.nodes ≡ true) (map selected procs)
  pub are : IsPlanned choice (map selected procs) planned

-- pieces that are of use have a name each
abbrev pub HaveNames : Planned → ImageData → Type 0
HaveNames planned extra = planned.fit ≡ true → planned.room ≡ true → length extra.names ≡ length planned.pieces.items
