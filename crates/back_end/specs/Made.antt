-- What a flow alone comes to.
use Rattle.std.specs.Prelude.{◌≡◌, ◌<◌, ◌^◌, [], ◌∷◌, length, true}
use Rattle.lir_core.specs.declared.flow.Flow.{Flow}
use Rattle.placed_code.specs.Layout.{all_words}
use Rattle.placed_code.specs.Results.{placed}
use Rattle.linked_flows.specs.Allocations.{Cut, steps_of, allocated}
use Rattle.link_blocks.specs.Fits.{numbers_fit}
use Rattle.link_blocks.specs.Laid.{Fits}
use Rattle.procedure_pieces.specs.Pieces.{piece_of}
use Rattle.procedure_code.specs.Views.{piece_in}
use Rattle.link_plan.specs.Linked.{IsAllocated}
use Rattle.alloc_choice.specs.declared.choice.Choice.{Choice}
use Rattle.flow_allocation.specs.Allocations.{IsAllocation}
use Rattle.back_end.specs.declared.making.FlowWords.{FlowWords}
use Rattle.back_end.specs.declared.making.FlowWords.TheVariants.{Piece, Misfit, Limit}
use Rattle.back_end.specs.declared.making.MadeFlow.{MadeFlow}

-- its piece, whose numbers fit instructions; or something of it doesn't fit, or its words are too many
abbrev pub AreWords : Cut → FlowWords → Type 0
AreWords c (Piece piece) = (piece_in piece ≡ piece_of (placed steps_of (allocated c))) × (numbers_fit c.flow ≡ true)
AreWords c Misfit = Fits c → ⊥
AreWords c Limit = 2 ^ 18 < length (all_words (placed steps_of (allocated c) ∷ []))

-- the words of a flow in traces with final results, which are numbered from 0, and how many traces these are
pub record IsMade (choice : Choice) (flow : Flow) (made : MadeFlow) : Type 0 where
  pub cut : Cut
  pub flow_is : cut.flow ≡ flow
  pub allocation : IsAllocation choice 0 cut
  pub count : made.traces ≡ length cut.traces
  pub words : IsAllocated choice.regs cut → AreWords cut made.words
