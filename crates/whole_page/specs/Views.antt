-- What a page shows of a program's code.
use Rattle.std.specs.Prelude.{ℕ, List, [], map, slice_index_or, Option}
use Rattle.std.specs.Option.{option_map}
use Rattle.image_form.specs.declared.image.ProcPlace.{ProcPlace}
use Rattle.lir_core.specs.declared.flow.Flow.{Flow}
use Rattle.lir_core.specs.declared.flow.Trace.{Trace}
use Rattle.lir_core.specs.declared.places.TraceOut.{TraceOut}
use Rattle.boundary_resolve.specs.declared.code_line.CodeLine.{CodeLine}
use Rattle.placed_code.specs.Placed.{Placed}
use Rattle.link_blocks.specs.Plans.{placed_in}
use Rattle.alloc_choice.specs.declared.choice.Policy.{Policy}
use Rattle.whole_page.specs.declared.seen.Seen.{Seen}

-- by what policy and with how many registers; procedures by their numbers: flows, the traces of each, the traces above these, their
-- results, the lines of the code, what they are placed as; the words of all, and where procedures stand
pub record View : Type 0 where
  pub policy : Policy
  pub registers : ℕ
  pub flows : List Flow
  pub cuts : List (List Trace)
  pub parents : List (List (Option ℕ))
  pub outs : List (List TraceOut)
  pub lines : List (List CodeLine)
  pub plans : List Placed
  pub code : List ℕ
  pub places : List ProcPlace

abbrev pub view_of : Seen → View
view_of seen = record {
  policy = seen.choice.policy;
  registers = seen.choice.regs;
  flows = seen.flows.now;
  cuts = map (λ v. v.items) seen.cuts.now;
  parents = map (λ v. v.items) seen.parents.now;
  outs = map (λ v. v.items) seen.outs.now;
  lines = map (λ v. v.items) seen.lines.now;
  plans = map placed_in seen.plans.now;
  code = seen.code.now;
  places = seen.places.now;
}

abbrev pub maybe_view : Option Seen → Option View
maybe_view seen = option_map view_of seen

-- the traces, the traces above them, the results and the lines of a procedure
abbrev pub traces_at : View → ℕ → List Trace
traces_at view n = slice_index_or view.cuts n []

abbrev pub parents_at : View → ℕ → List (Option ℕ)
parents_at view n = slice_index_or view.parents n []

abbrev pub outs_at : View → ℕ → List TraceOut
outs_at view n = slice_index_or view.outs n []

abbrev pub lines_at : View → ℕ → List CodeLine
lines_at view n = slice_index_or view.lines n []
