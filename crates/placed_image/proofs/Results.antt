-- Results that the walk accepts can be linked.
use Rattle.std.proofs.Common.{◌≡◌, ℕ, zero, suc, ◌+◌, ◌≤◌, List, [], ◌∷◌, ◌++◌, map, length, take, drop, refl, sym, ap, ap₂, ◌∙◌, subst, arith}
use Rattle.std.specs.List.{AllByRecursion}
use Rattle.std.proofs.Math.Seq.{take-append_seam, drop-append_seam}
use Rattle.std.proofs.lemmas.List.Elements.{recursion_from_All}
use Rattle.lir_core.specs.declared.flow.Flow.{Flow}
use Rattle.lir_core.specs.declared.flow.Trace.{Trace}
use Rattle.lir_core.specs.declared.places.TraceOut.{TraceOut}
use Rattle.trace_build.specs.declared.builder.Builder.{Builder}
use Rattle.trace_build.specs.Cuts.{lists_of, AllTraces}
use Rattle.boundary_resolve.specs.Edges.{AreSound}
use Rattle.placed_code.specs.declared.data.ImageData.{ImageData}
use Rattle.linked_flows.specs.Allocations.{Cut}
use Rattle.link_blocks.specs.Laid.{Fits}
use Rattle.link_plan.specs.Linked.{IsAllocated, AllAllocated, AreCuts, AreSmall, IsUnnamedAndFar, frame_of_cuts}
use Rattle.modest_flows.specs.Modest.{IsModest}
use Rattle.modest_flows.proofs.Fitting.{modest_fits}
use Rattle.alloc_audit.specs.Results.{OwnWalked, AreWalked}
use Rattle.audited_allocations.proofs.Passing.{own_count, own_sound}
use Rattle.back_end.proofs.Reading.{of_nodes, kinds_of}
use Rattle.placed_image.specs.Cutting.{IsCutBy, AreCutBy}
use Rattle.flow_allocation.specs.Allocations.{items_of}
use Rattle.placed_image.specs.Shares.{cuts_of, AllSound, AreSharesOf}
use Rattle.placed_image.specs.Placing.{IsPlaceable, CanBePlaced}
use Rattle.placed_image.specs.declared.sharing.Shares.{Shares}

-- a flow's own results, and those behind them
pub shares_are : (ts : List Trace) (outs own rest : List TraceOut) → outs ≡ own ++ rest → length own ≡ length ts → (take (length ts) outs ≡ own) × (drop (length ts) outs ≡ rest)
shares_are ts outs own rest e n = (ap₂ take (sym n) e ∙ take-append_seam own rest, ap₂ drop (sym n) e ∙ drop-append_seam own rest)

is_modest : (f : Flow) → IsPlaceable f → IsModest f
is_modest f can = let bytes = can.local_data.1 in record { values = can.values; local_bytes = omega (arith, bytes); kinds = kinds_of f.nodes can.numbers }

-- it can be linked, and fits instructions
pub record CanBeLinked (k : ℕ) (c : Cut) : Type 0 where
  pub allocated : IsAllocated k c
  pub fits : Fits c

pub sound_linked : (k : ℕ) (c : Cut) → IsPlaceable c.flow → AreSound k c.flow c.traces c.outs → AllTraces c.flow (lists_of c.traces) → CanBeLinked k c
sound_linked k c can sound paths = record {
  allocated = record { sound = sound; paths = paths; numbers = of_nodes c.flow.nodes can.numbers; local_data = can.local_data; body = can.body };
  fits = modest_fits k c sound paths (is_modest c.flow can);
}

pub linked_at : (k : ℕ) (cuts : List Cut) → AllByRecursion (CanBeLinked k) cuts → (q : ℕ) (c : Cut) (rest : List Cut) → drop q cuts ≡ c ∷ rest → CanBeLinked k c
linked_at k [] h zero c rest e = cc
linked_at k [] h (suc q) c rest e = cc
linked_at k (d ∷ cuts) h zero c rest e = let is : d ≡ c = cc in subst (CanBeLinked k) is h.0
linked_at k (d ∷ cuts) h (suc q) c rest e = linked_at k cuts h.1 q c rest e

module _ (k : ℕ) (enough : 4 ≤ k) (few : k ≤ 16) (builder : Builder) where
  one_linked : (f : Flow) (n : ℕ) (ts : List Trace) (own : List TraceOut) → IsPlaceable f → IsCutBy builder f ts → OwnWalked k f n ts own → CanBeLinked k (record { flow = f; traces = ts; outs = own })
  one_linked f n ts own can cut walked = sound_linked k (record { flow = f; traces = ts; outs = own }) can (own_sound k f n ts own can.valid enough few cut.partition walked) cut.paths

  pub all_linked : (n : ℕ) (fs : List Flow) (cuts : List (List Trace)) (outs : List TraceOut) → AllByRecursion IsPlaceable fs → AreCutBy builder fs cuts → AreWalked k n fs cuts outs → AllByRecursion (CanBeLinked k) (cuts_of fs cuts outs)
  all_linked n [] cuts outs can cut walked = tt
  all_linked n (f ∷ fs) [] outs can cut walked = absurd cut
  all_linked n (f ∷ fs) (ts ∷ cuts) outs can cut walked =
      let s = shares_are ts outs walked.0 walked.1 walked.2 (own_count k f n ts walked.0 walked.3) in (
        subst (λ os. CanBeLinked k (record { flow = f; traces = ts; outs = os })) (sym s.0) (one_linked f n ts walked.0 can.0 cut.0 walked.3),
        subst (λ os. AllByRecursion (CanBeLinked k) (cuts_of fs cuts os)) (sym s.1) (all_linked (n + length ts) fs cuts walked.1 can.1 cut.1 walked.4),
      )

pub flows_are : (builder : Builder) (fs : List Flow) (cuts : List (List Trace)) (outs : List TraceOut) → AreCutBy builder fs cuts → map (λ c. c.flow) (cuts_of fs cuts outs) ≡ fs
flows_are builder [] cuts outs h = refl
flows_are builder (f ∷ fs) [] outs h = absurd h
flows_are builder (f ∷ fs) (ts ∷ cuts) outs h = ap (λ gs. f ∷ gs) (flows_are builder fs cuts (drop (length ts) outs) h.1)

pub each_cut : (builder : Builder) (fs : List Flow) (cuts : List (List Trace)) → AreCutBy builder fs cuts → length cuts ≡ length fs
each_cut builder [] [] h = refl
each_cut builder [] (ts ∷ cuts) h = absurd h
each_cut builder (f ∷ fs) [] h = absurd h
each_cut builder (f ∷ fs) (ts ∷ cuts) h = ap suc (each_cut builder fs cuts h.1)

-- where each flow has a name, no frame is past those of an image without names
pub named_or_none : (fs : List Flow) (cuts : List Cut) (extra : ImageData) → map (λ c. c.flow) cuts ≡ fs → length extra.names ≡ length fs → IsUnnamedAndFar extra (frame_of_cuts cuts) → ⊥
named_or_none fs [] extra same named e = let far = e.far in omega (arith, far)
named_or_none fs (c ∷ cuts) extra same named e =
    let none = ap length e.unnamed in
    let n = ap (λ (gs : List Flow). length gs) same in
    omega (arith, none, named, n)

---- What linking asks

module _ (flows : List Flow) (cuts : List (List Trace)) (outs : List TraceOut) (can : CanBePlaced flows cuts outs) where
  all_fine : AllByRecursion (CanBeLinked can.regs) (cuts_of flows cuts outs)
  all_fine = all_linked can.regs can.enough can.few can.builder 0 flows cuts outs (recursion_from_All IsPlaceable flows can.flows_are) can.cut can.walked

  pub allocated : AllAllocated can.regs (cuts_of flows cuts outs)
  allocated q c rest e = (linked_at can.regs (cuts_of flows cuts outs) all_fine q c rest e).allocated

  pub small : AreSmall (cuts_of flows cuts outs)
  small q c rest e = (linked_at can.regs (cuts_of flows cuts outs) all_fine q c rest e).fits

  all_sound : AllSound can.regs (cuts_of flows cuts outs)
  all_sound q c rest e = (allocated q c rest e).sound

  pub are_cuts : (shares : Shares) → AreSharesOf (cuts_of flows cuts outs) shares → AreCuts can.regs flows (items_of shares.parts) (items_of shares.outs) (cuts_of flows cuts outs)
  are_cuts shares are = record {
    flows_are = sym (flows_are can.builder flows cuts outs can.cut);
    parts_are = are.parts can.regs all_sound;
    outs_are = are.outs;
    few = can.few;
    each = allocated;
  }

  pub none_far : (extra : ImageData) → length extra.names ≡ length flows → IsUnnamedAndFar extra (frame_of_cuts (cuts_of flows cuts outs)) → ⊥
  none_far extra named e = named_or_none flows (cuts_of flows cuts outs) extra (flows_are can.builder flows cuts outs can.cut) named e
