-- Pieces of procedures, one after the other.
use Rattle.std.proofs.Common.{◌≡◌, ℕ, zero, suc, ◌+◌, ◌<◌, ◌≤◌, ◌^◌, ◌&&◌, true, false, Bool, List, [], ◌∷◌, ◌++◌, map, drop, length, refl, sym, ap, ap₂, ◌∙◌, subst, arith, append_assoc}
use Rattle.std.specs.Prelude.{All}
use Rattle.std.specs.List.{list_all}
use Rattle.std.proofs.lemmas.List.{append-nil, map-append}
use Rattle.std.proofs.lemmas.List.Folds.{list_all-append}
use Rattle.ssa_core.specs.declared.procedure.Proc.{Proc}
use Rattle.lir_core.specs.declared.flow.Flow.{Flow}
use Rattle.lir_core.specs.declared.places.TraceOut.{TraceOut}
use Rattle.a64_select.specs.Selected.{selected}
use Rattle.boundary_resolve.specs.declared.code_line.CodeLine.{CodeLine}
use Rattle.boundary_resolve.specs.Placing.{placed_of}
use Rattle.placed_code.specs.Placed.{Placed}
use Rattle.placed_code.specs.Words.{slots_of}
use Rattle.placed_code.specs.Layout.{all_words}
use Rattle.placed_code.specs.Results.{Allocated, placed, all_placed}
use Rattle.size_limits.specs.Limits.{most_slots}
use Rattle.linked_flows.specs.Allocations.{Cut, steps_of, allocated}
use Rattle.linked_flows.specs.Allocations.{all_allocated as allocated_cuts}
use Rattle.trace_build.specs.Traces.{traces_in}
use Rattle.link_blocks.specs.Fits.{numbers_fit, registers_fit, rows_fit}
use Rattle.link_blocks.specs.Laid.{Fits, IsCutOf}
use Rattle.procedure_pieces.specs.Pieces.{Piece, piece_of}
use Rattle.procedure_code.specs.Views.{piece_in}
use Rattle.procedure_code.specs.declared.pieces.Piece.{Piece as MadePiece}
use Rattle.link_plan.specs.Linked.{AllAllocated, AreCuts, ArePieces, AreSmall, IsAllocated, pieces_of}
use Rattle.link_plan.proofs.Longer.{first_fewer, last_fewer}
use Rattle.modest_flows.proofs.Fitting.{both}
use Rattle.alloc_choice.specs.declared.choice.Choice.{Choice}
use Rattle.alloc_choice.specs.Choice.{IsFitChoice}
use Rattle.trace_work.proofs.Made.{traces-append}
use Rattle.flow_allocation.specs.Allocations.{IsAllocation, AllAllocations, AreAllocated, trace_count}
use Rattle.flow_allocation.specs.Numbered.{numbered, renumbered}
use Rattle.flow_allocation.proofs.Counting.{counted}
use Rattle.flow_allocation.proofs.Numbered.{renumbered_allocation, allocated_renumbered}
use Rattle.back_end.specs.Images.{IsReady, AreCutsOf, code_length}
use Rattle.back_end.specs.Made.{AreWords, IsMade}
use Rattle.back_end.specs.Tasks.{IsOutcome, AreOutcomes}
use Rattle.back_end.specs.Planning.{IsPlanned, AreMore, ArePlanned}
use Rattle.back_end.specs.declared.joining.Planned.{Planned}
use Rattle.back_end.specs.declared.making.FlowWords.TheVariants as words
use Rattle.back_end.specs.declared.making.MadeFlow.{MadeFlow}
use Rattle.back_end.specs.declared.outcome.Outcome.{Outcome}
use Rattle.back_end.specs.Numbers.{node_numbers}
use Rattle.back_end.proofs.Reading.{all_further}
use Rattle.back_end.proofs.Ready.{HaveNumbers, all_allocated}

---- Lists of cuts, one behind the other

count-append : (xs ys : List Cut) → trace_count (xs ++ ys) ≡ trace_count xs + trace_count ys
count-append [] ys = omega arith
count-append (x ∷ xs) ys = let r = count-append xs ys in omega (arith, r)

placed-append : (xs ys : List Cut) → all_placed steps_of (allocated_cuts (xs ++ ys)) ≡ all_placed steps_of (allocated_cuts xs) ++ all_placed steps_of (allocated_cuts ys)
placed-append [] ys = refl
placed-append (x ∷ xs) ys = ap (λ (ps : List Placed). placed steps_of (allocated x) ∷ ps) (placed-append xs ys)

pieces-append : (xs ys : List Cut) → pieces_of (xs ++ ys) ≡ pieces_of xs ++ pieces_of ys
pieces-append [] ys = refl
pieces-append (x ∷ xs) ys = ap (λ (ps : List Piece). piece_of (placed steps_of (allocated x)) ∷ ps) (pieces-append xs ys)

-- too long in front, or behind
over-front : (xs ys : List Cut) → 2 ^ 18 < code_length xs → 2 ^ 18 < code_length (xs ++ ys)
over-front xs ys l =
    let m = first_fewer (all_placed steps_of (allocated_cuts xs)) (all_placed steps_of (allocated_cuts ys)) in
    let e = ap (λ (ps : List Placed). length (all_words ps)) (placed-append xs ys) in
    omega (arith, l, m, e)

over-behind : (xs ys : List Cut) → 2 ^ 18 < code_length ys → 2 ^ 18 < code_length (xs ++ ys)
over-behind xs ys l =
    let m = last_fewer (all_placed steps_of (allocated_cuts xs)) (all_placed steps_of (allocated_cuts ys)) in
    let e = ap (λ (ps : List Placed). length (all_words ps)) (placed-append xs ys) in
    omega (arith, l, m, e)

allocations-append : (choice : Choice) (first n : ℕ) (xs ys : List Cut) → AllAllocations choice first xs → AllAllocations choice n ys → n ≡ first + trace_count xs → AllAllocations choice first (xs ++ ys)
allocations-append choice first n [] ys hx hy e = let z : n ≡ first = omega (arith, e) in subst (λ m. AllAllocations choice m ys) z hy
allocations-append choice first n (x ∷ xs) ys hx hy e = (hx.0, allocations-append choice (first + length x.traces) n xs ys hx.1 hy (omega (arith, e)))

each-append : (holds : Cut → Type 0) (xs ys : List Cut) → ((q : ℕ) (c : Cut) (rest : List Cut) → drop q xs ≡ c ∷ rest → holds c) → ((q : ℕ) (c : Cut) (rest : List Cut) → drop q ys ≡ c ∷ rest → holds c)
    → (q : ℕ) (c : Cut) (rest : List Cut) → drop q (xs ++ ys) ≡ c ∷ rest → holds c
each-append holds [] ys hx hy q c rest e = hy q c rest e
each-append holds (x ∷ xs) ys hx hy zero c rest e = let same : x ≡ c = cc in hx zero c xs (ap (λ (z : Cut). z ∷ xs) same)
each-append holds (x ∷ xs) ys hx hy (suc q) c rest e = each-append holds xs ys (λ i d r there. hx (suc i) d r there) hy q c rest e

drop-front : (xs ys : List Cut) (q : ℕ) (c : Cut) (rest : List Cut) → drop q xs ≡ c ∷ rest → drop q (xs ++ ys) ≡ c ∷ (rest ++ ys)
drop-front [] ys zero c rest e = cc
drop-front [] ys (suc q) c rest e = cc
drop-front (x ∷ xs) ys zero c rest e = ap (λ (zs : List Cut). zs ++ ys) e
drop-front (x ∷ xs) ys (suc q) c rest e = drop-front xs ys q c rest e

drop-behind : (xs ys : List Cut) (q : ℕ) → drop (length xs + q) (xs ++ ys) ≡ drop q ys
drop-behind [] ys q = let z : 0 + q ≡ q = omega arith in ap (λ n. drop n ys) z
drop-behind (x ∷ xs) ys q = let z : suc (length xs) + q ≡ suc (length xs + q) = omega arith in ap (λ n. drop n (x ∷ (xs ++ ys))) z ∙ drop-behind xs ys q

-- what holds of each of both lists holds of each of one
each-front : (holds : Cut → Type 0) (xs ys : List Cut) → ((q : ℕ) (c : Cut) (rest : List Cut) → drop q (xs ++ ys) ≡ c ∷ rest → holds c) → (q : ℕ) (c : Cut) (rest : List Cut) → drop q xs ≡ c ∷ rest → holds c
each-front holds xs ys h q c rest e = h q c (rest ++ ys) (drop-front xs ys q c rest e)

each-behind : (holds : Cut → Type 0) (xs ys : List Cut) → ((q : ℕ) (c : Cut) (rest : List Cut) → drop q (xs ++ ys) ≡ c ∷ rest → holds c) → (q : ℕ) (c : Cut) (rest : List Cut) → drop q ys ≡ c ∷ rest → holds c
each-behind holds xs ys h q c rest e = h (length xs + q) c rest (drop-behind xs ys q ∙ e)

---- Flows more

pub nothing : (choice : Choice) (planned : Planned) → planned.pieces.items ≡ [] → planned.traces ≡ 0 → planned.fit ≡ true → planned.room ≡ true → IsPlanned choice [] planned
nothing choice planned none zero-traces fit room = record {
  cuts = [];
  flows_are = refl;
  each = tt;
  few = omega (arith, zero-traces);
  count = zero-traces;
  pieces = λ all e f. (ap (λ (ps : List MadePiece). map piece_in ps) none, refl);
  misfit = λ all e. absurd (let z : true ≡ false = sym fit ∙ e in cc);
  over = λ all e. absurd (let z : true ≡ false = sym room ∙ e in cc);
}

module _ (choice : Choice) (done flows : List Flow) (old new : Planned) (before : IsPlanned choice done old) (made : AreMore choice flows old new) where
  abbrev joined : List Cut
  joined = before.cuts ++ made.cuts

  first_all : AllAllocated choice.regs joined → AllAllocated choice.regs before.cuts
  first_all all = each-front (IsAllocated choice.regs) before.cuts made.cuts all

  last_all : AllAllocated choice.regs joined → AllAllocated choice.regs made.cuts
  last_all all = each-behind (IsAllocated choice.regs) before.cuts made.cuts all

  misfits : AllAllocated choice.regs joined → new.fit ≡ false → AreSmall joined → (b : Bool) → old.fit ≡ b → ⊥
  misfits all e small true f = made.misfit (last_all all) e f (each-behind Fits before.cuts made.cuts small)
  misfits all e small false f = before.misfit (first_all all) f (each-front Fits before.cuts made.cuts small)

  long : AllAllocated choice.regs joined → new.room ≡ false → (b : Bool) → old.room ≡ b → 2 ^ 18 < code_length joined
  long all e true f = over-behind before.cuts made.cuts (made.over (last_all all) e f)
  long all e false f = over-front before.cuts made.cuts (before.over (first_all all) f)

  pub one_more : IsPlanned choice (done ++ flows) new
  one_more =
      let n = before.count in
      let m = made.count in
      let c = count-append before.cuts made.cuts in
      record {
        cuts = joined;
        flows_are = map-append (λ (c : Cut). c.flow) before.cuts made.cuts ∙ ap₂ (λ xs ys. xs ++ ys) before.flows_are (sym made.flows_are);
        each = allocations-append choice 0 old.traces before.cuts made.cuts before.each made.each (omega (arith, n));
        few = made.few;
        count = omega (arith, n, m, c);
        pieces = λ all e f.
            let p = made.pieces (last_all all) e f in
            let o = before.pieces (first_all all) p.0 p.1 in (
              p.2 ∙ ap (λ (ps : List Piece). ps ++ pieces_of made.cuts) o.0 ∙ sym (pieces-append before.cuts made.cuts),
              list_all-append (λ f. numbers_fit f) done flows ∙ both (list_all (λ f. numbers_fit f) done) (list_all (λ f. numbers_fit f) flows) o.1 p.3,
            );
        misfit = λ all e small. misfits all e small old.fit refl;
        over = λ all e. long all e old.room refl;
      }

-- traces past the limit behind the first flows are past it among all
pub over : (choice : Choice) (done flows left : List Flow) (planned : Planned) → IsPlanned choice done planned → 262144 < planned.traces + traces_in choice.builder flows → 262144 < traces_in choice.builder (done ++ (flows ++ left))
over choice done flows left planned is lt =
    let n = is.count in
    let c = counted choice 0 is.cuts done is.flows_are is.each in
    let a = traces-append choice.builder done (flows ++ left) in
    let b = traces-append choice.builder flows left in
    omega (arith, lt, n, c, a, b)

---- What passes give

-- the same mark can't have come to be false
unmarked : {A : Type 0} (before after : Bool) → after ≡ before → after ≡ false → before ≡ true → A
unmarked before after same is was = absurd (let z : true ≡ false = sym was ∙ sym same ∙ is in cc)

module _ (choice : Choice) (fit : IsFitChoice choice) (flows : List Flow) (parts : List (List CodeLine)) (outs : List (List TraceOut)) (old new : Planned) (traces : ℕ) (h : AreAllocated choice old.traces flows parts outs traces)
    (few : old.traces + traces ≤ 262144) (sum : new.traces ≡ old.traces + traces) where
  are_cuts : AllAllocated choice.regs h.cuts → AreCuts choice.regs flows parts outs h.cuts
  are_cuts each = record { flows_are = h.flows_are; parts_are = h.parts_are; outs_are = h.outs_are; few = fit.few; each = each }

  abbrev Pieces : Type 0
  Pieces = AllAllocated choice.regs h.cuts → new.fit ≡ true → new.room ≡ true
      → (old.fit ≡ true) × (old.room ≡ true) × (map piece_in new.pieces.items ≡ map piece_in old.pieces.items ++ pieces_of h.cuts) × (list_all (λ f. numbers_fit f) flows ≡ true)

  abbrev Misfit : Type 0
  Misfit = AllAllocated choice.regs h.cuts → new.fit ≡ false → old.fit ≡ true → AreSmall h.cuts → ⊥

  abbrev Over : Type 0
  Over = AllAllocated choice.regs h.cuts → new.room ≡ false → old.room ≡ true → 2 ^ 18 < code_length h.cuts

  with_pieces : Pieces → Misfit → Over → AreMore choice flows old new
  with_pieces pieces misfit over =
      let n = h.count in
      record {
        cuts = h.cuts;
        flows_are = h.flows_are;
        each = h.each;
        few = omega (arith, few, sum);
        count = omega (arith, sum, n);
        pieces = pieces;
        misfit = misfit;
        over = over;
      }

  pub added : old.fit ≡ true → new.fit ≡ old.fit → new.room ≡ old.room → ((k : ℕ) (cuts : List Cut) → AreCuts k flows parts outs cuts → map piece_in new.pieces.items ≡ map piece_in old.pieces.items ++ pieces_of cuts) → list_all (λ f. numbers_fit f) flows ≡ true
      → AreMore choice flows old new
  added were fits rooms pieces numbers =
      with_pieces (λ each e f. (were, sym rooms ∙ f, pieces choice.regs h.cuts (are_cuts each), numbers))
      (λ each e f small. unmarked old.fit new.fit fits e f) (λ each e f. unmarked old.room new.room rooms e f)

  pub refused : new.fit ≡ false → new.room ≡ old.room → ((k : ℕ) (cuts : List Cut) → AreCuts k flows parts outs cuts → AreSmall cuts → ⊥) → AreMore choice flows old new
  refused unfit rooms none =
      with_pieces (λ each e. absurd (let z : false ≡ true = sym unfit ∙ e in cc)) (λ each e f small. none choice.regs h.cuts (are_cuts each) small) (λ each e f. unmarked old.room new.room rooms e f)

  pub too_long : new.fit ≡ old.fit → new.room ≡ false → ((k : ℕ) (cuts : List Cut) → AreCuts k flows parts outs cuts → 2 ^ 18 < code_length cuts) → AreMore choice flows old new
  too_long fits none far =
      with_pieces (λ each e f. absurd (let z : false ≡ true = sym none ∙ f in cc)) (λ each e f small. unmarked old.fit new.fit fits e f) (λ each e f. far choice.regs h.cuts (are_cuts each))

---- A flow that is made by itself

registers-numbered : (n : ℕ) (outs : List TraceOut) → registers_fit (numbered n outs) ≡ registers_fit outs
registers-numbered n [] = refl
registers-numbered n (o ∷ outs) = ap (λ b. rows_fit o.regs && b) (registers-numbered (suc n) outs)

module _ (choice : Choice) (flow : Flow) (made : MadeFlow) (h : IsMade choice flow made) (old new : Planned) (fits : old.traces + made.traces ≤ 262144) (sum : new.traces ≡ old.traces + made.traces) where
  -- behind the traces before it
  abbrev next : Cut
  next = renumbered old.traces h.cut

  is_next : IsAllocation choice old.traces next
  is_next = renumbered_allocation choice 0 old.traces h.cut h.allocation

  -- what linking asks of it, by the numbers with which it was made
  by_first : IsAllocated choice.regs next → IsAllocated choice.regs h.cut
  by_first all = record { sound = h.allocation.sound; paths = h.allocation.paths; numbers = all.numbers; local_data = all.local_data; body = all.body }

  has_words : AllAllocated choice.regs (next ∷ []) → AreWords h.cut made.words
  has_words all = h.words (by_first (all 0 next [] refl))

  same_words : length (all_words (placed steps_of (allocated next) ∷ [])) ≡ length (all_words (placed steps_of (allocated h.cut) ∷ []))
  same_words = ap (λ (x : Allocated). length (all_words (placed steps_of x ∷ []))) (allocated_renumbered old.traces h.cut)

  fits_first : Fits next → Fits h.cut
  fits_first f = record {
    numbers = f.numbers;
    registers = sym (registers-numbered old.traces h.cut.outs) ∙ f.registers;
    local_bytes = f.local_bytes;
    slots = subst (λ (x : Allocated). slots_of (placed steps_of x) ≤ most_slots) (allocated_renumbered old.traces h.cut) f.slots;
    nodes = f.nodes;
  }

  abbrev NextPieces : Type 0
  NextPieces = AllAllocated choice.regs (next ∷ []) → new.fit ≡ true → new.room ≡ true
      → (old.fit ≡ true) × (old.room ≡ true) × (map piece_in new.pieces.items ≡ map piece_in old.pieces.items ++ pieces_of (next ∷ [])) × (list_all (λ f. numbers_fit f) (flow ∷ []) ≡ true)

  abbrev NextMisfit : Type 0
  NextMisfit = AllAllocated choice.regs (next ∷ []) → new.fit ≡ false → old.fit ≡ true → AreSmall (next ∷ []) → ⊥

  abbrev NextOver : Type 0
  NextOver = AllAllocated choice.regs (next ∷ []) → new.room ≡ false → old.room ≡ true → 2 ^ 18 < code_length (next ∷ [])

  next_with : NextPieces → NextMisfit → NextOver → AreMore choice (flow ∷ []) old new
  next_with pieces misfit over =
      let n = h.count in
      record {
        cuts = next ∷ [];
        flows_are = ap (λ f. f ∷ []) (sym h.flow_is);
        each = (is_next, tt);
        few = omega (arith, fits, sum);
        count = omega (arith, sum, n);
        pieces = pieces;
        misfit = misfit;
        over = over;
      }

  pub put_piece : (piece : MadePiece) → made.words ≡ words.Piece piece → new.fit ≡ old.fit → new.room ≡ old.room → new.pieces.items ≡ old.pieces.items ++ piece ∷ [] → AreMore choice (flow ∷ []) old new
  put_piece piece is same_fit same_room more =
      next_with (λ all e f.
      let w = subst (AreWords h.cut) is (has_words all) in (
        sym same_fit ∙ e,
        sym same_room ∙ f,
        ap (λ (ps : List MadePiece). map piece_in ps) more ∙ map-append piece_in old.pieces.items (piece ∷ [])
            ∙ ap (λ (p : Piece). map piece_in old.pieces.items ++ p ∷ []) (w.0 ∙ ap (λ (x : Allocated). piece_of (placed steps_of x)) (sym (allocated_renumbered old.traces h.cut))),
        both (numbers_fit flow) true (ap (λ f. numbers_fit f) (sym h.flow_is) ∙ w.1) refl,
      ))
      (λ all e f small. unmarked old.fit new.fit same_fit e f) (λ all e f. unmarked old.room new.room same_room e f)

  pub put_misfit : made.words ≡ words.Misfit → new.fit ≡ false → new.room ≡ old.room → AreMore choice (flow ∷ []) old new
  put_misfit is unfit same_room =
      next_with (λ all e. absurd (let z : false ≡ true = sym unfit ∙ e in cc)) (λ all e f small. subst (AreWords h.cut) is (has_words all) (fits_first (small 0 next [] refl))) (λ all e f. unmarked old.room new.room same_room e f)

  pub put_limit : made.words ≡ words.Limit → new.fit ≡ old.fit → new.room ≡ false → AreMore choice (flow ∷ []) old new
  put_limit is same_fit none =
      next_with (λ all e f. absurd (let z : false ≡ true = sym none ∙ f in cc)) (λ all e f small. unmarked old.fit new.fit same_fit e f)
      (λ all e f. let w = subst (AreWords h.cut) is (has_words all) in omega (arith, w, same_words))

-- one flow in its traces, with what its words come to
module _ (choice : Choice) (fit : IsFitChoice choice) (flow : Flow) (lines : List CodeLine) (outs : List TraceOut) (made : MadeFlow) (has : (k : ℕ) (c : Cut) → k ≤ 16 → IsAllocated k c → IsCutOf k flow lines outs c → AreWords c made.words) where
  made_of : (cuts : List Cut) → flow ∷ [] ≡ map (λ c. c.flow) cuts → lines ∷ [] ≡ map (λ c. placed_of c.flow c.traces c.outs) cuts → outs ∷ [] ≡ map (λ c. c.outs) cuts → AllAllocations choice 0 cuts → made.traces ≡ trace_count cuts → IsMade choice flow made
  made_of [] flows_are parts_are outs_are each count = absurd (cc)
  made_of (c ∷ []) flows_are parts_are outs_are each count =
      let f : flow ≡ c.flow = cc in
      let l : lines ≡ placed_of c.flow c.traces c.outs = cc in
      let o : outs ≡ c.outs = cc in
      record {
        cut = c;
        flow_is = sym f;
        allocation = each.0;
        count = omega (arith, count);
        words = λ all. has choice.regs c fit.few all (record { flow_is = f; outs_are = o; lines_are = l; sound = each.0.sound; paths = each.0.paths });
      }
  made_of (c ∷ (d ∷ cs)) flows_are parts_are outs_are each count = absurd (cc)

  pub is_made : AreAllocated choice 0 (flow ∷ []) (lines ∷ []) (outs ∷ []) made.traces → IsMade choice flow made
  is_made h = made_of h.cuts h.flows_are h.parts_are h.outs_are h.each h.count

-- the traces of a flow that is made
pub made_count : (choice : Choice) (flow : Flow) (made : MadeFlow) → IsMade choice flow made → made.traces ≡ traces_in choice.builder (flow ∷ [])
made_count choice flow made h =
    let c = counted choice 0 (h.cut ∷ []) (flow ∷ []) (ap (λ f. f ∷ []) h.flow_is) (h.allocation, tt) in
    let n = h.count in
    omega (arith, c, n)

---- Procedures that are selected one by one

-- the flows of the first procedures are there, the others are left
pub record IsSelecting (flows : List Flow) (left all : List Proc) : Type 0 where
  pub ready : All IsReady left
  pub numbers : HaveNumbers flows
  pub same : flows ++ map selected left ≡ map selected all

pub none_selected : (flows : List Flow) (left all : List Proc) → All IsReady all → left ≡ all → flows ≡ [] → IsSelecting flows left all
none_selected flows left all ready whole none = record {
  ready = subst (All IsReady) (sym whole) ready;
  numbers = subst HaveNumbers (sym none) (λ k f l. absurd (omega (arith, l)));
  same = ap₂ (λ fs ps. fs ++ map selected ps) none whole;
}

module _ (flows : List Flow) (left all left' : List Proc) (p : Proc) (h : IsSelecting flows left all) (is : left ≡ p ∷ left') where
  pub first_ready : IsReady p
  first_ready = (subst (All IsReady) is h.ready) 0 p (omega arith)

  pub one_selected : (flows' : List Flow) (flow : Flow) → flow ≡ selected p → node_numbers flow.nodes ≡ true → flows' ≡ flows ++ flow ∷ [] → IsSelecting flows' left' all
  one_selected flows' flow made number more = record {
    ready = let there = subst (All IsReady) is h.ready in λ k d l. there (suc k) d (omega (arith, l));
    numbers = all_further flows flows' flow more h.numbers number;
    same =
        ap (λ fs. fs ++ map selected left') (more ∙ ap (λ f. flows ++ f ∷ []) made)
        ∙ append_assoc flows (selected p ∷ []) (map selected left')
        ∙ ap (λ ps. flows ++ map selected ps) (sym is)
        ∙ h.same;
  }

pub all_selected : (flows : List Flow) (left all : List Proc) → IsSelecting flows left all → left ≡ [] → flows ≡ map selected all
all_selected flows left all h none = sym (append-nil flows) ∙ ap (λ ps. flows ++ map selected ps) (sym none) ∙ h.same

---- Flows one after the other

-- the first flows are planned, and what the tasks of the others gave is left
pub record IsUnderWay (choice : Choice) (flows : List Flow) (left : List Outcome) (planned : Planned) : Type 0 where
  pub done : List Flow
  pub rest : List Flow
  pub split : done ++ rest ≡ flows
  pub ahead : AreOutcomes choice rest left
  pub first : IsPlanned choice done planned

pub begun : (choice : Choice) (flows : List Flow) (left : List Outcome) (planned : Planned) → AreOutcomes choice flows left → planned.pieces.items ≡ [] → planned.traces ≡ 0 → planned.fit ≡ true → planned.room ≡ true → IsUnderWay choice flows left planned
begun choice flows left planned outcomes none zero-traces fit room = record { done = []; rest = flows; split = refl; ahead = outcomes; first = nothing choice planned none zero-traces fit room }

module _ (choice : Choice) (flows : List Flow) (left left' : List Outcome) (outcome : Outcome) (old : Planned) (h : IsUnderWay choice flows left old) (is : left ≡ outcome ∷ left') where
  pub further : (new : Planned) → ((flow : Flow) → IsOutcome choice flow outcome → AreMore choice (flow ∷ []) old new) → IsUnderWay choice flows left' new
  further new more = from h.done h.rest h.split (subst (AreOutcomes choice h.rest) is h.ahead) h.first
    where
      from : (done rest : List Flow) → done ++ rest ≡ flows → AreOutcomes choice rest (outcome ∷ left') → IsPlanned choice done old → IsUnderWay choice flows left' new
      from done [] split none first = absurd none
      from done (flow ∷ rest) split ahead first = record {
        done = done ++ flow ∷ [];
        rest = rest;
        split = append_assoc done (flow ∷ []) rest ∙ split;
        ahead = ahead.1;
        first = one_more choice done (flow ∷ []) old new first (more flow ahead.0);
      }

  pub over_limit : ((flow : Flow) → IsOutcome choice flow outcome → 262144 < old.traces + traces_in choice.builder (flow ∷ [])) → 262144 < traces_in choice.builder flows
  over_limit lt = from h.done h.rest h.split (subst (AreOutcomes choice h.rest) is h.ahead) h.first
    where
      from : (done rest : List Flow) → done ++ rest ≡ flows → AreOutcomes choice rest (outcome ∷ left') → IsPlanned choice done old → 262144 < traces_in choice.builder flows
      from done [] split none first = absurd none
      from done (flow ∷ rest) split ahead first = subst (λ fs. 262144 < traces_in choice.builder fs) split (over choice done (flow ∷ []) rest old first (lt flow ahead.0))

pub ended : (choice : Choice) (flows : List Flow) (left : List Outcome) (planned : Planned) → IsUnderWay choice flows left planned → left ≡ [] → IsPlanned choice flows planned
ended choice flows left planned h none = from h.done h.rest h.split (subst (AreOutcomes choice h.rest) none h.ahead) h.first
  where
    from : (done rest : List Flow) → done ++ rest ≡ flows → AreOutcomes choice rest [] → IsPlanned choice done planned → IsPlanned choice flows planned
    from done [] split ahead first = subst (λ fs. IsPlanned choice fs planned) (sym (append-nil done) ∙ split) first
    from done (flow ∷ rest) split ahead first = absurd ahead

---- The flows of procedures

module _ (choice : Choice) (procs : List Proc) (planned : Planned) (h : ArePlanned choice procs planned) where
  pub cuts_are : AreCutsOf choice procs h.are.cuts
  cuts_are = record { flows = h.are.flows_are; each = h.are.each }

  pub all_can : AllAllocated choice.regs h.are.cuts
  all_can = all_allocated choice 0 procs h.are.cuts h.ready h.numbers h.are.flows_are h.are.each

  pub pieces_are : planned.fit ≡ true → planned.room ≡ true → ArePieces choice.regs (map piece_in planned.pieces.items) h.are.cuts
  pieces_are e f = let q = h.are.pieces all_can e f in record {
    pieces_are = q.0;
    numbers = ap (λ fs. list_all (λ f. numbers_fit f) fs) h.are.flows_are ∙ q.1;
    few = h.fit.few;
    each = all_can;
  }

  pub few_traces : trace_count h.are.cuts ≤ 262144
  few_traces = let n = h.are.few in let m = h.are.count in omega (arith, n, m)

  pub some_misfit : planned.fit ≡ false → (cuts : List Cut) × AreCutsOf choice procs cuts × (AreSmall cuts → ⊥)
  some_misfit unfit = (h.are.cuts, cuts_are, h.are.misfit all_can unfit)

  pub too_much : planned.room ≡ false → (cuts : List Cut) × AreCutsOf choice procs cuts × (trace_count cuts ≤ 262144) × (2 ^ 18 < code_length cuts)
  too_much full = (h.are.cuts, cuts_are, few_traces, h.are.over all_can full)
