-- From final results, one behind the other, to flows in traces.
use Rattle.std.proofs.Common.{◌≡◌, ℕ, zero, suc, ◌+◌, ◌<◌, ◌≤◌, List, [], ◌∷◌, ◌++◌, map, length, take, drop, get_or, refl, sym, ap, ap₂, ◌∙◌, subst, arith}
use Rattle.std.specs.Prelude.{All, Some, slice_get}
use Rattle.std.proofs.lemmas.List.{get_or-drop, get_or-take, length-drop, length-take-le, drop-drop, take_all}
use Rattle.lir_core.specs.declared.flow.Flow.{Flow}
use Rattle.lir_core.specs.declared.flow.Trace.{Trace}
use Rattle.lir_core.specs.declared.places.TraceOut.{TraceOut}
use Rattle.boundary_resolve.specs.declared.code_line.CodeLine.{CodeLine}
use Rattle.boundary_resolve.specs.Placing.{placed_of, out_at}
use Rattle.boundary_resolve.specs.Edges.{AreSound}
use Rattle.trace_build.specs.Parents.{trace_at}
use Rattle.trace_build.specs.Traces.{traces_in}
use Rattle.linked_flows.specs.Allocations.{Cut}
use Rattle.pool_core.proofs.Sums.{get_or_at}
use Rattle.trace_pool.specs.Ends.{AreFinal}
use Rattle.alloc_choice.specs.declared.choice.Choice.{Choice}
use Rattle.alloc_choice.specs.Choice.{IsFitChoice}
use Rattle.alloc_choice.specs.Results.{no_out, results_to}
use Rattle.trace_work.specs.declared.planning.TracePlan.{TracePlan}
use Rattle.trace_work.specs.declared.work.Entry.{Entry}
use Rattle.walked_results.specs.Walked.{IsWalked}
use Rattle.walked_results.proofs.Sounds.{result_sound}
use Rattle.trace_work.specs.Plans.{AreFinals, IsPlan, IsFinal, case_of}
use Rattle.trace_work.specs.Entries.{AreEntries, entry_of, parents_in}
use Rattle.trace_work.specs.Finals.{AreNumbered, AreBehind, flows_in, IsFinalOf}
use Rattle.trace_work.proofs.Ready.{are_finals}
use Rattle.flow_allocation.specs.Allocations.{IsAllocation, AllAllocations, AreAllocated}
use Rattle.flow_allocation.proofs.Counting.{counted}
use Rattle.flow_allocation.specs.Sharing.{shares, AreLines, HaveLines, AreShared}

---- Sharing, flow by flow

pub lines_more : (ps : List TracePlan) (os : List (List TraceOut)) (ls : List (List CodeLine)) (p : TracePlan) (o : List TraceOut) (l : List CodeLine) → HaveLines ps os ls → AreLines p o l → HaveLines (ps ++ p ∷ []) (os ++ o ∷ []) (ls ++ l ∷ [])
lines_more [] [] [] p o l h one = (one, tt)
lines_more [] [] (x ∷ ls) p o l h one = absurd h
lines_more [] (y ∷ os) ls p o l h one = absurd h
lines_more (q ∷ ps) [] ls p o l h one = absurd h
lines_more (q ∷ ps) (y ∷ os) [] p o l h one = absurd h
lines_more (q ∷ ps) (y ∷ os) (x ∷ ls) p o l h one = (h.0, lines_more ps os ls p o l h.1 one)

-- lines that are made of these traces and results
pub lines_are : (p : TracePlan) (own : List TraceOut) (lines : List CodeLine) (traces : List Trace) (outs : List TraceOut) → traces ≡ p.traces → outs ≡ own
    → ((k : ℕ) → AreSound k p.flow.now traces outs → lines ≡ placed_of p.flow.now traces outs) → AreLines p own lines
lines_are p own lines traces outs t o made k sound =
    made k (subst (λ os. AreSound k p.flow.now traces os) (sym o) (subst (λ (ts : List Trace). AreSound k p.flow.now ts own) (sym t) sound))
    ∙ ap₂ (λ ts os. placed_of p.flow.now ts os) t o

---- Final results for each flow

-- these stand behind each other, for each flow those of its traces
abbrev AllFinal : Choice → List TracePlan → List TraceOut → Type 0
AllFinal choice [] rest = Unit {0}
AllFinal choice (p ∷ ps) rest = ((t : ℕ) → t < length p.traces → IsFinal choice p t (get_or rest t no_out)) × (length p.traces ≤ length rest) × AllFinal choice ps (drop (length p.traces) rest)

drop_head : {A : Type 0} (xs : List A) (i : ℕ) (x : A) (rest : List A) → drop i xs ≡ x ∷ rest → (slice_get xs i ≡ Some x) × (drop (suc i) xs ≡ rest)
drop_head [] i x rest e = absurd (nothing i e)
  where
    nothing : (i : ℕ) → drop i ([]) ≡ x ∷ rest → ⊥
    nothing zero e = cc
    nothing (suc i) e = cc
drop_head (y ∷ xs) zero x rest e = ((let q : y ≡ x = cc in ap Some q), (let r : xs ≡ rest = cc in r))
drop_head (y ∷ xs) (suc i) x rest e = drop_head xs i x rest e

entry_within : (es : List Entry) (i : ℕ) (e : Entry) → slice_get es i ≡ Some e → i < length (parents_in es)
entry_within [] i e h = cc
entry_within (x ∷ es) zero e h = omega arith
entry_within (x ∷ es) (suc i) e h = let l = entry_within es i e h in omega (arith, l)

module _ (choice : Choice) (plans : List TracePlan) (entries : List Entry) (outs : List TraceOut) (entered : AreEntries plans entries) (each : All (IsPlan choice.builder) plans)
    (final : AreFinal (IsFinalOf choice plans entries) (parents_in entries) outs) where
  is_plan : (i : ℕ) (p : TracePlan) → slice_get plans i ≡ Some p → IsPlan choice.builder p
  is_plan i p e = at plans i each e
    where
      at : (ps : List TracePlan) (i : ℕ) → All (IsPlan choice.builder) ps → slice_get ps i ≡ Some p → IsPlan choice.builder p
      at [] i h e = cc
      at (q ∷ ps) zero h e = let same : q ≡ p = cc in subst (IsPlan choice.builder) same (h 0 q (omega arith))
      at (q ∷ ps) (suc i) h e = at ps i (λ k x n. h (suc k) x (omega (arith, n))) e

  trace_final : (i t : ℕ) (p : TracePlan) → slice_get plans i ≡ Some p → t < length p.traces → IsFinal choice p t (get_or outs (p.first + t) no_out)
  trace_final i t p there lt =
      let g = entered.all i p t there lt in
      let d = final.1 (p.first + t) (entry_within entries (p.first + t) (entry_of i p t) g) in
      subst (λ x. IsFinal choice p t x) (sym (get_or_at outs (p.first + t) d.0 no_out d.1)) (d.2 (entry_of i p t) p g there (is_plan i p there))

  count_is : length outs ≡ length (parents_in entries)
  count_is = final.0

  -- an entry past the last is none
  room : (i t : ℕ) (p : TracePlan) → slice_get plans i ≡ Some p → t < length p.traces → p.first + t < length outs
  room i t p there lt =
      let g = entered.all i p t there lt in
      let e = count_is in
      let l = entry_within entries (p.first + t) (entry_of i p t) g in
      omega (arith, e, l)

  fits : (i n : ℕ) (p : TracePlan) → slice_get plans i ≡ Some p → p.first ≡ n → n ≤ length outs → length p.traces ≤ length (drop n outs)
  fits i n p there first le = by (length p.traces) refl
    where
      by : (k : ℕ) → length p.traces ≡ k → length p.traces ≤ length (drop n outs)
      by zero e = omega (arith, e)
      by (suc k) e = let r = room i k p there (omega (arith, e)) in let l = length-drop n outs in omega (arith, e, r, l, first)

  all_final_from : (i n : ℕ) (ps : List TracePlan) → drop i plans ≡ ps → AreNumbered n ps → n ≤ length outs → AllFinal choice ps (drop n outs)
  all_final_from i n [] e numbered le = tt
  all_final_from i n (p ∷ ps) e numbered le =
      let d = drop_head plans i p ps e in
      let room = fits i n p d.0 numbered.0 le in
      let l = length-drop n outs in (
        λ t lt. subst (λ x. IsFinal choice p t x) (ap (λ k. get_or outs (k + t) no_out) numbered.0 ∙ sym (get_or-drop n outs t no_out)) (trace_final i t p d.0 lt),
        room,
        subst (AllFinal choice ps) (sym (drop-drop (length p.traces) n outs)) (all_final_from (suc i) (n + length p.traces) ps d.1 numbered.1 (omega (arith, room, l, le))),
      )

  pub all_final : AreNumbered 0 plans → AllFinal choice plans outs
  all_final numbered = all_final_from 0 0 plans refl numbered (omega arith)

---- Numbers through all flows

-- the first trace of each has the number behind those before it
abbrev AreCounted : ℕ → List TracePlan → Type 0
AreCounted n [] = Unit {0}
AreCounted n (p ∷ ps) = (p.number ≡ n) × AreCounted (n + length p.traces) ps

are_counted : (before k n : ℕ) (ps : List TracePlan) → AreNumbered k ps → AreBehind before ps → n ≡ before + k → AreCounted n ps
are_counted before k n [] numbered behind e = tt
are_counted before k n (p ∷ ps) numbered behind e =
    let b = behind 0 p refl in
    let f = numbered.0 in
    (omega (arith, b, f, e), are_counted before (k + length p.traces) (n + length p.traces) ps numbered.1 (λ i q there. behind (suc i) q there) (omega (arith, e)))

---- Cuts

module _ (choice : Choice) (fit : IsFitChoice choice) where
  abbrev cut_of : TracePlan → List TraceOut → Cut
  cut_of p own = record { flow = p.flow.now; traces = p.traces; outs = own }

  module _ (p : TracePlan) (is : IsPlan choice.builder p) (rest : List TraceOut) (final : (t : ℕ) → t < length p.traces → IsFinal choice p t (get_or rest t no_out)) (room : length p.traces ≤ length rest) where
    abbrev own : List TraceOut
    own = take (length p.traces) rest

    own_count : length own ≡ length p.traces
    own_count = length-take-le (length p.traces) rest room

    own_at : (t : ℕ) → t < length p.traces → get_or own t no_out ≡ get_or rest t no_out
    own_at t lt = get_or-take (length p.traces) rest t no_out lt

    walked : (t : ℕ) → t < length p.traces → IsWalked choice.regs p.flow.now (trace_at p.traces t) (out_at own t)
    walked t lt = subst (λ x. IsWalked choice.regs p.flow.now (trace_at p.traces t) x) (sym (own_at t lt)) (final t lt).walked

    sound : AreSound choice.regs p.flow.now p.traces own
    sound = record {
      valid = is.valid;
      few = (fit.enough, fit.few);
      partition = is.partition;
      each = own_count;
      sound = λ t lt. result_sound choice.regs p.flow.now (trace_at p.traces t) (out_at own t) (walked t lt);
    }

    allocation : (first : ℕ) → p.number ≡ first → IsAllocation choice first (cut_of p own)
    allocation first e = record {
      rows = p.live;
      live = is.live;
      traces = is.cut;
      results = are_finals choice p own (length p.traces) own_count (λ t lt. own_at t lt ∙ (final t lt).is) ∙ ap (λ n. results_to choice.policy (case_of choice p) n p.traces (length p.traces)) e;
      sound = sound;
      walked = walked;
      paths = is.paths;
    }

  record Cuts (first : ℕ) (plans : List TracePlan) (outs : List (List TraceOut)) (parts : List (List CodeLine)) : Type 0 where
    pub cuts : List Cut
    pub each : AllAllocations choice first cuts
    pub flows_are : flows_in plans ≡ map (λ c. c.flow) cuts
    pub outs_are : outs ≡ map (λ c. c.outs) cuts
    pub parts_are : parts ≡ map (λ c. placed_of c.flow c.traces c.outs) cuts

  cuts_of : (first : ℕ) (plans : List TracePlan) (rest : List TraceOut) (parts : List (List CodeLine)) → All (IsPlan choice.builder) plans → AreCounted first plans → AllFinal choice plans rest → HaveLines plans (shares plans rest) parts → Cuts first plans (shares plans rest) parts
  cuts_of first [] rest [] each numbered final lines = record { cuts = []; each = tt; flows_are = refl; outs_are = refl; parts_are = refl }
  cuts_of first [] rest (l ∷ ls) each numbered final lines = absurd lines
  cuts_of first (p ∷ ps) rest [] each numbered final lines = absurd lines
  cuts_of first (p ∷ ps) rest (l ∷ ls) each numbered final lines =
      let is = each 0 p (omega arith) in
      let r = cuts_of (first + length p.traces) ps (drop (length p.traces) rest) ls (λ k x n. each (suc k) x (omega (arith, n))) numbered.1 final.2 lines.1 in
      record {
        cuts = cut_of p (own p is rest final.0 final.1) ∷ r.cuts;
        each = (allocation p is rest final.0 final.1 first numbered.0, r.each);
        flows_are = ap (λ fs. p.flow.now ∷ fs) r.flows_are;
        outs_are = ap (λ os. take (length p.traces) rest ∷ os) r.outs_are;
        parts_are = ap₂ (λ x xs. x ∷ xs) (lines.0 choice.regs (sound p is rest final.0 final.1)) r.parts_are;
      }

  pub allocated : (before : ℕ) (plans : List TracePlan) (entries : List Entry) (outs : List TraceOut) (shared : List (List TraceOut)) (parts : List (List CodeLine)) (flows : List Flow) (traces : ℕ) → AreEntries plans entries → All (IsPlan choice.builder) plans
      → AreNumbered 0 plans → AreBehind before plans → flows_in plans ≡ flows → AreFinal (IsFinalOf choice plans entries) (parents_in entries) outs → AreShared plans outs parts shared → traces ≡ traces_in choice.builder flows → AreAllocated choice before flows parts shared traces
  allocated before plans entries outs shared parts flows traces entered each numbered behind are final h count =
      let r = cuts_of before plans outs parts each (are_counted before 0 before plans numbered behind (omega arith)) (all_final choice plans entries outs entered each final numbered) (subst (λ os. HaveLines plans os parts) h.outs_are h.parts_are) in
      record {
        cuts = r.cuts;
        flows_are = sym are ∙ r.flows_are;
        parts_are = r.parts_are;
        outs_are = h.outs_are ∙ r.outs_are;
        each = r.each;
        count = count ∙ sym (counted choice before r.cuts flows (sym (sym are ∙ r.flows_are)) r.each);
      }

  -- a flow alone
  pub allocated_alone : (p : TracePlan) (outs : List TraceOut) (lines : List CodeLine) (flow : Flow) (traces : ℕ) → IsPlan choice.builder p → p.number ≡ 0 → p.flow.now ≡ flow → AreFinals choice p outs → AreLines p outs lines
      → traces ≡ traces_in choice.builder (flow ∷ []) → AreAllocated choice 0 (flow ∷ []) (lines ∷ []) (outs ∷ []) traces
  allocated_alone p outs lines flow traces is number are finals made count =
      let long = finals.count in
      let whole : take (length p.traces) outs ≡ outs = take_all (length p.traces) outs (omega (arith, long)) in
      let r = cuts_of 0 (p ∷ []) outs (lines ∷ []) one (number, tt) (finals.each, omega (arith, long), tt) (subst (λ os. AreLines p os lines) (sym whole) made, tt) in
      let flows_are : flow ∷ [] ≡ map (λ c. c.flow) r.cuts = ap (λ f. f ∷ []) (sym are) ∙ r.flows_are in
      record {
        cuts = r.cuts;
        flows_are = flows_are;
        parts_are = r.parts_are;
        outs_are = ap (λ os. os ∷ []) (sym whole) ∙ r.outs_are;
        each = r.each;
        count = count ∙ sym (counted choice 0 r.cuts (flow ∷ []) (sym flows_are) r.each);
      }
    where
      one : All (IsPlan choice.builder) (p ∷ [])
      one zero x n = is
      one (suc k) x n = absurd (omega (arith, n))
