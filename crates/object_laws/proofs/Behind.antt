-- The results behind some flows are those that the same flows have among more.
use Rattle.std.proofs.Common.{◌≡◌, ℕ, zero, suc, ◌+◌, ◌≤◌, List, [], ◌∷◌, ◌++◌, length, take, drop, refl, sym, ap, ap₂, subst, ◌∙◌, append_assoc, arith}
use Rattle.lir_core.specs.declared.flow.Flow.{Flow}
use Rattle.lir_core.specs.declared.flow.Trace.{Trace}
use Rattle.lir_core.specs.declared.places.TraceOut.{TraceOut}
use Rattle.trace_build.specs.Traces.{traces_in}
use Rattle.trace_build.specs.Cuts.{lists_of}
use Rattle.linked_flows.specs.Allocations.{Cut}
use Rattle.module_object.specs.words.alloc_choice.declared.choice.Choice.{Choice}
use Rattle.module_object.specs.audited_allocations.Joined.{joined}
use Rattle.module_object.specs.words.flow_allocation.Allocations.{AllAllocations, trace_count}
use Rattle.one_lowering.proofs.Lists.{take_map}
use Rattle.moved_flows.specs.Flows.{AllAlike}
use Rattle.moved_flows.proofs.Starts.{one_count}
use Rattle.module_object.specs.Objects.{AreResultsBehind}
use Rattle.object_laws.proofs.Lists.{drop_map}
use Rattle.object_laws.proofs.Alike.{flows, results, cuts_alike}

---- Counts of traces

length_lists : (ts : List Trace) → length (lists_of ts) ≡ length ts
length_lists [] = refl
length_lists (t ∷ ts) = ap suc (length_lists ts)

counted : (choice : Choice) (first : ℕ) (cs : List Cut) → AllAllocations choice first cs → trace_count cs ≡ traces_in choice.builder (flows cs)
counted choice first [] h = refl
counted choice first (c ∷ cs) h = ap₂ (λ m n. m + n) (sym (length_lists c.traces) ∙ ap length h.0.traces) (counted choice (first + length c.traces) cs h.1)

pub all_take : (choice : Choice) (first n : ℕ) (cs : List Cut) → AllAllocations choice first cs → AllAllocations choice first (take n cs)
all_take choice first zero cs h = tt
all_take choice first (suc n) [] h = tt
all_take choice first (suc n) (c ∷ cs) h = (h.0, all_take choice (first + length c.traces) n cs h.1)

all_drop : (choice : Choice) (first n : ℕ) (cs : List Cut) → AllAllocations choice first cs → AllAllocations choice (first + trace_count (take n cs)) (drop n cs)
all_drop choice first zero cs h = subst (λ m. AllAllocations choice m cs) (plus_zero first) h
  where
    plus_zero : (m : ℕ) → m ≡ m + 0
    plus_zero m = omega arith
all_drop choice first (suc n) [] h = tt
all_drop choice first (suc n) (c ∷ cs) h =
    subst (λ m. AllAllocations choice m (drop n cs)) (sum_same first (length c.traces) (trace_count (take n cs))) (all_drop choice (first + length c.traces) n cs h.1)
  where
    sum_same : (k l m : ℕ) → (k + l) + m ≡ k + (l + m)
    sum_same k l m = omega arith

---- Alike flows

alike_take : (n : ℕ) (fs gs : List Flow) → AllAlike fs gs → AllAlike (take n fs) (take n gs)
alike_take zero fs gs h = tt
alike_take (suc n) [] [] h = tt
alike_take (suc n) [] (g ∷ gs) h = absurd h
alike_take (suc n) (f ∷ fs) [] h = absurd h
alike_take (suc n) (f ∷ fs) (g ∷ gs) h = (h.0, alike_take n fs gs h.1)

alike_drop : (n : ℕ) (fs gs : List Flow) → AllAlike fs gs → AllAlike (drop n fs) (drop n gs)
alike_drop zero fs gs h = h
alike_drop (suc n) [] [] h = tt
alike_drop (suc n) [] (g ∷ gs) h = absurd h
alike_drop (suc n) (f ∷ fs) [] h = absurd h
alike_drop (suc n) (f ∷ fs) (g ∷ gs) h = alike_drop n fs gs h.1

pub alike_length : (fs gs : List Flow) → AllAlike fs gs → length fs ≡ length gs
alike_length [] [] h = refl
alike_length [] (g ∷ gs) h = absurd h
alike_length (f ∷ fs) [] h = absurd h
alike_length (f ∷ fs) (g ∷ gs) h = ap suc (alike_length fs gs h.1)

---- Results

module _ (a b : Choice) (policy : a.policy ≡ b.policy) (builder : a.builder ≡ b.builder) (regs : a.regs ≡ b.regs) where
  pub own_behind : (fs : List Flow) (k : ℕ) (cs : List Cut) (outs : List TraceOut) → AllAllocations b 0 cs → AllAlike fs (flows cs) → AreResultsBehind a k fs outs → outs ≡ joined (results (drop k cs))
  own_behind fs k cs outs all alike h =
      let behind : AllAlike (drop k fs) (flows (drop k cs)) = subst (AllAlike (drop k fs)) (drop_map (λ (c : Cut). c.flow) k cs) (alike_drop k fs (flows cs) alike) in
      let mine : AllAlike (flows h.cuts) (flows (drop k cs)) = subst (λ xs. AllAlike xs (flows (drop k cs))) (sym h.flows_are) behind in
      let before : AllAlike (take k fs) (flows (take k cs)) = subst (AllAlike (take k fs)) (take_map (λ (c : Cut). c.flow) k cs) (alike_take k fs (flows cs) alike) in
      let count : traces_in a.builder (take k fs) ≡ trace_count (take k cs) =
      one_count a.builder (take k fs) (flows (take k cs)) before ∙ (ap (λ u. traces_in u (flows (take k cs))) builder ∙ sym (counted b 0 (take k cs) (all_take b 0 k cs all))) in
      let first : 0 + trace_count (take k cs) ≡ traces_in a.builder (take k fs) = omega (arith, count) in
      let there : AllAllocations b (traces_in a.builder (take k fs)) (drop k cs) = subst (λ m. AllAllocations b m (drop k cs)) first (all_drop b 0 k cs all) in
      h.is ∙ ap joined (cuts_alike a b policy builder regs (traces_in a.builder (take k fs)) h.cuts (drop k cs) mine h.each there)

-- the results of the first flows, and behind them
pub joined_split : (k n : ℕ) → k ≤ n → (cs : List Cut) → joined (results (take n cs)) ≡ joined (results (take k cs)) ++ joined (results (drop k (take n cs)))
joined_split zero n l cs = refl
joined_split (suc k) zero l cs = absurd (omega (arith, l))
joined_split (suc k) (suc n) l [] = refl
joined_split (suc k) (suc n) l (c ∷ cs) =
    ap (λ os. c.outs ++ os) (joined_split k n (omega (arith, l)) cs)
    ∙ sym (append_assoc c.outs (joined (results (take k cs))) (joined (results (drop k (take n cs)))))
