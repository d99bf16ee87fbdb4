-- The walk accepts what the policies give, and so the audit passes it.
use Rattle.std.proofs.Common.{◌≡◌, ℕ, zero, suc, ◌+◌, ◌^◌, ◌<◌, ◌≤◌, ◌⊎◌, inl, inr, Bool, List, [], ◌∷◌, map, length, Option, All, refl, ap, ◌∙◌, arith}
use Rattle.std.specs.List.{AllByRecursion}
use Rattle.std.proofs.lemmas.Bool.{cases_lt}
use Rattle.std.proofs.lemmas.List.Elements.{All-nil, All-append, All-from_get_or}
use Rattle.std.proofs.lemmas.List.{get_or_push, get_or_append_left}
use Rattle.lir_core.specs.declared.flow.Flow.{Flow}
use Rattle.lir_core.specs.declared.flow.Trace.{Trace}
use Rattle.lir_core.specs.declared.places.TraceOut.{TraceOut}
use Rattle.lir_core.specs.Flows.{IsValidFlow}
use Rattle.trace_build.specs.Parents.{trace_at}
use Rattle.trace_build.specs.Cuts.{lists_of, IsPartition}
use Rattle.boundary_resolve.specs.Placing.{out_at}
use Rattle.boundary_resolve.specs.Edges.{AreSound}
use Rattle.linked_flows.specs.Allocations.{Cut}
use Rattle.linear_scan.specs.Linear.{Case, Hint}
use Rattle.alloc_choice.specs.declared.choice.Choice.{Choice}
use Rattle.alloc_choice.specs.declared.choice.Policy.{Policy}
use Rattle.alloc_choice.specs.declared.choice.Used.{Used}
use Rattle.alloc_choice.specs.declared.choice.Used.TheVariants.{Plain as ByPlain, Trivial as ByTrivial, Linear as ByLinear, BottomUp as ByBottomUp}
use Rattle.alloc_choice.specs.Choice.{used}
use Rattle.alloc_choice.specs.Results.{result_by, result_at, results_to, no_out, case_with}
use Rattle.trace_work.proofs.Ready.{length-results_to}
use Rattle.flow_allocation.specs.Allocations.{AllAllocations}
use Rattle.alloc_audit.specs.declared.verdict.Verdict.TheVariants.{Sound}
use Rattle.alloc_audit.specs.Verdicts.{verdict_of}
use Rattle.walked_results.specs.Walked.{IsWalked}
use Rattle.walked_results.proofs.Sounds.{result_sound}
use Rattle.alloc_audit.specs.Results.{AreLive, OwnWalked, AreWalked}
use Rattle.alloc_audit.proofs.Passes.{all_pass}
use Rattle.plain_form.specs.results.Bounds.{IsNotable}
use Rattle.audited_allocations.specs.Joined.{joined}
use Rattle.audited_allocations.proofs.Notable.{result_notable}

---- Numbers

result_number : (u : Used) (x : Case) (number : ℕ) (ns : List ℕ) (hint : Option Hint) → (result_by u x number ns hint).trace ≡ number
result_number ByPlain x number ns hint = refl
result_number ByTrivial x number [] hint = refl
result_number ByTrivial x number (n ∷ ns) hint = refl
result_number ByLinear x number [] hint = refl
result_number ByLinear x number (n ∷ ns) hint = refl
result_number ByBottomUp x number ns hint = refl

module _ (p : Policy) (x : Case) (first : ℕ) (traces : List Trace) where
  at_number : (outs : List TraceOut) (n : ℕ) → (result_at p x first traces outs n).trace ≡ first + n
  at_number outs n = result_number (used p x.flow.nodes (trace_at traces n).nodes) x (first + n) (trace_at traces n).nodes _

  numbered : (n t : ℕ) → t < n → (out_at (results_to p x first traces n) t).trace ≡ first + t
  numbered zero t lt = absurd (omega (arith, lt))
  numbered (suc n) t lt = by (λ l. numbered n t l) (cases_lt t n)
    where
      by : (t < n → (out_at (results_to p x first traces n) t).trace ≡ first + t) → ◌⊎◌ (t < n) (n ≤ t) → (out_at (results_to p x first traces (suc n)) t).trace ≡ first + t
      by on (inl l) =
          let s = length-results_to p x first traces n in
          ap (λ (o : TraceOut). o.trace) (get_or_append_left (results_to p x first traces n) (result_at p x first traces (results_to p x first traces n) n ∷ []) no_out t (omega (arith, l, s))) ∙ on l
      by on (inr l) =
          let s = length-results_to p x first traces n in
          let e : n ≡ t = omega (arith, l, lt) in
          ap (λ (o : TraceOut). o.trace) (get_or_push (results_to p x first traces n) (result_at p x first traces (results_to p x first traces n) n) no_out t (omega (arith, e, s)))
          ∙ at_number (results_to p x first traces n) n ∙ ap (λ y. first + y) e

---- Lists

own_walked : (k : ℕ) (f : Flow) (n : ℕ) (ts : List Trace) (os : List TraceOut) → length os ≡ length ts → ((t : ℕ) → t < length ts → (out_at os t).trace ≡ n + t) → ((t : ℕ) → t < length ts → IsWalked k f (trace_at ts t) (out_at os t)) → OwnWalked k f n ts os
own_walked k f n [] [] e a b = tt
own_walked k f n [] (o ∷ os) e a b = cc
own_walked k f n (t ∷ ts) [] e a b = cc
own_walked k f n (t ∷ ts) (o ∷ os) e a b = (
  let z = a 0 (omega arith) in omega (arith, z),
  b 0 (omega arith),
  own_walked k f (suc n) ts os (omega (arith, e)) (λ j lt. let z = a (suc j) (omega (arith, lt)) in omega (arith, z)) (λ j lt. b (suc j) (omega (arith, lt))),
)

cuts_walked : (choice : Choice) (first : ℕ) (cuts : List Cut) → AllAllocations choice first cuts → AreWalked choice.regs first (map (λ c. c.flow) cuts) (map (λ c. c.traces) cuts) (joined (map (λ c. c.outs) cuts))
cuts_walked choice first [] h = refl
cuts_walked choice first (c ∷ cs) h = (
  c.outs,
  joined (map (λ d. d.outs) cs),
  refl,
  own_walked choice.regs c.flow first c.traces c.outs h.0.sound.each
      (λ t lt. ap (λ os. (out_at os t).trace) h.0.results ∙ numbered choice.policy (case_with c.flow h.0.rows choice.regs) first c.traces (length c.traces) t lt)
      h.0.walked,
  cuts_walked choice (first + length c.traces) cs h.1,
)

---- All flows

pub cuts_pass : (choice : Choice) (cuts : List Cut) (lives : List (ℕ → ℕ → Bool)) → AllAllocations choice 0 cuts → AreLive (map (λ c. c.flow) cuts) lives
    → verdict_of choice.regs (map (λ c. c.flow) cuts) lives (map (λ c. c.traces) cuts) (joined (map (λ c. c.outs) cuts)) ≡ Sound
cuts_pass choice cuts lives h live =
    all_pass choice.regs 0 (map (λ c. c.flow) cuts) lives (map (λ c. c.traces) cuts) (joined (map (λ c. c.outs) cuts)) live (cuts_walked choice 0 cuts h)

own_notable : (k : ℕ) (f : Flow) (ts : List Trace) (os : List TraceOut) → IsValidFlow f → k ≤ 16 → f.values < 2 ^ 32 → length os ≡ length ts
    → ((t : ℕ) → t < length ts → IsWalked k f (trace_at ts t) (out_at os t)) → All IsNotable os
own_notable k f ts os valid few small e w = All-from_get_or IsNotable os no_out (λ t lt. result_notable k f valid few small (trace_at ts t) (out_at os t) (w t (omega (arith, lt, e))))

pub cuts_notable : (choice : Choice) (first : ℕ) (cuts : List Cut) → AllAllocations choice first cuts → AllByRecursion (λ c. c.flow.values < 2 ^ 32) cuts → All IsNotable (joined (map (λ c. c.outs) cuts))
cuts_notable choice first [] h small = All-nil IsNotable
cuts_notable choice first (c ∷ cs) h small =
    All-append IsNotable c.outs (joined (map (λ d. d.outs) cs))
    (own_notable choice.regs c.flow c.traces c.outs h.0.sound.valid h.0.sound.few.1 small.0 h.0.sound.each h.0.walked)
    (cuts_notable choice (first + length c.traces) cs h.1 small.1)

---- What passes can be placed

module _ (k : ℕ) (f : Flow) where
  pub own_count : (n : ℕ) (ts : List Trace) (os : List TraceOut) → OwnWalked k f n ts os → length os ≡ length ts
  own_count n [] [] h = refl
  own_count n [] (o ∷ os) h = absurd h
  own_count n (t ∷ ts) [] h = absurd h
  own_count n (t ∷ ts) (o ∷ os) h = ap suc (own_count (suc n) ts os h.2)

  pub own_at : (n : ℕ) (ts : List Trace) (os : List TraceOut) → OwnWalked k f n ts os → (t : ℕ) → t < length ts → IsWalked k f (trace_at ts t) (out_at os t)
  own_at n [] os h t lt = absurd (omega (arith, lt))
  own_at n (t ∷ ts) [] h i lt = absurd h
  own_at n (t ∷ ts) (o ∷ os) h zero lt = h.1
  own_at n (t ∷ ts) (o ∷ os) h (suc i) lt = own_at (suc n) ts os h.2 i (omega (arith, lt))

  pub own_sound : (n : ℕ) (ts : List Trace) (os : List TraceOut) → IsValidFlow f → 4 ≤ k → k ≤ 16 → IsPartition f (lists_of ts) → OwnWalked k f n ts os → AreSound k f ts os
  own_sound n ts os valid enough few parts h = record {
    valid = valid;
    few = (enough, few);
    partition = parts;
    each = own_count n ts os h;
    sound = λ t lt. result_sound k f (trace_at ts t) (out_at os t) (own_at n ts os h t lt);
  }
