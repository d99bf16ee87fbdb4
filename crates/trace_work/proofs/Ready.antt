-- Final results of a plan's traces, one behind the other.
use Rattle.std.proofs.Common.{◌≡◌, ℕ, zero, suc, ◌<◌, ◌≤◌, ◌⊎◌, inl, inr, List, [], ◌∷◌, length, get_or, Option, Some, None, refl, sym, ap, ◌∙◌, subst, arith, length-append}
use Rattle.std.proofs.lemmas.Bool.{cases_lt}
use Rattle.std.proofs.lemmas.List.{get_or_push, get_or_append_left, ext_get_or}
use Rattle.lir_core.specs.declared.flow.Trace.{Trace}
use Rattle.lir_core.specs.declared.places.TraceOut.{TraceOut}
use Rattle.lir_core.specs.Flows.{code_nodes}
use Rattle.trace_build.specs.Parents.{trace_at}
use Rattle.trace_needs.specs.Needs.{first_of}
use Rattle.linear_scan.specs.Linear.{Case, Hint}
use Rattle.linear_scan.specs.Inputs.{IsInput}
use denote.Bor.{Bor}
use Rattle.std.specs.Prelude.{slice_get, IfOk, Result, Ok, Err}
use mathlib.Core.Option.{some}
use lib.ListN.{get_elem?}
use Rattle.pool_core.specs.Fits.{FitsRun}
use Rattle.linear_scan.specs.Inputs.{lent}
use Rattle.alloc_choice.specs.declared.choice.Choice.{Choice}
use Rattle.alloc_choice.specs.Choice.{IsFitChoice}
use Rattle.alloc_choice.specs.declared.choice.Policy.{Policy}
use Rattle.alloc_choice.specs.declared.choice.Used.{Used}
use Rattle.alloc_choice.specs.declared.choice.Used.TheVariants.{Plain as ByPlain, Trivial as ByTrivial, Linear as ByLinear, BottomUp as ByBottomUp}
use Rattle.alloc_choice.specs.Results.{parent_of, hint_for, result_at, results_to, no_out, out_at, IsCase}
use Rattle.trace_work.specs.declared.planning.TracePlan.{TracePlan}
use Rattle.trace_work.specs.declared.work.Entry.{Entry}
use Rattle.trace_work.specs.declared.work.TraceHint.{TraceHint}
use Rattle.walked_results.proofs.Sounds.{result_sound}
use Rattle.alloc_choice.proofs.Fits.{without_hint}
use Rattle.trace_work.specs.Plans.{IsPlan, IsFinal, IsHint, case_of, final_of, finals_to, if_taken, nodes_of, table_hint, used_of}
use Rattle.trace_work.specs.Entries.{entry_of, parents_in, AreEntries}
use Rattle.trace_work.specs.Finals.{joined, plain_hint, HasRow, IsFinalOf, IsHintOf, OfTrace}
use Rattle.trace_work.proofs.Entered.{hint_fits, no_parent, root, under}
use Rattle.trace_work.proofs.Hinted.{head_hint, with_parent, without_parent, parent_is, root_ready, child_ready}

---- Results in order

pub length-results_to : (p : Policy) (x : Case) (first : ℕ) (traces : List Trace) (n : ℕ) → length (results_to p x first traces n) ≡ n
length-results_to p x first traces zero = refl
length-results_to p x first traces (suc n) =
    let e = length-append (results_to p x first traces n) (result_at p x first traces (results_to p x first traces n) n ∷ []) in
    let r = length-results_to p x first traces n in
    omega (arith, e, r)

---- Hints that are taken

-- no hint is taken as none
taken_none : (by : Used) → if_taken by None ≡ None
taken_none ByPlain = refl
taken_none ByTrivial = refl
taken_none ByLinear = refl
taken_none ByBottomUp = refl

-- what is asked with a hint holds with what is taken of it
taken_fits : (by : Used) (x : Case) (ns : List ℕ) (hint : Option Hint) → IsInput x ns hint → IsInput x ns (if_taken by hint)
taken_fits ByPlain x ns hint h = without_hint x ns hint h
taken_fits ByTrivial x ns hint h = h
taken_fits ByLinear x ns hint h = h
taken_fits ByBottomUp x ns hint h = without_hint x ns hint h

module _ (choice : Choice) (p : TracePlan) where
  pub length-finals : (n : ℕ) → length (finals_to choice p n) ≡ n
  length-finals n = length-results_to choice.policy (case_of choice p) p.number p.traces n

  pub final_at : (n t : ℕ) → t < n → out_at (finals_to choice p n) t ≡ final_of choice p t
  final_at zero t lt = absurd (omega (arith, lt))
  final_at (suc n) t lt = by (λ l. final_at n t l) (cases_lt t n)
    where
      by : (t < n → out_at (finals_to choice p n) t ≡ final_of choice p t) → ◌⊎◌ (t < n) (n ≤ t) → out_at (finals_to choice p (suc n)) t ≡ final_of choice p t
      by on (inl l) = let s = length-finals n in get_or_append_left (finals_to choice p n) (final_of choice p n ∷ []) no_out t (omega (arith, l, s)) ∙ on l
      by on (inr l) =
          let s = length-finals n in
          let e : n ≡ t = omega (arith, l, lt) in
          get_or_push (finals_to choice p n) (final_of choice p n) no_out t (omega (arith, e, s)) ∙ ap (final_of choice p) e

  -- results that are final one by one are those of the plan
  pub are_finals : (outs : List TraceOut) (n : ℕ) → length outs ≡ n → ((t : ℕ) → t < n → get_or outs t no_out ≡ final_of choice p t) → outs ≡ finals_to choice p n
  are_finals outs n long each =
      let s = length-finals n in
      ext_get_or no_out outs (finals_to choice p n) (omega (arith, long, s)) (λ t lt. each t (omega (arith, lt, long)) ∙ sym (final_at n t (omega (arith, lt, long))))

  ---- Hints

  pub case_is : IsPlan choice.builder p → IsCase (case_of choice p) p.traces
  case_is is = record { valid = is.valid; live = is.live; paths = is.paths; partition = is.partition }

  -- no hint, of a trace without a parent
  pub root_hint : (t : ℕ) → IsPlan choice.builder p → 4 ≤ choice.regs → t < length p.traces → get_or p.parents t None ≡ None → IsHint choice p t None
  root_hint t is enough lt none =
      let bls = code_nodes p.flow.now.nodes in
      let head = first_of (nodes_of p t) in
      let outs = finals_to choice p t in
      let by = used_of choice p t in
      let e : parent_of bls p.traces t ≡ None = parent_is bls p.traces t (get_or p.parents t None) (is.parents.parent t lt) ∙ none in
      record {
        is = sym (ap (λ o. if_taken by (hint_for bls p.traces outs head o)) e ∙ ap (if_taken by) (without_parent bls p.traces outs head) ∙ taken_none by);
        fits = root_ready (case_of choice p) p.traces (case_is is) p.places is.places t enough lt;
      }

  -- the hint that the final result of the parent gives
  pub child_hint : (t l : ℕ) (done : TraceOut) (hint : Option Hint) → IsPlan choice.builder p → 4 ≤ choice.regs → t < length p.traces → get_or p.parents t None ≡ Some l → l < t → IsFinal choice p l done
      → hint ≡ table_hint choice p done l t → IsHint choice p t hint
  child_hint t l done hint is enough lt known lower final given =
      let bls = code_nodes p.flow.now.nodes in
      let head = first_of (nodes_of p t) in
      let outs = finals_to choice p t in
      let by = used_of choice p t in
      let e : parent_of bls p.traces t ≡ Some l = parent_is bls p.traces t (get_or p.parents t None) (is.parents.parent t lt) ∙ known in
      let r = child_ready (case_of choice p) p.traces (case_is is) p.places is.places t l done enough lt (result_sound choice.regs p.flow.now (trace_at p.traces l) done final.walked) final.rises in
      let same : done ≡ out_at outs l = final.is ∙ sym (final_at t l lower) in
      let h : hint ≡ if_taken by (head_hint bls (trace_at p.traces l) done head) = given ∙ ap (if_taken by) r.0 in
      record {
        is = h ∙ ap (if_taken by) (ap (λ o. head_hint bls (trace_at p.traces l) o head) same ∙ sym (with_parent bls p.traces outs head l) ∙ sym (ap (hint_for bls p.traces outs head) e));
        fits = subst (IsInput (case_of choice p) (nodes_of p t)) (sym h) (taken_fits by (case_of choice p) (nodes_of p t) (head_hint bls (trace_at p.traces l) done head) r.1);
      }

---- By numbers through all flows

module _ (choice : Choice) (fit : IsFitChoice choice) (plans : List TracePlan) (entries : List Entry) (h : AreEntries plans entries) where
  -- whatever entry and plan are found there, they are these
  pub of_trace : (t : ℕ) (holds : TracePlan → ℕ → Type 0) (e : Entry) (p : TracePlan) → slice_get entries t ≡ Some e → slice_get plans e.flow ≡ Some p → holds p e.number → OfTrace plans entries t holds
  of_trace t holds e p there of x e' p' there' of' =
      let same : e ≡ e' = let z : Some e ≡ Some e' = sym there ∙ there' in cc in
      let plan : p ≡ p' = let z : Some p ≡ Some p' = sym of ∙ ap (λ (y : Entry). slice_get plans y.flow) same ∙ of' in cc in
      subst (λ (y : TracePlan). holds y e'.number) plan (subst (λ (y : Entry). holds p y.number) same x)

  -- the hint of a trace above which there is one, where that one's result is final
  pub hint_of_child : (t above : ℕ) (done : TraceOut) → get_elem? (parents_in entries) t ≡ some (Some above) → IsFinalOf choice plans entries above done
      → (e : Entry) (p : TracePlan) → slice_get entries t ≡ Some e → slice_get plans e.flow ≡ Some p → (over : Entry) → slice_get entries above ≡ Some over
      → (hint : Option Hint) → hint ≡ table_hint choice p done over.number e.number
      → OfTrace plans entries t (λ q n. IsPlan choice.builder q → IsHint choice q n hint)
  hint_of_child t above done known final e p there of over over_there hint is =
      let u = under plans entries t above h known in
      let same : u.entry ≡ e = let z : Some u.entry ≡ Some e = sym u.there ∙ there in cc in
      let plan : u.plan ≡ p = let z : Some u.plan ≡ Some p = sym u.of ∙ ap (λ (y : Entry). slice_get plans y.flow) same ∙ of in cc in
      let local : entry_of u.entry.flow u.plan u.local ≡ over = let z : Some (entry_of u.entry.flow u.plan u.local) ≡ Some over = sym u.over ∙ over_there in cc in
      let is_local : hint ≡ table_hint choice u.plan done u.local u.entry.number =
      is ∙ ap (λ (y : TracePlan). table_hint choice y done over.number e.number) (sym plan)
      ∙ ap (λ (y : Entry). table_hint choice u.plan done y.number e.number) (sym local)
      ∙ ap (λ (y : Entry). table_hint choice u.plan done u.local y.number) (sym same)
      in
      of_trace t (λ q n. IsPlan choice.builder q → IsHint choice q n hint) u.entry u.plan u.there u.of
      (λ planned. child_hint choice u.plan u.entry.number u.local done hint planned fit.enough u.is.within u.is_local u.lower (final (entry_of u.entry.flow u.plan u.local) u.plan u.over u.of planned) is_local)

  -- and of one above which there is none
  pub hint_of_root : (t : ℕ) (e : Entry) (p : TracePlan) → slice_get entries t ≡ Some e → slice_get plans e.flow ≡ Some p → e.parent ≡ None → IsPlan choice.builder p → IsHint choice p e.number None
  hint_of_root t e p there of none planned = let i = (h.each t e there).of p of in root_hint choice p e.number planned fit.enough i.within (root p t e none i)

  -- with what a trace runs: no more registers than are chosen, and the hint that is defined
  pub record RunsWith (p : TracePlan) (number : ℕ) (hint : Option TraceHint) : Type 0 where
    pub row : HasRow choice.regs hint
    pub is : IsPlan choice.builder p → IsHint choice p number (plain_hint hint)

  pub runs_with : (t : ℕ) (e : Entry) (p : TracePlan) → slice_get entries t ≡ Some e → slice_get plans e.flow ≡ Some p → (x : Option (Bor (Option TraceHint))) → FitsRun (parents_in entries) (λ b. IsHintOf choice plans entries t b.now) t x
      → RunsWith p e.number (joined (lent x))
  runs_with t e p there of None fits = record { row = tt; is = hint_of_root t e p there of (no_parent entries (λ b. IsHintOf choice plans entries t b.now) t e fits there) }
  runs_with t e p there of (Some b) fits =
      let h = hint_fits (get_elem? (parents_in entries) t) (λ b. IsHintOf choice plans entries t b.now) b fits in
      record { row = h.0; is = h.1 e p there of }

  -- a result that is final for the plan is final for the trace
  pub finally : {E : Type 0} → (t : ℕ) (e : Entry) (p : TracePlan) → slice_get entries t ≡ Some e → slice_get plans e.flow ≡ Some p → (r : Result TraceOut E) → (IsPlan choice.builder p → IfOk r (IsFinal choice p e.number)) → IfOk r (IsFinalOf choice plans entries t)
  finally t e p there of (Ok out) f = of_trace t (λ q n. IsPlan choice.builder q → IsFinal choice q n out) e p there of f
  finally t e p there of (Err err) f = tt
