-- The plans of flows, one more.
use Rattle.std.proofs.Common.{◌≡◌, ℕ, zero, suc, ◌+◌, ◌<◌, ◌≤◌, ◌⊎◌, inl, inr, List, [], ◌∷◌, ◌++◌, length, take, drop, get_or, refl, sym, ap, ap₂, ◌∙◌, subst, arith, length-append}
use Rattle.std.proofs.lemmas.Bool.{cases_lt}
use Rattle.std.specs.Prelude.{All, Some, slice_get}
use Rattle.std.proofs.lemmas.List.{drop_more, map-append, take-append-drop, take_more}
use Rattle.std.proofs.lemmas.List.Elements.{All-push}
use Rattle.lir_core.specs.declared.flow.Flow.{Flow}
use Rattle.lir_core.specs.Flows.{IsValidFlow}
use Rattle.trace_build.specs.declared.builder.Builder.{Builder}
use Rattle.trace_build.specs.Traces.{traces_in, traces_of}
use Rattle.trace_work.specs.declared.planning.TracePlan.{TracePlan}
use Rattle.trace_work.specs.declared.work.Entry.{Entry}
use Rattle.trace_work.specs.Plans.{IsOrdered, IsPlan}
use Rattle.trace_work.specs.Entries.{entries_of, AreEntries}
use Rattle.trace_work.specs.Finals.{AreNumbered, AreBehind, flows_in}
use Rattle.trace_work.proofs.Entered.{from_back, in_front, length-entries_to, none_yet, plan_more}

-- how many traces plans have
abbrev pub total : List TracePlan → ℕ
total [] = 0
total (p ∷ ps) = length p.traces + total ps

-- the plans and entries of the first i flows, behind so many traces
pub record Made (builder : Builder) (before : ℕ) (flows : List Flow) (i : ℕ) (plans : List TracePlan) (entries : List Entry) : Type 0 where
  pub entered : AreEntries plans entries
  pub flows_are : flows_in plans ≡ take i flows
  pub plans_are : All IsValidFlow flows → All (IsPlan builder) plans
  pub numbered : AreNumbered 0 plans
  pub behind : AreBehind before plans
  pub all : total plans ≡ length entries
  pub count : length entries ≡ traces_in builder (take i flows)
  pub small : before + length entries ≤ 262144

total-append : (ps : List TracePlan) (p : TracePlan) → total (ps ++ p ∷ []) ≡ total ps + length p.traces
total-append [] p = omega arith
total-append (q ∷ ps) p = let r = total-append ps p in omega (arith, r)

numbered-append : (n : ℕ) (ps : List TracePlan) (p : TracePlan) → AreNumbered n ps → p.first ≡ n + total ps → AreNumbered n (ps ++ p ∷ [])
numbered-append n [] p h e = (omega (arith, e), tt)
numbered-append n (q ∷ ps) p h e = (h.0, numbered-append (n + length q.traces) ps p h.1 (omega (arith, e)))

behind-append : (before : ℕ) (ps : List TracePlan) (p : TracePlan) → AreBehind before ps → p.number ≡ before + p.first → AreBehind before (ps ++ p ∷ [])
behind-append before ps p h e i q there = by (cases_lt i (length ps))
  where
    last : (k : ℕ) → slice_get (p ∷ []) k ≡ Some q → q.number ≡ before + q.first
    last zero g = let same : p ≡ q = cc in subst (λ (x : TracePlan). x.number ≡ before + x.first) same e
    last (suc k) g = cc

    by : ◌⊎◌ (i < length ps) (length ps ≤ i) → q.number ≡ before + q.first
    by (inl lt) = h i q (sym (in_front ps (p ∷ []) i lt) ∙ there)
    by (inr le) = let r = from_back ps (p ∷ []) i q there le in last r.0 r.2

pub traces-append : (builder : Builder) (fs gs : List Flow) → traces_in builder (fs ++ gs) ≡ traces_in builder fs + traces_in builder gs
traces-append builder [] gs = omega arith
traces-append builder (f ∷ fs) gs = let r = traces-append builder fs gs in omega (arith, r)

pub none : (builder : Builder) (before : ℕ) (flows : List Flow) → before ≤ 262144 → Made builder before flows 0 [] []
none builder before flows few = record { entered = none_yet; flows_are = refl; plans_are = λ valid k x n. absurd (omega (arith, n)); numbered = tt; behind = λ k p there. cc; all = refl; count = refl; small = omega (arith, few) }

module _ (builder : Builder) (before : ℕ) (flows : List Flow) (i : ℕ) (flow : Flow) (lt : i < length flows) (item : flow ≡ get_or flows i flow) (plans : List TracePlan) (entries : List Entry) (made : Made builder before flows i plans entries) (p : TracePlan) where
  next : take (i + 1) flows ≡ take i flows ++ flow ∷ []
  next = take_more flows i flow lt ∙ ap (λ x. take i flows ++ x ∷ []) (sym item)

  -- what is made of it so far, and the next flow's traces, are no more than all
  pub no_more : traces_in builder (take i flows) + length (traces_of builder flow.nodes) ≤ traces_in builder flows
  no_more =
      let whole : traces_in builder (take i flows ++ drop i flows) ≡ traces_in builder flows = ap (traces_in builder) (take-append-drop i flows) in
      let parts = traces-append builder (take i flows) (drop i flows) in
      let head : traces_in builder (drop i flows) ≡ length (traces_of builder flow.nodes) + traces_in builder (drop (i + 1) flows) = ap (traces_in builder) (drop_more flows i flow lt ∙ ap (λ x. x ∷ drop (i + 1) flows) (sym item)) in
      omega (arith, whole, parts, head)

  module _ (flow_is : p.flow.now ≡ flow) (plan_is : IsValidFlow flow → IsPlan builder p) (first : p.first ≡ length entries) (number : p.number ≡ before + p.first) (many : length p.traces ≡ length (traces_of builder flow.nodes)) (ordered : IsOrdered p) where
    pub more : (plans' : List TracePlan) (entries' : List Entry) → before + length entries + length p.traces ≤ 262144 → entries' ≡ entries ++ entries_of (length plans) p → plans' ≡ plans ++ p ∷ [] → Made builder before flows (i + 1) plans' entries'
    more plans' entries' few es ps =
        let long : length entries' ≡ length entries + length p.traces = ap length es ∙ length-append entries (entries_of (length plans) p) ∙ ap (λ n. length entries + n) (length-entries_to (length plans) p (length p.traces)) in
        let all = made.all in
        let count = made.count in
        let sum = total-append plans p in
        let ts : total plans' ≡ total (plans ++ p ∷ []) = ap total ps in
        let one : traces_in builder (take (i + 1) flows) ≡ traces_in builder (take i flows) + traces_in builder (flow ∷ []) = ap (traces_in builder) next ∙ traces-append builder (take i flows) (flow ∷ []) in
        record {
          entered = subst (AreEntries plans') (sym es) (subst (λ xs. AreEntries xs (entries ++ entries_of (length plans) p)) (sym ps) (plan_more plans p entries made.entered ordered first));
          flows_are = ap flows_in ps ∙ map-append (λ (x : TracePlan). x.flow.now) plans (p ∷ []) ∙ ap₂ (λ xs x. xs ++ x ∷ []) made.flows_are flow_is ∙ sym next;
          plans_are = λ valid. subst (All (IsPlan builder)) (sym ps) (All-push (IsPlan builder) plans p (made.plans_are valid) (plan_is (subst IsValidFlow (sym item) (valid i flow lt))));
          numbered = subst (AreNumbered 0) (sym ps) (numbered-append 0 plans p made.numbered (omega (arith, first, all)));
          behind = subst (AreBehind before) (sym ps) (behind-append before plans p made.behind number);
          all = omega (arith, ts, sum, all, long);
          count = omega (arith, long, many, one, count);
          small = omega (arith, long, few);
        }

    pub over : 262144 < before + length entries + length p.traces → 262144 < before + traces_in builder flows
    over lt = let m = no_more in let count = made.count in omega (arith, lt, m, count, many)
