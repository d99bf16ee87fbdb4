-- Entries of traces, flow by flow.
use Rattle.std.proofs.Common.{◌≡◌, ℕ, zero, suc, ◌+◌, ◌<◌, ◌≤◌, ◌⊎◌, inl, inr, List, [], ◌∷◌, ◌++◌, length, get_or, Option, Some, None, refl, sym, ap, ◌∙◌, subst, arith, length-append}
use Rattle.std.specs.Prelude.{slice_get}
use Rattle.std.specs.Option.{option_map}
use Rattle.std.proofs.lemmas.Bool.{cases_lt}
use Rattle.std.proofs.lemmas.List.{length-map}
use Rattle.std.proofs.lemmas.Option.{slice_get-get_or, slice_get_within}
use mathlib.Core.Option as m
use mathlib.Core.Option.{some}
use lib.ListN.{get_elem?}
use Rattle.pool_core.specs.Tree.{IsTree}
use Rattle.pool_core.specs.Fits.{FitsAt, FitsRun}
use Rattle.trace_work.specs.declared.planning.TracePlan.{TracePlan}
use Rattle.trace_work.specs.declared.work.Entry.{Entry}
use Rattle.trace_work.specs.Plans.{IsOrdered}
use Rattle.trace_work.specs.Finals.{AreBehind}
use Rattle.trace_work.specs.Entries.{entry_of, entries_to, entries_of, parents_in, AreEntries, IsEntry, IsEntryOf}

---- Parts of lists

module _ {A : Type 0} where
  pub in_front : (xs ys : List A) (i : ℕ) → i < length xs → slice_get (xs ++ ys) i ≡ slice_get xs i
  in_front [] ys i lt = absurd (omega (arith, lt))
  in_front (x ∷ xs) ys zero lt = refl
  in_front (x ∷ xs) ys (suc i) lt = in_front xs ys i (omega (arith, lt))

  pub behind : (xs ys : List A) (n i : ℕ) → n ≡ length xs → slice_get (xs ++ ys) (n + i) ≡ slice_get ys i
  behind [] ys n i e = let z : n + i ≡ i = omega (arith, e) in ap (slice_get ys) z
  behind (x ∷ xs) ys zero i e = absurd (omega (arith, e))
  behind (x ∷ xs) ys (suc n) i e = let z : suc n + i ≡ suc (n + i) = omega arith in ap (slice_get (x ∷ (xs ++ ys))) z ∙ behind xs ys n i (omega (arith, e))

  pub stays : (xs ys : List A) (i : ℕ) (x : A) → slice_get xs i ≡ Some x → slice_get (xs ++ ys) i ≡ Some x
  stays xs ys i x e = in_front xs ys i (slice_get_within xs i x e) ∙ e

  -- a place behind a list
  pub from_back : (xs ys : List A) (i : ℕ) (x : A) → slice_get (xs ++ ys) i ≡ Some x → length xs ≤ i → (k : ℕ) × (i ≡ length xs + k) × (slice_get ys k ≡ Some x)
  from_back [] ys i x e le = (i, omega arith, e)
  from_back (y ∷ xs) ys zero x e le = absurd (omega (arith, le))
  from_back (y ∷ xs) ys (suc i) x e le = let r = from_back xs ys i x e (omega (arith, le)) in (r.0, (let s = r.1 in omega (arith, s)), r.2)

---- The entries of a plan

pub length-entries_to : (flow : ℕ) (p : TracePlan) (n : ℕ) → length (entries_to flow p n) ≡ n
length-entries_to flow p zero = refl
length-entries_to flow p (suc n) = let e = length-append (entries_to flow p n) (entry_of flow p n ∷ []) in let r = length-entries_to flow p n in omega (arith, e, r)

entry_at : (flow : ℕ) (p : TracePlan) (n t : ℕ) → t < n → slice_get (entries_to flow p n) t ≡ Some (entry_of flow p t)
entry_at flow p zero t lt = absurd (omega (arith, lt))
entry_at flow p (suc n) t lt = by (λ l. entry_at flow p n t l) (cases_lt t n)
  where
    by : (t < n → slice_get (entries_to flow p n) t ≡ Some (entry_of flow p t)) → ◌⊎◌ (t < n) (n ≤ t) → slice_get (entries_to flow p (suc n)) t ≡ Some (entry_of flow p t)
    by on (inl l) = let s = length-entries_to flow p n in in_front (entries_to flow p n) (entry_of flow p n ∷ []) t (omega (arith, l, s)) ∙ on l
    by on (inr l) =
        let s = length-entries_to flow p n in
        let e : n ≡ t = omega (arith, l, lt) in
        let z : t ≡ n + 0 = omega (arith, e) in
        ap (slice_get (entries_to flow p (suc n))) z ∙ behind (entries_to flow p n) (entry_of flow p n ∷ []) n 0 (sym s) ∙ ap (λ k. Some (entry_of flow p k)) e

---- A plan more

pub none_yet : AreEntries [] []
none_yet = record { each = λ t e h. cc; all = λ f p t h lt. cc }

kept : (plans rest : List TracePlan) (t : ℕ) (e : Entry) → IsEntry plans t e → IsEntry (plans ++ rest) t e
kept plans rest t e h =
    let l = length-append plans rest in
    let k = h.known in
    record { known = omega (arith, l, k); of = λ p there. h.of p (sym (in_front plans rest e.flow h.known) ∙ there) }

pub plan_more : (plans : List TracePlan) (p : TracePlan) (entries : List Entry) → AreEntries plans entries → IsOrdered p → p.first ≡ length entries → AreEntries (plans ++ p ∷ []) (entries ++ entries_of (length plans) p)
plan_more plans p entries h ordered first = record { each = λ t e there. in_entries t e there (cases_lt t (length entries)); all = λ f q t there lt. of_plan f q t there lt (cases_lt f (length plans)) }
  where
    new_entry : (k : ℕ) (e : Entry) (t : ℕ) → t ≡ length entries + k → slice_get (entries_of (length plans) p) k ≡ Some e → IsEntry (plans ++ p ∷ []) t e
    new_entry k e t at there =
        let l = slice_get_within (entries_of (length plans) p) k e there in
        let s = length-entries_to (length plans) p (length p.traces) in
        let within : k < length p.traces = omega (arith, l, s) in
        let is : entry_of (length plans) p k ≡ e = let z : Some (entry_of (length plans) p k) ≡ Some e = sym (entry_at (length plans) p (length p.traces) k within) ∙ there in cc in
        let long = length-append plans (p ∷ []) in
        let last : (q : TracePlan) → slice_get (plans ++ p ∷ []) (length plans) ≡ Some q → p ≡ q = λ q e.
        let z : length plans ≡ length plans + 0 = omega arith in
        let y : Some p ≡ Some q = sym (ap (slice_get (plans ++ p ∷ [])) z ∙ behind plans (p ∷ []) (length plans) 0 refl) ∙ e in
        cc
        in
        subst (IsEntry (plans ++ p ∷ []) t) is (record {
          known = omega (arith, long);
          of = λ q e. subst (λ (x : TracePlan). IsEntryOf x t (entry_of (length plans) p k)) (last q e) (record { ordered = ordered; within = within; number = omega (arith, at, first); above = refl });
        })

    in_entries : (t : ℕ) (e : Entry) → slice_get (entries ++ entries_of (length plans) p) t ≡ Some e → ◌⊎◌ (t < length entries) (length entries ≤ t) → IsEntry (plans ++ p ∷ []) t e
    in_entries t e there (inl lt) = kept plans (p ∷ []) t e (h.each t e (sym (in_front entries (entries_of (length plans) p) t lt) ∙ there))
    in_entries t e there (inr le) = let r = from_back entries (entries_of (length plans) p) t e there le in new_entry r.0 e t r.1 r.2

    new_plan : (f k : ℕ) (q : TracePlan) (t : ℕ) → f ≡ length plans + k → slice_get (p ∷ []) k ≡ Some q → t < length q.traces → slice_get (entries ++ entries_of (length plans) p) (q.first + t) ≡ Some (entry_of f q t)
    new_plan f (suc k) q t at there lt = cc
    new_plan f zero q t at there lt =
        let is : p ≡ q = cc in
        let place : length plans ≡ f = omega (arith, at) in
        subst (λ (x : TracePlan). t < length x.traces → slice_get (entries ++ entries_of (length plans) p) (x.first + t) ≡ Some (entry_of f x t)) is
        (λ lt. behind entries (entries_of (length plans) p) p.first t first ∙ entry_at (length plans) p (length p.traces) t lt ∙ ap (λ n. Some (entry_of n p t)) place) lt

    of_plan : (f : ℕ) (q : TracePlan) (t : ℕ) → slice_get (plans ++ p ∷ []) f ≡ Some q → t < length q.traces → ◌⊎◌ (f < length plans) (length plans ≤ f) → slice_get (entries ++ entries_of (length plans) p) (q.first + t) ≡ Some (entry_of f q t)
    of_plan f q t there lt (inl l) = stays entries (entries_of (length plans) p) (q.first + t) (entry_of f q t) (h.all f q t (sym (in_front plans (p ∷ []) f l) ∙ there) lt)
    of_plan f q t there lt (inr le) = let r = from_back plans (p ∷ []) f q there le in new_plan f r.0 q t r.1 r.2 lt

---- What entries tell of parents

-- the entry with a parent, by the list of parents
pub entry_there : (entries : List Entry) (t : ℕ) (o : Option ℕ) → get_elem? (parents_in entries) t ≡ some o → (e : Entry) × (slice_get entries t ≡ Some e) × (e.parent ≡ o)
entry_there [] t o e = cc
entry_there (x ∷ xs) zero o e = (x, refl, cc)
entry_there (x ∷ xs) (suc t) o e = entry_there xs t o e

-- what stands at a place that there is
pub something : {A : Type 0} → (xs : List A) (i : ℕ) → i < length xs → (x : A) × (slice_get xs i ≡ Some x)
something [] i lt = absurd (omega (arith, lt))
something (x ∷ xs) zero lt = (x, refl)
something (x ∷ xs) (suc i) lt = something xs i (omega (arith, lt))

-- a trace and the trace above it, in one plan
pub record Under (plans : List TracePlan) (entries : List Entry) (t p : ℕ) : Type 0 where
  pub entry : Entry
  pub there : slice_get entries t ≡ Some entry
  pub known : entry.parent ≡ Some p
  pub plan : TracePlan
  pub of : slice_get plans entry.flow ≡ Some plan
  pub is : IsEntryOf plan t entry
  pub local : ℕ
  pub is_local : get_or plan.parents entry.number None ≡ Some local
  pub number : p ≡ plan.first + local
  pub lower : local < entry.number
  pub over : slice_get entries p ≡ Some (entry_of entry.flow plan local)

pub under : (plans : List TracePlan) (entries : List Entry) (t p : ℕ) → AreEntries plans entries → get_elem? (parents_in entries) t ≡ some (Some p) → Under plans entries t p
under plans entries t p h e = with_entry (entry_there entries t (Some p) e)
  where
    with_local : (x : Entry) → slice_get entries t ≡ Some x → x.parent ≡ Some p → (plan : TracePlan) → slice_get plans x.flow ≡ Some plan → IsEntryOf plan t x
        → (o : Option ℕ) → get_or plan.parents x.number None ≡ o → Some p ≡ option_map (λ n. plan.first + n) o → Under plans entries t p
    with_local x there known plan of i None is q = cc
    with_local x there known plan of i (Some l) is q =
        let n : p ≡ plan.first + l = cc in
        let lower = i.ordered.1 x.number l is in
        let w = i.within in
        record {
          entry = x;
          there = there;
          known = known;
          plan = plan;
          of = of;
          is = i;
          local = l;
          is_local = is;
          number = n;
          lower = lower;
          over = ap (slice_get entries) n ∙ h.all x.flow plan l of (omega (arith, lower, w));
        }

    with_entry : (x : Entry) × (slice_get entries t ≡ Some x) × (x.parent ≡ Some p) → Under plans entries t p
    with_entry r =
        let i = h.each t r.0 r.1 in
        let q = something plans r.0.flow i.known in
        let of = i.of q.0 q.1 in
        with_local r.0 r.1 r.2 q.0 q.1 of (get_or q.0.parents r.0.number None) refl (sym r.2 ∙ of.above)

pub are_tree : (plans : List TracePlan) (entries : List Entry) → AreEntries plans entries → IsTree (parents_in entries)
are_tree plans entries h t p e = let u = under plans entries t p h e in let a = u.is.number in let n = u.number in let l = u.lower in omega (arith, a, n, l)

-- a trace without a parent has none in its plan
pub root : (plan : TracePlan) (t : ℕ) (e : Entry) → e.parent ≡ None → IsEntryOf plan t e → get_or plan.parents e.number None ≡ None
root plan t e none i = by (get_or plan.parents e.number None) refl (sym none ∙ i.above)
  where
    by : (o : Option ℕ) → get_or plan.parents e.number None ≡ o → None ≡ option_map (λ n. plan.first + n) o → o ≡ None
    by None is q = refl
    by (Some l) is q = cc

---- What a number tells

module _ (plans : List TracePlan) (entries : List Entry) (h : AreEntries plans entries) where
  -- the entry that is found at a place
  pub entry_is : (t : ℕ) (e : Entry) → e ≡ get_or entries t e → t < length entries → slice_get entries t ≡ Some e
  entry_is t e is lt = slice_get-get_or entries t e lt ∙ ap Some (sym is)

  pub flow_known : (t : ℕ) (e : Entry) → e ≡ get_or entries t e → t < length entries → e.flow < length plans
  flow_known t e is lt = (h.each t e (entry_is t e is lt)).known

  pub plan_is : (t : ℕ) (e : Entry) → e ≡ get_or entries t e → (lt : t < length entries) → (p : TracePlan) → p ≡ get_or plans e.flow p → slice_get plans e.flow ≡ Some p
  plan_is t e is lt p same = slice_get-get_or plans e.flow p (flow_known t e is lt) ∙ ap Some (sym same)

  pub entry_of_plan : (t : ℕ) (e : Entry) → e ≡ get_or entries t e → (lt : t < length entries) → (p : TracePlan) → p ≡ get_or plans e.flow p → IsEntryOf p t e
  entry_of_plan t e is lt p same = (h.each t e (entry_is t e is lt)).of p (plan_is t e is lt p same)

  pub number_small : (t : ℕ) (e : Entry) → e ≡ get_or entries t e → (lt : t < length entries) → (p : TracePlan) → p ≡ get_or plans e.flow p → (before : ℕ) → AreBehind before plans → before + length entries ≤ 262144 → p.number + e.number < 262144
  number_small t e is lt p same before behind small = let n = (entry_of_plan t e is lt p same).number in let b = behind e.flow p (plan_is t e is lt p same) in omega (arith, n, b, lt, small)

fits_within : {H : Type 0} (P : List (Option ℕ)) (fits : H → Type 0) (t : ℕ) (x : Option H) → FitsAt (get_elem? P t) fits x → t < length P
fits_within [] fits t None f = absurd f
fits_within [] fits t (Some x) f = absurd f
fits_within (p ∷ P) fits zero x f = omega arith
fits_within (p ∷ P) fits (suc t) x f = let l = fits_within P fits t x f in omega (arith, l)

-- a trace that runs is there
pub run_within : {H : Type 0} (entries : List Entry) (fits : H → Type 0) (t : ℕ) (x : Option H) → FitsRun (parents_in entries) fits t x → t < length entries
run_within entries fits t x f = let l = fits_within (parents_in entries) fits t x f in let e = length-map entries (λ (y : Entry). y.parent) in omega (arith, l, e)

-- a trace that runs without a hint has no parent
pub no_parent : {H : Type 0} (entries : List Entry) (fits : H → Type 0) (t : ℕ) (e : Entry) → FitsRun (parents_in entries) fits t None → slice_get entries t ≡ Some e → e.parent ≡ None
no_parent [] fits t e f there = cc
no_parent (x ∷ es) fits zero e f there = let same : x ≡ e = cc in ap (λ (y : Entry). y.parent) (sym same) ∙ by x.parent refl
  where
    by : (o : Option ℕ) → x.parent ≡ o → x.parent ≡ None
    by None q = q
    by (Some p) q = absurd (subst (λ o. FitsAt (some o) fits None) q f)
no_parent (x ∷ es) fits (suc t) e f there = no_parent es fits t e f there

-- one that runs with a hint has one that fits
pub hint_fits : {H : Type 0} (o : m.Option (Option ℕ)) (fits : H → Type 0) (x : H) → FitsAt o fits (Some x) → fits x
hint_fits (m.some (Some p)) fits x h = h
hint_fits (m.some None) fits x h = absurd h
hint_fits m.none fits x h = absurd h

pub parent_at : (entries : List Entry) (t : ℕ) (e : Entry) → slice_get entries t ≡ Some e → get_elem? (parents_in entries) t ≡ some e.parent
parent_at [] t e there = cc
parent_at (x ∷ es) zero e there = let same : x ≡ e = cc in ap (λ (y : Entry). some y.parent) same
parent_at (x ∷ es) (suc t) e there = parent_at es t e there

-- the trace above is in the plan
pub above_within : (plans : List TracePlan) (entries : List Entry) (t p : ℕ) → AreEntries plans entries → get_elem? (parents_in entries) t ≡ some (Some p)
    → (e : Entry) (plan : TracePlan) → slice_get entries t ≡ Some e → slice_get plans e.flow ≡ Some plan → (over : Entry) → slice_get entries p ≡ Some over → over.number < length plan.traces
above_within plans entries t p h known e plan there of over over_there =
    let u = under plans entries t p h known in
    let same : u.entry ≡ e = let z : Some u.entry ≡ Some e = sym u.there ∙ there in cc in
    let plan_same : u.plan ≡ plan = let z : Some u.plan ≡ Some plan = sym u.of ∙ ap (λ (y : Entry). slice_get plans y.flow) same ∙ of in cc in
    let local : entry_of u.entry.flow u.plan u.local ≡ over = let z : Some (entry_of u.entry.flow u.plan u.local) ≡ Some over = sym u.over ∙ over_there in cc in
    let n : u.local ≡ over.number = ap (λ (y : Entry). y.number) local in
    let w = u.is.within in
    let l = u.lower in
    let m : length u.plan.traces ≡ length plan.traces = ap (λ (y : TracePlan). length y.traces) plan_same in
    omega (arith, n, w, l, m)
