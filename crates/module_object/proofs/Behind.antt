-- Results of the flows behind the first so many.
use Rattle.std.proofs.Common.{◌≡◌, ◌+◌, ◌-◌, ◌<◌, ◌≤◌, ◌^◌, ℕ, zero, suc, List, [], ◌∷◌, ◌++◌, map, length, take, drop, All, Some, Result, Ok, Err, IfOk, IfErr, IsErrAnd, Vec, Global, sym, ap, ◌∙◌, subst, arith, append_assoc}
use Rattle.std.specs.Prelude.{slice_get}
use Rattle.std.specs.List.{AllByRecursion}
use Rattle.std.proofs.lemmas.List.{length-map, append-nil}
use Rattle.std.proofs.lemmas.List.Elements.{All-from_recursion, recursion_from_All}
use Rattle.ob_types.specs.declared.program.Program.{Program}
use Rattle.a64_select.specs.Selected.{selected}
use Rattle.ssa_lowered.specs.Data.{layout}
use Rattle.ssa_lowered.specs.Lowered.{lowered}
use Rattle.lir_core.specs.declared.flow.Flow.{Flow}
use Rattle.lir_core.specs.declared.places.TraceOut.{TraceOut}
use Rattle.trace_build.specs.declared.builder.Builder.{Builder}
use Rattle.trace_build.specs.Traces.{traces_in}
use Rattle.linked_flows.specs.Allocations.{Cut}
use Rattle.boundary_resolve.specs.declared.code_line.CodeLine.{CodeLine}
use Rattle.planned_image.specs.words.alloc_choice.declared.choice.Choice.{Choice}
use Rattle.plain_form.specs.results.Bounds.{IsNotable}
use Rattle.planned_image.specs.audited_allocations.Joined.{joined}
use Rattle.planned_image.proofs.audited_allocations.Passing.{cuts_notable}
use Rattle.planned_image.specs.words.flow_allocation.Allocations.{AllAllocations, AreAllocated}
use Rattle.planned_image.specs.words.compiled_runs.Compiled.{flows_of}
use Rattle.planned_image.proofs.words.compiled_runs.Whole.{lowered_each}
use Rattle.planned_image.specs.placed_image.Placing.{IsPlaceable}
use Rattle.ob_judge.specs.Modules.{Parsed}
use Rattle.planned_image.specs.words.source_program.Texts.{AreParsed}
use Rattle.module_object.specs.Objects.{AreResultsBehind, last_text}

---- Answers

-- what holds of a fault holds of the answer that has it
pub on_err : {X E : Type 0} (r : Result X E) (e : E) (P : E → Type 0) → IsErrAnd r (λ x. x ≡ e) → P e → IfErr r P
on_err (Ok x) e P h p = tt
on_err (Err x) e P h p = subst P (sym h) p

pub on_ok : {X E : Type 0} (r : Result X E) (P Q : X → Type 0) → ((x : X) → P x → Q x) → IfOk r P → IfOk r Q
on_ok (Ok x) P Q f h = f x h
on_ok (Err e) P Q f h = tt

---- Flows behind others

by_behind : {A : Type 0} (P : A → Type 0) (n : ℕ) (xs : List A) → AllByRecursion P xs → AllByRecursion P (drop n xs)
by_behind P zero xs h = h
by_behind P (suc n) [] h = tt
by_behind P (suc n) (x ∷ xs) h = by_behind P n xs h.1

pub all_behind : {A : Type 0} (P : A → Type 0) (n : ℕ) (xs : List A) → All P xs → All P (drop n xs)
all_behind P n xs h = All-from_recursion P (drop n xs) (by_behind P n xs (recursion_from_All P xs h))

pub counts_add : (builder : Builder) (n : ℕ) (fs : List Flow) → traces_in builder (take n fs) + traces_in builder (drop n fs) ≡ traces_in builder fs
counts_add builder zero fs = omega arith
counts_add builder (suc n) [] = omega arith
counts_add builder (suc n) (f ∷ fs) = let rest = counts_add builder n fs in omega (arith, rest)

module _ (choice : Choice) (first : ℕ) (flows : List Flow) (before own : List Flow) (front : before ≡ take first flows) (back : own ≡ drop first flows) where
  abbrev b : Builder
  b = choice.builder

  -- the results behind so many traces
  pub are_behind : (count : ℕ) (parts : List (List CodeLine)) (outs : List (List TraceOut)) (traces : ℕ) (all : List TraceOut) → count ≡ traces_in b before → AreAllocated choice count own parts outs traces → all ≡ joined outs
      → AreResultsBehind choice first flows all
  are_behind count parts outs traces all is h same = record {
    cuts = h.cuts;
    flows_are = sym h.flows_are ∙ back;
    each = subst (λ n. AllAllocations choice n h.cuts) (is ∙ ap (traces_in b) front) h.each;
    is = same ∙ ap joined h.outs_are;
  }

  sum : traces_in b before + traces_in b own ≡ traces_in b flows
  sum = let s = counts_add b first flows in let x = ap (traces_in b) front in let y = ap (traces_in b) back in omega (arith, s, x, y)

  pub few_of_both : (count traces : ℕ) → count ≡ traces_in b before → traces ≡ traces_in b own → count + traces ≤ 262144 → traces_in b flows ≤ 262144
  few_of_both count traces is also few = let s = sum in omega (arith, s, is, also, few)

  pub many_before : 262144 < traces_in b before → 262144 < traces_in b flows
  many_before many = let s = sum in omega (arith, s, many)

  pub many_of_both : (count : ℕ) → count ≡ traces_in b before → 262144 < count + traces_in b own → 262144 < traces_in b flows
  many_of_both count is many = let s = sum in omega (arith, s, is, many)

---- Results

pub joined_more : (vs : List (Vec TraceOut Global)) (v : Vec TraceOut Global) → joined (map (λ x. x.items) (vs ++ v ∷ [])) ≡ joined (map (λ x. x.items) vs) ++ v.items
joined_more [] v = append-nil v.items
joined_more (x ∷ vs) v = ap (λ ys. x.items ++ ys) (joined_more vs v) ∙ sym (append_assoc x.items (joined (map (λ (y : Vec TraceOut Global). y.items) vs)) v.items)

few_values : (fs : List Flow) → AllByRecursion IsPlaceable fs → (cuts : List Cut) → map (λ c. c.flow) cuts ≡ fs → AllByRecursion (λ c. c.flow.values < 2 ^ 32) cuts
few_values fs can [] e = tt
few_values [] can (c ∷ cuts) e = absurd (let z = e in cc)
few_values (f ∷ fs) can (c ∷ cuts) e =
    let same : c.flow ≡ f = cc in
    let rest : map (λ (d : Cut). d.flow) cuts ≡ fs = cc in
    let values = (subst IsPlaceable (sym same) can.0).values in
    (omega (arith, values), few_values fs can.1 cuts rest)

-- objects can be written of them
pub notable_behind : (choice : Choice) (first : ℕ) (flows : List Flow) (outs : List TraceOut) → All IsPlaceable flows → AreResultsBehind choice first flows outs → All IsNotable outs
notable_behind choice first flows outs can h =
    subst (All IsNotable) (sym h.is)
    (cuts_notable choice _ h.cuts h.each (few_values (drop first flows) (by_behind IsPlaceable first flows (recursion_from_All IsPlaceable flows can)) h.cuts h.flows_are))

-- there are as many flows as procedures
pub as_many : (p : Program) (fs : List Flow) → fs ≡ flows_of p → length fs ≡ length p.procedures
as_many p fs e = ap (λ (xs : List Flow). length xs) e ∙ length-map (lowered p) selected ∙ lowered_each p (layout p.types) 0 p.procedures

---- Texts

-- the last of texts that are read as modules isn't too long
pub short_last : (texts : List (List ℕ)) (ms : List Parsed) → AreParsed texts ms → length (last_text texts) ≤ 1048576
short_last [] ms h = omega arith
short_last (t ∷ []) [] h = absurd h
short_last (t ∷ []) (m ∷ ms) h = h.0.text.short
short_last (t ∷ u ∷ more) [] h = absurd h
short_last (t ∷ u ∷ more) (m ∷ ms) h = short_last (u ∷ more) ms h.1

last_is : (texts : List (List ℕ)) (n : ℕ) (text : List ℕ) → suc n ≡ length texts → slice_get texts n ≡ Some text → last_text texts ≡ text
last_is [] n text c e = absurd (omega (arith, c))
last_is (t ∷ []) zero text c e = cc
last_is (t ∷ []) (suc n) text c e = absurd (omega (arith, c))
last_is (t ∷ u ∷ more) zero text c e = absurd (omega (arith, c))
last_is (t ∷ u ∷ more) (suc n) text c e = last_is (u ∷ more) n text (omega (arith, c)) e

pub last_of : (texts : List (List ℕ)) (text : List ℕ) → slice_get texts (length texts - 1) ≡ Some text → last_text texts ≡ text
last_of [] text e = absurd (let z = e in cc)
last_of (t ∷ more) text e = last_is (t ∷ more) (length (t ∷ more) - 1) text (omega arith) e
