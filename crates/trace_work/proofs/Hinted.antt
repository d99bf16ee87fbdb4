-- The hint that the table gives is the defined one, and it is fit.
use Rattle.std.proofs.Common.{◌≡◌, ℕ, zero, suc, ◌-◌, ◌<◌, ◌≤◌, ◌==◌, Bool, true, false, cond, List, [], ◌∷◌, length, get_or, Option, Some, None, refl, sym, ap, ◌∙◌, subst, arith}
use Rattle.std.specs.Prelude.{nat_lt, slice_get, filter, replicate}
use Rattle.std.specs.Option.{option_map, unwrap_or}
use Rattle.std.proofs.lemmas.Bool.{eq-eqb, ne_eqb, ltb-true, eqb-true, and_parts}
use Rattle.std.proofs.lemmas.List.{length-replicate, length-map}
use Rattle.std.proofs.lemmas.Option.{get_or_from_slice_get, slice_get-get_or, unwrap_or-slice_get}
use Rattle.run_laws.specs.Layers.{places_from}
use Rattle.block_runs.specs.Blocks.{CodeBlock}
use Rattle.block_runs.specs.Live.{has}
use Rattle.lir_core.specs.declared.flow.Node.{Node}
use Rattle.lir_core.specs.declared.flow.Flow.{Flow}
use Rattle.lir_core.specs.declared.flow.Trace.{Trace}
use Rattle.lir_core.specs.declared.places.Places.{Places as LirPlaces}
use Rattle.lir_core.specs.declared.places.TraceOut.{TraceOut}
use Rattle.lir_core.specs.Flows.{code_node, code_nodes, leads, preds_of, IsTrace, no_node}
use Rattle.lir_core.specs.Sound.{IsSound, EndsRise, no_places}
use Rattle.global_live.proofs.Tables.{has-preds_of, leads_there}
use Rattle.trace_build.specs.Cuts.{lists_of, AllTraces}
use Rattle.trace_build.specs.Parents.{trace_at, is_above, IsParent}
use Rattle.trace_needs.specs.Needs.{first_of}
use Rattle.lir_core.proofs.Passing.{none_from, one_from}
use Rattle.linear_scan.specs.Linear.{Case, Hint}
use Rattle.linear_scan.specs.Inputs.{IsFit, FitsHead, IsInput, hint_at}
use Rattle.linear_scan.proofs.Traces.{ends_fit}
use Rattle.simple_policies.specs.plain.Plain.{index_of}
use Rattle.trace_work.specs.declared.hints.Entering.{Entering}
use Rattle.alloc_choice.specs.Results.{parent_of, entering, hint_from, out_at, hint_for, IsCase}
use Rattle.trace_work.specs.Places.{placed_all, is_it, has_at, first_held, entering_by, hint_of_place, hint_by, if_row}
use Rattle.trace_work.proofs.Seated.{seated, has_of_get, index_there, once}

---- Parents

-- the parent of a trace is the defined one
pub parent_is : (bls : List CodeBlock) (traces : List Trace) (t : ℕ) (o : Option ℕ) → IsParent bls traces t o → parent_of bls traces t ≡ o
parent_is bls traces t None none =
    let p : ℕ → Bool = λ s. is_above bls traces s t in
    let e : t - 0 ≡ t = omega arith in
    ap first_of (ap (λ n. filter p (places_from 0 n)) (sym e) ∙ none_from p 0 t (λ s l m. none s m))
parent_is bls traces t (Some q) is =
    let p : ℕ → Bool = λ s. is_above bls traces s t in
    let e : t - 0 ≡ t = omega arith in
    ap first_of (ap (λ n. filter p (places_from 0 n)) (sym e) ∙ one_from p 0 q t (record { at_least = omega arith; passes = is.1; none_before = λ s l m. is.2 s m }) is.0)

---- The first predecessor that a trace has

-- the table has the places of a trace's nodes
abbrev pub Places : List ℕ → List ℕ → ℕ → Type 0
Places places parent n = has parent n ≡ true → (slice_get parent (get_or places n 0) ≡ Some n) × (index_of parent n ≡ get_or places n 0)

abbrev pub with_place : List ℕ → ℕ → Entering
with_place places n = record { node = n; place = get_or places n 0 }

held_is : (places parent ns : List ℕ) → ((n : ℕ) → has ns n ≡ true → Places places parent n) → first_held places parent ns ≡ option_map (with_place places) (first_of (filter (has parent) ns))
held_is places parent [] right = refl
held_is places parent (n ∷ ns) right =
    at_test (has parent n) refl (held_is places parent ns (λ m h. right m (later m h)))
  where
    later : (m : ℕ) → has ns m ≡ true → has (n ∷ ns) m ≡ true
    later m h = by (n == m)
      where
        by : (b : Bool) → cond b true (has ns m) ≡ true
        by true = refl
        by false = h

    here : has (n ∷ ns) n ≡ true
    here = ap (λ b. cond b true (has ns n)) (eq-eqb n n refl)

    not_at : (o : Option ℕ) → slice_get parent (get_or places n 0) ≡ o → has parent n ≡ false → is_it n o ≡ false
    not_at None e h = refl
    not_at (Some m) e h = by (m == n) refl
      where
        by : (b : Bool) → (m == n) ≡ b → b ≡ false
        by false q = refl
        by true q = let z : has parent n ≡ true = has_of_get parent (get_or places n 0) n (e ∙ ap Some (eqb-true m n q)) in let y : true ≡ false = sym z ∙ h in cc

    at_test : (b : Bool) → has parent n ≡ b → first_held places parent ns ≡ option_map (with_place places) (first_of (filter (has parent) ns)) → cond (has_at parent (get_or places n 0) n) (Some (record { node = n; place = get_or places n 0 })) (first_held places parent ns) ≡ option_map (with_place places) (first_of (cond b (n ∷ filter (has parent) ns) (filter (has parent) ns)))
    at_test true h on = ap (λ b. cond b (Some (with_place places n)) (first_held places parent ns)) (ap (is_it n) (right n here h).0 ∙ eq-eqb n n refl)
    at_test false h on = ap (λ b. cond b (Some (with_place places n)) (first_held places parent ns)) (not_at (slice_get parent (get_or places n 0)) refl h) ∙ on

---- The whole

first_passes : (p : ℕ → Bool) (xs : List ℕ) (n : ℕ) → first_of (filter p xs) ≡ Some n → (p n ≡ true) × (has xs n ≡ true)
first_passes p [] n e = cc
first_passes p (x ∷ xs) n e = at_test (p x) refl e (first_passes p xs n)
  where
    at_test : (b : Bool) → p x ≡ b → first_of (cond b (x ∷ filter p xs) (filter p xs)) ≡ Some n → (first_of (filter p xs) ≡ Some n → (p n ≡ true) × (has xs n ≡ true)) → (p n ≡ true) × (has (x ∷ xs) n ≡ true)
    at_test true q e on = let z : x ≡ n = cc in (ap p (sym z) ∙ q, ap (λ b. cond b true (has xs n)) (eq-eqb x n z))
    at_test false q e on = let r = on e in (r.0, by (x == n) r.1)
      where
        by : (b : Bool) → has xs n ≡ true → cond b true (has xs n) ≡ true
        by true h = refl
        by false h = h

trace_of : (f : Flow) (traces : List Trace) (t : ℕ) → AllTraces f (lists_of traces) → t < length traces → IsTrace (code_nodes f.nodes) (trace_at traces t).nodes
trace_of f [] t all lt = absurd (omega (arith, lt))
trace_of f (x ∷ xs) zero all lt = all.0
trace_of f (x ∷ xs) (suc t) all lt = trace_of f xs t all.1 (omega (arith, lt))

---- The hint for a head, by the trace above alone

abbrev pub head_hint : List CodeBlock → Trace → TraceOut → Option ℕ → Option Hint
head_hint bls above out None = None
head_hint bls above out (Some head) = hint_from bls above out head

pub with_parent : (bls : List CodeBlock) (traces : List Trace) (outs : List TraceOut) (head : Option ℕ) (p : ℕ) → hint_for bls traces outs head (Some p) ≡ head_hint bls (trace_at traces p) (out_at outs p) head
with_parent bls traces outs None p = refl
with_parent bls traces outs (Some head) p = refl

pub without_parent : (bls : List CodeBlock) (traces : List Trace) (outs : List TraceOut) (head : Option ℕ) → hint_for bls traces outs head None ≡ None
without_parent bls traces outs None = refl
without_parent bls traces outs (Some head) = refl

---- Places of so many registers

pub row_none : (k node : ℕ) (ends : List LirPlaces) (place : ℕ) → 0 < k → slice_get ends place ≡ None → if_row k (Some (record { node = node; places = get_or ends place no_places })) ≡ None
row_none k node ends place lt e =
    ap (λ (q : LirPlaces). if_row k (Some (record { node = node; places = q }))) (sym (unwrap_or-slice_get ends place no_places) ∙ ap (λ o. unwrap_or o no_places) e)
    ∙ ap (λ b. cond b (Some (record { node = node; places = no_places })) None) (ne_eqb 0 k (λ q. absurd (omega (arith, q, lt))))

pub row_same : (k node : ℕ) (ends : List LirPlaces) (place : ℕ) (q : LirPlaces) → slice_get ends place ≡ Some q → if_row k (Some (record { node = node; places = q })) ≡ if_row k (Some (record { node = node; places = get_or ends place no_places }))
row_same k node ends place q e = ap (λ (q : LirPlaces). if_row k (Some (record { node = node; places = q }))) (sym (get_or_from_slice_get ends place q no_places e))

---- The hint of a trace whose parents' results are sound

module _ (x : Case) (traces : List Trace) (case : IsCase x traces) (places : List ℕ) (table : places ≡ placed_all traces (replicate (length x.flow.nodes) 0)) where
  bls : List CodeBlock
  bls = code_nodes x.flow.nodes

  -- a predecessor in a trace stands at its place
  right : (p n : ℕ) → n < length x.flow.nodes → Places places (trace_at traces p).nodes n
  right p n lt h =
      let one = case.partition n lt in
      let size = length-replicate {A = ℕ} (length x.flow.nodes) 0 in
      let at : slice_get (trace_at traces p).nodes (get_or places n 0) ≡ Some n = ap (λ ps. slice_get (trace_at traces p).nodes (get_or ps n 0)) table ∙ seated traces (replicate (length x.flow.nodes) 0) n (omega (arith, size, lt)) one p h in
      (at, index_there (trace_at traces p).nodes (get_or places n 0) n at (once traces n one p h))

  -- the node that enters, and its place
  entering_is : (p head : ℕ) (node : Node) → slice_get x.flow.nodes head ≡ Some node → entering_by (slice_get x.flow.nodes head) places (trace_at traces p).nodes ≡ option_map (with_place places) (entering (code_nodes x.flow.nodes) (trace_at traces p).nodes head)
  entering_is p head node there =
      ap (λ o. entering_by o places (trace_at traces p).nodes) there
      ∙ held_is places (trace_at traces p).nodes node.preds (λ n h. right p n (below n (ap (λ ns. has ns n) (sym (case.valid.preds head node there)) ∙ h)))
      ∙ ap (λ ns. option_map (with_place places) (first_of (filter (has (trace_at traces p).nodes) ns))) (case.valid.preds head node there)
    where
      below : (n : ℕ) → has (preds_of (code_nodes x.flow.nodes) head) n ≡ true → n < length x.flow.nodes
      below n h = let l = leads_there (code_nodes x.flow.nodes) head n (sym (has-preds_of (code_nodes x.flow.nodes) head n) ∙ h) in let m = length-map x.flow.nodes code_node in omega (arith, l, m)

  -- places that fit stay, and the hint is the defined one
  found : (p head n : ℕ) (node : Node) (out : TraceOut) → slice_get x.flow.nodes head ≡ Some node → IsSound x.regs x.flow (trace_at traces p) out → EndsRise out → entering (code_nodes x.flow.nodes) (trace_at traces p).nodes head ≡ Some n → (if_row x.regs (hint_of_place out (entering_by (slice_get x.flow.nodes head) places (trace_at traces p).nodes)) ≡ hint_from (code_nodes x.flow.nodes) (trace_at traces p) out head) × IsFit x.regs (code_nodes x.flow.nodes) head (hint_at (trace_at traces p) out (index_of (trace_at traces p).nodes n))
  found p head n node out there sound rise e =
      let ns = (trace_at traces p).nodes in
      let q = first_passes (has ns) (preds_of (code_nodes x.flow.nodes) head) n e in
      let edge : leads (code_nodes x.flow.nodes) head n ≡ true = sym (has-preds_of (code_nodes x.flow.nodes) head n) ∙ q.1 in
      let lt = leads_there (code_nodes x.flow.nodes) head n edge in
      let size = length-map x.flow.nodes code_node in
      let r = right p n (omega (arith, lt, size)) q.0 in
      let i = get_or places n 0 in
      let at : get_or ns i 0 ≡ n = get_or_from_slice_get ns i n 0 r.0 in
      let fit : IsFit x.regs (code_nodes x.flow.nodes) head (hint_at (trace_at traces p) out i) = ends_fit x.regs x.flow (trace_at traces p) out sound rise i head (within ns i n r.0) (ap (leads (code_nodes x.flow.nodes) head) at ∙ edge) in
      let same : hint_at (trace_at traces p) out i ≡ record { node = n; places = get_or out.ends i no_places } = ap (λ m. let h : Hint = record { node = m; places = get_or out.ends i no_places } in h) at in (
        ap (λ o. if_row x.regs (hint_of_place out o)) (entering_is p head node there ∙ ap (option_map (with_place places)) e)
            ∙ ap (λ b. cond b (Some (record { node = n; places = get_or out.ends i no_places })) None) (eq-eqb _ x.regs fit.row.registers)
            ∙ ap Some (sym same)
            ∙ ap (λ j. Some (hint_at (trace_at traces p) out j)) (sym r.1)
            ∙ ap (option_map (λ n. hint_at (trace_at traces p) out (index_of ns n))) (sym e),
        subst (λ j. IsFit x.regs (code_nodes x.flow.nodes) head (hint_at (trace_at traces p) out j)) (sym r.1) fit,
      )
    where
      within : (ns : List ℕ) (i n : ℕ) → slice_get ns i ≡ Some n → i < length ns
      within [] i n e = cc
      within (m ∷ ns) zero n e = omega arith
      within (m ∷ ns) (suc i) n e = let l = within ns i n e in omega (arith, l)

  pub HintIs : List ℕ → ℕ → TraceOut → Type 0
  HintIs ns p out = (if_row x.regs (hint_by x.flow.nodes places (trace_at traces p) out (first_of ns)) ≡ head_hint (code_nodes x.flow.nodes) (trace_at traces p) out (first_of ns)) × FitsHead x.regs (code_nodes x.flow.nodes) ns (head_hint (code_nodes x.flow.nodes) (trace_at traces p) out (first_of ns))

  -- the hint that a sound result gives
  hint_is : (ns : List ℕ) (p : ℕ) (out : TraceOut) → IsTrace (code_nodes x.flow.nodes) ns → IsSound x.regs x.flow (trace_at traces p) out → EndsRise out → HintIs ns p out
  unfolding HintIs
  hint_is [] p out trace sound rise = (refl, tt)
  hint_is (head ∷ rest) p out trace sound rise = by (entering (code_nodes x.flow.nodes) (trace_at traces p).nodes head) refl
    where
      size : length (code_nodes x.flow.nodes) ≡ length x.flow.nodes
      size = length-map x.flow.nodes code_node

      below : head < length x.flow.nodes
      below = let l = ltb-true head (length (code_nodes x.flow.nodes)) (and_parts (nat_lt head (length (code_nodes x.flow.nodes))) _ trace.nodes).0 in let s = size in omega (arith, l, s)

      there : slice_get x.flow.nodes head ≡ Some (get_or x.flow.nodes head no_node)
      there = slice_get-get_or x.flow.nodes head no_node below

      by : (o : Option ℕ) → entering (code_nodes x.flow.nodes) (trace_at traces p).nodes head ≡ o → (if_row x.regs (hint_of_place out (entering_by (slice_get x.flow.nodes head) places (trace_at traces p).nodes)) ≡ hint_from (code_nodes x.flow.nodes) (trace_at traces p) out head) × FitsHead x.regs (code_nodes x.flow.nodes) (head ∷ rest) (hint_from (code_nodes x.flow.nodes) (trace_at traces p) out head)
      by None e = (
        ap (λ o. if_row x.regs (hint_of_place out o)) (entering_is p head (get_or x.flow.nodes head no_node) there ∙ ap (option_map (with_place places)) e)
            ∙ ap (option_map (λ n. hint_at (trace_at traces p) out (index_of (trace_at traces p).nodes n))) (sym e),
        subst (λ o. FitsHead x.regs (code_nodes x.flow.nodes) (head ∷ rest) (option_map (λ n. hint_at (trace_at traces p) out (index_of (trace_at traces p).nodes n)) o)) (sym e) tt,
      )
      by (Some n) e =
          let r = found p head n (get_or x.flow.nodes head no_node) out there sound rise e in
          (r.0, subst (λ o. FitsHead x.regs (code_nodes x.flow.nodes) (head ∷ rest) (option_map (λ n. hint_at (trace_at traces p) out (index_of (trace_at traces p).nodes n)) o)) (sym e) r.1)

  -- what is asked of a trace without a parent
  pub root_ready : (t : ℕ) → 4 ≤ x.regs → t < length traces → IsInput x (trace_at traces t).nodes None
  root_ready t enough lt = record { valid = case.valid; live = case.live; trace = trace_of x.flow traces t case.paths lt; enough = enough; fit = without (trace_at traces t).nodes }
    where
      without : (ns : List ℕ) → FitsHead x.regs (code_nodes x.flow.nodes) ns None
      without [] = tt
      without (n ∷ ns) = tt

  -- what is asked of a trace and the hint that its parent's sound result gives
  pub child_ready : (t p : ℕ) (out : TraceOut) → 4 ≤ x.regs → t < length traces → IsSound x.regs x.flow (trace_at traces p) out → EndsRise out
      → (if_row x.regs (hint_by x.flow.nodes places (trace_at traces p) out (first_of (trace_at traces t).nodes)) ≡ head_hint (code_nodes x.flow.nodes) (trace_at traces p) out (first_of (trace_at traces t).nodes))
      × IsInput x (trace_at traces t).nodes (head_hint (code_nodes x.flow.nodes) (trace_at traces p) out (first_of (trace_at traces t).nodes))
  unfolding HintIs
  child_ready t p out enough lt sound rise =
      let trace = trace_of x.flow traces t case.paths lt in
      let h = hint_is (trace_at traces t).nodes p out trace sound rise in
      (h.0, record { valid = case.valid; live = case.live; trace = trace; enough = enough; fit = h.1 })
