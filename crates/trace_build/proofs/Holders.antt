-- The table by which parents are found.
use Rattle.std.proofs.Common.{◌≡◌, ◌≢◌, ℕ, zero, suc, ◌+◌, ◌<◌, ◌≤◌, ◌==◌, Bool, true, false, ◌||◌, cond, List, [], ◌∷◌, length, get_or, replicate, min, refl, sym, ap, ◌∙◌, subst, arith, inl, inr, ◌⊎◌, Option, Some, None}
use Rattle.std.specs.Prelude.{nat_lt, slice_get}
use Rattle.std.specs.List.{list_any}
use Rattle.std.proofs.Math.ListN.{set}
use Rattle.std.proofs.lemmas.List.{get_or-set_same, get_or-set_other, length-set, length-replicate, get_or-replicate, get_or_default, get_or_past, length-map}
use Rattle.std.proofs.lemmas.Option.{slice_get-get_or}
use Rattle.std.proofs.lemmas.Bool.{eqb-true, eq-eqb, cases_lt, ltb-true, ltb-false}
use Rattle.block_runs.specs.Blocks.{block_at, successors}
use Rattle.block_runs.specs.Valid.{all_below}
use Rattle.block_runs.specs.Live.{has}
use Rattle.lir_core.specs.declared.flow.Node.{Node}
use Rattle.lir_core.specs.declared.flow.Trace.{Trace}
use Rattle.lir_core.specs.declared.flow.Flow.{Flow}
use Rattle.lir_core.specs.Flows.{code_node, code_nodes, leads, IsValidFlow, no_node}
use Rattle.global_live.proofs.Lists.{has_head, has_back, all_below_in}
use Rattle.global_live.proofs.Tables.{at_block, leads_there, has-preds_of}
use Rattle.trace_build.specs.Parents.{trace_at, enters, is_above, AreBelow, IsParent, held, holders_from, if_below, lower, lowest_of, parent_at, parent_by}

---- Filling the table

length-held : (t : ℕ) (ns holders : List ℕ) → length (held t ns holders) ≡ length holders
length-held t [] holders = refl
length-held t (n ∷ ns) holders = length-held t ns (set holders n t) ∙ length-set holders n t

pub length-holders_from : (t : ℕ) (traces : List Trace) (holders : List ℕ) → length (holders_from t traces holders) ≡ length holders
length-holders_from t [] holders = refl
length-holders_from t (trace ∷ traces) holders = length-held t trace.nodes (holders_from (suc t) traces holders) ∙ length-holders_from (suc t) traces holders

held_not : (t : ℕ) (ns holders : List ℕ) (p : ℕ) → has ns p ≡ false → get_or (held t ns holders) p 0 ≡ get_or holders p 0
held_not t [] holders p h = refl
held_not t (n ∷ ns) holders p h = by (n == p) refl h (held_not t ns (set holders n t) p)
  where
    by : (b : Bool) → (n == p) ≡ b → cond b true (has ns p) ≡ false → (has ns p ≡ false → get_or (held t ns (set holders n t)) p 0 ≡ get_or (set holders n t) p 0) → get_or (held t ns (set holders n t)) p 0 ≡ get_or holders p 0
    by true e h on = cc
    by false e h on =
        let d : p ≢ n = λ (q : p ≡ n). let x = eq-eqb n p (sym q) in let z : true ≡ false = sym x ∙ e in cc in
        on h ∙ get_or-set_other holders n p t 0 d

held_here : (t : ℕ) (ns holders : List ℕ) (p : ℕ) → p < length holders → has ns p ≡ true → get_or (held t ns holders) p 0 ≡ t
held_here t [] holders p lt h = cc
held_here t (n ∷ ns) holders p lt h = by (has ns p) refl (held_here t ns (set holders n t) p (subst (λ k. p < k) (sym (length-set holders n t)) lt))
  where
    first : has ns p ≡ false → n ≡ p
    first e = eqb-true n p (at (n == p) refl h)
      where
        at : (b : Bool) → (n == p) ≡ b → cond b true (has ns p) ≡ true → (n == p) ≡ true
        at true q h = q
        at false q h = cc

    by : (b : Bool) → has ns p ≡ b → (has ns p ≡ true → get_or (held t ns (set holders n t)) p 0 ≡ t) → get_or (held t ns (set holders n t)) p 0 ≡ t
    by true e on = on e
    by false e on =
        let a = first e in
        let lt' : n < length holders = omega (arith, a) in
        held_not t ns (set holders n t) p e ∙ ap (λ i. get_or (set holders n t) i 0) (sym a) ∙ get_or-set_same holders n t 0 lt'

-- a trace that has a node holds it, or a lower one does
holder_below : (t : ℕ) (traces : List Trace) (holders : List ℕ) (p s : ℕ) → p < length holders → s < length traces → has (trace_at traces s).nodes p ≡ true → get_or (holders_from t traces holders) p 0 ≤ t + s
holder_below t [] holders p s lt there h = absurd (omega arith)
holder_below t (trace ∷ traces) holders p zero lt there h =
    let l = length-holders_from (suc t) traces holders in
    let a = held_here t trace.nodes (holders_from (suc t) traces holders) p (omega (arith, l)) h in
    omega (arith, a)
holder_below t (trace ∷ traces) holders p (suc s) lt there h = by (has trace.nodes p) refl (holder_below (suc t) traces holders p s lt (omega arith) h)
  where
    by : (b : Bool) → has trace.nodes p ≡ b → get_or (holders_from (suc t) traces holders) p 0 ≤ suc t + s → get_or (held t trace.nodes (holders_from (suc t) traces holders)) p 0 ≤ t + suc s
    by true e on =
        let l = length-holders_from (suc t) traces holders in
        let a = held_here t trace.nodes (holders_from (suc t) traces holders) p (omega (arith, l)) e in
        omega (arith, a)
    by false e on = let a = held_not t trace.nodes (holders_from (suc t) traces holders) p e in omega (arith, a, on)

-- what holds a node has it, unless it is what was there
holder_has : (t : ℕ) (traces : List Trace) (holders : List ℕ) (p : ℕ) → p < length holders → ◌⊎◌ (get_or (holders_from t traces holders) p 0 ≡ get_or holders p 0) ((s : ℕ) × (get_or (holders_from t traces holders) p 0 ≡ t + s) × (has (trace_at traces s).nodes p ≡ true))
holder_has t [] holders p lt = inl refl
holder_has t (trace ∷ traces) holders p lt = by (has trace.nodes p) refl (holder_has (suc t) traces holders p lt)
  where
    by : (b : Bool) → has trace.nodes p ≡ b
        → ◌⊎◌ (get_or (holders_from (suc t) traces holders) p 0 ≡ get_or holders p 0) ((s : ℕ) × (get_or (holders_from (suc t) traces holders) p 0 ≡ suc t + s) × (has (trace_at traces s).nodes p ≡ true))
        → ◌⊎◌ (get_or (held t trace.nodes (holders_from (suc t) traces holders)) p 0 ≡ get_or holders p 0) ((s : ℕ) × (get_or (held t trace.nodes (holders_from (suc t) traces holders)) p 0 ≡ t + s) × (has (trace_at (trace ∷ traces) s).nodes p ≡ true))
    by true e on =
        let l = length-holders_from (suc t) traces holders in
        let a = held_here t trace.nodes (holders_from (suc t) traces holders) p (omega (arith, l)) e in
        inr (0, omega (arith, a), e)
    by false e (inl q) = inl (held_not t trace.nodes (holders_from (suc t) traces holders) p e ∙ q)
    by false e (inr q) =
        let a = held_not t trace.nodes (holders_from (suc t) traces holders) p e in
        inr (suc q.0, omega (arith, a, q.1), q.2)

---- The lowest

lower_at : (holders : List ℕ) (n low : ℕ) → n < length holders → lower holders n low ≡ min low (get_or holders n 0)
lower_at holders n low lt = ap (min low) (get_or_default holders n low 0 lt)

lower_le : (holders : List ℕ) (n low : ℕ) → lower holders n low ≤ low
lower_le holders n low = omega arith

lowest_le : (holders ns : List ℕ) (low : ℕ) → lowest_of holders ns low ≤ low
lowest_le holders [] low = omega arith
lowest_le holders (n ∷ ns) low = let a = lowest_le holders ns (lower holders n low) in let b = lower_le holders n low in omega (arith, a, b)

lowest_below : (holders ns : List ℕ) (low p : ℕ) → has ns p ≡ true → p < length holders → lowest_of holders ns low ≤ get_or holders p 0
lowest_below holders [] low p h lt = cc
lowest_below holders (n ∷ ns) low p h lt = by (n == p) refl h (lowest_below holders ns (lower holders n low) p)
  where
    by : (b : Bool) → (n == p) ≡ b → cond b true (has ns p) ≡ true → (has ns p ≡ true → p < length holders → lowest_of holders ns (lower holders n low) ≤ get_or holders p 0) → lowest_of holders ns (lower holders n low) ≤ get_or holders p 0
    by true e h on =
        let q = eqb-true n p e in
        let a = lowest_le holders ns (lower holders n low) in
        let b = lower_at holders n low (omega (arith, q)) in
        let c : get_or holders n 0 ≡ get_or holders p 0 = ap (λ i. get_or holders i 0) q in
        omega (arith, a, b, c)
    by false e h on = on h lt

lowest_is : (holders ns : List ℕ) (low : ℕ) → ((p : ℕ) → has ns p ≡ true → p < length holders) → ◌⊎◌ (lowest_of holders ns low ≡ low) ((p : ℕ) × (has ns p ≡ true) × (lowest_of holders ns low ≡ get_or holders p 0))
lowest_is holders [] low there = inl refl
lowest_is holders (n ∷ ns) low there = by (lowest_is holders ns (lower holders n low) (λ p h. there p (has_back (n ∷ []) ns p h)))
  where
    now : ℕ
    now = lowest_of holders ns (lower holders n low)

    at : lowest_of holders ns (lower holders n low) ≡ lower holders n low → ◌⊎◌ (low < get_or holders n 0) (get_or holders n 0 ≤ low) → ◌⊎◌ (lowest_of holders ns (lower holders n low) ≡ low) ((p : ℕ) × (has (n ∷ ns) p ≡ true) × (lowest_of holders ns (lower holders n low) ≡ get_or holders p 0))
    at q (inl a) = let b = lower_at holders n low (there n (has_head n ns)) in inl (omega (arith, q, b))
    at q (inr a) = let b = lower_at holders n low (there n (has_head n ns)) in inr (n, has_head n ns, omega (arith, q, b))

    by : ◌⊎◌ (lowest_of holders ns (lower holders n low) ≡ lower holders n low) ((p : ℕ) × (has ns p ≡ true) × (lowest_of holders ns (lower holders n low) ≡ get_or holders p 0)) → ◌⊎◌ (lowest_of holders ns (lower holders n low) ≡ low) ((p : ℕ) × (has (n ∷ ns) p ≡ true) × (lowest_of holders ns (lower holders n low) ≡ get_or holders p 0))
    by (inl q) = at q (cases_lt low (get_or holders n 0))
    by (inr q) = inr (q.0, has_back (n ∷ []) ns q.0 q.1, q.2)

---- Parents

any_from : (test : ℕ → Bool) (xs : List ℕ) (p : ℕ) → has xs p ≡ true → test p ≡ true → list_any test xs ≡ true
any_from test [] p h t = cc
any_from test (x ∷ xs) p h t = by (x == p) refl h (any_from test xs p)
  where
    or_true : (a b : Bool) → b ≡ true → (a || b) ≡ true
    or_true true b e = refl
    or_true false b e = e

    by : (b : Bool) → (x == p) ≡ b → cond b true (has xs p) ≡ true → (has xs p ≡ true → test p ≡ true → list_any test xs ≡ true) → (test x || list_any test xs) ≡ true
    by true e h on = ap (λ b. b || list_any test xs) (ap test (eqb-true x p e) ∙ t)
    by false e h on = or_true (test x) (list_any test xs) (on h t)

any_gives : (test : ℕ → Bool) (xs : List ℕ) → list_any test xs ≡ true → (p : ℕ) × (has xs p ≡ true) × (test p ≡ true)
any_gives test [] h = cc
any_gives test (x ∷ xs) h = by (test x) refl h (any_gives test xs)
  where
    by : (b : Bool) → test x ≡ b → (b || list_any test xs) ≡ true → (list_any test xs ≡ true → (p : ℕ) × (has xs p ≡ true) × (test p ≡ true)) → (p : ℕ) × (has (x ∷ xs) p ≡ true) × (test p ≡ true)
    by true e h on = (x, has_head x xs, e)
    by false e h on = let r = on h in (r.0, has_back (x ∷ []) xs r.0 r.1, r.2)

module _ (f : Flow) (valid : IsValidFlow f) (traces : List Trace) where
  abbrev table : List ℕ
  table = holders_from 0 traces (replicate (length f.nodes) (length traces))

  size_is : length (holders_from 0 traces (replicate (length f.nodes) (length traces))) ≡ length f.nodes
  size_is = length-holders_from 0 traces (replicate (length f.nodes) (length traces)) ∙ length-replicate (length f.nodes) (length traces)

  start_there : (p : ℕ) → p < length f.nodes → p < length (replicate (length f.nodes) (length traces))
  start_there p lt = subst (λ k. p < k) (sym (length-replicate (length f.nodes) (length traces))) lt

  module _ (t head : ℕ) (rest : List ℕ) (node : Node) (at : slice_get f.nodes head ≡ Some node) (below : t < length traces) where
    preds_is : (p : ℕ) → has node.preds p ≡ leads (code_nodes f.nodes) head p
    preds_is p = ap (λ ps. has ps p) (valid.preds head node at) ∙ has-preds_of (code_nodes f.nodes) head p

    preds_there : (p : ℕ) → has node.preds p ≡ true → p < length f.nodes
    preds_there p h = let l = length-map f.nodes code_node in let a = leads_there (code_nodes f.nodes) head p (sym (preds_is p) ∙ h) in omega (arith, l, a)

    -- a trace from which an edge leads into the head isn't below the lowest
    not_below : (s : ℕ) → s < length traces → list_any (leads (code_nodes f.nodes) head) (trace_at traces s).nodes ≡ true → lowest_of table node.preds t ≤ s
    not_below s lt h =
        let p = any_gives (leads (code_nodes f.nodes) head) (trace_at traces s).nodes h in
        let q : has node.preds p.0 ≡ true = preds_is p.0 ∙ p.2 in
        let there = preds_there p.0 q in
        let e = size_is in
        let a = lowest_below table node.preds t p.0 q (subst (λ k. p.0 < k) (sym e) there) in
        let b = holder_below 0 traces (replicate (length f.nodes) (length traces)) p.0 s (start_there p.0 there) lt p.1 in
        omega (arith, a, b)

    none_below : (k : ℕ) → k ≤ lowest_of table node.preds t → k ≤ length traces → (s : ℕ) → s < k → list_any (leads (code_nodes f.nodes) head) (trace_at traces s).nodes ≡ false
    none_below k le few s lt = by (list_any (leads (code_nodes f.nodes) head) (trace_at traces s).nodes) refl
      where
        by : (b : Bool) → list_any (leads (code_nodes f.nodes) head) (trace_at traces s).nodes ≡ b → list_any (leads (code_nodes f.nodes) head) (trace_at traces s).nodes ≡ false
        by false e = e
        by true e = let a = not_below s (omega arith) e in absurd (omega (arith, a))

    is_above_low : lowest_of table node.preds t < t → list_any (leads (code_nodes f.nodes) head) (trace_at traces (lowest_of table node.preds t)).nodes ≡ true
    is_above_low lt = by (lowest_is table node.preds t (λ p h. subst (λ k. p < k) (sym size_is) (preds_there p h)))
      where
        found : (p : ℕ) → has node.preds p ≡ true → lowest_of table node.preds t ≡ get_or table p 0 → ◌⊎◌ (get_or table p 0 ≡ get_or (replicate (length f.nodes) (length traces)) p 0) ((s : ℕ) × (get_or table p 0 ≡ 0 + s) × (has (trace_at traces s).nodes p ≡ true)) → list_any (leads (code_nodes f.nodes) head) (trace_at traces (lowest_of table node.preds t)).nodes ≡ true
        found p h e (inl q) =
            let a = get_or-replicate (length f.nodes) p (length traces) 0 (preds_there p h) in
            absurd (omega (arith, e, q, a))
        found p h e (inr q) =
            let s_is : q.0 ≡ lowest_of table node.preds t = omega (arith, e, q.1) in
            subst (λ s. list_any (leads (code_nodes f.nodes) head) (trace_at traces s).nodes ≡ true) s_is (any_from (leads (code_nodes f.nodes) head) (trace_at traces q.0).nodes p q.2 (sym (preds_is p) ∙ h))

        by : ◌⊎◌ (lowest_of table node.preds t ≡ t) ((p : ℕ) × (has node.preds p ≡ true) × (lowest_of table node.preds t ≡ get_or table p 0)) → list_any (leads (code_nodes f.nodes) head) (trace_at traces (lowest_of table node.preds t)).nodes ≡ true
        by (inl e) = absurd (omega (arith, e))
        by (inr q) = found q.0 q.1 q.2 (holder_has 0 traces (replicate (length f.nodes) (length traces)) q.0 (start_there q.0 (preds_there q.0 q.1)))

  -- an edge leads only to a node that is there
  no_edge : (head : ℕ) → length f.nodes ≤ head → (q : ℕ) → leads (code_nodes f.nodes) head q ≡ false
  no_edge head past q = by (leads (code_nodes f.nodes) head q) refl
    where
      by : (b : Bool) → leads (code_nodes f.nodes) head q ≡ b → leads (code_nodes f.nodes) head q ≡ false
      by false e = e
      by true e =
          let l = length-map f.nodes code_node in
          let a = all_below_in (length (code_nodes f.nodes)) (successors (block_at (code_nodes f.nodes) q).end) head (at_block (λ bl. all_below (length (code_nodes f.nodes)) (successors bl.end)) (code_nodes f.nodes) q valid.code.targets refl) e in
          absurd (omega (arith, l, a))

  none_any : (test : ℕ → Bool) (xs : List ℕ) → ((q : ℕ) → test q ≡ false) → list_any test xs ≡ false
  none_any test [] h = refl
  none_any test (x ∷ xs) h = ap (λ b. b || list_any test xs) (h x) ∙ none_any test xs h

  pub parent_is : (t : ℕ) → t < length traces → IsParent (code_nodes f.nodes) traces t (parent_by f.nodes table (trace_at traces t).nodes t)
  parent_is t below = by (trace_at traces t).nodes refl
    where
      above_is : (ns : List ℕ) → (trace_at traces t).nodes ≡ ns → (s : ℕ) (b : Bool) → enters (code_nodes f.nodes) (trace_at traces s).nodes ns ≡ b → is_above (code_nodes f.nodes) traces s t ≡ b
      above_is ns e s b h = ap (enters (code_nodes f.nodes) (trace_at traces s).nodes) e ∙ h

      tested : (ns : List ℕ) → (trace_at traces t).nodes ≡ ns → (low : ℕ) → (low < t → enters (code_nodes f.nodes) (trace_at traces low).nodes ns ≡ true) → ((k : ℕ) → k ≤ low → k ≤ length traces → (s : ℕ) → s < k → enters (code_nodes f.nodes) (trace_at traces s).nodes ns ≡ false) → (b : Bool) → nat_lt low t ≡ b → IsParent (code_nodes f.nodes) traces t (cond b (Some low) None)
      tested ns e low is none true c = let lt = ltb-true low t c in (lt, above_is ns e low true (is lt), λ s l. above_is ns e s false (none low (omega arith) (omega arith) s l))
      tested ns e low is none false c = let le = ltb-false low t c in λ s l. above_is ns e s false (none t le (omega arith) s l)

      node_case : (head : ℕ) (rest : List ℕ) → (trace_at traces t).nodes ≡ head ∷ rest → (o : Option Node) → slice_get f.nodes head ≡ o → IsParent (code_nodes f.nodes) traces t (parent_at o table t)
      node_case head rest e None n = λ s l. above_is (head ∷ rest) e s false (none_any (leads (code_nodes f.nodes) head) (trace_at traces s).nodes (no_edge head (past (cases_lt head (length f.nodes)))))
        where
          past : ◌⊎◌ (head < length f.nodes) (length f.nodes ≤ head) → length f.nodes ≤ head
          past (inl lt) = let z = slice_get-get_or f.nodes head no_node lt in cc
          past (inr le) = le
      node_case head rest e (Some node) n = tested (head ∷ rest) e (lowest_of table node.preds t) (is_above_low t head rest node n below) (none_below t head rest node n below) (nat_lt (lowest_of table node.preds t) t) refl

      by : (ns : List ℕ) → (trace_at traces t).nodes ≡ ns → IsParent (code_nodes f.nodes) traces t (parent_by f.nodes table ns t)
      by [] e = λ s l. above_is [] e s false refl
      by (head ∷ rest) e = node_case head rest e (slice_get f.nodes head) refl

---- Every parent that the table gives is below

below_if : (number low p : ℕ) → if_below number low ≡ Some p → p < number
below_if number low p e = by (nat_lt low number) refl e
  where
    by : (b : Bool) → nat_lt low number ≡ b → cond b (Some low) None ≡ Some p → p < number
    by true lt e = let l = ltb-true low number lt in let q : low ≡ p = cc in omega (arith, l, q)
    by false lt e = cc

below_at : (o : Option Node) (holders : List ℕ) (number p : ℕ) → parent_at o holders number ≡ Some p → p < number
below_at None holders number p e = cc
below_at (Some node) holders number p e = below_if number (lowest_of holders node.preds number) p e

below_by : (nodes : List Node) (holders ns : List ℕ) (number p : ℕ) → parent_by nodes holders ns number ≡ Some p → p < number
below_by nodes holders [] number p e = cc
below_by nodes holders (head ∷ rest) number p e = below_at (slice_get nodes head) holders number p e

pub are_below : (nodes : List Node) (holders : List ℕ) (traces : List Trace) (parents : List (Option ℕ)) → length parents ≡ length traces
    → ((t : ℕ) → t < length traces → get_or parents t None ≡ parent_by nodes holders (trace_at traces t).nodes t) → AreBelow parents
are_below nodes holders traces parents long each t p e = by (cases_lt t (length traces))
  where
    by : ◌⊎◌ (t < length traces) (length traces ≤ t) → p < t
    by (inl lt) = below_by nodes holders (trace_at traces t).nodes t p (sym (each t lt) ∙ e)
    by (inr le) = let none : get_or parents t None ≡ None = get_or_past parents t None (omega (arith, long, le)) in cc
