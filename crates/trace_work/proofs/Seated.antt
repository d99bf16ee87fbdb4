-- The table of places is right where each node is in one trace.
use Rattle.std.proofs.Common.{◌≡◌, ℕ, zero, suc, ◌+◌, ◌<◌, ◌==◌, Bool, true, false, cond, List, [], ◌∷◌, length, get_or, set, Some, refl, sym, ap, ◌∙◌, arith}
use Rattle.std.specs.Prelude.{slice_get}
use Rattle.std.proofs.lemmas.Bool.{eqb-true, eq-eqb}
use Rattle.std.proofs.lemmas.List.{length-set, get_or-set_same, get_or-set_other}
use Rattle.block_runs.specs.Live.{has}
use Rattle.block_runs.specs.Valid.{times}
use Rattle.lir_core.specs.declared.flow.Trace.{Trace}
use Rattle.global_live.proofs.Lists.{times-append, times_of_in, has_front, has_back}
use Rattle.trace_build.specs.Cuts.{lists_of, all_nodes}
use Rattle.trace_build.specs.Parents.{trace_at}
use Rattle.simple_policies.specs.plain.Plain.{index_of}
use Rattle.trace_work.specs.Places.{placed_in, placed_all}

length-placed_in : (ns : List ℕ) (i : ℕ) (places : List ℕ) → length (placed_in i ns places) ≡ length places
length-placed_in [] i places = refl
length-placed_in (n ∷ ns) i places = length-placed_in ns (i + 1) (set places n i) ∙ length-set places n i

-- a node that isn't among some keeps its place
keeps : (ns : List ℕ) (i : ℕ) (places : List ℕ) (n : ℕ) → times ns n ≡ 0 → get_or (placed_in i ns places) n 0 ≡ get_or places n 0
keeps [] i places n e = refl
keeps (m ∷ ns) i places n e = at_test (keeps ns (i + 1) (set places m i) n) (m == n) refl e
  where
    at_test : (times ns n ≡ 0 → get_or (placed_in (i + 1) ns (set places m i)) n 0 ≡ get_or (set places m i) n 0) → (b : Bool) → (m == n) ≡ b → cond b (suc (times ns n)) (times ns n) ≡ 0 → get_or (placed_in (i + 1) ns (set places m i)) n 0 ≡ get_or places n 0
    at_test on true t e = absurd (omega (arith, e))
    at_test on false t e = on e ∙ get_or-set_other places m n i 0 (λ q. let z : (m == n) ≡ true = eq-eqb m n (sym q) in let y : true ≡ false = sym z ∙ t in cc)

keeps_all : (ts : List Trace) (places : List ℕ) (n : ℕ) → times (all_nodes (lists_of ts)) n ≡ 0 → get_or (placed_all ts places) n 0 ≡ get_or places n 0
keeps_all [] places n e = refl
keeps_all (t ∷ ts) places n e =
    let a = times-append t.nodes (all_nodes (lists_of ts)) n in
    keeps_all ts (placed_in 0 t.nodes places) n (omega (arith, a, e)) ∙ keeps t.nodes 0 places n (omega (arith, a, e))

-- a node that is once among some has its place
record AtPlace (ns : List ℕ) (n i at : ℕ) : Type 0 where
  place : ℕ
  is : at ≡ i + place
  there : slice_get ns place ≡ Some n

placed_once : (ns : List ℕ) (i : ℕ) (places : List ℕ) (n : ℕ) → n < length places → times ns n ≡ 1 → AtPlace ns n i (get_or (placed_in i ns places) n 0)
placed_once [] i places n lt e = absurd (omega (arith, e))
placed_once (m ∷ ns) i places n lt e = at_test (let l = length-set places m i in placed_once ns (i + 1) (set places m i) n (omega (arith, l, lt))) (m == n) refl e
  where
    at_test : (times ns n ≡ 1 → AtPlace ns n (i + 1) (get_or (placed_in (i + 1) ns (set places m i)) n 0)) → (b : Bool) → (m == n) ≡ b → cond b (suc (times ns n)) (times ns n) ≡ 1 → AtPlace (m ∷ ns) n i (get_or (placed_in (i + 1) ns (set places m i)) n 0)
    at_test on true t e =
        let q : m ≡ n = eqb-true m n t in
        record {
          place = 0;
          is =
              let a : get_or (placed_in (i + 1) ns (set places m i)) n 0 ≡ get_or (set places m i) n 0 = keeps ns (i + 1) (set places m i) n (omega (arith, e)) in
              let b : get_or (set places m i) n 0 ≡ i = ap (λ x. get_or (set places m i) x 0) (sym q) ∙ get_or-set_same places m i 0 (omega (arith, q, lt)) in
              omega (arith, a, b);
          there = ap Some q;
        }
    at_test on false t e =
        let r = on e in
        record { place = suc r.place; is = (let s = r.is in omega (arith, s)); there = r.there }

in_all : (ts : List Trace) (n p : ℕ) → has (trace_at ts p).nodes n ≡ true → has (all_nodes (lists_of ts)) n ≡ true
in_all [] n p h = h
in_all (t ∷ ts) n zero h = has_front t.nodes (all_nodes (lists_of ts)) n h
in_all (t ∷ ts) n (suc p) h = has_back t.nodes (all_nodes (lists_of ts)) n (in_all ts n p h)

pub seated : (ts : List Trace) (places : List ℕ) (n : ℕ) → n < length places → times (all_nodes (lists_of ts)) n ≡ 1 → (p : ℕ) → has (trace_at ts p).nodes n ≡ true → slice_get (trace_at ts p).nodes (get_or (placed_all ts places) n 0) ≡ Some n
seated [] places n lt e p h = absurd (omega (arith, e))
seated (t ∷ ts) places n lt e zero h =
    let a = times-append t.nodes (all_nodes (lists_of ts)) n in
    let b = times_of_in t.nodes n h in
    let r = placed_once t.nodes 0 places n lt (omega (arith, a, b, e)) in
    let is = r.is in
    let c : get_or (placed_in 0 t.nodes places) n 0 ≡ r.place = omega (arith, is) in
    ap (slice_get t.nodes) (keeps_all ts (placed_in 0 t.nodes places) n (omega (arith, a, b, e)) ∙ c) ∙ r.there
seated (t ∷ ts) places n lt e (suc p) h =
    let a = times-append t.nodes (all_nodes (lists_of ts)) n in
    let b = in_all ts n p h in
    let c = times_of_in (all_nodes (lists_of ts)) n b in
    let l = length-placed_in t.nodes 0 places in
    seated ts (placed_in 0 t.nodes places) n (omega (arith, l, lt)) (omega (arith, a, c, e)) p h

---- The first place

pub has_of_get : (ns : List ℕ) (i n : ℕ) → slice_get ns i ≡ Some n → has ns n ≡ true
has_of_get [] i n e = cc
has_of_get (m ∷ ns) zero n e = let q : m ≡ n = cc in ap (λ b. cond b true (has ns n)) (eq-eqb m n q)
has_of_get (m ∷ ns) (suc i) n e = at_test (m == n) (has_of_get ns i n e)
  where
    at_test : (b : Bool) → has ns n ≡ true → cond b true (has ns n) ≡ true
    at_test true h = refl
    at_test false h = h

-- a node that is once among some has no other place
pub index_there : (ns : List ℕ) (i n : ℕ) → slice_get ns i ≡ Some n → times ns n ≡ 1 → index_of ns n ≡ i
index_there [] i n e o = cc
index_there (m ∷ ns) zero n e o = let q : m ≡ n = cc in ap (λ b. cond b 0 (suc (index_of ns n))) (eq-eqb m n q)
index_there (m ∷ ns) (suc i) n e o = at_test (index_there ns i n e) (m == n) o
  where
    at_test : (times ns n ≡ 1 → index_of ns n ≡ i) → (b : Bool) → cond b (suc (times ns n)) (times ns n) ≡ 1 → cond b 0 (suc (index_of ns n)) ≡ suc i
    at_test on true o = let a = times_of_in ns n (has_of_get ns i n e) in absurd (omega (arith, a, o))
    at_test on false o = ap (λ k. suc k) (on o)

-- a node of a trace is once in it
pub once : (ts : List Trace) (n : ℕ) → times (all_nodes (lists_of ts)) n ≡ 1 → (p : ℕ) → has (trace_at ts p).nodes n ≡ true → times (trace_at ts p).nodes n ≡ 1
once [] n e p h = absurd (omega (arith, e))
once (t ∷ ts) n e zero h = let a = times-append t.nodes (all_nodes (lists_of ts)) n in let b = times_of_in t.nodes n h in omega (arith, a, b, e)
once (t ∷ ts) n e (suc p) h =
    let a = times-append t.nodes (all_nodes (lists_of ts)) n in
    let c = times_of_in (all_nodes (lists_of ts)) n (in_all ts n p h) in
    once ts n (omega (arith, a, c, e)) p h
