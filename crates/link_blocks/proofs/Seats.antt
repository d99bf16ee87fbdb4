-- A node that stands in traces once has its seat there.
use Rattle.std.proofs.Common.{◌≡◌, ℕ, zero, suc, ◌+◌, ◌<◌, ◌≤◌, Bool, true, false, cond, List, [], ◌∷◌, ◌++◌, length, get_or, Option, Some, refl, arith, sym, ap, ap₂, ◌∙◌, subst}
use Rattle.std.specs.Prelude.{◌==◌}
use Rattle.std.proofs.lemmas.Bool.{eqb-true, eq-eqb}
use Rattle.block_runs.specs.Live.{has}
use Rattle.block_runs.specs.Valid.{times}
use Rattle.lir_core.specs.declared.flow.Trace.{Trace}
use Rattle.global_live.proofs.Lists.{has_front, has_back, times-append, times_of_in}
use Rattle.trace_build.specs.Parents.{trace_at}
use Rattle.trace_build.specs.Cuts.{lists_of, all_nodes}
use Rattle.boundary_resolve.specs.Placing.{seats_in, seats_from, seat_of}
use Rattle.boundary_resolve.proofs.Between.{not_seated}

pub has_at : (ns : List ℕ) (i n : ℕ) → i < length ns → get_or ns i 0 ≡ n → has ns n ≡ true
has_at [] i n l e = absurd (omega (arith, l))
has_at (m ∷ ns) zero n l e = ap (λ b. cond b true (has ns n)) (eq-eqb m n e)
has_at (m ∷ ns) (suc i) n l e = at_test (m == n) (has_at ns i n (omega (arith, l)) e)
  where
    at_test : (b : Bool) → has ns n ≡ true → cond b true (has ns n) ≡ true
    at_test true h = refl
    at_test false h = h

seat_in : (ns : List ℕ) (t j i n : ℕ) (rest : List _) → i < length ns → get_or ns i 0 ≡ n → times ns n ≤ 1 → seat_of (seats_in t j ns ++ rest) n ≡ Some (record { node = n; trace = t; at = j + i })
seat_in [] t j i n rest l e once = absurd (omega (arith, l))
seat_in (m ∷ ns) t j zero n rest l e once =
    let z : j ≡ j + 0 = omega arith in
    subst (λ a. seat_of (seats_in t j (m ∷ ns) ++ rest) n ≡ Some (record { node = n; trace = t; at = a })) z
    (subst (λ a. seat_of (seats_in t j (m ∷ ns) ++ rest) n ≡ Some (record { node = a; trace = t; at = j })) e
    (ap (λ b. cond b (Some (record { node = m; trace = t; at = j })) (seat_of (seats_in t (suc j) ns ++ rest) n)) (eq-eqb m n e)))
seat_in (m ∷ ns) t j (suc i) n rest l e once = at_test (m == n) refl once (seat_in ns t (suc j) i n rest (omega (arith, l)) e)
  where
    at_test : (b : Bool) → (m == n) ≡ b → cond b (suc (times ns n)) (times ns n) ≤ 1
        → (times ns n ≤ 1 → seat_of (seats_in t (suc j) ns ++ rest) n ≡ Some (record { node = n; trace = t; at = suc j + i }))
        → cond b (Some (record { node = m; trace = t; at = j })) (seat_of (seats_in t (suc j) ns ++ rest) n) ≡ Some (record { node = n; trace = t; at = j + suc i })
    at_test true q few on = let here = times_of_in ns n (has_at ns i n (omega (arith, l)) e) in absurd (omega (arith, here, few))
    at_test false q few on =
        let z : suc j + i ≡ j + suc i = omega arith in
        subst (λ a. seat_of (seats_in t (suc j) ns ++ rest) n ≡ Some (record { node = n; trace = t; at = a })) z (on few)

-- the i-th node of a trace is among all nodes
pub in_all : (ts : List Trace) (t i n : ℕ) → t < length ts → i < length (trace_at ts t).nodes → get_or (trace_at ts t).nodes i 0 ≡ n → has (all_nodes (lists_of ts)) n ≡ true
in_all [] t i n below l e = absurd (omega (arith, below))
in_all (y ∷ ts) zero i n below l e = has_front y.nodes (all_nodes (lists_of ts)) n (has_at y.nodes i n l e)
in_all (y ∷ ts) (suc t) i n below l e = has_back y.nodes (all_nodes (lists_of ts)) n (in_all ts t i n (omega (arith, below)) l e)

pub seat_here : (traces : List Trace) (u t i n : ℕ) → t < length traces → i < length (trace_at traces t).nodes → get_or (trace_at traces t).nodes i 0 ≡ n → times (all_nodes (lists_of traces)) n ≤ 1
    → seat_of (seats_from u traces) n ≡ Some (record { node = n; trace = u + t; at = i })
seat_here [] u t i n below l e once = absurd (omega (arith, below))
seat_here (x ∷ traces) u zero i n below l e once =
    let both = times-append x.nodes (all_nodes (lists_of traces)) n in
    let z : u ≡ u + 0 = omega arith in
    let y : 0 + i ≡ i = omega arith in
    subst (λ a. seat_of (seats_from u (x ∷ traces)) n ≡ Some (record { node = n; trace = a; at = i })) z
    (subst (λ a. seat_of (seats_from u (x ∷ traces)) n ≡ Some (record { node = n; trace = u; at = a })) y (seat_in x.nodes u 0 i n (seats_from (suc u) traces) l e (omega (arith, both, once))))
seat_here (x ∷ traces) u (suc t) i n below l e once =
    let both = times-append x.nodes (all_nodes (lists_of traces)) n in
    let there = times_of_in (all_nodes (lists_of traces)) n (in_all traces t i n (omega (arith, below)) l e) in
    let z : suc u + t ≡ u + suc t = omega arith in
    not_seated x.nodes u 0 n (seats_from (suc u) traces) (absent (has x.nodes n) refl both there)
    ∙ subst (λ a. seat_of (seats_from (suc u) traces) n ≡ Some (record { node = n; trace = a; at = i })) z (seat_here traces (suc u) t i n (omega (arith, below)) l e (omega (arith, both, once)))
  where
    absent : (b : Bool) → has x.nodes n ≡ b → times (x.nodes ++ all_nodes (lists_of traces)) n ≡ times x.nodes n + times (all_nodes (lists_of traces)) n → 0 < times (all_nodes (lists_of traces)) n → b ≡ false
    absent false h both there = refl
    absent true h both there = let here = times_of_in x.nodes n h in absurd (omega (arith, here, both, there, once))
