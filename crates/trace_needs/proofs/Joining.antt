-- What joins rows, and in which order.
use Rattle.std.proofs.Common.{◌≡◌, ℕ, zero, suc, ◌+◌, ◌<◌, ◌==◌, Bool, true, false, cond, List, [], ◌∷◌, ◌++◌, length, get_or, map, replicate, drop, Option, Some, refl, sym, ap, ap₂, ◌∙◌, arith, append_assoc, add-one}
use Rattle.std.specs.Prelude.{slice_get}
use Rattle.block_runs.specs.Valid.{times}
use Rattle.lir_core.specs.declared.flow.Node.{Node}
use Rattle.lir_core.specs.declared.flow.Flow.{Flow}
use Rattle.trace_needs.specs.Needs.{Position, at_start, at_operation, at_end, in_node, first_of, positions_of}
use Rattle.trace_needs.specs.Tables.{noted, noted_all, passed, passed_all, row_in}
use Rattle.trace_needs.specs.declared.notes.Note.{Note}
use Rattle.trace_needs.specs.declared.table.Table.{Table}

pub noted_all_join : (xs ys : List ℕ) (p : ℕ) (notes : List Note) → noted_all (xs ++ ys) p notes ≡ noted_all ys p (noted_all xs p notes)
noted_all_join [] ys p notes = refl
noted_all_join (x ∷ xs) ys p notes = noted_all_join xs ys p (noted x p notes)

passed_all_join : (part : Position → List ℕ) (xs ys : List Position) (t : Table) → passed_all part (xs ++ ys) t ≡ passed_all part ys (passed_all part xs t)
passed_all_join part [] ys t = refl
passed_all_join part (x ∷ xs) ys t = passed_all_join part xs ys (passed part x t)

---- Rows

append_nil : (xs : List ℕ) → xs ++ [] ≡ xs
append_nil [] = refl
append_nil (x ∷ xs) = ap (λ t. x ∷ t) (append_nil xs)

row_in_join : (xs ys : List Note) (v : ℕ) → row_in (xs ++ ys) v ≡ row_in xs v ++ row_in ys v
row_in_join [] ys v = refl
row_in_join (x ∷ xs) ys v = at_test (x.value == v) (row_in_join xs ys v)
  where
    at_test : (b : Bool) → row_in (xs ++ ys) v ≡ row_in xs v ++ row_in ys v → cond b (x.position ∷ row_in (xs ++ ys) v) (row_in (xs ++ ys) v) ≡ cond b (x.position ∷ row_in xs v) (row_in xs v) ++ row_in ys v
    at_test true on = ap (λ t. x.position ∷ t) on
    at_test false on = on

-- a row behind a position has its number once for each time that its value is among the position's
row_noted_all : (vs : List ℕ) (p : ℕ) (notes : List Note) (v : ℕ) → row_in (noted_all vs p notes) v ≡ row_in notes v ++ replicate (times vs v) p
row_noted_all [] p notes v = sym (append_nil (row_in notes v))
row_noted_all (x ∷ vs) p notes v =
    row_noted_all vs p (noted x p notes) v
    ∙ ap (λ r. r ++ replicate (times vs v) p) (row_in_join notes (record { value = x; position = p } ∷ []) v)
    ∙ append_assoc (row_in notes v) (cond (x == v) (p ∷ []) []) (replicate (times vs v) p)
    ∙ ap (λ t. row_in notes v ++ t) (at_test (x == v))
  where
    at_test : (b : Bool) → cond b (p ∷ []) [] ++ replicate (times vs v) p ≡ replicate (cond b (suc (times vs v)) (times vs v)) p
    at_test true = refl
    at_test false = refl

---- Nodes

-- a node more of a trace
pub pass_step : (part : Position → List ℕ) (f : Flow) (rows : List (List ℕ)) (nodes : List ℕ) (i n : ℕ) (next : Option ℕ) (t : Table) → i < length nodes → n ≡ get_or nodes i 0 → next ≡ slice_get nodes (i + 1) → passed_all part (positions_of f rows (drop i nodes)) t ≡ passed_all part (positions_of f rows (drop (i + 1) nodes)) (passed_all part (in_node f.values rows next (slice_get f.nodes n)) t)
pass_step part f rows (m ∷ nodes) zero n next t lt e g = ap₂ (λ o k. passed_all part (in_node f.values rows o (slice_get f.nodes k) ++ positions_of f rows nodes) t) (sym (g ∙ at_first nodes)) (sym e) ∙ passed_all_join part (in_node f.values rows next (slice_get f.nodes n)) (positions_of f rows nodes) t
  where
    at_first : (ms : List ℕ) → slice_get (m ∷ ms) 1 ≡ first_of ms
    at_first [] = refl
    at_first (x ∷ ms) = refl
pass_step part f rows (m ∷ nodes) (suc i) n next t lt e g =
    let a : suc i + 1 ≡ suc (i + 1) = omega arith in
    pass_step part f rows nodes i n next t (omega (arith, lt)) e (g ∙ ap (slice_get (m ∷ nodes)) a) ∙ ap (λ k. passed_all part (positions_of f rows (drop k (m ∷ nodes))) (passed_all part (in_node f.values rows next (slice_get f.nodes n)) t)) (sym a)
pass_step part f rows [] i n next t lt e g = absurd (omega (arith, lt))

-- a node is its start, its operations and its end
pub node_passed : (part : Position → List ℕ) (f : Flow) (rows : List (List ℕ)) (next : Option ℕ) (o : Option Node) (node : Node) (old t1 t2 t3 : Table) → o ≡ Some node → t1 ≡ passed part (at_start node) old → t2 ≡ passed_all part (map at_operation node.lirs) t1 → t3 ≡ passed part (at_end f.values rows next node) t2 → t3 ≡ passed_all part (in_node f.values rows next o) old
node_passed part f rows next o node old t1 t2 t3 is a b e =
    e ∙ ap (passed part (at_end f.values rows next node)) b
    ∙ sym (passed_all_join part (map at_operation node.lirs) (at_end f.values rows next node ∷ []) t1)
    ∙ ap (passed_all part (map at_operation node.lirs ++ at_end f.values rows next node ∷ [])) a
    ∙ ap (λ q. passed_all part (in_node f.values rows next q) old) (sym is)

-- the numbers of the positions of which a part has a value, as often as it has it, where the first position is number p
abbrev pub repeated : (Position → List ℕ) → ℕ → ℕ → List Position → List ℕ
repeated part v p [] = []
repeated part v p (x ∷ xs) = replicate (times (part x) v) p ++ repeated part v (suc p) xs

pub noted_row : (part : Position → List ℕ) (v : ℕ) (ps : List Position) (t : Table) → row_in (passed_all part ps t).notes v ≡ row_in t.notes v ++ repeated part v t.at ps
noted_row part v [] t = sym (append_nil (row_in t.notes v))
noted_row part v (x ∷ ps) t =
    noted_row part v ps (passed part x t)
    ∙ ap₂ (λ r n. r ++ repeated part v n ps) (row_noted_all (part x) t.at t.notes v) (add-one t.at)
    ∙ append_assoc (row_in t.notes v) (replicate (times (part x) v) t.at) (repeated part v (suc t.at) ps)
