-- Plans of cuts, one by one.
use Rattle.std.proofs.Common.{◌≡◌, ℕ, zero, suc, ◌+◌, ◌<◌, ◌≤◌, ◌^◌, List, [], ◌∷◌, ◌++◌, map, length, drop, get_or, true, refl, arith, sym, ap, ap₂, ◌∙◌, subst, append_assoc}
use Rattle.std.specs.List.{list_all}
use Rattle.std.proofs.lemmas.List.{append-nil, drop_all, get_or-map}
use Rattle.lir_core.specs.declared.flow.Flow.{Flow}
use Rattle.lir_core.specs.declared.places.TraceOut.{TraceOut}
use Rattle.boundary_resolve.specs.declared.code_line.CodeLine.{CodeLine}
use Rattle.placed_code.specs.Placed.{Placed, proc_of, no_procedure}
use Rattle.placed_code.specs.Layout.{all_words}
use Rattle.placed_code.specs.Results.{placed, all_placed}
use Rattle.placed_code.proofs.Parts.{length_map}
use Rattle.linked_flows.specs.Allocations.{Cut, steps_of, allocated, all_allocated}
use Rattle.link_blocks.specs.Fits.{numbers_fit}
use Rattle.link_blocks.specs.declared.plans.Plan.{Plan}
use Rattle.link_blocks.specs.Plans.{placed_in, plain}
use Rattle.procedure_pieces.specs.Pieces.{Piece, piece_of}
use Rattle.procedure_code.specs.Parts.{IsWhole}
use Rattle.procedure_code.proofs.Plain.{piece_plain}
use Rattle.procedure_code.proofs.Rows.{drop_map, mapped_more}
use Rattle.link_plan.specs.Linked.{AllAllocated, AreCuts, ArePieces, plans_of}
use Rattle.link_plan.proofs.Low.{whole}
use Rattle.link_plan.proofs.Longer.{over_one}
use Rattle.link_plan.proofs.Running.{are_pieces}
use Rattle.link_plan.proofs.Cuts.{drop_next}

-- one plan more
pub plans_more : (cuts : List Cut) (i : ℕ) (c : Cut) (rest : List Cut) (old new all : List Placed) (pr : Placed) → drop i cuts ≡ c ∷ rest → new ≡ old ++ pr ∷ [] → pr ≡ plain (placed steps_of (allocated c))
    → old ++ plans_of (drop i cuts) ≡ all → new ++ plans_of (drop (i + 1) cuts) ≡ all
plans_more cuts i c rest old new all pr d e is inv =
    ap₂ (λ (xs : List Placed) (cs : List Cut). xs ++ plans_of cs) e (drop_next cuts i c rest d)
    ∙ append_assoc old (pr ∷ []) (plans_of rest) ∙ ap (λ (p : Placed). old ++ p ∷ plans_of rest) is ∙ sym (ap (λ (cs : List Cut). old ++ plans_of cs) d) ∙ inv

all_whole : (k : ℕ) → k ≤ 16 → (cuts : List Cut) → AllAllocated k cuts → (p : ℕ) → p < length (plans_of cuts) → IsWhole (proc_of (plans_of cuts) p)
all_whole k few [] each p l = absurd (omega (arith, l))
all_whole k few (c ∷ cuts) each zero l = whole k few c (each 0 c cuts refl)
all_whole k few (c ∷ cuts) each (suc p) l = all_whole k few cuts (λ q d rest e. each (suc q) d rest e) p (omega (arith, l))

pub plans_all : (cuts : List Cut) (i : ℕ) (plans all : List Placed) → length cuts ≤ i → plans ++ plans_of (drop i cuts) ≡ all → plans ≡ all
plans_all cuts i plans all l inv = sym (append-nil plans) ∙ sym (ap (λ (cs : List Cut). plans ++ plans_of cs) (drop_all i cuts l)) ∙ inv

-- the pieces of a list's plans from a number on
pub pieces_more : (plans : List Plan) (i : ℕ) (plan : Plan) (old new all : List Piece) → i < length plans → plan ≡ get_or plans i plan → new ≡ old ++ piece_of (placed_in plan) ∷ []
    → old ++ map piece_of (map placed_in (drop i plans)) ≡ all → new ++ map piece_of (map placed_in (drop (i + 1) plans)) ≡ all
pieces_more plans i plan old new all l is e inv =
    let rest = map piece_of (map placed_in (drop (i + 1) plans)) in
    ap (λ (qs : List Piece). qs ++ rest) e ∙ append_assoc old (piece_of (placed_in plan) ∷ []) rest
    ∙ sym (ap (λ (ps : List Placed). old ++ map piece_of ps) (mapped_more placed_in plans i plan l is)) ∙ inv

-- a plan of a list is whole where all are
pub whole_at : (plans : List Plan) (i : ℕ) (plan : Plan) → i < length plans → plan ≡ get_or plans i plan → ((p : ℕ) → p < length (map placed_in plans) → IsWhole (proc_of (map placed_in plans) p)) → IsWhole (placed_in plan)
whole_at plans i plan l is all =
    let n = length_map placed_in plans in
    subst IsWhole (get_or-map placed_in plans i plan no_procedure l ∙ ap placed_in (sym is)) (all i (omega (arith, l, n)))

-- a plan that is too long alone
pub over_plan : (plans : List Plan) (i : ℕ) (plan : Plan) → i < length plans → plan ≡ get_or plans i plan → 2 ^ 18 < length (all_words (placed_in plan ∷ [])) → 2 ^ 18 < length (all_words (map placed_in plans))
over_plan plans i plan l is far =
    over_one (map placed_in plans) i (placed_in plan) (map placed_in (drop (i + 1) plans)) (drop_map placed_in plans i ∙ mapped_more placed_in plans i plan l is) far

-- the pieces of the plans of cuts are those of the cuts
pieces_plain : (ps : List Placed) → map piece_of (map plain ps) ≡ map piece_of ps
pieces_plain [] = refl
pieces_plain (p ∷ ps) = ap₂ (λ (q : Piece) (qs : List Piece). q ∷ qs) (piece_plain p) (pieces_plain ps)

pub are_kept : (k : ℕ) (flows : List Flow) (parts : List (List CodeLine)) (outs : List (List TraceOut)) (plans : List Placed) (pieces : List Piece) (cuts : List Cut) → AreCuts k flows parts outs cuts → plans ≡ plans_of cuts
    → (((p : ℕ) → p < length plans → IsWhole (proc_of plans p)) → pieces ≡ map piece_of plans) → list_all (λ f. numbers_fit f) flows ≡ true → ArePieces k pieces cuts
are_kept k flows parts outs plans pieces cuts are is made numbers =
    let whole : (p : ℕ) → p < length plans → IsWhole (proc_of plans p) = subst (λ (qs : List Placed). (p : ℕ) → p < length qs → IsWhole (proc_of qs p)) (sym is) (all_whole k are.few cuts are.each) in
    are_pieces k flows parts outs pieces [] cuts are refl (made whole ∙ ap (map piece_of) is ∙ pieces_plain (all_placed steps_of (all_allocated cuts))) numbers
