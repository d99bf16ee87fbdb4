-- What holds of each operation that was read.
use Rattle.std.proofs.Common.{◌≡◌, ℕ, zero, suc, ◌+◌, ◌<◌, ◌^◌, List, [], ◌∷◌, ◌++◌, take, drop, map, length, get_or, Bool, true, ◌&&◌, refl, sym, ap, ◌∙◌, subst, arith}
use Rattle.std.specs.Prelude.{All}
use Rattle.std.specs.List.{list_all}
use Rattle.std.proofs.lemmas.List.{take_more}
use Rattle.std.proofs.lemmas.List.Folds.{list_all-append}
use Rattle.std.proofs.lemmas.Bool.{ltb-true}
use Rattle.block_runs.specs.Blocks.{Operation, block_at}
use Rattle.block_runs.specs.declared.code.Code.{Code}
use Rattle.block_runs.specs.declared.code.Code.TheVariants.{Const}
use Rattle.lir_core.specs.declared.flow.Lir.{Lir}
use Rattle.lir_core.specs.declared.flow.Node.{Node}
use Rattle.lir_core.specs.declared.flow.Flow.{Flow}
use Rattle.lir_core.specs.Flows.{operation_of, code_nodes}
use Rattle.placed_code.specs.Claims.{IsNumber}
use Rattle.link_plan.proofs.Low.{and_left, and_right}
use Rattle.link_blocks.specs.Fits.{trap_fits}
use Rattle.back_end.specs.Numbers.{has_number, lirs_number, node_numbers}
use Rattle.modest_flows.proofs.Fitting.{both}

-- one item further
pub further : {A : Type 0} (f : A → Bool) (xs : List A) (i : ℕ) (x : A) → i < length xs → x ≡ get_or xs i x → list_all f (take i xs) ≡ true → f x ≡ true → list_all f (take (i + 1) xs) ≡ true
further f xs i x lt is before one =
    ap (list_all f) (take_more xs i x lt ∙ ap (λ y. take i xs ++ y ∷ []) (sym is)) ∙ list_all-append f (take i xs) (x ∷ []) ∙ both (list_all f (take i xs)) (list_all f (x ∷ [])) before (both (f x) true one refl)

number_of : (code : Code) → has_number code ≡ true → IsNumber code
number_of (Const n) e = ltb-true n (2 ^ 64) e
number_of _ e = tt

of_lirs : (xs : List Lir) → lirs_number xs ≡ true → (i : ℕ) (op : Operation) (rest : List Operation) → drop i (map operation_of xs) ≡ op ∷ rest → IsNumber op.code
of_lirs [] h zero op rest e = cc
of_lirs [] h (suc i) op rest e = cc
of_lirs (x ∷ xs) h zero op rest e = let is : operation_of x ≡ op = cc in subst (λ (o : Operation). IsNumber o.code) is (number_of x.template (and_left (has_number x.template) (lirs_number xs) h))
of_lirs (x ∷ xs) h (suc i) op rest e = of_lirs xs (and_right (has_number x.template) (lirs_number xs) h) i op rest e

pub of_nodes : (ns : List Node) → node_numbers ns ≡ true → (b i : ℕ) (op : Operation) (rest : List Operation) → drop i (block_at (code_nodes ns) b).ops ≡ op ∷ rest → IsNumber op.code
of_nodes [] h b zero op rest e = cc
of_nodes [] h b (suc i) op rest e = cc
of_nodes (n ∷ ns) h zero i op rest e = of_lirs n.lirs (and_right (trap_fits n.end) (lirs_number n.lirs) (and_left (trap_fits n.end && lirs_number n.lirs) (node_numbers ns) h)) i op rest e
of_nodes (n ∷ ns) h (suc b) i op rest e = of_nodes ns (and_right (trap_fits n.end && lirs_number n.lirs) (node_numbers ns) h) b i op rest e

pub kinds_of : (ns : List Node) → node_numbers ns ≡ true → list_all (λ n. trap_fits n.end) ns ≡ true
kinds_of [] h = refl
kinds_of (n ∷ ns) h =
    both (trap_fits n.end) (list_all (λ (x : Node). trap_fits x.end) ns) (and_left (trap_fits n.end) (lirs_number n.lirs) (and_left (trap_fits n.end && lirs_number n.lirs) (node_numbers ns) h))
    (kinds_of ns (and_right (trap_fits n.end && lirs_number n.lirs) (node_numbers ns) h))

-- one flow more
pub all_further : (flows after : List Flow) (flow : Flow) → after ≡ flows ++ flow ∷ [] → All (λ (f : Flow). node_numbers f.nodes ≡ true) flows → node_numbers flow.nodes ≡ true → All (λ (f : Flow). node_numbers f.nodes ≡ true) after
all_further flows after flow e before one = subst (All (λ (f : Flow). node_numbers f.nodes ≡ true)) (sym e) (joined flows before)
  where
    joined : (xs : List Flow) → All (λ (f : Flow). node_numbers f.nodes ≡ true) xs → All (λ (f : Flow). node_numbers f.nodes ≡ true) (xs ++ flow ∷ [])
    joined [] h zero d l = one
    joined [] h (suc k) d l = absurd (omega (arith, l))
    joined (x ∷ xs) h zero d l = h 0 d (omega arith)
    joined (x ∷ xs) h (suc k) d l = joined xs (λ i y m. h (suc i) y (omega (arith, m))) k d (omega (arith, l))
