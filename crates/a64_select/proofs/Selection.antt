-- The laws of selection, over procedures and their flows.
use Rattle.std.proofs.Common.{◌≡◌, ℕ, zero, suc, ◌<◌, List, [], ◌∷◌, map, length, refl, sym, ap, subst, ◌∙◌, arith}
use Rattle.std.specs.Prelude.{All, flat_map}
use Rattle.run_laws.specs.Runs.{Within}
use Rattle.run_laws.specs.Layers.{CarriesBy}
use Rattle.block_runs.specs.Blocks.{Procedure, procedure_of}
use Rattle.block_runs.specs.States.{Stop}
use Rattle.block_runs.specs.Steps.{block_system}
use Rattle.block_runs.specs.Points.{least, all_points}
use Rattle.ssa_core.specs.declared.procedure.Proc.{Proc}
use Rattle.ssa_core.specs.Procedures.{code_blocks, procedure, procedures}
use Rattle.ssa_core.specs.Validity.{IsValid}
use Rattle.lir_core.specs.Flows.{code_nodes, preds_of}
use Rattle.lir_core.specs.Flows.{procedure as flow_procedure, procedures as flow_procedures}
use Rattle.a64_select.specs.Selected.{joins_of, split_nodes, selected}
use Rattle.a64_select.specs.Carrying.{flow_points, SameState}
use Rattle.a64_select.proofs.Splitting.{split_code, with_preds_code}
use Rattle.a64_select.proofs.Carried.{IsFine, split_procedure, split_procedures, carries}
use Rattle.a64_select.proofs.Points.{points_fit}

-- a selected flow runs as the split procedure
pub selected_runs : (p : Proc) → flow_procedure (selected p) ≡ split_procedure (procedure p)
selected_runs p =
    ap (λ bls. let r : Procedure = record { blocks = bls; counted = p.counted; cells = p.local_cells; bytes = p.local_bytes } in r)
    (with_preds_code (preds_of (code_nodes (split_nodes p.blocks))) 0 (split_nodes p.blocks) ∙ split_code (joins_of (code_blocks p.blocks)) p.blocks)

pub all_selected : (ps : List Proc) → flow_procedures (map selected ps) ≡ split_procedures (procedures ps)
all_selected [] = refl
all_selected (p ∷ ps) = ap (λ q. q ∷ flow_procedures (map selected ps)) (selected_runs p) ∙ ap (λ qs. split_procedure (procedure p) ∷ qs) (all_selected ps)

fine_of : (ps : List Proc) → All IsValid ps → (p : ℕ) → p < length (procedures ps) → IsFine (procedure_of (procedures ps) p)
fine_of [] v p l = absurd (omega (arith, l))
fine_of (x ∷ ps) v zero l = let z : 0 < length (x ∷ ps) = omega arith in let h = v 0 x z in record { some = h.code.begins; leads = h.code.targets }
fine_of (x ∷ ps) v (suc p) l = let m : p < length (procedures ps) = omega (arith, l) in fine_of ps (λ k d n. let o : suc k < length (x ∷ ps) = omega (arith, n) in v (suc k) d o) p m

pub carries_out : (ps : List Proc) (code : ℕ → ℕ) → All IsValid ps → CarriesBy (block_system (procedures ps) code) (block_system (flow_procedures (map selected ps)) code) (least (procedures ps)) (least (flow_procedures (map selected ps))) (flow_points (procedures ps)) (SameState (procedures ps)) (λ (u v : Stop). u ≡ v)
carries_out ps code v =
    subst (λ qs. CarriesBy (block_system (procedures ps) code) (block_system qs code) (least (procedures ps)) (least qs) (flow_points (procedures ps)) (SameState (procedures ps)) (λ (u v : Stop). u ≡ v)) (sym (all_selected ps))
    (carries (procedures ps) code (fine_of ps v))

pub fits : (ps : List Proc) → Within (all_points (flow_procedures (map selected ps))) (flat_map (flow_points (procedures ps)) (all_points (procedures ps)))
fits ps = subst (λ qs. Within (all_points qs) (flat_map (flow_points (procedures ps)) (all_points (procedures ps)))) (sym (all_selected ps)) (points_fit (procedures ps))
