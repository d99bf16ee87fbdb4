-- The modules' bodies among lowered procedures are those among the checked ones.
use Rattle.std.proofs.Common.{◌≡◌, ℕ, suc, List, [], ◌∷◌, map, Bool, true, false, not, if◌then◌else◌, refl, ap, ◌∙◌}
use Rattle.ob_types.specs.WellFormed.{well_formed, bodies_among}
use Rattle.ob_types.specs.declared.program.Procedure.{Procedure}
use Rattle.ob_types.specs.declared.program.Program.{Program}
use Rattle.ob_types.proofs.WellFormedParts.{parts_of}
use Rattle.block_runs.specs.Blocks.{bodies, bodies_from}
use Rattle.ssa_core.specs.Procedures.{procedures}
use Rattle.ssa_lowered.specs.Data.{Layout}
use Rattle.ssa_lowered.specs.Lowered.{procs_from}

either_way : (b : Bool) (f : ℕ) (xs ys : List ℕ) → xs ≡ ys → (if not b then xs else (f ∷ xs)) ≡ (if b then (f ∷ ys) else ys)
either_way true f xs ys h = ap (λ zs. f ∷ zs) h
either_way false f xs ys h = h

pub bodies_lowered : (p : Program) (l : Layout) (f : ℕ) (qs : List Procedure) → bodies_from f (procedures (procs_from p l f qs)) ≡ bodies_among f qs
bodies_lowered p l f [] = refl
bodies_lowered p l f (q ∷ qs) = either_way q.is_body f (bodies_from (suc f) (procedures (procs_from p l (suc f) qs))) (bodies_among (suc f) qs) (bodies_lowered p l (suc f) qs)

-- they are in the order of the modules
pub bodies_in_modules : (p : Program) (l : Layout) → well_formed p ≡ true → bodies (procedures (procs_from p l 0 p.procedures)) ≡ map (λ m. m.body) p.modules
bodies_in_modules p l h = bodies_lowered p l 0 p.procedures ∙ (parts_of p h).order
