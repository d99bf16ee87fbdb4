-- A module whose declarations are taken out of it, and its procedures one by one.
use Rattle.std.proofs.Common.{◌≡◌, List, ◌∷◌, length, Result, Ok, Err, subst, arith}
use Rattle.ob_syntax.specs.Plain.{plain_module}
use Rattle.ob_syntax.specs.declared.modules.Module.{Module}
use Rattle.ob_syntax.specs.declared.declarations.ProcedureDecl.{ProcedureDecl, out-ProcedureDecl}
use Rattle.ob_judge.specs.Judged.{Judged}
use Rattle.ob_judge.specs.Making.{Making}
use Rattle.ob_judge.specs.Modules.{SoFar}
use Rattle.legal_tables.specs.Promised.{HasLegalTypes}
use Rattle.judged_outlines.specs.Upright.{Upright}
use Rattle.judged_modules.specs.steps.Procedures.{plain_procedure}
use Rattle.judged_modules.specs.steps.Steps.{procedure_part}
use Rattle.check_types.specs.steps.Answers.{Answers}
use Rattle.check_types.specs.declared.steps.fault.CheckFault.{CheckFault}
use Rattle.check_types.specs.declared.table.TypeTable.{TypeTable}
use Rattle.check_making.specs.declared.making.Surroundings.{Surroundings}
use Rattle.check_making.specs.declared.scopes.building.Building.{Building}
use Rattle.check_making.specs.scopes.Building.{Represents}
use Rattle.check_making.specs.scopes.Built.{Built}
use Rattle.check_procedures.specs.UnderWay.{BuildsUpright}
use Rattle.check_procedures.proofs.Rounds.{StandsAt, stands_next, stands_stop, stands_last}
use Rattle.check_modules.specs.declared.ending.JudgedModule.{JudgedModule}
use Rattle.check_modules.specs.Parts.{ending_part}
use Rattle.check_modules.specs.Ended.{IsEnded}

module _ (r : Surroundings) (c : SoFar) (whole : Judged (Unit {0} × Making)) (first : TypeTable) (s : Building) (left : List ProcedureDecl) (at : StandsAt r c whole first s left) where
  module _ (t : Building) (x : ProcedureDecl) (more : List ProcedureDecl) (steps : left ≡ x ∷ more) where
    abbrev Next : CheckFault → Type 0
    Next e = BuildsUpright r s t (procedure_part r.source.now (plain_procedure (out-ProcedureDecl x).procedure)) (Err e)

    pub walks_on : BuildsUpright r s t (procedure_part r.source.now (plain_procedure (out-ProcedureDecl x).procedure)) (Ok tt)
        → ((m : Making) → Represents r s m → Upright c m → HasLegalTypes s.declaring.types.table → HasLegalTypes t.declaring.types.table) → StandsAt r c whole first t more
    walks_on judged legal = stands_next r c whole first s t (x ∷ more) 0 x (omega arith) (subst (λ ls. StandsAt r c whole first s ls) steps at) judged legal

    pub walk_stops : {e : CheckFault} → Next e → Answers (Built r t) whole (Err e)
    walk_stops judged = stands_stop r c whole first s t (x ∷ more) 0 x (omega arith) (subst (λ ls. StandsAt r c whole first s ls) steps at) judged

  pub walk_ends : length left ≡ 0 → Answers (Built r s) whole (Ok tt)
  walk_ends none = stands_last r c whole first s left 0 (omega (arith, none)) at

-- a module's end doesn't depend on its declarations
abbrev Ends : Surroundings → Building → Building → Module → Result JudgedModule CheckFault → Type 0
Ends r s t z result = (c : SoFar) (m : Making) → Represents r s m → Upright c m → Answers (IsEnded r z.name t) (ending_part r.source.now (plain_module z) m) result

pub ends_without : (r : Surroundings) (s t : Building) (x y : Module) (result : Result JudgedModule CheckFault) → y ≡ record x { decls = y.decls } → Ends r s t y result → Ends r s t x result
ends_without r s t x y result rest h = subst (λ z. Ends r s t z result) rest h
