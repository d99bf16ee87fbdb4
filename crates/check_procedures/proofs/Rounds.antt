-- Procedures judged one after the other.
use Rattle.std.proofs.Common.{◌≡◌, ℕ, ◌+◌, ◌<◌, ◌≤◌, List, length, drop, get_or, Ok, Err, refl, ap, ◌∙◌}
use Rattle.std.proofs.lemmas.List.{drop_more, drop_all}
use Rattle.ob_syntax.specs.declared.declarations.ProcedureDecl.{ProcedureDecl, out-ProcedureDecl}
use Rattle.ob_judge.specs.Judged.{Judged, ◌>>=◌}
use Rattle.ob_judge.specs.Making.{Making}
use Rattle.ob_judge.specs.Modules.{SoFar}
use Rattle.ob_judge.specs.Declarations.{procedures_part}
use Rattle.legal_tables.specs.Promised.{HasLegalTypes}
use Rattle.judged_outlines.specs.Upright.{Upright}
use Rattle.judged_outlines.proofs.Uprights.{procedure_upright}
use Rattle.check_types.specs.steps.Answers.{Answers}
use Rattle.check_types.specs.declared.steps.fault.CheckFault.{CheckFault}
use Rattle.check_types.proofs.steps.Answering.{as_judged, stop}
use Rattle.judged_modules.specs.steps.Procedures.{plain_procedure, plain_each_procedure}
use Rattle.judged_modules.specs.steps.Steps.{procedure_part}
use Rattle.judged_modules.proofs.steps.Laws.{procedures_law}
use Rattle.judged_modules.proofs.steps.Parts.{each_parts}
use Rattle.check_types.specs.declared.table.TypeTable.{TypeTable}
use Rattle.check_making.specs.declared.making.Surroundings.{Surroundings}
use Rattle.check_making.specs.declared.scopes.building.Building.{Building}
use Rattle.check_making.specs.scopes.Building.{Represents}
use Rattle.check_making.specs.scopes.Built.{Built}
use Rattle.check_procedures.specs.UnderWay.{BuildsUpright}
use Rattle.check_making.proofs.headings.Heads.{by_given as came}

-- where the walk stands: what the judgement has made, in which the procedures that are left are judged, and that the types
-- stayed legal since the first
pub record StandsAt (r : Surroundings) (c : SoFar) (whole : Judged (Unit {0} × Making)) (first : TypeTable) (s : Building) (rest : List ProcedureDecl) : Type 0 where
  pub making : Making
  pub represents : Represents r s making
  pub upright : Upright c making
  pub same : whole ≡ procedures_part r.source.now (plain_each_procedure rest) making
  pub legal : HasLegalTypes first → HasLegalTypes s.declaring.types.table

module _ (r : Surroundings) (c : SoFar) where
  pub stands_first : (s : Building) (m : Making) (trees : List ProcedureDecl) → Represents r s m → Upright c m → StandsAt r c (procedures_part r.source.now (plain_each_procedure trees) m) s.declaring.types.table s trees
  stands_first s m trees h u = record { making = m; represents = h; upright = u; same = refl; legal = λ l. l }

  module _ (whole : Judged (Unit {0} × Making)) (first : TypeTable) (s t : Building) (trees : List ProcedureDecl) (i : ℕ) (d : ProcedureDecl) (within : i < length trees) (at : StandsAt r c whole first s (drop i trees)) where
    unrolled : whole ≡ (procedure_part r.source.now (plain_procedure (out-ProcedureDecl (get_or trees i d)).procedure) at.making >>= λ z. procedures_part r.source.now (plain_each_procedure (drop (i + 1) trees)) z.1)
    unrolled =
        let p = r.source.now in
        let x = get_or trees i d in
        let rest = drop (i + 1) trees in
        at.same ∙ ap (λ xs. procedures_part p (plain_each_procedure xs) at.making) (drop_more trees i d within)
        ∙ ap (λ y. procedures_part p y at.making) (each_parts x rest)
        ∙ procedures_law p (plain_procedure (out-ProcedureDecl x).procedure) (out-ProcedureDecl x).semicolon (plain_each_procedure rest) at.making

    pub stands_next : BuildsUpright r s t (procedure_part r.source.now (plain_procedure (out-ProcedureDecl (get_or trees i d)).procedure)) (Ok tt)
        → ((m : Making) → Represents r s m → Upright c m → HasLegalTypes s.declaring.types.table → HasLegalTypes t.declaring.types.table) → StandsAt r c whole first t (drop (i + 1) trees)
    stands_next judged legal =
        let p = r.source.now in
        let q = plain_procedure (out-ProcedureDecl (get_or trees i d)).procedure in
        came (procedure_part p q at.making) (judged c at.making at.represents at.upright) (λ z e built. record {
          making = z.1;
          represents = built.represents;
          upright = procedure_upright c p q at.making z.1 e at.upright;
          same = unrolled ∙ ap (λ (m : Judged (Unit {0} × Making)). m >>= λ z. procedures_part p (plain_each_procedure (drop (i + 1) trees)) z.1) e;
          legal = λ l. legal at.making at.represents at.upright (at.legal l);
        })

    pub stands_stop : {e : CheckFault} → BuildsUpright r s t (procedure_part r.source.now (plain_procedure (out-ProcedureDecl (get_or trees i d)).procedure)) (Err e) → Answers (Built r t) whole (Err e)
    stands_stop judged = as_judged unrolled (stop _ _ (judged c at.making at.represents at.upright))

  pub stands_last : (whole : Judged (Unit {0} × Making)) (first : TypeTable) (s : Building) (trees : List ProcedureDecl) (i : ℕ) → length trees ≤ i → StandsAt r c whole first s (drop i trees) → Answers (Built r s) whole (Ok tt)
  stands_last whole first s trees i past at =
      as_judged (at.same ∙ ap (λ xs. procedures_part r.source.now (plain_each_procedure xs) at.making) (drop_all i trees past)) (record { by = record { represents = at.represents } })
