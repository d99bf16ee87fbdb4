-- A procedure: its scope opened, its declarations judged in it, and its scope closed.
use Rattle.std.proofs.Common.{◌≡◌, Result, Ok, Err, sym, subst}
use Rattle.ob_syntax.specs.Plain.{plain_option, plain_formals, plain_decls}
use Rattle.ob_syntax.specs.declared.declarations.Procedure.{out-Procedure}
use Rattle.ob_syntax.specs.declared.declarations.Procedure.{Procedure as ProcedureTree}
use Rattle.ob_judge.specs.Judged.{Keeps}
use Rattle.ob_judge.specs.Making.{Making}
use Rattle.ob_judge.specs.Modules.{SoFar}
use Rattle.ob_judge.specs.Declarations.{decls_part}
use Rattle.legal_tables.specs.Promised.{HasLegalTypes}
use Rattle.judged_outlines.specs.Upright.{Upright}
use Rattle.judged_outlines.proofs.Uprights.{decls_upright}
use Rattle.check_types.specs.steps.Answers.{Answers}
use Rattle.check_types.specs.declared.steps.fault.CheckFault.{CheckFault}
use Rattle.check_types.proofs.steps.Answering.{as_judged, stop}
use Rattle.table_builder.specs.Builder.{IsBuilt}
use Rattle.table_builder.specs.Growing.{Grows}
use Rattle.judged_modules.specs.steps.Procedures.{plain_procedure}
use Rattle.judged_modules.specs.steps.Steps.{procedure_part}
use Rattle.judged_modules.proofs.steps.FrameTypes.{m_decls}
use Rattle.check_making.specs.declared.making.Surroundings.{Surroundings}
use Rattle.check_making.specs.Making.{IsSettled}
use Rattle.check_making.specs.declared.scopes.building.Building.{Building}
use Rattle.check_making.specs.scopes.Building.{Represents}
use Rattle.check_making.specs.scopes.Built.{Built}
use Rattle.check_making.specs.scopes.Scopes.{deeper}
use Rattle.check_procedures.specs.declared.opening.OpenProcedure.{OpenProcedure}
use Rattle.check_procedures.specs.Parts.{JudgedOpen, opening, closing}
use Rattle.check_procedures.specs.UnderWay.{IsUnderWay, BuildsUpright}
use Rattle.check_procedures.specs.Open.{CanBeClosed, IsOpened}
use Rattle.check_procedures.proofs.Giving.{then_so, given_so}
use Rattle.check_procedures.proofs.Uprights.{opening_upright}
use Rattle.check_procedures.proofs.ByParts.{tree_is}
use Rattle.check_procedures.proofs.Opens.{still_open}
use Rattle.check_making.proofs.headings.Heads.{by_given as came}

module _ (r : Surroundings) (tree : ProcedureTree) where
  abbrev pub Opens : Building → Building → Result OpenProcedure CheckFault → Type 0
  Opens s a result = (m : Making) → Represents r s m → Answers (IsOpened r a) (opening r.source.now (out-Procedure tree).name (plain_option plain_formals (out-Procedure tree).formals) m) result

  abbrev Closes : Building → Building → OpenProcedure → Result (Unit {0}) CheckFault → Type 0
  Closes b t o result = (c : SoFar) (j : JudgedOpen) (m : Making) → IsOpened r b o (record j { inner = m }) → Upright c m → Answers (Built r t) (closing r.source.now (plain_procedure tree) j m) result

  pub not_opened : {s a t : Building} {e : CheckFault} → Opens s a (Err e) → BuildsUpright r s t (procedure_part r.source.now (plain_procedure tree)) (Err e)
  not_opened h = λ c m represents up. as_judged (tree_is r.source.now tree m) (stop _ _ (h m represents))

  module _ (scope : Surroundings) (o : OpenProcedure) (is : scope ≡ deeper r o.outer.depth) (s a : Building) (opens : Opens s a (Ok o)) where
    abbrev pub Inner : Building → Result (Unit {0}) CheckFault → Type 0
    Inner b result = BuildsUpright scope a b (decls_part scope.source.now (plain_decls (out-Procedure tree).decls)) result

    pub in_scope : {b : Building} {result : Result (Unit {0}) CheckFault} → Inner b result → BuildsUpright (deeper r o.outer.depth) a b (decls_part r.source.now (plain_decls (out-Procedure tree).decls)) result
    in_scope {b = b} {result = result} h = subst (λ z. BuildsUpright z a b (decls_part z.source.now (plain_decls (out-Procedure tree).decls)) result) is h

    pub inner_upright : (c : SoFar) (m : Making) (j : JudgedOpen) → opening r.source.now (out-Procedure tree).name (plain_option plain_formals (out-Procedure tree).formals) m ≡ Keeps j → Upright c m → Upright c j.inner
    inner_upright c m j e up = given_so j e (opening_upright r.source.now c (out-Procedure tree).name (plain_option plain_formals (out-Procedure tree).formals) m up)

    pub inner_under_way : IsUnderWay r s → IsSettled (deeper r o.outer.depth) a.declaring → IsUnderWay scope a
    inner_under_way old ok = subst (λ z. IsUnderWay z a) (sym is) (came _ (opens old.making old.represents) (λ j e stood. record {
      settled = ok;
      so_far = old.so_far;
      making = j.inner;
      represents = stood.represents;
      upright = inner_upright old.so_far old.making j e old.upright;
    }))

    pub not_judged : {b t : Building} {e : CheckFault} → Inner b (Err e) → BuildsUpright r s t (procedure_part r.source.now (plain_procedure tree)) (Err e)
    not_judged h = λ c m represents up.
        as_judged (tree_is r.source.now tree m) (then_so _ _ (opens m represents) (λ j e stood.
        stop _ _ (in_scope h c j.inner stood.represents (inner_upright c m j e up))))

    module _ (b t : Building) (closable : CanBeClosed r a o) (old : IsBuilt a.declaring.types) (new : IsBuilt b.declaring.types) (grows : Grows a.declaring.types.table b.declaring.types.table) (inner : Inner b (Ok tt)) where
      pub closes : {result : Result (Unit {0}) CheckFault} → Closes b t o result → BuildsUpright r s t (procedure_part r.source.now (plain_procedure tree)) result
      closes h = λ c m represents up.
          as_judged (tree_is r.source.now tree m) (then_so _ _ (opens m represents) (λ j e stood.
          then_so _ _ (in_scope inner c j.inner stood.represents (inner_upright c m j e up)) (λ d k built.
          h c j d.1
          (still_open r a b o old new grows j d.1 closable stood (given_so d k (m_decls r.source.now (plain_decls (out-Procedure tree).decls) j.inner)) built.represents)
          (decls_upright c r.source.now (plain_decls (out-Procedure tree).decls) j.inner d.1 k (inner_upright c m j e up)))))

    pub legal_inside : (b : Building) → ((c : SoFar) (m : Making) → Represents scope a m → Upright c m → HasLegalTypes a.declaring.types.table → HasLegalTypes b.declaring.types.table)
        → (c : SoFar) (m : Making) → Represents r s m → Upright c m → HasLegalTypes a.declaring.types.table → HasLegalTypes b.declaring.types.table
    legal_inside b h c m represents up =
        came _ (opens m represents) (λ j e stood. h c j.inner (subst (λ z. Represents z a j.inner) (sym is) stood.represents) (inner_upright c m j e up))
