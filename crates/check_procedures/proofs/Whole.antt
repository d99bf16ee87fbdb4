-- All declarations of a scope: what comes before the procedures, and then the procedures.
use Rattle.std.proofs.Common.{◌≡◌, Result, Ok, Err, sym, ap, ◌∙◌}
use Rattle.ob_syntax.specs.Plain.{plain_option, plain_consts, plain_types, plain_vars, plain_decls}
use Rattle.ob_syntax.specs.declared.declarations.Decls.{Decls, out-Decls}
use Rattle.ob_judge.specs.Judged.{Judged, Keeps, ◌>>=◌}
use Rattle.ob_judge.specs.Making.{Making, Part}
use Rattle.ob_judge.specs.Modules.{SoFar}
use Rattle.ob_judge.specs.Scopes.{Source}
use Rattle.ob_judge.specs.Declarations.{each, const_part, types_part, var_part, consts_in, types_in, vars_in, decls_part, procedures_part}
use Rattle.legal_tables.specs.Promised.{HasLegalTypes}
use Rattle.judged_outlines.specs.Upright.{Upright}
use Rattle.check_types.specs.declared.steps.fault.CheckFault.{CheckFault}
use Rattle.check_types.proofs.steps.Answering.{as_judged, stop}
use Rattle.judged_modules.specs.steps.Procedures.{plain_each_procedure}
use Rattle.judged_modules.proofs.steps.Laws.{then_then, then_same}
use Rattle.judged_modules.proofs.steps.Parts.{decls_parts}
use Rattle.check_making.specs.declared.making.Surroundings.{Surroundings}
use Rattle.check_making.specs.Making.{IsSettled}
use Rattle.check_making.specs.declared.scopes.building.Building.{Building}
use Rattle.check_making.specs.scopes.Building.{Represents}
use Rattle.check_making.specs.scopes.Built.{Builds}
use Rattle.check_procedures.specs.Parts.{first_parts}
use Rattle.check_procedures.specs.UnderWay.{IsUnderWay, BuildsUpright}
use Rattle.check_procedures.proofs.Giving.{then_so, given_so}
use Rattle.check_procedures.proofs.Uprights.{first_parts_upright}
use Rattle.check_making.proofs.headings.Heads.{by_given as came}

module _ (p : Source) (tree : Decls) where
  -- what comes before the procedures
  abbrev pub first : Part (Unit {0})
  first = first_parts p (plain_option plain_consts (out-Decls tree).consts) (plain_option plain_types (out-Decls tree).types) (plain_option plain_vars (out-Decls tree).vars)

  abbrev pub behind : Part (Unit {0})
  behind = procedures_part p (plain_each_procedure (out-Decls tree).procedures.items)

  decls_are : (m : Making) → decls_part p (plain_decls tree) m ≡ (first m >>= λ z. behind z.1)
  decls_are m =
      let consts = each (const_part p) (consts_in (plain_option plain_consts (out-Decls tree).consts)) m in
      let types : Making → Judged (Unit {0} × Making) = λ s. types_part p (types_in (plain_option plain_types (out-Decls tree).types)) s in
      let vars : Making → Judged (Unit {0} × Making) = λ s. each (var_part p) (vars_in (plain_option plain_vars (out-Decls tree).vars)) s in
      ap (λ d. decls_part p d m) (decls_parts tree)
      ∙ sym (then_then consts (λ a. types a.1 >>= λ b. vars b.1) (λ z. behind z.1)
      ∙ then_same consts _ _ (λ a. then_then (types a.1) (λ b. vars b.1) (λ z. behind z.1)))

module _ (r : Surroundings) (tree : Decls) where
  pub not_begun : {s u t : Building} {e : CheckFault} → Builds r s u (first r.source.now tree) (Err e) → BuildsUpright r s t (decls_part r.source.now (plain_decls tree)) (Err e)
  not_begun h = λ c m represents up. as_judged (decls_are r.source.now tree m) (stop _ _ (h m represents))

  module _ (s u : Building) (begun : Builds r s u (first r.source.now tree) (Ok tt)) where
    first_upright : (c : SoFar) (m : Making) (a : Unit {0} × Making) → first r.source.now tree m ≡ Keeps a → Upright c m → Upright c a.1
    first_upright c m a e up = given_so a e (first_parts_upright r.source.now c (plain_option plain_consts (out-Decls tree).consts) (plain_option plain_types (out-Decls tree).types) (plain_option plain_vars (out-Decls tree).vars) m up)

    pub goes_on_under_way : IsUnderWay r s → IsSettled r u.declaring → IsUnderWay r u
    goes_on_under_way old ok = came _ (begun old.making old.represents) (λ a e built. record {
      settled = ok;
      so_far = old.so_far;
      making = a.1;
      represents = built.represents;
      upright = first_upright old.so_far old.making a e old.upright;
    })

    pub whole : {t : Building} {result : Result (Unit {0}) CheckFault} → BuildsUpright r u t (behind r.source.now tree) result → BuildsUpright r s t (decls_part r.source.now (plain_decls tree)) result
    whole h = λ c m represents up.
        as_judged (decls_are r.source.now tree m) (then_so _ _ (begun m represents) (λ a e built. h c a.1 built.represents (first_upright c m a e up)))

    pub legal_behind : (t : Building) → ((c : SoFar) (m : Making) → Represents r u m → Upright c m → HasLegalTypes u.declaring.types.table → HasLegalTypes t.declaring.types.table)
        → (c : SoFar) (m : Making) → Represents r s m → Upright c m → HasLegalTypes u.declaring.types.table → HasLegalTypes t.declaring.types.table
    legal_behind t h c m represents up = came _ (begun m represents) (λ a e built. h c a.1 built.represents (first_upright c m a e up))
