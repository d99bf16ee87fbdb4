-- Each part of the judgement leaves upright what it is judged in.
use Rattle.std.proofs.Common.{◌≡◌, ℕ, List, [], ◌∷◌, length, Bool, true, Option, ap, ◌∙◌, subst}
use Rattle.ob_syntax.specs.Syntax as S
use Rattle.ob_syntax.specs.declared.modules.Import.{Import}
use Rattle.ob_syntax.specs.declared.names.Identdef.{Identdef}
use Rattle.ob_judge.specs.Judged.{Judged, Keeps, ◌>>=◌}
use Rattle.ob_judge.specs.Shapes.{Shape}
use Rattle.ob_judge.specs.Scopes.{Source}
use Rattle.ob_judge.specs.Making.{Making, Part, new_procedure}
use Rattle.ob_judge.specs.Modules.{SoFar, import_part, with_module}
use Rattle.ob_judge.specs.Parameters.{Listed, stand}
use Rattle.ob_judge.specs.Types.{type_part}
use Rattle.ob_judge.specs.Declarations.{each, const_part, types_part, var_part, heading, decls_part, procedures_part}
use Rattle.judged_well.specs.Standing.{is_result}
use Rattle.judged_modules.specs.Agrees.{bases_of}
use Rattle.judged_modules.proofs.Growing.{kept_same, bound}
use Rattle.judged_modules.proofs.Keeping.{given}
use Rattle.judged_programs.specs.Tidy.{AreListed, IsInProcedure}
use Rattle.judged_programs.proofs.Tidy.{s_stand}
use Rattle.judged_programs.proofs.TypesTidy.{s_type}
use Rattle.judged_programs.proofs.DeclarationsTidy.{s_const, s_types, s_var}
use Rattle.judged_programs.proofs.ProceduresTidy.{s_decls, s_procedures}
use Rattle.judged_programs.proofs.ModulesTidy.{module_tidy}
use Rattle.judged_modules.specs.steps.Frames.{entered, left}
use Rattle.judged_modules.specs.steps.Procedures.{OneProcedure, with_procedure}
use Rattle.judged_modules.specs.steps.Steps.{completes, procedure_part}
use Rattle.judged_modules.proofs.steps.Laws.{procedures_law}
use Rattle.judged_outlines.specs.Among.{PointsAmong}
use Rattle.judged_outlines.specs.Upright.{MadeWithin, Upright, UprightSoFar}
use Rattle.judged_outlines.proofs.Parts.{d_stand}
use Rattle.judged_outlines.proofs.Types.{d_type}
use Rattle.judged_outlines.proofs.Declared.{among_entered, among_left, d_const, d_types, d_var, d_heading, d_completes, d_decls, d_procedures}
use Rattle.judged_outlines.proofs.Tidies.{tidy_numbered, tidy_entered, tidy_left, tidy_import, tidy_heading, tidy_completes, within_entered}
use Rattle.judged_outlines.proofs.Modules.{d_import, module_among}

module _ (c : SoFar) where
  pub numbered_upright : (s t : Making) (f : ℕ) → new_procedure s ≡ Keeps (f, t) → Upright c s → Upright c t
  numbered_upright s t f is h =
      let a = h.among in
      subst (Upright c) (ap (λ r. r.1) (kept_same _ (f, t) is)) (record { tidy = tidy_numbered (length c.procedures) s h.tidy; among = record { names = a.names; members = a.members; fields = a.fields; narrowed = a.narrowed } })

  pub entered_upright : (s : Making) (f : ℕ) → Upright c s → Upright c (entered f s) × MadeWithin s (entered f s)
  entered_upright s f h = (record { tidy = tidy_entered (length c.procedures) f s h.tidy; among = among_entered f s h.among }, within_entered f s)

  pub left_upright : (s t : Making) → MadeWithin s t → Upright c s → Upright c t → Upright c (left s t)
  left_upright s t within h k = record { tidy = tidy_left (length c.procedures) s t within h.tidy k.tidy; among = among_left s t within.more h.among k.among }

  module _ (p : Source) where
    pub stand_upright : (xs : List ℕ) (s t : Making) → stand p xs s ≡ Keeps (tt, t) → Upright c s → Upright c t
    stand_upright xs s t is h = record { tidy = ((given (tt, t) (s_stand p {from = length c.procedures} {Before = Unit {0}} xs s) is).tidy tt h.tidy).0; among = (given (tt, t) (d_stand p xs s h.among) is).among }

    pub import_upright : (x : Import) (s t : Making) → import_part p x s ≡ Keeps (tt, t) → Upright c s → Upright c t
    import_upright x s t is h = record { tidy = given (tt, t) (tidy_import (length c.procedures) p x s h.tidy) is; among = (given (tt, t) (d_import p x s h.among) is).among }

    pub const_upright : (d : S.ConstDecl) (s t : Making) → const_part p d s ≡ Keeps (tt, t) → Upright c s → Upright c t
    const_upright d s t is h = record { tidy = ((given (tt, t) (s_const (length c.procedures) p {Before = Unit {0}} d s) is).tidy tt h.tidy).0; among = (given (tt, t) (d_const p d s h.among) is).among }

    pub type_upright : (x : S.TypeTree) (s t : Making) (a : Shape) → type_part p x s ≡ Keeps (a, t) → Upright c s → Upright c t × PointsAmong (length (bases_of t)) a
    type_upright x s t a is h =
        let k = given (a, t) (d_type p x s h.among) is in
        (record { tidy = ((given (a, t) (s_type (length c.procedures) p {Before = Unit {0}} x s) is).tidy tt h.tidy).0; among = k.among }, k.gives)

    pub types_upright : (ds : List S.TypeDecl) (s t : Making) → types_part p ds s ≡ Keeps (tt, t) → Upright c s → Upright c t
    types_upright ds s t is h = record { tidy = ((given (tt, t) (s_types (length c.procedures) p {Before = Unit {0}} ds s) is).tidy tt h.tidy).0; among = (given (tt, t) (d_types p ds s h.among) is).among }

    pub var_upright : (d : S.VarDecl) (s t : Making) → var_part p d s ≡ Keeps (tt, t) → Upright c s → Upright c t
    var_upright d s t is h = record { tidy = ((given (tt, t) (s_var (length c.procedures) p {Before = Unit {0}} d s) is).tidy tt h.tidy).0; among = (given (tt, t) (d_var p d s h.among) is).among }

    pub decls_upright : (d : S.Decls) (s t : Making) → decls_part p d s ≡ Keeps (tt, t) → Upright c s → Upright c t
    decls_upright d s t is h = record { tidy = ((given (tt, t) (s_decls (length c.procedures) p d s) is).tidy tt h.tidy).0; among = (given (tt, t) (d_decls p d s h.among) is).among }

    pub procedures_upright : (x : S.Procedures) (s t : Making) → procedures_part p x s ≡ Keeps (tt, t) → Upright c s → Upright c t
    procedures_upright x s t is h = record { tidy = ((given (tt, t) (s_procedures (length c.procedures) p x s) is).tidy tt h.tidy).0; among = (given (tt, t) (d_procedures p x s h.among) is).among }

    -- one after the other
    each_upright : {X : Type 0} (f : X → Part (Unit {0})) → ((x : X) (s t : Making) → f x s ≡ Keeps (tt, t) → Upright c s → Upright c t) → (xs : List X) (s t : Making) → each f xs s ≡ Keeps (tt, t) → Upright c s → Upright c t
    each_upright f g [] s t is h = subst (Upright c) (ap (λ r. r.1) (kept_same (tt, s) (tt, t) is)) h
    each_upright f g (x ∷ xs) s t is h = let k = bound (f x s) (λ r. each f xs r.1) (tt, t) is in each_upright f g xs (k.0).1 t k.2 (g x s (k.0).1 k.1 h)

    pub imports_upright : (xs : List Import) (s t : Making) → each (import_part p) xs s ≡ Keeps (tt, t) → Upright c s → Upright c t
    imports_upright xs s t is h = each_upright (import_part p) import_upright xs s t is h

    pub consts_upright : (ds : List S.ConstDecl) (s t : Making) → each (const_part p) ds s ≡ Keeps (tt, t) → Upright c s → Upright c t
    consts_upright ds s t is h = each_upright (const_part p) const_upright ds s t is h

    pub vars_upright : (ds : List S.VarDecl) (s t : Making) → each (var_part p) ds s ≡ Keeps (tt, t) → Upright c s → Upright c t
    vars_upright ds s t is h = each_upright (var_part p) var_upright ds s t is h

    -- a procedure, as the only one
    pub procedure_upright : (q : OneProcedure) (s t : Making) → procedure_part p q s ≡ Keeps (tt, t) → Upright c s → Upright c t
    procedure_upright q s t is h = procedures_upright (with_procedure q 0 S.no_procedure) s t (procedures_law p q 0 S.no_procedure s ∙ ap (λ (m : Judged (Unit {0} × Making)). m >>= λ r. procedures_part p S.no_procedure r.1) is) h

    pub heading_upright : (f : ℕ) (name : Identdef) (x : Option S.Formals) (is_local : Bool) (s t : Making) (l : Listed) (a : Shape) → heading p f name x is_local s ≡ Keeps ((l, a), t) → IsInProcedure true s
        → Upright c s → Upright c t × AreListed l × (is_result a ≡ true) × PointsAmong (length (bases_of t)) a
    heading_upright f name x is_local s t l a is inside h =
        let j = given ((l, a), t) (tidy_heading (length c.procedures) p f name x is_local s inside h.tidy) is in
        let k = given ((l, a), t) (d_heading p f name x is_local s h.among) is in
        (record { tidy = j.0; among = k.among }, j.1, j.2, k.gives.1)

    pub completes_upright : (f : ℕ) (q : OneProcedure) (l : Listed) (a : Shape) (s t : Making) → completes p f q (l, a) s ≡ Keeps (tt, t) → AreListed l → is_result a ≡ true → Upright c s → Upright c t
    completes_upright f q l a s t is listed result h = record { tidy = given (tt, t) (tidy_completes (length c.procedures) p f q (l, a) s listed result h.tidy) is; among = (given (tt, t) (d_completes p f q (l, a) s h.among) is).among }

pub module_upright : (p : Source) (m : S.Module) (c d : SoFar) → with_module p m c ≡ Keeps d → UprightSoFar c → UprightSoFar d
module_upright p m c d is h = record { tidy = given d (module_tidy p m c h.tidy) is; among = given d (module_among p m c h.among) is }
