-- Parts of declarations don't read the procedures but for how many there are.
use Rattle.std.proofs.Common.{◌≡◌, ℕ, List, [], ◌∷◌, ◌++◌, length, Bool, Option, refl, subst, ap, ◌∙◌}
use Rattle.ob_syntax.specs.Syntax as S
use Rattle.ob_syntax.specs.declared.names.Identdef.{Identdef}
use Rattle.ob_judge.specs.Judged.{Judged, Keeps, Breaks, ◌>>=◌}
use Rattle.ob_judge.specs.Shapes.{Shape}
use Rattle.ob_judge.specs.Image.{Procedure}
use Rattle.ob_judge.specs.Scopes.{Source}
use Rattle.ob_judge.specs.Making.{Making, Part}
use Rattle.ob_judge.specs.Parameters.{Listed, stand}
use Rattle.ob_judge.specs.Declarations.{each, const_part, types_part, var_part, heading, decls_part, procedures_part}
use Rattle.judged_well.specs.Gives.{Gives}
use Rattle.judged_well.proofs.Judging.{weaken}
use Rattle.judged_modules.proofs.Keeping.{given}
use Rattle.judged_modules.specs.steps.Procedures.{OneProcedure}
use Rattle.judged_modules.specs.steps.Steps.{procedure_part}
use Rattle.judged_modules.proofs.steps.Frame.{h_stand, h_const, h_consts, h_heading}
use Rattle.judged_modules.proofs.steps.FrameTypes.{k_types, k_vars}
use Rattle.later_bodies.specs.Waiting.{with_procedures}
use Rattle.later_bodies.specs.Beside.{SameBeside, AddedBeside}
use Rattle.later_bodies.proofs.Lists.{append_nothing}
use Rattle.later_bodies.proofs.Beside.{Beside, b_stand, b_const, b_consts, b_heading}
use Rattle.later_bodies.proofs.BesideTypes.{b_types, b_var, b_vars}
use Rattle.later_bodies.proofs.Alike.{Alike, Both, goes_on, ends, a_procedure, a_decls, a_procedures}

-- ---- what leaves the procedures as they were

same_beside : {A : Type 0} (m : Part A) (s : Making) (ys : List Procedure) (a : A) (t : Making) → Beside ys (m (with_procedures ys s)) (m s) → Gives (λ (r : A × Making). r.1.procedures ≡ s.procedures) (m s)
    → m s ≡ Keeps (a, t) → SameBeside m s ys a t
same_beside m s ys a t b g is = record {
  procedures = given (a, t) g is;
  alike = b.by ∙ ap (λ (z : Judged _). z >>= λ r. Keeps (r.0, with_procedures ys r.1)) is;
}

module _ (p : Source) (s : Making) (ys : List Procedure) where
  pub stand_beside : (is : List ℕ) (t : Making) → stand p is s ≡ Keeps (tt, t) → SameBeside (stand p is) s ys tt t
  stand_beside is t e = same_beside (stand p is) s ys tt t (b_stand ys p is s) (weaken (h_stand p is s) (λ r h. h.procedures)) e

  pub const_beside : (d : S.ConstDecl) (t : Making) → const_part p d s ≡ Keeps (tt, t) → SameBeside (const_part p d) s ys tt t
  const_beside d t e = same_beside (const_part p d) s ys tt t (b_const ys p d s) (weaken (h_const p d s) (λ r h. h.procedures)) e

  pub consts_beside : (ds : List S.ConstDecl) (t : Making) → each (const_part p) ds s ≡ Keeps (tt, t) → SameBeside (each (const_part p) ds) s ys tt t
  consts_beside ds t e = same_beside (each (const_part p) ds) s ys tt t (b_consts ys p ds s) (weaken (h_consts p ds s) (λ r h. h.procedures)) e

  pub types_beside : (ds : List S.TypeDecl) (t : Making) → types_part p ds s ≡ Keeps (tt, t) → SameBeside (types_part p ds) s ys tt t
  types_beside ds t e = same_beside (types_part p ds) s ys tt t (b_types ys p ds s) (weaken (k_types p ds s) (λ r h. h.procedures)) e

  pub vars_beside : (ds : List S.VarDecl) (t : Making) → each (var_part p) ds s ≡ Keeps (tt, t) → SameBeside (each (var_part p) ds) s ys tt t
  vars_beside ds t e = same_beside (each (var_part p) ds) s ys tt t (b_vars ys p ds s) (weaken (k_vars p ds s) (λ r h. h.procedures)) e

  pub var_beside : (d : S.VarDecl) (t : Making) → var_part p d s ≡ Keeps (tt, t) → SameBeside (var_part p d) s ys tt t
  var_beside d t e = record {
    procedures = (given (tt, t) (k_vars p (d ∷ []) s) (ap (λ (m : Judged _). m >>= λ r. Keeps (r.0, r.1)) e)).procedures;
    alike = (b_var ys p d s).by ∙ ap (λ (m : Judged _). m >>= λ r. Keeps (r.0, with_procedures ys r.1)) e;
  }

  pub heading_beside : (f : ℕ) (name : Identdef) (x : Option S.Formals) (is_local : Bool) (h : Listed × Shape) (t : Making) → heading p f name x is_local s ≡ Keeps (h, t) → SameBeside (heading p f name x is_local) s ys h t
  heading_beside f name x is_local h t e = same_beside (heading p f name x is_local) s ys h t (b_heading ys p f name x is_local s) (weaken (h_heading p f name x is_local s) (λ r h. h.procedures)) e

-- ---- what adds procedures

-- what both come to
abbrev AddedAt : {A : Type 0} (xs ys : List Procedure) (n : Judged (A × Making)) → Judged (A × Making) → Type 0
AddedAt xs ys n (Keeps r) = (zs : List Procedure) × (r.1.procedures ≡ xs ++ zs) × (n ≡ Keeps (r.0, with_procedures (ys ++ zs) r.1))
AddedAt xs ys n (Breaks number at) = Unit {0}

both_added : {A : Type 0} (xs ys : List Procedure) (m n : Judged (A × Making)) → Both xs ys m n → AddedAt xs ys n m
both_added xs ys _ _ (goes_on a zs s) = (zs, refl, refl)
both_added xs ys _ _ (ends number at) = tt

added_beside : {A : Type 0} (m : Part A) (s : Making) (ys : List Procedure) (a : A) (t : Making) → Alike s.procedures ys (m s) (m (with_procedures ys s)) → m s ≡ Keeps (a, t) → AddedBeside m s ys a t
added_beside m s ys a t h is =
    let r : AddedAt s.procedures ys (m (with_procedures ys s)) (Keeps (a, t)) = subst (AddedAt s.procedures ys (m (with_procedures ys s))) is (both_added s.procedures ys (m s) (m (with_procedures ys s)) h.by) in
    record { added = r.0; procedures = r.1; alike = r.2 }

-- where nothing was added before
from_here : {A : Type 0} (m : Part A) (s : Making) (ys : List Procedure) → Alike s.procedures ys (m (with_procedures (s.procedures ++ []) s)) (m (with_procedures (ys ++ []) s)) → Alike s.procedures ys (m s) (m (with_procedures ys s))
from_here m s ys h =
    subst (λ l. Alike s.procedures ys (m (with_procedures l s)) (m (with_procedures ys s))) (append_nothing s.procedures)
    (subst (λ l. Alike s.procedures ys (m (with_procedures (s.procedures ++ []) s)) (m (with_procedures l s))) (append_nothing ys) h)

module _ (p : Source) (s : Making) (ys : List Procedure) (many : length ys ≡ length s.procedures) where
  pub decls_beside : (d : S.Decls) (t : Making) → decls_part p d s ≡ Keeps (tt, t) → AddedBeside (decls_part p d) s ys tt t
  decls_beside d t is = added_beside (decls_part p d) s ys tt t (from_here (decls_part p d) s ys (a_decls s.procedures ys many p d [] s)) is

  pub procedures_beside : (x : S.Procedures) (t : Making) → procedures_part p x s ≡ Keeps (tt, t) → AddedBeside (procedures_part p x) s ys tt t
  procedures_beside x t is = added_beside (procedures_part p x) s ys tt t (from_here (procedures_part p x) s ys (a_procedures s.procedures ys many p x [] s)) is

  pub procedure_beside : (q : OneProcedure) (t : Making) → procedure_part p q s ≡ Keeps (tt, t) → AddedBeside (procedure_part p q) s ys tt t
  procedure_beside q t is = added_beside (procedure_part p q) s ys tt t (from_here (procedure_part p q) s ys (a_procedure s.procedures ys many p q (a_decls s.procedures ys many p q.decls) [] s)) is
