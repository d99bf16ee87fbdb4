-- A procedure that is completed, whose scope is closed.
use Rattle.std.proofs.Common.{◌≡◌, List, Ok, Err, sym, subst}
use Rattle.std.specs.Prelude.{slice_set}
use Rattle.ob_types.specs.declared.program.Procedure.{Procedure}
use Rattle.ob_judge.specs.Image.{Procedure as JudgedProcedure}
use Rattle.ob_judge.specs.Judged.{Keeps}
use Rattle.ob_judge.specs.Scopes.{Source}
use Rattle.ob_judge.specs.Making.{Making, set_procedure}
use Rattle.check_types.specs.steps.Answers.{Answers}
use Rattle.check_types.specs.declared.steps.fault.CheckFault.{CheckFault}
use Rattle.check_types.proofs.steps.Answering.{as_judged, stop}
use Rattle.judged_modules.specs.steps.Procedures.{OneProcedure}
use Rattle.judged_modules.specs.steps.Steps.{completed}
use Rattle.judged_modules.specs.steps.Frames.{left}
use Rattle.judged_modules.proofs.steps.Laws.{then_then}
use Rattle.check_making.specs.declared.making.Declaring.{Declaring}
use Rattle.check_making.specs.declared.making.Forward.{Forward}
use Rattle.check_making.specs.declared.making.Surroundings.{Surroundings}
use Rattle.check_making.specs.Making.{Makes}
use Rattle.check_making.specs.declared.scopes.building.Building.{Building}
use Rattle.check_making.specs.declared.scopes.entering.Outer.{Outer}
use Rattle.check_making.specs.scopes.Building.{StandsFor, TheyStandFor, Represents}
use Rattle.check_making.specs.scopes.Built.{Built, Builds}
use Rattle.check_making.specs.scopes.Scopes.{deeper, IsOuter}
use Rattle.check_procedures.specs.declared.opening.OpenProcedure.{OpenProcedure}
use Rattle.check_procedures.specs.Parts.{JudgedOpen, closing}
use Rattle.check_procedures.specs.Open.{IsOpened}
use Rattle.check_procedures.proofs.Giving.{then_so}

-- with other procedures
abbrev having : List JudgedProcedure → Making → Making
having js m = record m { procedures = js }

outer_having : (r : Surroundings) (s : Declaring) (o : Outer) (forward : List Forward) (a b : Making) (js : List JudgedProcedure) → IsOuter r s o forward a b → IsOuter r s o forward a (having js b)
outer_having r s o forward a b js h = record {
  imports_in = h.imports_in;
  is_type_part = h.is_type_part;
  forward = h.forward;
  standing = h.standing;
  values = h.values;
  variables = h.variables;
  modules = h.modules;
  module_number = h.module_number;
  procedure = h.procedure;
  constant = h.constant;
  narrowed = h.narrowed;
}

module _ (r scope : Surroundings) (o : OpenProcedure) (is : scope ≡ deeper r o.outer.depth) (s u : Building) (t : Declaring) (q : OneProcedure) (done : Procedure)
    (sets : (x : JudgedProcedure) → StandsFor s.declaring.types.table done x → Builds scope s u (set_procedure o.number x) (Ok tt)) (same : u.declaring ≡ s.declaring) (types : t.types ≡ u.declaring.types)
    (leaves : (a b : Making) → Makes (deeper r o.outer.depth) u.declaring b → IsOuter r u.declaring o.outer o.forward.items a b → Makes r t (left a b)) where
  pub closed : (j : JudgedOpen) (m : Making) → IsOpened r s o (record j { inner = m }) → Answers (StandsFor s.declaring.types.table) (completed r.source.now q j.heading m) (Ok done) → Answers (Built r (record u { declaring = t })) (closing r.source.now q j m) (Ok tt)
  closed j m opened answers =
      as_judged (then_then (completed r.source.now q j.heading m) (λ x. set_procedure j.number x m) (λ z. Keeps (z.0, left j.outer z.1))) (then_so _ _ answers (λ x e stands.
      let set = slice_set m.procedures j.number x in
      let built : Represents scope u (having (slice_set m.procedures o.number x) m) = ((sets x stands m (subst (λ z. Represents z s m) (sym is) opened.represents)).by).represents in
      let inner : Represents (deeper r o.outer.depth) u (having set m) = subst (λ z. Represents z u (having set m)) is (subst (λ n. Represents scope u (having (slice_set m.procedures n x) m)) opened.number built) in
      record {
        by = record {
          represents = record {
            makes = leaves j.outer (having set m) inner.makes (outer_having r u.declaring o.outer o.forward.items j.outer m set (subst (λ z. IsOuter r z o.outer o.forward.items j.outer m) (sym same) opened.outer));
            procedures = subst (λ z. TheyStandFor z.table u.procedures.items set) (sym types) inner.procedures;
          };
        };
      }))

-- or isn't completed
pub not_closed : {B : Type 0} {S : B → Unit {0} × Making → Type 0} {T : Procedure → JudgedProcedure → Type 0} {e : CheckFault} (p : Source) (q : OneProcedure) (j : JudgedOpen) (m : Making)
    → Answers T (completed p q j.heading m) (Err e) → Answers S (closing p q j m) (Err e)
not_closed p q j m h = as_judged (then_then (completed p q j.heading m) (λ x. set_procedure j.number x m) (λ z. Keeps (z.0, left j.outer z.1))) (stop _ _ h)
