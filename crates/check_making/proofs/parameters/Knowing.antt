-- A parameter that is known in its procedure.
use Rattle.std.proofs.Common.{◌≡◌, ℕ, suc, Bool, true, false, None, Ok, Err, sym, ap, ◌∙◌, subst}
use Rattle.std.specs.Prelude.{is_none, if◌then◌else◌}
use Rattle.ob_syntax.specs.declared.names.Identdef.{Identdef}
use Rattle.ob_judge.specs.Judged.{Keeps}
use Rattle.ob_judge.specs.Shapes.{Shape}
use Rattle.ob_judge.specs.Scopes.{Object, World, spelled}
use Rattle.ob_judge.specs.Making.{Making, with_levels, declare_last, offer_if}
use Rattle.ob_judge.specs.Parameters.{declare_parameter, declared, parameter_variable, is_value, mode_of}
use Rattle.check_types.specs.steps.Answers.{Answers, Refuses}
use Rattle.check_types.specs.declared.steps.fault.CheckFault.{CheckFault}
use Rattle.check_types.specs.declared.steps.fault.CheckFault.TheVariants.{Fault, Memory}
use Rattle.check_making.specs.declared.making.Declaring.{Declaring}
use Rattle.check_making.specs.declared.making.Surroundings.{Surroundings}
use Rattle.check_making.specs.Making.{Makes}
use Rattle.check_making.specs.Parts.{Made}
use Rattle.check_making.proofs.parameters.Updates.{makes_changed}

no_fault : {A B : Type 0} (a : A) (b : B) (e : CheckFault) → Refuses (Keeps b) e → Refuses (Keeps a) e
no_fault a b (Fault n at) h = h
no_fault a b Memory h = tt

module _ (r : Surroundings) (s u : Declaring) (m : Making) (makes : Makes r s m) (i number : ℕ) (v : Bool) (shape : Shape) (o : Object) where
  abbrev x : Identdef
  x = record { name = i; star = None }

  abbrev named : Object → Making
  named a = with_levels (declare_last (spelled r.source.now i) (record { object = a; exported = false })) m

  abbrev with_value : ℕ → ℕ
  with_value n = if is_value (mode_of v shape) then suc n else n

  known_as : is_none s.procedure ≡ false → o ≡ parameter_variable v shape m.values number m.world → Answers (Made r u) (declared r.source.now x o m) (Ok tt) → Makes r u (named (parameter_variable v shape m.values number m.world))
  known_as inside is h =
      subst (λ a. Makes r u (named a)) is
      (subst (λ b. Makes r u (offer_if b (spelled r.source.now i) (record { object = o; exported = false }) (named o))) (ap (λ (w : World). is_none w.procedure) makes.world ∙ inside) (h.by).makes)

  pub parameter_known : is_none s.procedure ≡ false → o ≡ parameter_variable v shape s.values number m.world → (values : ℕ) → values ≡ with_value s.values
      → Answers (Made r u) (declared r.source.now x o m) (Ok tt) → Answers (Made r (record u { values = values })) (declare_parameter r.source.now true i v shape number m) (Ok tt)
  parameter_known inside is values at h =
      let n = named (parameter_variable v shape m.values number m.world) in
      let known = known_as inside (is ∙ ap (λ k. parameter_variable v shape k number m.world) (sym makes.values)) h in
      record {
        by = record {
          makes = makes_changed r u u.standing u.forward u.is_type_part values n known n.standing n.forward n.is_type_part (with_value n.values) known.standing known.forward known.is_type_part
              (ap with_value makes.values ∙ sym at);
        };
      }

  pub parameter_unknown : {t : Declaring} {e : CheckFault} → Answers (Made r u) (declared r.source.now x o m) (Err e) → Answers (Made r t) (declare_parameter r.source.now true i v shape number m) (Err e)
  parameter_unknown {e = e} h =
      let n = named (parameter_variable v shape m.values number m.world) in
      record {
        by = no_fault {A = Unit {0} × Making} {B = Unit {0} × Making} (tt, record n { values = with_value n.values })
            (tt, offer_if (is_none m.world.procedure) (spelled r.source.now i) (record { object = o; exported = false }) (named o)) e h.by;
      }
