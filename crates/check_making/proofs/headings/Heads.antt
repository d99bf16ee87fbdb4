-- A procedure's heading, once its parameters are known.
use Rattle.std.proofs.Common.{◌≡◌, ℕ, Bool, true, false, not, Option, Some, None, Ok, Err, refl, ap, ◌∙◌, subst}
use Rattle.std.specs.Prelude.{is_none}
use Rattle.ob_syntax.specs.declared.names.Identdef.{Identdef}
use Rattle.ob_judge.specs.Judged.{Judged, Keeps, Breaks}
use Rattle.ob_judge.specs.Shapes.{Shape, Procedure}
use Rattle.ob_judge.specs.Scopes.{World, spelled}
use Rattle.ob_judge.specs.Making.{Making, declare_outer, with_levels, offer_if}
use Rattle.ob_judge.specs.Parameters.{Listed}
use Rattle.judged_programs.specs.Tidy.{IsInProcedure}
use Rattle.check_types.specs.steps.Answers.{Answers, Refuses}
use Rattle.check_types.specs.declared.steps.fault.CheckFault.{CheckFault}
use Rattle.check_types.specs.declared.steps.fault.CheckFault.TheVariants.{Fault, Memory}
use Rattle.check_making.specs.declared.making.Declaring.{Declaring}
use Rattle.check_making.specs.declared.making.Surroundings.{Surroundings}
use Rattle.check_making.specs.Making.{Makes, IsSettled}
use Rattle.check_making.specs.Parts.{Made, Gave}
use Rattle.check_making.specs.scopes.Naming.{procedure_entry, named_procedure}
use Rattle.table_builder.specs.Growing.{Grows}
use Rattle.table_builder.specs.Builder.{IsBuilt}
use Rattle.table_builder.proofs.Growing.{numbered_still}
use Rattle.check_making.specs.declared.parameters.sections.Heading.{Heading}
use Rattle.check_making.specs.parameters.Headings.{IsHeading}
use Rattle.check_making.proofs.parameters.Growing.{listed_still}
use Rattle.check_making.specs.parameters.Stands.{Stands}

module _ (r : Surroundings) (f : ℕ) (name : Identdef) (is_local : Bool) where
  -- what the name leaves
  abbrev pub named : Shape → Making → Making
  named s m = offer_if (not is_local) (spelled r.source.now name.name) (procedure_entry f name s is_local) (with_levels (declare_outer (spelled r.source.now name.name) (procedure_entry f name s is_local)) m)

  -- the name is known, and what was given is given on
  pub gives_on : {B : Type 0} {R : B → Listed × Shape → Type 0} (t : Declaring) (b : B) (h : Listed × Shape) (s : Shape) (m : Making) → s ≡ Procedure h.0.formals h.1 → R b h
      → Answers (Made r t) (named_procedure r.source.now f name s is_local m) (Ok tt) → Answers (Gave R r t) (Keeps (h, named (Procedure h.0.formals h.1) m)) (Ok b)
  gives_on t b h s m e value made = record { by = record { value = value; makes = subst (λ z. Makes r t (named z m)) e (made.by).makes } }

  refuses_as : {A B : Type 0} (a : A) (b : B) (e : CheckFault) → Refuses (Keeps a) e → Refuses (Keeps b) e
  refuses_as a b (Fault n at) h = h
  refuses_as a b Memory h = tt

  pub refuses_on : {A B : Type 0} {R : B → A → Type 0} (t : Declaring) (a : A) (s : Shape) (m : Making) (e : CheckFault)
      → Answers (Made r t) (named_procedure r.source.now f name s is_local m) (Err e) → Answers R (Keeps a) (Err e)
  refuses_on t a s m e h = record { by = refuses_as {A = Unit {0} × Making} (tt, named s m) a e h.by }

  pub stands_named : (t : Declaring) (s : Shape) (m : Making) → IsSettled r t → Answers (Made r t) (named_procedure r.source.now f name s is_local m) (Ok tt) → Stands r t
  stands_named t s m ok made = record { settled = ok; making = named s m; makes = (made.by).makes }

-- a heading means the same in a state whose table of types grew
pub heading_still : (s t : Declaring) → IsBuilt s.types → IsBuilt t.types → Grows s.types.table t.types.table → (h : Heading) (x : Listed × Shape) → IsHeading s h x → IsHeading t h x
heading_still s t old new g h x k = record {
  listed = listed_still s.types t.types old new g h.listed x.0 k.listed;
  result_is = g.shape h.outcome k.numbered ∙ k.result_is;
  numbered = numbered_still s.types.table t.types.table g h.outcome k.numbered;
}

-- where a procedure is open, the judgement is in one
pub in_procedure : (o : Option ℕ) → is_none o ≡ false → (f : ℕ) × (o ≡ Some f)
in_procedure None h = absurd (let z = h in cc)
in_procedure (Some f) h = (f, refl)

pub in_its_procedure : (r : Surroundings) (s : Declaring) (m : Making) → Makes r s m → is_none s.procedure ≡ false → IsInProcedure true m
in_its_procedure r s m makes h = λ is. let f = in_procedure s.procedure h in (f.0, ap (λ (w : World). w.procedure) makes.world ∙ f.1)

-- what follows from what a part of the judgement gave
pub by_given : {A B P : Type 0} {R : B → A → Type 0} {b : B} (m : Judged A) → Answers R m (Ok b) → ((a : A) → m ≡ Keeps a → R b a → P) → P
by_given (Keeps a) h f = f a refl h.by
by_given (Breaks n at) h f = absurd h.by

-- what follows from all that an answer may stand for
pub by_answer : {A B P : Type 0} {R : B → A → Type 0} {b : B} (m : Judged A) → Answers R m (Ok b) → ((a : A) → R b a → P) → P
by_answer (Keeps a) h f = f a h.by
by_answer (Breaks n at) h f = absurd h.by
