-- Procedure types, whose parameters' names stand aside.
use Rattle.std.proofs.Common.{◌≡◌, [], Result, Ok, Err, sym, ap, ◌∙◌, subst}
use Rattle.std.specs.Prelude.{OnOk, IfOk, IfErr}
use Rattle.ob_judge.specs.Judged.{Keeps}
use Rattle.ob_judge.specs.Shapes.{Shape}
use Rattle.ob_judge.specs.Making.{Making}
use Rattle.ob_judge.specs.Parameters.{Listed}
use Rattle.check_types.specs.steps.Answers.{Answers}
use Rattle.check_types.specs.declared.steps.fault.CheckFault.{CheckFault}
use Rattle.check_types.specs.declared.steps.fault.CheckFault.TheVariants.{Memory}
use Rattle.check_types.specs.declared.types.TypeRef.{TypeRef}
use Rattle.check_types.specs.TypeMeaning.{type_shape}
use Rattle.table_builder.specs.Entries.{IsNumbered}
use Rattle.check_making.specs.declared.making.Declaring.{Declaring}
use Rattle.check_making.specs.declared.making.Surroundings.{Surroundings}
use Rattle.check_making.specs.Making.{Makes, IsTypeOf}
use Rattle.check_making.specs.Parts.{Gave}
use Rattle.check_making.specs.declared.parameters.sections.Heading.{Heading}
use Rattle.check_making.specs.parameters.Listed.{IsListed}
use Rattle.check_making.specs.parameters.Headings.{IsHeading}
use Rattle.check_making.proofs.parameters.Answering.{no_memory}
use Rattle.check_making.proofs.parameters.Leaving.{IsBeside}

-- the names that stood stand again
pub restored : (m k : Making) → IsBeside (record m { standing = [] }) k → record k { standing = m.standing } ≡ m
restored m k h = ap (λ (z : Making). record z { standing = m.standing }) h.same

pub heading_same : (s t : Declaring) → t.types ≡ s.types → (h : Heading) (x : Listed × Shape) → IsHeading s h x → IsHeading t h x
heading_same s t e h x is = record {
  listed = subst (λ z. IsListed z.table h.listed x.0) (sym e) is.listed;
  result_is = ap (λ z. type_shape z.table.types h.outcome) e ∙ is.result_is;
  numbered = subst (λ z. IsNumbered z.table.entries.items h.outcome) (sym e) is.numbered;
}

-- a type that was made, where the judgement leaves all as it was
pub type_left : {r : Surroundings} {t : Declaring} (result : Result TypeRef CheckFault) (shape : Shape) (m : Making) → IfOk result (λ k. IsTypeOf t k shape) → OnOk result (Makes r t m) → IfErr result (λ e. e ≡ Memory)
    → Answers (Gave (IsTypeOf t) r t) (Keeps (shape, m)) result
type_left (Ok k) shape m f g h = record { by = record { value = f; makes = g } }
type_left (Err e) shape m f g h = no_memory (Keeps (shape, m)) h
