use Rattle.std.proofs.Common.{◌∙◌, refl, ap}
use Rattle.ob_syntax.specs.Plain.{plain_type}
use Rattle.check_types.specs.declared.steps.fault.CheckFault.TheVariants.{Fault}
use Rattle.check_types.proofs.steps.Answering.{as_judged}
use Rattle.check_types.specs.TypeMeaning.{type_shape}
use Rattle.check_types.specs.declared.types.TypeRef.TheVariants as TheType
use Rattle.table_builder.proofs.Growing.{element_still}
use Rattle.check_making.specs.Making.{table_of}
use Rattle.check_making.proofs.parameters.Answering.{breaks_so}
use Rattle.check_making.specs.new_types.Pointers.{points_to}
use Rattle.check_making.proofs.new_types.WholeRecords.{pointer_there}
use Rattle.check_making.proofs.new_types.PointerParts.{no_record, points_none}
use Rattle.check_making.proofs.new_types.pointers.point_to.Goals as goal

pub set_base-requires-clause-pointer : goal.set_base-requires-clause-pointer
set_base-requires-clause-pointer c = pointer_there c.args.state.now.types c.requires.settled.built c.args.pointer c.requires.element.numbered

pub returns-in-Record-clause-judged : goal.returns-in-Record-clause-judged
returns-in-Record-clause-judged c = λ m makes.
    let s = c.args.state.now in
    as_judged (ap (λ k. points_to c.args.round.now.source.now c.args.pointer (plain_type c.args.base.now) (type_shape (table_of s) k) m) c.in-Record.is)
    (record {
      by = record {
        value = record { shape_is = refl; element = element_still s.types.table c.set_base.new.self.types.table c.set_base.ensures.grows (TheType.Pointer c.args.pointer) c.requires.element };
        makes = ((c.set_base.ensures.judged m makes).by).makes;
      };
    })

pub returns-in_default-clause-judged : goal.returns-in_default-clause-judged
returns-in_default-clause-judged c = λ m makes.
    let p = c.args.round.now.source.now in
    as_judged (points_none p c.args.pointer (plain_type c.args.base.now) (type_shape (table_of c.args.state.now) c.args.of) m (no_record (table_of c.args.state.now) c.args.of c.in_default.not-Record))
    (breaks_so 31 _ (c.fault.ensures ∙ ap (Fault 31) (c.type_symbol.ensures p)))
