use Rattle.std.proofs.Common.{drop}
use Rattle.ob_judge.specs.Shapes.{Layout}
use Rattle.ob_judge.specs.Making.{Making}
use Rattle.check_types.specs.TypeMeaning.{type_shape}
use Rattle.check_making.specs.Making.{table_of, Makes}
use Rattle.check_making.proofs.parameters.Rounds.{Walking}
use Rattle.check_making.specs.new_types.Layouts.{IsSoFarIn}
use Rattle.check_making.proofs.new_types.FieldLists.{fields_from}
use Rattle.check_making.proofs.new_types.fields.add_more.Given as goal

abbrev pub invariant-loop-next : goal.invariant-loop-next
invariant-loop-next l = (g : Layout) → IsSoFarIn l.state l.fn.first g → (m : Making) → Makes l.round l.state m
    → Walking (IsSoFarIn l.state) (fields_from l.round.source.now l.r m.world (type_shape (table_of l.state) l.of)) (fields_from l.round.source.now l.r m.world (type_shape (table_of l.state) l.of) g l.more) l.layout (drop l.next-index l.more)
