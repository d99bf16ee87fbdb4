use Rattle.std.proofs.Common.{refl, ◌∙◌}
use Rattle.check_types.specs.names.Meaning.{place_of}
use Rattle.check_types.specs.names.Worlds.{table_of}
use Rattle.check_operands.specs.Operands.{texts_of, bases_of}
use Rattle.check_selectors.proofs.parts.Reached.{placed_outlined}
use Rattle.check_selectors.proofs.parts.variables.whole_variable.Goals as goal

pub returns : goal.returns
returns c =
    let s = c.args.scope.now in
    record {
      shape = refl;
      reach = record { at = place_of c.args.v.place; is = refl; placed = c.base.ensures (table_of s) (texts_of s) ∙ placed_outlined (bases_of s) c.args.v.place };
      usage = c.usage.ensures;
    }
