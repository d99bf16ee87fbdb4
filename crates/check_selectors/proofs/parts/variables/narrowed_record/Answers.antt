use Rattle.std.proofs.Common.{◌≡◌, refl, ap, ◌∙◌}
use Rattle.ob_judge.specs.Image.{Narrow}
use Rattle.check_types.specs.names.Meaning.{place_of}
use Rattle.check_types.specs.names.Worlds.{table_of}
use Rattle.check_operands.specs.Operands.{texts_of, bases_of}
use Rattle.check_selectors.proofs.parts.Reached.{placed_outlined}
use Rattle.check_selectors.proofs.parts.variables.narrowed_record.Goals as goal

pub returns : goal.returns
returns c =
    let s = c.args.scope.now in
    record {
      by = record {
        shape = refl;
        reach = record { at = Narrow (place_of c.args.v.place) c.args.n.tag; is = refl; placed = c.in_ok-at.ensures (table_of s) (texts_of s) ∙ ap (λ d. Narrow d c.args.n.tag) (c.base.ensures (table_of s) (texts_of s) ∙ placed_outlined (bases_of s) c.args.v.place) };
        usage = refl;
      };
    }
