use Rattle.std.proofs.Common.{◌≡◌, [], ◌∷◌, ◌++◌, refl, ap, ◌∙◌}
use Rattle.ob_judge.specs.Image.{Load, of_type}
use Rattle.judged_tree.specs.Plain.{pointer_at}
use Rattle.check_types.specs.TypeMeaning.{type_shape}
use Rattle.check_types.specs.names.Meaning.{place_of}
use Rattle.check_types.specs.names.Worlds.{table_of}
use Rattle.check_operands.specs.declared.trees.places.Place.TheVariants.{Whole}
use Rattle.check_operands.specs.Operands.{texts_of, bases_of}
use Rattle.check_selectors.proofs.parts.Reached.{placed_outlined, load_is, guard_more}
use Rattle.check_selectors.proofs.parts.variables.narrowed_pointer.Goals as goal

pub returns : goal.returns
returns c =
    let s = c.args.scope.now in
    let e = c.base.ensures (table_of s) (texts_of s) ∙ placed_outlined (bases_of s) c.args.v.place in
    record {
      by = record {
        shape = refl;
        reach = guard_more s (Whole c.base.result) c.args.v.of [] _ c.args.n.tag (Load (of_type (place_of c.args.v.place) (type_shape (table_of s) c.args.v.of)))
            (c.in_ok-push.ensures.ok ∙ ap (λ l. l ++ c.args.n.tag ∷ []) c.new-tags.ensures)
            (load_is s (Whole c.base.result) c.args.v.of (place_of c.args.v.place) (type_shape (table_of s) c.args.v.of) e refl)
            (ap pointer_at e);
        usage = refl;
      };
    }
