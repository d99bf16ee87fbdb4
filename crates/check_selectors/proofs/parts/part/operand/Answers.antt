use Rattle.std.proofs.Common.{sym, ap, ◌∙◌, subst}
use Rattle.ob_judge.specs.Image as I
use Rattle.ob_judge.specs.Operands as J
use Rattle.judged_tree.specs.TypeShapes.{shape_of_kind}
use Rattle.judged_tree.specs.Plain.{plain_expr, plain_designator, guarded}
use Rattle.check_types.specs.names.Worlds.{table_of}
use Rattle.check_operands.specs.Operands.{texts_of, bases_of, what_image, outlined_what}
use Rattle.check_operands.specs.declared.trees.values.Value.{Value}
use Rattle.check_selectors.specs.parts.Parts.{Reaches, image_in}
use Rattle.check_selectors.specs.declared.parts.part.Reach.{Reach}
use Rattle.check_selectors.proofs.parts.part.operand.Goals as goal
use Rattle.check_selectors.proofs.parts.part.operand.Goals.{in-Named, in-Guarded+in_ok-pointer-in-Guarded}

pub returns : goal.returns
returns c = λ a h.
    let s = c.args.scope.now in
    let t = table_of s in
    let texts = texts_of s in
    elim c.match-reach.branch [
      | in-Named w ↦
          let n = subst (λ (r : Reach). Reaches s r a.what) w.in-Named.is h.reach in
          record { by = record { shape = h.shape; what = ap (what_image t texts) w.what-is ∙ ap J.Named n.placed ∙ ap (outlined_what (bases_of s)) (sym n.is); usage = h.usage } }
      | in-Guarded+in_ok-pointer-in-Guarded w ↦
          let n = subst (λ (r : Reach). Reaches s r a.what) w.in-Guarded.is h.reach in
          let tags = w.in-Guarded.tags in
          record {
            by = record {
              shape = h.shape;
              what = ap (what_image t texts) w.what-is ∙ ap (λ (v : Value). J.Valued (plain_expr t texts v.tree)) w.new-in-Guarded.ensures
                  ∙ ap (λ d. J.Valued (guarded tags (I.Load (plain_designator t texts d)))) w.in_ok-pointer-in-Guarded.ensures.ok
                  ∙ ap (λ d. J.Valued (guarded tags (I.Load d))) (w.designator.ensures t texts)
                  ∙ ap (λ k. J.Valued (guarded tags (I.Load (I.of_type (image_in s w.in-Guarded.place) (shape_of_kind t k))))) w.kind_of.ensures
                  ∙ ap J.Valued n.form ∙ ap (outlined_what (bases_of s)) (sym n.is);
              usage = h.usage;
            };
          }
    ]
