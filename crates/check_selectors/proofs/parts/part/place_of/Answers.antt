use Rattle.std.proofs.Common.{sym, ap, ◌∙◌, subst}
use Rattle.ob_judge.specs.Operands.{place_in}
use Rattle.judged_tree.specs.Outline.{outlined_place}
use Rattle.check_operands.specs.Operands.{bases_of}
use Rattle.check_selectors.specs.parts.Parts.{Reaches}
use Rattle.check_selectors.specs.declared.parts.part.Reach.{Reach}
use Rattle.check_selectors.proofs.parts.part.place_of.Goals as goal

pub returns-in-Named : goal.returns-in-Named
returns-in-Named c = λ a h.
    let s = c.args.scope.now in
    let n = subst (λ (r : Reach). Reaches s r a.what) c.in-Named.is h in
    n.placed ∙ ap (λ w. outlined_place (bases_of s) (place_in w)) (sym n.is)

pub returns : goal.returns
returns c = λ a h.
    let s = c.args.scope.now in
    let n = subst (λ (r : Reach). Reaches s r a.what) c.in-Guarded.is h in
    ap (λ w. outlined_place (bases_of s) (place_in w)) (sym n.is)
