use Rattle.std.proofs.Common.{not, ◌&&◌, [], ◌∷◌, ◌++◌, sym, ap, ap₂, ◌∙◌, subst, w64}
use Rattle.std.specs.Prelude.{int_le}
use Rattle.std.proofs.lemmas.Int.{to_z-of_z}
use Rattle.ob_judge.specs.Cases.{overlaps, value_label}
use Rattle.check_types.specs.names.Worlds.{world_of}
use Rattle.check_statements.specs.ranges.Ranges.{AreRanges}
use Rattle.check_statements.proofs.cases.Labelling.{ends_kept}
use Rattle.check_statements.proofs.cases.labels.with_ends.Goals as goal

pub returns-in_ok-push : goal.returns-in_ok-push
returns-in_ok-push c = λ a h.
    let l = to_z-of_z w64 c.args.low c.ranges.low in
    let u = to_z-of_z w64 c.args.high c.ranges.high in
    ends_kept c.args.scope.now.source.now (world_of c.args.scope.now) _ c.args.low c.args.high c.args.tree.now a _
    (ap₂ (λ i j. int_le i j && not (overlaps i j a.taken)) (sym l) (sym u) ∙ c.in_ok-add.ensures.fits a.taken h.taken ∙ c.if-branch.true)
    (c.in_ok-push.ensures.ok ∙ ap (λ v. c.args.so_far.labels ++ v ∷ []) (c.value_label.ensures ∙ ap₂ (λ i j. value_label i j c.args.tree.now) l u) ∙ ap (λ ls. ls ++ value_label c.args.low c.args.high c.args.tree.now ∷ []) h.labels)
    (subst (λ r. AreRanges c.add.new.self (r ∷ a.taken)) (ap₂ (λ i j. (i, j)) l u) (c.in_ok-add.ensures.added a.taken h.taken c.if-branch.true))
