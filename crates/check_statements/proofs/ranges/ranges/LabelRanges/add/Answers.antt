use Rattle.std.proofs.Common.{◌≡◌, false, sym, ap, ap₂, ◌∙◌, subst, w64, arith, ◌∷◌, int_cmp}
use Rattle.std.specs.BTreeMap.{insert_entry}
use Rattle.std.proofs.lemmas.Int.{to_z-of_z, ints}
use Rattle.ob_judge.specs.Cases.{overlaps}
use Rattle.check_statements.specs.ranges.Ranges.{AreRanges}
use Rattle.check_statements.proofs.ranges.Apart.{inserted}
use Rattle.check_statements.proofs.ranges.ranges.LabelRanges.add.Goals as goal

pub returns-in_ok-insert-clause-added : goal.returns-in_ok-insert-clause-added
returns-in_ok-insert-clause-added c = λ ts h t.
    let l = to_z-of_z w64 c.args.low c.ranges.low in
    let u = to_z-of_z w64 c.args.high c.ranges.high in
    let k : overlaps c.args.low c.args.high ts ≡ false = ap₂ (λ a b. overlaps a b ts) (sym l) (sym u) ∙ c.overlaps.ensures ts h ∙ c.if-not-overlaps.true in
    subst (λ es. AreRanges es ((c.args.low, c.args.high) ∷ ts))
    (ap (λ es. insert_entry int_cmp es c.args.low c.args.high) (sym c.self.view_is) ∙ ap₂ (insert_entry int_cmp c.self.inside.ranges.entries) (sym l) (sym u) ∙ sym c.in_ok-insert.ensures.entries)
    (inserted c.args.low c.args.high c.args.self.now ts h (grind (arith, ints)) k)
