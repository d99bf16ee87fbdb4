use Rattle.std.proofs.Common.{sym, ap, ◌∙◌, w64}
use Rattle.std.specs.Prelude.{int_le}
use Rattle.std.proofs.lemmas.Int.{to_z-of_z}
use Rattle.check_statements.specs.ranges.Ranges.{last_within}
use Rattle.check_statements.proofs.ranges.Apart.{goes_up_to, overlaps_last}
use Rattle.check_statements.proofs.ranges.ranges.LabelRanges.overlaps.Goals as goal

pub returns-in-None : goal.returns-in-None
returns-in-None c = λ ts h.
    h.same c.args.low c.args.high
    ∙ overlaps_last c.args.low c.args.high c.args.self.now h.apart
    ∙ ap (λ n. goes_up_to c.args.low (last_within n c.args.self.now)) (sym (to_z-of_z w64 c.args.high c.ranges.high))
    ∙ ap (goes_up_to c.args.low) (sym c.in-None.ensures)

pub returns-in-Some : goal.returns-in-Some
returns-in-Some c = λ ts h.
    h.same c.args.low c.args.high
    ∙ overlaps_last c.args.low c.args.high c.args.self.now h.apart
    ∙ ap (λ n. goes_up_to c.args.low (last_within n c.args.self.now)) (sym (to_z-of_z w64 c.args.high c.ranges.high))
    ∙ ap (goes_up_to c.args.low) (sym c.in-Some.ensures)
    ∙ ap (λ n. int_le n c.in-Some.end.now) (sym (to_z-of_z w64 c.args.low c.ranges.low))
    ∙ sym c.reaches.ensures
