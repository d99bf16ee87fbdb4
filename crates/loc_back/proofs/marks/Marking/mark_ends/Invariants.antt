use Rattle.std.proofs.Common.{◌≡◌, drop}
use Rattle.loc_back.specs.Marks.{ends_marked}
use Rattle.loc_back.proofs.GivenHomes.{given_from, end_marks}
use Rattle.loc_back.proofs.marks.Marking.mark_ends.Given as goal

abbrev pub invariant-loop-at : goal.invariant-loop-at
invariant-loop-at l =
    given_from (end_marks l.self.flow.now l.self.live.now l.self.homed.now) l.at (drop l.at l.nodes) l.places
    ≡ ends_marked l.self.flow.now l.self.live.now l.self.homed.now l.nodes l.initial.places
