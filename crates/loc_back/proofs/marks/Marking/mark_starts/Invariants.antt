use Rattle.std.proofs.Common.{◌≡◌, drop}
use Rattle.loc_back.specs.Marks.{starts_marked}
use Rattle.loc_back.proofs.GivenHomes.{given_from, start_marks}
use Rattle.loc_back.proofs.marks.Marking.mark_starts.Given as goal

abbrev pub invariant-loop-at : goal.invariant-loop-at
invariant-loop-at l =
    given_from (start_marks l.self.flow.now l.self.live.now l.self.homed.now) l.at (drop l.at l.nodes) l.places
    ≡ starts_marked l.self.flow.now l.self.live.now l.self.homed.now l.nodes l.initial.places
