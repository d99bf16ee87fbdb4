use Rattle.std.proofs.lemmas.Result.{on_ok_weaker}
use Rattle.simple_policies.proofs.plain.Marking.{marks_both}
use Rattle.simple_policies.proofs.plain.homed.mark_both.Goals as goal

pub returns : goal.returns
returns c =
    on_ok_weaker c.insert_live-2.result
    (marks_both c.args.values c.args.live.now c.args.yes c.args.no c.args.marks.now c.insert_live.new.self c.insert_live-2.new.self c.in_ok-insert_live.ensures)
    c.insert_live-2.ensures
