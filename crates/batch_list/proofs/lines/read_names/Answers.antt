use Rattle.std.proofs.Common.{refl}
use Rattle.std.proofs.lemmas.List.{length-map}
use Rattle.batch_list.proofs.Reading.{names_more, seen_at}
use Rattle.batch_list.proofs.lines.read_names.Goals as goal

pub loop-i-preserved : goal.loop-i-preserved
loop-i-preserved c =
    names_more _ _ _ c.loop-i.i c.in_ok-copy_of.field-0 _ c.loop-i.invariant.0 c.loop-i.invariant.1
    (simp length-map c.loop-i-test.true)
    (seen_at (λ w. w.now) c.args.words.now c.loop-i.i _ refl) c.in_ok-copy_of.ensures c.if-word-eq0.false c.in_ok-push.ensures.items
