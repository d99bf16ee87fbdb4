use Rattle.std.proofs.Common.{◌∙◌, ap, ◌++◌, ◌∷◌, []}
use Rattle.std.specs.Vec.Iter.{into_iter_items}
use Rattle.a64_select.proofs.Taken.{taken_more}
use Rattle.a64_select.proofs.selecting.block_nodes.Goals as goal

pub loop-block-preserved : goal.loop-block-preserved
loop-block-preserved c =
    let l = c.loop-block in
    taken_more c.args.joins.now c.args.blocks.items l.yielded (into_iter_items l.block-iterator) (into_iter_items c.next.new.self) l.next c.behind_end-further.result l.nodes.items c.push.new.self.items c.in-Some.block l.invariant
    c.in-Some.ensures.steps.0 c.behind_end-further.ensures (c.in_ok-push.ensures.items ∙ ap (λ node. l.nodes.items ++ node ∷ []) c.in_ok-node_from.ensures)
