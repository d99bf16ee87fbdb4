use Rattle.std.proofs.Common.{sym, map}
use Rattle.placed_code.proofs.Parts.{length_map}
use Rattle.link_words.specs.Fields.{entry_in}
use Rattle.link_blocks.specs.Plans.{block_in}
use Rattle.procedure_code.specs.Holes.{hole_in}
use Rattle.procedure_code.specs.Parts.{entry_at}
use Rattle.procedure_code.proofs.Appended.{block_more, size_more, block_holes_more}
use Rattle.procedure_code.proofs.writing.push_blocks.Goals as goal

pub loop-i-preserved : goal.loop-i-preserved
loop-i-preserved c =
    let a = c.args in
    let l = c.loop-i in
    let p = a.plan.now in
    let E = entry_at a.entries.procedures.now in
    let items = c.as_slice-number-items.result.now in
    record {
      size = size_more E a.entries.routines (entry_in a.places.now) p items p.order l.i c.first_in-next.result _ l.words.items c.push_block.new.words.items _ c.as_slice-number-items.ensures c.loop-i-test.true (sym (length_map block_in p.blocks)) c.first_in-next.ensures c.in_ok-push_block.ensures.words l.invariant.size;
      words = block_more E a.entries.routines (entry_in a.places.now) p items p.order l.i c.first_in-next.result _ l.words.items c.push_block.new.words.items _ c.as_slice-number-items.ensures c.loop-i-test.true (sym (length_map block_in p.blocks)) c.first_in-next.ensures c.in_ok-push_block.ensures.words l.invariant.words;
      holes = block_holes_more E a.entries.routines (entry_in a.places.now) p items p.order l.i c.first_in-next.result _ l.words.items c.push_block.new.words.items (map hole_in l.holes.items) (map hole_in c.push_block.new.holes.items) _ c.as_slice-number-items.ensures c.loop-i-test.true (sym (length_map block_in p.blocks)) c.first_in-next.ensures c.in_ok-push_block.ensures.words c.in_ok-push_block.ensures.holes l.invariant.holes;
    }
