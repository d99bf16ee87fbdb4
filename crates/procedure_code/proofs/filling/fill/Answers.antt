use Rattle.std.proofs.Common.{◌+◌, ◌-◌, map, drop, length, ap, sym, ◌∙◌, arith}
use Rattle.std.specs.Prelude.{slice_set}
use Rattle.procedure_code.specs.Joined.{filled_at}
use Rattle.procedure_code.specs.Parts.{entry_at}
use Rattle.procedure_code.specs.Holes.{hole_in}
use Rattle.procedure_pieces.proofs.Ordered.{length_set}
use Rattle.procedure_code.proofs.Rows.{mapped_more}
use Rattle.procedure_code.proofs.InOrder.{next_in_order}
use Rattle.procedure_code.proofs.filling.fill.Goals as goal

pub overflow_add-at : goal.overflow_add-at
overflow_add-at c =
    let a = c.args in
    let l = c.loop-hole in
    let d = mapped_more hole_in a.holes.now l.hole-index c.hole-item.result c.loop-hole-test.true c.hole-item.is in
    let n = next_in_order 0 (length a.words.now.items - a.from) (hole_in c.hole-item.result) (map hole_in (drop (l.hole-index + 1) a.holes.now)) _ d l.invariant.within in
    let s = n.0 in
    omega (arith, s, c.requires.near, c.requires.behind)

pub word_in-requires-clause-at : goal.word_in-requires-clause-at
word_in-requires-clause-at c =
    let a = c.args in
    let l = c.loop-hole in
    let d = mapped_more hole_in a.holes.now l.hole-index c.hole-item.result c.loop-hole-test.true c.hole-item.is in
    let n = next_in_order 0 (length a.words.now.items - a.from) (hole_in c.hole-item.result) (map hole_in (drop (l.hole-index + 1) a.holes.now)) _ d l.invariant.within in
    let s = n.0 in
    omega (arith, s, c.requires.near, c.requires.behind)

pub index_mut-requires : goal.index_mut-requires
index_mut-requires c =
    let a = c.args in
    let l = c.loop-hole in
    let d = mapped_more hole_in a.holes.now l.hole-index c.hole-item.result c.loop-hole-test.true c.hole-item.is in
    let n = next_in_order 0 (length a.words.now.items - a.from) (hole_in c.hole-item.result) (map hole_in (drop (l.hole-index + 1) a.holes.now)) _ d l.invariant.within in
    let s = n.0 in
    omega (arith, s, c.requires.near, c.requires.behind, l.invariant.size, l.words.ok)

pub loop-hole-preserved : goal.loop-hole-preserved
loop-hole-preserved c =
    let a = c.args in
    let l = c.loop-hole in
    let d = mapped_more hole_in a.holes.now l.hole-index c.hole-item.result c.loop-hole-test.true c.hole-item.is in
    let n = next_in_order 0 (length a.words.now.items - a.from) (hole_in c.hole-item.result) (map hole_in (drop (l.hole-index + 1) a.holes.now)) _ d l.invariant.within in
    let s = n.0 in
    let F = filled_at (entry_at a.entries.procedures.now) a.entries.routines a.from in
    let rest = map hole_in (drop (l.hole-index + 1) a.holes.now) in
    record {
      size = length_set l.words.items (a.from + c.hole-item.result.at) c.word_in.result ∙ l.invariant.size;
      within = n.1;
      words = ap (λ w. F rest (slice_set l.words.items (a.from + c.hole-item.result.at) w)) c.word_in.ensures ∙ sym (ap (λ hs. F hs l.words.items) d) ∙ l.invariant.words;
    }
