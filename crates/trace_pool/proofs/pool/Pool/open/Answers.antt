use Rattle.std.proofs.Common.{rules, arith, length, ap, ◌∙◌}
use Rattle.std.specs.Prelude.{Some}
use Rattle.trace_pool.specs.Opened.{opening_words}
use Rattle.trace_pool.proofs.Sharing.{opens_at, opening_length}
use Rattle.trace_pool.proofs.pool.Pool.open.Goals as goal

pub vacant-requires : goal.vacant-requires
vacant-requires g c = opens_at (g.W.Work.parents c.args.work.now) (g.W.Work.is_hint c.args.work.now) (g.W.Work.is_final c.args.work.now) (Some c.args.work.now) _ _ c.requires.tree c.requires.small (c.as_slice-2.ensures.value ∙ (c.in_ok-words.ensures ∙ ap opening_words (c.as_slice.ensures.value ∙ c.in_ok-parents.ensures))) c.count-count.ensures

pub invariant_of-pool : goal.invariant_of-pool
invariant_of-pool g c =
    let P = g.W.Work.parents c.args.work.now in
    let t = c.in_ok-table.ensures in
    let words = ap length (c.as_slice-2.ensures.value ∙ (c.in_ok-words.ensures ∙ ap opening_words (c.as_slice.ensures.value ∙ c.in_ok-parents.ensures))) in
    record {
      sized = omega (arith, t.0, t.1, words, opening_length P, c.count-count.ensures);
      small = omega (arith, t.1, c.count-count.ensures, c.requires.small);
      empty = search rules;
      room = omega (arith, t.1, c.in_ok-results.ensures.capacity);
    }
