use Rattle.std.proofs.Common.{◌≡◌, ◌∙◌, ap, refl}
use Rattle.ssa_valid.specs.Search.{Marks, marks_of, all_marked}
use Rattle.ssa_valid.specs.Tables.{row_at}
use Rattle.ssa_valid.proofs.Exploring.{falls, exploring_next}
use Rattle.ssa_valid.proofs.search.Search.explore.Goals as goal

mid : goal.In_ok-mark_each → Marks
mid c = record { live = c.loop-block.self.live; pending = c.pop.new.self.items }

is : (c : goal.In_ok-mark_each) → marks_of c.mark_each.new.self ≡ all_marked c.args.maker c.args.value (row_at c.args.sources.now c.in-Some.block) (mid c)
unfolding mid
is c = c.in_ok-mark_each.ensures ∙ ap (λ ns. all_marked c.args.maker c.args.value ns (mid c)) c.at.ensures

pub loop-block-smaller : goal.loop-block-smaller
unfolding mid
loop-block-smaller c = falls c.args.maker c.args.value c.in-Some.block (row_at c.args.sources.now c.in-Some.block) (marks_of c.loop-block.self) (mid c) (marks_of c.mark_each.new.self) refl c.in-Some.ensures.items (is c)

pub loop-block-preserved : goal.loop-block-preserved
unfolding mid
loop-block-preserved c = exploring_next c.args.sources.now c.args.maker c.args.value c.in-Some.block (marks_of c.args.self.now) (marks_of c.loop-block.self) (mid c) (marks_of c.mark_each.new.self) c.loop-block.invariant refl c.in-Some.ensures.items (is c)
