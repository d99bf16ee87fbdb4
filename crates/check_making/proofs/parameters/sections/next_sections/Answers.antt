use Rattle.std.proofs.Common.{◌∙◌, refl, sym, ap, arith}
use Rattle.std.specs.Prelude.{is_none}
use Rattle.check_types.proofs.steps.Answering.{exit, as_judged}
use Rattle.check_making.proofs.Growing.{grows_on}
use Rattle.check_making.proofs.parameters.Answering.{refused}
use Rattle.check_making.proofs.parameters.Rounds.{walk_begins, walk_on, walk_stops, walk_ends}
use Rattle.check_making.proofs.parameters.OneMore.{StandsFor, stands_for, listed_left}
use Rattle.check_making.proofs.parameters.ManySections.{sections_from, section_item, sections_law}
use Rattle.check_making.proofs.parameters.sections.next_sections.Goals as goal

pub section-requires-clause-inside : goal.section-requires-clause-inside
section-requires-clause-inside c = λ is. ap is_none c.loop-tree.invariant.procedure ∙ c.requires.inside is

pub loop-tree-init : goal.loop-tree-init
loop-tree-init c = record {
  stands = c.requires.stands;
  procedure = refl;
  grows = record { entry = λ n e h. h; shape = λ e h. refl };
  legal = λ h. h;
  judged = λ x h m makes.
      walk_begins (StandsFor c.args.round.now) (sections_from c.args.round.now.source.now c.args.known_here) (x, m) (c.args.state.now, c.args.first) c.args.trees.now (record { listed = h; makes = makes });
}

pub loop-tree-preserved : goal.loop-tree-preserved
loop-tree-preserved c =
    let p = c.args.round.now.source.now in
    let k = c.args.known_here in
    record {
      stands = c.in_ok-listed.ensures.stands;
      procedure = c.in_ok-listed.ensures.procedure ∙ c.loop-tree.invariant.procedure;
      grows = grows_on c.args.state.now.types.table c.loop-tree.state.types.table c.section.new.state.types.table c.loop-tree.invariant.grows c.in_ok-listed.ensures.grows;
      legal = λ h. c.in_ok-listed.ensures.legal (c.loop-tree.invariant.legal h);
      judged = λ x h m makes.
          walk_on (sections_from p k) (section_item p k) (sections_law p k) c.args.trees.now c.loop-tree.tree-index c.tree-item.result c.loop-tree-test.true (c.loop-tree.invariant.judged x h m makes)
          (λ a g. as_judged (ap (section_item p k a) (sym c.tree-item.is)) (stands_for _ (c.in_ok-listed.ensures.judged a.0 g.listed a.1 g.makes)));
    }

pub returns-in_err-listed-clause-judged : goal.returns-in_err-listed-clause-judged
returns-in_err-listed-clause-judged c = λ x h m makes.
    let p = c.args.round.now.source.now in
    let k = c.args.known_here in
    exit _ c.from_residual.ensures.1
    (walk_stops (sections_from p k) (section_item p k) (sections_law p k) c.args.trees.now c.loop-tree.tree-index c.tree-item.result c.loop-tree-test.true (c.loop-tree.invariant.judged x h m makes)
    (λ a g. as_judged (ap (section_item p k a) (sym c.tree-item.is)) (refused (c.in_err-listed.ensures.judged a.0 g.listed a.1 g.makes))))

pub returns-clause-judged : goal.returns-clause-judged
returns-clause-judged c = λ x h m makes.
    let past = c.loop-tree-test.false in
    walk_ends (StandsFor c.args.round.now) (sections_from c.args.round.now.source.now c.args.known_here) c.args.trees.now c.loop-tree.tree-index (omega (arith, past)) (c.loop-tree.invariant.judged x h m makes)
    (λ a g. listed_left c.loop-tree.state c.loop-tree.listed a g)
