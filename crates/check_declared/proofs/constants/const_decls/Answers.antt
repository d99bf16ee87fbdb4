use Rattle.std.proofs.Common.{◌∙◌, refl, subst, Ok, Err, arith}
use Rattle.std.proofs.lemmas.List.{drop_all}
use Rattle.check_types.specs.steps.Answers.{Answers}
use Rattle.check_types.proofs.steps.Answering.{exit, Judging}
use Rattle.check_making.specs.Parts.{Made}
use Rattle.check_declared.proofs.Parts.{StateMakes}
use Rattle.check_declared.proofs.Consts.{consts_from, const_item, consts_first, consts_next, consts_stop, consts_done}
use Rattle.check_declared.proofs.constants.const_decls.Goals as goal

pub loop-tree-init : goal.loop-tree-init
loop-tree-init c = record { settled = c.requires; types = refl; judged = λ m makes. consts_first c.args.round.now c.args.state.now m makes c.args.trees.now }

pub loop-tree-preserved : goal.loop-tree-preserved
loop-tree-preserved c =
    let r = c.args.round.now in
    let ds = c.args.trees.now in
    record {
      settled = c.in_ok-const_decl.ensures.settled;
      types = c.in_ok-const_decl.ensures.types ∙ c.loop-tree.invariant.types;
      judged = λ m makes.
          consts_next r (consts_from r (tt, m) ds) c.loop-tree.state c.const_decl.new.state ds c.loop-tree.tree-index c.tree-item.result c.loop-tree-test.true (c.loop-tree.invariant.judged m makes)
          (λ n k. subst (λ d. Answers (Made r c.const_decl.new.state) (const_item r (tt, n) d) (Ok tt)) c.tree-item.is (c.in_ok-const_decl.ensures.judged n k));
    }

pub returns-in_err-const_decl-clause-judged : goal.returns-in_err-const_decl-clause-judged
returns-in_err-const_decl-clause-judged c = λ m makes.
    let r = c.args.round.now in
    let ds = c.args.trees.now in
    exit _ c.from_residual.ensures.1
    (consts_stop r (consts_from r (tt, m) ds) c.loop-tree.state c.const_decl.new.state ds c.loop-tree.tree-index c.tree-item.result _ c.loop-tree-test.true (c.loop-tree.invariant.judged m makes)
    (λ n k. subst (λ d. Answers (Made r c.const_decl.new.state) (const_item r (tt, n) d) (Err c.in_err-const_decl.field-0.0)) c.tree-item.is (c.in_err-const_decl.ensures.judged n k)))

pub returns-clause-judged : goal.returns-clause-judged
returns-clause-judged c = λ m makes.
    let r = c.args.round.now in
    let ds = c.args.trees.now in
    let past = c.loop-tree-test.false in
    consts_done r (consts_from r (tt, m) ds) c.loop-tree.state
    (subst (Judging (StateMakes r) (consts_from r) (consts_from r (tt, m) ds) c.loop-tree.state) (drop_all c.loop-tree.tree-index ds (omega (arith, past))) (c.loop-tree.invariant.judged m makes))
