use Rattle.std.proofs.Common.{get_or, refl, subst, Ok, Err, arith}
use Rattle.std.proofs.lemmas.List.{drop_all}
use Rattle.ob_syntax.specs.Plain.{plain_type_decl}
use Rattle.ob_judge.specs.Declarations.{type_decl_part}
use Rattle.check_types.specs.steps.Answers.{Answers}
use Rattle.check_types.proofs.steps.Answering.{exit, Judging, round_on}
use Rattle.check_making.specs.Parts.{Made}
use Rattle.check_making.proofs.Growing.{grows_on}
use Rattle.check_declared.proofs.Parts.{StateMakes}
use Rattle.check_declared.proofs.type_parts.Lists.{types_from, type_item, parts_first, parts_next, parts_stop, parts_done}
use Rattle.check_declared.proofs.type_parts.TidyStates.{tidy_on, s_type_decl}
use Rattle.check_declared.proofs.type_parts.declarations.type_decls.Goals as goal

pub loop-tree-init : goal.loop-tree-init
loop-tree-init c =
    let r = c.args.round.now in
    record {
      stands = c.requires;
      grows = record { entry = λ n e h. h; shape = λ e h. refl };
      legal = λ from m makes tidy. record { so_far = (tt, m); stands = record { makes = makes; tidy = tidy; legal = λ legal. legal }; same = refl };
      judged = λ m makes. parts_first r (type_decl_part r.source.now) plain_type_decl c.args.state.now m makes c.args.trees.now;
    }

pub loop-tree-preserved : goal.loop-tree-preserved
loop-tree-preserved c =
    let r = c.args.round.now in
    let ds = c.args.trees.now in
    record {
      stands = c.in_ok-type_decl.ensures.stands;
      grows = grows_on c.args.state.now.types.table c.loop-tree.state.types.table c.type_decl.new.state.types.table c.loop-tree.invariant.grows c.in_ok-type_decl.ensures.grows;
      legal = λ from m makes tidy.
          round_on (types_from r) (type_item r) (λ a x xs. refl) ds c.loop-tree.tree-index c.tree-item.result c.loop-tree-test.true (c.loop-tree.invariant.legal from m makes tidy)
          (λ a k. tidy_on from r c.args.state.now c.loop-tree.state c.type_decl.new.state (type_item r a (get_or ds c.loop-tree.tree-index c.tree-item.result)) a k
          (subst (λ d. Answers (Made r c.type_decl.new.state) (type_item r a d) (Ok tt)) c.tree-item.is (c.in_ok-type_decl.ensures.judged a.1 k.makes))
          (s_type_decl from r.source.now (plain_type_decl (get_or ds c.loop-tree.tree-index c.tree-item.result)) a.1) (c.in_ok-type_decl.ensures.legal from a.1 k.makes k.tidy));
      judged = λ m makes.
          parts_next r (type_decl_part r.source.now) plain_type_decl (types_from r (tt, m) ds) c.loop-tree.state c.type_decl.new.state ds c.loop-tree.tree-index c.tree-item.result c.loop-tree-test.true (c.loop-tree.invariant.judged m makes)
          (λ n k. subst (λ d. Answers (Made r c.type_decl.new.state) (type_item r (tt, n) d) (Ok tt)) c.tree-item.is (c.in_ok-type_decl.ensures.judged n k));
    }

pub returns-in_err-type_decl-clause-judged : goal.returns-in_err-type_decl-clause-judged
returns-in_err-type_decl-clause-judged c = λ m makes.
    let r = c.args.round.now in
    let ds = c.args.trees.now in
    exit _ c.from_residual.ensures.1
    (parts_stop r (type_decl_part r.source.now) plain_type_decl (types_from r (tt, m) ds) c.loop-tree.state c.type_decl.new.state ds c.loop-tree.tree-index c.tree-item.result _ c.loop-tree-test.true (c.loop-tree.invariant.judged m makes)
    (λ n k. subst (λ d. Answers (Made r c.type_decl.new.state) (type_item r (tt, n) d) (Err c.in_err-type_decl.field-0.0)) c.tree-item.is (c.in_err-type_decl.ensures.judged n k)))

pub returns-clause-judged : goal.returns-clause-judged
returns-clause-judged c = λ m makes.
    let r = c.args.round.now in
    let ds = c.args.trees.now in
    let past = c.loop-tree-test.false in
    parts_done r (type_decl_part r.source.now) plain_type_decl (types_from r (tt, m) ds) c.loop-tree.state
    (subst (Judging (StateMakes r) (types_from r) (types_from r (tt, m) ds) c.loop-tree.state) (drop_all c.loop-tree.tree-index ds (omega (arith, past))) (c.loop-tree.invariant.judged m makes))

pub returns-clause-legal : goal.returns-clause-legal
returns-clause-legal c = λ from m makes tidy. (c.loop-tree.invariant.legal from m makes tidy).stands.legal
