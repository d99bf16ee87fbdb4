use Rattle.std.proofs.Common.{◌≤◌, [], ◌∷◌, ◌++◌, length, take, refl, sym, subst, arith}
use Rattle.ob_syntax.specs.declared.declarations.ProcedureDecl.{ProcedureDecl, out-ProcedureDecl}
use Rattle.judged_modules.specs.steps.Procedures.{plain_procedure}
use Rattle.later_bodies.specs.Walked.{one_by_one}
use Rattle.check_making.proofs.Growing.{grows_on}
use Rattle.check_bodies.specs.Settled.{AllFit}
use Rattle.check_bodies.specs.Walked.{Walked}
use Rattle.check_bodies.proofs.Taken.{one_taken, all_taken}
use Rattle.check_bodies.proofs.Walking.{first_walked}
use Rattle.check_bodies.proofs.turns.put_off_all.Goals as goal

pub loop-next-init : goal.loop-next-init
loop-next-init c =
    let none = c.new-bodies.ensures.items in
    record {
      between = c.requires.between;
      later = record { grows = record { entry = λ n e h. h; shape = λ e h. refl }; few = c.requires.few.few };
      fit = subst (AllFit c.args.state.now) (sym none) tt;
      many = subst (λ xs. length xs ≤ 0) (sym none) (omega arith);
      walked = λ k m names represents between. subst (Walked c.args.round.now k m [] c.args.state.now) (sym none) (first_walked c.args.round.now k c.args.state.now m names represents between);
      legal = λ k m names represents between l. l;
    }

pub loop-next-preserved : goal.loop-next-preserved
loop-next-preserved c =
    let r = c.args.round.now in
    let e = c.in_ok-one_more.ensures in
    let i = c.loop-next.invariant in
    let xs = c.args.trees.now in
    let n = c.loop-next.next-index in
    let x = c.next-item.result in
    record {
      between = e.between;
      later = record { grows = grows_on c.args.state.now.declaring.types.table c.loop-next.state.declaring.types.table c.one_more.new.state.declaring.types.table i.later.grows e.later.grows; few = e.later.few };
      fit = e.fit;
      many = (let a = i.many in let b = e.many in omega (arith, a, b));
      walked = λ k m names represents between.
          subst (λ qs. Walked r k m qs c.one_more.new.state c.one_more.new.bodies.items) (sym (one_taken xs n x c.loop-next-test.true))
          (subst (λ (y : ProcedureDecl). Walked r k m (one_by_one (take n xs) ++ plain_procedure (out-ProcedureDecl y).procedure ∷ []) c.one_more.new.state c.one_more.new.bodies.items) c.next-item.is
          (e.walked k m (one_by_one (take n xs)) (i.walked k m names represents between)));
      legal = λ k m names represents between l.
          let w = i.walked k m names represents between in
          e.legal k w.making w.represents w.between.upright (i.legal k m names represents between l);
    }

pub returns-clause-many : goal.returns-clause-many
returns-clause-many c = let a = c.loop-next.invariant.many in let b = c.loop-next.auto.next-index-end in omega (arith, a, b)

pub returns-clause-walked : goal.returns-clause-walked
returns-clause-walked c = λ k m names represents between.
    subst (λ xs. Walked c.args.round.now k m (one_by_one xs) c.loop-next.state c.loop-next.bodies.items) (all_taken c.args.trees.now c.loop-next.next-index c.loop-next-test.false)
    (c.loop-next.invariant.walked k m names represents between)
