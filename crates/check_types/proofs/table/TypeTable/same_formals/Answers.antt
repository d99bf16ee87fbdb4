use Rattle.std.proofs.Common.{◌≡◌, ◌+◌, ◌<◌, ◌&&◌, length, ap, ◌∙◌, arith, drop}
use Rattle.ob_judge.specs.Shapes.{same_formals}
use Rattle.judged_tree.specs.TypeShapes.{shapes_of, formals_shape}
use Rattle.check_types.proofs.Rounds.{formals_more, formals_longer, formals_end}
use Rattle.check_types.proofs.table.TypeTable.same_formals.Goals as goal

pub returns-in-None : goal.returns-in-None
returns-in-None c = c.loop-i.invariant.0 ∙ formals_longer (shapes_of c.args.self.now.types) c.args.a.now c.args.b.now c.loop-i.i c.loop-i-test.true c.in-None.ensures.lookup.3

pub returns-then-not-same_formal : goal.returns-then-not-same_formal
returns-then-not-same_formal c =
    c.loop-i.invariant.0
    ∙ formals_more (shapes_of c.args.self.now.types) c.args.a.now c.args.b.now c.loop-i.i _ c.in-Some.y.now c.loop-i-test.true (omega (arith, c.in-Some.ensures.lookup.3.0)) c.in-Some.ensures.lookup.1
    ∙ ap (λ t. t && same_formals (formals_shape (shapes_of c.args.self.now.types) (drop (c.loop-i.i + 1) c.args.a.now)) (formals_shape (shapes_of c.args.self.now.types) (drop (c.loop-i.i + 1) c.args.b.now))) (c.same_formal.ensures ∙ c.if-not-same_formal.true)

pub loop-i-preserved : goal.loop-i-preserved
loop-i-preserved c =
    let lt : c.loop-i.i < length c.args.b.now = omega (arith, c.in-Some.ensures.lookup.3.0) in (
      c.loop-i.invariant.0
          ∙ formals_more (shapes_of c.args.self.now.types) c.args.a.now c.args.b.now c.loop-i.i _ c.in-Some.y.now c.loop-i-test.true lt c.in-Some.ensures.lookup.1
          ∙ ap (λ t. t && same_formals (formals_shape (shapes_of c.args.self.now.types) (drop (c.loop-i.i + 1) c.args.a.now)) (formals_shape (shapes_of c.args.self.now.types) (drop (c.loop-i.i + 1) c.args.b.now))) (c.same_formal.ensures ∙ c.if-not-same_formal.false),
      omega (arith, lt),
    )

pub returns : goal.returns
returns c =
    let e : c.loop-i.i ≡ length c.args.a.now = omega (arith, c.loop-i-test.false, c.loop-i.auto.i-end) in
    c.loop-i.invariant.0
    ∙ ap (λ k. same_formals (formals_shape (shapes_of c.args.self.now.types) (drop k c.args.a.now)) (formals_shape (shapes_of c.args.self.now.types) (drop k c.args.b.now))) e
    ∙ formals_end (shapes_of c.args.self.now.types) c.args.a.now c.args.b.now (omega (arith, e, c.loop-i.invariant.1))
