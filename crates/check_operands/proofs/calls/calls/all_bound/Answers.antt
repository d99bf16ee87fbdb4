use Rattle.std.proofs.Common.{◌≡◌, ◌+◌, ◌++◌, [], ◌∷◌, List, length, drop, get_or, Vec, Global, sym, ap, ◌∙◌, subst, false}
use Rattle.std.proofs.lemmas.List.{nil_from_length}
use Rattle.std.specs.Vec.Iter.{into_iter_items}
use Rattle.ob_types.specs.declared.types.Formal.{Formal}
use Rattle.ob_types.specs.declared.types.Mode.TheVariants.{Value}
use Rattle.ob_types.specs.declared.tree.Argument.{Argument}
use Rattle.ob_judge.specs.Calls as J
use Rattle.judged_tree.specs.TypeShapes.{shapes_of, shape_at, formals_shape}
use Rattle.check_types.proofs.steps.Answering.{exit, as_judged}
use Rattle.check_types.specs.names.Worlds.{table_of, world_of}
use Rattle.check_operands.specs.calls.Given.{AreGiven}
use Rattle.check_operands.specs.declared.calls.arguments.Given.{Given}
use Rattle.check_operands.proofs.calls.Binding.{Binding, rebind, binding_begins, binding_more, binding_stops, binding_idle, binding_ends, formals_next, formals_done}
use Rattle.check_operands.proofs.calls.calls.all_bound.Goals as goal
use Rattle.check_operands.proofs.calls.calls.all_bound.Goals.{in-Some+in_ok-argument+in_ok-push, in_default}

abbrev no_formal : Formal
no_formal = record { mode = Value; variable = false; type_number = 0 }

pub loop-formal-init : goal.loop-formal-init
loop-formal-init c = λ xs h.
    let s = c.args.scope.now in
    binding_begins s (world_of s) (formals_shape (shapes_of (table_of s)) c.args.formals.now) (into_iter_items c.into_iter-rest.result) c.new-arguments.result.items xs c.new-arguments.ensures.items
    (subst (λ (l : List Given). AreGiven s l xs) (sym c.into_iter-rest.ensures.rest) h)

pub returns-in_err-argument : goal.returns-in_err-argument
returns-in_err-argument c = λ xs h.
    let s = c.args.scope.now in
    let i = c.loop-formal.formal-index in
    let shapes = shapes_of (table_of s) in
    let formal = get_or c.args.formals.now i no_formal in
    exit _ c.from_residual.ensures.1
    (binding_stops s (world_of s) formal.variable (shape_at shapes formal.type_number) (formals_shape shapes (drop (i + 1) c.args.formals.now))
    (rebind (formals_next shapes c.args.formals.now i no_formal c.loop-formal-test.true) c.in-Some.ensures.items (c.loop-formal.invariant xs h))
    (λ a g. as_judged (ap (λ z. J.bound (world_of s) formal.variable z a) (sym c.entry-to.ensures)) (c.in_err-argument.ensures a g)))

pub loop-formal-preserved : goal.loop-formal-preserved
loop-formal-preserved c = λ xs h.
    let s = c.args.scope.now in
    let i = c.loop-formal.formal-index in
    let shapes = shapes_of (table_of s) in
    let formal = get_or c.args.formals.now i no_formal in
    let next = formals_shape shapes (drop (i + 1) c.args.formals.now) in
    let formals = formals_next shapes c.args.formals.now i no_formal c.loop-formal-test.true in
    elim c.match-next.branch [
      | in-Some+in_ok-argument+in_ok-push w ↦ binding_more s (world_of s) formal.variable (shape_at shapes formal.type_number) next
          (rebind formals w.in-Some.ensures.items (c.loop-formal.invariant xs h))
          (λ a g. as_judged (ap (λ z. J.bound (world_of s) formal.variable z a) (sym w.entry-to.ensures)) (w.in_ok-argument.ensures a g))
          (ap (λ (v : Vec Argument Global). v.items) w.arguments-is ∙ w.in_ok-push.ensures.items)
      | in_default w ↦
          let none : into_iter_items c.loop-formal.rest ≡ [] = nil_from_length _ (sym c.loop-formal.rest.rest.ok.0 ∙ w.in_default.ensures.cases.0) in
          subst (λ (v : Vec Argument Global). Binding s (world_of s) next (into_iter_items c.next.new.self) v.items (J.all_bound (world_of s) (formals_shape shapes c.args.formals.now) xs)) (sym w.arguments-is)
          (subst (λ (l : List Given). Binding s (world_of s) next l c.loop-formal.arguments.items (J.all_bound (world_of s) (formals_shape shapes c.args.formals.now) xs)) (sym none ∙ w.in_default.ensures.items)
          (binding_idle s (world_of s) formal.variable (shape_at shapes formal.type_number) next (rebind formals none (c.loop-formal.invariant xs h))))
    ]

pub returns : goal.returns
returns c = λ xs h.
    let s = c.args.scope.now in
    binding_ends s (world_of s)
    (subst (λ ps. Binding s (world_of s) ps (into_iter_items c.loop-formal.rest) c.loop-formal.arguments.items (J.all_bound (world_of s) (formals_shape (shapes_of (table_of s)) c.args.formals.now) xs))
    (formals_done (shapes_of (table_of s)) c.args.formals.now c.loop-formal.formal-index c.loop-formal-test.false) (c.loop-formal.invariant xs h))
