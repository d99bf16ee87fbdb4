use Rattle.std.proofs.Common.{◌∷◌, [], ◌∙◌, get_or, refl, sym, ap, subst, arith}
use Rattle.std.specs.Prelude.{is_none}
use Rattle.check_types.proofs.steps.Answering.{exit}
use Rattle.check_types.specs.TypeMeaning.{type_shape}
use Rattle.table_builder.specs.Entries.{IsNumbered}
use Rattle.check_making.specs.Making.{table_of}
use Rattle.check_making.proofs.parameters.Answering.{refused}
use Rattle.check_making.proofs.parameters.Rounds.{walk_begins, walk_on, walk_stops, walk_ends}
use Rattle.check_making.proofs.parameters.OneMore.{StandsFor, parameters_from, parameter_item, parameters_step, stands_for, listed_left, item_as}
use Rattle.check_making.proofs.parameters.parameters.add_more.Goals as goal

pub add_parameter-requires-clause-numbered : goal.add_parameter-requires-clause-numbered
add_parameter-requires-clause-numbered c = subst (λ z. IsNumbered z.table.entries.items c.args.kind.of) (sym c.loop-next.invariant.types) c.requires.numbered

pub add_parameter-requires-clause-inside : goal.add_parameter-requires-clause-inside
add_parameter-requires-clause-inside c = λ is. ap is_none c.loop-next.invariant.procedure ∙ c.requires.inside is

pub loop-next-init : goal.loop-next-init
loop-next-init c =
    let p = c.args.round.now.source.now in
    let shape = type_shape (table_of c.args.state.now) c.args.kind.of in
    record {
      stands = c.requires.stands;
      procedure = refl;
      types = refl;
      judged = λ x h m makes.
          walk_begins (StandsFor c.args.round.now) (parameters_from p c.args.kind.known_here c.args.kind.variable shape) (x, m) (c.args.state.now, c.args.first) c.args.more.now (record { listed = h; makes = makes });
    }

pub loop-next-preserved : goal.loop-next-preserved
loop-next-preserved c =
    let p = c.args.round.now.source.now in
    let k = c.args.kind.known_here in
    let v = c.args.kind.variable in
    let shape = type_shape (table_of c.args.state.now) c.args.kind.of in
    record {
      stands = c.in_ok-listed.ensures.stands;
      procedure = c.in_ok-listed.ensures.procedure ∙ c.loop-next.invariant.procedure;
      types = c.in_ok-listed.ensures.types ∙ c.loop-next.invariant.types;
      judged = λ x h m makes.
          walk_on (parameters_from p k v shape) (parameter_item p k v shape) (parameters_step p k v shape) c.args.more.now c.loop-next.next-index (record { comma = 0; name = 0 }) c.loop-next-test.true (c.loop-next.invariant.judged x h m makes)
          (λ a g. stands_for _ (item_as p k v shape c.loop-next.state c.args.state.now c.args.kind.of c.loop-next.invariant.types a ((get_or c.args.more.now c.loop-next.next-index (record { comma = 0; name = 0 })).name ∷ []) (c.in_ok-listed.ensures.judged a.0 g.listed a.1 g.makes)));
    }

pub returns-in_err-listed-clause-judged : goal.returns-in_err-listed-clause-judged
returns-in_err-listed-clause-judged c = λ x h m makes.
    let p = c.args.round.now.source.now in
    let k = c.args.kind.known_here in
    let v = c.args.kind.variable in
    let shape = type_shape (table_of c.args.state.now) c.args.kind.of in
    exit _ c.from_residual.ensures.1
    (walk_stops (parameters_from p k v shape) (parameter_item p k v shape) (parameters_step p k v shape) c.args.more.now c.loop-next.next-index (record { comma = 0; name = 0 }) c.loop-next-test.true (c.loop-next.invariant.judged x h m makes)
    (λ a g. refused (item_as p k v shape c.loop-next.state c.args.state.now c.args.kind.of c.loop-next.invariant.types a ((get_or c.args.more.now c.loop-next.next-index (record { comma = 0; name = 0 })).name ∷ []) (c.in_err-listed.ensures.judged a.0 g.listed a.1 g.makes))))

pub returns-clause-judged : goal.returns-clause-judged
returns-clause-judged c = λ x h m makes.
    let p = c.args.round.now.source.now in
    let shape = type_shape (table_of c.args.state.now) c.args.kind.of in
    let past = c.loop-next-test.false in
    walk_ends (StandsFor c.args.round.now) (parameters_from p c.args.kind.known_here c.args.kind.variable shape) c.args.more.now c.loop-next.next-index (omega (arith, past)) (c.loop-next.invariant.judged x h m makes)
    (λ a g. listed_left c.loop-next.state c.loop-next.listed a g)
