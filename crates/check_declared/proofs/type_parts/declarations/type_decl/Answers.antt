use Rattle.std.proofs.Common.{[], ◌∷◌, sym, subst}
use Rattle.ob_syntax.specs.Plain.{plain_type}
use Rattle.ob_judge.specs.Shapes.{Shape}
use Rattle.ob_judge.specs.Scopes.{AType}
use Rattle.ob_judge.specs.Parameters.{stand, declared}
use Rattle.ob_judge.specs.Types.{type_part}
use Rattle.check_types.specs.steps.Answers.{Answers}
use Rattle.check_types.proofs.steps.Answering.{exit, stop, goes_on}
use Rattle.table_builder.specs.Growing.{Grows}
use Rattle.check_making.specs.Making.{strings_of}
use Rattle.check_making.specs.Parts.{Made}
use Rattle.check_making.proofs.parameters.Stages.{stands_made, stands_by_made, came}
use Rattle.check_declared.proofs.type_parts.States.{all_ok}
use Rattle.check_declared.proofs.type_parts.NamedTypes.{type_stays, type_declared}
use Rattle.judged_modules.proofs.Keeping.{given}
use Rattle.judged_programs.proofs.Tidy.{s_stand}
use Rattle.legal_tables.specs.Promised.{HasLegalTypes}
use Rattle.check_making.proofs.parameters.Rounds.{settled}
use Rattle.check_declared.proofs.type_parts.declarations.type_decl.Goals as goal

pub type_of-requires : goal.type_of-requires
type_of-requires c = stands_made c.requires c.in_ok-stand.ensures.settled c.in_ok-stand.ensures.judged

pub declare-requires-clause-stays : goal.declare-requires-clause-stays
declare-requires-clause-stays c =
    let old = stands_made c.requires c.in_ok-stand.ensures.settled c.in_ok-stand.ensures.judged in
    type_stays c.type_of.new.state.types.table (strings_of c.type_of.new.state) c.in_ok-of.of ((came old c.in_ok-of.ensures.judged).1).element

pub declare-requires-clause-typed : goal.declare-requires-clause-typed
declare-requires-clause-typed c =
    let old = stands_made c.requires c.in_ok-stand.ensures.settled c.in_ok-stand.ensures.judged in
    type_declared c.type_of.new.state.types c.in_ok-of.ensures.stands.settled.built c.in_ok-of.of ((came old c.in_ok-of.ensures.judged).1).element

pub returns-in_err-stand-clause-judged : goal.returns-in_err-stand-clause-judged
returns-in_err-stand-clause-judged c = λ m makes.
    exit _ c.from_residual.ensures.1 (stop (stand c.args.round.now.source.now (c.args.tree.now.name.name ∷ []) m) _ (c.in_err-stand.ensures.judged m makes))

pub returns-in_err-of-clause-judged : goal.returns-in_err-of-clause-judged
returns-in_err-of-clause-judged c = λ m makes.
    let p = c.args.round.now.source.now in
    exit _ c.from_residual-in_err-of.ensures.1
    (goes_on (stand p (c.args.tree.now.name.name ∷ []) m) _ (c.in_ok-stand.ensures.judged m makes) (λ a made.
    stop (type_part p (plain_type c.args.tree.now.is) a.1) _ (c.in_err-of.ensures.judged a.1 made.makes)))

pub returns-clause-judged : goal.returns-clause-judged
returns-clause-judged c = λ m makes.
    let r = c.args.round.now in
    let p = r.source.now in
    let new = c.declare.new.self in
    goes_on (stand p (c.args.tree.now.name.name ∷ []) m) _ (c.in_ok-stand.ensures.judged m makes) (λ a made.
    goes_on (type_part p (plain_type c.args.tree.now.is) a.1) _ (c.in_ok-of.ensures.judged a.1 made.makes) (λ s g.
    subst (λ (z : Shape). Answers (Made r new) (declared p c.args.tree.now.name (AType z) s.1) c.declare.result) g.value.shape_is (c.declare.ensures.judged s.1 g.makes)))

pub returns-clause-stands : goal.returns-clause-stands
returns-clause-stands c = stands_by_made c.requires c.declare.result c.declare.ensures.settled (returns-clause-judged c)

pub returns-clause-grows : goal.returns-clause-grows
returns-clause-grows c =
    all_ok c.declare.result (subst (λ z. Grows c.args.state.now.types.table z.table) (sym c.declare.ensures.types) (subst (λ z. Grows z.table c.type_of.new.state.types.table) c.in_ok-stand.ensures.types c.in_ok-of.ensures.grows))

pub returns-clause-legal : goal.returns-clause-legal
returns-clause-legal c = λ from m makes tidy.
    let p = c.args.round.now.source.now in
    let u = settled (stand p (c.args.tree.now.name.name ∷ []) m) (c.in_ok-stand.ensures.judged m makes) in
    let left = (given u.0 (s_stand p {from = from} {Before = Unit {0}} (c.args.tree.now.name.name ∷ []) m) u.1).tidy tt tidy in
    all_ok c.declare.result (λ legal.
    subst (λ z. HasLegalTypes z.table) (sym c.declare.ensures.types) (c.in_ok-of.ensures.legal from (u.0).1 (u.2).makes left.0 (subst (λ z. HasLegalTypes z.table) (sym c.in_ok-stand.ensures.types) legal)))
