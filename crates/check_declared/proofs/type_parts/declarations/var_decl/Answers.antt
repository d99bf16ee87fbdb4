use Rattle.std.proofs.Common.{sym, subst}
use Rattle.ob_syntax.specs.Plain.{plain_type, plain_idents}
use Rattle.ob_judge.specs.Shapes.{Shape}
use Rattle.ob_judge.specs.Parameters.{stand, symbols_of, idents_list}
use Rattle.ob_judge.specs.Types.{type_part}
use Rattle.check_types.specs.steps.Answers.{Answers}
use Rattle.check_types.proofs.steps.Answering.{exit, stop, goes_on}
use Rattle.table_builder.specs.Growing.{Grows}
use Rattle.check_making.specs.Parts.{Made}
use Rattle.check_declared.specs.Variables.{variables_part}
use Rattle.check_making.proofs.parameters.Stages.{stands_made, stands_by_made, came, on_ok}
use Rattle.judged_modules.proofs.Keeping.{given}
use Rattle.judged_programs.proofs.Tidy.{s_stand}
use Rattle.legal_tables.specs.Promised.{HasLegalTypes}
use Rattle.check_making.proofs.parameters.Rounds.{settled}
use Rattle.check_declared.proofs.type_parts.declarations.var_decl.Goals as goal

pub type_of-requires : goal.type_of-requires
type_of-requires c = stands_made c.requires c.in_ok-stand_listed.ensures.settled c.in_ok-stand_listed.ensures.judged

pub listed_variables-requires-clause-element : goal.listed_variables-requires-clause-element
listed_variables-requires-clause-element c =
    let old = stands_made c.requires c.in_ok-stand_listed.ensures.settled c.in_ok-stand_listed.ensures.judged in
    ((came old c.in_ok-of.ensures.judged).1).element

pub returns-in_err-stand_listed-clause-judged : goal.returns-in_err-stand_listed-clause-judged
returns-in_err-stand_listed-clause-judged c = λ m makes.
    let xs = idents_list (plain_idents c.args.tree.now.names) in
    exit _ c.from_residual.ensures.1 (stop (stand c.args.round.now.source.now (symbols_of xs) m) _ (c.in_err-stand_listed.ensures.judged m makes))

pub returns-in_err-of-clause-judged : goal.returns-in_err-of-clause-judged
returns-in_err-of-clause-judged c = λ m makes.
    let p = c.args.round.now.source.now in
    let xs = idents_list (plain_idents c.args.tree.now.names) in
    exit _ c.from_residual-in_err-of.ensures.1
    (goes_on (stand p (symbols_of xs) m) _ (c.in_ok-stand_listed.ensures.judged m makes) (λ a made.
    stop (type_part p (plain_type c.args.tree.now.of) a.1) _ (c.in_err-of.ensures.judged a.1 made.makes)))

pub returns-clause-judged : goal.returns-clause-judged
returns-clause-judged c = λ m makes.
    let r = c.args.round.now in
    let p = r.source.now in
    let xs = idents_list (plain_idents c.args.tree.now.names) in
    let new = c.listed_variables.new.state in
    goes_on (stand p (symbols_of xs) m) _ (c.in_ok-stand_listed.ensures.judged m makes) (λ a made.
    goes_on (type_part p (plain_type c.args.tree.now.of) a.1) _ (c.in_ok-of.ensures.judged a.1 made.makes) (λ s g.
    subst (λ (z : Shape). Answers (Made r new) (variables_part p z xs s.1) c.listed_variables.result) g.value.shape_is (c.listed_variables.ensures.judged s.1 g.makes)))

pub returns-clause-stands : goal.returns-clause-stands
returns-clause-stands c = stands_by_made c.requires c.listed_variables.result c.listed_variables.ensures.settled (returns-clause-judged c)

pub returns-clause-grows : goal.returns-clause-grows
returns-clause-grows c =
    on_ok c.listed_variables.result (λ e.
    subst (λ z. Grows c.args.state.now.types.table z.table) (sym e) (subst (λ z. Grows z.table c.type_of.new.state.types.table) c.in_ok-stand_listed.ensures.types c.in_ok-of.ensures.grows)) c.listed_variables.ensures.types

pub returns-clause-legal : goal.returns-clause-legal
returns-clause-legal c = λ from m makes tidy.
    let p = c.args.round.now.source.now in
    let xs = idents_list (plain_idents c.args.tree.now.names) in
    let u = settled (stand p (symbols_of xs) m) (c.in_ok-stand_listed.ensures.judged m makes) in
    let left = (given u.0 (s_stand p {from = from} {Before = Unit {0}} (symbols_of xs) m) u.1).tidy tt tidy in
    on_ok c.listed_variables.result (λ e legal.
    subst (λ z. HasLegalTypes z.table) (sym e) (c.in_ok-of.ensures.legal from (u.0).1 (u.2).makes left.0 (subst (λ z. HasLegalTypes z.table) (sym c.in_ok-stand_listed.ensures.types) legal))) c.listed_variables.ensures.types
