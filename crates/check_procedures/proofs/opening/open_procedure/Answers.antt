use Rattle.std.proofs.Common.{◌<◌, ◌≤◌, length, Vec, Global, sym, subst, ◌∙◌, arith}
use Rattle.ob_syntax.specs.Plain.{plain_option, plain_formals}
use Rattle.check_types.proofs.steps.Answering.{exit, stop}
use Rattle.check_making.proofs.parameters.Answering.{no_memory}
use Rattle.legal_tables.specs.Promised.{HasLegalTypes}
use Rattle.ob_types.specs.declared.program.Procedure.{Procedure}
use Rattle.check_making.specs.Making.{strings_of, IsSettled}
use Rattle.check_making.proofs.Growing.{variables_still}
use Rattle.check_making.specs.scopes.Building.{IsLater}
use Rattle.check_procedures.proofs.Giving.{given_so}
use Rattle.check_procedures.proofs.Uprights.{opening_upright}
use Rattle.check_procedures.specs.Parts.{opening}
use Rattle.check_procedures.proofs.Opens.{stands_in, procedure_is_open, heading_there, legal_in, not_headed, opened_so}
use Rattle.check_procedures.proofs.opening.open_procedure.Goals as goal
use Rattle.check_making.proofs.headings.Heads.{by_given as came}

pub returns-in_err-number-clause-judged : goal.returns-in_err-number-clause-judged
returns-in_err-number-clause-judged c = λ m represents. exit _ c.from_residual.ensures.1 (stop _ _ (c.in_err-number.ensures.judged m represents))

pub returns-in_err-aside-clause-judged : goal.returns-in_err-aside-clause-judged
returns-in_err-aside-clause-judged c = λ m represents. exit _ c.from_residual-in_err-aside.ensures.1 (no_memory _ c.in_err-aside.ensures.memory)

pub procedure_heading-requires-clause-stands : goal.procedure_heading-requires-clause-stands
procedure_heading-requires-clause-stands c =
    stands_in c.args.round.now c.inside-scope.result c.args.name.now (plain_option plain_formals c.args.formals.now) c.args.state.now c.next_procedure.new.state c.enter_procedure.new.state c.in_ok-number.number c.in_ok-aside.aside c.inside-scope.ensures
    c.in_ok-number.ensures.judged c.in_ok-aside.ensures.entered c.requires c.in_ok-aside.ensures.settled

pub procedure_heading-requires-clause-within : goal.procedure_heading-requires-clause-within
procedure_heading-requires-clause-within c = let d = c.in_ok-aside.ensures.deeper in subst (λ z. 0 < z.depth) (sym c.inside-scope.ensures) (omega (arith, d))

pub procedure_heading-requires-clause-open : goal.procedure_heading-requires-clause-open
procedure_heading-requires-clause-open c =
    procedure_is_open c.args.round.now c.inside-scope.result c.args.name.now (plain_option plain_formals c.args.formals.now) c.args.state.now c.next_procedure.new.state c.enter_procedure.new.state c.in_ok-number.number c.in_ok-aside.aside c.inside-scope.ensures
    c.in_ok-number.ensures.judged c.in_ok-aside.ensures.entered c.requires

pub returns-in_err-heading-clause-judged : goal.returns-in_err-heading-clause-judged
returns-in_err-heading-clause-judged c = λ m represents.
    exit _ c.from_residual-in_err-heading.ensures.1
    (not_headed c.args.round.now c.inside-scope.result c.args.name.now (plain_option plain_formals c.args.formals.now) c.args.state.now c.next_procedure.new.state c.enter_procedure.new.state c.in_ok-number.number c.in_ok-aside.aside c.inside-scope.ensures
    c.in_ok-number.ensures.judged c.in_ok-aside.ensures.entered c.in_ok-aside.ensures.is_local c.procedure_heading.new.state c.in_err-heading.ensures.judged m represents)

pub returns-clause-settled : goal.returns-clause-settled
returns-clause-settled c = subst (λ z. IsSettled z c.procedure_heading.new.state.declaring) c.inside-scope.ensures c.in_ok-heading.ensures.settled

pub returns-clause-judged : goal.returns-clause-judged
returns-clause-judged c = λ m represents.
    opened_so c.args.round.now c.inside-scope.result c.args.name.now (plain_option plain_formals c.args.formals.now) c.args.state.now c.next_procedure.new.state c.enter_procedure.new.state c.in_ok-number.number c.in_ok-aside.aside c.inside-scope.ensures
    c.in_ok-number.ensures.judged c.in_ok-aside.ensures.entered c.in_ok-aside.ensures.is_local c.procedure_heading.new.state c.in_ok-heading.heading c.in_ok-aside.ensures.variables c.in_ok-heading.ensures.later.grows c.in_ok-heading.ensures.judged m represents

pub returns-clause-closable : goal.returns-clause-closable
returns-clause-closable c =
    let there = heading_there c.args.round.now c.inside-scope.result c.args.name.now (plain_option plain_formals c.args.formals.now) c.args.state.now c.next_procedure.new.state c.enter_procedure.new.state c.in_ok-number.number c.in_ok-aside.aside c.inside-scope.ensures
    c.in_ok-number.ensures.judged c.in_ok-aside.ensures.entered c.requires c.procedure_heading.new.state c.in_ok-heading.heading c.in_ok-aside.aside.is_local c.in_ok-heading.ensures.judged in
    record {
      deeper = c.in_ok-aside.ensures.deeper;
      number = subst (λ (v : Vec Procedure Global). c.in_ok-number.number < length v.items) (sym (c.in_ok-heading.ensures.procedures ∙ c.in_ok-aside.ensures.procedures)) c.in_ok-number.ensures.there;
      variables = variables_still c.enter_procedure.new.state.declaring.types.table c.procedure_heading.new.state.declaring.types.table (strings_of c.args.state.now.declaring) c.in_ok-heading.ensures.later.grows
          c.in_ok-aside.aside.outer.variables.items c.in_ok-aside.ensures.variables;
      formals = there.0;
      outcome = there.1;
    }

pub returns-clause-later : goal.returns-clause-later
returns-clause-later c = subst (λ z. IsLater z.table c.procedure_heading.new.state.declaring.types.table) (c.in_ok-aside.ensures.types ∙ c.in_ok-number.ensures.types) c.in_ok-heading.ensures.later

pub returns-clause-more : goal.returns-clause-more
returns-clause-more c = subst (λ (v : Vec Procedure Global). length c.args.state.now.procedures.items ≤ length v.items) (sym (c.in_ok-heading.ensures.procedures ∙ c.in_ok-aside.ensures.procedures)) c.in_ok-number.ensures.more

pub returns-clause-legal : goal.returns-clause-legal
returns-clause-legal c = λ k m represents up legal.
    legal_in c.args.round.now c.inside-scope.result c.args.name.now (plain_option plain_formals c.args.formals.now) c.args.state.now c.next_procedure.new.state c.enter_procedure.new.state c.in_ok-number.number c.in_ok-aside.aside c.inside-scope.ensures
    c.in_ok-number.ensures.judged c.in_ok-aside.ensures.entered c.procedure_heading.new.state c.in_ok-heading.ensures.legal k m represents up
    (subst (λ z. HasLegalTypes z.table) (sym (c.in_ok-aside.ensures.types ∙ c.in_ok-number.ensures.types)) legal)

pub returns-clause-under_way : goal.returns-clause-under_way
returns-clause-under_way c =
    let old = c.requires in
    let p = c.args.round.now.source.now in
    let formals = plain_option plain_formals c.args.formals.now in
    came (opening p c.args.name.now formals old.making) (returns-clause-judged c old.making old.represents) (λ j e stood. record {
      settled = returns-clause-settled c;
      so_far = old.so_far;
      making = j.inner;
      represents = stood.represents;
      upright = given_so j e (opening_upright p old.so_far c.args.name.now formals old.making old.upright);
    })
