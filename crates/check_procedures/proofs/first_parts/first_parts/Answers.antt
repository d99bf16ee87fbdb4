use Rattle.std.proofs.Common.{length, sym, subst}
use Rattle.table_builder.specs.Growing.{Grows}
use Rattle.legal_tables.specs.Promised.{HasLegalTypes}
use Rattle.judged_outlines.proofs.Uprights.{consts_upright, types_upright}
use Rattle.check_types.proofs.steps.Answering.{exit, goes_on, stop}
use Rattle.check_making.proofs.Growing.{grows_on}
use Rattle.check_making.proofs.parameters.Stages.{stands_made}
use Rattle.check_procedures.proofs.first_parts.first_parts.Goals as goal
use Rattle.check_making.proofs.headings.Heads.{by_given as came}

pub type_declarations-requires : goal.type_declarations-requires
type_declarations-requires c = stands_made c.requires c.in_ok-constant_declarations.ensures.settled c.in_ok-constant_declarations.ensures.judged

pub returns-in_err-constant_declarations-clause-judged : goal.returns-in_err-constant_declarations-clause-judged
returns-in_err-constant_declarations-clause-judged c = λ m makes. exit _ c.from_residual.ensures.1 (stop _ _ (c.in_err-constant_declarations.ensures.judged m makes))

pub returns-in_err-type_declarations-clause-judged : goal.returns-in_err-type_declarations-clause-judged
returns-in_err-type_declarations-clause-judged c = λ m makes.
    exit _ c.from_residual-in_err-type_declarations.ensures.1 (goes_on _ _ (c.in_ok-constant_declarations.ensures.judged m makes) (λ a h. stop _ _ (c.in_err-type_declarations.ensures.judged a.1 h.makes)))

pub returns-in_err-variable_declarations-clause-judged : goal.returns-in_err-variable_declarations-clause-judged
returns-in_err-variable_declarations-clause-judged c = λ m makes.
    exit _ c.from_residual-in_err-variable_declarations.ensures.1 (goes_on _ _ (c.in_ok-constant_declarations.ensures.judged m makes) (λ a h.
    goes_on _ _ (c.in_ok-type_declarations.ensures.judged a.1 h.makes) (λ b k. c.in_err-variable_declarations.ensures.judged b.1 k.makes)))

pub returns-clause-judged : goal.returns-clause-judged
returns-clause-judged c = λ m makes.
    goes_on _ _ (c.in_ok-constant_declarations.ensures.judged m makes) (λ a h.
    goes_on _ _ (c.in_ok-type_declarations.ensures.judged a.1 h.makes) (λ b k. c.in_ok-variable_declarations.ensures.judged b.1 k.makes))

pub returns-clause-grows : goal.returns-clause-grows
returns-clause-grows c =
    subst (λ z. Grows z.table c.variable_declarations.new.state.types.table) c.in_ok-constant_declarations.ensures.types
    (grows_on c.constant_declarations.new.state.types.table c.type_declarations.new.state.types.table c.variable_declarations.new.state.types.table c.in_ok-type_declarations.ensures.grows c.in_ok-variable_declarations.ensures.grows)

pub returns-clause-legal : goal.returns-clause-legal
returns-clause-legal c = λ k m makes up legal.
    let p = c.args.round.now.source.now in
    came _ (c.in_ok-constant_declarations.ensures.judged m makes) (λ a e h.
    came _ (c.in_ok-type_declarations.ensures.judged a.1 h.makes) (λ b d l.
    let one = consts_upright k p _ m a.1 e up in
    let two = types_upright k p _ a.1 b.1 d one in
    c.in_ok-variable_declarations.ensures.legal (length k.procedures) b.1 l.makes two.tidy
    (c.in_ok-type_declarations.ensures.legal (length k.procedures) a.1 h.makes one.tidy
    (subst (λ z. HasLegalTypes z.table) (sym c.in_ok-constant_declarations.ensures.types) legal))))
