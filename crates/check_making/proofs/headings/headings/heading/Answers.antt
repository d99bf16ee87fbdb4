use Rattle.std.proofs.Common.{sym, subst, true}
use Rattle.ob_syntax.specs.Plain.{plain_option, plain_formals}
use Rattle.ob_judge.specs.Parameters.{formal_part}
use Rattle.legal_tables.specs.Promised.{HasLegalTypes}
use Rattle.check_making.proofs.parameters.LegalTypes.{heading_listed}
use Rattle.check_types.proofs.steps.Answering.{exit, stop, goes_on}
use Rattle.check_types.specs.declared.types.TypeRef.TheVariants as TheType
use Rattle.check_types.specs.TypeMeaning.{type_shape}
use Rattle.table_builder.specs.Growing.{Grows}
use Rattle.check_making.proofs.Growing.{grows_on}
use Rattle.check_making.proofs.headings.Heads.{gives_on, refuses_on, stands_named, heading_still, by_answer, by_given, in_its_procedure}
use Rattle.check_making.proofs.headings.headings.heading.Goals as goal

pub returns-in_err-heading-clause-judged : goal.returns-in_err-heading-clause-judged
returns-in_err-heading-clause-judged c = λ m makes. exit _ c.from_residual.ensures.1 (stop _ _ (c.in_err-heading.ensures.judged m makes))

pub signature_of-requires-clause-formals : goal.signature_of-requires-clause-formals
signature_of-requires-clause-formals c = by_answer _ (c.in_ok-heading.ensures.judged c.requires.stands.making c.requires.stands.makes) (λ a h. h.value.listed.before)

pub signature_of-requires-clause-outcome : goal.signature_of-requires-clause-outcome
signature_of-requires-clause-outcome c = by_answer _ (c.in_ok-heading.ensures.judged c.requires.stands.making c.requires.stands.makes) (λ a h. h.value.numbered)

pub returns-in_err-declare_procedure-clause-judged :
    goal.returns-in_err-declare_procedure-clause-judged
returns-in_err-declare_procedure-clause-judged c = λ m makes.
    exit _ c.from_residual-in_err-declare_procedure.ensures.1 (goes_on _ _ (c.in_ok-heading.ensures.judged m makes) (λ a h.
    refuses_on c.args.round.now c.args.number c.args.name.now c.args.is_local c.declare_procedure.new.state _ (type_shape c.signature_of.new.state.types.table.types (TheType.Procedure c.in_ok-signature.signature)) a.1 _
    (c.in_err-declare_procedure.ensures.judged a.1 (c.in_ok-signature.ensures.makes a.1 h.makes))))

pub returns-clause-stands : goal.returns-clause-stands
returns-clause-stands c =
    let stands = c.in_ok-heading.ensures.stands in
    stands_named c.args.round.now c.args.number c.args.name.now c.args.is_local c.declare_procedure.new.state (type_shape c.signature_of.new.state.types.table.types (TheType.Procedure c.in_ok-signature.signature)) stands.making
    c.in_ok-declare_procedure.ensures.settled (c.in_ok-declare_procedure.ensures.judged stands.making (c.in_ok-signature.ensures.makes stands.making stands.makes))

pub returns-clause-grows : goal.returns-clause-grows
returns-clause-grows c =
    subst (λ z. Grows c.args.state.now.types.table z.table) (sym c.in_ok-declare_procedure.ensures.types)
    (grows_on c.args.state.now.types.table c.formal_part.new.state.types.table c.signature_of.new.state.types.table c.in_ok-heading.ensures.grows c.in_ok-signature.ensures.grows)

pub returns-clause-judged : goal.returns-clause-judged
returns-clause-judged c = λ m makes.
    goes_on _ _ (c.in_ok-heading.ensures.judged m makes) (λ a h.
    gives_on c.args.round.now c.args.number c.args.name.now c.args.is_local c.declare_procedure.new.state c.in_ok-heading.heading a.0
    (type_shape c.signature_of.new.state.types.table.types (TheType.Procedure c.in_ok-signature.signature)) a.1 (c.in_ok-signature.ensures.shape a.0 h.value)
    (heading_still c.formal_part.new.state c.declare_procedure.new.state c.in_ok-heading.ensures.stands.settled.built c.in_ok-declare_procedure.ensures.settled.built
    (subst (λ z. Grows c.formal_part.new.state.types.table z.table) (sym c.in_ok-declare_procedure.ensures.types) c.in_ok-signature.ensures.grows) c.in_ok-heading.heading a.0 h.value)
    (c.in_ok-declare_procedure.ensures.judged a.1 (c.in_ok-signature.ensures.makes a.1 h.makes)))

pub returns-clause-legal : goal.returns-clause-legal
returns-clause-legal c = λ from m makes tidy legal.
    let p = c.args.round.now.source.now in
    let formals = plain_option plain_formals c.args.formals.now in
    by_given (formal_part p true formals m) (c.in_ok-heading.ensures.judged m makes) (λ a e gave.
    let fit = heading_listed from p true formals m a e (in_its_procedure c.args.round.now c.args.state.now m makes c.requires.open) tidy in
    subst (λ z. HasLegalTypes z.table) (sym c.in_ok-declare_procedure.ensures.types) (c.in_ok-signature.ensures.legal a.0 gave.value fit.0 fit.1 (c.in_ok-heading.ensures.legal legal)))
