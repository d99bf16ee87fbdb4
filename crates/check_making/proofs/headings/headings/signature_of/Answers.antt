use Rattle.std.proofs.Common.{sym, ap, ◌∙◌, subst}
use Rattle.check_types.specs.TypeMeaning.{type_shape}
use Rattle.table_builder.specs.Entries.{IsNumbered}
use Rattle.check_making.specs.parameters.Headings.{IsHeading}
use Rattle.check_making.proofs.headings.Signing.{heading_meant, signature_is, has_signature}
use Rattle.check_making.proofs.headings.headings.signature_of.Goals as goal

pub unreachable-requires : goal.unreachable-requires
unreachable-requires c =
    let s = c.args.state.now in
    let meant = heading_meant s c.args.heading.now c.requires.formals c.requires.outcome in
    let typed = c.in_ok-of.ensures.shape meant.0 (subst (λ k. IsHeading s k meant.0) (sym c.in_ok-copy.ensures.same) meant.1) in
    has_signature c.procedure_of.new.state.types.table.types c.in_ok-of.of _ _ typed.shape_is (sym c.in-None.ensures)

pub returns-clause-numbered : goal.returns-clause-numbered
returns-clause-numbered c =
    let s = c.args.state.now in
    let meant = heading_meant s c.args.heading.now c.requires.formals c.requires.outcome in
    let typed = c.in_ok-of.ensures.shape meant.0 (subst (λ k. IsHeading s k meant.0) (sym c.in_ok-copy.ensures.same) meant.1) in
    subst (IsNumbered c.procedure_of.new.state.types.table.entries.items) (signature_is c.in_ok-of.of c.in-Some.g (sym c.in-Some.ensures)) typed.element.numbered

pub returns-clause-shape : goal.returns-clause-shape
returns-clause-shape c = λ x h.
    let s = c.args.state.now in
    let typed = c.in_ok-of.ensures.shape x (subst (λ k. IsHeading s k x) (sym c.in_ok-copy.ensures.same) h) in
    sym (ap (type_shape c.procedure_of.new.state.types.table.types) (signature_is c.in_ok-of.of c.in-Some.g (sym c.in-Some.ensures))) ∙ typed.shape_is

pub returns-clause-legal : goal.returns-clause-legal
returns-clause-legal c = λ x h listed result legal. c.in_ok-of.ensures.legal x (subst (λ k. IsHeading c.args.state.now k x) (sym c.in_ok-copy.ensures.same) h) listed result legal
