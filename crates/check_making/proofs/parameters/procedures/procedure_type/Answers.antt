use Rattle.std.proofs.Common.{◌∙◌, [], sym, ap, subst, false, length}
use Rattle.std.specs.Prelude.{is_some}
use Rattle.ob_types.proofs.Tests.{no}
use Rattle.ob_syntax.specs.Plain.{plain_option, plain_formals}
use Rattle.ob_judge.specs.Shapes.{Procedure}
use Rattle.ob_judge.specs.Parameters.{formal_part}
use Rattle.judged_tree.specs.Tables.{are_before}
use Rattle.check_types.specs.steps.Maps.{at_bytes}
use Rattle.check_types.proofs.steps.Answering.{exit, goes_on, stop}
use Rattle.table_builder.specs.Entries.{IsNumbered}
use Rattle.table_builder.specs.Growing.{Grows}
use Rattle.check_making.specs.Making.{Makes}
use Rattle.check_making.specs.Parts.{Gave}
use Rattle.check_making.proofs.Growing.{grows_on}
use Rattle.check_making.specs.parameters.Stands.{Stands}
use Rattle.check_making.specs.parameters.Headings.{IsHeading}
use Rattle.check_making.proofs.parameters.Answering.{goes_with}
use Rattle.check_making.proofs.parameters.Stages.{came, on_ok, on_ok_if, stands_by}
use Rattle.check_making.proofs.parameters.Leaving.{heading_beside}
use Rattle.check_making.proofs.parameters.ProcedureTypes.{restored, heading_same, type_left}
use Rattle.legal_tables.specs.Promised.{HasLegalTypes}
use Rattle.check_making.proofs.parameters.Rounds.{settled}
use Rattle.check_making.proofs.parameters.LegalTypes.{heading_listed}
use Rattle.check_making.proofs.parameters.procedures.procedure_type.Goals as goal

pub formal_part-requires-clause-stands : goal.formal_part-requires-clause-stands
formal_part-requires-clause-stands c = record {
  settled = c.names_aside-names.ensures.settled;
  making = record c.requires.making { standing = [] };
  makes = c.names_aside-names.ensures.makes c.requires.making c.requires.makes;
}

pub formal_part-requires-clause-inside : goal.formal_part-requires-clause-inside
formal_part-requires-clause-inside c = λ is. no is

pub procedure_of-requires-clause-formals : goal.procedure_of-requires-clause-formals
procedure_of-requires-clause-formals c =
    let old : Stands c.args.round.now c.names_aside-names.new.state = record {
      settled = c.names_aside-names.ensures.settled;
      making = record c.requires.making { standing = [] };
      makes = c.names_aside-names.ensures.makes c.requires.making c.requires.makes;
    } in
    let h = (came old c.in_ok-heading.ensures.judged).1 in
    subst (λ z. are_before (length z.table.entries.items) c.in_ok-heading.heading.listed.formals) (sym c.names_back.ensures.types) h.listed.before

pub procedure_of-requires-clause-outcome : goal.procedure_of-requires-clause-outcome
procedure_of-requires-clause-outcome c =
    let old : Stands c.args.round.now c.names_aside-names.new.state = record {
      settled = c.names_aside-names.ensures.settled;
      making = record c.requires.making { standing = [] };
      makes = c.names_aside-names.ensures.makes c.requires.making c.requires.makes;
    } in
    let h = (came old c.in_ok-heading.ensures.judged).1 in
    subst (λ z. IsNumbered z.table.entries.items c.in_ok-heading.heading.outcome) (sym c.names_back.ensures.types) h.numbered

pub returns-clause-grows : goal.returns-clause-grows
returns-clause-grows c =
    on_ok c.procedure_of.result (λ g.
    grows_on c.args.state.now.types.table c.formal_part.new.state.types.table c.procedure_of.new.state.types.table
    (subst (λ z. Grows z.table c.formal_part.new.state.types.table) c.names_aside-names.ensures.types c.in_ok-heading.ensures.grows)
    (subst (λ z. Grows z.table c.procedure_of.new.state.types.table) c.names_back.ensures.types g)) c.procedure_of.ensures.grows

pub returns-in_err-heading-clause-judged : goal.returns-in_err-heading-clause-judged
returns-in_err-heading-clause-judged c = λ m makes.
    exit _ c.from_residual.ensures.1
    (stop {B = Unit {0}} {R = λ u a. Unit {0}} _ _ (stop _ _ (c.in_err-heading.ensures.judged (record m { standing = [] }) (c.names_aside-names.ensures.makes m makes))))

pub returns-clause-judged : goal.returns-clause-judged
returns-clause-judged c = λ m makes.
    let r = c.args.round.now in
    let s = c.formal_part.new.state in
    let t = c.names_back.new.state in
    goes_on {R = Gave (IsHeading t) r t} {b = c.in_ok-heading.heading} _ _
    (goes_with (formal_part r.source.now false (plain_option plain_formals c.args.tree.now.formals) (record m { standing = [] })) _ (c.in_ok-heading.ensures.judged (record m { standing = [] }) (c.names_aside-names.ensures.makes m makes))
    (heading_beside r.source.now (plain_option plain_formals c.args.tree.now.formals) (record m { standing = [] })) (λ a gave beside. record {
      by = record {
        value = heading_same s t c.names_back.ensures.types c.in_ok-heading.heading a.0 gave.value;
        makes = subst (Makes r t) (restored m a.1 beside)
            (c.names_back.ensures.makes a.1 m.standing gave.makes (λ q. makes.standing q ∙ ap (λ z. is_some (at_bytes z q)) (sym c.names_aside-names.ensures.names)));
      };
    }))
    (λ a gave. type_left c.procedure_of.result (Procedure ((a.0).0).formals (a.0).1) a.1 (on_ok_if c.procedure_of.result c.procedure_of.ensures.shape (λ k f. f a.0 gave.value)) (on_ok c.procedure_of.result (λ f. f a.1 gave.makes) c.procedure_of.ensures.makes) c.procedure_of.ensures.memory)

pub returns-clause-stands : goal.returns-clause-stands
returns-clause-stands c = stands_by c.requires c.procedure_of.result c.procedure_of.ensures.settled (returns-clause-judged c)

pub returns-clause-legal : goal.returns-clause-legal
returns-clause-legal c = λ from m makes tidy.
    let p = c.args.round.now.source.now in
    let formals = plain_option plain_formals c.args.tree.now.formals in
    let bare = record m { standing = [] } in
    let got = settled (formal_part p false formals bare) (c.in_ok-heading.ensures.judged bare (c.names_aside-names.ensures.makes m makes)) in
    let fit = heading_listed from p false formals bare got.0 got.1 (λ is. no is) tidy in
    let is = heading_same c.formal_part.new.state c.names_back.new.state c.names_back.ensures.types c.in_ok-heading.heading (got.0).0 (got.2).value in
    on_ok c.procedure_of.result
    (λ f legal.
    f (got.0).0 is fit.0 fit.1
    (subst (λ z. HasLegalTypes z.table) (sym c.names_back.ensures.types) (c.in_ok-heading.ensures.legal (subst (λ z. HasLegalTypes z.table) (sym c.names_aside-names.ensures.types) legal))))
    c.procedure_of.ensures.legal
