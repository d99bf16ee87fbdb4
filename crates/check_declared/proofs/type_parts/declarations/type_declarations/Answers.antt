use Rattle.std.proofs.Common.{ap, sym, subst}
use Rattle.ob_syntax.specs.Plain.{plain_option, plain_types, plain_each, plain_type_decl}
use Rattle.ob_judge.specs.Declarations.{each, type_decl_part, types_in, types_part}
use Rattle.judged_well.proofs.Judging.{weaken}
use Rattle.judged_modules.proofs.DeclarationsGrow.{typing, typed, t_typed, typed_grows}
use Rattle.check_types.proofs.steps.Answering.{exit, stop, goes_on, as_judged}
use Rattle.table_builder.specs.Growing.{Grows}
use Rattle.check_making.proofs.Growing.{grows_on}
use Rattle.check_making.proofs.parameters.Stages.{on_ok}
use Rattle.check_declared.proofs.type_parts.States.{part_opens}
use Rattle.check_declared.proofs.type_parts.Bases.{are_there, there_still}
use Rattle.legal_tables.specs.Promised.{HasLegalTypes}
use Rattle.check_declared.proofs.type_parts.declarations.type_declarations.Goals as goal

pub type_decls-requires : goal.type_decls-requires
type_decls-requires c = record {
  settled = c.begin_type_part.ensures.settled;
  making = typing c.args.round.now.source.now c.requires.making;
  makes = c.begin_type_part.ensures.makes c.requires.making c.requires.makes;
}

pub forward_bases-requires-clause-stands : goal.forward_bases-requires-clause-stands
forward_bases-requires-clause-stands c =
    let old = c.in_ok-type_decls.ensures.stands in
    record { settled = c.end_type_part.ensures.settled; making = typed c.args.round.now.source.now old.making; makes = c.end_type_part.ensures.makes old.making old.makes }

pub forward_bases-requires-clause-there : goal.forward_bases-requires-clause-there
forward_bases-requires-clause-there c =
    there_still c.type_decls.new.state c.end_type_part.new.state c.end_type_part.ensures.types c.end_type_part.ensures.forward
    (are_there c.args.round.now c.begin_type_part.new.state c.type_decls.new.state (plain_each plain_type_decl c.type_trees.result.now) c.requires.making (c.begin_type_part.ensures.makes c.requires.making c.requires.makes) c.in_ok-type_decls.ensures.judged)

pub returns-in_err-type_decls-clause-judged : goal.returns-in_err-type_decls-clause-judged
returns-in_err-type_decls-clause-judged c = λ m makes.
    let p = c.args.round.now.source.now in
    let ds = plain_each plain_type_decl c.type_trees.result.now in
    exit _ c.from_residual.ensures.1
    (as_judged (ap (λ xs. types_part p xs m) (sym c.type_trees.ensures)) (stop (each (type_decl_part p) ds (typing p m)) _ (c.in_err-type_decls.ensures.judged (typing p m) (c.begin_type_part.ensures.makes m makes))))

pub returns-clause-judged : goal.returns-clause-judged
returns-clause-judged c = λ m makes.
    let p = c.args.round.now.source.now in
    let ds = plain_each plain_type_decl c.type_trees.result.now in
    as_judged (ap (λ xs. types_part p xs m) (sym c.type_trees.ensures))
    (goes_on (each (type_decl_part p) ds (typing p m)) _ (c.in_ok-type_decls.ensures.judged (typing p m) (c.begin_type_part.ensures.makes m makes)) (λ a made.
    c.forward_bases.ensures.judged (typed p a.1) (c.end_type_part.ensures.makes a.1 made.makes)))

pub returns-clause-procedure : goal.returns-clause-procedure
returns-clause-procedure c =
    let p = c.args.round.now.source.now in
    let ds = types_in (plain_option plain_types c.args.tree.now) in
    let m = c.requires.making in
    part_opens c.requires (types_part p ds) (weaken (t_typed p ds m) (λ a g. (typed_grows p m a.1 g).procedure)) c.forward_bases.result (returns-clause-judged c)

pub returns-clause-grows : goal.returns-clause-grows
returns-clause-grows c =
    on_ok c.forward_bases.result (λ g.
    grows_on c.args.state.now.types.table c.type_decls.new.state.types.table c.forward_bases.new.state.types.table
    (subst (λ z. Grows z.table c.type_decls.new.state.types.table) c.begin_type_part.ensures.types c.in_ok-type_decls.ensures.grows)
    (subst (λ z. Grows z.table c.forward_bases.new.state.types.table) c.end_type_part.ensures.types g)) c.forward_bases.ensures.grows

pub returns-clause-legal : goal.returns-clause-legal
returns-clause-legal c = λ from m makes tidy.
    on_ok c.forward_bases.result (λ f legal.
    f (subst (λ z. HasLegalTypes z.table) (sym c.end_type_part.ensures.types)
    (c.in_ok-type_decls.ensures.legal from (typing c.args.round.now.source.now m) (c.begin_type_part.ensures.makes m makes) tidy (subst (λ z. HasLegalTypes z.table) (sym c.begin_type_part.ensures.types) legal)))) c.forward_bases.ensures.legal
