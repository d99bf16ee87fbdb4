use Rattle.std.proofs.Common.{[], ◌∙◌, sym, ap, subst}
use Rattle.std.specs.Prelude.{is_some}
use Rattle.ob_judge.specs.Making.{new_record}
use Rattle.ob_judge.specs.Types.{base_layout}
use Rattle.check_types.specs.steps.Maps.{at_bytes}
use Rattle.check_types.proofs.steps.Answering.{exit, stop, goes_on, as_judged}
use Rattle.check_types.specs.declared.types.TypeRef.TheVariants as TheType
use Rattle.table_builder.specs.Entries.{IsElement}
use Rattle.legal_tables.specs.Promised.{HasLegalTypes}
use Rattle.table_builder.specs.Growing.{Grows}
use Rattle.check_making.proofs.parameters.Answering.{look_on, look_stops}
use Rattle.check_making.proofs.parameters.Stages.{came, stands_gave}
use Rattle.check_making.specs.new_types.Layouts.{IsSoFar}
use Rattle.check_declared.proofs.type_parts.WalkLaws.{begun_on, begun_law}
use Rattle.check_declared.proofs.type_parts.records.begin_record.Goals as goal

pub returns-in_err-number-clause-judged : goal.returns-in_err-number-clause-judged
returns-in_err-number-clause-judged c = λ m makes.
    let p = c.args.round.now.source.now in
    exit _ c.from_residual.ensures.1 (as_judged (begun_law p c.args.base.now m) (stop (new_record m) (begun_on p c.args.base.now) (c.in_err-number.ensures.judged m makes)))

pub returns-in_err-layout-clause-judged : goal.returns-in_err-layout-clause-judged
returns-in_err-layout-clause-judged c = λ m makes.
    let p = c.args.round.now.source.now in
    exit _ c.from_residual-in_err-layout.ensures.1
    (as_judged (begun_law p c.args.base.now m)
    (goes_on (new_record m) (begun_on p c.args.base.now) (c.in_ok-number.ensures.judged m makes) (λ a g. look_stops (base_layout p c.args.base.now (a.1).world) a.1 _ (c.in_err-layout.ensures a.1 g.makes))))

pub returns-clause-stands : goal.returns-clause-stands
returns-clause-stands c =
    let old = stands_gave c.requires c.in_ok-number.ensures.settled c.in_ok-number.ensures.judged in
    record { settled = c.names_aside-names.ensures.settled; making = record old.making { standing = [] }; makes = c.names_aside-names.ensures.makes old.making old.makes }

pub returns-clause-grows : goal.returns-clause-grows
returns-clause-grows c = subst (λ z. Grows c.args.state.now.types.table z.table) (sym c.names_aside-names.ensures.types) c.in_ok-number.ensures.grows

pub returns-clause-names : goal.returns-clause-names
returns-clause-names c = λ m makes q.
    ((c.in_ok-number.ensures.judged m makes).by).makes.standing q ∙ ap (λ z. is_some (at_bytes z q)) (sym c.names_aside-names.ensures.names)

pub returns-clause-judged : goal.returns-clause-judged
returns-clause-judged c = λ m makes.
    let p = c.args.round.now.source.now in
    let types = sym c.names_aside-names.ensures.types in
    as_judged (begun_law p c.args.base.now m)
    (goes_on (new_record m) (begun_on p c.args.base.now) (c.in_ok-number.ensures.judged m makes) (λ a g.
    look_on (base_layout p c.args.base.now (a.1).world) a.1 _ (c.in_ok-layout.ensures a.1 g.makes) (λ b is. record {
      by = record {
        value = record {
          number = g.value.number;
          element = subst (λ z. IsElement z.table.entries.items (TheType.Record c.in_ok-number.number)) types g.value.element;
          so_far = subst (λ z. IsSoFar z.table c.in_ok-layout.layout (record b { added = [] })) types is;
        };
        makes = c.names_aside-names.ensures.makes a.1 g.makes;
      };
    })))

pub returns-clause-layout : goal.returns-clause-layout
returns-clause-layout c = let k = came c.requires (returns-clause-judged c) in record { layout = (k.0).1; so_far = (k.1).so_far }

pub returns-clause-legal : goal.returns-clause-legal
returns-clause-legal c = λ legal. subst (λ z. HasLegalTypes z.table) (sym c.names_aside-names.ensures.types) (c.in_ok-number.ensures.legal legal)
