use Rattle.std.proofs.Common.{◌∷◌, ◌∙◌, sym, ap, subst, Ok, Err}
use Rattle.std.specs.Prelude.{is_none, is_some}
use Rattle.ob_judge.specs.Scopes.{World}
use Rattle.ob_judge.specs.Parameters.{stand, next_names, type_at, add_parameters, opened}
use Rattle.check_types.specs.steps.Answers.{Answers}
use Rattle.check_types.proofs.steps.Answering.{exit, goes_on, stop}
use Rattle.check_types.specs.TypeMeaning.{type_shape}
use Rattle.table_builder.specs.Growing.{Grows}
use Rattle.check_making.specs.Making.{table_of}
use Rattle.check_making.specs.Parts.{Made, Gave}
use Rattle.check_making.specs.parameters.Listed.{IsListed, IsListedIn}
use Rattle.check_making.proofs.parameters.Answering.{look_on, look_stops, no_memory}
use Rattle.check_making.proofs.parameters.Stages.{stands_made, stands_still, open_made, open_still, found, on_ok}
use Rattle.check_making.proofs.parameters.Leaving.{stand_stays}
use Rattle.check_making.proofs.parameters.Growing.{listed_still}
use Rattle.legal_tables.specs.Promised.{HasLegalTypes}
use Rattle.check_making.proofs.parameters.sections.section.Goals as goal

pub opened-requires-clause-element : goal.opened-requires-clause-element
opened-requires-clause-element c =
    let old = stands_made c.requires.stands c.in_ok-stand_names.ensures.settled c.in_ok-stand_names.ensures.judged in
    ((found old (λ (w : World). type_at c.args.round.now.source.now 31 c.args.tree.now.of w) c.in_ok-element.ensures).1).element

pub add_parameters-requires-clause-stands : goal.add_parameters-requires-clause-stands
add_parameters-requires-clause-stands c =
    let old = stands_made c.requires.stands c.in_ok-stand_names.ensures.settled c.in_ok-stand_names.ensures.judged in
    stands_still old c.in_ok-of.ensures.settled c.in_ok-of.ensures.makes

pub add_parameters-requires-clause-inside : goal.add_parameters-requires-clause-inside
add_parameters-requires-clause-inside c = λ is.
    let old = stands_made c.requires.stands c.in_ok-stand_names.ensures.settled c.in_ok-stand_names.ensures.judged in
    ap is_none (open_still old c.in_ok-of.ensures.makes ∙ open_made c.requires.stands c.in_ok-stand_names.ensures.judged (stand_stays c.args.round.now.source.now (c.args.tree.now.first ∷ next_names c.deref.result.now) c.requires.stands.making)) ∙ c.requires.inside is

pub returns-clause-procedure : goal.returns-clause-procedure
returns-clause-procedure c =
    let old = stands_made c.requires.stands c.in_ok-stand_names.ensures.settled c.in_ok-stand_names.ensures.judged in
    on_ok c.add_parameters.result (λ e. e ∙ open_still old c.in_ok-of.ensures.makes ∙ open_made c.requires.stands c.in_ok-stand_names.ensures.judged (stand_stays c.args.round.now.source.now (c.args.tree.now.first ∷ next_names c.deref.result.now) c.requires.stands.making)) c.add_parameters.ensures.procedure

pub returns-clause-grows : goal.returns-clause-grows
returns-clause-grows c =
    on_ok c.add_parameters.result (λ e. subst (λ z. Grows c.args.state.now.types.table z.table) (sym e) (subst (λ z. Grows z.table c.opened.new.state.types.table) c.in_ok-stand_names.ensures.types c.in_ok-of.ensures.grows)) c.add_parameters.ensures.types

pub returns-in_err-stand_names-clause-judged : goal.returns-in_err-stand_names-clause-judged
returns-in_err-stand_names-clause-judged c = λ x h m makes.
    exit _ c.from_residual.ensures.1 (stop (stand c.args.round.now.source.now (c.args.tree.now.first ∷ next_names c.args.tree.now.more.items) m) _
    (subst (λ xs. Answers (Made c.args.round.now c.stand_names.new.state) (stand c.args.round.now.source.now (c.args.tree.now.first ∷ next_names xs) m) (Err c.in_err-stand_names.field-0.0)) c.deref.ensures.value (c.in_err-stand_names.ensures.judged m makes)))

pub returns-in_err-element-clause-judged : goal.returns-in_err-element-clause-judged
returns-in_err-element-clause-judged c = λ x h m makes.
    exit _ c.from_residual-in_err-element.ensures.1
    (goes_on (stand c.args.round.now.source.now (c.args.tree.now.first ∷ next_names c.args.tree.now.more.items) m) _
    (subst (λ xs. Answers (Made c.args.round.now c.stand_names.new.state) (stand c.args.round.now.source.now (c.args.tree.now.first ∷ next_names xs) m) (Ok tt)) c.deref.ensures.value (c.in_ok-stand_names.ensures.judged m makes)) (λ a made.
    look_stops (type_at c.args.round.now.source.now 31 c.args.tree.now.of (a.1).world) a.1 _ (c.in_err-element.ensures a.1 made.makes)))

pub returns-in_err-of-clause-judged : goal.returns-in_err-of-clause-judged
returns-in_err-of-clause-judged c = λ x h m makes. exit _ c.from_residual-in_err-of.ensures.1 (no_memory _ c.in_err-of.ensures.memory)

pub returns-clause-judged : goal.returns-clause-judged
returns-clause-judged c = λ x h m makes.
    let r = c.args.round.now in
    let p = r.source.now in
    let q = c.args.tree.now in
    let s = c.stand_names.new.state in
    let t = c.opened.new.state in
    let new = c.add_parameters.new.state in
    let old = stands_made c.requires.stands c.in_ok-stand_names.ensures.settled c.in_ok-stand_names.ensures.judged in
    let here = listed_still s.types t.types c.in_ok-stand_names.ensures.settled.built c.in_ok-of.ensures.settled.built c.in_ok-of.ensures.grows c.args.listed x
    (subst (λ z. IsListed z.table c.args.listed x) (sym c.in_ok-stand_names.ensures.types) h) in
    goes_on (stand p (q.first ∷ next_names q.more.items) m) _
    (subst (λ xs. Answers (Made r s) (stand p (q.first ∷ next_names xs) m) (Ok tt)) c.deref.ensures.value (c.in_ok-stand_names.ensures.judged m makes)) (λ a made.
    look_on (type_at p 31 q.of (a.1).world) a.1 _ (c.in_ok-element.ensures a.1 made.makes) (λ shape is.
    subst (λ b. Answers (Gave (IsListedIn new) r new) (add_parameters p c.args.known_here b (opened (is_some q.open_array) shape) (q.first ∷ next_names q.more.items) x a.1) c.add_parameters.result) c.is_some-variable.ensures
    (subst (λ b. Answers (Gave (IsListedIn new) r new) (add_parameters p c.args.known_here c.is_some-variable.result (opened b shape) (q.first ∷ next_names q.more.items) x a.1) c.add_parameters.result) c.is_some-is_open.ensures
    (subst (λ z. Answers (Gave (IsListedIn new) r new) (add_parameters p c.args.known_here c.is_some-variable.result z (q.first ∷ next_names q.more.items) x a.1) c.add_parameters.result) (c.in_ok-of.ensures.shape.shape_is ∙ ap (opened c.is_some-is_open.result) is.shape_is)
    (subst (λ xs. Answers (Gave (IsListedIn new) r new) (add_parameters p c.args.known_here c.is_some-variable.result (type_shape (table_of t) c.in_ok-of.of) (q.first ∷ next_names xs) x a.1) c.add_parameters.result) c.deref-2.ensures.value
    (c.add_parameters.ensures.judged x here a.1 (c.in_ok-of.ensures.makes a.1 made.makes)))))))

pub returns-clause-legal : goal.returns-clause-legal
returns-clause-legal c =
    on_ok c.add_parameters.result (λ e legal. subst (λ z. HasLegalTypes z.table) (sym e) (c.in_ok-of.ensures.legal (subst (λ z. HasLegalTypes z.table) (sym c.in_ok-stand_names.ensures.types) legal))) c.add_parameters.ensures.types
