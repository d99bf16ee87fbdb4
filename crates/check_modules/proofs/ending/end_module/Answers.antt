use Rattle.std.proofs.Common.{sym, ap, subst, ◌∙◌}
use Rattle.ob_syntax.specs.Plain.{plain_module}
use Rattle.check_types.proofs.steps.Answering.{exit}
use Rattle.check_making.specs.Making.{IsSettled}
use Rattle.check_modules.specs.programs.Entities.{AreTold}
use Rattle.check_modules.proofs.Ends.{not_completed, not_numbered, ends, is_ended, seen_on}
use Rattle.check_modules.proofs.ending.end_module.Goals as goal
use Rattle.check_making.proofs.parameters.Answering.{no_memory}

pub module_with-requires-clause-settled : goal.module_with-requires-clause-settled
module_with-requires-clause-settled c = subst (IsSettled c.args.round.now) (sym c.in_ok-body.ensures.declaring) c.requires.settled

pub module_with-requires-clause-told : goal.module_with-requires-clause-told
module_with-requires-clause-told c = subst (λ z. AreTold z.types.table.entries.items z.objects.items) (sym c.in_ok-body.ensures.declaring) c.requires.told

pub known_module-requires : goal.known_module-requires
known_module-requires c = subst (IsSettled c.args.round.now) (sym c.in_ok-body.ensures.declaring) c.requires.settled

pub returns-in_err-procedure-clause-judged : goal.returns-in_err-procedure-clause-judged
returns-in_err-procedure-clause-judged c = λ k m h up.
    exit _ c.from_residual.ensures.1 (not_completed c.args.round.now (plain_module c.args.tree.now) m (c.in_err-procedure.ensures k m h.makes up))

pub returns-in_err-body-clause-judged : goal.returns-in_err-body-clause-judged
returns-in_err-body-clause-judged c = λ k m h up.
    exit _ c.from_residual-in_err-body.ensures.1
    (not_numbered c.args.round.now (plain_module c.args.tree.now) m (c.in_ok-procedure.ensures k m h.makes up) (λ j stands. c.in_err-body.ensures.judged j stands m h))

pub returns-in_err-own-clause-judged : goal.returns-in_err-own-clause-judged
returns-in_err-own-clause-judged c = λ k m h up. exit _ c.from_residual-in_err-own.ensures.1 (no_memory _ c.in_err-own.ensures.memory)

pub returns-in_err-seen-clause-judged : goal.returns-in_err-seen-clause-judged
returns-in_err-seen-clause-judged c = λ k m h up. exit _ c.from_residual-in_err-seen.ensures.1 (no_memory _ c.in_err-seen.ensures.memory)

pub returns-clause-types : goal.returns-clause-types
returns-clause-types c = c.in_ok-seen.ensures.types ∙ ap (λ z. z.types) c.in_ok-body.ensures.declaring

pub returns-clause-strings : goal.returns-clause-strings
returns-clause-strings c = c.in_ok-seen.ensures.strings ∙ ap (λ z. z.strings) c.in_ok-body.ensures.declaring

pub returns-clause-places : goal.returns-clause-places
returns-clause-places c = c.in_ok-seen.ensures.places ∙ ap (λ z. z.places) c.in_ok-body.ensures.declaring

pub returns-clause-seen : goal.returns-clause-seen
returns-clause-seen c =
    seen_on c.args.round.now c.number_body.new.state.declaring (subst (IsSettled c.args.round.now) (sym c.in_ok-body.ensures.declaring) c.requires.settled) c.args.tree.now.name c.in_ok-seen.seen c.in_ok-seen.ensures.seen
    (record c.number_body.new.state { declaring = c.known_module.new.state }) c.in_ok-own.own c.in_ok-seen.ensures.types c.in_ok-seen.ensures.strings

pub returns-clause-judged : goal.returns-clause-judged
returns-clause-judged c = λ k m h up.
    let r = c.args.round.now in
    let x = plain_module c.args.tree.now in
    ends r x m (c.in_ok-procedure.ensures k m h.makes up) (λ j stands. c.in_ok-body.ensures.judged j stands m h) (λ g b.
    is_ended r c.number_body.new.state x c.in_ok-own.own c.in_ok-seen.seen c.in_ok-seen.ensures.seen c.known_module.new.state
    c.in_ok-seen.ensures.types c.in_ok-seen.ensures.strings c.in_ok-seen.ensures.imports_in c.in_ok-body.body c.in_ok-own.ensures.is_module g b.value b.represents)
