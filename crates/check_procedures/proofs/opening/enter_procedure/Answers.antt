use Rattle.std.proofs.Common.{◌<◌, sym, ap, subst, ◌∙◌}
use Rattle.check_making.specs.Making.{AreNumbered, IsSettled}
use Rattle.check_making.specs.scopes.Scopes.{deeper}
use Rattle.check_procedures.proofs.Outers.{settled_waiting, is_entered}
use Rattle.check_procedures.proofs.opening.enter_procedure.Goals as goal

pub enter-requires : goal.enter-requires
enter-requires c = settled_waiting c.args.round.now c.args.state.now.declaring c.replace-forward.new.dest c.requires

pub returns-in-Ok-clause-settled : goal.returns-in-Ok-clause-settled
returns-in-Ok-clause-settled c = subst (λ d. IsSettled (deeper c.args.round.now d) c.enter.new.state) (sym c.in-Ok.ensures.outer.depth) c.in-Ok.ensures.settled

pub returns-in-Ok-clause-entered : goal.returns-in-Ok-clause-entered
returns-in-Ok-clause-entered c =
    is_entered c.args.round.now c.args.state.now c.replace-forward.new.dest (ap (λ v. v.items) c.replace-forward.ensures.after ∙ c.new.ensures.items) c.enter.new.state c.args.number _
    c.in-Ok.ensures.outer c.in-Ok.ensures.types (ap (λ v. v.items) c.replace-forward.ensures.value) c.in-Ok.ensures.makes

pub returns-in-Ok-clause-variables : goal.returns-in-Ok-clause-variables
returns-in-Ok-clause-variables c =
    subst (λ z. AreNumbered z.table.entries.items c.in-Ok.outer.variables.items) (sym c.in-Ok.ensures.types)
    (subst (λ v. AreNumbered c.args.state.now.declaring.types.table.entries.items v.items) (sym c.in-Ok.ensures.outer.variables) c.requires.variables)

pub returns-in-Ok-clause-deeper : goal.returns-in-Ok-clause-deeper
returns-in-Ok-clause-deeper c = subst (λ d. c.args.round.now.depth < d) (sym c.in-Ok.ensures.outer.depth) c.requires.open_scope
