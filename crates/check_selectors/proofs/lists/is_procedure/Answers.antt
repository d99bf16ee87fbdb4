use Rattle.std.proofs.Common.{◌≡◌, sym, ap, ◌∙◌, subst}
use Rattle.ob_judge.specs.Parts.{is_procedure}
use Rattle.check_types.specs.names.Worlds.{table_of}
use Rattle.check_selectors.specs.Stages.{IsBegun}
use Rattle.check_selectors.specs.declared.begun.Begun.{Begun}
use Rattle.check_selectors.proofs.lists.is_procedure.Goals as goal

pub returns-in-Variable : goal.returns-in-Variable
returns-in-Variable c = λ a h.
    let s = c.args.scope.now in
    ap is_procedure (sym (subst (λ (b : Begun). IsBegun s b a) c.in-Variable.is h).shape) ∙ c.is_procedure_type.ensures (table_of s)

pub returns-in-Value : goal.returns-in-Value
returns-in-Value c = λ a h.
    let s = c.args.scope.now in
    ap is_procedure (sym (subst (λ (b : Begun). IsBegun s b a) c.in-Value.is h).0.shape) ∙ c.is_procedure_type-in-Value.ensures (table_of s)
