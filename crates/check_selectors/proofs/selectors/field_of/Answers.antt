use Rattle.std.proofs.Common.{subst}
use Rattle.ob_judge.specs.Scopes.{place}
use Rattle.check_types.specs.names.Worlds.{world_of}
use Rattle.check_selectors.specs.Stages.{IsBegun}
use Rattle.check_selectors.specs.declared.begun.Begun.{Begun}
use Rattle.check_selectors.proofs.Partless.{no_record}
use Rattle.check_selectors.proofs.parts.Reached.{refused}
use Rattle.check_selectors.proofs.selectors.field_of.Goals as goal

pub returns-in-Variable : goal.returns-in-Variable
returns-in-Variable c = λ a h. c.field.ensures a (subst (λ (x : Begun). IsBegun c.args.scope.now x a) c.in-Variable.is h)

pub returns : goal.returns
returns c = λ a h.
    let s = c.args.scope.now in
    refused 31 (place s.source.now c.args.symbol) _ c.fault.ensures (no_record s.source.now (world_of s) a (subst (λ (x : Begun). IsBegun s x a) c.in-Value.is h).1)
