use Rattle.std.proofs.Common.{subst}
use Rattle.ob_judge.specs.Scopes.{place}
use Rattle.check_types.specs.Known.{known_of}
use Rattle.check_selectors.specs.Stages.{IsBegun}
use Rattle.check_selectors.specs.declared.begun.Begun.{Begun}
use Rattle.check_selectors.proofs.Partless.{no_target}
use Rattle.check_selectors.proofs.parts.Reached.{refused}
use Rattle.check_selectors.proofs.selectors.target_of.Goals as goal

pub returns-in-Variable : goal.returns-in-Variable
returns-in-Variable c = λ a h. c.target.ensures a (subst (λ (x : Begun). IsBegun c.args.scope.now x a) c.in-Variable.is h)

pub returns : goal.returns
returns c = λ a h.
    let s = c.args.scope.now in
    refused 31 (place s.source.now c.args.symbol) _ c.fault.ensures (no_target (known_of s.types.now) a.shape (subst (λ (x : Begun). IsBegun s x a) c.in-Value.is h).1.shape)
