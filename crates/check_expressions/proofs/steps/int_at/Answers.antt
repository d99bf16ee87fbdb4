use Rattle.std.proofs.Common.{◌≡◌, ℤ, refl, ap, ◌∙◌}
use Rattle.ob_symbol.specs.declared.symbol.Kind.{Kind}
use Rattle.ob_symbol.specs.declared.symbol.Kind.TheVariants as TheKind
use Rattle.ob_symbol.specs.declared.symbol.Symbol.{Symbol}
use Rattle.ob_judge.specs.Parts.{int_of}
use Rattle.ob_judge.specs.Scopes.{Source, World}
use Rattle.check_types.specs.names.Worlds.{world_of}
use Rattle.check_expressions.proofs.steps.int_at.Goals as goal

no_int : (p : Source) (w : World) (k : Kind) → ((n : ℤ) → k ≡ TheKind.Int n → ⊥) → 0 ≡ int_of k
no_int p w (TheKind.Int n) h = absurd (h n refl)
no_int p w k h = refl

pub returns-in_default : goal.returns-in_default
returns-in_default c =
    let s = c.args.scope.now in
    no_int s.source.now (world_of s) c.symbol.result.kind c.in_default.not-Int ∙ ap (λ (z : Symbol). int_of z.kind) c.symbol.ensures
