use Rattle.std.proofs.Common.{◌≡◌, ℕ, refl, ap, ◌∙◌}
use Rattle.ob_symbol.specs.declared.symbol.Kind.{Kind}
use Rattle.ob_symbol.specs.declared.symbol.Kind.TheVariants as TheKind
use Rattle.ob_symbol.specs.declared.symbol.Symbol.{Symbol}
use Rattle.ob_judge.specs.Parts.{char_of}
use Rattle.ob_judge.specs.Scopes.{Source, World}
use Rattle.check_types.specs.names.Worlds.{world_of}
use Rattle.check_expressions.proofs.steps.char_at.Goals as goal

no_char : (p : Source) (w : World) (k : Kind) → ((n : ℕ) → k ≡ TheKind.Char n → ⊥) → 0 ≡ char_of k
no_char p w (TheKind.Char n) h = absurd (h n refl)
no_char p w k h = refl

pub returns-in_default : goal.returns-in_default
returns-in_default c =
    let s = c.args.scope.now in
    no_char s.source.now (world_of s) c.symbol.result.kind c.in_default.not-Char ∙ ap (λ (z : Symbol). char_of z.kind) c.symbol.ensures
