-- The number is that of the symbol's kind, and 0 where it is no integer.
use Rattle.std.proofs.Common.{◌≡◌, ℤ, pos, refl, ap, sym, ◌∙◌}
use Rattle.wrapping_numbers.specs.Numbers.{signed}
use Rattle.ob_symbol.specs.declared.Kind.{Kind}
use Rattle.ob_symbol.specs.declared.Kind.TheVariants.{Int, Ident, Char, Text, Word, Mark}
use Rattle.ob_judge.specs.Scopes.{Source, World}
use Rattle.ob_judge.specs.Parts.{int_of}
use Rattle.check_types.specs.names.Worlds.{world_of}
use Rattle.check_statements.proofs.cases.labels.number_at.Goals as goal

no_integer : (p : Source) (w : World) (k : Kind) → ((n : ℤ) → k ≡ Int n → ⊥) → pos 0 ≡ signed (int_of k)
no_integer p w (Int n) other = absurd (other n refl)
no_integer p w Ident other = refl
no_integer p w (Char n) other = refl
no_integer p w Text other = refl
no_integer p w (Word r) other = refl
no_integer p w (Mark d) other = refl

pub returns-in-Int : goal.returns-in-Int
returns-in-Int c = ap (λ k. signed (int_of k)) (sym c.in-Int.is ∙ ap (λ s. s.kind) c.symbol.ensures)

pub returns-in_default : goal.returns-in_default
returns-in_default c = no_integer c.args.scope.now.source.now (world_of c.args.scope.now) c.symbol.result.kind c.in_default.not-Int
    ∙ ap (λ s. signed (int_of s.kind)) c.symbol.ensures
