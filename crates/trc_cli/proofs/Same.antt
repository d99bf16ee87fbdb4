-- Verdicts that come to the same.
use Rattle.std.proofs.Common.{◌≡◌, ◌∙◌, refl, sym, subst}
use Rattle.trc_answers.specs.Verdict.{Verdict}
use Rattle.trc_cli.specs.Laws.{Alike}

pub alike : (v : Verdict) → Alike v v
alike v = record { cause = refl; written = refl; files = refl }

-- two that are one verdict
pub both : (a b v : Verdict) → a ≡ v → b ≡ v → Alike a b
both a b v e f = subst (λ x. Alike a x) (sym f) (subst (λ x. Alike x v) (sym e) (alike v))

-- each is the same as the other
pub two : (a b v w : Verdict) → v ≡ w → a ≡ v → b ≡ w → Alike a b
two a b v w same e f = both a b v e (f ∙ sym same)
