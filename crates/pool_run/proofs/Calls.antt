-- What a seat needs to know of its trace, on a trace and its child.
use Rattle.std.proofs.Common.{◌≡◌, ℕ, List, [], ◌∷◌, Option, None, Some, refl, sym, subst}
use Rattle.pool_core.specs.declared.model.Stage.{Stage}
use Rattle.pool_core.specs.declared.model.Stage.TheVariants.{Trace}
use Rattle.pool_core.specs.Tree.{children}
use Rattle.trace_pool.specs.Plays.{trace_of}
use Rattle.trace_pool.specs.Sits.{HintsFit, MayStop}

-- a seat that has a trace has its own trace
pub has_its_trace : (st : Stage) (t : ℕ) → st ≡ Trace t 0 → st ≡ Trace (trace_of st) 0
has_its_trace st t is = subst (λ x. x ≡ Trace (trace_of x) 0) (sym is) refl

-- and may stop
pub may_stop : (st : Stage) (t : ℕ) → st ≡ Trace t 0 → MayStop st
may_stop st t is = subst MayStop (sym is) tt

abbrev Fits : ℕ → List (ℕ × ℕ) → Type 0
Fits t hints = HintsFit (λ u h. Unit {0}) (children (None ∷ (Some 0 ∷ [])) t) hints

first_fits : Fits 0 ((1, 700) ∷ [])
unfolding children
first_fits = (refl, tt, tt)

second_fits : Fits 1 []
unfolding children
second_fits = tt

-- trace 0 has one child, trace 1 none
pub first_hints_fit : (st : Stage) (t : ℕ) (hints : List (ℕ × ℕ)) → st ≡ Trace t 0 → t ≡ 0 → hints ≡ (1, 700) ∷ [] → Fits (trace_of st) hints
first_hints_fit st t hints is zeroth one = subst (λ x. Fits (trace_of x) hints) (sym is) (subst (λ u. Fits u hints) (sym zeroth) (subst (Fits 0) (sym one) first_fits))

pub second_hints_fit : (st : Stage) (t : ℕ) (hints : List (ℕ × ℕ)) → st ≡ Trace t 0 → t ≡ 1 → hints ≡ [] → Fits (trace_of st) hints
second_hints_fit st t hints is first none = subst (λ x. Fits (trace_of x) hints) (sym is) (subst (λ u. Fits u hints) (sym first) (subst (Fits 1) (sym none) second_fits))
