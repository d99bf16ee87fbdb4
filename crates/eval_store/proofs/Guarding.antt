-- Guards of a pointer, one after the other.
use Rattle.std.proofs.Common.{◌≡◌, ℕ, List, [], ◌∷◌, sym, ap, ◌∙◌}
use Rattle.run_laws.specs.Turns.{State, Gives, after, give}
use Rattle.ob_types.specs.Store.{Cell, Store, Act}
use Rattle.ob_types.specs.Expressions.{Extension, guarded, all_guarded}
use Rattle.eval_store.specs.Did.{Stopped}
use Rattle.eval_store.specs.declared.stop.Stop.{Stop}
use Rattle.eval_store.specs.declared.stop.Stop.TheVariants.{Trapped, TurnsSpent, NoSense, NoMemory}
use Rattle.eval_store.proofs.Endings.{assoc, same, gives}

-- what they make of a value
pub guard_lead : (f : ℕ) (ext : Extension) (m : Act Cell) (rs : List ℕ) (s : State Store) → all_guarded f ext m rs s ≡ after (m s) (λ c. all_guarded f ext (give c) rs)
guard_lead f ext m [] s = gives (m s)
guard_lead f ext m (r ∷ rs) s =
    guard_lead f ext (guarded f ext m r) rs s
    ∙ assoc (m s) _ (λ c. all_guarded f ext (give c) rs)
    ∙ same (m s) (λ c t. sym (guard_lead f ext (guarded f ext (give c) r) rs t))

-- the first guard, and those behind it
pub guarded_on : (f : ℕ) (ext : Extension) (c d : Cell) (r : ℕ) (rs : List ℕ) (s : State Store) → guarded f ext (give c) r s ≡ Gives d s → all_guarded f ext (give c) (r ∷ rs) s ≡ all_guarded f ext (give d) rs s
guarded_on f ext c d r rs s h = guard_lead f ext (guarded f ext (give c) r) rs s ∙ ap (λ e. after e (λ c. all_guarded f ext (give c) rs)) h

pub guarded_stops : (f : ℕ) (ext : Extension) (c : Cell) (r : ℕ) (rs : List ℕ) (s : State Store) (stop : Stop) (out : List ℕ) → Stopped (guarded f ext (give c) r s) stop out → Stopped (all_guarded f ext (give c) (r ∷ rs) s) stop out
guarded_stops f ext c r rs s (Trapped kind g) out h = guard_lead f ext (guarded f ext (give c) r) rs s ∙ ap (λ e. after e (λ c. all_guarded f ext (give c) rs)) h
guarded_stops f ext c r rs s TurnsSpent out h = guard_lead f ext (guarded f ext (give c) r) rs s ∙ ap (λ e. after e (λ c. all_guarded f ext (give c) rs)) h
guarded_stops f ext c r rs s NoSense out h = guard_lead f ext (guarded f ext (give c) r) rs s ∙ ap (λ e. after e (λ c. all_guarded f ext (give c) rs)) h
guarded_stops f ext c r rs s NoMemory out h = tt
