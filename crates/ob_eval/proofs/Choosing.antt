-- Parts of CASE: whether the first one is chosen.
use Rattle.std.proofs.Common.{◌≡◌, ◌+◌, ◌<◌, ◌≤◌, ℕ, List, ◌∷◌, Bool, Option, ap, ◌∙◌, arith}
use Rattle.std.specs.Prelude.{true, if◌then◌else◌}
use Rattle.run_laws.specs.Turns.{State, ◌>>=◌, give}
use Rattle.ob_types.specs.Table.{Table}
use Rattle.ob_types.specs.Layout.{extends}
use Rattle.ob_types.specs.Store.{Store, Act, Here}
use Rattle.ob_types.specs.Operators.{labels_have}
use Rattle.ob_types.specs.Expressions.{Calls, is_of}
use Rattle.ob_types.specs.Meaning.{effects_of}
use Rattle.ob_types.specs.declared.statements.Stmt.{Stmt}
use Rattle.ob_types.specs.declared.statements.CasePart.{CasePart}
use Rattle.ob_types.specs.declared.statements.TypePart.{TypePart}
use Rattle.ob_types.specs.declared.program.Program.{Program}
use Rattle.eval_at_once.specs.Lists.{case_parts_by, type_parts_by}

module _ (p : Program) (calls : Calls) (here : Here) (fuel : ℕ) (s : State Store) where
  abbrev does : List Stmt → Act Bool
  does l = effects_of p calls here fuel l >>= λ _. give true

  pub case_tested : (v : ℕ) (c : CasePart) (ps : List CasePart) (ok : Bool) → labels_have v c.labels ≡ ok → case_parts_by p calls here fuel v (c ∷ ps) s ≡ (if ok then does c.body.items else case_parts_by p calls here fuel v ps) s
  case_tested v c ps ok h = ap (λ ok. (if ok then does c.body.items else case_parts_by p calls here fuel v ps) s) h

  pub type_tested : (t : Option ℕ) (types : Table) (c : TypePart) (ps : List TypePart) (ok : Bool) → p.types ≡ types → is_of (extends types) t c.«record» ≡ ok → type_parts_by p calls here fuel t (c ∷ ps) s ≡ (if ok then does c.body.items else type_parts_by p calls here fuel t ps) s
  type_tested t types c ps ok e h = ap (λ ok. (if ok then does c.body.items else type_parts_by p calls here fuel t ps) s) (ap (λ T. is_of (extends T) t c.«record») e ∙ h)

pub more_lighter : (k a b n : ℕ) → 0 < k → k + (a + b) ≤ n → b ≤ n
more_lighter k a b n h l = omega (arith, h, l)

pub first_lighter : (k a b n : ℕ) → 0 < k → k + (a + b) ≤ n → a < n
first_lighter k a b n h l = omega (arith, h, l)
