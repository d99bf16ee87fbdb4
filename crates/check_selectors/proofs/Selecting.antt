-- A selector behind each kind of stage; what a stage of the code tells of the judgement's.
use Rattle.std.proofs.Common.{◌≡◌, ℕ, List, [], Option, Some, None, refl, ap}
use Rattle.ob_syntax.specs.Syntax as S
use Rattle.ob_judge.specs.Judged.{Judged, Keeps, Breaks, ◌>>=◌}
use Rattle.ob_judge.specs.Scopes.{Object, AConstant, AType, AVariable, AProcedure, AStandard, AModule, Standard, Imported, World, Source}
use Rattle.ob_judge.specs.Operands as J
use Rattle.ob_judge.specs.Symbols.{bare_list}
use Rattle.ob_judge.specs.Names.{Stage, Whole, Partly, Ended, member, begun}
use Rattle.ob_judge.specs.Parts.{guard_name}
use Rattle.ob_judge.specs.Expressions.{select, arguments}
use Rattle.check_types.specs.declared.names.scope.Named.{Named}
use Rattle.check_types.specs.declared.names.scope.Scope.{Scope}
use Rattle.check_types.specs.names.Meaning.{object_of}
use Rattle.check_types.specs.names.Worlds.{table_of, strings_of}
use Rattle.check_operands.specs.Operands.{Stands}
use Rattle.check_operands.specs.declared.operand.Operand.{Operand}
use Rattle.check_selectors.specs.declared.parts.part.Part.{Part}
use Rattle.check_selectors.specs.parts.Parts.{IsPart}
use Rattle.check_selectors.specs.Stages.{IsStage}
use Rattle.check_selectors.specs.declared.stage.Stage.TheVariants as TheStage
use Rattle.check_selectors.specs.Behind.{module_in, standard_in, member_behind, field_behind, target_behind, index_behind, standard_behind, call_behind, guard_behind, list_behind, parens_behind, arguments_behind, parens_at, parens_behind_any}

module _ (p : Source) (w : World) (at : ℕ) where
  pub member_is : (a : Stage) (m : Imported) (period i : ℕ) → module_in a ≡ Some m → select p w at a (S.Field period i) ≡ member_behind p w m i
  member_is (Whole (AConstant c)) m period i h = cc
  member_is (Whole (AType t)) m period i h = cc
  member_is (Whole (AVariable v)) m period i h = cc
  member_is (Whole (AProcedure n t v)) m period i h = cc
  member_is (Whole (AStandard r)) m period i h = cc
  member_is (Whole (AModule k)) m period i h = let e : k ≡ m = cc in ap (λ z. member_behind p w z i) e
  member_is (Partly x) m period i h = cc
  member_is (Ended x) m period i h = cc

  pub field_is : (a : Stage) (period i : ℕ) → module_in a ≡ None → select p w at a (S.Field period i) ≡ field_behind p w at i a
  field_is (Whole (AConstant c)) period i h = refl
  field_is (Whole (AType t)) period i h = refl
  field_is (Whole (AVariable v)) period i h = refl
  field_is (Whole (AProcedure n t v)) period i h = refl
  field_is (Whole (AStandard r)) period i h = refl
  field_is (Whole (AModule k)) period i h = cc
  field_is (Partly x) period i h = refl
  field_is (Ended x) period i h = refl

  pub arrow_is : (a : Stage) (arrow : ℕ) → select p w at a (S.Arrow arrow) ≡ target_behind p w at a
  arrow_is (Whole (AConstant c)) arrow = refl
  arrow_is (Whole (AType t)) arrow = refl
  arrow_is (Whole (AVariable v)) arrow = refl
  arrow_is (Whole (AProcedure n t v)) arrow = refl
  arrow_is (Whole (AStandard r)) arrow = refl
  arrow_is (Whole (AModule k)) arrow = refl
  arrow_is (Partly x) arrow = refl
  arrow_is (Ended x) arrow = refl

  pub index_is : (a : Stage) (l : ℕ) (list : S.Expressions) (r : ℕ) → select p w at a (S.Index l list r) ≡ index_behind p w at list a
  index_is (Whole (AConstant c)) l list r = refl
  index_is (Whole (AType t)) l list r = refl
  index_is (Whole (AVariable v)) l list r = refl
  index_is (Whole (AProcedure n t v)) l list r = refl
  index_is (Whole (AStandard t)) l list r = refl
  index_is (Whole (AModule k)) l list r = refl
  index_is (Partly x) l list r = refl
  index_is (Ended x) l list r = refl

  pub empty_standard_is : (a : Stage) (s : Standard) (l r : ℕ) → standard_in a ≡ Some s → select p w at a (S.EmptyParens l r) ≡ standard_behind p w at s []
  empty_standard_is (Whole (AConstant c)) s l q h = cc
  empty_standard_is (Whole (AType t)) s l q h = cc
  empty_standard_is (Whole (AVariable v)) s l q h = cc
  empty_standard_is (Whole (AProcedure n t v)) s l q h = cc
  empty_standard_is (Whole (AStandard r)) s l q h = let e : r ≡ s = cc in ap (λ z. standard_behind p w at z []) e
  empty_standard_is (Whole (AModule k)) s l q h = cc
  empty_standard_is (Partly x) s l q h = cc
  empty_standard_is (Ended x) s l q h = cc

  pub empty_is : (a : Stage) (l r : ℕ) → standard_in a ≡ None → select p w at a (S.EmptyParens l r) ≡ (begun p w at a >>= call_behind p w at [])
  empty_is (Whole (AConstant c)) l q h = refl
  empty_is (Whole (AType t)) l q h = refl
  empty_is (Whole (AVariable v)) l q h = refl
  empty_is (Whole (AProcedure n t v)) l q h = refl
  empty_is (Whole (AStandard r)) l q h = cc
  empty_is (Whole (AModule k)) l q h = refl
  empty_is (Partly x) l q h = refl
  empty_is (Ended x) l q h = refl

  pub parens_standard_is : (a : Stage) (s : Standard) (l : ℕ) (list : S.Expressions) (r : ℕ) → standard_in a ≡ Some s → select p w at a (S.Parens l list r) ≡ arguments_behind p w at list s
  parens_standard_is (Whole (AConstant c)) s l list q h = cc
  parens_standard_is (Whole (AType t)) s l list q h = cc
  parens_standard_is (Whole (AVariable v)) s l list q h = cc
  parens_standard_is (Whole (AProcedure n t v)) s l list q h = cc
  parens_standard_is (Whole (AStandard r)) s l list q h = let e : r ≡ s = cc in ap (λ z. arguments_behind p w at list z) e
  parens_standard_is (Whole (AModule k)) s l list q h = cc
  parens_standard_is (Partly x) s l list q h = cc
  parens_standard_is (Ended x) s l list q h = cc

  list_is : (list : S.Expressions) (x : J.Operand) (q : Option (ℕ × Option ℕ)) →
      elim q as (λ _. Judged Stage) [
        | Some n ↦ guard_behind p w at n x
        | None ↦ arguments p w list >>= λ xs. call_behind p w at xs x
      ] ≡ list_behind p w at list x q
  list_is list x None = refl
  list_is list x (Some n) = refl

  alike_on : {A B : Type 0} (m : Judged A) (f g : A → Judged B) → ((a : A) → f a ≡ g a) → (m >>= f) ≡ (m >>= g)
  alike_on (Keeps a) f g h = h a
  alike_on (Breaks n k) f g h = refl

  pub parens_is : (a : Stage) (l : ℕ) (list : S.Expressions) (r : ℕ) → standard_in a ≡ None → select p w at a (S.Parens l list r) ≡ parens_behind p w at list a
  parens_is (Whole (AConstant c)) l list q h = alike_on (begun p w at (Whole (AConstant c))) _ _ (λ x. list_is list x (guard_name x (bare_list list)))
  parens_is (Whole (AType t)) l list q h = alike_on (begun p w at (Whole (AType t))) _ _ (λ x. list_is list x (guard_name x (bare_list list)))
  parens_is (Whole (AVariable v)) l list q h = alike_on (begun p w at (Whole (AVariable v))) _ _ (λ x. list_is list x (guard_name x (bare_list list)))
  parens_is (Whole (AProcedure n t v)) l list q h = alike_on (begun p w at (Whole (AProcedure n t v))) _ _ (λ x. list_is list x (guard_name x (bare_list list)))
  parens_is (Whole (AStandard r)) l list q h = cc
  parens_is (Whole (AModule k)) l list q h = alike_on (begun p w at (Whole (AModule k))) _ _ (λ x. list_is list x (guard_name x (bare_list list)))
  parens_is (Partly x) l list q h = alike_on (begun p w at (Partly x)) _ _ (λ x. list_is list x (guard_name x (bare_list list)))
  parens_is (Ended x) l list q h = alike_on (begun p w at (Ended x)) _ _ (λ x. list_is list x (guard_name x (bare_list list)))

  parens_any : (a : Stage) (l : ℕ) (list : S.Expressions) (r : ℕ) (o : Option Standard) → standard_in a ≡ o → select p w at a (S.Parens l list r) ≡ parens_at p w at list a o
  parens_any a l list r (Some s) h = parens_standard_is a s l list r h
  parens_any a l list r None h = parens_is a l list r h

  pub parens_any_is : (a : Stage) (l : ℕ) (list : S.Expressions) (r : ℕ) → select p w at a (S.Parens l list r) ≡ parens_behind_any p w at list a
  parens_any_is a l list r = parens_any a l list r (standard_in a) refl

-- ---- the judgement's stage

pub whole_is : (s : Scope) (n : Named) (a : Stage) → IsStage s (TheStage.Whole n) a → Whole (object_of (table_of s) (strings_of s) n) ≡ a
whole_is s n (Whole o) h = ap Whole h
whole_is s n (Partly x) h = absurd h
whole_is s n (Ended x) h = absurd h

pub partly_is : (s : Scope) (x : Part) (a : Stage) → IsStage s (TheStage.Partly x) a → (b : J.Operand) × (Partly b ≡ a) × IsPart s x b
partly_is s x (Whole o) h = absurd h
partly_is s x (Partly b) h = (b, refl, h)
partly_is s x (Ended b) h = absurd h

pub ended_is : (s : Scope) (x : Operand) (a : Stage) → IsStage s (TheStage.Ended x) a → (b : J.Operand) × (Ended b ≡ a) × Stands s x b
ended_is s x (Whole o) h = absurd h
ended_is s x (Partly b) h = absurd h
ended_is s x (Ended b) h = (b, refl, h)
