-- Statements and branches put together, and what they stand for.
use Rattle.std.proofs.Common.{◌≡◌, ℕ, ℤ, List, [], Vec, Global, Option, Some, None, Ok, refl, sym, ap, ap₂, ◌∙◌}
use Rattle.std.specs.Prelude.{option_map}
use Rattle.ob_types.proofs.Tests.{none_some}
use Rattle.ob_types.specs.Table.{Table}
use Rattle.ob_types.specs.declared.statements.Stmt.{Stmt}
use Rattle.ob_types.specs.declared.statements.Branch.{Branch}
use Rattle.ob_types.specs.declared.statements.Checked.{Checked}
use Rattle.ob_types.specs.declared.tree.Designator.{Designator}
use Rattle.ob_judge.specs.Judged.{Judged, Keeps, ◌>>=◌}
use Rattle.ob_judge.specs.Image as I
use Rattle.judged_tree.specs.Plain.{plain_designator, plain_checked, plain_statement, plain_body}
use Rattle.judged_tree.specs.Outline.{outlined_statement, outlined_statements, outlined_branches}
use Rattle.check_statements.specs.trees.Onto.{statements_onto, branches_onto}
use Rattle.check_statements.proofs.trees.Rows.{statements_all}
use Rattle.check_statements.specs.steps.Steps.{JudgedHead}
use Rattle.check_types.specs.steps.Answers.{Answers}
use Rattle.check_types.proofs.steps.Answering.{goes_on}
use Rattle.check_types.specs.declared.names.scope.Scope.{Scope}
use Rattle.check_types.specs.names.Worlds.{table_of}
use Rattle.check_operands.specs.Operands.{texts_of, bases_of}
use Rattle.check_selectors.specs.standard.Made.{IsChecked}
use Rattle.check_statements.specs.assignments.Assigned.{IsStatement}
use Rattle.check_statements.specs.declared.heads.Head.{Head}
use Rattle.check_statements.specs.Standing.{AreStatements, put_made, IsPut, ArePut, ArePutBranches, AreBranches, IsHead}

module _ (s : Scope) where
  -- no statement
  pub none_put : (v : Vec Stmt Global) → v.items ≡ [] → ArePut s v (λ rest. rest)
  none_put v h = λ rest. ap (λ l. statements_onto (table_of s) (texts_of s) l (outlined_statements (bases_of s) rest)) h

  -- one more
  pub one_put : (v so_far : Vec Stmt Global) (a f : I.Statements → I.Statements) (made : Option Stmt) → ArePut s so_far a → IsPut s made f →
      ((t : Table) (texts : List (List ℕ)) (rest : I.Statements) → statements_onto t texts v.items rest ≡ statements_onto t texts so_far.items (put_made t texts made rest)) →
      ArePut s v (λ rest. a (f rest))
  one_put v so_far a f made h k g = λ rest.
      g (table_of s) (texts_of s) (outlined_statements (bases_of s) rest)
      ∙ ap (statements_onto (table_of s) (texts_of s) so_far.items) (k rest)
      ∙ h (f rest)

  -- no more
  pub all_put : (v : Vec Stmt Global) (a : I.Statements → I.Statements) → ArePut s v a → AreStatements s v (a I.no_statement)
  all_put v a h = sym (statements_all (table_of s) (texts_of s) v.items) ∙ h I.no_statement

  pub made_put : (m : Judged I.Statement) (x : Stmt) → Answers (IsStatement s) m (Ok x) → Answers (IsPut s) (m >>= λ d. Keeps (I.next_statement d)) (Ok (Some x))
  made_put m x h = goes_on m (λ d. Keeps (I.next_statement d)) h (λ d k. record { by = λ rest. ap (λ z. I.next_statement z (outlined_statements (bases_of s) rest)) k })

  -- ---- branches

  pub no_branch_put : (v : Vec Branch Global) → v.items ≡ [] → ArePutBranches s v (λ rest. rest)
  no_branch_put v h = λ rest. ap (λ l. branches_onto (table_of s) (texts_of s) l (outlined_branches (bases_of s) rest)) h

  pub branch_put : (v so_far : Vec Branch Global) (a : I.Branches → I.Branches) (x : Checked) (g : I.Checked) (body : Vec Stmt Global) (b : I.Statements) →
      ArePutBranches s so_far a → IsChecked s x g → AreStatements s body b →
      ((t : Table) (texts : List (List ℕ)) (rest : I.Branches) →
      branches_onto t texts v.items rest ≡ branches_onto t texts so_far.items (I.next_branch (plain_checked t texts x) (plain_body t texts body.items) rest)) →
      ArePutBranches s v (λ rest. a (I.next_branch g b rest))
  branch_put v so_far a x g body b h k l made = λ rest.
      made (table_of s) (texts_of s) (outlined_branches (bases_of s) rest)
      ∙ ap₂ (λ y z. branches_onto (table_of s) (texts_of s) so_far.items (I.next_branch y z (outlined_branches (bases_of s) rest))) k l
      ∙ h (I.next_branch g b rest)

  -- ---- FOR

  for_same : {d e : I.Designator} {x y z w : I.Checked} {m n : ℤ} {b c : I.Statements} → d ≡ e → x ≡ y → z ≡ w → m ≡ n → b ≡ c → I.For d x z m b ≡ I.For e y w n c
  for_same {d} {e} {x} {y} {z} {w} {m} {n} {b} {c} f g h k l =
      ap (λ u. I.For u x z m b) f ∙ ap (λ u. I.For e u z m b) g ∙ ap (λ u. I.For e y u m b) h ∙ ap (λ u. I.For e y w u b) k ∙ ap (I.For e y w n) l

  pub for_made : (made : Stmt) (x : Head) (a : JudgedHead) (body : Vec Stmt Global) (b : I.Statements) (step : ℤ) → step ≡ x.step → IsHead s x a → AreStatements s body b →
      ((t : Table) (texts : List (List ℕ)) → plain_statement t texts made ≡ I.For (plain_designator t texts x.variable) (plain_checked t texts x.first) (plain_checked t texts x.limit) step (plain_body t texts body.items)) →
      IsStatement s made (I.For a.variable a.first a.limit a.step b)
  for_made made x a body b step e h k g = g (table_of s) (texts_of s) ∙ for_same h.variable h.first h.limit (e ∙ h.step) k

-- ---- what an image is of

pub no_image : {A B : Type 0} (f : A → B) (o : Option A) → None ≡ option_map f o → o ≡ None
no_image f None h = refl
no_image f (Some a) h = cc

pub an_image : {A B : Type 0} (f : A → B) (o : Option A) (b : B) → Some b ≡ option_map f o → (a : A) × (o ≡ Some a) × (b ≡ f a)
an_image f None b h = none_some b (sym h)
an_image f (Some a) b h = (a, refl, cc)
