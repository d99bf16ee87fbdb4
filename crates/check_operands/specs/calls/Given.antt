-- Which argument of the judgement an argument is.
use Rattle.std.specs.Prelude.{◌≡◌, ℕ, List, [], ◌∷◌, Vec, Option, Some, None}
use Rattle.std.specs.Global.{Global}
use Rattle.ob_types.specs.declared.tree.Argument.{Argument}
use Rattle.ob_types.specs.declared.statements.Checked.{Checked}
use Rattle.ob_judge.specs.Image as I
use Rattle.ob_judge.specs.Scopes.{place}
use Rattle.ob_judge.specs.Operands.{What, Code, Operand as Judgement}
use Rattle.ob_judge.specs.Calls as J
use Rattle.judged_tree.specs.Plain.{plain_argument, plain_checked}
use Rattle.judged_tree.specs.Outline.{outlined_argument, outlined_arguments, outlined_checked}
use Rattle.check_operands.specs.trees.Lists.{each_argument}
use Rattle.check_types.specs.declared.types.TypeRef.{TypeRef}
use Rattle.check_types.specs.TypeMeaning.{type_shape}
use Rattle.check_types.specs.declared.names.scope.Scope.{Scope}
use Rattle.check_types.specs.names.Worlds.{table_of}
use Rattle.check_operands.specs.declared.operand.Operand.{Operand}
use Rattle.check_operands.specs.Operands.{texts_of, bases_of, Stands}
use Rattle.check_operands.specs.declared.calls.arguments.Given.{Given}

-- this is the value as it is stored in a variable of the type
abbrev pub IsStored : Scope → TypeRef → Operand → Checked → Type 0
IsStored s to x e = (a : Judgement) → Stands s x a → plain_checked (table_of s) (texts_of s) e ≡ outlined_checked (bases_of s) (J.stored (type_shape (table_of s) to) a)

-- walked
pub record IsGiven (s : Scope) (x : Given) (a : J.Given) : Type 0 where
  pub at : place s.source.now x.symbol ≡ a.at
  pub operand : Stands s x.operand a.operand

-- and all of a list, one by one
abbrev pub AreGiven : Scope → List Given → List J.Given → Type 0
AreGiven s [] [] = Unit {0}
AreGiven s (x ∷ xs) (a ∷ bs) = IsGiven s x a × AreGiven s xs bs
AreGiven s xs bs = ⊥

-- and for its parameter
abbrev pub IsArgument : Scope → Argument → I.Argument → Type 0
IsArgument s x a = plain_argument (table_of s) (texts_of s) x ≡ outlined_argument (bases_of s) a

-- and for all parameters
abbrev pub AreArguments : Scope → Vec Argument Global → I.Arguments → Type 0
AreArguments s xs bs = each_argument (table_of s) (texts_of s) xs.items ≡ outlined_arguments (bases_of s) bs

-- the number of a declared procedure
abbrev pub code_in : What → Option ℕ
code_in (Code f l) = Some f
code_in w = None
