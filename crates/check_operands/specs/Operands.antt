-- What an operand of the code stands for.
use Rattle.std.specs.Prelude.{◌≡◌, ℕ, List, [], ◌∷◌, ◌++◌, ◌+◌, ◌-◌, map, Option, Result, slice_index_or}
use Rattle.ob_symbol.specs.declared.symbol.Symbol.{Symbol}
use Rattle.ob_types.specs.Table.{Table}
use Rattle.ob_judge.specs.Judged.{Judged}
use Rattle.ob_judge.specs.Scopes.{part}
use Rattle.ob_judge.specs.Operands as J
use Rattle.ob_judge.specs.Image as I
use Rattle.judged_tree.specs.Plain.{plain_expr, plain_statement}
use Rattle.judged_tree.specs.Outline.{outlined_place, outlined_expr, outlined_statement}
use Rattle.check_operands.specs.trees.Lists.{place_image}
use Rattle.check_types.specs.declared.steps.fault.CheckFault.{CheckFault}
use Rattle.check_types.specs.steps.Answers.{Answers}
use Rattle.check_types.specs.TypeMeaning.{type_shape}
use Rattle.check_types.specs.declared.names.scope.Scope.{Scope}
use Rattle.check_types.specs.names.Worlds.{table_of, strings_of}
use Rattle.check_operands.specs.declared.operand.Operand.{Operand}
use Rattle.check_operands.specs.declared.operand.Use.{Use}
use Rattle.check_operands.specs.declared.operand.Use.TheVariants as TheUse
use Rattle.check_operands.specs.declared.operand.What.{What}
use Rattle.check_operands.specs.declared.operand.What.TheVariants as TheWhat

-- a symbol's characters, without quotes
abbrev pub between_quotes : List ℕ → Symbol → List ℕ
between_quotes bytes x = part bytes (x.from + 1) (x.to - 1)

-- the strings that trees may name by their numbers while they are made: for each symbol its characters, then none, then
-- the characters of string constants
abbrev pub texts_of : Scope → List (List ℕ)
texts_of s = map (between_quotes s.source.now.bytes) s.source.now.symbols ++ [] ∷ strings_of s

abbrev pub bases_of : Scope → List (Option ℕ)
bases_of s = s.types.now.bases.items

abbrev pub use_of : Use → J.Use
use_of (TheUse.Variable r t n) = J.AsVariable r t n
use_of TheUse.Constant = J.AsConstant
use_of TheUse.Value = J.AsValue

-- what an operand is, without memory
module _ (t : Table) (texts : List (List ℕ)) where
  abbrev pub what_image : What → J.What
  what_image (TheWhat.Named p) = J.Named (place_image t texts p)
  what_image (TheWhat.Valued v) = J.Valued (plain_expr t texts v.tree)
  what_image (TheWhat.Chars k) = J.Chars (slice_index_or texts k [])
  what_image (TheWhat.Code f l) = J.Code f l
  what_image (TheWhat.Proper d) = J.Proper (plain_statement t texts d.value)

-- and as far as a checked tree tells of it
abbrev pub outlined_what : List (Option ℕ) → J.What → J.What
outlined_what bases (J.Named d) = J.Named (outlined_place bases d)
outlined_what bases (J.Valued x) = J.Valued (outlined_expr bases x)
outlined_what bases (J.Chars cs) = J.Chars cs
outlined_what bases (J.Code f l) = J.Code f l
outlined_what bases (J.Proper d) = J.Proper (outlined_statement bases d)

-- the code's operand stands for this one
pub record Stands (s : Scope) (o : Operand) (x : J.Operand) : Type 0 where
  pub shape : type_shape (table_of s) o.of ≡ x.shape
  pub what : what_image (table_of s) (texts_of s) o.what ≡ outlined_what (bases_of s) x.what
  pub usage : use_of o.usage ≡ x.use_

-- whatever an operand stands for, the answer is what the judgement makes of that
abbrev pub Judges : Scope → Operand → (J.Operand → Judged J.Operand) → Result Operand CheckFault → Type 0
Judges s x m r = (a : J.Operand) → Stands s x a → Answers (Stands s) (m a) r

-- the same of two operands
abbrev pub JudgesBoth : Scope → (x y : Operand) → (J.Operand → J.Operand → Judged J.Operand) → Result Operand CheckFault → Type 0
JudgesBoth s x y m r = (a b : J.Operand) → Stands s x a → Stands s y b → Answers (Stands s) (m a b) r

-- the first of some characters, or 0
abbrev pub first_or_none : List ℕ → ℕ
first_or_none [] = 0
first_or_none (c ∷ cs) = c
