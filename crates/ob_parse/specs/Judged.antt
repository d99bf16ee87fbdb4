-- What parse answers, in words of modules.
use Rattle.std.specs.Prelude.{◌≡◌, ℕ, List, length, Result, Ok, Err}
use Rattle.ob_grammar.specs.Trees.{Token, terminals}
use Rattle.ob_grammar.specs.Modules.{IsModule, Shallow, IsWrong, OpensTooMany}
use Rattle.ob_syntax.specs.declared.modules.Module.{Module}
use Rattle.ob_syntax.specs.Leaves.{numbered}
use Rattle.ob_syntax.specs.ModuleText.{module_text}
use Rattle.parse_steps.specs.declared.fault.ParseFault.{ParseFault}
use Rattle.parse_steps.specs.declared.fault.ParseFault.TheVariants.{Syntax, TooDeep, Memory}

-- The tree's terminals are all symbols in order, of the kinds that the grammar asks, and no 101st construct is open in it.
pub record IsTree (w : List ℕ) (m : Module) : Type 0 where
  pub text : module_text m ≡ numbered 0 w
  pub shallow : (v : List Token) → IsModule v → terminals v ≡ w → Shallow v (length w)

-- each fault stands exactly where it says
abbrev pub IsFault : List ℕ → ParseFault → Type 0
IsFault w (Syntax at) = IsWrong w at
IsFault w (TooDeep at) = OpensTooMany w at
IsFault w Memory = Unit {0}

-- a tree, unless there was no memory
abbrev pub IsTaken : Result Module ParseFault → Type 0
IsTaken (Ok m) = Unit {0}
IsTaken (Err (Syntax at)) = ⊥
IsTaken (Err (TooDeep at)) = ⊥
IsTaken (Err Memory) = Unit {0}
