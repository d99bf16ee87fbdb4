-- The call that runs, as the meaning has it.
use Rattle.std.specs.Prelude.{ℕ, List}
use Rattle.ob_types.specs.Store.{Here, Act, Cell, Handed}
use Rattle.ob_types.specs.Expressions.{all_guarded}
use Rattle.ob_types.specs.Layout.{extends}
use Rattle.ob_types.specs.Statements.{Deed, change_number}
use Rattle.ob_types.specs.Meaning.{value, designated, at_most, kind_in, is_byte}
use Rattle.ob_types.specs.declared.program.Program.{Program}
use Rattle.ob_types.specs.declared.tree.Binary.{Binary}
use Rattle.ob_types.specs.declared.tree.Expr.{Expr}
use Rattle.ob_types.specs.declared.tree.Designator.{Designator}
use Rattle.eval_at_once.specs.declared.active.Active.{Active}

abbrev pub here_of : Active → Here
here_of x = record { procedure = x.procedure; frame = x.frame; arguments = x.arguments }

-- what an expression and a designator mean in it
abbrev pub value_in : Program → Active → Expr → Act Cell
value_in p x e = value p (at_most p x.fuel) (here_of x) e

abbrev pub handed_in : Program → Active → Designator → Act Handed
handed_in p x d = designated p (at_most p x.fuel) (here_of x) d

-- a value behind type guards
abbrev pub guarded_in : Program → Active → Act Cell → List ℕ → Act Cell
guarded_in p x c guards = all_guarded x.procedure (extends p.types) c guards

-- a number that a designator names, changed by an operator and a value
abbrev pub changed_in : Program → Active → Binary → Designator → Expr → Deed
changed_in p x operator d e = change_number x.procedure operator (handed_in p x d) (value_in p x e) (is_byte (kind_in d))
