-- What a designator names, as the definitions have it.
use Rattle.std.specs.Prelude.{ℕ, Option, Some, None}
use Rattle.ssa_lowered.specs.Values.{At, Beside, Object, Held}
use Rattle.ssa_lowered.specs.Values.{Named as NamedThing}
use Rattle.ssa_exprs.specs.declared.named.Named.{Named}
use Rattle.ssa_exprs.specs.declared.named.Named.TheVariants as The

abbrev pub named_of : Named → NamedThing
named_of (The.At a) = At a
named_of (The.Beside a b) = Beside a b
named_of (The.Object p) = Object p
named_of (The.Held x) = Held x

-- the variable, where it is in a register
abbrev pub held_in : NamedThing → Option ℕ
held_in (Held x) = Some x
held_in h = None
