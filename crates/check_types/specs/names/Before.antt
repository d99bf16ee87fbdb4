-- Names but for those of later procedures.
use Rattle.std.specs.Prelude.{ℕ, List, Bool, false, if◌then◌else◌, nat_le, Option, Some, None}
use Rattle.ob_judge.specs.Scopes.{Object, AProcedure, Entry}

-- a procedure behind so many
abbrev pub is_behind : (count : ℕ) → Object → Bool
is_behind count (AProcedure f s is_local) = nat_le count f
is_behind count o = false

abbrev pub unless_behind : (count : ℕ) → Option Entry → Option Entry
unless_behind count None = None
unless_behind count (Some x) = if is_behind count x.object then None else Some x

-- of one scope, as there were so many procedures
abbrev pub names_before : (count : ℕ) → (List ℕ → Option Entry) → List ℕ → Option Entry
names_before count names q = unless_behind count (names q)
