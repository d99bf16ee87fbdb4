-- Names judged: what a name, a member of a module and a qualident stand for, and a name as an operand.
use Rattle.std.specs.Prelude.{ℕ, List, [], ◌∷◌, Bool, true, false, ◌&&◌, if◌then◌else◌, nat_eq, Option, Some, None, slice_get}
use Rattle.ob_syntax.specs.declared.names.Member.{Member}
use Rattle.ob_judge.specs.Judged.{Judged, Keeps, Breaks, ◌>>=◌, ◌>>◌, rule, some}
use Rattle.ob_judge.specs.Shapes.{Shape, is_pointer}
use Rattle.ob_judge.specs.Image.{Guard, Place, Global, Local, Parameter, Narrow}
use Rattle.ob_judge.specs.Scopes.{Object, AConstant, AType, AVariable, AProcedure, AModule, Imported, TheOut, TheIn, Earlier, Variable, Entry, KnownModule, Narrowing, World, Source, no_names, look_up, is_visible, place, spelled}
use Rattle.ob_judge.specs.Standards.{names_of_out, names_of_in}
use Rattle.ob_judge.specs.Operands.{Operand, operand, Named, Valued, Code, AsVariable, AsValue, form, place_of, whole_variable, of_constant}

-- what a designator has come to: a name alone, a part of what it names, or a call, which is last
pub data Stage : Type 0 where
  Whole : Object → Stage
  Partly : Operand → Stage
  Ended : Operand → Stage

abbrev pub names_in : Option KnownModule → List ℕ → Option Entry
names_in None = no_names
names_in (Some m) = m.names

abbrev pub type_of_object : Object → Option Shape
type_of_object (AType s) = Some s
type_of_object o = None

abbrev pub member_symbol : Option Member → Option ℕ
member_symbol None = None
member_symbol (Some m) = Some m.name

abbrev pub is_place : Place → Place → Bool
is_place (Global m v) (Global n u) = nat_eq m n && nat_eq v u
is_place (Local v) (Local u) = nat_eq v u
is_place (Parameter v) (Parameter u) = nat_eq v u
is_place d e = false

abbrev pub narrowing_of : Place → List Narrowing → Option Narrowing
narrowing_of d [] = None
narrowing_of d (n ∷ ns) = if is_place d n.variable then Some n else narrowing_of d ns

-- in a part of a CASE on types each read of the variable is its guard
abbrev pub narrowed_to : Operand → Bool → Option Narrowing → Operand
narrowed_to x pointer None = x
narrowed_to x true (Some n) = operand n.shape (Valued (Guard (form x) n.tag)) (AsVariable false false true)
narrowed_to x false (Some n) = operand n.shape (Named (Narrow (place_of x) n.tag)) (AsVariable false true true)

module _ (p : Source) (w : World) where
  -- 30, 34: a name is declared, and seen here
  abbrev pub named : ℕ → Judged Object
  named i = do
    entry ← some 30 (place p i) (look_up (spelled p i) w.levels)
    rule 34 (place p i) (is_visible w.procedure entry.object)
    Keeps entry.object

  abbrev pub names_of : Imported → List ℕ → Option Entry
  names_of TheOut = names_of_out
  names_of TheIn = names_of_in
  names_of (Earlier number) = names_in (slice_get w.modules number)

  -- 30, 34: a name of another module is declared there, and exported
  abbrev pub member : Imported → (i : ℕ) → Judged Object
  member m i = do
    entry ← some 30 (place p i) (names_of m (spelled p i))
    rule 34 (place p i) entry.exported
    Keeps entry.object

  abbrev pub member_of_object : (name i : ℕ) → Object → Judged Object
  member_of_object name i (AModule m) = member m i
  member_of_object name i o = Breaks 31 (place p name)

  -- what a qualident names; 31 where a member of no module is asked for
  abbrev pub qualified : ℕ → Option ℕ → Judged Object
  qualified name None = named name
  qualified name (Some i) = do
    o ← named name
    member_of_object name i o

  -- a qualident that names a type, or this rule is broken at it
  abbrev pub type_named : (number : ℕ) → ℕ → Option ℕ → Judged Shape
  type_named number name i = do
    o ← qualified name i
    some number (place p name) (type_of_object o)

  -- ---- names as operands

  abbrev pub variable_read : Variable → Operand
  variable_read v = narrowed_to (whole_variable w v) (is_pointer v.shape) (narrowing_of v.place w.narrowed)

  -- 31 at a name that is none of these
  abbrev pub object_operand : (at : ℕ) → Object → Judged Operand
  object_operand at (AConstant c) = Keeps (of_constant c)
  object_operand at (AVariable v) = Keeps (variable_read v)
  object_operand at (AProcedure n shape is_local) = Keeps (operand shape (Code n is_local) AsValue)
  object_operand at o = Breaks 31 at

  abbrev pub begun : (at : ℕ) → Stage → Judged Operand
  begun at (Whole o) = object_operand at o
  begun at (Partly x) = Keeps x
  begun at (Ended x) = Breaks 31 at

  abbrev pub finished : (at : ℕ) → Stage → Judged Operand
  finished at (Whole o) = object_operand at o
  finished at (Partly x) = Keeps x
  finished at (Ended x) = Keeps x
