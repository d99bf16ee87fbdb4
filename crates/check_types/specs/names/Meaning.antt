-- What names stand for, given what types and strings mean.
use Rattle.std.specs.Prelude.{ℕ, List, [], ◌∷◌, ◌++◌, map, Option, Some, None, option_map, slice_index_or}
use Rattle.ob_types.specs.Table.{Table}
use Rattle.ob_judge.specs.Image as I
use Rattle.ob_judge.specs.Scopes.{Object, AConstant, AType, AVariable, AProcedure, AStandard, AModule, Entry}
use Rattle.ob_judge.specs.Scopes as J
use Rattle.ob_judge.specs.Modules.{offered}
use Rattle.check_types.specs.steps.Maps.{at_bytes}
use Rattle.check_types.specs.declared.types.TypeRef.TheVariants as TheType
use Rattle.check_types.specs.TypeMeaning.{type_shape}
use Rattle.check_types.specs.names.Basics.{basic_shape}
use Rattle.check_types.specs.names.Before.{names_before}
use Rattle.check_types.specs.declared.names.scope.Constant.{Constant}
use Rattle.check_types.specs.declared.names.scope.Constant.TheVariants as TheConstant
use Rattle.check_types.specs.declared.names.scope.Home.{Home}
use Rattle.check_types.specs.declared.names.scope.Home.TheVariants as TheHome
use Rattle.check_types.specs.declared.names.scope.VariablePlace.{VariablePlace}
use Rattle.check_types.specs.declared.names.scope.VariablePlace.TheVariants as ThePlace
use Rattle.check_types.specs.declared.names.scope.Variable.{Variable}
use Rattle.check_types.specs.declared.names.scope.Standard.{Standard}
use Rattle.check_types.specs.declared.names.scope.Standard.TheVariants as TheStandard
use Rattle.check_types.specs.declared.names.scope.Imported.{Imported}
use Rattle.check_types.specs.declared.names.scope.Imported.TheVariants as TheImported
use Rattle.check_types.specs.declared.names.scope.Named.{Named}
use Rattle.check_types.specs.declared.names.scope.Named.TheVariants as TheNamed
use Rattle.check_types.specs.declared.names.scope.Declared.{Declared}
use Rattle.check_types.specs.declared.names.scope.Narrowing.{Narrowing}
use Rattle.check_types.specs.declared.names.scope.KnownModule.{KnownModule}
use Rattle.check_types.specs.declared.names.scope.Closed.{Closed}
use Rattle.check_types.specs.declared.names.levels.Level.{Level}

abbrev pub home_of : Home → J.Home
home_of TheHome.Free = J.Free
home_of TheHome.ReadOnly = J.ReadOnly
home_of TheHome.Tagged = J.Tagged
home_of TheHome.OfModule = J.OfModule

abbrev pub place_of : VariablePlace → I.Place
place_of ThePlace.Done = I.Done
place_of (ThePlace.Global m v) = I.Global m v
place_of (ThePlace.Local v) = I.Local v
place_of (ThePlace.Parameter n) = I.Parameter n

abbrev pub standard_of : Standard → J.Standard
standard_of TheStandard.Abs = J.Abs
standard_of TheStandard.Odd = J.Odd
standard_of TheStandard.Len = J.Len
standard_of TheStandard.Lsl = J.Lsl
standard_of TheStandard.Asr = J.Asr
standard_of TheStandard.Ror = J.Ror
standard_of TheStandard.Ord = J.Ord
standard_of TheStandard.Chr = J.Chr
standard_of TheStandard.Inc = J.Inc
standard_of TheStandard.Dec = J.Dec
standard_of TheStandard.Incl = J.Incl
standard_of TheStandard.Excl = J.Excl
standard_of TheStandard.New = J.New
standard_of TheStandard.Assert = J.Assert
standard_of TheStandard.OutChar = J.OutChar
standard_of TheStandard.OutInt = J.OutInt
standard_of TheStandard.OutString = J.OutString
standard_of TheStandard.OutLn = J.OutLn
standard_of TheStandard.InChar = J.InChar

abbrev pub imported_of : Imported → J.Imported
imported_of TheImported.Out = J.TheOut
imported_of TheImported.In = J.TheIn
imported_of (TheImported.Earlier n) = J.Earlier n

module _ (t : Table) (strings : List (List ℕ)) where
  abbrev pub constant_of : Constant → I.Constant
  constant_of (TheConstant.Bits b n) = I.Bits (basic_shape b) n
  constant_of (TheConstant.Chars k) = I.Chars (slice_index_or strings k [])

  abbrev pub variable_of : Variable → J.Variable
  variable_of v = record { shape = type_shape t v.of; place = place_of v.place; home = home_of v.home; owner = v.owner; procedure = v.procedure }

  abbrev pub object_of : Named → Object
  object_of (TheNamed.Constant c) = AConstant (constant_of c)
  object_of (TheNamed.Type k) = AType (type_shape t k)
  object_of (TheNamed.Variable v) = AVariable (variable_of v)
  object_of (TheNamed.Procedure n g l) = AProcedure n (type_shape t (TheType.Procedure g)) l
  object_of (TheNamed.Standard s) = AStandard (standard_of s)
  object_of (TheNamed.Module m) = AModule (imported_of m)

  abbrev pub entry_of : Declared → Entry
  entry_of d = record { object = object_of d.named; exported = d.exported }

  -- of one scope
  abbrev pub names_of : Level → List ℕ → Option Entry
  names_of l q = option_map entry_of (at_bytes l.names q)

  -- of open scopes, and of one that was closed: of those round it later procedures aren't seen
  abbrev pub names_inside : List Level → Option Closed → List (List ℕ → Option Entry)
  names_inside ls None = map names_of ls
  names_inside ls (Some c) = map (λ l. names_before c.procedures (names_of l)) ls ++ names_of c.names.now ∷ []

  -- of a module before, as others see it: not its imports
  abbrev pub module_of : KnownModule → J.KnownModule
  module_of m = record { name = m.name; names = λ q. offered (names_of m.names q) }

  abbrev pub narrowing_of : Narrowing → J.Narrowing
  narrowing_of n = record { variable = place_of n.variable; shape = type_shape t n.of; tag = n.tag }

  -- the last is the innermost
  abbrev pub narrowings_before : List J.Narrowing → List Narrowing → List J.Narrowing
  narrowings_before before [] = before
  narrowings_before before (n ∷ ns) = narrowings_before (narrowing_of n ∷ before) ns
