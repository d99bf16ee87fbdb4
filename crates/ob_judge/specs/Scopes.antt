-- What a name may stand for, and where.
use Rattle.std.specs.Prelude.{ℕ, suc, ◌+◌, List, [], ◌∷◌, Bool, true, false, ◌&&◌, ◌||◌, not, if◌then◌else◌, nat_eq, nat_le, length, Option, Some, None, slice_range, slice_index_or, slice_get, take}
use Rattle.std.specs.Str.{bytes_eq}
use Rattle.ob_symbol.specs.declared.symbol.Symbol.{Symbol}
use Rattle.ob_symbol.specs.declared.symbol.Kind.TheVariants as TheKind
use Rattle.ob_judge.specs.Shapes.{Shape, Known}
use Rattle.ob_judge.specs.Image.{Place, Constant}

-- how a variable may be used: freely; a value parameter of array or record type or In.Done, which are read-only; a VAR
-- parameter of record type, which has a dynamic type; a variable of a module, which is read-only in others
pub data Home : Type 0 where
  Free ReadOnly Tagged OfModule : Home

-- a variable: its type, where it stands, its module, and the procedure that it belongs to
pub record Variable : Type 0 where
  pub shape : Shape
  pub place : Place
  pub home : Home
  pub owner : ℕ
  pub procedure : Option ℕ

-- the predeclared procedures, and those of Out and In
pub data Standard : Type 0 where
  Abs Odd Len Lsl Asr Ror Ord Chr Inc Dec Incl Excl New Assert OutChar OutInt OutString OutLn InChar : Standard

-- a module that is imported
pub data Imported : Type 0 where
  TheOut TheIn : Imported
  Earlier : (number : ℕ) → Imported

pub data Object : Type 0 where
  AConstant : Constant → Object
  AType : Shape → Object
  AVariable : Variable → Object
  AProcedure : (number : ℕ) → (shape : Shape) → (is_local : Bool) → Object
  AStandard : Standard → Object
  AModule : Imported → Object

-- a declaration: what its name stands for, and whether it is exported
pub record Entry : Type 0 where
  pub object : Object
  pub exported : Bool

-- what each name stands for in one scope
abbrev pub Names : Type 0
Names = List ℕ → Option Entry

-- a module before this one: its name, and what its names stand for
pub record KnownModule : Type 0 where
  pub name : List ℕ
  pub names : List ℕ → Option Entry

-- in a part of a CASE on types: the variable, its type there, and the record type
pub record Narrowing : Type 0 where
  pub variable : Place
  pub shape : Shape
  pub tag : ℕ

-- where a construct is judged: the modules before, the types, the open scopes with the outermost first (the predeclared
-- names), the module and the procedure, whether a constant is asked for, and the narrowed variables, innermost first
pub record World : Type 0 where
  pub modules : List KnownModule
  pub known : Known
  pub levels : List (List ℕ → Option Entry)
  pub module_number : ℕ
  pub procedure : Option ℕ
  pub constant : Bool
  pub narrowed : List Narrowing

-- nothing is declared
abbrev pub no_names : List ℕ → Option Entry
no_names name = None

-- one more is declared
abbrev pub declare : List ℕ → Entry → (List ℕ → Option Entry) → List ℕ → Option Entry
declare name entry names q = if bytes_eq name q then Some entry else names q

abbrev pub or_else : {A : Type 0} → Option A → Option A → Option A
or_else (Some a) other = Some a
or_else None other = other

-- what a name stands for: the innermost declaration of it, which is the last
abbrev pub look_up : List ℕ → List (List ℕ → Option Entry) → Option Entry
look_up name [] = None
look_up name (l ∷ ls) = or_else (look_up name ls) (l name)

abbrev pub is_this : Option ℕ → Option ℕ → Bool
is_this (Some p) (Some q) = nat_eq p q
is_this p q = false

abbrev pub or_of_module : Option ℕ → Option ℕ → Bool
or_of_module None here = true
or_of_module (Some p) here = is_this (Some p) here

-- a variable is seen in its own procedure, and one of a module everywhere
abbrev pub is_visible : Option ℕ → Object → Bool
is_visible here (AVariable v) = or_of_module v.procedure here
is_visible here o = true

-- a text and its symbols
pub record Source : Type 0 where
  pub bytes : List ℕ
  pub symbols : List Symbol

abbrev pub empty_symbol : Symbol
empty_symbol = record { kind = TheKind.Ident; from = 0; to = 0 }

-- the bytes between two places; none where they don't lie within
abbrev pub part : List ℕ → ℕ → ℕ → List ℕ
part bytes from to = if nat_le from to && nat_le to (length bytes) then slice_range bytes from to else []

abbrev pub line_ends : List ℕ → ℕ
line_ends [] = 0
line_ends (b ∷ bs) = if nat_eq b 10 then suc (line_ends bs) else line_ends bs

module _ (p : Source) where
  abbrev pub symbol_at : ℕ → Symbol
  symbol_at i = slice_index_or p.symbols i empty_symbol

  -- the place of a symbol
  abbrev pub place : ℕ → ℕ
  place i = (symbol_at i).from

  -- its bytes
  abbrev pub spelled : ℕ → List ℕ
  spelled i = part p.bytes (symbol_at i).from (symbol_at i).to

  -- a string's characters, without its quotes
  abbrev pub characters : ℕ → List ℕ
  characters i = part p.bytes ((symbol_at i).from + 1) (Rattle.std.specs.Prelude.◌-◌ (symbol_at i).to 1)

  -- the line of a symbol, from 1
  abbrev pub line : ℕ → ℕ
  line i = suc (line_ends (take (symbol_at i).from p.bytes))
