-- The checked tree without the memory that holds it: as ob_types has it, but with a type in the place of its number,
-- with a string's characters in the place of its use's number, and with a link, a guard or a selector round what it
-- is added to.
use Rattle.std.specs.Prelude.{ℕ, ℤ, List, Bool, Option}
use Rattle.ob_types.specs.declared.tree.Unary.{Unary}
use Rattle.ob_types.specs.declared.tree.Binary.{Binary}
use Rattle.ob_types.specs.declared.tree.Relation.{Relation}
use Rattle.ob_types.specs.declared.statements.Label.{Label}
use Rattle.ob_types.specs.declared.types.Extent.{Extent}
use Rattle.ob_types.specs.declared.types.Mode.{Mode}
use Rattle.ob_judge.specs.Shapes.{Shape, Added}

mutual
  pub data Expr : Type 0 where
    -- a literal or a constant by its 64 bits
    Literal : (bits : ℕ) → Expr
    Routine : (procedure : ℕ) → Expr
    Load : Designator → Expr
    -- a pointer, if its object's type is this record type or an extension of it
    Guard : Expr → (tag : ℕ) → Expr
    Apply : Unary → Expr → Expr
    Linked : Expr → Link → Expr
    Compare : Relation → Expr → Expr → Expr
    CompareTexts : Relation → Designator → Designator → Expr
    In : (element set : Expr) → Expr
    IsPointer : Expr → (tag : ℕ) → Expr
    IsParameter : Designator → (tag : ℕ) → Expr
    AsByte : Expr → Expr
    Length : Designator → Expr
    Result : Call → Expr

  -- what is done to a value
  pub data Link : Type 0 where
    Operate : Binary → Expr → Link
    And Or Element : Expr → Link
    Elements : (low high : Expr) → Link

  pub data Designator : Type 0 where
    of_type : Place → Shape → Designator

  -- a variable, a string, or a part of one
  pub data Place : Type 0 where
    Done : Place
    Global : (module_number variable : ℕ) → Place
    -- a scalar value parameter or a local variable
    Local : (variable : ℕ) → Place
    -- a parameter that is an address
    Parameter : (number : ℕ) → Place
    Text : (characters : List ℕ) → Place
    Index : (array : Place) → (length : Option ℕ) → (element : Shape) → (index : Expr) → Place
    -- by the record type that adds the field, and its place among those that this one adds
    Field : (whole : Place) → (adder number : ℕ) → Place
    -- what a pointer points to
    Dereference : (pointer : Expr) → Place
    -- a VAR parameter, if its type is this record type or an extension of it
    Narrow : Place → (tag : ℕ) → Place

  pub data Call : Type 0 where
    Direct : (procedure : ℕ) → Arguments → Call
    Indirect : Designator → Arguments → Call

  pub data Arguments : Type 0 where
    no_argument : Arguments
    next_argument : Argument → Arguments → Arguments

  pub data Argument : Type 0 where
    ByValue : Expr → Argument
    ByPlace ByRecord ByOpen : Designator → Argument

-- a whole expression and its type
pub record Checked : Type 0 where
  pub form : Expr
  pub shape : Shape

-- when a part of a CASE is done
pub data When : Type 0 where
  Labels : List Label → When
  Extends : (tag : ℕ) → When

mutual
  pub data Statement : Type 0 where
    Assign : Designator → Checked → Statement
    CopyArray CopyRecord : (to from : Designator) → Statement
    Increase Decrease Include Exclude : Designator → Checked → Statement
    New : Designator → Statement
    Assert OutChar : Checked → Statement
    OutInt : (number width : Checked) → Statement
    OutString InChar : Designator → Statement
    OutLn : Statement
    Invoke : Call → Statement
    If : Branches → (otherwise : Statements) → Statement
    While : Branches → Statement
    Repeat : Statements → Checked → Statement
    For : Designator → (from to : Checked) → (step : ℤ) → Statements → Statement
    Case CasePointer : Checked → Parts → Statement
    CaseParameter : Designator → Parts → Statement

  pub data Statements : Type 0 where
    no_statement : Statements
    next_statement : Statement → Statements → Statements

  pub data Branches : Type 0 where
    no_branch : Branches
    next_branch : Checked → Statements → Branches → Branches

  pub data Parts : Type 0 where
    no_part : Parts
    next_part : When → Statements → Parts → Parts

-- a constant's value: its type and 64 bits, or a string's characters
pub data Constant : Type 0 where
  Bits : Shape → (bits : ℕ) → Constant
  Chars : List ℕ → Constant

pub data Entity : Type 0 where
  OfConstant : Constant → Entity
  OfType : Shape → Entity
  -- by its place among the module's
  OfVariable : (variable : ℕ) → Entity
  OfProcedure : (procedure : ℕ) → Entity

-- a name that a module declares
pub record Declared : Type 0 where
  pub name : List ℕ
  pub exported : Bool
  pub entity : Entity

pub record Formal : Type 0 where
  pub mode : Mode
  pub variable : Bool
  pub shape : Shape

-- a procedure or a module's body
pub record Procedure : Type 0 where
  pub module_number : ℕ
  pub line : ℕ
  pub is_body : Bool
  pub formals : List Formal
  pub result : Shape
  pub locals : List Shape
  -- the characters of each use of a string as an array: the use's number is its place here
  pub texts : List (List ℕ)
  pub body : Statements
  pub answer : Option Checked

pub record Module : Type 0 where
  pub name : List ℕ
  pub objects : List Declared
  pub variables : List Shape
  pub body : ℕ

pub record RecordType : Type 0 where
  pub module_number : ℕ
  pub base : Option ℕ
  pub level : ℕ
  pub fields : List Added
  pub cells : ℕ
  pub extent : Extent

-- all checked modules; of each pointer type the record type that it points to; whether some module imports In
pub record Program : Type 0 where
  pub records : List RecordType
  pub pointers : List (Option ℕ)
  pub modules : List Module
  pub procedures : List Procedure
  pub imports_in : Bool
