-- Images that name only the first so many record types, where lowering asks for cells, bytes, levels and places.
use Rattle.std.specs.Prelude.{◌<◌, ℕ, List, [], ◌∷◌, Option, Some, None}
use Rattle.ob_judge.specs.Shapes.{Shape, Array, Record, Open, Pointer, Added}
use Rattle.ob_judge.specs.Image as I

module _ (n : ℕ) where
  -- a type that has none of the others by value
  abbrev pub IsWithin : Shape → Type 0
  IsWithin (Array k s) = IsWithin s
  IsWithin (Record r) = r < n
  IsWithin s = Unit {0}

  abbrev pub ElementWithin : Shape → Type 0
  ElementWithin (Array k s) = IsWithin s
  ElementWithin (Open s) = IsWithin s
  ElementWithin s = Unit {0}

  -- the record type of a record, or of a pointer's objects
  abbrev pub RecordWithin : Shape → Type 0
  RecordWithin (Record r) = r < n
  RecordWithin (Pointer r) = r < n
  RecordWithin s = 0 < n

  abbrev pub ElementOf : I.Designator → Type 0
  ElementOf (I.of_type place s) = ElementWithin s

  abbrev pub RecordOf : I.Designator → Type 0
  RecordOf (I.of_type place s) = RecordWithin s

  abbrev mutual
    pub InExpr : I.Expr → Type 0
    InExpr (I.Literal b) = Unit {0}
    InExpr (I.Routine g) = Unit {0}
    InExpr (I.Load d) = InNamed d
    InExpr (I.Guard x r) = InExpr x × (r < n)
    InExpr (I.Apply op x) = InExpr x
    InExpr (I.Linked x k) = InExpr x × InLink k
    InExpr (I.Compare r x y) = InExpr x × InExpr y
    InExpr (I.CompareTexts r d e) = InNamed d × InNamed e
    InExpr (I.In x s) = InExpr x × InExpr s
    InExpr (I.IsPointer x r) = InExpr x × (r < n)
    InExpr (I.IsParameter d r) = InNamed d × (r < n)
    InExpr (I.AsByte x) = InExpr x
    InExpr (I.Length d) = InNamed d
    InExpr (I.Result c) = InCall c

    pub InLink : I.Link → Type 0
    InLink (I.Operate op y) = InExpr y
    InLink (I.And y) = InExpr y
    InLink (I.Or y) = InExpr y
    InLink (I.Element y) = InExpr y
    InLink (I.Elements y z) = InExpr y × InExpr z

    pub InNamed : I.Designator → Type 0
    InNamed (I.of_type place s) = InPlace place

    pub InPlace : I.Place → Type 0
    InPlace (I.Index place k s x) = InPlace place × IsWithin s × InExpr x
    InPlace (I.Field place r number) = InPlace place × (r < n)
    InPlace (I.Dereference x) = InExpr x
    InPlace (I.Narrow place r) = InPlace place × (r < n)
    InPlace place = Unit {0}

    pub InCall : I.Call → Type 0
    InCall (I.Direct g xs) = InArguments xs
    InCall (I.Indirect d xs) = InNamed d × InArguments xs

    pub InArgument : I.Argument → Type 0
    InArgument (I.ByValue x) = InExpr x
    InArgument (I.ByPlace d) = InNamed d
    InArgument (I.ByRecord d) = InNamed d
    InArgument (I.ByOpen d) = InNamed d

    pub InArguments : I.Arguments → Type 0
    InArguments I.no_argument = Unit {0}
    InArguments (I.next_argument x more) = InArgument x × InArguments more

  abbrev pub InChecked : I.Checked → Type 0
  InChecked x = InExpr x.form

  abbrev pub InWhen : I.When → Type 0
  InWhen (I.Labels labels) = Unit {0}
  InWhen (I.Extends r) = r < n

  abbrev mutual
    pub InStatement : I.Statement → Type 0
    InStatement (I.Assign d x) = InNamed d × InChecked x
    InStatement (I.CopyArray d e) = InNamed d × InNamed e × ElementOf d
    InStatement (I.CopyRecord d e) = InNamed d × InNamed e × RecordOf d
    InStatement (I.Increase d x) = InNamed d × InChecked x
    InStatement (I.Decrease d x) = InNamed d × InChecked x
    InStatement (I.Include d x) = InNamed d × InChecked x
    InStatement (I.Exclude d x) = InNamed d × InChecked x
    InStatement (I.New d) = InNamed d × RecordOf d
    InStatement (I.Assert x) = InChecked x
    InStatement (I.OutChar x) = InChecked x
    InStatement (I.OutInt x k) = InChecked x × InChecked k
    InStatement (I.OutString d) = InNamed d
    InStatement I.OutLn = Unit {0}
    InStatement (I.InChar d) = InNamed d
    InStatement (I.Invoke c) = InCall c
    InStatement (I.If parts other) = InBranches parts × InStatements other
    InStatement (I.While parts) = InBranches parts
    InStatement (I.Repeat body x) = InStatements body × InChecked x
    InStatement (I.For d x y step body) = InNamed d × InChecked x × InChecked y × InStatements body
    InStatement (I.Case x parts) = InChecked x × InParts parts
    InStatement (I.CasePointer x parts) = InChecked x × InParts parts
    InStatement (I.CaseParameter d parts) = InNamed d × InParts parts

    pub InStatements : I.Statements → Type 0
    InStatements I.no_statement = Unit {0}
    InStatements (I.next_statement s more) = InStatement s × InStatements more

    pub InBranches : I.Branches → Type 0
    InBranches I.no_branch = Unit {0}
    InBranches (I.next_branch x body more) = InChecked x × InStatements body × InBranches more

    pub InParts : I.Parts → Type 0
    InParts I.no_part = Unit {0}
    InParts (I.next_part when body more) = InWhen when × InStatements body × InParts more

  abbrev pub InAnswer : Option I.Checked → Type 0
  InAnswer None = Unit {0}
  InAnswer (Some x) = InChecked x

  -- of all these types
  abbrev pub AllWithin : List Shape → Type 0
  AllWithin [] = Unit {0}
  AllWithin (s ∷ ss) = IsWithin s × AllWithin ss

  abbrev pub FormalsWithin : List I.Formal → Type 0
  FormalsWithin [] = Unit {0}
  FormalsWithin (x ∷ xs) = IsWithin x.shape × FormalsWithin xs

  pub record ProcedureWithin (q : I.Procedure) : Type 0 where
    pub formals : FormalsWithin q.formals
    pub locals : AllWithin q.locals
    pub body : InStatements q.body
    pub answer : InAnswer q.answer

  abbrev pub FieldsWithin : List Added → Type 0
  FieldsWithin [] = Unit {0}
  FieldsWithin (x ∷ xs) = IsWithin x.shape × FieldsWithin xs

  abbrev pub BaseWithin : Option ℕ → Type 0
  BaseWithin None = Unit {0}
  BaseWithin (Some b) = b < n

  pub record RecordTypeWithin (r : I.RecordType) : Type 0 where
    pub base : BaseWithin r.base
    pub fields : FieldsWithin r.fields

  abbrev pub RecordsWithin : List I.RecordType → Type 0
  RecordsWithin [] = Unit {0}
  RecordsWithin (r ∷ rs) = RecordTypeWithin r × RecordsWithin rs

  abbrev pub ProceduresWithin : List I.Procedure → Type 0
  ProceduresWithin [] = Unit {0}
  ProceduresWithin (q ∷ qs) = ProcedureWithin q × ProceduresWithin qs
