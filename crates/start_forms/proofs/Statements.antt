-- Well-formed statements name record types of the table.
use Rattle.std.proofs.Common.{◌≡◌, ℕ, ◌<◌, List, [], ◌∷◌, Bool, true, ◌&&◌, Option, Some, None, ap}
use Rattle.std.specs.Prelude.{is_some, option_map}
use Rattle.ob_types.specs.Layout.{extends}
use Rattle.ob_types.specs.LegalTypes.{is_record_type, types_legal}
use Rattle.ob_types.specs.Meaning.{kind_in, length_of_kind, element_kind, record_of_kind, is_byte}
use Rattle.ob_types.specs.declared.types.TypeKind.{TypeKind}
use Rattle.ob_types.specs.declared.types.TypeKind.TheVariants as TheKind
use Rattle.ob_types.specs.declared.tree.Designator.{Designator, Whole, Part'}
use Rattle.ob_types.specs.declared.statements.Checked.{Checked}
use Rattle.ob_types.specs.declared.statements.Stmt.{Stmt, Assign, CopyArray, CopyRecord, Increase, Decrease, Include, Exclude, New, Assert, OutChar, OutInt, OutString, OutLn, InChar, If', While', Repeat', For', Case', CasePointer', CaseParameter', Row_of-Stmt, end_of-Stmt, more_of-Stmt, Row_of-Branch, end_of-Branch, more_of-Branch, Row_of-CasePart, end_of-CasePart, more_of-CasePart, Row_of-TypePart, end_of-TypePart, more_of-TypePart}
use Rattle.ob_types.specs.declared.statements.Stmt.{Call as Invoke}
use Rattle.ob_types.specs.declared.program.Program.{Program}
use Rattle.ob_types.specs.Forms.{Form, ToRecord, Routines, Exactly, Zero, Truth, Small, Number, all}
use Rattle.ob_types.specs.WellFormed
use Rattle.ob_types.specs.WellFormed.{Named as Thing, Cells, Of, OpenOf, Dynamic, Characters, holds_of, gives_number, gives_pointer}
use Rattle.ob_types.proofs.Tests.{no, and_of}
use Rattle.judged_tree.specs.TypeShapes.{shape_of_kind}
use Rattle.judged_tree.specs.Plain.{plain_designator, plain_checked, plain_statement, plain_statements, plain_branches, plain_case_parts, plain_type_parts, plain_body}
use Rattle.moved_lowering.specs.Within.{ElementOf, RecordOf, RecordWithin, InNamed, InChecked, InStatement, InStatements, InBranches, InParts, InAnswer}
use Rattle.one_lowering.proofs.Suits.{Is, of_holds, holds_is, given_is, checked_is, number_checked}
use Rattle.start_forms.proofs.Shapes.{record_below, elements_within}
use Rattle.start_forms.proofs.Below.{said_below}
use Rattle.start_forms.proofs.Named.{n, uses, expr_within, named_within, call_within}

module _ (p : Program) (legal : types_legal p.types ≡ true) (f : ℕ) where
  abbrev many : ℕ
  many = n p legal f

  abbrev texts : List (List ℕ)
  texts = uses p legal f

  named_in : (d : Designator) → Is (WellFormed.named p f d) → InNamed many (plain_designator p.types texts d)
  named_in d h = named_within p legal f d h

  checked_in : (x : Checked) → Is (WellFormed.form p f x.form) → InChecked many (plain_checked p.types texts x)
  checked_in x h = expr_within p legal f x.form h

  number_in : (x : Checked) → gives_number (WellFormed.checked_form p f x) ≡ true → InChecked many (plain_checked p.types texts x)
  number_in x h = checked_in x (number_checked p f x h)

  -- INC, DEC, INCL and EXCL
  stepped : (d : Designator) (x : Checked) (test : Form → Bool) → (gives_number (WellFormed.checked_form p f x) && holds_of (WellFormed.takes p test) (WellFormed.named p f d)) ≡ true
      → InNamed many (plain_designator p.types texts d) × InChecked many (plain_checked p.types texts x)
  stepped d x test h =
      let b = and_of (gives_number (WellFormed.checked_form p f x)) (holds_of (WellFormed.takes p test) (WellFormed.named p f d)) h in
      (named_in d (holds_is (WellFormed.takes p test) (WellFormed.named p f d) b.1), number_in x b.0)

  ---- The record type of a copy, and of NEW

  -- of a kind that has one
  record_kind : (kind : TypeKind) → record_of_kind kind < many → RecordWithin many (shape_of_kind p.types kind)
  record_kind (TheKind.Record r) l = l
  record_kind (TheKind.Pointer r) l = l
  record_kind (TheKind.Array None e) l = l
  record_kind (TheKind.Array (Some m) e) l = l
  record_kind _ l = l

  record_shape : (d : Designator) → record_of_kind (kind_in d) < many → RecordOf many (plain_designator p.types texts d)
  record_shape (Whole b kind) l = record_kind kind l
  record_shape (Part' _ b kind _ row) l = record_kind kind l

  element_shape : (d : Designator) → ElementOf many (plain_designator p.types texts d)
  element_shape (Whole b kind) = elements_within p.types legal kind
  element_shape (Part' _ b kind _ row) = elements_within p.types legal kind

  points_below : (r : ℕ) (x : Form) → WellFormed.points_to p r x ≡ true → r < many
  points_below r (ToRecord b) h = record_below p.types r (and_of (is_record_type p.types r) (extends p.types r b) h).0
  points_below r Zero h = no h
  points_below r Truth h = no h
  points_below r Small h = no h
  points_below r Number h = no h
  points_below r (Routines k) h = no h
  points_below r (Exactly g) h = no h

  -- NEW's record type
  new_below : (r : ℕ) (o : Option Thing) → holds_of (WellFormed.takes p (WellFormed.points_to p r)) o ≡ true → r < many
  new_below r o h =
      let b = of_holds (WellFormed.takes p (WellFormed.points_to p r)) o h in
      let c = and_of (WellFormed.is_writable b.0) (holds_of (WellFormed.points_to p r) (WellFormed.scalar_in p b.0)) b.2 in
      let d = of_holds (WellFormed.points_to p r) (WellFormed.scalar_in p b.0) c.1 in
      points_below r d.0 d.2

  mutual
    statement_in : (s : Stmt) → WellFormed.fine p f s ≡ true → InStatement many (plain_statement p.types texts s)
    statement_in (Assign d x) h =
        let b = of_holds (λ t. WellFormed.is_writable t && WellFormed.given_for p (WellFormed.checked_form p f x) (WellFormed.scalar_in p t)) (WellFormed.named p f d) h in
        let c = and_of (WellFormed.is_writable b.0) (WellFormed.given_for p (WellFormed.checked_form p f x) (WellFormed.scalar_in p b.0)) b.2 in
        (named_in d (ap is_some b.1), checked_in x (checked_is p f x (given_is p f (WellFormed.checked_form p f x) (WellFormed.scalar_in p b.0) c.1)))
    statement_in (CopyArray d e) h =
        let to = holds_of (WellFormed.may_copy p f (element_kind (kind_in d)) (length_of_kind (kind_in d))) (WellFormed.named p f d) in
        let from = holds_of (WellFormed.array_of p (element_kind (kind_in d)) (length_of_kind (kind_in e))) (WellFormed.named p f e) in
        let b = and_of to from (and_of (WellFormed.lengths_fit (length_of_kind (kind_in d)) (length_of_kind (kind_in e))) (to && from) h).1 in (
          named_in d (holds_is (WellFormed.may_copy p f (element_kind (kind_in d)) (length_of_kind (kind_in d))) (WellFormed.named p f d) b.0),
          named_in e (holds_is (WellFormed.array_of p (element_kind (kind_in d)) (length_of_kind (kind_in e))) (WellFormed.named p f e) b.1),
          element_shape d,
        )
    statement_in (CopyRecord d e) h =
        let r = record_of_kind (kind_in d) in
        let writes : Thing → Bool = λ t. WellFormed.is_writable t && WellFormed.has_record p r t in
        let b = and_of (holds_of writes (WellFormed.named p f d)) (holds_of (WellFormed.has_record p r) (WellFormed.named p f e)) h in
        let x = of_holds writes (WellFormed.named p f d) b.0 in
        let has = (and_of (WellFormed.is_writable x.0) (WellFormed.has_record p r x.0) x.2).1 in (
          named_in d (holds_is writes (WellFormed.named p f d) b.0),
          named_in e (holds_is (WellFormed.has_record p r) (WellFormed.named p f e) b.1),
          record_shape d (said_below p legal f d x.0 x.1 has),
        )
    statement_in (Increase d x) h = stepped d x (WellFormed.changes (is_byte (kind_in d))) h
    statement_in (Decrease d x) h = stepped d x (WellFormed.changes (is_byte (kind_in d))) h
    statement_in (Include d x) h = stepped d x WellFormed.is_full h
    statement_in (Exclude d x) h = stepped d x WellFormed.is_full h
    statement_in (New d) h =
        let r = record_of_kind (kind_in d) in
        (named_in d (holds_is (WellFormed.takes p (WellFormed.points_to p r)) (WellFormed.named p f d) h), record_shape d (new_below r (WellFormed.named p f d) h))
    statement_in (Assert x) h = number_in x h
    statement_in (OutChar x) h = checked_in x (checked_is p f x (holds_is WellFormed.is_small (WellFormed.checked_form p f x) h))
    statement_in (OutInt x y) h =
        let b = and_of (gives_number (WellFormed.checked_form p f x)) (gives_number (WellFormed.checked_form p f y)) h in
        (number_in x b.0, number_in y b.1)
    statement_in (OutString d) h = named_in d (holds_is (WellFormed.is_text p (length_of_kind (kind_in d))) (WellFormed.named p f d) h)
    statement_in OutLn h = tt
    statement_in (InChar d) h = named_in d (holds_is (WellFormed.takes p (WellFormed.changes true)) (WellFormed.named p f d) h)
    statement_in (Invoke c) h = call_within p legal f c h
    statement_in (If' _ parts _ other) h =
        let b = and_of (WellFormed.fine_branches p f parts) (WellFormed.fine_row p f other) h in
        (branches_in parts b.0, statements_in other b.1)
    statement_in (While' _ parts) h = branches_in parts (and_of (WellFormed.has_branch parts) (WellFormed.fine_branches p f parts) h).1
    statement_in (Repeat' _ body x) h =
        let b = and_of (WellFormed.fine_row p f body) (gives_number (WellFormed.checked_form p f x)) h in
        (statements_in body b.0, number_in x b.1)
    statement_in (For' _ d x y step _ body) h =
        let place = holds_of (WellFormed.takes p WellFormed.is_full) (WellFormed.named p f d) in
        let number = gives_number (WellFormed.checked_form p f x) in
        let limit = gives_number (WellFormed.checked_form p f y) in
        let b = and_of (WellFormed.is_step step) (WellFormed.is_whole d && (place && (number && (limit && WellFormed.fine_row p f body)))) h in
        let w = and_of (WellFormed.is_whole d) (place && (number && (limit && WellFormed.fine_row p f body))) b.1 in
        let c = and_of place (number && (limit && WellFormed.fine_row p f body)) w.1 in
        let e = and_of number (limit && WellFormed.fine_row p f body) c.1 in
        let g = and_of limit (WellFormed.fine_row p f body) e.1 in
        (named_in d (holds_is (WellFormed.takes p WellFormed.is_full) (WellFormed.named p f d) c.0), number_in x e.0, number_in y g.0, statements_in body g.1)
    statement_in (Case' x _ parts) h =
        let b = and_of (gives_number (WellFormed.checked_form p f x)) (WellFormed.fine_case_parts p f parts) h in
        (number_in x b.0, case_parts_in parts b.1)
    statement_in (CasePointer' x _ parts) h =
        let b = and_of (gives_pointer (WellFormed.checked_form p f x)) (WellFormed.fine_type_parts p f parts) h in
        (checked_in x (checked_is p f x (holds_is WellFormed.is_pointer (WellFormed.checked_form p f x) b.0)), type_parts_in parts b.1)
    statement_in (CaseParameter' d _ parts) h =
        let b = and_of (holds_of (WellFormed.is_dynamic p) (WellFormed.named p f d)) (WellFormed.fine_type_parts p f parts) h in
        (named_in d (holds_is (WellFormed.is_dynamic p) (WellFormed.named p f d) b.0), type_parts_in parts b.1)

    statements_in : {m : _} (row : Row_of-Stmt m) → WellFormed.fine_row p f row ≡ true → InStatements many (plain_statements p.types texts row)
    statements_in end_of-Stmt h = tt
    statements_in (more_of-Stmt s more) h = let b = and_of (WellFormed.fine p f s) (WellFormed.fine_row p f more) h in (statement_in s b.0, statements_in more b.1)

    branches_in : {m : _} (row : Row_of-Branch m) → WellFormed.fine_branches p f row ≡ true → InBranches many (plain_branches p.types texts row)
    branches_in end_of-Branch h = tt
    branches_in (more_of-Branch x _ body more) h =
        let b = and_of (gives_number (WellFormed.checked_form p f x)) (WellFormed.fine_row p f body && WellFormed.fine_branches p f more) h in
        let c = and_of (WellFormed.fine_row p f body) (WellFormed.fine_branches p f more) b.1 in
        (number_in x b.0, statements_in body c.0, branches_in more c.1)

    case_parts_in : {m : _} (row : Row_of-CasePart m) → WellFormed.fine_case_parts p f row ≡ true → InParts many (plain_case_parts p.types texts row)
    case_parts_in end_of-CasePart h = tt
    case_parts_in (more_of-CasePart labels _ body more) h =
        let b = and_of (all WellFormed.label_fine labels) (WellFormed.fine_row p f body && WellFormed.fine_case_parts p f more) h in
        let c = and_of (WellFormed.fine_row p f body) (WellFormed.fine_case_parts p f more) b.1 in
        (tt, statements_in body c.0, case_parts_in more c.1)

    type_parts_in : {m : _} (row : Row_of-TypePart m) → WellFormed.fine_type_parts p f row ≡ true → InParts many (plain_type_parts p.types texts row)
    type_parts_in end_of-TypePart h = tt
    type_parts_in (more_of-TypePart r _ body more) h =
        let b = and_of (is_record_type p.types r) (WellFormed.fine_row p f body && WellFormed.fine_type_parts p f more) h in
        let c = and_of (WellFormed.fine_row p f body) (WellFormed.fine_type_parts p f more) b.1 in
        (record_below p.types r b.0, statements_in body c.0, type_parts_in more c.1)

  pub body_in : (ss : List Stmt) → all (WellFormed.fine p f) ss ≡ true → InStatements many (plain_body p.types texts ss)
  body_in [] h = tt
  body_in (s ∷ more) h = let b = and_of (WellFormed.fine p f s) (all (WellFormed.fine p f) more) h in (statement_in s b.0, body_in more b.1)

  pub answer_in : (o : Option Form) (x : Option Checked) → WellFormed.answer_fine p f o x ≡ true → InAnswer many (option_map (plain_checked p.types texts) x)
  answer_in o None h = tt
  answer_in None (Some x) h = no h
  answer_in (Some form) (Some x) h = checked_in x (checked_is p f x (given_is p f (WellFormed.checked_form p f x) (Some form) h))
