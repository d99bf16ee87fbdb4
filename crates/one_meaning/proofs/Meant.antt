-- The meaning as a function of a program's form: of expressions, statements and calls.
use Rattle.std.specs.Prelude.{ℕ, zero, suc, ◌+◌, List, [], ◌∷◌, ◌++◌, map, length, replicate, Bool, true, false, Option, Some, None, slice_get, nat_lt, nat_le}
use Rattle.run_laws.specs.Turns.{Spent, ◌>>=◌, give, look, spend, repeat, until_so}
use Rattle.ob_types.specs.Store.{Cell, Bits, Code, Globals, Frames, Strings, Act, senseless, given, Handed, At, Here, unless, spend_all}
use Rattle.ob_types.specs.Operators.{labels_have}
use Rattle.ob_types.specs.Expressions.{Extension, element_place, field_of, object_of, narrowed, load, guarded, one_operand, two_operands, both, either, compared, texts_compared, contained, with_element, with_range, pointer_type, parameter_type, is_of, type_test, as_byte, length_of, by_value, by_place, by_record, by_open, cons, Calls, called_by_number, called_by_value, result_of}
use Rattle.ob_types.specs.Statements.{Deed, skip, assign, copy_array, copy_record, change_number, change_set, new, assert, out_char, out_int, out_string, in_char, otherwise, test, try, for, case, type_case}
use Rattle.ob_types.specs.Meaning.{receives, cells_in, within}
use Rattle.ob_types.specs.declared.tree.Binary.TheVariants.{Add, Subtract, Union, Difference}
use Rattle.ob_judge.specs.Shapes.{Shape}
use Rattle.ob_judge.specs.Image as I
use Rattle.one_lowering.proofs.Middle.{length_in, record_in, element_in, byte_in}

-- what the meaning asks of the whole program: the cells of a type and of a record type, where a field stands, which record type
-- extends which, at which cell a variable begins, and which string a use is of
pub record Asked : Type 0 where
  pub size : Shape → ℕ
  pub whole : ℕ → ℕ
  pub place : (r field : ℕ) → ℕ
  pub extends : Extension
  pub global : (m v : ℕ) → ℕ
  pub local : (f v : ℕ) → ℕ
  pub text : (f k : ℕ) → ℕ

module _ (a : Asked) (calls : Calls) (here : Here) where
  -- a use of a string by its number
  abbrev pub text_at : List ℕ → Act Handed
  text_at (k ∷ []) = give (At (record { area = Strings; object = a.text here.procedure k; cell = 0 }))
  text_at _ = senseless

  abbrev mutual
    pub mean_expr : I.Expr → Act Cell
    mean_expr (I.Literal n) = give (Bits n)
    mean_expr (I.Routine g) = give (Code g)
    mean_expr (I.Load d) = load (mean_named d)
    mean_expr (I.Guard x r) = guarded here.procedure a.extends (mean_expr x) r
    mean_expr (I.Apply op x) = one_operand op (mean_expr x)
    mean_expr (I.Linked x k) = mean_link k (mean_expr x)
    mean_expr (I.Compare r x y) = compared r (mean_expr x) (mean_expr y)
    mean_expr (I.CompareTexts r d e) = texts_compared r (mean_named d) (length_in d) (mean_named e) (length_in e)
    mean_expr (I.In x s) = contained here.procedure (mean_expr x) (mean_expr s)
    mean_expr (I.IsPointer x r) = type_test a.extends (pointer_type (mean_expr x)) r
    mean_expr (I.IsParameter d r) = type_test a.extends (parameter_type (mean_named d)) r
    mean_expr (I.AsByte x) = as_byte here.procedure (mean_expr x)
    mean_expr (I.Length d) = length_of (mean_named d) (length_in d)
    mean_expr (I.Result c) = result_of (mean_call c)

    pub mean_link : I.Link → Act Cell → Act Cell
    mean_link (I.Operate op y) x = two_operands here.procedure op x (mean_expr y)
    mean_link (I.And y) x = both x (mean_expr y)
    mean_link (I.Or y) x = either x (mean_expr y)
    mean_link (I.Element y) x = with_element here.procedure x (mean_expr y)
    mean_link (I.Elements y z) x = with_range here.procedure x (mean_expr y) (mean_expr z)

    pub mean_named : I.Designator → Act Handed
    mean_named (I.of_type place s) = mean_place place

    pub mean_place : I.Place → Act Handed
    mean_place I.Done = give (At (record { area = Globals; object = 0; cell = 0 }))
    mean_place (I.Global m v) = give (At (record { area = Globals; object = suc m; cell = a.global m v }))
    mean_place (I.Local v) = give (At (record { area = Frames; object = here.frame; cell = a.local here.procedure v }))
    mean_place (I.Parameter k) = given (slice_get here.arguments k)
    mean_place (I.Text cs) = text_at cs
    mean_place (I.Index place n s x) = element_place here.procedure (mean_place place) n (a.size s) (mean_expr x)
    mean_place (I.Field place r number) = field_of (mean_place place) (a.place r number)
    mean_place (I.Dereference x) = object_of here.procedure (mean_expr x)
    mean_place (I.Narrow place r) = narrowed here.procedure a.extends (mean_place place) r

    pub mean_call : I.Call → Act (Option Cell)
    mean_call (I.Direct g xs) = called_by_number calls g (mean_arguments xs)
    mean_call (I.Indirect d xs) = called_by_value here.procedure calls (load (mean_named d)) (mean_arguments xs)

    pub mean_argument : I.Argument → Act Handed
    mean_argument (I.ByValue x) = by_value (mean_expr x)
    mean_argument (I.ByPlace d) = by_place (mean_named d)
    mean_argument (I.ByRecord d) = by_record (mean_named d) (record_in d)
    mean_argument (I.ByOpen d) = by_open (mean_named d) (length_in d)

    pub mean_arguments : I.Arguments → Act (List Handed)
    mean_arguments I.no_argument = give []
    mean_arguments (I.next_argument x more) = cons (mean_argument x) (mean_arguments more)

  abbrev pub mean_value : I.Checked → Act Cell
  mean_value x = mean_expr x.form

  module _ (fuel : ℕ) where
    abbrev mutual
      pub mean_statement : I.Statement → Deed
      mean_statement (I.Assign d x) = assign (mean_named d) (mean_value x)
      mean_statement (I.CopyArray d e) = copy_array here.procedure (mean_named d) (length_in d) (mean_named e) (length_in e) (a.size (element_in d))
      mean_statement (I.CopyRecord d e) = copy_record (mean_named d) (mean_named e) (a.whole (record_in d))
      mean_statement (I.Increase d x) = change_number here.procedure Add (mean_named d) (mean_value x) (byte_in d)
      mean_statement (I.Decrease d x) = change_number here.procedure Subtract (mean_named d) (mean_value x) (byte_in d)
      mean_statement (I.Include d x) = change_set here.procedure Union (mean_named d) (mean_value x)
      mean_statement (I.Exclude d x) = change_set here.procedure Difference (mean_named d) (mean_value x)
      mean_statement (I.New d) = new here.procedure (mean_named d) (record_in d) (a.whole (record_in d))
      mean_statement (I.Assert x) = assert here.procedure (mean_value x)
      mean_statement (I.OutChar x) = out_char (mean_value x)
      mean_statement (I.OutInt x n) = out_int (mean_value x) (mean_value n)
      mean_statement (I.OutString d) = out_string (mean_named d) (length_in d)
      mean_statement I.OutLn = out_char (give (Bits 10))
      mean_statement (I.InChar d) = in_char (mean_named d)
      mean_statement (I.Invoke c) = mean_call c >>= λ _. skip
      mean_statement (I.If parts other) = otherwise (mean_branches parts) (mean_statements other)
      mean_statement (I.While parts) = repeat fuel (mean_branches parts)
      mean_statement (I.Repeat body x) = until_so fuel (mean_statements body) (test (mean_value x))
      mean_statement (I.For d x y step body) = for fuel (mean_named d) (mean_value x) (mean_value y) step (mean_statements body)
      mean_statement (I.Case x parts) = case here.procedure (mean_value x) (λ v. mean_case_parts v parts)
      mean_statement (I.CasePointer x parts) = type_case (pointer_type (mean_value x)) (λ t. mean_type_parts t parts)
      mean_statement (I.CaseParameter d parts) = type_case (parameter_type (mean_named d)) (λ t. mean_type_parts t parts)

      pub mean_statements : I.Statements → Deed
      mean_statements I.no_statement = skip
      mean_statements (I.next_statement s more) = mean_statement s >>= λ _. mean_statements more

      pub mean_branches : I.Branches → Act Bool
      mean_branches I.no_branch = give false
      mean_branches (I.next_branch x body more) = try (test (mean_value x)) (mean_statements body) (mean_branches more)

      pub mean_case_parts : ℕ → I.Parts → Act Bool
      mean_case_parts v I.no_part = give false
      mean_case_parts v (I.next_part (I.Labels labels) body more) = try (give (labels_have v labels)) (mean_statements body) (mean_case_parts v more)
      mean_case_parts v (I.next_part (I.Extends r) body more) = mean_case_parts v more

      pub mean_type_parts : Option ℕ → I.Parts → Act Bool
      mean_type_parts t I.no_part = give false
      mean_type_parts t (I.next_part (I.Labels labels) body more) = mean_type_parts t more
      mean_type_parts t (I.next_part (I.Extends r) body more) = try (give (is_of a.extends t r)) (mean_statements body) (mean_type_parts t more)

  abbrev pub mean_answer : Option I.Checked → Act (Option Cell)
  mean_answer None = give None
  mean_answer (Some x) = do
    c ← mean_value x
    give (Some c)

---- Calls

-- the cells of the scalar value parameters
abbrev pub mean_received : List I.Formal → List Handed → Option (List Cell)
mean_received [] [] = Some []
mean_received (x ∷ xs) (h ∷ hs) = receives x.mode h (mean_received xs hs)
mean_received _ _ = None

-- a procedure by its form, of which so many cells of local variables are arrays and records, and so many all
pub record Invoked : Type 0 where
  pub form : I.Procedure
  pub zeroed : ℕ
  pub own : ℕ

module _ (a : Asked) (procedure : ℕ → Invoked) where
  abbrev pub mean_invoked : Calls → ℕ → Calls
  mean_invoked calls fuel f hs =
      let q = procedure f in do
        values ← given (mean_received q.form.formals hs)
        frames ← look (λ s. s.frames)
        _ ← unless f 8 (nat_lt (length frames) 8192)
        _ ← unless f 9 (nat_le (cells_in frames + (length values + q.own)) 1048576)
        _ ← spend_all q.zeroed
        within (values ++ replicate q.own (Bits 0)) (λ frame.
            let here : Here = record { procedure = f; frame = frame; arguments = hs } in do
              _ ← mean_statements a calls here fuel q.form.body
              c ← mean_answer a calls here q.form.answer
              _ ← spend
              give c)

  abbrev pub mean_at_most : ℕ → Calls
  mean_at_most zero f hs s = Spent s.out
  mean_at_most (suc fuel) f hs s = (do
    _ ← spend
    mean_invoked (mean_at_most fuel) fuel f hs) s

  abbrev pub mean_bodies : ℕ → List I.Module → Deed
  mean_bodies fuel [] = skip
  mean_bodies fuel (m ∷ ms) = do
    _ ← mean_statements a (mean_at_most fuel) (record { procedure = m.body; frame = 0; arguments = [] }) fuel (procedure m.body).form.body
    mean_bodies fuel ms
