-- What statements mean is told by their form.
use Rattle.std.proofs.Common.{◌≡◌, ℕ, suc, List, [], ◌∷◌, Bool, true, false, ◌&&◌, Option, Some, None, refl, ap, ap₂, subst, ◌∙◌}
use Rattle.std.specs.Prelude.{is_some, option_map}
use Rattle.run_laws.specs.Turns.{◌>>=◌, give, repeat, until_so}
use Rattle.ob_types.specs.Layout.{cells, extends}
use Rattle.ob_types.specs.Store.{Cell, Act, Handed, Here}
use Rattle.ob_types.specs.Operators.{labels_have}
use Rattle.ob_types.specs.Expressions.{Calls, pointer_type, parameter_type, is_of}
use Rattle.ob_types.specs.Statements.{skip, assign, copy_array, copy_record, change_number, change_set, new, assert, out_char, out_int, out_string, in_char, otherwise, test, try, for, case, type_case}
use Rattle.ob_types.specs.Meaning.{kind_in, length_of_kind, element_kind, record_of_kind, is_byte, value, designated, effect, effects, branches, case_parts, type_parts, effects_of, answer}
use Rattle.ob_types.specs.declared.types.TypeKind.{TypeKind}
use Rattle.ob_types.specs.declared.types.TypeKind.TheVariants as TheKind
use Rattle.ob_types.specs.declared.tree.Binary.TheVariants.{Add, Subtract, Union, Difference}
use Rattle.ob_types.specs.declared.tree.Designator.{Designator, Whole, Part'}
use Rattle.ob_types.specs.declared.statements.Checked.{Checked}
use Rattle.ob_types.specs.declared.statements.Stmt.{Stmt, Assign, CopyArray, CopyRecord, Increase, Decrease, Include, Exclude, New, Assert, OutChar, OutInt, OutString, OutLn, InChar, If', While', Repeat', For', Case', CasePointer', CaseParameter', Row_of-Stmt, end_of-Stmt, more_of-Stmt, Row_of-Branch, end_of-Branch, more_of-Branch, Row_of-CasePart, end_of-CasePart, more_of-CasePart, Row_of-TypePart, end_of-TypePart, more_of-TypePart}
use Rattle.ob_types.specs.declared.statements.Stmt.{Call as Invoke}
use Rattle.ob_types.specs.declared.program.Program.{Program}
use Rattle.ob_types.specs.Forms.{Form, all}
use Rattle.ob_types.specs.LegalTypes.{is_record_type}
use Rattle.ob_types.specs.WellFormed
use Rattle.ob_types.specs.WellFormed.{Named as Thing, holds_of, gives_number, gives_pointer}
use Rattle.ob_types.proofs.Tests.{no, and_of}
use Rattle.judged_tree.specs.TypeShapes.{shape_of_kind}
use Rattle.judged_tree.specs.Plain.{plain_designator, plain_checked, plain_statement, plain_statements, plain_branches, plain_case_parts, plain_type_parts, plain_body}
use Rattle.one_lowering.proofs.Sizes.{shape_element, same_byte}
use Rattle.one_lowering.proofs.Middle.{length_in, record_in, element_in, byte_in}
use Rattle.one_lowering.proofs.Suits.{Is, of_holds, holds_is, given_is, checked_is, number_checked}
use Rattle.one_lowering.proofs.Sound.{AreClosed, Sound, element_closed, letter_shape, open_array, sound_named}
use Rattle.one_meaning.proofs.Meant.{Asked, mean_named, mean_value, mean_statement, mean_statements, mean_branches, mean_case_parts, mean_type_parts, mean_answer}
use Rattle.one_meaning.proofs.Expressions.{Answers, uses, Nameable, length_same, record_same, same_expr, same_named, same_called}

module _ (p : Program) (a : Asked) (answers : Answers p a) (calls : Calls) (here : Here) (closed : AreClosed p here.procedure) where
  abbrev f : ℕ
  f = here.procedure

  abbrev texts : List (List ℕ)
  texts = uses p a answers calls here closed

  abbrev Checks : Checked → Type 0
  Checks x = Is (WellFormed.form p f x.form)

  value_same : (x : Checked) → Checks x → value p calls here x.form ≡ mean_value a calls here (plain_checked p.types texts x)
  value_same x h = same_expr p a answers calls here closed x.form h

  test_same : (x : Checked) → Checks x → test (value p calls here x.form) ≡ test (mean_value a calls here (plain_checked p.types texts x))
  test_same x h = ap (λ u. test u) (value_same x h)

  named_same : (d : Designator) → Nameable p a answers calls here closed d → designated p calls here d ≡ mean_named a calls here (plain_designator p.types texts d)
  named_same d h = same_named p a answers calls here closed d h

  lengths : (d : Designator) → length_of_kind (kind_in d) ≡ length_in (plain_designator p.types texts d)
  lengths d = length_same p a answers calls here closed d

  records : (d : Designator) → record_of_kind (kind_in d) ≡ record_in (plain_designator p.types texts d)
  records d = record_same p a answers calls here closed d

  byte_same : (d : Designator) → is_byte (kind_in d) ≡ byte_in (plain_designator p.types texts d)
  byte_same (Whole b kind) = same_byte p.types kind
  byte_same (Part' _ b kind _ row) = same_byte p.types kind

  number_of : (x : Checked) → gives_number (WellFormed.checked_form p f x) ≡ true → Checks x
  number_of x h = number_checked p f x h

  -- INC, DEC, INCL and EXCL
  stepped : (d : Designator) (x : Checked) (test : Form → Bool) → (gives_number (WellFormed.checked_form p f x) && holds_of (WellFormed.takes p test) (WellFormed.named p f d)) ≡ true → Checks x × Nameable p a answers calls here closed d
  stepped d x test h =
      let b = and_of (gives_number (WellFormed.checked_form p f x)) (holds_of (WellFormed.takes p test) (WellFormed.named p f d)) h in
      (number_of x b.0, holds_is (WellFormed.takes p test) (WellFormed.named p f d) b.1)

  -- the cells of what an array's elements are, where one is copied
  element_size : (kind : TypeKind) (d : Thing) → Sound p d → WellFormed.has_kind p kind d ≡ true → WellFormed.array_of p (element_kind kind) (length_of_kind kind) d ≡ true
      → cells p.types (element_kind kind) ≡ a.size (shape_element (shape_of_kind p.types kind))
  element_size (TheKind.Array (Some n) e) d sound is h = answers.size e (element_closed p e (Some n) d sound h)
  element_size (TheKind.Array None e) d sound is h = answers.size e (element_closed p e None d sound h)
  element_size (TheKind.Text n) d sound is h =
      let char = letter_shape p 0 n d is h in
      answers.size 0 (element_closed p 0 (Some (suc n)) d sound h) ∙ ap (λ s. a.size s) char
  element_size kind d sound is h =
      let o = open_array p (element_kind kind) d h in
      no (subst (λ y. WellFormed.has_kind p kind y ≡ true) o.2 is)

  copied_size : (d : Designator) → holds_of (WellFormed.may_copy p f (element_kind (kind_in d)) (length_of_kind (kind_in d))) (WellFormed.named p f d) ≡ true
      → cells p.types (element_kind (kind_in d)) ≡ a.size (element_in (plain_designator p.types texts d))
  copied_size d h =
      let x = of_holds (WellFormed.may_copy p f (element_kind (kind_in d)) (length_of_kind (kind_in d))) (WellFormed.named p f d) h in
      let s = sound_named p f closed d x.0 x.1 in
      let array = (and_of (WellFormed.is_writable x.0) (WellFormed.array_of p (element_kind (kind_in d)) (length_of_kind (kind_in d)) x.0) x.2).1 in
      element_size (kind_in d) x.0 s.1 s.0 array ∙ elements_in d
    where
      elements_in : (d : Designator) → a.size (shape_element (shape_of_kind p.types (kind_in d))) ≡ a.size (element_in (plain_designator p.types texts d))
      elements_in (Whole b kind) = refl
      elements_in (Part' _ b kind _ row) = refl

  module _ (fuel : ℕ) where
    mutual
      same_effect : (s : Stmt) → WellFormed.fine p f s ≡ true → effect p calls here fuel s ≡ mean_statement a calls here fuel (plain_statement p.types texts s)
      same_effect (Assign d x) h =
          let b = of_holds (λ t. WellFormed.is_writable t && WellFormed.given_for p (WellFormed.checked_form p f x) (WellFormed.scalar_in p t)) (WellFormed.named p f d) h in
          let c = and_of (WellFormed.is_writable b.0) (WellFormed.given_for p (WellFormed.checked_form p f x) (WellFormed.scalar_in p b.0)) b.2 in
          ap₂ (λ u v. assign u v) (named_same d (ap is_some b.1)) (value_same x (checked_is p f x (given_is p f (WellFormed.checked_form p f x) (WellFormed.scalar_in p b.0) c.1)))
      same_effect (CopyArray d e) h =
          let to = holds_of (WellFormed.may_copy p f (element_kind (kind_in d)) (length_of_kind (kind_in d))) (WellFormed.named p f d) in
          let from = holds_of (WellFormed.array_of p (element_kind (kind_in d)) (length_of_kind (kind_in e))) (WellFormed.named p f e) in
          let b = and_of to from (and_of (WellFormed.lengths_fit (length_of_kind (kind_in d)) (length_of_kind (kind_in e))) (to && from) h).1 in
          let u = named_same d (holds_is (WellFormed.may_copy p f (element_kind (kind_in d)) (length_of_kind (kind_in d))) (WellFormed.named p f d) b.0) in
          let v = named_same e (holds_is (WellFormed.array_of p (element_kind (kind_in d)) (length_of_kind (kind_in e))) (WellFormed.named p f e) b.1) in
          let size = copied_size d b.0 in
          λ k. copy_array f (u k) (lengths d k) (v k) (lengths e k) (size k)
      same_effect (CopyRecord d e) h =
          let writes : Thing → Bool = λ t. WellFormed.is_writable t && WellFormed.has_record p (record_of_kind (kind_in d)) t in
          let b = and_of (holds_of writes (WellFormed.named p f d)) (holds_of (WellFormed.has_record p (record_of_kind (kind_in d))) (WellFormed.named p f e)) h in
          let u = named_same d (holds_is writes (WellFormed.named p f d) b.0) in
          let v = named_same e (holds_is (WellFormed.has_record p (record_of_kind (kind_in d))) (WellFormed.named p f e) b.1) in
          let size = answers.whole (record_of_kind (kind_in d)) ∙ ap (λ r. a.whole r) (records d) in
          λ k. copy_record (u k) (v k) (size k)
      same_effect (Increase d x) h = let b = stepped d x (WellFormed.changes (is_byte (kind_in d))) h in λ k. change_number f Add (named_same d b.1 k) (value_same x b.0 k) (byte_same d k)
      same_effect (Decrease d x) h = let b = stepped d x (WellFormed.changes (is_byte (kind_in d))) h in λ k. change_number f Subtract (named_same d b.1 k) (value_same x b.0 k) (byte_same d k)
      same_effect (Include d x) h = let b = stepped d x WellFormed.is_full h in ap₂ (λ u v. change_set f Union u v) (named_same d b.1) (value_same x b.0)
      same_effect (Exclude d x) h = let b = stepped d x WellFormed.is_full h in ap₂ (λ u v. change_set f Difference u v) (named_same d b.1) (value_same x b.0)
      same_effect (New d) h =
          let r = record_of_kind (kind_in d) in
          let u = named_same d (holds_is (WellFormed.takes p (WellFormed.points_to p r)) (WellFormed.named p f d) h) in
          let size = answers.whole r ∙ ap (λ r. a.whole r) (records d) in
          λ k. new f (u k) (records d k) (size k)
      same_effect (Assert x) h = ap (λ u. assert f u) (value_same x (number_of x h))
      same_effect (OutChar x) h = ap (λ u. out_char u) (value_same x (checked_is p f x (holds_is WellFormed.is_small (WellFormed.checked_form p f x) h)))
      same_effect (OutInt x n) h =
          let b = and_of (gives_number (WellFormed.checked_form p f x)) (gives_number (WellFormed.checked_form p f n)) h in
          ap₂ (λ u v. out_int u v) (value_same x (number_of x b.0)) (value_same n (number_of n b.1))
      same_effect (OutString d) h = ap₂ (λ u n. out_string u n) (named_same d (holds_is (WellFormed.is_text p (length_of_kind (kind_in d))) (WellFormed.named p f d) h)) (lengths d)
      same_effect OutLn h = refl
      same_effect (InChar d) h = ap (λ u. in_char u) (named_same d (holds_is (WellFormed.takes p (WellFormed.changes true)) (WellFormed.named p f d) h))
      same_effect (Invoke c) h = ap (λ u. u >>= λ _. skip) (same_called p a answers calls here closed c h)
      same_effect (If' _ parts _ other) h =
          let b = and_of (WellFormed.fine_branches p f parts) (WellFormed.fine_row p f other) h in
          ap₂ (λ u v. otherwise u v) (same_branches parts b.0) (same_effects other b.1)
      same_effect (While' _ parts) h =
          let b = and_of (WellFormed.has_branch parts) (WellFormed.fine_branches p f parts) h in
          ap (λ u. repeat fuel u) (same_branches parts b.1)
      same_effect (Repeat' _ body x) h =
          let b = and_of (WellFormed.fine_row p f body) (gives_number (WellFormed.checked_form p f x)) h in
          ap₂ (λ u v. until_so fuel u v) (same_effects body b.0) (test_same x (number_of x b.1))
      same_effect (For' _ d x y step _ body) h =
          let place = holds_of (WellFormed.takes p WellFormed.is_full) (WellFormed.named p f d) in
          let number = gives_number (WellFormed.checked_form p f x) in
          let limit = gives_number (WellFormed.checked_form p f y) in
          let b = and_of (WellFormed.is_step step) (WellFormed.is_whole d && (place && (number && (limit && WellFormed.fine_row p f body)))) h in
          let w = and_of (WellFormed.is_whole d) (place && (number && (limit && WellFormed.fine_row p f body))) b.1 in
          let c = and_of place (number && (limit && WellFormed.fine_row p f body)) w.1 in
          let e = and_of number (limit && WellFormed.fine_row p f body) c.1 in
          let g = and_of limit (WellFormed.fine_row p f body) e.1 in
          let variable = named_same d (holds_is (WellFormed.takes p WellFormed.is_full) (WellFormed.named p f d) c.0) in
          let first = value_same x (number_of x e.0) in
          let last = value_same y (number_of y g.0) in
          let inner = same_effects body g.1 in
          λ k. for fuel (variable k) (first k) (last k) step (inner k)
      same_effect (Case' x _ parts) h =
          let b = and_of (gives_number (WellFormed.checked_form p f x)) (WellFormed.fine_case_parts p f parts) h in
          let given = value_same x (number_of x b.0) in
          λ k. case f (given k) (λ v. same_case_parts v parts b.1 k)
      same_effect (CasePointer' x _ parts) h =
          let b = and_of (gives_pointer (WellFormed.checked_form p f x)) (WellFormed.fine_type_parts p f parts) h in
          let given = value_same x (checked_is p f x (holds_is WellFormed.is_pointer (WellFormed.checked_form p f x) b.0)) in
          λ k. type_case (pointer_type (given k)) (λ t. same_type_parts t parts b.1 k)
      same_effect (CaseParameter' d _ parts) h =
          let b = and_of (holds_of (WellFormed.is_dynamic p) (WellFormed.named p f d)) (WellFormed.fine_type_parts p f parts) h in
          let given = named_same d (holds_is (WellFormed.is_dynamic p) (WellFormed.named p f d) b.0) in
          λ k. type_case (parameter_type (given k)) (λ t. same_type_parts t parts b.1 k)

      same_effects : {m : _} (row : Row_of-Stmt m) → WellFormed.fine_row p f row ≡ true → effects p calls here fuel row ≡ mean_statements a calls here fuel (plain_statements p.types texts row)
      same_effects end_of-Stmt h = refl
      same_effects (more_of-Stmt s more) h =
          let b = and_of (WellFormed.fine p f s) (WellFormed.fine_row p f more) h in
          ap₂ (λ u v. u >>= λ _. v) (same_effect s b.0) (same_effects more b.1)

      same_branches : {m : _} (row : Row_of-Branch m) → WellFormed.fine_branches p f row ≡ true → branches p calls here fuel row ≡ mean_branches a calls here fuel (plain_branches p.types texts row)
      same_branches end_of-Branch h = refl
      same_branches (more_of-Branch x _ body more) h =
          let b = and_of (gives_number (WellFormed.checked_form p f x)) (WellFormed.fine_row p f body && WellFormed.fine_branches p f more) h in
          let c = and_of (WellFormed.fine_row p f body) (WellFormed.fine_branches p f more) b.1 in
          let first = test_same x (number_of x b.0) in
          let inner = same_effects body c.0 in
          let rest = same_branches more c.1 in
          λ k. try (first k) (inner k) (rest k)

      same_case_parts : (v : ℕ) {m : _} (row : Row_of-CasePart m) → WellFormed.fine_case_parts p f row ≡ true → case_parts p calls here fuel v row ≡ mean_case_parts a calls here fuel v (plain_case_parts p.types texts row)
      same_case_parts v end_of-CasePart h = refl
      same_case_parts v (more_of-CasePart labels _ body more) h =
          let b = and_of (all WellFormed.label_fine labels) (WellFormed.fine_row p f body && WellFormed.fine_case_parts p f more) h in
          let c = and_of (WellFormed.fine_row p f body) (WellFormed.fine_case_parts p f more) b.1 in
          ap₂ (λ u w. try (give (labels_have v labels)) u w) (same_effects body c.0) (same_case_parts v more c.1)

      same_type_parts : (t : Option ℕ) {m : _} (row : Row_of-TypePart m) → WellFormed.fine_type_parts p f row ≡ true → type_parts p calls here fuel t row ≡ mean_type_parts a calls here fuel t (plain_type_parts p.types texts row)
      same_type_parts t end_of-TypePart h = refl
      same_type_parts t (more_of-TypePart r _ body more) h =
          let b = and_of (is_record_type p.types r) (WellFormed.fine_row p f body && WellFormed.fine_type_parts p f more) h in
          let c = and_of (WellFormed.fine_row p f body) (WellFormed.fine_type_parts p f more) b.1 in
          let inner = same_effects body c.0 in
          let rest = same_type_parts t more c.1 in
          λ k. try (give (is_of (answers.extending k) t r)) (inner k) (rest k)

    pub same_body : (ss : List Stmt) → all (WellFormed.fine p f) ss ≡ true → effects_of p calls here fuel ss ≡ mean_statements a calls here fuel (plain_body p.types texts ss)
    same_body [] h = refl
    same_body (s ∷ more) h =
        let b = and_of (WellFormed.fine p f s) (all (WellFormed.fine p f) more) h in
        ap₂ (λ u v. u >>= λ _. v) (same_effect s b.0) (same_body more b.1)

  pub same_answer : (o : Option Form) (x : Option Checked) → WellFormed.answer_fine p f o x ≡ true → answer p calls here x ≡ mean_answer a calls here (option_map (plain_checked p.types texts) x)
  same_answer o None h = refl
  same_answer None (Some x) h = no h
  same_answer (Some form) (Some x) h =
      ap (λ u. u >>= λ c. give (Some c)) (value_same x (checked_is p f x (given_is p f (WellFormed.checked_form p f x) (Some form) h)))
