-- What statements become is told by their form.
use Rattle.std.proofs.Common.{◌≡◌, ℕ, suc, List, [], ◌∷◌, map, Bool, true, ◌&&◌, ◌||◌, Option, Some, None, refl, ap, ap₂, subst, ◌∙◌}
use Rattle.std.specs.Prelude.{is_some, option_map}
use Rattle.wrapping_numbers.specs.Numbers.{unsigned}
use Rattle.ob_types.specs.Meaning.{kind_in, length_of_kind, element_kind, record_of_kind, is_byte}
use Rattle.ob_types.specs.declared.types.TypeKind.{TypeKind}
use Rattle.ob_types.specs.declared.types.TypeKind.TheVariants as TheKind
use Rattle.ob_types.specs.declared.tree.Binary.TheVariants.{Add, Subtract, Union, Difference}
use Rattle.ob_types.specs.declared.tree.Designator.{Designator, Whole, Part'}
use Rattle.ob_types.specs.declared.statements.Checked.{Checked}
use Rattle.ob_types.specs.declared.statements.Stmt.{Stmt, Assign, CopyArray, CopyRecord, Increase, Decrease, Include, Exclude, New, Assert, OutChar, OutInt, OutString, OutLn, InChar, If', While', Repeat', For', Case', CasePointer', CaseParameter', Row_of-Stmt, end_of-Stmt, more_of-Stmt, Row_of-Branch, end_of-Branch, more_of-Branch, Row_of-CasePart, end_of-CasePart, more_of-CasePart, Row_of-TypePart, end_of-TypePart, more_of-TypePart}
use Rattle.ob_types.specs.declared.statements.Stmt.{Call as Invoke}
use Rattle.ob_types.specs.declared.program.Program.{Program}
use Rattle.ob_types.specs.Forms.{Form, all}
use Rattle.ob_types.specs.LegalTypes.{is_record_type}
use Rattle.ob_types.specs.WellFormed
use Rattle.ob_types.specs.WellFormed.{Named as Thing, Cells, Of, OpenOf, Dynamic, Characters, holds_of, gives_number, gives_pointer, element_by}
use Rattle.ob_types.proofs.Tests.{no, and_of}
use Rattle.block_runs.specs.declared.end.End.TheVariants.{Jump, Trap}
use Rattle.ssa_lowered.specs.Data.{layout, rounded}
use Rattle.ssa_lowered.specs.Pieces.{Low, give, ◌>>=◌, Mask}
use Rattle.ssa_lowered.specs.Control.{fork_value, choose, loop, repeat, for}
use Rattle.ssa_lowered.specs.Values.{const, binary, is_pointer, is_tag, tag_of, load, home_of, without_result}
use Rattle.ssa_lowered.specs.Statements.{Deed, assign, change_number, change_set, new, copy_array, copy_record, assert, out_char, out_int, out_string, in_char}
use Rattle.ssa_lowered.specs.Variables.{either, itself, assigned_all, assigned_branches, assigned_case_parts, assigned_type_parts}
use Rattle.ssa_lowered.specs.Lowered
use Rattle.ssa_lowered.specs.Lowered.{Here, named, value, test, home, registers, label_tests, type_tests, labels_of, records_of, deed, deeds, alternatives, guarded_rounds, case_bodies, type_bodies, deeds_of, answer}
use Rattle.judged_tree.specs.TypeShapes.{shape_of_kind}
use Rattle.judged_tree.specs.Plain.{plain_designator, plain_checked, plain_statement, plain_statements, plain_branches, plain_case_parts, plain_type_parts, plain_body}
use Rattle.one_lowering.proofs.Sizes.{shape_element, same_byte}
use Rattle.one_lowering.proofs.Middle
use Rattle.one_lowering.proofs.Middle.{Asked, character, length_in, record_in, element_in, byte_in, itself_in, assigned_statements, assigned_parts, bound, case_of, low_named, low_value, low_test, low_home, low_statement, low_statements, low_alternatives, low_rounds, low_bodies, low_answer}
use Rattle.one_lowering.proofs.Masks.{same_itself, assigned_all_same, assigned_branches_same, assigned_case_parts_same, assigned_type_parts_same}
use Rattle.one_lowering.proofs.Suits.{Is, of_holds, holds_is, given_is, checked_is, number_checked}
use Rattle.one_lowering.proofs.Sound.{AreClosed, Sound, element_closed, letter_shape, open_array, sound_named}
use Rattle.one_lowering.proofs.Expressions.{Answers, uses, Nameable, small_same, length_same, record_same, same_expr, same_named, same_called}

module _ (p : Program) (here : Here) (a : Asked) (answers : Answers p here a) (closed : AreClosed p here.number) where
  abbrev f : ℕ
  f = here.number

  abbrev texts : List (List ℕ)
  texts = uses p here a answers closed

  abbrev Checks : Checked → Type 0
  Checks x = Is (WellFormed.form p f x.form)

  value_same : (x : Checked) → Checks x → value p (layout p.types) here x ≡ low_value a (plain_checked p.types texts x)
  value_same x h = ap (λ u. u.value) (same_expr p here a answers closed x.form h)

  test_same : (x : Checked) → Checks x → test p (layout p.types) here x ≡ low_test a (plain_checked p.types texts x)
  test_same x h = ap (λ u. u.test) (same_expr p here a answers closed x.form h)

  named_same : (d : Designator) → Nameable p here a answers closed d → named p (layout p.types) here d ≡ low_named a (plain_designator p.types texts d)
  named_same d h = same_named p here a answers closed d h

  home_same : (d : Designator) → Nameable p here a answers closed d → home p (layout p.types) here d ≡ low_home a (plain_designator p.types texts d)
  home_same d h = ap₂ (λ u small. home_of u small) (named_same d h) (small_same p here a answers closed d)

  lengths : (d : Designator) → length_of_kind (kind_in d) ≡ length_in (plain_designator p.types texts d)
  lengths d = length_same p here a answers closed d

  records : (d : Designator) → record_of_kind (kind_in d) ≡ record_in (plain_designator p.types texts d)
  records d = record_same p here a answers closed d

  byte_same : (d : Designator) → is_byte (kind_in d) ≡ byte_in (plain_designator p.types texts d)
  byte_same (Whole b kind) = same_byte p.types kind
  byte_same (Part' _ b kind _ row) = same_byte p.types kind

  number_of : (x : Checked) → gives_number (WellFormed.checked_form p f x) ≡ true → Checks x
  number_of x h = number_checked p f x h

  -- INC, DEC, INCL and EXCL
  stepped : (d : Designator) (x : Checked) (test : Form → Bool) → (gives_number (WellFormed.checked_form p f x) && holds_of (WellFormed.takes p test) (WellFormed.named p f d)) ≡ true → Checks x × Nameable p here a answers closed d
  stepped d x test h =
      let b = and_of (gives_number (WellFormed.checked_form p f x)) (holds_of (WellFormed.takes p test) (WellFormed.named p f d)) h in
      (number_of x b.0, holds_is (WellFormed.takes p test) (WellFormed.named p f d) b.1)

  -- the bytes of what an array's elements are, where one is copied
  element_size : (kind : TypeKind) (d : Thing) → Sound p d → WellFormed.has_kind p kind d ≡ true → WellFormed.array_of p (element_kind kind) (length_of_kind kind) d ≡ true
      → (layout p.types).bytes (element_kind kind) ≡ a.size (shape_element (shape_of_kind p.types kind))
  element_size (TheKind.Array (Some n) e) d sound is h = answers.size e (element_closed p e (Some n) d sound h)
  element_size (TheKind.Array None e) d sound is h = answers.size e (element_closed p e None d sound h)
  element_size (TheKind.Text n) d sound is h =
      let char = letter_shape p 0 n d is h in
      answers.size 0 (element_closed p 0 (Some (suc n)) d sound h) ∙ ap (λ s. a.size s) char
  element_size kind d sound is h =
      let o = open_array p (element_kind kind) d h in
      no (subst (λ y. WellFormed.has_kind p kind y ≡ true) o.2 is)

  registers_same : (m n : Mask) → ((x : ℕ) → m x ≡ n x) → registers p (layout p.types) here m ≡ Middle.registers a n
  registers_same m n e = λ k x. answers.register x k && e x k

  -- the tests of a CASE of types
  tests_same : (is : ℕ → ℕ → ℕ → Low ℕ) (rs : List ℕ) (v : ℕ) → map (λ r. Lowered.type_test p (layout p.types) here is v r ∷ []) rs ≡ map (λ r. Middle.type_test a is v r ∷ []) rs
  tests_same is [] v = refl
  tests_same is (r ∷ rs) v = λ k. (fork_value (is (answers.descriptor r k) (answers.level r k) v) ∷ []) ∷ tests_same is rs v k

  -- labels and types of the parts of a CASE
  same_labels : {m : _} (row : Row_of-CasePart m) → labels_of p (layout p.types) here row ≡ Middle.labels_of (plain_case_parts p.types texts row)
  same_labels end_of-CasePart = refl
  same_labels (more_of-CasePart labels _ body more) = ap (λ u. labels ∷ u) (same_labels more)

  same_tags : {m : _} (row : Row_of-TypePart m) → records_of p (layout p.types) here row ≡ Middle.records_of (plain_type_parts p.types texts row)
  same_tags end_of-TypePart = refl
  same_tags (more_of-TypePart r _ body more) = ap (λ u. r ∷ u) (same_tags more)

  type_tests_same : {m : _} (is : ℕ → ℕ → ℕ → Low ℕ) (row : Row_of-TypePart m) → type_tests p (layout p.types) here row is ≡ Middle.type_tests a (plain_type_parts p.types texts row) is
  type_tests_same is row = λ k v. (tests_same is (records_of p (layout p.types) here row) v ∙ ap (λ rs. map (λ r. Middle.type_test a is v r ∷ []) rs) (same_tags row)) k

  copied_size : (d : Designator) → holds_of (WellFormed.may_copy p f (element_kind (kind_in d)) (length_of_kind (kind_in d))) (WellFormed.named p f d) ≡ true
      → (layout p.types).bytes (element_kind (kind_in d)) ≡ a.size (element_in (plain_designator p.types texts d))
  copied_size d h =
      let x = of_holds (WellFormed.may_copy p f (element_kind (kind_in d)) (length_of_kind (kind_in d))) (WellFormed.named p f d) h in
      let s = sound_named p f closed d x.0 x.1 in
      let array = (and_of (WellFormed.is_writable x.0) (WellFormed.array_of p (element_kind (kind_in d)) (length_of_kind (kind_in d)) x.0) x.2).1 in
      element_size (kind_in d) x.0 s.1 s.0 array ∙ elements_in d
    where
      elements_in : (d : Designator) → a.size (shape_element (shape_of_kind p.types (kind_in d))) ≡ a.size (element_in (plain_designator p.types texts d))
      elements_in (Whole b kind) = refl
      elements_in (Part' _ b kind _ row) = refl

  mutual
    same_deed : (s : Stmt) → WellFormed.fine p f s ≡ true → deed p (layout p.types) here s ≡ low_statement a (plain_statement p.types texts s)
    same_deed (Assign d x) h =
        let b = of_holds (λ t. WellFormed.is_writable t && WellFormed.given_for p (WellFormed.checked_form p f x) (WellFormed.scalar_in p t)) (WellFormed.named p f d) h in
        let c = and_of (WellFormed.is_writable b.0) (WellFormed.given_for p (WellFormed.checked_form p f x) (WellFormed.scalar_in p b.0)) b.2 in
        ap₂ (λ u v. assign u v) (home_same d (ap is_some b.1)) (value_same x (checked_is p f x (given_is p f (WellFormed.checked_form p f x) (WellFormed.scalar_in p b.0) c.1)))
    same_deed (CopyArray d e) h =
        let to = holds_of (WellFormed.may_copy p f (element_kind (kind_in d)) (length_of_kind (kind_in d))) (WellFormed.named p f d) in
        let from = holds_of (WellFormed.array_of p (element_kind (kind_in d)) (length_of_kind (kind_in e))) (WellFormed.named p f e) in
        let b = and_of to from (and_of (WellFormed.lengths_fit (length_of_kind (kind_in d)) (length_of_kind (kind_in e))) (to && from) h).1 in
        let u = named_same d (holds_is (WellFormed.may_copy p f (element_kind (kind_in d)) (length_of_kind (kind_in d))) (WellFormed.named p f d) b.0) in
        let v = named_same e (holds_is (WellFormed.array_of p (element_kind (kind_in d)) (length_of_kind (kind_in e))) (WellFormed.named p f e) b.1) in
        let size = copied_size d b.0 in
        λ k. copy_array (u k) (lengths d k) (v k) (lengths e k) (size k)
    same_deed (CopyRecord d e) h =
        let writes : Thing → Bool = λ t. WellFormed.is_writable t && WellFormed.has_record p (record_of_kind (kind_in d)) t in
        let b = and_of (holds_of writes (WellFormed.named p f d)) (holds_of (WellFormed.has_record p (record_of_kind (kind_in d))) (WellFormed.named p f e)) h in
        let u = named_same d (holds_is writes (WellFormed.named p f d) b.0) in
        let v = named_same e (holds_is (WellFormed.has_record p (record_of_kind (kind_in d))) (WellFormed.named p f e) b.1) in
        let size = answers.whole_bytes (record_of_kind (kind_in d)) ∙ ap (λ r. a.whole_bytes r) (records d) in
        λ k. copy_record (u k) (v k) (size k)
    same_deed (Increase d x) h = let b = stepped d x (WellFormed.changes (is_byte (kind_in d))) h in λ k. change_number Add (home_same d b.1 k) (value_same x b.0 k) (byte_same d k)
    same_deed (Decrease d x) h = let b = stepped d x (WellFormed.changes (is_byte (kind_in d))) h in λ k. change_number Subtract (home_same d b.1 k) (value_same x b.0 k) (byte_same d k)
    same_deed (Include d x) h = let b = stepped d x WellFormed.is_full h in ap₂ (λ u v. change_set Union u v) (home_same d b.1) (value_same x b.0)
    same_deed (Exclude d x) h = let b = stepped d x WellFormed.is_full h in ap₂ (λ u v. change_set Difference u v) (home_same d b.1) (value_same x b.0)
    same_deed (New d) h =
        let r = record_of_kind (kind_in d) in
        let u = home_same d (holds_is (WellFormed.takes p (WellFormed.points_to p r)) (WellFormed.named p f d) h) in
        let cells = answers.whole r ∙ ap (λ r. a.whole r) (records d) in
        let size = answers.whole_bytes r ∙ ap (λ r. a.whole_bytes r) (records d) in
        let tag = answers.descriptor r ∙ ap (λ r. a.descriptor r) (records d) in
        λ k. new (u k) (cells k) (rounded (size k)) (tag k)
    same_deed (Assert x) h = ap (λ u. assert u) (value_same x (number_of x h))
    same_deed (OutChar x) h = ap (λ u. out_char u) (value_same x (checked_is p f x (holds_is WellFormed.is_small (WellFormed.checked_form p f x) h)))
    same_deed (OutInt x n) h =
        let b = and_of (gives_number (WellFormed.checked_form p f x)) (gives_number (WellFormed.checked_form p f n)) h in
        ap₂ (λ u v. out_int u v) (value_same x (number_of x b.0)) (value_same n (number_of n b.1))
    same_deed (OutString d) h = ap₂ (λ u n. out_string character u n) (named_same d (holds_is (WellFormed.is_text p (length_of_kind (kind_in d))) (WellFormed.named p f d) h)) (lengths d)
    same_deed OutLn h = refl
    same_deed (InChar d) h = ap₂ (λ u small. in_char u true small) (named_same d (holds_is (WellFormed.takes p (WellFormed.changes true)) (WellFormed.named p f d) h)) (small_same p here a answers closed d)
    same_deed (Invoke c) h = ap (λ u. without_result u) (same_called p here a answers closed c h)
    same_deed (If' _ parts _ other) h =
        let b = and_of (WellFormed.fine_branches p f parts) (WellFormed.fine_row p f other) h in
        same_alternatives parts b.0 (assigned_all other) (assigned_statements (plain_statements p.types texts other)) (λ x. assigned_all_same p.types texts x other)
        (deeds p (layout p.types) here other) (low_statements a (plain_statements p.types texts other)) (same_deeds other b.1)
    same_deed (While' _ parts) h =
        let b = and_of (WellFormed.has_branch parts) (WellFormed.fine_branches p f parts) h in
        let mask = registers_same (assigned_branches parts) (Middle.assigned_branches (plain_branches p.types texts parts)) (λ x. assigned_branches_same p.types texts x parts) in
        ap₂ (λ m rs. loop m rs) mask (same_rounds parts b.1)
    same_deed (Repeat' _ body x) h =
        let b = and_of (WellFormed.fine_row p f body) (gives_number (WellFormed.checked_form p f x)) h in
        let mask = registers_same (assigned_all body) (assigned_statements (plain_statements p.types texts body)) (λ v. assigned_all_same p.types texts v body) in
        let inner = same_deeds body b.0 in
        let last = test_same x (number_of x b.1) in
        λ k. repeat (mask k) (inner k) (last k)
    same_deed (For' _ d x y step _ body) h =
        let place = holds_of (WellFormed.takes p WellFormed.is_full) (WellFormed.named p f d) in
        let number = gives_number (WellFormed.checked_form p f x) in
        let limit = gives_number (WellFormed.checked_form p f y) in
        let b = and_of (WellFormed.is_step step) (WellFormed.is_whole d && (place && (number && (limit && WellFormed.fine_row p f body)))) h in
        let w = and_of (WellFormed.is_whole d) (place && (number && (limit && WellFormed.fine_row p f body))) b.1 in
        let c = and_of place (number && (limit && WellFormed.fine_row p f body)) w.1 in
        let e = and_of number (limit && WellFormed.fine_row p f body) c.1 in
        let g = and_of limit (WellFormed.fine_row p f body) e.1 in
        let variable = home_same d (holds_is (WellFormed.takes p WellFormed.is_full) (WellFormed.named p f d) c.0) in
        let mask = registers_same (either (itself d) (assigned_all body)) (either (itself_in (plain_designator p.types texts d)) (assigned_statements (plain_statements p.types texts body)))
        (λ v. ap₂ (λ m n. m || n) (same_itself p.types texts v d) (assigned_all_same p.types texts v body)) in
        let first = value_same x (number_of x e.0) in
        let last = value_same y (number_of y g.0) in
        let inner = same_deeds body g.1 in
        λ k. for (mask k) (bound step) (assign (variable k) (first k)) (last k) (load (variable k)) (inner k >>= λ _. assign (variable k) (binary Add (load (variable k)) (const (unsigned step))))
    same_deed (Case' x _ parts) h =
        let b = and_of (gives_number (WellFormed.checked_form p f x)) (WellFormed.fine_case_parts p f parts) h in
        let mask = registers_same (assigned_case_parts parts) (assigned_parts (plain_case_parts p.types texts parts)) (λ v. assigned_case_parts_same p.types texts v parts) in
        let given = value_same x (number_of x b.0) in
        let tests = same_labels parts in
        let bodies = same_case_bodies parts b.1 in
        λ k. case_of (mask k) (given k) (λ v. map (λ ls. map (Middle.label_test v) ls) (tests k)) (bodies k) (λ out args. Trap 6)
    same_deed (CasePointer' x _ parts) h =
        let b = and_of (gives_pointer (WellFormed.checked_form p f x)) (WellFormed.fine_type_parts p f parts) h in
        let mask = registers_same (assigned_type_parts parts) (assigned_parts (plain_type_parts p.types texts parts)) (λ v. assigned_type_parts_same p.types texts v parts) in
        let given = value_same x (checked_is p f x (holds_is WellFormed.is_pointer (WellFormed.checked_form p f x) b.0)) in
        let tests = type_tests_same is_pointer parts in
        let bodies = same_type_bodies parts b.1 in
        λ k. case_of (mask k) (given k) (tests k) (bodies k) (λ out args. Jump out args)
    same_deed (CaseParameter' d _ parts) h =
        let b = and_of (holds_of (WellFormed.is_dynamic p) (WellFormed.named p f d)) (WellFormed.fine_type_parts p f parts) h in
        let mask = registers_same (assigned_type_parts parts) (assigned_parts (plain_type_parts p.types texts parts)) (λ v. assigned_type_parts_same p.types texts v parts) in
        let given = named_same d (holds_is (WellFormed.is_dynamic p) (WellFormed.named p f d) b.0) in
        let tests = type_tests_same is_tag parts in
        let bodies = same_type_bodies parts b.1 in
        λ k. case_of (mask k) (tag_of (given k)) (tests k) (bodies k) (λ out args. Jump out args)

    same_deeds : {m : _} (row : Row_of-Stmt m) → WellFormed.fine_row p f row ≡ true → deeds p (layout p.types) here row ≡ low_statements a (plain_statements p.types texts row)
    same_deeds end_of-Stmt h = refl
    same_deeds (more_of-Stmt s more) h =
        let b = and_of (WellFormed.fine p f s) (WellFormed.fine_row p f more) h in
        ap₂ (λ u v. u >>= λ _. v) (same_deed s b.0) (same_deeds more b.1)

    same_alternatives : {m : _} (row : Row_of-Branch m) → WellFormed.fine_branches p f row ≡ true → (mask now : Mask) → ((x : ℕ) → mask x ≡ now x) → (other then : Deed) → other ≡ then
        → alternatives p (layout p.types) here row mask other ≡ low_alternatives a (plain_branches p.types texts row) now then
    same_alternatives end_of-Branch h mask now e other then g = g
    same_alternatives (more_of-Branch x _ body more) h mask now e other then g =
        let b = and_of (gives_number (WellFormed.checked_form p f x)) (WellFormed.fine_row p f body && WellFormed.fine_branches p f more) h in
        let c = and_of (WellFormed.fine_row p f body) (WellFormed.fine_branches p f more) b.1 in
        let joined = registers_same (either (assigned_all body) (either (assigned_branches more) mask)) (either (assigned_statements (plain_statements p.types texts body)) (either (Middle.assigned_branches (plain_branches p.types texts more)) now))
        (λ v. ap₂ (λ m n. m || n) (assigned_all_same p.types texts v body) (ap₂ (λ m n. m || n) (assigned_branches_same p.types texts v more) (e v))) in
        let first = test_same x (number_of x b.0) in
        let inner = same_deeds body c.0 in
        let rest = same_alternatives more c.1 mask now e other then g in
        λ k. choose (joined k) (first k) (inner k) (rest k)

    same_rounds : {m : _} (row : Row_of-Branch m) → WellFormed.fine_branches p f row ≡ true → guarded_rounds p (layout p.types) here row ≡ low_rounds a (plain_branches p.types texts row)
    same_rounds end_of-Branch h = refl
    same_rounds (more_of-Branch x _ body more) h =
        let b = and_of (gives_number (WellFormed.checked_form p f x)) (WellFormed.fine_row p f body && WellFormed.fine_branches p f more) h in
        let c = and_of (WellFormed.fine_row p f body) (WellFormed.fine_branches p f more) b.1 in
        let first = test_same x (number_of x b.0) in
        let inner = same_deeds body c.0 in
        let rest = same_rounds more c.1 in
        λ k. record { test = first k; body = inner k } ∷ rest k

    same_case_bodies : {m : _} (row : Row_of-CasePart m) → WellFormed.fine_case_parts p f row ≡ true → case_bodies p (layout p.types) here row ≡ low_bodies a (plain_case_parts p.types texts row)
    same_case_bodies end_of-CasePart h = refl
    same_case_bodies (more_of-CasePart labels _ body more) h =
        let b = and_of (all WellFormed.label_fine labels) (WellFormed.fine_row p f body && WellFormed.fine_case_parts p f more) h in
        let c = and_of (WellFormed.fine_row p f body) (WellFormed.fine_case_parts p f more) b.1 in
        ap₂ (λ u v. u ∷ v) (same_deeds body c.0) (same_case_bodies more c.1)

    same_type_bodies : {m : _} (row : Row_of-TypePart m) → WellFormed.fine_type_parts p f row ≡ true → type_bodies p (layout p.types) here row ≡ low_bodies a (plain_type_parts p.types texts row)
    same_type_bodies end_of-TypePart h = refl
    same_type_bodies (more_of-TypePart r _ body more) h =
        let b = and_of (is_record_type p.types r) (WellFormed.fine_row p f body && WellFormed.fine_type_parts p f more) h in
        let c = and_of (WellFormed.fine_row p f body) (WellFormed.fine_type_parts p f more) b.1 in
        ap₂ (λ u v. u ∷ v) (same_deeds body c.0) (same_type_bodies more c.1)

  pub same_body : (ss : List Stmt) → all (WellFormed.fine p f) ss ≡ true → deeds_of p (layout p.types) here ss ≡ low_statements a (plain_body p.types texts ss)
  same_body [] h = refl
  same_body (s ∷ more) h =
      let b = and_of (WellFormed.fine p f s) (all (WellFormed.fine p f) more) h in
      ap₂ (λ u v. u >>= λ _. v) (same_deed s b.0) (same_body more b.1)

  pub same_answer : (o : Option Form) (x : Option Checked) → WellFormed.answer_fine p f o x ≡ true → answer p (layout p.types) here x ≡ low_answer a (option_map (plain_checked p.types texts) x)
  same_answer o None h = refl
  same_answer None (Some x) h = no h
  same_answer (Some form) (Some x) h =
      ap (λ u. u >>= λ v. give (Some v)) (value_same x (checked_is p f x (given_is p f (WellFormed.checked_form p f x) (Some form) h)))
