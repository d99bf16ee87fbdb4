-- Destinations, calls that are statements, and what stands alone.
use Rattle.std.proofs.lemmas.Bool.Decides.{nat_tests}
use Rattle.std.proofs.Common.{◌≡◌, ℕ, suc, List, [], ◌∷◌, ◌≤◌, length, nat_eq, Bool, true, false, Option, Some, None, option_map, refl, sym, ap, ◌∙◌, arith}
use Rattle.ob_types.proofs.Tests.{no, none_some, some_same}
use Rattle.ob_types.specs.Table.{Table}
use Rattle.ob_types.specs.declared.tree.Link.{Link}
use Rattle.ob_syntax.specs.Syntax as S
use Rattle.ob_syntax.specs.Plain.{plain_selector, plain_each_selector}
use Rattle.ob_syntax.specs.declared.expressions.Selector.{Selector}
use Rattle.ob_judge.specs.Judged.{Judged, Keeps, Breaks}
use Rattle.ob_judge.specs.Shapes.{Shape, Integer, Boolean, Char, Byte, Set, Nil, Nothing, Text, Array, Open, Record, Pointer, Procedure}
use Rattle.ob_judge.specs.Image as I
use Rattle.ob_judge.specs.Scopes.{Object, AConstant, AType, AVariable, AProcedure, AStandard, AModule, Standard, Source, World}
use Rattle.ob_judge.specs.Operands.{Operand, What, Named, Valued, Chars, Code, Proper}
use Rattle.ob_judge.specs.Calls.{standard}
use Rattle.ob_judge.specs.Assignments.{alone, called_alone, is_call, deed_of}
use Rattle.std.proofs.Common.{Result, Ok, Err}
use Rattle.ob_types.specs.declared.statements.Stmt.{Stmt}
use Rattle.ob_judge.specs.Parts.{is_nothing}
use Rattle.check_types.specs.steps.Answers.{Answers}
use Rattle.check_types.proofs.steps.Answering.{as_judged}
use Rattle.check_types.specs.declared.steps.fault.CheckFault.{CheckFault}
use Rattle.check_types.specs.declared.steps.fault.CheckFault.TheVariants.{Fault}
use Rattle.check_types.specs.declared.names.scope.Scope.{Scope}
use Rattle.check_types.specs.names.Worlds.{table_of}
use Rattle.check_operands.specs.Operands.{texts_of, bases_of}
use Rattle.check_expressions.proofs.Walking.{breaks_so}
use Rattle.check_statements.specs.assignments.Assigned.{IsStatement}
use Rattle.judged_tree.specs.Plain.{plain_expr, plain_statement, guarded, plain_link}
use Rattle.judged_tree.specs.Outline.{outlined_expr, outlined_call, outlined_statement}
use Rattle.check_operands.specs.trees.Lists.{each_link}
use Rattle.check_operands.specs.Operands.{outlined_what}
use Rattle.check_statements.specs.deeds.Deeds.{standard_alone, field_alone, member_alone, is_result, call_by, deed_by}

no_zero : (n : ℕ) → nat_eq (suc n) 0 ≡ false
no_zero n = grind (arith, nat_tests)

module _ (p : Source) (w : World) where
  -- ---- what stands alone

  abbrev pub kept_alone : Object → Option Object
  kept_alone (AStandard s) = Some (AStandard s)
  kept_alone o = None

  pub nothing_behind : (o : Object) (ss : List Selector) (b : Bool) → b ≡ nat_eq (length ss) 0 → b ≡ true → alone p w o (plain_each_selector ss) ≡ Keeps (kept_alone o)
  nothing_behind (AStandard s) [] b h i = refl
  nothing_behind (AVariable v) [] b h i = refl
  nothing_behind (AConstant c) [] b h i = refl
  nothing_behind (AType t) [] b h i = refl
  nothing_behind (AProcedure n t l) [] b h i = refl
  nothing_behind (AModule m) [] b h i = refl
  nothing_behind o (s ∷ ss) b h i = no (sym (no_zero (length ss)) ∙ sym h ∙ i)

  pub kept_is : (o : Object) → standard_alone (kept_alone o) ≡ standard_alone (Some o)
  kept_is (AStandard s) = refl
  kept_is (AVariable v) = refl
  kept_is (AConstant c) = refl
  kept_is (AType t) = refl
  kept_is (AProcedure n t l) = refl
  kept_is (AModule m) = refl

  field_behind : (o : Object) (ss : S.Selectors) (i : ℕ) → field_alone ss ≡ Some i → alone p w o ss ≡ member_alone p w o i
  field_behind o S.no_selector i h = none_some i h
  field_behind o (S.selected s (S.selected s' rest)) i h = by s h
    where
      by : (s : S.Selector) → field_alone (S.selected s (S.selected s' rest)) ≡ Some i → alone p w o (S.selected s (S.selected s' rest)) ≡ member_alone p w o i
      by (S.Field period j) h = none_some i h
      by (S.Index a l b) h = none_some i h
      by (S.Arrow a) h = none_some i h
      by (S.EmptyParens a b) h = none_some i h
      by (S.Parens a l b) h = none_some i h
  field_behind o (S.selected (S.Index a l b) S.no_selector) i h = none_some i h
  field_behind o (S.selected (S.Arrow a) S.no_selector) i h = none_some i h
  field_behind o (S.selected (S.EmptyParens a b) S.no_selector) i h = none_some i h
  field_behind o (S.selected (S.Parens a l b) S.no_selector) i h = none_some i h
  field_behind (AModule m) (S.selected (S.Field period j) S.no_selector) i h = ap (member_alone p w (AModule m)) (some_same j i h)
  field_behind (AStandard s) (S.selected (S.Field period j) S.no_selector) i h = refl
  field_behind (AVariable v) (S.selected (S.Field period j) S.no_selector) i h = refl
  field_behind (AConstant c) (S.selected (S.Field period j) S.no_selector) i h = refl
  field_behind (AType t) (S.selected (S.Field period j) S.no_selector) i h = refl
  field_behind (AProcedure n t l) (S.selected (S.Field period j) S.no_selector) i h = refl

  pub a_field : (o : Object) (ss : S.Selectors) (i : ℕ) → field_alone ss ≡ Some i → alone p w o ss ≡ member_alone p w o i
  a_field o ss i h = field_behind o ss i h

  more_behind : (o : Object) (s : S.Selector) (ss : S.Selectors) → field_alone (S.selected s ss) ≡ None → alone p w o (S.selected s ss) ≡ Keeps None
  more_behind (AModule m) (S.Field period j) S.no_selector h = none_some j (sym h)
  more_behind (AModule m) (S.Field period j) (S.selected s rest) h = refl
  more_behind (AModule m) (S.Index a l b) ss h = refl
  more_behind (AModule m) (S.Arrow a) ss h = refl
  more_behind (AModule m) (S.EmptyParens a b) ss h = refl
  more_behind (AModule m) (S.Parens a l b) ss h = refl
  more_behind (AStandard s') s ss h = refl
  more_behind (AVariable v) s ss h = refl
  more_behind (AConstant c) s ss h = refl
  more_behind (AType t) s ss h = refl
  more_behind (AProcedure n t l) s ss h = refl

  pub no_field : (o : Object) (ss : List Selector) (b : Bool) → b ≡ nat_eq (length ss) 0 → b ≡ false → field_alone (plain_each_selector ss) ≡ None → alone p w o (plain_each_selector ss) ≡ Keeps None
  no_field o [] b h i k = no (sym i ∙ h)
  no_field o (s ∷ ss) b h i k = more_behind o (plain_selector s) (plain_each_selector ss) k

  pub standard_is : (at : ℕ) (o : Option Object) (s : Standard) (other : Judged Operand) → standard_alone o ≡ Some s → called_alone w at o other ≡ standard w at s []
  standard_is at None s other h = none_some s h
  standard_is at (Some (AStandard t)) s other h = ap (λ z. standard w at z []) (some_same t s h)
  standard_is at (Some (AVariable v)) s other h = none_some s h
  standard_is at (Some (AConstant c)) s other h = none_some s h
  standard_is at (Some (AType t)) s other h = none_some s h
  standard_is at (Some (AProcedure n t l)) s other h = none_some s h
  standard_is at (Some (AModule m)) s other h = none_some s h

pub many_behind : (ss : List Selector) → 2 ≤ length ss → None ≡ field_alone (plain_each_selector ss)
many_behind [] h = absurd (omega (arith, h))
many_behind (s ∷ []) h = absurd (omega (arith, h))
many_behind (s ∷ s' ∷ ss) h = by (plain_selector s)
  where
    by : (x : S.Selector) → None ≡ field_alone (S.selected x (S.selected (plain_selector s') (plain_each_selector ss)))
    by (S.Field period j) = refl
    by (S.Index a l b) = refl
    by (S.Arrow a) = refl
    by (S.EmptyParens a b) = refl
    by (S.Parens a l b) = refl

-- ---- calls

pub guarded_result : (tags : List ℕ) (x : I.Expr) → is_result x ≡ false → is_result (guarded tags x) ≡ false
guarded_result [] x h = h
guarded_result (r ∷ rs) x h = guarded_result rs (I.Guard x r) refl

pub guarded_call : (tags : List ℕ) (x : I.Expr) → call_by x ≡ None → call_by (guarded tags x) ≡ None
guarded_call [] x h = h
guarded_call (r ∷ rs) x h = guarded_call rs (I.Guard x r) refl

by_result : (x : I.Expr) → is_result x ≡ false → call_by x ≡ None
by_result (I.Result c) h = no (sym h)
by_result (I.Literal n) h = refl
by_result (I.Routine f) h = refl
by_result (I.Load d) h = refl
by_result (I.Guard x tag) h = refl
by_result (I.Apply o x) h = refl
by_result (I.Linked x l) h = refl
by_result (I.Compare r x y) h = refl
by_result (I.CompareTexts r d e) h = refl
by_result (I.In x s) h = refl
by_result (I.IsPointer x tag) h = refl
by_result (I.IsParameter d tag) h = refl
by_result (I.AsByte x) h = refl
by_result (I.Length d) h = refl

module _ (t : Table) (texts : List (List ℕ)) where
  links_result : (ls : List Link) (x : I.Expr) → is_result x ≡ false → is_result (each_link t texts ls x) ≡ false
  links_result [] x h = h
  links_result (l ∷ ls) x h = links_result ls (I.Linked x (plain_link t texts l)) refl

  pub empty_result : (ls : List Link) (x : I.Expr) (b : Bool) → b ≡ nat_eq (length ls) 0 → b ≡ true → each_link t texts ls x ≡ x
  empty_result [] x b h i = refl
  empty_result (l ∷ ls) x b h i = no (sym (no_zero (length ls)) ∙ sym h ∙ i)

  pub linked_result : (ls : List Link) (x : I.Expr) (b : Bool) → b ≡ nat_eq (length ls) 0 → b ≡ false → is_result (each_link t texts ls x) ≡ false
  linked_result [] x b h i = no (sym i ∙ h)
  linked_result (l ∷ ls) x b h i = links_result ls (I.Linked x (plain_link t texts l)) refl

  pub linked_call : (ls : List Link) (x : I.Expr) (b : Bool) → b ≡ nat_eq (length ls) 0 → b ≡ false → call_by (each_link t texts ls x) ≡ None
  linked_call ls x b h i = by_result (each_link t texts ls x) (linked_result ls x b h i)

module _ (bases : List (Option ℕ)) where
  same_result : (x : I.Expr) → is_result (outlined_expr bases x) ≡ is_result x
  same_result (I.Result c) = refl
  same_result (I.Literal n) = refl
  same_result (I.Routine f) = refl
  same_result (I.Load d) = refl
  same_result (I.Guard x tag) = refl
  same_result (I.Apply o x) = refl
  same_result (I.Linked x l) = refl
  same_result (I.Compare r x y) = refl
  same_result (I.CompareTexts r d e) = refl
  same_result (I.In x s) = refl
  same_result (I.IsPointer x tag) = refl
  same_result (I.IsParameter d tag) = refl
  same_result (I.AsByte x) = refl
  same_result (I.Length d) = refl

  same_call : (x : I.Expr) → call_by (outlined_expr bases x) ≡ option_map (outlined_call bases) (call_by x)
  same_call (I.Result c) = refl
  same_call (I.Literal n) = refl
  same_call (I.Routine f) = refl
  same_call (I.Load d) = refl
  same_call (I.Guard x tag) = refl
  same_call (I.Apply o x) = refl
  same_call (I.Linked x l) = refl
  same_call (I.Compare r x y) = refl
  same_call (I.CompareTexts r d e) = refl
  same_call (I.In x s) = refl
  same_call (I.IsPointer x tag) = refl
  same_call (I.IsParameter d tag) = refl
  same_call (I.AsByte x) = refl
  same_call (I.Length d) = refl

  call_of_value : (p : Source) (x : I.Expr) → is_call (Valued x) ≡ is_result x
  call_of_value p (I.Result c) = refl
  call_of_value p (I.Literal n) = refl
  call_of_value p (I.Routine f) = refl
  call_of_value p (I.Load d) = refl
  call_of_value p (I.Guard x tag) = refl
  call_of_value p (I.Apply o x) = refl
  call_of_value p (I.Linked x l) = refl
  call_of_value p (I.Compare r x y) = refl
  call_of_value p (I.CompareTexts r d e) = refl
  call_of_value p (I.In x s) = refl
  call_of_value p (I.IsPointer x tag) = refl
  call_of_value p (I.IsParameter d tag) = refl
  call_of_value p (I.AsByte x) = refl
  call_of_value p (I.Length d) = refl

  pub called_what : (p : Source) (x : I.Expr) (w : What) → Valued x ≡ outlined_what bases w → is_call w ≡ is_result x
  called_what p x (Valued y) h = let z : x ≡ outlined_expr bases y = cc in call_of_value p y ∙ sym (same_result y) ∙ ap is_result (sym z)
  called_what p x (Named d) h = cc
  called_what p x (Chars cs) h = cc
  called_what p x (Code f l) h = cc
  called_what p x (Proper d) h = cc

  mapped : (o : Option I.Call) → option_map I.Invoke (option_map (outlined_call bases) o) ≡ option_map (outlined_statement bases) (option_map I.Invoke o)
  mapped None = refl
  mapped (Some c) = refl

  pub invoked_what : (x : I.Expr) (w : What) → Valued x ≡ outlined_what bases w → option_map I.Invoke (call_by x) ≡ option_map (outlined_statement bases) (deed_by w)
  invoked_what x (Valued y) h = let z : x ≡ outlined_expr bases y = cc in ap (λ e. option_map I.Invoke (call_by e)) z ∙ ap (option_map I.Invoke) (same_call y) ∙ mapped (call_by y)
  invoked_what x (Named d) h = cc
  invoked_what x (Chars cs) h = cc
  invoked_what x (Code f l) h = cc
  invoked_what x (Proper d) h = cc

pub proper_what : (bases : List (Option ℕ)) (d : I.Statement) (w : What) → Proper d ≡ outlined_what bases w → Some d ≡ option_map (outlined_statement bases) (deed_by w)
proper_what bases d (Proper e) h = let z : d ≡ outlined_statement bases e = cc in ap Some z
proper_what bases d (Named e) h = cc
proper_what bases d (Chars cs) h = cc
proper_what bases d (Code f l) h = cc
proper_what bases d (Valued x) h = cc

-- ---- deeds

module _ (p : Source) (at : ℕ) where
  valued_deed : (x : I.Expr) (d : I.Statement) → option_map I.Invoke (call_by x) ≡ Some d → deed_of at Nothing (Valued x) ≡ Keeps d
  valued_deed (I.Result c) d h = ap Keeps (some_same (I.Invoke c) d h)
  valued_deed (I.Literal n) d h = none_some d h
  valued_deed (I.Routine f) d h = none_some d h
  valued_deed (I.Load e) d h = none_some d h
  valued_deed (I.Guard x tag) d h = none_some d h
  valued_deed (I.Apply o x) d h = none_some d h
  valued_deed (I.Linked x l) d h = none_some d h
  valued_deed (I.Compare r x y) d h = none_some d h
  valued_deed (I.CompareTexts r e f) d h = none_some d h
  valued_deed (I.In x s) d h = none_some d h
  valued_deed (I.IsPointer x tag) d h = none_some d h
  valued_deed (I.IsParameter e tag) d h = none_some d h
  valued_deed (I.AsByte x) d h = none_some d h
  valued_deed (I.Length e) d h = none_some d h

  some_deed : (w : What) (d : I.Statement) → deed_by w ≡ Some d → deed_of at Nothing w ≡ Keeps d
  some_deed (Proper e) d h = ap Keeps (some_same e d h)
  some_deed (Valued x) d h = valued_deed x d h
  some_deed (Named e) d h = none_some d h
  some_deed (Chars cs) d h = none_some d h
  some_deed (Code f l) d h = none_some d h

  valued_none : (x : I.Expr) → option_map I.Invoke (call_by x) ≡ None → deed_of at Nothing (Valued x) ≡ Breaks 31 at
  valued_none (I.Result c) h = none_some (I.Invoke c) (sym h)
  valued_none (I.Literal n) h = refl
  valued_none (I.Routine f) h = refl
  valued_none (I.Load e) h = refl
  valued_none (I.Guard x tag) h = refl
  valued_none (I.Apply o x) h = refl
  valued_none (I.Linked x l) h = refl
  valued_none (I.Compare r x y) h = refl
  valued_none (I.CompareTexts r e f) h = refl
  valued_none (I.In x s) h = refl
  valued_none (I.IsPointer x tag) h = refl
  valued_none (I.IsParameter e tag) h = refl
  valued_none (I.AsByte x) h = refl
  valued_none (I.Length e) h = refl

  none_deed : (w : What) → deed_by w ≡ None → deed_of at Nothing w ≡ Breaks 31 at
  none_deed (Proper e) h = none_some e (sym h)
  none_deed (Valued x) h = valued_none x h
  none_deed (Named e) h = refl
  none_deed (Chars cs) h = refl
  none_deed (Code f l) h = refl

  nothing_is : (s : Shape) → is_nothing s ≡ true → s ≡ Nothing
  nothing_is Nothing h = refl
  nothing_is _ h = no h

  -- the code's statement is the deed
  pub deed_kept : (s : Scope) (made : Stmt) (shape : Shape) (w : What) → is_nothing shape ≡ true →
      Some (plain_statement (table_of s) (texts_of s) made) ≡ option_map (outlined_statement (bases_of s)) (deed_by w) → Answers (IsStatement s) (deed_of at shape w) (Ok made)
  deed_kept s made shape w n h = by (deed_by w) refl h
    where
      by : (o : Option I.Statement) → deed_by w ≡ o → Some (plain_statement (table_of s) (texts_of s) made) ≡ option_map (outlined_statement (bases_of s)) o → Answers (IsStatement s) (deed_of at shape w) (Ok made)
      by None i j = none_some (plain_statement (table_of s) (texts_of s) made) (sym j)
      by (Some d) i j = as_judged (ap (λ z. deed_of at z w) (nothing_is shape n) ∙ some_deed w d i) (record { by = some_same _ _ j })

  pub deed_broken : (s : Scope) (shape : Shape) (w : What) (e : CheckFault) → e ≡ Fault 31 at → is_nothing shape ≡ true → None ≡ option_map (outlined_statement (bases_of s)) (deed_by w) → Answers (IsStatement s) (deed_of at shape w) (Err e)
  deed_broken s shape w e f n h = by (deed_by w) refl h
    where
      by : (o : Option I.Statement) → deed_by w ≡ o → None ≡ option_map (outlined_statement (bases_of s)) o → Answers (IsStatement s) (deed_of at shape w) (Err e)
      by None i j = as_judged (ap (λ z. deed_of at z w) (nothing_is shape n) ∙ none_deed w i) (breaks_so 31 at f)
      by (Some d) i j = none_some (outlined_statement (bases_of s) d) j

  other_deed : (shape : Shape) (w : What) → is_nothing shape ≡ false → deed_of at shape w ≡ Breaks 31 at
  other_deed Nothing w h = no (sym h)
  other_deed Integer w h = refl
  other_deed Boolean w h = refl
  other_deed Char w h = refl
  other_deed Byte w h = refl
  other_deed Set w h = refl
  other_deed Nil w h = refl
  other_deed (Text n) w h = refl
  other_deed (Array n a) w h = refl
  other_deed (Open a) w h = refl
  other_deed (Record r) w h = refl
  other_deed (Pointer n) w h = refl
  other_deed (Procedure ps r) w h = refl

  pub deed_typed : (s : Scope) (shape : Shape) (w : What) (e : CheckFault) → e ≡ Fault 31 at → is_nothing shape ≡ false → Answers (IsStatement s) (deed_of at shape w) (Err e)
  deed_typed s shape w e f n = as_judged (other_deed shape w n) (breaks_so 31 at f)
