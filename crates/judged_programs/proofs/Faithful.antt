-- What the judgement and the maker of the table together tell of the table, and of the numbers of types in the program.
use Rattle.std.proofs.Common.{◌≡◌, ℕ, zero, suc, ◌+◌, ◌<◌, ◌≤◌, List, [], ◌∷◌, ◌++◌, map, length, Bool, true, false, ◌&&◌, ◌==◌, Option, Some, None, refl, ap, sym, ◌∙◌, subst, arith, eq-eqb, filter, cond, ◌⊎◌, inl, inr}
use Rattle.std.specs.Prelude.{slice_get}
use Rattle.std.proofs.lemmas.List.{get_or_past, length-append}
use Rattle.ob_types.specs.declared.types.TypeKind.{TypeKind}
use Rattle.ob_types.specs.declared.types.TypeKind.TheVariants as TheKind
use Rattle.ob_types.specs.declared.types.Formal.{Formal}
use Rattle.ob_types.specs.declared.program.Procedure.{Procedure as ProcedureOf}
use Rattle.ob_types.specs.declared.program.Program.{Program}
use Rattle.ob_types.specs.Assignable.{both_or_neither}
use Rattle.ob_types.specs.Layout.{kind_of}
use Rattle.ob_types.specs.Meaning.{procedure_of, globals_of, locals_of}
use Rattle.ob_types.specs.Meaning.{is_value as is_value_mode}
use Rattle.ob_types.specs.Table.{Table}
use Rattle.ob_types.proofs.Tests.{no, none_some, some_same, and_from, less_or_past}
use Rattle.ob_judge.specs.Shapes.{Shape, Nothing, Formals, one}
use Rattle.ob_judge.specs.Modules.{SoFar}
use Rattle.judged_tree.specs.TypeShapes.{kind_shape, shapes_after, next_pointer, shape_of, shapes_of, formals_shape}
use Rattle.judged_tree.specs.Tables.{HasOneShapeEach, same_parameters}
use Rattle.judged_tree.specs.Plain.{plain_formal}
use Rattle.judged_tree.proofs.Numbers.{pointer_of, pointer-base}
use Rattle.judged_tree.proofs.OneShape.{one-shape}
use Rattle.judged_well.specs.Standing.{is_whole, is_formal, is_result}
use Rattle.judged_well.specs.OfProgram.{IsFaithful, IsInside, AreFormals, IsResult}
use Rattle.judged_modules.proofs.Agreement.{index_at}
use Rattle.judged_modules.proofs.OneModule.{there_at}
use Rattle.judged_modules.specs.Lists.{Each}
use Rattle.judged_programs.specs.LegalTable.{IsLegalFormal, IsLegalTable}
use Rattle.judged_programs.specs.ProgramOf.{HasResults}
use Rattle.judged_programs.proofs.Ends.{IsEndOf, each_at, image_at, module_at}
use Rattle.judged_programs.proofs.TableEnds.{as_many, fields_there, field_before}
use Rattle.judged_programs.specs.Tidy.{AreWhole, IsHandedOver}

module _ (t : Table) where
  lengths : (ks : List TypeKind) (shapes : List Shape) (p : ℕ) → length (shapes_after t shapes p ks) ≡ length shapes + length ks
  lengths [] shapes p = omega arith
  lengths (k ∷ ks) shapes p =
      let h = lengths ks (shapes ++ kind_shape t shapes p k ∷ []) (next_pointer t k p) in
      let g = length-append shapes (kind_shape t shapes p k ∷ []) in
      omega (arith, h, g)

  -- a type that there is has a number in the table
  in_table : (k : ℕ) → (shape_of t k ≡ Nothing → ⊥) → k < length t.kinds
  in_table k some = elim (less_or_past k (length t.kinds)) as (λ _. k < length t.kinds) [
    | inl l ↦ l
    | inr past ↦ absurd (some (let h = lengths t.kinds [] 0 in get_or_past (shapes_of t) k Nothing (omega (arith, h, past))))
  ]

  whole_in : (k : ℕ) → is_whole (shape_of t k) ≡ true → k < length t.kinds
  whole_in k h = in_table k (λ e. no (sym (ap is_whole e) ∙ h))

  formal_in : (k : ℕ) → is_formal (shape_of t k) ≡ true → k < length t.kinds
  formal_in k h = in_table k (λ e. no (sym (ap is_formal e) ∙ h))

  all_whole_in : (ks : List ℕ) → AreWhole (map (shape_of t) ks) → (i k : ℕ) → slice_get ks i ≡ Some k → k < length t.kinds
  all_whole_in [] h i k at = none_some k at
  all_whole_in (x ∷ xs) h zero k at = subst (λ n. n < length t.kinds) (some_same x k at) (whole_in x h.0)
  all_whole_in (x ∷ xs) h (suc i) k at = all_whole_in xs h.1 i k at

  are_formals : (xs : List Formal) → ((i : ℕ) (x : Formal) → slice_get xs i ≡ Some x → IsLegalFormal t x) → AreFormals t xs
  are_formals [] each = tt
  are_formals (x ∷ xs) each = let h = each 0 x refl in (formal_in x.type_number h.formal, h.mode, are_formals xs (λ i y at. each (suc i) y at))

  result_is : (k : ℕ) → k < length t.kinds → is_result (shape_of t k) ≡ true → IsResult t k
  result_is k l h = record { there = l; no_nil = λ e. no (sym (ap is_result e) ∙ h) }

  -- ---- procedure types by their shapes

  both_same : (a b : Bool) → a ≡ b → both_or_neither a b ≡ true
  both_same true true e = refl
  both_same false false e = refl
  both_same true false e = no (sym e)
  both_same false true e = no e

  same_by_shapes : HasOneShapeEach t → (xs ys : List Formal) → AreFormals t xs → AreFormals t ys → formals_shape (shapes_of t) xs ≡ formals_shape (shapes_of t) ys → same_parameters xs ys ≡ true
  same_by_shapes shapes [] [] h k e = refl
  same_by_shapes shapes [] (y ∷ ys) h k e = absurd (let z = e in cc)
  same_by_shapes shapes (x ∷ xs) [] h k e = absurd (let z = e in cc)
  same_by_shapes shapes (x ∷ xs) (y ∷ ys) h k e =
      let q = parts x.variable y.variable (shape_of t x.type_number) (shape_of t y.type_number) (formals_shape (shapes_of t) xs) (formals_shape (shapes_of t) ys) e in
      and_from (both_or_neither x.variable y.variable && (x.type_number == y.type_number)) (same_parameters xs ys)
      (and_from (both_or_neither x.variable y.variable) (x.type_number == y.type_number) (both_same x.variable y.variable q.0) (eq-eqb x.type_number y.type_number (shapes.one x.type_number y.type_number h.0 k.0 q.1)))
      (same_by_shapes shapes xs ys h.2 k.2 q.2)
    where
      parts : (v u : Bool) (a b : Shape) (ps qs : Formals) → one v a ps ≡ one u b qs → (v ≡ u) × (a ≡ b) × (ps ≡ qs)
      parts v u a b ps qs e = (let z = e in cc, let z = e in cc, let z = e in cc)

-- ---- the table

module _ (p : Program) (c : SoFar) (end : IsEndOf p c) (legal : IsLegalTable p.types) where
  shapes : HasOneShapeEach p.types
  shapes = one-shape p.types legal.once legal.front

  element_some : (k : ℕ) (n : Option ℕ) (e : ℕ) → kind_of p.types k ≡ TheKind.Array n e → shape_of p.types e ≡ Nothing → ⊥
  element_some k (Some n) e is none = no (sym (ap is_whole none) ∙ (legal.array k n e is).element)
  element_some k None e is none = no (sym (ap is_whole none) ∙ legal.open_array k e is)

  pub faithful : IsFaithful p.types
  faithful = record {
    front = legal.front;
    shapes = shapes;
    element = element_some;
    target = λ k r is. let l = end.tidy.targets (pointer_of p.types k) r (ap (λ bs. slice_get bs (pointer_of p.types k)) (sym end.bases) ∙ pointer-base p.types k r is) in let e = as_many p c end in omega (arith, l, e);
    field = λ r i k at. let f = field_before p c end r i k (fields_there p c end r i k at) at in whole_in p.types k (ap is_whole (sym f.2) ∙ (f.1).0.whole);
    formals = λ g x at. are_formals p.types x.formals (legal.signature g x at).formals;
    result = λ g x at. result_is p.types x.result (legal.signature g x at).result_there (legal.signature g x at).result;
    signature = λ f g x y at_f at_g e h. legal.one_signature f g x y at_f at_g
        (and_from (same_parameters x.formals y.formals) (x.result == y.result)
        (same_by_shapes p.types shapes x.formals y.formals (are_formals p.types x.formals (legal.signature f x at_f).formals) (are_formals p.types y.formals (legal.signature g y at_g).formals) e)
        (eq-eqb x.result y.result (shapes.one x.result y.result (legal.signature f x at_f).result_there (legal.signature g y at_g).result_there h)));
  }

  -- ---- the numbers in the program

  handed_over : (xs : List Formal) → Each IsHandedOver (map (plain_formal p.types) xs) → AreFormals p.types xs
  handed_over [] h = tt
  handed_over (x ∷ xs) h = (formal_in p.types x.type_number (h.0).1, (h.0).0, handed_over xs h.1)

  -- a procedure is in the program, or there is none
  procedure_there : (f : ℕ) → ((r : ProcedureOf) × (slice_get p.procedures f ≡ Some r) × (procedure_of p f ≡ r)) ⊎ (length p.procedures ≤ f)
  procedure_there f = elim (less_or_past f (length p.procedures)) as (λ _. ((r : ProcedureOf) × (slice_get p.procedures f ≡ Some r) × (procedure_of p f ≡ r)) ⊎ (length p.procedures ≤ f)) [
    | inl l ↦ (let r = there_at p.procedures f l in inl (r.0, r.1, index_at p.procedures f r.0 _ r.1))
    | inr past ↦ inr past
  ]

  formals_in : (f : ℕ) → AreFormals p.types (procedure_of p f).formals
  formals_in f = by (procedure_there f)
    where
      by : ((r : ProcedureOf) × (slice_get p.procedures f ≡ Some r) × (procedure_of p f ≡ r)) ⊎ (length p.procedures ≤ f) → AreFormals p.types (procedure_of p f).formals
      by (inl r) =
          let k = image_at p c end f r.0 r.1 in
          subst (λ z. AreFormals p.types z.formals) (sym r.2) (handed_over (r.0).formals (subst (Each IsHandedOver) (ap (λ z. z.formals) k.2) (end.tidy.legal f k.0 k.1).formals))
      by (inr past) = subst (λ z. AreFormals p.types z.formals) (sym (get_or_past p.procedures f _ past)) tt

  results_in : HasResults p → (f : ℕ) → IsResult p.types (procedure_of p f).result
  results_in results f = by (procedure_there f)
    where
      by : ((r : ProcedureOf) × (slice_get p.procedures f ≡ Some r) × (procedure_of p f ≡ r)) ⊎ (length p.procedures ≤ f) → IsResult p.types (procedure_of p f).result
      by (inl r) =
          let k = image_at p c end f r.0 r.1 in
          subst (λ z. IsResult p.types z.result) (sym r.2) (result_is p.types (r.0).result (results.each f r.0 r.1) (ap is_result (sym (ap (λ z. z.result) k.2)) ∙ (end.tidy.legal f k.0 k.1).result))
      by (inr past) = subst (λ z. IsResult p.types z.result) (sym (get_or_past p.procedures f _ past)) (result_is p.types 0 legal.first_there legal.first)

  globals_in : (m v k : ℕ) → slice_get (globals_of p m) v ≡ Some k → k < length p.types.kinds
  globals_in m v k at = by (less_or_past m (length p.modules))
    where
      by : (m < length p.modules) ⊎ (length p.modules ≤ m) → k < length p.types.kinds
      by (inl l) =
          let x = there_at p.modules m l in
          all_whole_in p.types (x.0).variables (each_at (λ n. AreWhole n.variables) c.program_modules end.tidy.variables m _ (module_at p c end m x.0 x.1)) v k
          (ap (λ z. slice_get z.variables v) (sym (index_at p.modules m x.0 (record { name = []; objects = []; variables = []; body = 0 }) x.1)) ∙ at)
      by (inr past) = none_some k (sym (ap (λ z. slice_get z.variables v) (get_or_past p.modules m (record { name = []; objects = []; variables = []; body = 0 }) past)) ∙ at)

  -- among value parameters, all are in the table
  values_in : (xs : List Formal) → AreFormals p.types xs → (v k : ℕ) → slice_get (map (λ x. x.type_number) (filter (λ x. is_value_mode x.mode) xs)) v ≡ Some k → k < length p.types.kinds
  values_in [] h v k at = none_some k at
  values_in (x ∷ xs) h v k at = by (is_value_mode x.mode) v at (λ u i. values_in xs h.2 u k i)
    where
      by : (b : Bool) (v : ℕ) → slice_get (map (λ y. y.type_number) (cond b (x ∷ filter (λ y. is_value_mode y.mode) xs) (filter (λ y. is_value_mode y.mode) xs))) v ≡ Some k
          → ((u : ℕ) → slice_get (map (λ y. y.type_number) (filter (λ y. is_value_mode y.mode) xs)) u ≡ Some k → k < length p.types.kinds) → k < length p.types.kinds
      by true zero at rest = subst (λ n. n < length p.types.kinds) (some_same x.type_number k at) h.0
      by true (suc u) at rest = rest u at
      by false u at rest = rest u at

  -- of one list behind another
  either : {A : Type 0} (P : A → Type 0) (xs ys : List A) → ((v : ℕ) (x : A) → slice_get xs v ≡ Some x → P x) → ((v : ℕ) (x : A) → slice_get ys v ≡ Some x → P x) → (v : ℕ) (x : A) → slice_get (xs ++ ys) v ≡ Some x → P x
  either P [] ys f g v x at = g v x at
  either P (z ∷ xs) ys f g zero x at = f 0 x at
  either P (z ∷ xs) ys f g (suc v) x at = either P xs ys (λ u y i. f (suc u) y i) g v x at

  variables_in : (f v k : ℕ) → slice_get (locals_of (procedure_of p f)) v ≡ Some k → k < length p.types.kinds
  variables_in f v k at = by (procedure_there f)
    where
      by : ((r : ProcedureOf) × (slice_get p.procedures f ≡ Some r) × (procedure_of p f ≡ r)) ⊎ (length p.procedures ≤ f) → k < length p.types.kinds
      by (inl r) =
          let i = image_at p c end f r.0 r.1 in
          either (λ n. n < length p.types.kinds) (map (λ x. x.type_number) (filter (λ x. is_value_mode x.mode) (r.0).formals)) (r.0).locals
          (values_in (r.0).formals (subst (λ z. AreFormals p.types z.formals) r.2 (formals_in f)))
          (all_whole_in p.types (r.0).locals (subst AreWhole (ap (λ z. z.locals) i.2) (end.tidy.legal f i.0 i.1).locals)) v k
          (ap (λ z. slice_get (locals_of z) v) (sym r.2) ∙ at)
      by (inr past) = none_some k (sym (ap (λ z. slice_get (locals_of z) v) (get_or_past p.procedures f _ past)) ∙ at)

  pub inside : HasResults p → IsInside p
  inside results = record { formals = formals_in; result = results_in results; global = globals_in; variable = variables_in }
