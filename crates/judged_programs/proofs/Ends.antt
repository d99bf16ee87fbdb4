-- A program that the judgement gives, beside what the judgement has made at its end: its modules and procedures.
use Rattle.std.proofs.Common.{◌≡◌, ℕ, zero, suc, ◌<◌, List, [], ◌∷◌, map, length, Bool, true, ◌&&◌, ◌||◌, ◌==◌, Option, Some, None, refl, ap, ap₂, sym, ◌∙◌, subst, eq-eqb, arith}
use Rattle.std.specs.Prelude.{slice_get, nat_lt, option_map, if◌then◌else◌}
use Rattle.ob_types.specs.declared.program.Module.{Module as ModuleOf}
use Rattle.ob_types.specs.declared.program.Procedure.{Procedure as ProcedureOf}
use Rattle.ob_types.specs.declared.program.Program.{Program}
use Rattle.ob_types.specs.declared.statements.Checked.{Checked}
use Rattle.ob_types.specs.Layout.{kind_of}
use Rattle.ob_types.specs.Meaning.{procedure_of}
use Rattle.ob_types.specs.Forms.{all}
use Rattle.ob_types.specs.LegalTypes.{is_no_kind, is_scalar_kind, is_variable_type, is_result_type}
use Rattle.ob_types.specs.WellFormed.{is_empty, no_answer, bodies_among, are_equal, module_fine, bodies_in_order, variables_fine}
use Rattle.ob_types.proofs.Tests.{none_some, some_same, and_from}
use Rattle.ob_judge.specs.Image as I
use Rattle.ob_judge.specs.Modules.{SoFar, Parsed, record_form, program_of}
use Rattle.judged_tree.specs.TypeShapes.{shape_of, pointer_bases}
use Rattle.judged_tree.specs.Plain.{plain_module, plain_procedure, plain_record, plain_program}
use Rattle.judged_tree.specs.Outline.{outlined_procedure, outlined_program}
use Rattle.judged_well.specs.Standing.{is_result}
use Rattle.judged_well.specs.OfProgram.{IsFaithful, IsInside}
use Rattle.judged_modules.proofs.Lists.{get_within}
use Rattle.judged_modules.specs.Lists.{Each}
use Rattle.judged_modules.proofs.Agreement.{map_get, two_maps, index_at}
use Rattle.judged_programs.specs.ProgramOf.{IsProgramOf}
use Rattle.judged_programs.proofs.Sorts.{no_kind, variable_types, result_kind}
use Rattle.judged_programs.proofs.ModulesTidy.{all_tidy}
use Rattle.std.proofs.lemmas.Bool.Decides.{nat_tests}
use Rattle.judged_programs.specs.Tidy.{AreWhole}
use Rattle.judged_programs.specs.TidyModules.{HasBody, IsBare, TidySoFar, bodies_of}

-- ---- lists

pub all_from : {A : Type 0} (test : A → Bool) (xs : List A) → ((i : ℕ) (x : A) → slice_get xs i ≡ Some x → test x ≡ true) → all test xs ≡ true
all_from test [] h = refl
all_from test (x ∷ xs) h = and_from (test x) (all test xs) (h 0 x refl) (all_from test xs (λ i y at. h (suc i) y at))

pub each_at : {A : Type 0} (P : A → Type 0) (xs : List A) → Each P xs → (i : ℕ) (x : A) → slice_get xs i ≡ Some x → P x
each_at P [] h i x at = none_some x at
each_at P (y ∷ ys) h zero x at = subst P (some_same y x at) h.0
each_at P (y ∷ ys) h (suc i) x at = each_at P ys h.1 i x at

same_numbers : (ns ms : List ℕ) → ns ≡ ms → are_equal ns ms ≡ true
same_numbers ns ms e = subst (λ ks. are_equal ns ks ≡ true) e (itself ns)
  where
    itself : (ks : List ℕ) → are_equal ks ks ≡ true
    itself [] = refl
    itself (k ∷ ks) = and_from (k == k) (are_equal ks ks) (eq-eqb k k refl) (itself ks)

less_test : (n m : ℕ) → n < m → nat_lt n m ≡ true
less_test n m l = grind (arith, nat_tests)

empty_from : {A B : Type 0} (f : A → B) (xs : List A) → map f xs ≡ [] → is_empty xs ≡ true
empty_from f [] h = refl
empty_from f (x ∷ xs) h = absurd (let z = h in cc)

none_from : {B : Type 0} (f : Checked → B) (o : Option Checked) → option_map f o ≡ None → no_answer o ≡ true
none_from f None h = refl
none_from f (Some x) h = none_some (f x) (sym h)

-- ---- a program and the end of the judgement

pub record IsEndOf (p : Program) (c : SoFar) : Type 0 where
  pub tidy : TidySoFar c
  pub sources : List (List ℕ)
  pub records : map (plain_record p.types) p.types.records ≡ map record_form c.known.records
  pub bases : pointer_bases p.types.kinds ≡ c.known.bases
  pub modules : map (plain_module p.types sources) p.modules ≡ c.program_modules
  pub procedures : map (plain_procedure p.types) p.procedures ≡ map (outlined_procedure c.known.bases) c.procedures

pub end_of : (ms : List Parsed) (p : Program) → IsProgramOf ms p → (c : SoFar) × IsEndOf p c
end_of ms p h =
    let all_ = all_tidy ms h.image h.legal in
    let same : plain_program h.sources p ≡ outlined_program (program_of all_.end) = subst (λ q. plain_program h.sources p ≡ outlined_program q) (sym all_.is) h.same in (
      all_.end,
      record {
        tidy = all_.tidy;
        sources = h.sources;
        records = ap (λ z. z.records) same;
        bases = ap (λ z. z.pointers) same;
        modules = ap (λ z. z.modules) same;
        procedures = ap (λ z. z.procedures) same;
      },
    )

module _ (p : Program) (c : SoFar) (end : IsEndOf p c) where
  -- ---- the order of bodies

  bodies_same : (f : ℕ) (rs : List ProcedureOf) (qs : List I.Procedure) → map (plain_procedure p.types) rs ≡ map (outlined_procedure c.known.bases) qs → bodies_among f rs ≡ bodies_of f qs
  bodies_same f [] [] h = refl
  bodies_same f [] (q ∷ qs) h = absurd (let z = h in cc)
  bodies_same f (r ∷ rs) [] h = absurd (let z = h in cc)
  bodies_same f (r ∷ rs) (q ∷ qs) h =
      let k = parts (plain_procedure p.types r) (outlined_procedure c.known.bases q) (map (plain_procedure p.types) rs) (map (outlined_procedure c.known.bases) qs) h in
      ap₂ (λ b ns. if b then (f ∷ ns) else ns) (ap (λ z. z.is_body) k.0) (bodies_same (suc f) rs qs k.1)
    where
      parts : (a b : I.Procedure) (xs ys : List I.Procedure) → a ∷ xs ≡ b ∷ ys → (a ≡ b) × (xs ≡ ys)
      parts a b xs ys e = (let z = e in cc, let z = e in cc)

  numbers_same : (ms : List ModuleOf) (ns : List I.Module) → map (plain_module p.types end.sources) ms ≡ ns → map (λ m. m.body) ms ≡ map (λ m. m.body) ns
  numbers_same [] ns h = ap (map (λ m. m.body)) h
  numbers_same (m ∷ ms) [] h = absurd (let z = h in cc)
  numbers_same (m ∷ ms) (n ∷ ns) h =
      let k = parts (plain_module p.types end.sources m) n (map (plain_module p.types end.sources) ms) ns h in
      ap₂ (λ a b. a ∷ b) (ap (λ z. z.body) k.0) (numbers_same ms ns k.1)
    where
      parts : (a b : I.Module) (xs ys : List I.Module) → a ∷ xs ≡ b ∷ ys → (a ≡ b) × (xs ≡ ys)
      parts a b xs ys e = (let z = e in cc, let z = e in cc)

  pub in_order : bodies_in_order p ≡ true
  in_order = same_numbers (bodies_among 0 p.procedures) (map (λ m. m.body) p.modules)
      (bodies_same 0 p.procedures c.procedures end.procedures ∙ end.tidy.order ∙ sym (numbers_same p.modules c.program_modules end.modules))

  -- ---- modules

  pub module_at : (i : ℕ) (m : ModuleOf) → slice_get p.modules i ≡ Some m → slice_get c.program_modules i ≡ Some (plain_module p.types end.sources m)
  module_at i m at = ap (λ zs. slice_get zs i) (sym end.modules) ∙ map_get (plain_module p.types end.sources) p.modules i ∙ ap (option_map (plain_module p.types end.sources)) at

  -- a procedure of the program, by one of the judgement
  procedure_at : (f : ℕ) (q : I.Procedure) → slice_get c.procedures f ≡ Some q → (r : ProcedureOf) × (slice_get p.procedures f ≡ Some r) × (plain_procedure p.types r ≡ outlined_procedure c.known.bases q)
  procedure_at f q at = two_maps (plain_procedure p.types) (outlined_procedure c.known.bases) p.procedures c.procedures f q end.procedures at

  pub image_at : (f : ℕ) (r : ProcedureOf) → slice_get p.procedures f ≡ Some r → (q : I.Procedure) × (slice_get c.procedures f ≡ Some q) × (outlined_procedure c.known.bases q ≡ plain_procedure p.types r)
  image_at f r at = two_maps (outlined_procedure c.known.bases) (plain_procedure p.types) c.procedures p.procedures f r (sym end.procedures) at

  module _ (ok : IsFaithful p.types) where
    bare_fine : (m : ModuleOf) (r : ProcedureOf) (q : I.Procedure) → slice_get p.procedures m.body ≡ Some r → plain_procedure p.types r ≡ outlined_procedure c.known.bases q → IsBare q → module_fine p m ≡ true
    bare_fine m r q at same bare =
        let there : procedure_of p m.body ≡ r = index_at p.procedures m.body r _ at in
        and_from (nat_lt m.body (length p.procedures) && (procedure_of p m.body).is_body) ((is_empty (procedure_of p m.body).formals && is_empty (procedure_of p m.body).locals) && (is_no_kind (kind_of p.types (procedure_of p m.body).result) && no_answer (procedure_of p m.body).answer))
        (and_from (nat_lt m.body (length p.procedures)) (procedure_of p m.body).is_body (less_test m.body (length p.procedures) (get_within p.procedures m.body r at)) (ap (λ z. z.is_body) there ∙ ap (λ z. z.is_body) same ∙ bare.marked))
        (and_from (is_empty (procedure_of p m.body).formals && is_empty (procedure_of p m.body).locals) (is_no_kind (kind_of p.types (procedure_of p m.body).result) && no_answer (procedure_of p m.body).answer)
        (and_from (is_empty (procedure_of p m.body).formals) (is_empty (procedure_of p m.body).locals)
        (ap (λ z. is_empty z.formals) there ∙ empty_from _ r.formals (ap (λ z. z.formals) same ∙ bare.formals))
        (ap (λ z. is_empty z.locals) there ∙ empty_from _ r.locals (ap (λ z. z.locals) same ∙ bare.locals)))
        (and_from (is_no_kind (kind_of p.types (procedure_of p m.body).result)) (no_answer (procedure_of p m.body).answer)
        (no_kind p.types ok (procedure_of p m.body).result (ap (λ z. shape_of p.types z.result) there ∙ ap (λ z. z.result) same ∙ bare.result))
        (ap (λ z. no_answer z.answer) there ∙ none_from _ r.answer (ap (λ z. z.answer) same ∙ ap (option_map _) bare.answer))))

    pub modules_fine : all (module_fine p) p.modules ≡ true
    modules_fine = all_from (module_fine p) p.modules (λ i m at.
        let b = each_at (HasBody c.procedures) c.program_modules end.tidy.bodies i (plain_module p.types end.sources m) (module_at i m at) in
        let r = procedure_at m.body b.body b.there in
        bare_fine m r.0 b.body r.1 r.2 b.bare)

    -- ---- variables

    module_variables : all (λ m. all (is_variable_type p.types) m.variables) p.modules ≡ true
    module_variables = all_from (λ m. all (is_variable_type p.types) m.variables) p.modules (λ i m at.
        variable_types p.types ok m.variables (each_at (λ n. AreWhole n.variables) c.program_modules end.tidy.variables i (plain_module p.types end.sources m) (module_at i m at)))

    module _ (inside : IsInside p) where
      procedure_variables : (f : ℕ) (r : ProcedureOf) → slice_get p.procedures f ≡ Some r → (all (is_variable_type p.types) r.locals && is_result_type p.types r.result) ≡ true
      procedure_variables f r at =
          let k = image_at f r at in
          let legal = end.tidy.legal f k.0 k.1 in
          let there : procedure_of p f ≡ r = index_at p.procedures f r _ at in
          and_from (all (is_variable_type p.types) r.locals) (is_result_type p.types r.result)
          (variable_types p.types ok r.locals (subst AreWhole (ap (λ z. z.locals) k.2) legal.locals))
          (and_from (nat_lt r.result (length p.types.kinds)) (is_scalar_kind (kind_of p.types r.result) || is_no_kind (kind_of p.types r.result))
          (less_test r.result (length p.types.kinds) (subst (λ z. z.result < length p.types.kinds) there (inside.result f).there))
          (result_kind p.types ok r.result (ap is_result (sym (ap (λ z. z.result) k.2)) ∙ legal.result)))

      pub variables_are_fine : variables_fine p ≡ true
      variables_are_fine = and_from (all (λ m. all (is_variable_type p.types) m.variables) p.modules) (all (λ q. all (is_variable_type p.types) q.locals && is_result_type p.types q.result) p.procedures)
          module_variables
          (all_from (λ q. all (is_variable_type p.types) q.locals && is_result_type p.types q.result) p.procedures procedure_variables)
