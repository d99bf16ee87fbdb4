-- What a program becomes is told by its form.
use Rattle.std.proofs.Common.{◌≡◌, ℕ, zero, suc, ◌+◌, ◌*◌, ◌<◌, List, [], ◌∷◌, ◌++◌, map, length, true, Option, Some, None, refl, sym, ap, ap₂, subst, ◌∙◌, slice_get, arith}
use Rattle.std.specs.Prelude.{slice_index_or, flat_map, replicate, if◌then◌else◌, ◌-◌, ◌==◌, sum_by, nat_lt}
use Rattle.std.proofs.lemmas.List.{length-map}
use Rattle.std.specs.Int.{to_le_bytes, w64}
use Rattle.ob_types.specs.Meaning.{procedure_of, no_procedure, texts_of}
use Rattle.ob_types.specs.WellFormed.{well_formed}
use Rattle.ob_types.specs.declared.program.Procedure.{Procedure}
use Rattle.ob_types.specs.declared.program.Program.{Program}
use Rattle.ob_types.specs.Table.{Table}
use Rattle.ob_types.proofs.Tests.{none_some, some_same}
use Rattle.ob_judge.specs.Image as I
use Rattle.ssa_lowered.specs.Data.{layout, globals_room}
use Rattle.ssa_lowered.specs.Pieces.{numbers}
use Rattle.ssa_lowered.specs.Constants
use Rattle.ssa_lowered.specs.Constants.{base_by, ancestor, constants}
use Rattle.ssa_lowered.specs.Limits.{passed, or_else, at_procedure, passes, limit_in, limits_from, limit_of}
use Rattle.ssa_lowered.specs.Lowered.{proc_of, procs_from, lowered}
use Rattle.judged_tree.specs.Plain.{plain_program, plain_procedure}
use Rattle.one_lowering.specs.Forms.{HasClosedTypes, numbered, numbered_procedure, place_of, HaveOneForm, HaveOneLowering}
use Rattle.one_lowering.proofs.Whole
use Rattle.one_lowering.proofs.Whole.{Facts, facts_of, descriptor_bytes, all_globals, string_bytes, low_procedure, low_procedures, low_program, low_constants, strings, low_limit_in, low_limits_from, low_limit}
use Rattle.one_lowering.proofs.Data.{facts, form_of, level_same, base_same, globals_same, descriptor_same, strings_same, text_room_same, records_many, module_cells}
use Rattle.one_lowering.proofs.Procedures.{procedure_same, made_same, cells_all}

at_place : {A : Type 0} (xs : List A) (i : ℕ) (x d : A) → slice_get xs i ≡ Some x → (slice_index_or xs i d ≡ x) × (i < length xs)
at_place [] i x d e = none_some x e
at_place (y ∷ ys) zero x d e = (some_same y x e, omega arith)
at_place (y ∷ ys) (suc i) x d e = let b = at_place ys i x d e in let l = b.1 in (b.0, omega (arith, l))

module _ (p : Program) (well : well_formed p ≡ true) (sources : List (List ℕ)) (closed : HasClosedTypes (plain_program sources (numbered p))) where
  abbrev x : Facts
  x = facts p well sources closed

  -- these are the program's procedures from number f on
  abbrev AreFrom : ℕ → List Procedure → Type 0
  AreFrom f qs = (i : ℕ) (q : Procedure) → slice_get qs i ≡ Some q → (procedure_of p (f + i) ≡ q) × (f + i < length p.procedures)

  first_from : (f : ℕ) (q : Procedure) → (procedure_of p (f + 0) ≡ q) × (f + 0 < length p.procedures) → (procedure_of p f ≡ q) × (f < length p.procedures)
  first_from f q h = subst (λ n. (procedure_of p n ≡ q) × (n < length p.procedures)) (plus_zero f) h
    where
      plus_zero : (n : ℕ) → n + 0 ≡ n
      plus_zero n = omega arith

  rest_from : (f : ℕ) (q : Procedure) (qs : List Procedure) → AreFrom f (q ∷ qs) → AreFrom (suc f) qs
  rest_from f q qs h i r e = subst (λ n. (procedure_of p n ≡ r) × (n < length p.procedures)) (moved f i) (h (suc i) r e)
    where
      moved : (f i : ℕ) → f + suc i ≡ suc f + i
      moved f i = omega arith

  procedures_same : (f : ℕ) (qs : List Procedure) → AreFrom f qs → procs_from p (layout p.types) f qs ≡ low_procedures x f (map (plain_procedure p.types) (map (numbered_procedure (length (texts_of p.procedures))) qs))
  procedures_same f [] h = refl
  procedures_same f (q ∷ qs) h =
      let b = first_from f q (h 0 q refl) in
      let first = subst (λ r. proc_of p (layout p.types) f r ≡ low_procedure x f (form_of p well sources closed r)) b.0 (procedure_same p well sources closed f b.1) in
      ap₂ (λ u us. u ∷ us) first (procedures_same (suc f) qs (rest_from f q qs h))

  all_from : AreFrom 0 p.procedures
  all_from i q e = subst (λ n. (procedure_of p n ≡ q) × (n < length p.procedures)) (zero_plus i) (at_place p.procedures i q no_procedure e)
    where
      zero_plus : (n : ℕ) → n ≡ 0 + n
      zero_plus n = omega arith

  pub lowered_same : lowered p ≡ low_program (plain_program sources (numbered p)) (map (λ q. q.texts) p.procedures)
  lowered_same = procedures_same 0 p.procedures all_from

  pub data_same : globals_room p (layout p.types) ≡ all_globals x
  data_same = globals_same p well sources closed

  -- ---- constants

  ancestor_same : (depth j r : ℕ) → Constants.ancestor_within p.types depth j r ≡ Whole.ancestor_within x depth j r
  ancestor_same zero j r = refl
  ancestor_same (suc depth) j r = λ k. if level_same p well sources closed r k == j then Some r else base_by (base_same p well sources closed r k) (λ b. ancestor_same depth j b k)

  own_ancestor : (j r : ℕ) → ancestor p.types j r ≡ Whole.ancestor_within x (suc (length x.records)) j r
  own_ancestor j r = ap (λ n. Constants.ancestor_within p.types (suc n) j r) (records_many p well sources closed) ∙ ancestor_same (suc (length x.records)) j r

  address_same : (globals : ℕ) (o : Option ℕ) → Constants.address_of p (layout p.types) globals o ≡ Whole.address_of x globals o
  address_same globals None = refl
  address_same globals (Some r) = ap (λ n. globals + n) (descriptor_same p well sources closed r)

  descriptor_bytes_same : (globals r : ℕ) → Constants.descriptor_bytes p (layout p.types) globals r ≡ descriptor_bytes x globals r
  descriptor_bytes_same globals r =
      let own : (j : ℕ) → Constants.address_of p (layout p.types) globals (ancestor p.types j r) ≡ Whole.address_of x globals (Whole.ancestor_within x (suc (length x.records)) j r) =
      λ j. address_same globals (ancestor p.types j r) ∙ ap (λ o. Whole.address_of x globals o) (own_ancestor j r) in
      λ k. flat_map (λ j. to_le_bytes w64 (own j k)) (numbers 0 16)

  characters_same : (cs : List ℕ) → flat_map (Constants.character_bytes (layout p.types)) cs ≡ cs
  characters_same [] = refl
  characters_same (c ∷ cs) = ap (λ ds. c ∷ ds) (characters_same cs)

  string_same : (cs : List ℕ) → Constants.text_bytes (layout p.types) cs ≡ string_bytes cs
  string_same cs = λ k. characters_same (cs ++ 0 ∷ []) k ++ replicate (text_room_same p well sources closed cs k - once (suc (length cs)) k) 0
    where
      once : (n : ℕ) → 1 * n ≡ n
      once n = omega arith

  pub constants_same : (globals : ℕ) → constants p (layout p.types) globals ≡ low_constants x globals
  constants_same globals = λ k.
      flat_map (λ r. descriptor_bytes_same globals r k) (numbers 0 (records_many p well sources closed k)) ++ flat_map (λ cs. string_same cs k) (strings_same p well sources closed k)

  -- ---- limits

  limit_in_same : (f : ℕ) → f < length p.procedures → limit_in p (layout p.types) f (procedure_of p f) ≡ low_limit_in x f (form_of p well sources closed (procedure_of p f))
  limit_in_same f l = λ k.
      if nat_lt 1048576 (cells_all p well sources closed f l k) then Some (record { number = 59; index = f })
      else at_procedure f (passed (made_same p well sources closed f l k).pieces)

  limits_same : (f : ℕ) (qs : List Procedure) → AreFrom f qs → limits_from p (layout p.types) f qs ≡ low_limits_from x f (map (plain_procedure p.types) (map (numbered_procedure (length (texts_of p.procedures))) qs))
  limits_same f [] h = refl
  limits_same f (q ∷ qs) h =
      let b = first_from f q (h 0 q refl) in
      let first = subst (λ r. limit_in p (layout p.types) f r ≡ low_limit_in x f (form_of p well sources closed r)) b.0 (limit_in_same f b.1) in
      ap₂ (λ u v. or_else u v) first (limits_same (suc f) qs (rest_from f q qs h))

  pub limit_same : limit_of p ≡ low_limit (plain_program sources (numbered p)) (map (λ q. q.texts) p.procedures)
  limit_same =
      let many = sym (length-map p.procedures (numbered_procedure (length (texts_of p.procedures)))) ∙ sym (length-map (map (numbered_procedure (length (texts_of p.procedures))) p.procedures) (plain_procedure p.types)) in
      let globals = module_cells p well sources closed p.modules closed.variables in
      let inside = limits_same 0 p.procedures all_from in
      let records = records_many p well sources closed in
      let texts = strings_same p well sources closed in
      λ k.
      or_else (passes 52 (nat_lt 4096 (many k)))
      (or_else (passes 53 (nat_lt 1048576 (suc (globals k))))
      (or_else (inside k)
      (passes 58 (nat_lt 262144 (16 * records k + sum_by (λ (cs : List ℕ). suc (length cs)) (texts k))))))

-- where procedures stand is told by their forms
places_told : (t : Table) (n : ℕ) (qs : List Procedure) → map (λ (image : I.Procedure). (image.module_number, image.line)) (map (plain_procedure t) (map (numbered_procedure n) qs)) ≡ map place_of qs
places_told t n [] = refl
places_told t n (q ∷ qs) = ap (λ xs. place_of q ∷ xs) (places_told t n qs)

pub one_lowering : (p q : Program) → well_formed p ≡ true → well_formed q ≡ true → (h : HaveOneForm p q) → HasClosedTypes (plain_program h.sources (numbered p)) → HaveOneLowering p q
one_lowering p q good well h closed =
    let closed_too = subst HasClosedTypes h.form closed in
    let same_facts : facts p good h.sources closed ≡ facts q well h.others closed_too = λ k. facts_of (h.form k) (h.texts k) in
    record {
      procedures = lowered_same p good h.sources closed ∙ ap₂ (λ image texts. low_program image texts) h.form h.texts ∙ sym (lowered_same q well h.others closed_too);
      places = sym (places_told p.types (length (texts_of p.procedures)) p.procedures)
          ∙ ap (λ (image : I.Program). map (λ (x : I.Procedure). (x.module_number, x.line)) image.procedures) h.form
          ∙ places_told q.types (length (texts_of q.procedures)) q.procedures;
      globals = data_same p good h.sources closed ∙ ap (λ x. all_globals x) same_facts ∙ sym (data_same q well h.others closed_too);
      constants = λ base. constants_same p good h.sources closed base ∙ ap (λ x. low_constants x base) same_facts ∙ sym (constants_same q well h.others closed_too base);
      limit = limit_same p good h.sources closed ∙ ap₂ (λ image texts. low_limit image texts) h.form h.texts ∙ sym (limit_same q well h.others closed_too);
      imports = ap (λ image. image.imports_in) h.form;
    }
