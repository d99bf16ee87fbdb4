-- One more type, noted with its number.
use Rattle.std.proofs.Common.{◌≡◌, ℕ, List, [], ◌∷◌, ◌++◌, length, Bool, true, false, cond, Option, Some, None, refl, sym, ap, ap₂, ◌∙◌, subst, arith, ◌⊎◌, inl, inr}
use Rattle.std.specs.Prelude.{slice_get}
use Rattle.std.specs.Str.{bytes_eq}
use Rattle.std.specs.Cmp.Lexicographic.{bytes_decides}
use Rattle.std.proofs.lemmas.Bool.{cases_Bool, cond-true, cond-false}
use Rattle.ob_types.specs.declared.types.Formal.{Formal}
use Rattle.ob_types.proofs.Tests.{some_same}
use Rattle.ob_judge.specs.Shapes.{Shape, one}
use Rattle.judged_tree.specs.TypeShapes.{shape_at, formals_shape}
use Rattle.check_types.specs.declared.types.TypeRef.{TypeRef}
use Rattle.check_types.specs.declared.types.TypeRef.TheVariants as TheType
use Rattle.table_builder.specs.Index.{Notes, array_parts, open_parts, bit, signature_parts, number_in, IsIndex}
use Rattle.table_builder.proofs.Lists.{get_left, get_last, get_from, one_more}

-- a type is noted that was not, and nothing else is
pub record IsNoted (old new : Notes) (of : TypeRef) (n : ℕ) : Type 0 where
  pub here : number_in new of ≡ Some n
  pub others : (q : TypeRef) → (q ≡ of) ⊎ (number_in new q ≡ number_in old q)

module _ (old new : Notes) (es : List TypeRef) (of : TypeRef) (noted : IsNoted old new of (length es)) (fresh : (n : ℕ) → slice_get es n ≡ Some of → ⊥) (ok : IsIndex old es) where
  pub indexed : IsIndex new (es ++ of ∷ [])
  indexed = record { says = says; all = all }
    where
      says : (e : TypeRef) (n : ℕ) → number_in new e ≡ Some n → slice_get (es ++ of ∷ []) n ≡ Some e
      says e n h = by (noted.others e)
        where
          by : (e ≡ of) ⊎ (number_in new e ≡ number_in old e) → slice_get (es ++ of ∷ []) n ≡ Some e
          by (inl is) =
              let at : n ≡ length es = some_same n (length es) (sym h ∙ ap (number_in new) is ∙ noted.here) in
              subst (λ m. slice_get (es ++ of ∷ []) m ≡ Some e) (sym at) (get_last es of ∙ ap (λ x. Some x) (sym is))
          by (inr is) = get_left es (of ∷ []) n e (ok.says e n (sym is ∙ h))

      all : (e : TypeRef) (n : ℕ) → slice_get (es ++ of ∷ []) n ≡ Some e → number_in new e ≡ Some n
      all e n h = by (get_from es of n e h) (noted.others e)
        where
          by : (slice_get es n ≡ Some e) ⊎ ((n ≡ length es) × (of ≡ e)) → (e ≡ of) ⊎ (number_in new e ≡ number_in old e) → number_in new e ≡ Some n
          by (inl g) (inl is) = absurd (fresh n (g ∙ ap (λ x. Some x) is))
          by (inl g) (inr is) = is ∙ ok.all e n g
          by (inr g) is = ap (number_in new) (sym g.1) ∙ noted.here ∙ ap (λ m. Some m) (sym g.0)

pub record_noted : (s : Notes) (n : ℕ) → IsNoted s (record s { records = s.records ++ n ∷ [] }) (TheType.Record (length s.records)) n
record_noted s n = record { here = get_last s.records n; others = others }
  where
    others : (q : TypeRef) → (q ≡ TheType.Record (length s.records)) ⊎ (number_in (record s { records = s.records ++ n ∷ [] }) q ≡ number_in s q)
    others (TheType.Record r) = by (one_more s.records n r)
      where
        by : (r ≡ length s.records) ⊎ (slice_get (s.records ++ n ∷ []) r ≡ slice_get s.records r) → (TheType.Record r ≡ TheType.Record (length s.records)) ⊎ (slice_get (s.records ++ n ∷ []) r ≡ slice_get s.records r)
        by (inl e) = inl (ap TheType.Record e)
        by (inr e) = inr e
    others _ = inr refl

pub pointer_noted : (s : Notes) (n : ℕ) → IsNoted s (record s { pointers = s.pointers ++ n ∷ [] }) (TheType.Pointer (length s.pointers)) n
pointer_noted s n = record { here = get_last s.pointers n; others = others }
  where
    others : (q : TypeRef) → (q ≡ TheType.Pointer (length s.pointers)) ⊎ (number_in (record s { pointers = s.pointers ++ n ∷ [] }) q ≡ number_in s q)
    others (TheType.Pointer r) = by (one_more s.pointers n r)
      where
        by : (r ≡ length s.pointers) ⊎ (slice_get (s.pointers ++ n ∷ []) r ≡ slice_get s.pointers r) → (TheType.Pointer r ≡ TheType.Pointer (length s.pointers)) ⊎ (slice_get (s.pointers ++ n ∷ []) r ≡ slice_get s.pointers r)
        by (inl e) = inl (ap TheType.Pointer e)
        by (inr e) = inr e
    others _ = inr refl

-- of procedure types their parts too
pub procedure_noted : (s : Notes) (n : ℕ) (signatures : List ℕ → Option ℕ) →
    IsNoted s (record s { procedures = s.procedures ++ n ∷ []; signatures = signatures }) (TheType.Procedure (length s.procedures)) n
procedure_noted s n signatures = record { here = get_last s.procedures n; others = others }
  where
    others : (q : TypeRef) → (q ≡ TheType.Procedure (length s.procedures)) ⊎ (number_in (record s { procedures = s.procedures ++ n ∷ []; signatures = signatures }) q ≡ number_in s q)
    others (TheType.Procedure r) = by (one_more s.procedures n r)
      where
        by : (r ≡ length s.procedures) ⊎ (slice_get (s.procedures ++ n ∷ []) r ≡ slice_get s.procedures r) → (TheType.Procedure r ≡ TheType.Procedure (length s.procedures)) ⊎ (slice_get (s.procedures ++ n ∷ []) r ≡ slice_get s.procedures r)
        by (inl e) = inl (ap TheType.Procedure e)
        by (inr e) = inr e
    others _ = inr refl

-- a map with one more value, at these bytes
abbrev pub IsWith : List ℕ → ℕ → (List ℕ → Option ℕ) → (List ℕ → Option ℕ) → Type 0
IsWith parts n old new = (q : List ℕ) → new q ≡ cond (bytes_eq parts q) (Some n) (old q)

pub value_here : (parts : List ℕ) (n : ℕ) (old new : List ℕ → Option ℕ) → IsWith parts n old new → new parts ≡ Some n
value_here parts n old new w = w parts ∙ cond-true (bytes_eq parts parts) (Some n) (old parts) ((bytes_decides parts parts).1 refl)

pub value_there : (parts : List ℕ) (n : ℕ) (old new : List ℕ → Option ℕ) → IsWith parts n old new → (q : List ℕ) → (parts ≡ q) ⊎ (new q ≡ old q)
value_there parts n old new w q = by (cases_Bool (bytes_eq parts q))
  where
    by : (bytes_eq parts q ≡ true) ⊎ (bytes_eq parts q ≡ false) → (parts ≡ q) ⊎ (new q ≡ old q)
    by (inl e) = inl ((bytes_decides parts q).0 e)
    by (inr e) = inr (w q ∙ cond-false (bytes_eq parts q) (Some n) (old q) e)

-- taken away again
pub restored : (parts : List ℕ) (n : ℕ) (old between new : List ℕ → Option ℕ) → old parts ≡ None → IsWith parts n old between → ((q : List ℕ) → new q ≡ cond (bytes_eq parts q) None (between q)) → (q : List ℕ) → new q ≡ old q
restored parts n old between new none w f q = by (cases_Bool (bytes_eq parts q))
  where
    by : (bytes_eq parts q ≡ true) ⊎ (bytes_eq parts q ≡ false) → new q ≡ old q
    by (inl e) = f q ∙ cond-true (bytes_eq parts q) None (between q) e ∙ sym (ap old (sym ((bytes_decides parts q).0 e)) ∙ none)
    by (inr e) = f q ∙ cond-false (bytes_eq parts q) None (between q) e ∙ w q ∙ cond-false (bytes_eq parts q) (Some n) (old q) e

module _ (s : Notes) (n : ℕ) (arrays : List ℕ → Option ℕ) where
  abbrev pub with_arrays : Notes
  with_arrays = record s { arrays = arrays }

  pub array_noted : (length element : ℕ) → IsWith (array_parts element length) n s.arrays arrays → IsNoted s with_arrays (TheType.Array length element) n
  array_noted length element w = record { here = value_here (array_parts element length) n s.arrays arrays w; others = others }
    where
      others : (q : TypeRef) → (q ≡ TheType.Array length element) ⊎ (number_in with_arrays q ≡ number_in s q)
      others (TheType.Array m e) = by (value_there (array_parts element length) n s.arrays arrays w (array_parts e m))
        where
          by : (array_parts element length ≡ array_parts e m) ⊎ (arrays (array_parts e m) ≡ s.arrays (array_parts e m)) → (TheType.Array m e ≡ TheType.Array length element) ⊎ (arrays (array_parts e m) ≡ s.arrays (array_parts e m))
          by (inl is) = inl (let i = is in cc)
          by (inr is) = inr is
      others (TheType.Open e) = by (value_there (array_parts element length) n s.arrays arrays w (open_parts e))
        where
          by : (array_parts element length ≡ open_parts e) ⊎ (arrays (open_parts e) ≡ s.arrays (open_parts e)) → (TheType.Open e ≡ TheType.Array length element) ⊎ (arrays (open_parts e) ≡ s.arrays (open_parts e))
          by (inl is) = absurd (let i = is in cc)
          by (inr is) = inr is
      others _ = inr refl

  pub open_noted : (element : ℕ) → IsWith (open_parts element) n s.arrays arrays → IsNoted s with_arrays (TheType.Open element) n
  open_noted element w = record { here = value_here (open_parts element) n s.arrays arrays w; others = others }
    where
      others : (q : TypeRef) → (q ≡ TheType.Open element) ⊎ (number_in with_arrays q ≡ number_in s q)
      others (TheType.Array m e) = by (value_there (open_parts element) n s.arrays arrays w (array_parts e m))
        where
          by : (open_parts element ≡ array_parts e m) ⊎ (arrays (array_parts e m) ≡ s.arrays (array_parts e m)) → (TheType.Array m e ≡ TheType.Open element) ⊎ (arrays (array_parts e m) ≡ s.arrays (array_parts e m))
          by (inl is) = absurd (let i = is in cc)
          by (inr is) = inr is
      others (TheType.Open e) = by (value_there (open_parts element) n s.arrays arrays w (open_parts e))
        where
          by : (open_parts element ≡ open_parts e) ⊎ (arrays (open_parts e) ≡ s.arrays (open_parts e)) → (TheType.Open e ≡ TheType.Open element) ⊎ (arrays (open_parts e) ≡ s.arrays (open_parts e))
          by (inl is) = inl (let i = is in cc)
          by (inr is) = inr is
      others _ = inr refl

-- ---- procedure types by their parts

bits_one : (a b : Bool) → bit a ≡ bit b → a ≡ b
bits_one true true e = refl
bits_one true false e = absurd (omega (arith, e))
bits_one false true e = absurd (omega (arith, e))
bits_one false false e = refl

-- the same parts, the same parameters and result
pub record HasSameParts (xs ys : List Formal) (r q : ℕ) : Type 0 where
  pub shapes : (shapes : List Shape) → formals_shape shapes xs ≡ formals_shape shapes ys
  pub result : r ≡ q

pub parts_tell : (xs ys : List Formal) (r q : ℕ) → signature_parts xs r ≡ signature_parts ys q → HasSameParts xs ys r q
parts_tell [] [] r q e = record { shapes = λ s. refl; result = let z = e in cc }
parts_tell [] (y ∷ ys) r q e = absurd (let z = e in cc)
parts_tell (x ∷ xs) [] r q e = absurd (let z = e in cc)
parts_tell (x ∷ xs) (y ∷ ys) r q e =
    let h = apart (bit x.variable) (bit y.variable) x.type_number y.type_number (signature_parts xs r) (signature_parts ys q) e in
    let more = parts_tell xs ys r q h.2 in
    record { shapes = λ s. joined s (bits_one x.variable y.variable h.0) h.1 (more.shapes s); result = more.result }
  where
    apart : (a b c d : ℕ) (us vs : List ℕ) → (a ∷ c ∷ us) ≡ (b ∷ d ∷ vs) → (a ≡ b) × (c ≡ d) × (us ≡ vs)
    apart a b c d us vs e = (let z = e in cc, let z = e in cc, let z = e in cc)

    joined : (s : List Shape) → x.variable ≡ y.variable → x.type_number ≡ y.type_number → formals_shape s xs ≡ formals_shape s ys → formals_shape s (x ∷ xs) ≡ formals_shape s (y ∷ ys)
    joined s f g h = ap₂ (λ v ps. one v (shape_at s x.type_number) ps) f h ∙ ap (λ t. one y.variable (shape_at s t) (formals_shape s ys)) g
