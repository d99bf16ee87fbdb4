-- One more entry, and one more procedure type.
use Rattle.std.proofs.Common.{◌≡◌, ℕ, zero, suc, ◌+◌, ◌<◌, List, [], ◌∷◌, ◌++◌, length, take, ◌-◌, map, true, Option, Some, None, Result, Ok, Err, refl, sym, ap, ap₂, ◌∙◌, subst, arith, ◌⊎◌, inl, inr}
use Rattle.std.specs.Prelude.{slice_get, slice_set, OnOk, OnErr}
use Rattle.std.specs.List.{range_with_len}
use Rattle.std.proofs.lemmas.List.{length-append, map-append}
use Rattle.std.proofs.lemmas.Option.{slice_get_past}
use Rattle.ob_types.specs.declared.types.RecordType.{RecordType}
use Rattle.ob_types.specs.declared.types.TypeKind.{TypeKind}
use Rattle.ob_types.specs.declared.types.TypeKind.TheVariants as TheKind
use Rattle.ob_types.specs.declared.types.Signature.{Signature}
use Rattle.ob_types.specs.Table.{Table}
use Rattle.ob_types.proofs.Tests.{none_some, some_same}
use Rattle.judged_tree.specs.Outline.{record_or_zero}
use Rattle.judged_tree.specs.Tables.{is_before, same_signatures}
use Rattle.check_types.specs.declared.types.TypeRef.{TypeRef}
use Rattle.check_types.specs.declared.types.TypeRef.TheVariants as TheType
use Rattle.check_types.specs.TypeMeaning.{kind_of_type}
use Rattle.table_builder.specs.Entries.{HasParts, pointers_of}
use Rattle.table_builder.specs.Sound.{IsSound, IsNext, IsNewSignature}
use Rattle.table_builder.proofs.Lists.{get_left, get_from, get_last, one_more, set_other, set_here, take_last}
use Rattle.table_builder.proofs.Growth.{Extends}

pub extends_append : {A : Type 0} (xs ys : List A) → Extends xs (xs ++ ys)
extends_append xs ys = record { kept = λ n x h. get_left xs ys n x h }

pub extends_self : {A : Type 0} (xs : List A) → Extends xs xs
extends_self xs = record { kept = λ n x h. h }

range_more : (a n : ℕ) → range_with_len a (suc n) ≡ range_with_len a n ++ (a + n) ∷ []
range_more a zero = let e : a ≡ a + 0 = omega arith in ap (λ m. m ∷ []) e
range_more a (suc n) = ap (λ ms. a ∷ ms) (range_more (a + 1) n ∙ ap (λ m. range_with_len (a + 1) n ++ m ∷ []) (same a n))
  where
    same : (a n : ℕ) → (a + 1) + n ≡ a + suc n
    same a n = omega arith

abbrev pub own_pointer : TypeRef → List ℕ
own_pointer (TheType.Pointer p) = p ∷ []
own_pointer e = []

pub pointers-append : (es : List TypeRef) (e : TypeRef) → pointers_of (es ++ e ∷ []) ≡ pointers_of es ++ own_pointer e
pointers-append [] (TheType.Pointer p) = refl
pointers-append [] _ = refl
pointers-append (TheType.Pointer p ∷ es) e = ap (λ ps. p ∷ ps) (pointers-append es e)
pointers-append (_ ∷ es) e = pointers-append es e

append-nil : (ns : List ℕ) → ns ++ [] ≡ ns
append-nil [] = refl
append-nil (n ∷ ns) = ap (λ ms. n ∷ ms) (append-nil ns)

module _ (t : Table) (es : List TypeRef) (bs : List (Option ℕ)) (ok : IsSound t es bs) where
  -- ---- one more entry

  module _ (e : TypeRef) (fits : IsNext t.signatures es e) where
    abbrev pub with_entry : Table
    with_entry = record t { kinds = t.kinds ++ kind_of_type bs e ∷ [] }

    parts_more : (k : ℕ) (f : TypeRef) → slice_get (es ++ e ∷ []) k ≡ Some f → HasParts t.signatures k f
    parts_more k f h = by (get_from es e k f h)
      where
        by : (slice_get es k ≡ Some f) ⊎ ((k ≡ length es) × (e ≡ f)) → HasParts t.signatures k f
        by (inl g) = ok.parts k f g
        by (inr g) = subst (λ n. HasParts t.signatures n f) (sym g.0) (subst (λ q. HasParts t.signatures (length es) q) g.1 fits.parts)

    pointer_next : (f : TypeRef) → e ≡ f → (own_pointer f ≡ []) ⊎ (own_pointer f ≡ length (pointers_of es) ∷ [])
    pointer_next (TheType.Pointer p) is = inr (ap (λ m. m ∷ []) (fits.pointer p is))
    pointer_next _ is = inl refl

    pointers_more : pointers_of (es ++ e ∷ []) ≡ range_with_len 0 (length (pointers_of (es ++ e ∷ [])))
    pointers_more = by (pointer_next e refl)
      where
        numbered : (ns ms : List ℕ) → ns ≡ range_with_len 0 (length ns) → ms ≡ ns ++ length ns ∷ [] → ms ≡ range_with_len 0 (length ms)
        numbered ns ms h is =
            is ∙ ap (λ xs. xs ++ length ns ∷ []) h ∙ sym (range_more 0 (length ns) ∙ ap (λ m. range_with_len 0 (length ns) ++ m ∷ []) (zero_plus (length ns)))
            ∙ ap (range_with_len 0) (one_longer is)
          where
            zero_plus : (n : ℕ) → 0 + n ≡ n
            zero_plus n = omega arith

            one_longer : ms ≡ ns ++ length ns ∷ [] → suc (length ns) ≡ length ms
            one_longer is = let l = length-append ns (length ns ∷ []) in let m = ap (λ xs. length xs) is in omega (arith, l, m)

        by : (own_pointer e ≡ []) ⊎ (own_pointer e ≡ length (pointers_of es) ∷ []) → pointers_of (es ++ e ∷ []) ≡ range_with_len 0 (length (pointers_of (es ++ e ∷ [])))
        by (inl h) = subst (λ ms. ms ≡ range_with_len 0 (length ms)) (sym (pointers-append es e ∙ ap (λ ms. pointers_of es ++ ms) h ∙ append-nil (pointers_of es))) ok.pointers
        by (inr h) = numbered (pointers_of es) (pointers_of (es ++ e ∷ [])) ok.pointers (pointers-append es e ∙ ap (λ ms. pointers_of es ++ ms) h)

    once_more : (a b : ℕ) (f : TypeRef) → slice_get (es ++ e ∷ []) a ≡ Some f → slice_get (es ++ e ∷ []) b ≡ Some f → a ≡ b
    once_more a b f h g = by (get_from es e a f h) (get_from es e b f g)
      where
        by : (slice_get es a ≡ Some f) ⊎ ((a ≡ length es) × (e ≡ f)) → (slice_get es b ≡ Some f) ⊎ ((b ≡ length es) × (e ≡ f)) → a ≡ b
        by (inl p) (inl q) = ok.once a b f p q
        by (inl p) (inr q) = absurd (fits.new a (p ∙ ap (λ x. Some x) (sym q.1)))
        by (inr p) (inl q) = absurd (fits.new b (q ∙ ap (λ x. Some x) (sym p.1)))
        by (inr p) (inr q) = p.0 ∙ sym q.0

    pub pushed : IsSound with_entry (es ++ e ∷ []) bs
    pushed = record {
      kinds = ap (λ ks. ks ++ kind_of_type bs e ∷ []) ok.kinds ∙ sym (map-append (kind_of_type bs) es (e ∷ []));
      parts = parts_more;
      pointers = pointers_more;
      once = once_more;
      signature = ok.signature;
    }

    pub pushed_as : (u : Table) (fs : List TypeRef) → u ≡ with_entry → fs ≡ es ++ e ∷ [] → IsSound u fs bs
    pushed_as u fs p q = subst (λ v. IsSound v fs bs) (sym p) (subst (λ gs. IsSound with_entry gs bs) (sym q) pushed)

  -- ---- one more procedure type

  module _ (x : Signature) (new : IsNewSignature t.signatures x) where
    abbrev pub with_signature : Table
    with_signature = record t { signatures = t.signatures ++ x ∷ [] }

    before_still : (k g : ℕ) (o : Option Signature) → slice_get t.signatures g ≡ o → is_before k o → is_before k (slice_get (t.signatures ++ x ∷ []) g)
    before_still k g None is h = absurd h
    before_still k g (Some y) is h = subst (is_before k) (sym (get_left t.signatures (x ∷ []) g y is)) h

    parts_still : (k : ℕ) (e : TypeRef) → HasParts t.signatures k e → HasParts (t.signatures ++ x ∷ []) k e
    parts_still k (TheType.Procedure g) h = before_still k g (slice_get t.signatures g) refl h
    parts_still k (TheType.Array n e) h = h
    parts_still k (TheType.Open e) h = h
    parts_still k _ h = h

    signature_more : (f g : ℕ) (y z : Signature) → slice_get (t.signatures ++ x ∷ []) f ≡ Some y → slice_get (t.signatures ++ x ∷ []) g ≡ Some z → same_signatures (Some y) (Some z) ≡ true → f ≡ g
    signature_more f g y z h i same = by (get_from t.signatures x f y h) (get_from t.signatures x g z i)
      where
        by : (slice_get t.signatures f ≡ Some y) ⊎ ((f ≡ length t.signatures) × (x ≡ y)) → (slice_get t.signatures g ≡ Some z) ⊎ ((g ≡ length t.signatures) × (x ≡ z)) → f ≡ g
        by (inl p) (inl q) = ok.signature f g y z p q same
        by (inl p) (inr q) = absurd (new.behind f y p (subst (λ w. same_signatures (Some y) (Some w) ≡ true) (sym q.1) same))
        by (inr p) (inl q) = absurd (new.before g z q (subst (λ w. same_signatures (Some w) (Some z) ≡ true) (sym p.1) same))
        by (inr p) (inr q) = p.0 ∙ sym q.0

    pub signed : IsSound with_signature es bs
    signed = record {
      kinds = ok.kinds;
      parts = λ k e h. parts_still k e (ok.parts k e h);
      pointers = ok.pointers;
      once = ok.once;
      signature = signature_more;
    }

    pub signed_as : (u : Table) → u ≡ with_signature → IsSound u es bs
    signed_as u p = subst (λ v. IsSound v es bs) (sym p) signed

  -- ---- other record types, and one more pointer type without a base

  pub other_records : (records : List RecordType) → IsSound (record t { records = records }) es bs
  other_records records = record { kinds = ok.kinds; parts = ok.parts; pointers = ok.pointers; once = ok.once; signature = ok.signature }

  pub records_as : (records : List RecordType) (u : Table) → u ≡ record t { records = records } → IsSound u es bs
  records_as records u p = subst (λ v. IsSound v es bs) (sym p) (other_records records)

  no_base : (p : ℕ) → record_or_zero (slice_get (bs ++ None ∷ []) p) ≡ record_or_zero (slice_get bs p)
  no_base p = by (one_more bs None p)
    where
      by : (p ≡ length bs) ⊎ (slice_get (bs ++ None ∷ []) p ≡ slice_get bs p) → record_or_zero (slice_get (bs ++ None ∷ []) p) ≡ record_or_zero (slice_get bs p)
      by (inl e) = ap (λ o. record_or_zero o) (ap (slice_get (bs ++ None ∷ [])) e ∙ get_last bs None) ∙ sym (ap (λ o. record_or_zero o) (slice_get_past bs p (omega (arith, e))))
      by (inr e) = ap (λ o. record_or_zero o) e

  kind_without : (e : TypeRef) → kind_of_type (bs ++ None ∷ []) e ≡ kind_of_type bs e
  kind_without (TheType.Pointer p) = ap TheKind.Pointer (no_base p)
  kind_without _ = refl

  kinds_same : (fs : List TypeRef) → map (kind_of_type (bs ++ None ∷ [])) fs ≡ map (kind_of_type bs) fs
  kinds_same [] = refl
  kinds_same (e ∷ fs) = ap₂ (λ (k : TypeKind) (ks : List TypeKind). k ∷ ks) (kind_without e) (kinds_same fs)

  pub without_base : (cs : List (Option ℕ)) → cs ≡ bs ++ None ∷ [] → IsSound t es cs
  without_base cs q = subst (λ ds. IsSound t es ds) (sym q) (record { kinds = ok.kinds ∙ sym (kinds_same es); parts = ok.parts; pointers = ok.pointers; once = ok.once; signature = ok.signature })

  -- ---- a base that becomes known

  module _ (n p r : ℕ) (at : slice_get es n ≡ Some (TheType.Pointer p)) (l : p < length bs) where
    abbrev based : List (Option ℕ)
    based = slice_set bs p (Some r)

    kind_other : (e : TypeRef) → (e ≡ TheType.Pointer p → ⊥) → kind_of_type based e ≡ kind_of_type bs e
    kind_other (TheType.Pointer q) h = ap (λ o. TheKind.Pointer (record_or_zero o)) (set_other bs p q (Some r) (λ e. h (ap TheType.Pointer e)))
    kind_other _ h = refl

    others_same : (fs : List TypeRef) → ((k : ℕ) → slice_get fs k ≡ Some (TheType.Pointer p) → ⊥) → map (kind_of_type based) fs ≡ map (kind_of_type bs) fs
    others_same [] h = refl
    others_same (e ∷ fs) h = ap₂ (λ (k : TypeKind) (ks : List TypeKind). k ∷ ks) (kind_other e (λ is. h 0 (ap (λ x. Some x) is))) (others_same fs (λ k. h (suc k)))

    kinds_set : (fs : List TypeRef) (k : ℕ) → slice_get fs k ≡ Some (TheType.Pointer p) → ((i : ℕ) → slice_get fs i ≡ Some (TheType.Pointer p) → i ≡ k) → map (kind_of_type based) fs ≡ slice_set (map (kind_of_type bs) fs) k (TheKind.Pointer r)
    kinds_set [] k h once = none_some (TheType.Pointer p) h
    kinds_set (e ∷ fs) zero h once =
        ap₂ (λ (k : TypeKind) (ks : List TypeKind). k ∷ ks)
        (ap (kind_of_type based) (some_same e (TheType.Pointer p) h) ∙ ap (λ o. TheKind.Pointer (record_or_zero o)) (set_here bs p (Some r) l))
        (others_same fs (λ k g. let z = once (suc k) g in omega (arith, z)))
    kinds_set (e ∷ fs) (suc k) h once =
        ap₂ (λ (k : TypeKind) (ks : List TypeKind). k ∷ ks)
        (kind_other e (λ is. let z = once 0 (ap (λ x. Some x) is) in omega (arith, z)))
        (kinds_set fs k h (λ i g. let z = once (suc i) g in omega (arith, z)))

    pub targeted : (u : Table) (cs : List (Option ℕ)) → u ≡ record t { kinds = slice_set t.kinds n (TheKind.Pointer r) } → cs ≡ based → IsSound u es cs
    targeted u cs p' q = subst (λ v. IsSound v es cs) (sym p') (subst (λ ds. IsSound (record t { kinds = slice_set t.kinds n (TheKind.Pointer r) }) es ds) (sym q) (record {
      kinds = ap (λ ks. slice_set ks n (TheKind.Pointer r)) ok.kinds ∙ sym (kinds_set es n at (λ i g. ok.once i n (TheType.Pointer p) g at));
      parts = ok.parts;
      pointers = ok.pointers;
      once = ok.once;
      signature = ok.signature;
    }))

-- one more, and taken off again
pub records_restored : (t u v w : Table) (x : RecordType) → u ≡ record t { records = t.records ++ x ∷ [] } → v ≡ u → w ≡ record v { records = take (length v.records - 1) v.records } → w ≡ t
records_restored t u v w x p q r =
    r ∙ ap (λ (s : Table). record s { records = take (length s.records - 1) s.records }) (q ∙ p) ∙ ap (λ rs. record t { records = rs }) (take_last t.records x)

pub signatures_restored : (t u v w : Table) (x : Signature) → u ≡ record t { signatures = t.signatures ++ x ∷ [] } → v ≡ u → w ≡ record v { signatures = take (length v.signatures - 1) v.signatures } → w ≡ t
signatures_restored t u v w x p q r =
    r ∙ ap (λ (s : Table). record s { signatures = take (length s.signatures - 1) s.signatures }) (q ∙ p) ∙ ap (λ rs. record t { signatures = rs }) (take_last t.signatures x)

pub sound_as : (t : Table) (es : List TypeRef) (bs : List (Option ℕ)) → IsSound t es bs → (u : Table) (fs : List TypeRef) → u ≡ t → fs ≡ es → IsSound u fs bs
sound_as t es bs ok u fs p q = subst (λ v. IsSound v fs bs) (sym p) (subst (λ gs. IsSound t gs bs) (sym q) ok)

-- what a call says of both its results
pub either : {T E P Q : Type 0} (r : Result T E) → OnOk r P → OnErr r Q → P ⊎ Q
either (Ok x) h g = inl h
either (Err e) h g = inr g
