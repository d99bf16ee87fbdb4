-- What entries mean, where they and the table say the same.
use Rattle.std.proofs.Common.{◌≡◌, ℕ, zero, suc, ◌+◌, ◌<◌, ◌≤◌, List, [], ◌∷◌, length, map, true, Option, Some, refl, sym, ap, ◌∙◌, subst, arith, ◌⊎◌, inl, inr}
use Rattle.std.specs.Prelude.{slice_get, slice_index_or}
use Rattle.std.specs.List.{range_with_len}
use Rattle.std.proofs.lemmas.List.{length-map, get_or_past}
use Rattle.std.proofs.lemmas.Option.{slice_get_within}
use Rattle.ob_types.specs.declared.types.TypeKind.TheVariants as TheKind
use Rattle.ob_types.specs.Layout.{kind_of}
use Rattle.ob_types.specs.Table.{Table}
use Rattle.ob_types.proofs.Tests.{none_some, less_or_past}
use Rattle.ob_judge.specs.Shapes.{Shape, Pointer, same}
use Rattle.judged_tree.specs.TypeShapes.{kind_shape, shapes_of, shape_of}
use Rattle.judged_tree.specs.Tables.{HasPartsBefore, IsFromTheFront}
use Rattle.judged_tree.proofs.Numbers.{shape-of_kind, pointer_from, pointer_of}
use Rattle.judged_tree.proofs.SameShapes.{same-self}
use Rattle.check_types.specs.declared.types.TypeRef.{TypeRef}
use Rattle.check_types.specs.declared.types.TypeRef.TheVariants as TheType
use Rattle.check_types.specs.TypeMeaning.{type_shape, kind_of_type}
use Rattle.check_types.specs.TableFacts.{entry_at, IsMeant}
use Rattle.table_builder.specs.Entries.{HasParts, pointers_of}
use Rattle.table_builder.specs.Sound.{IsSound}
use Rattle.table_builder.proofs.Lists.{there, index_there, map_there}
use Rattle.table_builder.proofs.Shapes.{shape_past}

-- a pointer type's number is that of its entry among pointer types
pointer_at : (t : Table) (bases : List (Option ℕ)) (es : List TypeRef) (start n k p : ℕ) → pointers_of es ≡ range_with_len start n → slice_get es k ≡ Some (TheType.Pointer p)
    → pointer_from t start (map (kind_of_type bases) es) k ≡ p
pointer_at t bases [] start n k p e h = none_some (TheType.Pointer p) h
pointer_at t bases (TheType.Pointer q ∷ es) start zero k p e h = absurd (let z = e in cc)
pointer_at t bases (TheType.Pointer q ∷ es) start (suc n) zero p e h = let a = e in let b = h in cc
pointer_at t bases (TheType.Pointer q ∷ es) start (suc n) (suc k) p e h =
    pointer_at t bases es (suc start) n k p (rest e) h
  where
    next : start + 1 ≡ suc start
    next = omega arith

    rest : (q ∷ pointers_of es) ≡ (start ∷ range_with_len (start + 1) n) → pointers_of es ≡ range_with_len (suc start) n
    rest e = tails e ∙ ap (λ m. range_with_len m n) next
      where
        tails : (q ∷ pointers_of es) ≡ (start ∷ range_with_len (start + 1) n) → pointers_of es ≡ range_with_len (start + 1) n
        tails e = cc
pointer_at t bases (f ∷ es) start n zero p e h = absurd (let z = h in cc)
pointer_at t bases (f ∷ es) start n (suc k) p e h = pointer_at t bases es start n k p e h

module _ (t : Table) (entries : List TypeRef) (bases : List (Option ℕ)) (ok : IsSound t entries bases) where
  pub long : length t.kinds ≡ length entries
  long = ap (λ ks. length ks) ok.kinds ∙ length-map entries (kind_of_type bases)

  pub kind_at : (k : ℕ) (e : TypeRef) → slice_get entries k ≡ Some e → kind_of t k ≡ kind_of_type bases e
  kind_at k e h = ap (λ ks. slice_index_or ks k TheKind.Nothing) ok.kinds ∙ index_there (map (kind_of_type bases) entries) k (kind_of_type bases e) TheKind.Nothing (map_there (kind_of_type bases) entries k e h)

  pub entry_there : (k : ℕ) → k < length t.kinds → (e : TypeRef) × (slice_get entries k ≡ Some e)
  entry_there k l = there entries k (let e = long in omega (arith, e, l))

  before : (k : ℕ) (e : TypeRef) → HasParts t.signatures k e → HasPartsBefore t k (kind_of_type bases e)
  before k (TheType.Array n e) h = h
  before k (TheType.Open e) h = h
  before k (TheType.Procedure g) h = h
  before k _ h = h

  pub front : IsFromTheFront t
  front = record { parts = λ k l. let e = entry_there k l in subst (λ q. HasPartsBefore t k q) (sym (kind_at k e.0 e.1)) (before k e.0 (ok.parts k e.0 e.1)) }

  as_type : (k : ℕ) (e : TypeRef) → slice_get entries k ≡ Some e → kind_shape t (shapes_of t) (pointer_of t k) (kind_of_type bases e) ≡ type_shape t e
  as_type k (TheType.Pointer p) h =
      ap Pointer (ap (λ ks. pointer_from t 0 ks k) ok.kinds ∙ pointer_at t bases entries 0 (length (pointers_of entries)) k p ok.pointers h)
  as_type k _ h = refl

  -- an entry is its number's type
  pub meant : (k : ℕ) (e : TypeRef) → slice_get entries k ≡ Some e → shape_of t k ≡ type_shape t e
  meant k e h =
      shape-of_kind t front k (let l = slice_get_within entries k e h in let m = long in omega (arith, l, m))
      ∙ ap (λ q. kind_shape t (shapes_of t) (pointer_of t k) q) (kind_at k e h) ∙ as_type k e h

  pub each_meant : IsMeant t entries
  each_meant n = by (less_or_past n (length entries))
    where
      shown : (s : Shape) (e : TypeRef) → s ≡ type_shape t e → same s (type_shape t e) ≡ true
      shown s e h = subst (λ u. same s u ≡ true) h (same-self s)

      by : (n < length entries) ⊎ (length entries ≤ n) → same (shape_of t n) (type_shape t (entry_at entries n)) ≡ true
      by (inl l) = let e = there entries n l in shown (shape_of t n) (entry_at entries n) (meant n e.0 e.1 ∙ ap (type_shape t) (sym (index_there entries n e.0 TheType.Nothing e.1)))
      by (inr l) = shown (shape_of t n) (entry_at entries n) (shape_past t n (let m = long in omega (arith, l, m)) ∙ ap (type_shape t) (sym (get_or_past entries n TheType.Nothing l)))
