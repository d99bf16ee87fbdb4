-- What is known after each call.
use Rattle.std.proofs.Common.{◌≡◌, ℕ, zero, suc, List, [], ◌∷◌, ◌++◌, map, Option, refl, sym, ap, ap₂, ◌∙◌, subst}
use Rattle.std.specs.Prelude.{slice_set}
use Rattle.std.proofs.lemmas.List.{map-append}
use Rattle.ob_types.specs.declared.types.RecordType.{RecordType}
use Rattle.ob_types.specs.declared.types.Signature.{Signature}
use Rattle.ob_types.specs.declared.types.TypeKind.{TypeKind}
use Rattle.ob_types.specs.declared.types.TypeKind.TheVariants as TheKind
use Rattle.ob_judge.specs.Shapes.{Layout as LayoutOf}
use Rattle.ob_judge.specs.Making.{no_layout}
use Rattle.check_types.specs.declared.types.TypeRef.{TypeRef}
use Rattle.check_types.specs.declared.types.TypeRef.TheVariants as TheType
use Rattle.check_types.specs.declared.table.Layout.{Layout}
use Rattle.check_types.specs.declared.table.TypeTable.{TypeTable}
use Rattle.check_types.specs.Known.{layout_of, known_of}
use Rattle.table_builder.specs.Sound.{IsSound}
use Rattle.table_builder.specs.Growing.{Grows}
use Rattle.table_builder.specs.Contents.{IsRecordType, IsClosed, AreRecordTypes, IsBlank}
use Rattle.table_builder.proofs.Growth.{Extends}
use Rattle.table_builder.proofs.Pushing.{extends_append, extends_self}
use Rattle.table_builder.proofs.Built.{grown, known_grown, layout_stays}
use Rattle.table_builder.proofs.Calls.{blank_means}

module _ (t u : TypeTable) (old : IsSound t.types t.entries.items t.bases.items) (new : IsSound u.types u.entries.items u.bases.items) where
  longer : (e : TypeRef) → u.entries.items ≡ t.entries.items ++ e ∷ [] → Extends t.entries.items u.entries.items
  longer e q = subst (λ es. Extends t.entries.items es) (sym q) (extends_append t.entries.items (e ∷ []))

  same_signatures : u.types.signatures ≡ t.types.signatures → Extends t.types.signatures u.types.signatures
  same_signatures p = subst (λ ss. Extends t.types.signatures ss) (sym p) (extends_self t.types.signatures)

  pub record_grows : (r : ℕ) (x : RecordType) → u.types ≡ record t.types { kinds = t.types.kinds ++ TheKind.Record r ∷ []; records = t.types.records ++ x ∷ [] } → u.entries.items ≡ t.entries.items ++ TheType.Record r ∷ [] → Grows t u
  record_grows r x p q = grown t u old new (longer (TheType.Record r) q) (same_signatures (ap (λ s. s.signatures) p))

  pub pointer_grows : (e : TypeRef) (k : TypeKind) → u.types ≡ record t.types { kinds = t.types.kinds ++ k ∷ [] } → u.entries.items ≡ t.entries.items ++ e ∷ [] → Grows t u
  pointer_grows e k p q = grown t u old new (longer e q) (same_signatures (ap (λ s. s.signatures) p))

  pub base_grows : (ks : List TypeKind) → u.types ≡ record t.types { kinds = ks } → u.entries.items ≡ t.entries.items → Grows t u
  base_grows ks p q = grown t u old new (subst (λ es. Extends t.entries.items es) (sym q) (extends_self t.entries.items)) (same_signatures (ap (λ s. s.signatures) p))

  pub layout_grows : (xs : List RecordType) → u.types ≡ record t.types { records = xs } → u.entries.items ≡ t.entries.items → Grows t u
  layout_grows xs p q = grown t u old new (subst (λ es. Extends t.entries.items es) (sym q) (extends_self t.entries.items)) (same_signatures (ap (λ s. s.signatures) p))

  pub procedure_grows : (g : ℕ) (x : Signature) → u.types ≡ record t.types { kinds = t.types.kinds ++ TheKind.Procedure g ∷ []; signatures = t.types.signatures ++ x ∷ [] } → u.entries.items ≡ t.entries.items ++ TheType.Procedure g ∷ [] → Grows t u
  procedure_grows g x p q = grown t u old new (longer (TheType.Procedure g) q) (subst (λ s. Extends t.types.signatures s.signatures) (sym p) (extends_append t.types.signatures (x ∷ [])))

module _ (t u : TypeTable) (g : Grows t u) (h : AreRecordTypes t.entries.items t.types.records t.layouts.items) where
  pub known_record : (l : Layout) → IsBlank l → u.layouts.items ≡ t.layouts.items ++ l ∷ [] → u.bases.items ≡ t.bases.items → known_of u ≡ record (known_of t) { records = (known_of t).records ++ no_layout ∷ [] }
  known_record l blank p q =
      ap₂ (λ (ls : List LayoutOf) (bs : List (Option ℕ)). record { records = ls; bases = bs })
      (ap (map (layout_of u.types)) p ∙ map-append (layout_of u.types) t.layouts.items (l ∷ [])
      ∙ ap₂ (λ (ls : List LayoutOf) (k : LayoutOf). ls ++ k ∷ []) (known_grown t u g h) (blank_means t.entries.items l blank u.types)) q

  pub known_pointer : (bs : List (Option ℕ)) → u.layouts.items ≡ t.layouts.items → u.bases.items ≡ bs → known_of u ≡ record (known_of t) { bases = bs }
  known_pointer bs p q =
      ap₂ (λ (ls : List LayoutOf) (cs : List (Option ℕ)). record { records = ls; bases = cs }) (ap (map (layout_of u.types)) p ∙ known_grown t u g h) q

  map_set : (f : Layout → LayoutOf) (ls : List Layout) (n : ℕ) (l : Layout) → map f (slice_set ls n l) ≡ slice_set (map f ls) n (f l)
  map_set f [] n l = refl
  map_set f (k ∷ ls) zero l = refl
  map_set f (k ∷ ls) (suc n) l = ap (λ ks. f k ∷ ks) (map_set f ls n l)

  pub known_layout : (r : ℕ) (x : RecordType) (l : Layout) → IsRecordType t.entries.items x l → IsClosed t.entries.items l → u.layouts.items ≡ slice_set t.layouts.items r l → u.bases.items ≡ t.bases.items
      → known_of u ≡ record (known_of t) { records = slice_set (known_of t).records r (layout_of t.types l) }
  known_layout r x l is c p q =
      ap₂ (λ (ls : List LayoutOf) (bs : List (Option ℕ)). record { records = ls; bases = bs })
      (ap (map (layout_of u.types)) p ∙ map_set (layout_of u.types) t.layouts.items r l
      ∙ ap₂ (λ (ls : List LayoutOf) (k : LayoutOf). slice_set ls r k) (known_grown t u g h) (layout_stays t.types u.types t.entries.items g.shape x l is c)) q
