-- What stays legal while the table grows.
use Rattle.std.proofs.Common.{◌≡◌, ℕ, zero, suc, ◌<◌, List, [], ◌∷◌, Some, ap, sym, ◌∙◌, subst, arith, ◌⊎◌, inl, inr}
use Rattle.std.specs.Prelude.{slice_get}
use Rattle.std.proofs.lemmas.Option.{slice_get_within}
use Rattle.ob_types.specs.declared.types.Formal.{Formal}
use Rattle.ob_types.specs.declared.types.Signature.{Signature}
use Rattle.ob_types.proofs.Tests.{none_some, some_same}
use Rattle.ob_judge.specs.Shapes.{Shape, Array}
use Rattle.ob_judge.specs.Parameters.{mode_of}
use Rattle.judged_tree.specs.TypeShapes.{shape_of}
use Rattle.judged_tree.specs.Tables.{are_before, is_before}
use Rattle.judged_well.specs.Standing.{is_formal, is_result}
use Rattle.judged_programs.specs.Complete.{CompleteStay}
use Rattle.judged_programs.proofs.Cores.{complete_later, cells_are, cells_same}
use Rattle.check_types.specs.declared.types.TypeRef.{TypeRef}
use Rattle.check_types.specs.declared.types.TypeRef.TheVariants as TheType
use Rattle.check_types.specs.Known.{known_of}
use Rattle.check_types.specs.TypeMeaning.{type_shape}
use Rattle.table_builder.specs.Contents.{contents_of}
use Rattle.table_builder.specs.Growing.{Grows, AddsOnly, as_before, behind}
use Rattle.table_builder.specs.Index.{basic_types}
use Rattle.table_builder.specs.Builder.{IsBuilt}
use Rattle.table_builder.specs.declared.builder.TableBuilder.{TableBuilder}
use Rattle.table_builder.proofs.Lists.{there, get_from}
use Rattle.table_builder.proofs.Meaning.{meant}
use Rattle.table_builder.proofs.Calls.{procedure_numbered}
use Rattle.legal_tables.specs.Promised.{IsLegalArray, IsLegalShape, HasLegalParts, HasLegalTypes}

-- what was there, or what was added
added : {A : Type 0} (x : A) (old new : List A) → AddsOnly x old new → (n : ℕ) (y : A) → slice_get new n ≡ Some y → (slice_get old n ≡ Some y) ⊎ (x ≡ y)
added x old new (as_before e) n y at = inl (ap (λ zs. slice_get zs n) (sym e) ∙ at)
added x old new (behind e) n y at = elim (get_from old x n y (ap (λ zs. slice_get zs n) (sym e) ∙ at)) as (λ _. (slice_get old n ≡ Some y) ⊎ (x ≡ y)) [
  | inl k ↦ inl k
  | inr k ↦ inr k.1
]

-- ---- the first table has only basic types

basic : (n l e : ℕ) → slice_get basic_types n ≡ Some (TheType.Array l e) → ⊥
basic zero l e h = absurd (let z = h in cc)
basic (suc zero) l e h = absurd (let z = h in cc)
basic (suc (suc zero)) l e h = absurd (let z = h in cc)
basic (suc (suc (suc zero))) l e h = absurd (let z = h in cc)
basic (suc (suc (suc (suc zero)))) l e h = absurd (let z = h in cc)
basic (suc (suc (suc (suc (suc zero))))) l e h = absurd (let z = h in cc)
basic (suc (suc (suc (suc (suc (suc n)))))) l e h = none_some (TheType.Array l e) h

pub first_legal : (b : TableBuilder) → b.table.entries.items ≡ basic_types → b.table.types.signatures ≡ [] → HasLegalTypes b.table
first_legal b entries signatures = record {
  array = λ n l e at. absurd (basic n l e (ap (λ zs. slice_get zs n) (sym entries) ∙ at));
  signature = λ g x at. none_some x (ap (λ zs. slice_get zs g) (sym signatures) ∙ at);
}

-- ---- one table after another

module _ (b c : TableBuilder) (built : IsBuilt b) (after : IsBuilt c) (grows : Grows b.table c.table) (stay : CompleteStay (known_of b.table).records (known_of c.table).records) where
  -- a number means what it meant
  shape_stays : (n : ℕ) (e : TypeRef) → slice_get b.table.entries.items n ≡ Some e → shape_of c.table.types n ≡ shape_of b.table.types n
  shape_stays n e at =
      meant c.table.types c.table.entries.items c.table.bases.items after.sound n e (grows.entry n e at)
      ∙ grows.shape e (n, at)
      ∙ sym (meant b.table.types b.table.entries.items b.table.bases.items built.sound n e at)

  shape_before : (n k : ℕ) (x : TypeRef) → slice_get b.table.entries.items n ≡ Some x → k < n → shape_of c.table.types k ≡ shape_of b.table.types k
  shape_before n k x at less =
      let within = slice_get_within b.table.entries.items n x at in
      let e = there b.table.entries.items k (omega (arith, less, within)) in
      shape_stays k e.0 e.1

  array_stays : (l : ℕ) (a : Shape) → IsLegalArray (known_of b.table) l a → IsLegalArray (known_of c.table) l a
  array_stays l a h = record {
    length_allowed = h.length_allowed;
    complete = λ r is. complete_later (known_of b.table).records (known_of c.table).records stay r (h.complete r is);
    few =
        let now = cells_are (known_of c.table) (Array l a) in
        let same = cells_same (known_of b.table).records (known_of c.table).records stay (Array l a) h.complete in
        let was = cells_are (known_of b.table) (Array l a) in
        let few = h.few in
        omega (arith, now, same, was, few);
  }

  parts_stay : (g : ℕ) (x : Signature) → slice_get b.table.types.signatures g ≡ Some x → HasLegalParts b.table x → HasLegalParts c.table x
  parts_stay g x at h =
      let n = (procedure_numbered (contents_of b.table b.numbers b.elements.items) built g x at).numbered in
      let before = subst (is_before n.0) at (built.sound.parts n.0 (TheType.Procedure g) n.1) in
      record {
        formals = λ i y at_y.
            let same = shape_before n.0 y.type_number (TheType.Procedure g) n.1 (one_before n.0 x.formals before.0 i y at_y) in
            let k = h.formals i y at_y in
            record { mode = k.mode ∙ ap (mode_of y.variable) (sym same); formal = ap is_formal same ∙ k.formal };
        words = h.words;
        result = ap is_result (shape_before n.0 x.result (TheType.Procedure g) n.1 before.1) ∙ h.result;
      }
    where
      one_before : (n : ℕ) (xs : List Formal) → are_before n xs → (i : ℕ) (y : Formal) → slice_get xs i ≡ Some y → y.type_number < n
      one_before n [] h i y at = none_some y at
      one_before n (z ∷ zs) h zero y at = subst (λ w. w.type_number < n) (some_same z y at) h.0
      one_before n (z ∷ zs) h (suc i) y at = one_before n zs h.1 i y at

  pub kept_with : (k : TypeRef) → AddsOnly k b.table.entries.items c.table.entries.items → IsLegalShape (known_of c.table) (type_shape c.table.types k)
      → (x : Signature) → AddsOnly x b.table.types.signatures c.table.types.signatures → HasLegalParts c.table x → HasLegalTypes b.table → HasLegalTypes c.table
  kept_with k entries new x signatures parts h = record {
    array = λ n l e at. elim (added k b.table.entries.items c.table.entries.items entries n (TheType.Array l e) at) as (λ _. IsLegalArray (known_of c.table) l (shape_of c.table.types e)) [
      | inl old ↦ subst (IsLegalArray (known_of c.table) l) (sym (shape_before n e (TheType.Array l e) old (built.sound.parts n (TheType.Array l e) old))) (array_stays l (shape_of b.table.types e) (h.array n l e old))
      | inr is ↦ subst (λ q. IsLegalShape (known_of c.table) (type_shape c.table.types q)) is new
    ];
    signature = λ g y at. elim (added x b.table.types.signatures c.table.types.signatures signatures g y at) as (λ _. HasLegalParts c.table y) [
      | inl old ↦ parts_stay g y old (h.signature g y old)
      | inr is ↦ subst (HasLegalParts c.table) is parts
    ];
  }

  pub kept : (k : TypeRef) → AddsOnly k b.table.entries.items c.table.entries.items → IsLegalShape (known_of c.table) (type_shape c.table.types k)
      → c.table.types.signatures ≡ b.table.types.signatures → HasLegalTypes b.table → HasLegalTypes c.table
  kept k entries new same h = record {
    array = λ n l e at. elim (added k b.table.entries.items c.table.entries.items entries n (TheType.Array l e) at) as (λ _. IsLegalArray (known_of c.table) l (shape_of c.table.types e)) [
      | inl old ↦ subst (IsLegalArray (known_of c.table) l) (sym (shape_before n e (TheType.Array l e) old (built.sound.parts n (TheType.Array l e) old))) (array_stays l (shape_of b.table.types e) (h.array n l e old))
      | inr is ↦ subst (λ q. IsLegalShape (known_of c.table) (type_shape c.table.types q)) is new
    ];
    signature = λ g y at. let old = ap (λ zs. slice_get zs g) (sym same) ∙ at in parts_stay g y old (h.signature g y old);
  }
