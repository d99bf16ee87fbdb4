-- The elements beside each entry: what stays where more are noted, and what they say of a type.
use Rattle.std.proofs.Common.{◌≡◌, ℕ, zero, suc, ◌<◌, ◌≤◌, List, [], ◌∷◌, ◌++◌, length, Option, Some, refl, sym, ap, ap₂, ◌∙◌, subst, arith, ◌⊎◌, inl, inr}
use Rattle.std.specs.Prelude.{◌*◌, slice_get, min}
use Rattle.std.proofs.Math.Nat.{min-eq_right}
use Rattle.std.proofs.lemmas.List.{length-append}
use Rattle.std.proofs.lemmas.Option.{slice_get_within}
use Rattle.ob_types.specs.declared.types.Signature.{Signature}
use Rattle.ob_types.specs.Table.{Table}
use Rattle.ob_types.proofs.Tests.{some_same}
use Rattle.ob_judge.specs.Shapes.{Shape, Array}
use Rattle.judged_tree.specs.TypeShapes.{shape_of}
use Rattle.check_types.specs.TypeMeaning.{type_shape}
use Rattle.check_types.specs.declared.types.TypeRef.{TypeRef}
use Rattle.check_types.specs.declared.types.TypeRef.TheVariants as TheType
use Rattle.table_builder.specs.declared.elements.Elements.{Elements}
use Rattle.table_builder.specs.Cells.{most_cells, innermost, elements_in}
use Rattle.table_builder.specs.Contents.{Contents, IsConsistent}
use Rattle.table_builder.specs.Elements.{itself, or_itself, known_elements, times, elements_of, AreCounted}
use Rattle.table_builder.specs.Entries.{HasParts}
use Rattle.table_builder.specs.Sound.{IsSound}
use Rattle.table_builder.proofs.Lists.{there, get_from}
use Rattle.table_builder.proofs.Meaning.{meant}
use Rattle.table_builder.proofs.Counts.{capped_factor}
use Rattle.table_builder.proofs.Repeated.{single}

-- if this is an array, then of elements whose type's number is below that
abbrev pub IsOfBefore : ℕ → TypeRef → Type 0
IsOfBefore n of = (l e : ℕ) → of ≡ TheType.Array l e → e < n

parts_before : (sigs : List Signature) (n : ℕ) (of : TypeRef) → HasParts sigs n of → IsOfBefore n of
parts_before sigs n (TheType.Array m k) h l e is = subst (λ i. i < n) (same m k l e is) h
  where
    same : (m k l e : ℕ) → TheType.Array m k ≡ TheType.Array l e → k ≡ e
    same m k l e is = cc
parts_before sigs n _ h l e is = absurd (let z = is in cc)

pub record_before : (n r : ℕ) → IsOfBefore n (TheType.Record r)
record_before n r l e is = absurd (let z = is in cc)

pub pointer_before : (n p : ℕ) → IsOfBefore n (TheType.Pointer p)
pointer_before n p l e is = absurd (let z = is in cc)

pub procedure_before : (n g : ℕ) → IsOfBefore n (TheType.Procedure g)
procedure_before n g l e is = absurd (let z = is in cc)

module _ (xs ys : List Elements) (k : ℕ) (kept : (n : ℕ) → n < k → slice_get ys n ≡ slice_get xs n) where
  same_elements : (n : ℕ) → n ≤ k → (of : TypeRef) → IsOfBefore n of → elements_of ys n of ≡ elements_of xs n of
  same_elements n l (TheType.Array m e) h = let before = h m e refl in ap (λ o. times m (or_itself e o)) (kept e (omega (arith, l, before)))
  same_elements n l _ h = refl

  module _ (sigs : List Signature) (es : List TypeRef) (parts : (n : ℕ) (of : TypeRef) → slice_get es n ≡ Some of → HasParts sigs n of) (long : k ≡ length es) (ok : AreCounted es xs) where
    still : (n : ℕ) (of : TypeRef) → slice_get es n ≡ Some of → slice_get ys n ≡ Some (elements_of ys n of)
    still n of at =
        let l = slice_get_within es n of at in
        kept n (omega (arith, l, long)) ∙ ok.each n of at ∙ ap (λ x. Some x) (sym (same_elements n (omega (arith, l, long)) of (parts_before sigs n of (parts n of at))))

    pub counted_still : k ≤ length ys → AreCounted es ys
    counted_still l = record { as_many = omega (arith, l, long); each = still }

    pub counted_more : (of : TypeRef) → IsOfBefore k of → slice_get ys k ≡ Some (elements_of xs k of) → AreCounted (es ++ of ∷ []) ys
    counted_more of before noted = record {
      as_many = let l = slice_get_within ys k (elements_of xs k of) noted in let m = length-append es (of ∷ []) in omega (arith, l, m, long);
      each = λ n q at. by n q (get_from es of n q at);
    }
      where
        by : (n : ℕ) (q : TypeRef) → (slice_get es n ≡ Some q) ⊎ ((n ≡ length es) × (of ≡ q)) → slice_get ys n ≡ Some (elements_of ys n q)
        by n q (inl g) = still n q g
        by n q (inr g) =
            let here : n ≡ k = g.0 ∙ sym long in
            ap (slice_get ys) here ∙ noted ∙ ap (λ x. Some x) (sym (same_elements k (omega arith) of before)) ∙ ap₂ (λ m p. Some (elements_of ys m p)) (sym here) g.1

-- a builder where more was noted, and the entry that it is noted for
module _ (b : Contents) (ok : IsConsistent b) (n : ℕ) (at : n ≡ length b.entries) (ys : List Elements) (kept : (k : ℕ) → k < n → slice_get ys k ≡ slice_get b.elements k) where
  pub recounted : n ≤ length ys → IsConsistent (record b { elements = ys })
  recounted l = record {
    sound = ok.sound;
    index = ok.index;
    signatures = ok.signatures;
    layouts = ok.layouts;
    records = ok.records;
    pointers = ok.pointers;
    bases = ok.bases;
    procedures = ok.procedures;
    elements = ok.elements;
    counted = counted_still b.elements ys n kept b.types.signatures b.entries ok.sound.parts at ok.counted l;
  }

  pub one_counted : (of : TypeRef) → IsOfBefore (length b.entries) of → slice_get ys n ≡ Some (elements_of b.elements n of) → AreCounted (b.entries ++ of ∷ []) ys
  one_counted of before = counted_more b.elements ys n kept b.types.signatures b.entries ok.sound.parts at ok.counted of (subst (λ m. IsOfBefore m of) (sym at) before)

-- ---- what they say

pub record AreElementsOf (t : Table) (es : List TypeRef) (a : Shape) (x : Elements) : Type 0 where
  pub count : x.count ≡ min most_cells (elements_in a)
  pub inner : shape_of t x.of ≡ innermost a
  pub there : x.of < length es
  pub no_array : (l e : ℕ) → slice_get es x.of ≡ Some (TheType.Array l e) → ⊥

pub so_few : (n a : ℕ) → n ≡ min most_cells a → n ≤ most_cells
so_few n a is = omega (arith, is)

one_counts : min most_cells 1 ≡ 1
one_counts = min-eq_right {n = 1} {m = most_cells} (omega arith)

module _ (t : Table) (es : List TypeRef) (bases : List (Option ℕ)) (ok : IsSound t es bases) (xs : List Elements) (counted : AreCounted es xs) where
  by_itself : (n : ℕ) (of : TypeRef) → slice_get es n ≡ Some of → ((l e : ℕ) → of ≡ TheType.Array l e → ⊥) → AreElementsOf t es (type_shape t of) (itself n)
  by_itself n of at none =
      let s = single t of none in
      record {
        count = sym (ap (min most_cells) s.one ∙ one_counts);
        inner = meant t es bases ok n of at ∙ sym s.same;
        there = slice_get_within es n of at;
        no_array = λ l e g. none l e (some_same of (TheType.Array l e) (sym at ∙ g));
      }

  repeated : (l : ℕ) (a : Shape) (x : Elements) → AreElementsOf t es a x → AreElementsOf t es (Array l a) (times l x)
  repeated l a x h = record { count = ap (λ n. min most_cells (l * n)) h.count ∙ capped_factor most_cells l (elements_in a); inner = h.inner; there = h.there; no_array = h.no_array }

  -- an array's element stands before it
  below : (k n : ℕ) → n < k → (of : TypeRef) → slice_get es n ≡ Some of → AreElementsOf t es (type_shape t of) (elements_of xs n of)
  below zero n l of at = absurd (omega (arith, l))
  below (suc k) n l (TheType.Array m e) at =
      let within = slice_get_within es n (TheType.Array m e) at in
      let before = ok.parts n (TheType.Array m e) at in
      let q = there es e (omega (arith, within, before)) in
      let noted : known_elements xs e ≡ elements_of xs e q.0 = ap (or_itself e) (counted.each e q.0 q.1) in
      repeated m (shape_of t e) (known_elements xs e)
      (subst (λ a. AreElementsOf t es a (known_elements xs e)) (sym (meant t es bases ok e q.0 q.1))
      (subst (AreElementsOf t es (type_shape t q.0)) (sym noted) (below k e (omega (arith, l, before)) q.0 q.1)))
  below (suc k) n l of at = by_itself n of at (λ m e is. let z = is in cc)

  pub elements_told : (n : ℕ) (of : TypeRef) → slice_get es n ≡ Some of → (x : Elements) → slice_get xs n ≡ Some x → AreElementsOf t es (type_shape t of) x
  elements_told n of at x is =
      subst (AreElementsOf t es (type_shape t of)) (some_same (elements_of xs n of) x (sym (counted.each n of at) ∙ is)) (below (suc n) n (omega arith) of at)
