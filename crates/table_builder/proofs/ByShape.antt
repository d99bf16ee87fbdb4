-- A type is known by its shape: it is the entry that has it.
use Rattle.std.proofs.Common.{◌≡◌, ℕ, ◌<◌, ◌≤◌, length, true, Option, Some, None, refl, sym, ap, ap₂, ◌∙◌, subst, arith, ◌⊎◌, inl, inr}
use Rattle.std.specs.Prelude.{slice_get}
use Rattle.std.proofs.lemmas.Option.{slice_get_within}
use Rattle.ob_types.specs.declared.types.Signature.{Signature}
use Rattle.ob_types.specs.Table.{Table}
use Rattle.ob_types.proofs.Tests.{none_some, no, less_or_past}
use Rattle.ob_judge.specs.Shapes.{Shape, Nil, Array, Open, Procedure, Formals, none}
use Rattle.judged_tree.specs.TypeShapes.{shape_of, shapes_of, formals_in, result_in, signature_shape}
use Rattle.judged_tree.specs.Tables.{is_before}
use Rattle.check_types.specs.declared.types.TypeRef.{TypeRef}
use Rattle.check_types.specs.declared.types.TypeRef.TheVariants as TheType
use Rattle.check_types.specs.TypeMeaning.{type_shape}
use Rattle.table_builder.specs.Entries.{IsElement, is_whole, is_whole_shape, element_in, HasShape}
use Rattle.table_builder.specs.Contents.{Contents, IsConsistent}
use Rattle.table_builder.proofs.Lists.{there}
use Rattle.table_builder.proofs.Shapes.{shape_past}
use Rattle.table_builder.proofs.Meaning.{meant, long}
use Rattle.table_builder.proofs.Apart.{one_shape}
use Rattle.table_builder.proofs.Calls.{procedure_numbered}

pub whole-shape : (t : Table) (k : TypeRef) → is_whole_shape (type_shape t k) ≡ is_whole k
whole-shape t (TheType.Open e) = refl
whole-shape t TheType.Nil = refl
whole-shape t TheType.Nothing = refl
whole-shape t (TheType.Text n) = refl
whole-shape t _ = refl

module _ (b : Contents) (ok : IsConsistent b) where
  abbrev t : Table
  t = b.types

  -- numbers of one shape are one, where it is that of an array's elements
  elements_one : (a c : ℕ) → a < length b.entries → is_whole_shape (shape_of t a) ≡ true → shape_of t a ≡ shape_of t c → a ≡ c
  elements_one a c l whole e = by (less_or_past c (length t.kinds))
    where
      by : (c < length t.kinds) ⊎ (length t.kinds ≤ c) → a ≡ c
      by (inl m) = (one_shape t b.entries b.bases ok.sound).one a c (let k = long t b.entries b.bases ok.sound in omega (arith, k, l)) m e
      by (inr p) = no (ap is_whole_shape (sym (e ∙ shape_past t c p)) ∙ whole)

  -- an array's element type is there, and is one that variables may have
  element_whole : (n : ℕ) (of : TypeRef) (a : ℕ) → slice_get b.entries n ≡ Some of → element_in of ≡ Some a → a < n → is_whole_shape (shape_of t a) ≡ true
  element_whole n of a at is l =
      let within = slice_get_within b.entries n of at in
      let e = there b.entries a (omega (arith, l, within)) in
      ap is_whole_shape (meant t b.entries b.bases ok.sound a e.0 e.1) ∙ whole-shape t e.0 ∙ ok.elements n of at a e.0 is e.1

  no_nil : (k : ℕ) (e : TypeRef) → slice_get b.entries k ≡ Some e → type_shape t e ≡ Nil → ⊥
  no_nil k TheType.Nil at h = none_some k (ok.index.all TheType.Nil k at)
  no_nil k _ at h = let z = h in cc

  same_entry : (n : ℕ) (e k : TypeRef) → slice_get b.entries n ≡ Some e → type_shape t e ≡ type_shape t k → e ≡ k
  same_entry n TheType.Int TheType.Int at h = refl
  same_entry n TheType.Bool TheType.Bool at h = refl
  same_entry n TheType.Char TheType.Char at h = refl
  same_entry n TheType.Byte TheType.Byte at h = refl
  same_entry n TheType.Set TheType.Set at h = refl
  same_entry n TheType.Nil TheType.Nil at h = refl
  same_entry n TheType.Nothing TheType.Nothing at h = refl
  same_entry n (TheType.Text i) (TheType.Text j) at h = ap TheType.Text (let z = h in cc)
  same_entry n (TheType.Record i) (TheType.Record j) at h = ap TheType.Record (let z = h in cc)
  same_entry n (TheType.Pointer i) (TheType.Pointer j) at h = ap TheType.Pointer (let z = h in cc)
  same_entry n (TheType.Open a) (TheType.Open c) at h =
      let l : a < n = ok.sound.parts n (TheType.Open a) at in
      let within = slice_get_within b.entries n (TheType.Open a) at in
      ap TheType.Open (elements_one a c (omega (arith, l, within)) (element_whole n (TheType.Open a) a at refl l) (elements (shape_of t a) (shape_of t c) h))
    where
      elements : (s u : Shape) → Open s ≡ Open u → s ≡ u
      elements s u e = cc
  same_entry n (TheType.Array i a) (TheType.Array j c) at h =
      let l : a < n = ok.sound.parts n (TheType.Array i a) at in
      let within = slice_get_within b.entries n (TheType.Array i a) at in
      ap₂ TheType.Array (lengths (shape_of t a) (shape_of t c) h) (elements_one a c (omega (arith, l, within)) (element_whole n (TheType.Array i a) a at refl l) (elements (shape_of t a) (shape_of t c) h))
    where
      lengths : (s u : Shape) → Array i s ≡ Array j u → i ≡ j
      lengths s u e = cc

      elements : (s u : Shape) → Array i s ≡ Array j u → s ≡ u
      elements s u e = cc
  same_entry n (TheType.Procedure f) (TheType.Procedure g) at h = by (slice_get t.signatures g) refl (slice_get t.signatures f) refl
    where
      results : (ps qs : Formals) (s u : Shape) → Procedure ps s ≡ Procedure qs u → s ≡ u
      results ps qs s u e = cc

      has_result : (x : Signature) → slice_get t.signatures f ≡ Some x → slice_get t.signatures g ≡ None → ⊥
      has_result x is absent =
          let before = subst (is_before n) is (ok.sound.parts n (TheType.Procedure f) at) in
          let less = before.1 in
          let within = slice_get_within b.entries n (TheType.Procedure f) at in
          let r = there b.entries x.result (omega (arith, less, within)) in
          no_nil x.result r.0 r.1
          (sym (meant t b.entries b.bases ok.sound x.result r.0 r.1)
          ∙ results (formals_in (shapes_of t) (Some x)) none (result_in (shapes_of t) (Some x)) Nil
          (sym (ap (signature_shape (shapes_of t)) is) ∙ h ∙ ap (signature_shape (shapes_of t)) absent))

      by : (y : Option Signature) → slice_get t.signatures g ≡ y → (x : Option Signature) → slice_get t.signatures f ≡ x → TheType.Procedure f ≡ TheType.Procedure g
      by (Some y) is x isx =
          let m = (procedure_numbered b ok g y is).numbered in
          let k = long t b.entries b.bases ok.sound in
          let ln = slice_get_within b.entries n (TheType.Procedure f) at in
          let lm = slice_get_within b.entries m.0 (TheType.Procedure g) m.1 in
          let e = (one_shape t b.entries b.bases ok.sound).one n m.0 (omega (arith, k, ln)) (omega (arith, k, lm))
          (meant t b.entries b.bases ok.sound n (TheType.Procedure f) at ∙ h ∙ sym (meant t b.entries b.bases ok.sound m.0 (TheType.Procedure g) m.1)) in
          one (sym at ∙ ap (slice_get b.entries) e ∙ m.1)
        where
          one : Some (TheType.Procedure f) ≡ Some (TheType.Procedure g) → TheType.Procedure f ≡ TheType.Procedure g
          one e = cc
      by None is (Some x) isx = absurd (has_result x isx is)
      by None is None isx = absurd (subst (is_before n) isx (ok.sound.parts n (TheType.Procedure f) at))
  same_entry n e k at h = absurd (let z = h in cc)

  -- the entry that has a type's shape is the type
  pub entry_by_shape : (k : TypeRef) (s : Shape) → HasShape t s → type_shape t k ≡ s → (n : ℕ) × (slice_get b.entries n ≡ Some k)
  entry_by_shape k s h is =
      let e = there b.entries h.number (let l = h.there in let m = long t b.entries b.bases ok.sound in omega (arith, l, m)) in
      let same = same_entry h.number e.0 k e.1 (sym (meant t b.entries b.bases ok.sound h.number e.0 e.1) ∙ h.same ∙ sym is) in
      (h.number, e.1 ∙ ap (λ x. Some x) same)

  pub element_by_shape : (k : TypeRef) (s : Shape) → HasShape t s → is_whole_shape s ≡ true → type_shape t k ≡ s → IsElement b.entries k
  element_by_shape k s h whole is = record { numbered = entry_by_shape k s h is; whole = sym (whole-shape t k) ∙ ap is_whole_shape is ∙ whole }
