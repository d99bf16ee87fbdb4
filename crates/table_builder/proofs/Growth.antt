-- Entries that stay mean what they meant.
use Rattle.std.proofs.Common.{◌≡◌, ℕ, zero, suc, ◌<◌, ◌≤◌, List, [], ◌∷◌, length, Option, Some, None, refl, sym, ap, ap₂, ◌∙◌, arith}
use Rattle.std.specs.Prelude.{slice_get}
use Rattle.std.proofs.lemmas.Option.{slice_get_within}
use Rattle.ob_types.specs.declared.types.Formal.{Formal}
use Rattle.ob_types.specs.declared.types.Signature.{Signature}
use Rattle.ob_types.specs.Table.{Table}
use Rattle.ob_judge.specs.Shapes.{Array, Open, Procedure, one}
use Rattle.judged_tree.specs.TypeShapes.{shapes_of, shape_of, formals_shape, signature_shape}
use Rattle.judged_tree.specs.Tables.{are_before, is_before}
use Rattle.check_types.specs.declared.types.TypeRef.{TypeRef}
use Rattle.check_types.specs.declared.types.TypeRef.TheVariants as TheType
use Rattle.check_types.specs.TypeMeaning.{type_shape}
use Rattle.table_builder.specs.Entries.{HasParts}
use Rattle.table_builder.specs.Sound.{IsSound}
use Rattle.table_builder.proofs.Lists.{there}
use Rattle.table_builder.proofs.Meaning.{meant}

-- the same list with more behind it
pub record Extends {A : Type 0} (old new : List A) : Type 0 where
  pub kept : (n : ℕ) (x : A) → slice_get old n ≡ Some x → slice_get new n ≡ Some x

module _ (t u : Table) (es fs : List TypeRef) (bs cs : List (Option ℕ)) (old : IsSound t es bs) (new : IsSound u fs cs) (longer : Extends es fs) (signatures : Extends t.signatures u.signatures) where
  abbrev Stays : ℕ → Type 0
  Stays n = (k : ℕ) (e : TypeRef) → k < n → slice_get es k ≡ Some e → shape_of u k ≡ shape_of t k

  number_stays : (n k : ℕ) → Stays n → k < n → k < length es → shape_of u k ≡ shape_of t k
  number_stays n k go l m = let e = there es k m in go k e.0 l e.1

  formals_stay : (n : ℕ) → n ≤ length es → Stays n → (xs : List Formal) → are_before n xs → formals_shape (shapes_of u) xs ≡ formals_shape (shapes_of t) xs
  formals_stay n l go [] h = refl
  formals_stay n l go (x ∷ xs) h =
      let here = h.0 in
      ap₂ (λ s ps. one x.variable s ps) (number_stays n x.type_number go here (omega (arith, here, l))) (formals_stay n l go xs h.1)

  signature_stays : (n g : ℕ) → n ≤ length es → Stays n → (o : Option Signature) → slice_get t.signatures g ≡ o → is_before n o → signature_shape (shapes_of u) (slice_get u.signatures g) ≡ signature_shape (shapes_of t) (slice_get t.signatures g)
  signature_stays n g l go None is h = absurd h
  signature_stays n g l go (Some x) is h =
      let here = h.1 in
      ap (signature_shape (shapes_of u)) (signatures.kept g x is)
      ∙ ap₂ (λ ps s. Procedure ps s) (formals_stay n l go x.formals h.0) (number_stays n x.result go here (omega (arith, here, l)))
      ∙ sym (ap (signature_shape (shapes_of t)) is)

  from_parts : (k : ℕ) (e : TypeRef) → k ≤ length es → Stays k → HasParts t.signatures k e → type_shape u e ≡ type_shape t e
  from_parts k (TheType.Array n e) l go h = ap (λ s. Array n s) (number_stays k e go h (omega (arith, h, l)))
  from_parts k (TheType.Open e) l go h = ap (λ s. Open s) (number_stays k e go h (omega (arith, h, l)))
  from_parts k (TheType.Procedure g) l go h = signature_stays k g l go (slice_get t.signatures g) refl h
  from_parts k _ l go h = refl

  stays_to : (n : ℕ) → Stays n
  stays_to zero k e l h = absurd (omega (arith, l))
  stays_to (suc n) k e l h =
      let within = slice_get_within es k e h in
      meant u fs cs new k e (longer.kept k e h)
      ∙ from_parts k e (omega (arith, within)) (λ i f m g. stays_to n i f (omega (arith, l, m)) g) (old.parts k e h)
      ∙ sym (meant t es bs old k e h)

  -- a number means what it meant
  pub number_means : (k : ℕ) → k < length es → shape_of u k ≡ shape_of t k
  number_means k l = let e = there es k l in stays_to (suc k) k e.0 (omega arith) e.1

  -- and so do parameters
  pub formals_mean : (xs : List Formal) → are_before (length es) xs → formals_shape (shapes_of u) xs ≡ formals_shape (shapes_of t) xs
  formals_mean xs h = formals_stay (length es) (omega arith) (stays_to (length es)) xs h

  -- and a type that has a number
  pub type_means : (k : ℕ) (e : TypeRef) → slice_get es k ≡ Some e → type_shape u e ≡ type_shape t e
  type_means k e h = from_parts k e (let l = slice_get_within es k e h in omega (arith, l)) (λ i f m g. stays_to (suc i) i f (omega arith) g) (old.parts k e h)
