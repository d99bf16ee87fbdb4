-- Numbers that are given anew.
use Rattle.std.proofs.Common.{◌≡◌, ℕ, ◌<◌, ◌≤◌, List, [], ◌∷◌, ◌++◌, ◌+◌, length, get_or, Some, None, refl, sym, ap, ◌∙◌, subst, arith}
use Rattle.std.specs.Prelude.{slice_get}
use Rattle.std.specs.List.{between}
use Rattle.std.proofs.lemmas.Option.{slice_get_past, slice_get-get_or}
use Rattle.std.proofs.lemmas.List.{length_push}
use Rattle.std.proofs.lemmas.List.Edits.{between_none, between_more}
use Rattle.ob_types.specs.Table.{Table}
use Rattle.ob_types.specs.declared.types.TypeKind.{TypeKind}
use Rattle.ob_types.specs.declared.types.TypeKind.TheVariants as TheKind
use Rattle.ob_types.specs.declared.tree.Base.TheVariants as TheBase
use Rattle.ob_judge.specs.Texts.{Strings, in_place}
use Rattle.judged_tree.specs.TypeShapes.{shapes_of, shape_of, shape_of_kind, signature_shape}
use Rattle.judged_tree.specs.Plain.{text_place}
use Rattle.table_builder.proofs.Lists.{get_left, get_last}
use Rattle.check_types.specs.declared.table.TypeTable.{TypeTable}
use Rattle.check_procedures.specs.numbers.Numbering.{Numbering, LastsIn, KeepsMeaning}
use Rattle.check_procedures.specs.numbers.Readings.{bases, kinds}
use Rattle.check_procedures.proofs.numbers.Lasting.{meant_past}
use Rattle.check_procedures.proofs.numbers.Keeping.{unused}

-- ---- types

-- a number past the end is that of no result
pub past_end : (t : TypeTable) (k : ℕ) → length t.entries.items ≤ k → (v : Table) → LastsIn t v → shape_of v 5 ≡ shape_of t.types k
past_end t k l v lasts = lasts.nothing ∙ sym (meant_past t k l)

-- the number of no procedure type
pub no_signature : (t : TypeTable) (g : ℕ) → g ≤ 4294967295 → length t.types.signatures ≤ g → (v : Table) → LastsIn t v
    → shape_of_kind v (TheKind.Procedure 4294967295) ≡ shape_of_kind t.types (TheKind.Procedure g)
no_signature t g few l v lasts =
    ap (signature_shape (shapes_of v)) (lasts.missing (omega (arith, few, l)))
    ∙ sym (ap (signature_shape (shapes_of t.types)) (slice_get_past t.types.signatures g l))

-- ---- strings

-- a use by a number is of the string that stands there
one_use : (all : Strings) (k : ℕ) → k < length all → in_place (text_place (slice_get all k)) ≡ between k (k + 1) all
one_use all k l =
    ap (λ o. in_place (text_place o)) (slice_get-get_or all k [] l)
    ∙ sym (between_more all k k [] (omega arith) l ∙ ap (λ us. us ++ get_or all k [] ∷ []) (between_none all k))

module _ (n : Numbering) where
  pub kind_kept : (k j : TypeKind) (a : Strings) → ((v : Table) → LastsIn n.types v → shape_of_kind v j ≡ shape_of_kind n.types.types k)
      → KeepsMeaning kinds n (record { tree = k; made = j; before = a; after = a })
  kind_kept k j a same = unused n kinds k j a refl (λ v all lasts front. same v lasts) (λ v all few. refl)

  pub text_used : (k : ℕ) (characters : List ℕ) (a : Strings) → slice_get n.texts k ≡ Some characters → length a < 4294967295
      → KeepsMeaning bases n (record { tree = TheBase.Text k; made = TheBase.Text (length a); before = a; after = a ++ characters ∷ [] })
  text_used k characters a at few = record {
    added = ap (λ o. a ++ in_place (text_place o)) (sym at);
    few = λ l. let e = length_push a characters in omega (arith, e, few);
    same = λ v all lasts front.
        ap text_place (ap (λ l. slice_get l (length a)) front.is ∙ get_left (a ++ characters ∷ []) front.more (length a) characters (get_last a characters) ∙ sym at);
    in_turn = λ v all many few.
        let e = length_push a characters in
        one_use all (length a) (omega (arith, e, many)) ∙ ap (λ j. between (length a) j all) (sym e);
  }

  pub text_missing : (k : ℕ) (a : Strings) → slice_get n.texts k ≡ None
      → KeepsMeaning bases n (record { tree = TheBase.Text k; made = TheBase.Text 4294967295; before = a; after = a })
  text_missing k a at = unused n bases (TheBase.Text k) (TheBase.Text 4294967295) a (ap (λ o. in_place (text_place o)) at)
      (λ v all lasts front. ap text_place (slice_get_past all 4294967295 front.few ∙ sym at))
      (λ v all few. ap (λ o. in_place (text_place o)) (slice_get_past all 4294967295 few))

  -- the same, where the list and the place are only equal to these
  pub text_counted : (k place : ℕ) (characters item : List ℕ) (a b : Strings) → slice_get n.texts k ≡ Some characters → item ≡ characters → place ≡ length a → place < 4294967295 → b ≡ a ++ item ∷ []
      → KeepsMeaning bases n (record { tree = TheBase.Text k; made = TheBase.Text place; before = a; after = b })
  text_counted k place characters item a b at is here few e =
      subst (λ l. KeepsMeaning bases n (record { tree = TheBase.Text k; made = TheBase.Text place; before = a; after = l })) (sym (e ∙ ap (λ s. a ++ s ∷ []) is))
      (subst (λ m. KeepsMeaning bases n (record { tree = TheBase.Text k; made = TheBase.Text m; before = a; after = a ++ characters ∷ [] })) (sym here)
      (text_used k characters a at (subst (λ m. m < 4294967295) here few)))
