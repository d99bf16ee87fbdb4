-- Types by their numbers, one after the other.
use Rattle.std.proofs.Common.{◌≡◌, ℕ, zero, suc, ◌+◌, ◌<◌, List, [], ◌∷◌, ◌++◌, length, map, take, get_or, Some, refl, sym, ap, ap₂, ◌∙◌, subst, arith}
use Rattle.std.specs.Prelude.{slice_get}
use Rattle.ob_judge.specs.Shapes.{Shape}
use Rattle.judged_tree.specs.TypeShapes.{shape_of}
use Rattle.check_types.specs.declared.types.TypeRef.{TypeRef}
use Rattle.check_types.specs.declared.table.TypeTable.{TypeTable}
use Rattle.check_types.specs.TypeMeaning.{type_shape}
use Rattle.table_builder.specs.Entries.{IsElement}
use Rattle.table_builder.specs.Growing.{Grows}
use Rattle.check_making.specs.Making.{AreNumbered}
use Rattle.check_making.specs.scopes.Numbers.{AreNumbersOf}
use Rattle.check_making.proofs.scopes.Procedures.{number_means, number_still}

numbers_more : (es : List TypeRef) (ns : List ℕ) (ks : List TypeRef) (n : ℕ) (k : TypeRef) → AreNumbersOf es ns ks → slice_get es n ≡ Some k → AreNumbersOf es (ns ++ n ∷ []) (ks ++ k ∷ [])
numbers_more es [] [] n k h e = (e, tt)
numbers_more es (m ∷ ns) (j ∷ ks) n k h e = (h.0, numbers_more es ns ks n k h.1 e)
numbers_more es [] (j ∷ ks) n k h e = absurd h
numbers_more es (m ∷ ns) [] n k h e = absurd h

-- the next of a list
take_suc : {A : Type 0} (xs : List A) (i : ℕ) (d : A) → i < length xs → take (suc i) xs ≡ take i xs ++ get_or xs i d ∷ []
take_suc [] i d l = absurd (omega (arith, l))
take_suc (x ∷ xs) zero d l = refl
take_suc (x ∷ xs) (suc i) d l = ap (λ ys. x ∷ ys) (take_suc xs i d (omega (arith, l)))

take_next : {A : Type 0} (xs : List A) (i : ℕ) (d : A) → i < length xs → take (i + 1) xs ≡ take i xs ++ get_or xs i d ∷ []
take_next xs i d l = ap (λ n. take n xs) (up i) ∙ take_suc xs i d l
  where
    up : (i : ℕ) → i + 1 ≡ suc i
    up i = omega arith

pub numbers_next : (es : List TypeRef) (ns : List ℕ) (ks : List TypeRef) (i n : ℕ) (d : TypeRef) → i < length ks → AreNumbersOf es ns (take i ks) → slice_get es n ≡ Some (get_or ks i d) → AreNumbersOf es (ns ++ n ∷ []) (take (i + 1) ks)
numbers_next es ns ks i n d l h e = subst (AreNumbersOf es (ns ++ n ∷ [])) (sym (take_next ks i d l)) (numbers_more es ns (take i ks) n (get_or ks i d) h e)

pub numbered_at : (es ks : List TypeRef) (i : ℕ) (d : TypeRef) → i < length ks → AreNumbered es ks → IsElement es (get_or ks i d)
numbered_at es [] i d l h = absurd (omega (arith, l))
numbered_at es (k ∷ ks) zero d l h = h.0
numbered_at es (k ∷ ks) (suc i) d l h = numbered_at es ks i d (omega (arith, l)) h.1

-- what they mean, there and in a table that grew
module _ (t : TypeTable) where
  pub numbers_mean : (ns : List ℕ) (ks : List TypeRef) → AreNumbersOf t.entries.items ns ks → map (shape_of t.types) ns ≡ map (type_shape t.types) ks
  numbers_mean [] [] h = refl
  numbers_mean (n ∷ ns) (k ∷ ks) h = ap₂ (λ (s : Shape) (ss : List Shape). s ∷ ss) (number_means t n k h.0) (numbers_mean ns ks h.1)
  numbers_mean [] (k ∷ ks) h = absurd h
  numbers_mean (n ∷ ns) [] h = absurd h

  pub numbers_still : (u : TypeTable) → Grows t u → (ns : List ℕ) (ks : List TypeRef) → AreNumbersOf t.entries.items ns ks → map (shape_of u.types) ns ≡ map (shape_of t.types) ns
  numbers_still u g [] [] h = refl
  numbers_still u g (n ∷ ns) (k ∷ ks) h = ap₂ (λ (s : Shape) (ss : List Shape). s ∷ ss) (number_still t u g n k h.0) (numbers_still u g ns ks h.1)
  numbers_still u g [] (k ∷ ks) h = absurd h
  numbers_still u g (n ∷ ns) [] h = absurd h
