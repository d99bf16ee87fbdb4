-- A procedure type has a signature.
use Rattle.std.proofs.Common.{◌≡◌, ℕ, zero, suc, ◌+◌, ◌<◌, ◌≤◌, List, [], ◌∷◌, ◌++◌, length, map, take, get_or, Some, None, refl, sym, ap, ◌∙◌, arith}
use Rattle.ob_types.specs.Table.{Table}
use Rattle.ob_types.proofs.Tests.{none_some, some_same}
use Rattle.ob_judge.specs.Shapes.{Shape, Procedure, Formals}
use Rattle.ob_judge.specs.Parameters.{Listed}
use Rattle.judged_tree.specs.TypeShapes.{shapes_of, formals_shape}
use Rattle.judged_tree.specs.Tables.{are_before}
use Rattle.judged_tree.specs.Plain.{plain_formal}
use Rattle.check_types.specs.declared.types.TypeRef.{TypeRef}
use Rattle.check_types.specs.declared.types.TypeRef.TheVariants as TheType
use Rattle.check_types.specs.TypeMeaning.{type_shape}
use Rattle.table_builder.specs.Entries.{IsNumbered}
use Rattle.check_making.specs.declared.making.Declaring.{Declaring}
use Rattle.check_making.specs.Making.{table_of}
use Rattle.check_making.specs.declared.parameters.sections.Heading.{Heading}
use Rattle.check_making.specs.parameters.Headings.{IsHeading}
use Rattle.check_making.specs.headings.Signatures.{signature_at}

-- what a heading means
pub heading_meant : (s : Declaring) (h : Heading) → are_before (length s.types.table.entries.items) h.listed.formals → IsNumbered s.types.table.entries.items h.outcome → (x : Listed × Shape) × IsHeading s h x
heading_meant s h before numbered = (
  (record { formals = formals_shape (shapes_of (table_of s)) h.listed.formals; parameters = map (plain_formal (table_of s)) h.listed.formals; words = h.listed.words }, type_shape (table_of s) h.outcome),
  record { listed = record { formals = refl; parameters = refl; words = refl; before = before }; result_is = refl; numbered = numbered },
)

pub signature_is : (k : TypeRef) (g : ℕ) → signature_at k ≡ Some g → k ≡ TheType.Procedure g
signature_is (TheType.Procedure n) g h = ap (λ m. TheType.Procedure m) (some_same n g h)
signature_is _ g h = none_some g h

-- what has the shape of a procedure type has one
pub has_signature : (t : Table) (k : TypeRef) (ps : Formals) (r : Shape) → type_shape t k ≡ Procedure ps r → signature_at k ≡ None → ⊥
has_signature t (TheType.Procedure n) ps r e h = none_some n (sym h)
has_signature t TheType.Int ps r e h = cc
has_signature t TheType.Bool ps r e h = cc
has_signature t TheType.Char ps r e h = cc
has_signature t TheType.Byte ps r e h = cc
has_signature t TheType.Set ps r e h = cc
has_signature t TheType.Nil ps r e h = cc
has_signature t TheType.Nothing ps r e h = cc
has_signature t (TheType.Text n) ps r e h = cc
has_signature t (TheType.Array n a) ps r e h = cc
has_signature t (TheType.Open a) ps r e h = cc
has_signature t (TheType.Record n) ps r e h = cc
has_signature t (TheType.Pointer n) ps r e h = cc

-- the next of a list
take_suc : {A : Type 0} (xs : List A) (i : ℕ) (d : A) → i < length xs → take (suc i) xs ≡ take i xs ++ get_or xs i d ∷ []
take_suc [] i d l = absurd (omega (arith, l))
take_suc (x ∷ xs) zero d l = refl
take_suc (x ∷ xs) (suc i) d l = ap (λ ys. x ∷ ys) (take_suc xs i d (omega (arith, l)))

pub take_next : {A : Type 0} (xs ys : List A) (i : ℕ) (d : A) → i < length xs → ys ≡ take i xs → ys ++ get_or xs i d ∷ [] ≡ take (i + 1) xs
take_next xs ys i d l e = ap (λ zs. zs ++ get_or xs i d ∷ []) e ∙ sym (ap (λ n. take n xs) (up i) ∙ take_suc xs i d l)
  where
    up : (i : ℕ) → i + 1 ≡ suc i
    up i = omega arith

pub take_past : {A : Type 0} (xs : List A) (n : ℕ) → length xs ≤ n → take n xs ≡ xs
take_past [] zero l = refl
take_past [] (suc n) l = refl
take_past (x ∷ xs) zero l = absurd (omega (arith, l))
take_past (x ∷ xs) (suc n) l = ap (λ ys. x ∷ ys) (take_past xs n (omega (arith, l)))
