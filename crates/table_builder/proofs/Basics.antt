-- What a builder keeps at its start.
use Rattle.std.proofs.Common.{◌≡◌, ℕ, zero, suc, ◌<◌, List, [], length, Option, Some, None, refl, sym, ap, ap₂, ◌∙◌, subst, arith}
use Rattle.std.specs.Prelude.{slice_get}
use Rattle.std.proofs.lemmas.Option.{slice_get_within}
use Rattle.ob_types.specs.Table.{Table}
use Rattle.ob_types.specs.declared.types.TypeKind.{TypeKind}
use Rattle.ob_types.proofs.Tests.{none_some, some_same}
use Rattle.check_types.specs.declared.types.TypeRef.{TypeRef}
use Rattle.check_types.specs.declared.types.TypeRef.TheVariants as TheType
use Rattle.check_types.specs.declared.table.Layout.{Layout}
use Rattle.table_builder.specs.Entries.{IsElement, element_in}
use Rattle.table_builder.specs.Sound.{IsSound}
use Rattle.table_builder.specs.Index.{Notes, number_in, basic_types, IsIndex}
use Rattle.table_builder.specs.declared.elements.Elements.{Elements}
use Rattle.table_builder.specs.Elements.{itself, elements_of, elements_of_basics, AreCounted}
use Rattle.table_builder.specs.Contents.{Contents, IsConsistent}
use Rattle.table_builder.proofs.Built.{same_contents}

abbrev pub no_notes : Notes
no_notes = record { records = []; pointers = []; procedures = []; arrays = λ q. None; signatures = λ q. None }

basic_at : (e : TypeRef) (n m : ℕ) → slice_get basic_types n ≡ Some e → Some n ≡ Some m → slice_get basic_types m ≡ Some e
basic_at e n m h is = subst (λ k. slice_get basic_types k ≡ Some e) (some_same n m is) h

basic_index : IsIndex no_notes basic_types
basic_index = record { says = says; all = all }
  where
    says : (e : TypeRef) (n : ℕ) → number_in no_notes e ≡ Some n → slice_get basic_types n ≡ Some e
    says TheType.Int n h = basic_at TheType.Int 0 n refl h
    says TheType.Bool n h = basic_at TheType.Bool 1 n refl h
    says TheType.Char n h = basic_at TheType.Char 2 n refl h
    says TheType.Byte n h = basic_at TheType.Byte 3 n refl h
    says TheType.Set n h = basic_at TheType.Set 4 n refl h
    says TheType.Nothing n h = basic_at TheType.Nothing 5 n refl h
    says TheType.Nil n h = none_some n h
    says (TheType.Text m) n h = none_some n h
    says (TheType.Array m e) n h = none_some n h
    says (TheType.Open e) n h = none_some n h
    says (TheType.Record r) n h = none_some n h
    says (TheType.Pointer p) n h = none_some n h
    says (TheType.Procedure g) n h = none_some n h

    one : (f e : TypeRef) (n : ℕ) → number_in no_notes f ≡ Some n → Some f ≡ Some e → number_in no_notes e ≡ Some n
    one f e n is h = ap (number_in no_notes) (sym (some_same f e h)) ∙ is

    all : (e : TypeRef) (n : ℕ) → slice_get basic_types n ≡ Some e → number_in no_notes e ≡ Some n
    all e zero h = one TheType.Int e 0 refl h
    all e (suc zero) h = one TheType.Bool e 1 refl h
    all e (suc (suc zero)) h = one TheType.Char e 2 refl h
    all e (suc (suc (suc zero))) h = one TheType.Byte e 3 refl h
    all e (suc (suc (suc (suc zero)))) h = one TheType.Set e 4 refl h
    all e (suc (suc (suc (suc (suc zero))))) h = one TheType.Nothing e 5 refl h
    all e (suc (suc (suc (suc (suc (suc n)))))) h = none_some e h

basics_counted : AreCounted basic_types elements_of_basics
basics_counted = record { as_many = omega arith; each = each }
  where
    one : (n : ℕ) (f of : TypeRef) → Some f ≡ Some of → elements_of elements_of_basics n f ≡ itself n → Some (itself n) ≡ Some (elements_of elements_of_basics n of)
    one n f of h is = ap (λ x. Some x) (sym is ∙ ap (elements_of elements_of_basics n) (some_same f of h))

    each : (n : ℕ) (of : TypeRef) → slice_get basic_types n ≡ Some of → slice_get elements_of_basics n ≡ Some (elements_of elements_of_basics n of)
    each zero of h = one 0 TheType.Int of h refl
    each (suc zero) of h = one 1 TheType.Bool of h refl
    each (suc (suc zero)) of h = one 2 TheType.Char of h refl
    each (suc (suc (suc zero))) of h = one 3 TheType.Byte of h refl
    each (suc (suc (suc (suc zero)))) of h = one 4 TheType.Set of h refl
    each (suc (suc (suc (suc (suc zero))))) of h = one 5 TheType.Nothing of h refl
    each (suc (suc (suc (suc (suc (suc n)))))) of h = none_some of h

start_built : (ks : List TypeKind) → IsSound (record { kinds = ks; records = []; signatures = [] }) basic_types [] → IsConsistent (record { types = record { kinds = ks; records = []; signatures = [] }; entries = basic_types; bases = []; layouts = []; notes = no_notes; elements = elements_of_basics })
start_built ks sound = record {
  sound = sound;
  index = basic_index;
  signatures = record { says = λ parts g h. none_some g h; all = λ g x h. none_some x h };
  layouts = tt;
  records = refl;
  pointers = refl;
  bases = refl;
  procedures = refl;
  elements = λ n of h a e is g. plain n of h a is;
  counted = basics_counted;
}
  where
    one : (f of : TypeRef) → Some f ≡ Some of → (a : ℕ) → element_in f ≡ None → element_in of ≡ Some a → {A : Type 0} → A
    one f of h a none is = none_some a (sym none ∙ ap element_in (some_same f of h) ∙ is)

    plain : (n : ℕ) (of : TypeRef) → slice_get basic_types n ≡ Some of → (a : ℕ) → element_in of ≡ Some a → {A : Type 0} → A
    plain zero of h a is = one TheType.Int of h a refl is
    plain (suc zero) of h a is = one TheType.Bool of h a refl is
    plain (suc (suc zero)) of h a is = one TheType.Char of h a refl is
    plain (suc (suc (suc zero))) of h a is = one TheType.Byte of h a refl is
    plain (suc (suc (suc (suc zero)))) of h a is = one TheType.Set of h a refl is
    plain (suc (suc (suc (suc (suc zero))))) of h a is = one TheType.Nothing of h a refl is
    plain (suc (suc (suc (suc (suc (suc n)))))) of h a is = none_some of h

pub basics_built : (t : Table) (es : List TypeRef) (bs : List (Option ℕ)) (ls : List Layout) (s : Notes) (xs : List Elements) → IsSound t es bs → t.records ≡ [] → t.signatures ≡ [] → es ≡ basic_types → bs ≡ [] → ls ≡ [] → s ≡ no_notes → xs ≡ elements_of_basics
    → IsConsistent (record { types = t; entries = es; bases = bs; layouts = ls; notes = s; elements = xs })
basics_built t es bs ls s xs sound r g q u v w e =
    let is : t ≡ record { kinds = t.kinds; records = []; signatures = [] } = ap₂ (λ xs ys. record { kinds = t.kinds; records = xs; signatures = ys }) r g in
    subst (λ (ys : List Elements). IsConsistent (record { types = t; entries = es; bases = bs; layouts = ls; notes = s; elements = ys })) (sym e)
    (same_contents (record { types = record { kinds = t.kinds; records = []; signatures = [] }; entries = basic_types; bases = []; layouts = []; notes = no_notes; elements = elements_of_basics })
    (start_built t.kinds (subst (λ z. IsSound z basic_types []) is (subst (λ fs. IsSound t fs []) q (subst (λ cs. IsSound t es cs) u sound)))) t es bs ls s is q u v w)

-- ---- the basic types have their numbers, in any table

module _ (b : Contents) (ok : IsConsistent b) where
  pub integer_element : IsElement b.entries TheType.Int
  integer_element = record { numbered = (0, ok.index.says TheType.Int 0 refl); whole = refl }

  -- no result's type is there
  pub nothing_there : 5 < length b.entries
  nothing_there = slice_get_within b.entries 5 TheType.Nothing (ok.index.says TheType.Nothing 5 refl)
