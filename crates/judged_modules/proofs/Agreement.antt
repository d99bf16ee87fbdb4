-- What the judgement has made at its end agrees with the program as code holds it.
use Rattle.std.proofs.Common.{◌≡◌, ℕ, zero, suc, ◌<◌, List, [], ◌∷◌, ◌++◌, map, length, Bool, true, false, not, ◌||◌, ◌==◌, Option, Some, None, refl, ap, ap₂, sym, ◌∙◌, subst, arith, eqb-true, eq-eqb, filter, cond}
use Rattle.std.specs.Prelude.{slice_get, slice_index_or, nat_lt, nat_eq, is_some, option_map, if◌then◌else◌}
use Rattle.std.proofs.lemmas.Bool.Decides.{nat_tests}
use Rattle.ob_types.specs.declared.types.TypeKind.{TypeKind}
use Rattle.ob_types.specs.declared.types.TypeKind.TheVariants as TheKind
use Rattle.ob_types.specs.declared.types.Mode.{Mode}
use Rattle.ob_types.specs.declared.types.Mode.TheVariants as TheMode
use Rattle.ob_types.specs.declared.types.Field.{Field as FieldOf}
use Rattle.ob_types.specs.declared.types.Formal.{Formal as FormalOf}
use Rattle.ob_types.specs.declared.types.RecordType.{RecordType as RecordOf}
use Rattle.ob_types.specs.declared.program.Procedure.{Procedure as ProcedureOf}
use Rattle.ob_types.specs.declared.program.Program.{Program}
use Rattle.ob_types.specs.Table.{Table}
use Rattle.ob_types.specs.Layout.{record_of, types_of, or_base, extends_within}
use Rattle.ob_types.specs.Layout.{extends as extends_record}
use Rattle.ob_types.specs.Meaning.{procedure_of, locals_of}
use Rattle.ob_types.specs.Meaning.{is_value as is_value_mode}
use Rattle.ob_types.specs.Forms.{types_fine}
use Rattle.ob_types.proofs.Tests.{no, none_some, some_same, and_from}
use Rattle.ob_sound.proofs.Tables.{extends_self, extends_trans}
use Rattle.ob_judge.specs.Shapes.{Shape, one, Added, Layout, contains, line_of, base_of}
use Rattle.ob_judge.specs.Image.{Procedure}
use Rattle.ob_judge.specs.Parameters.{is_value}
use Rattle.ob_judge.specs.Making.{Making}
use Rattle.ob_judge.specs.Modules.{record_form, base_in}
use Rattle.judged_tree.specs.TypeShapes.{shape_of, shapes_of, formals_shape, pointer_bases}
use Rattle.judged_tree.specs.Plain.{plain_field, plain_record, plain_formal, plain_procedure}
use Rattle.judged_tree.specs.Outline.{outlined_procedure}
use Rattle.judged_modules.specs.Final.{final_of}
use Rattle.judged_modules.specs.Agrees.{Agrees, IsProcedure, IsVariable, value_shapes, formals_of, records_of, bases_of}
use Rattle.judged_modules.proofs.Lists.{get_within}
use Rattle.judged_modules.specs.Lines.{AllLines, IsLine, unknown, root, behind}

-- ---- lists that come out the same

pub map_get : {A B : Type 0} (f : A → B) (xs : List A) (n : ℕ) → slice_get (map f xs) n ≡ option_map f (slice_get xs n)
map_get f [] n = refl
map_get f (x ∷ xs) zero = refl
map_get f (x ∷ xs) (suc n) = map_get f xs n

map_long : {A B : Type 0} (f : A → B) (xs : List A) → length (map f xs) ≡ length xs
map_long f [] = refl
map_long f (x ∷ xs) = ap suc (map_long f xs)

pub from_map : {A B : Type 0} (f : A → B) (o : Option A) (b : B) → option_map f o ≡ Some b → (a : A) × (o ≡ Some a) × (f a ≡ b)
from_map f None b h = none_some b h
from_map f (Some a) b h = (a, refl, some_same (f a) b h)

pub two_maps : {A B C : Type 0} (f : A → C) (g : B → C) (xs : List A) (ys : List B) (n : ℕ) (y : B) → map f xs ≡ map g ys → slice_get ys n ≡ Some y → (x : A) × (slice_get xs n ≡ Some x) × (f x ≡ g y)
two_maps f g xs ys n y same at = from_map f (slice_get xs n) (g y) (sym (map_get f xs n) ∙ ap (λ zs. slice_get zs n) same ∙ map_get g ys n ∙ ap (option_map g) at)

pub index_at : {A : Type 0} (xs : List A) (n : ℕ) (x d : A) → slice_get xs n ≡ Some x → slice_index_or xs n d ≡ x
index_at [] n x d h = none_some x h
index_at (y ∷ ys) zero x d h = some_same y x h
index_at (y ∷ ys) (suc n) x d h = index_at ys n x d h

less_test : (n m : ℕ) → n < m → nat_lt n m ≡ true
less_test n m l = grind (arith, nat_tests)

-- ---- parameters and variables

same_value : (m : Mode) → is_value_mode m ≡ is_value m
same_value TheMode.Value = refl
same_value TheMode.Place = refl
same_value TheMode.Record = refl
same_value TheMode.Open = refl

formals_are : (t : Table) (xs : List FormalOf) → formals_shape (shapes_of t) xs ≡ formals_of (map (plain_formal t) xs)
formals_are t [] = refl
formals_are t (x ∷ xs) = ap (λ ps. one x.variable (shape_of t x.type_number) ps) (formals_are t xs)

map_append : {A B : Type 0} (f : A → B) (xs ys : List A) → map f (xs ++ ys) ≡ map f xs ++ map f ys
map_append f [] ys = refl
map_append f (x ∷ xs) ys = ap (λ zs. f x ∷ zs) (map_append f xs ys)

values_are : (t : Table) (xs : List FormalOf) → map (shape_of t) (map (λ x. x.type_number) (filter (λ x. is_value_mode x.mode) xs)) ≡ value_shapes (map (plain_formal t) xs)
values_are t [] = refl
values_are t (x ∷ xs) = by (is_value_mode x.mode) (is_value x.mode) (same_value x.mode) (values_are t xs)
  where
    by : (a b : Bool) → a ≡ b → map (shape_of t) (map (λ y. y.type_number) (filter (λ y. is_value_mode y.mode) xs)) ≡ value_shapes (map (plain_formal t) xs)
        → map (shape_of t) (map (λ y. y.type_number) (cond a (x ∷ filter (λ y. is_value_mode y.mode) xs) (filter (λ y. is_value_mode y.mode) xs))) ≡ (if b then (shape_of t x.type_number ∷ value_shapes (map (plain_formal t) xs)) else value_shapes (map (plain_formal t) xs))
    by true true e h = ap (λ zs. shape_of t x.type_number ∷ zs) h
    by false false e h = h
    by true false e h = no (sym e)
    by false true e h = no e

-- ---- pointer types

bases_there : (ks : List TypeKind) (n : ℕ) → n < length (pointer_bases ks) → is_some (base_of (slice_get (pointer_bases ks) n)) ≡ true
bases_there [] n l = absurd (omega (arith, l))
bases_there (TheKind.Pointer r ∷ ks) zero l = refl
bases_there (TheKind.Pointer r ∷ ks) (suc n) l = bases_there ks n (omega (arith, l))
bases_there (TheKind.Int ∷ ks) n l = bases_there ks n l
bases_there (_ ∷ ks) n l = bases_there ks n l

-- the end of the judgement, beside a program as code holds it
pub record IsEnd (p : Program) (t : Making) : Type 0 where
  pub records : map (plain_record p.types) p.types.records ≡ map record_form (records_of t)
  pub bases : pointer_bases p.types.kinds ≡ bases_of t
  pub procedures : map (plain_procedure p.types) p.procedures ≡ map (outlined_procedure (bases_of t)) t.procedures
  pub variables : (v : ℕ) (x : Shape) → slice_get t.variables v ≡ Some x → IsVariable (final_of p) t.world.procedure t.world.module_number t.values v x
  pub lines : AllLines (records_of t)

module _ (p : Program) (fine : types_fine p.types ≡ true) (t : Making) (end : IsEnd p t) where
  -- ---- record types

  record_at : (r : ℕ) (l : Layout) → slice_get (records_of t) r ≡ Some l → (y : RecordOf) × (record_of p.types r ≡ y) × (plain_record p.types y ≡ record_form l)
  record_at r l at = let k = two_maps (plain_record p.types) record_form p.types.records (records_of t) r l end.records at in (k.0, index_at p.types.records r k.0 _ k.1, k.2)

  as_many : length p.types.records ≡ length (records_of t)
  as_many = sym (map_long (plain_record p.types) p.types.records) ∙ ap length end.records ∙ map_long record_form (records_of t)

  within_self : (n b : ℕ) → extends_within p.types n b b ≡ true
  within_self zero b = eq-eqb b b refl
  within_self (suc n) b = ap (λ c. c || or_base (record_of p.types b).base (λ a. extends_within p.types n a b)) (eq-eqb b b refl)

  or_second : (a b : Bool) → b ≡ true → (a || b) ≡ true
  or_second true b h = refl
  or_second false b h = h

  one_step : (n a b : ℕ) → 0 < n → (record_of p.types a).base ≡ Some b → extends_within p.types n a b ≡ true
  one_step zero a b l is = absurd (omega (arith, l))
  one_step (suc n) a b l is = or_second (a == b) (or_base (record_of p.types a).base (λ x. extends_within p.types n x b)) (ap (λ o. or_base o (λ x. extends_within p.types n x b)) is ∙ within_self n b)

  -- the base that a line says
  second : (r : ℕ) (line : List ℕ) (b : ℕ) (more : List ℕ) → line ≡ r ∷ b ∷ more → base_in line ≡ Some b
  second r line b more e = ap base_in e

  tail_same : (x y : ℕ) (xs ys : List ℕ) → x ∷ xs ≡ y ∷ ys → (x ≡ y) × (xs ≡ ys)
  tail_same x y xs ys e = (let z = e in cc, let z = e in cc)

  first_of_line : (b : ℕ) (l : Layout) → slice_get (records_of t) b ≡ Some l → (l.line ≡ [] → ⊥) → (more : List ℕ) × (l.line ≡ b ∷ more)
  first_of_line b l at some = elim (end.lines b l at) as (λ _. (more : List ℕ) × (l.line ≡ b ∷ more)) [
    | unknown e ↦ absurd (some e)
    | root e ↦ ([], e)
    | behind c m at_c other e ↦ (m.line, e)
  ]

  many : (a : ℕ) (l : Layout) → slice_get (records_of t) a ≡ Some l → 0 < length p.types.records
  many a l at = let k = get_within (records_of t) a l at in let e = as_many in omega (arith, k, e)

  extends_by : (line : List ℕ) (a b : ℕ) (l : Layout) → slice_get (records_of t) a ≡ Some l → l.line ≡ line → contains b line ≡ true → extends_record p.types a b ≡ true
  extends_by [] a b l at is h = no h
  extends_by (x ∷ rest) a b l at is h = by (end.lines a l at) (λ c m at_c same k. extends_by rest c b m at_c same k)
    where
      here_or : (c : Bool) → nat_eq b x ≡ c → (nat_eq b x || contains b rest) ≡ true → (c ≡ true → extends_record p.types a b ≡ true) → (contains b rest ≡ true → extends_record p.types a b ≡ true) → extends_record p.types a b ≡ true
      here_or true e k f g = f refl
      here_or false e k f g = g (ap (λ c. c || contains b rest) (sym e) ∙ k)

      itself : x ≡ a → nat_eq b x ≡ true → extends_record p.types a b ≡ true
      itself e k = subst (λ y. extends_record p.types a y ≡ true) (sym (eqb-true b x k ∙ e)) (extends_self p.types fine a)

      by : IsLine (records_of t) a l.line → ((c : ℕ) (m : Layout) → slice_get (records_of t) c ≡ Some m → m.line ≡ rest → contains b rest ≡ true → extends_record p.types c b ≡ true) → extends_record p.types a b ≡ true
      by (unknown e) deeper = absurd (let z = sym is ∙ e in cc)
      by (root e) deeper =
          let k = tail_same x a rest [] (sym is ∙ e) in
          here_or (nat_eq b x) refl h (λ i. itself k.0 i) (λ i. no (ap (contains b) (sym k.1) ∙ i))
      by (behind c m at_c some e) deeper =
          let k = tail_same x a rest m.line (sym is ∙ e) in
          let first = first_of_line c m at_c some in
          let y = record_at a l at in
          let base : (record_of p.types a).base ≡ Some c = ap (λ z. z.base) y.1 ∙ ap (λ z. z.base) y.2 ∙ second a l.line c first.0 (e ∙ ap (λ zs. a ∷ zs) first.1) in
          here_or (nat_eq b x) refl h (λ i. itself k.0 i)
          (λ i. extends_trans p.types fine a c b (one_step (length p.types.records) a c (many a l at) base) (deeper c m at_c (sym k.1) i))

  -- ---- fields

  field_by : (fs : List FieldOf) (xs : List Added) (i : ℕ) (x : Added) → map (plain_field p.types) fs ≡ xs → slice_get xs i ≡ Some x → option_map (shape_of p.types) (slice_get (types_of fs) i) ≡ Some x.shape
  field_by fs xs i x same at =
      let k = from_map (plain_field p.types) (slice_get fs i) x (sym (map_get (plain_field p.types) fs i) ∙ ap (λ zs. slice_get zs i) same ∙ at) in
      ap (option_map (shape_of p.types)) (map_get (λ f. f.type_number) fs i ∙ ap (option_map (λ f. f.type_number)) k.1) ∙ ap Some (ap (λ z. z.shape) k.2)

  -- ---- procedures

  procedure_at : (f : ℕ) (q : Procedure) → slice_get t.procedures f ≡ Some q → (r : ProcedureOf) × (slice_get p.procedures f ≡ Some r) × (plain_procedure p.types r ≡ outlined_procedure (bases_of t) q)
  procedure_at f q at = two_maps (plain_procedure p.types) (outlined_procedure (bases_of t)) p.procedures t.procedures f q end.procedures at

  is_procedure : (f : ℕ) (q : Procedure) → slice_get t.procedures f ≡ Some q → IsProcedure (final_of p) f q
  is_procedure f q at =
      let k = procedure_at f q at in
      let r = k.0 in
      let there : procedure_of p f ≡ r = index_at p.procedures f r _ k.1 in
      let formals : map (plain_formal p.types) (procedure_of p f).formals ≡ q.formals = ap (λ z. map (plain_formal p.types) z.formals) there ∙ ap (λ z. z.formals) k.2 in
      let result : shape_of p.types (procedure_of p f).result ≡ q.result = ap (λ z. shape_of p.types z.result) there ∙ ap (λ z. z.result) k.2 in
      let locals : map (shape_of p.types) (procedure_of p f).locals ≡ q.locals = ap (λ z. map (shape_of p.types) z.locals) there ∙ ap (λ z. z.locals) k.2 in
      record {
        heading = λ open_. ap (λ c. if c then Some (formals_shape (shapes_of p.types) (procedure_of p f).formals, shape_of p.types (procedure_of p f).result) else None)
            (and_from (nat_lt f (length p.procedures)) (not (procedure_of p f).is_body) (less_test f (length p.procedures) (get_within p.procedures f r k.1)) (ap (λ z. not z.is_body) there ∙ ap (λ z. not z.is_body) k.2 ∙ ap not open_))
            ∙ ap₂ (λ a b. Some (a, b)) (formals_are p.types (procedure_of p f).formals ∙ ap formals_of formals) result;
        parameter = λ n x at_x.
            let y = from_map (plain_formal p.types) (slice_get (procedure_of p f).formals n) x (sym (map_get (plain_formal p.types) (procedure_of p f).formals n) ∙ ap (λ zs. slice_get zs n) formals ∙ at_x) in
            ap (option_map (λ z. (z.variable, shape_of p.types z.type_number))) y.1 ∙ ap (λ z. Some (z.variable, z.shape)) y.2;
        variable = λ v a at_v.
            sym (map_get (shape_of p.types) (locals_of (procedure_of p f)) v)
            ∙ ap (λ zs. slice_get zs v) (map_append (shape_of p.types) (map (λ x. x.type_number) (filter (λ x. is_value_mode x.mode) (procedure_of p f).formals)) (procedure_of p f).locals ∙ ap₂ (λ a b. a ++ b) (values_are p.types (procedure_of p f).formals ∙ ap value_shapes formals) locals)
            ∙ at_v;
      }

  pub agrees_end : Agrees (final_of p) t
  agrees_end = record {
    there = λ r l. less_test r (length p.types.records) (let e = as_many in omega (arith, l, e));
    extends = λ a b h. of_layout a b (slice_get (records_of t) a) refl h;
    field = λ r i l x at i_at. let y = record_at r l at in ap (λ z. option_map (shape_of p.types) (slice_get (types_of z.fields) i)) y.1 ∙ field_by y.0.fields l.added i x (ap (λ z. z.fields) y.2) i_at;
    target = λ n r at. ap (λ bs. base_of (slice_get bs n)) end.bases ∙ ap base_of at;
    pointer = λ n l. bases_there p.types.kinds n (let e = ap length end.bases in omega (arith, l, e));
    procedure = λ f q at made. is_procedure f q at;
    variable = end.variables;
  }
    where
      of_layout : (a b : ℕ) (o : Option Layout) → slice_get (records_of t) a ≡ o → contains b (line_of o) ≡ true → extends_record p.types a b ≡ true
      of_layout a b None at h = no h
      of_layout a b (Some l) at h = extends_by l.line a b l at refl h
