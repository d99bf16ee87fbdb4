-- Pointer types, part after part.
use Rattle.std.proofs.Common.{◌≡◌, ℕ, Option, Some, None, refl, sym, ap, ◌∙◌}
use Rattle.std.specs.Prelude.{slice_set}
use Rattle.ob_types.specs.Table.{Table}
use Rattle.ob_syntax.specs.Syntax as S
use Rattle.ob_judge.specs.Judged.{Judged, Keeps, Breaks, ◌>>=◌, some}
use Rattle.ob_judge.specs.Shapes.{Shape, Pointer}
use Rattle.ob_judge.specs.Scopes.{Source}
use Rattle.ob_judge.specs.Making.{Making, Part, ◌>>>◌, here, with_known, later, set_base}
use Rattle.ob_judge.specs.Types.{place_of_type, record_only, forward_name}
use Rattle.check_types.specs.declared.types.TypeRef.{TypeRef}
use Rattle.check_types.specs.declared.types.TypeRef.TheVariants as TheType
use Rattle.check_types.specs.TypeMeaning.{type_shape}
use Rattle.check_making.proofs.parameters.Answering.{then_then}
use Rattle.check_making.specs.new_types.Pointers.{waits, points_to}
use Rattle.judged_modules.proofs.steps.Laws.{then_same as alike}

pub no_record : (t : Table) (of : TypeRef) → ((r : ℕ) → of ≡ TheType.Record r → ⊥) → record_only (type_shape t of) ≡ None
no_record t (TheType.Record r) h = absurd (h r refl)
no_record t TheType.Int h = refl
no_record t TheType.Bool h = refl
no_record t TheType.Char h = refl
no_record t TheType.Byte h = refl
no_record t TheType.Set h = refl
no_record t TheType.Nil h = refl
no_record t TheType.Nothing h = refl
no_record t (TheType.Text n) h = refl
no_record t (TheType.Array n e) h = refl
no_record t (TheType.Open e) h = refl
no_record t (TheType.Pointer p) h = refl
no_record t (TheType.Procedure g) h = refl

-- a pointer type once its number is known, by whether its base comes later
module _ (p : Source) (n : ℕ) (base : S.TypeTree) where
  abbrev set_to : ℕ × Making → Judged (Unit {0} × Making)
  set_to q = Keeps (tt, with_known (λ x. record x { bases = slice_set x.bases n (Some q.0) }) q.1)

  abbrev as_pointer : Unit {0} × Making → Judged (Shape × Making)
  as_pointer q = Keeps (Pointer n, q.1)

  abbrev pointed_at : ℕ × Making → Judged (Shape × Making)
  pointed_at q = Keeps (Pointer n, with_known (λ x. record x { bases = slice_set x.bases n (Some q.0) }) q.1)

  abbrev looked : Making → Option ℕ → Judged (ℕ × Making)
  looked k o = some 31 (place_of_type p base) o >>= λ r. Keeps (r, k)

  abbrev to_record : Shape × Making → Judged (Unit {0} × Making)
  to_record z = looked z.1 (record_only z.0) >>= set_to

  by_record : (k : Making) (o : Option ℕ) → ((looked k o >>= set_to) >>= as_pointer) ≡ (looked k o >>= pointed_at)
  by_record k (Some r) = refl
  by_record k None = refl

  module _ (judged : Part Shape) (m : Making) where
    abbrev by_name : Option ℕ → Judged (Shape × Making)
    by_name o = elim o as (λ _. Judged (Unit {0} × Making)) [
      | Some name ↦ later n name m
      | None ↦ (judged >>> λ t. here (λ w. some 31 (place_of_type p base) (record_only t)) >>> λ r. set_base n r) m
    ] >>= as_pointer

    pub pointer_waits : (name : ℕ) → forward_name p m base ≡ Some name → by_name (forward_name p m base) ≡ waits n name m
    pointer_waits name e = ap by_name e

    pub pointer_points : forward_name p m base ≡ None → by_name (forward_name p m base) ≡ (judged m >>= λ z. points_to p n base z.0 z.1)
    pointer_points e = ap by_name e ∙ sym (then_then (judged m) to_record as_pointer) ∙ alike (judged m) _ _ (λ z. by_record z.1 (record_only z.0))

  pub points_none : (t : Shape) (m : Making) → record_only t ≡ None → points_to p n base t m ≡ Breaks 31 (place_of_type p base)
  points_none t m e = ap (λ o. looked m o >>= pointed_at) e
