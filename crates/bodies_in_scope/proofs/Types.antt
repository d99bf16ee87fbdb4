-- Types judged leave all as it was but what is known of types, and the pointer types whose base comes later.
use Rattle.std.proofs.Common.{◌≡◌, ℕ, List, [], ◌∷◌, ◌++◌, length, false, not, Option, Some, None, refl, ap, sym, ◌∙◌}
use Rattle.std.specs.Prelude.{is_none, nat_le, slice_set}
use Rattle.ob_syntax.specs.Syntax as S
use Rattle.ob_syntax.specs.declared.names.Identdef.{Identdef}
use Rattle.ob_types.specs.Trees.{rounded_extent}
use Rattle.ob_judge.specs.Judged.{Judged, Keeps, Breaks, ◌>>=◌, rule, some}
use Rattle.ob_judge.specs.Shapes.{Shape, Record, Pointer, Procedure, Layout, Known}
use Rattle.ob_judge.specs.Scopes.{Source, place, spelled}
use Rattle.ob_judge.specs.Making.{Making, Part, ◌>>>◌, here, is_among, with_known, no_layout, set_base, later, aside}
use Rattle.ob_judge.specs.Parameters.{stand, type_at, formal_part, idents_list}
use Rattle.ob_judge.specs.Types.{limit, array_length, array_lengths, arrays, base_layout, record_only, stand_fields, add_fields, among_fields, forward_name, type_part, fields_part, more_part, place_of_type}
use Rattle.judged_well.specs.Gives.{Gives}
use Rattle.judged_well.proofs.Judging.{keeps, breaks, weaken, and_then, anything}

abbrev pub typed : Making → Known → List (ℕ × ℕ) → Making
typed s k fs = record s { world = record s.world { known = k }; forward = fs }

-- only what is known of types is other, and the pointer types whose base comes later
pub record OnlyTypes (s t : Making) : Type 0 where
  pub is : t ≡ typed s t.world.known t.forward

-- and the names that stand
record OnlyFields (s t : Making) : Type 0 where
  is : t ≡ record (typed s t.world.known t.forward) { standing = t.standing }

types_on : (s t u : Making) → OnlyTypes s t → OnlyTypes t u → OnlyTypes s u
types_on s t u g h = record { is = h.is ∙ ap (λ x. typed x u.world.known u.forward) g.is }

fields_on : (s t u : Making) → OnlyFields s t → OnlyFields t u → OnlyFields s u
fields_on s t u g h = record { is = h.is ∙ ap (λ x. record (typed x u.world.known u.forward) { standing = u.standing }) g.is }

as_fields : (s t : Making) → OnlyTypes s t → OnlyFields s t
as_fields s t h = record { is = h.is ∙ ap (λ ns. record (typed s t.world.known t.forward) { standing = ns }) (sym (ap (λ x. x.standing) h.is)) }

abbrev pub TypesTo : {A : Type 0} → Making → A × Making → Type 0
TypesTo s r = OnlyTypes s r.1

abbrev FieldsTo : {A : Type 0} → Making → A × Making → Type 0
FieldsTo s r = OnlyFields s r.1

t_next : {A B : Type 0} {s : Making} {m : Judged (A × Making)} {f : A × Making → Judged (B × Making)} → Gives (TypesTo s) m → ((r : A × Making) → Gives (TypesTo r.1) (f r)) → Gives (TypesTo s) (m >>= f)
t_next {s = s} g next = and_then g (λ r h. weaken (next r) (λ q k. types_on s r.1 q.1 h k))

t_from : {A : Type 0} {m : Judged (A × Making)} (s u : Making) → OnlyTypes s u → Gives (TypesTo u) m → Gives (TypesTo s) m
t_from s u h g = weaken g (λ q k. types_on s u q.1 h k)

t_look : {A : Type 0} (m : Judged A) (s : Making) → Gives (TypesTo s) (m >>= λ a. Keeps (a, s))
t_look (Keeps a) s = keeps (TypesTo s) (a, s) (record { is = refl })
t_look (Breaks n at) s = breaks (TypesTo s) n at

f_next : {A B : Type 0} {s : Making} {m : Judged (A × Making)} {f : A × Making → Judged (B × Making)} → Gives (FieldsTo s) m → ((r : A × Making) → Gives (FieldsTo r.1) (f r)) → Gives (FieldsTo s) (m >>= f)
f_next {s = s} g next = and_then g (λ r h. weaken (next r) (λ q k. fields_on s r.1 q.1 h k))

f_from : {A : Type 0} {m : Judged (A × Making)} (s u : Making) → OnlyFields s u → Gives (FieldsTo u) m → Gives (FieldsTo s) m
f_from s u h g = weaken g (λ q k. fields_on s u q.1 h k)

f_types : {A : Type 0} {s : Making} {m : Judged (A × Making)} → Gives (TypesTo s) m → Gives (FieldsTo s) m
f_types {s = s} g = weaken g (λ r h. as_fields s r.1 h)

f_look : {A : Type 0} (m : Judged A) (s : Making) → Gives (FieldsTo s) (m >>= λ a. Keeps (a, s))
f_look m s = f_types (t_look m s)

module _ (p : Source) where
  f_stand : (xs : List ℕ) (s : Making) → Gives (FieldsTo s) (stand p xs s)
  f_stand [] s = keeps (FieldsTo s) (tt, s) (record { is = refl })
  f_stand (i ∷ is) s = f_next (f_look (rule 36 (place p i) (not (is_among (spelled p i) s.standing))) s) (λ r.
      f_from r.1 (record r.1 { standing = spelled p i ∷ r.1.standing }) (record { is = refl }) (f_stand is (record r.1 { standing = spelled p i ∷ r.1.standing })))

  f_stand_fields : (xs : List Identdef) (g : Layout) (s : Making) → Gives (FieldsTo s) (stand_fields p xs g s)
  f_stand_fields [] g s = keeps (FieldsTo s) (tt, s) (record { is = refl })
  f_stand_fields (x ∷ xs) g s = f_next (f_look (rule 36 (place p x.name) (is_none (g.fields (spelled p x.name)))) s) (λ r. f_next (f_stand (x.name ∷ []) r.1) (λ q. f_stand_fields xs g q.1))

  t_among : {A : Type 0} (m : Part A) (s : Making) → Gives (FieldsTo (record s { standing = [] })) (m (record s { standing = [] })) → Gives (TypesTo s) (among_fields m s)
  t_among m s g = and_then g (λ r h. keeps (TypesTo s) (r.0, record r.1 { standing = s.standing }) (record { is = ap {A = Making} {B = Making} (λ x. record x { standing = s.standing }) h.is }))

  t_aside : {A : Type 0} (m : Part A) (s : Making) → Gives (TypesTo s) (aside m s)
  t_aside m s = and_then (anything (m (record s { standing = [] }))) (λ r h. keeps (TypesTo s) (r.0, s) (record { is = refl }))

  abbrev with_record : Making → Making
  with_record s = with_known (λ k. record k { records = k.records ++ no_layout ∷ [] }) s

  abbrev with_pointer : Making → Making
  with_pointer s = with_known (λ k. record k { bases = k.bases ++ None ∷ [] }) s

  t_pointed : (s : Making) (base : S.TypeTree) (judged : Part Shape) (o : Option ℕ) → Gives (TypesTo (with_pointer s)) (judged (with_pointer s))
      → Gives (TypesTo s) (elim o as (λ _. Judged (Unit {0} × Making)) [
        | Some name ↦ later (length s.world.known.bases) name (with_pointer s)
        | None ↦ (judged >>> λ t. here (λ w. some 31 (place_of_type p base) (record_only t)) >>> λ r. set_base (length s.world.known.bases) r) (with_pointer s)
      ])
  t_pointed s base judged (Some name) g = keeps (TypesTo s) (tt, record (with_pointer s) { forward = s.forward ++ (length s.world.known.bases, name) ∷ [] }) (record { is = refl })
  t_pointed s base judged None g = t_from s (with_pointer s) (record { is = refl }) (t_next g (λ t. t_next (t_look (some 31 (place_of_type p base) (record_only t.0)) t.1) (λ r.
      keeps (TypesTo r.1) (tt, with_known (λ k. record k { bases = slice_set k.bases (length s.world.known.bases) (Some r.0) }) r.1) (record { is = refl }))))

  mutual
    pub t_type : (x : S.TypeTree) (s : Making) → Gives (TypesTo s) (type_part p x s)
    t_type (S.Named q) s = t_look (type_at p 31 q s.world) s
    t_type (S.Array i first more j element) s = t_next (t_look (array_length p first s.world) s) (λ n. t_next (t_look (array_lengths p more n.1.world) n.1) (λ ns.
        t_next (t_type element ns.1) (λ a. t_look (arrays (place p i) (n.0 ∷ ns.0) a.0 a.1.world) a.1)))
    t_type (S.Record i base first more j) s =
        let n = length s.world.known.records in
        t_from s (with_record s) (record { is = refl })
        (t_next (t_look (base_layout p base (with_record s).world) (with_record s)) (λ b.
        t_next (t_among (fields_part p n first (record (b.0) { added = [] }) >>> λ g. more_part p n more g) b.1
        (f_next (f_fields n first (record (b.0) { added = [] }) (record (b.1) { standing = [] })) (λ g. f_more n more g.0 g.1))) (λ g.
        t_next (t_look (rule 35 (place p i) (nat_le (g.0).cells limit)) g.1) (λ u.
        keeps (TypesTo u.1) (Record n, with_known (λ k. record k { records = slice_set k.records n (record (g.0) { module_number = u.1.world.module_number; line = n ∷ (g.0).line; extent = rounded_extent (g.0).extent }) }) u.1) (record { is = refl })))))
    t_type (S.Pointer i j base) s = t_next (t_pointed s base (type_part p base) (forward_name p (with_pointer s) base) (t_type base (with_pointer s))) (λ r. keeps (TypesTo r.1) (Pointer (length s.world.known.bases), r.1) (record { is = refl }))
    t_type (S.Procedure i formals) s = t_next (t_aside (formal_part p false formals) s) (λ r. keeps (TypesTo r.1) (Procedure ((r.0).0).formals (r.0).1, r.1) (record { is = refl }))

    f_fields : (n : ℕ) (x : S.MaybeFields) (g : Layout) (s : Making) → Gives (FieldsTo s) (fields_part p n x g s)
    f_fields n S.no_fields g s = keeps (FieldsTo s) (g, s) (record { is = refl })
    f_fields n (S.fields names colon of) g s = f_next (f_stand_fields (idents_list names) g s) (λ u. f_next (f_types (t_type of u.1)) (λ a. keeps (FieldsTo a.1) (add_fields p n a.1.world a.0 (idents_list names) g, a.1) (record { is = refl })))

    f_more : (n : ℕ) (x : S.NextFields) (g : Layout) (s : Making) → Gives (FieldsTo s) (more_part p n x g s)
    f_more n S.no_more_fields g s = keeps (FieldsTo s) (g, s) (record { is = refl })
    f_more n (S.next_fields semicolon one rest) g s = f_next (f_fields n one g s) (λ h. f_more n rest h.0 h.1)
