-- Types judged name pointer types that there are.
use Rattle.std.proofs.Common.{◌≡◌, ℕ, suc, ◌+◌, ◌<◌, ◌≤◌, List, [], ◌∷◌, ◌++◌, length, Bool, true, false, Option, Some, None, refl, subst, arith}
use Rattle.std.specs.Prelude.{slice_get, slice_set, nat_le, is_none, is_some, if◌then◌else◌}
use Rattle.std.specs.Str.{bytes_eq}
use Rattle.ob_types.proofs.Tests.{none_some, some_same}
use Rattle.ob_syntax.specs.Syntax as S
use Rattle.ob_syntax.specs.declared.names.Identdef.{Identdef}
use Rattle.ob_syntax.specs.declared.types.Base.{Base}
use Rattle.ob_types.specs.Trees.{with_part, rounded_extent}
use Rattle.ob_judge.specs.Judged.{Judged, rule, some}
use Rattle.ob_judge.specs.Shapes.{Shape, Array, Record, Pointer, Procedure, Layout, cells, extent}
use Rattle.ob_judge.specs.Shapes.{Field as FieldOf}
use Rattle.ob_judge.specs.Scopes.{World, Source, place, spelled}
use Rattle.ob_judge.specs.Names.{member_symbol}
use Rattle.ob_judge.specs.Making.{Making, Part, ◌>>>◌, here, with_known, no_layout, set_base, later, aside}
use Rattle.ob_judge.specs.Parameters.{type_at, idents_list, formal_part}
use Rattle.ob_judge.specs.Types.{limit, array_length, array_lengths, arrays, base_layout, layout_of, record_only, stand_fields, add_field, add_fields, among_fields, forward_name, type_part, fields_part, more_part, place_of_type}
use Rattle.judged_well.specs.Gives.{Gives}
use Rattle.judged_well.proofs.Judging.{keeps, and_then, anything, by_some, by_rule}
use Rattle.judged_modules.specs.Agrees.{records_of, bases_of}
use Rattle.judged_modules.proofs.Lists.{set_length, append_length}
use Rattle.judged_modules.proofs.TypesGrow.{with_record, with_pointer}
use Rattle.judged_outlines.specs.Among.{PointsAmong, FieldsAmong}
use Rattle.judged_outlines.proofs.Reach.{fields_later, world_later}
use Rattle.judged_outlines.proofs.Named.{a_type_named}
use Rattle.judged_outlines.proofs.Parts.{pointer_count, AmongIn, LeavesAmong, Any, d_next, d_look, d_pass, d_give, d_from, d_stand, each_appended, each_set}
use Rattle.judged_outlines.proofs.Parameters.{FormalsAmong, formals_aside}

-- a type of pointer types that there are
abbrev pub ShapeAmong : Shape → Making → Type 0
ShapeAmong a t = PointsAmong (pointer_count t) a

-- a record type in the making
abbrev LayoutAmong : Layout → Making → Type 0
LayoutAmong l t = FieldsAmong (pointer_count t) l

no_fields_among : (n : ℕ) → FieldsAmong n no_layout
no_fields_among n q f at = none_some f at

among_with_record : (s : Making) → AmongIn s → AmongIn (with_record s)
among_with_record s among = record { names = among.names; members = among.members; fields = each_appended (FieldsAmong (pointer_count s)) (records_of s) no_layout among.fields (no_fields_among (pointer_count s)); narrowed = among.narrowed }

among_set_record : (s : Making) (n : ℕ) (l : Layout) → FieldsAmong (pointer_count s) l → AmongIn s → AmongIn (with_known (λ k. record k { records = slice_set k.records n l }) s)
among_set_record s n l h among = record { names = among.names; members = among.members; fields = each_set (FieldsAmong (pointer_count s)) (records_of s) n l among.fields h; narrowed = among.narrowed }

one_pointer : (s : Making) → pointer_count (with_pointer s) ≡ suc (pointer_count s)
one_pointer s = let h = append_length (bases_of s) (None ∷ []) in omega (arith, h)

-- with other bases, as many at least
pub among_with_bases : (s : Making) (bases : List (Option ℕ)) → pointer_count s ≤ length bases → AmongIn s → AmongIn (with_known (λ k. record k { bases = bases }) s)
among_with_bases s bases more among = let h = world_later (pointer_count s) (length bases) more s.world among in record { names = h.names; members = h.members; fields = h.fields; narrowed = h.narrowed }

module _ (p : Source) where
  arrays_among : (at : ℕ) (ns : List ℕ) (a : Shape) (v : World) (n : ℕ) → PointsAmong n a → Gives (PointsAmong n) (arrays at ns a v)
  arrays_among at [] a v n h = keeps (PointsAmong n) a h
  arrays_among at (k ∷ ks) a v n h = and_then (arrays_among at ks a v n h) (λ inner g. by_rule 35 at (nat_le (cells v.known (Array k inner)) limit) (λ it. keeps (PointsAmong n) (Array k inner) g))

  -- ---- record types

  layout_among : (s : Making) → AmongIn s → (o : Option Layout) (r : ℕ) → slice_get (records_of s) r ≡ o → FieldsAmong (pointer_count s) (layout_of o)
  layout_among s among None r at = no_fields_among (pointer_count s)
  layout_among s among (Some l) r at = among.fields r l at

  base_among : (b : Option Base) (s : Making) → AmongIn s → Gives (λ l. LayoutAmong l s) (base_layout p b s.world)
  base_among None s among = keeps (λ l. LayoutAmong l s) no_layout (no_fields_among (pointer_count s))
  base_among (Some b) s among = and_then (anything (type_at p 42 b.name s.world)) (λ a z. by_some 42 (place p (b.name).name) (record_only a) (λ r is.
      by_rule 42 (place p (b.name).name) (nat_le (length (layout_of (slice_get (records_of s) r)).line) 15) (λ it.
      keeps (λ l. LayoutAmong l s) (layout_of (slice_get (records_of s) r)) (layout_among s among (slice_get (records_of s) r) r refl))))

  d_stand_fields : (xs : List Identdef) (g : Layout) (s : Making) → AmongIn s → Gives (LeavesAmong Any s) (stand_fields p xs g s)
  d_stand_fields [] g s among = d_give Any tt s among tt
  d_stand_fields (x ∷ xs) g s among = d_next (d_pass (rule 36 (place p x.name) (is_none (g.fields (spelled p x.name)))) s among) (λ r h. d_next (d_stand p (x.name ∷ []) r.1 h.among) (λ q k. d_stand_fields xs g q.1 k.among))

  added : (n : ℕ) (name : List ℕ) (f : FieldOf) (fields : List ℕ → Option FieldOf) → PointsAmong n f.shape → ((q : List ℕ) (y : FieldOf) → fields q ≡ Some y → PointsAmong n y.shape)
      → (q : List ℕ) (y : FieldOf) → add_field name f fields q ≡ Some y → PointsAmong n y.shape
  added n name f fields h all q y at = by (bytes_eq name q) at
    where
      by : (b : Bool) → (if b then Some f else fields q) ≡ Some y → PointsAmong n y.shape
      by true i = subst (λ z. PointsAmong n z.shape) (some_same f y i) h
      by false i = all q y i

  fields_among : (n r : ℕ) (v : World) (a : Shape) → PointsAmong n a → (xs : List Identdef) (g : Layout) → FieldsAmong n g → FieldsAmong n (add_fields p r v a xs g)
  fields_among n r v a h [] g k = k
  fields_among n r v a h (x ∷ xs) g k = fields_among n r v a h xs (record {
    module_number = g.module_number;
    line = g.line;
    added = g.added ++ record { name = spelled p x.name; exported = is_some x.star; shape = a } ∷ [];
    fields = add_field (spelled p x.name) (record { adder = r; number = length g.added; shape = a; exported = is_some x.star; owner = v.module_number }) g.fields;
    cells = g.cells + cells v.known a;
    extent = with_part g.extent (extent v.known a);
  }) (added n (spelled p x.name) (record { adder = r; number = length g.added; shape = a; exported = is_some x.star; owner = v.module_number }) g.fields h k)

  among_within : {A : Type 0} (Q : A → Making → Type 0) (m : Part A) (s : Making) → ((a : A) (t : Making) → Q a t → Q a (record t { standing = s.standing }))
      → Gives (LeavesAmong Q (record s { standing = [] })) (m (record s { standing = [] })) → Gives (LeavesAmong Q s) (among_fields m s)
  among_within Q m s as_well g = and_then g (λ r h. keeps (LeavesAmong Q s) (r.0, record (r.1) { standing = s.standing }) (record { more = h.more; among = h.among; gives = as_well r.0 r.1 h.gives }))

  -- ---- pointer types

  abbrev IsPointer : Making → Unit {0} → Making → Type 0
  IsPointer s u t = pointer_count s < pointer_count t

  d_pointed : (s : Making) (base : S.TypeTree) (judged : Part Shape) (o : Option ℕ) → AmongIn s → Gives (LeavesAmong ShapeAmong (with_pointer s)) (judged (with_pointer s))
      → Gives (LeavesAmong (IsPointer s) s) (elim o as (λ _. Judged (Unit {0} × Making)) [
        | Some name ↦ later (length (bases_of s)) name (with_pointer s)
        | None ↦ (judged >>> λ t. here (λ v. some 31 (place_of_type p base) (record_only t)) >>> λ r. set_base (length (bases_of s)) r) (with_pointer s)
      ])
  d_pointed s base judged (Some name) among g =
      let e = one_pointer s in
      let a = among_with_bases s (bases_of s ++ None ∷ []) (omega (arith, e)) among in
      keeps (LeavesAmong (IsPointer s) s) (tt, record (with_pointer s) { forward = s.forward ++ (length (bases_of s), name) ∷ [] }) (record {
        more = omega (arith, e);
        among = record { names = a.names; members = a.members; fields = a.fields; narrowed = a.narrowed };
        gives = omega (arith, e);
      })
  d_pointed s base judged None among g = and_then g (λ t h. and_then (d_pass (some 31 (place_of_type p base) (record_only t.0)) t.1 h.among) (λ r k.
      let e = one_pointer s in
      let l = set_length (bases_of r.1) (length (bases_of s)) (Some r.0) in
      let a = h.more in
      let b = k.more in
      keeps (LeavesAmong (IsPointer s) s) (tt, with_known (λ x. record x { bases = slice_set x.bases (length (bases_of s)) (Some r.0) }) r.1) (record {
        more = omega (arith, e, l, a, b);
        among = among_with_bases r.1 (slice_set (bases_of r.1) (length (bases_of s)) (Some r.0)) (omega (arith, l)) k.among;
        gives = omega (arith, e, l, a, b);
      })))

  d_aside : (x : Option S.Formals) (s : Making) → AmongIn s → Gives (LeavesAmong FormalsAmong s) (aside (formal_part p false x) s)
  d_aside x s among = and_then (formals_aside p x s among) (λ r h. keeps (LeavesAmong FormalsAmong s) (r.0, s) (record { more = omega arith; among = among; gives = h }))

  mutual
    pub d_type : (x : S.TypeTree) (s : Making) → AmongIn s → Gives (LeavesAmong ShapeAmong s) (type_part p x s)
    d_type (S.Named q) s among = d_look ShapeAmong (type_at p 31 q s.world) s among (a_type_named (pointer_count s) p s.world among 31 q.name (member_symbol q.member))
    d_type (S.Array i first more j element) s among =
        d_next (d_pass (array_length p first s.world) s among) (λ n hn.
        d_next (d_pass (array_lengths p more (n.1).world) n.1 hn.among) (λ ns hs.
        d_next (d_type element ns.1 hs.among) (λ a ha.
        d_look ShapeAmong (arrays (place p i) (n.0 ∷ ns.0) a.0 (a.1).world) a.1 ha.among (arrays_among (place p i) (n.0 ∷ ns.0) a.0 (a.1).world (pointer_count a.1) ha.gives))))
    d_type (S.Record i base first more j) s among =
        let n = length (records_of s) in
        let s1 = with_record s in
        d_from s s1 (omega arith) (d_next (d_look LayoutAmong (base_layout p base s1.world) s1 (among_with_record s among) (base_among base s1 (among_with_record s among))) (λ b hb.
        d_next (among_within LayoutAmong (fields_part p n first (record (b.0) { added = [] }) >>> λ g. more_part p n more g) b.1 (λ a t k. k)
        (d_next (d_fields n first (record (b.0) { added = [] }) (record (b.1) { standing = [] }) hb.among hb.gives) (λ g hg. d_more n more g.0 g.1 hg.among hg.gives))) (λ g hg.
        d_next (d_pass (rule 35 (place p i) (nat_le (g.0).cells limit)) g.1 hg.among) (λ u hu.
        let l : Layout = record (g.0) { module_number = (u.1).world.module_number; line = n ∷ (g.0).line; extent = rounded_extent (g.0).extent } in
        keeps (LeavesAmong ShapeAmong u.1) (Record n, with_known (λ k. record k { records = slice_set k.records n l }) u.1) (record {
          more = omega arith;
          among = among_set_record u.1 n l (fields_later (pointer_count g.1) (pointer_count u.1) hu.more g.0 hg.gives) hu.among;
          gives = tt;
        })))))
    d_type (S.Pointer i j base) s among = d_next (d_pointed s base (type_part p base) (forward_name p (with_pointer s) base) among (d_type base (with_pointer s) (among_with_bases s (bases_of s ++ None ∷ []) (let e = one_pointer s in omega (arith, e)) among))) (λ r h.
        d_give ShapeAmong (Pointer (length (bases_of s))) r.1 h.among h.gives)
    d_type (S.Procedure i formals) s among = d_next (d_aside formals s among) (λ r h. d_give ShapeAmong (Procedure ((r.0).0).formals (r.0).1) r.1 h.among h.gives)

    d_fields : (n : ℕ) (x : S.MaybeFields) (g : Layout) (s : Making) → AmongIn s → LayoutAmong g s → Gives (LeavesAmong LayoutAmong s) (fields_part p n x g s)
    d_fields n S.no_fields g s among h = d_give LayoutAmong g s among h
    d_fields n (S.fields names colon of) g s among h = d_next (d_stand_fields (idents_list names) g s among) (λ u hu. d_next (d_type of u.1 hu.among) (λ a ha.
        d_give LayoutAmong (add_fields p n (a.1).world a.0 (idents_list names) g) a.1 ha.among
        (fields_among (pointer_count a.1) n (a.1).world a.0 ha.gives (idents_list names) g (fields_later (pointer_count u.1) (pointer_count a.1) ha.more g (fields_later (pointer_count s) (pointer_count u.1) hu.more g h)))))

    d_more : (n : ℕ) (x : S.NextFields) (g : Layout) (s : Making) → AmongIn s → LayoutAmong g s → Gives (LeavesAmong LayoutAmong s) (more_part p n x g s)
    d_more n S.no_more_fields g s among h = d_give LayoutAmong g s among h
    d_more n (S.next_fields semicolon one rest) g s among h = d_next (d_fields n one g s among h) (λ q k. d_more n rest q.0 q.1 k.among k.gives)
