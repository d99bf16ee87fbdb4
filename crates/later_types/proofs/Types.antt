-- Types judged name record types that there are.
use Rattle.std.proofs.Common.{◌≡◌, ℕ, suc, ◌+◌, ◌≤◌, List, [], ◌∷◌, ◌++◌, length, Bool, true, false, Option, Some, None, refl, subst, arith}
use Rattle.std.specs.Prelude.{slice_get, slice_set, nat_le, is_none, is_some, if◌then◌else◌}
use Rattle.std.specs.Str.{bytes_eq}
use Rattle.ob_types.proofs.Tests.{none_some, some_same}
use Rattle.ob_syntax.specs.Syntax as S
use Rattle.ob_syntax.specs.declared.names.Identdef.{Identdef}
use Rattle.ob_syntax.specs.declared.types.Base.{Base}
use Rattle.ob_types.specs.Trees.{with_part, rounded_extent}
use Rattle.ob_judge.specs.Judged.{Judged, rule, some}
use Rattle.ob_judge.specs.Shapes.{Shape, Array, Record, Pointer, Procedure, Layout, cells, extent}
use Rattle.ob_judge.specs.Shapes.{Field as FieldOf}
use Rattle.ob_judge.specs.Scopes.{World, Source, place, spelled}
use Rattle.ob_judge.specs.Names.{member_symbol}
use Rattle.ob_judge.specs.Making.{Making, Part, ◌>>>◌, here, with_known, no_layout, set_base, later, aside}
use Rattle.ob_judge.specs.Parameters.{type_at, idents_list, formal_part}
use Rattle.ob_judge.specs.Types.{limit, array_length, array_lengths, arrays, base_layout, layout_of, record_only, stand_fields, add_field, add_fields, among_fields, forward_name, type_part, fields_part, more_part, place_of_type}
use Rattle.judged_well.specs.Gives.{Gives}
use Rattle.judged_well.proofs.Judging.{keeps, and_then, anything, by_some, by_rule}
use Rattle.judged_modules.specs.Agrees.{records_of, bases_of}
use Rattle.judged_modules.proofs.Lists.{set_length, append_length}
use Rattle.judged_modules.proofs.TypesGrow.{with_record, with_pointer}
use Rattle.judged_outlines.proofs.Parts.{each_appended, each_set}
use Rattle.later_types.specs.Records.{RecordsAmong, FieldsRecords}
use Rattle.later_types.specs.Later.{Below}
use Rattle.later_types.proofs.Scoped.{records_type}
use Rattle.later_types.proofs.Reach.{fields_later, world_later}
use Rattle.later_types.proofs.Parts.{record_count, ScopedIn, Leaves, Any, r_next, r_look, r_pass, r_give, r_from, r_stand}
use Rattle.later_types.proofs.Parameters.{FormalsIn, formals_aside}

-- a type of record types that there are
abbrev pub ShapeIn : Shape → Making → Type 0
ShapeIn a t = RecordsAmong (Below (record_count t)) a

-- a record type in the making
abbrev LayoutIn : Layout → Making → Type 0
LayoutIn l t = FieldsRecords (Below (record_count t)) l

no_fields_scope : (n : ℕ) → FieldsRecords (Below n) no_layout
no_fields_scope n q f at = none_some f at

one_record : (s : Making) → record_count (with_record s) ≡ suc (record_count s)
one_record s = let h = append_length (records_of s) (no_layout ∷ []) in omega (arith, h)

scope_with_record : (s : Making) → ScopedIn s → ScopedIn (with_record s)
scope_with_record s scope =
    let h = world_later (record_count s) (record_count (with_record s)) (let e = one_record s in omega (arith, e)) s.world scope in
    record { names = h.names; members = h.members; fields = each_appended (FieldsRecords (Below (record_count (with_record s)))) (records_of s) no_layout h.fields (no_fields_scope (record_count (with_record s))); narrowed = h.narrowed }

-- a record type is complete
abbrev with_layout : Making → ℕ → Layout → Making
with_layout s n l = with_known (λ k. record k { records = slice_set k.records n l }) s

as_many : (s : Making) (n : ℕ) (l : Layout) → record_count s ≤ record_count (with_layout s n l)
as_many s n l = let e = set_length (records_of s) n l in omega (arith, e)

scope_set_record : (s : Making) (n : ℕ) (l : Layout) → FieldsRecords (Below (record_count s)) l → ScopedIn s → ScopedIn (with_layout s n l)
scope_set_record s n l g scope =
    let h = world_later (record_count s) (record_count (with_layout s n l)) (as_many s n l) s.world scope in
    record { names = h.names; members = h.members; fields = each_set (FieldsRecords (Below (record_count (with_layout s n l)))) (records_of s) n l h.fields (fields_later (record_count s) (record_count (with_layout s n l)) (as_many s n l) l g); narrowed = h.narrowed }

-- with other bases
pub scope_with_bases : (s : Making) (bases : List (Option ℕ)) → ScopedIn s → ScopedIn (with_known (λ k. record k { bases = bases }) s)
scope_with_bases s bases scope = record { names = scope.names; members = scope.members; fields = scope.fields; narrowed = scope.narrowed }

module _ (p : Source) where
  arrays_scope : (at : ℕ) (ns : List ℕ) (a : Shape) (v : World) (n : ℕ) → RecordsAmong (Below n) a → Gives (RecordsAmong (Below n)) (arrays at ns a v)
  arrays_scope at [] a v n h = keeps (RecordsAmong (Below n)) a h
  arrays_scope at (k ∷ ks) a v n h = and_then (arrays_scope at ks a v n h) (λ inner g. by_rule 35 at (nat_le (cells v.known (Array k inner)) limit) (λ it. keeps (RecordsAmong (Below n)) (Array k inner) g))

  -- ---- record types

  layout_scope : (s : Making) → ScopedIn s → (o : Option Layout) (r : ℕ) → slice_get (records_of s) r ≡ o → FieldsRecords (Below (record_count s)) (layout_of o)
  layout_scope s scope None r at = no_fields_scope (record_count s)
  layout_scope s scope (Some l) r at = scope.fields r l at

  base_scope : (b : Option Base) (s : Making) → ScopedIn s → Gives (λ l. LayoutIn l s) (base_layout p b s.world)
  base_scope None s scope = keeps (λ l. LayoutIn l s) no_layout (no_fields_scope (record_count s))
  base_scope (Some b) s scope = and_then (anything (type_at p 42 b.name s.world)) (λ a z. by_some 42 (place p (b.name).name) (record_only a) (λ r is.
      by_rule 42 (place p (b.name).name) (nat_le (length (layout_of (slice_get (records_of s) r)).line) 15) (λ it.
      keeps (λ l. LayoutIn l s) (layout_of (slice_get (records_of s) r)) (layout_scope s scope (slice_get (records_of s) r) r refl))))

  r_stand_fields : (xs : List Identdef) (g : Layout) (s : Making) → ScopedIn s → Gives (Leaves Any s) (stand_fields p xs g s)
  r_stand_fields [] g s scope = r_give Any tt s scope tt
  r_stand_fields (x ∷ xs) g s scope = r_next (r_pass (rule 36 (place p x.name) (is_none (g.fields (spelled p x.name)))) s scope) (λ r h. r_next (r_stand p (x.name ∷ []) r.1 h.scope) (λ q k. r_stand_fields xs g q.1 k.scope))

  added : (n : ℕ) (name : List ℕ) (f : FieldOf) (fields : List ℕ → Option FieldOf) → RecordsAmong (Below n) f.shape → ((q : List ℕ) (y : FieldOf) → fields q ≡ Some y → RecordsAmong (Below n) y.shape)
      → (q : List ℕ) (y : FieldOf) → add_field name f fields q ≡ Some y → RecordsAmong (Below n) y.shape
  added n name f fields h all q y at = by (bytes_eq name q) at
    where
      by : (b : Bool) → (if b then Some f else fields q) ≡ Some y → RecordsAmong (Below n) y.shape
      by true i = subst (λ z. RecordsAmong (Below n) z.shape) (some_same f y i) h
      by false i = all q y i

  fields_scope : (n r : ℕ) (v : World) (a : Shape) → RecordsAmong (Below n) a → (xs : List Identdef) (g : Layout) → FieldsRecords (Below n) g → FieldsRecords (Below n) (add_fields p r v a xs g)
  fields_scope n r v a h [] g k = k
  fields_scope n r v a h (x ∷ xs) g k = fields_scope n r v a h xs (record {
    module_number = g.module_number;
    line = g.line;
    added = g.added ++ record { name = spelled p x.name; exported = is_some x.star; shape = a } ∷ [];
    fields = add_field (spelled p x.name) (record { adder = r; number = length g.added; shape = a; exported = is_some x.star; owner = v.module_number }) g.fields;
    cells = g.cells + cells v.known a;
    extent = with_part g.extent (extent v.known a);
  }) (added n (spelled p x.name) (record { adder = r; number = length g.added; shape = a; exported = is_some x.star; owner = v.module_number }) g.fields h k)

  scope_within : {A : Type 0} (Q : A → Making → Type 0) (m : Part A) (s : Making) → ((a : A) (t : Making) → Q a t → Q a (record t { standing = s.standing }))
      → Gives (Leaves Q (record s { standing = [] })) (m (record s { standing = [] })) → Gives (Leaves Q s) (among_fields m s)
  scope_within Q m s as_well g = and_then g (λ r h. keeps (Leaves Q s) (r.0, record (r.1) { standing = s.standing }) (record { more = h.more; scope = h.scope; gives = as_well r.0 r.1 h.gives }))

  -- ---- pointer types

  r_pointed : (s : Making) (base : S.TypeTree) (judged : Part Shape) (o : Option ℕ) → ScopedIn s → Gives (Leaves ShapeIn (with_pointer s)) (judged (with_pointer s))
      → Gives (Leaves Any s) (elim o as (λ _. Judged (Unit {0} × Making)) [
        | Some name ↦ later (length (bases_of s)) name (with_pointer s)
        | None ↦ (judged >>> λ t. here (λ v. some 31 (place_of_type p base) (record_only t)) >>> λ r. set_base (length (bases_of s)) r) (with_pointer s)
      ])
  r_pointed s base judged (Some name) scope g =
      keeps (Leaves Any s) (tt, record (with_pointer s) { forward = s.forward ++ (length (bases_of s), name) ∷ [] }) (record {
        more = omega arith;
        scope = record { names = scope.names; members = scope.members; fields = scope.fields; narrowed = scope.narrowed };
        gives = tt;
      })
  r_pointed s base judged None scope g = and_then g (λ t h. and_then (r_pass (some 31 (place_of_type p base) (record_only t.0)) t.1 h.scope) (λ r k.
      let a = h.more in
      let b = k.more in
      keeps (Leaves Any s) (tt, with_known (λ x. record x { bases = slice_set x.bases (length (bases_of s)) (Some r.0) }) r.1) (record {
        more = omega (arith, a, b);
        scope = scope_with_bases r.1 (slice_set (bases_of r.1) (length (bases_of s)) (Some r.0)) k.scope;
        gives = tt;
      })))

  r_aside : (x : Option S.Formals) (s : Making) → ScopedIn s → Gives (Leaves FormalsIn s) (aside (formal_part p false x) s)
  r_aside x s scope = and_then (formals_aside p x s scope) (λ r h. keeps (Leaves FormalsIn s) (r.0, s) (record { more = omega arith; scope = scope; gives = h }))

  mutual
    pub r_type : (x : S.TypeTree) (s : Making) → ScopedIn s → Gives (Leaves ShapeIn s) (type_part p x s)
    r_type (S.Named q) s scope = r_look ShapeIn (type_at p 31 q s.world) s scope (records_type (Below (record_count s)) p s.world scope 31 q.name (member_symbol q.member))
    r_type (S.Array i first more j element) s scope =
        r_next (r_pass (array_length p first s.world) s scope) (λ n hn.
        r_next (r_pass (array_lengths p more (n.1).world) n.1 hn.scope) (λ ns hs.
        r_next (r_type element ns.1 hs.scope) (λ a ha.
        r_look ShapeIn (arrays (place p i) (n.0 ∷ ns.0) a.0 (a.1).world) a.1 ha.scope (arrays_scope (place p i) (n.0 ∷ ns.0) a.0 (a.1).world (record_count a.1) ha.gives))))
    r_type (S.Record i base first more j) s scope =
        let n = length (records_of s) in
        let s1 = with_record s in
        r_from s s1 (let e = one_record s in omega (arith, e)) (r_next (r_look LayoutIn (base_layout p base s1.world) s1 (scope_with_record s scope) (base_scope base s1 (scope_with_record s scope))) (λ b hb.
        r_next (scope_within LayoutIn (fields_part p n first (record (b.0) { added = [] }) >>> λ g. more_part p n more g) b.1 (λ a t k. k)
        (r_next (r_fields n first (record (b.0) { added = [] }) (record (b.1) { standing = [] }) hb.scope hb.gives) (λ g hg. r_more n more g.0 g.1 hg.scope hg.gives))) (λ g hg.
        r_next (r_pass (rule 35 (place p i) (nat_le (g.0).cells limit)) g.1 hg.scope) (λ u hu.
        let l : Layout = record (g.0) { module_number = (u.1).world.module_number; line = n ∷ (g.0).line; extent = rounded_extent (g.0).extent } in
        keeps (Leaves ShapeIn u.1) (Record n, with_layout u.1 n l) (record {
          more = as_many u.1 n l;
          scope = scope_set_record u.1 n l (fields_later (record_count g.1) (record_count u.1) hu.more g.0 hg.gives) hu.scope;
          gives = let e = one_record s in let x = hb.more in let y = hg.more in let z = hu.more in let w = as_many u.1 n l in omega (arith, e, x, y, z, w);
        })))))
    r_type (S.Pointer i j base) s scope = r_next (r_pointed s base (type_part p base) (forward_name p (with_pointer s) base) scope (r_type base (with_pointer s) (scope_with_bases s (bases_of s ++ None ∷ []) scope))) (λ r h.
        r_give ShapeIn (Pointer (length (bases_of s))) r.1 h.scope tt)
    r_type (S.Procedure i formals) s scope = r_next (r_aside formals s scope) (λ r h. r_give ShapeIn (Procedure ((r.0).0).formals (r.0).1) r.1 h.scope h.gives)

    r_fields : (n : ℕ) (x : S.MaybeFields) (g : Layout) (s : Making) → ScopedIn s → LayoutIn g s → Gives (Leaves LayoutIn s) (fields_part p n x g s)
    r_fields n S.no_fields g s scope h = r_give LayoutIn g s scope h
    r_fields n (S.fields names colon of) g s scope h = r_next (r_stand_fields (idents_list names) g s scope) (λ u hu. r_next (r_type of u.1 hu.scope) (λ a ha.
        r_give LayoutIn (add_fields p n (a.1).world a.0 (idents_list names) g) a.1 ha.scope
        (fields_scope (record_count a.1) n (a.1).world a.0 ha.gives (idents_list names) g (fields_later (record_count u.1) (record_count a.1) ha.more g (fields_later (record_count s) (record_count u.1) hu.more g h)))))

    r_more : (n : ℕ) (x : S.NextFields) (g : Layout) (s : Making) → ScopedIn s → LayoutIn g s → Gives (Leaves LayoutIn s) (more_part p n x g s)
    r_more n S.no_more_fields g s scope h = r_give LayoutIn g s scope h
    r_more n (S.next_fields semicolon one rest) g s scope h = r_next (r_fields n one g s scope h) (λ q k. r_more n rest q.0 q.1 k.scope k.gives)
