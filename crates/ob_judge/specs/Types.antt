-- Types judged (Oberon-07 report, section 6): each part when it has been walked, and the whole after its parts.
use Rattle.std.specs.Prelude.{ℕ, ◌+◌, List, [], ◌∷◌, ◌++◌, length, Bool, false, ◌&&◌, if◌then◌else◌, nat_lt, nat_le, Option, Some, None, is_some, is_none, slice_get, ℤ, pos, negsuc}
use Rattle.std.specs.Str.{bytes_eq}
use Rattle.ob_types.specs.Trees.{with_part, rounded_extent}
use Rattle.ob_syntax.specs.Syntax as S
use Rattle.ob_syntax.specs.declared.names.Identdef.{Identdef}
use Rattle.ob_syntax.specs.declared.types.Base.{Base}
use Rattle.ob_judge.specs.Judged.{Judged, Keeps, ◌>>=◌, ◌>>◌, rule, some}
use Rattle.ob_judge.specs.Shapes.{Shape, Array, Record, Pointer, Procedure, Field, Layout, cells, extent}
use Rattle.ob_judge.specs.Scopes.{Object, AType, World, Source, look_up, place, spelled}
use Rattle.ob_judge.specs.Symbols.{expression_first}
use Rattle.ob_judge.specs.Expressions.{constant}
use Rattle.ob_judge.specs.Assignments.{int_only}
use Rattle.ob_judge.specs.Making.{Making, Part, ◌>>>◌, give, here, ask, no_layout, new_record, new_pointer, set_record, set_base, later, aside}
use Rattle.ob_judge.specs.Parameters.{idents_list, stand, type_at, formal_part}

abbrev pub limit : ℕ
limit = 1048576

abbrev pub is_length : ℤ → Bool
is_length (pos n) = nat_lt 0 n && nat_le n limit
is_length (negsuc n) = false

abbrev pub size_of : ℤ → ℕ
size_of (pos n) = n
size_of (negsuc n) = 0

abbrev pub record_only : Shape → Option ℕ
record_only (Record n) = Some n
record_only s = None

abbrev pub layout_of : Option Layout → Layout
layout_of None = no_layout
layout_of (Some l) = l

abbrev pub record_object : Object → Option ℕ
record_object (AType (Record n)) = Some n
record_object o = None

-- the innermost array is the first; 35 at ARRAY where one is too big
abbrev pub arrays : (at : ℕ) → List ℕ → Shape → World → Judged Shape
arrays at [] element w = Keeps element
arrays at (n ∷ ns) element w = do
  inner ← arrays at ns element w
  rule 35 at (nat_le (cells w.known (Array n inner)) limit)
  Keeps (Array n inner)

abbrev pub add_field : List ℕ → Field → (List ℕ → Option Field) → List ℕ → Option Field
add_field name f fields q = if bytes_eq name q then Some f else fields q

-- a part among the names of a record's own fields
abbrev pub among_fields : {A : Type 0} → Part A → Part A
among_fields m s = m (record s { standing = [] }) >>= λ r. Keeps (r.0, record r.1 { standing = s.standing })

module _ (p : Source) where
  -- ---- types

  -- an array length: a constant INTEGER from 1 to 1,048,576
  abbrev pub array_length : S.Expression → World → Judged ℕ
  array_length e w = do
    c ← constant p w e
    n ← some 31 (place p (expression_first e)) (int_only c)
    rule 35 (place p (expression_first e)) (is_length n)
    Keeps (size_of n)

  abbrev pub array_lengths : S.NextExpressions → World → Judged (List ℕ)
  array_lengths S.no_expression w = Keeps []
  array_lengths (S.next_expression comma e es) w = do
    n ← array_length e w
    ns ← array_lengths es w
    Keeps (n ∷ ns)

  abbrev pub place_of_type : S.TypeTree → ℕ
  place_of_type (S.Named q) = place p q.name
  place_of_type (S.Array i first more j element) = place p i
  place_of_type (S.Record i base first more j) = place p i
  place_of_type (S.Pointer i j base) = place p i
  place_of_type (S.Procedure i formals) = place p i

  -- 42: a base that names no record type, or one of the last level
  abbrev pub base_layout : Option Base → World → Judged Layout
  base_layout None w = Keeps no_layout
  base_layout (Some b) w = do
    s ← type_at p 42 b.name w
    n ← some 42 (place p b.name.name) (record_only s)
    rule 42 (place p b.name.name) (nat_le (length (layout_of (slice_get w.known.records n)).line) 15)
    Keeps (layout_of (slice_get w.known.records n))

  -- 36: a field stands twice, or in a base too
  abbrev pub stand_fields : List Identdef → Layout → Part (Unit {0})
  stand_fields [] g = give tt
  stand_fields (x ∷ xs) g = here (λ w. rule 36 (place p x.name) (is_none (g.fields (spelled p x.name)))) >>> λ _.
      stand p (x.name ∷ []) >>> λ _. stand_fields xs g

  abbrev pub add_fields : (adder : ℕ) → World → Shape → List Identdef → Layout → Layout
  add_fields r w s [] g = g
  add_fields r w s (x ∷ xs) g = add_fields r w s xs (record {
    module_number = g.module_number;
    line = g.line;
    added = g.added ++ record { name = spelled p x.name; exported = is_some x.star; shape = s } ∷ [];
    fields = add_field (spelled p x.name) (record { adder = r; number = length g.added; shape = s; exported = is_some x.star; owner = w.module_number }) g.fields;
    cells = g.cells + cells w.known s;
    extent = with_part g.extent (extent w.known s);
  })

  -- an unqualified name that isn't known may be declared later in the same TYPE part
  abbrev pub forward_name : Making → S.TypeTree → Option ℕ
  forward_name s (S.Named q) = if s.is_type_part && is_none q.member && is_none (look_up (spelled p q.name) s.world.levels) then Some q.name else None
  forward_name s t = None

  -- what pointer type n points to: 31 at a base that is no record type
  abbrev pub pointed : ℕ → S.TypeTree → Part Shape → Part (Unit {0})
  pointed n base judged s = elim (forward_name s base) as (λ _. Judged (Unit {0} × Making)) [
    | Some name ↦ later n name s
    | None ↦ (judged >>> λ t. here (λ w. some 31 (place_of_type base) (record_only t)) >>> λ r. set_base n r) s
  ]

  abbrev mutual
    pub type_part : S.TypeTree → Part Shape
    type_part (S.Named q) = here (type_at p 31 q)
    type_part (S.Array i first more j element) =
        here (array_length first) >>> λ n. here (array_lengths more) >>> λ ns. type_part element >>> λ s.
        here (arrays (place p i) (n ∷ ns) s)
    type_part (S.Record i base first more j) =
        new_record >>> λ n. here (base_layout base) >>> λ b.
        among_fields (fields_part n first (record b { added = [] }) >>> λ g. more_part n more g) >>> λ h.
        here (λ w. rule 35 (place p i) (nat_le h.cells limit)) >>> λ _.
        ask (λ s. s.world.module_number) >>> λ m.
        set_record n (record h { module_number = m; line = n ∷ h.line; extent = rounded_extent h.extent }) >>> λ _. give (Record n)
    type_part (S.Pointer i j base) = new_pointer >>> λ n. pointed n base (type_part base) >>> λ _. give (Pointer n)
    type_part (S.Procedure i formals) = aside (formal_part p false formals) >>> λ r. give (Procedure r.0.formals r.1)

    pub fields_part : ℕ → S.MaybeFields → Layout → Part Layout
    fields_part n S.no_fields g = give g
    fields_part n (S.fields names colon of) g =
        stand_fields (idents_list names) g >>> λ _. type_part of >>> λ s.
        here (λ w. Keeps (add_fields n w s (idents_list names) g))

    pub more_part : ℕ → S.NextFields → Layout → Part Layout
    more_part n S.no_more_fields g = give g
    more_part n (S.next_fields semicolon one rest) g = fields_part n one g >>> λ h. more_part n rest h
