-- Types judged, part after part.
use Rattle.std.proofs.Common.{◌≡◌, ℕ, List, [], ◌∷◌, ◌++◌, length, Option, refl, ap}
use Rattle.ob_syntax.specs.Syntax as S
use Rattle.ob_syntax.specs.declared.types.Base.{Base}
use Rattle.ob_syntax.specs.declared.types.NextFields.{NextFields, out-NextFields}
use Rattle.ob_judge.specs.Judged.{Judged, Keeps, Breaks, ◌>>=◌}
use Rattle.ob_judge.specs.Shapes as J
use Rattle.ob_judge.specs.Scopes.{Source, place}
use Rattle.ob_judge.specs.Making.{Making, no_layout, with_known, new_record, new_pointer}
use Rattle.ob_judge.specs.Types.{array_length, array_lengths, arrays, base_layout, pointed, type_part, fields_part, more_part}
use Rattle.check_making.specs.new_types.Records.{with_layout}
use Rattle.check_declared.specs.type_parts.Lengths.{lengths_part}
use Rattle.check_declared.specs.type_parts.Records.{begun_part, fields_of}
use Rattle.check_declared.specs.type_parts.TypeSyntax.{plain_maybe_fields, plain_each_fields}
use Rattle.check_declared.proofs.type_parts.TypeParts.{next_fields_parts}

-- ---- records

fields_tail : (standing : List (List ℕ)) (h : Judged (J.Layout × Making)) (last : J.Layout → Making → Judged (J.Shape × Making)) →
    ((h >>= λ (r : J.Layout × Making). Keeps (r.0, record r.1 { standing = standing })) >>= λ (k : J.Layout × Making). last k.0 k.1) ≡ (h >>= λ (k : J.Layout × Making). last k.0 (record k.1 { standing = standing }))
fields_tail standing (Keeps h) last = refl
fields_tail standing (Breaks n at) last = refl

module _ (p : Source) where
  -- from the base on
  abbrev pub begun_on : Option Base → ℕ × Making → Judged ((ℕ × J.Layout) × Making)
  begun_on base n = (base_layout p base (n.1).world >>= λ l. Keeps (l, n.1)) >>= λ (q : J.Layout × Making). Keeps ((n.0, record q.0 { added = [] }), record q.1 { standing = [] })

  pub begun_law : (base : Option Base) (m : Making) → begun_part p base m ≡ (new_record m >>= begun_on base)
  begun_law base m = refl

  module _ (i : ℕ) (first : S.MaybeFields) (more : S.NextFields) (m : Making) where
    abbrev number : ℕ
    number = length m.world.known.records

    abbrev with_record : Making
    with_record = with_known (λ k. record k { records = k.records ++ no_layout ∷ [] }) m

    -- from the fields on
    abbrev pub fields_on : ℕ → J.Layout → Making → Judged (J.Shape × Making)
    fields_on n l k = fields_of p n first more l k >>= λ (h : J.Layout × Making). with_layout p i n h.0 (record h.1 { standing = m.standing })

    abbrev judged_from : J.Layout × Making → Judged (J.Shape × Making)
    judged_from q =
        ((fields_part p number first (record q.0 { added = [] }) (record q.1 { standing = [] }) >>= λ (g : J.Layout × Making). more_part p number more g.0 g.1) >>= λ (r : J.Layout × Making). Keeps (r.0, record r.1 { standing = (q.1).standing }))
        >>= λ (h : J.Layout × Making). with_layout p i number h.0 h.1

    record_by : (b : Judged J.Layout) → ((b >>= λ l. Keeps (l, with_record)) >>= judged_from)
        ≡ (((b >>= λ l. Keeps (l, with_record)) >>= λ (q : J.Layout × Making). Keeps ((number, record q.0 { added = [] }), record q.1 { standing = [] })) >>= λ (a : (ℕ × J.Layout) × Making). fields_on (a.0).0 (a.0).1 a.1)
    record_by (Keeps b) =
        fields_tail m.standing (fields_of p number first more (record b { added = [] }) (record with_record { standing = [] })) (λ l k. with_layout p i number l k)
    record_by (Breaks n at) = refl

    pub record_law : (base : Option Base) (j : ℕ) → type_part p (S.Record i base first more j) m ≡ (begun_part p base m >>= λ (a : (ℕ × J.Layout) × Making). fields_on (a.0).0 (a.0).1 a.1)
    record_law base j = record_by (base_layout p base with_record.world)

  -- ---- arrays

  module _ (i : ℕ) (first : S.Expression) (more : S.NextExpressions) (element : S.TypeTree) (m : Making) where
    -- from the element type on
    abbrev pub element_on : List ℕ → Judged (J.Shape × Making)
    element_on ns = type_part p element m >>= λ (s : J.Shape × Making). arrays (place p i) ns s.0 (s.1).world >>= λ a. Keeps (a, s.1)

    abbrev array_from : ℕ → List ℕ × Making → Judged (J.Shape × Making)
    array_from n k = type_part p element k.1 >>= λ (s : J.Shape × Making). arrays (place p i) (n ∷ k.0) s.0 (s.1).world >>= λ a. Keeps (a, s.1)

    array_rest : (n : ℕ) (b : Judged (List ℕ)) → ((b >>= λ ns. Keeps (ns, m)) >>= array_from n) ≡ ((b >>= λ ns. Keeps (n ∷ ns)) >>= element_on)
    array_rest n (Keeps ns) = refl
    array_rest n (Breaks k at) = refl

    array_by : (a : Judged ℕ) → ((a >>= λ n. Keeps (n, m)) >>= λ (q : ℕ × Making). (array_lengths p more (q.1).world >>= λ ns. Keeps (ns, q.1)) >>= array_from q.0)
        ≡ ((a >>= λ n. array_lengths p more m.world >>= λ ns. Keeps (n ∷ ns)) >>= element_on)
    array_by (Keeps n) = array_rest n (array_lengths p more m.world)
    array_by (Breaks k at) = refl

    pub array_law : (j : ℕ) → type_part p (S.Array i first more j element) m ≡ (lengths_part p first more m.world >>= element_on)
    array_law j = array_by (array_length p first m.world)

  -- ---- fields

  module _ (r : ℕ) where
    abbrev pub fields_from : J.Layout × Making → List NextFields → Judged (J.Layout × Making)
    fields_from a xs = more_part p r (plain_each_fields xs) a.0 a.1

    abbrev pub fields_item : J.Layout × Making → NextFields → Judged (J.Layout × Making)
    fields_item a x = fields_part p r (plain_maybe_fields (out-NextFields x).fields) a.0 a.1

    pub fields_law : (a : J.Layout × Making) (x : NextFields) (xs : List NextFields) → fields_from a (x ∷ xs) ≡ (fields_item a x >>= λ z. fields_from z xs)
    fields_law a x xs = ap (λ e. more_part p r e a.0 a.1) (next_fields_parts x xs)

  -- ---- pointers

  abbrev pub pointer_on : S.TypeTree → ℕ × Making → Judged (J.Shape × Making)
  pointer_on base n = pointed p n.0 base (type_part p base) n.1 >>= λ (q : Unit {0} × Making). Keeps (J.Pointer n.0, q.1)

  pub pointer_law : (i j : ℕ) (base : S.TypeTree) (m : Making) → type_part p (S.Pointer i j base) m ≡ (new_pointer m >>= pointer_on base)
  pointer_law i j base m = refl
