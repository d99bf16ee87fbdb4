-- Types judged are known, and record types are completed one after the other.
use Rattle.std.proofs.Common.{◌≡◌, ℕ, suc, ◌+◌, ◌<◌, ◌≤◌, List, [], ◌∷◌, ◌++◌, length, true, false, Option, Some, None, refl, ap, ap₂, sym, ◌∙◌, subst, arith, inl, inr}
use Rattle.std.proofs.lemmas.Bool.Decides.{nat_tests}
use Rattle.std.specs.Prelude.{slice_get, slice_set, nat_le, is_none, is_some}
use Rattle.ob_types.proofs.Tests.{none_some, some_same, less_or_past}
use Rattle.ob_syntax.specs.Syntax as S
use Rattle.ob_syntax.specs.declared.names.Identdef.{Identdef}
use Rattle.ob_syntax.specs.declared.types.Base.{Base}
use Rattle.ob_types.specs.Trees.{with_part, rounded_extent}
use Rattle.ob_judge.specs.Judged.{Judged, rule, some}
use Rattle.ob_judge.specs.Shapes.{Shape, Array, Record, Pointer, Procedure, Added, Layout, cells, extent}
use Rattle.ob_judge.specs.Scopes.{World, Source, place, spelled}
use Rattle.ob_judge.specs.Names.{member_symbol}
use Rattle.ob_judge.specs.Making.{Making, Part, ◌>>>◌, here, with_known, no_layout, set_base, later, aside}
use Rattle.ob_judge.specs.Parameters.{type_at, idents_list, formal_part}
use Rattle.ob_judge.specs.Types.{limit, array_length, array_lengths, arrays, base_layout, layout_of, record_only, stand_fields, add_field, add_fields, among_fields, forward_name, type_part, fields_part, more_part, place_of_type}
use Rattle.judged_well.specs.Gives.{Gives}
use Rattle.judged_well.proofs.Judging.{keeps, weaken, and_then, anything, by_some, by_rule, gives_both}
use Rattle.judged_modules.specs.Agrees.{records_of, bases_of}
use Rattle.judged_modules.proofs.Lists.{get_append, get_last, get_within, set_here, set_other, set_length, append_length}
use Rattle.judged_modules.proofs.Lines.{decided, IsBaseLine, alone, based, lines_with_record, lines_set}
use Rattle.judged_modules.proofs.Growing.{Grows, untouched, self, onward, ruled_last, there_is}
use Rattle.judged_modules.specs.Lists.{Each}
use Rattle.judged_modules.proofs.TypesGrow.{each_append, GrowsIn, InTo, with_record, with_pointer, pointer_set, pointer_waits, i_type}
use Rattle.judged_modules.proofs.Parameters.{look_as}
use Rattle.judged_programs.specs.Complete.{core, IsComplete, IsKnown}
use Rattle.judged_programs.proofs.Cores.{grown_later, cells_are, cells_of_more, extents_are, with_one_more}
use Rattle.judged_programs.specs.LegalTable.{cells_with, extent_with}
use Rattle.judged_programs.proofs.Ranking.{blank_later, ranked_with_record, set_later, base_later, adding_later, ranked_set}
use Rattle.judged_programs.proofs.Tidy.{Stays, Any, s_next, s_look, s_pass, s_give, s_stand, object_later, names_later, known_type}
use Rattle.judged_programs.specs.Ranked.{cells_of_all, counted, measured, with_all, IsBase, no_base, some_base, IsAdding}
use Rattle.judged_programs.specs.Tidy.{Tidy}

-- ---- what is known of types

pub tidy_with_record : (from : ℕ) (s : Making) → Tidy from s → Tidy from (with_record s)
tidy_with_record from s h = record {
  nested = h.nested;
  names = names_later (records_of s) (records_of (with_record s)) (blank_later (records_of s)) s.world.levels h.names;
  members = λ n m at q x is. object_later (records_of s) (records_of (with_record s)) (blank_later (records_of s)) x.object (h.members n m at q x is);
  lines = lines_with_record (records_of s) h.lines;
  ranked = ranked_with_record (records_of s) h.lines h.ranked;
  targets = λ n r at. let l = h.targets n r at in let e = append_length (records_of s) (no_layout ∷ []) in omega (arith, l, e);
  whole = h.whole;
  legal = h.legal;
  no_body = h.no_body;
}

-- the record types that pointer types point to are there
abbrev pub AreThere : Making → List (Option ℕ) → Type 0
AreThere s bases = (n r : ℕ) → slice_get bases n ≡ Some (Some r) → r < length (records_of s)

pub tidy_with_bases : (from : ℕ) (s : Making) (bases : List (Option ℕ)) → AreThere s bases → Tidy from s → Tidy from (with_known (λ k. record k { bases = bases }) s)
tidy_with_bases from s bases there h = record { nested = h.nested; names = h.names; members = h.members; lines = h.lines; ranked = h.ranked; targets = there; whole = h.whole; legal = h.legal; no_body = h.no_body }

-- with one more, which waits for its base
pub there_with_one : (s : Making) → AreThere s (bases_of s) → AreThere s (bases_of s ++ None ∷ [])
there_with_one s h n r at = elim (less_or_past n (length (bases_of s))) as (λ _. r < length (records_of s)) [
  | inl less ↦ h n r (sym (get_append (bases_of s) (None ∷ []) n less) ∙ at)
  | inr past ↦
      let l = get_within (bases_of s ++ None ∷ []) n (Some r) at in
      let m = append_length (bases_of s) (None ∷ []) in
      let e : n ≡ length (bases_of s) = omega (arith, past, l, m) in
      none_some r (some_same None (Some r) (sym (get_last (bases_of s) None) ∙ ap (slice_get (bases_of s ++ None ∷ [])) (sym e) ∙ at))
]

-- with one that becomes known
pub there_with_base : (s : Making) (n r : ℕ) → r < length (records_of s) → AreThere s (bases_of s) → AreThere s (slice_set (bases_of s) n (Some r))
there_with_base s n r l h m k at = elim (decided m n) as (λ _. k < length (records_of s)) [
  | inl e ↦
      let less : n < length (bases_of s) = (let w = get_within (slice_set (bases_of s) n (Some r)) m (Some k) at in let b = set_length (bases_of s) n (Some r) in omega (arith, w, b, e)) in
      let same : r ≡ k = some_same r k (some_same (Some r) (Some k) (sym (set_here (bases_of s) n (Some r) less) ∙ ap (slice_get (slice_set (bases_of s) n (Some r))) (sym e) ∙ at)) in
      omega (arith, l, same)
  | inr d ↦ h m k (sym (set_other (bases_of s) n m (Some r) d) ∙ at)
]

base_line_of : (records : List Layout) (b : Layout) → IsBase records b → IsBaseLine records b.line
base_line_of records b (no_base i j u) = alone i
base_line_of records b (some_base r l at some i j u k) = based r l at some i

pub tidy_set_record : (from : ℕ) (s : Making) (n : ℕ) (b g l : Layout) → slice_get (records_of s) n ≡ Some no_layout → IsBase (records_of s) b → IsAdding (records_of s) b g → l.line ≡ n ∷ g.line → l.added ≡ g.added → l.cells ≡ g.cells → l.extent ≡ rounded_extent g.extent → l.cells ≤ limit
    → Tidy from s → Tidy from (with_known (λ k. record k { records = slice_set k.records n l }) s)
tidy_set_record from s n b g l empty base adding line added cells extent few h =
    let later_ = set_later (records_of s) n l empty in
    record {
      nested = h.nested;
      names = names_later (records_of s) (slice_set (records_of s) n l) later_ s.world.levels h.names;
      members = λ k m at q x is. object_later (records_of s) (slice_set (records_of s) n l) later_ x.object (h.members k m at q x is);
      lines = lines_set (records_of s) n g.line l empty line h.lines (subst (IsBaseLine (records_of s)) (sym adding.line) (base_line_of (records_of s) b base));
      ranked = ranked_set (records_of s) n empty h.lines h.ranked b g l base adding line added cells extent few;
      targets = λ k r at. let less = h.targets k r at in let e = set_length (records_of s) n l in omega (arith, less, e);
      whole = h.whole;
      legal = h.legal;
      no_body = h.no_body;
    }

module _ (from : ℕ) (p : Source) where
  -- ---- arrays

  known_array : (records : List Layout) (n : ℕ) (a : Shape) → IsKnown records a → IsKnown records (Array n a)
  known_array records n a h = record { whole = refl; core_there = h.core_there }

  pub known_arrays : (records : List Layout) (at : ℕ) (ns : List ℕ) (a : Shape) (v : World) → IsKnown records a → Gives (IsKnown records) (arrays at ns a v)
  known_arrays records at [] a v h = keeps (IsKnown records) a h
  known_arrays records at (n ∷ ns) a v h = and_then (known_arrays records at ns a v h) (λ inner k. by_rule 35 at (nat_le (cells v.known (Array n inner)) limit) (λ ok. keeps (IsKnown records) (Array n inner) (known_array records n inner k)))

  -- ---- bases of record types, and fields

  only_record : (a : Shape) (r : ℕ) → record_only a ≡ Some r → a ≡ Record r
  only_record (Record n) r h = ap Record (some_same n r h)
  only_record a r h = none_some r h

  base_known : (records : List Layout) (r : ℕ) → IsComplete records r → (length (layout_of (slice_get records r)).line ≤ 15) → IsBase records (layout_of (slice_get records r))
  base_known records r h few =
      let is : layout_of (slice_get records r) ≡ h.layout = ap layout_of h.there in
      some_base r h.layout h.there h.ended (ap (λ l. l.line) is) (ap (λ l. l.cells) is) (ap (λ l. l.extent) is) (let e = ap (λ l. length l.line) is in omega (arith, few, e))

  pub base_is : (b : Option Base) (s : Making) → Tidy from s → Gives (IsBase (records_of s)) (base_layout p b s.world)
  base_is None s tidy = keeps (IsBase (records_of s)) no_layout (no_base refl refl refl)
  base_is (Some b) s tidy = and_then (known_type p from s tidy 42 (b.name).name (member_symbol (b.name).member)) (λ a h. by_some 42 (place p (b.name).name) (record_only a) (λ r is.
      by_rule 42 (place p (b.name).name) (nat_le (length (layout_of (slice_get (records_of s) r)).line) 15) (λ ok.
      keeps (IsBase (records_of s)) (layout_of (slice_get (records_of s) r)) (base_known (records_of s) r (h.core_there r (ap core (only_record a r is))) (grind (arith, nat_tests, ok))))))

  pub s_stand_fields : {Before : Type 0} (xs : List Identdef) (g : Layout) (s : Making) → Gives (Stays from Before Any s) (stand_fields p xs g s)
  s_stand_fields [] g s = s_give Any tt s (λ before tidy. tt)
  s_stand_fields (x ∷ xs) g s = s_next (s_pass (rule 36 (place p x.name) (is_none (g.fields (spelled p x.name)))) s) (λ r. s_next (s_stand p (x.name ∷ []) r.1) (λ q. s_stand_fields xs g q.1))

  s_among : {A : Type 0} {Before : Type 0} (P : A → Making → Type 0) (m : Part A) (s : Making) → ((a : A) (t : Making) → P a t → P a (record t { standing = s.standing }))
      → Gives (Stays from Before P (record s { standing = [] })) (m (record s { standing = [] })) → Gives (Stays from Before P s) (among_fields m s)
  s_among P m s same g = and_then g (λ r h. keeps (Stays from _ P s) (r.0, record (r.1) { standing = s.standing }) (record {
    grown = onward s r.1 (record (r.1) { standing = s.standing }) (onward s (record s { standing = [] }) r.1 (untouched s _ refl refl refl refl refl refl refl) h.grown) (untouched r.1 _ refl refl refl refl refl refl refl);
    depth = h.depth;
    tidy = λ before tidy. let a = h.tidy before tidy in (a.0, same r.0 r.1 a.1);
  }))

  pub adding_self : (records : List Layout) (b : Layout) → IsAdding records b (record b { added = [] })
  adding_self records b = record { line = refl; added = tt; cells = omega arith; extent = refl }

  one_field : (v : World) (a : Shape) (b g h : Layout) (y : Added) → IsKnown v.known.records a → IsAdding v.known.records b g → h.line ≡ g.line → h.added ≡ g.added ++ y ∷ [] → y.shape ≡ a → h.cells ≡ g.cells + cells v.known a → h.extent ≡ with_part g.extent (extent v.known a) → IsAdding v.known.records b h
  one_field v a b g h y known adding line added shape count takes = record {
    line = line ∙ adding.line;
    added = subst (Each (λ x. IsKnown v.known.records x.shape)) (sym added) (each_append (λ x. IsKnown v.known.records x.shape) g.added (y ∷ []) adding.added (subst (IsKnown v.known.records) (sym shape) known, tt));
    cells =
        let all = ap (cells_of_all (counted v.known.records)) added ∙ cells_of_more (counted v.known.records) g.added y in
        let mine = cells_are v.known a ∙ ap (cells_with (counted v.known.records)) (sym shape) in
        let was = adding.cells in
        omega (arith, count, all, mine, was);
    extent =
        takes
        ∙ ap₂ with_part adding.extent (extents_are v.known a ∙ ap (extent_with (measured v.known.records)) (sym shape))
        ∙ sym (ap (with_all (measured v.known.records) b.extent) added ∙ with_one_more (measured v.known.records) g.added y b.extent);
  }

  pub adding_fields : (n : ℕ) (v : World) (a : Shape) (b : Layout) → IsKnown v.known.records a → (xs : List Identdef) (g : Layout) → IsAdding v.known.records b g → IsAdding v.known.records b (add_fields p n v a xs g)
  adding_fields n v a b known [] g h = h
  adding_fields n v a b known (x ∷ xs) g h = adding_fields n v a b known xs _ (one_field v a b g (record {
    module_number = g.module_number;
    line = g.line;
    added = g.added ++ record { name = spelled p x.name; exported = is_some x.star; shape = a } ∷ [];
    fields = add_field (spelled p x.name) (record { adder = n; number = length g.added; shape = a; exported = is_some x.star; owner = v.module_number }) g.fields;
    cells = g.cells + cells v.known a;
    extent = with_part g.extent (extent v.known a);
  }) (record { name = spelled p x.name; exported = is_some x.star; shape = a }) known h refl refl refl refl refl)

  -- ---- pointer types

  pub there_of : (records : List Layout) (a : Shape) → IsKnown records a → (r : ℕ) → record_only a ≡ Some r → r < length records
  there_of records a h r is = let k = h.core_there r (ap core (only_record a r is)) in get_within records r k.layout k.there

  known_pointer : (records : List Layout) (n : ℕ) → IsKnown records (Pointer n)
  known_pointer records n = record { whole = refl; core_there = λ r is. none_some r is }

  s_pointed : {Before : Type 0} (s : Making) (base : S.TypeTree) (judged : Part Shape) (o : Option ℕ) → Gives (InTo (with_pointer s)) (judged (with_pointer s)) → Gives (Stays from Before (λ a t. IsKnown (records_of t) a) (with_pointer s)) (judged (with_pointer s))
      → Gives (Stays from Before Any s) (elim o as (λ _. Judged (Unit {0} × Making)) [
        | Some name ↦ later (length (bases_of s)) name (with_pointer s)
        | None ↦ (judged >>> λ t. here (λ v. some 31 (place_of_type p base) (record_only t)) >>> λ r. set_base (length (bases_of s)) r) (with_pointer s)
      ])
  s_pointed s base judged (Some name) i g = keeps (Stays from _ Any s) (tt, record (with_pointer s) { forward = s.forward ++ (length (bases_of s), name) ∷ [] }) (record {
    grown = (pointer_waits s name).grown;
    depth = refl;
    tidy = λ before tidy. (tidy_with_bases from s (bases_of s ++ None ∷ []) (there_with_one s tidy.targets) tidy, tt);
  })
  s_pointed s base judged None i g = and_then (gives_both i g) (λ t h. and_then (look_as (some 31 (place_of_type p base) (record_only t.0)) t.1) (λ r k.
      let n = length (bases_of s) in
      let whole = subst (λ u. GrowsIn (with_pointer s) u) (sym k.0) h.0 in
      keeps (Stays from _ Any s) (tt, with_known (λ x. record x { bases = slice_set x.bases n (Some r.0) }) r.1) (record {
        grown = (pointer_set s r.1 r.0 whole).grown;
        depth = ap (λ u. length u.world.levels) k.0 ∙ (h.1).depth;
        tidy = λ before tidy.
            let a = (h.1).tidy before (tidy_with_bases from s (bases_of s ++ None ∷ []) (there_with_one s tidy.targets) tidy) in
            let again = subst (Tidy from) (sym k.0) a.0 in
            let there = subst (λ u. r.0 < length (records_of u)) (sym k.0) (there_of (records_of t.1) t.0 a.1 r.0 (there_is 31 (place_of_type p base) (record_only t.0) r.0 k.1)) in
            (tidy_with_bases from r.1 (slice_set (bases_of r.1) n (Some r.0)) (there_with_base r.1 n r.0 there again.targets) again, tt);
      })))

  -- ---- record types

  -- the part of a claim that isn't growth
  record Leaves {A : Type 0} (Before : Type 0) (Q : A → Making → Type 0) (s : Making) (r : A × Making) : Type 0 where
    depth : length (r.1).world.levels ≡ length s.world.levels
    tidy : Before → Tidy from s → Tidy from r.1 × Q r.0 r.1

  more_is : {A : Type 0} (xs : List A) (y : A) → length (xs ++ y ∷ []) ≡ suc (length xs)
  more_is xs y = let h = append_length xs (y ∷ []) in omega (arith, h)

  pub known_record : (records : List Layout) (n : ℕ) (l : Layout) (line : List ℕ) → slice_get records n ≡ Some no_layout → l.line ≡ n ∷ line → IsKnown (slice_set records n l) (Record n)
  known_record records n l line empty is = record {
    whole = refl;
    core_there = λ r e. record { layout = l; there = ap (slice_get (slice_set records n l)) (sym (some_same n r e)) ∙ set_here records n l (get_within records n no_layout empty); ended = λ none. absurd (let z = sym is ∙ none in cc) };
  }

  k_complete : {Before : Type 0} (s b g u : Making) (base h l : Layout) → Stays from Before (λ x t. IsBase (records_of t) x) (with_record s) (base, b)
      → Stays from (IsAdding (records_of b) base (record base { added = [] })) (λ x t. IsAdding (records_of t) base x) b (h, g)
      → u ≡ g → nat_le h.cells limit ≡ true
      → l.line ≡ length (records_of s) ∷ h.line → l.added ≡ h.added → l.cells ≡ h.cells → l.extent ≡ rounded_extent h.extent
      → Leaves Before (λ a t. IsKnown (records_of t) a) s (Record (length (records_of s)), with_known (λ k. record k { records = slice_set k.records (length (records_of s)) l }) u)
  k_complete s b g u base h l hb hg same ok line added count takes =
      let n = length (records_of s) in
      let whole = subst (Grows (with_record s)) (sym same) (onward (with_record s) b g hb.grown hg.grown) in
      let less : n < length (records_of (with_record s)) = (let e = more_is (records_of s) no_layout in omega (arith, e)) in
      let empty = whole.records n less ∙ get_last (records_of s) no_layout in
      record {
        depth = ap (λ x. length x.world.levels) same ∙ hg.depth ∙ hb.depth;
        tidy = λ before tidy.
            let first = hb.tidy before (tidy_with_record from s tidy) in
            let second = hg.tidy (adding_self (records_of b) base) first.0 in
            let behind = base_later (records_of b) (records_of u) (grown_later b u (subst (Grows b) (sym same) hg.grown)) base first.1 in (
              tidy_set_record from u n base h l empty behind (subst (λ x. IsAdding (records_of x) base h) (sym same) second.1) line added count takes (grind (arith, nat_tests, ok, count)) (subst (Tidy from) (sym same) second.0),
              known_record (records_of u) n l h.line empty line,
            );
      }

  known_procedure : (records : List Layout) (ps : _) (a : Shape) → IsKnown records (Procedure ps a)
  known_procedure records ps a = record { whole = refl; core_there = λ r is. none_some r is }

  s_aside : {A : Type 0} {Before : Type 0} (m : Part A) (s : Making) → Gives (Stays from Before Any s) (aside m s)
  s_aside m s = and_then (anything (m (record s { standing = [] }))) (λ r h. keeps (Stays from _ Any s) (r.0, s) (record { grown = self s; depth = refl; tidy = λ before tidy. (tidy, tt) }))

  mutual
    pub s_type : {Before : Type 0} (x : S.TypeTree) (s : Making) → Gives (Stays from Before (λ a t. IsKnown (records_of t) a) s) (type_part p x s)
    s_type (S.Named q) s = s_look (λ a t. IsKnown (records_of t) a) (type_at p 31 q s.world) s (λ before tidy. known_type p from s tidy 31 q.name (member_symbol q.member))
    s_type (S.Array i first more j element) s =
        s_next (s_pass (array_length p first s.world) s) (λ n.
        s_next (s_pass (array_lengths p more (n.1).world) n.1) (λ ns.
        s_next (s_type element ns.1) (λ a.
        s_look (λ b t. IsKnown (records_of t) b) (arrays (place p i) (n.0 ∷ ns.0) a.0 (a.1).world) a.1 (λ before tidy. known_arrays (records_of a.1) (place p i) (n.0 ∷ ns.0) a.0 (a.1).world before.1))))
    s_type (S.Record i base first more j) s =
        let n = length (records_of s) in
        let s1 = with_record s in
        weaken (gives_both (i_type p (S.Record i base first more j) s) (and_then (s_look (λ x t. IsBase (records_of t) x) (base_layout p base s1.world) s1 (λ before tidy. base_is base s1 tidy)) (λ b hb.
        and_then (s_among (λ x t. IsAdding (records_of t) b.0 x) (fields_part p n first (record (b.0) { added = [] }) >>> λ g. more_part p n more g) b.1 (λ a t k. k)
        (s_next (s_fields n b.0 first (record (b.0) { added = [] }) (record (b.1) { standing = [] }) (λ before. before)) (λ g. s_more n b.0 more g.0 g.1 (λ before. before.1)))) (λ g hg.
        and_then (look_as (rule 35 (place p i) (nat_le (g.0).cells limit)) g.1) (λ u hu.
        let l : Layout = record (g.0) { module_number = (u.1).world.module_number; line = n ∷ (g.0).line; extent = rounded_extent (g.0).extent } in
        keeps (Leaves _ (λ a t. IsKnown (records_of t) a) s) (Record n, with_known (λ k. record k { records = slice_set k.records n l }) u.1) (k_complete s b.1 g.1 u.1 b.0 g.0 l hb hg hu.0 (ruled_last 35 (place p i) (nat_le (g.0).cells limit) u.0 hu.1) refl refl refl refl)))))) (λ r h. record { grown = (h.0).grown; depth = (h.1).depth; tidy = (h.1).tidy })
    s_type (S.Pointer i j base) s = and_then (s_pointed s base (type_part p base) (forward_name p (with_pointer s) base) (i_type p base (with_pointer s)) (s_type base (with_pointer s))) (λ r h.
        keeps (Stays from _ (λ a t. IsKnown (records_of t) a) s) (Pointer (length (bases_of s)), r.1) (record { grown = h.grown; depth = h.depth; tidy = λ before tidy. ((h.tidy before tidy).0, known_pointer (records_of r.1) (length (bases_of s))) }))
    s_type (S.Procedure i formals) s = and_then (s_aside (formal_part p false formals) s) (λ r h.
        keeps (Stays from _ (λ a t. IsKnown (records_of t) a) s) (Procedure ((r.0).0).formals (r.0).1, r.1) (record { grown = h.grown; depth = h.depth; tidy = λ before tidy. ((h.tidy before tidy).0, known_procedure (records_of r.1) ((r.0).0).formals (r.0).1) }))

    pub s_fields : {Before : Type 0} (n : ℕ) (b : Layout) (x : S.MaybeFields) (g : Layout) (s : Making) → (Before → IsAdding (records_of s) b g) → Gives (Stays from Before (λ h t. IsAdding (records_of t) b h) s) (fields_part p n x g s)
    s_fields n b S.no_fields g s f = s_give (λ h t. IsAdding (records_of t) b h) g s (λ before tidy. f before)
    s_fields n b (S.fields names colon of) g s f = s_next (s_stand_fields (idents_list names) g s) (λ u. s_next (s_type of u.1) (λ a.
        s_give (λ h t. IsAdding (records_of t) b h) (add_fields p n (a.1).world a.0 (idents_list names) g) a.1 (λ before tidy.
        adding_fields n (a.1).world a.0 b before.1 (idents_list names) g
        (adding_later (records_of u.1) (records_of a.1) (grown_later u.1 a.1 before.2) b g (adding_later (records_of s) (records_of u.1) (grown_later s u.1 (before.0).2) b g (f ((before.0).0)))))))

    pub s_more : {Before : Type 0} (n : ℕ) (b : Layout) (x : S.NextFields) (g : Layout) (s : Making) → (Before → IsAdding (records_of s) b g) → Gives (Stays from Before (λ h t. IsAdding (records_of t) b h) s) (more_part p n x g s)
    s_more n b S.no_more_fields g s f = s_give (λ h t. IsAdding (records_of t) b h) g s (λ before tidy. f before)
    s_more n b (S.next_fields semicolon one rest) g s f = s_next (s_fields n b one g s f) (λ h. s_more n b rest h.0 h.1 (λ before. before.1))
