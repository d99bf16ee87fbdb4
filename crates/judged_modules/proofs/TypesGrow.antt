-- Types judged only add record types and pointer types, and leave those that are there.
use Rattle.std.proofs.Common.{◌≡◌, ℕ, suc, ◌<◌, ◌≤◌, List, [], ◌∷◌, ◌++◌, length, false, not, Option, Some, None, refl, ap, ◌∙◌, arith, sym, subst}
use Rattle.std.specs.Prelude.{slice_get, slice_set, is_none, nat_le}
use Rattle.ob_syntax.specs.Syntax as S
use Rattle.ob_syntax.specs.declared.names.Identdef.{Identdef}
use Rattle.ob_types.specs.Trees.{rounded_extent}
use Rattle.ob_judge.specs.Judged.{Judged, Keeps, Breaks, ◌>>=◌, rule, some}
use Rattle.ob_judge.specs.Shapes.{Shape, Record, Pointer, Procedure, Layout}
use Rattle.ob_judge.specs.Scopes.{Source, place, spelled, World}
use Rattle.ob_judge.specs.Making.{Making, Part, is_among, ◌>>>◌, here, with_known, no_layout, set_base, later, aside}
use Rattle.ob_judge.specs.Parameters.{stand, type_at, formal_part, idents_list}
use Rattle.ob_judge.specs.Types.{limit, array_length, array_lengths, arrays, base_layout, record_only, stand_fields, add_fields, among_fields, forward_name, type_part, fields_part, more_part, place_of_type, layout_of}
use Rattle.judged_well.specs.Gives.{Gives}
use Rattle.judged_well.proofs.Judging.{keeps, breaks, weaken, and_then, anything, by_some, by_rule, gives_both}
use Rattle.judged_modules.specs.Lists.{Each}
use Rattle.judged_modules.specs.Agrees.{records_of, bases_of}
use Rattle.judged_modules.proofs.Lists.{get_append, get_within, get_last, set_other, set_length, append_length}
use Rattle.judged_modules.proofs.Lines.{IsBaseLine, alone, based, base_line_later, lines_with_record, lines_set}
use Rattle.judged_modules.proofs.Growing.{Grows, untouched, onward}
use Rattle.ob_syntax.specs.declared.types.Base.{Base}

-- ---- what holds of each

pub each_map : {A : Type 0} (P Q : A → Type 0) (xs : List A) → ((x : A) → P x → Q x) → Each P xs → Each Q xs
each_map P Q [] f h = tt
each_map P Q (x ∷ xs) f h = (f x h.0, each_map P Q xs f h.1)

pub each_append : {A : Type 0} (P : A → Type 0) (xs ys : List A) → Each P xs → Each P ys → Each P (xs ++ ys)
each_append P [] ys h k = k
each_append P (x ∷ xs) ys h k = (h.0, each_append P xs ys h.1 k)

-- ---- growth, and the pointer types whose base isn't known yet: no older one comes to them

abbrev pub Waits : ℕ → Making → ℕ × ℕ → Type 0
Waits from t k = (from ≤ k.0) × (slice_get (bases_of t) k.0 ≡ Some None)

pub record GrowsIn (s t : Making) : Type 0 where
  pub grown : Grows s t
  pub more : List (ℕ × ℕ)
  pub forward : t.forward ≡ s.forward ++ more
  pub waiting : Each (Waits (length (bases_of s)) t) more
  pub variables_same : t.variables ≡ s.variables
  pub values_same : t.values ≡ s.values
  pub procedures_same : t.procedures ≡ s.procedures

pub right_none : {A : Type 0} (xs : List A) → xs ≡ xs ++ []
right_none [] = refl
right_none (x ∷ xs) = ap (λ ys. x ∷ ys) (right_none xs)

pub joined : {A : Type 0} (xs ys zs : List A) → (xs ++ ys) ++ zs ≡ xs ++ (ys ++ zs)
joined [] ys zs = refl
joined (x ∷ xs) ys zs = ap (λ ws. x ∷ ws) (joined xs ys zs)

pub calm : (s t : Making) → records_of t ≡ records_of s → bases_of t ≡ bases_of s → t.procedures ≡ s.procedures → t.variables ≡ s.variables → t.values ≡ s.values → t.world.procedure ≡ s.world.procedure → t.world.module_number ≡ s.world.module_number → t.forward ≡ s.forward → GrowsIn s t
calm s t a b c d e f g h = record { grown = untouched s t a b c d e f g; more = []; forward = h ∙ right_none s.forward; waiting = tt; variables_same = d; values_same = e; procedures_same = c }

pub still : (s : Making) → GrowsIn s s
still s = calm s s refl refl refl refl refl refl refl refl

pub follows : (s t u : Making) → GrowsIn s t → GrowsIn t u → GrowsIn s u
follows s t u g h = record {
  grown = onward s t u g.grown h.grown;
  more = g.more ++ h.more;
  forward = h.forward ∙ ap (λ xs. xs ++ h.more) g.forward ∙ joined s.forward g.more h.more;
  waiting = each_append (Waits (length (bases_of s)) u) g.more h.more
      (each_map (Waits (length (bases_of s)) t) (Waits (length (bases_of s)) u) g.more (λ k w. (w.0, h.grown.bases k.0 (get_within (bases_of t) k.0 None w.1) ∙ w.1)) g.waiting)
      (each_map (Waits (length (bases_of t)) u) (Waits (length (bases_of s)) u) h.more (λ k w. (let a = g.grown.bases_more in let b = w.0 in omega (arith, a, b), w.1)) h.waiting);
  variables_same = h.variables_same ∙ g.variables_same;
  values_same = h.values_same ∙ g.values_same;
  procedures_same = h.procedures_same ∙ g.procedures_same;
}

-- ---- a part after the other

abbrev pub InTo : {A : Type 0} → Making → A × Making → Type 0
InTo s r = GrowsIn s r.1

pub i_next : {A B : Type 0} {s : Making} {m : Judged (A × Making)} {f : A × Making → Judged (B × Making)} → Gives (InTo s) m → ((r : A × Making) → Gives (InTo r.1) (f r)) → Gives (InTo s) (m >>= f)
i_next {s = s} g next = and_then g (λ r h. weaken (next r) (λ q k. follows s r.1 q.1 h k))

-- what is judged in the scope as it is
pub i_look : {A : Type 0} (m : Judged A) (s : Making) → Gives (InTo s) (m >>= λ a. Keeps (a, s))
i_look (Keeps a) s = keeps (InTo s) (a, s) (still s)
i_look (Breaks n at) s = breaks (InTo s) n at

pub i_from : {A : Type 0} {m : Judged (A × Making)} (s u : Making) → GrowsIn s u → Gives (InTo u) m → Gives (InTo s) m
i_from s u h g = weaken g (λ q k. follows s u q.1 h k)

-- ---- one more record type or pointer type, and what it becomes

abbrev pub with_record : Making → Making
with_record s = with_known (λ k. record k { records = k.records ++ no_layout ∷ [] }) s

abbrev pub with_pointer : Making → Making
with_pointer s = with_known (λ k. record k { bases = k.bases ++ None ∷ [] }) s

more_is : {A : Type 0} (xs : List A) (y : A) → length (xs ++ y ∷ []) ≡ suc (length xs)
more_is xs y = let h = append_length xs (y ∷ []) in omega (arith, h)

pub one_record : (s : Making) → GrowsIn s (with_record s)
one_record s = record {
  grown = record {
    records_more = let h = more_is (records_of s) no_layout in omega (arith, h);
    records = λ r l. get_append (records_of s) (no_layout ∷ []) r l;
    bases_more = omega arith;
    bases = λ n l. refl;
    procedures_more = omega arith;
    procedures = λ f l. refl;
    variables = λ v x h. (refl, h);
    procedure = refl;
    module_number = refl;
    lines = λ h. lines_with_record (records_of s) h;
  };
  more = [];
  forward = right_none s.forward;
  waiting = tt;
  variables_same = refl;
  values_same = refl;
  procedures_same = refl;
}

pub one_pointer : (s : Making) → GrowsIn s (with_pointer s)
one_pointer s = record {
  grown = record {
    records_more = omega arith;
    records = λ r l. refl;
    bases_more = let h = more_is (bases_of s) None in omega (arith, h);
    bases = λ n l. get_append (bases_of s) (None ∷ []) n l;
    procedures_more = omega arith;
    procedures = λ f l. refl;
    variables = λ v x h. (refl, h);
    procedure = refl;
    module_number = refl;
    lines = λ h. h;
  };
  more = [];
  forward = right_none s.forward;
  waiting = tt;
  variables_same = refl;
  values_same = refl;
  procedures_same = refl;
}

less_apart : (r n : ℕ) → r < n → r ≡ n → ⊥
less_apart r n l e = absurd (omega (arith, l, e))

-- from one record type on, which becomes complete
pub record_set : (s u : Making) (l : Layout) (line : List ℕ) → l.line ≡ length (records_of s) ∷ line → IsBaseLine (records_of u) line → GrowsIn (with_record s) u → GrowsIn s (with_known (λ k. record k { records = slice_set k.records (length (records_of s)) l }) u)
record_set s u l line is base g =
    let a = follows s (with_record s) u (one_record s) g in
    let less : length (records_of s) < length (records_of (with_record s)) = (let e = more_is (records_of s) no_layout in omega (arith, e)) in
    let empty = g.grown.records (length (records_of s)) less ∙ get_last (records_of s) no_layout in
    record {
      grown = record {
        records_more = let h = set_length (records_of u) (length (records_of s)) l in let b = a.grown.records_more in omega (arith, h, b);
        records = λ r less. set_other (records_of u) (length (records_of s)) r l (less_apart r (length (records_of s)) less) ∙ a.grown.records r less;
        bases_more = a.grown.bases_more;
        bases = a.grown.bases;
        procedures_more = a.grown.procedures_more;
        procedures = a.grown.procedures;
        variables = a.grown.variables;
        procedure = a.grown.procedure;
        module_number = a.grown.module_number;
        lines = λ h. lines_set (records_of u) (length (records_of s)) line l empty is (a.grown.lines h) base;
      };
      more = a.more;
      forward = a.forward;
      waiting = a.waiting;
      variables_same = a.variables_same;
      values_same = a.values_same;
      procedures_same = a.procedures_same;
    }

-- and from one pointer type on, whose base comes to be known
pub pointer_set : (s u : Making) (r : ℕ) → GrowsIn (with_pointer s) u → GrowsIn s (with_known (λ k. record k { bases = slice_set k.bases (length (bases_of s)) (Some r) }) u)
pointer_set s u r g =
    let a = follows s (with_pointer s) u (one_pointer s) g in
    record {
      grown = record {
        records_more = a.grown.records_more;
        records = a.grown.records;
        bases_more = let h = set_length (bases_of u) (length (bases_of s)) (Some r) in let b = a.grown.bases_more in omega (arith, h, b);
        bases = λ n less. set_other (bases_of u) (length (bases_of s)) n (Some r) (less_apart n (length (bases_of s)) less) ∙ a.grown.bases n less;
        procedures_more = a.grown.procedures_more;
        procedures = a.grown.procedures;
        variables = a.grown.variables;
        procedure = a.grown.procedure;
        module_number = a.grown.module_number;
        lines = a.grown.lines;
      };
      more = g.more;
      forward = g.forward;
      waiting = each_map (Waits (length (bases_of (with_pointer s))) u) (Waits (length (bases_of s)) (with_known (λ k. record k { bases = slice_set k.bases (length (bases_of s)) (Some r) }) u)) g.more (λ k w. later_one k w) g.waiting;
      variables_same = a.variables_same;
      values_same = a.values_same;
      procedures_same = a.procedures_same;
    }
  where
    past : (k : ℕ) → length (bases_of (with_pointer s)) ≤ k → length (bases_of s) < k
    past k l = let h = more_is (bases_of s) None in omega (arith, h, l)

    greater_apart : (k n : ℕ) → n < k → k ≡ n → ⊥
    greater_apart k n l e = absurd (omega (arith, l, e))

    later_one : (k : ℕ × ℕ) → Waits (length (bases_of (with_pointer s))) u k → Waits (length (bases_of s)) (with_known (λ x. record x { bases = slice_set x.bases (length (bases_of s)) (Some r) }) u) k
    later_one k w = let l = past k.0 w.0 in (omega (arith, l), set_other (bases_of u) (length (bases_of s)) k.0 (Some r) (greater_apart k.0 (length (bases_of s)) l) ∙ w.1)

-- a pointer type whose base comes later
pub pointer_waits : (s : Making) (name : ℕ) → GrowsIn s (record (with_pointer s) { forward = s.forward ++ (length (bases_of s), name) ∷ [] })
pointer_waits s name =
    let a = (one_pointer s).grown in
    record {
      grown = record {
        records_more = a.records_more;
        records = a.records;
        bases_more = a.bases_more;
        bases = a.bases;
        procedures_more = a.procedures_more;
        procedures = a.procedures;
        variables = a.variables;
        procedure = a.procedure;
        module_number = a.module_number;
        lines = a.lines;
      };
      more = (length (bases_of s), name) ∷ [];
      forward = refl;
      waiting = ((omega arith, get_last (bases_of s) None), tt);
      variables_same = refl;
      values_same = refl;
      procedures_same = refl;
    }

-- ---- parameters and types

module _ (p : Source) where
  pub i_stand : (xs : List ℕ) (s : Making) → Gives (InTo s) (stand p xs s)
  i_stand [] s = keeps (InTo s) (tt, s) (still s)
  i_stand (i ∷ is) s = i_next (i_look (rule 36 (place p i) (not (is_among (spelled p i) s.standing))) s) (λ r.
      i_from r.1 (record r.1 { standing = spelled p i ∷ r.1.standing }) (calm r.1 _ refl refl refl refl refl refl refl refl) (i_stand is (record r.1 { standing = spelled p i ∷ r.1.standing })))

  pub i_stand_fields : (xs : List Identdef) (g : Layout) (s : Making) → Gives (InTo s) (stand_fields p xs g s)
  i_stand_fields [] g s = keeps (InTo s) (tt, s) (still s)
  i_stand_fields (x ∷ xs) g s = i_next (i_look (rule 36 (place p x.name) (is_none (g.fields (spelled p x.name)))) s) (λ r. i_next (i_stand (x.name ∷ []) r.1) (λ q. i_stand_fields xs g q.1))

  -- parts whose scope is put back
  pub i_among : {A : Type 0} (m : Part A) (s : Making) → Gives (InTo (record s { standing = [] })) (m (record s { standing = [] })) → Gives (InTo s) (among_fields m s)
  i_among m s g = and_then g (λ r h. keeps (InTo s) (r.0, record r.1 { standing = s.standing })
      (follows s (record s { standing = [] }) (record r.1 { standing = s.standing }) (calm s _ refl refl refl refl refl refl refl refl)
      (follows (record s { standing = [] }) r.1 (record r.1 { standing = s.standing }) h (calm r.1 _ refl refl refl refl refl refl refl refl))))

  pub i_aside : {A : Type 0} (m : Part A) (s : Making) → Gives (InTo s) (aside m s)
  i_aside m s = and_then (anything (m (record s { standing = [] }))) (λ r h. keeps (InTo s) (r.0, s) (still s))

  i_pointed : (s : Making) (base : S.TypeTree) (judged : Part Shape) (o : Option ℕ) → Gives (InTo (with_pointer s)) (judged (with_pointer s))
      → Gives (InTo s) (elim o as (λ _. Judged (Unit {0} × Making)) [
        | Some name ↦ later (length (bases_of s)) name (with_pointer s)
        | None ↦ (judged >>> λ t. here (λ w. some 31 (place_of_type p base) (record_only t)) >>> λ r. set_base (length (bases_of s)) r) (with_pointer s)
      ])
  i_pointed s base judged (Some name) g = keeps (InTo s) (tt, record (with_pointer s) { forward = s.forward ++ (length (bases_of s), name) ∷ [] }) (pointer_waits s name)
  i_pointed s base judged None g = and_then g (λ t h. and_then (i_look (some 31 (place_of_type p base) (record_only t.0)) t.1) (λ r k.
      keeps (InTo s) (tt, with_known (λ k. record k { bases = slice_set k.bases (length (bases_of s)) (Some r.0) }) r.1) (pointer_set s r.1 r.0 (follows (with_pointer s) t.1 r.1 h k))))

  -- a layout with this line
  abbrev Lined : Making → List ℕ → Layout × Making → Type 0
  Lined s line r = GrowsIn s r.1 × ((r.0).line ≡ line)

  line_same : (n : ℕ) (v : World) (a : Shape) (xs : List Identdef) (g : Layout) → (add_fields p n v a xs g).line ≡ g.line
  line_same n v a [] g = refl
  line_same n v a (x ∷ xs) g = line_same n v a xs _

  line_of_base : (records : List Layout) (r : ℕ) (l : Layout) → slice_get records r ≡ Some l → (line : List ℕ) → l.line ≡ line → IsBaseLine records l.line
  line_of_base records r l at [] e = alone e
  line_of_base records r l at (x ∷ xs) e = based r l at (λ none. absurd (let z = sym none ∙ e in cc)) refl

  line_of_layout : (records : List Layout) (r : ℕ) (o : Option Layout) → slice_get records r ≡ o → IsBaseLine records (layout_of o).line
  line_of_layout records r None at = alone refl
  line_of_layout records r (Some l) at = line_of_base records r l at l.line refl

  base_of_line : (b : Option Base) (v : World) → Gives (λ l. IsBaseLine v.known.records l.line) (base_layout p b v)
  base_of_line None v = keeps (λ (l : Layout). IsBaseLine v.known.records l.line) no_layout (alone refl)
  base_of_line (Some b) v = and_then (anything (type_at p 42 b.name v)) (λ a i. by_some 42 (place p (b.name).name) (record_only a) (λ r is.
      by_rule 42 (place p (b.name).name) (nat_le (length (layout_of (slice_get v.known.records r)).line) 15) (λ ok.
      keeps (λ (l : Layout). IsBaseLine v.known.records l.line) (layout_of (slice_get v.known.records r)) (line_of_layout v.known.records r (slice_get v.known.records r) refl))))

  base_lined : (b : Option Base) (s : Making) → Gives (λ (r : Layout × Making). IsBaseLine (records_of s) (r.0).line) (base_layout p b s.world >>= λ a. Keeps (a, s))
  base_lined b s = and_then (base_of_line b s.world) (λ l h. keeps (λ (r : Layout × Making). IsBaseLine (records_of s) (r.0).line) (l, s) h)

  among_lined : (m : Part Layout) (s : Making) (line : List ℕ) → Gives (Lined (record s { standing = [] }) line) (m (record s { standing = [] })) → Gives (Lined s line) (among_fields m s)
  among_lined m s line g = and_then g (λ r h. keeps (Lined s line) (r.0, record r.1 { standing = s.standing }) (
    follows s (record s { standing = [] }) (record r.1 { standing = s.standing }) (calm s _ refl refl refl refl refl refl refl refl)
        (follows (record s { standing = [] }) r.1 (record r.1 { standing = s.standing }) h.0 (calm r.1 _ refl refl refl refl refl refl refl refl)),
    h.1,
  ))

  mutual
    pub i_type : (x : S.TypeTree) (s : Making) → Gives (InTo s) (type_part p x s)
    i_type (S.Named q) s = i_look (type_at p 31 q s.world) s
    i_type (S.Array i first more j element) s = i_next (i_look (array_length p first s.world) s) (λ n. i_next (i_look (array_lengths p more n.1.world) n.1) (λ ns.
        i_next (i_type element ns.1) (λ a. i_look (arrays (place p i) (n.0 ∷ ns.0) a.0 a.1.world) a.1)))
    i_type (S.Record i base first more j) s =
        let n = length (records_of s) in
        and_then (gives_both (i_look (base_layout p base (with_record s).world) (with_record s)) (base_lined base (with_record s))) (λ b h.
        and_then (among_lined (fields_part p n first (record (b.0) { added = [] }) >>> λ g. more_part p n more g) b.1 (b.0).line
        (and_then (i_fields n first (record (b.0) { added = [] }) (record (b.1) { standing = [] })) (λ g k. weaken (i_more n more g.0 g.1) (λ q l. (follows (record (b.1) { standing = [] }) g.1 q.1 k.0 l.0, l.1 ∙ k.1))))) (λ g k.
        and_then (i_look (rule 35 (place p i) (nat_le (g.0).cells limit)) g.1) (λ u l.
        let whole = follows (with_record s) b.1 u.1 h.0 (follows b.1 g.1 u.1 k.0 l) in
        keeps (InTo s) (Record n, with_known (λ k. record k { records = slice_set k.records n (record (g.0) { module_number = u.1.world.module_number; line = n ∷ (g.0).line; extent = rounded_extent (g.0).extent }) }) u.1)
        (record_set s u.1 (record (g.0) { module_number = u.1.world.module_number; line = n ∷ (g.0).line; extent = rounded_extent (g.0).extent }) (g.0).line refl
        (subst (IsBaseLine (records_of u.1)) (sym k.1) (base_line_later (records_of (with_record s)) (records_of u.1) (b.0).line whole.grown.records h.1)) whole))))
    i_type (S.Pointer i j base) s = and_then (i_pointed s base (type_part p base) (forward_name p (with_pointer s) base) (i_type base (with_pointer s))) (λ r h. keeps (InTo s) (Pointer (length (bases_of s)), r.1) h)
    i_type (S.Procedure i formals) s = i_next (i_aside (formal_part p false formals) s) (λ r. keeps (InTo r.1) (Procedure ((r.0).0).formals (r.0).1, r.1) (still r.1))

    i_fields : (n : ℕ) (x : S.MaybeFields) (g : Layout) (s : Making) → Gives (Lined s g.line) (fields_part p n x g s)
    i_fields n S.no_fields g s = keeps (Lined s g.line) (g, s) (still s, refl)
    i_fields n (S.fields names colon of) g s = and_then (i_stand_fields (idents_list names) g s) (λ u h. and_then (i_type of u.1) (λ a k.
        keeps (Lined s g.line) (add_fields p n a.1.world a.0 (idents_list names) g, a.1) (follows s u.1 a.1 h k, line_same n a.1.world a.0 (idents_list names) g)))

    i_more : (n : ℕ) (x : S.NextFields) (g : Layout) (s : Making) → Gives (Lined s g.line) (more_part p n x g s)
    i_more n S.no_more_fields g s = keeps (Lined s g.line) (g, s) (still s, refl)
    i_more n (S.next_fields semicolon one rest) g s = and_then (i_fields n one g s) (λ h k. weaken (i_more n rest h.0 h.1) (λ q l. (follows s h.1 q.1 k.0 l.0, l.1 ∙ k.1)))
