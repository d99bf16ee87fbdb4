-- Types judged are types that variables may have, and what is in scope stays sound.
use Rattle.std.proofs.Common.{◌≡◌, ℕ, suc, ◌<◌, ◌^◌, List, [], ◌∷◌, ◌++◌, length, true, false, ◌&&◌, Option, Some, None, refl, ap, sym, ◌∙◌, subst, arith}
use Rattle.std.specs.Prelude.{slice_get, slice_set, nat_lt, nat_le, is_none, ℤ, pos, negsuc}
use Rattle.std.proofs.lemmas.Bool.Decides.{nat_tests}
use Rattle.ob_types.proofs.Tests.{no, none_some, some_same, and_of, and_from}
use Rattle.ob_syntax.specs.Syntax as S
use Rattle.ob_syntax.specs.declared.names.Identdef.{Identdef}
use Rattle.ob_syntax.specs.declared.types.Base.{Base}
use Rattle.ob_types.specs.Trees.{rounded_extent}
use Rattle.ob_judge.specs.Judged.{Judged, rule, some}
use Rattle.ob_judge.specs.Shapes.{Shape, Array, Record, Pointer, Procedure, Layout, contains, line_of, cells}
use Rattle.ob_judge.specs.Scopes.{World, Source, place, spelled}
use Rattle.ob_judge.specs.Symbols.{expression_first}
use Rattle.ob_judge.specs.Names.{member_symbol}
use Rattle.ob_judge.specs.Expressions.{constant}
use Rattle.ob_judge.specs.Assignments.{int_only}
use Rattle.ob_judge.specs.Making.{Making, Part, ◌>>>◌, here, with_known, no_layout, set_base, later}
use Rattle.ob_judge.specs.Parameters.{Listed, type_at, idents_list}
use Rattle.ob_judge.specs.Types.{limit, is_length, size_of, array_length, array_lengths, arrays, base_layout, layout_of, record_only, stand_fields, add_fields, among_fields, forward_name, type_part, fields_part, more_part, place_of_type}
use Rattle.judged_well.specs.Gives.{Gives}
use Rattle.judged_well.specs.Setting.{IsOrder}
use Rattle.judged_well.specs.Standing.{is_whole, good, goods, is_result}
use Rattle.judged_well.proofs.Judging.{keeps, and_then, by_rule, by_some, anything, gives_both, weaken}
use Rattle.judged_modules.specs.Final.{Final, setting_in}
use Rattle.judged_modules.specs.Agrees.{Agrees, records_of, bases_of}
use Rattle.judged_modules.specs.Sound.{IsGood, IsKept, IsOffered, AllNames, Sound}
use Rattle.judged_modules.proofs.Lists.{get_last, set_other, set_length, append_length}
use Rattle.judged_modules.proofs.Growing.{Grows, untouched, self, onward}
use Rattle.judged_modules.proofs.TypesGrow.{GrowsIn, InTo, with_record, with_pointer, pointer_set, pointer_waits, i_type}
use Rattle.judged_modules.proofs.Righting.{agrees_back}
use Rattle.judged_modules.proofs.Keeping.{Ok, Some_, k_next, k_look, k_pass, k_give, k_stand}
use Rattle.judged_modules.proofs.Fields.{Adding, inherited, AllFields, fields_with_record, fields_set, adding_later, adding_fields}
use Rattle.judged_modules.proofs.Parameters.{look_as, IsListed, good_type, IsResultType, Forms, l_formals}

module _ (w : Final) where
  -- what agrees once a record type is complete agreed before
  pub agrees_unset : (u : Making) (n : ℕ) (l : Layout) → slice_get (records_of u) n ≡ Some no_layout → Agrees w (with_known (λ k. record k { records = slice_set k.records n l }) u) → Agrees w u
  agrees_unset u n l empty h = record {
    there = λ r less. let e = set_length (records_of u) n l in h.there r (omega (arith, less, e));
    extends = λ a b i. h.extends a b (ap (λ o. contains b (line_of o)) (set_other (records_of u) n a l (λ e. not_empty a b e i)) ∙ i);
    field = λ r i m x at i_at. h.field r i m x (set_other (records_of u) n r l (λ e. no_field r i m x e at i_at) ∙ at) i_at;
    target = h.target;
    pointer = h.pointer;
    procedure = h.procedure;
    variable = h.variable;
  }
    where
      not_empty : (a b : ℕ) → a ≡ n → contains b (line_of (slice_get (records_of u) a)) ≡ true → ⊥
      not_empty a b e i = no (sym (ap (λ o. contains b (line_of o)) (ap (slice_get (records_of u)) e ∙ empty)) ∙ i)

      no_field : (r i : ℕ) (m : Layout) (x : _) → r ≡ n → slice_get (records_of u) r ≡ Some m → slice_get m.added i ≡ Some x → ⊥
      no_field r i m x e at i_at = none_some x (ap (λ y. slice_get y.added i) (some_same no_layout m (sym empty ∙ ap (slice_get (records_of u)) (sym e) ∙ at)) ∙ i_at)

  -- and once the base of a pointer type is known
  pub agrees_unbased : (u : Making) (n r : ℕ) → slice_get (bases_of u) n ≡ Some None → Agrees w (with_known (λ k. record k { bases = slice_set k.bases n (Some r) }) u) → Agrees w u
  agrees_unbased u n r open_ h = record {
    there = h.there;
    extends = h.extends;
    field = h.field;
    target = λ m q at. h.target m q (set_other (bases_of u) n m (Some r) (λ e. known m q e at) ∙ at);
    pointer = λ m less. let e = set_length (bases_of u) n (Some r) in h.pointer m (omega (arith, less, e));
    procedure = h.procedure;
    variable = h.variable;
  }
    where
      known : (m q : ℕ) → m ≡ n → slice_get (bases_of u) m ≡ Some (Some q) → ⊥
      known m q e at = none_some q (some_same None (Some q) (sym open_ ∙ ap (slice_get (bases_of u)) (sym e) ∙ at))

  pub sound_moved : (s t : World) → t.levels ≡ s.levels → t.modules ≡ s.modules → t.module_number ≡ s.module_number → t.known.records ≡ s.known.records → t.narrowed ≡ s.narrowed → Sound w s → Sound w t
  sound_moved s t a b c d e h = record {
    names = subst (λ n. AllNames (IsKept w n) t.levels) (sym c) (subst (AllNames (IsKept w s.module_number)) (sym a) h.names);
    members = λ n m at q x is. subst (λ k. IsOffered w k x.object) (sym c) (h.members n m (ap (λ ms. slice_get ms n) (sym b) ∙ at) q x is);
    fields = subst (AllFields w) (sym d) h.fields;
    narrowed = e ∙ h.narrowed;
  }

  module _ (order : (f : ℕ) → IsOrder (setting_in w f)) (p : Source) where
    -- ---- arrays

    abbrev Small : ℕ → Type 0
    Small n = nat_lt n (2 ^ 32) ≡ true

    abbrev AreSmall : List ℕ → Type 0
    AreSmall [] = Unit {0}
    AreSmall (n ∷ ns) = Small n × AreSmall ns

    small_size : (z : ℤ) → is_length z ≡ true → Small (size_of z)
    small_size (pos n) h = let l = (and_of (nat_lt 0 n) (nat_le n limit) h).1 in grind (arith, nat_tests, l)
    small_size (negsuc n) h = no h

    small_length : (x : S.Expression) (v : World) → Gives Small (array_length p x v)
    small_length x v = and_then (anything (constant p v x)) (λ c i. by_some 31 (place p (expression_first x)) (int_only c) (λ n is.
        by_rule 35 (place p (expression_first x)) (is_length n) (λ ok. keeps Small (size_of n) (small_size n ok))))

    small_lengths : (xs : S.NextExpressions) (v : World) → Gives AreSmall (array_lengths p xs v)
    small_lengths S.no_expression v = keeps AreSmall [] tt
    small_lengths (S.next_expression comma x xs) v = and_then (small_length x v) (λ n h. and_then (small_lengths xs v) (λ ns k. keeps AreSmall (n ∷ ns) (h, k)))

    good_array : (n : ℕ) (a : Shape) → Small n → IsGood w a → IsGood w (Array n a)
    good_array n a h k = (and_from (nat_lt n (2 ^ 32)) (is_whole a && good (setting_in w 0) a) h (and_from (is_whole a) (good (setting_in w 0) a) k.1 k.0), refl)

    good_arrays : (at : ℕ) (ns : List ℕ) → AreSmall ns → (a : Shape) → IsGood w a → (v : World) → Gives (IsGood w) (arrays at ns a v)
    good_arrays at [] h a k v = keeps (IsGood w) a k
    good_arrays at (n ∷ ns) h a k v = and_then (good_arrays at ns h.1 a k v) (λ inner g. by_rule 35 at (nat_le (cells v.known (Array n inner)) limit) (λ ok. keeps (IsGood w) (Array n inner) (good_array n inner h.0 g)))

    -- ---- bases of record types

    abbrev Based : ℕ → Making → Layout → Type 0
    Based n s b = Adding w n (record b { added = [] }) s

    based_on : (n : ℕ) (s : Making) → Sound w s.world → (o : Option Layout) (r : ℕ) → slice_get (records_of s) r ≡ o → Based n s (layout_of o)
    based_on n s sound None r at q f is = none_some f is
    based_on n s sound (Some l) r at q f is = inherited (sound.fields r l q f at is)

    good_base : (n : ℕ) (b : Option Base) (s : Making) → Sound w s.world → Gives (Based n s) (base_layout p b s.world)
    good_base n None s sound = keeps (Based n s) no_layout (λ q f is. none_some f is)
    good_base n (Some b) s sound = and_then (anything (type_at p 42 b.name s.world)) (λ a i. by_some 42 (place p (b.name).name) (record_only a) (λ r is.
        by_rule 42 (place p (b.name).name) (nat_le (length (layout_of (slice_get (records_of s) r)).line) 15) (λ ok.
        keeps (Based n s) (layout_of (slice_get (records_of s) r)) (based_on n s sound (slice_get (records_of s) r) r refl))))

    k_stand_fields : {Before : Type 0} (xs : List Identdef) (g : Layout) (s : Making) → Gives (Ok w Before (Some_ w) s) (stand_fields p xs g s)
    k_stand_fields [] g s = k_give w (Some_ w) tt s (λ before agrees sound. tt)
    k_stand_fields (x ∷ xs) g s = k_next w (k_pass w (rule 36 (place p x.name) (is_none (g.fields (spelled p x.name)))) s) (λ r. k_next w (k_stand w p (x.name ∷ []) r.1) (λ q. k_stand_fields xs g q.1))

    k_among : {A : Type 0} {Before : Type 0} (P : A → Making → Type 0) (m : Part A) (s : Making) → ((a : A) (t : Making) → P a t → P a (record t { standing = s.standing }))
        → Gives (Ok w Before P (record s { standing = [] })) (m (record s { standing = [] })) → Gives (Ok w Before P s) (among_fields m s)
    k_among P m s same g = and_then g (λ r h. keeps (Ok w _ P s) (r.0, record (r.1) { standing = s.standing }) (record {
      grown = onward s r.1 (record (r.1) { standing = s.standing }) (onward s (record s { standing = [] }) r.1 (untouched s _ refl refl refl refl refl refl refl) h.grown) (untouched r.1 _ refl refl refl refl refl refl refl);
      sound = λ before agrees sound. let a = h.sound before (agrees_back w r.1 (record (r.1) { standing = s.standing }) (untouched r.1 _ refl refl refl refl refl refl refl) agrees) sound in (a.0, same r.0 r.1 a.1);
    }))

    -- ---- what pointer types point to

    abbrev HasPointer : Making → Unit {0} → Making → Type 0
    HasPointer s u t = length (bases_of s) < length (bases_of t)

    more_is : {A : Type 0} (xs : List A) (y : A) → length (xs ++ y ∷ []) ≡ suc (length xs)
    more_is xs y = let h = append_length xs (y ∷ []) in omega (arith, h)

    k_pointed : {Before : Type 0} (s : Making) (base : S.TypeTree) (judged : Part Shape) (o : Option ℕ) → Gives (InTo (with_pointer s)) (judged (with_pointer s)) → Gives (Ok w Before (λ a t. IsGood w a) (with_pointer s)) (judged (with_pointer s))
        → Gives (Ok w Before (HasPointer s) s) (elim o as (λ _. Judged (Unit {0} × Making)) [
          | Some name ↦ later (length (bases_of s)) name (with_pointer s)
          | None ↦ (judged >>> λ t. here (λ v. some 31 (place_of_type p base) (record_only t)) >>> λ r. set_base (length (bases_of s)) r) (with_pointer s)
        ])
    k_pointed s base judged (Some name) i g = keeps (Ok w _ (HasPointer s) s) (tt, record (with_pointer s) { forward = s.forward ++ (length (bases_of s), name) ∷ [] }) (record {
      grown = (pointer_waits s name).grown;
      sound = λ before agrees sound. (record { names = sound.names; members = sound.members; fields = sound.fields; narrowed = sound.narrowed }, let h = more_is (bases_of s) None in omega (arith, h));
    })
    k_pointed s base judged None i g = and_then (gives_both i g) (λ t h. and_then (look_as (some 31 (place_of_type p base) (record_only t.0)) t.1) (λ r k.
        let n = length (bases_of s) in
        let whole = subst (λ u. GrowsIn (with_pointer s) u) (sym k.0) h.0 in
        keeps (Ok w _ (HasPointer s) s) (tt, with_known (λ x. record x { bases = slice_set x.bases n (Some r.0) }) r.1) (record {
          grown = (pointer_set s r.1 r.0 whole).grown;
          sound = λ before agrees sound.
              let less : n < length (bases_of (with_pointer s)) = (let e = more_is (bases_of s) None in omega (arith, e)) in
              let here = agrees_unbased r.1 n r.0 (whole.grown.bases n less ∙ get_last (bases_of s) None) agrees in
              let a = (h.1).sound before (subst (Agrees w) k.0 here) (record { names = sound.names; members = sound.members; fields = sound.fields; narrowed = sound.narrowed }) in
              let again = subst (λ u. Sound w u.world) (sym k.0) a.0 in (
                record { names = again.names; members = again.members; fields = again.fields; narrowed = again.narrowed },
                let e = set_length (bases_of r.1) n (Some r.0) in let m = whole.grown.bases_more in omega (arith, less, e, m),
              );
        })))

    -- the half of a part's claim that isn't its growth
    record Stays {A : Type 0} (Before : Type 0) (Q : A → Making → Type 0) (s : Making) (r : A × Making) : Type 0 where
      sound : Before → Agrees w r.1 → Sound w s.world → Sound w (r.1).world × Q r.0 r.1

    -- a record type that becomes complete
    k_complete : {Before : Type 0} (s b g u : Making) (base h l : Layout) → (hb : Grows (with_record s) b) → (hg : Grows b g) → (hu : Grows g u)
        → (Before → Agrees w b → Sound w (with_record s).world → Sound w b.world × Based (length (records_of s)) (with_record s) base)
        → (Based (length (records_of s)) b base → Agrees w g → Sound w b.world → Sound w g.world × Adding w (length (records_of s)) h g)
        → (Agrees w u → Sound w g.world → Sound w u.world × Unit {0})
        → l.line ≡ length (records_of s) ∷ h.line → l.added ≡ h.added → ((q : List ℕ) → l.fields q ≡ h.fields q)
        → Stays Before (λ a t. IsGood w a) s (Record (length (records_of s)), with_known (λ k. record k { records = slice_set k.records (length (records_of s)) l }) u)
    k_complete s b g u base h l hb hg hu sb sg su line added fields =
        let n = length (records_of s) in
        let whole = onward (with_record s) b u hb (onward b g u hg hu) in
        let less : n < length (records_of (with_record s)) = (let e = more_is (records_of s) no_layout in omega (arith, e)) in
        let empty = whole.records n less ∙ get_last (records_of s) no_layout in
        record {
          sound = λ before agrees sound.
              let au = agrees_unset u n l empty agrees in
              let ag = agrees_back w g u hu au in
              let ab = agrees_back w b g hg ag in
              let first = sb before ab (record { names = sound.names; members = sound.members; fields = fields_with_record w (records_of s) sound.fields; narrowed = sound.narrowed }) in
              let then_ = sg (adding_later w n (record base { added = [] }) (with_record s) b hb first.1) ag first.0 in
              let last = su au then_.0 in
              (record { names = (last.0).names; members = (last.0).members; fields = fields_set w u n h l empty line added fields (last.0).fields (adding_later w n h g u hu then_.1); narrowed = (last.0).narrowed }, (refl, refl));
        }

    -- a procedure type
    k_aside : {Before : Type 0} (s : Making) (r : (Listed × Shape) × Making) → Forms w p order false 0 (record s { standing = [] }) r → Ok w Before (λ x t. IsListed w x.0 × IsResultType w p order x.1) s (r.0, s)
    k_aside s r h = record {
      grown = self s;
      sound = λ before agrees sound.
          let back = untouched r.1 s (sym h.heads.records) (sym h.heads.bases) (sym h.heads.procedures) (sym h.heads.variables) (sym (h.heads.values refl)) (sym h.heads.procedure) (sym h.heads.module_number) in
          let a = h.sound (agrees_back w r.1 s back agrees) sound (λ i. no i) in
          (sound, (a.1, a.2));
    }

    good_procedure : (l : Listed) (a : Shape) → IsListed w l → IsResultType w p order a → good (setting_in w 0) (Procedure l.formals a) ≡ true
    good_procedure l a h k = and_from (goods (setting_in w 0) l.formals) (is_result a && good (setting_in w 0) a) h.goods (and_from (is_result a) (good (setting_in w 0) a) k.0 k.1)

    mutual
      pub k_type : {Before : Type 0} (x : S.TypeTree) (s : Making) → Gives (Ok w Before (λ a t. IsGood w a) s) (type_part p x s)
      k_type (S.Named q) s = k_look w (IsGood w) (type_at p 31 q s.world) s (λ before agrees sound. good_type w p order 31 q.name (member_symbol q.member) s agrees sound)
      k_type (S.Array i first more j element) s =
          k_next w (k_look w Small (array_length p first s.world) s (λ before agrees sound. small_length first s.world)) (λ n.
          k_next w (k_look w AreSmall (array_lengths p more (n.1).world) n.1 (λ before agrees sound. small_lengths more (n.1).world)) (λ ns.
          k_next w (k_type element ns.1) (λ a.
          k_look w (IsGood w) (arrays (place p i) (n.0 ∷ ns.0) a.0 (a.1).world) a.1 (λ before agrees sound. good_arrays (place p i) (n.0 ∷ ns.0) (((before.0).0).1, (before.0).1) a.0 before.1 (a.1).world))))
      k_type (S.Record i base first more j) s =
          let n = length (records_of s) in
          let s1 = with_record s in
          weaken (gives_both (i_type p (S.Record i base first more j) s) (and_then (k_look w (Based n s1) (base_layout p base s1.world) s1 (λ before agrees sound. good_base n base s1 sound)) (λ b hb.
          and_then (k_among (λ g t. Adding w n g t) (fields_part p n first (record (b.0) { added = [] }) >>> λ g. more_part p n more g) b.1 (λ a t k. k)
          (k_next w (k_fields n first (record (b.0) { added = [] }) (record (b.1) { standing = [] }) (λ before. before)) (λ g. k_more n more g.0 g.1 (λ before. before.1)))) (λ g hg.
          and_then (k_pass w {Before = Unit {0}} (rule 35 (place p i) (nat_le (g.0).cells limit)) g.1) (λ u hu.
          let l : Layout = record (g.0) { module_number = (u.1).world.module_number; line = n ∷ (g.0).line; extent = rounded_extent (g.0).extent } in
          keeps (Stays _ (λ a t. IsGood w a) s) (Record n, with_known (λ k. record k { records = slice_set k.records n l }) u.1) (k_complete s b.1 g.1 u.1 b.0 g.0 l hb.grown hg.grown hu.grown (λ before. hb.sound before) (λ based. hg.sound based) (hu.sound tt) refl refl (λ q. refl))))))) (λ r h. record { grown = (h.0).grown; sound = (h.1).sound })
      k_type (S.Pointer i j base) s = and_then (k_pointed s base (type_part p base) (forward_name p (with_pointer s) base) (i_type p base (with_pointer s)) (k_type base (with_pointer s))) (λ r h.
          keeps (Ok w _ (λ a t. IsGood w a) s) (Pointer (length (bases_of s)), r.1) (record {
            grown = h.grown;
            sound = λ before agrees sound. let a = h.sound before agrees sound in (a.0, (agrees.pointer (length (bases_of s)) a.1, refl));
          }))
      k_type (S.Procedure i formals) s = and_then (and_then (l_formals w p order false 0 formals (record s { standing = [] })) (λ r h. keeps (Ok w _ (λ x t. IsListed w x.0 × IsResultType w p order x.1) s) (r.0, s) (k_aside s r h))) (λ r h.
          keeps (Ok w _ (λ a t. IsGood w a) s) (Procedure ((r.0).0).formals (r.0).1, r.1) (record {
            grown = h.grown;
            sound = λ before agrees sound. let a = h.sound before agrees sound in (a.0, (good_procedure (r.0).0 (r.0).1 (a.1).0 (a.1).1, refl));
          }))

      k_fields : {Before : Type 0} (n : ℕ) (x : S.MaybeFields) (g : Layout) (s : Making) → (Before → Adding w n g s) → Gives (Ok w Before (λ h t. Adding w n h t) s) (fields_part p n x g s)
      k_fields n S.no_fields g s f = k_give w (λ h t. Adding w n h t) g s (λ before agrees sound. f before)
      k_fields n (S.fields names colon of) g s f = k_next w (k_stand_fields (idents_list names) g s) (λ u. k_next w (k_type of u.1) (λ a.
          k_give w (λ h t. Adding w n h t) (add_fields p n (a.1).world a.0 (idents_list names) g) a.1 (λ before agrees sound.
          adding_fields w p n (a.1).world a.0 before.1 (idents_list names) g a.1 (adding_later w n g u.1 a.1 before.2 (adding_later w n g s u.1 (before.0).2 (f ((before.0).0)))))))

      k_more : {Before : Type 0} (n : ℕ) (x : S.NextFields) (g : Layout) (s : Making) → (Before → Adding w n g s) → Gives (Ok w Before (λ h t. Adding w n h t) s) (more_part p n x g s)
      k_more n S.no_more_fields g s f = k_give w (λ h t. Adding w n h t) g s (λ before agrees sound. f before)
      k_more n (S.next_fields semicolon one rest) g s f = k_next w (k_fields n one g s f) (λ h. k_more n rest h.0 h.1 (λ before. before.1))
