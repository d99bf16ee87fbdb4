-- Procedures judged leave what is made tidy, and no procedure is a module's body.
use Rattle.std.proofs.Common.{◌≡◌, ℕ, suc, ◌<◌, ◌≤◌, List, [], ◌∷◌, ◌++◌, length, Bool, true, false, not, Option, Some, refl, ap, sym, ◌∙◌, subst, arith, inl, inr}
use Rattle.std.specs.Prelude.{slice_get, slice_set, is_some, if◌then◌else◌}
use Rattle.std.specs.Str.{bytes_eq}
use Rattle.ob_types.proofs.Tests.{none_some, some_same, less_or_past}
use Rattle.ob_syntax.specs.Syntax as S
use Rattle.ob_syntax.specs.declared.names.Identdef.{Identdef}
use Rattle.ob_judge.specs.Judged.{rule}
use Rattle.ob_judge.specs.Shapes.{Shape}
use Rattle.ob_judge.specs.Shapes.{Procedure as ProcedureOf}
use Rattle.ob_judge.specs.Image.{Procedure, Statements, Checked}
use Rattle.ob_judge.specs.Scopes.{Object, AProcedure, Entry, Source, place, spelled, line, no_names}
use Rattle.ob_judge.specs.Texts.{texts_of}
use Rattle.ob_judge.specs.Statements.{body_of}
use Rattle.ob_judge.specs.Making.{Making, with_levels, declare_outer, without_last, offer_if, no_procedure}
use Rattle.ob_judge.specs.Parameters.{Listed}
use Rattle.ob_judge.specs.Declarations.{const_part, var_part, consts_in, types_in, vars_in, answer, decls_part, procedures_part}
use Rattle.judged_well.specs.Gives.{Gives}
use Rattle.judged_well.proofs.Judging.{keeps, weaken, and_then}
use Rattle.judged_modules.specs.Agrees.{records_of}
use Rattle.judged_modules.specs.Sound.{AllNames}
use Rattle.judged_modules.proofs.Lists.{get_append, get_last, get_within, set_other, set_here, set_length, append_length}
use Rattle.judged_modules.proofs.Lines.{decided}
use Rattle.judged_modules.proofs.Growing.{Grows, untouched, self, onward}
use Rattle.judged_modules.proofs.Parameters.{heads_grow, look_as}
use Rattle.judged_programs.proofs.Cores.{grown_later}
use Rattle.judged_programs.proofs.Tidy.{Through, s_stand, object_later, offer_same, tidy_offered}
use Rattle.judged_programs.proofs.HeadingsTidy.{no_words, Heading, h_formals}
use Rattle.judged_programs.proofs.DeclarationsTidy.{s_each, s_const, s_types, s_var}
use Rattle.judged_programs.specs.Tidy.{IsKnownObject, IsLegalProcedure, IsNested, IsOfModule, Tidy}

-- ---- scopes

names_more : (P : Object → Type 0) (ls : List (List ℕ → Option Entry)) → AllNames P ls → AllNames P (ls ++ no_names ∷ [])
names_more P [] h = ((λ q x at. none_some x at), tt)
names_more P (l ∷ ls) h = (h.0, names_more P ls h.1)

names_fewer : (P : Object → Type 0) (ls : List (List ℕ → Option Entry)) → AllNames P ls → AllNames P (without_last ls)
names_fewer P [] h = tt
names_fewer P (l ∷ []) h = tt
names_fewer P (l ∷ k ∷ ls) h = (h.0, names_fewer P (k ∷ ls) h.1)

of_declared : (P : Object → Type 0) (name : List ℕ) (e : Entry) (l : List ℕ → Option Entry) → P e.object → ((q : List ℕ) (x : Entry) → l q ≡ Some x → P x.object)
    → (q : List ℕ) (x : Entry) → (if bytes_eq name q then Some e else l q) ≡ Some x → P x.object
of_declared P name e l h all q x at = by (bytes_eq name q) at
  where
    by : (b : Bool) → (if b then Some e else l q) ≡ Some x → P x.object
    by true at = subst (λ y. P y.object) (some_same e x at) h
    by false at = all q x at

names_outer : (P : Object → Type 0) (name : List ℕ) (e : Entry) (ls : List (List ℕ → Option Entry)) → P e.object → AllNames P ls → AllNames P (declare_outer name e ls)
names_outer P name e [] h all = tt
names_outer P name e (l ∷ []) h all = all
names_outer P name e (l ∷ k ∷ []) h all = (of_declared P name e l h all.0, all.1)
names_outer P name e (l ∷ k ∷ m ∷ ls) h all = (all.0, names_outer P name e (k ∷ m ∷ ls) h all.1)

depth_outer : (name : List ℕ) (e : Entry) (ls : List (List ℕ → Option Entry)) → length (declare_outer name e ls) ≡ length ls
depth_outer name e [] = refl
depth_outer name e (l ∷ []) = refl
depth_outer name e (l ∷ k ∷ []) = refl
depth_outer name e (l ∷ k ∷ m ∷ ls) = let h = depth_outer name e (k ∷ m ∷ ls) in omega (arith, h)

depth_fewer : (ls : List (List ℕ → Option Entry)) (n : ℕ) → length ls ≡ suc n → length (without_last ls) ≡ n
depth_fewer [] n h = absurd (omega (arith, h))
depth_fewer (l ∷ []) n h = omega (arith, h)
depth_fewer (l ∷ k ∷ ls) n h = let g = depth_fewer (k ∷ ls) (length ls) (omega arith) in omega (arith, g, h)

nested_more : (ls : List (List ℕ → Option Entry)) (o : Option ℕ) (f n : ℕ) → IsNested ls o n → IsNested (ls ++ no_names ∷ []) (Some f) n
nested_more [] o f n h = absurd h
nested_more (l ∷ []) o f n h = absurd h
nested_more (l ∷ k ∷ []) o f n h = h.1
nested_more (l ∷ k ∷ m ∷ ls) o f n h = h

nested_outer : (name : List ℕ) (e : Entry) (ls : List (List ℕ → Option Entry)) (o : Option ℕ) (n : ℕ) → IsOfModule n e.object → IsNested ls o n → IsNested (declare_outer name e ls) o n
nested_outer name e [] o n placed h = absurd h
nested_outer name e (l ∷ []) o n placed h = absurd h
nested_outer name e (l ∷ k ∷ []) o n placed h = h
nested_outer name e (l ∷ k ∷ m ∷ []) o n placed h = of_declared (IsOfModule n) name e k placed h
nested_outer name e (l ∷ k ∷ m ∷ j ∷ []) o n placed h = h
nested_outer name e (l ∷ k ∷ m ∷ j ∷ i ∷ ls) o n placed h = h

-- one scope less, as many as before
nested_fewer : (ls outer : List (List ℕ → Option Entry)) (o i : Option ℕ) (n : ℕ) → length ls ≡ suc (length outer) → IsNested ls i n → IsNested outer o n → IsNested (without_last ls) o n
nested_fewer ls [] o i n e h g = absurd g
nested_fewer ls (a ∷ []) o i n e h g = absurd g
nested_fewer [] (a ∷ b ∷ outer) o i n e h g = absurd h
nested_fewer (l ∷ []) (a ∷ b ∷ outer) o i n e h g = absurd h
nested_fewer (l ∷ k ∷ []) (a ∷ b ∷ outer) o i n e h g = absurd (omega (arith, e))
nested_fewer (l ∷ k ∷ m ∷ []) (a ∷ b ∷ []) o i n e h g = (g.0, h)
nested_fewer (l ∷ k ∷ m ∷ []) (a ∷ b ∷ c ∷ outer) o i n e h g = absurd (omega (arith, e))
nested_fewer (l ∷ k ∷ m ∷ j ∷ ls) (a ∷ b ∷ outer) o i n e h g = h

-- ---- lists of procedures

more_is : {A : Type 0} (xs : List A) (y : A) → length (xs ++ y ∷ []) ≡ suc (length xs)
more_is xs y = let h = append_length xs (y ∷ []) in omega (arith, h)

pub each_with : (P : ℕ → Procedure → Type 0) (xs : List Procedure) (y : Procedure) → ((f : ℕ) (q : Procedure) → slice_get xs f ≡ Some q → P f q) → P (length xs) y → (f : ℕ) (q : Procedure) → slice_get (xs ++ y ∷ []) f ≡ Some q → P f q
each_with P xs y all one f q at = elim (less_or_past f (length xs)) as (λ _. P f q) [
  | inl less ↦ all f q (sym (get_append xs (y ∷ []) f less) ∙ at)
  | inr past ↦
      let e : f ≡ length xs = (let l = get_within (xs ++ y ∷ []) f q at in let m = more_is xs y in omega (arith, past, l, m)) in
      let same = some_same y q (sym (get_last xs y) ∙ ap (slice_get (xs ++ y ∷ [])) (sym e) ∙ at) in
      subst (λ k. P k q) (sym e) (subst (P (length xs)) same one)
]

pub each_set : (P : ℕ → Procedure → Type 0) (xs : List Procedure) (n : ℕ) (y : Procedure) → ((f : ℕ) (q : Procedure) → slice_get xs f ≡ Some q → P f q) → P n y → (f : ℕ) (q : Procedure) → slice_get (slice_set xs n y) f ≡ Some q → P f q
each_set P xs n y all one f q at = elim (decided f n) as (λ _. P f q) [
  | inl e ↦
      let less : n < length xs = (let l = get_within (slice_set xs n y) f q at in let m = set_length xs n y in omega (arith, l, m, e)) in
      let same = some_same y q (sym (set_here xs n y less) ∙ ap (slice_get (slice_set xs n y)) (sym e) ∙ at) in
      subst (λ k. P k q) (sym e) (subst (P n) same one)
  | inr d ↦ all f q (sym (set_other xs n f y d) ∙ at)
]

no_procedure_legal : IsLegalProcedure no_procedure
no_procedure_legal = record { locals = tt; words = omega arith; result = refl; formals = tt }

module _ (from : ℕ) (p : Source) where
  -- ---- one procedure

  abbrev enter : ℕ → Making → Making
  enter f s = record s { world = record s.world { levels = s.world.levels ++ no_names ∷ []; procedure = Some f }; standing = []; values = 0; variables = [] }

  abbrev leave : Making → Making → Making
  leave s t = record s { world = record s.world { levels = without_last t.world.levels; known = t.world.known }; objects = t.objects; procedures = t.procedures }

  abbrev with_heading : Making → Making
  with_heading s = record s { procedures = s.procedures ++ no_procedure ∷ [] }

  abbrev entry_of : ℕ → Identdef → Bool → Listed × Shape → Entry
  entry_of f name is_local h = record { object = AProcedure f (ProcedureOf (h.0).formals h.1) is_local; exported = is_some name.star }

  abbrev headed : ℕ → Identdef → Bool → (Listed × Shape) × Making → Making
  headed f name is_local h = offer_if (not is_local) (spelled p name.name) (entry_of f name is_local h.0) (with_levels (declare_outer (spelled p name.name) (entry_of f name is_local h.0)) h.1)

  headed_grows : (f : ℕ) (name : Identdef) (b : Bool) (h : (Listed × Shape) × Making) → Grows h.1 (headed f name b h)
  headed_grows f name true h = untouched h.1 _ refl refl refl refl refl refl refl
  headed_grows f name false h = untouched h.1 _ refl refl refl refl refl refl refl

  abbrev becomes : (line_ : ℕ) → (Listed × Shape) → Making → Statements → Option Checked → Procedure
  becomes line_ h d b a = record { module_number = d.world.module_number; line = line_; is_body = false; formals = (h.0).parameters; result = h.1; locals = d.variables; texts = texts_of b a; body = b; answer = a }

  abbrev ended : Making → Making → Procedure → Making
  ended s d q = leave (with_heading s) (record d { procedures = slice_set d.procedures (length s.procedures) q })

  other_than : (g f : ℕ) → g < f → g ≡ f → ⊥
  other_than g f l e = absurd (omega (arith, l, e))

  ended_grows : (s d : Making) (q : Procedure) → Grows (enter (length s.procedures) (with_heading s)) d → Grows s (ended s d q)
  ended_grows s d q g =
      let f = length s.procedures in
      record {
        records_more = g.records_more;
        records = g.records;
        bases_more = g.bases_more;
        bases = g.bases;
        procedures_more = let a = g.procedures_more in let b = more_is s.procedures no_procedure in let c = set_length d.procedures f q in omega (arith, a, b, c);
        procedures = λ h less. set_other d.procedures f h q (other_than h f less) ∙ g.procedures h (let b = more_is s.procedures no_procedure in omega (arith, less, b)) ∙ get_append s.procedures (no_procedure ∷ []) h less;
        variables = λ v x at. (refl, at);
        procedure = refl;
        module_number = refl;
        lines = g.lines;
      }

  enter_tidy : (s : Making) (f : ℕ) → Tidy from s → Tidy from (enter f (with_heading s))
  enter_tidy s f h = record {
    nested = nested_more s.world.levels s.world.procedure f s.world.module_number h.nested;
    names = names_more (IsKnownObject (records_of s)) s.world.levels h.names;
    members = h.members;
    lines = h.lines;
    ranked = h.ranked;
    targets = h.targets;
    whole = tt;
    legal = each_with (λ g q. IsLegalProcedure q) s.procedures no_procedure h.legal no_procedure_legal;
    no_body = λ g q past at. each_with (λ k x. from ≤ k → x.is_body ≡ false) s.procedures no_procedure (λ k x at past. h.no_body k x past at) (λ past. refl) g q at past;
  }

  headed_tidy : (f : ℕ) (name : Identdef) (b : Bool) (h : (Listed × Shape) × Making) → Tidy from h.1 → Tidy from (headed f name b h)
  headed_tidy f name b h tidy = tidy_offered from (not b) (spelled p name.name) (entry_of f name b h.0) (with_levels (declare_outer (spelled p name.name) (entry_of f name b h.0)) h.1) (record {
    nested = nested_outer (spelled p name.name) (entry_of f name b h.0) (h.1).world.levels (h.1).world.procedure (h.1).world.module_number tt tidy.nested;
    names = names_outer (IsKnownObject (records_of h.1)) (spelled p name.name) (entry_of f name b h.0) (h.1).world.levels tt tidy.names;
    members = tidy.members;
    lines = tidy.lines;
    ranked = tidy.ranked;
    targets = tidy.targets;
    whole = tidy.whole;
    legal = tidy.legal;
    no_body = tidy.no_body;
  })

  headed_depth : (f : ℕ) (name : Identdef) (b : Bool) (h : (Listed × Shape) × Making) → length (headed f name b h).world.levels ≡ length (h.1).world.levels
  headed_depth f name b h = ap (λ v. length v.levels) (offer_same (not b) (spelled p name.name) (entry_of f name b h.0) (with_levels (declare_outer (spelled p name.name) (entry_of f name b h.0)) h.1)) ∙ depth_outer (spelled p name.name) (entry_of f name b h.0) (h.1).world.levels

  leave_tidy : (s d : Making) (q : Procedure) → length d.world.levels ≡ suc (length s.world.levels) → Grows s (ended s d q) → d.world.module_number ≡ s.world.module_number → q.is_body ≡ false → IsLegalProcedure q → Tidy from s → Tidy from d → Tidy from (ended s d q)
  leave_tidy s d q depth g same no_body legal outer inner = record {
    nested = nested_fewer d.world.levels s.world.levels s.world.procedure d.world.procedure s.world.module_number depth (subst (IsNested d.world.levels d.world.procedure) same inner.nested) outer.nested;
    names = names_fewer (IsKnownObject (records_of d)) d.world.levels inner.names;
    members = λ n m at k x is. object_later (records_of s) (records_of d) (grown_later s (ended s d q) g) x.object (outer.members n m at k x is);
    lines = inner.lines;
    ranked = inner.ranked;
    targets = inner.targets;
    whole = outer.whole;
    legal = each_set (λ f x. IsLegalProcedure x) d.procedures (length s.procedures) q inner.legal legal;
    no_body = λ f x past at. each_set (λ k y. from ≤ k → y.is_body ≡ false) d.procedures (length s.procedures) q (λ k y at past. inner.no_body k y past at) (λ past. no_body) f x at past;
  }

  -- the whole of one procedure, once its parts were judged
  one_stays : (s : Making) (name : Identdef) (is_local : Bool) (h : (Listed × Shape) × Making) (d : Unit {0} × Making) (line_ : ℕ) (b : Statements) (a : Option Checked)
      → Heading from p true (enter (length s.procedures) (with_heading s)) h
      → Through from (headed (length s.procedures) name is_local h) d
      → Through from s (tt, ended s d.1 (becomes line_ h.0 d.1 b a))
  one_stays s name is_local h d line_ b a forms stays =
      let f = length s.procedures in
      let start = enter f (with_heading s) in
      let q = becomes line_ h.0 d.1 b a in
      let into = onward start h.1 (headed f name is_local h) (heads_grow true start h.1 forms.lists.heads refl) (headed_grows f name is_local h) in
      let whole = onward start (headed f name is_local h) d.1 into stays.grown in
      let grown = ended_grows s d.1 q whole in
      let depth : length (d.1).world.levels ≡ suc (length s.world.levels) = stays.depth ∙ headed_depth f name is_local h ∙ forms.lists.depth ∙ more_is s.world.levels no_names in
      record {
        grown = grown;
        depth = depth_fewer (d.1).world.levels (length s.world.levels) depth;
        tidy = λ before tidy.
            let first = forms.lists.tidy tt (λ i. (f, refl)) (enter_tidy s f tidy) no_words in
            let rest = stays.tidy tt (headed_tidy f name is_local h first.0) in
            let few = first.1 in
            (leave_tidy s d.1 q depth grown whole.module_number refl (record { locals = (rest.0).whole; words = let c = few.counted in let l = few.few in omega (arith, c, l); result = forms.result (λ i. (f, refl)) (enter_tidy s f tidy); formals = few.formals }) tidy rest.0, tt);
      }

  -- what a heading made of this
  record Headed (f : ℕ) (name : Identdef) (is_local : Bool) (s : Making) (r : (Listed × Shape) × Making) : Type 0 where
    pub before : Making
    pub forms : Heading from p true s (r.0, before)
    pub is : r.1 ≡ headed f name is_local (r.0, before)

  record Ended (s : Making) (r : Unit {0} × Making) : Type 0 where
    pub inner : Making
    pub made : Procedure
    pub is : r.1 ≡ record inner { procedures = slice_set inner.procedures (length s.procedures) made }
    pub stays : Through from s (tt, ended s inner made)

  pub stays_self : (s : Making) → Through from s (tt, s)
  stays_self s = record { grown = self s; depth = refl; tidy = λ before tidy. (tidy, tt) }

  pub stays_on : (s : Making) (t u : Unit {0} × Making) → Through from s t → Through from t.1 u → Through from s u
  stays_on s t u h k = record { grown = onward s t.1 u.1 h.grown k.grown; depth = k.depth ∙ h.depth; tidy = λ before tidy. k.tidy tt (h.tidy tt tidy).0 }

  mutual
    pub s_decls : (d : S.Decls) (s : Making) → Gives (Through from s) (decls_part p d s)
    s_decls (S.decls consts types vars procedures) s =
        and_then (s_each from p {Before = Unit {0}} (const_part p) (λ d u. s_const from p d u) (consts_in consts) s) (λ a ha.
        and_then (s_types from p {Before = Unit {0}} (types_in types) a.1) (λ b hb.
        and_then (s_each from p {Before = Unit {0}} (var_part p) (λ d u. s_var from p d u) (vars_in vars) b.1) (λ c hc.
        weaken (s_procedures procedures c.1) (λ q hq. stays_on s a q ha (stays_on a.1 b q hb (stays_on b.1 c q hc hq))))))

    pub s_procedures : (x : S.Procedures) (s : Making) → Gives (Through from s) (procedures_part p x s)
    s_procedures S.no_procedure s = keeps (Through from s) (tt, s) (stays_self s)
    s_procedures (S.procedure procedure_word name formals semicolon inner body returned end_word end_name last rest) s =
        and_then (s_stand p {Before = Unit {0}} (name.name ∷ []) s) (λ r hr.
        let v = r.1 in
        let f = length v.procedures in
        let is_local = is_some v.world.procedure in
        and_then (and_then
        (and_then (and_then (h_formals from p true formals (enter f (with_heading v))) (λ h fh. keeps (Headed f name is_local (enter f (with_heading v))) (h.0, headed f name is_local h) (record { before = h.1; forms = fh; is = refl }))) (λ h hh.
        and_then (s_decls inner h.1) (λ d hd.
        and_then (look_as (body_of p (d.1).world body) d.1) (λ b hb.
        and_then (look_as (answer p (h.0).1 end_word returned (b.1).world) b.1) (λ a ha.
        and_then (look_as (rule 37 (place p end_name) (bytes_eq (spelled p end_name) (spelled p name.name))) a.1) (λ u hu.
        let same = hu.0 ∙ ha.0 ∙ hb.0 in
        keeps (Ended v) (tt, record (u.1) { procedures = slice_set (u.1).procedures f (becomes (line p name.name) h.0 u.1 b.0 a.0) }) (record {
          inner = d.1;
          made = becomes (line p name.name) h.0 d.1 b.0 a.0;
          is = ap {A = Making} {B = Making} (λ x. record x { procedures = slice_set x.procedures f (becomes (line p name.name) h.0 x b.0 a.0) }) same;
          stays = one_stays v name is_local (h.0, hh.before) d (line p name.name) b.0 a.0 hh.forms (subst (λ x. Through from x d) hh.is hd);
        })))))))
        (λ e he. keeps (Through from v) (tt, leave (with_heading v) e.1) (subst (λ x. Through from v (tt, leave (with_heading v) x)) (sym he.is) he.stays)))
        (λ t ht. weaken (s_procedures rest t.1) (λ q hq. stays_on s (tt, v) q hr (stays_on v t q ht hq))))
