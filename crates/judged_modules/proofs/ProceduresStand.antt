-- Procedures judged are well-formed, and what is in scope stays sound.
use Rattle.std.proofs.Common.{◌≡◌, ℕ, suc, ◌+◌, ◌<◌, ◌≤◌, List, [], ◌∷◌, ◌++◌, length, Bool, true, false, not, ◌&&◌, Option, Some, refl, ap, sym, ◌∙◌, subst, arith, inl, inr}
use Rattle.std.specs.Prelude.{slice_get, slice_set, is_some, if◌then◌else◌}
use Rattle.std.specs.Str.{bytes_eq}
use Rattle.ob_types.proofs.Tests.{no, none_some, some_same, and_from, less_or_past}
use Rattle.ob_syntax.specs.Syntax as S
use Rattle.ob_syntax.specs.declared.names.Identdef.{Identdef}
use Rattle.ob_judge.specs.Judged.{Judged, Keeps, ◌>>=◌, rule}
use Rattle.ob_judge.specs.Shapes.{Shape}
use Rattle.ob_judge.specs.Shapes.{Procedure as ProcedureOf}
use Rattle.ob_judge.specs.Image.{Formal, Procedure, Statements, Checked}
use Rattle.ob_judge.specs.Scopes.{Object, AProcedure, Entry, Source, place, spelled, line, no_names}
use Rattle.ob_judge.specs.Texts.{texts_of}
use Rattle.ob_judge.specs.Expressions.{constant}
use Rattle.ob_judge.specs.Statements.{body_of}
use Rattle.ob_judge.specs.Making.{Making, Part, with_levels, declare_outer, without_last, offer_if, no_procedure}
use Rattle.ob_judge.specs.Scopes.{AConstant, AVariable}
use Rattle.ob_judge.specs.Parameters.{Listed, idents_list, symbols_of}
use Rattle.ob_judge.specs.Declarations.{each, home_here, place_here, const_part, types_part, variable_part, var_part, consts_in, types_in, vars_in, answer, decls_part, procedures_part}
use Rattle.judged_well.specs.Gives.{Gives}
use Rattle.judged_well.specs.Setting.{IsOrder}
use Rattle.judged_well.specs.Standing.{good, goods, is_result, IsRead}
use Rattle.judged_well.proofs.Judging.{keeps, weaken, and_then, gives_both}
use Rattle.judged_well.proofs.Statements.{t_body}
use Rattle.judged_well.proofs.Whole.{t_answer}
use Rattle.judged_modules.specs.Final.{Final, setting_in}
use Rattle.judged_modules.specs.Agrees.{Agrees, IsVariable, IsProcedure, is_made, value_shapes, formals_of}
use Rattle.judged_modules.specs.Sound.{IsKept, AllNames, Sound, IsHere}
use Rattle.judged_modules.specs.Made.{AreParameters, IsWell, AllMade}
use Rattle.judged_modules.proofs.Lists.{get_append, get_behind, get_last, get_within, set_other, set_here, set_length, append_length}
use Rattle.judged_modules.proofs.Growing.{Grows, untouched, self, onward}
use Rattle.judged_modules.specs.Lists.{Each}
use Rattle.judged_modules.proofs.TypesGrow.{InTo, i_next, i_look, i_stand, i_type}
use Rattle.judged_modules.proofs.DeclarationsGrow.{t_typed, i_declared}
use Rattle.judged_modules.proofs.Righting.{agrees_back, here_in, right_of}
use Rattle.judged_modules.proofs.Keeping.{Ok, Some_, given, k_stand, offer_world}
use Rattle.judged_modules.proofs.Fields.{decided}
use Rattle.judged_modules.proofs.Parameters.{heads_grow, HasParameters, IsListed, IsListedFormal, look_as, Forms, l_formals}
use Rattle.judged_modules.proofs.DeclarationsStand.{k_each, k_const, k_types, k_var}

-- what constants, types and variables leave as it was
pub record Quiet {A : Type 0} (s : Making) (r : A × Making) : Type 0 where
  pub values : (r.1).values ≡ s.values
  pub procedures : (r.1).procedures ≡ s.procedures

q_next : {A B : Type 0} {s : Making} {m : Judged (A × Making)} {f : A × Making → Judged (B × Making)} → Gives (Quiet s) m → ((r : A × Making) → Gives (Quiet r.1) (f r)) → Gives (Quiet s) (m >>= f)
q_next {s = s} g next = and_then g (λ r h. weaken (next r) (λ q k. record { values = k.values ∙ h.values; procedures = k.procedures ∙ h.procedures }))

q_in : {A : Type 0} {m : Judged (A × Making)} (s : Making) → Gives (InTo s) m → Gives (Quiet s) m
q_in s g = weaken g (λ q k. record { values = k.values_same; procedures = k.procedures_same })

module _ (p : Source) where
  q_each : {X : Type 0} (f : X → Part (Unit {0})) → ((x : X) (s : Making) → Gives (Quiet s) (f x s)) → (xs : List X) (s : Making) → Gives (Quiet s) (each f xs s)
  q_each f g [] s = keeps (Quiet s) (tt, s) (record { values = refl; procedures = refl })
  q_each f g (x ∷ xs) s = q_next (g x s) (λ r. q_each f g xs r.1)

  q_const : (d : S.ConstDecl) (s : Making) → Gives (Quiet s) (const_part p d s)
  q_const d s = q_in s (i_next (i_stand p (d.name.name ∷ []) s) (λ r. i_next (i_look (constant p (r.1).world d.value) r.1) (λ c. i_declared p d.name (AConstant c.0) c.1)))

  q_types : (ds : List S.TypeDecl) (s : Making) → Gives (Quiet s) (types_part p ds s)
  q_types ds s = weaken (t_typed p ds s) (λ r h. record { values = h.sets.values ∙ h.grown.values_same; procedures = h.sets.procedures ∙ h.grown.procedures_same })

  q_variable : (a : Shape) (x : Identdef) (s : Making) → Gives (Quiet s) (variable_part p a x s)
  q_variable a x s = and_then (i_declared p x (AVariable (record { shape = a; place = place_here s.world.procedure s.world.module_number (s.values + length s.variables); home = home_here s.world.procedure; owner = s.world.module_number; procedure = s.world.procedure })) s)
      (λ r h. keeps (Quiet s) (tt, record (r.1) { variables = (r.1).variables ++ a ∷ [] }) (record { values = h.values_same; procedures = h.procedures_same }))

  q_var : (d : S.VarDecl) (s : Making) → Gives (Quiet s) (var_part p d s)
  q_var d s = q_next (q_in s (i_stand p (symbols_of (idents_list d.names)) s)) (λ r. q_next (q_in r.1 (i_type p d.of r.1)) (λ a. q_each (variable_part p a.0) (λ x u. q_variable a.0 x u) (idents_list d.names) a.1))

module _ (w : Final) where
  -- ---- scopes

  all_more : (P : Object → Type 0) (ls : List (List ℕ → Option Entry)) → AllNames P ls → AllNames P (ls ++ no_names ∷ [])
  all_more P [] h = ((λ q x at. none_some x at), tt)
  all_more P (l ∷ ls) h = (h.0, all_more P ls h.1)

  all_fewer : (P : Object → Type 0) (ls : List (List ℕ → Option Entry)) → AllNames P ls → AllNames P (without_last ls)
  all_fewer P [] h = tt
  all_fewer P (l ∷ []) h = tt
  all_fewer P (l ∷ k ∷ ls) h = (h.0, all_fewer P (k ∷ ls) h.1)

  all_outer : (P : Object → Type 0) (name : List ℕ) (e : Entry) (ls : List (List ℕ → Option Entry)) → P e.object → AllNames P ls → AllNames P (declare_outer name e ls)
  all_outer P name e [] h all = tt
  all_outer P name e (l ∷ []) h all = all
  all_outer P name e (l ∷ k ∷ []) h all = ((λ q x at. by (bytes_eq name q) q x at), all.1)
    where
      by : (b : Bool) (q : List ℕ) (x : Entry) → (if b then Some e else l q) ≡ Some x → P x.object
      by true q x at = subst (λ y. P y.object) (some_same e x at) h
      by false q x at = all.0 q x at
  all_outer P name e (l ∷ k ∷ m ∷ ls) h all = (all.0, all_outer P name e (k ∷ m ∷ ls) h all.1)

  -- what becomes of declarations: only more, and all new procedures are well-formed
  pub record Done (s : Making) (r : Unit {0} × Making) : Type 0 where
    pub grown : Grows s r.1
    pub values : (r.1).values ≡ s.values
    pub sound : Agrees w r.1 → Sound w s.world → Sound w (r.1).world × AllMade w (length s.procedures) r.1

  pub made_next : (n : ℕ) (s t u : Making) → Grows t u → AllMade w n t → AllMade w (length t.procedures) u → AllMade w n u
  made_next n s t u g h k = record { each = λ f q from at. elim (less_or_past f (length t.procedures)) as (λ _. IsWell w f q) [ inl less ↦ h.each f q from (sym (g.procedures f less) ∙ at) | inr past ↦ k.each f q past at ] }

  pub none_made : (s : Making) → AllMade w (length s.procedures) s
  none_made s = record { each = λ f q from at. let l = get_within s.procedures f q at in absurd (omega (arith, from, l)) }

  pub from_length : (n m : ℕ) (s : Making) → n ≡ m → AllMade w n s → AllMade w m s
  from_length n m s e h = subst (λ k. AllMade w k s) e h

  module _ (p : Source) where
    -- ---- one procedure

    abbrev enter : ℕ → Making → Making
    enter f s = record s { world = record s.world { levels = s.world.levels ++ no_names ∷ []; procedure = Some f }; standing = []; values = 0; variables = [] }

    abbrev leave : Making → Making → Making
    leave s t = record s { world = record s.world { levels = without_last t.world.levels; known = t.world.known }; objects = t.objects; procedures = t.procedures }

    abbrev with_heading : Making → Making
    with_heading s = record s { procedures = s.procedures ++ no_procedure ∷ [] }

    abbrev entry_of : ℕ → Identdef → Bool → Listed × Shape → Entry
    entry_of f name is_local h = record { object = AProcedure f (ProcedureOf (h.0).formals h.1) is_local; exported = is_some name.star }

    abbrev headed : ℕ → Identdef → Bool → (Listed × Shape) × Making → Making
    headed f name is_local h = offer_if (not is_local) (spelled p name.name) (entry_of f name is_local h.0) (with_levels (declare_outer (spelled p name.name) (entry_of f name is_local h.0)) h.1)

    headed_grows : (f : ℕ) (name : Identdef) (b : Bool) (h : (Listed × Shape) × Making) → Grows h.1 (headed f name b h)
    headed_grows f name true h = untouched h.1 _ refl refl refl refl refl refl refl
    headed_grows f name false h = untouched h.1 _ refl refl refl refl refl refl refl

    headed_values : (f : ℕ) (name : Identdef) (b : Bool) (h : (Listed × Shape) × Making) → (headed f name b h).values ≡ (h.1).values
    headed_values f name true h = refl
    headed_values f name false h = refl

    headed_procedures : (f : ℕ) (name : Identdef) (b : Bool) (h : (Listed × Shape) × Making) → (headed f name b h).procedures ≡ (h.1).procedures
    headed_procedures f name true h = refl
    headed_procedures f name false h = refl

    -- a procedure that is judged: what its heading made, what its declarations made, and what it becomes
    abbrev becomes : (f line_ : ℕ) → (Listed × Shape) → Making → Statements → Option Checked → Procedure
    becomes f line_ h d b a = record { module_number = d.world.module_number; line = line_; is_body = false; formals = (h.0).parameters; result = h.1; locals = d.variables; texts = texts_of b a; body = b; answer = a }

    abbrev ended : ℕ → Making → Making → Procedure → Making
    ended f s d q = leave (with_heading s) (record d { procedures = slice_set d.procedures f q })

    length_more : {A : Type 0} (xs : List A) (y : A) → length (xs ++ y ∷ []) ≡ suc (length xs)
    length_more xs y = let h = append_length xs (y ∷ []) in omega (arith, h)

    other_than : (g f : ℕ) → g < f → g ≡ f → ⊥
    other_than g f l e = absurd (omega (arith, l, e))

    ended_grows : (s d : Making) (q : Procedure) → Grows (enter (length s.procedures) (with_heading s)) d → Grows s (ended (length s.procedures) s d q)
    ended_grows s d q g =
        let f = length s.procedures in
        record {
          records_more = g.records_more;
          records = g.records;
          bases_more = g.bases_more;
          bases = g.bases;
          procedures_more = let a = g.procedures_more in let b = length_more s.procedures no_procedure in let c = set_length d.procedures f q in omega (arith, a, b, c);
          procedures = λ h less. set_other d.procedures f h q (other_than h f less) ∙ g.procedures h (let b = length_more s.procedures no_procedure in omega (arith, less, b)) ∙ get_append s.procedures (no_procedure ∷ []) h less;
          variables = λ v x at. (refl, at);
          procedure = refl;
          module_number = refl;
          lines = g.lines;
        }

    -- what agrees at its end agreed before it
    ended_agrees : (s d : Making) (q : Procedure) → Grows (enter (length s.procedures) (with_heading s)) d → q.locals ≡ d.variables → d.values ≡ length (value_shapes q.formals) → is_made q ≡ true
        → Agrees w (ended (length s.procedures) s d q) → Agrees w d
    ended_agrees s d q g locals values made agrees =
        let f = length s.procedures in
        let open_ : slice_get d.procedures f ≡ Some no_procedure = g.procedures f (let b = length_more s.procedures no_procedure in omega (arith, b)) ∙ get_last s.procedures no_procedure in
        let is = agrees.procedure f q (set_here d.procedures f q (get_within d.procedures f no_procedure open_)) made in
        record {
          there = agrees.there;
          extends = agrees.extends;
          field = agrees.field;
          target = agrees.target;
          pointer = agrees.pointer;
          procedure = λ h x at x_made. agrees.procedure h x (set_other d.procedures f h q (λ e. not_open h x e open_ at x_made) ∙ at) x_made;
          variable = λ v x at. subst (λ o. IsVariable w o d.world.module_number d.values v x) (sym g.procedure)
              (ap (λ n. w.variable f (n + v)) values ∙ is.variable (length (value_shapes q.formals) + v) x (get_behind (value_shapes q.formals) q.locals v ∙ ap (λ xs. slice_get xs v) locals ∙ at));
        }
      where
        not_open : (h : ℕ) (x : Procedure) → h ≡ length s.procedures → slice_get d.procedures (length s.procedures) ≡ Some no_procedure → slice_get d.procedures h ≡ Some x → is_made x ≡ true → ⊥
        not_open h x e open_ at x_made = no (ap is_made (some_same no_procedure x (sym open_ ∙ ap (slice_get d.procedures) (sym e) ∙ at)) ∙ x_made)

    parameters_in : (f : ℕ) (q : Procedure) → IsProcedure w f q → HasParameters w f q.formals
    parameters_in f q is = record { parameter = is.parameter; value = λ v a at. is.variable v a (get_append (value_shapes q.formals) q.locals v (get_within (value_shapes q.formals) v a at) ∙ at) }

    enter_sound : (s : Making) (f : ℕ) → Sound w s.world → Sound w (enter f (with_heading s)).world
    enter_sound s f h = record { names = all_more (IsKept w s.world.module_number) s.world.levels h.names; members = h.members; fields = h.fields; narrowed = h.narrowed }

    leave_sound : (s d : Making) → d.world.module_number ≡ s.world.module_number → Sound w s.world → Sound w d.world → (q : Procedure) (f : ℕ) → Sound w (ended f s d q).world
    leave_sound s d same outer inner q f = record {
      names = all_fewer (IsKept w s.world.module_number) d.world.levels (subst (λ n. AllNames (IsKept w n) d.world.levels) same inner.names);
      members = outer.members;
      fields = inner.fields;
      narrowed = outer.narrowed;
    }

    headed_sound : (f : ℕ) (name : Identdef) (b : Bool) (h : (Listed × Shape) × Making) → IsListed w (h.0).0 → is_result (h.0).1 ≡ true → good (setting_in w 0) (h.0).1 ≡ true → w.heading f ≡ Some (formals_of ((h.0).0).parameters, (h.0).1) → Sound w (h.1).world → Sound w (headed f name b h).world
    headed_sound f name b h listed r g heads sound = subst (λ v. Sound w v) (sym (offer_world w (not b) (spelled p name.name) (entry_of f name b h.0) (with_levels (declare_outer (spelled p name.name) (entry_of f name b h.0)) h.1))) (record {
      names = all_outer (IsKept w (h.1).world.module_number) (spelled p name.name) (entry_of f name b h.0) (h.1).world.levels
          (λ x seen. ((((h.0).0).formals, (h.0).1, refl, heads ∙ ap (λ ps. Some (ps, (h.0).1)) listed.same, and_from (goods (setting_in w 0) ((h.0).0).formals) (is_result (h.0).1 && good (setting_in w 0) (h.0).1) listed.goods (and_from (is_result (h.0).1) (good (setting_in w 0) (h.0).1) r g)), tt)) sound.names;
      members = sound.members;
      fields = sound.fields;
      narrowed = sound.narrowed;
    })

    are_parameters : (xs : List Formal) → Each (IsListedFormal w) xs → AreParameters w xs
    are_parameters [] h = tt
    are_parameters (x ∷ xs) h = (((h.0).0, ((h.0).1).0, ((h.0).1).1), are_parameters xs h.1)

    module _ (order : (f : ℕ) → IsOrder (setting_in w f)) (read : IsRead p) where
      -- the whole of one procedure, once its parts were judged
      one_done : (s : Making) (name : Identdef) (is_local : Bool) (h : (Listed × Shape) × Making) (d : Unit {0} × Making) (end_word : ℕ) (returned : Option S.Returned) (body : Option S.Body) (b : Statements) (a : Option Checked)
          → Forms w p order true (length s.procedures) (enter (length s.procedures) (with_heading s)) h
          → Done (headed (length s.procedures) name is_local h) d
          → body_of p (d.1).world body ≡ Keeps b → answer p (h.0).1 end_word returned (d.1).world ≡ Keeps a
          → Done s (tt, ended (length s.procedures) s d.1 (becomes (length s.procedures) (line p name.name) h.0 d.1 b a))
      one_done s name is_local h d end_word returned body b a forms done is_b is_a =
          let f = length s.procedures in
          let start = enter f (with_heading s) in
          let q = becomes f (line p name.name) h.0 d.1 b a in
          let t = ended f s d.1 q in
          let into = onward start h.1 (headed f name is_local h) (heads_grow true start h.1 forms.heads refl) (headed_grows f name is_local h) in
          let whole = onward start (headed f name is_local h) d.1 into done.grown in
          record {
            grown = ended_grows s d.1 q whole;
            values = refl;
            sound = λ agrees sound.
                let open_ = whole.procedures f (let l = length_more s.procedures no_procedure in omega (arith, l)) ∙ get_last s.procedures no_procedure in
                let is = agrees.procedure f q (set_here (d.1).procedures f q (get_within (d.1).procedures f no_procedure open_)) refl in
                let values = done.values ∙ headed_values f name is_local h ∙ forms.values (λ i. refl) refl in
                let at_d = ended_agrees s d.1 q whole refl values refl agrees in
                let at_h = agrees_back w h.1 (headed f name is_local h) (headed_grows f name is_local h) (agrees_back w (headed f name is_local h) d.1 done.grown at_d) in
                let first = forms.sound at_h (enter_sound s f sound) (λ i. (refl, refl, refl, parameters_in f q is)) in
                let rest = done.sound at_d (headed_sound f name is_local h first.1 (first.2).0 (first.2).1 (is.heading refl) first.0) in
                let right = right_of w p d.1 at_d rest.0 f (subst (λ o. IsHere o f) (sym whole.procedure) (here_in w f)) in
                let well : IsWell w f q = record {
                  made = refl;
                  body = given b (t_body (setting_in w f) (order f) p read (d.1).world right body) is_b;
                  answer = given a (t_answer (setting_in w f) (order f) p read (d.1).world right (h.0).1 (first.2).0 (first.2).1 end_word returned) is_a;
                  texts = refl;
                  formals = are_parameters ((h.0).0).parameters (first.1).each;
                  result = first.2;
                } in (
                  leave_sound s d.1 whole.module_number sound rest.0 q f,
                  record {
                    each = λ g x from at. elim (decided w g f) as (λ _. IsWell w g x) [
                      | inl e ↦ subst (λ k. IsWell w k x) (sym e) (subst (λ y. IsWell w f y) (some_same q x (sym (set_here (d.1).procedures f q (get_within (d.1).procedures f no_procedure open_)) ∙ ap (slice_get (slice_set (d.1).procedures f q)) (sym e) ∙ at)) well)
                      | inr other ↦ (rest.1).each g x (let l = length_more s.procedures no_procedure in let n = ap length (headed_procedures f name is_local h ∙ forms.heads.procedures) in past f g (length (headed f name is_local h).procedures) (n ∙ l) from other) (sym (set_other (d.1).procedures f g q other) ∙ at)
                    ];
                  },
                );
          }
        where
          past : (f g n : ℕ) → n ≡ suc f → f ≤ g → (g ≡ f → ⊥) → n ≤ g
          past f g n e from other = elim (less_or_past f g) as (λ _. n ≤ g) [ inl less ↦ omega (arith, e, less) | inr back ↦ absurd (other (omega (arith, from, back))) ]

      -- ---- one after the other

      pub done_self : (s : Making) → Done s (tt, s)
      done_self s = record { grown = self s; values = refl; sound = λ agrees sound. (sound, none_made s) }

      pub done_on : (s : Making) (t u : Unit {0} × Making) → Done s t → Done t.1 u → Done s u
      done_on s t u h k = record {
        grown = onward s t.1 u.1 h.grown k.grown;
        values = k.values ∙ h.values;
        sound = λ agrees sound.
            let a = h.sound (agrees_back w t.1 u.1 k.grown agrees) sound in
            let b = k.sound agrees a.0 in
            (b.0, made_next (length s.procedures) s t.1 u.1 k.grown a.1 b.1);
      }

      pub quiet_done : (s : Making) (r : Unit {0} × Making) → Ok w (Unit {0}) (Some_ w) s r → Quiet s r → Done s r
      quiet_done s r h k = record {
        grown = h.grown;
        values = k.values;
        sound = λ agrees sound. ((h.sound tt agrees sound).0, from_length (length (r.1).procedures) (length s.procedures) r.1 (ap length k.procedures) (none_made r.1));
      }

      -- what a heading made of this
      record Headed (f : ℕ) (name : Identdef) (is_local : Bool) (s : Making) (r : (Listed × Shape) × Making) : Type 0 where
        pub before : Making
        pub forms : Forms w p order true f s (r.0, before)
        pub is : r.1 ≡ headed f name is_local (r.0, before)

      record Ended (s : Making) (r : Unit {0} × Making) : Type 0 where
        pub inner : Making
        pub made : Procedure
        pub is : r.1 ≡ record inner { procedures = slice_set inner.procedures (length s.procedures) made }
        pub done : Done s (tt, ended (length s.procedures) s inner made)

      mutual
        pub k_decls : (d : S.Decls) (s : Making) → Gives (Done s) (decls_part p d s)
        k_decls (S.decls consts types vars procedures) s =
            and_then (gives_both (k_each w p (const_part p) (λ d u. k_const w order p read d u) (consts_in consts) s) (q_each p (const_part p) (λ d u. q_const p d u) (consts_in consts) s)) (λ a ha.
            and_then (gives_both (k_types w order p read {Before = Unit {0}} (types_in types) a.1) (q_types p (types_in types) a.1)) (λ b hb.
            and_then (gives_both (k_each w p (var_part p) (λ d u. k_var w order p read d u) (vars_in vars) b.1) (q_each p (var_part p) (λ d u. q_var p d u) (vars_in vars) b.1)) (λ c hc.
            weaken (k_procedures procedures c.1) (λ q hq. done_on s a q (quiet_done s a ha.0 ha.1) (done_on a.1 b q (quiet_done a.1 b hb.0 hb.1) (done_on b.1 c q (quiet_done b.1 c hc.0 hc.1) hq))))))

        pub k_procedures : (x : S.Procedures) (s : Making) → Gives (Done s) (procedures_part p x s)
        k_procedures S.no_procedure s = keeps (Done s) (tt, s) (done_self s)
        k_procedures (S.procedure procedure_word name formals semicolon inner body returned end_word end_name last rest) s =
            and_then (gives_both (k_stand w p {Before = Unit {0}} (name.name ∷ []) s) (weaken (i_stand p (name.name ∷ []) s) (λ r k. k))) (λ r hr.
            let v = r.1 in
            let f = length v.procedures in
            let is_local = is_some v.world.procedure in
            and_then (and_then
            (and_then (and_then (l_formals w p order true f formals (enter f (with_heading v))) (λ h fh. keeps (Headed f name is_local (enter f (with_heading v))) (h.0, headed f name is_local h) (record { before = h.1; forms = fh; is = refl }))) (λ h hh.
            and_then (k_decls inner h.1) (λ d hd.
            and_then (look_as (body_of p (d.1).world body) d.1) (λ b hb.
            and_then (look_as (answer p (h.0).1 end_word returned (b.1).world) b.1) (λ a ha.
            and_then (look_as (rule 37 (place p end_name) (bytes_eq (spelled p end_name) (spelled p name.name))) a.1) (λ u hu.
            let same = hu.0 ∙ ha.0 ∙ hb.0 in
            keeps (Ended v) (tt, record (u.1) { procedures = slice_set (u.1).procedures f (becomes f (line p name.name) h.0 u.1 b.0 a.0) }) (record {
              inner = d.1;
              made = becomes f (line p name.name) h.0 d.1 b.0 a.0;
              is = ap {A = Making} {B = Making} (λ x. record x { procedures = slice_set x.procedures f (becomes f (line p name.name) h.0 x b.0 a.0) }) same;
              done = one_done v name is_local (h.0, hh.before) d end_word returned body b.0 a.0 hh.forms (subst (λ x. Done x d) hh.is hd) hb.1 (ap (λ x. answer p (h.0).1 end_word returned x.world) (sym hb.0) ∙ ha.1);
            })))))))
            (λ e he. keeps (Done v) (tt, leave (with_heading v) e.1) (subst (λ x. Done v (tt, leave (with_heading v) x)) (sym he.is) he.done)))
            (λ t ht. weaken (k_procedures rest t.1) (λ q hq. done_on s (tt, v) q (quiet_done s (tt, v) hr.0 (record { values = (hr.1).values_same; procedures = (hr.1).procedures_same })) (done_on v t q ht hq))))
