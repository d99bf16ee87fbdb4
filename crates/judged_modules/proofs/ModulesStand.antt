-- Modules judged are well-formed: their imports, declarations and bodies.
use Rattle.std.proofs.Common.{◌≡◌, ℕ, suc, ◌<◌, ◌≤◌, List, [], ◌∷◌, ◌++◌, length, true, false, ◌||◌, None, refl, ap, sym, ◌∙◌, subst, arith, inl, inr}
use Rattle.std.specs.Prelude.{slice_get, slice_set}
use Rattle.std.specs.Str.{bytes_eq}
use Rattle.ob_types.proofs.Tests.{none_some, some_same, less_or_past}
use Rattle.ob_syntax.specs.Syntax as S
use Rattle.ob_syntax.specs.declared.modules.Import.{Import}
use Rattle.ob_judge.specs.Judged.{rule, some}
use Rattle.ob_judge.specs.Shapes.{Nothing}
use Rattle.ob_judge.specs.Image.{Procedure, Statements}
use Rattle.ob_judge.specs.Image as Tree
use Rattle.ob_judge.specs.Scopes.{AModule, AType, Entry, Source, place, spelled, line}
use Rattle.ob_judge.specs.Shapes.{Integer, Boolean, Char, Byte, Set}
use Rattle.ob_judge.specs.Texts.{texts_of}
use Rattle.ob_judge.specs.Statements.{body_of}
use Rattle.ob_judge.specs.Making.{Making, with_levels, declare_last, no_procedure}
use Rattle.ob_judge.specs.Declarations.{each}
use Rattle.ob_judge.specs.Modules.{no_modules, first_making, imported, is_new, import_list, is_in, origin, import_part, module_part}
use Rattle.judged_well.specs.Gives.{Gives}
use Rattle.judged_well.specs.Setting.{IsOrder}
use Rattle.judged_well.specs.Standing.{IsRead}
use Rattle.judged_well.proofs.Judging.{keeps, weaken, and_then, gives_both}
use Rattle.judged_well.proofs.FirstWorld.{of_predeclared}
use Rattle.judged_well.proofs.Statements.{t_body}
use Rattle.judged_modules.specs.Final.{Final, setting_in}
use Rattle.judged_modules.specs.Agrees.{Agrees}
use Rattle.judged_modules.specs.Sound.{IsKept, Sound, IsHere}
use Rattle.judged_modules.specs.Made.{IsWell, AllMade}
use Rattle.judged_modules.proofs.Lists.{get_append, get_within, set_other, set_here, set_length, append_length}
use Rattle.judged_modules.proofs.Growing.{Grows, untouched, onward}
use Rattle.judged_modules.proofs.TypesGrow.{i_stand}
use Rattle.judged_modules.proofs.Righting.{agrees_back, here_between, right_of}
use Rattle.judged_modules.proofs.Keeping.{given, k_stand, sound_declared}
use Rattle.judged_modules.proofs.Fields.{decided}
use Rattle.judged_modules.proofs.Parameters.{look_as}
use Rattle.judged_modules.proofs.ProceduresStand.{Done, done_self, done_on, from_length, k_decls}

module _ (w : Final) where
  -- the scope in which the first module begins
  pub kept_type : (n : ℕ) (a : _) → ((f : ℕ) → Rattle.judged_well.specs.Standing.ObjectStands (setting_in w f) (AType a)) → IsKept w n (AType a)
  kept_type n a h f seen = (h f, tt)

  pub first_sound : Sound w (first_making no_modules).world
  first_sound = record {
    names = (
      of_predeclared (IsKept w 0) (kept_type 0 Integer (λ f. (refl, refl))) (kept_type 0 Boolean (λ f. (refl, refl))) (kept_type 0 Char (λ f. (refl, refl))) (kept_type 0 Byte (λ f. (refl, refl))) (kept_type 0 Set (λ f. (refl, refl))) (λ s f seen. (tt, tt)),
      ((λ q x at. none_some x at), tt),
    );
    members = λ n m at q x is. none_some m at;
    fields = λ r l q f at is. none_some l at;
    narrowed = refl;
  }

  module _ (p : Source) (order : (f : ℕ) → IsOrder (setting_in w f)) (read : IsRead p) where
    k_import : (x : Import) (s : Making) → Gives (Done w s) (import_part p x s)
    k_import x s = and_then (gives_both (k_stand w p {Before = Unit {0}} (x.name ∷ []) s) (i_stand p (x.name ∷ []) s)) (λ r h.
        and_then (look_as (some 38 (place p (origin x)) (imported (r.1).world.modules (spelled p (origin x)))) r.1) (λ m k.
        let e : Entry = record { object = AModule m.0; exported = false } in
        let after = record (m.1) { imports_in = (m.1).imports_in || is_in m.0 } in
        keeps (Done w s) (tt, with_levels (declare_last (spelled p x.name) e) after) (record {
          grown = onward s r.1 _ (h.1).grown (subst (λ u. Grows u (with_levels (declare_last (spelled p x.name) e) after)) k.0 (untouched m.1 _ refl refl refl refl refl refl refl));
          values = ap (λ u. u.values) k.0 ∙ (h.1).values_same;
          sound = λ agrees sound.
              let here = subst (λ u. Sound w u.world) (sym k.0) ((h.0).sound tt (subst (Agrees w) k.0 (agrees_back w m.1 _ (untouched m.1 _ refl refl refl refl refl refl refl) agrees)) sound).0 in
              let named = sound_declared w (m.1).world (spelled p x.name) e (λ f seen. (tt, tt)) here in
              (named, from_length w (length (m.1).procedures) (length s.procedures) _ (ap (λ u. length u.procedures) k.0 ∙ ap length (h.1).procedures_same) (record { each = λ f q from at. let l = get_within (m.1).procedures f q at in absurd (omega (arith, from, l)) }));
        })))

    k_imports : (xs : List Import) (s : Making) → Gives (Done w s) (each (import_part p) xs s)
    k_imports [] s = keeps (Done w s) (tt, s) (done_self w p order read s)
    k_imports (x ∷ xs) s = and_then (k_import x s) (λ r h. weaken (k_imports xs r.1) (λ q k. done_on w p order read s r q h k))

    -- what becomes of a module
    pub record ModuleDone (s : Making) (r : Tree.Module × Making) : Type 0 where
      pub grown : Grows s r.1
      pub values : (r.1).values ≡ s.values
      pub variables : (r.0).variables ≡ (r.1).variables
      pub sound : s.world.procedure ≡ None → Agrees w r.1 → Sound w s.world → Sound w (r.1).world × AllMade w (length s.procedures) r.1

    length_more : {A : Type 0} (xs : List A) (y : A) → length (xs ++ y ∷ []) ≡ suc (length xs)
    length_more xs y = let h = append_length xs (y ∷ []) in omega (arith, h)

    abbrev with_body : Making → Procedure → Making
    with_body d q = record d { procedures = slice_set (d.procedures ++ no_procedure ∷ []) (length d.procedures) q }

    other_than : (g f : ℕ) → g < f → g ≡ f → ⊥
    other_than g f l e = absurd (omega (arith, l, e))

    body_grows : (d : Making) (q : Procedure) → Grows d (with_body d q)
    body_grows d q = record {
      records_more = omega arith;
      records = λ r l. refl;
      bases_more = omega arith;
      bases = λ n l. refl;
      procedures_more = let b = length_more d.procedures no_procedure in let c = set_length (d.procedures ++ no_procedure ∷ []) (length d.procedures) q in omega (arith, b, c);
      procedures = λ g l. set_other (d.procedures ++ no_procedure ∷ []) (length d.procedures) g q (other_than g (length d.procedures) l) ∙ get_append d.procedures (no_procedure ∷ []) g l;
      variables = λ v x at. (refl, at);
      procedure = refl;
      module_number = refl;
      lines = λ h. h;
    }

    body_made : (n : ℕ) (d : Making) (q : Procedure) → n ≤ length d.procedures → AllMade w n d → IsWell w (length d.procedures) q → AllMade w n (with_body d q)
    body_made n d q from made well = record {
      each = λ g x above at. elim (decided w g (length d.procedures)) as (λ _. IsWell w g x) [
        | inl e ↦ subst (λ k. IsWell w k x) (sym e) (subst (λ y. IsWell w (length d.procedures) y) (some_same q x (sym (set_here (d.procedures ++ no_procedure ∷ []) (length d.procedures) q (let b = length_more d.procedures no_procedure in omega (arith, b))) ∙ ap (slice_get (slice_set (d.procedures ++ no_procedure ∷ []) (length d.procedures) q)) (sym e) ∙ at)) well)
        | inr other ↦
            let there = sym (set_other (d.procedures ++ no_procedure ∷ []) (length d.procedures) g q other) ∙ at in
            let l = get_within (d.procedures ++ no_procedure ∷ []) g x there in
            let less = below_last g (length d.procedures) (length (d.procedures ++ no_procedure ∷ [])) l (length_more d.procedures no_procedure) other in
            made.each g x above (sym (get_append d.procedures (no_procedure ∷ []) g less) ∙ there)
      ];
    }
      where
        below_last : (g f n : ℕ) → g < n → n ≡ suc f → (g ≡ f → ⊥) → g < f
        below_last g f n l e other = elim (less_or_past g f) as (λ _. g < f) [ inl less ↦ less | inr past ↦ absurd (other (omega (arith, l, e, past))) ]

    pub k_module : (m : S.Module) (s : Making) → Gives (ModuleDone s) (module_part p m s)
    k_module m s = and_then (look_as (rule 36 (place p m.name) (is_new (imported s.world.modules (spelled p m.name)))) s) (λ a ha.
        and_then (k_imports (import_list m.imports) a.1) (λ i hi.
        and_then (k_decls w p order read m.decls i.1) (λ d hd.
        and_then (look_as (body_of p (d.1).world m.body) d.1) (λ b hb.
        and_then (look_as (rule 37 (place p m.end_name) (bytes_eq (spelled p m.end_name) (spelled p m.name))) b.1) (λ u hu.
        let f = length (u.1).procedures in
        let q : Procedure = record { module_number = (u.1).world.module_number; line = line p m.name; is_body = true; formals = []; result = Nothing; locals = []; texts = texts_of b.0 None; body = b.0; answer = None } in
        let whole = done_on w p order read a.1 i d hi hd in
        let back : u.1 ≡ d.1 = hu.0 ∙ hb.0 in
        keeps (ModuleDone s) (record { name = spelled p m.name; objects = (u.1).objects; variables = (u.1).variables; body = f }, with_body u.1 q) (record {
          grown = subst (λ x. Grows x (with_body u.1 q)) ha.0 (onward a.1 d.1 (with_body u.1 q) whole.grown (subst (λ x. Grows x (with_body u.1 q)) back (body_grows u.1 q)));
          values = ap (λ x. x.values) back ∙ whole.values ∙ ap (λ x. x.values) ha.0;
          variables = refl;
          sound = λ between agrees sound.
              let at_u = agrees_back w u.1 (with_body u.1 q) (body_grows u.1 q) agrees in
              let at_d = subst (Agrees w) back at_u in
              let k = whole.sound at_d (subst (λ x. Sound w x.world) (sym ha.0) sound) in
              let none : (d.1).world.procedure ≡ None = whole.grown.procedure ∙ ap (λ x. x.world.procedure) ha.0 ∙ between in
              let right = right_of w p d.1 at_d k.0 f (subst (λ o. IsHere o f) (sym none) (here_between w f)) in
              let well : IsWell w f q = record { made = refl; body = given b.0 (t_body (setting_in w f) (order f) p read (d.1).world right m.body) hb.1; answer = refl; texts = refl; formals = tt; result = (refl, refl) } in
              let sound_u = subst (λ x. Sound w x.world) (sym back) k.0 in
              let made_u = subst (λ x. AllMade w (length (a.1).procedures) x) (sym back) k.1 in
              (sound_u, subst (λ n. AllMade w n (with_body u.1 q)) (ap (λ x. length x.procedures) ha.0) (body_made (length (a.1).procedures) u.1 q (let g = whole.grown.procedures_more in let e = ap (λ x. length x.procedures) back in omega (arith, g, e)) made_u well));
        }))))))
