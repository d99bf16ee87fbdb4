-- Constants, types and variables declared stand for something well-formed, and what is in scope stays sound.
use Rattle.std.proofs.Common.{◌≡◌, ℕ, ◌+◌, List, [], ◌∷◌, ◌++◌, length, true, Option, Some, None, refl, ap, sym, ◌∙◌, subst, arith, eqb-true, eq-eqb}
use Rattle.std.specs.Prelude.{slice_get, option_map}
use Rattle.ob_types.proofs.Tests.{none_some, some_same}
use Rattle.ob_syntax.specs.Syntax as S
use Rattle.ob_syntax.specs.declared.names.Identdef.{Identdef}
use Rattle.ob_judge.specs.Shapes.{Shape, Integer, Nothing, contains, line_of}
use Rattle.ob_judge.specs.Shapes.{Text as TextShape}
use Rattle.ob_judge.specs.Image.{Local, Constant, Bits}
use Rattle.ob_judge.specs.Image.{Chars as TheChars}
use Rattle.ob_judge.specs.Scopes.{AConstant, AType, AVariable, Variable, Free, Source}
use Rattle.ob_judge.specs.Expressions.{constant}
use Rattle.ob_judge.specs.Making.{Making, Part}
use Rattle.ob_judge.specs.Parameters.{idents_list, symbols_of}
use Rattle.ob_judge.specs.Declarations.{home_here, place_here, each, const_part, type_decl_part, types_part, variable_part, var_part}
use Rattle.judged_well.specs.Gives.{Gives}
use Rattle.judged_well.specs.Forms.{Of}
use Rattle.judged_well.specs.Setting.{IsOrder}
use Rattle.judged_well.specs.Standing.{good, as_whole, IsRead, ConstantStands, VariableStands}
use Rattle.judged_well.proofs.Judging.{keeps, weaken, and_then, gives_both}
use Rattle.judged_well.proofs.Constants.{t_constant}
use Rattle.judged_modules.specs.Final.{Final, setting_in}
use Rattle.judged_modules.specs.Agrees.{Agrees, IsVariable, bases_of}
use Rattle.judged_modules.specs.Sound.{IsGood, IsKept}
use Rattle.judged_modules.proofs.Lists.{get_last}
use Rattle.judged_modules.proofs.Growing.{onward}
use Rattle.judged_modules.specs.Lists.{Each}
use Rattle.judged_modules.proofs.TypesGrow.{each_map, GrowsIn}
use Rattle.judged_modules.proofs.DeclarationsGrow.{i_declared, one_variable, SetsBases, typing, typed, set_forwards, i_type_decls, typed_grows}
use Rattle.judged_modules.proofs.Righting.{agrees_back, right_of}
use Rattle.judged_modules.proofs.Keeping.{Ok, Some_, k_next, k_look, k_give, k_stand, k_declared}
use Rattle.judged_modules.proofs.Parameters.{at_of, here_at}
use Rattle.judged_modules.proofs.TypesStand.{sound_moved, k_type}

module _ (w : Final) where
  -- a constant stands in each procedure where it stands in one
  pub constant_elsewhere : (f g : ℕ) (c : Constant) → ConstantStands (setting_in w f) c → ConstantStands (setting_in w g) c
  constant_elsewhere f g (TheChars cs) h = h
  constant_elsewhere f g (Bits Nothing n) h = absurd (let z = (h.0).1 in cc)
  constant_elsewhere f g (Bits (TextShape m) n) h = absurd h.0
  constant_elsewhere f g (Bits Integer n) h = h
  constant_elsewhere f g (Bits _ n) h = h

  pub k_each : {X : Type 0} {Before : Type 0} (p : Source) (f : X → Part (Unit {0})) → ((x : X) (s : Making) → Gives (Ok w (Unit {0}) (Some_ w) s) (f x s)) → (xs : List X) (s : Making) → Gives (Ok w Before (Some_ w) s) (each f xs s)
  k_each p f g [] s = k_give w (Some_ w) tt s (λ before agrees sound. tt)
  k_each p f g (x ∷ xs) s = k_next w (weaken (g x s) (λ r h. record { grown = h.grown; sound = λ before agrees sound. h.sound tt agrees sound })) (λ r. k_each p f g xs r.1)

  -- what agrees once the bases of pointer types are known agreed before
  agrees_unset_all : (p : Source) (s u t : Making) → GrowsIn (typing p s) u → SetsBases p u.forward (typed p u) t → Agrees w t → Agrees w u
  agrees_unset_all p s u t g h agrees = record {
    there = λ r l. let a = ap length h.records in agrees.there r (omega (arith, l, a));
    extends = λ a b i. agrees.extends a b (ap (λ rs. contains b (line_of (slice_get rs a))) h.records ∙ i);
    field = λ r i l x at i_at. agrees.field r i l x (ap (λ rs. slice_get rs r) h.records ∙ at) i_at;
    target = λ n r at. agrees.target n r (h.bases n (others n r at) ∙ at);
    pointer = λ n l. let a = h.bases_length in agrees.pointer n (omega (arith, l, a));
    procedure = λ f q at made. agrees.procedure f q (ap (λ qs. slice_get qs f) h.procedures ∙ at) made;
    variable = λ v x at. subst (λ o. IsVariable w o u.world.module_number u.values v x) h.procedure (subst (λ m. IsVariable w t.world.procedure m u.values v x) h.module_number
        (subst (λ n. IsVariable w t.world.procedure t.world.module_number n v x) h.values (agrees.variable v x (ap (λ xs. slice_get xs v) h.variables ∙ at))));
  }
    where
      known : (n r k : ℕ) → slice_get (bases_of u) n ≡ Some (Some r) → slice_get (bases_of u) k ≡ Some None → k ≡ n → ⊥
      known n r k at waits e = none_some r (some_same None (Some r) (sym waits ∙ ap (slice_get (bases_of u)) e ∙ at))

      others : (n r : ℕ) → slice_get (bases_of u) n ≡ Some (Some r) → Each (λ k. k.0 ≡ n → ⊥) u.forward
      others n r at = subst (Each (λ k. k.0 ≡ n → ⊥)) (sym g.forward) (each_map _ (λ k. k.0 ≡ n → ⊥) g.more (λ k wait. known n r k.0 at wait.1) g.waiting)

  module _ (order : (f : ℕ) → IsOrder (setting_in w f)) (p : Source) (read : IsRead p) where
    pub k_const : {Before : Type 0} (d : S.ConstDecl) (s : Making) → Gives (Ok w Before (Some_ w) s) (const_part p d s)
    k_const d s = k_next w (k_stand w p (d.name.name ∷ []) s) (λ r. k_next w (k_look w (λ c. ConstantStands (setting_in w 0) c) (constant p (r.1).world d.value) r.1 (λ before agrees sound.
        let f = at_of w p (r.1).world.procedure in
        weaken (t_constant (setting_in w f) (order f) p read (r.1).world (right_of w p r.1 agrees sound f (here_at w p (r.1).world.procedure)) d.value) (λ c h. constant_elsewhere f 0 c h)))
        (λ c. k_declared w p d.name (AConstant c.0) c.1 (λ before agrees f seen. (constant_elsewhere 0 f c.0 before.1, tt))))

    k_type_decl : {Before : Type 0} (d : S.TypeDecl) (s : Making) → Gives (Ok w Before (Some_ w) s) (type_decl_part p d s)
    k_type_decl d s = k_next w (k_stand w p (d.name.name ∷ []) s) (λ r. k_next w (k_type w order p d.is r.1) (λ a. k_declared w p d.name (AType a.0) a.1 (λ before agrees f seen. (before.1, tt))))

    pub k_types : {Before : Type 0} (ds : List S.TypeDecl) (s : Making) → Gives (Ok w Before (Some_ w) s) (types_part p ds s)
    k_types ds s = and_then (gives_both (i_type_decls p ds (typing p s)) (k_each {Before = Unit {0}} p (type_decl_part p) (λ d u. k_type_decl d u) ds (typing p s))) (λ r h.
        weaken (set_forwards p (r.1).forward (typed p r.1)) (λ q g. record {
          grown = typed_grows p s q.1 (record { before = r.1; grown = h.0; sets = g });
          sound = λ before agrees sound.
              let a = (h.1).sound tt (agrees_unset_all p s r.1 q.1 h.0 g agrees) sound in
              (sound_moved w (r.1).world (q.1).world g.levels g.modules g.module_number g.records g.narrowed a.0, tt);
        }))

    -- ---- variables

    -- a variable of the open procedure or module
    abbrev new_variable : Shape → Making → Variable
    new_variable a s = record { shape = a; place = place_here s.world.procedure s.world.module_number (s.values + length s.variables); home = home_here s.world.procedure; owner = s.world.module_number; procedure = s.world.procedure }

    variable_kept : (a : Shape) → IsGood w a → (o : Option ℕ) (m n k : ℕ) → IsVariable w o m n k a
        → IsKept w m (AVariable (record { shape = a; place = place_here o m (n + k); home = home_here o; owner = m; procedure = o }))
    variable_kept a h None m n k is f seen =
        (record { names = Of a true; are = ap (λ q. option_map (λ s. Of s true) q) is; fits = as_whole a true h.1; claims = refl; integer = λ i. refl; good = h.0 }, eq-eqb m m refl)
    variable_kept a h (Some g) m n k is f seen = (
      subst (λ x. VariableStands (setting_in w x) (record { shape = a; place = Local (n + k); home = Free; owner = m; procedure = Some g })) (eqb-true g f seen)
          (record { names = Of a true; are = ap (λ q. option_map (λ s. Of s true) q) is; fits = as_whole a true h.1; claims = refl; integer = λ i. refl; good = h.0 }),
      refl,
    )

    k_variable : {Before : Type 0} (a : Shape) (x : Identdef) → (Before → IsGood w a) → (s : Making) → Gives (Ok w Before (Some_ w) s) (variable_part p a x s)
    k_variable a x good s = and_then (gives_both
        (k_declared w p {Before = IsGood w a × IsVariable w s.world.procedure s.world.module_number s.values (length s.variables) a} x (AVariable (new_variable a s)) s
        (λ before agrees. variable_kept a before.0 s.world.procedure s.world.module_number s.values (length s.variables) before.1))
        (i_declared p x (AVariable (new_variable a s)) s)) (λ r h. keeps (Ok w _ (Some_ w) s) (tt, record (r.1) { variables = (r.1).variables ++ a ∷ [] }) (record {
          grown = onward s r.1 _ (h.0).grown (one_variable p r.1 a);
          sound = λ before agrees sound.
              let is = agrees.variable (length (r.1).variables) a (get_last (r.1).variables a) in
              let here = subst (λ k. IsVariable w s.world.procedure s.world.module_number s.values k a) (ap length (h.1).variables_same)
              (subst (λ n. IsVariable w s.world.procedure s.world.module_number n (length (r.1).variables) a) (h.1).values_same
              (subst (λ m. IsVariable w s.world.procedure m (r.1).values (length (r.1).variables) a) (h.1).grown.module_number
              (subst (λ o. IsVariable w o (r.1).world.module_number (r.1).values (length (r.1).variables) a) (h.1).grown.procedure is))) in
              let k = (h.0).sound (good before, here) (agrees_back w r.1 _ (one_variable p r.1 a) agrees) sound in
              (record { names = (k.0).names; members = (k.0).members; fields = (k.0).fields; narrowed = (k.0).narrowed }, tt);
        }))

    k_variables : {Before : Type 0} (a : Shape) (xs : List Identdef) → (Before → IsGood w a) → (s : Making) → Gives (Ok w Before (Some_ w) s) (each (variable_part p a) xs s)
    k_variables a [] good s = k_give w (Some_ w) tt s (λ before agrees sound. tt)
    k_variables a (x ∷ xs) good s = k_next w (k_variable a x good s) (λ r. k_variables a xs (λ before. good before.0) r.1)

    pub k_var : {Before : Type 0} (d : S.VarDecl) (s : Making) → Gives (Ok w Before (Some_ w) s) (var_part p d s)
    k_var d s = k_next w (k_stand w p (symbols_of (idents_list d.names)) s) (λ r. k_next w (k_type w order p d.of r.1) (λ a. k_variables a.0 (idents_list d.names) (λ before. before.1) a.1))
