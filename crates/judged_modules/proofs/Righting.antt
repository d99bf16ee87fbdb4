-- What is made in agreement with the whole program, and keeps its rules, is a right world.
use Rattle.std.proofs.Common.{◌≡◌, ℕ, ◌<◌, List, [], ◌∷◌, length, Bool, true, false, not, ◌==◌, Option, Some, None, refl, ap, sym, ◌∙◌, subst, arith, eqb-true}
use Rattle.std.specs.Prelude.{slice_get}
use Rattle.ob_types.proofs.Tests.{no, none_some}
use Rattle.ob_judge.specs.Shapes.{Shape, Layout, contains, line_of, base_of, record_extends}
use Rattle.ob_judge.specs.Shapes.{Field as FieldOf}
use Rattle.ob_judge.specs.Scopes.{Object, AConstant, AVariable, Entry, KnownModule, Imported, TheOut, TheIn, Earlier, World, Source, is_visible, or_of_module, or_else, look_up}
use Rattle.ob_judge.specs.Making.{Making}
use Rattle.ob_judge.specs.Names.{names_of, names_in, narrowing_of}
use Rattle.ob_judge.specs.Parts.{fields_of}
use Rattle.judged_well.specs.Standing.{is_foreign, ObjectStands, IsUnnarrowed, IsForeign, IsOwn, FieldStands, Right}
use Rattle.judged_well.proofs.FirstWorld.{of_out, of_in}
use Rattle.judged_modules.specs.Final.{Final, setting_in}
use Rattle.judged_modules.specs.Agrees.{Agrees, IsVariable, records_of, bases_of}
use Rattle.judged_modules.specs.Sound.{IsHere, IsInModule, IsEarlier, IsKept, AllNames, FieldKept, Sound}
use Rattle.judged_modules.proofs.Lists.{get_within}
use Rattle.judged_modules.proofs.Growing.{Grows}

-- ---- what agrees at the end agreed before

module _ (w : Final) where
  there_of : (s : Making) (a b : ℕ) → record_extends s.world.known a b ≡ true → a < length (records_of s)
  there_of s a b h = by (slice_get (records_of s) a) refl h
    where
      by : (o : Option Layout) → slice_get (records_of s) a ≡ o → contains b (line_of o) ≡ true → a < length (records_of s)
      by None i h = no h
      by (Some l) i h = get_within (records_of s) a l i

  variable_back : (s t : Making) (v : ℕ) (x : Shape) → (t.world.procedure ≡ s.world.procedure) → (t.world.module_number ≡ s.world.module_number) → t.values ≡ s.values
      → IsVariable w t.world.procedure t.world.module_number t.values v x → IsVariable w s.world.procedure s.world.module_number s.values v x
  variable_back s t v x a b c h = subst (λ o. IsVariable w o s.world.module_number s.values v x) a (subst (λ m. IsVariable w t.world.procedure m s.values v x) b (subst (λ n. IsVariable w t.world.procedure t.world.module_number n v x) c h))

  pub agrees_back : (s t : Making) → Grows s t → Agrees w t → Agrees w s
  agrees_back s t g h = record {
    there = λ r l. let a = g.records_more in h.there r (omega (arith, l, a));
    extends = λ a b i. h.extends a b (ap (λ o. contains b (line_of o)) (g.records a (there_of s a b i)) ∙ i);
    field = λ r i l x at i_at. h.field r i l x (g.records r (get_within (records_of s) r l at) ∙ at) i_at;
    target = λ n r at. h.target n r (g.bases n (get_within (bases_of s) n (Some r) at) ∙ at);
    pointer = λ n l. let a = g.bases_more in h.pointer n (omega (arith, l, a));
    procedure = λ f q at made. h.procedure f q (g.procedures f (get_within s.procedures f q at) ∙ at) made;
    variable = λ v x at. let k = g.variables v x at in variable_back s t v x g.procedure g.module_number k.0 (h.variable v x k.1);
  }

  -- ---- what is seen here

  pub here_in : (f : ℕ) → IsHere (Some f) f
  here_in f = record { seen = λ o h. h }

  pub here_between : (f : ℕ) → IsHere None f
  here_between f = record { seen = λ o h. by o h }
    where
      of_one : (q : Option ℕ) → or_of_module q None ≡ true → or_of_module q (Some f) ≡ true
      of_one None h = refl
      of_one (Some g) h = no h

      by : (o : Object) → is_visible None o ≡ true → is_visible (Some f) o ≡ true
      by (AVariable v) h = of_one v.procedure h
      by (AConstant c) h = refl
      by _ h = refl

  looked_up : (P : Object → Type 0) (q : List ℕ) (x : Entry) (ls : List (List ℕ → Option Entry)) → AllNames P ls → look_up q ls ≡ Some x → P x.object
  looked_up P q x [] all h = none_some x h
  looked_up P q x (l ∷ ls) all h = by (look_up q ls) (looked_up P q x ls all.1) h
    where
      by : (o : Option Entry) → (o ≡ Some x → P x.object) → or_else o (l q) ≡ Some x → P x.object
      by (Some y) inner h = inner h
      by None inner h = all.0 q x h

  module _ (p : Source) where
    unnarrowed : (v : World) (o : Object) → v.narrowed ≡ [] → IsUnnarrowed (setting_in w 0) p v o
    unnarrowed v (AVariable x) h = ap (λ ns. narrowing_of x.place ns) h
    unnarrowed v (AConstant c) h = tt
    unnarrowed v _ h = tt

    own_in : (f : ℕ) (v : World) (o : Object) → IsInModule w v.module_number o → IsOwn (setting_in w f) v o
    own_in f v (AVariable x) h = h
    own_in f v (AConstant c) h = tt
    own_in f v _ h = tt

    less_other : (m n : ℕ) → m < n → (m == n) ≡ false
    less_other m n l = by (m == n) refl
      where
        by : (b : Bool) → (m == n) ≡ b → b ≡ false
        by true i = let e = eqb-true m n i in absurd (omega (arith, l, e))
        by false i = refl

    abroad : (f : ℕ) (v : World) (o : Object) → IsEarlier v.module_number o → IsForeign (setting_in w f) v o
    abroad f v (AVariable x) h = ap (λ d. is_foreign (setting_in w f) v.module_number d) h.2 ∙ ap not (less_other h.0 v.module_number h.3)
    abroad f v (AConstant c) h = tt
    abroad f v _ h = tt

    module _ (s : Making) (agrees : Agrees w s) (sound : Sound w s.world) (f : ℕ) (here : IsHere s.world.procedure f) where
      field_stands : (r : ℕ) (l : Layout) (x : FieldOf) → slice_get (records_of s) r ≡ Some l → FieldKept w (records_of s) l.line x → FieldStands (setting_in w f) r x
      field_stands r l x at k = record {
        there = agrees.field x.adder x.number k.adds k.added k.there k.stands ∙ ap Some k.shape;
        of = agrees.extends r x.adder (ap (λ o. contains x.adder (line_of o)) at ∙ k.among);
        good = k.good.0;
        whole = k.good.1;
      }

      pub right_of : Right (setting_in w f) p s.world
      right_of = record {
        names = λ q x at seen. let k = looked_up (IsKept w s.world.module_number) q x s.world.levels sound.names at f (here.seen x.object seen) in (k.0, own_in f s.world x.object k.1);
        members = λ m q x at. members m q x at;
        extends = λ a b h. agrees.extends a b h;
        there = λ a b h. agrees.there a (there_of s a b h);
        targets = λ n r h. target n r (slice_get (bases_of s) n) refl h;
        fields = λ r q x h. fields r q x (slice_get (records_of s) r) refl h;
        narrowed = λ d n h. none_some n (sym (ap (λ ns. narrowing_of d ns) sound.narrowed) ∙ h);
      }
        where
          target : (n r : ℕ) (o : Option (Option ℕ)) → slice_get (bases_of s) n ≡ o → base_of o ≡ Some r → w.target n ≡ Some r
          target n r None i h = none_some r h
          target n r (Some None) i h = none_some r h
          target n r (Some (Some k)) i h = agrees.target n r (i ∙ ap Some h)

          fields : (r : ℕ) (q : List ℕ) (x : FieldOf) (o : Option Layout) → slice_get (records_of s) r ≡ o → fields_of o q ≡ Some x → FieldStands (setting_in w f) r x
          fields r q x None i h = none_some x h
          fields r q x (Some l) i h = field_stands r l x i (sound.fields r l q x i h)

          of_module : (o : Option KnownModule) (n : ℕ) → slice_get s.world.modules n ≡ o → (q : List ℕ) (x : Entry) → names_in o q ≡ Some x → ObjectStands (setting_in w f) x.object × IsUnnarrowed (setting_in w f) p s.world x.object × IsForeign (setting_in w f) s.world x.object
          of_module None n i q x h = none_some x h
          of_module (Some m) n i q x h = let k = sound.members n m i q x h in (k.0 f, unnarrowed s.world x.object sound.narrowed, abroad f s.world x.object k.1)

          members : (m : Imported) (q : List ℕ) (x : Entry) → names_of p s.world m q ≡ Some x → ObjectStands (setting_in w f) x.object × IsUnnarrowed (setting_in w f) p s.world x.object × IsForeign (setting_in w f) s.world x.object
          members TheOut q x h = of_out (setting_in w f) p s.world q x h
          members TheIn q x h = of_in (setting_in w f) p s.world sound.narrowed q x h
          members (Earlier n) q x h = of_module (slice_get s.world.modules n) n refl q x h
