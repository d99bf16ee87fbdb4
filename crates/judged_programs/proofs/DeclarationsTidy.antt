-- Declarations of constants, types and variables leave what is made tidy.
use Rattle.std.proofs.Common.{◌≡◌, ℕ, ◌+◌, ◌<◌, List, [], ◌∷◌, ◌++◌, length, true, Option, None, Some, refl, ap, sym, ◌∙◌, subst}
use Rattle.std.specs.Prelude.{slice_set}
use Rattle.ob_types.proofs.Tests.{none_some, some_same}
use Rattle.ob_syntax.specs.Syntax as S
use Rattle.ob_syntax.specs.declared.names.Identdef.{Identdef}
use Rattle.ob_judge.specs.Judged.{some}
use Rattle.ob_judge.specs.Shapes.{Shape, Record, Layout}
use Rattle.ob_judge.specs.Scopes.{Object, AConstant, AType, AVariable, Entry, Variable, Source, place, spelled}
use Rattle.ob_judge.specs.Expressions.{constant}
use Rattle.ob_judge.specs.Cases.{entry_object}
use Rattle.ob_judge.specs.Making.{Making, Part, with_known, last_names}
use Rattle.ob_judge.specs.Parameters.{idents_list, symbols_of}
use Rattle.ob_judge.specs.Types.{record_object}
use Rattle.ob_judge.specs.Declarations.{home_here, place_here, each, const_part, type_decl_part, forward_base, types_part, variable_part, var_part}
use Rattle.judged_well.specs.Gives.{Gives}
use Rattle.judged_well.specs.Standing.{is_whole}
use Rattle.judged_well.proofs.Judging.{keeps, weaken, and_then, gives_both}
use Rattle.judged_modules.specs.Agrees.{records_of, bases_of}
use Rattle.judged_modules.proofs.Lists.{get_within}
use Rattle.judged_modules.proofs.Growing.{onward, there_is}
use Rattle.judged_modules.proofs.TypesGrow.{each_append}
use Rattle.judged_modules.proofs.DeclarationsGrow.{one_variable, typing, typed, set_forwards, i_type_decls, typed_grows}
use Rattle.judged_modules.proofs.Parameters.{look_as}
use Rattle.judged_programs.proofs.Tidy.{IsPlaced, Stays, Any, s_next, s_pass, s_give, s_stand, s_declared, last_of}
use Rattle.judged_programs.proofs.TypesTidy.{s_type, tidy_with_bases, there_with_base}
use Rattle.judged_programs.specs.Tidy.{IsKnownObject, Tidy}

module _ (from : ℕ) (p : Source) where
  pub s_each : {X : Type 0} {Before : Type 0} (f : X → Part (Unit {0})) → ((x : X) (s : Making) → Gives (Stays from (Unit {0}) Any s) (f x s)) → (xs : List X) (s : Making) → Gives (Stays from Before Any s) (each f xs s)
  s_each f g [] s = s_give Any tt s (λ before tidy. tt)
  s_each f g (x ∷ xs) s = s_next (weaken (g x s) (λ r h. record { grown = h.grown; depth = h.depth; tidy = λ before tidy. h.tidy tt tidy })) (λ r. s_each f g xs r.1)

  pub s_const : {Before : Type 0} (d : S.ConstDecl) (s : Making) → Gives (Stays from Before Any s) (const_part p d s)
  s_const d s = s_next (s_stand p (d.name.name ∷ []) s) (λ r. s_next (s_pass (constant p (r.1).world d.value) r.1) (λ c. s_declared p d.name (AConstant c.0) c.1 (λ before. tt) (λ before none. tt)))

  s_type_decl : {Before : Type 0} (d : S.TypeDecl) (s : Making) → Gives (Stays from Before Any s) (type_decl_part p d s)
  s_type_decl d s = s_next (s_stand p (d.name.name ∷ []) s) (λ r. s_next (s_type from p d.is r.1) (λ a. s_declared p d.name (AType a.0) a.1 (λ before. before.1) (λ before none. tt)))

  -- ---- the bases at the end of a TYPE part

  entry_of_object : (o : Option Entry) (x : Object) → entry_object o ≡ Some x → (e : Entry) × (o ≡ Some e) × (e.object ≡ x)
  entry_of_object None x h = none_some x h
  entry_of_object (Some e) x h = (e, refl, some_same e.object x h)

  record_there : (records : List Layout) (o : Object) → IsKnownObject records o → (r : ℕ) → record_object o ≡ Some r → r < length records
  record_there records (AType (Record n)) h r is = let k = h.core_there r is in get_within records r k.layout k.there
  record_there records (AConstant c) h r is = none_some r is
  record_there records _ h r is = none_some r is

  -- what leaves all tidy
  abbrev Kept : Making → Unit {0} × Making → Type 0
  Kept s r = Tidy from s → Tidy from r.1

  s_forward : (k : ℕ × ℕ) (s : Making) → Gives (Kept s) (forward_base p k s)
  s_forward k s = and_then (look_as (some 30 (place p k.1) (entry_object (last_names s.world.levels (spelled p k.1)))) s) (λ o h. and_then (look_as (some 31 (place p k.1) (record_object o.0)) o.1) (λ r j.
      keeps (Kept s) (tt, with_known (λ x. record x { bases = slice_set x.bases k.0 (Some r.0) }) r.1) (λ tidy.
      let back = j.0 ∙ h.0 in
      let again = subst (Tidy from) (sym back) tidy in
      let e = entry_of_object (last_names s.world.levels (spelled p k.1)) o.0 (there_is 30 (place p k.1) (entry_object (last_names s.world.levels (spelled p k.1))) o.0 h.1) in
      let known = subst (IsKnownObject (records_of s)) e.2 (last_of (IsKnownObject (records_of s)) s.world.levels tidy.names (spelled p k.1) e.0 e.1) in
      let there = subst (λ u. r.0 < length (records_of u)) (sym back) (record_there (records_of s) o.0 known r.0 (there_is 31 (place p k.1) (record_object o.0) r.0 j.1)) in
      tidy_with_bases from r.1 (slice_set (bases_of r.1) k.0 (Some r.0)) (there_with_base r.1 k.0 r.0 there again.targets) again)))

  s_forwards : (ks : List (ℕ × ℕ)) (s : Making) → Gives (Kept s) (each (forward_base p) ks s)
  s_forwards [] s = keeps (Kept s) (tt, s) (λ tidy. tidy)
  s_forwards (k ∷ ks) s = and_then (s_forward k s) (λ r h. weaken (s_forwards ks r.1) (λ q j. λ tidy. j (h tidy)))

  pub s_types : {Before : Type 0} (ds : List S.TypeDecl) (s : Making) → Gives (Stays from Before Any s) (types_part p ds s)
  s_types ds s = and_then (gives_both (i_type_decls p ds (typing p s)) (s_each {Before = Unit {0}} (type_decl_part p) (λ d u. s_type_decl d u) ds (typing p s))) (λ r h.
      weaken (gives_both (set_forwards p (r.1).forward (typed p r.1)) (s_forwards (r.1).forward (typed p r.1))) (λ q g. record {
        grown = typed_grows p s q.1 (record { before = r.1; grown = h.0; sets = g.0 });
        depth = ap length (g.0).levels ∙ (h.1).depth;
        tidy = λ before tidy. (g.1 ((h.1).tidy tt tidy).0, tt);
      }))

  -- ---- variables

  abbrev new_variable : Shape → Making → Variable
  new_variable a s = record { shape = a; place = place_here s.world.procedure s.world.module_number (s.values + length s.variables); home = home_here s.world.procedure; owner = s.world.module_number; procedure = s.world.procedure }

  placed : (a : Shape) (s : Making) → IsPlaced s.world.procedure s.world.module_number (AVariable (new_variable a s))
  placed a s none = (none, s.values + length s.variables, ap (λ o. place_here o s.world.module_number (s.values + length s.variables)) none)

  one_more : (s : Making) (a : Shape) → is_whole a ≡ true → Tidy from s → Tidy from (record s { variables = s.variables ++ a ∷ [] })
  one_more s a good h = record {
    nested = h.nested;
    names = h.names;
    members = h.members;
    lines = h.lines;
    ranked = h.ranked;
    targets = h.targets;
    whole = each_append (λ b. is_whole b ≡ true) s.variables (a ∷ []) h.whole (good, tt);
    legal = h.legal;
    no_body = h.no_body;
  }

  s_variable : {Before : Type 0} (a : Shape) (x : Identdef) → (Before → is_whole a ≡ true) → (s : Making) → Gives (Stays from Before Any s) (variable_part p a x s)
  s_variable a x good s = and_then (s_declared p x (AVariable (new_variable a s)) s (λ before. tt) (λ before. placed a s)) (λ r h. keeps (Stays from _ Any s) (tt, record (r.1) { variables = (r.1).variables ++ a ∷ [] }) (record {
    grown = onward s r.1 _ h.grown (one_variable p r.1 a);
    depth = h.depth;
    tidy = λ before tidy. (one_more r.1 a (good before) (h.tidy before tidy).0, tt);
  }))

  s_variables : {Before : Type 0} (a : Shape) (xs : List Identdef) → (Before → is_whole a ≡ true) → (s : Making) → Gives (Stays from Before Any s) (each (variable_part p a) xs s)
  s_variables a [] good s = s_give Any tt s (λ before tidy. tt)
  s_variables a (x ∷ xs) good s = s_next (s_variable a x good s) (λ r. s_variables a xs (λ before. good before.0) r.1)

  pub s_var : {Before : Type 0} (d : S.VarDecl) (s : Making) → Gives (Stays from Before Any s) (var_part p d s)
  s_var d s = s_next (s_stand p (symbols_of (idents_list d.names)) s) (λ r. s_next (s_type from p d.of r.1) (λ a. s_variables a.0 (idents_list d.names) (λ before. (before.1).whole) a.1))
