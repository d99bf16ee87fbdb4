-- Modules judged, one after the other, leave rooted what they are judged in.
use Rattle.std.proofs.Common.{◌≡◌, ℕ, ◌≤◌, List, [], ◌∷◌, ◌++◌, length, true, false, ◌||◌, None, refl, arith}
use Rattle.std.specs.Prelude.{slice_set}
use Rattle.std.specs.Str.{bytes_eq}
use Rattle.ob_types.proofs.Tests.{none_some}
use Rattle.ob_syntax.specs.Syntax as S
use Rattle.ob_syntax.specs.declared.modules.Import.{Import}
use Rattle.ob_judge.specs.Judged.{Judged, Keeps, Breaks, ◌>>=◌, rule, some}
use Rattle.ob_judge.specs.Shapes.{Nothing}
use Rattle.ob_judge.specs.Image.{Procedure}
use Rattle.ob_judge.specs.Image as Tree
use Rattle.ob_judge.specs.Scopes.{AModule, Entry, Source, no_names, place, spelled, line}
use Rattle.ob_judge.specs.Standards.{predeclared}
use Rattle.ob_judge.specs.Texts.{texts_of}
use Rattle.ob_judge.specs.Statements.{body_of}
use Rattle.ob_judge.specs.Making.{Making, with_levels, declare_last, last_names, no_procedure}
use Rattle.ob_judge.specs.Modules.{SoFar, no_modules, first_making, imported, is_new, offered_by, import_list, is_in, origin, import_part, module_part, with_module}
use Rattle.ob_judge.specs.Declarations.{each, decls_part}
use Rattle.judged_well.specs.Gives.{Gives}
use Rattle.judged_well.proofs.Judging.{keeps, breaks, and_then}
use Rattle.judged_well.proofs.FirstWorld.{of_predeclared}
use Rattle.judged_modules.specs.Sound.{AllNames}
use Rattle.judged_modules.proofs.Keeping.{given}
use Rattle.judged_programs.proofs.ModulesTidy.{offered_is}
use Rattle.judged_programs.proofs.ProceduresTidy.{s_decls}
use Rattle.judged_outlines.specs.Upright.{Upright, UprightSoFar}
use Rattle.judged_outlines.proofs.Uprights.{decls_upright, imports_upright}
use Rattle.judged_outlines.proofs.Modules.{first_upright}
use Rattle.judged_outlines.proofs.Parts.{each_appended, last_among}
use Rattle.later_types.specs.Records.{ObjectRecords, OffersRecords}
use Rattle.later_types.specs.Later.{Below, Rooted, RootedSoFar}
use Rattle.later_types.proofs.Reach.{object_later}
use Rattle.later_types.proofs.Parts.{record_count, ScopedIn, Leaves, Any, r_next, r_pass, r_change, r_stand, scope_declared}
use Rattle.later_types.proofs.Declared.{r_each}
use Rattle.later_types.proofs.Rooteds.{decls_rooted}

-- the names that each module begins with
first_names : (n : ℕ) → AllNames (ObjectRecords (Below n)) (predeclared ∷ no_names ∷ [])
first_names n = (of_predeclared (ObjectRecords (Below n)) tt tt tt tt tt (λ s. tt), ((λ q x at. none_some x at), tt))

pub none_rooted : RootedSoFar no_modules
none_rooted = record { scope = record { names = first_names 0; members = λ k m at. none_some m at; fields = λ r l at. none_some l at; narrowed = tt } }

pub first_rooted : (c : SoFar) → RootedSoFar c → Rooted (first_making c)
first_rooted c h = record { scope = h.scope }

-- what holds of what a judgement gives
gives_of : {A : Type 0} (P : A → Type 0) (m : Judged A) → ((a : A) → m ≡ Keeps a → P a) → Gives P m
gives_of P (Keeps a) f = keeps P a (f a refl)
gives_of P (Breaks number at) f = breaks P number at

module _ (p : Source) where
  r_import : (x : Import) (s : Making) → ScopedIn s → Gives (Leaves Any s) (import_part p x s)
  r_import x s scope = r_next (r_stand p (x.name ∷ []) s scope) (λ r h. r_next (r_pass (some 38 (place p (origin x)) (imported (r.1).world.modules (spelled p (origin x)))) r.1 h.scope) (λ m k.
      let e : Entry = record { object = AModule m.0; exported = false } in
      let after = record (m.1) { imports_in = (m.1).imports_in || is_in m.0 } in
      let a = k.scope in
      r_change m.1 (with_levels (declare_last (spelled p x.name) e) after) (omega arith) (scope_declared after (spelled p x.name) e tt (record { names = a.names; members = a.members; fields = a.fields; narrowed = a.narrowed }))))

  pub import_rooted : (x : Import) (s t : Making) → import_part p x s ≡ Keeps (tt, t) → Rooted s → Rooted t
  import_rooted x s t is h = record { scope = (given (tt, t) (r_import x s h.scope) is).scope }

  pub imports_rooted : (xs : List Import) (s t : Making) → each (import_part p) xs s ≡ Keeps (tt, t) → Rooted s → Rooted t
  imports_rooted xs s t is h = record { scope = (given (tt, t) (r_each p (import_part p) r_import xs s h.scope) is).scope }

  module _ (m : S.Module) (c : SoFar) where
    -- on from a state
    record Carried {A : Type 0} (s : Making) (r : A × Making) : Type 0 where
      more : record_count s ≤ record_count r.1
      upright : Upright c r.1
      rooted : Rooted r.1

    pass : {A : Type 0} (j : Judged A) (s : Making) → Upright c s → Rooted s → Gives (Carried s) (j >>= λ a. Keeps (a, s))
    pass (Keeps a) s up h = keeps (Carried s) (a, s) (record { more = omega arith; upright = up; rooted = h })
    pass (Breaks n at) s up h = breaks (Carried s) n at

    imports_carried : (xs : List Import) (s : Making) → Upright c s → Rooted s → Gives (Carried s) (each (import_part p) xs s)
    imports_carried xs s up h = gives_of (Carried s) (each (import_part p) xs s) (λ r is. let k = given r (r_each p (import_part p) r_import xs s h.scope) is in
        record { more = k.more; upright = imports_upright c p xs s r.1 is up; rooted = record { scope = k.scope } })

    decls_carried : (d : S.Decls) (s : Making) → Upright c s → Rooted s → Gives (Carried s) (decls_part p d s)
    decls_carried d s up h = gives_of (Carried s) (decls_part p d s) (λ r is.
        record { more = (given r (s_decls 0 p d s) is).grown.records_more; upright = decls_upright c p d s r.1 is up; rooted = decls_rooted p c d s r.1 is up h })

    abbrev Ends : Making → Tree.Module × Making → Type 0
    Ends s r = Rooted r.1 × (record_count s ≤ record_count r.1)

    module_ends : (s : Making) → Upright c s → Rooted s → Gives (Ends s) (module_part p m s)
    module_ends s up h =
        and_then (pass (rule 36 (place p m.name) (is_new (imported s.world.modules (spelled p m.name)))) s up h) (λ a ha.
        and_then (imports_carried (import_list m.imports) a.1 ha.upright ha.rooted) (λ i hi.
        and_then (decls_carried m.decls i.1 hi.upright hi.rooted) (λ d hd.
        and_then (pass (body_of p (d.1).world m.body) d.1 hd.upright hd.rooted) (λ b hb.
        and_then (pass (rule 37 (place p m.end_name) (bytes_eq (spelled p m.end_name) (spelled p m.name))) b.1 hb.upright hb.rooted) (λ u hu.
        let f = length (u.1).procedures in
        let q : Procedure = record { module_number = (u.1).world.module_number; line = line p m.name; is_body = true; formals = []; result = Nothing; locals = []; texts = texts_of b.0 None; body = b.0; answer = None } in
        let g = hu.rooted.scope in
        let v = ha.more in
        let w = hi.more in
        let x = hd.more in
        let y = hb.more in
        let z = hu.more in
        keeps (Ends s) (record { name = spelled p m.name; objects = (u.1).objects; variables = (u.1).variables; body = f }, record (u.1) { procedures = slice_set ((u.1).procedures ++ no_procedure ∷ []) f q })
        (record { scope = record { names = g.names; members = g.members; fields = g.fields; narrowed = g.narrowed } }, omega (arith, v, w, x, y, z)))))))

    abbrev with_one : Tree.Module × Making → SoFar
    with_one r = record {
      imports_in = (r.1).imports_in;
      modules = c.modules ++ record { name = spelled p m.name; names = offered_by (r.1).world.levels } ∷ [];
      known = (r.1).world.known;
      program_modules = c.program_modules ++ r.0 ∷ [];
      procedures = (r.1).procedures;
    }

    -- the scope in which the next module begins
    next_rooted : (r : Tree.Module × Making) → RootedSoFar c → Ends (first_making c) r → RootedSoFar (with_one r)
    next_rooted r start h = let a = (h.0).scope in record {
      scope = record {
        names = first_names (record_count r.1);
        members = each_appended (OffersRecords (Below (record_count r.1))) c.modules (record { name = spelled p m.name; names = offered_by (r.1).world.levels })
            (λ k x at q y is. object_later (length c.known.records) (record_count r.1) h.1 y.object (start.scope.members k x at q y is))
            (λ q x is. last_among (ObjectRecords (Below (record_count r.1))) (r.1).world.levels a.names q x (offered_is (last_names (r.1).world.levels q) x is));
        fields = a.fields;
        narrowed = tt;
      };
    }

    module_gives : UprightSoFar c → RootedSoFar c → Gives RootedSoFar (with_module p m c)
    module_gives up start = and_then (module_ends (first_making c) (first_upright c up) (first_rooted c start)) (λ r h. keeps RootedSoFar (with_one r) (next_rooted r start h))

pub module_rooted : (p : Source) (m : S.Module) (c d : SoFar) → with_module p m c ≡ Keeps d → UprightSoFar c → RootedSoFar c → RootedSoFar d
module_rooted p m c d is up h = given d (module_gives p m c up h) is
