-- Modules judged, one after the other: all that is in scope names pointer types that there are.
use Rattle.std.proofs.Common.{ℕ, [], ◌∷◌, ◌++◌, length, true, false, ◌||◌, None, arith}
use Rattle.std.specs.Prelude.{slice_set}
use Rattle.std.specs.Str.{bytes_eq}
use Rattle.ob_types.proofs.Tests.{none_some}
use Rattle.ob_syntax.specs.Syntax as S
use Rattle.ob_syntax.specs.declared.modules.Import.{Import}
use Rattle.ob_judge.specs.Judged.{rule, some}
use Rattle.ob_judge.specs.Shapes.{Nothing}
use Rattle.ob_judge.specs.Image.{Procedure}
use Rattle.ob_judge.specs.Image as Tree
use Rattle.ob_judge.specs.Scopes.{AModule, Entry, Source, no_names, place, spelled, line}
use Rattle.ob_judge.specs.Standards.{predeclared}
use Rattle.ob_judge.specs.Texts.{texts_of}
use Rattle.ob_judge.specs.Statements.{body_of}
use Rattle.ob_judge.specs.Making.{Making, with_levels, declare_last, last_names, no_procedure}
use Rattle.ob_judge.specs.Modules.{SoFar, no_modules, first_making, imported, is_new, offered_by, import_list, is_in, origin, import_part, module_part, with_module}
use Rattle.judged_well.specs.Gives.{Gives}
use Rattle.judged_well.proofs.Judging.{keeps, and_then}
use Rattle.judged_well.proofs.FirstWorld.{of_predeclared}
use Rattle.judged_modules.specs.Sound.{AllNames}
use Rattle.judged_programs.proofs.ModulesTidy.{offered_is, none_tidy, first_tidy}
use Rattle.judged_outlines.specs.Among.{ObjectAmong, OffersAmong, WorldAmong}
use Rattle.judged_outlines.specs.Upright.{Upright, UprightSoFar}
use Rattle.judged_outlines.proofs.Reach.{object_later}
use Rattle.judged_outlines.proofs.Parts.{pointer_count, AmongIn, LeavesAmong, Any, d_next, d_pass, d_change, each_appended, last_among, among_declared, d_stand}
use Rattle.judged_outlines.proofs.Declared.{d_each, d_decls}

-- the names that each module begins with
first_names : (n : ℕ) → AllNames (ObjectAmong n) (predeclared ∷ no_names ∷ [])
first_names n = (of_predeclared (ObjectAmong n) tt tt tt tt tt (λ s. tt), ((λ q x at. none_some x at), tt))

pub first_among : WorldAmong 0 (first_making no_modules).world
first_among = record { names = first_names 0; members = λ k m at. none_some m at; fields = λ r l at. none_some l at; narrowed = tt }

pub none_upright : UprightSoFar no_modules
none_upright = record { tidy = none_tidy; among = first_among }

pub first_upright : (c : SoFar) → UprightSoFar c → Upright c (first_making c)
first_upright c h = record { tidy = first_tidy c h.tidy; among = h.among }

module _ (p : Source) where
  pub d_import : (x : Import) (s : Making) → AmongIn s → Gives (LeavesAmong Any s) (import_part p x s)
  d_import x s among = d_next (d_stand p (x.name ∷ []) s among) (λ r h. d_next (d_pass (some 38 (place p (origin x)) (imported (r.1).world.modules (spelled p (origin x)))) r.1 h.among) (λ m k.
      let e : Entry = record { object = AModule m.0; exported = false } in
      let after = record (m.1) { imports_in = (m.1).imports_in || is_in m.0 } in
      let a = k.among in
      d_change m.1 (with_levels (declare_last (spelled p x.name) e) after) (omega arith) (among_declared after (spelled p x.name) e tt (record { names = a.names; members = a.members; fields = a.fields; narrowed = a.narrowed }))))

  module _ (m : S.Module) (c : SoFar) where
    abbrev with_one : Tree.Module × Making → SoFar
    with_one r = record {
      imports_in = (r.1).imports_in;
      modules = c.modules ++ record { name = spelled p m.name; names = offered_by (r.1).world.levels } ∷ [];
      known = (r.1).world.known;
      program_modules = c.program_modules ++ r.0 ∷ [];
      procedures = (r.1).procedures;
    }

    -- the scope in which the next module begins
    next_among : (r : Tree.Module × Making) → WorldAmong (length c.known.bases) (first_making c).world → LeavesAmong Any (first_making c) r → WorldAmong (pointer_count r.1) (first_making (with_one r)).world
    next_among r start h = let a = h.among in record {
      names = first_names (pointer_count r.1);
      members = each_appended (OffersAmong (pointer_count r.1)) c.modules (record { name = spelled p m.name; names = offered_by (r.1).world.levels })
          (λ k x at q y is. object_later (length c.known.bases) (pointer_count r.1) h.more y.object (start.members k x at q y is))
          (λ q x is. last_among (ObjectAmong (pointer_count r.1)) (r.1).world.levels a.names q x (offered_is (last_names (r.1).world.levels q) x is));
      fields = a.fields;
      narrowed = tt;
    }

    d_module : (s : Making) → AmongIn s → Gives (LeavesAmong Any s) (module_part p m s)
    d_module s among =
        d_next (d_pass (rule 36 (place p m.name) (is_new (imported s.world.modules (spelled p m.name)))) s among) (λ a ha.
        d_next (d_each p (import_part p) d_import (import_list m.imports) a.1 ha.among) (λ i hi.
        d_next (d_decls p m.decls i.1 hi.among) (λ d hd.
        d_next (d_pass (body_of p (d.1).world m.body) d.1 hd.among) (λ b hb.
        d_next (d_pass (rule 37 (place p m.end_name) (bytes_eq (spelled p m.end_name) (spelled p m.name))) b.1 hb.among) (λ u hu.
        let f = length (u.1).procedures in
        let q : Procedure = record { module_number = (u.1).world.module_number; line = line p m.name; is_body = true; formals = []; result = Nothing; locals = []; texts = texts_of b.0 None; body = b.0; answer = None } in
        let g = hu.among in
        keeps (LeavesAmong Any u.1) (record { name = spelled p m.name; objects = (u.1).objects; variables = (u.1).variables; body = f }, record (u.1) { procedures = slice_set ((u.1).procedures ++ no_procedure ∷ []) f q })
        (record { more = omega arith; among = record { names = g.names; members = g.members; fields = g.fields; narrowed = g.narrowed }; gives = tt }))))))

    pub module_among : WorldAmong (length c.known.bases) (first_making c).world → Gives (λ d. WorldAmong (length d.known.bases) (first_making d).world) (with_module p m c)
    module_among start = and_then (d_module (first_making c) start) (λ r h. keeps (λ d. WorldAmong (length d.known.bases) (first_making d).world) (with_one r) (next_among r start h))
