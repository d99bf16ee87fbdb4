-- Modules keep shapes closed, one after the other.
use Rattle.std.proofs.Common.{◌≡◌, ℕ, zero, suc, List, [], ◌∷◌, ◌++◌, length, true, false, ◌||◌, Option, Some, None, refl, ap, subst}
use Rattle.std.specs.Prelude.{slice_get, slice_set}
use Rattle.std.specs.Str.{bytes_eq}
use Rattle.ob_types.specs.Forms.{all}
use Rattle.ob_types.proofs.Tests.{none_some, some_same}
use Rattle.ob_syntax.specs.Syntax as S
use Rattle.ob_syntax.specs.declared.modules.Import.{Import}
use Rattle.ob_judge.specs.Judged.{rule, some}
use Rattle.ob_judge.specs.Shapes.{Nothing}
use Rattle.ob_judge.specs.Image.{Statements, Procedure}
use Rattle.ob_judge.specs.Image as Tree
use Rattle.ob_judge.specs.Texts.{texts_of}
use Rattle.ob_judge.specs.Scopes.{Object, AModule, Entry, KnownModule, Source, spelled, place, line}
use Rattle.ob_judge.specs.Statements.{body_of}
use Rattle.ob_judge.specs.Making.{Making, with_levels, declare_last, last_names, no_procedure}
use Rattle.ob_judge.specs.Modules.{SoFar, no_modules, imported, is_new, offered, offered_by, import_list, is_in, origin, first_making, import_part, module_part, with_module}
use Rattle.judged_well.specs.Gives.{Gives}
use Rattle.judged_well.proofs.Judging.{keeps, and_then}
use Rattle.judged_well.proofs.FirstWorld.{of_predeclared}
use Rattle.judged_modules.specs.Sound.{AllNames}
use Rattle.one_lowering.specs.Forms.{is_closed}
use Rattle.text_laws.proofs.judged_shapes.Closed.{IsGood, fields_closed, procedure_closed, Fine, Kept, kept, Any, s_next, s_pass, all_more, fine_declared, s_stand}
use Rattle.text_laws.proofs.judged_shapes.Declared.{s_each, s_decls, fine_heading, fine_set}

-- between modules
pub record FineSoFar (c : SoFar) : Type 0 where
  pub members : (n : ℕ) (m : KnownModule) → slice_get c.modules n ≡ Some m → (q : List ℕ) (x : Entry) → m.names q ≡ Some x → IsGood x.object
  pub fields : all fields_closed c.known.records ≡ true
  pub variables_ : all (λ (m : Tree.Module). all is_closed m.variables) c.program_modules ≡ true
  pub procedures_ : all procedure_closed c.procedures ≡ true

pub none_fine : FineSoFar no_modules
none_fine = record { members = λ n m at q x is. none_some m at; fields = refl; variables_ = refl; procedures_ = refl }

first_fine : (c : SoFar) → FineSoFar c → Fine (first_making c)
first_fine c h = record {
  names = (of_predeclared IsGood (refl, refl) (refl, refl) (refl, refl) (refl, refl) (refl, refl) (λ s. tt), ((λ q x at. none_some x at), tt));
  members = h.members;
  fields = h.fields;
  variables_ = refl;
  procedures_ = h.procedures_;
}

-- what is offered was declared
offered_is : (o : Option Entry) (x : Entry) → offered o ≡ Some x → o ≡ Some x
offered_is None x h = none_some x h
offered_is (Some e) x h = ap Some (by e.object h)
  where
    by : (o : Object) → (elim o as (λ _. Option Entry) [ AModule m ↦ None | other ↦ Some e ]) ≡ Some x → e ≡ x
    by (AModule m) h = none_some x h
    by _ h = some_same e x h

last_of : (ls : List (List ℕ → Option Entry)) → AllNames IsGood ls → (q : List ℕ) (x : Entry) → last_names ls q ≡ Some x → IsGood x.object
last_of [] all q x is = none_some x is
last_of (l ∷ []) all q x is = all.0 q x is
last_of (l ∷ k ∷ ls) all q x is = last_of (k ∷ ls) all.1 q x is

-- what holds of all modules, and of one more
each_module : (P : KnownModule → Type 0) (xs : List KnownModule) (y : KnownModule) → ((n : ℕ) (m : KnownModule) → slice_get xs n ≡ Some m → P m) → P y → (n : ℕ) (m : KnownModule) → slice_get (xs ++ y ∷ []) n ≡ Some m → P m
each_module P [] y all one zero m at = subst P (some_same y m at) one
each_module P [] y all one (suc n) m at = none_some m at
each_module P (x ∷ xs) y all one zero m at = all 0 m at
each_module P (x ∷ xs) y all one (suc n) m at = each_module P xs y (λ k z i. all (suc k) z i) one n m at

module _ (p : Source) where
  s_import : (x : Import) (s : Making) → Fine s → Gives (Kept Any) (import_part p x s)
  s_import x s fine =
      s_next (s_stand p (x.name ∷ []) s fine) (λ r fine_r _.
      s_next (s_pass (some 38 (place p (origin x)) (imported (r.1).world.modules (spelled p (origin x)))) r.1 fine_r) (λ m fine_m _.
      let e : Entry = record { object = AModule m.0; exported = false } in
      let after = record (m.1) { imports_in = (m.1).imports_in || is_in m.0 } in
      kept Any tt (with_levels (declare_last (spelled p x.name) e) after) (fine_declared (spelled p x.name) e after tt fine_m) tt))

  abbrev variables_closed : Tree.Module → Type 0
  variables_closed m = all is_closed m.variables ≡ true

  s_module : (m : S.Module) (s : Making) → Fine s → Gives (Kept variables_closed) (module_part p m s)
  s_module m s fine =
      s_next (s_pass (rule 36 (place p m.name) (is_new (imported s.world.modules (spelled p m.name)))) s fine) (λ a fine_a _.
      s_next (s_each p (import_part p) s_import (import_list m.imports) a.1 fine_a) (λ b fine_b _.
      s_next (s_decls p m.decls b.1 fine_b) (λ d fine_d _.
      s_next (s_pass (body_of p (d.1).world m.body) d.1 fine_d) (λ e fine_e _.
      s_next (s_pass (rule 37 (place p m.end_name) (bytes_eq (spelled p m.end_name) (spelled p m.name))) e.1 fine_e) (λ u fine_u _.
      let v = u.1 in
      let f = length v.procedures in
      let begun = record v { procedures = v.procedures ++ no_procedure ∷ [] } in
      let q : Procedure = record {
        module_number = v.world.module_number;
        line = line p m.name;
        is_body = true;
        formals = [];
        result = Nothing;
        locals = [];
        texts = texts_of e.0 None;
        body = e.0;
        answer = None;
      } in
      kept variables_closed (record { name = spelled p m.name; objects = v.objects; variables = v.variables; body = f })
      (record begun { procedures = slice_set begun.procedures f q }) (fine_set p begun f q refl (fine_heading p v fine_u)) fine_u.variables_)))))

  abbrev with_one : S.Module → SoFar → Tree.Module × Making → SoFar
  with_one m c r = record {
    imports_in = (r.1).imports_in;
    modules = c.modules ++ record { name = spelled p m.name; names = offered_by (r.1).world.levels } ∷ [];
    known = (r.1).world.known;
    program_modules = c.program_modules ++ r.0 ∷ [];
    procedures = (r.1).procedures;
  }

  pub module_fine : (m : S.Module) (c : SoFar) → FineSoFar c → Gives FineSoFar (with_module p m c)
  module_fine m c fine = and_then (s_module m (first_making c) (first_fine c fine)) (λ r h.
      let last = h.fine in
      keeps FineSoFar (with_one m c r) (record {
        members = each_module (λ k. (q : List ℕ) (x : Entry) → k.names q ≡ Some x → IsGood x.object) c.modules (record { name = spelled p m.name; names = offered_by (r.1).world.levels })
            (λ n k at q x is. fine.members n k at q x is)
            (λ q x is. last_of (r.1).world.levels last.names q x (offered_is (last_names (r.1).world.levels q) x is));
        fields = last.fields;
        variables_ = all_more (λ (k : Tree.Module). all is_closed k.variables) c.program_modules r.0 fine.variables_ h.holds;
        procedures_ = last.procedures_;
      }))
