-- Modules judged, one after the other: what is made of all of them is tidy, and their bodies are in order.
use Rattle.std.proofs.Common.{◌≡◌, ℕ, zero, suc, ◌+◌, ◌<◌, ◌≤◌, List, [], ◌∷◌, ◌++◌, map, length, Bool, true, false, ◌||◌, Option, Some, None, refl, ap, ap₂, sym, ◌∙◌, subst, arith}
use Rattle.std.specs.Prelude.{slice_get, slice_set, if◌then◌else◌}
use Rattle.std.specs.Str.{bytes_eq}
use Rattle.ob_types.proofs.Tests.{none_some, some_same}
use Rattle.ob_syntax.specs.Syntax as S
use Rattle.ob_syntax.specs.declared.modules.Import.{Import}
use Rattle.ob_judge.specs.Judged.{Judged, Keeps, Breaks, rule, some}
use Rattle.ob_judge.specs.Shapes.{Shape, Integer, Boolean, Char, Byte, Set, Nothing, Layout}
use Rattle.ob_judge.specs.Image.{Procedure}
use Rattle.ob_judge.specs.Image as Tree
use Rattle.ob_judge.specs.Scopes.{Object, AModule, Entry, KnownModule, Source, place, spelled, line}
use Rattle.ob_judge.specs.Texts.{texts_of}
use Rattle.ob_judge.specs.Statements.{body_of}
use Rattle.ob_judge.specs.Making.{Making, with_levels, declare_last, last_names, no_procedure}
use Rattle.ob_judge.specs.Declarations.{each}
use Rattle.ob_judge.specs.Modules.{SoFar, no_modules, first_making, imported, is_new, offered, offered_by, import_list, is_in, origin, import_part, module_part, with_module, Parsed, Verdict, Legal, program_of, judged_after, checked_after, checked}
use Rattle.judged_well.specs.Gives.{Gives}
use Rattle.judged_well.specs.Standing.{is_whole}
use Rattle.judged_well.proofs.Judging.{keeps, weaken, and_then}
use Rattle.judged_well.proofs.FirstWorld.{of_predeclared}
use Rattle.judged_modules.specs.Agrees.{records_of}
use Rattle.judged_modules.proofs.Lists.{get_append, get_behind, get_last, get_within, append_length}
use Rattle.judged_modules.proofs.Growing.{Grows, untouched, onward}
use Rattle.judged_modules.proofs.Keeping.{given}
use Rattle.judged_modules.proofs.Parameters.{look_as}
use Rattle.judged_modules.proofs.TypesGrow.{each_map, each_append}
use Rattle.judged_programs.specs.Complete.{core, IsKnown, CompleteStay}
use Rattle.judged_programs.proofs.Cores.{grown_later}
use Rattle.judged_programs.proofs.Tidy.{Through, s_stand, tidy_declared, depth_declared, object_later, last_of}
use Rattle.judged_programs.proofs.ProceduresTidy.{each_with, stays_self, stays_on, s_decls}
use Rattle.judged_programs.specs.Tidy.{AreWhole, IsKnownObject, IsLegalProcedure, Tidy}
use Rattle.judged_programs.specs.TidyModules.{HasBody, IsBare, TidySoFar, bodies_of}

-- ---- imports

module _ (from : ℕ) (p : Source) where
  s_import : (x : Import) (s : Making) → Gives (Through from s) (import_part p x s)
  s_import x s = and_then (s_stand p {Before = Unit {0}} (x.name ∷ []) s) (λ r h. and_then (look_as (some 38 (place p (origin x)) (imported (r.1).world.modules (spelled p (origin x)))) r.1) (λ m k.
      let e : Entry = record { object = AModule m.0; exported = false } in
      let after = record (m.1) { imports_in = (m.1).imports_in || is_in m.0 } in
      keeps (Through from s) (tt, with_levels (declare_last (spelled p x.name) e) after) (stays_on from p s r _ h (subst (λ u. Through from u (tt, with_levels (declare_last (spelled p x.name) e) after)) k.0 (record {
        grown = untouched m.1 _ refl refl refl refl refl refl refl;
        depth = depth_declared (spelled p x.name) e (m.1).world.levels;
        tidy = λ before tidy. (tidy_declared from after (spelled p x.name) e tt (λ none. tt) tidy, tt);
      })))))

  s_imports : (xs : List Import) (s : Making) → Gives (Through from s) (each (import_part p) xs s)
  s_imports [] s = keeps (Through from s) (tt, s) (stays_self from p s)
  s_imports (x ∷ xs) s = and_then (s_import x s) (λ r h. weaken (s_imports xs r.1) (λ q k. stays_on from p s r q h k))

-- ---- a module

-- what becomes of a module: further procedures, none of them a body, and then its body
pub record ModuleTidy (from : ℕ) (s : Making) (r : Tree.Module × Making) : Type 0 where
  pub grown : Grows s r.1
  pub depth : length (r.1).world.levels ≡ length s.world.levels
  pub variables : (r.0).variables ≡ (r.1).variables
  pub before : List Procedure
  pub body : Procedure
  pub procedures : (r.1).procedures ≡ before ++ body ∷ []
  pub number : (r.0).body ≡ length before
  pub bare : IsBare body
  pub longer : length s.procedures ≤ length before
  pub prefix : (f : ℕ) → f < length s.procedures → slice_get before f ≡ slice_get s.procedures f
  pub no_body : Tidy from s → (f : ℕ) (q : Procedure) → from ≤ f → slice_get before f ≡ Some q → q.is_body ≡ false
  pub tidy : Tidy from s → Tidy (length (r.1).procedures) r.1

set_last : (xs : List Procedure) (y z : Procedure) → slice_set (xs ++ y ∷ []) (length xs) z ≡ xs ++ z ∷ []
set_last [] y z = refl
set_last (x ∷ xs) y z = ap (λ ys. x ∷ ys) (set_last xs y z)

-- with its body
with_body_tidy : (from : ℕ) (d : Making) (q : Procedure) (qs : List Procedure) → qs ≡ d.procedures ++ q ∷ [] → IsLegalProcedure q → Tidy from d → Tidy (length qs) (record d { procedures = qs })
with_body_tidy from d q qs is legal h = record {
  nested = h.nested;
  names = h.names;
  members = h.members;
  lines = h.lines;
  ranked = h.ranked;
  targets = h.targets;
  whole = h.whole;
  legal = λ f x at. each_with (λ g y. IsLegalProcedure y) d.procedures q h.legal legal f x (ap (λ zs. slice_get zs f) (sym is) ∙ at);
  no_body = λ f x past at. let l = get_within qs f x at in absurd (omega (arith, past, l));
}

with_body_grows : (d : Making) (q : Procedure) → Grows d (record d { procedures = slice_set (d.procedures ++ no_procedure ∷ []) (length d.procedures) q })
with_body_grows d q =
    let same = set_last d.procedures no_procedure q in
    record {
      records_more = omega arith;
      records = λ r l. refl;
      bases_more = omega arith;
      bases = λ n l. refl;
      procedures_more = let e = ap length same in let a = append_length d.procedures (q ∷ []) in omega (arith, e, a);
      procedures = λ f l. ap (λ zs. slice_get zs f) same ∙ get_append d.procedures (q ∷ []) f l;
      variables = λ v x h. (refl, h);
      procedure = refl;
      module_number = refl;
      lines = λ h. h;
    }

module _ (from : ℕ) (p : Source) where
  pub s_module : (m : S.Module) (s : Making) → Gives (ModuleTidy from s) (module_part p m s)
  s_module m s =
      and_then (look_as (rule 36 (place p m.name) (is_new (imported s.world.modules (spelled p m.name)))) s) (λ a ha.
      and_then (s_imports from p (import_list m.imports) a.1) (λ i hi.
      and_then (s_decls from p m.decls i.1) (λ d hd.
      and_then (look_as (body_of p (d.1).world m.body) d.1) (λ b hb.
      and_then (look_as (rule 37 (place p m.end_name) (bytes_eq (spelled p m.end_name) (spelled p m.name))) b.1) (λ u hu.
      let f = length (u.1).procedures in
      let q : Procedure = record { module_number = (u.1).world.module_number; line = line p m.name; is_body = true; formals = []; result = Nothing; locals = []; texts = texts_of b.0 None; body = b.0; answer = None } in
      let whole = subst (λ x. Through from x u) ha.0 (subst (λ x. Through from a.1 (tt, x)) (sym (hu.0 ∙ hb.0)) (stays_on from p a.1 i d hi hd)) in
      let end = record (u.1) { procedures = slice_set ((u.1).procedures ++ no_procedure ∷ []) f q } in
      let same = set_last (u.1).procedures no_procedure q in
      keeps (ModuleTidy from s) (record { name = spelled p m.name; objects = (u.1).objects; variables = (u.1).variables; body = f }, end) (record {
        grown = onward s u.1 end whole.grown (with_body_grows u.1 q);
        depth = whole.depth;
        variables = refl;
        before = (u.1).procedures;
        body = q;
        procedures = same;
        number = refl;
        bare = record { marked = refl; formals = refl; locals = refl; result = refl; answer = refl };
        longer = whole.grown.procedures_more;
        prefix = whole.grown.procedures;
        no_body = λ tidy. ((whole.tidy tt tidy).0).no_body;
        tidy = λ tidy. with_body_tidy from u.1 q (slice_set ((u.1).procedures ++ no_procedure ∷ []) f q) same (record { locals = tt; words = omega arith; result = refl; formals = tt }) (whole.tidy tt tidy).0;
      }))))))

-- ---- the bodies of modules, by their numbers

bodies_append : (f : ℕ) (xs ys : List Procedure) → bodies_of f (xs ++ ys) ≡ bodies_of f xs ++ bodies_of (f + length xs) ys
bodies_append f [] ys = let e : f ≡ f + 0 = omega arith in ap (λ n. bodies_of n ys) e
bodies_append f (x ∷ xs) ys = by x.is_body (bodies_append (suc f) xs ys ∙ (let e : suc f + length xs ≡ f + suc (length xs) = omega arith in ap (λ n. bodies_of (suc f) xs ++ bodies_of n ys) e))
  where
    by : (b : Bool) → bodies_of (suc f) (xs ++ ys) ≡ bodies_of (suc f) xs ++ bodies_of (f + suc (length xs)) ys
        → (if b then (f ∷ bodies_of (suc f) (xs ++ ys)) else bodies_of (suc f) (xs ++ ys)) ≡ (if b then (f ∷ bodies_of (suc f) xs) else bodies_of (suc f) xs) ++ bodies_of (f + suc (length xs)) ys
    by true h = ap (λ zs. f ∷ zs) h
    by false h = h

bodies_none : (f : ℕ) (xs : List Procedure) → ((i : ℕ) (q : Procedure) → slice_get xs i ≡ Some q → q.is_body ≡ false) → bodies_of f xs ≡ []
bodies_none f [] h = refl
bodies_none f (x ∷ xs) h = ap (λ b. if b then (f ∷ bodies_of (suc f) xs) else bodies_of (suc f) xs) (h 0 x refl) ∙ bodies_none (suc f) xs (λ i q at. h (suc i) q at)

-- a list that goes on from another
continued : {A : Type 0} (xs ys : List A) → length xs ≤ length ys → ((f : ℕ) → f < length xs → slice_get ys f ≡ slice_get xs f) → (zs : List A) × (ys ≡ xs ++ zs)
continued [] ys l h = (ys, refl)
continued (x ∷ xs) [] l h = absurd (omega (arith, l))
continued (x ∷ xs) (y ∷ ys) l h =
    let k = continued xs ys (omega (arith, l)) (λ f less. h (suc f) (omega (arith, less))) in
    (k.0, ap₂ (λ a b. a ∷ b) (some_same y x (h 0 (omega arith))) k.1)

nil_right : (xs : List ℕ) → xs ++ [] ≡ xs
nil_right [] = refl
nil_right (x ∷ xs) = ap (λ ys. x ∷ ys) (nil_right xs)

bodies_more : (xs before : List Procedure) (body : Procedure) → length xs ≤ length before → ((f : ℕ) → f < length xs → slice_get before f ≡ slice_get xs f)
    → ((f : ℕ) (q : Procedure) → length xs ≤ f → slice_get before f ≡ Some q → q.is_body ≡ false) → body.is_body ≡ true
    → bodies_of 0 (before ++ body ∷ []) ≡ bodies_of 0 xs ++ length before ∷ []
bodies_more xs before body longer prefix no_body marked =
    let k = continued xs before longer prefix in
    let none : bodies_of (0 + length xs) k.0 ≡ [] = bodies_none (0 + length xs) k.0 (λ i q at. no_body (length xs + i) q (omega arith) (ap (λ zs. slice_get zs (length xs + i)) k.1 ∙ get_behind xs k.0 i ∙ at)) in
    let front : bodies_of 0 before ≡ bodies_of 0 xs = ap (bodies_of 0) k.1 ∙ bodies_append 0 xs k.0 ∙ ap (λ zs. bodies_of 0 xs ++ zs) none ∙ nil_right (bodies_of 0 xs) in
    let number : 0 + length before ≡ length before = omega arith in
    bodies_append 0 before (body ∷ []) ∙ ap₂ (λ a b. a ++ b) front (ap (λ b. if b then ((0 + length before) ∷ []) else []) marked ∙ ap (λ n. n ∷ []) number)

-- ---- all modules so far

pub none_tidy : TidySoFar no_modules
none_tidy = record {
  many = refl;
  members = λ n m at q x is. none_some m at;
  lines = λ r l at. none_some l at;
  ranked = record { rank = λ r. 0; clock = 0; each = λ r l at. none_some l at };
  targets = λ n r at. none_some (Some r) at;
  legal = λ f q at. none_some q at;
  variables = tt;
  bodies = tt;
  order = refl;
}

plain_known : (records : List Layout) (a : Shape) → is_whole a ≡ true → core a ≡ None → IsKnown records a
plain_known records a whole none = record { whole = whole; core_there = λ r is. none_some r (sym none ∙ is) }

pub first_tidy : (c : SoFar) → TidySoFar c → Tidy (length c.procedures) (first_making c)
first_tidy c h = record {
  nested = (refl, λ q x at. none_some x at);
  names = (of_predeclared (IsKnownObject c.known.records) (plain_known c.known.records Integer refl refl) (plain_known c.known.records Boolean refl refl) (plain_known c.known.records Char refl refl) (plain_known c.known.records Byte refl refl) (plain_known c.known.records Set refl refl) (λ s. tt), ((λ q x at. none_some x at), tt));
  members = h.members;
  lines = h.lines;
  ranked = h.ranked;
  targets = h.targets;
  whole = tt;
  legal = h.legal;
  no_body = λ f q past at. let l = get_within c.procedures f q at in absurd (omega (arith, past, l));
}

-- what is offered was declared
pub offered_is : (o : Option Entry) (x : Entry) → offered o ≡ Some x → o ≡ Some x
offered_is None x h = none_some x h
offered_is (Some e) x h = ap Some (by e.object h)
  where
    by : (o : Object) → (elim o as (λ _. Option Entry) [ AModule m ↦ None | other ↦ Some e ]) ≡ Some x → e ≡ x
    by (AModule m) h = none_some x h
    by _ h = some_same e x h

-- what holds of all modules, and of one more
pub each_module : (P : ℕ → KnownModule → Type 0) (xs : List KnownModule) (y : KnownModule) → ((n : ℕ) (m : KnownModule) → slice_get xs n ≡ Some m → P n m) → P (length xs) y → (n : ℕ) (m : KnownModule) → slice_get (xs ++ y ∷ []) n ≡ Some m → P n m
each_module P [] y all one zero m at = subst (P 0) (some_same y m at) one
each_module P [] y all one (suc n) m at = none_some m at
each_module P (x ∷ xs) y all one zero m at = all 0 m at
each_module P (x ∷ xs) y all one (suc n) m at = each_module (λ k z. P (suc k) z) xs y (λ k z i. all (suc k) z i) one n m at

map_more : (xs : List Tree.Module) (y : Tree.Module) → map (λ m. m.body) (xs ++ y ∷ []) ≡ map (λ m. m.body) xs ++ y.body ∷ []
map_more [] y = refl
map_more (x ∷ xs) y = ap (λ zs. x.body ∷ zs) (map_more xs y)

module _ (p : Source) (m : S.Module) (c : SoFar) where
  -- all modules with one more
  abbrev pub with_one : Tree.Module × Making → SoFar
  with_one r = record {
    imports_in = (r.1).imports_in;
    modules = c.modules ++ record { name = spelled p m.name; names = offered_by (r.1).world.levels } ∷ [];
    known = (r.1).world.known;
    program_modules = c.program_modules ++ r.0 ∷ [];
    procedures = (r.1).procedures;
  }

  pub with_one_tidy : (r : Tree.Module × Making) → ModuleTidy (length c.procedures) (first_making c) r → TidySoFar c → TidySoFar (with_one r)
  with_one_tidy r h tidy =
      let start = first_tidy c tidy in
      let end = h.tidy start in
      let later : CompleteStay c.known.records (records_of r.1) = grown_later (first_making c) r.1 h.grown in
      record {
        many = let a = append_length c.program_modules (r.0 ∷ []) in let b = append_length c.modules (record { name = spelled p m.name; names = offered_by (r.1).world.levels } ∷ []) in let e = tidy.many in omega (arith, a, b, e);
        members = each_module (λ n k. (q : List ℕ) (x : Entry) → k.names q ≡ Some x → IsKnownObject (records_of r.1) x.object) c.modules (record { name = spelled p m.name; names = offered_by (r.1).world.levels })
            (λ n k at q x is. object_later c.known.records (records_of r.1) later x.object (tidy.members n k at q x is))
            (λ q x is. last_of (IsKnownObject (records_of r.1)) (r.1).world.levels end.names q x (offered_is (last_names (r.1).world.levels q) x is));
        lines = end.lines;
        ranked = end.ranked;
        targets = end.targets;
        legal = end.legal;
        variables = each_append (λ k. AreWhole k.variables) c.program_modules (r.0 ∷ []) tidy.variables (subst AreWhole (sym h.variables) end.whole, tt);
        bodies = each_append (HasBody (r.1).procedures) c.program_modules (r.0 ∷ [])
            (each_map (HasBody c.procedures) (HasBody (r.1).procedures) c.program_modules (λ k b. record { body = b.body; there = h.grown.procedures k.body (get_within c.procedures k.body b.body b.there) ∙ b.there; bare = b.bare }) tidy.bodies)
            (record { body = h.body; there = ap₂ (λ xs n. slice_get xs n) h.procedures h.number ∙ get_last h.before h.body; bare = h.bare }, tt);
        order = ap (bodies_of 0) h.procedures ∙ bodies_more c.procedures h.before h.body h.longer h.prefix (h.no_body start) h.bare.marked
            ∙ ap₂ (λ a b. a ++ b ∷ []) tidy.order (sym h.number) ∙ sym (map_more c.program_modules r.0);
      }

  pub module_tidy : TidySoFar c → Gives TidySoFar (with_module p m c)
  module_tidy tidy = and_then (s_module (length c.procedures) p m (first_making c)) (λ r h. keeps TidySoFar (with_one r) (with_one_tidy r h tidy))

-- the end of all modules
pub record AllTidy (q : Tree.Program) : Type 0 where
  pub end : SoFar
  pub is : program_of end ≡ q
  pub tidy : TidySoFar end

pub legal_same : (a b : Tree.Program) → Legal a ≡ Legal b → a ≡ b
legal_same a b h = cc

-- one module was accepted, and then those behind it
pub accepted : (j : Judged SoFar) (n : ℕ) (rest : SoFar → Verdict) (q : Tree.Program) → judged_after j n rest ≡ Legal q → (d : SoFar) × (j ≡ Keeps d) × (rest d ≡ Legal q)
accepted (Keeps d) n rest q h = (d, refl, h)
accepted (Breaks number at) n rest q h = absurd (let z = h in cc)

all_after : (ms : List Parsed) (c : SoFar) (q : Tree.Program) → TidySoFar c → checked_after c ms ≡ Legal q → AllTidy q
all_after [] c q tidy is = record { end = c; is = legal_same (program_of c) q is; tidy = tidy }
all_after (m ∷ ms) c q tidy is =
    let k = accepted (with_module m.source m.tree c) (length c.modules) (λ d. checked_after d ms) q is in
    all_after ms k.0 q (given k.0 (module_tidy m.source m.tree c tidy) k.1) k.2

pub all_tidy : (ms : List Parsed) (q : Tree.Program) → checked ms ≡ Legal q → AllTidy q
all_tidy ms q is = all_after ms no_modules q none_tidy is
