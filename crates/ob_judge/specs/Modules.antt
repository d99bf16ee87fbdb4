-- Modules judged, one after the other.
use Rattle.std.specs.Prelude.{ℕ, suc, ◌-◌, List, [], ◌∷◌, ◌++◌, length, Bool, true, false, ◌||◌, if◌then◌else◌, Option, Some, None, map}
use Rattle.std.specs.Str.{bytes_eq}
use Rattle.ob_syntax.specs.Syntax as S
use Rattle.ob_syntax.specs.declared.modules.Import.{Import}
use Rattle.ob_judge.specs.Judged.{Judged, Keeps, Breaks, ◌>>=◌, rule, some}
use Rattle.ob_judge.specs.Shapes.{Nothing, Known, Layout}
use Rattle.ob_judge.specs.Image.{Procedure, Module, RecordType, Program}
use Rattle.ob_judge.specs.Texts.{texts_of}
use Rattle.ob_judge.specs.Scopes.{AModule, Imported, TheOut, TheIn, Earlier, Entry, KnownModule, Source, no_names, place, spelled, line}
use Rattle.ob_judge.specs.Standards.{predeclared, out_name, in_name}
use Rattle.ob_judge.specs.Statements.{body_of}
use Rattle.ob_judge.specs.Making.{Making, Part, ◌>>>◌, give, here, become, ask, with_levels, declare_last, last_names, new_procedure, set_procedure}
use Rattle.ob_judge.specs.Parameters.{stand}
use Rattle.ob_judge.specs.Declarations.{each, decls_part}

-- the modules so far: what is known of them, of their types, and what they become
pub record SoFar : Type 0 where
  pub imports_in : Bool
  pub modules : List KnownModule
  pub known : Known
  pub program_modules : List Module
  pub procedures : List Procedure

abbrev pub no_modules : SoFar
no_modules = record {
  imports_in = false;
  modules = [];
  known = record { records = []; bases = [] };
  program_modules = [];
  procedures = [];
}

-- the number of the module of this name, from n on
abbrev pub module_from : ℕ → List KnownModule → List ℕ → Option Imported
module_from n [] name = None
module_from n (m ∷ ms) name = if bytes_eq m.name name then Some (Earlier n) else module_from (suc n) ms name

abbrev pub imported : List KnownModule → List ℕ → Option Imported
imported ms name =
    if bytes_eq out_name name then Some TheOut
    else if bytes_eq in_name name then Some TheIn
    else module_from 0 ms name

abbrev pub is_new : Option Imported → Bool
is_new None = true
is_new (Some m) = false

-- a module's names as others see them: not its imports
abbrev pub offered : Option Entry → Option Entry
offered None = None
offered (Some e) = elim (e.object) as (λ _. Option Entry) [ AModule m ↦ None | other ↦ Some e ]

abbrev pub offered_by : List (List ℕ → Option Entry) → List ℕ → Option Entry
offered_by levels q = offered (last_names levels q)

abbrev pub import_list : Option S.Imports → List Import
import_list None = []
import_list (Some x) = x.first ∷ map (λ n. n.import) x.more

abbrev pub is_in : Imported → Bool
is_in TheIn = true
is_in m = false

-- the name of the module that is imported
abbrev pub origin : Import → ℕ
origin x = elim (x.of) as (λ _. ℕ) [ None ↦ x.name | Some o ↦ o.name ]

abbrev pub first_making : SoFar → Making
first_making c = record {
  imports_in = c.imports_in;
  world = record { modules = c.modules; known = c.known; levels = predeclared ∷ no_names ∷ []; module_number = length c.modules; procedure = None; constant = false; narrowed = [] };
  is_type_part = false;
  forward = [];
  standing = [];
  values = 0;
  variables = [];
  objects = [];
  procedures = c.procedures;
}

module _ (p : Source) where
  -- 36 at the name under which it is known here; 38 at the name of no earlier module
  abbrev pub import_part : Import → Part (Unit {0})
  import_part x =
      stand p (x.name ∷ []) >>> λ _.
      here (λ w. some 38 (place p (origin x)) (imported w.modules (spelled p (origin x)))) >>> λ m.
      become (λ s. record s { imports_in = s.imports_in || is_in m }) >>> λ _.
      become (with_levels (declare_last (spelled p x.name) (record { object = AModule m; exported = false })))

  -- a module, behind those before: its imports, its declarations, its body, its end name
  abbrev pub module_part : S.Module → Part Module
  module_part m =
      here (λ w. rule 36 (place p m.name) (is_new (imported w.modules (spelled p m.name)))) >>> λ _.
      each import_part (import_list m.imports) >>> λ _.
      decls_part p m.decls >>> λ _.
      here (λ w. body_of p w m.body) >>> λ b.
      here (λ w. rule 37 (place p m.end_name) (bytes_eq (spelled p m.end_name) (spelled p m.name))) >>> λ _.
      new_procedure >>> λ f. ask (λ s. s.world.module_number) >>> λ number.
      set_procedure f (record {
        module_number = number;
        line = line p m.name;
        is_body = true;
        formals = [];
        result = Nothing;
        locals = [];
        texts = texts_of b None;
        body = b;
        answer = None;
      }) >>> λ _.
      ask (λ s. s.variables) >>> λ variables. ask (λ s. s.objects) >>> λ objects.
      give (record { name = spelled p m.name; objects = objects; variables = variables; body = f })

  abbrev pub with_module : S.Module → SoFar → Judged SoFar
  with_module m c = do
    r ← module_part m (first_making c)
    Keeps (record {
      imports_in = r.1.imports_in;
      modules = c.modules ++ record { name = spelled p m.name; names = offered_by r.1.world.levels } ∷ [];
      known = r.1.world.known;
      program_modules = c.program_modules ++ r.0 ∷ [];
      procedures = r.1.procedures;
    })

-- a module's text, symbols and tree
pub record Parsed : Type 0 where
  pub source : Source
  pub tree : S.Module

-- all modules in order: the first rule broken, by its module, number and place
pub data Verdict : Type 0 where
  Legal : Program → Verdict
  Fault : (module_number rule at : ℕ) → Verdict

abbrev pub base_in : List ℕ → Option ℕ
base_in [] = None
base_in (r ∷ []) = None
base_in (r ∷ b ∷ line) = Some b

abbrev pub record_form : Layout → RecordType
record_form l = record {
  module_number = l.module_number;
  base = base_in l.line;
  level = length l.line - 1;
  fields = l.added;
  cells = l.cells;
  extent = l.extent;
}

abbrev pub program_of : SoFar → Program
program_of c = record {
  records = map record_form c.known.records;
  pointers = c.known.bases;
  modules = c.program_modules;
  procedures = c.procedures;
  imports_in = c.imports_in;
}

abbrev pub judged_after : Judged SoFar → ℕ → (SoFar → Verdict) → Verdict
judged_after (Keeps d) n rest = rest d
judged_after (Breaks number at) n rest = Fault n number at

abbrev pub checked_after : SoFar → List Parsed → Verdict
checked_after c [] = Legal (program_of c)
checked_after c (m ∷ ms) = judged_after (with_module m.source m.tree c) (length c.modules) (λ d. checked_after d ms)

abbrev pub checked : List Parsed → Verdict
checked = checked_after no_modules
