-- The scope of a procedure opened and closed.
use Rattle.std.proofs.Common.{◌≡◌, ℕ, ◌<◌, ◌-◌, List, [], ◌∷◌, ◌++◌, length, map, take, Bool, false, Option, Some, is_some, Vec, Global, refl, sym, ap, ◌∙◌, subst, arith}
use Rattle.std.specs.BTreeMap.{BTreeMap}
use Rattle.std.proofs.lemmas.List.{length-append, length-take-le}
use Rattle.ob_judge.specs.Shapes.{Known}
use Rattle.ob_judge.specs.Scopes.{Entry, KnownModule, Narrowing, World, no_names}
use Rattle.ob_judge.specs.Standards.{predeclared}
use Rattle.ob_judge.specs.Making.{Making, without_last}
use Rattle.check_types.specs.declared.types.TypeRef.{TypeRef}
use Rattle.check_types.specs.TypeMeaning.{type_shape}
use Rattle.check_types.specs.Known.{known_of}
use Rattle.check_types.specs.declared.names.levels.Level.{Level}
use Rattle.check_types.specs.names.Meaning.{names_of, module_of}
use Rattle.check_making.specs.declared.making.Declaring.{Declaring}
use Rattle.check_making.specs.declared.making.Forward.{Forward}
use Rattle.check_making.specs.declared.making.Surroundings.{Surroundings}
use Rattle.check_making.specs.Staying.{LevelsStay, AllHaveTypes}
use Rattle.check_making.specs.Making.{table_of, strings_of, levels_of, world_in, AreNumbered, Makes, IsSettled}
use Rattle.check_making.proofs.First.{at_empty, empty_names, empty_stays, empty_have}
use Rattle.check_making.specs.declared.scopes.entering.Outer.{Outer}
use Rattle.judged_modules.specs.steps.Frames.{entered, left}
use Rattle.check_making.specs.scopes.Scopes.{deeper, IsOuter}
use Rattle.check_making.proofs.scopes.Levels.{names_without, have_without, have_with, names_with, stay_without, stay_with}

-- ---- opened

module _ (r : Surroundings) (s : Declaring) (l : Level) (empty : l.names.entries ≡ []) (levels : Vec Level Global) (is : levels.items ≡ s.levels.items ++ l ∷ [])
    (standing : BTreeMap (Vec ℕ Global) ℕ) (nothing : standing.entries ≡ []) (variables : Vec TypeRef Global) (none : variables.items ≡ []) (f : ℕ) where
  abbrev pub opened : Declaring
  opened = record s { levels = levels; procedure = Some f; standing = standing; values = 0; variables = variables }

  abbrev inner : Surroundings
  inner = deeper r (length s.levels.items)

  pub settled_opened : IsSettled r s → IsSettled inner opened
  settled_opened ok =
      let no_name = at_empty l.names empty in
      record {
        built = ok.built;
        levels = subst (LevelsStay s.types.table (strings_of s)) (sym is) (stay_with s.types.table (strings_of s) l s.levels.items (empty_stays l no_name s.types.table (strings_of s)) ok.levels);
        modules = ok.modules;
        types = (
          ok.types.0,
          subst (λ ls. AllHaveTypes (table_of s) (map (names_of (table_of s) (strings_of s)) ls)) (sym is) (have_with (table_of s) (strings_of s) l s.levels.items (empty_have l no_name (table_of s) (strings_of s)) ok.types.1),
        );
        members = ok.members;
        variables = subst (AreNumbered s.types.table.entries.items) (sym none) tt;
        objects = ok.objects;
        open_scope = subst (λ ls. length s.levels.items < length ls) (sym is) (let n = length-append s.levels.items (l ∷ []) in omega (arith, n));
        places = ok.places;
        own_text = ok.own_text;
      }

  pub makes_opened : (m : Making) → Makes r s m → Makes inner opened (entered f m)
  makes_opened m makes = record {
    imports_in = makes.imports_in;
    world = ap (λ (w : World). record w { levels = w.levels ++ no_names ∷ []; procedure = Some f }) makes.world
        ∙ ap (λ ls. record (world_in r s) { levels = predeclared ∷ ls; procedure = Some f })
        (names_with (table_of s) (strings_of s) l (empty_names l (at_empty l.names empty) (table_of s) (strings_of s)) s.levels.items ∙ ap (map (names_of (table_of s) (strings_of s))) (sym is));
    is_type_part = makes.is_type_part;
    forward = makes.forward;
    standing = λ q. sym (ap is_some (at_empty standing nothing q));
    values = refl;
    variables = sym (ap (map (type_shape (table_of s))) none);
    objects = makes.objects;
  }

-- ---- closed

-- a world by its parts
abbrev world_by : List KnownModule → Known → List (List ℕ → Option Entry) → ℕ → Option ℕ → Bool → List Narrowing → World
world_by ms k ls n p c ns = record { modules = ms; known = k; levels = ls; module_number = n; procedure = p; constant = c; narrowed = ns }

module _ (r : Surroundings) (s : Declaring) (o : Outer) (forward : Vec Forward Global) (levels : Vec Level Global) (is : levels.items ≡ take (length s.levels.items - 1) s.levels.items) where
  abbrev pub closed : Declaring
  closed = record s { imports_in = o.imports_in; levels = levels; procedure = o.procedure; is_type_part = o.is_type_part; forward = forward; standing = o.standing; values = o.values; variables = o.variables }

  pub settled_closed : IsSettled (deeper r o.depth) s → r.depth < o.depth → AreNumbered s.types.table.entries.items o.variables.items → IsSettled r closed
  settled_closed ok less variables = record {
    built = ok.built;
    levels = subst (LevelsStay s.types.table (strings_of s)) (sym is) (stay_without s.types.table (strings_of s) (length s.levels.items - 1) s.levels.items ok.levels);
    modules = ok.modules;
    types = (ok.types.0, subst (λ ls. AllHaveTypes (table_of s) (map (names_of (table_of s) (strings_of s)) ls)) (sym is) (have_without (table_of s) (strings_of s) (length s.levels.items - 1) s.levels.items ok.types.1));
    members = ok.members;
    variables = variables;
    objects = ok.objects;
    open_scope = subst (λ ls. r.depth < length ls) (sym is) (let n = length-take-le (length s.levels.items - 1) s.levels.items (omega arith) in let d = ok.open_scope in omega (arith, n, d, less));
    places = ok.places;
    own_text = ok.own_text;
  }

  module _ (outer inner : Making) (makes : Makes (deeper r o.depth) s inner) (h : IsOuter r s o forward.items outer inner) (some : 0 < length s.levels.items) where
    world_closed : (left outer inner).world ≡ world_in r closed
    world_closed =
        let w = makes.world in
        ap (λ ms. world_by ms inner.world.known (without_last inner.world.levels) outer.world.module_number outer.world.procedure outer.world.constant outer.world.narrowed) (h.modules ∙ ap (λ (v : World). v.modules) w)
        ∙ ap (λ k. world_by (map (module_of (table_of s) (strings_of s)) r.modules.now) k (without_last inner.world.levels) outer.world.module_number outer.world.procedure outer.world.constant outer.world.narrowed) (ap (λ (v : World). v.known) w)
        ∙ ap (λ ls. world_by (map (module_of (table_of s) (strings_of s)) r.modules.now) (known_of s.types.table) ls outer.world.module_number outer.world.procedure outer.world.constant outer.world.narrowed)
        (ap (λ (v : World). without_last v.levels) w ∙ names_without (table_of s) (strings_of s) s.levels.items (length s.levels.items - 1) refl some predeclared ∙ ap (λ ls. predeclared ∷ map (names_of (table_of s) (strings_of s)) ls) (sym is))
        ∙ ap (λ n. world_by (map (module_of (table_of s) (strings_of s)) r.modules.now) (known_of s.types.table) (levels_of closed) n outer.world.procedure outer.world.constant outer.world.narrowed) h.module_number
        ∙ ap (λ p. world_by (map (module_of (table_of s) (strings_of s)) r.modules.now) (known_of s.types.table) (levels_of closed) r.module_number p outer.world.constant outer.world.narrowed) h.procedure
        ∙ ap (λ c. world_by (map (module_of (table_of s) (strings_of s)) r.modules.now) (known_of s.types.table) (levels_of closed) r.module_number o.procedure c outer.world.narrowed) h.constant
        ∙ ap (λ ns. world_by (map (module_of (table_of s) (strings_of s)) r.modules.now) (known_of s.types.table) (levels_of closed) r.module_number o.procedure false ns) h.narrowed

    pub makes_closed : Makes r closed (left outer inner)
    makes_closed = record {
      imports_in = h.imports_in;
      world = world_closed;
      is_type_part = h.is_type_part;
      forward = h.forward;
      standing = h.standing;
      values = h.values;
      variables = h.variables;
      objects = makes.objects;
    }
