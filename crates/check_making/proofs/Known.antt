-- One more name that is known.
use Rattle.std.proofs.Common.{◌≡◌, ℕ, zero, suc, ◌<◌, ◌-◌, List, [], ◌∷◌, ◌++◌, length, map, Bool, true, false, not, Option, Some, None, Ok, Vec, Global, refl, sym, ap, ap₂, ◌∙◌, subst, arith, append_assoc, get_or}
use Rattle.std.specs.Prelude.{slice_get, slice_set, is_some, is_none, if◌then◌else◌}
use Rattle.std.specs.Str.{bytes_eq}
use Rattle.std.proofs.lemmas.List.{length-set}
use Rattle.ob_types.specs.Table.{Table}
use Rattle.ob_types.proofs.Tests.{none_some, some_same, no}
use Rattle.ob_syntax.specs.declared.names.Identdef.{Identdef}
use Rattle.ob_judge.specs.Image.{Declared as DeclaredOf}
use Rattle.ob_judge.specs.Scopes.{Entry, World, declare, spelled}
use Rattle.ob_judge.specs.Standards.{predeclared}
use Rattle.ob_judge.specs.Making.{Making, declare_last, with_levels, offer_if, declared_as, entity_of}
use Rattle.ob_judge.specs.Parameters.{declared}
use Rattle.check_types.specs.steps.Answers.{Answers}
use Rattle.check_types.specs.declared.table.TypeTable.{TypeTable}
use Rattle.check_types.specs.declared.names.levels.Level.{Level}
use Rattle.check_types.specs.declared.names.scope.Named.{Named}
use Rattle.check_types.specs.declared.names.scope.Declared.{Declared}
use Rattle.check_types.specs.names.Meaning.{object_of, entry_of, names_of}
use Rattle.table_builder.specs.Growing.{Grows}
use Rattle.check_making.specs.declared.making.Declaring.{Declaring}
use Rattle.check_making.specs.declared.making.Offered.{Offered}
use Rattle.check_making.specs.declared.making.Surroundings.{Surroundings}
use Rattle.check_making.specs.Staying.{LevelsStay, HasType, AllHaveTypes, NamedStays, IsDeclaredIn}
use Rattle.check_making.specs.Making.{table_of, strings_of, levels_of, world_in, offered_of, offered_if, OfferedStay, Makes, IsSettled}
use Rattle.check_making.specs.Parts.{Made}

-- ---- scopes, one of which has one more name

module _ (t : Table) (strings : List (List ℕ)) (name : List ℕ) (e : Entry) where
  pub names_set : (level : Level) (ls : List Level) (n : ℕ) → ((l : Level) → slice_get ls n ≡ Some l → names_of t strings level ≡ declare name e (names_of t strings l)) → (k : List ℕ → Option Entry) → n ≡ length ls - 1 → 0 < length ls
      → declare_last name e (k ∷ map (names_of t strings) ls) ≡ k ∷ map (names_of t strings) (slice_set ls n level)
  names_set level [] n h k at l = absurd (omega (arith, l))
  names_set level (c ∷ []) zero h k at l = ap (λ f. k ∷ f ∷ []) (sym (h c refl))
  names_set level (c ∷ []) (suc n) h k at l = absurd (omega (arith, at))
  names_set level (c ∷ d ∷ ls) zero h k at l = absurd (omega (arith, at))
  names_set level (c ∷ d ∷ ls) (suc n) h k at l =
      ap (λ fs. k ∷ fs) (names_set level (d ∷ ls) n (λ b is. h b is) (names_of t strings c) (omega (arith, at)) (omega arith))

  pub have_set : HasType t e.object → (level : Level) (ls : List Level) (n : ℕ) → ((l : Level) → slice_get ls n ≡ Some l → names_of t strings level ≡ declare name e (names_of t strings l)) → AllHaveTypes t (map (names_of t strings) ls) → AllHaveTypes t (map (names_of t strings) (slice_set ls n level))
  have_set has level [] n h all = tt
  have_set has level (c ∷ ls) zero h all = (record { each = λ q x is. by (bytes_eq name q) q x (ap (λ f. f q) (sym (h c refl)) ∙ is) }, all.1)
    where
      by : (b : Bool) (q : List ℕ) (x : Entry) → (if b then Some e else names_of t strings c q) ≡ Some x → HasType t x.object
      by true q x is = subst (λ y. HasType t y.object) (some_same e x is) has
      by false q x is = (all.0).each q x is
  have_set has level (c ∷ ls) (suc n) h all = (all.0, have_set has level ls n (λ l is. h l is) all.1)

module _ (t : TypeTable) (strings : List (List ℕ)) (name : List ℕ) (d : Declared) (stays : NamedStays t strings d.named) where
  entry_stays : (u : TypeTable) (more : List (List ℕ)) → Grows t u → entry_of u.types (strings ++ more) d ≡ entry_of t.types strings d
  entry_stays u more g = ap (λ o. record { object = o; exported = d.exported }) (stays.object u more g)

  pub stay_set : (level : Level) (ls : List Level) (n : ℕ) → ((l : Level) → slice_get ls n ≡ Some l → (v : Table) (ss : List (List ℕ)) → names_of v ss level ≡ declare name (entry_of v ss d) (names_of v ss l)) → LevelsStay t strings ls → LevelsStay t strings (slice_set ls n level)
  stay_set level [] n h all = tt
  stay_set level (c ∷ ls) zero h all =
      (record { names = λ u more g. h c refl u.types (strings ++ more) ∙ ap₂ (λ e f. declare name e f) (entry_stays u more g) ((all.0).names u more g) ∙ sym (h c refl t.types strings) }, all.1)
  stay_set level (c ∷ ls) (suc n) h all = (all.0, stay_set level ls n (λ l is. h l is) all.1)

pub at_place : {A : Type 0} (xs : List A) (n : ℕ) (x y : A) → slice_get xs n ≡ Some x → y ≡ get_or xs n y → y ≡ x
at_place [] n x y h e = none_some x h
at_place (z ∷ xs) zero x y h e = e ∙ some_same z x h
at_place (z ∷ xs) (suc n) x y h e = at_place xs n x y h e

pub as_declared : (old new : List Level) (n : Named) (at at' : ℕ) (name name' : List ℕ) (b b' : Bool) → at ≡ at' → name ≡ name' → b ≡ b'
    → IsDeclaredIn old new at name (record { named = n; exported = b }) → IsDeclaredIn old new at' name' (record { named = n; exported = b' })
as_declared old new n at at' name name' b b' p q r h =
    subst (λ a. IsDeclaredIn old new a name' (record { named = n; exported = b' })) p
    (subst (λ c. IsDeclaredIn old new at c (record { named = n; exported = b' })) q
    (subst (λ c. IsDeclaredIn old new at name (record { named = n; exported = c })) r h))

pub as_offered : (xs : List Offered) (n : Named) (a a' : Bool) (name name' : List ℕ) (b b' : Bool) → a ≡ a' → name ≡ name' → b ≡ b'
    → offered_if a name (record { named = n; exported = b }) xs ≡ offered_if a' name' (record { named = n; exported = b' }) xs
as_offered xs n a a' name name' b b' p q r =
    ap (λ c. offered_if c name (record { named = n; exported = b }) xs) p
    ∙ ap₂ (λ (c : List ℕ) (e : Bool). offered_if a' c (record { named = n; exported = e }) xs) q r

pub none_by : (o : Option ℕ) (b : Bool) → is_some o ≡ not b → b ≡ is_none o
none_by None true h = refl
none_by None false h = no h
none_by (Some n) true h = no (sym h)
none_by (Some n) false h = refl

-- ---- names of the module

pub offered-append : (t : Table) (strings : List (List ℕ)) (xs : List Offered) (x : Offered) → offered_of t strings (xs ++ x ∷ []) ≡ offered_of t strings xs ++ declared_as x.name x.declared.exported (entity_of (object_of t strings x.declared.named))
offered-append t strings [] x = append_nil (declared_as x.name x.declared.exported (entity_of (object_of t strings x.declared.named)))
  where
    append_nil : (ds : List DeclaredOf) → ds ++ [] ≡ ds
    append_nil [] = refl
    append_nil (d ∷ ds) = ap (λ es. d ∷ es) (append_nil ds)
offered-append t strings (y ∷ xs) x =
    ap (λ ds. declared_as y.name y.declared.exported (entity_of (object_of t strings y.declared.named)) ++ ds) (offered-append t strings xs x)
    ∙ sym (append_assoc (declared_as y.name y.declared.exported (entity_of (object_of t strings y.declared.named))) (offered_of t strings xs) (declared_as x.name x.declared.exported (entity_of (object_of t strings x.declared.named))))

pub offered_stay : (t : TypeTable) (strings : List (List ℕ)) (xs : List Offered) (x : Offered) → OfferedStay t strings xs → NamedStays t strings x.declared.named → HasType t.types (object_of t.types strings x.declared.named)
    → OfferedStay t strings (xs ++ x ∷ [])
offered_stay t strings [] x all h k = (h, k, tt)
offered_stay t strings (y ∷ xs) x all h k = (all.0, all.1, offered_stay t strings xs x all.2 h k)

-- ---- the whole

module _ (r : Surroundings) (s : Declaring) (ok : IsSettled r s) (x : Identdef) (n : Named) (stays : NamedStays s.types.table (strings_of s) n) (typed : HasType (table_of s) (object_of (table_of s) (strings_of s) n)) (levels : Vec Level Global) (objects : Vec Offered Global) where
  abbrev name : List ℕ
  name = spelled r.source.now x.name

  abbrev d : Declared
  d = record { named = n; exported = is_some x.star }

  abbrev e : Entry
  e = entry_of (table_of s) (strings_of s) d

  abbrev after : Declaring
  after = record s { levels = levels; objects = objects }

  module _ (level : IsDeclaredIn s.levels.items levels.items (length s.levels.items - 1) name d) (offered : objects.items ≡ offered_if (is_none s.procedure) name d s.objects.items) where
    levels_after : declare_last name e (levels_of s) ≡ levels_of after
    levels_after =
        names_set (table_of s) (strings_of s) name e level.level s.levels.items (length s.levels.items - 1) (λ l is. level.names l is (table_of s) (strings_of s)) predeclared refl (let o = ok.open_scope in omega (arith, o))
        ∙ ap (λ ls. predeclared ∷ map (names_of (table_of s) (strings_of s)) ls) (sym level.set)

    pub settled_after : IsSettled r after
    settled_after = record {
      built = ok.built;
      levels = subst (LevelsStay s.types.table (strings_of s)) (sym level.set) (stay_set s.types.table (strings_of s) name d stays level.level s.levels.items (length s.levels.items - 1) level.names ok.levels);
      modules = ok.modules;
      types = (
        ok.types.0,
        subst (λ ls. AllHaveTypes (table_of s) (map (names_of (table_of s) (strings_of s)) ls)) (sym level.set)
            (have_set (table_of s) (strings_of s) name e typed level.level s.levels.items (length s.levels.items - 1) (λ l is. level.names l is (table_of s) (strings_of s)) ok.types.1),
      );
      members = ok.members;
      variables = ok.variables;
      objects = subst (OfferedStay s.types.table (strings_of s)) (sym offered) (either (is_none s.procedure));
      open_scope = subst (λ ls. r.depth < length ls) (sym level.set) (let l = length-set s.levels.items (length s.levels.items - 1) level.level in let o = ok.open_scope in omega (arith, l, o));
      places = ok.places;
      own_text = ok.own_text;
    }
      where
        either : (b : Bool) → OfferedStay s.types.table (strings_of s) (offered_if b name d s.objects.items)
        either true = offered_stay s.types.table (strings_of s) s.objects.items (record { name = name; declared = d }) ok.objects stays typed
        either false = ok.objects

    module _ (m : Making) (makes : Makes r s m) where
      world_after : record m.world { levels = declare_last name e m.world.levels } ≡ world_in r after
      world_after = ap (λ (w : World). record w { levels = declare_last name e w.levels }) makes.world ∙ ap (λ ls. record (world_in r s) { levels = ls }) levels_after

      makes_after : (b : Bool) → is_none s.procedure ≡ b → Makes r after (offer_if b name e (with_levels (declare_last name e) m))
      makes_after true is = record {
        imports_in = makes.imports_in;
        world = world_after;
        is_type_part = makes.is_type_part;
        forward = makes.forward;
        standing = makes.standing;
        values = makes.values;
        variables = makes.variables;
        objects = ap (λ ds. ds ++ declared_as name e.exported (entity_of e.object)) makes.objects
            ∙ sym (ap (offered_of (table_of s) (strings_of s)) (offered ∙ ap (λ b. offered_if b name d s.objects.items) is) ∙ offered-append (table_of s) (strings_of s) s.objects.items (record { name = name; declared = d }));
      }
      makes_after false is = record {
        imports_in = makes.imports_in;
        world = world_after;
        is_type_part = makes.is_type_part;
        forward = makes.forward;
        standing = makes.standing;
        values = makes.values;
        variables = makes.variables;
        objects = makes.objects ∙ sym (ap (offered_of (table_of s) (strings_of s)) (offered ∙ ap (λ b. offered_if b name d s.objects.items) is));
      }

      pub declared_made : Answers (Made r after) (declared r.source.now x (object_of (table_of s) (strings_of s) n) m) (Ok tt)
      declared_made = record {
        by = record {
          makes = subst (λ b. Makes r after (offer_if b name e (with_levels (declare_last name e) m))) (sym (ap (λ (w : World). is_none w.procedure) makes.world)) (makes_after (is_none s.procedure) refl);
        };
      }
