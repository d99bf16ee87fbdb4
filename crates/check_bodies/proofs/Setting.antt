-- A procedure whose scope is closed, and what waits then.
use Rattle.std.proofs.Common.{◌≡◌, ◌<◌, ℕ, suc, List, [], ◌∷◌, ◌++◌, map, length, Option, refl, sym, ap, ap₂, ◌∙◌, subst}
use Rattle.std.specs.Prelude.{Vec}
use Rattle.std.specs.Global.{Global}
use Rattle.ob_types.specs.declared.characters.Characters.{Characters}
use Rattle.ob_types.specs.declared.program.Procedure.{Procedure}
use Rattle.ob_judge.specs.Image.{Procedure as JudgedProcedure}
use Rattle.ob_judge.specs.Making.{Making, last_names}
use Rattle.ob_judge.specs.Scopes.{Entry, World}
use Rattle.ob_judge.specs.Standards.{predeclared}
use Rattle.judged_modules.specs.steps.Frames.{left}
use Rattle.check_types.specs.declared.table.TypeTable.{TypeTable}
use Rattle.check_types.specs.declared.names.levels.Level.{Level}
use Rattle.check_types.specs.names.Meaning.{names_of}
use Rattle.judged_tree.specs.Tables.{are_before}
use Rattle.check_types.specs.TypeMeaning.{type_shape}
use Rattle.later_bodies.specs.Waiting.{Waiting}
use Rattle.table_builder.specs.Entries.{IsNumbered}
use Rattle.table_builder.specs.Growing.{Grows}
use Rattle.table_builder.specs.declared.builder.TableBuilder.{TableBuilder}
use Rattle.check_making.specs.parameters.Headings.{IsHeading}
use Rattle.check_making.specs.parameters.Listed.{IsListed}
use Rattle.check_procedures.specs.Completing.{HasLocals}
use Rattle.check_making.specs.declared.making.Declaring.{Declaring}
use Rattle.check_making.specs.declared.making.Surroundings.{Surroundings}
use Rattle.check_making.specs.Staying.{LevelStays, LevelsStay}
use Rattle.check_making.specs.Making.{table_of, strings_of, Makes, IsSettled}
use Rattle.check_making.specs.declared.scopes.building.Building.{Building}
use Rattle.check_making.specs.scopes.Building.{TheyStandFor}
use Rattle.check_making.specs.scopes.Numbers.{AreNumbersOf}
use Rattle.check_making.specs.scopes.Scopes.{deeper, IsOuter}
use Rattle.check_procedures.specs.declared.opening.OpenProcedure.{OpenProcedure}
use Rattle.check_procedures.specs.Parts.{JudgedOpen}
use Rattle.check_procedures.specs.Open.{CanBeClosed, IsOpened}
use Rattle.check_bodies.specs.declared.body.Body.{Body}
use Rattle.check_bodies.specs.PutOff.{waiting_of, IsSetAside}
use Rattle.check_bodies.specs.Strings.{AreAlike}
use Rattle.check_bodies.specs.Waits.{Fits, Waits}

-- ---- the last scope

last_of : (f : Level → List ℕ → Option Entry) (l : Level) (first : List ℕ → Option Entry) (ls : List Level) → last_names (first ∷ map f (ls ++ l ∷ [])) ≡ f l
last_of f l first [] = refl
last_of f l first (k ∷ ls) = last_of f l (f k) ls

last_stays : (t : TypeTable) (strings : List (List ℕ)) (l : Level) (ls : List Level) → LevelsStay t strings (ls ++ l ∷ []) → LevelStays t strings l
last_stays t strings l [] h = h.0
last_stays t strings l (k ∷ ls) h = last_stays t strings l ls h.1

-- ---- the same types and strings

waits_beside : (s t : Declaring) (b : Body) (w : Waiting) → t.types ≡ s.types → t.strings ≡ s.strings → Waits s b w → Waits t b w
waits_beside s t b w types strings h = record {
  number = h.number;
  count = h.count;
  heading = record {
    listed = subst (λ (z : TableBuilder). IsListed z.table b.heading.listed w.heading.0) (sym types) h.heading.listed;
    result_is = ap (λ (z : TableBuilder). type_shape z.table.types b.heading.outcome) types ∙ h.heading.result_is;
    numbered = subst (λ (z : TableBuilder). IsNumbered z.table.entries.items b.heading.outcome) (sym types) h.heading.numbered;
  };
  locals = subst (λ (z : TableBuilder). HasLocals z.table b.locals w.inner) (sym types) h.locals;
  names = h.names ∙ named;
  names_stay = λ u others g. h.names_stay u others (subst (λ (z : TableBuilder). Grows z.table u) types g) ∙ named;
}
  where
    named : names_of (table_of s) (strings_of s) b.names ≡ names_of (table_of t) (strings_of t) b.names
    named = ap₂ (λ (z : TableBuilder) (v : Vec Characters Global). names_of z.table.types v.items b.names) (sym types) (sym strings)

-- ---- procedures

pub as_many : (t : TypeTable) (qs : List Procedure) (js : List JudgedProcedure) → TheyStandFor t qs js → length qs ≡ length js
as_many t [] [] h = refl
as_many t (q ∷ qs) (j ∷ js) h = ap suc (as_many t qs js h.1)
as_many t [] (j ∷ js) h = absurd h
as_many t (q ∷ qs) [] h = absurd h

module _ (r : Surroundings) (o : OpenProcedure) (s : Building) (t : Declaring) (b : Body) (settled : IsSettled (deeper r o.outer.depth) s.declaring) (closable : CanBeClosed r s o)
    (types : t.types ≡ s.declaring.types) (strings : t.strings ≡ s.declaring.strings) (levels : s.declaring.levels.items ≡ t.levels.items ++ b.names ∷ []) (alike : AreAlike b.names)
    (number : b.number ≡ o.number) (count : b.procedures ≡ length s.procedures.items) (heading : b.heading ≡ o.heading)
    (locals : AreNumbersOf s.declaring.types.table.entries.items b.locals s.declaring.variables.items)
    (leaves : (x y : Making) → Makes (deeper r o.outer.depth) s.declaring y → IsOuter r s.declaring o.outer o.forward.items x y → Makes r t (left x y)) where
  own_stays : LevelStays s.declaring.types.table (strings_of s.declaring) b.names
  own_stays = last_stays s.declaring.types.table (strings_of s.declaring) b.names t.levels.items (subst (LevelsStay s.declaring.types.table (strings_of s.declaring)) levels settled.levels)

  waits_there : (j : JudgedOpen) (m : Making) → IsOpened r s o (record j { inner = m }) → Waits s.declaring b (waiting_of j m)
  waits_there j m opened = record {
    number = number ∙ opened.number;
    count = count ∙ as_many s.declaring.types.table s.procedures.items m.procedures opened.represents.procedures;
    heading = subst (λ h. IsHeading s.declaring h j.heading) (sym heading) opened.heading;
    locals = record { types = s.declaring.variables.items; numbers = locals; variables = opened.represents.makes.variables };
    names = ap (λ (w : World). last_names w.levels) opened.represents.makes.world
        ∙ ap (λ ls. last_names (predeclared ∷ map (names_of (table_of s.declaring) (strings_of s.declaring)) ls)) levels
        ∙ last_of (names_of (table_of s.declaring) (strings_of s.declaring)) b.names predeclared t.levels.items;
    names_stay = λ u others g. alike.names u.types others (strings_of s.declaring ++ []) ∙ own_stays.names u [] g;
  }

  pub set_aside : (j : JudgedOpen) (m : Making) → IsOpened r s o (record j { inner = m }) → IsSetAside r (record s { declaring = t }) b j m
  set_aside j m opened = record {
    represents = record {
      makes = leaves j.outer m opened.represents.makes opened.outer;
      procedures = subst (λ z. TheyStandFor z.table s.procedures.items m.procedures) (sym types) opened.represents.procedures;
    };
    waits = waits_beside s.declaring t b (waiting_of j m) types strings (waits_there j m opened);
  }

  pub fits_there : Fits (record s { declaring = t }) b
  fits_there = record {
    number = subst (λ n. n < length s.procedures.items) (sym number) closable.number;
    formals = subst (λ h. are_before (length t.types.table.entries.items) h.listed.formals) (sym heading) (subst (λ (z : TableBuilder). are_before (length z.table.entries.items) o.heading.listed.formals) (sym types) closable.formals);
    outcome = subst (λ h. IsNumbered t.types.table.entries.items h.outcome) (sym heading) (subst (λ (z : TableBuilder). IsNumbered z.table.entries.items o.heading.outcome) (sym types) closable.outcome);
  }
