-- What waits, while the program is built on.
use Rattle.std.proofs.Common.{◌≤◌, ℕ, List, [], ◌∷◌, ◌++◌, length, sym, ◌∙◌, arith}
use Rattle.ob_judge.specs.Making.{Making}
use Rattle.later_bodies.specs.Waiting.{Waiting}
use Rattle.check_types.specs.declared.table.TypeTable.{TypeTable}
use Rattle.check_types.specs.declared.types.TypeRef.{TypeRef}
use Rattle.table_builder.specs.Builder.{IsBuilt}
use Rattle.table_builder.specs.Growing.{Grows}
use Rattle.check_making.specs.Making.{strings_of}
use Rattle.check_making.specs.scopes.Numbers.{AreNumbersOf}
use Rattle.check_making.specs.declared.scopes.building.Building.{Building}
use Rattle.check_making.proofs.Growing.{grows_on}
use Rattle.check_making.proofs.headings.Heads.{heading_still}
use Rattle.check_making.proofs.headings.Signing.{heading_meant}
use Rattle.check_making.proofs.scopes.ByNumber.{numbers_mean, numbers_still}
use Rattle.check_procedures.specs.Completing.{HasLocals}
use Rattle.check_bodies.specs.declared.body.Body.{Body}
use Rattle.check_bodies.specs.Settled.{AllFit, AllWait}
use Rattle.check_bodies.specs.Waits.{Fits, Waits}

module _ (t u : TypeTable) (g : Grows t u) where
  numbers_later : (ns : List ℕ) (ks : List TypeRef) → AreNumbersOf t.entries.items ns ks → AreNumbersOf u.entries.items ns ks
  numbers_later [] [] h = tt
  numbers_later (n ∷ ns) (k ∷ ks) h = (g.entry n k h.0, numbers_later ns ks h.1)
  numbers_later [] (k ∷ ks) h = absurd h
  numbers_later (n ∷ ns) [] h = absurd h

  locals_later : (locals : List ℕ) (m : Making) → HasLocals t locals m → HasLocals u locals m
  locals_later locals m h =
      let numbers = numbers_later locals h.types h.numbers in
      record {
        types = h.types;
        numbers = numbers;
        variables = h.variables ∙ sym (numbers_mean t locals h.types h.numbers) ∙ sym (numbers_still t u g locals h.types h.numbers) ∙ numbers_mean u locals h.types numbers;
      }

module _ (s t : Building) (old : IsBuilt s.declaring.types) (new : IsBuilt t.declaring.types) (grows : Grows s.declaring.types.table t.declaring.types.table) where
  waits_later : (b : Body) (w : Waiting) → Waits s.declaring b w → Waits t.declaring b w
  waits_later b w h = record {
    number = h.number;
    count = h.count;
    heading = heading_still s.declaring t.declaring old new grows b.heading w.heading h.heading;
    locals = locals_later s.declaring.types.table t.declaring.types.table grows b.locals w.inner h.locals;
    names = h.names ∙ sym (h.names_stay t.declaring.types.table (strings_of t.declaring) grows);
    names_stay = λ u others g. h.names_stay u others (grows_on s.declaring.types.table t.declaring.types.table u grows g) ∙ sym (h.names_stay t.declaring.types.table (strings_of t.declaring) grows);
  }

  pub all_wait_later : (bs : List Body) (ws : List Waiting) → AllWait s.declaring bs ws → AllWait t.declaring bs ws
  all_wait_later [] [] h = tt
  all_wait_later (b ∷ bs) (w ∷ ws) h = (waits_later b w h.0, all_wait_later bs ws h.1)
  all_wait_later [] (w ∷ ws) h = absurd h
  all_wait_later (b ∷ bs) [] h = absurd h

  module _ (more : length s.procedures.items ≤ length t.procedures.items) where
    fits_later : (b : Body) → Fits s b → Fits t b
    fits_later b h =
        let x = heading_meant s.declaring b.heading h.formals h.outcome in
        let k = heading_still s.declaring t.declaring old new grows b.heading x.0 x.1 in
        record { number = (let n = h.number in omega (arith, n, more)); formals = k.listed.before; outcome = k.numbered }

    pub all_fit_later : (bs : List Body) → AllFit s bs → AllFit t bs
    all_fit_later [] h = tt
    all_fit_later (b ∷ bs) h = (fits_later b h.0, all_fit_later bs h.1)

pub fit_last : (t : Building) (bs : List Body) (b : Body) → AllFit t bs → Fits t b → AllFit t (bs ++ b ∷ [])
fit_last t [] b h last = (last, tt)
fit_last t (a ∷ bs) b h last = (h.0, fit_last t bs b h.1 last)
