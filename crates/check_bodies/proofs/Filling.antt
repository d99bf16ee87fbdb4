-- Bodies that waited are filled in, one after the other.
use Rattle.std.proofs.Common.{◌≡◌, ◌<◌, ℕ, List, [], ◌∷◌, ◌++◌, length, Option, refl, sym, subst, append_assoc}
use Rattle.std.specs.Prelude.{slice_set}
use Rattle.std.proofs.lemmas.List.{append-nil}
use Rattle.ob_judge.specs.Image.{Procedure as JudgedProcedure}
use Rattle.ob_judge.specs.Making.{Making}
use Rattle.ob_judge.specs.Modules.{SoFar}
use Rattle.ob_judge.specs.Scopes.{Entry}
use Rattle.ob_judge.specs.Standards.{predeclared}
use Rattle.judged_modules.specs.steps.Procedures.{plain_procedure}
use Rattle.later_bodies.specs.Waiting.{Waiting, Came, filled, with_procedures}
use Rattle.later_bodies.specs.Walked.{AllCameTo}
use Rattle.later_bodies.proofs.Walked.{filled_last}
use Rattle.bodies_in_scope.specs.Standing.{AllStillStand}
use Rattle.check_making.specs.declared.making.Declaring.{Declaring}
use Rattle.check_making.specs.declared.making.Surroundings.{Surroundings}
use Rattle.check_making.specs.Making.{Makes}
use Rattle.check_making.specs.declared.scopes.building.Building.{Building}
use Rattle.check_making.specs.scopes.Building.{Represents}
use Rattle.judged_tree.specs.Tables.{are_before}
use Rattle.table_builder.specs.Entries.{IsNumbered}
use Rattle.check_procedures.specs.Completing.{IsBody, IsCompleted}
use Rattle.check_procedures.specs.declared.numbers.renumbering.Numbered.{Numbered}
use Rattle.check_bodies.specs.declared.body.Body.{Body}
use Rattle.check_bodies.specs.Settled.{AllFit, AllWait, AreFilledIn, AreJudged, with_trees}
use Rattle.check_bodies.specs.Waits.{Fits, Waits}
use Rattle.check_bodies.proofs.Coming.{body_came}

-- as many procedures in the same state
fits_on : (s t : Building) (b : Body) → t.declaring ≡ s.declaring → length t.procedures.items ≡ length s.procedures.items → Fits s b → Fits t b
fits_on s t b same many h = record {
  number = subst (λ n. b.number < n) (sym many) h.number;
  formals = subst (λ (d : Declaring). are_before (length d.types.table.entries.items) b.heading.listed.formals) (sym same) h.formals;
  outcome = subst (λ (d : Declaring). IsNumbered d.types.table.entries.items b.heading.outcome) (sym same) h.outcome;
}

pub all_fit_on : (s t : Building) → t.declaring ≡ s.declaring → length t.procedures.items ≡ length s.procedures.items → (bs : List Body) → AllFit s bs → AllFit t bs
all_fit_on s t same many [] h = tt
all_fit_on s t same many (b ∷ bs) h = (fits_on s t b same many h.0, all_fit_on s t same many bs h.1)

-- some are filled in, and these are left
pub record FilledSoFar (r : Surroundings) (s : Declaring) (c : SoFar) (names : List ℕ → Option Entry) (m : Making) (all : List Body) (ws : List Waiting) (t : Building) (bs : List Body) (ns : List Numbered) : Type 0 where
  pub made : Makes r s m
  pub left : List Waiting
  pub waits : AllWait s bs left
  pub stands : AllStillStand c predeclared names left m
  pub judged : AreJudged r s bs ns
  pub came : List Came
  pub represents : Represents r t (with_procedures (filled m.procedures came) m)
  pub behind : (xs : List Came) → AllCameTo r.source.now (with_trees bs left) xs → AllCameTo r.source.now (with_trees all ws) (came ++ xs)

module _ (r : Surroundings) (s : Declaring) (c : SoFar) (names : List ℕ → Option Entry) (m : Making) (all : List Body) (ws : List Waiting) where
  pub none_filled : (t : Building) (ns : List Numbered) → Makes r s m → AreJudged r s all ns → Represents r t m → AllWait s all ws → AllStillStand c predeclared names ws m → FilledSoFar r s c names m all ws t all ns
  none_filled t ns makes judged represents waits stands = record {
    made = makes;
    left = ws;
    waits = waits;
    stands = stands;
    judged = judged;
    came = [];
    represents = represents;
    behind = λ xs h. h;
  }

  pub one_filled : (t u : Building) (b : Body) (n : Numbered) (bs : List Body) (ns : List Numbered)
      → ((w : Waiting) (x : Making) (j : JudgedProcedure) → Waits s b w → IsCompleted r s.types.table (plain_procedure b.tree.now) w.heading w.inner j → IsBody r.source.now (plain_procedure b.tree.now) w.heading w.inner s.types.table n j
      → Represents r t x → Represents r u (with_procedures (slice_set x.procedures w.number j) x))
      → FilledSoFar r s c names m all ws t (b ∷ bs) (n ∷ ns) → FilledSoFar r s c names m all ws u bs ns
  one_filled t u b n bs ns fills h = from h.left h.waits h.stands h.behind
    where
      from : (left : List Waiting) → AllWait s (b ∷ bs) left → AllStillStand c predeclared names left m → ((xs : List Came) → AllCameTo r.source.now (with_trees (b ∷ bs) left) xs → AllCameTo r.source.now (with_trees all ws) (h.came ++ xs))
          → FilledSoFar r s c names m all ws u bs ns
      from [] waits stands behind = absurd waits
      from (w ∷ left) waits stands behind =
          let found = body_came r s c names m h.made b w waits.0 stands.0 n h.judged.0 in
          let x : Came = record { number = w.number; procedure = found.procedure } in
          record {
            made = h.made;
            left = left;
            waits = waits.1;
            stands = stands.1;
            judged = h.judged.1;
            came = h.came ++ x ∷ [];
            represents = subst (λ (qs : List JudgedProcedure). Represents r u (with_procedures qs m)) (sym (filled_last m.procedures h.came x))
                (fills w (with_procedures (filled m.procedures h.came) m) found.procedure waits.0 found.completed found.body h.represents);
            behind = λ xs came. subst (AllCameTo r.source.now (with_trees all ws)) (sym (append_assoc h.came (x ∷ []) xs))
                (behind (x ∷ xs) (record { number = refl; judged = found.completed.keeps }, came));
          }

  pub all_filled : (t : Building) (ns : List Numbered) → FilledSoFar r s c names m all ws t [] ns → AreFilledIn r t all ws m
  all_filled t ns h = record {
    came = h.came;
    all = subst (AllCameTo r.source.now (with_trees all ws)) (append-nil h.came) (h.behind [] tt);
    represents = h.represents;
  }
