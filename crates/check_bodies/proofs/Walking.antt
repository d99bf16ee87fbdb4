-- One procedure more, judged or put off.
use Rattle.std.proofs.Common.{◌≡◌, ℕ, List, [], ◌∷◌, ◌++◌, Option, Ok, refl, sym, ap, subst}
use Rattle.ob_judge.specs.Making.{Making}
use Rattle.ob_judge.specs.Modules.{SoFar}
use Rattle.ob_judge.specs.Scopes.{Entry, declare}
use Rattle.ob_judge.specs.Standards.{predeclared}
use Rattle.judged_modules.specs.Lists.{Each}
use Rattle.judged_modules.specs.steps.Procedures.{OneProcedure, plain_procedure}
use Rattle.judged_modules.specs.steps.Steps.{procedure_part}
use Rattle.judged_outlines.specs.Upright.{Upright}
use Rattle.later_bodies.specs.Waiting.{Waiting, put_aside}
use Rattle.later_bodies.specs.Walked.{PutSoFar}
use Rattle.later_bodies.proofs.Walked.{put_first, put_next, put_whole}
use Rattle.bodies_in_scope.specs.Around.{name_of}
use Rattle.bodies_in_scope.specs.Standing.{Between, StillStands}
use Rattle.bodies_in_scope.proofs.Standing.{off_is, whole_is, between_aside, between_whole, stands_first, all_through_aside, all_through_whole}
use Rattle.check_types.specs.steps.Answers.{Answers}
use Rattle.table_builder.specs.Builder.{IsBuilt}
use Rattle.table_builder.specs.Growing.{Grows}
use Rattle.check_making.specs.declared.making.Declaring.{Declaring}
use Rattle.check_making.specs.declared.making.Surroundings.{Surroundings}
use Rattle.check_making.specs.Making.{IsSettled}
use Rattle.check_making.specs.declared.scopes.building.Building.{Building}
use Rattle.check_making.specs.scopes.Building.{Represents}
use Rattle.check_making.specs.scopes.Built.{Built}
use Rattle.check_making.proofs.headings.Heads.{by_given as came}
use Rattle.check_procedures.specs.UnderWay.{IsUnderWay}
use Rattle.check_bodies.specs.declared.body.Body.{Body}
use Rattle.check_bodies.specs.PutOff.{IsPutOff}
use Rattle.check_bodies.specs.Settled.{AllWait, with_trees}
use Rattle.check_bodies.specs.Waits.{Waits}
use Rattle.check_bodies.specs.Walked.{IsBetween, Walked}
use Rattle.check_bodies.proofs.Later.{all_wait_later}

-- ---- lists

wait_last : (s : Declaring) (bs : List Body) (ws : List Waiting) (b : Body) (w : Waiting) → AllWait s bs ws → Waits s b w → AllWait s (bs ++ b ∷ []) (ws ++ w ∷ [])
wait_last s [] [] b w h last = (last, tt)
wait_last s (a ∷ bs) (v ∷ ws) b w h last = (h.0, wait_last s bs ws b w h.1 last)
wait_last s [] (v ∷ ws) b w h last = absurd h
wait_last s (a ∷ bs) [] b w h last = absurd h

trees_last : (s : Declaring) (bs : List Body) (ws : List Waiting) (b : Body) (w : Waiting) → AllWait s bs ws → with_trees (bs ++ b ∷ []) (ws ++ w ∷ []) ≡ with_trees bs ws ++ (plain_procedure b.tree.now, w) ∷ []
trees_last s [] [] b w h = refl
trees_last s (a ∷ bs) (v ∷ ws) b w h = ap (λ xs. (plain_procedure a.tree.now, v) ∷ xs) (trees_last s bs ws b w h.1)
trees_last s [] (v ∷ ws) b w h = absurd h
trees_last s (a ∷ bs) [] b w h = absurd h

each_last : {A : Type 0} (P : A → Type 0) (xs : List A) (x : A) → Each P xs → P x → Each P (xs ++ x ∷ [])
each_last P [] x h last = (last, tt)
each_last P (y ∷ xs) x h last = (h.0, each_last P xs x h.1 last)

-- ---- the walk

pub first_walked : (r : Surroundings) (c : SoFar) (s : Building) (m : Making) (names : List ℕ → Option Entry) → Represents r s m → Between c predeclared names m → Walked r c m [] s []
first_walked r c s m names represents between = record {
  making = m;
  names = names;
  waiting = [];
  represents = represents;
  between = between;
  waits = tt;
  stands = tt;
  so_far = put_first r.source.now m;
}

pub between_walked : (r : Surroundings) (c : SoFar) (first : Making) (qs : List OneProcedure) (s : Building) (bs : List Body) → IsSettled r s.declaring → Walked r c first qs s bs → IsBetween r s
between_walked r c first qs s bs settled h = record { settled = settled; so_far = c; making = h.making; names = h.names; represents = h.represents; between = h.between }

pub under_way : (r : Surroundings) (s : Building) → IsBetween r s → IsUnderWay r s
under_way r s h = record { settled = h.settled; so_far = h.so_far; making = h.making; represents = h.represents; upright = h.between.upright }

module _ (r : Surroundings) (c : SoFar) (first : Making) (qs : List OneProcedure) (s t : Building) (bs : List Body) (old : IsBuilt s.declaring.types) (new : IsBuilt t.declaring.types) (grows : Grows s.declaring.types.table t.declaring.types.table) where
  pub one_waits : (b : Body) → ((m : Making) → Represents r s m → Upright c m → IsPutOff r t b m) → Walked r c first qs s bs → Walked r c first (qs ++ plain_procedure b.tree.now ∷ []) t (bs ++ b ∷ [])
  one_waits b puts h =
      let p = r.source.now in
      let q = plain_procedure b.tree.now in
      let off = puts h.making h.represents h.between.upright in
      let w = off.waiting in
      let one = off_is c predeclared h.names p q h.making w off.keeps h.between in
      let names = declare (name_of p q) one.entry h.names in
      record {
        making = put_aside w;
        names = names;
        waiting = h.waiting ++ w ∷ [];
        represents = off.represents;
        between = between_aside c predeclared h.names p q h.making w off.keeps h.between one;
        waits = wait_last t.declaring bs h.waiting b w (all_wait_later s t old new grows bs h.waiting h.waits) off.waits;
        stands = each_last (λ v. StillStands c predeclared names v (put_aside w)) h.waiting w
            (all_through_aside c predeclared h.names p q h.making w h.waiting off.keeps h.between one h.stands)
            (stands_first c predeclared h.names p q h.making w off.keeps h.between one);
        so_far = subst (λ ws. PutSoFar p first (qs ++ q ∷ []) ws (put_aside w)) (sym (trees_last s.declaring bs h.waiting b w h.waits))
            (put_next p q first qs (with_trees bs h.waiting) h.making w h.so_far off.keeps);
      }

  pub one_at_once : (q : OneProcedure) → ((m : Making) → Represents r s m → Upright c m → Answers (Built r t) (procedure_part r.source.now q m) (Ok tt)) → Walked r c first qs s bs → Walked r c first (qs ++ q ∷ []) t bs
  one_at_once q judges h =
      let p = r.source.now in
      came (procedure_part p q h.making) (judges h.making h.represents h.between.upright) (λ z keeps built.
      let one = whole_is c predeclared h.names p q h.making z.1 keeps h.between in
      record {
        making = z.1;
        names = declare (name_of p q) one.entry h.names;
        waiting = h.waiting;
        represents = built.represents;
        between = between_whole c predeclared h.names p q h.making z.1 keeps h.between one;
        waits = all_wait_later s t old new grows bs h.waiting h.waits;
        stands = all_through_whole c predeclared h.names p q h.making z.1 h.waiting keeps h.between one h.stands;
        so_far = put_whole p q first qs (with_trees bs h.waiting) h.making z.1 h.so_far keeps;
      })
