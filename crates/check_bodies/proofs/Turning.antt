-- Procedures whose bodies were judged behind them, and filled in.
use Rattle.std.proofs.Common.{◌≡◌, ℕ, List, length, Option, sym, subst}
use Rattle.ob_syntax.specs.declared.declarations.ProcedureDecl.{ProcedureDecl}
use Rattle.ob_judge.specs.Declarations.{procedures_part}
use Rattle.ob_judge.specs.Image.{Procedure}
use Rattle.ob_judge.specs.Making.{Making}
use Rattle.ob_judge.specs.Modules.{SoFar}
use Rattle.ob_judge.specs.Scopes.{Entry}
use Rattle.ob_judge.specs.Standards.{predeclared}
use Rattle.judged_modules.specs.steps.Procedures.{plain_each_procedure}
use Rattle.judged_outlines.specs.Upright.{Upright}
use Rattle.judged_outlines.proofs.Uprights.{procedures_upright}
use Rattle.later_bodies.specs.Waiting.{filled, with_procedures}
use Rattle.later_bodies.specs.Walked.{one_by_one}
use Rattle.later_bodies.proofs.Walked.{all_filled, filled_length}
use Rattle.bodies_in_scope.specs.Standing.{AreNamed, Between}
use Rattle.check_making.specs.declared.making.Surroundings.{Surroundings}
use Rattle.check_making.specs.Making.{IsSettled}
use Rattle.check_making.specs.declared.scopes.building.Building.{Building}
use Rattle.check_bodies.specs.declared.body.Body.{Body}
use Rattle.check_bodies.specs.Settled.{AreFilledIn}
use Rattle.check_bodies.specs.Walked.{ComesTo, IsBetween, Walked}

-- with as many other procedures
between_having : (c : SoFar) (names : List ℕ → Option Entry) (m : Making) (qs : List Procedure) → length qs ≡ length m.procedures → Upright c (with_procedures qs m) → Between c predeclared names m → Between c predeclared names (with_procedures qs m)
between_having c names m qs many up h = record {
  levels = h.levels;
  named = subst (λ n. AreNamed n m.standing names) (sym many) h.named;
  constant = h.constant;
  narrowed = h.narrowed;
  upright = up;
  rooted = record { scope = h.rooted.scope };
}

module _ (r : Surroundings) (c : SoFar) (first : Making) (names : List ℕ → Option Entry) (trees : List ProcedureDecl) (s t : Building) (bs : List Body) (between : Between c predeclared names first) where
  pub comes_to : (w : Walked r c first (one_by_one trees) s bs) → AreFilledIn r t bs w.waiting w.making → ComesTo r t c (procedures_part r.source.now (plain_each_procedure trees) first)
  comes_to w f =
      let p = r.source.now in
      let qs = filled w.making.procedures f.came in
      let keeps = all_filled p trees first w.making _ f.came w.so_far f.all in
      record {
        making = with_procedures qs w.making;
        keeps = keeps;
        names = w.names;
        represents = f.represents;
        between = between_having c w.names w.making qs (filled_length w.making.procedures f.came) (procedures_upright c p (plain_each_procedure trees) first (with_procedures qs w.making) keeps between.upright) w.between;
      }

  pub between_there : IsSettled r t.declaring → ComesTo r t c (procedures_part r.source.now (plain_each_procedure trees) first) → IsBetween r t
  between_there settled h = record { settled = settled; so_far = c; making = h.making; names = h.names; represents = h.represents; between = h.between }
