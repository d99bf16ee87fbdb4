-- A procedure is put off alike where other procedures were judged before, as many of them.
use Rattle.std.proofs.Common.{◌≡◌, ℕ, ◌+◌, List, [], ◌∷◌, ◌++◌, length, sym, subst, ap, ◌∙◌}
use Rattle.std.specs.Prelude.{is_some}
use Rattle.ob_judge.specs.Judged.{Judged, Keeps, ◌>>=◌}
use Rattle.ob_judge.specs.Shapes.{Shape}
use Rattle.ob_judge.specs.Image.{Procedure}
use Rattle.ob_judge.specs.Scopes.{Source}
use Rattle.ob_judge.specs.Making.{Making, no_procedure}
use Rattle.ob_judge.specs.Parameters.{Listed, stand}
use Rattle.ob_judge.specs.Declarations.{heading, decls_part}
use Rattle.judged_modules.proofs.Growing.{kept_same, bound}
use Rattle.judged_modules.proofs.Lists.{append_length}
use Rattle.judged_modules.specs.steps.Procedures.{OneProcedure}
use Rattle.judged_modules.specs.steps.Frames.{entered}
use Rattle.later_bodies.specs.Waiting.{Waiting, with_procedures, put_off}
use Rattle.later_bodies.specs.Beside.{SameBeside, AddedBeside, PutOffBeside}
use Rattle.later_bodies.proofs.Lists.{append_append}
use Rattle.later_bodies.proofs.Waits.{waits, numbered, head}
use Rattle.later_bodies.proofs.Frames.{stand_beside, heading_beside, decls_beside}

module _ (p : Source) (q : OneProcedure) where
  -- and on from its heading, its number and its name
  abbrev on_from : (f : ℕ) → Making → (Listed × Shape) × Making → Judged Waiting
  on_from f u h = decls_part p q.decls h.1 >>= λ d. Keeps (waits p q f u h.0 d.1)

  abbrev from_number : (f : ℕ) → Making → Judged Waiting
  from_number f u = head p q f u >>= on_from f u

  abbrev from_name : Unit {0} × Making → Judged Waiting
  from_name r = from_number (length r.1.procedures) (numbered p q r.1)

  module _ (s : Making) (ys : List Procedure) (many : length ys ≡ length s.procedures) where
    abbrev more : List Procedure
    more = ys ++ no_procedure ∷ []

    -- what was made on the way, where these were judged before
    put : (r : Unit {0} × Making) (h : (Listed × Shape) × Making) (d : Unit {0} × Making)
        → SameBeside (stand p (q.name.name ∷ [])) s ys tt r.1
        → SameBeside (heading p (length r.1.procedures) q.name q.formals (is_some r.1.world.procedure)) (entered (length r.1.procedures) (numbered p q r.1)) more h.0 h.1
        → AddedBeside (decls_part p q.decls) h.1 more tt d.1
        → PutOffBeside p q s ys (waits p q (length r.1.procedures) (numbered p q r.1) h.0 d.1)
    put r h d one two three = record {
      added = three.added;
      number = ap (λ (l : List Procedure). length l) one.procedures;
      outer = ap (λ l. l ++ no_procedure ∷ []) one.procedures;
      inner = three.procedures ∙ ap (λ l. l ++ three.added) two.procedures ∙ ap (λ l. (l ++ no_procedure ∷ []) ++ three.added) one.procedures ∙ append_append s.procedures (no_procedure ∷ []) three.added;
      alike = ap (λ (m : Judged _). m >>= from_name) one.alike
          ∙ ap (λ f. from_number f (with_procedures more r.1)) (many ∙ sym (ap (λ (l : List Procedure). length l) one.procedures))
          ∙ ap (λ (m : Judged _). m >>= on_from (length r.1.procedures) (with_procedures more r.1)) two.alike
          ∙ ap (λ (m : Judged (Unit {0} × Making)). m >>= λ z. Keeps (waits p q (length r.1.procedures) (with_procedures more r.1) h.0 z.1)) three.alike
          ∙ ap (λ l. Keeps (waits p q (length r.1.procedures) (with_procedures more r.1) h.0 (with_procedures l d.1))) (append_append ys (no_procedure ∷ []) three.added);
    }

    one_more : (xs : List Procedure) → xs ≡ s.procedures ++ no_procedure ∷ [] → length more ≡ length xs
    one_more xs is = append_length ys (no_procedure ∷ []) ∙ ap (λ n. n + length (no_procedure ∷ [])) many ∙ sym (append_length s.procedures (no_procedure ∷ [])) ∙ ap (λ (l : List Procedure). length l) (sym is)

    pub put_off_beside : (w : Waiting) → put_off p q s ≡ Keeps w → PutOffBeside p q s ys w
    put_off_beside w is =
        let one = bound (stand p (q.name.name ∷ []) s) from_name w is in
        let r = one.0 in
        let two = bound (head p q (length r.1.procedures) (numbered p q r.1)) (on_from (length r.1.procedures) (numbered p q r.1)) w one.2 in
        let h = two.0 in
        let three = bound (decls_part p q.decls h.1) (λ z. Keeps (waits p q (length r.1.procedures) (numbered p q r.1) h.0 z.1)) w two.2 in
        let d = three.0 in
        let first = stand_beside p s ys (q.name.name ∷ []) r.1 one.1 in
        let second = heading_beside p (entered (length r.1.procedures) (numbered p q r.1)) more (length r.1.procedures) q.name q.formals (is_some r.1.world.procedure) h.0 h.1 two.1 in
        let third = decls_beside p h.1 more (one_more h.1.procedures (second.procedures ∙ ap (λ l. l ++ no_procedure ∷ []) first.procedures)) q.decls d.1 three.1 in
        subst (PutOffBeside p q s ys) {x = waits p q (length r.1.procedures) (numbered p q r.1) h.0 d.1} (kept_same (waits p q (length r.1.procedures) (numbered p q r.1) h.0 d.1) w three.2) (put r h d first second third)
