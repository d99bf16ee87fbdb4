-- Procedures are put off one after the other, and what they come to is filled in at the end.
use Rattle.std.proofs.Common.{◌≡◌, ℕ, suc, ◌+◌, ◌<◌, ◌≤◌, List, [], ◌∷◌, ◌++◌, length, refl, sym, subst, ap, ◌∙◌, arith}
use Rattle.std.specs.Prelude.{slice_set}
use Rattle.ob_syntax.specs.declared.declarations.ProcedureDecl.{ProcedureDecl, ProcedureDecl'}
use Rattle.ob_judge.specs.Judged.{Judged, Keeps, Breaks, ◌>>=◌}
use Rattle.ob_judge.specs.Image.{Procedure}
use Rattle.ob_judge.specs.Scopes.{Source}
use Rattle.ob_judge.specs.Making.{Making, Part, no_procedure}
use Rattle.ob_judge.specs.Declarations.{each, procedures_part}
use Rattle.judged_modules.proofs.Lists.{append_length, set_length}
use Rattle.judged_modules.specs.steps.Procedures.{OneProcedure, plain_procedure, plain_each_procedure}
use Rattle.judged_modules.specs.steps.Steps.{procedure_part}
use Rattle.judged_modules.proofs.steps.Laws.{then_then, then_same, procedures_law}
use Rattle.later_bodies.specs.Waiting.{Waiting, with_procedures, put_off, put_aside, Came, filled}
use Rattle.later_bodies.specs.Ended.{ended}
use Rattle.later_bodies.specs.Beside.{PutOffBeside}
use Rattle.later_bodies.specs.Walked.{CameTo, AllCameTo, AllBelow, PutSoFar, one_by_one}
use Rattle.later_bodies.proofs.Lists.{set_before}
use Rattle.later_bodies.proofs.Waits.{put_off_is}
use Rattle.later_bodies.proofs.PutOff.{put_off_beside}
use Rattle.later_bodies.proofs.Frames.{procedure_beside}

-- ---- filling in

-- one by one
pub filled_last : (ps : List Procedure) (xs : List Came) (x : Came) → filled ps (xs ++ x ∷ []) ≡ slice_set (filled ps xs) x.number x.procedure
filled_last ps [] x = refl
filled_last ps (y ∷ xs) x = filled_last (slice_set ps y.number y.procedure) xs x

-- as many as before
pub filled_length : (ps : List Procedure) (xs : List Came) → length (filled ps xs) ≡ length ps
filled_length ps [] = refl
filled_length ps (x ∷ xs) = filled_length (slice_set ps x.number x.procedure) xs ∙ set_length ps x.number x.procedure

-- what is filled in stands before what was added since
filled_before : (p : Source) (ps more : List Procedure) (ws : List (OneProcedure × Waiting)) (xs : List Came) → AllBelow (length ps) ws → AllCameTo p ws xs → filled (ps ++ more) xs ≡ filled ps xs ++ more
filled_before p ps more [] [] below came = refl
filled_before p ps more [] (x ∷ xs) below came = absurd came
filled_before p ps more (w ∷ ws) [] below came = absurd came
filled_before p ps more (w ∷ ws) (x ∷ xs) below came =
    ap (λ l. filled l xs) (set_before ps more x.number x.procedure (subst (λ n. n < length ps) (sym came.0.number) below.0))
    ∙ filled_before p (slice_set ps x.number x.procedure) more ws xs (subst (λ n. AllBelow n ws) (sym (set_length ps x.number x.procedure)) below.1) came.1

-- ---- one more that waits

still_below : (n m : ℕ) → n ≤ m → (ws : List (OneProcedure × Waiting)) → AllBelow n ws → AllBelow m ws
still_below n m more [] below = tt
still_below n m more (w ∷ ws) below = (let a = below.0 in omega (arith, a, more), still_below n m more ws below.1)

below_last : (n : ℕ) (ws : List (OneProcedure × Waiting)) (w : OneProcedure × Waiting) → AllBelow n ws → w.1.number < n → AllBelow n (ws ++ w ∷ [])
below_last n [] w below last = (last, tt)
below_last n (v ∷ ws) w below last = (below.0, below_last n ws w below.1 last)

-- what all came to, and the last of it
record LastCame (p : Source) (ws : List (OneProcedure × Waiting)) (w : OneProcedure × Waiting) (xs : List Came) : Type 0 where
  pub before : List Came
  pub last : Came
  pub are : xs ≡ before ++ last ∷ []
  pub all : AllCameTo p ws before
  pub came : CameTo p w last

last_came : (p : Source) (ws : List (OneProcedure × Waiting)) (w : OneProcedure × Waiting) (xs : List Came) → AllCameTo p (ws ++ w ∷ []) xs → LastCame p ws w xs
last_came p [] w [] came = absurd came
last_came p [] w (x ∷ []) came = record { before = []; last = x; are = refl; all = tt; came = came.0 }
last_came p [] w (x ∷ y ∷ xs) came = absurd came.1
last_came p (v ∷ ws) w [] came = absurd came
last_came p (v ∷ ws) w (x ∷ xs) came =
    let h = last_came p ws w xs came.1 in
    record { before = x ∷ h.before; last = h.last; are = ap (λ l. x ∷ l) h.are; all = (came.0, h.all); came = h.came }

-- one more came to something
pub came_next : (p : Source) (ws : List (OneProcedure × Waiting)) (xs : List Came) (w : OneProcedure × Waiting) (x : Came) → AllCameTo p ws xs → CameTo p w x → AllCameTo p (ws ++ w ∷ []) (xs ++ x ∷ [])
came_next p [] [] w x came last = (last, tt)
came_next p [] (y ∷ xs) w x came last = absurd came
came_next p (v ∷ ws) [] w x came last = absurd came
came_next p (v ∷ ws) (y ∷ xs) w x came last = (came.0, came_next p ws xs w x came.1 last)

-- ---- one more that is judged

then_that : {A : Type 0} (m : Judged A) → (m >>= λ a. Keeps a) ≡ m
then_that (Keeps a) = refl
then_that (Breaks number at) = refl

each_last : {X : Type 0} (f : X → Part (Unit {0})) (xs : List X) (x : X) (s : Making) → each f (xs ++ x ∷ []) s ≡ (each f xs s >>= λ r. f x r.1)
each_last f [] x s = then_that (f x s)
each_last f (y ∷ xs) x s = then_same (f y s) _ _ (λ r. each_last f xs x r.1) ∙ sym (then_then (f y s) (λ r. each f xs r.1) (λ r. f x r.1))

module _ (p : Source) where
  -- ---- the walk

  pub put_first : (s : Making) → PutSoFar p s [] [] s
  put_first s = record { numbers = tt; judged = by }
    where
      by : (xs : List Came) → AllCameTo p [] xs → each (procedure_part p) [] s ≡ Keeps (tt, with_procedures (filled s.procedures xs) s)
      by [] came = refl
      by (x ∷ xs) came = absurd came

  module _ (q : OneProcedure) where
    -- what a procedure that waits comes to, where others were filled in before
    put_ends : (s : Making) (ws : List (OneProcedure × Waiting)) (w : Waiting) (vs : List Came) (x : Came) → AllBelow (length s.procedures) ws → AllCameTo p ws vs → CameTo p (q, w) x
        → PutOffBeside p q s (filled s.procedures vs) w → procedure_part p q (with_procedures (filled s.procedures vs) s) ≡ Keeps (tt, with_procedures (filled w.inner.procedures (vs ++ x ∷ [])) (put_aside w))
    put_ends s ws w vs x below came ends b =
        let ys = filled s.procedures vs in
        let zs = ys ++ no_procedure ∷ b.added in
        put_off_is p q (with_procedures ys s)
        ∙ ap (λ (m : Judged Waiting). m >>= ended p q) b.alike
        ∙ ap (λ (m : Judged Procedure). m >>= λ j. Keeps (tt, with_procedures (slice_set zs w.number j) (put_aside w))) ends.judged
        ∙ ap (λ l. Keeps (tt, with_procedures l (put_aside w)))
        (ap (λ n. slice_set zs n x.procedure) (sym ends.number)
        ∙ ap (λ l. slice_set l x.number x.procedure) (sym (filled_before p s.procedures (no_procedure ∷ b.added) ws vs below came))
        ∙ ap (λ l. slice_set (filled l vs) x.number x.procedure) (sym b.inner)
        ∙ sym (filled_last w.inner.procedures vs x))

    pub put_next : (first : Making) (qs : List OneProcedure) (ws : List (OneProcedure × Waiting)) (s : Making) (w : Waiting) → PutSoFar p first qs ws s → put_off p q s ≡ Keeps w
        → PutSoFar p first (qs ++ q ∷ []) (ws ++ (q, w) ∷ []) (put_aside w)
    put_next first qs ws s w so_far is = record { numbers = numbers; judged = judged }
      where
        longer : suc (length s.procedures) ≤ length w.inner.procedures
        longer =
            let b = put_off_beside p q s s.procedures refl w is in
            let e : length w.inner.procedures ≡ length s.procedures + length (no_procedure ∷ b.added) = ap (λ (l : List Procedure). length l) b.inner ∙ append_length s.procedures (no_procedure ∷ b.added) in
            omega (arith, e)

        numbers : AllBelow (length w.inner.procedures) (ws ++ (q, w) ∷ [])
        numbers =
            let b = put_off_beside p q s s.procedures refl w is in
            let n = b.number in
            below_last (length w.inner.procedures) ws (q, w) (still_below (length s.procedures) (length w.inner.procedures) (let l = longer in omega (arith, l)) ws so_far.numbers) (let l = longer in omega (arith, l, n))

        judged : (xs : List Came) → AllCameTo p (ws ++ (q, w) ∷ []) xs → each (procedure_part p) (qs ++ q ∷ []) first ≡ Keeps (tt, with_procedures (filled w.inner.procedures xs) (put_aside w))
        judged xs came =
            let h = last_came p ws (q, w) xs came in
            each_last (procedure_part p) qs q first
            ∙ ap (λ (m : Judged (Unit {0} × Making)). m >>= λ r. procedure_part p q r.1) (so_far.judged h.before h.all)
            ∙ put_ends s ws w h.before h.last so_far.numbers h.all h.came (put_off_beside p q s (filled s.procedures h.before) (filled_length s.procedures h.before) w is)
            ∙ ap (λ l. Keeps (tt, with_procedures (filled w.inner.procedures l) (put_aside w))) (sym h.are)

    -- one that is judged with its body at once
    pub put_whole : (first : Making) (qs : List OneProcedure) (ws : List (OneProcedure × Waiting)) (s t : Making) → PutSoFar p first qs ws s → procedure_part p q s ≡ Keeps (tt, t)
        → PutSoFar p first (qs ++ q ∷ []) ws t
    put_whole first qs ws s t so_far is = record { numbers = numbers; judged = judged }
      where
        numbers : AllBelow (length t.procedures) ws
        numbers =
            let b = procedure_beside p s s.procedures refl q t is in
            let e : length t.procedures ≡ length s.procedures + length b.added = ap (λ (l : List Procedure). length l) b.procedures ∙ append_length s.procedures b.added in
            still_below (length s.procedures) (length t.procedures) (omega (arith, e)) ws so_far.numbers

        judged : (xs : List Came) → AllCameTo p ws xs → each (procedure_part p) (qs ++ q ∷ []) first ≡ Keeps (tt, with_procedures (filled t.procedures xs) t)
        judged xs came =
            let b = procedure_beside p s (filled s.procedures xs) (filled_length s.procedures xs) q t is in
            each_last (procedure_part p) qs q first
            ∙ ap (λ (m : Judged (Unit {0} × Making)). m >>= λ r. procedure_part p q r.1) (so_far.judged xs came)
            ∙ b.alike
            ∙ ap (λ l. Keeps (tt, with_procedures l t)) (sym (ap (λ l. filled l xs) b.procedures ∙ filled_before p s.procedures b.added ws xs so_far.numbers came))

  -- ---- as they stand in the text

  pub all_procedures : (ds : List ProcedureDecl) (s : Making) → procedures_part p (plain_each_procedure ds) s ≡ each (procedure_part p) (one_by_one ds) s
  all_procedures [] s = refl
  all_procedures (ProcedureDecl' q semicolon ∷ rest) s = procedures_law p (plain_procedure q) semicolon (plain_each_procedure rest) s ∙ then_same (procedure_part p (plain_procedure q) s) _ _ (λ r. all_procedures rest r.1)

  -- all that waited came to something, and so the procedures are judged
  pub all_filled : (ds : List ProcedureDecl) (first s : Making) (ws : List (OneProcedure × Waiting)) (xs : List Came) → PutSoFar p first (one_by_one ds) ws s → AllCameTo p ws xs
      → procedures_part p (plain_each_procedure ds) first ≡ Keeps (tt, with_procedures (filled s.procedures xs) s)
  all_filled ds first s ws xs so_far came = all_procedures ds first ∙ so_far.judged xs came
