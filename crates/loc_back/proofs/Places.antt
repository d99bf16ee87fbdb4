-- What each step keeps, wherever the walk is.
use Rattle.std.proofs.Common.{◌≡◌, ℕ, zero, suc, ◌+◌, ◌<◌, ◌≤◌, Bool, true, false, cond, List, [], ◌∷◌, ◌++◌, map, length, set, Option, Some, None, refl, sym, ap, ◌∙◌, subst, arith, ◌⊎◌, inl, inr, ⊎_elim}
use Rattle.std.specs.Prelude.{◌==◌, slice_get}
use Rattle.std.proofs.lemmas.Bool.{cases_lt}
use Rattle.std.proofs.lemmas.List.{length-map}
use Rattle.block_runs.specs.Blocks.{Operation}
use Rattle.block_runs.specs.Live.{has}
use Rattle.block_runs.specs.declared.end.End.{End}
use Rattle.lir_core.specs.Spots.{get, in_register}
use Rattle.loc_state.specs.Homed.{all_inserted}
use Rattle.loc_state.specs.Registers.{register_of}
use Rattle.loc_state.specs.Steps as steps
use Rattle.loc_state.specs.Walked.{Apart}
use Rattle.loc_state.proofs.Homing.{has_all_inserted}
use Rattle.loc_state.proofs.Numbers.{test_same, or_rest}
use Rattle.loc_back.specs.declared.part.Stage.{Stage}
use Rattle.loc_back.specs.declared.part.Stage.TheVariants.{Behind, End as AtEnd, Operation as Within, Done}
use Rattle.loc_back.specs.declared.part.BackPart.{BackPart}
use Rattle.loc_back.specs.Steps.{loading, taken, again, begins, written, reading, emptied, passed, no_param, seated_new, seated_news, entered}
use Rattle.loc_back.specs.Served.{Section, Leads, with_homed, Route, MayBeHomed, IsStanding, Backed, IsEnding, IsOpen, uses_at, due, IsAt, CanTake, IsTaking, IsEntered, CanDefine, CanCall, with_def, onward}
use Rattle.loc_back.proofs.Standing.{standing_filled, extends_less, free_saved}
use Rattle.loc_back.proofs.Opening.{settled_at, opened_backed, begun, noted_open, filled_open, evicted_open}
use Rattle.loc_back.proofs.Ending.{ending_backed, noted_ending, filled_ending, evicted_ending}
use Rattle.loc_back.proofs.Calls.{called_backed}

---- What is begun is whole

pub settled_backed : (x : Route) (n : ℕ) (st : Stage) (t : BackPart) → IsEntered st → IsAt x n (due x n st) st t → Backed x n (settled_at st t)
settled_backed x n Behind t e a = absurd e
settled_backed x n AtEnd t e a = subst (λ m. Backed x m (settled_at AtEnd t)) (sym a.0) (ending_backed x t a.1)
settled_backed x n (Within b) t e a = opened_backed x n a.0 b t (subst (λ us. IsOpen x n a.0 us b t) (ap uses_at a.1.there) a.1)
settled_backed x n Done t e a =
    let s = a.3 in
    record {
      row = s.row;
      living = s.living;
      serves = λ marks ext homes marked w wn wm wants. subst (λ ls. Leads x.room x.here (with_homed t.end homes) (loading ls t.lines) w) (sym a.2) (s.serves marks ext homes marked w wn (wm ∙ ap (λ rs. rs ++ t.named) a.1) wants);
    }

---- Uses

pub takes_at : (x : Route) (n : ℕ) (noted : List ℕ) (v : ℕ) (place : Option ℕ) (st : Stage) (t : BackPart) → IsTaking st → CanTake v place t → v < x.room.values → MayBeHomed x.made t.homed v → (st ≡ AtEnd → has x.here.after v ≡ true) → IsAt x n noted st t → IsAt x n (noted ++ v ∷ []) st (taken v place t)
takes_at x n noted v place Behind t k can below free lives a = absurd k
takes_at x n noted v place Done t k can below free lives a = absurd k
takes_at x n noted v None AtEnd t k can below free lives a = (a.0, noted_ending x noted t a.1 (register_of v t.regs) v can)
takes_at x n noted v (Some r) AtEnd t k can below free lives a = (a.0, filled_ending x noted t a.1 r v can.0 can.1 can.2 below free (lives refl))
takes_at x n noted v None (Within b) t k can below free lives a = (a.0, noted_open x n a.0 noted b t a.1 (register_of v t.regs) v can)
takes_at x n noted v (Some r) (Within b) t k can below free lives a = (a.0, filled_open x n a.0 noted b t a.1 r v can.0 can.1 can.2 below free)

abbrev pub evicted_as : Stage → ℕ → BackPart → BackPart
evicted_as st r t = record t { regs = set t.regs r None; homed = steps.saved (get t.regs r) t.homed; loads = again st r (get t.regs r) t.loads }

pub evicts_at : (x : Route) (n : ℕ) (noted : List ℕ) (r : ℕ) (st : Stage) (t : BackPart) → IsTaking st → r < length t.regs → Apart r t.noted → IsAt x n noted st t → IsAt x n noted st (evicted_as st r t)
evicts_at x n noted r Behind t k l apart a = absurd k
evicts_at x n noted r Done t k l apart a = absurd k
evicts_at x n noted r AtEnd t k l apart a = (a.0, evicted_ending x noted t a.1 r l apart)
evicts_at x n noted r (Within b) t k l apart a = (a.0, evicted_open x n a.0 noted b t a.1 r l apart)

---- Operations

pub defines_at : (x : Route) (n : ℕ) (op : Operation) (place : Option ℕ) (st : Stage) (t : BackPart) → slice_get x.here.ops n ≡ Some op → IsEntered st → CanDefine x op place t → IsAt x (n + 1) (due x (n + 1) st) st t → IsAt (with_def op.def x) n [] (begins n op.def place (settled_at st t)).stage (begins n op.def place (settled_at st t))
defines_at x n op place st t there e c a = begun x n op there (settled_at st t) refl refl (settled_backed x (n + 1) st t e a) place (record { plain = c.plain; given = c.given; own = c.own })

pub calls_at : (x : Route) (n : ℕ) (op : Operation) (args : List (Option ℕ)) (st : Stage) (t : BackPart) → slice_get x.here.ops n ≡ Some op → IsEntered st → CanCall x op args t.homed → IsAt x (n + 1) (due x (n + 1) st) st t → IsAt (with_def op.def x) n [] (written n op (reading op args (emptied op.def (settled_at st t)))).stage (written n op (reading op args (emptied op.def (settled_at st t))))
calls_at x n op args Behind t there e c a = absurd e
calls_at x n op args AtEnd t there e c a = (refl, refl, refl, called_backed x n op args (settled_at AtEnd t) there c (settled_backed x (n + 1) AtEnd t e a))
calls_at x n op args (Within b) t there e c a = (refl, refl, refl, called_backed x n op args (settled_at (Within b) t) there c (settled_backed x (n + 1) (Within b) t e a))
calls_at x n op args Done t there e c a = (refl, refl, refl, called_backed x n op args (settled_at Done t) there c (settled_backed x (n + 1) Done t e a))

---- The end of the node before

pub set_past : {A : Type 0} (xs : List A) (r : ℕ) (o : A) → length xs ≤ r → set xs r o ≡ xs
set_past [] r o l = refl
set_past (x ∷ xs) zero o l = absurd (omega (arith, l))
set_past (x ∷ xs) (suc r) o l = ap (λ ys. x ∷ ys) (set_past xs r o (omega (arith, l)))

module _ (x : Route) (homed : List ℕ) where
  new_standing : (v : ℕ) (place : Option ℕ) (regs : List (Option ℕ)) → v < x.room.values → MayBeHomed x.made homed v → IsStanding x homed regs → IsStanding x homed (seated_new v place regs)
  new_standing v None regs below free s = s
  new_standing v (Some r) regs below free s = by (in_register regs v) refl
    where
      at_length : in_register regs v ≡ false → ◌⊎◌ (r < length regs) (length regs ≤ r) → IsStanding x homed (set regs r (Some v))
      at_length e (inl l) = standing_filled x homed regs r v l e below free s
      at_length e (inr l) = subst (IsStanding x homed) (sym (set_past regs r (Some v) l)) s

      by : (b : Bool) → in_register regs v ≡ b → IsStanding x homed (cond b regs (set regs r (Some v)))
      by true e = s
      by false e = at_length e (cases_lt r (length regs))

  pub news_standing : (vs : List ℕ) (places : List (Option ℕ)) (regs : List (Option ℕ)) → ((v : ℕ) → has vs v ≡ true → (v < x.room.values) × MayBeHomed x.made homed v) → IsStanding x homed regs → IsStanding x homed (seated_news vs places regs)
  news_standing [] places regs can s = s
  news_standing (v ∷ vs) [] regs can s = s
  news_standing (v ∷ vs) (p ∷ places) regs can s =
      let here = can v (ap (λ b. cond b true (has vs v)) (test_same v)) in
      news_standing vs places (seated_new v p regs) (λ u h. can u (or_rest (v == u) (has vs u) h)) (new_standing v p regs here.0 here.1 s)

-- what a register has then was given it, or was there
new_was : (v : ℕ) (place : Option ℕ) (regs : List (Option ℕ)) (r u : ℕ) → get (seated_new v place regs) r ≡ Some u → (v ≡ u) ⊎ (get regs r ≡ Some u)
new_was v None regs r u e = inr e
new_was v (Some q) regs r u e = by (in_register regs v) e
  where
    at_length : ◌⊎◌ (q < length regs) (length regs ≤ q) → get (set regs q (Some v)) r ≡ Some u → (v ≡ u) ⊎ (get regs r ≡ Some u)
    at_length (inl l) g = ⊎_elim (λ m. inl m.1) (λ m. inr m.1) (Rattle.loc_back.proofs.Standing.was_written regs q v r u l g)
    at_length (inr l) g = inr (ap (λ xs. get xs r) (sym (set_past regs q (Some v) l)) ∙ g)

    by : (b : Bool) → get (cond b regs (set regs q (Some v))) r ≡ Some u → (v ≡ u) ⊎ (get regs r ≡ Some u)
    by true g = inr g
    by false g = at_length (cases_lt q (length regs)) g

pub news_were : (vs : List ℕ) (places : List (Option ℕ)) (regs : List (Option ℕ)) (r u : ℕ) → get (seated_news vs places regs) r ≡ Some u → (has vs u ≡ true) ⊎ (get regs r ≡ Some u)
news_were [] places regs r u e = inr e
news_were (v ∷ vs) [] regs r u e = inr e
news_were (v ∷ vs) (p ∷ places) regs r u e = ⊎_elim (λ h. inl (or_rest (v == u) (has vs u) h)) (λ g. ⊎_elim (λ q. inl (ap (λ b. cond b true (has vs u)) (ap (λ y. y == u) q ∙ test_same u))) inr (new_was v p regs r u g)) (news_were vs places (seated_new v p regs) r u e)

pub left_was : (params : List ℕ) (regs : List (Option ℕ)) (r v : ℕ) → get (map (no_param params) regs) r ≡ Some v → (get regs r ≡ Some v) × (has params v ≡ false)
left_was params [] r v e = cc
left_was params (None ∷ regs) zero v e = cc
left_was params (Some w ∷ regs) zero v e = by (has params w) refl e
  where
    by : (b : Bool) → has params w ≡ b → cond b None (Some w) ≡ Some v → (Some w ≡ Some v) × (has params v ≡ false)
    by true q e = cc
    by false q e = (e, (let z : w ≡ v = cc in ap (has params) (sym z) ∙ q))
left_was params (o ∷ regs) (suc r) v e = left_was params regs r v e

pub unmade_before : (params made : List ℕ) (v : ℕ) → has params v ≡ false → has (params ++ made) v ≡ true → has made v ≡ true
unmade_before [] made v e h = h
unmade_before (p ∷ params) made v e h = by (p == v) e h (unmade_before params made v)
  where
    by : (b : Bool) → cond b true (has params v) ≡ false → cond b true (has (params ++ made) v) ≡ true → (has params v ≡ false → has (params ++ made) v ≡ true → has made v ≡ true) → has made v ≡ true
    by true e h on = cc
    by false e h on = on e h

pub made_more : (params made : List ℕ) (v : ℕ) → has made v ≡ true → has (params ++ made) v ≡ true
made_more [] made v h = h
made_more (p ∷ params) made v h = or_rest (p == v) (has (params ++ made) v) (made_more params made v h)

pub homes_grow : (homes homed : List ℕ) (v : ℕ) → has homed v ≡ true → has (all_inserted homes homed) v ≡ true
homes_grow homes homed v h = has_all_inserted homes homed v ∙ or_rest (has homes v) (has homed v) h

module _ (x : Route) (b : Section) (params : List ℕ) (end : End) (args : List (Option ℕ)) (homes : List ℕ) (st : Stage) (s : BackPart) (row : IsStanding x s.homed s.regs) (living : (r v : ℕ) → get s.regs r ≡ Some v → has params v ≡ false → has b.after v ≡ true) (passes : (v : ℕ) → has (passed end) v ≡ true → has b.after v ≡ true) (below : (v : ℕ) → has (passed end) v ≡ true → v < x.room.values) (free : (v : ℕ) → has (passed end) v ≡ true → MayBeHomed (params ++ x.made) s.homed v) where
  left_standing : IsStanding (onward st b params x) (all_inserted homes s.homed) (map (no_param params) s.regs)
  left_standing = record {
    size = length-map {B = Option ℕ} s.regs (no_param params) ∙ row.size;
    single = λ p q v g h. row.single p q v (left_was params s.regs p v g).0 (left_was params s.regs q v h).0;
    values = λ r v g. row.values r v (left_was params s.regs r v g).0;
    free = λ r v g h. (let m = left_was params s.regs r v g in homes_grow homes s.homed v (row.free r v m.0 (unmade_before params x.made v m.1 h)));
  }

  pub entered_ending : s.lines ≡ [] → s.named ≡ [] → s.noted ≡ [] → s.loads ≡ [] → IsEnding (onward st b params x) [] (entered params end args homes s)
  entered_ending lines named noted loads = record {
    row = news_standing (onward st b params x) (all_inserted homes s.homed) (passed end) args (map (no_param params) s.regs) (λ v h. (below v h, λ m. homes_grow homes s.homed v (free v h m))) left_standing;
    living = λ r v g. ⊎_elim (passes v) (λ q. let m = left_was params s.regs r v q in living r v m.0 m.1) (news_were (passed end) args (map (no_param params) s.regs) r v g);
    are_noted = record { below = subst (Rattle.lir_core.specs.Lines.AllBelow x.room.regs) (sym noted) tt; used = ap (map (get (seated_news (passed end) args (map (no_param params) s.regs)))) noted };
    lines = lines;
    named = named;
    loads = loads;
  }
