-- Parts of statements with blocks, and what is behind them.
use Rattle.std.proofs.Common.{◌≡◌, ℕ, zero, suc, ◌+◌, ◌<◌, ◌≤◌, map, drop, length, get_or, List, [], ◌∷◌, ◌++◌, Option, Some, None, true, refl, sym, ap, ap₂, ◌∙◌, subst, arith}
use Rattle.std.specs.Prelude.{slice_index, is_some}
use Rattle.std.proofs.lemmas.List.{drop_more, length-drop}
use Rattle.std.proofs.Math.ListN.{drop_of_length-le}
use Rattle.block_runs.specs.declared.end.End.{End}
use Rattle.block_runs.specs.declared.end.End.TheVariants.{Jump}
use Rattle.ob_types.specs.declared.program.Program.{Program}
use Rattle.ob_types.specs.declared.statements.Branch.{Branch}
use Rattle.ob_types.specs.declared.statements.CasePart.{CasePart}
use Rattle.ob_types.specs.declared.statements.Label.{Label}
use Rattle.ob_types.specs.declared.statements.Stmt.{Stmt}
use Rattle.ob_types.specs.declared.statements.TypePart.{TypePart}
use Rattle.ssa_lowered.specs.Control.{Test, Round, Rung, ladder, case, loop, repeat, behind, half, often}
use Rattle.ssa_lowered.specs.Lowered.{Here}
use Rattle.ssa_lowered.specs.Pieces.{Mask, numbers, picked}
use Rattle.ssa_lowered.specs.Statements.{Deed}
use Rattle.ssa_lowered.specs.Variables.{either}
use Rattle.ssa_exprs.specs.Changes.{Undoes, rewound, chosen, values_of, joined}
use Rattle.ssa_exprs.specs.Making.{View, Tests, asked, bound, closed, cursor_at}
use Rattle.ssa_exprs.specs.Tables.{expr_in}
use Rattle.ssa_exprs.proofs.Chains.{tests_at}
use Rattle.ssa_exprs.proofs.Changes.{undoes_on, undoes_same, rewound_is}
use Rattle.ssa_exprs.proofs.Giving.{follows_any, follows_as, follows_over, once_none}
use Rattle.ssa_exprs.proofs.Changes.{undoes_none}
use Rattle.ssa_assigned.specs.Assigned.{assigned_list, assigned_parts}
use Rattle.ssa_assigned.specs.Registers.{registers_in}
use Rattle.ssa_statements.specs.declared.control.Frame.{Frame}
use Rattle.ssa_statements.specs.Cases.{as_ladder, AllBelow, Climbs, OpensCase, ends, entered, Enters, Leaves, Parts}
use Rattle.ssa_statements.specs.Meeting.{Jumps, Heads, Finishes, FinishesAll}
use Rattle.ssa_statements.specs.Parts.{left, met, headed}
use Rattle.ssa_statements.specs.Steps.{Steps, Rounds, deed_in}
use Rattle.ssa_statements.specs.Rungs.{rungs_in}
use Rattle.ssa_statements.specs.declared.cases.Opened.{Opened}
use Rattle.ssa_statements.specs.declared.cases.Rung.{Rung as Coded}
use Rattle.ssa_statements.proofs.Choose.{steps_choose}
use Rattle.ssa_statements.proofs.Choosing.{same_rungs, steps_case}
use Rattle.ssa_statements.proofs.Joining.{steps_from, steps_on, steps_none, steps_to, as_many, undoes_joined}
use Rattle.ssa_statements.proofs.Limbs.{parts_none, parts_more}
use Rattle.ssa_statements.proofs.Loops.{rounds_more, rounds_none, steps_loop}
use Rattle.ssa_statements.proofs.Repeats.{steps_repeat}
use Rattle.ssa_statements.specs.walk.Frames.{Opens, Turns, Takes}
use Rattle.ssa_statements.specs.walk.Joins.{AreJoined}
use Rattle.ssa_statements.specs.walk.Rungs.{coded_labels, coded_cases, coded_types}
use Rattle.ssa_statements.specs.declared.walk.rungs.Dynamic.{Dynamic}
use Rattle.ssa_statements.specs.walk.Lists.{deeds_in, alternatives_in, round_in, rounds_in}

-- where a limit is passed nothing is made
steps_over : (v : View) (n : ℕ) (m : Deed) → v.over ≡ Some n → Steps v v m
steps_over v n m e = record { follows = follows_over v n (λ _. m) (λ _. tt) e; once = once_none v; undoes = undoes_none v.known }

passed_by : (v : View) (m : Deed) (o : Option ℕ) → v.over ≡ o → is_some o ≡ true → Steps v v m
passed_by v m None e h = absurd (cc)
passed_by v m (Some n) e h = steps_over v n m e

pub steps_passed : (v : View) (m : Deed) → is_some v.over ≡ true → Steps v v m
steps_passed v m h = passed_by v m v.over refl h

-- where one is passed already, what is said to be made doesn't matter
steps_any_by : {v w : View} (m n : Deed) (o : Option ℕ) → v.over ≡ o → is_some o ≡ true → Steps v w m → Steps v w n
steps_any_by m n None e h x = absurd (cc)
steps_any_by m n (Some k) e h x = record { follows = follows_any k (λ _. m) (λ _. n) (λ _. tt) (λ _. tt) e x.follows; once = x.once; undoes = x.undoes }

pub steps_any : {v w : View} (m n : Deed) → is_some v.over ≡ true → Steps v w m → Steps v w n
steps_any {v = v} m n h x = steps_any_by m n v.over refl h x

---- One statement after the other

module _ (p : Program) (here : Here) where
  -- these statements were lowered
  pub record Doing (ss : List Stmt) (v w : View) : Type 0 where
    pub by : Steps v w (deeds_in p here ss)

  pub doing_more : (ss : List Stmt) (i : ℕ) (s : Stmt) {u v w : View} → i < length ss → s ≡ get_or ss i s → Steps u v (deed_in p here s) → Doing (drop (i + 1) ss) v w → Doing (drop i ss) u w
  doing_more ss i s {u = u} {w = w} lt is one rest =
      let here_is = ap (λ x. x ∷ drop (i + 1) ss) is ∙ sym (drop_more ss i s lt) in
      subst (λ z. Doing z u w) here_is (record { by = steps_on one rest.by })

  pub doing_end : (ss : List Stmt) (i : ℕ) (v : View) → length ss ≤ i → Doing (drop i ss) v v
  doing_end ss i v le = subst (λ l. Doing l v v) (sym (drop_of_length-le ss le)) (record { by = steps_none v })

---- Jumps, as the laws have them

left_is : (v : View) {u2 u3 : View} (to : ℕ) (xs : List ℕ) (moment freq : ℕ) (j : Jumps u2 u3 to xs freq) → moment ≡ length v.known.log → record u3 { known = rewound u3.known moment } ≡ left v u2 to j.args freq
left_is v {u2 = u2} to xs moment freq j e = ap₂ (λ (u : View) (m : ℕ). record u { known = rewound u.known m }) j.is e

-- a branch of IF
pub opens_all : {v u u2 u3 w : View} {t : Test} {body : Deed} (f : Frame) (yes_to no_to freq q : ℕ)
    → freq ≡ v.freq → q ≡ half freq → f.moment ≡ length v.known.log → f.freq ≡ freq → yes_to ≡ v.labels → no_to ≡ suc v.labels → f.out ≡ suc (suc v.labels)
    → Tests (asked (asked (asked v))) u t yes_to no_to q → Steps (bound u yes_to) u2 body → Jumps u2 u3 f.out f.vars.items q → w ≡ bound (record u3 { known = rewound u3.known f.moment }) no_to
    → Opens v w f t body
opens_all {v} {u} {u2} {u3} {w} {t} {body} f yes_to no_to freq q ef eq em eff ey en eo x y j ew =
    let q_is : q ≡ half v.freq = eq ∙ ap half ef in
    let w_is : w ≡ bound (left v u2 (suc (suc v.labels)) j.args (half v.freq)) (suc v.labels) =
    ew ∙ ap₂ bound (left_is v f.out f.vars.items f.moment q j em ∙ ap₂ (λ o k. left v u2 o j.args k) eo q_is) en in
    let know : (left v u2 (suc (suc v.labels)) j.args (half v.freq)).known ≡ v.known = rewound_is (undoes_on (undoes_same x.known) y.undoes) in
    record {
      by = λ mask other x5 z vars rest fin.
          let z_is : z ≡ met v x5 mask (suc (suc v.labels)) fin.args =
          fin.is ∙ ap₂ (λ (m : ℕ) (xs : List ℕ). bound (joined (record x5 { known = rewound x5.known m }) (Jump f.out fin.args) xs f.freq None) f.out) em vars
          ∙ ap₂ (λ (o k : ℕ). bound (joined (record x5 { known = rewound x5.known (length v.known.log) }) (Jump o fin.args) (chosen mask 0 v.known.env) k None) o) eo (eff ∙ ef) in
          steps_to z_is (steps_choose v u u2 x5 t body other mask j.args fin.args (tests_at refl ey en q_is x) (steps_from (ap (bound u) ey) y) (λ h. j.picked h ∙ ap (values_of u2.known.env) vars) (steps_from w_is rest) (λ h. fin.picked h ∙ ap (values_of x5.known.env) vars));
      known = ap (λ (k : View). k.known) w_is ∙ know;
    }

-- the branches that are left
pub alternatives_step : (p : Program) (here : Here) (all : List Branch) (i : ℕ) (part : Branch) (other : List Stmt) (g : Deed) (f : Frame) {v u : View} (w z : View) (xs : List ℕ) → i < length all → part ≡ get_or all i part
    → Opens v u f (expr_in p here part.condition.form).test (deeds_in p here part.body.items) → f.vars.items ≡ xs
    → AreJoined p here (either (assigned_list part.body.items) (either (assigned_parts (drop (i + 1) all)) (assigned_list other))) v xs
    → Steps u w (alternatives_in p here (drop (i + 1) all) other g) → Finishes f w z → Steps v z (alternatives_in p here (drop i all) other g)
alternatives_step p here all i part other g f {v = v} w z xs lt is o vars joined_by s fin =
    subst (λ l. Steps v z (alternatives_in p here l other g)) (ap (λ x. x ∷ drop (i + 1) all) is ∙ sym (drop_more all i part lt))
    (o.by (registers_in p here (either (assigned_list part.body.items) (either (assigned_parts (drop (i + 1) all)) (assigned_list other)))) (alternatives_in p here (drop (i + 1) all) other g) w z (vars ∙ joined_by v.known.env refl) s fin)

-- a guard of WHILE
pub turns_all : {v u u2 u3 w : View} {t : Test} {body : Deed} (header : ℕ) (xs : List ℕ) (next yes_to no_to freq moment : ℕ)
    → freq ≡ v.freq → moment ≡ length v.known.log → yes_to ≡ v.labels → no_to ≡ suc v.labels
    → Tests (asked (asked v)) u t yes_to no_to freq → Steps (bound u yes_to) u2 body → Jumps u2 u3 header xs next → w ≡ bound (record u3 { known = rewound u3.known moment }) no_to
    → Turns v w header xs next (record { test = t; body = body })
turns_all {v} {u} {u2} {u3} {w} {t} {body} header xs next yes_to no_to freq moment ef em ey en x y j ew =
    let w_is : w ≡ bound (left v u2 header j.args next) (suc v.labels) = ew ∙ ap₂ bound (left_is v header xs moment next j em) en in
    let know : (left v u2 header j.args next).known ≡ v.known = rewound_is (undoes_on (undoes_same x.known) y.undoes) in
    record {
      by = λ mask outside rs z vars behind_is rest.
          rounds_more v u u2 z t body mask header outside next j.args rs (tests_at refl ey en ef x) (steps_from (ap (bound u) ey) y) (λ h. j.picked h ∙ ap (values_of u2.known.env) vars) behind_is
          (subst (λ k. Rounds k z mask header outside rs) w_is rest);
      known = ap (λ (k : View). k.known) w_is ∙ know;
      freq = ap (λ (k : View). k.freq) w_is;
    }

behind_by : (p : Program) (here : Here) (outside next inside freq : ℕ) (l : List Branch) → freq ≡ inside → (0 < length l → next ≡ inside) → (length l ≤ 0 → next ≡ outside) → next ≡ behind (rounds_in p here l) freq outside
behind_by p here outside next inside freq [] same f g = g (omega arith)
behind_by p here outside next inside freq (k ∷ ks) same f g = f (omega arith) ∙ sym same

-- the guards that are left
pub turning_more : (p : Program) (here : Here) (all : List Branch) (i : ℕ) (part : Branch) {v u : View} (z : View) (mask : Mask) (header outside next inside : ℕ) (xs : List ℕ) → i < length all → part ≡ get_or all i part
    → Turns v u header xs next (round_in p here part) → xs ≡ chosen mask 0 v.known.env → (i + 1 < length all → next ≡ inside) → (length all ≤ i + 1 → next ≡ outside) → v.freq ≡ inside
    → Rounds u z mask header outside (rounds_in p here (drop (i + 1) all)) → Rounds v z mask header outside (rounds_in p here (drop i all))
turning_more p here all i part {v = v} z mask header outside next inside xs lt is x vars more none same rest =
    subst (λ l. Rounds v z mask header outside (rounds_in p here l)) (ap (λ k. k ∷ drop (i + 1) all) is ∙ sym (drop_more all i part lt))
    (x.by mask outside (rounds_in p here (drop (i + 1) all)) z vars
    (behind_by p here outside next inside v.freq (drop (i + 1) all) same (λ h. more (let e = length-drop (i + 1) all in omega (arith, e, h))) (λ h. none (let e = length-drop (i + 1) all in omega (arith, e, h))))
    rest)

-- as many variables as before a loop's header
pub headed_many : {v w : View} (header : ℕ) (xs : List ℕ) → Heads v w header xs → length w.known.env ≡ length v.known.env
headed_many {v = v} header xs h = ap (λ (k : View). length k.known.env) h.is ∙ as_many (undoes_joined (asked v) (Jump header h.args) xs (often v.freq) (Some v.block))

headed_is : {v w : View} (mask : Mask) (header : ℕ) (xs : List ℕ) (h : Heads v w header xs) → xs ≡ chosen mask 0 v.known.env → w ≡ headed v mask h.args
headed_is {v = v} mask header xs h vars =
    h.is ∙ ap₂ (λ (t : ℕ) (ys : List ℕ). bound (joined (asked v) (Jump t h.args) ys (often v.freq) (Some v.block)) t) h.label vars

-- the header of a loop, and its guards
pub looped_all : {v u w : View} (mask : Mask) (header outside : ℕ) (xs : List ℕ) (rs : List Round) → Heads v u header xs → xs ≡ chosen mask 0 v.known.env → outside ≡ v.freq → Rounds u w mask header outside rs → Steps v w (loop mask rs)
looped_all {v} {u} {w} mask header outside xs rs h vars ef rest =
    steps_loop v w mask h.args rs (λ o. h.picked o ∙ ap (values_of v.known.env) vars)
    (subst (λ k. Rounds k w mask v.labels v.freq rs) (headed_is mask header xs h vars)
    (subst (λ k. Rounds u w mask k v.freq rs) h.label (subst (λ k. Rounds u w mask header k rs) ef rest)))

-- a loop of one guard
pub one_round : {v u : View} (mask : Mask) (header outside : ℕ) (xs : List ℕ) (r : Round) → Turns v u header xs outside r → xs ≡ chosen mask 0 v.known.env → Rounds v u mask header outside (r ∷ [])
one_round {u = u} mask header outside xs r x vars = x.by mask outside [] u vars refl (rounds_none u mask header outside)

-- REPEAT
pub repeated_all : {v u1 u3 u4 u5 w : View} {t : Test} {body : Deed} (mask : Mask) (header outside inside yes_to no_to : ℕ) (xs : List ℕ)
    → Heads v u1 header xs → xs ≡ chosen mask 0 v.known.env → outside ≡ v.freq → inside ≡ u1.freq → Steps u1 u3 body → yes_to ≡ u3.labels → no_to ≡ suc u3.labels
    → Tests (asked (asked u3)) u4 t yes_to no_to inside → Jumps (bound u4 no_to) u5 header xs outside → w ≡ bound u5 yes_to → Steps v w (repeat mask body t)
repeated_all {v} {u1} {u3} {u4} {u5} {w} {t} {body} mask header outside inside yes_to no_to xs h vars ef ei s ey en x j ew =
    let u1_is = headed_is mask header xs h vars in
    let inside_is : inside ≡ often v.freq = ei ∙ ap (λ (k : View). k.freq) u1_is in
    let w_is : w ≡ bound (closed (bound u4 (suc u3.labels)) (Jump v.labels j.args) 0 v.freq None) u3.labels =
    ew ∙ ap₂ bound (j.is ∙ ap₂ (λ (k : View) (f : ℕ). closed k (Jump header j.args) 0 f None) (ap (bound u4) en) ef ∙ ap (λ o. closed (bound u4 (suc u3.labels)) (Jump o j.args) 0 v.freq None) h.label) ey in
    steps_to w_is (steps_repeat v u3 u4 t body mask h.args j.args (λ o. h.picked o ∙ ap (values_of v.known.env) vars) (steps_from u1_is s) (tests_at refl ey en inside_is x) (λ o. j.picked o ∙ ap (values_of u4.known.env) vars))

---- Parts of CASE

pub takes_none : (v : View) (f : Frame) (leave : Option (List ℕ)) (labels : List ℕ) (i : ℕ) → Takes v v f leave leave labels i []
takes_none v f leave labels i = record {
  by = λ start z mask first vars em ef starts k fin.
      subst (λ w. Parts start v w mask leave f.out first [])
      (sym (fin ∙ ap₂ (λ (m : ℕ) (xs : List ℕ). bound (joined (record v { known = rewound v.known m }) (ends leave f.out) xs f.freq None) f.out) em vars
      ∙ ap (λ q. bound (joined (record v { known = rewound v.known (length start.known.log) }) (ends leave f.out) (chosen mask 0 start.known.env) q None) f.out) ef))
      (parts_none start v mask leave f.out first k);
}

pub takes_more : {v u u2 w : View} {body : Deed} {bodies : List Deed} {args : List ℕ} (f : Frame) (leave last : Option (List ℕ)) (labels : List ℕ) (i label : ℕ) → Enters f v u leave label → label ≡ slice_index labels i → Steps u u2 body
    → (u2.over ≡ None → args ≡ values_of u2.known.env f.vars.items) → Takes u2 w f (Some args) last labels (i + 1) bodies → Takes v w f leave last labels i (body ∷ bodies)
takes_more {v} {u} {u2} {w} {body} {bodies} {args} f leave last labels i label e at s a rest = record {
  by = λ start z mask first vars em ef starts k fin.
      let here_is : label ≡ first =
      (let first_is : slice_index labels (i + 0) ≡ first + 0 = starts 0 (omega arith) in
      let one : i ≡ i + 0 = omega arith in
      let two : first + 0 ≡ first = omega arith in
      at ∙ ap (slice_index labels) one ∙ first_is ∙ two) in
      let u_is : u ≡ bound (entered start v leave f.out) first =
      e ∙ ap₂ (λ (m q : ℕ). bound (record (closed v (ends leave f.out) 0 (half q) None) { known = rewound v.known m }) label) em ef ∙ ap (bound (entered start v leave f.out)) here_is in
      let one = steps_from u_is s in
      let know : Undoes start.known u2.known = undoes_on (undoes_same (rewound_is k)) one.undoes in
      parts_more start v u2 z mask leave f.out first body bodies args k one (λ h. a h ∙ ap (values_of u2.known.env) vars)
      (rest.by start z mask (suc first) vars em ef (λ j lt. let e1 : (i + 1) + j ≡ i + suc j = omega arith in let e2 : first + suc j ≡ suc first + j = omega arith in ap (slice_index labels) e1 ∙ starts (suc j) (omega (arith, lt)) ∙ e2) know fin);
}

pub takes_end : {A : Type 0} (g : A → Deed) (all : List A) (i : ℕ) (v : View) (f : Frame) (leave : Option (List ℕ)) (labels : List ℕ) → length all ≤ i → Takes v v f leave leave labels i (map g (drop i all))
takes_end g all i v f leave labels le = subst (λ l. Takes v v f leave leave labels i (map g l)) (sym (drop_of_length-le all le)) (takes_none v f leave labels i)

pub takes_next : {A : Type 0} (g : A → Deed) (all : List A) (i : ℕ) (part : A) {v u u2 : View} {args : List ℕ} (w : View) (f : Frame) (leave last : Option (List ℕ)) (labels : List ℕ) (label : ℕ) → i < length all → part ≡ get_or all i part
    → Enters f v u leave label → label ≡ slice_index labels i → Steps u u2 (g part) → (u2.over ≡ None → args ≡ values_of u2.known.env f.vars.items) → Takes u2 w f (Some args) last labels (i + 1) (map g (drop (i + 1) all)) → Takes v w f leave last labels i (map g (drop i all))
takes_next g all i part {v = v} w f leave last labels label lt is e at s a rest =
    subst (λ l. Takes v w f leave last labels i (map g l)) (ap (λ k. k ∷ drop (i + 1) all) is ∙ sym (drop_more all i part lt)) (takes_more f leave last labels i label e at s a rest)

-- tests, by what their labels are
pub climbs_as : {v w : View} {last : ℕ} (n : ℕ) (a b : ℕ → ℕ) (rungs : List Rung) → AllBelow n rungs → ((i : ℕ) → i < n → b i ≡ a i) → Climbs v w last a rungs → Climbs v w last b rungs
climbs_as {v = v} {last = last} n a b rungs few same x = record {
  follows = follows_as {m = λ place. as_ladder rungs last (λ i. place (a i))}
      (λ place op seen. ap (λ ps. record { pieces = ps; result = tt; after = (ladder last rungs (cursor_at v op seen)).after }) (same_rungs last n rungs (λ i. place (b i)) (λ i. place (a i)) few (λ i lt. ap place (same i lt)) (cursor_at v op seen))) x.follows;
  once = x.once;
  blind = x.blind;
  freq = x.freq;
  known = x.known;
}

numbers_at : (first n i : ℕ) → i < n → slice_index (numbers first n) i ≡ first + i
numbers_at first zero i lt = absurd (omega (arith, lt))
numbers_at first (suc n) zero lt = omega arith
numbers_at first (suc n) (suc i) lt = numbers_at (suc first) n i (omega (arith, lt)) ∙ omega arith

-- CASE, from what the code made
pub case_all : {v u u1 w : View} {xs : List ℕ} {n : ℕ} {rungs : List Rung} {bodies : List Deed} (mask : Mask) (unmatched : ℕ → List ℕ → End) (o : Opened) (leave last by : Option (List ℕ))
    → n ≡ length bodies → OpensCase v u o xs n rungs → xs ≡ chosen mask 0 v.known.env
    → AllBelow (length bodies) rungs → Takes u u1 o.frame leave last o.starts.items 0 bodies → Leaves o.frame u1 w last
    → (λ out. unmatched out (picked mask v.known.env)) ≡ ends by → (u.over ≡ None → leave ≡ by) → Steps v w (case mask rungs bodies unmatched)
case_all {v} {u} {u1} {w} {xs} {n} {rungs} {bodies} mask unmatched o leave last by en x vars few taken fin ends_by same_end =
    let starts = o.starts.items in
    let at : (i : ℕ) → i < length bodies → slice_index starts i ≡ v.labels + i = λ i lt. ap (λ l. slice_index l i) x.starts ∙ numbers_at v.labels n i (omega (arith, lt, en)) in
    let out_is : o.frame.out ≡ v.labels + length bodies = x.out ∙ ap (λ k. v.labels + k) en in
    let climbs = climbs_as (length bodies) (λ i. slice_index starts i) (λ i. v.labels + i) rungs few (λ i lt. sym (at i lt)) (subst (λ k. Climbs (record v { labels = suc (v.labels + k) }) u (half v.freq) (λ i. slice_index starts i) rungs) en x.climbs) in
    let know : Undoes v.known u.known = undoes_same climbs.known in
    let parts = taken.by v w mask v.labels (x.vars ∙ vars) x.moment x.freq (λ j lt. (let e : 0 + j ≡ j = omega arith in ap (slice_index starts) e) ∙ at j lt) know fin in
    steps_case v u w mask rungs bodies unmatched leave by climbs (subst (λ k. Parts v u w mask leave k v.labels bodies) out_is parts) few ends_by same_end

module _ (p : Program) (here : Here) (v : ℕ) where
  below_on : (n i : ℕ) (ls : List Label) (cs : List Coded) → i < n → AllBelow n (rungs_in p here v cs) → AllBelow n (rungs_in p here v (coded_labels i ls ++ cs))
  below_on n i [] cs lt b = b
  below_on n i (l ∷ ls) cs lt b = (lt, below_on n i ls cs lt b)

  pub below_cases : (n i : ℕ) (ps : List CasePart) → i + length ps ≤ n → AllBelow n (rungs_in p here v (coded_cases i ps))
  below_cases n i [] le = tt
  below_cases n i (x ∷ ps) le = below_on n i x.labels (coded_cases (suc i) ps) (omega (arith, le)) (below_cases n (suc i) ps (omega (arith, le)))

  pub below_types : (kind : Dynamic) (n i : ℕ) (ps : List TypePart) → i + length ps ≤ n → AllBelow n (rungs_in p here v (coded_types kind i ps))
  below_types kind n i [] le = tt
  below_types kind n i (x ∷ ps) le = ((let e = le in omega (arith, e)), below_types kind n (suc i) ps (omega (arith, le)))

pub finishes_none : (fs : List Frame) {w z : View} → fs ≡ [] → FinishesAll fs w z → z ≡ w
finishes_none [] e f = f
finishes_none (g ∷ fs) e f = absurd (cc)
