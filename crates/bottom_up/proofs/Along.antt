-- The operations of a node, from the last to the first: what is walked, and what has a place.
use Rattle.std.proofs.Common.{◌≡◌, ◌≢◌, ℕ, zero, suc, ◌+◌, ◌<◌, ◌≤◌, Bool, true, false, cond, List, [], ◌∷◌, ◌++◌, map, length, drop, set, Option, Some, None, refl, sym, ap, ◌∙◌, subst, arith, ◌⊎◌, inl, inr, ⊎_elim, length-set}
use Rattle.std.specs.Prelude.{◌==◌, slice_get, option_to_list}
use Rattle.std.proofs.lemmas.List.{length-map}
use Rattle.block_runs.specs.Blocks.{Operation}
use Rattle.block_runs.specs.Live.{has, defs_of}
use Rattle.block_runs.specs.Valid.{is_call}
use Rattle.lir_core.specs.declared.flow.Lir.{Lir}
use Rattle.lir_core.specs.declared.places.Places.{Places}
use Rattle.lir_core.specs.Flows.{operation_of}
use Rattle.lir_core.specs.Lines.{is_aimed, arguments, Room}
use Rattle.lir_core.specs.Spots.{get, in_register, placed}
use Rattle.loc_state.specs.Registers.{register_of, lowest_empty}
use Rattle.loc_state.specs.Steps.{saved}
use Rattle.loc_state.proofs.Numbers.{numbers_same, test_same, in_row, register_at, in_register_at, either, in_reg, in_home}
use Rattle.loc_back.specs.declared.part.Stage.{Stage}
use Rattle.loc_back.specs.declared.part.Stage.TheVariants.{Behind, End as AtEnd, Operation as Within, Done}
use Rattle.loc_back.specs.declared.part.BackPart.{BackPart}
use Rattle.loc_back.specs.declared.backward.Backward.{Backward}
use Rattle.loc_back.specs.Steps.{settled, taken, evicted, other, begins, defined, all_saved, seated, unseated, called, in_part}
use Rattle.loc_back.specs.Served.{Section, lives_from, Route, IsStanding, IsAt, IsTaking, IsEntered, IsMadeIn, IsOwn, CanDefine, CanCall, uses_at, due, Simulates}
use Rattle.loc_back.proofs.Opening.{settled_at}
use Rattle.loc_back.proofs.Leading.{drop_is, lives_at, used_lives, is_or_not}
use Rattle.loc_back.proofs.Standing.{has_saved}
use Rattle.loc_back.proofs.GivenSeats.{seated_there, unseated_grows, unseated_there, all_saved_grows, all_saved_there, is_other}
use Rattle.loc_back.proofs.Walks.{defines_to, calls_to}
use Rattle.linear_scan.proofs.Candidates.{in_register_set, lowest_is, full}
use Rattle.linear_scan.proofs.Operating.{IsFitting, AreFitting}
use Rattle.bottom_up.specs.Policy.{victim, before, own_or_lowest, seated_at, with_use, with_arguments, with_first, before_call, register_in, call_one, take_at, take_one, take_all, empty_or, made_in, operate, operate_all}
use Rattle.bottom_up.proofs.Chosen.{victim_is}
use Rattle.bottom_up.proofs.Covering.{now_at, placed_emptied, take_all_kept}

---- How many registers there are

length-with_use : (u : ℕ) (r : Option ℕ) (regs : List (Option ℕ)) → length (with_use u r regs) ≡ length regs
length-with_use u r regs = by (in_register regs u) r
  where
    by : (b : Bool) (r : Option ℕ) → length (cond b regs (seated_at u r regs)) ≡ length regs
    by true r = refl
    by false None = refl
    by false (Some s) = length-set regs s (Some u)

length-with_arguments : (us : List ℕ) (i : ℕ) (regs : List (Option ℕ)) → length (with_arguments i us regs) ≡ length regs
length-with_arguments [] i regs = refl
length-with_arguments (u ∷ us) i regs = length-with_arguments us (suc i) (with_use u (own_or_lowest i regs) regs) ∙ length-with_use u (own_or_lowest i regs) regs

length-with_first : (us : List ℕ) (regs : List (Option ℕ)) → length (with_first us regs) ≡ length regs
length-with_first [] regs = refl
length-with_first (u ∷ us) regs = length-with_use u (lowest_empty 0 regs) regs

length-before_call : (op : Operation) (regs : List (Option ℕ)) → length (before_call op regs) ≡ length regs
length-before_call op regs = by (is_aimed op.code)
  where
    by : (b : Bool) → length (cond b (with_first op.uses (with_arguments 0 (arguments op) regs)) (with_arguments 0 (arguments op) regs)) ≡ length regs
    by true = length-with_first op.uses (with_arguments 0 (arguments op) regs) ∙ length-with_arguments (arguments op) 0 regs
    by false = length-with_arguments (arguments op) 0 regs

---- A row that stands

pub row_in : (x : Route) (n : ℕ) (noted : List ℕ) (st : Stage) (t : BackPart) → IsAt x n noted st t → IsStanding x t.homed t.regs
row_in x n noted Behind t a = a.row
row_in x n noted AtEnd t a = a.1.row
row_in x n noted (Within b) t a = a.1.row
row_in x n noted Done t a = a.3.row

-- the registers at the end of the node that is walked
abbrev pub end_regs : Stage → BackPart → List (Option ℕ)
end_regs AtEnd t = t.regs
end_regs _ t = t.end

abbrev pub ends_at : Backward → Places
ends_at f = record { regs = end_regs f.part.stage f.part; homed = f.part.homed }

---- What uses leave as it is

module _ (mention : ℕ → ℕ → Option ℕ) (p : ℕ) (keep : List ℕ) where
  take_one_frame : (u : ℕ) (t : BackPart) → ((take_one mention p keep u t).stage ≡ t.stage) × ((take_one mention p keep u t).end ≡ t.end)
  take_one_frame u t = by (in_register t.regs u) (lowest_empty 0 t.regs)
    where
      by : (c : Bool) (o : Option ℕ) → ((cond c (taken u None t) (take_at mention p keep u o t)).stage ≡ t.stage) × ((cond c (taken u None t) (take_at mention p keep u o t)).end ≡ t.end)
      by true o = (refl, refl)
      by false None = (refl, refl)
      by false (Some r) = (refl, refl)

  pub take_all_frame : (us : List ℕ) (t : BackPart) → ((take_all mention p keep us t).stage ≡ t.stage) × ((take_all mention p keep us t).end ≡ t.end)
  take_all_frame [] t = (refl, refl)
  take_all_frame (u ∷ us) t =
      let on = take_all_frame us (take_one mention p keep u t) in
      let one = take_one_frame u t in
      (on.0 ∙ one.0, on.1 ∙ one.1)

within_end : (st : Stage) (t : BackPart) → (st ≡ AtEnd → ⊥) → end_regs st t ≡ t.end
within_end AtEnd t ne = absurd (ne refl)
within_end Behind t ne = refl
within_end (Within y) t ne = refl
within_end Done t ne = refl

pub settled_end : (st : Stage) (t : BackPart) → (settled_at st t).end ≡ end_regs st t
settled_end AtEnd t = refl
settled_end Behind t = refl
settled_end (Within y) t = refl
settled_end Done t = refl

entered_if : (st : Stage) → IsTaking st → IsEntered st
entered_if Behind k = absurd k
entered_if AtEnd k = tt
entered_if (Within y) k = tt
entered_if Done k = absurd k

pub placed_grows : (regs : List (Option ℕ)) (homed more : List ℕ) (v : ℕ) → ((w : ℕ) → has homed w ≡ true → has more w ≡ true) → placed (record { regs = regs; homed = homed }) v ≡ true → placed (record { regs = regs; homed = more }) v ≡ true
placed_grows regs homed more v on h = ⊎_elim (λ e. in_reg (record { regs = regs; homed = more }) v e) (λ e. in_home (record { regs = regs; homed = more }) v (on v e)) (either (record { regs = regs; homed = homed }) v h)

-- what is so along the operations of a node
pub record Along (room : Room) (b : Section) (done : List Section) (first : List ℕ) (later : ℕ → Type 0) (ends : List (Option ℕ)) (start : List ℕ) (j : ℕ) (f : Backward) : Type 0 where
  pub made : List ℕ
  pub sim : Simulates (record { room = room; done = done; here = b; made = made }) j (due (record { room = room; done = done; here = b; made = made }) j f.part.stage) f
  pub entered : IsEntered f.part.stage
  pub covers : (v : ℕ) → lives_from b j v ≡ true → placed (now_at f) v ≡ true
  pub firsts : (v : ℕ) → has first v ≡ true → has f.part.homed v ≡ true
  pub grown : (v : ℕ) → has start v ≡ true → has f.part.homed v ≡ true
  pub are_made : (v : ℕ) → has made v ≡ true → (has (defs_of (drop j b.ops)) v ≡ true) ⊎ later v
  pub ends_are : end_regs f.part.stage f.part ≡ ends

module _ (mention : ℕ → ℕ → Option ℕ) (room : Room) (four : 4 ≤ room.regs) (b : Section) (done : List Section) (first : List ℕ) (later : ℕ → Type 0) (early : (j v : ℕ) → lives_from b j v ≡ true → (has (defs_of (drop j b.ops)) v ≡ true) ⊎ later v → has first v ≡ true) (below : (v : ℕ) → has (Rattle.block_runs.specs.Valid.uses_of b.ops) v ≡ true → v < room.values) (ends : List (Option ℕ)) (start : List ℕ) where
  abbrev route : List ℕ → Route
  route made = record { room = room; done = done; here = b; made = made }

  module _ (j p : ℕ) (x : Lir) (there : slice_get b.ops j ≡ Some (operation_of x)) (fit : IsFitting room x) (f : Backward) (a : Along room b done first later ends start (j + 1) f) where
    op : Operation
    op = operation_of x

    row : IsStanding (route a.made) f.part.homed f.part.regs
    row = row_in (route a.made) (j + 1) (due (route a.made) (j + 1) f.part.stage) f.part.stage f.part a.sim.here

    made : List ℕ
    made = option_to_list x.def ++ a.made

    are_made : (v : ℕ) → has made v ≡ true → (has (defs_of (drop j b.ops)) v ≡ true) ⊎ later v
    unfolding made
    are_made v h = ⊎_elim (λ d. inl (ap (λ os. has (defs_of os) v) (drop_is b.ops j (operation_of x) there) ∙ Rattle.global_live.proofs.Lists.has_front (option_to_list x.def) (defs_of (drop (j + 1) b.ops)) v d)) (λ m. ⊎_elim (λ d. inl (ap (λ os. has (defs_of os) v) (drop_is b.ops j (operation_of x) there) ∙ Rattle.global_live.proofs.Lists.has_back (option_to_list x.def) (defs_of (drop (j + 1) b.ops)) v d)) inr (a.are_made v m)) (Rattle.global_live.proofs.Lists.in_parts (option_to_list x.def) a.made v h)

    use_below : (u : ℕ) → has x.uses u ≡ true → u < room.values
    use_below u h = below u (in_uses b.ops j there)
      where
        in_uses : (os : List Operation) (i : ℕ) → slice_get os i ≡ Some (operation_of x) → has (Rattle.block_runs.specs.Valid.uses_of os) u ≡ true
        in_uses [] i e = cc
        in_uses (o ∷ os) zero e = let z : o ≡ operation_of x = cc in Rattle.global_live.proofs.Lists.has_front o.uses (Rattle.block_runs.specs.Valid.uses_of os) u (ap (λ y. has y.uses u) z ∙ h)
        in_uses (o ∷ os) (suc i) e = Rattle.global_live.proofs.Lists.has_back o.uses (Rattle.block_runs.specs.Valid.uses_of os) u (in_uses os i e)

    use_early : (u : ℕ) → has x.uses u ≡ true → has made u ≡ true → has first u ≡ true
    use_early u h m = early j u (used_lives b j (operation_of x) there u h) (are_made u m)

    -- what lives before the operation is a use, or lives behind it and isn't its definition
    lives_split : (v : ℕ) → lives_from b j v ≡ true → (has x.uses v ≡ true) ⊎ ((lives_from b (j + 1) v ≡ true) × (x.def ≢ Some v))
    lives_split v h = by (has x.uses v) refl (is_or_not x.def v) (sym (lives_at b j (operation_of x) there v) ∙ h)
      where
        is_def : (o : Option ℕ) → o ≡ Some v → has (option_to_list o) v ≡ true
        is_def None e = cc
        is_def (Some d) e = let z : d ≡ v = cc in ap (λ c. cond c true false) (ap (λ y. y == v) z ∙ test_same v)

        by_def : (c : Bool) → cond c false (lives_from b (j + 1) v) ≡ true → lives_from b (j + 1) v ≡ true
        by_def true e = cc
        by_def false e = e

        by : (c : Bool) → has x.uses v ≡ c → ◌⊎◌ (x.def ≡ Some v) (x.def ≢ Some v) → cond c true (cond (has (option_to_list x.def) v) false (lives_from b (j + 1) v)) ≡ true → (has x.uses v ≡ true) ⊎ ((lives_from b (j + 1) v ≡ true) × (x.def ≢ Some v))
        by true e d h = inl e
        by false e (inl d) h = let z : cond true false (lives_from b (j + 1) v) ≡ true = ap (λ c. cond c false (lives_from b (j + 1) v)) (sym (is_def x.def d)) ∙ h in cc
        by false e (inr ne) h = inr (by_def (has (option_to_list x.def) v) h, ne)

    ---- An operation that isn't a call

    -- the register of its definition
    record IsFor (d r : ℕ) : Type 0 where
      in_row : r < length f.part.regs
      own : (q : ℕ) → get f.part.regs q ≡ Some d → r ≡ q

    reg_for : (d : ℕ) → IsFor d (cond (in_register f.part.regs d) (register_of d f.part.regs) (empty_or mention p f.part.regs (lowest_empty 0 f.part.regs)))
    reg_for d = by (in_register f.part.regs d) refl
      where
        absent : in_register f.part.regs d ≡ false → (r q : ℕ) → get f.part.regs q ≡ Some d → r ≡ q
        absent e r q g = let z : true ≡ false = sym (in_register_at f.part.regs q d g) ∙ e in cc

        at_empty : in_register f.part.regs d ≡ false → (o : Option ℕ) → lowest_empty 0 f.part.regs ≡ o → IsFor d (empty_or mention p f.part.regs o)
        at_empty e (Some r) q = record { in_row = (lowest_is f.part.regs r q).0; own = absent e r }
        at_empty e None q =
            let size = row.size in
            let one = full f.part.regs 0 0 q (omega (arith, size, four)) in
            let c = victim_is [] (before mention p) f.part.regs (0, (one.0, one.1, refl)) in
            record { in_row = in_row f.part.regs (victim [] (before mention p) f.part.regs) c.0 c.1; own = absent e (victim [] (before mention p) f.part.regs) }

        by : (c : Bool) → in_register f.part.regs d ≡ c → IsFor d (cond c (register_of d f.part.regs) (empty_or mention p f.part.regs (lowest_empty 0 f.part.regs)))
        by true e = record { in_row = in_row f.part.regs (register_of d f.part.regs) d (register_at f.part.regs d e); own = λ q g. row.single (register_of d f.part.regs) q d (register_at f.part.regs d e) g }
        by false e = at_empty e (lowest_empty 0 f.part.regs) refl

    can_define : is_call x.template ≡ false → CanDefine (route a.made) (operation_of x) (made_in mention p x.def f.part.regs) f.part
    can_define plain = record { plain = plain; given = given x.def refl; own = own x.def }
      where
        given : (o : Option ℕ) → x.def ≡ o → IsMadeIn room o (made_in mention p o f.part.regs)
        given None e = tt
        given (Some d) e = let m = (reg_for d).in_row in let k = row.size in (omega (arith, m, k), fit.def d e)

        own : (o : Option ℕ) → IsOwn o (made_in mention p o f.part.regs) f.part.regs
        own None = tt
        own (Some d) = λ q g. ap Some ((reg_for d).own q g)

    -- what is placed stays placed where the operation is begun, but for its definition
    begun_placed : (def place : Option ℕ) (t : BackPart) → (match_in : (d r : ℕ) → def ≡ Some d → place ≡ Some r → r < length t.regs) → (v : ℕ) → def ≢ Some v → placed (record { regs = t.regs; homed = t.homed }) v ≡ true → placed (record { regs = (begins j def place t).regs; homed = (begins j def place t).homed }) v ≡ true
    begun_placed None None t m v ne h = h
    begun_placed None (Some r) t m v ne h = h
    begun_placed (Some d) None t m v ne h = h
    begun_placed (Some d) (Some r) t m v ne h = by (get t.regs r) refl
      where
        l : r < length t.regs
        l = m d r refl refl

        at_test : (w : ℕ) → get t.regs r ≡ Some w → (c : Bool) → (w == d) ≡ c → placed (record { regs = set t.regs r None; homed = saved (cond c None (Some w)) t.homed }) v ≡ true
        at_test w e true q = ⊎_elim (λ k. in_reg (record { regs = set t.regs r None; homed = t.homed }) v (in_register_set t.regs r v None l (λ y. ne (let z : Some w ≡ Some v = sym e ∙ y in let z2 : w ≡ v = cc in ap Some (sym (numbers_same w d q) ∙ z2))) k)) (λ k. in_home (record { regs = set t.regs r None; homed = t.homed }) v k) (either (record { regs = t.regs; homed = t.homed }) v h)
        at_test w e false q = subst (λ o. placed (record { regs = set t.regs r None; homed = saved o t.homed }) v ≡ true) e (placed_emptied t.regs t.homed r v l h)

        by : (o : Option ℕ) → get t.regs r ≡ o → placed (record { regs = set t.regs r None; homed = saved (other (Some d) o) t.homed }) v ≡ true
        by None e = subst (λ o. placed (record { regs = set t.regs r None; homed = saved o t.homed }) v ≡ true) e (placed_emptied t.regs t.homed r v l h)
        by (Some w) e = at_test w e (w == d) refl

    begun_grows : (def place : Option ℕ) (t : BackPart) (v : ℕ) → has t.homed v ≡ true → has (begins j def place t).homed v ≡ true
    begun_grows None None t v h = h
    begun_grows None (Some r) t v h = h
    begun_grows (Some d) None t v h = h
    begun_grows (Some d) (Some r) t v h = has_saved (other (Some d) (get t.regs r)) t.homed v h

    -- the stage behind
    begun_stage : (def place : Option ℕ) (t : BackPart) → IsTaking (begins j def place t).stage × ((begins j def place t).stage ≡ AtEnd → ⊥) × ((y : Route) → due y j (begins j def place t).stage ≡ uses_at (slice_get y.here.ops j)) × (end_regs (begins j def place t).stage (begins j def place t) ≡ t.end) × IsEntered (begins j def place t).stage
    begun_stage None None t = (tt, (λ q. cc), (λ y. refl), refl, tt)
    begun_stage None (Some r) t = (tt, (λ q. cc), (λ y. refl), refl, tt)
    begun_stage (Some d) None t = (tt, (λ q. cc), (λ y. refl), refl, tt)
    begun_stage (Some d) (Some r) t = (tt, (λ q. cc), (λ y. refl), refl, tt)

    plain_kept : is_call x.template ≡ false → Along room b done first later ends start j (in_part (λ t. take_all mention p x.uses x.uses (defined j x.def (made_in mention p x.def t.regs) t)) f)
    unfolding op made row
    plain_kept plain =
        let place = made_in mention p x.def f.part.regs in
        let g = in_part (defined j x.def place) f in
        let frame = begun_stage x.def place (settled f.part) in
        let go : (v : ℕ) → has f.part.homed v ≡ true → has g.part.homed v ≡ true = λ v h. begun_grows x.def place (settled f.part) v h in
        let t = take_all_kept mention (route made) j p f.part.homed x.uses (λ v. (lives_from b (j + 1) v ≡ true) × (x.def ≢ Some v)) (let k = fit.few plain in k) x.uses [] g
        (λ u h. record { below = use_below u h; early = λ m. a.firsts u (use_early u h m); lives = λ q. absurd (frame.1 q); within = h })
        (record {
          sim = defines_to (route a.made) j (operation_of x) place f there a.entered (can_define plain) a.sim;
          taking = frame.0;
          kept = tt;
          covers = λ v c. begun_placed x.def place (settled f.part) (λ d r e q. in_length d r e q) v c.1 (a.covers v c.0);
          firsts = go;
          read = λ v h. cc;
        }) in
        let h = in_part (take_all mention p x.uses x.uses) g in
        let fr = take_all_frame mention p x.uses x.uses g.part in
        record {
          made = made;
          sim = subst (λ us. Simulates (route made) j us h) (sym (ap (due (route made) j) fr.0 ∙ frame.2 (route made) ∙ ap uses_at there)) t.sim;
          entered = entered_if h.part.stage t.taking;
          covers = λ v k. ⊎_elim (t.read v) (t.covers v) (lives_split v k);
          firsts = λ v k. t.firsts v (a.firsts v k);
          grown = λ v k. t.firsts v (a.grown v k);
          are_made = are_made;
          ends_are = within_end h.part.stage h.part (λ q. frame.1 (sym fr.0 ∙ q)) ∙ fr.1 ∙ sym (within_end g.part.stage g.part frame.1) ∙ frame.3 ∙ settled_end f.part.stage f.part ∙ a.ends_are;
        }
      where
        in_length : (d r : ℕ) → x.def ≡ Some d → made_in mention p x.def f.part.regs ≡ Some r → r < length f.part.regs
        in_length d r e q = by x.def e q
          where
            by : (o : Option ℕ) → o ≡ Some d → made_in mention p o f.part.regs ≡ Some r → r < length f.part.regs
            by None e q = cc
            by (Some d') e q = subst (λ y. y < length f.part.regs) (let z : cond (in_register f.part.regs d') (register_of d' f.part.regs) (empty_or mention p f.part.regs (lowest_empty 0 f.part.regs)) ≡ r = cc in z) (reg_for d').in_row

    ---- A call

    seats : List (Option ℕ)
    seats = before_call (operation_of x) (map (λ o. None) f.part.regs)

    length-seats : length seats ≡ room.regs
    unfolding seats row
    length-seats = length-before_call (operation_of x) (map (λ o. None) f.part.regs) ∙ length-map {B = Option ℕ} f.part.regs (λ o. None) ∙ row.size

    register_is : (u r : ℕ) → register_in seats u ≡ Some r → get seats r ≡ Some u
    unfolding seats
    register_is u r e = by (in_register seats u) refl e
      where
        by : (c : Bool) → in_register seats u ≡ c → cond c (Some (register_of u seats)) None ≡ Some r → get seats r ≡ Some u
        by true h q = let z : register_of u seats ≡ r = cc in ap (get seats) (sym z) ∙ register_at seats u h
        by false h q = cc

    can_call : is_call x.template ≡ true → CanCall (route a.made) (operation_of x) (map (register_in seats) x.uses) f.part.homed
    unfolding made
    can_call call = record {
      call = call;
      aimed = fit.aimed;
      enough = four;
      slots = fit.slots;
      result = fit.def;
      given = record {
        place = register_in seats;
        args_are = refl;
        apart = λ u w r e g. (let z : Some u ≡ Some w = sym (register_is u r e) ∙ register_is w r g in let y : u ≡ w = cc in y);
        below = λ u r e. (let l = in_row seats r u (register_is u r e) in let k = length-seats in omega (arith, l, k));
      };
      below = use_below;
      free = λ u h m. a.firsts u (use_early u h m);
    }

    called_placed : (v : ℕ) → lives_from b j v ≡ true → placed (record { regs = seated x.uses (map (register_in seats) x.uses) (map (λ o. None) f.part.regs); homed = unseated x.uses (map (register_in seats) x.uses) (all_saved x.def f.part.regs f.part.homed) }) v ≡ true
    called_placed v h = ⊎_elim used (λ k. behind k.0 k.1) (lives_split v h)
      where
        after : Places
        after = record { regs = seated x.uses (map (register_in seats) x.uses) (map (λ o. None) f.part.regs); homed = unseated x.uses (map (register_in seats) x.uses) (all_saved x.def f.part.regs f.part.homed) }

        by_place : has x.uses v ≡ true → (o : Option ℕ) → register_in seats v ≡ o → placed after v ≡ true
        by_place u None e = in_home after v (unseated_there (register_in seats) x.uses (all_saved x.def f.part.regs f.part.homed) v u e)
        by_place u (Some r) e = in_reg after v (in_register_at after.regs r v (seated_there (register_in seats) x.uses (map (λ o. None) f.part.regs) (λ y w s p q. let z : Some y ≡ Some w = sym (register_is y s p) ∙ register_is w s q in let k : y ≡ w = cc in k) v r u e (let l = in_row seats r v (register_is v r e) in let k = length-seats in let m = length-map {B = Option ℕ} f.part.regs (λ o. None) in let n = row.size in omega (arith, l, k, m, n))))

        used : has x.uses v ≡ true → placed after v ≡ true
        used u = by_place u (register_in seats v) refl

        behind : lives_from b (j + 1) v ≡ true → x.def ≢ Some v → placed after v ≡ true
        behind k ne = in_home after v (unseated_grows (register_in seats) x.uses (all_saved x.def f.part.regs f.part.homed) v (⊎_elim (λ r. all_saved_there x.def f.part.regs f.part.homed (register_of v f.part.regs) v (is_other x.def (get f.part.regs (register_of v f.part.regs)) v (register_at f.part.regs v r) ne)) (λ e. all_saved_grows x.def f.part.regs f.part.homed v e) (either (now_at f) v (a.covers v k))))

    called_stage : (st : Stage) → IsEntered st → Rattle.loc_back.specs.Steps.settled_stage st ≡ Done
    called_stage Behind e = absurd e
    called_stage AtEnd e = refl
    called_stage (Within y) e = refl
    called_stage Done e = refl

    call_kept : is_call x.template ≡ true → Along room b done first later ends start j (in_part (called j (operation_of x) (map (register_in seats) x.uses)) f)
    unfolding made row
    call_kept call =
        let g = in_part (called j (operation_of x) (map (register_in seats) x.uses)) f in
        let st : g.part.stage ≡ Done = called_stage f.part.stage a.entered in
        let grows : (v : ℕ) → has f.part.homed v ≡ true → has g.part.homed v ≡ true = λ v h. unseated_grows (register_in seats) x.uses (all_saved x.def f.part.regs f.part.homed) v (all_saved_grows x.def f.part.regs f.part.homed v h) in
        record {
          made = made;
          sim = subst (λ us. Simulates (route made) j us g) (sym (ap (due (route made) j) st)) (calls_to (route a.made) j (operation_of x) (map (register_in seats) x.uses) f there a.entered (can_call call) a.sim);
          entered = subst IsEntered (sym st) tt;
          covers = called_placed;
          firsts = λ v k. grows v (a.firsts v k);
          grown = λ v k. grows v (a.grown v k);
          are_made = are_made;
          ends_are = ap (λ s. end_regs s g.part) st ∙ settled_end f.part.stage f.part ∙ a.ends_are;
        }

    operate_kept : Along room b done first later ends start j (in_part (operate mention p j x) f)
    unfolding seats
    operate_kept = by (is_call x.template) refl
      where
        by : (c : Bool) → is_call x.template ≡ c → Along room b done first later ends start j (in_part (operate mention p j x) f)
        by true e = subst (λ c. Along room b done first later ends start j (in_part (λ t. cond c (call_one j x t) (take_all mention p x.uses x.uses (defined j x.def (made_in mention p x.def t.regs) t))) f)) (sym (fit.marked ∙ e)) (call_kept e)
        by false e = subst (λ c. Along room b done first later ends start j (in_part (λ t. cond c (call_one j x t) (take_all mention p x.uses x.uses (defined j x.def (made_in mention p x.def t.regs) t))) f)) (sym (fit.marked ∙ e)) (plain_kept e)

  pub operate_all_kept : (xs : List Lir) (j p : ℕ) (f : Backward) → ((i : ℕ) → slice_get b.ops (j + i) ≡ slice_get (map operation_of xs) i) → AreFitting room xs → Along room b done first later ends start (j + length xs) f → Along room b done first later ends start j (in_part (operate_all mention p j xs) f)
  operate_all_kept [] j p f at fit a = let z : j + 0 ≡ j = omega arith in subst (λ i. Along room b done first later ends start i f) z a
  operate_all_kept (x ∷ xs) j p f at fit a =
      let z : j + suc (length xs) ≡ j + 1 + length xs = omega arith in
      let rest = operate_all_kept xs (j + 1) (p + 1) f (λ i. let y : j + 1 + i ≡ j + suc i = omega arith in ap (slice_get b.ops) y ∙ at (suc i)) fit.1 (subst (λ i. Along room b done first later ends start i f) z a) in
      operate_kept j p x (let y : j + 0 ≡ j = omega arith in ap (slice_get b.ops) (sym y) ∙ at 0) fit.0 (in_part (operate_all mention (p + 1) (j + 1) xs) f) rest
