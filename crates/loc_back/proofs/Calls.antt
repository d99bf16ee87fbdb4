-- A call in front of lines that lead to a node's end.
use Rattle.std.proofs.Common.{◌≡◌, ◌≢◌, ℕ, zero, suc, ◌+◌, ◌-◌, ◌<◌, ◌≤◌, Bool, true, false, cond, List, [], ◌∷◌, ◌++◌, map, length, drop, Option, Some, None, refl, sym, ap, ap₂, ◌∙◌, subst, arith, ◌⊎◌, inl, inr, ⊎_elim}
use Rattle.std.specs.Prelude.{◌==◌, slice_get, option_to_list}
use Rattle.std.proofs.lemmas.List.{length-map}
use Rattle.block_runs.specs.Blocks.{Operation}
use Rattle.block_runs.specs.Live.{has}
use Rattle.lir_core.specs.declared.places.Place.{Place}
use Rattle.lir_core.specs.declared.places.Place.TheVariants.{Reg, Home, Out}
use Rattle.lir_core.specs.declared.places.Places.{Places}
use Rattle.lir_core.specs.declared.places.Line.{Line}
use Rattle.lir_core.specs.declared.places.Line.TheVariants.{Store, Moves, Target, Result}
use Rattle.lir_core.specs.declared.places.Line.TheVariants.{Lir as Does}
use Rattle.lir_core.specs.Spots.{Spot, reg, home, target, same, spot, get, in_register}
use Rattle.lir_core.specs.Lines.{is_aimed, arguments, argument_spots, Room, InRange}
use Rattle.lir_core.specs.Walks.{Walker, Below, after, left, without, defined}
use Rattle.loc_state.specs.Registers.{register_of}
use Rattle.loc_state.specs.Lines.{place_of, argument_moves, aims, moves, call_lines}
use Rattle.loc_state.proofs.Calling.{distinct_moves, other_source, AllStand, arguments_stand, all_taken, all_stand}
use Rattle.loc_state.proofs.Keeping.{stays, perform_if}
use Rattle.loc_state.proofs.Numbers.{numbers_same, test_same, test_apart, or_rest, get_emptied, in_row, in_register_at, register_at}
use Rattle.loc_back.specs.declared.part.Loading.{Loading}
use Rattle.loc_back.specs.declared.part.BackPart.{BackPart}
use Rattle.loc_back.specs.Steps.{storing, loading, leaving, other, result_stored, result_in, result_moved, reload, reloads, all_saved, seated, unseated, behind_call, emptied, reading, written}
use Rattle.loc_back.specs.Served.{Section, lives_from, wanted, Leads, Serves, Extends, with_homed, Route, MayBeHomed, IsStanding, Backed, or_first, loaded, CanCall, with_def}
use Rattle.loc_back.proofs.Leading.{is_or_not, lives_before, used_lives, AreHomed, taken_from, loads_lead, kept_reg, kept_homes, store_leads}
use Rattle.loc_back.proofs.Turning.{front}
use Rattle.loc_back.proofs.Standing.{extends_less, extends_made, same_mark}
use Rattle.loc_back.proofs.GivenSeats.{seated_was, seated_there, unseated_grows, unseated_there, unseated_was, all_saved_grows, all_saved_there, all_saved_was, other_is, is_other}
use Rattle.loc_back.proofs.Seats.{length-seated}
use Rattle.loc_state.proofs.Calling.{home_apart}
use Rattle.loc_state.proofs.Calling.{target_apart}
use Rattle.loc_state.proofs.Calling.{taken_target}

---- Spots of arguments

place_apart : (p : Place) → same (spot p) target ≡ false
place_apart (Reg r) = refl
place_apart (Home v) = refl
place_apart (Out s) = refl

---- The lines before a call

-- behind them a walk has come no farther, homes are what they were, and the uses stand where the call reads them
record IsReady (w : Walker) (spots : List Spot) (us : List ℕ) (z : Walker) : Type 0 where
  next : z.next ≡ w.next
  named : z.named ≡ w.named
  homes : (v : ℕ) → z.view (home v) ≡ w.view (home v)
  reads : map z.view spots ≡ map Some us

module _ (room : Room) (b : Section) (end : Places) (from : ℕ → Place) (four : 4 ≤ room.regs) where
  moves_lead : (us : List ℕ) (rest : List Line) (w : Walker) → length us ≤ 4 + room.slots → AllStand from room w.view us → ((z : Walker) → IsReady w (argument_spots 0 us) us z → z.view target ≡ w.view target → Leads room b end rest z) → Leads room b end (moves from us ++ rest) w
  moves_lead [] rest w few stand on = on w (record { next = refl; named = refl; homes = λ v. refl; reads = refl }) refl
  moves_lead (u ∷ us) rest w few stand on =
      let ms = argument_moves from 0 (u ∷ us) in
      let z = after b.ops (Moves ms) w in
      let lead = on z (record { next = refl; named = refl; homes = λ v. ap w.view (other_source from (u ∷ us) 0 (home v) (λ j _. home_apart v j)); reads = arguments_stand from room w.view (u ∷ us) 0 stand }) (ap w.view (other_source from (u ∷ us) 0 target (λ j _. target_apart j))) in
      (((distinct_moves from (u ∷ us) 0, all_taken from room w.view (u ∷ us) 0 four (omega (arith, few)) stand), lead.0), lead.1)

  -- the spots that a call reads, and its lines, where it is known whether it has a target
  abbrev pub read_if : Bool → List ℕ → List Spot
  read_if aimed us = cond aimed (target ∷ argument_spots 0 (drop 1 us)) (argument_spots 0 us)

  abbrev pub lines_if : Bool → List ℕ → List Line
  lines_if aimed us = cond aimed (aims from us) [] ++ moves from (cond aimed (drop 1 us) us)

  lines_lead : (aimed : Bool) (us : List ℕ) (rest : List Line) (w : Walker) → (aimed ≡ true → 1 ≤ length us) → length (cond aimed (drop 1 us) us) - 4 ≤ room.slots → ((u : ℕ) → has us u ≡ true → (w.view (spot (from u)) ≡ Some u) × InRange room (spot (from u))) → ((z : Walker) → IsReady w (read_if aimed us) us z → Leads room b end rest z) → Leads room b end (lines_if aimed us ++ rest) w
  lines_lead false us rest w some few stand on = moves_lead us rest w (omega (arith, few)) (all_stand from room w.view us stand) (λ z r t. on z r)
  lines_lead true [] rest w some few stand on = absurd (let l = some refl in omega (arith, l))
  lines_lead true (u ∷ us) rest w some few stand on =
      let here = stand u (ap (λ c. cond c true (has us u)) (test_same u)) in
      let y = after b.ops (Target (from u)) w in
      let stand' : (v : ℕ) → has us v ≡ true → (y.view (spot (from v)) ≡ Some v) × InRange room (spot (from v)) = λ v h. (let m = stand v (or_rest (u == v) (has us v) h) in (ap (λ c. w.view (cond c (spot (from u)) (spot (from v)))) (place_apart (from v)) ∙ m.0, m.1)) in
      let lead = moves_lead us rest y (omega (arith, few)) (all_stand from room y.view us stand') (λ z r t. on z (record { next = r.next; named = r.named; homes = r.homes; reads = ap₂ (λ (x : Option ℕ) (ys : List (Option ℕ)). x ∷ ys) (t ∙ here.0) r.reads })) in
      (((here.1, taken_target room u (w.view (spot (from u))) here.0), lead.0), lead.1)

---- The lines behind a call

-- the registers that are loaded
abbrev pub reload_list : Option ℕ → ℕ → List (Option ℕ) → List Loading
reload_list def r [] = []
reload_list def r (o ∷ os) = leaving r (other def o) ++ reload_list def (suc r) os

reloads_is : (def : Option ℕ) (r : ℕ) (os : List (Option ℕ)) (lines : List Line) → reloads def r os lines ≡ loading (reload_list def r os) lines
reloads_is def r [] lines = refl
reloads_is def r (o ∷ os) lines = ap (reload r (other def o)) (reloads_is def (suc r) os lines) ∙ by (other def o)
  where
    by : (c : Option ℕ) → reload r c (loading (reload_list def (suc r) os) lines) ≡ loading (leaving r c ++ reload_list def (suc r) os) lines
    by None = refl
    by (Some v) = refl

loaded_low : (def : Option ℕ) (i : ℕ) (os : List (Option ℕ)) (p : ℕ) → p < i → loaded (reload_list def i os) p ≡ None
loaded_low def i [] p l = refl
loaded_low def i (o ∷ os) p l = by (other def o) (loaded_low def (suc i) os p (omega (arith, l)))
  where
    by : (c : Option ℕ) → loaded (reload_list def (suc i) os) p ≡ None → loaded (leaving i c ++ reload_list def (suc i) os) p ≡ None
    by None e = e
    by (Some v) e = ap₂ (λ x t. or_first x (cond t (Some v) None)) e (test_apart p i (λ q. absurd (omega (arith, l, q))))

loaded_is : (def : Option ℕ) (os : List (Option ℕ)) (i j : ℕ) → loaded (reload_list def i os) (i + j) ≡ other def (get os j)
loaded_is None [] i j = refl
loaded_is (Some d) [] i j = refl
loaded_is def (o ∷ os) i zero = by (other def o) (loaded_low def (suc i) os (i + 0) (omega arith))
  where
    by : (c : Option ℕ) → loaded (reload_list def (suc i) os) (i + 0) ≡ None → loaded (leaving i c ++ reload_list def (suc i) os) (i + 0) ≡ c
    by None e = e
    by (Some v) e = ap₂ (λ x t. or_first x (cond t (Some v) None)) e (let z : i + 0 ≡ i = omega arith in ap (λ y. y == i) z ∙ test_same i)
loaded_is def (o ∷ os) i (suc j) = by (other def o) (let z : suc i + j ≡ i + suc j = omega arith in ap (loaded (reload_list def (suc i) os)) (sym z) ∙ loaded_is def os (suc i) j)
  where
    or_none : (a : Option ℕ) → or_first a None ≡ a
    or_none None = refl
    or_none (Some y) = refl

    by : (c : Option ℕ) → loaded (reload_list def (suc i) os) (i + suc j) ≡ other def (get os j) → loaded (leaving i c ++ reload_list def (suc i) os) (i + suc j) ≡ other def (get os j)
    by None e = e
    by (Some v) e = ap (λ t. or_first (loaded (reload_list def (suc i) os) (i + suc j)) (cond t (Some v) None)) (test_apart (i + suc j) i (λ q. absurd (omega (arith, q)))) ∙ or_none (loaded (reload_list def (suc i) os) (i + suc j)) ∙ e

all_homed : (room : Room) (view : Spot → Option ℕ) (def : Option ℕ) (os : List (Option ℕ)) (i : ℕ) → i + length os ≤ room.regs → ((j v : ℕ) → other def (get os j) ≡ Some v → (v < room.values) × (view (home v) ≡ Some v)) → AreHomed room view (reload_list def i os)
all_homed room view def [] i l h = tt
all_homed room view def (o ∷ os) i l h = by (other def o) (h 0) (all_homed room view def os (suc i) (omega (arith, l)) (λ j. h (suc j)))
  where
    by : (c : Option ℕ) → ((v : ℕ) → c ≡ Some v → (v < room.values) × (view (home v) ≡ Some v)) → AreHomed room view (reload_list def (suc i) os) → AreHomed room view (leaving i c ++ reload_list def (suc i) os)
    by None g rest = rest
    by (Some v) g rest = let m = g v refl in (omega (arith, l), m.0, m.1, rest)

module _ (room : Room) (b : Section) (end : Places) (marks : ℕ → Bool) (n : ℕ) (def : Option ℕ) (homed named : List ℕ) (regs : List (Option ℕ)) (lines : List Line) (size : length regs ≡ room.regs) (four : 4 ≤ room.regs) (single : Rattle.lir_core.specs.Spots.IsSingle regs) (values : (r v : ℕ) → get regs r ≡ Some v → v < room.values) (living : (r v : ℕ) → get regs r ≡ Some v → lives_from b (n + 1) v ≡ true) (marked : (r v : ℕ) → other def (get regs r) ≡ Some v → marks v ≡ true) (value : (d : ℕ) → def ≡ Some d → d < room.values) (stored : (d : ℕ) → def ≡ Some d → has homed d ≡ marks d) (serves : Serves room b end lines named (n + 1) (wanted marks (lives_from b (n + 1)) regs)) where
  abbrev HasHomes : (Spot → Option ℕ) → Type 0
  HasHomes view = (v : ℕ) → lives_from b (n + 1) v ≡ true → marks v ≡ true → view (home v) ≡ Some v

  -- the other registers are loaded, the definition's has it already
  reloads_lead : (w : Walker) → w.next ≡ n + 1 → w.named ≡ named → HasHomes w.view → ((r v : ℕ) → get regs r ≡ Some v → def ≡ Some v → w.view (reg r) ≡ Some v) → Leads room b end (reloads def 0 regs lines) w
  reloads_lead w x y homes here =
      subst (λ ls. Leads room b end ls w) (sym (reloads_is def 0 regs lines))
      (loads_lead room b end lines named (n + 1) marks (lives_from b (n + 1)) regs serves (reload_list def 0 regs) w x y
      (all_homed room w.view def regs 0 (omega (arith, size)) (λ j v e. let m = other_is def (get regs j) v e in (values j v m.0, homes v (living j v m.0) (marked j v e))))
      (λ r v e. subst (λ o. taken_from o w.view r ≡ Some v) (sym (let z : 0 + r ≡ r = omega arith in ap (loaded (reload_list def 0 regs)) (sym z) ∙ loaded_is def regs 0 r)) (from r v e (is_or_not def v)))
      homes)
    where
      none : (d : Option ℕ) (r v : ℕ) → get regs r ≡ Some v → d ≡ Some v → other d (get regs r) ≡ None
      none None r v e q = cc
      none (Some d) r v e q = ap (without d) e ∙ ap (λ c. cond c None (Some v)) (let z : d ≡ v = cc in ap (λ y. v == y) z ∙ test_same v)

      from : (r v : ℕ) → get regs r ≡ Some v → ◌⊎◌ (def ≡ Some v) (def ≢ Some v) → taken_from (other def (get regs r)) w.view r ≡ Some v
      from r v e (inl q) = subst (λ o. taken_from o w.view r ≡ Some v) (sym (none def r v e q)) (here r v e q)
      from r v e (inr ne) = let o = is_other def (get regs r) v e ne in subst (λ c. taken_from c w.view r ≡ Some v) (sym o) (homes v (living r v e) (marked r v o))

  -- the result goes from X0 to its register, if it has one
  moved_lead : (d : ℕ) → def ≡ Some d → (w : Walker) → w.next ≡ n + 1 → w.named ≡ named → HasHomes w.view → w.view (reg 0) ≡ Some d → Leads room b end (result_moved regs (Some d) (reloads def 0 regs lines)) w
  moved_lead d is w x y homes first = by (in_register regs d) refl
    where
      def_is : (v : ℕ) → def ≡ Some v → d ≡ v
      def_is v q = let z : Some d ≡ Some v = sym is ∙ q in cc

      at_reg : in_register regs d ≡ true → (c : Bool) → (register_of d regs == 0) ≡ c → Leads room b end (cond c (reloads def 0 regs lines) (Result (register_of d regs) ∷ reloads def 0 regs lines)) w
      at_reg e true q = reloads_lead w x y homes (λ s v g h. (let z : s ≡ register_of d regs = single s (register_of d regs) v g (register_at regs d e ∙ ap Some (def_is v h)) in ap (λ k. w.view (reg k)) (z ∙ numbers_same (register_of d regs) 0 q) ∙ first ∙ ap Some (def_is v h)))
      at_reg e false q =
          let w' = after b.ops (Result (register_of d regs)) w in
          let lead = reloads_lead w' x y homes (λ s v g h. (let z : s ≡ register_of d regs = single s (register_of d regs) v g (register_at regs d e ∙ ap Some (def_is v h)) in
          ap (λ k. w'.view (reg k)) z ∙ ap (λ c. cond c None (w.view (cond (register_of d regs == register_of d regs) (reg 0) (reg (register_of d regs))))) q ∙ ap (λ c. w.view (cond c (reg 0) (reg (register_of d regs)))) (test_same (register_of d regs)) ∙ first ∙ ap Some (def_is v h))) in
          ((let l = in_row regs (register_of d regs) d (register_at regs d e) in omega (arith, l, size), lead.0), lead.1)

      by : (c : Bool) → in_register regs d ≡ c → Leads room b end (cond c (result_in regs d (reloads def 0 regs lines)) (reloads def 0 regs lines)) w
      by true e = at_reg e (register_of d regs == 0) refl
      by false e = reloads_lead w x y homes (λ s v g h. (let z : true ≡ false = sym (in_register_at regs s d (g ∙ ap Some (sym (def_is v h)))) ∙ e in cc))

  stored_is : (d : ℕ) (m : Bool) (ls : List Line) → storing (Some 0) (cond m (Some d) None) ls ≡ cond m (Store 0 d ∷ ls) ls
  stored_is d true ls = refl
  stored_is d false ls = refl

  -- behind the call
  pub behind_leads : (w : Walker) → w.next ≡ n + 1 → w.named ≡ named → ((v : ℕ) → lives_from b (n + 1) v ≡ true → marks v ≡ true → def ≢ Some v → w.view (home v) ≡ Some v) → ((d : ℕ) → def ≡ Some d → w.view (reg 0) ≡ Some d) → Leads room b end (result_stored homed def (result_moved regs def (reloads def 0 regs lines))) w
  behind_leads w x y homes first = by def refl
    where
      by : (o : Option ℕ) → def ≡ o → Leads room b end (result_stored homed o (result_moved regs o (reloads def 0 regs lines))) w
      by None e = reloads_lead w x y (λ v a m. homes v a m (λ q. let z : None ≡ Some v = sym e ∙ q in cc)) (λ r v g q. let z : None ≡ Some v = sym e ∙ q in cc)
      by (Some d) e =
          subst (λ ls. Leads room b end ls w) (stored_is d (has homed d) (result_moved regs (Some d) (reloads def 0 regs lines)))
          (store_leads room b end (result_moved regs (Some d) (reloads def 0 regs lines)) 0 d (has homed d) w (omega (arith, four)) (value d e) (first d e)
          (λ z zn zm zv. moved_lead d e z (zn ∙ x) (zm ∙ y) (λ v a m. zv (home v) ∙ kept_homes 0 d w.view marks (lives_from b (n + 1)) (first d e) (λ u c k ne. homes u c k (λ q. ne (let t : Some d ≡ Some u = sym e ∙ q in let t' : d ≡ u = cc in t'))) (has homed d) (sym (stored d e)) v a m) (zv (reg 0) ∙ kept_reg (has homed d) 0 d w.view 0 ∙ first d e)))

---- The call

module _ (x : Route) (n : ℕ) (op : Operation) (args : List (Option ℕ)) (t : BackPart) (there : slice_get x.here.ops n ≡ Some op) (can : CanCall x op args t.homed) (s : Backed x (n + 1) t) where
  place : ℕ → Option ℕ
  place = can.given.place

  empty : List (Option ℕ)
  empty = map (λ o. None) t.regs

  -- the registers and homes before the call
  regs : List (Option ℕ)
  regs = seated op.uses (map place op.uses) empty

  homed : List ℕ
  homed = unseated op.uses (map place op.uses) (all_saved op.def t.regs t.homed)

  length_empty : length empty ≡ x.room.regs
  unfolding empty
  length_empty = length-map {B = Option ℕ} t.regs (λ o. None) ∙ s.row.size

  given_it : (r v : ℕ) → get regs r ≡ Some v → (has op.uses v ≡ true) × (place v ≡ Some r)
  unfolding empty regs place
  given_it r v e = ⊎_elim (λ m. m) (λ q. absurd (get_emptied t.regs r v q)) (seated_was can.given.place op.uses empty r v e)

  it_is : (u r : ℕ) → has op.uses u ≡ true → place u ≡ Some r → get regs r ≡ Some u
  unfolding empty regs place
  it_is u r h e = seated_there can.given.place op.uses empty can.given.apart u r h e (let l = can.given.below u r e in let k = length_empty in omega (arith, l, k))

  grows : (v : ℕ) → has t.homed v ≡ true → has homed v ≡ true
  unfolding homed place
  grows v h = unseated_grows can.given.place op.uses (all_saved op.def t.regs t.homed) v (all_saved_grows op.def t.regs t.homed v h)

  saved_there : (r v : ℕ) → other op.def (get t.regs r) ≡ Some v → has homed v ≡ true
  unfolding homed place
  saved_there r v e = unseated_grows can.given.place op.uses (all_saved op.def t.regs t.homed) v (all_saved_there op.def t.regs t.homed r v e)

  homed_there : (u : ℕ) → has op.uses u ≡ true → place u ≡ None → has homed u ≡ true
  unfolding homed place
  homed_there u h e = unseated_there can.given.place op.uses (all_saved op.def t.regs t.homed) u h e

  unmade : (v : ℕ) → op.def ≢ Some v → has (option_to_list op.def ++ x.made) v ≡ true → has x.made v ≡ true
  unmade v ne h = by op.def ne h
    where
      by : (o : Option ℕ) → o ≢ Some v → has (option_to_list o ++ x.made) v ≡ true → has x.made v ≡ true
      by None ne h = h
      by (Some d) ne h = sym (ap (λ c. cond c true (has x.made v)) (test_apart d v (λ q. ne (ap Some q)))) ∙ h

  made_more : (v : ℕ) → has x.made v ≡ true → has (option_to_list op.def ++ x.made) v ≡ true
  made_more v h = by op.def
    where
      by : (o : Option ℕ) → has (option_to_list o ++ x.made) v ≡ true
      by None = h
      by (Some d) = or_rest (d == v) (has x.made v) h

  -- all that joins may be homed
  may_join : (v : ℕ) → has homed v ≡ true → MayBeHomed (option_to_list op.def ++ x.made) t.homed v
  unfolding homed place
  may_join v h = ⊎_elim (λ k. ⊎_elim (λ g m. g) (λ m. (let o = other_is op.def (get t.regs m.0) v m.1 in λ made. s.row.free m.0 v o.0 (unmade v o.1 made))) (all_saved_was op.def t.regs t.homed v k)) (λ u. can.free v u) (unseated_was can.given.place op.uses (all_saved op.def t.regs t.homed) v h)

  row : IsStanding (with_def op.def x) homed regs
  unfolding empty regs place
  row = record {
    size = length-seated op.uses (map can.given.place op.uses) empty ∙ length_empty;
    single = λ r q v a b. (let m = given_it r v a in let k = given_it q v b in let z : Some r ≡ Some q = sym m.1 ∙ k.1 in let y : r ≡ q = cc in y);
    values = λ r v a. can.below v (given_it r v a).0;
    free = λ r v a made. grows v (can.free v (given_it r v a).0 made);
  }

  -- a use stands where it is taken from
  stands : (marks : ℕ → Bool) → ((v : ℕ) → has homed v ≡ true → marks v ≡ true) → (view : Spot → Option ℕ) → Below (wanted marks (lives_from x.here n) regs) view → (u : ℕ) → has op.uses u ≡ true → (view (spot (place_of regs u)) ≡ Some u) × InRange x.room (spot (place_of regs u))
  stands marks grown view wants u h = by (in_register regs u) refl
    where
      at_place : in_register regs u ≡ false → (o : Option ℕ) → place u ≡ o → has homed u ≡ true
      at_place e None q = homed_there u h q
      at_place e (Some r) q = let z : true ≡ false = sym (in_register_at regs r u (it_is u r h q)) ∙ e in cc

      by : (c : Bool) → in_register regs u ≡ c → (view (spot (cond c (Reg (register_of u regs)) (Home u))) ≡ Some u) × InRange x.room (spot (cond c (Reg (register_of u regs)) (Home u)))
      by true e = (wants (reg (register_of u regs)) u (register_at regs u e), (let l = in_row regs (register_of u regs) u (register_at regs u e) in let k = row.size in omega (arith, l, k)))
      by false e = (wants (home u) u (ap (λ c. cond c (cond (marks u) (Some u) None) None) (used_lives x.here n op there u h) ∙ ap (λ c. cond c (Some u) None) (grown u (at_place e (place u) refl))), can.below u h)

  serves : (marks : ℕ → Bool) → Extends (option_to_list op.def ++ x.made) homed marks → (homes : List ℕ) → Rattle.loc_back.specs.Served.AreMarked marks x.here.after homes → Serves x.room x.here (with_homed t.end homes) (call_lines (place_of regs) op ++ Does n ∷ behind_call op.def t) t.named n (wanted marks (lives_from x.here n) regs)
  serves marks ext homes marked w wn wm wants =
      let first = extends_less (option_to_list op.def ++ x.made) t.homed homed marks grows may_join ext in
      lines_lead x.room x.here (with_homed t.end homes) (place_of regs) can.enough (is_aimed op.code) op.uses (Does n ∷ behind_call op.def t) w can.aimed few (λ u h. stands marks ext.grown w.view wants u h)
      (λ z r. front x.room x.here (with_homed t.end homes) n op there true can.call (behind_call op.def t) z (sym (r.next ∙ wn), omega arith, tt, r.reads)
      (behind_leads x.room x.here (with_homed t.end homes) marks n op.def t.homed t.named t.regs t.lines s.row.size can.enough s.row.single s.row.values s.living
      (λ q v e. ext.grown v (saved_there q v e)) can.result (λ d e. same_mark (option_to_list op.def ++ x.made) t.homed marks first d (is_made op.def d e))
      (s.serves marks (extends_made x.made (option_to_list op.def ++ x.made) t.homed marks made_more first) homes marked)
      (perform_if true op z) (let a = r.next in omega (arith, a, wn)) (r.named ∙ wm)
      (λ v a m ne. home_left op.def z.view v (r.homes v ∙ wants (home v) v (ap (λ c. cond c (cond (marks v) (Some v) None) None) (lives_before x.here n op there v ne a) ∙ ap (λ c. cond c (Some v) None) m)) ne)
      (λ d e. result_there op.def z.view d e)))
    where
      few : length (cond (is_aimed op.code) (drop 1 op.uses) op.uses) - 4 ≤ x.room.slots
      few = subst (λ c. cond c (length (arguments op) - 4) 0 ≤ x.room.slots) can.call can.slots

      is_made : (o : Option ℕ) (d : ℕ) → o ≡ Some d → has (option_to_list o ++ x.made) d ≡ true
      is_made None d e = cc
      is_made (Some c) d e = let y : c ≡ d = cc in ap (λ b. cond b true (has x.made d)) (ap (λ y. y == d) y ∙ test_same d)

      home_left : (o : Option ℕ) (view : Spot → Option ℕ) (v : ℕ) → view (home v) ≡ Some v → o ≢ Some v → defined o (reg 0) (left true view) (home v) ≡ Some v
      home_left None view v e ne = e
      home_left (Some d) view v e ne = stays d v (view (home v)) e (λ q. ne (ap Some (sym q)))

      result_there : (o : Option ℕ) (view : Spot → Option ℕ) (d : ℕ) → o ≡ Some d → defined o (reg 0) (left true view) (reg 0) ≡ Some d
      result_there None view d e = cc
      result_there (Some c) view d e = e

  called_there : Backed (with_def op.def x) n (record t { regs = regs; homed = homed; lines = call_lines (place_of regs) op ++ Does n ∷ behind_call op.def t })
  called_there = record { row = row; living = λ r v e. used_lives x.here n op there v (given_it r v e).0; serves = serves }

  pub called_backed : Backed (with_def op.def x) n (written n op (reading op args (emptied op.def t)))
  unfolding regs homed empty place
  called_backed = subst (λ rs. Backed (with_def op.def x) n (written n op (reading op rs (emptied op.def t)))) (sym can.given.args_are) called_there
