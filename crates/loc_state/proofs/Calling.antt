-- A call's target and arguments stand where it reads them, and it keeps homes alone.
use Rattle.std.proofs.Common.{◌≡◌, ◌≢◌, ℕ, zero, suc, ◌+◌, ◌-◌, ◌<◌, ◌≤◌, Bool, true, false, cond, List, [], ◌∷◌, ◌++◌, map, length, drop, Option, Some, None, refl, sym, ap, ap₂, ◌∙◌, subst, arith, length-set, inl, inr, ◌⊎◌, append_assoc}
use Rattle.std.specs.Prelude.{◌==◌, slice_get}
use Rattle.std.proofs.lemmas.List.{drop_all, length-map}
use Rattle.block_runs.specs.Blocks.{Operation}
use Rattle.block_runs.specs.Live.{has}
use Rattle.lir_core.specs.declared.places.Place.{Place}
use Rattle.lir_core.specs.declared.places.Place.TheVariants.{Reg, Home, Out}
use Rattle.lir_core.specs.declared.places.Places.{Places}
use Rattle.lir_core.specs.declared.places.Line.{Line}
use Rattle.lir_core.specs.declared.places.Line.TheVariants.{Moves, Target}
use Rattle.lir_core.specs.declared.places.Line.TheVariants.{Lir as Does}
use Rattle.lir_core.specs.Spots.{Spot, reg, home, out, target, saved, same, spot, source, get, view_of, placed, in_register}
use Rattle.lir_core.specs.Lines.{is_aimed, arguments, argument_spot, argument_spots, IsFree, AreDistinct, Room, InRange, AllBelow, argument_place}
use Rattle.lir_core.specs.Walks.{Walker, Can, AllTaken, Taken, left, without, defined, perform, after, Below}
use Rattle.loc_state.specs.declared.part.Part.{Part}
use Rattle.loc_state.specs.Registers.{register_of}
use Rattle.loc_state.specs.Lines.{place_of, argument_moves, aims, moves, call_lines}
use Rattle.loc_state.specs.Steps.{places, with_result, keeps_one, keeps_all, called_from, called}
use Rattle.loc_state.specs.Steps as steps
use Rattle.loc_state.specs.Walked.{Reaches, AreValues, Stands, Walked, IsAbsent, CanCall}
use Rattle.loc_state.proofs.Frame.{reaches_line}
use Rattle.loc_state.proofs.Homing.{has_inserted}
use Rattle.loc_state.proofs.Keeping.{is_marked, marked, stays, CanIf, perform_if}
use Rattle.loc_state.proofs.Numbers.{numbers_same, test_same, get_set, get_emptied, or_rest, nothing, append_nil, in_row, register_at, in_register_at, either, in_reg, in_home}
use Rattle.loc_state.proofs.Stepping.{keeps_all_kept}

pub place_spot : (i : ℕ) → spot (argument_place i) ≡ argument_spot i
place_spot zero = refl
place_spot (suc zero) = refl
place_spot (suc (suc zero)) = refl
place_spot (suc (suc (suc zero))) = refl
place_spot (suc (suc (suc (suc i)))) = refl

-- the place of an argument's spot
number : Spot → ℕ
number (reg r) = r
number (out s) = suc (suc (suc (suc s)))
number (home v) = 0
number target = 0
number saved = 0

number_is : (i : ℕ) → number (argument_spot i) ≡ i
unfolding number
number_is zero = refl
number_is (suc zero) = refl
number_is (suc (suc zero)) = refl
number_is (suc (suc (suc zero))) = refl
number_is (suc (suc (suc (suc i)))) = refl

same_number : (p q : Spot) → same p q ≡ true → number p ≡ number q
unfolding number
same_number (reg a) (reg b) e = numbers_same a b e
same_number (out a) (out b) e = ap (λ n. suc (suc (suc (suc n)))) (numbers_same a b e)
same_number (home a) (home b) e = refl
same_number target target e = refl
same_number saved saved e = refl
same_number (reg a) (home b) e = cc
same_number (reg a) (out b) e = cc
same_number (reg a) target e = cc
same_number (reg a) saved e = cc
same_number (home a) (reg b) e = cc
same_number (home a) (out b) e = cc
same_number (home a) target e = cc
same_number (home a) saved e = cc
same_number (out a) (reg b) e = cc
same_number (out a) (home b) e = cc
same_number (out a) target e = cc
same_number (out a) saved e = cc
same_number target (reg b) e = cc
same_number target (home b) e = cc
same_number target (out b) e = cc
same_number target saved e = cc
same_number saved (reg b) e = cc
same_number saved (home b) e = cc
same_number saved (out b) e = cc
same_number saved target e = cc

pub spots_apart : (i j : ℕ) → i ≢ j → same (argument_spot i) (argument_spot j) ≡ false
spots_apart i j ne = at_test (same (argument_spot i) (argument_spot j)) refl
  where
    at_test : (b : Bool) → same (argument_spot i) (argument_spot j) ≡ b → b ≡ false
    at_test false e = refl
    at_test true e = absurd (ne (sym (number_is i) ∙ same_number (argument_spot i) (argument_spot j) e ∙ number_is j))

self_same : (i : ℕ) → same (argument_spot i) (argument_spot i) ≡ true
self_same zero = refl
self_same (suc zero) = refl
self_same (suc (suc zero)) = refl
self_same (suc (suc (suc zero))) = refl
self_same (suc (suc (suc (suc i)))) = test_same i

pub target_apart : (j : ℕ) → same target (argument_spot j) ≡ false
target_apart zero = refl
target_apart (suc zero) = refl
target_apart (suc (suc zero)) = refl
target_apart (suc (suc (suc zero))) = refl
target_apart (suc (suc (suc (suc j)))) = refl

pub home_apart : (v j : ℕ) → same (home v) (argument_spot j) ≡ false
home_apart v zero = refl
home_apart v (suc zero) = refl
home_apart v (suc (suc zero)) = refl
home_apart v (suc (suc (suc zero))) = refl
home_apart v (suc (suc (suc (suc j)))) = refl

---- Moves

module _ (from : ℕ → Place) where
  free : (us : List ℕ) (i j : ℕ) → i < j → IsFree (spot (argument_place i)) (argument_moves from j us)
  free [] i j l = tt
  free (u ∷ us) i j l = (ap₂ same (place_spot i) (place_spot j) ∙ spots_apart i j (λ e. absurd (omega (arith, l, e))), free us i (suc j) (omega (arith, l)))

  pub distinct_moves : (us : List ℕ) (i : ℕ) → AreDistinct (argument_moves from i us)
  distinct_moves [] i = tt
  distinct_moves (u ∷ us) i = (free us i (suc i) (omega arith), distinct_moves us (suc i))

  -- spots that take no argument keep what they have
  pub other_source : (us : List ℕ) (i : ℕ) (p : Spot) → ((j : ℕ) → i ≤ j → same p (argument_spot j) ≡ false) → source (argument_moves from i us) p ≡ p
  other_source [] i p off = refl
  other_source (u ∷ us) i p off = ap (λ b. cond b (spot (from u)) (source (argument_moves from (suc i) us) p)) (ap (same p) (place_spot i) ∙ off i (omega arith)) ∙ other_source us (suc i) p (λ j l. off j (omega (arith, l)))

  module _ (room : Room) (view : Spot → Option ℕ) where
    -- the values stand where they are taken from
    pub AllStand : List ℕ → Type 0
    AllStand [] = Unit {0}
    AllStand (u ∷ us) = (view (spot (from u)) ≡ Some u) × InRange room (spot (from u)) × AllStand us

    skip : (us vs : List ℕ) (u i j : ℕ) → i < j → map (λ p. view (source (argument_moves from i (u ∷ us)) p)) (argument_spots j vs) ≡ map (λ p. view (source (argument_moves from (suc i) us) p)) (argument_spots j vs)
    skip us [] u i j l = refl
    skip us (v ∷ vs) u i j l = ap₂ (λ (x : Option ℕ) (y : List (Option ℕ)). x ∷ y) (ap (λ b. view (cond b (spot (from u)) (source (argument_moves from (suc i) us) (argument_spot j)))) (ap (same (argument_spot j)) (place_spot i) ∙ spots_apart j i (λ e. absurd (omega (arith, l, e))))) (skip us vs u i (suc j) (omega (arith, l)))

    -- the arguments stand in their places
    pub arguments_stand : (us : List ℕ) (i : ℕ) → AllStand us → map (λ p. view (source (argument_moves from i us) p)) (argument_spots i us) ≡ map Some us
    unfolding AllStand
    arguments_stand [] i h = refl
    arguments_stand (u ∷ us) i h = ap₂ (λ (x : Option ℕ) (y : List (Option ℕ)). x ∷ y) (ap (λ b. view (cond b (spot (from u)) (source (argument_moves from (suc i) us) (argument_spot i)))) (ap (same (argument_spot i)) (place_spot i) ∙ self_same i) ∙ h.0) (skip us us u i (suc i) (omega arith) ∙ arguments_stand us (suc i) h.2)

    -- each move can be made
    pub all_taken : (us : List ℕ) (i : ℕ) → 4 ≤ room.regs → i + length us ≤ 4 + room.slots → AllStand us → AllTaken room view (argument_moves from i us)
    unfolding AllStand
    all_taken [] i l m h = tt
    all_taken (u ∷ us) i l m h = (h.1, subst (Taken room (spot (argument_place i))) (sym h.0) (taken i (omega (arith, m))), all_taken us (suc i) l (omega (arith, m)) h.2)
      where
        taken : (i : ℕ) → i < 4 + room.slots → Taken room (spot (argument_place i)) (Some u)
        taken zero q = omega (arith, l)
        taken (suc zero) q = omega (arith, l)
        taken (suc (suc zero)) q = omega (arith, l)
        taken (suc (suc (suc zero))) q = omega (arith, l)
        taken (suc (suc (suc (suc i)))) q = omega (arith, q)

    pub all_stand : (us : List ℕ) → ((u : ℕ) → has us u ≡ true → (view (spot (from u)) ≡ Some u) × InRange room (spot (from u))) → AllStand us
    unfolding AllStand
    all_stand [] h = tt
    all_stand (u ∷ us) h = let m = h u (ap (λ b. cond b true (has us u)) (test_same u)) in (m.0, m.1, all_stand us (λ w e. h w (or_rest (u == w) (has us w) e)))

---- The lines of a call

-- what stands in a place that was taken for a value
stands_there : (room : Room) (n : ℕ) (noted : List ℕ) (t : Part) (z : Walker) → Stands room n noted (places t) z → (u : ℕ) → placed (places t) u ≡ true → z.view (spot (place_of t.regs u)) ≡ Some u
stands_there room n noted t z s u p = at_test (in_register t.regs u) refl
  where
    at_test : (b : Bool) → in_register t.regs u ≡ b → z.view (spot (cond b (Reg (register_of u t.regs)) (Home u))) ≡ Some u
    at_test true e = s.places (reg (register_of u t.regs)) u (register_at t.regs u e)
    at_test false e = s.places (home u) u (marked (places t) u (by (either (places t) u p)))
      where
        by : ◌⊎◌ (in_register t.regs u ≡ true) (has t.homed u ≡ true) → has t.homed u ≡ true
        by (inl h) = let f : true ≡ false = sym h ∙ e in cc
        by (inr h) = h

in_range : (room : Room) (n : ℕ) (noted : List ℕ) (t : Part) (z : Walker) → Stands room n noted (places t) z → (u : ℕ) → placed (places t) u ≡ true → InRange room (spot (place_of t.regs u))
in_range room n noted t z s u p = at_test (in_register t.regs u) refl
  where
    at_test : (b : Bool) → in_register t.regs u ≡ b → InRange room (spot (cond b (Reg (register_of u t.regs)) (Home u)))
    at_test true e = let l = in_row t.regs (register_of u t.regs) u (register_at t.regs u e) in let m = s.registers in omega (arith, l, m)
    at_test false e = s.values (home u) u (marked (places t) u (by (either (places t) u p)))
      where
        by : ◌⊎◌ (in_register t.regs u ≡ true) (has t.homed u ≡ true) → has t.homed u ≡ true
        by (inl h) = let f : true ≡ false = sym h ∙ e in cc
        by (inr h) = h

-- a walker before a call: the operations before are done, nothing is named, and homes are true
record Before (room : Room) (n : ℕ) (q : Places) (z : Walker) : Type 0 where
  next : z.next ≡ n
  none : z.named ≡ []
  homes : (v : ℕ) → has q.homed v ≡ true → z.view (home v) ≡ Some v

-- behind the moves of arguments
record Moved (room : Room) (ops : List Operation) (n : ℕ) (start q : Places) (named : List ℕ) (lines : List Line) (us : List ℕ) (z : Walker) : Type 0 where
  at : Walker
  reaches : Reaches room ops start lines named at
  is_before : Before room n q at
  reads : map at.view (argument_spots 0 us) ≡ map Some us
  aim : at.view target ≡ z.view target

module _ (room : Room) (ops : List Operation) (n : ℕ) (start q : Places) (named : List ℕ) (from : ℕ → Place) (four : 4 ≤ room.regs) where
  moves_reach : (lines : List Line) (z : Walker) (us : List ℕ) → length us ≤ 4 + room.slots → AllStand from room z.view us → Before room n q z → Reaches room ops start lines named z → Moved room ops n start q named (lines ++ moves from us) us z
  moves_reach lines z [] few stand b r = record { at = z; reaches = subst (λ ls. Reaches room ops start ls named z) (sym (append_nil lines)) r; is_before = b; reads = refl; aim = refl }
  moves_reach lines z (u ∷ us) few stand b r =
      let ms = argument_moves from 0 (u ∷ us) in
      record {
        at = after ops (Moves ms) z;
        reaches = reaches_line room ops start lines named z (Moves ms) r (distinct_moves from (u ∷ us) 0, all_taken from room z.view (u ∷ us) 0 four (omega (arith, few)) stand);
        is_before = record { next = b.next; none = b.none; homes = λ v h. ap z.view (other_source from (u ∷ us) 0 (home v) (λ j _. home_apart v j)) ∙ b.homes v h };
        reads = arguments_stand from room z.view (u ∷ us) 0 stand;
        aim = ap z.view (other_source from (u ∷ us) 0 target (λ j _. target_apart j));
      }

place_apart : (p : Place) → same (spot p) target ≡ false
place_apart (Reg r) = refl
place_apart (Home v) = refl
place_apart (Out s) = refl

pub taken_target : (room : Room) (u : ℕ) (o : Option ℕ) → o ≡ Some u → Taken room target o
taken_target room u None e = cc
taken_target room u (Some v) e = tt

-- the spots that a call reads, where it is known whether it has a target
abbrev read_if : Bool → List ℕ → List Spot
read_if aimed us = cond aimed (target ∷ argument_spots 0 (drop 1 us)) (argument_spots 0 us)

abbrev lines_if : Bool → (ℕ → Place) → List ℕ → List Line
lines_if aimed from us = cond aimed (aims from us) [] ++ moves from (cond aimed (drop 1 us) us)

-- a walker behind the lines before the call itself
record Ready (room : Room) (ops : List Operation) (n : ℕ) (start q : Places) (named : List ℕ) (lines : List Line) (spots : List Spot) (us : List ℕ) : Type 0 where
  at : Walker
  reaches : Reaches room ops start lines named at
  is_before : Before room n q at
  reads : map at.view spots ≡ map Some us

module _ (room : Room) (ops : List Operation) (n : ℕ) (start q : Places) (named : List ℕ) (from : ℕ → Place) (four : 4 ≤ room.regs) (lines : List Line) (z : Walker) (b : Before room n q z) (r : Reaches room ops start lines named z) where
  ready_if : (aimed : Bool) (us : List ℕ) → (aimed ≡ true → 1 ≤ length us) → length (cond aimed (drop 1 us) us) - 4 ≤ room.slots → ((u : ℕ) → has us u ≡ true → (z.view (spot (from u)) ≡ Some u) × InRange room (spot (from u))) → Ready room ops n start q named (lines ++ lines_if aimed from us) (read_if aimed us) us
  ready_if false us some few stand =
      let m = moves_reach room ops n start q named from four lines z us (omega (arith, few)) (all_stand from room z.view us stand) b r in
      record { at = m.at; reaches = m.reaches; is_before = m.is_before; reads = m.reads }
  ready_if true [] some few stand = absurd (let l = some refl in omega (arith, l))
  ready_if true (u ∷ us) some few stand =
      let here = stand u (ap (λ c. cond c true (has us u)) (test_same u)) in
      let z1 = after ops (Target (from u)) z in
      let r1 = reaches_line room ops start lines named z (Target (from u)) r (here.1, taken_target room u (z.view (spot (from u))) here.0) in
      let b1 : Before room n q z1 = record { next = b.next; none = b.none; homes = b.homes } in
      let stand1 : (w : ℕ) → has us w ≡ true → (z1.view (spot (from w)) ≡ Some w) × InRange room (spot (from w)) = λ w h. (let m = stand w (or_rest (u == w) (has us w) h) in (ap (λ c. z.view (cond c (spot (from u)) (spot (from w)))) (place_apart (from w)) ∙ m.0, m.1)) in
      let m = moves_reach room ops n start q named from four (lines ++ Target (from u) ∷ []) z1 us (omega (arith, few)) (all_stand from room z1.view us stand1) b1 r1 in
      record {
        at = m.at;
        reaches = subst (λ ls. Reaches room ops start ls named m.at) (append_assoc lines (Target (from u) ∷ []) (moves from us)) m.reaches;
        is_before = m.is_before;
        reads = ap₂ (λ (x : Option ℕ) (y : List (Option ℕ)). x ∷ y) (m.aim ∙ here.0) m.reads;
      }

---- The call

module _ (room : Room) (ops : List Operation) (n : ℕ) (op : Operation) (t : Part) (here : slice_get ops n ≡ Some op) (can : CanCall room op t) where
  left_places : Places
  left_places = record { regs = with_result op.def (map (λ x. None) t.regs); homed = t.homed }

  as_long : (o : Option ℕ) → length (with_result o (map (λ x. None) t.regs)) ≡ length t.regs
  as_long None = length-map t.regs (λ x. None)
  as_long (Some v) = length-set (map (λ x. None) t.regs) 0 (Some v) ∙ length-map t.regs (λ x. None)

  module _ (w : Walked room ops n [] t) (z : Walker) (b : Before room n (places t) z) where
    values_left : (o : Option ℕ) → IsAbsent room.values o t → AreValues room.values (record { regs = with_result o (map (λ x. None) t.regs); homed = t.homed })
    values_left None a (reg x) u e = absurd (get_emptied t.regs x u e)
    values_left (Some v) a (reg x) u e = at_test (x == 0) (sym (get_set (map (λ y. None) t.regs) 0 x (Some v) (let m = w.stands.registers in let l = can.enough in let k = length-map {B = Option ℕ} t.regs (λ y. None) in omega (arith, m, l, k))) ∙ e)
      where
        at_test : (c : Bool) → cond c (Some v) (get (map (λ y. None) t.regs) x) ≡ Some u → u < room.values
        at_test true e = let f : v ≡ u = cc in let l = a.0 in omega (arith, f, l)
        at_test false e = absurd (get_emptied t.regs x u e)
    values_left None a (home x) u e = w.stands.values (home x) u e
    values_left (Some v) a (home x) u e = w.stands.values (home x) u e
    values_left None a (out x) u e = cc
    values_left (Some v) a (out x) u e = cc
    values_left None a target u e = cc
    values_left (Some v) a target u e = cc
    values_left None a saved u e = cc
    values_left (Some v) a saved u e = cc

    true_left : (o : Option ℕ) → IsAbsent room.values o t → Below (view_of (record { regs = with_result o (map (λ x. None) t.regs); homed = t.homed })) (defined o (reg 0) (left true z.view))
    true_left None a (reg x) u e = absurd (get_emptied t.regs x u e)
    true_left None a (home x) u e = let m = is_marked (has t.homed x) x u e in b.homes x m.0 ∙ ap Some m.1
    true_left None a (out x) u e = cc
    true_left None a target u e = cc
    true_left None a saved u e = cc
    true_left (Some v) a (reg x) u e = at_test (x == 0) (sym (get_set (map (λ y. None) t.regs) 0 x (Some v) (let m = w.stands.registers in let l = can.enough in let k = length-map {B = Option ℕ} t.regs (λ y. None) in omega (arith, m, l, k))) ∙ e)
      where
        at_test : (c : Bool) → cond c (Some v) (get (map (λ y. None) t.regs) x) ≡ Some u → cond c (Some v) (without v (left true z.view (reg x))) ≡ Some u
        at_test true e = e
        at_test false e = absurd (get_emptied t.regs x u e)
    true_left (Some v) a (home x) u e =
        let m = is_marked (has t.homed x) x u e in
        stays v u (z.view (home x)) (b.homes x m.0 ∙ ap Some m.1) (λ f. let g : placed (places t) v ≡ true = in_home (places t) v (ap (has t.homed) (sym (m.1 ∙ f)) ∙ m.0) in let y : true ≡ false = sym g ∙ a.1 in cc)
    true_left (Some v) a (out x) u e = cc
    true_left (Some v) a target u e = cc
    true_left (Some v) a saved u e = cc

    called_stands : Stands room (n + 1) [] left_places (perform_if true op z)
    unfolding left_places
    called_stands = record {
      registers = as_long op.def ∙ w.stands.registers;
      values = values_left op.def can.absent;
      next = let m = b.next in omega (arith, m);
      in_range = subst (AllBelow room.regs) (sym b.none) tt;
      uses = ap (map (λ r. (perform_if true op z).view (reg r))) b.none;
      places = true_left op.def can.absent;
    }

  pub called_from_kept : Walked room ops n [] t → Walked room ops (n + 1) [] (called_from n op t)
  unfolding left_places
  called_from_kept w =
      let from = place_of t.regs in
      let first : Before room n (places t) w.at = record { next = w.stands.next; none = nothing _ _ w.stands.uses; homes = λ v h. w.stands.places (home v) v (marked (places t) v h) } in
      let few : length (arguments op) - 4 ≤ room.slots = subst (λ c. cond c (length (arguments op) - 4) 0 ≤ room.slots) can.call can.slots in
      let r : Ready room ops n t.start (places t) t.named (t.lines ++ call_lines from op) (read_if (is_aimed op.code) op.uses) op.uses =
      ready_if room ops n t.start (places t) t.named from can.enough t.lines w.at first w.reaches (is_aimed op.code) op.uses can.aimed few (λ u h. (stands_there room n [] t w.at w.stands u (can.uses u h), in_range room n [] t w.at w.stands u (can.uses u h))) in
      let z = r.at in
      let fits : Can room.regs (Some op) n z = subst (λ c. CanIf c room.regs op n z) (sym can.call) (sym r.is_before.next, omega arith, tt, r.reads) in
      let behind : Stands room (n + 1) [] left_places (perform (Some op) z) = subst (λ c. Stands room (n + 1) [] left_places (perform_if c op z)) (sym can.call) (called_stands w z r.is_before) in
      let after_it : Stands room (n + 1) [] left_places (after ops (Does n) z) = subst (λ o. Stands room (n + 1) [] left_places (perform o z)) (sym here) behind in
      record {
        at = after ops (Does n) z;
        reaches = reaches_line room ops t.start (t.lines ++ call_lines from op) t.named z (Does n) r.reaches (subst (λ o. Can room.regs o n z) (sym here) fits);
        stands = after_it;
        within = omega arith;
        fresh = nothing _ _ after_it.uses ∙ sym (drop_all (length t.named) t.named (omega arith));
      }

-- what is kept has a place already
module _ (keep : List ℕ) where
  pub keeps_regs : (r : ℕ) (os : List (Option ℕ)) (t : Part) → (keeps_all keep r os t).regs ≡ t.regs
  keeps_regs r [] t = refl
  keeps_regs r (o ∷ os) t = keeps_regs (suc r) os (keeps_one keep r o t)

  one_homed : (r : ℕ) (o : Option ℕ) (t : Part) (v : ℕ) → has (keeps_one keep r o t).homed v ≡ true → (has t.homed v ≡ true) ⊎ (o ≡ Some v)
  one_homed r None t v h = inl h
  one_homed r (Some u) t v h = at_test (has keep u) h
    where
      by : (b : Bool) → (u == v) ≡ b → cond b true (has t.homed v) ≡ true → (has t.homed v ≡ true) ⊎ (Some u ≡ Some v)
      by true e g = inr (ap Some (numbers_same u v e))
      by false e g = inl g

      at_test : (b : Bool) → has (steps.saved (cond b (Some u) None) t.homed) v ≡ true → (has t.homed v ≡ true) ⊎ (Some u ≡ Some v)
      at_test true g = by (u == v) refl (sym (has_inserted u t.homed v) ∙ g)
      at_test false g = inl g

  pub keeps_homed : (os : List (Option ℕ)) (r : ℕ) (t : Part) (v : ℕ) → has (keeps_all keep r os t).homed v ≡ true → (has t.homed v ≡ true) ⊎ (in_register os v ≡ true)
  keeps_homed [] r t v h = inl h
  keeps_homed (o ∷ os) r t v h = by o (keeps_homed os (suc r) (keeps_one keep r o t) v h)
    where
      rest : (o : Option ℕ) → in_register os v ≡ true → in_register (o ∷ os) v ≡ true
      rest None e = e
      rest (Some u) e = or_rest (u == v) (in_register os v) e

      first : (o : Option ℕ) → o ≡ Some v → in_register (o ∷ os) v ≡ true
      first o e = in_register_at (o ∷ os) 0 v e

      by : (o' : Option ℕ) → (has (keeps_one keep r o t).homed v ≡ true) ⊎ (in_register os v ≡ true) → (has t.homed v ≡ true) ⊎ (in_register (o ∷ os) v ≡ true)
      by o' (inr e) = inr (rest o e)
      by o' (inl e) = on (one_homed r o t v e)
        where
          on : (has t.homed v ≡ true) ⊎ (o ≡ Some v) → (has t.homed v ≡ true) ⊎ (in_register (o ∷ os) v ≡ true)
          on (inl g) = inl g
          on (inr g) = inr (first o g)

  one_stays : (r : ℕ) (o : Option ℕ) (t : Part) (v : ℕ) → has t.homed v ≡ true → has (keeps_one keep r o t).homed v ≡ true
  one_stays r None t v h = h
  one_stays r (Some u) t v h = at_test (has keep u)
    where
      at_test : (b : Bool) → has (steps.saved (cond b (Some u) None) t.homed) v ≡ true
      at_test true = has_inserted u t.homed v ∙ or_rest (u == v) (has t.homed v) h
      at_test false = h

  pub homed_stays : (os : List (Option ℕ)) (r : ℕ) (t : Part) (v : ℕ) → has t.homed v ≡ true → has (keeps_all keep r os t).homed v ≡ true
  homed_stays [] r t v h = h
  homed_stays (o ∷ os) r t v h = homed_stays os (suc r) (keeps_one keep r o t) v (one_stays r o t v h)

  module _ (t : Part) where
    kept_part : Part
    kept_part = keeps_all keep 0 t.regs t

    still_placed : (v : ℕ) → placed (places t) v ≡ true → placed (places kept_part) v ≡ true
    unfolding kept_part
    still_placed v h = by (either (places t) v h)
      where
        by : (in_register t.regs v ≡ true) ⊎ (has t.homed v ≡ true) → placed (places (keeps_all keep 0 t.regs t)) v ≡ true
        by (inl e) = in_reg (places (keeps_all keep 0 t.regs t)) v (ap (λ rs. in_register rs v) (keeps_regs 0 t.regs t) ∙ e)
        by (inr e) = in_home (places (keeps_all keep 0 t.regs t)) v (homed_stays t.regs 0 t v e)

    was_placed : (v : ℕ) → placed (places kept_part) v ≡ true → placed (places t) v ≡ true
    unfolding kept_part
    was_placed v h = by (either (places (keeps_all keep 0 t.regs t)) v h)
      where
        on : (has t.homed v ≡ true) ⊎ (in_register t.regs v ≡ true) → placed (places t) v ≡ true
        on (inl e) = in_home (places t) v e
        on (inr e) = in_reg (places t) v e

        by : (in_register (keeps_all keep 0 t.regs t).regs v ≡ true) ⊎ (has (keeps_all keep 0 t.regs t).homed v ≡ true) → placed (places t) v ≡ true
        by (inl e) = in_reg (places t) v (ap (λ rs. in_register rs v) (sym (keeps_regs 0 t.regs t)) ∙ e)
        by (inr e) = on (keeps_homed t.regs 0 t v e)

    still_absent : (values : ℕ) (o : Option ℕ) → IsAbsent values o t → IsAbsent values o kept_part
    still_absent values None a = tt
    still_absent values (Some v) a = (a.0, at_test (placed (places kept_part) v) refl)
      where
        at_test : (b : Bool) → placed (places kept_part) v ≡ b → b ≡ false
        at_test false e = refl
        at_test true e = sym (was_placed v e) ∙ a.1

    pub still_can : (room : Room) (op : Operation) → CanCall room op t → CanCall room op (keeps_all keep 0 t.regs t)
    unfolding kept_part
    still_can room op can = record { call = can.call; aimed = can.aimed; enough = can.enough; slots = can.slots; uses = λ u h. still_placed u (can.uses u h); absent = still_absent room.values op.def can.absent }

pub called_kept : (room : Room) (ops : List Operation) (n : ℕ) (op : Operation) (keep : List ℕ) (t : Part) → slice_get ops n ≡ Some op → CanCall room op t → Walked room ops n [] t → Walked room ops (n + 1) [] (called n op keep t)
called_kept room ops n op keep t here can w =
    called_from_kept room ops n op (keeps_all keep 0 t.regs t) here (still_can keep t room op can) (keeps_all_kept room ops n [] keep t.regs 0 t (λ j. let e : 0 + j ≡ j = omega arith in ap (get t.regs) e) w)
