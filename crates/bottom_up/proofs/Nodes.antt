-- A node before those that are walked: from their start to its own.
use Rattle.std.proofs.Common.{◌≡◌, ℕ, zero, suc, ◌+◌, ◌<◌, ◌≤◌, Bool, true, false, ◌&&◌, cond, List, [], ◌∷◌, ◌++◌, map, length, drop, set, Option, Some, None, refl, sym, ap, ◌∙◌, subst, arith, ◌⊎◌, inl, inr, ⊎_elim}
use Rattle.std.specs.Prelude.{◌==◌, slice_get}
use Rattle.std.specs.List.{list_all}
use Rattle.std.proofs.lemmas.List.{length-map}
use Rattle.std.proofs.lemmas.Bool.{cases_lt, and_parts}
use Rattle.block_runs.specs.Blocks.{CodeBlock, end_uses, successors}
use Rattle.block_runs.specs.declared.end.End.{End}
use Rattle.block_runs.specs.declared.end.End.TheVariants.{Jump, Branch, Nonzero, Return, Trap}
use Rattle.block_runs.specs.Live.{has, defs_of, Live, LiveBehind}
use Rattle.block_runs.specs.Valid.{uses_of}
use Rattle.lir_core.specs.declared.flow.Node.{Node}
use Rattle.lir_core.specs.declared.places.Places.{Places}
use Rattle.lir_core.specs.Flows.{operation_of, code_node, code_nodes, calls_marked, IsValidFlow}
use Rattle.lir_core.specs.Lines.{end_reads, Room}
use Rattle.lir_core.specs.Spots.{get, in_register, placed, IsSingle}
use Rattle.lir_core.specs.Sound.{room_of}
use Rattle.lir_core.specs.Rows.{live_into}
use Rattle.global_live.specs.Reading.{HasLive}
use Rattle.global_live.proofs.Lists.{has_front, has_back, in_parts}
use Rattle.trace_needs.specs.Needs.{is_next, live_off, first_of}
use Rattle.loc_state.specs.Registers.{register_of}
use Rattle.loc_state.specs.Homed.{all_inserted}
use Rattle.loc_state.proofs.Homing.{has_all_inserted}
use Rattle.loc_state.proofs.Numbers.{numbers_same, test_same, or_rest, in_row, register_at, in_register_at, either, in_reg, in_home}
use Rattle.loc_back.specs.declared.part.Stage.{Stage}
use Rattle.loc_back.specs.declared.part.Stage.TheVariants.{Behind, End as AtEnd, Operation as Within, Done}
use Rattle.loc_back.specs.declared.backward.Backward.{Backward}
use Rattle.loc_back.specs.Marks.{live_at_each}
use Rattle.loc_back.specs.Steps.{passed, no_param, seated_new, seated_news, ended, in_part, left_node, before_node}
use Rattle.loc_back.specs.Served.{Section, lives_from, Route, IsEntered, due, Simulates, CanEnter, walked, onward, section_of, sections}
use Rattle.loc_back.proofs.Ending.{lives_last}
use Rattle.loc_back.proofs.Opening.{settled_at}
use Rattle.loc_back.proofs.Places.{settled_backed, homes_grow}
use Rattle.loc_back.proofs.Walks.{enters_to}
use Rattle.linear_scan.specs.Linear.{Case, params_of, end_position}
use Rattle.linear_scan.proofs.Candidates.{in_register_set}
use Rattle.linear_scan.proofs.Fitting.{are_fitting}
use Rattle.bottom_up.specs.Policy.{is_empty, take_all, operate_all}
use Rattle.bottom_up.specs.Ends.{argument_register, given, if_none, without_register, not_given, given_at, passed_home, homed_at}
use Rattle.bottom_up.specs.Bottom.{made_by, made_along, next_params, before_it}
use Rattle.bottom_up.proofs.Covering.{now_at, Taking, take_all_kept}
use Rattle.bottom_up.proofs.Sections.{sec, after_is, used_after, live_after, live_lives, lives_live, starts, there, live_not_made, read_below, lives_early}
use Rattle.bottom_up.proofs.Along.{row_in, end_regs, take_all_frame, settled_end, placed_grows, Along, operate_all_kept}
use Rattle.linear_scan.proofs.Nodes.{reads_used}
use Rattle.loc_back.proofs.Places.{set_past}

---- Ends

passed_used : (end : End) (v : ℕ) → has (passed end) v ≡ true → has (end_uses end) v ≡ true
passed_used (Jump to args) v h = h
passed_used (Branch k a b one another) v h = cc
passed_used (Nonzero a one another) v h = cc
passed_used (Return a) v h = cc
passed_used (Trap kind) v h = cc

used_passed : (end : End) (v : ℕ) → has (end_uses end) v ≡ true → has (end_reads end) v ≡ false → has (passed end) v ≡ true
used_passed (Jump to args) v h e = h
used_passed (Branch k a b one another) v h e = let z : true ≡ false = sym h ∙ e in cc
used_passed (Nonzero a one another) v h e = let z : true ≡ false = sym h ∙ e in cc
used_passed (Return None) v h e = cc
used_passed (Return (Some a)) v h e = let z : true ≡ false = sym h ∙ e in cc
used_passed (Trap kind) v h e = cc

few_reads : (end : End) → length (end_reads end) ≤ 2
few_reads (Jump to args) = omega arith
few_reads (Branch k a b one another) = omega arith
few_reads (Nonzero a one another) = omega arith
few_reads (Return None) = omega arith
few_reads (Return (Some a)) = omega arith
few_reads (Trap kind) = omega arith

---- Registers that are given to arguments

empty_is : (o : Option ℕ) → is_empty o ≡ true → o ≡ None
empty_is None e = refl
empty_is (Some v) e = cc

-- a register that is given is an empty one
given_empty : (behind : List (Option ℕ)) (q : Option ℕ) (regs : List (Option ℕ)) (r : ℕ) → argument_register behind q regs ≡ Some r → (get regs r ≡ None) × (r < length behind)
given_empty behind None regs r e = cc
given_empty behind (Some q) regs r e = by (in_register behind q) refl (is_empty (get regs (register_of q behind))) refl e
  where
    by : (b : Bool) → in_register behind q ≡ b → (c : Bool) → is_empty (get regs (register_of q behind)) ≡ c → cond (b && c) (Some (register_of q behind)) None ≡ Some r → (get regs r ≡ None) × (r < length behind)
    by true h true k e = let z : register_of q behind ≡ r = cc in (ap (get regs) (sym z) ∙ empty_is (get regs (register_of q behind)) k, subst (λ y. y < length behind) z (in_row behind (register_of q behind) q (register_at behind q h)))
    by true h false k e = cc
    by false h c k e = cc

new_keeps : (a v : ℕ) (o : Option ℕ) (regs : List (Option ℕ)) → ((r : ℕ) → o ≡ Some r → get regs r ≡ None) → in_register regs v ≡ true → in_register (seated_new a o regs) v ≡ true
new_keeps a v None regs free h = h
new_keeps a v (Some r) regs free h = by (in_register regs a)
  where
    at_length : ◌⊎◌ (r < length regs) (length regs ≤ r) → in_register (set regs r (Some a)) v ≡ true
    at_length (inl l) = in_register_set regs r v (Some a) l (λ y. let z : None ≡ Some v = sym (free r refl) ∙ y in cc) h
    at_length (inr l) = ap (λ xs. in_register xs v) (set_past regs r (Some a) l) ∙ h

    by : (b : Bool) → in_register (cond b regs (set regs r (Some a))) v ≡ true
    by true = h
    by false = at_length (cases_lt r (length regs))

length-new : (a : ℕ) (o : Option ℕ) (regs : List (Option ℕ)) → length (seated_new a o regs) ≡ length regs
length-new a o regs = Rattle.loc_back.proofs.Seats.length-seated_new a o regs

module _ (behind : List (Option ℕ)) (params : List ℕ) where
  given_keeps : (vs : List ℕ) (i : ℕ) (regs : List (Option ℕ)) (v : ℕ) → in_register regs v ≡ true → in_register (seated_news vs (given behind params i vs regs) regs) v ≡ true
  given_keeps [] i regs v h = h
  given_keeps (a ∷ vs) i regs v h =
      let o = argument_register behind (slice_get params i) regs in
      given_keeps vs (suc i) (seated_new a o regs) v (new_keeps a v o regs (λ r e. (given_empty behind (slice_get params i) regs r e).0) h)

  -- each argument is in a register, or homed
  given_places : (vs : List ℕ) (i : ℕ) (regs : List (Option ℕ)) → length regs ≡ length behind → (v : ℕ) → has vs v ≡ true → (in_register (seated_news vs (given behind params i vs regs) regs) v ≡ true) ⊎ (has (not_given behind params i vs regs) v ≡ true)
  given_places [] i regs l v h = cc
  given_places (a ∷ vs) i regs l v h = by (a == v) refl h (given_places vs (suc i) (seated_new a o regs) (length-new a o regs ∙ l) v)
    where
      o : Option ℕ
      o = argument_register behind (slice_get params i) regs

      rest : List ℕ
      rest = not_given behind params (suc i) vs (seated_new a o regs)

      Placed : Type 0
      Placed = (in_register (seated_news vs (given behind params (suc i) vs (seated_new a o regs)) (seated_new a o regs)) v ≡ true) ⊎ (has (without_register a o regs ++ rest) v ≡ true)

      head_in : in_register regs v ≡ true → Placed
      head_in e = inl (given_keeps vs (suc i) (seated_new a o regs) v (new_keeps a v o regs (λ r g. (given_empty behind (slice_get params i) regs r g).0) e))

      at_reg : a ≡ v → (b : Bool) → in_register regs a ≡ b → (p : Option ℕ) → o ≡ p → Placed
      at_reg q true e p g = head_in (ap (in_register regs) (sym q) ∙ e)
      at_reg q false e None g = inr (has_front (without_register a o regs) rest v (ap (λ c. has (cond c [] (if_none a o)) v) e ∙ ap (λ c. has (if_none a c) v) g ∙ ap (λ c. cond c true false) (ap (λ y. y == v) q ∙ test_same v)))
      at_reg q false e (Some r) g =
          let m = given_empty behind (slice_get params i) regs r g in
          let below : r < length regs = (let k = m.1 in omega (arith, l, k)) in
          let new : seated_new a o regs ≡ set regs r (Some a) = ap (λ c. seated_new a c regs) g ∙ ap (λ c. cond c regs (set regs r (Some a))) e in
          inl (given_keeps vs (suc i) (seated_new a o regs) v (ap (λ xs. in_register xs v) new ∙ in_register_at (set regs r (Some a)) r v (Rattle.std.proofs.lemmas.List.get_or-set_same regs r (Some a) None below ∙ ap Some q)))

      by : (b : Bool) → (a == v) ≡ b → cond b true (has vs v) ≡ true → (has vs v ≡ true → (in_register (seated_news vs (given behind params (suc i) vs (seated_new a o regs)) (seated_new a o regs)) v ≡ true) ⊎ (has rest v ≡ true)) → Placed
      by true q h on = at_reg (numbers_same a v q) (in_register regs a) refl o refl
      by false q h on = ⊎_elim inl (λ k. inr (has_back (without_register a o regs) rest v k)) (on h)

nones_same : (vs ws : List ℕ) (regs : List (Option ℕ)) → seated_news vs (map (λ a. None) ws) regs ≡ regs
nones_same [] ws regs = refl
nones_same (v ∷ vs) [] regs = refl
nones_same (v ∷ vs) (w ∷ ws) regs = nones_same vs ws regs

-- what is in a register stays in one
end_keeps : (next : Option ℕ) (params : List ℕ) (behind : List (Option ℕ)) (end : End) (v : ℕ) → in_register (map (no_param params) behind) v ≡ true → in_register (seated_news (passed end) (given_at next params behind end) (map (no_param params) behind)) v ≡ true
end_keeps next params behind (Jump to args) v h = by (is_next next to)
  where
    by : (b : Bool) → in_register (seated_news args (cond b (given behind params 0 args (map (no_param params) behind)) (map (λ a. None) args)) (map (no_param params) behind)) v ≡ true
    by true = given_keeps behind params args 0 (map (no_param params) behind) v h
    by false = ap (λ xs. in_register xs v) (nones_same args args (map (no_param params) behind)) ∙ h
end_keeps next params behind (Branch k a b one another) v h = h
end_keeps next params behind (Nonzero a one another) v h = h
end_keeps next params behind (Return a) v h = h
end_keeps next params behind (Trap kind) v h = h

-- what is passed on is in a register, or homed
end_places : (next : Option ℕ) (params : List ℕ) (behind : List (Option ℕ)) (end : End) (v : ℕ) → has (passed end) v ≡ true → (in_register (seated_news (passed end) (given_at next params behind end) (map (no_param params) behind)) v ≡ true) ⊎ (has (passed_home next params behind end) v ≡ true)
end_places next params behind (Jump to args) v h = by (is_next next to)
  where
    by : (b : Bool) → (in_register (seated_news args (cond b (given behind params 0 args (map (no_param params) behind)) (map (λ a. None) args)) (map (no_param params) behind)) v ≡ true) ⊎ (has (cond b (not_given behind params 0 args (map (no_param params) behind)) args) v ≡ true)
    by true = given_places behind params args 0 (map (no_param params) behind) (length-map {B = Option ℕ} behind (no_param params)) v h
    by false = inr h
end_places next params behind (Branch k a b one another) v h = cc
end_places next params behind (Nonzero a one another) v h = cc
end_places next params behind (Return a) v h = cc
end_places next params behind (Trap kind) v h = cc

not_given_used : (behind : List (Option ℕ)) (params : List ℕ) (vs : List ℕ) (i : ℕ) (regs : List (Option ℕ)) (v : ℕ) → has (not_given behind params i vs regs) v ≡ true → has vs v ≡ true
not_given_used behind params [] i regs v h = cc
not_given_used behind params (a ∷ vs) i regs v h =
    let o = argument_register behind (slice_get params i) regs in
    ⊎_elim (λ k. ap (λ b. cond b true (has vs v)) (same (in_register regs a) o k)) (λ k. or_rest (a == v) (has vs v) (not_given_used behind params vs (suc i) (seated_new a o regs) v k))
    (in_parts (without_register a o regs) (not_given behind params (suc i) vs (seated_new a o regs)) v h)
  where
    one : (b : Bool) → cond b true false ≡ true → b ≡ true
    one true e = refl
    one false e = cc

    same : (b : Bool) (o : Option ℕ) → has (cond b [] (if_none a o)) v ≡ true → (a == v) ≡ true
    same true o e = cc
    same false None e = one (a == v) e
    same false (Some r) e = cc

passed_home_used : (next : Option ℕ) (params : List ℕ) (behind : List (Option ℕ)) (end : End) (v : ℕ) → has (passed_home next params behind end) v ≡ true → has (end_uses end) v ≡ true
passed_home_used next params behind (Jump to args) v h = by (is_next next to) h
  where
    by : (b : Bool) → has (cond b (not_given behind params 0 args (map (no_param params) behind)) args) v ≡ true → has args v ≡ true
    by true e = not_given_used behind params args 0 (map (no_param params) behind) v e
    by false e = e
passed_home_used next params behind (Branch k a b one another) v h = cc
passed_home_used next params behind (Nonzero a one another) v h = cc
passed_home_used next params behind (Return a) v h = cc
passed_home_used next params behind (Trap kind) v h = cc

off_each : (values : ℕ) (rows : List (List ℕ)) (next : Option ℕ) (ss : List ℕ) (v : ℕ) → has (live_off values rows next ss) v ≡ true → has (live_at_each values rows ss) v ≡ true
off_each values rows next [] v h = h
off_each values rows next (s ∷ ss) v h = ⊎_elim (λ k. has_front (live_into values rows s) (live_at_each values rows ss) v (by (is_next next s) k)) (λ k. has_back (live_into values rows s) (live_at_each values rows ss) v (off_each values rows next ss v k)) (in_parts (cond (is_next next s) [] (live_into values rows s)) (live_off values rows next ss) v h)
  where
    by : (b : Bool) → has (cond b [] (live_into values rows s)) v ≡ true → has (live_into values rows s) v ≡ true
    by true e = cc
    by false e = e

in_off : (values : ℕ) (rows : List (List ℕ)) (next : Option ℕ) (ss : List ℕ) (s v : ℕ) → has ss s ≡ true → is_next next s ≡ false → has (live_into values rows s) v ≡ true → has (live_off values rows next ss) v ≡ true
in_off values rows next [] s v h ne e = cc
in_off values rows next (m ∷ ss) s v h ne e = by (m == s) refl h (λ k. in_off values rows next ss s v k ne e)
  where
    by : (b : Bool) → (m == s) ≡ b → cond b true (has ss s) ≡ true → (has ss s ≡ true → has (live_off values rows next ss) v ≡ true) → has (cond (is_next next m) [] (live_into values rows m) ++ live_off values rows next ss) v ≡ true
    by true q h on = has_front (cond (is_next next m) [] (live_into values rows m)) (live_off values rows next ss) v (ap (λ c. has (cond c [] (live_into values rows m)) v) (ap (is_next next) (numbers_same m s q) ∙ ne) ∙ ap (λ y. has (live_into values rows y) v) (numbers_same m s q) ∙ e)
    by false q h on = has_back (cond (is_next next m) [] (live_into values rows m)) (live_off values rows next ss) v (on h)

stays_left : (params : List ℕ) (regs : List (Option ℕ)) (v : ℕ) → has params v ≡ false → in_register regs v ≡ true → in_register (map (no_param params) regs) v ≡ true
stays_left params [] v e h = h
stays_left params (None ∷ regs) v e h = stays_left params regs v e h
stays_left params (Some u ∷ regs) v e h = by (u == v) refl h (stays_left params regs v e)
  where
    at_same : u ≡ v → in_register (cond (has params u) None (Some u) ∷ map (no_param params) regs) v ≡ true
    at_same q = ap (λ c. in_register (cond c None (Some u) ∷ map (no_param params) regs) v) (ap (has params) q ∙ e) ∙ ap (λ c. cond c true (in_register (map (no_param params) regs) v)) (ap (λ y. y == v) q ∙ test_same v)

    more : (c : Bool) → in_register (map (no_param params) regs) v ≡ true → in_register (cond c None (Some u) ∷ map (no_param params) regs) v ≡ true
    more true k = k
    more false k = or_rest (u == v) (in_register (map (no_param params) regs) v) k

    by : (b : Bool) → (u == v) ≡ b → cond b true (in_register regs v) ≡ true → (in_register regs v ≡ true → in_register (map (no_param params) regs) v ≡ true) → in_register (cond (has params u) None (Some u) ∷ map (no_param params) regs) v ≡ true
    by true q h on = at_same (numbers_same u v q)
    by false q h on = more (has params u) (on h)

pub left_same : (st : Stage) (f : Backward) → ((ended st (in_part (settled_at st) f)).part.regs ≡ f.part.regs) × ((ended st (in_part (settled_at st) f)).part.homed ≡ f.part.homed)
left_same Behind f = (refl, refl)
left_same AtEnd f = (refl, refl)
left_same (Within b) f = (refl, refl)
left_same Done f = (refl, refl)

---- What is kept of nodes that are walked

pub record IsKept (k : ℕ) (b : Section) (homed : List ℕ) (s e : List (Option ℕ)) : Type 0 where
  pub start_size : length s ≡ k
  pub start_single : IsSingle s
  pub start_covers : (v : ℕ) → lives_from b 0 v ≡ true → placed (record { regs = s; homed = homed }) v ≡ true
  pub start_living : (r v : ℕ) → get s r ≡ Some v → lives_from b 0 v ≡ true
  pub end_size : length e ≡ k
  pub end_single : IsSingle e
  pub end_covers : (v : ℕ) → has b.after v ≡ true → placed (record { regs = e; homed = homed }) v ≡ true

abbrev pub AllKept : ℕ → List ℕ → List Section → List Places → List Places → Type 0
AllKept k homed [] [] [] = Unit {0}
AllKept k homed (b ∷ bs) (s ∷ ss) (e ∷ es) = IsKept k b homed s.regs e.regs × AllKept k homed bs ss es
AllKept k homed _ _ _ = ⊥

kept_grows : (k : ℕ) (b : Section) (homed more : List ℕ) (s e : List (Option ℕ)) → ((w : ℕ) → has homed w ≡ true → has more w ≡ true) → IsKept k b homed s e → IsKept k b more s e
kept_grows k b homed more s e on h = record {
  start_size = h.start_size;
  start_single = h.start_single;
  start_living = h.start_living;
  end_size = h.end_size;
  end_single = h.end_single;
  start_covers = λ v l. placed_grows s homed more v on (h.start_covers v l);
  end_covers = λ v l. placed_grows e homed more v on (h.end_covers v l);
}

all_kept_grow : (k : ℕ) (homed more : List ℕ) → ((w : ℕ) → has homed w ≡ true → has more w ≡ true) → (bs : List Section) (ss es : List Places) → AllKept k homed bs ss es → AllKept k more bs ss es
all_kept_grow k homed more on [] [] [] h = tt
all_kept_grow k homed more on (b ∷ bs) (s ∷ ss) (e ∷ es) h = (kept_grows k b homed more s.regs e.regs on h.0, all_kept_grow k homed more on bs ss es h.1)
all_kept_grow k homed more on [] [] (y ∷ es) h = absurd h
all_kept_grow k homed more on [] (y ∷ ss) es h = absurd h
all_kept_grow k homed more on (b ∷ bs) [] es h = absurd h
all_kept_grow k homed more on (b ∷ bs) (y ∷ ss) [] h = absurd h

module _ (x : Case) (mention : ℕ → ℕ → Option ℕ) (valid : IsValidFlow x.flow) (live : HasLive x.flow x.rows) (four : 4 ≤ x.regs) (first : List ℕ) where
  abbrev pub blocks : List CodeBlock
  blocks = code_nodes x.flow.nodes

  abbrev pub space : Room
  space = room_of x.regs x.flow

  abbrev route_of : List Section → Section → List ℕ → Route
  route_of done here made = record { room = space; done = done; here = here; made = made }

  -- the nodes of a list are walked
  pub record AreBehind (ns : List ℕ) (f : Backward) : Type 0 where
    pub done : List Section
    pub here : Section
    pub made : List ℕ
    pub sections_are : sections x.flow x.rows ns ≡ walked f.part.stage (route_of done here made)
    pub are_made : (v : ℕ) → has made v ≡ true → has (made_along x.flow.nodes ns) v ≡ true
    pub sim : Simulates (route_of done here made) 0 (due (route_of done here made) 0 f.part.stage) f
    pub starts : (v : ℕ) → lives_from here 0 v ≡ true → has here.before v ≡ true
    pub firsts : (v : ℕ) → has first v ≡ true → has f.part.homed v ≡ true
    pub kept : AllKept x.regs f.part.homed (walked f.part.stage (route_of done here made)) (left_node f).starts (left_node f).ends
    pub covers : (m v : ℕ) → first_of ns ≡ Some m → Live blocks v m → placed (now_at f) v ≡ true
    pub goes : (v : ℕ) → lives_from here 0 v ≡ true → has (next_params x (first_of ns)) v ≡ false → (m : ℕ) × (first_of ns ≡ Some m) × Live blocks v m

  walked_is : (st : Stage) (r : Route) → IsEntered st → walked st r ≡ r.here ∷ r.done
  walked_is Behind r e = absurd e
  walked_is AtEnd r e = refl
  walked_is (Within b) r e = refl
  walked_is Done r e = refl

  left_lists : (st : Stage) (f : Backward) → IsEntered st → ((ended st (in_part (settled_at st) f)).starts ≡ Rattle.loc_back.specs.Steps.bare f.part.regs ∷ f.starts) × ((ended st (in_part (settled_at st) f)).ends ≡ Rattle.loc_back.specs.Steps.bare (settled_at st f.part).end ∷ f.ends)
  left_lists Behind f e = absurd e
  left_lists AtEnd f e = (refl, refl)
  left_lists (Within b) f e = (refl, refl)
  left_lists Done f e = (refl, refl)

  module _ (n : ℕ) (node : Node) (here : slice_get x.flow.nodes n ≡ Some node) (ns : List ℕ) (apart : has ns n ≡ false) (edge : (m : ℕ) → first_of ns ≡ Some m → has (successors node.end) m ≡ true) (reach : (v : ℕ) → Live blocks v n → has (made_along x.flow.nodes (n ∷ ns)) v ≡ true → has first v ≡ true) (followed : (m : ℕ) → first_of ns ≡ Some m → (other : Node) × (slice_get x.flow.nodes m ≡ Some other)) (f : Backward) (a : AreBehind ns f) where
    abbrev b : Section
    b = sec x.flow x.rows valid live n node here

    next : Option ℕ
    next = first_of ns

    params : List ℕ
    params = next_params x (first_of ns)

    abbrev later : ℕ → Type 0
    later v = has (made_along x.flow.nodes ns) v ≡ true

    early : (j v : ℕ) → lives_from b j v ≡ true → (has (defs_of (drop j b.ops)) v ≡ true) ⊎ later v → has first v ≡ true
    early j v h m = let l = lives_early x.flow x.rows valid live n node here ns apart j v h m in reach v l.0 l.1

    after_early : (v : ℕ) → has b.after v ≡ true → later v → has first v ≡ true
    after_early v h m = early (length b.ops) v (lives_last b v ∙ h) (inr m)

    params_made : (v : ℕ) → has params v ≡ true → later v
    unfolding params
    params_made v h = by ns h
      where
        at_node : (o : Option Node) → has (params_of o) v ≡ true → has (made_by o) v ≡ true
        at_node None h = cc
        at_node (Some other) h = has_front other.params (defs_of (map operation_of other.lirs)) v h

        by : (ms : List ℕ) → has (next_params x (first_of ms)) v ≡ true → has (made_along x.flow.nodes ms) v ≡ true
        by [] h = cc
        by (m ∷ ms) h = has_front (made_by (slice_get x.flow.nodes m)) (made_along x.flow.nodes ms) v (at_node (slice_get x.flow.nodes m) h)

    made_later : (v : ℕ) → has (params ++ a.made) v ≡ true → later v
    made_later v h = ⊎_elim (params_made v) (a.are_made v) (in_parts params a.made v h)

    homes : List ℕ
    homes = homed_at x.flow.values x.rows next params f.part.regs node.end

    homes_after : (v : ℕ) → has homes v ≡ true → has b.after v ≡ true
    unfolding homes
    homes_after v h = ⊎_elim (λ k. used_after x.flow x.rows valid live n node here v (passed_home_used next params f.part.regs node.end v k)) (λ k. has_front (live_at_each x.flow.values x.rows (successors node.end)) (end_uses node.end) v (off_each x.flow.values x.rows next (successors node.end) v k)) (in_parts (passed_home next params f.part.regs node.end) (live_off x.flow.values x.rows next (successors node.end)) v h)

    below : (v : ℕ) → has (end_uses node.end) v ≡ true → v < x.flow.values
    below v h = read_below x.flow x.rows valid live n node here v (has_back (uses_of (map operation_of node.lirs)) (end_uses node.end) v h)

    abbrev old : Route
    old = route_of a.done a.here a.made

    can_enter : CanEnter old b params node.end homes f.part.homed
    unfolding params
    can_enter = record {
      starts = a.starts;
      goes_on = λ v h np. (let m = a.goes v h np in live_after x.flow x.rows valid live n node here v (m.0, edge m.0 m.1, m.2));
      passes = λ v h. used_after x.flow x.rows valid live n node here v (passed_used node.end v h);
      below = λ v h. below v (passed_used node.end v h);
      free = λ v h m. a.firsts v (after_early v (used_after x.flow x.rows valid live n node here v (passed_used node.end v h)) (made_later v m));
      joins = λ v h m. a.firsts v (after_early v (homes_after v h) (made_later v m));
    }

    args : List (Option ℕ)
    args = given_at next params f.part.regs node.end

    g : Backward
    g = before_node params node.end args homes f

    route : Route
    route = onward f.part.stage b params old

    entered_sim : Simulates route (length b.ops) [] g
    unfolding route g
    entered_sim = enters_to old b params node.end args homes f can_enter a.sim

    -- the places at the end, before its uses are taken
    abbrev first_places : Places
    first_places = record { regs = seated_news (passed node.end) args (map (no_param params) f.part.regs); homed = all_inserted homes f.part.homed }

    places_are : now_at g ≡ first_places
    unfolding g
    places_are =
        let l = left_same f.part.stage f in
        ap (λ (rs : List (Option ℕ)). let q : Places = record { regs = seated_news (passed node.end) args (map (no_param params) rs); homed = all_inserted homes (left_node f).part.homed } in q) l.0
        ∙ ap (λ (hs : List ℕ). let q : Places = record { regs = seated_news (passed node.end) args (map (no_param params) f.part.regs); homed = all_inserted homes hs } in q) l.1

    end_covered : (v : ℕ) → (has b.after v ≡ true) × (has (end_reads node.end) v ≡ false) → placed first_places v ≡ true
    unfolding args homes params next
    end_covered v h = ⊎_elim used behind (after_is x.flow x.rows valid live n node here v h.0)
      where
        homed : has homes v ≡ true → placed first_places v ≡ true
        homed k = in_home first_places v (has_all_inserted homes f.part.homed v ∙ ap (λ c. cond c true (has f.part.homed v)) k)

        used : has (end_uses node.end) v ≡ true → placed first_places v ≡ true
        used u = ⊎_elim (in_reg first_places v) (λ k. homed (has_front (passed_home (first_of ns) (next_params x (first_of ns)) f.part.regs node.end) (live_off x.flow.values x.rows (first_of ns) (successors node.end)) v k)) (end_places (first_of ns) (next_params x (first_of ns)) f.part.regs node.end v (used_passed node.end v u h.1))

        is_it : (o : Option ℕ) (s : ℕ) → is_next o s ≡ true → o ≡ Some s
        is_it None s z = cc
        is_it (Some m) s z = ap Some (numbers_same m s z)

        no_params : (s : ℕ) → first_of ns ≡ Some s → Live blocks v s → has (next_params x (first_of ns)) v ≡ false
        no_params s e l =
            let other = followed s e in
            let none = Rattle.global_live.proofs.Lists.not_in_front other.0.params (defs_of (map operation_of other.0.lirs)) v (live_not_made x.flow x.rows valid live s other.0 other.1 v l) in
            ap (λ o. has (next_params x o) v) e ∙ ap (λ o. has (params_of o) v) other.1 ∙ none

        behind : LiveBehind blocks (code_node node) v → placed first_places v ≡ true
        behind m = at_next (is_next (first_of ns) m.0) refl
          where
            at_next : (c : Bool) → is_next (first_of ns) m.0 ≡ c → placed first_places v ≡ true
            at_next true e =
                let it = is_it (first_of ns) m.0 e in
                ⊎_elim (λ r. in_reg first_places v (end_keeps (first_of ns) (next_params x (first_of ns)) f.part.regs node.end v (stays_left (next_params x (first_of ns)) f.part.regs v (no_params m.0 it m.2) r))) (λ k. in_home first_places v (homes_grow homes f.part.homed v k)) (either (now_at f) v (a.covers m.0 v it m.2))
            at_next false e = homed (has_back (passed_home (first_of ns) (next_params x (first_of ns)) f.part.regs node.end) (live_off x.flow.values x.rows (first_of ns) (successors node.end)) v (in_off x.flow.values x.rows (first_of ns) (successors node.end) m.0 v m.1 e (Rattle.linear_scan.proofs.Wanted.in_live_into (λ v p. None) x.flow x.rows valid live v m.0 m.2)))

    module _ (p : ℕ) where
      reads : List ℕ
      reads = end_reads node.end

      h : Backward
      h = in_part (take_all mention (end_position p node) reads reads) g

      grown : (v : ℕ) → has f.part.homed v ≡ true → has g.part.homed v ≡ true
      unfolding g
      grown v k = homes_grow homes (left_node f).part.homed v (ap (λ hs. has hs v) (left_same f.part.stage f).1 ∙ k)

      taken_end : Taking route (length b.ops) f.part.homed reads reads (λ v. (has b.after v ≡ true) × (has (end_reads node.end) v ≡ false)) h
      unfolding h reads route g
      taken_end =
          take_all_kept mention route (length b.ops) (end_position p node) f.part.homed (end_reads node.end) (λ v. (has b.after v ≡ true) × (has (end_reads node.end) v ≡ false)) (let l = few_reads node.end in omega (arith, l, four)) (end_reads node.end) [] (before_node params node.end args homes f)
          (λ u k. let after = used_after x.flow x.rows valid live n node here u (reads_used node.end u k) in record { below = below u (reads_used node.end u k); early = λ m. a.firsts u (after_early u after (made_later u m)); lives = λ q. after; within = k })
          (record {
            sim = entered_sim;
            taking = tt;
            kept = tt;
            covers = λ v c. subst (λ q. placed q v ≡ true) (sym places_are) (end_covered v c);
            firsts = grown;
            read = λ v k. cc;
          })

      at_end : h.part.stage ≡ AtEnd
      unfolding h g
      at_end = (take_all_frame mention (end_position p node) reads reads g.part).0

      all_after : (v : ℕ) → has b.after v ≡ true → placed (now_at h) v ≡ true
      unfolding reads
      all_after v k = by (has (end_reads node.end) v) refl
        where
          by : (c : Bool) → has (end_reads node.end) v ≡ c → placed (now_at h) v ≡ true
          by true e = taken_end.read v e
          by false e = taken_end.covers v (k, e)

      ended_there : Along space b route.done first later h.part.regs h.part.homed (length b.ops) h
      unfolding route reads
      ended_there = record {
        made = params ++ a.made;
        sim = subst (λ us. Simulates route (length b.ops) us h) (sym (ap (due route (length b.ops)) at_end)) taken_end.sim;
        entered = subst IsEntered (sym at_end) tt;
        covers = λ v k. all_after v (sym (lives_last b v) ∙ k);
        firsts = λ v k. taken_end.firsts v (a.firsts v k);
        grown = λ v k. k;
        are_made = λ v k. inr (made_later v k);
        ends_are = ap (λ s. end_regs s h.part) at_end;
      }

      calls_of : calls_marked node ≡ true
      calls_of = mark_of x.flow.nodes n here valid.calls
        where
          mark_of : (nodes : List Node) (m : ℕ) → slice_get nodes m ≡ Some node → list_all calls_marked nodes ≡ true → calls_marked node ≡ true
          mark_of [] m e h = cc
          mark_of (o ∷ nodes) zero e h = let q : o ≡ node = cc in ap calls_marked (sym q) ∙ (and_parts (calls_marked o) (list_all calls_marked nodes) h).0
          mark_of (o ∷ nodes) (suc m) e h = mark_of nodes m e (and_parts (calls_marked o) (list_all calls_marked nodes) h).1

      all_there : Along space b route.done first later h.part.regs h.part.homed 0 (in_part (operate_all mention (p + 1) 0 node.lirs) h)
      all_there =
          operate_all_kept mention space four b route.done first later early (λ v k. read_below x.flow x.rows valid live n node here v (has_front (uses_of (map operation_of node.lirs)) (end_uses node.end) v k)) h.part.regs h.part.homed node.lirs 0 (p + 1) h
          (λ i. let z : 0 + i ≡ i = omega arith in ap (slice_get b.ops) z) (are_fitting x.flow valid n node (there x.flow x.rows valid live n node here) x.regs four valid.calls calls_of)
          (let z : length b.ops ≡ 0 + length node.lirs = (let k = length-map node.lirs operation_of in omega (arith, k)) in subst (λ i. Along space b route.done first later h.part.regs h.part.homed i h) z ended_there)

      whole : Backward
      whole = in_part (operate_all mention (p + 1) 0 node.lirs) h

      one_more : AreBehind (n ∷ ns) whole
      unfolding whole route h g reads
      one_more =
          let al = all_there in
          let r : Route = route_of route.done b al.made in
          let lists = left_lists whole.part.stage whole al.entered in
          let is = walked_is whole.part.stage r al.entered in
          let backed = settled_backed r 0 whole.part.stage whole.part al.entered al.sim.here in
          let row = row_in route (length b.ops) (end_reads node.end) h.part.stage h.part taken_end.sim.here in
          let ends = settled_end whole.part.stage whole.part ∙ al.ends_are in
          record {
            done = route.done;
            here = b;
            made = al.made;
            sections_are = ap (λ o. section_of x.flow.values x.rows n o ∷ sections x.flow x.rows ns) here ∙ ap (λ bs. b ∷ bs) a.sections_are ∙ sym is;
            are_made = λ v k. ⊎_elim (λ d. has_front (made_by (slice_get x.flow.nodes n)) (made_along x.flow.nodes ns) v (ap (λ o. has (made_by o) v) here ∙ has_back node.params (defs_of (map operation_of node.lirs)) v d)) (λ d. has_back (made_by (slice_get x.flow.nodes n)) (made_along x.flow.nodes ns) v d) (al.are_made v k);
            sim = al.sim;
            starts = starts x.flow x.rows valid live n node here;
            firsts = al.firsts;
            kept = subst (λ ss. AllKept x.regs whole.part.homed (walked whole.part.stage r) ss (left_node whole).ends) (sym lists.0) (subst (λ es. AllKept x.regs whole.part.homed (walked whole.part.stage r) (Rattle.loc_back.specs.Steps.bare whole.part.regs ∷ whole.starts) es) (sym lists.1) (subst (λ bs. AllKept x.regs whole.part.homed bs (Rattle.loc_back.specs.Steps.bare whole.part.regs ∷ whole.starts) (Rattle.loc_back.specs.Steps.bare (settled_at whole.part.stage whole.part).end ∷ whole.ends)) (sym is) (
              record {
                start_size = backed.row.size;
                start_single = backed.row.single;
                start_covers = al.covers;
                start_living = backed.living;
                end_size = ap length ends ∙ row.size;
                end_single = subst IsSingle (sym ends) row.single;
                end_covers = λ v k. subst (λ e. placed (record { regs = e; homed = whole.part.homed }) v ≡ true) (sym ends) (placed_grows h.part.regs h.part.homed whole.part.homed v al.grown (all_after v k));
              },
              all_kept_grow x.regs f.part.homed whole.part.homed (λ v k. al.grown v (taken_end.firsts v k)) (walked f.part.stage old) (left_node f).starts (left_node f).ends a.kept,
            )));
            covers = λ m v e l. al.covers v (live_lives x.flow x.rows valid live n node here v (subst (Live blocks v) (let z : n ≡ m = cc in sym z) l));
            goes = λ v k np. (n, refl, lives_live x.flow x.rows valid live n node here v (sym (ap (λ o. has (params_of o) v) here) ∙ np) k);
          }

      pub node_more : AreBehind (n ∷ ns) (before_it x mention p (slice_get x.flow.nodes n) (first_of ns) f)
      unfolding whole route h g reads args homes params next
      node_more = subst (λ o. AreBehind (n ∷ ns) (before_it x mention p o (first_of ns) f)) (sym here) one_more
