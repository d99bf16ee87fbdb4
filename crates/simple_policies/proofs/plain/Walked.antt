-- The walk accepts the lines of a plain result.
use Rattle.std.proofs.Common.{◌≡◌, ◌≢◌, ℕ, zero, suc, ◌+◌, ◌<◌, ◌≤◌, Bool, true, false, ◌||◌, cond, List, [], ◌∷◌, ◌++◌, map, length, take, drop, get_or, replicate, Option, Some, None, refl, sym, ap, ap₂, ◌∙◌, subst, arith}
use Rattle.std.specs.Prelude.{◌==◌, slice_get, option_to_list}
use Rattle.std.proofs.lemmas.Bool.{eqb-true, eq-eqb}
use Rattle.std.proofs.lemmas.List.{length-append, get_or_append_left, get_or_at, append_assoc, append-nil, length-map}
use Rattle.global_live.proofs.Lists.{has-append}
use Rattle.block_runs.specs.declared.end.End.{End}
use Rattle.block_runs.specs.declared.end.End.TheVariants.{Jump, Branch, Nonzero, Return, Trap}
use Rattle.block_runs.specs.Blocks.{Operation, end_uses}
use Rattle.block_runs.specs.Live.{has, reads, defs_of}
use Rattle.block_runs.specs.Valid.{is_call}
use Rattle.lir_core.specs.declared.flow.Lir.{Lir}
use Rattle.lir_core.specs.declared.places.Place.TheVariants.{Home}
use Rattle.lir_core.specs.declared.places.Line.{Line}
use Rattle.lir_core.specs.declared.places.Line.TheVariants.{Load, Target}
use Rattle.lir_core.specs.declared.places.Line.TheVariants.{Lir as Does}
use Rattle.lir_core.specs.Flows.{operation_of}
use Rattle.lir_core.specs.Spots.{Spot, reg, home, out, target, saved, same, spot, source, get, view_of}
use Rattle.parallel_move.proofs.Sequence.{same_self}
use Rattle.lir_core.specs.Lines.{is_aimed, arguments, argument_spot, argument_spots, use_spots, one_def, names, def_spot, end_reads, IsFree, AreDistinct, Room, AllBelow, argument_place}
use Rattle.lir_core.specs.Walks.{Walker, kept, left, without, defined, perform, after, walk, Can, Taken, AllTaken, Passes, begin, Finishes, Walks}
use Rattle.simple_policies.specs.plain.Plain.{in_homes, index_of, load_of, with_load, loads, load_regs, argument_moves, aiming, passing, call_lines, stores, def_regs, reading_lines, lir_lines, lir_regs, lirs_lines, lirs_regs}
use Rattle.loc_state.proofs.Numbers.{map_map as map-map}
use Rattle.loc_state.proofs.Calling.{home_apart}
use Rattle.loc_state.proofs.Calling.{target_apart}
use Rattle.loc_state.proofs.Calling.{place_spot}
use Rattle.loc_state.proofs.Calling.{spots_apart}

---- Walks in parts

module _ (room : Room) (ops : List Operation) where
  pub walk-append : (xs ys : List Line) (w : Walker) → walk ops (xs ++ ys) w ≡ walk ops ys (walk ops xs w)
  walk-append [] ys w = refl
  walk-append (x ∷ xs) ys w = walk-append xs ys (after ops x w)

  pub passes-append : (xs ys : List Line) (w : Walker) → Passes room ops xs w → Passes room ops ys (walk ops xs w) → Passes room ops (xs ++ ys) w
  passes-append [] ys w a b = b
  passes-append (x ∷ xs) ys w a b = (a.0, passes-append xs ys (after ops x w) a.1 b)

---- Numbers and lists

unequal : (q i : ℕ) → (q == i) ≡ false → q ≢ i
unequal q i e h = let t : (q == i) ≡ true = eq-eqb q i h in cc

apart : (q i : ℕ) → q ≢ i → (q == i) ≡ false
apart q i ne = at_test (q == i) refl
  where
    at_test : (b : Bool) → (q == i) ≡ b → b ≡ false
    at_test true e = absurd (ne (eqb-true q i e))
    at_test false e = refl

pub index_in : (xs : List ℕ) (v : ℕ) → has xs v ≡ true → (index_of xs v < length xs) × (get_or xs (index_of xs v) 0 ≡ v)
index_in [] v h = cc
index_in (x ∷ xs) v h = at_test (x == v) refl h (λ k. index_in xs v k)
  where
    at_test : (b : Bool) → (x == v) ≡ b → cond b true (has xs v) ≡ true → (has xs v ≡ true → (index_of xs v < length xs) × (get_or xs (index_of xs v) 0 ≡ v)) → (cond b 0 (suc (index_of xs v)) < suc (length xs)) × (get_or (x ∷ xs) (cond b 0 (suc (index_of xs v))) 0 ≡ v)
    at_test true e h on = (omega arith, eqb-true x v e)
    at_test false e h on = let s = on h in let l = s.0 in (omega (arith, l), s.1)

pub index_out : (xs : List ℕ) (v : ℕ) → has xs v ≡ false → index_of xs v ≡ length xs
index_out [] v h = refl
index_out (x ∷ xs) v h = at_test (x == v) h (index_out xs v)
  where
    at_test : (b : Bool) → cond b true (has xs v) ≡ false → (has xs v ≡ false → index_of xs v ≡ length xs) → cond b 0 (suc (index_of xs v)) ≡ suc (length xs)
    at_test true h on = cc
    at_test false h on = ap suc (on h)

---- Loads

-- what is loaded stands in the first registers, in order
abbrev Held : List ℕ → (Spot → Option ℕ) → Type 0
Held loaded view = (j : ℕ) → j < length loaded → view (reg j) ≡ Some (get_or loaded j 0)

-- these values stand in their homes, and are some of the flow's
abbrev pub AtHome : ℕ → List ℕ → (Spot → Option ℕ) → Type 0
AtHome values [] view = Unit {0}
AtHome values (v ∷ vs) view = (v < values) × (view (home v) ≡ Some v) × AtHome values vs view

pub at_home : (values : ℕ) (vs : List ℕ) (view : Spot → Option ℕ) → ((v : ℕ) → has vs v ≡ true → (v < values) × (view (home v) ≡ Some v)) → AtHome values vs view
at_home values [] view h = tt
at_home values (v ∷ vs) view h =
    let here = h v (ap (λ b. cond b true (has vs v)) (eq-eqb v v refl)) in
    (here.0, here.1, at_home values vs view (λ u k. h u (later (v == u) u k)))
  where
    later : (b : Bool) (u : ℕ) → has vs u ≡ true → cond b true (has vs u) ≡ true
    later true u k = refl
    later false u k = k

home_after : (values : ℕ) (vs : List ℕ) (f g : Spot → Option ℕ) → ((v : ℕ) → g (home v) ≡ f (home v)) → AtHome values vs f → AtHome values vs g
home_after values [] f g e h = tt
home_after values (v ∷ vs) f g e h = (h.0, e v ∙ h.1, home_after values vs f g e h.2)

pub length-load_regs : (loaded vs : List ℕ) → length (load_regs loaded vs) ≡ length vs
length-load_regs loaded [] = refl
length-load_regs loaded (v ∷ vs) = ap suc (length-load_regs (with_load loaded v) vs)

module _ (room : Room) (ops : List Operation) where
  pub record Loaded (loaded vs : List ℕ) (lines : List Line) (regs : List ℕ) (w : Walker) : Type 0 where
    pub passes : Passes room ops lines w
    pub next : (walk ops lines w).next ≡ w.next
    pub named : (walk ops lines w).named ≡ w.named
    pub homes : (v : ℕ) → (walk ops lines w).view (home v) ≡ w.view (home v)
    pub stay : (j : ℕ) → j < length loaded → (walk ops lines w).view (reg j) ≡ w.view (reg j)
    pub uses : map (λ r. (walk ops lines w).view (reg r)) regs ≡ map Some vs
    pub below : AllBelow room.regs regs

  pub loaded_all : (loaded vs : List ℕ) (w : Walker) → Held loaded w.view → AtHome room.values vs w.view → length loaded + length vs ≤ room.regs → Loaded loaded vs (loads loaded vs) (load_regs loaded vs) w
  loaded_all loaded [] w held homes few = record { passes = tt; next = refl; named = refl; homes = λ v. refl; stay = λ j l. refl; uses = refl; below = tt }
  loaded_all loaded (v ∷ vs) w held homes few =
      at_test (has loaded v) refl (loaded_all loaded vs w held homes.2 (omega (arith, few)))
      (loaded_all (loaded ++ v ∷ []) vs (after ops (Load (length loaded) v) w) held_more (home_after room.values vs w.view (after ops (Load (length loaded) v) w).view (λ u. refl) homes.2) (let a = length-append loaded (v ∷ []) in omega (arith, few, a)))
    where
      here : (length loaded == length loaded) ≡ true
      here = eq-eqb (length loaded) (length loaded) refl

      loads_here : (after ops (Load (length loaded) v) w).view (reg (length loaded)) ≡ Some v
      loads_here = ap (λ b. w.view (cond b (home v) (reg (length loaded)))) here ∙ homes.1

      keeps : (j : ℕ) → j < length loaded → (after ops (Load (length loaded) v) w).view (reg j) ≡ w.view (reg j)
      keeps j l = ap (λ b. w.view (cond b (home v) (reg j))) (apart j (length loaded) (λ e. absurd (omega (arith, e, l))))

      held_more : Held (loaded ++ v ∷ []) (after ops (Load (length loaded) v) w).view
      held_more j l = at_last (j == length loaded) refl
        where
          at_last : (b : Bool) → (j == length loaded) ≡ b → (after ops (Load (length loaded) v) w).view (reg j) ≡ Some (get_or (loaded ++ v ∷ []) j 0)
          at_last true e =
              let q = eqb-true j (length loaded) e in
              ap (λ n. (after ops (Load (length loaded) v) w).view (reg n)) q ∙ loads_here ∙ ap Some (sym (ap (λ n. get_or (loaded ++ v ∷ []) n 0) q ∙ get_or_at loaded v [] 0 (length loaded) refl))
          at_last false e =
              let a = length-append loaded (v ∷ []) in
              let ne = unequal j (length loaded) e in
              let below : j < length loaded = omega (arith, l, a, ne) in
              keeps j below ∙ held j below ∙ ap Some (sym (get_or_append_left loaded (v ∷ []) 0 j below))

      at_test : (b : Bool) → has loaded v ≡ b → Loaded loaded vs (loads loaded vs) (load_regs loaded vs) w
          → Loaded (loaded ++ v ∷ []) vs (loads (loaded ++ v ∷ []) vs) (load_regs (loaded ++ v ∷ []) vs) (after ops (Load (length loaded) v) w)
          → Loaded loaded (v ∷ vs) (cond b [] (Load (length loaded) v ∷ []) ++ loads (cond b loaded (loaded ++ v ∷ [])) vs) (index_of loaded v ∷ load_regs (cond b loaded (loaded ++ v ∷ [])) vs) w
      at_test true e s t =
          let i = index_in loaded v e in
          let l = i.0 in
          record {
            passes = s.passes;
            next = s.next;
            named = s.named;
            homes = s.homes;
            stay = s.stay;
            uses = ap₂ (λ (x : Option ℕ) (y : List (Option ℕ)). x ∷ y) (s.stay (index_of loaded v) l ∙ held (index_of loaded v) l ∙ ap Some i.1) s.uses;
            below = (omega (arith, l, few), s.below);
          }
      at_test false e s t =
          let i = index_out loaded v e in
          let a = length-append loaded (v ∷ []) in
          record {
            passes = ((omega (arith, few), homes.0, homes.1), t.passes);
            next = t.next;
            named = t.named;
            homes = t.homes;
            stay = λ j l. t.stay j (omega (arith, l, a)) ∙ keeps j l;
            uses = ap₂ (λ (x : Option ℕ) (y : List (Option ℕ)). x ∷ y) (ap (λ n. (walk ops (loads (loaded ++ v ∷ []) vs) (after ops (Load (length loaded) v) w)).view (reg n)) i ∙ t.stay (length loaded) (omega (arith, a)) ∙ loads_here) t.uses;
            below = (omega (arith, i, few), t.below);
          }

---- Arguments

-- the number of an argument by its spot
number : Spot → ℕ
number (reg r) = r
number (out s) = suc (suc (suc (suc s)))
number (home v) = 0
number target = 0
number saved = 0

number_is : (i : ℕ) → number (argument_spot i) ≡ i
unfolding number
number_is zero = refl
number_is (suc zero) = refl
number_is (suc (suc zero)) = refl
number_is (suc (suc (suc zero))) = refl
number_is (suc (suc (suc (suc i)))) = refl

free : (us : List ℕ) (i j : ℕ) → i < j → IsFree (spot (argument_place i)) (argument_moves j us)
free [] i j l = tt
free (u ∷ us) i j l = (ap₂ same (place_spot i) (place_spot j) ∙ spots_apart i j (λ e. absurd (omega (arith, l, e))), free us i (suc j) (omega (arith, l)))

distinct_moves : (us : List ℕ) (i : ℕ) → AreDistinct (argument_moves i us)
distinct_moves [] i = tt
distinct_moves (u ∷ us) i = (free us i (suc i) (omega arith), distinct_moves us (suc i))

other_source : (us : List ℕ) (i : ℕ) (p : Spot) → ((j : ℕ) → same p (argument_spot j) ≡ false) → source (argument_moves i us) p ≡ p
other_source [] i p off = refl
other_source (u ∷ us) i p off = ap (λ b. cond b (home u) (source (argument_moves (suc i) us) p)) (ap (same p) (place_spot i) ∙ off i) ∙ other_source us (suc i) p off

module _ (values : ℕ) (view : Spot → Option ℕ) where
  skip : (us vs : List ℕ) (u i j : ℕ) → i < j → map (λ p. view (source (argument_moves i (u ∷ us)) p)) (argument_spots j vs) ≡ map (λ p. view (source (argument_moves (suc i) us) p)) (argument_spots j vs)
  skip us [] u i j l = refl
  skip us (v ∷ vs) u i j l = ap₂ (λ (x : Option ℕ) (y : List (Option ℕ)). x ∷ y) (ap (λ b. view (cond b (home u) (source (argument_moves (suc i) us) (argument_spot j)))) (ap (same (argument_spot j)) (place_spot i) ∙ spots_apart j i (λ e. absurd (omega (arith, l, e))))) (skip us vs u i (suc j) (omega (arith, l)))

  arguments_stand : (us : List ℕ) (i : ℕ) → AtHome values us view → map (λ p. view (source (argument_moves i us) p)) (argument_spots i us) ≡ map Some us
  arguments_stand [] i h = refl
  arguments_stand (u ∷ us) i h = ap₂ (λ (x : Option ℕ) (y : List (Option ℕ)). x ∷ y) (ap (λ b. view (cond b (home u) (source (argument_moves (suc i) us) (argument_spot i)))) (ap (same (argument_spot i)) (place_spot i) ∙ same_self (argument_spot i)) ∙ h.1) (skip us us u i (suc i) (omega arith) ∙ arguments_stand us (suc i) h.2)

all_taken : (room : Room) (view : Spot → Option ℕ) (us : List ℕ) (i : ℕ) → 4 ≤ room.regs → i + length us ≤ 4 + room.slots → AtHome room.values us view → AllTaken room view (argument_moves i us)
all_taken room view [] i l m h = tt
all_taken room view (u ∷ us) i l m h = (h.0, subst (Taken room (spot (argument_place i))) (sym h.1) (taken i (omega (arith, m))), all_taken room view us (suc i) l (omega (arith, m)) h.2)
  where
    taken : (i : ℕ) → i < 4 + room.slots → Taken room (spot (argument_place i)) (Some u)
    taken zero q = omega (arith, l)
    taken (suc zero) q = omega (arith, l)
    taken (suc (suc zero)) q = omega (arith, l)
    taken (suc (suc (suc zero))) q = omega (arith, l)
    taken (suc (suc (suc (suc i)))) q = omega (arith, q)

module _ (room : Room) (ops : List Operation) where
  pub record Passed (vs : List ℕ) (w : Walker) (w' : Walker) : Type 0 where
    pub next : w'.next ≡ w.next
    pub named : w'.named ≡ w.named
    pub homes : (v : ℕ) → w'.view (home v) ≡ w.view (home v)
    pub aim : w'.view target ≡ w.view target
    pub uses : map w'.view (argument_spots 0 vs) ≡ map Some vs

  passed : (vs : List ℕ) (w : Walker) → 4 ≤ room.regs → length vs ≤ 4 + room.slots → AtHome room.values vs w.view → Passes room ops (passing vs) w × Passed vs w (walk ops (passing vs) w)
  passed [] w l m h = (tt, record { next = refl; named = refl; homes = λ v. refl; aim = refl; uses = refl })
  passed (v ∷ vs) w l m h = (
    ((distinct_moves (v ∷ vs) 0, all_taken room w.view (v ∷ vs) 0 l (omega (arith, m)) h), tt),
    record {
      next = refl;
      named = refl;
      homes = λ u. ap w.view (other_source (v ∷ vs) 0 (home u) (home_apart u));
      aim = ap w.view (other_source (v ∷ vs) 0 target target_apart);
      uses = arguments_stand room.values w.view (v ∷ vs) 0 h;
    },
  )

---- One operation

-- what an operation must be for its lines to be accepted
pub record IsFit (room : Room) (x : Lir) : Type 0 where
  pub call : x.call ≡ is_call x.template
  pub below : (v : ℕ) → has x.uses v ≡ true → v < room.values
  pub def_below : (v : ℕ) → x.def ≡ Some v → v < room.values
  pub few : x.call ≡ false → length x.uses ≤ 3
  pub aimed : is_aimed x.template ≡ true → 0 < length x.uses
  pub slots : x.call ≡ true → length (arguments (operation_of x)) ≤ 4 + room.slots

take_front : {A : Type 0} (xs ys : List A) (n : ℕ) → length xs ≡ n → take n (xs ++ ys) ≡ xs
take_front [] ys zero e = refl
take_front [] ys (suc n) e = absurd (omega (arith, e))
take_front (x ∷ xs) ys zero e = absurd (omega (arith, e))
take_front (x ∷ xs) ys (suc n) e = ap (λ z. x ∷ z) (take_front xs ys n (omega (arith, e)))

drop_front : {A : Type 0} (xs ys : List A) (n : ℕ) → length xs ≡ n → drop n (xs ++ ys) ≡ ys
drop_front [] ys zero e = refl
drop_front [] ys (suc n) e = absurd (omega (arith, e))
drop_front (x ∷ xs) ys zero e = absurd (omega (arith, e))
drop_front (x ∷ xs) ys (suc n) e = drop_front xs ys n (omega (arith, e))

below_both : (k : ℕ) (xs ys : List ℕ) → AllBelow k xs → AllBelow k ys → AllBelow k (xs ++ ys)
below_both k [] ys a b = b
below_both k (x ∷ xs) ys a b = (a.0, below_both k xs ys a.1 b)

length-def_regs : (d : Option ℕ) → length (def_regs d) ≡ one_def d
length-def_regs None = refl
length-def_regs (Some v) = refl

def_below : (k : ℕ) (d : Option ℕ) → 0 < k → AllBelow k (def_regs d)
def_below k None l = tt
def_below k (Some v) l = (l, tt)

module _ (room : Room) (ops : List Operation) (room_for : 4 ≤ room.regs) where
  -- before an operation is done, what it reads stands where it reads it
  pub record Reads (x : Lir) (i : ℕ) (rest : List ℕ) (w w' : Walker) : Type 0 where
    pub homes : (v : ℕ) → w'.view (home v) ≡ w.view (home v)
    pub can : Can room.regs (Some (operation_of x)) i w'
    pub spot_is : (v : ℕ) → x.def ≡ Some v → def_spot (operation_of x) w'.named ≡ reg 0
    pub named : drop (names (operation_of x)) w'.named ≡ rest
    pub next : w'.next ≡ i

  reads_plain : (x : Lir) (i : ℕ) (rest : List ℕ) (w : Walker) → IsFit room x → x.call ≡ false → w.next ≡ i → w.named ≡ (load_regs [] x.uses ++ def_regs x.def) ++ rest → AtHome room.values x.uses w.view
      → Passes room ops (loads [] x.uses) w × Reads x i rest w (walk ops (loads [] x.uses) w)
  reads_plain x i rest w fit plain at named homes =
      let few = fit.few plain in
      let s = loaded_all room ops [] x.uses w (λ j l. absurd (omega (arith, l))) homes (omega (arith, few, room_for)) in
      let off : is_call x.template ≡ false = sym fit.call ∙ plain in
      let size : length (load_regs [] x.uses ++ def_regs x.def) ≡ length x.uses + one_def x.def = length-append (load_regs [] x.uses) (def_regs x.def) ∙ ap₂ (λ a b. a + b) (length-load_regs [] x.uses) (length-def_regs x.def) in
      let names_are : names (operation_of x) ≡ length x.uses + one_def x.def = ap (λ b. cond b 0 (length x.uses + one_def x.def)) off in
      let all_named = s.named ∙ named in
      let spots : use_spots (operation_of x) (walk ops (loads [] x.uses) w).named ≡ map reg (load_regs [] x.uses) =
      ap (λ b. cond b (cond (is_aimed x.template) (target ∷ argument_spots 0 (drop 1 x.uses)) (argument_spots 0 x.uses)) (map reg (take (length x.uses) (walk ops (loads [] x.uses) w).named))) off
      ∙ ap (λ ns. map reg (take (length x.uses) ns)) (all_named ∙ append_assoc (load_regs [] x.uses) (def_regs x.def) rest)
      ∙ ap (map reg) (take_front (load_regs [] x.uses) (def_regs x.def ++ rest) (length x.uses) (length-load_regs [] x.uses)) in (
        s.passes,
        record {
          homes = s.homes;
          can = (
            sym (s.next ∙ at),
            (let a = ap length all_named in let b = length-append (load_regs [] x.uses ++ def_regs x.def) rest in omega (arith, a, b, size, names_are)),
            subst (AllBelow room.regs) (sym (ap₂ (λ n ns. take n ns) names_are all_named ∙ take_front (load_regs [] x.uses ++ def_regs x.def) rest (length x.uses + one_def x.def) size)) (below_both room.regs (load_regs [] x.uses) (def_regs x.def) s.below (def_below room.regs x.def (omega (arith, room_for)))),
            ap (map (walk ops (loads [] x.uses) w).view) spots ∙ map-map (walk ops (loads [] x.uses) w).view reg (load_regs [] x.uses) ∙ s.uses,
          );
          spot_is = λ v d. ap (λ b. cond b (reg 0) (reg (get_or (walk ops (loads [] x.uses) w).named (length x.uses) 0))) off
              ∙ ap (λ ns. reg (get_or ns (length x.uses) 0)) (all_named ∙ ap (λ o. (load_regs [] x.uses ++ def_regs o) ++ rest) d ∙ append_assoc (load_regs [] x.uses) (0 ∷ []) rest)
              ∙ ap reg (get_or_at (load_regs [] x.uses) 0 rest 0 (length x.uses) (length-load_regs [] x.uses));
          named = ap₂ (λ n ns. drop n ns) names_are all_named ∙ drop_front (load_regs [] x.uses ++ def_regs x.def) rest (length x.uses + one_def x.def) size;
          next = s.next ∙ at;
        },
      )

---- Loads in code

not_in : (xs : List ℕ) (v : ℕ) → index_of xs v ≡ length xs → has xs v ≡ false
not_in xs v e = at_test (has xs v) refl
  where
    at_test : (b : Bool) → has xs v ≡ b → b ≡ false
    at_test false h = refl
    at_test true h = let l = (index_in xs v h).0 in absurd (omega (arith, e, l))

is_in : (xs : List ℕ) (v : ℕ) → index_of xs v ≢ length xs → has xs v ≡ true
is_in xs v ne = at_test (has xs v) refl
  where
    at_test : (b : Bool) → has xs v ≡ b → b ≡ true
    at_test true h = refl
    at_test false h = absurd (ne (index_out xs v h))

pub load_new : (loaded : List ℕ) (v r index : ℕ) (lines lines' : List Line) → index ≡ index_of loaded v → index ≡ length loaded → r ≡ index → lines' ≡ lines ++ Load r v ∷ [] → lines' ≡ lines ++ load_of loaded v
load_new loaded v r index lines lines' i l e more = more ∙ ap (λ x. lines ++ Load x v ∷ []) (e ∙ l) ∙ ap (λ b. lines ++ cond b [] (Load (length loaded) v ∷ [])) (sym (not_in loaded v (sym i ∙ l)))

pub loaded_new : (loaded loaded' : List ℕ) (v index : ℕ) → index ≡ index_of loaded v → index ≡ length loaded → loaded' ≡ loaded ++ v ∷ [] → loaded' ≡ with_load loaded v
loaded_new loaded loaded' v index i l more = more ∙ ap (λ b. cond b loaded (loaded ++ v ∷ [])) (sym (not_in loaded v (sym i ∙ l)))

pub load_old : (loaded : List ℕ) (v index : ℕ) (lines : List Line) → index ≡ index_of loaded v → index ≢ length loaded → lines ≡ lines ++ load_of loaded v
load_old loaded v index lines i ne = sym (append-nil lines) ∙ ap (λ b. lines ++ cond b [] (Load (length loaded) v ∷ [])) (sym (is_in loaded v (λ e. ne (i ∙ e))))

pub loaded_old : (loaded : List ℕ) (v index : ℕ) → index ≡ index_of loaded v → index ≢ length loaded → loaded ≡ with_load loaded v
loaded_old loaded v index i ne = ap (λ b. cond b loaded (loaded ++ v ∷ [])) (sym (is_in loaded v (λ e. ne (i ∙ e))))

---- Calls

module _ (room : Room) (ops : List Operation) (room_for : 4 ≤ room.regs) where
  pub record Aimed (us : List ℕ) (w w' : Walker) : Type 0 where
    pub next : w'.next ≡ w.next
    pub named : w'.named ≡ w.named
    pub homes : (v : ℕ) → w'.view (home v) ≡ w.view (home v)
    pub uses : map w'.view (target ∷ argument_spots 0 (drop 1 us)) ≡ map Some us

  aimed_all : (us : List ℕ) (w : Walker) → 0 < length us → length (drop 1 us) ≤ 4 + room.slots → AtHome room.values us w.view → Passes room ops (aiming us ++ passing (drop 1 us)) w × Aimed us w (walk ops (aiming us ++ passing (drop 1 us)) w)
  aimed_all [] w some few homes = absurd (omega (arith, some))
  aimed_all (u ∷ us) w some few homes =
      let w1 = after ops (Target (Home u)) w in
      let p = passed room ops us w1 room_for few (home_after room.values us w.view w1.view (λ v. refl) homes.2) in (
        ((homes.0, subst (Taken room target) (sym homes.1) tt), p.0),
        record {
          next = p.1.next;
          named = p.1.named;
          homes = p.1.homes;
          uses = ap₂ (λ (x : Option ℕ) (y : List (Option ℕ)). x ∷ y) (p.1.aim ∙ homes.1) p.1.uses;
        },
      )

  reads_call : (x : Lir) (i : ℕ) (rest : List ℕ) (w : Walker) → IsFit room x → x.call ≡ true → w.next ≡ i → w.named ≡ rest → AtHome room.values x.uses w.view
      → Passes room ops (call_lines (is_aimed x.template) x.uses) w × Reads room ops room_for x i rest w (walk ops (call_lines (is_aimed x.template) x.uses) w)
  reads_call x i rest w fit calls at named homes = at_aimed (is_aimed x.template) refl
    where
      on : is_call x.template ≡ true
      on = sym fit.call ∙ calls

      none_named : names (operation_of x) ≡ 0
      none_named = ap (λ b. cond b 0 (length x.uses + one_def x.def)) on

      reads_at : (w' : Walker) → w'.next ≡ w.next → w'.named ≡ w.named → ((v : ℕ) → w'.view (home v) ≡ w.view (home v)) → map w'.view (cond (is_aimed x.template) (target ∷ argument_spots 0 (drop 1 x.uses)) (argument_spots 0 x.uses)) ≡ map Some x.uses → Reads room ops room_for x i rest w w'
      reads_at w' n m h u = record {
        homes = h;
        can = (
          sym (n ∙ at),
          (let z = none_named in omega (arith, z)),
          subst (λ k. AllBelow room.regs (take k w'.named)) (sym none_named) tt,
          ap (λ b. map w'.view (cond b (cond (is_aimed x.template) (target ∷ argument_spots 0 (drop 1 x.uses)) (argument_spots 0 x.uses)) (map reg (take (length x.uses) w'.named)))) on ∙ u,
        );
        spot_is = λ v d. ap (λ b. cond b (reg 0) (reg (get_or w'.named (length x.uses) 0))) on;
        named = ap (λ k. drop k w'.named) none_named ∙ m ∙ named;
        next = n ∙ at;
      }

      at_aimed : (b : Bool) → is_aimed x.template ≡ b → Passes room ops (call_lines b x.uses) w × Reads room ops room_for x i rest w (walk ops (call_lines b x.uses) w)
      at_aimed true e =
          let few : length (drop 1 x.uses) ≤ 4 + room.slots = subst (λ b. length (cond b (drop 1 x.uses) x.uses) ≤ 4 + room.slots) e (fit.slots calls) in
          let p = aimed_all x.uses w (fit.aimed e) few homes in
          (p.0, reads_at (walk ops (aiming x.uses ++ passing (drop 1 x.uses)) w) p.1.next p.1.named p.1.homes (ap (λ b. map (walk ops (aiming x.uses ++ passing (drop 1 x.uses)) w).view (cond b (target ∷ argument_spots 0 (drop 1 x.uses)) (argument_spots 0 x.uses))) e ∙ p.1.uses))
      at_aimed false e =
          let few : length x.uses ≤ 4 + room.slots = subst (λ b. length (cond b (drop 1 x.uses) x.uses) ≤ 4 + room.slots) e (fit.slots calls) in
          let p = passed room ops x.uses w room_for few homes in
          (p.0, reads_at (walk ops (passing x.uses) w) p.1.next p.1.named p.1.homes (ap (λ b. map (walk ops (passing x.uses) w).view (cond b (target ∷ argument_spots 0 (drop 1 x.uses)) (argument_spots 0 x.uses))) e ∙ p.1.uses))

  ---- An operation is done

  kept_home : (b : Bool) (v : ℕ) → kept b (home v) ≡ true
  kept_home true v = refl
  kept_home false v = refl

  is_def : Option ℕ → ℕ → Bool
  is_def o v = has (option_to_list o) v

  pub record Operated (x : Lir) (i : ℕ) (rest : List ℕ) (avail : ℕ → Bool) (w' : Walker) : Type 0 where
    pub next : w'.next ≡ suc i
    pub named : w'.named ≡ rest
    pub homes : (v : ℕ) → (has (option_to_list x.def) v || avail v) ≡ true → w'.view (home v) ≡ Some v

  done : (x : Lir) (i : ℕ) (rest : List ℕ) (avail : ℕ → Bool) (w w1 : Walker) → IsFit room x → slice_get ops i ≡ Some (operation_of x) → ((v : ℕ) → avail v ≡ true → w.view (home v) ≡ Some v) → Reads room ops room_for x i rest w w1
      → Passes room ops (Does i ∷ stores x.def) w1 × Operated x i rest avail (walk ops (Does i ∷ stores x.def) w1)
  done x i rest avail w w1 fit at homes r =
      subst (λ o. (Can room.regs o i w1 × Passes room ops (stores x.def) (perform o w1)) × Operated x i rest avail (walk ops (stores x.def) (perform o w1))) (sym at) (let s = at_def x.def refl in ((r.can, s.0), s.1))
    where
      behind : (o : Option ℕ) → Walker
      behind o = record { next = suc w1.next; named = drop (names (operation_of x)) w1.named; view = defined o (def_spot (operation_of x) w1.named) (left (is_call x.template) w1.view) }

      stays : (v : ℕ) → avail v ≡ true → left (is_call x.template) w1.view (home v) ≡ Some v
      stays v a = ap (λ b. cond b (w1.view (home v)) None) (kept_home (is_call x.template) v) ∙ r.homes v ∙ homes v a

      at_def : (o : Option ℕ) → x.def ≡ o → Passes room ops (stores o) (record { next = suc w1.next; named = drop (names (operation_of x)) w1.named; view = defined o (def_spot (operation_of x) w1.named) (left (is_call x.template) w1.view) }) × Operated x i rest avail (walk ops (stores o) (record { next = suc w1.next; named = drop (names (operation_of x)) w1.named; view = defined o (def_spot (operation_of x) w1.named) (left (is_call x.template) w1.view) }))
      at_def None e = (tt, record { next = ap suc r.next; named = r.named; homes = λ v a. stays v (sym (ap (λ o. has (option_to_list o) v || avail v) e) ∙ a) })
      at_def (Some d) e = (
        ((omega (arith, room_for), fit.def_below d e, here), tt),
        record { next = ap suc r.next; named = r.named; homes = λ v a. at_value v (d == v) refl (sym (ap (λ o. has (option_to_list o) v || avail v) e) ∙ a) },
      )
        where
          view2 : Spot → Option ℕ
          view2 p = cond (same p (def_spot (operation_of x) w1.named)) (Some d) (without d (left (is_call x.template) w1.view p))

          here : cond (same (reg 0) (def_spot (operation_of x) w1.named)) (Some d) (without d (left (is_call x.template) w1.view (reg 0))) ≡ Some d
          here = ap (λ s. cond (same (reg 0) s) (Some d) (without d (left (is_call x.template) w1.view (reg 0)))) (r.spot_is d e)

          elsewhere : (v : ℕ) → cond (same (home v) (def_spot (operation_of x) w1.named)) (Some d) (without d (left (is_call x.template) w1.view (home v))) ≡ without d (left (is_call x.template) w1.view (home v))
          elsewhere v = ap (λ s. cond (same (home v) s) (Some d) (without d (left (is_call x.template) w1.view (home v)))) (r.spot_is d e)

          at_value : (v : ℕ) (b : Bool) → (d == v) ≡ b → (cond (d == v) true false || avail v) ≡ true
              → cond (same (cond (v == d) (reg 0) (home v)) (def_spot (operation_of x) w1.named)) (Some d) (without d (left (is_call x.template) w1.view (cond (v == d) (reg 0) (home v)))) ≡ Some v
          at_value v true t a =
              let u : (v == d) ≡ true = eq-eqb v d (sym (eqb-true d v t)) in
              ap (λ c. cond (same (cond c (reg 0) (home v)) (def_spot (operation_of x) w1.named)) (Some d) (without d (left (is_call x.template) w1.view (cond c (reg 0) (home v))))) u ∙ here ∙ ap Some (eqb-true d v t)
          at_value v false t a =
              let u : (v == d) ≡ false = apart v d (λ q. unequal d v t (sym q)) in
              let av : avail v ≡ true = sym (ap (λ c. cond c true false || avail v) t) ∙ a in
              ap (λ c. cond (same (cond c (reg 0) (home v)) (def_spot (operation_of x) w1.named)) (Some d) (without d (left (is_call x.template) w1.view (cond c (reg 0) (home v))))) u
              ∙ elsewhere v ∙ ap (without d) (stays v av) ∙ ap (λ c. cond c None (Some v)) u

  operated : (x : Lir) (i : ℕ) (rest : List ℕ) (avail : ℕ → Bool) (w : Walker) → IsFit room x → slice_get ops i ≡ Some (operation_of x) → w.next ≡ i → w.named ≡ lir_regs x ++ rest → ((v : ℕ) → avail v ≡ true → w.view (home v) ≡ Some v) → ((v : ℕ) → has x.uses v ≡ true → avail v ≡ true)
      → Passes room ops (lir_lines i x) w × Operated x i rest avail (walk ops (lir_lines i x) w)
  operated x i rest avail w fit at next named homes reads_here =
      let r = reading x.call refl in
      let d = done x i rest avail w (walk ops (reading_lines x) w) fit at homes r.1 in
      (passes-append room ops (reading_lines x) (Does i ∷ stores x.def) w r.0 d.0, subst (Operated x i rest avail) (sym (walk-append room ops (reading_lines x) (Does i ∷ stores x.def) w)) d.1)
    where
      at_homes : AtHome room.values x.uses w.view
      at_homes = at_home room.values x.uses w.view (λ v h. (fit.below v h, homes v (reads_here v h)))

      reading : (b : Bool) → x.call ≡ b → Passes room ops (cond b (call_lines (is_aimed x.template) x.uses) (loads [] x.uses)) w × Reads room ops room_for x i rest w (walk ops (cond b (call_lines (is_aimed x.template) x.uses) (loads [] x.uses)) w)
      reading true e = reads_call x i rest w fit e next (named ∙ ap (λ b. cond b [] (load_regs [] x.uses ++ def_regs x.def) ++ rest) e) at_homes
      reading false e = reads_plain room ops room_for x i rest w fit e next (named ∙ ap (λ b. cond b [] (load_regs [] x.uses ++ def_regs x.def) ++ rest) e) at_homes

  ---- All operations

  abbrev pub AllFit : List Lir → Type 0
  AllFit [] = Unit {0}
  AllFit (x ∷ xs) = IsFit room x × AllFit xs

  abbrev pub Follows : ℕ → List Lir → Type 0
  Follows i [] = Unit {0}
  Follows i (x ∷ xs) = (slice_get ops i ≡ Some (operation_of x)) × Follows (suc i) xs

  pub record Through (xs : List Lir) (i : ℕ) (rest : List ℕ) (avail : ℕ → Bool) (w' : Walker) : Type 0 where
    pub next : w'.next ≡ i + length xs
    pub named : w'.named ≡ rest
    pub homes : (v : ℕ) → (has (defs_of (map operation_of xs)) v || avail v) ≡ true → w'.view (home v) ≡ Some v

  pub through : (xs : List Lir) (i : ℕ) (rest : List ℕ) (end : End) (avail : ℕ → Bool) (w : Walker) → AllFit xs → Follows i xs → w.next ≡ i → w.named ≡ lirs_regs xs ++ rest → ((v : ℕ) → avail v ≡ true → w.view (home v) ≡ Some v) → ((v : ℕ) → reads (map operation_of xs) end v ≡ true → avail v ≡ true)
      → Passes room ops (lirs_lines i xs) w × Through xs i rest avail (walk ops (lirs_lines i xs) w)
  through [] i rest end avail w fit at next named homes wants = (tt, record { next = next ∙ (let z : i ≡ i + 0 = omega arith in z); named = named; homes = homes })
  through (x ∷ xs) i rest end avail w fit at next named homes wants =
      let o = operated x i (lirs_regs xs ++ rest) avail w fit.0 at.0 next (named ∙ append_assoc (lir_regs x) (lirs_regs xs) rest) homes (λ v h. wants v (ap (λ b. cond b true (cond (has (option_to_list x.def) v) false (reads (map operation_of xs) end v))) h)) in
      let w1 = walk ops (lir_lines i x) w in
      let t = through xs (suc i) rest end (λ v. has (option_to_list x.def) v || avail v) w1 fit.1 at.1 o.1.next o.1.named o.1.homes (λ v h. still v (has (option_to_list x.def) v) refl h) in (
        passes-append room ops (lir_lines i x) (lirs_lines (suc i) xs) w o.0 t.0,
        subst (Through (x ∷ xs) i rest avail) (sym (walk-append room ops (lir_lines i x) (lirs_lines (suc i) xs) w)) (record {
          next = t.1.next ∙ (let z : suc i + length xs ≡ i + suc (length xs) = omega arith in z);
          named = t.1.named;
          homes = λ v h. t.1.homes v (turn (has (option_to_list x.def) v) (has (defs_of (map operation_of xs)) v) (avail v) (sym (ap (λ b. b || avail v) (has-append (option_to_list x.def) (defs_of (map operation_of xs)) v)) ∙ h));
        }),
      )
    where
      turn : (a b c : Bool) → ((a || b) || c) ≡ true → (b || (a || c)) ≡ true
      turn true true c h = refl
      turn true false c h = refl
      turn false true c h = refl
      turn false false c h = h

      still : (v : ℕ) (b : Bool) → has (option_to_list x.def) v ≡ b → reads (map operation_of xs) end v ≡ true → (b || avail v) ≡ true
      still v true e h = refl
      still v false e h = wants v (read_later (has x.uses v))
        where
          read_later : (c : Bool) → cond c true (cond (has (option_to_list x.def) v) false (reads (map operation_of xs) end v)) ≡ true
          read_later true = refl
          read_later false = ap (λ z. cond z false (reads (map operation_of xs) end v)) e ∙ h

  pub follows : (before : List Operation) (xs : List Lir) → ops ≡ before ++ map operation_of xs → Follows (length before) xs
  follows before [] e = tt
  follows before (x ∷ xs) e = (
    ap (λ os. slice_get os (length before)) e ∙ at_length before (map operation_of xs) (operation_of x),
    subst (λ n. Follows n xs) (let a = length-append before (operation_of x ∷ []) in let z : length (before ++ operation_of x ∷ []) ≡ suc (length before) = omega (arith, a) in z) (follows (before ++ operation_of x ∷ []) xs (e ∙ sym (append_assoc before (operation_of x ∷ []) (map operation_of xs)))),
  )
    where
      at_length : (xs ys : List Operation) (o : Operation) → slice_get (xs ++ o ∷ ys) (length xs) ≡ Some o
      at_length [] ys o = refl
      at_length (x ∷ xs) ys o = at_length xs ys o

  ---- A node

  reads_end : (end : End) (v : ℕ) → has (end_reads end) v ≡ true → has (end_uses end) v ≡ true
  reads_end (Jump to args) v h = cc
  reads_end (Branch k a b one other) v h = h
  reads_end (Nonzero a one other) v h = h
  reads_end (Return None) v h = h
  reads_end (Return (Some a)) v h = h
  reads_end (Trap kind) v h = h

  few_reads : (end : End) → length (end_reads end) ≤ 2
  few_reads (Jump to args) = omega arith
  few_reads (Branch k a b one other) = omega arith
  few_reads (Nonzero a one other) = omega arith
  few_reads (Return None) = omega arith
  few_reads (Return (Some a)) = omega arith
  few_reads (Trap kind) = omega arith

  no_register : (k r v : ℕ) → get (replicate k None) r ≡ Some v → ⊥
  no_register zero r v e = cc
  no_register (suc k) zero v e = cc
  no_register (suc k) (suc r) v e = no_register k r v e

  -- start places have what is read, end places no more than what was there or was made
  pub walks : (xs : List Lir) (end : End) (homed homed_end : List ℕ) → ops ≡ map operation_of xs → AllFit xs
      → ((v : ℕ) → has (end_uses end) v ≡ true → v < room.values)
      → ((v : ℕ) → reads (map operation_of xs) end v ≡ true → has homed v ≡ true)
      → ((v : ℕ) → has homed_end v ≡ true → (has (defs_of (map operation_of xs)) v || has homed v) ≡ true)
      → ((v : ℕ) → has (end_uses end) v ≡ true → (has (defs_of (map operation_of xs)) v || has homed v) ≡ true)
      → Walks room ops (end_reads end) (in_homes room.regs homed) (lirs_lines 0 xs ++ loads [] (end_reads end)) (lirs_regs xs ++ load_regs [] (end_reads end)) (in_homes room.regs homed_end)
  walks xs end homed homed_end all fit below wants ends read =
      let w0 = begin (in_homes room.regs homed) (lirs_regs xs ++ load_regs [] (end_reads end)) in
      let t = through xs 0 (load_regs [] (end_reads end)) end (has homed) w0 fit (follows [] xs all) refl refl (λ v h. ap (λ b. cond b (Some v) None) h) wants in
      let w1 = walk ops (lirs_lines 0 xs) w0 in
      let few = few_reads end in
      let s = loaded_all room ops [] (end_reads end) w1 (λ j l. absurd (omega (arith, l))) (at_home room.values (end_reads end) w1.view (λ v h. (below v (reads_end end v h), t.1.homes v (read v (reads_end end v h))))) (omega (arith, few, room_for)) in
      let size : length ops ≡ length xs = ap length all ∙ length-map xs operation_of in
      let next = s.next ∙ t.1.next in
      record {
        passes = passes-append room ops (lirs_lines 0 xs) (loads [] (end_reads end)) w0 t.0 s.passes;
        finishes = subst (Finishes room.regs ops (end_reads end) (in_homes room.regs homed_end)) (sym (walk-append room ops (lirs_lines 0 xs) (loads [] (end_reads end)) w0)) (record {
          done = next ∙ (let z : 0 + length xs ≡ length ops = omega (arith, size) in z);
          in_range = subst (AllBelow room.regs) (sym (s.named ∙ t.1.named)) s.below;
          uses = ap (map (λ r. (walk ops (loads [] (end_reads end)) w1).view (reg r))) (s.named ∙ t.1.named) ∙ s.uses;
          places = λ p v e. at_spot w1 (walk ops (loads [] (end_reads end)) w1) s.homes t.1.homes p v e;
        });
      }
    where
      marked : (b : Bool) (u v : ℕ) → cond b (Some u) None ≡ Some v → (b ≡ true) × (u ≡ v)
      marked true u v e = (refl, cc)
      marked false u v e = cc

      at_spot : (w1 w2 : Walker) → ((v : ℕ) → w2.view (home v) ≡ w1.view (home v)) → ((v : ℕ) → (has (defs_of (map operation_of xs)) v || has homed v) ≡ true → w1.view (home v) ≡ Some v) → (p : Spot) (v : ℕ) → view_of (in_homes room.regs homed_end) p ≡ Some v → w2.view p ≡ Some v
      at_spot w1 w2 same_home there (reg r) v e = absurd (no_register room.regs r v e)
      at_spot w1 w2 same_home there (home u) v e = let m = marked (has homed_end u) u v e in same_home u ∙ there u (ends u m.0) ∙ ap Some m.1
      at_spot w1 w2 same_home there (out x) v e = cc
      at_spot w1 w2 same_home there target v e = cc
      at_spot w1 w2 same_home there saved v e = cc
