-- What lines change in what stands where, seen by spots.
use Rattle.std.proofs.Common.{◌≡◌, ℕ, zero, suc, ◌<◌, Bool, true, false, ◌&&◌, not, cond, List, [], ◌∷◌, map, length, get_or, set, Option, Some, None, refl, sym, ap, ◌∙◌, arith}
use Rattle.std.specs.Prelude.{◌==◌, nat_lt}
use Rattle.std.specs.List.{list_all}
use Rattle.std.proofs.lemmas.Bool.{ltb-true, eqb-true, and_parts}
use Rattle.std.proofs.Math.ListN.{get_or-map}
use Rattle.std.proofs.Math.Path.{fun_ext}
use Rattle.std.proofs.lemmas.List.{length-set, length-map}
use Rattle.block_runs.specs.Blocks.{Operation}
use Rattle.block_runs.specs.Live.{has}
use Rattle.block_runs.specs.Valid.{is_call}
use Rattle.lir_core.specs.declared.places.Place.{Place}
use Rattle.lir_core.specs.declared.places.Place.TheVariants.{Reg, Home, Out}
use Rattle.lir_core.specs.declared.places.Move.{Move}
use Rattle.lir_core.specs.declared.places.Line.TheVariants.{Result, Target}
use Rattle.lir_core.specs.Spots.{Spot, reg, home, out, target, saved, spot, same, source, get, put}
use Rattle.lir_core.specs.Lines.{def_spot, line_source, Room}
use Rattle.lir_core.specs.Walks.{Walker, left, without, defined}
use Rattle.global_live.proofs.Lists.{has-filter}
use Rattle.loc_state.specs.Homed.{inserted, others}
use Rattle.loc_state.proofs.Homing.{has_inserted}
use Rattle.alloc_audit.specs.Tests.{can_take, can_move}
use Rattle.alloc_audit.specs.Holdings.{Holdings, view_at, room_at, given, all_given, result_taken, aimed, left_by, made, maybe_made, def_register, done_by}
use Rattle.loc_state.proofs.Numbers.{get_set, numbers_turned}

-- a value that came from a spot
pub from_spot : (h : Holdings) (b : Bool) (p q : Spot) (v : ℕ) → view_at h q ≡ Some v → cond b (Some v) (view_at h p) ≡ view_at h (cond b q p)
from_spot h true p q v e = sym e
from_spot h false p q v e = refl

home_given : (u v x : ℕ) (homes : List ℕ) → u ≡ v → cond (has (inserted u homes) x) (Some x) None ≡ cond (x == u) (Some v) (cond (has homes x) (Some x) None)
home_given u v x homes e = by (u == x) refl
  where
    by : (b : Bool) → (u == x) ≡ b → cond (has (inserted u homes) x) (Some x) None ≡ cond (x == u) (Some v) (cond (has homes x) (Some x) None)
    by true q =
        let a : has (inserted u homes) x ≡ true = has_inserted u homes x ∙ ap (λ b. cond b true (has homes x)) q in
        let b : (x == u) ≡ true = numbers_turned x u ∙ q in
        let d : x ≡ v = sym (eqb-true u x q) ∙ e in
        rw (a, b) (ap Some d)
    by false q =
        let a : has (inserted u homes) x ≡ has homes x = has_inserted u homes x ∙ ap (λ b. cond b true (has homes x)) q in
        let b : (x == u) ≡ false = numbers_turned x u ∙ q in
        rw (a, b) refl

pub view_given : (values : ℕ) (to : Place) (v : ℕ) (h : Holdings) → can_take (room_at values h) (spot to) (Some v) ≡ true → (p : Spot) → view_at (given to v h) p ≡ cond (same p (spot to)) (Some v) (view_at h p)
view_given values (Reg r) v h e (reg x) = get_set h.regs r x (Some v) (ltb-true _ _ e)
view_given values (Reg r) v h e (home x) = refl
view_given values (Reg r) v h e (out x) = refl
view_given values (Reg r) v h e target = refl
view_given values (Reg r) v h e saved = refl
view_given values (Home u) v h e (reg x) = refl
view_given values (Home u) v h e (home x) = home_given u v x h.homes (eqb-true u v (and_parts (u == v) (nat_lt u values) e).0)
view_given values (Home u) v h e (out x) = refl
view_given values (Home u) v h e target = refl
view_given values (Home u) v h e saved = refl
view_given values (Out s) v h e (reg x) = refl
view_given values (Out s) v h e (home x) = refl
view_given values (Out s) v h e (out x) = get_set h.slots s x (Some v) (ltb-true _ _ e)
view_given values (Out s) v h e target = refl
view_given values (Out s) v h e saved = refl

pub room_given : (values : ℕ) (to : Place) (v : ℕ) (h : Holdings) → room_at values (given to v h) ≡ room_at values h
room_given values (Reg r) v h = ap (λ n. let x : Room = record { regs = n; slots = length h.slots; values = values } in x) (length-set h.regs r (Some v))
room_given values (Home u) v h = refl
room_given values (Out s) v h = ap (λ n. let x : Room = record { regs = length h.regs; slots = n; values = values } in x) (length-set h.slots s (Some v))

pub room_all : (values : ℕ) (ms : List Move) (vs : List ℕ) (h : Holdings) → room_at values (all_given ms vs h) ≡ room_at values h
room_all values [] vs h = refl
room_all values (m ∷ ms) [] h = refl
room_all values (m ∷ ms) (v ∷ vs) h = room_given values m.to v (all_given ms vs h) ∙ room_all values ms vs h

-- a move that can be made, with what stands where it takes it
pub takes_at : (room : Room) (view : Spot → Option ℕ) (m : Move) (v : ℕ) → view (spot m.from) ≡ Some v → can_move room view m ≡ true → can_take room (spot m.to) (Some v) ≡ true
takes_at room view m v e h = ap (can_take room (spot m.to)) (sym e) ∙ (and_parts _ (can_take room (spot m.to) (view (spot m.from))) h).1

pub view_all : (values : ℕ) (h : Holdings) (ms : List Move) (vs : List ℕ) → list_all (can_move (room_at values h) (view_at h)) ms ≡ true → map Some vs ≡ map (λ m. view_at h (spot m.from)) ms
    → (p : Spot) → view_at (all_given ms vs h) p ≡ view_at h (source ms p)
view_all values h [] vs a e p = refl
view_all values h (m ∷ ms) [] a e p = cc
view_all values h (m ∷ ms) (v ∷ vs) a e p =
    let b = and_parts (can_move (room_at values h) (view_at h) m) (list_all (can_move (room_at values h) (view_at h)) ms) a in
    let f : view_at h (spot m.from) ≡ Some v = cc in
    let g : map Some vs ≡ map (λ m. view_at h (spot m.from)) ms = cc in
    let t : can_take (room_at values (all_given ms vs h)) (spot m.to) (Some v) ≡ true = ap (λ r. can_take r (spot m.to) (Some v)) (room_all values ms vs h) ∙ takes_at (room_at values h) (view_at h) m v f b.0 in
    view_given values m.to v (all_given ms vs h) t p
    ∙ ap (cond (same p (spot m.to)) (Some v)) (view_all values h ms vs b.1 g p)
    ∙ from_spot h (same p (spot m.to)) (source ms p) (spot m.from) v f

pub view_result : (r : ℕ) (h : Holdings) → r < length h.regs → (p : Spot) → view_at (result_taken r h) p ≡ cond (same p (reg 0)) None (view_at h (line_source (Result r) p))
view_result r h lt (reg x) =
    let some : 0 < length (set h.regs r (get h.regs 0)) = omega (arith, lt, length-set h.regs r (get h.regs 0)) in
    get_set (set h.regs r (get h.regs 0)) 0 x None some ∙ ap (cond (x == 0) None) (get_set h.regs r x (get h.regs 0) lt ∙ by (x == r))
  where
    by : (b : Bool) → cond b (get h.regs 0) (get h.regs x) ≡ view_at h (cond b (reg 0) (reg x))
    by true = refl
    by false = refl
view_result r h lt (home x) = refl
view_result r h lt (out x) = refl
view_result r h lt target = refl
view_result r h lt saved = refl

pub view_aimed : (from : Place) (h : Holdings) (p : Spot) → view_at (aimed (view_at h (spot from)) h) p ≡ view_at h (line_source (Target from) p)
view_aimed from h (reg x) = refl
view_aimed from h (home x) = refl
view_aimed from h (out x) = refl
view_aimed from h target = refl
view_aimed from h saved = refl

---- Operations

all_none : (xs : List (Option ℕ)) (i : ℕ) → get (map (λ x. None) xs) i ≡ None
all_none [] i = refl
all_none (x ∷ xs) zero = refl
all_none (x ∷ xs) (suc i) = all_none xs i

view_left : (call : Bool) (h : Holdings) (p : Spot) → view_at (left_by call h) p ≡ left call (view_at h) p
view_left true h (reg x) = all_none h.regs x
view_left true h (home x) = refl
view_left true h (out x) = all_none h.slots x
view_left true h target = refl
view_left true h saved = refl
view_left false h (reg x) = refl
view_left false h (home x) = refl
view_left false h (out x) = refl
view_left false h target = refl
view_left false h saved = refl

home_made : (v x : ℕ) (homes : List ℕ) → cond (has (others v homes) x) (Some x) None ≡ without v (cond (has homes x) (Some x) None)
home_made v x homes = ap (λ b. cond b (Some x) None) (has-filter (λ y. not (y == v)) homes x) ∙ by (has homes x) (x == v) refl
  where
    by : (a b : Bool) → (x == v) ≡ b → cond (a && not b) (Some x) None ≡ without v (cond a (Some x) None)
    by false b e = refl
    by true true e = ap (λ z. cond z None (Some x)) (sym e)
    by true false e = ap (λ z. cond z None (Some x)) (sym e)

view_made : (r v : ℕ) (h : Holdings) → r < length h.regs → (p : Spot) → view_at (made r v h) p ≡ put (λ q. without v (view_at h q)) (reg r) (Some v) p
view_made r v h lt (reg x) =
    let some : r < length (map (without v) h.regs) = omega (arith, lt, length-map h.regs (without v)) in
    get_set (map (without v) h.regs) r x (Some v) some ∙ ap (cond (x == r) (Some v)) (get_or-map (without v) h.regs x None)
view_made r v h lt (home x) = home_made v x h.homes
view_made r v h lt (out x) = get_or-map (without v) h.slots x None
view_made r v h lt target = refl
view_made r v h lt saved = refl

-- the register of a definition is there
abbrev pub HasDef : Operation → List ℕ → ℕ → Type 0
HasDef op named count = (v : ℕ) → op.def ≡ Some v → def_register op named < count

def_is : (op : Operation) (named : List ℕ) → def_spot op named ≡ reg (def_register op named)
def_is op named = by (is_call op.code)
  where
    by : (b : Bool) → cond b (reg 0) (reg (get_or named (length op.uses) 0)) ≡ reg (cond b 0 (get_or named (length op.uses) 0))
    by true = refl
    by false = refl

abbrev nothing : Option ℕ → Option ℕ
nothing x = None

length_left : (call : Bool) (h : Holdings) → length (left_by call h).regs ≡ length h.regs
length_left true h = length-map h.regs nothing
length_left false h = refl

pub view_done : (op : Operation) (named : List ℕ) (h : Holdings) → HasDef op named (length h.regs) → (p : Spot) → view_at (done_by op named h) p ≡ defined op.def (def_spot op named) (left (is_call op.code) (view_at h)) p
view_done op named h has_def p = by op.def refl
  where
    by : (o : Option ℕ) → op.def ≡ o → view_at (maybe_made (def_register op named) o (left_by (is_call op.code) h)) p ≡ defined o (def_spot op named) (left (is_call op.code) (view_at h)) p
    by None e = view_left (is_call op.code) h p
    by (Some v) e =
        let r = def_register op named in
        view_made r v (left_by (is_call op.code) h) (omega (arith, has_def v e, length_left (is_call op.code) h)) p
        ∙ ap (λ o. cond (same p (reg r)) (Some v) (without v o)) (view_left (is_call op.code) h p)
        ∙ ap (λ d. cond (same p d) (Some v) (without v (left (is_call op.code) (view_at h) p))) (sym (def_is op named))

pub room_left : (values : ℕ) (call : Bool) (h : Holdings) → room_at values (left_by call h) ≡ room_at values h
room_left values true h =
    ap (λ n. let x : Room = record { regs = n; slots = length (map nothing h.slots); values = values } in x) (length-map h.regs nothing)
    ∙ ap (λ n. let x : Room = record { regs = length h.regs; slots = n; values = values } in x) (length-map h.slots nothing)
room_left values false h = refl

pub room_made : (values r : ℕ) (o : Option ℕ) (h : Holdings) → room_at values (maybe_made r o h) ≡ room_at values h
room_made values r None h = refl
room_made values r (Some v) h =
    ap (λ n. let x : Room = record { regs = n; slots = length (map (without v) h.slots); values = values } in x) (length-set (map (without v) h.regs) r (Some v) ∙ length-map h.regs (without v))
    ∙ ap (λ n. let x : Room = record { regs = length h.regs; slots = n; values = values } in x) (length-map h.slots (without v))

---- Walkers

abbrev pub walker : ℕ → List ℕ → (Spot → Option ℕ) → Walker
walker next named view = record { next = next; named = named; view = view }

pub same_walker : (next next' : ℕ) (named named' : List ℕ) (view view' : Spot → Option ℕ) → next ≡ next' → named ≡ named' → ((p : Spot) → view p ≡ view' p)
    → walker next named view ≡ walker next' named' view'
same_walker next next' named named' view view' e f g = ap (λ n. walker n named view) e ∙ ap (λ ns. walker next' ns view) f ∙ ap (walker next' named') (fun_ext g)
