-- One step of the loops over moves, arguments and lines.
use Rattle.std.proofs.Common.{◌≡◌, ℕ, zero, suc, ◌+◌, ◌-◌, ◌<◌, ◌≤◌, Bool, true, false, ◌&&◌, ◌||◌, not, cond, List, [], ◌∷◌, length, drop, get_or, Option, Some, None, refl, sym, ap, ◌∙◌, arith, add-one, drop-cons}
use Rattle.std.specs.Prelude.{◌==◌}
use Rattle.block_runs.specs.Live.{has}
use Rattle.std.proofs.lemmas.Bool.{and_parts, and_from, false_from_ne_true}
use Rattle.std.proofs.Math.ListN.{drop_of_length-le}
use Rattle.block_runs.specs.Blocks.{Operation}
use Rattle.lir_core.specs.declared.places.Move.{Move}
use Rattle.lir_core.specs.declared.places.Line.{Line}
use Rattle.lir_core.specs.Spots.{Spot, reg, home, out, target, saved, spot, same}
use Rattle.lir_core.specs.Lines.{argument_spot, argument_spots, Room}
use Rattle.lir_core.specs.Walks.{after, walk}
use Rattle.alloc_audit.specs.declared.walk.Walk.{Walk}
use Rattle.alloc_audit.specs.declared.destinations.Destinations.{Destinations}
use Rattle.alloc_audit.specs.Destinations.{is_taken}
use Rattle.loc_state.specs.Homed.{inserted}
use Rattle.loc_state.proofs.Homing.{has_inserted}
use Rattle.loc_state.proofs.Numbers.{numbers_turned}
use Rattle.alloc_audit.specs.Tests.{is_value, stand, can_take, is_free, are_distinct, first_unfit}
use Rattle.alloc_audit.specs.Holdings.{Holdings, given, all_given, room_in, walker_of}
use Rattle.alloc_audit.specs.Moving.{Tried}

pub at_front : {A : Type 0} (xs : List A) (i : ℕ) (x : A) → i < length xs → x ≡ get_or xs i x → drop i xs ≡ x ∷ drop (i + 1) xs
at_front xs i x lt is = drop-cons xs i x lt ∙ ap (λ y. y ∷ drop (suc i) xs) (sym is) ∙ ap (λ j. x ∷ drop j xs) (sym (add-one i))

pub default_any : {A : Type 0} (xs : List A) (i : ℕ) (d e : A) → i < length xs → get_or xs i d ≡ get_or xs i e
default_any [] i d e lt = absurd (omega arith)
default_any (x ∷ xs) zero d e lt = refl
default_any (x ∷ xs) (suc i) d e lt = default_any xs i d e (omega arith)

---- Destinations

distinct_behind : (ms : List Move) (i : ℕ) → are_distinct ms ≡ true → are_distinct (drop i ms) ≡ true
distinct_behind ms zero e = e
distinct_behind [] (suc i) e = refl
distinct_behind (m ∷ ms) (suc i) e = distinct_behind ms i (and_parts (is_free (spot m.to) ms) (are_distinct ms) e).1

pub not_distinct_at : (ms : List Move) (i : ℕ) (m : Move) → i < length ms → m ≡ get_or ms i m → is_free (spot m.to) (drop (i + 1) ms) ≡ false → are_distinct ms ≡ false
not_distinct_at ms i m lt is e = false_from_ne_true (are_distinct ms) (λ t.
    let a = ap are_distinct (sym (at_front ms i m lt is)) ∙ distinct_behind ms i t in
    let b = (and_parts (is_free (spot m.to) (drop (i + 1) ms)) (are_distinct (drop (i + 1) ms)) a).0 in
    cc)

pub taken_twice : (ms : List Move) (at : ℕ) (d : Move) (seen : Destinations) (b : Bool) → 0 < at → at ≤ length ms → ((p : Spot) → is_free p (drop at ms) ≡ not (is_taken seen p)) → b ≡ is_taken seen (spot (get_or ms (at - 1) d).to) → b ≡ true → false ≡ are_distinct ms
taken_twice ms at d seen b some le h e t =
    let m = get_or ms (at - 1) d in
    let lt : at - 1 < length ms = omega arith in
    let same_at : m ≡ get_or ms (at - 1) m = default_any ms (at - 1) d m lt in
    let j : at - 1 + 1 ≡ at = omega arith in
    let f : is_free (spot m.to) (drop (at - 1 + 1) ms) ≡ false = ap (λ i. is_free (spot m.to) (drop i ms)) j ∙ h (spot m.to) ∙ ap not (sym e ∙ t) in
    sym (not_distinct_at ms (at - 1) m lt same_at f)

pub distinct_more : (ms : List Move) (i : ℕ) (m : Move) → i < length ms → m ≡ get_or ms i m → is_free (spot m.to) (drop (i + 1) ms) ≡ true → are_distinct (drop (i + 1) ms) ≡ true → are_distinct (drop i ms) ≡ true
distinct_more ms i m lt is e f = ap are_distinct (at_front ms i m lt is) ∙ and_from _ _ e f

pub taken_more : (ms : List Move) (i : ℕ) (m : Move) (old new : Spot → Bool) → i < length ms → m ≡ get_or ms i m → ((p : Spot) → is_free p (drop (i + 1) ms) ≡ not (old p)) → ((p : Spot) → new p ≡ (same p (spot m.to) || old p))
    → (p : Spot) → is_free p (drop i ms) ≡ not (new p)
taken_more ms i m old new lt is h g p =
    ap (is_free p) (at_front ms i m lt is) ∙ ap (λ b. not (same p (spot m.to)) && b) (h p) ∙ by (same p (spot m.to)) (old p) ∙ ap not (sym (g p))
  where
    by : (a b : Bool) → (not a && not b) ≡ not (a || b)
    by true b = refl
    by false b = refl

---- Moves

pub can_be_made : (room : Room) (to : Spot) (b : Bool) (o : Option ℕ) (v : ℕ) → cond b o None ≡ Some v → can_take room to (Some v) ≡ true → (b && can_take room to o) ≡ true
can_be_made room to true o v e f = ap (can_take room to) e ∙ f
can_be_made room to false o v e f = cc

pub has_nothing : (room : Room) (to : Spot) (b : Bool) (o : Option ℕ) → cond b o None ≡ None → can_take room to None ≡ false → (b && can_take room to o) ≡ false
has_nothing room to true o e f = ap (can_take room to) e ∙ f
has_nothing room to false o e f = refl

pub cant_be_made : (room : Room) (to : Spot) (b : Bool) (o : Option ℕ) (v : ℕ) → cond b o None ≡ Some v → can_take room to (Some v) ≡ false → (b && can_take room to o) ≡ false
cant_be_made room to true o v e f = ap (can_take room to) e ∙ f
cant_be_made room to false o v e f = cc

pub given_more : (ms : List Move) (vs : List ℕ) (h : Holdings) (i : ℕ) (m : Move) (v : ℕ) → i < length ms → i < length vs → m ≡ get_or ms i m → v ≡ get_or vs i 0
    → all_given (drop i ms) (drop i vs) h ≡ given m.to v (all_given (drop (i + 1) ms) (drop (i + 1) vs) h)
given_more ms vs h i m v a b e f =
    ap (λ xs. all_given xs (drop i vs) h) (at_front ms i m a e)
    ∙ ap (λ xs. all_given (m ∷ drop (i + 1) ms) xs h) (drop-cons vs i 0 b ∙ ap (λ y. y ∷ drop (suc i) vs) (sym f) ∙ ap (λ j. v ∷ drop j vs) (sym (add-one i)))

---- Arguments

pub argument_more : (view : Spot → Option ℕ) (us : List ℕ) (i v : ℕ) → i < length us → v ≡ get_or us i 0
    → stand view (argument_spots i (drop i us)) (drop i us) ≡ (is_value (view (argument_spot i)) v && stand view (argument_spots (i + 1) (drop (i + 1) us)) (drop (i + 1) us))
argument_more view us i v lt e =
    let f : drop i us ≡ v ∷ drop (suc i) us = drop-cons us i 0 lt ∙ ap (λ y. y ∷ drop (suc i) us) (sym e) in
    ap (λ xs. stand view (argument_spots i xs) xs) f ∙ ap (λ j. is_value (view (argument_spot i)) v && stand view (argument_spots j (drop j us)) (drop j us)) (sym (add-one i))

---- Lines

pub record LinesSo (values : ℕ) (ops : List Operation) (named : List ℕ) (lines : List Line) (i : ℕ) (first : Walk) (state : Walk) : Type 0 where
  pub unfit : first_unfit (room_in values state) ops (i + 1) (drop i lines) (walker_of named state) ≡ first_unfit (room_in values first) ops 1 lines (walker_of named first)
  pub walked : walk ops (drop i lines) (walker_of named state) ≡ walk ops lines (walker_of named first)

pub line_taken : (values : ℕ) (ops : List Operation) (named : List ℕ) (lines : List Line) (i : ℕ) (l : Line) (first old new : Walk) → i < length lines → l ≡ get_or lines i l
    → LinesSo values ops named lines i first old → Tried values ops named l old new true → LinesSo values ops named lines (i + 1) first new
line_taken values ops named lines i l first old new lt is so t =
    let e = at_front lines i l lt is in
    let s = t.stepped refl in
    let one : i + 1 + 1 ≡ suc (i + 1) = add-one (i + 1) in
    record {
      unfit =
          ap (λ r. first_unfit r ops (i + 1 + 1) (drop (i + 1) lines) (walker_of named new)) s.room
          ∙ ap (λ w. first_unfit (room_in values old) ops (i + 1 + 1) (drop (i + 1) lines) w) s.walker
          ∙ ap (λ n. first_unfit (room_in values old) ops n (drop (i + 1) lines) (after ops l (walker_of named old))) one
          ∙ ap (λ b. cond b (first_unfit (room_in values old) ops (suc (i + 1)) (drop (i + 1) lines) (after ops l (walker_of named old))) (Some (i + 1))) t.test
          ∙ ap (λ ls. first_unfit (room_in values old) ops (i + 1) ls (walker_of named old)) (sym e)
          ∙ so.unfit;
      walked = ap (walk ops (drop (i + 1) lines)) s.walker ∙ ap (λ ls. walk ops ls (walker_of named old)) (sym e) ∙ so.walked;
    }

pub line_refused : (values : ℕ) (ops : List Operation) (named : List ℕ) (lines : List Line) (i : ℕ) (l : Line) (first old new : Walk) → i < length lines → l ≡ get_or lines i l
    → LinesSo values ops named lines i first old → Tried values ops named l old new false → Some (i + 1) ≡ first_unfit (room_in values first) ops 1 lines (walker_of named first)
line_refused values ops named lines i l first old new lt is so t =
    ap (λ b. cond b (first_unfit (room_in values old) ops (suc (i + 1)) (drop (i + 1) lines) (after ops l (walker_of named old))) (Some (i + 1))) t.test
    ∙ ap (λ ls. first_unfit (room_in values old) ops (i + 1) ls (walker_of named old)) (sym (at_front lines i l lt is))
    ∙ so.unfit

pub lines_done : (values : ℕ) (ops : List Operation) (named : List ℕ) (lines : List Line) (i : ℕ) (first old : Walk) → length lines ≤ i → LinesSo values ops named lines i first old
    → (None ≡ first_unfit (room_in values first) ops 1 lines (walker_of named first)) × (walker_of named old ≡ walk ops lines (walker_of named first))
lines_done values ops named lines i first old le so =
    let e = drop_of_length-le lines le in
    (ap (λ ls. first_unfit (room_in values old) ops (i + 1) ls (walker_of named old)) (sym e) ∙ so.unfit, ap (λ ls. walk ops ls (walker_of named old)) (sym e) ∙ so.walked)

---- The set of destinations

spots_same : (b c : Bool) → cond b true c ≡ (b || c)
spots_same true c = refl
spots_same false c = refl

has_more : (v x : ℕ) (xs : List ℕ) → has (inserted v xs) x ≡ ((x == v) || has xs x)
has_more v x xs = has_inserted v xs x ∙ spots_same (v == x) (has xs x) ∙ ap (λ b. b || has xs x) (numbers_turned v x)

pub reg_added : (old new : Destinations) (r : ℕ) → new.regs ≡ inserted r old.regs → new.homes ≡ old.homes → new.outs ≡ old.outs → (p : Spot) → is_taken new p ≡ (same p (reg r) || is_taken old p)
reg_added old new r a b c (reg x) = ap (λ xs. has xs x) a ∙ has_more r x old.regs
reg_added old new r a b c (home x) = ap (λ xs. has xs x) b
reg_added old new r a b c (out x) = ap (λ xs. has xs x) c
reg_added old new r a b c target = refl
reg_added old new r a b c saved = refl

pub home_added : (old new : Destinations) (v : ℕ) → new.homes ≡ inserted v old.homes → new.regs ≡ old.regs → new.outs ≡ old.outs → (p : Spot) → is_taken new p ≡ (same p (home v) || is_taken old p)
home_added old new v a b c (reg x) = ap (λ xs. has xs x) b
home_added old new v a b c (home x) = ap (λ xs. has xs x) a ∙ has_more v x old.homes
home_added old new v a b c (out x) = ap (λ xs. has xs x) c
home_added old new v a b c target = refl
home_added old new v a b c saved = refl

pub out_added : (old new : Destinations) (s : ℕ) → new.outs ≡ inserted s old.outs → new.regs ≡ old.regs → new.homes ≡ old.homes → (p : Spot) → is_taken new p ≡ (same p (out s) || is_taken old p)
out_added old new s a b c (reg x) = ap (λ xs. has xs x) b
out_added old new s a b c (home x) = ap (λ xs. has xs x) c
out_added old new s a b c (out x) = ap (λ xs. has xs x) a ∙ has_more s x old.outs
out_added old new s a b c target = refl
out_added old new s a b c saved = refl
