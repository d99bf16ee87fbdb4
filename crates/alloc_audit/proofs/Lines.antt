-- What the code of a line gives.
use Rattle.std.proofs.Common.{◌≡◌, ◌≢◌, ℕ, zero, suc, ◌+◌, ◌-◌, ◌<◌, ◌≤◌, Bool, true, false, ◌&&◌, cond, List, [], ◌∷◌, map, length, take, drop, get_or, set, Option, Some, None, refl, sym, ap, ◌∙◌, arith, drop-drop}
use Rattle.std.specs.Prelude.{◌==◌, nat_lt, nat_le, slice_get}
use Rattle.std.specs.List.{list_all}
use Rattle.alloc_audit.proofs.Standing.{stand_map}
use Rattle.std.proofs.lemmas.List.{length-drop, take_all}
use Rattle.std.proofs.lemmas.Bool.{le-leb, leb-true, ltb-true, lt-ltb, le-ltb, eq-eqb, ne_eqb, and_parts, and_from, and_left, and_right}
use Rattle.std.proofs.lemmas.List.{length-set}
use Rattle.block_runs.specs.Blocks.{Operation}
use Rattle.block_runs.specs.Live.{has}
use Rattle.block_runs.specs.Valid.{is_call}
use Rattle.lir_core.specs.declared.places.Place.{Place}
use Rattle.lir_core.specs.declared.places.Place.TheVariants.{Reg, Home}
use Rattle.lir_core.specs.declared.places.Move.{Move}
use Rattle.lir_core.specs.declared.places.Line.{Line}
use Rattle.lir_core.specs.declared.places.Line.TheVariants.{Store, Load, Moves, Result, Target}
use Rattle.lir_core.specs.declared.places.Line.TheVariants.{Lir as Does}
use Rattle.lir_core.specs.Spots.{Spot, reg, home, out, target, spot, same, get}
use Rattle.lir_core.specs.Lines.{is_aimed, one_def, use_spots, names, def_spot, line_source, argument_spot, argument_spots, Room}
use Rattle.lir_core.specs.Walks.{Walker, after, perform}
use Rattle.alloc_audit.specs.declared.walk.Walk.{Walk}
use Rattle.alloc_audit.specs.Tests.{stand, are_below, is_value, is_in_range, can_take, can_move, are_distinct, is_ready, can_do, fits}
use Rattle.alloc_audit.specs.Holdings.{Holdings, holdings_of, view_at, room_at, room_in, walker_of, given, all_given, result_taken, aimed, def_register, done_by, left_by, maybe_made}
use Rattle.loc_state.specs.Homed.{inserted}
use Rattle.lir_core.specs.declared.flow.Lir.{Lir}
use Rattle.alloc_audit.specs.Moving.{Tried, HasDefinition}
use Rattle.alloc_audit.proofs.Accepts.{value_is}
use Rattle.alloc_audit.proofs.Stepping.{from_spot, view_given, room_given, room_all, view_all, view_result, view_aimed, HasDef, view_done, room_left, room_made, walker, same_walker}
use Rattle.loc_state.proofs.Numbers.{in_row}

-- a line that can't be taken
pub refused : (values : ℕ) (ops : List Operation) (named : List ℕ) (l : Line) (old new : Walk) (took : Bool) → took ≡ false → fits (room_in values old) ops l (walker_of named old) ≡ false → Tried values ops named l old new took
refused values ops named l old new took e f = record { test = e ∙ sym f; stepped = λ t. let x : true ≡ false = sym t ∙ e in cc }

-- one that can, where `behind` is what stands where then
pub taken : (values : ℕ) (ops : List Operation) (named : List ℕ) (l : Line) (old new : Walk) (took : Bool) (next used : ℕ) (behind : Spot → Option ℕ)
    → took ≡ true → fits (room_in values old) ops l (walker_of named old) ≡ true
    → walker next (drop used named) behind ≡ after ops l (walker_of named old)
    → new.next ≡ next → new.used ≡ used → used ≤ length named
    → ((p : Spot) → view_at (holdings_of new) p ≡ behind p) → room_in values new ≡ room_in values old → Tried values ops named l old new took
taken values ops named l old new took next used behind e f is a b le view room = record {
  test = e ∙ sym f;
  stepped = λ t. record {
    walker = same_walker new.next next (drop new.used named) (drop used named) (view_at (holdings_of new)) behind a (ap (λ u. drop u named) b) view ∙ is;
    room = room;
    used = omega (arith, b, le);
  };
}

---- Tests

home_test : (b : Bool) (v : ℕ) → is_value (cond b (Some v) None) v ≡ b
home_test true v = eq-eqb v v refl
home_test false v = refl

pub home_is : (b : Bool) (v : ℕ) → b ≡ true → cond b (Some v) None ≡ Some v
home_is b v e = ap (λ x. cond x (Some v) None) e

stored_test : (h : Holdings) (values r v : ℕ) → is_value (get h.regs r) v ≡ true → v < values → (nat_lt r (length h.regs) && nat_lt v values && is_value (get h.regs r) v) ≡ true
stored_test h values r v e lt = and_from _ _ (and_from _ _ (lt-ltb _ _ (in_row h.regs r v (value_is _ v e))) (lt-ltb _ _ lt)) e

---- Lines

pub stored : (values : ℕ) (ops : List Operation) (named : List ℕ) (r v : ℕ) (old new : Walk) → (is_value (get old.regs.items r) v && nat_lt v values) ≡ true
    → holdings_of new ≡ given (Home v) v (holdings_of old) → new.next ≡ old.next → new.used ≡ old.used → old.used ≤ length named → Tried values ops named (Store r v) old new true
stored values ops named r v old new e is a b le =
    let h = holdings_of old in
    let p = and_parts (is_value (get h.regs r) v) (nat_lt v values) e in
    let t : can_take (room_at values h) (home v) (Some v) ≡ true = and_from _ _ (eq-eqb v v refl) p.1 in
    taken values ops named (Store r v) old new true old.next old.used (λ p. view_at h (line_source (Store r v) p)) refl (stored_test h values r v p.0 (ltb-true _ _ p.1)) refl a b le
    (λ q. ap (λ x. view_at x q) is ∙ view_given values (Home v) v h t q ∙ from_spot h (same q (home v)) q (reg r) v (value_is (get h.regs r) v p.0))
    (ap (room_at values) is)

pub stored_in : (values : ℕ) (ops : List Operation) (named : List ℕ) (r v : ℕ) (old : Walk) (homes : List ℕ) → (is_value (get old.regs.items r) v && nat_lt v values) ≡ true → homes ≡ inserted v old.homes → old.used ≤ length named → Tried values ops named (Store r v) old (record old { homes = homes }) true
stored_in values ops named r v old homes e is le =
    stored values ops named r v old (record old { homes = homes }) e (ap (λ xs. let h : Holdings = record { regs = old.regs.items; slots = old.slots.items; aim = old.aim; homes = xs } in h) is) refl refl le

pub not_stored : (values : ℕ) (ops : List Operation) (named : List ℕ) (r v : ℕ) (old new : Walk) → (is_value (get old.regs.items r) v && nat_lt v values) ≡ false → Tried values ops named (Store r v) old new false
not_stored values ops named r v old new e = refused values ops named (Store r v) old new false refl (by (nat_lt r (length old.regs.items)) (nat_lt v values) (is_value (get old.regs.items r) v) e)
  where
    by : (a b c : Bool) → (c && b) ≡ false → (a && b && c) ≡ false
    by true true true e = e
    by true true false e = refl
    by true false c e = refl
    by false b c e = refl

pub loaded_to : (values : ℕ) (ops : List Operation) (named : List ℕ) (r v : ℕ) (old new : Walk) → r < length old.regs.items → (nat_lt v values && has old.homes v) ≡ true
    → holdings_of new ≡ given (Reg r) v (holdings_of old) → new.next ≡ old.next → new.used ≡ old.used → old.used ≤ length named → Tried values ops named (Load r v) old new true
loaded_to values ops named r v old new lr e is a b le =
    let h = holdings_of old in
    let p = and_parts (nat_lt v values) (has old.homes v) e in
    let t : can_take (room_at values h) (reg r) (Some v) ≡ true = lt-ltb _ _ lr in
    taken values ops named (Load r v) old new true old.next old.used (λ p. view_at h (line_source (Load r v) p)) refl
    (and_from _ _ (and_from _ _ (lt-ltb _ _ lr) p.0) (home_test (has old.homes v) v ∙ p.1)) refl a b le
    (λ q. ap (λ x. view_at x q) is ∙ view_given values (Reg r) v h t q ∙ from_spot h (same q (reg r)) q (home v) v (home_is (has old.homes v) v p.1))
    (ap (room_at values) is ∙ room_given values (Reg r) v h)

pub not_loaded : (values : ℕ) (ops : List Operation) (named : List ℕ) (r v : ℕ) (old new : Walk) → length old.regs.items ≤ r → Tried values ops named (Load r v) old new false
not_loaded values ops named r v old new le = refused values ops named (Load r v) old new false refl (ap (λ b. b && nat_lt v values && is_value (cond (has old.homes v) (Some v) None) v) (le-ltb _ _ le))

pub not_homed : (values : ℕ) (ops : List Operation) (named : List ℕ) (r v : ℕ) (old new : Walk) → (nat_lt v values && has old.homes v) ≡ false → Tried values ops named (Load r v) old new false
not_homed values ops named r v old new e =
    refused values ops named (Load r v) old new false refl
    (ap (λ b. nat_lt r (length old.regs.items) && nat_lt v values && b) (home_test (has old.homes v) v) ∙ by (nat_lt r (length old.regs.items)) (nat_lt v values) (has old.homes v) e)
  where
    by : (a b c : Bool) → (b && c) ≡ false → (a && b && c) ≡ false
    by true b c e = e
    by false true c e = refl
    by false false c e = refl

pub no_result : (values : ℕ) (ops : List Operation) (named : List ℕ) (r : ℕ) (old new : Walk) → length old.regs.items ≤ r → Tried values ops named (Result r) old new false
no_result values ops named r old new le = refused values ops named (Result r) old new false refl (le-ltb _ _ le)

pub result_to : (values : ℕ) (ops : List Operation) (named : List ℕ) (r : ℕ) (old new : Walk) → r < length old.regs.items
    → holdings_of new ≡ result_taken r (holdings_of old) → new.next ≡ old.next → new.used ≡ old.used → old.used ≤ length named → Tried values ops named (Result r) old new true
result_to values ops named r old new lr is a b le =
    let h = holdings_of old in
    taken values ops named (Result r) old new true old.next old.used (λ p. cond (same p (reg 0)) None (view_at h (line_source (Result r) p))) refl (lt-ltb _ _ lr) refl a b le
    (λ p. ap (λ x. view_at x p) is ∙ view_result r h lr p)
    (ap (room_at values) is ∙ ap (λ n. let x : Room = record { regs = n; slots = length h.slots; values = values } in x) (length-set (set h.regs r (get h.regs 0)) 0 None ∙ length-set h.regs r (get h.regs 0)))

-- what a place in range has, as code finds it
pub ranged : (b : Bool) (o : Option ℕ) (v : ℕ) → cond b o None ≡ Some v → (b ≡ true) × (o ≡ Some v)
ranged true o v e = (refl, e)
ranged false o v e = cc

pub aimed_at : (values : ℕ) (ops : List Operation) (named : List ℕ) (from : Place) (v : ℕ) (old new : Walk) → cond (is_in_range (room_in values old) (spot from)) (view_at (holdings_of old) (spot from)) None ≡ Some v
    → holdings_of new ≡ aimed (Some v) (holdings_of old) → new.next ≡ old.next → new.used ≡ old.used → old.used ≤ length named → Tried values ops named (Target from) old new true
aimed_at values ops named from v old new e is a b le =
    let h = holdings_of old in
    let p = ranged (is_in_range (room_in values old) (spot from)) (view_at h (spot from)) v e in
    taken values ops named (Target from) old new true old.next old.used (λ p. view_at h (line_source (Target from) p)) refl
    (and_from _ _ p.0 (ap (λ o. can_take (room_in values old) target o) p.1)) refl a b le
    (λ q. ap (λ x. view_at x q) is ∙ ap (λ o. view_at (aimed o h) q) (sym p.1) ∙ view_aimed from h q)
    (ap (room_at values) is)

pub not_aimed : (values : ℕ) (ops : List Operation) (named : List ℕ) (from : Place) (old new : Walk) → cond (is_in_range (room_in values old) (spot from)) (view_at (holdings_of old) (spot from)) None ≡ None → Tried values ops named (Target from) old new false
not_aimed values ops named from old new e = refused values ops named (Target from) old new false refl (by (is_in_range (room_in values old) (spot from)) (view_at (holdings_of old) (spot from)) e)
  where
    by : (b : Bool) (o : Option ℕ) → cond b o None ≡ None → (b && can_take (room_in values old) target o) ≡ false
    by true None e = refl
    by true (Some v) e = cc
    by false o e = refl

pub moves_made : (values : ℕ) (ops : List Operation) (named : List ℕ) (ms : List Move) (vs : List ℕ) (old new : Walk) → are_distinct ms ≡ true → list_all (can_move (room_in values old) (view_at (holdings_of old))) ms ≡ true
    → map Some vs ≡ map (λ m. view_at (holdings_of old) (spot m.from)) ms
    → holdings_of new ≡ all_given ms vs (holdings_of old) → new.next ≡ old.next → new.used ≡ old.used → old.used ≤ length named → Tried values ops named (Moves ms) old new true
moves_made values ops named ms vs old new d e f is a b le =
    let h = holdings_of old in
    taken values ops named (Moves ms) old new true old.next old.used (λ p. view_at h (line_source (Moves ms) p)) refl (and_from _ _ d e) refl a b le
    (λ p. ap (λ x. view_at x p) is ∙ view_all values h ms vs e f p)
    (ap (room_at values) is ∙ room_all values ms vs h)

pub not_made : (values : ℕ) (ops : List Operation) (named : List ℕ) (ms : List Move) (old new : Walk) → list_all (can_move (room_in values old) (view_at (holdings_of old))) ms ≡ false → Tried values ops named (Moves ms) old new false
not_made values ops named ms old new e = refused values ops named (Moves ms) old new false refl (and_right (are_distinct ms) _ e)

pub not_distinct : (values : ℕ) (ops : List Operation) (named : List ℕ) (ms : List Move) (old new : Walk) → are_distinct ms ≡ false → Tried values ops named (Moves ms) old new false
not_distinct values ops named ms old new e = refused values ops named (Moves ms) old new false refl (and_left (are_distinct ms) _ e)

---- Operations

pub spot_of : (i : ℕ) → argument_spot i ≡ cond (nat_lt i 4) (reg i) (out (i - 4))
spot_of zero = refl
spot_of (suc zero) = refl
spot_of (suc (suc zero)) = refl
spot_of (suc (suc (suc zero))) = refl
spot_of (suc (suc (suc (suc i)))) =
    let a : nat_lt (suc (suc (suc (suc i)))) 4 ≡ false = le-ltb _ _ (omega arith) in
    let b : i ≡ suc (suc (suc (suc i))) - 4 = omega arith in
    ap out b ∙ ap (λ t. cond t (reg (suc (suc (suc (suc i))))) (out (suc (suc (suc (suc i))) - 4))) (sym a)

pub done_operation : (values : ℕ) (ops : List Operation) (named : List ℕ) (i : ℕ) (op : Operation) (old new : Walk) → slice_get ops i ≡ Some op → i ≡ old.next → is_ready (length old.regs.items) op (walker_of named old) ≡ true
    → HasDef op (drop old.used named) (length old.regs.items)
    → holdings_of new ≡ done_by op (drop old.used named) (holdings_of old) → new.next ≡ i + 1 → new.used ≡ old.used + names op → old.used + names op ≤ length named → Tried values ops named (Does i) old new true
done_operation values ops named i op old new there at ready has_def is a b le =
    let h = holdings_of old in
    let w = walker_of named old in
    let test : fits (room_in values old) ops (Does i) w ≡ true = ap (λ o. can_do (length old.regs.items) o i w) there ∙ and_from _ _ (eq-eqb _ _ at) ready in
    let e : i + 1 ≡ suc old.next = omega arith in
    let behind : Walker = walker (suc old.next) (drop (names op) (drop old.used named)) (Rattle.lir_core.specs.Walks.defined op.def (def_spot op (drop old.used named)) (Rattle.lir_core.specs.Walks.left (is_call op.code) (view_at h))) in
    taken values ops named (Does i) old new true (i + 1) (old.used + names op) behind.view refl test
    (ap (λ n. walker n (drop (old.used + names op) named) behind.view) e ∙ ap (λ ns. walker (suc old.next) ns behind.view) (sym (drop-drop (names op) old.used named)) ∙ ap (λ o. perform o w) (sym there))
    a b le
    (λ p. ap (λ x. view_at x p) is ∙ view_done op (drop old.used named) h has_def p)
    (ap (room_at values) is ∙ room_made values (def_register op (drop old.used named)) op.def (left_by (is_call op.code) h) ∙ room_left values (is_call op.code) h)

pub none_there : (values : ℕ) (ops : List Operation) (named : List ℕ) (i : ℕ) (old new : Walk) → slice_get ops i ≡ None → Tried values ops named (Does i) old new false
none_there values ops named i old new e = refused values ops named (Does i) old new false refl (ap (λ o. can_do (length old.regs.items) o i (walker_of named old)) e)

pub not_next : (values : ℕ) (ops : List Operation) (named : List ℕ) (i : ℕ) (op : Operation) (old new : Walk) → slice_get ops i ≡ Some op → i ≢ old.next → Tried values ops named (Does i) old new false
not_next values ops named i op old new e h =
    refused values ops named (Does i) old new false refl (ap (λ o. can_do (length old.regs.items) o i (walker_of named old)) e ∙ and_left (i == old.next) _ (ne_eqb i old.next h))

pub not_ready : (values : ℕ) (ops : List Operation) (named : List ℕ) (i : ℕ) (op : Operation) (old new : Walk) → slice_get ops i ≡ Some op → is_ready (length old.regs.items) op (walker_of named old) ≡ false → Tried values ops named (Does i) old new false
not_ready values ops named i op old new e h =
    refused values ops named (Does i) old new false refl (ap (λ o. can_do (length old.regs.items) o i (walker_of named old)) e ∙ and_right (i == old.next) _ h)

---- Whether an operation is ready

pub ready_call : (k : ℕ) (op : Operation) (w : Walker) → is_call op.code ≡ true → is_ready k op w ≡ stand w.view (use_spots op w.named) op.uses
ready_call k op w e =
    let n : names op ≡ 0 = ap (λ b. cond b 0 (length op.uses + one_def op.def)) e in
    ap (λ m. nat_le m (length w.named) && are_below k (take m w.named) && stand w.view (use_spots op w.named) op.uses) n
    ∙ ap (λ b. b && true && stand w.view (use_spots op w.named) op.uses) (le-leb 0 (length w.named) (omega arith))

pub rest_is : (xs : List ℕ) (n : ℕ) → take (length xs - n) (drop n xs) ≡ drop n xs
rest_is xs n = take_all (length xs - n) (drop n xs) (omega (arith, length-drop n xs))

pub ready_other : (k : ℕ) (op : Operation) (named : List ℕ) (w : Walk) → is_call op.code ≡ false
    → is_ready k op (walker_of named w) ≡ (nat_le (names op) (length (drop w.used named)) && are_below k (take (names op) (drop w.used named)) && stand (get w.regs.items) (take (length op.uses) (drop w.used named)) op.uses)
ready_other k op named w e =
    let ns = drop w.used named in
    let s : stand (view_at (holdings_of w)) (use_spots op ns) op.uses ≡ stand (get w.regs.items) (take (length op.uses) ns) op.uses =
    ap (λ b. stand (view_at (holdings_of w)) (cond b (cond (is_aimed op.code) (target ∷ argument_spots 0 (drop 1 op.uses)) (argument_spots 0 op.uses)) (map reg (take (length op.uses) ns))) op.uses) e
    ∙ stand_map (view_at (holdings_of w)) reg (take (length op.uses) ns) op.uses in
    ap (λ b. nat_le (names op) (length ns) && are_below k (take (names op) ns) && b) s

below_at : (k : ℕ) (xs : List ℕ) (n i : ℕ) → are_below k (take n xs) ≡ true → i < n → n ≤ length xs → get_or xs i 0 < k
below_at k [] n i e lt le = absurd (omega arith)
below_at k (x ∷ xs) zero i e lt le = absurd (omega arith)
below_at k (x ∷ xs) (suc n) zero e lt le = ltb-true _ _ (and_parts (nat_lt x k) (are_below k (take n xs)) e).0
below_at k (x ∷ xs) (suc n) (suc i) e lt le = below_at k xs n i (and_parts (nat_lt x k) (are_below k (take n xs)) e).1 (omega arith) (omega arith)

pub has_def : (k : ℕ) (op : Operation) (w : Walker) → 0 < k → is_ready k op w ≡ true → HasDef op w.named k
has_def k op w some ready v e = by (is_call op.code) refl
  where
    a : ((nat_le (names op) (length w.named) && are_below k (take (names op) w.named)) ≡ true) × (stand w.view (use_spots op w.named) op.uses ≡ true)
    a = and_parts _ (stand w.view (use_spots op w.named) op.uses) ready

    b : (nat_le (names op) (length w.named) ≡ true) × (are_below k (take (names op) w.named) ≡ true)
    b = and_parts (nat_le (names op) (length w.named)) (are_below k (take (names op) w.named)) a.0

    by : (c : Bool) → is_call op.code ≡ c → cond c 0 (get_or w.named (length op.uses) 0) < k
    by true q = some
    by false q =
        let n : names op ≡ length op.uses + 1 = ap (λ c. cond c 0 (length op.uses + one_def op.def)) q ∙ ap (λ o. length op.uses + one_def o) e in
        below_at k w.named (names op) (length op.uses) b.1 (omega (arith, n)) (leb-true _ _ b.0)

-- an operation that is done, by what its calls give
pub operation_done : (values : ℕ) (ops : List Operation) (named : List ℕ) (i : ℕ) (op : Operation) (old new : Walk) → slice_get ops i ≡ Some op → i ≡ old.next → is_ready (length old.regs.items) op (walker_of named old) ≡ true → 0 < length old.regs.items
    → holdings_of new ≡ done_by op (drop old.used named) (holdings_of old) → new.next ≡ i + 1 → new.used ≡ old.used + names op → old.used ≤ length named → Tried values ops named (Does i) old new true
operation_done values ops named i op old new there at ready some is a b le =
    let n = (and_parts (nat_le (names op) (length (drop old.used named))) (are_below (length old.regs.items) (take (names op) (drop old.used named))) (and_parts _ (stand (view_at (holdings_of old)) (use_spots op (drop old.used named)) op.uses) ready).0).0 in
    let few : names op ≤ length named - old.used = omega (arith, leb-true _ _ n, length-drop old.used named) in
    done_operation values ops named i op old new there at ready (has_def (length old.regs.items) op (walker_of named old) some ready) is a b (omega arith)

pub maybe_same : (x : Lir) (r s : ℕ) (h : Holdings) → (HasDefinition x → r ≡ s) → maybe_made r x.def h ≡ maybe_made s x.def h
maybe_same x r s h f = by x.def (λ v e. f (v, e))
  where
    by : (o : Option ℕ) → ((v : ℕ) → o ≡ Some v → r ≡ s) → maybe_made r o h ≡ maybe_made s o h
    by None g = refl
    by (Some v) g = ap (λ n. maybe_made n (Some v) h) (g v refl)
