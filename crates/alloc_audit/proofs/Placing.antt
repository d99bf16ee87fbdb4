-- Sets, and tests on places.
use Rattle.std.proofs.Common.{◌≡◌, ℕ, zero, suc, ◌+◌, ◌<◌, Bool, true, false, ◌&&◌, ◌||◌, not, cond, List, [], ◌∷◌, map, length, drop, get_or, Option, Some, None, refl, sym, ap, ◌∙◌, arith, drop-cons, add-one}
use Rattle.std.proofs.Math.Path.{fun_ext}
use Rattle.std.specs.Prelude.{◌==◌}
use Rattle.std.specs.List.{list_all}
use Rattle.std.proofs.lemmas.Bool.{and_parts, eqb-true}
use Rattle.std.proofs.Common.{replicate}
use Rattle.std.proofs.lemmas.Bool.Decides.{nat_tests}
use Rattle.block_runs.specs.Blocks.{CodeBlock}
use Rattle.block_runs.specs.Live.{has}
use Rattle.block_runs.specs.Valid.{uses_of}
use Rattle.lir_core.specs.declared.flow.Lir.{Lir}
use Rattle.lir_core.specs.declared.places.Places.{Places}
use Rattle.lir_core.specs.declared.places.Line.{Line}
use Rattle.lir_core.specs.declared.flow.Node.{Node}
use Rattle.lir_core.specs.Lines.{end_reads, Room}
use Rattle.lir_core.specs.Walks.{begin, walk}
use Rattle.alloc_audit.specs.declared.walk.Walk.{Walk}
use Rattle.lir_core.specs.Flows.{operation_of, code_node}
use Rattle.lir_core.specs.Spots.{Spot, reg, home, out, target, saved, in_register, get, view_of, placed}
use Rattle.loc_state.specs.Homed.{inserted, all_inserted}
use Rattle.alloc_audit.specs.Tests.{is_value, stand, are_below, first_unfit}
use Rattle.alloc_audit.specs.Nodes.{is_rising, is_single, may_hold, may_name, is_wanted, live_values, are_true, starts_well, keeps_all, ends_well, ended, lines_failure}
use Rattle.alloc_audit.specs.Parts.{rises_from, is_above, is_alone, may_have, are_true_of, is_done, is_right}
use Rattle.alloc_audit.specs.Holdings.{Holdings, view_at, holdings_of, room_in, walker_of}
use Rattle.loc_state.proofs.Homing.{has_all_inserted, inserted_append}

pub set_is : (xs h : List ℕ) → h ≡ all_inserted xs [] → has h ≡ has xs
set_is xs h e = fun_ext (λ v. ap (λ ys. has ys v) e ∙ has_all_inserted xs [] v ∙ or_false (has xs v))
  where
    or_false : (b : Bool) → cond b true false ≡ b
    or_false true = refl
    or_false false = refl

rising_behind : (x : ℕ) (xs : List ℕ) → is_rising (x ∷ xs) ≡ rises_from (Some x) xs
rising_behind x [] = refl
rising_behind x (y ∷ ys) = ap (λ b. is_above (Some x) y && b) (rising_behind y ys)

pub rising_is : (xs : List ℕ) → rises_from None xs ≡ is_rising xs
rising_is [] = refl
rising_is (x ∷ xs) = sym (rising_behind x xs)

pub single_at : (xs : List (Option ℕ)) (i : ℕ) → i < length xs → is_single (drop i xs) ≡ (is_alone (get_or xs i None) (drop (i + 1) xs) && is_single (drop (i + 1) xs))
single_at xs i lt = ap is_single (drop-cons xs i None lt) ∙ by (get_or xs i None) (drop (suc i) xs) ∙ ap (λ j. is_alone (get_or xs i None) (drop j xs) && is_single (drop j xs)) (sym (add-one i))
  where
    by : (o : Option ℕ) (ys : List (Option ℕ)) → is_single (o ∷ ys) ≡ (is_alone o ys && is_single ys)
    by None ys = refl
    by (Some v) ys = refl

pub register_at : (xs : List (Option ℕ)) (i v : ℕ) → i < length xs → in_register (drop i xs) v ≡ cond (is_value (get_or xs i None) v) true (in_register (drop (i + 1) xs) v)
register_at xs i v lt = ap (λ ys. in_register ys v) (drop-cons xs i None lt) ∙ by (get_or xs i None) (drop (suc i) xs) ∙ ap (λ j. cond (is_value (get_or xs i None) v) true (in_register (drop j xs) v)) (sym (add-one i))
  where
    by : (o : Option ℕ) (ys : List (Option ℕ)) → in_register (o ∷ ys) v ≡ cond (is_value o v) true (in_register ys v)
    by None ys = refl
    by (Some u) ys = refl

pub uses_at : (lirs : List Lir) (i : ℕ) (x : Lir) (old new e : List ℕ) → i < length lirs → x ≡ get_or lirs i x → new ≡ all_inserted x.uses old
    → all_inserted (uses_of (map operation_of (drop i lirs))) old ≡ e → all_inserted (uses_of (map operation_of (drop (i + 1) lirs))) new ≡ e
uses_at lirs i x old new e lt is n h =
    ap (all_inserted (uses_of (map operation_of (drop (i + 1) lirs)))) n
    ∙ sym (inserted_append x.uses (uses_of (map operation_of (drop (i + 1) lirs))) old)
    ∙ ap (λ xs. all_inserted (uses_of (map operation_of xs)) old) (sym (drop-cons lirs i x lt ∙ ap (λ y. y ∷ drop (suc i) lirs) (sym is) ∙ ap (λ j. x ∷ drop j lirs) (sym (add-one i))))
    ∙ h

---- A node's start

pub none_in_slots : (n s : ℕ) → get (replicate n None) s ≡ None
none_in_slots zero s = refl
none_in_slots (suc n) zero = refl
none_in_slots (suc n) (suc s) = none_in_slots n s

pub begun : (start : Places) (n : ℕ) (h : Holdings) → h.regs ≡ start.regs → h.slots ≡ replicate n None → h.aim ≡ None → has h.homes ≡ has start.homed → view_at h ≡ view_of start
begun start n h a b c d = fun_ext at
  where
    at : (p : Spot) → view_at h p ≡ view_of start p
    at (reg r) = ap (λ xs. get xs r) a
    at (home v) = ap (λ f. cond (f v) (Some v) None) d
    at (out s) = ap (λ xs. get xs s) b ∙ none_in_slots n s
    at target = c
    at saved = refl

pub may_have_is : (live : ℕ → ℕ → Bool) (bl : CodeBlock) (n : ℕ) → may_have (live n) (has bl.params) ≡ may_hold live bl n
may_have_is live bl n = fun_ext at
  where
    at : (o : Option ℕ) → may_have (live n) (has bl.params) o ≡ may_hold live bl n o
    at None = refl
    at (Some v) = refl

pub start_parts : (a d f g h : Bool) → ((((a && d) && f) && g) && h) ≡ (a && ((d && f) && (g && h)))
start_parts false d f g h = refl
start_parts true false f g h = refl
start_parts true true false g h = refl
start_parts true true true g h = refl

---- A node's end

pub true_is : (h : Holdings) (i : ℕ) (xs : List (Option ℕ)) → are_true (view_at h) i xs ≡ are_true_of (get h.regs) i xs
true_is h i [] = refl
true_is h i (None ∷ xs) = true_is h (suc i) xs
true_is h i (Some v ∷ xs) = ap (λ b. is_value (get h.regs i) v && b) (true_is h (suc i) xs)

pub homed_is : (h : Holdings) → (λ v. is_value (view_at h (home v)) v) ≡ has h.homes
homed_is h = fun_ext (λ v. by v (has h.homes v))
  where
    by : (v : ℕ) (b : Bool) → is_value (cond b (Some v) None) v ≡ b
    by v true = grind (arith, nat_tests)
    by v false = refl

pub ops_count : (lirs : List Lir) → length (map operation_of lirs) ≡ length lirs
ops_count [] = refl
ops_count (x ∷ xs) = ap suc (ops_count xs)

end_parts : (a b c d e : Bool) → ((((a && b) && c) && d) && e) ≡ (a && (((b && c) && d) && e))
end_parts false b c d e = refl
end_parts true false c d e = refl
end_parts true true false d e = refl
end_parts true true true d e = refl

pub ends_is : (values : ℕ) (live : ℕ → ℕ → Bool) (node : Node) (end : Places) (named : List ℕ) (w : Walk)
    → ends_well (room_in values w) live (code_node node) end (walker_of named w) ≡ (is_done node named w && (is_right end w && keeps_all (room_in values w) live (code_node node) end))
ends_is values live node end named w =
    let rest = drop w.used named in
    let k = keeps_all (room_in values w) live (code_node node) end in
    let b = are_below (length w.regs.items) rest in
    let s = stand (get w.regs.items) rest (end_reads node.end) in
    ap (λ n. (((((w.next == n) && b && s) && are_true (view_at (holdings_of w)) 0 end.regs) && list_all (λ v. is_value (view_at (holdings_of w) (home v)) v) end.homed) && is_single end.regs) && k) (ops_count node.lirs)
    ∙ ap (λ t. (((((w.next == length node.lirs) && b && s) && t) && list_all (λ v. is_value (view_at (holdings_of w) (home v)) v) end.homed) && is_single end.regs) && k) (true_is (holdings_of w) 0 end.regs)
    ∙ ap (λ f. (((((w.next == length node.lirs) && b && s) && are_true_of (get w.regs.items) 0 end.regs) && list_all f end.homed) && is_single end.regs) && k) (homed_is (holdings_of w))
    ∙ end_parts ((w.next == length node.lirs) && b && s) (are_true_of (get w.regs.items) 0 end.regs) (list_all (has w.homes) end.homed) (is_single end.regs) k

pub second_false : (a b c : Bool) → b ≡ false → (a && (b && c)) ≡ false
second_false true b c e = ap (λ x. x && c) e
second_false false b c e = refl

pub both_true : (a b c : Bool) → a ≡ true → b ≡ true → (a && (b && c)) ≡ c
both_true a b c e f = ap (λ x. x && (b && c)) e ∙ ap (λ x. x && c) f

---- A node

pub counted : (room : Room) (live : ℕ → ℕ → Bool) (bl : CodeBlock) (n : ℕ) (start : Places) → starts_well room live bl n start ≡ true → length start.regs ≡ room.regs
counted room live bl n start e =
    let a = and_parts _ (list_all (λ v. not (is_wanted live bl v) || placed start v) bl.params) e in
    let b = and_parts _ (list_all (placed start) (live_values room.values live n)) a.0 in
    let c = and_parts _ (list_all (may_name live bl n) start.homed) b.0 in
    let d = and_parts _ (list_all (may_hold live bl n) start.regs) c.0 in
    let f = and_parts _ (is_rising start.homed) d.0 in
    let g = and_parts (length start.regs == room.regs) (is_single start.regs) f.0 in
    eqb-true _ _ g.0

module _ (values : ℕ) (room : Room) (live : ℕ → ℕ → Bool) (bl : CodeBlock) (lines : List Line) (end : Places) (named : List ℕ) (start : Places) (w : Walk) (r : room_in values w ≡ room) (b : walker_of named w ≡ begin start named) where
  pub lines_is : lines_failure room live bl lines end (begin start named) ≡ ended (length lines + 1) (ends_well (room_in values w) live bl end (walk bl.ops lines (walker_of named w))) (first_unfit (room_in values w) bl.ops 1 lines (walker_of named w))
  lines_is = sym (ap (λ q. lines_failure q live bl lines end (walker_of named w)) r ∙ ap (lines_failure room live bl lines end) b)

  pub line_fails : (n : ℕ) → Some n ≡ first_unfit (room_in values w) bl.ops 1 lines (walker_of named w) → Some n ≡ lines_failure room live bl lines end (begin start named)
  line_fails n e = ap (ended (length lines + 1) (ends_well (room_in values w) live bl end (walk bl.ops lines (walker_of named w)))) e ∙ sym lines_is

  pub end_tells : (t : Bool) (z : Walk) → None ≡ first_unfit (room_in values w) bl.ops 1 lines (walker_of named w) → walker_of named z ≡ walk bl.ops lines (walker_of named w) → room_in values z ≡ room_in values w
      → t ≡ ends_well (room_in values z) live bl end (walker_of named z) → cond t None (Some (length lines + 1)) ≡ lines_failure room live bl lines end (begin start named)
  end_tells t z e f g h =
      ap (λ x. cond x None (Some (length lines + 1))) (h ∙ ap (λ q. ends_well q live bl end (walker_of named z)) g ∙ ap (ends_well (room_in values w) live bl end) f)
      ∙ ap (ended (length lines + 1) (ends_well (room_in values w) live bl end (walk bl.ops lines (walker_of named w)))) e ∙ sym lines_is

pub not_shaped : (a b : Bool) (x y : Option ℕ) → a ≡ false → y ≡ cond (a && b) x y
not_shaped a b x y e = sym (ap (λ c. cond (c && b) x y) e)

pub not_started : (a b : Bool) (x y : Option ℕ) → b ≡ false → y ≡ cond (a && b) x y
not_started true b x y e = sym (ap (λ c. cond c x y) e)
not_started false b x y e = refl

pub started : (a b : Bool) (x y : Option ℕ) → a ≡ true → b ≡ true → x ≡ cond (a && b) x y
started a b x y e f = sym (ap (λ c. cond (c && b) x y) e ∙ ap (λ c. cond c x y) f)
