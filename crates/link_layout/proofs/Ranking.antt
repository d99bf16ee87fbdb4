-- Homes and ranks: the table, the list of all copies, and the words of copies.
use Rattle.std.proofs.Common.{◌≡◌, ℕ, suc, ◌+◌, ◌<◌, Bool, true, false, cond, List, [], ◌∷◌, ◌++◌, length, drop, get_or, Option, Some, None, refl, arith, sym, ap, ap₂, ◌∙◌, length-append}
use Rattle.std.specs.Prelude.{◌==◌, nat_lt, if◌then◌else◌}
use Rattle.std.proofs.lemmas.Bool.{eqb-true, ltb-true}
use Rattle.std.proofs.lemmas.List.{drop_more}
use Rattle.block_runs.specs.Live.{has}
use Rattle.lir_core.specs.Spots.{Spot, reg, home, out, target, saved}
use Rattle.loc_state.specs.Homed.{inserted}
use Rattle.placed_code.specs.Placed.{Copy, Cell, Block, Placed}
use Rattle.placed_code.specs.Words.{where_is, copy_word, copies_words, slot_of, is_near, load_slot, store_slot, move_between, Where, InReg, InSlot}
use Rattle.placed_code.specs.Layout.{position}
use Rattle.placed_code.proofs.Slots.{load_size, store_size}
use Rattle.placed_code.specs.Results.{insert, with_home, with_copies, with_cells, with_blocks, homes_of, rank_in}
use Rattle.link_layout.specs.declared.copies.Room.{Room}
use Rattle.link_layout.specs.declared.copies.Room.TheVariants.{Register, Near, Far, Nowhere}
use Rattle.link_words.specs.Fields.{entry_in}
use Rattle.link_layout.specs.Spots.{rank_behind, cell_copies, block_copies, all_copies, slot_room, home_room, room_of, width_between, widths_of_copies, IsFrameOf}

---- One list of copies

append_copies : (ms ns : List Copy) (vs : List ℕ) → with_copies (ms ++ ns) vs ≡ with_copies ms (with_copies ns vs)
append_copies [] ns vs = refl
append_copies (m ∷ ms) ns vs = ap (λ xs. with_home m.to (with_home m.from xs)) (append_copies ms ns vs)

cells_are : (cells : List Cell) (vs : List ℕ) → with_copies (cell_copies cells) vs ≡ with_cells cells vs
cells_are [] vs = refl
cells_are (cell ∷ cells) vs = append_copies cell.copies (cell_copies cells) vs ∙ ap (with_copies cell.copies) (cells_are cells vs)

blocks_are : (bls : List Block) → with_copies (block_copies bls) [] ≡ with_blocks bls []
blocks_are [] = refl
blocks_are (bl ∷ bls) =
    append_copies (cell_copies bl.body) (bl.copies ++ block_copies bls) []
    ∙ cells_are bl.body (with_copies (bl.copies ++ block_copies bls) [])
    ∙ ap (with_cells bl.body) (append_copies bl.copies (block_copies bls) [] ∙ ap (with_copies bl.copies) (blocks_are bls))

pub homes_are : (first : List Copy) (bls : List Block) → with_copies (all_copies first bls) [] ≡ homes_of first bls
homes_are first bls = append_copies first (block_copies bls) [] ∙ ap (with_copies first) (blocks_are bls)

---- The set of homes

pub inserted_is : (v : ℕ) (xs : List ℕ) → inserted v xs ≡ insert v xs
inserted_is v [] = refl
inserted_is v (x ∷ xs) = at_test (nat_lt v x) refl (v == x) refl (inserted_is v xs)
  where
    at_test : (b : Bool) → nat_lt v x ≡ b → (c : Bool) → (v == x) ≡ c → inserted v xs ≡ insert v xs
        → cond b (v ∷ (x ∷ xs)) (cond c (x ∷ xs) (x ∷ inserted v xs)) ≡ cond c (x ∷ xs) (cond b (v ∷ (x ∷ xs)) (x ∷ insert v xs))
    at_test true e true f on = let l = ltb-true v x e in let s = eqb-true v x f in absurd (omega (arith, l, s))
    at_test true e false f on = refl
    at_test false e true f on = refl
    at_test false e false f on = ap (λ ys. x ∷ ys) on

---- The table of ranks

abbrev pub rank_from : ℕ → List ℕ → ℕ → Option ℕ
rank_from i [] v = None
rank_from i (x ∷ xs) v = cond (x == v) (Some i) (rank_from (suc i) xs v)

pub rank_from_is : (i : ℕ) (xs : List ℕ) (v : ℕ) → rank_from i xs v ≡ cond (has xs v) (Some (i + position xs v)) None
rank_from_is i [] v = refl
rank_from_is i (x ∷ xs) v = at_test (rank_from_is (suc i) xs v) (x == v)
  where
    others : (h : Bool) → cond h (Some (suc i + position xs v)) None ≡ cond h (Some (i + suc (position xs v))) None
    others true = let z : suc i + position xs v ≡ i + suc (position xs v) = omega arith in ap Some z
    others false = refl

    at_test : rank_from (suc i) xs v ≡ cond (has xs v) (Some (suc i + position xs v)) None → (b : Bool) → cond b (Some i) (rank_from (suc i) xs v) ≡ cond (cond b true (has xs v)) (Some (i + cond b 0 (suc (position xs v)))) None
    at_test on true = let z : i ≡ i + 0 = omega arith in ap Some z
    at_test on false = on ∙ others (has xs v)

pub ranks_are : (xs : List ℕ) (v : ℕ) → rank_from 0 xs v ≡ rank_in xs v
ranks_are xs v = let z : 0 + position xs v ≡ position xs v = omega arith in rank_from_is 0 xs v ∙ ap (λ n. cond (has xs v) (Some n) None) z

pub ranks_more : (xs : List ℕ) (i j x : ℕ) (before after : List ℕ) → ((v : ℕ) → rank_behind (entry_in before v) ≡ rank_from i (drop i xs) v) → i ≡ j + 1 → j < length xs → x ≡ get_or xs j 0
    → entry_in after x ≡ i → ((v : ℕ) → (x == v) ≡ false → entry_in after v ≡ entry_in before v) → (v : ℕ) → rank_behind (entry_in after v) ≡ rank_from j (drop j xs) v
ranks_more xs i j x before after h is l at one others v =
    at_test (x == v) refl
    ∙ sym (ap (λ (ys : List ℕ). rank_from j ys v) (drop_more xs j 0 l ∙ ap₂ (λ y n. y ∷ drop n xs) (sym at) plus))
  where
    plus : j + 1 ≡ suc j
    plus = omega arith

    at_test : (b : Bool) → (x == v) ≡ b → rank_behind (entry_in after v) ≡ cond b (Some j) (rank_from (suc j) (drop (suc j) xs) v)
    at_test true e = ap (λ n. rank_behind (entry_in after n)) (sym (eqb-true x v e)) ∙ ap rank_behind (one ∙ is ∙ plus)
    at_test false e = ap rank_behind (others v e) ∙ h v ∙ ap (λ n. rank_from n (drop n xs) v) (is ∙ plus)

---- The words of copies

abbrev room_at : Option Where → Room
room_at None = Nowhere
room_at (Some (InReg r)) = Register
room_at (Some (InSlot j)) = slot_room j

to_slot : (near : Bool) → (if near then 1 else 2) ≡ width_between (if near then Near else Far) Register
to_slot true = refl
to_slot false = refl

from_slot : (near : Bool) → (if near then 1 else 2) ≡ width_between Register (if near then Near else Far)
from_slot true = refl
from_slot false = refl

both_slots : (to from : Bool) → (if from then 1 else 2) + (if to then 1 else 2) ≡ width_between (if to then Near else Far) (if from then Near else Far)
both_slots true true = refl
both_slots true false = refl
both_slots false true = refl
both_slots false false = refl

nowhere_from : (r : Room) → 0 ≡ width_between r Nowhere
nowhere_from Register = refl
nowhere_from Near = refl
nowhere_from Far = refl
nowhere_from Nowhere = refl

words_between : (to from : Option Where) → length (move_between to from) ≡ width_between (room_at to) (room_at from)
words_between None from = refl
words_between (Some (InReg d)) None = refl
words_between (Some (InSlot i)) None = nowhere_from (slot_room i)
words_between (Some (InReg d)) (Some (InReg s)) = refl
words_between (Some (InReg d)) (Some (InSlot j)) = load_size d j ∙ from_slot (is_near j)
words_between (Some (InSlot i)) (Some (InReg s)) = store_size s i ∙ to_slot (is_near i)
words_between (Some (InSlot i)) (Some (InSlot j)) = length-append (load_slot 17 j) (store_slot 17 i) ∙ ap₂ (λ m n. m + n) (load_size 17 j) (store_size 17 i) ∙ both_slots (is_near i) (is_near j)

rooms_are : (homes : List ℕ) (outs : ℕ) (pr : Placed) → IsFrameOf homes outs pr → (p : Spot) → room_at (where_is pr p) ≡ room_of homes outs p
rooms_are homes outs pr is (reg r) = at_test (nat_lt r 16)
  where
    at_test : (b : Bool) → room_at (if b then Some (InReg r) else None) ≡ (if b then Register else Nowhere)
    at_test true = refl
    at_test false = refl
rooms_are homes outs pr is (home v) = at_rank (pr.rank v) ∙ ap₂ (λ (n : ℕ) (f : ℕ → Option ℕ). home_room n (f v)) is.outs_are is.rank_is
  where
    at_rank : (o : Option ℕ) → room_at (slot_of pr.outs o) ≡ home_room pr.outs o
    at_rank None = refl
    at_rank (Some j) = refl
rooms_are homes outs pr is (out s) = at_test (nat_lt s pr.outs) ∙ ap (λ n. if (nat_lt s n) then slot_room s else Nowhere) is.outs_are
  where
    at_test : (b : Bool) → room_at (if b then Some (InSlot s) else None) ≡ (if b then slot_room s else Nowhere)
    at_test true = refl
    at_test false = refl
rooms_are homes outs pr is target = refl
rooms_are homes outs pr is saved = refl

pub widths_are : (homes : List ℕ) (outs : ℕ) (pr : Placed) → IsFrameOf homes outs pr → (ms : List Copy) → widths_of_copies homes outs ms ≡ length (copies_words pr ms)
widths_are homes outs pr is [] = refl
widths_are homes outs pr is (m ∷ ms) =
    let one = words_between (where_is pr m.to) (where_is pr m.from) ∙ ap₂ width_between (rooms_are homes outs pr is m.to) (rooms_are homes outs pr is m.from) in
    let more = widths_are homes outs pr is ms in
    let all = length-append (copy_word pr m) (copies_words pr ms) in
    omega (arith, one, more, all)
