-- Each word of placed procedures whose numbers, registers and frames fit is one of the table.
use Rattle.std.proofs.Common.{◌≡◌, ℕ, suc, ◌+◌, ◌-◌, ◌*◌, ◌/◌, ◌%◌, ◌<◌, ◌≤◌, ◌^◌, List, [], ◌∷◌, ◌++◌, map, length, Bool, true, false, cond, Option, Some, None, refl, arith, lit<}
use Rattle.std.specs.Prelude.{◌==◌, nat_lt, if◌then◌else◌}
use Rattle.std.proofs.lemmas.Bool.{ltb-true}
use Rattle.std.proofs.Math.Nat.{mod-lt}
use Rattle.run_laws.specs.Layers.{spread}
use Rattle.a64_numbers.specs.Branches.{branch_field}
use Rattle.a64_numbers.proofs.Branches.{branch_field_lt}
use Rattle.a64_numbers.specs.Moves.{half, more_ones, lowest, filling, beginning, move_of_half, half_moves, given, constant_moves}
use Rattle.a64_numbers.specs.declared.moves.Move.{Move}
use Rattle.a64_numbers.specs.declared.moves.Move.TheVariants.{Movz, Movn, Movk}
use Rattle.a64_numbers.specs.Conditions.{opposite}
use Rattle.a64_instr.specs.declared.instr.Cond.{Cond}
use Rattle.a64_instr.specs.declared.instr.Cond.TheVariants as is
use Rattle.a64_instr.specs.declared.instr.Instr.{Instr}
use Rattle.a64_instr.specs.declared.instr.Instr.TheVariants.{AddImm, SubImm, Ldr, Str}
use Rattle.a64_table.specs.Table.{Field, AllFit, row_of, cond_number}
use Rattle.a64_table.specs.Decode.{cond_of}
use Rattle.a64_machine.specs.State.{address_of}
use Rattle.a64_runtime.specs.Routines.{routines}
use Rattle.block_runs.specs.declared.code.Code.{Code}
use Rattle.block_runs.specs.declared.code.Code.TheVariants as o
use Rattle.block_runs.specs.declared.end.End.{End}
use Rattle.block_runs.specs.declared.end.End.TheVariants.{Return, Jump, Branch, Nonzero, Trap}
use Rattle.block_runs.specs.Blocks.{bodies}
use Rattle.lir_core.specs.Spots.{Spot, reg, home, out, target, saved}
use Rattle.placed_code.specs.Placed.{Copy, Cell, Block, Placed, block_of, procedures, use_register, def_register}
use Rattle.link_blocks.specs.Fits.{most_outs}
use Rattle.placed_code.specs.Words.{Where, InReg, InSlot, slot_of, where_is, near_slots, is_near, page_slots, page_word, load_slot, store_slot, move_between, copy_word, copies_words, slots_of, frame_of, move_word, op_words, depth_words, frame_words, count_words, taking, room_words, data_words, prologue, unframe_words, giving, unroom_words, undata_words, unlocal_words, undepth_words, epilogue, jump_words, turned, branch_words, nonzero_words, result_words, last_words}
use Rattle.size_limits.specs.Limits.{most_slots}
use Rattle.placed_code.specs.Layout.{cell_width, block_width, proc_width, front_width, Placing, placings, zero_first, proc_words, start_words, all_words, entry, routines_at, procedures_at, place}
use Rattle.placed_code.specs.Claims.{AllInRange}
use Rattle.link_blocks.specs.Fits.{number_fits, trap_fits}
use Rattle.procedure_pieces.specs.Code.{cell_code, parts_code, block_code, front_code, proc_code}

in_append : (xs ys : List Instr) → AllInRange xs → AllInRange ys → AllInRange (xs ++ ys)
in_append [] ys f g = g
in_append (x ∷ xs) ys f g = (f.0, in_append xs ys f.1 g)

---- By testing

abbrev all_fit : List Field → Bool
all_fit [] = true
all_fit (f ∷ fs) = if nat_lt f.value (2 ^ f.at.width) then all_fit fs else false

fits_by : (fs : List Field) → all_fit fs ≡ true → AllFit fs
fits_by [] e = tt
fits_by (f ∷ fs) e = by_test (nat_lt f.value (2 ^ f.at.width)) refl e (λ h. fits_by fs h)
  where
    by_test : (b : Bool) → nat_lt f.value (2 ^ f.at.width) ≡ b → (if b then all_fit fs else false) ≡ true → (all_fit fs ≡ true → AllFit fs) → AllFit (f ∷ fs)
    by_test true t e on = (ltb-true f.value (2 ^ f.at.width) t, on e)
    by_test false t e on = cc

abbrev all_in : List Instr → Bool
all_in [] = true
all_in (i ∷ is) = if all_fit (row_of i).fields then all_in is else false

---- Fields

field_26 : (k t : ℕ) → branch_field 26 k t < 2 ^ 26
field_26 k t = branch_field_lt 26 k t

field_19 : (k t : ℕ) → branch_field 19 k t < 2 ^ 19
field_19 k t = branch_field_lt 19 k t

call_low : (k t : ℕ) → branch_field 26 (address_of k) (address_of t) < 2 ^ 26
call_low k t = field_26 (address_of k) (address_of t)

low : (n : ℕ) → n % 2 ^ 12 < 2 ^ 12
low n = mod-lt n (lit< tt)

high : {n : ℕ} → n < 2 ^ 24 → n / 2 ^ 12 < 2 ^ 12
high {n} l = omega (arith, l)

half_low : (n i : ℕ) → half n i < 2 ^ 16
half_low n i = mod-lt (n / 2 ^ (16 * i)) (lit< tt)

cond_low : (c : Cond) → cond_number c < 2 ^ 4
cond_low is.Eq = lit< tt
cond_low is.Ne = lit< tt
cond_low is.Hs = lit< tt
cond_low is.Lo = lit< tt
cond_low is.Mi = lit< tt
cond_low is.Pl = lit< tt
cond_low is.Vs = lit< tt
cond_low is.Vc = lit< tt
cond_low is.Hi = lit< tt
cond_low is.Ls = lit< tt
cond_low is.Ge = lit< tt
cond_low is.Lt = lit< tt
cond_low is.Gt = lit< tt
cond_low is.Le = lit< tt
cond_low is.Al = lit< tt

---- Constants

abbrev MoveLow : Option Move → Type 0
MoveLow None = Unit {0}
MoveLow (Some (Movz n i)) = (n < 2 ^ 16) × (i < 2 ^ 2)
MoveLow (Some (Movn n i)) = (n < 2 ^ 16) × (i < 2 ^ 2)
MoveLow (Some (Movk n i)) = (n < 2 ^ 16) × (i < 2 ^ 2)

move_low : (ones : Bool) (n i : ℕ) → i < 2 ^ 2 → MoveLow (move_of_half ones n i)
move_low ones n i l = by_test (i == lowest ones n) (half n i == filling ones)
  where
    begins : (b : Bool) → MoveLow (Some (beginning b (half n i) i))
    begins true = (omega arith, l)
    begins false = (half_low n i, l)

    by_test : (s t : Bool) → MoveLow (cond s (Some (beginning ones (half n i) i)) (cond t None (Some (Movk (half n i) i))))
    by_test true t = begins ones
    by_test false true = tt
    by_test false false = (half_low n i, l)

abbrev AllMovesLow : List (Option Move) → Type 0
AllMovesLow [] = Unit {0}
AllMovesLow (m ∷ ms) = MoveLow m × AllMovesLow ms

moves_in_table : (d : ℕ) (ms : List (Option Move)) → d < 2 ^ 5 → AllMovesLow ms → AllInRange (map (move_word d) (given ms))
moves_in_table d [] l f = tt
moves_in_table d (None ∷ ms) l f = moves_in_table d ms l f.1
moves_in_table d (Some (Movz n i) ∷ ms) l f = ((l, (f.0.0, (f.0.1, tt))), moves_in_table d ms l f.1)
moves_in_table d (Some (Movn n i) ∷ ms) l f = ((l, (f.0.0, (f.0.1, tt))), moves_in_table d ms l f.1)
moves_in_table d (Some (Movk n i) ∷ ms) l f = ((l, (f.0.0, (f.0.1, tt))), moves_in_table d ms l f.1)

constant_in_table : (d n : ℕ) → d < 2 ^ 5 → AllInRange (map (move_word d) (constant_moves n))
constant_in_table d n l =
    let ones = more_ones n in
    moves_in_table d (half_moves ones n) l (move_low ones n 0 (lit< tt), (move_low ones n 1 (lit< tt), (move_low ones n 2 (lit< tt), (move_low ones n 3 (lit< tt), tt))))

---- Operations

record AreLow (w x y z : ℕ) : Type 0 where
  pub a : w < 2 ^ 5
  pub b : x < 2 ^ 5
  pub c : y < 2 ^ 5
  pub d : z < 2 ^ 5

abbrev NumberLow : ℕ → Code → Type 0
NumberLow slots (o.Global n) = n < 2 ^ 24
NumberLow slots (o.Local n) = n < 2 ^ 24
NumberLow slots (o.Plus n) = n < 2 ^ 24
NumberLow slots (o.Arg n) = slots + (n - 4) < 2 ^ 21
NumberLow slots (o.IsPtr j) = j < 2 ^ 12
NumberLow slots (o.IsTag j) = j < 2 ^ 12
NumberLow slots (o.GuardPtr j) = j < 2 ^ 12
NumberLow slots (o.GuardTag j) = j < 2 ^ 12
NumberLow slots (o.Svc n) = n < 2 ^ 16
NumberLow slots _ = Unit {0}

number_low : (slots : ℕ) (code : Code) → slots ≤ most_slots → number_fits code ≡ true → NumberLow slots code
number_low slots (o.Global n) few e = ltb-true n 16777216 e
number_low slots (o.Local n) few e = ltb-true n 16777216 e
number_low slots (o.Plus n) few e = ltb-true n 16777216 e
number_low slots (o.Arg n) few e = let l = ltb-true n 25 e in omega (arith, l, few)
number_low slots (o.IsPtr j) few e = ltb-true j 4096 e
number_low slots (o.IsTag j) few e = ltb-true j 4096 e
number_low slots (o.GuardPtr j) few e = ltb-true j 4096 e
number_low slots (o.GuardTag j) few e = ltb-true j 4096 e
number_low slots (o.Svc n) few e = ltb-true n 65536 e
number_low slots code few e = tt

---- Slots

page_low : (j : ℕ) → j < 2 ^ 21 → j / page_slots < 2 ^ 12
page_low j l = omega (arith, l)

in_page : (j : ℕ) → j % page_slots < 2 ^ 12
in_page j = omega arith

load_in_table : (d j : ℕ) → d < 2 ^ 5 → j < 2 ^ 21 → AllInRange (load_slot d j)
load_in_table d j l m = by_reach (is_near j) refl
  where
    by_reach : (b : Bool) → is_near j ≡ b → AllInRange (if b then (Ldr d 31 j ∷ []) else (page_word j ∷ Ldr d 26 (j % page_slots) ∷ []))
    by_reach true e = ((l, (lit< tt, (ltb-true j near_slots e, tt))), tt)
    by_reach false e = ((lit< tt, (lit< tt, (page_low j m, (lit< tt, tt)))), ((l, (lit< tt, (in_page j, tt))), tt))

store_in_table : (s j : ℕ) → s < 2 ^ 5 → j < 2 ^ 21 → AllInRange (store_slot s j)
store_in_table s j l m = by_reach (is_near j) refl
  where
    by_reach : (b : Bool) → is_near j ≡ b → AllInRange (if b then (Str s 31 j ∷ []) else (page_word j ∷ Str s 26 (j % page_slots) ∷ []))
    by_reach true e = ((l, (lit< tt, (ltb-true j near_slots e, tt))), tt)
    by_reach false e = ((lit< tt, (lit< tt, (page_low j m, (lit< tt, tt)))), ((l, (lit< tt, (in_page j, tt))), tt))

op_in_table : (entry : ℕ → ℕ) (start slots k : ℕ) (code : Code) (a b c d : ℕ) → AreLow a b c d → NumberLow slots code → AllInRange (op_words entry start slots k code a b c d)
op_in_table entry start slots k (o.Const n) a b c d r fit = constant_in_table d n r.d
op_in_table entry start slots k (o.Global n) a b c d r fit = let n_low : n < 2 ^ 24 = fit in ((r.d, (lit< tt, (high n_low, (lit< tt, tt)))), ((r.d, (r.d, (low n, (lit< tt, tt)))), tt))
op_in_table entry start slots k (o.Local n) a b c d r fit = let n_low : n < 2 ^ 24 = fit in ((r.d, (lit< tt, (high n_low, (lit< tt, tt)))), ((r.d, (r.d, (low n, (lit< tt, tt)))), tt))
op_in_table entry start slots k (o.Plus n) a b c d r fit = let n_low : n < 2 ^ 24 = fit in ((r.d, (r.a, (high n_low, (lit< tt, tt)))), ((r.d, (r.d, (low n, (lit< tt, tt)))), tt))
op_in_table entry start slots k (o.Code p) a b c d r fit = ((r.d, (half_low (address_of (entry p)) 0, (lit< tt, tt))), ((r.d, (half_low (address_of (entry p)) 1, (lit< tt, tt))), tt))
op_in_table entry start slots k (o.Arg n) a b c d r fit = load_in_table d (slots + (n - 4)) r.d fit
op_in_table entry start slots k o.Load a b c d r fit = ((r.d, (r.a, (lit< tt, tt))), tt)
op_in_table entry start slots k o.Store a b c d r fit = ((r.b, (r.a, (lit< tt, tt))), tt)
op_in_table entry start slots k o.LoadByte a b c d r fit = ((r.d, (r.a, (lit< tt, tt))), tt)
op_in_table entry start slots k o.StoreByte a b c d r fit = ((r.b, (r.a, (lit< tt, tt))), tt)
op_in_table entry start slots k o.Add a b c d r fit = ((r.d, (r.a, (lit< tt, (r.b, (lit< tt, tt))))), tt)
op_in_table entry start slots k o.Sub a b c d r fit = ((r.d, (r.a, (lit< tt, (r.b, (lit< tt, tt))))), tt)
op_in_table entry start slots k o.And a b c d r fit = ((r.d, (r.a, (lit< tt, (r.b, (lit< tt, tt))))), tt)
op_in_table entry start slots k o.Or a b c d r fit = ((r.d, (r.a, (lit< tt, (r.b, (lit< tt, tt))))), tt)
op_in_table entry start slots k o.Eor a b c d r fit = ((r.d, (r.a, (lit< tt, (r.b, (lit< tt, tt))))), tt)
op_in_table entry start slots k o.Bic a b c d r fit = ((r.d, (r.a, (lit< tt, (r.b, (lit< tt, tt))))), tt)
op_in_table entry start slots k o.Lsl a b c d r fit = ((r.d, (r.a, (r.b, tt))), tt)
op_in_table entry start slots k o.Asr a b c d r fit = ((r.d, (r.a, (r.b, tt))), tt)
op_in_table entry start slots k o.Ror a b c d r fit = ((r.d, (r.a, (r.b, tt))), tt)
op_in_table entry start slots k o.Mul a b c d r fit = ((r.d, (r.a, (r.b, (lit< tt, tt)))), tt)
op_in_table entry start slots k o.MulAdd a b c d r fit = ((r.d, (r.a, (r.b, (r.c, tt)))), tt)
op_in_table entry start slots k o.Neg a b c d r fit = ((r.d, (lit< tt, (lit< tt, (r.a, (lit< tt, tt))))), tt)
op_in_table entry start slots k o.Not a b c d r fit = ((r.d, (lit< tt, (lit< tt, (r.a, (lit< tt, tt))))), tt)
op_in_table entry start slots k o.Abs a b c d r fit = ((lit< tt, (r.a, (lit< tt, (lit< tt, tt)))), ((r.d, (r.a, (lit< tt, (r.a, tt)))), tt))
op_in_table entry start slots k o.Max0 a b c d r fit = ((lit< tt, (r.a, (lit< tt, (lit< tt, tt)))), ((r.d, (r.a, (lit< tt, (lit< tt, tt)))), tt))
op_in_table entry start slots k o.Odd a b c d r fit = ((lit< tt, (lit< tt, (lit< tt, tt))), ((r.d, (r.a, (lit< tt, (lit< tt, (lit< tt, tt))))), tt))
op_in_table entry start slots k (o.Set n) a b c d r fit = ((lit< tt, (r.a, (lit< tt, (r.b, (lit< tt, tt))))), ((r.d, (lit< tt, (cond_low (opposite (cond_of n)), (lit< tt, tt)))), tt))
op_in_table entry start slots k o.Flip a b c d r fit = ((lit< tt, (r.a, (lit< tt, (lit< tt, tt)))), ((r.d, (lit< tt, (lit< tt, (lit< tt, tt)))), tt))
op_in_table entry start slots k o.Bit a b c d r fit = ((lit< tt, (lit< tt, (lit< tt, tt))), ((r.d, (lit< tt, (r.a, tt))), tt))
op_in_table entry start slots k o.Span a b c d r fit = ((lit< tt, (lit< tt, (lit< tt, tt))), ((lit< tt, (lit< tt, (r.a, tt))), ((lit< tt, (lit< tt, (lit< tt, tt))), ((lit< tt, (lit< tt, (lit< tt, (r.b, (lit< tt, tt))))), ((r.d, (lit< tt, (lit< tt, tt))), ((r.d, (r.d, (lit< tt, tt))), ((r.d, (r.d, (lit< tt, (lit< tt, (lit< tt, tt))))), tt)))))))
op_in_table entry start slots k o.Has a b c d r fit = ((lit< tt, (r.b, (r.a, tt))), ((lit< tt, (lit< tt, (lit< tt, tt))), ((r.d, (lit< tt, (lit< tt, (lit< tt, (lit< tt, tt))))), tt)))
op_in_table entry start slots k o.Div a b c d r fit = ((lit< tt, (r.b, (lit< tt, (lit< tt, tt)))), ((lit< tt, (lit< tt, tt)), ((lit< tt, tt), ((lit< tt, (r.a, (r.b, tt))), ((lit< tt, (lit< tt, (r.b, (r.a, tt)))), ((r.d, (lit< tt, (lit< tt, (lit< tt, (lit< tt, tt))))), tt))))))
op_in_table entry start slots k o.Mod a b c d r fit = ((lit< tt, (r.b, (lit< tt, (lit< tt, tt)))), ((lit< tt, (lit< tt, tt)), ((lit< tt, tt), ((lit< tt, (r.a, (r.b, tt))), ((lit< tt, (lit< tt, (r.b, (r.a, tt)))), ((lit< tt, (r.b, (lit< tt, (lit< tt, (lit< tt, tt))))), ((r.d, (lit< tt, (lit< tt, (lit< tt, (lit< tt, tt))))), tt)))))))
op_in_table entry start slots k o.Below a b c d r fit = ((lit< tt, (r.a, (lit< tt, (r.b, (lit< tt, tt))))), ((lit< tt, (lit< tt, tt)), ((lit< tt, tt), tt)))
op_in_table entry start slots k o.Fits a b c d r fit = ((lit< tt, (r.a, (lit< tt, (r.b, (lit< tt, tt))))), ((lit< tt, (lit< tt, tt)), ((lit< tt, tt), tt)))
op_in_table entry start slots k o.Byte a b c d r fit = ((lit< tt, (r.a, (lit< tt, (lit< tt, tt)))), ((lit< tt, (lit< tt, tt)), ((lit< tt, tt), tt)))
op_in_table entry start slots k o.Elem a b c d r fit = ((lit< tt, (r.a, (lit< tt, (lit< tt, tt)))), ((lit< tt, (lit< tt, tt)), ((lit< tt, tt), tt)))
op_in_table entry start slots k o.NotNil a b c d r fit = ((r.a, (lit< tt, tt)), ((lit< tt, tt), tt))
op_in_table entry start slots k o.True a b c d r fit = ((r.a, (lit< tt, tt)), ((lit< tt, tt), tt))
op_in_table entry start slots k (o.IsPtr j) a b c d r fit = let j_low : j < 2 ^ 12 = fit in ((lit< tt, (lit< tt, (lit< tt, tt))), ((r.a, (lit< tt, tt)), ((lit< tt, (r.a, (lit< tt, tt))), ((lit< tt, (lit< tt, (j_low, tt))), ((lit< tt, (lit< tt, (lit< tt, (r.b, (lit< tt, tt))))), ((r.d, (lit< tt, (lit< tt, (lit< tt, tt)))), tt))))))
op_in_table entry start slots k (o.IsTag j) a b c d r fit = let j_low : j < 2 ^ 12 = fit in ((lit< tt, (r.a, (j_low, tt))), ((lit< tt, (lit< tt, (lit< tt, (r.b, (lit< tt, tt))))), ((r.d, (lit< tt, (lit< tt, (lit< tt, tt)))), tt)))
op_in_table entry start slots k (o.GuardPtr j) a b c d r fit = let j_low : j < 2 ^ 12 = fit in ((r.a, (lit< tt, tt)), ((lit< tt, tt), ((lit< tt, (r.a, (lit< tt, tt))), ((lit< tt, (lit< tt, (j_low, tt))), ((lit< tt, (lit< tt, (lit< tt, (r.b, (lit< tt, tt))))), ((lit< tt, (lit< tt, tt)), ((lit< tt, tt), tt)))))))
op_in_table entry start slots k (o.GuardTag j) a b c d r fit = let j_low : j < 2 ^ 12 = fit in ((lit< tt, (r.a, (j_low, tt))), ((lit< tt, (lit< tt, (lit< tt, (r.b, (lit< tt, tt))))), ((lit< tt, (lit< tt, tt)), ((lit< tt, tt), tt))))
op_in_table entry start slots k o.New a b c d r fit = ((lit< tt, (lit< tt, (lit< tt, (r.a, (lit< tt, tt))))), ((lit< tt, (lit< tt, tt)), ((lit< tt, tt), ((lit< tt, (lit< tt, (lit< tt, (r.a, (lit< tt, tt))))), ((r.c, (lit< tt, (lit< tt, tt))), ((lit< tt, (lit< tt, (lit< tt, (lit< tt, (lit< tt, tt))))), ((lit< tt, (lit< tt, (lit< tt, (r.b, (lit< tt, tt))))), ((r.d, (lit< tt, (lit< tt, (lit< tt, (lit< tt, tt))))), tt))))))))
op_in_table entry start slots k (o.Call p) a b c d r fit = ((call_low k _, tt), tt)
op_in_table entry start slots k o.CallAt a b c d r fit = ((lit< tt, tt), tt)
op_in_table entry start slots k o.Copy a b c d r fit = ((call_low k _, tt), tt)
op_in_table entry start slots k o.Zero a b c d r fit = ((call_low k _, tt), tt)
op_in_table entry start slots k o.Compare a b c d r fit = ((call_low k _, tt), tt)
op_in_table entry start slots k (o.Svc n) a b c d r fit = let n_low : n < 2 ^ 16 = fit in ((n_low, tt), tt)

---- Copies

abbrev WhereLow : Option Where → Type 0
WhereLow None = Unit {0}
WhereLow (Some (InReg r)) = r < 2 ^ 5
WhereLow (Some (InSlot j)) = j < 2 ^ 21

between_low : (to from : Option Where) → WhereLow to → WhereLow from → AllInRange (move_between to from)
between_low None from l m = tt
between_low (Some to) None l m = tt
between_low (Some (InReg d)) (Some (InReg s)) l m = ((l, (lit< tt, (lit< tt, (m, (lit< tt, tt))))), tt)
between_low (Some (InReg d)) (Some (InSlot j)) l m = load_in_table d j l m
between_low (Some (InSlot j)) (Some (InReg s)) l m = store_in_table s j m l
between_low (Some (InSlot j)) (Some (InSlot i)) l m = in_append (load_slot 17 i) (store_slot 17 j) (load_in_table 17 i (lit< tt) m) (store_in_table 17 j (lit< tt) l)

-- a frame whose slots loads reach, and its link one word
pub record FrameLow (pr : Placed) : Type 0 where
  pub slots : slots_of pr ≤ most_slots
  pub outs : pr.outs ≤ most_outs
  pub ranks : (v j : ℕ) → pr.rank v ≡ Some j → j < pr.homes
  pub bytes : pr.bytes < 2 ^ 24

module _ (pr : Placed) (f : FrameLow pr) where
  few : pr.outs + (1 + pr.homes) ≤ most_slots
  few = f.slots

  where_low : (p : Spot) → WhereLow (where_is pr p)
  where_low (reg r) = by_test (nat_lt r 16) refl
    where
      by_test : (b : Bool) → nat_lt r 16 ≡ b → WhereLow (if b then Some (InReg r) else None)
      by_test true e = let l = ltb-true r 16 e in omega (arith, l)
      by_test false e = tt
  where_low (home v) = by_rank (pr.rank v) refl
    where
      by_rank : (o : Option ℕ) → pr.rank v ≡ o → WhereLow (slot_of pr.outs o)
      by_rank None e = tt
      by_rank (Some j) e = let l = f.ranks v j e in omega (arith, l, few)
  where_low (out s) = by_test (nat_lt s pr.outs) refl
    where
      by_test : (b : Bool) → nat_lt s pr.outs ≡ b → WhereLow (if b then Some (InSlot s) else None)
      by_test true e = let l = ltb-true s pr.outs e in omega (arith, l, few)
      by_test false e = tt
  where_low target = lit< tt
  where_low saved = lit< tt

  copies_in_table : (ms : List Copy) → AllInRange (copies_words pr ms)
  copies_in_table [] = tt
  copies_in_table (m ∷ ms) = in_append (copy_word pr m) (copies_words pr ms) (between_low (where_is pr m.to) (where_is pr m.from) (where_low m.to) (where_low m.from)) (copies_in_table ms)

  ---- Entries and ends

  outs_low : pr.outs < 2 ^ 12
  outs_low = let l = f.outs in omega (arith, l)

  bytes_low : frame_of pr < 2 ^ 24
  bytes_low = omega (arith, few)

  depth_low : (b : Bool) → AllInRange (depth_words b)
  depth_low true = ((lit< tt, (lit< tt, tt)), ((lit< tt, tt), ((lit< tt, (lit< tt, (lit< tt, (lit< tt, tt)))), tt)))
  depth_low false = tt

  undepth_low : (b : Bool) → AllInRange (undepth_words b)
  undepth_low true = ((lit< tt, (lit< tt, (lit< tt, (lit< tt, tt)))), tt)
  undepth_low false = tt

  frame_low : AllInRange (frame_words (frame_of pr) pr.outs)
  frame_low = ((lit< tt, (lit< tt, (high bytes_low, (lit< tt, tt)))), ((lit< tt, (lit< tt, (low (frame_of pr), (lit< tt, tt)))), ((lit< tt, (lit< tt, (outs_low, tt))), tt)))

  unframe_low : AllInRange (unframe_words (frame_of pr) pr.outs)
  unframe_low = ((lit< tt, (lit< tt, (outs_low, tt))), ((lit< tt, (lit< tt, (high bytes_low, (lit< tt, tt)))), ((lit< tt, (lit< tt, (low (frame_of pr), (lit< tt, tt)))), tt)))

  room_low : (c : ℕ) → AllInRange (room_words c)
  room_low c = by_test (c == 0)
    where
      by_test : (b : Bool) → AllInRange (if b then [] else taking c)
      by_test true = tt
      by_test false = in_append (count_words c) _ (constant_in_table 16 c (lit< tt))
          ((lit< tt, (lit< tt, (lit< tt, (lit< tt, (lit< tt, tt))))), ((lit< tt, (lit< tt, tt)), ((lit< tt, tt), ((lit< tt, (lit< tt, (lit< tt, (lit< tt, (lit< tt, tt))))), tt))))

  unroom_low : (c : ℕ) → AllInRange (unroom_words c)
  unroom_low c = by_test (c == 0)
    where
      by_test : (b : Bool) → AllInRange (if b then [] else giving c)
      by_test true = tt
      by_test false = in_append (count_words c) _ (constant_in_table 16 c (lit< tt)) ((lit< tt, (lit< tt, (lit< tt, (lit< tt, (lit< tt, tt))))), tt)

  data_low : AllInRange (data_words pr.bytes)
  data_low = by_test (pr.bytes == 0)
    where
      by_test : (b : Bool) → AllInRange (if b then [] else (AddImm 19 19 (pr.bytes / 2 ^ 12) true ∷ AddImm 19 19 (pr.bytes % 2 ^ 12) false ∷ []))
      by_test true = tt
      by_test false = ((lit< tt, (lit< tt, (high f.bytes, (lit< tt, tt)))), ((lit< tt, (lit< tt, (low pr.bytes, (lit< tt, tt)))), tt))

  undata_low : AllInRange (undata_words pr.bytes)
  undata_low = by_test (pr.bytes == 0)
    where
      by_test : (b : Bool) → AllInRange (if b then [] else (SubImm 19 19 (pr.bytes / 2 ^ 12) true ∷ SubImm 19 19 (pr.bytes % 2 ^ 12) false ∷ []))
      by_test true = tt
      by_test false = ((lit< tt, (lit< tt, (high f.bytes, (lit< tt, tt)))), ((lit< tt, (lit< tt, (low pr.bytes, (lit< tt, tt)))), tt))

  prologue_in_table : AllInRange (prologue pr)
  prologue_in_table =
      in_append (depth_words pr.counted) _ (depth_low pr.counted) (in_append (frame_words (frame_of pr) pr.outs) _ frame_low (in_append (room_words pr.cells) _ (room_low pr.cells) data_low))

  epilogue_in_table : AllInRange (epilogue pr)
  epilogue_in_table =
      in_append (unframe_words (frame_of pr) pr.outs) _ unframe_low
      (in_append (unlocal_words pr.cells pr.bytes) _ (in_append (undata_words pr.bytes) _ undata_low (unroom_low pr.cells)) (in_append (undepth_words pr.counted) _ (undepth_low pr.counted) ((lit< tt, tt), tt)))

  jump_low : (b : Bool) (k t : ℕ) → AllInRange (jump_words b k t)
  jump_low true k t = tt
  jump_low false k t = ((call_low k t, tt), tt)

  branch_low : (s t : Bool) (k : ℕ) (c : Cond) (one other : ℕ) → AllInRange (branch_words s t k c one other)
  branch_low true t k c one other = ((field_19 (address_of k) (address_of other), (cond_low (opposite c), tt)), tt)
  branch_low false t k c one other = ((field_19 (address_of k) (address_of one), (cond_low c, tt)), jump_low t (suc k) other)

  nonzero_low : (s t : Bool) (k a one other : ℕ) → a < 2 ^ 5 → AllInRange (nonzero_words s t k a one other)
  nonzero_low true t k a one other l = ((l, (field_19 (address_of k) (address_of other), tt)), tt)
  nonzero_low false t k a one other l = ((l, (field_19 (address_of k) (address_of one), tt)), jump_low t (suc k) other)

  result_low : (x : Option ℕ) (a : ℕ) → a < 2 ^ 5 → AllInRange (result_words x a)
  result_low None a l = tt
  result_low (Some x) a l = ((lit< tt, (lit< tt, (lit< tt, (l, (lit< tt, tt))))), tt)

  last_in_table : (n : ℕ) (block : ℕ → ℕ) (k : ℕ) (end : End) (a b : ℕ) → a < 2 ^ 5 → b < 2 ^ 5 → trap_fits end ≡ true → AllInRange (last_words n block pr k end a b)
  last_in_table n block k (Return x) a b la lb e = in_append (result_words x a) (epilogue pr) (result_low x a la) epilogue_in_table
  last_in_table n block k (Jump to args) a b la lb e = jump_low (to == n) k (block to)
  last_in_table n block k (Branch c x y one other) a b la lb e = ((lit< tt, (la, (lit< tt, (lb, (lit< tt, tt))))), branch_low (turned n one other) (other == n) (suc k) (cond_of c) (block one) (block other))
  last_in_table n block k (Nonzero x one other) a b la lb e = nonzero_low (turned n one other) (other == n) k a (block one) (block other) la
  last_in_table n block k (Trap kind) a b la lb e = ((ltb-true kind 65536 e, tt), tt)

---- Procedures

-- an operation's number and its registers fit
pub record CellLow (cell : Cell) : Type 0 where
  pub number : number_fits cell.op.code ≡ true
  pub uses : (i : ℕ) → use_register cell.named i < 16
  pub def : def_register cell.named cell.op < 16

abbrev pub CellsLow : List Cell → Type 0
CellsLow [] = Unit {0}
CellsLow (cell ∷ cells) = CellLow cell × CellsLow cells

pub record BlockLow (bl : Block) : Type 0 where
  pub cells : CellsLow bl.body
  pub a : bl.a < 16
  pub b : bl.b < 16
  pub trap : trap_fits bl.end ≡ true

pub record ProcLow (pr : Placed) : Type 0 where
  pub frame : FrameLow pr
  pub blocks : (b : ℕ) → BlockLow (block_of pr b)

module _ (entry : ℕ → ℕ) (start : ℕ) (block : ℕ → ℕ) (pr : Placed) (p : ProcLow pr) where
  cell_in_table : (j k : ℕ) (cell : Cell) → CellLow cell → AllInRange (cell_code entry start pr j k cell)
  cell_in_table j k cell l =
      let x = l.uses 0 in let y = l.uses 1 in let z = l.uses 2 in let w = l.def in
      in_append (copies_words pr cell.copies) _ (copies_in_table pr p.frame cell.copies)
      (op_in_table entry start (slots_of pr) (k + length (copies_words pr cell.copies)) cell.op.code (use_register cell.named 0) (use_register cell.named 1) (use_register cell.named 2) (def_register cell.named cell.op)
      (record { a = omega (arith, x); b = omega (arith, y); c = omega (arith, z); d = omega (arith, w) }) (number_low (slots_of pr) cell.op.code p.frame.slots l.number))

  cells_in_table : (j k : ℕ) (cells : List Cell) → CellsLow cells → AllInRange (spread (cell_code entry start pr) (cell_width pr) j k cells)
  cells_in_table j k [] l = tt
  cells_in_table j k (cell ∷ cells) l = in_append (cell_code entry start pr j k cell) _ (cell_in_table j k cell l.0) (cells_in_table (suc j) (k + cell_width pr j cell) cells l.1)

  parts_in_table : (n k : ℕ) (bl : Block) → BlockLow bl → AllInRange (parts_code entry start block pr n k bl)
  parts_in_table n k bl l =
      let x = l.a in let y = l.b in
      in_append (spread (cell_code entry start pr) (cell_width pr) 0 k bl.body) _ (cells_in_table 0 k bl.body l.cells)
      (in_append (copies_words pr bl.copies) _ (copies_in_table pr p.frame bl.copies) (last_in_table pr p.frame n block _ bl.end bl.a bl.b (omega (arith, x)) (omega (arith, y)) l.trap))

  blocks_in_table : (j k : ℕ) (ats : List Placing) → AllInRange (spread (block_code entry start block pr) (block_width pr) j k ats)
  blocks_in_table j k [] = tt
  blocks_in_table j k (at ∷ ats) = in_append (block_code entry start block pr j k at) _ (parts_in_table at.next k (block_of pr at.number) (p.blocks at.number)) (blocks_in_table (suc j) (k + block_width pr j at) ats)

  proc_in_table : (k : ℕ) → AllInRange (proc_code entry start block k pr)
  proc_in_table k =
      in_append (front_code block pr k) _
      (in_append (prologue pr) _ (prologue_in_table pr p.frame) (in_append (copies_words pr pr.copies) _ (copies_in_table pr p.frame pr.copies) (jump_low pr p.frame (zero_first pr) _ (block 0))))
      (blocks_in_table 0 (k + front_width pr) (placings pr))

---- All of it

abbrev pub AllLow : List Placed → Type 0
AllLow [] = Unit {0}
AllLow (pr ∷ ps) = ProcLow pr × AllLow ps

start_in_table : (e : ℕ → ℕ) (k : ℕ) (bs : List ℕ) → AllInRange (start_words e k bs)
start_in_table e k [] = ((lit< tt, tt), tt)
start_in_table e k (b ∷ bs) = ((call_low k (e b), tt), start_in_table e (suc k) bs)

each_by : (is : List Instr) → all_in is ≡ true → AllInRange is
each_by [] e = tt
each_by (i ∷ is) e = by_test (all_fit (row_of i).fields) refl e (λ h. each_by is h)
  where
    by_test : (b : Bool) → all_fit (row_of i).fields ≡ b → (if b then all_in is else false) ≡ true → (all_in is ≡ true → AllInRange is) → AllInRange (i ∷ is)
    by_test true t e on = (fits_by (row_of i).fields t, on e)
    by_test false t e on = cc

routines_in_table : AllInRange routines
routines_in_table = each_by routines refl

module _ (ps : List Placed) where
  procs_in_table : (j k : ℕ) (qs : List Placed) → AllLow qs → AllInRange (spread (proc_words ps) proc_width j k qs)
  procs_in_table j k [] l = tt
  procs_in_table j k (pr ∷ qs) l = in_append (proc_words ps j k pr) _ (proc_in_table (entry ps) (routines_at ps) (λ t. place ps j t 0) pr l.0 k) (procs_in_table (suc j) (k + proc_width j pr) qs l.1)

  pub all_in_table : AllLow ps → AllInRange (all_words ps)
  all_in_table l =
      in_append (start_words (entry ps) 0 (bodies (procedures ps))) _ (start_in_table (entry ps) 0 (bodies (procedures ps)))
      (in_append routines _ routines_in_table (procs_in_table 0 (procedures_at ps) ps l))
