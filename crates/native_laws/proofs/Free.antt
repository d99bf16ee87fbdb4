-- No word of placed procedures names X28: operations name X0 to X15 and their own registers, copies and frames others below X28 or X30 and SP.
use Rattle.std.proofs.Common.{◌≡◌, ℕ, suc, ◌+◌, ◌-◌, ◌/◌, ◌%◌, ◌<◌, ◌^◌, List, [], ◌∷◌, ◌++◌, map, length, Bool, true, false, Option, Some, None, refl, ap, arith}
use Rattle.std.specs.Prelude.{◌==◌, nat_lt, not, if◌then◌else◌}
use Rattle.std.specs.List.{list_all}
use Rattle.std.proofs.lemmas.Bool.{ltb-true, ne_eqb}
use Rattle.run_laws.specs.Layers.{spread}
use Rattle.a64_numbers.specs.Moves.{constant_moves}
use Rattle.a64_numbers.specs.declared.moves.Move.{Move}
use Rattle.a64_numbers.specs.declared.moves.Move.TheVariants.{Movz, Movn, Movk}
use Rattle.a64_instr.specs.declared.instr.Cond.{Cond}
use Rattle.a64_instr.specs.declared.instr.Instr.{Instr}
use Rattle.a64_instr.specs.declared.instr.Instr.TheVariants.{AddImm, SubImm, Ldr, Str}
use Rattle.a64_table.specs.Decode.{cond_of}
use Rattle.a64_runtime.specs.Routines.{routines}
use Rattle.block_runs.specs.declared.code.Code.{Code}
use Rattle.block_runs.specs.declared.code.Code.TheVariants as o
use Rattle.block_runs.specs.declared.end.End.{End}
use Rattle.block_runs.specs.declared.end.End.TheVariants.{Return, Jump, Branch, Nonzero, Trap}
use Rattle.block_runs.specs.Blocks.{bodies}
use Rattle.lir_core.specs.Spots.{Spot, reg, home, out, target, saved}
use Rattle.placed_code.specs.Placed.{Copy, Cell, Block, Placed, block_of, procedures, use_register, def_register}
use Rattle.placed_code.specs.Words.{Where, InReg, InSlot, slot_of, where_is, page_slots, page_word, is_near, load_slot, store_slot, move_between, copy_word, copies_words, slots_of, frame_of, move_word, op_words, depth_words, frame_words, count_words, taking, room_words, data_words, prologue, unframe_words, giving, unroom_words, undata_words, unlocal_words, undepth_words, epilogue, jump_words, turned, branch_words, nonzero_words, result_words, last_words}
use Rattle.placed_code.specs.Layout.{cell_width, block_width, proc_width, front_width, Placing, placings, zero_first, proc_words, start_words, all_words, entry, routines_at, procedures_at, place}
use Rattle.procedure_pieces.specs.Code.{cell_code, parts_code, block_code, front_code, proc_code}
use Rattle.source_image.proofs.link_plan.InTable.{CellLow, CellsLow, BlockLow, ProcLow, AllLow}
use Rattle.native_laws.specs.Registers.{registers_of, leaves_frame_register}
use Rattle.ob_types.proofs.Tests.{and_from as both}

---- By register

abbrev Spared : ℕ → Type 0
Spared n = not (n == 28) ≡ true

abbrev pub AllSpared : List ℕ → Type 0
AllSpared [] = Unit {0}
AllSpared (n ∷ ns) = Spared n × AllSpared ns

-- no instruction names X28
abbrev pub AllFree : List Instr → Type 0
AllFree [] = Unit {0}
AllFree (i ∷ is) = AllSpared (registers_of i) × AllFree is

spared_by : (ns : List ℕ) → AllSpared ns → list_all (λ n. not (n == 28)) ns ≡ true
spared_by [] h = refl
spared_by (n ∷ ns) h = both (not (n == 28)) (list_all (λ m. not (m == 28)) ns) h.0 (spared_by ns h.1)

pub leaves : (i : Instr) → AllSpared (registers_of i) → leaves_frame_register i ≡ true
leaves i h = spared_by (registers_of i) h

free_append : (xs ys : List Instr) → AllFree xs → AllFree ys → AllFree (xs ++ ys)
free_append [] ys f g = g
free_append (x ∷ xs) ys f g = (f.0, free_append xs ys f.1 g)

-- the registers of values
low_spared : (n : ℕ) → n < 16 → Spared n
low_spared n l = let other : (n == 28) ≡ false = ne_eqb n 28 (λ e. omega (arith, e, l)) in ap (λ b. not b) other

---- Operations

record AreSpared (w x y z : ℕ) : Type 0 where
  pub a : Spared w
  pub b : Spared x
  pub c : Spared y
  pub d : Spared z

moves_free : (d : ℕ) (ms : List Move) → Spared d → AllFree (map (move_word d) ms)
moves_free d [] l = tt
moves_free d (Movz n i ∷ ms) l = ((l, tt), moves_free d ms l)
moves_free d (Movn n i ∷ ms) l = ((l, tt), moves_free d ms l)
moves_free d (Movk n i ∷ ms) l = ((l, tt), moves_free d ms l)

constant_free : (d n : ℕ) → Spared d → AllFree (map (move_word d) (constant_moves n))
constant_free d n l = moves_free d (constant_moves n) l

load_free : (d j : ℕ) → Spared d → AllFree (load_slot d j)
load_free d j l = by_reach (is_near j)
  where
    by_reach : (b : Bool) → AllFree (if b then (Ldr d 31 j ∷ []) else (page_word j ∷ Ldr d 26 (j % page_slots) ∷ []))
    by_reach true = ((l, (refl, tt)), tt)
    by_reach false = ((refl, (refl, tt)), ((l, (refl, tt)), tt))

store_free : (s j : ℕ) → Spared s → AllFree (store_slot s j)
store_free s j l = by_reach (is_near j)
  where
    by_reach : (b : Bool) → AllFree (if b then (Str s 31 j ∷ []) else (page_word j ∷ Str s 26 (j % page_slots) ∷ []))
    by_reach true = ((l, (refl, tt)), tt)
    by_reach false = ((refl, (refl, tt)), ((l, (refl, tt)), tt))

op_free : (entry : ℕ → ℕ) (start slots k : ℕ) (code : Code) (a b c d : ℕ) → AreSpared a b c d → AllFree (op_words entry start slots k code a b c d)
op_free entry start slots k (o.Const n) a b c d r = constant_free d n r.d
op_free entry start slots k (o.Global n) a b c d r = ((r.d, (refl, tt)), ((r.d, (r.d, tt)), tt))
op_free entry start slots k (o.Local n) a b c d r = ((r.d, (refl, tt)), ((r.d, (r.d, tt)), tt))
op_free entry start slots k (o.Plus n) a b c d r = ((r.d, (r.a, tt)), ((r.d, (r.d, tt)), tt))
op_free entry start slots k (o.Code p) a b c d r = ((r.d, tt), ((r.d, tt), tt))
op_free entry start slots k (o.Arg n) a b c d r = load_free d (slots + (n - 4)) r.d
op_free entry start slots k o.Load a b c d r = ((r.d, (r.a, tt)), tt)
op_free entry start slots k o.Store a b c d r = ((r.b, (r.a, tt)), tt)
op_free entry start slots k o.LoadByte a b c d r = ((r.d, (r.a, tt)), tt)
op_free entry start slots k o.StoreByte a b c d r = ((r.b, (r.a, tt)), tt)
op_free entry start slots k o.Add a b c d r = ((r.d, (r.a, (r.b, tt))), tt)
op_free entry start slots k o.Sub a b c d r = ((r.d, (r.a, (r.b, tt))), tt)
op_free entry start slots k o.And a b c d r = ((r.d, (r.a, (r.b, tt))), tt)
op_free entry start slots k o.Or a b c d r = ((r.d, (r.a, (r.b, tt))), tt)
op_free entry start slots k o.Eor a b c d r = ((r.d, (r.a, (r.b, tt))), tt)
op_free entry start slots k o.Bic a b c d r = ((r.d, (r.a, (r.b, tt))), tt)
op_free entry start slots k o.Lsl a b c d r = ((r.d, (r.a, (r.b, tt))), tt)
op_free entry start slots k o.Asr a b c d r = ((r.d, (r.a, (r.b, tt))), tt)
op_free entry start slots k o.Ror a b c d r = ((r.d, (r.a, (r.b, tt))), tt)
op_free entry start slots k o.Mul a b c d r = ((r.d, (r.a, (r.b, (refl, tt)))), tt)
op_free entry start slots k o.MulAdd a b c d r = ((r.d, (r.a, (r.b, (r.c, tt)))), tt)
op_free entry start slots k o.Neg a b c d r = ((r.d, (refl, (r.a, tt))), tt)
op_free entry start slots k o.Not a b c d r = ((r.d, (refl, (r.a, tt))), tt)
op_free entry start slots k o.Abs a b c d r = ((refl, (r.a, tt)), ((r.d, (r.a, (r.a, tt))), tt))
op_free entry start slots k o.Max0 a b c d r = ((refl, (r.a, tt)), ((r.d, (r.a, (refl, tt))), tt))
op_free entry start slots k o.Odd a b c d r = ((refl, tt), ((r.d, (r.a, (refl, tt))), tt))
op_free entry start slots k (o.Set n) a b c d r = ((refl, (r.a, (r.b, tt))), ((r.d, (refl, (refl, tt))), tt))
op_free entry start slots k o.Flip a b c d r = ((refl, (r.a, tt)), ((r.d, (refl, (refl, tt))), tt))
op_free entry start slots k o.Bit a b c d r = ((refl, tt), ((r.d, (refl, (r.a, tt))), tt))
op_free entry start slots k o.Span a b c d r = ((refl, tt), ((refl, (refl, (r.a, tt))), ((refl, tt), ((refl, (refl, (r.b, tt))), ((r.d, tt), ((r.d, (r.d, (refl, tt))), ((r.d, (r.d, (refl, tt))), tt)))))))
op_free entry start slots k o.Has a b c d r = ((refl, (r.b, (r.a, tt))), ((refl, tt), ((r.d, (refl, (refl, tt))), tt)))
op_free entry start slots k o.Div a b c d r = ((refl, (r.b, tt)), (tt, (tt, ((refl, (r.a, (r.b, tt))), ((refl, (refl, (r.b, (r.a, tt)))), ((r.d, (refl, (refl, tt))), tt))))))
op_free entry start slots k o.Mod a b c d r = ((refl, (r.b, tt)), (tt, (tt, ((refl, (r.a, (r.b, tt))), ((refl, (refl, (r.b, (r.a, tt)))), ((refl, (r.b, (refl, tt))), ((r.d, (refl, (refl, tt))), tt)))))))
op_free entry start slots k o.Below a b c d r = ((refl, (r.a, (r.b, tt))), (tt, (tt, tt)))
op_free entry start slots k o.Fits a b c d r = ((refl, (r.a, (r.b, tt))), (tt, (tt, tt)))
op_free entry start slots k o.Byte a b c d r = ((refl, (r.a, tt)), (tt, (tt, tt)))
op_free entry start slots k o.Elem a b c d r = ((refl, (r.a, tt)), (tt, (tt, tt)))
op_free entry start slots k o.NotNil a b c d r = ((r.a, tt), (tt, tt))
op_free entry start slots k o.True a b c d r = ((r.a, tt), (tt, tt))
op_free entry start slots k (o.IsPtr j) a b c d r = ((refl, tt), ((r.a, tt), ((refl, (r.a, tt)), ((refl, (refl, tt)), ((refl, (refl, (r.b, tt))), ((r.d, (refl, (refl, tt))), tt))))))
op_free entry start slots k (o.IsTag j) a b c d r = ((refl, (r.a, tt)), ((refl, (refl, (r.b, tt))), ((r.d, (refl, (refl, tt))), tt)))
op_free entry start slots k (o.GuardPtr j) a b c d r = ((r.a, tt), (tt, ((refl, (r.a, tt)), ((refl, (refl, tt)), ((refl, (refl, (r.b, tt))), (tt, (tt, tt)))))))
op_free entry start slots k (o.GuardTag j) a b c d r = ((refl, (r.a, tt)), ((refl, (refl, (r.b, tt))), (tt, (tt, tt))))
op_free entry start slots k o.New a b c d r = ((refl, (refl, (r.a, tt))), (tt, (tt, ((refl, (refl, (r.a, tt))), ((r.c, (refl, tt)), ((refl, (refl, (refl, tt))), ((refl, (refl, (r.b, tt))), ((r.d, (refl, (refl, tt))), tt))))))))
op_free entry start slots k (o.Call p) a b c d r = (tt, tt)
op_free entry start slots k o.CallAt a b c d r = ((refl, tt), tt)
op_free entry start slots k o.Copy a b c d r = (tt, tt)
op_free entry start slots k o.Zero a b c d r = (tt, tt)
op_free entry start slots k o.Compare a b c d r = (tt, tt)
op_free entry start slots k (o.Svc n) a b c d r = (tt, tt)

---- Copies

abbrev WhereFree : Option Where → Type 0
WhereFree None = Unit {0}
WhereFree (Some (InReg r)) = Spared r
WhereFree (Some (InSlot j)) = Unit {0}

between_free : (to from : Option Where) → WhereFree to → WhereFree from → AllFree (move_between to from)
between_free None from l m = tt
between_free (Some to) None l m = tt
between_free (Some (InReg d)) (Some (InReg s)) l m = ((l, (refl, (m, tt))), tt)
between_free (Some (InReg d)) (Some (InSlot j)) l m = load_free d j l
between_free (Some (InSlot j)) (Some (InReg s)) l m = store_free s j m
between_free (Some (InSlot j)) (Some (InSlot i)) l m = free_append (load_slot 17 i) (store_slot 17 j) (load_free 17 i refl) (store_free 17 j refl)

module _ (pr : Placed) where
  where_free : (p : Spot) → WhereFree (where_is pr p)
  where_free (reg r) = by_test (nat_lt r 16) refl
    where
      by_test : (b : Bool) → nat_lt r 16 ≡ b → WhereFree (if b then Some (InReg r) else None)
      by_test true e = low_spared r (ltb-true r 16 e)
      by_test false e = tt
  where_free (home v) = by_rank (pr.rank v)
    where
      by_rank : (o : Option ℕ) → WhereFree (slot_of pr.outs o)
      by_rank None = tt
      by_rank (Some j) = tt
  where_free (out s) = by_test (nat_lt s pr.outs)
    where
      by_test : (b : Bool) → WhereFree (if b then Some (InSlot s) else None)
      by_test true = tt
      by_test false = tt
  where_free target = refl
  where_free saved = refl

  copies_free : (ms : List Copy) → AllFree (copies_words pr ms)
  copies_free [] = tt
  copies_free (m ∷ ms) = free_append (copy_word pr m) (copies_words pr ms) (between_free (where_is pr m.to) (where_is pr m.from) (where_free m.to) (where_free m.from)) (copies_free ms)

  ---- Entries and ends

  depth_free : (b : Bool) → AllFree (depth_words b)
  depth_free true = ((refl, tt), (tt, ((refl, (refl, tt)), tt)))
  depth_free false = tt

  undepth_free : (b : Bool) → AllFree (undepth_words b)
  undepth_free true = ((refl, (refl, tt)), tt)
  undepth_free false = tt

  frame_free : AllFree (frame_words (frame_of pr) pr.outs)
  frame_free = ((refl, (refl, tt)), ((refl, (refl, tt)), ((refl, (refl, tt)), tt)))

  unframe_free : AllFree (unframe_words (frame_of pr) pr.outs)
  unframe_free = ((refl, (refl, tt)), ((refl, (refl, tt)), ((refl, (refl, tt)), tt)))

  room_free : (c : ℕ) → AllFree (room_words c)
  room_free c = by_test (c == 0)
    where
      by_test : (b : Bool) → AllFree (if b then [] else taking c)
      by_test true = tt
      by_test false = free_append (count_words c) _ (constant_free 16 c refl) ((refl, (refl, (refl, tt))), (tt, (tt, ((refl, (refl, (refl, tt))), tt))))

  unroom_free : (c : ℕ) → AllFree (unroom_words c)
  unroom_free c = by_test (c == 0)
    where
      by_test : (b : Bool) → AllFree (if b then [] else giving c)
      by_test true = tt
      by_test false = free_append (count_words c) _ (constant_free 16 c refl) ((refl, (refl, (refl, tt))), tt)

  data_free : AllFree (data_words pr.bytes)
  data_free = by_test (pr.bytes == 0)
    where
      by_test : (b : Bool) → AllFree (if b then [] else (AddImm 19 19 (pr.bytes / 2 ^ 12) true ∷ AddImm 19 19 (pr.bytes % 2 ^ 12) false ∷ []))
      by_test true = tt
      by_test false = ((refl, (refl, tt)), ((refl, (refl, tt)), tt))

  undata_free : AllFree (undata_words pr.bytes)
  undata_free = by_test (pr.bytes == 0)
    where
      by_test : (b : Bool) → AllFree (if b then [] else (SubImm 19 19 (pr.bytes / 2 ^ 12) true ∷ SubImm 19 19 (pr.bytes % 2 ^ 12) false ∷ []))
      by_test true = tt
      by_test false = ((refl, (refl, tt)), ((refl, (refl, tt)), tt))

  prologue_free : AllFree (prologue pr)
  prologue_free = free_append (depth_words pr.counted) _ (depth_free pr.counted) (free_append (frame_words (frame_of pr) pr.outs) _ frame_free (free_append (room_words pr.cells) _ (room_free pr.cells) data_free))

  epilogue_free : AllFree (epilogue pr)
  epilogue_free =
      free_append (unframe_words (frame_of pr) pr.outs) _ unframe_free
      (free_append (unlocal_words pr.cells pr.bytes) _ (free_append (undata_words pr.bytes) _ undata_free (unroom_free pr.cells)) (free_append (undepth_words pr.counted) _ (undepth_free pr.counted) ((refl, tt), tt)))

  jump_free : (b : Bool) (k t : ℕ) → AllFree (jump_words b k t)
  jump_free true k t = tt
  jump_free false k t = (tt, tt)

  branch_free : (s t : Bool) (k : ℕ) (c : Cond) (one other : ℕ) → AllFree (branch_words s t k c one other)
  branch_free true t k c one other = (tt, tt)
  branch_free false t k c one other = (tt, jump_free t (suc k) other)

  nonzero_free : (s t : Bool) (k a one other : ℕ) → Spared a → AllFree (nonzero_words s t k a one other)
  nonzero_free true t k a one other l = ((l, tt), tt)
  nonzero_free false t k a one other l = ((l, tt), jump_free t (suc k) other)

  result_free : (x : Option ℕ) (a : ℕ) → Spared a → AllFree (result_words x a)
  result_free None a l = tt
  result_free (Some x) a l = ((refl, (refl, (l, tt))), tt)

  last_free : (n : ℕ) (block : ℕ → ℕ) (k : ℕ) (end : End) (a b : ℕ) → Spared a → Spared b → AllFree (last_words n block pr k end a b)
  last_free n block k (Return x) a b l m = free_append (result_words x a) (epilogue pr) (result_free x a l) epilogue_free
  last_free n block k (Jump to args) a b l m = jump_free (to == n) k (block to)
  last_free n block k (Branch c x y one other) a b l m = ((refl, (l, (m, tt))), branch_free (turned n one other) (other == n) (suc k) (cond_of c) (block one) (block other))
  last_free n block k (Nonzero x one other) a b l m = nonzero_free (turned n one other) (other == n) k a (block one) (block other) l
  last_free n block k (Trap kind) a b l m = (tt, tt)

---- Procedures

module _ (entry : ℕ → ℕ) (start : ℕ) (block : ℕ → ℕ) (pr : Placed) (p : ProcLow pr) where
  cell_free : (j k : ℕ) (cell : Cell) → CellLow cell → AllFree (cell_code entry start pr j k cell)
  cell_free j k cell l =
      free_append (copies_words pr cell.copies) _ (copies_free pr cell.copies)
      (op_free entry start (slots_of pr) (k + length (copies_words pr cell.copies)) cell.op.code (use_register cell.named 0) (use_register cell.named 1) (use_register cell.named 2) (def_register cell.named cell.op)
      (record { a = low_spared (use_register cell.named 0) (l.uses 0); b = low_spared (use_register cell.named 1) (l.uses 1); c = low_spared (use_register cell.named 2) (l.uses 2); d = low_spared (def_register cell.named cell.op) l.def }))

  cells_free : (j k : ℕ) (cells : List Cell) → CellsLow cells → AllFree (spread (cell_code entry start pr) (cell_width pr) j k cells)
  cells_free j k [] l = tt
  cells_free j k (cell ∷ cells) l = free_append (cell_code entry start pr j k cell) _ (cell_free j k cell l.0) (cells_free (suc j) (k + cell_width pr j cell) cells l.1)

  parts_free : (n k : ℕ) (bl : Block) → BlockLow bl → AllFree (parts_code entry start block pr n k bl)
  parts_free n k bl l =
      free_append (spread (cell_code entry start pr) (cell_width pr) 0 k bl.body) _ (cells_free 0 k bl.body l.cells)
      (free_append (copies_words pr bl.copies) _ (copies_free pr bl.copies) (last_free pr n block _ bl.end bl.a bl.b (low_spared bl.a l.a) (low_spared bl.b l.b)))

  blocks_free : (j k : ℕ) (ats : List Placing) → AllFree (spread (block_code entry start block pr) (block_width pr) j k ats)
  blocks_free j k [] = tt
  blocks_free j k (at ∷ ats) = free_append (block_code entry start block pr j k at) _ (parts_free at.next k (block_of pr at.number) (p.blocks at.number)) (blocks_free (suc j) (k + block_width pr j at) ats)

  proc_free : (k : ℕ) → AllFree (proc_code entry start block k pr)
  proc_free k =
      free_append (front_code block pr k) _
      (free_append (prologue pr) _ (prologue_free pr) (free_append (copies_words pr pr.copies) _ (copies_free pr pr.copies) (jump_free pr (zero_first pr) _ (block 0))))
      (blocks_free 0 (k + front_width pr) (placings pr))

---- All of it

start_free : (e : ℕ → ℕ) (k : ℕ) (bs : List ℕ) → AllFree (start_words e k bs)
start_free e k [] = (tt, tt)
start_free e k (b ∷ bs) = (tt, start_free e (suc k) bs)

routines_free : AllFree routines
routines_free = ((refl, tt), ((refl, (refl, tt)), ((refl, (refl, (refl, tt))), (tt, ((refl, (refl, (refl, tt))), ((refl, (refl, (refl, tt))), ((refl, (refl, (refl, tt))), (tt, ((refl, (refl, (refl, tt))), (tt, ((refl, (refl, (refl, tt))), ((refl, (refl, (refl, tt))), ((refl, (refl, tt)), (tt, ((refl, tt), ((refl, tt), ((refl, (refl, (refl, tt))), (tt, ((refl, (refl, (refl, tt))), ((refl, (refl, tt)), (tt, ((refl, tt), ((refl, tt), ((refl, tt), ((refl, tt), ((refl, (refl, (refl, tt))), (tt, ((refl, (refl, (refl, tt))), ((refl, (refl, (refl, tt))), (tt, ((refl, (refl, (refl, tt))), ((refl, (refl, (refl, tt))), (tt, ((refl, tt), ((refl, (refl, tt)), (tt, ((refl, (refl, (refl, tt))), ((refl, tt), tt))))))))))))))))))))))))))))))))))))))

module _ (ps : List Placed) where
  procs_free : (j k : ℕ) (qs : List Placed) → AllLow qs → AllFree (spread (proc_words ps) proc_width j k qs)
  procs_free j k [] l = tt
  procs_free j k (pr ∷ qs) l = free_append (proc_words ps j k pr) _ (proc_free (entry ps) (routines_at ps) (λ t. place ps j t 0) pr l.0 k) (procs_free (suc j) (k + proc_width j pr) qs l.1)

  pub all_free : AllLow ps → AllFree (all_words ps)
  all_free l =
      free_append (start_words (entry ps) 0 (bodies (procedures ps))) _ (start_free (entry ps) 0 (bodies (procedures ps)))
      (free_append routines _ routines_free (procs_free 0 (procedures_at ps) ps l))
