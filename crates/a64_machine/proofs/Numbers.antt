-- Each step of the machine leaves numbers of 64 bits in registers, and bytes in memory.
use Rattle.std.proofs.Common.{◌≡◌, ℕ, suc, ◌-◌, ◌||◌, ◌%◌, ◌<◌, ◌^◌, ◌==◌, List, [], ◌∷◌, get_or, Bool, true, false, not, ◌&&◌, cond, Option, Some, None, refl, arith, subst, lit<}
use Rattle.std.specs.Prelude.{if◌then◌else◌, drop, slice_index_or}
use Rattle.run_laws.specs.Runs.{Step, Moves, Ends, Traps}
use Rattle.run_laws.specs.Layers.{Stays}
use Rattle.a64_memory.specs.Memory.{covers, loaded8, loaded1, stored8, stored1, load8, load1, store8, store1, AreBytes, IsOfBytes}
use Rattle.a64_memory.proofs.Blocks.{loaded1_lt, loaded8_lt}
use Rattle.a64_memory.proofs.Cells.{of_bytes-stored8, of_bytes-stored1}
use Rattle.wrapping_numbers.proofs.Bounds.{and64_lt, or64_lt, xor64_lt, bic64_lt, orn64_lt, madd64_lt, msub64_lt, sdiv64_lt, ror64_lt}
use Rattle.a64_numbers.proofs.Bounds.{shifted_lt, csel_lt, csinc_lt, csneg_lt, movz_lt, movn_lt, movk_lt}
use Rattle.wrapping_numbers.proofs.Wrapping.{add64_lt, sub64_lt}
use Rattle.wrapping_numbers.proofs.Amounts.{lsl64_lt, lsr64_lt, asr64_lt}
use Rattle.out_text.specs.Text.{int_text}
use Rattle.wrapping_numbers.specs.Numbers.{add64}
use Rattle.a64_numbers.specs.Operands.{immediate, shifted}
use Rattle.a64_numbers.specs.declared.flags.Flags.{Flags}
use Rattle.a64_instr.specs.declared.instr.Instr.{Instr}
use Rattle.a64_instr.specs.declared.instr.Instr.TheVariants.{AddImm, SubImm, SubsImm, AddReg, SubReg, SubsReg, AndReg, BicReg, OrrReg, OrnReg, EorReg, AndsReg, Movn, Movz, Movk, Madd, Msub, Sdiv, Lslv, Lsrv, Asrv, Rorv, Csel, Csinc, Csneg, B, Bl, BCond, Cbz, Cbnz, Br, Blr, Ret, Ldr, Str, Ldrb, Strb, LdrReg, LdrRegScaled, StrReg, StrRegScaled, LdrbReg, StrbReg, Svc, Brk}
use Rattle.a64_table.specs.Table.{InRange}
use Rattle.a64_table.specs.Decode.{decode_of}
use Rattle.a64_table.proofs.Laws.{found}
use Rattle.a64_machine.specs.State.{State, Trap, BadCall, read, read_or_sp, put}
use Rattle.a64_memory.specs.Texts.{Text, Bytes, Outside, text_at}
use Rattle.a64_machine.specs.Services.{service, writes, writes_text, takes_input}
use Rattle.a64_machine.specs.Effects.{effect, gives, gives_or_sp, gives_flags, goes, calls, loads, stores}
use Rattle.image_form.specs.declared.image.Image.{Image}
use Rattle.image_form.specs.Form.{IsInForm}
use Rattle.a64_machine.proofs.Regions.{first_memory-bytes}
use Rattle.a64_memory.specs.Areas.{data_base, local_base, heap_base}
use Rattle.a64_machine.specs.Machine.{start, fetch, fetched, decoded, step_of, system_of}

-- what a machine holds: numbers of 64 bits in registers and SP, bytes in memory, numbers in the input
pub record Numbers (a : State) : Type 0 where
  pub registers : (n : ℕ) → a.registers n < 2 ^ 64
  pub sp : a.sp < 2 ^ 64
  pub bytes : IsOfBytes a.memory
  pub input : (i : ℕ) → get_or a.input i 0 < 2 ^ 64

-- the same of the state that a step leads to
abbrev After : Step State Trap → Type 0
After (Moves w t) = Numbers t
After Ends = Unit {0}
After (Traps trap) = Unit {0}

chosen : (b : Bool) (x y : ℕ) → x < 2 ^ 64 → y < 2 ^ 64 → (if b then x else y) < 2 ^ 64
chosen true x y p q = p
chosen false x y p q = q

pub put_lt : (r : ℕ → ℕ) (d v : ℕ) → ((n : ℕ) → r n < 2 ^ 64) → v < 2 ^ 64 → (n : ℕ) → put r d v n < 2 ^ 64
put_lt r d v h l n = chosen (n == d && not (d == 31)) v (r n) l (h n)

-- the input without its first byte, and that byte
dropped : (xs : List ℕ) → ((i : ℕ) → get_or xs i 0 < 2 ^ 64) → (i : ℕ) → get_or (drop 1 xs) i 0 < 2 ^ 64
dropped [] h i = lit< tt
dropped (x ∷ xs) h i = h (suc i)

taken : (xs : List ℕ) → ((i : ℕ) → get_or xs i 0 < 2 ^ 64) → slice_index_or xs 0 (2 ^ 64 - 1) < 2 ^ 64
taken [] h = lit< tt
taken (x ∷ xs) h = h 0

module _ (s : State) (h : Numbers s) where
  -- what is read of registers
  r_lt : (n : ℕ) → read s.registers n < 2 ^ 64
  r_lt n = chosen (n == 31) 0 (s.registers n) (lit< tt) (h.registers n)

  sp_lt : (n : ℕ) → read_or_sp s n < 2 ^ 64
  sp_lt n = chosen (n == 31) s.sp (s.registers n) h.sp (h.registers n)

  -- what each way of going on leaves
  given : (d v : ℕ) → v < 2 ^ 64 → After (gives s d v)
  given d v l = record { registers = put_lt s.registers d v h.registers l; sp = h.sp; bytes = h.bytes; input = h.input }

  given_sp : (d v : ℕ) → v < 2 ^ 64 → After (gives_or_sp s d v)
  given_sp d v l = record { registers = put_lt s.registers d v h.registers l; sp = chosen (d == 31) v s.sp l h.sp; bytes = h.bytes; input = h.input }

  given_flags : (d v : ℕ) (f : Flags) → v < 2 ^ 64 → After (gives_flags s d v f)
  given_flags d v f l = record { registers = put_lt s.registers d v h.registers l; sp = h.sp; bytes = h.bytes; input = h.input }

  gone : (to : ℕ) → After (goes s to)
  gone to = record { registers = h.registers; sp = h.sp; bytes = h.bytes; input = h.input }

  called : (to : ℕ) → After (calls s to)
  called to = record { registers = put_lt s.registers 30 (add64 s.pc 4) h.registers (add64_lt s.pc 4); sp = h.sp; bytes = h.bytes; input = h.input }

  loaded_8 : (t p : ℕ) → After (loads s t p (load8 s.memory p))
  loaded_8 t p = by_test (covers s.memory p 8)
    where
      by_test : (b : Bool) → After (loads s t p (cond b (Some (loaded8 s.memory p)) None))
      by_test true = given t (loaded8 s.memory p) (loaded8_lt s.memory p h.bytes)
      by_test false = tt

  loaded_1 : (t p : ℕ) → After (loads s t p (load1 s.memory p))
  loaded_1 t p = by_test (covers s.memory p 1)
    where
      by_test : (b : Bool) → After (loads s t p (cond b (Some (loaded1 s.memory p)) None))
      by_test true = given t (loaded1 s.memory p) (let l = loaded1_lt s.memory p h.bytes in omega (arith, l))
      by_test false = tt

  stored_8 : (p v : ℕ) → After (stores s p (store8 s.memory p v))
  stored_8 p v = by_test (covers s.memory p 8)
    where
      by_test : (b : Bool) → After (stores s p (cond b (Some (stored8 s.memory p v)) None))
      by_test true = record { registers = h.registers; sp = h.sp; bytes = of_bytes-stored8 s.memory p v h.bytes; input = h.input }
      by_test false = tt

  stored_1 : (p v : ℕ) → After (stores s p (store1 s.memory p v))
  stored_1 p v = by_test (covers s.memory p 1)
    where
      by_test : (b : Bool) → After (stores s p (cond b (Some (stored1 s.memory p v)) None))
      by_test true = record { registers = h.registers; sp = h.sp; bytes = of_bytes-stored1 s.memory p v h.bytes; input = h.input }
      by_test false = tt

  either : (b : Bool) (x y : Step State Trap) → After x → After y → After (if b then x else y)
  either true x y p q = p
  either false x y p q = q

  -- the services
  texts : (t : Text) → After (writes_text s t)
  texts (Bytes bs) = record { registers = h.registers; sp = h.sp; bytes = h.bytes; input = h.input }
  texts (Outside p) = tt

  silent : (bs : List ℕ) → After (writes s bs)
  silent bs = record { registers = h.registers; sp = h.sp; bytes = h.bytes; input = h.input }

  takes : After (takes_input s)
  takes = record { registers = put_lt s.registers 0 (slice_index_or s.input 0 (2 ^ 64 - 1)) h.registers (taken s.input h.input); sp = h.sp; bytes = h.bytes; input = dropped s.input h.input }

  abbrev text_step : Step State Trap
  text_step = if s.registers 2 == 1 || s.registers 2 == 8 then writes_text s (text_at s.memory (s.registers 2) (s.registers 0) (s.registers 1)) else Traps (BadCall 3)

  abbrev fourth : ℕ → Step State Trap
  fourth n = if n == 4 then takes_input s else Traps (BadCall n)

  abbrev third : ℕ → Step State Trap
  third n = if n == 3 then text_step else fourth n

  abbrev second : ℕ → Step State Trap
  second n = if n == 2 then writes s (int_text (s.registers 0) (s.registers 1)) else third n

  abbrev first : ℕ → Step State Trap
  first n = if n == 1 then writes s (s.registers 0 % 256 ∷ []) else second n

  serves : (n : ℕ) → After (service n s)
  serves n =
      either (n == 0) Ends (first n) tt
      (either (n == 1) (writes s (s.registers 0 % 256 ∷ [])) (second n) (silent (s.registers 0 % 256 ∷ []))
      (either (n == 2) (writes s (int_text (s.registers 0) (s.registers 1))) (third n) (silent (int_text (s.registers 0) (s.registers 1)))
      (either (n == 3) text_step (fourth n)
      (either (s.registers 2 == 1 || s.registers 2 == 8) (writes_text s (text_at s.memory (s.registers 2) (s.registers 0) (s.registers 1))) (Traps (BadCall 3)) (texts (text_at s.memory (s.registers 2) (s.registers 0) (s.registers 1))) tt)
      (either (n == 4) (takes_input s) (Traps (BadCall n)) takes tt))))

  -- the rows of the table
  does : (i : Instr) → InRange i → After (effect i s)
  does (AddImm rd rn imm high) f = given_sp rd _ (add64_lt (read_or_sp s rn) (immediate imm high))
  does (SubImm rd rn imm high) f = given_sp rd _ (sub64_lt (read_or_sp s rn) (immediate imm high))
  does (SubsImm rd rn imm high) f = given_flags rd _ _ (sub64_lt (read_or_sp s rn) (immediate imm high))
  does (AddReg rd rn rm shift by) f = given rd _ (add64_lt (read s.registers rn) (shifted shift (read s.registers rm) by))
  does (SubReg rd rn rm shift by) f = given rd _ (sub64_lt (read s.registers rn) (shifted shift (read s.registers rm) by))
  does (SubsReg rd rn rm shift by) f = given_flags rd _ _ (sub64_lt (read s.registers rn) (shifted shift (read s.registers rm) by))
  does (AndReg rd rn rm shift by) f = given rd _ (and64_lt (read s.registers rn) (shifted shift (read s.registers rm) by) (r_lt rn))
  does (BicReg rd rn rm shift by) f = given rd _ (bic64_lt (read s.registers rn) (shifted shift (read s.registers rm) by) (r_lt rn))
  does (OrrReg rd rn rm shift by) f = given rd _ (or64_lt (read s.registers rn) (shifted shift (read s.registers rm) by) (r_lt rn) (shifted_lt shift (read s.registers rm) by (r_lt rm)))
  does (OrnReg rd rn rm shift by) f = given rd _ (orn64_lt (read s.registers rn) (shifted shift (read s.registers rm) by) (r_lt rn))
  does (EorReg rd rn rm shift by) f = given rd _ (xor64_lt (read s.registers rn) (shifted shift (read s.registers rm) by) (r_lt rn) (shifted_lt shift (read s.registers rm) by (r_lt rm)))
  does (AndsReg rd rn rm shift by) f = given_flags rd _ _ (and64_lt (read s.registers rn) (shifted shift (read s.registers rm) by) (r_lt rn))
  does (Movn rd imm half) f = given rd _ (movn_lt imm half)
  does (Movz rd imm half) f = given rd _ (movz_lt imm half f.1.0 (let l = f.1.1.0 in omega (arith, l)))
  does (Movk rd imm half) f = given rd _ (movk_lt (read s.registers rd) imm half (r_lt rd) f.1.0 (let l = f.1.1.0 in omega (arith, l)))
  does (Madd rd rn rm ra) f = given rd _ (madd64_lt (read s.registers rn) (read s.registers rm) (read s.registers ra))
  does (Msub rd rn rm ra) f = given rd _ (msub64_lt (read s.registers rn) (read s.registers rm) (read s.registers ra))
  does (Sdiv rd rn rm) f = given rd _ (sdiv64_lt (read s.registers rn) (read s.registers rm))
  does (Lslv rd rn rm) f = given rd _ (lsl64_lt (read s.registers rn) (read s.registers rm))
  does (Lsrv rd rn rm) f = given rd _ (lsr64_lt (read s.registers rn) (read s.registers rm) (r_lt rn))
  does (Asrv rd rn rm) f = given rd _ (asr64_lt (read s.registers rn) (read s.registers rm) (r_lt rn))
  does (Rorv rd rn rm) f = given rd _ (ror64_lt (read s.registers rn) (read s.registers rm) (r_lt rn))
  does (Csel rd rn rm c) f = given rd _ (csel_lt c s.flags (read s.registers rn) (read s.registers rm) (r_lt rn) (r_lt rm))
  does (Csinc rd rn rm c) f = given rd _ (csinc_lt c s.flags (read s.registers rn) (read s.registers rm) (r_lt rn))
  does (Csneg rd rn rm c) f = given rd _ (csneg_lt c s.flags (read s.registers rn) (read s.registers rm) (r_lt rn))
  does (B to) f = gone _
  does (Bl to) f = called _
  does (BCond to c) f = gone _
  does (Cbz rt to) f = gone _
  does (Cbnz rt to) f = gone _
  does (Br rn) f = gone _
  does (Blr rn) f = called _
  does (Ret rn) f = gone _
  does (Ldr rt rn imm) f = loaded_8 rt _
  does (Str rt rn imm) f = stored_8 _ _
  does (Ldrb rt rn imm) f = loaded_1 rt _
  does (Strb rt rn imm) f = stored_1 _ _
  does (LdrReg rt rn rm) f = loaded_8 rt _
  does (LdrRegScaled rt rn rm) f = loaded_8 rt _
  does (StrReg rt rn rm) f = stored_8 _ _
  does (StrRegScaled rt rn rm) f = stored_8 _ _
  does (LdrbReg rt rn rm) f = loaded_1 rt _
  does (StrbReg rt rn rm) f = stored_1 _ _
  does (Svc imm) f = serves imm
  does (Brk imm) f = tt

  steps : (code : List ℕ) → After (step_of code s)
  steps code = by_fetch (fetch code s.pc)
    where
      by_decode : (w : ℕ) (o : Option Instr) → decode_of w ≡ o → After (decoded w o s)
      by_decode w None e = tt
      by_decode w (Some i) e = does i (found w i e).0

      by_fetch : (o : Option ℕ) → After (fetched o s)
      by_fetch None = tt
      by_fetch (Some w) = by_decode w (decode_of w) refl

-- so runs keep it
pub numbers_stay : (code : List ℕ) → Stays (system_of code) Numbers
numbers_stay code = record { step = λ s t w h e. subst After e (steps s h code) }

-- an image of bytes begins so
pub numbers_at_start : (image : Image) (input : List ℕ) → IsInForm image → AreBytes image.constants → ((i : ℕ) → get_or input i 0 < 2 ^ 64) → Numbers (start image input)
numbers_at_start image input form constants input_lt = record {
  registers = put_lt _ 24 data_base (put_lt _ 23 1048576 (put_lt _ 22 8388608 (put_lt _ 21 heap_base (put_lt _ 20 8192 (put_lt (λ n. 0) 19 local_base (λ n. lit< tt) (lit< tt)) (lit< tt)) (lit< tt)) (lit< tt)) (lit< tt)) (lit< tt);
  sp = let f = form.frame in omega (arith, f);
  bytes = first_memory-bytes image constants;
  input = input_lt;
}
