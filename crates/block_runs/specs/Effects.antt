-- What each operation does with the numbers that it reads.
use Rattle.std.specs.Prelude.{ℕ, zero, suc, ◌+◌, ◌-◌, ◌*◌, ◌%◌, ◌^◌, ◌==◌, nat_lt, nat_le, List, [], ◌∷◌, drop, slice_index, slice_get, slice_index_or, Bool, cond, not, Option, Some, None, if◌then◌else◌, bit_and, bit_or, bit_xor, int_lt, pos}
use Rattle.out_text.specs.Text.{int_text}
use Rattle.wrapping_numbers.specs.Numbers.{signed, add64, sub64, neg64, not64, bic64, mul64, madd64}
use Rattle.wrapping_numbers.specs.Shifts.{lsl64, asr64, ror64}
use Rattle.wrapping_numbers.specs.Sets.{bit_words, span_words, has_words}
use Rattle.wrapping_numbers.specs.Division.{div_words, mod_words}
use Rattle.block_runs.specs.Compares.{compares}
use Rattle.a64_memory.specs.Memory.{Area, load1, load8, store1, store8}
use Rattle.a64_memory.specs.Areas.{data_base}
use Rattle.a64_memory.specs.Texts.{Text, Bytes, Outside, text_at}
use Rattle.block_runs.specs.declared.code.Code.{Code}
use Rattle.block_runs.specs.declared.code.Code.TheVariants.{Const, Global, Local, Plus, Arg, Load, Store, LoadByte, StoreByte, Add, Sub, And, Or, Eor, Bic, Lsl, Asr, Ror, Mul, MulAdd, Neg, Not, Abs, Max0, Odd, Set, Flip, Bit, Span, Has, Div, Mod, Below, Fits, Byte, Elem, NotNil, True, IsPtr, IsTag, GuardPtr, GuardTag, New, Call, CallAt, Copy, Zero, Compare, Svc}
use Rattle.block_runs.specs.declared.code.Code.TheVariants.{Code as CodeOf}
use Rattle.block_runs.specs.States.{World, Work, CopyHead, ZeroHead, CompareHead}

-- the bytes of a character in memory
abbrev pub char_bytes : ℕ
char_bytes = 1

-- what comes of an operation
pub data Effect : Type 0 where
  -- a number is given, and nothing changes
  Gives : (x : ℕ) → Effect
  -- bytes are written, the world is another, and a number is given
  Does : (bytes : List ℕ) → (after : World) → (x : ℕ) → Effect
  -- a procedure is called with argument words, or none has its code there
  Calls : (p : Option ℕ) → (args : List ℕ) → Effect
  -- a routine begins
  Begins : (work : Work) → Effect
  -- a trap of a kind
  Fails : (kind : ℕ) → Effect
  -- a fault
  Faults : (at : ℕ) → Effect

---- Parts of effects

abbrev pub given_at : ℕ → Option ℕ → (ℕ → Effect) → Effect
given_at at None on = Faults at
given_at at (Some x) on = on x

-- goes on where a test holds
abbrev pub unless : Bool → ℕ → Effect
unless test kind = if test then Gives 0 else Fails kind

-- level j of the descriptor at an address
abbrev pub level : List Area → ℕ → ℕ → (ℕ → Effect) → Effect
level m j tag on = let at = add64 tag (8 * j) in given_at at (load8 m at) on

abbrev pub truth : Bool → ℕ
truth b = if b then 1 else 0

abbrev pub stored : World → ℕ → Option (List Area) → Effect
stored w address None = Faults address
stored w address (Some m) = Does [] (record w { memory = m }) 0

-- an object of so many cells and bytes, where its descriptor was stored
abbrev pub made : World → ℕ → ℕ → Option (List Area) → Effect
made w cells bytes None = Faults w.next
made w cells bytes (Some m) = Does [] (record w { memory = m; next = add64 w.next bytes; free = w.free - cells }) w.next

abbrev pub written : World → Text → Effect
written w (Outside address) = Faults address
written w (Bytes bytes) = Does bytes w 0

-- services, by their numbers
abbrev pub service : World → ℕ → ℕ → ℕ → ℕ → Effect
service w zero a b c = Faults 0
service w (suc zero) a b c = Does (a % 256 ∷ []) w 0
service w (suc (suc zero)) a b c = Does (int_text a b) w 0
service w (suc (suc (suc zero))) a b c = if c == char_bytes then written w (text_at w.memory char_bytes a b) else Faults 3
service w (suc (suc (suc (suc zero)))) a b c = Does [] (record w { input = drop 1 w.input }) (slice_index_or w.input 0 (2 ^ 64 - 1))
service w (suc (suc (suc (suc (suc n))))) a b c = Faults (suc (suc (suc (suc (suc n)))))

-- the procedure, of the first n, whose code is at an address
abbrev pub code_at : (ℕ → ℕ) → ℕ → ℕ → Option ℕ
code_at code zero address = None
code_at code (suc n) address = if code n == address then Some n else code_at code n address

---- The table: an operation of a call with these argument words, where code p is the address of procedure p's code and there
---- are n procedures, with the numbers xs that it reads, of which a, b, c, d are the first four

abbrev pub effect : (ℕ → ℕ) → ℕ → List ℕ → World → Code → (a b c d : ℕ) → (xs : List ℕ) → Effect
effect code n args w (Const m) a b c d xs = Gives m
effect code n args w (Global m) a b c d xs = Gives (data_base + m)
effect code n args w (Local m) a b c d xs = Gives (sub64 w.local m)
effect code n args w (Plus m) a b c d xs = Gives (add64 a m)
effect code n args w (CodeOf p) a b c d xs = Gives (code p)
effect code n args w (Arg i) a b c d xs = given_at i (slice_get args i) Gives
effect code n args w Load a b c d xs = given_at a (load8 w.memory a) Gives
effect code n args w Store a b c d xs = stored w a (store8 w.memory a b)
effect code n args w LoadByte a b c d xs = given_at a (load1 w.memory a) Gives
effect code n args w StoreByte a b c d xs = stored w a (store1 w.memory a b)
effect code n args w Add a b c d xs = Gives (add64 a b)
effect code n args w Sub a b c d xs = Gives (sub64 a b)
effect code n args w And a b c d xs = Gives (bit_and a b)
effect code n args w Or a b c d xs = Gives (bit_or a b)
effect code n args w Eor a b c d xs = Gives (bit_xor a b)
effect code n args w Bic a b c d xs = Gives (bic64 a b)
effect code n args w Lsl a b c d xs = Gives (lsl64 a b)
effect code n args w Asr a b c d xs = Gives (asr64 a b)
effect code n args w Ror a b c d xs = Gives (ror64 a b)
effect code n args w Mul a b c d xs = Gives (mul64 a b)
effect code n args w MulAdd a b c d xs = Gives (madd64 a b c)
effect code n args w Neg a b c d xs = Gives (neg64 a)
effect code n args w Not a b c d xs = Gives (not64 a)
effect code n args w Abs a b c d xs = Gives (cond (int_lt (signed a) (pos 0)) (neg64 a) a)
effect code n args w Max0 a b c d xs = Gives (cond (int_lt (signed a) (pos 0)) 0 a)
effect code n args w Odd a b c d xs = Gives (a % 2)
effect code n args w (Set k) a b c d xs = Gives (truth (compares k a b))
effect code n args w Flip a b c d xs = Gives (truth (a == 0))
effect code n args w Bit a b c d xs = Gives (bit_words a)
effect code n args w Span a b c d xs = Gives (span_words a b)
effect code n args w Has a b c d xs = Gives (has_words a b)
effect code n args w Div a b c d xs = if int_lt (pos 0) (signed b) then Gives (div_words a b) else Fails 4
effect code n args w Mod a b c d xs = if int_lt (pos 0) (signed b) then Gives (mod_words a b) else Fails 4
effect code n args w Below a b c d xs = unless (nat_lt a b) 1
effect code n args w Fits a b c d xs = unless (nat_le a b) 12
effect code n args w Byte a b c d xs = unless (nat_le a 255) 11
effect code n args w Elem a b c d xs = unless (nat_le a 63) 7
effect code n args w NotNil a b c d xs = unless (not (a == 0)) 2
effect code n args w True a b c d xs = unless (not (a == 0)) 5
effect code n args w (IsPtr j) a b c d xs = if a == 0 then Gives (truth (0 == b)) else given_at a (load8 w.memory a) (λ tag. level w.memory j tag (λ t. Gives (truth (t == b))))
effect code n args w (IsTag j) a b c d xs = level w.memory j a (λ t. Gives (truth (t == b)))
effect code n args w (GuardPtr j) a b c d xs = if a == 0 then Fails 2 else given_at a (load8 w.memory a) (λ tag. level w.memory j tag (λ t. unless (t == b) 3))
effect code n args w (GuardTag j) a b c d xs = level w.memory j a (λ t. unless (t == b) 3)
effect code n args w New a b c d xs = if nat_lt w.free a then Fails 10 else made w a b (store8 w.memory w.next c)
effect code n args w (Call p) a b c d xs = Calls (Some p) xs
effect code n args w CallAt a b c d xs = Calls (code_at code n a) (drop 1 xs)
effect code n args w Copy a b c d xs = Begins (CopyHead a b c)
effect code n args w Zero a b c d xs = Begins (ZeroHead a b)
effect code n args w Compare a b c d xs = Begins (CompareHead a b c d)
effect code n args w (Svc m) a b c d xs = service w m a b c

abbrev pub effect_of : (ℕ → ℕ) → ℕ → List ℕ → World → Code → List ℕ → Effect
effect_of code n args w k xs = effect code n args w k (slice_index xs 0) (slice_index xs 1) (slice_index xs 2) (slice_index xs 3) xs
