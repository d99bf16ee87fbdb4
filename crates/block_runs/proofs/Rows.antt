-- Small programs that run to what they mean: blocks, operations and expected output come from a compiler of its own for
-- the language, which was held against a meaning of the language and against its own machine.
use Rattle.std.proofs.Common.{◌≡◌, ℕ, ◌+◌, ◌*◌, Bool, true, false, List, [], ◌∷◌, ◌++◌, replicate, Option, Some, None, refl}
use Rattle.std.specs.Fmt.{digits}
use Rattle.run_laws.specs.Runs.{Outcome, Ended, Trapped, run}
use Rattle.block_runs.specs.declared.code.Code.{Code}
use Rattle.block_runs.specs.declared.code.Code.TheVariants.{Const, Global, Local, Plus, Arg, Load, Store, LoadByte, StoreByte, Add, Sub, And, Or, Eor, Bic, Lsl, Asr, Ror, Mul, MulAdd, Neg, Not, Abs, Max0, Odd, Set, Bit, Span, Has, Div, Mod, Below, Elem, NotNil, IsPtr, IsTag, GuardPtr, GuardTag, New, Call, CallAt, Copy, Zero, Compare, Svc}
use Rattle.block_runs.specs.declared.code.Code.TheVariants.{Code as CodeOf}
use Rattle.block_runs.specs.declared.end.End.{End}
use Rattle.block_runs.specs.declared.end.End.TheVariants.{Jump, Branch, Nonzero, Return, Trap}
use Rattle.block_runs.specs.Blocks.{Operation, CodeBlock, Procedure}
use Rattle.block_runs.specs.States.{World, Starts, Stop, Kind}
use Rattle.a64_memory.specs.Areas.{data_base, local_base, heap_base, zeroed}
use Rattle.block_runs.specs.Steps.{block_system}

abbrev op : Code → List ℕ → Option ℕ → Operation
op code uses def = record { code = code; uses = uses; def = def }

abbrev block : List ℕ → List Operation → End → CodeBlock
block params ops end = record { params = params; ops = ops; end = end }

abbrev procedure : Bool → ℕ → ℕ → List CodeBlock → Procedure
procedure counted cells bytes blocks = record { blocks = blocks; counted = counted; cells = cells; bytes = bytes }

-- a world with less memory than the first one has, so that it can be written out
abbrev small_world : (globals : ℕ) (constants input : List ℕ) (calls cells local heap : ℕ) → World
small_world globals constants input calls cells local heap = record {
  memory = record { base = data_base; bytes = replicate globals 0 ++ constants } ∷ zeroed local_base local ∷ zeroed heap_base (8 * heap) ∷ [];
  body = 0;
  calls = calls;
  cells = cells;
  local = local_base;
  next = heap_base;
  free = heap;
  input = input;
}

-- at most so many steps, where the code of procedure p lies at 65536 + 4 * p
abbrev runs : ℕ → List Procedure → World → Outcome Stop
runs steps procedures world = run (block_system procedures (λ p. 65536 + 4 * p)).step steps (Starts world) []

-- loops, DIV and MOD, ABS, ODD, shifts, relations, numbers written with a width
abbrev loops_and_numbers_code : List Procedure
loops_and_numbers_code =
    procedure false 0 0 (
    block ([]) (op (Global 8) ([]) (Some 0) ∷ op (Const 3) ([]) (Some 1) ∷ op Neg (1 ∷ []) (Some 2) ∷ op Store (0 ∷ 2 ∷ []) None ∷ []) (Jump 1 ([])) ∷
    block ([]) (op (Global 8) ([]) (Some 3) ∷ op Load (3 ∷ []) (Some 4) ∷ op (Const 4) ([]) (Some 5) ∷ []) (Branch 11 4 5 2 6) ∷
    block ([]) (op (Global 16) ([]) (Some 6) ∷ op (Global 16) ([]) (Some 7) ∷ op Load (7 ∷ []) (Some 8) ∷ op (Global 8) ([]) (Some 9) ∷ op Load (9 ∷ []) (Some 10) ∷ op Abs (10 ∷ []) (Some 11) ∷ op Add (8 ∷ 11 ∷ []) (Some 12) ∷ op Store (6 ∷ 12 ∷ []) None ∷ op (Global 8) ([]) (Some 13) ∷ op Load (13 ∷ []) (Some 14) ∷ op Odd (14 ∷ []) (Some 15) ∷ []) (Nonzero 15 3 4) ∷
    block ([]) (op (Global 8) ([]) (Some 16) ∷ op Load (16 ∷ []) (Some 17) ∷ op (Const 2) ([]) (Some 18) ∷ op Div (17 ∷ 18 ∷ []) (Some 19) ∷ op (Const 3) ([]) (Some 20) ∷ op (Svc 2) (19 ∷ 20 ∷ []) None ∷ []) (Jump 5 ([])) ∷
    block ([]) (op (Global 8) ([]) (Some 21) ∷ op Load (21 ∷ []) (Some 22) ∷ op (Const 3) ([]) (Some 23) ∷ op Mod (22 ∷ 23 ∷ []) (Some 24) ∷ op (Const 0) ([]) (Some 25) ∷ op (Svc 2) (24 ∷ 25 ∷ []) None ∷ []) (Jump 5 ([])) ∷
    block ([]) (op (Global 8) ([]) (Some 26) ∷ op (Global 8) ([]) (Some 27) ∷ op Load (27 ∷ []) (Some 28) ∷ op (Const 1) ([]) (Some 29) ∷ op Add (28 ∷ 29 ∷ []) (Some 30) ∷ op Store (26 ∷ 30 ∷ []) None ∷ []) (Jump 1 ([])) ∷
    block ([]) (op (Global 16) ([]) (Some 31) ∷ op Load (31 ∷ []) (Some 32) ∷ op (Const 0) ([]) (Some 33) ∷ op (Svc 2) (32 ∷ 33 ∷ []) None ∷ op (Const 5) ([]) (Some 34) ∷ op (Const 3) ([]) (Some 35) ∷ op Lsl (34 ∷ 35 ∷ []) (Some 36) ∷ op (Const 16) ([]) (Some 37) ∷ op Neg (37 ∷ []) (Some 38) ∷ op (Const 2) ([]) (Some 39) ∷ op Asr (38 ∷ 39 ∷ []) (Some 40) ∷ op Add (36 ∷ 40 ∷ []) (Some 41) ∷ op (Const 1) ([]) (Some 42) ∷ op (Const 63) ([]) (Some 43) ∷ op Ror (42 ∷ 43 ∷ []) (Some 44) ∷ op (Const 3) ([]) (Some 45) ∷ op Mul (44 ∷ 45 ∷ []) (Some 46) ∷ op Sub (41 ∷ 46 ∷ []) (Some 47) ∷ op (Const 4) ([]) (Some 48) ∷ op (Svc 2) (47 ∷ 48 ∷ []) None ∷ op (Const 10) ([]) (Some 49) ∷ op (Svc 1) (49 ∷ []) None ∷ []) (Return None) ∷ [])
    ∷
    []

pub loops_and_numbers : runs 357 loops_and_numbers_code (small_world 24 ([]) ([]) 8192 1048576 256 64) ≡ Ended (32 ∷ 45 ∷ 50 ∷ 49 ∷ 32 ∷ 45 ∷ 49 ∷ 48 ∷ 32 ∷ 32 ∷ 48 ∷ 50 ∷ 32 ∷ 32 ∷ 49 ∷ 49 ∷ 50 ∷ 32 ∷ 32 ∷ 51 ∷ 48 ∷ 10 ∷ [])
unfolding digits
loops_and_numbers = refl

-- sets: constructors, ranges, membership, inclusion, the four operators
abbrev sets_code : List Procedure
sets_code =
    procedure false 0 0 (
    block ([]) (op (Global 24) ([]) (Some 0) ∷ op (Const 3) ([]) (Some 1) ∷ op Store (0 ∷ 1 ∷ []) None ∷ op (Global 8) ([]) (Some 2) ∷ op (Const 0) ([]) (Some 3) ∷ op (Const 1) ([]) (Some 4) ∷ op Elem (4 ∷ []) None ∷ op Bit (4 ∷ []) (Some 5) ∷ op Or (3 ∷ 5 ∷ []) (Some 6) ∷ op (Global 24) ([]) (Some 7) ∷ op Load (7 ∷ []) (Some 8) ∷ op Elem (8 ∷ []) None ∷ op (Const 5) ([]) (Some 9) ∷ op Elem (9 ∷ []) None ∷ op Span (8 ∷ 9 ∷ []) (Some 10) ∷ op Or (6 ∷ 10 ∷ []) (Some 11) ∷ op Store (2 ∷ 11 ∷ []) None ∷ op (Global 16) ([]) (Some 12) ∷ op (Global 8) ([]) (Some 13) ∷ op Load (13 ∷ []) (Some 14) ∷ op (Const 0) ([]) (Some 15) ∷ op (Const 0) ([]) (Some 16) ∷ op Elem (16 ∷ []) None ∷ op (Const 7) ([]) (Some 17) ∷ op Elem (17 ∷ []) None ∷ op Span (16 ∷ 17 ∷ []) (Some 18) ∷ op Or (15 ∷ 18 ∷ []) (Some 19) ∷ op And (14 ∷ 19 ∷ []) (Some 20) ∷ op Not (20 ∷ []) (Some 21) ∷ op Store (12 ∷ 21 ∷ []) None ∷ op (Global 8) ([]) (Some 22) ∷ op (Const 9) ([]) (Some 23) ∷ op Elem (23 ∷ []) None ∷ op Bit (23 ∷ []) (Some 24) ∷ op Load (22 ∷ []) (Some 25) ∷ op Or (25 ∷ 24 ∷ []) (Some 26) ∷ op Store (22 ∷ 26 ∷ []) None ∷ op (Global 8) ([]) (Some 27) ∷ op (Const 4) ([]) (Some 28) ∷ op Elem (28 ∷ []) None ∷ op Bit (28 ∷ []) (Some 29) ∷ op Load (27 ∷ []) (Some 30) ∷ op Bic (30 ∷ 29 ∷ []) (Some 31) ∷ op Store (27 ∷ 31 ∷ []) None ∷ op (Global 24) ([]) (Some 32) ∷ op (Const 0) ([]) (Some 33) ∷ op Store (32 ∷ 33 ∷ []) None ∷ op (Const 10) ([]) (Some 34) ∷ []) (Jump 1 ([])) ∷
    block ([]) (op (Global 24) ([]) (Some 35) ∷ op Load (35 ∷ []) (Some 36) ∷ []) (Branch 13 36 34 2 6) ∷
    block ([]) (op (Global 24) ([]) (Some 37) ∷ op Load (37 ∷ []) (Some 38) ∷ op Elem (38 ∷ []) None ∷ op (Global 8) ([]) (Some 39) ∷ op Load (39 ∷ []) (Some 40) ∷ op Has (38 ∷ 40 ∷ []) (Some 41) ∷ []) (Nonzero 41 3 4) ∷
    block ([]) (op (Global 24) ([]) (Some 42) ∷ op Load (42 ∷ []) (Some 43) ∷ op (Const 2) ([]) (Some 44) ∷ op (Svc 2) (43 ∷ 44 ∷ []) None ∷ []) (Jump 5 ([])) ∷
    block ([]) ([]) (Jump 5 ([])) ∷
    block ([]) (op (Global 24) ([]) (Some 45) ∷ op (Global 24) ([]) (Some 46) ∷ op Load (46 ∷ []) (Some 47) ∷ op (Const 1) ([]) (Some 48) ∷ op Add (47 ∷ 48 ∷ []) (Some 49) ∷ op Store (45 ∷ 49 ∷ []) None ∷ []) (Jump 1 ([])) ∷
    block ([]) (op (Const 0) ([]) (Some 50) ∷ op (Const 1) ([]) (Some 51) ∷ op Elem (51 ∷ []) None ∷ op Bit (51 ∷ []) (Some 52) ∷ op Or (50 ∷ 52 ∷ []) (Some 53) ∷ op (Const 3) ([]) (Some 54) ∷ op Elem (54 ∷ []) None ∷ op Bit (54 ∷ []) (Some 55) ∷ op Or (53 ∷ 55 ∷ []) (Some 56) ∷ op (Global 8) ([]) (Some 57) ∷ op Load (57 ∷ []) (Some 58) ∷ op Bic (56 ∷ 58 ∷ []) (Some 59) ∷ op (Const 0) ([]) (Some 60) ∷ op (Set 0) (59 ∷ 60 ∷ []) (Some 61) ∷ []) (Nonzero 61 7 8) ∷
    block ([]) (op (Const 121) ([]) (Some 62) ∷ op (Svc 1) (62 ∷ []) None ∷ []) (Jump 9 ([])) ∷
    block ([]) ([]) (Jump 9 ([])) ∷
    block ([]) (op (Global 8) ([]) (Some 63) ∷ op Load (63 ∷ []) (Some 64) ∷ op (Global 16) ([]) (Some 65) ∷ op Load (65 ∷ []) (Some 66) ∷ op Eor (64 ∷ 66 ∷ []) (Some 67) ∷ op (Global 8) ([]) (Some 68) ∷ op Load (68 ∷ []) (Some 69) ∷ op (Global 16) ([]) (Some 70) ∷ op Load (70 ∷ []) (Some 71) ∷ op Bic (69 ∷ 71 ∷ []) (Some 72) ∷ op Or (67 ∷ 72 ∷ []) (Some 73) ∷ op (Const 0) ([]) (Some 74) ∷ op (Svc 2) (73 ∷ 74 ∷ []) None ∷ []) (Return None) ∷ [])
    ∷
    []

pub sets : runs 475 sets_code (small_world 32 ([]) ([]) 8192 1048576 256 64) ≡ Ended (32 ∷ 49 ∷ 32 ∷ 51 ∷ 32 ∷ 53 ∷ 32 ∷ 57 ∷ 121 ∷ 45 ∷ 53 ∷ 50 ∷ 57 ∷ [])
unfolding digits
sets = refl

-- globals: indices, fields, a copy of an array, comparison of texts, a string
abbrev arrays_and_records_code : List Procedure
arrays_and_records_code =
    procedure false 0 0 (
    block ([]) (op (Global 120) ([]) (Some 0) ∷ op (Const 0) ([]) (Some 1) ∷ op Store (0 ∷ 1 ∷ []) None ∷ op (Const 2) ([]) (Some 2) ∷ []) (Jump 1 ([])) ∷
    block ([]) (op (Global 120) ([]) (Some 3) ∷ op Load (3 ∷ []) (Some 4) ∷ []) (Branch 13 4 2 2 3) ∷
    block ([]) (op (Global 8) ([]) (Some 5) ∷ op (Global 120) ([]) (Some 6) ∷ op Load (6 ∷ []) (Some 7) ∷ op (Const 3) ([]) (Some 8) ∷ op Below (7 ∷ 8 ∷ []) None ∷ op (Const 16) ([]) (Some 9) ∷ op MulAdd (7 ∷ 9 ∷ 5 ∷ []) (Some 10) ∷ op (Global 120) ([]) (Some 11) ∷ op Load (11 ∷ []) (Some 12) ∷ op (Global 120) ([]) (Some 13) ∷ op Load (13 ∷ []) (Some 14) ∷ op Mul (12 ∷ 14 ∷ []) (Some 15) ∷ op Store (10 ∷ 15 ∷ []) None ∷ op (Global 8) ([]) (Some 16) ∷ op (Global 120) ([]) (Some 17) ∷ op Load (17 ∷ []) (Some 18) ∷ op (Const 3) ([]) (Some 19) ∷ op Below (18 ∷ 19 ∷ []) None ∷ op (Const 16) ([]) (Some 20) ∷ op MulAdd (18 ∷ 20 ∷ 16 ∷ []) (Some 21) ∷ op (Plus 8) (21 ∷ []) (Some 22) ∷ op (Global 120) ([]) (Some 23) ∷ op Load (23 ∷ []) (Some 24) ∷ op Neg (24 ∷ []) (Some 25) ∷ op Store (22 ∷ 25 ∷ []) None ∷ op (Global 120) ([]) (Some 26) ∷ op (Global 120) ([]) (Some 27) ∷ op Load (27 ∷ []) (Some 28) ∷ op (Const 1) ([]) (Some 29) ∷ op Add (28 ∷ 29 ∷ []) (Some 30) ∷ op Store (26 ∷ 30 ∷ []) None ∷ []) (Jump 1 ([])) ∷
    block ([]) (op (Global 56) ([]) (Some 31) ∷ op (Global 8) ([]) (Some 32) ∷ op (Const 48) ([]) (Some 33) ∷ op Copy (31 ∷ 32 ∷ 33 ∷ []) None ∷ op (Global 8) ([]) (Some 34) ∷ op (Const 1) ([]) (Some 35) ∷ op (Const 3) ([]) (Some 36) ∷ op Below (35 ∷ 36 ∷ []) None ∷ op (Const 16) ([]) (Some 37) ∷ op MulAdd (35 ∷ 37 ∷ 34 ∷ []) (Some 38) ∷ op (Const 7) ([]) (Some 39) ∷ op Store (38 ∷ 39 ∷ []) None ∷ op (Global 56) ([]) (Some 40) ∷ op (Const 1) ([]) (Some 41) ∷ op (Const 3) ([]) (Some 42) ∷ op Below (41 ∷ 42 ∷ []) None ∷ op (Const 16) ([]) (Some 43) ∷ op MulAdd (41 ∷ 43 ∷ 40 ∷ []) (Some 44) ∷ op Load (44 ∷ []) (Some 45) ∷ op (Global 8) ([]) (Some 46) ∷ op (Const 1) ([]) (Some 47) ∷ op (Const 3) ([]) (Some 48) ∷ op Below (47 ∷ 48 ∷ []) None ∷ op (Const 16) ([]) (Some 49) ∷ op MulAdd (47 ∷ 49 ∷ 46 ∷ []) (Some 50) ∷ op Load (50 ∷ []) (Some 51) ∷ op (Const 10) ([]) (Some 52) ∷ op Mul (51 ∷ 52 ∷ []) (Some 53) ∷ op Add (45 ∷ 53 ∷ []) (Some 54) ∷ op (Const 0) ([]) (Some 55) ∷ op (Svc 2) (54 ∷ 55 ∷ []) None ∷ op (Global 104) ([]) (Some 56) ∷ op (Global 256) ([]) (Some 57) ∷ op (Const 4) ([]) (Some 58) ∷ op Copy (56 ∷ 57 ∷ 58 ∷ []) None ∷ op (Global 112) ([]) (Some 59) ∷ op (Global 264) ([]) (Some 60) ∷ op (Const 4) ([]) (Some 61) ∷ op Copy (59 ∷ 60 ∷ 61 ∷ []) None ∷ op (Global 104) ([]) (Some 62) ∷ op (Const 6) ([]) (Some 63) ∷ op (Global 112) ([]) (Some 64) ∷ op (Const 6) ([]) (Some 65) ∷ op Compare (62 ∷ 63 ∷ 64 ∷ 65 ∷ []) (Some 66) ∷ op (Const 0) ([]) (Some 67) ∷ op (Set 11) (66 ∷ 67 ∷ []) (Some 68) ∷ []) (Nonzero 68 4 5) ∷
    block ([]) (op (Global 104) ([]) (Some 69) ∷ op (Const 6) ([]) (Some 70) ∷ op (Const 1) ([]) (Some 71) ∷ op (Svc 3) (69 ∷ 70 ∷ 71 ∷ []) None ∷ []) (Jump 6 ([])) ∷
    block ([]) ([]) (Jump 6 ([])) ∷
    block ([]) (op (Global 104) ([]) (Some 72) ∷ op (Const 6) ([]) (Some 73) ∷ op (Global 272) ([]) (Some 74) ∷ op (Const 4) ([]) (Some 75) ∷ op Compare (72 ∷ 73 ∷ 74 ∷ 75 ∷ []) (Some 76) ∷ op (Const 0) ([]) (Some 77) ∷ op (Set 0) (76 ∷ 77 ∷ []) (Some 78) ∷ []) (Nonzero 78 7 8) ∷
    block ([]) (op (Const 61) ([]) (Some 79) ∷ op (Svc 1) (79 ∷ []) None ∷ []) (Jump 9 ([])) ∷
    block ([]) ([]) (Jump 9 ([])) ∷
    block ([]) ([]) (Return None) ∷ [])
    ∷
    []

pub arrays_and_records : runs 449 arrays_and_records_code (small_world 128 (128 ∷ 0 ∷ 0 ∷ 16 ∷ 0 ∷ 0 ∷ 0 ∷ 0 ∷ 0 ∷ 0 ∷ 0 ∷ 0 ∷ 0 ∷ 0 ∷ 0 ∷ 0 ∷ 0 ∷ 0 ∷ 0 ∷ 0 ∷ 0 ∷ 0 ∷ 0 ∷ 0 ∷ 0 ∷ 0 ∷ 0 ∷ 0 ∷ 0 ∷ 0 ∷ 0 ∷ 0 ∷ 0 ∷ 0 ∷ 0 ∷ 0 ∷ 0 ∷ 0 ∷ 0 ∷ 0 ∷ 0 ∷ 0 ∷ 0 ∷ 0 ∷ 0 ∷ 0 ∷ 0 ∷ 0 ∷ 0 ∷ 0 ∷ 0 ∷ 0 ∷ 0 ∷ 0 ∷ 0 ∷ 0 ∷ 0 ∷ 0 ∷ 0 ∷ 0 ∷ 0 ∷ 0 ∷ 0 ∷ 0 ∷ 0 ∷ 0 ∷ 0 ∷ 0 ∷ 0 ∷ 0 ∷ 0 ∷ 0 ∷ 0 ∷ 0 ∷ 0 ∷ 0 ∷ 0 ∷ 0 ∷ 0 ∷ 0 ∷ 0 ∷ 0 ∷ 0 ∷ 0 ∷ 0 ∷ 0 ∷ 0 ∷ 0 ∷ 0 ∷ 0 ∷ 0 ∷ 0 ∷ 0 ∷ 0 ∷ 0 ∷ 0 ∷ 0 ∷ 0 ∷ 0 ∷ 0 ∷ 0 ∷ 0 ∷ 0 ∷ 0 ∷ 0 ∷ 0 ∷ 0 ∷ 0 ∷ 0 ∷ 0 ∷ 0 ∷ 0 ∷ 0 ∷ 0 ∷ 0 ∷ 0 ∷ 0 ∷ 0 ∷ 0 ∷ 0 ∷ 0 ∷ 0 ∷ 0 ∷ 0 ∷ 0 ∷ 0 ∷ 0 ∷ 0 ∷ 97 ∷ 98 ∷ 99 ∷ 0 ∷ 0 ∷ 0 ∷ 0 ∷ 0 ∷ 97 ∷ 98 ∷ 100 ∷ 0 ∷ 0 ∷ 0 ∷ 0 ∷ 0 ∷ 97 ∷ 98 ∷ 99 ∷ 0 ∷ 0 ∷ 0 ∷ 0 ∷ 0 ∷ []) ([]) 8192 1048576 256 64) ≡ Ended (55 ∷ 49 ∷ 97 ∷ 98 ∷ 99 ∷ 61 ∷ [])
unfolding digits
arrays_and_records = refl

-- procedures: results, parameters by address, more than four arguments, a procedure variable, local arrays set to zero
abbrev calls_code : List Procedure
calls_code =
    procedure true 6 0 (
    block (0 ∷ 1 ∷ 2 ∷ 3 ∷ []) (op (Arg 4) ([]) (Some 4) ∷ op (Arg 5) ([]) (Some 5) ∷ op (Const 2) ([]) (Some 6) ∷ op Mul (6 ∷ 1 ∷ []) (Some 7) ∷ op Add (0 ∷ 7 ∷ []) (Some 8) ∷ op (Const 3) ([]) (Some 9) ∷ op Mul (9 ∷ 2 ∷ []) (Some 10) ∷ op Add (8 ∷ 10 ∷ []) (Some 11) ∷ op (Const 4) ([]) (Some 12) ∷ op Mul (12 ∷ 3 ∷ []) (Some 13) ∷ op Add (11 ∷ 13 ∷ []) (Some 14) ∷ op (Const 5) ([]) (Some 15) ∷ op Mul (15 ∷ 4 ∷ []) (Some 16) ∷ op Add (14 ∷ 16 ∷ []) (Some 17) ∷ op (Const 6) ([]) (Some 18) ∷ op Mul (18 ∷ 5 ∷ []) (Some 19) ∷ op Add (17 ∷ 19 ∷ []) (Some 20) ∷ []) (Return (Some 20)) ∷ [])
    ∷
    procedure true 1 0 (
    block (0 ∷ []) (op (Const 2) ([]) (Some 1) ∷ op Mul (1 ∷ 0 ∷ []) (Some 2) ∷ []) (Return (Some 2)) ∷ [])
    ∷
    procedure true 3 16 (
    block (0 ∷ 1 ∷ []) (op (Local 16) ([]) (Some 2) ∷ op (Const 16) ([]) (Some 3) ∷ op Zero (2 ∷ 3 ∷ []) None ∷ op (Local 16) ([]) (Some 4) ∷ op (Const 1) ([]) (Some 5) ∷ op (Const 2) ([]) (Some 6) ∷ op Below (5 ∷ 6 ∷ []) None ∷ op (Const 8) ([]) (Some 7) ∷ op MulAdd (5 ∷ 7 ∷ 4 ∷ []) (Some 8) ∷ op Store (8 ∷ 1 ∷ []) None ∷ op Load (0 ∷ []) (Some 9) ∷ op (Local 16) ([]) (Some 10) ∷ op (Const 0) ([]) (Some 11) ∷ op (Const 2) ([]) (Some 12) ∷ op Below (11 ∷ 12 ∷ []) None ∷ op (Const 8) ([]) (Some 13) ∷ op MulAdd (11 ∷ 13 ∷ 10 ∷ []) (Some 14) ∷ op Load (14 ∷ []) (Some 15) ∷ op Add (9 ∷ 15 ∷ []) (Some 16) ∷ op (Local 16) ([]) (Some 17) ∷ op (Const 1) ([]) (Some 18) ∷ op (Const 2) ([]) (Some 19) ∷ op Below (18 ∷ 19 ∷ []) None ∷ op (Const 8) ([]) (Some 20) ∷ op MulAdd (18 ∷ 20 ∷ 17 ∷ []) (Some 21) ∷ op Load (21 ∷ []) (Some 22) ∷ op Add (16 ∷ 22 ∷ []) (Some 23) ∷ op Store (0 ∷ 23 ∷ []) None ∷ []) (Return None) ∷ [])
    ∷
    procedure true 2 0 (
    block (0 ∷ []) (op (Const 0) ([]) (Some 1) ∷ op (Const 2) ([]) (Some 2) ∷ []) (Branch 11 0 2 1 2) ∷
    block ([]) (op (Const 1) ([]) (Some 3) ∷ []) (Jump 3 (3 ∷ [])) ∷
    block ([]) (op (Const 1) ([]) (Some 4) ∷ op Sub (0 ∷ 4 ∷ []) (Some 5) ∷ op (Call 3) (5 ∷ []) (Some 6) ∷ op Mul (0 ∷ 6 ∷ []) (Some 7) ∷ []) (Jump 3 (7 ∷ [])) ∷
    block (8 ∷ []) ([]) (Return (Some 8)) ∷ [])
    ∷
    procedure false 0 0 (
    block ([]) (op (Global 8) ([]) (Some 0) ∷ op (CodeOf 1) ([]) (Some 1) ∷ op Store (0 ∷ 1 ∷ []) None ∷ op (Global 16) ([]) (Some 2) ∷ op (Global 8) ([]) (Some 3) ∷ op Load (3 ∷ []) (Some 4) ∷ op (Const 20) ([]) (Some 5) ∷ op NotNil (4 ∷ []) None ∷ op CallAt (4 ∷ 5 ∷ []) (Some 6) ∷ op Store (2 ∷ 6 ∷ []) None ∷ op (Global 16) ([]) (Some 7) ∷ op (Const 2) ([]) (Some 8) ∷ op (Call 2) (7 ∷ 8 ∷ []) None ∷ op (Global 16) ([]) (Some 9) ∷ op Load (9 ∷ []) (Some 10) ∷ op (Const 0) ([]) (Some 11) ∷ op (Svc 2) (10 ∷ 11 ∷ []) None ∷ op (Const 1) ([]) (Some 12) ∷ op (Const 1) ([]) (Some 13) ∷ op (Const 1) ([]) (Some 14) ∷ op (Const 1) ([]) (Some 15) ∷ op (Const 1) ([]) (Some 16) ∷ op (Const 2) ([]) (Some 17) ∷ op (Call 0) (12 ∷ 13 ∷ 14 ∷ 15 ∷ 16 ∷ 17 ∷ []) (Some 18) ∷ op (Const 0) ([]) (Some 19) ∷ op (Svc 2) (18 ∷ 19 ∷ []) None ∷ op (Const 5) ([]) (Some 20) ∷ op (Call 3) (20 ∷ []) (Some 21) ∷ op (Const 5) ([]) (Some 22) ∷ op (Svc 2) (21 ∷ 22 ∷ []) None ∷ []) (Return None) ∷ [])
    ∷
    []

pub calls : runs 317 calls_code (small_world 24 ([]) ([]) 8192 1048576 256 64) ≡ Ended (52 ∷ 50 ∷ 50 ∷ 55 ∷ 32 ∷ 32 ∷ 49 ∷ 50 ∷ 48 ∷ [])
unfolding digits
calls = refl

-- NEW, fields through pointers, a type test and guards, on pointers and on a record passed by address
abbrev objects_code : List Procedure
objects_code =
    procedure true 0 0 (
    block (0 ∷ 1 ∷ []) (op (Global 152) ([]) (Some 2) ∷ op (IsTag 1) (1 ∷ 2 ∷ []) (Some 3) ∷ []) (Nonzero 3 1 2) ∷
    block ([]) (op (Global 152) ([]) (Some 4) ∷ op (GuardTag 1) (1 ∷ 4 ∷ []) None ∷ op (Plus 8) (0 ∷ []) (Some 5) ∷ op Load (5 ∷ []) (Some 6) ∷ op (Const 0) ([]) (Some 7) ∷ op (Svc 2) (6 ∷ 7 ∷ []) None ∷ []) (Jump 3 ([])) ∷
    block ([]) (op Load (0 ∷ []) (Some 8) ∷ op (Const 0) ([]) (Some 9) ∷ op (Svc 2) (8 ∷ 9 ∷ []) None ∷ []) (Jump 3 ([])) ∷
    block ([]) ([]) (Return None) ∷ [])
    ∷
    procedure false 0 0 (
    block ([]) (op (Global 16) ([]) (Some 0) ∷ op (Const 3) ([]) (Some 1) ∷ op (Const 24) ([]) (Some 2) ∷ op (Global 152) ([]) (Some 3) ∷ op New (1 ∷ 2 ∷ 3 ∷ []) (Some 4) ∷ op Store (0 ∷ 4 ∷ []) None ∷ op (Global 16) ([]) (Some 5) ∷ op Load (5 ∷ []) (Some 6) ∷ op NotNil (6 ∷ []) None ∷ op (Plus 8) (6 ∷ []) (Some 7) ∷ op (Const 4) ([]) (Some 8) ∷ op Store (7 ∷ 8 ∷ []) None ∷ op (Global 16) ([]) (Some 9) ∷ op Load (9 ∷ []) (Some 10) ∷ op NotNil (10 ∷ []) None ∷ op (Plus 16) (10 ∷ []) (Some 11) ∷ op (Const 2) ([]) (Some 12) ∷ op Store (11 ∷ 12 ∷ []) None ∷ op (Global 8) ([]) (Some 13) ∷ op (Global 16) ([]) (Some 14) ∷ op Load (14 ∷ []) (Some 15) ∷ op Store (13 ∷ 15 ∷ []) None ∷ op (Global 8) ([]) (Some 16) ∷ op Load (16 ∷ []) (Some 17) ∷ op (Global 152) ([]) (Some 18) ∷ op (IsPtr 1) (17 ∷ 18 ∷ []) (Some 19) ∷ []) (Nonzero 19 1 2) ∷
    block ([]) (op (Global 8) ([]) (Some 20) ∷ op Load (20 ∷ []) (Some 21) ∷ op (Global 152) ([]) (Some 22) ∷ op (GuardPtr 1) (21 ∷ 22 ∷ []) None ∷ op NotNil (21 ∷ []) None ∷ op (Plus 8) (21 ∷ []) (Some 23) ∷ op Load (23 ∷ []) (Some 24) ∷ op (Const 0) ([]) (Some 25) ∷ op (Svc 2) (24 ∷ 25 ∷ []) None ∷ []) (Jump 3 ([])) ∷
    block ([]) ([]) (Jump 3 ([])) ∷
    block ([]) (op (Global 8) ([]) (Some 26) ∷ op Load (26 ∷ []) (Some 27) ∷ op NotNil (27 ∷ []) None ∷ op (Plus 8) (27 ∷ []) (Some 28) ∷ op Load (27 ∷ []) (Some 29) ∷ op (Call 0) (28 ∷ 29 ∷ []) None ∷ op (Global 8) ([]) (Some 30) ∷ op (Const 2) ([]) (Some 31) ∷ op (Const 16) ([]) (Some 32) ∷ op (Global 24) ([]) (Some 33) ∷ op New (31 ∷ 32 ∷ 33 ∷ []) (Some 34) ∷ op Store (30 ∷ 34 ∷ []) None ∷ op (Global 8) ([]) (Some 35) ∷ op Load (35 ∷ []) (Some 36) ∷ op NotNil (36 ∷ []) None ∷ op (Plus 8) (36 ∷ []) (Some 37) ∷ op (Const 9) ([]) (Some 38) ∷ op Store (37 ∷ 38 ∷ []) None ∷ op (Global 8) ([]) (Some 39) ∷ op Load (39 ∷ []) (Some 40) ∷ op NotNil (40 ∷ []) None ∷ op (Plus 8) (40 ∷ []) (Some 41) ∷ op Load (40 ∷ []) (Some 42) ∷ op (Call 0) (41 ∷ 42 ∷ []) None ∷ op (Global 8) ([]) (Some 43) ∷ op Load (43 ∷ []) (Some 44) ∷ op (Global 152) ([]) (Some 45) ∷ op (IsPtr 1) (44 ∷ 45 ∷ []) (Some 46) ∷ []) (Nonzero 46 5 4) ∷
    block ([]) (op (Const 110) ([]) (Some 47) ∷ op (Svc 1) (47 ∷ []) None ∷ []) (Jump 6 ([])) ∷
    block ([]) ([]) (Jump 6 ([])) ∷
    block ([]) (op (Global 16) ([]) (Some 48) ∷ op (Global 8) ([]) (Some 49) ∷ op Load (49 ∷ []) (Some 50) ∷ op (Global 152) ([]) (Some 51) ∷ op (GuardPtr 1) (50 ∷ 51 ∷ []) None ∷ op Store (48 ∷ 50 ∷ []) None ∷ []) (Return None) ∷ [])
    ∷
    []

pub objects : runs 185 objects_code (small_world 24 (24 ∷ 0 ∷ 0 ∷ 16 ∷ 0 ∷ 0 ∷ 0 ∷ 0 ∷ 0 ∷ 0 ∷ 0 ∷ 0 ∷ 0 ∷ 0 ∷ 0 ∷ 0 ∷ 0 ∷ 0 ∷ 0 ∷ 0 ∷ 0 ∷ 0 ∷ 0 ∷ 0 ∷ 0 ∷ 0 ∷ 0 ∷ 0 ∷ 0 ∷ 0 ∷ 0 ∷ 0 ∷ 0 ∷ 0 ∷ 0 ∷ 0 ∷ 0 ∷ 0 ∷ 0 ∷ 0 ∷ 0 ∷ 0 ∷ 0 ∷ 0 ∷ 0 ∷ 0 ∷ 0 ∷ 0 ∷ 0 ∷ 0 ∷ 0 ∷ 0 ∷ 0 ∷ 0 ∷ 0 ∷ 0 ∷ 0 ∷ 0 ∷ 0 ∷ 0 ∷ 0 ∷ 0 ∷ 0 ∷ 0 ∷ 0 ∷ 0 ∷ 0 ∷ 0 ∷ 0 ∷ 0 ∷ 0 ∷ 0 ∷ 0 ∷ 0 ∷ 0 ∷ 0 ∷ 0 ∷ 0 ∷ 0 ∷ 0 ∷ 0 ∷ 0 ∷ 0 ∷ 0 ∷ 0 ∷ 0 ∷ 0 ∷ 0 ∷ 0 ∷ 0 ∷ 0 ∷ 0 ∷ 0 ∷ 0 ∷ 0 ∷ 0 ∷ 0 ∷ 0 ∷ 0 ∷ 0 ∷ 0 ∷ 0 ∷ 0 ∷ 0 ∷ 0 ∷ 0 ∷ 0 ∷ 0 ∷ 0 ∷ 0 ∷ 0 ∷ 0 ∷ 0 ∷ 0 ∷ 0 ∷ 0 ∷ 0 ∷ 0 ∷ 0 ∷ 0 ∷ 0 ∷ 0 ∷ 0 ∷ 0 ∷ 0 ∷ 0 ∷ 0 ∷ 0 ∷ 24 ∷ 0 ∷ 0 ∷ 16 ∷ 0 ∷ 0 ∷ 0 ∷ 0 ∷ 152 ∷ 0 ∷ 0 ∷ 16 ∷ 0 ∷ 0 ∷ 0 ∷ 0 ∷ 0 ∷ 0 ∷ 0 ∷ 0 ∷ 0 ∷ 0 ∷ 0 ∷ 0 ∷ 0 ∷ 0 ∷ 0 ∷ 0 ∷ 0 ∷ 0 ∷ 0 ∷ 0 ∷ 0 ∷ 0 ∷ 0 ∷ 0 ∷ 0 ∷ 0 ∷ 0 ∷ 0 ∷ 0 ∷ 0 ∷ 0 ∷ 0 ∷ 0 ∷ 0 ∷ 0 ∷ 0 ∷ 0 ∷ 0 ∷ 0 ∷ 0 ∷ 0 ∷ 0 ∷ 0 ∷ 0 ∷ 0 ∷ 0 ∷ 0 ∷ 0 ∷ 0 ∷ 0 ∷ 0 ∷ 0 ∷ 0 ∷ 0 ∷ 0 ∷ 0 ∷ 0 ∷ 0 ∷ 0 ∷ 0 ∷ 0 ∷ 0 ∷ 0 ∷ 0 ∷ 0 ∷ 0 ∷ 0 ∷ 0 ∷ 0 ∷ 0 ∷ 0 ∷ 0 ∷ 0 ∷ 0 ∷ 0 ∷ 0 ∷ 0 ∷ 0 ∷ 0 ∷ 0 ∷ 0 ∷ 0 ∷ 0 ∷ 0 ∷ 0 ∷ 0 ∷ 0 ∷ 0 ∷ 0 ∷ 0 ∷ 0 ∷ 0 ∷ 0 ∷ 0 ∷ 0 ∷ 0 ∷ 0 ∷ 0 ∷ 0 ∷ 0 ∷ 0 ∷ 0 ∷ 0 ∷ 0 ∷ 0 ∷ 0 ∷ 0 ∷ 0 ∷ 0 ∷ 0 ∷ 0 ∷ 0 ∷ 0 ∷ 0 ∷ 0 ∷ 0 ∷ []) ([]) 8192 1048576 256 64) ≡ Trapped (Kind 3 1) (52 ∷ 50 ∷ 57 ∷ 110 ∷ [])
unfolding digits
objects = refl

-- bytes of the input, and its end
abbrev input_code : List Procedure
input_code =
    procedure false 0 0 (
    block ([]) (op (Global 8) ([]) (Some 0) ∷ op (Svc 4) ([]) (Some 1) ∷ op (Const 0) ([]) (Some 2) ∷ op (Set 10) (1 ∷ 2 ∷ []) (Some 3) ∷ op (Global 0) ([]) (Some 4) ∷ op StoreByte (4 ∷ 3 ∷ []) None ∷ op Max0 (1 ∷ []) (Some 5) ∷ op StoreByte (0 ∷ 5 ∷ []) None ∷ []) (Jump 1 ([])) ∷
    block ([]) (op (Global 0) ([]) (Some 6) ∷ op LoadByte (6 ∷ []) (Some 7) ∷ []) (Nonzero 7 2 3) ∷
    block ([]) (op (Global 8) ([]) (Some 8) ∷ op LoadByte (8 ∷ []) (Some 9) ∷ op (Svc 1) (9 ∷ []) None ∷ op (Global 8) ([]) (Some 10) ∷ op (Svc 4) ([]) (Some 11) ∷ op (Const 0) ([]) (Some 12) ∷ op (Set 10) (11 ∷ 12 ∷ []) (Some 13) ∷ op (Global 0) ([]) (Some 14) ∷ op StoreByte (14 ∷ 13 ∷ []) None ∷ op Max0 (11 ∷ []) (Some 15) ∷ op StoreByte (10 ∷ 15 ∷ []) None ∷ []) (Jump 1 ([])) ∷
    block ([]) ([]) (Return None) ∷ [])
    ∷
    []

pub input : runs 73 input_code (small_world 16 ([]) (97 ∷ 98 ∷ []) 8192 1048576 256 64) ≡ Ended (97 ∷ 98 ∷ [])
unfolding digits
input = refl

-- two modules' bodies, one after the other; a call across modules
abbrev two_bodies_code : List Procedure
two_bodies_code =
    procedure true 1 0 (
    block (0 ∷ []) (op (Const 2) ([]) (Some 1) ∷ op Mul (1 ∷ 0 ∷ []) (Some 2) ∷ []) (Return (Some 2)) ∷ [])
    ∷
    procedure false 0 0 (
    block ([]) (op (Const 65) ([]) (Some 0) ∷ op (Svc 1) (0 ∷ []) None ∷ []) (Return None) ∷ [])
    ∷
    procedure false 0 0 (
    block ([]) (op (Const 21) ([]) (Some 0) ∷ op (Call 0) (0 ∷ []) (Some 1) ∷ op (Const 0) ([]) (Some 2) ∷ op (Svc 2) (1 ∷ 2 ∷ []) None ∷ op (Const 10) ([]) (Some 3) ∷ op (Svc 1) (3 ∷ []) None ∷ []) (Return None) ∷ [])
    ∷
    []

pub two_bodies : runs 44 two_bodies_code (small_world 8 ([]) ([]) 8192 1048576 256 64) ≡ Ended (65 ∷ 52 ∷ 50 ∷ 10 ∷ [])
unfolding digits
two_bodies = refl

-- a trap carries the number of the procedure that runs
abbrev trap_in_a_procedure_code : List Procedure
trap_in_a_procedure_code =
    procedure true 1 0 (
    block (0 ∷ []) (op (Global 8) ([]) (Some 1) ∷ op (Const 3) ([]) (Some 2) ∷ op Below (0 ∷ 2 ∷ []) None ∷ op (Const 8) ([]) (Some 3) ∷ op MulAdd (0 ∷ 3 ∷ 1 ∷ []) (Some 4) ∷ op Load (4 ∷ []) (Some 5) ∷ []) (Return (Some 5)) ∷ [])
    ∷
    procedure false 0 0 (
    block ([]) (op (Const 97) ([]) (Some 0) ∷ op (Svc 1) (0 ∷ []) None ∷ op (Const 3) ([]) (Some 1) ∷ op (Call 0) (1 ∷ []) (Some 2) ∷ op (Const 0) ([]) (Some 3) ∷ op (Svc 2) (2 ∷ 3 ∷ []) None ∷ []) (Return None) ∷ [])
    ∷
    []

pub trap_in_a_procedure : runs 23 trap_in_a_procedure_code (small_world 32 ([]) ([]) 8192 1048576 256 64) ≡ Trapped (Kind 1 0) (97 ∷ [])
unfolding digits
trap_in_a_procedure = refl

-- trap 9 carries the number of the procedure that is called
abbrev trap_of_a_call_code : List Procedure
trap_of_a_call_code =
    procedure true 1048576 8388608 (
    block ([]) (op (Local 8388608) ([]) (Some 0) ∷ op (Const 8388608) ([]) (Some 1) ∷ op Zero (0 ∷ 1 ∷ []) None ∷ op (Local 8388608) ([]) (Some 2) ∷ op (Const 0) ([]) (Some 3) ∷ op (Const 1048576) ([]) (Some 4) ∷ op Below (3 ∷ 4 ∷ []) None ∷ op (Const 8) ([]) (Some 5) ∷ op MulAdd (3 ∷ 5 ∷ 2 ∷ []) (Some 6) ∷ op (Const 1) ([]) (Some 7) ∷ op Store (6 ∷ 7 ∷ []) None ∷ []) (Return None) ∷ [])
    ∷
    procedure true 1 8 (
    block ([]) (op (Local 8) ([]) (Some 0) ∷ op (Const 0) ([]) (Some 1) ∷ op Store (0 ∷ 1 ∷ []) None ∷ op (Local 8) ([]) (Some 2) ∷ op (Call 2) (2 ∷ []) None ∷ op (Local 8) ([]) (Some 3) ∷ op Load (3 ∷ []) (Some 4) ∷ op (Const 0) ([]) (Some 5) ∷ op (Svc 2) (4 ∷ 5 ∷ []) None ∷ []) (Return None) ∷ [])
    ∷
    procedure true 1048576 8388608 (
    block (0 ∷ []) (op (Local 8388608) ([]) (Some 1) ∷ op (Const 8388608) ([]) (Some 2) ∷ op Zero (1 ∷ 2 ∷ []) None ∷ op (Local 8388608) ([]) (Some 3) ∷ op (Const 0) ([]) (Some 4) ∷ op (Const 1048576) ([]) (Some 5) ∷ op Below (4 ∷ 5 ∷ []) None ∷ op (Const 8) ([]) (Some 6) ∷ op MulAdd (4 ∷ 6 ∷ 3 ∷ []) (Some 7) ∷ op Load (7 ∷ []) (Some 8) ∷ op Store (0 ∷ 8 ∷ []) None ∷ []) (Return None) ∷ [])
    ∷
    procedure false 0 0 (
    block ([]) (op (Const 97) ([]) (Some 0) ∷ op (Svc 1) (0 ∷ []) None ∷ op (Call 1) ([]) None ∷ []) (Return None) ∷ [])
    ∷
    []

pub trap_of_a_call : runs 34 trap_of_a_call_code (small_world 8 ([]) ([]) 8192 1048576 256 64) ≡ Trapped (Kind 9 2) (97 ∷ [])
unfolding digits
trap_of_a_call = refl

-- DIV by a number that is not positive
abbrev division_by_zero_code : List Procedure
division_by_zero_code =
    procedure false 0 0 (
    block ([]) (op (Const 7) ([]) (Some 0) ∷ op (Global 8) ([]) (Some 1) ∷ op Load (1 ∷ []) (Some 2) ∷ op Div (0 ∷ 2 ∷ []) (Some 3) ∷ op (Const 0) ([]) (Some 4) ∷ op (Svc 2) (3 ∷ 4 ∷ []) None ∷ []) (Return None) ∷ [])
    ∷
    []

pub division_by_zero : runs 11 division_by_zero_code (small_world 16 ([]) ([]) 8192 1048576 256 64) ≡ Trapped (Kind 4 0) ([])
unfolding digits
division_by_zero = refl

-- CASE with labels, ranges and types, and a CASE without a match
abbrev cases_code : List Procedure
cases_code =
    procedure false 0 0 (
    block ([]) (op (Global 16) ([]) (Some 0) ∷ op (Const 3) ([]) (Some 1) ∷ op (Const 24) ([]) (Some 2) ∷ op (Global 160) ([]) (Some 3) ∷ op New (1 ∷ 2 ∷ 3 ∷ []) (Some 4) ∷ op Store (0 ∷ 4 ∷ []) None ∷ op (Global 8) ([]) (Some 5) ∷ op (Global 16) ([]) (Some 6) ∷ op Load (6 ∷ []) (Some 7) ∷ op Store (5 ∷ 7 ∷ []) None ∷ op (Global 8) ([]) (Some 8) ∷ op Load (8 ∷ []) (Some 9) ∷ op (Global 160) ([]) (Some 10) ∷ op (IsPtr 1) (9 ∷ 10 ∷ []) (Some 11) ∷ []) (Nonzero 11 3 1) ∷
    block ([]) (op (Global 32) ([]) (Some 12) ∷ op (IsPtr 0) (9 ∷ 12 ∷ []) (Some 13) ∷ []) (Nonzero 13 4 2) ∷
    block ([]) ([]) (Jump 5 ([])) ∷
    block ([]) (op (Const 113) ([]) (Some 14) ∷ op (Svc 1) (14 ∷ []) None ∷ []) (Jump 5 ([])) ∷
    block ([]) (op (Const 112) ([]) (Some 15) ∷ op (Svc 1) (15 ∷ []) None ∷ []) (Jump 5 ([])) ∷
    block ([]) (op (Global 24) ([]) (Some 16) ∷ op (Const 0) ([]) (Some 17) ∷ op Store (16 ∷ 17 ∷ []) None ∷ op (Const 9) ([]) (Some 18) ∷ []) (Jump 6 ([])) ∷
    block ([]) (op (Global 24) ([]) (Some 19) ∷ op Load (19 ∷ []) (Some 20) ∷ []) (Branch 13 20 18 7 19) ∷
    block ([]) (op (Global 24) ([]) (Some 21) ∷ op Load (21 ∷ []) (Some 22) ∷ op (Const 0) ([]) (Some 23) ∷ []) (Branch 0 22 23 15 8) ∷
    block ([]) (op (Const 2) ([]) (Some 24) ∷ []) (Branch 10 22 24 9 10) ∷
    block ([]) (op (Const 4) ([]) (Some 25) ∷ []) (Branch 13 22 25 16 10) ∷
    block ([]) (op (Const 7) ([]) (Some 26) ∷ []) (Branch 0 22 26 16 11) ∷
    block ([]) (op (Const 1) ([]) (Some 27) ∷ []) (Branch 0 22 27 17 12) ∷
    block ([]) (op (Const 5) ([]) (Some 28) ∷ []) (Branch 0 22 28 17 13) ∷
    block ([]) (op (Const 6) ([]) (Some 29) ∷ []) (Branch 0 22 29 17 14) ∷
    block ([]) ([]) (Trap 6) ∷
    block ([]) (op (Const 48) ([]) (Some 30) ∷ op (Svc 1) (30 ∷ []) None ∷ []) (Jump 18 ([])) ∷
    block ([]) (op (Const 114) ([]) (Some 31) ∷ op (Svc 1) (31 ∷ []) None ∷ []) (Jump 18 ([])) ∷
    block ([]) (op (Const 111) ([]) (Some 32) ∷ op (Svc 1) (32 ∷ []) None ∷ []) (Jump 18 ([])) ∷
    block ([]) (op (Global 24) ([]) (Some 33) ∷ op (Global 24) ([]) (Some 34) ∷ op Load (34 ∷ []) (Some 35) ∷ op (Const 1) ([]) (Some 36) ∷ op Add (35 ∷ 36 ∷ []) (Some 37) ∷ op Store (33 ∷ 37 ∷ []) None ∷ []) (Jump 6 ([])) ∷
    block ([]) ([]) (Return None) ∷ [])
    ∷
    []

pub cases : runs 354 cases_code (small_world 32 (32 ∷ 0 ∷ 0 ∷ 16 ∷ 0 ∷ 0 ∷ 0 ∷ 0 ∷ 0 ∷ 0 ∷ 0 ∷ 0 ∷ 0 ∷ 0 ∷ 0 ∷ 0 ∷ 0 ∷ 0 ∷ 0 ∷ 0 ∷ 0 ∷ 0 ∷ 0 ∷ 0 ∷ 0 ∷ 0 ∷ 0 ∷ 0 ∷ 0 ∷ 0 ∷ 0 ∷ 0 ∷ 0 ∷ 0 ∷ 0 ∷ 0 ∷ 0 ∷ 0 ∷ 0 ∷ 0 ∷ 0 ∷ 0 ∷ 0 ∷ 0 ∷ 0 ∷ 0 ∷ 0 ∷ 0 ∷ 0 ∷ 0 ∷ 0 ∷ 0 ∷ 0 ∷ 0 ∷ 0 ∷ 0 ∷ 0 ∷ 0 ∷ 0 ∷ 0 ∷ 0 ∷ 0 ∷ 0 ∷ 0 ∷ 0 ∷ 0 ∷ 0 ∷ 0 ∷ 0 ∷ 0 ∷ 0 ∷ 0 ∷ 0 ∷ 0 ∷ 0 ∷ 0 ∷ 0 ∷ 0 ∷ 0 ∷ 0 ∷ 0 ∷ 0 ∷ 0 ∷ 0 ∷ 0 ∷ 0 ∷ 0 ∷ 0 ∷ 0 ∷ 0 ∷ 0 ∷ 0 ∷ 0 ∷ 0 ∷ 0 ∷ 0 ∷ 0 ∷ 0 ∷ 0 ∷ 0 ∷ 0 ∷ 0 ∷ 0 ∷ 0 ∷ 0 ∷ 0 ∷ 0 ∷ 0 ∷ 0 ∷ 0 ∷ 0 ∷ 0 ∷ 0 ∷ 0 ∷ 0 ∷ 0 ∷ 0 ∷ 0 ∷ 0 ∷ 0 ∷ 0 ∷ 0 ∷ 0 ∷ 0 ∷ 0 ∷ 0 ∷ 0 ∷ 0 ∷ 32 ∷ 0 ∷ 0 ∷ 16 ∷ 0 ∷ 0 ∷ 0 ∷ 0 ∷ 160 ∷ 0 ∷ 0 ∷ 16 ∷ 0 ∷ 0 ∷ 0 ∷ 0 ∷ 0 ∷ 0 ∷ 0 ∷ 0 ∷ 0 ∷ 0 ∷ 0 ∷ 0 ∷ 0 ∷ 0 ∷ 0 ∷ 0 ∷ 0 ∷ 0 ∷ 0 ∷ 0 ∷ 0 ∷ 0 ∷ 0 ∷ 0 ∷ 0 ∷ 0 ∷ 0 ∷ 0 ∷ 0 ∷ 0 ∷ 0 ∷ 0 ∷ 0 ∷ 0 ∷ 0 ∷ 0 ∷ 0 ∷ 0 ∷ 0 ∷ 0 ∷ 0 ∷ 0 ∷ 0 ∷ 0 ∷ 0 ∷ 0 ∷ 0 ∷ 0 ∷ 0 ∷ 0 ∷ 0 ∷ 0 ∷ 0 ∷ 0 ∷ 0 ∷ 0 ∷ 0 ∷ 0 ∷ 0 ∷ 0 ∷ 0 ∷ 0 ∷ 0 ∷ 0 ∷ 0 ∷ 0 ∷ 0 ∷ 0 ∷ 0 ∷ 0 ∷ 0 ∷ 0 ∷ 0 ∷ 0 ∷ 0 ∷ 0 ∷ 0 ∷ 0 ∷ 0 ∷ 0 ∷ 0 ∷ 0 ∷ 0 ∷ 0 ∷ 0 ∷ 0 ∷ 0 ∷ 0 ∷ 0 ∷ 0 ∷ 0 ∷ 0 ∷ 0 ∷ 0 ∷ 0 ∷ 0 ∷ 0 ∷ 0 ∷ 0 ∷ 0 ∷ 0 ∷ 0 ∷ 0 ∷ 0 ∷ 0 ∷ 0 ∷ 0 ∷ 0 ∷ 0 ∷ 0 ∷ 0 ∷ 0 ∷ 0 ∷ 0 ∷ 0 ∷ 0 ∷ []) ([]) 8192 1048576 256 64) ≡ Trapped (Kind 6 0) (113 ∷ 48 ∷ 111 ∷ 114 ∷ 114 ∷ 114 ∷ 111 ∷ 111 ∷ 114 ∷ [])
unfolding digits
cases = refl
