-- Queens on 8 fields, whose 1,965 calls are too much to be computed at once: they are computed in eight parts, one for each place of the
-- first queen, and put together with what calls do left open. The tree is as bench/checked_rows.py writes it, the turns are those that an
-- independent program counts.
use Rattle.run_laws.specs.Turns.{State, Gives, ◌>>=◌, give, while_so}
use Rattle.ob_types.specs.Store.{Store, Bits, Value, Address, Frames, Here, bits, fetch, put}
use Rattle.ob_types.specs.Statements.{Deed, at_limit}
use Rattle.wrapping_numbers.specs.Numbers.{unsigned, add64}
use Rattle.ob_types.specs.Expressions.{Calls}
use Rattle.std.specs.Prelude.{ℕ, zero, suc, ◌+◌, ◌-◌, ◌++◌, replicate, slice_set, ◌≡◌, ℕ, zero, suc, [], ◌∷◌, true, false, Some, None, pos, Vec, Box}
use Rattle.std.proofs.Common.{refl, arith, ap, ◌∙◌}
use Rattle.std.specs.Fmt.{digits}
use Rattle.std.specs.declared.alloc.Global.{Global as Heap}
use Rattle.run_laws.specs.Runs.{Ended}
use Rattle.ob_types.specs.WellFormed.{well_formed}
use Rattle.ob_types.specs.Meaning.{meaning, effects, at_most, invoked}
use Rattle.ob_types.specs.declared.types.TypeKind.TheVariants.{Int, Array, Nothing}
use Rattle.ob_types.specs.declared.types.TypeKind.TheVariants.{Bool as BoolKind}
use Rattle.ob_types.specs.declared.types.Mode.TheVariants.{Value as OfValue}
use Rattle.ob_types.specs.declared.tree.Unary.TheVariants.{Not}
use Rattle.ob_types.specs.declared.tree.Binary.TheVariants.{Add, Subtract}
use Rattle.ob_types.specs.declared.tree.Relation.TheVariants.{Less}
use Rattle.ob_types.specs.declared.tree.Base.TheVariants.{Global, Local}
use Rattle.ob_types.specs.declared.tree.Expr.{Literal, Load, Unary', Chain', Compare', end_of-Link, more_of-Link}
use Rattle.ob_types.specs.declared.tree.Link.{Operate, And}
use Rattle.ob_types.specs.declared.tree.Designator.{Whole, Part', end_of-Selector, more_of-Selector}
use Rattle.ob_types.specs.declared.tree.Selector.{Index}
use Rattle.ob_types.specs.declared.tree.Call.{Direct', end_of-Argument, more_of-Argument}
use Rattle.ob_types.specs.declared.tree.Argument.{ByValue}
use Rattle.ob_types.specs.declared.statements.Stmt.{Assign, Increase, OutInt, OutLn, If', For', end_of-Stmt, more_of-Stmt, end_of-Branch, more_of-Branch}
use Rattle.ob_types.specs.declared.statements.Stmt.{Call as Invoke}
use Rattle.ob_types.specs.declared.program.Program.{Program}

-- the outside of a box and of a vector
abbrev Outside : Type 0 → Type 0
Outside A = Box (Unit {0}) Heap → Vec (Unit {0}) Heap → A

abbrev vec0 : Vec (Unit {0}) Heap → Vec (Unit {0}) Heap
vec0 v = record { ptr = v.ptr; len = 0; cap = 0; alloc = v.alloc; items = []; ok = (refl, omega arith); small = omega arith }

abbrev vec1 : Vec (Unit {0}) Heap → Vec (Unit {0}) Heap
vec1 v = record { ptr = v.ptr; len = 1; cap = 1; alloc = v.alloc; items = tt ∷ []; ok = (refl, omega arith); small = omega arith }

abbrev vec2 : Vec (Unit {0}) Heap → Vec (Unit {0}) Heap
vec2 v = record { ptr = v.ptr; len = 2; cap = 2; alloc = v.alloc; items = tt ∷ tt ∷ []; ok = (refl, omega arith); small = omega arith }

abbrev vec7 : Vec (Unit {0}) Heap → Vec (Unit {0}) Heap
vec7 v = record { ptr = v.ptr; len = 7; cap = 7; alloc = v.alloc; items = tt ∷ tt ∷ tt ∷ tt ∷ tt ∷ tt ∷ tt ∷ []; ok = (refl, omega arith); small = omega arith }

-- MODULE Queens; IMPORT Out; VAR a: ARRAY 8 OF BOOLEAN; b, c: ARRAY 15 OF BOOLEAN; count: INTEGER; PROCEDURE Try(i: INTEGER); VAR j: INTEGER; BEGIN FOR j := 0 TO 7 DO IF ~a[j] & ~b[i + j] & ~c[i - j + 7] THEN a[j] := TRUE; b[i + j] := TRUE; c[i - j + 7] := TRUE; IF i < 7 THEN Try(i + 1) ELSE INC(count) END; a[j] := FALSE; b[i + j] := FALSE; c[i - j + 7] := FALSE END END END Try; BEGIN Try(0); Out.Int(count, 0); Out.Ln END Queens.
abbrev queens : Outside Program
queens b v = record { types = record { kinds = (BoolKind ∷ (Array (Some 8) 0) ∷ (Array (Some 15) 0) ∷ Int ∷ Nothing ∷ []); records = []; signatures = [] }; modules = (record { name = []; objects = []; variables = (1 ∷ 2 ∷ 2 ∷ 3 ∷ []); body = 1 } ∷ []); procedures = (record { «module» = 0; line = 1; is_body = false; formals = (record { mode = OfValue; variable = false; type_number = 3 } ∷ []); result = 4; locals = (3 ∷ []); texts = []; body = ((For' b (Whole (Local 1) Int) (record { form = (Literal 0); kind = Int }) (record { form = (Literal 7); kind = Int }) (pos 1) (vec1 v) (more_of-Stmt (If' (vec1 v) (more_of-Branch (record { form = (Chain' b (Unary' Not b (Load (Part' b (Global 0 0) BoolKind (vec1 v) (more_of-Selector (Index (Some 8) 0 (Load (Whole (Local 1) Int))) end_of-Selector)))) (vec2 v) (more_of-Link (And (Unary' Not b (Load (Part' b (Global 0 1) BoolKind (vec1 v) (more_of-Selector (Index (Some 15) 0 (Chain' b (Load (Whole (Local 0) Int)) (vec1 v) (more_of-Link (Operate Add (Load (Whole (Local 1) Int))) end_of-Link))) end_of-Selector))))) (more_of-Link (And (Unary' Not b (Load (Part' b (Global 0 2) BoolKind (vec1 v) (more_of-Selector (Index (Some 15) 0 (Chain' b (Load (Whole (Local 0) Int)) (vec2 v) (more_of-Link (Operate Subtract (Load (Whole (Local 1) Int))) (more_of-Link (Operate Add (Literal 7)) end_of-Link)))) end_of-Selector))))) end_of-Link))); kind = BoolKind }) (vec7 v) (more_of-Stmt (Assign (Part' b (Global 0 0) BoolKind (vec1 v) (more_of-Selector (Index (Some 8) 0 (Load (Whole (Local 1) Int))) end_of-Selector)) (record { form = (Literal 1); kind = BoolKind })) (more_of-Stmt (Assign (Part' b (Global 0 1) BoolKind (vec1 v) (more_of-Selector (Index (Some 15) 0 (Chain' b (Load (Whole (Local 0) Int)) (vec1 v) (more_of-Link (Operate Add (Load (Whole (Local 1) Int))) end_of-Link))) end_of-Selector)) (record { form = (Literal 1); kind = BoolKind })) (more_of-Stmt (Assign (Part' b (Global 0 2) BoolKind (vec1 v) (more_of-Selector (Index (Some 15) 0 (Chain' b (Load (Whole (Local 0) Int)) (vec2 v) (more_of-Link (Operate Subtract (Load (Whole (Local 1) Int))) (more_of-Link (Operate Add (Literal 7)) end_of-Link)))) end_of-Selector)) (record { form = (Literal 1); kind = BoolKind })) (more_of-Stmt (If' (vec1 v) (more_of-Branch (record { form = (Compare' Less b (Load (Whole (Local 0) Int)) b (Literal 7)); kind = BoolKind }) (vec1 v) (more_of-Stmt (Invoke (Direct' 0 (vec1 v) (more_of-Argument (ByValue (Chain' b (Load (Whole (Local 0) Int)) (vec1 v) (more_of-Link (Operate Add (Literal 1)) end_of-Link))) end_of-Argument))) end_of-Stmt) end_of-Branch) (vec1 v) (more_of-Stmt (Increase (Whole (Global 0 3) Int) (record { form = (Literal 1); kind = Int })) end_of-Stmt)) (more_of-Stmt (Assign (Part' b (Global 0 0) BoolKind (vec1 v) (more_of-Selector (Index (Some 8) 0 (Load (Whole (Local 1) Int))) end_of-Selector)) (record { form = (Literal 0); kind = BoolKind })) (more_of-Stmt (Assign (Part' b (Global 0 1) BoolKind (vec1 v) (more_of-Selector (Index (Some 15) 0 (Chain' b (Load (Whole (Local 0) Int)) (vec1 v) (more_of-Link (Operate Add (Load (Whole (Local 1) Int))) end_of-Link))) end_of-Selector)) (record { form = (Literal 0); kind = BoolKind })) (more_of-Stmt (Assign (Part' b (Global 0 2) BoolKind (vec1 v) (more_of-Selector (Index (Some 15) 0 (Chain' b (Load (Whole (Local 0) Int)) (vec2 v) (more_of-Link (Operate Subtract (Load (Whole (Local 1) Int))) (more_of-Link (Operate Add (Literal 7)) end_of-Link)))) end_of-Selector)) (record { form = (Literal 0); kind = BoolKind })) end_of-Stmt))))))) end_of-Branch) (vec0 v) end_of-Stmt) end_of-Stmt)) ∷ []); answer = None } ∷ record { «module» = 0; line = 1; is_body = true; formals = []; result = 4; locals = []; texts = []; body = ((Invoke (Direct' 0 (vec1 v) (more_of-Argument (ByValue (Literal 0)) end_of-Argument))) ∷ (OutInt (record { form = (Load (Whole (Global 0 3) Int)); kind = Int }) (record { form = (Literal 0); kind = Int })) ∷ OutLn ∷ []); answer = None } ∷ []); imports_in = false }

abbrev state : Store → ℕ → State Store
state c turns = record { store = c; out = []; turns = turns }

-- with the first queen at place j, and so many solutions found
abbrev placed : ℕ → ℕ → Store
placed j found = record {
  globals = (Bits 0 ∷ []) ∷ (slice_set (slice_set (slice_set (replicate 38 (Bits 0)) j (Bits 1)) (8 + j) (Bits 1)) (30 - j) (Bits 1) ++ Bits found ∷ []) ∷ [];
  frames = (Bits 0 ∷ Bits j ∷ []) ∷ [];
  heap = [];
  tags = [];
  strings = [];
  input = [];
}

-- with none
abbrev empty : ℕ → Store
empty found = record { globals = (Bits 0 ∷ []) ∷ (replicate 38 (Bits 0) ++ Bits found ∷ []) ∷ []; frames = []; heap = []; tags = []; strings = []; input = [] }

-- Try(1) with the first queen at place j finds these solutions, for these turns
abbrev Finds : Calls → (j before after start end : ℕ) → Type 0
Finds calls j before after start end = calls 0 (Value (Bits 1) ∷ []) (state (placed j before) start) ≡ Gives None (state (placed j after) end)

-- no queen is placed, and place j is next
abbrev next_at : ℕ → ℕ → Store
next_at j found = record (empty found) { frames = (Bits 0 ∷ Bits j ∷ []) ∷ [] }

module _ (b : Box (Unit {0}) Heap) (v : Vec (Unit {0}) Heap) (calls : Calls) (fuel : ℕ) where
  abbrev here : Here
  here = record { procedure = 0; frame = 0; arguments = Value (Bits 0) ∷ [] }

  abbrev place : Address
  place = record { area = Frames; object = 0; cell = 1 }

  -- the rounds of FOR
  abbrev rounds : ℕ → Deed
  rounds f = while_so f (do
    j ← bits (fetch place)
    give (at_limit (pos 1) j 7)) (do
      _ ← effects (queens b v) calls here fuel (more_of-Stmt (If' (vec1 v) (more_of-Branch (record { form = (Chain' b (Unary' Not b (Load (Part' b (Global 0 0) BoolKind (vec1 v) (more_of-Selector (Index (Some 8) 0 (Load (Whole (Local 1) Int))) end_of-Selector)))) (vec2 v) (more_of-Link (And (Unary' Not b (Load (Part' b (Global 0 1) BoolKind (vec1 v) (more_of-Selector (Index (Some 15) 0 (Chain' b (Load (Whole (Local 0) Int)) (vec1 v) (more_of-Link (Operate Add (Load (Whole (Local 1) Int))) end_of-Link))) end_of-Selector))))) (more_of-Link (And (Unary' Not b (Load (Part' b (Global 0 2) BoolKind (vec1 v) (more_of-Selector (Index (Some 15) 0 (Chain' b (Load (Whole (Local 0) Int)) (vec2 v) (more_of-Link (Operate Subtract (Load (Whole (Local 1) Int))) (more_of-Link (Operate Add (Literal 7)) end_of-Link)))) end_of-Selector))))) end_of-Link))); kind = BoolKind }) (vec7 v) (more_of-Stmt (Assign (Part' b (Global 0 0) BoolKind (vec1 v) (more_of-Selector (Index (Some 8) 0 (Load (Whole (Local 1) Int))) end_of-Selector)) (record { form = (Literal 1); kind = BoolKind })) (more_of-Stmt (Assign (Part' b (Global 0 1) BoolKind (vec1 v) (more_of-Selector (Index (Some 15) 0 (Chain' b (Load (Whole (Local 0) Int)) (vec1 v) (more_of-Link (Operate Add (Load (Whole (Local 1) Int))) end_of-Link))) end_of-Selector)) (record { form = (Literal 1); kind = BoolKind })) (more_of-Stmt (Assign (Part' b (Global 0 2) BoolKind (vec1 v) (more_of-Selector (Index (Some 15) 0 (Chain' b (Load (Whole (Local 0) Int)) (vec2 v) (more_of-Link (Operate Subtract (Load (Whole (Local 1) Int))) (more_of-Link (Operate Add (Literal 7)) end_of-Link)))) end_of-Selector)) (record { form = (Literal 1); kind = BoolKind })) (more_of-Stmt (If' (vec1 v) (more_of-Branch (record { form = (Compare' Less b (Load (Whole (Local 0) Int)) b (Literal 7)); kind = BoolKind }) (vec1 v) (more_of-Stmt (Invoke (Direct' 0 (vec1 v) (more_of-Argument (ByValue (Chain' b (Load (Whole (Local 0) Int)) (vec1 v) (more_of-Link (Operate Add (Literal 1)) end_of-Link))) end_of-Argument))) end_of-Stmt) end_of-Branch) (vec1 v) (more_of-Stmt (Increase (Whole (Global 0 3) Int) (record { form = (Literal 1); kind = Int })) end_of-Stmt)) (more_of-Stmt (Assign (Part' b (Global 0 0) BoolKind (vec1 v) (more_of-Selector (Index (Some 8) 0 (Load (Whole (Local 1) Int))) end_of-Selector)) (record { form = (Literal 0); kind = BoolKind })) (more_of-Stmt (Assign (Part' b (Global 0 1) BoolKind (vec1 v) (more_of-Selector (Index (Some 15) 0 (Chain' b (Load (Whole (Local 0) Int)) (vec1 v) (more_of-Link (Operate Add (Load (Whole (Local 1) Int))) end_of-Link))) end_of-Selector)) (record { form = (Literal 0); kind = BoolKind })) (more_of-Stmt (Assign (Part' b (Global 0 2) BoolKind (vec1 v) (more_of-Selector (Index (Some 15) 0 (Chain' b (Load (Whole (Local 0) Int)) (vec2 v) (more_of-Link (Operate Subtract (Load (Whole (Local 1) Int))) (more_of-Link (Operate Add (Literal 7)) end_of-Link)))) end_of-Selector)) (record { form = (Literal 0); kind = BoolKind })) end_of-Stmt))))))) end_of-Branch) (vec0 v) end_of-Stmt) end_of-Stmt)
      j ← bits (fetch place)
      put place (Bits (add64 j (unsigned (pos 1)))))

  round_0 : (f : ℕ) → Finds calls 0 0 4 99998 97545 → rounds (suc f) (state (next_at 0 0) 99999) ≡ rounds f (state (next_at 1 4) 97545)
  round_0 f finds = rw finds refl

  round_1 : (f : ℕ) → Finds calls 1 4 12 97544 94717 → rounds (suc f) (state (next_at 1 4) 97545) ≡ rounds f (state (next_at 2 12) 94717)
  round_1 f finds = rw finds refl

  round_2 : (f : ℕ) → Finds calls 2 12 28 94716 91977 → rounds (suc f) (state (next_at 2 12) 94717) ≡ rounds f (state (next_at 3 28) 91977)
  round_2 f finds = rw finds refl

  round_3 : (f : ℕ) → Finds calls 3 28 46 91976 89193 → rounds (suc f) (state (next_at 3 28) 91977) ≡ rounds f (state (next_at 4 46) 89193)
  round_3 f finds = rw finds refl

  round_4 : (f : ℕ) → Finds calls 4 46 64 89192 86409 → rounds (suc f) (state (next_at 4 46) 89193) ≡ rounds f (state (next_at 5 64) 86409)
  round_4 f finds = rw finds refl

  round_5 : (f : ℕ) → Finds calls 5 64 80 86408 83669 → rounds (suc f) (state (next_at 5 64) 86409) ≡ rounds f (state (next_at 6 80) 83669)
  round_5 f finds = rw finds refl

  round_6 : (f : ℕ) → Finds calls 6 80 88 83668 80841 → rounds (suc f) (state (next_at 6 80) 83669) ≡ rounds f (state (next_at 7 88) 80841)
  round_6 f finds = rw finds refl

  round_7 : (f : ℕ) → Finds calls 7 88 92 80840 78387 → rounds (suc f) (state (next_at 7 88) 80841) ≡ rounds f (state (next_at 8 92) 78387)
  round_7 f finds = rw finds refl

  round_8 : (f : ℕ) → rounds (suc f) (state (next_at 8 92) 78387) ≡ Gives tt (state (next_at 8 92) 78386)
  round_8 f = refl

-- what the calls in Try(0) find
record FindAll (calls : Calls) : Type 0 where
  p0 : Finds calls 0 0 4 99998 97545
  p1 : Finds calls 1 4 12 97544 94717
  p2 : Finds calls 2 12 28 94716 91977
  p3 : Finds calls 3 28 46 91976 89193
  p4 : Finds calls 4 46 64 89192 86409
  p5 : Finds calls 5 64 80 86408 83669
  p6 : Finds calls 6 80 88 83668 80841
  p7 : Finds calls 7 88 92 80840 78387

all_rounds : (b : Box (Unit {0}) Heap) (v : Vec (Unit {0}) Heap) (calls : Calls) (fuel f k : ℕ) → FindAll calls → f ≡ 9 + k → rounds b v calls fuel f (state (next_at 0 0) 99999) ≡ Gives tt (state (next_at 8 92) 78386)
all_rounds b v calls fuel f k p e = ap (λ n. rounds b v calls fuel n (state (next_at 0 0) 99999)) (e ∙ nine) ∙ chain
  where
    nine : 9 + k ≡ suc (suc (suc (suc (suc (suc (suc (suc (suc k))))))))
    nine = omega arith

    chain : rounds b v calls fuel (suc (suc (suc (suc (suc (suc (suc (suc (suc k))))))))) (state (next_at 0 0) 99999) ≡ Gives tt (state (next_at 8 92) 78386)
    chain =
        round_0 b v calls fuel (suc (suc (suc (suc (suc (suc (suc (suc k)))))))) p.p0
        ∙ round_1 b v calls fuel (suc (suc (suc (suc (suc (suc (suc k))))))) p.p1
        ∙ round_2 b v calls fuel (suc (suc (suc (suc (suc (suc k)))))) p.p2
        ∙ round_3 b v calls fuel (suc (suc (suc (suc (suc k))))) p.p3
        ∙ round_4 b v calls fuel (suc (suc (suc (suc k)))) p.p4
        ∙ round_5 b v calls fuel (suc (suc (suc k))) p.p5
        ∙ round_6 b v calls fuel (suc (suc k)) p.p6
        ∙ round_7 b v calls fuel (suc k) p.p7
        ∙ round_8 b v calls fuel k

-- Try(0), whatever calls do besides
try_all : (b : Box (Unit {0}) Heap) (v : Vec (Unit {0}) Heap) (calls : Calls) (k : ℕ) → FindAll calls → k ≡ 99999 → invoked (queens b v) calls k 0 (Value (Bits 0) ∷ []) (state (empty 0) 99999) ≡ Gives None (state (empty 92) 78385)
try_all b v calls k p e = rw (all_rounds b v calls k k 99990 p (omega (arith, e))) refl

-- what the calls in Try(0) do
calls_of : Box (Unit {0}) Heap → Vec (Unit {0}) Heap → Calls
calls_of b v = at_most (queens b v) 99999

place_0 : (b : Box (Unit {0}) Heap) (v : Vec (Unit {0}) Heap) → Finds (calls_of b v) 0 0 4 99998 97545
unfolding calls_of
place_0 b v = refl

place_1 : (b : Box (Unit {0}) Heap) (v : Vec (Unit {0}) Heap) → Finds (calls_of b v) 1 4 12 97544 94717
unfolding calls_of
place_1 b v = refl

place_2 : (b : Box (Unit {0}) Heap) (v : Vec (Unit {0}) Heap) → Finds (calls_of b v) 2 12 28 94716 91977
unfolding calls_of
place_2 b v = refl

place_3 : (b : Box (Unit {0}) Heap) (v : Vec (Unit {0}) Heap) → Finds (calls_of b v) 3 28 46 91976 89193
unfolding calls_of
place_3 b v = refl

place_4 : (b : Box (Unit {0}) Heap) (v : Vec (Unit {0}) Heap) → Finds (calls_of b v) 4 46 64 89192 86409
unfolding calls_of
place_4 b v = refl

place_5 : (b : Box (Unit {0}) Heap) (v : Vec (Unit {0}) Heap) → Finds (calls_of b v) 5 64 80 86408 83669
unfolding calls_of
place_5 b v = refl

place_6 : (b : Box (Unit {0}) Heap) (v : Vec (Unit {0}) Heap) → Finds (calls_of b v) 6 80 88 83668 80841
unfolding calls_of
place_6 b v = refl

place_7 : (b : Box (Unit {0}) Heap) (v : Vec (Unit {0}) Heap) → Finds (calls_of b v) 7 88 92 80840 78387
unfolding calls_of
place_7 b v = refl

they_are : (b : Box (Unit {0}) Heap) (v : Vec (Unit {0}) Heap) → at_most (queens b v) 99999 ≡ calls_of b v
unfolding calls_of
they_are b v = refl

all_places : (b : Box (Unit {0}) Heap) (v : Vec (Unit {0}) Heap) (k : ℕ) → k ≡ 99999 → invoked (queens b v) (at_most (queens b v) k) k 0 (Value (Bits 0) ∷ []) (state (empty 0) k) ≡ Gives None (state (empty 92) 78385)
all_places b v k e =
    ap (λ n. invoked (queens b v) (at_most (queens b v) n) k 0 (Value (Bits 0) ∷ []) (state (empty 0) k)) e
    ∙ ap (λ calls. invoked (queens b v) calls k 0 (Value (Bits 0) ∷ []) (state (empty 0) k)) (they_are b v)
    ∙ ap (λ n. invoked (queens b v) (calls_of b v) k 0 (Value (Bits 0) ∷ []) (state (empty 0) n)) e
    ∙ try_all b v (calls_of b v) k (record { p0 = place_0 b v; p1 = place_1 b v; p2 = place_2 b v; p3 = place_3 b v; p4 = place_4 b v; p5 = place_5 b v; p6 = place_6 b v; p7 = place_7 b v }) e

pub queens_92 : (b : Box (Unit {0}) Heap) (v : Vec (Unit {0}) Heap) (turns : ℕ) → turns ≡ 100000 → meaning (queens b v) [] turns ≡ Ended (57 ∷ 50 ∷ 10 ∷ [])
unfolding digits
queens_92 b v zero e = absurd (omega (arith, e))
queens_92 b v (suc k) e = rw (all_places b v k (omega (arith, e))) refl

pub queens_formed : (b : Box (Unit {0}) Heap) (v : Vec (Unit {0}) Heap) → well_formed (queens b v) ≡ true
queens_formed b v = refl
