-- Programs at the bounds of the language, for every size: by lemmas, in place of computing. As many assertions as one likes; calls whose
-- local arrays fill all cells (trap 9); calls up to the last that may be open, and one more (trap 8); a heap that is filled (trap 10).
use Rattle.std.specs.Prelude.{◌≡◌, ℕ, zero, suc, ◌+◌, ◌-◌, ◌*◌, ◌<◌, ◌≤◌, List, [], ◌∷◌, ◌++◌, length, replicate, true, false, nat_le, nat_lt, take, slice_index_or, int_lt, int_le, pos, Some, None, Option, Vec, Box}
use Rattle.std.proofs.Common.{refl, ap, inl, inr, ◌⊎◌, ◌∙◌, arith}
use Rattle.std.proofs.lemmas.List.{length-replicate, get_or_push, take_at, length-append}
use Rattle.std.proofs.lemmas.List.Sums.{sum_by-append}
use Rattle.std.proofs.lemmas.Bool.{le-leb, lt-leb, lt-ltb, le-ltb, cases_lt}
use Rattle.std.specs.declared.alloc.Global.{Global as Heap}
use Rattle.run_laws.specs.Runs.{Ended, Trapped, Going}
use Rattle.run_laws.specs.Turns.{State, Ending, Gives, Fails, Spent, after, ◌>>=◌, give, each_so, while_so, outcome}
use Rattle.wrapping_numbers.specs.Numbers.{signed, unsigned, add64, sub64}
use Rattle.wrapping_numbers.proofs.Wrapping.{signed_low}
use Rattle.ob_types.specs.Trees.{data_tree, record_row}
use Rattle.ob_types.specs.Layout.{cells_of_all}
use Rattle.ob_types.specs.Store.{Cell, Bits, Pointer, Globals, Address, Store, Trap, Kind, Here, Value, bits, fetch, put}
use Rattle.ob_types.specs.Expressions.{Calls}
use Rattle.ob_types.specs.Statements.{Deed, at_limit, heap_cells}
use Rattle.ob_types.specs.WellFormed.{well_formed}
use Rattle.ob_types.specs.Meaning.{meaning, effects, effects_of, at_most, start, zeroed, invoked, cells_in}
use Rattle.ob_types.specs.declared.types.TypeKind.TheVariants.{Int, Array, Nothing}
use Rattle.ob_types.specs.declared.types.TypeKind.TheVariants.{Bool as BoolKind, Record as RecordKind, Pointer as PointerKind}
use Rattle.ob_types.specs.declared.tree.Expr.{Literal}
use Rattle.ob_types.specs.declared.tree.Call.{Direct', end_of-Argument}
use Rattle.ob_types.specs.declared.types.TypeKind.TheVariants.{Char}
use Rattle.ob_types.specs.declared.types.Mode.TheVariants.{Value as OfValue}
use Rattle.ob_types.specs.declared.tree.Binary.TheVariants.{Subtract}
use Rattle.ob_types.specs.declared.tree.Relation.TheVariants.{Greater}
use Rattle.ob_types.specs.declared.tree.Base.TheVariants.{Local, Global}
use Rattle.ob_types.specs.declared.tree.Expr.{Load, Chain', Compare', end_of-Link, more_of-Link}
use Rattle.ob_types.specs.declared.tree.Link.{Operate}
use Rattle.ob_types.specs.declared.tree.Designator.{Whole}
use Rattle.ob_types.specs.declared.tree.Call.{more_of-Argument}
use Rattle.ob_types.specs.declared.tree.Argument.{ByValue}
use Rattle.ob_types.specs.declared.statements.Stmt.{OutChar, If', more_of-Stmt, end_of-Stmt, more_of-Branch, end_of-Branch}
use Rattle.ob_types.specs.declared.statements.Stmt.{Stmt, Assert, New, For'}
use Rattle.ob_types.specs.declared.statements.Stmt.{Call as Invoke}
use Rattle.ob_types.specs.declared.program.Procedure.{Procedure}
use Rattle.ob_types.specs.declared.program.Program.{Program}

---- MODULE A; BEGIN ASSERT(TRUE); ASSERT(TRUE); .. END A, with n statements

abbrev passing : Stmt
passing = Assert (record { form = Literal 1; kind = BoolKind })

abbrev asserts : ℕ → Program
asserts n = record {
  types = record { kinds = Nothing ∷ []; records = []; signatures = [] };
  modules = record { name = []; objects = []; variables = []; body = 0 } ∷ [];
  procedures = record { «module» = 0; line = 1; is_body = true; formals = []; result = 0; locals = []; texts = []; body = replicate n passing; answer = None } ∷ [];
  imports_in = false;
}

all_pass : (p : Program) (calls : Calls) (here : Here) (fuel n : ℕ) (s : State Store) → effects_of p calls here fuel (replicate n passing) s ≡ Gives tt s
all_pass p calls here fuel zero s = refl
all_pass p calls here fuel (suc n) s = all_pass p calls here fuel n s

-- so many assertions end, with any number of turns
pub asserts_end : (n turns : ℕ) → meaning (asserts n) [] turns ≡ Ended []
asserts_end n turns =
    let p : Program = asserts n in
    ap (λ (e : Ending Store Trap (Unit {0})). outcome (after e (λ (_ : Unit {0}) (s : State Store). let r : Ending Store Trap (Unit {0}) = Gives tt s in r)))
    (all_pass p (at_most p turns) (record { procedure = 0; frame = 0; arguments = [] }) turns n (record { store = start p []; out = []; turns = turns }))

pub asserts_4000 : meaning (asserts 4000) [] 0 ≡ Ended []
asserts_4000 = asserts_end 4000 0

---- MODULE L; PROCEDURE P; VAR a: ARRAY m OF INTEGER; BEGIN P END P; BEGIN P END L

abbrev call_of_0 : Vec (Unit {0}) Heap → Stmt
call_of_0 v = Invoke (Direct' 0 (record { ptr = v.ptr; len = 0; cap = 0; alloc = v.alloc; items = []; ok = (refl, omega arith); small = omega arith }) end_of-Argument)

abbrev caller : ℕ → Vec (Unit {0}) Heap → Procedure
caller m v = record { «module» = 0; line = 1; is_body = false; formals = []; result = 2; locals = 1 ∷ []; texts = []; body = call_of_0 v ∷ []; answer = None }

abbrev local_arrays : ℕ → Vec (Unit {0}) Heap → Program
local_arrays m v = record {
  types = record { kinds = Int ∷ Array (Some m) 0 ∷ Nothing ∷ []; records = []; signatures = [] };
  modules = record { name = []; objects = []; variables = []; body = 1 } ∷ [];
  procedures = caller m v ∷ record { «module» = 0; line = 1; is_body = true; formals = []; result = 2; locals = []; texts = []; body = call_of_0 v ∷ []; answer = None } ∷ [];
  imports_in = false;
}

abbrev state : Store → List ℕ → ℕ → State Store
state c out turns = record { store = c; out = out; turns = turns }

-- turns that are spent one after the other
spends : (n i t k : ℕ) (c : Store) (out : List ℕ) → t ≡ n + k → each_so {U = Trap} n i (λ _. give true) (state c out t) ≡ Gives tt (state c out k)
spends zero i t k c out e = ap (λ x. let r : Ending Store Trap (Unit {0}) = Gives tt (state c out x) in r) (omega (arith, e))
spends (suc n) i zero k c out e = absurd (omega (arith, e))
spends (suc n) i (suc t) k c out e = spends n (suc i) t k c out (omega (arith, e))

module _ (m : ℕ) (v : Vec (Unit {0}) Heap) where
  abbrev p : Program
  p = local_arrays m v

  abbrev own : ℕ
  own = cells_of_all p.types (1 ∷ [])

  abbrev first : Store
  first = start p []

  abbrev second : Store
  second = record first { frames = replicate own (Bits 0) ∷ [] }

  -- where the first call's array leaves no room for another
  second_call : (calls : Calls) (fuel k : ℕ) → 1048576 < m + m → invoked p calls fuel 0 [] (state second [] k) ≡ Fails (Kind 9 0) []
  second_call calls fuel k big = rw full refl
    where
      full : nat_le (0 + length (replicate (0 + m * 1) (Bits 0)) + (0 + (0 + m * 1))) 1048576 ≡ false
      full = let l = length-replicate {A = Cell} (0 + m * 1) (Bits 0) in lt-leb _ _ (omega (arith, l, big))

  first_call : (calls : Calls) (fuel t k : ℕ) → m ≤ 1048576 → t ≡ m + k → calls 0 [] (state second [] k) ≡ Fails (Kind 9 0) [] → invoked p calls fuel 0 [] (state first [] t) ≡ Fails (Kind 9 0) []
  first_call calls fuel t k fits turns ends = rw room (rw zeroing (rw ends refl))
    where
      room : nat_le (0 + (0 + (0 + m * 1))) 1048576 ≡ true
      room = le-leb _ _ (omega (arith, fits))

      zeroing : each_so {U = Trap} (zeroed p (caller m v)) 0 (λ _. give true) (state first [] t) ≡ Gives tt (state first [] k)
      zeroing = spends (zeroed p (caller m v)) 0 t k first [] (omega (arith, turns))

  -- the first call with no turn left for the second
  first_call_spent : (calls : Calls) (fuel : ℕ) → m ≤ 1048576 → calls 0 [] (state second [] 0) ≡ Spent [] → invoked p calls fuel 0 [] (state first [] m) ≡ Spent []
  first_call_spent calls fuel fits ends = rw room (rw zeroing (rw ends refl))
    where
      room : nat_le (0 + (0 + (0 + m * 1))) 1048576 ≡ true
      room = le-leb _ _ (omega (arith, fits))

      zeroing : each_so {U = Trap} (zeroed p (caller m v)) 0 (λ _. give true) (state first [] m) ≡ Gives tt (state first [] 0)
      zeroing = spends (zeroed p (caller m v)) 0 m 0 first [] (omega arith)

  -- an array too large for any call
  no_call : (calls : Calls) (fuel t : ℕ) → 1048576 < m → invoked p calls fuel 0 [] (state first [] t) ≡ Fails (Kind 9 0) []
  no_call calls fuel t big = rw no_room refl
    where
      no_room : nat_le (0 + (0 + (0 + m * 1))) 1048576 ≡ false
      no_room = lt-leb _ _ (omega (arith, big))

-- one call's array fits and two don't: the second call traps, with a turn for each cell of the first one's and one for each call
pub second_call_traps : (m turns : ℕ) (v : Vec (Unit {0}) Heap) → m ≤ 1048576 → 1048576 < m + m → m + 2 ≤ turns → meaning (local_arrays m v) [] turns ≡ Trapped (Kind 9 0) []
second_call_traps m zero v fits big enough = absurd (omega (arith, enough))
second_call_traps m (suc zero) v fits big enough = absurd (omega (arith, enough))
second_call_traps m (suc (suc t)) v fits big enough =
    let k : ℕ = t - m in
    rw (first_call m v (at_most (local_arrays m v) (suc t)) (suc t) (suc t) (suc k) fits (omega (arith, enough)) (second_call m v (at_most (local_arrays m v) t) t k big)) refl

-- with a turn less it doesn't come to that
pub second_call_waits : (m : ℕ) (v : Vec (Unit {0}) Heap) → 0 < m → m ≤ 1048576 → meaning (local_arrays m v) [] (suc m) ≡ Going []
second_call_waits zero v some fits = absurd (omega (arith, some))
second_call_waits (suc m) v some fits = rw (first_call_spent (suc m) v (at_most (local_arrays (suc m) v) (suc m)) (suc m) fits refl) refl

-- an array for which there never are cells enough
pub first_call_traps : (m turns : ℕ) (v : Vec (Unit {0}) Heap) → 1048576 < m → 0 < turns → meaning (local_arrays m v) [] turns ≡ Trapped (Kind 9 0) []
first_call_traps m zero v big some = absurd (omega (arith, some))
first_call_traps m (suc t) v big some = rw (no_call m v (at_most (local_arrays m v) t) t t big) refl

---- MODULE D; IMPORT Out; PROCEDURE D(n: INTEGER); BEGIN IF n > 1 THEN D(n - 1) END END D; BEGIN Out.Char("a"); D(d); Out.Char("b") END D

abbrev Outside : Type 0 → Type 0
Outside A = Box (Unit {0}) Heap → Vec (Unit {0}) Heap → A

abbrev vec0 : Vec (Unit {0}) Heap → Vec (Unit {0}) Heap
vec0 v = record { ptr = v.ptr; len = 0; cap = 0; alloc = v.alloc; items = []; ok = (refl, omega arith); small = omega arith }

abbrev vec1 : Vec (Unit {0}) Heap → Vec (Unit {0}) Heap
vec1 v = record { ptr = v.ptr; len = 1; cap = 1; alloc = v.alloc; items = tt ∷ []; ok = (refl, omega arith); small = omega arith }

abbrev recursive : Outside Procedure
recursive b v = record { «module» = 0; line = 1; is_body = false; formals = (record { mode = OfValue; variable = false; type_number = 0 } ∷ []); result = 1; locals = []; texts = []; body = ((If' (vec1 v) (more_of-Branch (record { form = (Compare' Greater b (Load (Whole (Local 0) Int)) b (Literal 1)); kind = BoolKind }) (vec1 v) (more_of-Stmt (Invoke (Direct' 0 (vec1 v) (more_of-Argument (ByValue (Chain' b (Load (Whole (Local 0) Int)) (vec1 v) (more_of-Link (Operate Subtract (Literal 1)) end_of-Link))) end_of-Argument))) end_of-Stmt) end_of-Branch) (vec0 v) end_of-Stmt) ∷ []); answer = None }

abbrev recursion : ℕ → Outside Program
recursion d b v = record {
  types = record { kinds = (Int ∷ Nothing ∷ []); records = []; signatures = [] };
  modules = (record { name = []; objects = []; variables = []; body = 1 } ∷ []);
  procedures = (recursive b v ∷ record { «module» = 0; line = 1; is_body = true; formals = []; result = 1; locals = []; texts = []; body = ((OutChar (record { form = (Literal 97); kind = Char })) ∷ (Invoke (Direct' 0 (vec1 v) (more_of-Argument (ByValue (Literal d)) end_of-Argument))) ∷ (OutChar (record { form = (Literal 98); kind = Char })) ∷ []); answer = None } ∷ []);
  imports_in = false;
}

module _ (d : ℕ) (b : Box (Unit {0}) Heap) (v : Vec (Unit {0}) Heap) where
  abbrev rec_p : Program
  rec_p = recursion d b v

  abbrev with_frames : List (List Cell) → Store
  with_frames fs = record { globals = (Bits 0 ∷ []) ∷ [] ∷ []; frames = fs; heap = []; tags = []; strings = []; input = [] }

  module _ (fs : List (List Cell)) (one : cells_in fs ≡ length fs) (few : length fs < 8192) where
    deep_enough : nat_lt (length fs) 8192 ≡ true
    deep_enough = lt-ltb _ _ few

    room_for_one : nat_le (cells_in fs + (1 + 0)) 1048576 ≡ true
    room_for_one = le-leb _ _ (omega (arith, one, few))

    own_frame : (n : ℕ) → slice_index_or (fs ++ (Bits n ∷ []) ∷ []) (length fs) [] ≡ Bits n ∷ []
    own_frame n = get_or_push fs (Bits n ∷ []) [] (length fs) refl

    more_than_one : (n : ℕ) → n < 8192 → int_lt (signed 1) (signed (suc (suc n))) ≡ true
    more_than_one n lt = ap (int_lt (signed 1)) (signed_low (suc (suc n)) (omega (arith, lt))) ∙ lt-ltb 1 (suc (suc n)) (omega arith)

    one_less : (n : ℕ) → n < 8192 → sub64 (suc (suc n)) 1 ≡ suc n
    one_less n lt = omega (arith, lt)

    back : (n : ℕ) → take (length fs) (fs ++ (Bits n ∷ []) ∷ []) ≡ fs
    back n = take_at fs ((Bits n ∷ []) ∷ []) (length fs) refl

    deeper_gives : (calls : Calls) (fuel n t r : ℕ) (out : List ℕ) → n < 8192 → calls 0 (Value (Bits (suc n)) ∷ []) (state (with_frames (fs ++ (Bits (suc (suc n)) ∷ []) ∷ [])) out t) ≡ Gives None (state (with_frames (fs ++ (Bits (suc (suc n)) ∷ []) ∷ [])) out (suc r)) → invoked rec_p calls fuel 0 (Value (Bits (suc (suc n))) ∷ []) (state (with_frames fs) out t) ≡ Gives None (state (with_frames fs) out r)
    deeper_gives calls fuel n t r out lt callee = rw deep_enough (rw room_for_one (rw (own_frame (suc (suc n))) (rw (more_than_one n lt) (rw (own_frame (suc (suc n))) (rw (one_less n lt) (rw callee (rw (back (suc (suc n))) refl)))))))

    deeper_fails : (calls : Calls) (fuel n t : ℕ) (out : List ℕ) → n < 8192 → calls 0 (Value (Bits (suc n)) ∷ []) (state (with_frames (fs ++ (Bits (suc (suc n)) ∷ []) ∷ [])) out t) ≡ Fails (Kind 8 0) out → invoked rec_p calls fuel 0 (Value (Bits (suc (suc n))) ∷ []) (state (with_frames fs) out t) ≡ Fails (Kind 8 0) out
    deeper_fails calls fuel n t out lt callee = rw deep_enough (rw room_for_one (rw (own_frame (suc (suc n))) (rw (more_than_one n lt) (rw (own_frame (suc (suc n))) (rw (one_less n lt) (rw callee refl))))))

    last_gives : (calls : Calls) (fuel r : ℕ) (out : List ℕ) → invoked rec_p calls fuel 0 (Value (Bits 1) ∷ []) (state (with_frames fs) out (suc r)) ≡ Gives None (state (with_frames fs) out r)
    last_gives calls fuel r out = rw deep_enough (rw room_for_one (rw (own_frame 1) (rw (back 1) refl)))

  all_open : (fs : List (List Cell)) (calls : Calls) (fuel n t : ℕ) (out : List ℕ) → length fs ≡ 8192 → invoked rec_p calls fuel 0 (Value (Bits n) ∷ []) (state (with_frames fs) out t) ≡ Fails (Kind 8 0) out
  all_open fs calls fuel n t out full = rw no_more refl
    where
      no_more : nat_lt (length fs) 8192 ≡ false
      no_more = le-ltb _ _ (omega (arith, full))

  -- one more open call
  one_more : (fs : List (List Cell)) (n : ℕ) → cells_in fs ≡ length fs → cells_in (fs ++ (Bits n ∷ []) ∷ []) ≡ length (fs ++ (Bits n ∷ []) ∷ [])
  one_more fs n one =
      let a = sum_by-append (λ cs. length cs) fs ((Bits n ∷ []) ∷ []) in
      let l = length-append fs ((Bits n ∷ []) ∷ []) in
      omega (arith, a, l, one)

  -- D(n + 1), where so many calls may still be open, with turns and depth of recursion enough
  returns : (n : ℕ) (fs : List (List Cell)) (fuel t r : ℕ) (out : List ℕ) → cells_in fs ≡ length fs → length fs + suc n ≤ 8192 → suc n ≤ fuel → t ≡ 2 * suc n + r → at_most rec_p fuel 0 (Value (Bits (suc n)) ∷ []) (state (with_frames fs) out t) ≡ Gives None (state (with_frames fs) out r)
  returns zero fs zero t r out one few deep turns = absurd (omega (arith, deep))
  returns zero fs (suc f) zero r out one few deep turns = absurd (omega (arith, turns))
  returns zero fs (suc f) (suc zero) r out one few deep turns = absurd (omega (arith, turns))
  returns zero fs (suc f) (suc (suc t)) r out one few deep turns =
      last_gives fs one (omega (arith, few)) (at_most rec_p f) f t out ∙ ap (λ k. let e : Ending Store Trap (Option Cell) = Gives None (state (with_frames fs) out k) in e) (omega (arith, turns))
  returns (suc n) fs zero t r out one few deep turns = absurd (omega (arith, deep))
  returns (suc n) fs (suc f) zero r out one few deep turns = absurd (omega (arith, turns))
  returns (suc n) fs (suc f) (suc t) r out one few deep turns =
      let l = length-append fs ((Bits (suc (suc n)) ∷ []) ∷ []) in
      deeper_gives fs one (omega (arith, few)) (at_most rec_p f) f n t r out (omega (arith, few))
      (returns n (fs ++ (Bits (suc (suc n)) ∷ []) ∷ []) f t (suc r) out (one_more fs (suc (suc n)) one) (omega (arith, few, l)) (omega (arith, deep)) (omega (arith, turns)))

  -- and where they aren't enough
  goes_too_deep : (n : ℕ) (fs : List (List Cell)) (fuel t : ℕ) (out : List ℕ) → cells_in fs ≡ length fs → length fs ≤ 8192 → 8192 < length fs + suc n → n ≤ 8192 → 8192 < length fs + fuel → 8192 < length fs + t → at_most rec_p fuel 0 (Value (Bits (suc n)) ∷ []) (state (with_frames fs) out t) ≡ Fails (Kind 8 0) out
  goes_too_deep n fs zero t out one most many small deep turns = absurd (omega (arith, most, deep))
  goes_too_deep n fs (suc f) zero out one most many small deep turns = absurd (omega (arith, most, turns))
  goes_too_deep zero fs (suc f) (suc t) out one most many small deep turns = all_open fs (at_most rec_p f) f 1 t out (omega (arith, most, many))
  goes_too_deep (suc n) fs (suc f) (suc t) out one most many small deep turns = by (cases_lt (length fs) 8192) (λ few.
      let l = length-append fs ((Bits (suc (suc n)) ∷ []) ∷ []) in
      goes_too_deep n (fs ++ (Bits (suc (suc n)) ∷ []) ∷ []) f t out (one_more fs (suc (suc n)) one) (omega (arith, few, l)) (omega (arith, many, l)) (omega (arith, small)) (omega (arith, deep, l)) (omega (arith, turns, l)))
    where
      by : ◌⊎◌ (length fs < 8192) (8192 ≤ length fs) → (length fs < 8192 → at_most rec_p f 0 (Value (Bits (suc n)) ∷ []) (state (with_frames (fs ++ (Bits (suc (suc n)) ∷ []) ∷ [])) out t) ≡ Fails (Kind 8 0) out) → at_most rec_p (suc f) 0 (Value (Bits (suc (suc n))) ∷ []) (state (with_frames fs) out (suc t)) ≡ Fails (Kind 8 0) out
      by (inl few) on = deeper_fails fs one few (at_most rec_p f) f n t out (omega (arith, small)) (on few)
      by (inr full) on = all_open fs (at_most rec_p f) f (suc (suc n)) t out (omega (arith, most, full))

-- D(n + 1) ends with up to 8,192 open calls, and two turns for each are enough
pub recursion_ends : (n r : ℕ) (b : Box (Unit {0}) Heap) (v : Vec (Unit {0}) Heap) → suc n ≤ 8192 → meaning (recursion (suc n) b v) [] (2 * suc n + r) ≡ Ended (97 ∷ 98 ∷ [])
recursion_ends n r b v few = rw (returns (suc n) b v n [] (2 * suc n + r) (2 * suc n + r) r (97 ∷ []) refl (omega (arith, few)) (omega arith) refl) refl

-- the 8,193rd traps
pub recursion_traps : (n turns : ℕ) (b : Box (Unit {0}) Heap) (v : Vec (Unit {0}) Heap) → n ≡ 8192 → 8192 < turns → meaning (recursion (suc n) b v) [] turns ≡ Trapped (Kind 8 0) (97 ∷ [])
recursion_traps n turns b v e enough = rw (goes_too_deep (suc n) b v n [] turns turns (97 ∷ []) refl (omega arith) (omega (arith, e)) (omega (arith, e)) (omega (arith, enough)) (omega (arith, enough))) refl

---- MODULE H; VAR p: POINTER TO RECORD a: ARRAY 1023 OF INTEGER END; i: INTEGER; BEGIN FOR i := 1 TO n DO NEW(p) END END H

abbrev objects : ℕ → Box (Unit {0}) Heap → Vec (Unit {0}) Heap → Program
objects n b v = record {
  types = record { kinds = RecordKind 0 ∷ PointerKind 0 ∷ Int ∷ Nothing ∷ Array (Some 1023) 2 ∷ []; records = record { «module» = 0; base = None; level = 0; fields = record { name = []; exported = false; type_number = 4 } ∷ []; cells = 1023; extent = record { bytes = 8184; wide = true } } ∷ []; signatures = [] };
  modules = record { name = []; objects = []; variables = 1 ∷ 2 ∷ []; body = 0 } ∷ [];
  procedures = record { «module» = 0; line = 1; is_body = true; formals = []; result = 3; locals = []; texts = []; body = For' b (Whole (Global 0 1) Int) (record { form = Literal 1; kind = Int }) (record { form = Literal n; kind = Int }) (pos 1) (vec1 v) (more_of-Stmt (New (Whole (Global 0 0) (PointerKind 0))) end_of-Stmt) ∷ []; answer = None } ∷ [];
  imports_in = false;
}

module _ (n : ℕ) (b : Box (Unit {0}) Heap) (v : Vec (Unit {0}) Heap) (calls : Calls) (fuel : ℕ) where
  abbrev heap_p : Program
  heap_p = objects n b v

  abbrev here : Here
  here = record { procedure = 0; frame = 0; arguments = [] }

  abbrev count : Address
  count = record { area = Globals; object = 1; cell = 1 }

  -- p and i, and the objects so far with their types
  abbrev heap_at : Cell → ℕ → List (List Cell) → List ℕ → Store
  heap_at pointer i hs tags = record { globals = (Bits 0 ∷ []) ∷ (pointer ∷ Bits i ∷ []) ∷ []; frames = []; heap = hs; tags = tags; strings = []; input = [] }

  abbrev rounds : ℕ → Deed
  rounds f = while_so f (do
    i ← bits (fetch count)
    give (at_limit (pos 1) i n)) (do
      _ ← effects heap_p calls here fuel (more_of-Stmt (New (Whole (Global 0 0) (PointerKind 0))) end_of-Stmt)
      i ← bits (fetch count)
      put count (Bits (add64 i (unsigned (pos 1)))))

  abbrev object : List Cell
  object = replicate 1023 (Bits 0)

  module _ (pointer : Cell) (i : ℕ) (hs : List (List Cell)) (tags : List ℕ) where
    -- a round in which the heap has room
    one_round : (f t : ℕ) → 0 < i → i ≤ n → n < 8388608 → heap_cells hs + 1024 ≤ 8388608 → rounds (suc f) (state (heap_at pointer i hs tags) [] (suc t)) ≡ rounds f (state (heap_at (Pointer (length hs)) (suc i) (hs ++ object ∷ []) (tags ++ 0 ∷ [])) [] t)
    one_round f t some more small fits = rw within_limit (rw room (rw next refl))
      where
        within_limit : int_le (signed i) (signed n) ≡ true
        within_limit = ap (λ z. int_le z (signed n)) (signed_low i (omega (arith, more, small))) ∙ ap (int_le (pos i)) (signed_low n (omega (arith, small))) ∙ le-leb i n more

        room : nat_le (heap_cells hs + 1024) 8388608 ≡ true
        room = le-leb _ _ fits

        next : add64 i 1 ≡ suc i
        next = omega (arith, more, small)

    -- one in which it hasn't
    full_round : (f t : ℕ) → 0 < i → i ≤ n → n < 8388608 → 8388608 < heap_cells hs + 1024 → rounds (suc f) (state (heap_at pointer i hs tags) [] (suc t)) ≡ Fails (Kind 10 0) []
    full_round f t some more small full = rw within_limit (rw no_room refl)
      where
        within_limit : int_le (signed i) (signed n) ≡ true
        within_limit = ap (λ z. int_le z (signed n)) (signed_low i (omega (arith, more, small))) ∙ ap (int_le (pos i)) (signed_low n (omega (arith, small))) ∙ le-leb i n more

        no_room : nat_le (heap_cells hs + 1024) 8388608 ≡ false
        no_room = lt-leb _ _ full

    -- the round that ends the loop
    last_round : (f t : ℕ) → n < i → i < 8388610 → rounds (suc f) (state (heap_at pointer i hs tags) [] (suc t)) ≡ Gives tt (state (heap_at pointer i hs tags) [] t)
    last_round f t over small = rw beyond refl
      where
        beyond : int_le (signed i) (signed n) ≡ false
        beyond = ap (λ z. int_le z (signed n)) (signed_low i (omega (arith, small))) ∙ ap (int_le (pos i)) (signed_low n (omega (arith, over, small))) ∙ lt-leb i n over

  -- how a loop comes out
  abbrev EndsSilently : Ending Store Trap (Unit {0}) → Type 0
  EndsSilently e = (s : State Store) × (e ≡ Gives tt s) × (s.out ≡ [])

  one_more_object : (hs : List (List Cell)) → heap_cells (hs ++ object ∷ []) ≡ heap_cells hs + 1024
  one_more_object hs = let a = sum_by-append (λ (cs : List Cell). suc (length cs)) hs (object ∷ []) in omega (arith, a)

  -- the rounds from i on end where there is room for their objects
  loop_ends : (left i : ℕ) (pointer : Cell) (hs : List (List Cell)) (tags : List ℕ) (f t : ℕ) → 0 < i → left + i ≡ suc n → n < 8388608 → heap_cells hs + 1024 * left ≤ 8388608 → left < f → left < t → EndsSilently (rounds f (state (heap_at pointer i hs tags) [] t))
  loop_ends left i pointer hs tags zero t some is small fits deep turns = absurd (omega (arith, deep))
  loop_ends left i pointer hs tags (suc f) zero some is small fits deep turns = absurd (omega (arith, turns))
  loop_ends zero i pointer hs tags (suc f) (suc t) some is small fits deep turns = (state (heap_at pointer i hs tags) [] t, last_round pointer i hs tags f t (omega (arith, is)) (omega (arith, is, small)), refl)
  loop_ends (suc left) i pointer hs tags (suc f) (suc t) some is small fits deep turns =
      let o = one_more_object hs in
      let r = loop_ends left (suc i) (Pointer (length hs)) (hs ++ object ∷ []) (tags ++ 0 ∷ []) f t (omega arith) (omega (arith, is)) small (omega (arith, fits, o)) (omega (arith, deep)) (omega (arith, turns)) in
      (r.0, one_round pointer i hs tags f t some (omega (arith, is)) small (omega (arith, fits)) ∙ r.1, r.2)

  -- and trap where there isn't: `free` more objects fit
  loop_traps : (free i : ℕ) (pointer : Cell) (hs : List (List Cell)) (tags : List ℕ) (f t : ℕ) → 0 < i → free + i ≤ n → n < 8388608 → heap_cells hs + 1024 * free ≡ 8388608 → free < f → free < t → rounds f (state (heap_at pointer i hs tags) [] t) ≡ Fails (Kind 10 0) []
  loop_traps free i pointer hs tags zero t some is small full deep turns = absurd (omega (arith, deep))
  loop_traps free i pointer hs tags (suc f) zero some is small full deep turns = absurd (omega (arith, turns))
  loop_traps zero i pointer hs tags (suc f) (suc t) some is small full deep turns = full_round pointer i hs tags f t some (omega (arith, is)) small (omega (arith, full))
  loop_traps (suc free) i pointer hs tags (suc f) (suc t) some is small full deep turns =
      let o = one_more_object hs in
      one_round pointer i hs tags f t some (omega (arith, is)) small (omega (arith, full))
      ∙ loop_traps free (suc i) (Pointer (length hs)) (hs ++ object ∷ []) (tags ++ 0 ∷ []) f t (omega arith) (omega (arith, is)) small (omega (arith, full, o)) (omega (arith, deep)) (omega (arith, turns))

-- 8,192 objects of 1,024 cells each fill the heap
pub objects_end : (n turns : ℕ) (b : Box (Unit {0}) Heap) (v : Vec (Unit {0}) Heap) → 0 < n → n ≤ 8192 → n < turns → meaning (objects n b v) [] turns ≡ Ended []
objects_end n turns b v some few enough =
    let r = loop_ends n b v (at_most (objects n b v) turns) turns n 1 (Bits 0) [] [] turns turns (omega arith) (omega arith) (omega (arith, few)) (omega (arith, few)) enough enough in
    rw r.1 (ap Ended r.2)

pub objects_trap : (n turns : ℕ) (b : Box (Unit {0}) Heap) (v : Vec (Unit {0}) Heap) → 8192 < n → n < 8388608 → 8192 < turns → meaning (objects n b v) [] turns ≡ Trapped (Kind 10 0) []
objects_trap n turns b v many small enough =
    rw (loop_traps n b v (at_most (objects n b v) turns) turns 8192 1 (Bits 0) [] [] turns turns (omega arith) (omega (arith, many)) small (omega arith) (omega (arith, enough)) (omega (arith, enough))) refl

---- They are well-formed

pub asserts_formed : well_formed (asserts 2) ≡ true
asserts_formed = refl

pub local_arrays_formed : (v : Vec (Unit {0}) Heap) → well_formed (local_arrays 1048576 v) ≡ true
local_arrays_formed v = refl

pub recursion_formed : (b : Box (Unit {0}) Heap) (v : Vec (Unit {0}) Heap) → well_formed (recursion 8193 b v) ≡ true
recursion_formed b v = refl

pub objects_formed : (b : Box (Unit {0}) Heap) (v : Vec (Unit {0}) Heap) → well_formed (objects 8193 b v) ≡ true
unfolding data_tree record_row
objects_formed b v = refl
