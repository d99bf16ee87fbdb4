-- Worked programs: their checked trees, and the procedures that they become. Written by bench/lowered_rows.py from their texts.
use Rattle.std.specs.Prelude.{◌≡◌, ℕ, List, [], ◌∷◌, Bool, true, false, Option, Some, None, pos, Vec, Box}
use Rattle.std.proofs.Common.{refl, arith}
use Rattle.std.specs.declared.alloc.Global.{Global as Heap}
use Rattle.block_runs.specs.declared.code.Code.{Code}
use Rattle.block_runs.specs.declared.code.Code.TheVariants.{Const as ConstOp, Global as GlobalOp, Local as LocalOp, Plus as PlusOp, Load as LoadOp, Store as StoreOp, LoadByte as LoadByteOp, StoreByte as StoreByteOp, Add as AddOp, Byte as ByteOp, NotNil as NotNilOp, GuardPtr as GuardPtrOp, New as NewOp, Call as CallOp, Copy as CopyOp, Svc as SvcOp}
use Rattle.block_runs.specs.declared.end.End.{End}
use Rattle.block_runs.specs.declared.end.End.TheVariants.{Jump, Branch, Nonzero, Return, Trap}
use Rattle.ssa_core.specs.declared.procedure.Op.{Op}
use Rattle.ssa_core.specs.declared.procedure.Block.{Block}
use Rattle.ssa_core.specs.declared.procedure.Proc.{Proc}
use Rattle.ssa_lowered.specs.Data.{packed}
use Rattle.ssa_lowered.specs.Constants.{constants}
use Rattle.ssa_lowered.specs.Lowered.{lowered}
use Rattle.ob_types.specs.declared.types.TypeKind.TheVariants.{Int, Char, Array, Nothing}
use Rattle.ob_types.specs.declared.types.TypeKind.TheVariants.{Bool as BoolKind, Byte as ByteKind, Text as TextKind, Record as RecordKind, Pointer as PointerKind}
use Rattle.ob_types.specs.declared.types.Mode.TheVariants.{Place}
use Rattle.ob_types.specs.declared.types.Mode.TheVariants.{Value as OfValue, Record as OfRecord, Open as OfOpen}
use Rattle.ob_types.specs.declared.tree.Binary.TheVariants.{Add}
use Rattle.ob_types.specs.declared.tree.Relation.TheVariants.{Equal, Less}
use Rattle.ob_types.specs.declared.tree.Base.TheVariants.{Global, Local, Parameter, Text}
use Rattle.ob_types.specs.declared.tree.Expr.{Literal, Load, Chain', Compare', Byte', Length, Call', end_of-Link, more_of-Link}
use Rattle.ob_types.specs.declared.tree.Link.{Operate, And}
use Rattle.ob_types.specs.declared.tree.Designator.{Whole, Part', end_of-Selector, more_of-Selector}
use Rattle.ob_types.specs.declared.tree.Selector.{Field, Dereference}
use Rattle.ob_types.specs.declared.tree.Call.{Direct', end_of-Argument, more_of-Argument}
use Rattle.ob_types.specs.declared.tree.Argument.{ByValue, ByPlace, ByRecord, ByOpen}
use Rattle.ob_types.specs.declared.statements.Label.TheVariants.{One, Range}
use Rattle.ob_types.specs.declared.statements.Stmt.{Assign, CopyArray, Increase, New, OutString, If', While', For', Case', end_of-Stmt, more_of-Stmt, end_of-Branch, more_of-Branch, end_of-CasePart, more_of-CasePart}
use Rattle.ob_types.specs.declared.statements.Stmt.{Call as Invoke}
use Rattle.ob_types.specs.declared.program.Program.{Program}
use Rattle.ob_types.specs.Trees.{data_tree, record_row, fields_before}

-- the outside of a box and of a vector
abbrev Outside : Type 0 → Type 0
Outside A = Box (Unit {0}) Heap → Vec (Unit {0}) Heap → A

-- procedures, blocks and operations, in few words
abbrev op : Code → List ℕ → Option ℕ → Op
op code uses def = record { code = code; uses = uses; def = def }

abbrev block : List ℕ → List Op → End → ℕ → Option ℕ → Block
block params ops end freq enter = record { params = params; ops = ops; end = end; freq = freq; enter = enter }

abbrev proc : List Block → (values args : ℕ) → Bool → (cells bytes : ℕ) → Proc
proc blocks values args counted cells bytes = record { blocks = blocks; values = values; args = args; counted = counted; local_cells = cells; local_bytes = bytes }

abbrev vec1 : Vec (Unit {0}) Heap → Vec (Unit {0}) Heap
vec1 v = record { ptr = v.ptr; len = 1; cap = 1; alloc = v.alloc; items = tt ∷ []; ok = (refl, omega arith); small = omega arith }

abbrev vec2 : Vec (Unit {0}) Heap → Vec (Unit {0}) Heap
vec2 v = record { ptr = v.ptr; len = 2; cap = 2; alloc = v.alloc; items = tt ∷ tt ∷ []; ok = (refl, omega arith); small = omega arith }

-- MODULE T; VAR y: BYTE; a, b: BOOLEAN; PROCEDURE V(VAR x: INTEGER); BEGIN x := 1 END V; PROCEDURE P(n: INTEGER): BYTE; VAR i, s, m: INTEGER; BEGIN FOR i := 1 TO n DO IF i < 3 THEN INC(s) ELSIF i = 4 THEN m := s ELSE s := i END; CASE s OF 1..3, 7: s := 2 | 9: m := 1 END END; WHILE a & b DO s := m END; V(m); RETURN s + m END P; BEGIN y := P(3) END T.
abbrev telling : Outside Program
telling b v = record { types = record { kinds = (ByteKind ∷ BoolKind ∷ Int ∷ Nothing ∷ []); records = []; signatures = [] }; modules = (record { name = []; objects = []; variables = (0 ∷ 1 ∷ 1 ∷ []); body = 2 } ∷ []); procedures = (record { «module» = 0; line = 1; is_body = false; formals = (record { mode = Place; variable = true; type_number = 2 } ∷ []); result = 3; locals = []; texts = []; body = ((Assign (Whole (Parameter 0) Int) (record { form = (Literal 1); kind = Int })) ∷ []); answer = None } ∷ record { «module» = 0; line = 1; is_body = false; formals = (record { mode = OfValue; variable = false; type_number = 2 } ∷ []); result = 0; locals = (2 ∷ 2 ∷ 2 ∷ []); texts = []; body = ((For' b (Whole (Local 1) Int) (record { form = (Literal 1); kind = Int }) (record { form = (Load (Whole (Local 0) Int)); kind = Int }) (pos 1) (vec2 v) (more_of-Stmt (If' (vec2 v) (more_of-Branch (record { form = (Compare' Less b (Load (Whole (Local 1) Int)) b (Literal 3)); kind = BoolKind }) (vec1 v) (more_of-Stmt (Increase (Whole (Local 2) Int) (record { form = (Literal 1); kind = Int })) end_of-Stmt) (more_of-Branch (record { form = (Compare' Equal b (Load (Whole (Local 1) Int)) b (Literal 4)); kind = BoolKind }) (vec1 v) (more_of-Stmt (Assign (Whole (Local 3) Int) (record { form = (Load (Whole (Local 2) Int)); kind = Int })) end_of-Stmt) end_of-Branch)) (vec1 v) (more_of-Stmt (Assign (Whole (Local 2) Int) (record { form = (Load (Whole (Local 1) Int)); kind = Int })) end_of-Stmt)) (more_of-Stmt (Case' (record { form = (Load (Whole (Local 2) Int)); kind = Int }) (vec2 v) (more_of-CasePart (Range (pos 1) (pos 3) ∷ One (pos 7) ∷ []) (vec1 v) (more_of-Stmt (Assign (Whole (Local 2) Int) (record { form = (Literal 2); kind = Int })) end_of-Stmt) (more_of-CasePart (One (pos 9) ∷ []) (vec1 v) (more_of-Stmt (Assign (Whole (Local 3) Int) (record { form = (Literal 1); kind = Int })) end_of-Stmt) end_of-CasePart))) end_of-Stmt))) ∷ (While' (vec1 v) (more_of-Branch (record { form = (Chain' b (Load (Whole (Global 0 1) BoolKind)) (vec1 v) (more_of-Link (And (Load (Whole (Global 0 2) BoolKind))) end_of-Link)); kind = BoolKind }) (vec1 v) (more_of-Stmt (Assign (Whole (Local 2) Int) (record { form = (Load (Whole (Local 3) Int)); kind = Int })) end_of-Stmt) end_of-Branch)) ∷ (Invoke (Direct' 0 (vec1 v) (more_of-Argument (ByPlace (Whole (Local 3) Int)) end_of-Argument))) ∷ []); answer = (Some (record { form = (Byte' b (Chain' b (Load (Whole (Local 2) Int)) (vec1 v) (more_of-Link (Operate Add (Load (Whole (Local 3) Int))) end_of-Link))); kind = ByteKind })) } ∷ record { «module» = 0; line = 1; is_body = true; formals = []; result = 3; locals = []; texts = []; body = ((Assign (Whole (Global 0 0) ByteKind) (record { form = (Byte' b (Call' b (Direct' 1 (vec1 v) (more_of-Argument (ByValue (Literal 3)) end_of-Argument)))); kind = ByteKind })) ∷ []); answer = None } ∷ []); imports_in = false }

abbrev telling_procs : List Proc
telling_procs = ((proc ((block (0 ∷ []) ((op (ConstOp 1) [] (Some 1)) ∷ (op StoreOp (0 ∷ 1 ∷ []) None) ∷ []) (Return None) 1048576 None) ∷ []) 2 1 true 0 0) ∷ (proc ((block (0 ∷ []) ((op (LocalOp 8) [] (Some 1)) ∷ (op (ConstOp 0) [] (Some 2)) ∷ (op StoreOp (1 ∷ 2 ∷ []) None) ∷ (op (ConstOp 0) [] (Some 3)) ∷ (op (ConstOp 0) [] (Some 4)) ∷ (op (ConstOp 1) [] (Some 5)) ∷ []) (Jump 1 (5 ∷ 4 ∷ [])) 1048576 None) ∷ (block (6 ∷ 7 ∷ []) [] (Branch 13 6 0 2 16) 8388608 (Some 0)) ∷ (block [] ((op (ConstOp 3) [] (Some 8)) ∷ []) (Branch 11 6 8 3 4) 8388608 None) ∷ (block [] ((op (ConstOp 1) [] (Some 9)) ∷ (op AddOp (7 ∷ 9 ∷ []) (Some 10)) ∷ []) (Jump 8 (10 ∷ [])) 4194304 None) ∷ (block [] ((op (ConstOp 4) [] (Some 11)) ∷ []) (Branch 0 6 11 5 6) 4194304 None) ∷ (block [] ((op (LocalOp 8) [] (Some 12)) ∷ (op StoreOp (12 ∷ 7 ∷ []) None) ∷ []) (Jump 7 (7 ∷ [])) 2097152 None) ∷ (block [] [] (Jump 7 (6 ∷ [])) 2097152 None) ∷ (block (13 ∷ []) [] (Jump 8 (13 ∷ [])) 4194304 None) ∷ (block (14 ∷ []) ((op (ConstOp 1) [] (Some 15)) ∷ []) (Branch 10 14 15 9 10) 8388608 None) ∷ (block [] ((op (ConstOp 3) [] (Some 16)) ∷ []) (Branch 13 14 16 13 10) 8388608 None) ∷ (block [] ((op (ConstOp 7) [] (Some 17)) ∷ []) (Branch 0 14 17 13 11) 8388608 None) ∷ (block [] ((op (ConstOp 9) [] (Some 18)) ∷ []) (Branch 0 14 18 14 12) 8388608 None) ∷ (block [] [] (Trap 6) 4194304 None) ∷ (block [] ((op (ConstOp 2) [] (Some 19)) ∷ []) (Jump 15 (19 ∷ [])) 4194304 None) ∷ (block [] ((op (LocalOp 8) [] (Some 20)) ∷ (op (ConstOp 1) [] (Some 21)) ∷ (op StoreOp (20 ∷ 21 ∷ []) None) ∷ []) (Jump 15 (14 ∷ [])) 4194304 None) ∷ (block (22 ∷ []) ((op (ConstOp 1) [] (Some 23)) ∷ (op AddOp (6 ∷ 23 ∷ []) (Some 24)) ∷ []) (Jump 1 (24 ∷ 22 ∷ [])) 8388608 None) ∷ (block [] [] (Jump 17 (7 ∷ [])) 1048576 None) ∷ (block (25 ∷ []) ((op (GlobalOp 16) [] (Some 26)) ∷ (op LoadByteOp (26 ∷ []) (Some 27)) ∷ []) (Nonzero 27 18 20) 8388608 (Some 16)) ∷ (block [] ((op (GlobalOp 24) [] (Some 28)) ∷ (op LoadByteOp (28 ∷ []) (Some 29)) ∷ []) (Nonzero 29 19 20) 8388608 None) ∷ (block [] ((op (LocalOp 8) [] (Some 30)) ∷ (op LoadOp (30 ∷ []) (Some 31)) ∷ []) (Jump 17 (31 ∷ [])) 8388608 None) ∷ (block [] ((op (LocalOp 8) [] (Some 32)) ∷ (op (CallOp 0) (32 ∷ []) None) ∷ (op (LocalOp 8) [] (Some 33)) ∷ (op LoadOp (33 ∷ []) (Some 34)) ∷ (op AddOp (25 ∷ 34 ∷ []) (Some 35)) ∷ (op ByteOp (35 ∷ []) None) ∷ []) (Return (Some 35)) 1048576 None) ∷ []) 36 1 true 4 8) ∷ (proc ((block [] ((op (GlobalOp 8) [] (Some 0)) ∷ (op (ConstOp 3) [] (Some 1)) ∷ (op (CallOp 1) (1 ∷ []) (Some 2)) ∷ (op ByteOp (2 ∷ []) None) ∷ (op StoreByteOp (0 ∷ 2 ∷ []) None) ∷ []) (Return None) 1048576 None) ∷ []) 3 0 false 0 0) ∷ [])

pub telling_low : (b : Box (Unit {0}) Heap) (v : Vec (Unit {0}) Heap) → lowered (telling b v) ≡ telling_procs
unfolding data_tree record_row fields_before
telling_low b v = refl

-- MODULE O; IMPORT Out; TYPE A = RECORD n: INTEGER END; B = RECORD (A) c: CHAR END; P = POINTER TO A; Q = POINTER TO B; VAR p: P; q: Q; t: ARRAY 4 OF CHAR; PROCEDURE S(x: ARRAY OF CHAR; VAR r: A); BEGIN Out.String(x); Out.String(''in''); r.n := LEN(x) END S; BEGIN NEW(q); p := q; p(Q).c := ''a''; t := ''out''; S(t, p^); S(''x'', q^) END O.
abbrev objects : Outside Program
objects b v = record { types = record { kinds = ((RecordKind 0) ∷ (RecordKind 1) ∷ (PointerKind 0) ∷ (PointerKind 1) ∷ Char ∷ (Array (Some 4) 4) ∷ (Array None 4) ∷ Nothing ∷ Int ∷ []); records = (record { «module» = 0; base = None; level = 0; fields = (record { name = []; exported = false; type_number = 8 } ∷ []); cells = 1; extent = record { bytes = 8; wide = true } } ∷ record { «module» = 0; base = (Some 0); level = 1; fields = (record { name = []; exported = false; type_number = 4 } ∷ []); cells = 2; extent = record { bytes = 16; wide = true } } ∷ []); signatures = [] }; modules = (record { name = []; objects = []; variables = (2 ∷ 3 ∷ 5 ∷ []); body = 1 } ∷ []); procedures = (record { «module» = 0; line = 1; is_body = false; formals = (record { mode = OfOpen; variable = false; type_number = 6 } ∷ record { mode = OfRecord; variable = true; type_number = 0 } ∷ []); result = 7; locals = []; texts = ((105 ∷ 110 ∷ []) ∷ []); body = ((OutString (Whole (Parameter 0) (Array None 4))) ∷ (OutString (Whole (Text 0) (TextKind 2))) ∷ (Assign (Part' b (Parameter 1) Int (vec1 v) (more_of-Selector (Field 0 0) end_of-Selector)) (record { form = (Length (Whole (Parameter 0) (Array None 4))); kind = Int })) ∷ []); answer = None } ∷ record { «module» = 0; line = 1; is_body = true; formals = []; result = 7; locals = []; texts = ((111 ∷ 117 ∷ 116 ∷ []) ∷ (120 ∷ []) ∷ []); body = ((New (Whole (Global 0 1) (PointerKind 1))) ∷ (Assign (Whole (Global 0 0) (PointerKind 0)) (record { form = (Load (Whole (Global 0 1) (PointerKind 1))); kind = (PointerKind 1) })) ∷ (Assign (Part' b (Global 0 0) Char (vec2 v) (more_of-Selector (Dereference (1 ∷ [])) (more_of-Selector (Field 1 0) end_of-Selector))) (record { form = (Literal 97); kind = Char })) ∷ (CopyArray (Whole (Global 0 2) (Array (Some 4) 4)) (Whole (Text 0) (TextKind 3))) ∷ (Invoke (Direct' 0 (vec2 v) (more_of-Argument (ByOpen (Whole (Global 0 2) (Array (Some 4) 4))) (more_of-Argument (ByRecord (Part' b (Global 0 0) (RecordKind 0) (vec1 v) (more_of-Selector (Dereference []) end_of-Selector))) end_of-Argument)))) ∷ (Invoke (Direct' 0 (vec2 v) (more_of-Argument (ByOpen (Whole (Text 1) (TextKind 1))) (more_of-Argument (ByRecord (Part' b (Global 0 1) (RecordKind 1) (vec1 v) (more_of-Selector (Dereference []) end_of-Selector))) end_of-Argument)))) ∷ []); answer = None } ∷ []); imports_in = false }

abbrev objects_procs : List Proc
objects_procs = ((proc ((block (0 ∷ 1 ∷ 2 ∷ 3 ∷ []) ((op (ConstOp 1) [] (Some 4)) ∷ (op (SvcOp 3) (0 ∷ 1 ∷ 4 ∷ []) None) ∷ (op (GlobalOp 288) [] (Some 5)) ∷ (op (ConstOp 3) [] (Some 6)) ∷ (op (ConstOp 1) [] (Some 7)) ∷ (op (SvcOp 3) (5 ∷ 6 ∷ 7 ∷ []) None) ∷ (op StoreOp (2 ∷ 1 ∷ []) None) ∷ []) (Return None) 1048576 None) ∷ []) 8 4 true 0 0) ∷ (proc ((block [] ((op (GlobalOp 16) [] (Some 0)) ∷ (op (ConstOp 3) [] (Some 1)) ∷ (op (ConstOp 24) [] (Some 2)) ∷ (op (GlobalOp 160) [] (Some 3)) ∷ (op NewOp (1 ∷ 2 ∷ 3 ∷ []) (Some 4)) ∷ (op StoreOp (0 ∷ 4 ∷ []) None) ∷ (op (GlobalOp 8) [] (Some 5)) ∷ (op (GlobalOp 16) [] (Some 6)) ∷ (op LoadOp (6 ∷ []) (Some 7)) ∷ (op StoreOp (5 ∷ 7 ∷ []) None) ∷ (op (GlobalOp 8) [] (Some 8)) ∷ (op LoadOp (8 ∷ []) (Some 9)) ∷ (op (GlobalOp 160) [] (Some 10)) ∷ (op (GuardPtrOp 1) (9 ∷ 10 ∷ []) None) ∷ (op NotNilOp (9 ∷ []) None) ∷ (op (PlusOp 16) (9 ∷ []) (Some 11)) ∷ (op (ConstOp 97) [] (Some 12)) ∷ (op StoreByteOp (11 ∷ 12 ∷ []) None) ∷ (op (GlobalOp 24) [] (Some 13)) ∷ (op (GlobalOp 296) [] (Some 14)) ∷ (op (ConstOp 4) [] (Some 15)) ∷ (op CopyOp (13 ∷ 14 ∷ 15 ∷ []) None) ∷ (op (GlobalOp 24) [] (Some 16)) ∷ (op (ConstOp 4) [] (Some 17)) ∷ (op (GlobalOp 8) [] (Some 18)) ∷ (op LoadOp (18 ∷ []) (Some 19)) ∷ (op NotNilOp (19 ∷ []) None) ∷ (op (PlusOp 8) (19 ∷ []) (Some 20)) ∷ (op LoadOp (19 ∷ []) (Some 21)) ∷ (op (CallOp 0) (16 ∷ 17 ∷ 20 ∷ 21 ∷ []) None) ∷ (op (GlobalOp 304) [] (Some 22)) ∷ (op (ConstOp 2) [] (Some 23)) ∷ (op (GlobalOp 16) [] (Some 24)) ∷ (op LoadOp (24 ∷ []) (Some 25)) ∷ (op NotNilOp (25 ∷ []) None) ∷ (op (PlusOp 8) (25 ∷ []) (Some 26)) ∷ (op LoadOp (25 ∷ []) (Some 27)) ∷ (op (CallOp 0) (22 ∷ 23 ∷ 26 ∷ 27 ∷ []) None) ∷ []) (Return None) 1048576 None) ∷ []) 28 0 false 0 0) ∷ [])

pub objects_low : (b : Box (Unit {0}) Heap) (v : Vec (Unit {0}) Heap) → lowered (objects b v) ≡ objects_procs
unfolding data_tree record_row fields_before
objects_low b v = refl

pub objects_constants : (b : Box (Unit {0}) Heap) (v : Vec (Unit {0}) Heap) → constants (objects b v) (packed (objects b v).types) 268435456 ≡ (32 ∷ 0 ∷ 0 ∷ 16 ∷ 0 ∷ 0 ∷ 0 ∷ 0 ∷ 0 ∷ 0 ∷ 0 ∷ 0 ∷ 0 ∷ 0 ∷ 0 ∷ 0 ∷ 0 ∷ 0 ∷ 0 ∷ 0 ∷ 0 ∷ 0 ∷ 0 ∷ 0 ∷ 0 ∷ 0 ∷ 0 ∷ 0 ∷ 0 ∷ 0 ∷ 0 ∷ 0 ∷ 0 ∷ 0 ∷ 0 ∷ 0 ∷ 0 ∷ 0 ∷ 0 ∷ 0 ∷ 0 ∷ 0 ∷ 0 ∷ 0 ∷ 0 ∷ 0 ∷ 0 ∷ 0 ∷ 0 ∷ 0 ∷ 0 ∷ 0 ∷ 0 ∷ 0 ∷ 0 ∷ 0 ∷ 0 ∷ 0 ∷ 0 ∷ 0 ∷ 0 ∷ 0 ∷ 0 ∷ 0 ∷ 0 ∷ 0 ∷ 0 ∷ 0 ∷ 0 ∷ 0 ∷ 0 ∷ 0 ∷ 0 ∷ 0 ∷ 0 ∷ 0 ∷ 0 ∷ 0 ∷ 0 ∷ 0 ∷ 0 ∷ 0 ∷ 0 ∷ 0 ∷ 0 ∷ 0 ∷ 0 ∷ 0 ∷ 0 ∷ 0 ∷ 0 ∷ 0 ∷ 0 ∷ 0 ∷ 0 ∷ 0 ∷ 0 ∷ 0 ∷ 0 ∷ 0 ∷ 0 ∷ 0 ∷ 0 ∷ 0 ∷ 0 ∷ 0 ∷ 0 ∷ 0 ∷ 0 ∷ 0 ∷ 0 ∷ 0 ∷ 0 ∷ 0 ∷ 0 ∷ 0 ∷ 0 ∷ 0 ∷ 0 ∷ 0 ∷ 0 ∷ 0 ∷ 0 ∷ 0 ∷ 0 ∷ 0 ∷ 0 ∷ 0 ∷ 32 ∷ 0 ∷ 0 ∷ 16 ∷ 0 ∷ 0 ∷ 0 ∷ 0 ∷ 160 ∷ 0 ∷ 0 ∷ 16 ∷ 0 ∷ 0 ∷ 0 ∷ 0 ∷ 0 ∷ 0 ∷ 0 ∷ 0 ∷ 0 ∷ 0 ∷ 0 ∷ 0 ∷ 0 ∷ 0 ∷ 0 ∷ 0 ∷ 0 ∷ 0 ∷ 0 ∷ 0 ∷ 0 ∷ 0 ∷ 0 ∷ 0 ∷ 0 ∷ 0 ∷ 0 ∷ 0 ∷ 0 ∷ 0 ∷ 0 ∷ 0 ∷ 0 ∷ 0 ∷ 0 ∷ 0 ∷ 0 ∷ 0 ∷ 0 ∷ 0 ∷ 0 ∷ 0 ∷ 0 ∷ 0 ∷ 0 ∷ 0 ∷ 0 ∷ 0 ∷ 0 ∷ 0 ∷ 0 ∷ 0 ∷ 0 ∷ 0 ∷ 0 ∷ 0 ∷ 0 ∷ 0 ∷ 0 ∷ 0 ∷ 0 ∷ 0 ∷ 0 ∷ 0 ∷ 0 ∷ 0 ∷ 0 ∷ 0 ∷ 0 ∷ 0 ∷ 0 ∷ 0 ∷ 0 ∷ 0 ∷ 0 ∷ 0 ∷ 0 ∷ 0 ∷ 0 ∷ 0 ∷ 0 ∷ 0 ∷ 0 ∷ 0 ∷ 0 ∷ 0 ∷ 0 ∷ 0 ∷ 0 ∷ 0 ∷ 0 ∷ 0 ∷ 0 ∷ 0 ∷ 0 ∷ 0 ∷ 0 ∷ 0 ∷ 0 ∷ 0 ∷ 0 ∷ 0 ∷ 0 ∷ 0 ∷ 0 ∷ 0 ∷ 0 ∷ 0 ∷ 0 ∷ 0 ∷ 0 ∷ 0 ∷ 0 ∷ 0 ∷ 0 ∷ 0 ∷ 105 ∷ 110 ∷ 0 ∷ 0 ∷ 0 ∷ 0 ∷ 0 ∷ 0 ∷ 111 ∷ 117 ∷ 116 ∷ 0 ∷ 0 ∷ 0 ∷ 0 ∷ 0 ∷ 120 ∷ 0 ∷ 0 ∷ 0 ∷ 0 ∷ 0 ∷ 0 ∷ 0 ∷ [])
unfolding data_tree record_row fields_before
objects_constants b v = refl
