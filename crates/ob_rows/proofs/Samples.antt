-- Worked programs: their checked trees, and what holds of them. Written by bench/checked_rows.py from their texts.
use Rattle.std.specs.Prelude.{◌≡◌, [], ◌∷◌, true, false, Some, None, pos, Vec, Box}
use Rattle.std.proofs.Common.{refl, arith}
use Rattle.std.specs.Fmt.{digits}
use Rattle.std.specs.declared.alloc.Global.{Global as Heap}
use Rattle.run_laws.specs.Runs.{Ended, Trapped, Going}
use Rattle.ob_types.specs.Store.{Kind}
use Rattle.ob_types.specs.Meaning.{meaning}
use Rattle.ob_types.specs.declared.types.TypeKind.TheVariants.{Int, Char, Array, Nothing}
use Rattle.ob_types.specs.declared.types.TypeKind.TheVariants.{Bool as BoolKind, Byte as ByteKind, Text as TextKind, Record as RecordKind, Pointer as PointerKind}
use Rattle.ob_types.specs.declared.types.Mode.TheVariants.{Value as OfValue, Open as OfOpen}
use Rattle.ob_types.specs.declared.tree.Unary.TheVariants.{Negate, Not}
use Rattle.ob_types.specs.declared.tree.Binary.TheVariants.{Add, Subtract, Multiply, Div, Mod}
use Rattle.ob_types.specs.declared.tree.Relation.TheVariants.{Equal, Less, Greater}
use Rattle.ob_types.specs.declared.tree.Base.TheVariants.{Done, Global, Local, Parameter, Text}
use Rattle.ob_types.specs.declared.tree.Expr.{Literal, Load, Guard', Unary', Chain', Compare', In', IsPointer', Byte', Call', end_of-Link, more_of-Link}
use Rattle.ob_types.specs.declared.tree.Link.{Operate, Element}
use Rattle.ob_types.specs.declared.tree.Designator.{Whole, Part', end_of-Selector, more_of-Selector}
use Rattle.ob_types.specs.declared.tree.Selector.{Index}
use Rattle.ob_types.specs.declared.tree.Call.{Direct', end_of-Argument, more_of-Argument}
use Rattle.ob_types.specs.declared.tree.Argument.{ByValue, ByOpen}
use Rattle.ob_types.specs.declared.statements.Label.TheVariants.{One, Range}
use Rattle.ob_types.specs.declared.statements.Stmt.{Assign, CopyArray, New, Assert, OutChar, OutInt, OutString, OutLn, InChar, If', While', Case', end_of-Stmt, more_of-Stmt, end_of-Branch, more_of-Branch, end_of-CasePart, more_of-CasePart}
use Rattle.ob_types.specs.declared.statements.Stmt.{Call as Invoke}
use Rattle.ob_types.specs.declared.program.Program.{Program}

-- the outside of a box and of a vector
abbrev Outside : Type 0 → Type 0
Outside A = Box (Unit {0}) Heap → Vec (Unit {0}) Heap → A

abbrev vec0 : Vec (Unit {0}) Heap → Vec (Unit {0}) Heap
vec0 v = record { ptr = v.ptr; len = 0; cap = 0; alloc = v.alloc; items = []; ok = (refl, omega arith); small = omega arith }

abbrev vec1 : Vec (Unit {0}) Heap → Vec (Unit {0}) Heap
vec1 v = record { ptr = v.ptr; len = 1; cap = 1; alloc = v.alloc; items = tt ∷ []; ok = (refl, omega arith); small = omega arith }

abbrev vec2 : Vec (Unit {0}) Heap → Vec (Unit {0}) Heap
vec2 v = record { ptr = v.ptr; len = 2; cap = 2; alloc = v.alloc; items = tt ∷ tt ∷ []; ok = (refl, omega arith); small = omega arith }

abbrev vec4 : Vec (Unit {0}) Heap → Vec (Unit {0}) Heap
vec4 v = record { ptr = v.ptr; len = 4; cap = 4; alloc = v.alloc; items = tt ∷ tt ∷ tt ∷ tt ∷ []; ok = (refl, omega arith); small = omega arith }

-- MODULE M; IMPORT Out; BEGIN Out.Int(6*7, 0); Out.Ln END M.
abbrev first : Outside Program
first b v = record { types = record { kinds = (Nothing ∷ []); records = []; signatures = [] }; modules = (record { name = []; objects = []; variables = []; body = 0 } ∷ []); procedures = (record { «module» = 0; line = 1; is_body = true; formals = []; result = 0; locals = []; texts = []; body = ((OutInt (record { form = (Chain' b (Literal 6) (vec1 v) (more_of-Link (Operate Multiply (Literal 7)) end_of-Link)); kind = Int }) (record { form = (Literal 0); kind = Int })) ∷ OutLn ∷ []); answer = None } ∷ []); imports_in = false }

pub first_0 : (b : Box (Unit {0}) Heap) (v : Vec (Unit {0}) Heap) → meaning (first b v) [] 0 ≡ Ended (52 ∷ 50 ∷ 10 ∷ [])
unfolding digits
first_0 b v = refl

-- MODULE M; IMPORT Out; BEGIN Out.Int((-7) DIV 2, 0); Out.Char('' ''); Out.Int((-7) MOD 2, 0) END M.
abbrev division : Outside Program
division b v = record { types = record { kinds = (Nothing ∷ []); records = []; signatures = [] }; modules = (record { name = []; objects = []; variables = []; body = 0 } ∷ []); procedures = (record { «module» = 0; line = 1; is_body = true; formals = []; result = 0; locals = []; texts = []; body = ((OutInt (record { form = (Chain' b (Unary' Negate b (Literal 7)) (vec1 v) (more_of-Link (Operate Div (Literal 2)) end_of-Link)); kind = Int }) (record { form = (Literal 0); kind = Int })) ∷ (OutChar (record { form = (Literal 32); kind = Char })) ∷ (OutInt (record { form = (Chain' b (Unary' Negate b (Literal 7)) (vec1 v) (more_of-Link (Operate Mod (Literal 2)) end_of-Link)); kind = Int }) (record { form = (Literal 0); kind = Int })) ∷ []); answer = None } ∷ []); imports_in = false }

pub division_0 : (b : Box (Unit {0}) Heap) (v : Vec (Unit {0}) Heap) → meaning (division b v) [] 0 ≡ Ended (45 ∷ 52 ∷ 32 ∷ 49 ∷ [])
unfolding digits
division_0 b v = refl

-- MODULE M; IMPORT Out; BEGIN Out.Int(7 DIV (1 - 2), 0) END M.
abbrev divisor : Outside Program
divisor b v = record { types = record { kinds = (Nothing ∷ []); records = []; signatures = [] }; modules = (record { name = []; objects = []; variables = []; body = 0 } ∷ []); procedures = (record { «module» = 0; line = 1; is_body = true; formals = []; result = 0; locals = []; texts = []; body = ((OutInt (record { form = (Chain' b (Literal 7) (vec1 v) (more_of-Link (Operate Div (Chain' b (Literal 1) (vec1 v) (more_of-Link (Operate Subtract (Literal 2)) end_of-Link))) end_of-Link)); kind = Int }) (record { form = (Literal 0); kind = Int })) ∷ []); answer = None } ∷ []); imports_in = false }

pub divisor_0 : (b : Box (Unit {0}) Heap) (v : Vec (Unit {0}) Heap) → meaning (divisor b v) [] 0 ≡ Trapped (Kind 4 0) []
unfolding digits
divisor_0 b v = refl

-- MODULE S; IMPORT Out; PROCEDURE P; VAR a, b, t, i: INTEGER; BEGIN a := 1; b := 2; i := 0; WHILE i < 3 DO t := a; a := b; b := t; i := i + 1 END; Out.Int(a, 0); Out.Int(b, 0) END P; BEGIN P END S.
abbrev swap : Outside Program
swap b v = record { types = record { kinds = (Nothing ∷ Int ∷ []); records = []; signatures = [] }; modules = (record { name = []; objects = []; variables = []; body = 1 } ∷ []); procedures = (record { «module» = 0; line = 1; is_body = false; formals = []; result = 0; locals = (1 ∷ 1 ∷ 1 ∷ 1 ∷ []); texts = []; body = ((Assign (Whole (Local 0) Int) (record { form = (Literal 1); kind = Int })) ∷ (Assign (Whole (Local 1) Int) (record { form = (Literal 2); kind = Int })) ∷ (Assign (Whole (Local 3) Int) (record { form = (Literal 0); kind = Int })) ∷ (While' (vec1 v) (more_of-Branch (record { form = (Compare' Less b (Load (Whole (Local 3) Int)) b (Literal 3)); kind = BoolKind }) (vec4 v) (more_of-Stmt (Assign (Whole (Local 2) Int) (record { form = (Load (Whole (Local 0) Int)); kind = Int })) (more_of-Stmt (Assign (Whole (Local 0) Int) (record { form = (Load (Whole (Local 1) Int)); kind = Int })) (more_of-Stmt (Assign (Whole (Local 1) Int) (record { form = (Load (Whole (Local 2) Int)); kind = Int })) (more_of-Stmt (Assign (Whole (Local 3) Int) (record { form = (Chain' b (Load (Whole (Local 3) Int)) (vec1 v) (more_of-Link (Operate Add (Literal 1)) end_of-Link)); kind = Int })) end_of-Stmt)))) end_of-Branch)) ∷ (OutInt (record { form = (Load (Whole (Local 0) Int)); kind = Int }) (record { form = (Literal 0); kind = Int })) ∷ (OutInt (record { form = (Load (Whole (Local 1) Int)); kind = Int }) (record { form = (Literal 0); kind = Int })) ∷ []); answer = None } ∷ record { «module» = 0; line = 1; is_body = true; formals = []; result = 0; locals = []; texts = []; body = ((Invoke (Direct' 0 (vec0 v) end_of-Argument)) ∷ []); answer = None } ∷ []); imports_in = false }

pub swap_3 : (b : Box (Unit {0}) Heap) (v : Vec (Unit {0}) Heap) → meaning (swap b v) [] 3 ≡ Going []
unfolding digits
swap_3 b v = refl

pub swap_9 : (b : Box (Unit {0}) Heap) (v : Vec (Unit {0}) Heap) → meaning (swap b v) [] 9 ≡ Ended (50 ∷ 49 ∷ [])
unfolding digits
swap_9 b v = refl

pub swap_10 : (b : Box (Unit {0}) Heap) (v : Vec (Unit {0}) Heap) → meaning (swap b v) [] 10 ≡ Ended (50 ∷ 49 ∷ [])
unfolding digits
swap_10 b v = refl

pub swap_100 : (b : Box (Unit {0}) Heap) (v : Vec (Unit {0}) Heap) → meaning (swap b v) [] 100 ≡ Ended (50 ∷ 49 ∷ [])
unfolding digits
swap_100 b v = refl

-- MODULE M; VAR a: ARRAY 3 OF INTEGER; i: INTEGER; BEGIN i := 2; a[i] := 1; i := 3; a[i] := 1 END M.
abbrev indexes : Outside Program
indexes b v = record { types = record { kinds = (Int ∷ (Array (Some 3) 0) ∷ Nothing ∷ []); records = []; signatures = [] }; modules = (record { name = []; objects = []; variables = (1 ∷ 0 ∷ []); body = 0 } ∷ []); procedures = (record { «module» = 0; line = 1; is_body = true; formals = []; result = 2; locals = []; texts = []; body = ((Assign (Whole (Global 0 1) Int) (record { form = (Literal 2); kind = Int })) ∷ (Assign (Part' b (Global 0 0) Int (vec1 v) (more_of-Selector (Index (Some 3) 0 (Load (Whole (Global 0 1) Int))) end_of-Selector)) (record { form = (Literal 1); kind = Int })) ∷ (Assign (Whole (Global 0 1) Int) (record { form = (Literal 3); kind = Int })) ∷ (Assign (Part' b (Global 0 0) Int (vec1 v) (more_of-Selector (Index (Some 3) 0 (Load (Whole (Global 0 1) Int))) end_of-Selector)) (record { form = (Literal 1); kind = Int })) ∷ []); answer = None } ∷ []); imports_in = false }

pub indexes_5 : (b : Box (Unit {0}) Heap) (v : Vec (Unit {0}) Heap) → meaning (indexes b v) [] 5 ≡ Trapped (Kind 1 0) []
unfolding digits
indexes_5 b v = refl

-- MODULE M; VAR a: ARRAY 3 OF INTEGER; i: INTEGER; BEGIN i := -1; a[i] := 1 END M.
abbrev negative : Outside Program
negative b v = record { types = record { kinds = (Int ∷ (Array (Some 3) 0) ∷ Nothing ∷ []); records = []; signatures = [] }; modules = (record { name = []; objects = []; variables = (1 ∷ 0 ∷ []); body = 0 } ∷ []); procedures = (record { «module» = 0; line = 1; is_body = true; formals = []; result = 2; locals = []; texts = []; body = ((Assign (Whole (Global 0 1) Int) (record { form = (Unary' Negate b (Literal 1)); kind = Int })) ∷ (Assign (Part' b (Global 0 0) Int (vec1 v) (more_of-Selector (Index (Some 3) 0 (Load (Whole (Global 0 1) Int))) end_of-Selector)) (record { form = (Literal 1); kind = Int })) ∷ []); answer = None } ∷ []); imports_in = false }

pub negative_5 : (b : Box (Unit {0}) Heap) (v : Vec (Unit {0}) Heap) → meaning (negative b v) [] 5 ≡ Trapped (Kind 1 0) []
unfolding digits
negative_5 b v = refl

-- MODULE W; BEGIN WHILE TRUE DO END END W.
abbrev forever : Outside Program
forever b v = record { types = record { kinds = (Nothing ∷ []); records = []; signatures = [] }; modules = (record { name = []; objects = []; variables = []; body = 0 } ∷ []); procedures = (record { «module» = 0; line = 1; is_body = true; formals = []; result = 0; locals = []; texts = []; body = ((While' (vec1 v) (more_of-Branch (record { form = (Literal 1); kind = BoolKind }) (vec0 v) end_of-Stmt end_of-Branch)) ∷ []); answer = None } ∷ []); imports_in = false }

pub forever_20 : (b : Box (Unit {0}) Heap) (v : Vec (Unit {0}) Heap) → meaning (forever b v) [] 20 ≡ Going []
unfolding digits
forever_20 b v = refl

-- MODULE D; IMPORT Out; PROCEDURE D(n: INTEGER); BEGIN IF n > 1 THEN D(n - 1) END END D; BEGIN Out.Char(''a''); D(20); Out.Char(''b'') END D.
abbrev depth : Outside Program
depth b v = record { types = record { kinds = (Int ∷ Nothing ∷ []); records = []; signatures = [] }; modules = (record { name = []; objects = []; variables = []; body = 1 } ∷ []); procedures = (record { «module» = 0; line = 1; is_body = false; formals = (record { mode = OfValue; variable = false; type_number = 0 } ∷ []); result = 1; locals = []; texts = []; body = ((If' (vec1 v) (more_of-Branch (record { form = (Compare' Greater b (Load (Whole (Local 0) Int)) b (Literal 1)); kind = BoolKind }) (vec1 v) (more_of-Stmt (Invoke (Direct' 0 (vec1 v) (more_of-Argument (ByValue (Chain' b (Load (Whole (Local 0) Int)) (vec1 v) (more_of-Link (Operate Subtract (Literal 1)) end_of-Link))) end_of-Argument))) end_of-Stmt) end_of-Branch) (vec0 v) end_of-Stmt) ∷ []); answer = None } ∷ record { «module» = 0; line = 1; is_body = true; formals = []; result = 1; locals = []; texts = []; body = ((OutChar (record { form = (Literal 97); kind = Char })) ∷ (Invoke (Direct' 0 (vec1 v) (more_of-Argument (ByValue (Literal 20)) end_of-Argument))) ∷ (OutChar (record { form = (Literal 98); kind = Char })) ∷ []); answer = None } ∷ []); imports_in = false }

pub depth_60 : (b : Box (Unit {0}) Heap) (v : Vec (Unit {0}) Heap) → meaning (depth b v) [] 60 ≡ Ended (97 ∷ 98 ∷ [])
unfolding digits
depth_60 b v = refl

-- MODULE G; TYPE B = RECORD END; E = RECORD (B) x: INTEGER END; F = RECORD (E) END; PB = POINTER TO B; PE = POINTER TO E; PF = POINTER TO F; VAR p: PB; e: PE; f: PF; BEGIN ASSERT(~(p IS PE)); NEW(e); p := e; e := p(PE); NEW(f); p := f; e := p(PE); ASSERT(p IS PF); NEW(p); e := p(PE) END G.
abbrev guards : Outside Program
guards b v = record { types = record { kinds = ((RecordKind 0) ∷ (RecordKind 1) ∷ (RecordKind 2) ∷ (PointerKind 0) ∷ (PointerKind 1) ∷ (PointerKind 2) ∷ Nothing ∷ Int ∷ []); records = (record { «module» = 0; base = None; level = 0; fields = []; cells = 0; extent = record { bytes = 0; wide = false } } ∷ record { «module» = 0; base = (Some 0); level = 1; fields = (record { name = []; exported = false; type_number = 7 } ∷ []); cells = 1; extent = record { bytes = 8; wide = true } } ∷ record { «module» = 0; base = (Some 1); level = 2; fields = []; cells = 1; extent = record { bytes = 8; wide = true } } ∷ []); signatures = [] }; modules = (record { name = []; objects = []; variables = (3 ∷ 4 ∷ 5 ∷ []); body = 0 } ∷ []); procedures = (record { «module» = 0; line = 1; is_body = true; formals = []; result = 6; locals = []; texts = []; body = ((Assert (record { form = (Unary' Not b (IsPointer' b (Load (Whole (Global 0 0) (PointerKind 0))) 1)); kind = BoolKind })) ∷ (New (Whole (Global 0 1) (PointerKind 1))) ∷ (Assign (Whole (Global 0 0) (PointerKind 0)) (record { form = (Load (Whole (Global 0 1) (PointerKind 1))); kind = (PointerKind 1) })) ∷ (Assign (Whole (Global 0 1) (PointerKind 1)) (record { form = (Guard' b (Whole (Global 0 0) (PointerKind 0)) (1 ∷ [])); kind = (PointerKind 1) })) ∷ (New (Whole (Global 0 2) (PointerKind 2))) ∷ (Assign (Whole (Global 0 0) (PointerKind 0)) (record { form = (Load (Whole (Global 0 2) (PointerKind 2))); kind = (PointerKind 2) })) ∷ (Assign (Whole (Global 0 1) (PointerKind 1)) (record { form = (Guard' b (Whole (Global 0 0) (PointerKind 0)) (1 ∷ [])); kind = (PointerKind 1) })) ∷ (Assert (record { form = (IsPointer' b (Load (Whole (Global 0 0) (PointerKind 0))) 2); kind = BoolKind })) ∷ (New (Whole (Global 0 0) (PointerKind 0))) ∷ (Assign (Whole (Global 0 1) (PointerKind 1)) (record { form = (Guard' b (Whole (Global 0 0) (PointerKind 0)) (1 ∷ [])); kind = (PointerKind 1) })) ∷ []); answer = None } ∷ []); imports_in = false }

pub guards_5 : (b : Box (Unit {0}) Heap) (v : Vec (Unit {0}) Heap) → meaning (guards b v) [] 5 ≡ Trapped (Kind 3 0) []
unfolding digits
guards_5 b v = refl

-- MODULE G; TYPE B = RECORD END; E = RECORD (B) x: INTEGER END; PB = POINTER TO B; PE = POINTER TO E; VAR p: PB; e: PE; BEGIN e := p(PE) END G.
abbrev nilguard : Outside Program
nilguard b v = record { types = record { kinds = ((RecordKind 0) ∷ (RecordKind 1) ∷ (PointerKind 0) ∷ (PointerKind 1) ∷ Nothing ∷ Int ∷ []); records = (record { «module» = 0; base = None; level = 0; fields = []; cells = 0; extent = record { bytes = 0; wide = false } } ∷ record { «module» = 0; base = (Some 0); level = 1; fields = (record { name = []; exported = false; type_number = 5 } ∷ []); cells = 1; extent = record { bytes = 8; wide = true } } ∷ []); signatures = [] }; modules = (record { name = []; objects = []; variables = (2 ∷ 3 ∷ []); body = 0 } ∷ []); procedures = (record { «module» = 0; line = 1; is_body = true; formals = []; result = 4; locals = []; texts = []; body = ((Assign (Whole (Global 0 1) (PointerKind 1)) (record { form = (Guard' b (Whole (Global 0 0) (PointerKind 0)) (1 ∷ [])); kind = (PointerKind 1) })) ∷ []); answer = None } ∷ []); imports_in = false }

pub nilguard_5 : (b : Box (Unit {0}) Heap) (v : Vec (Unit {0}) Heap) → meaning (nilguard b v) [] 5 ≡ Trapped (Kind 2 0) []
unfolding digits
nilguard_5 b v = refl

-- MODULE M; IMPORT Out; BEGIN Out.Int(0FFFFFFFFFFFFFFFFH, 0); Out.Int(42, 5); Out.Char(41X); Out.Int(ORD(''0''), 0) END M.
abbrev widths : Outside Program
widths b v = record { types = record { kinds = (Nothing ∷ []); records = []; signatures = [] }; modules = (record { name = []; objects = []; variables = []; body = 0 } ∷ []); procedures = (record { «module» = 0; line = 1; is_body = true; formals = []; result = 0; locals = []; texts = []; body = ((OutInt (record { form = (Literal 18446744073709551615); kind = Int }) (record { form = (Literal 0); kind = Int })) ∷ (OutInt (record { form = (Literal 42); kind = Int }) (record { form = (Literal 5); kind = Int })) ∷ (OutChar (record { form = (Literal 65); kind = Char })) ∷ (OutInt (record { form = (Literal 48); kind = Int }) (record { form = (Literal 0); kind = Int })) ∷ []); answer = None } ∷ []); imports_in = false }

pub widths_5 : (b : Box (Unit {0}) Heap) (v : Vec (Unit {0}) Heap) → meaning (widths b v) [] 5 ≡ Ended (45 ∷ 49 ∷ 32 ∷ 32 ∷ 32 ∷ 52 ∷ 50 ∷ 65 ∷ 52 ∷ 56 ∷ [])
unfolding digits
widths_5 b v = refl

-- MODULE K; IMPORT In, Out; VAR c: CHAR; BEGIN In.Char(c); WHILE In.Done DO Out.Char(c); In.Char(c) END END K.
abbrev echo : Outside Program
echo b v = record { types = record { kinds = (Char ∷ Nothing ∷ []); records = []; signatures = [] }; modules = (record { name = []; objects = []; variables = (0 ∷ []); body = 0 } ∷ []); procedures = (record { «module» = 0; line = 1; is_body = true; formals = []; result = 1; locals = []; texts = []; body = ((InChar (Whole (Global 0 0) Char)) ∷ (While' (vec1 v) (more_of-Branch (record { form = (Load (Whole Done BoolKind)); kind = BoolKind }) (vec2 v) (more_of-Stmt (OutChar (record { form = (Load (Whole (Global 0 0) Char)); kind = Char })) (more_of-Stmt (InChar (Whole (Global 0 0) Char)) end_of-Stmt)) end_of-Branch)) ∷ []); answer = None } ∷ []); imports_in = true }

pub echo_10 : (b : Box (Unit {0}) Heap) (v : Vec (Unit {0}) Heap) → meaning (echo b v) (97 ∷ 98 ∷ []) 10 ≡ Ended (97 ∷ 98 ∷ [])
unfolding digits
echo_10 b v = refl

-- MODULE A; PROCEDURE Twice*(x: INTEGER): INTEGER; BEGIN RETURN 2*x END Twice; END A. === MODULE B; IMPORT A, Out; BEGIN Out.Int(A.Twice(21), 0); Out.Ln END B.
abbrev twomodules : Outside Program
twomodules b v = record { types = record { kinds = (Int ∷ Nothing ∷ []); records = []; signatures = [] }; modules = (record { name = []; objects = []; variables = []; body = 1 } ∷ record { name = []; objects = []; variables = []; body = 2 } ∷ []); procedures = (record { «module» = 0; line = 1; is_body = false; formals = (record { mode = OfValue; variable = false; type_number = 0 } ∷ []); result = 0; locals = []; texts = []; body = []; answer = (Some (record { form = (Chain' b (Literal 2) (vec1 v) (more_of-Link (Operate Multiply (Load (Whole (Local 0) Int))) end_of-Link)); kind = Int })) } ∷ record { «module» = 0; line = 1; is_body = true; formals = []; result = 1; locals = []; texts = []; body = []; answer = None } ∷ record { «module» = 1; line = 1; is_body = true; formals = []; result = 1; locals = []; texts = []; body = ((OutInt (record { form = (Call' b (Direct' 0 (vec1 v) (more_of-Argument (ByValue (Literal 21)) end_of-Argument))); kind = Int }) (record { form = (Literal 0); kind = Int })) ∷ OutLn ∷ []); answer = None } ∷ []); imports_in = false }

pub twomodules_1 : (b : Box (Unit {0}) Heap) (v : Vec (Unit {0}) Heap) → meaning (twomodules b v) [] 1 ≡ Going []
unfolding digits
twomodules_1 b v = refl

pub twomodules_2 : (b : Box (Unit {0}) Heap) (v : Vec (Unit {0}) Heap) → meaning (twomodules b v) [] 2 ≡ Ended (52 ∷ 50 ∷ 10 ∷ [])
unfolding digits
twomodules_2 b v = refl

-- MODULE C; VAR i: INTEGER; BEGIN i := 5; CASE i OF 1: | 2..4: END END C.
abbrev casemiss : Outside Program
casemiss b v = record { types = record { kinds = (Int ∷ Nothing ∷ []); records = []; signatures = [] }; modules = (record { name = []; objects = []; variables = (0 ∷ []); body = 0 } ∷ []); procedures = (record { «module» = 0; line = 1; is_body = true; formals = []; result = 1; locals = []; texts = []; body = ((Assign (Whole (Global 0 0) Int) (record { form = (Literal 5); kind = Int })) ∷ (Case' (record { form = (Load (Whole (Global 0 0) Int)); kind = Int }) (vec2 v) (more_of-CasePart (One (pos 1) ∷ []) (vec0 v) end_of-Stmt (more_of-CasePart (Range (pos 2) (pos 4) ∷ []) (vec0 v) end_of-Stmt end_of-CasePart))) ∷ []); answer = None } ∷ []); imports_in = false }

pub casemiss_1 : (b : Box (Unit {0}) Heap) (v : Vec (Unit {0}) Heap) → meaning (casemiss b v) [] 1 ≡ Trapped (Kind 6 0) []
unfolding digits
casemiss_1 b v = refl

-- MODULE C; VAR i: INTEGER; BEGIN ASSERT(i = 0); ASSERT(i = 1) END C.
abbrev asserts : Outside Program
asserts b v = record { types = record { kinds = (Int ∷ Nothing ∷ []); records = []; signatures = [] }; modules = (record { name = []; objects = []; variables = (0 ∷ []); body = 0 } ∷ []); procedures = (record { «module» = 0; line = 1; is_body = true; formals = []; result = 1; locals = []; texts = []; body = ((Assert (record { form = (Compare' Equal b (Load (Whole (Global 0 0) Int)) b (Literal 0)); kind = BoolKind })) ∷ (Assert (record { form = (Compare' Equal b (Load (Whole (Global 0 0) Int)) b (Literal 1)); kind = BoolKind })) ∷ []); answer = None } ∷ []); imports_in = false }

pub asserts_1 : (b : Box (Unit {0}) Heap) (v : Vec (Unit {0}) Heap) → meaning (asserts b v) [] 1 ≡ Trapped (Kind 5 0) []
unfolding digits
asserts_1 b v = refl

-- MODULE C; VAR i: INTEGER; BEGIN i := 64; ASSERT(i IN {1}) END C.
abbrev sets : Outside Program
sets b v = record { types = record { kinds = (Int ∷ Nothing ∷ []); records = []; signatures = [] }; modules = (record { name = []; objects = []; variables = (0 ∷ []); body = 0 } ∷ []); procedures = (record { «module» = 0; line = 1; is_body = true; formals = []; result = 1; locals = []; texts = []; body = ((Assign (Whole (Global 0 0) Int) (record { form = (Literal 64); kind = Int })) ∷ (Assert (record { form = (In' b (Load (Whole (Global 0 0) Int)) b (Chain' b (Literal 0) (vec1 v) (more_of-Link (Element (Literal 1)) end_of-Link))); kind = BoolKind })) ∷ []); answer = None } ∷ []); imports_in = false }

pub sets_1 : (b : Box (Unit {0}) Heap) (v : Vec (Unit {0}) Heap) → meaning (sets b v) [] 1 ≡ Trapped (Kind 7 0) []
unfolding digits
sets_1 b v = refl

-- MODULE C; VAR i: INTEGER; y: BYTE; BEGIN i := 256; y := i END C.
abbrev ranges : Outside Program
ranges b v = record { types = record { kinds = (Int ∷ ByteKind ∷ Nothing ∷ []); records = []; signatures = [] }; modules = (record { name = []; objects = []; variables = (0 ∷ 1 ∷ []); body = 0 } ∷ []); procedures = (record { «module» = 0; line = 1; is_body = true; formals = []; result = 2; locals = []; texts = []; body = ((Assign (Whole (Global 0 0) Int) (record { form = (Literal 256); kind = Int })) ∷ (Assign (Whole (Global 0 1) ByteKind) (record { form = (Byte' b (Load (Whole (Global 0 0) Int))); kind = ByteKind })) ∷ []); answer = None } ∷ []); imports_in = false }

pub ranges_1 : (b : Box (Unit {0}) Heap) (v : Vec (Unit {0}) Heap) → meaning (ranges b v) [] 1 ≡ Trapped (Kind 11 0) []
unfolding digits
ranges_1 b v = refl

-- MODULE C; VAR a: ARRAY 3 OF CHAR; PROCEDURE Q(VAR s: ARRAY OF CHAR); BEGIN s := ''abc'' END Q; BEGIN Q(a) END C.
abbrev copytrap : Outside Program
copytrap b v = record { types = record { kinds = (Char ∷ (Array (Some 3) 0) ∷ (Array None 0) ∷ Nothing ∷ []); records = []; signatures = [] }; modules = (record { name = []; objects = []; variables = (1 ∷ []); body = 1 } ∷ []); procedures = (record { «module» = 0; line = 1; is_body = false; formals = (record { mode = OfOpen; variable = true; type_number = 2 } ∷ []); result = 3; locals = []; texts = ((97 ∷ 98 ∷ 99 ∷ []) ∷ []); body = ((CopyArray (Whole (Parameter 0) (Array None 0)) (Whole (Text 0) (TextKind 3))) ∷ []); answer = None } ∷ record { «module» = 0; line = 1; is_body = true; formals = []; result = 3; locals = []; texts = []; body = ((Invoke (Direct' 0 (vec1 v) (more_of-Argument (ByOpen (Whole (Global 0 0) (Array (Some 3) 0))) end_of-Argument))) ∷ []); answer = None } ∷ []); imports_in = false }

pub copytrap_9 : (b : Box (Unit {0}) Heap) (v : Vec (Unit {0}) Heap) → meaning (copytrap b v) [] 9 ≡ Trapped (Kind 12 0) []
unfolding digits
copytrap_9 b v = refl

-- MODULE C; IMPORT Out; VAR a: ARRAY 4 OF CHAR; PROCEDURE Q(VAR s: ARRAY OF CHAR); BEGIN s := ''abc'' END Q; BEGIN Q(a); Out.String(a) END C.
abbrev copyfits : Outside Program
copyfits b v = record { types = record { kinds = (Char ∷ (Array (Some 4) 0) ∷ (Array None 0) ∷ Nothing ∷ []); records = []; signatures = [] }; modules = (record { name = []; objects = []; variables = (1 ∷ []); body = 1 } ∷ []); procedures = (record { «module» = 0; line = 1; is_body = false; formals = (record { mode = OfOpen; variable = true; type_number = 2 } ∷ []); result = 3; locals = []; texts = ((97 ∷ 98 ∷ 99 ∷ []) ∷ []); body = ((CopyArray (Whole (Parameter 0) (Array None 0)) (Whole (Text 0) (TextKind 3))) ∷ []); answer = None } ∷ record { «module» = 0; line = 1; is_body = true; formals = []; result = 3; locals = []; texts = []; body = ((Invoke (Direct' 0 (vec1 v) (more_of-Argument (ByOpen (Whole (Global 0 0) (Array (Some 4) 0))) end_of-Argument))) ∷ (OutString (Whole (Global 0 0) (Array (Some 4) 0))) ∷ []); answer = None } ∷ []); imports_in = false }

pub copyfits_5 : (b : Box (Unit {0}) Heap) (v : Vec (Unit {0}) Heap) → meaning (copyfits b v) [] 5 ≡ Going []
unfolding digits
copyfits_5 b v = refl

pub copyfits_6 : (b : Box (Unit {0}) Heap) (v : Vec (Unit {0}) Heap) → meaning (copyfits b v) [] 6 ≡ Going []
unfolding digits
copyfits_6 b v = refl

pub copyfits_7 : (b : Box (Unit {0}) Heap) (v : Vec (Unit {0}) Heap) → meaning (copyfits b v) [] 7 ≡ Ended (97 ∷ 98 ∷ 99 ∷ [])
unfolding digits
copyfits_7 b v = refl

pub copyfits_8 : (b : Box (Unit {0}) Heap) (v : Vec (Unit {0}) Heap) → meaning (copyfits b v) [] 8 ≡ Ended (97 ∷ 98 ∷ 99 ∷ [])
unfolding digits
copyfits_8 b v = refl
