-- Worked programs: their checked trees, and what holds of them. Written by bench/checked_rows.py from their texts.
use Rattle.std.specs.Prelude.{◌≡◌, [], ◌∷◌, true, false, Some, None, pos, Vec, Box}
use Rattle.std.proofs.Common.{refl, arith}
use Rattle.std.specs.Fmt.{digits}
use Rattle.std.specs.declared.alloc.Global.{Global as Heap}
use Rattle.run_laws.specs.Runs.{Ended, Going}
use Rattle.ob_types.specs.Meaning.{meaning}
use Rattle.ob_types.specs.declared.types.TypeKind.TheVariants.{Int, Char, Nothing}
use Rattle.ob_types.specs.declared.types.TypeKind.TheVariants.{Bool as BoolKind, Record as RecordKind}
use Rattle.ob_types.specs.declared.tree.Unary.TheVariants.{Negate}
use Rattle.ob_types.specs.declared.tree.Binary.TheVariants.{Div, Mod}
use Rattle.ob_types.specs.declared.tree.Relation.TheVariants.{Equal, Unequal, Greater}
use Rattle.ob_types.specs.declared.tree.Base.TheVariants.{Global}
use Rattle.ob_types.specs.declared.tree.Expr.{Literal, Load, Unary', Chain', Compare', end_of-Link, more_of-Link}
use Rattle.ob_types.specs.declared.tree.Link.{Operate, And, Or}
use Rattle.ob_types.specs.declared.tree.Designator.{Whole, Part', end_of-Selector, more_of-Selector}
use Rattle.ob_types.specs.declared.tree.Selector.{Field}
use Rattle.ob_types.specs.declared.statements.Stmt.{Assign, CopyRecord, OutChar, OutInt, If', For', end_of-Stmt, more_of-Stmt, end_of-Branch, more_of-Branch}
use Rattle.ob_types.specs.declared.program.Program.{Program}

-- the outside of a box and of a vector
abbrev Outside : Type 0 → Type 0
Outside A = Box (Unit {0}) Heap → Vec (Unit {0}) Heap → A

abbrev vec0 : Vec (Unit {0}) Heap → Vec (Unit {0}) Heap
vec0 v = record { ptr = v.ptr; len = 0; cap = 0; alloc = v.alloc; items = []; ok = (refl, omega arith); small = omega arith }

abbrev vec1 : Vec (Unit {0}) Heap → Vec (Unit {0}) Heap
vec1 v = record { ptr = v.ptr; len = 1; cap = 1; alloc = v.alloc; items = tt ∷ []; ok = (refl, omega arith); small = omega arith }

abbrev vec2 : Vec (Unit {0}) Heap → Vec (Unit {0}) Heap
vec2 v = record { ptr = v.ptr; len = 2; cap = 2; alloc = v.alloc; items = tt ∷ tt ∷ []; ok = (refl, omega arith); small = omega arith }

-- MODULE M; IMPORT Out; VAR i: INTEGER; BEGIN i := -7; Out.Int(i DIV 2, 0); Out.Int(i MOD 2, 0); Out.Int(7 DIV 2, 0) END M.
abbrev quotient : Outside Program
quotient b v = record { types = record { kinds = (Int ∷ Nothing ∷ []); records = []; signatures = [] }; modules = (record { name = []; objects = []; variables = (0 ∷ []); body = 0 } ∷ []); procedures = (record { «module» = 0; line = 1; is_body = true; formals = []; result = 1; locals = []; texts = []; body = ((Assign (Whole (Global 0 0) Int) (record { form = (Unary' Negate b (Literal 7)); kind = Int })) ∷ (OutInt (record { form = (Chain' b (Load (Whole (Global 0 0) Int)) (vec1 v) (more_of-Link (Operate Div (Literal 2)) end_of-Link)); kind = Int }) (record { form = (Literal 0); kind = Int })) ∷ (OutInt (record { form = (Chain' b (Load (Whole (Global 0 0) Int)) (vec1 v) (more_of-Link (Operate Mod (Literal 2)) end_of-Link)); kind = Int }) (record { form = (Literal 0); kind = Int })) ∷ (OutInt (record { form = (Chain' b (Literal 7) (vec1 v) (more_of-Link (Operate Div (Literal 2)) end_of-Link)); kind = Int }) (record { form = (Literal 0); kind = Int })) ∷ []); answer = None } ∷ []); imports_in = false }

pub quotient_0 : (b : Box (Unit {0}) Heap) (v : Vec (Unit {0}) Heap) → meaning (quotient b v) [] 0 ≡ Ended (45 ∷ 52 ∷ 49 ∷ 51 ∷ [])
unfolding digits
quotient_0 b v = refl

-- MODULE M; IMPORT Out; VAR i: INTEGER; BEGIN IF (i # 0) & (10 DIV i > 1) THEN Out.Char(''a'') ELSE Out.Char(''b'') END; IF (i = 0) OR (10 DIV i > 1) THEN Out.Char(''c'') END END M.
abbrev second : Outside Program
second b v = record { types = record { kinds = (Int ∷ Nothing ∷ []); records = []; signatures = [] }; modules = (record { name = []; objects = []; variables = (0 ∷ []); body = 0 } ∷ []); procedures = (record { «module» = 0; line = 1; is_body = true; formals = []; result = 1; locals = []; texts = []; body = ((If' (vec1 v) (more_of-Branch (record { form = (Chain' b (Compare' Unequal b (Load (Whole (Global 0 0) Int)) b (Literal 0)) (vec1 v) (more_of-Link (And (Compare' Greater b (Chain' b (Literal 10) (vec1 v) (more_of-Link (Operate Div (Load (Whole (Global 0 0) Int))) end_of-Link)) b (Literal 1))) end_of-Link)); kind = BoolKind }) (vec1 v) (more_of-Stmt (OutChar (record { form = (Literal 97); kind = Char })) end_of-Stmt) end_of-Branch) (vec1 v) (more_of-Stmt (OutChar (record { form = (Literal 98); kind = Char })) end_of-Stmt)) ∷ (If' (vec1 v) (more_of-Branch (record { form = (Chain' b (Compare' Equal b (Load (Whole (Global 0 0) Int)) b (Literal 0)) (vec1 v) (more_of-Link (Or (Compare' Greater b (Chain' b (Literal 10) (vec1 v) (more_of-Link (Operate Div (Load (Whole (Global 0 0) Int))) end_of-Link)) b (Literal 1))) end_of-Link)); kind = BoolKind }) (vec1 v) (more_of-Stmt (OutChar (record { form = (Literal 99); kind = Char })) end_of-Stmt) end_of-Branch) (vec0 v) end_of-Stmt) ∷ []); answer = None } ∷ []); imports_in = false }

pub second_0 : (b : Box (Unit {0}) Heap) (v : Vec (Unit {0}) Heap) → meaning (second b v) [] 0 ≡ Ended (98 ∷ 99 ∷ [])
unfolding digits
second_0 b v = refl

-- MODULE M; TYPE R = RECORD x, y: INTEGER END; VAR a, b: R; BEGIN a := b END M.
abbrev copied : Outside Program
copied b v = record { types = record { kinds = ((RecordKind 0) ∷ Nothing ∷ Int ∷ []); records = (record { «module» = 0; base = None; level = 0; fields = (record { name = []; exported = false; type_number = 2 } ∷ record { name = []; exported = false; type_number = 2 } ∷ []); cells = 2; extent = record { bytes = 16; wide = true } } ∷ []); signatures = [] }; modules = (record { name = []; objects = []; variables = (0 ∷ 0 ∷ []); body = 0 } ∷ []); procedures = (record { «module» = 0; line = 1; is_body = true; formals = []; result = 1; locals = []; texts = []; body = ((CopyRecord (Whole (Global 0 0) (RecordKind 0)) (Whole (Global 0 1) (RecordKind 0))) ∷ []); answer = None } ∷ []); imports_in = false }

pub copied_2 : (b : Box (Unit {0}) Heap) (v : Vec (Unit {0}) Heap) → meaning (copied b v) [] 2 ≡ Going []
unfolding digits
copied_2 b v = refl

pub copied_3 : (b : Box (Unit {0}) Heap) (v : Vec (Unit {0}) Heap) → meaning (copied b v) [] 3 ≡ Ended []
unfolding digits
copied_3 b v = refl

-- MODULE M; IMPORT Out; TYPE B = RECORD x: INTEGER END; E = RECORD (B) y: INTEGER END; VAR b: B; after: INTEGER; e: E; BEGIN e.x := 1; e.y := 2; b := e; Out.Int(b.x, 0); Out.Int(after, 0) END M.
abbrev projected : Outside Program
projected b v = record { types = record { kinds = ((RecordKind 0) ∷ (RecordKind 1) ∷ Int ∷ Nothing ∷ []); records = (record { «module» = 0; base = None; level = 0; fields = (record { name = []; exported = false; type_number = 2 } ∷ []); cells = 1; extent = record { bytes = 8; wide = true } } ∷ record { «module» = 0; base = (Some 0); level = 1; fields = (record { name = []; exported = false; type_number = 2 } ∷ []); cells = 2; extent = record { bytes = 16; wide = true } } ∷ []); signatures = [] }; modules = (record { name = []; objects = []; variables = (0 ∷ 2 ∷ 1 ∷ []); body = 0 } ∷ []); procedures = (record { «module» = 0; line = 1; is_body = true; formals = []; result = 3; locals = []; texts = []; body = ((Assign (Part' b (Global 0 2) Int (vec1 v) (more_of-Selector (Field 0 0) end_of-Selector)) (record { form = (Literal 1); kind = Int })) ∷ (Assign (Part' b (Global 0 2) Int (vec1 v) (more_of-Selector (Field 1 0) end_of-Selector)) (record { form = (Literal 2); kind = Int })) ∷ (CopyRecord (Whole (Global 0 0) (RecordKind 0)) (Whole (Global 0 2) (RecordKind 1))) ∷ (OutInt (record { form = (Load (Part' b (Global 0 0) Int (vec1 v) (more_of-Selector (Field 0 0) end_of-Selector))); kind = Int }) (record { form = (Literal 0); kind = Int })) ∷ (OutInt (record { form = (Load (Whole (Global 0 1) Int)); kind = Int }) (record { form = (Literal 0); kind = Int })) ∷ []); answer = None } ∷ []); imports_in = false }

pub projected_3 : (b : Box (Unit {0}) Heap) (v : Vec (Unit {0}) Heap) → meaning (projected b v) [] 3 ≡ Ended (49 ∷ 48 ∷ [])
unfolding digits
projected_3 b v = refl

pub projected_9 : (b : Box (Unit {0}) Heap) (v : Vec (Unit {0}) Heap) → meaning (projected b v) [] 9 ≡ Ended (49 ∷ 48 ∷ [])
unfolding digits
projected_9 b v = refl

-- MODULE M; IMPORT Out; VAR i, n: INTEGER; BEGIN n := 3; FOR i := 0 TO n DO n := 1; Out.Int(i, 0) END END M.
abbrev limit : Outside Program
limit b v = record { types = record { kinds = (Int ∷ Nothing ∷ []); records = []; signatures = [] }; modules = (record { name = []; objects = []; variables = (0 ∷ 0 ∷ []); body = 0 } ∷ []); procedures = (record { «module» = 0; line = 1; is_body = true; formals = []; result = 1; locals = []; texts = []; body = ((Assign (Whole (Global 0 1) Int) (record { form = (Literal 3); kind = Int })) ∷ (For' b (Whole (Global 0 0) Int) (record { form = (Literal 0); kind = Int }) (record { form = (Load (Whole (Global 0 1) Int)); kind = Int }) (pos 1) (vec2 v) (more_of-Stmt (Assign (Whole (Global 0 1) Int) (record { form = (Literal 1); kind = Int })) (more_of-Stmt (OutInt (record { form = (Load (Whole (Global 0 0) Int)); kind = Int }) (record { form = (Literal 0); kind = Int })) end_of-Stmt))) ∷ []); answer = None } ∷ []); imports_in = false }

pub limit_7 : (b : Box (Unit {0}) Heap) (v : Vec (Unit {0}) Heap) → meaning (limit b v) [] 7 ≡ Ended (48 ∷ 49 ∷ 50 ∷ 51 ∷ [])
unfolding digits
limit_7 b v = refl
