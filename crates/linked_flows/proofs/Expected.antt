-- Small programs as flows in traces, with results, and their frames and code words. Written by bench/linked_rows.py.
use Rattle.std.proofs.Common.{◌≡◌, List, [], ◌∷◌, map, true, false, Some, None, refl}
use Rattle.block_runs.specs.declared.code.Code.TheVariants as code
use Rattle.block_runs.specs.declared.end.End.TheVariants as end
use Rattle.lir_core.specs.declared.places.Place.TheVariants as place
use Rattle.lir_core.specs.declared.places.Line.TheVariants as line
use Rattle.placed_code.specs.Words.{frame_of}
use Rattle.placed_code.specs.Results.{all_placed}
use Rattle.placed_code.specs.Layout.{code_of}
use Rattle.linked_flows.specs.Allocations.{Cut, steps_of, all_allocated}

-- MODULE A; VAR x, y: INTEGER; PROCEDURE P(a, b, c, d, e: INTEGER; VAR f: INTEGER): INTEGER; VAR s: INTEGER; BEGIN s := 0; WHILE a > b DO s := s + c * a; a := a - d; IF a = e THEN f := f + s END END; RETURN s END P; BEGIN y := 5; x := P(y, 1, 2, 3, 4, y) DIV 3 END A.
-- linear, 4 registers
abbrev loop_0 : Cut
loop_0 = record {
  flow = record { nodes = ((record { params = (0 ∷ 1 ∷ 2 ∷ 3 ∷ []); lirs = ((record { template = code.Arg 4; uses = []; def = (Some 4); call = false }) ∷ (record { template = code.Arg 5; uses = []; def = (Some 5); call = false }) ∷ (record { template = code.Const 0; uses = []; def = (Some 6); call = false }) ∷ (record { template = code.Const 0; uses = []; def = (Some 7); call = false }) ∷ []); end = end.Jump 1 (0 ∷ 7 ∷ []); freq = 1048576; preds = []; enter = None }) ∷ (record { params = (8 ∷ 9 ∷ []); lirs = []; end = end.Branch 12 8 1 2 6; freq = 8388608; preds = (0 ∷ 5 ∷ []); enter = (Some 0) }) ∷ (record { params = []; lirs = ((record { template = code.Mul; uses = (2 ∷ 8 ∷ []); def = (Some 10); call = false }) ∷ (record { template = code.Add; uses = (9 ∷ 10 ∷ []); def = (Some 11); call = false }) ∷ (record { template = code.Sub; uses = (8 ∷ 3 ∷ []); def = (Some 12); call = false }) ∷ []); end = end.Branch 0 12 4 3 4; freq = 8388608; preds = (1 ∷ []); enter = None }) ∷ (record { params = []; lirs = ((record { template = code.Load; uses = (5 ∷ []); def = (Some 13); call = false }) ∷ (record { template = code.Add; uses = (13 ∷ 11 ∷ []); def = (Some 14); call = false }) ∷ (record { template = code.Store; uses = (5 ∷ 14 ∷ []); def = None; call = false }) ∷ []); end = end.Jump 5 []; freq = 4194304; preds = (2 ∷ []); enter = None }) ∷ (record { params = []; lirs = []; end = end.Jump 5 []; freq = 4194304; preds = (2 ∷ []); enter = None }) ∷ (record { params = []; lirs = []; end = end.Jump 1 (12 ∷ 11 ∷ []); freq = 8388608; preds = (3 ∷ 4 ∷ []); enter = None }) ∷ (record { params = []; lirs = []; end = end.Return (Some 9); freq = 1048576; preds = (1 ∷ []); enter = None }) ∷ []); values = 15; args = 6; counted = true; local_cells = 6; local_bytes = 0 };
  traces = ((record { nodes = (0 ∷ 1 ∷ 2 ∷ 3 ∷ 5 ∷ []) }) ∷ (record { nodes = (4 ∷ []) }) ∷ (record { nodes = (6 ∷ []) }) ∷ []);
  outs = ((record { trace = 0; starts = ((record { regs = ((Some 0) ∷ (Some 1) ∷ (Some 2) ∷ (Some 3) ∷ []); homed = [] }) ∷ (record { regs = ((Some 8) ∷ (Some 1) ∷ (Some 2) ∷ (Some 9) ∷ []); homed = (3 ∷ 4 ∷ 5 ∷ []) }) ∷ (record { regs = ((Some 8) ∷ (Some 1) ∷ (Some 2) ∷ (Some 9) ∷ []); homed = (3 ∷ 4 ∷ 5 ∷ []) }) ∷ (record { regs = ((Some 12) ∷ (Some 4) ∷ (Some 2) ∷ (Some 3) ∷ []); homed = (1 ∷ 3 ∷ 4 ∷ 5 ∷ 11 ∷ []) }) ∷ (record { regs = ((Some 5) ∷ None ∷ (Some 11) ∷ (Some 3) ∷ []); homed = (1 ∷ 2 ∷ 3 ∷ 4 ∷ 5 ∷ 11 ∷ 12 ∷ []) }) ∷ []); ends = ((record { regs = ((Some 0) ∷ (Some 1) ∷ (Some 2) ∷ (Some 7) ∷ []); homed = (3 ∷ 4 ∷ 5 ∷ []) }) ∷ (record { regs = ((Some 8) ∷ (Some 1) ∷ (Some 2) ∷ (Some 9) ∷ []); homed = (3 ∷ 4 ∷ 5 ∷ []) }) ∷ (record { regs = ((Some 12) ∷ (Some 4) ∷ (Some 2) ∷ (Some 3) ∷ []); homed = (1 ∷ 3 ∷ 4 ∷ 5 ∷ 11 ∷ []) }) ∷ (record { regs = ((Some 5) ∷ None ∷ (Some 11) ∷ (Some 3) ∷ []); homed = (1 ∷ 2 ∷ 3 ∷ 4 ∷ 5 ∷ 11 ∷ 12 ∷ []) }) ∷ (record { regs = ((Some 5) ∷ None ∷ (Some 11) ∷ (Some 3) ∷ []); homed = (1 ∷ 2 ∷ 3 ∷ 4 ∷ 5 ∷ 11 ∷ 12 ∷ []) }) ∷ []); lines = (((line.Store 3 3) ∷ (line.Lir 0) ∷ (line.Store 3 4) ∷ (line.Lir 1) ∷ (line.Store 3 5) ∷ (line.Lir 2) ∷ (line.Lir 3) ∷ []) ∷ [] ∷ ((line.Store 1 1) ∷ (line.Lir 0) ∷ (line.Lir 1) ∷ (line.Load 3 3) ∷ (line.Lir 2) ∷ (line.Store 1 11) ∷ (line.Load 1 4) ∷ []) ∷ ((line.Store 0 12) ∷ (line.Load 0 5) ∷ (line.Lir 0) ∷ (line.Store 2 2) ∷ (line.Load 2 11) ∷ (line.Lir 1) ∷ (line.Lir 2) ∷ []) ∷ [] ∷ []); regs = ((3 ∷ 3 ∷ 3 ∷ 3 ∷ []) ∷ (0 ∷ 1 ∷ []) ∷ (2 ∷ 0 ∷ 1 ∷ 3 ∷ 1 ∷ 1 ∷ 0 ∷ 3 ∷ 0 ∷ 0 ∷ 1 ∷ []) ∷ (0 ∷ 1 ∷ 1 ∷ 2 ∷ 1 ∷ 0 ∷ 1 ∷ []) ∷ [] ∷ []) }) ∷ (record { trace = 1; starts = ((record { regs = ((Some 12) ∷ (Some 4) ∷ (Some 2) ∷ (Some 3) ∷ []); homed = (1 ∷ 3 ∷ 4 ∷ 5 ∷ 11 ∷ []) }) ∷ []); ends = ((record { regs = ((Some 12) ∷ (Some 4) ∷ (Some 2) ∷ (Some 3) ∷ []); homed = (1 ∷ 3 ∷ 4 ∷ 5 ∷ 11 ∷ []) }) ∷ []); lines = ([] ∷ []); regs = ([] ∷ []) }) ∷ (record { trace = 2; starts = ((record { regs = (None ∷ None ∷ None ∷ (Some 9) ∷ []); homed = [] }) ∷ []); ends = ((record { regs = (None ∷ None ∷ None ∷ (Some 9) ∷ []); homed = [] }) ∷ []); lines = ([] ∷ []); regs = ((3 ∷ []) ∷ []) }) ∷ []);
}

abbrev loop_1 : Cut
loop_1 = record {
  flow = record { nodes = ((record { params = []; lirs = ((record { template = code.Global 16; uses = []; def = (Some 0); call = false }) ∷ (record { template = code.Const 5; uses = []; def = (Some 1); call = false }) ∷ (record { template = code.Store; uses = (0 ∷ 1 ∷ []); def = None; call = false }) ∷ (record { template = code.Global 8; uses = []; def = (Some 2); call = false }) ∷ (record { template = code.Global 16; uses = []; def = (Some 3); call = false }) ∷ (record { template = code.Load; uses = (3 ∷ []); def = (Some 4); call = false }) ∷ (record { template = code.Const 1; uses = []; def = (Some 5); call = false }) ∷ (record { template = code.Const 2; uses = []; def = (Some 6); call = false }) ∷ (record { template = code.Const 3; uses = []; def = (Some 7); call = false }) ∷ (record { template = code.Const 4; uses = []; def = (Some 8); call = false }) ∷ (record { template = code.Global 16; uses = []; def = (Some 9); call = false }) ∷ (record { template = code.Call 0; uses = (4 ∷ 5 ∷ 6 ∷ 7 ∷ 8 ∷ 9 ∷ []); def = (Some 10); call = true }) ∷ (record { template = code.Const 3; uses = []; def = (Some 11); call = false }) ∷ (record { template = code.Div; uses = (10 ∷ 11 ∷ []); def = (Some 12); call = false }) ∷ (record { template = code.Store; uses = (2 ∷ 12 ∷ []); def = None; call = false }) ∷ []); end = end.Return None; freq = 1048576; preds = []; enter = None }) ∷ []); values = 13; args = 0; counted = false; local_cells = 0; local_bytes = 0 };
  traces = ((record { nodes = (0 ∷ []) }) ∷ []);
  outs = ((record { trace = 0; starts = ((record { regs = (None ∷ None ∷ None ∷ None ∷ []); homed = [] }) ∷ []); ends = ((record { regs = (None ∷ None ∷ None ∷ None ∷ []); homed = [] }) ∷ []); lines = (((line.Lir 0) ∷ (line.Lir 1) ∷ (line.Lir 2) ∷ (line.Lir 3) ∷ (line.Lir 4) ∷ (line.Lir 5) ∷ (line.Lir 6) ∷ (line.Lir 7) ∷ (line.Store 0 2) ∷ (line.Lir 8) ∷ (line.Store 0 7) ∷ (line.Lir 9) ∷ (line.Store 0 8) ∷ (line.Lir 10) ∷ (line.Moves ((record { to = (place.Reg 0); from = (place.Reg 1) }) ∷ (record { to = (place.Reg 1); from = (place.Reg 2) }) ∷ (record { to = (place.Reg 2); from = (place.Reg 3) }) ∷ (record { to = (place.Reg 3); from = (place.Home 7) }) ∷ (record { to = (place.Out 0); from = (place.Home 8) }) ∷ (record { to = (place.Out 1); from = (place.Reg 0) }) ∷ [])) ∷ (line.Lir 11) ∷ (line.Lir 12) ∷ (line.Lir 13) ∷ (line.Load 1 2) ∷ (line.Lir 14) ∷ []) ∷ []); regs = ((0 ∷ 1 ∷ 0 ∷ 1 ∷ 0 ∷ 1 ∷ 1 ∷ 1 ∷ 2 ∷ 3 ∷ 0 ∷ 0 ∷ 0 ∷ 1 ∷ 0 ∷ 1 ∷ 0 ∷ 1 ∷ 0 ∷ []) ∷ []) }) ∷ []);
}

abbrev loop : List Cut
loop = loop_0 ∷ loop_1 ∷ []

loop_frames : map frame_of (all_placed steps_of (all_allocated loop)) ≡ 64 ∷ 48 ∷ []
loop_frames = refl

loop_words : code_of (all_placed steps_of (all_allocated loop)) ≡ 2483028062 ∷ 3556769793 ∷ 3531603971 ∷ 2432704612 ∷ 3942776991 ∷ 1409286312 ∷ 4167264293 ∷ 4163069957 ∷ 2852389859 ∷ 402653178 ∷ 3942776959 ∷ 1409286306 ∷ 946038821 ∷ 941844485 ∷ 2432697443 ∷ 402653179 ∷ 3596551104 ∷ 3531603971 ∷ 3942711423 ∷ 1409286274 ∷ 4163069983 ∷ 2432704611 ∷ 402653180 ∷ 3596551104 ∷ 3531603972 ∷ 3531603973 ∷ 3531603974 ∷ 3942711455 ∷ 1409286210 ∷ 946104325 ∷ 3942842527 ∷ 1409286210 ∷ 946104390 ∷ 3943039167 ∷ 1409286273 ∷ 3019898981 ∷ 2432697476 ∷ 402653172 ∷ 3406168224 ∷ 3596551104 ∷ 3036676180 ∷ 3558867200 ∷ 3506439828 ∷ 3510633471 ∷ 3506504703 ∷ 4177527806 ∷ 3531604176 ∷ 3943695103 ∷ 1409286210 ∷ 3558867232 ∷ 3406824183 ∷ 4177530851 ∷ 4181730275 ∷ 4177531875 ∷ 4181731299 ∷ 4177532899 ∷ 3531603971 ∷ 3531603971 ∷ 3942711327 ∷ 1409287021 ∷ 4177528801 ∷ 2600500289 ∷ 2332098657 ∷ 4181725155 ∷ 3405971456 ∷ 4177533921 ∷ 4181726177 ∷ 3942711327 ∷ 1409286561 ∷ 4177534944 ∷ 4181727200 ∷ 4181721089 ∷ 4177529826 ∷ 4181728226 ∷ 2332164129 ∷ 4177526785 ∷ 4181729248 ∷ 4181723105 ∷ 2852258787 ∷ 4181724130 ∷ 402653162 ∷ 4177529826 ∷ 4181728226 ∷ 4177534944 ∷ 4181727200 ∷ 402653175 ∷ 2852324320 ∷ 4181722110 ∷ 2436891647 ∷ 2432762879 ∷ 3531604176 ∷ 2333082359 ∷ 2432698004 ∷ 3596551104 ∷ 3510633471 ∷ 3506488319 ∷ 4177529854 ∷ 2436891392 ∷ 2432712704 ∷ 3531604129 ∷ 4177526785 ∷ 2436891392 ∷ 2432704512 ∷ 2436891393 ∷ 2432712737 ∷ 4181721121 ∷ 3531604002 ∷ 3531604035 ∷ 4177530848 ∷ 3531604064 ∷ 4177531872 ∷ 3531604096 ∷ 4177532896 ∷ 2436891392 ∷ 2432712704 ∷ 4181727217 ∷ 4177527793 ∷ 4177528800 ∷ 2852193248 ∷ 2852258785 ∷ 2852324322 ∷ 4181726179 ∷ 2550136750 ∷ 3531604065 ∷ 4043309119 ∷ 1409286220 ∷ 3558867072 ∷ 2596342800 ∷ 2600567313 ∷ 2341600768 ∷ 4181725153 ∷ 4177526816 ∷ 4181724158 ∷ 2436891647 ∷ 2432746495 ∷ 3596551104 ∷ []
loop_words = refl

-- MODULE B; TYPE T = POINTER TO TD; TD = RECORD a: INTEGER END; U = POINTER TO UD; UD = RECORD (TD) b: INTEGER END; F = PROCEDURE (x: INTEGER): INTEGER; VAR t: T; u: U; f: F; s: SET; n: INTEGER; c, d: ARRAY 8 OF CHAR; done: BOOLEAN; PROCEDURE Q(x: INTEGER): INTEGER; VAR k: ARRAY 3 OF INTEGER; BEGIN k[x MOD 3] := x; RETURN k[1] END Q; BEGIN NEW(u); t := u; f := Q; n := f(7) MOD 5; s := {1, n .. 9}; done := (3 IN s) & (c = d); c := d; IF t IS U THEN n := t(U).b ELSIF n < 0 THEN n := ABS(n) END; IF ~done THEN n := n * 2 END END B.
-- linear, 4 registers
abbrev types_0 : Cut
types_0 = record {
  flow = record { nodes = ((record { params = (0 ∷ []); lirs = ((record { template = code.Local 24; uses = []; def = (Some 1); call = false }) ∷ (record { template = code.Const 24; uses = []; def = (Some 2); call = false }) ∷ (record { template = code.Zero; uses = (1 ∷ 2 ∷ []); def = None; call = true }) ∷ (record { template = code.Local 24; uses = []; def = (Some 3); call = false }) ∷ (record { template = code.Const 3; uses = []; def = (Some 4); call = false }) ∷ (record { template = code.Mod; uses = (0 ∷ 4 ∷ []); def = (Some 5); call = false }) ∷ (record { template = code.Const 3; uses = []; def = (Some 6); call = false }) ∷ (record { template = code.Below; uses = (5 ∷ 6 ∷ []); def = None; call = false }) ∷ (record { template = code.Const 8; uses = []; def = (Some 7); call = false }) ∷ (record { template = code.MulAdd; uses = (5 ∷ 7 ∷ 3 ∷ []); def = (Some 8); call = false }) ∷ (record { template = code.Store; uses = (8 ∷ 0 ∷ []); def = None; call = false }) ∷ (record { template = code.Local 24; uses = []; def = (Some 9); call = false }) ∷ (record { template = code.Const 1; uses = []; def = (Some 10); call = false }) ∷ (record { template = code.Const 3; uses = []; def = (Some 11); call = false }) ∷ (record { template = code.Below; uses = (10 ∷ 11 ∷ []); def = None; call = false }) ∷ (record { template = code.Const 8; uses = []; def = (Some 12); call = false }) ∷ (record { template = code.MulAdd; uses = (10 ∷ 12 ∷ 9 ∷ []); def = (Some 13); call = false }) ∷ (record { template = code.Load; uses = (13 ∷ []); def = (Some 14); call = false }) ∷ []); end = end.Return (Some 14); freq = 1048576; preds = []; enter = None }) ∷ []); values = 15; args = 1; counted = true; local_cells = 4; local_bytes = 24 };
  traces = ((record { nodes = (0 ∷ []) }) ∷ []);
  outs = ((record { trace = 0; starts = ((record { regs = ((Some 0) ∷ None ∷ None ∷ None ∷ []); homed = [] }) ∷ []); ends = ((record { regs = ((Some 14) ∷ None ∷ None ∷ None ∷ []); homed = [] }) ∷ []); lines = (((line.Lir 0) ∷ (line.Lir 1) ∷ (line.Store 0 0) ∷ (line.Moves ((record { to = (place.Reg 0); from = (place.Reg 1) }) ∷ (record { to = (place.Reg 1); from = (place.Reg 2) }) ∷ [])) ∷ (line.Lir 2) ∷ (line.Lir 3) ∷ (line.Lir 4) ∷ (line.Load 2 0) ∷ (line.Lir 5) ∷ (line.Lir 6) ∷ (line.Lir 7) ∷ (line.Lir 8) ∷ (line.Lir 9) ∷ (line.Lir 10) ∷ (line.Lir 11) ∷ (line.Lir 12) ∷ (line.Lir 13) ∷ (line.Lir 14) ∷ (line.Lir 15) ∷ (line.Lir 16) ∷ (line.Lir 17) ∷ []) ∷ []); regs = ((1 ∷ 2 ∷ 0 ∷ 1 ∷ 2 ∷ 1 ∷ 1 ∷ 3 ∷ 1 ∷ 3 ∷ 3 ∷ 1 ∷ 3 ∷ 0 ∷ 0 ∷ 0 ∷ 2 ∷ 0 ∷ 1 ∷ 2 ∷ 1 ∷ 2 ∷ 2 ∷ 1 ∷ 2 ∷ 0 ∷ 0 ∷ 0 ∷ 0 ∷ 0 ∷ []) ∷ []) }) ∷ []);
}

abbrev types_1 : Cut
types_1 = record {
  flow = record { nodes = ((record { params = []; lirs = ((record { template = code.Global 16; uses = []; def = (Some 0); call = false }) ∷ (record { template = code.Const 3; uses = []; def = (Some 1); call = false }) ∷ (record { template = code.Const 24; uses = []; def = (Some 2); call = false }) ∷ (record { template = code.Global 200; uses = []; def = (Some 3); call = false }) ∷ (record { template = code.New; uses = (1 ∷ 2 ∷ 3 ∷ []); def = (Some 4); call = false }) ∷ (record { template = code.Store; uses = (0 ∷ 4 ∷ []); def = None; call = false }) ∷ (record { template = code.Global 8; uses = []; def = (Some 5); call = false }) ∷ (record { template = code.Global 16; uses = []; def = (Some 6); call = false }) ∷ (record { template = code.Load; uses = (6 ∷ []); def = (Some 7); call = false }) ∷ (record { template = code.Store; uses = (5 ∷ 7 ∷ []); def = None; call = false }) ∷ (record { template = code.Global 24; uses = []; def = (Some 8); call = false }) ∷ (record { template = code.Code 0; uses = []; def = (Some 9); call = false }) ∷ (record { template = code.Store; uses = (8 ∷ 9 ∷ []); def = None; call = false }) ∷ (record { template = code.Global 40; uses = []; def = (Some 10); call = false }) ∷ (record { template = code.Global 24; uses = []; def = (Some 11); call = false }) ∷ (record { template = code.Load; uses = (11 ∷ []); def = (Some 12); call = false }) ∷ (record { template = code.Const 7; uses = []; def = (Some 13); call = false }) ∷ (record { template = code.NotNil; uses = (12 ∷ []); def = None; call = false }) ∷ (record { template = code.CallAt; uses = (12 ∷ 13 ∷ []); def = (Some 14); call = true }) ∷ (record { template = code.Const 5; uses = []; def = (Some 15); call = false }) ∷ (record { template = code.Mod; uses = (14 ∷ 15 ∷ []); def = (Some 16); call = false }) ∷ (record { template = code.Store; uses = (10 ∷ 16 ∷ []); def = None; call = false }) ∷ (record { template = code.Global 32; uses = []; def = (Some 17); call = false }) ∷ (record { template = code.Const 0; uses = []; def = (Some 18); call = false }) ∷ (record { template = code.Const 1; uses = []; def = (Some 19); call = false }) ∷ (record { template = code.Elem; uses = (19 ∷ []); def = None; call = false }) ∷ (record { template = code.Bit; uses = (19 ∷ []); def = (Some 20); call = false }) ∷ (record { template = code.Or; uses = (18 ∷ 20 ∷ []); def = (Some 21); call = false }) ∷ (record { template = code.Global 40; uses = []; def = (Some 22); call = false }) ∷ (record { template = code.Load; uses = (22 ∷ []); def = (Some 23); call = false }) ∷ (record { template = code.Elem; uses = (23 ∷ []); def = None; call = false }) ∷ (record { template = code.Const 9; uses = []; def = (Some 24); call = false }) ∷ (record { template = code.Elem; uses = (24 ∷ []); def = None; call = false }) ∷ (record { template = code.Span; uses = (23 ∷ 24 ∷ []); def = (Some 25); call = false }) ∷ (record { template = code.Or; uses = (21 ∷ 25 ∷ []); def = (Some 26); call = false }) ∷ (record { template = code.Store; uses = (17 ∷ 26 ∷ []); def = None; call = false }) ∷ (record { template = code.Global 64; uses = []; def = (Some 27); call = false }) ∷ (record { template = code.Const 3; uses = []; def = (Some 28); call = false }) ∷ (record { template = code.Elem; uses = (28 ∷ []); def = None; call = false }) ∷ (record { template = code.Global 32; uses = []; def = (Some 29); call = false }) ∷ (record { template = code.Load; uses = (29 ∷ []); def = (Some 30); call = false }) ∷ (record { template = code.Has; uses = (28 ∷ 30 ∷ []); def = (Some 31); call = false }) ∷ []); end = end.Nonzero 31 1 14; freq = 1048576; preds = []; enter = None }) ∷ (record { params = []; lirs = ((record { template = code.Global 48; uses = []; def = (Some 32); call = false }) ∷ (record { template = code.Const 8; uses = []; def = (Some 33); call = false }) ∷ (record { template = code.Global 56; uses = []; def = (Some 34); call = false }) ∷ (record { template = code.Const 8; uses = []; def = (Some 35); call = false }) ∷ (record { template = code.Compare; uses = (32 ∷ 33 ∷ 34 ∷ 35 ∷ []); def = (Some 36); call = true }) ∷ (record { template = code.Const 0; uses = []; def = (Some 37); call = false }) ∷ (record { template = code.Set 0; uses = (36 ∷ 37 ∷ []); def = (Some 38); call = false }) ∷ []); end = end.Nonzero 38 2 15; freq = 1048576; preds = (0 ∷ []); enter = None }) ∷ (record { params = []; lirs = ((record { template = code.Const 1; uses = []; def = (Some 39); call = false }) ∷ []); end = end.Jump 4 (39 ∷ []); freq = 524288; preds = (1 ∷ []); enter = None }) ∷ (record { params = []; lirs = ((record { template = code.Const 0; uses = []; def = (Some 40); call = false }) ∷ []); end = end.Jump 4 (40 ∷ []); freq = 524288; preds = (14 ∷ 15 ∷ []); enter = None }) ∷ (record { params = (41 ∷ []); lirs = ((record { template = code.StoreByte; uses = (27 ∷ 41 ∷ []); def = None; call = false }) ∷ (record { template = code.Global 48; uses = []; def = (Some 42); call = false }) ∷ (record { template = code.Global 56; uses = []; def = (Some 43); call = false }) ∷ (record { template = code.Const 8; uses = []; def = (Some 44); call = false }) ∷ (record { template = code.Copy; uses = (42 ∷ 43 ∷ 44 ∷ []); def = None; call = true }) ∷ (record { template = code.Global 8; uses = []; def = (Some 45); call = false }) ∷ (record { template = code.Load; uses = (45 ∷ []); def = (Some 46); call = false }) ∷ (record { template = code.Global 200; uses = []; def = (Some 47); call = false }) ∷ (record { template = code.IsPtr 1; uses = (46 ∷ 47 ∷ []); def = (Some 48); call = false }) ∷ []); end = end.Nonzero 48 5 6; freq = 1048576; preds = (2 ∷ 3 ∷ []); enter = None }) ∷ (record { params = []; lirs = ((record { template = code.Global 40; uses = []; def = (Some 49); call = false }) ∷ (record { template = code.Global 8; uses = []; def = (Some 50); call = false }) ∷ (record { template = code.Load; uses = (50 ∷ []); def = (Some 51); call = false }) ∷ (record { template = code.Global 200; uses = []; def = (Some 52); call = false }) ∷ (record { template = code.GuardPtr 1; uses = (51 ∷ 52 ∷ []); def = None; call = false }) ∷ (record { template = code.NotNil; uses = (51 ∷ []); def = None; call = false }) ∷ (record { template = code.Plus 16; uses = (51 ∷ []); def = (Some 53); call = false }) ∷ (record { template = code.Load; uses = (53 ∷ []); def = (Some 54); call = false }) ∷ (record { template = code.Store; uses = (49 ∷ 54 ∷ []); def = None; call = false }) ∷ []); end = end.Jump 10 []; freq = 524288; preds = (4 ∷ []); enter = None }) ∷ (record { params = []; lirs = ((record { template = code.Global 40; uses = []; def = (Some 55); call = false }) ∷ (record { template = code.Load; uses = (55 ∷ []); def = (Some 56); call = false }) ∷ (record { template = code.Const 0; uses = []; def = (Some 57); call = false }) ∷ []); end = end.Branch 11 56 57 7 8; freq = 524288; preds = (4 ∷ []); enter = None }) ∷ (record { params = []; lirs = ((record { template = code.Global 40; uses = []; def = (Some 58); call = false }) ∷ (record { template = code.Global 40; uses = []; def = (Some 59); call = false }) ∷ (record { template = code.Load; uses = (59 ∷ []); def = (Some 60); call = false }) ∷ (record { template = code.Abs; uses = (60 ∷ []); def = (Some 61); call = false }) ∷ (record { template = code.Store; uses = (58 ∷ 61 ∷ []); def = None; call = false }) ∷ []); end = end.Jump 9 []; freq = 262144; preds = (6 ∷ []); enter = None }) ∷ (record { params = []; lirs = []; end = end.Jump 9 []; freq = 262144; preds = (6 ∷ []); enter = None }) ∷ (record { params = []; lirs = []; end = end.Jump 10 []; freq = 524288; preds = (7 ∷ 8 ∷ []); enter = None }) ∷ (record { params = []; lirs = ((record { template = code.Global 64; uses = []; def = (Some 62); call = false }) ∷ (record { template = code.LoadByte; uses = (62 ∷ []); def = (Some 63); call = false }) ∷ []); end = end.Nonzero 63 12 11; freq = 1048576; preds = (5 ∷ 9 ∷ []); enter = None }) ∷ (record { params = []; lirs = ((record { template = code.Global 40; uses = []; def = (Some 64); call = false }) ∷ (record { template = code.Global 40; uses = []; def = (Some 65); call = false }) ∷ (record { template = code.Load; uses = (65 ∷ []); def = (Some 66); call = false }) ∷ (record { template = code.Const 2; uses = []; def = (Some 67); call = false }) ∷ (record { template = code.Mul; uses = (66 ∷ 67 ∷ []); def = (Some 68); call = false }) ∷ (record { template = code.Store; uses = (64 ∷ 68 ∷ []); def = None; call = false }) ∷ []); end = end.Jump 13 []; freq = 524288; preds = (10 ∷ []); enter = None }) ∷ (record { params = []; lirs = []; end = end.Jump 13 []; freq = 524288; preds = (10 ∷ []); enter = None }) ∷ (record { params = []; lirs = []; end = end.Return None; freq = 1048576; preds = (11 ∷ 12 ∷ []); enter = None }) ∷ (record { params = []; lirs = []; end = end.Jump 3 []; freq = 524288; preds = (0 ∷ []); enter = None }) ∷ (record { params = []; lirs = []; end = end.Jump 3 []; freq = 524288; preds = (1 ∷ []); enter = None }) ∷ []); values = 69; args = 0; counted = false; local_cells = 0; local_bytes = 0 };
  traces = ((record { nodes = (0 ∷ 1 ∷ 2 ∷ 4 ∷ 5 ∷ 10 ∷ 11 ∷ 13 ∷ []) }) ∷ (record { nodes = (14 ∷ 3 ∷ []) }) ∷ (record { nodes = (6 ∷ 7 ∷ 9 ∷ []) }) ∷ (record { nodes = (12 ∷ []) }) ∷ (record { nodes = (15 ∷ []) }) ∷ (record { nodes = (8 ∷ []) }) ∷ []);
  outs = ((record { trace = 0; starts = ((record { regs = (None ∷ None ∷ None ∷ None ∷ []); homed = [] }) ∷ (record { regs = ((Some 27) ∷ None ∷ None ∷ None ∷ []); homed = [] }) ∷ (record { regs = (None ∷ None ∷ None ∷ None ∷ []); homed = (27 ∷ []) }) ∷ (record { regs = ((Some 41) ∷ None ∷ None ∷ None ∷ []); homed = (27 ∷ []) }) ∷ (record { regs = (None ∷ None ∷ None ∷ None ∷ []); homed = [] }) ∷ (record { regs = (None ∷ None ∷ None ∷ None ∷ []); homed = [] }) ∷ (record { regs = (None ∷ None ∷ None ∷ None ∷ []); homed = [] }) ∷ (record { regs = (None ∷ None ∷ None ∷ None ∷ []); homed = [] }) ∷ []); ends = ((record { regs = ((Some 27) ∷ (Some 31) ∷ None ∷ None ∷ []); homed = [] }) ∷ (record { regs = ((Some 38) ∷ None ∷ None ∷ None ∷ []); homed = (27 ∷ []) }) ∷ (record { regs = ((Some 39) ∷ None ∷ None ∷ None ∷ []); homed = (27 ∷ []) }) ∷ (record { regs = ((Some 48) ∷ None ∷ None ∷ None ∷ []); homed = [] }) ∷ (record { regs = (None ∷ None ∷ None ∷ None ∷ []); homed = [] }) ∷ (record { regs = ((Some 63) ∷ None ∷ None ∷ None ∷ []); homed = [] }) ∷ (record { regs = (None ∷ None ∷ None ∷ None ∷ []); homed = [] }) ∷ (record { regs = (None ∷ None ∷ None ∷ None ∷ []); homed = [] }) ∷ []); lines = (((line.Lir 0) ∷ (line.Lir 1) ∷ (line.Lir 2) ∷ (line.Lir 3) ∷ (line.Lir 4) ∷ (line.Lir 5) ∷ (line.Lir 6) ∷ (line.Lir 7) ∷ (line.Lir 8) ∷ (line.Lir 9) ∷ (line.Lir 10) ∷ (line.Lir 11) ∷ (line.Lir 12) ∷ (line.Lir 13) ∷ (line.Lir 14) ∷ (line.Lir 15) ∷ (line.Lir 16) ∷ (line.Lir 17) ∷ (line.Store 0 10) ∷ (line.Target (place.Reg 1)) ∷ (line.Moves ((record { to = (place.Reg 0); from = (place.Reg 2) }) ∷ [])) ∷ (line.Lir 18) ∷ (line.Lir 19) ∷ (line.Lir 20) ∷ (line.Load 1 10) ∷ (line.Lir 21) ∷ (line.Lir 22) ∷ (line.Lir 23) ∷ (line.Lir 24) ∷ (line.Lir 25) ∷ (line.Lir 26) ∷ (line.Lir 27) ∷ (line.Lir 28) ∷ (line.Lir 29) ∷ (line.Lir 30) ∷ (line.Lir 31) ∷ (line.Lir 32) ∷ (line.Lir 33) ∷ (line.Lir 34) ∷ (line.Lir 35) ∷ (line.Lir 36) ∷ (line.Lir 37) ∷ (line.Lir 38) ∷ (line.Lir 39) ∷ (line.Lir 40) ∷ (line.Lir 41) ∷ []) ∷ ((line.Lir 0) ∷ (line.Lir 1) ∷ (line.Lir 2) ∷ (line.Store 0 27) ∷ (line.Lir 3) ∷ (line.Moves ((record { to = (place.Reg 0); from = (place.Reg 1) }) ∷ (record { to = (place.Reg 1); from = (place.Reg 2) }) ∷ (record { to = (place.Reg 2); from = (place.Reg 3) }) ∷ (record { to = (place.Reg 3); from = (place.Reg 0) }) ∷ [])) ∷ (line.Lir 4) ∷ (line.Lir 5) ∷ (line.Lir 6) ∷ []) ∷ ((line.Lir 0) ∷ []) ∷ ((line.Load 1 27) ∷ (line.Lir 0) ∷ (line.Lir 1) ∷ (line.Lir 2) ∷ (line.Lir 3) ∷ (line.Moves ((record { to = (place.Reg 0); from = (place.Reg 0) }) ∷ (record { to = (place.Reg 1); from = (place.Reg 1) }) ∷ (record { to = (place.Reg 2); from = (place.Reg 2) }) ∷ [])) ∷ (line.Lir 4) ∷ (line.Lir 5) ∷ (line.Lir 6) ∷ (line.Lir 7) ∷ (line.Lir 8) ∷ []) ∷ ((line.Lir 0) ∷ (line.Lir 1) ∷ (line.Lir 2) ∷ (line.Lir 3) ∷ (line.Lir 4) ∷ (line.Lir 5) ∷ (line.Lir 6) ∷ (line.Lir 7) ∷ (line.Lir 8) ∷ []) ∷ ((line.Lir 0) ∷ (line.Lir 1) ∷ []) ∷ ((line.Lir 0) ∷ (line.Lir 1) ∷ (line.Lir 2) ∷ (line.Lir 3) ∷ (line.Lir 4) ∷ (line.Lir 5) ∷ []) ∷ [] ∷ []); regs = ((0 ∷ 1 ∷ 2 ∷ 3 ∷ 1 ∷ 2 ∷ 3 ∷ 1 ∷ 0 ∷ 1 ∷ 0 ∷ 1 ∷ 1 ∷ 1 ∷ 0 ∷ 1 ∷ 0 ∷ 1 ∷ 0 ∷ 1 ∷ 0 ∷ 1 ∷ 1 ∷ 1 ∷ 2 ∷ 1 ∷ 1 ∷ 0 ∷ 1 ∷ 0 ∷ 1 ∷ 0 ∷ 0 ∷ 1 ∷ 2 ∷ 2 ∷ 2 ∷ 2 ∷ 1 ∷ 2 ∷ 1 ∷ 2 ∷ 2 ∷ 2 ∷ 2 ∷ 3 ∷ 3 ∷ 2 ∷ 3 ∷ 2 ∷ 1 ∷ 2 ∷ 1 ∷ 0 ∷ 1 ∷ 0 ∷ 1 ∷ 1 ∷ 2 ∷ 2 ∷ 2 ∷ 1 ∷ 2 ∷ 1 ∷ 1 ∷ []) ∷ (1 ∷ 2 ∷ 3 ∷ 0 ∷ 1 ∷ 0 ∷ 1 ∷ 0 ∷ 0 ∷ []) ∷ (0 ∷ []) ∷ (1 ∷ 0 ∷ 0 ∷ 1 ∷ 2 ∷ 0 ∷ 0 ∷ 0 ∷ 1 ∷ 0 ∷ 1 ∷ 0 ∷ 0 ∷ []) ∷ (0 ∷ 1 ∷ 1 ∷ 1 ∷ 2 ∷ 1 ∷ 2 ∷ 1 ∷ 1 ∷ 1 ∷ 1 ∷ 1 ∷ 0 ∷ 1 ∷ []) ∷ (0 ∷ 0 ∷ 0 ∷ 0 ∷ []) ∷ (0 ∷ 1 ∷ 1 ∷ 1 ∷ 2 ∷ 1 ∷ 2 ∷ 1 ∷ 0 ∷ 1 ∷ []) ∷ [] ∷ []) }) ∷ (record { trace = 1; starts = ((record { regs = ((Some 27) ∷ None ∷ None ∷ None ∷ []); homed = [] }) ∷ (record { regs = ((Some 27) ∷ None ∷ None ∷ None ∷ []); homed = [] }) ∷ []); ends = ((record { regs = ((Some 27) ∷ None ∷ None ∷ None ∷ []); homed = [] }) ∷ (record { regs = ((Some 27) ∷ (Some 40) ∷ None ∷ None ∷ []); homed = [] }) ∷ []); lines = ([] ∷ ((line.Lir 0) ∷ []) ∷ []); regs = ([] ∷ (1 ∷ []) ∷ []) }) ∷ (record { trace = 2; starts = ((record { regs = (None ∷ None ∷ None ∷ None ∷ []); homed = [] }) ∷ (record { regs = (None ∷ None ∷ None ∷ None ∷ []); homed = [] }) ∷ (record { regs = (None ∷ None ∷ None ∷ None ∷ []); homed = [] }) ∷ []); ends = ((record { regs = ((Some 56) ∷ (Some 57) ∷ None ∷ None ∷ []); homed = [] }) ∷ (record { regs = (None ∷ None ∷ None ∷ None ∷ []); homed = [] }) ∷ (record { regs = (None ∷ None ∷ None ∷ None ∷ []); homed = [] }) ∷ []); lines = (((line.Lir 0) ∷ (line.Lir 1) ∷ (line.Lir 2) ∷ []) ∷ ((line.Lir 0) ∷ (line.Lir 1) ∷ (line.Lir 2) ∷ (line.Lir 3) ∷ (line.Lir 4) ∷ []) ∷ [] ∷ []); regs = ((0 ∷ 0 ∷ 0 ∷ 1 ∷ 0 ∷ 1 ∷ []) ∷ (0 ∷ 1 ∷ 1 ∷ 1 ∷ 1 ∷ 1 ∷ 0 ∷ 1 ∷ []) ∷ [] ∷ []) }) ∷ (record { trace = 3; starts = ((record { regs = (None ∷ None ∷ None ∷ None ∷ []); homed = [] }) ∷ []); ends = ((record { regs = (None ∷ None ∷ None ∷ None ∷ []); homed = [] }) ∷ []); lines = ([] ∷ []); regs = ([] ∷ []) }) ∷ (record { trace = 4; starts = ((record { regs = (None ∷ None ∷ None ∷ None ∷ []); homed = (27 ∷ []) }) ∷ []); ends = ((record { regs = (None ∷ None ∷ None ∷ None ∷ []); homed = (27 ∷ []) }) ∷ []); lines = ([] ∷ []); regs = ([] ∷ []) }) ∷ (record { trace = 5; starts = ((record { regs = (None ∷ None ∷ None ∷ None ∷ []); homed = [] }) ∷ []); ends = ((record { regs = (None ∷ None ∷ None ∷ None ∷ []); homed = [] }) ∷ []); lines = ([] ∷ []); regs = ([] ∷ []) }) ∷ []);
}

abbrev types : List Cut
types = types_0 ∷ types_1 ∷ []

types_frames : map frame_of (all_placed steps_of (all_allocated types)) ≡ 16 ∷ 24 ∷ []
types_frames = refl

types_words : code_of (all_placed steps_of (all_allocated types)) ≡ 2483028066 ∷ 3556769793 ∷ 3531603971 ∷ 2432704612 ∷ 3942776991 ∷ 1409286312 ∷ 4167264293 ∷ 4163069957 ∷ 2852389859 ∷ 402653178 ∷ 3942776959 ∷ 1409286306 ∷ 946038821 ∷ 941844485 ∷ 2432697443 ∷ 402653179 ∷ 3596551104 ∷ 3531603971 ∷ 3942711423 ∷ 1409286274 ∷ 4163069983 ∷ 2432704611 ∷ 402653180 ∷ 3596551104 ∷ 3531603972 ∷ 3531603973 ∷ 3531603974 ∷ 3942711455 ∷ 1409286210 ∷ 946104325 ∷ 3942842527 ∷ 1409286210 ∷ 946104390 ∷ 3943039167 ∷ 1409286273 ∷ 3019898981 ∷ 2432697476 ∷ 402653172 ∷ 3406168224 ∷ 3596551104 ∷ 3036676180 ∷ 3558867200 ∷ 3506439828 ∷ 3510633471 ∷ 3506455551 ∷ 4177527806 ∷ 3531604112 ∷ 3943695103 ∷ 1409286210 ∷ 3558867232 ∷ 3406824183 ∷ 2436891251 ∷ 2432721523 ∷ 3510633057 ∷ 3506462753 ∷ 3531604738 ∷ 4177528800 ∷ 2852193248 ∷ 2852258785 ∷ 2550136790 ∷ 3510633056 ∷ 3506462720 ∷ 3531604065 ∷ 4181723106 ∷ 4043309119 ∷ 1409286220 ∷ 3558867072 ∷ 2596342864 ∷ 2600569360 ∷ 2324757553 ∷ 2333147649 ∷ 3531604067 ∷ 3942842431 ∷ 1409286211 ∷ 3558866976 ∷ 3531604227 ∷ 2600665120 ∷ 4177526786 ∷ 3510633056 ∷ 3506462720 ∷ 3531604001 ∷ 3531604066 ∷ 3942776895 ∷ 1409286211 ∷ 3558866976 ∷ 3531604226 ∷ 2600599584 ∷ 4181721088 ∷ 2852127712 ∷ 4181722110 ∷ 2436891647 ∷ 2432713727 ∷ 3510633075 ∷ 3506463347 ∷ 3531604112 ∷ 2333082359 ∷ 2432698004 ∷ 3596551104 ∷ 3510633471 ∷ 3506463743 ∷ 4177527806 ∷ 2436891392 ∷ 2432712704 ∷ 3531604065 ∷ 3531604738 ∷ 2436891395 ∷ 2432901219 ∷ 3942712031 ∷ 1409286210 ∷ 3558867264 ∷ 3405841110 ∷ 4177527459 ∷ 2853503984 ∷ 2332164789 ∷ 2853176289 ∷ 4177526785 ∷ 2436891392 ∷ 2432704512 ∷ 2436891393 ∷ 2432712737 ∷ 4181721121 ∷ 4177526785 ∷ 2436891392 ∷ 2432720896 ∷ 3531609089 ∷ 4070572065 ∷ 4177526785 ∷ 2436891392 ∷ 2432737280 ∷ 2436891393 ∷ 2432720929 ∷ 4181721121 ∷ 3531604194 ∷ 3036676161 ∷ 3558867008 ∷ 4177528800 ∷ 2852193273 ∷ 2852258784 ∷ 3594453792 ∷ 3531604129 ∷ 4043309119 ∷ 1409286220 ∷ 3558867072 ∷ 2596342800 ∷ 2600567312 ∷ 2324757553 ∷ 2333147648 ∷ 4181723105 ∷ 4177526816 ∷ 2436891392 ∷ 2432729088 ∷ 3531603969 ∷ 3531604002 ∷ 4043373663 ∷ 1409286217 ∷ 3558867168 ∷ 3531604016 ∷ 2596413954 ∷ 2852257825 ∷ 2436891394 ∷ 2432737346 ∷ 4181721154 ∷ 4043373663 ∷ 1409286217 ∷ 3558867168 ∷ 3531604259 ∷ 4043373695 ∷ 1409286217 ∷ 3558867168 ∷ 2457862160 ∷ 2596413968 ∷ 3531606001 ∷ 3405972017 ∷ 2457862146 ∷ 2597397570 ∷ 2316304450 ∷ 2852257825 ∷ 4177526785 ∷ 2436891392 ∷ 2432761856 ∷ 3531604065 ∷ 4043373631 ∷ 1409286217 ∷ 3558867168 ∷ 2436891394 ∷ 2432729154 ∷ 4181721154 ∷ 2596349008 ∷ 3531604017 ∷ 2316370433 ∷ 3019901281 ∷ 2436891393 ∷ 2432745505 ∷ 3531604226 ∷ 2436891395 ∷ 2432753763 ∷ 4177529824 ∷ 3531604224 ∷ 2852127728 ∷ 2852193248 ∷ 2852258785 ∷ 2852324322 ∷ 2853176291 ∷ 2550136653 ∷ 3531603969 ∷ 3942711327 ∷ 2594117600 ∷ 3019901376 ∷ 3531604000 ∷ 4181724129 ∷ 956301344 ∷ 2436891392 ∷ 2432745472 ∷ 2436891393 ∷ 2432753697 ∷ 3531604226 ∷ 2550136618 ∷ 2436891392 ∷ 2432704512 ∷ 4181721088 ∷ 2436891393 ∷ 2432901153 ∷ 3531603984 ∷ 3019898976 ∷ 4181721104 ∷ 4181722640 ∷ 3942711839 ∷ 2594117600 ∷ 3019900192 ∷ 2436891392 ∷ 2432737280 ∷ 2436891393 ∷ 2432704545 ∷ 4181721121 ∷ 2436891394 ∷ 2432901186 ∷ 3036676161 ∷ 3558867008 ∷ 4181721136 ∷ 4181722640 ∷ 3942777375 ∷ 1409286208 ∷ 3558867040 ∷ 3036676161 ∷ 3558867008 ∷ 2436890657 ∷ 2432712737 ∷ 4181721121 ∷ 4177526785 ∷ 2436891392 ∷ 2432761856 ∷ 960495616 ∷ 3036677120 ∷ 2436891392 ∷ 2432737280 ∷ 2436891393 ∷ 2432737313 ∷ 4181721121 ∷ 3531604034 ∷ 2600631329 ∷ 4177526785 ∷ 4181722110 ∷ 2436891647 ∷ 2432721919 ∷ 3596551104 ∷ 3531603969 ∷ 4177529824 ∷ 2852193248 ∷ 402653125 ∷ 2436891392 ∷ 2432737280 ∷ 4181721088 ∷ 3531603969 ∷ 3942711327 ∷ 1409286570 ∷ 2436891392 ∷ 2432737280 ∷ 2436891393 ∷ 2432737313 ∷ 4181721121 ∷ 4043309119 ∷ 3665929249 ∷ 4177526785 ∷ 402653150 ∷ 402653161 ∷ 4181724128 ∷ 402653163 ∷ 402653180 ∷ []
types_words = refl

-- MODULE B; TYPE T = POINTER TO TD; TD = RECORD a: INTEGER END; U = POINTER TO UD; UD = RECORD (TD) b: INTEGER END; F = PROCEDURE (x: INTEGER): INTEGER; VAR t: T; u: U; f: F; s: SET; n: INTEGER; c, d: ARRAY 8 OF CHAR; done: BOOLEAN; PROCEDURE Q(x: INTEGER): INTEGER; VAR k: ARRAY 3 OF INTEGER; BEGIN k[x MOD 3] := x; RETURN k[1] END Q; BEGIN NEW(u); t := u; f := Q; n := f(7) MOD 5; s := {1, n .. 9}; done := (3 IN s) & (c = d); c := d; IF t IS U THEN n := t(U).b ELSIF n < 0 THEN n := ABS(n) END; IF ~done THEN n := n * 2 END END B.
-- plain, 4 registers
abbrev homes_0 : Cut
homes_0 = record {
  flow = record { nodes = ((record { params = (0 ∷ []); lirs = ((record { template = code.Local 24; uses = []; def = (Some 1); call = false }) ∷ (record { template = code.Const 24; uses = []; def = (Some 2); call = false }) ∷ (record { template = code.Zero; uses = (1 ∷ 2 ∷ []); def = None; call = true }) ∷ (record { template = code.Local 24; uses = []; def = (Some 3); call = false }) ∷ (record { template = code.Const 3; uses = []; def = (Some 4); call = false }) ∷ (record { template = code.Mod; uses = (0 ∷ 4 ∷ []); def = (Some 5); call = false }) ∷ (record { template = code.Const 3; uses = []; def = (Some 6); call = false }) ∷ (record { template = code.Below; uses = (5 ∷ 6 ∷ []); def = None; call = false }) ∷ (record { template = code.Const 8; uses = []; def = (Some 7); call = false }) ∷ (record { template = code.MulAdd; uses = (5 ∷ 7 ∷ 3 ∷ []); def = (Some 8); call = false }) ∷ (record { template = code.Store; uses = (8 ∷ 0 ∷ []); def = None; call = false }) ∷ (record { template = code.Local 24; uses = []; def = (Some 9); call = false }) ∷ (record { template = code.Const 1; uses = []; def = (Some 10); call = false }) ∷ (record { template = code.Const 3; uses = []; def = (Some 11); call = false }) ∷ (record { template = code.Below; uses = (10 ∷ 11 ∷ []); def = None; call = false }) ∷ (record { template = code.Const 8; uses = []; def = (Some 12); call = false }) ∷ (record { template = code.MulAdd; uses = (10 ∷ 12 ∷ 9 ∷ []); def = (Some 13); call = false }) ∷ (record { template = code.Load; uses = (13 ∷ []); def = (Some 14); call = false }) ∷ []); end = end.Return (Some 14); freq = 1048576; preds = []; enter = None }) ∷ []); values = 15; args = 1; counted = true; local_cells = 4; local_bytes = 24 };
  traces = ((record { nodes = (0 ∷ []) }) ∷ []);
  outs = ((record { trace = 0; starts = ((record { regs = (None ∷ None ∷ None ∷ None ∷ []); homed = (0 ∷ []) }) ∷ []); ends = ((record { regs = (None ∷ None ∷ None ∷ None ∷ []); homed = (14 ∷ []) }) ∷ []); lines = (((line.Lir 0) ∷ (line.Store 0 1) ∷ (line.Lir 1) ∷ (line.Store 0 2) ∷ (line.Moves ((record { to = (place.Reg 0); from = (place.Home 1) }) ∷ (record { to = (place.Reg 1); from = (place.Home 2) }) ∷ [])) ∷ (line.Lir 2) ∷ (line.Lir 3) ∷ (line.Store 0 3) ∷ (line.Lir 4) ∷ (line.Store 0 4) ∷ (line.Load 0 0) ∷ (line.Load 1 4) ∷ (line.Lir 5) ∷ (line.Store 0 5) ∷ (line.Lir 6) ∷ (line.Store 0 6) ∷ (line.Load 0 5) ∷ (line.Load 1 6) ∷ (line.Lir 7) ∷ (line.Lir 8) ∷ (line.Store 0 7) ∷ (line.Load 0 5) ∷ (line.Load 1 7) ∷ (line.Load 2 3) ∷ (line.Lir 9) ∷ (line.Store 0 8) ∷ (line.Load 0 8) ∷ (line.Load 1 0) ∷ (line.Lir 10) ∷ (line.Lir 11) ∷ (line.Store 0 9) ∷ (line.Lir 12) ∷ (line.Store 0 10) ∷ (line.Lir 13) ∷ (line.Store 0 11) ∷ (line.Load 0 10) ∷ (line.Load 1 11) ∷ (line.Lir 14) ∷ (line.Lir 15) ∷ (line.Store 0 12) ∷ (line.Load 0 10) ∷ (line.Load 1 12) ∷ (line.Load 2 9) ∷ (line.Lir 16) ∷ (line.Store 0 13) ∷ (line.Load 0 13) ∷ (line.Lir 17) ∷ (line.Store 0 14) ∷ (line.Load 0 14) ∷ []) ∷ []); regs = ((0 ∷ 0 ∷ 0 ∷ 0 ∷ 0 ∷ 1 ∷ 0 ∷ 0 ∷ 0 ∷ 1 ∷ 0 ∷ 0 ∷ 1 ∷ 2 ∷ 0 ∷ 0 ∷ 1 ∷ 0 ∷ 0 ∷ 0 ∷ 0 ∷ 1 ∷ 0 ∷ 0 ∷ 1 ∷ 2 ∷ 0 ∷ 0 ∷ 0 ∷ 0 ∷ []) ∷ []) }) ∷ []);
}

abbrev homes_1 : Cut
homes_1 = record {
  flow = record { nodes = ((record { params = []; lirs = ((record { template = code.Global 16; uses = []; def = (Some 0); call = false }) ∷ (record { template = code.Const 3; uses = []; def = (Some 1); call = false }) ∷ (record { template = code.Const 24; uses = []; def = (Some 2); call = false }) ∷ (record { template = code.Global 200; uses = []; def = (Some 3); call = false }) ∷ (record { template = code.New; uses = (1 ∷ 2 ∷ 3 ∷ []); def = (Some 4); call = false }) ∷ (record { template = code.Store; uses = (0 ∷ 4 ∷ []); def = None; call = false }) ∷ (record { template = code.Global 8; uses = []; def = (Some 5); call = false }) ∷ (record { template = code.Global 16; uses = []; def = (Some 6); call = false }) ∷ (record { template = code.Load; uses = (6 ∷ []); def = (Some 7); call = false }) ∷ (record { template = code.Store; uses = (5 ∷ 7 ∷ []); def = None; call = false }) ∷ (record { template = code.Global 24; uses = []; def = (Some 8); call = false }) ∷ (record { template = code.Code 0; uses = []; def = (Some 9); call = false }) ∷ (record { template = code.Store; uses = (8 ∷ 9 ∷ []); def = None; call = false }) ∷ (record { template = code.Global 40; uses = []; def = (Some 10); call = false }) ∷ (record { template = code.Global 24; uses = []; def = (Some 11); call = false }) ∷ (record { template = code.Load; uses = (11 ∷ []); def = (Some 12); call = false }) ∷ (record { template = code.Const 7; uses = []; def = (Some 13); call = false }) ∷ (record { template = code.NotNil; uses = (12 ∷ []); def = None; call = false }) ∷ (record { template = code.CallAt; uses = (12 ∷ 13 ∷ []); def = (Some 14); call = true }) ∷ (record { template = code.Const 5; uses = []; def = (Some 15); call = false }) ∷ (record { template = code.Mod; uses = (14 ∷ 15 ∷ []); def = (Some 16); call = false }) ∷ (record { template = code.Store; uses = (10 ∷ 16 ∷ []); def = None; call = false }) ∷ (record { template = code.Global 32; uses = []; def = (Some 17); call = false }) ∷ (record { template = code.Const 0; uses = []; def = (Some 18); call = false }) ∷ (record { template = code.Const 1; uses = []; def = (Some 19); call = false }) ∷ (record { template = code.Elem; uses = (19 ∷ []); def = None; call = false }) ∷ (record { template = code.Bit; uses = (19 ∷ []); def = (Some 20); call = false }) ∷ (record { template = code.Or; uses = (18 ∷ 20 ∷ []); def = (Some 21); call = false }) ∷ (record { template = code.Global 40; uses = []; def = (Some 22); call = false }) ∷ (record { template = code.Load; uses = (22 ∷ []); def = (Some 23); call = false }) ∷ (record { template = code.Elem; uses = (23 ∷ []); def = None; call = false }) ∷ (record { template = code.Const 9; uses = []; def = (Some 24); call = false }) ∷ (record { template = code.Elem; uses = (24 ∷ []); def = None; call = false }) ∷ (record { template = code.Span; uses = (23 ∷ 24 ∷ []); def = (Some 25); call = false }) ∷ (record { template = code.Or; uses = (21 ∷ 25 ∷ []); def = (Some 26); call = false }) ∷ (record { template = code.Store; uses = (17 ∷ 26 ∷ []); def = None; call = false }) ∷ (record { template = code.Global 64; uses = []; def = (Some 27); call = false }) ∷ (record { template = code.Const 3; uses = []; def = (Some 28); call = false }) ∷ (record { template = code.Elem; uses = (28 ∷ []); def = None; call = false }) ∷ (record { template = code.Global 32; uses = []; def = (Some 29); call = false }) ∷ (record { template = code.Load; uses = (29 ∷ []); def = (Some 30); call = false }) ∷ (record { template = code.Has; uses = (28 ∷ 30 ∷ []); def = (Some 31); call = false }) ∷ []); end = end.Nonzero 31 1 14; freq = 1048576; preds = []; enter = None }) ∷ (record { params = []; lirs = ((record { template = code.Global 48; uses = []; def = (Some 32); call = false }) ∷ (record { template = code.Const 8; uses = []; def = (Some 33); call = false }) ∷ (record { template = code.Global 56; uses = []; def = (Some 34); call = false }) ∷ (record { template = code.Const 8; uses = []; def = (Some 35); call = false }) ∷ (record { template = code.Compare; uses = (32 ∷ 33 ∷ 34 ∷ 35 ∷ []); def = (Some 36); call = true }) ∷ (record { template = code.Const 0; uses = []; def = (Some 37); call = false }) ∷ (record { template = code.Set 0; uses = (36 ∷ 37 ∷ []); def = (Some 38); call = false }) ∷ []); end = end.Nonzero 38 2 15; freq = 1048576; preds = (0 ∷ []); enter = None }) ∷ (record { params = []; lirs = ((record { template = code.Const 1; uses = []; def = (Some 39); call = false }) ∷ []); end = end.Jump 4 (39 ∷ []); freq = 524288; preds = (1 ∷ []); enter = None }) ∷ (record { params = []; lirs = ((record { template = code.Const 0; uses = []; def = (Some 40); call = false }) ∷ []); end = end.Jump 4 (40 ∷ []); freq = 524288; preds = (14 ∷ 15 ∷ []); enter = None }) ∷ (record { params = (41 ∷ []); lirs = ((record { template = code.StoreByte; uses = (27 ∷ 41 ∷ []); def = None; call = false }) ∷ (record { template = code.Global 48; uses = []; def = (Some 42); call = false }) ∷ (record { template = code.Global 56; uses = []; def = (Some 43); call = false }) ∷ (record { template = code.Const 8; uses = []; def = (Some 44); call = false }) ∷ (record { template = code.Copy; uses = (42 ∷ 43 ∷ 44 ∷ []); def = None; call = true }) ∷ (record { template = code.Global 8; uses = []; def = (Some 45); call = false }) ∷ (record { template = code.Load; uses = (45 ∷ []); def = (Some 46); call = false }) ∷ (record { template = code.Global 200; uses = []; def = (Some 47); call = false }) ∷ (record { template = code.IsPtr 1; uses = (46 ∷ 47 ∷ []); def = (Some 48); call = false }) ∷ []); end = end.Nonzero 48 5 6; freq = 1048576; preds = (2 ∷ 3 ∷ []); enter = None }) ∷ (record { params = []; lirs = ((record { template = code.Global 40; uses = []; def = (Some 49); call = false }) ∷ (record { template = code.Global 8; uses = []; def = (Some 50); call = false }) ∷ (record { template = code.Load; uses = (50 ∷ []); def = (Some 51); call = false }) ∷ (record { template = code.Global 200; uses = []; def = (Some 52); call = false }) ∷ (record { template = code.GuardPtr 1; uses = (51 ∷ 52 ∷ []); def = None; call = false }) ∷ (record { template = code.NotNil; uses = (51 ∷ []); def = None; call = false }) ∷ (record { template = code.Plus 16; uses = (51 ∷ []); def = (Some 53); call = false }) ∷ (record { template = code.Load; uses = (53 ∷ []); def = (Some 54); call = false }) ∷ (record { template = code.Store; uses = (49 ∷ 54 ∷ []); def = None; call = false }) ∷ []); end = end.Jump 10 []; freq = 524288; preds = (4 ∷ []); enter = None }) ∷ (record { params = []; lirs = ((record { template = code.Global 40; uses = []; def = (Some 55); call = false }) ∷ (record { template = code.Load; uses = (55 ∷ []); def = (Some 56); call = false }) ∷ (record { template = code.Const 0; uses = []; def = (Some 57); call = false }) ∷ []); end = end.Branch 11 56 57 7 8; freq = 524288; preds = (4 ∷ []); enter = None }) ∷ (record { params = []; lirs = ((record { template = code.Global 40; uses = []; def = (Some 58); call = false }) ∷ (record { template = code.Global 40; uses = []; def = (Some 59); call = false }) ∷ (record { template = code.Load; uses = (59 ∷ []); def = (Some 60); call = false }) ∷ (record { template = code.Abs; uses = (60 ∷ []); def = (Some 61); call = false }) ∷ (record { template = code.Store; uses = (58 ∷ 61 ∷ []); def = None; call = false }) ∷ []); end = end.Jump 9 []; freq = 262144; preds = (6 ∷ []); enter = None }) ∷ (record { params = []; lirs = []; end = end.Jump 9 []; freq = 262144; preds = (6 ∷ []); enter = None }) ∷ (record { params = []; lirs = []; end = end.Jump 10 []; freq = 524288; preds = (7 ∷ 8 ∷ []); enter = None }) ∷ (record { params = []; lirs = ((record { template = code.Global 64; uses = []; def = (Some 62); call = false }) ∷ (record { template = code.LoadByte; uses = (62 ∷ []); def = (Some 63); call = false }) ∷ []); end = end.Nonzero 63 12 11; freq = 1048576; preds = (5 ∷ 9 ∷ []); enter = None }) ∷ (record { params = []; lirs = ((record { template = code.Global 40; uses = []; def = (Some 64); call = false }) ∷ (record { template = code.Global 40; uses = []; def = (Some 65); call = false }) ∷ (record { template = code.Load; uses = (65 ∷ []); def = (Some 66); call = false }) ∷ (record { template = code.Const 2; uses = []; def = (Some 67); call = false }) ∷ (record { template = code.Mul; uses = (66 ∷ 67 ∷ []); def = (Some 68); call = false }) ∷ (record { template = code.Store; uses = (64 ∷ 68 ∷ []); def = None; call = false }) ∷ []); end = end.Jump 13 []; freq = 524288; preds = (10 ∷ []); enter = None }) ∷ (record { params = []; lirs = []; end = end.Jump 13 []; freq = 524288; preds = (10 ∷ []); enter = None }) ∷ (record { params = []; lirs = []; end = end.Return None; freq = 1048576; preds = (11 ∷ 12 ∷ []); enter = None }) ∷ (record { params = []; lirs = []; end = end.Jump 3 []; freq = 524288; preds = (0 ∷ []); enter = None }) ∷ (record { params = []; lirs = []; end = end.Jump 3 []; freq = 524288; preds = (1 ∷ []); enter = None }) ∷ []); values = 69; args = 0; counted = false; local_cells = 0; local_bytes = 0 };
  traces = ((record { nodes = (0 ∷ 1 ∷ 2 ∷ 4 ∷ 5 ∷ 10 ∷ 11 ∷ 13 ∷ []) }) ∷ (record { nodes = (14 ∷ 3 ∷ []) }) ∷ (record { nodes = (6 ∷ 7 ∷ 9 ∷ []) }) ∷ (record { nodes = (12 ∷ []) }) ∷ (record { nodes = (15 ∷ []) }) ∷ (record { nodes = (8 ∷ []) }) ∷ []);
  outs = ((record { trace = 0; starts = ((record { regs = (None ∷ None ∷ None ∷ None ∷ []); homed = [] }) ∷ (record { regs = (None ∷ None ∷ None ∷ None ∷ []); homed = (27 ∷ []) }) ∷ (record { regs = (None ∷ None ∷ None ∷ None ∷ []); homed = (27 ∷ []) }) ∷ (record { regs = (None ∷ None ∷ None ∷ None ∷ []); homed = (27 ∷ 41 ∷ []) }) ∷ (record { regs = (None ∷ None ∷ None ∷ None ∷ []); homed = [] }) ∷ (record { regs = (None ∷ None ∷ None ∷ None ∷ []); homed = [] }) ∷ (record { regs = (None ∷ None ∷ None ∷ None ∷ []); homed = [] }) ∷ (record { regs = (None ∷ None ∷ None ∷ None ∷ []); homed = [] }) ∷ []); ends = ((record { regs = (None ∷ None ∷ None ∷ None ∷ []); homed = (27 ∷ 31 ∷ []) }) ∷ (record { regs = (None ∷ None ∷ None ∷ None ∷ []); homed = (27 ∷ 38 ∷ []) }) ∷ (record { regs = (None ∷ None ∷ None ∷ None ∷ []); homed = (27 ∷ 39 ∷ []) }) ∷ (record { regs = (None ∷ None ∷ None ∷ None ∷ []); homed = (48 ∷ []) }) ∷ (record { regs = (None ∷ None ∷ None ∷ None ∷ []); homed = [] }) ∷ (record { regs = (None ∷ None ∷ None ∷ None ∷ []); homed = (63 ∷ []) }) ∷ (record { regs = (None ∷ None ∷ None ∷ None ∷ []); homed = [] }) ∷ (record { regs = (None ∷ None ∷ None ∷ None ∷ []); homed = [] }) ∷ []); lines = (((line.Lir 0) ∷ (line.Store 0 0) ∷ (line.Lir 1) ∷ (line.Store 0 1) ∷ (line.Lir 2) ∷ (line.Store 0 2) ∷ (line.Lir 3) ∷ (line.Store 0 3) ∷ (line.Load 0 1) ∷ (line.Load 1 2) ∷ (line.Load 2 3) ∷ (line.Lir 4) ∷ (line.Store 0 4) ∷ (line.Load 0 0) ∷ (line.Load 1 4) ∷ (line.Lir 5) ∷ (line.Lir 6) ∷ (line.Store 0 5) ∷ (line.Lir 7) ∷ (line.Store 0 6) ∷ (line.Load 0 6) ∷ (line.Lir 8) ∷ (line.Store 0 7) ∷ (line.Load 0 5) ∷ (line.Load 1 7) ∷ (line.Lir 9) ∷ (line.Lir 10) ∷ (line.Store 0 8) ∷ (line.Lir 11) ∷ (line.Store 0 9) ∷ (line.Load 0 8) ∷ (line.Load 1 9) ∷ (line.Lir 12) ∷ (line.Lir 13) ∷ (line.Store 0 10) ∷ (line.Lir 14) ∷ (line.Store 0 11) ∷ (line.Load 0 11) ∷ (line.Lir 15) ∷ (line.Store 0 12) ∷ (line.Lir 16) ∷ (line.Store 0 13) ∷ (line.Load 0 12) ∷ (line.Lir 17) ∷ (line.Target (place.Home 12)) ∷ (line.Moves ((record { to = (place.Reg 0); from = (place.Home 13) }) ∷ [])) ∷ (line.Lir 18) ∷ (line.Store 0 14) ∷ (line.Lir 19) ∷ (line.Store 0 15) ∷ (line.Load 0 14) ∷ (line.Load 1 15) ∷ (line.Lir 20) ∷ (line.Store 0 16) ∷ (line.Load 0 10) ∷ (line.Load 1 16) ∷ (line.Lir 21) ∷ (line.Lir 22) ∷ (line.Store 0 17) ∷ (line.Lir 23) ∷ (line.Store 0 18) ∷ (line.Lir 24) ∷ (line.Store 0 19) ∷ (line.Load 0 19) ∷ (line.Lir 25) ∷ (line.Load 0 19) ∷ (line.Lir 26) ∷ (line.Store 0 20) ∷ (line.Load 0 18) ∷ (line.Load 1 20) ∷ (line.Lir 27) ∷ (line.Store 0 21) ∷ (line.Lir 28) ∷ (line.Store 0 22) ∷ (line.Load 0 22) ∷ (line.Lir 29) ∷ (line.Store 0 23) ∷ (line.Load 0 23) ∷ (line.Lir 30) ∷ (line.Lir 31) ∷ (line.Store 0 24) ∷ (line.Load 0 24) ∷ (line.Lir 32) ∷ (line.Load 0 23) ∷ (line.Load 1 24) ∷ (line.Lir 33) ∷ (line.Store 0 25) ∷ (line.Load 0 21) ∷ (line.Load 1 25) ∷ (line.Lir 34) ∷ (line.Store 0 26) ∷ (line.Load 0 17) ∷ (line.Load 1 26) ∷ (line.Lir 35) ∷ (line.Lir 36) ∷ (line.Store 0 27) ∷ (line.Lir 37) ∷ (line.Store 0 28) ∷ (line.Load 0 28) ∷ (line.Lir 38) ∷ (line.Lir 39) ∷ (line.Store 0 29) ∷ (line.Load 0 29) ∷ (line.Lir 40) ∷ (line.Store 0 30) ∷ (line.Load 0 28) ∷ (line.Load 1 30) ∷ (line.Lir 41) ∷ (line.Store 0 31) ∷ (line.Load 0 31) ∷ []) ∷ ((line.Lir 0) ∷ (line.Store 0 32) ∷ (line.Lir 1) ∷ (line.Store 0 33) ∷ (line.Lir 2) ∷ (line.Store 0 34) ∷ (line.Lir 3) ∷ (line.Store 0 35) ∷ (line.Moves ((record { to = (place.Reg 0); from = (place.Home 32) }) ∷ (record { to = (place.Reg 1); from = (place.Home 33) }) ∷ (record { to = (place.Reg 2); from = (place.Home 34) }) ∷ (record { to = (place.Reg 3); from = (place.Home 35) }) ∷ [])) ∷ (line.Lir 4) ∷ (line.Store 0 36) ∷ (line.Lir 5) ∷ (line.Store 0 37) ∷ (line.Load 0 36) ∷ (line.Load 1 37) ∷ (line.Lir 6) ∷ (line.Store 0 38) ∷ (line.Load 0 38) ∷ []) ∷ ((line.Lir 0) ∷ (line.Store 0 39) ∷ []) ∷ ((line.Load 0 27) ∷ (line.Load 1 41) ∷ (line.Lir 0) ∷ (line.Lir 1) ∷ (line.Store 0 42) ∷ (line.Lir 2) ∷ (line.Store 0 43) ∷ (line.Lir 3) ∷ (line.Store 0 44) ∷ (line.Moves ((record { to = (place.Reg 0); from = (place.Home 42) }) ∷ (record { to = (place.Reg 1); from = (place.Home 43) }) ∷ (record { to = (place.Reg 2); from = (place.Home 44) }) ∷ [])) ∷ (line.Lir 4) ∷ (line.Lir 5) ∷ (line.Store 0 45) ∷ (line.Load 0 45) ∷ (line.Lir 6) ∷ (line.Store 0 46) ∷ (line.Lir 7) ∷ (line.Store 0 47) ∷ (line.Load 0 46) ∷ (line.Load 1 47) ∷ (line.Lir 8) ∷ (line.Store 0 48) ∷ (line.Load 0 48) ∷ []) ∷ ((line.Lir 0) ∷ (line.Store 0 49) ∷ (line.Lir 1) ∷ (line.Store 0 50) ∷ (line.Load 0 50) ∷ (line.Lir 2) ∷ (line.Store 0 51) ∷ (line.Lir 3) ∷ (line.Store 0 52) ∷ (line.Load 0 51) ∷ (line.Load 1 52) ∷ (line.Lir 4) ∷ (line.Load 0 51) ∷ (line.Lir 5) ∷ (line.Load 0 51) ∷ (line.Lir 6) ∷ (line.Store 0 53) ∷ (line.Load 0 53) ∷ (line.Lir 7) ∷ (line.Store 0 54) ∷ (line.Load 0 49) ∷ (line.Load 1 54) ∷ (line.Lir 8) ∷ []) ∷ ((line.Lir 0) ∷ (line.Store 0 62) ∷ (line.Load 0 62) ∷ (line.Lir 1) ∷ (line.Store 0 63) ∷ (line.Load 0 63) ∷ []) ∷ ((line.Lir 0) ∷ (line.Store 0 64) ∷ (line.Lir 1) ∷ (line.Store 0 65) ∷ (line.Load 0 65) ∷ (line.Lir 2) ∷ (line.Store 0 66) ∷ (line.Lir 3) ∷ (line.Store 0 67) ∷ (line.Load 0 66) ∷ (line.Load 1 67) ∷ (line.Lir 4) ∷ (line.Store 0 68) ∷ (line.Load 0 64) ∷ (line.Load 1 68) ∷ (line.Lir 5) ∷ []) ∷ [] ∷ []); regs = ((0 ∷ 0 ∷ 0 ∷ 0 ∷ 0 ∷ 1 ∷ 2 ∷ 0 ∷ 0 ∷ 1 ∷ 0 ∷ 0 ∷ 0 ∷ 0 ∷ 0 ∷ 1 ∷ 0 ∷ 0 ∷ 0 ∷ 1 ∷ 0 ∷ 0 ∷ 0 ∷ 0 ∷ 0 ∷ 0 ∷ 0 ∷ 0 ∷ 1 ∷ 0 ∷ 0 ∷ 1 ∷ 0 ∷ 0 ∷ 0 ∷ 0 ∷ 0 ∷ 0 ∷ 0 ∷ 1 ∷ 0 ∷ 0 ∷ 0 ∷ 0 ∷ 0 ∷ 0 ∷ 0 ∷ 0 ∷ 1 ∷ 0 ∷ 0 ∷ 1 ∷ 0 ∷ 0 ∷ 1 ∷ 0 ∷ 0 ∷ 0 ∷ 0 ∷ 0 ∷ 0 ∷ 0 ∷ 1 ∷ 0 ∷ 0 ∷ []) ∷ (0 ∷ 0 ∷ 0 ∷ 0 ∷ 0 ∷ 0 ∷ 1 ∷ 0 ∷ 0 ∷ []) ∷ (0 ∷ []) ∷ (0 ∷ 1 ∷ 0 ∷ 0 ∷ 0 ∷ 0 ∷ 0 ∷ 0 ∷ 0 ∷ 0 ∷ 1 ∷ 0 ∷ 0 ∷ []) ∷ (0 ∷ 0 ∷ 0 ∷ 0 ∷ 0 ∷ 0 ∷ 1 ∷ 0 ∷ 0 ∷ 0 ∷ 0 ∷ 0 ∷ 0 ∷ 1 ∷ []) ∷ (0 ∷ 0 ∷ 0 ∷ 0 ∷ []) ∷ (0 ∷ 0 ∷ 0 ∷ 0 ∷ 0 ∷ 0 ∷ 1 ∷ 0 ∷ 0 ∷ 1 ∷ []) ∷ [] ∷ []) }) ∷ (record { trace = 1; starts = ((record { regs = (None ∷ None ∷ None ∷ None ∷ []); homed = (27 ∷ []) }) ∷ (record { regs = (None ∷ None ∷ None ∷ None ∷ []); homed = (27 ∷ []) }) ∷ []); ends = ((record { regs = (None ∷ None ∷ None ∷ None ∷ []); homed = (27 ∷ []) }) ∷ (record { regs = (None ∷ None ∷ None ∷ None ∷ []); homed = (27 ∷ 40 ∷ []) }) ∷ []); lines = ([] ∷ ((line.Lir 0) ∷ (line.Store 0 40) ∷ []) ∷ []); regs = ([] ∷ (0 ∷ []) ∷ []) }) ∷ (record { trace = 2; starts = ((record { regs = (None ∷ None ∷ None ∷ None ∷ []); homed = [] }) ∷ (record { regs = (None ∷ None ∷ None ∷ None ∷ []); homed = [] }) ∷ (record { regs = (None ∷ None ∷ None ∷ None ∷ []); homed = [] }) ∷ []); ends = ((record { regs = (None ∷ None ∷ None ∷ None ∷ []); homed = (56 ∷ 57 ∷ []) }) ∷ (record { regs = (None ∷ None ∷ None ∷ None ∷ []); homed = [] }) ∷ (record { regs = (None ∷ None ∷ None ∷ None ∷ []); homed = [] }) ∷ []); lines = (((line.Lir 0) ∷ (line.Store 0 55) ∷ (line.Load 0 55) ∷ (line.Lir 1) ∷ (line.Store 0 56) ∷ (line.Lir 2) ∷ (line.Store 0 57) ∷ (line.Load 0 56) ∷ (line.Load 1 57) ∷ []) ∷ ((line.Lir 0) ∷ (line.Store 0 58) ∷ (line.Lir 1) ∷ (line.Store 0 59) ∷ (line.Load 0 59) ∷ (line.Lir 2) ∷ (line.Store 0 60) ∷ (line.Load 0 60) ∷ (line.Lir 3) ∷ (line.Store 0 61) ∷ (line.Load 0 58) ∷ (line.Load 1 61) ∷ (line.Lir 4) ∷ []) ∷ [] ∷ []); regs = ((0 ∷ 0 ∷ 0 ∷ 0 ∷ 0 ∷ 1 ∷ []) ∷ (0 ∷ 0 ∷ 0 ∷ 0 ∷ 0 ∷ 0 ∷ 0 ∷ 1 ∷ []) ∷ [] ∷ []) }) ∷ (record { trace = 3; starts = ((record { regs = (None ∷ None ∷ None ∷ None ∷ []); homed = [] }) ∷ []); ends = ((record { regs = (None ∷ None ∷ None ∷ None ∷ []); homed = [] }) ∷ []); lines = ([] ∷ []); regs = ([] ∷ []) }) ∷ (record { trace = 4; starts = ((record { regs = (None ∷ None ∷ None ∷ None ∷ []); homed = (27 ∷ []) }) ∷ []); ends = ((record { regs = (None ∷ None ∷ None ∷ None ∷ []); homed = (27 ∷ []) }) ∷ []); lines = ([] ∷ []); regs = ([] ∷ []) }) ∷ (record { trace = 5; starts = ((record { regs = (None ∷ None ∷ None ∷ None ∷ []); homed = [] }) ∷ []); ends = ((record { regs = (None ∷ None ∷ None ∷ None ∷ []); homed = [] }) ∷ []); lines = ([] ∷ []); regs = ([] ∷ []) }) ∷ []);
}

abbrev homes : List Cut
homes = homes_0 ∷ homes_1 ∷ []

homes_frames : map frame_of (all_placed steps_of (all_allocated homes)) ≡ 128 ∷ 560 ∷ []
homes_frames = refl

homes_words : code_of (all_placed steps_of (all_allocated homes)) ≡ 2483028095 ∷ 3556769793 ∷ 3531603971 ∷ 2432704612 ∷ 3942776991 ∷ 1409286312 ∷ 4167264293 ∷ 4163069957 ∷ 2852389859 ∷ 402653178 ∷ 3942776959 ∷ 1409286306 ∷ 946038821 ∷ 941844485 ∷ 2432697443 ∷ 402653179 ∷ 3596551104 ∷ 3531603971 ∷ 3942711423 ∷ 1409286274 ∷ 4163069983 ∷ 2432704611 ∷ 402653180 ∷ 3596551104 ∷ 3531603972 ∷ 3531603973 ∷ 3531603974 ∷ 3942711455 ∷ 1409286210 ∷ 946104325 ∷ 3942842527 ∷ 1409286210 ∷ 946104390 ∷ 3943039167 ∷ 1409286273 ∷ 3019898981 ∷ 2432697476 ∷ 402653172 ∷ 3406168224 ∷ 3596551104 ∷ 3036676180 ∷ 3558867200 ∷ 3506439828 ∷ 3510633471 ∷ 3506570239 ∷ 4177527806 ∷ 3531604112 ∷ 3943695103 ∷ 1409286210 ∷ 3558867232 ∷ 3406824183 ∷ 2436891251 ∷ 2432721523 ∷ 4177528800 ∷ 3510633056 ∷ 3506462720 ∷ 4177529824 ∷ 3531604736 ∷ 4177530848 ∷ 4181724128 ∷ 4181725153 ∷ 2550136788 ∷ 3510633056 ∷ 3506462720 ∷ 4177531872 ∷ 3531604064 ∷ 4177532896 ∷ 4181723104 ∷ 4181727201 ∷ 4043309119 ∷ 1409286220 ∷ 3558867072 ∷ 2596342800 ∷ 2600567312 ∷ 2324757553 ∷ 2333147648 ∷ 4177533920 ∷ 3531604064 ∷ 4177534944 ∷ 4181728224 ∷ 4181729249 ∷ 3942711327 ∷ 1409286211 ∷ 3558866976 ∷ 3531604224 ∷ 4177535968 ∷ 4181728224 ∷ 4181730273 ∷ 4181726178 ∷ 2600536064 ∷ 4177536992 ∷ 4181731296 ∷ 4181723105 ∷ 4177526785 ∷ 3510633056 ∷ 3506462720 ∷ 4177538016 ∷ 3531604000 ∷ 4177539040 ∷ 3531604064 ∷ 4177540064 ∷ 4181733344 ∷ 4181734369 ∷ 3942711327 ∷ 1409286211 ∷ 3558866976 ∷ 3531604224 ∷ 4177541088 ∷ 4181733344 ∷ 4181735393 ∷ 4181732322 ∷ 2600536064 ∷ 4177542112 ∷ 4181736416 ∷ 4181721088 ∷ 4177543136 ∷ 4181737440 ∷ 2852127712 ∷ 4181722110 ∷ 2436891647 ∷ 2432828415 ∷ 3510633075 ∷ 3506463347 ∷ 3531604112 ∷ 2333082359 ∷ 2432698004 ∷ 3596551104 ∷ 3510633471 ∷ 3507012607 ∷ 4177527806 ∷ 2436891392 ∷ 2432712704 ∷ 4177528800 ∷ 3531604064 ∷ 4177529824 ∷ 3531604736 ∷ 4177530848 ∷ 2436891392 ∷ 2432901120 ∷ 4177531872 ∷ 4181724128 ∷ 4181725153 ∷ 4181726178 ∷ 3942646495 ∷ 1409286210 ∷ 3558867264 ∷ 3405775574 ∷ 4177527458 ∷ 2853503984 ∷ 2332099253 ∷ 2853176288 ∷ 4177532896 ∷ 4181723104 ∷ 4181727201 ∷ 4177526785 ∷ 2436891392 ∷ 2432704512 ∷ 4177533920 ∷ 2436891392 ∷ 2432712704 ∷ 4177534944 ∷ 4181729248 ∷ 4181721088 ∷ 4177535968 ∷ 4181728224 ∷ 4181730273 ∷ 4177526785 ∷ 2436891392 ∷ 2432720896 ∷ 4177536992 ∷ 3531609088 ∷ 4070572064 ∷ 4177538016 ∷ 4181731296 ∷ 4181732321 ∷ 4177526785 ∷ 2436891392 ∷ 2432737280 ∷ 4177539040 ∷ 2436891392 ∷ 2432720896 ∷ 4177540064 ∷ 4181734368 ∷ 4181721088 ∷ 4177541088 ∷ 3531604192 ∷ 4177542112 ∷ 4181735392 ∷ 3036676160 ∷ 3558867008 ∷ 4181735417 ∷ 4181736416 ∷ 3594453792 ∷ 4177543136 ∷ 3531604128 ∷ 4177544160 ∷ 4181737440 ∷ 4181738465 ∷ 4043309119 ∷ 1409286220 ∷ 3558867072 ∷ 2596342800 ∷ 2600567312 ∷ 2324757553 ∷ 2333147648 ∷ 4177545184 ∷ 4181733344 ∷ 4181739489 ∷ 4177526785 ∷ 2436891392 ∷ 2432729088 ∷ 4177546208 ∷ 3531603968 ∷ 4177547232 ∷ 3531604000 ∷ 4177548256 ∷ 4181742560 ∷ 4043373599 ∷ 1409286217 ∷ 3558867168 ∷ 4181742560 ∷ 3531604016 ∷ 2596282880 ∷ 4177549280 ∷ 4181741536 ∷ 4181743585 ∷ 2852192256 ∷ 4177550304 ∷ 2436891392 ∷ 2432737280 ∷ 4177551328 ∷ 4181745632 ∷ 4181721088 ∷ 4177552352 ∷ 4181746656 ∷ 4043373599 ∷ 1409286217 ∷ 3558867168 ∷ 3531604256 ∷ 4177553376 ∷ 4181747680 ∷ 4043373599 ∷ 1409286217 ∷ 3558867168 ∷ 4181746656 ∷ 4181747681 ∷ 2457862160 ∷ 2596282896 ∷ 3531606001 ∷ 3405840945 ∷ 2457862144 ∷ 2597397504 ∷ 2316304384 ∷ 4177554400 ∷ 4181744608 ∷ 4181748705 ∷ 2852192256 ∷ 4177555424 ∷ 4181740512 ∷ 4181749729 ∷ 4177526785 ∷ 2436891392 ∷ 2432761856 ∷ 4177556448 ∷ 3531604064 ∷ 4177557472 ∷ 4181751776 ∷ 4043373599 ∷ 1409286217 ∷ 3558867168 ∷ 2436891392 ∷ 2432729088 ∷ 4177558496 ∷ 4181752800 ∷ 4181721088 ∷ 4177559520 ∷ 4181751776 ∷ 4181753825 ∷ 2596283440 ∷ 3531604017 ∷ 2316370432 ∷ 4177560544 ∷ 4181754848 ∷ 3019903008 ∷ 2436891392 ∷ 2432745472 ∷ 4177561568 ∷ 3531604224 ∷ 4177562592 ∷ 2436891392 ∷ 2432753664 ∷ 4177563616 ∷ 3531604224 ∷ 4177564640 ∷ 4181755872 ∷ 4181756897 ∷ 4181757922 ∷ 4181758947 ∷ 2550136558 ∷ 4177565664 ∷ 3531603968 ∷ 4177566688 ∷ 4181759968 ∷ 4181760993 ∷ 3942711327 ∷ 2594117600 ∷ 4177567712 ∷ 4181762016 ∷ 3019903328 ∷ 3531604000 ∷ 4177568736 ∷ 4181763057 ∷ 4177570801 ∷ 4181750752 ∷ 4181765089 ∷ 956301313 ∷ 2436891392 ∷ 2432745472 ∷ 4177571808 ∷ 2436891392 ∷ 2432753664 ∷ 4177572832 ∷ 3531604224 ∷ 4177573856 ∷ 4181766112 ∷ 4181767137 ∷ 4181768162 ∷ 2550136507 ∷ 2436891392 ∷ 2432704512 ∷ 4177574880 ∷ 4181769184 ∷ 4181721088 ∷ 4177575904 ∷ 2436891392 ∷ 2432901120 ∷ 4177576928 ∷ 4181770208 ∷ 4181771233 ∷ 3531603984 ∷ 3019898976 ∷ 4181721104 ∷ 4181722640 ∷ 3942711839 ∷ 2594117600 ∷ 4177577952 ∷ 4181772256 ∷ 3019901120 ∷ 2436891392 ∷ 2432737280 ∷ 4177578976 ∷ 2436891392 ∷ 2432704512 ∷ 4177580000 ∷ 4181774304 ∷ 4181721088 ∷ 4177581024 ∷ 2436891392 ∷ 2432901120 ∷ 4177582048 ∷ 4181775328 ∷ 4181776353 ∷ 3036676160 ∷ 3558867008 ∷ 4181721104 ∷ 4181722640 ∷ 3942711839 ∷ 1409286208 ∷ 3558867040 ∷ 4181775328 ∷ 3036676160 ∷ 3558867008 ∷ 4181775328 ∷ 2436890624 ∷ 2432712704 ∷ 4177583072 ∷ 4181777376 ∷ 4181721088 ∷ 4177584096 ∷ 4181773280 ∷ 4181778401 ∷ 4177526785 ∷ 2436891392 ∷ 2432761856 ∷ 4177592288 ∷ 4181786592 ∷ 960495616 ∷ 4177593312 ∷ 4181787616 ∷ 3036677920 ∷ 2436891392 ∷ 2432737280 ∷ 4177594336 ∷ 2436891392 ∷ 2432737280 ∷ 4177595360 ∷ 4181789664 ∷ 4181721088 ∷ 4177596384 ∷ 3531604032 ∷ 4177597408 ∷ 4181790688 ∷ 4181791713 ∷ 2600565760 ∷ 4177598432 ∷ 4181788640 ∷ 4181792737 ∷ 4177526785 ∷ 4181722110 ∷ 2436891647 ∷ 2433270783 ∷ 3596551104 ∷ 3531603968 ∷ 4177569760 ∷ 4181764081 ∷ 4177570801 ∷ 402653081 ∷ 2436891392 ∷ 2432737280 ∷ 4177585120 ∷ 4181779424 ∷ 4181721088 ∷ 4177586144 ∷ 3531603968 ∷ 4177587168 ∷ 4181780448 ∷ 4181781473 ∷ 3942711327 ∷ 1409286794 ∷ 2436891392 ∷ 2432737280 ∷ 4177588192 ∷ 2436891392 ∷ 2432737280 ∷ 4177589216 ∷ 4181783520 ∷ 4181721088 ∷ 4177590240 ∷ 4181784544 ∷ 4043309087 ∷ 3665863680 ∷ 4177591264 ∷ 4181782496 ∷ 4181785569 ∷ 4177526785 ∷ 402653121 ∷ 402653146 ∷ 402653149 ∷ 402653181 ∷ []
homes_words = refl

-- MODULE A; VAR x, y: INTEGER; PROCEDURE P(a, b, c, d, e: INTEGER; VAR f: INTEGER): INTEGER; VAR s: INTEGER; BEGIN s := 0; WHILE a > b DO s := s + c * a; a := a - d; IF a = e THEN f := f + s END END; RETURN s END P; BEGIN y := 5; x := P(y, 1, 2, 3, 4, y) DIV 3 END A.
-- mixed, 16 registers
abbrev mixed_0 : Cut
mixed_0 = record {
  flow = record { nodes = ((record { params = (0 ∷ 1 ∷ 2 ∷ 3 ∷ []); lirs = ((record { template = code.Arg 4; uses = []; def = (Some 4); call = false }) ∷ (record { template = code.Arg 5; uses = []; def = (Some 5); call = false }) ∷ (record { template = code.Const 0; uses = []; def = (Some 6); call = false }) ∷ (record { template = code.Const 0; uses = []; def = (Some 7); call = false }) ∷ []); end = end.Jump 1 (0 ∷ 7 ∷ []); freq = 1048576; preds = []; enter = None }) ∷ (record { params = (8 ∷ 9 ∷ []); lirs = []; end = end.Branch 12 8 1 2 6; freq = 8388608; preds = (0 ∷ 5 ∷ []); enter = (Some 0) }) ∷ (record { params = []; lirs = ((record { template = code.Mul; uses = (2 ∷ 8 ∷ []); def = (Some 10); call = false }) ∷ (record { template = code.Add; uses = (9 ∷ 10 ∷ []); def = (Some 11); call = false }) ∷ (record { template = code.Sub; uses = (8 ∷ 3 ∷ []); def = (Some 12); call = false }) ∷ []); end = end.Branch 0 12 4 3 4; freq = 8388608; preds = (1 ∷ []); enter = None }) ∷ (record { params = []; lirs = ((record { template = code.Load; uses = (5 ∷ []); def = (Some 13); call = false }) ∷ (record { template = code.Add; uses = (13 ∷ 11 ∷ []); def = (Some 14); call = false }) ∷ (record { template = code.Store; uses = (5 ∷ 14 ∷ []); def = None; call = false }) ∷ []); end = end.Jump 5 []; freq = 4194304; preds = (2 ∷ []); enter = None }) ∷ (record { params = []; lirs = []; end = end.Jump 5 []; freq = 4194304; preds = (2 ∷ []); enter = None }) ∷ (record { params = []; lirs = []; end = end.Jump 1 (12 ∷ 11 ∷ []); freq = 8388608; preds = (3 ∷ 4 ∷ []); enter = None }) ∷ (record { params = []; lirs = []; end = end.Return (Some 9); freq = 1048576; preds = (1 ∷ []); enter = None }) ∷ []); values = 15; args = 6; counted = true; local_cells = 6; local_bytes = 0 };
  traces = ((record { nodes = (0 ∷ 1 ∷ 2 ∷ 3 ∷ 5 ∷ []) }) ∷ (record { nodes = (4 ∷ []) }) ∷ (record { nodes = (6 ∷ []) }) ∷ []);
  outs = ((record { trace = 0; starts = ((record { regs = ((Some 0) ∷ (Some 1) ∷ (Some 2) ∷ (Some 3) ∷ None ∷ None ∷ None ∷ None ∷ None ∷ None ∷ None ∷ None ∷ None ∷ None ∷ None ∷ None ∷ []); homed = [] }) ∷ (record { regs = ((Some 8) ∷ (Some 1) ∷ (Some 2) ∷ (Some 3) ∷ (Some 4) ∷ (Some 5) ∷ (Some 9) ∷ None ∷ None ∷ None ∷ None ∷ None ∷ None ∷ None ∷ None ∷ None ∷ []); homed = [] }) ∷ (record { regs = ((Some 8) ∷ (Some 1) ∷ (Some 2) ∷ (Some 3) ∷ (Some 4) ∷ (Some 5) ∷ (Some 9) ∷ None ∷ None ∷ None ∷ None ∷ None ∷ None ∷ None ∷ None ∷ None ∷ []); homed = [] }) ∷ (record { regs = ((Some 12) ∷ (Some 1) ∷ (Some 2) ∷ (Some 3) ∷ (Some 4) ∷ (Some 5) ∷ (Some 11) ∷ None ∷ None ∷ None ∷ None ∷ None ∷ None ∷ None ∷ None ∷ None ∷ []); homed = [] }) ∷ (record { regs = ((Some 12) ∷ (Some 1) ∷ (Some 2) ∷ (Some 3) ∷ (Some 4) ∷ (Some 5) ∷ (Some 11) ∷ None ∷ None ∷ None ∷ None ∷ None ∷ None ∷ None ∷ None ∷ None ∷ []); homed = [] }) ∷ []); ends = ((record { regs = ((Some 0) ∷ (Some 1) ∷ (Some 2) ∷ (Some 3) ∷ (Some 4) ∷ (Some 5) ∷ (Some 7) ∷ None ∷ None ∷ None ∷ None ∷ None ∷ None ∷ None ∷ None ∷ None ∷ []); homed = [] }) ∷ (record { regs = ((Some 8) ∷ (Some 1) ∷ (Some 2) ∷ (Some 3) ∷ (Some 4) ∷ (Some 5) ∷ (Some 9) ∷ None ∷ None ∷ None ∷ None ∷ None ∷ None ∷ None ∷ None ∷ None ∷ []); homed = [] }) ∷ (record { regs = ((Some 12) ∷ (Some 1) ∷ (Some 2) ∷ (Some 3) ∷ (Some 4) ∷ (Some 5) ∷ (Some 11) ∷ None ∷ None ∷ None ∷ None ∷ None ∷ None ∷ None ∷ None ∷ None ∷ []); homed = [] }) ∷ (record { regs = ((Some 12) ∷ (Some 1) ∷ (Some 2) ∷ (Some 3) ∷ (Some 4) ∷ (Some 5) ∷ (Some 11) ∷ None ∷ None ∷ None ∷ None ∷ None ∷ None ∷ None ∷ None ∷ None ∷ []); homed = [] }) ∷ (record { regs = ((Some 12) ∷ (Some 1) ∷ (Some 2) ∷ (Some 3) ∷ (Some 4) ∷ (Some 5) ∷ (Some 11) ∷ None ∷ None ∷ None ∷ None ∷ None ∷ None ∷ None ∷ None ∷ None ∷ []); homed = [] }) ∷ []); lines = (((line.Lir 0) ∷ (line.Lir 1) ∷ (line.Lir 2) ∷ (line.Lir 3) ∷ []) ∷ [] ∷ ((line.Lir 0) ∷ (line.Lir 1) ∷ (line.Lir 2) ∷ []) ∷ ((line.Lir 0) ∷ (line.Lir 1) ∷ (line.Lir 2) ∷ []) ∷ [] ∷ []); regs = ((4 ∷ 5 ∷ 6 ∷ 6 ∷ []) ∷ (0 ∷ 1 ∷ []) ∷ (2 ∷ 0 ∷ 7 ∷ 6 ∷ 7 ∷ 6 ∷ 0 ∷ 3 ∷ 0 ∷ 0 ∷ 4 ∷ []) ∷ (5 ∷ 7 ∷ 7 ∷ 6 ∷ 7 ∷ 5 ∷ 7 ∷ []) ∷ [] ∷ []) }) ∷ (record { trace = 1; starts = ((record { regs = ((Some 12) ∷ (Some 1) ∷ (Some 2) ∷ (Some 3) ∷ (Some 4) ∷ (Some 5) ∷ (Some 11) ∷ None ∷ None ∷ None ∷ None ∷ None ∷ None ∷ None ∷ None ∷ None ∷ []); homed = [] }) ∷ []); ends = ((record { regs = ((Some 12) ∷ (Some 1) ∷ (Some 2) ∷ (Some 3) ∷ (Some 4) ∷ (Some 5) ∷ (Some 11) ∷ None ∷ None ∷ None ∷ None ∷ None ∷ None ∷ None ∷ None ∷ None ∷ []); homed = [] }) ∷ []); lines = ([] ∷ []); regs = ([] ∷ []) }) ∷ (record { trace = 2; starts = ((record { regs = (None ∷ None ∷ None ∷ None ∷ None ∷ None ∷ (Some 9) ∷ None ∷ None ∷ None ∷ None ∷ None ∷ None ∷ None ∷ None ∷ None ∷ []); homed = [] }) ∷ []); ends = ((record { regs = (None ∷ None ∷ None ∷ None ∷ None ∷ None ∷ (Some 9) ∷ None ∷ None ∷ None ∷ None ∷ None ∷ None ∷ None ∷ None ∷ None ∷ []); homed = [] }) ∷ []); lines = ([] ∷ []); regs = ((6 ∷ []) ∷ []) }) ∷ []);
}

abbrev mixed_1 : Cut
mixed_1 = record {
  flow = record { nodes = ((record { params = []; lirs = ((record { template = code.Global 16; uses = []; def = (Some 0); call = false }) ∷ (record { template = code.Const 5; uses = []; def = (Some 1); call = false }) ∷ (record { template = code.Store; uses = (0 ∷ 1 ∷ []); def = None; call = false }) ∷ (record { template = code.Global 8; uses = []; def = (Some 2); call = false }) ∷ (record { template = code.Global 16; uses = []; def = (Some 3); call = false }) ∷ (record { template = code.Load; uses = (3 ∷ []); def = (Some 4); call = false }) ∷ (record { template = code.Const 1; uses = []; def = (Some 5); call = false }) ∷ (record { template = code.Const 2; uses = []; def = (Some 6); call = false }) ∷ (record { template = code.Const 3; uses = []; def = (Some 7); call = false }) ∷ (record { template = code.Const 4; uses = []; def = (Some 8); call = false }) ∷ (record { template = code.Global 16; uses = []; def = (Some 9); call = false }) ∷ (record { template = code.Call 0; uses = (4 ∷ 5 ∷ 6 ∷ 7 ∷ 8 ∷ 9 ∷ []); def = (Some 10); call = true }) ∷ (record { template = code.Const 3; uses = []; def = (Some 11); call = false }) ∷ (record { template = code.Div; uses = (10 ∷ 11 ∷ []); def = (Some 12); call = false }) ∷ (record { template = code.Store; uses = (2 ∷ 12 ∷ []); def = None; call = false }) ∷ []); end = end.Return None; freq = 1048576; preds = []; enter = None }) ∷ []); values = 13; args = 0; counted = false; local_cells = 0; local_bytes = 0 };
  traces = ((record { nodes = (0 ∷ []) }) ∷ []);
  outs = ((record { trace = 0; starts = ((record { regs = (None ∷ None ∷ None ∷ None ∷ None ∷ None ∷ None ∷ None ∷ None ∷ None ∷ None ∷ None ∷ None ∷ None ∷ None ∷ None ∷ []); homed = [] }) ∷ []); ends = ((record { regs = (None ∷ None ∷ None ∷ None ∷ None ∷ None ∷ None ∷ None ∷ None ∷ None ∷ None ∷ None ∷ None ∷ None ∷ None ∷ None ∷ []); homed = [] }) ∷ []); lines = (((line.Lir 0) ∷ (line.Lir 1) ∷ (line.Lir 2) ∷ (line.Lir 3) ∷ (line.Lir 4) ∷ (line.Lir 5) ∷ (line.Lir 6) ∷ (line.Lir 7) ∷ (line.Lir 8) ∷ (line.Lir 9) ∷ (line.Lir 10) ∷ (line.Store 0 2) ∷ (line.Moves ((record { to = (place.Reg 0); from = (place.Reg 1) }) ∷ (record { to = (place.Reg 1); from = (place.Reg 2) }) ∷ (record { to = (place.Reg 2); from = (place.Reg 3) }) ∷ (record { to = (place.Reg 3); from = (place.Reg 4) }) ∷ (record { to = (place.Out 0); from = (place.Reg 5) }) ∷ (record { to = (place.Out 1); from = (place.Reg 6) }) ∷ [])) ∷ (line.Lir 11) ∷ (line.Lir 12) ∷ (line.Lir 13) ∷ (line.Load 1 2) ∷ (line.Lir 14) ∷ []) ∷ []); regs = ((0 ∷ 1 ∷ 0 ∷ 1 ∷ 0 ∷ 1 ∷ 1 ∷ 1 ∷ 2 ∷ 3 ∷ 4 ∷ 5 ∷ 6 ∷ 1 ∷ 0 ∷ 1 ∷ 0 ∷ 1 ∷ 0 ∷ []) ∷ []) }) ∷ []);
}

abbrev mixed : List Cut
mixed = mixed_0 ∷ mixed_1 ∷ []

mixed_frames : map frame_of (all_placed steps_of (all_allocated mixed)) ≡ 8 ∷ 32 ∷ []
mixed_frames = refl

mixed_words : code_of (all_placed steps_of (all_allocated mixed)) ≡ 2483028043 ∷ 3556769793 ∷ 3531603971 ∷ 2432704612 ∷ 3942776991 ∷ 1409286312 ∷ 4167264293 ∷ 4163069957 ∷ 2852389859 ∷ 402653178 ∷ 3942776959 ∷ 1409286306 ∷ 946038821 ∷ 941844485 ∷ 2432697443 ∷ 402653179 ∷ 3596551104 ∷ 3531603971 ∷ 3942711423 ∷ 1409286274 ∷ 4163069983 ∷ 2432704611 ∷ 402653180 ∷ 3596551104 ∷ 3531603972 ∷ 3531603973 ∷ 3531603974 ∷ 3942711455 ∷ 1409286210 ∷ 946104325 ∷ 3942842527 ∷ 1409286210 ∷ 946104390 ∷ 3943039167 ∷ 1409286273 ∷ 3019898981 ∷ 2432697476 ∷ 402653172 ∷ 3406168224 ∷ 3596551104 ∷ 3036676180 ∷ 3558867200 ∷ 3506439828 ∷ 3510633471 ∷ 3506447359 ∷ 4177527806 ∷ 3531604176 ∷ 3943695103 ∷ 1409286210 ∷ 3558867232 ∷ 3406824183 ∷ 4181723108 ∷ 4181724133 ∷ 3531603974 ∷ 3531603974 ∷ 3942711327 ∷ 1409286509 ∷ 2600500295 ∷ 2332491974 ∷ 3405971456 ∷ 3942907935 ∷ 1409286305 ∷ 4181721255 ∷ 2332426471 ∷ 4177526951 ∷ 402653174 ∷ 402653183 ∷ 2852520928 ∷ 4181722110 ∷ 2436891647 ∷ 2432705535 ∷ 3531604176 ∷ 2333082359 ∷ 2432698004 ∷ 3596551104 ∷ 3510633471 ∷ 3506471935 ∷ 4177529854 ∷ 2436891392 ∷ 2432712704 ∷ 3531604129 ∷ 4177526785 ∷ 2436891392 ∷ 2432704512 ∷ 2436891393 ∷ 2432712737 ∷ 4181721121 ∷ 3531604002 ∷ 3531604035 ∷ 3531604068 ∷ 3531604101 ∷ 2436891398 ∷ 2432712902 ∷ 4177530848 ∷ 2852193248 ∷ 2852258785 ∷ 2852324322 ∷ 2852389859 ∷ 4177527781 ∷ 4177528806 ∷ 2550136772 ∷ 3531604065 ∷ 4043309119 ∷ 1409286220 ∷ 3558867072 ∷ 2596342800 ∷ 2600567313 ∷ 2341600768 ∷ 4181725153 ∷ 4177526816 ∷ 4181724158 ∷ 2436891647 ∷ 2432730111 ∷ 3596551104 ∷ []
mixed_words = refl

-- MODULE A; IMPORT Out; VAR n*: INTEGER; PROCEDURE Sum*(a, b, c, d, e, f, g: INTEGER): INTEGER; BEGIN IF a = b THEN ELSE n := n + a END; RETURN a + b * c - d + e * f + g END Sum; BEGIN n := 3 END A.
-- MODULE B; IMPORT A, Out; BEGIN Out.Int(A.Sum(1, A.n, 3, A.n, 5, 6, A.n), 4); Out.Ln END B.
-- bottomup, 5 registers
abbrev modules_0 : Cut
modules_0 = record {
  flow = record { nodes = ((record { params = (0 ∷ 1 ∷ 2 ∷ 3 ∷ []); lirs = ((record { template = code.Arg 4; uses = []; def = (Some 4); call = false }) ∷ (record { template = code.Arg 5; uses = []; def = (Some 5); call = false }) ∷ (record { template = code.Arg 6; uses = []; def = (Some 6); call = false }) ∷ []); end = end.Branch 0 0 1 1 2; freq = 1048576; preds = []; enter = None }) ∷ (record { params = []; lirs = []; end = end.Jump 3 []; freq = 524288; preds = (0 ∷ []); enter = None }) ∷ (record { params = []; lirs = ((record { template = code.Global 8; uses = []; def = (Some 7); call = false }) ∷ (record { template = code.Global 8; uses = []; def = (Some 8); call = false }) ∷ (record { template = code.Load; uses = (8 ∷ []); def = (Some 9); call = false }) ∷ (record { template = code.Add; uses = (9 ∷ 0 ∷ []); def = (Some 10); call = false }) ∷ (record { template = code.Store; uses = (7 ∷ 10 ∷ []); def = None; call = false }) ∷ []); end = end.Jump 3 []; freq = 524288; preds = (0 ∷ []); enter = None }) ∷ (record { params = []; lirs = ((record { template = code.Mul; uses = (1 ∷ 2 ∷ []); def = (Some 11); call = false }) ∷ (record { template = code.Add; uses = (0 ∷ 11 ∷ []); def = (Some 12); call = false }) ∷ (record { template = code.Sub; uses = (12 ∷ 3 ∷ []); def = (Some 13); call = false }) ∷ (record { template = code.Mul; uses = (4 ∷ 5 ∷ []); def = (Some 14); call = false }) ∷ (record { template = code.Add; uses = (13 ∷ 14 ∷ []); def = (Some 15); call = false }) ∷ (record { template = code.Add; uses = (15 ∷ 6 ∷ []); def = (Some 16); call = false }) ∷ []); end = end.Return (Some 16); freq = 1048576; preds = (1 ∷ 2 ∷ []); enter = None }) ∷ []); values = 17; args = 7; counted = true; local_cells = 7; local_bytes = 0 };
  traces = ((record { nodes = (0 ∷ 1 ∷ 3 ∷ []) }) ∷ (record { nodes = (2 ∷ []) }) ∷ []);
  outs = ((record { trace = 0; starts = ((record { regs = ((Some 0) ∷ None ∷ (Some 2) ∷ None ∷ (Some 1) ∷ []); homed = (0 ∷ 1 ∷ 2 ∷ 3 ∷ []) }) ∷ (record { regs = ((Some 0) ∷ (Some 6) ∷ (Some 2) ∷ (Some 5) ∷ (Some 1) ∷ []); homed = (0 ∷ 1 ∷ 2 ∷ 3 ∷ 4 ∷ 5 ∷ 6 ∷ []) }) ∷ (record { regs = ((Some 0) ∷ (Some 6) ∷ (Some 2) ∷ (Some 5) ∷ (Some 1) ∷ []); homed = (0 ∷ 1 ∷ 2 ∷ 3 ∷ 4 ∷ 5 ∷ 6 ∷ []) }) ∷ []); ends = ((record { regs = ((Some 0) ∷ (Some 6) ∷ (Some 2) ∷ (Some 5) ∷ (Some 1) ∷ []); homed = (0 ∷ 1 ∷ 2 ∷ 3 ∷ 4 ∷ 5 ∷ 6 ∷ []) }) ∷ (record { regs = ((Some 0) ∷ (Some 6) ∷ (Some 2) ∷ (Some 5) ∷ (Some 1) ∷ []); homed = (0 ∷ 1 ∷ 2 ∷ 3 ∷ 4 ∷ 5 ∷ 6 ∷ []) }) ∷ (record { regs = ((Some 16) ∷ None ∷ None ∷ None ∷ None ∷ []); homed = [] }) ∷ []); lines = (((line.Lir 0) ∷ (line.Store 1 4) ∷ (line.Lir 1) ∷ (line.Store 3 5) ∷ (line.Lir 2) ∷ (line.Store 1 6) ∷ []) ∷ [] ∷ ((line.Lir 0) ∷ (line.Load 2 4) ∷ (line.Lir 1) ∷ (line.Load 4 3) ∷ (line.Lir 2) ∷ (line.Lir 3) ∷ (line.Lir 4) ∷ (line.Lir 5) ∷ []) ∷ []); regs = ((1 ∷ 3 ∷ 1 ∷ 0 ∷ 4 ∷ []) ∷ [] ∷ (4 ∷ 2 ∷ 4 ∷ 0 ∷ 4 ∷ 0 ∷ 0 ∷ 4 ∷ 0 ∷ 2 ∷ 3 ∷ 2 ∷ 0 ∷ 2 ∷ 0 ∷ 0 ∷ 1 ∷ 0 ∷ 0 ∷ []) ∷ []) }) ∷ (record { trace = 1; starts = ((record { regs = (None ∷ None ∷ (Some 0) ∷ None ∷ None ∷ []); homed = (0 ∷ 1 ∷ 2 ∷ 3 ∷ 4 ∷ 5 ∷ 6 ∷ []) }) ∷ []); ends = ((record { regs = (None ∷ None ∷ None ∷ None ∷ None ∷ []); homed = (0 ∷ 1 ∷ 2 ∷ 3 ∷ 4 ∷ 5 ∷ 6 ∷ []) }) ∷ []); lines = (((line.Lir 0) ∷ (line.Lir 1) ∷ (line.Lir 2) ∷ (line.Lir 3) ∷ (line.Lir 4) ∷ []) ∷ []); regs = ((0 ∷ 1 ∷ 1 ∷ 1 ∷ 1 ∷ 2 ∷ 1 ∷ 0 ∷ 1 ∷ []) ∷ []) }) ∷ []);
}

abbrev modules_1 : Cut
modules_1 = record {
  flow = record { nodes = ((record { params = []; lirs = ((record { template = code.Global 8; uses = []; def = (Some 0); call = false }) ∷ (record { template = code.Const 3; uses = []; def = (Some 1); call = false }) ∷ (record { template = code.Store; uses = (0 ∷ 1 ∷ []); def = None; call = false }) ∷ []); end = end.Return None; freq = 1048576; preds = []; enter = None }) ∷ []); values = 2; args = 0; counted = false; local_cells = 0; local_bytes = 0 };
  traces = ((record { nodes = (0 ∷ []) }) ∷ []);
  outs = ((record { trace = 0; starts = ((record { regs = (None ∷ None ∷ None ∷ None ∷ None ∷ []); homed = [] }) ∷ []); ends = ((record { regs = (None ∷ None ∷ None ∷ None ∷ None ∷ []); homed = [] }) ∷ []); lines = (((line.Lir 0) ∷ (line.Lir 1) ∷ (line.Lir 2) ∷ []) ∷ []); regs = ((0 ∷ 1 ∷ 0 ∷ 1 ∷ []) ∷ []) }) ∷ []);
}

abbrev modules_2 : Cut
modules_2 = record {
  flow = record { nodes = ((record { params = []; lirs = ((record { template = code.Const 1; uses = []; def = (Some 0); call = false }) ∷ (record { template = code.Global 8; uses = []; def = (Some 1); call = false }) ∷ (record { template = code.Load; uses = (1 ∷ []); def = (Some 2); call = false }) ∷ (record { template = code.Const 3; uses = []; def = (Some 3); call = false }) ∷ (record { template = code.Global 8; uses = []; def = (Some 4); call = false }) ∷ (record { template = code.Load; uses = (4 ∷ []); def = (Some 5); call = false }) ∷ (record { template = code.Const 5; uses = []; def = (Some 6); call = false }) ∷ (record { template = code.Const 6; uses = []; def = (Some 7); call = false }) ∷ (record { template = code.Global 8; uses = []; def = (Some 8); call = false }) ∷ (record { template = code.Load; uses = (8 ∷ []); def = (Some 9); call = false }) ∷ (record { template = code.Call 0; uses = (0 ∷ 2 ∷ 3 ∷ 5 ∷ 6 ∷ 7 ∷ 9 ∷ []); def = (Some 10); call = true }) ∷ (record { template = code.Const 4; uses = []; def = (Some 11); call = false }) ∷ (record { template = code.Svc 2; uses = (10 ∷ 11 ∷ []); def = None; call = true }) ∷ (record { template = code.Const 10; uses = []; def = (Some 12); call = false }) ∷ (record { template = code.Svc 1; uses = (12 ∷ []); def = None; call = true }) ∷ []); end = end.Return None; freq = 1048576; preds = []; enter = None }) ∷ []); values = 13; args = 0; counted = false; local_cells = 0; local_bytes = 0 };
  traces = ((record { nodes = (0 ∷ []) }) ∷ []);
  outs = ((record { trace = 0; starts = ((record { regs = (None ∷ None ∷ None ∷ None ∷ None ∷ []); homed = [] }) ∷ []); ends = ((record { regs = (None ∷ None ∷ None ∷ None ∷ None ∷ []); homed = [] }) ∷ []); lines = (((line.Lir 0) ∷ (line.Store 0 0) ∷ (line.Lir 1) ∷ (line.Lir 2) ∷ (line.Lir 3) ∷ (line.Lir 4) ∷ (line.Lir 5) ∷ (line.Lir 6) ∷ (line.Lir 7) ∷ (line.Store 0 7) ∷ (line.Lir 8) ∷ (line.Lir 9) ∷ (line.Store 0 9) ∷ (line.Load 0 0) ∷ (line.Moves ((record { to = (place.Reg 0); from = (place.Reg 0) }) ∷ (record { to = (place.Reg 1); from = (place.Reg 1) }) ∷ (record { to = (place.Reg 2); from = (place.Reg 2) }) ∷ (record { to = (place.Reg 3); from = (place.Reg 3) }) ∷ (record { to = (place.Out 0); from = (place.Reg 4) }) ∷ (record { to = (place.Out 1); from = (place.Home 7) }) ∷ (record { to = (place.Out 2); from = (place.Home 9) }) ∷ [])) ∷ (line.Lir 10) ∷ (line.Lir 11) ∷ (line.Moves ((record { to = (place.Reg 0); from = (place.Reg 0) }) ∷ (record { to = (place.Reg 1); from = (place.Reg 1) }) ∷ [])) ∷ (line.Lir 12) ∷ (line.Lir 13) ∷ (line.Moves ((record { to = (place.Reg 0); from = (place.Reg 0) }) ∷ [])) ∷ (line.Lir 14) ∷ []) ∷ []); regs = ((0 ∷ 0 ∷ 0 ∷ 1 ∷ 2 ∷ 0 ∷ 0 ∷ 3 ∷ 4 ∷ 0 ∷ 0 ∷ 0 ∷ 0 ∷ 1 ∷ 0 ∷ []) ∷ []) }) ∷ []);
}

abbrev modules : List Cut
modules = modules_0 ∷ modules_1 ∷ modules_2 ∷ []

modules_frames : map frame_of (all_placed steps_of (all_allocated modules)) ≡ 64 ∷ 8 ∷ 56 ∷ []
modules_frames = refl

modules_words : code_of (all_placed steps_of (all_allocated modules)) ≡ 2483028063 ∷ 2483028073 ∷ 3556769793 ∷ 3531603971 ∷ 2432704612 ∷ 3942776991 ∷ 1409286312 ∷ 4167264293 ∷ 4163069957 ∷ 2852389859 ∷ 402653178 ∷ 3942776959 ∷ 1409286306 ∷ 946038821 ∷ 941844485 ∷ 2432697443 ∷ 402653179 ∷ 3596551104 ∷ 3531603971 ∷ 3942711423 ∷ 1409286274 ∷ 4163069983 ∷ 2432704611 ∷ 402653180 ∷ 3596551104 ∷ 3531603972 ∷ 3531603973 ∷ 3531603974 ∷ 3942711455 ∷ 1409286210 ∷ 946104325 ∷ 3942842527 ∷ 1409286210 ∷ 946104390 ∷ 3943039167 ∷ 1409286273 ∷ 3019898981 ∷ 2432697476 ∷ 402653172 ∷ 3406168224 ∷ 3596551104 ∷ 3036676180 ∷ 3558867200 ∷ 3506439828 ∷ 3510633471 ∷ 3506504703 ∷ 4177527806 ∷ 3531604208 ∷ 3943695103 ∷ 1409286210 ∷ 3558867232 ∷ 3406824183 ∷ 2852193252 ∷ 4177528800 ∷ 4177529825 ∷ 4177530850 ∷ 4177531875 ∷ 4181730273 ∷ 4177532897 ∷ 4181731299 ∷ 4177533923 ∷ 4181732321 ∷ 4177534945 ∷ 3942907935 ∷ 1409286689 ∷ 2600631428 ∷ 4181727202 ∷ 2332295168 ∷ 4181726180 ∷ 3406036992 ∷ 2600696898 ∷ 2332164096 ∷ 2332098560 ∷ 2852127712 ∷ 4181722110 ∷ 2436891647 ∷ 2432762879 ∷ 3531604208 ∷ 2333082359 ∷ 2432698004 ∷ 3596551104 ∷ 2852127714 ∷ 2436891392 ∷ 2432704512 ∷ 2436891393 ∷ 2432704545 ∷ 4181721121 ∷ 2332164129 ∷ 4177526785 ∷ 4181723104 ∷ 4181729249 ∷ 4181725154 ∷ 4181728227 ∷ 4181724132 ∷ 402653155 ∷ 3510633471 ∷ 3506447359 ∷ 4177527806 ∷ 2436891392 ∷ 2432704512 ∷ 3531604065 ∷ 4177526785 ∷ 4181722110 ∷ 2436891647 ∷ 2432705535 ∷ 3596551104 ∷ 3510633471 ∷ 3506496511 ∷ 4177530878 ∷ 3531604000 ∷ 4177531872 ∷ 2436891392 ∷ 2432704512 ∷ 4181721089 ∷ 3531604066 ∷ 2436891392 ∷ 2432704512 ∷ 4181721091 ∷ 3531604132 ∷ 3531604160 ∷ 4177532896 ∷ 2436891392 ∷ 2432704512 ∷ 4181721088 ∷ 4177533920 ∷ 4181726176 ∷ 4177527780 ∷ 4181727217 ∷ 4177528817 ∷ 4181728241 ∷ 4177529841 ∷ 2550136742 ∷ 3531604097 ∷ 3556769857 ∷ 3531604288 ∷ 3556769825 ∷ 4181725182 ∷ 2436891647 ∷ 2432754687 ∷ 3596551104 ∷ []
modules_words = refl
