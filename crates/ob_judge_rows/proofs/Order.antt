-- Small modules, and what the judgement says of them. Written by bench/judged_rows.py from their texts.
use Rattle.std.specs.Prelude.{◌≡◌, ℕ, [], ◌∷◌, true, false, Some, None, pos}
use Rattle.std.proofs.Common.{refl}
use Rattle.ob_symbol.specs.declared.symbol.Symbol.{Symbol}
use Rattle.ob_symbol.specs.declared.symbol.Kind.{Kind}
use Rattle.ob_symbol.specs.declared.symbol.Kind.TheVariants.{Int, Ident}
use Rattle.ob_syntax.specs.Syntax as S
use Rattle.ob_syntax.specs.declared.expressions.Relation.TheVariants as TheRelation
use Rattle.ob_syntax.specs.declared.expressions.AddOperator.TheVariants as TheAddOperator
use Rattle.ob_syntax.specs.declared.expressions.MulOperator.TheVariants as TheMulOperator
use Rattle.ob_syntax.specs.declared.statements.Label.TheVariants as TheLabel
use Rattle.ob_types.specs.declared.types.Mode.TheVariants as TheMode
use Rattle.ob_types.specs.declared.tree.Relation.TheVariants as TheComparison
use Rattle.ob_judge.specs.Shapes as H
use Rattle.ob_judge.specs.Image as I
use Rattle.ob_judge.specs.Modules.{Parsed, Legal, Fault, checked}

abbrev symbol : Kind → ℕ → ℕ → Symbol
symbol kind from to = record { kind = kind; from = from; to = to }

-- MODULE M; TYPE R = RECORD x: INTEGER END; E = RECORD (R) y: INTEGER END; F = RECORD (E) z: INTEGER END; P = POINTER TO R; Q = POINTER TO E; T = POINTER TO F; VAR p, p2: P; q: Q; t: T; PROCEDURE V(VAR p: P); END V; PROCEDURE VX(VAR i: INTEGER); END VX; PROCEDURE VR(VAR r: R); END VR; PROCEDURE S(r: R); END S; BEGIN CASE p OF Q: p.y := 1; q := p; p := p2; p^ := p2^ | P: p.x := 2 END END M.
abbrev narrow_1_0 : Parsed
narrow_1_0 = record { source = record { bytes = (77 ∷ 79 ∷ 68 ∷ 85 ∷ 76 ∷ 69 ∷ 32 ∷ 77 ∷ 59 ∷ 32 ∷ 84 ∷ 89 ∷ 80 ∷ 69 ∷ 32 ∷ 82 ∷ 32 ∷ 61 ∷ 32 ∷ 82 ∷ 69 ∷ 67 ∷ 79 ∷ 82 ∷ 68 ∷ 32 ∷ 120 ∷ 58 ∷ 32 ∷ 73 ∷ 78 ∷ 84 ∷ 69 ∷ 71 ∷ 69 ∷ 82 ∷ 32 ∷ 69 ∷ 78 ∷ 68 ∷ 59 ∷ 32 ∷ 69 ∷ 32 ∷ 61 ∷ 32 ∷ 82 ∷ 69 ∷ 67 ∷ 79 ∷ 82 ∷ 68 ∷ 32 ∷ 40 ∷ 82 ∷ 41 ∷ 32 ∷ 121 ∷ 58 ∷ 32 ∷ 73 ∷ 78 ∷ 84 ∷ 69 ∷ 71 ∷ 69 ∷ 82 ∷ 32 ∷ 69 ∷ 78 ∷ 68 ∷ 59 ∷ 32 ∷ 70 ∷ 32 ∷ 61 ∷ 32 ∷ 82 ∷ 69 ∷ 67 ∷ 79 ∷ 82 ∷ 68 ∷ 32 ∷ 40 ∷ 69 ∷ 41 ∷ 32 ∷ 122 ∷ 58 ∷ 32 ∷ 73 ∷ 78 ∷ 84 ∷ 69 ∷ 71 ∷ 69 ∷ 82 ∷ 32 ∷ 69 ∷ 78 ∷ 68 ∷ 59 ∷ 32 ∷ 80 ∷ 32 ∷ 61 ∷ 32 ∷ 80 ∷ 79 ∷ 73 ∷ 78 ∷ 84 ∷ 69 ∷ 82 ∷ 32 ∷ 84 ∷ 79 ∷ 32 ∷ 82 ∷ 59 ∷ 32 ∷ 81 ∷ 32 ∷ 61 ∷ 32 ∷ 80 ∷ 79 ∷ 73 ∷ 78 ∷ 84 ∷ 69 ∷ 82 ∷ 32 ∷ 84 ∷ 79 ∷ 32 ∷ 69 ∷ 59 ∷ 32 ∷ 84 ∷ 32 ∷ 61 ∷ 32 ∷ 80 ∷ 79 ∷ 73 ∷ 78 ∷ 84 ∷ 69 ∷ 82 ∷ 32 ∷ 84 ∷ 79 ∷ 32 ∷ 70 ∷ 59 ∷ 32 ∷ 86 ∷ 65 ∷ 82 ∷ 32 ∷ 112 ∷ 44 ∷ 32 ∷ 112 ∷ 50 ∷ 58 ∷ 32 ∷ 80 ∷ 59 ∷ 32 ∷ 113 ∷ 58 ∷ 32 ∷ 81 ∷ 59 ∷ 32 ∷ 116 ∷ 58 ∷ 32 ∷ 84 ∷ 59 ∷ 32 ∷ 80 ∷ 82 ∷ 79 ∷ 67 ∷ 69 ∷ 68 ∷ 85 ∷ 82 ∷ 69 ∷ 32 ∷ 86 ∷ 40 ∷ 86 ∷ 65 ∷ 82 ∷ 32 ∷ 112 ∷ 58 ∷ 32 ∷ 80 ∷ 41 ∷ 59 ∷ 32 ∷ 69 ∷ 78 ∷ 68 ∷ 32 ∷ 86 ∷ 59 ∷ 32 ∷ 80 ∷ 82 ∷ 79 ∷ 67 ∷ 69 ∷ 68 ∷ 85 ∷ 82 ∷ 69 ∷ 32 ∷ 86 ∷ 88 ∷ 40 ∷ 86 ∷ 65 ∷ 82 ∷ 32 ∷ 105 ∷ 58 ∷ 32 ∷ 73 ∷ 78 ∷ 84 ∷ 69 ∷ 71 ∷ 69 ∷ 82 ∷ 41 ∷ 59 ∷ 32 ∷ 69 ∷ 78 ∷ 68 ∷ 32 ∷ 86 ∷ 88 ∷ 59 ∷ 32 ∷ 80 ∷ 82 ∷ 79 ∷ 67 ∷ 69 ∷ 68 ∷ 85 ∷ 82 ∷ 69 ∷ 32 ∷ 86 ∷ 82 ∷ 40 ∷ 86 ∷ 65 ∷ 82 ∷ 32 ∷ 114 ∷ 58 ∷ 32 ∷ 82 ∷ 41 ∷ 59 ∷ 32 ∷ 69 ∷ 78 ∷ 68 ∷ 32 ∷ 86 ∷ 82 ∷ 59 ∷ 32 ∷ 80 ∷ 82 ∷ 79 ∷ 67 ∷ 69 ∷ 68 ∷ 85 ∷ 82 ∷ 69 ∷ 32 ∷ 83 ∷ 40 ∷ 114 ∷ 58 ∷ 32 ∷ 82 ∷ 41 ∷ 59 ∷ 32 ∷ 69 ∷ 78 ∷ 68 ∷ 32 ∷ 83 ∷ 59 ∷ 32 ∷ 66 ∷ 69 ∷ 71 ∷ 73 ∷ 78 ∷ 32 ∷ 67 ∷ 65 ∷ 83 ∷ 69 ∷ 32 ∷ 112 ∷ 32 ∷ 79 ∷ 70 ∷ 32 ∷ 81 ∷ 58 ∷ 32 ∷ 112 ∷ 46 ∷ 121 ∷ 32 ∷ 58 ∷ 61 ∷ 32 ∷ 49 ∷ 59 ∷ 32 ∷ 113 ∷ 32 ∷ 58 ∷ 61 ∷ 32 ∷ 112 ∷ 59 ∷ 32 ∷ 112 ∷ 32 ∷ 58 ∷ 61 ∷ 32 ∷ 112 ∷ 50 ∷ 59 ∷ 32 ∷ 112 ∷ 94 ∷ 32 ∷ 58 ∷ 61 ∷ 32 ∷ 112 ∷ 50 ∷ 94 ∷ 32 ∷ 124 ∷ 32 ∷ 80 ∷ 58 ∷ 32 ∷ 112 ∷ 46 ∷ 120 ∷ 32 ∷ 58 ∷ 61 ∷ 32 ∷ 50 ∷ 32 ∷ 69 ∷ 78 ∷ 68 ∷ 32 ∷ 69 ∷ 78 ∷ 68 ∷ 32 ∷ 77 ∷ 46 ∷ []); symbols = (symbol (Ident) 0 6 ∷ symbol (Ident) 7 8 ∷ symbol (Ident) 8 9 ∷ symbol (Ident) 10 14 ∷ symbol (Ident) 15 16 ∷ symbol (Ident) 17 18 ∷ symbol (Ident) 19 25 ∷ symbol (Ident) 26 27 ∷ symbol (Ident) 27 28 ∷ symbol (Ident) 29 36 ∷ symbol (Ident) 37 40 ∷ symbol (Ident) 40 41 ∷ symbol (Ident) 42 43 ∷ symbol (Ident) 44 45 ∷ symbol (Ident) 46 52 ∷ symbol (Ident) 53 54 ∷ symbol (Ident) 54 55 ∷ symbol (Ident) 55 56 ∷ symbol (Ident) 57 58 ∷ symbol (Ident) 58 59 ∷ symbol (Ident) 60 67 ∷ symbol (Ident) 68 71 ∷ symbol (Ident) 71 72 ∷ symbol (Ident) 73 74 ∷ symbol (Ident) 75 76 ∷ symbol (Ident) 77 83 ∷ symbol (Ident) 84 85 ∷ symbol (Ident) 85 86 ∷ symbol (Ident) 86 87 ∷ symbol (Ident) 88 89 ∷ symbol (Ident) 89 90 ∷ symbol (Ident) 91 98 ∷ symbol (Ident) 99 102 ∷ symbol (Ident) 102 103 ∷ symbol (Ident) 104 105 ∷ symbol (Ident) 106 107 ∷ symbol (Ident) 108 115 ∷ symbol (Ident) 116 118 ∷ symbol (Ident) 119 120 ∷ symbol (Ident) 120 121 ∷ symbol (Ident) 122 123 ∷ symbol (Ident) 124 125 ∷ symbol (Ident) 126 133 ∷ symbol (Ident) 134 136 ∷ symbol (Ident) 137 138 ∷ symbol (Ident) 138 139 ∷ symbol (Ident) 140 141 ∷ symbol (Ident) 142 143 ∷ symbol (Ident) 144 151 ∷ symbol (Ident) 152 154 ∷ symbol (Ident) 155 156 ∷ symbol (Ident) 156 157 ∷ symbol (Ident) 158 161 ∷ symbol (Ident) 162 163 ∷ symbol (Ident) 163 164 ∷ symbol (Ident) 165 167 ∷ symbol (Ident) 167 168 ∷ symbol (Ident) 169 170 ∷ symbol (Ident) 170 171 ∷ symbol (Ident) 172 173 ∷ symbol (Ident) 173 174 ∷ symbol (Ident) 175 176 ∷ symbol (Ident) 176 177 ∷ symbol (Ident) 178 179 ∷ symbol (Ident) 179 180 ∷ symbol (Ident) 181 182 ∷ symbol (Ident) 182 183 ∷ symbol (Ident) 184 193 ∷ symbol (Ident) 194 195 ∷ symbol (Ident) 195 196 ∷ symbol (Ident) 196 199 ∷ symbol (Ident) 200 201 ∷ symbol (Ident) 201 202 ∷ symbol (Ident) 203 204 ∷ symbol (Ident) 204 205 ∷ symbol (Ident) 205 206 ∷ symbol (Ident) 207 210 ∷ symbol (Ident) 211 212 ∷ symbol (Ident) 212 213 ∷ symbol (Ident) 214 223 ∷ symbol (Ident) 224 226 ∷ symbol (Ident) 226 227 ∷ symbol (Ident) 227 230 ∷ symbol (Ident) 231 232 ∷ symbol (Ident) 232 233 ∷ symbol (Ident) 234 241 ∷ symbol (Ident) 241 242 ∷ symbol (Ident) 242 243 ∷ symbol (Ident) 244 247 ∷ symbol (Ident) 248 250 ∷ symbol (Ident) 250 251 ∷ symbol (Ident) 252 261 ∷ symbol (Ident) 262 264 ∷ symbol (Ident) 264 265 ∷ symbol (Ident) 265 268 ∷ symbol (Ident) 269 270 ∷ symbol (Ident) 270 271 ∷ symbol (Ident) 272 273 ∷ symbol (Ident) 273 274 ∷ symbol (Ident) 274 275 ∷ symbol (Ident) 276 279 ∷ symbol (Ident) 280 282 ∷ symbol (Ident) 282 283 ∷ symbol (Ident) 284 293 ∷ symbol (Ident) 294 295 ∷ symbol (Ident) 295 296 ∷ symbol (Ident) 296 297 ∷ symbol (Ident) 297 298 ∷ symbol (Ident) 299 300 ∷ symbol (Ident) 300 301 ∷ symbol (Ident) 301 302 ∷ symbol (Ident) 303 306 ∷ symbol (Ident) 307 308 ∷ symbol (Ident) 308 309 ∷ symbol (Ident) 310 315 ∷ symbol (Ident) 316 320 ∷ symbol (Ident) 321 322 ∷ symbol (Ident) 323 325 ∷ symbol (Ident) 326 327 ∷ symbol (Ident) 327 328 ∷ symbol (Ident) 329 330 ∷ symbol (Ident) 330 331 ∷ symbol (Ident) 331 332 ∷ symbol (Ident) 333 335 ∷ symbol (Int (pos 1)) 336 337 ∷ symbol (Ident) 337 338 ∷ symbol (Ident) 339 340 ∷ symbol (Ident) 341 343 ∷ symbol (Ident) 344 345 ∷ symbol (Ident) 345 346 ∷ symbol (Ident) 347 348 ∷ symbol (Ident) 349 351 ∷ symbol (Ident) 352 354 ∷ symbol (Ident) 354 355 ∷ symbol (Ident) 356 357 ∷ symbol (Ident) 357 358 ∷ symbol (Ident) 359 361 ∷ symbol (Ident) 362 364 ∷ symbol (Ident) 364 365 ∷ symbol (Ident) 366 367 ∷ symbol (Ident) 368 369 ∷ symbol (Ident) 369 370 ∷ symbol (Ident) 371 372 ∷ symbol (Ident) 372 373 ∷ symbol (Ident) 373 374 ∷ symbol (Ident) 375 377 ∷ symbol (Int (pos 2)) 378 379 ∷ symbol (Ident) 380 383 ∷ symbol (Ident) 384 387 ∷ symbol (Ident) 388 389 ∷ symbol (Ident) 389 390 ∷ []) }; tree = record { module_word = 0; name = 1; semicolon = 0; imports = None; decls = (S.decls None (Some (record { type_word = 0; each = (record { name = (record { name = 4; star = None }); equal = 0; is = (S.Record 6 None (S.fields (record { first = (record { name = 7; star = None }); more = [] }) 0 (S.Named (record { name = 9; member = None }))) S.no_more_fields 0); semicolon = 0 } ∷ record { name = (record { name = 12; star = None }); equal = 0; is = (S.Record 14 (Some (record { left_paren = 0; name = (record { name = 16; member = None }); right_paren = 0 })) (S.fields (record { first = (record { name = 18; star = None }); more = [] }) 0 (S.Named (record { name = 20; member = None }))) S.no_more_fields 0); semicolon = 0 } ∷ record { name = (record { name = 23; star = None }); equal = 0; is = (S.Record 25 (Some (record { left_paren = 0; name = (record { name = 27; member = None }); right_paren = 0 })) (S.fields (record { first = (record { name = 29; star = None }); more = [] }) 0 (S.Named (record { name = 31; member = None }))) S.no_more_fields 0); semicolon = 0 } ∷ record { name = (record { name = 34; star = None }); equal = 0; is = (S.Pointer 36 0 (S.Named (record { name = 38; member = None }))); semicolon = 0 } ∷ record { name = (record { name = 40; star = None }); equal = 0; is = (S.Pointer 42 0 (S.Named (record { name = 44; member = None }))); semicolon = 0 } ∷ record { name = (record { name = 46; star = None }); equal = 0; is = (S.Pointer 48 0 (S.Named (record { name = 50; member = None }))); semicolon = 0 } ∷ []) })) (Some (record { var_word = 0; each = (record { names = (record { first = (record { name = 53; star = None }); more = (record { comma = 0; name = (record { name = 55; star = None }) } ∷ []) }); colon = 0; of = (S.Named (record { name = 57; member = None })); semicolon = 0 } ∷ record { names = (record { first = (record { name = 59; star = None }); more = [] }); colon = 0; of = (S.Named (record { name = 61; member = None })); semicolon = 0 } ∷ record { names = (record { first = (record { name = 63; star = None }); more = [] }); colon = 0; of = (S.Named (record { name = 65; member = None })); semicolon = 0 } ∷ []) })) (S.procedure 0 (record { name = 68; star = None }) (Some (record { left_paren = 0; sections = Some (record { first = (record { var_word = Some 0; first = 71; more = []; colon = 0; open_array = None; of = (record { name = 73; member = None }) }); more = [] }); right_paren = 0; result = None })) 0 (S.decls None None None S.no_procedure) None None 76 77 0 (S.procedure 0 (record { name = 80; star = None }) (Some (record { left_paren = 0; sections = Some (record { first = (record { var_word = Some 0; first = 83; more = []; colon = 0; open_array = None; of = (record { name = 85; member = None }) }); more = [] }); right_paren = 0; result = None })) 0 (S.decls None None None S.no_procedure) None None 88 89 0 (S.procedure 0 (record { name = 92; star = None }) (Some (record { left_paren = 0; sections = Some (record { first = (record { var_word = Some 0; first = 95; more = []; colon = 0; open_array = None; of = (record { name = 97; member = None }) }); more = [] }); right_paren = 0; result = None })) 0 (S.decls None None None S.no_procedure) None None 100 101 0 (S.procedure 0 (record { name = 104; star = None }) (Some (record { left_paren = 0; sections = Some (record { first = (record { var_word = None; first = 106; more = []; colon = 0; open_array = None; of = (record { name = 108; member = None }) }); more = [] }); right_paren = 0; result = None })) 0 (S.decls None None None S.no_procedure) None None 111 112 0 S.no_procedure))))); body = (Some (record { begin_word = 0; stats = (S.stats (S.Case 0 (S.only (S.simple None (S.term (S.Designated 116 S.no_selector) S.no_factor) S.no_term)) 0 (S.one_case (record { low = TheLabel.Named (record { name = 118; member = None }); high = None }) [] 0 (S.stats (S.AssignOrCall (record { name = 120; selectors = (S.selected (S.Field 0 122) S.no_selector) }) (Some (record { becomes = 0; value = (S.only (S.simple None (S.term (S.Int 124) S.no_factor) S.no_term)) }))) (S.next_stat 0 (S.AssignOrCall (record { name = 126; selectors = S.no_selector }) (Some (record { becomes = 0; value = (S.only (S.simple None (S.term (S.Designated 128 S.no_selector) S.no_factor) S.no_term)) }))) (S.next_stat 0 (S.AssignOrCall (record { name = 130; selectors = S.no_selector }) (Some (record { becomes = 0; value = (S.only (S.simple None (S.term (S.Designated 132 S.no_selector) S.no_factor) S.no_term)) }))) (S.next_stat 0 (S.AssignOrCall (record { name = 134; selectors = (S.selected (S.Arrow 0) S.no_selector) }) (Some (record { becomes = 0; value = (S.only (S.simple None (S.term (S.Designated 137 (S.selected (S.Arrow 0) S.no_selector)) S.no_factor) S.no_term)) }))) S.no_stat))))) (S.next_case 0 (S.one_case (record { low = TheLabel.Named (record { name = 140; member = None }); high = None }) [] 0 (S.stats (S.AssignOrCall (record { name = 142; selectors = (S.selected (S.Field 0 144) S.no_selector) }) (Some (record { becomes = 0; value = (S.only (S.simple None (S.term (S.Int 146) S.no_factor) S.no_term)) }))) S.no_stat)) S.no_next_case) 0) S.no_stat) })); end_word = 0; end_name = 149; period = 0 } }

pub narrow_1 : checked (narrow_1_0 ∷ []) ≡ Fault 0 31 362
narrow_1 = refl

-- MODULE M; TYPE R = RECORD x: INTEGER END; E = RECORD (R) y: INTEGER END; F = RECORD (E) z: INTEGER END; P = POINTER TO R; Q = POINTER TO E; T = POINTER TO F; VAR p, p2: P; q: Q; t: T; PROCEDURE V(VAR p: P); END V; PROCEDURE VX(VAR i: INTEGER); END VX; PROCEDURE VR(VAR r: R); END VR; PROCEDURE S(r: R); END S; BEGIN CASE p OF Q: V(p) END END M.
abbrev narrow_2_0 : Parsed
narrow_2_0 = record { source = record { bytes = (77 ∷ 79 ∷ 68 ∷ 85 ∷ 76 ∷ 69 ∷ 32 ∷ 77 ∷ 59 ∷ 32 ∷ 84 ∷ 89 ∷ 80 ∷ 69 ∷ 32 ∷ 82 ∷ 32 ∷ 61 ∷ 32 ∷ 82 ∷ 69 ∷ 67 ∷ 79 ∷ 82 ∷ 68 ∷ 32 ∷ 120 ∷ 58 ∷ 32 ∷ 73 ∷ 78 ∷ 84 ∷ 69 ∷ 71 ∷ 69 ∷ 82 ∷ 32 ∷ 69 ∷ 78 ∷ 68 ∷ 59 ∷ 32 ∷ 69 ∷ 32 ∷ 61 ∷ 32 ∷ 82 ∷ 69 ∷ 67 ∷ 79 ∷ 82 ∷ 68 ∷ 32 ∷ 40 ∷ 82 ∷ 41 ∷ 32 ∷ 121 ∷ 58 ∷ 32 ∷ 73 ∷ 78 ∷ 84 ∷ 69 ∷ 71 ∷ 69 ∷ 82 ∷ 32 ∷ 69 ∷ 78 ∷ 68 ∷ 59 ∷ 32 ∷ 70 ∷ 32 ∷ 61 ∷ 32 ∷ 82 ∷ 69 ∷ 67 ∷ 79 ∷ 82 ∷ 68 ∷ 32 ∷ 40 ∷ 69 ∷ 41 ∷ 32 ∷ 122 ∷ 58 ∷ 32 ∷ 73 ∷ 78 ∷ 84 ∷ 69 ∷ 71 ∷ 69 ∷ 82 ∷ 32 ∷ 69 ∷ 78 ∷ 68 ∷ 59 ∷ 32 ∷ 80 ∷ 32 ∷ 61 ∷ 32 ∷ 80 ∷ 79 ∷ 73 ∷ 78 ∷ 84 ∷ 69 ∷ 82 ∷ 32 ∷ 84 ∷ 79 ∷ 32 ∷ 82 ∷ 59 ∷ 32 ∷ 81 ∷ 32 ∷ 61 ∷ 32 ∷ 80 ∷ 79 ∷ 73 ∷ 78 ∷ 84 ∷ 69 ∷ 82 ∷ 32 ∷ 84 ∷ 79 ∷ 32 ∷ 69 ∷ 59 ∷ 32 ∷ 84 ∷ 32 ∷ 61 ∷ 32 ∷ 80 ∷ 79 ∷ 73 ∷ 78 ∷ 84 ∷ 69 ∷ 82 ∷ 32 ∷ 84 ∷ 79 ∷ 32 ∷ 70 ∷ 59 ∷ 32 ∷ 86 ∷ 65 ∷ 82 ∷ 32 ∷ 112 ∷ 44 ∷ 32 ∷ 112 ∷ 50 ∷ 58 ∷ 32 ∷ 80 ∷ 59 ∷ 32 ∷ 113 ∷ 58 ∷ 32 ∷ 81 ∷ 59 ∷ 32 ∷ 116 ∷ 58 ∷ 32 ∷ 84 ∷ 59 ∷ 32 ∷ 80 ∷ 82 ∷ 79 ∷ 67 ∷ 69 ∷ 68 ∷ 85 ∷ 82 ∷ 69 ∷ 32 ∷ 86 ∷ 40 ∷ 86 ∷ 65 ∷ 82 ∷ 32 ∷ 112 ∷ 58 ∷ 32 ∷ 80 ∷ 41 ∷ 59 ∷ 32 ∷ 69 ∷ 78 ∷ 68 ∷ 32 ∷ 86 ∷ 59 ∷ 32 ∷ 80 ∷ 82 ∷ 79 ∷ 67 ∷ 69 ∷ 68 ∷ 85 ∷ 82 ∷ 69 ∷ 32 ∷ 86 ∷ 88 ∷ 40 ∷ 86 ∷ 65 ∷ 82 ∷ 32 ∷ 105 ∷ 58 ∷ 32 ∷ 73 ∷ 78 ∷ 84 ∷ 69 ∷ 71 ∷ 69 ∷ 82 ∷ 41 ∷ 59 ∷ 32 ∷ 69 ∷ 78 ∷ 68 ∷ 32 ∷ 86 ∷ 88 ∷ 59 ∷ 32 ∷ 80 ∷ 82 ∷ 79 ∷ 67 ∷ 69 ∷ 68 ∷ 85 ∷ 82 ∷ 69 ∷ 32 ∷ 86 ∷ 82 ∷ 40 ∷ 86 ∷ 65 ∷ 82 ∷ 32 ∷ 114 ∷ 58 ∷ 32 ∷ 82 ∷ 41 ∷ 59 ∷ 32 ∷ 69 ∷ 78 ∷ 68 ∷ 32 ∷ 86 ∷ 82 ∷ 59 ∷ 32 ∷ 80 ∷ 82 ∷ 79 ∷ 67 ∷ 69 ∷ 68 ∷ 85 ∷ 82 ∷ 69 ∷ 32 ∷ 83 ∷ 40 ∷ 114 ∷ 58 ∷ 32 ∷ 82 ∷ 41 ∷ 59 ∷ 32 ∷ 69 ∷ 78 ∷ 68 ∷ 32 ∷ 83 ∷ 59 ∷ 32 ∷ 66 ∷ 69 ∷ 71 ∷ 73 ∷ 78 ∷ 32 ∷ 67 ∷ 65 ∷ 83 ∷ 69 ∷ 32 ∷ 112 ∷ 32 ∷ 79 ∷ 70 ∷ 32 ∷ 81 ∷ 58 ∷ 32 ∷ 86 ∷ 40 ∷ 112 ∷ 41 ∷ 32 ∷ 69 ∷ 78 ∷ 68 ∷ 32 ∷ 69 ∷ 78 ∷ 68 ∷ 32 ∷ 77 ∷ 46 ∷ []); symbols = (symbol (Ident) 0 6 ∷ symbol (Ident) 7 8 ∷ symbol (Ident) 8 9 ∷ symbol (Ident) 10 14 ∷ symbol (Ident) 15 16 ∷ symbol (Ident) 17 18 ∷ symbol (Ident) 19 25 ∷ symbol (Ident) 26 27 ∷ symbol (Ident) 27 28 ∷ symbol (Ident) 29 36 ∷ symbol (Ident) 37 40 ∷ symbol (Ident) 40 41 ∷ symbol (Ident) 42 43 ∷ symbol (Ident) 44 45 ∷ symbol (Ident) 46 52 ∷ symbol (Ident) 53 54 ∷ symbol (Ident) 54 55 ∷ symbol (Ident) 55 56 ∷ symbol (Ident) 57 58 ∷ symbol (Ident) 58 59 ∷ symbol (Ident) 60 67 ∷ symbol (Ident) 68 71 ∷ symbol (Ident) 71 72 ∷ symbol (Ident) 73 74 ∷ symbol (Ident) 75 76 ∷ symbol (Ident) 77 83 ∷ symbol (Ident) 84 85 ∷ symbol (Ident) 85 86 ∷ symbol (Ident) 86 87 ∷ symbol (Ident) 88 89 ∷ symbol (Ident) 89 90 ∷ symbol (Ident) 91 98 ∷ symbol (Ident) 99 102 ∷ symbol (Ident) 102 103 ∷ symbol (Ident) 104 105 ∷ symbol (Ident) 106 107 ∷ symbol (Ident) 108 115 ∷ symbol (Ident) 116 118 ∷ symbol (Ident) 119 120 ∷ symbol (Ident) 120 121 ∷ symbol (Ident) 122 123 ∷ symbol (Ident) 124 125 ∷ symbol (Ident) 126 133 ∷ symbol (Ident) 134 136 ∷ symbol (Ident) 137 138 ∷ symbol (Ident) 138 139 ∷ symbol (Ident) 140 141 ∷ symbol (Ident) 142 143 ∷ symbol (Ident) 144 151 ∷ symbol (Ident) 152 154 ∷ symbol (Ident) 155 156 ∷ symbol (Ident) 156 157 ∷ symbol (Ident) 158 161 ∷ symbol (Ident) 162 163 ∷ symbol (Ident) 163 164 ∷ symbol (Ident) 165 167 ∷ symbol (Ident) 167 168 ∷ symbol (Ident) 169 170 ∷ symbol (Ident) 170 171 ∷ symbol (Ident) 172 173 ∷ symbol (Ident) 173 174 ∷ symbol (Ident) 175 176 ∷ symbol (Ident) 176 177 ∷ symbol (Ident) 178 179 ∷ symbol (Ident) 179 180 ∷ symbol (Ident) 181 182 ∷ symbol (Ident) 182 183 ∷ symbol (Ident) 184 193 ∷ symbol (Ident) 194 195 ∷ symbol (Ident) 195 196 ∷ symbol (Ident) 196 199 ∷ symbol (Ident) 200 201 ∷ symbol (Ident) 201 202 ∷ symbol (Ident) 203 204 ∷ symbol (Ident) 204 205 ∷ symbol (Ident) 205 206 ∷ symbol (Ident) 207 210 ∷ symbol (Ident) 211 212 ∷ symbol (Ident) 212 213 ∷ symbol (Ident) 214 223 ∷ symbol (Ident) 224 226 ∷ symbol (Ident) 226 227 ∷ symbol (Ident) 227 230 ∷ symbol (Ident) 231 232 ∷ symbol (Ident) 232 233 ∷ symbol (Ident) 234 241 ∷ symbol (Ident) 241 242 ∷ symbol (Ident) 242 243 ∷ symbol (Ident) 244 247 ∷ symbol (Ident) 248 250 ∷ symbol (Ident) 250 251 ∷ symbol (Ident) 252 261 ∷ symbol (Ident) 262 264 ∷ symbol (Ident) 264 265 ∷ symbol (Ident) 265 268 ∷ symbol (Ident) 269 270 ∷ symbol (Ident) 270 271 ∷ symbol (Ident) 272 273 ∷ symbol (Ident) 273 274 ∷ symbol (Ident) 274 275 ∷ symbol (Ident) 276 279 ∷ symbol (Ident) 280 282 ∷ symbol (Ident) 282 283 ∷ symbol (Ident) 284 293 ∷ symbol (Ident) 294 295 ∷ symbol (Ident) 295 296 ∷ symbol (Ident) 296 297 ∷ symbol (Ident) 297 298 ∷ symbol (Ident) 299 300 ∷ symbol (Ident) 300 301 ∷ symbol (Ident) 301 302 ∷ symbol (Ident) 303 306 ∷ symbol (Ident) 307 308 ∷ symbol (Ident) 308 309 ∷ symbol (Ident) 310 315 ∷ symbol (Ident) 316 320 ∷ symbol (Ident) 321 322 ∷ symbol (Ident) 323 325 ∷ symbol (Ident) 326 327 ∷ symbol (Ident) 327 328 ∷ symbol (Ident) 329 330 ∷ symbol (Ident) 330 331 ∷ symbol (Ident) 331 332 ∷ symbol (Ident) 332 333 ∷ symbol (Ident) 334 337 ∷ symbol (Ident) 338 341 ∷ symbol (Ident) 342 343 ∷ symbol (Ident) 343 344 ∷ []) }; tree = record { module_word = 0; name = 1; semicolon = 0; imports = None; decls = (S.decls None (Some (record { type_word = 0; each = (record { name = (record { name = 4; star = None }); equal = 0; is = (S.Record 6 None (S.fields (record { first = (record { name = 7; star = None }); more = [] }) 0 (S.Named (record { name = 9; member = None }))) S.no_more_fields 0); semicolon = 0 } ∷ record { name = (record { name = 12; star = None }); equal = 0; is = (S.Record 14 (Some (record { left_paren = 0; name = (record { name = 16; member = None }); right_paren = 0 })) (S.fields (record { first = (record { name = 18; star = None }); more = [] }) 0 (S.Named (record { name = 20; member = None }))) S.no_more_fields 0); semicolon = 0 } ∷ record { name = (record { name = 23; star = None }); equal = 0; is = (S.Record 25 (Some (record { left_paren = 0; name = (record { name = 27; member = None }); right_paren = 0 })) (S.fields (record { first = (record { name = 29; star = None }); more = [] }) 0 (S.Named (record { name = 31; member = None }))) S.no_more_fields 0); semicolon = 0 } ∷ record { name = (record { name = 34; star = None }); equal = 0; is = (S.Pointer 36 0 (S.Named (record { name = 38; member = None }))); semicolon = 0 } ∷ record { name = (record { name = 40; star = None }); equal = 0; is = (S.Pointer 42 0 (S.Named (record { name = 44; member = None }))); semicolon = 0 } ∷ record { name = (record { name = 46; star = None }); equal = 0; is = (S.Pointer 48 0 (S.Named (record { name = 50; member = None }))); semicolon = 0 } ∷ []) })) (Some (record { var_word = 0; each = (record { names = (record { first = (record { name = 53; star = None }); more = (record { comma = 0; name = (record { name = 55; star = None }) } ∷ []) }); colon = 0; of = (S.Named (record { name = 57; member = None })); semicolon = 0 } ∷ record { names = (record { first = (record { name = 59; star = None }); more = [] }); colon = 0; of = (S.Named (record { name = 61; member = None })); semicolon = 0 } ∷ record { names = (record { first = (record { name = 63; star = None }); more = [] }); colon = 0; of = (S.Named (record { name = 65; member = None })); semicolon = 0 } ∷ []) })) (S.procedure 0 (record { name = 68; star = None }) (Some (record { left_paren = 0; sections = Some (record { first = (record { var_word = Some 0; first = 71; more = []; colon = 0; open_array = None; of = (record { name = 73; member = None }) }); more = [] }); right_paren = 0; result = None })) 0 (S.decls None None None S.no_procedure) None None 76 77 0 (S.procedure 0 (record { name = 80; star = None }) (Some (record { left_paren = 0; sections = Some (record { first = (record { var_word = Some 0; first = 83; more = []; colon = 0; open_array = None; of = (record { name = 85; member = None }) }); more = [] }); right_paren = 0; result = None })) 0 (S.decls None None None S.no_procedure) None None 88 89 0 (S.procedure 0 (record { name = 92; star = None }) (Some (record { left_paren = 0; sections = Some (record { first = (record { var_word = Some 0; first = 95; more = []; colon = 0; open_array = None; of = (record { name = 97; member = None }) }); more = [] }); right_paren = 0; result = None })) 0 (S.decls None None None S.no_procedure) None None 100 101 0 (S.procedure 0 (record { name = 104; star = None }) (Some (record { left_paren = 0; sections = Some (record { first = (record { var_word = None; first = 106; more = []; colon = 0; open_array = None; of = (record { name = 108; member = None }) }); more = [] }); right_paren = 0; result = None })) 0 (S.decls None None None S.no_procedure) None None 111 112 0 S.no_procedure))))); body = (Some (record { begin_word = 0; stats = (S.stats (S.Case 0 (S.only (S.simple None (S.term (S.Designated 116 S.no_selector) S.no_factor) S.no_term)) 0 (S.one_case (record { low = TheLabel.Named (record { name = 118; member = None }); high = None }) [] 0 (S.stats (S.AssignOrCall (record { name = 120; selectors = (S.selected (S.Parens 0 (S.expressions (S.only (S.simple None (S.term (S.Designated 122 S.no_selector) S.no_factor) S.no_term)) S.no_expression) 0) S.no_selector) }) None) S.no_stat)) S.no_next_case 0) S.no_stat) })); end_word = 0; end_name = 126; period = 0 } }

pub narrow_2 : checked (narrow_2_0 ∷ []) ≡ Fault 0 31 331
narrow_2 = refl

-- MODULE M; TYPE R = RECORD x: INTEGER END; E = RECORD (R) y: INTEGER END; F = RECORD (E) z: INTEGER END; P = POINTER TO R; Q = POINTER TO E; T = POINTER TO F; VAR p, p2: P; q: Q; t: T; PROCEDURE V(VAR p: P); END V; PROCEDURE VX(VAR i: INTEGER); END VX; PROCEDURE VR(VAR r: R); END VR; PROCEDURE S(r: R); END S; BEGIN CASE p OF Q: NEW(p) END END M.
abbrev narrow_3_0 : Parsed
narrow_3_0 = record { source = record { bytes = (77 ∷ 79 ∷ 68 ∷ 85 ∷ 76 ∷ 69 ∷ 32 ∷ 77 ∷ 59 ∷ 32 ∷ 84 ∷ 89 ∷ 80 ∷ 69 ∷ 32 ∷ 82 ∷ 32 ∷ 61 ∷ 32 ∷ 82 ∷ 69 ∷ 67 ∷ 79 ∷ 82 ∷ 68 ∷ 32 ∷ 120 ∷ 58 ∷ 32 ∷ 73 ∷ 78 ∷ 84 ∷ 69 ∷ 71 ∷ 69 ∷ 82 ∷ 32 ∷ 69 ∷ 78 ∷ 68 ∷ 59 ∷ 32 ∷ 69 ∷ 32 ∷ 61 ∷ 32 ∷ 82 ∷ 69 ∷ 67 ∷ 79 ∷ 82 ∷ 68 ∷ 32 ∷ 40 ∷ 82 ∷ 41 ∷ 32 ∷ 121 ∷ 58 ∷ 32 ∷ 73 ∷ 78 ∷ 84 ∷ 69 ∷ 71 ∷ 69 ∷ 82 ∷ 32 ∷ 69 ∷ 78 ∷ 68 ∷ 59 ∷ 32 ∷ 70 ∷ 32 ∷ 61 ∷ 32 ∷ 82 ∷ 69 ∷ 67 ∷ 79 ∷ 82 ∷ 68 ∷ 32 ∷ 40 ∷ 69 ∷ 41 ∷ 32 ∷ 122 ∷ 58 ∷ 32 ∷ 73 ∷ 78 ∷ 84 ∷ 69 ∷ 71 ∷ 69 ∷ 82 ∷ 32 ∷ 69 ∷ 78 ∷ 68 ∷ 59 ∷ 32 ∷ 80 ∷ 32 ∷ 61 ∷ 32 ∷ 80 ∷ 79 ∷ 73 ∷ 78 ∷ 84 ∷ 69 ∷ 82 ∷ 32 ∷ 84 ∷ 79 ∷ 32 ∷ 82 ∷ 59 ∷ 32 ∷ 81 ∷ 32 ∷ 61 ∷ 32 ∷ 80 ∷ 79 ∷ 73 ∷ 78 ∷ 84 ∷ 69 ∷ 82 ∷ 32 ∷ 84 ∷ 79 ∷ 32 ∷ 69 ∷ 59 ∷ 32 ∷ 84 ∷ 32 ∷ 61 ∷ 32 ∷ 80 ∷ 79 ∷ 73 ∷ 78 ∷ 84 ∷ 69 ∷ 82 ∷ 32 ∷ 84 ∷ 79 ∷ 32 ∷ 70 ∷ 59 ∷ 32 ∷ 86 ∷ 65 ∷ 82 ∷ 32 ∷ 112 ∷ 44 ∷ 32 ∷ 112 ∷ 50 ∷ 58 ∷ 32 ∷ 80 ∷ 59 ∷ 32 ∷ 113 ∷ 58 ∷ 32 ∷ 81 ∷ 59 ∷ 32 ∷ 116 ∷ 58 ∷ 32 ∷ 84 ∷ 59 ∷ 32 ∷ 80 ∷ 82 ∷ 79 ∷ 67 ∷ 69 ∷ 68 ∷ 85 ∷ 82 ∷ 69 ∷ 32 ∷ 86 ∷ 40 ∷ 86 ∷ 65 ∷ 82 ∷ 32 ∷ 112 ∷ 58 ∷ 32 ∷ 80 ∷ 41 ∷ 59 ∷ 32 ∷ 69 ∷ 78 ∷ 68 ∷ 32 ∷ 86 ∷ 59 ∷ 32 ∷ 80 ∷ 82 ∷ 79 ∷ 67 ∷ 69 ∷ 68 ∷ 85 ∷ 82 ∷ 69 ∷ 32 ∷ 86 ∷ 88 ∷ 40 ∷ 86 ∷ 65 ∷ 82 ∷ 32 ∷ 105 ∷ 58 ∷ 32 ∷ 73 ∷ 78 ∷ 84 ∷ 69 ∷ 71 ∷ 69 ∷ 82 ∷ 41 ∷ 59 ∷ 32 ∷ 69 ∷ 78 ∷ 68 ∷ 32 ∷ 86 ∷ 88 ∷ 59 ∷ 32 ∷ 80 ∷ 82 ∷ 79 ∷ 67 ∷ 69 ∷ 68 ∷ 85 ∷ 82 ∷ 69 ∷ 32 ∷ 86 ∷ 82 ∷ 40 ∷ 86 ∷ 65 ∷ 82 ∷ 32 ∷ 114 ∷ 58 ∷ 32 ∷ 82 ∷ 41 ∷ 59 ∷ 32 ∷ 69 ∷ 78 ∷ 68 ∷ 32 ∷ 86 ∷ 82 ∷ 59 ∷ 32 ∷ 80 ∷ 82 ∷ 79 ∷ 67 ∷ 69 ∷ 68 ∷ 85 ∷ 82 ∷ 69 ∷ 32 ∷ 83 ∷ 40 ∷ 114 ∷ 58 ∷ 32 ∷ 82 ∷ 41 ∷ 59 ∷ 32 ∷ 69 ∷ 78 ∷ 68 ∷ 32 ∷ 83 ∷ 59 ∷ 32 ∷ 66 ∷ 69 ∷ 71 ∷ 73 ∷ 78 ∷ 32 ∷ 67 ∷ 65 ∷ 83 ∷ 69 ∷ 32 ∷ 112 ∷ 32 ∷ 79 ∷ 70 ∷ 32 ∷ 81 ∷ 58 ∷ 32 ∷ 78 ∷ 69 ∷ 87 ∷ 40 ∷ 112 ∷ 41 ∷ 32 ∷ 69 ∷ 78 ∷ 68 ∷ 32 ∷ 69 ∷ 78 ∷ 68 ∷ 32 ∷ 77 ∷ 46 ∷ []); symbols = (symbol (Ident) 0 6 ∷ symbol (Ident) 7 8 ∷ symbol (Ident) 8 9 ∷ symbol (Ident) 10 14 ∷ symbol (Ident) 15 16 ∷ symbol (Ident) 17 18 ∷ symbol (Ident) 19 25 ∷ symbol (Ident) 26 27 ∷ symbol (Ident) 27 28 ∷ symbol (Ident) 29 36 ∷ symbol (Ident) 37 40 ∷ symbol (Ident) 40 41 ∷ symbol (Ident) 42 43 ∷ symbol (Ident) 44 45 ∷ symbol (Ident) 46 52 ∷ symbol (Ident) 53 54 ∷ symbol (Ident) 54 55 ∷ symbol (Ident) 55 56 ∷ symbol (Ident) 57 58 ∷ symbol (Ident) 58 59 ∷ symbol (Ident) 60 67 ∷ symbol (Ident) 68 71 ∷ symbol (Ident) 71 72 ∷ symbol (Ident) 73 74 ∷ symbol (Ident) 75 76 ∷ symbol (Ident) 77 83 ∷ symbol (Ident) 84 85 ∷ symbol (Ident) 85 86 ∷ symbol (Ident) 86 87 ∷ symbol (Ident) 88 89 ∷ symbol (Ident) 89 90 ∷ symbol (Ident) 91 98 ∷ symbol (Ident) 99 102 ∷ symbol (Ident) 102 103 ∷ symbol (Ident) 104 105 ∷ symbol (Ident) 106 107 ∷ symbol (Ident) 108 115 ∷ symbol (Ident) 116 118 ∷ symbol (Ident) 119 120 ∷ symbol (Ident) 120 121 ∷ symbol (Ident) 122 123 ∷ symbol (Ident) 124 125 ∷ symbol (Ident) 126 133 ∷ symbol (Ident) 134 136 ∷ symbol (Ident) 137 138 ∷ symbol (Ident) 138 139 ∷ symbol (Ident) 140 141 ∷ symbol (Ident) 142 143 ∷ symbol (Ident) 144 151 ∷ symbol (Ident) 152 154 ∷ symbol (Ident) 155 156 ∷ symbol (Ident) 156 157 ∷ symbol (Ident) 158 161 ∷ symbol (Ident) 162 163 ∷ symbol (Ident) 163 164 ∷ symbol (Ident) 165 167 ∷ symbol (Ident) 167 168 ∷ symbol (Ident) 169 170 ∷ symbol (Ident) 170 171 ∷ symbol (Ident) 172 173 ∷ symbol (Ident) 173 174 ∷ symbol (Ident) 175 176 ∷ symbol (Ident) 176 177 ∷ symbol (Ident) 178 179 ∷ symbol (Ident) 179 180 ∷ symbol (Ident) 181 182 ∷ symbol (Ident) 182 183 ∷ symbol (Ident) 184 193 ∷ symbol (Ident) 194 195 ∷ symbol (Ident) 195 196 ∷ symbol (Ident) 196 199 ∷ symbol (Ident) 200 201 ∷ symbol (Ident) 201 202 ∷ symbol (Ident) 203 204 ∷ symbol (Ident) 204 205 ∷ symbol (Ident) 205 206 ∷ symbol (Ident) 207 210 ∷ symbol (Ident) 211 212 ∷ symbol (Ident) 212 213 ∷ symbol (Ident) 214 223 ∷ symbol (Ident) 224 226 ∷ symbol (Ident) 226 227 ∷ symbol (Ident) 227 230 ∷ symbol (Ident) 231 232 ∷ symbol (Ident) 232 233 ∷ symbol (Ident) 234 241 ∷ symbol (Ident) 241 242 ∷ symbol (Ident) 242 243 ∷ symbol (Ident) 244 247 ∷ symbol (Ident) 248 250 ∷ symbol (Ident) 250 251 ∷ symbol (Ident) 252 261 ∷ symbol (Ident) 262 264 ∷ symbol (Ident) 264 265 ∷ symbol (Ident) 265 268 ∷ symbol (Ident) 269 270 ∷ symbol (Ident) 270 271 ∷ symbol (Ident) 272 273 ∷ symbol (Ident) 273 274 ∷ symbol (Ident) 274 275 ∷ symbol (Ident) 276 279 ∷ symbol (Ident) 280 282 ∷ symbol (Ident) 282 283 ∷ symbol (Ident) 284 293 ∷ symbol (Ident) 294 295 ∷ symbol (Ident) 295 296 ∷ symbol (Ident) 296 297 ∷ symbol (Ident) 297 298 ∷ symbol (Ident) 299 300 ∷ symbol (Ident) 300 301 ∷ symbol (Ident) 301 302 ∷ symbol (Ident) 303 306 ∷ symbol (Ident) 307 308 ∷ symbol (Ident) 308 309 ∷ symbol (Ident) 310 315 ∷ symbol (Ident) 316 320 ∷ symbol (Ident) 321 322 ∷ symbol (Ident) 323 325 ∷ symbol (Ident) 326 327 ∷ symbol (Ident) 327 328 ∷ symbol (Ident) 329 332 ∷ symbol (Ident) 332 333 ∷ symbol (Ident) 333 334 ∷ symbol (Ident) 334 335 ∷ symbol (Ident) 336 339 ∷ symbol (Ident) 340 343 ∷ symbol (Ident) 344 345 ∷ symbol (Ident) 345 346 ∷ []) }; tree = record { module_word = 0; name = 1; semicolon = 0; imports = None; decls = (S.decls None (Some (record { type_word = 0; each = (record { name = (record { name = 4; star = None }); equal = 0; is = (S.Record 6 None (S.fields (record { first = (record { name = 7; star = None }); more = [] }) 0 (S.Named (record { name = 9; member = None }))) S.no_more_fields 0); semicolon = 0 } ∷ record { name = (record { name = 12; star = None }); equal = 0; is = (S.Record 14 (Some (record { left_paren = 0; name = (record { name = 16; member = None }); right_paren = 0 })) (S.fields (record { first = (record { name = 18; star = None }); more = [] }) 0 (S.Named (record { name = 20; member = None }))) S.no_more_fields 0); semicolon = 0 } ∷ record { name = (record { name = 23; star = None }); equal = 0; is = (S.Record 25 (Some (record { left_paren = 0; name = (record { name = 27; member = None }); right_paren = 0 })) (S.fields (record { first = (record { name = 29; star = None }); more = [] }) 0 (S.Named (record { name = 31; member = None }))) S.no_more_fields 0); semicolon = 0 } ∷ record { name = (record { name = 34; star = None }); equal = 0; is = (S.Pointer 36 0 (S.Named (record { name = 38; member = None }))); semicolon = 0 } ∷ record { name = (record { name = 40; star = None }); equal = 0; is = (S.Pointer 42 0 (S.Named (record { name = 44; member = None }))); semicolon = 0 } ∷ record { name = (record { name = 46; star = None }); equal = 0; is = (S.Pointer 48 0 (S.Named (record { name = 50; member = None }))); semicolon = 0 } ∷ []) })) (Some (record { var_word = 0; each = (record { names = (record { first = (record { name = 53; star = None }); more = (record { comma = 0; name = (record { name = 55; star = None }) } ∷ []) }); colon = 0; of = (S.Named (record { name = 57; member = None })); semicolon = 0 } ∷ record { names = (record { first = (record { name = 59; star = None }); more = [] }); colon = 0; of = (S.Named (record { name = 61; member = None })); semicolon = 0 } ∷ record { names = (record { first = (record { name = 63; star = None }); more = [] }); colon = 0; of = (S.Named (record { name = 65; member = None })); semicolon = 0 } ∷ []) })) (S.procedure 0 (record { name = 68; star = None }) (Some (record { left_paren = 0; sections = Some (record { first = (record { var_word = Some 0; first = 71; more = []; colon = 0; open_array = None; of = (record { name = 73; member = None }) }); more = [] }); right_paren = 0; result = None })) 0 (S.decls None None None S.no_procedure) None None 76 77 0 (S.procedure 0 (record { name = 80; star = None }) (Some (record { left_paren = 0; sections = Some (record { first = (record { var_word = Some 0; first = 83; more = []; colon = 0; open_array = None; of = (record { name = 85; member = None }) }); more = [] }); right_paren = 0; result = None })) 0 (S.decls None None None S.no_procedure) None None 88 89 0 (S.procedure 0 (record { name = 92; star = None }) (Some (record { left_paren = 0; sections = Some (record { first = (record { var_word = Some 0; first = 95; more = []; colon = 0; open_array = None; of = (record { name = 97; member = None }) }); more = [] }); right_paren = 0; result = None })) 0 (S.decls None None None S.no_procedure) None None 100 101 0 (S.procedure 0 (record { name = 104; star = None }) (Some (record { left_paren = 0; sections = Some (record { first = (record { var_word = None; first = 106; more = []; colon = 0; open_array = None; of = (record { name = 108; member = None }) }); more = [] }); right_paren = 0; result = None })) 0 (S.decls None None None S.no_procedure) None None 111 112 0 S.no_procedure))))); body = (Some (record { begin_word = 0; stats = (S.stats (S.Case 0 (S.only (S.simple None (S.term (S.Designated 116 S.no_selector) S.no_factor) S.no_term)) 0 (S.one_case (record { low = TheLabel.Named (record { name = 118; member = None }); high = None }) [] 0 (S.stats (S.AssignOrCall (record { name = 120; selectors = (S.selected (S.Parens 0 (S.expressions (S.only (S.simple None (S.term (S.Designated 122 S.no_selector) S.no_factor) S.no_term)) S.no_expression) 0) S.no_selector) }) None) S.no_stat)) S.no_next_case 0) S.no_stat) })); end_word = 0; end_name = 126; period = 0 } }

pub narrow_3 : checked (narrow_3_0 ∷ []) ≡ Fault 0 31 333
narrow_3 = refl

-- MODULE M; TYPE R = RECORD x: INTEGER END; E = RECORD (R) y: INTEGER END; F = RECORD (E) z: INTEGER END; P = POINTER TO R; Q = POINTER TO E; T = POINTER TO F; VAR p, p2: P; q: Q; t: T; PROCEDURE V(VAR p: P); END V; PROCEDURE VX(VAR i: INTEGER); END VX; PROCEDURE VR(VAR r: R); END VR; PROCEDURE S(r: R); END S; BEGIN CASE p OF Q: VX(p.y); VR(p^); S(p^); VX(p(T).z) END END M.
abbrev narrow_4_0 : Parsed
narrow_4_0 = record { source = record { bytes = (77 ∷ 79 ∷ 68 ∷ 85 ∷ 76 ∷ 69 ∷ 32 ∷ 77 ∷ 59 ∷ 32 ∷ 84 ∷ 89 ∷ 80 ∷ 69 ∷ 32 ∷ 82 ∷ 32 ∷ 61 ∷ 32 ∷ 82 ∷ 69 ∷ 67 ∷ 79 ∷ 82 ∷ 68 ∷ 32 ∷ 120 ∷ 58 ∷ 32 ∷ 73 ∷ 78 ∷ 84 ∷ 69 ∷ 71 ∷ 69 ∷ 82 ∷ 32 ∷ 69 ∷ 78 ∷ 68 ∷ 59 ∷ 32 ∷ 69 ∷ 32 ∷ 61 ∷ 32 ∷ 82 ∷ 69 ∷ 67 ∷ 79 ∷ 82 ∷ 68 ∷ 32 ∷ 40 ∷ 82 ∷ 41 ∷ 32 ∷ 121 ∷ 58 ∷ 32 ∷ 73 ∷ 78 ∷ 84 ∷ 69 ∷ 71 ∷ 69 ∷ 82 ∷ 32 ∷ 69 ∷ 78 ∷ 68 ∷ 59 ∷ 32 ∷ 70 ∷ 32 ∷ 61 ∷ 32 ∷ 82 ∷ 69 ∷ 67 ∷ 79 ∷ 82 ∷ 68 ∷ 32 ∷ 40 ∷ 69 ∷ 41 ∷ 32 ∷ 122 ∷ 58 ∷ 32 ∷ 73 ∷ 78 ∷ 84 ∷ 69 ∷ 71 ∷ 69 ∷ 82 ∷ 32 ∷ 69 ∷ 78 ∷ 68 ∷ 59 ∷ 32 ∷ 80 ∷ 32 ∷ 61 ∷ 32 ∷ 80 ∷ 79 ∷ 73 ∷ 78 ∷ 84 ∷ 69 ∷ 82 ∷ 32 ∷ 84 ∷ 79 ∷ 32 ∷ 82 ∷ 59 ∷ 32 ∷ 81 ∷ 32 ∷ 61 ∷ 32 ∷ 80 ∷ 79 ∷ 73 ∷ 78 ∷ 84 ∷ 69 ∷ 82 ∷ 32 ∷ 84 ∷ 79 ∷ 32 ∷ 69 ∷ 59 ∷ 32 ∷ 84 ∷ 32 ∷ 61 ∷ 32 ∷ 80 ∷ 79 ∷ 73 ∷ 78 ∷ 84 ∷ 69 ∷ 82 ∷ 32 ∷ 84 ∷ 79 ∷ 32 ∷ 70 ∷ 59 ∷ 32 ∷ 86 ∷ 65 ∷ 82 ∷ 32 ∷ 112 ∷ 44 ∷ 32 ∷ 112 ∷ 50 ∷ 58 ∷ 32 ∷ 80 ∷ 59 ∷ 32 ∷ 113 ∷ 58 ∷ 32 ∷ 81 ∷ 59 ∷ 32 ∷ 116 ∷ 58 ∷ 32 ∷ 84 ∷ 59 ∷ 32 ∷ 80 ∷ 82 ∷ 79 ∷ 67 ∷ 69 ∷ 68 ∷ 85 ∷ 82 ∷ 69 ∷ 32 ∷ 86 ∷ 40 ∷ 86 ∷ 65 ∷ 82 ∷ 32 ∷ 112 ∷ 58 ∷ 32 ∷ 80 ∷ 41 ∷ 59 ∷ 32 ∷ 69 ∷ 78 ∷ 68 ∷ 32 ∷ 86 ∷ 59 ∷ 32 ∷ 80 ∷ 82 ∷ 79 ∷ 67 ∷ 69 ∷ 68 ∷ 85 ∷ 82 ∷ 69 ∷ 32 ∷ 86 ∷ 88 ∷ 40 ∷ 86 ∷ 65 ∷ 82 ∷ 32 ∷ 105 ∷ 58 ∷ 32 ∷ 73 ∷ 78 ∷ 84 ∷ 69 ∷ 71 ∷ 69 ∷ 82 ∷ 41 ∷ 59 ∷ 32 ∷ 69 ∷ 78 ∷ 68 ∷ 32 ∷ 86 ∷ 88 ∷ 59 ∷ 32 ∷ 80 ∷ 82 ∷ 79 ∷ 67 ∷ 69 ∷ 68 ∷ 85 ∷ 82 ∷ 69 ∷ 32 ∷ 86 ∷ 82 ∷ 40 ∷ 86 ∷ 65 ∷ 82 ∷ 32 ∷ 114 ∷ 58 ∷ 32 ∷ 82 ∷ 41 ∷ 59 ∷ 32 ∷ 69 ∷ 78 ∷ 68 ∷ 32 ∷ 86 ∷ 82 ∷ 59 ∷ 32 ∷ 80 ∷ 82 ∷ 79 ∷ 67 ∷ 69 ∷ 68 ∷ 85 ∷ 82 ∷ 69 ∷ 32 ∷ 83 ∷ 40 ∷ 114 ∷ 58 ∷ 32 ∷ 82 ∷ 41 ∷ 59 ∷ 32 ∷ 69 ∷ 78 ∷ 68 ∷ 32 ∷ 83 ∷ 59 ∷ 32 ∷ 66 ∷ 69 ∷ 71 ∷ 73 ∷ 78 ∷ 32 ∷ 67 ∷ 65 ∷ 83 ∷ 69 ∷ 32 ∷ 112 ∷ 32 ∷ 79 ∷ 70 ∷ 32 ∷ 81 ∷ 58 ∷ 32 ∷ 86 ∷ 88 ∷ 40 ∷ 112 ∷ 46 ∷ 121 ∷ 41 ∷ 59 ∷ 32 ∷ 86 ∷ 82 ∷ 40 ∷ 112 ∷ 94 ∷ 41 ∷ 59 ∷ 32 ∷ 83 ∷ 40 ∷ 112 ∷ 94 ∷ 41 ∷ 59 ∷ 32 ∷ 86 ∷ 88 ∷ 40 ∷ 112 ∷ 40 ∷ 84 ∷ 41 ∷ 46 ∷ 122 ∷ 41 ∷ 32 ∷ 69 ∷ 78 ∷ 68 ∷ 32 ∷ 69 ∷ 78 ∷ 68 ∷ 32 ∷ 77 ∷ 46 ∷ []); symbols = (symbol (Ident) 0 6 ∷ symbol (Ident) 7 8 ∷ symbol (Ident) 8 9 ∷ symbol (Ident) 10 14 ∷ symbol (Ident) 15 16 ∷ symbol (Ident) 17 18 ∷ symbol (Ident) 19 25 ∷ symbol (Ident) 26 27 ∷ symbol (Ident) 27 28 ∷ symbol (Ident) 29 36 ∷ symbol (Ident) 37 40 ∷ symbol (Ident) 40 41 ∷ symbol (Ident) 42 43 ∷ symbol (Ident) 44 45 ∷ symbol (Ident) 46 52 ∷ symbol (Ident) 53 54 ∷ symbol (Ident) 54 55 ∷ symbol (Ident) 55 56 ∷ symbol (Ident) 57 58 ∷ symbol (Ident) 58 59 ∷ symbol (Ident) 60 67 ∷ symbol (Ident) 68 71 ∷ symbol (Ident) 71 72 ∷ symbol (Ident) 73 74 ∷ symbol (Ident) 75 76 ∷ symbol (Ident) 77 83 ∷ symbol (Ident) 84 85 ∷ symbol (Ident) 85 86 ∷ symbol (Ident) 86 87 ∷ symbol (Ident) 88 89 ∷ symbol (Ident) 89 90 ∷ symbol (Ident) 91 98 ∷ symbol (Ident) 99 102 ∷ symbol (Ident) 102 103 ∷ symbol (Ident) 104 105 ∷ symbol (Ident) 106 107 ∷ symbol (Ident) 108 115 ∷ symbol (Ident) 116 118 ∷ symbol (Ident) 119 120 ∷ symbol (Ident) 120 121 ∷ symbol (Ident) 122 123 ∷ symbol (Ident) 124 125 ∷ symbol (Ident) 126 133 ∷ symbol (Ident) 134 136 ∷ symbol (Ident) 137 138 ∷ symbol (Ident) 138 139 ∷ symbol (Ident) 140 141 ∷ symbol (Ident) 142 143 ∷ symbol (Ident) 144 151 ∷ symbol (Ident) 152 154 ∷ symbol (Ident) 155 156 ∷ symbol (Ident) 156 157 ∷ symbol (Ident) 158 161 ∷ symbol (Ident) 162 163 ∷ symbol (Ident) 163 164 ∷ symbol (Ident) 165 167 ∷ symbol (Ident) 167 168 ∷ symbol (Ident) 169 170 ∷ symbol (Ident) 170 171 ∷ symbol (Ident) 172 173 ∷ symbol (Ident) 173 174 ∷ symbol (Ident) 175 176 ∷ symbol (Ident) 176 177 ∷ symbol (Ident) 178 179 ∷ symbol (Ident) 179 180 ∷ symbol (Ident) 181 182 ∷ symbol (Ident) 182 183 ∷ symbol (Ident) 184 193 ∷ symbol (Ident) 194 195 ∷ symbol (Ident) 195 196 ∷ symbol (Ident) 196 199 ∷ symbol (Ident) 200 201 ∷ symbol (Ident) 201 202 ∷ symbol (Ident) 203 204 ∷ symbol (Ident) 204 205 ∷ symbol (Ident) 205 206 ∷ symbol (Ident) 207 210 ∷ symbol (Ident) 211 212 ∷ symbol (Ident) 212 213 ∷ symbol (Ident) 214 223 ∷ symbol (Ident) 224 226 ∷ symbol (Ident) 226 227 ∷ symbol (Ident) 227 230 ∷ symbol (Ident) 231 232 ∷ symbol (Ident) 232 233 ∷ symbol (Ident) 234 241 ∷ symbol (Ident) 241 242 ∷ symbol (Ident) 242 243 ∷ symbol (Ident) 244 247 ∷ symbol (Ident) 248 250 ∷ symbol (Ident) 250 251 ∷ symbol (Ident) 252 261 ∷ symbol (Ident) 262 264 ∷ symbol (Ident) 264 265 ∷ symbol (Ident) 265 268 ∷ symbol (Ident) 269 270 ∷ symbol (Ident) 270 271 ∷ symbol (Ident) 272 273 ∷ symbol (Ident) 273 274 ∷ symbol (Ident) 274 275 ∷ symbol (Ident) 276 279 ∷ symbol (Ident) 280 282 ∷ symbol (Ident) 282 283 ∷ symbol (Ident) 284 293 ∷ symbol (Ident) 294 295 ∷ symbol (Ident) 295 296 ∷ symbol (Ident) 296 297 ∷ symbol (Ident) 297 298 ∷ symbol (Ident) 299 300 ∷ symbol (Ident) 300 301 ∷ symbol (Ident) 301 302 ∷ symbol (Ident) 303 306 ∷ symbol (Ident) 307 308 ∷ symbol (Ident) 308 309 ∷ symbol (Ident) 310 315 ∷ symbol (Ident) 316 320 ∷ symbol (Ident) 321 322 ∷ symbol (Ident) 323 325 ∷ symbol (Ident) 326 327 ∷ symbol (Ident) 327 328 ∷ symbol (Ident) 329 331 ∷ symbol (Ident) 331 332 ∷ symbol (Ident) 332 333 ∷ symbol (Ident) 333 334 ∷ symbol (Ident) 334 335 ∷ symbol (Ident) 335 336 ∷ symbol (Ident) 336 337 ∷ symbol (Ident) 338 340 ∷ symbol (Ident) 340 341 ∷ symbol (Ident) 341 342 ∷ symbol (Ident) 342 343 ∷ symbol (Ident) 343 344 ∷ symbol (Ident) 344 345 ∷ symbol (Ident) 346 347 ∷ symbol (Ident) 347 348 ∷ symbol (Ident) 348 349 ∷ symbol (Ident) 349 350 ∷ symbol (Ident) 350 351 ∷ symbol (Ident) 351 352 ∷ symbol (Ident) 353 355 ∷ symbol (Ident) 355 356 ∷ symbol (Ident) 356 357 ∷ symbol (Ident) 357 358 ∷ symbol (Ident) 358 359 ∷ symbol (Ident) 359 360 ∷ symbol (Ident) 360 361 ∷ symbol (Ident) 361 362 ∷ symbol (Ident) 362 363 ∷ symbol (Ident) 364 367 ∷ symbol (Ident) 368 371 ∷ symbol (Ident) 372 373 ∷ symbol (Ident) 373 374 ∷ []) }; tree = record { module_word = 0; name = 1; semicolon = 0; imports = None; decls = (S.decls None (Some (record { type_word = 0; each = (record { name = (record { name = 4; star = None }); equal = 0; is = (S.Record 6 None (S.fields (record { first = (record { name = 7; star = None }); more = [] }) 0 (S.Named (record { name = 9; member = None }))) S.no_more_fields 0); semicolon = 0 } ∷ record { name = (record { name = 12; star = None }); equal = 0; is = (S.Record 14 (Some (record { left_paren = 0; name = (record { name = 16; member = None }); right_paren = 0 })) (S.fields (record { first = (record { name = 18; star = None }); more = [] }) 0 (S.Named (record { name = 20; member = None }))) S.no_more_fields 0); semicolon = 0 } ∷ record { name = (record { name = 23; star = None }); equal = 0; is = (S.Record 25 (Some (record { left_paren = 0; name = (record { name = 27; member = None }); right_paren = 0 })) (S.fields (record { first = (record { name = 29; star = None }); more = [] }) 0 (S.Named (record { name = 31; member = None }))) S.no_more_fields 0); semicolon = 0 } ∷ record { name = (record { name = 34; star = None }); equal = 0; is = (S.Pointer 36 0 (S.Named (record { name = 38; member = None }))); semicolon = 0 } ∷ record { name = (record { name = 40; star = None }); equal = 0; is = (S.Pointer 42 0 (S.Named (record { name = 44; member = None }))); semicolon = 0 } ∷ record { name = (record { name = 46; star = None }); equal = 0; is = (S.Pointer 48 0 (S.Named (record { name = 50; member = None }))); semicolon = 0 } ∷ []) })) (Some (record { var_word = 0; each = (record { names = (record { first = (record { name = 53; star = None }); more = (record { comma = 0; name = (record { name = 55; star = None }) } ∷ []) }); colon = 0; of = (S.Named (record { name = 57; member = None })); semicolon = 0 } ∷ record { names = (record { first = (record { name = 59; star = None }); more = [] }); colon = 0; of = (S.Named (record { name = 61; member = None })); semicolon = 0 } ∷ record { names = (record { first = (record { name = 63; star = None }); more = [] }); colon = 0; of = (S.Named (record { name = 65; member = None })); semicolon = 0 } ∷ []) })) (S.procedure 0 (record { name = 68; star = None }) (Some (record { left_paren = 0; sections = Some (record { first = (record { var_word = Some 0; first = 71; more = []; colon = 0; open_array = None; of = (record { name = 73; member = None }) }); more = [] }); right_paren = 0; result = None })) 0 (S.decls None None None S.no_procedure) None None 76 77 0 (S.procedure 0 (record { name = 80; star = None }) (Some (record { left_paren = 0; sections = Some (record { first = (record { var_word = Some 0; first = 83; more = []; colon = 0; open_array = None; of = (record { name = 85; member = None }) }); more = [] }); right_paren = 0; result = None })) 0 (S.decls None None None S.no_procedure) None None 88 89 0 (S.procedure 0 (record { name = 92; star = None }) (Some (record { left_paren = 0; sections = Some (record { first = (record { var_word = Some 0; first = 95; more = []; colon = 0; open_array = None; of = (record { name = 97; member = None }) }); more = [] }); right_paren = 0; result = None })) 0 (S.decls None None None S.no_procedure) None None 100 101 0 (S.procedure 0 (record { name = 104; star = None }) (Some (record { left_paren = 0; sections = Some (record { first = (record { var_word = None; first = 106; more = []; colon = 0; open_array = None; of = (record { name = 108; member = None }) }); more = [] }); right_paren = 0; result = None })) 0 (S.decls None None None S.no_procedure) None None 111 112 0 S.no_procedure))))); body = (Some (record { begin_word = 0; stats = (S.stats (S.Case 0 (S.only (S.simple None (S.term (S.Designated 116 S.no_selector) S.no_factor) S.no_term)) 0 (S.one_case (record { low = TheLabel.Named (record { name = 118; member = None }); high = None }) [] 0 (S.stats (S.AssignOrCall (record { name = 120; selectors = (S.selected (S.Parens 0 (S.expressions (S.only (S.simple None (S.term (S.Designated 122 (S.selected (S.Field 0 124) S.no_selector)) S.no_factor) S.no_term)) S.no_expression) 0) S.no_selector) }) None) (S.next_stat 0 (S.AssignOrCall (record { name = 127; selectors = (S.selected (S.Parens 0 (S.expressions (S.only (S.simple None (S.term (S.Designated 129 (S.selected (S.Arrow 0) S.no_selector)) S.no_factor) S.no_term)) S.no_expression) 0) S.no_selector) }) None) (S.next_stat 0 (S.AssignOrCall (record { name = 133; selectors = (S.selected (S.Parens 0 (S.expressions (S.only (S.simple None (S.term (S.Designated 135 (S.selected (S.Arrow 0) S.no_selector)) S.no_factor) S.no_term)) S.no_expression) 0) S.no_selector) }) None) (S.next_stat 0 (S.AssignOrCall (record { name = 139; selectors = (S.selected (S.Parens 0 (S.expressions (S.only (S.simple None (S.term (S.Designated 141 (S.selected (S.Parens 0 (S.expressions (S.only (S.simple None (S.term (S.Designated 143 S.no_selector) S.no_factor) S.no_term)) S.no_expression) 0) (S.selected (S.Field 0 146) S.no_selector))) S.no_factor) S.no_term)) S.no_expression) 0) S.no_selector) }) None) S.no_stat))))) S.no_next_case 0) S.no_stat) })); end_word = 0; end_name = 150; period = 0 } }

pub narrow_4 : checked (narrow_4_0 ∷ []) ≡ Legal (record { records = (record { module_number = 0; base = None; level = 0; fields = (record { name = (120 ∷ []); exported = false; shape = H.Integer } ∷ []); cells = 1; extent = record { bytes = 8; wide = true } } ∷ record { module_number = 0; base = (Some 0); level = 1; fields = (record { name = (121 ∷ []); exported = false; shape = H.Integer } ∷ []); cells = 2; extent = record { bytes = 16; wide = true } } ∷ record { module_number = 0; base = (Some 1); level = 2; fields = (record { name = (122 ∷ []); exported = false; shape = H.Integer } ∷ []); cells = 3; extent = record { bytes = 24; wide = true } } ∷ []); pointers = (Some 0 ∷ Some 1 ∷ Some 2 ∷ []); modules = (record { name = (77 ∷ []); objects = (record { name = (82 ∷ []); exported = false; entity = I.OfType (H.Record 0) } ∷ record { name = (69 ∷ []); exported = false; entity = I.OfType (H.Record 1) } ∷ record { name = (70 ∷ []); exported = false; entity = I.OfType (H.Record 2) } ∷ record { name = (80 ∷ []); exported = false; entity = I.OfType (H.Pointer 0) } ∷ record { name = (81 ∷ []); exported = false; entity = I.OfType (H.Pointer 1) } ∷ record { name = (84 ∷ []); exported = false; entity = I.OfType (H.Pointer 2) } ∷ record { name = (112 ∷ []); exported = false; entity = I.OfVariable 0 } ∷ record { name = (112 ∷ 50 ∷ []); exported = false; entity = I.OfVariable 1 } ∷ record { name = (113 ∷ []); exported = false; entity = I.OfVariable 2 } ∷ record { name = (116 ∷ []); exported = false; entity = I.OfVariable 3 } ∷ record { name = (86 ∷ []); exported = false; entity = I.OfProcedure 0 } ∷ record { name = (86 ∷ 88 ∷ []); exported = false; entity = I.OfProcedure 1 } ∷ record { name = (86 ∷ 82 ∷ []); exported = false; entity = I.OfProcedure 2 } ∷ record { name = (83 ∷ []); exported = false; entity = I.OfProcedure 3 } ∷ []); variables = ((H.Pointer 0) ∷ (H.Pointer 0) ∷ (H.Pointer 1) ∷ (H.Pointer 2) ∷ []); body = 4 } ∷ []); procedures = (record { module_number = 0; line = 1; is_body = false; formals = (record { mode = TheMode.Place; variable = true; shape = (H.Pointer 0) } ∷ []); result = H.Nothing; locals = []; texts = []; body = I.no_statement; answer = None } ∷ record { module_number = 0; line = 1; is_body = false; formals = (record { mode = TheMode.Place; variable = true; shape = H.Integer } ∷ []); result = H.Nothing; locals = []; texts = []; body = I.no_statement; answer = None } ∷ record { module_number = 0; line = 1; is_body = false; formals = (record { mode = TheMode.Record; variable = true; shape = (H.Record 0) } ∷ []); result = H.Nothing; locals = []; texts = []; body = I.no_statement; answer = None } ∷ record { module_number = 0; line = 1; is_body = false; formals = (record { mode = TheMode.Place; variable = false; shape = (H.Record 0) } ∷ []); result = H.Nothing; locals = []; texts = []; body = I.no_statement; answer = None } ∷ record { module_number = 0; line = 1; is_body = true; formals = []; result = H.Nothing; locals = []; texts = []; body = (I.next_statement (I.CasePointer (record { form = (I.Load (I.of_type (I.Global 0 0) (H.Pointer 0))); shape = (H.Pointer 0) }) (I.next_part (I.Extends 1) (I.next_statement (I.Invoke (I.Direct 1 (I.next_argument (I.ByPlace (I.of_type (I.Field (I.Dereference (I.Guard (I.Load (I.of_type (I.Global 0 0) (H.Pointer 0))) 1)) 1 0) H.Integer)) I.no_argument))) (I.next_statement (I.Invoke (I.Direct 2 (I.next_argument (I.ByRecord (I.of_type (I.Dereference (I.Guard (I.Load (I.of_type (I.Global 0 0) (H.Pointer 0))) 1)) (H.Record 1))) I.no_argument))) (I.next_statement (I.Invoke (I.Direct 3 (I.next_argument (I.ByPlace (I.of_type (I.Dereference (I.Guard (I.Load (I.of_type (I.Global 0 0) (H.Pointer 0))) 1)) (H.Record 1))) I.no_argument))) (I.next_statement (I.Invoke (I.Direct 1 (I.next_argument (I.ByPlace (I.of_type (I.Field (I.Dereference (I.Guard (I.Guard (I.Load (I.of_type (I.Global 0 0) (H.Pointer 0))) 1) 2)) 2 0) H.Integer)) I.no_argument))) I.no_statement)))) I.no_part)) I.no_statement); answer = None } ∷ []); imports_in = false })
narrow_4 = refl

-- MODULE M; TYPE R = RECORD x: INTEGER END; E = RECORD (R) y: INTEGER END; F = RECORD (E) z: INTEGER END; P = POINTER TO R; Q = POINTER TO E; T = POINTER TO F; VAR p, p2: P; q: Q; t: T; PROCEDURE V(VAR p: P); END V; PROCEDURE VX(VAR i: INTEGER); END VX; PROCEDURE VR(VAR r: R); END VR; PROCEDURE S(r: R); END S; BEGIN CASE p OF Q: CASE p OF T: p.z := 1 | Q: p.y := 3 END END END M.
abbrev narrow_5_0 : Parsed
narrow_5_0 = record { source = record { bytes = (77 ∷ 79 ∷ 68 ∷ 85 ∷ 76 ∷ 69 ∷ 32 ∷ 77 ∷ 59 ∷ 32 ∷ 84 ∷ 89 ∷ 80 ∷ 69 ∷ 32 ∷ 82 ∷ 32 ∷ 61 ∷ 32 ∷ 82 ∷ 69 ∷ 67 ∷ 79 ∷ 82 ∷ 68 ∷ 32 ∷ 120 ∷ 58 ∷ 32 ∷ 73 ∷ 78 ∷ 84 ∷ 69 ∷ 71 ∷ 69 ∷ 82 ∷ 32 ∷ 69 ∷ 78 ∷ 68 ∷ 59 ∷ 32 ∷ 69 ∷ 32 ∷ 61 ∷ 32 ∷ 82 ∷ 69 ∷ 67 ∷ 79 ∷ 82 ∷ 68 ∷ 32 ∷ 40 ∷ 82 ∷ 41 ∷ 32 ∷ 121 ∷ 58 ∷ 32 ∷ 73 ∷ 78 ∷ 84 ∷ 69 ∷ 71 ∷ 69 ∷ 82 ∷ 32 ∷ 69 ∷ 78 ∷ 68 ∷ 59 ∷ 32 ∷ 70 ∷ 32 ∷ 61 ∷ 32 ∷ 82 ∷ 69 ∷ 67 ∷ 79 ∷ 82 ∷ 68 ∷ 32 ∷ 40 ∷ 69 ∷ 41 ∷ 32 ∷ 122 ∷ 58 ∷ 32 ∷ 73 ∷ 78 ∷ 84 ∷ 69 ∷ 71 ∷ 69 ∷ 82 ∷ 32 ∷ 69 ∷ 78 ∷ 68 ∷ 59 ∷ 32 ∷ 80 ∷ 32 ∷ 61 ∷ 32 ∷ 80 ∷ 79 ∷ 73 ∷ 78 ∷ 84 ∷ 69 ∷ 82 ∷ 32 ∷ 84 ∷ 79 ∷ 32 ∷ 82 ∷ 59 ∷ 32 ∷ 81 ∷ 32 ∷ 61 ∷ 32 ∷ 80 ∷ 79 ∷ 73 ∷ 78 ∷ 84 ∷ 69 ∷ 82 ∷ 32 ∷ 84 ∷ 79 ∷ 32 ∷ 69 ∷ 59 ∷ 32 ∷ 84 ∷ 32 ∷ 61 ∷ 32 ∷ 80 ∷ 79 ∷ 73 ∷ 78 ∷ 84 ∷ 69 ∷ 82 ∷ 32 ∷ 84 ∷ 79 ∷ 32 ∷ 70 ∷ 59 ∷ 32 ∷ 86 ∷ 65 ∷ 82 ∷ 32 ∷ 112 ∷ 44 ∷ 32 ∷ 112 ∷ 50 ∷ 58 ∷ 32 ∷ 80 ∷ 59 ∷ 32 ∷ 113 ∷ 58 ∷ 32 ∷ 81 ∷ 59 ∷ 32 ∷ 116 ∷ 58 ∷ 32 ∷ 84 ∷ 59 ∷ 32 ∷ 80 ∷ 82 ∷ 79 ∷ 67 ∷ 69 ∷ 68 ∷ 85 ∷ 82 ∷ 69 ∷ 32 ∷ 86 ∷ 40 ∷ 86 ∷ 65 ∷ 82 ∷ 32 ∷ 112 ∷ 58 ∷ 32 ∷ 80 ∷ 41 ∷ 59 ∷ 32 ∷ 69 ∷ 78 ∷ 68 ∷ 32 ∷ 86 ∷ 59 ∷ 32 ∷ 80 ∷ 82 ∷ 79 ∷ 67 ∷ 69 ∷ 68 ∷ 85 ∷ 82 ∷ 69 ∷ 32 ∷ 86 ∷ 88 ∷ 40 ∷ 86 ∷ 65 ∷ 82 ∷ 32 ∷ 105 ∷ 58 ∷ 32 ∷ 73 ∷ 78 ∷ 84 ∷ 69 ∷ 71 ∷ 69 ∷ 82 ∷ 41 ∷ 59 ∷ 32 ∷ 69 ∷ 78 ∷ 68 ∷ 32 ∷ 86 ∷ 88 ∷ 59 ∷ 32 ∷ 80 ∷ 82 ∷ 79 ∷ 67 ∷ 69 ∷ 68 ∷ 85 ∷ 82 ∷ 69 ∷ 32 ∷ 86 ∷ 82 ∷ 40 ∷ 86 ∷ 65 ∷ 82 ∷ 32 ∷ 114 ∷ 58 ∷ 32 ∷ 82 ∷ 41 ∷ 59 ∷ 32 ∷ 69 ∷ 78 ∷ 68 ∷ 32 ∷ 86 ∷ 82 ∷ 59 ∷ 32 ∷ 80 ∷ 82 ∷ 79 ∷ 67 ∷ 69 ∷ 68 ∷ 85 ∷ 82 ∷ 69 ∷ 32 ∷ 83 ∷ 40 ∷ 114 ∷ 58 ∷ 32 ∷ 82 ∷ 41 ∷ 59 ∷ 32 ∷ 69 ∷ 78 ∷ 68 ∷ 32 ∷ 83 ∷ 59 ∷ 32 ∷ 66 ∷ 69 ∷ 71 ∷ 73 ∷ 78 ∷ 32 ∷ 67 ∷ 65 ∷ 83 ∷ 69 ∷ 32 ∷ 112 ∷ 32 ∷ 79 ∷ 70 ∷ 32 ∷ 81 ∷ 58 ∷ 32 ∷ 67 ∷ 65 ∷ 83 ∷ 69 ∷ 32 ∷ 112 ∷ 32 ∷ 79 ∷ 70 ∷ 32 ∷ 84 ∷ 58 ∷ 32 ∷ 112 ∷ 46 ∷ 122 ∷ 32 ∷ 58 ∷ 61 ∷ 32 ∷ 49 ∷ 32 ∷ 124 ∷ 32 ∷ 81 ∷ 58 ∷ 32 ∷ 112 ∷ 46 ∷ 121 ∷ 32 ∷ 58 ∷ 61 ∷ 32 ∷ 51 ∷ 32 ∷ 69 ∷ 78 ∷ 68 ∷ 32 ∷ 69 ∷ 78 ∷ 68 ∷ 32 ∷ 69 ∷ 78 ∷ 68 ∷ 32 ∷ 77 ∷ 46 ∷ []); symbols = (symbol (Ident) 0 6 ∷ symbol (Ident) 7 8 ∷ symbol (Ident) 8 9 ∷ symbol (Ident) 10 14 ∷ symbol (Ident) 15 16 ∷ symbol (Ident) 17 18 ∷ symbol (Ident) 19 25 ∷ symbol (Ident) 26 27 ∷ symbol (Ident) 27 28 ∷ symbol (Ident) 29 36 ∷ symbol (Ident) 37 40 ∷ symbol (Ident) 40 41 ∷ symbol (Ident) 42 43 ∷ symbol (Ident) 44 45 ∷ symbol (Ident) 46 52 ∷ symbol (Ident) 53 54 ∷ symbol (Ident) 54 55 ∷ symbol (Ident) 55 56 ∷ symbol (Ident) 57 58 ∷ symbol (Ident) 58 59 ∷ symbol (Ident) 60 67 ∷ symbol (Ident) 68 71 ∷ symbol (Ident) 71 72 ∷ symbol (Ident) 73 74 ∷ symbol (Ident) 75 76 ∷ symbol (Ident) 77 83 ∷ symbol (Ident) 84 85 ∷ symbol (Ident) 85 86 ∷ symbol (Ident) 86 87 ∷ symbol (Ident) 88 89 ∷ symbol (Ident) 89 90 ∷ symbol (Ident) 91 98 ∷ symbol (Ident) 99 102 ∷ symbol (Ident) 102 103 ∷ symbol (Ident) 104 105 ∷ symbol (Ident) 106 107 ∷ symbol (Ident) 108 115 ∷ symbol (Ident) 116 118 ∷ symbol (Ident) 119 120 ∷ symbol (Ident) 120 121 ∷ symbol (Ident) 122 123 ∷ symbol (Ident) 124 125 ∷ symbol (Ident) 126 133 ∷ symbol (Ident) 134 136 ∷ symbol (Ident) 137 138 ∷ symbol (Ident) 138 139 ∷ symbol (Ident) 140 141 ∷ symbol (Ident) 142 143 ∷ symbol (Ident) 144 151 ∷ symbol (Ident) 152 154 ∷ symbol (Ident) 155 156 ∷ symbol (Ident) 156 157 ∷ symbol (Ident) 158 161 ∷ symbol (Ident) 162 163 ∷ symbol (Ident) 163 164 ∷ symbol (Ident) 165 167 ∷ symbol (Ident) 167 168 ∷ symbol (Ident) 169 170 ∷ symbol (Ident) 170 171 ∷ symbol (Ident) 172 173 ∷ symbol (Ident) 173 174 ∷ symbol (Ident) 175 176 ∷ symbol (Ident) 176 177 ∷ symbol (Ident) 178 179 ∷ symbol (Ident) 179 180 ∷ symbol (Ident) 181 182 ∷ symbol (Ident) 182 183 ∷ symbol (Ident) 184 193 ∷ symbol (Ident) 194 195 ∷ symbol (Ident) 195 196 ∷ symbol (Ident) 196 199 ∷ symbol (Ident) 200 201 ∷ symbol (Ident) 201 202 ∷ symbol (Ident) 203 204 ∷ symbol (Ident) 204 205 ∷ symbol (Ident) 205 206 ∷ symbol (Ident) 207 210 ∷ symbol (Ident) 211 212 ∷ symbol (Ident) 212 213 ∷ symbol (Ident) 214 223 ∷ symbol (Ident) 224 226 ∷ symbol (Ident) 226 227 ∷ symbol (Ident) 227 230 ∷ symbol (Ident) 231 232 ∷ symbol (Ident) 232 233 ∷ symbol (Ident) 234 241 ∷ symbol (Ident) 241 242 ∷ symbol (Ident) 242 243 ∷ symbol (Ident) 244 247 ∷ symbol (Ident) 248 250 ∷ symbol (Ident) 250 251 ∷ symbol (Ident) 252 261 ∷ symbol (Ident) 262 264 ∷ symbol (Ident) 264 265 ∷ symbol (Ident) 265 268 ∷ symbol (Ident) 269 270 ∷ symbol (Ident) 270 271 ∷ symbol (Ident) 272 273 ∷ symbol (Ident) 273 274 ∷ symbol (Ident) 274 275 ∷ symbol (Ident) 276 279 ∷ symbol (Ident) 280 282 ∷ symbol (Ident) 282 283 ∷ symbol (Ident) 284 293 ∷ symbol (Ident) 294 295 ∷ symbol (Ident) 295 296 ∷ symbol (Ident) 296 297 ∷ symbol (Ident) 297 298 ∷ symbol (Ident) 299 300 ∷ symbol (Ident) 300 301 ∷ symbol (Ident) 301 302 ∷ symbol (Ident) 303 306 ∷ symbol (Ident) 307 308 ∷ symbol (Ident) 308 309 ∷ symbol (Ident) 310 315 ∷ symbol (Ident) 316 320 ∷ symbol (Ident) 321 322 ∷ symbol (Ident) 323 325 ∷ symbol (Ident) 326 327 ∷ symbol (Ident) 327 328 ∷ symbol (Ident) 329 333 ∷ symbol (Ident) 334 335 ∷ symbol (Ident) 336 338 ∷ symbol (Ident) 339 340 ∷ symbol (Ident) 340 341 ∷ symbol (Ident) 342 343 ∷ symbol (Ident) 343 344 ∷ symbol (Ident) 344 345 ∷ symbol (Ident) 346 348 ∷ symbol (Int (pos 1)) 349 350 ∷ symbol (Ident) 351 352 ∷ symbol (Ident) 353 354 ∷ symbol (Ident) 354 355 ∷ symbol (Ident) 356 357 ∷ symbol (Ident) 357 358 ∷ symbol (Ident) 358 359 ∷ symbol (Ident) 360 362 ∷ symbol (Int (pos 3)) 363 364 ∷ symbol (Ident) 365 368 ∷ symbol (Ident) 369 372 ∷ symbol (Ident) 373 376 ∷ symbol (Ident) 377 378 ∷ symbol (Ident) 378 379 ∷ []) }; tree = record { module_word = 0; name = 1; semicolon = 0; imports = None; decls = (S.decls None (Some (record { type_word = 0; each = (record { name = (record { name = 4; star = None }); equal = 0; is = (S.Record 6 None (S.fields (record { first = (record { name = 7; star = None }); more = [] }) 0 (S.Named (record { name = 9; member = None }))) S.no_more_fields 0); semicolon = 0 } ∷ record { name = (record { name = 12; star = None }); equal = 0; is = (S.Record 14 (Some (record { left_paren = 0; name = (record { name = 16; member = None }); right_paren = 0 })) (S.fields (record { first = (record { name = 18; star = None }); more = [] }) 0 (S.Named (record { name = 20; member = None }))) S.no_more_fields 0); semicolon = 0 } ∷ record { name = (record { name = 23; star = None }); equal = 0; is = (S.Record 25 (Some (record { left_paren = 0; name = (record { name = 27; member = None }); right_paren = 0 })) (S.fields (record { first = (record { name = 29; star = None }); more = [] }) 0 (S.Named (record { name = 31; member = None }))) S.no_more_fields 0); semicolon = 0 } ∷ record { name = (record { name = 34; star = None }); equal = 0; is = (S.Pointer 36 0 (S.Named (record { name = 38; member = None }))); semicolon = 0 } ∷ record { name = (record { name = 40; star = None }); equal = 0; is = (S.Pointer 42 0 (S.Named (record { name = 44; member = None }))); semicolon = 0 } ∷ record { name = (record { name = 46; star = None }); equal = 0; is = (S.Pointer 48 0 (S.Named (record { name = 50; member = None }))); semicolon = 0 } ∷ []) })) (Some (record { var_word = 0; each = (record { names = (record { first = (record { name = 53; star = None }); more = (record { comma = 0; name = (record { name = 55; star = None }) } ∷ []) }); colon = 0; of = (S.Named (record { name = 57; member = None })); semicolon = 0 } ∷ record { names = (record { first = (record { name = 59; star = None }); more = [] }); colon = 0; of = (S.Named (record { name = 61; member = None })); semicolon = 0 } ∷ record { names = (record { first = (record { name = 63; star = None }); more = [] }); colon = 0; of = (S.Named (record { name = 65; member = None })); semicolon = 0 } ∷ []) })) (S.procedure 0 (record { name = 68; star = None }) (Some (record { left_paren = 0; sections = Some (record { first = (record { var_word = Some 0; first = 71; more = []; colon = 0; open_array = None; of = (record { name = 73; member = None }) }); more = [] }); right_paren = 0; result = None })) 0 (S.decls None None None S.no_procedure) None None 76 77 0 (S.procedure 0 (record { name = 80; star = None }) (Some (record { left_paren = 0; sections = Some (record { first = (record { var_word = Some 0; first = 83; more = []; colon = 0; open_array = None; of = (record { name = 85; member = None }) }); more = [] }); right_paren = 0; result = None })) 0 (S.decls None None None S.no_procedure) None None 88 89 0 (S.procedure 0 (record { name = 92; star = None }) (Some (record { left_paren = 0; sections = Some (record { first = (record { var_word = Some 0; first = 95; more = []; colon = 0; open_array = None; of = (record { name = 97; member = None }) }); more = [] }); right_paren = 0; result = None })) 0 (S.decls None None None S.no_procedure) None None 100 101 0 (S.procedure 0 (record { name = 104; star = None }) (Some (record { left_paren = 0; sections = Some (record { first = (record { var_word = None; first = 106; more = []; colon = 0; open_array = None; of = (record { name = 108; member = None }) }); more = [] }); right_paren = 0; result = None })) 0 (S.decls None None None S.no_procedure) None None 111 112 0 S.no_procedure))))); body = (Some (record { begin_word = 0; stats = (S.stats (S.Case 0 (S.only (S.simple None (S.term (S.Designated 116 S.no_selector) S.no_factor) S.no_term)) 0 (S.one_case (record { low = TheLabel.Named (record { name = 118; member = None }); high = None }) [] 0 (S.stats (S.Case 0 (S.only (S.simple None (S.term (S.Designated 121 S.no_selector) S.no_factor) S.no_term)) 0 (S.one_case (record { low = TheLabel.Named (record { name = 123; member = None }); high = None }) [] 0 (S.stats (S.AssignOrCall (record { name = 125; selectors = (S.selected (S.Field 0 127) S.no_selector) }) (Some (record { becomes = 0; value = (S.only (S.simple None (S.term (S.Int 129) S.no_factor) S.no_term)) }))) S.no_stat)) (S.next_case 0 (S.one_case (record { low = TheLabel.Named (record { name = 131; member = None }); high = None }) [] 0 (S.stats (S.AssignOrCall (record { name = 133; selectors = (S.selected (S.Field 0 135) S.no_selector) }) (Some (record { becomes = 0; value = (S.only (S.simple None (S.term (S.Int 137) S.no_factor) S.no_term)) }))) S.no_stat)) S.no_next_case) 0) S.no_stat)) S.no_next_case 0) S.no_stat) })); end_word = 0; end_name = 141; period = 0 } }

pub narrow_5 : checked (narrow_5_0 ∷ []) ≡ Legal (record { records = (record { module_number = 0; base = None; level = 0; fields = (record { name = (120 ∷ []); exported = false; shape = H.Integer } ∷ []); cells = 1; extent = record { bytes = 8; wide = true } } ∷ record { module_number = 0; base = (Some 0); level = 1; fields = (record { name = (121 ∷ []); exported = false; shape = H.Integer } ∷ []); cells = 2; extent = record { bytes = 16; wide = true } } ∷ record { module_number = 0; base = (Some 1); level = 2; fields = (record { name = (122 ∷ []); exported = false; shape = H.Integer } ∷ []); cells = 3; extent = record { bytes = 24; wide = true } } ∷ []); pointers = (Some 0 ∷ Some 1 ∷ Some 2 ∷ []); modules = (record { name = (77 ∷ []); objects = (record { name = (82 ∷ []); exported = false; entity = I.OfType (H.Record 0) } ∷ record { name = (69 ∷ []); exported = false; entity = I.OfType (H.Record 1) } ∷ record { name = (70 ∷ []); exported = false; entity = I.OfType (H.Record 2) } ∷ record { name = (80 ∷ []); exported = false; entity = I.OfType (H.Pointer 0) } ∷ record { name = (81 ∷ []); exported = false; entity = I.OfType (H.Pointer 1) } ∷ record { name = (84 ∷ []); exported = false; entity = I.OfType (H.Pointer 2) } ∷ record { name = (112 ∷ []); exported = false; entity = I.OfVariable 0 } ∷ record { name = (112 ∷ 50 ∷ []); exported = false; entity = I.OfVariable 1 } ∷ record { name = (113 ∷ []); exported = false; entity = I.OfVariable 2 } ∷ record { name = (116 ∷ []); exported = false; entity = I.OfVariable 3 } ∷ record { name = (86 ∷ []); exported = false; entity = I.OfProcedure 0 } ∷ record { name = (86 ∷ 88 ∷ []); exported = false; entity = I.OfProcedure 1 } ∷ record { name = (86 ∷ 82 ∷ []); exported = false; entity = I.OfProcedure 2 } ∷ record { name = (83 ∷ []); exported = false; entity = I.OfProcedure 3 } ∷ []); variables = ((H.Pointer 0) ∷ (H.Pointer 0) ∷ (H.Pointer 1) ∷ (H.Pointer 2) ∷ []); body = 4 } ∷ []); procedures = (record { module_number = 0; line = 1; is_body = false; formals = (record { mode = TheMode.Place; variable = true; shape = (H.Pointer 0) } ∷ []); result = H.Nothing; locals = []; texts = []; body = I.no_statement; answer = None } ∷ record { module_number = 0; line = 1; is_body = false; formals = (record { mode = TheMode.Place; variable = true; shape = H.Integer } ∷ []); result = H.Nothing; locals = []; texts = []; body = I.no_statement; answer = None } ∷ record { module_number = 0; line = 1; is_body = false; formals = (record { mode = TheMode.Record; variable = true; shape = (H.Record 0) } ∷ []); result = H.Nothing; locals = []; texts = []; body = I.no_statement; answer = None } ∷ record { module_number = 0; line = 1; is_body = false; formals = (record { mode = TheMode.Place; variable = false; shape = (H.Record 0) } ∷ []); result = H.Nothing; locals = []; texts = []; body = I.no_statement; answer = None } ∷ record { module_number = 0; line = 1; is_body = true; formals = []; result = H.Nothing; locals = []; texts = []; body = (I.next_statement (I.CasePointer (record { form = (I.Load (I.of_type (I.Global 0 0) (H.Pointer 0))); shape = (H.Pointer 0) }) (I.next_part (I.Extends 1) (I.next_statement (I.CasePointer (record { form = (I.Guard (I.Load (I.of_type (I.Global 0 0) (H.Pointer 0))) 1); shape = (H.Pointer 1) }) (I.next_part (I.Extends 2) (I.next_statement (I.Assign (I.of_type (I.Field (I.Dereference (I.Guard (I.Load (I.of_type (I.Global 0 0) (H.Pointer 0))) 2)) 2 0) H.Integer) (record { form = (I.Literal 1); shape = H.Integer })) I.no_statement) (I.next_part (I.Extends 1) (I.next_statement (I.Assign (I.of_type (I.Field (I.Dereference (I.Guard (I.Load (I.of_type (I.Global 0 0) (H.Pointer 0))) 1)) 1 0) H.Integer) (record { form = (I.Literal 3); shape = H.Integer })) I.no_statement) I.no_part))) I.no_statement) I.no_part)) I.no_statement); answer = None } ∷ []); imports_in = false })
narrow_5 = refl

-- MODULE M; TYPE R = RECORD x: INTEGER END; E = RECORD (R) y: INTEGER END; F = RECORD (E) z: INTEGER END; P = POINTER TO R; Q = POINTER TO E; T = POINTER TO F; VAR p, p2: P; q: Q; t: T; PROCEDURE V(VAR p: P); END V; PROCEDURE VX(VAR i: INTEGER); END VX; PROCEDURE VR(VAR r: R); END VR; PROCEDURE S(r: R); END S; BEGIN CASE p OF Q: END; p.y := 1 END M.
abbrev narrow_6_0 : Parsed
narrow_6_0 = record { source = record { bytes = (77 ∷ 79 ∷ 68 ∷ 85 ∷ 76 ∷ 69 ∷ 32 ∷ 77 ∷ 59 ∷ 32 ∷ 84 ∷ 89 ∷ 80 ∷ 69 ∷ 32 ∷ 82 ∷ 32 ∷ 61 ∷ 32 ∷ 82 ∷ 69 ∷ 67 ∷ 79 ∷ 82 ∷ 68 ∷ 32 ∷ 120 ∷ 58 ∷ 32 ∷ 73 ∷ 78 ∷ 84 ∷ 69 ∷ 71 ∷ 69 ∷ 82 ∷ 32 ∷ 69 ∷ 78 ∷ 68 ∷ 59 ∷ 32 ∷ 69 ∷ 32 ∷ 61 ∷ 32 ∷ 82 ∷ 69 ∷ 67 ∷ 79 ∷ 82 ∷ 68 ∷ 32 ∷ 40 ∷ 82 ∷ 41 ∷ 32 ∷ 121 ∷ 58 ∷ 32 ∷ 73 ∷ 78 ∷ 84 ∷ 69 ∷ 71 ∷ 69 ∷ 82 ∷ 32 ∷ 69 ∷ 78 ∷ 68 ∷ 59 ∷ 32 ∷ 70 ∷ 32 ∷ 61 ∷ 32 ∷ 82 ∷ 69 ∷ 67 ∷ 79 ∷ 82 ∷ 68 ∷ 32 ∷ 40 ∷ 69 ∷ 41 ∷ 32 ∷ 122 ∷ 58 ∷ 32 ∷ 73 ∷ 78 ∷ 84 ∷ 69 ∷ 71 ∷ 69 ∷ 82 ∷ 32 ∷ 69 ∷ 78 ∷ 68 ∷ 59 ∷ 32 ∷ 80 ∷ 32 ∷ 61 ∷ 32 ∷ 80 ∷ 79 ∷ 73 ∷ 78 ∷ 84 ∷ 69 ∷ 82 ∷ 32 ∷ 84 ∷ 79 ∷ 32 ∷ 82 ∷ 59 ∷ 32 ∷ 81 ∷ 32 ∷ 61 ∷ 32 ∷ 80 ∷ 79 ∷ 73 ∷ 78 ∷ 84 ∷ 69 ∷ 82 ∷ 32 ∷ 84 ∷ 79 ∷ 32 ∷ 69 ∷ 59 ∷ 32 ∷ 84 ∷ 32 ∷ 61 ∷ 32 ∷ 80 ∷ 79 ∷ 73 ∷ 78 ∷ 84 ∷ 69 ∷ 82 ∷ 32 ∷ 84 ∷ 79 ∷ 32 ∷ 70 ∷ 59 ∷ 32 ∷ 86 ∷ 65 ∷ 82 ∷ 32 ∷ 112 ∷ 44 ∷ 32 ∷ 112 ∷ 50 ∷ 58 ∷ 32 ∷ 80 ∷ 59 ∷ 32 ∷ 113 ∷ 58 ∷ 32 ∷ 81 ∷ 59 ∷ 32 ∷ 116 ∷ 58 ∷ 32 ∷ 84 ∷ 59 ∷ 32 ∷ 80 ∷ 82 ∷ 79 ∷ 67 ∷ 69 ∷ 68 ∷ 85 ∷ 82 ∷ 69 ∷ 32 ∷ 86 ∷ 40 ∷ 86 ∷ 65 ∷ 82 ∷ 32 ∷ 112 ∷ 58 ∷ 32 ∷ 80 ∷ 41 ∷ 59 ∷ 32 ∷ 69 ∷ 78 ∷ 68 ∷ 32 ∷ 86 ∷ 59 ∷ 32 ∷ 80 ∷ 82 ∷ 79 ∷ 67 ∷ 69 ∷ 68 ∷ 85 ∷ 82 ∷ 69 ∷ 32 ∷ 86 ∷ 88 ∷ 40 ∷ 86 ∷ 65 ∷ 82 ∷ 32 ∷ 105 ∷ 58 ∷ 32 ∷ 73 ∷ 78 ∷ 84 ∷ 69 ∷ 71 ∷ 69 ∷ 82 ∷ 41 ∷ 59 ∷ 32 ∷ 69 ∷ 78 ∷ 68 ∷ 32 ∷ 86 ∷ 88 ∷ 59 ∷ 32 ∷ 80 ∷ 82 ∷ 79 ∷ 67 ∷ 69 ∷ 68 ∷ 85 ∷ 82 ∷ 69 ∷ 32 ∷ 86 ∷ 82 ∷ 40 ∷ 86 ∷ 65 ∷ 82 ∷ 32 ∷ 114 ∷ 58 ∷ 32 ∷ 82 ∷ 41 ∷ 59 ∷ 32 ∷ 69 ∷ 78 ∷ 68 ∷ 32 ∷ 86 ∷ 82 ∷ 59 ∷ 32 ∷ 80 ∷ 82 ∷ 79 ∷ 67 ∷ 69 ∷ 68 ∷ 85 ∷ 82 ∷ 69 ∷ 32 ∷ 83 ∷ 40 ∷ 114 ∷ 58 ∷ 32 ∷ 82 ∷ 41 ∷ 59 ∷ 32 ∷ 69 ∷ 78 ∷ 68 ∷ 32 ∷ 83 ∷ 59 ∷ 32 ∷ 66 ∷ 69 ∷ 71 ∷ 73 ∷ 78 ∷ 32 ∷ 67 ∷ 65 ∷ 83 ∷ 69 ∷ 32 ∷ 112 ∷ 32 ∷ 79 ∷ 70 ∷ 32 ∷ 81 ∷ 58 ∷ 32 ∷ 69 ∷ 78 ∷ 68 ∷ 59 ∷ 32 ∷ 112 ∷ 46 ∷ 121 ∷ 32 ∷ 58 ∷ 61 ∷ 32 ∷ 49 ∷ 32 ∷ 69 ∷ 78 ∷ 68 ∷ 32 ∷ 77 ∷ 46 ∷ []); symbols = (symbol (Ident) 0 6 ∷ symbol (Ident) 7 8 ∷ symbol (Ident) 8 9 ∷ symbol (Ident) 10 14 ∷ symbol (Ident) 15 16 ∷ symbol (Ident) 17 18 ∷ symbol (Ident) 19 25 ∷ symbol (Ident) 26 27 ∷ symbol (Ident) 27 28 ∷ symbol (Ident) 29 36 ∷ symbol (Ident) 37 40 ∷ symbol (Ident) 40 41 ∷ symbol (Ident) 42 43 ∷ symbol (Ident) 44 45 ∷ symbol (Ident) 46 52 ∷ symbol (Ident) 53 54 ∷ symbol (Ident) 54 55 ∷ symbol (Ident) 55 56 ∷ symbol (Ident) 57 58 ∷ symbol (Ident) 58 59 ∷ symbol (Ident) 60 67 ∷ symbol (Ident) 68 71 ∷ symbol (Ident) 71 72 ∷ symbol (Ident) 73 74 ∷ symbol (Ident) 75 76 ∷ symbol (Ident) 77 83 ∷ symbol (Ident) 84 85 ∷ symbol (Ident) 85 86 ∷ symbol (Ident) 86 87 ∷ symbol (Ident) 88 89 ∷ symbol (Ident) 89 90 ∷ symbol (Ident) 91 98 ∷ symbol (Ident) 99 102 ∷ symbol (Ident) 102 103 ∷ symbol (Ident) 104 105 ∷ symbol (Ident) 106 107 ∷ symbol (Ident) 108 115 ∷ symbol (Ident) 116 118 ∷ symbol (Ident) 119 120 ∷ symbol (Ident) 120 121 ∷ symbol (Ident) 122 123 ∷ symbol (Ident) 124 125 ∷ symbol (Ident) 126 133 ∷ symbol (Ident) 134 136 ∷ symbol (Ident) 137 138 ∷ symbol (Ident) 138 139 ∷ symbol (Ident) 140 141 ∷ symbol (Ident) 142 143 ∷ symbol (Ident) 144 151 ∷ symbol (Ident) 152 154 ∷ symbol (Ident) 155 156 ∷ symbol (Ident) 156 157 ∷ symbol (Ident) 158 161 ∷ symbol (Ident) 162 163 ∷ symbol (Ident) 163 164 ∷ symbol (Ident) 165 167 ∷ symbol (Ident) 167 168 ∷ symbol (Ident) 169 170 ∷ symbol (Ident) 170 171 ∷ symbol (Ident) 172 173 ∷ symbol (Ident) 173 174 ∷ symbol (Ident) 175 176 ∷ symbol (Ident) 176 177 ∷ symbol (Ident) 178 179 ∷ symbol (Ident) 179 180 ∷ symbol (Ident) 181 182 ∷ symbol (Ident) 182 183 ∷ symbol (Ident) 184 193 ∷ symbol (Ident) 194 195 ∷ symbol (Ident) 195 196 ∷ symbol (Ident) 196 199 ∷ symbol (Ident) 200 201 ∷ symbol (Ident) 201 202 ∷ symbol (Ident) 203 204 ∷ symbol (Ident) 204 205 ∷ symbol (Ident) 205 206 ∷ symbol (Ident) 207 210 ∷ symbol (Ident) 211 212 ∷ symbol (Ident) 212 213 ∷ symbol (Ident) 214 223 ∷ symbol (Ident) 224 226 ∷ symbol (Ident) 226 227 ∷ symbol (Ident) 227 230 ∷ symbol (Ident) 231 232 ∷ symbol (Ident) 232 233 ∷ symbol (Ident) 234 241 ∷ symbol (Ident) 241 242 ∷ symbol (Ident) 242 243 ∷ symbol (Ident) 244 247 ∷ symbol (Ident) 248 250 ∷ symbol (Ident) 250 251 ∷ symbol (Ident) 252 261 ∷ symbol (Ident) 262 264 ∷ symbol (Ident) 264 265 ∷ symbol (Ident) 265 268 ∷ symbol (Ident) 269 270 ∷ symbol (Ident) 270 271 ∷ symbol (Ident) 272 273 ∷ symbol (Ident) 273 274 ∷ symbol (Ident) 274 275 ∷ symbol (Ident) 276 279 ∷ symbol (Ident) 280 282 ∷ symbol (Ident) 282 283 ∷ symbol (Ident) 284 293 ∷ symbol (Ident) 294 295 ∷ symbol (Ident) 295 296 ∷ symbol (Ident) 296 297 ∷ symbol (Ident) 297 298 ∷ symbol (Ident) 299 300 ∷ symbol (Ident) 300 301 ∷ symbol (Ident) 301 302 ∷ symbol (Ident) 303 306 ∷ symbol (Ident) 307 308 ∷ symbol (Ident) 308 309 ∷ symbol (Ident) 310 315 ∷ symbol (Ident) 316 320 ∷ symbol (Ident) 321 322 ∷ symbol (Ident) 323 325 ∷ symbol (Ident) 326 327 ∷ symbol (Ident) 327 328 ∷ symbol (Ident) 329 332 ∷ symbol (Ident) 332 333 ∷ symbol (Ident) 334 335 ∷ symbol (Ident) 335 336 ∷ symbol (Ident) 336 337 ∷ symbol (Ident) 338 340 ∷ symbol (Int (pos 1)) 341 342 ∷ symbol (Ident) 343 346 ∷ symbol (Ident) 347 348 ∷ symbol (Ident) 348 349 ∷ []) }; tree = record { module_word = 0; name = 1; semicolon = 0; imports = None; decls = (S.decls None (Some (record { type_word = 0; each = (record { name = (record { name = 4; star = None }); equal = 0; is = (S.Record 6 None (S.fields (record { first = (record { name = 7; star = None }); more = [] }) 0 (S.Named (record { name = 9; member = None }))) S.no_more_fields 0); semicolon = 0 } ∷ record { name = (record { name = 12; star = None }); equal = 0; is = (S.Record 14 (Some (record { left_paren = 0; name = (record { name = 16; member = None }); right_paren = 0 })) (S.fields (record { first = (record { name = 18; star = None }); more = [] }) 0 (S.Named (record { name = 20; member = None }))) S.no_more_fields 0); semicolon = 0 } ∷ record { name = (record { name = 23; star = None }); equal = 0; is = (S.Record 25 (Some (record { left_paren = 0; name = (record { name = 27; member = None }); right_paren = 0 })) (S.fields (record { first = (record { name = 29; star = None }); more = [] }) 0 (S.Named (record { name = 31; member = None }))) S.no_more_fields 0); semicolon = 0 } ∷ record { name = (record { name = 34; star = None }); equal = 0; is = (S.Pointer 36 0 (S.Named (record { name = 38; member = None }))); semicolon = 0 } ∷ record { name = (record { name = 40; star = None }); equal = 0; is = (S.Pointer 42 0 (S.Named (record { name = 44; member = None }))); semicolon = 0 } ∷ record { name = (record { name = 46; star = None }); equal = 0; is = (S.Pointer 48 0 (S.Named (record { name = 50; member = None }))); semicolon = 0 } ∷ []) })) (Some (record { var_word = 0; each = (record { names = (record { first = (record { name = 53; star = None }); more = (record { comma = 0; name = (record { name = 55; star = None }) } ∷ []) }); colon = 0; of = (S.Named (record { name = 57; member = None })); semicolon = 0 } ∷ record { names = (record { first = (record { name = 59; star = None }); more = [] }); colon = 0; of = (S.Named (record { name = 61; member = None })); semicolon = 0 } ∷ record { names = (record { first = (record { name = 63; star = None }); more = [] }); colon = 0; of = (S.Named (record { name = 65; member = None })); semicolon = 0 } ∷ []) })) (S.procedure 0 (record { name = 68; star = None }) (Some (record { left_paren = 0; sections = Some (record { first = (record { var_word = Some 0; first = 71; more = []; colon = 0; open_array = None; of = (record { name = 73; member = None }) }); more = [] }); right_paren = 0; result = None })) 0 (S.decls None None None S.no_procedure) None None 76 77 0 (S.procedure 0 (record { name = 80; star = None }) (Some (record { left_paren = 0; sections = Some (record { first = (record { var_word = Some 0; first = 83; more = []; colon = 0; open_array = None; of = (record { name = 85; member = None }) }); more = [] }); right_paren = 0; result = None })) 0 (S.decls None None None S.no_procedure) None None 88 89 0 (S.procedure 0 (record { name = 92; star = None }) (Some (record { left_paren = 0; sections = Some (record { first = (record { var_word = Some 0; first = 95; more = []; colon = 0; open_array = None; of = (record { name = 97; member = None }) }); more = [] }); right_paren = 0; result = None })) 0 (S.decls None None None S.no_procedure) None None 100 101 0 (S.procedure 0 (record { name = 104; star = None }) (Some (record { left_paren = 0; sections = Some (record { first = (record { var_word = None; first = 106; more = []; colon = 0; open_array = None; of = (record { name = 108; member = None }) }); more = [] }); right_paren = 0; result = None })) 0 (S.decls None None None S.no_procedure) None None 111 112 0 S.no_procedure))))); body = (Some (record { begin_word = 0; stats = (S.stats (S.Case 0 (S.only (S.simple None (S.term (S.Designated 116 S.no_selector) S.no_factor) S.no_term)) 0 (S.one_case (record { low = TheLabel.Named (record { name = 118; member = None }); high = None }) [] 0 (S.stats S.Empty S.no_stat)) S.no_next_case 0) (S.next_stat 0 (S.AssignOrCall (record { name = 122; selectors = (S.selected (S.Field 0 124) S.no_selector) }) (Some (record { becomes = 0; value = (S.only (S.simple None (S.term (S.Int 126) S.no_factor) S.no_term)) }))) S.no_stat)) })); end_word = 0; end_name = 128; period = 0 } }

pub narrow_6 : checked (narrow_6_0 ∷ []) ≡ Fault 0 30 336
narrow_6 = refl

-- MODULE M; TYPE R = RECORD x: INTEGER END; E = RECORD (R) y: INTEGER END; F = RECORD (E) z: INTEGER END; P = POINTER TO R; Q = POINTER TO E; T = POINTER TO F; VAR p, p2: P; q: Q; t: T; PROCEDURE V(VAR p: P); END V; PROCEDURE VX(VAR i: INTEGER); END VX; PROCEDURE VR(VAR r: R); END VR; PROCEDURE S(r: R); END S; BEGIN CASE p OF Q: q := p2 END END M.
abbrev narrow_7_0 : Parsed
narrow_7_0 = record { source = record { bytes = (77 ∷ 79 ∷ 68 ∷ 85 ∷ 76 ∷ 69 ∷ 32 ∷ 77 ∷ 59 ∷ 32 ∷ 84 ∷ 89 ∷ 80 ∷ 69 ∷ 32 ∷ 82 ∷ 32 ∷ 61 ∷ 32 ∷ 82 ∷ 69 ∷ 67 ∷ 79 ∷ 82 ∷ 68 ∷ 32 ∷ 120 ∷ 58 ∷ 32 ∷ 73 ∷ 78 ∷ 84 ∷ 69 ∷ 71 ∷ 69 ∷ 82 ∷ 32 ∷ 69 ∷ 78 ∷ 68 ∷ 59 ∷ 32 ∷ 69 ∷ 32 ∷ 61 ∷ 32 ∷ 82 ∷ 69 ∷ 67 ∷ 79 ∷ 82 ∷ 68 ∷ 32 ∷ 40 ∷ 82 ∷ 41 ∷ 32 ∷ 121 ∷ 58 ∷ 32 ∷ 73 ∷ 78 ∷ 84 ∷ 69 ∷ 71 ∷ 69 ∷ 82 ∷ 32 ∷ 69 ∷ 78 ∷ 68 ∷ 59 ∷ 32 ∷ 70 ∷ 32 ∷ 61 ∷ 32 ∷ 82 ∷ 69 ∷ 67 ∷ 79 ∷ 82 ∷ 68 ∷ 32 ∷ 40 ∷ 69 ∷ 41 ∷ 32 ∷ 122 ∷ 58 ∷ 32 ∷ 73 ∷ 78 ∷ 84 ∷ 69 ∷ 71 ∷ 69 ∷ 82 ∷ 32 ∷ 69 ∷ 78 ∷ 68 ∷ 59 ∷ 32 ∷ 80 ∷ 32 ∷ 61 ∷ 32 ∷ 80 ∷ 79 ∷ 73 ∷ 78 ∷ 84 ∷ 69 ∷ 82 ∷ 32 ∷ 84 ∷ 79 ∷ 32 ∷ 82 ∷ 59 ∷ 32 ∷ 81 ∷ 32 ∷ 61 ∷ 32 ∷ 80 ∷ 79 ∷ 73 ∷ 78 ∷ 84 ∷ 69 ∷ 82 ∷ 32 ∷ 84 ∷ 79 ∷ 32 ∷ 69 ∷ 59 ∷ 32 ∷ 84 ∷ 32 ∷ 61 ∷ 32 ∷ 80 ∷ 79 ∷ 73 ∷ 78 ∷ 84 ∷ 69 ∷ 82 ∷ 32 ∷ 84 ∷ 79 ∷ 32 ∷ 70 ∷ 59 ∷ 32 ∷ 86 ∷ 65 ∷ 82 ∷ 32 ∷ 112 ∷ 44 ∷ 32 ∷ 112 ∷ 50 ∷ 58 ∷ 32 ∷ 80 ∷ 59 ∷ 32 ∷ 113 ∷ 58 ∷ 32 ∷ 81 ∷ 59 ∷ 32 ∷ 116 ∷ 58 ∷ 32 ∷ 84 ∷ 59 ∷ 32 ∷ 80 ∷ 82 ∷ 79 ∷ 67 ∷ 69 ∷ 68 ∷ 85 ∷ 82 ∷ 69 ∷ 32 ∷ 86 ∷ 40 ∷ 86 ∷ 65 ∷ 82 ∷ 32 ∷ 112 ∷ 58 ∷ 32 ∷ 80 ∷ 41 ∷ 59 ∷ 32 ∷ 69 ∷ 78 ∷ 68 ∷ 32 ∷ 86 ∷ 59 ∷ 32 ∷ 80 ∷ 82 ∷ 79 ∷ 67 ∷ 69 ∷ 68 ∷ 85 ∷ 82 ∷ 69 ∷ 32 ∷ 86 ∷ 88 ∷ 40 ∷ 86 ∷ 65 ∷ 82 ∷ 32 ∷ 105 ∷ 58 ∷ 32 ∷ 73 ∷ 78 ∷ 84 ∷ 69 ∷ 71 ∷ 69 ∷ 82 ∷ 41 ∷ 59 ∷ 32 ∷ 69 ∷ 78 ∷ 68 ∷ 32 ∷ 86 ∷ 88 ∷ 59 ∷ 32 ∷ 80 ∷ 82 ∷ 79 ∷ 67 ∷ 69 ∷ 68 ∷ 85 ∷ 82 ∷ 69 ∷ 32 ∷ 86 ∷ 82 ∷ 40 ∷ 86 ∷ 65 ∷ 82 ∷ 32 ∷ 114 ∷ 58 ∷ 32 ∷ 82 ∷ 41 ∷ 59 ∷ 32 ∷ 69 ∷ 78 ∷ 68 ∷ 32 ∷ 86 ∷ 82 ∷ 59 ∷ 32 ∷ 80 ∷ 82 ∷ 79 ∷ 67 ∷ 69 ∷ 68 ∷ 85 ∷ 82 ∷ 69 ∷ 32 ∷ 83 ∷ 40 ∷ 114 ∷ 58 ∷ 32 ∷ 82 ∷ 41 ∷ 59 ∷ 32 ∷ 69 ∷ 78 ∷ 68 ∷ 32 ∷ 83 ∷ 59 ∷ 32 ∷ 66 ∷ 69 ∷ 71 ∷ 73 ∷ 78 ∷ 32 ∷ 67 ∷ 65 ∷ 83 ∷ 69 ∷ 32 ∷ 112 ∷ 32 ∷ 79 ∷ 70 ∷ 32 ∷ 81 ∷ 58 ∷ 32 ∷ 113 ∷ 32 ∷ 58 ∷ 61 ∷ 32 ∷ 112 ∷ 50 ∷ 32 ∷ 69 ∷ 78 ∷ 68 ∷ 32 ∷ 69 ∷ 78 ∷ 68 ∷ 32 ∷ 77 ∷ 46 ∷ []); symbols = (symbol (Ident) 0 6 ∷ symbol (Ident) 7 8 ∷ symbol (Ident) 8 9 ∷ symbol (Ident) 10 14 ∷ symbol (Ident) 15 16 ∷ symbol (Ident) 17 18 ∷ symbol (Ident) 19 25 ∷ symbol (Ident) 26 27 ∷ symbol (Ident) 27 28 ∷ symbol (Ident) 29 36 ∷ symbol (Ident) 37 40 ∷ symbol (Ident) 40 41 ∷ symbol (Ident) 42 43 ∷ symbol (Ident) 44 45 ∷ symbol (Ident) 46 52 ∷ symbol (Ident) 53 54 ∷ symbol (Ident) 54 55 ∷ symbol (Ident) 55 56 ∷ symbol (Ident) 57 58 ∷ symbol (Ident) 58 59 ∷ symbol (Ident) 60 67 ∷ symbol (Ident) 68 71 ∷ symbol (Ident) 71 72 ∷ symbol (Ident) 73 74 ∷ symbol (Ident) 75 76 ∷ symbol (Ident) 77 83 ∷ symbol (Ident) 84 85 ∷ symbol (Ident) 85 86 ∷ symbol (Ident) 86 87 ∷ symbol (Ident) 88 89 ∷ symbol (Ident) 89 90 ∷ symbol (Ident) 91 98 ∷ symbol (Ident) 99 102 ∷ symbol (Ident) 102 103 ∷ symbol (Ident) 104 105 ∷ symbol (Ident) 106 107 ∷ symbol (Ident) 108 115 ∷ symbol (Ident) 116 118 ∷ symbol (Ident) 119 120 ∷ symbol (Ident) 120 121 ∷ symbol (Ident) 122 123 ∷ symbol (Ident) 124 125 ∷ symbol (Ident) 126 133 ∷ symbol (Ident) 134 136 ∷ symbol (Ident) 137 138 ∷ symbol (Ident) 138 139 ∷ symbol (Ident) 140 141 ∷ symbol (Ident) 142 143 ∷ symbol (Ident) 144 151 ∷ symbol (Ident) 152 154 ∷ symbol (Ident) 155 156 ∷ symbol (Ident) 156 157 ∷ symbol (Ident) 158 161 ∷ symbol (Ident) 162 163 ∷ symbol (Ident) 163 164 ∷ symbol (Ident) 165 167 ∷ symbol (Ident) 167 168 ∷ symbol (Ident) 169 170 ∷ symbol (Ident) 170 171 ∷ symbol (Ident) 172 173 ∷ symbol (Ident) 173 174 ∷ symbol (Ident) 175 176 ∷ symbol (Ident) 176 177 ∷ symbol (Ident) 178 179 ∷ symbol (Ident) 179 180 ∷ symbol (Ident) 181 182 ∷ symbol (Ident) 182 183 ∷ symbol (Ident) 184 193 ∷ symbol (Ident) 194 195 ∷ symbol (Ident) 195 196 ∷ symbol (Ident) 196 199 ∷ symbol (Ident) 200 201 ∷ symbol (Ident) 201 202 ∷ symbol (Ident) 203 204 ∷ symbol (Ident) 204 205 ∷ symbol (Ident) 205 206 ∷ symbol (Ident) 207 210 ∷ symbol (Ident) 211 212 ∷ symbol (Ident) 212 213 ∷ symbol (Ident) 214 223 ∷ symbol (Ident) 224 226 ∷ symbol (Ident) 226 227 ∷ symbol (Ident) 227 230 ∷ symbol (Ident) 231 232 ∷ symbol (Ident) 232 233 ∷ symbol (Ident) 234 241 ∷ symbol (Ident) 241 242 ∷ symbol (Ident) 242 243 ∷ symbol (Ident) 244 247 ∷ symbol (Ident) 248 250 ∷ symbol (Ident) 250 251 ∷ symbol (Ident) 252 261 ∷ symbol (Ident) 262 264 ∷ symbol (Ident) 264 265 ∷ symbol (Ident) 265 268 ∷ symbol (Ident) 269 270 ∷ symbol (Ident) 270 271 ∷ symbol (Ident) 272 273 ∷ symbol (Ident) 273 274 ∷ symbol (Ident) 274 275 ∷ symbol (Ident) 276 279 ∷ symbol (Ident) 280 282 ∷ symbol (Ident) 282 283 ∷ symbol (Ident) 284 293 ∷ symbol (Ident) 294 295 ∷ symbol (Ident) 295 296 ∷ symbol (Ident) 296 297 ∷ symbol (Ident) 297 298 ∷ symbol (Ident) 299 300 ∷ symbol (Ident) 300 301 ∷ symbol (Ident) 301 302 ∷ symbol (Ident) 303 306 ∷ symbol (Ident) 307 308 ∷ symbol (Ident) 308 309 ∷ symbol (Ident) 310 315 ∷ symbol (Ident) 316 320 ∷ symbol (Ident) 321 322 ∷ symbol (Ident) 323 325 ∷ symbol (Ident) 326 327 ∷ symbol (Ident) 327 328 ∷ symbol (Ident) 329 330 ∷ symbol (Ident) 331 333 ∷ symbol (Ident) 334 336 ∷ symbol (Ident) 337 340 ∷ symbol (Ident) 341 344 ∷ symbol (Ident) 345 346 ∷ symbol (Ident) 346 347 ∷ []) }; tree = record { module_word = 0; name = 1; semicolon = 0; imports = None; decls = (S.decls None (Some (record { type_word = 0; each = (record { name = (record { name = 4; star = None }); equal = 0; is = (S.Record 6 None (S.fields (record { first = (record { name = 7; star = None }); more = [] }) 0 (S.Named (record { name = 9; member = None }))) S.no_more_fields 0); semicolon = 0 } ∷ record { name = (record { name = 12; star = None }); equal = 0; is = (S.Record 14 (Some (record { left_paren = 0; name = (record { name = 16; member = None }); right_paren = 0 })) (S.fields (record { first = (record { name = 18; star = None }); more = [] }) 0 (S.Named (record { name = 20; member = None }))) S.no_more_fields 0); semicolon = 0 } ∷ record { name = (record { name = 23; star = None }); equal = 0; is = (S.Record 25 (Some (record { left_paren = 0; name = (record { name = 27; member = None }); right_paren = 0 })) (S.fields (record { first = (record { name = 29; star = None }); more = [] }) 0 (S.Named (record { name = 31; member = None }))) S.no_more_fields 0); semicolon = 0 } ∷ record { name = (record { name = 34; star = None }); equal = 0; is = (S.Pointer 36 0 (S.Named (record { name = 38; member = None }))); semicolon = 0 } ∷ record { name = (record { name = 40; star = None }); equal = 0; is = (S.Pointer 42 0 (S.Named (record { name = 44; member = None }))); semicolon = 0 } ∷ record { name = (record { name = 46; star = None }); equal = 0; is = (S.Pointer 48 0 (S.Named (record { name = 50; member = None }))); semicolon = 0 } ∷ []) })) (Some (record { var_word = 0; each = (record { names = (record { first = (record { name = 53; star = None }); more = (record { comma = 0; name = (record { name = 55; star = None }) } ∷ []) }); colon = 0; of = (S.Named (record { name = 57; member = None })); semicolon = 0 } ∷ record { names = (record { first = (record { name = 59; star = None }); more = [] }); colon = 0; of = (S.Named (record { name = 61; member = None })); semicolon = 0 } ∷ record { names = (record { first = (record { name = 63; star = None }); more = [] }); colon = 0; of = (S.Named (record { name = 65; member = None })); semicolon = 0 } ∷ []) })) (S.procedure 0 (record { name = 68; star = None }) (Some (record { left_paren = 0; sections = Some (record { first = (record { var_word = Some 0; first = 71; more = []; colon = 0; open_array = None; of = (record { name = 73; member = None }) }); more = [] }); right_paren = 0; result = None })) 0 (S.decls None None None S.no_procedure) None None 76 77 0 (S.procedure 0 (record { name = 80; star = None }) (Some (record { left_paren = 0; sections = Some (record { first = (record { var_word = Some 0; first = 83; more = []; colon = 0; open_array = None; of = (record { name = 85; member = None }) }); more = [] }); right_paren = 0; result = None })) 0 (S.decls None None None S.no_procedure) None None 88 89 0 (S.procedure 0 (record { name = 92; star = None }) (Some (record { left_paren = 0; sections = Some (record { first = (record { var_word = Some 0; first = 95; more = []; colon = 0; open_array = None; of = (record { name = 97; member = None }) }); more = [] }); right_paren = 0; result = None })) 0 (S.decls None None None S.no_procedure) None None 100 101 0 (S.procedure 0 (record { name = 104; star = None }) (Some (record { left_paren = 0; sections = Some (record { first = (record { var_word = None; first = 106; more = []; colon = 0; open_array = None; of = (record { name = 108; member = None }) }); more = [] }); right_paren = 0; result = None })) 0 (S.decls None None None S.no_procedure) None None 111 112 0 S.no_procedure))))); body = (Some (record { begin_word = 0; stats = (S.stats (S.Case 0 (S.only (S.simple None (S.term (S.Designated 116 S.no_selector) S.no_factor) S.no_term)) 0 (S.one_case (record { low = TheLabel.Named (record { name = 118; member = None }); high = None }) [] 0 (S.stats (S.AssignOrCall (record { name = 120; selectors = S.no_selector }) (Some (record { becomes = 0; value = (S.only (S.simple None (S.term (S.Designated 122 S.no_selector) S.no_factor) S.no_term)) }))) S.no_stat)) S.no_next_case 0) S.no_stat) })); end_word = 0; end_name = 125; period = 0 } }

pub narrow_7 : checked (narrow_7_0 ∷ []) ≡ Fault 0 31 334
narrow_7 = refl

-- MODULE M; TYPE R = RECORD x: INTEGER END; E = RECORD (R) y: INTEGER END; F = RECORD (E) z: INTEGER END; P = POINTER TO R; Q = POINTER TO E; T = POINTER TO F; VAR p, p2: P; q: Q; t: T; PROCEDURE V(VAR p: P); END V; PROCEDURE VX(VAR i: INTEGER); END VX; PROCEDURE VR(VAR r: R); END VR; PROCEDURE S(r: R); END S; BEGIN CASE p OF Q: V((p)) END END M.
abbrev narrow_8_0 : Parsed
narrow_8_0 = record { source = record { bytes = (77 ∷ 79 ∷ 68 ∷ 85 ∷ 76 ∷ 69 ∷ 32 ∷ 77 ∷ 59 ∷ 32 ∷ 84 ∷ 89 ∷ 80 ∷ 69 ∷ 32 ∷ 82 ∷ 32 ∷ 61 ∷ 32 ∷ 82 ∷ 69 ∷ 67 ∷ 79 ∷ 82 ∷ 68 ∷ 32 ∷ 120 ∷ 58 ∷ 32 ∷ 73 ∷ 78 ∷ 84 ∷ 69 ∷ 71 ∷ 69 ∷ 82 ∷ 32 ∷ 69 ∷ 78 ∷ 68 ∷ 59 ∷ 32 ∷ 69 ∷ 32 ∷ 61 ∷ 32 ∷ 82 ∷ 69 ∷ 67 ∷ 79 ∷ 82 ∷ 68 ∷ 32 ∷ 40 ∷ 82 ∷ 41 ∷ 32 ∷ 121 ∷ 58 ∷ 32 ∷ 73 ∷ 78 ∷ 84 ∷ 69 ∷ 71 ∷ 69 ∷ 82 ∷ 32 ∷ 69 ∷ 78 ∷ 68 ∷ 59 ∷ 32 ∷ 70 ∷ 32 ∷ 61 ∷ 32 ∷ 82 ∷ 69 ∷ 67 ∷ 79 ∷ 82 ∷ 68 ∷ 32 ∷ 40 ∷ 69 ∷ 41 ∷ 32 ∷ 122 ∷ 58 ∷ 32 ∷ 73 ∷ 78 ∷ 84 ∷ 69 ∷ 71 ∷ 69 ∷ 82 ∷ 32 ∷ 69 ∷ 78 ∷ 68 ∷ 59 ∷ 32 ∷ 80 ∷ 32 ∷ 61 ∷ 32 ∷ 80 ∷ 79 ∷ 73 ∷ 78 ∷ 84 ∷ 69 ∷ 82 ∷ 32 ∷ 84 ∷ 79 ∷ 32 ∷ 82 ∷ 59 ∷ 32 ∷ 81 ∷ 32 ∷ 61 ∷ 32 ∷ 80 ∷ 79 ∷ 73 ∷ 78 ∷ 84 ∷ 69 ∷ 82 ∷ 32 ∷ 84 ∷ 79 ∷ 32 ∷ 69 ∷ 59 ∷ 32 ∷ 84 ∷ 32 ∷ 61 ∷ 32 ∷ 80 ∷ 79 ∷ 73 ∷ 78 ∷ 84 ∷ 69 ∷ 82 ∷ 32 ∷ 84 ∷ 79 ∷ 32 ∷ 70 ∷ 59 ∷ 32 ∷ 86 ∷ 65 ∷ 82 ∷ 32 ∷ 112 ∷ 44 ∷ 32 ∷ 112 ∷ 50 ∷ 58 ∷ 32 ∷ 80 ∷ 59 ∷ 32 ∷ 113 ∷ 58 ∷ 32 ∷ 81 ∷ 59 ∷ 32 ∷ 116 ∷ 58 ∷ 32 ∷ 84 ∷ 59 ∷ 32 ∷ 80 ∷ 82 ∷ 79 ∷ 67 ∷ 69 ∷ 68 ∷ 85 ∷ 82 ∷ 69 ∷ 32 ∷ 86 ∷ 40 ∷ 86 ∷ 65 ∷ 82 ∷ 32 ∷ 112 ∷ 58 ∷ 32 ∷ 80 ∷ 41 ∷ 59 ∷ 32 ∷ 69 ∷ 78 ∷ 68 ∷ 32 ∷ 86 ∷ 59 ∷ 32 ∷ 80 ∷ 82 ∷ 79 ∷ 67 ∷ 69 ∷ 68 ∷ 85 ∷ 82 ∷ 69 ∷ 32 ∷ 86 ∷ 88 ∷ 40 ∷ 86 ∷ 65 ∷ 82 ∷ 32 ∷ 105 ∷ 58 ∷ 32 ∷ 73 ∷ 78 ∷ 84 ∷ 69 ∷ 71 ∷ 69 ∷ 82 ∷ 41 ∷ 59 ∷ 32 ∷ 69 ∷ 78 ∷ 68 ∷ 32 ∷ 86 ∷ 88 ∷ 59 ∷ 32 ∷ 80 ∷ 82 ∷ 79 ∷ 67 ∷ 69 ∷ 68 ∷ 85 ∷ 82 ∷ 69 ∷ 32 ∷ 86 ∷ 82 ∷ 40 ∷ 86 ∷ 65 ∷ 82 ∷ 32 ∷ 114 ∷ 58 ∷ 32 ∷ 82 ∷ 41 ∷ 59 ∷ 32 ∷ 69 ∷ 78 ∷ 68 ∷ 32 ∷ 86 ∷ 82 ∷ 59 ∷ 32 ∷ 80 ∷ 82 ∷ 79 ∷ 67 ∷ 69 ∷ 68 ∷ 85 ∷ 82 ∷ 69 ∷ 32 ∷ 83 ∷ 40 ∷ 114 ∷ 58 ∷ 32 ∷ 82 ∷ 41 ∷ 59 ∷ 32 ∷ 69 ∷ 78 ∷ 68 ∷ 32 ∷ 83 ∷ 59 ∷ 32 ∷ 66 ∷ 69 ∷ 71 ∷ 73 ∷ 78 ∷ 32 ∷ 67 ∷ 65 ∷ 83 ∷ 69 ∷ 32 ∷ 112 ∷ 32 ∷ 79 ∷ 70 ∷ 32 ∷ 81 ∷ 58 ∷ 32 ∷ 86 ∷ 40 ∷ 40 ∷ 112 ∷ 41 ∷ 41 ∷ 32 ∷ 69 ∷ 78 ∷ 68 ∷ 32 ∷ 69 ∷ 78 ∷ 68 ∷ 32 ∷ 77 ∷ 46 ∷ []); symbols = (symbol (Ident) 0 6 ∷ symbol (Ident) 7 8 ∷ symbol (Ident) 8 9 ∷ symbol (Ident) 10 14 ∷ symbol (Ident) 15 16 ∷ symbol (Ident) 17 18 ∷ symbol (Ident) 19 25 ∷ symbol (Ident) 26 27 ∷ symbol (Ident) 27 28 ∷ symbol (Ident) 29 36 ∷ symbol (Ident) 37 40 ∷ symbol (Ident) 40 41 ∷ symbol (Ident) 42 43 ∷ symbol (Ident) 44 45 ∷ symbol (Ident) 46 52 ∷ symbol (Ident) 53 54 ∷ symbol (Ident) 54 55 ∷ symbol (Ident) 55 56 ∷ symbol (Ident) 57 58 ∷ symbol (Ident) 58 59 ∷ symbol (Ident) 60 67 ∷ symbol (Ident) 68 71 ∷ symbol (Ident) 71 72 ∷ symbol (Ident) 73 74 ∷ symbol (Ident) 75 76 ∷ symbol (Ident) 77 83 ∷ symbol (Ident) 84 85 ∷ symbol (Ident) 85 86 ∷ symbol (Ident) 86 87 ∷ symbol (Ident) 88 89 ∷ symbol (Ident) 89 90 ∷ symbol (Ident) 91 98 ∷ symbol (Ident) 99 102 ∷ symbol (Ident) 102 103 ∷ symbol (Ident) 104 105 ∷ symbol (Ident) 106 107 ∷ symbol (Ident) 108 115 ∷ symbol (Ident) 116 118 ∷ symbol (Ident) 119 120 ∷ symbol (Ident) 120 121 ∷ symbol (Ident) 122 123 ∷ symbol (Ident) 124 125 ∷ symbol (Ident) 126 133 ∷ symbol (Ident) 134 136 ∷ symbol (Ident) 137 138 ∷ symbol (Ident) 138 139 ∷ symbol (Ident) 140 141 ∷ symbol (Ident) 142 143 ∷ symbol (Ident) 144 151 ∷ symbol (Ident) 152 154 ∷ symbol (Ident) 155 156 ∷ symbol (Ident) 156 157 ∷ symbol (Ident) 158 161 ∷ symbol (Ident) 162 163 ∷ symbol (Ident) 163 164 ∷ symbol (Ident) 165 167 ∷ symbol (Ident) 167 168 ∷ symbol (Ident) 169 170 ∷ symbol (Ident) 170 171 ∷ symbol (Ident) 172 173 ∷ symbol (Ident) 173 174 ∷ symbol (Ident) 175 176 ∷ symbol (Ident) 176 177 ∷ symbol (Ident) 178 179 ∷ symbol (Ident) 179 180 ∷ symbol (Ident) 181 182 ∷ symbol (Ident) 182 183 ∷ symbol (Ident) 184 193 ∷ symbol (Ident) 194 195 ∷ symbol (Ident) 195 196 ∷ symbol (Ident) 196 199 ∷ symbol (Ident) 200 201 ∷ symbol (Ident) 201 202 ∷ symbol (Ident) 203 204 ∷ symbol (Ident) 204 205 ∷ symbol (Ident) 205 206 ∷ symbol (Ident) 207 210 ∷ symbol (Ident) 211 212 ∷ symbol (Ident) 212 213 ∷ symbol (Ident) 214 223 ∷ symbol (Ident) 224 226 ∷ symbol (Ident) 226 227 ∷ symbol (Ident) 227 230 ∷ symbol (Ident) 231 232 ∷ symbol (Ident) 232 233 ∷ symbol (Ident) 234 241 ∷ symbol (Ident) 241 242 ∷ symbol (Ident) 242 243 ∷ symbol (Ident) 244 247 ∷ symbol (Ident) 248 250 ∷ symbol (Ident) 250 251 ∷ symbol (Ident) 252 261 ∷ symbol (Ident) 262 264 ∷ symbol (Ident) 264 265 ∷ symbol (Ident) 265 268 ∷ symbol (Ident) 269 270 ∷ symbol (Ident) 270 271 ∷ symbol (Ident) 272 273 ∷ symbol (Ident) 273 274 ∷ symbol (Ident) 274 275 ∷ symbol (Ident) 276 279 ∷ symbol (Ident) 280 282 ∷ symbol (Ident) 282 283 ∷ symbol (Ident) 284 293 ∷ symbol (Ident) 294 295 ∷ symbol (Ident) 295 296 ∷ symbol (Ident) 296 297 ∷ symbol (Ident) 297 298 ∷ symbol (Ident) 299 300 ∷ symbol (Ident) 300 301 ∷ symbol (Ident) 301 302 ∷ symbol (Ident) 303 306 ∷ symbol (Ident) 307 308 ∷ symbol (Ident) 308 309 ∷ symbol (Ident) 310 315 ∷ symbol (Ident) 316 320 ∷ symbol (Ident) 321 322 ∷ symbol (Ident) 323 325 ∷ symbol (Ident) 326 327 ∷ symbol (Ident) 327 328 ∷ symbol (Ident) 329 330 ∷ symbol (Ident) 330 331 ∷ symbol (Ident) 331 332 ∷ symbol (Ident) 332 333 ∷ symbol (Ident) 333 334 ∷ symbol (Ident) 334 335 ∷ symbol (Ident) 336 339 ∷ symbol (Ident) 340 343 ∷ symbol (Ident) 344 345 ∷ symbol (Ident) 345 346 ∷ []) }; tree = record { module_word = 0; name = 1; semicolon = 0; imports = None; decls = (S.decls None (Some (record { type_word = 0; each = (record { name = (record { name = 4; star = None }); equal = 0; is = (S.Record 6 None (S.fields (record { first = (record { name = 7; star = None }); more = [] }) 0 (S.Named (record { name = 9; member = None }))) S.no_more_fields 0); semicolon = 0 } ∷ record { name = (record { name = 12; star = None }); equal = 0; is = (S.Record 14 (Some (record { left_paren = 0; name = (record { name = 16; member = None }); right_paren = 0 })) (S.fields (record { first = (record { name = 18; star = None }); more = [] }) 0 (S.Named (record { name = 20; member = None }))) S.no_more_fields 0); semicolon = 0 } ∷ record { name = (record { name = 23; star = None }); equal = 0; is = (S.Record 25 (Some (record { left_paren = 0; name = (record { name = 27; member = None }); right_paren = 0 })) (S.fields (record { first = (record { name = 29; star = None }); more = [] }) 0 (S.Named (record { name = 31; member = None }))) S.no_more_fields 0); semicolon = 0 } ∷ record { name = (record { name = 34; star = None }); equal = 0; is = (S.Pointer 36 0 (S.Named (record { name = 38; member = None }))); semicolon = 0 } ∷ record { name = (record { name = 40; star = None }); equal = 0; is = (S.Pointer 42 0 (S.Named (record { name = 44; member = None }))); semicolon = 0 } ∷ record { name = (record { name = 46; star = None }); equal = 0; is = (S.Pointer 48 0 (S.Named (record { name = 50; member = None }))); semicolon = 0 } ∷ []) })) (Some (record { var_word = 0; each = (record { names = (record { first = (record { name = 53; star = None }); more = (record { comma = 0; name = (record { name = 55; star = None }) } ∷ []) }); colon = 0; of = (S.Named (record { name = 57; member = None })); semicolon = 0 } ∷ record { names = (record { first = (record { name = 59; star = None }); more = [] }); colon = 0; of = (S.Named (record { name = 61; member = None })); semicolon = 0 } ∷ record { names = (record { first = (record { name = 63; star = None }); more = [] }); colon = 0; of = (S.Named (record { name = 65; member = None })); semicolon = 0 } ∷ []) })) (S.procedure 0 (record { name = 68; star = None }) (Some (record { left_paren = 0; sections = Some (record { first = (record { var_word = Some 0; first = 71; more = []; colon = 0; open_array = None; of = (record { name = 73; member = None }) }); more = [] }); right_paren = 0; result = None })) 0 (S.decls None None None S.no_procedure) None None 76 77 0 (S.procedure 0 (record { name = 80; star = None }) (Some (record { left_paren = 0; sections = Some (record { first = (record { var_word = Some 0; first = 83; more = []; colon = 0; open_array = None; of = (record { name = 85; member = None }) }); more = [] }); right_paren = 0; result = None })) 0 (S.decls None None None S.no_procedure) None None 88 89 0 (S.procedure 0 (record { name = 92; star = None }) (Some (record { left_paren = 0; sections = Some (record { first = (record { var_word = Some 0; first = 95; more = []; colon = 0; open_array = None; of = (record { name = 97; member = None }) }); more = [] }); right_paren = 0; result = None })) 0 (S.decls None None None S.no_procedure) None None 100 101 0 (S.procedure 0 (record { name = 104; star = None }) (Some (record { left_paren = 0; sections = Some (record { first = (record { var_word = None; first = 106; more = []; colon = 0; open_array = None; of = (record { name = 108; member = None }) }); more = [] }); right_paren = 0; result = None })) 0 (S.decls None None None S.no_procedure) None None 111 112 0 S.no_procedure))))); body = (Some (record { begin_word = 0; stats = (S.stats (S.Case 0 (S.only (S.simple None (S.term (S.Designated 116 S.no_selector) S.no_factor) S.no_term)) 0 (S.one_case (record { low = TheLabel.Named (record { name = 118; member = None }); high = None }) [] 0 (S.stats (S.AssignOrCall (record { name = 120; selectors = (S.selected (S.Parens 0 (S.expressions (S.only (S.simple None (S.term (S.Paren 122 (S.only (S.simple None (S.term (S.Designated 123 S.no_selector) S.no_factor) S.no_term)) 0) S.no_factor) S.no_term)) S.no_expression) 0) S.no_selector) }) None) S.no_stat)) S.no_next_case 0) S.no_stat) })); end_word = 0; end_name = 128; period = 0 } }

pub narrow_8 : checked (narrow_8_0 ∷ []) ≡ Fault 0 40 331
narrow_8 = refl

-- MODULE M; TYPE R = RECORD x: INTEGER END; E = RECORD (R) y: INTEGER END; F = RECORD (E) z: INTEGER END; P = POINTER TO R; Q = POINTER TO E; T = POINTER TO F; VAR p, p2: P; q: Q; t: T; PROCEDURE V(VAR p: P); END V; PROCEDURE VX(VAR i: INTEGER); END VX; PROCEDURE VR(VAR r: R); END VR; PROCEDURE S(r: R); END S; BEGIN CASE p OF Q: ASSERT(p IS T); ASSERT(p = q); t := p(T) END END M.
abbrev narrow_9_0 : Parsed
narrow_9_0 = record { source = record { bytes = (77 ∷ 79 ∷ 68 ∷ 85 ∷ 76 ∷ 69 ∷ 32 ∷ 77 ∷ 59 ∷ 32 ∷ 84 ∷ 89 ∷ 80 ∷ 69 ∷ 32 ∷ 82 ∷ 32 ∷ 61 ∷ 32 ∷ 82 ∷ 69 ∷ 67 ∷ 79 ∷ 82 ∷ 68 ∷ 32 ∷ 120 ∷ 58 ∷ 32 ∷ 73 ∷ 78 ∷ 84 ∷ 69 ∷ 71 ∷ 69 ∷ 82 ∷ 32 ∷ 69 ∷ 78 ∷ 68 ∷ 59 ∷ 32 ∷ 69 ∷ 32 ∷ 61 ∷ 32 ∷ 82 ∷ 69 ∷ 67 ∷ 79 ∷ 82 ∷ 68 ∷ 32 ∷ 40 ∷ 82 ∷ 41 ∷ 32 ∷ 121 ∷ 58 ∷ 32 ∷ 73 ∷ 78 ∷ 84 ∷ 69 ∷ 71 ∷ 69 ∷ 82 ∷ 32 ∷ 69 ∷ 78 ∷ 68 ∷ 59 ∷ 32 ∷ 70 ∷ 32 ∷ 61 ∷ 32 ∷ 82 ∷ 69 ∷ 67 ∷ 79 ∷ 82 ∷ 68 ∷ 32 ∷ 40 ∷ 69 ∷ 41 ∷ 32 ∷ 122 ∷ 58 ∷ 32 ∷ 73 ∷ 78 ∷ 84 ∷ 69 ∷ 71 ∷ 69 ∷ 82 ∷ 32 ∷ 69 ∷ 78 ∷ 68 ∷ 59 ∷ 32 ∷ 80 ∷ 32 ∷ 61 ∷ 32 ∷ 80 ∷ 79 ∷ 73 ∷ 78 ∷ 84 ∷ 69 ∷ 82 ∷ 32 ∷ 84 ∷ 79 ∷ 32 ∷ 82 ∷ 59 ∷ 32 ∷ 81 ∷ 32 ∷ 61 ∷ 32 ∷ 80 ∷ 79 ∷ 73 ∷ 78 ∷ 84 ∷ 69 ∷ 82 ∷ 32 ∷ 84 ∷ 79 ∷ 32 ∷ 69 ∷ 59 ∷ 32 ∷ 84 ∷ 32 ∷ 61 ∷ 32 ∷ 80 ∷ 79 ∷ 73 ∷ 78 ∷ 84 ∷ 69 ∷ 82 ∷ 32 ∷ 84 ∷ 79 ∷ 32 ∷ 70 ∷ 59 ∷ 32 ∷ 86 ∷ 65 ∷ 82 ∷ 32 ∷ 112 ∷ 44 ∷ 32 ∷ 112 ∷ 50 ∷ 58 ∷ 32 ∷ 80 ∷ 59 ∷ 32 ∷ 113 ∷ 58 ∷ 32 ∷ 81 ∷ 59 ∷ 32 ∷ 116 ∷ 58 ∷ 32 ∷ 84 ∷ 59 ∷ 32 ∷ 80 ∷ 82 ∷ 79 ∷ 67 ∷ 69 ∷ 68 ∷ 85 ∷ 82 ∷ 69 ∷ 32 ∷ 86 ∷ 40 ∷ 86 ∷ 65 ∷ 82 ∷ 32 ∷ 112 ∷ 58 ∷ 32 ∷ 80 ∷ 41 ∷ 59 ∷ 32 ∷ 69 ∷ 78 ∷ 68 ∷ 32 ∷ 86 ∷ 59 ∷ 32 ∷ 80 ∷ 82 ∷ 79 ∷ 67 ∷ 69 ∷ 68 ∷ 85 ∷ 82 ∷ 69 ∷ 32 ∷ 86 ∷ 88 ∷ 40 ∷ 86 ∷ 65 ∷ 82 ∷ 32 ∷ 105 ∷ 58 ∷ 32 ∷ 73 ∷ 78 ∷ 84 ∷ 69 ∷ 71 ∷ 69 ∷ 82 ∷ 41 ∷ 59 ∷ 32 ∷ 69 ∷ 78 ∷ 68 ∷ 32 ∷ 86 ∷ 88 ∷ 59 ∷ 32 ∷ 80 ∷ 82 ∷ 79 ∷ 67 ∷ 69 ∷ 68 ∷ 85 ∷ 82 ∷ 69 ∷ 32 ∷ 86 ∷ 82 ∷ 40 ∷ 86 ∷ 65 ∷ 82 ∷ 32 ∷ 114 ∷ 58 ∷ 32 ∷ 82 ∷ 41 ∷ 59 ∷ 32 ∷ 69 ∷ 78 ∷ 68 ∷ 32 ∷ 86 ∷ 82 ∷ 59 ∷ 32 ∷ 80 ∷ 82 ∷ 79 ∷ 67 ∷ 69 ∷ 68 ∷ 85 ∷ 82 ∷ 69 ∷ 32 ∷ 83 ∷ 40 ∷ 114 ∷ 58 ∷ 32 ∷ 82 ∷ 41 ∷ 59 ∷ 32 ∷ 69 ∷ 78 ∷ 68 ∷ 32 ∷ 83 ∷ 59 ∷ 32 ∷ 66 ∷ 69 ∷ 71 ∷ 73 ∷ 78 ∷ 32 ∷ 67 ∷ 65 ∷ 83 ∷ 69 ∷ 32 ∷ 112 ∷ 32 ∷ 79 ∷ 70 ∷ 32 ∷ 81 ∷ 58 ∷ 32 ∷ 65 ∷ 83 ∷ 83 ∷ 69 ∷ 82 ∷ 84 ∷ 40 ∷ 112 ∷ 32 ∷ 73 ∷ 83 ∷ 32 ∷ 84 ∷ 41 ∷ 59 ∷ 32 ∷ 65 ∷ 83 ∷ 83 ∷ 69 ∷ 82 ∷ 84 ∷ 40 ∷ 112 ∷ 32 ∷ 61 ∷ 32 ∷ 113 ∷ 41 ∷ 59 ∷ 32 ∷ 116 ∷ 32 ∷ 58 ∷ 61 ∷ 32 ∷ 112 ∷ 40 ∷ 84 ∷ 41 ∷ 32 ∷ 69 ∷ 78 ∷ 68 ∷ 32 ∷ 69 ∷ 78 ∷ 68 ∷ 32 ∷ 77 ∷ 46 ∷ []); symbols = (symbol (Ident) 0 6 ∷ symbol (Ident) 7 8 ∷ symbol (Ident) 8 9 ∷ symbol (Ident) 10 14 ∷ symbol (Ident) 15 16 ∷ symbol (Ident) 17 18 ∷ symbol (Ident) 19 25 ∷ symbol (Ident) 26 27 ∷ symbol (Ident) 27 28 ∷ symbol (Ident) 29 36 ∷ symbol (Ident) 37 40 ∷ symbol (Ident) 40 41 ∷ symbol (Ident) 42 43 ∷ symbol (Ident) 44 45 ∷ symbol (Ident) 46 52 ∷ symbol (Ident) 53 54 ∷ symbol (Ident) 54 55 ∷ symbol (Ident) 55 56 ∷ symbol (Ident) 57 58 ∷ symbol (Ident) 58 59 ∷ symbol (Ident) 60 67 ∷ symbol (Ident) 68 71 ∷ symbol (Ident) 71 72 ∷ symbol (Ident) 73 74 ∷ symbol (Ident) 75 76 ∷ symbol (Ident) 77 83 ∷ symbol (Ident) 84 85 ∷ symbol (Ident) 85 86 ∷ symbol (Ident) 86 87 ∷ symbol (Ident) 88 89 ∷ symbol (Ident) 89 90 ∷ symbol (Ident) 91 98 ∷ symbol (Ident) 99 102 ∷ symbol (Ident) 102 103 ∷ symbol (Ident) 104 105 ∷ symbol (Ident) 106 107 ∷ symbol (Ident) 108 115 ∷ symbol (Ident) 116 118 ∷ symbol (Ident) 119 120 ∷ symbol (Ident) 120 121 ∷ symbol (Ident) 122 123 ∷ symbol (Ident) 124 125 ∷ symbol (Ident) 126 133 ∷ symbol (Ident) 134 136 ∷ symbol (Ident) 137 138 ∷ symbol (Ident) 138 139 ∷ symbol (Ident) 140 141 ∷ symbol (Ident) 142 143 ∷ symbol (Ident) 144 151 ∷ symbol (Ident) 152 154 ∷ symbol (Ident) 155 156 ∷ symbol (Ident) 156 157 ∷ symbol (Ident) 158 161 ∷ symbol (Ident) 162 163 ∷ symbol (Ident) 163 164 ∷ symbol (Ident) 165 167 ∷ symbol (Ident) 167 168 ∷ symbol (Ident) 169 170 ∷ symbol (Ident) 170 171 ∷ symbol (Ident) 172 173 ∷ symbol (Ident) 173 174 ∷ symbol (Ident) 175 176 ∷ symbol (Ident) 176 177 ∷ symbol (Ident) 178 179 ∷ symbol (Ident) 179 180 ∷ symbol (Ident) 181 182 ∷ symbol (Ident) 182 183 ∷ symbol (Ident) 184 193 ∷ symbol (Ident) 194 195 ∷ symbol (Ident) 195 196 ∷ symbol (Ident) 196 199 ∷ symbol (Ident) 200 201 ∷ symbol (Ident) 201 202 ∷ symbol (Ident) 203 204 ∷ symbol (Ident) 204 205 ∷ symbol (Ident) 205 206 ∷ symbol (Ident) 207 210 ∷ symbol (Ident) 211 212 ∷ symbol (Ident) 212 213 ∷ symbol (Ident) 214 223 ∷ symbol (Ident) 224 226 ∷ symbol (Ident) 226 227 ∷ symbol (Ident) 227 230 ∷ symbol (Ident) 231 232 ∷ symbol (Ident) 232 233 ∷ symbol (Ident) 234 241 ∷ symbol (Ident) 241 242 ∷ symbol (Ident) 242 243 ∷ symbol (Ident) 244 247 ∷ symbol (Ident) 248 250 ∷ symbol (Ident) 250 251 ∷ symbol (Ident) 252 261 ∷ symbol (Ident) 262 264 ∷ symbol (Ident) 264 265 ∷ symbol (Ident) 265 268 ∷ symbol (Ident) 269 270 ∷ symbol (Ident) 270 271 ∷ symbol (Ident) 272 273 ∷ symbol (Ident) 273 274 ∷ symbol (Ident) 274 275 ∷ symbol (Ident) 276 279 ∷ symbol (Ident) 280 282 ∷ symbol (Ident) 282 283 ∷ symbol (Ident) 284 293 ∷ symbol (Ident) 294 295 ∷ symbol (Ident) 295 296 ∷ symbol (Ident) 296 297 ∷ symbol (Ident) 297 298 ∷ symbol (Ident) 299 300 ∷ symbol (Ident) 300 301 ∷ symbol (Ident) 301 302 ∷ symbol (Ident) 303 306 ∷ symbol (Ident) 307 308 ∷ symbol (Ident) 308 309 ∷ symbol (Ident) 310 315 ∷ symbol (Ident) 316 320 ∷ symbol (Ident) 321 322 ∷ symbol (Ident) 323 325 ∷ symbol (Ident) 326 327 ∷ symbol (Ident) 327 328 ∷ symbol (Ident) 329 335 ∷ symbol (Ident) 335 336 ∷ symbol (Ident) 336 337 ∷ symbol (Ident) 338 340 ∷ symbol (Ident) 341 342 ∷ symbol (Ident) 342 343 ∷ symbol (Ident) 343 344 ∷ symbol (Ident) 345 351 ∷ symbol (Ident) 351 352 ∷ symbol (Ident) 352 353 ∷ symbol (Ident) 354 355 ∷ symbol (Ident) 356 357 ∷ symbol (Ident) 357 358 ∷ symbol (Ident) 358 359 ∷ symbol (Ident) 360 361 ∷ symbol (Ident) 362 364 ∷ symbol (Ident) 365 366 ∷ symbol (Ident) 366 367 ∷ symbol (Ident) 367 368 ∷ symbol (Ident) 368 369 ∷ symbol (Ident) 370 373 ∷ symbol (Ident) 374 377 ∷ symbol (Ident) 378 379 ∷ symbol (Ident) 379 380 ∷ []) }; tree = record { module_word = 0; name = 1; semicolon = 0; imports = None; decls = (S.decls None (Some (record { type_word = 0; each = (record { name = (record { name = 4; star = None }); equal = 0; is = (S.Record 6 None (S.fields (record { first = (record { name = 7; star = None }); more = [] }) 0 (S.Named (record { name = 9; member = None }))) S.no_more_fields 0); semicolon = 0 } ∷ record { name = (record { name = 12; star = None }); equal = 0; is = (S.Record 14 (Some (record { left_paren = 0; name = (record { name = 16; member = None }); right_paren = 0 })) (S.fields (record { first = (record { name = 18; star = None }); more = [] }) 0 (S.Named (record { name = 20; member = None }))) S.no_more_fields 0); semicolon = 0 } ∷ record { name = (record { name = 23; star = None }); equal = 0; is = (S.Record 25 (Some (record { left_paren = 0; name = (record { name = 27; member = None }); right_paren = 0 })) (S.fields (record { first = (record { name = 29; star = None }); more = [] }) 0 (S.Named (record { name = 31; member = None }))) S.no_more_fields 0); semicolon = 0 } ∷ record { name = (record { name = 34; star = None }); equal = 0; is = (S.Pointer 36 0 (S.Named (record { name = 38; member = None }))); semicolon = 0 } ∷ record { name = (record { name = 40; star = None }); equal = 0; is = (S.Pointer 42 0 (S.Named (record { name = 44; member = None }))); semicolon = 0 } ∷ record { name = (record { name = 46; star = None }); equal = 0; is = (S.Pointer 48 0 (S.Named (record { name = 50; member = None }))); semicolon = 0 } ∷ []) })) (Some (record { var_word = 0; each = (record { names = (record { first = (record { name = 53; star = None }); more = (record { comma = 0; name = (record { name = 55; star = None }) } ∷ []) }); colon = 0; of = (S.Named (record { name = 57; member = None })); semicolon = 0 } ∷ record { names = (record { first = (record { name = 59; star = None }); more = [] }); colon = 0; of = (S.Named (record { name = 61; member = None })); semicolon = 0 } ∷ record { names = (record { first = (record { name = 63; star = None }); more = [] }); colon = 0; of = (S.Named (record { name = 65; member = None })); semicolon = 0 } ∷ []) })) (S.procedure 0 (record { name = 68; star = None }) (Some (record { left_paren = 0; sections = Some (record { first = (record { var_word = Some 0; first = 71; more = []; colon = 0; open_array = None; of = (record { name = 73; member = None }) }); more = [] }); right_paren = 0; result = None })) 0 (S.decls None None None S.no_procedure) None None 76 77 0 (S.procedure 0 (record { name = 80; star = None }) (Some (record { left_paren = 0; sections = Some (record { first = (record { var_word = Some 0; first = 83; more = []; colon = 0; open_array = None; of = (record { name = 85; member = None }) }); more = [] }); right_paren = 0; result = None })) 0 (S.decls None None None S.no_procedure) None None 88 89 0 (S.procedure 0 (record { name = 92; star = None }) (Some (record { left_paren = 0; sections = Some (record { first = (record { var_word = Some 0; first = 95; more = []; colon = 0; open_array = None; of = (record { name = 97; member = None }) }); more = [] }); right_paren = 0; result = None })) 0 (S.decls None None None S.no_procedure) None None 100 101 0 (S.procedure 0 (record { name = 104; star = None }) (Some (record { left_paren = 0; sections = Some (record { first = (record { var_word = None; first = 106; more = []; colon = 0; open_array = None; of = (record { name = 108; member = None }) }); more = [] }); right_paren = 0; result = None })) 0 (S.decls None None None S.no_procedure) None None 111 112 0 S.no_procedure))))); body = (Some (record { begin_word = 0; stats = (S.stats (S.Case 0 (S.only (S.simple None (S.term (S.Designated 116 S.no_selector) S.no_factor) S.no_term)) 0 (S.one_case (record { low = TheLabel.Named (record { name = 118; member = None }); high = None }) [] 0 (S.stats (S.AssignOrCall (record { name = 120; selectors = (S.selected (S.Parens 0 (S.expressions (S.compared (S.simple None (S.term (S.Designated 122 S.no_selector) S.no_factor) S.no_term) (TheRelation.Is 123) (S.simple None (S.term (S.Designated 124 S.no_selector) S.no_factor) S.no_term)) S.no_expression) 0) S.no_selector) }) None) (S.next_stat 0 (S.AssignOrCall (record { name = 127; selectors = (S.selected (S.Parens 0 (S.expressions (S.compared (S.simple None (S.term (S.Designated 129 S.no_selector) S.no_factor) S.no_term) (TheRelation.Equal 130) (S.simple None (S.term (S.Designated 131 S.no_selector) S.no_factor) S.no_term)) S.no_expression) 0) S.no_selector) }) None) (S.next_stat 0 (S.AssignOrCall (record { name = 134; selectors = S.no_selector }) (Some (record { becomes = 0; value = (S.only (S.simple None (S.term (S.Designated 136 (S.selected (S.Parens 0 (S.expressions (S.only (S.simple None (S.term (S.Designated 138 S.no_selector) S.no_factor) S.no_term)) S.no_expression) 0) S.no_selector)) S.no_factor) S.no_term)) }))) S.no_stat)))) S.no_next_case 0) S.no_stat) })); end_word = 0; end_name = 142; period = 0 } }

pub narrow_9 : checked (narrow_9_0 ∷ []) ≡ Legal (record { records = (record { module_number = 0; base = None; level = 0; fields = (record { name = (120 ∷ []); exported = false; shape = H.Integer } ∷ []); cells = 1; extent = record { bytes = 8; wide = true } } ∷ record { module_number = 0; base = (Some 0); level = 1; fields = (record { name = (121 ∷ []); exported = false; shape = H.Integer } ∷ []); cells = 2; extent = record { bytes = 16; wide = true } } ∷ record { module_number = 0; base = (Some 1); level = 2; fields = (record { name = (122 ∷ []); exported = false; shape = H.Integer } ∷ []); cells = 3; extent = record { bytes = 24; wide = true } } ∷ []); pointers = (Some 0 ∷ Some 1 ∷ Some 2 ∷ []); modules = (record { name = (77 ∷ []); objects = (record { name = (82 ∷ []); exported = false; entity = I.OfType (H.Record 0) } ∷ record { name = (69 ∷ []); exported = false; entity = I.OfType (H.Record 1) } ∷ record { name = (70 ∷ []); exported = false; entity = I.OfType (H.Record 2) } ∷ record { name = (80 ∷ []); exported = false; entity = I.OfType (H.Pointer 0) } ∷ record { name = (81 ∷ []); exported = false; entity = I.OfType (H.Pointer 1) } ∷ record { name = (84 ∷ []); exported = false; entity = I.OfType (H.Pointer 2) } ∷ record { name = (112 ∷ []); exported = false; entity = I.OfVariable 0 } ∷ record { name = (112 ∷ 50 ∷ []); exported = false; entity = I.OfVariable 1 } ∷ record { name = (113 ∷ []); exported = false; entity = I.OfVariable 2 } ∷ record { name = (116 ∷ []); exported = false; entity = I.OfVariable 3 } ∷ record { name = (86 ∷ []); exported = false; entity = I.OfProcedure 0 } ∷ record { name = (86 ∷ 88 ∷ []); exported = false; entity = I.OfProcedure 1 } ∷ record { name = (86 ∷ 82 ∷ []); exported = false; entity = I.OfProcedure 2 } ∷ record { name = (83 ∷ []); exported = false; entity = I.OfProcedure 3 } ∷ []); variables = ((H.Pointer 0) ∷ (H.Pointer 0) ∷ (H.Pointer 1) ∷ (H.Pointer 2) ∷ []); body = 4 } ∷ []); procedures = (record { module_number = 0; line = 1; is_body = false; formals = (record { mode = TheMode.Place; variable = true; shape = (H.Pointer 0) } ∷ []); result = H.Nothing; locals = []; texts = []; body = I.no_statement; answer = None } ∷ record { module_number = 0; line = 1; is_body = false; formals = (record { mode = TheMode.Place; variable = true; shape = H.Integer } ∷ []); result = H.Nothing; locals = []; texts = []; body = I.no_statement; answer = None } ∷ record { module_number = 0; line = 1; is_body = false; formals = (record { mode = TheMode.Record; variable = true; shape = (H.Record 0) } ∷ []); result = H.Nothing; locals = []; texts = []; body = I.no_statement; answer = None } ∷ record { module_number = 0; line = 1; is_body = false; formals = (record { mode = TheMode.Place; variable = false; shape = (H.Record 0) } ∷ []); result = H.Nothing; locals = []; texts = []; body = I.no_statement; answer = None } ∷ record { module_number = 0; line = 1; is_body = true; formals = []; result = H.Nothing; locals = []; texts = []; body = (I.next_statement (I.CasePointer (record { form = (I.Load (I.of_type (I.Global 0 0) (H.Pointer 0))); shape = (H.Pointer 0) }) (I.next_part (I.Extends 1) (I.next_statement (I.Assert (record { form = (I.IsPointer (I.Guard (I.Load (I.of_type (I.Global 0 0) (H.Pointer 0))) 1) 2); shape = H.Boolean })) (I.next_statement (I.Assert (record { form = (I.Compare TheComparison.Equal (I.Guard (I.Load (I.of_type (I.Global 0 0) (H.Pointer 0))) 1) (I.Load (I.of_type (I.Global 0 2) (H.Pointer 1)))); shape = H.Boolean })) (I.next_statement (I.Assign (I.of_type (I.Global 0 3) (H.Pointer 2)) (record { form = (I.Guard (I.Guard (I.Load (I.of_type (I.Global 0 0) (H.Pointer 0))) 1) 2); shape = (H.Pointer 2) })) I.no_statement))) I.no_part)) I.no_statement); answer = None } ∷ []); imports_in = false })
narrow_9 = refl

-- MODULE M; TYPE R = RECORD x: INTEGER END; E = RECORD (R) y: INTEGER END; F = RECORD (E) z: INTEGER END; P = POINTER TO R; Q = POINTER TO E; T = POINTER TO F; VAR p, p2: P; q: Q; t: T; PROCEDURE V(VAR p: P); END V; PROCEDURE VX(VAR i: INTEGER); END VX; PROCEDURE VR(VAR r: R); END VR; PROCEDURE S(r: R); END S; PROCEDURE U(VAR r: R; s: R); BEGIN CASE r OF E: r.y := 1; r := s; VR(r) END END U; END M.
abbrev narrow_10_0 : Parsed
narrow_10_0 = record { source = record { bytes = (77 ∷ 79 ∷ 68 ∷ 85 ∷ 76 ∷ 69 ∷ 32 ∷ 77 ∷ 59 ∷ 32 ∷ 84 ∷ 89 ∷ 80 ∷ 69 ∷ 32 ∷ 82 ∷ 32 ∷ 61 ∷ 32 ∷ 82 ∷ 69 ∷ 67 ∷ 79 ∷ 82 ∷ 68 ∷ 32 ∷ 120 ∷ 58 ∷ 32 ∷ 73 ∷ 78 ∷ 84 ∷ 69 ∷ 71 ∷ 69 ∷ 82 ∷ 32 ∷ 69 ∷ 78 ∷ 68 ∷ 59 ∷ 32 ∷ 69 ∷ 32 ∷ 61 ∷ 32 ∷ 82 ∷ 69 ∷ 67 ∷ 79 ∷ 82 ∷ 68 ∷ 32 ∷ 40 ∷ 82 ∷ 41 ∷ 32 ∷ 121 ∷ 58 ∷ 32 ∷ 73 ∷ 78 ∷ 84 ∷ 69 ∷ 71 ∷ 69 ∷ 82 ∷ 32 ∷ 69 ∷ 78 ∷ 68 ∷ 59 ∷ 32 ∷ 70 ∷ 32 ∷ 61 ∷ 32 ∷ 82 ∷ 69 ∷ 67 ∷ 79 ∷ 82 ∷ 68 ∷ 32 ∷ 40 ∷ 69 ∷ 41 ∷ 32 ∷ 122 ∷ 58 ∷ 32 ∷ 73 ∷ 78 ∷ 84 ∷ 69 ∷ 71 ∷ 69 ∷ 82 ∷ 32 ∷ 69 ∷ 78 ∷ 68 ∷ 59 ∷ 32 ∷ 80 ∷ 32 ∷ 61 ∷ 32 ∷ 80 ∷ 79 ∷ 73 ∷ 78 ∷ 84 ∷ 69 ∷ 82 ∷ 32 ∷ 84 ∷ 79 ∷ 32 ∷ 82 ∷ 59 ∷ 32 ∷ 81 ∷ 32 ∷ 61 ∷ 32 ∷ 80 ∷ 79 ∷ 73 ∷ 78 ∷ 84 ∷ 69 ∷ 82 ∷ 32 ∷ 84 ∷ 79 ∷ 32 ∷ 69 ∷ 59 ∷ 32 ∷ 84 ∷ 32 ∷ 61 ∷ 32 ∷ 80 ∷ 79 ∷ 73 ∷ 78 ∷ 84 ∷ 69 ∷ 82 ∷ 32 ∷ 84 ∷ 79 ∷ 32 ∷ 70 ∷ 59 ∷ 32 ∷ 86 ∷ 65 ∷ 82 ∷ 32 ∷ 112 ∷ 44 ∷ 32 ∷ 112 ∷ 50 ∷ 58 ∷ 32 ∷ 80 ∷ 59 ∷ 32 ∷ 113 ∷ 58 ∷ 32 ∷ 81 ∷ 59 ∷ 32 ∷ 116 ∷ 58 ∷ 32 ∷ 84 ∷ 59 ∷ 32 ∷ 80 ∷ 82 ∷ 79 ∷ 67 ∷ 69 ∷ 68 ∷ 85 ∷ 82 ∷ 69 ∷ 32 ∷ 86 ∷ 40 ∷ 86 ∷ 65 ∷ 82 ∷ 32 ∷ 112 ∷ 58 ∷ 32 ∷ 80 ∷ 41 ∷ 59 ∷ 32 ∷ 69 ∷ 78 ∷ 68 ∷ 32 ∷ 86 ∷ 59 ∷ 32 ∷ 80 ∷ 82 ∷ 79 ∷ 67 ∷ 69 ∷ 68 ∷ 85 ∷ 82 ∷ 69 ∷ 32 ∷ 86 ∷ 88 ∷ 40 ∷ 86 ∷ 65 ∷ 82 ∷ 32 ∷ 105 ∷ 58 ∷ 32 ∷ 73 ∷ 78 ∷ 84 ∷ 69 ∷ 71 ∷ 69 ∷ 82 ∷ 41 ∷ 59 ∷ 32 ∷ 69 ∷ 78 ∷ 68 ∷ 32 ∷ 86 ∷ 88 ∷ 59 ∷ 32 ∷ 80 ∷ 82 ∷ 79 ∷ 67 ∷ 69 ∷ 68 ∷ 85 ∷ 82 ∷ 69 ∷ 32 ∷ 86 ∷ 82 ∷ 40 ∷ 86 ∷ 65 ∷ 82 ∷ 32 ∷ 114 ∷ 58 ∷ 32 ∷ 82 ∷ 41 ∷ 59 ∷ 32 ∷ 69 ∷ 78 ∷ 68 ∷ 32 ∷ 86 ∷ 82 ∷ 59 ∷ 32 ∷ 80 ∷ 82 ∷ 79 ∷ 67 ∷ 69 ∷ 68 ∷ 85 ∷ 82 ∷ 69 ∷ 32 ∷ 83 ∷ 40 ∷ 114 ∷ 58 ∷ 32 ∷ 82 ∷ 41 ∷ 59 ∷ 32 ∷ 69 ∷ 78 ∷ 68 ∷ 32 ∷ 83 ∷ 59 ∷ 32 ∷ 80 ∷ 82 ∷ 79 ∷ 67 ∷ 69 ∷ 68 ∷ 85 ∷ 82 ∷ 69 ∷ 32 ∷ 85 ∷ 40 ∷ 86 ∷ 65 ∷ 82 ∷ 32 ∷ 114 ∷ 58 ∷ 32 ∷ 82 ∷ 59 ∷ 32 ∷ 115 ∷ 58 ∷ 32 ∷ 82 ∷ 41 ∷ 59 ∷ 32 ∷ 66 ∷ 69 ∷ 71 ∷ 73 ∷ 78 ∷ 32 ∷ 67 ∷ 65 ∷ 83 ∷ 69 ∷ 32 ∷ 114 ∷ 32 ∷ 79 ∷ 70 ∷ 32 ∷ 69 ∷ 58 ∷ 32 ∷ 114 ∷ 46 ∷ 121 ∷ 32 ∷ 58 ∷ 61 ∷ 32 ∷ 49 ∷ 59 ∷ 32 ∷ 114 ∷ 32 ∷ 58 ∷ 61 ∷ 32 ∷ 115 ∷ 59 ∷ 32 ∷ 86 ∷ 82 ∷ 40 ∷ 114 ∷ 41 ∷ 32 ∷ 69 ∷ 78 ∷ 68 ∷ 32 ∷ 69 ∷ 78 ∷ 68 ∷ 32 ∷ 85 ∷ 59 ∷ 32 ∷ 69 ∷ 78 ∷ 68 ∷ 32 ∷ 77 ∷ 46 ∷ []); symbols = (symbol (Ident) 0 6 ∷ symbol (Ident) 7 8 ∷ symbol (Ident) 8 9 ∷ symbol (Ident) 10 14 ∷ symbol (Ident) 15 16 ∷ symbol (Ident) 17 18 ∷ symbol (Ident) 19 25 ∷ symbol (Ident) 26 27 ∷ symbol (Ident) 27 28 ∷ symbol (Ident) 29 36 ∷ symbol (Ident) 37 40 ∷ symbol (Ident) 40 41 ∷ symbol (Ident) 42 43 ∷ symbol (Ident) 44 45 ∷ symbol (Ident) 46 52 ∷ symbol (Ident) 53 54 ∷ symbol (Ident) 54 55 ∷ symbol (Ident) 55 56 ∷ symbol (Ident) 57 58 ∷ symbol (Ident) 58 59 ∷ symbol (Ident) 60 67 ∷ symbol (Ident) 68 71 ∷ symbol (Ident) 71 72 ∷ symbol (Ident) 73 74 ∷ symbol (Ident) 75 76 ∷ symbol (Ident) 77 83 ∷ symbol (Ident) 84 85 ∷ symbol (Ident) 85 86 ∷ symbol (Ident) 86 87 ∷ symbol (Ident) 88 89 ∷ symbol (Ident) 89 90 ∷ symbol (Ident) 91 98 ∷ symbol (Ident) 99 102 ∷ symbol (Ident) 102 103 ∷ symbol (Ident) 104 105 ∷ symbol (Ident) 106 107 ∷ symbol (Ident) 108 115 ∷ symbol (Ident) 116 118 ∷ symbol (Ident) 119 120 ∷ symbol (Ident) 120 121 ∷ symbol (Ident) 122 123 ∷ symbol (Ident) 124 125 ∷ symbol (Ident) 126 133 ∷ symbol (Ident) 134 136 ∷ symbol (Ident) 137 138 ∷ symbol (Ident) 138 139 ∷ symbol (Ident) 140 141 ∷ symbol (Ident) 142 143 ∷ symbol (Ident) 144 151 ∷ symbol (Ident) 152 154 ∷ symbol (Ident) 155 156 ∷ symbol (Ident) 156 157 ∷ symbol (Ident) 158 161 ∷ symbol (Ident) 162 163 ∷ symbol (Ident) 163 164 ∷ symbol (Ident) 165 167 ∷ symbol (Ident) 167 168 ∷ symbol (Ident) 169 170 ∷ symbol (Ident) 170 171 ∷ symbol (Ident) 172 173 ∷ symbol (Ident) 173 174 ∷ symbol (Ident) 175 176 ∷ symbol (Ident) 176 177 ∷ symbol (Ident) 178 179 ∷ symbol (Ident) 179 180 ∷ symbol (Ident) 181 182 ∷ symbol (Ident) 182 183 ∷ symbol (Ident) 184 193 ∷ symbol (Ident) 194 195 ∷ symbol (Ident) 195 196 ∷ symbol (Ident) 196 199 ∷ symbol (Ident) 200 201 ∷ symbol (Ident) 201 202 ∷ symbol (Ident) 203 204 ∷ symbol (Ident) 204 205 ∷ symbol (Ident) 205 206 ∷ symbol (Ident) 207 210 ∷ symbol (Ident) 211 212 ∷ symbol (Ident) 212 213 ∷ symbol (Ident) 214 223 ∷ symbol (Ident) 224 226 ∷ symbol (Ident) 226 227 ∷ symbol (Ident) 227 230 ∷ symbol (Ident) 231 232 ∷ symbol (Ident) 232 233 ∷ symbol (Ident) 234 241 ∷ symbol (Ident) 241 242 ∷ symbol (Ident) 242 243 ∷ symbol (Ident) 244 247 ∷ symbol (Ident) 248 250 ∷ symbol (Ident) 250 251 ∷ symbol (Ident) 252 261 ∷ symbol (Ident) 262 264 ∷ symbol (Ident) 264 265 ∷ symbol (Ident) 265 268 ∷ symbol (Ident) 269 270 ∷ symbol (Ident) 270 271 ∷ symbol (Ident) 272 273 ∷ symbol (Ident) 273 274 ∷ symbol (Ident) 274 275 ∷ symbol (Ident) 276 279 ∷ symbol (Ident) 280 282 ∷ symbol (Ident) 282 283 ∷ symbol (Ident) 284 293 ∷ symbol (Ident) 294 295 ∷ symbol (Ident) 295 296 ∷ symbol (Ident) 296 297 ∷ symbol (Ident) 297 298 ∷ symbol (Ident) 299 300 ∷ symbol (Ident) 300 301 ∷ symbol (Ident) 301 302 ∷ symbol (Ident) 303 306 ∷ symbol (Ident) 307 308 ∷ symbol (Ident) 308 309 ∷ symbol (Ident) 310 319 ∷ symbol (Ident) 320 321 ∷ symbol (Ident) 321 322 ∷ symbol (Ident) 322 325 ∷ symbol (Ident) 326 327 ∷ symbol (Ident) 327 328 ∷ symbol (Ident) 329 330 ∷ symbol (Ident) 330 331 ∷ symbol (Ident) 332 333 ∷ symbol (Ident) 333 334 ∷ symbol (Ident) 335 336 ∷ symbol (Ident) 336 337 ∷ symbol (Ident) 337 338 ∷ symbol (Ident) 339 344 ∷ symbol (Ident) 345 349 ∷ symbol (Ident) 350 351 ∷ symbol (Ident) 352 354 ∷ symbol (Ident) 355 356 ∷ symbol (Ident) 356 357 ∷ symbol (Ident) 358 359 ∷ symbol (Ident) 359 360 ∷ symbol (Ident) 360 361 ∷ symbol (Ident) 362 364 ∷ symbol (Int (pos 1)) 365 366 ∷ symbol (Ident) 366 367 ∷ symbol (Ident) 368 369 ∷ symbol (Ident) 370 372 ∷ symbol (Ident) 373 374 ∷ symbol (Ident) 374 375 ∷ symbol (Ident) 376 378 ∷ symbol (Ident) 378 379 ∷ symbol (Ident) 379 380 ∷ symbol (Ident) 380 381 ∷ symbol (Ident) 382 385 ∷ symbol (Ident) 386 389 ∷ symbol (Ident) 390 391 ∷ symbol (Ident) 391 392 ∷ symbol (Ident) 393 396 ∷ symbol (Ident) 397 398 ∷ symbol (Ident) 398 399 ∷ []) }; tree = record { module_word = 0; name = 1; semicolon = 0; imports = None; decls = (S.decls None (Some (record { type_word = 0; each = (record { name = (record { name = 4; star = None }); equal = 0; is = (S.Record 6 None (S.fields (record { first = (record { name = 7; star = None }); more = [] }) 0 (S.Named (record { name = 9; member = None }))) S.no_more_fields 0); semicolon = 0 } ∷ record { name = (record { name = 12; star = None }); equal = 0; is = (S.Record 14 (Some (record { left_paren = 0; name = (record { name = 16; member = None }); right_paren = 0 })) (S.fields (record { first = (record { name = 18; star = None }); more = [] }) 0 (S.Named (record { name = 20; member = None }))) S.no_more_fields 0); semicolon = 0 } ∷ record { name = (record { name = 23; star = None }); equal = 0; is = (S.Record 25 (Some (record { left_paren = 0; name = (record { name = 27; member = None }); right_paren = 0 })) (S.fields (record { first = (record { name = 29; star = None }); more = [] }) 0 (S.Named (record { name = 31; member = None }))) S.no_more_fields 0); semicolon = 0 } ∷ record { name = (record { name = 34; star = None }); equal = 0; is = (S.Pointer 36 0 (S.Named (record { name = 38; member = None }))); semicolon = 0 } ∷ record { name = (record { name = 40; star = None }); equal = 0; is = (S.Pointer 42 0 (S.Named (record { name = 44; member = None }))); semicolon = 0 } ∷ record { name = (record { name = 46; star = None }); equal = 0; is = (S.Pointer 48 0 (S.Named (record { name = 50; member = None }))); semicolon = 0 } ∷ []) })) (Some (record { var_word = 0; each = (record { names = (record { first = (record { name = 53; star = None }); more = (record { comma = 0; name = (record { name = 55; star = None }) } ∷ []) }); colon = 0; of = (S.Named (record { name = 57; member = None })); semicolon = 0 } ∷ record { names = (record { first = (record { name = 59; star = None }); more = [] }); colon = 0; of = (S.Named (record { name = 61; member = None })); semicolon = 0 } ∷ record { names = (record { first = (record { name = 63; star = None }); more = [] }); colon = 0; of = (S.Named (record { name = 65; member = None })); semicolon = 0 } ∷ []) })) (S.procedure 0 (record { name = 68; star = None }) (Some (record { left_paren = 0; sections = Some (record { first = (record { var_word = Some 0; first = 71; more = []; colon = 0; open_array = None; of = (record { name = 73; member = None }) }); more = [] }); right_paren = 0; result = None })) 0 (S.decls None None None S.no_procedure) None None 76 77 0 (S.procedure 0 (record { name = 80; star = None }) (Some (record { left_paren = 0; sections = Some (record { first = (record { var_word = Some 0; first = 83; more = []; colon = 0; open_array = None; of = (record { name = 85; member = None }) }); more = [] }); right_paren = 0; result = None })) 0 (S.decls None None None S.no_procedure) None None 88 89 0 (S.procedure 0 (record { name = 92; star = None }) (Some (record { left_paren = 0; sections = Some (record { first = (record { var_word = Some 0; first = 95; more = []; colon = 0; open_array = None; of = (record { name = 97; member = None }) }); more = [] }); right_paren = 0; result = None })) 0 (S.decls None None None S.no_procedure) None None 100 101 0 (S.procedure 0 (record { name = 104; star = None }) (Some (record { left_paren = 0; sections = Some (record { first = (record { var_word = None; first = 106; more = []; colon = 0; open_array = None; of = (record { name = 108; member = None }) }); more = [] }); right_paren = 0; result = None })) 0 (S.decls None None None S.no_procedure) None None 111 112 0 (S.procedure 0 (record { name = 115; star = None }) (Some (record { left_paren = 0; sections = Some (record { first = (record { var_word = Some 0; first = 118; more = []; colon = 0; open_array = None; of = (record { name = 120; member = None }) }); more = (record { semicolon = 0; section = (record { var_word = None; first = 122; more = []; colon = 0; open_array = None; of = (record { name = 124; member = None }) }) } ∷ []) }); right_paren = 0; result = None })) 0 (S.decls None None None S.no_procedure) (Some (record { begin_word = 0; stats = (S.stats (S.Case 0 (S.only (S.simple None (S.term (S.Designated 129 S.no_selector) S.no_factor) S.no_term)) 0 (S.one_case (record { low = TheLabel.Named (record { name = 131; member = None }); high = None }) [] 0 (S.stats (S.AssignOrCall (record { name = 133; selectors = (S.selected (S.Field 0 135) S.no_selector) }) (Some (record { becomes = 0; value = (S.only (S.simple None (S.term (S.Int 137) S.no_factor) S.no_term)) }))) (S.next_stat 0 (S.AssignOrCall (record { name = 139; selectors = S.no_selector }) (Some (record { becomes = 0; value = (S.only (S.simple None (S.term (S.Designated 141 S.no_selector) S.no_factor) S.no_term)) }))) (S.next_stat 0 (S.AssignOrCall (record { name = 143; selectors = (S.selected (S.Parens 0 (S.expressions (S.only (S.simple None (S.term (S.Designated 145 S.no_selector) S.no_factor) S.no_term)) S.no_expression) 0) S.no_selector) }) None) S.no_stat)))) S.no_next_case 0) S.no_stat) })) None 148 149 0 S.no_procedure)))))); body = None; end_word = 0; end_name = 152; period = 0 } }

pub narrow_10 : checked (narrow_10_0 ∷ []) ≡ Fault 0 31 379
narrow_10 = refl

-- MODULE M; TYPE R = RECORD x: INTEGER END; E = RECORD (R) y: INTEGER END; F = RECORD (E) z: INTEGER END; P = POINTER TO R; Q = POINTER TO E; T = POINTER TO F; VAR p, p2: P; q: Q; t: T; PROCEDURE V(VAR p: P); END V; PROCEDURE VX(VAR i: INTEGER); END VX; PROCEDURE VR(VAR r: R); END VR; PROCEDURE S(r: R); END S; PROCEDURE U(VAR r: R; s: R); BEGIN CASE r OF E: r.y := s.x; r := s; S(r); VX(r.y); ASSERT(r IS F); VR(r(F)) | R: r(E).y := 1 END END U; END M.
abbrev narrow_11_0 : Parsed
narrow_11_0 = record { source = record { bytes = (77 ∷ 79 ∷ 68 ∷ 85 ∷ 76 ∷ 69 ∷ 32 ∷ 77 ∷ 59 ∷ 32 ∷ 84 ∷ 89 ∷ 80 ∷ 69 ∷ 32 ∷ 82 ∷ 32 ∷ 61 ∷ 32 ∷ 82 ∷ 69 ∷ 67 ∷ 79 ∷ 82 ∷ 68 ∷ 32 ∷ 120 ∷ 58 ∷ 32 ∷ 73 ∷ 78 ∷ 84 ∷ 69 ∷ 71 ∷ 69 ∷ 82 ∷ 32 ∷ 69 ∷ 78 ∷ 68 ∷ 59 ∷ 32 ∷ 69 ∷ 32 ∷ 61 ∷ 32 ∷ 82 ∷ 69 ∷ 67 ∷ 79 ∷ 82 ∷ 68 ∷ 32 ∷ 40 ∷ 82 ∷ 41 ∷ 32 ∷ 121 ∷ 58 ∷ 32 ∷ 73 ∷ 78 ∷ 84 ∷ 69 ∷ 71 ∷ 69 ∷ 82 ∷ 32 ∷ 69 ∷ 78 ∷ 68 ∷ 59 ∷ 32 ∷ 70 ∷ 32 ∷ 61 ∷ 32 ∷ 82 ∷ 69 ∷ 67 ∷ 79 ∷ 82 ∷ 68 ∷ 32 ∷ 40 ∷ 69 ∷ 41 ∷ 32 ∷ 122 ∷ 58 ∷ 32 ∷ 73 ∷ 78 ∷ 84 ∷ 69 ∷ 71 ∷ 69 ∷ 82 ∷ 32 ∷ 69 ∷ 78 ∷ 68 ∷ 59 ∷ 32 ∷ 80 ∷ 32 ∷ 61 ∷ 32 ∷ 80 ∷ 79 ∷ 73 ∷ 78 ∷ 84 ∷ 69 ∷ 82 ∷ 32 ∷ 84 ∷ 79 ∷ 32 ∷ 82 ∷ 59 ∷ 32 ∷ 81 ∷ 32 ∷ 61 ∷ 32 ∷ 80 ∷ 79 ∷ 73 ∷ 78 ∷ 84 ∷ 69 ∷ 82 ∷ 32 ∷ 84 ∷ 79 ∷ 32 ∷ 69 ∷ 59 ∷ 32 ∷ 84 ∷ 32 ∷ 61 ∷ 32 ∷ 80 ∷ 79 ∷ 73 ∷ 78 ∷ 84 ∷ 69 ∷ 82 ∷ 32 ∷ 84 ∷ 79 ∷ 32 ∷ 70 ∷ 59 ∷ 32 ∷ 86 ∷ 65 ∷ 82 ∷ 32 ∷ 112 ∷ 44 ∷ 32 ∷ 112 ∷ 50 ∷ 58 ∷ 32 ∷ 80 ∷ 59 ∷ 32 ∷ 113 ∷ 58 ∷ 32 ∷ 81 ∷ 59 ∷ 32 ∷ 116 ∷ 58 ∷ 32 ∷ 84 ∷ 59 ∷ 32 ∷ 80 ∷ 82 ∷ 79 ∷ 67 ∷ 69 ∷ 68 ∷ 85 ∷ 82 ∷ 69 ∷ 32 ∷ 86 ∷ 40 ∷ 86 ∷ 65 ∷ 82 ∷ 32 ∷ 112 ∷ 58 ∷ 32 ∷ 80 ∷ 41 ∷ 59 ∷ 32 ∷ 69 ∷ 78 ∷ 68 ∷ 32 ∷ 86 ∷ 59 ∷ 32 ∷ 80 ∷ 82 ∷ 79 ∷ 67 ∷ 69 ∷ 68 ∷ 85 ∷ 82 ∷ 69 ∷ 32 ∷ 86 ∷ 88 ∷ 40 ∷ 86 ∷ 65 ∷ 82 ∷ 32 ∷ 105 ∷ 58 ∷ 32 ∷ 73 ∷ 78 ∷ 84 ∷ 69 ∷ 71 ∷ 69 ∷ 82 ∷ 41 ∷ 59 ∷ 32 ∷ 69 ∷ 78 ∷ 68 ∷ 32 ∷ 86 ∷ 88 ∷ 59 ∷ 32 ∷ 80 ∷ 82 ∷ 79 ∷ 67 ∷ 69 ∷ 68 ∷ 85 ∷ 82 ∷ 69 ∷ 32 ∷ 86 ∷ 82 ∷ 40 ∷ 86 ∷ 65 ∷ 82 ∷ 32 ∷ 114 ∷ 58 ∷ 32 ∷ 82 ∷ 41 ∷ 59 ∷ 32 ∷ 69 ∷ 78 ∷ 68 ∷ 32 ∷ 86 ∷ 82 ∷ 59 ∷ 32 ∷ 80 ∷ 82 ∷ 79 ∷ 67 ∷ 69 ∷ 68 ∷ 85 ∷ 82 ∷ 69 ∷ 32 ∷ 83 ∷ 40 ∷ 114 ∷ 58 ∷ 32 ∷ 82 ∷ 41 ∷ 59 ∷ 32 ∷ 69 ∷ 78 ∷ 68 ∷ 32 ∷ 83 ∷ 59 ∷ 32 ∷ 80 ∷ 82 ∷ 79 ∷ 67 ∷ 69 ∷ 68 ∷ 85 ∷ 82 ∷ 69 ∷ 32 ∷ 85 ∷ 40 ∷ 86 ∷ 65 ∷ 82 ∷ 32 ∷ 114 ∷ 58 ∷ 32 ∷ 82 ∷ 59 ∷ 32 ∷ 115 ∷ 58 ∷ 32 ∷ 82 ∷ 41 ∷ 59 ∷ 32 ∷ 66 ∷ 69 ∷ 71 ∷ 73 ∷ 78 ∷ 32 ∷ 67 ∷ 65 ∷ 83 ∷ 69 ∷ 32 ∷ 114 ∷ 32 ∷ 79 ∷ 70 ∷ 32 ∷ 69 ∷ 58 ∷ 32 ∷ 114 ∷ 46 ∷ 121 ∷ 32 ∷ 58 ∷ 61 ∷ 32 ∷ 115 ∷ 46 ∷ 120 ∷ 59 ∷ 32 ∷ 114 ∷ 32 ∷ 58 ∷ 61 ∷ 32 ∷ 115 ∷ 59 ∷ 32 ∷ 83 ∷ 40 ∷ 114 ∷ 41 ∷ 59 ∷ 32 ∷ 86 ∷ 88 ∷ 40 ∷ 114 ∷ 46 ∷ 121 ∷ 41 ∷ 59 ∷ 32 ∷ 65 ∷ 83 ∷ 83 ∷ 69 ∷ 82 ∷ 84 ∷ 40 ∷ 114 ∷ 32 ∷ 73 ∷ 83 ∷ 32 ∷ 70 ∷ 41 ∷ 59 ∷ 32 ∷ 86 ∷ 82 ∷ 40 ∷ 114 ∷ 40 ∷ 70 ∷ 41 ∷ 41 ∷ 32 ∷ 124 ∷ 32 ∷ 82 ∷ 58 ∷ 32 ∷ 114 ∷ 40 ∷ 69 ∷ 41 ∷ 46 ∷ 121 ∷ 32 ∷ 58 ∷ 61 ∷ 32 ∷ 49 ∷ 32 ∷ 69 ∷ 78 ∷ 68 ∷ 32 ∷ 69 ∷ 78 ∷ 68 ∷ 32 ∷ 85 ∷ 59 ∷ 32 ∷ 69 ∷ 78 ∷ 68 ∷ 32 ∷ 77 ∷ 46 ∷ []); symbols = (symbol (Ident) 0 6 ∷ symbol (Ident) 7 8 ∷ symbol (Ident) 8 9 ∷ symbol (Ident) 10 14 ∷ symbol (Ident) 15 16 ∷ symbol (Ident) 17 18 ∷ symbol (Ident) 19 25 ∷ symbol (Ident) 26 27 ∷ symbol (Ident) 27 28 ∷ symbol (Ident) 29 36 ∷ symbol (Ident) 37 40 ∷ symbol (Ident) 40 41 ∷ symbol (Ident) 42 43 ∷ symbol (Ident) 44 45 ∷ symbol (Ident) 46 52 ∷ symbol (Ident) 53 54 ∷ symbol (Ident) 54 55 ∷ symbol (Ident) 55 56 ∷ symbol (Ident) 57 58 ∷ symbol (Ident) 58 59 ∷ symbol (Ident) 60 67 ∷ symbol (Ident) 68 71 ∷ symbol (Ident) 71 72 ∷ symbol (Ident) 73 74 ∷ symbol (Ident) 75 76 ∷ symbol (Ident) 77 83 ∷ symbol (Ident) 84 85 ∷ symbol (Ident) 85 86 ∷ symbol (Ident) 86 87 ∷ symbol (Ident) 88 89 ∷ symbol (Ident) 89 90 ∷ symbol (Ident) 91 98 ∷ symbol (Ident) 99 102 ∷ symbol (Ident) 102 103 ∷ symbol (Ident) 104 105 ∷ symbol (Ident) 106 107 ∷ symbol (Ident) 108 115 ∷ symbol (Ident) 116 118 ∷ symbol (Ident) 119 120 ∷ symbol (Ident) 120 121 ∷ symbol (Ident) 122 123 ∷ symbol (Ident) 124 125 ∷ symbol (Ident) 126 133 ∷ symbol (Ident) 134 136 ∷ symbol (Ident) 137 138 ∷ symbol (Ident) 138 139 ∷ symbol (Ident) 140 141 ∷ symbol (Ident) 142 143 ∷ symbol (Ident) 144 151 ∷ symbol (Ident) 152 154 ∷ symbol (Ident) 155 156 ∷ symbol (Ident) 156 157 ∷ symbol (Ident) 158 161 ∷ symbol (Ident) 162 163 ∷ symbol (Ident) 163 164 ∷ symbol (Ident) 165 167 ∷ symbol (Ident) 167 168 ∷ symbol (Ident) 169 170 ∷ symbol (Ident) 170 171 ∷ symbol (Ident) 172 173 ∷ symbol (Ident) 173 174 ∷ symbol (Ident) 175 176 ∷ symbol (Ident) 176 177 ∷ symbol (Ident) 178 179 ∷ symbol (Ident) 179 180 ∷ symbol (Ident) 181 182 ∷ symbol (Ident) 182 183 ∷ symbol (Ident) 184 193 ∷ symbol (Ident) 194 195 ∷ symbol (Ident) 195 196 ∷ symbol (Ident) 196 199 ∷ symbol (Ident) 200 201 ∷ symbol (Ident) 201 202 ∷ symbol (Ident) 203 204 ∷ symbol (Ident) 204 205 ∷ symbol (Ident) 205 206 ∷ symbol (Ident) 207 210 ∷ symbol (Ident) 211 212 ∷ symbol (Ident) 212 213 ∷ symbol (Ident) 214 223 ∷ symbol (Ident) 224 226 ∷ symbol (Ident) 226 227 ∷ symbol (Ident) 227 230 ∷ symbol (Ident) 231 232 ∷ symbol (Ident) 232 233 ∷ symbol (Ident) 234 241 ∷ symbol (Ident) 241 242 ∷ symbol (Ident) 242 243 ∷ symbol (Ident) 244 247 ∷ symbol (Ident) 248 250 ∷ symbol (Ident) 250 251 ∷ symbol (Ident) 252 261 ∷ symbol (Ident) 262 264 ∷ symbol (Ident) 264 265 ∷ symbol (Ident) 265 268 ∷ symbol (Ident) 269 270 ∷ symbol (Ident) 270 271 ∷ symbol (Ident) 272 273 ∷ symbol (Ident) 273 274 ∷ symbol (Ident) 274 275 ∷ symbol (Ident) 276 279 ∷ symbol (Ident) 280 282 ∷ symbol (Ident) 282 283 ∷ symbol (Ident) 284 293 ∷ symbol (Ident) 294 295 ∷ symbol (Ident) 295 296 ∷ symbol (Ident) 296 297 ∷ symbol (Ident) 297 298 ∷ symbol (Ident) 299 300 ∷ symbol (Ident) 300 301 ∷ symbol (Ident) 301 302 ∷ symbol (Ident) 303 306 ∷ symbol (Ident) 307 308 ∷ symbol (Ident) 308 309 ∷ symbol (Ident) 310 319 ∷ symbol (Ident) 320 321 ∷ symbol (Ident) 321 322 ∷ symbol (Ident) 322 325 ∷ symbol (Ident) 326 327 ∷ symbol (Ident) 327 328 ∷ symbol (Ident) 329 330 ∷ symbol (Ident) 330 331 ∷ symbol (Ident) 332 333 ∷ symbol (Ident) 333 334 ∷ symbol (Ident) 335 336 ∷ symbol (Ident) 336 337 ∷ symbol (Ident) 337 338 ∷ symbol (Ident) 339 344 ∷ symbol (Ident) 345 349 ∷ symbol (Ident) 350 351 ∷ symbol (Ident) 352 354 ∷ symbol (Ident) 355 356 ∷ symbol (Ident) 356 357 ∷ symbol (Ident) 358 359 ∷ symbol (Ident) 359 360 ∷ symbol (Ident) 360 361 ∷ symbol (Ident) 362 364 ∷ symbol (Ident) 365 366 ∷ symbol (Ident) 366 367 ∷ symbol (Ident) 367 368 ∷ symbol (Ident) 368 369 ∷ symbol (Ident) 370 371 ∷ symbol (Ident) 372 374 ∷ symbol (Ident) 375 376 ∷ symbol (Ident) 376 377 ∷ symbol (Ident) 378 379 ∷ symbol (Ident) 379 380 ∷ symbol (Ident) 380 381 ∷ symbol (Ident) 381 382 ∷ symbol (Ident) 382 383 ∷ symbol (Ident) 384 386 ∷ symbol (Ident) 386 387 ∷ symbol (Ident) 387 388 ∷ symbol (Ident) 388 389 ∷ symbol (Ident) 389 390 ∷ symbol (Ident) 390 391 ∷ symbol (Ident) 391 392 ∷ symbol (Ident) 393 399 ∷ symbol (Ident) 399 400 ∷ symbol (Ident) 400 401 ∷ symbol (Ident) 402 404 ∷ symbol (Ident) 405 406 ∷ symbol (Ident) 406 407 ∷ symbol (Ident) 407 408 ∷ symbol (Ident) 409 411 ∷ symbol (Ident) 411 412 ∷ symbol (Ident) 412 413 ∷ symbol (Ident) 413 414 ∷ symbol (Ident) 414 415 ∷ symbol (Ident) 415 416 ∷ symbol (Ident) 416 417 ∷ symbol (Ident) 418 419 ∷ symbol (Ident) 420 421 ∷ symbol (Ident) 421 422 ∷ symbol (Ident) 423 424 ∷ symbol (Ident) 424 425 ∷ symbol (Ident) 425 426 ∷ symbol (Ident) 426 427 ∷ symbol (Ident) 427 428 ∷ symbol (Ident) 428 429 ∷ symbol (Ident) 430 432 ∷ symbol (Int (pos 1)) 433 434 ∷ symbol (Ident) 435 438 ∷ symbol (Ident) 439 442 ∷ symbol (Ident) 443 444 ∷ symbol (Ident) 444 445 ∷ symbol (Ident) 446 449 ∷ symbol (Ident) 450 451 ∷ symbol (Ident) 451 452 ∷ []) }; tree = record { module_word = 0; name = 1; semicolon = 0; imports = None; decls = (S.decls None (Some (record { type_word = 0; each = (record { name = (record { name = 4; star = None }); equal = 0; is = (S.Record 6 None (S.fields (record { first = (record { name = 7; star = None }); more = [] }) 0 (S.Named (record { name = 9; member = None }))) S.no_more_fields 0); semicolon = 0 } ∷ record { name = (record { name = 12; star = None }); equal = 0; is = (S.Record 14 (Some (record { left_paren = 0; name = (record { name = 16; member = None }); right_paren = 0 })) (S.fields (record { first = (record { name = 18; star = None }); more = [] }) 0 (S.Named (record { name = 20; member = None }))) S.no_more_fields 0); semicolon = 0 } ∷ record { name = (record { name = 23; star = None }); equal = 0; is = (S.Record 25 (Some (record { left_paren = 0; name = (record { name = 27; member = None }); right_paren = 0 })) (S.fields (record { first = (record { name = 29; star = None }); more = [] }) 0 (S.Named (record { name = 31; member = None }))) S.no_more_fields 0); semicolon = 0 } ∷ record { name = (record { name = 34; star = None }); equal = 0; is = (S.Pointer 36 0 (S.Named (record { name = 38; member = None }))); semicolon = 0 } ∷ record { name = (record { name = 40; star = None }); equal = 0; is = (S.Pointer 42 0 (S.Named (record { name = 44; member = None }))); semicolon = 0 } ∷ record { name = (record { name = 46; star = None }); equal = 0; is = (S.Pointer 48 0 (S.Named (record { name = 50; member = None }))); semicolon = 0 } ∷ []) })) (Some (record { var_word = 0; each = (record { names = (record { first = (record { name = 53; star = None }); more = (record { comma = 0; name = (record { name = 55; star = None }) } ∷ []) }); colon = 0; of = (S.Named (record { name = 57; member = None })); semicolon = 0 } ∷ record { names = (record { first = (record { name = 59; star = None }); more = [] }); colon = 0; of = (S.Named (record { name = 61; member = None })); semicolon = 0 } ∷ record { names = (record { first = (record { name = 63; star = None }); more = [] }); colon = 0; of = (S.Named (record { name = 65; member = None })); semicolon = 0 } ∷ []) })) (S.procedure 0 (record { name = 68; star = None }) (Some (record { left_paren = 0; sections = Some (record { first = (record { var_word = Some 0; first = 71; more = []; colon = 0; open_array = None; of = (record { name = 73; member = None }) }); more = [] }); right_paren = 0; result = None })) 0 (S.decls None None None S.no_procedure) None None 76 77 0 (S.procedure 0 (record { name = 80; star = None }) (Some (record { left_paren = 0; sections = Some (record { first = (record { var_word = Some 0; first = 83; more = []; colon = 0; open_array = None; of = (record { name = 85; member = None }) }); more = [] }); right_paren = 0; result = None })) 0 (S.decls None None None S.no_procedure) None None 88 89 0 (S.procedure 0 (record { name = 92; star = None }) (Some (record { left_paren = 0; sections = Some (record { first = (record { var_word = Some 0; first = 95; more = []; colon = 0; open_array = None; of = (record { name = 97; member = None }) }); more = [] }); right_paren = 0; result = None })) 0 (S.decls None None None S.no_procedure) None None 100 101 0 (S.procedure 0 (record { name = 104; star = None }) (Some (record { left_paren = 0; sections = Some (record { first = (record { var_word = None; first = 106; more = []; colon = 0; open_array = None; of = (record { name = 108; member = None }) }); more = [] }); right_paren = 0; result = None })) 0 (S.decls None None None S.no_procedure) None None 111 112 0 (S.procedure 0 (record { name = 115; star = None }) (Some (record { left_paren = 0; sections = Some (record { first = (record { var_word = Some 0; first = 118; more = []; colon = 0; open_array = None; of = (record { name = 120; member = None }) }); more = (record { semicolon = 0; section = (record { var_word = None; first = 122; more = []; colon = 0; open_array = None; of = (record { name = 124; member = None }) }) } ∷ []) }); right_paren = 0; result = None })) 0 (S.decls None None None S.no_procedure) (Some (record { begin_word = 0; stats = (S.stats (S.Case 0 (S.only (S.simple None (S.term (S.Designated 129 S.no_selector) S.no_factor) S.no_term)) 0 (S.one_case (record { low = TheLabel.Named (record { name = 131; member = None }); high = None }) [] 0 (S.stats (S.AssignOrCall (record { name = 133; selectors = (S.selected (S.Field 0 135) S.no_selector) }) (Some (record { becomes = 0; value = (S.only (S.simple None (S.term (S.Designated 137 (S.selected (S.Field 0 139) S.no_selector)) S.no_factor) S.no_term)) }))) (S.next_stat 0 (S.AssignOrCall (record { name = 141; selectors = S.no_selector }) (Some (record { becomes = 0; value = (S.only (S.simple None (S.term (S.Designated 143 S.no_selector) S.no_factor) S.no_term)) }))) (S.next_stat 0 (S.AssignOrCall (record { name = 145; selectors = (S.selected (S.Parens 0 (S.expressions (S.only (S.simple None (S.term (S.Designated 147 S.no_selector) S.no_factor) S.no_term)) S.no_expression) 0) S.no_selector) }) None) (S.next_stat 0 (S.AssignOrCall (record { name = 150; selectors = (S.selected (S.Parens 0 (S.expressions (S.only (S.simple None (S.term (S.Designated 152 (S.selected (S.Field 0 154) S.no_selector)) S.no_factor) S.no_term)) S.no_expression) 0) S.no_selector) }) None) (S.next_stat 0 (S.AssignOrCall (record { name = 157; selectors = (S.selected (S.Parens 0 (S.expressions (S.compared (S.simple None (S.term (S.Designated 159 S.no_selector) S.no_factor) S.no_term) (TheRelation.Is 160) (S.simple None (S.term (S.Designated 161 S.no_selector) S.no_factor) S.no_term)) S.no_expression) 0) S.no_selector) }) None) (S.next_stat 0 (S.AssignOrCall (record { name = 164; selectors = (S.selected (S.Parens 0 (S.expressions (S.only (S.simple None (S.term (S.Designated 166 (S.selected (S.Parens 0 (S.expressions (S.only (S.simple None (S.term (S.Designated 168 S.no_selector) S.no_factor) S.no_term)) S.no_expression) 0) S.no_selector)) S.no_factor) S.no_term)) S.no_expression) 0) S.no_selector) }) None) S.no_stat))))))) (S.next_case 0 (S.one_case (record { low = TheLabel.Named (record { name = 172; member = None }); high = None }) [] 0 (S.stats (S.AssignOrCall (record { name = 174; selectors = (S.selected (S.Parens 0 (S.expressions (S.only (S.simple None (S.term (S.Designated 176 S.no_selector) S.no_factor) S.no_term)) S.no_expression) 0) (S.selected (S.Field 0 179) S.no_selector)) }) (Some (record { becomes = 0; value = (S.only (S.simple None (S.term (S.Int 181) S.no_factor) S.no_term)) }))) S.no_stat)) S.no_next_case) 0) S.no_stat) })) None 183 184 0 S.no_procedure)))))); body = None; end_word = 0; end_name = 187; period = 0 } }

pub narrow_11 : checked (narrow_11_0 ∷ []) ≡ Legal (record { records = (record { module_number = 0; base = None; level = 0; fields = (record { name = (120 ∷ []); exported = false; shape = H.Integer } ∷ []); cells = 1; extent = record { bytes = 8; wide = true } } ∷ record { module_number = 0; base = (Some 0); level = 1; fields = (record { name = (121 ∷ []); exported = false; shape = H.Integer } ∷ []); cells = 2; extent = record { bytes = 16; wide = true } } ∷ record { module_number = 0; base = (Some 1); level = 2; fields = (record { name = (122 ∷ []); exported = false; shape = H.Integer } ∷ []); cells = 3; extent = record { bytes = 24; wide = true } } ∷ []); pointers = (Some 0 ∷ Some 1 ∷ Some 2 ∷ []); modules = (record { name = (77 ∷ []); objects = (record { name = (82 ∷ []); exported = false; entity = I.OfType (H.Record 0) } ∷ record { name = (69 ∷ []); exported = false; entity = I.OfType (H.Record 1) } ∷ record { name = (70 ∷ []); exported = false; entity = I.OfType (H.Record 2) } ∷ record { name = (80 ∷ []); exported = false; entity = I.OfType (H.Pointer 0) } ∷ record { name = (81 ∷ []); exported = false; entity = I.OfType (H.Pointer 1) } ∷ record { name = (84 ∷ []); exported = false; entity = I.OfType (H.Pointer 2) } ∷ record { name = (112 ∷ []); exported = false; entity = I.OfVariable 0 } ∷ record { name = (112 ∷ 50 ∷ []); exported = false; entity = I.OfVariable 1 } ∷ record { name = (113 ∷ []); exported = false; entity = I.OfVariable 2 } ∷ record { name = (116 ∷ []); exported = false; entity = I.OfVariable 3 } ∷ record { name = (86 ∷ []); exported = false; entity = I.OfProcedure 0 } ∷ record { name = (86 ∷ 88 ∷ []); exported = false; entity = I.OfProcedure 1 } ∷ record { name = (86 ∷ 82 ∷ []); exported = false; entity = I.OfProcedure 2 } ∷ record { name = (83 ∷ []); exported = false; entity = I.OfProcedure 3 } ∷ record { name = (85 ∷ []); exported = false; entity = I.OfProcedure 4 } ∷ []); variables = ((H.Pointer 0) ∷ (H.Pointer 0) ∷ (H.Pointer 1) ∷ (H.Pointer 2) ∷ []); body = 5 } ∷ []); procedures = (record { module_number = 0; line = 1; is_body = false; formals = (record { mode = TheMode.Place; variable = true; shape = (H.Pointer 0) } ∷ []); result = H.Nothing; locals = []; texts = []; body = I.no_statement; answer = None } ∷ record { module_number = 0; line = 1; is_body = false; formals = (record { mode = TheMode.Place; variable = true; shape = H.Integer } ∷ []); result = H.Nothing; locals = []; texts = []; body = I.no_statement; answer = None } ∷ record { module_number = 0; line = 1; is_body = false; formals = (record { mode = TheMode.Record; variable = true; shape = (H.Record 0) } ∷ []); result = H.Nothing; locals = []; texts = []; body = I.no_statement; answer = None } ∷ record { module_number = 0; line = 1; is_body = false; formals = (record { mode = TheMode.Place; variable = false; shape = (H.Record 0) } ∷ []); result = H.Nothing; locals = []; texts = []; body = I.no_statement; answer = None } ∷ record { module_number = 0; line = 1; is_body = false; formals = (record { mode = TheMode.Record; variable = true; shape = (H.Record 0) } ∷ record { mode = TheMode.Place; variable = false; shape = (H.Record 0) } ∷ []); result = H.Nothing; locals = []; texts = []; body = (I.next_statement (I.CaseParameter (I.of_type (I.Parameter 0) (H.Record 0)) (I.next_part (I.Extends 1) (I.next_statement (I.Assign (I.of_type (I.Field (I.Narrow (I.Parameter 0) 1) 1 0) H.Integer) (record { form = (I.Load (I.of_type (I.Field (I.Parameter 1) 0 0) H.Integer)); shape = H.Integer })) (I.next_statement (I.CopyRecord (I.of_type (I.Parameter 0) (H.Record 0)) (I.of_type (I.Parameter 1) (H.Record 0))) (I.next_statement (I.Invoke (I.Direct 3 (I.next_argument (I.ByPlace (I.of_type (I.Narrow (I.Parameter 0) 1) (H.Record 1))) I.no_argument))) (I.next_statement (I.Invoke (I.Direct 1 (I.next_argument (I.ByPlace (I.of_type (I.Field (I.Narrow (I.Parameter 0) 1) 1 0) H.Integer)) I.no_argument))) (I.next_statement (I.Assert (record { form = (I.IsParameter (I.of_type (I.Narrow (I.Parameter 0) 1) (H.Record 1)) 2); shape = H.Boolean })) (I.next_statement (I.Invoke (I.Direct 2 (I.next_argument (I.ByRecord (I.of_type (I.Narrow (I.Narrow (I.Parameter 0) 1) 2) (H.Record 2))) I.no_argument))) I.no_statement)))))) (I.next_part (I.Extends 0) (I.next_statement (I.Assign (I.of_type (I.Field (I.Narrow (I.Narrow (I.Parameter 0) 0) 1) 1 0) H.Integer) (record { form = (I.Literal 1); shape = H.Integer })) I.no_statement) I.no_part))) I.no_statement); answer = None } ∷ record { module_number = 0; line = 1; is_body = true; formals = []; result = H.Nothing; locals = []; texts = []; body = I.no_statement; answer = None } ∷ []); imports_in = false })
narrow_11 = refl

-- MODULE M; TYPE R = RECORD x: INTEGER END; E = RECORD (R) y: INTEGER END; F = RECORD (E) z: INTEGER END; P = POINTER TO R; Q = POINTER TO E; T = POINTER TO F; VAR p, p2: P; q: Q; t: T; PROCEDURE V(VAR p: P); END V; PROCEDURE VX(VAR i: INTEGER); END VX; PROCEDURE VR(VAR r: R); END VR; PROCEDURE S(r: R); END S; PROCEDURE U(r: R); BEGIN CASE r OF E: END END U; END M.
abbrev narrow_12_0 : Parsed
narrow_12_0 = record { source = record { bytes = (77 ∷ 79 ∷ 68 ∷ 85 ∷ 76 ∷ 69 ∷ 32 ∷ 77 ∷ 59 ∷ 32 ∷ 84 ∷ 89 ∷ 80 ∷ 69 ∷ 32 ∷ 82 ∷ 32 ∷ 61 ∷ 32 ∷ 82 ∷ 69 ∷ 67 ∷ 79 ∷ 82 ∷ 68 ∷ 32 ∷ 120 ∷ 58 ∷ 32 ∷ 73 ∷ 78 ∷ 84 ∷ 69 ∷ 71 ∷ 69 ∷ 82 ∷ 32 ∷ 69 ∷ 78 ∷ 68 ∷ 59 ∷ 32 ∷ 69 ∷ 32 ∷ 61 ∷ 32 ∷ 82 ∷ 69 ∷ 67 ∷ 79 ∷ 82 ∷ 68 ∷ 32 ∷ 40 ∷ 82 ∷ 41 ∷ 32 ∷ 121 ∷ 58 ∷ 32 ∷ 73 ∷ 78 ∷ 84 ∷ 69 ∷ 71 ∷ 69 ∷ 82 ∷ 32 ∷ 69 ∷ 78 ∷ 68 ∷ 59 ∷ 32 ∷ 70 ∷ 32 ∷ 61 ∷ 32 ∷ 82 ∷ 69 ∷ 67 ∷ 79 ∷ 82 ∷ 68 ∷ 32 ∷ 40 ∷ 69 ∷ 41 ∷ 32 ∷ 122 ∷ 58 ∷ 32 ∷ 73 ∷ 78 ∷ 84 ∷ 69 ∷ 71 ∷ 69 ∷ 82 ∷ 32 ∷ 69 ∷ 78 ∷ 68 ∷ 59 ∷ 32 ∷ 80 ∷ 32 ∷ 61 ∷ 32 ∷ 80 ∷ 79 ∷ 73 ∷ 78 ∷ 84 ∷ 69 ∷ 82 ∷ 32 ∷ 84 ∷ 79 ∷ 32 ∷ 82 ∷ 59 ∷ 32 ∷ 81 ∷ 32 ∷ 61 ∷ 32 ∷ 80 ∷ 79 ∷ 73 ∷ 78 ∷ 84 ∷ 69 ∷ 82 ∷ 32 ∷ 84 ∷ 79 ∷ 32 ∷ 69 ∷ 59 ∷ 32 ∷ 84 ∷ 32 ∷ 61 ∷ 32 ∷ 80 ∷ 79 ∷ 73 ∷ 78 ∷ 84 ∷ 69 ∷ 82 ∷ 32 ∷ 84 ∷ 79 ∷ 32 ∷ 70 ∷ 59 ∷ 32 ∷ 86 ∷ 65 ∷ 82 ∷ 32 ∷ 112 ∷ 44 ∷ 32 ∷ 112 ∷ 50 ∷ 58 ∷ 32 ∷ 80 ∷ 59 ∷ 32 ∷ 113 ∷ 58 ∷ 32 ∷ 81 ∷ 59 ∷ 32 ∷ 116 ∷ 58 ∷ 32 ∷ 84 ∷ 59 ∷ 32 ∷ 80 ∷ 82 ∷ 79 ∷ 67 ∷ 69 ∷ 68 ∷ 85 ∷ 82 ∷ 69 ∷ 32 ∷ 86 ∷ 40 ∷ 86 ∷ 65 ∷ 82 ∷ 32 ∷ 112 ∷ 58 ∷ 32 ∷ 80 ∷ 41 ∷ 59 ∷ 32 ∷ 69 ∷ 78 ∷ 68 ∷ 32 ∷ 86 ∷ 59 ∷ 32 ∷ 80 ∷ 82 ∷ 79 ∷ 67 ∷ 69 ∷ 68 ∷ 85 ∷ 82 ∷ 69 ∷ 32 ∷ 86 ∷ 88 ∷ 40 ∷ 86 ∷ 65 ∷ 82 ∷ 32 ∷ 105 ∷ 58 ∷ 32 ∷ 73 ∷ 78 ∷ 84 ∷ 69 ∷ 71 ∷ 69 ∷ 82 ∷ 41 ∷ 59 ∷ 32 ∷ 69 ∷ 78 ∷ 68 ∷ 32 ∷ 86 ∷ 88 ∷ 59 ∷ 32 ∷ 80 ∷ 82 ∷ 79 ∷ 67 ∷ 69 ∷ 68 ∷ 85 ∷ 82 ∷ 69 ∷ 32 ∷ 86 ∷ 82 ∷ 40 ∷ 86 ∷ 65 ∷ 82 ∷ 32 ∷ 114 ∷ 58 ∷ 32 ∷ 82 ∷ 41 ∷ 59 ∷ 32 ∷ 69 ∷ 78 ∷ 68 ∷ 32 ∷ 86 ∷ 82 ∷ 59 ∷ 32 ∷ 80 ∷ 82 ∷ 79 ∷ 67 ∷ 69 ∷ 68 ∷ 85 ∷ 82 ∷ 69 ∷ 32 ∷ 83 ∷ 40 ∷ 114 ∷ 58 ∷ 32 ∷ 82 ∷ 41 ∷ 59 ∷ 32 ∷ 69 ∷ 78 ∷ 68 ∷ 32 ∷ 83 ∷ 59 ∷ 32 ∷ 80 ∷ 82 ∷ 79 ∷ 67 ∷ 69 ∷ 68 ∷ 85 ∷ 82 ∷ 69 ∷ 32 ∷ 85 ∷ 40 ∷ 114 ∷ 58 ∷ 32 ∷ 82 ∷ 41 ∷ 59 ∷ 32 ∷ 66 ∷ 69 ∷ 71 ∷ 73 ∷ 78 ∷ 32 ∷ 67 ∷ 65 ∷ 83 ∷ 69 ∷ 32 ∷ 114 ∷ 32 ∷ 79 ∷ 70 ∷ 32 ∷ 69 ∷ 58 ∷ 32 ∷ 69 ∷ 78 ∷ 68 ∷ 32 ∷ 69 ∷ 78 ∷ 68 ∷ 32 ∷ 85 ∷ 59 ∷ 32 ∷ 69 ∷ 78 ∷ 68 ∷ 32 ∷ 77 ∷ 46 ∷ []); symbols = (symbol (Ident) 0 6 ∷ symbol (Ident) 7 8 ∷ symbol (Ident) 8 9 ∷ symbol (Ident) 10 14 ∷ symbol (Ident) 15 16 ∷ symbol (Ident) 17 18 ∷ symbol (Ident) 19 25 ∷ symbol (Ident) 26 27 ∷ symbol (Ident) 27 28 ∷ symbol (Ident) 29 36 ∷ symbol (Ident) 37 40 ∷ symbol (Ident) 40 41 ∷ symbol (Ident) 42 43 ∷ symbol (Ident) 44 45 ∷ symbol (Ident) 46 52 ∷ symbol (Ident) 53 54 ∷ symbol (Ident) 54 55 ∷ symbol (Ident) 55 56 ∷ symbol (Ident) 57 58 ∷ symbol (Ident) 58 59 ∷ symbol (Ident) 60 67 ∷ symbol (Ident) 68 71 ∷ symbol (Ident) 71 72 ∷ symbol (Ident) 73 74 ∷ symbol (Ident) 75 76 ∷ symbol (Ident) 77 83 ∷ symbol (Ident) 84 85 ∷ symbol (Ident) 85 86 ∷ symbol (Ident) 86 87 ∷ symbol (Ident) 88 89 ∷ symbol (Ident) 89 90 ∷ symbol (Ident) 91 98 ∷ symbol (Ident) 99 102 ∷ symbol (Ident) 102 103 ∷ symbol (Ident) 104 105 ∷ symbol (Ident) 106 107 ∷ symbol (Ident) 108 115 ∷ symbol (Ident) 116 118 ∷ symbol (Ident) 119 120 ∷ symbol (Ident) 120 121 ∷ symbol (Ident) 122 123 ∷ symbol (Ident) 124 125 ∷ symbol (Ident) 126 133 ∷ symbol (Ident) 134 136 ∷ symbol (Ident) 137 138 ∷ symbol (Ident) 138 139 ∷ symbol (Ident) 140 141 ∷ symbol (Ident) 142 143 ∷ symbol (Ident) 144 151 ∷ symbol (Ident) 152 154 ∷ symbol (Ident) 155 156 ∷ symbol (Ident) 156 157 ∷ symbol (Ident) 158 161 ∷ symbol (Ident) 162 163 ∷ symbol (Ident) 163 164 ∷ symbol (Ident) 165 167 ∷ symbol (Ident) 167 168 ∷ symbol (Ident) 169 170 ∷ symbol (Ident) 170 171 ∷ symbol (Ident) 172 173 ∷ symbol (Ident) 173 174 ∷ symbol (Ident) 175 176 ∷ symbol (Ident) 176 177 ∷ symbol (Ident) 178 179 ∷ symbol (Ident) 179 180 ∷ symbol (Ident) 181 182 ∷ symbol (Ident) 182 183 ∷ symbol (Ident) 184 193 ∷ symbol (Ident) 194 195 ∷ symbol (Ident) 195 196 ∷ symbol (Ident) 196 199 ∷ symbol (Ident) 200 201 ∷ symbol (Ident) 201 202 ∷ symbol (Ident) 203 204 ∷ symbol (Ident) 204 205 ∷ symbol (Ident) 205 206 ∷ symbol (Ident) 207 210 ∷ symbol (Ident) 211 212 ∷ symbol (Ident) 212 213 ∷ symbol (Ident) 214 223 ∷ symbol (Ident) 224 226 ∷ symbol (Ident) 226 227 ∷ symbol (Ident) 227 230 ∷ symbol (Ident) 231 232 ∷ symbol (Ident) 232 233 ∷ symbol (Ident) 234 241 ∷ symbol (Ident) 241 242 ∷ symbol (Ident) 242 243 ∷ symbol (Ident) 244 247 ∷ symbol (Ident) 248 250 ∷ symbol (Ident) 250 251 ∷ symbol (Ident) 252 261 ∷ symbol (Ident) 262 264 ∷ symbol (Ident) 264 265 ∷ symbol (Ident) 265 268 ∷ symbol (Ident) 269 270 ∷ symbol (Ident) 270 271 ∷ symbol (Ident) 272 273 ∷ symbol (Ident) 273 274 ∷ symbol (Ident) 274 275 ∷ symbol (Ident) 276 279 ∷ symbol (Ident) 280 282 ∷ symbol (Ident) 282 283 ∷ symbol (Ident) 284 293 ∷ symbol (Ident) 294 295 ∷ symbol (Ident) 295 296 ∷ symbol (Ident) 296 297 ∷ symbol (Ident) 297 298 ∷ symbol (Ident) 299 300 ∷ symbol (Ident) 300 301 ∷ symbol (Ident) 301 302 ∷ symbol (Ident) 303 306 ∷ symbol (Ident) 307 308 ∷ symbol (Ident) 308 309 ∷ symbol (Ident) 310 319 ∷ symbol (Ident) 320 321 ∷ symbol (Ident) 321 322 ∷ symbol (Ident) 322 323 ∷ symbol (Ident) 323 324 ∷ symbol (Ident) 325 326 ∷ symbol (Ident) 326 327 ∷ symbol (Ident) 327 328 ∷ symbol (Ident) 329 334 ∷ symbol (Ident) 335 339 ∷ symbol (Ident) 340 341 ∷ symbol (Ident) 342 344 ∷ symbol (Ident) 345 346 ∷ symbol (Ident) 346 347 ∷ symbol (Ident) 348 351 ∷ symbol (Ident) 352 355 ∷ symbol (Ident) 356 357 ∷ symbol (Ident) 357 358 ∷ symbol (Ident) 359 362 ∷ symbol (Ident) 363 364 ∷ symbol (Ident) 364 365 ∷ []) }; tree = record { module_word = 0; name = 1; semicolon = 0; imports = None; decls = (S.decls None (Some (record { type_word = 0; each = (record { name = (record { name = 4; star = None }); equal = 0; is = (S.Record 6 None (S.fields (record { first = (record { name = 7; star = None }); more = [] }) 0 (S.Named (record { name = 9; member = None }))) S.no_more_fields 0); semicolon = 0 } ∷ record { name = (record { name = 12; star = None }); equal = 0; is = (S.Record 14 (Some (record { left_paren = 0; name = (record { name = 16; member = None }); right_paren = 0 })) (S.fields (record { first = (record { name = 18; star = None }); more = [] }) 0 (S.Named (record { name = 20; member = None }))) S.no_more_fields 0); semicolon = 0 } ∷ record { name = (record { name = 23; star = None }); equal = 0; is = (S.Record 25 (Some (record { left_paren = 0; name = (record { name = 27; member = None }); right_paren = 0 })) (S.fields (record { first = (record { name = 29; star = None }); more = [] }) 0 (S.Named (record { name = 31; member = None }))) S.no_more_fields 0); semicolon = 0 } ∷ record { name = (record { name = 34; star = None }); equal = 0; is = (S.Pointer 36 0 (S.Named (record { name = 38; member = None }))); semicolon = 0 } ∷ record { name = (record { name = 40; star = None }); equal = 0; is = (S.Pointer 42 0 (S.Named (record { name = 44; member = None }))); semicolon = 0 } ∷ record { name = (record { name = 46; star = None }); equal = 0; is = (S.Pointer 48 0 (S.Named (record { name = 50; member = None }))); semicolon = 0 } ∷ []) })) (Some (record { var_word = 0; each = (record { names = (record { first = (record { name = 53; star = None }); more = (record { comma = 0; name = (record { name = 55; star = None }) } ∷ []) }); colon = 0; of = (S.Named (record { name = 57; member = None })); semicolon = 0 } ∷ record { names = (record { first = (record { name = 59; star = None }); more = [] }); colon = 0; of = (S.Named (record { name = 61; member = None })); semicolon = 0 } ∷ record { names = (record { first = (record { name = 63; star = None }); more = [] }); colon = 0; of = (S.Named (record { name = 65; member = None })); semicolon = 0 } ∷ []) })) (S.procedure 0 (record { name = 68; star = None }) (Some (record { left_paren = 0; sections = Some (record { first = (record { var_word = Some 0; first = 71; more = []; colon = 0; open_array = None; of = (record { name = 73; member = None }) }); more = [] }); right_paren = 0; result = None })) 0 (S.decls None None None S.no_procedure) None None 76 77 0 (S.procedure 0 (record { name = 80; star = None }) (Some (record { left_paren = 0; sections = Some (record { first = (record { var_word = Some 0; first = 83; more = []; colon = 0; open_array = None; of = (record { name = 85; member = None }) }); more = [] }); right_paren = 0; result = None })) 0 (S.decls None None None S.no_procedure) None None 88 89 0 (S.procedure 0 (record { name = 92; star = None }) (Some (record { left_paren = 0; sections = Some (record { first = (record { var_word = Some 0; first = 95; more = []; colon = 0; open_array = None; of = (record { name = 97; member = None }) }); more = [] }); right_paren = 0; result = None })) 0 (S.decls None None None S.no_procedure) None None 100 101 0 (S.procedure 0 (record { name = 104; star = None }) (Some (record { left_paren = 0; sections = Some (record { first = (record { var_word = None; first = 106; more = []; colon = 0; open_array = None; of = (record { name = 108; member = None }) }); more = [] }); right_paren = 0; result = None })) 0 (S.decls None None None S.no_procedure) None None 111 112 0 (S.procedure 0 (record { name = 115; star = None }) (Some (record { left_paren = 0; sections = Some (record { first = (record { var_word = None; first = 117; more = []; colon = 0; open_array = None; of = (record { name = 119; member = None }) }); more = [] }); right_paren = 0; result = None })) 0 (S.decls None None None S.no_procedure) (Some (record { begin_word = 0; stats = (S.stats (S.Case 0 (S.only (S.simple None (S.term (S.Designated 124 S.no_selector) S.no_factor) S.no_term)) 0 (S.one_case (record { low = TheLabel.Named (record { name = 126; member = None }); high = None }) [] 0 (S.stats S.Empty S.no_stat)) S.no_next_case 0) S.no_stat) })) None 129 130 0 S.no_procedure)))))); body = None; end_word = 0; end_name = 133; period = 0 } }

pub narrow_12 : checked (narrow_12_0 ∷ []) ≡ Fault 0 31 340
narrow_12 = refl

-- MODULE M; TYPE R = RECORD x: INTEGER END; E = RECORD (R) y: INTEGER END; F = RECORD (E) z: INTEGER END; P = POINTER TO R; Q = POINTER TO E; T = POINTER TO F; VAR p, p2: P; q: Q; t: T; PROCEDURE V(VAR p: P); END V; PROCEDURE VX(VAR i: INTEGER); END VX; PROCEDURE VR(VAR r: R); END VR; PROCEDURE S(r: R); END S; PROCEDURE U(VAR r: R); BEGIN CASE r OF E: CASE r OF F: r.z := 1 END END END U; END M.
abbrev narrow_13_0 : Parsed
narrow_13_0 = record { source = record { bytes = (77 ∷ 79 ∷ 68 ∷ 85 ∷ 76 ∷ 69 ∷ 32 ∷ 77 ∷ 59 ∷ 32 ∷ 84 ∷ 89 ∷ 80 ∷ 69 ∷ 32 ∷ 82 ∷ 32 ∷ 61 ∷ 32 ∷ 82 ∷ 69 ∷ 67 ∷ 79 ∷ 82 ∷ 68 ∷ 32 ∷ 120 ∷ 58 ∷ 32 ∷ 73 ∷ 78 ∷ 84 ∷ 69 ∷ 71 ∷ 69 ∷ 82 ∷ 32 ∷ 69 ∷ 78 ∷ 68 ∷ 59 ∷ 32 ∷ 69 ∷ 32 ∷ 61 ∷ 32 ∷ 82 ∷ 69 ∷ 67 ∷ 79 ∷ 82 ∷ 68 ∷ 32 ∷ 40 ∷ 82 ∷ 41 ∷ 32 ∷ 121 ∷ 58 ∷ 32 ∷ 73 ∷ 78 ∷ 84 ∷ 69 ∷ 71 ∷ 69 ∷ 82 ∷ 32 ∷ 69 ∷ 78 ∷ 68 ∷ 59 ∷ 32 ∷ 70 ∷ 32 ∷ 61 ∷ 32 ∷ 82 ∷ 69 ∷ 67 ∷ 79 ∷ 82 ∷ 68 ∷ 32 ∷ 40 ∷ 69 ∷ 41 ∷ 32 ∷ 122 ∷ 58 ∷ 32 ∷ 73 ∷ 78 ∷ 84 ∷ 69 ∷ 71 ∷ 69 ∷ 82 ∷ 32 ∷ 69 ∷ 78 ∷ 68 ∷ 59 ∷ 32 ∷ 80 ∷ 32 ∷ 61 ∷ 32 ∷ 80 ∷ 79 ∷ 73 ∷ 78 ∷ 84 ∷ 69 ∷ 82 ∷ 32 ∷ 84 ∷ 79 ∷ 32 ∷ 82 ∷ 59 ∷ 32 ∷ 81 ∷ 32 ∷ 61 ∷ 32 ∷ 80 ∷ 79 ∷ 73 ∷ 78 ∷ 84 ∷ 69 ∷ 82 ∷ 32 ∷ 84 ∷ 79 ∷ 32 ∷ 69 ∷ 59 ∷ 32 ∷ 84 ∷ 32 ∷ 61 ∷ 32 ∷ 80 ∷ 79 ∷ 73 ∷ 78 ∷ 84 ∷ 69 ∷ 82 ∷ 32 ∷ 84 ∷ 79 ∷ 32 ∷ 70 ∷ 59 ∷ 32 ∷ 86 ∷ 65 ∷ 82 ∷ 32 ∷ 112 ∷ 44 ∷ 32 ∷ 112 ∷ 50 ∷ 58 ∷ 32 ∷ 80 ∷ 59 ∷ 32 ∷ 113 ∷ 58 ∷ 32 ∷ 81 ∷ 59 ∷ 32 ∷ 116 ∷ 58 ∷ 32 ∷ 84 ∷ 59 ∷ 32 ∷ 80 ∷ 82 ∷ 79 ∷ 67 ∷ 69 ∷ 68 ∷ 85 ∷ 82 ∷ 69 ∷ 32 ∷ 86 ∷ 40 ∷ 86 ∷ 65 ∷ 82 ∷ 32 ∷ 112 ∷ 58 ∷ 32 ∷ 80 ∷ 41 ∷ 59 ∷ 32 ∷ 69 ∷ 78 ∷ 68 ∷ 32 ∷ 86 ∷ 59 ∷ 32 ∷ 80 ∷ 82 ∷ 79 ∷ 67 ∷ 69 ∷ 68 ∷ 85 ∷ 82 ∷ 69 ∷ 32 ∷ 86 ∷ 88 ∷ 40 ∷ 86 ∷ 65 ∷ 82 ∷ 32 ∷ 105 ∷ 58 ∷ 32 ∷ 73 ∷ 78 ∷ 84 ∷ 69 ∷ 71 ∷ 69 ∷ 82 ∷ 41 ∷ 59 ∷ 32 ∷ 69 ∷ 78 ∷ 68 ∷ 32 ∷ 86 ∷ 88 ∷ 59 ∷ 32 ∷ 80 ∷ 82 ∷ 79 ∷ 67 ∷ 69 ∷ 68 ∷ 85 ∷ 82 ∷ 69 ∷ 32 ∷ 86 ∷ 82 ∷ 40 ∷ 86 ∷ 65 ∷ 82 ∷ 32 ∷ 114 ∷ 58 ∷ 32 ∷ 82 ∷ 41 ∷ 59 ∷ 32 ∷ 69 ∷ 78 ∷ 68 ∷ 32 ∷ 86 ∷ 82 ∷ 59 ∷ 32 ∷ 80 ∷ 82 ∷ 79 ∷ 67 ∷ 69 ∷ 68 ∷ 85 ∷ 82 ∷ 69 ∷ 32 ∷ 83 ∷ 40 ∷ 114 ∷ 58 ∷ 32 ∷ 82 ∷ 41 ∷ 59 ∷ 32 ∷ 69 ∷ 78 ∷ 68 ∷ 32 ∷ 83 ∷ 59 ∷ 32 ∷ 80 ∷ 82 ∷ 79 ∷ 67 ∷ 69 ∷ 68 ∷ 85 ∷ 82 ∷ 69 ∷ 32 ∷ 85 ∷ 40 ∷ 86 ∷ 65 ∷ 82 ∷ 32 ∷ 114 ∷ 58 ∷ 32 ∷ 82 ∷ 41 ∷ 59 ∷ 32 ∷ 66 ∷ 69 ∷ 71 ∷ 73 ∷ 78 ∷ 32 ∷ 67 ∷ 65 ∷ 83 ∷ 69 ∷ 32 ∷ 114 ∷ 32 ∷ 79 ∷ 70 ∷ 32 ∷ 69 ∷ 58 ∷ 32 ∷ 67 ∷ 65 ∷ 83 ∷ 69 ∷ 32 ∷ 114 ∷ 32 ∷ 79 ∷ 70 ∷ 32 ∷ 70 ∷ 58 ∷ 32 ∷ 114 ∷ 46 ∷ 122 ∷ 32 ∷ 58 ∷ 61 ∷ 32 ∷ 49 ∷ 32 ∷ 69 ∷ 78 ∷ 68 ∷ 32 ∷ 69 ∷ 78 ∷ 68 ∷ 32 ∷ 69 ∷ 78 ∷ 68 ∷ 32 ∷ 85 ∷ 59 ∷ 32 ∷ 69 ∷ 78 ∷ 68 ∷ 32 ∷ 77 ∷ 46 ∷ []); symbols = (symbol (Ident) 0 6 ∷ symbol (Ident) 7 8 ∷ symbol (Ident) 8 9 ∷ symbol (Ident) 10 14 ∷ symbol (Ident) 15 16 ∷ symbol (Ident) 17 18 ∷ symbol (Ident) 19 25 ∷ symbol (Ident) 26 27 ∷ symbol (Ident) 27 28 ∷ symbol (Ident) 29 36 ∷ symbol (Ident) 37 40 ∷ symbol (Ident) 40 41 ∷ symbol (Ident) 42 43 ∷ symbol (Ident) 44 45 ∷ symbol (Ident) 46 52 ∷ symbol (Ident) 53 54 ∷ symbol (Ident) 54 55 ∷ symbol (Ident) 55 56 ∷ symbol (Ident) 57 58 ∷ symbol (Ident) 58 59 ∷ symbol (Ident) 60 67 ∷ symbol (Ident) 68 71 ∷ symbol (Ident) 71 72 ∷ symbol (Ident) 73 74 ∷ symbol (Ident) 75 76 ∷ symbol (Ident) 77 83 ∷ symbol (Ident) 84 85 ∷ symbol (Ident) 85 86 ∷ symbol (Ident) 86 87 ∷ symbol (Ident) 88 89 ∷ symbol (Ident) 89 90 ∷ symbol (Ident) 91 98 ∷ symbol (Ident) 99 102 ∷ symbol (Ident) 102 103 ∷ symbol (Ident) 104 105 ∷ symbol (Ident) 106 107 ∷ symbol (Ident) 108 115 ∷ symbol (Ident) 116 118 ∷ symbol (Ident) 119 120 ∷ symbol (Ident) 120 121 ∷ symbol (Ident) 122 123 ∷ symbol (Ident) 124 125 ∷ symbol (Ident) 126 133 ∷ symbol (Ident) 134 136 ∷ symbol (Ident) 137 138 ∷ symbol (Ident) 138 139 ∷ symbol (Ident) 140 141 ∷ symbol (Ident) 142 143 ∷ symbol (Ident) 144 151 ∷ symbol (Ident) 152 154 ∷ symbol (Ident) 155 156 ∷ symbol (Ident) 156 157 ∷ symbol (Ident) 158 161 ∷ symbol (Ident) 162 163 ∷ symbol (Ident) 163 164 ∷ symbol (Ident) 165 167 ∷ symbol (Ident) 167 168 ∷ symbol (Ident) 169 170 ∷ symbol (Ident) 170 171 ∷ symbol (Ident) 172 173 ∷ symbol (Ident) 173 174 ∷ symbol (Ident) 175 176 ∷ symbol (Ident) 176 177 ∷ symbol (Ident) 178 179 ∷ symbol (Ident) 179 180 ∷ symbol (Ident) 181 182 ∷ symbol (Ident) 182 183 ∷ symbol (Ident) 184 193 ∷ symbol (Ident) 194 195 ∷ symbol (Ident) 195 196 ∷ symbol (Ident) 196 199 ∷ symbol (Ident) 200 201 ∷ symbol (Ident) 201 202 ∷ symbol (Ident) 203 204 ∷ symbol (Ident) 204 205 ∷ symbol (Ident) 205 206 ∷ symbol (Ident) 207 210 ∷ symbol (Ident) 211 212 ∷ symbol (Ident) 212 213 ∷ symbol (Ident) 214 223 ∷ symbol (Ident) 224 226 ∷ symbol (Ident) 226 227 ∷ symbol (Ident) 227 230 ∷ symbol (Ident) 231 232 ∷ symbol (Ident) 232 233 ∷ symbol (Ident) 234 241 ∷ symbol (Ident) 241 242 ∷ symbol (Ident) 242 243 ∷ symbol (Ident) 244 247 ∷ symbol (Ident) 248 250 ∷ symbol (Ident) 250 251 ∷ symbol (Ident) 252 261 ∷ symbol (Ident) 262 264 ∷ symbol (Ident) 264 265 ∷ symbol (Ident) 265 268 ∷ symbol (Ident) 269 270 ∷ symbol (Ident) 270 271 ∷ symbol (Ident) 272 273 ∷ symbol (Ident) 273 274 ∷ symbol (Ident) 274 275 ∷ symbol (Ident) 276 279 ∷ symbol (Ident) 280 282 ∷ symbol (Ident) 282 283 ∷ symbol (Ident) 284 293 ∷ symbol (Ident) 294 295 ∷ symbol (Ident) 295 296 ∷ symbol (Ident) 296 297 ∷ symbol (Ident) 297 298 ∷ symbol (Ident) 299 300 ∷ symbol (Ident) 300 301 ∷ symbol (Ident) 301 302 ∷ symbol (Ident) 303 306 ∷ symbol (Ident) 307 308 ∷ symbol (Ident) 308 309 ∷ symbol (Ident) 310 319 ∷ symbol (Ident) 320 321 ∷ symbol (Ident) 321 322 ∷ symbol (Ident) 322 325 ∷ symbol (Ident) 326 327 ∷ symbol (Ident) 327 328 ∷ symbol (Ident) 329 330 ∷ symbol (Ident) 330 331 ∷ symbol (Ident) 331 332 ∷ symbol (Ident) 333 338 ∷ symbol (Ident) 339 343 ∷ symbol (Ident) 344 345 ∷ symbol (Ident) 346 348 ∷ symbol (Ident) 349 350 ∷ symbol (Ident) 350 351 ∷ symbol (Ident) 352 356 ∷ symbol (Ident) 357 358 ∷ symbol (Ident) 359 361 ∷ symbol (Ident) 362 363 ∷ symbol (Ident) 363 364 ∷ symbol (Ident) 365 366 ∷ symbol (Ident) 366 367 ∷ symbol (Ident) 367 368 ∷ symbol (Ident) 369 371 ∷ symbol (Int (pos 1)) 372 373 ∷ symbol (Ident) 374 377 ∷ symbol (Ident) 378 381 ∷ symbol (Ident) 382 385 ∷ symbol (Ident) 386 387 ∷ symbol (Ident) 387 388 ∷ symbol (Ident) 389 392 ∷ symbol (Ident) 393 394 ∷ symbol (Ident) 394 395 ∷ []) }; tree = record { module_word = 0; name = 1; semicolon = 0; imports = None; decls = (S.decls None (Some (record { type_word = 0; each = (record { name = (record { name = 4; star = None }); equal = 0; is = (S.Record 6 None (S.fields (record { first = (record { name = 7; star = None }); more = [] }) 0 (S.Named (record { name = 9; member = None }))) S.no_more_fields 0); semicolon = 0 } ∷ record { name = (record { name = 12; star = None }); equal = 0; is = (S.Record 14 (Some (record { left_paren = 0; name = (record { name = 16; member = None }); right_paren = 0 })) (S.fields (record { first = (record { name = 18; star = None }); more = [] }) 0 (S.Named (record { name = 20; member = None }))) S.no_more_fields 0); semicolon = 0 } ∷ record { name = (record { name = 23; star = None }); equal = 0; is = (S.Record 25 (Some (record { left_paren = 0; name = (record { name = 27; member = None }); right_paren = 0 })) (S.fields (record { first = (record { name = 29; star = None }); more = [] }) 0 (S.Named (record { name = 31; member = None }))) S.no_more_fields 0); semicolon = 0 } ∷ record { name = (record { name = 34; star = None }); equal = 0; is = (S.Pointer 36 0 (S.Named (record { name = 38; member = None }))); semicolon = 0 } ∷ record { name = (record { name = 40; star = None }); equal = 0; is = (S.Pointer 42 0 (S.Named (record { name = 44; member = None }))); semicolon = 0 } ∷ record { name = (record { name = 46; star = None }); equal = 0; is = (S.Pointer 48 0 (S.Named (record { name = 50; member = None }))); semicolon = 0 } ∷ []) })) (Some (record { var_word = 0; each = (record { names = (record { first = (record { name = 53; star = None }); more = (record { comma = 0; name = (record { name = 55; star = None }) } ∷ []) }); colon = 0; of = (S.Named (record { name = 57; member = None })); semicolon = 0 } ∷ record { names = (record { first = (record { name = 59; star = None }); more = [] }); colon = 0; of = (S.Named (record { name = 61; member = None })); semicolon = 0 } ∷ record { names = (record { first = (record { name = 63; star = None }); more = [] }); colon = 0; of = (S.Named (record { name = 65; member = None })); semicolon = 0 } ∷ []) })) (S.procedure 0 (record { name = 68; star = None }) (Some (record { left_paren = 0; sections = Some (record { first = (record { var_word = Some 0; first = 71; more = []; colon = 0; open_array = None; of = (record { name = 73; member = None }) }); more = [] }); right_paren = 0; result = None })) 0 (S.decls None None None S.no_procedure) None None 76 77 0 (S.procedure 0 (record { name = 80; star = None }) (Some (record { left_paren = 0; sections = Some (record { first = (record { var_word = Some 0; first = 83; more = []; colon = 0; open_array = None; of = (record { name = 85; member = None }) }); more = [] }); right_paren = 0; result = None })) 0 (S.decls None None None S.no_procedure) None None 88 89 0 (S.procedure 0 (record { name = 92; star = None }) (Some (record { left_paren = 0; sections = Some (record { first = (record { var_word = Some 0; first = 95; more = []; colon = 0; open_array = None; of = (record { name = 97; member = None }) }); more = [] }); right_paren = 0; result = None })) 0 (S.decls None None None S.no_procedure) None None 100 101 0 (S.procedure 0 (record { name = 104; star = None }) (Some (record { left_paren = 0; sections = Some (record { first = (record { var_word = None; first = 106; more = []; colon = 0; open_array = None; of = (record { name = 108; member = None }) }); more = [] }); right_paren = 0; result = None })) 0 (S.decls None None None S.no_procedure) None None 111 112 0 (S.procedure 0 (record { name = 115; star = None }) (Some (record { left_paren = 0; sections = Some (record { first = (record { var_word = Some 0; first = 118; more = []; colon = 0; open_array = None; of = (record { name = 120; member = None }) }); more = [] }); right_paren = 0; result = None })) 0 (S.decls None None None S.no_procedure) (Some (record { begin_word = 0; stats = (S.stats (S.Case 0 (S.only (S.simple None (S.term (S.Designated 125 S.no_selector) S.no_factor) S.no_term)) 0 (S.one_case (record { low = TheLabel.Named (record { name = 127; member = None }); high = None }) [] 0 (S.stats (S.Case 0 (S.only (S.simple None (S.term (S.Designated 130 S.no_selector) S.no_factor) S.no_term)) 0 (S.one_case (record { low = TheLabel.Named (record { name = 132; member = None }); high = None }) [] 0 (S.stats (S.AssignOrCall (record { name = 134; selectors = (S.selected (S.Field 0 136) S.no_selector) }) (Some (record { becomes = 0; value = (S.only (S.simple None (S.term (S.Int 138) S.no_factor) S.no_term)) }))) S.no_stat)) S.no_next_case 0) S.no_stat)) S.no_next_case 0) S.no_stat) })) None 141 142 0 S.no_procedure)))))); body = None; end_word = 0; end_name = 145; period = 0 } }

pub narrow_13 : checked (narrow_13_0 ∷ []) ≡ Legal (record { records = (record { module_number = 0; base = None; level = 0; fields = (record { name = (120 ∷ []); exported = false; shape = H.Integer } ∷ []); cells = 1; extent = record { bytes = 8; wide = true } } ∷ record { module_number = 0; base = (Some 0); level = 1; fields = (record { name = (121 ∷ []); exported = false; shape = H.Integer } ∷ []); cells = 2; extent = record { bytes = 16; wide = true } } ∷ record { module_number = 0; base = (Some 1); level = 2; fields = (record { name = (122 ∷ []); exported = false; shape = H.Integer } ∷ []); cells = 3; extent = record { bytes = 24; wide = true } } ∷ []); pointers = (Some 0 ∷ Some 1 ∷ Some 2 ∷ []); modules = (record { name = (77 ∷ []); objects = (record { name = (82 ∷ []); exported = false; entity = I.OfType (H.Record 0) } ∷ record { name = (69 ∷ []); exported = false; entity = I.OfType (H.Record 1) } ∷ record { name = (70 ∷ []); exported = false; entity = I.OfType (H.Record 2) } ∷ record { name = (80 ∷ []); exported = false; entity = I.OfType (H.Pointer 0) } ∷ record { name = (81 ∷ []); exported = false; entity = I.OfType (H.Pointer 1) } ∷ record { name = (84 ∷ []); exported = false; entity = I.OfType (H.Pointer 2) } ∷ record { name = (112 ∷ []); exported = false; entity = I.OfVariable 0 } ∷ record { name = (112 ∷ 50 ∷ []); exported = false; entity = I.OfVariable 1 } ∷ record { name = (113 ∷ []); exported = false; entity = I.OfVariable 2 } ∷ record { name = (116 ∷ []); exported = false; entity = I.OfVariable 3 } ∷ record { name = (86 ∷ []); exported = false; entity = I.OfProcedure 0 } ∷ record { name = (86 ∷ 88 ∷ []); exported = false; entity = I.OfProcedure 1 } ∷ record { name = (86 ∷ 82 ∷ []); exported = false; entity = I.OfProcedure 2 } ∷ record { name = (83 ∷ []); exported = false; entity = I.OfProcedure 3 } ∷ record { name = (85 ∷ []); exported = false; entity = I.OfProcedure 4 } ∷ []); variables = ((H.Pointer 0) ∷ (H.Pointer 0) ∷ (H.Pointer 1) ∷ (H.Pointer 2) ∷ []); body = 5 } ∷ []); procedures = (record { module_number = 0; line = 1; is_body = false; formals = (record { mode = TheMode.Place; variable = true; shape = (H.Pointer 0) } ∷ []); result = H.Nothing; locals = []; texts = []; body = I.no_statement; answer = None } ∷ record { module_number = 0; line = 1; is_body = false; formals = (record { mode = TheMode.Place; variable = true; shape = H.Integer } ∷ []); result = H.Nothing; locals = []; texts = []; body = I.no_statement; answer = None } ∷ record { module_number = 0; line = 1; is_body = false; formals = (record { mode = TheMode.Record; variable = true; shape = (H.Record 0) } ∷ []); result = H.Nothing; locals = []; texts = []; body = I.no_statement; answer = None } ∷ record { module_number = 0; line = 1; is_body = false; formals = (record { mode = TheMode.Place; variable = false; shape = (H.Record 0) } ∷ []); result = H.Nothing; locals = []; texts = []; body = I.no_statement; answer = None } ∷ record { module_number = 0; line = 1; is_body = false; formals = (record { mode = TheMode.Record; variable = true; shape = (H.Record 0) } ∷ []); result = H.Nothing; locals = []; texts = []; body = (I.next_statement (I.CaseParameter (I.of_type (I.Parameter 0) (H.Record 0)) (I.next_part (I.Extends 1) (I.next_statement (I.CaseParameter (I.of_type (I.Narrow (I.Parameter 0) 1) (H.Record 1)) (I.next_part (I.Extends 2) (I.next_statement (I.Assign (I.of_type (I.Field (I.Narrow (I.Parameter 0) 2) 2 0) H.Integer) (record { form = (I.Literal 1); shape = H.Integer })) I.no_statement) I.no_part)) I.no_statement) I.no_part)) I.no_statement); answer = None } ∷ record { module_number = 0; line = 1; is_body = true; formals = []; result = H.Nothing; locals = []; texts = []; body = I.no_statement; answer = None } ∷ []); imports_in = false })
narrow_13 = refl

-- MODULE M; TYPE R = RECORD x: INTEGER END; E = RECORD (R) y: INTEGER END; F = RECORD (E) z: INTEGER END; P = POINTER TO R; Q = POINTER TO E; T = POINTER TO F; VAR p, p2: P; q: Q; t: T; PROCEDURE V(VAR p: P); END V; PROCEDURE VX(VAR i: INTEGER); END VX; PROCEDURE VR(VAR r: R); END VR; PROCEDURE S(r: R); END S; PROCEDURE U(p: P); BEGIN CASE p OF Q: p.y := 1; V(p) END END U; END M.
abbrev narrow_14_0 : Parsed
narrow_14_0 = record { source = record { bytes = (77 ∷ 79 ∷ 68 ∷ 85 ∷ 76 ∷ 69 ∷ 32 ∷ 77 ∷ 59 ∷ 32 ∷ 84 ∷ 89 ∷ 80 ∷ 69 ∷ 32 ∷ 82 ∷ 32 ∷ 61 ∷ 32 ∷ 82 ∷ 69 ∷ 67 ∷ 79 ∷ 82 ∷ 68 ∷ 32 ∷ 120 ∷ 58 ∷ 32 ∷ 73 ∷ 78 ∷ 84 ∷ 69 ∷ 71 ∷ 69 ∷ 82 ∷ 32 ∷ 69 ∷ 78 ∷ 68 ∷ 59 ∷ 32 ∷ 69 ∷ 32 ∷ 61 ∷ 32 ∷ 82 ∷ 69 ∷ 67 ∷ 79 ∷ 82 ∷ 68 ∷ 32 ∷ 40 ∷ 82 ∷ 41 ∷ 32 ∷ 121 ∷ 58 ∷ 32 ∷ 73 ∷ 78 ∷ 84 ∷ 69 ∷ 71 ∷ 69 ∷ 82 ∷ 32 ∷ 69 ∷ 78 ∷ 68 ∷ 59 ∷ 32 ∷ 70 ∷ 32 ∷ 61 ∷ 32 ∷ 82 ∷ 69 ∷ 67 ∷ 79 ∷ 82 ∷ 68 ∷ 32 ∷ 40 ∷ 69 ∷ 41 ∷ 32 ∷ 122 ∷ 58 ∷ 32 ∷ 73 ∷ 78 ∷ 84 ∷ 69 ∷ 71 ∷ 69 ∷ 82 ∷ 32 ∷ 69 ∷ 78 ∷ 68 ∷ 59 ∷ 32 ∷ 80 ∷ 32 ∷ 61 ∷ 32 ∷ 80 ∷ 79 ∷ 73 ∷ 78 ∷ 84 ∷ 69 ∷ 82 ∷ 32 ∷ 84 ∷ 79 ∷ 32 ∷ 82 ∷ 59 ∷ 32 ∷ 81 ∷ 32 ∷ 61 ∷ 32 ∷ 80 ∷ 79 ∷ 73 ∷ 78 ∷ 84 ∷ 69 ∷ 82 ∷ 32 ∷ 84 ∷ 79 ∷ 32 ∷ 69 ∷ 59 ∷ 32 ∷ 84 ∷ 32 ∷ 61 ∷ 32 ∷ 80 ∷ 79 ∷ 73 ∷ 78 ∷ 84 ∷ 69 ∷ 82 ∷ 32 ∷ 84 ∷ 79 ∷ 32 ∷ 70 ∷ 59 ∷ 32 ∷ 86 ∷ 65 ∷ 82 ∷ 32 ∷ 112 ∷ 44 ∷ 32 ∷ 112 ∷ 50 ∷ 58 ∷ 32 ∷ 80 ∷ 59 ∷ 32 ∷ 113 ∷ 58 ∷ 32 ∷ 81 ∷ 59 ∷ 32 ∷ 116 ∷ 58 ∷ 32 ∷ 84 ∷ 59 ∷ 32 ∷ 80 ∷ 82 ∷ 79 ∷ 67 ∷ 69 ∷ 68 ∷ 85 ∷ 82 ∷ 69 ∷ 32 ∷ 86 ∷ 40 ∷ 86 ∷ 65 ∷ 82 ∷ 32 ∷ 112 ∷ 58 ∷ 32 ∷ 80 ∷ 41 ∷ 59 ∷ 32 ∷ 69 ∷ 78 ∷ 68 ∷ 32 ∷ 86 ∷ 59 ∷ 32 ∷ 80 ∷ 82 ∷ 79 ∷ 67 ∷ 69 ∷ 68 ∷ 85 ∷ 82 ∷ 69 ∷ 32 ∷ 86 ∷ 88 ∷ 40 ∷ 86 ∷ 65 ∷ 82 ∷ 32 ∷ 105 ∷ 58 ∷ 32 ∷ 73 ∷ 78 ∷ 84 ∷ 69 ∷ 71 ∷ 69 ∷ 82 ∷ 41 ∷ 59 ∷ 32 ∷ 69 ∷ 78 ∷ 68 ∷ 32 ∷ 86 ∷ 88 ∷ 59 ∷ 32 ∷ 80 ∷ 82 ∷ 79 ∷ 67 ∷ 69 ∷ 68 ∷ 85 ∷ 82 ∷ 69 ∷ 32 ∷ 86 ∷ 82 ∷ 40 ∷ 86 ∷ 65 ∷ 82 ∷ 32 ∷ 114 ∷ 58 ∷ 32 ∷ 82 ∷ 41 ∷ 59 ∷ 32 ∷ 69 ∷ 78 ∷ 68 ∷ 32 ∷ 86 ∷ 82 ∷ 59 ∷ 32 ∷ 80 ∷ 82 ∷ 79 ∷ 67 ∷ 69 ∷ 68 ∷ 85 ∷ 82 ∷ 69 ∷ 32 ∷ 83 ∷ 40 ∷ 114 ∷ 58 ∷ 32 ∷ 82 ∷ 41 ∷ 59 ∷ 32 ∷ 69 ∷ 78 ∷ 68 ∷ 32 ∷ 83 ∷ 59 ∷ 32 ∷ 80 ∷ 82 ∷ 79 ∷ 67 ∷ 69 ∷ 68 ∷ 85 ∷ 82 ∷ 69 ∷ 32 ∷ 85 ∷ 40 ∷ 112 ∷ 58 ∷ 32 ∷ 80 ∷ 41 ∷ 59 ∷ 32 ∷ 66 ∷ 69 ∷ 71 ∷ 73 ∷ 78 ∷ 32 ∷ 67 ∷ 65 ∷ 83 ∷ 69 ∷ 32 ∷ 112 ∷ 32 ∷ 79 ∷ 70 ∷ 32 ∷ 81 ∷ 58 ∷ 32 ∷ 112 ∷ 46 ∷ 121 ∷ 32 ∷ 58 ∷ 61 ∷ 32 ∷ 49 ∷ 59 ∷ 32 ∷ 86 ∷ 40 ∷ 112 ∷ 41 ∷ 32 ∷ 69 ∷ 78 ∷ 68 ∷ 32 ∷ 69 ∷ 78 ∷ 68 ∷ 32 ∷ 85 ∷ 59 ∷ 32 ∷ 69 ∷ 78 ∷ 68 ∷ 32 ∷ 77 ∷ 46 ∷ []); symbols = (symbol (Ident) 0 6 ∷ symbol (Ident) 7 8 ∷ symbol (Ident) 8 9 ∷ symbol (Ident) 10 14 ∷ symbol (Ident) 15 16 ∷ symbol (Ident) 17 18 ∷ symbol (Ident) 19 25 ∷ symbol (Ident) 26 27 ∷ symbol (Ident) 27 28 ∷ symbol (Ident) 29 36 ∷ symbol (Ident) 37 40 ∷ symbol (Ident) 40 41 ∷ symbol (Ident) 42 43 ∷ symbol (Ident) 44 45 ∷ symbol (Ident) 46 52 ∷ symbol (Ident) 53 54 ∷ symbol (Ident) 54 55 ∷ symbol (Ident) 55 56 ∷ symbol (Ident) 57 58 ∷ symbol (Ident) 58 59 ∷ symbol (Ident) 60 67 ∷ symbol (Ident) 68 71 ∷ symbol (Ident) 71 72 ∷ symbol (Ident) 73 74 ∷ symbol (Ident) 75 76 ∷ symbol (Ident) 77 83 ∷ symbol (Ident) 84 85 ∷ symbol (Ident) 85 86 ∷ symbol (Ident) 86 87 ∷ symbol (Ident) 88 89 ∷ symbol (Ident) 89 90 ∷ symbol (Ident) 91 98 ∷ symbol (Ident) 99 102 ∷ symbol (Ident) 102 103 ∷ symbol (Ident) 104 105 ∷ symbol (Ident) 106 107 ∷ symbol (Ident) 108 115 ∷ symbol (Ident) 116 118 ∷ symbol (Ident) 119 120 ∷ symbol (Ident) 120 121 ∷ symbol (Ident) 122 123 ∷ symbol (Ident) 124 125 ∷ symbol (Ident) 126 133 ∷ symbol (Ident) 134 136 ∷ symbol (Ident) 137 138 ∷ symbol (Ident) 138 139 ∷ symbol (Ident) 140 141 ∷ symbol (Ident) 142 143 ∷ symbol (Ident) 144 151 ∷ symbol (Ident) 152 154 ∷ symbol (Ident) 155 156 ∷ symbol (Ident) 156 157 ∷ symbol (Ident) 158 161 ∷ symbol (Ident) 162 163 ∷ symbol (Ident) 163 164 ∷ symbol (Ident) 165 167 ∷ symbol (Ident) 167 168 ∷ symbol (Ident) 169 170 ∷ symbol (Ident) 170 171 ∷ symbol (Ident) 172 173 ∷ symbol (Ident) 173 174 ∷ symbol (Ident) 175 176 ∷ symbol (Ident) 176 177 ∷ symbol (Ident) 178 179 ∷ symbol (Ident) 179 180 ∷ symbol (Ident) 181 182 ∷ symbol (Ident) 182 183 ∷ symbol (Ident) 184 193 ∷ symbol (Ident) 194 195 ∷ symbol (Ident) 195 196 ∷ symbol (Ident) 196 199 ∷ symbol (Ident) 200 201 ∷ symbol (Ident) 201 202 ∷ symbol (Ident) 203 204 ∷ symbol (Ident) 204 205 ∷ symbol (Ident) 205 206 ∷ symbol (Ident) 207 210 ∷ symbol (Ident) 211 212 ∷ symbol (Ident) 212 213 ∷ symbol (Ident) 214 223 ∷ symbol (Ident) 224 226 ∷ symbol (Ident) 226 227 ∷ symbol (Ident) 227 230 ∷ symbol (Ident) 231 232 ∷ symbol (Ident) 232 233 ∷ symbol (Ident) 234 241 ∷ symbol (Ident) 241 242 ∷ symbol (Ident) 242 243 ∷ symbol (Ident) 244 247 ∷ symbol (Ident) 248 250 ∷ symbol (Ident) 250 251 ∷ symbol (Ident) 252 261 ∷ symbol (Ident) 262 264 ∷ symbol (Ident) 264 265 ∷ symbol (Ident) 265 268 ∷ symbol (Ident) 269 270 ∷ symbol (Ident) 270 271 ∷ symbol (Ident) 272 273 ∷ symbol (Ident) 273 274 ∷ symbol (Ident) 274 275 ∷ symbol (Ident) 276 279 ∷ symbol (Ident) 280 282 ∷ symbol (Ident) 282 283 ∷ symbol (Ident) 284 293 ∷ symbol (Ident) 294 295 ∷ symbol (Ident) 295 296 ∷ symbol (Ident) 296 297 ∷ symbol (Ident) 297 298 ∷ symbol (Ident) 299 300 ∷ symbol (Ident) 300 301 ∷ symbol (Ident) 301 302 ∷ symbol (Ident) 303 306 ∷ symbol (Ident) 307 308 ∷ symbol (Ident) 308 309 ∷ symbol (Ident) 310 319 ∷ symbol (Ident) 320 321 ∷ symbol (Ident) 321 322 ∷ symbol (Ident) 322 323 ∷ symbol (Ident) 323 324 ∷ symbol (Ident) 325 326 ∷ symbol (Ident) 326 327 ∷ symbol (Ident) 327 328 ∷ symbol (Ident) 329 334 ∷ symbol (Ident) 335 339 ∷ symbol (Ident) 340 341 ∷ symbol (Ident) 342 344 ∷ symbol (Ident) 345 346 ∷ symbol (Ident) 346 347 ∷ symbol (Ident) 348 349 ∷ symbol (Ident) 349 350 ∷ symbol (Ident) 350 351 ∷ symbol (Ident) 352 354 ∷ symbol (Int (pos 1)) 355 356 ∷ symbol (Ident) 356 357 ∷ symbol (Ident) 358 359 ∷ symbol (Ident) 359 360 ∷ symbol (Ident) 360 361 ∷ symbol (Ident) 361 362 ∷ symbol (Ident) 363 366 ∷ symbol (Ident) 367 370 ∷ symbol (Ident) 371 372 ∷ symbol (Ident) 372 373 ∷ symbol (Ident) 374 377 ∷ symbol (Ident) 378 379 ∷ symbol (Ident) 379 380 ∷ []) }; tree = record { module_word = 0; name = 1; semicolon = 0; imports = None; decls = (S.decls None (Some (record { type_word = 0; each = (record { name = (record { name = 4; star = None }); equal = 0; is = (S.Record 6 None (S.fields (record { first = (record { name = 7; star = None }); more = [] }) 0 (S.Named (record { name = 9; member = None }))) S.no_more_fields 0); semicolon = 0 } ∷ record { name = (record { name = 12; star = None }); equal = 0; is = (S.Record 14 (Some (record { left_paren = 0; name = (record { name = 16; member = None }); right_paren = 0 })) (S.fields (record { first = (record { name = 18; star = None }); more = [] }) 0 (S.Named (record { name = 20; member = None }))) S.no_more_fields 0); semicolon = 0 } ∷ record { name = (record { name = 23; star = None }); equal = 0; is = (S.Record 25 (Some (record { left_paren = 0; name = (record { name = 27; member = None }); right_paren = 0 })) (S.fields (record { first = (record { name = 29; star = None }); more = [] }) 0 (S.Named (record { name = 31; member = None }))) S.no_more_fields 0); semicolon = 0 } ∷ record { name = (record { name = 34; star = None }); equal = 0; is = (S.Pointer 36 0 (S.Named (record { name = 38; member = None }))); semicolon = 0 } ∷ record { name = (record { name = 40; star = None }); equal = 0; is = (S.Pointer 42 0 (S.Named (record { name = 44; member = None }))); semicolon = 0 } ∷ record { name = (record { name = 46; star = None }); equal = 0; is = (S.Pointer 48 0 (S.Named (record { name = 50; member = None }))); semicolon = 0 } ∷ []) })) (Some (record { var_word = 0; each = (record { names = (record { first = (record { name = 53; star = None }); more = (record { comma = 0; name = (record { name = 55; star = None }) } ∷ []) }); colon = 0; of = (S.Named (record { name = 57; member = None })); semicolon = 0 } ∷ record { names = (record { first = (record { name = 59; star = None }); more = [] }); colon = 0; of = (S.Named (record { name = 61; member = None })); semicolon = 0 } ∷ record { names = (record { first = (record { name = 63; star = None }); more = [] }); colon = 0; of = (S.Named (record { name = 65; member = None })); semicolon = 0 } ∷ []) })) (S.procedure 0 (record { name = 68; star = None }) (Some (record { left_paren = 0; sections = Some (record { first = (record { var_word = Some 0; first = 71; more = []; colon = 0; open_array = None; of = (record { name = 73; member = None }) }); more = [] }); right_paren = 0; result = None })) 0 (S.decls None None None S.no_procedure) None None 76 77 0 (S.procedure 0 (record { name = 80; star = None }) (Some (record { left_paren = 0; sections = Some (record { first = (record { var_word = Some 0; first = 83; more = []; colon = 0; open_array = None; of = (record { name = 85; member = None }) }); more = [] }); right_paren = 0; result = None })) 0 (S.decls None None None S.no_procedure) None None 88 89 0 (S.procedure 0 (record { name = 92; star = None }) (Some (record { left_paren = 0; sections = Some (record { first = (record { var_word = Some 0; first = 95; more = []; colon = 0; open_array = None; of = (record { name = 97; member = None }) }); more = [] }); right_paren = 0; result = None })) 0 (S.decls None None None S.no_procedure) None None 100 101 0 (S.procedure 0 (record { name = 104; star = None }) (Some (record { left_paren = 0; sections = Some (record { first = (record { var_word = None; first = 106; more = []; colon = 0; open_array = None; of = (record { name = 108; member = None }) }); more = [] }); right_paren = 0; result = None })) 0 (S.decls None None None S.no_procedure) None None 111 112 0 (S.procedure 0 (record { name = 115; star = None }) (Some (record { left_paren = 0; sections = Some (record { first = (record { var_word = None; first = 117; more = []; colon = 0; open_array = None; of = (record { name = 119; member = None }) }); more = [] }); right_paren = 0; result = None })) 0 (S.decls None None None S.no_procedure) (Some (record { begin_word = 0; stats = (S.stats (S.Case 0 (S.only (S.simple None (S.term (S.Designated 124 S.no_selector) S.no_factor) S.no_term)) 0 (S.one_case (record { low = TheLabel.Named (record { name = 126; member = None }); high = None }) [] 0 (S.stats (S.AssignOrCall (record { name = 128; selectors = (S.selected (S.Field 0 130) S.no_selector) }) (Some (record { becomes = 0; value = (S.only (S.simple None (S.term (S.Int 132) S.no_factor) S.no_term)) }))) (S.next_stat 0 (S.AssignOrCall (record { name = 134; selectors = (S.selected (S.Parens 0 (S.expressions (S.only (S.simple None (S.term (S.Designated 136 S.no_selector) S.no_factor) S.no_term)) S.no_expression) 0) S.no_selector) }) None) S.no_stat))) S.no_next_case 0) S.no_stat) })) None 139 140 0 S.no_procedure)))))); body = None; end_word = 0; end_name = 143; period = 0 } }

pub narrow_14 : checked (narrow_14_0 ∷ []) ≡ Fault 0 31 360
narrow_14 = refl

-- MODULE M; TYPE R = RECORD x: INTEGER END; E = RECORD (R) y: INTEGER END; F = RECORD (E) z: INTEGER END; P = POINTER TO R; Q = POINTER TO E; T = POINTER TO F; VAR p, p2: P; q: Q; t: T; PROCEDURE V(VAR p: P); END V; PROCEDURE VX(VAR i: INTEGER); END VX; PROCEDURE VR(VAR r: R); END VR; PROCEDURE S(r: R); END S; PROCEDURE U(VAR p: P); VAR q: P; BEGIN CASE p OF T: p.z := 1; CASE q OF Q: q.y := p.z; p := q END END END U; END M.
abbrev narrow_15_0 : Parsed
narrow_15_0 = record { source = record { bytes = (77 ∷ 79 ∷ 68 ∷ 85 ∷ 76 ∷ 69 ∷ 32 ∷ 77 ∷ 59 ∷ 32 ∷ 84 ∷ 89 ∷ 80 ∷ 69 ∷ 32 ∷ 82 ∷ 32 ∷ 61 ∷ 32 ∷ 82 ∷ 69 ∷ 67 ∷ 79 ∷ 82 ∷ 68 ∷ 32 ∷ 120 ∷ 58 ∷ 32 ∷ 73 ∷ 78 ∷ 84 ∷ 69 ∷ 71 ∷ 69 ∷ 82 ∷ 32 ∷ 69 ∷ 78 ∷ 68 ∷ 59 ∷ 32 ∷ 69 ∷ 32 ∷ 61 ∷ 32 ∷ 82 ∷ 69 ∷ 67 ∷ 79 ∷ 82 ∷ 68 ∷ 32 ∷ 40 ∷ 82 ∷ 41 ∷ 32 ∷ 121 ∷ 58 ∷ 32 ∷ 73 ∷ 78 ∷ 84 ∷ 69 ∷ 71 ∷ 69 ∷ 82 ∷ 32 ∷ 69 ∷ 78 ∷ 68 ∷ 59 ∷ 32 ∷ 70 ∷ 32 ∷ 61 ∷ 32 ∷ 82 ∷ 69 ∷ 67 ∷ 79 ∷ 82 ∷ 68 ∷ 32 ∷ 40 ∷ 69 ∷ 41 ∷ 32 ∷ 122 ∷ 58 ∷ 32 ∷ 73 ∷ 78 ∷ 84 ∷ 69 ∷ 71 ∷ 69 ∷ 82 ∷ 32 ∷ 69 ∷ 78 ∷ 68 ∷ 59 ∷ 32 ∷ 80 ∷ 32 ∷ 61 ∷ 32 ∷ 80 ∷ 79 ∷ 73 ∷ 78 ∷ 84 ∷ 69 ∷ 82 ∷ 32 ∷ 84 ∷ 79 ∷ 32 ∷ 82 ∷ 59 ∷ 32 ∷ 81 ∷ 32 ∷ 61 ∷ 32 ∷ 80 ∷ 79 ∷ 73 ∷ 78 ∷ 84 ∷ 69 ∷ 82 ∷ 32 ∷ 84 ∷ 79 ∷ 32 ∷ 69 ∷ 59 ∷ 32 ∷ 84 ∷ 32 ∷ 61 ∷ 32 ∷ 80 ∷ 79 ∷ 73 ∷ 78 ∷ 84 ∷ 69 ∷ 82 ∷ 32 ∷ 84 ∷ 79 ∷ 32 ∷ 70 ∷ 59 ∷ 32 ∷ 86 ∷ 65 ∷ 82 ∷ 32 ∷ 112 ∷ 44 ∷ 32 ∷ 112 ∷ 50 ∷ 58 ∷ 32 ∷ 80 ∷ 59 ∷ 32 ∷ 113 ∷ 58 ∷ 32 ∷ 81 ∷ 59 ∷ 32 ∷ 116 ∷ 58 ∷ 32 ∷ 84 ∷ 59 ∷ 32 ∷ 80 ∷ 82 ∷ 79 ∷ 67 ∷ 69 ∷ 68 ∷ 85 ∷ 82 ∷ 69 ∷ 32 ∷ 86 ∷ 40 ∷ 86 ∷ 65 ∷ 82 ∷ 32 ∷ 112 ∷ 58 ∷ 32 ∷ 80 ∷ 41 ∷ 59 ∷ 32 ∷ 69 ∷ 78 ∷ 68 ∷ 32 ∷ 86 ∷ 59 ∷ 32 ∷ 80 ∷ 82 ∷ 79 ∷ 67 ∷ 69 ∷ 68 ∷ 85 ∷ 82 ∷ 69 ∷ 32 ∷ 86 ∷ 88 ∷ 40 ∷ 86 ∷ 65 ∷ 82 ∷ 32 ∷ 105 ∷ 58 ∷ 32 ∷ 73 ∷ 78 ∷ 84 ∷ 69 ∷ 71 ∷ 69 ∷ 82 ∷ 41 ∷ 59 ∷ 32 ∷ 69 ∷ 78 ∷ 68 ∷ 32 ∷ 86 ∷ 88 ∷ 59 ∷ 32 ∷ 80 ∷ 82 ∷ 79 ∷ 67 ∷ 69 ∷ 68 ∷ 85 ∷ 82 ∷ 69 ∷ 32 ∷ 86 ∷ 82 ∷ 40 ∷ 86 ∷ 65 ∷ 82 ∷ 32 ∷ 114 ∷ 58 ∷ 32 ∷ 82 ∷ 41 ∷ 59 ∷ 32 ∷ 69 ∷ 78 ∷ 68 ∷ 32 ∷ 86 ∷ 82 ∷ 59 ∷ 32 ∷ 80 ∷ 82 ∷ 79 ∷ 67 ∷ 69 ∷ 68 ∷ 85 ∷ 82 ∷ 69 ∷ 32 ∷ 83 ∷ 40 ∷ 114 ∷ 58 ∷ 32 ∷ 82 ∷ 41 ∷ 59 ∷ 32 ∷ 69 ∷ 78 ∷ 68 ∷ 32 ∷ 83 ∷ 59 ∷ 32 ∷ 80 ∷ 82 ∷ 79 ∷ 67 ∷ 69 ∷ 68 ∷ 85 ∷ 82 ∷ 69 ∷ 32 ∷ 85 ∷ 40 ∷ 86 ∷ 65 ∷ 82 ∷ 32 ∷ 112 ∷ 58 ∷ 32 ∷ 80 ∷ 41 ∷ 59 ∷ 32 ∷ 86 ∷ 65 ∷ 82 ∷ 32 ∷ 113 ∷ 58 ∷ 32 ∷ 80 ∷ 59 ∷ 32 ∷ 66 ∷ 69 ∷ 71 ∷ 73 ∷ 78 ∷ 32 ∷ 67 ∷ 65 ∷ 83 ∷ 69 ∷ 32 ∷ 112 ∷ 32 ∷ 79 ∷ 70 ∷ 32 ∷ 84 ∷ 58 ∷ 32 ∷ 112 ∷ 46 ∷ 122 ∷ 32 ∷ 58 ∷ 61 ∷ 32 ∷ 49 ∷ 59 ∷ 32 ∷ 67 ∷ 65 ∷ 83 ∷ 69 ∷ 32 ∷ 113 ∷ 32 ∷ 79 ∷ 70 ∷ 32 ∷ 81 ∷ 58 ∷ 32 ∷ 113 ∷ 46 ∷ 121 ∷ 32 ∷ 58 ∷ 61 ∷ 32 ∷ 112 ∷ 46 ∷ 122 ∷ 59 ∷ 32 ∷ 112 ∷ 32 ∷ 58 ∷ 61 ∷ 32 ∷ 113 ∷ 32 ∷ 69 ∷ 78 ∷ 68 ∷ 32 ∷ 69 ∷ 78 ∷ 68 ∷ 32 ∷ 69 ∷ 78 ∷ 68 ∷ 32 ∷ 85 ∷ 59 ∷ 32 ∷ 69 ∷ 78 ∷ 68 ∷ 32 ∷ 77 ∷ 46 ∷ []); symbols = (symbol (Ident) 0 6 ∷ symbol (Ident) 7 8 ∷ symbol (Ident) 8 9 ∷ symbol (Ident) 10 14 ∷ symbol (Ident) 15 16 ∷ symbol (Ident) 17 18 ∷ symbol (Ident) 19 25 ∷ symbol (Ident) 26 27 ∷ symbol (Ident) 27 28 ∷ symbol (Ident) 29 36 ∷ symbol (Ident) 37 40 ∷ symbol (Ident) 40 41 ∷ symbol (Ident) 42 43 ∷ symbol (Ident) 44 45 ∷ symbol (Ident) 46 52 ∷ symbol (Ident) 53 54 ∷ symbol (Ident) 54 55 ∷ symbol (Ident) 55 56 ∷ symbol (Ident) 57 58 ∷ symbol (Ident) 58 59 ∷ symbol (Ident) 60 67 ∷ symbol (Ident) 68 71 ∷ symbol (Ident) 71 72 ∷ symbol (Ident) 73 74 ∷ symbol (Ident) 75 76 ∷ symbol (Ident) 77 83 ∷ symbol (Ident) 84 85 ∷ symbol (Ident) 85 86 ∷ symbol (Ident) 86 87 ∷ symbol (Ident) 88 89 ∷ symbol (Ident) 89 90 ∷ symbol (Ident) 91 98 ∷ symbol (Ident) 99 102 ∷ symbol (Ident) 102 103 ∷ symbol (Ident) 104 105 ∷ symbol (Ident) 106 107 ∷ symbol (Ident) 108 115 ∷ symbol (Ident) 116 118 ∷ symbol (Ident) 119 120 ∷ symbol (Ident) 120 121 ∷ symbol (Ident) 122 123 ∷ symbol (Ident) 124 125 ∷ symbol (Ident) 126 133 ∷ symbol (Ident) 134 136 ∷ symbol (Ident) 137 138 ∷ symbol (Ident) 138 139 ∷ symbol (Ident) 140 141 ∷ symbol (Ident) 142 143 ∷ symbol (Ident) 144 151 ∷ symbol (Ident) 152 154 ∷ symbol (Ident) 155 156 ∷ symbol (Ident) 156 157 ∷ symbol (Ident) 158 161 ∷ symbol (Ident) 162 163 ∷ symbol (Ident) 163 164 ∷ symbol (Ident) 165 167 ∷ symbol (Ident) 167 168 ∷ symbol (Ident) 169 170 ∷ symbol (Ident) 170 171 ∷ symbol (Ident) 172 173 ∷ symbol (Ident) 173 174 ∷ symbol (Ident) 175 176 ∷ symbol (Ident) 176 177 ∷ symbol (Ident) 178 179 ∷ symbol (Ident) 179 180 ∷ symbol (Ident) 181 182 ∷ symbol (Ident) 182 183 ∷ symbol (Ident) 184 193 ∷ symbol (Ident) 194 195 ∷ symbol (Ident) 195 196 ∷ symbol (Ident) 196 199 ∷ symbol (Ident) 200 201 ∷ symbol (Ident) 201 202 ∷ symbol (Ident) 203 204 ∷ symbol (Ident) 204 205 ∷ symbol (Ident) 205 206 ∷ symbol (Ident) 207 210 ∷ symbol (Ident) 211 212 ∷ symbol (Ident) 212 213 ∷ symbol (Ident) 214 223 ∷ symbol (Ident) 224 226 ∷ symbol (Ident) 226 227 ∷ symbol (Ident) 227 230 ∷ symbol (Ident) 231 232 ∷ symbol (Ident) 232 233 ∷ symbol (Ident) 234 241 ∷ symbol (Ident) 241 242 ∷ symbol (Ident) 242 243 ∷ symbol (Ident) 244 247 ∷ symbol (Ident) 248 250 ∷ symbol (Ident) 250 251 ∷ symbol (Ident) 252 261 ∷ symbol (Ident) 262 264 ∷ symbol (Ident) 264 265 ∷ symbol (Ident) 265 268 ∷ symbol (Ident) 269 270 ∷ symbol (Ident) 270 271 ∷ symbol (Ident) 272 273 ∷ symbol (Ident) 273 274 ∷ symbol (Ident) 274 275 ∷ symbol (Ident) 276 279 ∷ symbol (Ident) 280 282 ∷ symbol (Ident) 282 283 ∷ symbol (Ident) 284 293 ∷ symbol (Ident) 294 295 ∷ symbol (Ident) 295 296 ∷ symbol (Ident) 296 297 ∷ symbol (Ident) 297 298 ∷ symbol (Ident) 299 300 ∷ symbol (Ident) 300 301 ∷ symbol (Ident) 301 302 ∷ symbol (Ident) 303 306 ∷ symbol (Ident) 307 308 ∷ symbol (Ident) 308 309 ∷ symbol (Ident) 310 319 ∷ symbol (Ident) 320 321 ∷ symbol (Ident) 321 322 ∷ symbol (Ident) 322 325 ∷ symbol (Ident) 326 327 ∷ symbol (Ident) 327 328 ∷ symbol (Ident) 329 330 ∷ symbol (Ident) 330 331 ∷ symbol (Ident) 331 332 ∷ symbol (Ident) 333 336 ∷ symbol (Ident) 337 338 ∷ symbol (Ident) 338 339 ∷ symbol (Ident) 340 341 ∷ symbol (Ident) 341 342 ∷ symbol (Ident) 343 348 ∷ symbol (Ident) 349 353 ∷ symbol (Ident) 354 355 ∷ symbol (Ident) 356 358 ∷ symbol (Ident) 359 360 ∷ symbol (Ident) 360 361 ∷ symbol (Ident) 362 363 ∷ symbol (Ident) 363 364 ∷ symbol (Ident) 364 365 ∷ symbol (Ident) 366 368 ∷ symbol (Int (pos 1)) 369 370 ∷ symbol (Ident) 370 371 ∷ symbol (Ident) 372 376 ∷ symbol (Ident) 377 378 ∷ symbol (Ident) 379 381 ∷ symbol (Ident) 382 383 ∷ symbol (Ident) 383 384 ∷ symbol (Ident) 385 386 ∷ symbol (Ident) 386 387 ∷ symbol (Ident) 387 388 ∷ symbol (Ident) 389 391 ∷ symbol (Ident) 392 393 ∷ symbol (Ident) 393 394 ∷ symbol (Ident) 394 395 ∷ symbol (Ident) 395 396 ∷ symbol (Ident) 397 398 ∷ symbol (Ident) 399 401 ∷ symbol (Ident) 402 403 ∷ symbol (Ident) 404 407 ∷ symbol (Ident) 408 411 ∷ symbol (Ident) 412 415 ∷ symbol (Ident) 416 417 ∷ symbol (Ident) 417 418 ∷ symbol (Ident) 419 422 ∷ symbol (Ident) 423 424 ∷ symbol (Ident) 424 425 ∷ []) }; tree = record { module_word = 0; name = 1; semicolon = 0; imports = None; decls = (S.decls None (Some (record { type_word = 0; each = (record { name = (record { name = 4; star = None }); equal = 0; is = (S.Record 6 None (S.fields (record { first = (record { name = 7; star = None }); more = [] }) 0 (S.Named (record { name = 9; member = None }))) S.no_more_fields 0); semicolon = 0 } ∷ record { name = (record { name = 12; star = None }); equal = 0; is = (S.Record 14 (Some (record { left_paren = 0; name = (record { name = 16; member = None }); right_paren = 0 })) (S.fields (record { first = (record { name = 18; star = None }); more = [] }) 0 (S.Named (record { name = 20; member = None }))) S.no_more_fields 0); semicolon = 0 } ∷ record { name = (record { name = 23; star = None }); equal = 0; is = (S.Record 25 (Some (record { left_paren = 0; name = (record { name = 27; member = None }); right_paren = 0 })) (S.fields (record { first = (record { name = 29; star = None }); more = [] }) 0 (S.Named (record { name = 31; member = None }))) S.no_more_fields 0); semicolon = 0 } ∷ record { name = (record { name = 34; star = None }); equal = 0; is = (S.Pointer 36 0 (S.Named (record { name = 38; member = None }))); semicolon = 0 } ∷ record { name = (record { name = 40; star = None }); equal = 0; is = (S.Pointer 42 0 (S.Named (record { name = 44; member = None }))); semicolon = 0 } ∷ record { name = (record { name = 46; star = None }); equal = 0; is = (S.Pointer 48 0 (S.Named (record { name = 50; member = None }))); semicolon = 0 } ∷ []) })) (Some (record { var_word = 0; each = (record { names = (record { first = (record { name = 53; star = None }); more = (record { comma = 0; name = (record { name = 55; star = None }) } ∷ []) }); colon = 0; of = (S.Named (record { name = 57; member = None })); semicolon = 0 } ∷ record { names = (record { first = (record { name = 59; star = None }); more = [] }); colon = 0; of = (S.Named (record { name = 61; member = None })); semicolon = 0 } ∷ record { names = (record { first = (record { name = 63; star = None }); more = [] }); colon = 0; of = (S.Named (record { name = 65; member = None })); semicolon = 0 } ∷ []) })) (S.procedure 0 (record { name = 68; star = None }) (Some (record { left_paren = 0; sections = Some (record { first = (record { var_word = Some 0; first = 71; more = []; colon = 0; open_array = None; of = (record { name = 73; member = None }) }); more = [] }); right_paren = 0; result = None })) 0 (S.decls None None None S.no_procedure) None None 76 77 0 (S.procedure 0 (record { name = 80; star = None }) (Some (record { left_paren = 0; sections = Some (record { first = (record { var_word = Some 0; first = 83; more = []; colon = 0; open_array = None; of = (record { name = 85; member = None }) }); more = [] }); right_paren = 0; result = None })) 0 (S.decls None None None S.no_procedure) None None 88 89 0 (S.procedure 0 (record { name = 92; star = None }) (Some (record { left_paren = 0; sections = Some (record { first = (record { var_word = Some 0; first = 95; more = []; colon = 0; open_array = None; of = (record { name = 97; member = None }) }); more = [] }); right_paren = 0; result = None })) 0 (S.decls None None None S.no_procedure) None None 100 101 0 (S.procedure 0 (record { name = 104; star = None }) (Some (record { left_paren = 0; sections = Some (record { first = (record { var_word = None; first = 106; more = []; colon = 0; open_array = None; of = (record { name = 108; member = None }) }); more = [] }); right_paren = 0; result = None })) 0 (S.decls None None None S.no_procedure) None None 111 112 0 (S.procedure 0 (record { name = 115; star = None }) (Some (record { left_paren = 0; sections = Some (record { first = (record { var_word = Some 0; first = 118; more = []; colon = 0; open_array = None; of = (record { name = 120; member = None }) }); more = [] }); right_paren = 0; result = None })) 0 (S.decls None None (Some (record { var_word = 0; each = (record { names = (record { first = (record { name = 124; star = None }); more = [] }); colon = 0; of = (S.Named (record { name = 126; member = None })); semicolon = 0 } ∷ []) })) S.no_procedure) (Some (record { begin_word = 0; stats = (S.stats (S.Case 0 (S.only (S.simple None (S.term (S.Designated 130 S.no_selector) S.no_factor) S.no_term)) 0 (S.one_case (record { low = TheLabel.Named (record { name = 132; member = None }); high = None }) [] 0 (S.stats (S.AssignOrCall (record { name = 134; selectors = (S.selected (S.Field 0 136) S.no_selector) }) (Some (record { becomes = 0; value = (S.only (S.simple None (S.term (S.Int 138) S.no_factor) S.no_term)) }))) (S.next_stat 0 (S.Case 0 (S.only (S.simple None (S.term (S.Designated 141 S.no_selector) S.no_factor) S.no_term)) 0 (S.one_case (record { low = TheLabel.Named (record { name = 143; member = None }); high = None }) [] 0 (S.stats (S.AssignOrCall (record { name = 145; selectors = (S.selected (S.Field 0 147) S.no_selector) }) (Some (record { becomes = 0; value = (S.only (S.simple None (S.term (S.Designated 149 (S.selected (S.Field 0 151) S.no_selector)) S.no_factor) S.no_term)) }))) (S.next_stat 0 (S.AssignOrCall (record { name = 153; selectors = S.no_selector }) (Some (record { becomes = 0; value = (S.only (S.simple None (S.term (S.Designated 155 S.no_selector) S.no_factor) S.no_term)) }))) S.no_stat))) S.no_next_case 0) S.no_stat))) S.no_next_case 0) S.no_stat) })) None 158 159 0 S.no_procedure)))))); body = None; end_word = 0; end_name = 162; period = 0 } }

pub narrow_15 : checked (narrow_15_0 ∷ []) ≡ Legal (record { records = (record { module_number = 0; base = None; level = 0; fields = (record { name = (120 ∷ []); exported = false; shape = H.Integer } ∷ []); cells = 1; extent = record { bytes = 8; wide = true } } ∷ record { module_number = 0; base = (Some 0); level = 1; fields = (record { name = (121 ∷ []); exported = false; shape = H.Integer } ∷ []); cells = 2; extent = record { bytes = 16; wide = true } } ∷ record { module_number = 0; base = (Some 1); level = 2; fields = (record { name = (122 ∷ []); exported = false; shape = H.Integer } ∷ []); cells = 3; extent = record { bytes = 24; wide = true } } ∷ []); pointers = (Some 0 ∷ Some 1 ∷ Some 2 ∷ []); modules = (record { name = (77 ∷ []); objects = (record { name = (82 ∷ []); exported = false; entity = I.OfType (H.Record 0) } ∷ record { name = (69 ∷ []); exported = false; entity = I.OfType (H.Record 1) } ∷ record { name = (70 ∷ []); exported = false; entity = I.OfType (H.Record 2) } ∷ record { name = (80 ∷ []); exported = false; entity = I.OfType (H.Pointer 0) } ∷ record { name = (81 ∷ []); exported = false; entity = I.OfType (H.Pointer 1) } ∷ record { name = (84 ∷ []); exported = false; entity = I.OfType (H.Pointer 2) } ∷ record { name = (112 ∷ []); exported = false; entity = I.OfVariable 0 } ∷ record { name = (112 ∷ 50 ∷ []); exported = false; entity = I.OfVariable 1 } ∷ record { name = (113 ∷ []); exported = false; entity = I.OfVariable 2 } ∷ record { name = (116 ∷ []); exported = false; entity = I.OfVariable 3 } ∷ record { name = (86 ∷ []); exported = false; entity = I.OfProcedure 0 } ∷ record { name = (86 ∷ 88 ∷ []); exported = false; entity = I.OfProcedure 1 } ∷ record { name = (86 ∷ 82 ∷ []); exported = false; entity = I.OfProcedure 2 } ∷ record { name = (83 ∷ []); exported = false; entity = I.OfProcedure 3 } ∷ record { name = (85 ∷ []); exported = false; entity = I.OfProcedure 4 } ∷ []); variables = ((H.Pointer 0) ∷ (H.Pointer 0) ∷ (H.Pointer 1) ∷ (H.Pointer 2) ∷ []); body = 5 } ∷ []); procedures = (record { module_number = 0; line = 1; is_body = false; formals = (record { mode = TheMode.Place; variable = true; shape = (H.Pointer 0) } ∷ []); result = H.Nothing; locals = []; texts = []; body = I.no_statement; answer = None } ∷ record { module_number = 0; line = 1; is_body = false; formals = (record { mode = TheMode.Place; variable = true; shape = H.Integer } ∷ []); result = H.Nothing; locals = []; texts = []; body = I.no_statement; answer = None } ∷ record { module_number = 0; line = 1; is_body = false; formals = (record { mode = TheMode.Record; variable = true; shape = (H.Record 0) } ∷ []); result = H.Nothing; locals = []; texts = []; body = I.no_statement; answer = None } ∷ record { module_number = 0; line = 1; is_body = false; formals = (record { mode = TheMode.Place; variable = false; shape = (H.Record 0) } ∷ []); result = H.Nothing; locals = []; texts = []; body = I.no_statement; answer = None } ∷ record { module_number = 0; line = 1; is_body = false; formals = (record { mode = TheMode.Place; variable = true; shape = (H.Pointer 0) } ∷ []); result = H.Nothing; locals = ((H.Pointer 0) ∷ []); texts = []; body = (I.next_statement (I.CasePointer (record { form = (I.Load (I.of_type (I.Parameter 0) (H.Pointer 0))); shape = (H.Pointer 0) }) (I.next_part (I.Extends 2) (I.next_statement (I.Assign (I.of_type (I.Field (I.Dereference (I.Guard (I.Load (I.of_type (I.Parameter 0) (H.Pointer 0))) 2)) 2 0) H.Integer) (record { form = (I.Literal 1); shape = H.Integer })) (I.next_statement (I.CasePointer (record { form = (I.Load (I.of_type (I.Local 0) (H.Pointer 0))); shape = (H.Pointer 0) }) (I.next_part (I.Extends 1) (I.next_statement (I.Assign (I.of_type (I.Field (I.Dereference (I.Guard (I.Load (I.of_type (I.Local 0) (H.Pointer 0))) 1)) 1 0) H.Integer) (record { form = (I.Load (I.of_type (I.Field (I.Dereference (I.Guard (I.Load (I.of_type (I.Parameter 0) (H.Pointer 0))) 2)) 2 0) H.Integer)); shape = H.Integer })) (I.next_statement (I.Assign (I.of_type (I.Parameter 0) (H.Pointer 0)) (record { form = (I.Guard (I.Load (I.of_type (I.Local 0) (H.Pointer 0))) 1); shape = (H.Pointer 1) })) I.no_statement)) I.no_part)) I.no_statement)) I.no_part)) I.no_statement); answer = None } ∷ record { module_number = 0; line = 1; is_body = true; formals = []; result = H.Nothing; locals = []; texts = []; body = I.no_statement; answer = None } ∷ []); imports_in = false })
narrow_15 = refl

-- MODULE M; TYPE R = RECORD x: INTEGER END; E = RECORD (R) y: INTEGER END; F = RECORD (E) z: INTEGER END; P = POINTER TO R; Q = POINTER TO E; T = POINTER TO F; VAR p, p2: P; q: Q; t: T; PROCEDURE V(VAR p: P); END V; PROCEDURE VX(VAR i: INTEGER); END VX; PROCEDURE VR(VAR r: R); END VR; PROCEDURE S(r: R); END S; BEGIN CASE p OF Q: FOR p := 0 TO 1 DO END END END M.
abbrev narrow_16_0 : Parsed
narrow_16_0 = record { source = record { bytes = (77 ∷ 79 ∷ 68 ∷ 85 ∷ 76 ∷ 69 ∷ 32 ∷ 77 ∷ 59 ∷ 32 ∷ 84 ∷ 89 ∷ 80 ∷ 69 ∷ 32 ∷ 82 ∷ 32 ∷ 61 ∷ 32 ∷ 82 ∷ 69 ∷ 67 ∷ 79 ∷ 82 ∷ 68 ∷ 32 ∷ 120 ∷ 58 ∷ 32 ∷ 73 ∷ 78 ∷ 84 ∷ 69 ∷ 71 ∷ 69 ∷ 82 ∷ 32 ∷ 69 ∷ 78 ∷ 68 ∷ 59 ∷ 32 ∷ 69 ∷ 32 ∷ 61 ∷ 32 ∷ 82 ∷ 69 ∷ 67 ∷ 79 ∷ 82 ∷ 68 ∷ 32 ∷ 40 ∷ 82 ∷ 41 ∷ 32 ∷ 121 ∷ 58 ∷ 32 ∷ 73 ∷ 78 ∷ 84 ∷ 69 ∷ 71 ∷ 69 ∷ 82 ∷ 32 ∷ 69 ∷ 78 ∷ 68 ∷ 59 ∷ 32 ∷ 70 ∷ 32 ∷ 61 ∷ 32 ∷ 82 ∷ 69 ∷ 67 ∷ 79 ∷ 82 ∷ 68 ∷ 32 ∷ 40 ∷ 69 ∷ 41 ∷ 32 ∷ 122 ∷ 58 ∷ 32 ∷ 73 ∷ 78 ∷ 84 ∷ 69 ∷ 71 ∷ 69 ∷ 82 ∷ 32 ∷ 69 ∷ 78 ∷ 68 ∷ 59 ∷ 32 ∷ 80 ∷ 32 ∷ 61 ∷ 32 ∷ 80 ∷ 79 ∷ 73 ∷ 78 ∷ 84 ∷ 69 ∷ 82 ∷ 32 ∷ 84 ∷ 79 ∷ 32 ∷ 82 ∷ 59 ∷ 32 ∷ 81 ∷ 32 ∷ 61 ∷ 32 ∷ 80 ∷ 79 ∷ 73 ∷ 78 ∷ 84 ∷ 69 ∷ 82 ∷ 32 ∷ 84 ∷ 79 ∷ 32 ∷ 69 ∷ 59 ∷ 32 ∷ 84 ∷ 32 ∷ 61 ∷ 32 ∷ 80 ∷ 79 ∷ 73 ∷ 78 ∷ 84 ∷ 69 ∷ 82 ∷ 32 ∷ 84 ∷ 79 ∷ 32 ∷ 70 ∷ 59 ∷ 32 ∷ 86 ∷ 65 ∷ 82 ∷ 32 ∷ 112 ∷ 44 ∷ 32 ∷ 112 ∷ 50 ∷ 58 ∷ 32 ∷ 80 ∷ 59 ∷ 32 ∷ 113 ∷ 58 ∷ 32 ∷ 81 ∷ 59 ∷ 32 ∷ 116 ∷ 58 ∷ 32 ∷ 84 ∷ 59 ∷ 32 ∷ 80 ∷ 82 ∷ 79 ∷ 67 ∷ 69 ∷ 68 ∷ 85 ∷ 82 ∷ 69 ∷ 32 ∷ 86 ∷ 40 ∷ 86 ∷ 65 ∷ 82 ∷ 32 ∷ 112 ∷ 58 ∷ 32 ∷ 80 ∷ 41 ∷ 59 ∷ 32 ∷ 69 ∷ 78 ∷ 68 ∷ 32 ∷ 86 ∷ 59 ∷ 32 ∷ 80 ∷ 82 ∷ 79 ∷ 67 ∷ 69 ∷ 68 ∷ 85 ∷ 82 ∷ 69 ∷ 32 ∷ 86 ∷ 88 ∷ 40 ∷ 86 ∷ 65 ∷ 82 ∷ 32 ∷ 105 ∷ 58 ∷ 32 ∷ 73 ∷ 78 ∷ 84 ∷ 69 ∷ 71 ∷ 69 ∷ 82 ∷ 41 ∷ 59 ∷ 32 ∷ 69 ∷ 78 ∷ 68 ∷ 32 ∷ 86 ∷ 88 ∷ 59 ∷ 32 ∷ 80 ∷ 82 ∷ 79 ∷ 67 ∷ 69 ∷ 68 ∷ 85 ∷ 82 ∷ 69 ∷ 32 ∷ 86 ∷ 82 ∷ 40 ∷ 86 ∷ 65 ∷ 82 ∷ 32 ∷ 114 ∷ 58 ∷ 32 ∷ 82 ∷ 41 ∷ 59 ∷ 32 ∷ 69 ∷ 78 ∷ 68 ∷ 32 ∷ 86 ∷ 82 ∷ 59 ∷ 32 ∷ 80 ∷ 82 ∷ 79 ∷ 67 ∷ 69 ∷ 68 ∷ 85 ∷ 82 ∷ 69 ∷ 32 ∷ 83 ∷ 40 ∷ 114 ∷ 58 ∷ 32 ∷ 82 ∷ 41 ∷ 59 ∷ 32 ∷ 69 ∷ 78 ∷ 68 ∷ 32 ∷ 83 ∷ 59 ∷ 32 ∷ 66 ∷ 69 ∷ 71 ∷ 73 ∷ 78 ∷ 32 ∷ 67 ∷ 65 ∷ 83 ∷ 69 ∷ 32 ∷ 112 ∷ 32 ∷ 79 ∷ 70 ∷ 32 ∷ 81 ∷ 58 ∷ 32 ∷ 70 ∷ 79 ∷ 82 ∷ 32 ∷ 112 ∷ 32 ∷ 58 ∷ 61 ∷ 32 ∷ 48 ∷ 32 ∷ 84 ∷ 79 ∷ 32 ∷ 49 ∷ 32 ∷ 68 ∷ 79 ∷ 32 ∷ 69 ∷ 78 ∷ 68 ∷ 32 ∷ 69 ∷ 78 ∷ 68 ∷ 32 ∷ 69 ∷ 78 ∷ 68 ∷ 32 ∷ 77 ∷ 46 ∷ []); symbols = (symbol (Ident) 0 6 ∷ symbol (Ident) 7 8 ∷ symbol (Ident) 8 9 ∷ symbol (Ident) 10 14 ∷ symbol (Ident) 15 16 ∷ symbol (Ident) 17 18 ∷ symbol (Ident) 19 25 ∷ symbol (Ident) 26 27 ∷ symbol (Ident) 27 28 ∷ symbol (Ident) 29 36 ∷ symbol (Ident) 37 40 ∷ symbol (Ident) 40 41 ∷ symbol (Ident) 42 43 ∷ symbol (Ident) 44 45 ∷ symbol (Ident) 46 52 ∷ symbol (Ident) 53 54 ∷ symbol (Ident) 54 55 ∷ symbol (Ident) 55 56 ∷ symbol (Ident) 57 58 ∷ symbol (Ident) 58 59 ∷ symbol (Ident) 60 67 ∷ symbol (Ident) 68 71 ∷ symbol (Ident) 71 72 ∷ symbol (Ident) 73 74 ∷ symbol (Ident) 75 76 ∷ symbol (Ident) 77 83 ∷ symbol (Ident) 84 85 ∷ symbol (Ident) 85 86 ∷ symbol (Ident) 86 87 ∷ symbol (Ident) 88 89 ∷ symbol (Ident) 89 90 ∷ symbol (Ident) 91 98 ∷ symbol (Ident) 99 102 ∷ symbol (Ident) 102 103 ∷ symbol (Ident) 104 105 ∷ symbol (Ident) 106 107 ∷ symbol (Ident) 108 115 ∷ symbol (Ident) 116 118 ∷ symbol (Ident) 119 120 ∷ symbol (Ident) 120 121 ∷ symbol (Ident) 122 123 ∷ symbol (Ident) 124 125 ∷ symbol (Ident) 126 133 ∷ symbol (Ident) 134 136 ∷ symbol (Ident) 137 138 ∷ symbol (Ident) 138 139 ∷ symbol (Ident) 140 141 ∷ symbol (Ident) 142 143 ∷ symbol (Ident) 144 151 ∷ symbol (Ident) 152 154 ∷ symbol (Ident) 155 156 ∷ symbol (Ident) 156 157 ∷ symbol (Ident) 158 161 ∷ symbol (Ident) 162 163 ∷ symbol (Ident) 163 164 ∷ symbol (Ident) 165 167 ∷ symbol (Ident) 167 168 ∷ symbol (Ident) 169 170 ∷ symbol (Ident) 170 171 ∷ symbol (Ident) 172 173 ∷ symbol (Ident) 173 174 ∷ symbol (Ident) 175 176 ∷ symbol (Ident) 176 177 ∷ symbol (Ident) 178 179 ∷ symbol (Ident) 179 180 ∷ symbol (Ident) 181 182 ∷ symbol (Ident) 182 183 ∷ symbol (Ident) 184 193 ∷ symbol (Ident) 194 195 ∷ symbol (Ident) 195 196 ∷ symbol (Ident) 196 199 ∷ symbol (Ident) 200 201 ∷ symbol (Ident) 201 202 ∷ symbol (Ident) 203 204 ∷ symbol (Ident) 204 205 ∷ symbol (Ident) 205 206 ∷ symbol (Ident) 207 210 ∷ symbol (Ident) 211 212 ∷ symbol (Ident) 212 213 ∷ symbol (Ident) 214 223 ∷ symbol (Ident) 224 226 ∷ symbol (Ident) 226 227 ∷ symbol (Ident) 227 230 ∷ symbol (Ident) 231 232 ∷ symbol (Ident) 232 233 ∷ symbol (Ident) 234 241 ∷ symbol (Ident) 241 242 ∷ symbol (Ident) 242 243 ∷ symbol (Ident) 244 247 ∷ symbol (Ident) 248 250 ∷ symbol (Ident) 250 251 ∷ symbol (Ident) 252 261 ∷ symbol (Ident) 262 264 ∷ symbol (Ident) 264 265 ∷ symbol (Ident) 265 268 ∷ symbol (Ident) 269 270 ∷ symbol (Ident) 270 271 ∷ symbol (Ident) 272 273 ∷ symbol (Ident) 273 274 ∷ symbol (Ident) 274 275 ∷ symbol (Ident) 276 279 ∷ symbol (Ident) 280 282 ∷ symbol (Ident) 282 283 ∷ symbol (Ident) 284 293 ∷ symbol (Ident) 294 295 ∷ symbol (Ident) 295 296 ∷ symbol (Ident) 296 297 ∷ symbol (Ident) 297 298 ∷ symbol (Ident) 299 300 ∷ symbol (Ident) 300 301 ∷ symbol (Ident) 301 302 ∷ symbol (Ident) 303 306 ∷ symbol (Ident) 307 308 ∷ symbol (Ident) 308 309 ∷ symbol (Ident) 310 315 ∷ symbol (Ident) 316 320 ∷ symbol (Ident) 321 322 ∷ symbol (Ident) 323 325 ∷ symbol (Ident) 326 327 ∷ symbol (Ident) 327 328 ∷ symbol (Ident) 329 332 ∷ symbol (Ident) 333 334 ∷ symbol (Ident) 335 337 ∷ symbol (Int (pos 0)) 338 339 ∷ symbol (Ident) 340 342 ∷ symbol (Int (pos 1)) 343 344 ∷ symbol (Ident) 345 347 ∷ symbol (Ident) 348 351 ∷ symbol (Ident) 352 355 ∷ symbol (Ident) 356 359 ∷ symbol (Ident) 360 361 ∷ symbol (Ident) 361 362 ∷ []) }; tree = record { module_word = 0; name = 1; semicolon = 0; imports = None; decls = (S.decls None (Some (record { type_word = 0; each = (record { name = (record { name = 4; star = None }); equal = 0; is = (S.Record 6 None (S.fields (record { first = (record { name = 7; star = None }); more = [] }) 0 (S.Named (record { name = 9; member = None }))) S.no_more_fields 0); semicolon = 0 } ∷ record { name = (record { name = 12; star = None }); equal = 0; is = (S.Record 14 (Some (record { left_paren = 0; name = (record { name = 16; member = None }); right_paren = 0 })) (S.fields (record { first = (record { name = 18; star = None }); more = [] }) 0 (S.Named (record { name = 20; member = None }))) S.no_more_fields 0); semicolon = 0 } ∷ record { name = (record { name = 23; star = None }); equal = 0; is = (S.Record 25 (Some (record { left_paren = 0; name = (record { name = 27; member = None }); right_paren = 0 })) (S.fields (record { first = (record { name = 29; star = None }); more = [] }) 0 (S.Named (record { name = 31; member = None }))) S.no_more_fields 0); semicolon = 0 } ∷ record { name = (record { name = 34; star = None }); equal = 0; is = (S.Pointer 36 0 (S.Named (record { name = 38; member = None }))); semicolon = 0 } ∷ record { name = (record { name = 40; star = None }); equal = 0; is = (S.Pointer 42 0 (S.Named (record { name = 44; member = None }))); semicolon = 0 } ∷ record { name = (record { name = 46; star = None }); equal = 0; is = (S.Pointer 48 0 (S.Named (record { name = 50; member = None }))); semicolon = 0 } ∷ []) })) (Some (record { var_word = 0; each = (record { names = (record { first = (record { name = 53; star = None }); more = (record { comma = 0; name = (record { name = 55; star = None }) } ∷ []) }); colon = 0; of = (S.Named (record { name = 57; member = None })); semicolon = 0 } ∷ record { names = (record { first = (record { name = 59; star = None }); more = [] }); colon = 0; of = (S.Named (record { name = 61; member = None })); semicolon = 0 } ∷ record { names = (record { first = (record { name = 63; star = None }); more = [] }); colon = 0; of = (S.Named (record { name = 65; member = None })); semicolon = 0 } ∷ []) })) (S.procedure 0 (record { name = 68; star = None }) (Some (record { left_paren = 0; sections = Some (record { first = (record { var_word = Some 0; first = 71; more = []; colon = 0; open_array = None; of = (record { name = 73; member = None }) }); more = [] }); right_paren = 0; result = None })) 0 (S.decls None None None S.no_procedure) None None 76 77 0 (S.procedure 0 (record { name = 80; star = None }) (Some (record { left_paren = 0; sections = Some (record { first = (record { var_word = Some 0; first = 83; more = []; colon = 0; open_array = None; of = (record { name = 85; member = None }) }); more = [] }); right_paren = 0; result = None })) 0 (S.decls None None None S.no_procedure) None None 88 89 0 (S.procedure 0 (record { name = 92; star = None }) (Some (record { left_paren = 0; sections = Some (record { first = (record { var_word = Some 0; first = 95; more = []; colon = 0; open_array = None; of = (record { name = 97; member = None }) }); more = [] }); right_paren = 0; result = None })) 0 (S.decls None None None S.no_procedure) None None 100 101 0 (S.procedure 0 (record { name = 104; star = None }) (Some (record { left_paren = 0; sections = Some (record { first = (record { var_word = None; first = 106; more = []; colon = 0; open_array = None; of = (record { name = 108; member = None }) }); more = [] }); right_paren = 0; result = None })) 0 (S.decls None None None S.no_procedure) None None 111 112 0 S.no_procedure))))); body = (Some (record { begin_word = 0; stats = (S.stats (S.Case 0 (S.only (S.simple None (S.term (S.Designated 116 S.no_selector) S.no_factor) S.no_term)) 0 (S.one_case (record { low = TheLabel.Named (record { name = 118; member = None }); high = None }) [] 0 (S.stats (S.For 0 121 0 (S.only (S.simple None (S.term (S.Int 123) S.no_factor) S.no_term)) 0 (S.only (S.simple None (S.term (S.Int 125) S.no_factor) S.no_term)) None 0 (S.stats S.Empty S.no_stat) 0) S.no_stat)) S.no_next_case 0) S.no_stat) })); end_word = 0; end_name = 130; period = 0 } }

pub narrow_16 : checked (narrow_16_0 ∷ []) ≡ Fault 0 31 333
narrow_16 = refl

-- MODULE M; VAR i: INTEGER; PROCEDURE F(VAR x: INTEGER; b: BOOLEAN); END F; BEGIN F(1, k) END M.
abbrev order_1_0 : Parsed
order_1_0 = record { source = record { bytes = (77 ∷ 79 ∷ 68 ∷ 85 ∷ 76 ∷ 69 ∷ 32 ∷ 77 ∷ 59 ∷ 32 ∷ 86 ∷ 65 ∷ 82 ∷ 32 ∷ 105 ∷ 58 ∷ 32 ∷ 73 ∷ 78 ∷ 84 ∷ 69 ∷ 71 ∷ 69 ∷ 82 ∷ 59 ∷ 32 ∷ 80 ∷ 82 ∷ 79 ∷ 67 ∷ 69 ∷ 68 ∷ 85 ∷ 82 ∷ 69 ∷ 32 ∷ 70 ∷ 40 ∷ 86 ∷ 65 ∷ 82 ∷ 32 ∷ 120 ∷ 58 ∷ 32 ∷ 73 ∷ 78 ∷ 84 ∷ 69 ∷ 71 ∷ 69 ∷ 82 ∷ 59 ∷ 32 ∷ 98 ∷ 58 ∷ 32 ∷ 66 ∷ 79 ∷ 79 ∷ 76 ∷ 69 ∷ 65 ∷ 78 ∷ 41 ∷ 59 ∷ 32 ∷ 69 ∷ 78 ∷ 68 ∷ 32 ∷ 70 ∷ 59 ∷ 32 ∷ 66 ∷ 69 ∷ 71 ∷ 73 ∷ 78 ∷ 32 ∷ 70 ∷ 40 ∷ 49 ∷ 44 ∷ 32 ∷ 107 ∷ 41 ∷ 32 ∷ 69 ∷ 78 ∷ 68 ∷ 32 ∷ 77 ∷ 46 ∷ []); symbols = (symbol (Ident) 0 6 ∷ symbol (Ident) 7 8 ∷ symbol (Ident) 8 9 ∷ symbol (Ident) 10 13 ∷ symbol (Ident) 14 15 ∷ symbol (Ident) 15 16 ∷ symbol (Ident) 17 24 ∷ symbol (Ident) 24 25 ∷ symbol (Ident) 26 35 ∷ symbol (Ident) 36 37 ∷ symbol (Ident) 37 38 ∷ symbol (Ident) 38 41 ∷ symbol (Ident) 42 43 ∷ symbol (Ident) 43 44 ∷ symbol (Ident) 45 52 ∷ symbol (Ident) 52 53 ∷ symbol (Ident) 54 55 ∷ symbol (Ident) 55 56 ∷ symbol (Ident) 57 64 ∷ symbol (Ident) 64 65 ∷ symbol (Ident) 65 66 ∷ symbol (Ident) 67 70 ∷ symbol (Ident) 71 72 ∷ symbol (Ident) 72 73 ∷ symbol (Ident) 74 79 ∷ symbol (Ident) 80 81 ∷ symbol (Ident) 81 82 ∷ symbol (Int (pos 1)) 82 83 ∷ symbol (Ident) 83 84 ∷ symbol (Ident) 85 86 ∷ symbol (Ident) 86 87 ∷ symbol (Ident) 88 91 ∷ symbol (Ident) 92 93 ∷ symbol (Ident) 93 94 ∷ []) }; tree = record { module_word = 0; name = 1; semicolon = 0; imports = None; decls = (S.decls None None (Some (record { var_word = 0; each = (record { names = (record { first = (record { name = 4; star = None }); more = [] }); colon = 0; of = (S.Named (record { name = 6; member = None })); semicolon = 0 } ∷ []) })) (S.procedure 0 (record { name = 9; star = None }) (Some (record { left_paren = 0; sections = Some (record { first = (record { var_word = Some 0; first = 12; more = []; colon = 0; open_array = None; of = (record { name = 14; member = None }) }); more = (record { semicolon = 0; section = (record { var_word = None; first = 16; more = []; colon = 0; open_array = None; of = (record { name = 18; member = None }) }) } ∷ []) }); right_paren = 0; result = None })) 0 (S.decls None None None S.no_procedure) None None 21 22 0 S.no_procedure)); body = (Some (record { begin_word = 0; stats = (S.stats (S.AssignOrCall (record { name = 25; selectors = (S.selected (S.Parens 0 (S.expressions (S.only (S.simple None (S.term (S.Int 27) S.no_factor) S.no_term)) (S.next_expression 0 (S.only (S.simple None (S.term (S.Designated 29 S.no_selector) S.no_factor) S.no_term)) S.no_expression)) 0) S.no_selector) }) None) S.no_stat) })); end_word = 0; end_name = 32; period = 0 } }

pub order_1 : checked (order_1_0 ∷ []) ≡ Fault 0 30 85
order_1 = refl

-- MODULE M; VAR i: INTEGER; PROCEDURE F(VAR x: INTEGER; b: BOOLEAN); END F; BEGIN F(1, 1) END M.
abbrev order_2_0 : Parsed
order_2_0 = record { source = record { bytes = (77 ∷ 79 ∷ 68 ∷ 85 ∷ 76 ∷ 69 ∷ 32 ∷ 77 ∷ 59 ∷ 32 ∷ 86 ∷ 65 ∷ 82 ∷ 32 ∷ 105 ∷ 58 ∷ 32 ∷ 73 ∷ 78 ∷ 84 ∷ 69 ∷ 71 ∷ 69 ∷ 82 ∷ 59 ∷ 32 ∷ 80 ∷ 82 ∷ 79 ∷ 67 ∷ 69 ∷ 68 ∷ 85 ∷ 82 ∷ 69 ∷ 32 ∷ 70 ∷ 40 ∷ 86 ∷ 65 ∷ 82 ∷ 32 ∷ 120 ∷ 58 ∷ 32 ∷ 73 ∷ 78 ∷ 84 ∷ 69 ∷ 71 ∷ 69 ∷ 82 ∷ 59 ∷ 32 ∷ 98 ∷ 58 ∷ 32 ∷ 66 ∷ 79 ∷ 79 ∷ 76 ∷ 69 ∷ 65 ∷ 78 ∷ 41 ∷ 59 ∷ 32 ∷ 69 ∷ 78 ∷ 68 ∷ 32 ∷ 70 ∷ 59 ∷ 32 ∷ 66 ∷ 69 ∷ 71 ∷ 73 ∷ 78 ∷ 32 ∷ 70 ∷ 40 ∷ 49 ∷ 44 ∷ 32 ∷ 49 ∷ 41 ∷ 32 ∷ 69 ∷ 78 ∷ 68 ∷ 32 ∷ 77 ∷ 46 ∷ []); symbols = (symbol (Ident) 0 6 ∷ symbol (Ident) 7 8 ∷ symbol (Ident) 8 9 ∷ symbol (Ident) 10 13 ∷ symbol (Ident) 14 15 ∷ symbol (Ident) 15 16 ∷ symbol (Ident) 17 24 ∷ symbol (Ident) 24 25 ∷ symbol (Ident) 26 35 ∷ symbol (Ident) 36 37 ∷ symbol (Ident) 37 38 ∷ symbol (Ident) 38 41 ∷ symbol (Ident) 42 43 ∷ symbol (Ident) 43 44 ∷ symbol (Ident) 45 52 ∷ symbol (Ident) 52 53 ∷ symbol (Ident) 54 55 ∷ symbol (Ident) 55 56 ∷ symbol (Ident) 57 64 ∷ symbol (Ident) 64 65 ∷ symbol (Ident) 65 66 ∷ symbol (Ident) 67 70 ∷ symbol (Ident) 71 72 ∷ symbol (Ident) 72 73 ∷ symbol (Ident) 74 79 ∷ symbol (Ident) 80 81 ∷ symbol (Ident) 81 82 ∷ symbol (Int (pos 1)) 82 83 ∷ symbol (Ident) 83 84 ∷ symbol (Int (pos 1)) 85 86 ∷ symbol (Ident) 86 87 ∷ symbol (Ident) 88 91 ∷ symbol (Ident) 92 93 ∷ symbol (Ident) 93 94 ∷ []) }; tree = record { module_word = 0; name = 1; semicolon = 0; imports = None; decls = (S.decls None None (Some (record { var_word = 0; each = (record { names = (record { first = (record { name = 4; star = None }); more = [] }); colon = 0; of = (S.Named (record { name = 6; member = None })); semicolon = 0 } ∷ []) })) (S.procedure 0 (record { name = 9; star = None }) (Some (record { left_paren = 0; sections = Some (record { first = (record { var_word = Some 0; first = 12; more = []; colon = 0; open_array = None; of = (record { name = 14; member = None }) }); more = (record { semicolon = 0; section = (record { var_word = None; first = 16; more = []; colon = 0; open_array = None; of = (record { name = 18; member = None }) }) } ∷ []) }); right_paren = 0; result = None })) 0 (S.decls None None None S.no_procedure) None None 21 22 0 S.no_procedure)); body = (Some (record { begin_word = 0; stats = (S.stats (S.AssignOrCall (record { name = 25; selectors = (S.selected (S.Parens 0 (S.expressions (S.only (S.simple None (S.term (S.Int 27) S.no_factor) S.no_term)) (S.next_expression 0 (S.only (S.simple None (S.term (S.Int 29) S.no_factor) S.no_term)) S.no_expression)) 0) S.no_selector) }) None) S.no_stat) })); end_word = 0; end_name = 32; period = 0 } }

pub order_2 : checked (order_2_0 ∷ []) ≡ Fault 0 40 82
order_2 = refl

-- MODULE M; VAR i: INTEGER; PROCEDURE F(VAR x: INTEGER; b: BOOLEAN); END F; BEGIN F(i, 1) END M.
abbrev order_3_0 : Parsed
order_3_0 = record { source = record { bytes = (77 ∷ 79 ∷ 68 ∷ 85 ∷ 76 ∷ 69 ∷ 32 ∷ 77 ∷ 59 ∷ 32 ∷ 86 ∷ 65 ∷ 82 ∷ 32 ∷ 105 ∷ 58 ∷ 32 ∷ 73 ∷ 78 ∷ 84 ∷ 69 ∷ 71 ∷ 69 ∷ 82 ∷ 59 ∷ 32 ∷ 80 ∷ 82 ∷ 79 ∷ 67 ∷ 69 ∷ 68 ∷ 85 ∷ 82 ∷ 69 ∷ 32 ∷ 70 ∷ 40 ∷ 86 ∷ 65 ∷ 82 ∷ 32 ∷ 120 ∷ 58 ∷ 32 ∷ 73 ∷ 78 ∷ 84 ∷ 69 ∷ 71 ∷ 69 ∷ 82 ∷ 59 ∷ 32 ∷ 98 ∷ 58 ∷ 32 ∷ 66 ∷ 79 ∷ 79 ∷ 76 ∷ 69 ∷ 65 ∷ 78 ∷ 41 ∷ 59 ∷ 32 ∷ 69 ∷ 78 ∷ 68 ∷ 32 ∷ 70 ∷ 59 ∷ 32 ∷ 66 ∷ 69 ∷ 71 ∷ 73 ∷ 78 ∷ 32 ∷ 70 ∷ 40 ∷ 105 ∷ 44 ∷ 32 ∷ 49 ∷ 41 ∷ 32 ∷ 69 ∷ 78 ∷ 68 ∷ 32 ∷ 77 ∷ 46 ∷ []); symbols = (symbol (Ident) 0 6 ∷ symbol (Ident) 7 8 ∷ symbol (Ident) 8 9 ∷ symbol (Ident) 10 13 ∷ symbol (Ident) 14 15 ∷ symbol (Ident) 15 16 ∷ symbol (Ident) 17 24 ∷ symbol (Ident) 24 25 ∷ symbol (Ident) 26 35 ∷ symbol (Ident) 36 37 ∷ symbol (Ident) 37 38 ∷ symbol (Ident) 38 41 ∷ symbol (Ident) 42 43 ∷ symbol (Ident) 43 44 ∷ symbol (Ident) 45 52 ∷ symbol (Ident) 52 53 ∷ symbol (Ident) 54 55 ∷ symbol (Ident) 55 56 ∷ symbol (Ident) 57 64 ∷ symbol (Ident) 64 65 ∷ symbol (Ident) 65 66 ∷ symbol (Ident) 67 70 ∷ symbol (Ident) 71 72 ∷ symbol (Ident) 72 73 ∷ symbol (Ident) 74 79 ∷ symbol (Ident) 80 81 ∷ symbol (Ident) 81 82 ∷ symbol (Ident) 82 83 ∷ symbol (Ident) 83 84 ∷ symbol (Int (pos 1)) 85 86 ∷ symbol (Ident) 86 87 ∷ symbol (Ident) 88 91 ∷ symbol (Ident) 92 93 ∷ symbol (Ident) 93 94 ∷ []) }; tree = record { module_word = 0; name = 1; semicolon = 0; imports = None; decls = (S.decls None None (Some (record { var_word = 0; each = (record { names = (record { first = (record { name = 4; star = None }); more = [] }); colon = 0; of = (S.Named (record { name = 6; member = None })); semicolon = 0 } ∷ []) })) (S.procedure 0 (record { name = 9; star = None }) (Some (record { left_paren = 0; sections = Some (record { first = (record { var_word = Some 0; first = 12; more = []; colon = 0; open_array = None; of = (record { name = 14; member = None }) }); more = (record { semicolon = 0; section = (record { var_word = None; first = 16; more = []; colon = 0; open_array = None; of = (record { name = 18; member = None }) }) } ∷ []) }); right_paren = 0; result = None })) 0 (S.decls None None None S.no_procedure) None None 21 22 0 S.no_procedure)); body = (Some (record { begin_word = 0; stats = (S.stats (S.AssignOrCall (record { name = 25; selectors = (S.selected (S.Parens 0 (S.expressions (S.only (S.simple None (S.term (S.Designated 27 S.no_selector) S.no_factor) S.no_term)) (S.next_expression 0 (S.only (S.simple None (S.term (S.Int 29) S.no_factor) S.no_term)) S.no_expression)) 0) S.no_selector) }) None) S.no_stat) })); end_word = 0; end_name = 32; period = 0 } }

pub order_3 : checked (order_3_0 ∷ []) ≡ Fault 0 31 85
order_3 = refl

-- MODULE M; VAR i: INTEGER; PROCEDURE F(x: BOOLEAN; VAR b: INTEGER); END F; BEGIN F(1, 2) END M.
abbrev order_4_0 : Parsed
order_4_0 = record { source = record { bytes = (77 ∷ 79 ∷ 68 ∷ 85 ∷ 76 ∷ 69 ∷ 32 ∷ 77 ∷ 59 ∷ 32 ∷ 86 ∷ 65 ∷ 82 ∷ 32 ∷ 105 ∷ 58 ∷ 32 ∷ 73 ∷ 78 ∷ 84 ∷ 69 ∷ 71 ∷ 69 ∷ 82 ∷ 59 ∷ 32 ∷ 80 ∷ 82 ∷ 79 ∷ 67 ∷ 69 ∷ 68 ∷ 85 ∷ 82 ∷ 69 ∷ 32 ∷ 70 ∷ 40 ∷ 120 ∷ 58 ∷ 32 ∷ 66 ∷ 79 ∷ 79 ∷ 76 ∷ 69 ∷ 65 ∷ 78 ∷ 59 ∷ 32 ∷ 86 ∷ 65 ∷ 82 ∷ 32 ∷ 98 ∷ 58 ∷ 32 ∷ 73 ∷ 78 ∷ 84 ∷ 69 ∷ 71 ∷ 69 ∷ 82 ∷ 41 ∷ 59 ∷ 32 ∷ 69 ∷ 78 ∷ 68 ∷ 32 ∷ 70 ∷ 59 ∷ 32 ∷ 66 ∷ 69 ∷ 71 ∷ 73 ∷ 78 ∷ 32 ∷ 70 ∷ 40 ∷ 49 ∷ 44 ∷ 32 ∷ 50 ∷ 41 ∷ 32 ∷ 69 ∷ 78 ∷ 68 ∷ 32 ∷ 77 ∷ 46 ∷ []); symbols = (symbol (Ident) 0 6 ∷ symbol (Ident) 7 8 ∷ symbol (Ident) 8 9 ∷ symbol (Ident) 10 13 ∷ symbol (Ident) 14 15 ∷ symbol (Ident) 15 16 ∷ symbol (Ident) 17 24 ∷ symbol (Ident) 24 25 ∷ symbol (Ident) 26 35 ∷ symbol (Ident) 36 37 ∷ symbol (Ident) 37 38 ∷ symbol (Ident) 38 39 ∷ symbol (Ident) 39 40 ∷ symbol (Ident) 41 48 ∷ symbol (Ident) 48 49 ∷ symbol (Ident) 50 53 ∷ symbol (Ident) 54 55 ∷ symbol (Ident) 55 56 ∷ symbol (Ident) 57 64 ∷ symbol (Ident) 64 65 ∷ symbol (Ident) 65 66 ∷ symbol (Ident) 67 70 ∷ symbol (Ident) 71 72 ∷ symbol (Ident) 72 73 ∷ symbol (Ident) 74 79 ∷ symbol (Ident) 80 81 ∷ symbol (Ident) 81 82 ∷ symbol (Int (pos 1)) 82 83 ∷ symbol (Ident) 83 84 ∷ symbol (Int (pos 2)) 85 86 ∷ symbol (Ident) 86 87 ∷ symbol (Ident) 88 91 ∷ symbol (Ident) 92 93 ∷ symbol (Ident) 93 94 ∷ []) }; tree = record { module_word = 0; name = 1; semicolon = 0; imports = None; decls = (S.decls None None (Some (record { var_word = 0; each = (record { names = (record { first = (record { name = 4; star = None }); more = [] }); colon = 0; of = (S.Named (record { name = 6; member = None })); semicolon = 0 } ∷ []) })) (S.procedure 0 (record { name = 9; star = None }) (Some (record { left_paren = 0; sections = Some (record { first = (record { var_word = None; first = 11; more = []; colon = 0; open_array = None; of = (record { name = 13; member = None }) }); more = (record { semicolon = 0; section = (record { var_word = Some 0; first = 16; more = []; colon = 0; open_array = None; of = (record { name = 18; member = None }) }) } ∷ []) }); right_paren = 0; result = None })) 0 (S.decls None None None S.no_procedure) None None 21 22 0 S.no_procedure)); body = (Some (record { begin_word = 0; stats = (S.stats (S.AssignOrCall (record { name = 25; selectors = (S.selected (S.Parens 0 (S.expressions (S.only (S.simple None (S.term (S.Int 27) S.no_factor) S.no_term)) (S.next_expression 0 (S.only (S.simple None (S.term (S.Int 29) S.no_factor) S.no_term)) S.no_expression)) 0) S.no_selector) }) None) S.no_stat) })); end_word = 0; end_name = 32; period = 0 } }

pub order_4 : checked (order_4_0 ∷ []) ≡ Fault 0 31 82
order_4 = refl

-- MODULE M; CONST c = 3; BEGIN c := k END M.
abbrev order_5_0 : Parsed
order_5_0 = record { source = record { bytes = (77 ∷ 79 ∷ 68 ∷ 85 ∷ 76 ∷ 69 ∷ 32 ∷ 77 ∷ 59 ∷ 32 ∷ 67 ∷ 79 ∷ 78 ∷ 83 ∷ 84 ∷ 32 ∷ 99 ∷ 32 ∷ 61 ∷ 32 ∷ 51 ∷ 59 ∷ 32 ∷ 66 ∷ 69 ∷ 71 ∷ 73 ∷ 78 ∷ 32 ∷ 99 ∷ 32 ∷ 58 ∷ 61 ∷ 32 ∷ 107 ∷ 32 ∷ 69 ∷ 78 ∷ 68 ∷ 32 ∷ 77 ∷ 46 ∷ []); symbols = (symbol (Ident) 0 6 ∷ symbol (Ident) 7 8 ∷ symbol (Ident) 8 9 ∷ symbol (Ident) 10 15 ∷ symbol (Ident) 16 17 ∷ symbol (Ident) 18 19 ∷ symbol (Int (pos 3)) 20 21 ∷ symbol (Ident) 21 22 ∷ symbol (Ident) 23 28 ∷ symbol (Ident) 29 30 ∷ symbol (Ident) 31 33 ∷ symbol (Ident) 34 35 ∷ symbol (Ident) 36 39 ∷ symbol (Ident) 40 41 ∷ symbol (Ident) 41 42 ∷ []) }; tree = record { module_word = 0; name = 1; semicolon = 0; imports = None; decls = (S.decls (Some (record { const_word = 0; each = (record { name = (record { name = 4; star = None }); equal = 0; value = (S.only (S.simple None (S.term (S.Int 6) S.no_factor) S.no_term)); semicolon = 0 } ∷ []) })) None None S.no_procedure); body = (Some (record { begin_word = 0; stats = (S.stats (S.AssignOrCall (record { name = 9; selectors = S.no_selector }) (Some (record { becomes = 0; value = (S.only (S.simple None (S.term (S.Designated 11 S.no_selector) S.no_factor) S.no_term)) }))) S.no_stat) })); end_word = 0; end_name = 13; period = 0 } }

pub order_5 : checked (order_5_0 ∷ []) ≡ Fault 0 30 34
order_5 = refl

-- MODULE M; CONST c = 3; BEGIN c := 1 END M.
abbrev order_6_0 : Parsed
order_6_0 = record { source = record { bytes = (77 ∷ 79 ∷ 68 ∷ 85 ∷ 76 ∷ 69 ∷ 32 ∷ 77 ∷ 59 ∷ 32 ∷ 67 ∷ 79 ∷ 78 ∷ 83 ∷ 84 ∷ 32 ∷ 99 ∷ 32 ∷ 61 ∷ 32 ∷ 51 ∷ 59 ∷ 32 ∷ 66 ∷ 69 ∷ 71 ∷ 73 ∷ 78 ∷ 32 ∷ 99 ∷ 32 ∷ 58 ∷ 61 ∷ 32 ∷ 49 ∷ 32 ∷ 69 ∷ 78 ∷ 68 ∷ 32 ∷ 77 ∷ 46 ∷ []); symbols = (symbol (Ident) 0 6 ∷ symbol (Ident) 7 8 ∷ symbol (Ident) 8 9 ∷ symbol (Ident) 10 15 ∷ symbol (Ident) 16 17 ∷ symbol (Ident) 18 19 ∷ symbol (Int (pos 3)) 20 21 ∷ symbol (Ident) 21 22 ∷ symbol (Ident) 23 28 ∷ symbol (Ident) 29 30 ∷ symbol (Ident) 31 33 ∷ symbol (Int (pos 1)) 34 35 ∷ symbol (Ident) 36 39 ∷ symbol (Ident) 40 41 ∷ symbol (Ident) 41 42 ∷ []) }; tree = record { module_word = 0; name = 1; semicolon = 0; imports = None; decls = (S.decls (Some (record { const_word = 0; each = (record { name = (record { name = 4; star = None }); equal = 0; value = (S.only (S.simple None (S.term (S.Int 6) S.no_factor) S.no_term)); semicolon = 0 } ∷ []) })) None None S.no_procedure); body = (Some (record { begin_word = 0; stats = (S.stats (S.AssignOrCall (record { name = 9; selectors = S.no_selector }) (Some (record { becomes = 0; value = (S.only (S.simple None (S.term (S.Int 11) S.no_factor) S.no_term)) }))) S.no_stat) })); end_word = 0; end_name = 13; period = 0 } }

pub order_6 : checked (order_6_0 ∷ []) ≡ Fault 0 31 29
order_6 = refl

-- MODULE M; VAR i: INTEGER; BEGIN i := k[1] END M.
abbrev order_7_0 : Parsed
order_7_0 = record { source = record { bytes = (77 ∷ 79 ∷ 68 ∷ 85 ∷ 76 ∷ 69 ∷ 32 ∷ 77 ∷ 59 ∷ 32 ∷ 86 ∷ 65 ∷ 82 ∷ 32 ∷ 105 ∷ 58 ∷ 32 ∷ 73 ∷ 78 ∷ 84 ∷ 69 ∷ 71 ∷ 69 ∷ 82 ∷ 59 ∷ 32 ∷ 66 ∷ 69 ∷ 71 ∷ 73 ∷ 78 ∷ 32 ∷ 105 ∷ 32 ∷ 58 ∷ 61 ∷ 32 ∷ 107 ∷ 91 ∷ 49 ∷ 93 ∷ 32 ∷ 69 ∷ 78 ∷ 68 ∷ 32 ∷ 77 ∷ 46 ∷ []); symbols = (symbol (Ident) 0 6 ∷ symbol (Ident) 7 8 ∷ symbol (Ident) 8 9 ∷ symbol (Ident) 10 13 ∷ symbol (Ident) 14 15 ∷ symbol (Ident) 15 16 ∷ symbol (Ident) 17 24 ∷ symbol (Ident) 24 25 ∷ symbol (Ident) 26 31 ∷ symbol (Ident) 32 33 ∷ symbol (Ident) 34 36 ∷ symbol (Ident) 37 38 ∷ symbol (Ident) 38 39 ∷ symbol (Int (pos 1)) 39 40 ∷ symbol (Ident) 40 41 ∷ symbol (Ident) 42 45 ∷ symbol (Ident) 46 47 ∷ symbol (Ident) 47 48 ∷ []) }; tree = record { module_word = 0; name = 1; semicolon = 0; imports = None; decls = (S.decls None None (Some (record { var_word = 0; each = (record { names = (record { first = (record { name = 4; star = None }); more = [] }); colon = 0; of = (S.Named (record { name = 6; member = None })); semicolon = 0 } ∷ []) })) S.no_procedure); body = (Some (record { begin_word = 0; stats = (S.stats (S.AssignOrCall (record { name = 9; selectors = S.no_selector }) (Some (record { becomes = 0; value = (S.only (S.simple None (S.term (S.Designated 11 (S.selected (S.Index 0 (S.expressions (S.only (S.simple None (S.term (S.Int 13) S.no_factor) S.no_term)) S.no_expression) 0) S.no_selector)) S.no_factor) S.no_term)) }))) S.no_stat) })); end_word = 0; end_name = 16; period = 0 } }

pub order_7 : checked (order_7_0 ∷ []) ≡ Fault 0 30 37
order_7 = refl

-- MODULE M; VAR a: ARRAY 3 OF CHAR; BEGIN a[TRUE] := k END M.
abbrev order_8_0 : Parsed
order_8_0 = record { source = record { bytes = (77 ∷ 79 ∷ 68 ∷ 85 ∷ 76 ∷ 69 ∷ 32 ∷ 77 ∷ 59 ∷ 32 ∷ 86 ∷ 65 ∷ 82 ∷ 32 ∷ 97 ∷ 58 ∷ 32 ∷ 65 ∷ 82 ∷ 82 ∷ 65 ∷ 89 ∷ 32 ∷ 51 ∷ 32 ∷ 79 ∷ 70 ∷ 32 ∷ 67 ∷ 72 ∷ 65 ∷ 82 ∷ 59 ∷ 32 ∷ 66 ∷ 69 ∷ 71 ∷ 73 ∷ 78 ∷ 32 ∷ 97 ∷ 91 ∷ 84 ∷ 82 ∷ 85 ∷ 69 ∷ 93 ∷ 32 ∷ 58 ∷ 61 ∷ 32 ∷ 107 ∷ 32 ∷ 69 ∷ 78 ∷ 68 ∷ 32 ∷ 77 ∷ 46 ∷ []); symbols = (symbol (Ident) 0 6 ∷ symbol (Ident) 7 8 ∷ symbol (Ident) 8 9 ∷ symbol (Ident) 10 13 ∷ symbol (Ident) 14 15 ∷ symbol (Ident) 15 16 ∷ symbol (Ident) 17 22 ∷ symbol (Int (pos 3)) 23 24 ∷ symbol (Ident) 25 27 ∷ symbol (Ident) 28 32 ∷ symbol (Ident) 32 33 ∷ symbol (Ident) 34 39 ∷ symbol (Ident) 40 41 ∷ symbol (Ident) 41 42 ∷ symbol (Ident) 42 46 ∷ symbol (Ident) 46 47 ∷ symbol (Ident) 48 50 ∷ symbol (Ident) 51 52 ∷ symbol (Ident) 53 56 ∷ symbol (Ident) 57 58 ∷ symbol (Ident) 58 59 ∷ []) }; tree = record { module_word = 0; name = 1; semicolon = 0; imports = None; decls = (S.decls None None (Some (record { var_word = 0; each = (record { names = (record { first = (record { name = 4; star = None }); more = [] }); colon = 0; of = (S.Array 6 (S.only (S.simple None (S.term (S.Int 7) S.no_factor) S.no_term)) S.no_expression 0 (S.Named (record { name = 9; member = None }))); semicolon = 0 } ∷ []) })) S.no_procedure); body = (Some (record { begin_word = 0; stats = (S.stats (S.AssignOrCall (record { name = 12; selectors = (S.selected (S.Index 0 (S.expressions (S.only (S.simple None (S.term (S.True 14) S.no_factor) S.no_term)) S.no_expression) 0) S.no_selector) }) (Some (record { becomes = 0; value = (S.only (S.simple None (S.term (S.Designated 17 S.no_selector) S.no_factor) S.no_term)) }))) S.no_stat) })); end_word = 0; end_name = 19; period = 0 } }

pub order_8 : checked (order_8_0 ∷ []) ≡ Fault 0 31 42
order_8 = refl

-- MODULE M; VAR i: INTEGER; BEGIN i[k] := 1 END M.
abbrev order_9_0 : Parsed
order_9_0 = record { source = record { bytes = (77 ∷ 79 ∷ 68 ∷ 85 ∷ 76 ∷ 69 ∷ 32 ∷ 77 ∷ 59 ∷ 32 ∷ 86 ∷ 65 ∷ 82 ∷ 32 ∷ 105 ∷ 58 ∷ 32 ∷ 73 ∷ 78 ∷ 84 ∷ 69 ∷ 71 ∷ 69 ∷ 82 ∷ 59 ∷ 32 ∷ 66 ∷ 69 ∷ 71 ∷ 73 ∷ 78 ∷ 32 ∷ 105 ∷ 91 ∷ 107 ∷ 93 ∷ 32 ∷ 58 ∷ 61 ∷ 32 ∷ 49 ∷ 32 ∷ 69 ∷ 78 ∷ 68 ∷ 32 ∷ 77 ∷ 46 ∷ []); symbols = (symbol (Ident) 0 6 ∷ symbol (Ident) 7 8 ∷ symbol (Ident) 8 9 ∷ symbol (Ident) 10 13 ∷ symbol (Ident) 14 15 ∷ symbol (Ident) 15 16 ∷ symbol (Ident) 17 24 ∷ symbol (Ident) 24 25 ∷ symbol (Ident) 26 31 ∷ symbol (Ident) 32 33 ∷ symbol (Ident) 33 34 ∷ symbol (Ident) 34 35 ∷ symbol (Ident) 35 36 ∷ symbol (Ident) 37 39 ∷ symbol (Int (pos 1)) 40 41 ∷ symbol (Ident) 42 45 ∷ symbol (Ident) 46 47 ∷ symbol (Ident) 47 48 ∷ []) }; tree = record { module_word = 0; name = 1; semicolon = 0; imports = None; decls = (S.decls None None (Some (record { var_word = 0; each = (record { names = (record { first = (record { name = 4; star = None }); more = [] }); colon = 0; of = (S.Named (record { name = 6; member = None })); semicolon = 0 } ∷ []) })) S.no_procedure); body = (Some (record { begin_word = 0; stats = (S.stats (S.AssignOrCall (record { name = 9; selectors = (S.selected (S.Index 0 (S.expressions (S.only (S.simple None (S.term (S.Designated 11 S.no_selector) S.no_factor) S.no_term)) S.no_expression) 0) S.no_selector) }) (Some (record { becomes = 0; value = (S.only (S.simple None (S.term (S.Int 14) S.no_factor) S.no_term)) }))) S.no_stat) })); end_word = 0; end_name = 16; period = 0 } }

pub order_9 : checked (order_9_0 ∷ []) ≡ Fault 0 30 34
order_9 = refl

-- MODULE M; VAR c: CHAR; BEGIN FOR c := k TO 1 DO END END M.
abbrev order_10_0 : Parsed
order_10_0 = record { source = record { bytes = (77 ∷ 79 ∷ 68 ∷ 85 ∷ 76 ∷ 69 ∷ 32 ∷ 77 ∷ 59 ∷ 32 ∷ 86 ∷ 65 ∷ 82 ∷ 32 ∷ 99 ∷ 58 ∷ 32 ∷ 67 ∷ 72 ∷ 65 ∷ 82 ∷ 59 ∷ 32 ∷ 66 ∷ 69 ∷ 71 ∷ 73 ∷ 78 ∷ 32 ∷ 70 ∷ 79 ∷ 82 ∷ 32 ∷ 99 ∷ 32 ∷ 58 ∷ 61 ∷ 32 ∷ 107 ∷ 32 ∷ 84 ∷ 79 ∷ 32 ∷ 49 ∷ 32 ∷ 68 ∷ 79 ∷ 32 ∷ 69 ∷ 78 ∷ 68 ∷ 32 ∷ 69 ∷ 78 ∷ 68 ∷ 32 ∷ 77 ∷ 46 ∷ []); symbols = (symbol (Ident) 0 6 ∷ symbol (Ident) 7 8 ∷ symbol (Ident) 8 9 ∷ symbol (Ident) 10 13 ∷ symbol (Ident) 14 15 ∷ symbol (Ident) 15 16 ∷ symbol (Ident) 17 21 ∷ symbol (Ident) 21 22 ∷ symbol (Ident) 23 28 ∷ symbol (Ident) 29 32 ∷ symbol (Ident) 33 34 ∷ symbol (Ident) 35 37 ∷ symbol (Ident) 38 39 ∷ symbol (Ident) 40 42 ∷ symbol (Int (pos 1)) 43 44 ∷ symbol (Ident) 45 47 ∷ symbol (Ident) 48 51 ∷ symbol (Ident) 52 55 ∷ symbol (Ident) 56 57 ∷ symbol (Ident) 57 58 ∷ []) }; tree = record { module_word = 0; name = 1; semicolon = 0; imports = None; decls = (S.decls None None (Some (record { var_word = 0; each = (record { names = (record { first = (record { name = 4; star = None }); more = [] }); colon = 0; of = (S.Named (record { name = 6; member = None })); semicolon = 0 } ∷ []) })) S.no_procedure); body = (Some (record { begin_word = 0; stats = (S.stats (S.For 0 10 0 (S.only (S.simple None (S.term (S.Designated 12 S.no_selector) S.no_factor) S.no_term)) 0 (S.only (S.simple None (S.term (S.Int 14) S.no_factor) S.no_term)) None 0 (S.stats S.Empty S.no_stat) 0) S.no_stat) })); end_word = 0; end_name = 18; period = 0 } }

pub order_10 : checked (order_10_0 ∷ []) ≡ Fault 0 30 38
order_10 = refl

-- MODULE M; VAR i: INTEGER; BEGIN FOR i := TRUE TO k DO END END M.
abbrev order_11_0 : Parsed
order_11_0 = record { source = record { bytes = (77 ∷ 79 ∷ 68 ∷ 85 ∷ 76 ∷ 69 ∷ 32 ∷ 77 ∷ 59 ∷ 32 ∷ 86 ∷ 65 ∷ 82 ∷ 32 ∷ 105 ∷ 58 ∷ 32 ∷ 73 ∷ 78 ∷ 84 ∷ 69 ∷ 71 ∷ 69 ∷ 82 ∷ 59 ∷ 32 ∷ 66 ∷ 69 ∷ 71 ∷ 73 ∷ 78 ∷ 32 ∷ 70 ∷ 79 ∷ 82 ∷ 32 ∷ 105 ∷ 32 ∷ 58 ∷ 61 ∷ 32 ∷ 84 ∷ 82 ∷ 85 ∷ 69 ∷ 32 ∷ 84 ∷ 79 ∷ 32 ∷ 107 ∷ 32 ∷ 68 ∷ 79 ∷ 32 ∷ 69 ∷ 78 ∷ 68 ∷ 32 ∷ 69 ∷ 78 ∷ 68 ∷ 32 ∷ 77 ∷ 46 ∷ []); symbols = (symbol (Ident) 0 6 ∷ symbol (Ident) 7 8 ∷ symbol (Ident) 8 9 ∷ symbol (Ident) 10 13 ∷ symbol (Ident) 14 15 ∷ symbol (Ident) 15 16 ∷ symbol (Ident) 17 24 ∷ symbol (Ident) 24 25 ∷ symbol (Ident) 26 31 ∷ symbol (Ident) 32 35 ∷ symbol (Ident) 36 37 ∷ symbol (Ident) 38 40 ∷ symbol (Ident) 41 45 ∷ symbol (Ident) 46 48 ∷ symbol (Ident) 49 50 ∷ symbol (Ident) 51 53 ∷ symbol (Ident) 54 57 ∷ symbol (Ident) 58 61 ∷ symbol (Ident) 62 63 ∷ symbol (Ident) 63 64 ∷ []) }; tree = record { module_word = 0; name = 1; semicolon = 0; imports = None; decls = (S.decls None None (Some (record { var_word = 0; each = (record { names = (record { first = (record { name = 4; star = None }); more = [] }); colon = 0; of = (S.Named (record { name = 6; member = None })); semicolon = 0 } ∷ []) })) S.no_procedure); body = (Some (record { begin_word = 0; stats = (S.stats (S.For 0 10 0 (S.only (S.simple None (S.term (S.True 12) S.no_factor) S.no_term)) 0 (S.only (S.simple None (S.term (S.Designated 14 S.no_selector) S.no_factor) S.no_term)) None 0 (S.stats S.Empty S.no_stat) 0) S.no_stat) })); end_word = 0; end_name = 18; period = 0 } }

pub order_11 : checked (order_11_0 ∷ []) ≡ Fault 0 31 41
order_11 = refl

-- MODULE M; VAR i: INTEGER; BEGIN FOR i := 0 TO 1 BY 0 DO k := 1 END END M.
abbrev order_12_0 : Parsed
order_12_0 = record { source = record { bytes = (77 ∷ 79 ∷ 68 ∷ 85 ∷ 76 ∷ 69 ∷ 32 ∷ 77 ∷ 59 ∷ 32 ∷ 86 ∷ 65 ∷ 82 ∷ 32 ∷ 105 ∷ 58 ∷ 32 ∷ 73 ∷ 78 ∷ 84 ∷ 69 ∷ 71 ∷ 69 ∷ 82 ∷ 59 ∷ 32 ∷ 66 ∷ 69 ∷ 71 ∷ 73 ∷ 78 ∷ 32 ∷ 70 ∷ 79 ∷ 82 ∷ 32 ∷ 105 ∷ 32 ∷ 58 ∷ 61 ∷ 32 ∷ 48 ∷ 32 ∷ 84 ∷ 79 ∷ 32 ∷ 49 ∷ 32 ∷ 66 ∷ 89 ∷ 32 ∷ 48 ∷ 32 ∷ 68 ∷ 79 ∷ 32 ∷ 107 ∷ 32 ∷ 58 ∷ 61 ∷ 32 ∷ 49 ∷ 32 ∷ 69 ∷ 78 ∷ 68 ∷ 32 ∷ 69 ∷ 78 ∷ 68 ∷ 32 ∷ 77 ∷ 46 ∷ []); symbols = (symbol (Ident) 0 6 ∷ symbol (Ident) 7 8 ∷ symbol (Ident) 8 9 ∷ symbol (Ident) 10 13 ∷ symbol (Ident) 14 15 ∷ symbol (Ident) 15 16 ∷ symbol (Ident) 17 24 ∷ symbol (Ident) 24 25 ∷ symbol (Ident) 26 31 ∷ symbol (Ident) 32 35 ∷ symbol (Ident) 36 37 ∷ symbol (Ident) 38 40 ∷ symbol (Int (pos 0)) 41 42 ∷ symbol (Ident) 43 45 ∷ symbol (Int (pos 1)) 46 47 ∷ symbol (Ident) 48 50 ∷ symbol (Int (pos 0)) 51 52 ∷ symbol (Ident) 53 55 ∷ symbol (Ident) 56 57 ∷ symbol (Ident) 58 60 ∷ symbol (Int (pos 1)) 61 62 ∷ symbol (Ident) 63 66 ∷ symbol (Ident) 67 70 ∷ symbol (Ident) 71 72 ∷ symbol (Ident) 72 73 ∷ []) }; tree = record { module_word = 0; name = 1; semicolon = 0; imports = None; decls = (S.decls None None (Some (record { var_word = 0; each = (record { names = (record { first = (record { name = 4; star = None }); more = [] }); colon = 0; of = (S.Named (record { name = 6; member = None })); semicolon = 0 } ∷ []) })) S.no_procedure); body = (Some (record { begin_word = 0; stats = (S.stats (S.For 0 10 0 (S.only (S.simple None (S.term (S.Int 12) S.no_factor) S.no_term)) 0 (S.only (S.simple None (S.term (S.Int 14) S.no_factor) S.no_term)) (Some (record { by_word = 0; step = (S.only (S.simple None (S.term (S.Int 16) S.no_factor) S.no_term)) })) 0 (S.stats (S.AssignOrCall (record { name = 18; selectors = S.no_selector }) (Some (record { becomes = 0; value = (S.only (S.simple None (S.term (S.Int 20) S.no_factor) S.no_term)) }))) S.no_stat) 0) S.no_stat) })); end_word = 0; end_name = 23; period = 0 } }

pub order_12 : checked (order_12_0 ∷ []) ≡ Fault 0 35 51
order_12 = refl

-- MODULE M; PROCEDURE P(): INTEGER; RETURN k END P; END M.
abbrev order_13_0 : Parsed
order_13_0 = record { source = record { bytes = (77 ∷ 79 ∷ 68 ∷ 85 ∷ 76 ∷ 69 ∷ 32 ∷ 77 ∷ 59 ∷ 32 ∷ 80 ∷ 82 ∷ 79 ∷ 67 ∷ 69 ∷ 68 ∷ 85 ∷ 82 ∷ 69 ∷ 32 ∷ 80 ∷ 40 ∷ 41 ∷ 58 ∷ 32 ∷ 73 ∷ 78 ∷ 84 ∷ 69 ∷ 71 ∷ 69 ∷ 82 ∷ 59 ∷ 32 ∷ 82 ∷ 69 ∷ 84 ∷ 85 ∷ 82 ∷ 78 ∷ 32 ∷ 107 ∷ 32 ∷ 69 ∷ 78 ∷ 68 ∷ 32 ∷ 80 ∷ 59 ∷ 32 ∷ 69 ∷ 78 ∷ 68 ∷ 32 ∷ 77 ∷ 46 ∷ []); symbols = (symbol (Ident) 0 6 ∷ symbol (Ident) 7 8 ∷ symbol (Ident) 8 9 ∷ symbol (Ident) 10 19 ∷ symbol (Ident) 20 21 ∷ symbol (Ident) 21 22 ∷ symbol (Ident) 22 23 ∷ symbol (Ident) 23 24 ∷ symbol (Ident) 25 32 ∷ symbol (Ident) 32 33 ∷ symbol (Ident) 34 40 ∷ symbol (Ident) 41 42 ∷ symbol (Ident) 43 46 ∷ symbol (Ident) 47 48 ∷ symbol (Ident) 48 49 ∷ symbol (Ident) 50 53 ∷ symbol (Ident) 54 55 ∷ symbol (Ident) 55 56 ∷ []) }; tree = record { module_word = 0; name = 1; semicolon = 0; imports = None; decls = (S.decls None None None (S.procedure 0 (record { name = 4; star = None }) (Some (record { left_paren = 0; sections = None; right_paren = 0; result = Some (record { colon = 0; name = (record { name = 8; member = None }) }) })) 0 (S.decls None None None S.no_procedure) None (Some (record { return_word = 10; value = (S.only (S.simple None (S.term (S.Designated 11 S.no_selector) S.no_factor) S.no_term)) })) 12 13 0 S.no_procedure)); body = None; end_word = 0; end_name = 16; period = 0 } }

pub order_13 : checked (order_13_0 ∷ []) ≡ Fault 0 30 41
order_13 = refl

-- MODULE M; VAR i: INTEGER; BEGIN CASE i OF k: l END END M.
abbrev order_14_0 : Parsed
order_14_0 = record { source = record { bytes = (77 ∷ 79 ∷ 68 ∷ 85 ∷ 76 ∷ 69 ∷ 32 ∷ 77 ∷ 59 ∷ 32 ∷ 86 ∷ 65 ∷ 82 ∷ 32 ∷ 105 ∷ 58 ∷ 32 ∷ 73 ∷ 78 ∷ 84 ∷ 69 ∷ 71 ∷ 69 ∷ 82 ∷ 59 ∷ 32 ∷ 66 ∷ 69 ∷ 71 ∷ 73 ∷ 78 ∷ 32 ∷ 67 ∷ 65 ∷ 83 ∷ 69 ∷ 32 ∷ 105 ∷ 32 ∷ 79 ∷ 70 ∷ 32 ∷ 107 ∷ 58 ∷ 32 ∷ 108 ∷ 32 ∷ 69 ∷ 78 ∷ 68 ∷ 32 ∷ 69 ∷ 78 ∷ 68 ∷ 32 ∷ 77 ∷ 46 ∷ []); symbols = (symbol (Ident) 0 6 ∷ symbol (Ident) 7 8 ∷ symbol (Ident) 8 9 ∷ symbol (Ident) 10 13 ∷ symbol (Ident) 14 15 ∷ symbol (Ident) 15 16 ∷ symbol (Ident) 17 24 ∷ symbol (Ident) 24 25 ∷ symbol (Ident) 26 31 ∷ symbol (Ident) 32 36 ∷ symbol (Ident) 37 38 ∷ symbol (Ident) 39 41 ∷ symbol (Ident) 42 43 ∷ symbol (Ident) 43 44 ∷ symbol (Ident) 45 46 ∷ symbol (Ident) 47 50 ∷ symbol (Ident) 51 54 ∷ symbol (Ident) 55 56 ∷ symbol (Ident) 56 57 ∷ []) }; tree = record { module_word = 0; name = 1; semicolon = 0; imports = None; decls = (S.decls None None (Some (record { var_word = 0; each = (record { names = (record { first = (record { name = 4; star = None }); more = [] }); colon = 0; of = (S.Named (record { name = 6; member = None })); semicolon = 0 } ∷ []) })) S.no_procedure); body = (Some (record { begin_word = 0; stats = (S.stats (S.Case 0 (S.only (S.simple None (S.term (S.Designated 10 S.no_selector) S.no_factor) S.no_term)) 0 (S.one_case (record { low = TheLabel.Named (record { name = 12; member = None }); high = None }) [] 0 (S.stats (S.AssignOrCall (record { name = 14; selectors = S.no_selector }) None) S.no_stat)) S.no_next_case 0) S.no_stat) })); end_word = 0; end_name = 17; period = 0 } }

pub order_14 : checked (order_14_0 ∷ []) ≡ Fault 0 30 42
order_14 = refl

-- MODULE M; VAR i: INTEGER; BEGIN i.x(k) END M.
abbrev order_15_0 : Parsed
order_15_0 = record { source = record { bytes = (77 ∷ 79 ∷ 68 ∷ 85 ∷ 76 ∷ 69 ∷ 32 ∷ 77 ∷ 59 ∷ 32 ∷ 86 ∷ 65 ∷ 82 ∷ 32 ∷ 105 ∷ 58 ∷ 32 ∷ 73 ∷ 78 ∷ 84 ∷ 69 ∷ 71 ∷ 69 ∷ 82 ∷ 59 ∷ 32 ∷ 66 ∷ 69 ∷ 71 ∷ 73 ∷ 78 ∷ 32 ∷ 105 ∷ 46 ∷ 120 ∷ 40 ∷ 107 ∷ 41 ∷ 32 ∷ 69 ∷ 78 ∷ 68 ∷ 32 ∷ 77 ∷ 46 ∷ []); symbols = (symbol (Ident) 0 6 ∷ symbol (Ident) 7 8 ∷ symbol (Ident) 8 9 ∷ symbol (Ident) 10 13 ∷ symbol (Ident) 14 15 ∷ symbol (Ident) 15 16 ∷ symbol (Ident) 17 24 ∷ symbol (Ident) 24 25 ∷ symbol (Ident) 26 31 ∷ symbol (Ident) 32 33 ∷ symbol (Ident) 33 34 ∷ symbol (Ident) 34 35 ∷ symbol (Ident) 35 36 ∷ symbol (Ident) 36 37 ∷ symbol (Ident) 37 38 ∷ symbol (Ident) 39 42 ∷ symbol (Ident) 43 44 ∷ symbol (Ident) 44 45 ∷ []) }; tree = record { module_word = 0; name = 1; semicolon = 0; imports = None; decls = (S.decls None None (Some (record { var_word = 0; each = (record { names = (record { first = (record { name = 4; star = None }); more = [] }); colon = 0; of = (S.Named (record { name = 6; member = None })); semicolon = 0 } ∷ []) })) S.no_procedure); body = (Some (record { begin_word = 0; stats = (S.stats (S.AssignOrCall (record { name = 9; selectors = (S.selected (S.Field 0 11) (S.selected (S.Parens 0 (S.expressions (S.only (S.simple None (S.term (S.Designated 13 S.no_selector) S.no_factor) S.no_term)) S.no_expression) 0) S.no_selector)) }) None) S.no_stat) })); end_word = 0; end_name = 16; period = 0 } }

pub order_15 : checked (order_15_0 ∷ []) ≡ Fault 0 31 32
order_15 = refl

-- MODULE M; VAR p: POINTER TO RECORD END; BEGIN p(k, l) END M.
abbrev order_16_0 : Parsed
order_16_0 = record { source = record { bytes = (77 ∷ 79 ∷ 68 ∷ 85 ∷ 76 ∷ 69 ∷ 32 ∷ 77 ∷ 59 ∷ 32 ∷ 86 ∷ 65 ∷ 82 ∷ 32 ∷ 112 ∷ 58 ∷ 32 ∷ 80 ∷ 79 ∷ 73 ∷ 78 ∷ 84 ∷ 69 ∷ 82 ∷ 32 ∷ 84 ∷ 79 ∷ 32 ∷ 82 ∷ 69 ∷ 67 ∷ 79 ∷ 82 ∷ 68 ∷ 32 ∷ 69 ∷ 78 ∷ 68 ∷ 59 ∷ 32 ∷ 66 ∷ 69 ∷ 71 ∷ 73 ∷ 78 ∷ 32 ∷ 112 ∷ 40 ∷ 107 ∷ 44 ∷ 32 ∷ 108 ∷ 41 ∷ 32 ∷ 69 ∷ 78 ∷ 68 ∷ 32 ∷ 77 ∷ 46 ∷ []); symbols = (symbol (Ident) 0 6 ∷ symbol (Ident) 7 8 ∷ symbol (Ident) 8 9 ∷ symbol (Ident) 10 13 ∷ symbol (Ident) 14 15 ∷ symbol (Ident) 15 16 ∷ symbol (Ident) 17 24 ∷ symbol (Ident) 25 27 ∷ symbol (Ident) 28 34 ∷ symbol (Ident) 35 38 ∷ symbol (Ident) 38 39 ∷ symbol (Ident) 40 45 ∷ symbol (Ident) 46 47 ∷ symbol (Ident) 47 48 ∷ symbol (Ident) 48 49 ∷ symbol (Ident) 49 50 ∷ symbol (Ident) 51 52 ∷ symbol (Ident) 52 53 ∷ symbol (Ident) 54 57 ∷ symbol (Ident) 58 59 ∷ symbol (Ident) 59 60 ∷ []) }; tree = record { module_word = 0; name = 1; semicolon = 0; imports = None; decls = (S.decls None None (Some (record { var_word = 0; each = (record { names = (record { first = (record { name = 4; star = None }); more = [] }); colon = 0; of = (S.Pointer 6 0 (S.Record 8 None S.no_fields S.no_more_fields 0)); semicolon = 0 } ∷ []) })) S.no_procedure); body = (Some (record { begin_word = 0; stats = (S.stats (S.AssignOrCall (record { name = 12; selectors = (S.selected (S.Parens 0 (S.expressions (S.only (S.simple None (S.term (S.Designated 14 S.no_selector) S.no_factor) S.no_term)) (S.next_expression 0 (S.only (S.simple None (S.term (S.Designated 16 S.no_selector) S.no_factor) S.no_term)) S.no_expression)) 0) S.no_selector) }) None) S.no_stat) })); end_word = 0; end_name = 19; period = 0 } }

pub order_16 : checked (order_16_0 ∷ []) ≡ Fault 0 30 48
order_16 = refl

-- MODULE M; VAR p: POINTER TO RECORD END; BEGIN p(1, l) END M.
abbrev order_17_0 : Parsed
order_17_0 = record { source = record { bytes = (77 ∷ 79 ∷ 68 ∷ 85 ∷ 76 ∷ 69 ∷ 32 ∷ 77 ∷ 59 ∷ 32 ∷ 86 ∷ 65 ∷ 82 ∷ 32 ∷ 112 ∷ 58 ∷ 32 ∷ 80 ∷ 79 ∷ 73 ∷ 78 ∷ 84 ∷ 69 ∷ 82 ∷ 32 ∷ 84 ∷ 79 ∷ 32 ∷ 82 ∷ 69 ∷ 67 ∷ 79 ∷ 82 ∷ 68 ∷ 32 ∷ 69 ∷ 78 ∷ 68 ∷ 59 ∷ 32 ∷ 66 ∷ 69 ∷ 71 ∷ 73 ∷ 78 ∷ 32 ∷ 112 ∷ 40 ∷ 49 ∷ 44 ∷ 32 ∷ 108 ∷ 41 ∷ 32 ∷ 69 ∷ 78 ∷ 68 ∷ 32 ∷ 77 ∷ 46 ∷ []); symbols = (symbol (Ident) 0 6 ∷ symbol (Ident) 7 8 ∷ symbol (Ident) 8 9 ∷ symbol (Ident) 10 13 ∷ symbol (Ident) 14 15 ∷ symbol (Ident) 15 16 ∷ symbol (Ident) 17 24 ∷ symbol (Ident) 25 27 ∷ symbol (Ident) 28 34 ∷ symbol (Ident) 35 38 ∷ symbol (Ident) 38 39 ∷ symbol (Ident) 40 45 ∷ symbol (Ident) 46 47 ∷ symbol (Ident) 47 48 ∷ symbol (Int (pos 1)) 48 49 ∷ symbol (Ident) 49 50 ∷ symbol (Ident) 51 52 ∷ symbol (Ident) 52 53 ∷ symbol (Ident) 54 57 ∷ symbol (Ident) 58 59 ∷ symbol (Ident) 59 60 ∷ []) }; tree = record { module_word = 0; name = 1; semicolon = 0; imports = None; decls = (S.decls None None (Some (record { var_word = 0; each = (record { names = (record { first = (record { name = 4; star = None }); more = [] }); colon = 0; of = (S.Pointer 6 0 (S.Record 8 None S.no_fields S.no_more_fields 0)); semicolon = 0 } ∷ []) })) S.no_procedure); body = (Some (record { begin_word = 0; stats = (S.stats (S.AssignOrCall (record { name = 12; selectors = (S.selected (S.Parens 0 (S.expressions (S.only (S.simple None (S.term (S.Int 14) S.no_factor) S.no_term)) (S.next_expression 0 (S.only (S.simple None (S.term (S.Designated 16 S.no_selector) S.no_factor) S.no_term)) S.no_expression)) 0) S.no_selector) }) None) S.no_stat) })); end_word = 0; end_name = 19; period = 0 } }

pub order_17 : checked (order_17_0 ∷ []) ≡ Fault 0 30 51
order_17 = refl

-- MODULE M; VAR b: BOOLEAN; BEGIN b := 1 IS k END M.
abbrev order_18_0 : Parsed
order_18_0 = record { source = record { bytes = (77 ∷ 79 ∷ 68 ∷ 85 ∷ 76 ∷ 69 ∷ 32 ∷ 77 ∷ 59 ∷ 32 ∷ 86 ∷ 65 ∷ 82 ∷ 32 ∷ 98 ∷ 58 ∷ 32 ∷ 66 ∷ 79 ∷ 79 ∷ 76 ∷ 69 ∷ 65 ∷ 78 ∷ 59 ∷ 32 ∷ 66 ∷ 69 ∷ 71 ∷ 73 ∷ 78 ∷ 32 ∷ 98 ∷ 32 ∷ 58 ∷ 61 ∷ 32 ∷ 49 ∷ 32 ∷ 73 ∷ 83 ∷ 32 ∷ 107 ∷ 32 ∷ 69 ∷ 78 ∷ 68 ∷ 32 ∷ 77 ∷ 46 ∷ []); symbols = (symbol (Ident) 0 6 ∷ symbol (Ident) 7 8 ∷ symbol (Ident) 8 9 ∷ symbol (Ident) 10 13 ∷ symbol (Ident) 14 15 ∷ symbol (Ident) 15 16 ∷ symbol (Ident) 17 24 ∷ symbol (Ident) 24 25 ∷ symbol (Ident) 26 31 ∷ symbol (Ident) 32 33 ∷ symbol (Ident) 34 36 ∷ symbol (Int (pos 1)) 37 38 ∷ symbol (Ident) 39 41 ∷ symbol (Ident) 42 43 ∷ symbol (Ident) 44 47 ∷ symbol (Ident) 48 49 ∷ symbol (Ident) 49 50 ∷ []) }; tree = record { module_word = 0; name = 1; semicolon = 0; imports = None; decls = (S.decls None None (Some (record { var_word = 0; each = (record { names = (record { first = (record { name = 4; star = None }); more = [] }); colon = 0; of = (S.Named (record { name = 6; member = None })); semicolon = 0 } ∷ []) })) S.no_procedure); body = (Some (record { begin_word = 0; stats = (S.stats (S.AssignOrCall (record { name = 9; selectors = S.no_selector }) (Some (record { becomes = 0; value = (S.compared (S.simple None (S.term (S.Int 11) S.no_factor) S.no_term) (TheRelation.Is 12) (S.simple None (S.term (S.Designated 13 S.no_selector) S.no_factor) S.no_term)) }))) S.no_stat) })); end_word = 0; end_name = 15; period = 0 } }

pub order_18 : checked (order_18_0 ∷ []) ≡ Fault 0 30 42
order_18 = refl

-- MODULE M; VAR b: BOOLEAN; BEGIN b := k IS l END M.
abbrev order_19_0 : Parsed
order_19_0 = record { source = record { bytes = (77 ∷ 79 ∷ 68 ∷ 85 ∷ 76 ∷ 69 ∷ 32 ∷ 77 ∷ 59 ∷ 32 ∷ 86 ∷ 65 ∷ 82 ∷ 32 ∷ 98 ∷ 58 ∷ 32 ∷ 66 ∷ 79 ∷ 79 ∷ 76 ∷ 69 ∷ 65 ∷ 78 ∷ 59 ∷ 32 ∷ 66 ∷ 69 ∷ 71 ∷ 73 ∷ 78 ∷ 32 ∷ 98 ∷ 32 ∷ 58 ∷ 61 ∷ 32 ∷ 107 ∷ 32 ∷ 73 ∷ 83 ∷ 32 ∷ 108 ∷ 32 ∷ 69 ∷ 78 ∷ 68 ∷ 32 ∷ 77 ∷ 46 ∷ []); symbols = (symbol (Ident) 0 6 ∷ symbol (Ident) 7 8 ∷ symbol (Ident) 8 9 ∷ symbol (Ident) 10 13 ∷ symbol (Ident) 14 15 ∷ symbol (Ident) 15 16 ∷ symbol (Ident) 17 24 ∷ symbol (Ident) 24 25 ∷ symbol (Ident) 26 31 ∷ symbol (Ident) 32 33 ∷ symbol (Ident) 34 36 ∷ symbol (Ident) 37 38 ∷ symbol (Ident) 39 41 ∷ symbol (Ident) 42 43 ∷ symbol (Ident) 44 47 ∷ symbol (Ident) 48 49 ∷ symbol (Ident) 49 50 ∷ []) }; tree = record { module_word = 0; name = 1; semicolon = 0; imports = None; decls = (S.decls None None (Some (record { var_word = 0; each = (record { names = (record { first = (record { name = 4; star = None }); more = [] }); colon = 0; of = (S.Named (record { name = 6; member = None })); semicolon = 0 } ∷ []) })) S.no_procedure); body = (Some (record { begin_word = 0; stats = (S.stats (S.AssignOrCall (record { name = 9; selectors = S.no_selector }) (Some (record { becomes = 0; value = (S.compared (S.simple None (S.term (S.Designated 11 S.no_selector) S.no_factor) S.no_term) (TheRelation.Is 12) (S.simple None (S.term (S.Designated 13 S.no_selector) S.no_factor) S.no_term)) }))) S.no_stat) })); end_word = 0; end_name = 15; period = 0 } }

pub order_19 : checked (order_19_0 ∷ []) ≡ Fault 0 30 37
order_19 = refl

-- MODULE M; VAR b: BOOLEAN; BEGIN b := 1 IS (k) END M.
abbrev order_20_0 : Parsed
order_20_0 = record { source = record { bytes = (77 ∷ 79 ∷ 68 ∷ 85 ∷ 76 ∷ 69 ∷ 32 ∷ 77 ∷ 59 ∷ 32 ∷ 86 ∷ 65 ∷ 82 ∷ 32 ∷ 98 ∷ 58 ∷ 32 ∷ 66 ∷ 79 ∷ 79 ∷ 76 ∷ 69 ∷ 65 ∷ 78 ∷ 59 ∷ 32 ∷ 66 ∷ 69 ∷ 71 ∷ 73 ∷ 78 ∷ 32 ∷ 98 ∷ 32 ∷ 58 ∷ 61 ∷ 32 ∷ 49 ∷ 32 ∷ 73 ∷ 83 ∷ 32 ∷ 40 ∷ 107 ∷ 41 ∷ 32 ∷ 69 ∷ 78 ∷ 68 ∷ 32 ∷ 77 ∷ 46 ∷ []); symbols = (symbol (Ident) 0 6 ∷ symbol (Ident) 7 8 ∷ symbol (Ident) 8 9 ∷ symbol (Ident) 10 13 ∷ symbol (Ident) 14 15 ∷ symbol (Ident) 15 16 ∷ symbol (Ident) 17 24 ∷ symbol (Ident) 24 25 ∷ symbol (Ident) 26 31 ∷ symbol (Ident) 32 33 ∷ symbol (Ident) 34 36 ∷ symbol (Int (pos 1)) 37 38 ∷ symbol (Ident) 39 41 ∷ symbol (Ident) 42 43 ∷ symbol (Ident) 43 44 ∷ symbol (Ident) 44 45 ∷ symbol (Ident) 46 49 ∷ symbol (Ident) 50 51 ∷ symbol (Ident) 51 52 ∷ []) }; tree = record { module_word = 0; name = 1; semicolon = 0; imports = None; decls = (S.decls None None (Some (record { var_word = 0; each = (record { names = (record { first = (record { name = 4; star = None }); more = [] }); colon = 0; of = (S.Named (record { name = 6; member = None })); semicolon = 0 } ∷ []) })) S.no_procedure); body = (Some (record { begin_word = 0; stats = (S.stats (S.AssignOrCall (record { name = 9; selectors = S.no_selector }) (Some (record { becomes = 0; value = (S.compared (S.simple None (S.term (S.Int 11) S.no_factor) S.no_term) (TheRelation.Is 12) (S.simple None (S.term (S.Paren 13 (S.only (S.simple None (S.term (S.Designated 14 S.no_selector) S.no_factor) S.no_term)) 0) S.no_factor) S.no_term)) }))) S.no_stat) })); end_word = 0; end_name = 17; period = 0 } }

pub order_20 : checked (order_20_0 ∷ []) ≡ Fault 0 30 43
order_20 = refl

-- MODULE M; VAR s: SET; BEGIN s := {TRUE..k} END M.
abbrev order_21_0 : Parsed
order_21_0 = record { source = record { bytes = (77 ∷ 79 ∷ 68 ∷ 85 ∷ 76 ∷ 69 ∷ 32 ∷ 77 ∷ 59 ∷ 32 ∷ 86 ∷ 65 ∷ 82 ∷ 32 ∷ 115 ∷ 58 ∷ 32 ∷ 83 ∷ 69 ∷ 84 ∷ 59 ∷ 32 ∷ 66 ∷ 69 ∷ 71 ∷ 73 ∷ 78 ∷ 32 ∷ 115 ∷ 32 ∷ 58 ∷ 61 ∷ 32 ∷ 123 ∷ 84 ∷ 82 ∷ 85 ∷ 69 ∷ 46 ∷ 46 ∷ 107 ∷ 125 ∷ 32 ∷ 69 ∷ 78 ∷ 68 ∷ 32 ∷ 77 ∷ 46 ∷ []); symbols = (symbol (Ident) 0 6 ∷ symbol (Ident) 7 8 ∷ symbol (Ident) 8 9 ∷ symbol (Ident) 10 13 ∷ symbol (Ident) 14 15 ∷ symbol (Ident) 15 16 ∷ symbol (Ident) 17 20 ∷ symbol (Ident) 20 21 ∷ symbol (Ident) 22 27 ∷ symbol (Ident) 28 29 ∷ symbol (Ident) 30 32 ∷ symbol (Ident) 33 34 ∷ symbol (Ident) 34 38 ∷ symbol (Ident) 38 40 ∷ symbol (Ident) 40 41 ∷ symbol (Ident) 41 42 ∷ symbol (Ident) 43 46 ∷ symbol (Ident) 47 48 ∷ symbol (Ident) 48 49 ∷ []) }; tree = record { module_word = 0; name = 1; semicolon = 0; imports = None; decls = (S.decls None None (Some (record { var_word = 0; each = (record { names = (record { first = (record { name = 4; star = None }); more = [] }); colon = 0; of = (S.Named (record { name = 6; member = None })); semicolon = 0 } ∷ []) })) S.no_procedure); body = (Some (record { begin_word = 0; stats = (S.stats (S.AssignOrCall (record { name = 9; selectors = S.no_selector }) (Some (record { becomes = 0; value = (S.only (S.simple None (S.term (S.Set 11 (S.range (S.only (S.simple None (S.term (S.True 12) S.no_factor) S.no_term)) 0 (S.only (S.simple None (S.term (S.Designated 14 S.no_selector) S.no_factor) S.no_term))) S.no_element 0) S.no_factor) S.no_term)) }))) S.no_stat) })); end_word = 0; end_name = 17; period = 0 } }

pub order_21 : checked (order_21_0 ∷ []) ≡ Fault 0 31 34
order_21 = refl

-- MODULE M; VAR b: BOOLEAN; BEGIN b := b & (1 + b) END M.
abbrev order_22_0 : Parsed
order_22_0 = record { source = record { bytes = (77 ∷ 79 ∷ 68 ∷ 85 ∷ 76 ∷ 69 ∷ 32 ∷ 77 ∷ 59 ∷ 32 ∷ 86 ∷ 65 ∷ 82 ∷ 32 ∷ 98 ∷ 58 ∷ 32 ∷ 66 ∷ 79 ∷ 79 ∷ 76 ∷ 69 ∷ 65 ∷ 78 ∷ 59 ∷ 32 ∷ 66 ∷ 69 ∷ 71 ∷ 73 ∷ 78 ∷ 32 ∷ 98 ∷ 32 ∷ 58 ∷ 61 ∷ 32 ∷ 98 ∷ 32 ∷ 38 ∷ 32 ∷ 40 ∷ 49 ∷ 32 ∷ 43 ∷ 32 ∷ 98 ∷ 41 ∷ 32 ∷ 69 ∷ 78 ∷ 68 ∷ 32 ∷ 77 ∷ 46 ∷ []); symbols = (symbol (Ident) 0 6 ∷ symbol (Ident) 7 8 ∷ symbol (Ident) 8 9 ∷ symbol (Ident) 10 13 ∷ symbol (Ident) 14 15 ∷ symbol (Ident) 15 16 ∷ symbol (Ident) 17 24 ∷ symbol (Ident) 24 25 ∷ symbol (Ident) 26 31 ∷ symbol (Ident) 32 33 ∷ symbol (Ident) 34 36 ∷ symbol (Ident) 37 38 ∷ symbol (Ident) 39 40 ∷ symbol (Ident) 41 42 ∷ symbol (Int (pos 1)) 42 43 ∷ symbol (Ident) 44 45 ∷ symbol (Ident) 46 47 ∷ symbol (Ident) 47 48 ∷ symbol (Ident) 49 52 ∷ symbol (Ident) 53 54 ∷ symbol (Ident) 54 55 ∷ []) }; tree = record { module_word = 0; name = 1; semicolon = 0; imports = None; decls = (S.decls None None (Some (record { var_word = 0; each = (record { names = (record { first = (record { name = 4; star = None }); more = [] }); colon = 0; of = (S.Named (record { name = 6; member = None })); semicolon = 0 } ∷ []) })) S.no_procedure); body = (Some (record { begin_word = 0; stats = (S.stats (S.AssignOrCall (record { name = 9; selectors = S.no_selector }) (Some (record { becomes = 0; value = (S.only (S.simple None (S.term (S.Designated 11 S.no_selector) (S.multiplied (TheMulOperator.And 12) (S.Paren 13 (S.only (S.simple None (S.term (S.Int 14) S.no_factor) (S.added (TheAddOperator.Plus 15) (S.term (S.Designated 16 S.no_selector) S.no_factor) S.no_term))) 0) S.no_factor)) S.no_term)) }))) S.no_stat) })); end_word = 0; end_name = 19; period = 0 } }

pub order_22 : checked (order_22_0 ∷ []) ≡ Fault 0 31 44
order_22 = refl

-- MODULE M; CONST c = 1 + TRUE DIV 0; END M.
abbrev order_23_0 : Parsed
order_23_0 = record { source = record { bytes = (77 ∷ 79 ∷ 68 ∷ 85 ∷ 76 ∷ 69 ∷ 32 ∷ 77 ∷ 59 ∷ 32 ∷ 67 ∷ 79 ∷ 78 ∷ 83 ∷ 84 ∷ 32 ∷ 99 ∷ 32 ∷ 61 ∷ 32 ∷ 49 ∷ 32 ∷ 43 ∷ 32 ∷ 84 ∷ 82 ∷ 85 ∷ 69 ∷ 32 ∷ 68 ∷ 73 ∷ 86 ∷ 32 ∷ 48 ∷ 59 ∷ 32 ∷ 69 ∷ 78 ∷ 68 ∷ 32 ∷ 77 ∷ 46 ∷ []); symbols = (symbol (Ident) 0 6 ∷ symbol (Ident) 7 8 ∷ symbol (Ident) 8 9 ∷ symbol (Ident) 10 15 ∷ symbol (Ident) 16 17 ∷ symbol (Ident) 18 19 ∷ symbol (Int (pos 1)) 20 21 ∷ symbol (Ident) 22 23 ∷ symbol (Ident) 24 28 ∷ symbol (Ident) 29 32 ∷ symbol (Int (pos 0)) 33 34 ∷ symbol (Ident) 34 35 ∷ symbol (Ident) 36 39 ∷ symbol (Ident) 40 41 ∷ symbol (Ident) 41 42 ∷ []) }; tree = record { module_word = 0; name = 1; semicolon = 0; imports = None; decls = (S.decls (Some (record { const_word = 0; each = (record { name = (record { name = 4; star = None }); equal = 0; value = (S.only (S.simple None (S.term (S.Int 6) S.no_factor) (S.added (TheAddOperator.Plus 7) (S.term (S.True 8) (S.multiplied (TheMulOperator.Div 9) (S.Int 10) S.no_factor)) S.no_term))); semicolon = 0 } ∷ []) })) None None S.no_procedure); body = None; end_word = 0; end_name = 13; period = 0 } }

pub order_23 : checked (order_23_0 ∷ []) ≡ Fault 0 31 29
order_23 = refl

-- MODULE M; CONST c = (1 DIV 0) + k; END M.
abbrev order_24_0 : Parsed
order_24_0 = record { source = record { bytes = (77 ∷ 79 ∷ 68 ∷ 85 ∷ 76 ∷ 69 ∷ 32 ∷ 77 ∷ 59 ∷ 32 ∷ 67 ∷ 79 ∷ 78 ∷ 83 ∷ 84 ∷ 32 ∷ 99 ∷ 32 ∷ 61 ∷ 32 ∷ 40 ∷ 49 ∷ 32 ∷ 68 ∷ 73 ∷ 86 ∷ 32 ∷ 48 ∷ 41 ∷ 32 ∷ 43 ∷ 32 ∷ 107 ∷ 59 ∷ 32 ∷ 69 ∷ 78 ∷ 68 ∷ 32 ∷ 77 ∷ 46 ∷ []); symbols = (symbol (Ident) 0 6 ∷ symbol (Ident) 7 8 ∷ symbol (Ident) 8 9 ∷ symbol (Ident) 10 15 ∷ symbol (Ident) 16 17 ∷ symbol (Ident) 18 19 ∷ symbol (Ident) 20 21 ∷ symbol (Int (pos 1)) 21 22 ∷ symbol (Ident) 23 26 ∷ symbol (Int (pos 0)) 27 28 ∷ symbol (Ident) 28 29 ∷ symbol (Ident) 30 31 ∷ symbol (Ident) 32 33 ∷ symbol (Ident) 33 34 ∷ symbol (Ident) 35 38 ∷ symbol (Ident) 39 40 ∷ symbol (Ident) 40 41 ∷ []) }; tree = record { module_word = 0; name = 1; semicolon = 0; imports = None; decls = (S.decls (Some (record { const_word = 0; each = (record { name = (record { name = 4; star = None }); equal = 0; value = (S.only (S.simple None (S.term (S.Paren 6 (S.only (S.simple None (S.term (S.Int 7) (S.multiplied (TheMulOperator.Div 8) (S.Int 9) S.no_factor)) S.no_term)) 0) S.no_factor) (S.added (TheAddOperator.Plus 11) (S.term (S.Designated 12 S.no_selector) S.no_factor) S.no_term))); semicolon = 0 } ∷ []) })) None None S.no_procedure); body = None; end_word = 0; end_name = 15; period = 0 } }

pub order_24 : checked (order_24_0 ∷ []) ≡ Fault 0 30 32
order_24 = refl

-- MODULE M; TYPE R = RECORD x: INTEGER; y: T; x: CHAR END; END M.
abbrev order_25_0 : Parsed
order_25_0 = record { source = record { bytes = (77 ∷ 79 ∷ 68 ∷ 85 ∷ 76 ∷ 69 ∷ 32 ∷ 77 ∷ 59 ∷ 32 ∷ 84 ∷ 89 ∷ 80 ∷ 69 ∷ 32 ∷ 82 ∷ 32 ∷ 61 ∷ 32 ∷ 82 ∷ 69 ∷ 67 ∷ 79 ∷ 82 ∷ 68 ∷ 32 ∷ 120 ∷ 58 ∷ 32 ∷ 73 ∷ 78 ∷ 84 ∷ 69 ∷ 71 ∷ 69 ∷ 82 ∷ 59 ∷ 32 ∷ 121 ∷ 58 ∷ 32 ∷ 84 ∷ 59 ∷ 32 ∷ 120 ∷ 58 ∷ 32 ∷ 67 ∷ 72 ∷ 65 ∷ 82 ∷ 32 ∷ 69 ∷ 78 ∷ 68 ∷ 59 ∷ 32 ∷ 69 ∷ 78 ∷ 68 ∷ 32 ∷ 77 ∷ 46 ∷ []); symbols = (symbol (Ident) 0 6 ∷ symbol (Ident) 7 8 ∷ symbol (Ident) 8 9 ∷ symbol (Ident) 10 14 ∷ symbol (Ident) 15 16 ∷ symbol (Ident) 17 18 ∷ symbol (Ident) 19 25 ∷ symbol (Ident) 26 27 ∷ symbol (Ident) 27 28 ∷ symbol (Ident) 29 36 ∷ symbol (Ident) 36 37 ∷ symbol (Ident) 38 39 ∷ symbol (Ident) 39 40 ∷ symbol (Ident) 41 42 ∷ symbol (Ident) 42 43 ∷ symbol (Ident) 44 45 ∷ symbol (Ident) 45 46 ∷ symbol (Ident) 47 51 ∷ symbol (Ident) 52 55 ∷ symbol (Ident) 55 56 ∷ symbol (Ident) 57 60 ∷ symbol (Ident) 61 62 ∷ symbol (Ident) 62 63 ∷ []) }; tree = record { module_word = 0; name = 1; semicolon = 0; imports = None; decls = (S.decls None (Some (record { type_word = 0; each = (record { name = (record { name = 4; star = None }); equal = 0; is = (S.Record 6 None (S.fields (record { first = (record { name = 7; star = None }); more = [] }) 0 (S.Named (record { name = 9; member = None }))) (S.next_fields 0 (S.fields (record { first = (record { name = 11; star = None }); more = [] }) 0 (S.Named (record { name = 13; member = None }))) (S.next_fields 0 (S.fields (record { first = (record { name = 15; star = None }); more = [] }) 0 (S.Named (record { name = 17; member = None }))) S.no_more_fields)) 0); semicolon = 0 } ∷ []) })) None S.no_procedure); body = None; end_word = 0; end_name = 21; period = 0 } }

pub order_25 : checked (order_25_0 ∷ []) ≡ Fault 0 30 41
order_25 = refl

-- MODULE M; PROCEDURE P; VAR x: k; BEGIN l END Q; END M.
abbrev order_26_0 : Parsed
order_26_0 = record { source = record { bytes = (77 ∷ 79 ∷ 68 ∷ 85 ∷ 76 ∷ 69 ∷ 32 ∷ 77 ∷ 59 ∷ 32 ∷ 80 ∷ 82 ∷ 79 ∷ 67 ∷ 69 ∷ 68 ∷ 85 ∷ 82 ∷ 69 ∷ 32 ∷ 80 ∷ 59 ∷ 32 ∷ 86 ∷ 65 ∷ 82 ∷ 32 ∷ 120 ∷ 58 ∷ 32 ∷ 107 ∷ 59 ∷ 32 ∷ 66 ∷ 69 ∷ 71 ∷ 73 ∷ 78 ∷ 32 ∷ 108 ∷ 32 ∷ 69 ∷ 78 ∷ 68 ∷ 32 ∷ 81 ∷ 59 ∷ 32 ∷ 69 ∷ 78 ∷ 68 ∷ 32 ∷ 77 ∷ 46 ∷ []); symbols = (symbol (Ident) 0 6 ∷ symbol (Ident) 7 8 ∷ symbol (Ident) 8 9 ∷ symbol (Ident) 10 19 ∷ symbol (Ident) 20 21 ∷ symbol (Ident) 21 22 ∷ symbol (Ident) 23 26 ∷ symbol (Ident) 27 28 ∷ symbol (Ident) 28 29 ∷ symbol (Ident) 30 31 ∷ symbol (Ident) 31 32 ∷ symbol (Ident) 33 38 ∷ symbol (Ident) 39 40 ∷ symbol (Ident) 41 44 ∷ symbol (Ident) 45 46 ∷ symbol (Ident) 46 47 ∷ symbol (Ident) 48 51 ∷ symbol (Ident) 52 53 ∷ symbol (Ident) 53 54 ∷ []) }; tree = record { module_word = 0; name = 1; semicolon = 0; imports = None; decls = (S.decls None None None (S.procedure 0 (record { name = 4; star = None }) None 0 (S.decls None None (Some (record { var_word = 0; each = (record { names = (record { first = (record { name = 7; star = None }); more = [] }); colon = 0; of = (S.Named (record { name = 9; member = None })); semicolon = 0 } ∷ []) })) S.no_procedure) (Some (record { begin_word = 0; stats = (S.stats (S.AssignOrCall (record { name = 12; selectors = S.no_selector }) None) S.no_stat) })) None 13 14 0 S.no_procedure)); body = None; end_word = 0; end_name = 17; period = 0 } }

pub order_26 : checked (order_26_0 ∷ []) ≡ Fault 0 30 30
order_26 = refl
