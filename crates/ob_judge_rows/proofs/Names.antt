-- Small modules, and what the judgement says of them. Written by bench/judged_rows.py from their texts.
use Rattle.std.specs.Prelude.{◌≡◌, ℕ, [], ◌∷◌, true, false, Some, None, pos}
use Rattle.std.proofs.Common.{refl}
use Rattle.ob_symbol.specs.declared.symbol.Symbol.{Symbol}
use Rattle.ob_symbol.specs.declared.symbol.Kind.{Kind}
use Rattle.ob_symbol.specs.declared.symbol.Kind.TheVariants.{Int, Ident}
use Rattle.ob_syntax.specs.Syntax as S
use Rattle.ob_syntax.specs.declared.expressions.Relation.TheVariants as TheRelation
use Rattle.ob_syntax.specs.declared.expressions.MulOperator.TheVariants as TheMulOperator
use Rattle.ob_syntax.specs.declared.statements.Label.TheVariants as TheLabel
use Rattle.ob_types.specs.declared.types.Mode.TheVariants as TheMode
use Rattle.ob_judge.specs.Shapes as H
use Rattle.ob_judge.specs.Image as I
use Rattle.ob_judge.specs.Modules.{Parsed, Legal, Fault, checked}

abbrev symbol : Kind → ℕ → ℕ → Symbol
symbol kind from to = record { kind = kind; from = from; to = to }

-- MODULE M; BEGIN k := 1 END M.
abbrev unknown_1_0 : Parsed
unknown_1_0 = record { source = record { bytes = (77 ∷ 79 ∷ 68 ∷ 85 ∷ 76 ∷ 69 ∷ 32 ∷ 77 ∷ 59 ∷ 32 ∷ 66 ∷ 69 ∷ 71 ∷ 73 ∷ 78 ∷ 32 ∷ 107 ∷ 32 ∷ 58 ∷ 61 ∷ 32 ∷ 49 ∷ 32 ∷ 69 ∷ 78 ∷ 68 ∷ 32 ∷ 77 ∷ 46 ∷ []); symbols = (symbol (Ident) 0 6 ∷ symbol (Ident) 7 8 ∷ symbol (Ident) 8 9 ∷ symbol (Ident) 10 15 ∷ symbol (Ident) 16 17 ∷ symbol (Ident) 18 20 ∷ symbol (Int (pos 1)) 21 22 ∷ symbol (Ident) 23 26 ∷ symbol (Ident) 27 28 ∷ symbol (Ident) 28 29 ∷ []) }; tree = record { module_word = 0; name = 1; semicolon = 0; imports = None; decls = (S.decls None None None S.no_procedure); body = (Some (record { begin_word = 0; stats = (S.stats (S.AssignOrCall (record { name = 4; selectors = S.no_selector }) (Some (record { becomes = 0; value = (S.only (S.simple None (S.term (S.Int 6) S.no_factor) S.no_term)) }))) S.no_stat) })); end_word = 0; end_name = 8; period = 0 } }

pub unknown_1 : checked (unknown_1_0 ∷ []) ≡ Fault 0 30 16
unknown_1 = refl

-- MODULE M; VAR i: INTEGER; BEGIN i := k END M.
abbrev unknown_2_0 : Parsed
unknown_2_0 = record { source = record { bytes = (77 ∷ 79 ∷ 68 ∷ 85 ∷ 76 ∷ 69 ∷ 32 ∷ 77 ∷ 59 ∷ 32 ∷ 86 ∷ 65 ∷ 82 ∷ 32 ∷ 105 ∷ 58 ∷ 32 ∷ 73 ∷ 78 ∷ 84 ∷ 69 ∷ 71 ∷ 69 ∷ 82 ∷ 59 ∷ 32 ∷ 66 ∷ 69 ∷ 71 ∷ 73 ∷ 78 ∷ 32 ∷ 105 ∷ 32 ∷ 58 ∷ 61 ∷ 32 ∷ 107 ∷ 32 ∷ 69 ∷ 78 ∷ 68 ∷ 32 ∷ 77 ∷ 46 ∷ []); symbols = (symbol (Ident) 0 6 ∷ symbol (Ident) 7 8 ∷ symbol (Ident) 8 9 ∷ symbol (Ident) 10 13 ∷ symbol (Ident) 14 15 ∷ symbol (Ident) 15 16 ∷ symbol (Ident) 17 24 ∷ symbol (Ident) 24 25 ∷ symbol (Ident) 26 31 ∷ symbol (Ident) 32 33 ∷ symbol (Ident) 34 36 ∷ symbol (Ident) 37 38 ∷ symbol (Ident) 39 42 ∷ symbol (Ident) 43 44 ∷ symbol (Ident) 44 45 ∷ []) }; tree = record { module_word = 0; name = 1; semicolon = 0; imports = None; decls = (S.decls None None (Some (record { var_word = 0; each = (record { names = (record { first = (record { name = 4; star = None }); more = [] }); colon = 0; of = (S.Named (record { name = 6; member = None })); semicolon = 0 } ∷ []) })) S.no_procedure); body = (Some (record { begin_word = 0; stats = (S.stats (S.AssignOrCall (record { name = 9; selectors = S.no_selector }) (Some (record { becomes = 0; value = (S.only (S.simple None (S.term (S.Designated 11 S.no_selector) S.no_factor) S.no_term)) }))) S.no_stat) })); end_word = 0; end_name = 13; period = 0 } }

pub unknown_2 : checked (unknown_2_0 ∷ []) ≡ Fault 0 30 37
unknown_2 = refl

-- MODULE M; TYPE R = RECORD x: INTEGER; y*: CHAR END; VAR r: R; BEGIN r.w := 1 END M.
abbrev unknown_3_0 : Parsed
unknown_3_0 = record { source = record { bytes = (77 ∷ 79 ∷ 68 ∷ 85 ∷ 76 ∷ 69 ∷ 32 ∷ 77 ∷ 59 ∷ 32 ∷ 84 ∷ 89 ∷ 80 ∷ 69 ∷ 32 ∷ 82 ∷ 32 ∷ 61 ∷ 32 ∷ 82 ∷ 69 ∷ 67 ∷ 79 ∷ 82 ∷ 68 ∷ 32 ∷ 120 ∷ 58 ∷ 32 ∷ 73 ∷ 78 ∷ 84 ∷ 69 ∷ 71 ∷ 69 ∷ 82 ∷ 59 ∷ 32 ∷ 121 ∷ 42 ∷ 58 ∷ 32 ∷ 67 ∷ 72 ∷ 65 ∷ 82 ∷ 32 ∷ 69 ∷ 78 ∷ 68 ∷ 59 ∷ 32 ∷ 86 ∷ 65 ∷ 82 ∷ 32 ∷ 114 ∷ 58 ∷ 32 ∷ 82 ∷ 59 ∷ 32 ∷ 66 ∷ 69 ∷ 71 ∷ 73 ∷ 78 ∷ 32 ∷ 114 ∷ 46 ∷ 119 ∷ 32 ∷ 58 ∷ 61 ∷ 32 ∷ 49 ∷ 32 ∷ 69 ∷ 78 ∷ 68 ∷ 32 ∷ 77 ∷ 46 ∷ []); symbols = (symbol (Ident) 0 6 ∷ symbol (Ident) 7 8 ∷ symbol (Ident) 8 9 ∷ symbol (Ident) 10 14 ∷ symbol (Ident) 15 16 ∷ symbol (Ident) 17 18 ∷ symbol (Ident) 19 25 ∷ symbol (Ident) 26 27 ∷ symbol (Ident) 27 28 ∷ symbol (Ident) 29 36 ∷ symbol (Ident) 36 37 ∷ symbol (Ident) 38 39 ∷ symbol (Ident) 39 40 ∷ symbol (Ident) 40 41 ∷ symbol (Ident) 42 46 ∷ symbol (Ident) 47 50 ∷ symbol (Ident) 50 51 ∷ symbol (Ident) 52 55 ∷ symbol (Ident) 56 57 ∷ symbol (Ident) 57 58 ∷ symbol (Ident) 59 60 ∷ symbol (Ident) 60 61 ∷ symbol (Ident) 62 67 ∷ symbol (Ident) 68 69 ∷ symbol (Ident) 69 70 ∷ symbol (Ident) 70 71 ∷ symbol (Ident) 72 74 ∷ symbol (Int (pos 1)) 75 76 ∷ symbol (Ident) 77 80 ∷ symbol (Ident) 81 82 ∷ symbol (Ident) 82 83 ∷ []) }; tree = record { module_word = 0; name = 1; semicolon = 0; imports = None; decls = (S.decls None (Some (record { type_word = 0; each = (record { name = (record { name = 4; star = None }); equal = 0; is = (S.Record 6 None (S.fields (record { first = (record { name = 7; star = None }); more = [] }) 0 (S.Named (record { name = 9; member = None }))) (S.next_fields 0 (S.fields (record { first = (record { name = 11; star = Some 0 }); more = [] }) 0 (S.Named (record { name = 14; member = None }))) S.no_more_fields) 0); semicolon = 0 } ∷ []) })) (Some (record { var_word = 0; each = (record { names = (record { first = (record { name = 18; star = None }); more = [] }); colon = 0; of = (S.Named (record { name = 20; member = None })); semicolon = 0 } ∷ []) })) S.no_procedure); body = (Some (record { begin_word = 0; stats = (S.stats (S.AssignOrCall (record { name = 23; selectors = (S.selected (S.Field 0 25) S.no_selector) }) (Some (record { becomes = 0; value = (S.only (S.simple None (S.term (S.Int 27) S.no_factor) S.no_term)) }))) S.no_stat) })); end_word = 0; end_name = 29; period = 0 } }

pub unknown_3 : checked (unknown_3_0 ∷ []) ≡ Fault 0 30 70
unknown_3 = refl

-- MODULE M; TYPE R = RECORD x: INTEGER; y*: CHAR END; P = POINTER TO R; VAR p: P; BEGIN p.w := 1 END M.
abbrev unknown_4_0 : Parsed
unknown_4_0 = record { source = record { bytes = (77 ∷ 79 ∷ 68 ∷ 85 ∷ 76 ∷ 69 ∷ 32 ∷ 77 ∷ 59 ∷ 32 ∷ 84 ∷ 89 ∷ 80 ∷ 69 ∷ 32 ∷ 82 ∷ 32 ∷ 61 ∷ 32 ∷ 82 ∷ 69 ∷ 67 ∷ 79 ∷ 82 ∷ 68 ∷ 32 ∷ 120 ∷ 58 ∷ 32 ∷ 73 ∷ 78 ∷ 84 ∷ 69 ∷ 71 ∷ 69 ∷ 82 ∷ 59 ∷ 32 ∷ 121 ∷ 42 ∷ 58 ∷ 32 ∷ 67 ∷ 72 ∷ 65 ∷ 82 ∷ 32 ∷ 69 ∷ 78 ∷ 68 ∷ 59 ∷ 32 ∷ 80 ∷ 32 ∷ 61 ∷ 32 ∷ 80 ∷ 79 ∷ 73 ∷ 78 ∷ 84 ∷ 69 ∷ 82 ∷ 32 ∷ 84 ∷ 79 ∷ 32 ∷ 82 ∷ 59 ∷ 32 ∷ 86 ∷ 65 ∷ 82 ∷ 32 ∷ 112 ∷ 58 ∷ 32 ∷ 80 ∷ 59 ∷ 32 ∷ 66 ∷ 69 ∷ 71 ∷ 73 ∷ 78 ∷ 32 ∷ 112 ∷ 46 ∷ 119 ∷ 32 ∷ 58 ∷ 61 ∷ 32 ∷ 49 ∷ 32 ∷ 69 ∷ 78 ∷ 68 ∷ 32 ∷ 77 ∷ 46 ∷ []); symbols = (symbol (Ident) 0 6 ∷ symbol (Ident) 7 8 ∷ symbol (Ident) 8 9 ∷ symbol (Ident) 10 14 ∷ symbol (Ident) 15 16 ∷ symbol (Ident) 17 18 ∷ symbol (Ident) 19 25 ∷ symbol (Ident) 26 27 ∷ symbol (Ident) 27 28 ∷ symbol (Ident) 29 36 ∷ symbol (Ident) 36 37 ∷ symbol (Ident) 38 39 ∷ symbol (Ident) 39 40 ∷ symbol (Ident) 40 41 ∷ symbol (Ident) 42 46 ∷ symbol (Ident) 47 50 ∷ symbol (Ident) 50 51 ∷ symbol (Ident) 52 53 ∷ symbol (Ident) 54 55 ∷ symbol (Ident) 56 63 ∷ symbol (Ident) 64 66 ∷ symbol (Ident) 67 68 ∷ symbol (Ident) 68 69 ∷ symbol (Ident) 70 73 ∷ symbol (Ident) 74 75 ∷ symbol (Ident) 75 76 ∷ symbol (Ident) 77 78 ∷ symbol (Ident) 78 79 ∷ symbol (Ident) 80 85 ∷ symbol (Ident) 86 87 ∷ symbol (Ident) 87 88 ∷ symbol (Ident) 88 89 ∷ symbol (Ident) 90 92 ∷ symbol (Int (pos 1)) 93 94 ∷ symbol (Ident) 95 98 ∷ symbol (Ident) 99 100 ∷ symbol (Ident) 100 101 ∷ []) }; tree = record { module_word = 0; name = 1; semicolon = 0; imports = None; decls = (S.decls None (Some (record { type_word = 0; each = (record { name = (record { name = 4; star = None }); equal = 0; is = (S.Record 6 None (S.fields (record { first = (record { name = 7; star = None }); more = [] }) 0 (S.Named (record { name = 9; member = None }))) (S.next_fields 0 (S.fields (record { first = (record { name = 11; star = Some 0 }); more = [] }) 0 (S.Named (record { name = 14; member = None }))) S.no_more_fields) 0); semicolon = 0 } ∷ record { name = (record { name = 17; star = None }); equal = 0; is = (S.Pointer 19 0 (S.Named (record { name = 21; member = None }))); semicolon = 0 } ∷ []) })) (Some (record { var_word = 0; each = (record { names = (record { first = (record { name = 24; star = None }); more = [] }); colon = 0; of = (S.Named (record { name = 26; member = None })); semicolon = 0 } ∷ []) })) S.no_procedure); body = (Some (record { begin_word = 0; stats = (S.stats (S.AssignOrCall (record { name = 29; selectors = (S.selected (S.Field 0 31) S.no_selector) }) (Some (record { becomes = 0; value = (S.only (S.simple None (S.term (S.Int 33) S.no_factor) S.no_term)) }))) S.no_stat) })); end_word = 0; end_name = 35; period = 0 } }

pub unknown_4 : checked (unknown_4_0 ∷ []) ≡ Fault 0 30 88
unknown_4 = refl

-- MODULE M; TYPE R = RECORD x: INTEGER; y*: CHAR END; P = POINTER TO R; VAR p: P; BEGIN p^.w := 1 END M.
abbrev unknown_5_0 : Parsed
unknown_5_0 = record { source = record { bytes = (77 ∷ 79 ∷ 68 ∷ 85 ∷ 76 ∷ 69 ∷ 32 ∷ 77 ∷ 59 ∷ 32 ∷ 84 ∷ 89 ∷ 80 ∷ 69 ∷ 32 ∷ 82 ∷ 32 ∷ 61 ∷ 32 ∷ 82 ∷ 69 ∷ 67 ∷ 79 ∷ 82 ∷ 68 ∷ 32 ∷ 120 ∷ 58 ∷ 32 ∷ 73 ∷ 78 ∷ 84 ∷ 69 ∷ 71 ∷ 69 ∷ 82 ∷ 59 ∷ 32 ∷ 121 ∷ 42 ∷ 58 ∷ 32 ∷ 67 ∷ 72 ∷ 65 ∷ 82 ∷ 32 ∷ 69 ∷ 78 ∷ 68 ∷ 59 ∷ 32 ∷ 80 ∷ 32 ∷ 61 ∷ 32 ∷ 80 ∷ 79 ∷ 73 ∷ 78 ∷ 84 ∷ 69 ∷ 82 ∷ 32 ∷ 84 ∷ 79 ∷ 32 ∷ 82 ∷ 59 ∷ 32 ∷ 86 ∷ 65 ∷ 82 ∷ 32 ∷ 112 ∷ 58 ∷ 32 ∷ 80 ∷ 59 ∷ 32 ∷ 66 ∷ 69 ∷ 71 ∷ 73 ∷ 78 ∷ 32 ∷ 112 ∷ 94 ∷ 46 ∷ 119 ∷ 32 ∷ 58 ∷ 61 ∷ 32 ∷ 49 ∷ 32 ∷ 69 ∷ 78 ∷ 68 ∷ 32 ∷ 77 ∷ 46 ∷ []); symbols = (symbol (Ident) 0 6 ∷ symbol (Ident) 7 8 ∷ symbol (Ident) 8 9 ∷ symbol (Ident) 10 14 ∷ symbol (Ident) 15 16 ∷ symbol (Ident) 17 18 ∷ symbol (Ident) 19 25 ∷ symbol (Ident) 26 27 ∷ symbol (Ident) 27 28 ∷ symbol (Ident) 29 36 ∷ symbol (Ident) 36 37 ∷ symbol (Ident) 38 39 ∷ symbol (Ident) 39 40 ∷ symbol (Ident) 40 41 ∷ symbol (Ident) 42 46 ∷ symbol (Ident) 47 50 ∷ symbol (Ident) 50 51 ∷ symbol (Ident) 52 53 ∷ symbol (Ident) 54 55 ∷ symbol (Ident) 56 63 ∷ symbol (Ident) 64 66 ∷ symbol (Ident) 67 68 ∷ symbol (Ident) 68 69 ∷ symbol (Ident) 70 73 ∷ symbol (Ident) 74 75 ∷ symbol (Ident) 75 76 ∷ symbol (Ident) 77 78 ∷ symbol (Ident) 78 79 ∷ symbol (Ident) 80 85 ∷ symbol (Ident) 86 87 ∷ symbol (Ident) 87 88 ∷ symbol (Ident) 88 89 ∷ symbol (Ident) 89 90 ∷ symbol (Ident) 91 93 ∷ symbol (Int (pos 1)) 94 95 ∷ symbol (Ident) 96 99 ∷ symbol (Ident) 100 101 ∷ symbol (Ident) 101 102 ∷ []) }; tree = record { module_word = 0; name = 1; semicolon = 0; imports = None; decls = (S.decls None (Some (record { type_word = 0; each = (record { name = (record { name = 4; star = None }); equal = 0; is = (S.Record 6 None (S.fields (record { first = (record { name = 7; star = None }); more = [] }) 0 (S.Named (record { name = 9; member = None }))) (S.next_fields 0 (S.fields (record { first = (record { name = 11; star = Some 0 }); more = [] }) 0 (S.Named (record { name = 14; member = None }))) S.no_more_fields) 0); semicolon = 0 } ∷ record { name = (record { name = 17; star = None }); equal = 0; is = (S.Pointer 19 0 (S.Named (record { name = 21; member = None }))); semicolon = 0 } ∷ []) })) (Some (record { var_word = 0; each = (record { names = (record { first = (record { name = 24; star = None }); more = [] }); colon = 0; of = (S.Named (record { name = 26; member = None })); semicolon = 0 } ∷ []) })) S.no_procedure); body = (Some (record { begin_word = 0; stats = (S.stats (S.AssignOrCall (record { name = 29; selectors = (S.selected (S.Arrow 0) (S.selected (S.Field 0 32) S.no_selector)) }) (Some (record { becomes = 0; value = (S.only (S.simple None (S.term (S.Int 34) S.no_factor) S.no_term)) }))) S.no_stat) })); end_word = 0; end_name = 36; period = 0 } }

pub unknown_5 : checked (unknown_5_0 ∷ []) ≡ Fault 0 30 89
unknown_5 = refl

-- MODULE M; IMPORT In; VAR c: CHAR; BEGIN In.X(c) END M.
abbrev unknown_6_0 : Parsed
unknown_6_0 = record { source = record { bytes = (77 ∷ 79 ∷ 68 ∷ 85 ∷ 76 ∷ 69 ∷ 32 ∷ 77 ∷ 59 ∷ 32 ∷ 73 ∷ 77 ∷ 80 ∷ 79 ∷ 82 ∷ 84 ∷ 32 ∷ 73 ∷ 110 ∷ 59 ∷ 32 ∷ 86 ∷ 65 ∷ 82 ∷ 32 ∷ 99 ∷ 58 ∷ 32 ∷ 67 ∷ 72 ∷ 65 ∷ 82 ∷ 59 ∷ 32 ∷ 66 ∷ 69 ∷ 71 ∷ 73 ∷ 78 ∷ 32 ∷ 73 ∷ 110 ∷ 46 ∷ 88 ∷ 40 ∷ 99 ∷ 41 ∷ 32 ∷ 69 ∷ 78 ∷ 68 ∷ 32 ∷ 77 ∷ 46 ∷ []); symbols = (symbol (Ident) 0 6 ∷ symbol (Ident) 7 8 ∷ symbol (Ident) 8 9 ∷ symbol (Ident) 10 16 ∷ symbol (Ident) 17 19 ∷ symbol (Ident) 19 20 ∷ symbol (Ident) 21 24 ∷ symbol (Ident) 25 26 ∷ symbol (Ident) 26 27 ∷ symbol (Ident) 28 32 ∷ symbol (Ident) 32 33 ∷ symbol (Ident) 34 39 ∷ symbol (Ident) 40 42 ∷ symbol (Ident) 42 43 ∷ symbol (Ident) 43 44 ∷ symbol (Ident) 44 45 ∷ symbol (Ident) 45 46 ∷ symbol (Ident) 46 47 ∷ symbol (Ident) 48 51 ∷ symbol (Ident) 52 53 ∷ symbol (Ident) 53 54 ∷ []) }; tree = record { module_word = 0; name = 1; semicolon = 0; imports = Some (record { import_word = 0; first = (record { name = 4; of = None }); more = []; semicolon = 0 }); decls = (S.decls None None (Some (record { var_word = 0; each = (record { names = (record { first = (record { name = 7; star = None }); more = [] }); colon = 0; of = (S.Named (record { name = 9; member = None })); semicolon = 0 } ∷ []) })) S.no_procedure); body = (Some (record { begin_word = 0; stats = (S.stats (S.AssignOrCall (record { name = 12; selectors = (S.selected (S.Field 0 14) (S.selected (S.Parens 0 (S.expressions (S.only (S.simple None (S.term (S.Designated 16 S.no_selector) S.no_factor) S.no_term)) S.no_expression) 0) S.no_selector)) }) None) S.no_stat) })); end_word = 0; end_name = 19; period = 0 } }

pub unknown_6 : checked (unknown_6_0 ∷ []) ≡ Fault 0 30 43
unknown_6 = refl

-- MODULE M; IMPORT Out; BEGIN Out.Done END M.
abbrev unknown_7_0 : Parsed
unknown_7_0 = record { source = record { bytes = (77 ∷ 79 ∷ 68 ∷ 85 ∷ 76 ∷ 69 ∷ 32 ∷ 77 ∷ 59 ∷ 32 ∷ 73 ∷ 77 ∷ 80 ∷ 79 ∷ 82 ∷ 84 ∷ 32 ∷ 79 ∷ 117 ∷ 116 ∷ 59 ∷ 32 ∷ 66 ∷ 69 ∷ 71 ∷ 73 ∷ 78 ∷ 32 ∷ 79 ∷ 117 ∷ 116 ∷ 46 ∷ 68 ∷ 111 ∷ 110 ∷ 101 ∷ 32 ∷ 69 ∷ 78 ∷ 68 ∷ 32 ∷ 77 ∷ 46 ∷ []); symbols = (symbol (Ident) 0 6 ∷ symbol (Ident) 7 8 ∷ symbol (Ident) 8 9 ∷ symbol (Ident) 10 16 ∷ symbol (Ident) 17 20 ∷ symbol (Ident) 20 21 ∷ symbol (Ident) 22 27 ∷ symbol (Ident) 28 31 ∷ symbol (Ident) 31 32 ∷ symbol (Ident) 32 36 ∷ symbol (Ident) 37 40 ∷ symbol (Ident) 41 42 ∷ symbol (Ident) 42 43 ∷ []) }; tree = record { module_word = 0; name = 1; semicolon = 0; imports = Some (record { import_word = 0; first = (record { name = 4; of = None }); more = []; semicolon = 0 }); decls = (S.decls None None None S.no_procedure); body = (Some (record { begin_word = 0; stats = (S.stats (S.AssignOrCall (record { name = 7; selectors = (S.selected (S.Field 0 9) S.no_selector) }) None) S.no_stat) })); end_word = 0; end_name = 11; period = 0 } }

pub unknown_7 : checked (unknown_7_0 ∷ []) ≡ Fault 0 30 32
unknown_7 = refl

-- MODULE M; VAR i: INTEGER; PROCEDURE F(x: INTEGER): INTEGER; RETURN x END F; BEGIN i := F(k) END M.
abbrev unknown_8_0 : Parsed
unknown_8_0 = record { source = record { bytes = (77 ∷ 79 ∷ 68 ∷ 85 ∷ 76 ∷ 69 ∷ 32 ∷ 77 ∷ 59 ∷ 32 ∷ 86 ∷ 65 ∷ 82 ∷ 32 ∷ 105 ∷ 58 ∷ 32 ∷ 73 ∷ 78 ∷ 84 ∷ 69 ∷ 71 ∷ 69 ∷ 82 ∷ 59 ∷ 32 ∷ 80 ∷ 82 ∷ 79 ∷ 67 ∷ 69 ∷ 68 ∷ 85 ∷ 82 ∷ 69 ∷ 32 ∷ 70 ∷ 40 ∷ 120 ∷ 58 ∷ 32 ∷ 73 ∷ 78 ∷ 84 ∷ 69 ∷ 71 ∷ 69 ∷ 82 ∷ 41 ∷ 58 ∷ 32 ∷ 73 ∷ 78 ∷ 84 ∷ 69 ∷ 71 ∷ 69 ∷ 82 ∷ 59 ∷ 32 ∷ 82 ∷ 69 ∷ 84 ∷ 85 ∷ 82 ∷ 78 ∷ 32 ∷ 120 ∷ 32 ∷ 69 ∷ 78 ∷ 68 ∷ 32 ∷ 70 ∷ 59 ∷ 32 ∷ 66 ∷ 69 ∷ 71 ∷ 73 ∷ 78 ∷ 32 ∷ 105 ∷ 32 ∷ 58 ∷ 61 ∷ 32 ∷ 70 ∷ 40 ∷ 107 ∷ 41 ∷ 32 ∷ 69 ∷ 78 ∷ 68 ∷ 32 ∷ 77 ∷ 46 ∷ []); symbols = (symbol (Ident) 0 6 ∷ symbol (Ident) 7 8 ∷ symbol (Ident) 8 9 ∷ symbol (Ident) 10 13 ∷ symbol (Ident) 14 15 ∷ symbol (Ident) 15 16 ∷ symbol (Ident) 17 24 ∷ symbol (Ident) 24 25 ∷ symbol (Ident) 26 35 ∷ symbol (Ident) 36 37 ∷ symbol (Ident) 37 38 ∷ symbol (Ident) 38 39 ∷ symbol (Ident) 39 40 ∷ symbol (Ident) 41 48 ∷ symbol (Ident) 48 49 ∷ symbol (Ident) 49 50 ∷ symbol (Ident) 51 58 ∷ symbol (Ident) 58 59 ∷ symbol (Ident) 60 66 ∷ symbol (Ident) 67 68 ∷ symbol (Ident) 69 72 ∷ symbol (Ident) 73 74 ∷ symbol (Ident) 74 75 ∷ symbol (Ident) 76 81 ∷ symbol (Ident) 82 83 ∷ symbol (Ident) 84 86 ∷ symbol (Ident) 87 88 ∷ symbol (Ident) 88 89 ∷ symbol (Ident) 89 90 ∷ symbol (Ident) 90 91 ∷ symbol (Ident) 92 95 ∷ symbol (Ident) 96 97 ∷ symbol (Ident) 97 98 ∷ []) }; tree = record { module_word = 0; name = 1; semicolon = 0; imports = None; decls = (S.decls None None (Some (record { var_word = 0; each = (record { names = (record { first = (record { name = 4; star = None }); more = [] }); colon = 0; of = (S.Named (record { name = 6; member = None })); semicolon = 0 } ∷ []) })) (S.procedure 0 (record { name = 9; star = None }) (Some (record { left_paren = 0; sections = Some (record { first = (record { var_word = None; first = 11; more = []; colon = 0; open_array = None; of = (record { name = 13; member = None }) }); more = [] }); right_paren = 0; result = Some (record { colon = 0; name = (record { name = 16; member = None }) }) })) 0 (S.decls None None None S.no_procedure) None (Some (record { return_word = 18; value = (S.only (S.simple None (S.term (S.Designated 19 S.no_selector) S.no_factor) S.no_term)) })) 20 21 0 S.no_procedure)); body = (Some (record { begin_word = 0; stats = (S.stats (S.AssignOrCall (record { name = 24; selectors = S.no_selector }) (Some (record { becomes = 0; value = (S.only (S.simple None (S.term (S.Designated 26 (S.selected (S.Parens 0 (S.expressions (S.only (S.simple None (S.term (S.Designated 28 S.no_selector) S.no_factor) S.no_term)) S.no_expression) 0) S.no_selector)) S.no_factor) S.no_term)) }))) S.no_stat) })); end_word = 0; end_name = 31; period = 0 } }

pub unknown_8 : checked (unknown_8_0 ∷ []) ≡ Fault 0 30 89
unknown_8 = refl

-- MODULE M; VAR a: ARRAY 3 OF INTEGER; BEGIN a[k] := 1 END M.
abbrev unknown_9_0 : Parsed
unknown_9_0 = record { source = record { bytes = (77 ∷ 79 ∷ 68 ∷ 85 ∷ 76 ∷ 69 ∷ 32 ∷ 77 ∷ 59 ∷ 32 ∷ 86 ∷ 65 ∷ 82 ∷ 32 ∷ 97 ∷ 58 ∷ 32 ∷ 65 ∷ 82 ∷ 82 ∷ 65 ∷ 89 ∷ 32 ∷ 51 ∷ 32 ∷ 79 ∷ 70 ∷ 32 ∷ 73 ∷ 78 ∷ 84 ∷ 69 ∷ 71 ∷ 69 ∷ 82 ∷ 59 ∷ 32 ∷ 66 ∷ 69 ∷ 71 ∷ 73 ∷ 78 ∷ 32 ∷ 97 ∷ 91 ∷ 107 ∷ 93 ∷ 32 ∷ 58 ∷ 61 ∷ 32 ∷ 49 ∷ 32 ∷ 69 ∷ 78 ∷ 68 ∷ 32 ∷ 77 ∷ 46 ∷ []); symbols = (symbol (Ident) 0 6 ∷ symbol (Ident) 7 8 ∷ symbol (Ident) 8 9 ∷ symbol (Ident) 10 13 ∷ symbol (Ident) 14 15 ∷ symbol (Ident) 15 16 ∷ symbol (Ident) 17 22 ∷ symbol (Int (pos 3)) 23 24 ∷ symbol (Ident) 25 27 ∷ symbol (Ident) 28 35 ∷ symbol (Ident) 35 36 ∷ symbol (Ident) 37 42 ∷ symbol (Ident) 43 44 ∷ symbol (Ident) 44 45 ∷ symbol (Ident) 45 46 ∷ symbol (Ident) 46 47 ∷ symbol (Ident) 48 50 ∷ symbol (Int (pos 1)) 51 52 ∷ symbol (Ident) 53 56 ∷ symbol (Ident) 57 58 ∷ symbol (Ident) 58 59 ∷ []) }; tree = record { module_word = 0; name = 1; semicolon = 0; imports = None; decls = (S.decls None None (Some (record { var_word = 0; each = (record { names = (record { first = (record { name = 4; star = None }); more = [] }); colon = 0; of = (S.Array 6 (S.only (S.simple None (S.term (S.Int 7) S.no_factor) S.no_term)) S.no_expression 0 (S.Named (record { name = 9; member = None }))); semicolon = 0 } ∷ []) })) S.no_procedure); body = (Some (record { begin_word = 0; stats = (S.stats (S.AssignOrCall (record { name = 12; selectors = (S.selected (S.Index 0 (S.expressions (S.only (S.simple None (S.term (S.Designated 14 S.no_selector) S.no_factor) S.no_term)) S.no_expression) 0) S.no_selector) }) (Some (record { becomes = 0; value = (S.only (S.simple None (S.term (S.Int 17) S.no_factor) S.no_term)) }))) S.no_stat) })); end_word = 0; end_name = 19; period = 0 } }

pub unknown_9 : checked (unknown_9_0 ∷ []) ≡ Fault 0 30 45
unknown_9 = refl

-- MODULE M; BEGIN IF k THEN END END M.
abbrev unknown_10_0 : Parsed
unknown_10_0 = record { source = record { bytes = (77 ∷ 79 ∷ 68 ∷ 85 ∷ 76 ∷ 69 ∷ 32 ∷ 77 ∷ 59 ∷ 32 ∷ 66 ∷ 69 ∷ 71 ∷ 73 ∷ 78 ∷ 32 ∷ 73 ∷ 70 ∷ 32 ∷ 107 ∷ 32 ∷ 84 ∷ 72 ∷ 69 ∷ 78 ∷ 32 ∷ 69 ∷ 78 ∷ 68 ∷ 32 ∷ 69 ∷ 78 ∷ 68 ∷ 32 ∷ 77 ∷ 46 ∷ []); symbols = (symbol (Ident) 0 6 ∷ symbol (Ident) 7 8 ∷ symbol (Ident) 8 9 ∷ symbol (Ident) 10 15 ∷ symbol (Ident) 16 18 ∷ symbol (Ident) 19 20 ∷ symbol (Ident) 21 25 ∷ symbol (Ident) 26 29 ∷ symbol (Ident) 30 33 ∷ symbol (Ident) 34 35 ∷ symbol (Ident) 35 36 ∷ []) }; tree = record { module_word = 0; name = 1; semicolon = 0; imports = None; decls = (S.decls None None None S.no_procedure); body = (Some (record { begin_word = 0; stats = (S.stats (S.If 0 (S.only (S.simple None (S.term (S.Designated 5 S.no_selector) S.no_factor) S.no_term)) 0 (S.stats S.Empty S.no_stat) S.no_elsif S.no_else 0) S.no_stat) })); end_word = 0; end_name = 9; period = 0 } }

pub unknown_10 : checked (unknown_10_0 ∷ []) ≡ Fault 0 30 19
unknown_10 = refl

-- MODULE M; BEGIN FOR k := 0 TO 1 DO END END M.
abbrev unknown_11_0 : Parsed
unknown_11_0 = record { source = record { bytes = (77 ∷ 79 ∷ 68 ∷ 85 ∷ 76 ∷ 69 ∷ 32 ∷ 77 ∷ 59 ∷ 32 ∷ 66 ∷ 69 ∷ 71 ∷ 73 ∷ 78 ∷ 32 ∷ 70 ∷ 79 ∷ 82 ∷ 32 ∷ 107 ∷ 32 ∷ 58 ∷ 61 ∷ 32 ∷ 48 ∷ 32 ∷ 84 ∷ 79 ∷ 32 ∷ 49 ∷ 32 ∷ 68 ∷ 79 ∷ 32 ∷ 69 ∷ 78 ∷ 68 ∷ 32 ∷ 69 ∷ 78 ∷ 68 ∷ 32 ∷ 77 ∷ 46 ∷ []); symbols = (symbol (Ident) 0 6 ∷ symbol (Ident) 7 8 ∷ symbol (Ident) 8 9 ∷ symbol (Ident) 10 15 ∷ symbol (Ident) 16 19 ∷ symbol (Ident) 20 21 ∷ symbol (Ident) 22 24 ∷ symbol (Int (pos 0)) 25 26 ∷ symbol (Ident) 27 29 ∷ symbol (Int (pos 1)) 30 31 ∷ symbol (Ident) 32 34 ∷ symbol (Ident) 35 38 ∷ symbol (Ident) 39 42 ∷ symbol (Ident) 43 44 ∷ symbol (Ident) 44 45 ∷ []) }; tree = record { module_word = 0; name = 1; semicolon = 0; imports = None; decls = (S.decls None None None S.no_procedure); body = (Some (record { begin_word = 0; stats = (S.stats (S.For 0 5 0 (S.only (S.simple None (S.term (S.Int 7) S.no_factor) S.no_term)) 0 (S.only (S.simple None (S.term (S.Int 9) S.no_factor) S.no_term)) None 0 (S.stats S.Empty S.no_stat) 0) S.no_stat) })); end_word = 0; end_name = 13; period = 0 } }

pub unknown_11 : checked (unknown_11_0 ∷ []) ≡ Fault 0 30 20
unknown_11 = refl

-- MODULE M; VAR i: INTEGER; BEGIN CASE i OF k: END END M.
abbrev unknown_12_0 : Parsed
unknown_12_0 = record { source = record { bytes = (77 ∷ 79 ∷ 68 ∷ 85 ∷ 76 ∷ 69 ∷ 32 ∷ 77 ∷ 59 ∷ 32 ∷ 86 ∷ 65 ∷ 82 ∷ 32 ∷ 105 ∷ 58 ∷ 32 ∷ 73 ∷ 78 ∷ 84 ∷ 69 ∷ 71 ∷ 69 ∷ 82 ∷ 59 ∷ 32 ∷ 66 ∷ 69 ∷ 71 ∷ 73 ∷ 78 ∷ 32 ∷ 67 ∷ 65 ∷ 83 ∷ 69 ∷ 32 ∷ 105 ∷ 32 ∷ 79 ∷ 70 ∷ 32 ∷ 107 ∷ 58 ∷ 32 ∷ 69 ∷ 78 ∷ 68 ∷ 32 ∷ 69 ∷ 78 ∷ 68 ∷ 32 ∷ 77 ∷ 46 ∷ []); symbols = (symbol (Ident) 0 6 ∷ symbol (Ident) 7 8 ∷ symbol (Ident) 8 9 ∷ symbol (Ident) 10 13 ∷ symbol (Ident) 14 15 ∷ symbol (Ident) 15 16 ∷ symbol (Ident) 17 24 ∷ symbol (Ident) 24 25 ∷ symbol (Ident) 26 31 ∷ symbol (Ident) 32 36 ∷ symbol (Ident) 37 38 ∷ symbol (Ident) 39 41 ∷ symbol (Ident) 42 43 ∷ symbol (Ident) 43 44 ∷ symbol (Ident) 45 48 ∷ symbol (Ident) 49 52 ∷ symbol (Ident) 53 54 ∷ symbol (Ident) 54 55 ∷ []) }; tree = record { module_word = 0; name = 1; semicolon = 0; imports = None; decls = (S.decls None None (Some (record { var_word = 0; each = (record { names = (record { first = (record { name = 4; star = None }); more = [] }); colon = 0; of = (S.Named (record { name = 6; member = None })); semicolon = 0 } ∷ []) })) S.no_procedure); body = (Some (record { begin_word = 0; stats = (S.stats (S.Case 0 (S.only (S.simple None (S.term (S.Designated 10 S.no_selector) S.no_factor) S.no_term)) 0 (S.one_case (record { low = TheLabel.Named (record { name = 12; member = None }); high = None }) [] 0 (S.stats S.Empty S.no_stat)) S.no_next_case 0) S.no_stat) })); end_word = 0; end_name = 16; period = 0 } }

pub unknown_12 : checked (unknown_12_0 ∷ []) ≡ Fault 0 30 42
unknown_12 = refl

-- MODULE M; TYPE R = RECORD x: INTEGER; y*: CHAR END; P = POINTER TO R; VAR p: P; BEGIN CASE p OF k: END END M.
abbrev unknown_13_0 : Parsed
unknown_13_0 = record { source = record { bytes = (77 ∷ 79 ∷ 68 ∷ 85 ∷ 76 ∷ 69 ∷ 32 ∷ 77 ∷ 59 ∷ 32 ∷ 84 ∷ 89 ∷ 80 ∷ 69 ∷ 32 ∷ 82 ∷ 32 ∷ 61 ∷ 32 ∷ 82 ∷ 69 ∷ 67 ∷ 79 ∷ 82 ∷ 68 ∷ 32 ∷ 120 ∷ 58 ∷ 32 ∷ 73 ∷ 78 ∷ 84 ∷ 69 ∷ 71 ∷ 69 ∷ 82 ∷ 59 ∷ 32 ∷ 121 ∷ 42 ∷ 58 ∷ 32 ∷ 67 ∷ 72 ∷ 65 ∷ 82 ∷ 32 ∷ 69 ∷ 78 ∷ 68 ∷ 59 ∷ 32 ∷ 80 ∷ 32 ∷ 61 ∷ 32 ∷ 80 ∷ 79 ∷ 73 ∷ 78 ∷ 84 ∷ 69 ∷ 82 ∷ 32 ∷ 84 ∷ 79 ∷ 32 ∷ 82 ∷ 59 ∷ 32 ∷ 86 ∷ 65 ∷ 82 ∷ 32 ∷ 112 ∷ 58 ∷ 32 ∷ 80 ∷ 59 ∷ 32 ∷ 66 ∷ 69 ∷ 71 ∷ 73 ∷ 78 ∷ 32 ∷ 67 ∷ 65 ∷ 83 ∷ 69 ∷ 32 ∷ 112 ∷ 32 ∷ 79 ∷ 70 ∷ 32 ∷ 107 ∷ 58 ∷ 32 ∷ 69 ∷ 78 ∷ 68 ∷ 32 ∷ 69 ∷ 78 ∷ 68 ∷ 32 ∷ 77 ∷ 46 ∷ []); symbols = (symbol (Ident) 0 6 ∷ symbol (Ident) 7 8 ∷ symbol (Ident) 8 9 ∷ symbol (Ident) 10 14 ∷ symbol (Ident) 15 16 ∷ symbol (Ident) 17 18 ∷ symbol (Ident) 19 25 ∷ symbol (Ident) 26 27 ∷ symbol (Ident) 27 28 ∷ symbol (Ident) 29 36 ∷ symbol (Ident) 36 37 ∷ symbol (Ident) 38 39 ∷ symbol (Ident) 39 40 ∷ symbol (Ident) 40 41 ∷ symbol (Ident) 42 46 ∷ symbol (Ident) 47 50 ∷ symbol (Ident) 50 51 ∷ symbol (Ident) 52 53 ∷ symbol (Ident) 54 55 ∷ symbol (Ident) 56 63 ∷ symbol (Ident) 64 66 ∷ symbol (Ident) 67 68 ∷ symbol (Ident) 68 69 ∷ symbol (Ident) 70 73 ∷ symbol (Ident) 74 75 ∷ symbol (Ident) 75 76 ∷ symbol (Ident) 77 78 ∷ symbol (Ident) 78 79 ∷ symbol (Ident) 80 85 ∷ symbol (Ident) 86 90 ∷ symbol (Ident) 91 92 ∷ symbol (Ident) 93 95 ∷ symbol (Ident) 96 97 ∷ symbol (Ident) 97 98 ∷ symbol (Ident) 99 102 ∷ symbol (Ident) 103 106 ∷ symbol (Ident) 107 108 ∷ symbol (Ident) 108 109 ∷ []) }; tree = record { module_word = 0; name = 1; semicolon = 0; imports = None; decls = (S.decls None (Some (record { type_word = 0; each = (record { name = (record { name = 4; star = None }); equal = 0; is = (S.Record 6 None (S.fields (record { first = (record { name = 7; star = None }); more = [] }) 0 (S.Named (record { name = 9; member = None }))) (S.next_fields 0 (S.fields (record { first = (record { name = 11; star = Some 0 }); more = [] }) 0 (S.Named (record { name = 14; member = None }))) S.no_more_fields) 0); semicolon = 0 } ∷ record { name = (record { name = 17; star = None }); equal = 0; is = (S.Pointer 19 0 (S.Named (record { name = 21; member = None }))); semicolon = 0 } ∷ []) })) (Some (record { var_word = 0; each = (record { names = (record { first = (record { name = 24; star = None }); more = [] }); colon = 0; of = (S.Named (record { name = 26; member = None })); semicolon = 0 } ∷ []) })) S.no_procedure); body = (Some (record { begin_word = 0; stats = (S.stats (S.Case 0 (S.only (S.simple None (S.term (S.Designated 30 S.no_selector) S.no_factor) S.no_term)) 0 (S.one_case (record { low = TheLabel.Named (record { name = 32; member = None }); high = None }) [] 0 (S.stats S.Empty S.no_stat)) S.no_next_case 0) S.no_stat) })); end_word = 0; end_name = 36; period = 0 } }

pub unknown_13 : checked (unknown_13_0 ∷ []) ≡ Fault 0 30 96
unknown_13 = refl

-- MODULE M; VAR i: INTEGER; BEGIN i := LEN(k) END M.
abbrev unknown_14_0 : Parsed
unknown_14_0 = record { source = record { bytes = (77 ∷ 79 ∷ 68 ∷ 85 ∷ 76 ∷ 69 ∷ 32 ∷ 77 ∷ 59 ∷ 32 ∷ 86 ∷ 65 ∷ 82 ∷ 32 ∷ 105 ∷ 58 ∷ 32 ∷ 73 ∷ 78 ∷ 84 ∷ 69 ∷ 71 ∷ 69 ∷ 82 ∷ 59 ∷ 32 ∷ 66 ∷ 69 ∷ 71 ∷ 73 ∷ 78 ∷ 32 ∷ 105 ∷ 32 ∷ 58 ∷ 61 ∷ 32 ∷ 76 ∷ 69 ∷ 78 ∷ 40 ∷ 107 ∷ 41 ∷ 32 ∷ 69 ∷ 78 ∷ 68 ∷ 32 ∷ 77 ∷ 46 ∷ []); symbols = (symbol (Ident) 0 6 ∷ symbol (Ident) 7 8 ∷ symbol (Ident) 8 9 ∷ symbol (Ident) 10 13 ∷ symbol (Ident) 14 15 ∷ symbol (Ident) 15 16 ∷ symbol (Ident) 17 24 ∷ symbol (Ident) 24 25 ∷ symbol (Ident) 26 31 ∷ symbol (Ident) 32 33 ∷ symbol (Ident) 34 36 ∷ symbol (Ident) 37 40 ∷ symbol (Ident) 40 41 ∷ symbol (Ident) 41 42 ∷ symbol (Ident) 42 43 ∷ symbol (Ident) 44 47 ∷ symbol (Ident) 48 49 ∷ symbol (Ident) 49 50 ∷ []) }; tree = record { module_word = 0; name = 1; semicolon = 0; imports = None; decls = (S.decls None None (Some (record { var_word = 0; each = (record { names = (record { first = (record { name = 4; star = None }); more = [] }); colon = 0; of = (S.Named (record { name = 6; member = None })); semicolon = 0 } ∷ []) })) S.no_procedure); body = (Some (record { begin_word = 0; stats = (S.stats (S.AssignOrCall (record { name = 9; selectors = S.no_selector }) (Some (record { becomes = 0; value = (S.only (S.simple None (S.term (S.Designated 11 (S.selected (S.Parens 0 (S.expressions (S.only (S.simple None (S.term (S.Designated 13 S.no_selector) S.no_factor) S.no_term)) S.no_expression) 0) S.no_selector)) S.no_factor) S.no_term)) }))) S.no_stat) })); end_word = 0; end_name = 16; period = 0 } }

pub unknown_14 : checked (unknown_14_0 ∷ []) ≡ Fault 0 30 41
unknown_14 = refl

-- MODULE M; TYPE R = RECORD x: INTEGER; y*: CHAR END; P = POINTER TO R; VAR b: BOOLEAN; p: P; BEGIN b := p IS K END M.
abbrev unknown_15_0 : Parsed
unknown_15_0 = record { source = record { bytes = (77 ∷ 79 ∷ 68 ∷ 85 ∷ 76 ∷ 69 ∷ 32 ∷ 77 ∷ 59 ∷ 32 ∷ 84 ∷ 89 ∷ 80 ∷ 69 ∷ 32 ∷ 82 ∷ 32 ∷ 61 ∷ 32 ∷ 82 ∷ 69 ∷ 67 ∷ 79 ∷ 82 ∷ 68 ∷ 32 ∷ 120 ∷ 58 ∷ 32 ∷ 73 ∷ 78 ∷ 84 ∷ 69 ∷ 71 ∷ 69 ∷ 82 ∷ 59 ∷ 32 ∷ 121 ∷ 42 ∷ 58 ∷ 32 ∷ 67 ∷ 72 ∷ 65 ∷ 82 ∷ 32 ∷ 69 ∷ 78 ∷ 68 ∷ 59 ∷ 32 ∷ 80 ∷ 32 ∷ 61 ∷ 32 ∷ 80 ∷ 79 ∷ 73 ∷ 78 ∷ 84 ∷ 69 ∷ 82 ∷ 32 ∷ 84 ∷ 79 ∷ 32 ∷ 82 ∷ 59 ∷ 32 ∷ 86 ∷ 65 ∷ 82 ∷ 32 ∷ 98 ∷ 58 ∷ 32 ∷ 66 ∷ 79 ∷ 79 ∷ 76 ∷ 69 ∷ 65 ∷ 78 ∷ 59 ∷ 32 ∷ 112 ∷ 58 ∷ 32 ∷ 80 ∷ 59 ∷ 32 ∷ 66 ∷ 69 ∷ 71 ∷ 73 ∷ 78 ∷ 32 ∷ 98 ∷ 32 ∷ 58 ∷ 61 ∷ 32 ∷ 112 ∷ 32 ∷ 73 ∷ 83 ∷ 32 ∷ 75 ∷ 32 ∷ 69 ∷ 78 ∷ 68 ∷ 32 ∷ 77 ∷ 46 ∷ []); symbols = (symbol (Ident) 0 6 ∷ symbol (Ident) 7 8 ∷ symbol (Ident) 8 9 ∷ symbol (Ident) 10 14 ∷ symbol (Ident) 15 16 ∷ symbol (Ident) 17 18 ∷ symbol (Ident) 19 25 ∷ symbol (Ident) 26 27 ∷ symbol (Ident) 27 28 ∷ symbol (Ident) 29 36 ∷ symbol (Ident) 36 37 ∷ symbol (Ident) 38 39 ∷ symbol (Ident) 39 40 ∷ symbol (Ident) 40 41 ∷ symbol (Ident) 42 46 ∷ symbol (Ident) 47 50 ∷ symbol (Ident) 50 51 ∷ symbol (Ident) 52 53 ∷ symbol (Ident) 54 55 ∷ symbol (Ident) 56 63 ∷ symbol (Ident) 64 66 ∷ symbol (Ident) 67 68 ∷ symbol (Ident) 68 69 ∷ symbol (Ident) 70 73 ∷ symbol (Ident) 74 75 ∷ symbol (Ident) 75 76 ∷ symbol (Ident) 77 84 ∷ symbol (Ident) 84 85 ∷ symbol (Ident) 86 87 ∷ symbol (Ident) 87 88 ∷ symbol (Ident) 89 90 ∷ symbol (Ident) 90 91 ∷ symbol (Ident) 92 97 ∷ symbol (Ident) 98 99 ∷ symbol (Ident) 100 102 ∷ symbol (Ident) 103 104 ∷ symbol (Ident) 105 107 ∷ symbol (Ident) 108 109 ∷ symbol (Ident) 110 113 ∷ symbol (Ident) 114 115 ∷ symbol (Ident) 115 116 ∷ []) }; tree = record { module_word = 0; name = 1; semicolon = 0; imports = None; decls = (S.decls None (Some (record { type_word = 0; each = (record { name = (record { name = 4; star = None }); equal = 0; is = (S.Record 6 None (S.fields (record { first = (record { name = 7; star = None }); more = [] }) 0 (S.Named (record { name = 9; member = None }))) (S.next_fields 0 (S.fields (record { first = (record { name = 11; star = Some 0 }); more = [] }) 0 (S.Named (record { name = 14; member = None }))) S.no_more_fields) 0); semicolon = 0 } ∷ record { name = (record { name = 17; star = None }); equal = 0; is = (S.Pointer 19 0 (S.Named (record { name = 21; member = None }))); semicolon = 0 } ∷ []) })) (Some (record { var_word = 0; each = (record { names = (record { first = (record { name = 24; star = None }); more = [] }); colon = 0; of = (S.Named (record { name = 26; member = None })); semicolon = 0 } ∷ record { names = (record { first = (record { name = 28; star = None }); more = [] }); colon = 0; of = (S.Named (record { name = 30; member = None })); semicolon = 0 } ∷ []) })) S.no_procedure); body = (Some (record { begin_word = 0; stats = (S.stats (S.AssignOrCall (record { name = 33; selectors = S.no_selector }) (Some (record { becomes = 0; value = (S.compared (S.simple None (S.term (S.Designated 35 S.no_selector) S.no_factor) S.no_term) (TheRelation.Is 36) (S.simple None (S.term (S.Designated 37 S.no_selector) S.no_factor) S.no_term)) }))) S.no_stat) })); end_word = 0; end_name = 39; period = 0 } }

pub unknown_15 : checked (unknown_15_0 ∷ []) ≡ Fault 0 30 108
unknown_15 = refl

-- MODULE M; TYPE R = RECORD x: INTEGER; y*: CHAR END; E = RECORD (R) z: SET END; P = POINTER TO R; Q = POINTER TO E; VAR p: P; q: Q; BEGIN q := p(K) END M.
abbrev unknown_16_0 : Parsed
unknown_16_0 = record { source = record { bytes = (77 ∷ 79 ∷ 68 ∷ 85 ∷ 76 ∷ 69 ∷ 32 ∷ 77 ∷ 59 ∷ 32 ∷ 84 ∷ 89 ∷ 80 ∷ 69 ∷ 32 ∷ 82 ∷ 32 ∷ 61 ∷ 32 ∷ 82 ∷ 69 ∷ 67 ∷ 79 ∷ 82 ∷ 68 ∷ 32 ∷ 120 ∷ 58 ∷ 32 ∷ 73 ∷ 78 ∷ 84 ∷ 69 ∷ 71 ∷ 69 ∷ 82 ∷ 59 ∷ 32 ∷ 121 ∷ 42 ∷ 58 ∷ 32 ∷ 67 ∷ 72 ∷ 65 ∷ 82 ∷ 32 ∷ 69 ∷ 78 ∷ 68 ∷ 59 ∷ 32 ∷ 69 ∷ 32 ∷ 61 ∷ 32 ∷ 82 ∷ 69 ∷ 67 ∷ 79 ∷ 82 ∷ 68 ∷ 32 ∷ 40 ∷ 82 ∷ 41 ∷ 32 ∷ 122 ∷ 58 ∷ 32 ∷ 83 ∷ 69 ∷ 84 ∷ 32 ∷ 69 ∷ 78 ∷ 68 ∷ 59 ∷ 32 ∷ 80 ∷ 32 ∷ 61 ∷ 32 ∷ 80 ∷ 79 ∷ 73 ∷ 78 ∷ 84 ∷ 69 ∷ 82 ∷ 32 ∷ 84 ∷ 79 ∷ 32 ∷ 82 ∷ 59 ∷ 32 ∷ 81 ∷ 32 ∷ 61 ∷ 32 ∷ 80 ∷ 79 ∷ 73 ∷ 78 ∷ 84 ∷ 69 ∷ 82 ∷ 32 ∷ 84 ∷ 79 ∷ 32 ∷ 69 ∷ 59 ∷ 32 ∷ 86 ∷ 65 ∷ 82 ∷ 32 ∷ 112 ∷ 58 ∷ 32 ∷ 80 ∷ 59 ∷ 32 ∷ 113 ∷ 58 ∷ 32 ∷ 81 ∷ 59 ∷ 32 ∷ 66 ∷ 69 ∷ 71 ∷ 73 ∷ 78 ∷ 32 ∷ 113 ∷ 32 ∷ 58 ∷ 61 ∷ 32 ∷ 112 ∷ 40 ∷ 75 ∷ 41 ∷ 32 ∷ 69 ∷ 78 ∷ 68 ∷ 32 ∷ 77 ∷ 46 ∷ []); symbols = (symbol (Ident) 0 6 ∷ symbol (Ident) 7 8 ∷ symbol (Ident) 8 9 ∷ symbol (Ident) 10 14 ∷ symbol (Ident) 15 16 ∷ symbol (Ident) 17 18 ∷ symbol (Ident) 19 25 ∷ symbol (Ident) 26 27 ∷ symbol (Ident) 27 28 ∷ symbol (Ident) 29 36 ∷ symbol (Ident) 36 37 ∷ symbol (Ident) 38 39 ∷ symbol (Ident) 39 40 ∷ symbol (Ident) 40 41 ∷ symbol (Ident) 42 46 ∷ symbol (Ident) 47 50 ∷ symbol (Ident) 50 51 ∷ symbol (Ident) 52 53 ∷ symbol (Ident) 54 55 ∷ symbol (Ident) 56 62 ∷ symbol (Ident) 63 64 ∷ symbol (Ident) 64 65 ∷ symbol (Ident) 65 66 ∷ symbol (Ident) 67 68 ∷ symbol (Ident) 68 69 ∷ symbol (Ident) 70 73 ∷ symbol (Ident) 74 77 ∷ symbol (Ident) 77 78 ∷ symbol (Ident) 79 80 ∷ symbol (Ident) 81 82 ∷ symbol (Ident) 83 90 ∷ symbol (Ident) 91 93 ∷ symbol (Ident) 94 95 ∷ symbol (Ident) 95 96 ∷ symbol (Ident) 97 98 ∷ symbol (Ident) 99 100 ∷ symbol (Ident) 101 108 ∷ symbol (Ident) 109 111 ∷ symbol (Ident) 112 113 ∷ symbol (Ident) 113 114 ∷ symbol (Ident) 115 118 ∷ symbol (Ident) 119 120 ∷ symbol (Ident) 120 121 ∷ symbol (Ident) 122 123 ∷ symbol (Ident) 123 124 ∷ symbol (Ident) 125 126 ∷ symbol (Ident) 126 127 ∷ symbol (Ident) 128 129 ∷ symbol (Ident) 129 130 ∷ symbol (Ident) 131 136 ∷ symbol (Ident) 137 138 ∷ symbol (Ident) 139 141 ∷ symbol (Ident) 142 143 ∷ symbol (Ident) 143 144 ∷ symbol (Ident) 144 145 ∷ symbol (Ident) 145 146 ∷ symbol (Ident) 147 150 ∷ symbol (Ident) 151 152 ∷ symbol (Ident) 152 153 ∷ []) }; tree = record { module_word = 0; name = 1; semicolon = 0; imports = None; decls = (S.decls None (Some (record { type_word = 0; each = (record { name = (record { name = 4; star = None }); equal = 0; is = (S.Record 6 None (S.fields (record { first = (record { name = 7; star = None }); more = [] }) 0 (S.Named (record { name = 9; member = None }))) (S.next_fields 0 (S.fields (record { first = (record { name = 11; star = Some 0 }); more = [] }) 0 (S.Named (record { name = 14; member = None }))) S.no_more_fields) 0); semicolon = 0 } ∷ record { name = (record { name = 17; star = None }); equal = 0; is = (S.Record 19 (Some (record { left_paren = 0; name = (record { name = 21; member = None }); right_paren = 0 })) (S.fields (record { first = (record { name = 23; star = None }); more = [] }) 0 (S.Named (record { name = 25; member = None }))) S.no_more_fields 0); semicolon = 0 } ∷ record { name = (record { name = 28; star = None }); equal = 0; is = (S.Pointer 30 0 (S.Named (record { name = 32; member = None }))); semicolon = 0 } ∷ record { name = (record { name = 34; star = None }); equal = 0; is = (S.Pointer 36 0 (S.Named (record { name = 38; member = None }))); semicolon = 0 } ∷ []) })) (Some (record { var_word = 0; each = (record { names = (record { first = (record { name = 41; star = None }); more = [] }); colon = 0; of = (S.Named (record { name = 43; member = None })); semicolon = 0 } ∷ record { names = (record { first = (record { name = 45; star = None }); more = [] }); colon = 0; of = (S.Named (record { name = 47; member = None })); semicolon = 0 } ∷ []) })) S.no_procedure); body = (Some (record { begin_word = 0; stats = (S.stats (S.AssignOrCall (record { name = 50; selectors = S.no_selector }) (Some (record { becomes = 0; value = (S.only (S.simple None (S.term (S.Designated 52 (S.selected (S.Parens 0 (S.expressions (S.only (S.simple None (S.term (S.Designated 54 S.no_selector) S.no_factor) S.no_term)) S.no_expression) 0) S.no_selector)) S.no_factor) S.no_term)) }))) S.no_stat) })); end_word = 0; end_name = 57; period = 0 } }

pub unknown_16 : checked (unknown_16_0 ∷ []) ≡ Fault 0 30 144
unknown_16 = refl

-- MODULE M; IMPORT In; VAR i: INTEGER; BEGIN i := In.Y END M.
abbrev unknown_17_0 : Parsed
unknown_17_0 = record { source = record { bytes = (77 ∷ 79 ∷ 68 ∷ 85 ∷ 76 ∷ 69 ∷ 32 ∷ 77 ∷ 59 ∷ 32 ∷ 73 ∷ 77 ∷ 80 ∷ 79 ∷ 82 ∷ 84 ∷ 32 ∷ 73 ∷ 110 ∷ 59 ∷ 32 ∷ 86 ∷ 65 ∷ 82 ∷ 32 ∷ 105 ∷ 58 ∷ 32 ∷ 73 ∷ 78 ∷ 84 ∷ 69 ∷ 71 ∷ 69 ∷ 82 ∷ 59 ∷ 32 ∷ 66 ∷ 69 ∷ 71 ∷ 73 ∷ 78 ∷ 32 ∷ 105 ∷ 32 ∷ 58 ∷ 61 ∷ 32 ∷ 73 ∷ 110 ∷ 46 ∷ 89 ∷ 32 ∷ 69 ∷ 78 ∷ 68 ∷ 32 ∷ 77 ∷ 46 ∷ []); symbols = (symbol (Ident) 0 6 ∷ symbol (Ident) 7 8 ∷ symbol (Ident) 8 9 ∷ symbol (Ident) 10 16 ∷ symbol (Ident) 17 19 ∷ symbol (Ident) 19 20 ∷ symbol (Ident) 21 24 ∷ symbol (Ident) 25 26 ∷ symbol (Ident) 26 27 ∷ symbol (Ident) 28 35 ∷ symbol (Ident) 35 36 ∷ symbol (Ident) 37 42 ∷ symbol (Ident) 43 44 ∷ symbol (Ident) 45 47 ∷ symbol (Ident) 48 50 ∷ symbol (Ident) 50 51 ∷ symbol (Ident) 51 52 ∷ symbol (Ident) 53 56 ∷ symbol (Ident) 57 58 ∷ symbol (Ident) 58 59 ∷ []) }; tree = record { module_word = 0; name = 1; semicolon = 0; imports = Some (record { import_word = 0; first = (record { name = 4; of = None }); more = []; semicolon = 0 }); decls = (S.decls None None (Some (record { var_word = 0; each = (record { names = (record { first = (record { name = 7; star = None }); more = [] }); colon = 0; of = (S.Named (record { name = 9; member = None })); semicolon = 0 } ∷ []) })) S.no_procedure); body = (Some (record { begin_word = 0; stats = (S.stats (S.AssignOrCall (record { name = 12; selectors = S.no_selector }) (Some (record { becomes = 0; value = (S.only (S.simple None (S.term (S.Designated 14 (S.selected (S.Field 0 16) S.no_selector)) S.no_factor) S.no_term)) }))) S.no_stat) })); end_word = 0; end_name = 18; period = 0 } }

pub unknown_17 : checked (unknown_17_0 ∷ []) ≡ Fault 0 30 51
unknown_17 = refl

-- MODULE M; VAR x: T; END M.
abbrev unknown_18_0 : Parsed
unknown_18_0 = record { source = record { bytes = (77 ∷ 79 ∷ 68 ∷ 85 ∷ 76 ∷ 69 ∷ 32 ∷ 77 ∷ 59 ∷ 32 ∷ 86 ∷ 65 ∷ 82 ∷ 32 ∷ 120 ∷ 58 ∷ 32 ∷ 84 ∷ 59 ∷ 32 ∷ 69 ∷ 78 ∷ 68 ∷ 32 ∷ 77 ∷ 46 ∷ []); symbols = (symbol (Ident) 0 6 ∷ symbol (Ident) 7 8 ∷ symbol (Ident) 8 9 ∷ symbol (Ident) 10 13 ∷ symbol (Ident) 14 15 ∷ symbol (Ident) 15 16 ∷ symbol (Ident) 17 18 ∷ symbol (Ident) 18 19 ∷ symbol (Ident) 20 23 ∷ symbol (Ident) 24 25 ∷ symbol (Ident) 25 26 ∷ []) }; tree = record { module_word = 0; name = 1; semicolon = 0; imports = None; decls = (S.decls None None (Some (record { var_word = 0; each = (record { names = (record { first = (record { name = 4; star = None }); more = [] }); colon = 0; of = (S.Named (record { name = 6; member = None })); semicolon = 0 } ∷ []) })) S.no_procedure); body = None; end_word = 0; end_name = 9; period = 0 } }

pub unknown_18 : checked (unknown_18_0 ∷ []) ≡ Fault 0 30 17
unknown_18 = refl

-- MODULE M; TYPE T = POINTER TO U; END M.
abbrev unknown_19_0 : Parsed
unknown_19_0 = record { source = record { bytes = (77 ∷ 79 ∷ 68 ∷ 85 ∷ 76 ∷ 69 ∷ 32 ∷ 77 ∷ 59 ∷ 32 ∷ 84 ∷ 89 ∷ 80 ∷ 69 ∷ 32 ∷ 84 ∷ 32 ∷ 61 ∷ 32 ∷ 80 ∷ 79 ∷ 73 ∷ 78 ∷ 84 ∷ 69 ∷ 82 ∷ 32 ∷ 84 ∷ 79 ∷ 32 ∷ 85 ∷ 59 ∷ 32 ∷ 69 ∷ 78 ∷ 68 ∷ 32 ∷ 77 ∷ 46 ∷ []); symbols = (symbol (Ident) 0 6 ∷ symbol (Ident) 7 8 ∷ symbol (Ident) 8 9 ∷ symbol (Ident) 10 14 ∷ symbol (Ident) 15 16 ∷ symbol (Ident) 17 18 ∷ symbol (Ident) 19 26 ∷ symbol (Ident) 27 29 ∷ symbol (Ident) 30 31 ∷ symbol (Ident) 31 32 ∷ symbol (Ident) 33 36 ∷ symbol (Ident) 37 38 ∷ symbol (Ident) 38 39 ∷ []) }; tree = record { module_word = 0; name = 1; semicolon = 0; imports = None; decls = (S.decls None (Some (record { type_word = 0; each = (record { name = (record { name = 4; star = None }); equal = 0; is = (S.Pointer 6 0 (S.Named (record { name = 8; member = None }))); semicolon = 0 } ∷ []) })) None S.no_procedure); body = None; end_word = 0; end_name = 11; period = 0 } }

pub unknown_19 : checked (unknown_19_0 ∷ []) ≡ Fault 0 30 30
unknown_19 = refl

-- MODULE M; TYPE T = POINTER TO U; V = INTEGER; END M.
abbrev unknown_20_0 : Parsed
unknown_20_0 = record { source = record { bytes = (77 ∷ 79 ∷ 68 ∷ 85 ∷ 76 ∷ 69 ∷ 32 ∷ 77 ∷ 59 ∷ 32 ∷ 84 ∷ 89 ∷ 80 ∷ 69 ∷ 32 ∷ 84 ∷ 32 ∷ 61 ∷ 32 ∷ 80 ∷ 79 ∷ 73 ∷ 78 ∷ 84 ∷ 69 ∷ 82 ∷ 32 ∷ 84 ∷ 79 ∷ 32 ∷ 85 ∷ 59 ∷ 32 ∷ 86 ∷ 32 ∷ 61 ∷ 32 ∷ 73 ∷ 78 ∷ 84 ∷ 69 ∷ 71 ∷ 69 ∷ 82 ∷ 59 ∷ 32 ∷ 69 ∷ 78 ∷ 68 ∷ 32 ∷ 77 ∷ 46 ∷ []); symbols = (symbol (Ident) 0 6 ∷ symbol (Ident) 7 8 ∷ symbol (Ident) 8 9 ∷ symbol (Ident) 10 14 ∷ symbol (Ident) 15 16 ∷ symbol (Ident) 17 18 ∷ symbol (Ident) 19 26 ∷ symbol (Ident) 27 29 ∷ symbol (Ident) 30 31 ∷ symbol (Ident) 31 32 ∷ symbol (Ident) 33 34 ∷ symbol (Ident) 35 36 ∷ symbol (Ident) 37 44 ∷ symbol (Ident) 44 45 ∷ symbol (Ident) 46 49 ∷ symbol (Ident) 50 51 ∷ symbol (Ident) 51 52 ∷ []) }; tree = record { module_word = 0; name = 1; semicolon = 0; imports = None; decls = (S.decls None (Some (record { type_word = 0; each = (record { name = (record { name = 4; star = None }); equal = 0; is = (S.Pointer 6 0 (S.Named (record { name = 8; member = None }))); semicolon = 0 } ∷ record { name = (record { name = 10; star = None }); equal = 0; is = (S.Named (record { name = 12; member = None })); semicolon = 0 } ∷ []) })) None S.no_procedure); body = None; end_word = 0; end_name = 15; period = 0 } }

pub unknown_20 : checked (unknown_20_0 ∷ []) ≡ Fault 0 30 30
unknown_20 = refl

-- MODULE M; CONST c = d; END M.
abbrev unknown_21_0 : Parsed
unknown_21_0 = record { source = record { bytes = (77 ∷ 79 ∷ 68 ∷ 85 ∷ 76 ∷ 69 ∷ 32 ∷ 77 ∷ 59 ∷ 32 ∷ 67 ∷ 79 ∷ 78 ∷ 83 ∷ 84 ∷ 32 ∷ 99 ∷ 32 ∷ 61 ∷ 32 ∷ 100 ∷ 59 ∷ 32 ∷ 69 ∷ 78 ∷ 68 ∷ 32 ∷ 77 ∷ 46 ∷ []); symbols = (symbol (Ident) 0 6 ∷ symbol (Ident) 7 8 ∷ symbol (Ident) 8 9 ∷ symbol (Ident) 10 15 ∷ symbol (Ident) 16 17 ∷ symbol (Ident) 18 19 ∷ symbol (Ident) 20 21 ∷ symbol (Ident) 21 22 ∷ symbol (Ident) 23 26 ∷ symbol (Ident) 27 28 ∷ symbol (Ident) 28 29 ∷ []) }; tree = record { module_word = 0; name = 1; semicolon = 0; imports = None; decls = (S.decls (Some (record { const_word = 0; each = (record { name = (record { name = 4; star = None }); equal = 0; value = (S.only (S.simple None (S.term (S.Designated 6 S.no_selector) S.no_factor) S.no_term)); semicolon = 0 } ∷ []) })) None None S.no_procedure); body = None; end_word = 0; end_name = 9; period = 0 } }

pub unknown_21 : checked (unknown_21_0 ∷ []) ≡ Fault 0 30 20
unknown_21 = refl

-- MODULE M; CONST c = c; END M.
abbrev unknown_22_0 : Parsed
unknown_22_0 = record { source = record { bytes = (77 ∷ 79 ∷ 68 ∷ 85 ∷ 76 ∷ 69 ∷ 32 ∷ 77 ∷ 59 ∷ 32 ∷ 67 ∷ 79 ∷ 78 ∷ 83 ∷ 84 ∷ 32 ∷ 99 ∷ 32 ∷ 61 ∷ 32 ∷ 99 ∷ 59 ∷ 32 ∷ 69 ∷ 78 ∷ 68 ∷ 32 ∷ 77 ∷ 46 ∷ []); symbols = (symbol (Ident) 0 6 ∷ symbol (Ident) 7 8 ∷ symbol (Ident) 8 9 ∷ symbol (Ident) 10 15 ∷ symbol (Ident) 16 17 ∷ symbol (Ident) 18 19 ∷ symbol (Ident) 20 21 ∷ symbol (Ident) 21 22 ∷ symbol (Ident) 23 26 ∷ symbol (Ident) 27 28 ∷ symbol (Ident) 28 29 ∷ []) }; tree = record { module_word = 0; name = 1; semicolon = 0; imports = None; decls = (S.decls (Some (record { const_word = 0; each = (record { name = (record { name = 4; star = None }); equal = 0; value = (S.only (S.simple None (S.term (S.Designated 6 S.no_selector) S.no_factor) S.no_term)); semicolon = 0 } ∷ []) })) None None S.no_procedure); body = None; end_word = 0; end_name = 9; period = 0 } }

pub unknown_22 : checked (unknown_22_0 ∷ []) ≡ Fault 0 30 20
unknown_22 = refl

-- MODULE M; VAR p: POINTER TO T; END M.
abbrev unknown_23_0 : Parsed
unknown_23_0 = record { source = record { bytes = (77 ∷ 79 ∷ 68 ∷ 85 ∷ 76 ∷ 69 ∷ 32 ∷ 77 ∷ 59 ∷ 32 ∷ 86 ∷ 65 ∷ 82 ∷ 32 ∷ 112 ∷ 58 ∷ 32 ∷ 80 ∷ 79 ∷ 73 ∷ 78 ∷ 84 ∷ 69 ∷ 82 ∷ 32 ∷ 84 ∷ 79 ∷ 32 ∷ 84 ∷ 59 ∷ 32 ∷ 69 ∷ 78 ∷ 68 ∷ 32 ∷ 77 ∷ 46 ∷ []); symbols = (symbol (Ident) 0 6 ∷ symbol (Ident) 7 8 ∷ symbol (Ident) 8 9 ∷ symbol (Ident) 10 13 ∷ symbol (Ident) 14 15 ∷ symbol (Ident) 15 16 ∷ symbol (Ident) 17 24 ∷ symbol (Ident) 25 27 ∷ symbol (Ident) 28 29 ∷ symbol (Ident) 29 30 ∷ symbol (Ident) 31 34 ∷ symbol (Ident) 35 36 ∷ symbol (Ident) 36 37 ∷ []) }; tree = record { module_word = 0; name = 1; semicolon = 0; imports = None; decls = (S.decls None None (Some (record { var_word = 0; each = (record { names = (record { first = (record { name = 4; star = None }); more = [] }); colon = 0; of = (S.Pointer 6 0 (S.Named (record { name = 8; member = None }))); semicolon = 0 } ∷ []) })) S.no_procedure); body = None; end_word = 0; end_name = 11; period = 0 } }

pub unknown_23 : checked (unknown_23_0 ∷ []) ≡ Fault 0 30 28
unknown_23 = refl

-- MODULE M; TYPE L = POINTER TO RECORD n: L END; END M.
abbrev unknown_24_0 : Parsed
unknown_24_0 = record { source = record { bytes = (77 ∷ 79 ∷ 68 ∷ 85 ∷ 76 ∷ 69 ∷ 32 ∷ 77 ∷ 59 ∷ 32 ∷ 84 ∷ 89 ∷ 80 ∷ 69 ∷ 32 ∷ 76 ∷ 32 ∷ 61 ∷ 32 ∷ 80 ∷ 79 ∷ 73 ∷ 78 ∷ 84 ∷ 69 ∷ 82 ∷ 32 ∷ 84 ∷ 79 ∷ 32 ∷ 82 ∷ 69 ∷ 67 ∷ 79 ∷ 82 ∷ 68 ∷ 32 ∷ 110 ∷ 58 ∷ 32 ∷ 76 ∷ 32 ∷ 69 ∷ 78 ∷ 68 ∷ 59 ∷ 32 ∷ 69 ∷ 78 ∷ 68 ∷ 32 ∷ 77 ∷ 46 ∷ []); symbols = (symbol (Ident) 0 6 ∷ symbol (Ident) 7 8 ∷ symbol (Ident) 8 9 ∷ symbol (Ident) 10 14 ∷ symbol (Ident) 15 16 ∷ symbol (Ident) 17 18 ∷ symbol (Ident) 19 26 ∷ symbol (Ident) 27 29 ∷ symbol (Ident) 30 36 ∷ symbol (Ident) 37 38 ∷ symbol (Ident) 38 39 ∷ symbol (Ident) 40 41 ∷ symbol (Ident) 42 45 ∷ symbol (Ident) 45 46 ∷ symbol (Ident) 47 50 ∷ symbol (Ident) 51 52 ∷ symbol (Ident) 52 53 ∷ []) }; tree = record { module_word = 0; name = 1; semicolon = 0; imports = None; decls = (S.decls None (Some (record { type_word = 0; each = (record { name = (record { name = 4; star = None }); equal = 0; is = (S.Pointer 6 0 (S.Record 8 None (S.fields (record { first = (record { name = 9; star = None }); more = [] }) 0 (S.Named (record { name = 11; member = None }))) S.no_more_fields 0)); semicolon = 0 } ∷ []) })) None S.no_procedure); body = None; end_word = 0; end_name = 15; period = 0 } }

pub unknown_24 : checked (unknown_24_0 ∷ []) ≡ Fault 0 30 40
unknown_24 = refl

-- MODULE M; TYPE R = RECORD (B) END; END M.
abbrev unknown_25_0 : Parsed
unknown_25_0 = record { source = record { bytes = (77 ∷ 79 ∷ 68 ∷ 85 ∷ 76 ∷ 69 ∷ 32 ∷ 77 ∷ 59 ∷ 32 ∷ 84 ∷ 89 ∷ 80 ∷ 69 ∷ 32 ∷ 82 ∷ 32 ∷ 61 ∷ 32 ∷ 82 ∷ 69 ∷ 67 ∷ 79 ∷ 82 ∷ 68 ∷ 32 ∷ 40 ∷ 66 ∷ 41 ∷ 32 ∷ 69 ∷ 78 ∷ 68 ∷ 59 ∷ 32 ∷ 69 ∷ 78 ∷ 68 ∷ 32 ∷ 77 ∷ 46 ∷ []); symbols = (symbol (Ident) 0 6 ∷ symbol (Ident) 7 8 ∷ symbol (Ident) 8 9 ∷ symbol (Ident) 10 14 ∷ symbol (Ident) 15 16 ∷ symbol (Ident) 17 18 ∷ symbol (Ident) 19 25 ∷ symbol (Ident) 26 27 ∷ symbol (Ident) 27 28 ∷ symbol (Ident) 28 29 ∷ symbol (Ident) 30 33 ∷ symbol (Ident) 33 34 ∷ symbol (Ident) 35 38 ∷ symbol (Ident) 39 40 ∷ symbol (Ident) 40 41 ∷ []) }; tree = record { module_word = 0; name = 1; semicolon = 0; imports = None; decls = (S.decls None (Some (record { type_word = 0; each = (record { name = (record { name = 4; star = None }); equal = 0; is = (S.Record 6 (Some (record { left_paren = 0; name = (record { name = 8; member = None }); right_paren = 0 })) S.no_fields S.no_more_fields 0); semicolon = 0 } ∷ []) })) None S.no_procedure); body = None; end_word = 0; end_name = 13; period = 0 } }

pub unknown_25 : checked (unknown_25_0 ∷ []) ≡ Fault 0 30 27
unknown_25 = refl

-- MODULE M; TYPE A = ARRAY n OF CHAR; END M.
abbrev unknown_26_0 : Parsed
unknown_26_0 = record { source = record { bytes = (77 ∷ 79 ∷ 68 ∷ 85 ∷ 76 ∷ 69 ∷ 32 ∷ 77 ∷ 59 ∷ 32 ∷ 84 ∷ 89 ∷ 80 ∷ 69 ∷ 32 ∷ 65 ∷ 32 ∷ 61 ∷ 32 ∷ 65 ∷ 82 ∷ 82 ∷ 65 ∷ 89 ∷ 32 ∷ 110 ∷ 32 ∷ 79 ∷ 70 ∷ 32 ∷ 67 ∷ 72 ∷ 65 ∷ 82 ∷ 59 ∷ 32 ∷ 69 ∷ 78 ∷ 68 ∷ 32 ∷ 77 ∷ 46 ∷ []); symbols = (symbol (Ident) 0 6 ∷ symbol (Ident) 7 8 ∷ symbol (Ident) 8 9 ∷ symbol (Ident) 10 14 ∷ symbol (Ident) 15 16 ∷ symbol (Ident) 17 18 ∷ symbol (Ident) 19 24 ∷ symbol (Ident) 25 26 ∷ symbol (Ident) 27 29 ∷ symbol (Ident) 30 34 ∷ symbol (Ident) 34 35 ∷ symbol (Ident) 36 39 ∷ symbol (Ident) 40 41 ∷ symbol (Ident) 41 42 ∷ []) }; tree = record { module_word = 0; name = 1; semicolon = 0; imports = None; decls = (S.decls None (Some (record { type_word = 0; each = (record { name = (record { name = 4; star = None }); equal = 0; is = (S.Array 6 (S.only (S.simple None (S.term (S.Designated 7 S.no_selector) S.no_factor) S.no_term)) S.no_expression 0 (S.Named (record { name = 9; member = None }))); semicolon = 0 } ∷ []) })) None S.no_procedure); body = None; end_word = 0; end_name = 12; period = 0 } }

pub unknown_26 : checked (unknown_26_0 ∷ []) ≡ Fault 0 30 25
unknown_26 = refl

-- MODULE M; PROCEDURE P(x: T); END P; END M.
abbrev unknown_27_0 : Parsed
unknown_27_0 = record { source = record { bytes = (77 ∷ 79 ∷ 68 ∷ 85 ∷ 76 ∷ 69 ∷ 32 ∷ 77 ∷ 59 ∷ 32 ∷ 80 ∷ 82 ∷ 79 ∷ 67 ∷ 69 ∷ 68 ∷ 85 ∷ 82 ∷ 69 ∷ 32 ∷ 80 ∷ 40 ∷ 120 ∷ 58 ∷ 32 ∷ 84 ∷ 41 ∷ 59 ∷ 32 ∷ 69 ∷ 78 ∷ 68 ∷ 32 ∷ 80 ∷ 59 ∷ 32 ∷ 69 ∷ 78 ∷ 68 ∷ 32 ∷ 77 ∷ 46 ∷ []); symbols = (symbol (Ident) 0 6 ∷ symbol (Ident) 7 8 ∷ symbol (Ident) 8 9 ∷ symbol (Ident) 10 19 ∷ symbol (Ident) 20 21 ∷ symbol (Ident) 21 22 ∷ symbol (Ident) 22 23 ∷ symbol (Ident) 23 24 ∷ symbol (Ident) 25 26 ∷ symbol (Ident) 26 27 ∷ symbol (Ident) 27 28 ∷ symbol (Ident) 29 32 ∷ symbol (Ident) 33 34 ∷ symbol (Ident) 34 35 ∷ symbol (Ident) 36 39 ∷ symbol (Ident) 40 41 ∷ symbol (Ident) 41 42 ∷ []) }; tree = record { module_word = 0; name = 1; semicolon = 0; imports = None; decls = (S.decls None None None (S.procedure 0 (record { name = 4; star = None }) (Some (record { left_paren = 0; sections = Some (record { first = (record { var_word = None; first = 6; more = []; colon = 0; open_array = None; of = (record { name = 8; member = None }) }); more = [] }); right_paren = 0; result = None })) 0 (S.decls None None None S.no_procedure) None None 11 12 0 S.no_procedure)); body = None; end_word = 0; end_name = 15; period = 0 } }

pub unknown_27 : checked (unknown_27_0 ∷ []) ≡ Fault 0 30 25
unknown_27 = refl

-- MODULE M; PROCEDURE P(): T; RETURN 1 END P; END M.
abbrev unknown_28_0 : Parsed
unknown_28_0 = record { source = record { bytes = (77 ∷ 79 ∷ 68 ∷ 85 ∷ 76 ∷ 69 ∷ 32 ∷ 77 ∷ 59 ∷ 32 ∷ 80 ∷ 82 ∷ 79 ∷ 67 ∷ 69 ∷ 68 ∷ 85 ∷ 82 ∷ 69 ∷ 32 ∷ 80 ∷ 40 ∷ 41 ∷ 58 ∷ 32 ∷ 84 ∷ 59 ∷ 32 ∷ 82 ∷ 69 ∷ 84 ∷ 85 ∷ 82 ∷ 78 ∷ 32 ∷ 49 ∷ 32 ∷ 69 ∷ 78 ∷ 68 ∷ 32 ∷ 80 ∷ 59 ∷ 32 ∷ 69 ∷ 78 ∷ 68 ∷ 32 ∷ 77 ∷ 46 ∷ []); symbols = (symbol (Ident) 0 6 ∷ symbol (Ident) 7 8 ∷ symbol (Ident) 8 9 ∷ symbol (Ident) 10 19 ∷ symbol (Ident) 20 21 ∷ symbol (Ident) 21 22 ∷ symbol (Ident) 22 23 ∷ symbol (Ident) 23 24 ∷ symbol (Ident) 25 26 ∷ symbol (Ident) 26 27 ∷ symbol (Ident) 28 34 ∷ symbol (Int (pos 1)) 35 36 ∷ symbol (Ident) 37 40 ∷ symbol (Ident) 41 42 ∷ symbol (Ident) 42 43 ∷ symbol (Ident) 44 47 ∷ symbol (Ident) 48 49 ∷ symbol (Ident) 49 50 ∷ []) }; tree = record { module_word = 0; name = 1; semicolon = 0; imports = None; decls = (S.decls None None None (S.procedure 0 (record { name = 4; star = None }) (Some (record { left_paren = 0; sections = None; right_paren = 0; result = Some (record { colon = 0; name = (record { name = 8; member = None }) }) })) 0 (S.decls None None None S.no_procedure) None (Some (record { return_word = 10; value = (S.only (S.simple None (S.term (S.Int 11) S.no_factor) S.no_term)) })) 12 13 0 S.no_procedure)); body = None; end_word = 0; end_name = 16; period = 0 } }

pub unknown_28 : checked (unknown_28_0 ∷ []) ≡ Fault 0 30 25
unknown_28 = refl

-- MODULE M; BEGIN M.x := 1 END M.
abbrev unknown_29_0 : Parsed
unknown_29_0 = record { source = record { bytes = (77 ∷ 79 ∷ 68 ∷ 85 ∷ 76 ∷ 69 ∷ 32 ∷ 77 ∷ 59 ∷ 32 ∷ 66 ∷ 69 ∷ 71 ∷ 73 ∷ 78 ∷ 32 ∷ 77 ∷ 46 ∷ 120 ∷ 32 ∷ 58 ∷ 61 ∷ 32 ∷ 49 ∷ 32 ∷ 69 ∷ 78 ∷ 68 ∷ 32 ∷ 77 ∷ 46 ∷ []); symbols = (symbol (Ident) 0 6 ∷ symbol (Ident) 7 8 ∷ symbol (Ident) 8 9 ∷ symbol (Ident) 10 15 ∷ symbol (Ident) 16 17 ∷ symbol (Ident) 17 18 ∷ symbol (Ident) 18 19 ∷ symbol (Ident) 20 22 ∷ symbol (Int (pos 1)) 23 24 ∷ symbol (Ident) 25 28 ∷ symbol (Ident) 29 30 ∷ symbol (Ident) 30 31 ∷ []) }; tree = record { module_word = 0; name = 1; semicolon = 0; imports = None; decls = (S.decls None None None S.no_procedure); body = (Some (record { begin_word = 0; stats = (S.stats (S.AssignOrCall (record { name = 4; selectors = (S.selected (S.Field 0 6) S.no_selector) }) (Some (record { becomes = 0; value = (S.only (S.simple None (S.term (S.Int 8) S.no_factor) S.no_term)) }))) S.no_stat) })); end_word = 0; end_name = 10; period = 0 } }

pub unknown_29 : checked (unknown_29_0 ∷ []) ≡ Fault 0 30 16
unknown_29 = refl

-- MODULE M; PROCEDURE P; BEGIN Q END P; PROCEDURE Q; END Q; END M.
abbrev unknown_30_0 : Parsed
unknown_30_0 = record { source = record { bytes = (77 ∷ 79 ∷ 68 ∷ 85 ∷ 76 ∷ 69 ∷ 32 ∷ 77 ∷ 59 ∷ 32 ∷ 80 ∷ 82 ∷ 79 ∷ 67 ∷ 69 ∷ 68 ∷ 85 ∷ 82 ∷ 69 ∷ 32 ∷ 80 ∷ 59 ∷ 32 ∷ 66 ∷ 69 ∷ 71 ∷ 73 ∷ 78 ∷ 32 ∷ 81 ∷ 32 ∷ 69 ∷ 78 ∷ 68 ∷ 32 ∷ 80 ∷ 59 ∷ 32 ∷ 80 ∷ 82 ∷ 79 ∷ 67 ∷ 69 ∷ 68 ∷ 85 ∷ 82 ∷ 69 ∷ 32 ∷ 81 ∷ 59 ∷ 32 ∷ 69 ∷ 78 ∷ 68 ∷ 32 ∷ 81 ∷ 59 ∷ 32 ∷ 69 ∷ 78 ∷ 68 ∷ 32 ∷ 77 ∷ 46 ∷ []); symbols = (symbol (Ident) 0 6 ∷ symbol (Ident) 7 8 ∷ symbol (Ident) 8 9 ∷ symbol (Ident) 10 19 ∷ symbol (Ident) 20 21 ∷ symbol (Ident) 21 22 ∷ symbol (Ident) 23 28 ∷ symbol (Ident) 29 30 ∷ symbol (Ident) 31 34 ∷ symbol (Ident) 35 36 ∷ symbol (Ident) 36 37 ∷ symbol (Ident) 38 47 ∷ symbol (Ident) 48 49 ∷ symbol (Ident) 49 50 ∷ symbol (Ident) 51 54 ∷ symbol (Ident) 55 56 ∷ symbol (Ident) 56 57 ∷ symbol (Ident) 58 61 ∷ symbol (Ident) 62 63 ∷ symbol (Ident) 63 64 ∷ []) }; tree = record { module_word = 0; name = 1; semicolon = 0; imports = None; decls = (S.decls None None None (S.procedure 0 (record { name = 4; star = None }) None 0 (S.decls None None None S.no_procedure) (Some (record { begin_word = 0; stats = (S.stats (S.AssignOrCall (record { name = 7; selectors = S.no_selector }) None) S.no_stat) })) None 8 9 0 (S.procedure 0 (record { name = 12; star = None }) None 0 (S.decls None None None S.no_procedure) None None 14 15 0 S.no_procedure))); body = None; end_word = 0; end_name = 18; period = 0 } }

pub unknown_30 : checked (unknown_30_0 ∷ []) ≡ Fault 0 30 29
unknown_30 = refl

-- MODULE M; TYPE R = RECORD f: R END; END M.
abbrev unknown_31_0 : Parsed
unknown_31_0 = record { source = record { bytes = (77 ∷ 79 ∷ 68 ∷ 85 ∷ 76 ∷ 69 ∷ 32 ∷ 77 ∷ 59 ∷ 32 ∷ 84 ∷ 89 ∷ 80 ∷ 69 ∷ 32 ∷ 82 ∷ 32 ∷ 61 ∷ 32 ∷ 82 ∷ 69 ∷ 67 ∷ 79 ∷ 82 ∷ 68 ∷ 32 ∷ 102 ∷ 58 ∷ 32 ∷ 82 ∷ 32 ∷ 69 ∷ 78 ∷ 68 ∷ 59 ∷ 32 ∷ 69 ∷ 78 ∷ 68 ∷ 32 ∷ 77 ∷ 46 ∷ []); symbols = (symbol (Ident) 0 6 ∷ symbol (Ident) 7 8 ∷ symbol (Ident) 8 9 ∷ symbol (Ident) 10 14 ∷ symbol (Ident) 15 16 ∷ symbol (Ident) 17 18 ∷ symbol (Ident) 19 25 ∷ symbol (Ident) 26 27 ∷ symbol (Ident) 27 28 ∷ symbol (Ident) 29 30 ∷ symbol (Ident) 31 34 ∷ symbol (Ident) 34 35 ∷ symbol (Ident) 36 39 ∷ symbol (Ident) 40 41 ∷ symbol (Ident) 41 42 ∷ []) }; tree = record { module_word = 0; name = 1; semicolon = 0; imports = None; decls = (S.decls None (Some (record { type_word = 0; each = (record { name = (record { name = 4; star = None }); equal = 0; is = (S.Record 6 None (S.fields (record { first = (record { name = 7; star = None }); more = [] }) 0 (S.Named (record { name = 9; member = None }))) S.no_more_fields 0); semicolon = 0 } ∷ []) })) None S.no_procedure); body = None; end_word = 0; end_name = 13; period = 0 } }

pub unknown_31 : checked (unknown_31_0 ∷ []) ≡ Fault 0 30 29
unknown_31 = refl

-- MODULE A; CONST c* = 3; d = 4; TYPE R* = RECORD x*: INTEGER; h: INTEGER END; P* = POINTER TO R; H = RECORD END; VAR v*: INTEGER; r*: R; p*: P; a*: ARRAY 2 OF INTEGER; w: INTEGER; f*: PROCEDURE; PROCEDURE N*; END N; PROCEDURE L; END L; END A.
abbrev not_visible_1_0 : Parsed
not_visible_1_0 = record { source = record { bytes = (77 ∷ 79 ∷ 68 ∷ 85 ∷ 76 ∷ 69 ∷ 32 ∷ 65 ∷ 59 ∷ 32 ∷ 67 ∷ 79 ∷ 78 ∷ 83 ∷ 84 ∷ 32 ∷ 99 ∷ 42 ∷ 32 ∷ 61 ∷ 32 ∷ 51 ∷ 59 ∷ 32 ∷ 100 ∷ 32 ∷ 61 ∷ 32 ∷ 52 ∷ 59 ∷ 32 ∷ 84 ∷ 89 ∷ 80 ∷ 69 ∷ 32 ∷ 82 ∷ 42 ∷ 32 ∷ 61 ∷ 32 ∷ 82 ∷ 69 ∷ 67 ∷ 79 ∷ 82 ∷ 68 ∷ 32 ∷ 120 ∷ 42 ∷ 58 ∷ 32 ∷ 73 ∷ 78 ∷ 84 ∷ 69 ∷ 71 ∷ 69 ∷ 82 ∷ 59 ∷ 32 ∷ 104 ∷ 58 ∷ 32 ∷ 73 ∷ 78 ∷ 84 ∷ 69 ∷ 71 ∷ 69 ∷ 82 ∷ 32 ∷ 69 ∷ 78 ∷ 68 ∷ 59 ∷ 32 ∷ 80 ∷ 42 ∷ 32 ∷ 61 ∷ 32 ∷ 80 ∷ 79 ∷ 73 ∷ 78 ∷ 84 ∷ 69 ∷ 82 ∷ 32 ∷ 84 ∷ 79 ∷ 32 ∷ 82 ∷ 59 ∷ 32 ∷ 72 ∷ 32 ∷ 61 ∷ 32 ∷ 82 ∷ 69 ∷ 67 ∷ 79 ∷ 82 ∷ 68 ∷ 32 ∷ 69 ∷ 78 ∷ 68 ∷ 59 ∷ 32 ∷ 86 ∷ 65 ∷ 82 ∷ 32 ∷ 118 ∷ 42 ∷ 58 ∷ 32 ∷ 73 ∷ 78 ∷ 84 ∷ 69 ∷ 71 ∷ 69 ∷ 82 ∷ 59 ∷ 32 ∷ 114 ∷ 42 ∷ 58 ∷ 32 ∷ 82 ∷ 59 ∷ 32 ∷ 112 ∷ 42 ∷ 58 ∷ 32 ∷ 80 ∷ 59 ∷ 32 ∷ 97 ∷ 42 ∷ 58 ∷ 32 ∷ 65 ∷ 82 ∷ 82 ∷ 65 ∷ 89 ∷ 32 ∷ 50 ∷ 32 ∷ 79 ∷ 70 ∷ 32 ∷ 73 ∷ 78 ∷ 84 ∷ 69 ∷ 71 ∷ 69 ∷ 82 ∷ 59 ∷ 32 ∷ 119 ∷ 58 ∷ 32 ∷ 73 ∷ 78 ∷ 84 ∷ 69 ∷ 71 ∷ 69 ∷ 82 ∷ 59 ∷ 32 ∷ 102 ∷ 42 ∷ 58 ∷ 32 ∷ 80 ∷ 82 ∷ 79 ∷ 67 ∷ 69 ∷ 68 ∷ 85 ∷ 82 ∷ 69 ∷ 59 ∷ 32 ∷ 80 ∷ 82 ∷ 79 ∷ 67 ∷ 69 ∷ 68 ∷ 85 ∷ 82 ∷ 69 ∷ 32 ∷ 78 ∷ 42 ∷ 59 ∷ 32 ∷ 69 ∷ 78 ∷ 68 ∷ 32 ∷ 78 ∷ 59 ∷ 32 ∷ 80 ∷ 82 ∷ 79 ∷ 67 ∷ 69 ∷ 68 ∷ 85 ∷ 82 ∷ 69 ∷ 32 ∷ 76 ∷ 59 ∷ 32 ∷ 69 ∷ 78 ∷ 68 ∷ 32 ∷ 76 ∷ 59 ∷ 32 ∷ 69 ∷ 78 ∷ 68 ∷ 32 ∷ 65 ∷ 46 ∷ 10 ∷ []); symbols = (symbol (Ident) 0 6 ∷ symbol (Ident) 7 8 ∷ symbol (Ident) 8 9 ∷ symbol (Ident) 10 15 ∷ symbol (Ident) 16 17 ∷ symbol (Ident) 17 18 ∷ symbol (Ident) 19 20 ∷ symbol (Int (pos 3)) 21 22 ∷ symbol (Ident) 22 23 ∷ symbol (Ident) 24 25 ∷ symbol (Ident) 26 27 ∷ symbol (Int (pos 4)) 28 29 ∷ symbol (Ident) 29 30 ∷ symbol (Ident) 31 35 ∷ symbol (Ident) 36 37 ∷ symbol (Ident) 37 38 ∷ symbol (Ident) 39 40 ∷ symbol (Ident) 41 47 ∷ symbol (Ident) 48 49 ∷ symbol (Ident) 49 50 ∷ symbol (Ident) 50 51 ∷ symbol (Ident) 52 59 ∷ symbol (Ident) 59 60 ∷ symbol (Ident) 61 62 ∷ symbol (Ident) 62 63 ∷ symbol (Ident) 64 71 ∷ symbol (Ident) 72 75 ∷ symbol (Ident) 75 76 ∷ symbol (Ident) 77 78 ∷ symbol (Ident) 78 79 ∷ symbol (Ident) 80 81 ∷ symbol (Ident) 82 89 ∷ symbol (Ident) 90 92 ∷ symbol (Ident) 93 94 ∷ symbol (Ident) 94 95 ∷ symbol (Ident) 96 97 ∷ symbol (Ident) 98 99 ∷ symbol (Ident) 100 106 ∷ symbol (Ident) 107 110 ∷ symbol (Ident) 110 111 ∷ symbol (Ident) 112 115 ∷ symbol (Ident) 116 117 ∷ symbol (Ident) 117 118 ∷ symbol (Ident) 118 119 ∷ symbol (Ident) 120 127 ∷ symbol (Ident) 127 128 ∷ symbol (Ident) 129 130 ∷ symbol (Ident) 130 131 ∷ symbol (Ident) 131 132 ∷ symbol (Ident) 133 134 ∷ symbol (Ident) 134 135 ∷ symbol (Ident) 136 137 ∷ symbol (Ident) 137 138 ∷ symbol (Ident) 138 139 ∷ symbol (Ident) 140 141 ∷ symbol (Ident) 141 142 ∷ symbol (Ident) 143 144 ∷ symbol (Ident) 144 145 ∷ symbol (Ident) 145 146 ∷ symbol (Ident) 147 152 ∷ symbol (Int (pos 2)) 153 154 ∷ symbol (Ident) 155 157 ∷ symbol (Ident) 158 165 ∷ symbol (Ident) 165 166 ∷ symbol (Ident) 167 168 ∷ symbol (Ident) 168 169 ∷ symbol (Ident) 170 177 ∷ symbol (Ident) 177 178 ∷ symbol (Ident) 179 180 ∷ symbol (Ident) 180 181 ∷ symbol (Ident) 181 182 ∷ symbol (Ident) 183 192 ∷ symbol (Ident) 192 193 ∷ symbol (Ident) 194 203 ∷ symbol (Ident) 204 205 ∷ symbol (Ident) 205 206 ∷ symbol (Ident) 206 207 ∷ symbol (Ident) 208 211 ∷ symbol (Ident) 212 213 ∷ symbol (Ident) 213 214 ∷ symbol (Ident) 215 224 ∷ symbol (Ident) 225 226 ∷ symbol (Ident) 226 227 ∷ symbol (Ident) 228 231 ∷ symbol (Ident) 232 233 ∷ symbol (Ident) 233 234 ∷ symbol (Ident) 235 238 ∷ symbol (Ident) 239 240 ∷ symbol (Ident) 240 241 ∷ []) }; tree = record { module_word = 0; name = 1; semicolon = 0; imports = None; decls = (S.decls (Some (record { const_word = 0; each = (record { name = (record { name = 4; star = Some 0 }); equal = 0; value = (S.only (S.simple None (S.term (S.Int 7) S.no_factor) S.no_term)); semicolon = 0 } ∷ record { name = (record { name = 9; star = None }); equal = 0; value = (S.only (S.simple None (S.term (S.Int 11) S.no_factor) S.no_term)); semicolon = 0 } ∷ []) })) (Some (record { type_word = 0; each = (record { name = (record { name = 14; star = Some 0 }); equal = 0; is = (S.Record 17 None (S.fields (record { first = (record { name = 18; star = Some 0 }); more = [] }) 0 (S.Named (record { name = 21; member = None }))) (S.next_fields 0 (S.fields (record { first = (record { name = 23; star = None }); more = [] }) 0 (S.Named (record { name = 25; member = None }))) S.no_more_fields) 0); semicolon = 0 } ∷ record { name = (record { name = 28; star = Some 0 }); equal = 0; is = (S.Pointer 31 0 (S.Named (record { name = 33; member = None }))); semicolon = 0 } ∷ record { name = (record { name = 35; star = None }); equal = 0; is = (S.Record 37 None S.no_fields S.no_more_fields 0); semicolon = 0 } ∷ []) })) (Some (record { var_word = 0; each = (record { names = (record { first = (record { name = 41; star = Some 0 }); more = [] }); colon = 0; of = (S.Named (record { name = 44; member = None })); semicolon = 0 } ∷ record { names = (record { first = (record { name = 46; star = Some 0 }); more = [] }); colon = 0; of = (S.Named (record { name = 49; member = None })); semicolon = 0 } ∷ record { names = (record { first = (record { name = 51; star = Some 0 }); more = [] }); colon = 0; of = (S.Named (record { name = 54; member = None })); semicolon = 0 } ∷ record { names = (record { first = (record { name = 56; star = Some 0 }); more = [] }); colon = 0; of = (S.Array 59 (S.only (S.simple None (S.term (S.Int 60) S.no_factor) S.no_term)) S.no_expression 0 (S.Named (record { name = 62; member = None }))); semicolon = 0 } ∷ record { names = (record { first = (record { name = 64; star = None }); more = [] }); colon = 0; of = (S.Named (record { name = 66; member = None })); semicolon = 0 } ∷ record { names = (record { first = (record { name = 68; star = Some 0 }); more = [] }); colon = 0; of = (S.Procedure 71 None); semicolon = 0 } ∷ []) })) (S.procedure 0 (record { name = 74; star = Some 0 }) None 0 (S.decls None None None S.no_procedure) None None 77 78 0 (S.procedure 0 (record { name = 81; star = None }) None 0 (S.decls None None None S.no_procedure) None None 83 84 0 S.no_procedure))); body = None; end_word = 0; end_name = 87; period = 0 } }

-- MODULE M; IMPORT A; VAR i: INTEGER; BEGIN i := A.w END M.
abbrev not_visible_1_1 : Parsed
not_visible_1_1 = record { source = record { bytes = (77 ∷ 79 ∷ 68 ∷ 85 ∷ 76 ∷ 69 ∷ 32 ∷ 77 ∷ 59 ∷ 32 ∷ 73 ∷ 77 ∷ 80 ∷ 79 ∷ 82 ∷ 84 ∷ 32 ∷ 65 ∷ 59 ∷ 32 ∷ 86 ∷ 65 ∷ 82 ∷ 32 ∷ 105 ∷ 58 ∷ 32 ∷ 73 ∷ 78 ∷ 84 ∷ 69 ∷ 71 ∷ 69 ∷ 82 ∷ 59 ∷ 32 ∷ 66 ∷ 69 ∷ 71 ∷ 73 ∷ 78 ∷ 32 ∷ 105 ∷ 32 ∷ 58 ∷ 61 ∷ 32 ∷ 65 ∷ 46 ∷ 119 ∷ 32 ∷ 69 ∷ 78 ∷ 68 ∷ 32 ∷ 77 ∷ 46 ∷ []); symbols = (symbol (Ident) 0 6 ∷ symbol (Ident) 7 8 ∷ symbol (Ident) 8 9 ∷ symbol (Ident) 10 16 ∷ symbol (Ident) 17 18 ∷ symbol (Ident) 18 19 ∷ symbol (Ident) 20 23 ∷ symbol (Ident) 24 25 ∷ symbol (Ident) 25 26 ∷ symbol (Ident) 27 34 ∷ symbol (Ident) 34 35 ∷ symbol (Ident) 36 41 ∷ symbol (Ident) 42 43 ∷ symbol (Ident) 44 46 ∷ symbol (Ident) 47 48 ∷ symbol (Ident) 48 49 ∷ symbol (Ident) 49 50 ∷ symbol (Ident) 51 54 ∷ symbol (Ident) 55 56 ∷ symbol (Ident) 56 57 ∷ []) }; tree = record { module_word = 0; name = 1; semicolon = 0; imports = Some (record { import_word = 0; first = (record { name = 4; of = None }); more = []; semicolon = 0 }); decls = (S.decls None None (Some (record { var_word = 0; each = (record { names = (record { first = (record { name = 7; star = None }); more = [] }); colon = 0; of = (S.Named (record { name = 9; member = None })); semicolon = 0 } ∷ []) })) S.no_procedure); body = (Some (record { begin_word = 0; stats = (S.stats (S.AssignOrCall (record { name = 12; selectors = S.no_selector }) (Some (record { becomes = 0; value = (S.only (S.simple None (S.term (S.Designated 14 (S.selected (S.Field 0 16) S.no_selector)) S.no_factor) S.no_term)) }))) S.no_stat) })); end_word = 0; end_name = 18; period = 0 } }

pub not_visible_1 : checked (not_visible_1_0 ∷ not_visible_1_1 ∷ []) ≡ Fault 1 34 49
not_visible_1 = refl

-- MODULE A; CONST c* = 3; d = 4; TYPE R* = RECORD x*: INTEGER; h: INTEGER END; P* = POINTER TO R; H = RECORD END; VAR v*: INTEGER; r*: R; p*: P; a*: ARRAY 2 OF INTEGER; w: INTEGER; f*: PROCEDURE; PROCEDURE N*; END N; PROCEDURE L; END L; END A.
abbrev not_visible_2_0 : Parsed
not_visible_2_0 = record { source = record { bytes = (77 ∷ 79 ∷ 68 ∷ 85 ∷ 76 ∷ 69 ∷ 32 ∷ 65 ∷ 59 ∷ 32 ∷ 67 ∷ 79 ∷ 78 ∷ 83 ∷ 84 ∷ 32 ∷ 99 ∷ 42 ∷ 32 ∷ 61 ∷ 32 ∷ 51 ∷ 59 ∷ 32 ∷ 100 ∷ 32 ∷ 61 ∷ 32 ∷ 52 ∷ 59 ∷ 32 ∷ 84 ∷ 89 ∷ 80 ∷ 69 ∷ 32 ∷ 82 ∷ 42 ∷ 32 ∷ 61 ∷ 32 ∷ 82 ∷ 69 ∷ 67 ∷ 79 ∷ 82 ∷ 68 ∷ 32 ∷ 120 ∷ 42 ∷ 58 ∷ 32 ∷ 73 ∷ 78 ∷ 84 ∷ 69 ∷ 71 ∷ 69 ∷ 82 ∷ 59 ∷ 32 ∷ 104 ∷ 58 ∷ 32 ∷ 73 ∷ 78 ∷ 84 ∷ 69 ∷ 71 ∷ 69 ∷ 82 ∷ 32 ∷ 69 ∷ 78 ∷ 68 ∷ 59 ∷ 32 ∷ 80 ∷ 42 ∷ 32 ∷ 61 ∷ 32 ∷ 80 ∷ 79 ∷ 73 ∷ 78 ∷ 84 ∷ 69 ∷ 82 ∷ 32 ∷ 84 ∷ 79 ∷ 32 ∷ 82 ∷ 59 ∷ 32 ∷ 72 ∷ 32 ∷ 61 ∷ 32 ∷ 82 ∷ 69 ∷ 67 ∷ 79 ∷ 82 ∷ 68 ∷ 32 ∷ 69 ∷ 78 ∷ 68 ∷ 59 ∷ 32 ∷ 86 ∷ 65 ∷ 82 ∷ 32 ∷ 118 ∷ 42 ∷ 58 ∷ 32 ∷ 73 ∷ 78 ∷ 84 ∷ 69 ∷ 71 ∷ 69 ∷ 82 ∷ 59 ∷ 32 ∷ 114 ∷ 42 ∷ 58 ∷ 32 ∷ 82 ∷ 59 ∷ 32 ∷ 112 ∷ 42 ∷ 58 ∷ 32 ∷ 80 ∷ 59 ∷ 32 ∷ 97 ∷ 42 ∷ 58 ∷ 32 ∷ 65 ∷ 82 ∷ 82 ∷ 65 ∷ 89 ∷ 32 ∷ 50 ∷ 32 ∷ 79 ∷ 70 ∷ 32 ∷ 73 ∷ 78 ∷ 84 ∷ 69 ∷ 71 ∷ 69 ∷ 82 ∷ 59 ∷ 32 ∷ 119 ∷ 58 ∷ 32 ∷ 73 ∷ 78 ∷ 84 ∷ 69 ∷ 71 ∷ 69 ∷ 82 ∷ 59 ∷ 32 ∷ 102 ∷ 42 ∷ 58 ∷ 32 ∷ 80 ∷ 82 ∷ 79 ∷ 67 ∷ 69 ∷ 68 ∷ 85 ∷ 82 ∷ 69 ∷ 59 ∷ 32 ∷ 80 ∷ 82 ∷ 79 ∷ 67 ∷ 69 ∷ 68 ∷ 85 ∷ 82 ∷ 69 ∷ 32 ∷ 78 ∷ 42 ∷ 59 ∷ 32 ∷ 69 ∷ 78 ∷ 68 ∷ 32 ∷ 78 ∷ 59 ∷ 32 ∷ 80 ∷ 82 ∷ 79 ∷ 67 ∷ 69 ∷ 68 ∷ 85 ∷ 82 ∷ 69 ∷ 32 ∷ 76 ∷ 59 ∷ 32 ∷ 69 ∷ 78 ∷ 68 ∷ 32 ∷ 76 ∷ 59 ∷ 32 ∷ 69 ∷ 78 ∷ 68 ∷ 32 ∷ 65 ∷ 46 ∷ 10 ∷ []); symbols = (symbol (Ident) 0 6 ∷ symbol (Ident) 7 8 ∷ symbol (Ident) 8 9 ∷ symbol (Ident) 10 15 ∷ symbol (Ident) 16 17 ∷ symbol (Ident) 17 18 ∷ symbol (Ident) 19 20 ∷ symbol (Int (pos 3)) 21 22 ∷ symbol (Ident) 22 23 ∷ symbol (Ident) 24 25 ∷ symbol (Ident) 26 27 ∷ symbol (Int (pos 4)) 28 29 ∷ symbol (Ident) 29 30 ∷ symbol (Ident) 31 35 ∷ symbol (Ident) 36 37 ∷ symbol (Ident) 37 38 ∷ symbol (Ident) 39 40 ∷ symbol (Ident) 41 47 ∷ symbol (Ident) 48 49 ∷ symbol (Ident) 49 50 ∷ symbol (Ident) 50 51 ∷ symbol (Ident) 52 59 ∷ symbol (Ident) 59 60 ∷ symbol (Ident) 61 62 ∷ symbol (Ident) 62 63 ∷ symbol (Ident) 64 71 ∷ symbol (Ident) 72 75 ∷ symbol (Ident) 75 76 ∷ symbol (Ident) 77 78 ∷ symbol (Ident) 78 79 ∷ symbol (Ident) 80 81 ∷ symbol (Ident) 82 89 ∷ symbol (Ident) 90 92 ∷ symbol (Ident) 93 94 ∷ symbol (Ident) 94 95 ∷ symbol (Ident) 96 97 ∷ symbol (Ident) 98 99 ∷ symbol (Ident) 100 106 ∷ symbol (Ident) 107 110 ∷ symbol (Ident) 110 111 ∷ symbol (Ident) 112 115 ∷ symbol (Ident) 116 117 ∷ symbol (Ident) 117 118 ∷ symbol (Ident) 118 119 ∷ symbol (Ident) 120 127 ∷ symbol (Ident) 127 128 ∷ symbol (Ident) 129 130 ∷ symbol (Ident) 130 131 ∷ symbol (Ident) 131 132 ∷ symbol (Ident) 133 134 ∷ symbol (Ident) 134 135 ∷ symbol (Ident) 136 137 ∷ symbol (Ident) 137 138 ∷ symbol (Ident) 138 139 ∷ symbol (Ident) 140 141 ∷ symbol (Ident) 141 142 ∷ symbol (Ident) 143 144 ∷ symbol (Ident) 144 145 ∷ symbol (Ident) 145 146 ∷ symbol (Ident) 147 152 ∷ symbol (Int (pos 2)) 153 154 ∷ symbol (Ident) 155 157 ∷ symbol (Ident) 158 165 ∷ symbol (Ident) 165 166 ∷ symbol (Ident) 167 168 ∷ symbol (Ident) 168 169 ∷ symbol (Ident) 170 177 ∷ symbol (Ident) 177 178 ∷ symbol (Ident) 179 180 ∷ symbol (Ident) 180 181 ∷ symbol (Ident) 181 182 ∷ symbol (Ident) 183 192 ∷ symbol (Ident) 192 193 ∷ symbol (Ident) 194 203 ∷ symbol (Ident) 204 205 ∷ symbol (Ident) 205 206 ∷ symbol (Ident) 206 207 ∷ symbol (Ident) 208 211 ∷ symbol (Ident) 212 213 ∷ symbol (Ident) 213 214 ∷ symbol (Ident) 215 224 ∷ symbol (Ident) 225 226 ∷ symbol (Ident) 226 227 ∷ symbol (Ident) 228 231 ∷ symbol (Ident) 232 233 ∷ symbol (Ident) 233 234 ∷ symbol (Ident) 235 238 ∷ symbol (Ident) 239 240 ∷ symbol (Ident) 240 241 ∷ []) }; tree = record { module_word = 0; name = 1; semicolon = 0; imports = None; decls = (S.decls (Some (record { const_word = 0; each = (record { name = (record { name = 4; star = Some 0 }); equal = 0; value = (S.only (S.simple None (S.term (S.Int 7) S.no_factor) S.no_term)); semicolon = 0 } ∷ record { name = (record { name = 9; star = None }); equal = 0; value = (S.only (S.simple None (S.term (S.Int 11) S.no_factor) S.no_term)); semicolon = 0 } ∷ []) })) (Some (record { type_word = 0; each = (record { name = (record { name = 14; star = Some 0 }); equal = 0; is = (S.Record 17 None (S.fields (record { first = (record { name = 18; star = Some 0 }); more = [] }) 0 (S.Named (record { name = 21; member = None }))) (S.next_fields 0 (S.fields (record { first = (record { name = 23; star = None }); more = [] }) 0 (S.Named (record { name = 25; member = None }))) S.no_more_fields) 0); semicolon = 0 } ∷ record { name = (record { name = 28; star = Some 0 }); equal = 0; is = (S.Pointer 31 0 (S.Named (record { name = 33; member = None }))); semicolon = 0 } ∷ record { name = (record { name = 35; star = None }); equal = 0; is = (S.Record 37 None S.no_fields S.no_more_fields 0); semicolon = 0 } ∷ []) })) (Some (record { var_word = 0; each = (record { names = (record { first = (record { name = 41; star = Some 0 }); more = [] }); colon = 0; of = (S.Named (record { name = 44; member = None })); semicolon = 0 } ∷ record { names = (record { first = (record { name = 46; star = Some 0 }); more = [] }); colon = 0; of = (S.Named (record { name = 49; member = None })); semicolon = 0 } ∷ record { names = (record { first = (record { name = 51; star = Some 0 }); more = [] }); colon = 0; of = (S.Named (record { name = 54; member = None })); semicolon = 0 } ∷ record { names = (record { first = (record { name = 56; star = Some 0 }); more = [] }); colon = 0; of = (S.Array 59 (S.only (S.simple None (S.term (S.Int 60) S.no_factor) S.no_term)) S.no_expression 0 (S.Named (record { name = 62; member = None }))); semicolon = 0 } ∷ record { names = (record { first = (record { name = 64; star = None }); more = [] }); colon = 0; of = (S.Named (record { name = 66; member = None })); semicolon = 0 } ∷ record { names = (record { first = (record { name = 68; star = Some 0 }); more = [] }); colon = 0; of = (S.Procedure 71 None); semicolon = 0 } ∷ []) })) (S.procedure 0 (record { name = 74; star = Some 0 }) None 0 (S.decls None None None S.no_procedure) None None 77 78 0 (S.procedure 0 (record { name = 81; star = None }) None 0 (S.decls None None None S.no_procedure) None None 83 84 0 S.no_procedure))); body = None; end_word = 0; end_name = 87; period = 0 } }

-- MODULE M; IMPORT A; VAR i: INTEGER; BEGIN i := A.r.h END M.
abbrev not_visible_2_1 : Parsed
not_visible_2_1 = record { source = record { bytes = (77 ∷ 79 ∷ 68 ∷ 85 ∷ 76 ∷ 69 ∷ 32 ∷ 77 ∷ 59 ∷ 32 ∷ 73 ∷ 77 ∷ 80 ∷ 79 ∷ 82 ∷ 84 ∷ 32 ∷ 65 ∷ 59 ∷ 32 ∷ 86 ∷ 65 ∷ 82 ∷ 32 ∷ 105 ∷ 58 ∷ 32 ∷ 73 ∷ 78 ∷ 84 ∷ 69 ∷ 71 ∷ 69 ∷ 82 ∷ 59 ∷ 32 ∷ 66 ∷ 69 ∷ 71 ∷ 73 ∷ 78 ∷ 32 ∷ 105 ∷ 32 ∷ 58 ∷ 61 ∷ 32 ∷ 65 ∷ 46 ∷ 114 ∷ 46 ∷ 104 ∷ 32 ∷ 69 ∷ 78 ∷ 68 ∷ 32 ∷ 77 ∷ 46 ∷ []); symbols = (symbol (Ident) 0 6 ∷ symbol (Ident) 7 8 ∷ symbol (Ident) 8 9 ∷ symbol (Ident) 10 16 ∷ symbol (Ident) 17 18 ∷ symbol (Ident) 18 19 ∷ symbol (Ident) 20 23 ∷ symbol (Ident) 24 25 ∷ symbol (Ident) 25 26 ∷ symbol (Ident) 27 34 ∷ symbol (Ident) 34 35 ∷ symbol (Ident) 36 41 ∷ symbol (Ident) 42 43 ∷ symbol (Ident) 44 46 ∷ symbol (Ident) 47 48 ∷ symbol (Ident) 48 49 ∷ symbol (Ident) 49 50 ∷ symbol (Ident) 50 51 ∷ symbol (Ident) 51 52 ∷ symbol (Ident) 53 56 ∷ symbol (Ident) 57 58 ∷ symbol (Ident) 58 59 ∷ []) }; tree = record { module_word = 0; name = 1; semicolon = 0; imports = Some (record { import_word = 0; first = (record { name = 4; of = None }); more = []; semicolon = 0 }); decls = (S.decls None None (Some (record { var_word = 0; each = (record { names = (record { first = (record { name = 7; star = None }); more = [] }); colon = 0; of = (S.Named (record { name = 9; member = None })); semicolon = 0 } ∷ []) })) S.no_procedure); body = (Some (record { begin_word = 0; stats = (S.stats (S.AssignOrCall (record { name = 12; selectors = S.no_selector }) (Some (record { becomes = 0; value = (S.only (S.simple None (S.term (S.Designated 14 (S.selected (S.Field 0 16) (S.selected (S.Field 0 18) S.no_selector))) S.no_factor) S.no_term)) }))) S.no_stat) })); end_word = 0; end_name = 20; period = 0 } }

pub not_visible_2 : checked (not_visible_2_0 ∷ not_visible_2_1 ∷ []) ≡ Fault 1 34 51
not_visible_2 = refl

-- MODULE A; CONST c* = 3; d = 4; TYPE R* = RECORD x*: INTEGER; h: INTEGER END; P* = POINTER TO R; H = RECORD END; VAR v*: INTEGER; r*: R; p*: P; a*: ARRAY 2 OF INTEGER; w: INTEGER; f*: PROCEDURE; PROCEDURE N*; END N; PROCEDURE L; END L; END A.
abbrev not_visible_3_0 : Parsed
not_visible_3_0 = record { source = record { bytes = (77 ∷ 79 ∷ 68 ∷ 85 ∷ 76 ∷ 69 ∷ 32 ∷ 65 ∷ 59 ∷ 32 ∷ 67 ∷ 79 ∷ 78 ∷ 83 ∷ 84 ∷ 32 ∷ 99 ∷ 42 ∷ 32 ∷ 61 ∷ 32 ∷ 51 ∷ 59 ∷ 32 ∷ 100 ∷ 32 ∷ 61 ∷ 32 ∷ 52 ∷ 59 ∷ 32 ∷ 84 ∷ 89 ∷ 80 ∷ 69 ∷ 32 ∷ 82 ∷ 42 ∷ 32 ∷ 61 ∷ 32 ∷ 82 ∷ 69 ∷ 67 ∷ 79 ∷ 82 ∷ 68 ∷ 32 ∷ 120 ∷ 42 ∷ 58 ∷ 32 ∷ 73 ∷ 78 ∷ 84 ∷ 69 ∷ 71 ∷ 69 ∷ 82 ∷ 59 ∷ 32 ∷ 104 ∷ 58 ∷ 32 ∷ 73 ∷ 78 ∷ 84 ∷ 69 ∷ 71 ∷ 69 ∷ 82 ∷ 32 ∷ 69 ∷ 78 ∷ 68 ∷ 59 ∷ 32 ∷ 80 ∷ 42 ∷ 32 ∷ 61 ∷ 32 ∷ 80 ∷ 79 ∷ 73 ∷ 78 ∷ 84 ∷ 69 ∷ 82 ∷ 32 ∷ 84 ∷ 79 ∷ 32 ∷ 82 ∷ 59 ∷ 32 ∷ 72 ∷ 32 ∷ 61 ∷ 32 ∷ 82 ∷ 69 ∷ 67 ∷ 79 ∷ 82 ∷ 68 ∷ 32 ∷ 69 ∷ 78 ∷ 68 ∷ 59 ∷ 32 ∷ 86 ∷ 65 ∷ 82 ∷ 32 ∷ 118 ∷ 42 ∷ 58 ∷ 32 ∷ 73 ∷ 78 ∷ 84 ∷ 69 ∷ 71 ∷ 69 ∷ 82 ∷ 59 ∷ 32 ∷ 114 ∷ 42 ∷ 58 ∷ 32 ∷ 82 ∷ 59 ∷ 32 ∷ 112 ∷ 42 ∷ 58 ∷ 32 ∷ 80 ∷ 59 ∷ 32 ∷ 97 ∷ 42 ∷ 58 ∷ 32 ∷ 65 ∷ 82 ∷ 82 ∷ 65 ∷ 89 ∷ 32 ∷ 50 ∷ 32 ∷ 79 ∷ 70 ∷ 32 ∷ 73 ∷ 78 ∷ 84 ∷ 69 ∷ 71 ∷ 69 ∷ 82 ∷ 59 ∷ 32 ∷ 119 ∷ 58 ∷ 32 ∷ 73 ∷ 78 ∷ 84 ∷ 69 ∷ 71 ∷ 69 ∷ 82 ∷ 59 ∷ 32 ∷ 102 ∷ 42 ∷ 58 ∷ 32 ∷ 80 ∷ 82 ∷ 79 ∷ 67 ∷ 69 ∷ 68 ∷ 85 ∷ 82 ∷ 69 ∷ 59 ∷ 32 ∷ 80 ∷ 82 ∷ 79 ∷ 67 ∷ 69 ∷ 68 ∷ 85 ∷ 82 ∷ 69 ∷ 32 ∷ 78 ∷ 42 ∷ 59 ∷ 32 ∷ 69 ∷ 78 ∷ 68 ∷ 32 ∷ 78 ∷ 59 ∷ 32 ∷ 80 ∷ 82 ∷ 79 ∷ 67 ∷ 69 ∷ 68 ∷ 85 ∷ 82 ∷ 69 ∷ 32 ∷ 76 ∷ 59 ∷ 32 ∷ 69 ∷ 78 ∷ 68 ∷ 32 ∷ 76 ∷ 59 ∷ 32 ∷ 69 ∷ 78 ∷ 68 ∷ 32 ∷ 65 ∷ 46 ∷ 10 ∷ []); symbols = (symbol (Ident) 0 6 ∷ symbol (Ident) 7 8 ∷ symbol (Ident) 8 9 ∷ symbol (Ident) 10 15 ∷ symbol (Ident) 16 17 ∷ symbol (Ident) 17 18 ∷ symbol (Ident) 19 20 ∷ symbol (Int (pos 3)) 21 22 ∷ symbol (Ident) 22 23 ∷ symbol (Ident) 24 25 ∷ symbol (Ident) 26 27 ∷ symbol (Int (pos 4)) 28 29 ∷ symbol (Ident) 29 30 ∷ symbol (Ident) 31 35 ∷ symbol (Ident) 36 37 ∷ symbol (Ident) 37 38 ∷ symbol (Ident) 39 40 ∷ symbol (Ident) 41 47 ∷ symbol (Ident) 48 49 ∷ symbol (Ident) 49 50 ∷ symbol (Ident) 50 51 ∷ symbol (Ident) 52 59 ∷ symbol (Ident) 59 60 ∷ symbol (Ident) 61 62 ∷ symbol (Ident) 62 63 ∷ symbol (Ident) 64 71 ∷ symbol (Ident) 72 75 ∷ symbol (Ident) 75 76 ∷ symbol (Ident) 77 78 ∷ symbol (Ident) 78 79 ∷ symbol (Ident) 80 81 ∷ symbol (Ident) 82 89 ∷ symbol (Ident) 90 92 ∷ symbol (Ident) 93 94 ∷ symbol (Ident) 94 95 ∷ symbol (Ident) 96 97 ∷ symbol (Ident) 98 99 ∷ symbol (Ident) 100 106 ∷ symbol (Ident) 107 110 ∷ symbol (Ident) 110 111 ∷ symbol (Ident) 112 115 ∷ symbol (Ident) 116 117 ∷ symbol (Ident) 117 118 ∷ symbol (Ident) 118 119 ∷ symbol (Ident) 120 127 ∷ symbol (Ident) 127 128 ∷ symbol (Ident) 129 130 ∷ symbol (Ident) 130 131 ∷ symbol (Ident) 131 132 ∷ symbol (Ident) 133 134 ∷ symbol (Ident) 134 135 ∷ symbol (Ident) 136 137 ∷ symbol (Ident) 137 138 ∷ symbol (Ident) 138 139 ∷ symbol (Ident) 140 141 ∷ symbol (Ident) 141 142 ∷ symbol (Ident) 143 144 ∷ symbol (Ident) 144 145 ∷ symbol (Ident) 145 146 ∷ symbol (Ident) 147 152 ∷ symbol (Int (pos 2)) 153 154 ∷ symbol (Ident) 155 157 ∷ symbol (Ident) 158 165 ∷ symbol (Ident) 165 166 ∷ symbol (Ident) 167 168 ∷ symbol (Ident) 168 169 ∷ symbol (Ident) 170 177 ∷ symbol (Ident) 177 178 ∷ symbol (Ident) 179 180 ∷ symbol (Ident) 180 181 ∷ symbol (Ident) 181 182 ∷ symbol (Ident) 183 192 ∷ symbol (Ident) 192 193 ∷ symbol (Ident) 194 203 ∷ symbol (Ident) 204 205 ∷ symbol (Ident) 205 206 ∷ symbol (Ident) 206 207 ∷ symbol (Ident) 208 211 ∷ symbol (Ident) 212 213 ∷ symbol (Ident) 213 214 ∷ symbol (Ident) 215 224 ∷ symbol (Ident) 225 226 ∷ symbol (Ident) 226 227 ∷ symbol (Ident) 228 231 ∷ symbol (Ident) 232 233 ∷ symbol (Ident) 233 234 ∷ symbol (Ident) 235 238 ∷ symbol (Ident) 239 240 ∷ symbol (Ident) 240 241 ∷ []) }; tree = record { module_word = 0; name = 1; semicolon = 0; imports = None; decls = (S.decls (Some (record { const_word = 0; each = (record { name = (record { name = 4; star = Some 0 }); equal = 0; value = (S.only (S.simple None (S.term (S.Int 7) S.no_factor) S.no_term)); semicolon = 0 } ∷ record { name = (record { name = 9; star = None }); equal = 0; value = (S.only (S.simple None (S.term (S.Int 11) S.no_factor) S.no_term)); semicolon = 0 } ∷ []) })) (Some (record { type_word = 0; each = (record { name = (record { name = 14; star = Some 0 }); equal = 0; is = (S.Record 17 None (S.fields (record { first = (record { name = 18; star = Some 0 }); more = [] }) 0 (S.Named (record { name = 21; member = None }))) (S.next_fields 0 (S.fields (record { first = (record { name = 23; star = None }); more = [] }) 0 (S.Named (record { name = 25; member = None }))) S.no_more_fields) 0); semicolon = 0 } ∷ record { name = (record { name = 28; star = Some 0 }); equal = 0; is = (S.Pointer 31 0 (S.Named (record { name = 33; member = None }))); semicolon = 0 } ∷ record { name = (record { name = 35; star = None }); equal = 0; is = (S.Record 37 None S.no_fields S.no_more_fields 0); semicolon = 0 } ∷ []) })) (Some (record { var_word = 0; each = (record { names = (record { first = (record { name = 41; star = Some 0 }); more = [] }); colon = 0; of = (S.Named (record { name = 44; member = None })); semicolon = 0 } ∷ record { names = (record { first = (record { name = 46; star = Some 0 }); more = [] }); colon = 0; of = (S.Named (record { name = 49; member = None })); semicolon = 0 } ∷ record { names = (record { first = (record { name = 51; star = Some 0 }); more = [] }); colon = 0; of = (S.Named (record { name = 54; member = None })); semicolon = 0 } ∷ record { names = (record { first = (record { name = 56; star = Some 0 }); more = [] }); colon = 0; of = (S.Array 59 (S.only (S.simple None (S.term (S.Int 60) S.no_factor) S.no_term)) S.no_expression 0 (S.Named (record { name = 62; member = None }))); semicolon = 0 } ∷ record { names = (record { first = (record { name = 64; star = None }); more = [] }); colon = 0; of = (S.Named (record { name = 66; member = None })); semicolon = 0 } ∷ record { names = (record { first = (record { name = 68; star = Some 0 }); more = [] }); colon = 0; of = (S.Procedure 71 None); semicolon = 0 } ∷ []) })) (S.procedure 0 (record { name = 74; star = Some 0 }) None 0 (S.decls None None None S.no_procedure) None None 77 78 0 (S.procedure 0 (record { name = 81; star = None }) None 0 (S.decls None None None S.no_procedure) None None 83 84 0 S.no_procedure))); body = None; end_word = 0; end_name = 87; period = 0 } }

-- MODULE M; IMPORT A; VAR p: A.P; BEGIN p.h := 1 END M.
abbrev not_visible_3_1 : Parsed
not_visible_3_1 = record { source = record { bytes = (77 ∷ 79 ∷ 68 ∷ 85 ∷ 76 ∷ 69 ∷ 32 ∷ 77 ∷ 59 ∷ 32 ∷ 73 ∷ 77 ∷ 80 ∷ 79 ∷ 82 ∷ 84 ∷ 32 ∷ 65 ∷ 59 ∷ 32 ∷ 86 ∷ 65 ∷ 82 ∷ 32 ∷ 112 ∷ 58 ∷ 32 ∷ 65 ∷ 46 ∷ 80 ∷ 59 ∷ 32 ∷ 66 ∷ 69 ∷ 71 ∷ 73 ∷ 78 ∷ 32 ∷ 112 ∷ 46 ∷ 104 ∷ 32 ∷ 58 ∷ 61 ∷ 32 ∷ 49 ∷ 32 ∷ 69 ∷ 78 ∷ 68 ∷ 32 ∷ 77 ∷ 46 ∷ []); symbols = (symbol (Ident) 0 6 ∷ symbol (Ident) 7 8 ∷ symbol (Ident) 8 9 ∷ symbol (Ident) 10 16 ∷ symbol (Ident) 17 18 ∷ symbol (Ident) 18 19 ∷ symbol (Ident) 20 23 ∷ symbol (Ident) 24 25 ∷ symbol (Ident) 25 26 ∷ symbol (Ident) 27 28 ∷ symbol (Ident) 28 29 ∷ symbol (Ident) 29 30 ∷ symbol (Ident) 30 31 ∷ symbol (Ident) 32 37 ∷ symbol (Ident) 38 39 ∷ symbol (Ident) 39 40 ∷ symbol (Ident) 40 41 ∷ symbol (Ident) 42 44 ∷ symbol (Int (pos 1)) 45 46 ∷ symbol (Ident) 47 50 ∷ symbol (Ident) 51 52 ∷ symbol (Ident) 52 53 ∷ []) }; tree = record { module_word = 0; name = 1; semicolon = 0; imports = Some (record { import_word = 0; first = (record { name = 4; of = None }); more = []; semicolon = 0 }); decls = (S.decls None None (Some (record { var_word = 0; each = (record { names = (record { first = (record { name = 7; star = None }); more = [] }); colon = 0; of = (S.Named (record { name = 9; member = Some (record { period = 0; name = 11 }) })); semicolon = 0 } ∷ []) })) S.no_procedure); body = (Some (record { begin_word = 0; stats = (S.stats (S.AssignOrCall (record { name = 14; selectors = (S.selected (S.Field 0 16) S.no_selector) }) (Some (record { becomes = 0; value = (S.only (S.simple None (S.term (S.Int 18) S.no_factor) S.no_term)) }))) S.no_stat) })); end_word = 0; end_name = 20; period = 0 } }

pub not_visible_3 : checked (not_visible_3_0 ∷ not_visible_3_1 ∷ []) ≡ Fault 1 34 40
not_visible_3 = refl

-- MODULE A; CONST c* = 3; d = 4; TYPE R* = RECORD x*: INTEGER; h: INTEGER END; P* = POINTER TO R; H = RECORD END; VAR v*: INTEGER; r*: R; p*: P; a*: ARRAY 2 OF INTEGER; w: INTEGER; f*: PROCEDURE; PROCEDURE N*; END N; PROCEDURE L; END L; END A.
abbrev not_visible_4_0 : Parsed
not_visible_4_0 = record { source = record { bytes = (77 ∷ 79 ∷ 68 ∷ 85 ∷ 76 ∷ 69 ∷ 32 ∷ 65 ∷ 59 ∷ 32 ∷ 67 ∷ 79 ∷ 78 ∷ 83 ∷ 84 ∷ 32 ∷ 99 ∷ 42 ∷ 32 ∷ 61 ∷ 32 ∷ 51 ∷ 59 ∷ 32 ∷ 100 ∷ 32 ∷ 61 ∷ 32 ∷ 52 ∷ 59 ∷ 32 ∷ 84 ∷ 89 ∷ 80 ∷ 69 ∷ 32 ∷ 82 ∷ 42 ∷ 32 ∷ 61 ∷ 32 ∷ 82 ∷ 69 ∷ 67 ∷ 79 ∷ 82 ∷ 68 ∷ 32 ∷ 120 ∷ 42 ∷ 58 ∷ 32 ∷ 73 ∷ 78 ∷ 84 ∷ 69 ∷ 71 ∷ 69 ∷ 82 ∷ 59 ∷ 32 ∷ 104 ∷ 58 ∷ 32 ∷ 73 ∷ 78 ∷ 84 ∷ 69 ∷ 71 ∷ 69 ∷ 82 ∷ 32 ∷ 69 ∷ 78 ∷ 68 ∷ 59 ∷ 32 ∷ 80 ∷ 42 ∷ 32 ∷ 61 ∷ 32 ∷ 80 ∷ 79 ∷ 73 ∷ 78 ∷ 84 ∷ 69 ∷ 82 ∷ 32 ∷ 84 ∷ 79 ∷ 32 ∷ 82 ∷ 59 ∷ 32 ∷ 72 ∷ 32 ∷ 61 ∷ 32 ∷ 82 ∷ 69 ∷ 67 ∷ 79 ∷ 82 ∷ 68 ∷ 32 ∷ 69 ∷ 78 ∷ 68 ∷ 59 ∷ 32 ∷ 86 ∷ 65 ∷ 82 ∷ 32 ∷ 118 ∷ 42 ∷ 58 ∷ 32 ∷ 73 ∷ 78 ∷ 84 ∷ 69 ∷ 71 ∷ 69 ∷ 82 ∷ 59 ∷ 32 ∷ 114 ∷ 42 ∷ 58 ∷ 32 ∷ 82 ∷ 59 ∷ 32 ∷ 112 ∷ 42 ∷ 58 ∷ 32 ∷ 80 ∷ 59 ∷ 32 ∷ 97 ∷ 42 ∷ 58 ∷ 32 ∷ 65 ∷ 82 ∷ 82 ∷ 65 ∷ 89 ∷ 32 ∷ 50 ∷ 32 ∷ 79 ∷ 70 ∷ 32 ∷ 73 ∷ 78 ∷ 84 ∷ 69 ∷ 71 ∷ 69 ∷ 82 ∷ 59 ∷ 32 ∷ 119 ∷ 58 ∷ 32 ∷ 73 ∷ 78 ∷ 84 ∷ 69 ∷ 71 ∷ 69 ∷ 82 ∷ 59 ∷ 32 ∷ 102 ∷ 42 ∷ 58 ∷ 32 ∷ 80 ∷ 82 ∷ 79 ∷ 67 ∷ 69 ∷ 68 ∷ 85 ∷ 82 ∷ 69 ∷ 59 ∷ 32 ∷ 80 ∷ 82 ∷ 79 ∷ 67 ∷ 69 ∷ 68 ∷ 85 ∷ 82 ∷ 69 ∷ 32 ∷ 78 ∷ 42 ∷ 59 ∷ 32 ∷ 69 ∷ 78 ∷ 68 ∷ 32 ∷ 78 ∷ 59 ∷ 32 ∷ 80 ∷ 82 ∷ 79 ∷ 67 ∷ 69 ∷ 68 ∷ 85 ∷ 82 ∷ 69 ∷ 32 ∷ 76 ∷ 59 ∷ 32 ∷ 69 ∷ 78 ∷ 68 ∷ 32 ∷ 76 ∷ 59 ∷ 32 ∷ 69 ∷ 78 ∷ 68 ∷ 32 ∷ 65 ∷ 46 ∷ 10 ∷ []); symbols = (symbol (Ident) 0 6 ∷ symbol (Ident) 7 8 ∷ symbol (Ident) 8 9 ∷ symbol (Ident) 10 15 ∷ symbol (Ident) 16 17 ∷ symbol (Ident) 17 18 ∷ symbol (Ident) 19 20 ∷ symbol (Int (pos 3)) 21 22 ∷ symbol (Ident) 22 23 ∷ symbol (Ident) 24 25 ∷ symbol (Ident) 26 27 ∷ symbol (Int (pos 4)) 28 29 ∷ symbol (Ident) 29 30 ∷ symbol (Ident) 31 35 ∷ symbol (Ident) 36 37 ∷ symbol (Ident) 37 38 ∷ symbol (Ident) 39 40 ∷ symbol (Ident) 41 47 ∷ symbol (Ident) 48 49 ∷ symbol (Ident) 49 50 ∷ symbol (Ident) 50 51 ∷ symbol (Ident) 52 59 ∷ symbol (Ident) 59 60 ∷ symbol (Ident) 61 62 ∷ symbol (Ident) 62 63 ∷ symbol (Ident) 64 71 ∷ symbol (Ident) 72 75 ∷ symbol (Ident) 75 76 ∷ symbol (Ident) 77 78 ∷ symbol (Ident) 78 79 ∷ symbol (Ident) 80 81 ∷ symbol (Ident) 82 89 ∷ symbol (Ident) 90 92 ∷ symbol (Ident) 93 94 ∷ symbol (Ident) 94 95 ∷ symbol (Ident) 96 97 ∷ symbol (Ident) 98 99 ∷ symbol (Ident) 100 106 ∷ symbol (Ident) 107 110 ∷ symbol (Ident) 110 111 ∷ symbol (Ident) 112 115 ∷ symbol (Ident) 116 117 ∷ symbol (Ident) 117 118 ∷ symbol (Ident) 118 119 ∷ symbol (Ident) 120 127 ∷ symbol (Ident) 127 128 ∷ symbol (Ident) 129 130 ∷ symbol (Ident) 130 131 ∷ symbol (Ident) 131 132 ∷ symbol (Ident) 133 134 ∷ symbol (Ident) 134 135 ∷ symbol (Ident) 136 137 ∷ symbol (Ident) 137 138 ∷ symbol (Ident) 138 139 ∷ symbol (Ident) 140 141 ∷ symbol (Ident) 141 142 ∷ symbol (Ident) 143 144 ∷ symbol (Ident) 144 145 ∷ symbol (Ident) 145 146 ∷ symbol (Ident) 147 152 ∷ symbol (Int (pos 2)) 153 154 ∷ symbol (Ident) 155 157 ∷ symbol (Ident) 158 165 ∷ symbol (Ident) 165 166 ∷ symbol (Ident) 167 168 ∷ symbol (Ident) 168 169 ∷ symbol (Ident) 170 177 ∷ symbol (Ident) 177 178 ∷ symbol (Ident) 179 180 ∷ symbol (Ident) 180 181 ∷ symbol (Ident) 181 182 ∷ symbol (Ident) 183 192 ∷ symbol (Ident) 192 193 ∷ symbol (Ident) 194 203 ∷ symbol (Ident) 204 205 ∷ symbol (Ident) 205 206 ∷ symbol (Ident) 206 207 ∷ symbol (Ident) 208 211 ∷ symbol (Ident) 212 213 ∷ symbol (Ident) 213 214 ∷ symbol (Ident) 215 224 ∷ symbol (Ident) 225 226 ∷ symbol (Ident) 226 227 ∷ symbol (Ident) 228 231 ∷ symbol (Ident) 232 233 ∷ symbol (Ident) 233 234 ∷ symbol (Ident) 235 238 ∷ symbol (Ident) 239 240 ∷ symbol (Ident) 240 241 ∷ []) }; tree = record { module_word = 0; name = 1; semicolon = 0; imports = None; decls = (S.decls (Some (record { const_word = 0; each = (record { name = (record { name = 4; star = Some 0 }); equal = 0; value = (S.only (S.simple None (S.term (S.Int 7) S.no_factor) S.no_term)); semicolon = 0 } ∷ record { name = (record { name = 9; star = None }); equal = 0; value = (S.only (S.simple None (S.term (S.Int 11) S.no_factor) S.no_term)); semicolon = 0 } ∷ []) })) (Some (record { type_word = 0; each = (record { name = (record { name = 14; star = Some 0 }); equal = 0; is = (S.Record 17 None (S.fields (record { first = (record { name = 18; star = Some 0 }); more = [] }) 0 (S.Named (record { name = 21; member = None }))) (S.next_fields 0 (S.fields (record { first = (record { name = 23; star = None }); more = [] }) 0 (S.Named (record { name = 25; member = None }))) S.no_more_fields) 0); semicolon = 0 } ∷ record { name = (record { name = 28; star = Some 0 }); equal = 0; is = (S.Pointer 31 0 (S.Named (record { name = 33; member = None }))); semicolon = 0 } ∷ record { name = (record { name = 35; star = None }); equal = 0; is = (S.Record 37 None S.no_fields S.no_more_fields 0); semicolon = 0 } ∷ []) })) (Some (record { var_word = 0; each = (record { names = (record { first = (record { name = 41; star = Some 0 }); more = [] }); colon = 0; of = (S.Named (record { name = 44; member = None })); semicolon = 0 } ∷ record { names = (record { first = (record { name = 46; star = Some 0 }); more = [] }); colon = 0; of = (S.Named (record { name = 49; member = None })); semicolon = 0 } ∷ record { names = (record { first = (record { name = 51; star = Some 0 }); more = [] }); colon = 0; of = (S.Named (record { name = 54; member = None })); semicolon = 0 } ∷ record { names = (record { first = (record { name = 56; star = Some 0 }); more = [] }); colon = 0; of = (S.Array 59 (S.only (S.simple None (S.term (S.Int 60) S.no_factor) S.no_term)) S.no_expression 0 (S.Named (record { name = 62; member = None }))); semicolon = 0 } ∷ record { names = (record { first = (record { name = 64; star = None }); more = [] }); colon = 0; of = (S.Named (record { name = 66; member = None })); semicolon = 0 } ∷ record { names = (record { first = (record { name = 68; star = Some 0 }); more = [] }); colon = 0; of = (S.Procedure 71 None); semicolon = 0 } ∷ []) })) (S.procedure 0 (record { name = 74; star = Some 0 }) None 0 (S.decls None None None S.no_procedure) None None 77 78 0 (S.procedure 0 (record { name = 81; star = None }) None 0 (S.decls None None None S.no_procedure) None None 83 84 0 S.no_procedure))); body = None; end_word = 0; end_name = 87; period = 0 } }

-- MODULE M; IMPORT A; VAR p: A.H; END M.
abbrev not_visible_4_1 : Parsed
not_visible_4_1 = record { source = record { bytes = (77 ∷ 79 ∷ 68 ∷ 85 ∷ 76 ∷ 69 ∷ 32 ∷ 77 ∷ 59 ∷ 32 ∷ 73 ∷ 77 ∷ 80 ∷ 79 ∷ 82 ∷ 84 ∷ 32 ∷ 65 ∷ 59 ∷ 32 ∷ 86 ∷ 65 ∷ 82 ∷ 32 ∷ 112 ∷ 58 ∷ 32 ∷ 65 ∷ 46 ∷ 72 ∷ 59 ∷ 32 ∷ 69 ∷ 78 ∷ 68 ∷ 32 ∷ 77 ∷ 46 ∷ []); symbols = (symbol (Ident) 0 6 ∷ symbol (Ident) 7 8 ∷ symbol (Ident) 8 9 ∷ symbol (Ident) 10 16 ∷ symbol (Ident) 17 18 ∷ symbol (Ident) 18 19 ∷ symbol (Ident) 20 23 ∷ symbol (Ident) 24 25 ∷ symbol (Ident) 25 26 ∷ symbol (Ident) 27 28 ∷ symbol (Ident) 28 29 ∷ symbol (Ident) 29 30 ∷ symbol (Ident) 30 31 ∷ symbol (Ident) 32 35 ∷ symbol (Ident) 36 37 ∷ symbol (Ident) 37 38 ∷ []) }; tree = record { module_word = 0; name = 1; semicolon = 0; imports = Some (record { import_word = 0; first = (record { name = 4; of = None }); more = []; semicolon = 0 }); decls = (S.decls None None (Some (record { var_word = 0; each = (record { names = (record { first = (record { name = 7; star = None }); more = [] }); colon = 0; of = (S.Named (record { name = 9; member = Some (record { period = 0; name = 11 }) })); semicolon = 0 } ∷ []) })) S.no_procedure); body = None; end_word = 0; end_name = 14; period = 0 } }

pub not_visible_4 : checked (not_visible_4_0 ∷ not_visible_4_1 ∷ []) ≡ Fault 1 34 29
not_visible_4 = refl

-- MODULE A; CONST c* = 3; d = 4; TYPE R* = RECORD x*: INTEGER; h: INTEGER END; P* = POINTER TO R; H = RECORD END; VAR v*: INTEGER; r*: R; p*: P; a*: ARRAY 2 OF INTEGER; w: INTEGER; f*: PROCEDURE; PROCEDURE N*; END N; PROCEDURE L; END L; END A.
abbrev not_visible_5_0 : Parsed
not_visible_5_0 = record { source = record { bytes = (77 ∷ 79 ∷ 68 ∷ 85 ∷ 76 ∷ 69 ∷ 32 ∷ 65 ∷ 59 ∷ 32 ∷ 67 ∷ 79 ∷ 78 ∷ 83 ∷ 84 ∷ 32 ∷ 99 ∷ 42 ∷ 32 ∷ 61 ∷ 32 ∷ 51 ∷ 59 ∷ 32 ∷ 100 ∷ 32 ∷ 61 ∷ 32 ∷ 52 ∷ 59 ∷ 32 ∷ 84 ∷ 89 ∷ 80 ∷ 69 ∷ 32 ∷ 82 ∷ 42 ∷ 32 ∷ 61 ∷ 32 ∷ 82 ∷ 69 ∷ 67 ∷ 79 ∷ 82 ∷ 68 ∷ 32 ∷ 120 ∷ 42 ∷ 58 ∷ 32 ∷ 73 ∷ 78 ∷ 84 ∷ 69 ∷ 71 ∷ 69 ∷ 82 ∷ 59 ∷ 32 ∷ 104 ∷ 58 ∷ 32 ∷ 73 ∷ 78 ∷ 84 ∷ 69 ∷ 71 ∷ 69 ∷ 82 ∷ 32 ∷ 69 ∷ 78 ∷ 68 ∷ 59 ∷ 32 ∷ 80 ∷ 42 ∷ 32 ∷ 61 ∷ 32 ∷ 80 ∷ 79 ∷ 73 ∷ 78 ∷ 84 ∷ 69 ∷ 82 ∷ 32 ∷ 84 ∷ 79 ∷ 32 ∷ 82 ∷ 59 ∷ 32 ∷ 72 ∷ 32 ∷ 61 ∷ 32 ∷ 82 ∷ 69 ∷ 67 ∷ 79 ∷ 82 ∷ 68 ∷ 32 ∷ 69 ∷ 78 ∷ 68 ∷ 59 ∷ 32 ∷ 86 ∷ 65 ∷ 82 ∷ 32 ∷ 118 ∷ 42 ∷ 58 ∷ 32 ∷ 73 ∷ 78 ∷ 84 ∷ 69 ∷ 71 ∷ 69 ∷ 82 ∷ 59 ∷ 32 ∷ 114 ∷ 42 ∷ 58 ∷ 32 ∷ 82 ∷ 59 ∷ 32 ∷ 112 ∷ 42 ∷ 58 ∷ 32 ∷ 80 ∷ 59 ∷ 32 ∷ 97 ∷ 42 ∷ 58 ∷ 32 ∷ 65 ∷ 82 ∷ 82 ∷ 65 ∷ 89 ∷ 32 ∷ 50 ∷ 32 ∷ 79 ∷ 70 ∷ 32 ∷ 73 ∷ 78 ∷ 84 ∷ 69 ∷ 71 ∷ 69 ∷ 82 ∷ 59 ∷ 32 ∷ 119 ∷ 58 ∷ 32 ∷ 73 ∷ 78 ∷ 84 ∷ 69 ∷ 71 ∷ 69 ∷ 82 ∷ 59 ∷ 32 ∷ 102 ∷ 42 ∷ 58 ∷ 32 ∷ 80 ∷ 82 ∷ 79 ∷ 67 ∷ 69 ∷ 68 ∷ 85 ∷ 82 ∷ 69 ∷ 59 ∷ 32 ∷ 80 ∷ 82 ∷ 79 ∷ 67 ∷ 69 ∷ 68 ∷ 85 ∷ 82 ∷ 69 ∷ 32 ∷ 78 ∷ 42 ∷ 59 ∷ 32 ∷ 69 ∷ 78 ∷ 68 ∷ 32 ∷ 78 ∷ 59 ∷ 32 ∷ 80 ∷ 82 ∷ 79 ∷ 67 ∷ 69 ∷ 68 ∷ 85 ∷ 82 ∷ 69 ∷ 32 ∷ 76 ∷ 59 ∷ 32 ∷ 69 ∷ 78 ∷ 68 ∷ 32 ∷ 76 ∷ 59 ∷ 32 ∷ 69 ∷ 78 ∷ 68 ∷ 32 ∷ 65 ∷ 46 ∷ 10 ∷ []); symbols = (symbol (Ident) 0 6 ∷ symbol (Ident) 7 8 ∷ symbol (Ident) 8 9 ∷ symbol (Ident) 10 15 ∷ symbol (Ident) 16 17 ∷ symbol (Ident) 17 18 ∷ symbol (Ident) 19 20 ∷ symbol (Int (pos 3)) 21 22 ∷ symbol (Ident) 22 23 ∷ symbol (Ident) 24 25 ∷ symbol (Ident) 26 27 ∷ symbol (Int (pos 4)) 28 29 ∷ symbol (Ident) 29 30 ∷ symbol (Ident) 31 35 ∷ symbol (Ident) 36 37 ∷ symbol (Ident) 37 38 ∷ symbol (Ident) 39 40 ∷ symbol (Ident) 41 47 ∷ symbol (Ident) 48 49 ∷ symbol (Ident) 49 50 ∷ symbol (Ident) 50 51 ∷ symbol (Ident) 52 59 ∷ symbol (Ident) 59 60 ∷ symbol (Ident) 61 62 ∷ symbol (Ident) 62 63 ∷ symbol (Ident) 64 71 ∷ symbol (Ident) 72 75 ∷ symbol (Ident) 75 76 ∷ symbol (Ident) 77 78 ∷ symbol (Ident) 78 79 ∷ symbol (Ident) 80 81 ∷ symbol (Ident) 82 89 ∷ symbol (Ident) 90 92 ∷ symbol (Ident) 93 94 ∷ symbol (Ident) 94 95 ∷ symbol (Ident) 96 97 ∷ symbol (Ident) 98 99 ∷ symbol (Ident) 100 106 ∷ symbol (Ident) 107 110 ∷ symbol (Ident) 110 111 ∷ symbol (Ident) 112 115 ∷ symbol (Ident) 116 117 ∷ symbol (Ident) 117 118 ∷ symbol (Ident) 118 119 ∷ symbol (Ident) 120 127 ∷ symbol (Ident) 127 128 ∷ symbol (Ident) 129 130 ∷ symbol (Ident) 130 131 ∷ symbol (Ident) 131 132 ∷ symbol (Ident) 133 134 ∷ symbol (Ident) 134 135 ∷ symbol (Ident) 136 137 ∷ symbol (Ident) 137 138 ∷ symbol (Ident) 138 139 ∷ symbol (Ident) 140 141 ∷ symbol (Ident) 141 142 ∷ symbol (Ident) 143 144 ∷ symbol (Ident) 144 145 ∷ symbol (Ident) 145 146 ∷ symbol (Ident) 147 152 ∷ symbol (Int (pos 2)) 153 154 ∷ symbol (Ident) 155 157 ∷ symbol (Ident) 158 165 ∷ symbol (Ident) 165 166 ∷ symbol (Ident) 167 168 ∷ symbol (Ident) 168 169 ∷ symbol (Ident) 170 177 ∷ symbol (Ident) 177 178 ∷ symbol (Ident) 179 180 ∷ symbol (Ident) 180 181 ∷ symbol (Ident) 181 182 ∷ symbol (Ident) 183 192 ∷ symbol (Ident) 192 193 ∷ symbol (Ident) 194 203 ∷ symbol (Ident) 204 205 ∷ symbol (Ident) 205 206 ∷ symbol (Ident) 206 207 ∷ symbol (Ident) 208 211 ∷ symbol (Ident) 212 213 ∷ symbol (Ident) 213 214 ∷ symbol (Ident) 215 224 ∷ symbol (Ident) 225 226 ∷ symbol (Ident) 226 227 ∷ symbol (Ident) 228 231 ∷ symbol (Ident) 232 233 ∷ symbol (Ident) 233 234 ∷ symbol (Ident) 235 238 ∷ symbol (Ident) 239 240 ∷ symbol (Ident) 240 241 ∷ []) }; tree = record { module_word = 0; name = 1; semicolon = 0; imports = None; decls = (S.decls (Some (record { const_word = 0; each = (record { name = (record { name = 4; star = Some 0 }); equal = 0; value = (S.only (S.simple None (S.term (S.Int 7) S.no_factor) S.no_term)); semicolon = 0 } ∷ record { name = (record { name = 9; star = None }); equal = 0; value = (S.only (S.simple None (S.term (S.Int 11) S.no_factor) S.no_term)); semicolon = 0 } ∷ []) })) (Some (record { type_word = 0; each = (record { name = (record { name = 14; star = Some 0 }); equal = 0; is = (S.Record 17 None (S.fields (record { first = (record { name = 18; star = Some 0 }); more = [] }) 0 (S.Named (record { name = 21; member = None }))) (S.next_fields 0 (S.fields (record { first = (record { name = 23; star = None }); more = [] }) 0 (S.Named (record { name = 25; member = None }))) S.no_more_fields) 0); semicolon = 0 } ∷ record { name = (record { name = 28; star = Some 0 }); equal = 0; is = (S.Pointer 31 0 (S.Named (record { name = 33; member = None }))); semicolon = 0 } ∷ record { name = (record { name = 35; star = None }); equal = 0; is = (S.Record 37 None S.no_fields S.no_more_fields 0); semicolon = 0 } ∷ []) })) (Some (record { var_word = 0; each = (record { names = (record { first = (record { name = 41; star = Some 0 }); more = [] }); colon = 0; of = (S.Named (record { name = 44; member = None })); semicolon = 0 } ∷ record { names = (record { first = (record { name = 46; star = Some 0 }); more = [] }); colon = 0; of = (S.Named (record { name = 49; member = None })); semicolon = 0 } ∷ record { names = (record { first = (record { name = 51; star = Some 0 }); more = [] }); colon = 0; of = (S.Named (record { name = 54; member = None })); semicolon = 0 } ∷ record { names = (record { first = (record { name = 56; star = Some 0 }); more = [] }); colon = 0; of = (S.Array 59 (S.only (S.simple None (S.term (S.Int 60) S.no_factor) S.no_term)) S.no_expression 0 (S.Named (record { name = 62; member = None }))); semicolon = 0 } ∷ record { names = (record { first = (record { name = 64; star = None }); more = [] }); colon = 0; of = (S.Named (record { name = 66; member = None })); semicolon = 0 } ∷ record { names = (record { first = (record { name = 68; star = Some 0 }); more = [] }); colon = 0; of = (S.Procedure 71 None); semicolon = 0 } ∷ []) })) (S.procedure 0 (record { name = 74; star = Some 0 }) None 0 (S.decls None None None S.no_procedure) None None 77 78 0 (S.procedure 0 (record { name = 81; star = None }) None 0 (S.decls None None None S.no_procedure) None None 83 84 0 S.no_procedure))); body = None; end_word = 0; end_name = 87; period = 0 } }

-- MODULE M; IMPORT A; BEGIN A.L END M.
abbrev not_visible_5_1 : Parsed
not_visible_5_1 = record { source = record { bytes = (77 ∷ 79 ∷ 68 ∷ 85 ∷ 76 ∷ 69 ∷ 32 ∷ 77 ∷ 59 ∷ 32 ∷ 73 ∷ 77 ∷ 80 ∷ 79 ∷ 82 ∷ 84 ∷ 32 ∷ 65 ∷ 59 ∷ 32 ∷ 66 ∷ 69 ∷ 71 ∷ 73 ∷ 78 ∷ 32 ∷ 65 ∷ 46 ∷ 76 ∷ 32 ∷ 69 ∷ 78 ∷ 68 ∷ 32 ∷ 77 ∷ 46 ∷ []); symbols = (symbol (Ident) 0 6 ∷ symbol (Ident) 7 8 ∷ symbol (Ident) 8 9 ∷ symbol (Ident) 10 16 ∷ symbol (Ident) 17 18 ∷ symbol (Ident) 18 19 ∷ symbol (Ident) 20 25 ∷ symbol (Ident) 26 27 ∷ symbol (Ident) 27 28 ∷ symbol (Ident) 28 29 ∷ symbol (Ident) 30 33 ∷ symbol (Ident) 34 35 ∷ symbol (Ident) 35 36 ∷ []) }; tree = record { module_word = 0; name = 1; semicolon = 0; imports = Some (record { import_word = 0; first = (record { name = 4; of = None }); more = []; semicolon = 0 }); decls = (S.decls None None None S.no_procedure); body = (Some (record { begin_word = 0; stats = (S.stats (S.AssignOrCall (record { name = 7; selectors = (S.selected (S.Field 0 9) S.no_selector) }) None) S.no_stat) })); end_word = 0; end_name = 11; period = 0 } }

pub not_visible_5 : checked (not_visible_5_0 ∷ not_visible_5_1 ∷ []) ≡ Fault 1 34 28
not_visible_5 = refl

-- MODULE A; CONST c* = 3; d = 4; TYPE R* = RECORD x*: INTEGER; h: INTEGER END; P* = POINTER TO R; H = RECORD END; VAR v*: INTEGER; r*: R; p*: P; a*: ARRAY 2 OF INTEGER; w: INTEGER; f*: PROCEDURE; PROCEDURE N*; END N; PROCEDURE L; END L; END A.
abbrev not_visible_6_0 : Parsed
not_visible_6_0 = record { source = record { bytes = (77 ∷ 79 ∷ 68 ∷ 85 ∷ 76 ∷ 69 ∷ 32 ∷ 65 ∷ 59 ∷ 32 ∷ 67 ∷ 79 ∷ 78 ∷ 83 ∷ 84 ∷ 32 ∷ 99 ∷ 42 ∷ 32 ∷ 61 ∷ 32 ∷ 51 ∷ 59 ∷ 32 ∷ 100 ∷ 32 ∷ 61 ∷ 32 ∷ 52 ∷ 59 ∷ 32 ∷ 84 ∷ 89 ∷ 80 ∷ 69 ∷ 32 ∷ 82 ∷ 42 ∷ 32 ∷ 61 ∷ 32 ∷ 82 ∷ 69 ∷ 67 ∷ 79 ∷ 82 ∷ 68 ∷ 32 ∷ 120 ∷ 42 ∷ 58 ∷ 32 ∷ 73 ∷ 78 ∷ 84 ∷ 69 ∷ 71 ∷ 69 ∷ 82 ∷ 59 ∷ 32 ∷ 104 ∷ 58 ∷ 32 ∷ 73 ∷ 78 ∷ 84 ∷ 69 ∷ 71 ∷ 69 ∷ 82 ∷ 32 ∷ 69 ∷ 78 ∷ 68 ∷ 59 ∷ 32 ∷ 80 ∷ 42 ∷ 32 ∷ 61 ∷ 32 ∷ 80 ∷ 79 ∷ 73 ∷ 78 ∷ 84 ∷ 69 ∷ 82 ∷ 32 ∷ 84 ∷ 79 ∷ 32 ∷ 82 ∷ 59 ∷ 32 ∷ 72 ∷ 32 ∷ 61 ∷ 32 ∷ 82 ∷ 69 ∷ 67 ∷ 79 ∷ 82 ∷ 68 ∷ 32 ∷ 69 ∷ 78 ∷ 68 ∷ 59 ∷ 32 ∷ 86 ∷ 65 ∷ 82 ∷ 32 ∷ 118 ∷ 42 ∷ 58 ∷ 32 ∷ 73 ∷ 78 ∷ 84 ∷ 69 ∷ 71 ∷ 69 ∷ 82 ∷ 59 ∷ 32 ∷ 114 ∷ 42 ∷ 58 ∷ 32 ∷ 82 ∷ 59 ∷ 32 ∷ 112 ∷ 42 ∷ 58 ∷ 32 ∷ 80 ∷ 59 ∷ 32 ∷ 97 ∷ 42 ∷ 58 ∷ 32 ∷ 65 ∷ 82 ∷ 82 ∷ 65 ∷ 89 ∷ 32 ∷ 50 ∷ 32 ∷ 79 ∷ 70 ∷ 32 ∷ 73 ∷ 78 ∷ 84 ∷ 69 ∷ 71 ∷ 69 ∷ 82 ∷ 59 ∷ 32 ∷ 119 ∷ 58 ∷ 32 ∷ 73 ∷ 78 ∷ 84 ∷ 69 ∷ 71 ∷ 69 ∷ 82 ∷ 59 ∷ 32 ∷ 102 ∷ 42 ∷ 58 ∷ 32 ∷ 80 ∷ 82 ∷ 79 ∷ 67 ∷ 69 ∷ 68 ∷ 85 ∷ 82 ∷ 69 ∷ 59 ∷ 32 ∷ 80 ∷ 82 ∷ 79 ∷ 67 ∷ 69 ∷ 68 ∷ 85 ∷ 82 ∷ 69 ∷ 32 ∷ 78 ∷ 42 ∷ 59 ∷ 32 ∷ 69 ∷ 78 ∷ 68 ∷ 32 ∷ 78 ∷ 59 ∷ 32 ∷ 80 ∷ 82 ∷ 79 ∷ 67 ∷ 69 ∷ 68 ∷ 85 ∷ 82 ∷ 69 ∷ 32 ∷ 76 ∷ 59 ∷ 32 ∷ 69 ∷ 78 ∷ 68 ∷ 32 ∷ 76 ∷ 59 ∷ 32 ∷ 69 ∷ 78 ∷ 68 ∷ 32 ∷ 65 ∷ 46 ∷ 10 ∷ []); symbols = (symbol (Ident) 0 6 ∷ symbol (Ident) 7 8 ∷ symbol (Ident) 8 9 ∷ symbol (Ident) 10 15 ∷ symbol (Ident) 16 17 ∷ symbol (Ident) 17 18 ∷ symbol (Ident) 19 20 ∷ symbol (Int (pos 3)) 21 22 ∷ symbol (Ident) 22 23 ∷ symbol (Ident) 24 25 ∷ symbol (Ident) 26 27 ∷ symbol (Int (pos 4)) 28 29 ∷ symbol (Ident) 29 30 ∷ symbol (Ident) 31 35 ∷ symbol (Ident) 36 37 ∷ symbol (Ident) 37 38 ∷ symbol (Ident) 39 40 ∷ symbol (Ident) 41 47 ∷ symbol (Ident) 48 49 ∷ symbol (Ident) 49 50 ∷ symbol (Ident) 50 51 ∷ symbol (Ident) 52 59 ∷ symbol (Ident) 59 60 ∷ symbol (Ident) 61 62 ∷ symbol (Ident) 62 63 ∷ symbol (Ident) 64 71 ∷ symbol (Ident) 72 75 ∷ symbol (Ident) 75 76 ∷ symbol (Ident) 77 78 ∷ symbol (Ident) 78 79 ∷ symbol (Ident) 80 81 ∷ symbol (Ident) 82 89 ∷ symbol (Ident) 90 92 ∷ symbol (Ident) 93 94 ∷ symbol (Ident) 94 95 ∷ symbol (Ident) 96 97 ∷ symbol (Ident) 98 99 ∷ symbol (Ident) 100 106 ∷ symbol (Ident) 107 110 ∷ symbol (Ident) 110 111 ∷ symbol (Ident) 112 115 ∷ symbol (Ident) 116 117 ∷ symbol (Ident) 117 118 ∷ symbol (Ident) 118 119 ∷ symbol (Ident) 120 127 ∷ symbol (Ident) 127 128 ∷ symbol (Ident) 129 130 ∷ symbol (Ident) 130 131 ∷ symbol (Ident) 131 132 ∷ symbol (Ident) 133 134 ∷ symbol (Ident) 134 135 ∷ symbol (Ident) 136 137 ∷ symbol (Ident) 137 138 ∷ symbol (Ident) 138 139 ∷ symbol (Ident) 140 141 ∷ symbol (Ident) 141 142 ∷ symbol (Ident) 143 144 ∷ symbol (Ident) 144 145 ∷ symbol (Ident) 145 146 ∷ symbol (Ident) 147 152 ∷ symbol (Int (pos 2)) 153 154 ∷ symbol (Ident) 155 157 ∷ symbol (Ident) 158 165 ∷ symbol (Ident) 165 166 ∷ symbol (Ident) 167 168 ∷ symbol (Ident) 168 169 ∷ symbol (Ident) 170 177 ∷ symbol (Ident) 177 178 ∷ symbol (Ident) 179 180 ∷ symbol (Ident) 180 181 ∷ symbol (Ident) 181 182 ∷ symbol (Ident) 183 192 ∷ symbol (Ident) 192 193 ∷ symbol (Ident) 194 203 ∷ symbol (Ident) 204 205 ∷ symbol (Ident) 205 206 ∷ symbol (Ident) 206 207 ∷ symbol (Ident) 208 211 ∷ symbol (Ident) 212 213 ∷ symbol (Ident) 213 214 ∷ symbol (Ident) 215 224 ∷ symbol (Ident) 225 226 ∷ symbol (Ident) 226 227 ∷ symbol (Ident) 228 231 ∷ symbol (Ident) 232 233 ∷ symbol (Ident) 233 234 ∷ symbol (Ident) 235 238 ∷ symbol (Ident) 239 240 ∷ symbol (Ident) 240 241 ∷ []) }; tree = record { module_word = 0; name = 1; semicolon = 0; imports = None; decls = (S.decls (Some (record { const_word = 0; each = (record { name = (record { name = 4; star = Some 0 }); equal = 0; value = (S.only (S.simple None (S.term (S.Int 7) S.no_factor) S.no_term)); semicolon = 0 } ∷ record { name = (record { name = 9; star = None }); equal = 0; value = (S.only (S.simple None (S.term (S.Int 11) S.no_factor) S.no_term)); semicolon = 0 } ∷ []) })) (Some (record { type_word = 0; each = (record { name = (record { name = 14; star = Some 0 }); equal = 0; is = (S.Record 17 None (S.fields (record { first = (record { name = 18; star = Some 0 }); more = [] }) 0 (S.Named (record { name = 21; member = None }))) (S.next_fields 0 (S.fields (record { first = (record { name = 23; star = None }); more = [] }) 0 (S.Named (record { name = 25; member = None }))) S.no_more_fields) 0); semicolon = 0 } ∷ record { name = (record { name = 28; star = Some 0 }); equal = 0; is = (S.Pointer 31 0 (S.Named (record { name = 33; member = None }))); semicolon = 0 } ∷ record { name = (record { name = 35; star = None }); equal = 0; is = (S.Record 37 None S.no_fields S.no_more_fields 0); semicolon = 0 } ∷ []) })) (Some (record { var_word = 0; each = (record { names = (record { first = (record { name = 41; star = Some 0 }); more = [] }); colon = 0; of = (S.Named (record { name = 44; member = None })); semicolon = 0 } ∷ record { names = (record { first = (record { name = 46; star = Some 0 }); more = [] }); colon = 0; of = (S.Named (record { name = 49; member = None })); semicolon = 0 } ∷ record { names = (record { first = (record { name = 51; star = Some 0 }); more = [] }); colon = 0; of = (S.Named (record { name = 54; member = None })); semicolon = 0 } ∷ record { names = (record { first = (record { name = 56; star = Some 0 }); more = [] }); colon = 0; of = (S.Array 59 (S.only (S.simple None (S.term (S.Int 60) S.no_factor) S.no_term)) S.no_expression 0 (S.Named (record { name = 62; member = None }))); semicolon = 0 } ∷ record { names = (record { first = (record { name = 64; star = None }); more = [] }); colon = 0; of = (S.Named (record { name = 66; member = None })); semicolon = 0 } ∷ record { names = (record { first = (record { name = 68; star = Some 0 }); more = [] }); colon = 0; of = (S.Procedure 71 None); semicolon = 0 } ∷ []) })) (S.procedure 0 (record { name = 74; star = Some 0 }) None 0 (S.decls None None None S.no_procedure) None None 77 78 0 (S.procedure 0 (record { name = 81; star = None }) None 0 (S.decls None None None S.no_procedure) None None 83 84 0 S.no_procedure))); body = None; end_word = 0; end_name = 87; period = 0 } }

-- MODULE M; IMPORT B := A; CONST c = B.d; END M.
abbrev not_visible_6_1 : Parsed
not_visible_6_1 = record { source = record { bytes = (77 ∷ 79 ∷ 68 ∷ 85 ∷ 76 ∷ 69 ∷ 32 ∷ 77 ∷ 59 ∷ 32 ∷ 73 ∷ 77 ∷ 80 ∷ 79 ∷ 82 ∷ 84 ∷ 32 ∷ 66 ∷ 32 ∷ 58 ∷ 61 ∷ 32 ∷ 65 ∷ 59 ∷ 32 ∷ 67 ∷ 79 ∷ 78 ∷ 83 ∷ 84 ∷ 32 ∷ 99 ∷ 32 ∷ 61 ∷ 32 ∷ 66 ∷ 46 ∷ 100 ∷ 59 ∷ 32 ∷ 69 ∷ 78 ∷ 68 ∷ 32 ∷ 77 ∷ 46 ∷ []); symbols = (symbol (Ident) 0 6 ∷ symbol (Ident) 7 8 ∷ symbol (Ident) 8 9 ∷ symbol (Ident) 10 16 ∷ symbol (Ident) 17 18 ∷ symbol (Ident) 19 21 ∷ symbol (Ident) 22 23 ∷ symbol (Ident) 23 24 ∷ symbol (Ident) 25 30 ∷ symbol (Ident) 31 32 ∷ symbol (Ident) 33 34 ∷ symbol (Ident) 35 36 ∷ symbol (Ident) 36 37 ∷ symbol (Ident) 37 38 ∷ symbol (Ident) 38 39 ∷ symbol (Ident) 40 43 ∷ symbol (Ident) 44 45 ∷ symbol (Ident) 45 46 ∷ []) }; tree = record { module_word = 0; name = 1; semicolon = 0; imports = Some (record { import_word = 0; first = (record { name = 4; of = Some (record { becomes = 0; name = 6 }) }); more = []; semicolon = 0 }); decls = (S.decls (Some (record { const_word = 0; each = (record { name = (record { name = 9; star = None }); equal = 0; value = (S.only (S.simple None (S.term (S.Designated 11 (S.selected (S.Field 0 13) S.no_selector)) S.no_factor) S.no_term)); semicolon = 0 } ∷ []) })) None None S.no_procedure); body = None; end_word = 0; end_name = 16; period = 0 } }

pub not_visible_6 : checked (not_visible_6_0 ∷ not_visible_6_1 ∷ []) ≡ Fault 1 34 37
not_visible_6 = refl

-- MODULE A; CONST c* = 3; d = 4; TYPE R* = RECORD x*: INTEGER; h: INTEGER END; P* = POINTER TO R; H = RECORD END; VAR v*: INTEGER; r*: R; p*: P; a*: ARRAY 2 OF INTEGER; w: INTEGER; f*: PROCEDURE; PROCEDURE N*; END N; PROCEDURE L; END L; END A.
abbrev not_visible_7_0 : Parsed
not_visible_7_0 = record { source = record { bytes = (77 ∷ 79 ∷ 68 ∷ 85 ∷ 76 ∷ 69 ∷ 32 ∷ 65 ∷ 59 ∷ 32 ∷ 67 ∷ 79 ∷ 78 ∷ 83 ∷ 84 ∷ 32 ∷ 99 ∷ 42 ∷ 32 ∷ 61 ∷ 32 ∷ 51 ∷ 59 ∷ 32 ∷ 100 ∷ 32 ∷ 61 ∷ 32 ∷ 52 ∷ 59 ∷ 32 ∷ 84 ∷ 89 ∷ 80 ∷ 69 ∷ 32 ∷ 82 ∷ 42 ∷ 32 ∷ 61 ∷ 32 ∷ 82 ∷ 69 ∷ 67 ∷ 79 ∷ 82 ∷ 68 ∷ 32 ∷ 120 ∷ 42 ∷ 58 ∷ 32 ∷ 73 ∷ 78 ∷ 84 ∷ 69 ∷ 71 ∷ 69 ∷ 82 ∷ 59 ∷ 32 ∷ 104 ∷ 58 ∷ 32 ∷ 73 ∷ 78 ∷ 84 ∷ 69 ∷ 71 ∷ 69 ∷ 82 ∷ 32 ∷ 69 ∷ 78 ∷ 68 ∷ 59 ∷ 32 ∷ 80 ∷ 42 ∷ 32 ∷ 61 ∷ 32 ∷ 80 ∷ 79 ∷ 73 ∷ 78 ∷ 84 ∷ 69 ∷ 82 ∷ 32 ∷ 84 ∷ 79 ∷ 32 ∷ 82 ∷ 59 ∷ 32 ∷ 72 ∷ 32 ∷ 61 ∷ 32 ∷ 82 ∷ 69 ∷ 67 ∷ 79 ∷ 82 ∷ 68 ∷ 32 ∷ 69 ∷ 78 ∷ 68 ∷ 59 ∷ 32 ∷ 86 ∷ 65 ∷ 82 ∷ 32 ∷ 118 ∷ 42 ∷ 58 ∷ 32 ∷ 73 ∷ 78 ∷ 84 ∷ 69 ∷ 71 ∷ 69 ∷ 82 ∷ 59 ∷ 32 ∷ 114 ∷ 42 ∷ 58 ∷ 32 ∷ 82 ∷ 59 ∷ 32 ∷ 112 ∷ 42 ∷ 58 ∷ 32 ∷ 80 ∷ 59 ∷ 32 ∷ 97 ∷ 42 ∷ 58 ∷ 32 ∷ 65 ∷ 82 ∷ 82 ∷ 65 ∷ 89 ∷ 32 ∷ 50 ∷ 32 ∷ 79 ∷ 70 ∷ 32 ∷ 73 ∷ 78 ∷ 84 ∷ 69 ∷ 71 ∷ 69 ∷ 82 ∷ 59 ∷ 32 ∷ 119 ∷ 58 ∷ 32 ∷ 73 ∷ 78 ∷ 84 ∷ 69 ∷ 71 ∷ 69 ∷ 82 ∷ 59 ∷ 32 ∷ 102 ∷ 42 ∷ 58 ∷ 32 ∷ 80 ∷ 82 ∷ 79 ∷ 67 ∷ 69 ∷ 68 ∷ 85 ∷ 82 ∷ 69 ∷ 59 ∷ 32 ∷ 80 ∷ 82 ∷ 79 ∷ 67 ∷ 69 ∷ 68 ∷ 85 ∷ 82 ∷ 69 ∷ 32 ∷ 78 ∷ 42 ∷ 59 ∷ 32 ∷ 69 ∷ 78 ∷ 68 ∷ 32 ∷ 78 ∷ 59 ∷ 32 ∷ 80 ∷ 82 ∷ 79 ∷ 67 ∷ 69 ∷ 68 ∷ 85 ∷ 82 ∷ 69 ∷ 32 ∷ 76 ∷ 59 ∷ 32 ∷ 69 ∷ 78 ∷ 68 ∷ 32 ∷ 76 ∷ 59 ∷ 32 ∷ 69 ∷ 78 ∷ 68 ∷ 32 ∷ 65 ∷ 46 ∷ 10 ∷ []); symbols = (symbol (Ident) 0 6 ∷ symbol (Ident) 7 8 ∷ symbol (Ident) 8 9 ∷ symbol (Ident) 10 15 ∷ symbol (Ident) 16 17 ∷ symbol (Ident) 17 18 ∷ symbol (Ident) 19 20 ∷ symbol (Int (pos 3)) 21 22 ∷ symbol (Ident) 22 23 ∷ symbol (Ident) 24 25 ∷ symbol (Ident) 26 27 ∷ symbol (Int (pos 4)) 28 29 ∷ symbol (Ident) 29 30 ∷ symbol (Ident) 31 35 ∷ symbol (Ident) 36 37 ∷ symbol (Ident) 37 38 ∷ symbol (Ident) 39 40 ∷ symbol (Ident) 41 47 ∷ symbol (Ident) 48 49 ∷ symbol (Ident) 49 50 ∷ symbol (Ident) 50 51 ∷ symbol (Ident) 52 59 ∷ symbol (Ident) 59 60 ∷ symbol (Ident) 61 62 ∷ symbol (Ident) 62 63 ∷ symbol (Ident) 64 71 ∷ symbol (Ident) 72 75 ∷ symbol (Ident) 75 76 ∷ symbol (Ident) 77 78 ∷ symbol (Ident) 78 79 ∷ symbol (Ident) 80 81 ∷ symbol (Ident) 82 89 ∷ symbol (Ident) 90 92 ∷ symbol (Ident) 93 94 ∷ symbol (Ident) 94 95 ∷ symbol (Ident) 96 97 ∷ symbol (Ident) 98 99 ∷ symbol (Ident) 100 106 ∷ symbol (Ident) 107 110 ∷ symbol (Ident) 110 111 ∷ symbol (Ident) 112 115 ∷ symbol (Ident) 116 117 ∷ symbol (Ident) 117 118 ∷ symbol (Ident) 118 119 ∷ symbol (Ident) 120 127 ∷ symbol (Ident) 127 128 ∷ symbol (Ident) 129 130 ∷ symbol (Ident) 130 131 ∷ symbol (Ident) 131 132 ∷ symbol (Ident) 133 134 ∷ symbol (Ident) 134 135 ∷ symbol (Ident) 136 137 ∷ symbol (Ident) 137 138 ∷ symbol (Ident) 138 139 ∷ symbol (Ident) 140 141 ∷ symbol (Ident) 141 142 ∷ symbol (Ident) 143 144 ∷ symbol (Ident) 144 145 ∷ symbol (Ident) 145 146 ∷ symbol (Ident) 147 152 ∷ symbol (Int (pos 2)) 153 154 ∷ symbol (Ident) 155 157 ∷ symbol (Ident) 158 165 ∷ symbol (Ident) 165 166 ∷ symbol (Ident) 167 168 ∷ symbol (Ident) 168 169 ∷ symbol (Ident) 170 177 ∷ symbol (Ident) 177 178 ∷ symbol (Ident) 179 180 ∷ symbol (Ident) 180 181 ∷ symbol (Ident) 181 182 ∷ symbol (Ident) 183 192 ∷ symbol (Ident) 192 193 ∷ symbol (Ident) 194 203 ∷ symbol (Ident) 204 205 ∷ symbol (Ident) 205 206 ∷ symbol (Ident) 206 207 ∷ symbol (Ident) 208 211 ∷ symbol (Ident) 212 213 ∷ symbol (Ident) 213 214 ∷ symbol (Ident) 215 224 ∷ symbol (Ident) 225 226 ∷ symbol (Ident) 226 227 ∷ symbol (Ident) 228 231 ∷ symbol (Ident) 232 233 ∷ symbol (Ident) 233 234 ∷ symbol (Ident) 235 238 ∷ symbol (Ident) 239 240 ∷ symbol (Ident) 240 241 ∷ []) }; tree = record { module_word = 0; name = 1; semicolon = 0; imports = None; decls = (S.decls (Some (record { const_word = 0; each = (record { name = (record { name = 4; star = Some 0 }); equal = 0; value = (S.only (S.simple None (S.term (S.Int 7) S.no_factor) S.no_term)); semicolon = 0 } ∷ record { name = (record { name = 9; star = None }); equal = 0; value = (S.only (S.simple None (S.term (S.Int 11) S.no_factor) S.no_term)); semicolon = 0 } ∷ []) })) (Some (record { type_word = 0; each = (record { name = (record { name = 14; star = Some 0 }); equal = 0; is = (S.Record 17 None (S.fields (record { first = (record { name = 18; star = Some 0 }); more = [] }) 0 (S.Named (record { name = 21; member = None }))) (S.next_fields 0 (S.fields (record { first = (record { name = 23; star = None }); more = [] }) 0 (S.Named (record { name = 25; member = None }))) S.no_more_fields) 0); semicolon = 0 } ∷ record { name = (record { name = 28; star = Some 0 }); equal = 0; is = (S.Pointer 31 0 (S.Named (record { name = 33; member = None }))); semicolon = 0 } ∷ record { name = (record { name = 35; star = None }); equal = 0; is = (S.Record 37 None S.no_fields S.no_more_fields 0); semicolon = 0 } ∷ []) })) (Some (record { var_word = 0; each = (record { names = (record { first = (record { name = 41; star = Some 0 }); more = [] }); colon = 0; of = (S.Named (record { name = 44; member = None })); semicolon = 0 } ∷ record { names = (record { first = (record { name = 46; star = Some 0 }); more = [] }); colon = 0; of = (S.Named (record { name = 49; member = None })); semicolon = 0 } ∷ record { names = (record { first = (record { name = 51; star = Some 0 }); more = [] }); colon = 0; of = (S.Named (record { name = 54; member = None })); semicolon = 0 } ∷ record { names = (record { first = (record { name = 56; star = Some 0 }); more = [] }); colon = 0; of = (S.Array 59 (S.only (S.simple None (S.term (S.Int 60) S.no_factor) S.no_term)) S.no_expression 0 (S.Named (record { name = 62; member = None }))); semicolon = 0 } ∷ record { names = (record { first = (record { name = 64; star = None }); more = [] }); colon = 0; of = (S.Named (record { name = 66; member = None })); semicolon = 0 } ∷ record { names = (record { first = (record { name = 68; star = Some 0 }); more = [] }); colon = 0; of = (S.Procedure 71 None); semicolon = 0 } ∷ []) })) (S.procedure 0 (record { name = 74; star = Some 0 }) None 0 (S.decls None None None S.no_procedure) None None 77 78 0 (S.procedure 0 (record { name = 81; star = None }) None 0 (S.decls None None None S.no_procedure) None None 83 84 0 S.no_procedure))); body = None; end_word = 0; end_name = 87; period = 0 } }

-- MODULE M; IMPORT A; TYPE E = RECORD (A.R) y: INTEGER END; VAR e: E; BEGIN e.y := e.x; e.h := 1 END M.
abbrev not_visible_7_1 : Parsed
not_visible_7_1 = record { source = record { bytes = (77 ∷ 79 ∷ 68 ∷ 85 ∷ 76 ∷ 69 ∷ 32 ∷ 77 ∷ 59 ∷ 32 ∷ 73 ∷ 77 ∷ 80 ∷ 79 ∷ 82 ∷ 84 ∷ 32 ∷ 65 ∷ 59 ∷ 32 ∷ 84 ∷ 89 ∷ 80 ∷ 69 ∷ 32 ∷ 69 ∷ 32 ∷ 61 ∷ 32 ∷ 82 ∷ 69 ∷ 67 ∷ 79 ∷ 82 ∷ 68 ∷ 32 ∷ 40 ∷ 65 ∷ 46 ∷ 82 ∷ 41 ∷ 32 ∷ 121 ∷ 58 ∷ 32 ∷ 73 ∷ 78 ∷ 84 ∷ 69 ∷ 71 ∷ 69 ∷ 82 ∷ 32 ∷ 69 ∷ 78 ∷ 68 ∷ 59 ∷ 32 ∷ 86 ∷ 65 ∷ 82 ∷ 32 ∷ 101 ∷ 58 ∷ 32 ∷ 69 ∷ 59 ∷ 32 ∷ 66 ∷ 69 ∷ 71 ∷ 73 ∷ 78 ∷ 32 ∷ 101 ∷ 46 ∷ 121 ∷ 32 ∷ 58 ∷ 61 ∷ 32 ∷ 101 ∷ 46 ∷ 120 ∷ 59 ∷ 32 ∷ 101 ∷ 46 ∷ 104 ∷ 32 ∷ 58 ∷ 61 ∷ 32 ∷ 49 ∷ 32 ∷ 69 ∷ 78 ∷ 68 ∷ 32 ∷ 77 ∷ 46 ∷ []); symbols = (symbol (Ident) 0 6 ∷ symbol (Ident) 7 8 ∷ symbol (Ident) 8 9 ∷ symbol (Ident) 10 16 ∷ symbol (Ident) 17 18 ∷ symbol (Ident) 18 19 ∷ symbol (Ident) 20 24 ∷ symbol (Ident) 25 26 ∷ symbol (Ident) 27 28 ∷ symbol (Ident) 29 35 ∷ symbol (Ident) 36 37 ∷ symbol (Ident) 37 38 ∷ symbol (Ident) 38 39 ∷ symbol (Ident) 39 40 ∷ symbol (Ident) 40 41 ∷ symbol (Ident) 42 43 ∷ symbol (Ident) 43 44 ∷ symbol (Ident) 45 52 ∷ symbol (Ident) 53 56 ∷ symbol (Ident) 56 57 ∷ symbol (Ident) 58 61 ∷ symbol (Ident) 62 63 ∷ symbol (Ident) 63 64 ∷ symbol (Ident) 65 66 ∷ symbol (Ident) 66 67 ∷ symbol (Ident) 68 73 ∷ symbol (Ident) 74 75 ∷ symbol (Ident) 75 76 ∷ symbol (Ident) 76 77 ∷ symbol (Ident) 78 80 ∷ symbol (Ident) 81 82 ∷ symbol (Ident) 82 83 ∷ symbol (Ident) 83 84 ∷ symbol (Ident) 84 85 ∷ symbol (Ident) 86 87 ∷ symbol (Ident) 87 88 ∷ symbol (Ident) 88 89 ∷ symbol (Ident) 90 92 ∷ symbol (Int (pos 1)) 93 94 ∷ symbol (Ident) 95 98 ∷ symbol (Ident) 99 100 ∷ symbol (Ident) 100 101 ∷ []) }; tree = record { module_word = 0; name = 1; semicolon = 0; imports = Some (record { import_word = 0; first = (record { name = 4; of = None }); more = []; semicolon = 0 }); decls = (S.decls None (Some (record { type_word = 0; each = (record { name = (record { name = 7; star = None }); equal = 0; is = (S.Record 9 (Some (record { left_paren = 0; name = (record { name = 11; member = Some (record { period = 0; name = 13 }) }); right_paren = 0 })) (S.fields (record { first = (record { name = 15; star = None }); more = [] }) 0 (S.Named (record { name = 17; member = None }))) S.no_more_fields 0); semicolon = 0 } ∷ []) })) (Some (record { var_word = 0; each = (record { names = (record { first = (record { name = 21; star = None }); more = [] }); colon = 0; of = (S.Named (record { name = 23; member = None })); semicolon = 0 } ∷ []) })) S.no_procedure); body = (Some (record { begin_word = 0; stats = (S.stats (S.AssignOrCall (record { name = 26; selectors = (S.selected (S.Field 0 28) S.no_selector) }) (Some (record { becomes = 0; value = (S.only (S.simple None (S.term (S.Designated 30 (S.selected (S.Field 0 32) S.no_selector)) S.no_factor) S.no_term)) }))) (S.next_stat 0 (S.AssignOrCall (record { name = 34; selectors = (S.selected (S.Field 0 36) S.no_selector) }) (Some (record { becomes = 0; value = (S.only (S.simple None (S.term (S.Int 38) S.no_factor) S.no_term)) }))) S.no_stat)) })); end_word = 0; end_name = 40; period = 0 } }

pub not_visible_7 : checked (not_visible_7_0 ∷ not_visible_7_1 ∷ []) ≡ Fault 1 34 88
not_visible_7 = refl

-- MODULE A; CONST c* = 3; d = 4; TYPE R* = RECORD x*: INTEGER; h: INTEGER END; P* = POINTER TO R; H = RECORD END; VAR v*: INTEGER; r*: R; p*: P; a*: ARRAY 2 OF INTEGER; w: INTEGER; f*: PROCEDURE; PROCEDURE N*; END N; PROCEDURE L; END L; END A.
abbrev not_visible_8_0 : Parsed
not_visible_8_0 = record { source = record { bytes = (77 ∷ 79 ∷ 68 ∷ 85 ∷ 76 ∷ 69 ∷ 32 ∷ 65 ∷ 59 ∷ 32 ∷ 67 ∷ 79 ∷ 78 ∷ 83 ∷ 84 ∷ 32 ∷ 99 ∷ 42 ∷ 32 ∷ 61 ∷ 32 ∷ 51 ∷ 59 ∷ 32 ∷ 100 ∷ 32 ∷ 61 ∷ 32 ∷ 52 ∷ 59 ∷ 32 ∷ 84 ∷ 89 ∷ 80 ∷ 69 ∷ 32 ∷ 82 ∷ 42 ∷ 32 ∷ 61 ∷ 32 ∷ 82 ∷ 69 ∷ 67 ∷ 79 ∷ 82 ∷ 68 ∷ 32 ∷ 120 ∷ 42 ∷ 58 ∷ 32 ∷ 73 ∷ 78 ∷ 84 ∷ 69 ∷ 71 ∷ 69 ∷ 82 ∷ 59 ∷ 32 ∷ 104 ∷ 58 ∷ 32 ∷ 73 ∷ 78 ∷ 84 ∷ 69 ∷ 71 ∷ 69 ∷ 82 ∷ 32 ∷ 69 ∷ 78 ∷ 68 ∷ 59 ∷ 32 ∷ 80 ∷ 42 ∷ 32 ∷ 61 ∷ 32 ∷ 80 ∷ 79 ∷ 73 ∷ 78 ∷ 84 ∷ 69 ∷ 82 ∷ 32 ∷ 84 ∷ 79 ∷ 32 ∷ 82 ∷ 59 ∷ 32 ∷ 72 ∷ 32 ∷ 61 ∷ 32 ∷ 82 ∷ 69 ∷ 67 ∷ 79 ∷ 82 ∷ 68 ∷ 32 ∷ 69 ∷ 78 ∷ 68 ∷ 59 ∷ 32 ∷ 86 ∷ 65 ∷ 82 ∷ 32 ∷ 118 ∷ 42 ∷ 58 ∷ 32 ∷ 73 ∷ 78 ∷ 84 ∷ 69 ∷ 71 ∷ 69 ∷ 82 ∷ 59 ∷ 32 ∷ 114 ∷ 42 ∷ 58 ∷ 32 ∷ 82 ∷ 59 ∷ 32 ∷ 112 ∷ 42 ∷ 58 ∷ 32 ∷ 80 ∷ 59 ∷ 32 ∷ 97 ∷ 42 ∷ 58 ∷ 32 ∷ 65 ∷ 82 ∷ 82 ∷ 65 ∷ 89 ∷ 32 ∷ 50 ∷ 32 ∷ 79 ∷ 70 ∷ 32 ∷ 73 ∷ 78 ∷ 84 ∷ 69 ∷ 71 ∷ 69 ∷ 82 ∷ 59 ∷ 32 ∷ 119 ∷ 58 ∷ 32 ∷ 73 ∷ 78 ∷ 84 ∷ 69 ∷ 71 ∷ 69 ∷ 82 ∷ 59 ∷ 32 ∷ 102 ∷ 42 ∷ 58 ∷ 32 ∷ 80 ∷ 82 ∷ 79 ∷ 67 ∷ 69 ∷ 68 ∷ 85 ∷ 82 ∷ 69 ∷ 59 ∷ 32 ∷ 80 ∷ 82 ∷ 79 ∷ 67 ∷ 69 ∷ 68 ∷ 85 ∷ 82 ∷ 69 ∷ 32 ∷ 78 ∷ 42 ∷ 59 ∷ 32 ∷ 69 ∷ 78 ∷ 68 ∷ 32 ∷ 78 ∷ 59 ∷ 32 ∷ 80 ∷ 82 ∷ 79 ∷ 67 ∷ 69 ∷ 68 ∷ 85 ∷ 82 ∷ 69 ∷ 32 ∷ 76 ∷ 59 ∷ 32 ∷ 69 ∷ 78 ∷ 68 ∷ 32 ∷ 76 ∷ 59 ∷ 32 ∷ 69 ∷ 78 ∷ 68 ∷ 32 ∷ 65 ∷ 46 ∷ 10 ∷ []); symbols = (symbol (Ident) 0 6 ∷ symbol (Ident) 7 8 ∷ symbol (Ident) 8 9 ∷ symbol (Ident) 10 15 ∷ symbol (Ident) 16 17 ∷ symbol (Ident) 17 18 ∷ symbol (Ident) 19 20 ∷ symbol (Int (pos 3)) 21 22 ∷ symbol (Ident) 22 23 ∷ symbol (Ident) 24 25 ∷ symbol (Ident) 26 27 ∷ symbol (Int (pos 4)) 28 29 ∷ symbol (Ident) 29 30 ∷ symbol (Ident) 31 35 ∷ symbol (Ident) 36 37 ∷ symbol (Ident) 37 38 ∷ symbol (Ident) 39 40 ∷ symbol (Ident) 41 47 ∷ symbol (Ident) 48 49 ∷ symbol (Ident) 49 50 ∷ symbol (Ident) 50 51 ∷ symbol (Ident) 52 59 ∷ symbol (Ident) 59 60 ∷ symbol (Ident) 61 62 ∷ symbol (Ident) 62 63 ∷ symbol (Ident) 64 71 ∷ symbol (Ident) 72 75 ∷ symbol (Ident) 75 76 ∷ symbol (Ident) 77 78 ∷ symbol (Ident) 78 79 ∷ symbol (Ident) 80 81 ∷ symbol (Ident) 82 89 ∷ symbol (Ident) 90 92 ∷ symbol (Ident) 93 94 ∷ symbol (Ident) 94 95 ∷ symbol (Ident) 96 97 ∷ symbol (Ident) 98 99 ∷ symbol (Ident) 100 106 ∷ symbol (Ident) 107 110 ∷ symbol (Ident) 110 111 ∷ symbol (Ident) 112 115 ∷ symbol (Ident) 116 117 ∷ symbol (Ident) 117 118 ∷ symbol (Ident) 118 119 ∷ symbol (Ident) 120 127 ∷ symbol (Ident) 127 128 ∷ symbol (Ident) 129 130 ∷ symbol (Ident) 130 131 ∷ symbol (Ident) 131 132 ∷ symbol (Ident) 133 134 ∷ symbol (Ident) 134 135 ∷ symbol (Ident) 136 137 ∷ symbol (Ident) 137 138 ∷ symbol (Ident) 138 139 ∷ symbol (Ident) 140 141 ∷ symbol (Ident) 141 142 ∷ symbol (Ident) 143 144 ∷ symbol (Ident) 144 145 ∷ symbol (Ident) 145 146 ∷ symbol (Ident) 147 152 ∷ symbol (Int (pos 2)) 153 154 ∷ symbol (Ident) 155 157 ∷ symbol (Ident) 158 165 ∷ symbol (Ident) 165 166 ∷ symbol (Ident) 167 168 ∷ symbol (Ident) 168 169 ∷ symbol (Ident) 170 177 ∷ symbol (Ident) 177 178 ∷ symbol (Ident) 179 180 ∷ symbol (Ident) 180 181 ∷ symbol (Ident) 181 182 ∷ symbol (Ident) 183 192 ∷ symbol (Ident) 192 193 ∷ symbol (Ident) 194 203 ∷ symbol (Ident) 204 205 ∷ symbol (Ident) 205 206 ∷ symbol (Ident) 206 207 ∷ symbol (Ident) 208 211 ∷ symbol (Ident) 212 213 ∷ symbol (Ident) 213 214 ∷ symbol (Ident) 215 224 ∷ symbol (Ident) 225 226 ∷ symbol (Ident) 226 227 ∷ symbol (Ident) 228 231 ∷ symbol (Ident) 232 233 ∷ symbol (Ident) 233 234 ∷ symbol (Ident) 235 238 ∷ symbol (Ident) 239 240 ∷ symbol (Ident) 240 241 ∷ []) }; tree = record { module_word = 0; name = 1; semicolon = 0; imports = None; decls = (S.decls (Some (record { const_word = 0; each = (record { name = (record { name = 4; star = Some 0 }); equal = 0; value = (S.only (S.simple None (S.term (S.Int 7) S.no_factor) S.no_term)); semicolon = 0 } ∷ record { name = (record { name = 9; star = None }); equal = 0; value = (S.only (S.simple None (S.term (S.Int 11) S.no_factor) S.no_term)); semicolon = 0 } ∷ []) })) (Some (record { type_word = 0; each = (record { name = (record { name = 14; star = Some 0 }); equal = 0; is = (S.Record 17 None (S.fields (record { first = (record { name = 18; star = Some 0 }); more = [] }) 0 (S.Named (record { name = 21; member = None }))) (S.next_fields 0 (S.fields (record { first = (record { name = 23; star = None }); more = [] }) 0 (S.Named (record { name = 25; member = None }))) S.no_more_fields) 0); semicolon = 0 } ∷ record { name = (record { name = 28; star = Some 0 }); equal = 0; is = (S.Pointer 31 0 (S.Named (record { name = 33; member = None }))); semicolon = 0 } ∷ record { name = (record { name = 35; star = None }); equal = 0; is = (S.Record 37 None S.no_fields S.no_more_fields 0); semicolon = 0 } ∷ []) })) (Some (record { var_word = 0; each = (record { names = (record { first = (record { name = 41; star = Some 0 }); more = [] }); colon = 0; of = (S.Named (record { name = 44; member = None })); semicolon = 0 } ∷ record { names = (record { first = (record { name = 46; star = Some 0 }); more = [] }); colon = 0; of = (S.Named (record { name = 49; member = None })); semicolon = 0 } ∷ record { names = (record { first = (record { name = 51; star = Some 0 }); more = [] }); colon = 0; of = (S.Named (record { name = 54; member = None })); semicolon = 0 } ∷ record { names = (record { first = (record { name = 56; star = Some 0 }); more = [] }); colon = 0; of = (S.Array 59 (S.only (S.simple None (S.term (S.Int 60) S.no_factor) S.no_term)) S.no_expression 0 (S.Named (record { name = 62; member = None }))); semicolon = 0 } ∷ record { names = (record { first = (record { name = 64; star = None }); more = [] }); colon = 0; of = (S.Named (record { name = 66; member = None })); semicolon = 0 } ∷ record { names = (record { first = (record { name = 68; star = Some 0 }); more = [] }); colon = 0; of = (S.Procedure 71 None); semicolon = 0 } ∷ []) })) (S.procedure 0 (record { name = 74; star = Some 0 }) None 0 (S.decls None None None S.no_procedure) None None 77 78 0 (S.procedure 0 (record { name = 81; star = None }) None 0 (S.decls None None None S.no_procedure) None None 83 84 0 S.no_procedure))); body = None; end_word = 0; end_name = 87; period = 0 } }

-- MODULE M; IMPORT A; VAR i: INTEGER; BEGIN CASE i OF A.d: END END M.
abbrev not_visible_8_1 : Parsed
not_visible_8_1 = record { source = record { bytes = (77 ∷ 79 ∷ 68 ∷ 85 ∷ 76 ∷ 69 ∷ 32 ∷ 77 ∷ 59 ∷ 32 ∷ 73 ∷ 77 ∷ 80 ∷ 79 ∷ 82 ∷ 84 ∷ 32 ∷ 65 ∷ 59 ∷ 32 ∷ 86 ∷ 65 ∷ 82 ∷ 32 ∷ 105 ∷ 58 ∷ 32 ∷ 73 ∷ 78 ∷ 84 ∷ 69 ∷ 71 ∷ 69 ∷ 82 ∷ 59 ∷ 32 ∷ 66 ∷ 69 ∷ 71 ∷ 73 ∷ 78 ∷ 32 ∷ 67 ∷ 65 ∷ 83 ∷ 69 ∷ 32 ∷ 105 ∷ 32 ∷ 79 ∷ 70 ∷ 32 ∷ 65 ∷ 46 ∷ 100 ∷ 58 ∷ 32 ∷ 69 ∷ 78 ∷ 68 ∷ 32 ∷ 69 ∷ 78 ∷ 68 ∷ 32 ∷ 77 ∷ 46 ∷ []); symbols = (symbol (Ident) 0 6 ∷ symbol (Ident) 7 8 ∷ symbol (Ident) 8 9 ∷ symbol (Ident) 10 16 ∷ symbol (Ident) 17 18 ∷ symbol (Ident) 18 19 ∷ symbol (Ident) 20 23 ∷ symbol (Ident) 24 25 ∷ symbol (Ident) 25 26 ∷ symbol (Ident) 27 34 ∷ symbol (Ident) 34 35 ∷ symbol (Ident) 36 41 ∷ symbol (Ident) 42 46 ∷ symbol (Ident) 47 48 ∷ symbol (Ident) 49 51 ∷ symbol (Ident) 52 53 ∷ symbol (Ident) 53 54 ∷ symbol (Ident) 54 55 ∷ symbol (Ident) 55 56 ∷ symbol (Ident) 57 60 ∷ symbol (Ident) 61 64 ∷ symbol (Ident) 65 66 ∷ symbol (Ident) 66 67 ∷ []) }; tree = record { module_word = 0; name = 1; semicolon = 0; imports = Some (record { import_word = 0; first = (record { name = 4; of = None }); more = []; semicolon = 0 }); decls = (S.decls None None (Some (record { var_word = 0; each = (record { names = (record { first = (record { name = 7; star = None }); more = [] }); colon = 0; of = (S.Named (record { name = 9; member = None })); semicolon = 0 } ∷ []) })) S.no_procedure); body = (Some (record { begin_word = 0; stats = (S.stats (S.Case 0 (S.only (S.simple None (S.term (S.Designated 13 S.no_selector) S.no_factor) S.no_term)) 0 (S.one_case (record { low = TheLabel.Named (record { name = 15; member = Some (record { period = 0; name = 17 }) }); high = None }) [] 0 (S.stats S.Empty S.no_stat)) S.no_next_case 0) S.no_stat) })); end_word = 0; end_name = 21; period = 0 } }

pub not_visible_8 : checked (not_visible_8_0 ∷ not_visible_8_1 ∷ []) ≡ Fault 1 34 54
not_visible_8 = refl

-- MODULE M; PROCEDURE P; VAR x: INTEGER; PROCEDURE Q; BEGIN x := 1 END Q; END P; END M.
abbrev not_visible_9_0 : Parsed
not_visible_9_0 = record { source = record { bytes = (77 ∷ 79 ∷ 68 ∷ 85 ∷ 76 ∷ 69 ∷ 32 ∷ 77 ∷ 59 ∷ 32 ∷ 80 ∷ 82 ∷ 79 ∷ 67 ∷ 69 ∷ 68 ∷ 85 ∷ 82 ∷ 69 ∷ 32 ∷ 80 ∷ 59 ∷ 32 ∷ 86 ∷ 65 ∷ 82 ∷ 32 ∷ 120 ∷ 58 ∷ 32 ∷ 73 ∷ 78 ∷ 84 ∷ 69 ∷ 71 ∷ 69 ∷ 82 ∷ 59 ∷ 32 ∷ 80 ∷ 82 ∷ 79 ∷ 67 ∷ 69 ∷ 68 ∷ 85 ∷ 82 ∷ 69 ∷ 32 ∷ 81 ∷ 59 ∷ 32 ∷ 66 ∷ 69 ∷ 71 ∷ 73 ∷ 78 ∷ 32 ∷ 120 ∷ 32 ∷ 58 ∷ 61 ∷ 32 ∷ 49 ∷ 32 ∷ 69 ∷ 78 ∷ 68 ∷ 32 ∷ 81 ∷ 59 ∷ 32 ∷ 69 ∷ 78 ∷ 68 ∷ 32 ∷ 80 ∷ 59 ∷ 32 ∷ 69 ∷ 78 ∷ 68 ∷ 32 ∷ 77 ∷ 46 ∷ []); symbols = (symbol (Ident) 0 6 ∷ symbol (Ident) 7 8 ∷ symbol (Ident) 8 9 ∷ symbol (Ident) 10 19 ∷ symbol (Ident) 20 21 ∷ symbol (Ident) 21 22 ∷ symbol (Ident) 23 26 ∷ symbol (Ident) 27 28 ∷ symbol (Ident) 28 29 ∷ symbol (Ident) 30 37 ∷ symbol (Ident) 37 38 ∷ symbol (Ident) 39 48 ∷ symbol (Ident) 49 50 ∷ symbol (Ident) 50 51 ∷ symbol (Ident) 52 57 ∷ symbol (Ident) 58 59 ∷ symbol (Ident) 60 62 ∷ symbol (Int (pos 1)) 63 64 ∷ symbol (Ident) 65 68 ∷ symbol (Ident) 69 70 ∷ symbol (Ident) 70 71 ∷ symbol (Ident) 72 75 ∷ symbol (Ident) 76 77 ∷ symbol (Ident) 77 78 ∷ symbol (Ident) 79 82 ∷ symbol (Ident) 83 84 ∷ symbol (Ident) 84 85 ∷ []) }; tree = record { module_word = 0; name = 1; semicolon = 0; imports = None; decls = (S.decls None None None (S.procedure 0 (record { name = 4; star = None }) None 0 (S.decls None None (Some (record { var_word = 0; each = (record { names = (record { first = (record { name = 7; star = None }); more = [] }); colon = 0; of = (S.Named (record { name = 9; member = None })); semicolon = 0 } ∷ []) })) (S.procedure 0 (record { name = 12; star = None }) None 0 (S.decls None None None S.no_procedure) (Some (record { begin_word = 0; stats = (S.stats (S.AssignOrCall (record { name = 15; selectors = S.no_selector }) (Some (record { becomes = 0; value = (S.only (S.simple None (S.term (S.Int 17) S.no_factor) S.no_term)) }))) S.no_stat) })) None 18 19 0 S.no_procedure)) None None 21 22 0 S.no_procedure)); body = None; end_word = 0; end_name = 25; period = 0 } }

pub not_visible_9 : checked (not_visible_9_0 ∷ []) ≡ Fault 0 34 58
not_visible_9 = refl

-- MODULE M; PROCEDURE P(x: INTEGER); PROCEDURE Q; VAR y: INTEGER; BEGIN y := x END Q; END P; END M.
abbrev not_visible_10_0 : Parsed
not_visible_10_0 = record { source = record { bytes = (77 ∷ 79 ∷ 68 ∷ 85 ∷ 76 ∷ 69 ∷ 32 ∷ 77 ∷ 59 ∷ 32 ∷ 80 ∷ 82 ∷ 79 ∷ 67 ∷ 69 ∷ 68 ∷ 85 ∷ 82 ∷ 69 ∷ 32 ∷ 80 ∷ 40 ∷ 120 ∷ 58 ∷ 32 ∷ 73 ∷ 78 ∷ 84 ∷ 69 ∷ 71 ∷ 69 ∷ 82 ∷ 41 ∷ 59 ∷ 32 ∷ 80 ∷ 82 ∷ 79 ∷ 67 ∷ 69 ∷ 68 ∷ 85 ∷ 82 ∷ 69 ∷ 32 ∷ 81 ∷ 59 ∷ 32 ∷ 86 ∷ 65 ∷ 82 ∷ 32 ∷ 121 ∷ 58 ∷ 32 ∷ 73 ∷ 78 ∷ 84 ∷ 69 ∷ 71 ∷ 69 ∷ 82 ∷ 59 ∷ 32 ∷ 66 ∷ 69 ∷ 71 ∷ 73 ∷ 78 ∷ 32 ∷ 121 ∷ 32 ∷ 58 ∷ 61 ∷ 32 ∷ 120 ∷ 32 ∷ 69 ∷ 78 ∷ 68 ∷ 32 ∷ 81 ∷ 59 ∷ 32 ∷ 69 ∷ 78 ∷ 68 ∷ 32 ∷ 80 ∷ 59 ∷ 32 ∷ 69 ∷ 78 ∷ 68 ∷ 32 ∷ 77 ∷ 46 ∷ []); symbols = (symbol (Ident) 0 6 ∷ symbol (Ident) 7 8 ∷ symbol (Ident) 8 9 ∷ symbol (Ident) 10 19 ∷ symbol (Ident) 20 21 ∷ symbol (Ident) 21 22 ∷ symbol (Ident) 22 23 ∷ symbol (Ident) 23 24 ∷ symbol (Ident) 25 32 ∷ symbol (Ident) 32 33 ∷ symbol (Ident) 33 34 ∷ symbol (Ident) 35 44 ∷ symbol (Ident) 45 46 ∷ symbol (Ident) 46 47 ∷ symbol (Ident) 48 51 ∷ symbol (Ident) 52 53 ∷ symbol (Ident) 53 54 ∷ symbol (Ident) 55 62 ∷ symbol (Ident) 62 63 ∷ symbol (Ident) 64 69 ∷ symbol (Ident) 70 71 ∷ symbol (Ident) 72 74 ∷ symbol (Ident) 75 76 ∷ symbol (Ident) 77 80 ∷ symbol (Ident) 81 82 ∷ symbol (Ident) 82 83 ∷ symbol (Ident) 84 87 ∷ symbol (Ident) 88 89 ∷ symbol (Ident) 89 90 ∷ symbol (Ident) 91 94 ∷ symbol (Ident) 95 96 ∷ symbol (Ident) 96 97 ∷ []) }; tree = record { module_word = 0; name = 1; semicolon = 0; imports = None; decls = (S.decls None None None (S.procedure 0 (record { name = 4; star = None }) (Some (record { left_paren = 0; sections = Some (record { first = (record { var_word = None; first = 6; more = []; colon = 0; open_array = None; of = (record { name = 8; member = None }) }); more = [] }); right_paren = 0; result = None })) 0 (S.decls None None None (S.procedure 0 (record { name = 12; star = None }) None 0 (S.decls None None (Some (record { var_word = 0; each = (record { names = (record { first = (record { name = 15; star = None }); more = [] }); colon = 0; of = (S.Named (record { name = 17; member = None })); semicolon = 0 } ∷ []) })) S.no_procedure) (Some (record { begin_word = 0; stats = (S.stats (S.AssignOrCall (record { name = 20; selectors = S.no_selector }) (Some (record { becomes = 0; value = (S.only (S.simple None (S.term (S.Designated 22 S.no_selector) S.no_factor) S.no_term)) }))) S.no_stat) })) None 23 24 0 S.no_procedure)) None None 26 27 0 S.no_procedure)); body = None; end_word = 0; end_name = 30; period = 0 } }

pub not_visible_10 : checked (not_visible_10_0 ∷ []) ≡ Fault 0 34 75
not_visible_10 = refl

-- MODULE M; VAR x: INTEGER; PROCEDURE P; VAR x: INTEGER; PROCEDURE Q; BEGIN x := 1 END Q; END P; END M.
abbrev not_visible_11_0 : Parsed
not_visible_11_0 = record { source = record { bytes = (77 ∷ 79 ∷ 68 ∷ 85 ∷ 76 ∷ 69 ∷ 32 ∷ 77 ∷ 59 ∷ 32 ∷ 86 ∷ 65 ∷ 82 ∷ 32 ∷ 120 ∷ 58 ∷ 32 ∷ 73 ∷ 78 ∷ 84 ∷ 69 ∷ 71 ∷ 69 ∷ 82 ∷ 59 ∷ 32 ∷ 80 ∷ 82 ∷ 79 ∷ 67 ∷ 69 ∷ 68 ∷ 85 ∷ 82 ∷ 69 ∷ 32 ∷ 80 ∷ 59 ∷ 32 ∷ 86 ∷ 65 ∷ 82 ∷ 32 ∷ 120 ∷ 58 ∷ 32 ∷ 73 ∷ 78 ∷ 84 ∷ 69 ∷ 71 ∷ 69 ∷ 82 ∷ 59 ∷ 32 ∷ 80 ∷ 82 ∷ 79 ∷ 67 ∷ 69 ∷ 68 ∷ 85 ∷ 82 ∷ 69 ∷ 32 ∷ 81 ∷ 59 ∷ 32 ∷ 66 ∷ 69 ∷ 71 ∷ 73 ∷ 78 ∷ 32 ∷ 120 ∷ 32 ∷ 58 ∷ 61 ∷ 32 ∷ 49 ∷ 32 ∷ 69 ∷ 78 ∷ 68 ∷ 32 ∷ 81 ∷ 59 ∷ 32 ∷ 69 ∷ 78 ∷ 68 ∷ 32 ∷ 80 ∷ 59 ∷ 32 ∷ 69 ∷ 78 ∷ 68 ∷ 32 ∷ 77 ∷ 46 ∷ []); symbols = (symbol (Ident) 0 6 ∷ symbol (Ident) 7 8 ∷ symbol (Ident) 8 9 ∷ symbol (Ident) 10 13 ∷ symbol (Ident) 14 15 ∷ symbol (Ident) 15 16 ∷ symbol (Ident) 17 24 ∷ symbol (Ident) 24 25 ∷ symbol (Ident) 26 35 ∷ symbol (Ident) 36 37 ∷ symbol (Ident) 37 38 ∷ symbol (Ident) 39 42 ∷ symbol (Ident) 43 44 ∷ symbol (Ident) 44 45 ∷ symbol (Ident) 46 53 ∷ symbol (Ident) 53 54 ∷ symbol (Ident) 55 64 ∷ symbol (Ident) 65 66 ∷ symbol (Ident) 66 67 ∷ symbol (Ident) 68 73 ∷ symbol (Ident) 74 75 ∷ symbol (Ident) 76 78 ∷ symbol (Int (pos 1)) 79 80 ∷ symbol (Ident) 81 84 ∷ symbol (Ident) 85 86 ∷ symbol (Ident) 86 87 ∷ symbol (Ident) 88 91 ∷ symbol (Ident) 92 93 ∷ symbol (Ident) 93 94 ∷ symbol (Ident) 95 98 ∷ symbol (Ident) 99 100 ∷ symbol (Ident) 100 101 ∷ []) }; tree = record { module_word = 0; name = 1; semicolon = 0; imports = None; decls = (S.decls None None (Some (record { var_word = 0; each = (record { names = (record { first = (record { name = 4; star = None }); more = [] }); colon = 0; of = (S.Named (record { name = 6; member = None })); semicolon = 0 } ∷ []) })) (S.procedure 0 (record { name = 9; star = None }) None 0 (S.decls None None (Some (record { var_word = 0; each = (record { names = (record { first = (record { name = 12; star = None }); more = [] }); colon = 0; of = (S.Named (record { name = 14; member = None })); semicolon = 0 } ∷ []) })) (S.procedure 0 (record { name = 17; star = None }) None 0 (S.decls None None None S.no_procedure) (Some (record { begin_word = 0; stats = (S.stats (S.AssignOrCall (record { name = 20; selectors = S.no_selector }) (Some (record { becomes = 0; value = (S.only (S.simple None (S.term (S.Int 22) S.no_factor) S.no_term)) }))) S.no_stat) })) None 23 24 0 S.no_procedure)) None None 26 27 0 S.no_procedure)); body = None; end_word = 0; end_name = 30; period = 0 } }

pub not_visible_11 : checked (not_visible_11_0 ∷ []) ≡ Fault 0 34 74
not_visible_11 = refl

-- MODULE M; PROCEDURE P; VAR x: INTEGER; PROCEDURE Q(y: x); END Q; END P; END M.
abbrev not_visible_12_0 : Parsed
not_visible_12_0 = record { source = record { bytes = (77 ∷ 79 ∷ 68 ∷ 85 ∷ 76 ∷ 69 ∷ 32 ∷ 77 ∷ 59 ∷ 32 ∷ 80 ∷ 82 ∷ 79 ∷ 67 ∷ 69 ∷ 68 ∷ 85 ∷ 82 ∷ 69 ∷ 32 ∷ 80 ∷ 59 ∷ 32 ∷ 86 ∷ 65 ∷ 82 ∷ 32 ∷ 120 ∷ 58 ∷ 32 ∷ 73 ∷ 78 ∷ 84 ∷ 69 ∷ 71 ∷ 69 ∷ 82 ∷ 59 ∷ 32 ∷ 80 ∷ 82 ∷ 79 ∷ 67 ∷ 69 ∷ 68 ∷ 85 ∷ 82 ∷ 69 ∷ 32 ∷ 81 ∷ 40 ∷ 121 ∷ 58 ∷ 32 ∷ 120 ∷ 41 ∷ 59 ∷ 32 ∷ 69 ∷ 78 ∷ 68 ∷ 32 ∷ 81 ∷ 59 ∷ 32 ∷ 69 ∷ 78 ∷ 68 ∷ 32 ∷ 80 ∷ 59 ∷ 32 ∷ 69 ∷ 78 ∷ 68 ∷ 32 ∷ 77 ∷ 46 ∷ []); symbols = (symbol (Ident) 0 6 ∷ symbol (Ident) 7 8 ∷ symbol (Ident) 8 9 ∷ symbol (Ident) 10 19 ∷ symbol (Ident) 20 21 ∷ symbol (Ident) 21 22 ∷ symbol (Ident) 23 26 ∷ symbol (Ident) 27 28 ∷ symbol (Ident) 28 29 ∷ symbol (Ident) 30 37 ∷ symbol (Ident) 37 38 ∷ symbol (Ident) 39 48 ∷ symbol (Ident) 49 50 ∷ symbol (Ident) 50 51 ∷ symbol (Ident) 51 52 ∷ symbol (Ident) 52 53 ∷ symbol (Ident) 54 55 ∷ symbol (Ident) 55 56 ∷ symbol (Ident) 56 57 ∷ symbol (Ident) 58 61 ∷ symbol (Ident) 62 63 ∷ symbol (Ident) 63 64 ∷ symbol (Ident) 65 68 ∷ symbol (Ident) 69 70 ∷ symbol (Ident) 70 71 ∷ symbol (Ident) 72 75 ∷ symbol (Ident) 76 77 ∷ symbol (Ident) 77 78 ∷ []) }; tree = record { module_word = 0; name = 1; semicolon = 0; imports = None; decls = (S.decls None None None (S.procedure 0 (record { name = 4; star = None }) None 0 (S.decls None None (Some (record { var_word = 0; each = (record { names = (record { first = (record { name = 7; star = None }); more = [] }); colon = 0; of = (S.Named (record { name = 9; member = None })); semicolon = 0 } ∷ []) })) (S.procedure 0 (record { name = 12; star = None }) (Some (record { left_paren = 0; sections = Some (record { first = (record { var_word = None; first = 14; more = []; colon = 0; open_array = None; of = (record { name = 16; member = None }) }); more = [] }); right_paren = 0; result = None })) 0 (S.decls None None None S.no_procedure) None None 19 20 0 S.no_procedure)) None None 22 23 0 S.no_procedure)); body = None; end_word = 0; end_name = 26; period = 0 } }

pub not_visible_12 : checked (not_visible_12_0 ∷ []) ≡ Fault 0 34 54
not_visible_12 = refl

-- MODULE M; PROCEDURE P; VAR p: POINTER TO RECORD END; PROCEDURE Q; BEGIN CASE p OF END END Q; END P; END M.
abbrev not_visible_13_0 : Parsed
not_visible_13_0 = record { source = record { bytes = (77 ∷ 79 ∷ 68 ∷ 85 ∷ 76 ∷ 69 ∷ 32 ∷ 77 ∷ 59 ∷ 32 ∷ 80 ∷ 82 ∷ 79 ∷ 67 ∷ 69 ∷ 68 ∷ 85 ∷ 82 ∷ 69 ∷ 32 ∷ 80 ∷ 59 ∷ 32 ∷ 86 ∷ 65 ∷ 82 ∷ 32 ∷ 112 ∷ 58 ∷ 32 ∷ 80 ∷ 79 ∷ 73 ∷ 78 ∷ 84 ∷ 69 ∷ 82 ∷ 32 ∷ 84 ∷ 79 ∷ 32 ∷ 82 ∷ 69 ∷ 67 ∷ 79 ∷ 82 ∷ 68 ∷ 32 ∷ 69 ∷ 78 ∷ 68 ∷ 59 ∷ 32 ∷ 80 ∷ 82 ∷ 79 ∷ 67 ∷ 69 ∷ 68 ∷ 85 ∷ 82 ∷ 69 ∷ 32 ∷ 81 ∷ 59 ∷ 32 ∷ 66 ∷ 69 ∷ 71 ∷ 73 ∷ 78 ∷ 32 ∷ 67 ∷ 65 ∷ 83 ∷ 69 ∷ 32 ∷ 112 ∷ 32 ∷ 79 ∷ 70 ∷ 32 ∷ 69 ∷ 78 ∷ 68 ∷ 32 ∷ 69 ∷ 78 ∷ 68 ∷ 32 ∷ 81 ∷ 59 ∷ 32 ∷ 69 ∷ 78 ∷ 68 ∷ 32 ∷ 80 ∷ 59 ∷ 32 ∷ 69 ∷ 78 ∷ 68 ∷ 32 ∷ 77 ∷ 46 ∷ []); symbols = (symbol (Ident) 0 6 ∷ symbol (Ident) 7 8 ∷ symbol (Ident) 8 9 ∷ symbol (Ident) 10 19 ∷ symbol (Ident) 20 21 ∷ symbol (Ident) 21 22 ∷ symbol (Ident) 23 26 ∷ symbol (Ident) 27 28 ∷ symbol (Ident) 28 29 ∷ symbol (Ident) 30 37 ∷ symbol (Ident) 38 40 ∷ symbol (Ident) 41 47 ∷ symbol (Ident) 48 51 ∷ symbol (Ident) 51 52 ∷ symbol (Ident) 53 62 ∷ symbol (Ident) 63 64 ∷ symbol (Ident) 64 65 ∷ symbol (Ident) 66 71 ∷ symbol (Ident) 72 76 ∷ symbol (Ident) 77 78 ∷ symbol (Ident) 79 81 ∷ symbol (Ident) 82 85 ∷ symbol (Ident) 86 89 ∷ symbol (Ident) 90 91 ∷ symbol (Ident) 91 92 ∷ symbol (Ident) 93 96 ∷ symbol (Ident) 97 98 ∷ symbol (Ident) 98 99 ∷ symbol (Ident) 100 103 ∷ symbol (Ident) 104 105 ∷ symbol (Ident) 105 106 ∷ []) }; tree = record { module_word = 0; name = 1; semicolon = 0; imports = None; decls = (S.decls None None None (S.procedure 0 (record { name = 4; star = None }) None 0 (S.decls None None (Some (record { var_word = 0; each = (record { names = (record { first = (record { name = 7; star = None }); more = [] }); colon = 0; of = (S.Pointer 9 0 (S.Record 11 None S.no_fields S.no_more_fields 0)); semicolon = 0 } ∷ []) })) (S.procedure 0 (record { name = 15; star = None }) None 0 (S.decls None None None S.no_procedure) (Some (record { begin_word = 0; stats = (S.stats (S.Case 0 (S.only (S.simple None (S.term (S.Designated 19 S.no_selector) S.no_factor) S.no_term)) 0 S.no_case S.no_next_case 0) S.no_stat) })) None 22 23 0 S.no_procedure)) None None 25 26 0 S.no_procedure)); body = None; end_word = 0; end_name = 29; period = 0 } }

pub not_visible_13 : checked (not_visible_13_0 ∷ []) ≡ Fault 0 34 77
not_visible_13 = refl

-- MODULE M; PROCEDURE P; VAR i: INTEGER; PROCEDURE Q; BEGIN FOR i := 0 TO 1 DO END END Q; END P; END M.
abbrev not_visible_14_0 : Parsed
not_visible_14_0 = record { source = record { bytes = (77 ∷ 79 ∷ 68 ∷ 85 ∷ 76 ∷ 69 ∷ 32 ∷ 77 ∷ 59 ∷ 32 ∷ 80 ∷ 82 ∷ 79 ∷ 67 ∷ 69 ∷ 68 ∷ 85 ∷ 82 ∷ 69 ∷ 32 ∷ 80 ∷ 59 ∷ 32 ∷ 86 ∷ 65 ∷ 82 ∷ 32 ∷ 105 ∷ 58 ∷ 32 ∷ 73 ∷ 78 ∷ 84 ∷ 69 ∷ 71 ∷ 69 ∷ 82 ∷ 59 ∷ 32 ∷ 80 ∷ 82 ∷ 79 ∷ 67 ∷ 69 ∷ 68 ∷ 85 ∷ 82 ∷ 69 ∷ 32 ∷ 81 ∷ 59 ∷ 32 ∷ 66 ∷ 69 ∷ 71 ∷ 73 ∷ 78 ∷ 32 ∷ 70 ∷ 79 ∷ 82 ∷ 32 ∷ 105 ∷ 32 ∷ 58 ∷ 61 ∷ 32 ∷ 48 ∷ 32 ∷ 84 ∷ 79 ∷ 32 ∷ 49 ∷ 32 ∷ 68 ∷ 79 ∷ 32 ∷ 69 ∷ 78 ∷ 68 ∷ 32 ∷ 69 ∷ 78 ∷ 68 ∷ 32 ∷ 81 ∷ 59 ∷ 32 ∷ 69 ∷ 78 ∷ 68 ∷ 32 ∷ 80 ∷ 59 ∷ 32 ∷ 69 ∷ 78 ∷ 68 ∷ 32 ∷ 77 ∷ 46 ∷ []); symbols = (symbol (Ident) 0 6 ∷ symbol (Ident) 7 8 ∷ symbol (Ident) 8 9 ∷ symbol (Ident) 10 19 ∷ symbol (Ident) 20 21 ∷ symbol (Ident) 21 22 ∷ symbol (Ident) 23 26 ∷ symbol (Ident) 27 28 ∷ symbol (Ident) 28 29 ∷ symbol (Ident) 30 37 ∷ symbol (Ident) 37 38 ∷ symbol (Ident) 39 48 ∷ symbol (Ident) 49 50 ∷ symbol (Ident) 50 51 ∷ symbol (Ident) 52 57 ∷ symbol (Ident) 58 61 ∷ symbol (Ident) 62 63 ∷ symbol (Ident) 64 66 ∷ symbol (Int (pos 0)) 67 68 ∷ symbol (Ident) 69 71 ∷ symbol (Int (pos 1)) 72 73 ∷ symbol (Ident) 74 76 ∷ symbol (Ident) 77 80 ∷ symbol (Ident) 81 84 ∷ symbol (Ident) 85 86 ∷ symbol (Ident) 86 87 ∷ symbol (Ident) 88 91 ∷ symbol (Ident) 92 93 ∷ symbol (Ident) 93 94 ∷ symbol (Ident) 95 98 ∷ symbol (Ident) 99 100 ∷ symbol (Ident) 100 101 ∷ []) }; tree = record { module_word = 0; name = 1; semicolon = 0; imports = None; decls = (S.decls None None None (S.procedure 0 (record { name = 4; star = None }) None 0 (S.decls None None (Some (record { var_word = 0; each = (record { names = (record { first = (record { name = 7; star = None }); more = [] }); colon = 0; of = (S.Named (record { name = 9; member = None })); semicolon = 0 } ∷ []) })) (S.procedure 0 (record { name = 12; star = None }) None 0 (S.decls None None None S.no_procedure) (Some (record { begin_word = 0; stats = (S.stats (S.For 0 16 0 (S.only (S.simple None (S.term (S.Int 18) S.no_factor) S.no_term)) 0 (S.only (S.simple None (S.term (S.Int 20) S.no_factor) S.no_term)) None 0 (S.stats S.Empty S.no_stat) 0) S.no_stat) })) None 23 24 0 S.no_procedure)) None None 26 27 0 S.no_procedure)); body = None; end_word = 0; end_name = 30; period = 0 } }

pub not_visible_14 : checked (not_visible_14_0 ∷ []) ≡ Fault 0 34 62
not_visible_14 = refl

-- MODULE M; CONST c = 1; c = 2; END M.
abbrev redeclared_1_0 : Parsed
redeclared_1_0 = record { source = record { bytes = (77 ∷ 79 ∷ 68 ∷ 85 ∷ 76 ∷ 69 ∷ 32 ∷ 77 ∷ 59 ∷ 32 ∷ 67 ∷ 79 ∷ 78 ∷ 83 ∷ 84 ∷ 32 ∷ 99 ∷ 32 ∷ 61 ∷ 32 ∷ 49 ∷ 59 ∷ 32 ∷ 99 ∷ 32 ∷ 61 ∷ 32 ∷ 50 ∷ 59 ∷ 32 ∷ 69 ∷ 78 ∷ 68 ∷ 32 ∷ 77 ∷ 46 ∷ []); symbols = (symbol (Ident) 0 6 ∷ symbol (Ident) 7 8 ∷ symbol (Ident) 8 9 ∷ symbol (Ident) 10 15 ∷ symbol (Ident) 16 17 ∷ symbol (Ident) 18 19 ∷ symbol (Int (pos 1)) 20 21 ∷ symbol (Ident) 21 22 ∷ symbol (Ident) 23 24 ∷ symbol (Ident) 25 26 ∷ symbol (Int (pos 2)) 27 28 ∷ symbol (Ident) 28 29 ∷ symbol (Ident) 30 33 ∷ symbol (Ident) 34 35 ∷ symbol (Ident) 35 36 ∷ []) }; tree = record { module_word = 0; name = 1; semicolon = 0; imports = None; decls = (S.decls (Some (record { const_word = 0; each = (record { name = (record { name = 4; star = None }); equal = 0; value = (S.only (S.simple None (S.term (S.Int 6) S.no_factor) S.no_term)); semicolon = 0 } ∷ record { name = (record { name = 8; star = None }); equal = 0; value = (S.only (S.simple None (S.term (S.Int 10) S.no_factor) S.no_term)); semicolon = 0 } ∷ []) })) None None S.no_procedure); body = None; end_word = 0; end_name = 13; period = 0 } }

pub redeclared_1 : checked (redeclared_1_0 ∷ []) ≡ Fault 0 36 23
redeclared_1 = refl

-- MODULE M; CONST c = 1; TYPE c = INTEGER; END M.
abbrev redeclared_2_0 : Parsed
redeclared_2_0 = record { source = record { bytes = (77 ∷ 79 ∷ 68 ∷ 85 ∷ 76 ∷ 69 ∷ 32 ∷ 77 ∷ 59 ∷ 32 ∷ 67 ∷ 79 ∷ 78 ∷ 83 ∷ 84 ∷ 32 ∷ 99 ∷ 32 ∷ 61 ∷ 32 ∷ 49 ∷ 59 ∷ 32 ∷ 84 ∷ 89 ∷ 80 ∷ 69 ∷ 32 ∷ 99 ∷ 32 ∷ 61 ∷ 32 ∷ 73 ∷ 78 ∷ 84 ∷ 69 ∷ 71 ∷ 69 ∷ 82 ∷ 59 ∷ 32 ∷ 69 ∷ 78 ∷ 68 ∷ 32 ∷ 77 ∷ 46 ∷ []); symbols = (symbol (Ident) 0 6 ∷ symbol (Ident) 7 8 ∷ symbol (Ident) 8 9 ∷ symbol (Ident) 10 15 ∷ symbol (Ident) 16 17 ∷ symbol (Ident) 18 19 ∷ symbol (Int (pos 1)) 20 21 ∷ symbol (Ident) 21 22 ∷ symbol (Ident) 23 27 ∷ symbol (Ident) 28 29 ∷ symbol (Ident) 30 31 ∷ symbol (Ident) 32 39 ∷ symbol (Ident) 39 40 ∷ symbol (Ident) 41 44 ∷ symbol (Ident) 45 46 ∷ symbol (Ident) 46 47 ∷ []) }; tree = record { module_word = 0; name = 1; semicolon = 0; imports = None; decls = (S.decls (Some (record { const_word = 0; each = (record { name = (record { name = 4; star = None }); equal = 0; value = (S.only (S.simple None (S.term (S.Int 6) S.no_factor) S.no_term)); semicolon = 0 } ∷ []) })) (Some (record { type_word = 0; each = (record { name = (record { name = 9; star = None }); equal = 0; is = (S.Named (record { name = 11; member = None })); semicolon = 0 } ∷ []) })) None S.no_procedure); body = None; end_word = 0; end_name = 14; period = 0 } }

pub redeclared_2 : checked (redeclared_2_0 ∷ []) ≡ Fault 0 36 28
redeclared_2 = refl

-- MODULE M; VAR x, x: INTEGER; END M.
abbrev redeclared_3_0 : Parsed
redeclared_3_0 = record { source = record { bytes = (77 ∷ 79 ∷ 68 ∷ 85 ∷ 76 ∷ 69 ∷ 32 ∷ 77 ∷ 59 ∷ 32 ∷ 86 ∷ 65 ∷ 82 ∷ 32 ∷ 120 ∷ 44 ∷ 32 ∷ 120 ∷ 58 ∷ 32 ∷ 73 ∷ 78 ∷ 84 ∷ 69 ∷ 71 ∷ 69 ∷ 82 ∷ 59 ∷ 32 ∷ 69 ∷ 78 ∷ 68 ∷ 32 ∷ 77 ∷ 46 ∷ []); symbols = (symbol (Ident) 0 6 ∷ symbol (Ident) 7 8 ∷ symbol (Ident) 8 9 ∷ symbol (Ident) 10 13 ∷ symbol (Ident) 14 15 ∷ symbol (Ident) 15 16 ∷ symbol (Ident) 17 18 ∷ symbol (Ident) 18 19 ∷ symbol (Ident) 20 27 ∷ symbol (Ident) 27 28 ∷ symbol (Ident) 29 32 ∷ symbol (Ident) 33 34 ∷ symbol (Ident) 34 35 ∷ []) }; tree = record { module_word = 0; name = 1; semicolon = 0; imports = None; decls = (S.decls None None (Some (record { var_word = 0; each = (record { names = (record { first = (record { name = 4; star = None }); more = (record { comma = 0; name = (record { name = 6; star = None }) } ∷ []) }); colon = 0; of = (S.Named (record { name = 8; member = None })); semicolon = 0 } ∷ []) })) S.no_procedure); body = None; end_word = 0; end_name = 11; period = 0 } }

pub redeclared_3 : checked (redeclared_3_0 ∷ []) ≡ Fault 0 36 17
redeclared_3 = refl

-- MODULE M; VAR x: INTEGER; y, x: T; END M.
abbrev redeclared_4_0 : Parsed
redeclared_4_0 = record { source = record { bytes = (77 ∷ 79 ∷ 68 ∷ 85 ∷ 76 ∷ 69 ∷ 32 ∷ 77 ∷ 59 ∷ 32 ∷ 86 ∷ 65 ∷ 82 ∷ 32 ∷ 120 ∷ 58 ∷ 32 ∷ 73 ∷ 78 ∷ 84 ∷ 69 ∷ 71 ∷ 69 ∷ 82 ∷ 59 ∷ 32 ∷ 121 ∷ 44 ∷ 32 ∷ 120 ∷ 58 ∷ 32 ∷ 84 ∷ 59 ∷ 32 ∷ 69 ∷ 78 ∷ 68 ∷ 32 ∷ 77 ∷ 46 ∷ []); symbols = (symbol (Ident) 0 6 ∷ symbol (Ident) 7 8 ∷ symbol (Ident) 8 9 ∷ symbol (Ident) 10 13 ∷ symbol (Ident) 14 15 ∷ symbol (Ident) 15 16 ∷ symbol (Ident) 17 24 ∷ symbol (Ident) 24 25 ∷ symbol (Ident) 26 27 ∷ symbol (Ident) 27 28 ∷ symbol (Ident) 29 30 ∷ symbol (Ident) 30 31 ∷ symbol (Ident) 32 33 ∷ symbol (Ident) 33 34 ∷ symbol (Ident) 35 38 ∷ symbol (Ident) 39 40 ∷ symbol (Ident) 40 41 ∷ []) }; tree = record { module_word = 0; name = 1; semicolon = 0; imports = None; decls = (S.decls None None (Some (record { var_word = 0; each = (record { names = (record { first = (record { name = 4; star = None }); more = [] }); colon = 0; of = (S.Named (record { name = 6; member = None })); semicolon = 0 } ∷ record { names = (record { first = (record { name = 8; star = None }); more = (record { comma = 0; name = (record { name = 10; star = None }) } ∷ []) }); colon = 0; of = (S.Named (record { name = 12; member = None })); semicolon = 0 } ∷ []) })) S.no_procedure); body = None; end_word = 0; end_name = 15; period = 0 } }

pub redeclared_4 : checked (redeclared_4_0 ∷ []) ≡ Fault 0 36 29
redeclared_4 = refl

-- MODULE M; TYPE R = RECORD x, x: INTEGER END; END M.
abbrev redeclared_5_0 : Parsed
redeclared_5_0 = record { source = record { bytes = (77 ∷ 79 ∷ 68 ∷ 85 ∷ 76 ∷ 69 ∷ 32 ∷ 77 ∷ 59 ∷ 32 ∷ 84 ∷ 89 ∷ 80 ∷ 69 ∷ 32 ∷ 82 ∷ 32 ∷ 61 ∷ 32 ∷ 82 ∷ 69 ∷ 67 ∷ 79 ∷ 82 ∷ 68 ∷ 32 ∷ 120 ∷ 44 ∷ 32 ∷ 120 ∷ 58 ∷ 32 ∷ 73 ∷ 78 ∷ 84 ∷ 69 ∷ 71 ∷ 69 ∷ 82 ∷ 32 ∷ 69 ∷ 78 ∷ 68 ∷ 59 ∷ 32 ∷ 69 ∷ 78 ∷ 68 ∷ 32 ∷ 77 ∷ 46 ∷ []); symbols = (symbol (Ident) 0 6 ∷ symbol (Ident) 7 8 ∷ symbol (Ident) 8 9 ∷ symbol (Ident) 10 14 ∷ symbol (Ident) 15 16 ∷ symbol (Ident) 17 18 ∷ symbol (Ident) 19 25 ∷ symbol (Ident) 26 27 ∷ symbol (Ident) 27 28 ∷ symbol (Ident) 29 30 ∷ symbol (Ident) 30 31 ∷ symbol (Ident) 32 39 ∷ symbol (Ident) 40 43 ∷ symbol (Ident) 43 44 ∷ symbol (Ident) 45 48 ∷ symbol (Ident) 49 50 ∷ symbol (Ident) 50 51 ∷ []) }; tree = record { module_word = 0; name = 1; semicolon = 0; imports = None; decls = (S.decls None (Some (record { type_word = 0; each = (record { name = (record { name = 4; star = None }); equal = 0; is = (S.Record 6 None (S.fields (record { first = (record { name = 7; star = None }); more = (record { comma = 0; name = (record { name = 9; star = None }) } ∷ []) }) 0 (S.Named (record { name = 11; member = None }))) S.no_more_fields 0); semicolon = 0 } ∷ []) })) None S.no_procedure); body = None; end_word = 0; end_name = 15; period = 0 } }

pub redeclared_5 : checked (redeclared_5_0 ∷ []) ≡ Fault 0 36 29
redeclared_5 = refl

-- MODULE M; TYPE R = RECORD x: INTEGER; x: T END; END M.
abbrev redeclared_6_0 : Parsed
redeclared_6_0 = record { source = record { bytes = (77 ∷ 79 ∷ 68 ∷ 85 ∷ 76 ∷ 69 ∷ 32 ∷ 77 ∷ 59 ∷ 32 ∷ 84 ∷ 89 ∷ 80 ∷ 69 ∷ 32 ∷ 82 ∷ 32 ∷ 61 ∷ 32 ∷ 82 ∷ 69 ∷ 67 ∷ 79 ∷ 82 ∷ 68 ∷ 32 ∷ 120 ∷ 58 ∷ 32 ∷ 73 ∷ 78 ∷ 84 ∷ 69 ∷ 71 ∷ 69 ∷ 82 ∷ 59 ∷ 32 ∷ 120 ∷ 58 ∷ 32 ∷ 84 ∷ 32 ∷ 69 ∷ 78 ∷ 68 ∷ 59 ∷ 32 ∷ 69 ∷ 78 ∷ 68 ∷ 32 ∷ 77 ∷ 46 ∷ []); symbols = (symbol (Ident) 0 6 ∷ symbol (Ident) 7 8 ∷ symbol (Ident) 8 9 ∷ symbol (Ident) 10 14 ∷ symbol (Ident) 15 16 ∷ symbol (Ident) 17 18 ∷ symbol (Ident) 19 25 ∷ symbol (Ident) 26 27 ∷ symbol (Ident) 27 28 ∷ symbol (Ident) 29 36 ∷ symbol (Ident) 36 37 ∷ symbol (Ident) 38 39 ∷ symbol (Ident) 39 40 ∷ symbol (Ident) 41 42 ∷ symbol (Ident) 43 46 ∷ symbol (Ident) 46 47 ∷ symbol (Ident) 48 51 ∷ symbol (Ident) 52 53 ∷ symbol (Ident) 53 54 ∷ []) }; tree = record { module_word = 0; name = 1; semicolon = 0; imports = None; decls = (S.decls None (Some (record { type_word = 0; each = (record { name = (record { name = 4; star = None }); equal = 0; is = (S.Record 6 None (S.fields (record { first = (record { name = 7; star = None }); more = [] }) 0 (S.Named (record { name = 9; member = None }))) (S.next_fields 0 (S.fields (record { first = (record { name = 11; star = None }); more = [] }) 0 (S.Named (record { name = 13; member = None }))) S.no_more_fields) 0); semicolon = 0 } ∷ []) })) None S.no_procedure); body = None; end_word = 0; end_name = 17; period = 0 } }

pub redeclared_6 : checked (redeclared_6_0 ∷ []) ≡ Fault 0 36 38
redeclared_6 = refl

-- MODULE M; TYPE R = RECORD x: INTEGER END; E = RECORD (R) x: INTEGER END; END M.
abbrev redeclared_7_0 : Parsed
redeclared_7_0 = record { source = record { bytes = (77 ∷ 79 ∷ 68 ∷ 85 ∷ 76 ∷ 69 ∷ 32 ∷ 77 ∷ 59 ∷ 32 ∷ 84 ∷ 89 ∷ 80 ∷ 69 ∷ 32 ∷ 82 ∷ 32 ∷ 61 ∷ 32 ∷ 82 ∷ 69 ∷ 67 ∷ 79 ∷ 82 ∷ 68 ∷ 32 ∷ 120 ∷ 58 ∷ 32 ∷ 73 ∷ 78 ∷ 84 ∷ 69 ∷ 71 ∷ 69 ∷ 82 ∷ 32 ∷ 69 ∷ 78 ∷ 68 ∷ 59 ∷ 32 ∷ 69 ∷ 32 ∷ 61 ∷ 32 ∷ 82 ∷ 69 ∷ 67 ∷ 79 ∷ 82 ∷ 68 ∷ 32 ∷ 40 ∷ 82 ∷ 41 ∷ 32 ∷ 120 ∷ 58 ∷ 32 ∷ 73 ∷ 78 ∷ 84 ∷ 69 ∷ 71 ∷ 69 ∷ 82 ∷ 32 ∷ 69 ∷ 78 ∷ 68 ∷ 59 ∷ 32 ∷ 69 ∷ 78 ∷ 68 ∷ 32 ∷ 77 ∷ 46 ∷ []); symbols = (symbol (Ident) 0 6 ∷ symbol (Ident) 7 8 ∷ symbol (Ident) 8 9 ∷ symbol (Ident) 10 14 ∷ symbol (Ident) 15 16 ∷ symbol (Ident) 17 18 ∷ symbol (Ident) 19 25 ∷ symbol (Ident) 26 27 ∷ symbol (Ident) 27 28 ∷ symbol (Ident) 29 36 ∷ symbol (Ident) 37 40 ∷ symbol (Ident) 40 41 ∷ symbol (Ident) 42 43 ∷ symbol (Ident) 44 45 ∷ symbol (Ident) 46 52 ∷ symbol (Ident) 53 54 ∷ symbol (Ident) 54 55 ∷ symbol (Ident) 55 56 ∷ symbol (Ident) 57 58 ∷ symbol (Ident) 58 59 ∷ symbol (Ident) 60 67 ∷ symbol (Ident) 68 71 ∷ symbol (Ident) 71 72 ∷ symbol (Ident) 73 76 ∷ symbol (Ident) 77 78 ∷ symbol (Ident) 78 79 ∷ []) }; tree = record { module_word = 0; name = 1; semicolon = 0; imports = None; decls = (S.decls None (Some (record { type_word = 0; each = (record { name = (record { name = 4; star = None }); equal = 0; is = (S.Record 6 None (S.fields (record { first = (record { name = 7; star = None }); more = [] }) 0 (S.Named (record { name = 9; member = None }))) S.no_more_fields 0); semicolon = 0 } ∷ record { name = (record { name = 12; star = None }); equal = 0; is = (S.Record 14 (Some (record { left_paren = 0; name = (record { name = 16; member = None }); right_paren = 0 })) (S.fields (record { first = (record { name = 18; star = None }); more = [] }) 0 (S.Named (record { name = 20; member = None }))) S.no_more_fields 0); semicolon = 0 } ∷ []) })) None S.no_procedure); body = None; end_word = 0; end_name = 24; period = 0 } }

pub redeclared_7 : checked (redeclared_7_0 ∷ []) ≡ Fault 0 36 57
redeclared_7 = refl

-- MODULE M; PROCEDURE P; END P; PROCEDURE P; END P; END M.
abbrev redeclared_8_0 : Parsed
redeclared_8_0 = record { source = record { bytes = (77 ∷ 79 ∷ 68 ∷ 85 ∷ 76 ∷ 69 ∷ 32 ∷ 77 ∷ 59 ∷ 32 ∷ 80 ∷ 82 ∷ 79 ∷ 67 ∷ 69 ∷ 68 ∷ 85 ∷ 82 ∷ 69 ∷ 32 ∷ 80 ∷ 59 ∷ 32 ∷ 69 ∷ 78 ∷ 68 ∷ 32 ∷ 80 ∷ 59 ∷ 32 ∷ 80 ∷ 82 ∷ 79 ∷ 67 ∷ 69 ∷ 68 ∷ 85 ∷ 82 ∷ 69 ∷ 32 ∷ 80 ∷ 59 ∷ 32 ∷ 69 ∷ 78 ∷ 68 ∷ 32 ∷ 80 ∷ 59 ∷ 32 ∷ 69 ∷ 78 ∷ 68 ∷ 32 ∷ 77 ∷ 46 ∷ []); symbols = (symbol (Ident) 0 6 ∷ symbol (Ident) 7 8 ∷ symbol (Ident) 8 9 ∷ symbol (Ident) 10 19 ∷ symbol (Ident) 20 21 ∷ symbol (Ident) 21 22 ∷ symbol (Ident) 23 26 ∷ symbol (Ident) 27 28 ∷ symbol (Ident) 28 29 ∷ symbol (Ident) 30 39 ∷ symbol (Ident) 40 41 ∷ symbol (Ident) 41 42 ∷ symbol (Ident) 43 46 ∷ symbol (Ident) 47 48 ∷ symbol (Ident) 48 49 ∷ symbol (Ident) 50 53 ∷ symbol (Ident) 54 55 ∷ symbol (Ident) 55 56 ∷ []) }; tree = record { module_word = 0; name = 1; semicolon = 0; imports = None; decls = (S.decls None None None (S.procedure 0 (record { name = 4; star = None }) None 0 (S.decls None None None S.no_procedure) None None 6 7 0 (S.procedure 0 (record { name = 10; star = None }) None 0 (S.decls None None None S.no_procedure) None None 12 13 0 S.no_procedure))); body = None; end_word = 0; end_name = 16; period = 0 } }

pub redeclared_8 : checked (redeclared_8_0 ∷ []) ≡ Fault 0 36 40
redeclared_8 = refl

-- MODULE M; PROCEDURE P(a, a: INTEGER); END P; END M.
abbrev redeclared_9_0 : Parsed
redeclared_9_0 = record { source = record { bytes = (77 ∷ 79 ∷ 68 ∷ 85 ∷ 76 ∷ 69 ∷ 32 ∷ 77 ∷ 59 ∷ 32 ∷ 80 ∷ 82 ∷ 79 ∷ 67 ∷ 69 ∷ 68 ∷ 85 ∷ 82 ∷ 69 ∷ 32 ∷ 80 ∷ 40 ∷ 97 ∷ 44 ∷ 32 ∷ 97 ∷ 58 ∷ 32 ∷ 73 ∷ 78 ∷ 84 ∷ 69 ∷ 71 ∷ 69 ∷ 82 ∷ 41 ∷ 59 ∷ 32 ∷ 69 ∷ 78 ∷ 68 ∷ 32 ∷ 80 ∷ 59 ∷ 32 ∷ 69 ∷ 78 ∷ 68 ∷ 32 ∷ 77 ∷ 46 ∷ []); symbols = (symbol (Ident) 0 6 ∷ symbol (Ident) 7 8 ∷ symbol (Ident) 8 9 ∷ symbol (Ident) 10 19 ∷ symbol (Ident) 20 21 ∷ symbol (Ident) 21 22 ∷ symbol (Ident) 22 23 ∷ symbol (Ident) 23 24 ∷ symbol (Ident) 25 26 ∷ symbol (Ident) 26 27 ∷ symbol (Ident) 28 35 ∷ symbol (Ident) 35 36 ∷ symbol (Ident) 36 37 ∷ symbol (Ident) 38 41 ∷ symbol (Ident) 42 43 ∷ symbol (Ident) 43 44 ∷ symbol (Ident) 45 48 ∷ symbol (Ident) 49 50 ∷ symbol (Ident) 50 51 ∷ []) }; tree = record { module_word = 0; name = 1; semicolon = 0; imports = None; decls = (S.decls None None None (S.procedure 0 (record { name = 4; star = None }) (Some (record { left_paren = 0; sections = Some (record { first = (record { var_word = None; first = 6; more = (record { comma = 0; name = 8 } ∷ []); colon = 0; open_array = None; of = (record { name = 10; member = None }) }); more = [] }); right_paren = 0; result = None })) 0 (S.decls None None None S.no_procedure) None None 13 14 0 S.no_procedure)); body = None; end_word = 0; end_name = 17; period = 0 } }

pub redeclared_9 : checked (redeclared_9_0 ∷ []) ≡ Fault 0 36 25
redeclared_9 = refl

-- MODULE M; PROCEDURE P(a: INTEGER; b, a: T); END P; END M.
abbrev redeclared_10_0 : Parsed
redeclared_10_0 = record { source = record { bytes = (77 ∷ 79 ∷ 68 ∷ 85 ∷ 76 ∷ 69 ∷ 32 ∷ 77 ∷ 59 ∷ 32 ∷ 80 ∷ 82 ∷ 79 ∷ 67 ∷ 69 ∷ 68 ∷ 85 ∷ 82 ∷ 69 ∷ 32 ∷ 80 ∷ 40 ∷ 97 ∷ 58 ∷ 32 ∷ 73 ∷ 78 ∷ 84 ∷ 69 ∷ 71 ∷ 69 ∷ 82 ∷ 59 ∷ 32 ∷ 98 ∷ 44 ∷ 32 ∷ 97 ∷ 58 ∷ 32 ∷ 84 ∷ 41 ∷ 59 ∷ 32 ∷ 69 ∷ 78 ∷ 68 ∷ 32 ∷ 80 ∷ 59 ∷ 32 ∷ 69 ∷ 78 ∷ 68 ∷ 32 ∷ 77 ∷ 46 ∷ []); symbols = (symbol (Ident) 0 6 ∷ symbol (Ident) 7 8 ∷ symbol (Ident) 8 9 ∷ symbol (Ident) 10 19 ∷ symbol (Ident) 20 21 ∷ symbol (Ident) 21 22 ∷ symbol (Ident) 22 23 ∷ symbol (Ident) 23 24 ∷ symbol (Ident) 25 32 ∷ symbol (Ident) 32 33 ∷ symbol (Ident) 34 35 ∷ symbol (Ident) 35 36 ∷ symbol (Ident) 37 38 ∷ symbol (Ident) 38 39 ∷ symbol (Ident) 40 41 ∷ symbol (Ident) 41 42 ∷ symbol (Ident) 42 43 ∷ symbol (Ident) 44 47 ∷ symbol (Ident) 48 49 ∷ symbol (Ident) 49 50 ∷ symbol (Ident) 51 54 ∷ symbol (Ident) 55 56 ∷ symbol (Ident) 56 57 ∷ []) }; tree = record { module_word = 0; name = 1; semicolon = 0; imports = None; decls = (S.decls None None None (S.procedure 0 (record { name = 4; star = None }) (Some (record { left_paren = 0; sections = Some (record { first = (record { var_word = None; first = 6; more = []; colon = 0; open_array = None; of = (record { name = 8; member = None }) }); more = (record { semicolon = 0; section = (record { var_word = None; first = 10; more = (record { comma = 0; name = 12 } ∷ []); colon = 0; open_array = None; of = (record { name = 14; member = None }) }) } ∷ []) }); right_paren = 0; result = None })) 0 (S.decls None None None S.no_procedure) None None 17 18 0 S.no_procedure)); body = None; end_word = 0; end_name = 21; period = 0 } }

pub redeclared_10 : checked (redeclared_10_0 ∷ []) ≡ Fault 0 36 37
redeclared_10 = refl

-- MODULE M; PROCEDURE P(a: INTEGER); VAR a: INTEGER; END P; END M.
abbrev redeclared_11_0 : Parsed
redeclared_11_0 = record { source = record { bytes = (77 ∷ 79 ∷ 68 ∷ 85 ∷ 76 ∷ 69 ∷ 32 ∷ 77 ∷ 59 ∷ 32 ∷ 80 ∷ 82 ∷ 79 ∷ 67 ∷ 69 ∷ 68 ∷ 85 ∷ 82 ∷ 69 ∷ 32 ∷ 80 ∷ 40 ∷ 97 ∷ 58 ∷ 32 ∷ 73 ∷ 78 ∷ 84 ∷ 69 ∷ 71 ∷ 69 ∷ 82 ∷ 41 ∷ 59 ∷ 32 ∷ 86 ∷ 65 ∷ 82 ∷ 32 ∷ 97 ∷ 58 ∷ 32 ∷ 73 ∷ 78 ∷ 84 ∷ 69 ∷ 71 ∷ 69 ∷ 82 ∷ 59 ∷ 32 ∷ 69 ∷ 78 ∷ 68 ∷ 32 ∷ 80 ∷ 59 ∷ 32 ∷ 69 ∷ 78 ∷ 68 ∷ 32 ∷ 77 ∷ 46 ∷ []); symbols = (symbol (Ident) 0 6 ∷ symbol (Ident) 7 8 ∷ symbol (Ident) 8 9 ∷ symbol (Ident) 10 19 ∷ symbol (Ident) 20 21 ∷ symbol (Ident) 21 22 ∷ symbol (Ident) 22 23 ∷ symbol (Ident) 23 24 ∷ symbol (Ident) 25 32 ∷ symbol (Ident) 32 33 ∷ symbol (Ident) 33 34 ∷ symbol (Ident) 35 38 ∷ symbol (Ident) 39 40 ∷ symbol (Ident) 40 41 ∷ symbol (Ident) 42 49 ∷ symbol (Ident) 49 50 ∷ symbol (Ident) 51 54 ∷ symbol (Ident) 55 56 ∷ symbol (Ident) 56 57 ∷ symbol (Ident) 58 61 ∷ symbol (Ident) 62 63 ∷ symbol (Ident) 63 64 ∷ []) }; tree = record { module_word = 0; name = 1; semicolon = 0; imports = None; decls = (S.decls None None None (S.procedure 0 (record { name = 4; star = None }) (Some (record { left_paren = 0; sections = Some (record { first = (record { var_word = None; first = 6; more = []; colon = 0; open_array = None; of = (record { name = 8; member = None }) }); more = [] }); right_paren = 0; result = None })) 0 (S.decls None None (Some (record { var_word = 0; each = (record { names = (record { first = (record { name = 12; star = None }); more = [] }); colon = 0; of = (S.Named (record { name = 14; member = None })); semicolon = 0 } ∷ []) })) S.no_procedure) None None 16 17 0 S.no_procedure)); body = None; end_word = 0; end_name = 20; period = 0 } }

pub redeclared_11 : checked (redeclared_11_0 ∷ []) ≡ Fault 0 36 39
redeclared_11 = refl

-- MODULE M; TYPE F = PROCEDURE (a: INTEGER; a: INTEGER); END M.
abbrev redeclared_12_0 : Parsed
redeclared_12_0 = record { source = record { bytes = (77 ∷ 79 ∷ 68 ∷ 85 ∷ 76 ∷ 69 ∷ 32 ∷ 77 ∷ 59 ∷ 32 ∷ 84 ∷ 89 ∷ 80 ∷ 69 ∷ 32 ∷ 70 ∷ 32 ∷ 61 ∷ 32 ∷ 80 ∷ 82 ∷ 79 ∷ 67 ∷ 69 ∷ 68 ∷ 85 ∷ 82 ∷ 69 ∷ 32 ∷ 40 ∷ 97 ∷ 58 ∷ 32 ∷ 73 ∷ 78 ∷ 84 ∷ 69 ∷ 71 ∷ 69 ∷ 82 ∷ 59 ∷ 32 ∷ 97 ∷ 58 ∷ 32 ∷ 73 ∷ 78 ∷ 84 ∷ 69 ∷ 71 ∷ 69 ∷ 82 ∷ 41 ∷ 59 ∷ 32 ∷ 69 ∷ 78 ∷ 68 ∷ 32 ∷ 77 ∷ 46 ∷ []); symbols = (symbol (Ident) 0 6 ∷ symbol (Ident) 7 8 ∷ symbol (Ident) 8 9 ∷ symbol (Ident) 10 14 ∷ symbol (Ident) 15 16 ∷ symbol (Ident) 17 18 ∷ symbol (Ident) 19 28 ∷ symbol (Ident) 29 30 ∷ symbol (Ident) 30 31 ∷ symbol (Ident) 31 32 ∷ symbol (Ident) 33 40 ∷ symbol (Ident) 40 41 ∷ symbol (Ident) 42 43 ∷ symbol (Ident) 43 44 ∷ symbol (Ident) 45 52 ∷ symbol (Ident) 52 53 ∷ symbol (Ident) 53 54 ∷ symbol (Ident) 55 58 ∷ symbol (Ident) 59 60 ∷ symbol (Ident) 60 61 ∷ []) }; tree = record { module_word = 0; name = 1; semicolon = 0; imports = None; decls = (S.decls None (Some (record { type_word = 0; each = (record { name = (record { name = 4; star = None }); equal = 0; is = (S.Procedure 6 (Some (record { left_paren = 0; sections = Some (record { first = (record { var_word = None; first = 8; more = []; colon = 0; open_array = None; of = (record { name = 10; member = None }) }); more = (record { semicolon = 0; section = (record { var_word = None; first = 12; more = []; colon = 0; open_array = None; of = (record { name = 14; member = None }) }) } ∷ []) }); right_paren = 0; result = None }))); semicolon = 0 } ∷ []) })) None S.no_procedure); body = None; end_word = 0; end_name = 18; period = 0 } }

pub redeclared_12 : checked (redeclared_12_0 ∷ []) ≡ Fault 0 36 42
redeclared_12 = refl

-- MODULE M; CONST c = 1; c = 1 DIV 0; END M.
abbrev redeclared_13_0 : Parsed
redeclared_13_0 = record { source = record { bytes = (77 ∷ 79 ∷ 68 ∷ 85 ∷ 76 ∷ 69 ∷ 32 ∷ 77 ∷ 59 ∷ 32 ∷ 67 ∷ 79 ∷ 78 ∷ 83 ∷ 84 ∷ 32 ∷ 99 ∷ 32 ∷ 61 ∷ 32 ∷ 49 ∷ 59 ∷ 32 ∷ 99 ∷ 32 ∷ 61 ∷ 32 ∷ 49 ∷ 32 ∷ 68 ∷ 73 ∷ 86 ∷ 32 ∷ 48 ∷ 59 ∷ 32 ∷ 69 ∷ 78 ∷ 68 ∷ 32 ∷ 77 ∷ 46 ∷ []); symbols = (symbol (Ident) 0 6 ∷ symbol (Ident) 7 8 ∷ symbol (Ident) 8 9 ∷ symbol (Ident) 10 15 ∷ symbol (Ident) 16 17 ∷ symbol (Ident) 18 19 ∷ symbol (Int (pos 1)) 20 21 ∷ symbol (Ident) 21 22 ∷ symbol (Ident) 23 24 ∷ symbol (Ident) 25 26 ∷ symbol (Int (pos 1)) 27 28 ∷ symbol (Ident) 29 32 ∷ symbol (Int (pos 0)) 33 34 ∷ symbol (Ident) 34 35 ∷ symbol (Ident) 36 39 ∷ symbol (Ident) 40 41 ∷ symbol (Ident) 41 42 ∷ []) }; tree = record { module_word = 0; name = 1; semicolon = 0; imports = None; decls = (S.decls (Some (record { const_word = 0; each = (record { name = (record { name = 4; star = None }); equal = 0; value = (S.only (S.simple None (S.term (S.Int 6) S.no_factor) S.no_term)); semicolon = 0 } ∷ record { name = (record { name = 8; star = None }); equal = 0; value = (S.only (S.simple None (S.term (S.Int 10) (S.multiplied (TheMulOperator.Div 11) (S.Int 12) S.no_factor)) S.no_term)); semicolon = 0 } ∷ []) })) None None S.no_procedure); body = None; end_word = 0; end_name = 15; period = 0 } }

pub redeclared_13 : checked (redeclared_13_0 ∷ []) ≡ Fault 0 36 23
redeclared_13 = refl

-- MODULE M; TYPE R = RECORD x: RECORD x: INTEGER END END; END M.
abbrev redeclared_14_0 : Parsed
redeclared_14_0 = record { source = record { bytes = (77 ∷ 79 ∷ 68 ∷ 85 ∷ 76 ∷ 69 ∷ 32 ∷ 77 ∷ 59 ∷ 32 ∷ 84 ∷ 89 ∷ 80 ∷ 69 ∷ 32 ∷ 82 ∷ 32 ∷ 61 ∷ 32 ∷ 82 ∷ 69 ∷ 67 ∷ 79 ∷ 82 ∷ 68 ∷ 32 ∷ 120 ∷ 58 ∷ 32 ∷ 82 ∷ 69 ∷ 67 ∷ 79 ∷ 82 ∷ 68 ∷ 32 ∷ 120 ∷ 58 ∷ 32 ∷ 73 ∷ 78 ∷ 84 ∷ 69 ∷ 71 ∷ 69 ∷ 82 ∷ 32 ∷ 69 ∷ 78 ∷ 68 ∷ 32 ∷ 69 ∷ 78 ∷ 68 ∷ 59 ∷ 32 ∷ 69 ∷ 78 ∷ 68 ∷ 32 ∷ 77 ∷ 46 ∷ []); symbols = (symbol (Ident) 0 6 ∷ symbol (Ident) 7 8 ∷ symbol (Ident) 8 9 ∷ symbol (Ident) 10 14 ∷ symbol (Ident) 15 16 ∷ symbol (Ident) 17 18 ∷ symbol (Ident) 19 25 ∷ symbol (Ident) 26 27 ∷ symbol (Ident) 27 28 ∷ symbol (Ident) 29 35 ∷ symbol (Ident) 36 37 ∷ symbol (Ident) 37 38 ∷ symbol (Ident) 39 46 ∷ symbol (Ident) 47 50 ∷ symbol (Ident) 51 54 ∷ symbol (Ident) 54 55 ∷ symbol (Ident) 56 59 ∷ symbol (Ident) 60 61 ∷ symbol (Ident) 61 62 ∷ []) }; tree = record { module_word = 0; name = 1; semicolon = 0; imports = None; decls = (S.decls None (Some (record { type_word = 0; each = (record { name = (record { name = 4; star = None }); equal = 0; is = (S.Record 6 None (S.fields (record { first = (record { name = 7; star = None }); more = [] }) 0 (S.Record 9 None (S.fields (record { first = (record { name = 10; star = None }); more = [] }) 0 (S.Named (record { name = 12; member = None }))) S.no_more_fields 0)) S.no_more_fields 0); semicolon = 0 } ∷ []) })) None S.no_procedure); body = None; end_word = 0; end_name = 17; period = 0 } }

pub redeclared_14 : checked (redeclared_14_0 ∷ []) ≡ Legal (record { records = (record { module_number = 0; base = None; level = 0; fields = (record { name = (120 ∷ []); exported = false; shape = (H.Record 1) } ∷ []); cells = 1; extent = record { bytes = 8; wide = true } } ∷ record { module_number = 0; base = None; level = 0; fields = (record { name = (120 ∷ []); exported = false; shape = H.Integer } ∷ []); cells = 1; extent = record { bytes = 8; wide = true } } ∷ []); pointers = []; modules = (record { name = (77 ∷ []); objects = (record { name = (82 ∷ []); exported = false; entity = I.OfType (H.Record 0) } ∷ []); variables = []; body = 0 } ∷ []); procedures = (record { module_number = 0; line = 1; is_body = true; formals = []; result = H.Nothing; locals = []; texts = []; body = I.no_statement; answer = None } ∷ []); imports_in = false })
redeclared_14 = refl

-- MODULE M; PROCEDURE P(P: INTEGER); END P; END M.
abbrev redeclared_15_0 : Parsed
redeclared_15_0 = record { source = record { bytes = (77 ∷ 79 ∷ 68 ∷ 85 ∷ 76 ∷ 69 ∷ 32 ∷ 77 ∷ 59 ∷ 32 ∷ 80 ∷ 82 ∷ 79 ∷ 67 ∷ 69 ∷ 68 ∷ 85 ∷ 82 ∷ 69 ∷ 32 ∷ 80 ∷ 40 ∷ 80 ∷ 58 ∷ 32 ∷ 73 ∷ 78 ∷ 84 ∷ 69 ∷ 71 ∷ 69 ∷ 82 ∷ 41 ∷ 59 ∷ 32 ∷ 69 ∷ 78 ∷ 68 ∷ 32 ∷ 80 ∷ 59 ∷ 32 ∷ 69 ∷ 78 ∷ 68 ∷ 32 ∷ 77 ∷ 46 ∷ []); symbols = (symbol (Ident) 0 6 ∷ symbol (Ident) 7 8 ∷ symbol (Ident) 8 9 ∷ symbol (Ident) 10 19 ∷ symbol (Ident) 20 21 ∷ symbol (Ident) 21 22 ∷ symbol (Ident) 22 23 ∷ symbol (Ident) 23 24 ∷ symbol (Ident) 25 32 ∷ symbol (Ident) 32 33 ∷ symbol (Ident) 33 34 ∷ symbol (Ident) 35 38 ∷ symbol (Ident) 39 40 ∷ symbol (Ident) 40 41 ∷ symbol (Ident) 42 45 ∷ symbol (Ident) 46 47 ∷ symbol (Ident) 47 48 ∷ []) }; tree = record { module_word = 0; name = 1; semicolon = 0; imports = None; decls = (S.decls None None None (S.procedure 0 (record { name = 4; star = None }) (Some (record { left_paren = 0; sections = Some (record { first = (record { var_word = None; first = 6; more = []; colon = 0; open_array = None; of = (record { name = 8; member = None }) }); more = [] }); right_paren = 0; result = None })) 0 (S.decls None None None S.no_procedure) None None 11 12 0 S.no_procedure)); body = None; end_word = 0; end_name = 15; period = 0 } }

pub redeclared_15 : checked (redeclared_15_0 ∷ []) ≡ Legal (record { records = []; pointers = []; modules = (record { name = (77 ∷ []); objects = (record { name = (80 ∷ []); exported = false; entity = I.OfProcedure 0 } ∷ []); variables = []; body = 1 } ∷ []); procedures = (record { module_number = 0; line = 1; is_body = false; formals = (record { mode = TheMode.Value; variable = false; shape = H.Integer } ∷ []); result = H.Nothing; locals = []; texts = []; body = I.no_statement; answer = None } ∷ record { module_number = 0; line = 1; is_body = true; formals = []; result = H.Nothing; locals = []; texts = []; body = I.no_statement; answer = None } ∷ []); imports_in = false })
redeclared_15 = refl

-- MODULE M; VAR INTEGER: CHAR; M: CHAR; END M.
abbrev redeclared_16_0 : Parsed
redeclared_16_0 = record { source = record { bytes = (77 ∷ 79 ∷ 68 ∷ 85 ∷ 76 ∷ 69 ∷ 32 ∷ 77 ∷ 59 ∷ 32 ∷ 86 ∷ 65 ∷ 82 ∷ 32 ∷ 73 ∷ 78 ∷ 84 ∷ 69 ∷ 71 ∷ 69 ∷ 82 ∷ 58 ∷ 32 ∷ 67 ∷ 72 ∷ 65 ∷ 82 ∷ 59 ∷ 32 ∷ 77 ∷ 58 ∷ 32 ∷ 67 ∷ 72 ∷ 65 ∷ 82 ∷ 59 ∷ 32 ∷ 69 ∷ 78 ∷ 68 ∷ 32 ∷ 77 ∷ 46 ∷ []); symbols = (symbol (Ident) 0 6 ∷ symbol (Ident) 7 8 ∷ symbol (Ident) 8 9 ∷ symbol (Ident) 10 13 ∷ symbol (Ident) 14 21 ∷ symbol (Ident) 21 22 ∷ symbol (Ident) 23 27 ∷ symbol (Ident) 27 28 ∷ symbol (Ident) 29 30 ∷ symbol (Ident) 30 31 ∷ symbol (Ident) 32 36 ∷ symbol (Ident) 36 37 ∷ symbol (Ident) 38 41 ∷ symbol (Ident) 42 43 ∷ symbol (Ident) 43 44 ∷ []) }; tree = record { module_word = 0; name = 1; semicolon = 0; imports = None; decls = (S.decls None None (Some (record { var_word = 0; each = (record { names = (record { first = (record { name = 4; star = None }); more = [] }); colon = 0; of = (S.Named (record { name = 6; member = None })); semicolon = 0 } ∷ record { names = (record { first = (record { name = 8; star = None }); more = [] }); colon = 0; of = (S.Named (record { name = 10; member = None })); semicolon = 0 } ∷ []) })) S.no_procedure); body = None; end_word = 0; end_name = 13; period = 0 } }

pub redeclared_16 : checked (redeclared_16_0 ∷ []) ≡ Legal (record { records = []; pointers = []; modules = (record { name = (77 ∷ []); objects = (record { name = (73 ∷ 78 ∷ 84 ∷ 69 ∷ 71 ∷ 69 ∷ 82 ∷ []); exported = false; entity = I.OfVariable 0 } ∷ record { name = (77 ∷ []); exported = false; entity = I.OfVariable 1 } ∷ []); variables = (H.Char ∷ H.Char ∷ []); body = 0 } ∷ []); procedures = (record { module_number = 0; line = 1; is_body = true; formals = []; result = H.Nothing; locals = []; texts = []; body = I.no_statement; answer = None } ∷ []); imports_in = false })
redeclared_16 = refl

-- MODULE M; TYPE F = PROCEDURE (F: INTEGER); END M.
abbrev redeclared_17_0 : Parsed
redeclared_17_0 = record { source = record { bytes = (77 ∷ 79 ∷ 68 ∷ 85 ∷ 76 ∷ 69 ∷ 32 ∷ 77 ∷ 59 ∷ 32 ∷ 84 ∷ 89 ∷ 80 ∷ 69 ∷ 32 ∷ 70 ∷ 32 ∷ 61 ∷ 32 ∷ 80 ∷ 82 ∷ 79 ∷ 67 ∷ 69 ∷ 68 ∷ 85 ∷ 82 ∷ 69 ∷ 32 ∷ 40 ∷ 70 ∷ 58 ∷ 32 ∷ 73 ∷ 78 ∷ 84 ∷ 69 ∷ 71 ∷ 69 ∷ 82 ∷ 41 ∷ 59 ∷ 32 ∷ 69 ∷ 78 ∷ 68 ∷ 32 ∷ 77 ∷ 46 ∷ []); symbols = (symbol (Ident) 0 6 ∷ symbol (Ident) 7 8 ∷ symbol (Ident) 8 9 ∷ symbol (Ident) 10 14 ∷ symbol (Ident) 15 16 ∷ symbol (Ident) 17 18 ∷ symbol (Ident) 19 28 ∷ symbol (Ident) 29 30 ∷ symbol (Ident) 30 31 ∷ symbol (Ident) 31 32 ∷ symbol (Ident) 33 40 ∷ symbol (Ident) 40 41 ∷ symbol (Ident) 41 42 ∷ symbol (Ident) 43 46 ∷ symbol (Ident) 47 48 ∷ symbol (Ident) 48 49 ∷ []) }; tree = record { module_word = 0; name = 1; semicolon = 0; imports = None; decls = (S.decls None (Some (record { type_word = 0; each = (record { name = (record { name = 4; star = None }); equal = 0; is = (S.Procedure 6 (Some (record { left_paren = 0; sections = Some (record { first = (record { var_word = None; first = 8; more = []; colon = 0; open_array = None; of = (record { name = 10; member = None }) }); more = [] }); right_paren = 0; result = None }))); semicolon = 0 } ∷ []) })) None S.no_procedure); body = None; end_word = 0; end_name = 14; period = 0 } }

pub redeclared_17 : checked (redeclared_17_0 ∷ []) ≡ Legal (record { records = []; pointers = []; modules = (record { name = (77 ∷ []); objects = (record { name = (70 ∷ []); exported = false; entity = I.OfType (H.Procedure (H.one false H.Integer H.none) H.Nothing) } ∷ []); variables = []; body = 0 } ∷ []); procedures = (record { module_number = 0; line = 1; is_body = true; formals = []; result = H.Nothing; locals = []; texts = []; body = I.no_statement; answer = None } ∷ []); imports_in = false })
redeclared_17 = refl

-- MODULE M; PROCEDURE P; PROCEDURE P; END P; END P; END M.
abbrev redeclared_18_0 : Parsed
redeclared_18_0 = record { source = record { bytes = (77 ∷ 79 ∷ 68 ∷ 85 ∷ 76 ∷ 69 ∷ 32 ∷ 77 ∷ 59 ∷ 32 ∷ 80 ∷ 82 ∷ 79 ∷ 67 ∷ 69 ∷ 68 ∷ 85 ∷ 82 ∷ 69 ∷ 32 ∷ 80 ∷ 59 ∷ 32 ∷ 80 ∷ 82 ∷ 79 ∷ 67 ∷ 69 ∷ 68 ∷ 85 ∷ 82 ∷ 69 ∷ 32 ∷ 80 ∷ 59 ∷ 32 ∷ 69 ∷ 78 ∷ 68 ∷ 32 ∷ 80 ∷ 59 ∷ 32 ∷ 69 ∷ 78 ∷ 68 ∷ 32 ∷ 80 ∷ 59 ∷ 32 ∷ 69 ∷ 78 ∷ 68 ∷ 32 ∷ 77 ∷ 46 ∷ []); symbols = (symbol (Ident) 0 6 ∷ symbol (Ident) 7 8 ∷ symbol (Ident) 8 9 ∷ symbol (Ident) 10 19 ∷ symbol (Ident) 20 21 ∷ symbol (Ident) 21 22 ∷ symbol (Ident) 23 32 ∷ symbol (Ident) 33 34 ∷ symbol (Ident) 34 35 ∷ symbol (Ident) 36 39 ∷ symbol (Ident) 40 41 ∷ symbol (Ident) 41 42 ∷ symbol (Ident) 43 46 ∷ symbol (Ident) 47 48 ∷ symbol (Ident) 48 49 ∷ symbol (Ident) 50 53 ∷ symbol (Ident) 54 55 ∷ symbol (Ident) 55 56 ∷ []) }; tree = record { module_word = 0; name = 1; semicolon = 0; imports = None; decls = (S.decls None None None (S.procedure 0 (record { name = 4; star = None }) None 0 (S.decls None None None (S.procedure 0 (record { name = 7; star = None }) None 0 (S.decls None None None S.no_procedure) None None 9 10 0 S.no_procedure)) None None 12 13 0 S.no_procedure)); body = None; end_word = 0; end_name = 16; period = 0 } }

pub redeclared_18 : checked (redeclared_18_0 ∷ []) ≡ Legal (record { records = []; pointers = []; modules = (record { name = (77 ∷ []); objects = (record { name = (80 ∷ []); exported = false; entity = I.OfProcedure 0 } ∷ []); variables = []; body = 2 } ∷ []); procedures = (record { module_number = 0; line = 1; is_body = false; formals = []; result = H.Nothing; locals = []; texts = []; body = I.no_statement; answer = None } ∷ record { module_number = 0; line = 1; is_body = false; formals = []; result = H.Nothing; locals = []; texts = []; body = I.no_statement; answer = None } ∷ record { module_number = 0; line = 1; is_body = true; formals = []; result = H.Nothing; locals = []; texts = []; body = I.no_statement; answer = None } ∷ []); imports_in = false })
redeclared_18 = refl

-- MODULE M; PROCEDURE P; VAR P: INTEGER; BEGIN P := 1 END P; END M.
abbrev redeclared_19_0 : Parsed
redeclared_19_0 = record { source = record { bytes = (77 ∷ 79 ∷ 68 ∷ 85 ∷ 76 ∷ 69 ∷ 32 ∷ 77 ∷ 59 ∷ 32 ∷ 80 ∷ 82 ∷ 79 ∷ 67 ∷ 69 ∷ 68 ∷ 85 ∷ 82 ∷ 69 ∷ 32 ∷ 80 ∷ 59 ∷ 32 ∷ 86 ∷ 65 ∷ 82 ∷ 32 ∷ 80 ∷ 58 ∷ 32 ∷ 73 ∷ 78 ∷ 84 ∷ 69 ∷ 71 ∷ 69 ∷ 82 ∷ 59 ∷ 32 ∷ 66 ∷ 69 ∷ 71 ∷ 73 ∷ 78 ∷ 32 ∷ 80 ∷ 32 ∷ 58 ∷ 61 ∷ 32 ∷ 49 ∷ 32 ∷ 69 ∷ 78 ∷ 68 ∷ 32 ∷ 80 ∷ 59 ∷ 32 ∷ 69 ∷ 78 ∷ 68 ∷ 32 ∷ 77 ∷ 46 ∷ []); symbols = (symbol (Ident) 0 6 ∷ symbol (Ident) 7 8 ∷ symbol (Ident) 8 9 ∷ symbol (Ident) 10 19 ∷ symbol (Ident) 20 21 ∷ symbol (Ident) 21 22 ∷ symbol (Ident) 23 26 ∷ symbol (Ident) 27 28 ∷ symbol (Ident) 28 29 ∷ symbol (Ident) 30 37 ∷ symbol (Ident) 37 38 ∷ symbol (Ident) 39 44 ∷ symbol (Ident) 45 46 ∷ symbol (Ident) 47 49 ∷ symbol (Int (pos 1)) 50 51 ∷ symbol (Ident) 52 55 ∷ symbol (Ident) 56 57 ∷ symbol (Ident) 57 58 ∷ symbol (Ident) 59 62 ∷ symbol (Ident) 63 64 ∷ symbol (Ident) 64 65 ∷ []) }; tree = record { module_word = 0; name = 1; semicolon = 0; imports = None; decls = (S.decls None None None (S.procedure 0 (record { name = 4; star = None }) None 0 (S.decls None None (Some (record { var_word = 0; each = (record { names = (record { first = (record { name = 7; star = None }); more = [] }); colon = 0; of = (S.Named (record { name = 9; member = None })); semicolon = 0 } ∷ []) })) S.no_procedure) (Some (record { begin_word = 0; stats = (S.stats (S.AssignOrCall (record { name = 12; selectors = S.no_selector }) (Some (record { becomes = 0; value = (S.only (S.simple None (S.term (S.Int 14) S.no_factor) S.no_term)) }))) S.no_stat) })) None 15 16 0 S.no_procedure)); body = None; end_word = 0; end_name = 19; period = 0 } }

pub redeclared_19 : checked (redeclared_19_0 ∷ []) ≡ Legal (record { records = []; pointers = []; modules = (record { name = (77 ∷ []); objects = (record { name = (80 ∷ []); exported = false; entity = I.OfProcedure 0 } ∷ []); variables = []; body = 1 } ∷ []); procedures = (record { module_number = 0; line = 1; is_body = false; formals = []; result = H.Nothing; locals = (H.Integer ∷ []); texts = []; body = (I.next_statement (I.Assign (I.of_type (I.Local 0) H.Integer) (record { form = (I.Literal 1); shape = H.Integer })) I.no_statement); answer = None } ∷ record { module_number = 0; line = 1; is_body = true; formals = []; result = H.Nothing; locals = []; texts = []; body = I.no_statement; answer = None } ∷ []); imports_in = false })
redeclared_19 = refl

-- MODULE M; PROCEDURE P; TYPE x = INTEGER; VAR x: x; END P; END M.
abbrev redeclared_20_0 : Parsed
redeclared_20_0 = record { source = record { bytes = (77 ∷ 79 ∷ 68 ∷ 85 ∷ 76 ∷ 69 ∷ 32 ∷ 77 ∷ 59 ∷ 32 ∷ 80 ∷ 82 ∷ 79 ∷ 67 ∷ 69 ∷ 68 ∷ 85 ∷ 82 ∷ 69 ∷ 32 ∷ 80 ∷ 59 ∷ 32 ∷ 84 ∷ 89 ∷ 80 ∷ 69 ∷ 32 ∷ 120 ∷ 32 ∷ 61 ∷ 32 ∷ 73 ∷ 78 ∷ 84 ∷ 69 ∷ 71 ∷ 69 ∷ 82 ∷ 59 ∷ 32 ∷ 86 ∷ 65 ∷ 82 ∷ 32 ∷ 120 ∷ 58 ∷ 32 ∷ 120 ∷ 59 ∷ 32 ∷ 69 ∷ 78 ∷ 68 ∷ 32 ∷ 80 ∷ 59 ∷ 32 ∷ 69 ∷ 78 ∷ 68 ∷ 32 ∷ 77 ∷ 46 ∷ []); symbols = (symbol (Ident) 0 6 ∷ symbol (Ident) 7 8 ∷ symbol (Ident) 8 9 ∷ symbol (Ident) 10 19 ∷ symbol (Ident) 20 21 ∷ symbol (Ident) 21 22 ∷ symbol (Ident) 23 27 ∷ symbol (Ident) 28 29 ∷ symbol (Ident) 30 31 ∷ symbol (Ident) 32 39 ∷ symbol (Ident) 39 40 ∷ symbol (Ident) 41 44 ∷ symbol (Ident) 45 46 ∷ symbol (Ident) 46 47 ∷ symbol (Ident) 48 49 ∷ symbol (Ident) 49 50 ∷ symbol (Ident) 51 54 ∷ symbol (Ident) 55 56 ∷ symbol (Ident) 56 57 ∷ symbol (Ident) 58 61 ∷ symbol (Ident) 62 63 ∷ symbol (Ident) 63 64 ∷ []) }; tree = record { module_word = 0; name = 1; semicolon = 0; imports = None; decls = (S.decls None None None (S.procedure 0 (record { name = 4; star = None }) None 0 (S.decls None (Some (record { type_word = 0; each = (record { name = (record { name = 7; star = None }); equal = 0; is = (S.Named (record { name = 9; member = None })); semicolon = 0 } ∷ []) })) (Some (record { var_word = 0; each = (record { names = (record { first = (record { name = 12; star = None }); more = [] }); colon = 0; of = (S.Named (record { name = 14; member = None })); semicolon = 0 } ∷ []) })) S.no_procedure) None None 16 17 0 S.no_procedure)); body = None; end_word = 0; end_name = 20; period = 0 } }

pub redeclared_20 : checked (redeclared_20_0 ∷ []) ≡ Fault 0 36 45
redeclared_20 = refl

-- MODULE Out; END Out.
abbrev redeclared_21_0 : Parsed
redeclared_21_0 = record { source = record { bytes = (77 ∷ 79 ∷ 68 ∷ 85 ∷ 76 ∷ 69 ∷ 32 ∷ 79 ∷ 117 ∷ 116 ∷ 59 ∷ 32 ∷ 69 ∷ 78 ∷ 68 ∷ 32 ∷ 79 ∷ 117 ∷ 116 ∷ 46 ∷ []); symbols = (symbol (Ident) 0 6 ∷ symbol (Ident) 7 10 ∷ symbol (Ident) 10 11 ∷ symbol (Ident) 12 15 ∷ symbol (Ident) 16 19 ∷ symbol (Ident) 19 20 ∷ []) }; tree = record { module_word = 0; name = 1; semicolon = 0; imports = None; decls = (S.decls None None None S.no_procedure); body = None; end_word = 0; end_name = 4; period = 0 } }

pub redeclared_21 : checked (redeclared_21_0 ∷ []) ≡ Fault 0 36 7
redeclared_21 = refl

-- MODULE In; END In.
abbrev redeclared_22_0 : Parsed
redeclared_22_0 = record { source = record { bytes = (77 ∷ 79 ∷ 68 ∷ 85 ∷ 76 ∷ 69 ∷ 32 ∷ 73 ∷ 110 ∷ 59 ∷ 32 ∷ 69 ∷ 78 ∷ 68 ∷ 32 ∷ 73 ∷ 110 ∷ 46 ∷ []); symbols = (symbol (Ident) 0 6 ∷ symbol (Ident) 7 9 ∷ symbol (Ident) 9 10 ∷ symbol (Ident) 11 14 ∷ symbol (Ident) 15 17 ∷ symbol (Ident) 17 18 ∷ []) }; tree = record { module_word = 0; name = 1; semicolon = 0; imports = None; decls = (S.decls None None None S.no_procedure); body = None; end_word = 0; end_name = 4; period = 0 } }

pub redeclared_22 : checked (redeclared_22_0 ∷ []) ≡ Fault 0 36 7
redeclared_22 = refl

-- MODULE A; END A.
abbrev redeclared_23_0 : Parsed
redeclared_23_0 = record { source = record { bytes = (77 ∷ 79 ∷ 68 ∷ 85 ∷ 76 ∷ 69 ∷ 32 ∷ 65 ∷ 59 ∷ 32 ∷ 69 ∷ 78 ∷ 68 ∷ 32 ∷ 65 ∷ 46 ∷ 10 ∷ []); symbols = (symbol (Ident) 0 6 ∷ symbol (Ident) 7 8 ∷ symbol (Ident) 8 9 ∷ symbol (Ident) 10 13 ∷ symbol (Ident) 14 15 ∷ symbol (Ident) 15 16 ∷ []) }; tree = record { module_word = 0; name = 1; semicolon = 0; imports = None; decls = (S.decls None None None S.no_procedure); body = None; end_word = 0; end_name = 4; period = 0 } }

-- MODULE A; END A.
abbrev redeclared_23_1 : Parsed
redeclared_23_1 = record { source = record { bytes = (77 ∷ 79 ∷ 68 ∷ 85 ∷ 76 ∷ 69 ∷ 32 ∷ 65 ∷ 59 ∷ 32 ∷ 69 ∷ 78 ∷ 68 ∷ 32 ∷ 65 ∷ 46 ∷ []); symbols = (symbol (Ident) 0 6 ∷ symbol (Ident) 7 8 ∷ symbol (Ident) 8 9 ∷ symbol (Ident) 10 13 ∷ symbol (Ident) 14 15 ∷ symbol (Ident) 15 16 ∷ []) }; tree = record { module_word = 0; name = 1; semicolon = 0; imports = None; decls = (S.decls None None None S.no_procedure); body = None; end_word = 0; end_name = 4; period = 0 } }

pub redeclared_23 : checked (redeclared_23_0 ∷ redeclared_23_1 ∷ []) ≡ Fault 1 36 7
redeclared_23 = refl

-- MODULE M; IMPORT Out, Out; END M.
abbrev redeclared_24_0 : Parsed
redeclared_24_0 = record { source = record { bytes = (77 ∷ 79 ∷ 68 ∷ 85 ∷ 76 ∷ 69 ∷ 32 ∷ 77 ∷ 59 ∷ 32 ∷ 73 ∷ 77 ∷ 80 ∷ 79 ∷ 82 ∷ 84 ∷ 32 ∷ 79 ∷ 117 ∷ 116 ∷ 44 ∷ 32 ∷ 79 ∷ 117 ∷ 116 ∷ 59 ∷ 32 ∷ 69 ∷ 78 ∷ 68 ∷ 32 ∷ 77 ∷ 46 ∷ []); symbols = (symbol (Ident) 0 6 ∷ symbol (Ident) 7 8 ∷ symbol (Ident) 8 9 ∷ symbol (Ident) 10 16 ∷ symbol (Ident) 17 20 ∷ symbol (Ident) 20 21 ∷ symbol (Ident) 22 25 ∷ symbol (Ident) 25 26 ∷ symbol (Ident) 27 30 ∷ symbol (Ident) 31 32 ∷ symbol (Ident) 32 33 ∷ []) }; tree = record { module_word = 0; name = 1; semicolon = 0; imports = Some (record { import_word = 0; first = (record { name = 4; of = None }); more = (record { comma = 0; import = (record { name = 6; of = None }) } ∷ []); semicolon = 0 }); decls = (S.decls None None None S.no_procedure); body = None; end_word = 0; end_name = 9; period = 0 } }

pub redeclared_24 : checked (redeclared_24_0 ∷ []) ≡ Fault 0 36 22
redeclared_24 = refl

-- MODULE M; IMPORT Out, Out := In; END M.
abbrev redeclared_25_0 : Parsed
redeclared_25_0 = record { source = record { bytes = (77 ∷ 79 ∷ 68 ∷ 85 ∷ 76 ∷ 69 ∷ 32 ∷ 77 ∷ 59 ∷ 32 ∷ 73 ∷ 77 ∷ 80 ∷ 79 ∷ 82 ∷ 84 ∷ 32 ∷ 79 ∷ 117 ∷ 116 ∷ 44 ∷ 32 ∷ 79 ∷ 117 ∷ 116 ∷ 32 ∷ 58 ∷ 61 ∷ 32 ∷ 73 ∷ 110 ∷ 59 ∷ 32 ∷ 69 ∷ 78 ∷ 68 ∷ 32 ∷ 77 ∷ 46 ∷ []); symbols = (symbol (Ident) 0 6 ∷ symbol (Ident) 7 8 ∷ symbol (Ident) 8 9 ∷ symbol (Ident) 10 16 ∷ symbol (Ident) 17 20 ∷ symbol (Ident) 20 21 ∷ symbol (Ident) 22 25 ∷ symbol (Ident) 26 28 ∷ symbol (Ident) 29 31 ∷ symbol (Ident) 31 32 ∷ symbol (Ident) 33 36 ∷ symbol (Ident) 37 38 ∷ symbol (Ident) 38 39 ∷ []) }; tree = record { module_word = 0; name = 1; semicolon = 0; imports = Some (record { import_word = 0; first = (record { name = 4; of = None }); more = (record { comma = 0; import = (record { name = 6; of = Some (record { becomes = 0; name = 8 }) }) } ∷ []); semicolon = 0 }); decls = (S.decls None None None S.no_procedure); body = None; end_word = 0; end_name = 11; period = 0 } }

pub redeclared_25 : checked (redeclared_25_0 ∷ []) ≡ Fault 0 36 22
redeclared_25 = refl

-- MODULE M; IMPORT Out; VAR Out: INTEGER; END M.
abbrev redeclared_26_0 : Parsed
redeclared_26_0 = record { source = record { bytes = (77 ∷ 79 ∷ 68 ∷ 85 ∷ 76 ∷ 69 ∷ 32 ∷ 77 ∷ 59 ∷ 32 ∷ 73 ∷ 77 ∷ 80 ∷ 79 ∷ 82 ∷ 84 ∷ 32 ∷ 79 ∷ 117 ∷ 116 ∷ 59 ∷ 32 ∷ 86 ∷ 65 ∷ 82 ∷ 32 ∷ 79 ∷ 117 ∷ 116 ∷ 58 ∷ 32 ∷ 73 ∷ 78 ∷ 84 ∷ 69 ∷ 71 ∷ 69 ∷ 82 ∷ 59 ∷ 32 ∷ 69 ∷ 78 ∷ 68 ∷ 32 ∷ 77 ∷ 46 ∷ []); symbols = (symbol (Ident) 0 6 ∷ symbol (Ident) 7 8 ∷ symbol (Ident) 8 9 ∷ symbol (Ident) 10 16 ∷ symbol (Ident) 17 20 ∷ symbol (Ident) 20 21 ∷ symbol (Ident) 22 25 ∷ symbol (Ident) 26 29 ∷ symbol (Ident) 29 30 ∷ symbol (Ident) 31 38 ∷ symbol (Ident) 38 39 ∷ symbol (Ident) 40 43 ∷ symbol (Ident) 44 45 ∷ symbol (Ident) 45 46 ∷ []) }; tree = record { module_word = 0; name = 1; semicolon = 0; imports = Some (record { import_word = 0; first = (record { name = 4; of = None }); more = []; semicolon = 0 }); decls = (S.decls None None (Some (record { var_word = 0; each = (record { names = (record { first = (record { name = 7; star = None }); more = [] }); colon = 0; of = (S.Named (record { name = 9; member = None })); semicolon = 0 } ∷ []) })) S.no_procedure); body = None; end_word = 0; end_name = 12; period = 0 } }

pub redeclared_26 : checked (redeclared_26_0 ∷ []) ≡ Fault 0 36 26
redeclared_26 = refl

-- MODULE M; IMPORT A := Out, A := Nope; END M.
abbrev redeclared_27_0 : Parsed
redeclared_27_0 = record { source = record { bytes = (77 ∷ 79 ∷ 68 ∷ 85 ∷ 76 ∷ 69 ∷ 32 ∷ 77 ∷ 59 ∷ 32 ∷ 73 ∷ 77 ∷ 80 ∷ 79 ∷ 82 ∷ 84 ∷ 32 ∷ 65 ∷ 32 ∷ 58 ∷ 61 ∷ 32 ∷ 79 ∷ 117 ∷ 116 ∷ 44 ∷ 32 ∷ 65 ∷ 32 ∷ 58 ∷ 61 ∷ 32 ∷ 78 ∷ 111 ∷ 112 ∷ 101 ∷ 59 ∷ 32 ∷ 69 ∷ 78 ∷ 68 ∷ 32 ∷ 77 ∷ 46 ∷ []); symbols = (symbol (Ident) 0 6 ∷ symbol (Ident) 7 8 ∷ symbol (Ident) 8 9 ∷ symbol (Ident) 10 16 ∷ symbol (Ident) 17 18 ∷ symbol (Ident) 19 21 ∷ symbol (Ident) 22 25 ∷ symbol (Ident) 25 26 ∷ symbol (Ident) 27 28 ∷ symbol (Ident) 29 31 ∷ symbol (Ident) 32 36 ∷ symbol (Ident) 36 37 ∷ symbol (Ident) 38 41 ∷ symbol (Ident) 42 43 ∷ symbol (Ident) 43 44 ∷ []) }; tree = record { module_word = 0; name = 1; semicolon = 0; imports = Some (record { import_word = 0; first = (record { name = 4; of = Some (record { becomes = 0; name = 6 }) }); more = (record { comma = 0; import = (record { name = 8; of = Some (record { becomes = 0; name = 10 }) }) } ∷ []); semicolon = 0 }); decls = (S.decls None None None S.no_procedure); body = None; end_word = 0; end_name = 13; period = 0 } }

pub redeclared_27 : checked (redeclared_27_0 ∷ []) ≡ Fault 0 36 27
redeclared_27 = refl

-- MODULE M; IMPORT A := Out, B := Out; BEGIN A.Ln; B.Ln END M.
abbrev redeclared_28_0 : Parsed
redeclared_28_0 = record { source = record { bytes = (77 ∷ 79 ∷ 68 ∷ 85 ∷ 76 ∷ 69 ∷ 32 ∷ 77 ∷ 59 ∷ 32 ∷ 73 ∷ 77 ∷ 80 ∷ 79 ∷ 82 ∷ 84 ∷ 32 ∷ 65 ∷ 32 ∷ 58 ∷ 61 ∷ 32 ∷ 79 ∷ 117 ∷ 116 ∷ 44 ∷ 32 ∷ 66 ∷ 32 ∷ 58 ∷ 61 ∷ 32 ∷ 79 ∷ 117 ∷ 116 ∷ 59 ∷ 32 ∷ 66 ∷ 69 ∷ 71 ∷ 73 ∷ 78 ∷ 32 ∷ 65 ∷ 46 ∷ 76 ∷ 110 ∷ 59 ∷ 32 ∷ 66 ∷ 46 ∷ 76 ∷ 110 ∷ 32 ∷ 69 ∷ 78 ∷ 68 ∷ 32 ∷ 77 ∷ 46 ∷ []); symbols = (symbol (Ident) 0 6 ∷ symbol (Ident) 7 8 ∷ symbol (Ident) 8 9 ∷ symbol (Ident) 10 16 ∷ symbol (Ident) 17 18 ∷ symbol (Ident) 19 21 ∷ symbol (Ident) 22 25 ∷ symbol (Ident) 25 26 ∷ symbol (Ident) 27 28 ∷ symbol (Ident) 29 31 ∷ symbol (Ident) 32 35 ∷ symbol (Ident) 35 36 ∷ symbol (Ident) 37 42 ∷ symbol (Ident) 43 44 ∷ symbol (Ident) 44 45 ∷ symbol (Ident) 45 47 ∷ symbol (Ident) 47 48 ∷ symbol (Ident) 49 50 ∷ symbol (Ident) 50 51 ∷ symbol (Ident) 51 53 ∷ symbol (Ident) 54 57 ∷ symbol (Ident) 58 59 ∷ symbol (Ident) 59 60 ∷ []) }; tree = record { module_word = 0; name = 1; semicolon = 0; imports = Some (record { import_word = 0; first = (record { name = 4; of = Some (record { becomes = 0; name = 6 }) }); more = (record { comma = 0; import = (record { name = 8; of = Some (record { becomes = 0; name = 10 }) }) } ∷ []); semicolon = 0 }); decls = (S.decls None None None S.no_procedure); body = (Some (record { begin_word = 0; stats = (S.stats (S.AssignOrCall (record { name = 13; selectors = (S.selected (S.Field 0 15) S.no_selector) }) None) (S.next_stat 0 (S.AssignOrCall (record { name = 17; selectors = (S.selected (S.Field 0 19) S.no_selector) }) None) S.no_stat)) })); end_word = 0; end_name = 21; period = 0 } }

pub redeclared_28 : checked (redeclared_28_0 ∷ []) ≡ Legal (record { records = []; pointers = []; modules = (record { name = (77 ∷ []); objects = []; variables = []; body = 0 } ∷ []); procedures = (record { module_number = 0; line = 1; is_body = true; formals = []; result = H.Nothing; locals = []; texts = []; body = (I.next_statement I.OutLn (I.next_statement I.OutLn I.no_statement)); answer = None } ∷ []); imports_in = false })
redeclared_28 = refl

-- MODULE M; IMPORT M := Out; BEGIN M.Ln END M.
abbrev redeclared_29_0 : Parsed
redeclared_29_0 = record { source = record { bytes = (77 ∷ 79 ∷ 68 ∷ 85 ∷ 76 ∷ 69 ∷ 32 ∷ 77 ∷ 59 ∷ 32 ∷ 73 ∷ 77 ∷ 80 ∷ 79 ∷ 82 ∷ 84 ∷ 32 ∷ 77 ∷ 32 ∷ 58 ∷ 61 ∷ 32 ∷ 79 ∷ 117 ∷ 116 ∷ 59 ∷ 32 ∷ 66 ∷ 69 ∷ 71 ∷ 73 ∷ 78 ∷ 32 ∷ 77 ∷ 46 ∷ 76 ∷ 110 ∷ 32 ∷ 69 ∷ 78 ∷ 68 ∷ 32 ∷ 77 ∷ 46 ∷ []); symbols = (symbol (Ident) 0 6 ∷ symbol (Ident) 7 8 ∷ symbol (Ident) 8 9 ∷ symbol (Ident) 10 16 ∷ symbol (Ident) 17 18 ∷ symbol (Ident) 19 21 ∷ symbol (Ident) 22 25 ∷ symbol (Ident) 25 26 ∷ symbol (Ident) 27 32 ∷ symbol (Ident) 33 34 ∷ symbol (Ident) 34 35 ∷ symbol (Ident) 35 37 ∷ symbol (Ident) 38 41 ∷ symbol (Ident) 42 43 ∷ symbol (Ident) 43 44 ∷ []) }; tree = record { module_word = 0; name = 1; semicolon = 0; imports = Some (record { import_word = 0; first = (record { name = 4; of = Some (record { becomes = 0; name = 6 }) }); more = []; semicolon = 0 }); decls = (S.decls None None None S.no_procedure); body = (Some (record { begin_word = 0; stats = (S.stats (S.AssignOrCall (record { name = 9; selectors = (S.selected (S.Field 0 11) S.no_selector) }) None) S.no_stat) })); end_word = 0; end_name = 13; period = 0 } }

pub redeclared_29 : checked (redeclared_29_0 ∷ []) ≡ Legal (record { records = []; pointers = []; modules = (record { name = (77 ∷ []); objects = []; variables = []; body = 0 } ∷ []); procedures = (record { module_number = 0; line = 1; is_body = true; formals = []; result = H.Nothing; locals = []; texts = []; body = (I.next_statement I.OutLn I.no_statement); answer = None } ∷ []); imports_in = false })
redeclared_29 = refl

-- MODULE M; PROCEDURE P; END Q; END M.
abbrev end_name_1_0 : Parsed
end_name_1_0 = record { source = record { bytes = (77 ∷ 79 ∷ 68 ∷ 85 ∷ 76 ∷ 69 ∷ 32 ∷ 77 ∷ 59 ∷ 32 ∷ 80 ∷ 82 ∷ 79 ∷ 67 ∷ 69 ∷ 68 ∷ 85 ∷ 82 ∷ 69 ∷ 32 ∷ 80 ∷ 59 ∷ 32 ∷ 69 ∷ 78 ∷ 68 ∷ 32 ∷ 81 ∷ 59 ∷ 32 ∷ 69 ∷ 78 ∷ 68 ∷ 32 ∷ 77 ∷ 46 ∷ []); symbols = (symbol (Ident) 0 6 ∷ symbol (Ident) 7 8 ∷ symbol (Ident) 8 9 ∷ symbol (Ident) 10 19 ∷ symbol (Ident) 20 21 ∷ symbol (Ident) 21 22 ∷ symbol (Ident) 23 26 ∷ symbol (Ident) 27 28 ∷ symbol (Ident) 28 29 ∷ symbol (Ident) 30 33 ∷ symbol (Ident) 34 35 ∷ symbol (Ident) 35 36 ∷ []) }; tree = record { module_word = 0; name = 1; semicolon = 0; imports = None; decls = (S.decls None None None (S.procedure 0 (record { name = 4; star = None }) None 0 (S.decls None None None S.no_procedure) None None 6 7 0 S.no_procedure)); body = None; end_word = 0; end_name = 10; period = 0 } }

pub end_name_1 : checked (end_name_1_0 ∷ []) ≡ Fault 0 37 27
end_name_1 = refl

-- MODULE M; PROCEDURE P; PROCEDURE Q; END P; END P; END M.
abbrev end_name_2_0 : Parsed
end_name_2_0 = record { source = record { bytes = (77 ∷ 79 ∷ 68 ∷ 85 ∷ 76 ∷ 69 ∷ 32 ∷ 77 ∷ 59 ∷ 32 ∷ 80 ∷ 82 ∷ 79 ∷ 67 ∷ 69 ∷ 68 ∷ 85 ∷ 82 ∷ 69 ∷ 32 ∷ 80 ∷ 59 ∷ 32 ∷ 80 ∷ 82 ∷ 79 ∷ 67 ∷ 69 ∷ 68 ∷ 85 ∷ 82 ∷ 69 ∷ 32 ∷ 81 ∷ 59 ∷ 32 ∷ 69 ∷ 78 ∷ 68 ∷ 32 ∷ 80 ∷ 59 ∷ 32 ∷ 69 ∷ 78 ∷ 68 ∷ 32 ∷ 80 ∷ 59 ∷ 32 ∷ 69 ∷ 78 ∷ 68 ∷ 32 ∷ 77 ∷ 46 ∷ []); symbols = (symbol (Ident) 0 6 ∷ symbol (Ident) 7 8 ∷ symbol (Ident) 8 9 ∷ symbol (Ident) 10 19 ∷ symbol (Ident) 20 21 ∷ symbol (Ident) 21 22 ∷ symbol (Ident) 23 32 ∷ symbol (Ident) 33 34 ∷ symbol (Ident) 34 35 ∷ symbol (Ident) 36 39 ∷ symbol (Ident) 40 41 ∷ symbol (Ident) 41 42 ∷ symbol (Ident) 43 46 ∷ symbol (Ident) 47 48 ∷ symbol (Ident) 48 49 ∷ symbol (Ident) 50 53 ∷ symbol (Ident) 54 55 ∷ symbol (Ident) 55 56 ∷ []) }; tree = record { module_word = 0; name = 1; semicolon = 0; imports = None; decls = (S.decls None None None (S.procedure 0 (record { name = 4; star = None }) None 0 (S.decls None None None (S.procedure 0 (record { name = 7; star = None }) None 0 (S.decls None None None S.no_procedure) None None 9 10 0 S.no_procedure)) None None 12 13 0 S.no_procedure)); body = None; end_word = 0; end_name = 16; period = 0 } }

pub end_name_2 : checked (end_name_2_0 ∷ []) ≡ Fault 0 37 40
end_name_2 = refl

-- MODULE M; PROCEDURE P(): INTEGER; RETURN 1 END p; END M.
abbrev end_name_3_0 : Parsed
end_name_3_0 = record { source = record { bytes = (77 ∷ 79 ∷ 68 ∷ 85 ∷ 76 ∷ 69 ∷ 32 ∷ 77 ∷ 59 ∷ 32 ∷ 80 ∷ 82 ∷ 79 ∷ 67 ∷ 69 ∷ 68 ∷ 85 ∷ 82 ∷ 69 ∷ 32 ∷ 80 ∷ 40 ∷ 41 ∷ 58 ∷ 32 ∷ 73 ∷ 78 ∷ 84 ∷ 69 ∷ 71 ∷ 69 ∷ 82 ∷ 59 ∷ 32 ∷ 82 ∷ 69 ∷ 84 ∷ 85 ∷ 82 ∷ 78 ∷ 32 ∷ 49 ∷ 32 ∷ 69 ∷ 78 ∷ 68 ∷ 32 ∷ 112 ∷ 59 ∷ 32 ∷ 69 ∷ 78 ∷ 68 ∷ 32 ∷ 77 ∷ 46 ∷ []); symbols = (symbol (Ident) 0 6 ∷ symbol (Ident) 7 8 ∷ symbol (Ident) 8 9 ∷ symbol (Ident) 10 19 ∷ symbol (Ident) 20 21 ∷ symbol (Ident) 21 22 ∷ symbol (Ident) 22 23 ∷ symbol (Ident) 23 24 ∷ symbol (Ident) 25 32 ∷ symbol (Ident) 32 33 ∷ symbol (Ident) 34 40 ∷ symbol (Int (pos 1)) 41 42 ∷ symbol (Ident) 43 46 ∷ symbol (Ident) 47 48 ∷ symbol (Ident) 48 49 ∷ symbol (Ident) 50 53 ∷ symbol (Ident) 54 55 ∷ symbol (Ident) 55 56 ∷ []) }; tree = record { module_word = 0; name = 1; semicolon = 0; imports = None; decls = (S.decls None None None (S.procedure 0 (record { name = 4; star = None }) (Some (record { left_paren = 0; sections = None; right_paren = 0; result = Some (record { colon = 0; name = (record { name = 8; member = None }) }) })) 0 (S.decls None None None S.no_procedure) None (Some (record { return_word = 10; value = (S.only (S.simple None (S.term (S.Int 11) S.no_factor) S.no_term)) })) 12 13 0 S.no_procedure)); body = None; end_word = 0; end_name = 16; period = 0 } }

pub end_name_3 : checked (end_name_3_0 ∷ []) ≡ Fault 0 37 47
end_name_3 = refl

-- MODULE M; END N.
abbrev end_name_4_0 : Parsed
end_name_4_0 = record { source = record { bytes = (77 ∷ 79 ∷ 68 ∷ 85 ∷ 76 ∷ 69 ∷ 32 ∷ 77 ∷ 59 ∷ 32 ∷ 69 ∷ 78 ∷ 68 ∷ 32 ∷ 78 ∷ 46 ∷ []); symbols = (symbol (Ident) 0 6 ∷ symbol (Ident) 7 8 ∷ symbol (Ident) 8 9 ∷ symbol (Ident) 10 13 ∷ symbol (Ident) 14 15 ∷ symbol (Ident) 15 16 ∷ []) }; tree = record { module_word = 0; name = 1; semicolon = 0; imports = None; decls = (S.decls None None None S.no_procedure); body = None; end_word = 0; end_name = 4; period = 0 } }

pub end_name_4 : checked (end_name_4_0 ∷ []) ≡ Fault 0 37 14
end_name_4 = refl

-- MODULE M; VAR x: INTEGER; BEGIN x := 1 END m.
abbrev end_name_5_0 : Parsed
end_name_5_0 = record { source = record { bytes = (77 ∷ 79 ∷ 68 ∷ 85 ∷ 76 ∷ 69 ∷ 32 ∷ 77 ∷ 59 ∷ 32 ∷ 86 ∷ 65 ∷ 82 ∷ 32 ∷ 120 ∷ 58 ∷ 32 ∷ 73 ∷ 78 ∷ 84 ∷ 69 ∷ 71 ∷ 69 ∷ 82 ∷ 59 ∷ 32 ∷ 66 ∷ 69 ∷ 71 ∷ 73 ∷ 78 ∷ 32 ∷ 120 ∷ 32 ∷ 58 ∷ 61 ∷ 32 ∷ 49 ∷ 32 ∷ 69 ∷ 78 ∷ 68 ∷ 32 ∷ 109 ∷ 46 ∷ []); symbols = (symbol (Ident) 0 6 ∷ symbol (Ident) 7 8 ∷ symbol (Ident) 8 9 ∷ symbol (Ident) 10 13 ∷ symbol (Ident) 14 15 ∷ symbol (Ident) 15 16 ∷ symbol (Ident) 17 24 ∷ symbol (Ident) 24 25 ∷ symbol (Ident) 26 31 ∷ symbol (Ident) 32 33 ∷ symbol (Ident) 34 36 ∷ symbol (Int (pos 1)) 37 38 ∷ symbol (Ident) 39 42 ∷ symbol (Ident) 43 44 ∷ symbol (Ident) 44 45 ∷ []) }; tree = record { module_word = 0; name = 1; semicolon = 0; imports = None; decls = (S.decls None None (Some (record { var_word = 0; each = (record { names = (record { first = (record { name = 4; star = None }); more = [] }); colon = 0; of = (S.Named (record { name = 6; member = None })); semicolon = 0 } ∷ []) })) S.no_procedure); body = (Some (record { begin_word = 0; stats = (S.stats (S.AssignOrCall (record { name = 9; selectors = S.no_selector }) (Some (record { becomes = 0; value = (S.only (S.simple None (S.term (S.Int 11) S.no_factor) S.no_term)) }))) S.no_stat) })); end_word = 0; end_name = 13; period = 0 } }

pub end_name_5 : checked (end_name_5_0 ∷ []) ≡ Fault 0 37 43
end_name_5 = refl

-- MODULE B; IMPORT A; END B.
abbrev import_order_1_0 : Parsed
import_order_1_0 = record { source = record { bytes = (77 ∷ 79 ∷ 68 ∷ 85 ∷ 76 ∷ 69 ∷ 32 ∷ 66 ∷ 59 ∷ 32 ∷ 73 ∷ 77 ∷ 80 ∷ 79 ∷ 82 ∷ 84 ∷ 32 ∷ 65 ∷ 59 ∷ 32 ∷ 69 ∷ 78 ∷ 68 ∷ 32 ∷ 66 ∷ 46 ∷ []); symbols = (symbol (Ident) 0 6 ∷ symbol (Ident) 7 8 ∷ symbol (Ident) 8 9 ∷ symbol (Ident) 10 16 ∷ symbol (Ident) 17 18 ∷ symbol (Ident) 18 19 ∷ symbol (Ident) 20 23 ∷ symbol (Ident) 24 25 ∷ symbol (Ident) 25 26 ∷ []) }; tree = record { module_word = 0; name = 1; semicolon = 0; imports = Some (record { import_word = 0; first = (record { name = 4; of = None }); more = []; semicolon = 0 }); decls = (S.decls None None None S.no_procedure); body = None; end_word = 0; end_name = 7; period = 0 } }

pub import_order_1 : checked (import_order_1_0 ∷ []) ≡ Fault 0 38 17
import_order_1 = refl

-- MODULE B; IMPORT B; END B.
abbrev import_order_2_0 : Parsed
import_order_2_0 = record { source = record { bytes = (77 ∷ 79 ∷ 68 ∷ 85 ∷ 76 ∷ 69 ∷ 32 ∷ 66 ∷ 59 ∷ 32 ∷ 73 ∷ 77 ∷ 80 ∷ 79 ∷ 82 ∷ 84 ∷ 32 ∷ 66 ∷ 59 ∷ 32 ∷ 69 ∷ 78 ∷ 68 ∷ 32 ∷ 66 ∷ 46 ∷ []); symbols = (symbol (Ident) 0 6 ∷ symbol (Ident) 7 8 ∷ symbol (Ident) 8 9 ∷ symbol (Ident) 10 16 ∷ symbol (Ident) 17 18 ∷ symbol (Ident) 18 19 ∷ symbol (Ident) 20 23 ∷ symbol (Ident) 24 25 ∷ symbol (Ident) 25 26 ∷ []) }; tree = record { module_word = 0; name = 1; semicolon = 0; imports = Some (record { import_word = 0; first = (record { name = 4; of = None }); more = []; semicolon = 0 }); decls = (S.decls None None None S.no_procedure); body = None; end_word = 0; end_name = 7; period = 0 } }

pub import_order_2 : checked (import_order_2_0 ∷ []) ≡ Fault 0 38 17
import_order_2 = refl

-- MODULE B; IMPORT Out, A := C; END B.
abbrev import_order_3_0 : Parsed
import_order_3_0 = record { source = record { bytes = (77 ∷ 79 ∷ 68 ∷ 85 ∷ 76 ∷ 69 ∷ 32 ∷ 66 ∷ 59 ∷ 32 ∷ 73 ∷ 77 ∷ 80 ∷ 79 ∷ 82 ∷ 84 ∷ 32 ∷ 79 ∷ 117 ∷ 116 ∷ 44 ∷ 32 ∷ 65 ∷ 32 ∷ 58 ∷ 61 ∷ 32 ∷ 67 ∷ 59 ∷ 32 ∷ 69 ∷ 78 ∷ 68 ∷ 32 ∷ 66 ∷ 46 ∷ []); symbols = (symbol (Ident) 0 6 ∷ symbol (Ident) 7 8 ∷ symbol (Ident) 8 9 ∷ symbol (Ident) 10 16 ∷ symbol (Ident) 17 20 ∷ symbol (Ident) 20 21 ∷ symbol (Ident) 22 23 ∷ symbol (Ident) 24 26 ∷ symbol (Ident) 27 28 ∷ symbol (Ident) 28 29 ∷ symbol (Ident) 30 33 ∷ symbol (Ident) 34 35 ∷ symbol (Ident) 35 36 ∷ []) }; tree = record { module_word = 0; name = 1; semicolon = 0; imports = Some (record { import_word = 0; first = (record { name = 4; of = None }); more = (record { comma = 0; import = (record { name = 6; of = Some (record { becomes = 0; name = 8 }) }) } ∷ []); semicolon = 0 }); decls = (S.decls None None None S.no_procedure); body = None; end_word = 0; end_name = 11; period = 0 } }

pub import_order_3 : checked (import_order_3_0 ∷ []) ≡ Fault 0 38 27
import_order_3 = refl

-- MODULE A; END A.
abbrev import_order_4_0 : Parsed
import_order_4_0 = record { source = record { bytes = (77 ∷ 79 ∷ 68 ∷ 85 ∷ 76 ∷ 69 ∷ 32 ∷ 65 ∷ 59 ∷ 32 ∷ 69 ∷ 78 ∷ 68 ∷ 32 ∷ 65 ∷ 46 ∷ 10 ∷ []); symbols = (symbol (Ident) 0 6 ∷ symbol (Ident) 7 8 ∷ symbol (Ident) 8 9 ∷ symbol (Ident) 10 13 ∷ symbol (Ident) 14 15 ∷ symbol (Ident) 15 16 ∷ []) }; tree = record { module_word = 0; name = 1; semicolon = 0; imports = None; decls = (S.decls None None None S.no_procedure); body = None; end_word = 0; end_name = 4; period = 0 } }

-- MODULE B; IMPORT A, C; END B.
abbrev import_order_4_1 : Parsed
import_order_4_1 = record { source = record { bytes = (77 ∷ 79 ∷ 68 ∷ 85 ∷ 76 ∷ 69 ∷ 32 ∷ 66 ∷ 59 ∷ 32 ∷ 73 ∷ 77 ∷ 80 ∷ 79 ∷ 82 ∷ 84 ∷ 32 ∷ 65 ∷ 44 ∷ 32 ∷ 67 ∷ 59 ∷ 32 ∷ 69 ∷ 78 ∷ 68 ∷ 32 ∷ 66 ∷ 46 ∷ []); symbols = (symbol (Ident) 0 6 ∷ symbol (Ident) 7 8 ∷ symbol (Ident) 8 9 ∷ symbol (Ident) 10 16 ∷ symbol (Ident) 17 18 ∷ symbol (Ident) 18 19 ∷ symbol (Ident) 20 21 ∷ symbol (Ident) 21 22 ∷ symbol (Ident) 23 26 ∷ symbol (Ident) 27 28 ∷ symbol (Ident) 28 29 ∷ []) }; tree = record { module_word = 0; name = 1; semicolon = 0; imports = Some (record { import_word = 0; first = (record { name = 4; of = None }); more = (record { comma = 0; import = (record { name = 6; of = None }) } ∷ []); semicolon = 0 }); decls = (S.decls None None None S.no_procedure); body = None; end_word = 0; end_name = 9; period = 0 } }

pub import_order_4 : checked (import_order_4_0 ∷ import_order_4_1 ∷ []) ≡ Fault 1 38 20
import_order_4 = refl

-- MODULE A; IMPORT B; END A.
abbrev import_order_5_0 : Parsed
import_order_5_0 = record { source = record { bytes = (77 ∷ 79 ∷ 68 ∷ 85 ∷ 76 ∷ 69 ∷ 32 ∷ 65 ∷ 59 ∷ 32 ∷ 73 ∷ 77 ∷ 80 ∷ 79 ∷ 82 ∷ 84 ∷ 32 ∷ 66 ∷ 59 ∷ 32 ∷ 69 ∷ 78 ∷ 68 ∷ 32 ∷ 65 ∷ 46 ∷ 10 ∷ []); symbols = (symbol (Ident) 0 6 ∷ symbol (Ident) 7 8 ∷ symbol (Ident) 8 9 ∷ symbol (Ident) 10 16 ∷ symbol (Ident) 17 18 ∷ symbol (Ident) 18 19 ∷ symbol (Ident) 20 23 ∷ symbol (Ident) 24 25 ∷ symbol (Ident) 25 26 ∷ []) }; tree = record { module_word = 0; name = 1; semicolon = 0; imports = Some (record { import_word = 0; first = (record { name = 4; of = None }); more = []; semicolon = 0 }); decls = (S.decls None None None S.no_procedure); body = None; end_word = 0; end_name = 7; period = 0 } }

pub import_order_5 : checked (import_order_5_0 ∷ []) ≡ Fault 0 38 17
import_order_5 = refl

-- MODULE A; IMPORT Out; END A.
abbrev import_order_6_0 : Parsed
import_order_6_0 = record { source = record { bytes = (77 ∷ 79 ∷ 68 ∷ 85 ∷ 76 ∷ 69 ∷ 32 ∷ 65 ∷ 59 ∷ 32 ∷ 73 ∷ 77 ∷ 80 ∷ 79 ∷ 82 ∷ 84 ∷ 32 ∷ 79 ∷ 117 ∷ 116 ∷ 59 ∷ 32 ∷ 69 ∷ 78 ∷ 68 ∷ 32 ∷ 65 ∷ 46 ∷ 10 ∷ []); symbols = (symbol (Ident) 0 6 ∷ symbol (Ident) 7 8 ∷ symbol (Ident) 8 9 ∷ symbol (Ident) 10 16 ∷ symbol (Ident) 17 20 ∷ symbol (Ident) 20 21 ∷ symbol (Ident) 22 25 ∷ symbol (Ident) 26 27 ∷ symbol (Ident) 27 28 ∷ []) }; tree = record { module_word = 0; name = 1; semicolon = 0; imports = Some (record { import_word = 0; first = (record { name = 4; of = None }); more = []; semicolon = 0 }); decls = (S.decls None None None S.no_procedure); body = None; end_word = 0; end_name = 7; period = 0 } }

-- MODULE B; IMPORT A; BEGIN A.Out.Ln END B.
abbrev import_order_6_1 : Parsed
import_order_6_1 = record { source = record { bytes = (77 ∷ 79 ∷ 68 ∷ 85 ∷ 76 ∷ 69 ∷ 32 ∷ 66 ∷ 59 ∷ 32 ∷ 73 ∷ 77 ∷ 80 ∷ 79 ∷ 82 ∷ 84 ∷ 32 ∷ 65 ∷ 59 ∷ 32 ∷ 66 ∷ 69 ∷ 71 ∷ 73 ∷ 78 ∷ 32 ∷ 65 ∷ 46 ∷ 79 ∷ 117 ∷ 116 ∷ 46 ∷ 76 ∷ 110 ∷ 32 ∷ 69 ∷ 78 ∷ 68 ∷ 32 ∷ 66 ∷ 46 ∷ []); symbols = (symbol (Ident) 0 6 ∷ symbol (Ident) 7 8 ∷ symbol (Ident) 8 9 ∷ symbol (Ident) 10 16 ∷ symbol (Ident) 17 18 ∷ symbol (Ident) 18 19 ∷ symbol (Ident) 20 25 ∷ symbol (Ident) 26 27 ∷ symbol (Ident) 27 28 ∷ symbol (Ident) 28 31 ∷ symbol (Ident) 31 32 ∷ symbol (Ident) 32 34 ∷ symbol (Ident) 35 38 ∷ symbol (Ident) 39 40 ∷ symbol (Ident) 40 41 ∷ []) }; tree = record { module_word = 0; name = 1; semicolon = 0; imports = Some (record { import_word = 0; first = (record { name = 4; of = None }); more = []; semicolon = 0 }); decls = (S.decls None None None S.no_procedure); body = (Some (record { begin_word = 0; stats = (S.stats (S.AssignOrCall (record { name = 7; selectors = (S.selected (S.Field 0 9) (S.selected (S.Field 0 11) S.no_selector)) }) None) S.no_stat) })); end_word = 0; end_name = 13; period = 0 } }

pub import_order_6 : checked (import_order_6_0 ∷ import_order_6_1 ∷ []) ≡ Fault 1 30 28
import_order_6 = refl

-- MODULE A; CONST c* = 3; d = 4; TYPE R* = RECORD x*: INTEGER; h: INTEGER END; P* = POINTER TO R; H = RECORD END; VAR v*: INTEGER; r*: R; p*: P; a*: ARRAY 2 OF INTEGER; w: INTEGER; f*: PROCEDURE; PROCEDURE N*; END N; PROCEDURE L; END L; END A.
abbrev import_order_7_0 : Parsed
import_order_7_0 = record { source = record { bytes = (77 ∷ 79 ∷ 68 ∷ 85 ∷ 76 ∷ 69 ∷ 32 ∷ 65 ∷ 59 ∷ 32 ∷ 67 ∷ 79 ∷ 78 ∷ 83 ∷ 84 ∷ 32 ∷ 99 ∷ 42 ∷ 32 ∷ 61 ∷ 32 ∷ 51 ∷ 59 ∷ 32 ∷ 100 ∷ 32 ∷ 61 ∷ 32 ∷ 52 ∷ 59 ∷ 32 ∷ 84 ∷ 89 ∷ 80 ∷ 69 ∷ 32 ∷ 82 ∷ 42 ∷ 32 ∷ 61 ∷ 32 ∷ 82 ∷ 69 ∷ 67 ∷ 79 ∷ 82 ∷ 68 ∷ 32 ∷ 120 ∷ 42 ∷ 58 ∷ 32 ∷ 73 ∷ 78 ∷ 84 ∷ 69 ∷ 71 ∷ 69 ∷ 82 ∷ 59 ∷ 32 ∷ 104 ∷ 58 ∷ 32 ∷ 73 ∷ 78 ∷ 84 ∷ 69 ∷ 71 ∷ 69 ∷ 82 ∷ 32 ∷ 69 ∷ 78 ∷ 68 ∷ 59 ∷ 32 ∷ 80 ∷ 42 ∷ 32 ∷ 61 ∷ 32 ∷ 80 ∷ 79 ∷ 73 ∷ 78 ∷ 84 ∷ 69 ∷ 82 ∷ 32 ∷ 84 ∷ 79 ∷ 32 ∷ 82 ∷ 59 ∷ 32 ∷ 72 ∷ 32 ∷ 61 ∷ 32 ∷ 82 ∷ 69 ∷ 67 ∷ 79 ∷ 82 ∷ 68 ∷ 32 ∷ 69 ∷ 78 ∷ 68 ∷ 59 ∷ 32 ∷ 86 ∷ 65 ∷ 82 ∷ 32 ∷ 118 ∷ 42 ∷ 58 ∷ 32 ∷ 73 ∷ 78 ∷ 84 ∷ 69 ∷ 71 ∷ 69 ∷ 82 ∷ 59 ∷ 32 ∷ 114 ∷ 42 ∷ 58 ∷ 32 ∷ 82 ∷ 59 ∷ 32 ∷ 112 ∷ 42 ∷ 58 ∷ 32 ∷ 80 ∷ 59 ∷ 32 ∷ 97 ∷ 42 ∷ 58 ∷ 32 ∷ 65 ∷ 82 ∷ 82 ∷ 65 ∷ 89 ∷ 32 ∷ 50 ∷ 32 ∷ 79 ∷ 70 ∷ 32 ∷ 73 ∷ 78 ∷ 84 ∷ 69 ∷ 71 ∷ 69 ∷ 82 ∷ 59 ∷ 32 ∷ 119 ∷ 58 ∷ 32 ∷ 73 ∷ 78 ∷ 84 ∷ 69 ∷ 71 ∷ 69 ∷ 82 ∷ 59 ∷ 32 ∷ 102 ∷ 42 ∷ 58 ∷ 32 ∷ 80 ∷ 82 ∷ 79 ∷ 67 ∷ 69 ∷ 68 ∷ 85 ∷ 82 ∷ 69 ∷ 59 ∷ 32 ∷ 80 ∷ 82 ∷ 79 ∷ 67 ∷ 69 ∷ 68 ∷ 85 ∷ 82 ∷ 69 ∷ 32 ∷ 78 ∷ 42 ∷ 59 ∷ 32 ∷ 69 ∷ 78 ∷ 68 ∷ 32 ∷ 78 ∷ 59 ∷ 32 ∷ 80 ∷ 82 ∷ 79 ∷ 67 ∷ 69 ∷ 68 ∷ 85 ∷ 82 ∷ 69 ∷ 32 ∷ 76 ∷ 59 ∷ 32 ∷ 69 ∷ 78 ∷ 68 ∷ 32 ∷ 76 ∷ 59 ∷ 32 ∷ 69 ∷ 78 ∷ 68 ∷ 32 ∷ 65 ∷ 46 ∷ 10 ∷ []); symbols = (symbol (Ident) 0 6 ∷ symbol (Ident) 7 8 ∷ symbol (Ident) 8 9 ∷ symbol (Ident) 10 15 ∷ symbol (Ident) 16 17 ∷ symbol (Ident) 17 18 ∷ symbol (Ident) 19 20 ∷ symbol (Int (pos 3)) 21 22 ∷ symbol (Ident) 22 23 ∷ symbol (Ident) 24 25 ∷ symbol (Ident) 26 27 ∷ symbol (Int (pos 4)) 28 29 ∷ symbol (Ident) 29 30 ∷ symbol (Ident) 31 35 ∷ symbol (Ident) 36 37 ∷ symbol (Ident) 37 38 ∷ symbol (Ident) 39 40 ∷ symbol (Ident) 41 47 ∷ symbol (Ident) 48 49 ∷ symbol (Ident) 49 50 ∷ symbol (Ident) 50 51 ∷ symbol (Ident) 52 59 ∷ symbol (Ident) 59 60 ∷ symbol (Ident) 61 62 ∷ symbol (Ident) 62 63 ∷ symbol (Ident) 64 71 ∷ symbol (Ident) 72 75 ∷ symbol (Ident) 75 76 ∷ symbol (Ident) 77 78 ∷ symbol (Ident) 78 79 ∷ symbol (Ident) 80 81 ∷ symbol (Ident) 82 89 ∷ symbol (Ident) 90 92 ∷ symbol (Ident) 93 94 ∷ symbol (Ident) 94 95 ∷ symbol (Ident) 96 97 ∷ symbol (Ident) 98 99 ∷ symbol (Ident) 100 106 ∷ symbol (Ident) 107 110 ∷ symbol (Ident) 110 111 ∷ symbol (Ident) 112 115 ∷ symbol (Ident) 116 117 ∷ symbol (Ident) 117 118 ∷ symbol (Ident) 118 119 ∷ symbol (Ident) 120 127 ∷ symbol (Ident) 127 128 ∷ symbol (Ident) 129 130 ∷ symbol (Ident) 130 131 ∷ symbol (Ident) 131 132 ∷ symbol (Ident) 133 134 ∷ symbol (Ident) 134 135 ∷ symbol (Ident) 136 137 ∷ symbol (Ident) 137 138 ∷ symbol (Ident) 138 139 ∷ symbol (Ident) 140 141 ∷ symbol (Ident) 141 142 ∷ symbol (Ident) 143 144 ∷ symbol (Ident) 144 145 ∷ symbol (Ident) 145 146 ∷ symbol (Ident) 147 152 ∷ symbol (Int (pos 2)) 153 154 ∷ symbol (Ident) 155 157 ∷ symbol (Ident) 158 165 ∷ symbol (Ident) 165 166 ∷ symbol (Ident) 167 168 ∷ symbol (Ident) 168 169 ∷ symbol (Ident) 170 177 ∷ symbol (Ident) 177 178 ∷ symbol (Ident) 179 180 ∷ symbol (Ident) 180 181 ∷ symbol (Ident) 181 182 ∷ symbol (Ident) 183 192 ∷ symbol (Ident) 192 193 ∷ symbol (Ident) 194 203 ∷ symbol (Ident) 204 205 ∷ symbol (Ident) 205 206 ∷ symbol (Ident) 206 207 ∷ symbol (Ident) 208 211 ∷ symbol (Ident) 212 213 ∷ symbol (Ident) 213 214 ∷ symbol (Ident) 215 224 ∷ symbol (Ident) 225 226 ∷ symbol (Ident) 226 227 ∷ symbol (Ident) 228 231 ∷ symbol (Ident) 232 233 ∷ symbol (Ident) 233 234 ∷ symbol (Ident) 235 238 ∷ symbol (Ident) 239 240 ∷ symbol (Ident) 240 241 ∷ []) }; tree = record { module_word = 0; name = 1; semicolon = 0; imports = None; decls = (S.decls (Some (record { const_word = 0; each = (record { name = (record { name = 4; star = Some 0 }); equal = 0; value = (S.only (S.simple None (S.term (S.Int 7) S.no_factor) S.no_term)); semicolon = 0 } ∷ record { name = (record { name = 9; star = None }); equal = 0; value = (S.only (S.simple None (S.term (S.Int 11) S.no_factor) S.no_term)); semicolon = 0 } ∷ []) })) (Some (record { type_word = 0; each = (record { name = (record { name = 14; star = Some 0 }); equal = 0; is = (S.Record 17 None (S.fields (record { first = (record { name = 18; star = Some 0 }); more = [] }) 0 (S.Named (record { name = 21; member = None }))) (S.next_fields 0 (S.fields (record { first = (record { name = 23; star = None }); more = [] }) 0 (S.Named (record { name = 25; member = None }))) S.no_more_fields) 0); semicolon = 0 } ∷ record { name = (record { name = 28; star = Some 0 }); equal = 0; is = (S.Pointer 31 0 (S.Named (record { name = 33; member = None }))); semicolon = 0 } ∷ record { name = (record { name = 35; star = None }); equal = 0; is = (S.Record 37 None S.no_fields S.no_more_fields 0); semicolon = 0 } ∷ []) })) (Some (record { var_word = 0; each = (record { names = (record { first = (record { name = 41; star = Some 0 }); more = [] }); colon = 0; of = (S.Named (record { name = 44; member = None })); semicolon = 0 } ∷ record { names = (record { first = (record { name = 46; star = Some 0 }); more = [] }); colon = 0; of = (S.Named (record { name = 49; member = None })); semicolon = 0 } ∷ record { names = (record { first = (record { name = 51; star = Some 0 }); more = [] }); colon = 0; of = (S.Named (record { name = 54; member = None })); semicolon = 0 } ∷ record { names = (record { first = (record { name = 56; star = Some 0 }); more = [] }); colon = 0; of = (S.Array 59 (S.only (S.simple None (S.term (S.Int 60) S.no_factor) S.no_term)) S.no_expression 0 (S.Named (record { name = 62; member = None }))); semicolon = 0 } ∷ record { names = (record { first = (record { name = 64; star = None }); more = [] }); colon = 0; of = (S.Named (record { name = 66; member = None })); semicolon = 0 } ∷ record { names = (record { first = (record { name = 68; star = Some 0 }); more = [] }); colon = 0; of = (S.Procedure 71 None); semicolon = 0 } ∷ []) })) (S.procedure 0 (record { name = 74; star = Some 0 }) None 0 (S.decls None None None S.no_procedure) None None 77 78 0 (S.procedure 0 (record { name = 81; star = None }) None 0 (S.decls None None None S.no_procedure) None None 83 84 0 S.no_procedure))); body = None; end_word = 0; end_name = 87; period = 0 } }

-- MODULE B; IMPORT X := A; VAR i: INTEGER; BEGIN i := A.v END B.
abbrev import_order_7_1 : Parsed
import_order_7_1 = record { source = record { bytes = (77 ∷ 79 ∷ 68 ∷ 85 ∷ 76 ∷ 69 ∷ 32 ∷ 66 ∷ 59 ∷ 32 ∷ 73 ∷ 77 ∷ 80 ∷ 79 ∷ 82 ∷ 84 ∷ 32 ∷ 88 ∷ 32 ∷ 58 ∷ 61 ∷ 32 ∷ 65 ∷ 59 ∷ 32 ∷ 86 ∷ 65 ∷ 82 ∷ 32 ∷ 105 ∷ 58 ∷ 32 ∷ 73 ∷ 78 ∷ 84 ∷ 69 ∷ 71 ∷ 69 ∷ 82 ∷ 59 ∷ 32 ∷ 66 ∷ 69 ∷ 71 ∷ 73 ∷ 78 ∷ 32 ∷ 105 ∷ 32 ∷ 58 ∷ 61 ∷ 32 ∷ 65 ∷ 46 ∷ 118 ∷ 32 ∷ 69 ∷ 78 ∷ 68 ∷ 32 ∷ 66 ∷ 46 ∷ []); symbols = (symbol (Ident) 0 6 ∷ symbol (Ident) 7 8 ∷ symbol (Ident) 8 9 ∷ symbol (Ident) 10 16 ∷ symbol (Ident) 17 18 ∷ symbol (Ident) 19 21 ∷ symbol (Ident) 22 23 ∷ symbol (Ident) 23 24 ∷ symbol (Ident) 25 28 ∷ symbol (Ident) 29 30 ∷ symbol (Ident) 30 31 ∷ symbol (Ident) 32 39 ∷ symbol (Ident) 39 40 ∷ symbol (Ident) 41 46 ∷ symbol (Ident) 47 48 ∷ symbol (Ident) 49 51 ∷ symbol (Ident) 52 53 ∷ symbol (Ident) 53 54 ∷ symbol (Ident) 54 55 ∷ symbol (Ident) 56 59 ∷ symbol (Ident) 60 61 ∷ symbol (Ident) 61 62 ∷ []) }; tree = record { module_word = 0; name = 1; semicolon = 0; imports = Some (record { import_word = 0; first = (record { name = 4; of = Some (record { becomes = 0; name = 6 }) }); more = []; semicolon = 0 }); decls = (S.decls None None (Some (record { var_word = 0; each = (record { names = (record { first = (record { name = 9; star = None }); more = [] }); colon = 0; of = (S.Named (record { name = 11; member = None })); semicolon = 0 } ∷ []) })) S.no_procedure); body = (Some (record { begin_word = 0; stats = (S.stats (S.AssignOrCall (record { name = 14; selectors = S.no_selector }) (Some (record { becomes = 0; value = (S.only (S.simple None (S.term (S.Designated 16 (S.selected (S.Field 0 18) S.no_selector)) S.no_factor) S.no_term)) }))) S.no_stat) })); end_word = 0; end_name = 20; period = 0 } }

pub import_order_7 : checked (import_order_7_0 ∷ import_order_7_1 ∷ []) ≡ Fault 1 30 52
import_order_7 = refl
