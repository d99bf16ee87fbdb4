-- Small modules, and what the judgement says of them. Written by bench/judged_rows.py from their texts.
use Rattle.std.specs.Prelude.{◌≡◌, ℕ, [], ◌∷◌, true, false, Some, None, pos}
use Rattle.std.proofs.Common.{refl}
use Rattle.ob_symbol.specs.declared.symbol.Symbol.{Symbol}
use Rattle.ob_symbol.specs.declared.symbol.Kind.{Kind}
use Rattle.ob_symbol.specs.declared.symbol.Kind.TheVariants.{Int, Ident}
use Rattle.ob_symbol.specs.declared.symbol.Kind.TheVariants as TheKind
use Rattle.ob_syntax.specs.Syntax as S
use Rattle.ob_syntax.specs.declared.expressions.Relation.TheVariants as TheRelation
use Rattle.ob_syntax.specs.declared.expressions.Sign.TheVariants as TheSign
use Rattle.ob_syntax.specs.declared.expressions.AddOperator.TheVariants as TheAddOperator
use Rattle.ob_syntax.specs.declared.expressions.MulOperator.TheVariants as TheMulOperator
use Rattle.ob_judge.specs.Shapes as H
use Rattle.ob_judge.specs.Image as I
use Rattle.ob_judge.specs.Modules.{Parsed, Legal, Fault, checked}

abbrev symbol : Kind → ℕ → ℕ → Symbol
symbol kind from to = record { kind = kind; from = from; to = to }

-- MODULE M; VAR v: INTEGER; PROCEDURE P; CONST c = v; END P; END M.
abbrev not_constant_1_0 : Parsed
not_constant_1_0 = record { source = record { bytes = (77 ∷ 79 ∷ 68 ∷ 85 ∷ 76 ∷ 69 ∷ 32 ∷ 77 ∷ 59 ∷ 32 ∷ 86 ∷ 65 ∷ 82 ∷ 32 ∷ 118 ∷ 58 ∷ 32 ∷ 73 ∷ 78 ∷ 84 ∷ 69 ∷ 71 ∷ 69 ∷ 82 ∷ 59 ∷ 32 ∷ 80 ∷ 82 ∷ 79 ∷ 67 ∷ 69 ∷ 68 ∷ 85 ∷ 82 ∷ 69 ∷ 32 ∷ 80 ∷ 59 ∷ 32 ∷ 67 ∷ 79 ∷ 78 ∷ 83 ∷ 84 ∷ 32 ∷ 99 ∷ 32 ∷ 61 ∷ 32 ∷ 118 ∷ 59 ∷ 32 ∷ 69 ∷ 78 ∷ 68 ∷ 32 ∷ 80 ∷ 59 ∷ 32 ∷ 69 ∷ 78 ∷ 68 ∷ 32 ∷ 77 ∷ 46 ∷ []); symbols = (symbol (Ident) 0 6 ∷ symbol (Ident) 7 8 ∷ symbol (Ident) 8 9 ∷ symbol (Ident) 10 13 ∷ symbol (Ident) 14 15 ∷ symbol (Ident) 15 16 ∷ symbol (Ident) 17 24 ∷ symbol (Ident) 24 25 ∷ symbol (Ident) 26 35 ∷ symbol (Ident) 36 37 ∷ symbol (Ident) 37 38 ∷ symbol (Ident) 39 44 ∷ symbol (Ident) 45 46 ∷ symbol (Ident) 47 48 ∷ symbol (Ident) 49 50 ∷ symbol (Ident) 50 51 ∷ symbol (Ident) 52 55 ∷ symbol (Ident) 56 57 ∷ symbol (Ident) 57 58 ∷ symbol (Ident) 59 62 ∷ symbol (Ident) 63 64 ∷ symbol (Ident) 64 65 ∷ []) }; tree = record { module_word = 0; name = 1; semicolon = 0; imports = None; decls = (S.decls None None (Some (record { var_word = 0; each = (record { names = (record { first = (record { name = 4; star = None }); more = [] }); colon = 0; of = (S.Named (record { name = 6; member = None })); semicolon = 0 } ∷ []) })) (S.procedure 0 (record { name = 9; star = None }) None 0 (S.decls (Some (record { const_word = 0; each = (record { name = (record { name = 12; star = None }); equal = 0; value = (S.only (S.simple None (S.term (S.Designated 14 S.no_selector) S.no_factor) S.no_term)); semicolon = 0 } ∷ []) })) None None S.no_procedure) None None 16 17 0 S.no_procedure)); body = None; end_word = 0; end_name = 20; period = 0 } }

pub not_constant_1 : checked (not_constant_1_0 ∷ []) ≡ Fault 0 32 49
not_constant_1 = refl

-- MODULE M; VAR v: INTEGER; PROCEDURE P; CONST c = 1 + v; END P; END M.
abbrev not_constant_2_0 : Parsed
not_constant_2_0 = record { source = record { bytes = (77 ∷ 79 ∷ 68 ∷ 85 ∷ 76 ∷ 69 ∷ 32 ∷ 77 ∷ 59 ∷ 32 ∷ 86 ∷ 65 ∷ 82 ∷ 32 ∷ 118 ∷ 58 ∷ 32 ∷ 73 ∷ 78 ∷ 84 ∷ 69 ∷ 71 ∷ 69 ∷ 82 ∷ 59 ∷ 32 ∷ 80 ∷ 82 ∷ 79 ∷ 67 ∷ 69 ∷ 68 ∷ 85 ∷ 82 ∷ 69 ∷ 32 ∷ 80 ∷ 59 ∷ 32 ∷ 67 ∷ 79 ∷ 78 ∷ 83 ∷ 84 ∷ 32 ∷ 99 ∷ 32 ∷ 61 ∷ 32 ∷ 49 ∷ 32 ∷ 43 ∷ 32 ∷ 118 ∷ 59 ∷ 32 ∷ 69 ∷ 78 ∷ 68 ∷ 32 ∷ 80 ∷ 59 ∷ 32 ∷ 69 ∷ 78 ∷ 68 ∷ 32 ∷ 77 ∷ 46 ∷ []); symbols = (symbol (Ident) 0 6 ∷ symbol (Ident) 7 8 ∷ symbol (Ident) 8 9 ∷ symbol (Ident) 10 13 ∷ symbol (Ident) 14 15 ∷ symbol (Ident) 15 16 ∷ symbol (Ident) 17 24 ∷ symbol (Ident) 24 25 ∷ symbol (Ident) 26 35 ∷ symbol (Ident) 36 37 ∷ symbol (Ident) 37 38 ∷ symbol (Ident) 39 44 ∷ symbol (Ident) 45 46 ∷ symbol (Ident) 47 48 ∷ symbol (Int (pos 1)) 49 50 ∷ symbol (Ident) 51 52 ∷ symbol (Ident) 53 54 ∷ symbol (Ident) 54 55 ∷ symbol (Ident) 56 59 ∷ symbol (Ident) 60 61 ∷ symbol (Ident) 61 62 ∷ symbol (Ident) 63 66 ∷ symbol (Ident) 67 68 ∷ symbol (Ident) 68 69 ∷ []) }; tree = record { module_word = 0; name = 1; semicolon = 0; imports = None; decls = (S.decls None None (Some (record { var_word = 0; each = (record { names = (record { first = (record { name = 4; star = None }); more = [] }); colon = 0; of = (S.Named (record { name = 6; member = None })); semicolon = 0 } ∷ []) })) (S.procedure 0 (record { name = 9; star = None }) None 0 (S.decls (Some (record { const_word = 0; each = (record { name = (record { name = 12; star = None }); equal = 0; value = (S.only (S.simple None (S.term (S.Int 14) S.no_factor) (S.added (TheAddOperator.Plus 15) (S.term (S.Designated 16 S.no_selector) S.no_factor) S.no_term))); semicolon = 0 } ∷ []) })) None None S.no_procedure) None None 18 19 0 S.no_procedure)); body = None; end_word = 0; end_name = 22; period = 0 } }

pub not_constant_2 : checked (not_constant_2_0 ∷ []) ≡ Fault 0 32 53
not_constant_2 = refl

-- MODULE M; PROCEDURE F(): INTEGER; RETURN 1 END F; PROCEDURE P; CONST c = F(); END P; END M.
abbrev not_constant_3_0 : Parsed
not_constant_3_0 = record { source = record { bytes = (77 ∷ 79 ∷ 68 ∷ 85 ∷ 76 ∷ 69 ∷ 32 ∷ 77 ∷ 59 ∷ 32 ∷ 80 ∷ 82 ∷ 79 ∷ 67 ∷ 69 ∷ 68 ∷ 85 ∷ 82 ∷ 69 ∷ 32 ∷ 70 ∷ 40 ∷ 41 ∷ 58 ∷ 32 ∷ 73 ∷ 78 ∷ 84 ∷ 69 ∷ 71 ∷ 69 ∷ 82 ∷ 59 ∷ 32 ∷ 82 ∷ 69 ∷ 84 ∷ 85 ∷ 82 ∷ 78 ∷ 32 ∷ 49 ∷ 32 ∷ 69 ∷ 78 ∷ 68 ∷ 32 ∷ 70 ∷ 59 ∷ 32 ∷ 80 ∷ 82 ∷ 79 ∷ 67 ∷ 69 ∷ 68 ∷ 85 ∷ 82 ∷ 69 ∷ 32 ∷ 80 ∷ 59 ∷ 32 ∷ 67 ∷ 79 ∷ 78 ∷ 83 ∷ 84 ∷ 32 ∷ 99 ∷ 32 ∷ 61 ∷ 32 ∷ 70 ∷ 40 ∷ 41 ∷ 59 ∷ 32 ∷ 69 ∷ 78 ∷ 68 ∷ 32 ∷ 80 ∷ 59 ∷ 32 ∷ 69 ∷ 78 ∷ 68 ∷ 32 ∷ 77 ∷ 46 ∷ []); symbols = (symbol (Ident) 0 6 ∷ symbol (Ident) 7 8 ∷ symbol (Ident) 8 9 ∷ symbol (Ident) 10 19 ∷ symbol (Ident) 20 21 ∷ symbol (Ident) 21 22 ∷ symbol (Ident) 22 23 ∷ symbol (Ident) 23 24 ∷ symbol (Ident) 25 32 ∷ symbol (Ident) 32 33 ∷ symbol (Ident) 34 40 ∷ symbol (Int (pos 1)) 41 42 ∷ symbol (Ident) 43 46 ∷ symbol (Ident) 47 48 ∷ symbol (Ident) 48 49 ∷ symbol (Ident) 50 59 ∷ symbol (Ident) 60 61 ∷ symbol (Ident) 61 62 ∷ symbol (Ident) 63 68 ∷ symbol (Ident) 69 70 ∷ symbol (Ident) 71 72 ∷ symbol (Ident) 73 74 ∷ symbol (Ident) 74 75 ∷ symbol (Ident) 75 76 ∷ symbol (Ident) 76 77 ∷ symbol (Ident) 78 81 ∷ symbol (Ident) 82 83 ∷ symbol (Ident) 83 84 ∷ symbol (Ident) 85 88 ∷ symbol (Ident) 89 90 ∷ symbol (Ident) 90 91 ∷ []) }; tree = record { module_word = 0; name = 1; semicolon = 0; imports = None; decls = (S.decls None None None (S.procedure 0 (record { name = 4; star = None }) (Some (record { left_paren = 0; sections = None; right_paren = 0; result = Some (record { colon = 0; name = (record { name = 8; member = None }) }) })) 0 (S.decls None None None S.no_procedure) None (Some (record { return_word = 10; value = (S.only (S.simple None (S.term (S.Int 11) S.no_factor) S.no_term)) })) 12 13 0 (S.procedure 0 (record { name = 16; star = None }) None 0 (S.decls (Some (record { const_word = 0; each = (record { name = (record { name = 19; star = None }); equal = 0; value = (S.only (S.simple None (S.term (S.Designated 21 (S.selected (S.EmptyParens 0 0) S.no_selector)) S.no_factor) S.no_term)); semicolon = 0 } ∷ []) })) None None S.no_procedure) None None 25 26 0 S.no_procedure))); body = None; end_word = 0; end_name = 29; period = 0 } }

pub not_constant_3 : checked (not_constant_3_0 ∷ []) ≡ Fault 0 32 73
not_constant_3 = refl

-- MODULE M; PROCEDURE F(): INTEGER; RETURN 1 END F; PROCEDURE P; CONST c = F; END P; END M.
abbrev not_constant_4_0 : Parsed
not_constant_4_0 = record { source = record { bytes = (77 ∷ 79 ∷ 68 ∷ 85 ∷ 76 ∷ 69 ∷ 32 ∷ 77 ∷ 59 ∷ 32 ∷ 80 ∷ 82 ∷ 79 ∷ 67 ∷ 69 ∷ 68 ∷ 85 ∷ 82 ∷ 69 ∷ 32 ∷ 70 ∷ 40 ∷ 41 ∷ 58 ∷ 32 ∷ 73 ∷ 78 ∷ 84 ∷ 69 ∷ 71 ∷ 69 ∷ 82 ∷ 59 ∷ 32 ∷ 82 ∷ 69 ∷ 84 ∷ 85 ∷ 82 ∷ 78 ∷ 32 ∷ 49 ∷ 32 ∷ 69 ∷ 78 ∷ 68 ∷ 32 ∷ 70 ∷ 59 ∷ 32 ∷ 80 ∷ 82 ∷ 79 ∷ 67 ∷ 69 ∷ 68 ∷ 85 ∷ 82 ∷ 69 ∷ 32 ∷ 80 ∷ 59 ∷ 32 ∷ 67 ∷ 79 ∷ 78 ∷ 83 ∷ 84 ∷ 32 ∷ 99 ∷ 32 ∷ 61 ∷ 32 ∷ 70 ∷ 59 ∷ 32 ∷ 69 ∷ 78 ∷ 68 ∷ 32 ∷ 80 ∷ 59 ∷ 32 ∷ 69 ∷ 78 ∷ 68 ∷ 32 ∷ 77 ∷ 46 ∷ []); symbols = (symbol (Ident) 0 6 ∷ symbol (Ident) 7 8 ∷ symbol (Ident) 8 9 ∷ symbol (Ident) 10 19 ∷ symbol (Ident) 20 21 ∷ symbol (Ident) 21 22 ∷ symbol (Ident) 22 23 ∷ symbol (Ident) 23 24 ∷ symbol (Ident) 25 32 ∷ symbol (Ident) 32 33 ∷ symbol (Ident) 34 40 ∷ symbol (Int (pos 1)) 41 42 ∷ symbol (Ident) 43 46 ∷ symbol (Ident) 47 48 ∷ symbol (Ident) 48 49 ∷ symbol (Ident) 50 59 ∷ symbol (Ident) 60 61 ∷ symbol (Ident) 61 62 ∷ symbol (Ident) 63 68 ∷ symbol (Ident) 69 70 ∷ symbol (Ident) 71 72 ∷ symbol (Ident) 73 74 ∷ symbol (Ident) 74 75 ∷ symbol (Ident) 76 79 ∷ symbol (Ident) 80 81 ∷ symbol (Ident) 81 82 ∷ symbol (Ident) 83 86 ∷ symbol (Ident) 87 88 ∷ symbol (Ident) 88 89 ∷ []) }; tree = record { module_word = 0; name = 1; semicolon = 0; imports = None; decls = (S.decls None None None (S.procedure 0 (record { name = 4; star = None }) (Some (record { left_paren = 0; sections = None; right_paren = 0; result = Some (record { colon = 0; name = (record { name = 8; member = None }) }) })) 0 (S.decls None None None S.no_procedure) None (Some (record { return_word = 10; value = (S.only (S.simple None (S.term (S.Int 11) S.no_factor) S.no_term)) })) 12 13 0 (S.procedure 0 (record { name = 16; star = None }) None 0 (S.decls (Some (record { const_word = 0; each = (record { name = (record { name = 19; star = None }); equal = 0; value = (S.only (S.simple None (S.term (S.Designated 21 S.no_selector) S.no_factor) S.no_term)); semicolon = 0 } ∷ []) })) None None S.no_procedure) None None 23 24 0 S.no_procedure))); body = None; end_word = 0; end_name = 27; period = 0 } }

pub not_constant_4 : checked (not_constant_4_0 ∷ []) ≡ Fault 0 32 73
not_constant_4 = refl

-- MODULE M; CONST c = ''ab'' = ''cd''; END M.
abbrev not_constant_5_0 : Parsed
not_constant_5_0 = record { source = record { bytes = (77 ∷ 79 ∷ 68 ∷ 85 ∷ 76 ∷ 69 ∷ 32 ∷ 77 ∷ 59 ∷ 32 ∷ 67 ∷ 79 ∷ 78 ∷ 83 ∷ 84 ∷ 32 ∷ 99 ∷ 32 ∷ 61 ∷ 32 ∷ 34 ∷ 97 ∷ 98 ∷ 34 ∷ 32 ∷ 61 ∷ 32 ∷ 34 ∷ 99 ∷ 100 ∷ 34 ∷ 59 ∷ 32 ∷ 69 ∷ 78 ∷ 68 ∷ 32 ∷ 77 ∷ 46 ∷ []); symbols = (symbol (Ident) 0 6 ∷ symbol (Ident) 7 8 ∷ symbol (Ident) 8 9 ∷ symbol (Ident) 10 15 ∷ symbol (Ident) 16 17 ∷ symbol (Ident) 18 19 ∷ symbol (TheKind.Text) 20 24 ∷ symbol (Ident) 25 26 ∷ symbol (TheKind.Text) 27 31 ∷ symbol (Ident) 31 32 ∷ symbol (Ident) 33 36 ∷ symbol (Ident) 37 38 ∷ symbol (Ident) 38 39 ∷ []) }; tree = record { module_word = 0; name = 1; semicolon = 0; imports = None; decls = (S.decls (Some (record { const_word = 0; each = (record { name = (record { name = 4; star = None }); equal = 0; value = (S.compared (S.simple None (S.term (S.Text 6) S.no_factor) S.no_term) (TheRelation.Equal 7) (S.simple None (S.term (S.Text 8) S.no_factor) S.no_term)); semicolon = 0 } ∷ []) })) None None S.no_procedure); body = None; end_word = 0; end_name = 11; period = 0 } }

pub not_constant_5 : checked (not_constant_5_0 ∷ []) ≡ Fault 0 32 25
not_constant_5 = refl

-- MODULE M; CONST a = ''ab''; c = (1 = 2) OR (a < ''x''); END M.
abbrev not_constant_6_0 : Parsed
not_constant_6_0 = record { source = record { bytes = (77 ∷ 79 ∷ 68 ∷ 85 ∷ 76 ∷ 69 ∷ 32 ∷ 77 ∷ 59 ∷ 32 ∷ 67 ∷ 79 ∷ 78 ∷ 83 ∷ 84 ∷ 32 ∷ 97 ∷ 32 ∷ 61 ∷ 32 ∷ 34 ∷ 97 ∷ 98 ∷ 34 ∷ 59 ∷ 32 ∷ 99 ∷ 32 ∷ 61 ∷ 32 ∷ 40 ∷ 49 ∷ 32 ∷ 61 ∷ 32 ∷ 50 ∷ 41 ∷ 32 ∷ 79 ∷ 82 ∷ 32 ∷ 40 ∷ 97 ∷ 32 ∷ 60 ∷ 32 ∷ 34 ∷ 120 ∷ 34 ∷ 41 ∷ 59 ∷ 32 ∷ 69 ∷ 78 ∷ 68 ∷ 32 ∷ 77 ∷ 46 ∷ []); symbols = (symbol (Ident) 0 6 ∷ symbol (Ident) 7 8 ∷ symbol (Ident) 8 9 ∷ symbol (Ident) 10 15 ∷ symbol (Ident) 16 17 ∷ symbol (Ident) 18 19 ∷ symbol (TheKind.Text) 20 24 ∷ symbol (Ident) 24 25 ∷ symbol (Ident) 26 27 ∷ symbol (Ident) 28 29 ∷ symbol (Ident) 30 31 ∷ symbol (Int (pos 1)) 31 32 ∷ symbol (Ident) 33 34 ∷ symbol (Int (pos 2)) 35 36 ∷ symbol (Ident) 36 37 ∷ symbol (Ident) 38 40 ∷ symbol (Ident) 41 42 ∷ symbol (Ident) 42 43 ∷ symbol (Ident) 44 45 ∷ symbol (TheKind.Text) 46 49 ∷ symbol (Ident) 49 50 ∷ symbol (Ident) 50 51 ∷ symbol (Ident) 52 55 ∷ symbol (Ident) 56 57 ∷ symbol (Ident) 57 58 ∷ []) }; tree = record { module_word = 0; name = 1; semicolon = 0; imports = None; decls = (S.decls (Some (record { const_word = 0; each = (record { name = (record { name = 4; star = None }); equal = 0; value = (S.only (S.simple None (S.term (S.Text 6) S.no_factor) S.no_term)); semicolon = 0 } ∷ record { name = (record { name = 8; star = None }); equal = 0; value = (S.only (S.simple None (S.term (S.Paren 10 (S.compared (S.simple None (S.term (S.Int 11) S.no_factor) S.no_term) (TheRelation.Equal 12) (S.simple None (S.term (S.Int 13) S.no_factor) S.no_term)) 0) S.no_factor) (S.added (TheAddOperator.Or 15) (S.term (S.Paren 16 (S.compared (S.simple None (S.term (S.Designated 17 S.no_selector) S.no_factor) S.no_term) (TheRelation.Less 18) (S.simple None (S.term (S.Text 19) S.no_factor) S.no_term)) 0) S.no_factor) S.no_term))); semicolon = 0 } ∷ []) })) None None S.no_procedure); body = None; end_word = 0; end_name = 23; period = 0 } }

pub not_constant_6 : checked (not_constant_6_0 ∷ []) ≡ Fault 0 32 44
not_constant_6 = refl

-- MODULE M; VAR a: ARRAY 3 OF CHAR; PROCEDURE P; CONST c = LEN(a); END P; END M.
abbrev not_constant_7_0 : Parsed
not_constant_7_0 = record { source = record { bytes = (77 ∷ 79 ∷ 68 ∷ 85 ∷ 76 ∷ 69 ∷ 32 ∷ 77 ∷ 59 ∷ 32 ∷ 86 ∷ 65 ∷ 82 ∷ 32 ∷ 97 ∷ 58 ∷ 32 ∷ 65 ∷ 82 ∷ 82 ∷ 65 ∷ 89 ∷ 32 ∷ 51 ∷ 32 ∷ 79 ∷ 70 ∷ 32 ∷ 67 ∷ 72 ∷ 65 ∷ 82 ∷ 59 ∷ 32 ∷ 80 ∷ 82 ∷ 79 ∷ 67 ∷ 69 ∷ 68 ∷ 85 ∷ 82 ∷ 69 ∷ 32 ∷ 80 ∷ 59 ∷ 32 ∷ 67 ∷ 79 ∷ 78 ∷ 83 ∷ 84 ∷ 32 ∷ 99 ∷ 32 ∷ 61 ∷ 32 ∷ 76 ∷ 69 ∷ 78 ∷ 40 ∷ 97 ∷ 41 ∷ 59 ∷ 32 ∷ 69 ∷ 78 ∷ 68 ∷ 32 ∷ 80 ∷ 59 ∷ 32 ∷ 69 ∷ 78 ∷ 68 ∷ 32 ∷ 77 ∷ 46 ∷ []); symbols = (symbol (Ident) 0 6 ∷ symbol (Ident) 7 8 ∷ symbol (Ident) 8 9 ∷ symbol (Ident) 10 13 ∷ symbol (Ident) 14 15 ∷ symbol (Ident) 15 16 ∷ symbol (Ident) 17 22 ∷ symbol (Int (pos 3)) 23 24 ∷ symbol (Ident) 25 27 ∷ symbol (Ident) 28 32 ∷ symbol (Ident) 32 33 ∷ symbol (Ident) 34 43 ∷ symbol (Ident) 44 45 ∷ symbol (Ident) 45 46 ∷ symbol (Ident) 47 52 ∷ symbol (Ident) 53 54 ∷ symbol (Ident) 55 56 ∷ symbol (Ident) 57 60 ∷ symbol (Ident) 60 61 ∷ symbol (Ident) 61 62 ∷ symbol (Ident) 62 63 ∷ symbol (Ident) 63 64 ∷ symbol (Ident) 65 68 ∷ symbol (Ident) 69 70 ∷ symbol (Ident) 70 71 ∷ symbol (Ident) 72 75 ∷ symbol (Ident) 76 77 ∷ symbol (Ident) 77 78 ∷ []) }; tree = record { module_word = 0; name = 1; semicolon = 0; imports = None; decls = (S.decls None None (Some (record { var_word = 0; each = (record { names = (record { first = (record { name = 4; star = None }); more = [] }); colon = 0; of = (S.Array 6 (S.only (S.simple None (S.term (S.Int 7) S.no_factor) S.no_term)) S.no_expression 0 (S.Named (record { name = 9; member = None }))); semicolon = 0 } ∷ []) })) (S.procedure 0 (record { name = 12; star = None }) None 0 (S.decls (Some (record { const_word = 0; each = (record { name = (record { name = 15; star = None }); equal = 0; value = (S.only (S.simple None (S.term (S.Designated 17 (S.selected (S.Parens 0 (S.expressions (S.only (S.simple None (S.term (S.Designated 19 S.no_selector) S.no_factor) S.no_term)) S.no_expression) 0) S.no_selector)) S.no_factor) S.no_term)); semicolon = 0 } ∷ []) })) None None S.no_procedure) None None 22 23 0 S.no_procedure)); body = None; end_word = 0; end_name = 26; period = 0 } }

pub not_constant_7 : checked (not_constant_7_0 ∷ []) ≡ Fault 0 32 61
not_constant_7 = refl

-- MODULE M; VAR i: INTEGER; BEGIN FOR i := 0 TO 1 BY i DO END END M.
abbrev not_constant_8_0 : Parsed
not_constant_8_0 = record { source = record { bytes = (77 ∷ 79 ∷ 68 ∷ 85 ∷ 76 ∷ 69 ∷ 32 ∷ 77 ∷ 59 ∷ 32 ∷ 86 ∷ 65 ∷ 82 ∷ 32 ∷ 105 ∷ 58 ∷ 32 ∷ 73 ∷ 78 ∷ 84 ∷ 69 ∷ 71 ∷ 69 ∷ 82 ∷ 59 ∷ 32 ∷ 66 ∷ 69 ∷ 71 ∷ 73 ∷ 78 ∷ 32 ∷ 70 ∷ 79 ∷ 82 ∷ 32 ∷ 105 ∷ 32 ∷ 58 ∷ 61 ∷ 32 ∷ 48 ∷ 32 ∷ 84 ∷ 79 ∷ 32 ∷ 49 ∷ 32 ∷ 66 ∷ 89 ∷ 32 ∷ 105 ∷ 32 ∷ 68 ∷ 79 ∷ 32 ∷ 69 ∷ 78 ∷ 68 ∷ 32 ∷ 69 ∷ 78 ∷ 68 ∷ 32 ∷ 77 ∷ 46 ∷ []); symbols = (symbol (Ident) 0 6 ∷ symbol (Ident) 7 8 ∷ symbol (Ident) 8 9 ∷ symbol (Ident) 10 13 ∷ symbol (Ident) 14 15 ∷ symbol (Ident) 15 16 ∷ symbol (Ident) 17 24 ∷ symbol (Ident) 24 25 ∷ symbol (Ident) 26 31 ∷ symbol (Ident) 32 35 ∷ symbol (Ident) 36 37 ∷ symbol (Ident) 38 40 ∷ symbol (Int (pos 0)) 41 42 ∷ symbol (Ident) 43 45 ∷ symbol (Int (pos 1)) 46 47 ∷ symbol (Ident) 48 50 ∷ symbol (Ident) 51 52 ∷ symbol (Ident) 53 55 ∷ symbol (Ident) 56 59 ∷ symbol (Ident) 60 63 ∷ symbol (Ident) 64 65 ∷ symbol (Ident) 65 66 ∷ []) }; tree = record { module_word = 0; name = 1; semicolon = 0; imports = None; decls = (S.decls None None (Some (record { var_word = 0; each = (record { names = (record { first = (record { name = 4; star = None }); more = [] }); colon = 0; of = (S.Named (record { name = 6; member = None })); semicolon = 0 } ∷ []) })) S.no_procedure); body = (Some (record { begin_word = 0; stats = (S.stats (S.For 0 10 0 (S.only (S.simple None (S.term (S.Int 12) S.no_factor) S.no_term)) 0 (S.only (S.simple None (S.term (S.Int 14) S.no_factor) S.no_term)) (Some (record { by_word = 0; step = (S.only (S.simple None (S.term (S.Designated 16 S.no_selector) S.no_factor) S.no_term)) })) 0 (S.stats S.Empty S.no_stat) 0) S.no_stat) })); end_word = 0; end_name = 20; period = 0 } }

pub not_constant_8 : checked (not_constant_8_0 ∷ []) ≡ Fault 0 32 51
not_constant_8 = refl

-- MODULE M; VAR v: INTEGER; PROCEDURE P; TYPE A = ARRAY v OF CHAR; END P; END M.
abbrev not_constant_9_0 : Parsed
not_constant_9_0 = record { source = record { bytes = (77 ∷ 79 ∷ 68 ∷ 85 ∷ 76 ∷ 69 ∷ 32 ∷ 77 ∷ 59 ∷ 32 ∷ 86 ∷ 65 ∷ 82 ∷ 32 ∷ 118 ∷ 58 ∷ 32 ∷ 73 ∷ 78 ∷ 84 ∷ 69 ∷ 71 ∷ 69 ∷ 82 ∷ 59 ∷ 32 ∷ 80 ∷ 82 ∷ 79 ∷ 67 ∷ 69 ∷ 68 ∷ 85 ∷ 82 ∷ 69 ∷ 32 ∷ 80 ∷ 59 ∷ 32 ∷ 84 ∷ 89 ∷ 80 ∷ 69 ∷ 32 ∷ 65 ∷ 32 ∷ 61 ∷ 32 ∷ 65 ∷ 82 ∷ 82 ∷ 65 ∷ 89 ∷ 32 ∷ 118 ∷ 32 ∷ 79 ∷ 70 ∷ 32 ∷ 67 ∷ 72 ∷ 65 ∷ 82 ∷ 59 ∷ 32 ∷ 69 ∷ 78 ∷ 68 ∷ 32 ∷ 80 ∷ 59 ∷ 32 ∷ 69 ∷ 78 ∷ 68 ∷ 32 ∷ 77 ∷ 46 ∷ []); symbols = (symbol (Ident) 0 6 ∷ symbol (Ident) 7 8 ∷ symbol (Ident) 8 9 ∷ symbol (Ident) 10 13 ∷ symbol (Ident) 14 15 ∷ symbol (Ident) 15 16 ∷ symbol (Ident) 17 24 ∷ symbol (Ident) 24 25 ∷ symbol (Ident) 26 35 ∷ symbol (Ident) 36 37 ∷ symbol (Ident) 37 38 ∷ symbol (Ident) 39 43 ∷ symbol (Ident) 44 45 ∷ symbol (Ident) 46 47 ∷ symbol (Ident) 48 53 ∷ symbol (Ident) 54 55 ∷ symbol (Ident) 56 58 ∷ symbol (Ident) 59 63 ∷ symbol (Ident) 63 64 ∷ symbol (Ident) 65 68 ∷ symbol (Ident) 69 70 ∷ symbol (Ident) 70 71 ∷ symbol (Ident) 72 75 ∷ symbol (Ident) 76 77 ∷ symbol (Ident) 77 78 ∷ []) }; tree = record { module_word = 0; name = 1; semicolon = 0; imports = None; decls = (S.decls None None (Some (record { var_word = 0; each = (record { names = (record { first = (record { name = 4; star = None }); more = [] }); colon = 0; of = (S.Named (record { name = 6; member = None })); semicolon = 0 } ∷ []) })) (S.procedure 0 (record { name = 9; star = None }) None 0 (S.decls None (Some (record { type_word = 0; each = (record { name = (record { name = 12; star = None }); equal = 0; is = (S.Array 14 (S.only (S.simple None (S.term (S.Designated 15 S.no_selector) S.no_factor) S.no_term)) S.no_expression 0 (S.Named (record { name = 17; member = None }))); semicolon = 0 } ∷ []) })) None S.no_procedure) None None 19 20 0 S.no_procedure)); body = None; end_word = 0; end_name = 23; period = 0 } }

pub not_constant_9 : checked (not_constant_9_0 ∷ []) ≡ Fault 0 32 54
not_constant_9 = refl

-- MODULE M; VAR v: INTEGER; PROCEDURE P; CONST c = ABS(v); END P; END M.
abbrev not_constant_10_0 : Parsed
not_constant_10_0 = record { source = record { bytes = (77 ∷ 79 ∷ 68 ∷ 85 ∷ 76 ∷ 69 ∷ 32 ∷ 77 ∷ 59 ∷ 32 ∷ 86 ∷ 65 ∷ 82 ∷ 32 ∷ 118 ∷ 58 ∷ 32 ∷ 73 ∷ 78 ∷ 84 ∷ 69 ∷ 71 ∷ 69 ∷ 82 ∷ 59 ∷ 32 ∷ 80 ∷ 82 ∷ 79 ∷ 67 ∷ 69 ∷ 68 ∷ 85 ∷ 82 ∷ 69 ∷ 32 ∷ 80 ∷ 59 ∷ 32 ∷ 67 ∷ 79 ∷ 78 ∷ 83 ∷ 84 ∷ 32 ∷ 99 ∷ 32 ∷ 61 ∷ 32 ∷ 65 ∷ 66 ∷ 83 ∷ 40 ∷ 118 ∷ 41 ∷ 59 ∷ 32 ∷ 69 ∷ 78 ∷ 68 ∷ 32 ∷ 80 ∷ 59 ∷ 32 ∷ 69 ∷ 78 ∷ 68 ∷ 32 ∷ 77 ∷ 46 ∷ []); symbols = (symbol (Ident) 0 6 ∷ symbol (Ident) 7 8 ∷ symbol (Ident) 8 9 ∷ symbol (Ident) 10 13 ∷ symbol (Ident) 14 15 ∷ symbol (Ident) 15 16 ∷ symbol (Ident) 17 24 ∷ symbol (Ident) 24 25 ∷ symbol (Ident) 26 35 ∷ symbol (Ident) 36 37 ∷ symbol (Ident) 37 38 ∷ symbol (Ident) 39 44 ∷ symbol (Ident) 45 46 ∷ symbol (Ident) 47 48 ∷ symbol (Ident) 49 52 ∷ symbol (Ident) 52 53 ∷ symbol (Ident) 53 54 ∷ symbol (Ident) 54 55 ∷ symbol (Ident) 55 56 ∷ symbol (Ident) 57 60 ∷ symbol (Ident) 61 62 ∷ symbol (Ident) 62 63 ∷ symbol (Ident) 64 67 ∷ symbol (Ident) 68 69 ∷ symbol (Ident) 69 70 ∷ []) }; tree = record { module_word = 0; name = 1; semicolon = 0; imports = None; decls = (S.decls None None (Some (record { var_word = 0; each = (record { names = (record { first = (record { name = 4; star = None }); more = [] }); colon = 0; of = (S.Named (record { name = 6; member = None })); semicolon = 0 } ∷ []) })) (S.procedure 0 (record { name = 9; star = None }) None 0 (S.decls (Some (record { const_word = 0; each = (record { name = (record { name = 12; star = None }); equal = 0; value = (S.only (S.simple None (S.term (S.Designated 14 (S.selected (S.Parens 0 (S.expressions (S.only (S.simple None (S.term (S.Designated 16 S.no_selector) S.no_factor) S.no_term)) S.no_expression) 0) S.no_selector)) S.no_factor) S.no_term)); semicolon = 0 } ∷ []) })) None None S.no_procedure) None None 19 20 0 S.no_procedure)); body = None; end_word = 0; end_name = 23; period = 0 } }

pub not_constant_10 : checked (not_constant_10_0 ∷ []) ≡ Fault 0 32 53
not_constant_10 = refl

-- MODULE M; VAR v: SET; PROCEDURE P; CONST c = {1} + v; END P; END M.
abbrev not_constant_11_0 : Parsed
not_constant_11_0 = record { source = record { bytes = (77 ∷ 79 ∷ 68 ∷ 85 ∷ 76 ∷ 69 ∷ 32 ∷ 77 ∷ 59 ∷ 32 ∷ 86 ∷ 65 ∷ 82 ∷ 32 ∷ 118 ∷ 58 ∷ 32 ∷ 83 ∷ 69 ∷ 84 ∷ 59 ∷ 32 ∷ 80 ∷ 82 ∷ 79 ∷ 67 ∷ 69 ∷ 68 ∷ 85 ∷ 82 ∷ 69 ∷ 32 ∷ 80 ∷ 59 ∷ 32 ∷ 67 ∷ 79 ∷ 78 ∷ 83 ∷ 84 ∷ 32 ∷ 99 ∷ 32 ∷ 61 ∷ 32 ∷ 123 ∷ 49 ∷ 125 ∷ 32 ∷ 43 ∷ 32 ∷ 118 ∷ 59 ∷ 32 ∷ 69 ∷ 78 ∷ 68 ∷ 32 ∷ 80 ∷ 59 ∷ 32 ∷ 69 ∷ 78 ∷ 68 ∷ 32 ∷ 77 ∷ 46 ∷ []); symbols = (symbol (Ident) 0 6 ∷ symbol (Ident) 7 8 ∷ symbol (Ident) 8 9 ∷ symbol (Ident) 10 13 ∷ symbol (Ident) 14 15 ∷ symbol (Ident) 15 16 ∷ symbol (Ident) 17 20 ∷ symbol (Ident) 20 21 ∷ symbol (Ident) 22 31 ∷ symbol (Ident) 32 33 ∷ symbol (Ident) 33 34 ∷ symbol (Ident) 35 40 ∷ symbol (Ident) 41 42 ∷ symbol (Ident) 43 44 ∷ symbol (Ident) 45 46 ∷ symbol (Int (pos 1)) 46 47 ∷ symbol (Ident) 47 48 ∷ symbol (Ident) 49 50 ∷ symbol (Ident) 51 52 ∷ symbol (Ident) 52 53 ∷ symbol (Ident) 54 57 ∷ symbol (Ident) 58 59 ∷ symbol (Ident) 59 60 ∷ symbol (Ident) 61 64 ∷ symbol (Ident) 65 66 ∷ symbol (Ident) 66 67 ∷ []) }; tree = record { module_word = 0; name = 1; semicolon = 0; imports = None; decls = (S.decls None None (Some (record { var_word = 0; each = (record { names = (record { first = (record { name = 4; star = None }); more = [] }); colon = 0; of = (S.Named (record { name = 6; member = None })); semicolon = 0 } ∷ []) })) (S.procedure 0 (record { name = 9; star = None }) None 0 (S.decls (Some (record { const_word = 0; each = (record { name = (record { name = 12; star = None }); equal = 0; value = (S.only (S.simple None (S.term (S.Set 14 (S.one (S.only (S.simple None (S.term (S.Int 15) S.no_factor) S.no_term))) S.no_element 0) S.no_factor) (S.added (TheAddOperator.Plus 17) (S.term (S.Designated 18 S.no_selector) S.no_factor) S.no_term))); semicolon = 0 } ∷ []) })) None None S.no_procedure) None None 20 21 0 S.no_procedure)); body = None; end_word = 0; end_name = 24; period = 0 } }

pub not_constant_11 : checked (not_constant_11_0 ∷ []) ≡ Fault 0 32 51
not_constant_11 = refl

-- MODULE M; VAR v: INTEGER; PROCEDURE P; CONST c = {v}; END P; END M.
abbrev not_constant_12_0 : Parsed
not_constant_12_0 = record { source = record { bytes = (77 ∷ 79 ∷ 68 ∷ 85 ∷ 76 ∷ 69 ∷ 32 ∷ 77 ∷ 59 ∷ 32 ∷ 86 ∷ 65 ∷ 82 ∷ 32 ∷ 118 ∷ 58 ∷ 32 ∷ 73 ∷ 78 ∷ 84 ∷ 69 ∷ 71 ∷ 69 ∷ 82 ∷ 59 ∷ 32 ∷ 80 ∷ 82 ∷ 79 ∷ 67 ∷ 69 ∷ 68 ∷ 85 ∷ 82 ∷ 69 ∷ 32 ∷ 80 ∷ 59 ∷ 32 ∷ 67 ∷ 79 ∷ 78 ∷ 83 ∷ 84 ∷ 32 ∷ 99 ∷ 32 ∷ 61 ∷ 32 ∷ 123 ∷ 118 ∷ 125 ∷ 59 ∷ 32 ∷ 69 ∷ 78 ∷ 68 ∷ 32 ∷ 80 ∷ 59 ∷ 32 ∷ 69 ∷ 78 ∷ 68 ∷ 32 ∷ 77 ∷ 46 ∷ []); symbols = (symbol (Ident) 0 6 ∷ symbol (Ident) 7 8 ∷ symbol (Ident) 8 9 ∷ symbol (Ident) 10 13 ∷ symbol (Ident) 14 15 ∷ symbol (Ident) 15 16 ∷ symbol (Ident) 17 24 ∷ symbol (Ident) 24 25 ∷ symbol (Ident) 26 35 ∷ symbol (Ident) 36 37 ∷ symbol (Ident) 37 38 ∷ symbol (Ident) 39 44 ∷ symbol (Ident) 45 46 ∷ symbol (Ident) 47 48 ∷ symbol (Ident) 49 50 ∷ symbol (Ident) 50 51 ∷ symbol (Ident) 51 52 ∷ symbol (Ident) 52 53 ∷ symbol (Ident) 54 57 ∷ symbol (Ident) 58 59 ∷ symbol (Ident) 59 60 ∷ symbol (Ident) 61 64 ∷ symbol (Ident) 65 66 ∷ symbol (Ident) 66 67 ∷ []) }; tree = record { module_word = 0; name = 1; semicolon = 0; imports = None; decls = (S.decls None None (Some (record { var_word = 0; each = (record { names = (record { first = (record { name = 4; star = None }); more = [] }); colon = 0; of = (S.Named (record { name = 6; member = None })); semicolon = 0 } ∷ []) })) (S.procedure 0 (record { name = 9; star = None }) None 0 (S.decls (Some (record { const_word = 0; each = (record { name = (record { name = 12; star = None }); equal = 0; value = (S.only (S.simple None (S.term (S.Set 14 (S.one (S.only (S.simple None (S.term (S.Designated 15 S.no_selector) S.no_factor) S.no_term))) S.no_element 0) S.no_factor) S.no_term)); semicolon = 0 } ∷ []) })) None None S.no_procedure) None None 18 19 0 S.no_procedure)); body = None; end_word = 0; end_name = 22; period = 0 } }

pub not_constant_12 : checked (not_constant_12_0 ∷ []) ≡ Fault 0 32 50
not_constant_12 = refl

-- MODULE M; VAR v: INTEGER; PROCEDURE P; CONST c = ~(v = 1); END P; END M.
abbrev not_constant_13_0 : Parsed
not_constant_13_0 = record { source = record { bytes = (77 ∷ 79 ∷ 68 ∷ 85 ∷ 76 ∷ 69 ∷ 32 ∷ 77 ∷ 59 ∷ 32 ∷ 86 ∷ 65 ∷ 82 ∷ 32 ∷ 118 ∷ 58 ∷ 32 ∷ 73 ∷ 78 ∷ 84 ∷ 69 ∷ 71 ∷ 69 ∷ 82 ∷ 59 ∷ 32 ∷ 80 ∷ 82 ∷ 79 ∷ 67 ∷ 69 ∷ 68 ∷ 85 ∷ 82 ∷ 69 ∷ 32 ∷ 80 ∷ 59 ∷ 32 ∷ 67 ∷ 79 ∷ 78 ∷ 83 ∷ 84 ∷ 32 ∷ 99 ∷ 32 ∷ 61 ∷ 32 ∷ 126 ∷ 40 ∷ 118 ∷ 32 ∷ 61 ∷ 32 ∷ 49 ∷ 41 ∷ 59 ∷ 32 ∷ 69 ∷ 78 ∷ 68 ∷ 32 ∷ 80 ∷ 59 ∷ 32 ∷ 69 ∷ 78 ∷ 68 ∷ 32 ∷ 77 ∷ 46 ∷ []); symbols = (symbol (Ident) 0 6 ∷ symbol (Ident) 7 8 ∷ symbol (Ident) 8 9 ∷ symbol (Ident) 10 13 ∷ symbol (Ident) 14 15 ∷ symbol (Ident) 15 16 ∷ symbol (Ident) 17 24 ∷ symbol (Ident) 24 25 ∷ symbol (Ident) 26 35 ∷ symbol (Ident) 36 37 ∷ symbol (Ident) 37 38 ∷ symbol (Ident) 39 44 ∷ symbol (Ident) 45 46 ∷ symbol (Ident) 47 48 ∷ symbol (Ident) 49 50 ∷ symbol (Ident) 50 51 ∷ symbol (Ident) 51 52 ∷ symbol (Ident) 53 54 ∷ symbol (Int (pos 1)) 55 56 ∷ symbol (Ident) 56 57 ∷ symbol (Ident) 57 58 ∷ symbol (Ident) 59 62 ∷ symbol (Ident) 63 64 ∷ symbol (Ident) 64 65 ∷ symbol (Ident) 66 69 ∷ symbol (Ident) 70 71 ∷ symbol (Ident) 71 72 ∷ []) }; tree = record { module_word = 0; name = 1; semicolon = 0; imports = None; decls = (S.decls None None (Some (record { var_word = 0; each = (record { names = (record { first = (record { name = 4; star = None }); more = [] }); colon = 0; of = (S.Named (record { name = 6; member = None })); semicolon = 0 } ∷ []) })) (S.procedure 0 (record { name = 9; star = None }) None 0 (S.decls (Some (record { const_word = 0; each = (record { name = (record { name = 12; star = None }); equal = 0; value = (S.only (S.simple None (S.term (S.Not 14 (S.Paren 15 (S.compared (S.simple None (S.term (S.Designated 16 S.no_selector) S.no_factor) S.no_term) (TheRelation.Equal 17) (S.simple None (S.term (S.Int 18) S.no_factor) S.no_term)) 0)) S.no_factor) S.no_term)); semicolon = 0 } ∷ []) })) None None S.no_procedure) None None 21 22 0 S.no_procedure)); body = None; end_word = 0; end_name = 25; period = 0 } }

pub not_constant_13 : checked (not_constant_13_0 ∷ []) ≡ Fault 0 32 51
not_constant_13 = refl

-- MODULE M; VAR v: INTEGER; PROCEDURE P; CONST c = FALSE & (v = 1); END P; END M.
abbrev not_constant_14_0 : Parsed
not_constant_14_0 = record { source = record { bytes = (77 ∷ 79 ∷ 68 ∷ 85 ∷ 76 ∷ 69 ∷ 32 ∷ 77 ∷ 59 ∷ 32 ∷ 86 ∷ 65 ∷ 82 ∷ 32 ∷ 118 ∷ 58 ∷ 32 ∷ 73 ∷ 78 ∷ 84 ∷ 69 ∷ 71 ∷ 69 ∷ 82 ∷ 59 ∷ 32 ∷ 80 ∷ 82 ∷ 79 ∷ 67 ∷ 69 ∷ 68 ∷ 85 ∷ 82 ∷ 69 ∷ 32 ∷ 80 ∷ 59 ∷ 32 ∷ 67 ∷ 79 ∷ 78 ∷ 83 ∷ 84 ∷ 32 ∷ 99 ∷ 32 ∷ 61 ∷ 32 ∷ 70 ∷ 65 ∷ 76 ∷ 83 ∷ 69 ∷ 32 ∷ 38 ∷ 32 ∷ 40 ∷ 118 ∷ 32 ∷ 61 ∷ 32 ∷ 49 ∷ 41 ∷ 59 ∷ 32 ∷ 69 ∷ 78 ∷ 68 ∷ 32 ∷ 80 ∷ 59 ∷ 32 ∷ 69 ∷ 78 ∷ 68 ∷ 32 ∷ 77 ∷ 46 ∷ []); symbols = (symbol (Ident) 0 6 ∷ symbol (Ident) 7 8 ∷ symbol (Ident) 8 9 ∷ symbol (Ident) 10 13 ∷ symbol (Ident) 14 15 ∷ symbol (Ident) 15 16 ∷ symbol (Ident) 17 24 ∷ symbol (Ident) 24 25 ∷ symbol (Ident) 26 35 ∷ symbol (Ident) 36 37 ∷ symbol (Ident) 37 38 ∷ symbol (Ident) 39 44 ∷ symbol (Ident) 45 46 ∷ symbol (Ident) 47 48 ∷ symbol (Ident) 49 54 ∷ symbol (Ident) 55 56 ∷ symbol (Ident) 57 58 ∷ symbol (Ident) 58 59 ∷ symbol (Ident) 60 61 ∷ symbol (Int (pos 1)) 62 63 ∷ symbol (Ident) 63 64 ∷ symbol (Ident) 64 65 ∷ symbol (Ident) 66 69 ∷ symbol (Ident) 70 71 ∷ symbol (Ident) 71 72 ∷ symbol (Ident) 73 76 ∷ symbol (Ident) 77 78 ∷ symbol (Ident) 78 79 ∷ []) }; tree = record { module_word = 0; name = 1; semicolon = 0; imports = None; decls = (S.decls None None (Some (record { var_word = 0; each = (record { names = (record { first = (record { name = 4; star = None }); more = [] }); colon = 0; of = (S.Named (record { name = 6; member = None })); semicolon = 0 } ∷ []) })) (S.procedure 0 (record { name = 9; star = None }) None 0 (S.decls (Some (record { const_word = 0; each = (record { name = (record { name = 12; star = None }); equal = 0; value = (S.only (S.simple None (S.term (S.False 14) (S.multiplied (TheMulOperator.And 15) (S.Paren 16 (S.compared (S.simple None (S.term (S.Designated 17 S.no_selector) S.no_factor) S.no_term) (TheRelation.Equal 18) (S.simple None (S.term (S.Int 19) S.no_factor) S.no_term)) 0) S.no_factor)) S.no_term)); semicolon = 0 } ∷ []) })) None None S.no_procedure) None None 22 23 0 S.no_procedure)); body = None; end_word = 0; end_name = 26; period = 0 } }

pub not_constant_14 : checked (not_constant_14_0 ∷ []) ≡ Fault 0 32 58
not_constant_14 = refl

-- MODULE M; CONST c = LEN(''abc''); END M.
abbrev not_constant_15_0 : Parsed
not_constant_15_0 = record { source = record { bytes = (77 ∷ 79 ∷ 68 ∷ 85 ∷ 76 ∷ 69 ∷ 32 ∷ 77 ∷ 59 ∷ 32 ∷ 67 ∷ 79 ∷ 78 ∷ 83 ∷ 84 ∷ 32 ∷ 99 ∷ 32 ∷ 61 ∷ 32 ∷ 76 ∷ 69 ∷ 78 ∷ 40 ∷ 34 ∷ 97 ∷ 98 ∷ 99 ∷ 34 ∷ 41 ∷ 59 ∷ 32 ∷ 69 ∷ 78 ∷ 68 ∷ 32 ∷ 77 ∷ 46 ∷ []); symbols = (symbol (Ident) 0 6 ∷ symbol (Ident) 7 8 ∷ symbol (Ident) 8 9 ∷ symbol (Ident) 10 15 ∷ symbol (Ident) 16 17 ∷ symbol (Ident) 18 19 ∷ symbol (Ident) 20 23 ∷ symbol (Ident) 23 24 ∷ symbol (TheKind.Text) 24 29 ∷ symbol (Ident) 29 30 ∷ symbol (Ident) 30 31 ∷ symbol (Ident) 32 35 ∷ symbol (Ident) 36 37 ∷ symbol (Ident) 37 38 ∷ []) }; tree = record { module_word = 0; name = 1; semicolon = 0; imports = None; decls = (S.decls (Some (record { const_word = 0; each = (record { name = (record { name = 4; star = None }); equal = 0; value = (S.only (S.simple None (S.term (S.Designated 6 (S.selected (S.Parens 0 (S.expressions (S.only (S.simple None (S.term (S.Text 8) S.no_factor) S.no_term)) S.no_expression) 0) S.no_selector)) S.no_factor) S.no_term)); semicolon = 0 } ∷ []) })) None None S.no_procedure); body = None; end_word = 0; end_name = 12; period = 0 } }

pub not_constant_15 : checked (not_constant_15_0 ∷ []) ≡ Fault 0 31 24
not_constant_15 = refl

-- MODULE M; CONST c = 1 DIV 0; END M.
abbrev const_range_1_0 : Parsed
const_range_1_0 = record { source = record { bytes = (77 ∷ 79 ∷ 68 ∷ 85 ∷ 76 ∷ 69 ∷ 32 ∷ 77 ∷ 59 ∷ 32 ∷ 67 ∷ 79 ∷ 78 ∷ 83 ∷ 84 ∷ 32 ∷ 99 ∷ 32 ∷ 61 ∷ 32 ∷ 49 ∷ 32 ∷ 68 ∷ 73 ∷ 86 ∷ 32 ∷ 48 ∷ 59 ∷ 32 ∷ 69 ∷ 78 ∷ 68 ∷ 32 ∷ 77 ∷ 46 ∷ []); symbols = (symbol (Ident) 0 6 ∷ symbol (Ident) 7 8 ∷ symbol (Ident) 8 9 ∷ symbol (Ident) 10 15 ∷ symbol (Ident) 16 17 ∷ symbol (Ident) 18 19 ∷ symbol (Int (pos 1)) 20 21 ∷ symbol (Ident) 22 25 ∷ symbol (Int (pos 0)) 26 27 ∷ symbol (Ident) 27 28 ∷ symbol (Ident) 29 32 ∷ symbol (Ident) 33 34 ∷ symbol (Ident) 34 35 ∷ []) }; tree = record { module_word = 0; name = 1; semicolon = 0; imports = None; decls = (S.decls (Some (record { const_word = 0; each = (record { name = (record { name = 4; star = None }); equal = 0; value = (S.only (S.simple None (S.term (S.Int 6) (S.multiplied (TheMulOperator.Div 7) (S.Int 8) S.no_factor)) S.no_term)); semicolon = 0 } ∷ []) })) None None S.no_procedure); body = None; end_word = 0; end_name = 11; period = 0 } }

pub const_range_1 : checked (const_range_1_0 ∷ []) ≡ Fault 0 35 20
const_range_1 = refl

-- MODULE M; CONST c = 1 MOD (-1); END M.
abbrev const_range_2_0 : Parsed
const_range_2_0 = record { source = record { bytes = (77 ∷ 79 ∷ 68 ∷ 85 ∷ 76 ∷ 69 ∷ 32 ∷ 77 ∷ 59 ∷ 32 ∷ 67 ∷ 79 ∷ 78 ∷ 83 ∷ 84 ∷ 32 ∷ 99 ∷ 32 ∷ 61 ∷ 32 ∷ 49 ∷ 32 ∷ 77 ∷ 79 ∷ 68 ∷ 32 ∷ 40 ∷ 45 ∷ 49 ∷ 41 ∷ 59 ∷ 32 ∷ 69 ∷ 78 ∷ 68 ∷ 32 ∷ 77 ∷ 46 ∷ []); symbols = (symbol (Ident) 0 6 ∷ symbol (Ident) 7 8 ∷ symbol (Ident) 8 9 ∷ symbol (Ident) 10 15 ∷ symbol (Ident) 16 17 ∷ symbol (Ident) 18 19 ∷ symbol (Int (pos 1)) 20 21 ∷ symbol (Ident) 22 25 ∷ symbol (Ident) 26 27 ∷ symbol (Ident) 27 28 ∷ symbol (Int (pos 1)) 28 29 ∷ symbol (Ident) 29 30 ∷ symbol (Ident) 30 31 ∷ symbol (Ident) 32 35 ∷ symbol (Ident) 36 37 ∷ symbol (Ident) 37 38 ∷ []) }; tree = record { module_word = 0; name = 1; semicolon = 0; imports = None; decls = (S.decls (Some (record { const_word = 0; each = (record { name = (record { name = 4; star = None }); equal = 0; value = (S.only (S.simple None (S.term (S.Int 6) (S.multiplied (TheMulOperator.Mod 7) (S.Paren 8 (S.only (S.simple (Some (TheSign.Minus 9)) (S.term (S.Int 10) S.no_factor) S.no_term)) 0) S.no_factor)) S.no_term)); semicolon = 0 } ∷ []) })) None None S.no_procedure); body = None; end_word = 0; end_name = 14; period = 0 } }

pub const_range_2 : checked (const_range_2_0 ∷ []) ≡ Fault 0 35 20
const_range_2 = refl

-- MODULE M; CONST c = 2; d = 1 + c DIV (c - 2); END M.
abbrev const_range_3_0 : Parsed
const_range_3_0 = record { source = record { bytes = (77 ∷ 79 ∷ 68 ∷ 85 ∷ 76 ∷ 69 ∷ 32 ∷ 77 ∷ 59 ∷ 32 ∷ 67 ∷ 79 ∷ 78 ∷ 83 ∷ 84 ∷ 32 ∷ 99 ∷ 32 ∷ 61 ∷ 32 ∷ 50 ∷ 59 ∷ 32 ∷ 100 ∷ 32 ∷ 61 ∷ 32 ∷ 49 ∷ 32 ∷ 43 ∷ 32 ∷ 99 ∷ 32 ∷ 68 ∷ 73 ∷ 86 ∷ 32 ∷ 40 ∷ 99 ∷ 32 ∷ 45 ∷ 32 ∷ 50 ∷ 41 ∷ 59 ∷ 32 ∷ 69 ∷ 78 ∷ 68 ∷ 32 ∷ 77 ∷ 46 ∷ []); symbols = (symbol (Ident) 0 6 ∷ symbol (Ident) 7 8 ∷ symbol (Ident) 8 9 ∷ symbol (Ident) 10 15 ∷ symbol (Ident) 16 17 ∷ symbol (Ident) 18 19 ∷ symbol (Int (pos 2)) 20 21 ∷ symbol (Ident) 21 22 ∷ symbol (Ident) 23 24 ∷ symbol (Ident) 25 26 ∷ symbol (Int (pos 1)) 27 28 ∷ symbol (Ident) 29 30 ∷ symbol (Ident) 31 32 ∷ symbol (Ident) 33 36 ∷ symbol (Ident) 37 38 ∷ symbol (Ident) 38 39 ∷ symbol (Ident) 40 41 ∷ symbol (Int (pos 2)) 42 43 ∷ symbol (Ident) 43 44 ∷ symbol (Ident) 44 45 ∷ symbol (Ident) 46 49 ∷ symbol (Ident) 50 51 ∷ symbol (Ident) 51 52 ∷ []) }; tree = record { module_word = 0; name = 1; semicolon = 0; imports = None; decls = (S.decls (Some (record { const_word = 0; each = (record { name = (record { name = 4; star = None }); equal = 0; value = (S.only (S.simple None (S.term (S.Int 6) S.no_factor) S.no_term)); semicolon = 0 } ∷ record { name = (record { name = 8; star = None }); equal = 0; value = (S.only (S.simple None (S.term (S.Int 10) S.no_factor) (S.added (TheAddOperator.Plus 11) (S.term (S.Designated 12 S.no_selector) (S.multiplied (TheMulOperator.Div 13) (S.Paren 14 (S.only (S.simple None (S.term (S.Designated 15 S.no_selector) S.no_factor) (S.added (TheAddOperator.Minus 16) (S.term (S.Int 17) S.no_factor) S.no_term))) 0) S.no_factor)) S.no_term))); semicolon = 0 } ∷ []) })) None None S.no_procedure); body = None; end_word = 0; end_name = 21; period = 0 } }

pub const_range_3 : checked (const_range_3_0 ∷ []) ≡ Fault 0 35 27
const_range_3 = refl

-- MODULE M; CONST c = {64}; END M.
abbrev const_range_4_0 : Parsed
const_range_4_0 = record { source = record { bytes = (77 ∷ 79 ∷ 68 ∷ 85 ∷ 76 ∷ 69 ∷ 32 ∷ 77 ∷ 59 ∷ 32 ∷ 67 ∷ 79 ∷ 78 ∷ 83 ∷ 84 ∷ 32 ∷ 99 ∷ 32 ∷ 61 ∷ 32 ∷ 123 ∷ 54 ∷ 52 ∷ 125 ∷ 59 ∷ 32 ∷ 69 ∷ 78 ∷ 68 ∷ 32 ∷ 77 ∷ 46 ∷ []); symbols = (symbol (Ident) 0 6 ∷ symbol (Ident) 7 8 ∷ symbol (Ident) 8 9 ∷ symbol (Ident) 10 15 ∷ symbol (Ident) 16 17 ∷ symbol (Ident) 18 19 ∷ symbol (Ident) 20 21 ∷ symbol (Int (pos 64)) 21 23 ∷ symbol (Ident) 23 24 ∷ symbol (Ident) 24 25 ∷ symbol (Ident) 26 29 ∷ symbol (Ident) 30 31 ∷ symbol (Ident) 31 32 ∷ []) }; tree = record { module_word = 0; name = 1; semicolon = 0; imports = None; decls = (S.decls (Some (record { const_word = 0; each = (record { name = (record { name = 4; star = None }); equal = 0; value = (S.only (S.simple None (S.term (S.Set 6 (S.one (S.only (S.simple None (S.term (S.Int 7) S.no_factor) S.no_term))) S.no_element 0) S.no_factor) S.no_term)); semicolon = 0 } ∷ []) })) None None S.no_procedure); body = None; end_word = 0; end_name = 11; period = 0 } }

pub const_range_4 : checked (const_range_4_0 ∷ []) ≡ Fault 0 35 20
const_range_4 = refl

-- MODULE M; CONST c = {-1..3}; END M.
abbrev const_range_5_0 : Parsed
const_range_5_0 = record { source = record { bytes = (77 ∷ 79 ∷ 68 ∷ 85 ∷ 76 ∷ 69 ∷ 32 ∷ 77 ∷ 59 ∷ 32 ∷ 67 ∷ 79 ∷ 78 ∷ 83 ∷ 84 ∷ 32 ∷ 99 ∷ 32 ∷ 61 ∷ 32 ∷ 123 ∷ 45 ∷ 49 ∷ 46 ∷ 46 ∷ 51 ∷ 125 ∷ 59 ∷ 32 ∷ 69 ∷ 78 ∷ 68 ∷ 32 ∷ 77 ∷ 46 ∷ []); symbols = (symbol (Ident) 0 6 ∷ symbol (Ident) 7 8 ∷ symbol (Ident) 8 9 ∷ symbol (Ident) 10 15 ∷ symbol (Ident) 16 17 ∷ symbol (Ident) 18 19 ∷ symbol (Ident) 20 21 ∷ symbol (Ident) 21 22 ∷ symbol (Int (pos 1)) 22 23 ∷ symbol (Ident) 23 25 ∷ symbol (Int (pos 3)) 25 26 ∷ symbol (Ident) 26 27 ∷ symbol (Ident) 27 28 ∷ symbol (Ident) 29 32 ∷ symbol (Ident) 33 34 ∷ symbol (Ident) 34 35 ∷ []) }; tree = record { module_word = 0; name = 1; semicolon = 0; imports = None; decls = (S.decls (Some (record { const_word = 0; each = (record { name = (record { name = 4; star = None }); equal = 0; value = (S.only (S.simple None (S.term (S.Set 6 (S.range (S.only (S.simple (Some (TheSign.Minus 7)) (S.term (S.Int 8) S.no_factor) S.no_term)) 0 (S.only (S.simple None (S.term (S.Int 10) S.no_factor) S.no_term))) S.no_element 0) S.no_factor) S.no_term)); semicolon = 0 } ∷ []) })) None None S.no_procedure); body = None; end_word = 0; end_name = 14; period = 0 } }

pub const_range_5 : checked (const_range_5_0 ∷ []) ≡ Fault 0 35 20
const_range_5 = refl

-- MODULE M; CONST c = 64 IN {1}; END M.
abbrev const_range_6_0 : Parsed
const_range_6_0 = record { source = record { bytes = (77 ∷ 79 ∷ 68 ∷ 85 ∷ 76 ∷ 69 ∷ 32 ∷ 77 ∷ 59 ∷ 32 ∷ 67 ∷ 79 ∷ 78 ∷ 83 ∷ 84 ∷ 32 ∷ 99 ∷ 32 ∷ 61 ∷ 32 ∷ 54 ∷ 52 ∷ 32 ∷ 73 ∷ 78 ∷ 32 ∷ 123 ∷ 49 ∷ 125 ∷ 59 ∷ 32 ∷ 69 ∷ 78 ∷ 68 ∷ 32 ∷ 77 ∷ 46 ∷ []); symbols = (symbol (Ident) 0 6 ∷ symbol (Ident) 7 8 ∷ symbol (Ident) 8 9 ∷ symbol (Ident) 10 15 ∷ symbol (Ident) 16 17 ∷ symbol (Ident) 18 19 ∷ symbol (Int (pos 64)) 20 22 ∷ symbol (Ident) 23 25 ∷ symbol (Ident) 26 27 ∷ symbol (Int (pos 1)) 27 28 ∷ symbol (Ident) 28 29 ∷ symbol (Ident) 29 30 ∷ symbol (Ident) 31 34 ∷ symbol (Ident) 35 36 ∷ symbol (Ident) 36 37 ∷ []) }; tree = record { module_word = 0; name = 1; semicolon = 0; imports = None; decls = (S.decls (Some (record { const_word = 0; each = (record { name = (record { name = 4; star = None }); equal = 0; value = (S.compared (S.simple None (S.term (S.Int 6) S.no_factor) S.no_term) (TheRelation.In 7) (S.simple None (S.term (S.Set 8 (S.one (S.only (S.simple None (S.term (S.Int 9) S.no_factor) S.no_term))) S.no_element 0) S.no_factor) S.no_term)); semicolon = 0 } ∷ []) })) None None S.no_procedure); body = None; end_word = 0; end_name = 13; period = 0 } }

pub const_range_6 : checked (const_range_6_0 ∷ []) ≡ Fault 0 35 20
const_range_6 = refl

-- MODULE M; CONST c = CHR(256); END M.
abbrev const_range_7_0 : Parsed
const_range_7_0 = record { source = record { bytes = (77 ∷ 79 ∷ 68 ∷ 85 ∷ 76 ∷ 69 ∷ 32 ∷ 77 ∷ 59 ∷ 32 ∷ 67 ∷ 79 ∷ 78 ∷ 83 ∷ 84 ∷ 32 ∷ 99 ∷ 32 ∷ 61 ∷ 32 ∷ 67 ∷ 72 ∷ 82 ∷ 40 ∷ 50 ∷ 53 ∷ 54 ∷ 41 ∷ 59 ∷ 32 ∷ 69 ∷ 78 ∷ 68 ∷ 32 ∷ 77 ∷ 46 ∷ []); symbols = (symbol (Ident) 0 6 ∷ symbol (Ident) 7 8 ∷ symbol (Ident) 8 9 ∷ symbol (Ident) 10 15 ∷ symbol (Ident) 16 17 ∷ symbol (Ident) 18 19 ∷ symbol (Ident) 20 23 ∷ symbol (Ident) 23 24 ∷ symbol (Int (pos 256)) 24 27 ∷ symbol (Ident) 27 28 ∷ symbol (Ident) 28 29 ∷ symbol (Ident) 30 33 ∷ symbol (Ident) 34 35 ∷ symbol (Ident) 35 36 ∷ []) }; tree = record { module_word = 0; name = 1; semicolon = 0; imports = None; decls = (S.decls (Some (record { const_word = 0; each = (record { name = (record { name = 4; star = None }); equal = 0; value = (S.only (S.simple None (S.term (S.Designated 6 (S.selected (S.Parens 0 (S.expressions (S.only (S.simple None (S.term (S.Int 8) S.no_factor) S.no_term)) S.no_expression) 0) S.no_selector)) S.no_factor) S.no_term)); semicolon = 0 } ∷ []) })) None None S.no_procedure); body = None; end_word = 0; end_name = 12; period = 0 } }

pub const_range_7 : checked (const_range_7_0 ∷ []) ≡ Fault 0 35 20
const_range_7 = refl

-- MODULE M; CONST c = CHR(-1); END M.
abbrev const_range_8_0 : Parsed
const_range_8_0 = record { source = record { bytes = (77 ∷ 79 ∷ 68 ∷ 85 ∷ 76 ∷ 69 ∷ 32 ∷ 77 ∷ 59 ∷ 32 ∷ 67 ∷ 79 ∷ 78 ∷ 83 ∷ 84 ∷ 32 ∷ 99 ∷ 32 ∷ 61 ∷ 32 ∷ 67 ∷ 72 ∷ 82 ∷ 40 ∷ 45 ∷ 49 ∷ 41 ∷ 59 ∷ 32 ∷ 69 ∷ 78 ∷ 68 ∷ 32 ∷ 77 ∷ 46 ∷ []); symbols = (symbol (Ident) 0 6 ∷ symbol (Ident) 7 8 ∷ symbol (Ident) 8 9 ∷ symbol (Ident) 10 15 ∷ symbol (Ident) 16 17 ∷ symbol (Ident) 18 19 ∷ symbol (Ident) 20 23 ∷ symbol (Ident) 23 24 ∷ symbol (Ident) 24 25 ∷ symbol (Int (pos 1)) 25 26 ∷ symbol (Ident) 26 27 ∷ symbol (Ident) 27 28 ∷ symbol (Ident) 29 32 ∷ symbol (Ident) 33 34 ∷ symbol (Ident) 34 35 ∷ []) }; tree = record { module_word = 0; name = 1; semicolon = 0; imports = None; decls = (S.decls (Some (record { const_word = 0; each = (record { name = (record { name = 4; star = None }); equal = 0; value = (S.only (S.simple None (S.term (S.Designated 6 (S.selected (S.Parens 0 (S.expressions (S.only (S.simple (Some (TheSign.Minus 8)) (S.term (S.Int 9) S.no_factor) S.no_term)) S.no_expression) 0) S.no_selector)) S.no_factor) S.no_term)); semicolon = 0 } ∷ []) })) None None S.no_procedure); body = None; end_word = 0; end_name = 13; period = 0 } }

pub const_range_8 : checked (const_range_8_0 ∷ []) ≡ Fault 0 35 20
const_range_8 = refl

-- MODULE M; TYPE A = ARRAY 0 OF CHAR; END M.
abbrev const_range_9_0 : Parsed
const_range_9_0 = record { source = record { bytes = (77 ∷ 79 ∷ 68 ∷ 85 ∷ 76 ∷ 69 ∷ 32 ∷ 77 ∷ 59 ∷ 32 ∷ 84 ∷ 89 ∷ 80 ∷ 69 ∷ 32 ∷ 65 ∷ 32 ∷ 61 ∷ 32 ∷ 65 ∷ 82 ∷ 82 ∷ 65 ∷ 89 ∷ 32 ∷ 48 ∷ 32 ∷ 79 ∷ 70 ∷ 32 ∷ 67 ∷ 72 ∷ 65 ∷ 82 ∷ 59 ∷ 32 ∷ 69 ∷ 78 ∷ 68 ∷ 32 ∷ 77 ∷ 46 ∷ []); symbols = (symbol (Ident) 0 6 ∷ symbol (Ident) 7 8 ∷ symbol (Ident) 8 9 ∷ symbol (Ident) 10 14 ∷ symbol (Ident) 15 16 ∷ symbol (Ident) 17 18 ∷ symbol (Ident) 19 24 ∷ symbol (Int (pos 0)) 25 26 ∷ symbol (Ident) 27 29 ∷ symbol (Ident) 30 34 ∷ symbol (Ident) 34 35 ∷ symbol (Ident) 36 39 ∷ symbol (Ident) 40 41 ∷ symbol (Ident) 41 42 ∷ []) }; tree = record { module_word = 0; name = 1; semicolon = 0; imports = None; decls = (S.decls None (Some (record { type_word = 0; each = (record { name = (record { name = 4; star = None }); equal = 0; is = (S.Array 6 (S.only (S.simple None (S.term (S.Int 7) S.no_factor) S.no_term)) S.no_expression 0 (S.Named (record { name = 9; member = None }))); semicolon = 0 } ∷ []) })) None S.no_procedure); body = None; end_word = 0; end_name = 12; period = 0 } }

pub const_range_9 : checked (const_range_9_0 ∷ []) ≡ Fault 0 35 25
const_range_9 = refl

-- MODULE M; TYPE A = ARRAY -1 OF CHAR; END M.
abbrev const_range_10_0 : Parsed
const_range_10_0 = record { source = record { bytes = (77 ∷ 79 ∷ 68 ∷ 85 ∷ 76 ∷ 69 ∷ 32 ∷ 77 ∷ 59 ∷ 32 ∷ 84 ∷ 89 ∷ 80 ∷ 69 ∷ 32 ∷ 65 ∷ 32 ∷ 61 ∷ 32 ∷ 65 ∷ 82 ∷ 82 ∷ 65 ∷ 89 ∷ 32 ∷ 45 ∷ 49 ∷ 32 ∷ 79 ∷ 70 ∷ 32 ∷ 67 ∷ 72 ∷ 65 ∷ 82 ∷ 59 ∷ 32 ∷ 69 ∷ 78 ∷ 68 ∷ 32 ∷ 77 ∷ 46 ∷ []); symbols = (symbol (Ident) 0 6 ∷ symbol (Ident) 7 8 ∷ symbol (Ident) 8 9 ∷ symbol (Ident) 10 14 ∷ symbol (Ident) 15 16 ∷ symbol (Ident) 17 18 ∷ symbol (Ident) 19 24 ∷ symbol (Ident) 25 26 ∷ symbol (Int (pos 1)) 26 27 ∷ symbol (Ident) 28 30 ∷ symbol (Ident) 31 35 ∷ symbol (Ident) 35 36 ∷ symbol (Ident) 37 40 ∷ symbol (Ident) 41 42 ∷ symbol (Ident) 42 43 ∷ []) }; tree = record { module_word = 0; name = 1; semicolon = 0; imports = None; decls = (S.decls None (Some (record { type_word = 0; each = (record { name = (record { name = 4; star = None }); equal = 0; is = (S.Array 6 (S.only (S.simple (Some (TheSign.Minus 7)) (S.term (S.Int 8) S.no_factor) S.no_term)) S.no_expression 0 (S.Named (record { name = 10; member = None }))); semicolon = 0 } ∷ []) })) None S.no_procedure); body = None; end_word = 0; end_name = 13; period = 0 } }

pub const_range_10 : checked (const_range_10_0 ∷ []) ≡ Fault 0 35 25
const_range_10 = refl

-- MODULE M; TYPE A = ARRAY 1048577 OF CHAR; END M.
abbrev const_range_11_0 : Parsed
const_range_11_0 = record { source = record { bytes = (77 ∷ 79 ∷ 68 ∷ 85 ∷ 76 ∷ 69 ∷ 32 ∷ 77 ∷ 59 ∷ 32 ∷ 84 ∷ 89 ∷ 80 ∷ 69 ∷ 32 ∷ 65 ∷ 32 ∷ 61 ∷ 32 ∷ 65 ∷ 82 ∷ 82 ∷ 65 ∷ 89 ∷ 32 ∷ 49 ∷ 48 ∷ 52 ∷ 56 ∷ 53 ∷ 55 ∷ 55 ∷ 32 ∷ 79 ∷ 70 ∷ 32 ∷ 67 ∷ 72 ∷ 65 ∷ 82 ∷ 59 ∷ 32 ∷ 69 ∷ 78 ∷ 68 ∷ 32 ∷ 77 ∷ 46 ∷ []); symbols = (symbol (Ident) 0 6 ∷ symbol (Ident) 7 8 ∷ symbol (Ident) 8 9 ∷ symbol (Ident) 10 14 ∷ symbol (Ident) 15 16 ∷ symbol (Ident) 17 18 ∷ symbol (Ident) 19 24 ∷ symbol (Int (pos 1048577)) 25 32 ∷ symbol (Ident) 33 35 ∷ symbol (Ident) 36 40 ∷ symbol (Ident) 40 41 ∷ symbol (Ident) 42 45 ∷ symbol (Ident) 46 47 ∷ symbol (Ident) 47 48 ∷ []) }; tree = record { module_word = 0; name = 1; semicolon = 0; imports = None; decls = (S.decls None (Some (record { type_word = 0; each = (record { name = (record { name = 4; star = None }); equal = 0; is = (S.Array 6 (S.only (S.simple None (S.term (S.Int 7) S.no_factor) S.no_term)) S.no_expression 0 (S.Named (record { name = 9; member = None }))); semicolon = 0 } ∷ []) })) None S.no_procedure); body = None; end_word = 0; end_name = 12; period = 0 } }

pub const_range_11 : checked (const_range_11_0 ∷ []) ≡ Fault 0 35 25
const_range_11 = refl

-- MODULE M; TYPE A = ARRAY 1048576 OF CHAR; END M.
abbrev const_range_12_0 : Parsed
const_range_12_0 = record { source = record { bytes = (77 ∷ 79 ∷ 68 ∷ 85 ∷ 76 ∷ 69 ∷ 32 ∷ 77 ∷ 59 ∷ 32 ∷ 84 ∷ 89 ∷ 80 ∷ 69 ∷ 32 ∷ 65 ∷ 32 ∷ 61 ∷ 32 ∷ 65 ∷ 82 ∷ 82 ∷ 65 ∷ 89 ∷ 32 ∷ 49 ∷ 48 ∷ 52 ∷ 56 ∷ 53 ∷ 55 ∷ 54 ∷ 32 ∷ 79 ∷ 70 ∷ 32 ∷ 67 ∷ 72 ∷ 65 ∷ 82 ∷ 59 ∷ 32 ∷ 69 ∷ 78 ∷ 68 ∷ 32 ∷ 77 ∷ 46 ∷ []); symbols = (symbol (Ident) 0 6 ∷ symbol (Ident) 7 8 ∷ symbol (Ident) 8 9 ∷ symbol (Ident) 10 14 ∷ symbol (Ident) 15 16 ∷ symbol (Ident) 17 18 ∷ symbol (Ident) 19 24 ∷ symbol (Int (pos 1048576)) 25 32 ∷ symbol (Ident) 33 35 ∷ symbol (Ident) 36 40 ∷ symbol (Ident) 40 41 ∷ symbol (Ident) 42 45 ∷ symbol (Ident) 46 47 ∷ symbol (Ident) 47 48 ∷ []) }; tree = record { module_word = 0; name = 1; semicolon = 0; imports = None; decls = (S.decls None (Some (record { type_word = 0; each = (record { name = (record { name = 4; star = None }); equal = 0; is = (S.Array 6 (S.only (S.simple None (S.term (S.Int 7) S.no_factor) S.no_term)) S.no_expression 0 (S.Named (record { name = 9; member = None }))); semicolon = 0 } ∷ []) })) None S.no_procedure); body = None; end_word = 0; end_name = 12; period = 0 } }

pub const_range_12 : checked (const_range_12_0 ∷ []) ≡ Legal (record { records = []; pointers = []; modules = (record { name = (77 ∷ []); objects = (record { name = (65 ∷ []); exported = false; entity = I.OfType (H.Array 1048576 H.Char) } ∷ []); variables = []; body = 0 } ∷ []); procedures = (record { module_number = 0; line = 1; is_body = true; formals = []; result = H.Nothing; locals = []; texts = []; body = I.no_statement; answer = None } ∷ []); imports_in = false })
const_range_12 = refl

-- MODULE M; TYPE A = ARRAY 1024, 1025 OF CHAR; END M.
abbrev const_range_13_0 : Parsed
const_range_13_0 = record { source = record { bytes = (77 ∷ 79 ∷ 68 ∷ 85 ∷ 76 ∷ 69 ∷ 32 ∷ 77 ∷ 59 ∷ 32 ∷ 84 ∷ 89 ∷ 80 ∷ 69 ∷ 32 ∷ 65 ∷ 32 ∷ 61 ∷ 32 ∷ 65 ∷ 82 ∷ 82 ∷ 65 ∷ 89 ∷ 32 ∷ 49 ∷ 48 ∷ 50 ∷ 52 ∷ 44 ∷ 32 ∷ 49 ∷ 48 ∷ 50 ∷ 53 ∷ 32 ∷ 79 ∷ 70 ∷ 32 ∷ 67 ∷ 72 ∷ 65 ∷ 82 ∷ 59 ∷ 32 ∷ 69 ∷ 78 ∷ 68 ∷ 32 ∷ 77 ∷ 46 ∷ []); symbols = (symbol (Ident) 0 6 ∷ symbol (Ident) 7 8 ∷ symbol (Ident) 8 9 ∷ symbol (Ident) 10 14 ∷ symbol (Ident) 15 16 ∷ symbol (Ident) 17 18 ∷ symbol (Ident) 19 24 ∷ symbol (Int (pos 1024)) 25 29 ∷ symbol (Ident) 29 30 ∷ symbol (Int (pos 1025)) 31 35 ∷ symbol (Ident) 36 38 ∷ symbol (Ident) 39 43 ∷ symbol (Ident) 43 44 ∷ symbol (Ident) 45 48 ∷ symbol (Ident) 49 50 ∷ symbol (Ident) 50 51 ∷ []) }; tree = record { module_word = 0; name = 1; semicolon = 0; imports = None; decls = (S.decls None (Some (record { type_word = 0; each = (record { name = (record { name = 4; star = None }); equal = 0; is = (S.Array 6 (S.only (S.simple None (S.term (S.Int 7) S.no_factor) S.no_term)) (S.next_expression 0 (S.only (S.simple None (S.term (S.Int 9) S.no_factor) S.no_term)) S.no_expression) 0 (S.Named (record { name = 11; member = None }))); semicolon = 0 } ∷ []) })) None S.no_procedure); body = None; end_word = 0; end_name = 14; period = 0 } }

pub const_range_13 : checked (const_range_13_0 ∷ []) ≡ Fault 0 35 19
const_range_13 = refl

-- MODULE M; TYPE A = ARRAY 1024, 1024 OF CHAR; END M.
abbrev const_range_14_0 : Parsed
const_range_14_0 = record { source = record { bytes = (77 ∷ 79 ∷ 68 ∷ 85 ∷ 76 ∷ 69 ∷ 32 ∷ 77 ∷ 59 ∷ 32 ∷ 84 ∷ 89 ∷ 80 ∷ 69 ∷ 32 ∷ 65 ∷ 32 ∷ 61 ∷ 32 ∷ 65 ∷ 82 ∷ 82 ∷ 65 ∷ 89 ∷ 32 ∷ 49 ∷ 48 ∷ 50 ∷ 52 ∷ 44 ∷ 32 ∷ 49 ∷ 48 ∷ 50 ∷ 52 ∷ 32 ∷ 79 ∷ 70 ∷ 32 ∷ 67 ∷ 72 ∷ 65 ∷ 82 ∷ 59 ∷ 32 ∷ 69 ∷ 78 ∷ 68 ∷ 32 ∷ 77 ∷ 46 ∷ []); symbols = (symbol (Ident) 0 6 ∷ symbol (Ident) 7 8 ∷ symbol (Ident) 8 9 ∷ symbol (Ident) 10 14 ∷ symbol (Ident) 15 16 ∷ symbol (Ident) 17 18 ∷ symbol (Ident) 19 24 ∷ symbol (Int (pos 1024)) 25 29 ∷ symbol (Ident) 29 30 ∷ symbol (Int (pos 1024)) 31 35 ∷ symbol (Ident) 36 38 ∷ symbol (Ident) 39 43 ∷ symbol (Ident) 43 44 ∷ symbol (Ident) 45 48 ∷ symbol (Ident) 49 50 ∷ symbol (Ident) 50 51 ∷ []) }; tree = record { module_word = 0; name = 1; semicolon = 0; imports = None; decls = (S.decls None (Some (record { type_word = 0; each = (record { name = (record { name = 4; star = None }); equal = 0; is = (S.Array 6 (S.only (S.simple None (S.term (S.Int 7) S.no_factor) S.no_term)) (S.next_expression 0 (S.only (S.simple None (S.term (S.Int 9) S.no_factor) S.no_term)) S.no_expression) 0 (S.Named (record { name = 11; member = None }))); semicolon = 0 } ∷ []) })) None S.no_procedure); body = None; end_word = 0; end_name = 14; period = 0 } }

pub const_range_14 : checked (const_range_14_0 ∷ []) ≡ Legal (record { records = []; pointers = []; modules = (record { name = (77 ∷ []); objects = (record { name = (65 ∷ []); exported = false; entity = I.OfType (H.Array 1024 (H.Array 1024 H.Char)) } ∷ []); variables = []; body = 0 } ∷ []); procedures = (record { module_number = 0; line = 1; is_body = true; formals = []; result = H.Nothing; locals = []; texts = []; body = I.no_statement; answer = None } ∷ []); imports_in = false })
const_range_14 = refl

-- MODULE M; TYPE A = ARRAY 1024 OF ARRAY 1025 OF CHAR; END M.
abbrev const_range_15_0 : Parsed
const_range_15_0 = record { source = record { bytes = (77 ∷ 79 ∷ 68 ∷ 85 ∷ 76 ∷ 69 ∷ 32 ∷ 77 ∷ 59 ∷ 32 ∷ 84 ∷ 89 ∷ 80 ∷ 69 ∷ 32 ∷ 65 ∷ 32 ∷ 61 ∷ 32 ∷ 65 ∷ 82 ∷ 82 ∷ 65 ∷ 89 ∷ 32 ∷ 49 ∷ 48 ∷ 50 ∷ 52 ∷ 32 ∷ 79 ∷ 70 ∷ 32 ∷ 65 ∷ 82 ∷ 82 ∷ 65 ∷ 89 ∷ 32 ∷ 49 ∷ 48 ∷ 50 ∷ 53 ∷ 32 ∷ 79 ∷ 70 ∷ 32 ∷ 67 ∷ 72 ∷ 65 ∷ 82 ∷ 59 ∷ 32 ∷ 69 ∷ 78 ∷ 68 ∷ 32 ∷ 77 ∷ 46 ∷ []); symbols = (symbol (Ident) 0 6 ∷ symbol (Ident) 7 8 ∷ symbol (Ident) 8 9 ∷ symbol (Ident) 10 14 ∷ symbol (Ident) 15 16 ∷ symbol (Ident) 17 18 ∷ symbol (Ident) 19 24 ∷ symbol (Int (pos 1024)) 25 29 ∷ symbol (Ident) 30 32 ∷ symbol (Ident) 33 38 ∷ symbol (Int (pos 1025)) 39 43 ∷ symbol (Ident) 44 46 ∷ symbol (Ident) 47 51 ∷ symbol (Ident) 51 52 ∷ symbol (Ident) 53 56 ∷ symbol (Ident) 57 58 ∷ symbol (Ident) 58 59 ∷ []) }; tree = record { module_word = 0; name = 1; semicolon = 0; imports = None; decls = (S.decls None (Some (record { type_word = 0; each = (record { name = (record { name = 4; star = None }); equal = 0; is = (S.Array 6 (S.only (S.simple None (S.term (S.Int 7) S.no_factor) S.no_term)) S.no_expression 0 (S.Array 9 (S.only (S.simple None (S.term (S.Int 10) S.no_factor) S.no_term)) S.no_expression 0 (S.Named (record { name = 12; member = None })))); semicolon = 0 } ∷ []) })) None S.no_procedure); body = None; end_word = 0; end_name = 15; period = 0 } }

pub const_range_15 : checked (const_range_15_0 ∷ []) ≡ Fault 0 35 19
const_range_15 = refl

-- MODULE M; TYPE R = RECORD a: ARRAY 1048576 OF CHAR; x: INTEGER END; END M.
abbrev const_range_16_0 : Parsed
const_range_16_0 = record { source = record { bytes = (77 ∷ 79 ∷ 68 ∷ 85 ∷ 76 ∷ 69 ∷ 32 ∷ 77 ∷ 59 ∷ 32 ∷ 84 ∷ 89 ∷ 80 ∷ 69 ∷ 32 ∷ 82 ∷ 32 ∷ 61 ∷ 32 ∷ 82 ∷ 69 ∷ 67 ∷ 79 ∷ 82 ∷ 68 ∷ 32 ∷ 97 ∷ 58 ∷ 32 ∷ 65 ∷ 82 ∷ 82 ∷ 65 ∷ 89 ∷ 32 ∷ 49 ∷ 48 ∷ 52 ∷ 56 ∷ 53 ∷ 55 ∷ 54 ∷ 32 ∷ 79 ∷ 70 ∷ 32 ∷ 67 ∷ 72 ∷ 65 ∷ 82 ∷ 59 ∷ 32 ∷ 120 ∷ 58 ∷ 32 ∷ 73 ∷ 78 ∷ 84 ∷ 69 ∷ 71 ∷ 69 ∷ 82 ∷ 32 ∷ 69 ∷ 78 ∷ 68 ∷ 59 ∷ 32 ∷ 69 ∷ 78 ∷ 68 ∷ 32 ∷ 77 ∷ 46 ∷ []); symbols = (symbol (Ident) 0 6 ∷ symbol (Ident) 7 8 ∷ symbol (Ident) 8 9 ∷ symbol (Ident) 10 14 ∷ symbol (Ident) 15 16 ∷ symbol (Ident) 17 18 ∷ symbol (Ident) 19 25 ∷ symbol (Ident) 26 27 ∷ symbol (Ident) 27 28 ∷ symbol (Ident) 29 34 ∷ symbol (Int (pos 1048576)) 35 42 ∷ symbol (Ident) 43 45 ∷ symbol (Ident) 46 50 ∷ symbol (Ident) 50 51 ∷ symbol (Ident) 52 53 ∷ symbol (Ident) 53 54 ∷ symbol (Ident) 55 62 ∷ symbol (Ident) 63 66 ∷ symbol (Ident) 66 67 ∷ symbol (Ident) 68 71 ∷ symbol (Ident) 72 73 ∷ symbol (Ident) 73 74 ∷ []) }; tree = record { module_word = 0; name = 1; semicolon = 0; imports = None; decls = (S.decls None (Some (record { type_word = 0; each = (record { name = (record { name = 4; star = None }); equal = 0; is = (S.Record 6 None (S.fields (record { first = (record { name = 7; star = None }); more = [] }) 0 (S.Array 9 (S.only (S.simple None (S.term (S.Int 10) S.no_factor) S.no_term)) S.no_expression 0 (S.Named (record { name = 12; member = None })))) (S.next_fields 0 (S.fields (record { first = (record { name = 14; star = None }); more = [] }) 0 (S.Named (record { name = 16; member = None }))) S.no_more_fields) 0); semicolon = 0 } ∷ []) })) None S.no_procedure); body = None; end_word = 0; end_name = 20; period = 0 } }

pub const_range_16 : checked (const_range_16_0 ∷ []) ≡ Fault 0 35 19
const_range_16 = refl

-- MODULE M; TYPE R = RECORD a: ARRAY 1048576 OF CHAR END; E = RECORD (R) END; F = RECORD (R) c: CHAR END; END M.
abbrev const_range_17_0 : Parsed
const_range_17_0 = record { source = record { bytes = (77 ∷ 79 ∷ 68 ∷ 85 ∷ 76 ∷ 69 ∷ 32 ∷ 77 ∷ 59 ∷ 32 ∷ 84 ∷ 89 ∷ 80 ∷ 69 ∷ 32 ∷ 82 ∷ 32 ∷ 61 ∷ 32 ∷ 82 ∷ 69 ∷ 67 ∷ 79 ∷ 82 ∷ 68 ∷ 32 ∷ 97 ∷ 58 ∷ 32 ∷ 65 ∷ 82 ∷ 82 ∷ 65 ∷ 89 ∷ 32 ∷ 49 ∷ 48 ∷ 52 ∷ 56 ∷ 53 ∷ 55 ∷ 54 ∷ 32 ∷ 79 ∷ 70 ∷ 32 ∷ 67 ∷ 72 ∷ 65 ∷ 82 ∷ 32 ∷ 69 ∷ 78 ∷ 68 ∷ 59 ∷ 32 ∷ 69 ∷ 32 ∷ 61 ∷ 32 ∷ 82 ∷ 69 ∷ 67 ∷ 79 ∷ 82 ∷ 68 ∷ 32 ∷ 40 ∷ 82 ∷ 41 ∷ 32 ∷ 69 ∷ 78 ∷ 68 ∷ 59 ∷ 32 ∷ 70 ∷ 32 ∷ 61 ∷ 32 ∷ 82 ∷ 69 ∷ 67 ∷ 79 ∷ 82 ∷ 68 ∷ 32 ∷ 40 ∷ 82 ∷ 41 ∷ 32 ∷ 99 ∷ 58 ∷ 32 ∷ 67 ∷ 72 ∷ 65 ∷ 82 ∷ 32 ∷ 69 ∷ 78 ∷ 68 ∷ 59 ∷ 32 ∷ 69 ∷ 78 ∷ 68 ∷ 32 ∷ 77 ∷ 46 ∷ []); symbols = (symbol (Ident) 0 6 ∷ symbol (Ident) 7 8 ∷ symbol (Ident) 8 9 ∷ symbol (Ident) 10 14 ∷ symbol (Ident) 15 16 ∷ symbol (Ident) 17 18 ∷ symbol (Ident) 19 25 ∷ symbol (Ident) 26 27 ∷ symbol (Ident) 27 28 ∷ symbol (Ident) 29 34 ∷ symbol (Int (pos 1048576)) 35 42 ∷ symbol (Ident) 43 45 ∷ symbol (Ident) 46 50 ∷ symbol (Ident) 51 54 ∷ symbol (Ident) 54 55 ∷ symbol (Ident) 56 57 ∷ symbol (Ident) 58 59 ∷ symbol (Ident) 60 66 ∷ symbol (Ident) 67 68 ∷ symbol (Ident) 68 69 ∷ symbol (Ident) 69 70 ∷ symbol (Ident) 71 74 ∷ symbol (Ident) 74 75 ∷ symbol (Ident) 76 77 ∷ symbol (Ident) 78 79 ∷ symbol (Ident) 80 86 ∷ symbol (Ident) 87 88 ∷ symbol (Ident) 88 89 ∷ symbol (Ident) 89 90 ∷ symbol (Ident) 91 92 ∷ symbol (Ident) 92 93 ∷ symbol (Ident) 94 98 ∷ symbol (Ident) 99 102 ∷ symbol (Ident) 102 103 ∷ symbol (Ident) 104 107 ∷ symbol (Ident) 108 109 ∷ symbol (Ident) 109 110 ∷ []) }; tree = record { module_word = 0; name = 1; semicolon = 0; imports = None; decls = (S.decls None (Some (record { type_word = 0; each = (record { name = (record { name = 4; star = None }); equal = 0; is = (S.Record 6 None (S.fields (record { first = (record { name = 7; star = None }); more = [] }) 0 (S.Array 9 (S.only (S.simple None (S.term (S.Int 10) S.no_factor) S.no_term)) S.no_expression 0 (S.Named (record { name = 12; member = None })))) S.no_more_fields 0); semicolon = 0 } ∷ record { name = (record { name = 15; star = None }); equal = 0; is = (S.Record 17 (Some (record { left_paren = 0; name = (record { name = 19; member = None }); right_paren = 0 })) S.no_fields S.no_more_fields 0); semicolon = 0 } ∷ record { name = (record { name = 23; star = None }); equal = 0; is = (S.Record 25 (Some (record { left_paren = 0; name = (record { name = 27; member = None }); right_paren = 0 })) (S.fields (record { first = (record { name = 29; star = None }); more = [] }) 0 (S.Named (record { name = 31; member = None }))) S.no_more_fields 0); semicolon = 0 } ∷ []) })) None S.no_procedure); body = None; end_word = 0; end_name = 35; period = 0 } }

pub const_range_17 : checked (const_range_17_0 ∷ []) ≡ Fault 0 35 80
const_range_17 = refl

-- MODULE M; TYPE A = ARRAY 1048576 OF RECORD a, b: CHAR END; END M.
abbrev const_range_18_0 : Parsed
const_range_18_0 = record { source = record { bytes = (77 ∷ 79 ∷ 68 ∷ 85 ∷ 76 ∷ 69 ∷ 32 ∷ 77 ∷ 59 ∷ 32 ∷ 84 ∷ 89 ∷ 80 ∷ 69 ∷ 32 ∷ 65 ∷ 32 ∷ 61 ∷ 32 ∷ 65 ∷ 82 ∷ 82 ∷ 65 ∷ 89 ∷ 32 ∷ 49 ∷ 48 ∷ 52 ∷ 56 ∷ 53 ∷ 55 ∷ 54 ∷ 32 ∷ 79 ∷ 70 ∷ 32 ∷ 82 ∷ 69 ∷ 67 ∷ 79 ∷ 82 ∷ 68 ∷ 32 ∷ 97 ∷ 44 ∷ 32 ∷ 98 ∷ 58 ∷ 32 ∷ 67 ∷ 72 ∷ 65 ∷ 82 ∷ 32 ∷ 69 ∷ 78 ∷ 68 ∷ 59 ∷ 32 ∷ 69 ∷ 78 ∷ 68 ∷ 32 ∷ 77 ∷ 46 ∷ []); symbols = (symbol (Ident) 0 6 ∷ symbol (Ident) 7 8 ∷ symbol (Ident) 8 9 ∷ symbol (Ident) 10 14 ∷ symbol (Ident) 15 16 ∷ symbol (Ident) 17 18 ∷ symbol (Ident) 19 24 ∷ symbol (Int (pos 1048576)) 25 32 ∷ symbol (Ident) 33 35 ∷ symbol (Ident) 36 42 ∷ symbol (Ident) 43 44 ∷ symbol (Ident) 44 45 ∷ symbol (Ident) 46 47 ∷ symbol (Ident) 47 48 ∷ symbol (Ident) 49 53 ∷ symbol (Ident) 54 57 ∷ symbol (Ident) 57 58 ∷ symbol (Ident) 59 62 ∷ symbol (Ident) 63 64 ∷ symbol (Ident) 64 65 ∷ []) }; tree = record { module_word = 0; name = 1; semicolon = 0; imports = None; decls = (S.decls None (Some (record { type_word = 0; each = (record { name = (record { name = 4; star = None }); equal = 0; is = (S.Array 6 (S.only (S.simple None (S.term (S.Int 7) S.no_factor) S.no_term)) S.no_expression 0 (S.Record 9 None (S.fields (record { first = (record { name = 10; star = None }); more = (record { comma = 0; name = (record { name = 12; star = None }) } ∷ []) }) 0 (S.Named (record { name = 14; member = None }))) S.no_more_fields 0)); semicolon = 0 } ∷ []) })) None S.no_procedure); body = None; end_word = 0; end_name = 18; period = 0 } }

pub const_range_18 : checked (const_range_18_0 ∷ []) ≡ Fault 0 35 19
const_range_18 = refl

-- MODULE M; TYPE A = ARRAY 1048576, 1048576 OF RECORD END; END M.
abbrev const_range_19_0 : Parsed
const_range_19_0 = record { source = record { bytes = (77 ∷ 79 ∷ 68 ∷ 85 ∷ 76 ∷ 69 ∷ 32 ∷ 77 ∷ 59 ∷ 32 ∷ 84 ∷ 89 ∷ 80 ∷ 69 ∷ 32 ∷ 65 ∷ 32 ∷ 61 ∷ 32 ∷ 65 ∷ 82 ∷ 82 ∷ 65 ∷ 89 ∷ 32 ∷ 49 ∷ 48 ∷ 52 ∷ 56 ∷ 53 ∷ 55 ∷ 54 ∷ 44 ∷ 32 ∷ 49 ∷ 48 ∷ 52 ∷ 56 ∷ 53 ∷ 55 ∷ 54 ∷ 32 ∷ 79 ∷ 70 ∷ 32 ∷ 82 ∷ 69 ∷ 67 ∷ 79 ∷ 82 ∷ 68 ∷ 32 ∷ 69 ∷ 78 ∷ 68 ∷ 59 ∷ 32 ∷ 69 ∷ 78 ∷ 68 ∷ 32 ∷ 77 ∷ 46 ∷ []); symbols = (symbol (Ident) 0 6 ∷ symbol (Ident) 7 8 ∷ symbol (Ident) 8 9 ∷ symbol (Ident) 10 14 ∷ symbol (Ident) 15 16 ∷ symbol (Ident) 17 18 ∷ symbol (Ident) 19 24 ∷ symbol (Int (pos 1048576)) 25 32 ∷ symbol (Ident) 32 33 ∷ symbol (Int (pos 1048576)) 34 41 ∷ symbol (Ident) 42 44 ∷ symbol (Ident) 45 51 ∷ symbol (Ident) 52 55 ∷ symbol (Ident) 55 56 ∷ symbol (Ident) 57 60 ∷ symbol (Ident) 61 62 ∷ symbol (Ident) 62 63 ∷ []) }; tree = record { module_word = 0; name = 1; semicolon = 0; imports = None; decls = (S.decls None (Some (record { type_word = 0; each = (record { name = (record { name = 4; star = None }); equal = 0; is = (S.Array 6 (S.only (S.simple None (S.term (S.Int 7) S.no_factor) S.no_term)) (S.next_expression 0 (S.only (S.simple None (S.term (S.Int 9) S.no_factor) S.no_term)) S.no_expression) 0 (S.Record 11 None S.no_fields S.no_more_fields 0)); semicolon = 0 } ∷ []) })) None S.no_procedure); body = None; end_word = 0; end_name = 15; period = 0 } }

pub const_range_19 : checked (const_range_19_0 ∷ []) ≡ Legal (record { records = (record { module_number = 0; base = None; level = 0; fields = []; cells = 0; extent = record { bytes = 0; wide = false } } ∷ []); pointers = []; modules = (record { name = (77 ∷ []); objects = (record { name = (65 ∷ []); exported = false; entity = I.OfType (H.Array 1048576 (H.Array 1048576 (H.Record 0))) } ∷ []); variables = []; body = 0 } ∷ []); procedures = (record { module_number = 0; line = 1; is_body = true; formals = []; result = H.Nothing; locals = []; texts = []; body = I.no_statement; answer = None } ∷ []); imports_in = false })
const_range_19 = refl

-- MODULE M; TYPE A = ARRAY 1 DIV 0 OF CHAR; END M.
abbrev const_range_20_0 : Parsed
const_range_20_0 = record { source = record { bytes = (77 ∷ 79 ∷ 68 ∷ 85 ∷ 76 ∷ 69 ∷ 32 ∷ 77 ∷ 59 ∷ 32 ∷ 84 ∷ 89 ∷ 80 ∷ 69 ∷ 32 ∷ 65 ∷ 32 ∷ 61 ∷ 32 ∷ 65 ∷ 82 ∷ 82 ∷ 65 ∷ 89 ∷ 32 ∷ 49 ∷ 32 ∷ 68 ∷ 73 ∷ 86 ∷ 32 ∷ 48 ∷ 32 ∷ 79 ∷ 70 ∷ 32 ∷ 67 ∷ 72 ∷ 65 ∷ 82 ∷ 59 ∷ 32 ∷ 69 ∷ 78 ∷ 68 ∷ 32 ∷ 77 ∷ 46 ∷ []); symbols = (symbol (Ident) 0 6 ∷ symbol (Ident) 7 8 ∷ symbol (Ident) 8 9 ∷ symbol (Ident) 10 14 ∷ symbol (Ident) 15 16 ∷ symbol (Ident) 17 18 ∷ symbol (Ident) 19 24 ∷ symbol (Int (pos 1)) 25 26 ∷ symbol (Ident) 27 30 ∷ symbol (Int (pos 0)) 31 32 ∷ symbol (Ident) 33 35 ∷ symbol (Ident) 36 40 ∷ symbol (Ident) 40 41 ∷ symbol (Ident) 42 45 ∷ symbol (Ident) 46 47 ∷ symbol (Ident) 47 48 ∷ []) }; tree = record { module_word = 0; name = 1; semicolon = 0; imports = None; decls = (S.decls None (Some (record { type_word = 0; each = (record { name = (record { name = 4; star = None }); equal = 0; is = (S.Array 6 (S.only (S.simple None (S.term (S.Int 7) (S.multiplied (TheMulOperator.Div 8) (S.Int 9) S.no_factor)) S.no_term)) S.no_expression 0 (S.Named (record { name = 11; member = None }))); semicolon = 0 } ∷ []) })) None S.no_procedure); body = None; end_word = 0; end_name = 14; period = 0 } }

pub const_range_20 : checked (const_range_20_0 ∷ []) ≡ Fault 0 35 25
const_range_20 = refl

-- MODULE M; CONST c = FALSE & (1 DIV 0 = 1); END M.
abbrev const_range_21_0 : Parsed
const_range_21_0 = record { source = record { bytes = (77 ∷ 79 ∷ 68 ∷ 85 ∷ 76 ∷ 69 ∷ 32 ∷ 77 ∷ 59 ∷ 32 ∷ 67 ∷ 79 ∷ 78 ∷ 83 ∷ 84 ∷ 32 ∷ 99 ∷ 32 ∷ 61 ∷ 32 ∷ 70 ∷ 65 ∷ 76 ∷ 83 ∷ 69 ∷ 32 ∷ 38 ∷ 32 ∷ 40 ∷ 49 ∷ 32 ∷ 68 ∷ 73 ∷ 86 ∷ 32 ∷ 48 ∷ 32 ∷ 61 ∷ 32 ∷ 49 ∷ 41 ∷ 59 ∷ 32 ∷ 69 ∷ 78 ∷ 68 ∷ 32 ∷ 77 ∷ 46 ∷ []); symbols = (symbol (Ident) 0 6 ∷ symbol (Ident) 7 8 ∷ symbol (Ident) 8 9 ∷ symbol (Ident) 10 15 ∷ symbol (Ident) 16 17 ∷ symbol (Ident) 18 19 ∷ symbol (Ident) 20 25 ∷ symbol (Ident) 26 27 ∷ symbol (Ident) 28 29 ∷ symbol (Int (pos 1)) 29 30 ∷ symbol (Ident) 31 34 ∷ symbol (Int (pos 0)) 35 36 ∷ symbol (Ident) 37 38 ∷ symbol (Int (pos 1)) 39 40 ∷ symbol (Ident) 40 41 ∷ symbol (Ident) 41 42 ∷ symbol (Ident) 43 46 ∷ symbol (Ident) 47 48 ∷ symbol (Ident) 48 49 ∷ []) }; tree = record { module_word = 0; name = 1; semicolon = 0; imports = None; decls = (S.decls (Some (record { const_word = 0; each = (record { name = (record { name = 4; star = None }); equal = 0; value = (S.only (S.simple None (S.term (S.False 6) (S.multiplied (TheMulOperator.And 7) (S.Paren 8 (S.compared (S.simple None (S.term (S.Int 9) (S.multiplied (TheMulOperator.Div 10) (S.Int 11) S.no_factor)) S.no_term) (TheRelation.Equal 12) (S.simple None (S.term (S.Int 13) S.no_factor) S.no_term)) 0) S.no_factor)) S.no_term)); semicolon = 0 } ∷ []) })) None None S.no_procedure); body = None; end_word = 0; end_name = 17; period = 0 } }

pub const_range_21 : checked (const_range_21_0 ∷ []) ≡ Legal (record { records = []; pointers = []; modules = (record { name = (77 ∷ []); objects = (record { name = (99 ∷ []); exported = false; entity = I.OfConstant (I.Bits H.Boolean 0) } ∷ []); variables = []; body = 0 } ∷ []); procedures = (record { module_number = 0; line = 1; is_body = true; formals = []; result = H.Nothing; locals = []; texts = []; body = I.no_statement; answer = None } ∷ []); imports_in = false })
const_range_21 = refl

-- MODULE M; CONST c = TRUE OR (1 DIV 0 = 1); END M.
abbrev const_range_22_0 : Parsed
const_range_22_0 = record { source = record { bytes = (77 ∷ 79 ∷ 68 ∷ 85 ∷ 76 ∷ 69 ∷ 32 ∷ 77 ∷ 59 ∷ 32 ∷ 67 ∷ 79 ∷ 78 ∷ 83 ∷ 84 ∷ 32 ∷ 99 ∷ 32 ∷ 61 ∷ 32 ∷ 84 ∷ 82 ∷ 85 ∷ 69 ∷ 32 ∷ 79 ∷ 82 ∷ 32 ∷ 40 ∷ 49 ∷ 32 ∷ 68 ∷ 73 ∷ 86 ∷ 32 ∷ 48 ∷ 32 ∷ 61 ∷ 32 ∷ 49 ∷ 41 ∷ 59 ∷ 32 ∷ 69 ∷ 78 ∷ 68 ∷ 32 ∷ 77 ∷ 46 ∷ []); symbols = (symbol (Ident) 0 6 ∷ symbol (Ident) 7 8 ∷ symbol (Ident) 8 9 ∷ symbol (Ident) 10 15 ∷ symbol (Ident) 16 17 ∷ symbol (Ident) 18 19 ∷ symbol (Ident) 20 24 ∷ symbol (Ident) 25 27 ∷ symbol (Ident) 28 29 ∷ symbol (Int (pos 1)) 29 30 ∷ symbol (Ident) 31 34 ∷ symbol (Int (pos 0)) 35 36 ∷ symbol (Ident) 37 38 ∷ symbol (Int (pos 1)) 39 40 ∷ symbol (Ident) 40 41 ∷ symbol (Ident) 41 42 ∷ symbol (Ident) 43 46 ∷ symbol (Ident) 47 48 ∷ symbol (Ident) 48 49 ∷ []) }; tree = record { module_word = 0; name = 1; semicolon = 0; imports = None; decls = (S.decls (Some (record { const_word = 0; each = (record { name = (record { name = 4; star = None }); equal = 0; value = (S.only (S.simple None (S.term (S.True 6) S.no_factor) (S.added (TheAddOperator.Or 7) (S.term (S.Paren 8 (S.compared (S.simple None (S.term (S.Int 9) (S.multiplied (TheMulOperator.Div 10) (S.Int 11) S.no_factor)) S.no_term) (TheRelation.Equal 12) (S.simple None (S.term (S.Int 13) S.no_factor) S.no_term)) 0) S.no_factor) S.no_term))); semicolon = 0 } ∷ []) })) None None S.no_procedure); body = None; end_word = 0; end_name = 17; period = 0 } }

pub const_range_22 : checked (const_range_22_0 ∷ []) ≡ Legal (record { records = []; pointers = []; modules = (record { name = (77 ∷ []); objects = (record { name = (99 ∷ []); exported = false; entity = I.OfConstant (I.Bits H.Boolean 1) } ∷ []); variables = []; body = 0 } ∷ []); procedures = (record { module_number = 0; line = 1; is_body = true; formals = []; result = H.Nothing; locals = []; texts = []; body = I.no_statement; answer = None } ∷ []); imports_in = false })
const_range_22 = refl

-- MODULE M; CONST c = TRUE & (1 DIV 0 = 1); END M.
abbrev const_range_23_0 : Parsed
const_range_23_0 = record { source = record { bytes = (77 ∷ 79 ∷ 68 ∷ 85 ∷ 76 ∷ 69 ∷ 32 ∷ 77 ∷ 59 ∷ 32 ∷ 67 ∷ 79 ∷ 78 ∷ 83 ∷ 84 ∷ 32 ∷ 99 ∷ 32 ∷ 61 ∷ 32 ∷ 84 ∷ 82 ∷ 85 ∷ 69 ∷ 32 ∷ 38 ∷ 32 ∷ 40 ∷ 49 ∷ 32 ∷ 68 ∷ 73 ∷ 86 ∷ 32 ∷ 48 ∷ 32 ∷ 61 ∷ 32 ∷ 49 ∷ 41 ∷ 59 ∷ 32 ∷ 69 ∷ 78 ∷ 68 ∷ 32 ∷ 77 ∷ 46 ∷ []); symbols = (symbol (Ident) 0 6 ∷ symbol (Ident) 7 8 ∷ symbol (Ident) 8 9 ∷ symbol (Ident) 10 15 ∷ symbol (Ident) 16 17 ∷ symbol (Ident) 18 19 ∷ symbol (Ident) 20 24 ∷ symbol (Ident) 25 26 ∷ symbol (Ident) 27 28 ∷ symbol (Int (pos 1)) 28 29 ∷ symbol (Ident) 30 33 ∷ symbol (Int (pos 0)) 34 35 ∷ symbol (Ident) 36 37 ∷ symbol (Int (pos 1)) 38 39 ∷ symbol (Ident) 39 40 ∷ symbol (Ident) 40 41 ∷ symbol (Ident) 42 45 ∷ symbol (Ident) 46 47 ∷ symbol (Ident) 47 48 ∷ []) }; tree = record { module_word = 0; name = 1; semicolon = 0; imports = None; decls = (S.decls (Some (record { const_word = 0; each = (record { name = (record { name = 4; star = None }); equal = 0; value = (S.only (S.simple None (S.term (S.True 6) (S.multiplied (TheMulOperator.And 7) (S.Paren 8 (S.compared (S.simple None (S.term (S.Int 9) (S.multiplied (TheMulOperator.Div 10) (S.Int 11) S.no_factor)) S.no_term) (TheRelation.Equal 12) (S.simple None (S.term (S.Int 13) S.no_factor) S.no_term)) 0) S.no_factor)) S.no_term)); semicolon = 0 } ∷ []) })) None None S.no_procedure); body = None; end_word = 0; end_name = 17; period = 0 } }

pub const_range_23 : checked (const_range_23_0 ∷ []) ≡ Fault 0 35 20
const_range_23 = refl

-- MODULE M; CONST c = FALSE OR (1 DIV 0 = 1); END M.
abbrev const_range_24_0 : Parsed
const_range_24_0 = record { source = record { bytes = (77 ∷ 79 ∷ 68 ∷ 85 ∷ 76 ∷ 69 ∷ 32 ∷ 77 ∷ 59 ∷ 32 ∷ 67 ∷ 79 ∷ 78 ∷ 83 ∷ 84 ∷ 32 ∷ 99 ∷ 32 ∷ 61 ∷ 32 ∷ 70 ∷ 65 ∷ 76 ∷ 83 ∷ 69 ∷ 32 ∷ 79 ∷ 82 ∷ 32 ∷ 40 ∷ 49 ∷ 32 ∷ 68 ∷ 73 ∷ 86 ∷ 32 ∷ 48 ∷ 32 ∷ 61 ∷ 32 ∷ 49 ∷ 41 ∷ 59 ∷ 32 ∷ 69 ∷ 78 ∷ 68 ∷ 32 ∷ 77 ∷ 46 ∷ []); symbols = (symbol (Ident) 0 6 ∷ symbol (Ident) 7 8 ∷ symbol (Ident) 8 9 ∷ symbol (Ident) 10 15 ∷ symbol (Ident) 16 17 ∷ symbol (Ident) 18 19 ∷ symbol (Ident) 20 25 ∷ symbol (Ident) 26 28 ∷ symbol (Ident) 29 30 ∷ symbol (Int (pos 1)) 30 31 ∷ symbol (Ident) 32 35 ∷ symbol (Int (pos 0)) 36 37 ∷ symbol (Ident) 38 39 ∷ symbol (Int (pos 1)) 40 41 ∷ symbol (Ident) 41 42 ∷ symbol (Ident) 42 43 ∷ symbol (Ident) 44 47 ∷ symbol (Ident) 48 49 ∷ symbol (Ident) 49 50 ∷ []) }; tree = record { module_word = 0; name = 1; semicolon = 0; imports = None; decls = (S.decls (Some (record { const_word = 0; each = (record { name = (record { name = 4; star = None }); equal = 0; value = (S.only (S.simple None (S.term (S.False 6) S.no_factor) (S.added (TheAddOperator.Or 7) (S.term (S.Paren 8 (S.compared (S.simple None (S.term (S.Int 9) (S.multiplied (TheMulOperator.Div 10) (S.Int 11) S.no_factor)) S.no_term) (TheRelation.Equal 12) (S.simple None (S.term (S.Int 13) S.no_factor) S.no_term)) 0) S.no_factor) S.no_term))); semicolon = 0 } ∷ []) })) None None S.no_procedure); body = None; end_word = 0; end_name = 17; period = 0 } }

pub const_range_24 : checked (const_range_24_0 ∷ []) ≡ Fault 0 35 20
const_range_24 = refl

-- MODULE M; VAR i: INTEGER; BEGIN FOR i := 0 TO 1 BY 0 DO END END M.
abbrev const_range_25_0 : Parsed
const_range_25_0 = record { source = record { bytes = (77 ∷ 79 ∷ 68 ∷ 85 ∷ 76 ∷ 69 ∷ 32 ∷ 77 ∷ 59 ∷ 32 ∷ 86 ∷ 65 ∷ 82 ∷ 32 ∷ 105 ∷ 58 ∷ 32 ∷ 73 ∷ 78 ∷ 84 ∷ 69 ∷ 71 ∷ 69 ∷ 82 ∷ 59 ∷ 32 ∷ 66 ∷ 69 ∷ 71 ∷ 73 ∷ 78 ∷ 32 ∷ 70 ∷ 79 ∷ 82 ∷ 32 ∷ 105 ∷ 32 ∷ 58 ∷ 61 ∷ 32 ∷ 48 ∷ 32 ∷ 84 ∷ 79 ∷ 32 ∷ 49 ∷ 32 ∷ 66 ∷ 89 ∷ 32 ∷ 48 ∷ 32 ∷ 68 ∷ 79 ∷ 32 ∷ 69 ∷ 78 ∷ 68 ∷ 32 ∷ 69 ∷ 78 ∷ 68 ∷ 32 ∷ 77 ∷ 46 ∷ []); symbols = (symbol (Ident) 0 6 ∷ symbol (Ident) 7 8 ∷ symbol (Ident) 8 9 ∷ symbol (Ident) 10 13 ∷ symbol (Ident) 14 15 ∷ symbol (Ident) 15 16 ∷ symbol (Ident) 17 24 ∷ symbol (Ident) 24 25 ∷ symbol (Ident) 26 31 ∷ symbol (Ident) 32 35 ∷ symbol (Ident) 36 37 ∷ symbol (Ident) 38 40 ∷ symbol (Int (pos 0)) 41 42 ∷ symbol (Ident) 43 45 ∷ symbol (Int (pos 1)) 46 47 ∷ symbol (Ident) 48 50 ∷ symbol (Int (pos 0)) 51 52 ∷ symbol (Ident) 53 55 ∷ symbol (Ident) 56 59 ∷ symbol (Ident) 60 63 ∷ symbol (Ident) 64 65 ∷ symbol (Ident) 65 66 ∷ []) }; tree = record { module_word = 0; name = 1; semicolon = 0; imports = None; decls = (S.decls None None (Some (record { var_word = 0; each = (record { names = (record { first = (record { name = 4; star = None }); more = [] }); colon = 0; of = (S.Named (record { name = 6; member = None })); semicolon = 0 } ∷ []) })) S.no_procedure); body = (Some (record { begin_word = 0; stats = (S.stats (S.For 0 10 0 (S.only (S.simple None (S.term (S.Int 12) S.no_factor) S.no_term)) 0 (S.only (S.simple None (S.term (S.Int 14) S.no_factor) S.no_term)) (Some (record { by_word = 0; step = (S.only (S.simple None (S.term (S.Int 16) S.no_factor) S.no_term)) })) 0 (S.stats S.Empty S.no_stat) 0) S.no_stat) })); end_word = 0; end_name = 20; period = 0 } }

pub const_range_25 : checked (const_range_25_0 ∷ []) ≡ Fault 0 35 51
const_range_25 = refl

-- MODULE M; VAR i: INTEGER; BEGIN FOR i := 0 TO 1 BY 1 DIV 0 DO END END M.
abbrev const_range_26_0 : Parsed
const_range_26_0 = record { source = record { bytes = (77 ∷ 79 ∷ 68 ∷ 85 ∷ 76 ∷ 69 ∷ 32 ∷ 77 ∷ 59 ∷ 32 ∷ 86 ∷ 65 ∷ 82 ∷ 32 ∷ 105 ∷ 58 ∷ 32 ∷ 73 ∷ 78 ∷ 84 ∷ 69 ∷ 71 ∷ 69 ∷ 82 ∷ 59 ∷ 32 ∷ 66 ∷ 69 ∷ 71 ∷ 73 ∷ 78 ∷ 32 ∷ 70 ∷ 79 ∷ 82 ∷ 32 ∷ 105 ∷ 32 ∷ 58 ∷ 61 ∷ 32 ∷ 48 ∷ 32 ∷ 84 ∷ 79 ∷ 32 ∷ 49 ∷ 32 ∷ 66 ∷ 89 ∷ 32 ∷ 49 ∷ 32 ∷ 68 ∷ 73 ∷ 86 ∷ 32 ∷ 48 ∷ 32 ∷ 68 ∷ 79 ∷ 32 ∷ 69 ∷ 78 ∷ 68 ∷ 32 ∷ 69 ∷ 78 ∷ 68 ∷ 32 ∷ 77 ∷ 46 ∷ []); symbols = (symbol (Ident) 0 6 ∷ symbol (Ident) 7 8 ∷ symbol (Ident) 8 9 ∷ symbol (Ident) 10 13 ∷ symbol (Ident) 14 15 ∷ symbol (Ident) 15 16 ∷ symbol (Ident) 17 24 ∷ symbol (Ident) 24 25 ∷ symbol (Ident) 26 31 ∷ symbol (Ident) 32 35 ∷ symbol (Ident) 36 37 ∷ symbol (Ident) 38 40 ∷ symbol (Int (pos 0)) 41 42 ∷ symbol (Ident) 43 45 ∷ symbol (Int (pos 1)) 46 47 ∷ symbol (Ident) 48 50 ∷ symbol (Int (pos 1)) 51 52 ∷ symbol (Ident) 53 56 ∷ symbol (Int (pos 0)) 57 58 ∷ symbol (Ident) 59 61 ∷ symbol (Ident) 62 65 ∷ symbol (Ident) 66 69 ∷ symbol (Ident) 70 71 ∷ symbol (Ident) 71 72 ∷ []) }; tree = record { module_word = 0; name = 1; semicolon = 0; imports = None; decls = (S.decls None None (Some (record { var_word = 0; each = (record { names = (record { first = (record { name = 4; star = None }); more = [] }); colon = 0; of = (S.Named (record { name = 6; member = None })); semicolon = 0 } ∷ []) })) S.no_procedure); body = (Some (record { begin_word = 0; stats = (S.stats (S.For 0 10 0 (S.only (S.simple None (S.term (S.Int 12) S.no_factor) S.no_term)) 0 (S.only (S.simple None (S.term (S.Int 14) S.no_factor) S.no_term)) (Some (record { by_word = 0; step = (S.only (S.simple None (S.term (S.Int 16) (S.multiplied (TheMulOperator.Div 17) (S.Int 18) S.no_factor)) S.no_term)) })) 0 (S.stats S.Empty S.no_stat) 0) S.no_stat) })); end_word = 0; end_name = 22; period = 0 } }

pub const_range_26 : checked (const_range_26_0 ∷ []) ≡ Fault 0 35 51
const_range_26 = refl

-- MODULE M; TYPE A = ARRAY 3 OF ARRAY 0 OF CHAR; END M.
abbrev const_range_27_0 : Parsed
const_range_27_0 = record { source = record { bytes = (77 ∷ 79 ∷ 68 ∷ 85 ∷ 76 ∷ 69 ∷ 32 ∷ 77 ∷ 59 ∷ 32 ∷ 84 ∷ 89 ∷ 80 ∷ 69 ∷ 32 ∷ 65 ∷ 32 ∷ 61 ∷ 32 ∷ 65 ∷ 82 ∷ 82 ∷ 65 ∷ 89 ∷ 32 ∷ 51 ∷ 32 ∷ 79 ∷ 70 ∷ 32 ∷ 65 ∷ 82 ∷ 82 ∷ 65 ∷ 89 ∷ 32 ∷ 48 ∷ 32 ∷ 79 ∷ 70 ∷ 32 ∷ 67 ∷ 72 ∷ 65 ∷ 82 ∷ 59 ∷ 32 ∷ 69 ∷ 78 ∷ 68 ∷ 32 ∷ 77 ∷ 46 ∷ []); symbols = (symbol (Ident) 0 6 ∷ symbol (Ident) 7 8 ∷ symbol (Ident) 8 9 ∷ symbol (Ident) 10 14 ∷ symbol (Ident) 15 16 ∷ symbol (Ident) 17 18 ∷ symbol (Ident) 19 24 ∷ symbol (Int (pos 3)) 25 26 ∷ symbol (Ident) 27 29 ∷ symbol (Ident) 30 35 ∷ symbol (Int (pos 0)) 36 37 ∷ symbol (Ident) 38 40 ∷ symbol (Ident) 41 45 ∷ symbol (Ident) 45 46 ∷ symbol (Ident) 47 50 ∷ symbol (Ident) 51 52 ∷ symbol (Ident) 52 53 ∷ []) }; tree = record { module_word = 0; name = 1; semicolon = 0; imports = None; decls = (S.decls None (Some (record { type_word = 0; each = (record { name = (record { name = 4; star = None }); equal = 0; is = (S.Array 6 (S.only (S.simple None (S.term (S.Int 7) S.no_factor) S.no_term)) S.no_expression 0 (S.Array 9 (S.only (S.simple None (S.term (S.Int 10) S.no_factor) S.no_term)) S.no_expression 0 (S.Named (record { name = 12; member = None })))); semicolon = 0 } ∷ []) })) None S.no_procedure); body = None; end_word = 0; end_name = 15; period = 0 } }

pub const_range_27 : checked (const_range_27_0 ∷ []) ≡ Fault 0 35 36
const_range_27 = refl

-- MODULE M; CONST c = ~(1 DIV 0 = 1); END M.
abbrev const_range_28_0 : Parsed
const_range_28_0 = record { source = record { bytes = (77 ∷ 79 ∷ 68 ∷ 85 ∷ 76 ∷ 69 ∷ 32 ∷ 77 ∷ 59 ∷ 32 ∷ 67 ∷ 79 ∷ 78 ∷ 83 ∷ 84 ∷ 32 ∷ 99 ∷ 32 ∷ 61 ∷ 32 ∷ 126 ∷ 40 ∷ 49 ∷ 32 ∷ 68 ∷ 73 ∷ 86 ∷ 32 ∷ 48 ∷ 32 ∷ 61 ∷ 32 ∷ 49 ∷ 41 ∷ 59 ∷ 32 ∷ 69 ∷ 78 ∷ 68 ∷ 32 ∷ 77 ∷ 46 ∷ []); symbols = (symbol (Ident) 0 6 ∷ symbol (Ident) 7 8 ∷ symbol (Ident) 8 9 ∷ symbol (Ident) 10 15 ∷ symbol (Ident) 16 17 ∷ symbol (Ident) 18 19 ∷ symbol (Ident) 20 21 ∷ symbol (Ident) 21 22 ∷ symbol (Int (pos 1)) 22 23 ∷ symbol (Ident) 24 27 ∷ symbol (Int (pos 0)) 28 29 ∷ symbol (Ident) 30 31 ∷ symbol (Int (pos 1)) 32 33 ∷ symbol (Ident) 33 34 ∷ symbol (Ident) 34 35 ∷ symbol (Ident) 36 39 ∷ symbol (Ident) 40 41 ∷ symbol (Ident) 41 42 ∷ []) }; tree = record { module_word = 0; name = 1; semicolon = 0; imports = None; decls = (S.decls (Some (record { const_word = 0; each = (record { name = (record { name = 4; star = None }); equal = 0; value = (S.only (S.simple None (S.term (S.Not 6 (S.Paren 7 (S.compared (S.simple None (S.term (S.Int 8) (S.multiplied (TheMulOperator.Div 9) (S.Int 10) S.no_factor)) S.no_term) (TheRelation.Equal 11) (S.simple None (S.term (S.Int 12) S.no_factor) S.no_term)) 0)) S.no_factor) S.no_term)); semicolon = 0 } ∷ []) })) None None S.no_procedure); body = None; end_word = 0; end_name = 16; period = 0 } }

pub const_range_28 : checked (const_range_28_0 ∷ []) ≡ Fault 0 35 20
const_range_28 = refl

-- MODULE M; CONST c = {1 DIV 0}; END M.
abbrev const_range_29_0 : Parsed
const_range_29_0 = record { source = record { bytes = (77 ∷ 79 ∷ 68 ∷ 85 ∷ 76 ∷ 69 ∷ 32 ∷ 77 ∷ 59 ∷ 32 ∷ 67 ∷ 79 ∷ 78 ∷ 83 ∷ 84 ∷ 32 ∷ 99 ∷ 32 ∷ 61 ∷ 32 ∷ 123 ∷ 49 ∷ 32 ∷ 68 ∷ 73 ∷ 86 ∷ 32 ∷ 48 ∷ 125 ∷ 59 ∷ 32 ∷ 69 ∷ 78 ∷ 68 ∷ 32 ∷ 77 ∷ 46 ∷ []); symbols = (symbol (Ident) 0 6 ∷ symbol (Ident) 7 8 ∷ symbol (Ident) 8 9 ∷ symbol (Ident) 10 15 ∷ symbol (Ident) 16 17 ∷ symbol (Ident) 18 19 ∷ symbol (Ident) 20 21 ∷ symbol (Int (pos 1)) 21 22 ∷ symbol (Ident) 23 26 ∷ symbol (Int (pos 0)) 27 28 ∷ symbol (Ident) 28 29 ∷ symbol (Ident) 29 30 ∷ symbol (Ident) 31 34 ∷ symbol (Ident) 35 36 ∷ symbol (Ident) 36 37 ∷ []) }; tree = record { module_word = 0; name = 1; semicolon = 0; imports = None; decls = (S.decls (Some (record { const_word = 0; each = (record { name = (record { name = 4; star = None }); equal = 0; value = (S.only (S.simple None (S.term (S.Set 6 (S.one (S.only (S.simple None (S.term (S.Int 7) (S.multiplied (TheMulOperator.Div 8) (S.Int 9) S.no_factor)) S.no_term))) S.no_element 0) S.no_factor) S.no_term)); semicolon = 0 } ∷ []) })) None None S.no_procedure); body = None; end_word = 0; end_name = 13; period = 0 } }

pub const_range_29 : checked (const_range_29_0 ∷ []) ≡ Fault 0 35 20
const_range_29 = refl

-- MODULE M; VAR a: ARRAY 2, 1048577 OF CHAR; END M.
abbrev const_range_30_0 : Parsed
const_range_30_0 = record { source = record { bytes = (77 ∷ 79 ∷ 68 ∷ 85 ∷ 76 ∷ 69 ∷ 32 ∷ 77 ∷ 59 ∷ 32 ∷ 86 ∷ 65 ∷ 82 ∷ 32 ∷ 97 ∷ 58 ∷ 32 ∷ 65 ∷ 82 ∷ 82 ∷ 65 ∷ 89 ∷ 32 ∷ 50 ∷ 44 ∷ 32 ∷ 49 ∷ 48 ∷ 52 ∷ 56 ∷ 53 ∷ 55 ∷ 55 ∷ 32 ∷ 79 ∷ 70 ∷ 32 ∷ 67 ∷ 72 ∷ 65 ∷ 82 ∷ 59 ∷ 32 ∷ 69 ∷ 78 ∷ 68 ∷ 32 ∷ 77 ∷ 46 ∷ []); symbols = (symbol (Ident) 0 6 ∷ symbol (Ident) 7 8 ∷ symbol (Ident) 8 9 ∷ symbol (Ident) 10 13 ∷ symbol (Ident) 14 15 ∷ symbol (Ident) 15 16 ∷ symbol (Ident) 17 22 ∷ symbol (Int (pos 2)) 23 24 ∷ symbol (Ident) 24 25 ∷ symbol (Int (pos 1048577)) 26 33 ∷ symbol (Ident) 34 36 ∷ symbol (Ident) 37 41 ∷ symbol (Ident) 41 42 ∷ symbol (Ident) 43 46 ∷ symbol (Ident) 47 48 ∷ symbol (Ident) 48 49 ∷ []) }; tree = record { module_word = 0; name = 1; semicolon = 0; imports = None; decls = (S.decls None None (Some (record { var_word = 0; each = (record { names = (record { first = (record { name = 4; star = None }); more = [] }); colon = 0; of = (S.Array 6 (S.only (S.simple None (S.term (S.Int 7) S.no_factor) S.no_term)) (S.next_expression 0 (S.only (S.simple None (S.term (S.Int 9) S.no_factor) S.no_term)) S.no_expression) 0 (S.Named (record { name = 11; member = None }))); semicolon = 0 } ∷ []) })) S.no_procedure); body = None; end_word = 0; end_name = 14; period = 0 } }

pub const_range_30 : checked (const_range_30_0 ∷ []) ≡ Fault 0 35 26
const_range_30 = refl
