-- Small modules, and what the judgement says of them. Written by bench/judged_rows.py from their texts.
use Rattle.std.specs.Prelude.{◌≡◌, ℕ, [], ◌∷◌, Some, None, pos}
use Rattle.std.proofs.Common.{refl}
use Rattle.ob_symbol.specs.declared.symbol.Symbol.{Symbol}
use Rattle.ob_symbol.specs.declared.symbol.Kind.{Kind}
use Rattle.ob_symbol.specs.declared.symbol.Kind.TheVariants.{Int, Ident}
use Rattle.ob_symbol.specs.declared.symbol.Kind.TheVariants as TheKind
use Rattle.ob_syntax.specs.Syntax as S
use Rattle.ob_syntax.specs.declared.expressions.Relation.TheVariants as TheRelation
use Rattle.ob_syntax.specs.declared.expressions.Sign.TheVariants as TheSign
use Rattle.ob_syntax.specs.declared.expressions.AddOperator.TheVariants as TheAddOperator
use Rattle.ob_syntax.specs.declared.expressions.MulOperator.TheVariants as TheMulOperator
use Rattle.ob_judge.specs.Modules.{Parsed, Fault, checked}

abbrev symbol : Kind → ℕ → ℕ → Symbol
symbol kind from to = record { kind = kind; from = from; to = to }

-- MODULE M; VAR i: INTEGER; BEGIN i := TRUE END M.
abbrev type_mismatch_1_0 : Parsed
type_mismatch_1_0 = record { source = record { bytes = (77 ∷ 79 ∷ 68 ∷ 85 ∷ 76 ∷ 69 ∷ 32 ∷ 77 ∷ 59 ∷ 32 ∷ 86 ∷ 65 ∷ 82 ∷ 32 ∷ 105 ∷ 58 ∷ 32 ∷ 73 ∷ 78 ∷ 84 ∷ 69 ∷ 71 ∷ 69 ∷ 82 ∷ 59 ∷ 32 ∷ 66 ∷ 69 ∷ 71 ∷ 73 ∷ 78 ∷ 32 ∷ 105 ∷ 32 ∷ 58 ∷ 61 ∷ 32 ∷ 84 ∷ 82 ∷ 85 ∷ 69 ∷ 32 ∷ 69 ∷ 78 ∷ 68 ∷ 32 ∷ 77 ∷ 46 ∷ []); symbols = (symbol (Ident) 0 6 ∷ symbol (Ident) 7 8 ∷ symbol (Ident) 8 9 ∷ symbol (Ident) 10 13 ∷ symbol (Ident) 14 15 ∷ symbol (Ident) 15 16 ∷ symbol (Ident) 17 24 ∷ symbol (Ident) 24 25 ∷ symbol (Ident) 26 31 ∷ symbol (Ident) 32 33 ∷ symbol (Ident) 34 36 ∷ symbol (Ident) 37 41 ∷ symbol (Ident) 42 45 ∷ symbol (Ident) 46 47 ∷ symbol (Ident) 47 48 ∷ []) }; tree = record { module_word = 0; name = 1; semicolon = 0; imports = None; decls = (S.decls None None (Some (record { var_word = 0; each = (record { names = (record { first = (record { name = 4; star = None }); more = [] }); colon = 0; of = (S.Named (record { name = 6; member = None })); semicolon = 0 } ∷ []) })) S.no_procedure); body = (Some (record { begin_word = 0; stats = (S.stats (S.AssignOrCall (record { name = 9; selectors = S.no_selector }) (Some (record { becomes = 0; value = (S.only (S.simple None (S.term (S.True 11) S.no_factor) S.no_term)) }))) S.no_stat) })); end_word = 0; end_name = 13; period = 0 } }

pub type_mismatch_1 : checked (type_mismatch_1_0 ∷ []) ≡ Fault 0 31 37
type_mismatch_1 = refl

-- MODULE M; VAR b: BOOLEAN; BEGIN b := 1 END M.
abbrev type_mismatch_2_0 : Parsed
type_mismatch_2_0 = record { source = record { bytes = (77 ∷ 79 ∷ 68 ∷ 85 ∷ 76 ∷ 69 ∷ 32 ∷ 77 ∷ 59 ∷ 32 ∷ 86 ∷ 65 ∷ 82 ∷ 32 ∷ 98 ∷ 58 ∷ 32 ∷ 66 ∷ 79 ∷ 79 ∷ 76 ∷ 69 ∷ 65 ∷ 78 ∷ 59 ∷ 32 ∷ 66 ∷ 69 ∷ 71 ∷ 73 ∷ 78 ∷ 32 ∷ 98 ∷ 32 ∷ 58 ∷ 61 ∷ 32 ∷ 49 ∷ 32 ∷ 69 ∷ 78 ∷ 68 ∷ 32 ∷ 77 ∷ 46 ∷ []); symbols = (symbol (Ident) 0 6 ∷ symbol (Ident) 7 8 ∷ symbol (Ident) 8 9 ∷ symbol (Ident) 10 13 ∷ symbol (Ident) 14 15 ∷ symbol (Ident) 15 16 ∷ symbol (Ident) 17 24 ∷ symbol (Ident) 24 25 ∷ symbol (Ident) 26 31 ∷ symbol (Ident) 32 33 ∷ symbol (Ident) 34 36 ∷ symbol (Int (pos 1)) 37 38 ∷ symbol (Ident) 39 42 ∷ symbol (Ident) 43 44 ∷ symbol (Ident) 44 45 ∷ []) }; tree = record { module_word = 0; name = 1; semicolon = 0; imports = None; decls = (S.decls None None (Some (record { var_word = 0; each = (record { names = (record { first = (record { name = 4; star = None }); more = [] }); colon = 0; of = (S.Named (record { name = 6; member = None })); semicolon = 0 } ∷ []) })) S.no_procedure); body = (Some (record { begin_word = 0; stats = (S.stats (S.AssignOrCall (record { name = 9; selectors = S.no_selector }) (Some (record { becomes = 0; value = (S.only (S.simple None (S.term (S.Int 11) S.no_factor) S.no_term)) }))) S.no_stat) })); end_word = 0; end_name = 13; period = 0 } }

pub type_mismatch_2 : checked (type_mismatch_2_0 ∷ []) ≡ Fault 0 31 37
type_mismatch_2 = refl

-- MODULE M; VAR i: INTEGER; b: BOOLEAN; BEGIN i := b + 1 END M.
abbrev type_mismatch_3_0 : Parsed
type_mismatch_3_0 = record { source = record { bytes = (77 ∷ 79 ∷ 68 ∷ 85 ∷ 76 ∷ 69 ∷ 32 ∷ 77 ∷ 59 ∷ 32 ∷ 86 ∷ 65 ∷ 82 ∷ 32 ∷ 105 ∷ 58 ∷ 32 ∷ 73 ∷ 78 ∷ 84 ∷ 69 ∷ 71 ∷ 69 ∷ 82 ∷ 59 ∷ 32 ∷ 98 ∷ 58 ∷ 32 ∷ 66 ∷ 79 ∷ 79 ∷ 76 ∷ 69 ∷ 65 ∷ 78 ∷ 59 ∷ 32 ∷ 66 ∷ 69 ∷ 71 ∷ 73 ∷ 78 ∷ 32 ∷ 105 ∷ 32 ∷ 58 ∷ 61 ∷ 32 ∷ 98 ∷ 32 ∷ 43 ∷ 32 ∷ 49 ∷ 32 ∷ 69 ∷ 78 ∷ 68 ∷ 32 ∷ 77 ∷ 46 ∷ []); symbols = (symbol (Ident) 0 6 ∷ symbol (Ident) 7 8 ∷ symbol (Ident) 8 9 ∷ symbol (Ident) 10 13 ∷ symbol (Ident) 14 15 ∷ symbol (Ident) 15 16 ∷ symbol (Ident) 17 24 ∷ symbol (Ident) 24 25 ∷ symbol (Ident) 26 27 ∷ symbol (Ident) 27 28 ∷ symbol (Ident) 29 36 ∷ symbol (Ident) 36 37 ∷ symbol (Ident) 38 43 ∷ symbol (Ident) 44 45 ∷ symbol (Ident) 46 48 ∷ symbol (Ident) 49 50 ∷ symbol (Ident) 51 52 ∷ symbol (Int (pos 1)) 53 54 ∷ symbol (Ident) 55 58 ∷ symbol (Ident) 59 60 ∷ symbol (Ident) 60 61 ∷ []) }; tree = record { module_word = 0; name = 1; semicolon = 0; imports = None; decls = (S.decls None None (Some (record { var_word = 0; each = (record { names = (record { first = (record { name = 4; star = None }); more = [] }); colon = 0; of = (S.Named (record { name = 6; member = None })); semicolon = 0 } ∷ record { names = (record { first = (record { name = 8; star = None }); more = [] }); colon = 0; of = (S.Named (record { name = 10; member = None })); semicolon = 0 } ∷ []) })) S.no_procedure); body = (Some (record { begin_word = 0; stats = (S.stats (S.AssignOrCall (record { name = 13; selectors = S.no_selector }) (Some (record { becomes = 0; value = (S.only (S.simple None (S.term (S.Designated 15 S.no_selector) S.no_factor) (S.added (TheAddOperator.Plus 16) (S.term (S.Int 17) S.no_factor) S.no_term))) }))) S.no_stat) })); end_word = 0; end_name = 19; period = 0 } }

pub type_mismatch_3 : checked (type_mismatch_3_0 ∷ []) ≡ Fault 0 31 51
type_mismatch_3 = refl

-- MODULE M; VAR i: INTEGER; b: BOOLEAN; BEGIN i := 1 + b END M.
abbrev type_mismatch_4_0 : Parsed
type_mismatch_4_0 = record { source = record { bytes = (77 ∷ 79 ∷ 68 ∷ 85 ∷ 76 ∷ 69 ∷ 32 ∷ 77 ∷ 59 ∷ 32 ∷ 86 ∷ 65 ∷ 82 ∷ 32 ∷ 105 ∷ 58 ∷ 32 ∷ 73 ∷ 78 ∷ 84 ∷ 69 ∷ 71 ∷ 69 ∷ 82 ∷ 59 ∷ 32 ∷ 98 ∷ 58 ∷ 32 ∷ 66 ∷ 79 ∷ 79 ∷ 76 ∷ 69 ∷ 65 ∷ 78 ∷ 59 ∷ 32 ∷ 66 ∷ 69 ∷ 71 ∷ 73 ∷ 78 ∷ 32 ∷ 105 ∷ 32 ∷ 58 ∷ 61 ∷ 32 ∷ 49 ∷ 32 ∷ 43 ∷ 32 ∷ 98 ∷ 32 ∷ 69 ∷ 78 ∷ 68 ∷ 32 ∷ 77 ∷ 46 ∷ []); symbols = (symbol (Ident) 0 6 ∷ symbol (Ident) 7 8 ∷ symbol (Ident) 8 9 ∷ symbol (Ident) 10 13 ∷ symbol (Ident) 14 15 ∷ symbol (Ident) 15 16 ∷ symbol (Ident) 17 24 ∷ symbol (Ident) 24 25 ∷ symbol (Ident) 26 27 ∷ symbol (Ident) 27 28 ∷ symbol (Ident) 29 36 ∷ symbol (Ident) 36 37 ∷ symbol (Ident) 38 43 ∷ symbol (Ident) 44 45 ∷ symbol (Ident) 46 48 ∷ symbol (Int (pos 1)) 49 50 ∷ symbol (Ident) 51 52 ∷ symbol (Ident) 53 54 ∷ symbol (Ident) 55 58 ∷ symbol (Ident) 59 60 ∷ symbol (Ident) 60 61 ∷ []) }; tree = record { module_word = 0; name = 1; semicolon = 0; imports = None; decls = (S.decls None None (Some (record { var_word = 0; each = (record { names = (record { first = (record { name = 4; star = None }); more = [] }); colon = 0; of = (S.Named (record { name = 6; member = None })); semicolon = 0 } ∷ record { names = (record { first = (record { name = 8; star = None }); more = [] }); colon = 0; of = (S.Named (record { name = 10; member = None })); semicolon = 0 } ∷ []) })) S.no_procedure); body = (Some (record { begin_word = 0; stats = (S.stats (S.AssignOrCall (record { name = 13; selectors = S.no_selector }) (Some (record { becomes = 0; value = (S.only (S.simple None (S.term (S.Int 15) S.no_factor) (S.added (TheAddOperator.Plus 16) (S.term (S.Designated 17 S.no_selector) S.no_factor) S.no_term))) }))) S.no_stat) })); end_word = 0; end_name = 19; period = 0 } }

pub type_mismatch_4 : checked (type_mismatch_4_0 ∷ []) ≡ Fault 0 31 51
type_mismatch_4 = refl

-- MODULE M; VAR i: INTEGER; BEGIN i := i & 1 END M.
abbrev type_mismatch_5_0 : Parsed
type_mismatch_5_0 = record { source = record { bytes = (77 ∷ 79 ∷ 68 ∷ 85 ∷ 76 ∷ 69 ∷ 32 ∷ 77 ∷ 59 ∷ 32 ∷ 86 ∷ 65 ∷ 82 ∷ 32 ∷ 105 ∷ 58 ∷ 32 ∷ 73 ∷ 78 ∷ 84 ∷ 69 ∷ 71 ∷ 69 ∷ 82 ∷ 59 ∷ 32 ∷ 66 ∷ 69 ∷ 71 ∷ 73 ∷ 78 ∷ 32 ∷ 105 ∷ 32 ∷ 58 ∷ 61 ∷ 32 ∷ 105 ∷ 32 ∷ 38 ∷ 32 ∷ 49 ∷ 32 ∷ 69 ∷ 78 ∷ 68 ∷ 32 ∷ 77 ∷ 46 ∷ []); symbols = (symbol (Ident) 0 6 ∷ symbol (Ident) 7 8 ∷ symbol (Ident) 8 9 ∷ symbol (Ident) 10 13 ∷ symbol (Ident) 14 15 ∷ symbol (Ident) 15 16 ∷ symbol (Ident) 17 24 ∷ symbol (Ident) 24 25 ∷ symbol (Ident) 26 31 ∷ symbol (Ident) 32 33 ∷ symbol (Ident) 34 36 ∷ symbol (Ident) 37 38 ∷ symbol (Ident) 39 40 ∷ symbol (Int (pos 1)) 41 42 ∷ symbol (Ident) 43 46 ∷ symbol (Ident) 47 48 ∷ symbol (Ident) 48 49 ∷ []) }; tree = record { module_word = 0; name = 1; semicolon = 0; imports = None; decls = (S.decls None None (Some (record { var_word = 0; each = (record { names = (record { first = (record { name = 4; star = None }); more = [] }); colon = 0; of = (S.Named (record { name = 6; member = None })); semicolon = 0 } ∷ []) })) S.no_procedure); body = (Some (record { begin_word = 0; stats = (S.stats (S.AssignOrCall (record { name = 9; selectors = S.no_selector }) (Some (record { becomes = 0; value = (S.only (S.simple None (S.term (S.Designated 11 S.no_selector) (S.multiplied (TheMulOperator.And 12) (S.Int 13) S.no_factor)) S.no_term)) }))) S.no_stat) })); end_word = 0; end_name = 15; period = 0 } }

pub type_mismatch_5 : checked (type_mismatch_5_0 ∷ []) ≡ Fault 0 31 39
type_mismatch_5 = refl

-- MODULE M; VAR i: INTEGER; b: BOOLEAN; BEGIN b := b & i END M.
abbrev type_mismatch_6_0 : Parsed
type_mismatch_6_0 = record { source = record { bytes = (77 ∷ 79 ∷ 68 ∷ 85 ∷ 76 ∷ 69 ∷ 32 ∷ 77 ∷ 59 ∷ 32 ∷ 86 ∷ 65 ∷ 82 ∷ 32 ∷ 105 ∷ 58 ∷ 32 ∷ 73 ∷ 78 ∷ 84 ∷ 69 ∷ 71 ∷ 69 ∷ 82 ∷ 59 ∷ 32 ∷ 98 ∷ 58 ∷ 32 ∷ 66 ∷ 79 ∷ 79 ∷ 76 ∷ 69 ∷ 65 ∷ 78 ∷ 59 ∷ 32 ∷ 66 ∷ 69 ∷ 71 ∷ 73 ∷ 78 ∷ 32 ∷ 98 ∷ 32 ∷ 58 ∷ 61 ∷ 32 ∷ 98 ∷ 32 ∷ 38 ∷ 32 ∷ 105 ∷ 32 ∷ 69 ∷ 78 ∷ 68 ∷ 32 ∷ 77 ∷ 46 ∷ []); symbols = (symbol (Ident) 0 6 ∷ symbol (Ident) 7 8 ∷ symbol (Ident) 8 9 ∷ symbol (Ident) 10 13 ∷ symbol (Ident) 14 15 ∷ symbol (Ident) 15 16 ∷ symbol (Ident) 17 24 ∷ symbol (Ident) 24 25 ∷ symbol (Ident) 26 27 ∷ symbol (Ident) 27 28 ∷ symbol (Ident) 29 36 ∷ symbol (Ident) 36 37 ∷ symbol (Ident) 38 43 ∷ symbol (Ident) 44 45 ∷ symbol (Ident) 46 48 ∷ symbol (Ident) 49 50 ∷ symbol (Ident) 51 52 ∷ symbol (Ident) 53 54 ∷ symbol (Ident) 55 58 ∷ symbol (Ident) 59 60 ∷ symbol (Ident) 60 61 ∷ []) }; tree = record { module_word = 0; name = 1; semicolon = 0; imports = None; decls = (S.decls None None (Some (record { var_word = 0; each = (record { names = (record { first = (record { name = 4; star = None }); more = [] }); colon = 0; of = (S.Named (record { name = 6; member = None })); semicolon = 0 } ∷ record { names = (record { first = (record { name = 8; star = None }); more = [] }); colon = 0; of = (S.Named (record { name = 10; member = None })); semicolon = 0 } ∷ []) })) S.no_procedure); body = (Some (record { begin_word = 0; stats = (S.stats (S.AssignOrCall (record { name = 13; selectors = S.no_selector }) (Some (record { becomes = 0; value = (S.only (S.simple None (S.term (S.Designated 15 S.no_selector) (S.multiplied (TheMulOperator.And 16) (S.Designated 17 S.no_selector) S.no_factor)) S.no_term)) }))) S.no_stat) })); end_word = 0; end_name = 19; period = 0 } }

pub type_mismatch_6 : checked (type_mismatch_6_0 ∷ []) ≡ Fault 0 31 51
type_mismatch_6 = refl

-- MODULE M; VAR s: SET; BEGIN s := s + 1 END M.
abbrev type_mismatch_7_0 : Parsed
type_mismatch_7_0 = record { source = record { bytes = (77 ∷ 79 ∷ 68 ∷ 85 ∷ 76 ∷ 69 ∷ 32 ∷ 77 ∷ 59 ∷ 32 ∷ 86 ∷ 65 ∷ 82 ∷ 32 ∷ 115 ∷ 58 ∷ 32 ∷ 83 ∷ 69 ∷ 84 ∷ 59 ∷ 32 ∷ 66 ∷ 69 ∷ 71 ∷ 73 ∷ 78 ∷ 32 ∷ 115 ∷ 32 ∷ 58 ∷ 61 ∷ 32 ∷ 115 ∷ 32 ∷ 43 ∷ 32 ∷ 49 ∷ 32 ∷ 69 ∷ 78 ∷ 68 ∷ 32 ∷ 77 ∷ 46 ∷ []); symbols = (symbol (Ident) 0 6 ∷ symbol (Ident) 7 8 ∷ symbol (Ident) 8 9 ∷ symbol (Ident) 10 13 ∷ symbol (Ident) 14 15 ∷ symbol (Ident) 15 16 ∷ symbol (Ident) 17 20 ∷ symbol (Ident) 20 21 ∷ symbol (Ident) 22 27 ∷ symbol (Ident) 28 29 ∷ symbol (Ident) 30 32 ∷ symbol (Ident) 33 34 ∷ symbol (Ident) 35 36 ∷ symbol (Int (pos 1)) 37 38 ∷ symbol (Ident) 39 42 ∷ symbol (Ident) 43 44 ∷ symbol (Ident) 44 45 ∷ []) }; tree = record { module_word = 0; name = 1; semicolon = 0; imports = None; decls = (S.decls None None (Some (record { var_word = 0; each = (record { names = (record { first = (record { name = 4; star = None }); more = [] }); colon = 0; of = (S.Named (record { name = 6; member = None })); semicolon = 0 } ∷ []) })) S.no_procedure); body = (Some (record { begin_word = 0; stats = (S.stats (S.AssignOrCall (record { name = 9; selectors = S.no_selector }) (Some (record { becomes = 0; value = (S.only (S.simple None (S.term (S.Designated 11 S.no_selector) S.no_factor) (S.added (TheAddOperator.Plus 12) (S.term (S.Int 13) S.no_factor) S.no_term))) }))) S.no_stat) })); end_word = 0; end_name = 15; period = 0 } }

pub type_mismatch_7 : checked (type_mismatch_7_0 ∷ []) ≡ Fault 0 31 35
type_mismatch_7 = refl

-- MODULE M; VAR s: SET; BEGIN s := s DIV s END M.
abbrev type_mismatch_8_0 : Parsed
type_mismatch_8_0 = record { source = record { bytes = (77 ∷ 79 ∷ 68 ∷ 85 ∷ 76 ∷ 69 ∷ 32 ∷ 77 ∷ 59 ∷ 32 ∷ 86 ∷ 65 ∷ 82 ∷ 32 ∷ 115 ∷ 58 ∷ 32 ∷ 83 ∷ 69 ∷ 84 ∷ 59 ∷ 32 ∷ 66 ∷ 69 ∷ 71 ∷ 73 ∷ 78 ∷ 32 ∷ 115 ∷ 32 ∷ 58 ∷ 61 ∷ 32 ∷ 115 ∷ 32 ∷ 68 ∷ 73 ∷ 86 ∷ 32 ∷ 115 ∷ 32 ∷ 69 ∷ 78 ∷ 68 ∷ 32 ∷ 77 ∷ 46 ∷ []); symbols = (symbol (Ident) 0 6 ∷ symbol (Ident) 7 8 ∷ symbol (Ident) 8 9 ∷ symbol (Ident) 10 13 ∷ symbol (Ident) 14 15 ∷ symbol (Ident) 15 16 ∷ symbol (Ident) 17 20 ∷ symbol (Ident) 20 21 ∷ symbol (Ident) 22 27 ∷ symbol (Ident) 28 29 ∷ symbol (Ident) 30 32 ∷ symbol (Ident) 33 34 ∷ symbol (Ident) 35 38 ∷ symbol (Ident) 39 40 ∷ symbol (Ident) 41 44 ∷ symbol (Ident) 45 46 ∷ symbol (Ident) 46 47 ∷ []) }; tree = record { module_word = 0; name = 1; semicolon = 0; imports = None; decls = (S.decls None None (Some (record { var_word = 0; each = (record { names = (record { first = (record { name = 4; star = None }); more = [] }); colon = 0; of = (S.Named (record { name = 6; member = None })); semicolon = 0 } ∷ []) })) S.no_procedure); body = (Some (record { begin_word = 0; stats = (S.stats (S.AssignOrCall (record { name = 9; selectors = S.no_selector }) (Some (record { becomes = 0; value = (S.only (S.simple None (S.term (S.Designated 11 S.no_selector) (S.multiplied (TheMulOperator.Div 12) (S.Designated 13 S.no_selector) S.no_factor)) S.no_term)) }))) S.no_stat) })); end_word = 0; end_name = 15; period = 0 } }

pub type_mismatch_8 : checked (type_mismatch_8_0 ∷ []) ≡ Fault 0 31 35
type_mismatch_8 = refl

-- MODULE M; VAR i: INTEGER; BEGIN i := i / 2 END M.
abbrev type_mismatch_9_0 : Parsed
type_mismatch_9_0 = record { source = record { bytes = (77 ∷ 79 ∷ 68 ∷ 85 ∷ 76 ∷ 69 ∷ 32 ∷ 77 ∷ 59 ∷ 32 ∷ 86 ∷ 65 ∷ 82 ∷ 32 ∷ 105 ∷ 58 ∷ 32 ∷ 73 ∷ 78 ∷ 84 ∷ 69 ∷ 71 ∷ 69 ∷ 82 ∷ 59 ∷ 32 ∷ 66 ∷ 69 ∷ 71 ∷ 73 ∷ 78 ∷ 32 ∷ 105 ∷ 32 ∷ 58 ∷ 61 ∷ 32 ∷ 105 ∷ 32 ∷ 47 ∷ 32 ∷ 50 ∷ 32 ∷ 69 ∷ 78 ∷ 68 ∷ 32 ∷ 77 ∷ 46 ∷ []); symbols = (symbol (Ident) 0 6 ∷ symbol (Ident) 7 8 ∷ symbol (Ident) 8 9 ∷ symbol (Ident) 10 13 ∷ symbol (Ident) 14 15 ∷ symbol (Ident) 15 16 ∷ symbol (Ident) 17 24 ∷ symbol (Ident) 24 25 ∷ symbol (Ident) 26 31 ∷ symbol (Ident) 32 33 ∷ symbol (Ident) 34 36 ∷ symbol (Ident) 37 38 ∷ symbol (Ident) 39 40 ∷ symbol (Int (pos 2)) 41 42 ∷ symbol (Ident) 43 46 ∷ symbol (Ident) 47 48 ∷ symbol (Ident) 48 49 ∷ []) }; tree = record { module_word = 0; name = 1; semicolon = 0; imports = None; decls = (S.decls None None (Some (record { var_word = 0; each = (record { names = (record { first = (record { name = 4; star = None }); more = [] }); colon = 0; of = (S.Named (record { name = 6; member = None })); semicolon = 0 } ∷ []) })) S.no_procedure); body = (Some (record { begin_word = 0; stats = (S.stats (S.AssignOrCall (record { name = 9; selectors = S.no_selector }) (Some (record { becomes = 0; value = (S.only (S.simple None (S.term (S.Designated 11 S.no_selector) (S.multiplied (TheMulOperator.Slash 12) (S.Int 13) S.no_factor)) S.no_term)) }))) S.no_stat) })); end_word = 0; end_name = 15; period = 0 } }

pub type_mismatch_9 : checked (type_mismatch_9_0 ∷ []) ≡ Fault 0 31 39
type_mismatch_9 = refl

-- MODULE M; VAR i: INTEGER; b: BOOLEAN; BEGIN b := ~i END M.
abbrev type_mismatch_10_0 : Parsed
type_mismatch_10_0 = record { source = record { bytes = (77 ∷ 79 ∷ 68 ∷ 85 ∷ 76 ∷ 69 ∷ 32 ∷ 77 ∷ 59 ∷ 32 ∷ 86 ∷ 65 ∷ 82 ∷ 32 ∷ 105 ∷ 58 ∷ 32 ∷ 73 ∷ 78 ∷ 84 ∷ 69 ∷ 71 ∷ 69 ∷ 82 ∷ 59 ∷ 32 ∷ 98 ∷ 58 ∷ 32 ∷ 66 ∷ 79 ∷ 79 ∷ 76 ∷ 69 ∷ 65 ∷ 78 ∷ 59 ∷ 32 ∷ 66 ∷ 69 ∷ 71 ∷ 73 ∷ 78 ∷ 32 ∷ 98 ∷ 32 ∷ 58 ∷ 61 ∷ 32 ∷ 126 ∷ 105 ∷ 32 ∷ 69 ∷ 78 ∷ 68 ∷ 32 ∷ 77 ∷ 46 ∷ []); symbols = (symbol (Ident) 0 6 ∷ symbol (Ident) 7 8 ∷ symbol (Ident) 8 9 ∷ symbol (Ident) 10 13 ∷ symbol (Ident) 14 15 ∷ symbol (Ident) 15 16 ∷ symbol (Ident) 17 24 ∷ symbol (Ident) 24 25 ∷ symbol (Ident) 26 27 ∷ symbol (Ident) 27 28 ∷ symbol (Ident) 29 36 ∷ symbol (Ident) 36 37 ∷ symbol (Ident) 38 43 ∷ symbol (Ident) 44 45 ∷ symbol (Ident) 46 48 ∷ symbol (Ident) 49 50 ∷ symbol (Ident) 50 51 ∷ symbol (Ident) 52 55 ∷ symbol (Ident) 56 57 ∷ symbol (Ident) 57 58 ∷ []) }; tree = record { module_word = 0; name = 1; semicolon = 0; imports = None; decls = (S.decls None None (Some (record { var_word = 0; each = (record { names = (record { first = (record { name = 4; star = None }); more = [] }); colon = 0; of = (S.Named (record { name = 6; member = None })); semicolon = 0 } ∷ record { names = (record { first = (record { name = 8; star = None }); more = [] }); colon = 0; of = (S.Named (record { name = 10; member = None })); semicolon = 0 } ∷ []) })) S.no_procedure); body = (Some (record { begin_word = 0; stats = (S.stats (S.AssignOrCall (record { name = 13; selectors = S.no_selector }) (Some (record { becomes = 0; value = (S.only (S.simple None (S.term (S.Not 15 (S.Designated 16 S.no_selector)) S.no_factor) S.no_term)) }))) S.no_stat) })); end_word = 0; end_name = 18; period = 0 } }

pub type_mismatch_10 : checked (type_mismatch_10_0 ∷ []) ≡ Fault 0 31 49
type_mismatch_10 = refl

-- MODULE M; VAR i: INTEGER; b: BOOLEAN; BEGIN i := -b END M.
abbrev type_mismatch_11_0 : Parsed
type_mismatch_11_0 = record { source = record { bytes = (77 ∷ 79 ∷ 68 ∷ 85 ∷ 76 ∷ 69 ∷ 32 ∷ 77 ∷ 59 ∷ 32 ∷ 86 ∷ 65 ∷ 82 ∷ 32 ∷ 105 ∷ 58 ∷ 32 ∷ 73 ∷ 78 ∷ 84 ∷ 69 ∷ 71 ∷ 69 ∷ 82 ∷ 59 ∷ 32 ∷ 98 ∷ 58 ∷ 32 ∷ 66 ∷ 79 ∷ 79 ∷ 76 ∷ 69 ∷ 65 ∷ 78 ∷ 59 ∷ 32 ∷ 66 ∷ 69 ∷ 71 ∷ 73 ∷ 78 ∷ 32 ∷ 105 ∷ 32 ∷ 58 ∷ 61 ∷ 32 ∷ 45 ∷ 98 ∷ 32 ∷ 69 ∷ 78 ∷ 68 ∷ 32 ∷ 77 ∷ 46 ∷ []); symbols = (symbol (Ident) 0 6 ∷ symbol (Ident) 7 8 ∷ symbol (Ident) 8 9 ∷ symbol (Ident) 10 13 ∷ symbol (Ident) 14 15 ∷ symbol (Ident) 15 16 ∷ symbol (Ident) 17 24 ∷ symbol (Ident) 24 25 ∷ symbol (Ident) 26 27 ∷ symbol (Ident) 27 28 ∷ symbol (Ident) 29 36 ∷ symbol (Ident) 36 37 ∷ symbol (Ident) 38 43 ∷ symbol (Ident) 44 45 ∷ symbol (Ident) 46 48 ∷ symbol (Ident) 49 50 ∷ symbol (Ident) 50 51 ∷ symbol (Ident) 52 55 ∷ symbol (Ident) 56 57 ∷ symbol (Ident) 57 58 ∷ []) }; tree = record { module_word = 0; name = 1; semicolon = 0; imports = None; decls = (S.decls None None (Some (record { var_word = 0; each = (record { names = (record { first = (record { name = 4; star = None }); more = [] }); colon = 0; of = (S.Named (record { name = 6; member = None })); semicolon = 0 } ∷ record { names = (record { first = (record { name = 8; star = None }); more = [] }); colon = 0; of = (S.Named (record { name = 10; member = None })); semicolon = 0 } ∷ []) })) S.no_procedure); body = (Some (record { begin_word = 0; stats = (S.stats (S.AssignOrCall (record { name = 13; selectors = S.no_selector }) (Some (record { becomes = 0; value = (S.only (S.simple (Some (TheSign.Minus 15)) (S.term (S.Designated 16 S.no_selector) S.no_factor) S.no_term)) }))) S.no_stat) })); end_word = 0; end_name = 18; period = 0 } }

pub type_mismatch_11 : checked (type_mismatch_11_0 ∷ []) ≡ Fault 0 31 49
type_mismatch_11 = refl

-- MODULE M; VAR s: SET; BEGIN s := +s END M.
abbrev type_mismatch_12_0 : Parsed
type_mismatch_12_0 = record { source = record { bytes = (77 ∷ 79 ∷ 68 ∷ 85 ∷ 76 ∷ 69 ∷ 32 ∷ 77 ∷ 59 ∷ 32 ∷ 86 ∷ 65 ∷ 82 ∷ 32 ∷ 115 ∷ 58 ∷ 32 ∷ 83 ∷ 69 ∷ 84 ∷ 59 ∷ 32 ∷ 66 ∷ 69 ∷ 71 ∷ 73 ∷ 78 ∷ 32 ∷ 115 ∷ 32 ∷ 58 ∷ 61 ∷ 32 ∷ 43 ∷ 115 ∷ 32 ∷ 69 ∷ 78 ∷ 68 ∷ 32 ∷ 77 ∷ 46 ∷ []); symbols = (symbol (Ident) 0 6 ∷ symbol (Ident) 7 8 ∷ symbol (Ident) 8 9 ∷ symbol (Ident) 10 13 ∷ symbol (Ident) 14 15 ∷ symbol (Ident) 15 16 ∷ symbol (Ident) 17 20 ∷ symbol (Ident) 20 21 ∷ symbol (Ident) 22 27 ∷ symbol (Ident) 28 29 ∷ symbol (Ident) 30 32 ∷ symbol (Ident) 33 34 ∷ symbol (Ident) 34 35 ∷ symbol (Ident) 36 39 ∷ symbol (Ident) 40 41 ∷ symbol (Ident) 41 42 ∷ []) }; tree = record { module_word = 0; name = 1; semicolon = 0; imports = None; decls = (S.decls None None (Some (record { var_word = 0; each = (record { names = (record { first = (record { name = 4; star = None }); more = [] }); colon = 0; of = (S.Named (record { name = 6; member = None })); semicolon = 0 } ∷ []) })) S.no_procedure); body = (Some (record { begin_word = 0; stats = (S.stats (S.AssignOrCall (record { name = 9; selectors = S.no_selector }) (Some (record { becomes = 0; value = (S.only (S.simple (Some (TheSign.Plus 11)) (S.term (S.Designated 12 S.no_selector) S.no_factor) S.no_term)) }))) S.no_stat) })); end_word = 0; end_name = 14; period = 0 } }

pub type_mismatch_12 : checked (type_mismatch_12_0 ∷ []) ≡ Fault 0 31 33
type_mismatch_12 = refl

-- MODULE M; VAR c: CHAR; BEGIN c := +c END M.
abbrev type_mismatch_13_0 : Parsed
type_mismatch_13_0 = record { source = record { bytes = (77 ∷ 79 ∷ 68 ∷ 85 ∷ 76 ∷ 69 ∷ 32 ∷ 77 ∷ 59 ∷ 32 ∷ 86 ∷ 65 ∷ 82 ∷ 32 ∷ 99 ∷ 58 ∷ 32 ∷ 67 ∷ 72 ∷ 65 ∷ 82 ∷ 59 ∷ 32 ∷ 66 ∷ 69 ∷ 71 ∷ 73 ∷ 78 ∷ 32 ∷ 99 ∷ 32 ∷ 58 ∷ 61 ∷ 32 ∷ 43 ∷ 99 ∷ 32 ∷ 69 ∷ 78 ∷ 68 ∷ 32 ∷ 77 ∷ 46 ∷ []); symbols = (symbol (Ident) 0 6 ∷ symbol (Ident) 7 8 ∷ symbol (Ident) 8 9 ∷ symbol (Ident) 10 13 ∷ symbol (Ident) 14 15 ∷ symbol (Ident) 15 16 ∷ symbol (Ident) 17 21 ∷ symbol (Ident) 21 22 ∷ symbol (Ident) 23 28 ∷ symbol (Ident) 29 30 ∷ symbol (Ident) 31 33 ∷ symbol (Ident) 34 35 ∷ symbol (Ident) 35 36 ∷ symbol (Ident) 37 40 ∷ symbol (Ident) 41 42 ∷ symbol (Ident) 42 43 ∷ []) }; tree = record { module_word = 0; name = 1; semicolon = 0; imports = None; decls = (S.decls None None (Some (record { var_word = 0; each = (record { names = (record { first = (record { name = 4; star = None }); more = [] }); colon = 0; of = (S.Named (record { name = 6; member = None })); semicolon = 0 } ∷ []) })) S.no_procedure); body = (Some (record { begin_word = 0; stats = (S.stats (S.AssignOrCall (record { name = 9; selectors = S.no_selector }) (Some (record { becomes = 0; value = (S.only (S.simple (Some (TheSign.Plus 11)) (S.term (S.Designated 12 S.no_selector) S.no_factor) S.no_term)) }))) S.no_stat) })); end_word = 0; end_name = 14; period = 0 } }

pub type_mismatch_13 : checked (type_mismatch_13_0 ∷ []) ≡ Fault 0 31 34
type_mismatch_13 = refl

-- MODULE M; VAR b: BOOLEAN; BEGIN b := b < b END M.
abbrev type_mismatch_14_0 : Parsed
type_mismatch_14_0 = record { source = record { bytes = (77 ∷ 79 ∷ 68 ∷ 85 ∷ 76 ∷ 69 ∷ 32 ∷ 77 ∷ 59 ∷ 32 ∷ 86 ∷ 65 ∷ 82 ∷ 32 ∷ 98 ∷ 58 ∷ 32 ∷ 66 ∷ 79 ∷ 79 ∷ 76 ∷ 69 ∷ 65 ∷ 78 ∷ 59 ∷ 32 ∷ 66 ∷ 69 ∷ 71 ∷ 73 ∷ 78 ∷ 32 ∷ 98 ∷ 32 ∷ 58 ∷ 61 ∷ 32 ∷ 98 ∷ 32 ∷ 60 ∷ 32 ∷ 98 ∷ 32 ∷ 69 ∷ 78 ∷ 68 ∷ 32 ∷ 77 ∷ 46 ∷ []); symbols = (symbol (Ident) 0 6 ∷ symbol (Ident) 7 8 ∷ symbol (Ident) 8 9 ∷ symbol (Ident) 10 13 ∷ symbol (Ident) 14 15 ∷ symbol (Ident) 15 16 ∷ symbol (Ident) 17 24 ∷ symbol (Ident) 24 25 ∷ symbol (Ident) 26 31 ∷ symbol (Ident) 32 33 ∷ symbol (Ident) 34 36 ∷ symbol (Ident) 37 38 ∷ symbol (Ident) 39 40 ∷ symbol (Ident) 41 42 ∷ symbol (Ident) 43 46 ∷ symbol (Ident) 47 48 ∷ symbol (Ident) 48 49 ∷ []) }; tree = record { module_word = 0; name = 1; semicolon = 0; imports = None; decls = (S.decls None None (Some (record { var_word = 0; each = (record { names = (record { first = (record { name = 4; star = None }); more = [] }); colon = 0; of = (S.Named (record { name = 6; member = None })); semicolon = 0 } ∷ []) })) S.no_procedure); body = (Some (record { begin_word = 0; stats = (S.stats (S.AssignOrCall (record { name = 9; selectors = S.no_selector }) (Some (record { becomes = 0; value = (S.compared (S.simple None (S.term (S.Designated 11 S.no_selector) S.no_factor) S.no_term) (TheRelation.Less 12) (S.simple None (S.term (S.Designated 13 S.no_selector) S.no_factor) S.no_term)) }))) S.no_stat) })); end_word = 0; end_name = 15; period = 0 } }

pub type_mismatch_14 : checked (type_mismatch_14_0 ∷ []) ≡ Fault 0 31 39
type_mismatch_14 = refl

-- MODULE M; VAR b: BOOLEAN; s: SET; BEGIN b := s < s END M.
abbrev type_mismatch_15_0 : Parsed
type_mismatch_15_0 = record { source = record { bytes = (77 ∷ 79 ∷ 68 ∷ 85 ∷ 76 ∷ 69 ∷ 32 ∷ 77 ∷ 59 ∷ 32 ∷ 86 ∷ 65 ∷ 82 ∷ 32 ∷ 98 ∷ 58 ∷ 32 ∷ 66 ∷ 79 ∷ 79 ∷ 76 ∷ 69 ∷ 65 ∷ 78 ∷ 59 ∷ 32 ∷ 115 ∷ 58 ∷ 32 ∷ 83 ∷ 69 ∷ 84 ∷ 59 ∷ 32 ∷ 66 ∷ 69 ∷ 71 ∷ 73 ∷ 78 ∷ 32 ∷ 98 ∷ 32 ∷ 58 ∷ 61 ∷ 32 ∷ 115 ∷ 32 ∷ 60 ∷ 32 ∷ 115 ∷ 32 ∷ 69 ∷ 78 ∷ 68 ∷ 32 ∷ 77 ∷ 46 ∷ []); symbols = (symbol (Ident) 0 6 ∷ symbol (Ident) 7 8 ∷ symbol (Ident) 8 9 ∷ symbol (Ident) 10 13 ∷ symbol (Ident) 14 15 ∷ symbol (Ident) 15 16 ∷ symbol (Ident) 17 24 ∷ symbol (Ident) 24 25 ∷ symbol (Ident) 26 27 ∷ symbol (Ident) 27 28 ∷ symbol (Ident) 29 32 ∷ symbol (Ident) 32 33 ∷ symbol (Ident) 34 39 ∷ symbol (Ident) 40 41 ∷ symbol (Ident) 42 44 ∷ symbol (Ident) 45 46 ∷ symbol (Ident) 47 48 ∷ symbol (Ident) 49 50 ∷ symbol (Ident) 51 54 ∷ symbol (Ident) 55 56 ∷ symbol (Ident) 56 57 ∷ []) }; tree = record { module_word = 0; name = 1; semicolon = 0; imports = None; decls = (S.decls None None (Some (record { var_word = 0; each = (record { names = (record { first = (record { name = 4; star = None }); more = [] }); colon = 0; of = (S.Named (record { name = 6; member = None })); semicolon = 0 } ∷ record { names = (record { first = (record { name = 8; star = None }); more = [] }); colon = 0; of = (S.Named (record { name = 10; member = None })); semicolon = 0 } ∷ []) })) S.no_procedure); body = (Some (record { begin_word = 0; stats = (S.stats (S.AssignOrCall (record { name = 13; selectors = S.no_selector }) (Some (record { becomes = 0; value = (S.compared (S.simple None (S.term (S.Designated 15 S.no_selector) S.no_factor) S.no_term) (TheRelation.Less 16) (S.simple None (S.term (S.Designated 17 S.no_selector) S.no_factor) S.no_term)) }))) S.no_stat) })); end_word = 0; end_name = 19; period = 0 } }

pub type_mismatch_15 : checked (type_mismatch_15_0 ∷ []) ≡ Fault 0 31 47
type_mismatch_15 = refl

-- MODULE M; TYPE R = RECORD x: INTEGER; y*: CHAR END; P = POINTER TO R; VAR b: BOOLEAN; p: P; BEGIN b := p < p END M.
abbrev type_mismatch_16_0 : Parsed
type_mismatch_16_0 = record { source = record { bytes = (77 ∷ 79 ∷ 68 ∷ 85 ∷ 76 ∷ 69 ∷ 32 ∷ 77 ∷ 59 ∷ 32 ∷ 84 ∷ 89 ∷ 80 ∷ 69 ∷ 32 ∷ 82 ∷ 32 ∷ 61 ∷ 32 ∷ 82 ∷ 69 ∷ 67 ∷ 79 ∷ 82 ∷ 68 ∷ 32 ∷ 120 ∷ 58 ∷ 32 ∷ 73 ∷ 78 ∷ 84 ∷ 69 ∷ 71 ∷ 69 ∷ 82 ∷ 59 ∷ 32 ∷ 121 ∷ 42 ∷ 58 ∷ 32 ∷ 67 ∷ 72 ∷ 65 ∷ 82 ∷ 32 ∷ 69 ∷ 78 ∷ 68 ∷ 59 ∷ 32 ∷ 80 ∷ 32 ∷ 61 ∷ 32 ∷ 80 ∷ 79 ∷ 73 ∷ 78 ∷ 84 ∷ 69 ∷ 82 ∷ 32 ∷ 84 ∷ 79 ∷ 32 ∷ 82 ∷ 59 ∷ 32 ∷ 86 ∷ 65 ∷ 82 ∷ 32 ∷ 98 ∷ 58 ∷ 32 ∷ 66 ∷ 79 ∷ 79 ∷ 76 ∷ 69 ∷ 65 ∷ 78 ∷ 59 ∷ 32 ∷ 112 ∷ 58 ∷ 32 ∷ 80 ∷ 59 ∷ 32 ∷ 66 ∷ 69 ∷ 71 ∷ 73 ∷ 78 ∷ 32 ∷ 98 ∷ 32 ∷ 58 ∷ 61 ∷ 32 ∷ 112 ∷ 32 ∷ 60 ∷ 32 ∷ 112 ∷ 32 ∷ 69 ∷ 78 ∷ 68 ∷ 32 ∷ 77 ∷ 46 ∷ []); symbols = (symbol (Ident) 0 6 ∷ symbol (Ident) 7 8 ∷ symbol (Ident) 8 9 ∷ symbol (Ident) 10 14 ∷ symbol (Ident) 15 16 ∷ symbol (Ident) 17 18 ∷ symbol (Ident) 19 25 ∷ symbol (Ident) 26 27 ∷ symbol (Ident) 27 28 ∷ symbol (Ident) 29 36 ∷ symbol (Ident) 36 37 ∷ symbol (Ident) 38 39 ∷ symbol (Ident) 39 40 ∷ symbol (Ident) 40 41 ∷ symbol (Ident) 42 46 ∷ symbol (Ident) 47 50 ∷ symbol (Ident) 50 51 ∷ symbol (Ident) 52 53 ∷ symbol (Ident) 54 55 ∷ symbol (Ident) 56 63 ∷ symbol (Ident) 64 66 ∷ symbol (Ident) 67 68 ∷ symbol (Ident) 68 69 ∷ symbol (Ident) 70 73 ∷ symbol (Ident) 74 75 ∷ symbol (Ident) 75 76 ∷ symbol (Ident) 77 84 ∷ symbol (Ident) 84 85 ∷ symbol (Ident) 86 87 ∷ symbol (Ident) 87 88 ∷ symbol (Ident) 89 90 ∷ symbol (Ident) 90 91 ∷ symbol (Ident) 92 97 ∷ symbol (Ident) 98 99 ∷ symbol (Ident) 100 102 ∷ symbol (Ident) 103 104 ∷ symbol (Ident) 105 106 ∷ symbol (Ident) 107 108 ∷ symbol (Ident) 109 112 ∷ symbol (Ident) 113 114 ∷ symbol (Ident) 114 115 ∷ []) }; tree = record { module_word = 0; name = 1; semicolon = 0; imports = None; decls = (S.decls None (Some (record { type_word = 0; each = (record { name = (record { name = 4; star = None }); equal = 0; is = (S.Record 6 None (S.fields (record { first = (record { name = 7; star = None }); more = [] }) 0 (S.Named (record { name = 9; member = None }))) (S.next_fields 0 (S.fields (record { first = (record { name = 11; star = Some 0 }); more = [] }) 0 (S.Named (record { name = 14; member = None }))) S.no_more_fields) 0); semicolon = 0 } ∷ record { name = (record { name = 17; star = None }); equal = 0; is = (S.Pointer 19 0 (S.Named (record { name = 21; member = None }))); semicolon = 0 } ∷ []) })) (Some (record { var_word = 0; each = (record { names = (record { first = (record { name = 24; star = None }); more = [] }); colon = 0; of = (S.Named (record { name = 26; member = None })); semicolon = 0 } ∷ record { names = (record { first = (record { name = 28; star = None }); more = [] }); colon = 0; of = (S.Named (record { name = 30; member = None })); semicolon = 0 } ∷ []) })) S.no_procedure); body = (Some (record { begin_word = 0; stats = (S.stats (S.AssignOrCall (record { name = 33; selectors = S.no_selector }) (Some (record { becomes = 0; value = (S.compared (S.simple None (S.term (S.Designated 35 S.no_selector) S.no_factor) S.no_term) (TheRelation.Less 36) (S.simple None (S.term (S.Designated 37 S.no_selector) S.no_factor) S.no_term)) }))) S.no_stat) })); end_word = 0; end_name = 39; period = 0 } }

pub type_mismatch_16 : checked (type_mismatch_16_0 ∷ []) ≡ Fault 0 31 105
type_mismatch_16 = refl

-- MODULE M; TYPE R = RECORD x: INTEGER; y*: CHAR END; P = POINTER TO R; VAR i: INTEGER; b: BOOLEAN; p: P; BEGIN b := p = i END M.
abbrev type_mismatch_17_0 : Parsed
type_mismatch_17_0 = record { source = record { bytes = (77 ∷ 79 ∷ 68 ∷ 85 ∷ 76 ∷ 69 ∷ 32 ∷ 77 ∷ 59 ∷ 32 ∷ 84 ∷ 89 ∷ 80 ∷ 69 ∷ 32 ∷ 82 ∷ 32 ∷ 61 ∷ 32 ∷ 82 ∷ 69 ∷ 67 ∷ 79 ∷ 82 ∷ 68 ∷ 32 ∷ 120 ∷ 58 ∷ 32 ∷ 73 ∷ 78 ∷ 84 ∷ 69 ∷ 71 ∷ 69 ∷ 82 ∷ 59 ∷ 32 ∷ 121 ∷ 42 ∷ 58 ∷ 32 ∷ 67 ∷ 72 ∷ 65 ∷ 82 ∷ 32 ∷ 69 ∷ 78 ∷ 68 ∷ 59 ∷ 32 ∷ 80 ∷ 32 ∷ 61 ∷ 32 ∷ 80 ∷ 79 ∷ 73 ∷ 78 ∷ 84 ∷ 69 ∷ 82 ∷ 32 ∷ 84 ∷ 79 ∷ 32 ∷ 82 ∷ 59 ∷ 32 ∷ 86 ∷ 65 ∷ 82 ∷ 32 ∷ 105 ∷ 58 ∷ 32 ∷ 73 ∷ 78 ∷ 84 ∷ 69 ∷ 71 ∷ 69 ∷ 82 ∷ 59 ∷ 32 ∷ 98 ∷ 58 ∷ 32 ∷ 66 ∷ 79 ∷ 79 ∷ 76 ∷ 69 ∷ 65 ∷ 78 ∷ 59 ∷ 32 ∷ 112 ∷ 58 ∷ 32 ∷ 80 ∷ 59 ∷ 32 ∷ 66 ∷ 69 ∷ 71 ∷ 73 ∷ 78 ∷ 32 ∷ 98 ∷ 32 ∷ 58 ∷ 61 ∷ 32 ∷ 112 ∷ 32 ∷ 61 ∷ 32 ∷ 105 ∷ 32 ∷ 69 ∷ 78 ∷ 68 ∷ 32 ∷ 77 ∷ 46 ∷ []); symbols = (symbol (Ident) 0 6 ∷ symbol (Ident) 7 8 ∷ symbol (Ident) 8 9 ∷ symbol (Ident) 10 14 ∷ symbol (Ident) 15 16 ∷ symbol (Ident) 17 18 ∷ symbol (Ident) 19 25 ∷ symbol (Ident) 26 27 ∷ symbol (Ident) 27 28 ∷ symbol (Ident) 29 36 ∷ symbol (Ident) 36 37 ∷ symbol (Ident) 38 39 ∷ symbol (Ident) 39 40 ∷ symbol (Ident) 40 41 ∷ symbol (Ident) 42 46 ∷ symbol (Ident) 47 50 ∷ symbol (Ident) 50 51 ∷ symbol (Ident) 52 53 ∷ symbol (Ident) 54 55 ∷ symbol (Ident) 56 63 ∷ symbol (Ident) 64 66 ∷ symbol (Ident) 67 68 ∷ symbol (Ident) 68 69 ∷ symbol (Ident) 70 73 ∷ symbol (Ident) 74 75 ∷ symbol (Ident) 75 76 ∷ symbol (Ident) 77 84 ∷ symbol (Ident) 84 85 ∷ symbol (Ident) 86 87 ∷ symbol (Ident) 87 88 ∷ symbol (Ident) 89 96 ∷ symbol (Ident) 96 97 ∷ symbol (Ident) 98 99 ∷ symbol (Ident) 99 100 ∷ symbol (Ident) 101 102 ∷ symbol (Ident) 102 103 ∷ symbol (Ident) 104 109 ∷ symbol (Ident) 110 111 ∷ symbol (Ident) 112 114 ∷ symbol (Ident) 115 116 ∷ symbol (Ident) 117 118 ∷ symbol (Ident) 119 120 ∷ symbol (Ident) 121 124 ∷ symbol (Ident) 125 126 ∷ symbol (Ident) 126 127 ∷ []) }; tree = record { module_word = 0; name = 1; semicolon = 0; imports = None; decls = (S.decls None (Some (record { type_word = 0; each = (record { name = (record { name = 4; star = None }); equal = 0; is = (S.Record 6 None (S.fields (record { first = (record { name = 7; star = None }); more = [] }) 0 (S.Named (record { name = 9; member = None }))) (S.next_fields 0 (S.fields (record { first = (record { name = 11; star = Some 0 }); more = [] }) 0 (S.Named (record { name = 14; member = None }))) S.no_more_fields) 0); semicolon = 0 } ∷ record { name = (record { name = 17; star = None }); equal = 0; is = (S.Pointer 19 0 (S.Named (record { name = 21; member = None }))); semicolon = 0 } ∷ []) })) (Some (record { var_word = 0; each = (record { names = (record { first = (record { name = 24; star = None }); more = [] }); colon = 0; of = (S.Named (record { name = 26; member = None })); semicolon = 0 } ∷ record { names = (record { first = (record { name = 28; star = None }); more = [] }); colon = 0; of = (S.Named (record { name = 30; member = None })); semicolon = 0 } ∷ record { names = (record { first = (record { name = 32; star = None }); more = [] }); colon = 0; of = (S.Named (record { name = 34; member = None })); semicolon = 0 } ∷ []) })) S.no_procedure); body = (Some (record { begin_word = 0; stats = (S.stats (S.AssignOrCall (record { name = 37; selectors = S.no_selector }) (Some (record { becomes = 0; value = (S.compared (S.simple None (S.term (S.Designated 39 S.no_selector) S.no_factor) S.no_term) (TheRelation.Equal 40) (S.simple None (S.term (S.Designated 41 S.no_selector) S.no_factor) S.no_term)) }))) S.no_stat) })); end_word = 0; end_name = 43; period = 0 } }

pub type_mismatch_17 : checked (type_mismatch_17_0 ∷ []) ≡ Fault 0 31 117
type_mismatch_17 = refl

-- MODULE M; VAR b: BOOLEAN; BEGIN b := NIL = NIL END M.
abbrev type_mismatch_18_0 : Parsed
type_mismatch_18_0 = record { source = record { bytes = (77 ∷ 79 ∷ 68 ∷ 85 ∷ 76 ∷ 69 ∷ 32 ∷ 77 ∷ 59 ∷ 32 ∷ 86 ∷ 65 ∷ 82 ∷ 32 ∷ 98 ∷ 58 ∷ 32 ∷ 66 ∷ 79 ∷ 79 ∷ 76 ∷ 69 ∷ 65 ∷ 78 ∷ 59 ∷ 32 ∷ 66 ∷ 69 ∷ 71 ∷ 73 ∷ 78 ∷ 32 ∷ 98 ∷ 32 ∷ 58 ∷ 61 ∷ 32 ∷ 78 ∷ 73 ∷ 76 ∷ 32 ∷ 61 ∷ 32 ∷ 78 ∷ 73 ∷ 76 ∷ 32 ∷ 69 ∷ 78 ∷ 68 ∷ 32 ∷ 77 ∷ 46 ∷ []); symbols = (symbol (Ident) 0 6 ∷ symbol (Ident) 7 8 ∷ symbol (Ident) 8 9 ∷ symbol (Ident) 10 13 ∷ symbol (Ident) 14 15 ∷ symbol (Ident) 15 16 ∷ symbol (Ident) 17 24 ∷ symbol (Ident) 24 25 ∷ symbol (Ident) 26 31 ∷ symbol (Ident) 32 33 ∷ symbol (Ident) 34 36 ∷ symbol (Ident) 37 40 ∷ symbol (Ident) 41 42 ∷ symbol (Ident) 43 46 ∷ symbol (Ident) 47 50 ∷ symbol (Ident) 51 52 ∷ symbol (Ident) 52 53 ∷ []) }; tree = record { module_word = 0; name = 1; semicolon = 0; imports = None; decls = (S.decls None None (Some (record { var_word = 0; each = (record { names = (record { first = (record { name = 4; star = None }); more = [] }); colon = 0; of = (S.Named (record { name = 6; member = None })); semicolon = 0 } ∷ []) })) S.no_procedure); body = (Some (record { begin_word = 0; stats = (S.stats (S.AssignOrCall (record { name = 9; selectors = S.no_selector }) (Some (record { becomes = 0; value = (S.compared (S.simple None (S.term (S.Nil 11) S.no_factor) S.no_term) (TheRelation.Equal 12) (S.simple None (S.term (S.Nil 13) S.no_factor) S.no_term)) }))) S.no_stat) })); end_word = 0; end_name = 15; period = 0 } }

pub type_mismatch_18 : checked (type_mismatch_18_0 ∷ []) ≡ Fault 0 31 41
type_mismatch_18 = refl

-- MODULE M; TYPE R = RECORD x: INTEGER; y*: CHAR END; VAR b: BOOLEAN; r: R; BEGIN b := r = r END M.
abbrev type_mismatch_19_0 : Parsed
type_mismatch_19_0 = record { source = record { bytes = (77 ∷ 79 ∷ 68 ∷ 85 ∷ 76 ∷ 69 ∷ 32 ∷ 77 ∷ 59 ∷ 32 ∷ 84 ∷ 89 ∷ 80 ∷ 69 ∷ 32 ∷ 82 ∷ 32 ∷ 61 ∷ 32 ∷ 82 ∷ 69 ∷ 67 ∷ 79 ∷ 82 ∷ 68 ∷ 32 ∷ 120 ∷ 58 ∷ 32 ∷ 73 ∷ 78 ∷ 84 ∷ 69 ∷ 71 ∷ 69 ∷ 82 ∷ 59 ∷ 32 ∷ 121 ∷ 42 ∷ 58 ∷ 32 ∷ 67 ∷ 72 ∷ 65 ∷ 82 ∷ 32 ∷ 69 ∷ 78 ∷ 68 ∷ 59 ∷ 32 ∷ 86 ∷ 65 ∷ 82 ∷ 32 ∷ 98 ∷ 58 ∷ 32 ∷ 66 ∷ 79 ∷ 79 ∷ 76 ∷ 69 ∷ 65 ∷ 78 ∷ 59 ∷ 32 ∷ 114 ∷ 58 ∷ 32 ∷ 82 ∷ 59 ∷ 32 ∷ 66 ∷ 69 ∷ 71 ∷ 73 ∷ 78 ∷ 32 ∷ 98 ∷ 32 ∷ 58 ∷ 61 ∷ 32 ∷ 114 ∷ 32 ∷ 61 ∷ 32 ∷ 114 ∷ 32 ∷ 69 ∷ 78 ∷ 68 ∷ 32 ∷ 77 ∷ 46 ∷ []); symbols = (symbol (Ident) 0 6 ∷ symbol (Ident) 7 8 ∷ symbol (Ident) 8 9 ∷ symbol (Ident) 10 14 ∷ symbol (Ident) 15 16 ∷ symbol (Ident) 17 18 ∷ symbol (Ident) 19 25 ∷ symbol (Ident) 26 27 ∷ symbol (Ident) 27 28 ∷ symbol (Ident) 29 36 ∷ symbol (Ident) 36 37 ∷ symbol (Ident) 38 39 ∷ symbol (Ident) 39 40 ∷ symbol (Ident) 40 41 ∷ symbol (Ident) 42 46 ∷ symbol (Ident) 47 50 ∷ symbol (Ident) 50 51 ∷ symbol (Ident) 52 55 ∷ symbol (Ident) 56 57 ∷ symbol (Ident) 57 58 ∷ symbol (Ident) 59 66 ∷ symbol (Ident) 66 67 ∷ symbol (Ident) 68 69 ∷ symbol (Ident) 69 70 ∷ symbol (Ident) 71 72 ∷ symbol (Ident) 72 73 ∷ symbol (Ident) 74 79 ∷ symbol (Ident) 80 81 ∷ symbol (Ident) 82 84 ∷ symbol (Ident) 85 86 ∷ symbol (Ident) 87 88 ∷ symbol (Ident) 89 90 ∷ symbol (Ident) 91 94 ∷ symbol (Ident) 95 96 ∷ symbol (Ident) 96 97 ∷ []) }; tree = record { module_word = 0; name = 1; semicolon = 0; imports = None; decls = (S.decls None (Some (record { type_word = 0; each = (record { name = (record { name = 4; star = None }); equal = 0; is = (S.Record 6 None (S.fields (record { first = (record { name = 7; star = None }); more = [] }) 0 (S.Named (record { name = 9; member = None }))) (S.next_fields 0 (S.fields (record { first = (record { name = 11; star = Some 0 }); more = [] }) 0 (S.Named (record { name = 14; member = None }))) S.no_more_fields) 0); semicolon = 0 } ∷ []) })) (Some (record { var_word = 0; each = (record { names = (record { first = (record { name = 18; star = None }); more = [] }); colon = 0; of = (S.Named (record { name = 20; member = None })); semicolon = 0 } ∷ record { names = (record { first = (record { name = 22; star = None }); more = [] }); colon = 0; of = (S.Named (record { name = 24; member = None })); semicolon = 0 } ∷ []) })) S.no_procedure); body = (Some (record { begin_word = 0; stats = (S.stats (S.AssignOrCall (record { name = 27; selectors = S.no_selector }) (Some (record { becomes = 0; value = (S.compared (S.simple None (S.term (S.Designated 29 S.no_selector) S.no_factor) S.no_term) (TheRelation.Equal 30) (S.simple None (S.term (S.Designated 31 S.no_selector) S.no_factor) S.no_term)) }))) S.no_stat) })); end_word = 0; end_name = 33; period = 0 } }

pub type_mismatch_19 : checked (type_mismatch_19_0 ∷ []) ≡ Fault 0 31 87
type_mismatch_19 = refl

-- MODULE M; VAR b: BOOLEAN; a: ARRAY 3 OF INTEGER; BEGIN b := a = a END M.
abbrev type_mismatch_20_0 : Parsed
type_mismatch_20_0 = record { source = record { bytes = (77 ∷ 79 ∷ 68 ∷ 85 ∷ 76 ∷ 69 ∷ 32 ∷ 77 ∷ 59 ∷ 32 ∷ 86 ∷ 65 ∷ 82 ∷ 32 ∷ 98 ∷ 58 ∷ 32 ∷ 66 ∷ 79 ∷ 79 ∷ 76 ∷ 69 ∷ 65 ∷ 78 ∷ 59 ∷ 32 ∷ 97 ∷ 58 ∷ 32 ∷ 65 ∷ 82 ∷ 82 ∷ 65 ∷ 89 ∷ 32 ∷ 51 ∷ 32 ∷ 79 ∷ 70 ∷ 32 ∷ 73 ∷ 78 ∷ 84 ∷ 69 ∷ 71 ∷ 69 ∷ 82 ∷ 59 ∷ 32 ∷ 66 ∷ 69 ∷ 71 ∷ 73 ∷ 78 ∷ 32 ∷ 98 ∷ 32 ∷ 58 ∷ 61 ∷ 32 ∷ 97 ∷ 32 ∷ 61 ∷ 32 ∷ 97 ∷ 32 ∷ 69 ∷ 78 ∷ 68 ∷ 32 ∷ 77 ∷ 46 ∷ []); symbols = (symbol (Ident) 0 6 ∷ symbol (Ident) 7 8 ∷ symbol (Ident) 8 9 ∷ symbol (Ident) 10 13 ∷ symbol (Ident) 14 15 ∷ symbol (Ident) 15 16 ∷ symbol (Ident) 17 24 ∷ symbol (Ident) 24 25 ∷ symbol (Ident) 26 27 ∷ symbol (Ident) 27 28 ∷ symbol (Ident) 29 34 ∷ symbol (Int (pos 3)) 35 36 ∷ symbol (Ident) 37 39 ∷ symbol (Ident) 40 47 ∷ symbol (Ident) 47 48 ∷ symbol (Ident) 49 54 ∷ symbol (Ident) 55 56 ∷ symbol (Ident) 57 59 ∷ symbol (Ident) 60 61 ∷ symbol (Ident) 62 63 ∷ symbol (Ident) 64 65 ∷ symbol (Ident) 66 69 ∷ symbol (Ident) 70 71 ∷ symbol (Ident) 71 72 ∷ []) }; tree = record { module_word = 0; name = 1; semicolon = 0; imports = None; decls = (S.decls None None (Some (record { var_word = 0; each = (record { names = (record { first = (record { name = 4; star = None }); more = [] }); colon = 0; of = (S.Named (record { name = 6; member = None })); semicolon = 0 } ∷ record { names = (record { first = (record { name = 8; star = None }); more = [] }); colon = 0; of = (S.Array 10 (S.only (S.simple None (S.term (S.Int 11) S.no_factor) S.no_term)) S.no_expression 0 (S.Named (record { name = 13; member = None }))); semicolon = 0 } ∷ []) })) S.no_procedure); body = (Some (record { begin_word = 0; stats = (S.stats (S.AssignOrCall (record { name = 16; selectors = S.no_selector }) (Some (record { becomes = 0; value = (S.compared (S.simple None (S.term (S.Designated 18 S.no_selector) S.no_factor) S.no_term) (TheRelation.Equal 19) (S.simple None (S.term (S.Designated 20 S.no_selector) S.no_factor) S.no_term)) }))) S.no_stat) })); end_word = 0; end_name = 22; period = 0 } }

pub type_mismatch_20 : checked (type_mismatch_20_0 ∷ []) ≡ Fault 0 31 62
type_mismatch_20 = refl

-- MODULE M; VAR b: BOOLEAN; f: PROCEDURE (x: INTEGER): INTEGER; g: PROCEDURE; BEGIN b := f = g END M.
abbrev type_mismatch_21_0 : Parsed
type_mismatch_21_0 = record { source = record { bytes = (77 ∷ 79 ∷ 68 ∷ 85 ∷ 76 ∷ 69 ∷ 32 ∷ 77 ∷ 59 ∷ 32 ∷ 86 ∷ 65 ∷ 82 ∷ 32 ∷ 98 ∷ 58 ∷ 32 ∷ 66 ∷ 79 ∷ 79 ∷ 76 ∷ 69 ∷ 65 ∷ 78 ∷ 59 ∷ 32 ∷ 102 ∷ 58 ∷ 32 ∷ 80 ∷ 82 ∷ 79 ∷ 67 ∷ 69 ∷ 68 ∷ 85 ∷ 82 ∷ 69 ∷ 32 ∷ 40 ∷ 120 ∷ 58 ∷ 32 ∷ 73 ∷ 78 ∷ 84 ∷ 69 ∷ 71 ∷ 69 ∷ 82 ∷ 41 ∷ 58 ∷ 32 ∷ 73 ∷ 78 ∷ 84 ∷ 69 ∷ 71 ∷ 69 ∷ 82 ∷ 59 ∷ 32 ∷ 103 ∷ 58 ∷ 32 ∷ 80 ∷ 82 ∷ 79 ∷ 67 ∷ 69 ∷ 68 ∷ 85 ∷ 82 ∷ 69 ∷ 59 ∷ 32 ∷ 66 ∷ 69 ∷ 71 ∷ 73 ∷ 78 ∷ 32 ∷ 98 ∷ 32 ∷ 58 ∷ 61 ∷ 32 ∷ 102 ∷ 32 ∷ 61 ∷ 32 ∷ 103 ∷ 32 ∷ 69 ∷ 78 ∷ 68 ∷ 32 ∷ 77 ∷ 46 ∷ []); symbols = (symbol (Ident) 0 6 ∷ symbol (Ident) 7 8 ∷ symbol (Ident) 8 9 ∷ symbol (Ident) 10 13 ∷ symbol (Ident) 14 15 ∷ symbol (Ident) 15 16 ∷ symbol (Ident) 17 24 ∷ symbol (Ident) 24 25 ∷ symbol (Ident) 26 27 ∷ symbol (Ident) 27 28 ∷ symbol (Ident) 29 38 ∷ symbol (Ident) 39 40 ∷ symbol (Ident) 40 41 ∷ symbol (Ident) 41 42 ∷ symbol (Ident) 43 50 ∷ symbol (Ident) 50 51 ∷ symbol (Ident) 51 52 ∷ symbol (Ident) 53 60 ∷ symbol (Ident) 60 61 ∷ symbol (Ident) 62 63 ∷ symbol (Ident) 63 64 ∷ symbol (Ident) 65 74 ∷ symbol (Ident) 74 75 ∷ symbol (Ident) 76 81 ∷ symbol (Ident) 82 83 ∷ symbol (Ident) 84 86 ∷ symbol (Ident) 87 88 ∷ symbol (Ident) 89 90 ∷ symbol (Ident) 91 92 ∷ symbol (Ident) 93 96 ∷ symbol (Ident) 97 98 ∷ symbol (Ident) 98 99 ∷ []) }; tree = record { module_word = 0; name = 1; semicolon = 0; imports = None; decls = (S.decls None None (Some (record { var_word = 0; each = (record { names = (record { first = (record { name = 4; star = None }); more = [] }); colon = 0; of = (S.Named (record { name = 6; member = None })); semicolon = 0 } ∷ record { names = (record { first = (record { name = 8; star = None }); more = [] }); colon = 0; of = (S.Procedure 10 (Some (record { left_paren = 0; sections = Some (record { first = (record { var_word = None; first = 12; more = []; colon = 0; open_array = None; of = (record { name = 14; member = None }) }); more = [] }); right_paren = 0; result = Some (record { colon = 0; name = (record { name = 17; member = None }) }) }))); semicolon = 0 } ∷ record { names = (record { first = (record { name = 19; star = None }); more = [] }); colon = 0; of = (S.Procedure 21 None); semicolon = 0 } ∷ []) })) S.no_procedure); body = (Some (record { begin_word = 0; stats = (S.stats (S.AssignOrCall (record { name = 24; selectors = S.no_selector }) (Some (record { becomes = 0; value = (S.compared (S.simple None (S.term (S.Designated 26 S.no_selector) S.no_factor) S.no_term) (TheRelation.Equal 27) (S.simple None (S.term (S.Designated 28 S.no_selector) S.no_factor) S.no_term)) }))) S.no_stat) })); end_word = 0; end_name = 30; period = 0 } }

pub type_mismatch_21 : checked (type_mismatch_21_0 ∷ []) ≡ Fault 0 31 89
type_mismatch_21 = refl

-- MODULE M; VAR b: BOOLEAN; c: CHAR; BEGIN b := c = ''ab'' END M.
abbrev type_mismatch_22_0 : Parsed
type_mismatch_22_0 = record { source = record { bytes = (77 ∷ 79 ∷ 68 ∷ 85 ∷ 76 ∷ 69 ∷ 32 ∷ 77 ∷ 59 ∷ 32 ∷ 86 ∷ 65 ∷ 82 ∷ 32 ∷ 98 ∷ 58 ∷ 32 ∷ 66 ∷ 79 ∷ 79 ∷ 76 ∷ 69 ∷ 65 ∷ 78 ∷ 59 ∷ 32 ∷ 99 ∷ 58 ∷ 32 ∷ 67 ∷ 72 ∷ 65 ∷ 82 ∷ 59 ∷ 32 ∷ 66 ∷ 69 ∷ 71 ∷ 73 ∷ 78 ∷ 32 ∷ 98 ∷ 32 ∷ 58 ∷ 61 ∷ 32 ∷ 99 ∷ 32 ∷ 61 ∷ 32 ∷ 34 ∷ 97 ∷ 98 ∷ 34 ∷ 32 ∷ 69 ∷ 78 ∷ 68 ∷ 32 ∷ 77 ∷ 46 ∷ []); symbols = (symbol (Ident) 0 6 ∷ symbol (Ident) 7 8 ∷ symbol (Ident) 8 9 ∷ symbol (Ident) 10 13 ∷ symbol (Ident) 14 15 ∷ symbol (Ident) 15 16 ∷ symbol (Ident) 17 24 ∷ symbol (Ident) 24 25 ∷ symbol (Ident) 26 27 ∷ symbol (Ident) 27 28 ∷ symbol (Ident) 29 33 ∷ symbol (Ident) 33 34 ∷ symbol (Ident) 35 40 ∷ symbol (Ident) 41 42 ∷ symbol (Ident) 43 45 ∷ symbol (Ident) 46 47 ∷ symbol (Ident) 48 49 ∷ symbol (TheKind.Text) 50 54 ∷ symbol (Ident) 55 58 ∷ symbol (Ident) 59 60 ∷ symbol (Ident) 60 61 ∷ []) }; tree = record { module_word = 0; name = 1; semicolon = 0; imports = None; decls = (S.decls None None (Some (record { var_word = 0; each = (record { names = (record { first = (record { name = 4; star = None }); more = [] }); colon = 0; of = (S.Named (record { name = 6; member = None })); semicolon = 0 } ∷ record { names = (record { first = (record { name = 8; star = None }); more = [] }); colon = 0; of = (S.Named (record { name = 10; member = None })); semicolon = 0 } ∷ []) })) S.no_procedure); body = (Some (record { begin_word = 0; stats = (S.stats (S.AssignOrCall (record { name = 13; selectors = S.no_selector }) (Some (record { becomes = 0; value = (S.compared (S.simple None (S.term (S.Designated 15 S.no_selector) S.no_factor) S.no_term) (TheRelation.Equal 16) (S.simple None (S.term (S.Text 17) S.no_factor) S.no_term)) }))) S.no_stat) })); end_word = 0; end_name = 19; period = 0 } }

pub type_mismatch_22 : checked (type_mismatch_22_0 ∷ []) ≡ Fault 0 31 48
type_mismatch_22 = refl

-- MODULE M; VAR b: BOOLEAN; BEGIN b := 1 IN 2 END M.
abbrev type_mismatch_23_0 : Parsed
type_mismatch_23_0 = record { source = record { bytes = (77 ∷ 79 ∷ 68 ∷ 85 ∷ 76 ∷ 69 ∷ 32 ∷ 77 ∷ 59 ∷ 32 ∷ 86 ∷ 65 ∷ 82 ∷ 32 ∷ 98 ∷ 58 ∷ 32 ∷ 66 ∷ 79 ∷ 79 ∷ 76 ∷ 69 ∷ 65 ∷ 78 ∷ 59 ∷ 32 ∷ 66 ∷ 69 ∷ 71 ∷ 73 ∷ 78 ∷ 32 ∷ 98 ∷ 32 ∷ 58 ∷ 61 ∷ 32 ∷ 49 ∷ 32 ∷ 73 ∷ 78 ∷ 32 ∷ 50 ∷ 32 ∷ 69 ∷ 78 ∷ 68 ∷ 32 ∷ 77 ∷ 46 ∷ []); symbols = (symbol (Ident) 0 6 ∷ symbol (Ident) 7 8 ∷ symbol (Ident) 8 9 ∷ symbol (Ident) 10 13 ∷ symbol (Ident) 14 15 ∷ symbol (Ident) 15 16 ∷ symbol (Ident) 17 24 ∷ symbol (Ident) 24 25 ∷ symbol (Ident) 26 31 ∷ symbol (Ident) 32 33 ∷ symbol (Ident) 34 36 ∷ symbol (Int (pos 1)) 37 38 ∷ symbol (Ident) 39 41 ∷ symbol (Int (pos 2)) 42 43 ∷ symbol (Ident) 44 47 ∷ symbol (Ident) 48 49 ∷ symbol (Ident) 49 50 ∷ []) }; tree = record { module_word = 0; name = 1; semicolon = 0; imports = None; decls = (S.decls None None (Some (record { var_word = 0; each = (record { names = (record { first = (record { name = 4; star = None }); more = [] }); colon = 0; of = (S.Named (record { name = 6; member = None })); semicolon = 0 } ∷ []) })) S.no_procedure); body = (Some (record { begin_word = 0; stats = (S.stats (S.AssignOrCall (record { name = 9; selectors = S.no_selector }) (Some (record { becomes = 0; value = (S.compared (S.simple None (S.term (S.Int 11) S.no_factor) S.no_term) (TheRelation.In 12) (S.simple None (S.term (S.Int 13) S.no_factor) S.no_term)) }))) S.no_stat) })); end_word = 0; end_name = 15; period = 0 } }

pub type_mismatch_23 : checked (type_mismatch_23_0 ∷ []) ≡ Fault 0 31 39
type_mismatch_23 = refl

-- MODULE M; VAR b: BOOLEAN; c: CHAR; s: SET; BEGIN b := c IN s END M.
abbrev type_mismatch_24_0 : Parsed
type_mismatch_24_0 = record { source = record { bytes = (77 ∷ 79 ∷ 68 ∷ 85 ∷ 76 ∷ 69 ∷ 32 ∷ 77 ∷ 59 ∷ 32 ∷ 86 ∷ 65 ∷ 82 ∷ 32 ∷ 98 ∷ 58 ∷ 32 ∷ 66 ∷ 79 ∷ 79 ∷ 76 ∷ 69 ∷ 65 ∷ 78 ∷ 59 ∷ 32 ∷ 99 ∷ 58 ∷ 32 ∷ 67 ∷ 72 ∷ 65 ∷ 82 ∷ 59 ∷ 32 ∷ 115 ∷ 58 ∷ 32 ∷ 83 ∷ 69 ∷ 84 ∷ 59 ∷ 32 ∷ 66 ∷ 69 ∷ 71 ∷ 73 ∷ 78 ∷ 32 ∷ 98 ∷ 32 ∷ 58 ∷ 61 ∷ 32 ∷ 99 ∷ 32 ∷ 73 ∷ 78 ∷ 32 ∷ 115 ∷ 32 ∷ 69 ∷ 78 ∷ 68 ∷ 32 ∷ 77 ∷ 46 ∷ []); symbols = (symbol (Ident) 0 6 ∷ symbol (Ident) 7 8 ∷ symbol (Ident) 8 9 ∷ symbol (Ident) 10 13 ∷ symbol (Ident) 14 15 ∷ symbol (Ident) 15 16 ∷ symbol (Ident) 17 24 ∷ symbol (Ident) 24 25 ∷ symbol (Ident) 26 27 ∷ symbol (Ident) 27 28 ∷ symbol (Ident) 29 33 ∷ symbol (Ident) 33 34 ∷ symbol (Ident) 35 36 ∷ symbol (Ident) 36 37 ∷ symbol (Ident) 38 41 ∷ symbol (Ident) 41 42 ∷ symbol (Ident) 43 48 ∷ symbol (Ident) 49 50 ∷ symbol (Ident) 51 53 ∷ symbol (Ident) 54 55 ∷ symbol (Ident) 56 58 ∷ symbol (Ident) 59 60 ∷ symbol (Ident) 61 64 ∷ symbol (Ident) 65 66 ∷ symbol (Ident) 66 67 ∷ []) }; tree = record { module_word = 0; name = 1; semicolon = 0; imports = None; decls = (S.decls None None (Some (record { var_word = 0; each = (record { names = (record { first = (record { name = 4; star = None }); more = [] }); colon = 0; of = (S.Named (record { name = 6; member = None })); semicolon = 0 } ∷ record { names = (record { first = (record { name = 8; star = None }); more = [] }); colon = 0; of = (S.Named (record { name = 10; member = None })); semicolon = 0 } ∷ record { names = (record { first = (record { name = 12; star = None }); more = [] }); colon = 0; of = (S.Named (record { name = 14; member = None })); semicolon = 0 } ∷ []) })) S.no_procedure); body = (Some (record { begin_word = 0; stats = (S.stats (S.AssignOrCall (record { name = 17; selectors = S.no_selector }) (Some (record { becomes = 0; value = (S.compared (S.simple None (S.term (S.Designated 19 S.no_selector) S.no_factor) S.no_term) (TheRelation.In 20) (S.simple None (S.term (S.Designated 21 S.no_selector) S.no_factor) S.no_term)) }))) S.no_stat) })); end_word = 0; end_name = 23; period = 0 } }

pub type_mismatch_24 : checked (type_mismatch_24_0 ∷ []) ≡ Fault 0 31 56
type_mismatch_24 = refl

-- MODULE M; VAR i: INTEGER; PROCEDURE N; END N; BEGIN i := N END M.
abbrev type_mismatch_25_0 : Parsed
type_mismatch_25_0 = record { source = record { bytes = (77 ∷ 79 ∷ 68 ∷ 85 ∷ 76 ∷ 69 ∷ 32 ∷ 77 ∷ 59 ∷ 32 ∷ 86 ∷ 65 ∷ 82 ∷ 32 ∷ 105 ∷ 58 ∷ 32 ∷ 73 ∷ 78 ∷ 84 ∷ 69 ∷ 71 ∷ 69 ∷ 82 ∷ 59 ∷ 32 ∷ 80 ∷ 82 ∷ 79 ∷ 67 ∷ 69 ∷ 68 ∷ 85 ∷ 82 ∷ 69 ∷ 32 ∷ 78 ∷ 59 ∷ 32 ∷ 69 ∷ 78 ∷ 68 ∷ 32 ∷ 78 ∷ 59 ∷ 32 ∷ 66 ∷ 69 ∷ 71 ∷ 73 ∷ 78 ∷ 32 ∷ 105 ∷ 32 ∷ 58 ∷ 61 ∷ 32 ∷ 78 ∷ 32 ∷ 69 ∷ 78 ∷ 68 ∷ 32 ∷ 77 ∷ 46 ∷ []); symbols = (symbol (Ident) 0 6 ∷ symbol (Ident) 7 8 ∷ symbol (Ident) 8 9 ∷ symbol (Ident) 10 13 ∷ symbol (Ident) 14 15 ∷ symbol (Ident) 15 16 ∷ symbol (Ident) 17 24 ∷ symbol (Ident) 24 25 ∷ symbol (Ident) 26 35 ∷ symbol (Ident) 36 37 ∷ symbol (Ident) 37 38 ∷ symbol (Ident) 39 42 ∷ symbol (Ident) 43 44 ∷ symbol (Ident) 44 45 ∷ symbol (Ident) 46 51 ∷ symbol (Ident) 52 53 ∷ symbol (Ident) 54 56 ∷ symbol (Ident) 57 58 ∷ symbol (Ident) 59 62 ∷ symbol (Ident) 63 64 ∷ symbol (Ident) 64 65 ∷ []) }; tree = record { module_word = 0; name = 1; semicolon = 0; imports = None; decls = (S.decls None None (Some (record { var_word = 0; each = (record { names = (record { first = (record { name = 4; star = None }); more = [] }); colon = 0; of = (S.Named (record { name = 6; member = None })); semicolon = 0 } ∷ []) })) (S.procedure 0 (record { name = 9; star = None }) None 0 (S.decls None None None S.no_procedure) None None 11 12 0 S.no_procedure)); body = (Some (record { begin_word = 0; stats = (S.stats (S.AssignOrCall (record { name = 15; selectors = S.no_selector }) (Some (record { becomes = 0; value = (S.only (S.simple None (S.term (S.Designated 17 S.no_selector) S.no_factor) S.no_term)) }))) S.no_stat) })); end_word = 0; end_name = 19; period = 0 } }

pub type_mismatch_25 : checked (type_mismatch_25_0 ∷ []) ≡ Fault 0 31 57
type_mismatch_25 = refl

-- MODULE M; PROCEDURE N; END N; BEGIN N := 1 END M.
abbrev type_mismatch_26_0 : Parsed
type_mismatch_26_0 = record { source = record { bytes = (77 ∷ 79 ∷ 68 ∷ 85 ∷ 76 ∷ 69 ∷ 32 ∷ 77 ∷ 59 ∷ 32 ∷ 80 ∷ 82 ∷ 79 ∷ 67 ∷ 69 ∷ 68 ∷ 85 ∷ 82 ∷ 69 ∷ 32 ∷ 78 ∷ 59 ∷ 32 ∷ 69 ∷ 78 ∷ 68 ∷ 32 ∷ 78 ∷ 59 ∷ 32 ∷ 66 ∷ 69 ∷ 71 ∷ 73 ∷ 78 ∷ 32 ∷ 78 ∷ 32 ∷ 58 ∷ 61 ∷ 32 ∷ 49 ∷ 32 ∷ 69 ∷ 78 ∷ 68 ∷ 32 ∷ 77 ∷ 46 ∷ []); symbols = (symbol (Ident) 0 6 ∷ symbol (Ident) 7 8 ∷ symbol (Ident) 8 9 ∷ symbol (Ident) 10 19 ∷ symbol (Ident) 20 21 ∷ symbol (Ident) 21 22 ∷ symbol (Ident) 23 26 ∷ symbol (Ident) 27 28 ∷ symbol (Ident) 28 29 ∷ symbol (Ident) 30 35 ∷ symbol (Ident) 36 37 ∷ symbol (Ident) 38 40 ∷ symbol (Int (pos 1)) 41 42 ∷ symbol (Ident) 43 46 ∷ symbol (Ident) 47 48 ∷ symbol (Ident) 48 49 ∷ []) }; tree = record { module_word = 0; name = 1; semicolon = 0; imports = None; decls = (S.decls None None None (S.procedure 0 (record { name = 4; star = None }) None 0 (S.decls None None None S.no_procedure) None None 6 7 0 S.no_procedure)); body = (Some (record { begin_word = 0; stats = (S.stats (S.AssignOrCall (record { name = 10; selectors = S.no_selector }) (Some (record { becomes = 0; value = (S.only (S.simple None (S.term (S.Int 12) S.no_factor) S.no_term)) }))) S.no_stat) })); end_word = 0; end_name = 14; period = 0 } }

pub type_mismatch_26 : checked (type_mismatch_26_0 ∷ []) ≡ Fault 0 31 36
type_mismatch_26 = refl

-- MODULE M; PROCEDURE F(x: INTEGER): INTEGER; RETURN x END F; BEGIN F(1) END M.
abbrev type_mismatch_27_0 : Parsed
type_mismatch_27_0 = record { source = record { bytes = (77 ∷ 79 ∷ 68 ∷ 85 ∷ 76 ∷ 69 ∷ 32 ∷ 77 ∷ 59 ∷ 32 ∷ 80 ∷ 82 ∷ 79 ∷ 67 ∷ 69 ∷ 68 ∷ 85 ∷ 82 ∷ 69 ∷ 32 ∷ 70 ∷ 40 ∷ 120 ∷ 58 ∷ 32 ∷ 73 ∷ 78 ∷ 84 ∷ 69 ∷ 71 ∷ 69 ∷ 82 ∷ 41 ∷ 58 ∷ 32 ∷ 73 ∷ 78 ∷ 84 ∷ 69 ∷ 71 ∷ 69 ∷ 82 ∷ 59 ∷ 32 ∷ 82 ∷ 69 ∷ 84 ∷ 85 ∷ 82 ∷ 78 ∷ 32 ∷ 120 ∷ 32 ∷ 69 ∷ 78 ∷ 68 ∷ 32 ∷ 70 ∷ 59 ∷ 32 ∷ 66 ∷ 69 ∷ 71 ∷ 73 ∷ 78 ∷ 32 ∷ 70 ∷ 40 ∷ 49 ∷ 41 ∷ 32 ∷ 69 ∷ 78 ∷ 68 ∷ 32 ∷ 77 ∷ 46 ∷ []); symbols = (symbol (Ident) 0 6 ∷ symbol (Ident) 7 8 ∷ symbol (Ident) 8 9 ∷ symbol (Ident) 10 19 ∷ symbol (Ident) 20 21 ∷ symbol (Ident) 21 22 ∷ symbol (Ident) 22 23 ∷ symbol (Ident) 23 24 ∷ symbol (Ident) 25 32 ∷ symbol (Ident) 32 33 ∷ symbol (Ident) 33 34 ∷ symbol (Ident) 35 42 ∷ symbol (Ident) 42 43 ∷ symbol (Ident) 44 50 ∷ symbol (Ident) 51 52 ∷ symbol (Ident) 53 56 ∷ symbol (Ident) 57 58 ∷ symbol (Ident) 58 59 ∷ symbol (Ident) 60 65 ∷ symbol (Ident) 66 67 ∷ symbol (Ident) 67 68 ∷ symbol (Int (pos 1)) 68 69 ∷ symbol (Ident) 69 70 ∷ symbol (Ident) 71 74 ∷ symbol (Ident) 75 76 ∷ symbol (Ident) 76 77 ∷ []) }; tree = record { module_word = 0; name = 1; semicolon = 0; imports = None; decls = (S.decls None None None (S.procedure 0 (record { name = 4; star = None }) (Some (record { left_paren = 0; sections = Some (record { first = (record { var_word = None; first = 6; more = []; colon = 0; open_array = None; of = (record { name = 8; member = None }) }); more = [] }); right_paren = 0; result = Some (record { colon = 0; name = (record { name = 11; member = None }) }) })) 0 (S.decls None None None S.no_procedure) None (Some (record { return_word = 13; value = (S.only (S.simple None (S.term (S.Designated 14 S.no_selector) S.no_factor) S.no_term)) })) 15 16 0 S.no_procedure)); body = (Some (record { begin_word = 0; stats = (S.stats (S.AssignOrCall (record { name = 19; selectors = (S.selected (S.Parens 0 (S.expressions (S.only (S.simple None (S.term (S.Int 21) S.no_factor) S.no_term)) S.no_expression) 0) S.no_selector) }) None) S.no_stat) })); end_word = 0; end_name = 24; period = 0 } }

pub type_mismatch_27 : checked (type_mismatch_27_0 ∷ []) ≡ Fault 0 31 66
type_mismatch_27 = refl

-- MODULE M; VAR i: INTEGER; BEGIN i END M.
abbrev type_mismatch_28_0 : Parsed
type_mismatch_28_0 = record { source = record { bytes = (77 ∷ 79 ∷ 68 ∷ 85 ∷ 76 ∷ 69 ∷ 32 ∷ 77 ∷ 59 ∷ 32 ∷ 86 ∷ 65 ∷ 82 ∷ 32 ∷ 105 ∷ 58 ∷ 32 ∷ 73 ∷ 78 ∷ 84 ∷ 69 ∷ 71 ∷ 69 ∷ 82 ∷ 59 ∷ 32 ∷ 66 ∷ 69 ∷ 71 ∷ 73 ∷ 78 ∷ 32 ∷ 105 ∷ 32 ∷ 69 ∷ 78 ∷ 68 ∷ 32 ∷ 77 ∷ 46 ∷ []); symbols = (symbol (Ident) 0 6 ∷ symbol (Ident) 7 8 ∷ symbol (Ident) 8 9 ∷ symbol (Ident) 10 13 ∷ symbol (Ident) 14 15 ∷ symbol (Ident) 15 16 ∷ symbol (Ident) 17 24 ∷ symbol (Ident) 24 25 ∷ symbol (Ident) 26 31 ∷ symbol (Ident) 32 33 ∷ symbol (Ident) 34 37 ∷ symbol (Ident) 38 39 ∷ symbol (Ident) 39 40 ∷ []) }; tree = record { module_word = 0; name = 1; semicolon = 0; imports = None; decls = (S.decls None None (Some (record { var_word = 0; each = (record { names = (record { first = (record { name = 4; star = None }); more = [] }); colon = 0; of = (S.Named (record { name = 6; member = None })); semicolon = 0 } ∷ []) })) S.no_procedure); body = (Some (record { begin_word = 0; stats = (S.stats (S.AssignOrCall (record { name = 9; selectors = S.no_selector }) None) S.no_stat) })); end_word = 0; end_name = 11; period = 0 } }

pub type_mismatch_28 : checked (type_mismatch_28_0 ∷ []) ≡ Fault 0 31 32
type_mismatch_28 = refl

-- MODULE M; IMPORT Out; VAR i: INTEGER; BEGIN i := Out.Ln END M.
abbrev type_mismatch_29_0 : Parsed
type_mismatch_29_0 = record { source = record { bytes = (77 ∷ 79 ∷ 68 ∷ 85 ∷ 76 ∷ 69 ∷ 32 ∷ 77 ∷ 59 ∷ 32 ∷ 73 ∷ 77 ∷ 80 ∷ 79 ∷ 82 ∷ 84 ∷ 32 ∷ 79 ∷ 117 ∷ 116 ∷ 59 ∷ 32 ∷ 86 ∷ 65 ∷ 82 ∷ 32 ∷ 105 ∷ 58 ∷ 32 ∷ 73 ∷ 78 ∷ 84 ∷ 69 ∷ 71 ∷ 69 ∷ 82 ∷ 59 ∷ 32 ∷ 66 ∷ 69 ∷ 71 ∷ 73 ∷ 78 ∷ 32 ∷ 105 ∷ 32 ∷ 58 ∷ 61 ∷ 32 ∷ 79 ∷ 117 ∷ 116 ∷ 46 ∷ 76 ∷ 110 ∷ 32 ∷ 69 ∷ 78 ∷ 68 ∷ 32 ∷ 77 ∷ 46 ∷ []); symbols = (symbol (Ident) 0 6 ∷ symbol (Ident) 7 8 ∷ symbol (Ident) 8 9 ∷ symbol (Ident) 10 16 ∷ symbol (Ident) 17 20 ∷ symbol (Ident) 20 21 ∷ symbol (Ident) 22 25 ∷ symbol (Ident) 26 27 ∷ symbol (Ident) 27 28 ∷ symbol (Ident) 29 36 ∷ symbol (Ident) 36 37 ∷ symbol (Ident) 38 43 ∷ symbol (Ident) 44 45 ∷ symbol (Ident) 46 48 ∷ symbol (Ident) 49 52 ∷ symbol (Ident) 52 53 ∷ symbol (Ident) 53 55 ∷ symbol (Ident) 56 59 ∷ symbol (Ident) 60 61 ∷ symbol (Ident) 61 62 ∷ []) }; tree = record { module_word = 0; name = 1; semicolon = 0; imports = Some (record { import_word = 0; first = (record { name = 4; of = None }); more = []; semicolon = 0 }); decls = (S.decls None None (Some (record { var_word = 0; each = (record { names = (record { first = (record { name = 7; star = None }); more = [] }); colon = 0; of = (S.Named (record { name = 9; member = None })); semicolon = 0 } ∷ []) })) S.no_procedure); body = (Some (record { begin_word = 0; stats = (S.stats (S.AssignOrCall (record { name = 12; selectors = S.no_selector }) (Some (record { becomes = 0; value = (S.only (S.simple None (S.term (S.Designated 14 (S.selected (S.Field 0 16) S.no_selector)) S.no_factor) S.no_term)) }))) S.no_stat) })); end_word = 0; end_name = 18; period = 0 } }

pub type_mismatch_29 : checked (type_mismatch_29_0 ∷ []) ≡ Fault 0 31 49
type_mismatch_29 = refl

-- MODULE M; IMPORT Out; BEGIN Out.Ln := 1 END M.
abbrev type_mismatch_30_0 : Parsed
type_mismatch_30_0 = record { source = record { bytes = (77 ∷ 79 ∷ 68 ∷ 85 ∷ 76 ∷ 69 ∷ 32 ∷ 77 ∷ 59 ∷ 32 ∷ 73 ∷ 77 ∷ 80 ∷ 79 ∷ 82 ∷ 84 ∷ 32 ∷ 79 ∷ 117 ∷ 116 ∷ 59 ∷ 32 ∷ 66 ∷ 69 ∷ 71 ∷ 73 ∷ 78 ∷ 32 ∷ 79 ∷ 117 ∷ 116 ∷ 46 ∷ 76 ∷ 110 ∷ 32 ∷ 58 ∷ 61 ∷ 32 ∷ 49 ∷ 32 ∷ 69 ∷ 78 ∷ 68 ∷ 32 ∷ 77 ∷ 46 ∷ []); symbols = (symbol (Ident) 0 6 ∷ symbol (Ident) 7 8 ∷ symbol (Ident) 8 9 ∷ symbol (Ident) 10 16 ∷ symbol (Ident) 17 20 ∷ symbol (Ident) 20 21 ∷ symbol (Ident) 22 27 ∷ symbol (Ident) 28 31 ∷ symbol (Ident) 31 32 ∷ symbol (Ident) 32 34 ∷ symbol (Ident) 35 37 ∷ symbol (Int (pos 1)) 38 39 ∷ symbol (Ident) 40 43 ∷ symbol (Ident) 44 45 ∷ symbol (Ident) 45 46 ∷ []) }; tree = record { module_word = 0; name = 1; semicolon = 0; imports = Some (record { import_word = 0; first = (record { name = 4; of = None }); more = []; semicolon = 0 }); decls = (S.decls None None None S.no_procedure); body = (Some (record { begin_word = 0; stats = (S.stats (S.AssignOrCall (record { name = 7; selectors = (S.selected (S.Field 0 9) S.no_selector) }) (Some (record { becomes = 0; value = (S.only (S.simple None (S.term (S.Int 11) S.no_factor) S.no_term)) }))) S.no_stat) })); end_word = 0; end_name = 13; period = 0 } }

pub type_mismatch_30 : checked (type_mismatch_30_0 ∷ []) ≡ Fault 0 31 28
type_mismatch_30 = refl

-- MODULE M; VAR i: INTEGER; BEGIN i := ABS END M.
abbrev type_mismatch_31_0 : Parsed
type_mismatch_31_0 = record { source = record { bytes = (77 ∷ 79 ∷ 68 ∷ 85 ∷ 76 ∷ 69 ∷ 32 ∷ 77 ∷ 59 ∷ 32 ∷ 86 ∷ 65 ∷ 82 ∷ 32 ∷ 105 ∷ 58 ∷ 32 ∷ 73 ∷ 78 ∷ 84 ∷ 69 ∷ 71 ∷ 69 ∷ 82 ∷ 59 ∷ 32 ∷ 66 ∷ 69 ∷ 71 ∷ 73 ∷ 78 ∷ 32 ∷ 105 ∷ 32 ∷ 58 ∷ 61 ∷ 32 ∷ 65 ∷ 66 ∷ 83 ∷ 32 ∷ 69 ∷ 78 ∷ 68 ∷ 32 ∷ 77 ∷ 46 ∷ []); symbols = (symbol (Ident) 0 6 ∷ symbol (Ident) 7 8 ∷ symbol (Ident) 8 9 ∷ symbol (Ident) 10 13 ∷ symbol (Ident) 14 15 ∷ symbol (Ident) 15 16 ∷ symbol (Ident) 17 24 ∷ symbol (Ident) 24 25 ∷ symbol (Ident) 26 31 ∷ symbol (Ident) 32 33 ∷ symbol (Ident) 34 36 ∷ symbol (Ident) 37 40 ∷ symbol (Ident) 41 44 ∷ symbol (Ident) 45 46 ∷ symbol (Ident) 46 47 ∷ []) }; tree = record { module_word = 0; name = 1; semicolon = 0; imports = None; decls = (S.decls None None (Some (record { var_word = 0; each = (record { names = (record { first = (record { name = 4; star = None }); more = [] }); colon = 0; of = (S.Named (record { name = 6; member = None })); semicolon = 0 } ∷ []) })) S.no_procedure); body = (Some (record { begin_word = 0; stats = (S.stats (S.AssignOrCall (record { name = 9; selectors = S.no_selector }) (Some (record { becomes = 0; value = (S.only (S.simple None (S.term (S.Designated 11 S.no_selector) S.no_factor) S.no_term)) }))) S.no_stat) })); end_word = 0; end_name = 13; period = 0 } }

pub type_mismatch_31 : checked (type_mismatch_31_0 ∷ []) ≡ Fault 0 31 37
type_mismatch_31 = refl

-- MODULE M; VAR i: INTEGER; c: CHAR; BEGIN i := ABS(c) END M.
abbrev type_mismatch_32_0 : Parsed
type_mismatch_32_0 = record { source = record { bytes = (77 ∷ 79 ∷ 68 ∷ 85 ∷ 76 ∷ 69 ∷ 32 ∷ 77 ∷ 59 ∷ 32 ∷ 86 ∷ 65 ∷ 82 ∷ 32 ∷ 105 ∷ 58 ∷ 32 ∷ 73 ∷ 78 ∷ 84 ∷ 69 ∷ 71 ∷ 69 ∷ 82 ∷ 59 ∷ 32 ∷ 99 ∷ 58 ∷ 32 ∷ 67 ∷ 72 ∷ 65 ∷ 82 ∷ 59 ∷ 32 ∷ 66 ∷ 69 ∷ 71 ∷ 73 ∷ 78 ∷ 32 ∷ 105 ∷ 32 ∷ 58 ∷ 61 ∷ 32 ∷ 65 ∷ 66 ∷ 83 ∷ 40 ∷ 99 ∷ 41 ∷ 32 ∷ 69 ∷ 78 ∷ 68 ∷ 32 ∷ 77 ∷ 46 ∷ []); symbols = (symbol (Ident) 0 6 ∷ symbol (Ident) 7 8 ∷ symbol (Ident) 8 9 ∷ symbol (Ident) 10 13 ∷ symbol (Ident) 14 15 ∷ symbol (Ident) 15 16 ∷ symbol (Ident) 17 24 ∷ symbol (Ident) 24 25 ∷ symbol (Ident) 26 27 ∷ symbol (Ident) 27 28 ∷ symbol (Ident) 29 33 ∷ symbol (Ident) 33 34 ∷ symbol (Ident) 35 40 ∷ symbol (Ident) 41 42 ∷ symbol (Ident) 43 45 ∷ symbol (Ident) 46 49 ∷ symbol (Ident) 49 50 ∷ symbol (Ident) 50 51 ∷ symbol (Ident) 51 52 ∷ symbol (Ident) 53 56 ∷ symbol (Ident) 57 58 ∷ symbol (Ident) 58 59 ∷ []) }; tree = record { module_word = 0; name = 1; semicolon = 0; imports = None; decls = (S.decls None None (Some (record { var_word = 0; each = (record { names = (record { first = (record { name = 4; star = None }); more = [] }); colon = 0; of = (S.Named (record { name = 6; member = None })); semicolon = 0 } ∷ record { names = (record { first = (record { name = 8; star = None }); more = [] }); colon = 0; of = (S.Named (record { name = 10; member = None })); semicolon = 0 } ∷ []) })) S.no_procedure); body = (Some (record { begin_word = 0; stats = (S.stats (S.AssignOrCall (record { name = 13; selectors = S.no_selector }) (Some (record { becomes = 0; value = (S.only (S.simple None (S.term (S.Designated 15 (S.selected (S.Parens 0 (S.expressions (S.only (S.simple None (S.term (S.Designated 17 S.no_selector) S.no_factor) S.no_term)) S.no_expression) 0) S.no_selector)) S.no_factor) S.no_term)) }))) S.no_stat) })); end_word = 0; end_name = 20; period = 0 } }

pub type_mismatch_32 : checked (type_mismatch_32_0 ∷ []) ≡ Fault 0 31 50
type_mismatch_32 = refl

-- MODULE M; VAR i: INTEGER; BEGIN i := ODD(1) END M.
abbrev type_mismatch_33_0 : Parsed
type_mismatch_33_0 = record { source = record { bytes = (77 ∷ 79 ∷ 68 ∷ 85 ∷ 76 ∷ 69 ∷ 32 ∷ 77 ∷ 59 ∷ 32 ∷ 86 ∷ 65 ∷ 82 ∷ 32 ∷ 105 ∷ 58 ∷ 32 ∷ 73 ∷ 78 ∷ 84 ∷ 69 ∷ 71 ∷ 69 ∷ 82 ∷ 59 ∷ 32 ∷ 66 ∷ 69 ∷ 71 ∷ 73 ∷ 78 ∷ 32 ∷ 105 ∷ 32 ∷ 58 ∷ 61 ∷ 32 ∷ 79 ∷ 68 ∷ 68 ∷ 40 ∷ 49 ∷ 41 ∷ 32 ∷ 69 ∷ 78 ∷ 68 ∷ 32 ∷ 77 ∷ 46 ∷ []); symbols = (symbol (Ident) 0 6 ∷ symbol (Ident) 7 8 ∷ symbol (Ident) 8 9 ∷ symbol (Ident) 10 13 ∷ symbol (Ident) 14 15 ∷ symbol (Ident) 15 16 ∷ symbol (Ident) 17 24 ∷ symbol (Ident) 24 25 ∷ symbol (Ident) 26 31 ∷ symbol (Ident) 32 33 ∷ symbol (Ident) 34 36 ∷ symbol (Ident) 37 40 ∷ symbol (Ident) 40 41 ∷ symbol (Int (pos 1)) 41 42 ∷ symbol (Ident) 42 43 ∷ symbol (Ident) 44 47 ∷ symbol (Ident) 48 49 ∷ symbol (Ident) 49 50 ∷ []) }; tree = record { module_word = 0; name = 1; semicolon = 0; imports = None; decls = (S.decls None None (Some (record { var_word = 0; each = (record { names = (record { first = (record { name = 4; star = None }); more = [] }); colon = 0; of = (S.Named (record { name = 6; member = None })); semicolon = 0 } ∷ []) })) S.no_procedure); body = (Some (record { begin_word = 0; stats = (S.stats (S.AssignOrCall (record { name = 9; selectors = S.no_selector }) (Some (record { becomes = 0; value = (S.only (S.simple None (S.term (S.Designated 11 (S.selected (S.Parens 0 (S.expressions (S.only (S.simple None (S.term (S.Int 13) S.no_factor) S.no_term)) S.no_expression) 0) S.no_selector)) S.no_factor) S.no_term)) }))) S.no_stat) })); end_word = 0; end_name = 16; period = 0 } }

pub type_mismatch_33 : checked (type_mismatch_33_0 ∷ []) ≡ Fault 0 31 37
type_mismatch_33 = refl

-- MODULE M; VAR i: INTEGER; BEGIN i := INTEGER END M.
abbrev type_mismatch_34_0 : Parsed
type_mismatch_34_0 = record { source = record { bytes = (77 ∷ 79 ∷ 68 ∷ 85 ∷ 76 ∷ 69 ∷ 32 ∷ 77 ∷ 59 ∷ 32 ∷ 86 ∷ 65 ∷ 82 ∷ 32 ∷ 105 ∷ 58 ∷ 32 ∷ 73 ∷ 78 ∷ 84 ∷ 69 ∷ 71 ∷ 69 ∷ 82 ∷ 59 ∷ 32 ∷ 66 ∷ 69 ∷ 71 ∷ 73 ∷ 78 ∷ 32 ∷ 105 ∷ 32 ∷ 58 ∷ 61 ∷ 32 ∷ 73 ∷ 78 ∷ 84 ∷ 69 ∷ 71 ∷ 69 ∷ 82 ∷ 32 ∷ 69 ∷ 78 ∷ 68 ∷ 32 ∷ 77 ∷ 46 ∷ []); symbols = (symbol (Ident) 0 6 ∷ symbol (Ident) 7 8 ∷ symbol (Ident) 8 9 ∷ symbol (Ident) 10 13 ∷ symbol (Ident) 14 15 ∷ symbol (Ident) 15 16 ∷ symbol (Ident) 17 24 ∷ symbol (Ident) 24 25 ∷ symbol (Ident) 26 31 ∷ symbol (Ident) 32 33 ∷ symbol (Ident) 34 36 ∷ symbol (Ident) 37 44 ∷ symbol (Ident) 45 48 ∷ symbol (Ident) 49 50 ∷ symbol (Ident) 50 51 ∷ []) }; tree = record { module_word = 0; name = 1; semicolon = 0; imports = None; decls = (S.decls None None (Some (record { var_word = 0; each = (record { names = (record { first = (record { name = 4; star = None }); more = [] }); colon = 0; of = (S.Named (record { name = 6; member = None })); semicolon = 0 } ∷ []) })) S.no_procedure); body = (Some (record { begin_word = 0; stats = (S.stats (S.AssignOrCall (record { name = 9; selectors = S.no_selector }) (Some (record { becomes = 0; value = (S.only (S.simple None (S.term (S.Designated 11 S.no_selector) S.no_factor) S.no_term)) }))) S.no_stat) })); end_word = 0; end_name = 13; period = 0 } }

pub type_mismatch_34 : checked (type_mismatch_34_0 ∷ []) ≡ Fault 0 31 37
type_mismatch_34 = refl

-- MODULE M; BEGIN INTEGER := 1 END M.
abbrev type_mismatch_35_0 : Parsed
type_mismatch_35_0 = record { source = record { bytes = (77 ∷ 79 ∷ 68 ∷ 85 ∷ 76 ∷ 69 ∷ 32 ∷ 77 ∷ 59 ∷ 32 ∷ 66 ∷ 69 ∷ 71 ∷ 73 ∷ 78 ∷ 32 ∷ 73 ∷ 78 ∷ 84 ∷ 69 ∷ 71 ∷ 69 ∷ 82 ∷ 32 ∷ 58 ∷ 61 ∷ 32 ∷ 49 ∷ 32 ∷ 69 ∷ 78 ∷ 68 ∷ 32 ∷ 77 ∷ 46 ∷ []); symbols = (symbol (Ident) 0 6 ∷ symbol (Ident) 7 8 ∷ symbol (Ident) 8 9 ∷ symbol (Ident) 10 15 ∷ symbol (Ident) 16 23 ∷ symbol (Ident) 24 26 ∷ symbol (Int (pos 1)) 27 28 ∷ symbol (Ident) 29 32 ∷ symbol (Ident) 33 34 ∷ symbol (Ident) 34 35 ∷ []) }; tree = record { module_word = 0; name = 1; semicolon = 0; imports = None; decls = (S.decls None None None S.no_procedure); body = (Some (record { begin_word = 0; stats = (S.stats (S.AssignOrCall (record { name = 4; selectors = S.no_selector }) (Some (record { becomes = 0; value = (S.only (S.simple None (S.term (S.Int 6) S.no_factor) S.no_term)) }))) S.no_stat) })); end_word = 0; end_name = 8; period = 0 } }

pub type_mismatch_35 : checked (type_mismatch_35_0 ∷ []) ≡ Fault 0 31 16
type_mismatch_35 = refl

-- MODULE M; IMPORT Out; BEGIN Out := 1 END M.
abbrev type_mismatch_36_0 : Parsed
type_mismatch_36_0 = record { source = record { bytes = (77 ∷ 79 ∷ 68 ∷ 85 ∷ 76 ∷ 69 ∷ 32 ∷ 77 ∷ 59 ∷ 32 ∷ 73 ∷ 77 ∷ 80 ∷ 79 ∷ 82 ∷ 84 ∷ 32 ∷ 79 ∷ 117 ∷ 116 ∷ 59 ∷ 32 ∷ 66 ∷ 69 ∷ 71 ∷ 73 ∷ 78 ∷ 32 ∷ 79 ∷ 117 ∷ 116 ∷ 32 ∷ 58 ∷ 61 ∷ 32 ∷ 49 ∷ 32 ∷ 69 ∷ 78 ∷ 68 ∷ 32 ∷ 77 ∷ 46 ∷ []); symbols = (symbol (Ident) 0 6 ∷ symbol (Ident) 7 8 ∷ symbol (Ident) 8 9 ∷ symbol (Ident) 10 16 ∷ symbol (Ident) 17 20 ∷ symbol (Ident) 20 21 ∷ symbol (Ident) 22 27 ∷ symbol (Ident) 28 31 ∷ symbol (Ident) 32 34 ∷ symbol (Int (pos 1)) 35 36 ∷ symbol (Ident) 37 40 ∷ symbol (Ident) 41 42 ∷ symbol (Ident) 42 43 ∷ []) }; tree = record { module_word = 0; name = 1; semicolon = 0; imports = Some (record { import_word = 0; first = (record { name = 4; of = None }); more = []; semicolon = 0 }); decls = (S.decls None None None S.no_procedure); body = (Some (record { begin_word = 0; stats = (S.stats (S.AssignOrCall (record { name = 7; selectors = S.no_selector }) (Some (record { becomes = 0; value = (S.only (S.simple None (S.term (S.Int 9) S.no_factor) S.no_term)) }))) S.no_stat) })); end_word = 0; end_name = 11; period = 0 } }

pub type_mismatch_36 : checked (type_mismatch_36_0 ∷ []) ≡ Fault 0 31 28
type_mismatch_36 = refl

-- MODULE M; IMPORT Out; VAR i: INTEGER; BEGIN i := Out END M.
abbrev type_mismatch_37_0 : Parsed
type_mismatch_37_0 = record { source = record { bytes = (77 ∷ 79 ∷ 68 ∷ 85 ∷ 76 ∷ 69 ∷ 32 ∷ 77 ∷ 59 ∷ 32 ∷ 73 ∷ 77 ∷ 80 ∷ 79 ∷ 82 ∷ 84 ∷ 32 ∷ 79 ∷ 117 ∷ 116 ∷ 59 ∷ 32 ∷ 86 ∷ 65 ∷ 82 ∷ 32 ∷ 105 ∷ 58 ∷ 32 ∷ 73 ∷ 78 ∷ 84 ∷ 69 ∷ 71 ∷ 69 ∷ 82 ∷ 59 ∷ 32 ∷ 66 ∷ 69 ∷ 71 ∷ 73 ∷ 78 ∷ 32 ∷ 105 ∷ 32 ∷ 58 ∷ 61 ∷ 32 ∷ 79 ∷ 117 ∷ 116 ∷ 32 ∷ 69 ∷ 78 ∷ 68 ∷ 32 ∷ 77 ∷ 46 ∷ []); symbols = (symbol (Ident) 0 6 ∷ symbol (Ident) 7 8 ∷ symbol (Ident) 8 9 ∷ symbol (Ident) 10 16 ∷ symbol (Ident) 17 20 ∷ symbol (Ident) 20 21 ∷ symbol (Ident) 22 25 ∷ symbol (Ident) 26 27 ∷ symbol (Ident) 27 28 ∷ symbol (Ident) 29 36 ∷ symbol (Ident) 36 37 ∷ symbol (Ident) 38 43 ∷ symbol (Ident) 44 45 ∷ symbol (Ident) 46 48 ∷ symbol (Ident) 49 52 ∷ symbol (Ident) 53 56 ∷ symbol (Ident) 57 58 ∷ symbol (Ident) 58 59 ∷ []) }; tree = record { module_word = 0; name = 1; semicolon = 0; imports = Some (record { import_word = 0; first = (record { name = 4; of = None }); more = []; semicolon = 0 }); decls = (S.decls None None (Some (record { var_word = 0; each = (record { names = (record { first = (record { name = 7; star = None }); more = [] }); colon = 0; of = (S.Named (record { name = 9; member = None })); semicolon = 0 } ∷ []) })) S.no_procedure); body = (Some (record { begin_word = 0; stats = (S.stats (S.AssignOrCall (record { name = 12; selectors = S.no_selector }) (Some (record { becomes = 0; value = (S.only (S.simple None (S.term (S.Designated 14 S.no_selector) S.no_factor) S.no_term)) }))) S.no_stat) })); end_word = 0; end_name = 16; period = 0 } }

pub type_mismatch_37 : checked (type_mismatch_37_0 ∷ []) ≡ Fault 0 31 49
type_mismatch_37 = refl

-- MODULE M; IMPORT In; VAR i: INTEGER; BEGIN i := In END M.
abbrev type_mismatch_38_0 : Parsed
type_mismatch_38_0 = record { source = record { bytes = (77 ∷ 79 ∷ 68 ∷ 85 ∷ 76 ∷ 69 ∷ 32 ∷ 77 ∷ 59 ∷ 32 ∷ 73 ∷ 77 ∷ 80 ∷ 79 ∷ 82 ∷ 84 ∷ 32 ∷ 73 ∷ 110 ∷ 59 ∷ 32 ∷ 86 ∷ 65 ∷ 82 ∷ 32 ∷ 105 ∷ 58 ∷ 32 ∷ 73 ∷ 78 ∷ 84 ∷ 69 ∷ 71 ∷ 69 ∷ 82 ∷ 59 ∷ 32 ∷ 66 ∷ 69 ∷ 71 ∷ 73 ∷ 78 ∷ 32 ∷ 105 ∷ 32 ∷ 58 ∷ 61 ∷ 32 ∷ 73 ∷ 110 ∷ 32 ∷ 69 ∷ 78 ∷ 68 ∷ 32 ∷ 77 ∷ 46 ∷ []); symbols = (symbol (Ident) 0 6 ∷ symbol (Ident) 7 8 ∷ symbol (Ident) 8 9 ∷ symbol (Ident) 10 16 ∷ symbol (Ident) 17 19 ∷ symbol (Ident) 19 20 ∷ symbol (Ident) 21 24 ∷ symbol (Ident) 25 26 ∷ symbol (Ident) 26 27 ∷ symbol (Ident) 28 35 ∷ symbol (Ident) 35 36 ∷ symbol (Ident) 37 42 ∷ symbol (Ident) 43 44 ∷ symbol (Ident) 45 47 ∷ symbol (Ident) 48 50 ∷ symbol (Ident) 51 54 ∷ symbol (Ident) 55 56 ∷ symbol (Ident) 56 57 ∷ []) }; tree = record { module_word = 0; name = 1; semicolon = 0; imports = Some (record { import_word = 0; first = (record { name = 4; of = None }); more = []; semicolon = 0 }); decls = (S.decls None None (Some (record { var_word = 0; each = (record { names = (record { first = (record { name = 7; star = None }); more = [] }); colon = 0; of = (S.Named (record { name = 9; member = None })); semicolon = 0 } ∷ []) })) S.no_procedure); body = (Some (record { begin_word = 0; stats = (S.stats (S.AssignOrCall (record { name = 12; selectors = S.no_selector }) (Some (record { becomes = 0; value = (S.only (S.simple None (S.term (S.Designated 14 S.no_selector) S.no_factor) S.no_term)) }))) S.no_stat) })); end_word = 0; end_name = 16; period = 0 } }

pub type_mismatch_38 : checked (type_mismatch_38_0 ∷ []) ≡ Fault 0 31 48
type_mismatch_38 = refl

-- MODULE M; VAR t: ARRAY 8 OF CHAR; BEGIN t := ''abcdefgh'' END M.
abbrev type_mismatch_39_0 : Parsed
type_mismatch_39_0 = record { source = record { bytes = (77 ∷ 79 ∷ 68 ∷ 85 ∷ 76 ∷ 69 ∷ 32 ∷ 77 ∷ 59 ∷ 32 ∷ 86 ∷ 65 ∷ 82 ∷ 32 ∷ 116 ∷ 58 ∷ 32 ∷ 65 ∷ 82 ∷ 82 ∷ 65 ∷ 89 ∷ 32 ∷ 56 ∷ 32 ∷ 79 ∷ 70 ∷ 32 ∷ 67 ∷ 72 ∷ 65 ∷ 82 ∷ 59 ∷ 32 ∷ 66 ∷ 69 ∷ 71 ∷ 73 ∷ 78 ∷ 32 ∷ 116 ∷ 32 ∷ 58 ∷ 61 ∷ 32 ∷ 34 ∷ 97 ∷ 98 ∷ 99 ∷ 100 ∷ 101 ∷ 102 ∷ 103 ∷ 104 ∷ 34 ∷ 32 ∷ 69 ∷ 78 ∷ 68 ∷ 32 ∷ 77 ∷ 46 ∷ []); symbols = (symbol (Ident) 0 6 ∷ symbol (Ident) 7 8 ∷ symbol (Ident) 8 9 ∷ symbol (Ident) 10 13 ∷ symbol (Ident) 14 15 ∷ symbol (Ident) 15 16 ∷ symbol (Ident) 17 22 ∷ symbol (Int (pos 8)) 23 24 ∷ symbol (Ident) 25 27 ∷ symbol (Ident) 28 32 ∷ symbol (Ident) 32 33 ∷ symbol (Ident) 34 39 ∷ symbol (Ident) 40 41 ∷ symbol (Ident) 42 44 ∷ symbol (TheKind.Text) 45 55 ∷ symbol (Ident) 56 59 ∷ symbol (Ident) 60 61 ∷ symbol (Ident) 61 62 ∷ []) }; tree = record { module_word = 0; name = 1; semicolon = 0; imports = None; decls = (S.decls None None (Some (record { var_word = 0; each = (record { names = (record { first = (record { name = 4; star = None }); more = [] }); colon = 0; of = (S.Array 6 (S.only (S.simple None (S.term (S.Int 7) S.no_factor) S.no_term)) S.no_expression 0 (S.Named (record { name = 9; member = None }))); semicolon = 0 } ∷ []) })) S.no_procedure); body = (Some (record { begin_word = 0; stats = (S.stats (S.AssignOrCall (record { name = 12; selectors = S.no_selector }) (Some (record { becomes = 0; value = (S.only (S.simple None (S.term (S.Text 14) S.no_factor) S.no_term)) }))) S.no_stat) })); end_word = 0; end_name = 16; period = 0 } }

pub type_mismatch_39 : checked (type_mismatch_39_0 ∷ []) ≡ Fault 0 31 45
type_mismatch_39 = refl

-- MODULE M; VAR t: ARRAY 8 OF CHAR; u: ARRAY 4 OF CHAR; BEGIN u := t END M.
abbrev type_mismatch_40_0 : Parsed
type_mismatch_40_0 = record { source = record { bytes = (77 ∷ 79 ∷ 68 ∷ 85 ∷ 76 ∷ 69 ∷ 32 ∷ 77 ∷ 59 ∷ 32 ∷ 86 ∷ 65 ∷ 82 ∷ 32 ∷ 116 ∷ 58 ∷ 32 ∷ 65 ∷ 82 ∷ 82 ∷ 65 ∷ 89 ∷ 32 ∷ 56 ∷ 32 ∷ 79 ∷ 70 ∷ 32 ∷ 67 ∷ 72 ∷ 65 ∷ 82 ∷ 59 ∷ 32 ∷ 117 ∷ 58 ∷ 32 ∷ 65 ∷ 82 ∷ 82 ∷ 65 ∷ 89 ∷ 32 ∷ 52 ∷ 32 ∷ 79 ∷ 70 ∷ 32 ∷ 67 ∷ 72 ∷ 65 ∷ 82 ∷ 59 ∷ 32 ∷ 66 ∷ 69 ∷ 71 ∷ 73 ∷ 78 ∷ 32 ∷ 117 ∷ 32 ∷ 58 ∷ 61 ∷ 32 ∷ 116 ∷ 32 ∷ 69 ∷ 78 ∷ 68 ∷ 32 ∷ 77 ∷ 46 ∷ []); symbols = (symbol (Ident) 0 6 ∷ symbol (Ident) 7 8 ∷ symbol (Ident) 8 9 ∷ symbol (Ident) 10 13 ∷ symbol (Ident) 14 15 ∷ symbol (Ident) 15 16 ∷ symbol (Ident) 17 22 ∷ symbol (Int (pos 8)) 23 24 ∷ symbol (Ident) 25 27 ∷ symbol (Ident) 28 32 ∷ symbol (Ident) 32 33 ∷ symbol (Ident) 34 35 ∷ symbol (Ident) 35 36 ∷ symbol (Ident) 37 42 ∷ symbol (Int (pos 4)) 43 44 ∷ symbol (Ident) 45 47 ∷ symbol (Ident) 48 52 ∷ symbol (Ident) 52 53 ∷ symbol (Ident) 54 59 ∷ symbol (Ident) 60 61 ∷ symbol (Ident) 62 64 ∷ symbol (Ident) 65 66 ∷ symbol (Ident) 67 70 ∷ symbol (Ident) 71 72 ∷ symbol (Ident) 72 73 ∷ []) }; tree = record { module_word = 0; name = 1; semicolon = 0; imports = None; decls = (S.decls None None (Some (record { var_word = 0; each = (record { names = (record { first = (record { name = 4; star = None }); more = [] }); colon = 0; of = (S.Array 6 (S.only (S.simple None (S.term (S.Int 7) S.no_factor) S.no_term)) S.no_expression 0 (S.Named (record { name = 9; member = None }))); semicolon = 0 } ∷ record { names = (record { first = (record { name = 11; star = None }); more = [] }); colon = 0; of = (S.Array 13 (S.only (S.simple None (S.term (S.Int 14) S.no_factor) S.no_term)) S.no_expression 0 (S.Named (record { name = 16; member = None }))); semicolon = 0 } ∷ []) })) S.no_procedure); body = (Some (record { begin_word = 0; stats = (S.stats (S.AssignOrCall (record { name = 19; selectors = S.no_selector }) (Some (record { becomes = 0; value = (S.only (S.simple None (S.term (S.Designated 21 S.no_selector) S.no_factor) S.no_term)) }))) S.no_stat) })); end_word = 0; end_name = 23; period = 0 } }

pub type_mismatch_40 : checked (type_mismatch_40_0 ∷ []) ≡ Fault 0 31 65
type_mismatch_40 = refl

-- MODULE M; TYPE R = RECORD x: INTEGER; y*: CHAR END; P = POINTER TO R; VAR r: R; p: P; BEGIN r := p END M.
abbrev type_mismatch_41_0 : Parsed
type_mismatch_41_0 = record { source = record { bytes = (77 ∷ 79 ∷ 68 ∷ 85 ∷ 76 ∷ 69 ∷ 32 ∷ 77 ∷ 59 ∷ 32 ∷ 84 ∷ 89 ∷ 80 ∷ 69 ∷ 32 ∷ 82 ∷ 32 ∷ 61 ∷ 32 ∷ 82 ∷ 69 ∷ 67 ∷ 79 ∷ 82 ∷ 68 ∷ 32 ∷ 120 ∷ 58 ∷ 32 ∷ 73 ∷ 78 ∷ 84 ∷ 69 ∷ 71 ∷ 69 ∷ 82 ∷ 59 ∷ 32 ∷ 121 ∷ 42 ∷ 58 ∷ 32 ∷ 67 ∷ 72 ∷ 65 ∷ 82 ∷ 32 ∷ 69 ∷ 78 ∷ 68 ∷ 59 ∷ 32 ∷ 80 ∷ 32 ∷ 61 ∷ 32 ∷ 80 ∷ 79 ∷ 73 ∷ 78 ∷ 84 ∷ 69 ∷ 82 ∷ 32 ∷ 84 ∷ 79 ∷ 32 ∷ 82 ∷ 59 ∷ 32 ∷ 86 ∷ 65 ∷ 82 ∷ 32 ∷ 114 ∷ 58 ∷ 32 ∷ 82 ∷ 59 ∷ 32 ∷ 112 ∷ 58 ∷ 32 ∷ 80 ∷ 59 ∷ 32 ∷ 66 ∷ 69 ∷ 71 ∷ 73 ∷ 78 ∷ 32 ∷ 114 ∷ 32 ∷ 58 ∷ 61 ∷ 32 ∷ 112 ∷ 32 ∷ 69 ∷ 78 ∷ 68 ∷ 32 ∷ 77 ∷ 46 ∷ []); symbols = (symbol (Ident) 0 6 ∷ symbol (Ident) 7 8 ∷ symbol (Ident) 8 9 ∷ symbol (Ident) 10 14 ∷ symbol (Ident) 15 16 ∷ symbol (Ident) 17 18 ∷ symbol (Ident) 19 25 ∷ symbol (Ident) 26 27 ∷ symbol (Ident) 27 28 ∷ symbol (Ident) 29 36 ∷ symbol (Ident) 36 37 ∷ symbol (Ident) 38 39 ∷ symbol (Ident) 39 40 ∷ symbol (Ident) 40 41 ∷ symbol (Ident) 42 46 ∷ symbol (Ident) 47 50 ∷ symbol (Ident) 50 51 ∷ symbol (Ident) 52 53 ∷ symbol (Ident) 54 55 ∷ symbol (Ident) 56 63 ∷ symbol (Ident) 64 66 ∷ symbol (Ident) 67 68 ∷ symbol (Ident) 68 69 ∷ symbol (Ident) 70 73 ∷ symbol (Ident) 74 75 ∷ symbol (Ident) 75 76 ∷ symbol (Ident) 77 78 ∷ symbol (Ident) 78 79 ∷ symbol (Ident) 80 81 ∷ symbol (Ident) 81 82 ∷ symbol (Ident) 83 84 ∷ symbol (Ident) 84 85 ∷ symbol (Ident) 86 91 ∷ symbol (Ident) 92 93 ∷ symbol (Ident) 94 96 ∷ symbol (Ident) 97 98 ∷ symbol (Ident) 99 102 ∷ symbol (Ident) 103 104 ∷ symbol (Ident) 104 105 ∷ []) }; tree = record { module_word = 0; name = 1; semicolon = 0; imports = None; decls = (S.decls None (Some (record { type_word = 0; each = (record { name = (record { name = 4; star = None }); equal = 0; is = (S.Record 6 None (S.fields (record { first = (record { name = 7; star = None }); more = [] }) 0 (S.Named (record { name = 9; member = None }))) (S.next_fields 0 (S.fields (record { first = (record { name = 11; star = Some 0 }); more = [] }) 0 (S.Named (record { name = 14; member = None }))) S.no_more_fields) 0); semicolon = 0 } ∷ record { name = (record { name = 17; star = None }); equal = 0; is = (S.Pointer 19 0 (S.Named (record { name = 21; member = None }))); semicolon = 0 } ∷ []) })) (Some (record { var_word = 0; each = (record { names = (record { first = (record { name = 24; star = None }); more = [] }); colon = 0; of = (S.Named (record { name = 26; member = None })); semicolon = 0 } ∷ record { names = (record { first = (record { name = 28; star = None }); more = [] }); colon = 0; of = (S.Named (record { name = 30; member = None })); semicolon = 0 } ∷ []) })) S.no_procedure); body = (Some (record { begin_word = 0; stats = (S.stats (S.AssignOrCall (record { name = 33; selectors = S.no_selector }) (Some (record { becomes = 0; value = (S.only (S.simple None (S.term (S.Designated 35 S.no_selector) S.no_factor) S.no_term)) }))) S.no_stat) })); end_word = 0; end_name = 37; period = 0 } }

pub type_mismatch_41 : checked (type_mismatch_41_0 ∷ []) ≡ Fault 0 31 97
type_mismatch_41 = refl

-- MODULE M; TYPE R = RECORD x: INTEGER; y*: CHAR END; E = RECORD (R) z: SET END; VAR r: R; e: E; BEGIN e := r END M.
abbrev type_mismatch_42_0 : Parsed
type_mismatch_42_0 = record { source = record { bytes = (77 ∷ 79 ∷ 68 ∷ 85 ∷ 76 ∷ 69 ∷ 32 ∷ 77 ∷ 59 ∷ 32 ∷ 84 ∷ 89 ∷ 80 ∷ 69 ∷ 32 ∷ 82 ∷ 32 ∷ 61 ∷ 32 ∷ 82 ∷ 69 ∷ 67 ∷ 79 ∷ 82 ∷ 68 ∷ 32 ∷ 120 ∷ 58 ∷ 32 ∷ 73 ∷ 78 ∷ 84 ∷ 69 ∷ 71 ∷ 69 ∷ 82 ∷ 59 ∷ 32 ∷ 121 ∷ 42 ∷ 58 ∷ 32 ∷ 67 ∷ 72 ∷ 65 ∷ 82 ∷ 32 ∷ 69 ∷ 78 ∷ 68 ∷ 59 ∷ 32 ∷ 69 ∷ 32 ∷ 61 ∷ 32 ∷ 82 ∷ 69 ∷ 67 ∷ 79 ∷ 82 ∷ 68 ∷ 32 ∷ 40 ∷ 82 ∷ 41 ∷ 32 ∷ 122 ∷ 58 ∷ 32 ∷ 83 ∷ 69 ∷ 84 ∷ 32 ∷ 69 ∷ 78 ∷ 68 ∷ 59 ∷ 32 ∷ 86 ∷ 65 ∷ 82 ∷ 32 ∷ 114 ∷ 58 ∷ 32 ∷ 82 ∷ 59 ∷ 32 ∷ 101 ∷ 58 ∷ 32 ∷ 69 ∷ 59 ∷ 32 ∷ 66 ∷ 69 ∷ 71 ∷ 73 ∷ 78 ∷ 32 ∷ 101 ∷ 32 ∷ 58 ∷ 61 ∷ 32 ∷ 114 ∷ 32 ∷ 69 ∷ 78 ∷ 68 ∷ 32 ∷ 77 ∷ 46 ∷ []); symbols = (symbol (Ident) 0 6 ∷ symbol (Ident) 7 8 ∷ symbol (Ident) 8 9 ∷ symbol (Ident) 10 14 ∷ symbol (Ident) 15 16 ∷ symbol (Ident) 17 18 ∷ symbol (Ident) 19 25 ∷ symbol (Ident) 26 27 ∷ symbol (Ident) 27 28 ∷ symbol (Ident) 29 36 ∷ symbol (Ident) 36 37 ∷ symbol (Ident) 38 39 ∷ symbol (Ident) 39 40 ∷ symbol (Ident) 40 41 ∷ symbol (Ident) 42 46 ∷ symbol (Ident) 47 50 ∷ symbol (Ident) 50 51 ∷ symbol (Ident) 52 53 ∷ symbol (Ident) 54 55 ∷ symbol (Ident) 56 62 ∷ symbol (Ident) 63 64 ∷ symbol (Ident) 64 65 ∷ symbol (Ident) 65 66 ∷ symbol (Ident) 67 68 ∷ symbol (Ident) 68 69 ∷ symbol (Ident) 70 73 ∷ symbol (Ident) 74 77 ∷ symbol (Ident) 77 78 ∷ symbol (Ident) 79 82 ∷ symbol (Ident) 83 84 ∷ symbol (Ident) 84 85 ∷ symbol (Ident) 86 87 ∷ symbol (Ident) 87 88 ∷ symbol (Ident) 89 90 ∷ symbol (Ident) 90 91 ∷ symbol (Ident) 92 93 ∷ symbol (Ident) 93 94 ∷ symbol (Ident) 95 100 ∷ symbol (Ident) 101 102 ∷ symbol (Ident) 103 105 ∷ symbol (Ident) 106 107 ∷ symbol (Ident) 108 111 ∷ symbol (Ident) 112 113 ∷ symbol (Ident) 113 114 ∷ []) }; tree = record { module_word = 0; name = 1; semicolon = 0; imports = None; decls = (S.decls None (Some (record { type_word = 0; each = (record { name = (record { name = 4; star = None }); equal = 0; is = (S.Record 6 None (S.fields (record { first = (record { name = 7; star = None }); more = [] }) 0 (S.Named (record { name = 9; member = None }))) (S.next_fields 0 (S.fields (record { first = (record { name = 11; star = Some 0 }); more = [] }) 0 (S.Named (record { name = 14; member = None }))) S.no_more_fields) 0); semicolon = 0 } ∷ record { name = (record { name = 17; star = None }); equal = 0; is = (S.Record 19 (Some (record { left_paren = 0; name = (record { name = 21; member = None }); right_paren = 0 })) (S.fields (record { first = (record { name = 23; star = None }); more = [] }) 0 (S.Named (record { name = 25; member = None }))) S.no_more_fields 0); semicolon = 0 } ∷ []) })) (Some (record { var_word = 0; each = (record { names = (record { first = (record { name = 29; star = None }); more = [] }); colon = 0; of = (S.Named (record { name = 31; member = None })); semicolon = 0 } ∷ record { names = (record { first = (record { name = 33; star = None }); more = [] }); colon = 0; of = (S.Named (record { name = 35; member = None })); semicolon = 0 } ∷ []) })) S.no_procedure); body = (Some (record { begin_word = 0; stats = (S.stats (S.AssignOrCall (record { name = 38; selectors = S.no_selector }) (Some (record { becomes = 0; value = (S.only (S.simple None (S.term (S.Designated 40 S.no_selector) S.no_factor) S.no_term)) }))) S.no_stat) })); end_word = 0; end_name = 42; period = 0 } }

pub type_mismatch_42 : checked (type_mismatch_42_0 ∷ []) ≡ Fault 0 31 106
type_mismatch_42 = refl

-- MODULE M; TYPE R = RECORD x: INTEGER; y*: CHAR END; E = RECORD (R) z: SET END; P = POINTER TO R; Q = POINTER TO E; VAR p: P; q: Q; BEGIN q := p END M.
abbrev type_mismatch_43_0 : Parsed
type_mismatch_43_0 = record { source = record { bytes = (77 ∷ 79 ∷ 68 ∷ 85 ∷ 76 ∷ 69 ∷ 32 ∷ 77 ∷ 59 ∷ 32 ∷ 84 ∷ 89 ∷ 80 ∷ 69 ∷ 32 ∷ 82 ∷ 32 ∷ 61 ∷ 32 ∷ 82 ∷ 69 ∷ 67 ∷ 79 ∷ 82 ∷ 68 ∷ 32 ∷ 120 ∷ 58 ∷ 32 ∷ 73 ∷ 78 ∷ 84 ∷ 69 ∷ 71 ∷ 69 ∷ 82 ∷ 59 ∷ 32 ∷ 121 ∷ 42 ∷ 58 ∷ 32 ∷ 67 ∷ 72 ∷ 65 ∷ 82 ∷ 32 ∷ 69 ∷ 78 ∷ 68 ∷ 59 ∷ 32 ∷ 69 ∷ 32 ∷ 61 ∷ 32 ∷ 82 ∷ 69 ∷ 67 ∷ 79 ∷ 82 ∷ 68 ∷ 32 ∷ 40 ∷ 82 ∷ 41 ∷ 32 ∷ 122 ∷ 58 ∷ 32 ∷ 83 ∷ 69 ∷ 84 ∷ 32 ∷ 69 ∷ 78 ∷ 68 ∷ 59 ∷ 32 ∷ 80 ∷ 32 ∷ 61 ∷ 32 ∷ 80 ∷ 79 ∷ 73 ∷ 78 ∷ 84 ∷ 69 ∷ 82 ∷ 32 ∷ 84 ∷ 79 ∷ 32 ∷ 82 ∷ 59 ∷ 32 ∷ 81 ∷ 32 ∷ 61 ∷ 32 ∷ 80 ∷ 79 ∷ 73 ∷ 78 ∷ 84 ∷ 69 ∷ 82 ∷ 32 ∷ 84 ∷ 79 ∷ 32 ∷ 69 ∷ 59 ∷ 32 ∷ 86 ∷ 65 ∷ 82 ∷ 32 ∷ 112 ∷ 58 ∷ 32 ∷ 80 ∷ 59 ∷ 32 ∷ 113 ∷ 58 ∷ 32 ∷ 81 ∷ 59 ∷ 32 ∷ 66 ∷ 69 ∷ 71 ∷ 73 ∷ 78 ∷ 32 ∷ 113 ∷ 32 ∷ 58 ∷ 61 ∷ 32 ∷ 112 ∷ 32 ∷ 69 ∷ 78 ∷ 68 ∷ 32 ∷ 77 ∷ 46 ∷ []); symbols = (symbol (Ident) 0 6 ∷ symbol (Ident) 7 8 ∷ symbol (Ident) 8 9 ∷ symbol (Ident) 10 14 ∷ symbol (Ident) 15 16 ∷ symbol (Ident) 17 18 ∷ symbol (Ident) 19 25 ∷ symbol (Ident) 26 27 ∷ symbol (Ident) 27 28 ∷ symbol (Ident) 29 36 ∷ symbol (Ident) 36 37 ∷ symbol (Ident) 38 39 ∷ symbol (Ident) 39 40 ∷ symbol (Ident) 40 41 ∷ symbol (Ident) 42 46 ∷ symbol (Ident) 47 50 ∷ symbol (Ident) 50 51 ∷ symbol (Ident) 52 53 ∷ symbol (Ident) 54 55 ∷ symbol (Ident) 56 62 ∷ symbol (Ident) 63 64 ∷ symbol (Ident) 64 65 ∷ symbol (Ident) 65 66 ∷ symbol (Ident) 67 68 ∷ symbol (Ident) 68 69 ∷ symbol (Ident) 70 73 ∷ symbol (Ident) 74 77 ∷ symbol (Ident) 77 78 ∷ symbol (Ident) 79 80 ∷ symbol (Ident) 81 82 ∷ symbol (Ident) 83 90 ∷ symbol (Ident) 91 93 ∷ symbol (Ident) 94 95 ∷ symbol (Ident) 95 96 ∷ symbol (Ident) 97 98 ∷ symbol (Ident) 99 100 ∷ symbol (Ident) 101 108 ∷ symbol (Ident) 109 111 ∷ symbol (Ident) 112 113 ∷ symbol (Ident) 113 114 ∷ symbol (Ident) 115 118 ∷ symbol (Ident) 119 120 ∷ symbol (Ident) 120 121 ∷ symbol (Ident) 122 123 ∷ symbol (Ident) 123 124 ∷ symbol (Ident) 125 126 ∷ symbol (Ident) 126 127 ∷ symbol (Ident) 128 129 ∷ symbol (Ident) 129 130 ∷ symbol (Ident) 131 136 ∷ symbol (Ident) 137 138 ∷ symbol (Ident) 139 141 ∷ symbol (Ident) 142 143 ∷ symbol (Ident) 144 147 ∷ symbol (Ident) 148 149 ∷ symbol (Ident) 149 150 ∷ []) }; tree = record { module_word = 0; name = 1; semicolon = 0; imports = None; decls = (S.decls None (Some (record { type_word = 0; each = (record { name = (record { name = 4; star = None }); equal = 0; is = (S.Record 6 None (S.fields (record { first = (record { name = 7; star = None }); more = [] }) 0 (S.Named (record { name = 9; member = None }))) (S.next_fields 0 (S.fields (record { first = (record { name = 11; star = Some 0 }); more = [] }) 0 (S.Named (record { name = 14; member = None }))) S.no_more_fields) 0); semicolon = 0 } ∷ record { name = (record { name = 17; star = None }); equal = 0; is = (S.Record 19 (Some (record { left_paren = 0; name = (record { name = 21; member = None }); right_paren = 0 })) (S.fields (record { first = (record { name = 23; star = None }); more = [] }) 0 (S.Named (record { name = 25; member = None }))) S.no_more_fields 0); semicolon = 0 } ∷ record { name = (record { name = 28; star = None }); equal = 0; is = (S.Pointer 30 0 (S.Named (record { name = 32; member = None }))); semicolon = 0 } ∷ record { name = (record { name = 34; star = None }); equal = 0; is = (S.Pointer 36 0 (S.Named (record { name = 38; member = None }))); semicolon = 0 } ∷ []) })) (Some (record { var_word = 0; each = (record { names = (record { first = (record { name = 41; star = None }); more = [] }); colon = 0; of = (S.Named (record { name = 43; member = None })); semicolon = 0 } ∷ record { names = (record { first = (record { name = 45; star = None }); more = [] }); colon = 0; of = (S.Named (record { name = 47; member = None })); semicolon = 0 } ∷ []) })) S.no_procedure); body = (Some (record { begin_word = 0; stats = (S.stats (S.AssignOrCall (record { name = 50; selectors = S.no_selector }) (Some (record { becomes = 0; value = (S.only (S.simple None (S.term (S.Designated 52 S.no_selector) S.no_factor) S.no_term)) }))) S.no_stat) })); end_word = 0; end_name = 54; period = 0 } }

pub type_mismatch_43 : checked (type_mismatch_43_0 ∷ []) ≡ Fault 0 31 142
type_mismatch_43 = refl

-- MODULE M; TYPE R = RECORD x: INTEGER; y*: CHAR END; P = POINTER TO R; VAR r: R; p: P; BEGIN p := r END M.
abbrev type_mismatch_44_0 : Parsed
type_mismatch_44_0 = record { source = record { bytes = (77 ∷ 79 ∷ 68 ∷ 85 ∷ 76 ∷ 69 ∷ 32 ∷ 77 ∷ 59 ∷ 32 ∷ 84 ∷ 89 ∷ 80 ∷ 69 ∷ 32 ∷ 82 ∷ 32 ∷ 61 ∷ 32 ∷ 82 ∷ 69 ∷ 67 ∷ 79 ∷ 82 ∷ 68 ∷ 32 ∷ 120 ∷ 58 ∷ 32 ∷ 73 ∷ 78 ∷ 84 ∷ 69 ∷ 71 ∷ 69 ∷ 82 ∷ 59 ∷ 32 ∷ 121 ∷ 42 ∷ 58 ∷ 32 ∷ 67 ∷ 72 ∷ 65 ∷ 82 ∷ 32 ∷ 69 ∷ 78 ∷ 68 ∷ 59 ∷ 32 ∷ 80 ∷ 32 ∷ 61 ∷ 32 ∷ 80 ∷ 79 ∷ 73 ∷ 78 ∷ 84 ∷ 69 ∷ 82 ∷ 32 ∷ 84 ∷ 79 ∷ 32 ∷ 82 ∷ 59 ∷ 32 ∷ 86 ∷ 65 ∷ 82 ∷ 32 ∷ 114 ∷ 58 ∷ 32 ∷ 82 ∷ 59 ∷ 32 ∷ 112 ∷ 58 ∷ 32 ∷ 80 ∷ 59 ∷ 32 ∷ 66 ∷ 69 ∷ 71 ∷ 73 ∷ 78 ∷ 32 ∷ 112 ∷ 32 ∷ 58 ∷ 61 ∷ 32 ∷ 114 ∷ 32 ∷ 69 ∷ 78 ∷ 68 ∷ 32 ∷ 77 ∷ 46 ∷ []); symbols = (symbol (Ident) 0 6 ∷ symbol (Ident) 7 8 ∷ symbol (Ident) 8 9 ∷ symbol (Ident) 10 14 ∷ symbol (Ident) 15 16 ∷ symbol (Ident) 17 18 ∷ symbol (Ident) 19 25 ∷ symbol (Ident) 26 27 ∷ symbol (Ident) 27 28 ∷ symbol (Ident) 29 36 ∷ symbol (Ident) 36 37 ∷ symbol (Ident) 38 39 ∷ symbol (Ident) 39 40 ∷ symbol (Ident) 40 41 ∷ symbol (Ident) 42 46 ∷ symbol (Ident) 47 50 ∷ symbol (Ident) 50 51 ∷ symbol (Ident) 52 53 ∷ symbol (Ident) 54 55 ∷ symbol (Ident) 56 63 ∷ symbol (Ident) 64 66 ∷ symbol (Ident) 67 68 ∷ symbol (Ident) 68 69 ∷ symbol (Ident) 70 73 ∷ symbol (Ident) 74 75 ∷ symbol (Ident) 75 76 ∷ symbol (Ident) 77 78 ∷ symbol (Ident) 78 79 ∷ symbol (Ident) 80 81 ∷ symbol (Ident) 81 82 ∷ symbol (Ident) 83 84 ∷ symbol (Ident) 84 85 ∷ symbol (Ident) 86 91 ∷ symbol (Ident) 92 93 ∷ symbol (Ident) 94 96 ∷ symbol (Ident) 97 98 ∷ symbol (Ident) 99 102 ∷ symbol (Ident) 103 104 ∷ symbol (Ident) 104 105 ∷ []) }; tree = record { module_word = 0; name = 1; semicolon = 0; imports = None; decls = (S.decls None (Some (record { type_word = 0; each = (record { name = (record { name = 4; star = None }); equal = 0; is = (S.Record 6 None (S.fields (record { first = (record { name = 7; star = None }); more = [] }) 0 (S.Named (record { name = 9; member = None }))) (S.next_fields 0 (S.fields (record { first = (record { name = 11; star = Some 0 }); more = [] }) 0 (S.Named (record { name = 14; member = None }))) S.no_more_fields) 0); semicolon = 0 } ∷ record { name = (record { name = 17; star = None }); equal = 0; is = (S.Pointer 19 0 (S.Named (record { name = 21; member = None }))); semicolon = 0 } ∷ []) })) (Some (record { var_word = 0; each = (record { names = (record { first = (record { name = 24; star = None }); more = [] }); colon = 0; of = (S.Named (record { name = 26; member = None })); semicolon = 0 } ∷ record { names = (record { first = (record { name = 28; star = None }); more = [] }); colon = 0; of = (S.Named (record { name = 30; member = None })); semicolon = 0 } ∷ []) })) S.no_procedure); body = (Some (record { begin_word = 0; stats = (S.stats (S.AssignOrCall (record { name = 33; selectors = S.no_selector }) (Some (record { becomes = 0; value = (S.only (S.simple None (S.term (S.Designated 35 S.no_selector) S.no_factor) S.no_term)) }))) S.no_stat) })); end_word = 0; end_name = 37; period = 0 } }

pub type_mismatch_44 : checked (type_mismatch_44_0 ∷ []) ≡ Fault 0 31 97
type_mismatch_44 = refl

-- MODULE M; VAR f: PROCEDURE (x: INTEGER): INTEGER; PROCEDURE F(x: INTEGER): INTEGER; RETURN x END F; BEGIN f := F(1) END M.
abbrev type_mismatch_45_0 : Parsed
type_mismatch_45_0 = record { source = record { bytes = (77 ∷ 79 ∷ 68 ∷ 85 ∷ 76 ∷ 69 ∷ 32 ∷ 77 ∷ 59 ∷ 32 ∷ 86 ∷ 65 ∷ 82 ∷ 32 ∷ 102 ∷ 58 ∷ 32 ∷ 80 ∷ 82 ∷ 79 ∷ 67 ∷ 69 ∷ 68 ∷ 85 ∷ 82 ∷ 69 ∷ 32 ∷ 40 ∷ 120 ∷ 58 ∷ 32 ∷ 73 ∷ 78 ∷ 84 ∷ 69 ∷ 71 ∷ 69 ∷ 82 ∷ 41 ∷ 58 ∷ 32 ∷ 73 ∷ 78 ∷ 84 ∷ 69 ∷ 71 ∷ 69 ∷ 82 ∷ 59 ∷ 32 ∷ 80 ∷ 82 ∷ 79 ∷ 67 ∷ 69 ∷ 68 ∷ 85 ∷ 82 ∷ 69 ∷ 32 ∷ 70 ∷ 40 ∷ 120 ∷ 58 ∷ 32 ∷ 73 ∷ 78 ∷ 84 ∷ 69 ∷ 71 ∷ 69 ∷ 82 ∷ 41 ∷ 58 ∷ 32 ∷ 73 ∷ 78 ∷ 84 ∷ 69 ∷ 71 ∷ 69 ∷ 82 ∷ 59 ∷ 32 ∷ 82 ∷ 69 ∷ 84 ∷ 85 ∷ 82 ∷ 78 ∷ 32 ∷ 120 ∷ 32 ∷ 69 ∷ 78 ∷ 68 ∷ 32 ∷ 70 ∷ 59 ∷ 32 ∷ 66 ∷ 69 ∷ 71 ∷ 73 ∷ 78 ∷ 32 ∷ 102 ∷ 32 ∷ 58 ∷ 61 ∷ 32 ∷ 70 ∷ 40 ∷ 49 ∷ 41 ∷ 32 ∷ 69 ∷ 78 ∷ 68 ∷ 32 ∷ 77 ∷ 46 ∷ []); symbols = (symbol (Ident) 0 6 ∷ symbol (Ident) 7 8 ∷ symbol (Ident) 8 9 ∷ symbol (Ident) 10 13 ∷ symbol (Ident) 14 15 ∷ symbol (Ident) 15 16 ∷ symbol (Ident) 17 26 ∷ symbol (Ident) 27 28 ∷ symbol (Ident) 28 29 ∷ symbol (Ident) 29 30 ∷ symbol (Ident) 31 38 ∷ symbol (Ident) 38 39 ∷ symbol (Ident) 39 40 ∷ symbol (Ident) 41 48 ∷ symbol (Ident) 48 49 ∷ symbol (Ident) 50 59 ∷ symbol (Ident) 60 61 ∷ symbol (Ident) 61 62 ∷ symbol (Ident) 62 63 ∷ symbol (Ident) 63 64 ∷ symbol (Ident) 65 72 ∷ symbol (Ident) 72 73 ∷ symbol (Ident) 73 74 ∷ symbol (Ident) 75 82 ∷ symbol (Ident) 82 83 ∷ symbol (Ident) 84 90 ∷ symbol (Ident) 91 92 ∷ symbol (Ident) 93 96 ∷ symbol (Ident) 97 98 ∷ symbol (Ident) 98 99 ∷ symbol (Ident) 100 105 ∷ symbol (Ident) 106 107 ∷ symbol (Ident) 108 110 ∷ symbol (Ident) 111 112 ∷ symbol (Ident) 112 113 ∷ symbol (Int (pos 1)) 113 114 ∷ symbol (Ident) 114 115 ∷ symbol (Ident) 116 119 ∷ symbol (Ident) 120 121 ∷ symbol (Ident) 121 122 ∷ []) }; tree = record { module_word = 0; name = 1; semicolon = 0; imports = None; decls = (S.decls None None (Some (record { var_word = 0; each = (record { names = (record { first = (record { name = 4; star = None }); more = [] }); colon = 0; of = (S.Procedure 6 (Some (record { left_paren = 0; sections = Some (record { first = (record { var_word = None; first = 8; more = []; colon = 0; open_array = None; of = (record { name = 10; member = None }) }); more = [] }); right_paren = 0; result = Some (record { colon = 0; name = (record { name = 13; member = None }) }) }))); semicolon = 0 } ∷ []) })) (S.procedure 0 (record { name = 16; star = None }) (Some (record { left_paren = 0; sections = Some (record { first = (record { var_word = None; first = 18; more = []; colon = 0; open_array = None; of = (record { name = 20; member = None }) }); more = [] }); right_paren = 0; result = Some (record { colon = 0; name = (record { name = 23; member = None }) }) })) 0 (S.decls None None None S.no_procedure) None (Some (record { return_word = 25; value = (S.only (S.simple None (S.term (S.Designated 26 S.no_selector) S.no_factor) S.no_term)) })) 27 28 0 S.no_procedure)); body = (Some (record { begin_word = 0; stats = (S.stats (S.AssignOrCall (record { name = 31; selectors = S.no_selector }) (Some (record { becomes = 0; value = (S.only (S.simple None (S.term (S.Designated 33 (S.selected (S.Parens 0 (S.expressions (S.only (S.simple None (S.term (S.Int 35) S.no_factor) S.no_term)) S.no_expression) 0) S.no_selector)) S.no_factor) S.no_term)) }))) S.no_stat) })); end_word = 0; end_name = 38; period = 0 } }

pub type_mismatch_45 : checked (type_mismatch_45_0 ∷ []) ≡ Fault 0 31 111
type_mismatch_45 = refl

-- MODULE M; VAR f: PROCEDURE (x: INTEGER): INTEGER; PROCEDURE N; END N; BEGIN f := N END M.
abbrev type_mismatch_46_0 : Parsed
type_mismatch_46_0 = record { source = record { bytes = (77 ∷ 79 ∷ 68 ∷ 85 ∷ 76 ∷ 69 ∷ 32 ∷ 77 ∷ 59 ∷ 32 ∷ 86 ∷ 65 ∷ 82 ∷ 32 ∷ 102 ∷ 58 ∷ 32 ∷ 80 ∷ 82 ∷ 79 ∷ 67 ∷ 69 ∷ 68 ∷ 85 ∷ 82 ∷ 69 ∷ 32 ∷ 40 ∷ 120 ∷ 58 ∷ 32 ∷ 73 ∷ 78 ∷ 84 ∷ 69 ∷ 71 ∷ 69 ∷ 82 ∷ 41 ∷ 58 ∷ 32 ∷ 73 ∷ 78 ∷ 84 ∷ 69 ∷ 71 ∷ 69 ∷ 82 ∷ 59 ∷ 32 ∷ 80 ∷ 82 ∷ 79 ∷ 67 ∷ 69 ∷ 68 ∷ 85 ∷ 82 ∷ 69 ∷ 32 ∷ 78 ∷ 59 ∷ 32 ∷ 69 ∷ 78 ∷ 68 ∷ 32 ∷ 78 ∷ 59 ∷ 32 ∷ 66 ∷ 69 ∷ 71 ∷ 73 ∷ 78 ∷ 32 ∷ 102 ∷ 32 ∷ 58 ∷ 61 ∷ 32 ∷ 78 ∷ 32 ∷ 69 ∷ 78 ∷ 68 ∷ 32 ∷ 77 ∷ 46 ∷ []); symbols = (symbol (Ident) 0 6 ∷ symbol (Ident) 7 8 ∷ symbol (Ident) 8 9 ∷ symbol (Ident) 10 13 ∷ symbol (Ident) 14 15 ∷ symbol (Ident) 15 16 ∷ symbol (Ident) 17 26 ∷ symbol (Ident) 27 28 ∷ symbol (Ident) 28 29 ∷ symbol (Ident) 29 30 ∷ symbol (Ident) 31 38 ∷ symbol (Ident) 38 39 ∷ symbol (Ident) 39 40 ∷ symbol (Ident) 41 48 ∷ symbol (Ident) 48 49 ∷ symbol (Ident) 50 59 ∷ symbol (Ident) 60 61 ∷ symbol (Ident) 61 62 ∷ symbol (Ident) 63 66 ∷ symbol (Ident) 67 68 ∷ symbol (Ident) 68 69 ∷ symbol (Ident) 70 75 ∷ symbol (Ident) 76 77 ∷ symbol (Ident) 78 80 ∷ symbol (Ident) 81 82 ∷ symbol (Ident) 83 86 ∷ symbol (Ident) 87 88 ∷ symbol (Ident) 88 89 ∷ []) }; tree = record { module_word = 0; name = 1; semicolon = 0; imports = None; decls = (S.decls None None (Some (record { var_word = 0; each = (record { names = (record { first = (record { name = 4; star = None }); more = [] }); colon = 0; of = (S.Procedure 6 (Some (record { left_paren = 0; sections = Some (record { first = (record { var_word = None; first = 8; more = []; colon = 0; open_array = None; of = (record { name = 10; member = None }) }); more = [] }); right_paren = 0; result = Some (record { colon = 0; name = (record { name = 13; member = None }) }) }))); semicolon = 0 } ∷ []) })) (S.procedure 0 (record { name = 16; star = None }) None 0 (S.decls None None None S.no_procedure) None None 18 19 0 S.no_procedure)); body = (Some (record { begin_word = 0; stats = (S.stats (S.AssignOrCall (record { name = 22; selectors = S.no_selector }) (Some (record { becomes = 0; value = (S.only (S.simple None (S.term (S.Designated 24 S.no_selector) S.no_factor) S.no_term)) }))) S.no_stat) })); end_word = 0; end_name = 26; period = 0 } }

pub type_mismatch_46 : checked (type_mismatch_46_0 ∷ []) ≡ Fault 0 31 81
type_mismatch_46 = refl

-- MODULE M; VAR g: PROCEDURE; PROCEDURE F(x: INTEGER): INTEGER; RETURN x END F; BEGIN g := F END M.
abbrev type_mismatch_47_0 : Parsed
type_mismatch_47_0 = record { source = record { bytes = (77 ∷ 79 ∷ 68 ∷ 85 ∷ 76 ∷ 69 ∷ 32 ∷ 77 ∷ 59 ∷ 32 ∷ 86 ∷ 65 ∷ 82 ∷ 32 ∷ 103 ∷ 58 ∷ 32 ∷ 80 ∷ 82 ∷ 79 ∷ 67 ∷ 69 ∷ 68 ∷ 85 ∷ 82 ∷ 69 ∷ 59 ∷ 32 ∷ 80 ∷ 82 ∷ 79 ∷ 67 ∷ 69 ∷ 68 ∷ 85 ∷ 82 ∷ 69 ∷ 32 ∷ 70 ∷ 40 ∷ 120 ∷ 58 ∷ 32 ∷ 73 ∷ 78 ∷ 84 ∷ 69 ∷ 71 ∷ 69 ∷ 82 ∷ 41 ∷ 58 ∷ 32 ∷ 73 ∷ 78 ∷ 84 ∷ 69 ∷ 71 ∷ 69 ∷ 82 ∷ 59 ∷ 32 ∷ 82 ∷ 69 ∷ 84 ∷ 85 ∷ 82 ∷ 78 ∷ 32 ∷ 120 ∷ 32 ∷ 69 ∷ 78 ∷ 68 ∷ 32 ∷ 70 ∷ 59 ∷ 32 ∷ 66 ∷ 69 ∷ 71 ∷ 73 ∷ 78 ∷ 32 ∷ 103 ∷ 32 ∷ 58 ∷ 61 ∷ 32 ∷ 70 ∷ 32 ∷ 69 ∷ 78 ∷ 68 ∷ 32 ∷ 77 ∷ 46 ∷ []); symbols = (symbol (Ident) 0 6 ∷ symbol (Ident) 7 8 ∷ symbol (Ident) 8 9 ∷ symbol (Ident) 10 13 ∷ symbol (Ident) 14 15 ∷ symbol (Ident) 15 16 ∷ symbol (Ident) 17 26 ∷ symbol (Ident) 26 27 ∷ symbol (Ident) 28 37 ∷ symbol (Ident) 38 39 ∷ symbol (Ident) 39 40 ∷ symbol (Ident) 40 41 ∷ symbol (Ident) 41 42 ∷ symbol (Ident) 43 50 ∷ symbol (Ident) 50 51 ∷ symbol (Ident) 51 52 ∷ symbol (Ident) 53 60 ∷ symbol (Ident) 60 61 ∷ symbol (Ident) 62 68 ∷ symbol (Ident) 69 70 ∷ symbol (Ident) 71 74 ∷ symbol (Ident) 75 76 ∷ symbol (Ident) 76 77 ∷ symbol (Ident) 78 83 ∷ symbol (Ident) 84 85 ∷ symbol (Ident) 86 88 ∷ symbol (Ident) 89 90 ∷ symbol (Ident) 91 94 ∷ symbol (Ident) 95 96 ∷ symbol (Ident) 96 97 ∷ []) }; tree = record { module_word = 0; name = 1; semicolon = 0; imports = None; decls = (S.decls None None (Some (record { var_word = 0; each = (record { names = (record { first = (record { name = 4; star = None }); more = [] }); colon = 0; of = (S.Procedure 6 None); semicolon = 0 } ∷ []) })) (S.procedure 0 (record { name = 9; star = None }) (Some (record { left_paren = 0; sections = Some (record { first = (record { var_word = None; first = 11; more = []; colon = 0; open_array = None; of = (record { name = 13; member = None }) }); more = [] }); right_paren = 0; result = Some (record { colon = 0; name = (record { name = 16; member = None }) }) })) 0 (S.decls None None None S.no_procedure) None (Some (record { return_word = 18; value = (S.only (S.simple None (S.term (S.Designated 19 S.no_selector) S.no_factor) S.no_term)) })) 20 21 0 S.no_procedure)); body = (Some (record { begin_word = 0; stats = (S.stats (S.AssignOrCall (record { name = 24; selectors = S.no_selector }) (Some (record { becomes = 0; value = (S.only (S.simple None (S.term (S.Designated 26 S.no_selector) S.no_factor) S.no_term)) }))) S.no_stat) })); end_word = 0; end_name = 28; period = 0 } }

pub type_mismatch_47 : checked (type_mismatch_47_0 ∷ []) ≡ Fault 0 31 89
type_mismatch_47 = refl

-- MODULE M; VAR a: ARRAY 3 OF INTEGER; m: ARRAY 2, 3 OF INTEGER; BEGIN a := m END M.
abbrev type_mismatch_48_0 : Parsed
type_mismatch_48_0 = record { source = record { bytes = (77 ∷ 79 ∷ 68 ∷ 85 ∷ 76 ∷ 69 ∷ 32 ∷ 77 ∷ 59 ∷ 32 ∷ 86 ∷ 65 ∷ 82 ∷ 32 ∷ 97 ∷ 58 ∷ 32 ∷ 65 ∷ 82 ∷ 82 ∷ 65 ∷ 89 ∷ 32 ∷ 51 ∷ 32 ∷ 79 ∷ 70 ∷ 32 ∷ 73 ∷ 78 ∷ 84 ∷ 69 ∷ 71 ∷ 69 ∷ 82 ∷ 59 ∷ 32 ∷ 109 ∷ 58 ∷ 32 ∷ 65 ∷ 82 ∷ 82 ∷ 65 ∷ 89 ∷ 32 ∷ 50 ∷ 44 ∷ 32 ∷ 51 ∷ 32 ∷ 79 ∷ 70 ∷ 32 ∷ 73 ∷ 78 ∷ 84 ∷ 69 ∷ 71 ∷ 69 ∷ 82 ∷ 59 ∷ 32 ∷ 66 ∷ 69 ∷ 71 ∷ 73 ∷ 78 ∷ 32 ∷ 97 ∷ 32 ∷ 58 ∷ 61 ∷ 32 ∷ 109 ∷ 32 ∷ 69 ∷ 78 ∷ 68 ∷ 32 ∷ 77 ∷ 46 ∷ []); symbols = (symbol (Ident) 0 6 ∷ symbol (Ident) 7 8 ∷ symbol (Ident) 8 9 ∷ symbol (Ident) 10 13 ∷ symbol (Ident) 14 15 ∷ symbol (Ident) 15 16 ∷ symbol (Ident) 17 22 ∷ symbol (Int (pos 3)) 23 24 ∷ symbol (Ident) 25 27 ∷ symbol (Ident) 28 35 ∷ symbol (Ident) 35 36 ∷ symbol (Ident) 37 38 ∷ symbol (Ident) 38 39 ∷ symbol (Ident) 40 45 ∷ symbol (Int (pos 2)) 46 47 ∷ symbol (Ident) 47 48 ∷ symbol (Int (pos 3)) 49 50 ∷ symbol (Ident) 51 53 ∷ symbol (Ident) 54 61 ∷ symbol (Ident) 61 62 ∷ symbol (Ident) 63 68 ∷ symbol (Ident) 69 70 ∷ symbol (Ident) 71 73 ∷ symbol (Ident) 74 75 ∷ symbol (Ident) 76 79 ∷ symbol (Ident) 80 81 ∷ symbol (Ident) 81 82 ∷ []) }; tree = record { module_word = 0; name = 1; semicolon = 0; imports = None; decls = (S.decls None None (Some (record { var_word = 0; each = (record { names = (record { first = (record { name = 4; star = None }); more = [] }); colon = 0; of = (S.Array 6 (S.only (S.simple None (S.term (S.Int 7) S.no_factor) S.no_term)) S.no_expression 0 (S.Named (record { name = 9; member = None }))); semicolon = 0 } ∷ record { names = (record { first = (record { name = 11; star = None }); more = [] }); colon = 0; of = (S.Array 13 (S.only (S.simple None (S.term (S.Int 14) S.no_factor) S.no_term)) (S.next_expression 0 (S.only (S.simple None (S.term (S.Int 16) S.no_factor) S.no_term)) S.no_expression) 0 (S.Named (record { name = 18; member = None }))); semicolon = 0 } ∷ []) })) S.no_procedure); body = (Some (record { begin_word = 0; stats = (S.stats (S.AssignOrCall (record { name = 21; selectors = S.no_selector }) (Some (record { becomes = 0; value = (S.only (S.simple None (S.term (S.Designated 23 S.no_selector) S.no_factor) S.no_term)) }))) S.no_stat) })); end_word = 0; end_name = 25; period = 0 } }

pub type_mismatch_48 : checked (type_mismatch_48_0 ∷ []) ≡ Fault 0 31 74
type_mismatch_48 = refl

-- MODULE M; VAR s: SET; BEGIN s := 1 END M.
abbrev type_mismatch_49_0 : Parsed
type_mismatch_49_0 = record { source = record { bytes = (77 ∷ 79 ∷ 68 ∷ 85 ∷ 76 ∷ 69 ∷ 32 ∷ 77 ∷ 59 ∷ 32 ∷ 86 ∷ 65 ∷ 82 ∷ 32 ∷ 115 ∷ 58 ∷ 32 ∷ 83 ∷ 69 ∷ 84 ∷ 59 ∷ 32 ∷ 66 ∷ 69 ∷ 71 ∷ 73 ∷ 78 ∷ 32 ∷ 115 ∷ 32 ∷ 58 ∷ 61 ∷ 32 ∷ 49 ∷ 32 ∷ 69 ∷ 78 ∷ 68 ∷ 32 ∷ 77 ∷ 46 ∷ []); symbols = (symbol (Ident) 0 6 ∷ symbol (Ident) 7 8 ∷ symbol (Ident) 8 9 ∷ symbol (Ident) 10 13 ∷ symbol (Ident) 14 15 ∷ symbol (Ident) 15 16 ∷ symbol (Ident) 17 20 ∷ symbol (Ident) 20 21 ∷ symbol (Ident) 22 27 ∷ symbol (Ident) 28 29 ∷ symbol (Ident) 30 32 ∷ symbol (Int (pos 1)) 33 34 ∷ symbol (Ident) 35 38 ∷ symbol (Ident) 39 40 ∷ symbol (Ident) 40 41 ∷ []) }; tree = record { module_word = 0; name = 1; semicolon = 0; imports = None; decls = (S.decls None None (Some (record { var_word = 0; each = (record { names = (record { first = (record { name = 4; star = None }); more = [] }); colon = 0; of = (S.Named (record { name = 6; member = None })); semicolon = 0 } ∷ []) })) S.no_procedure); body = (Some (record { begin_word = 0; stats = (S.stats (S.AssignOrCall (record { name = 9; selectors = S.no_selector }) (Some (record { becomes = 0; value = (S.only (S.simple None (S.term (S.Int 11) S.no_factor) S.no_term)) }))) S.no_stat) })); end_word = 0; end_name = 13; period = 0 } }

pub type_mismatch_49 : checked (type_mismatch_49_0 ∷ []) ≡ Fault 0 31 33
type_mismatch_49 = refl

-- MODULE M; VAR c: CHAR; s: SET; BEGIN s := {c} END M.
abbrev type_mismatch_50_0 : Parsed
type_mismatch_50_0 = record { source = record { bytes = (77 ∷ 79 ∷ 68 ∷ 85 ∷ 76 ∷ 69 ∷ 32 ∷ 77 ∷ 59 ∷ 32 ∷ 86 ∷ 65 ∷ 82 ∷ 32 ∷ 99 ∷ 58 ∷ 32 ∷ 67 ∷ 72 ∷ 65 ∷ 82 ∷ 59 ∷ 32 ∷ 115 ∷ 58 ∷ 32 ∷ 83 ∷ 69 ∷ 84 ∷ 59 ∷ 32 ∷ 66 ∷ 69 ∷ 71 ∷ 73 ∷ 78 ∷ 32 ∷ 115 ∷ 32 ∷ 58 ∷ 61 ∷ 32 ∷ 123 ∷ 99 ∷ 125 ∷ 32 ∷ 69 ∷ 78 ∷ 68 ∷ 32 ∷ 77 ∷ 46 ∷ []); symbols = (symbol (Ident) 0 6 ∷ symbol (Ident) 7 8 ∷ symbol (Ident) 8 9 ∷ symbol (Ident) 10 13 ∷ symbol (Ident) 14 15 ∷ symbol (Ident) 15 16 ∷ symbol (Ident) 17 21 ∷ symbol (Ident) 21 22 ∷ symbol (Ident) 23 24 ∷ symbol (Ident) 24 25 ∷ symbol (Ident) 26 29 ∷ symbol (Ident) 29 30 ∷ symbol (Ident) 31 36 ∷ symbol (Ident) 37 38 ∷ symbol (Ident) 39 41 ∷ symbol (Ident) 42 43 ∷ symbol (Ident) 43 44 ∷ symbol (Ident) 44 45 ∷ symbol (Ident) 46 49 ∷ symbol (Ident) 50 51 ∷ symbol (Ident) 51 52 ∷ []) }; tree = record { module_word = 0; name = 1; semicolon = 0; imports = None; decls = (S.decls None None (Some (record { var_word = 0; each = (record { names = (record { first = (record { name = 4; star = None }); more = [] }); colon = 0; of = (S.Named (record { name = 6; member = None })); semicolon = 0 } ∷ record { names = (record { first = (record { name = 8; star = None }); more = [] }); colon = 0; of = (S.Named (record { name = 10; member = None })); semicolon = 0 } ∷ []) })) S.no_procedure); body = (Some (record { begin_word = 0; stats = (S.stats (S.AssignOrCall (record { name = 13; selectors = S.no_selector }) (Some (record { becomes = 0; value = (S.only (S.simple None (S.term (S.Set 15 (S.one (S.only (S.simple None (S.term (S.Designated 16 S.no_selector) S.no_factor) S.no_term))) S.no_element 0) S.no_factor) S.no_term)) }))) S.no_stat) })); end_word = 0; end_name = 19; period = 0 } }

pub type_mismatch_50 : checked (type_mismatch_50_0 ∷ []) ≡ Fault 0 31 43
type_mismatch_50 = refl

-- MODULE M; VAR b: BOOLEAN; s: SET; BEGIN s := {1..b} END M.
abbrev type_mismatch_51_0 : Parsed
type_mismatch_51_0 = record { source = record { bytes = (77 ∷ 79 ∷ 68 ∷ 85 ∷ 76 ∷ 69 ∷ 32 ∷ 77 ∷ 59 ∷ 32 ∷ 86 ∷ 65 ∷ 82 ∷ 32 ∷ 98 ∷ 58 ∷ 32 ∷ 66 ∷ 79 ∷ 79 ∷ 76 ∷ 69 ∷ 65 ∷ 78 ∷ 59 ∷ 32 ∷ 115 ∷ 58 ∷ 32 ∷ 83 ∷ 69 ∷ 84 ∷ 59 ∷ 32 ∷ 66 ∷ 69 ∷ 71 ∷ 73 ∷ 78 ∷ 32 ∷ 115 ∷ 32 ∷ 58 ∷ 61 ∷ 32 ∷ 123 ∷ 49 ∷ 46 ∷ 46 ∷ 98 ∷ 125 ∷ 32 ∷ 69 ∷ 78 ∷ 68 ∷ 32 ∷ 77 ∷ 46 ∷ []); symbols = (symbol (Ident) 0 6 ∷ symbol (Ident) 7 8 ∷ symbol (Ident) 8 9 ∷ symbol (Ident) 10 13 ∷ symbol (Ident) 14 15 ∷ symbol (Ident) 15 16 ∷ symbol (Ident) 17 24 ∷ symbol (Ident) 24 25 ∷ symbol (Ident) 26 27 ∷ symbol (Ident) 27 28 ∷ symbol (Ident) 29 32 ∷ symbol (Ident) 32 33 ∷ symbol (Ident) 34 39 ∷ symbol (Ident) 40 41 ∷ symbol (Ident) 42 44 ∷ symbol (Ident) 45 46 ∷ symbol (Int (pos 1)) 46 47 ∷ symbol (Ident) 47 49 ∷ symbol (Ident) 49 50 ∷ symbol (Ident) 50 51 ∷ symbol (Ident) 52 55 ∷ symbol (Ident) 56 57 ∷ symbol (Ident) 57 58 ∷ []) }; tree = record { module_word = 0; name = 1; semicolon = 0; imports = None; decls = (S.decls None None (Some (record { var_word = 0; each = (record { names = (record { first = (record { name = 4; star = None }); more = [] }); colon = 0; of = (S.Named (record { name = 6; member = None })); semicolon = 0 } ∷ record { names = (record { first = (record { name = 8; star = None }); more = [] }); colon = 0; of = (S.Named (record { name = 10; member = None })); semicolon = 0 } ∷ []) })) S.no_procedure); body = (Some (record { begin_word = 0; stats = (S.stats (S.AssignOrCall (record { name = 13; selectors = S.no_selector }) (Some (record { becomes = 0; value = (S.only (S.simple None (S.term (S.Set 15 (S.range (S.only (S.simple None (S.term (S.Int 16) S.no_factor) S.no_term)) 0 (S.only (S.simple None (S.term (S.Designated 18 S.no_selector) S.no_factor) S.no_term))) S.no_element 0) S.no_factor) S.no_term)) }))) S.no_stat) })); end_word = 0; end_name = 21; period = 0 } }

pub type_mismatch_51 : checked (type_mismatch_51_0 ∷ []) ≡ Fault 0 31 49
type_mismatch_51 = refl

-- MODULE M; VAR i: INTEGER; a: ARRAY 3 OF INTEGER; BEGIN i := a END M.
abbrev type_mismatch_52_0 : Parsed
type_mismatch_52_0 = record { source = record { bytes = (77 ∷ 79 ∷ 68 ∷ 85 ∷ 76 ∷ 69 ∷ 32 ∷ 77 ∷ 59 ∷ 32 ∷ 86 ∷ 65 ∷ 82 ∷ 32 ∷ 105 ∷ 58 ∷ 32 ∷ 73 ∷ 78 ∷ 84 ∷ 69 ∷ 71 ∷ 69 ∷ 82 ∷ 59 ∷ 32 ∷ 97 ∷ 58 ∷ 32 ∷ 65 ∷ 82 ∷ 82 ∷ 65 ∷ 89 ∷ 32 ∷ 51 ∷ 32 ∷ 79 ∷ 70 ∷ 32 ∷ 73 ∷ 78 ∷ 84 ∷ 69 ∷ 71 ∷ 69 ∷ 82 ∷ 59 ∷ 32 ∷ 66 ∷ 69 ∷ 71 ∷ 73 ∷ 78 ∷ 32 ∷ 105 ∷ 32 ∷ 58 ∷ 61 ∷ 32 ∷ 97 ∷ 32 ∷ 69 ∷ 78 ∷ 68 ∷ 32 ∷ 77 ∷ 46 ∷ []); symbols = (symbol (Ident) 0 6 ∷ symbol (Ident) 7 8 ∷ symbol (Ident) 8 9 ∷ symbol (Ident) 10 13 ∷ symbol (Ident) 14 15 ∷ symbol (Ident) 15 16 ∷ symbol (Ident) 17 24 ∷ symbol (Ident) 24 25 ∷ symbol (Ident) 26 27 ∷ symbol (Ident) 27 28 ∷ symbol (Ident) 29 34 ∷ symbol (Int (pos 3)) 35 36 ∷ symbol (Ident) 37 39 ∷ symbol (Ident) 40 47 ∷ symbol (Ident) 47 48 ∷ symbol (Ident) 49 54 ∷ symbol (Ident) 55 56 ∷ symbol (Ident) 57 59 ∷ symbol (Ident) 60 61 ∷ symbol (Ident) 62 65 ∷ symbol (Ident) 66 67 ∷ symbol (Ident) 67 68 ∷ []) }; tree = record { module_word = 0; name = 1; semicolon = 0; imports = None; decls = (S.decls None None (Some (record { var_word = 0; each = (record { names = (record { first = (record { name = 4; star = None }); more = [] }); colon = 0; of = (S.Named (record { name = 6; member = None })); semicolon = 0 } ∷ record { names = (record { first = (record { name = 8; star = None }); more = [] }); colon = 0; of = (S.Array 10 (S.only (S.simple None (S.term (S.Int 11) S.no_factor) S.no_term)) S.no_expression 0 (S.Named (record { name = 13; member = None }))); semicolon = 0 } ∷ []) })) S.no_procedure); body = (Some (record { begin_word = 0; stats = (S.stats (S.AssignOrCall (record { name = 16; selectors = S.no_selector }) (Some (record { becomes = 0; value = (S.only (S.simple None (S.term (S.Designated 18 S.no_selector) S.no_factor) S.no_term)) }))) S.no_stat) })); end_word = 0; end_name = 20; period = 0 } }

pub type_mismatch_52 : checked (type_mismatch_52_0 ∷ []) ≡ Fault 0 31 60
type_mismatch_52 = refl

-- MODULE M; VAR i: INTEGER; a: ARRAY 3 OF INTEGER; BEGIN a := i END M.
abbrev type_mismatch_53_0 : Parsed
type_mismatch_53_0 = record { source = record { bytes = (77 ∷ 79 ∷ 68 ∷ 85 ∷ 76 ∷ 69 ∷ 32 ∷ 77 ∷ 59 ∷ 32 ∷ 86 ∷ 65 ∷ 82 ∷ 32 ∷ 105 ∷ 58 ∷ 32 ∷ 73 ∷ 78 ∷ 84 ∷ 69 ∷ 71 ∷ 69 ∷ 82 ∷ 59 ∷ 32 ∷ 97 ∷ 58 ∷ 32 ∷ 65 ∷ 82 ∷ 82 ∷ 65 ∷ 89 ∷ 32 ∷ 51 ∷ 32 ∷ 79 ∷ 70 ∷ 32 ∷ 73 ∷ 78 ∷ 84 ∷ 69 ∷ 71 ∷ 69 ∷ 82 ∷ 59 ∷ 32 ∷ 66 ∷ 69 ∷ 71 ∷ 73 ∷ 78 ∷ 32 ∷ 97 ∷ 32 ∷ 58 ∷ 61 ∷ 32 ∷ 105 ∷ 32 ∷ 69 ∷ 78 ∷ 68 ∷ 32 ∷ 77 ∷ 46 ∷ []); symbols = (symbol (Ident) 0 6 ∷ symbol (Ident) 7 8 ∷ symbol (Ident) 8 9 ∷ symbol (Ident) 10 13 ∷ symbol (Ident) 14 15 ∷ symbol (Ident) 15 16 ∷ symbol (Ident) 17 24 ∷ symbol (Ident) 24 25 ∷ symbol (Ident) 26 27 ∷ symbol (Ident) 27 28 ∷ symbol (Ident) 29 34 ∷ symbol (Int (pos 3)) 35 36 ∷ symbol (Ident) 37 39 ∷ symbol (Ident) 40 47 ∷ symbol (Ident) 47 48 ∷ symbol (Ident) 49 54 ∷ symbol (Ident) 55 56 ∷ symbol (Ident) 57 59 ∷ symbol (Ident) 60 61 ∷ symbol (Ident) 62 65 ∷ symbol (Ident) 66 67 ∷ symbol (Ident) 67 68 ∷ []) }; tree = record { module_word = 0; name = 1; semicolon = 0; imports = None; decls = (S.decls None None (Some (record { var_word = 0; each = (record { names = (record { first = (record { name = 4; star = None }); more = [] }); colon = 0; of = (S.Named (record { name = 6; member = None })); semicolon = 0 } ∷ record { names = (record { first = (record { name = 8; star = None }); more = [] }); colon = 0; of = (S.Array 10 (S.only (S.simple None (S.term (S.Int 11) S.no_factor) S.no_term)) S.no_expression 0 (S.Named (record { name = 13; member = None }))); semicolon = 0 } ∷ []) })) S.no_procedure); body = (Some (record { begin_word = 0; stats = (S.stats (S.AssignOrCall (record { name = 16; selectors = S.no_selector }) (Some (record { becomes = 0; value = (S.only (S.simple None (S.term (S.Designated 18 S.no_selector) S.no_factor) S.no_term)) }))) S.no_stat) })); end_word = 0; end_name = 20; period = 0 } }

pub type_mismatch_53 : checked (type_mismatch_53_0 ∷ []) ≡ Fault 0 31 60
type_mismatch_53 = refl

-- MODULE M; VAR i: INTEGER; b: BOOLEAN; a: ARRAY 3 OF INTEGER; BEGIN i := a[b] END M.
abbrev type_mismatch_54_0 : Parsed
type_mismatch_54_0 = record { source = record { bytes = (77 ∷ 79 ∷ 68 ∷ 85 ∷ 76 ∷ 69 ∷ 32 ∷ 77 ∷ 59 ∷ 32 ∷ 86 ∷ 65 ∷ 82 ∷ 32 ∷ 105 ∷ 58 ∷ 32 ∷ 73 ∷ 78 ∷ 84 ∷ 69 ∷ 71 ∷ 69 ∷ 82 ∷ 59 ∷ 32 ∷ 98 ∷ 58 ∷ 32 ∷ 66 ∷ 79 ∷ 79 ∷ 76 ∷ 69 ∷ 65 ∷ 78 ∷ 59 ∷ 32 ∷ 97 ∷ 58 ∷ 32 ∷ 65 ∷ 82 ∷ 82 ∷ 65 ∷ 89 ∷ 32 ∷ 51 ∷ 32 ∷ 79 ∷ 70 ∷ 32 ∷ 73 ∷ 78 ∷ 84 ∷ 69 ∷ 71 ∷ 69 ∷ 82 ∷ 59 ∷ 32 ∷ 66 ∷ 69 ∷ 71 ∷ 73 ∷ 78 ∷ 32 ∷ 105 ∷ 32 ∷ 58 ∷ 61 ∷ 32 ∷ 97 ∷ 91 ∷ 98 ∷ 93 ∷ 32 ∷ 69 ∷ 78 ∷ 68 ∷ 32 ∷ 77 ∷ 46 ∷ []); symbols = (symbol (Ident) 0 6 ∷ symbol (Ident) 7 8 ∷ symbol (Ident) 8 9 ∷ symbol (Ident) 10 13 ∷ symbol (Ident) 14 15 ∷ symbol (Ident) 15 16 ∷ symbol (Ident) 17 24 ∷ symbol (Ident) 24 25 ∷ symbol (Ident) 26 27 ∷ symbol (Ident) 27 28 ∷ symbol (Ident) 29 36 ∷ symbol (Ident) 36 37 ∷ symbol (Ident) 38 39 ∷ symbol (Ident) 39 40 ∷ symbol (Ident) 41 46 ∷ symbol (Int (pos 3)) 47 48 ∷ symbol (Ident) 49 51 ∷ symbol (Ident) 52 59 ∷ symbol (Ident) 59 60 ∷ symbol (Ident) 61 66 ∷ symbol (Ident) 67 68 ∷ symbol (Ident) 69 71 ∷ symbol (Ident) 72 73 ∷ symbol (Ident) 73 74 ∷ symbol (Ident) 74 75 ∷ symbol (Ident) 75 76 ∷ symbol (Ident) 77 80 ∷ symbol (Ident) 81 82 ∷ symbol (Ident) 82 83 ∷ []) }; tree = record { module_word = 0; name = 1; semicolon = 0; imports = None; decls = (S.decls None None (Some (record { var_word = 0; each = (record { names = (record { first = (record { name = 4; star = None }); more = [] }); colon = 0; of = (S.Named (record { name = 6; member = None })); semicolon = 0 } ∷ record { names = (record { first = (record { name = 8; star = None }); more = [] }); colon = 0; of = (S.Named (record { name = 10; member = None })); semicolon = 0 } ∷ record { names = (record { first = (record { name = 12; star = None }); more = [] }); colon = 0; of = (S.Array 14 (S.only (S.simple None (S.term (S.Int 15) S.no_factor) S.no_term)) S.no_expression 0 (S.Named (record { name = 17; member = None }))); semicolon = 0 } ∷ []) })) S.no_procedure); body = (Some (record { begin_word = 0; stats = (S.stats (S.AssignOrCall (record { name = 20; selectors = S.no_selector }) (Some (record { becomes = 0; value = (S.only (S.simple None (S.term (S.Designated 22 (S.selected (S.Index 0 (S.expressions (S.only (S.simple None (S.term (S.Designated 24 S.no_selector) S.no_factor) S.no_term)) S.no_expression) 0) S.no_selector)) S.no_factor) S.no_term)) }))) S.no_stat) })); end_word = 0; end_name = 27; period = 0 } }

pub type_mismatch_54 : checked (type_mismatch_54_0 ∷ []) ≡ Fault 0 31 74
type_mismatch_54 = refl

-- MODULE M; VAR i: INTEGER; BEGIN i := i[0] END M.
abbrev type_mismatch_55_0 : Parsed
type_mismatch_55_0 = record { source = record { bytes = (77 ∷ 79 ∷ 68 ∷ 85 ∷ 76 ∷ 69 ∷ 32 ∷ 77 ∷ 59 ∷ 32 ∷ 86 ∷ 65 ∷ 82 ∷ 32 ∷ 105 ∷ 58 ∷ 32 ∷ 73 ∷ 78 ∷ 84 ∷ 69 ∷ 71 ∷ 69 ∷ 82 ∷ 59 ∷ 32 ∷ 66 ∷ 69 ∷ 71 ∷ 73 ∷ 78 ∷ 32 ∷ 105 ∷ 32 ∷ 58 ∷ 61 ∷ 32 ∷ 105 ∷ 91 ∷ 48 ∷ 93 ∷ 32 ∷ 69 ∷ 78 ∷ 68 ∷ 32 ∷ 77 ∷ 46 ∷ []); symbols = (symbol (Ident) 0 6 ∷ symbol (Ident) 7 8 ∷ symbol (Ident) 8 9 ∷ symbol (Ident) 10 13 ∷ symbol (Ident) 14 15 ∷ symbol (Ident) 15 16 ∷ symbol (Ident) 17 24 ∷ symbol (Ident) 24 25 ∷ symbol (Ident) 26 31 ∷ symbol (Ident) 32 33 ∷ symbol (Ident) 34 36 ∷ symbol (Ident) 37 38 ∷ symbol (Ident) 38 39 ∷ symbol (Int (pos 0)) 39 40 ∷ symbol (Ident) 40 41 ∷ symbol (Ident) 42 45 ∷ symbol (Ident) 46 47 ∷ symbol (Ident) 47 48 ∷ []) }; tree = record { module_word = 0; name = 1; semicolon = 0; imports = None; decls = (S.decls None None (Some (record { var_word = 0; each = (record { names = (record { first = (record { name = 4; star = None }); more = [] }); colon = 0; of = (S.Named (record { name = 6; member = None })); semicolon = 0 } ∷ []) })) S.no_procedure); body = (Some (record { begin_word = 0; stats = (S.stats (S.AssignOrCall (record { name = 9; selectors = S.no_selector }) (Some (record { becomes = 0; value = (S.only (S.simple None (S.term (S.Designated 11 (S.selected (S.Index 0 (S.expressions (S.only (S.simple None (S.term (S.Int 13) S.no_factor) S.no_term)) S.no_expression) 0) S.no_selector)) S.no_factor) S.no_term)) }))) S.no_stat) })); end_word = 0; end_name = 16; period = 0 } }

pub type_mismatch_55 : checked (type_mismatch_55_0 ∷ []) ≡ Fault 0 31 37
type_mismatch_55 = refl

-- MODULE M; TYPE R = RECORD x: INTEGER; y*: CHAR END; VAR i: INTEGER; r: R; BEGIN i := r[0] END M.
abbrev type_mismatch_56_0 : Parsed
type_mismatch_56_0 = record { source = record { bytes = (77 ∷ 79 ∷ 68 ∷ 85 ∷ 76 ∷ 69 ∷ 32 ∷ 77 ∷ 59 ∷ 32 ∷ 84 ∷ 89 ∷ 80 ∷ 69 ∷ 32 ∷ 82 ∷ 32 ∷ 61 ∷ 32 ∷ 82 ∷ 69 ∷ 67 ∷ 79 ∷ 82 ∷ 68 ∷ 32 ∷ 120 ∷ 58 ∷ 32 ∷ 73 ∷ 78 ∷ 84 ∷ 69 ∷ 71 ∷ 69 ∷ 82 ∷ 59 ∷ 32 ∷ 121 ∷ 42 ∷ 58 ∷ 32 ∷ 67 ∷ 72 ∷ 65 ∷ 82 ∷ 32 ∷ 69 ∷ 78 ∷ 68 ∷ 59 ∷ 32 ∷ 86 ∷ 65 ∷ 82 ∷ 32 ∷ 105 ∷ 58 ∷ 32 ∷ 73 ∷ 78 ∷ 84 ∷ 69 ∷ 71 ∷ 69 ∷ 82 ∷ 59 ∷ 32 ∷ 114 ∷ 58 ∷ 32 ∷ 82 ∷ 59 ∷ 32 ∷ 66 ∷ 69 ∷ 71 ∷ 73 ∷ 78 ∷ 32 ∷ 105 ∷ 32 ∷ 58 ∷ 61 ∷ 32 ∷ 114 ∷ 91 ∷ 48 ∷ 93 ∷ 32 ∷ 69 ∷ 78 ∷ 68 ∷ 32 ∷ 77 ∷ 46 ∷ []); symbols = (symbol (Ident) 0 6 ∷ symbol (Ident) 7 8 ∷ symbol (Ident) 8 9 ∷ symbol (Ident) 10 14 ∷ symbol (Ident) 15 16 ∷ symbol (Ident) 17 18 ∷ symbol (Ident) 19 25 ∷ symbol (Ident) 26 27 ∷ symbol (Ident) 27 28 ∷ symbol (Ident) 29 36 ∷ symbol (Ident) 36 37 ∷ symbol (Ident) 38 39 ∷ symbol (Ident) 39 40 ∷ symbol (Ident) 40 41 ∷ symbol (Ident) 42 46 ∷ symbol (Ident) 47 50 ∷ symbol (Ident) 50 51 ∷ symbol (Ident) 52 55 ∷ symbol (Ident) 56 57 ∷ symbol (Ident) 57 58 ∷ symbol (Ident) 59 66 ∷ symbol (Ident) 66 67 ∷ symbol (Ident) 68 69 ∷ symbol (Ident) 69 70 ∷ symbol (Ident) 71 72 ∷ symbol (Ident) 72 73 ∷ symbol (Ident) 74 79 ∷ symbol (Ident) 80 81 ∷ symbol (Ident) 82 84 ∷ symbol (Ident) 85 86 ∷ symbol (Ident) 86 87 ∷ symbol (Int (pos 0)) 87 88 ∷ symbol (Ident) 88 89 ∷ symbol (Ident) 90 93 ∷ symbol (Ident) 94 95 ∷ symbol (Ident) 95 96 ∷ []) }; tree = record { module_word = 0; name = 1; semicolon = 0; imports = None; decls = (S.decls None (Some (record { type_word = 0; each = (record { name = (record { name = 4; star = None }); equal = 0; is = (S.Record 6 None (S.fields (record { first = (record { name = 7; star = None }); more = [] }) 0 (S.Named (record { name = 9; member = None }))) (S.next_fields 0 (S.fields (record { first = (record { name = 11; star = Some 0 }); more = [] }) 0 (S.Named (record { name = 14; member = None }))) S.no_more_fields) 0); semicolon = 0 } ∷ []) })) (Some (record { var_word = 0; each = (record { names = (record { first = (record { name = 18; star = None }); more = [] }); colon = 0; of = (S.Named (record { name = 20; member = None })); semicolon = 0 } ∷ record { names = (record { first = (record { name = 22; star = None }); more = [] }); colon = 0; of = (S.Named (record { name = 24; member = None })); semicolon = 0 } ∷ []) })) S.no_procedure); body = (Some (record { begin_word = 0; stats = (S.stats (S.AssignOrCall (record { name = 27; selectors = S.no_selector }) (Some (record { becomes = 0; value = (S.only (S.simple None (S.term (S.Designated 29 (S.selected (S.Index 0 (S.expressions (S.only (S.simple None (S.term (S.Int 31) S.no_factor) S.no_term)) S.no_expression) 0) S.no_selector)) S.no_factor) S.no_term)) }))) S.no_stat) })); end_word = 0; end_name = 34; period = 0 } }

pub type_mismatch_56 : checked (type_mismatch_56_0 ∷ []) ≡ Fault 0 31 85
type_mismatch_56 = refl

-- MODULE M; VAR i: INTEGER; BEGIN i := i.x END M.
abbrev type_mismatch_57_0 : Parsed
type_mismatch_57_0 = record { source = record { bytes = (77 ∷ 79 ∷ 68 ∷ 85 ∷ 76 ∷ 69 ∷ 32 ∷ 77 ∷ 59 ∷ 32 ∷ 86 ∷ 65 ∷ 82 ∷ 32 ∷ 105 ∷ 58 ∷ 32 ∷ 73 ∷ 78 ∷ 84 ∷ 69 ∷ 71 ∷ 69 ∷ 82 ∷ 59 ∷ 32 ∷ 66 ∷ 69 ∷ 71 ∷ 73 ∷ 78 ∷ 32 ∷ 105 ∷ 32 ∷ 58 ∷ 61 ∷ 32 ∷ 105 ∷ 46 ∷ 120 ∷ 32 ∷ 69 ∷ 78 ∷ 68 ∷ 32 ∷ 77 ∷ 46 ∷ []); symbols = (symbol (Ident) 0 6 ∷ symbol (Ident) 7 8 ∷ symbol (Ident) 8 9 ∷ symbol (Ident) 10 13 ∷ symbol (Ident) 14 15 ∷ symbol (Ident) 15 16 ∷ symbol (Ident) 17 24 ∷ symbol (Ident) 24 25 ∷ symbol (Ident) 26 31 ∷ symbol (Ident) 32 33 ∷ symbol (Ident) 34 36 ∷ symbol (Ident) 37 38 ∷ symbol (Ident) 38 39 ∷ symbol (Ident) 39 40 ∷ symbol (Ident) 41 44 ∷ symbol (Ident) 45 46 ∷ symbol (Ident) 46 47 ∷ []) }; tree = record { module_word = 0; name = 1; semicolon = 0; imports = None; decls = (S.decls None None (Some (record { var_word = 0; each = (record { names = (record { first = (record { name = 4; star = None }); more = [] }); colon = 0; of = (S.Named (record { name = 6; member = None })); semicolon = 0 } ∷ []) })) S.no_procedure); body = (Some (record { begin_word = 0; stats = (S.stats (S.AssignOrCall (record { name = 9; selectors = S.no_selector }) (Some (record { becomes = 0; value = (S.only (S.simple None (S.term (S.Designated 11 (S.selected (S.Field 0 13) S.no_selector)) S.no_factor) S.no_term)) }))) S.no_stat) })); end_word = 0; end_name = 15; period = 0 } }

pub type_mismatch_57 : checked (type_mismatch_57_0 ∷ []) ≡ Fault 0 31 37
type_mismatch_57 = refl

-- MODULE M; VAR i: INTEGER; a: ARRAY 3 OF INTEGER; BEGIN i := a.x END M.
abbrev type_mismatch_58_0 : Parsed
type_mismatch_58_0 = record { source = record { bytes = (77 ∷ 79 ∷ 68 ∷ 85 ∷ 76 ∷ 69 ∷ 32 ∷ 77 ∷ 59 ∷ 32 ∷ 86 ∷ 65 ∷ 82 ∷ 32 ∷ 105 ∷ 58 ∷ 32 ∷ 73 ∷ 78 ∷ 84 ∷ 69 ∷ 71 ∷ 69 ∷ 82 ∷ 59 ∷ 32 ∷ 97 ∷ 58 ∷ 32 ∷ 65 ∷ 82 ∷ 82 ∷ 65 ∷ 89 ∷ 32 ∷ 51 ∷ 32 ∷ 79 ∷ 70 ∷ 32 ∷ 73 ∷ 78 ∷ 84 ∷ 69 ∷ 71 ∷ 69 ∷ 82 ∷ 59 ∷ 32 ∷ 66 ∷ 69 ∷ 71 ∷ 73 ∷ 78 ∷ 32 ∷ 105 ∷ 32 ∷ 58 ∷ 61 ∷ 32 ∷ 97 ∷ 46 ∷ 120 ∷ 32 ∷ 69 ∷ 78 ∷ 68 ∷ 32 ∷ 77 ∷ 46 ∷ []); symbols = (symbol (Ident) 0 6 ∷ symbol (Ident) 7 8 ∷ symbol (Ident) 8 9 ∷ symbol (Ident) 10 13 ∷ symbol (Ident) 14 15 ∷ symbol (Ident) 15 16 ∷ symbol (Ident) 17 24 ∷ symbol (Ident) 24 25 ∷ symbol (Ident) 26 27 ∷ symbol (Ident) 27 28 ∷ symbol (Ident) 29 34 ∷ symbol (Int (pos 3)) 35 36 ∷ symbol (Ident) 37 39 ∷ symbol (Ident) 40 47 ∷ symbol (Ident) 47 48 ∷ symbol (Ident) 49 54 ∷ symbol (Ident) 55 56 ∷ symbol (Ident) 57 59 ∷ symbol (Ident) 60 61 ∷ symbol (Ident) 61 62 ∷ symbol (Ident) 62 63 ∷ symbol (Ident) 64 67 ∷ symbol (Ident) 68 69 ∷ symbol (Ident) 69 70 ∷ []) }; tree = record { module_word = 0; name = 1; semicolon = 0; imports = None; decls = (S.decls None None (Some (record { var_word = 0; each = (record { names = (record { first = (record { name = 4; star = None }); more = [] }); colon = 0; of = (S.Named (record { name = 6; member = None })); semicolon = 0 } ∷ record { names = (record { first = (record { name = 8; star = None }); more = [] }); colon = 0; of = (S.Array 10 (S.only (S.simple None (S.term (S.Int 11) S.no_factor) S.no_term)) S.no_expression 0 (S.Named (record { name = 13; member = None }))); semicolon = 0 } ∷ []) })) S.no_procedure); body = (Some (record { begin_word = 0; stats = (S.stats (S.AssignOrCall (record { name = 16; selectors = S.no_selector }) (Some (record { becomes = 0; value = (S.only (S.simple None (S.term (S.Designated 18 (S.selected (S.Field 0 20) S.no_selector)) S.no_factor) S.no_term)) }))) S.no_stat) })); end_word = 0; end_name = 22; period = 0 } }

pub type_mismatch_58 : checked (type_mismatch_58_0 ∷ []) ≡ Fault 0 31 60
type_mismatch_58 = refl

-- MODULE M; TYPE R = RECORD x: INTEGER; y*: CHAR END; VAR i: INTEGER; r: R; BEGIN i := r^ END M.
abbrev type_mismatch_59_0 : Parsed
type_mismatch_59_0 = record { source = record { bytes = (77 ∷ 79 ∷ 68 ∷ 85 ∷ 76 ∷ 69 ∷ 32 ∷ 77 ∷ 59 ∷ 32 ∷ 84 ∷ 89 ∷ 80 ∷ 69 ∷ 32 ∷ 82 ∷ 32 ∷ 61 ∷ 32 ∷ 82 ∷ 69 ∷ 67 ∷ 79 ∷ 82 ∷ 68 ∷ 32 ∷ 120 ∷ 58 ∷ 32 ∷ 73 ∷ 78 ∷ 84 ∷ 69 ∷ 71 ∷ 69 ∷ 82 ∷ 59 ∷ 32 ∷ 121 ∷ 42 ∷ 58 ∷ 32 ∷ 67 ∷ 72 ∷ 65 ∷ 82 ∷ 32 ∷ 69 ∷ 78 ∷ 68 ∷ 59 ∷ 32 ∷ 86 ∷ 65 ∷ 82 ∷ 32 ∷ 105 ∷ 58 ∷ 32 ∷ 73 ∷ 78 ∷ 84 ∷ 69 ∷ 71 ∷ 69 ∷ 82 ∷ 59 ∷ 32 ∷ 114 ∷ 58 ∷ 32 ∷ 82 ∷ 59 ∷ 32 ∷ 66 ∷ 69 ∷ 71 ∷ 73 ∷ 78 ∷ 32 ∷ 105 ∷ 32 ∷ 58 ∷ 61 ∷ 32 ∷ 114 ∷ 94 ∷ 32 ∷ 69 ∷ 78 ∷ 68 ∷ 32 ∷ 77 ∷ 46 ∷ []); symbols = (symbol (Ident) 0 6 ∷ symbol (Ident) 7 8 ∷ symbol (Ident) 8 9 ∷ symbol (Ident) 10 14 ∷ symbol (Ident) 15 16 ∷ symbol (Ident) 17 18 ∷ symbol (Ident) 19 25 ∷ symbol (Ident) 26 27 ∷ symbol (Ident) 27 28 ∷ symbol (Ident) 29 36 ∷ symbol (Ident) 36 37 ∷ symbol (Ident) 38 39 ∷ symbol (Ident) 39 40 ∷ symbol (Ident) 40 41 ∷ symbol (Ident) 42 46 ∷ symbol (Ident) 47 50 ∷ symbol (Ident) 50 51 ∷ symbol (Ident) 52 55 ∷ symbol (Ident) 56 57 ∷ symbol (Ident) 57 58 ∷ symbol (Ident) 59 66 ∷ symbol (Ident) 66 67 ∷ symbol (Ident) 68 69 ∷ symbol (Ident) 69 70 ∷ symbol (Ident) 71 72 ∷ symbol (Ident) 72 73 ∷ symbol (Ident) 74 79 ∷ symbol (Ident) 80 81 ∷ symbol (Ident) 82 84 ∷ symbol (Ident) 85 86 ∷ symbol (Ident) 86 87 ∷ symbol (Ident) 88 91 ∷ symbol (Ident) 92 93 ∷ symbol (Ident) 93 94 ∷ []) }; tree = record { module_word = 0; name = 1; semicolon = 0; imports = None; decls = (S.decls None (Some (record { type_word = 0; each = (record { name = (record { name = 4; star = None }); equal = 0; is = (S.Record 6 None (S.fields (record { first = (record { name = 7; star = None }); more = [] }) 0 (S.Named (record { name = 9; member = None }))) (S.next_fields 0 (S.fields (record { first = (record { name = 11; star = Some 0 }); more = [] }) 0 (S.Named (record { name = 14; member = None }))) S.no_more_fields) 0); semicolon = 0 } ∷ []) })) (Some (record { var_word = 0; each = (record { names = (record { first = (record { name = 18; star = None }); more = [] }); colon = 0; of = (S.Named (record { name = 20; member = None })); semicolon = 0 } ∷ record { names = (record { first = (record { name = 22; star = None }); more = [] }); colon = 0; of = (S.Named (record { name = 24; member = None })); semicolon = 0 } ∷ []) })) S.no_procedure); body = (Some (record { begin_word = 0; stats = (S.stats (S.AssignOrCall (record { name = 27; selectors = S.no_selector }) (Some (record { becomes = 0; value = (S.only (S.simple None (S.term (S.Designated 29 (S.selected (S.Arrow 0) S.no_selector)) S.no_factor) S.no_term)) }))) S.no_stat) })); end_word = 0; end_name = 32; period = 0 } }

pub type_mismatch_59 : checked (type_mismatch_59_0 ∷ []) ≡ Fault 0 31 85
type_mismatch_59 = refl

-- MODULE M; VAR i: INTEGER; BEGIN i := i^ END M.
abbrev type_mismatch_60_0 : Parsed
type_mismatch_60_0 = record { source = record { bytes = (77 ∷ 79 ∷ 68 ∷ 85 ∷ 76 ∷ 69 ∷ 32 ∷ 77 ∷ 59 ∷ 32 ∷ 86 ∷ 65 ∷ 82 ∷ 32 ∷ 105 ∷ 58 ∷ 32 ∷ 73 ∷ 78 ∷ 84 ∷ 69 ∷ 71 ∷ 69 ∷ 82 ∷ 59 ∷ 32 ∷ 66 ∷ 69 ∷ 71 ∷ 73 ∷ 78 ∷ 32 ∷ 105 ∷ 32 ∷ 58 ∷ 61 ∷ 32 ∷ 105 ∷ 94 ∷ 32 ∷ 69 ∷ 78 ∷ 68 ∷ 32 ∷ 77 ∷ 46 ∷ []); symbols = (symbol (Ident) 0 6 ∷ symbol (Ident) 7 8 ∷ symbol (Ident) 8 9 ∷ symbol (Ident) 10 13 ∷ symbol (Ident) 14 15 ∷ symbol (Ident) 15 16 ∷ symbol (Ident) 17 24 ∷ symbol (Ident) 24 25 ∷ symbol (Ident) 26 31 ∷ symbol (Ident) 32 33 ∷ symbol (Ident) 34 36 ∷ symbol (Ident) 37 38 ∷ symbol (Ident) 38 39 ∷ symbol (Ident) 40 43 ∷ symbol (Ident) 44 45 ∷ symbol (Ident) 45 46 ∷ []) }; tree = record { module_word = 0; name = 1; semicolon = 0; imports = None; decls = (S.decls None None (Some (record { var_word = 0; each = (record { names = (record { first = (record { name = 4; star = None }); more = [] }); colon = 0; of = (S.Named (record { name = 6; member = None })); semicolon = 0 } ∷ []) })) S.no_procedure); body = (Some (record { begin_word = 0; stats = (S.stats (S.AssignOrCall (record { name = 9; selectors = S.no_selector }) (Some (record { becomes = 0; value = (S.only (S.simple None (S.term (S.Designated 11 (S.selected (S.Arrow 0) S.no_selector)) S.no_factor) S.no_term)) }))) S.no_stat) })); end_word = 0; end_name = 14; period = 0 } }

pub type_mismatch_60 : checked (type_mismatch_60_0 ∷ []) ≡ Fault 0 31 37
type_mismatch_60 = refl

-- MODULE M; VAR i: INTEGER; m: ARRAY 2, 3 OF INTEGER; BEGIN i := m[0] END M.
abbrev type_mismatch_61_0 : Parsed
type_mismatch_61_0 = record { source = record { bytes = (77 ∷ 79 ∷ 68 ∷ 85 ∷ 76 ∷ 69 ∷ 32 ∷ 77 ∷ 59 ∷ 32 ∷ 86 ∷ 65 ∷ 82 ∷ 32 ∷ 105 ∷ 58 ∷ 32 ∷ 73 ∷ 78 ∷ 84 ∷ 69 ∷ 71 ∷ 69 ∷ 82 ∷ 59 ∷ 32 ∷ 109 ∷ 58 ∷ 32 ∷ 65 ∷ 82 ∷ 82 ∷ 65 ∷ 89 ∷ 32 ∷ 50 ∷ 44 ∷ 32 ∷ 51 ∷ 32 ∷ 79 ∷ 70 ∷ 32 ∷ 73 ∷ 78 ∷ 84 ∷ 69 ∷ 71 ∷ 69 ∷ 82 ∷ 59 ∷ 32 ∷ 66 ∷ 69 ∷ 71 ∷ 73 ∷ 78 ∷ 32 ∷ 105 ∷ 32 ∷ 58 ∷ 61 ∷ 32 ∷ 109 ∷ 91 ∷ 48 ∷ 93 ∷ 32 ∷ 69 ∷ 78 ∷ 68 ∷ 32 ∷ 77 ∷ 46 ∷ []); symbols = (symbol (Ident) 0 6 ∷ symbol (Ident) 7 8 ∷ symbol (Ident) 8 9 ∷ symbol (Ident) 10 13 ∷ symbol (Ident) 14 15 ∷ symbol (Ident) 15 16 ∷ symbol (Ident) 17 24 ∷ symbol (Ident) 24 25 ∷ symbol (Ident) 26 27 ∷ symbol (Ident) 27 28 ∷ symbol (Ident) 29 34 ∷ symbol (Int (pos 2)) 35 36 ∷ symbol (Ident) 36 37 ∷ symbol (Int (pos 3)) 38 39 ∷ symbol (Ident) 40 42 ∷ symbol (Ident) 43 50 ∷ symbol (Ident) 50 51 ∷ symbol (Ident) 52 57 ∷ symbol (Ident) 58 59 ∷ symbol (Ident) 60 62 ∷ symbol (Ident) 63 64 ∷ symbol (Ident) 64 65 ∷ symbol (Int (pos 0)) 65 66 ∷ symbol (Ident) 66 67 ∷ symbol (Ident) 68 71 ∷ symbol (Ident) 72 73 ∷ symbol (Ident) 73 74 ∷ []) }; tree = record { module_word = 0; name = 1; semicolon = 0; imports = None; decls = (S.decls None None (Some (record { var_word = 0; each = (record { names = (record { first = (record { name = 4; star = None }); more = [] }); colon = 0; of = (S.Named (record { name = 6; member = None })); semicolon = 0 } ∷ record { names = (record { first = (record { name = 8; star = None }); more = [] }); colon = 0; of = (S.Array 10 (S.only (S.simple None (S.term (S.Int 11) S.no_factor) S.no_term)) (S.next_expression 0 (S.only (S.simple None (S.term (S.Int 13) S.no_factor) S.no_term)) S.no_expression) 0 (S.Named (record { name = 15; member = None }))); semicolon = 0 } ∷ []) })) S.no_procedure); body = (Some (record { begin_word = 0; stats = (S.stats (S.AssignOrCall (record { name = 18; selectors = S.no_selector }) (Some (record { becomes = 0; value = (S.only (S.simple None (S.term (S.Designated 20 (S.selected (S.Index 0 (S.expressions (S.only (S.simple None (S.term (S.Int 22) S.no_factor) S.no_term)) S.no_expression) 0) S.no_selector)) S.no_factor) S.no_term)) }))) S.no_stat) })); end_word = 0; end_name = 25; period = 0 } }

pub type_mismatch_61 : checked (type_mismatch_61_0 ∷ []) ≡ Fault 0 31 63
type_mismatch_61 = refl

-- MODULE M; VAR i: INTEGER; m: ARRAY 2, 3 OF INTEGER; BEGIN i := m[0, 0, 0] END M.
abbrev type_mismatch_62_0 : Parsed
type_mismatch_62_0 = record { source = record { bytes = (77 ∷ 79 ∷ 68 ∷ 85 ∷ 76 ∷ 69 ∷ 32 ∷ 77 ∷ 59 ∷ 32 ∷ 86 ∷ 65 ∷ 82 ∷ 32 ∷ 105 ∷ 58 ∷ 32 ∷ 73 ∷ 78 ∷ 84 ∷ 69 ∷ 71 ∷ 69 ∷ 82 ∷ 59 ∷ 32 ∷ 109 ∷ 58 ∷ 32 ∷ 65 ∷ 82 ∷ 82 ∷ 65 ∷ 89 ∷ 32 ∷ 50 ∷ 44 ∷ 32 ∷ 51 ∷ 32 ∷ 79 ∷ 70 ∷ 32 ∷ 73 ∷ 78 ∷ 84 ∷ 69 ∷ 71 ∷ 69 ∷ 82 ∷ 59 ∷ 32 ∷ 66 ∷ 69 ∷ 71 ∷ 73 ∷ 78 ∷ 32 ∷ 105 ∷ 32 ∷ 58 ∷ 61 ∷ 32 ∷ 109 ∷ 91 ∷ 48 ∷ 44 ∷ 32 ∷ 48 ∷ 44 ∷ 32 ∷ 48 ∷ 93 ∷ 32 ∷ 69 ∷ 78 ∷ 68 ∷ 32 ∷ 77 ∷ 46 ∷ []); symbols = (symbol (Ident) 0 6 ∷ symbol (Ident) 7 8 ∷ symbol (Ident) 8 9 ∷ symbol (Ident) 10 13 ∷ symbol (Ident) 14 15 ∷ symbol (Ident) 15 16 ∷ symbol (Ident) 17 24 ∷ symbol (Ident) 24 25 ∷ symbol (Ident) 26 27 ∷ symbol (Ident) 27 28 ∷ symbol (Ident) 29 34 ∷ symbol (Int (pos 2)) 35 36 ∷ symbol (Ident) 36 37 ∷ symbol (Int (pos 3)) 38 39 ∷ symbol (Ident) 40 42 ∷ symbol (Ident) 43 50 ∷ symbol (Ident) 50 51 ∷ symbol (Ident) 52 57 ∷ symbol (Ident) 58 59 ∷ symbol (Ident) 60 62 ∷ symbol (Ident) 63 64 ∷ symbol (Ident) 64 65 ∷ symbol (Int (pos 0)) 65 66 ∷ symbol (Ident) 66 67 ∷ symbol (Int (pos 0)) 68 69 ∷ symbol (Ident) 69 70 ∷ symbol (Int (pos 0)) 71 72 ∷ symbol (Ident) 72 73 ∷ symbol (Ident) 74 77 ∷ symbol (Ident) 78 79 ∷ symbol (Ident) 79 80 ∷ []) }; tree = record { module_word = 0; name = 1; semicolon = 0; imports = None; decls = (S.decls None None (Some (record { var_word = 0; each = (record { names = (record { first = (record { name = 4; star = None }); more = [] }); colon = 0; of = (S.Named (record { name = 6; member = None })); semicolon = 0 } ∷ record { names = (record { first = (record { name = 8; star = None }); more = [] }); colon = 0; of = (S.Array 10 (S.only (S.simple None (S.term (S.Int 11) S.no_factor) S.no_term)) (S.next_expression 0 (S.only (S.simple None (S.term (S.Int 13) S.no_factor) S.no_term)) S.no_expression) 0 (S.Named (record { name = 15; member = None }))); semicolon = 0 } ∷ []) })) S.no_procedure); body = (Some (record { begin_word = 0; stats = (S.stats (S.AssignOrCall (record { name = 18; selectors = S.no_selector }) (Some (record { becomes = 0; value = (S.only (S.simple None (S.term (S.Designated 20 (S.selected (S.Index 0 (S.expressions (S.only (S.simple None (S.term (S.Int 22) S.no_factor) S.no_term)) (S.next_expression 0 (S.only (S.simple None (S.term (S.Int 24) S.no_factor) S.no_term)) (S.next_expression 0 (S.only (S.simple None (S.term (S.Int 26) S.no_factor) S.no_term)) S.no_expression))) 0) S.no_selector)) S.no_factor) S.no_term)) }))) S.no_stat) })); end_word = 0; end_name = 29; period = 0 } }

pub type_mismatch_62 : checked (type_mismatch_62_0 ∷ []) ≡ Fault 0 31 63
type_mismatch_62 = refl

-- MODULE M; VAR i: INTEGER; b: BOOLEAN; c: CHAR; m: ARRAY 2, 3 OF INTEGER; BEGIN i := m[b, c] END M.
abbrev type_mismatch_63_0 : Parsed
type_mismatch_63_0 = record { source = record { bytes = (77 ∷ 79 ∷ 68 ∷ 85 ∷ 76 ∷ 69 ∷ 32 ∷ 77 ∷ 59 ∷ 32 ∷ 86 ∷ 65 ∷ 82 ∷ 32 ∷ 105 ∷ 58 ∷ 32 ∷ 73 ∷ 78 ∷ 84 ∷ 69 ∷ 71 ∷ 69 ∷ 82 ∷ 59 ∷ 32 ∷ 98 ∷ 58 ∷ 32 ∷ 66 ∷ 79 ∷ 79 ∷ 76 ∷ 69 ∷ 65 ∷ 78 ∷ 59 ∷ 32 ∷ 99 ∷ 58 ∷ 32 ∷ 67 ∷ 72 ∷ 65 ∷ 82 ∷ 59 ∷ 32 ∷ 109 ∷ 58 ∷ 32 ∷ 65 ∷ 82 ∷ 82 ∷ 65 ∷ 89 ∷ 32 ∷ 50 ∷ 44 ∷ 32 ∷ 51 ∷ 32 ∷ 79 ∷ 70 ∷ 32 ∷ 73 ∷ 78 ∷ 84 ∷ 69 ∷ 71 ∷ 69 ∷ 82 ∷ 59 ∷ 32 ∷ 66 ∷ 69 ∷ 71 ∷ 73 ∷ 78 ∷ 32 ∷ 105 ∷ 32 ∷ 58 ∷ 61 ∷ 32 ∷ 109 ∷ 91 ∷ 98 ∷ 44 ∷ 32 ∷ 99 ∷ 93 ∷ 32 ∷ 69 ∷ 78 ∷ 68 ∷ 32 ∷ 77 ∷ 46 ∷ []); symbols = (symbol (Ident) 0 6 ∷ symbol (Ident) 7 8 ∷ symbol (Ident) 8 9 ∷ symbol (Ident) 10 13 ∷ symbol (Ident) 14 15 ∷ symbol (Ident) 15 16 ∷ symbol (Ident) 17 24 ∷ symbol (Ident) 24 25 ∷ symbol (Ident) 26 27 ∷ symbol (Ident) 27 28 ∷ symbol (Ident) 29 36 ∷ symbol (Ident) 36 37 ∷ symbol (Ident) 38 39 ∷ symbol (Ident) 39 40 ∷ symbol (Ident) 41 45 ∷ symbol (Ident) 45 46 ∷ symbol (Ident) 47 48 ∷ symbol (Ident) 48 49 ∷ symbol (Ident) 50 55 ∷ symbol (Int (pos 2)) 56 57 ∷ symbol (Ident) 57 58 ∷ symbol (Int (pos 3)) 59 60 ∷ symbol (Ident) 61 63 ∷ symbol (Ident) 64 71 ∷ symbol (Ident) 71 72 ∷ symbol (Ident) 73 78 ∷ symbol (Ident) 79 80 ∷ symbol (Ident) 81 83 ∷ symbol (Ident) 84 85 ∷ symbol (Ident) 85 86 ∷ symbol (Ident) 86 87 ∷ symbol (Ident) 87 88 ∷ symbol (Ident) 89 90 ∷ symbol (Ident) 90 91 ∷ symbol (Ident) 92 95 ∷ symbol (Ident) 96 97 ∷ symbol (Ident) 97 98 ∷ []) }; tree = record { module_word = 0; name = 1; semicolon = 0; imports = None; decls = (S.decls None None (Some (record { var_word = 0; each = (record { names = (record { first = (record { name = 4; star = None }); more = [] }); colon = 0; of = (S.Named (record { name = 6; member = None })); semicolon = 0 } ∷ record { names = (record { first = (record { name = 8; star = None }); more = [] }); colon = 0; of = (S.Named (record { name = 10; member = None })); semicolon = 0 } ∷ record { names = (record { first = (record { name = 12; star = None }); more = [] }); colon = 0; of = (S.Named (record { name = 14; member = None })); semicolon = 0 } ∷ record { names = (record { first = (record { name = 16; star = None }); more = [] }); colon = 0; of = (S.Array 18 (S.only (S.simple None (S.term (S.Int 19) S.no_factor) S.no_term)) (S.next_expression 0 (S.only (S.simple None (S.term (S.Int 21) S.no_factor) S.no_term)) S.no_expression) 0 (S.Named (record { name = 23; member = None }))); semicolon = 0 } ∷ []) })) S.no_procedure); body = (Some (record { begin_word = 0; stats = (S.stats (S.AssignOrCall (record { name = 26; selectors = S.no_selector }) (Some (record { becomes = 0; value = (S.only (S.simple None (S.term (S.Designated 28 (S.selected (S.Index 0 (S.expressions (S.only (S.simple None (S.term (S.Designated 30 S.no_selector) S.no_factor) S.no_term)) (S.next_expression 0 (S.only (S.simple None (S.term (S.Designated 32 S.no_selector) S.no_factor) S.no_term)) S.no_expression)) 0) S.no_selector)) S.no_factor) S.no_term)) }))) S.no_stat) })); end_word = 0; end_name = 35; period = 0 } }

pub type_mismatch_63 : checked (type_mismatch_63_0 ∷ []) ≡ Fault 0 31 86
type_mismatch_63 = refl

-- MODULE M; VAR i: INTEGER; BEGIN IF i THEN END END M.
abbrev type_mismatch_64_0 : Parsed
type_mismatch_64_0 = record { source = record { bytes = (77 ∷ 79 ∷ 68 ∷ 85 ∷ 76 ∷ 69 ∷ 32 ∷ 77 ∷ 59 ∷ 32 ∷ 86 ∷ 65 ∷ 82 ∷ 32 ∷ 105 ∷ 58 ∷ 32 ∷ 73 ∷ 78 ∷ 84 ∷ 69 ∷ 71 ∷ 69 ∷ 82 ∷ 59 ∷ 32 ∷ 66 ∷ 69 ∷ 71 ∷ 73 ∷ 78 ∷ 32 ∷ 73 ∷ 70 ∷ 32 ∷ 105 ∷ 32 ∷ 84 ∷ 72 ∷ 69 ∷ 78 ∷ 32 ∷ 69 ∷ 78 ∷ 68 ∷ 32 ∷ 69 ∷ 78 ∷ 68 ∷ 32 ∷ 77 ∷ 46 ∷ []); symbols = (symbol (Ident) 0 6 ∷ symbol (Ident) 7 8 ∷ symbol (Ident) 8 9 ∷ symbol (Ident) 10 13 ∷ symbol (Ident) 14 15 ∷ symbol (Ident) 15 16 ∷ symbol (Ident) 17 24 ∷ symbol (Ident) 24 25 ∷ symbol (Ident) 26 31 ∷ symbol (Ident) 32 34 ∷ symbol (Ident) 35 36 ∷ symbol (Ident) 37 41 ∷ symbol (Ident) 42 45 ∷ symbol (Ident) 46 49 ∷ symbol (Ident) 50 51 ∷ symbol (Ident) 51 52 ∷ []) }; tree = record { module_word = 0; name = 1; semicolon = 0; imports = None; decls = (S.decls None None (Some (record { var_word = 0; each = (record { names = (record { first = (record { name = 4; star = None }); more = [] }); colon = 0; of = (S.Named (record { name = 6; member = None })); semicolon = 0 } ∷ []) })) S.no_procedure); body = (Some (record { begin_word = 0; stats = (S.stats (S.If 0 (S.only (S.simple None (S.term (S.Designated 10 S.no_selector) S.no_factor) S.no_term)) 0 (S.stats S.Empty S.no_stat) S.no_elsif S.no_else 0) S.no_stat) })); end_word = 0; end_name = 14; period = 0 } }

pub type_mismatch_64 : checked (type_mismatch_64_0 ∷ []) ≡ Fault 0 31 35
type_mismatch_64 = refl

-- MODULE M; VAR i: INTEGER; b: BOOLEAN; BEGIN IF b THEN ELSIF i THEN END END M.
abbrev type_mismatch_65_0 : Parsed
type_mismatch_65_0 = record { source = record { bytes = (77 ∷ 79 ∷ 68 ∷ 85 ∷ 76 ∷ 69 ∷ 32 ∷ 77 ∷ 59 ∷ 32 ∷ 86 ∷ 65 ∷ 82 ∷ 32 ∷ 105 ∷ 58 ∷ 32 ∷ 73 ∷ 78 ∷ 84 ∷ 69 ∷ 71 ∷ 69 ∷ 82 ∷ 59 ∷ 32 ∷ 98 ∷ 58 ∷ 32 ∷ 66 ∷ 79 ∷ 79 ∷ 76 ∷ 69 ∷ 65 ∷ 78 ∷ 59 ∷ 32 ∷ 66 ∷ 69 ∷ 71 ∷ 73 ∷ 78 ∷ 32 ∷ 73 ∷ 70 ∷ 32 ∷ 98 ∷ 32 ∷ 84 ∷ 72 ∷ 69 ∷ 78 ∷ 32 ∷ 69 ∷ 76 ∷ 83 ∷ 73 ∷ 70 ∷ 32 ∷ 105 ∷ 32 ∷ 84 ∷ 72 ∷ 69 ∷ 78 ∷ 32 ∷ 69 ∷ 78 ∷ 68 ∷ 32 ∷ 69 ∷ 78 ∷ 68 ∷ 32 ∷ 77 ∷ 46 ∷ []); symbols = (symbol (Ident) 0 6 ∷ symbol (Ident) 7 8 ∷ symbol (Ident) 8 9 ∷ symbol (Ident) 10 13 ∷ symbol (Ident) 14 15 ∷ symbol (Ident) 15 16 ∷ symbol (Ident) 17 24 ∷ symbol (Ident) 24 25 ∷ symbol (Ident) 26 27 ∷ symbol (Ident) 27 28 ∷ symbol (Ident) 29 36 ∷ symbol (Ident) 36 37 ∷ symbol (Ident) 38 43 ∷ symbol (Ident) 44 46 ∷ symbol (Ident) 47 48 ∷ symbol (Ident) 49 53 ∷ symbol (Ident) 54 59 ∷ symbol (Ident) 60 61 ∷ symbol (Ident) 62 66 ∷ symbol (Ident) 67 70 ∷ symbol (Ident) 71 74 ∷ symbol (Ident) 75 76 ∷ symbol (Ident) 76 77 ∷ []) }; tree = record { module_word = 0; name = 1; semicolon = 0; imports = None; decls = (S.decls None None (Some (record { var_word = 0; each = (record { names = (record { first = (record { name = 4; star = None }); more = [] }); colon = 0; of = (S.Named (record { name = 6; member = None })); semicolon = 0 } ∷ record { names = (record { first = (record { name = 8; star = None }); more = [] }); colon = 0; of = (S.Named (record { name = 10; member = None })); semicolon = 0 } ∷ []) })) S.no_procedure); body = (Some (record { begin_word = 0; stats = (S.stats (S.If 0 (S.only (S.simple None (S.term (S.Designated 14 S.no_selector) S.no_factor) S.no_term)) 0 (S.stats S.Empty S.no_stat) (S.next_elsif 0 (S.only (S.simple None (S.term (S.Designated 17 S.no_selector) S.no_factor) S.no_term)) 0 (S.stats S.Empty S.no_stat) S.no_elsif) S.no_else 0) S.no_stat) })); end_word = 0; end_name = 21; period = 0 } }

pub type_mismatch_65 : checked (type_mismatch_65_0 ∷ []) ≡ Fault 0 31 60
type_mismatch_65 = refl

-- MODULE M; VAR i: INTEGER; BEGIN WHILE i DO END END M.
abbrev type_mismatch_66_0 : Parsed
type_mismatch_66_0 = record { source = record { bytes = (77 ∷ 79 ∷ 68 ∷ 85 ∷ 76 ∷ 69 ∷ 32 ∷ 77 ∷ 59 ∷ 32 ∷ 86 ∷ 65 ∷ 82 ∷ 32 ∷ 105 ∷ 58 ∷ 32 ∷ 73 ∷ 78 ∷ 84 ∷ 69 ∷ 71 ∷ 69 ∷ 82 ∷ 59 ∷ 32 ∷ 66 ∷ 69 ∷ 71 ∷ 73 ∷ 78 ∷ 32 ∷ 87 ∷ 72 ∷ 73 ∷ 76 ∷ 69 ∷ 32 ∷ 105 ∷ 32 ∷ 68 ∷ 79 ∷ 32 ∷ 69 ∷ 78 ∷ 68 ∷ 32 ∷ 69 ∷ 78 ∷ 68 ∷ 32 ∷ 77 ∷ 46 ∷ []); symbols = (symbol (Ident) 0 6 ∷ symbol (Ident) 7 8 ∷ symbol (Ident) 8 9 ∷ symbol (Ident) 10 13 ∷ symbol (Ident) 14 15 ∷ symbol (Ident) 15 16 ∷ symbol (Ident) 17 24 ∷ symbol (Ident) 24 25 ∷ symbol (Ident) 26 31 ∷ symbol (Ident) 32 37 ∷ symbol (Ident) 38 39 ∷ symbol (Ident) 40 42 ∷ symbol (Ident) 43 46 ∷ symbol (Ident) 47 50 ∷ symbol (Ident) 51 52 ∷ symbol (Ident) 52 53 ∷ []) }; tree = record { module_word = 0; name = 1; semicolon = 0; imports = None; decls = (S.decls None None (Some (record { var_word = 0; each = (record { names = (record { first = (record { name = 4; star = None }); more = [] }); colon = 0; of = (S.Named (record { name = 6; member = None })); semicolon = 0 } ∷ []) })) S.no_procedure); body = (Some (record { begin_word = 0; stats = (S.stats (S.While 0 (S.only (S.simple None (S.term (S.Designated 10 S.no_selector) S.no_factor) S.no_term)) 0 (S.stats S.Empty S.no_stat) S.no_elsif 0) S.no_stat) })); end_word = 0; end_name = 14; period = 0 } }

pub type_mismatch_66 : checked (type_mismatch_66_0 ∷ []) ≡ Fault 0 31 38
type_mismatch_66 = refl

-- MODULE M; VAR b: BOOLEAN; c: CHAR; BEGIN WHILE b DO ELSIF c DO END END M.
abbrev type_mismatch_67_0 : Parsed
type_mismatch_67_0 = record { source = record { bytes = (77 ∷ 79 ∷ 68 ∷ 85 ∷ 76 ∷ 69 ∷ 32 ∷ 77 ∷ 59 ∷ 32 ∷ 86 ∷ 65 ∷ 82 ∷ 32 ∷ 98 ∷ 58 ∷ 32 ∷ 66 ∷ 79 ∷ 79 ∷ 76 ∷ 69 ∷ 65 ∷ 78 ∷ 59 ∷ 32 ∷ 99 ∷ 58 ∷ 32 ∷ 67 ∷ 72 ∷ 65 ∷ 82 ∷ 59 ∷ 32 ∷ 66 ∷ 69 ∷ 71 ∷ 73 ∷ 78 ∷ 32 ∷ 87 ∷ 72 ∷ 73 ∷ 76 ∷ 69 ∷ 32 ∷ 98 ∷ 32 ∷ 68 ∷ 79 ∷ 32 ∷ 69 ∷ 76 ∷ 83 ∷ 73 ∷ 70 ∷ 32 ∷ 99 ∷ 32 ∷ 68 ∷ 79 ∷ 32 ∷ 69 ∷ 78 ∷ 68 ∷ 32 ∷ 69 ∷ 78 ∷ 68 ∷ 32 ∷ 77 ∷ 46 ∷ []); symbols = (symbol (Ident) 0 6 ∷ symbol (Ident) 7 8 ∷ symbol (Ident) 8 9 ∷ symbol (Ident) 10 13 ∷ symbol (Ident) 14 15 ∷ symbol (Ident) 15 16 ∷ symbol (Ident) 17 24 ∷ symbol (Ident) 24 25 ∷ symbol (Ident) 26 27 ∷ symbol (Ident) 27 28 ∷ symbol (Ident) 29 33 ∷ symbol (Ident) 33 34 ∷ symbol (Ident) 35 40 ∷ symbol (Ident) 41 46 ∷ symbol (Ident) 47 48 ∷ symbol (Ident) 49 51 ∷ symbol (Ident) 52 57 ∷ symbol (Ident) 58 59 ∷ symbol (Ident) 60 62 ∷ symbol (Ident) 63 66 ∷ symbol (Ident) 67 70 ∷ symbol (Ident) 71 72 ∷ symbol (Ident) 72 73 ∷ []) }; tree = record { module_word = 0; name = 1; semicolon = 0; imports = None; decls = (S.decls None None (Some (record { var_word = 0; each = (record { names = (record { first = (record { name = 4; star = None }); more = [] }); colon = 0; of = (S.Named (record { name = 6; member = None })); semicolon = 0 } ∷ record { names = (record { first = (record { name = 8; star = None }); more = [] }); colon = 0; of = (S.Named (record { name = 10; member = None })); semicolon = 0 } ∷ []) })) S.no_procedure); body = (Some (record { begin_word = 0; stats = (S.stats (S.While 0 (S.only (S.simple None (S.term (S.Designated 14 S.no_selector) S.no_factor) S.no_term)) 0 (S.stats S.Empty S.no_stat) (S.next_elsif 0 (S.only (S.simple None (S.term (S.Designated 17 S.no_selector) S.no_factor) S.no_term)) 0 (S.stats S.Empty S.no_stat) S.no_elsif) 0) S.no_stat) })); end_word = 0; end_name = 21; period = 0 } }

pub type_mismatch_67 : checked (type_mismatch_67_0 ∷ []) ≡ Fault 0 31 58
type_mismatch_67 = refl

-- MODULE M; VAR i: INTEGER; BEGIN REPEAT UNTIL i END M.
abbrev type_mismatch_68_0 : Parsed
type_mismatch_68_0 = record { source = record { bytes = (77 ∷ 79 ∷ 68 ∷ 85 ∷ 76 ∷ 69 ∷ 32 ∷ 77 ∷ 59 ∷ 32 ∷ 86 ∷ 65 ∷ 82 ∷ 32 ∷ 105 ∷ 58 ∷ 32 ∷ 73 ∷ 78 ∷ 84 ∷ 69 ∷ 71 ∷ 69 ∷ 82 ∷ 59 ∷ 32 ∷ 66 ∷ 69 ∷ 71 ∷ 73 ∷ 78 ∷ 32 ∷ 82 ∷ 69 ∷ 80 ∷ 69 ∷ 65 ∷ 84 ∷ 32 ∷ 85 ∷ 78 ∷ 84 ∷ 73 ∷ 76 ∷ 32 ∷ 105 ∷ 32 ∷ 69 ∷ 78 ∷ 68 ∷ 32 ∷ 77 ∷ 46 ∷ []); symbols = (symbol (Ident) 0 6 ∷ symbol (Ident) 7 8 ∷ symbol (Ident) 8 9 ∷ symbol (Ident) 10 13 ∷ symbol (Ident) 14 15 ∷ symbol (Ident) 15 16 ∷ symbol (Ident) 17 24 ∷ symbol (Ident) 24 25 ∷ symbol (Ident) 26 31 ∷ symbol (Ident) 32 38 ∷ symbol (Ident) 39 44 ∷ symbol (Ident) 45 46 ∷ symbol (Ident) 47 50 ∷ symbol (Ident) 51 52 ∷ symbol (Ident) 52 53 ∷ []) }; tree = record { module_word = 0; name = 1; semicolon = 0; imports = None; decls = (S.decls None None (Some (record { var_word = 0; each = (record { names = (record { first = (record { name = 4; star = None }); more = [] }); colon = 0; of = (S.Named (record { name = 6; member = None })); semicolon = 0 } ∷ []) })) S.no_procedure); body = (Some (record { begin_word = 0; stats = (S.stats (S.Repeat 0 (S.stats S.Empty S.no_stat) 0 (S.only (S.simple None (S.term (S.Designated 11 S.no_selector) S.no_factor) S.no_term))) S.no_stat) })); end_word = 0; end_name = 13; period = 0 } }

pub type_mismatch_68 : checked (type_mismatch_68_0 ∷ []) ≡ Fault 0 31 45
type_mismatch_68 = refl

-- MODULE M; VAR c: CHAR; BEGIN FOR c := 0 TO 1 DO END END M.
abbrev type_mismatch_69_0 : Parsed
type_mismatch_69_0 = record { source = record { bytes = (77 ∷ 79 ∷ 68 ∷ 85 ∷ 76 ∷ 69 ∷ 32 ∷ 77 ∷ 59 ∷ 32 ∷ 86 ∷ 65 ∷ 82 ∷ 32 ∷ 99 ∷ 58 ∷ 32 ∷ 67 ∷ 72 ∷ 65 ∷ 82 ∷ 59 ∷ 32 ∷ 66 ∷ 69 ∷ 71 ∷ 73 ∷ 78 ∷ 32 ∷ 70 ∷ 79 ∷ 82 ∷ 32 ∷ 99 ∷ 32 ∷ 58 ∷ 61 ∷ 32 ∷ 48 ∷ 32 ∷ 84 ∷ 79 ∷ 32 ∷ 49 ∷ 32 ∷ 68 ∷ 79 ∷ 32 ∷ 69 ∷ 78 ∷ 68 ∷ 32 ∷ 69 ∷ 78 ∷ 68 ∷ 32 ∷ 77 ∷ 46 ∷ []); symbols = (symbol (Ident) 0 6 ∷ symbol (Ident) 7 8 ∷ symbol (Ident) 8 9 ∷ symbol (Ident) 10 13 ∷ symbol (Ident) 14 15 ∷ symbol (Ident) 15 16 ∷ symbol (Ident) 17 21 ∷ symbol (Ident) 21 22 ∷ symbol (Ident) 23 28 ∷ symbol (Ident) 29 32 ∷ symbol (Ident) 33 34 ∷ symbol (Ident) 35 37 ∷ symbol (Int (pos 0)) 38 39 ∷ symbol (Ident) 40 42 ∷ symbol (Int (pos 1)) 43 44 ∷ symbol (Ident) 45 47 ∷ symbol (Ident) 48 51 ∷ symbol (Ident) 52 55 ∷ symbol (Ident) 56 57 ∷ symbol (Ident) 57 58 ∷ []) }; tree = record { module_word = 0; name = 1; semicolon = 0; imports = None; decls = (S.decls None None (Some (record { var_word = 0; each = (record { names = (record { first = (record { name = 4; star = None }); more = [] }); colon = 0; of = (S.Named (record { name = 6; member = None })); semicolon = 0 } ∷ []) })) S.no_procedure); body = (Some (record { begin_word = 0; stats = (S.stats (S.For 0 10 0 (S.only (S.simple None (S.term (S.Int 12) S.no_factor) S.no_term)) 0 (S.only (S.simple None (S.term (S.Int 14) S.no_factor) S.no_term)) None 0 (S.stats S.Empty S.no_stat) 0) S.no_stat) })); end_word = 0; end_name = 18; period = 0 } }

pub type_mismatch_69 : checked (type_mismatch_69_0 ∷ []) ≡ Fault 0 31 33
type_mismatch_69 = refl

-- MODULE M; VAR y: BYTE; BEGIN FOR y := 0 TO 1 DO END END M.
abbrev type_mismatch_70_0 : Parsed
type_mismatch_70_0 = record { source = record { bytes = (77 ∷ 79 ∷ 68 ∷ 85 ∷ 76 ∷ 69 ∷ 32 ∷ 77 ∷ 59 ∷ 32 ∷ 86 ∷ 65 ∷ 82 ∷ 32 ∷ 121 ∷ 58 ∷ 32 ∷ 66 ∷ 89 ∷ 84 ∷ 69 ∷ 59 ∷ 32 ∷ 66 ∷ 69 ∷ 71 ∷ 73 ∷ 78 ∷ 32 ∷ 70 ∷ 79 ∷ 82 ∷ 32 ∷ 121 ∷ 32 ∷ 58 ∷ 61 ∷ 32 ∷ 48 ∷ 32 ∷ 84 ∷ 79 ∷ 32 ∷ 49 ∷ 32 ∷ 68 ∷ 79 ∷ 32 ∷ 69 ∷ 78 ∷ 68 ∷ 32 ∷ 69 ∷ 78 ∷ 68 ∷ 32 ∷ 77 ∷ 46 ∷ []); symbols = (symbol (Ident) 0 6 ∷ symbol (Ident) 7 8 ∷ symbol (Ident) 8 9 ∷ symbol (Ident) 10 13 ∷ symbol (Ident) 14 15 ∷ symbol (Ident) 15 16 ∷ symbol (Ident) 17 21 ∷ symbol (Ident) 21 22 ∷ symbol (Ident) 23 28 ∷ symbol (Ident) 29 32 ∷ symbol (Ident) 33 34 ∷ symbol (Ident) 35 37 ∷ symbol (Int (pos 0)) 38 39 ∷ symbol (Ident) 40 42 ∷ symbol (Int (pos 1)) 43 44 ∷ symbol (Ident) 45 47 ∷ symbol (Ident) 48 51 ∷ symbol (Ident) 52 55 ∷ symbol (Ident) 56 57 ∷ symbol (Ident) 57 58 ∷ []) }; tree = record { module_word = 0; name = 1; semicolon = 0; imports = None; decls = (S.decls None None (Some (record { var_word = 0; each = (record { names = (record { first = (record { name = 4; star = None }); more = [] }); colon = 0; of = (S.Named (record { name = 6; member = None })); semicolon = 0 } ∷ []) })) S.no_procedure); body = (Some (record { begin_word = 0; stats = (S.stats (S.For 0 10 0 (S.only (S.simple None (S.term (S.Int 12) S.no_factor) S.no_term)) 0 (S.only (S.simple None (S.term (S.Int 14) S.no_factor) S.no_term)) None 0 (S.stats S.Empty S.no_stat) 0) S.no_stat) })); end_word = 0; end_name = 18; period = 0 } }

pub type_mismatch_70 : checked (type_mismatch_70_0 ∷ []) ≡ Fault 0 31 33
type_mismatch_70 = refl

-- MODULE M; VAR i: INTEGER; b: BOOLEAN; BEGIN FOR i := b TO 1 DO END END M.
abbrev type_mismatch_71_0 : Parsed
type_mismatch_71_0 = record { source = record { bytes = (77 ∷ 79 ∷ 68 ∷ 85 ∷ 76 ∷ 69 ∷ 32 ∷ 77 ∷ 59 ∷ 32 ∷ 86 ∷ 65 ∷ 82 ∷ 32 ∷ 105 ∷ 58 ∷ 32 ∷ 73 ∷ 78 ∷ 84 ∷ 69 ∷ 71 ∷ 69 ∷ 82 ∷ 59 ∷ 32 ∷ 98 ∷ 58 ∷ 32 ∷ 66 ∷ 79 ∷ 79 ∷ 76 ∷ 69 ∷ 65 ∷ 78 ∷ 59 ∷ 32 ∷ 66 ∷ 69 ∷ 71 ∷ 73 ∷ 78 ∷ 32 ∷ 70 ∷ 79 ∷ 82 ∷ 32 ∷ 105 ∷ 32 ∷ 58 ∷ 61 ∷ 32 ∷ 98 ∷ 32 ∷ 84 ∷ 79 ∷ 32 ∷ 49 ∷ 32 ∷ 68 ∷ 79 ∷ 32 ∷ 69 ∷ 78 ∷ 68 ∷ 32 ∷ 69 ∷ 78 ∷ 68 ∷ 32 ∷ 77 ∷ 46 ∷ []); symbols = (symbol (Ident) 0 6 ∷ symbol (Ident) 7 8 ∷ symbol (Ident) 8 9 ∷ symbol (Ident) 10 13 ∷ symbol (Ident) 14 15 ∷ symbol (Ident) 15 16 ∷ symbol (Ident) 17 24 ∷ symbol (Ident) 24 25 ∷ symbol (Ident) 26 27 ∷ symbol (Ident) 27 28 ∷ symbol (Ident) 29 36 ∷ symbol (Ident) 36 37 ∷ symbol (Ident) 38 43 ∷ symbol (Ident) 44 47 ∷ symbol (Ident) 48 49 ∷ symbol (Ident) 50 52 ∷ symbol (Ident) 53 54 ∷ symbol (Ident) 55 57 ∷ symbol (Int (pos 1)) 58 59 ∷ symbol (Ident) 60 62 ∷ symbol (Ident) 63 66 ∷ symbol (Ident) 67 70 ∷ symbol (Ident) 71 72 ∷ symbol (Ident) 72 73 ∷ []) }; tree = record { module_word = 0; name = 1; semicolon = 0; imports = None; decls = (S.decls None None (Some (record { var_word = 0; each = (record { names = (record { first = (record { name = 4; star = None }); more = [] }); colon = 0; of = (S.Named (record { name = 6; member = None })); semicolon = 0 } ∷ record { names = (record { first = (record { name = 8; star = None }); more = [] }); colon = 0; of = (S.Named (record { name = 10; member = None })); semicolon = 0 } ∷ []) })) S.no_procedure); body = (Some (record { begin_word = 0; stats = (S.stats (S.For 0 14 0 (S.only (S.simple None (S.term (S.Designated 16 S.no_selector) S.no_factor) S.no_term)) 0 (S.only (S.simple None (S.term (S.Int 18) S.no_factor) S.no_term)) None 0 (S.stats S.Empty S.no_stat) 0) S.no_stat) })); end_word = 0; end_name = 22; period = 0 } }

pub type_mismatch_71 : checked (type_mismatch_71_0 ∷ []) ≡ Fault 0 31 53
type_mismatch_71 = refl

-- MODULE M; VAR i: INTEGER; b: BOOLEAN; BEGIN FOR i := 0 TO b DO END END M.
abbrev type_mismatch_72_0 : Parsed
type_mismatch_72_0 = record { source = record { bytes = (77 ∷ 79 ∷ 68 ∷ 85 ∷ 76 ∷ 69 ∷ 32 ∷ 77 ∷ 59 ∷ 32 ∷ 86 ∷ 65 ∷ 82 ∷ 32 ∷ 105 ∷ 58 ∷ 32 ∷ 73 ∷ 78 ∷ 84 ∷ 69 ∷ 71 ∷ 69 ∷ 82 ∷ 59 ∷ 32 ∷ 98 ∷ 58 ∷ 32 ∷ 66 ∷ 79 ∷ 79 ∷ 76 ∷ 69 ∷ 65 ∷ 78 ∷ 59 ∷ 32 ∷ 66 ∷ 69 ∷ 71 ∷ 73 ∷ 78 ∷ 32 ∷ 70 ∷ 79 ∷ 82 ∷ 32 ∷ 105 ∷ 32 ∷ 58 ∷ 61 ∷ 32 ∷ 48 ∷ 32 ∷ 84 ∷ 79 ∷ 32 ∷ 98 ∷ 32 ∷ 68 ∷ 79 ∷ 32 ∷ 69 ∷ 78 ∷ 68 ∷ 32 ∷ 69 ∷ 78 ∷ 68 ∷ 32 ∷ 77 ∷ 46 ∷ []); symbols = (symbol (Ident) 0 6 ∷ symbol (Ident) 7 8 ∷ symbol (Ident) 8 9 ∷ symbol (Ident) 10 13 ∷ symbol (Ident) 14 15 ∷ symbol (Ident) 15 16 ∷ symbol (Ident) 17 24 ∷ symbol (Ident) 24 25 ∷ symbol (Ident) 26 27 ∷ symbol (Ident) 27 28 ∷ symbol (Ident) 29 36 ∷ symbol (Ident) 36 37 ∷ symbol (Ident) 38 43 ∷ symbol (Ident) 44 47 ∷ symbol (Ident) 48 49 ∷ symbol (Ident) 50 52 ∷ symbol (Int (pos 0)) 53 54 ∷ symbol (Ident) 55 57 ∷ symbol (Ident) 58 59 ∷ symbol (Ident) 60 62 ∷ symbol (Ident) 63 66 ∷ symbol (Ident) 67 70 ∷ symbol (Ident) 71 72 ∷ symbol (Ident) 72 73 ∷ []) }; tree = record { module_word = 0; name = 1; semicolon = 0; imports = None; decls = (S.decls None None (Some (record { var_word = 0; each = (record { names = (record { first = (record { name = 4; star = None }); more = [] }); colon = 0; of = (S.Named (record { name = 6; member = None })); semicolon = 0 } ∷ record { names = (record { first = (record { name = 8; star = None }); more = [] }); colon = 0; of = (S.Named (record { name = 10; member = None })); semicolon = 0 } ∷ []) })) S.no_procedure); body = (Some (record { begin_word = 0; stats = (S.stats (S.For 0 14 0 (S.only (S.simple None (S.term (S.Int 16) S.no_factor) S.no_term)) 0 (S.only (S.simple None (S.term (S.Designated 18 S.no_selector) S.no_factor) S.no_term)) None 0 (S.stats S.Empty S.no_stat) 0) S.no_stat) })); end_word = 0; end_name = 22; period = 0 } }

pub type_mismatch_72 : checked (type_mismatch_72_0 ∷ []) ≡ Fault 0 31 58
type_mismatch_72 = refl

-- MODULE M; VAR i: INTEGER; b: BOOLEAN; BEGIN FOR i := 0 TO 1 BY b DO END END M.
abbrev type_mismatch_73_0 : Parsed
type_mismatch_73_0 = record { source = record { bytes = (77 ∷ 79 ∷ 68 ∷ 85 ∷ 76 ∷ 69 ∷ 32 ∷ 77 ∷ 59 ∷ 32 ∷ 86 ∷ 65 ∷ 82 ∷ 32 ∷ 105 ∷ 58 ∷ 32 ∷ 73 ∷ 78 ∷ 84 ∷ 69 ∷ 71 ∷ 69 ∷ 82 ∷ 59 ∷ 32 ∷ 98 ∷ 58 ∷ 32 ∷ 66 ∷ 79 ∷ 79 ∷ 76 ∷ 69 ∷ 65 ∷ 78 ∷ 59 ∷ 32 ∷ 66 ∷ 69 ∷ 71 ∷ 73 ∷ 78 ∷ 32 ∷ 70 ∷ 79 ∷ 82 ∷ 32 ∷ 105 ∷ 32 ∷ 58 ∷ 61 ∷ 32 ∷ 48 ∷ 32 ∷ 84 ∷ 79 ∷ 32 ∷ 49 ∷ 32 ∷ 66 ∷ 89 ∷ 32 ∷ 98 ∷ 32 ∷ 68 ∷ 79 ∷ 32 ∷ 69 ∷ 78 ∷ 68 ∷ 32 ∷ 69 ∷ 78 ∷ 68 ∷ 32 ∷ 77 ∷ 46 ∷ []); symbols = (symbol (Ident) 0 6 ∷ symbol (Ident) 7 8 ∷ symbol (Ident) 8 9 ∷ symbol (Ident) 10 13 ∷ symbol (Ident) 14 15 ∷ symbol (Ident) 15 16 ∷ symbol (Ident) 17 24 ∷ symbol (Ident) 24 25 ∷ symbol (Ident) 26 27 ∷ symbol (Ident) 27 28 ∷ symbol (Ident) 29 36 ∷ symbol (Ident) 36 37 ∷ symbol (Ident) 38 43 ∷ symbol (Ident) 44 47 ∷ symbol (Ident) 48 49 ∷ symbol (Ident) 50 52 ∷ symbol (Int (pos 0)) 53 54 ∷ symbol (Ident) 55 57 ∷ symbol (Int (pos 1)) 58 59 ∷ symbol (Ident) 60 62 ∷ symbol (Ident) 63 64 ∷ symbol (Ident) 65 67 ∷ symbol (Ident) 68 71 ∷ symbol (Ident) 72 75 ∷ symbol (Ident) 76 77 ∷ symbol (Ident) 77 78 ∷ []) }; tree = record { module_word = 0; name = 1; semicolon = 0; imports = None; decls = (S.decls None None (Some (record { var_word = 0; each = (record { names = (record { first = (record { name = 4; star = None }); more = [] }); colon = 0; of = (S.Named (record { name = 6; member = None })); semicolon = 0 } ∷ record { names = (record { first = (record { name = 8; star = None }); more = [] }); colon = 0; of = (S.Named (record { name = 10; member = None })); semicolon = 0 } ∷ []) })) S.no_procedure); body = (Some (record { begin_word = 0; stats = (S.stats (S.For 0 14 0 (S.only (S.simple None (S.term (S.Int 16) S.no_factor) S.no_term)) 0 (S.only (S.simple None (S.term (S.Int 18) S.no_factor) S.no_term)) (Some (record { by_word = 0; step = (S.only (S.simple None (S.term (S.Designated 20 S.no_selector) S.no_factor) S.no_term)) })) 0 (S.stats S.Empty S.no_stat) 0) S.no_stat) })); end_word = 0; end_name = 24; period = 0 } }

pub type_mismatch_73 : checked (type_mismatch_73_0 ∷ []) ≡ Fault 0 32 63
type_mismatch_73 = refl

-- MODULE M; VAR i: INTEGER; BEGIN FOR i := 0 TO 1 BY ''a'' DO END END M.
abbrev type_mismatch_74_0 : Parsed
type_mismatch_74_0 = record { source = record { bytes = (77 ∷ 79 ∷ 68 ∷ 85 ∷ 76 ∷ 69 ∷ 32 ∷ 77 ∷ 59 ∷ 32 ∷ 86 ∷ 65 ∷ 82 ∷ 32 ∷ 105 ∷ 58 ∷ 32 ∷ 73 ∷ 78 ∷ 84 ∷ 69 ∷ 71 ∷ 69 ∷ 82 ∷ 59 ∷ 32 ∷ 66 ∷ 69 ∷ 71 ∷ 73 ∷ 78 ∷ 32 ∷ 70 ∷ 79 ∷ 82 ∷ 32 ∷ 105 ∷ 32 ∷ 58 ∷ 61 ∷ 32 ∷ 48 ∷ 32 ∷ 84 ∷ 79 ∷ 32 ∷ 49 ∷ 32 ∷ 66 ∷ 89 ∷ 32 ∷ 34 ∷ 97 ∷ 34 ∷ 32 ∷ 68 ∷ 79 ∷ 32 ∷ 69 ∷ 78 ∷ 68 ∷ 32 ∷ 69 ∷ 78 ∷ 68 ∷ 32 ∷ 77 ∷ 46 ∷ []); symbols = (symbol (Ident) 0 6 ∷ symbol (Ident) 7 8 ∷ symbol (Ident) 8 9 ∷ symbol (Ident) 10 13 ∷ symbol (Ident) 14 15 ∷ symbol (Ident) 15 16 ∷ symbol (Ident) 17 24 ∷ symbol (Ident) 24 25 ∷ symbol (Ident) 26 31 ∷ symbol (Ident) 32 35 ∷ symbol (Ident) 36 37 ∷ symbol (Ident) 38 40 ∷ symbol (Int (pos 0)) 41 42 ∷ symbol (Ident) 43 45 ∷ symbol (Int (pos 1)) 46 47 ∷ symbol (Ident) 48 50 ∷ symbol (TheKind.Text) 51 54 ∷ symbol (Ident) 55 57 ∷ symbol (Ident) 58 61 ∷ symbol (Ident) 62 65 ∷ symbol (Ident) 66 67 ∷ symbol (Ident) 67 68 ∷ []) }; tree = record { module_word = 0; name = 1; semicolon = 0; imports = None; decls = (S.decls None None (Some (record { var_word = 0; each = (record { names = (record { first = (record { name = 4; star = None }); more = [] }); colon = 0; of = (S.Named (record { name = 6; member = None })); semicolon = 0 } ∷ []) })) S.no_procedure); body = (Some (record { begin_word = 0; stats = (S.stats (S.For 0 10 0 (S.only (S.simple None (S.term (S.Int 12) S.no_factor) S.no_term)) 0 (S.only (S.simple None (S.term (S.Int 14) S.no_factor) S.no_term)) (Some (record { by_word = 0; step = (S.only (S.simple None (S.term (S.Text 16) S.no_factor) S.no_term)) })) 0 (S.stats S.Empty S.no_stat) 0) S.no_stat) })); end_word = 0; end_name = 20; period = 0 } }

pub type_mismatch_74 : checked (type_mismatch_74_0 ∷ []) ≡ Fault 0 31 51
type_mismatch_74 = refl

-- MODULE M; PROCEDURE N; END N; BEGIN FOR N := 0 TO 1 DO END END M.
abbrev type_mismatch_75_0 : Parsed
type_mismatch_75_0 = record { source = record { bytes = (77 ∷ 79 ∷ 68 ∷ 85 ∷ 76 ∷ 69 ∷ 32 ∷ 77 ∷ 59 ∷ 32 ∷ 80 ∷ 82 ∷ 79 ∷ 67 ∷ 69 ∷ 68 ∷ 85 ∷ 82 ∷ 69 ∷ 32 ∷ 78 ∷ 59 ∷ 32 ∷ 69 ∷ 78 ∷ 68 ∷ 32 ∷ 78 ∷ 59 ∷ 32 ∷ 66 ∷ 69 ∷ 71 ∷ 73 ∷ 78 ∷ 32 ∷ 70 ∷ 79 ∷ 82 ∷ 32 ∷ 78 ∷ 32 ∷ 58 ∷ 61 ∷ 32 ∷ 48 ∷ 32 ∷ 84 ∷ 79 ∷ 32 ∷ 49 ∷ 32 ∷ 68 ∷ 79 ∷ 32 ∷ 69 ∷ 78 ∷ 68 ∷ 32 ∷ 69 ∷ 78 ∷ 68 ∷ 32 ∷ 77 ∷ 46 ∷ []); symbols = (symbol (Ident) 0 6 ∷ symbol (Ident) 7 8 ∷ symbol (Ident) 8 9 ∷ symbol (Ident) 10 19 ∷ symbol (Ident) 20 21 ∷ symbol (Ident) 21 22 ∷ symbol (Ident) 23 26 ∷ symbol (Ident) 27 28 ∷ symbol (Ident) 28 29 ∷ symbol (Ident) 30 35 ∷ symbol (Ident) 36 39 ∷ symbol (Ident) 40 41 ∷ symbol (Ident) 42 44 ∷ symbol (Int (pos 0)) 45 46 ∷ symbol (Ident) 47 49 ∷ symbol (Int (pos 1)) 50 51 ∷ symbol (Ident) 52 54 ∷ symbol (Ident) 55 58 ∷ symbol (Ident) 59 62 ∷ symbol (Ident) 63 64 ∷ symbol (Ident) 64 65 ∷ []) }; tree = record { module_word = 0; name = 1; semicolon = 0; imports = None; decls = (S.decls None None None (S.procedure 0 (record { name = 4; star = None }) None 0 (S.decls None None None S.no_procedure) None None 6 7 0 S.no_procedure)); body = (Some (record { begin_word = 0; stats = (S.stats (S.For 0 11 0 (S.only (S.simple None (S.term (S.Int 13) S.no_factor) S.no_term)) 0 (S.only (S.simple None (S.term (S.Int 15) S.no_factor) S.no_term)) None 0 (S.stats S.Empty S.no_stat) 0) S.no_stat) })); end_word = 0; end_name = 19; period = 0 } }

pub type_mismatch_75 : checked (type_mismatch_75_0 ∷ []) ≡ Fault 0 31 40
type_mismatch_75 = refl

-- MODULE M; VAR b: BOOLEAN; BEGIN CASE b OF END END M.
abbrev type_mismatch_76_0 : Parsed
type_mismatch_76_0 = record { source = record { bytes = (77 ∷ 79 ∷ 68 ∷ 85 ∷ 76 ∷ 69 ∷ 32 ∷ 77 ∷ 59 ∷ 32 ∷ 86 ∷ 65 ∷ 82 ∷ 32 ∷ 98 ∷ 58 ∷ 32 ∷ 66 ∷ 79 ∷ 79 ∷ 76 ∷ 69 ∷ 65 ∷ 78 ∷ 59 ∷ 32 ∷ 66 ∷ 69 ∷ 71 ∷ 73 ∷ 78 ∷ 32 ∷ 67 ∷ 65 ∷ 83 ∷ 69 ∷ 32 ∷ 98 ∷ 32 ∷ 79 ∷ 70 ∷ 32 ∷ 69 ∷ 78 ∷ 68 ∷ 32 ∷ 69 ∷ 78 ∷ 68 ∷ 32 ∷ 77 ∷ 46 ∷ []); symbols = (symbol (Ident) 0 6 ∷ symbol (Ident) 7 8 ∷ symbol (Ident) 8 9 ∷ symbol (Ident) 10 13 ∷ symbol (Ident) 14 15 ∷ symbol (Ident) 15 16 ∷ symbol (Ident) 17 24 ∷ symbol (Ident) 24 25 ∷ symbol (Ident) 26 31 ∷ symbol (Ident) 32 36 ∷ symbol (Ident) 37 38 ∷ symbol (Ident) 39 41 ∷ symbol (Ident) 42 45 ∷ symbol (Ident) 46 49 ∷ symbol (Ident) 50 51 ∷ symbol (Ident) 51 52 ∷ []) }; tree = record { module_word = 0; name = 1; semicolon = 0; imports = None; decls = (S.decls None None (Some (record { var_word = 0; each = (record { names = (record { first = (record { name = 4; star = None }); more = [] }); colon = 0; of = (S.Named (record { name = 6; member = None })); semicolon = 0 } ∷ []) })) S.no_procedure); body = (Some (record { begin_word = 0; stats = (S.stats (S.Case 0 (S.only (S.simple None (S.term (S.Designated 10 S.no_selector) S.no_factor) S.no_term)) 0 S.no_case S.no_next_case 0) S.no_stat) })); end_word = 0; end_name = 14; period = 0 } }

pub type_mismatch_76 : checked (type_mismatch_76_0 ∷ []) ≡ Fault 0 31 37
type_mismatch_76 = refl

-- MODULE M; BEGIN CASE ''a'' OF END END M.
abbrev type_mismatch_77_0 : Parsed
type_mismatch_77_0 = record { source = record { bytes = (77 ∷ 79 ∷ 68 ∷ 85 ∷ 76 ∷ 69 ∷ 32 ∷ 77 ∷ 59 ∷ 32 ∷ 66 ∷ 69 ∷ 71 ∷ 73 ∷ 78 ∷ 32 ∷ 67 ∷ 65 ∷ 83 ∷ 69 ∷ 32 ∷ 34 ∷ 97 ∷ 34 ∷ 32 ∷ 79 ∷ 70 ∷ 32 ∷ 69 ∷ 78 ∷ 68 ∷ 32 ∷ 69 ∷ 78 ∷ 68 ∷ 32 ∷ 77 ∷ 46 ∷ []); symbols = (symbol (Ident) 0 6 ∷ symbol (Ident) 7 8 ∷ symbol (Ident) 8 9 ∷ symbol (Ident) 10 15 ∷ symbol (Ident) 16 20 ∷ symbol (TheKind.Text) 21 24 ∷ symbol (Ident) 25 27 ∷ symbol (Ident) 28 31 ∷ symbol (Ident) 32 35 ∷ symbol (Ident) 36 37 ∷ symbol (Ident) 37 38 ∷ []) }; tree = record { module_word = 0; name = 1; semicolon = 0; imports = None; decls = (S.decls None None None S.no_procedure); body = (Some (record { begin_word = 0; stats = (S.stats (S.Case 0 (S.only (S.simple None (S.term (S.Text 5) S.no_factor) S.no_term)) 0 S.no_case S.no_next_case 0) S.no_stat) })); end_word = 0; end_name = 9; period = 0 } }

pub type_mismatch_77 : checked (type_mismatch_77_0 ∷ []) ≡ Fault 0 31 21
type_mismatch_77 = refl

-- MODULE M; VAR s: SET; BEGIN CASE s OF END END M.
abbrev type_mismatch_78_0 : Parsed
type_mismatch_78_0 = record { source = record { bytes = (77 ∷ 79 ∷ 68 ∷ 85 ∷ 76 ∷ 69 ∷ 32 ∷ 77 ∷ 59 ∷ 32 ∷ 86 ∷ 65 ∷ 82 ∷ 32 ∷ 115 ∷ 58 ∷ 32 ∷ 83 ∷ 69 ∷ 84 ∷ 59 ∷ 32 ∷ 66 ∷ 69 ∷ 71 ∷ 73 ∷ 78 ∷ 32 ∷ 67 ∷ 65 ∷ 83 ∷ 69 ∷ 32 ∷ 115 ∷ 32 ∷ 79 ∷ 70 ∷ 32 ∷ 69 ∷ 78 ∷ 68 ∷ 32 ∷ 69 ∷ 78 ∷ 68 ∷ 32 ∷ 77 ∷ 46 ∷ []); symbols = (symbol (Ident) 0 6 ∷ symbol (Ident) 7 8 ∷ symbol (Ident) 8 9 ∷ symbol (Ident) 10 13 ∷ symbol (Ident) 14 15 ∷ symbol (Ident) 15 16 ∷ symbol (Ident) 17 20 ∷ symbol (Ident) 20 21 ∷ symbol (Ident) 22 27 ∷ symbol (Ident) 28 32 ∷ symbol (Ident) 33 34 ∷ symbol (Ident) 35 37 ∷ symbol (Ident) 38 41 ∷ symbol (Ident) 42 45 ∷ symbol (Ident) 46 47 ∷ symbol (Ident) 47 48 ∷ []) }; tree = record { module_word = 0; name = 1; semicolon = 0; imports = None; decls = (S.decls None None (Some (record { var_word = 0; each = (record { names = (record { first = (record { name = 4; star = None }); more = [] }); colon = 0; of = (S.Named (record { name = 6; member = None })); semicolon = 0 } ∷ []) })) S.no_procedure); body = (Some (record { begin_word = 0; stats = (S.stats (S.Case 0 (S.only (S.simple None (S.term (S.Designated 10 S.no_selector) S.no_factor) S.no_term)) 0 S.no_case S.no_next_case 0) S.no_stat) })); end_word = 0; end_name = 14; period = 0 } }

pub type_mismatch_78 : checked (type_mismatch_78_0 ∷ []) ≡ Fault 0 31 33
type_mismatch_78 = refl

-- MODULE M; TYPE R = RECORD x: INTEGER; y*: CHAR END; P = POINTER TO R; VAR p: P; BEGIN CASE (p) OF END END M.
abbrev type_mismatch_79_0 : Parsed
type_mismatch_79_0 = record { source = record { bytes = (77 ∷ 79 ∷ 68 ∷ 85 ∷ 76 ∷ 69 ∷ 32 ∷ 77 ∷ 59 ∷ 32 ∷ 84 ∷ 89 ∷ 80 ∷ 69 ∷ 32 ∷ 82 ∷ 32 ∷ 61 ∷ 32 ∷ 82 ∷ 69 ∷ 67 ∷ 79 ∷ 82 ∷ 68 ∷ 32 ∷ 120 ∷ 58 ∷ 32 ∷ 73 ∷ 78 ∷ 84 ∷ 69 ∷ 71 ∷ 69 ∷ 82 ∷ 59 ∷ 32 ∷ 121 ∷ 42 ∷ 58 ∷ 32 ∷ 67 ∷ 72 ∷ 65 ∷ 82 ∷ 32 ∷ 69 ∷ 78 ∷ 68 ∷ 59 ∷ 32 ∷ 80 ∷ 32 ∷ 61 ∷ 32 ∷ 80 ∷ 79 ∷ 73 ∷ 78 ∷ 84 ∷ 69 ∷ 82 ∷ 32 ∷ 84 ∷ 79 ∷ 32 ∷ 82 ∷ 59 ∷ 32 ∷ 86 ∷ 65 ∷ 82 ∷ 32 ∷ 112 ∷ 58 ∷ 32 ∷ 80 ∷ 59 ∷ 32 ∷ 66 ∷ 69 ∷ 71 ∷ 73 ∷ 78 ∷ 32 ∷ 67 ∷ 65 ∷ 83 ∷ 69 ∷ 32 ∷ 40 ∷ 112 ∷ 41 ∷ 32 ∷ 79 ∷ 70 ∷ 32 ∷ 69 ∷ 78 ∷ 68 ∷ 32 ∷ 69 ∷ 78 ∷ 68 ∷ 32 ∷ 77 ∷ 46 ∷ []); symbols = (symbol (Ident) 0 6 ∷ symbol (Ident) 7 8 ∷ symbol (Ident) 8 9 ∷ symbol (Ident) 10 14 ∷ symbol (Ident) 15 16 ∷ symbol (Ident) 17 18 ∷ symbol (Ident) 19 25 ∷ symbol (Ident) 26 27 ∷ symbol (Ident) 27 28 ∷ symbol (Ident) 29 36 ∷ symbol (Ident) 36 37 ∷ symbol (Ident) 38 39 ∷ symbol (Ident) 39 40 ∷ symbol (Ident) 40 41 ∷ symbol (Ident) 42 46 ∷ symbol (Ident) 47 50 ∷ symbol (Ident) 50 51 ∷ symbol (Ident) 52 53 ∷ symbol (Ident) 54 55 ∷ symbol (Ident) 56 63 ∷ symbol (Ident) 64 66 ∷ symbol (Ident) 67 68 ∷ symbol (Ident) 68 69 ∷ symbol (Ident) 70 73 ∷ symbol (Ident) 74 75 ∷ symbol (Ident) 75 76 ∷ symbol (Ident) 77 78 ∷ symbol (Ident) 78 79 ∷ symbol (Ident) 80 85 ∷ symbol (Ident) 86 90 ∷ symbol (Ident) 91 92 ∷ symbol (Ident) 92 93 ∷ symbol (Ident) 93 94 ∷ symbol (Ident) 95 97 ∷ symbol (Ident) 98 101 ∷ symbol (Ident) 102 105 ∷ symbol (Ident) 106 107 ∷ symbol (Ident) 107 108 ∷ []) }; tree = record { module_word = 0; name = 1; semicolon = 0; imports = None; decls = (S.decls None (Some (record { type_word = 0; each = (record { name = (record { name = 4; star = None }); equal = 0; is = (S.Record 6 None (S.fields (record { first = (record { name = 7; star = None }); more = [] }) 0 (S.Named (record { name = 9; member = None }))) (S.next_fields 0 (S.fields (record { first = (record { name = 11; star = Some 0 }); more = [] }) 0 (S.Named (record { name = 14; member = None }))) S.no_more_fields) 0); semicolon = 0 } ∷ record { name = (record { name = 17; star = None }); equal = 0; is = (S.Pointer 19 0 (S.Named (record { name = 21; member = None }))); semicolon = 0 } ∷ []) })) (Some (record { var_word = 0; each = (record { names = (record { first = (record { name = 24; star = None }); more = [] }); colon = 0; of = (S.Named (record { name = 26; member = None })); semicolon = 0 } ∷ []) })) S.no_procedure); body = (Some (record { begin_word = 0; stats = (S.stats (S.Case 0 (S.only (S.simple None (S.term (S.Paren 30 (S.only (S.simple None (S.term (S.Designated 31 S.no_selector) S.no_factor) S.no_term)) 0) S.no_factor) S.no_term)) 0 S.no_case S.no_next_case 0) S.no_stat) })); end_word = 0; end_name = 36; period = 0 } }

pub type_mismatch_79 : checked (type_mismatch_79_0 ∷ []) ≡ Fault 0 31 91
type_mismatch_79 = refl

-- MODULE M; TYPE R = RECORD x: INTEGER; y*: CHAR END; VAR r: R; BEGIN CASE r OF END END M.
abbrev type_mismatch_80_0 : Parsed
type_mismatch_80_0 = record { source = record { bytes = (77 ∷ 79 ∷ 68 ∷ 85 ∷ 76 ∷ 69 ∷ 32 ∷ 77 ∷ 59 ∷ 32 ∷ 84 ∷ 89 ∷ 80 ∷ 69 ∷ 32 ∷ 82 ∷ 32 ∷ 61 ∷ 32 ∷ 82 ∷ 69 ∷ 67 ∷ 79 ∷ 82 ∷ 68 ∷ 32 ∷ 120 ∷ 58 ∷ 32 ∷ 73 ∷ 78 ∷ 84 ∷ 69 ∷ 71 ∷ 69 ∷ 82 ∷ 59 ∷ 32 ∷ 121 ∷ 42 ∷ 58 ∷ 32 ∷ 67 ∷ 72 ∷ 65 ∷ 82 ∷ 32 ∷ 69 ∷ 78 ∷ 68 ∷ 59 ∷ 32 ∷ 86 ∷ 65 ∷ 82 ∷ 32 ∷ 114 ∷ 58 ∷ 32 ∷ 82 ∷ 59 ∷ 32 ∷ 66 ∷ 69 ∷ 71 ∷ 73 ∷ 78 ∷ 32 ∷ 67 ∷ 65 ∷ 83 ∷ 69 ∷ 32 ∷ 114 ∷ 32 ∷ 79 ∷ 70 ∷ 32 ∷ 69 ∷ 78 ∷ 68 ∷ 32 ∷ 69 ∷ 78 ∷ 68 ∷ 32 ∷ 77 ∷ 46 ∷ []); symbols = (symbol (Ident) 0 6 ∷ symbol (Ident) 7 8 ∷ symbol (Ident) 8 9 ∷ symbol (Ident) 10 14 ∷ symbol (Ident) 15 16 ∷ symbol (Ident) 17 18 ∷ symbol (Ident) 19 25 ∷ symbol (Ident) 26 27 ∷ symbol (Ident) 27 28 ∷ symbol (Ident) 29 36 ∷ symbol (Ident) 36 37 ∷ symbol (Ident) 38 39 ∷ symbol (Ident) 39 40 ∷ symbol (Ident) 40 41 ∷ symbol (Ident) 42 46 ∷ symbol (Ident) 47 50 ∷ symbol (Ident) 50 51 ∷ symbol (Ident) 52 55 ∷ symbol (Ident) 56 57 ∷ symbol (Ident) 57 58 ∷ symbol (Ident) 59 60 ∷ symbol (Ident) 60 61 ∷ symbol (Ident) 62 67 ∷ symbol (Ident) 68 72 ∷ symbol (Ident) 73 74 ∷ symbol (Ident) 75 77 ∷ symbol (Ident) 78 81 ∷ symbol (Ident) 82 85 ∷ symbol (Ident) 86 87 ∷ symbol (Ident) 87 88 ∷ []) }; tree = record { module_word = 0; name = 1; semicolon = 0; imports = None; decls = (S.decls None (Some (record { type_word = 0; each = (record { name = (record { name = 4; star = None }); equal = 0; is = (S.Record 6 None (S.fields (record { first = (record { name = 7; star = None }); more = [] }) 0 (S.Named (record { name = 9; member = None }))) (S.next_fields 0 (S.fields (record { first = (record { name = 11; star = Some 0 }); more = [] }) 0 (S.Named (record { name = 14; member = None }))) S.no_more_fields) 0); semicolon = 0 } ∷ []) })) (Some (record { var_word = 0; each = (record { names = (record { first = (record { name = 18; star = None }); more = [] }); colon = 0; of = (S.Named (record { name = 20; member = None })); semicolon = 0 } ∷ []) })) S.no_procedure); body = (Some (record { begin_word = 0; stats = (S.stats (S.Case 0 (S.only (S.simple None (S.term (S.Designated 24 S.no_selector) S.no_factor) S.no_term)) 0 S.no_case S.no_next_case 0) S.no_stat) })); end_word = 0; end_name = 28; period = 0 } }

pub type_mismatch_80 : checked (type_mismatch_80_0 ∷ []) ≡ Fault 0 31 73
type_mismatch_80 = refl

-- MODULE M; TYPE R = RECORD x: INTEGER; y*: CHAR END; P = POINTER TO R; VAR p: P; BEGIN CASE p^ OF END END M.
abbrev type_mismatch_81_0 : Parsed
type_mismatch_81_0 = record { source = record { bytes = (77 ∷ 79 ∷ 68 ∷ 85 ∷ 76 ∷ 69 ∷ 32 ∷ 77 ∷ 59 ∷ 32 ∷ 84 ∷ 89 ∷ 80 ∷ 69 ∷ 32 ∷ 82 ∷ 32 ∷ 61 ∷ 32 ∷ 82 ∷ 69 ∷ 67 ∷ 79 ∷ 82 ∷ 68 ∷ 32 ∷ 120 ∷ 58 ∷ 32 ∷ 73 ∷ 78 ∷ 84 ∷ 69 ∷ 71 ∷ 69 ∷ 82 ∷ 59 ∷ 32 ∷ 121 ∷ 42 ∷ 58 ∷ 32 ∷ 67 ∷ 72 ∷ 65 ∷ 82 ∷ 32 ∷ 69 ∷ 78 ∷ 68 ∷ 59 ∷ 32 ∷ 80 ∷ 32 ∷ 61 ∷ 32 ∷ 80 ∷ 79 ∷ 73 ∷ 78 ∷ 84 ∷ 69 ∷ 82 ∷ 32 ∷ 84 ∷ 79 ∷ 32 ∷ 82 ∷ 59 ∷ 32 ∷ 86 ∷ 65 ∷ 82 ∷ 32 ∷ 112 ∷ 58 ∷ 32 ∷ 80 ∷ 59 ∷ 32 ∷ 66 ∷ 69 ∷ 71 ∷ 73 ∷ 78 ∷ 32 ∷ 67 ∷ 65 ∷ 83 ∷ 69 ∷ 32 ∷ 112 ∷ 94 ∷ 32 ∷ 79 ∷ 70 ∷ 32 ∷ 69 ∷ 78 ∷ 68 ∷ 32 ∷ 69 ∷ 78 ∷ 68 ∷ 32 ∷ 77 ∷ 46 ∷ []); symbols = (symbol (Ident) 0 6 ∷ symbol (Ident) 7 8 ∷ symbol (Ident) 8 9 ∷ symbol (Ident) 10 14 ∷ symbol (Ident) 15 16 ∷ symbol (Ident) 17 18 ∷ symbol (Ident) 19 25 ∷ symbol (Ident) 26 27 ∷ symbol (Ident) 27 28 ∷ symbol (Ident) 29 36 ∷ symbol (Ident) 36 37 ∷ symbol (Ident) 38 39 ∷ symbol (Ident) 39 40 ∷ symbol (Ident) 40 41 ∷ symbol (Ident) 42 46 ∷ symbol (Ident) 47 50 ∷ symbol (Ident) 50 51 ∷ symbol (Ident) 52 53 ∷ symbol (Ident) 54 55 ∷ symbol (Ident) 56 63 ∷ symbol (Ident) 64 66 ∷ symbol (Ident) 67 68 ∷ symbol (Ident) 68 69 ∷ symbol (Ident) 70 73 ∷ symbol (Ident) 74 75 ∷ symbol (Ident) 75 76 ∷ symbol (Ident) 77 78 ∷ symbol (Ident) 78 79 ∷ symbol (Ident) 80 85 ∷ symbol (Ident) 86 90 ∷ symbol (Ident) 91 92 ∷ symbol (Ident) 92 93 ∷ symbol (Ident) 94 96 ∷ symbol (Ident) 97 100 ∷ symbol (Ident) 101 104 ∷ symbol (Ident) 105 106 ∷ symbol (Ident) 106 107 ∷ []) }; tree = record { module_word = 0; name = 1; semicolon = 0; imports = None; decls = (S.decls None (Some (record { type_word = 0; each = (record { name = (record { name = 4; star = None }); equal = 0; is = (S.Record 6 None (S.fields (record { first = (record { name = 7; star = None }); more = [] }) 0 (S.Named (record { name = 9; member = None }))) (S.next_fields 0 (S.fields (record { first = (record { name = 11; star = Some 0 }); more = [] }) 0 (S.Named (record { name = 14; member = None }))) S.no_more_fields) 0); semicolon = 0 } ∷ record { name = (record { name = 17; star = None }); equal = 0; is = (S.Pointer 19 0 (S.Named (record { name = 21; member = None }))); semicolon = 0 } ∷ []) })) (Some (record { var_word = 0; each = (record { names = (record { first = (record { name = 24; star = None }); more = [] }); colon = 0; of = (S.Named (record { name = 26; member = None })); semicolon = 0 } ∷ []) })) S.no_procedure); body = (Some (record { begin_word = 0; stats = (S.stats (S.Case 0 (S.only (S.simple None (S.term (S.Designated 30 (S.selected (S.Arrow 0) S.no_selector)) S.no_factor) S.no_term)) 0 S.no_case S.no_next_case 0) S.no_stat) })); end_word = 0; end_name = 35; period = 0 } }

pub type_mismatch_81 : checked (type_mismatch_81_0 ∷ []) ≡ Fault 0 31 91
type_mismatch_81 = refl

-- MODULE M; TYPE R = RECORD x: INTEGER; y*: CHAR END; E = RECORD (R) z: SET END; P = POINTER TO R; Q = POINTER TO E; VAR p: P; q: Q; BEGIN q := p(R) END M.
abbrev type_mismatch_82_0 : Parsed
type_mismatch_82_0 = record { source = record { bytes = (77 ∷ 79 ∷ 68 ∷ 85 ∷ 76 ∷ 69 ∷ 32 ∷ 77 ∷ 59 ∷ 32 ∷ 84 ∷ 89 ∷ 80 ∷ 69 ∷ 32 ∷ 82 ∷ 32 ∷ 61 ∷ 32 ∷ 82 ∷ 69 ∷ 67 ∷ 79 ∷ 82 ∷ 68 ∷ 32 ∷ 120 ∷ 58 ∷ 32 ∷ 73 ∷ 78 ∷ 84 ∷ 69 ∷ 71 ∷ 69 ∷ 82 ∷ 59 ∷ 32 ∷ 121 ∷ 42 ∷ 58 ∷ 32 ∷ 67 ∷ 72 ∷ 65 ∷ 82 ∷ 32 ∷ 69 ∷ 78 ∷ 68 ∷ 59 ∷ 32 ∷ 69 ∷ 32 ∷ 61 ∷ 32 ∷ 82 ∷ 69 ∷ 67 ∷ 79 ∷ 82 ∷ 68 ∷ 32 ∷ 40 ∷ 82 ∷ 41 ∷ 32 ∷ 122 ∷ 58 ∷ 32 ∷ 83 ∷ 69 ∷ 84 ∷ 32 ∷ 69 ∷ 78 ∷ 68 ∷ 59 ∷ 32 ∷ 80 ∷ 32 ∷ 61 ∷ 32 ∷ 80 ∷ 79 ∷ 73 ∷ 78 ∷ 84 ∷ 69 ∷ 82 ∷ 32 ∷ 84 ∷ 79 ∷ 32 ∷ 82 ∷ 59 ∷ 32 ∷ 81 ∷ 32 ∷ 61 ∷ 32 ∷ 80 ∷ 79 ∷ 73 ∷ 78 ∷ 84 ∷ 69 ∷ 82 ∷ 32 ∷ 84 ∷ 79 ∷ 32 ∷ 69 ∷ 59 ∷ 32 ∷ 86 ∷ 65 ∷ 82 ∷ 32 ∷ 112 ∷ 58 ∷ 32 ∷ 80 ∷ 59 ∷ 32 ∷ 113 ∷ 58 ∷ 32 ∷ 81 ∷ 59 ∷ 32 ∷ 66 ∷ 69 ∷ 71 ∷ 73 ∷ 78 ∷ 32 ∷ 113 ∷ 32 ∷ 58 ∷ 61 ∷ 32 ∷ 112 ∷ 40 ∷ 82 ∷ 41 ∷ 32 ∷ 69 ∷ 78 ∷ 68 ∷ 32 ∷ 77 ∷ 46 ∷ []); symbols = (symbol (Ident) 0 6 ∷ symbol (Ident) 7 8 ∷ symbol (Ident) 8 9 ∷ symbol (Ident) 10 14 ∷ symbol (Ident) 15 16 ∷ symbol (Ident) 17 18 ∷ symbol (Ident) 19 25 ∷ symbol (Ident) 26 27 ∷ symbol (Ident) 27 28 ∷ symbol (Ident) 29 36 ∷ symbol (Ident) 36 37 ∷ symbol (Ident) 38 39 ∷ symbol (Ident) 39 40 ∷ symbol (Ident) 40 41 ∷ symbol (Ident) 42 46 ∷ symbol (Ident) 47 50 ∷ symbol (Ident) 50 51 ∷ symbol (Ident) 52 53 ∷ symbol (Ident) 54 55 ∷ symbol (Ident) 56 62 ∷ symbol (Ident) 63 64 ∷ symbol (Ident) 64 65 ∷ symbol (Ident) 65 66 ∷ symbol (Ident) 67 68 ∷ symbol (Ident) 68 69 ∷ symbol (Ident) 70 73 ∷ symbol (Ident) 74 77 ∷ symbol (Ident) 77 78 ∷ symbol (Ident) 79 80 ∷ symbol (Ident) 81 82 ∷ symbol (Ident) 83 90 ∷ symbol (Ident) 91 93 ∷ symbol (Ident) 94 95 ∷ symbol (Ident) 95 96 ∷ symbol (Ident) 97 98 ∷ symbol (Ident) 99 100 ∷ symbol (Ident) 101 108 ∷ symbol (Ident) 109 111 ∷ symbol (Ident) 112 113 ∷ symbol (Ident) 113 114 ∷ symbol (Ident) 115 118 ∷ symbol (Ident) 119 120 ∷ symbol (Ident) 120 121 ∷ symbol (Ident) 122 123 ∷ symbol (Ident) 123 124 ∷ symbol (Ident) 125 126 ∷ symbol (Ident) 126 127 ∷ symbol (Ident) 128 129 ∷ symbol (Ident) 129 130 ∷ symbol (Ident) 131 136 ∷ symbol (Ident) 137 138 ∷ symbol (Ident) 139 141 ∷ symbol (Ident) 142 143 ∷ symbol (Ident) 143 144 ∷ symbol (Ident) 144 145 ∷ symbol (Ident) 145 146 ∷ symbol (Ident) 147 150 ∷ symbol (Ident) 151 152 ∷ symbol (Ident) 152 153 ∷ []) }; tree = record { module_word = 0; name = 1; semicolon = 0; imports = None; decls = (S.decls None (Some (record { type_word = 0; each = (record { name = (record { name = 4; star = None }); equal = 0; is = (S.Record 6 None (S.fields (record { first = (record { name = 7; star = None }); more = [] }) 0 (S.Named (record { name = 9; member = None }))) (S.next_fields 0 (S.fields (record { first = (record { name = 11; star = Some 0 }); more = [] }) 0 (S.Named (record { name = 14; member = None }))) S.no_more_fields) 0); semicolon = 0 } ∷ record { name = (record { name = 17; star = None }); equal = 0; is = (S.Record 19 (Some (record { left_paren = 0; name = (record { name = 21; member = None }); right_paren = 0 })) (S.fields (record { first = (record { name = 23; star = None }); more = [] }) 0 (S.Named (record { name = 25; member = None }))) S.no_more_fields 0); semicolon = 0 } ∷ record { name = (record { name = 28; star = None }); equal = 0; is = (S.Pointer 30 0 (S.Named (record { name = 32; member = None }))); semicolon = 0 } ∷ record { name = (record { name = 34; star = None }); equal = 0; is = (S.Pointer 36 0 (S.Named (record { name = 38; member = None }))); semicolon = 0 } ∷ []) })) (Some (record { var_word = 0; each = (record { names = (record { first = (record { name = 41; star = None }); more = [] }); colon = 0; of = (S.Named (record { name = 43; member = None })); semicolon = 0 } ∷ record { names = (record { first = (record { name = 45; star = None }); more = [] }); colon = 0; of = (S.Named (record { name = 47; member = None })); semicolon = 0 } ∷ []) })) S.no_procedure); body = (Some (record { begin_word = 0; stats = (S.stats (S.AssignOrCall (record { name = 50; selectors = S.no_selector }) (Some (record { becomes = 0; value = (S.only (S.simple None (S.term (S.Designated 52 (S.selected (S.Parens 0 (S.expressions (S.only (S.simple None (S.term (S.Designated 54 S.no_selector) S.no_factor) S.no_term)) S.no_expression) 0) S.no_selector)) S.no_factor) S.no_term)) }))) S.no_stat) })); end_word = 0; end_name = 57; period = 0 } }

pub type_mismatch_82 : checked (type_mismatch_82_0 ∷ []) ≡ Fault 0 31 142
type_mismatch_82 = refl

-- MODULE M; TYPE R = RECORD x: INTEGER; y*: CHAR END; E = RECORD (R) z: SET END; P = POINTER TO R; Q = POINTER TO E; VAR p: P; q: Q; BEGIN p := q(P) END M.
abbrev type_mismatch_83_0 : Parsed
type_mismatch_83_0 = record { source = record { bytes = (77 ∷ 79 ∷ 68 ∷ 85 ∷ 76 ∷ 69 ∷ 32 ∷ 77 ∷ 59 ∷ 32 ∷ 84 ∷ 89 ∷ 80 ∷ 69 ∷ 32 ∷ 82 ∷ 32 ∷ 61 ∷ 32 ∷ 82 ∷ 69 ∷ 67 ∷ 79 ∷ 82 ∷ 68 ∷ 32 ∷ 120 ∷ 58 ∷ 32 ∷ 73 ∷ 78 ∷ 84 ∷ 69 ∷ 71 ∷ 69 ∷ 82 ∷ 59 ∷ 32 ∷ 121 ∷ 42 ∷ 58 ∷ 32 ∷ 67 ∷ 72 ∷ 65 ∷ 82 ∷ 32 ∷ 69 ∷ 78 ∷ 68 ∷ 59 ∷ 32 ∷ 69 ∷ 32 ∷ 61 ∷ 32 ∷ 82 ∷ 69 ∷ 67 ∷ 79 ∷ 82 ∷ 68 ∷ 32 ∷ 40 ∷ 82 ∷ 41 ∷ 32 ∷ 122 ∷ 58 ∷ 32 ∷ 83 ∷ 69 ∷ 84 ∷ 32 ∷ 69 ∷ 78 ∷ 68 ∷ 59 ∷ 32 ∷ 80 ∷ 32 ∷ 61 ∷ 32 ∷ 80 ∷ 79 ∷ 73 ∷ 78 ∷ 84 ∷ 69 ∷ 82 ∷ 32 ∷ 84 ∷ 79 ∷ 32 ∷ 82 ∷ 59 ∷ 32 ∷ 81 ∷ 32 ∷ 61 ∷ 32 ∷ 80 ∷ 79 ∷ 73 ∷ 78 ∷ 84 ∷ 69 ∷ 82 ∷ 32 ∷ 84 ∷ 79 ∷ 32 ∷ 69 ∷ 59 ∷ 32 ∷ 86 ∷ 65 ∷ 82 ∷ 32 ∷ 112 ∷ 58 ∷ 32 ∷ 80 ∷ 59 ∷ 32 ∷ 113 ∷ 58 ∷ 32 ∷ 81 ∷ 59 ∷ 32 ∷ 66 ∷ 69 ∷ 71 ∷ 73 ∷ 78 ∷ 32 ∷ 112 ∷ 32 ∷ 58 ∷ 61 ∷ 32 ∷ 113 ∷ 40 ∷ 80 ∷ 41 ∷ 32 ∷ 69 ∷ 78 ∷ 68 ∷ 32 ∷ 77 ∷ 46 ∷ []); symbols = (symbol (Ident) 0 6 ∷ symbol (Ident) 7 8 ∷ symbol (Ident) 8 9 ∷ symbol (Ident) 10 14 ∷ symbol (Ident) 15 16 ∷ symbol (Ident) 17 18 ∷ symbol (Ident) 19 25 ∷ symbol (Ident) 26 27 ∷ symbol (Ident) 27 28 ∷ symbol (Ident) 29 36 ∷ symbol (Ident) 36 37 ∷ symbol (Ident) 38 39 ∷ symbol (Ident) 39 40 ∷ symbol (Ident) 40 41 ∷ symbol (Ident) 42 46 ∷ symbol (Ident) 47 50 ∷ symbol (Ident) 50 51 ∷ symbol (Ident) 52 53 ∷ symbol (Ident) 54 55 ∷ symbol (Ident) 56 62 ∷ symbol (Ident) 63 64 ∷ symbol (Ident) 64 65 ∷ symbol (Ident) 65 66 ∷ symbol (Ident) 67 68 ∷ symbol (Ident) 68 69 ∷ symbol (Ident) 70 73 ∷ symbol (Ident) 74 77 ∷ symbol (Ident) 77 78 ∷ symbol (Ident) 79 80 ∷ symbol (Ident) 81 82 ∷ symbol (Ident) 83 90 ∷ symbol (Ident) 91 93 ∷ symbol (Ident) 94 95 ∷ symbol (Ident) 95 96 ∷ symbol (Ident) 97 98 ∷ symbol (Ident) 99 100 ∷ symbol (Ident) 101 108 ∷ symbol (Ident) 109 111 ∷ symbol (Ident) 112 113 ∷ symbol (Ident) 113 114 ∷ symbol (Ident) 115 118 ∷ symbol (Ident) 119 120 ∷ symbol (Ident) 120 121 ∷ symbol (Ident) 122 123 ∷ symbol (Ident) 123 124 ∷ symbol (Ident) 125 126 ∷ symbol (Ident) 126 127 ∷ symbol (Ident) 128 129 ∷ symbol (Ident) 129 130 ∷ symbol (Ident) 131 136 ∷ symbol (Ident) 137 138 ∷ symbol (Ident) 139 141 ∷ symbol (Ident) 142 143 ∷ symbol (Ident) 143 144 ∷ symbol (Ident) 144 145 ∷ symbol (Ident) 145 146 ∷ symbol (Ident) 147 150 ∷ symbol (Ident) 151 152 ∷ symbol (Ident) 152 153 ∷ []) }; tree = record { module_word = 0; name = 1; semicolon = 0; imports = None; decls = (S.decls None (Some (record { type_word = 0; each = (record { name = (record { name = 4; star = None }); equal = 0; is = (S.Record 6 None (S.fields (record { first = (record { name = 7; star = None }); more = [] }) 0 (S.Named (record { name = 9; member = None }))) (S.next_fields 0 (S.fields (record { first = (record { name = 11; star = Some 0 }); more = [] }) 0 (S.Named (record { name = 14; member = None }))) S.no_more_fields) 0); semicolon = 0 } ∷ record { name = (record { name = 17; star = None }); equal = 0; is = (S.Record 19 (Some (record { left_paren = 0; name = (record { name = 21; member = None }); right_paren = 0 })) (S.fields (record { first = (record { name = 23; star = None }); more = [] }) 0 (S.Named (record { name = 25; member = None }))) S.no_more_fields 0); semicolon = 0 } ∷ record { name = (record { name = 28; star = None }); equal = 0; is = (S.Pointer 30 0 (S.Named (record { name = 32; member = None }))); semicolon = 0 } ∷ record { name = (record { name = 34; star = None }); equal = 0; is = (S.Pointer 36 0 (S.Named (record { name = 38; member = None }))); semicolon = 0 } ∷ []) })) (Some (record { var_word = 0; each = (record { names = (record { first = (record { name = 41; star = None }); more = [] }); colon = 0; of = (S.Named (record { name = 43; member = None })); semicolon = 0 } ∷ record { names = (record { first = (record { name = 45; star = None }); more = [] }); colon = 0; of = (S.Named (record { name = 47; member = None })); semicolon = 0 } ∷ []) })) S.no_procedure); body = (Some (record { begin_word = 0; stats = (S.stats (S.AssignOrCall (record { name = 50; selectors = S.no_selector }) (Some (record { becomes = 0; value = (S.only (S.simple None (S.term (S.Designated 52 (S.selected (S.Parens 0 (S.expressions (S.only (S.simple None (S.term (S.Designated 54 S.no_selector) S.no_factor) S.no_term)) S.no_expression) 0) S.no_selector)) S.no_factor) S.no_term)) }))) S.no_stat) })); end_word = 0; end_name = 57; period = 0 } }

pub type_mismatch_83 : checked (type_mismatch_83_0 ∷ []) ≡ Fault 0 31 142
type_mismatch_83 = refl

-- MODULE M; TYPE R = RECORD x: INTEGER; y*: CHAR END; E = RECORD (R) z: SET END; P = POINTER TO R; Q = POINTER TO E; VAR i: INTEGER; p: P; q: Q; BEGIN q := p(i) END M.
abbrev type_mismatch_84_0 : Parsed
type_mismatch_84_0 = record { source = record { bytes = (77 ∷ 79 ∷ 68 ∷ 85 ∷ 76 ∷ 69 ∷ 32 ∷ 77 ∷ 59 ∷ 32 ∷ 84 ∷ 89 ∷ 80 ∷ 69 ∷ 32 ∷ 82 ∷ 32 ∷ 61 ∷ 32 ∷ 82 ∷ 69 ∷ 67 ∷ 79 ∷ 82 ∷ 68 ∷ 32 ∷ 120 ∷ 58 ∷ 32 ∷ 73 ∷ 78 ∷ 84 ∷ 69 ∷ 71 ∷ 69 ∷ 82 ∷ 59 ∷ 32 ∷ 121 ∷ 42 ∷ 58 ∷ 32 ∷ 67 ∷ 72 ∷ 65 ∷ 82 ∷ 32 ∷ 69 ∷ 78 ∷ 68 ∷ 59 ∷ 32 ∷ 69 ∷ 32 ∷ 61 ∷ 32 ∷ 82 ∷ 69 ∷ 67 ∷ 79 ∷ 82 ∷ 68 ∷ 32 ∷ 40 ∷ 82 ∷ 41 ∷ 32 ∷ 122 ∷ 58 ∷ 32 ∷ 83 ∷ 69 ∷ 84 ∷ 32 ∷ 69 ∷ 78 ∷ 68 ∷ 59 ∷ 32 ∷ 80 ∷ 32 ∷ 61 ∷ 32 ∷ 80 ∷ 79 ∷ 73 ∷ 78 ∷ 84 ∷ 69 ∷ 82 ∷ 32 ∷ 84 ∷ 79 ∷ 32 ∷ 82 ∷ 59 ∷ 32 ∷ 81 ∷ 32 ∷ 61 ∷ 32 ∷ 80 ∷ 79 ∷ 73 ∷ 78 ∷ 84 ∷ 69 ∷ 82 ∷ 32 ∷ 84 ∷ 79 ∷ 32 ∷ 69 ∷ 59 ∷ 32 ∷ 86 ∷ 65 ∷ 82 ∷ 32 ∷ 105 ∷ 58 ∷ 32 ∷ 73 ∷ 78 ∷ 84 ∷ 69 ∷ 71 ∷ 69 ∷ 82 ∷ 59 ∷ 32 ∷ 112 ∷ 58 ∷ 32 ∷ 80 ∷ 59 ∷ 32 ∷ 113 ∷ 58 ∷ 32 ∷ 81 ∷ 59 ∷ 32 ∷ 66 ∷ 69 ∷ 71 ∷ 73 ∷ 78 ∷ 32 ∷ 113 ∷ 32 ∷ 58 ∷ 61 ∷ 32 ∷ 112 ∷ 40 ∷ 105 ∷ 41 ∷ 32 ∷ 69 ∷ 78 ∷ 68 ∷ 32 ∷ 77 ∷ 46 ∷ []); symbols = (symbol (Ident) 0 6 ∷ symbol (Ident) 7 8 ∷ symbol (Ident) 8 9 ∷ symbol (Ident) 10 14 ∷ symbol (Ident) 15 16 ∷ symbol (Ident) 17 18 ∷ symbol (Ident) 19 25 ∷ symbol (Ident) 26 27 ∷ symbol (Ident) 27 28 ∷ symbol (Ident) 29 36 ∷ symbol (Ident) 36 37 ∷ symbol (Ident) 38 39 ∷ symbol (Ident) 39 40 ∷ symbol (Ident) 40 41 ∷ symbol (Ident) 42 46 ∷ symbol (Ident) 47 50 ∷ symbol (Ident) 50 51 ∷ symbol (Ident) 52 53 ∷ symbol (Ident) 54 55 ∷ symbol (Ident) 56 62 ∷ symbol (Ident) 63 64 ∷ symbol (Ident) 64 65 ∷ symbol (Ident) 65 66 ∷ symbol (Ident) 67 68 ∷ symbol (Ident) 68 69 ∷ symbol (Ident) 70 73 ∷ symbol (Ident) 74 77 ∷ symbol (Ident) 77 78 ∷ symbol (Ident) 79 80 ∷ symbol (Ident) 81 82 ∷ symbol (Ident) 83 90 ∷ symbol (Ident) 91 93 ∷ symbol (Ident) 94 95 ∷ symbol (Ident) 95 96 ∷ symbol (Ident) 97 98 ∷ symbol (Ident) 99 100 ∷ symbol (Ident) 101 108 ∷ symbol (Ident) 109 111 ∷ symbol (Ident) 112 113 ∷ symbol (Ident) 113 114 ∷ symbol (Ident) 115 118 ∷ symbol (Ident) 119 120 ∷ symbol (Ident) 120 121 ∷ symbol (Ident) 122 129 ∷ symbol (Ident) 129 130 ∷ symbol (Ident) 131 132 ∷ symbol (Ident) 132 133 ∷ symbol (Ident) 134 135 ∷ symbol (Ident) 135 136 ∷ symbol (Ident) 137 138 ∷ symbol (Ident) 138 139 ∷ symbol (Ident) 140 141 ∷ symbol (Ident) 141 142 ∷ symbol (Ident) 143 148 ∷ symbol (Ident) 149 150 ∷ symbol (Ident) 151 153 ∷ symbol (Ident) 154 155 ∷ symbol (Ident) 155 156 ∷ symbol (Ident) 156 157 ∷ symbol (Ident) 157 158 ∷ symbol (Ident) 159 162 ∷ symbol (Ident) 163 164 ∷ symbol (Ident) 164 165 ∷ []) }; tree = record { module_word = 0; name = 1; semicolon = 0; imports = None; decls = (S.decls None (Some (record { type_word = 0; each = (record { name = (record { name = 4; star = None }); equal = 0; is = (S.Record 6 None (S.fields (record { first = (record { name = 7; star = None }); more = [] }) 0 (S.Named (record { name = 9; member = None }))) (S.next_fields 0 (S.fields (record { first = (record { name = 11; star = Some 0 }); more = [] }) 0 (S.Named (record { name = 14; member = None }))) S.no_more_fields) 0); semicolon = 0 } ∷ record { name = (record { name = 17; star = None }); equal = 0; is = (S.Record 19 (Some (record { left_paren = 0; name = (record { name = 21; member = None }); right_paren = 0 })) (S.fields (record { first = (record { name = 23; star = None }); more = [] }) 0 (S.Named (record { name = 25; member = None }))) S.no_more_fields 0); semicolon = 0 } ∷ record { name = (record { name = 28; star = None }); equal = 0; is = (S.Pointer 30 0 (S.Named (record { name = 32; member = None }))); semicolon = 0 } ∷ record { name = (record { name = 34; star = None }); equal = 0; is = (S.Pointer 36 0 (S.Named (record { name = 38; member = None }))); semicolon = 0 } ∷ []) })) (Some (record { var_word = 0; each = (record { names = (record { first = (record { name = 41; star = None }); more = [] }); colon = 0; of = (S.Named (record { name = 43; member = None })); semicolon = 0 } ∷ record { names = (record { first = (record { name = 45; star = None }); more = [] }); colon = 0; of = (S.Named (record { name = 47; member = None })); semicolon = 0 } ∷ record { names = (record { first = (record { name = 49; star = None }); more = [] }); colon = 0; of = (S.Named (record { name = 51; member = None })); semicolon = 0 } ∷ []) })) S.no_procedure); body = (Some (record { begin_word = 0; stats = (S.stats (S.AssignOrCall (record { name = 54; selectors = S.no_selector }) (Some (record { becomes = 0; value = (S.only (S.simple None (S.term (S.Designated 56 (S.selected (S.Parens 0 (S.expressions (S.only (S.simple None (S.term (S.Designated 58 S.no_selector) S.no_factor) S.no_term)) S.no_expression) 0) S.no_selector)) S.no_factor) S.no_term)) }))) S.no_stat) })); end_word = 0; end_name = 61; period = 0 } }

pub type_mismatch_84 : checked (type_mismatch_84_0 ∷ []) ≡ Fault 0 31 156
type_mismatch_84 = refl

-- MODULE M; TYPE R = RECORD x: INTEGER; y*: CHAR END; E = RECORD (R) z: SET END; P = POINTER TO R; Q = POINTER TO E; VAR p: P; q: Q; BEGIN q := p(1) END M.
abbrev type_mismatch_85_0 : Parsed
type_mismatch_85_0 = record { source = record { bytes = (77 ∷ 79 ∷ 68 ∷ 85 ∷ 76 ∷ 69 ∷ 32 ∷ 77 ∷ 59 ∷ 32 ∷ 84 ∷ 89 ∷ 80 ∷ 69 ∷ 32 ∷ 82 ∷ 32 ∷ 61 ∷ 32 ∷ 82 ∷ 69 ∷ 67 ∷ 79 ∷ 82 ∷ 68 ∷ 32 ∷ 120 ∷ 58 ∷ 32 ∷ 73 ∷ 78 ∷ 84 ∷ 69 ∷ 71 ∷ 69 ∷ 82 ∷ 59 ∷ 32 ∷ 121 ∷ 42 ∷ 58 ∷ 32 ∷ 67 ∷ 72 ∷ 65 ∷ 82 ∷ 32 ∷ 69 ∷ 78 ∷ 68 ∷ 59 ∷ 32 ∷ 69 ∷ 32 ∷ 61 ∷ 32 ∷ 82 ∷ 69 ∷ 67 ∷ 79 ∷ 82 ∷ 68 ∷ 32 ∷ 40 ∷ 82 ∷ 41 ∷ 32 ∷ 122 ∷ 58 ∷ 32 ∷ 83 ∷ 69 ∷ 84 ∷ 32 ∷ 69 ∷ 78 ∷ 68 ∷ 59 ∷ 32 ∷ 80 ∷ 32 ∷ 61 ∷ 32 ∷ 80 ∷ 79 ∷ 73 ∷ 78 ∷ 84 ∷ 69 ∷ 82 ∷ 32 ∷ 84 ∷ 79 ∷ 32 ∷ 82 ∷ 59 ∷ 32 ∷ 81 ∷ 32 ∷ 61 ∷ 32 ∷ 80 ∷ 79 ∷ 73 ∷ 78 ∷ 84 ∷ 69 ∷ 82 ∷ 32 ∷ 84 ∷ 79 ∷ 32 ∷ 69 ∷ 59 ∷ 32 ∷ 86 ∷ 65 ∷ 82 ∷ 32 ∷ 112 ∷ 58 ∷ 32 ∷ 80 ∷ 59 ∷ 32 ∷ 113 ∷ 58 ∷ 32 ∷ 81 ∷ 59 ∷ 32 ∷ 66 ∷ 69 ∷ 71 ∷ 73 ∷ 78 ∷ 32 ∷ 113 ∷ 32 ∷ 58 ∷ 61 ∷ 32 ∷ 112 ∷ 40 ∷ 49 ∷ 41 ∷ 32 ∷ 69 ∷ 78 ∷ 68 ∷ 32 ∷ 77 ∷ 46 ∷ []); symbols = (symbol (Ident) 0 6 ∷ symbol (Ident) 7 8 ∷ symbol (Ident) 8 9 ∷ symbol (Ident) 10 14 ∷ symbol (Ident) 15 16 ∷ symbol (Ident) 17 18 ∷ symbol (Ident) 19 25 ∷ symbol (Ident) 26 27 ∷ symbol (Ident) 27 28 ∷ symbol (Ident) 29 36 ∷ symbol (Ident) 36 37 ∷ symbol (Ident) 38 39 ∷ symbol (Ident) 39 40 ∷ symbol (Ident) 40 41 ∷ symbol (Ident) 42 46 ∷ symbol (Ident) 47 50 ∷ symbol (Ident) 50 51 ∷ symbol (Ident) 52 53 ∷ symbol (Ident) 54 55 ∷ symbol (Ident) 56 62 ∷ symbol (Ident) 63 64 ∷ symbol (Ident) 64 65 ∷ symbol (Ident) 65 66 ∷ symbol (Ident) 67 68 ∷ symbol (Ident) 68 69 ∷ symbol (Ident) 70 73 ∷ symbol (Ident) 74 77 ∷ symbol (Ident) 77 78 ∷ symbol (Ident) 79 80 ∷ symbol (Ident) 81 82 ∷ symbol (Ident) 83 90 ∷ symbol (Ident) 91 93 ∷ symbol (Ident) 94 95 ∷ symbol (Ident) 95 96 ∷ symbol (Ident) 97 98 ∷ symbol (Ident) 99 100 ∷ symbol (Ident) 101 108 ∷ symbol (Ident) 109 111 ∷ symbol (Ident) 112 113 ∷ symbol (Ident) 113 114 ∷ symbol (Ident) 115 118 ∷ symbol (Ident) 119 120 ∷ symbol (Ident) 120 121 ∷ symbol (Ident) 122 123 ∷ symbol (Ident) 123 124 ∷ symbol (Ident) 125 126 ∷ symbol (Ident) 126 127 ∷ symbol (Ident) 128 129 ∷ symbol (Ident) 129 130 ∷ symbol (Ident) 131 136 ∷ symbol (Ident) 137 138 ∷ symbol (Ident) 139 141 ∷ symbol (Ident) 142 143 ∷ symbol (Ident) 143 144 ∷ symbol (Int (pos 1)) 144 145 ∷ symbol (Ident) 145 146 ∷ symbol (Ident) 147 150 ∷ symbol (Ident) 151 152 ∷ symbol (Ident) 152 153 ∷ []) }; tree = record { module_word = 0; name = 1; semicolon = 0; imports = None; decls = (S.decls None (Some (record { type_word = 0; each = (record { name = (record { name = 4; star = None }); equal = 0; is = (S.Record 6 None (S.fields (record { first = (record { name = 7; star = None }); more = [] }) 0 (S.Named (record { name = 9; member = None }))) (S.next_fields 0 (S.fields (record { first = (record { name = 11; star = Some 0 }); more = [] }) 0 (S.Named (record { name = 14; member = None }))) S.no_more_fields) 0); semicolon = 0 } ∷ record { name = (record { name = 17; star = None }); equal = 0; is = (S.Record 19 (Some (record { left_paren = 0; name = (record { name = 21; member = None }); right_paren = 0 })) (S.fields (record { first = (record { name = 23; star = None }); more = [] }) 0 (S.Named (record { name = 25; member = None }))) S.no_more_fields 0); semicolon = 0 } ∷ record { name = (record { name = 28; star = None }); equal = 0; is = (S.Pointer 30 0 (S.Named (record { name = 32; member = None }))); semicolon = 0 } ∷ record { name = (record { name = 34; star = None }); equal = 0; is = (S.Pointer 36 0 (S.Named (record { name = 38; member = None }))); semicolon = 0 } ∷ []) })) (Some (record { var_word = 0; each = (record { names = (record { first = (record { name = 41; star = None }); more = [] }); colon = 0; of = (S.Named (record { name = 43; member = None })); semicolon = 0 } ∷ record { names = (record { first = (record { name = 45; star = None }); more = [] }); colon = 0; of = (S.Named (record { name = 47; member = None })); semicolon = 0 } ∷ []) })) S.no_procedure); body = (Some (record { begin_word = 0; stats = (S.stats (S.AssignOrCall (record { name = 50; selectors = S.no_selector }) (Some (record { becomes = 0; value = (S.only (S.simple None (S.term (S.Designated 52 (S.selected (S.Parens 0 (S.expressions (S.only (S.simple None (S.term (S.Int 54) S.no_factor) S.no_term)) S.no_expression) 0) S.no_selector)) S.no_factor) S.no_term)) }))) S.no_stat) })); end_word = 0; end_name = 57; period = 0 } }

pub type_mismatch_85 : checked (type_mismatch_85_0 ∷ []) ≡ Fault 0 31 142
type_mismatch_85 = refl

-- MODULE M; TYPE R = RECORD x: INTEGER; y*: CHAR END; E = RECORD (R) z: SET END; P = POINTER TO R; Q = POINTER TO E; VAR p: P; q: Q; BEGIN q := p(Q, Q) END M.
abbrev type_mismatch_86_0 : Parsed
type_mismatch_86_0 = record { source = record { bytes = (77 ∷ 79 ∷ 68 ∷ 85 ∷ 76 ∷ 69 ∷ 32 ∷ 77 ∷ 59 ∷ 32 ∷ 84 ∷ 89 ∷ 80 ∷ 69 ∷ 32 ∷ 82 ∷ 32 ∷ 61 ∷ 32 ∷ 82 ∷ 69 ∷ 67 ∷ 79 ∷ 82 ∷ 68 ∷ 32 ∷ 120 ∷ 58 ∷ 32 ∷ 73 ∷ 78 ∷ 84 ∷ 69 ∷ 71 ∷ 69 ∷ 82 ∷ 59 ∷ 32 ∷ 121 ∷ 42 ∷ 58 ∷ 32 ∷ 67 ∷ 72 ∷ 65 ∷ 82 ∷ 32 ∷ 69 ∷ 78 ∷ 68 ∷ 59 ∷ 32 ∷ 69 ∷ 32 ∷ 61 ∷ 32 ∷ 82 ∷ 69 ∷ 67 ∷ 79 ∷ 82 ∷ 68 ∷ 32 ∷ 40 ∷ 82 ∷ 41 ∷ 32 ∷ 122 ∷ 58 ∷ 32 ∷ 83 ∷ 69 ∷ 84 ∷ 32 ∷ 69 ∷ 78 ∷ 68 ∷ 59 ∷ 32 ∷ 80 ∷ 32 ∷ 61 ∷ 32 ∷ 80 ∷ 79 ∷ 73 ∷ 78 ∷ 84 ∷ 69 ∷ 82 ∷ 32 ∷ 84 ∷ 79 ∷ 32 ∷ 82 ∷ 59 ∷ 32 ∷ 81 ∷ 32 ∷ 61 ∷ 32 ∷ 80 ∷ 79 ∷ 73 ∷ 78 ∷ 84 ∷ 69 ∷ 82 ∷ 32 ∷ 84 ∷ 79 ∷ 32 ∷ 69 ∷ 59 ∷ 32 ∷ 86 ∷ 65 ∷ 82 ∷ 32 ∷ 112 ∷ 58 ∷ 32 ∷ 80 ∷ 59 ∷ 32 ∷ 113 ∷ 58 ∷ 32 ∷ 81 ∷ 59 ∷ 32 ∷ 66 ∷ 69 ∷ 71 ∷ 73 ∷ 78 ∷ 32 ∷ 113 ∷ 32 ∷ 58 ∷ 61 ∷ 32 ∷ 112 ∷ 40 ∷ 81 ∷ 44 ∷ 32 ∷ 81 ∷ 41 ∷ 32 ∷ 69 ∷ 78 ∷ 68 ∷ 32 ∷ 77 ∷ 46 ∷ []); symbols = (symbol (Ident) 0 6 ∷ symbol (Ident) 7 8 ∷ symbol (Ident) 8 9 ∷ symbol (Ident) 10 14 ∷ symbol (Ident) 15 16 ∷ symbol (Ident) 17 18 ∷ symbol (Ident) 19 25 ∷ symbol (Ident) 26 27 ∷ symbol (Ident) 27 28 ∷ symbol (Ident) 29 36 ∷ symbol (Ident) 36 37 ∷ symbol (Ident) 38 39 ∷ symbol (Ident) 39 40 ∷ symbol (Ident) 40 41 ∷ symbol (Ident) 42 46 ∷ symbol (Ident) 47 50 ∷ symbol (Ident) 50 51 ∷ symbol (Ident) 52 53 ∷ symbol (Ident) 54 55 ∷ symbol (Ident) 56 62 ∷ symbol (Ident) 63 64 ∷ symbol (Ident) 64 65 ∷ symbol (Ident) 65 66 ∷ symbol (Ident) 67 68 ∷ symbol (Ident) 68 69 ∷ symbol (Ident) 70 73 ∷ symbol (Ident) 74 77 ∷ symbol (Ident) 77 78 ∷ symbol (Ident) 79 80 ∷ symbol (Ident) 81 82 ∷ symbol (Ident) 83 90 ∷ symbol (Ident) 91 93 ∷ symbol (Ident) 94 95 ∷ symbol (Ident) 95 96 ∷ symbol (Ident) 97 98 ∷ symbol (Ident) 99 100 ∷ symbol (Ident) 101 108 ∷ symbol (Ident) 109 111 ∷ symbol (Ident) 112 113 ∷ symbol (Ident) 113 114 ∷ symbol (Ident) 115 118 ∷ symbol (Ident) 119 120 ∷ symbol (Ident) 120 121 ∷ symbol (Ident) 122 123 ∷ symbol (Ident) 123 124 ∷ symbol (Ident) 125 126 ∷ symbol (Ident) 126 127 ∷ symbol (Ident) 128 129 ∷ symbol (Ident) 129 130 ∷ symbol (Ident) 131 136 ∷ symbol (Ident) 137 138 ∷ symbol (Ident) 139 141 ∷ symbol (Ident) 142 143 ∷ symbol (Ident) 143 144 ∷ symbol (Ident) 144 145 ∷ symbol (Ident) 145 146 ∷ symbol (Ident) 147 148 ∷ symbol (Ident) 148 149 ∷ symbol (Ident) 150 153 ∷ symbol (Ident) 154 155 ∷ symbol (Ident) 155 156 ∷ []) }; tree = record { module_word = 0; name = 1; semicolon = 0; imports = None; decls = (S.decls None (Some (record { type_word = 0; each = (record { name = (record { name = 4; star = None }); equal = 0; is = (S.Record 6 None (S.fields (record { first = (record { name = 7; star = None }); more = [] }) 0 (S.Named (record { name = 9; member = None }))) (S.next_fields 0 (S.fields (record { first = (record { name = 11; star = Some 0 }); more = [] }) 0 (S.Named (record { name = 14; member = None }))) S.no_more_fields) 0); semicolon = 0 } ∷ record { name = (record { name = 17; star = None }); equal = 0; is = (S.Record 19 (Some (record { left_paren = 0; name = (record { name = 21; member = None }); right_paren = 0 })) (S.fields (record { first = (record { name = 23; star = None }); more = [] }) 0 (S.Named (record { name = 25; member = None }))) S.no_more_fields 0); semicolon = 0 } ∷ record { name = (record { name = 28; star = None }); equal = 0; is = (S.Pointer 30 0 (S.Named (record { name = 32; member = None }))); semicolon = 0 } ∷ record { name = (record { name = 34; star = None }); equal = 0; is = (S.Pointer 36 0 (S.Named (record { name = 38; member = None }))); semicolon = 0 } ∷ []) })) (Some (record { var_word = 0; each = (record { names = (record { first = (record { name = 41; star = None }); more = [] }); colon = 0; of = (S.Named (record { name = 43; member = None })); semicolon = 0 } ∷ record { names = (record { first = (record { name = 45; star = None }); more = [] }); colon = 0; of = (S.Named (record { name = 47; member = None })); semicolon = 0 } ∷ []) })) S.no_procedure); body = (Some (record { begin_word = 0; stats = (S.stats (S.AssignOrCall (record { name = 50; selectors = S.no_selector }) (Some (record { becomes = 0; value = (S.only (S.simple None (S.term (S.Designated 52 (S.selected (S.Parens 0 (S.expressions (S.only (S.simple None (S.term (S.Designated 54 S.no_selector) S.no_factor) S.no_term)) (S.next_expression 0 (S.only (S.simple None (S.term (S.Designated 56 S.no_selector) S.no_factor) S.no_term)) S.no_expression)) 0) S.no_selector)) S.no_factor) S.no_term)) }))) S.no_stat) })); end_word = 0; end_name = 59; period = 0 } }

pub type_mismatch_86 : checked (type_mismatch_86_0 ∷ []) ≡ Fault 0 31 144
type_mismatch_86 = refl

-- MODULE M; TYPE R = RECORD x: INTEGER; y*: CHAR END; E = RECORD (R) z: SET END; P = POINTER TO R; Q = POINTER TO E; VAR p: P; q: Q; BEGIN q := p(p.x) END M.
abbrev type_mismatch_87_0 : Parsed
type_mismatch_87_0 = record { source = record { bytes = (77 ∷ 79 ∷ 68 ∷ 85 ∷ 76 ∷ 69 ∷ 32 ∷ 77 ∷ 59 ∷ 32 ∷ 84 ∷ 89 ∷ 80 ∷ 69 ∷ 32 ∷ 82 ∷ 32 ∷ 61 ∷ 32 ∷ 82 ∷ 69 ∷ 67 ∷ 79 ∷ 82 ∷ 68 ∷ 32 ∷ 120 ∷ 58 ∷ 32 ∷ 73 ∷ 78 ∷ 84 ∷ 69 ∷ 71 ∷ 69 ∷ 82 ∷ 59 ∷ 32 ∷ 121 ∷ 42 ∷ 58 ∷ 32 ∷ 67 ∷ 72 ∷ 65 ∷ 82 ∷ 32 ∷ 69 ∷ 78 ∷ 68 ∷ 59 ∷ 32 ∷ 69 ∷ 32 ∷ 61 ∷ 32 ∷ 82 ∷ 69 ∷ 67 ∷ 79 ∷ 82 ∷ 68 ∷ 32 ∷ 40 ∷ 82 ∷ 41 ∷ 32 ∷ 122 ∷ 58 ∷ 32 ∷ 83 ∷ 69 ∷ 84 ∷ 32 ∷ 69 ∷ 78 ∷ 68 ∷ 59 ∷ 32 ∷ 80 ∷ 32 ∷ 61 ∷ 32 ∷ 80 ∷ 79 ∷ 73 ∷ 78 ∷ 84 ∷ 69 ∷ 82 ∷ 32 ∷ 84 ∷ 79 ∷ 32 ∷ 82 ∷ 59 ∷ 32 ∷ 81 ∷ 32 ∷ 61 ∷ 32 ∷ 80 ∷ 79 ∷ 73 ∷ 78 ∷ 84 ∷ 69 ∷ 82 ∷ 32 ∷ 84 ∷ 79 ∷ 32 ∷ 69 ∷ 59 ∷ 32 ∷ 86 ∷ 65 ∷ 82 ∷ 32 ∷ 112 ∷ 58 ∷ 32 ∷ 80 ∷ 59 ∷ 32 ∷ 113 ∷ 58 ∷ 32 ∷ 81 ∷ 59 ∷ 32 ∷ 66 ∷ 69 ∷ 71 ∷ 73 ∷ 78 ∷ 32 ∷ 113 ∷ 32 ∷ 58 ∷ 61 ∷ 32 ∷ 112 ∷ 40 ∷ 112 ∷ 46 ∷ 120 ∷ 41 ∷ 32 ∷ 69 ∷ 78 ∷ 68 ∷ 32 ∷ 77 ∷ 46 ∷ []); symbols = (symbol (Ident) 0 6 ∷ symbol (Ident) 7 8 ∷ symbol (Ident) 8 9 ∷ symbol (Ident) 10 14 ∷ symbol (Ident) 15 16 ∷ symbol (Ident) 17 18 ∷ symbol (Ident) 19 25 ∷ symbol (Ident) 26 27 ∷ symbol (Ident) 27 28 ∷ symbol (Ident) 29 36 ∷ symbol (Ident) 36 37 ∷ symbol (Ident) 38 39 ∷ symbol (Ident) 39 40 ∷ symbol (Ident) 40 41 ∷ symbol (Ident) 42 46 ∷ symbol (Ident) 47 50 ∷ symbol (Ident) 50 51 ∷ symbol (Ident) 52 53 ∷ symbol (Ident) 54 55 ∷ symbol (Ident) 56 62 ∷ symbol (Ident) 63 64 ∷ symbol (Ident) 64 65 ∷ symbol (Ident) 65 66 ∷ symbol (Ident) 67 68 ∷ symbol (Ident) 68 69 ∷ symbol (Ident) 70 73 ∷ symbol (Ident) 74 77 ∷ symbol (Ident) 77 78 ∷ symbol (Ident) 79 80 ∷ symbol (Ident) 81 82 ∷ symbol (Ident) 83 90 ∷ symbol (Ident) 91 93 ∷ symbol (Ident) 94 95 ∷ symbol (Ident) 95 96 ∷ symbol (Ident) 97 98 ∷ symbol (Ident) 99 100 ∷ symbol (Ident) 101 108 ∷ symbol (Ident) 109 111 ∷ symbol (Ident) 112 113 ∷ symbol (Ident) 113 114 ∷ symbol (Ident) 115 118 ∷ symbol (Ident) 119 120 ∷ symbol (Ident) 120 121 ∷ symbol (Ident) 122 123 ∷ symbol (Ident) 123 124 ∷ symbol (Ident) 125 126 ∷ symbol (Ident) 126 127 ∷ symbol (Ident) 128 129 ∷ symbol (Ident) 129 130 ∷ symbol (Ident) 131 136 ∷ symbol (Ident) 137 138 ∷ symbol (Ident) 139 141 ∷ symbol (Ident) 142 143 ∷ symbol (Ident) 143 144 ∷ symbol (Ident) 144 145 ∷ symbol (Ident) 145 146 ∷ symbol (Ident) 146 147 ∷ symbol (Ident) 147 148 ∷ symbol (Ident) 149 152 ∷ symbol (Ident) 153 154 ∷ symbol (Ident) 154 155 ∷ []) }; tree = record { module_word = 0; name = 1; semicolon = 0; imports = None; decls = (S.decls None (Some (record { type_word = 0; each = (record { name = (record { name = 4; star = None }); equal = 0; is = (S.Record 6 None (S.fields (record { first = (record { name = 7; star = None }); more = [] }) 0 (S.Named (record { name = 9; member = None }))) (S.next_fields 0 (S.fields (record { first = (record { name = 11; star = Some 0 }); more = [] }) 0 (S.Named (record { name = 14; member = None }))) S.no_more_fields) 0); semicolon = 0 } ∷ record { name = (record { name = 17; star = None }); equal = 0; is = (S.Record 19 (Some (record { left_paren = 0; name = (record { name = 21; member = None }); right_paren = 0 })) (S.fields (record { first = (record { name = 23; star = None }); more = [] }) 0 (S.Named (record { name = 25; member = None }))) S.no_more_fields 0); semicolon = 0 } ∷ record { name = (record { name = 28; star = None }); equal = 0; is = (S.Pointer 30 0 (S.Named (record { name = 32; member = None }))); semicolon = 0 } ∷ record { name = (record { name = 34; star = None }); equal = 0; is = (S.Pointer 36 0 (S.Named (record { name = 38; member = None }))); semicolon = 0 } ∷ []) })) (Some (record { var_word = 0; each = (record { names = (record { first = (record { name = 41; star = None }); more = [] }); colon = 0; of = (S.Named (record { name = 43; member = None })); semicolon = 0 } ∷ record { names = (record { first = (record { name = 45; star = None }); more = [] }); colon = 0; of = (S.Named (record { name = 47; member = None })); semicolon = 0 } ∷ []) })) S.no_procedure); body = (Some (record { begin_word = 0; stats = (S.stats (S.AssignOrCall (record { name = 50; selectors = S.no_selector }) (Some (record { becomes = 0; value = (S.only (S.simple None (S.term (S.Designated 52 (S.selected (S.Parens 0 (S.expressions (S.only (S.simple None (S.term (S.Designated 54 (S.selected (S.Field 0 56) S.no_selector)) S.no_factor) S.no_term)) S.no_expression) 0) S.no_selector)) S.no_factor) S.no_term)) }))) S.no_stat) })); end_word = 0; end_name = 59; period = 0 } }

pub type_mismatch_87 : checked (type_mismatch_87_0 ∷ []) ≡ Fault 0 31 144
type_mismatch_87 = refl

-- MODULE M; TYPE R = RECORD x: INTEGER; y*: CHAR END; VAR r: R; BEGIN r := r(R) END M.
abbrev type_mismatch_88_0 : Parsed
type_mismatch_88_0 = record { source = record { bytes = (77 ∷ 79 ∷ 68 ∷ 85 ∷ 76 ∷ 69 ∷ 32 ∷ 77 ∷ 59 ∷ 32 ∷ 84 ∷ 89 ∷ 80 ∷ 69 ∷ 32 ∷ 82 ∷ 32 ∷ 61 ∷ 32 ∷ 82 ∷ 69 ∷ 67 ∷ 79 ∷ 82 ∷ 68 ∷ 32 ∷ 120 ∷ 58 ∷ 32 ∷ 73 ∷ 78 ∷ 84 ∷ 69 ∷ 71 ∷ 69 ∷ 82 ∷ 59 ∷ 32 ∷ 121 ∷ 42 ∷ 58 ∷ 32 ∷ 67 ∷ 72 ∷ 65 ∷ 82 ∷ 32 ∷ 69 ∷ 78 ∷ 68 ∷ 59 ∷ 32 ∷ 86 ∷ 65 ∷ 82 ∷ 32 ∷ 114 ∷ 58 ∷ 32 ∷ 82 ∷ 59 ∷ 32 ∷ 66 ∷ 69 ∷ 71 ∷ 73 ∷ 78 ∷ 32 ∷ 114 ∷ 32 ∷ 58 ∷ 61 ∷ 32 ∷ 114 ∷ 40 ∷ 82 ∷ 41 ∷ 32 ∷ 69 ∷ 78 ∷ 68 ∷ 32 ∷ 77 ∷ 46 ∷ []); symbols = (symbol (Ident) 0 6 ∷ symbol (Ident) 7 8 ∷ symbol (Ident) 8 9 ∷ symbol (Ident) 10 14 ∷ symbol (Ident) 15 16 ∷ symbol (Ident) 17 18 ∷ symbol (Ident) 19 25 ∷ symbol (Ident) 26 27 ∷ symbol (Ident) 27 28 ∷ symbol (Ident) 29 36 ∷ symbol (Ident) 36 37 ∷ symbol (Ident) 38 39 ∷ symbol (Ident) 39 40 ∷ symbol (Ident) 40 41 ∷ symbol (Ident) 42 46 ∷ symbol (Ident) 47 50 ∷ symbol (Ident) 50 51 ∷ symbol (Ident) 52 55 ∷ symbol (Ident) 56 57 ∷ symbol (Ident) 57 58 ∷ symbol (Ident) 59 60 ∷ symbol (Ident) 60 61 ∷ symbol (Ident) 62 67 ∷ symbol (Ident) 68 69 ∷ symbol (Ident) 70 72 ∷ symbol (Ident) 73 74 ∷ symbol (Ident) 74 75 ∷ symbol (Ident) 75 76 ∷ symbol (Ident) 76 77 ∷ symbol (Ident) 78 81 ∷ symbol (Ident) 82 83 ∷ symbol (Ident) 83 84 ∷ []) }; tree = record { module_word = 0; name = 1; semicolon = 0; imports = None; decls = (S.decls None (Some (record { type_word = 0; each = (record { name = (record { name = 4; star = None }); equal = 0; is = (S.Record 6 None (S.fields (record { first = (record { name = 7; star = None }); more = [] }) 0 (S.Named (record { name = 9; member = None }))) (S.next_fields 0 (S.fields (record { first = (record { name = 11; star = Some 0 }); more = [] }) 0 (S.Named (record { name = 14; member = None }))) S.no_more_fields) 0); semicolon = 0 } ∷ []) })) (Some (record { var_word = 0; each = (record { names = (record { first = (record { name = 18; star = None }); more = [] }); colon = 0; of = (S.Named (record { name = 20; member = None })); semicolon = 0 } ∷ []) })) S.no_procedure); body = (Some (record { begin_word = 0; stats = (S.stats (S.AssignOrCall (record { name = 23; selectors = S.no_selector }) (Some (record { becomes = 0; value = (S.only (S.simple None (S.term (S.Designated 25 (S.selected (S.Parens 0 (S.expressions (S.only (S.simple None (S.term (S.Designated 27 S.no_selector) S.no_factor) S.no_term)) S.no_expression) 0) S.no_selector)) S.no_factor) S.no_term)) }))) S.no_stat) })); end_word = 0; end_name = 30; period = 0 } }

pub type_mismatch_88 : checked (type_mismatch_88_0 ∷ []) ≡ Fault 0 31 73
type_mismatch_88 = refl

-- MODULE M; TYPE R = RECORD x: INTEGER; y*: CHAR END; E = RECORD (R) z: SET END; Q = POINTER TO E; VAR i: INTEGER; BEGIN i := i(Q) END M.
abbrev type_mismatch_89_0 : Parsed
type_mismatch_89_0 = record { source = record { bytes = (77 ∷ 79 ∷ 68 ∷ 85 ∷ 76 ∷ 69 ∷ 32 ∷ 77 ∷ 59 ∷ 32 ∷ 84 ∷ 89 ∷ 80 ∷ 69 ∷ 32 ∷ 82 ∷ 32 ∷ 61 ∷ 32 ∷ 82 ∷ 69 ∷ 67 ∷ 79 ∷ 82 ∷ 68 ∷ 32 ∷ 120 ∷ 58 ∷ 32 ∷ 73 ∷ 78 ∷ 84 ∷ 69 ∷ 71 ∷ 69 ∷ 82 ∷ 59 ∷ 32 ∷ 121 ∷ 42 ∷ 58 ∷ 32 ∷ 67 ∷ 72 ∷ 65 ∷ 82 ∷ 32 ∷ 69 ∷ 78 ∷ 68 ∷ 59 ∷ 32 ∷ 69 ∷ 32 ∷ 61 ∷ 32 ∷ 82 ∷ 69 ∷ 67 ∷ 79 ∷ 82 ∷ 68 ∷ 32 ∷ 40 ∷ 82 ∷ 41 ∷ 32 ∷ 122 ∷ 58 ∷ 32 ∷ 83 ∷ 69 ∷ 84 ∷ 32 ∷ 69 ∷ 78 ∷ 68 ∷ 59 ∷ 32 ∷ 81 ∷ 32 ∷ 61 ∷ 32 ∷ 80 ∷ 79 ∷ 73 ∷ 78 ∷ 84 ∷ 69 ∷ 82 ∷ 32 ∷ 84 ∷ 79 ∷ 32 ∷ 69 ∷ 59 ∷ 32 ∷ 86 ∷ 65 ∷ 82 ∷ 32 ∷ 105 ∷ 58 ∷ 32 ∷ 73 ∷ 78 ∷ 84 ∷ 69 ∷ 71 ∷ 69 ∷ 82 ∷ 59 ∷ 32 ∷ 66 ∷ 69 ∷ 71 ∷ 73 ∷ 78 ∷ 32 ∷ 105 ∷ 32 ∷ 58 ∷ 61 ∷ 32 ∷ 105 ∷ 40 ∷ 81 ∷ 41 ∷ 32 ∷ 69 ∷ 78 ∷ 68 ∷ 32 ∷ 77 ∷ 46 ∷ []); symbols = (symbol (Ident) 0 6 ∷ symbol (Ident) 7 8 ∷ symbol (Ident) 8 9 ∷ symbol (Ident) 10 14 ∷ symbol (Ident) 15 16 ∷ symbol (Ident) 17 18 ∷ symbol (Ident) 19 25 ∷ symbol (Ident) 26 27 ∷ symbol (Ident) 27 28 ∷ symbol (Ident) 29 36 ∷ symbol (Ident) 36 37 ∷ symbol (Ident) 38 39 ∷ symbol (Ident) 39 40 ∷ symbol (Ident) 40 41 ∷ symbol (Ident) 42 46 ∷ symbol (Ident) 47 50 ∷ symbol (Ident) 50 51 ∷ symbol (Ident) 52 53 ∷ symbol (Ident) 54 55 ∷ symbol (Ident) 56 62 ∷ symbol (Ident) 63 64 ∷ symbol (Ident) 64 65 ∷ symbol (Ident) 65 66 ∷ symbol (Ident) 67 68 ∷ symbol (Ident) 68 69 ∷ symbol (Ident) 70 73 ∷ symbol (Ident) 74 77 ∷ symbol (Ident) 77 78 ∷ symbol (Ident) 79 80 ∷ symbol (Ident) 81 82 ∷ symbol (Ident) 83 90 ∷ symbol (Ident) 91 93 ∷ symbol (Ident) 94 95 ∷ symbol (Ident) 95 96 ∷ symbol (Ident) 97 100 ∷ symbol (Ident) 101 102 ∷ symbol (Ident) 102 103 ∷ symbol (Ident) 104 111 ∷ symbol (Ident) 111 112 ∷ symbol (Ident) 113 118 ∷ symbol (Ident) 119 120 ∷ symbol (Ident) 121 123 ∷ symbol (Ident) 124 125 ∷ symbol (Ident) 125 126 ∷ symbol (Ident) 126 127 ∷ symbol (Ident) 127 128 ∷ symbol (Ident) 129 132 ∷ symbol (Ident) 133 134 ∷ symbol (Ident) 134 135 ∷ []) }; tree = record { module_word = 0; name = 1; semicolon = 0; imports = None; decls = (S.decls None (Some (record { type_word = 0; each = (record { name = (record { name = 4; star = None }); equal = 0; is = (S.Record 6 None (S.fields (record { first = (record { name = 7; star = None }); more = [] }) 0 (S.Named (record { name = 9; member = None }))) (S.next_fields 0 (S.fields (record { first = (record { name = 11; star = Some 0 }); more = [] }) 0 (S.Named (record { name = 14; member = None }))) S.no_more_fields) 0); semicolon = 0 } ∷ record { name = (record { name = 17; star = None }); equal = 0; is = (S.Record 19 (Some (record { left_paren = 0; name = (record { name = 21; member = None }); right_paren = 0 })) (S.fields (record { first = (record { name = 23; star = None }); more = [] }) 0 (S.Named (record { name = 25; member = None }))) S.no_more_fields 0); semicolon = 0 } ∷ record { name = (record { name = 28; star = None }); equal = 0; is = (S.Pointer 30 0 (S.Named (record { name = 32; member = None }))); semicolon = 0 } ∷ []) })) (Some (record { var_word = 0; each = (record { names = (record { first = (record { name = 35; star = None }); more = [] }); colon = 0; of = (S.Named (record { name = 37; member = None })); semicolon = 0 } ∷ []) })) S.no_procedure); body = (Some (record { begin_word = 0; stats = (S.stats (S.AssignOrCall (record { name = 40; selectors = S.no_selector }) (Some (record { becomes = 0; value = (S.only (S.simple None (S.term (S.Designated 42 (S.selected (S.Parens 0 (S.expressions (S.only (S.simple None (S.term (S.Designated 44 S.no_selector) S.no_factor) S.no_term)) S.no_expression) 0) S.no_selector)) S.no_factor) S.no_term)) }))) S.no_stat) })); end_word = 0; end_name = 47; period = 0 } }

pub type_mismatch_89 : checked (type_mismatch_89_0 ∷ []) ≡ Fault 0 31 124
type_mismatch_89 = refl

-- MODULE M; TYPE R = RECORD x: INTEGER; y*: CHAR END; E = RECORD (R) z: SET END; Q = POINTER TO E; VAR i: INTEGER; b: BOOLEAN; BEGIN b := i IS Q END M.
abbrev type_mismatch_90_0 : Parsed
type_mismatch_90_0 = record { source = record { bytes = (77 ∷ 79 ∷ 68 ∷ 85 ∷ 76 ∷ 69 ∷ 32 ∷ 77 ∷ 59 ∷ 32 ∷ 84 ∷ 89 ∷ 80 ∷ 69 ∷ 32 ∷ 82 ∷ 32 ∷ 61 ∷ 32 ∷ 82 ∷ 69 ∷ 67 ∷ 79 ∷ 82 ∷ 68 ∷ 32 ∷ 120 ∷ 58 ∷ 32 ∷ 73 ∷ 78 ∷ 84 ∷ 69 ∷ 71 ∷ 69 ∷ 82 ∷ 59 ∷ 32 ∷ 121 ∷ 42 ∷ 58 ∷ 32 ∷ 67 ∷ 72 ∷ 65 ∷ 82 ∷ 32 ∷ 69 ∷ 78 ∷ 68 ∷ 59 ∷ 32 ∷ 69 ∷ 32 ∷ 61 ∷ 32 ∷ 82 ∷ 69 ∷ 67 ∷ 79 ∷ 82 ∷ 68 ∷ 32 ∷ 40 ∷ 82 ∷ 41 ∷ 32 ∷ 122 ∷ 58 ∷ 32 ∷ 83 ∷ 69 ∷ 84 ∷ 32 ∷ 69 ∷ 78 ∷ 68 ∷ 59 ∷ 32 ∷ 81 ∷ 32 ∷ 61 ∷ 32 ∷ 80 ∷ 79 ∷ 73 ∷ 78 ∷ 84 ∷ 69 ∷ 82 ∷ 32 ∷ 84 ∷ 79 ∷ 32 ∷ 69 ∷ 59 ∷ 32 ∷ 86 ∷ 65 ∷ 82 ∷ 32 ∷ 105 ∷ 58 ∷ 32 ∷ 73 ∷ 78 ∷ 84 ∷ 69 ∷ 71 ∷ 69 ∷ 82 ∷ 59 ∷ 32 ∷ 98 ∷ 58 ∷ 32 ∷ 66 ∷ 79 ∷ 79 ∷ 76 ∷ 69 ∷ 65 ∷ 78 ∷ 59 ∷ 32 ∷ 66 ∷ 69 ∷ 71 ∷ 73 ∷ 78 ∷ 32 ∷ 98 ∷ 32 ∷ 58 ∷ 61 ∷ 32 ∷ 105 ∷ 32 ∷ 73 ∷ 83 ∷ 32 ∷ 81 ∷ 32 ∷ 69 ∷ 78 ∷ 68 ∷ 32 ∷ 77 ∷ 46 ∷ []); symbols = (symbol (Ident) 0 6 ∷ symbol (Ident) 7 8 ∷ symbol (Ident) 8 9 ∷ symbol (Ident) 10 14 ∷ symbol (Ident) 15 16 ∷ symbol (Ident) 17 18 ∷ symbol (Ident) 19 25 ∷ symbol (Ident) 26 27 ∷ symbol (Ident) 27 28 ∷ symbol (Ident) 29 36 ∷ symbol (Ident) 36 37 ∷ symbol (Ident) 38 39 ∷ symbol (Ident) 39 40 ∷ symbol (Ident) 40 41 ∷ symbol (Ident) 42 46 ∷ symbol (Ident) 47 50 ∷ symbol (Ident) 50 51 ∷ symbol (Ident) 52 53 ∷ symbol (Ident) 54 55 ∷ symbol (Ident) 56 62 ∷ symbol (Ident) 63 64 ∷ symbol (Ident) 64 65 ∷ symbol (Ident) 65 66 ∷ symbol (Ident) 67 68 ∷ symbol (Ident) 68 69 ∷ symbol (Ident) 70 73 ∷ symbol (Ident) 74 77 ∷ symbol (Ident) 77 78 ∷ symbol (Ident) 79 80 ∷ symbol (Ident) 81 82 ∷ symbol (Ident) 83 90 ∷ symbol (Ident) 91 93 ∷ symbol (Ident) 94 95 ∷ symbol (Ident) 95 96 ∷ symbol (Ident) 97 100 ∷ symbol (Ident) 101 102 ∷ symbol (Ident) 102 103 ∷ symbol (Ident) 104 111 ∷ symbol (Ident) 111 112 ∷ symbol (Ident) 113 114 ∷ symbol (Ident) 114 115 ∷ symbol (Ident) 116 123 ∷ symbol (Ident) 123 124 ∷ symbol (Ident) 125 130 ∷ symbol (Ident) 131 132 ∷ symbol (Ident) 133 135 ∷ symbol (Ident) 136 137 ∷ symbol (Ident) 138 140 ∷ symbol (Ident) 141 142 ∷ symbol (Ident) 143 146 ∷ symbol (Ident) 147 148 ∷ symbol (Ident) 148 149 ∷ []) }; tree = record { module_word = 0; name = 1; semicolon = 0; imports = None; decls = (S.decls None (Some (record { type_word = 0; each = (record { name = (record { name = 4; star = None }); equal = 0; is = (S.Record 6 None (S.fields (record { first = (record { name = 7; star = None }); more = [] }) 0 (S.Named (record { name = 9; member = None }))) (S.next_fields 0 (S.fields (record { first = (record { name = 11; star = Some 0 }); more = [] }) 0 (S.Named (record { name = 14; member = None }))) S.no_more_fields) 0); semicolon = 0 } ∷ record { name = (record { name = 17; star = None }); equal = 0; is = (S.Record 19 (Some (record { left_paren = 0; name = (record { name = 21; member = None }); right_paren = 0 })) (S.fields (record { first = (record { name = 23; star = None }); more = [] }) 0 (S.Named (record { name = 25; member = None }))) S.no_more_fields 0); semicolon = 0 } ∷ record { name = (record { name = 28; star = None }); equal = 0; is = (S.Pointer 30 0 (S.Named (record { name = 32; member = None }))); semicolon = 0 } ∷ []) })) (Some (record { var_word = 0; each = (record { names = (record { first = (record { name = 35; star = None }); more = [] }); colon = 0; of = (S.Named (record { name = 37; member = None })); semicolon = 0 } ∷ record { names = (record { first = (record { name = 39; star = None }); more = [] }); colon = 0; of = (S.Named (record { name = 41; member = None })); semicolon = 0 } ∷ []) })) S.no_procedure); body = (Some (record { begin_word = 0; stats = (S.stats (S.AssignOrCall (record { name = 44; selectors = S.no_selector }) (Some (record { becomes = 0; value = (S.compared (S.simple None (S.term (S.Designated 46 S.no_selector) S.no_factor) S.no_term) (TheRelation.Is 47) (S.simple None (S.term (S.Designated 48 S.no_selector) S.no_factor) S.no_term)) }))) S.no_stat) })); end_word = 0; end_name = 50; period = 0 } }

pub type_mismatch_90 : checked (type_mismatch_90_0 ∷ []) ≡ Fault 0 31 138
type_mismatch_90 = refl

-- MODULE M; TYPE R = RECORD x: INTEGER; y*: CHAR END; VAR b: BOOLEAN; r: R; BEGIN b := r IS R END M.
abbrev type_mismatch_91_0 : Parsed
type_mismatch_91_0 = record { source = record { bytes = (77 ∷ 79 ∷ 68 ∷ 85 ∷ 76 ∷ 69 ∷ 32 ∷ 77 ∷ 59 ∷ 32 ∷ 84 ∷ 89 ∷ 80 ∷ 69 ∷ 32 ∷ 82 ∷ 32 ∷ 61 ∷ 32 ∷ 82 ∷ 69 ∷ 67 ∷ 79 ∷ 82 ∷ 68 ∷ 32 ∷ 120 ∷ 58 ∷ 32 ∷ 73 ∷ 78 ∷ 84 ∷ 69 ∷ 71 ∷ 69 ∷ 82 ∷ 59 ∷ 32 ∷ 121 ∷ 42 ∷ 58 ∷ 32 ∷ 67 ∷ 72 ∷ 65 ∷ 82 ∷ 32 ∷ 69 ∷ 78 ∷ 68 ∷ 59 ∷ 32 ∷ 86 ∷ 65 ∷ 82 ∷ 32 ∷ 98 ∷ 58 ∷ 32 ∷ 66 ∷ 79 ∷ 79 ∷ 76 ∷ 69 ∷ 65 ∷ 78 ∷ 59 ∷ 32 ∷ 114 ∷ 58 ∷ 32 ∷ 82 ∷ 59 ∷ 32 ∷ 66 ∷ 69 ∷ 71 ∷ 73 ∷ 78 ∷ 32 ∷ 98 ∷ 32 ∷ 58 ∷ 61 ∷ 32 ∷ 114 ∷ 32 ∷ 73 ∷ 83 ∷ 32 ∷ 82 ∷ 32 ∷ 69 ∷ 78 ∷ 68 ∷ 32 ∷ 77 ∷ 46 ∷ []); symbols = (symbol (Ident) 0 6 ∷ symbol (Ident) 7 8 ∷ symbol (Ident) 8 9 ∷ symbol (Ident) 10 14 ∷ symbol (Ident) 15 16 ∷ symbol (Ident) 17 18 ∷ symbol (Ident) 19 25 ∷ symbol (Ident) 26 27 ∷ symbol (Ident) 27 28 ∷ symbol (Ident) 29 36 ∷ symbol (Ident) 36 37 ∷ symbol (Ident) 38 39 ∷ symbol (Ident) 39 40 ∷ symbol (Ident) 40 41 ∷ symbol (Ident) 42 46 ∷ symbol (Ident) 47 50 ∷ symbol (Ident) 50 51 ∷ symbol (Ident) 52 55 ∷ symbol (Ident) 56 57 ∷ symbol (Ident) 57 58 ∷ symbol (Ident) 59 66 ∷ symbol (Ident) 66 67 ∷ symbol (Ident) 68 69 ∷ symbol (Ident) 69 70 ∷ symbol (Ident) 71 72 ∷ symbol (Ident) 72 73 ∷ symbol (Ident) 74 79 ∷ symbol (Ident) 80 81 ∷ symbol (Ident) 82 84 ∷ symbol (Ident) 85 86 ∷ symbol (Ident) 87 89 ∷ symbol (Ident) 90 91 ∷ symbol (Ident) 92 95 ∷ symbol (Ident) 96 97 ∷ symbol (Ident) 97 98 ∷ []) }; tree = record { module_word = 0; name = 1; semicolon = 0; imports = None; decls = (S.decls None (Some (record { type_word = 0; each = (record { name = (record { name = 4; star = None }); equal = 0; is = (S.Record 6 None (S.fields (record { first = (record { name = 7; star = None }); more = [] }) 0 (S.Named (record { name = 9; member = None }))) (S.next_fields 0 (S.fields (record { first = (record { name = 11; star = Some 0 }); more = [] }) 0 (S.Named (record { name = 14; member = None }))) S.no_more_fields) 0); semicolon = 0 } ∷ []) })) (Some (record { var_word = 0; each = (record { names = (record { first = (record { name = 18; star = None }); more = [] }); colon = 0; of = (S.Named (record { name = 20; member = None })); semicolon = 0 } ∷ record { names = (record { first = (record { name = 22; star = None }); more = [] }); colon = 0; of = (S.Named (record { name = 24; member = None })); semicolon = 0 } ∷ []) })) S.no_procedure); body = (Some (record { begin_word = 0; stats = (S.stats (S.AssignOrCall (record { name = 27; selectors = S.no_selector }) (Some (record { becomes = 0; value = (S.compared (S.simple None (S.term (S.Designated 29 S.no_selector) S.no_factor) S.no_term) (TheRelation.Is 30) (S.simple None (S.term (S.Designated 31 S.no_selector) S.no_factor) S.no_term)) }))) S.no_stat) })); end_word = 0; end_name = 33; period = 0 } }

pub type_mismatch_91 : checked (type_mismatch_91_0 ∷ []) ≡ Fault 0 31 87
type_mismatch_91 = refl

-- MODULE M; TYPE R = RECORD x: INTEGER; y*: CHAR END; P = POINTER TO R; VAR b: BOOLEAN; p: P; BEGIN b := p IS R END M.
abbrev type_mismatch_92_0 : Parsed
type_mismatch_92_0 = record { source = record { bytes = (77 ∷ 79 ∷ 68 ∷ 85 ∷ 76 ∷ 69 ∷ 32 ∷ 77 ∷ 59 ∷ 32 ∷ 84 ∷ 89 ∷ 80 ∷ 69 ∷ 32 ∷ 82 ∷ 32 ∷ 61 ∷ 32 ∷ 82 ∷ 69 ∷ 67 ∷ 79 ∷ 82 ∷ 68 ∷ 32 ∷ 120 ∷ 58 ∷ 32 ∷ 73 ∷ 78 ∷ 84 ∷ 69 ∷ 71 ∷ 69 ∷ 82 ∷ 59 ∷ 32 ∷ 121 ∷ 42 ∷ 58 ∷ 32 ∷ 67 ∷ 72 ∷ 65 ∷ 82 ∷ 32 ∷ 69 ∷ 78 ∷ 68 ∷ 59 ∷ 32 ∷ 80 ∷ 32 ∷ 61 ∷ 32 ∷ 80 ∷ 79 ∷ 73 ∷ 78 ∷ 84 ∷ 69 ∷ 82 ∷ 32 ∷ 84 ∷ 79 ∷ 32 ∷ 82 ∷ 59 ∷ 32 ∷ 86 ∷ 65 ∷ 82 ∷ 32 ∷ 98 ∷ 58 ∷ 32 ∷ 66 ∷ 79 ∷ 79 ∷ 76 ∷ 69 ∷ 65 ∷ 78 ∷ 59 ∷ 32 ∷ 112 ∷ 58 ∷ 32 ∷ 80 ∷ 59 ∷ 32 ∷ 66 ∷ 69 ∷ 71 ∷ 73 ∷ 78 ∷ 32 ∷ 98 ∷ 32 ∷ 58 ∷ 61 ∷ 32 ∷ 112 ∷ 32 ∷ 73 ∷ 83 ∷ 32 ∷ 82 ∷ 32 ∷ 69 ∷ 78 ∷ 68 ∷ 32 ∷ 77 ∷ 46 ∷ []); symbols = (symbol (Ident) 0 6 ∷ symbol (Ident) 7 8 ∷ symbol (Ident) 8 9 ∷ symbol (Ident) 10 14 ∷ symbol (Ident) 15 16 ∷ symbol (Ident) 17 18 ∷ symbol (Ident) 19 25 ∷ symbol (Ident) 26 27 ∷ symbol (Ident) 27 28 ∷ symbol (Ident) 29 36 ∷ symbol (Ident) 36 37 ∷ symbol (Ident) 38 39 ∷ symbol (Ident) 39 40 ∷ symbol (Ident) 40 41 ∷ symbol (Ident) 42 46 ∷ symbol (Ident) 47 50 ∷ symbol (Ident) 50 51 ∷ symbol (Ident) 52 53 ∷ symbol (Ident) 54 55 ∷ symbol (Ident) 56 63 ∷ symbol (Ident) 64 66 ∷ symbol (Ident) 67 68 ∷ symbol (Ident) 68 69 ∷ symbol (Ident) 70 73 ∷ symbol (Ident) 74 75 ∷ symbol (Ident) 75 76 ∷ symbol (Ident) 77 84 ∷ symbol (Ident) 84 85 ∷ symbol (Ident) 86 87 ∷ symbol (Ident) 87 88 ∷ symbol (Ident) 89 90 ∷ symbol (Ident) 90 91 ∷ symbol (Ident) 92 97 ∷ symbol (Ident) 98 99 ∷ symbol (Ident) 100 102 ∷ symbol (Ident) 103 104 ∷ symbol (Ident) 105 107 ∷ symbol (Ident) 108 109 ∷ symbol (Ident) 110 113 ∷ symbol (Ident) 114 115 ∷ symbol (Ident) 115 116 ∷ []) }; tree = record { module_word = 0; name = 1; semicolon = 0; imports = None; decls = (S.decls None (Some (record { type_word = 0; each = (record { name = (record { name = 4; star = None }); equal = 0; is = (S.Record 6 None (S.fields (record { first = (record { name = 7; star = None }); more = [] }) 0 (S.Named (record { name = 9; member = None }))) (S.next_fields 0 (S.fields (record { first = (record { name = 11; star = Some 0 }); more = [] }) 0 (S.Named (record { name = 14; member = None }))) S.no_more_fields) 0); semicolon = 0 } ∷ record { name = (record { name = 17; star = None }); equal = 0; is = (S.Pointer 19 0 (S.Named (record { name = 21; member = None }))); semicolon = 0 } ∷ []) })) (Some (record { var_word = 0; each = (record { names = (record { first = (record { name = 24; star = None }); more = [] }); colon = 0; of = (S.Named (record { name = 26; member = None })); semicolon = 0 } ∷ record { names = (record { first = (record { name = 28; star = None }); more = [] }); colon = 0; of = (S.Named (record { name = 30; member = None })); semicolon = 0 } ∷ []) })) S.no_procedure); body = (Some (record { begin_word = 0; stats = (S.stats (S.AssignOrCall (record { name = 33; selectors = S.no_selector }) (Some (record { becomes = 0; value = (S.compared (S.simple None (S.term (S.Designated 35 S.no_selector) S.no_factor) S.no_term) (TheRelation.Is 36) (S.simple None (S.term (S.Designated 37 S.no_selector) S.no_factor) S.no_term)) }))) S.no_stat) })); end_word = 0; end_name = 39; period = 0 } }

pub type_mismatch_92 : checked (type_mismatch_92_0 ∷ []) ≡ Fault 0 31 105
type_mismatch_92 = refl

-- MODULE M; TYPE R = RECORD x: INTEGER; y*: CHAR END; E = RECORD (R) z: SET END; P = POINTER TO R; Q = POINTER TO E; VAR b: BOOLEAN; q: Q; BEGIN b := q IS P END M.
abbrev type_mismatch_93_0 : Parsed
type_mismatch_93_0 = record { source = record { bytes = (77 ∷ 79 ∷ 68 ∷ 85 ∷ 76 ∷ 69 ∷ 32 ∷ 77 ∷ 59 ∷ 32 ∷ 84 ∷ 89 ∷ 80 ∷ 69 ∷ 32 ∷ 82 ∷ 32 ∷ 61 ∷ 32 ∷ 82 ∷ 69 ∷ 67 ∷ 79 ∷ 82 ∷ 68 ∷ 32 ∷ 120 ∷ 58 ∷ 32 ∷ 73 ∷ 78 ∷ 84 ∷ 69 ∷ 71 ∷ 69 ∷ 82 ∷ 59 ∷ 32 ∷ 121 ∷ 42 ∷ 58 ∷ 32 ∷ 67 ∷ 72 ∷ 65 ∷ 82 ∷ 32 ∷ 69 ∷ 78 ∷ 68 ∷ 59 ∷ 32 ∷ 69 ∷ 32 ∷ 61 ∷ 32 ∷ 82 ∷ 69 ∷ 67 ∷ 79 ∷ 82 ∷ 68 ∷ 32 ∷ 40 ∷ 82 ∷ 41 ∷ 32 ∷ 122 ∷ 58 ∷ 32 ∷ 83 ∷ 69 ∷ 84 ∷ 32 ∷ 69 ∷ 78 ∷ 68 ∷ 59 ∷ 32 ∷ 80 ∷ 32 ∷ 61 ∷ 32 ∷ 80 ∷ 79 ∷ 73 ∷ 78 ∷ 84 ∷ 69 ∷ 82 ∷ 32 ∷ 84 ∷ 79 ∷ 32 ∷ 82 ∷ 59 ∷ 32 ∷ 81 ∷ 32 ∷ 61 ∷ 32 ∷ 80 ∷ 79 ∷ 73 ∷ 78 ∷ 84 ∷ 69 ∷ 82 ∷ 32 ∷ 84 ∷ 79 ∷ 32 ∷ 69 ∷ 59 ∷ 32 ∷ 86 ∷ 65 ∷ 82 ∷ 32 ∷ 98 ∷ 58 ∷ 32 ∷ 66 ∷ 79 ∷ 79 ∷ 76 ∷ 69 ∷ 65 ∷ 78 ∷ 59 ∷ 32 ∷ 113 ∷ 58 ∷ 32 ∷ 81 ∷ 59 ∷ 32 ∷ 66 ∷ 69 ∷ 71 ∷ 73 ∷ 78 ∷ 32 ∷ 98 ∷ 32 ∷ 58 ∷ 61 ∷ 32 ∷ 113 ∷ 32 ∷ 73 ∷ 83 ∷ 32 ∷ 80 ∷ 32 ∷ 69 ∷ 78 ∷ 68 ∷ 32 ∷ 77 ∷ 46 ∷ []); symbols = (symbol (Ident) 0 6 ∷ symbol (Ident) 7 8 ∷ symbol (Ident) 8 9 ∷ symbol (Ident) 10 14 ∷ symbol (Ident) 15 16 ∷ symbol (Ident) 17 18 ∷ symbol (Ident) 19 25 ∷ symbol (Ident) 26 27 ∷ symbol (Ident) 27 28 ∷ symbol (Ident) 29 36 ∷ symbol (Ident) 36 37 ∷ symbol (Ident) 38 39 ∷ symbol (Ident) 39 40 ∷ symbol (Ident) 40 41 ∷ symbol (Ident) 42 46 ∷ symbol (Ident) 47 50 ∷ symbol (Ident) 50 51 ∷ symbol (Ident) 52 53 ∷ symbol (Ident) 54 55 ∷ symbol (Ident) 56 62 ∷ symbol (Ident) 63 64 ∷ symbol (Ident) 64 65 ∷ symbol (Ident) 65 66 ∷ symbol (Ident) 67 68 ∷ symbol (Ident) 68 69 ∷ symbol (Ident) 70 73 ∷ symbol (Ident) 74 77 ∷ symbol (Ident) 77 78 ∷ symbol (Ident) 79 80 ∷ symbol (Ident) 81 82 ∷ symbol (Ident) 83 90 ∷ symbol (Ident) 91 93 ∷ symbol (Ident) 94 95 ∷ symbol (Ident) 95 96 ∷ symbol (Ident) 97 98 ∷ symbol (Ident) 99 100 ∷ symbol (Ident) 101 108 ∷ symbol (Ident) 109 111 ∷ symbol (Ident) 112 113 ∷ symbol (Ident) 113 114 ∷ symbol (Ident) 115 118 ∷ symbol (Ident) 119 120 ∷ symbol (Ident) 120 121 ∷ symbol (Ident) 122 129 ∷ symbol (Ident) 129 130 ∷ symbol (Ident) 131 132 ∷ symbol (Ident) 132 133 ∷ symbol (Ident) 134 135 ∷ symbol (Ident) 135 136 ∷ symbol (Ident) 137 142 ∷ symbol (Ident) 143 144 ∷ symbol (Ident) 145 147 ∷ symbol (Ident) 148 149 ∷ symbol (Ident) 150 152 ∷ symbol (Ident) 153 154 ∷ symbol (Ident) 155 158 ∷ symbol (Ident) 159 160 ∷ symbol (Ident) 160 161 ∷ []) }; tree = record { module_word = 0; name = 1; semicolon = 0; imports = None; decls = (S.decls None (Some (record { type_word = 0; each = (record { name = (record { name = 4; star = None }); equal = 0; is = (S.Record 6 None (S.fields (record { first = (record { name = 7; star = None }); more = [] }) 0 (S.Named (record { name = 9; member = None }))) (S.next_fields 0 (S.fields (record { first = (record { name = 11; star = Some 0 }); more = [] }) 0 (S.Named (record { name = 14; member = None }))) S.no_more_fields) 0); semicolon = 0 } ∷ record { name = (record { name = 17; star = None }); equal = 0; is = (S.Record 19 (Some (record { left_paren = 0; name = (record { name = 21; member = None }); right_paren = 0 })) (S.fields (record { first = (record { name = 23; star = None }); more = [] }) 0 (S.Named (record { name = 25; member = None }))) S.no_more_fields 0); semicolon = 0 } ∷ record { name = (record { name = 28; star = None }); equal = 0; is = (S.Pointer 30 0 (S.Named (record { name = 32; member = None }))); semicolon = 0 } ∷ record { name = (record { name = 34; star = None }); equal = 0; is = (S.Pointer 36 0 (S.Named (record { name = 38; member = None }))); semicolon = 0 } ∷ []) })) (Some (record { var_word = 0; each = (record { names = (record { first = (record { name = 41; star = None }); more = [] }); colon = 0; of = (S.Named (record { name = 43; member = None })); semicolon = 0 } ∷ record { names = (record { first = (record { name = 45; star = None }); more = [] }); colon = 0; of = (S.Named (record { name = 47; member = None })); semicolon = 0 } ∷ []) })) S.no_procedure); body = (Some (record { begin_word = 0; stats = (S.stats (S.AssignOrCall (record { name = 50; selectors = S.no_selector }) (Some (record { becomes = 0; value = (S.compared (S.simple None (S.term (S.Designated 52 S.no_selector) S.no_factor) S.no_term) (TheRelation.Is 53) (S.simple None (S.term (S.Designated 54 S.no_selector) S.no_factor) S.no_term)) }))) S.no_stat) })); end_word = 0; end_name = 56; period = 0 } }

pub type_mismatch_93 : checked (type_mismatch_93_0 ∷ []) ≡ Fault 0 31 150
type_mismatch_93 = refl

-- MODULE M; TYPE R = RECORD x: INTEGER; y*: CHAR END; P = POINTER TO R; VAR i: INTEGER; b: BOOLEAN; p: P; BEGIN b := p IS i END M.
abbrev type_mismatch_94_0 : Parsed
type_mismatch_94_0 = record { source = record { bytes = (77 ∷ 79 ∷ 68 ∷ 85 ∷ 76 ∷ 69 ∷ 32 ∷ 77 ∷ 59 ∷ 32 ∷ 84 ∷ 89 ∷ 80 ∷ 69 ∷ 32 ∷ 82 ∷ 32 ∷ 61 ∷ 32 ∷ 82 ∷ 69 ∷ 67 ∷ 79 ∷ 82 ∷ 68 ∷ 32 ∷ 120 ∷ 58 ∷ 32 ∷ 73 ∷ 78 ∷ 84 ∷ 69 ∷ 71 ∷ 69 ∷ 82 ∷ 59 ∷ 32 ∷ 121 ∷ 42 ∷ 58 ∷ 32 ∷ 67 ∷ 72 ∷ 65 ∷ 82 ∷ 32 ∷ 69 ∷ 78 ∷ 68 ∷ 59 ∷ 32 ∷ 80 ∷ 32 ∷ 61 ∷ 32 ∷ 80 ∷ 79 ∷ 73 ∷ 78 ∷ 84 ∷ 69 ∷ 82 ∷ 32 ∷ 84 ∷ 79 ∷ 32 ∷ 82 ∷ 59 ∷ 32 ∷ 86 ∷ 65 ∷ 82 ∷ 32 ∷ 105 ∷ 58 ∷ 32 ∷ 73 ∷ 78 ∷ 84 ∷ 69 ∷ 71 ∷ 69 ∷ 82 ∷ 59 ∷ 32 ∷ 98 ∷ 58 ∷ 32 ∷ 66 ∷ 79 ∷ 79 ∷ 76 ∷ 69 ∷ 65 ∷ 78 ∷ 59 ∷ 32 ∷ 112 ∷ 58 ∷ 32 ∷ 80 ∷ 59 ∷ 32 ∷ 66 ∷ 69 ∷ 71 ∷ 73 ∷ 78 ∷ 32 ∷ 98 ∷ 32 ∷ 58 ∷ 61 ∷ 32 ∷ 112 ∷ 32 ∷ 73 ∷ 83 ∷ 32 ∷ 105 ∷ 32 ∷ 69 ∷ 78 ∷ 68 ∷ 32 ∷ 77 ∷ 46 ∷ []); symbols = (symbol (Ident) 0 6 ∷ symbol (Ident) 7 8 ∷ symbol (Ident) 8 9 ∷ symbol (Ident) 10 14 ∷ symbol (Ident) 15 16 ∷ symbol (Ident) 17 18 ∷ symbol (Ident) 19 25 ∷ symbol (Ident) 26 27 ∷ symbol (Ident) 27 28 ∷ symbol (Ident) 29 36 ∷ symbol (Ident) 36 37 ∷ symbol (Ident) 38 39 ∷ symbol (Ident) 39 40 ∷ symbol (Ident) 40 41 ∷ symbol (Ident) 42 46 ∷ symbol (Ident) 47 50 ∷ symbol (Ident) 50 51 ∷ symbol (Ident) 52 53 ∷ symbol (Ident) 54 55 ∷ symbol (Ident) 56 63 ∷ symbol (Ident) 64 66 ∷ symbol (Ident) 67 68 ∷ symbol (Ident) 68 69 ∷ symbol (Ident) 70 73 ∷ symbol (Ident) 74 75 ∷ symbol (Ident) 75 76 ∷ symbol (Ident) 77 84 ∷ symbol (Ident) 84 85 ∷ symbol (Ident) 86 87 ∷ symbol (Ident) 87 88 ∷ symbol (Ident) 89 96 ∷ symbol (Ident) 96 97 ∷ symbol (Ident) 98 99 ∷ symbol (Ident) 99 100 ∷ symbol (Ident) 101 102 ∷ symbol (Ident) 102 103 ∷ symbol (Ident) 104 109 ∷ symbol (Ident) 110 111 ∷ symbol (Ident) 112 114 ∷ symbol (Ident) 115 116 ∷ symbol (Ident) 117 119 ∷ symbol (Ident) 120 121 ∷ symbol (Ident) 122 125 ∷ symbol (Ident) 126 127 ∷ symbol (Ident) 127 128 ∷ []) }; tree = record { module_word = 0; name = 1; semicolon = 0; imports = None; decls = (S.decls None (Some (record { type_word = 0; each = (record { name = (record { name = 4; star = None }); equal = 0; is = (S.Record 6 None (S.fields (record { first = (record { name = 7; star = None }); more = [] }) 0 (S.Named (record { name = 9; member = None }))) (S.next_fields 0 (S.fields (record { first = (record { name = 11; star = Some 0 }); more = [] }) 0 (S.Named (record { name = 14; member = None }))) S.no_more_fields) 0); semicolon = 0 } ∷ record { name = (record { name = 17; star = None }); equal = 0; is = (S.Pointer 19 0 (S.Named (record { name = 21; member = None }))); semicolon = 0 } ∷ []) })) (Some (record { var_word = 0; each = (record { names = (record { first = (record { name = 24; star = None }); more = [] }); colon = 0; of = (S.Named (record { name = 26; member = None })); semicolon = 0 } ∷ record { names = (record { first = (record { name = 28; star = None }); more = [] }); colon = 0; of = (S.Named (record { name = 30; member = None })); semicolon = 0 } ∷ record { names = (record { first = (record { name = 32; star = None }); more = [] }); colon = 0; of = (S.Named (record { name = 34; member = None })); semicolon = 0 } ∷ []) })) S.no_procedure); body = (Some (record { begin_word = 0; stats = (S.stats (S.AssignOrCall (record { name = 37; selectors = S.no_selector }) (Some (record { becomes = 0; value = (S.compared (S.simple None (S.term (S.Designated 39 S.no_selector) S.no_factor) S.no_term) (TheRelation.Is 40) (S.simple None (S.term (S.Designated 41 S.no_selector) S.no_factor) S.no_term)) }))) S.no_stat) })); end_word = 0; end_name = 43; period = 0 } }

pub type_mismatch_94 : checked (type_mismatch_94_0 ∷ []) ≡ Fault 0 31 120
type_mismatch_94 = refl

-- MODULE M; TYPE R = RECORD x: INTEGER; y*: CHAR END; E = RECORD (R) z: SET END; P = POINTER TO R; Q = POINTER TO E; VAR b: BOOLEAN; p: P; BEGIN b := p IS (Q) END M.
abbrev type_mismatch_95_0 : Parsed
type_mismatch_95_0 = record { source = record { bytes = (77 ∷ 79 ∷ 68 ∷ 85 ∷ 76 ∷ 69 ∷ 32 ∷ 77 ∷ 59 ∷ 32 ∷ 84 ∷ 89 ∷ 80 ∷ 69 ∷ 32 ∷ 82 ∷ 32 ∷ 61 ∷ 32 ∷ 82 ∷ 69 ∷ 67 ∷ 79 ∷ 82 ∷ 68 ∷ 32 ∷ 120 ∷ 58 ∷ 32 ∷ 73 ∷ 78 ∷ 84 ∷ 69 ∷ 71 ∷ 69 ∷ 82 ∷ 59 ∷ 32 ∷ 121 ∷ 42 ∷ 58 ∷ 32 ∷ 67 ∷ 72 ∷ 65 ∷ 82 ∷ 32 ∷ 69 ∷ 78 ∷ 68 ∷ 59 ∷ 32 ∷ 69 ∷ 32 ∷ 61 ∷ 32 ∷ 82 ∷ 69 ∷ 67 ∷ 79 ∷ 82 ∷ 68 ∷ 32 ∷ 40 ∷ 82 ∷ 41 ∷ 32 ∷ 122 ∷ 58 ∷ 32 ∷ 83 ∷ 69 ∷ 84 ∷ 32 ∷ 69 ∷ 78 ∷ 68 ∷ 59 ∷ 32 ∷ 80 ∷ 32 ∷ 61 ∷ 32 ∷ 80 ∷ 79 ∷ 73 ∷ 78 ∷ 84 ∷ 69 ∷ 82 ∷ 32 ∷ 84 ∷ 79 ∷ 32 ∷ 82 ∷ 59 ∷ 32 ∷ 81 ∷ 32 ∷ 61 ∷ 32 ∷ 80 ∷ 79 ∷ 73 ∷ 78 ∷ 84 ∷ 69 ∷ 82 ∷ 32 ∷ 84 ∷ 79 ∷ 32 ∷ 69 ∷ 59 ∷ 32 ∷ 86 ∷ 65 ∷ 82 ∷ 32 ∷ 98 ∷ 58 ∷ 32 ∷ 66 ∷ 79 ∷ 79 ∷ 76 ∷ 69 ∷ 65 ∷ 78 ∷ 59 ∷ 32 ∷ 112 ∷ 58 ∷ 32 ∷ 80 ∷ 59 ∷ 32 ∷ 66 ∷ 69 ∷ 71 ∷ 73 ∷ 78 ∷ 32 ∷ 98 ∷ 32 ∷ 58 ∷ 61 ∷ 32 ∷ 112 ∷ 32 ∷ 73 ∷ 83 ∷ 32 ∷ 40 ∷ 81 ∷ 41 ∷ 32 ∷ 69 ∷ 78 ∷ 68 ∷ 32 ∷ 77 ∷ 46 ∷ []); symbols = (symbol (Ident) 0 6 ∷ symbol (Ident) 7 8 ∷ symbol (Ident) 8 9 ∷ symbol (Ident) 10 14 ∷ symbol (Ident) 15 16 ∷ symbol (Ident) 17 18 ∷ symbol (Ident) 19 25 ∷ symbol (Ident) 26 27 ∷ symbol (Ident) 27 28 ∷ symbol (Ident) 29 36 ∷ symbol (Ident) 36 37 ∷ symbol (Ident) 38 39 ∷ symbol (Ident) 39 40 ∷ symbol (Ident) 40 41 ∷ symbol (Ident) 42 46 ∷ symbol (Ident) 47 50 ∷ symbol (Ident) 50 51 ∷ symbol (Ident) 52 53 ∷ symbol (Ident) 54 55 ∷ symbol (Ident) 56 62 ∷ symbol (Ident) 63 64 ∷ symbol (Ident) 64 65 ∷ symbol (Ident) 65 66 ∷ symbol (Ident) 67 68 ∷ symbol (Ident) 68 69 ∷ symbol (Ident) 70 73 ∷ symbol (Ident) 74 77 ∷ symbol (Ident) 77 78 ∷ symbol (Ident) 79 80 ∷ symbol (Ident) 81 82 ∷ symbol (Ident) 83 90 ∷ symbol (Ident) 91 93 ∷ symbol (Ident) 94 95 ∷ symbol (Ident) 95 96 ∷ symbol (Ident) 97 98 ∷ symbol (Ident) 99 100 ∷ symbol (Ident) 101 108 ∷ symbol (Ident) 109 111 ∷ symbol (Ident) 112 113 ∷ symbol (Ident) 113 114 ∷ symbol (Ident) 115 118 ∷ symbol (Ident) 119 120 ∷ symbol (Ident) 120 121 ∷ symbol (Ident) 122 129 ∷ symbol (Ident) 129 130 ∷ symbol (Ident) 131 132 ∷ symbol (Ident) 132 133 ∷ symbol (Ident) 134 135 ∷ symbol (Ident) 135 136 ∷ symbol (Ident) 137 142 ∷ symbol (Ident) 143 144 ∷ symbol (Ident) 145 147 ∷ symbol (Ident) 148 149 ∷ symbol (Ident) 150 152 ∷ symbol (Ident) 153 154 ∷ symbol (Ident) 154 155 ∷ symbol (Ident) 155 156 ∷ symbol (Ident) 157 160 ∷ symbol (Ident) 161 162 ∷ symbol (Ident) 162 163 ∷ []) }; tree = record { module_word = 0; name = 1; semicolon = 0; imports = None; decls = (S.decls None (Some (record { type_word = 0; each = (record { name = (record { name = 4; star = None }); equal = 0; is = (S.Record 6 None (S.fields (record { first = (record { name = 7; star = None }); more = [] }) 0 (S.Named (record { name = 9; member = None }))) (S.next_fields 0 (S.fields (record { first = (record { name = 11; star = Some 0 }); more = [] }) 0 (S.Named (record { name = 14; member = None }))) S.no_more_fields) 0); semicolon = 0 } ∷ record { name = (record { name = 17; star = None }); equal = 0; is = (S.Record 19 (Some (record { left_paren = 0; name = (record { name = 21; member = None }); right_paren = 0 })) (S.fields (record { first = (record { name = 23; star = None }); more = [] }) 0 (S.Named (record { name = 25; member = None }))) S.no_more_fields 0); semicolon = 0 } ∷ record { name = (record { name = 28; star = None }); equal = 0; is = (S.Pointer 30 0 (S.Named (record { name = 32; member = None }))); semicolon = 0 } ∷ record { name = (record { name = 34; star = None }); equal = 0; is = (S.Pointer 36 0 (S.Named (record { name = 38; member = None }))); semicolon = 0 } ∷ []) })) (Some (record { var_word = 0; each = (record { names = (record { first = (record { name = 41; star = None }); more = [] }); colon = 0; of = (S.Named (record { name = 43; member = None })); semicolon = 0 } ∷ record { names = (record { first = (record { name = 45; star = None }); more = [] }); colon = 0; of = (S.Named (record { name = 47; member = None })); semicolon = 0 } ∷ []) })) S.no_procedure); body = (Some (record { begin_word = 0; stats = (S.stats (S.AssignOrCall (record { name = 50; selectors = S.no_selector }) (Some (record { becomes = 0; value = (S.compared (S.simple None (S.term (S.Designated 52 S.no_selector) S.no_factor) S.no_term) (TheRelation.Is 53) (S.simple None (S.term (S.Paren 54 (S.only (S.simple None (S.term (S.Designated 55 S.no_selector) S.no_factor) S.no_term)) 0) S.no_factor) S.no_term)) }))) S.no_stat) })); end_word = 0; end_name = 58; period = 0 } }

pub type_mismatch_95 : checked (type_mismatch_95_0 ∷ []) ≡ Fault 0 31 154
type_mismatch_95 = refl

-- MODULE M; TYPE R = RECORD x: INTEGER; y*: CHAR END; P = POINTER TO R; VAR b: BOOLEAN; p: P; BEGIN b := p IS 1 END M.
abbrev type_mismatch_96_0 : Parsed
type_mismatch_96_0 = record { source = record { bytes = (77 ∷ 79 ∷ 68 ∷ 85 ∷ 76 ∷ 69 ∷ 32 ∷ 77 ∷ 59 ∷ 32 ∷ 84 ∷ 89 ∷ 80 ∷ 69 ∷ 32 ∷ 82 ∷ 32 ∷ 61 ∷ 32 ∷ 82 ∷ 69 ∷ 67 ∷ 79 ∷ 82 ∷ 68 ∷ 32 ∷ 120 ∷ 58 ∷ 32 ∷ 73 ∷ 78 ∷ 84 ∷ 69 ∷ 71 ∷ 69 ∷ 82 ∷ 59 ∷ 32 ∷ 121 ∷ 42 ∷ 58 ∷ 32 ∷ 67 ∷ 72 ∷ 65 ∷ 82 ∷ 32 ∷ 69 ∷ 78 ∷ 68 ∷ 59 ∷ 32 ∷ 80 ∷ 32 ∷ 61 ∷ 32 ∷ 80 ∷ 79 ∷ 73 ∷ 78 ∷ 84 ∷ 69 ∷ 82 ∷ 32 ∷ 84 ∷ 79 ∷ 32 ∷ 82 ∷ 59 ∷ 32 ∷ 86 ∷ 65 ∷ 82 ∷ 32 ∷ 98 ∷ 58 ∷ 32 ∷ 66 ∷ 79 ∷ 79 ∷ 76 ∷ 69 ∷ 65 ∷ 78 ∷ 59 ∷ 32 ∷ 112 ∷ 58 ∷ 32 ∷ 80 ∷ 59 ∷ 32 ∷ 66 ∷ 69 ∷ 71 ∷ 73 ∷ 78 ∷ 32 ∷ 98 ∷ 32 ∷ 58 ∷ 61 ∷ 32 ∷ 112 ∷ 32 ∷ 73 ∷ 83 ∷ 32 ∷ 49 ∷ 32 ∷ 69 ∷ 78 ∷ 68 ∷ 32 ∷ 77 ∷ 46 ∷ []); symbols = (symbol (Ident) 0 6 ∷ symbol (Ident) 7 8 ∷ symbol (Ident) 8 9 ∷ symbol (Ident) 10 14 ∷ symbol (Ident) 15 16 ∷ symbol (Ident) 17 18 ∷ symbol (Ident) 19 25 ∷ symbol (Ident) 26 27 ∷ symbol (Ident) 27 28 ∷ symbol (Ident) 29 36 ∷ symbol (Ident) 36 37 ∷ symbol (Ident) 38 39 ∷ symbol (Ident) 39 40 ∷ symbol (Ident) 40 41 ∷ symbol (Ident) 42 46 ∷ symbol (Ident) 47 50 ∷ symbol (Ident) 50 51 ∷ symbol (Ident) 52 53 ∷ symbol (Ident) 54 55 ∷ symbol (Ident) 56 63 ∷ symbol (Ident) 64 66 ∷ symbol (Ident) 67 68 ∷ symbol (Ident) 68 69 ∷ symbol (Ident) 70 73 ∷ symbol (Ident) 74 75 ∷ symbol (Ident) 75 76 ∷ symbol (Ident) 77 84 ∷ symbol (Ident) 84 85 ∷ symbol (Ident) 86 87 ∷ symbol (Ident) 87 88 ∷ symbol (Ident) 89 90 ∷ symbol (Ident) 90 91 ∷ symbol (Ident) 92 97 ∷ symbol (Ident) 98 99 ∷ symbol (Ident) 100 102 ∷ symbol (Ident) 103 104 ∷ symbol (Ident) 105 107 ∷ symbol (Int (pos 1)) 108 109 ∷ symbol (Ident) 110 113 ∷ symbol (Ident) 114 115 ∷ symbol (Ident) 115 116 ∷ []) }; tree = record { module_word = 0; name = 1; semicolon = 0; imports = None; decls = (S.decls None (Some (record { type_word = 0; each = (record { name = (record { name = 4; star = None }); equal = 0; is = (S.Record 6 None (S.fields (record { first = (record { name = 7; star = None }); more = [] }) 0 (S.Named (record { name = 9; member = None }))) (S.next_fields 0 (S.fields (record { first = (record { name = 11; star = Some 0 }); more = [] }) 0 (S.Named (record { name = 14; member = None }))) S.no_more_fields) 0); semicolon = 0 } ∷ record { name = (record { name = 17; star = None }); equal = 0; is = (S.Pointer 19 0 (S.Named (record { name = 21; member = None }))); semicolon = 0 } ∷ []) })) (Some (record { var_word = 0; each = (record { names = (record { first = (record { name = 24; star = None }); more = [] }); colon = 0; of = (S.Named (record { name = 26; member = None })); semicolon = 0 } ∷ record { names = (record { first = (record { name = 28; star = None }); more = [] }); colon = 0; of = (S.Named (record { name = 30; member = None })); semicolon = 0 } ∷ []) })) S.no_procedure); body = (Some (record { begin_word = 0; stats = (S.stats (S.AssignOrCall (record { name = 33; selectors = S.no_selector }) (Some (record { becomes = 0; value = (S.compared (S.simple None (S.term (S.Designated 35 S.no_selector) S.no_factor) S.no_term) (TheRelation.Is 36) (S.simple None (S.term (S.Int 37) S.no_factor) S.no_term)) }))) S.no_stat) })); end_word = 0; end_name = 39; period = 0 } }

pub type_mismatch_96 : checked (type_mismatch_96_0 ∷ []) ≡ Fault 0 31 105
type_mismatch_96 = refl

-- MODULE M; TYPE R = RECORD x: INTEGER; y*: CHAR END; P = POINTER TO R; VAR b: BOOLEAN; p: P; BEGIN b := p IS p.x END M.
abbrev type_mismatch_97_0 : Parsed
type_mismatch_97_0 = record { source = record { bytes = (77 ∷ 79 ∷ 68 ∷ 85 ∷ 76 ∷ 69 ∷ 32 ∷ 77 ∷ 59 ∷ 32 ∷ 84 ∷ 89 ∷ 80 ∷ 69 ∷ 32 ∷ 82 ∷ 32 ∷ 61 ∷ 32 ∷ 82 ∷ 69 ∷ 67 ∷ 79 ∷ 82 ∷ 68 ∷ 32 ∷ 120 ∷ 58 ∷ 32 ∷ 73 ∷ 78 ∷ 84 ∷ 69 ∷ 71 ∷ 69 ∷ 82 ∷ 59 ∷ 32 ∷ 121 ∷ 42 ∷ 58 ∷ 32 ∷ 67 ∷ 72 ∷ 65 ∷ 82 ∷ 32 ∷ 69 ∷ 78 ∷ 68 ∷ 59 ∷ 32 ∷ 80 ∷ 32 ∷ 61 ∷ 32 ∷ 80 ∷ 79 ∷ 73 ∷ 78 ∷ 84 ∷ 69 ∷ 82 ∷ 32 ∷ 84 ∷ 79 ∷ 32 ∷ 82 ∷ 59 ∷ 32 ∷ 86 ∷ 65 ∷ 82 ∷ 32 ∷ 98 ∷ 58 ∷ 32 ∷ 66 ∷ 79 ∷ 79 ∷ 76 ∷ 69 ∷ 65 ∷ 78 ∷ 59 ∷ 32 ∷ 112 ∷ 58 ∷ 32 ∷ 80 ∷ 59 ∷ 32 ∷ 66 ∷ 69 ∷ 71 ∷ 73 ∷ 78 ∷ 32 ∷ 98 ∷ 32 ∷ 58 ∷ 61 ∷ 32 ∷ 112 ∷ 32 ∷ 73 ∷ 83 ∷ 32 ∷ 112 ∷ 46 ∷ 120 ∷ 32 ∷ 69 ∷ 78 ∷ 68 ∷ 32 ∷ 77 ∷ 46 ∷ []); symbols = (symbol (Ident) 0 6 ∷ symbol (Ident) 7 8 ∷ symbol (Ident) 8 9 ∷ symbol (Ident) 10 14 ∷ symbol (Ident) 15 16 ∷ symbol (Ident) 17 18 ∷ symbol (Ident) 19 25 ∷ symbol (Ident) 26 27 ∷ symbol (Ident) 27 28 ∷ symbol (Ident) 29 36 ∷ symbol (Ident) 36 37 ∷ symbol (Ident) 38 39 ∷ symbol (Ident) 39 40 ∷ symbol (Ident) 40 41 ∷ symbol (Ident) 42 46 ∷ symbol (Ident) 47 50 ∷ symbol (Ident) 50 51 ∷ symbol (Ident) 52 53 ∷ symbol (Ident) 54 55 ∷ symbol (Ident) 56 63 ∷ symbol (Ident) 64 66 ∷ symbol (Ident) 67 68 ∷ symbol (Ident) 68 69 ∷ symbol (Ident) 70 73 ∷ symbol (Ident) 74 75 ∷ symbol (Ident) 75 76 ∷ symbol (Ident) 77 84 ∷ symbol (Ident) 84 85 ∷ symbol (Ident) 86 87 ∷ symbol (Ident) 87 88 ∷ symbol (Ident) 89 90 ∷ symbol (Ident) 90 91 ∷ symbol (Ident) 92 97 ∷ symbol (Ident) 98 99 ∷ symbol (Ident) 100 102 ∷ symbol (Ident) 103 104 ∷ symbol (Ident) 105 107 ∷ symbol (Ident) 108 109 ∷ symbol (Ident) 109 110 ∷ symbol (Ident) 110 111 ∷ symbol (Ident) 112 115 ∷ symbol (Ident) 116 117 ∷ symbol (Ident) 117 118 ∷ []) }; tree = record { module_word = 0; name = 1; semicolon = 0; imports = None; decls = (S.decls None (Some (record { type_word = 0; each = (record { name = (record { name = 4; star = None }); equal = 0; is = (S.Record 6 None (S.fields (record { first = (record { name = 7; star = None }); more = [] }) 0 (S.Named (record { name = 9; member = None }))) (S.next_fields 0 (S.fields (record { first = (record { name = 11; star = Some 0 }); more = [] }) 0 (S.Named (record { name = 14; member = None }))) S.no_more_fields) 0); semicolon = 0 } ∷ record { name = (record { name = 17; star = None }); equal = 0; is = (S.Pointer 19 0 (S.Named (record { name = 21; member = None }))); semicolon = 0 } ∷ []) })) (Some (record { var_word = 0; each = (record { names = (record { first = (record { name = 24; star = None }); more = [] }); colon = 0; of = (S.Named (record { name = 26; member = None })); semicolon = 0 } ∷ record { names = (record { first = (record { name = 28; star = None }); more = [] }); colon = 0; of = (S.Named (record { name = 30; member = None })); semicolon = 0 } ∷ []) })) S.no_procedure); body = (Some (record { begin_word = 0; stats = (S.stats (S.AssignOrCall (record { name = 33; selectors = S.no_selector }) (Some (record { becomes = 0; value = (S.compared (S.simple None (S.term (S.Designated 35 S.no_selector) S.no_factor) S.no_term) (TheRelation.Is 36) (S.simple None (S.term (S.Designated 37 (S.selected (S.Field 0 39) S.no_selector)) S.no_factor) S.no_term)) }))) S.no_stat) })); end_word = 0; end_name = 41; period = 0 } }

pub type_mismatch_97 : checked (type_mismatch_97_0 ∷ []) ≡ Fault 0 31 108
type_mismatch_97 = refl

-- MODULE M; VAR i: INTEGER; b: BOOLEAN; PROCEDURE F(x: INTEGER): INTEGER; RETURN x END F; BEGIN i := F(b) END M.
abbrev type_mismatch_98_0 : Parsed
type_mismatch_98_0 = record { source = record { bytes = (77 ∷ 79 ∷ 68 ∷ 85 ∷ 76 ∷ 69 ∷ 32 ∷ 77 ∷ 59 ∷ 32 ∷ 86 ∷ 65 ∷ 82 ∷ 32 ∷ 105 ∷ 58 ∷ 32 ∷ 73 ∷ 78 ∷ 84 ∷ 69 ∷ 71 ∷ 69 ∷ 82 ∷ 59 ∷ 32 ∷ 98 ∷ 58 ∷ 32 ∷ 66 ∷ 79 ∷ 79 ∷ 76 ∷ 69 ∷ 65 ∷ 78 ∷ 59 ∷ 32 ∷ 80 ∷ 82 ∷ 79 ∷ 67 ∷ 69 ∷ 68 ∷ 85 ∷ 82 ∷ 69 ∷ 32 ∷ 70 ∷ 40 ∷ 120 ∷ 58 ∷ 32 ∷ 73 ∷ 78 ∷ 84 ∷ 69 ∷ 71 ∷ 69 ∷ 82 ∷ 41 ∷ 58 ∷ 32 ∷ 73 ∷ 78 ∷ 84 ∷ 69 ∷ 71 ∷ 69 ∷ 82 ∷ 59 ∷ 32 ∷ 82 ∷ 69 ∷ 84 ∷ 85 ∷ 82 ∷ 78 ∷ 32 ∷ 120 ∷ 32 ∷ 69 ∷ 78 ∷ 68 ∷ 32 ∷ 70 ∷ 59 ∷ 32 ∷ 66 ∷ 69 ∷ 71 ∷ 73 ∷ 78 ∷ 32 ∷ 105 ∷ 32 ∷ 58 ∷ 61 ∷ 32 ∷ 70 ∷ 40 ∷ 98 ∷ 41 ∷ 32 ∷ 69 ∷ 78 ∷ 68 ∷ 32 ∷ 77 ∷ 46 ∷ []); symbols = (symbol (Ident) 0 6 ∷ symbol (Ident) 7 8 ∷ symbol (Ident) 8 9 ∷ symbol (Ident) 10 13 ∷ symbol (Ident) 14 15 ∷ symbol (Ident) 15 16 ∷ symbol (Ident) 17 24 ∷ symbol (Ident) 24 25 ∷ symbol (Ident) 26 27 ∷ symbol (Ident) 27 28 ∷ symbol (Ident) 29 36 ∷ symbol (Ident) 36 37 ∷ symbol (Ident) 38 47 ∷ symbol (Ident) 48 49 ∷ symbol (Ident) 49 50 ∷ symbol (Ident) 50 51 ∷ symbol (Ident) 51 52 ∷ symbol (Ident) 53 60 ∷ symbol (Ident) 60 61 ∷ symbol (Ident) 61 62 ∷ symbol (Ident) 63 70 ∷ symbol (Ident) 70 71 ∷ symbol (Ident) 72 78 ∷ symbol (Ident) 79 80 ∷ symbol (Ident) 81 84 ∷ symbol (Ident) 85 86 ∷ symbol (Ident) 86 87 ∷ symbol (Ident) 88 93 ∷ symbol (Ident) 94 95 ∷ symbol (Ident) 96 98 ∷ symbol (Ident) 99 100 ∷ symbol (Ident) 100 101 ∷ symbol (Ident) 101 102 ∷ symbol (Ident) 102 103 ∷ symbol (Ident) 104 107 ∷ symbol (Ident) 108 109 ∷ symbol (Ident) 109 110 ∷ []) }; tree = record { module_word = 0; name = 1; semicolon = 0; imports = None; decls = (S.decls None None (Some (record { var_word = 0; each = (record { names = (record { first = (record { name = 4; star = None }); more = [] }); colon = 0; of = (S.Named (record { name = 6; member = None })); semicolon = 0 } ∷ record { names = (record { first = (record { name = 8; star = None }); more = [] }); colon = 0; of = (S.Named (record { name = 10; member = None })); semicolon = 0 } ∷ []) })) (S.procedure 0 (record { name = 13; star = None }) (Some (record { left_paren = 0; sections = Some (record { first = (record { var_word = None; first = 15; more = []; colon = 0; open_array = None; of = (record { name = 17; member = None }) }); more = [] }); right_paren = 0; result = Some (record { colon = 0; name = (record { name = 20; member = None }) }) })) 0 (S.decls None None None S.no_procedure) None (Some (record { return_word = 22; value = (S.only (S.simple None (S.term (S.Designated 23 S.no_selector) S.no_factor) S.no_term)) })) 24 25 0 S.no_procedure)); body = (Some (record { begin_word = 0; stats = (S.stats (S.AssignOrCall (record { name = 28; selectors = S.no_selector }) (Some (record { becomes = 0; value = (S.only (S.simple None (S.term (S.Designated 30 (S.selected (S.Parens 0 (S.expressions (S.only (S.simple None (S.term (S.Designated 32 S.no_selector) S.no_factor) S.no_term)) S.no_expression) 0) S.no_selector)) S.no_factor) S.no_term)) }))) S.no_stat) })); end_word = 0; end_name = 35; period = 0 } }

pub type_mismatch_98 : checked (type_mismatch_98_0 ∷ []) ≡ Fault 0 31 101
type_mismatch_98 = refl

-- MODULE M; VAR i: INTEGER; c: CHAR; f: PROCEDURE (x: INTEGER): INTEGER; BEGIN i := f(c) END M.
abbrev type_mismatch_99_0 : Parsed
type_mismatch_99_0 = record { source = record { bytes = (77 ∷ 79 ∷ 68 ∷ 85 ∷ 76 ∷ 69 ∷ 32 ∷ 77 ∷ 59 ∷ 32 ∷ 86 ∷ 65 ∷ 82 ∷ 32 ∷ 105 ∷ 58 ∷ 32 ∷ 73 ∷ 78 ∷ 84 ∷ 69 ∷ 71 ∷ 69 ∷ 82 ∷ 59 ∷ 32 ∷ 99 ∷ 58 ∷ 32 ∷ 67 ∷ 72 ∷ 65 ∷ 82 ∷ 59 ∷ 32 ∷ 102 ∷ 58 ∷ 32 ∷ 80 ∷ 82 ∷ 79 ∷ 67 ∷ 69 ∷ 68 ∷ 85 ∷ 82 ∷ 69 ∷ 32 ∷ 40 ∷ 120 ∷ 58 ∷ 32 ∷ 73 ∷ 78 ∷ 84 ∷ 69 ∷ 71 ∷ 69 ∷ 82 ∷ 41 ∷ 58 ∷ 32 ∷ 73 ∷ 78 ∷ 84 ∷ 69 ∷ 71 ∷ 69 ∷ 82 ∷ 59 ∷ 32 ∷ 66 ∷ 69 ∷ 71 ∷ 73 ∷ 78 ∷ 32 ∷ 105 ∷ 32 ∷ 58 ∷ 61 ∷ 32 ∷ 102 ∷ 40 ∷ 99 ∷ 41 ∷ 32 ∷ 69 ∷ 78 ∷ 68 ∷ 32 ∷ 77 ∷ 46 ∷ []); symbols = (symbol (Ident) 0 6 ∷ symbol (Ident) 7 8 ∷ symbol (Ident) 8 9 ∷ symbol (Ident) 10 13 ∷ symbol (Ident) 14 15 ∷ symbol (Ident) 15 16 ∷ symbol (Ident) 17 24 ∷ symbol (Ident) 24 25 ∷ symbol (Ident) 26 27 ∷ symbol (Ident) 27 28 ∷ symbol (Ident) 29 33 ∷ symbol (Ident) 33 34 ∷ symbol (Ident) 35 36 ∷ symbol (Ident) 36 37 ∷ symbol (Ident) 38 47 ∷ symbol (Ident) 48 49 ∷ symbol (Ident) 49 50 ∷ symbol (Ident) 50 51 ∷ symbol (Ident) 52 59 ∷ symbol (Ident) 59 60 ∷ symbol (Ident) 60 61 ∷ symbol (Ident) 62 69 ∷ symbol (Ident) 69 70 ∷ symbol (Ident) 71 76 ∷ symbol (Ident) 77 78 ∷ symbol (Ident) 79 81 ∷ symbol (Ident) 82 83 ∷ symbol (Ident) 83 84 ∷ symbol (Ident) 84 85 ∷ symbol (Ident) 85 86 ∷ symbol (Ident) 87 90 ∷ symbol (Ident) 91 92 ∷ symbol (Ident) 92 93 ∷ []) }; tree = record { module_word = 0; name = 1; semicolon = 0; imports = None; decls = (S.decls None None (Some (record { var_word = 0; each = (record { names = (record { first = (record { name = 4; star = None }); more = [] }); colon = 0; of = (S.Named (record { name = 6; member = None })); semicolon = 0 } ∷ record { names = (record { first = (record { name = 8; star = None }); more = [] }); colon = 0; of = (S.Named (record { name = 10; member = None })); semicolon = 0 } ∷ record { names = (record { first = (record { name = 12; star = None }); more = [] }); colon = 0; of = (S.Procedure 14 (Some (record { left_paren = 0; sections = Some (record { first = (record { var_word = None; first = 16; more = []; colon = 0; open_array = None; of = (record { name = 18; member = None }) }); more = [] }); right_paren = 0; result = Some (record { colon = 0; name = (record { name = 21; member = None }) }) }))); semicolon = 0 } ∷ []) })) S.no_procedure); body = (Some (record { begin_word = 0; stats = (S.stats (S.AssignOrCall (record { name = 24; selectors = S.no_selector }) (Some (record { becomes = 0; value = (S.only (S.simple None (S.term (S.Designated 26 (S.selected (S.Parens 0 (S.expressions (S.only (S.simple None (S.term (S.Designated 28 S.no_selector) S.no_factor) S.no_term)) S.no_expression) 0) S.no_selector)) S.no_factor) S.no_term)) }))) S.no_stat) })); end_word = 0; end_name = 31; period = 0 } }

pub type_mismatch_99 : checked (type_mismatch_99_0 ∷ []) ≡ Fault 0 31 84
type_mismatch_99 = refl

-- MODULE M; TYPE R = RECORD x: INTEGER; y*: CHAR END; P = POINTER TO R; VAR i: INTEGER; p: P; PROCEDURE V(VAR x: INTEGER; VAR r: R); END V; BEGIN V(i, p) END M.
abbrev type_mismatch_100_0 : Parsed
type_mismatch_100_0 = record { source = record { bytes = (77 ∷ 79 ∷ 68 ∷ 85 ∷ 76 ∷ 69 ∷ 32 ∷ 77 ∷ 59 ∷ 32 ∷ 84 ∷ 89 ∷ 80 ∷ 69 ∷ 32 ∷ 82 ∷ 32 ∷ 61 ∷ 32 ∷ 82 ∷ 69 ∷ 67 ∷ 79 ∷ 82 ∷ 68 ∷ 32 ∷ 120 ∷ 58 ∷ 32 ∷ 73 ∷ 78 ∷ 84 ∷ 69 ∷ 71 ∷ 69 ∷ 82 ∷ 59 ∷ 32 ∷ 121 ∷ 42 ∷ 58 ∷ 32 ∷ 67 ∷ 72 ∷ 65 ∷ 82 ∷ 32 ∷ 69 ∷ 78 ∷ 68 ∷ 59 ∷ 32 ∷ 80 ∷ 32 ∷ 61 ∷ 32 ∷ 80 ∷ 79 ∷ 73 ∷ 78 ∷ 84 ∷ 69 ∷ 82 ∷ 32 ∷ 84 ∷ 79 ∷ 32 ∷ 82 ∷ 59 ∷ 32 ∷ 86 ∷ 65 ∷ 82 ∷ 32 ∷ 105 ∷ 58 ∷ 32 ∷ 73 ∷ 78 ∷ 84 ∷ 69 ∷ 71 ∷ 69 ∷ 82 ∷ 59 ∷ 32 ∷ 112 ∷ 58 ∷ 32 ∷ 80 ∷ 59 ∷ 32 ∷ 80 ∷ 82 ∷ 79 ∷ 67 ∷ 69 ∷ 68 ∷ 85 ∷ 82 ∷ 69 ∷ 32 ∷ 86 ∷ 40 ∷ 86 ∷ 65 ∷ 82 ∷ 32 ∷ 120 ∷ 58 ∷ 32 ∷ 73 ∷ 78 ∷ 84 ∷ 69 ∷ 71 ∷ 69 ∷ 82 ∷ 59 ∷ 32 ∷ 86 ∷ 65 ∷ 82 ∷ 32 ∷ 114 ∷ 58 ∷ 32 ∷ 82 ∷ 41 ∷ 59 ∷ 32 ∷ 69 ∷ 78 ∷ 68 ∷ 32 ∷ 86 ∷ 59 ∷ 32 ∷ 66 ∷ 69 ∷ 71 ∷ 73 ∷ 78 ∷ 32 ∷ 86 ∷ 40 ∷ 105 ∷ 44 ∷ 32 ∷ 112 ∷ 41 ∷ 32 ∷ 69 ∷ 78 ∷ 68 ∷ 32 ∷ 77 ∷ 46 ∷ []); symbols = (symbol (Ident) 0 6 ∷ symbol (Ident) 7 8 ∷ symbol (Ident) 8 9 ∷ symbol (Ident) 10 14 ∷ symbol (Ident) 15 16 ∷ symbol (Ident) 17 18 ∷ symbol (Ident) 19 25 ∷ symbol (Ident) 26 27 ∷ symbol (Ident) 27 28 ∷ symbol (Ident) 29 36 ∷ symbol (Ident) 36 37 ∷ symbol (Ident) 38 39 ∷ symbol (Ident) 39 40 ∷ symbol (Ident) 40 41 ∷ symbol (Ident) 42 46 ∷ symbol (Ident) 47 50 ∷ symbol (Ident) 50 51 ∷ symbol (Ident) 52 53 ∷ symbol (Ident) 54 55 ∷ symbol (Ident) 56 63 ∷ symbol (Ident) 64 66 ∷ symbol (Ident) 67 68 ∷ symbol (Ident) 68 69 ∷ symbol (Ident) 70 73 ∷ symbol (Ident) 74 75 ∷ symbol (Ident) 75 76 ∷ symbol (Ident) 77 84 ∷ symbol (Ident) 84 85 ∷ symbol (Ident) 86 87 ∷ symbol (Ident) 87 88 ∷ symbol (Ident) 89 90 ∷ symbol (Ident) 90 91 ∷ symbol (Ident) 92 101 ∷ symbol (Ident) 102 103 ∷ symbol (Ident) 103 104 ∷ symbol (Ident) 104 107 ∷ symbol (Ident) 108 109 ∷ symbol (Ident) 109 110 ∷ symbol (Ident) 111 118 ∷ symbol (Ident) 118 119 ∷ symbol (Ident) 120 123 ∷ symbol (Ident) 124 125 ∷ symbol (Ident) 125 126 ∷ symbol (Ident) 127 128 ∷ symbol (Ident) 128 129 ∷ symbol (Ident) 129 130 ∷ symbol (Ident) 131 134 ∷ symbol (Ident) 135 136 ∷ symbol (Ident) 136 137 ∷ symbol (Ident) 138 143 ∷ symbol (Ident) 144 145 ∷ symbol (Ident) 145 146 ∷ symbol (Ident) 146 147 ∷ symbol (Ident) 147 148 ∷ symbol (Ident) 149 150 ∷ symbol (Ident) 150 151 ∷ symbol (Ident) 152 155 ∷ symbol (Ident) 156 157 ∷ symbol (Ident) 157 158 ∷ []) }; tree = record { module_word = 0; name = 1; semicolon = 0; imports = None; decls = (S.decls None (Some (record { type_word = 0; each = (record { name = (record { name = 4; star = None }); equal = 0; is = (S.Record 6 None (S.fields (record { first = (record { name = 7; star = None }); more = [] }) 0 (S.Named (record { name = 9; member = None }))) (S.next_fields 0 (S.fields (record { first = (record { name = 11; star = Some 0 }); more = [] }) 0 (S.Named (record { name = 14; member = None }))) S.no_more_fields) 0); semicolon = 0 } ∷ record { name = (record { name = 17; star = None }); equal = 0; is = (S.Pointer 19 0 (S.Named (record { name = 21; member = None }))); semicolon = 0 } ∷ []) })) (Some (record { var_word = 0; each = (record { names = (record { first = (record { name = 24; star = None }); more = [] }); colon = 0; of = (S.Named (record { name = 26; member = None })); semicolon = 0 } ∷ record { names = (record { first = (record { name = 28; star = None }); more = [] }); colon = 0; of = (S.Named (record { name = 30; member = None })); semicolon = 0 } ∷ []) })) (S.procedure 0 (record { name = 33; star = None }) (Some (record { left_paren = 0; sections = Some (record { first = (record { var_word = Some 0; first = 36; more = []; colon = 0; open_array = None; of = (record { name = 38; member = None }) }); more = (record { semicolon = 0; section = (record { var_word = Some 0; first = 41; more = []; colon = 0; open_array = None; of = (record { name = 43; member = None }) }) } ∷ []) }); right_paren = 0; result = None })) 0 (S.decls None None None S.no_procedure) None None 46 47 0 S.no_procedure)); body = (Some (record { begin_word = 0; stats = (S.stats (S.AssignOrCall (record { name = 50; selectors = (S.selected (S.Parens 0 (S.expressions (S.only (S.simple None (S.term (S.Designated 52 S.no_selector) S.no_factor) S.no_term)) (S.next_expression 0 (S.only (S.simple None (S.term (S.Designated 54 S.no_selector) S.no_factor) S.no_term)) S.no_expression)) 0) S.no_selector) }) None) S.no_stat) })); end_word = 0; end_name = 57; period = 0 } }

pub type_mismatch_100 : checked (type_mismatch_100_0 ∷ []) ≡ Fault 0 31 149
type_mismatch_100 = refl

-- MODULE M; TYPE R = RECORD x: INTEGER; y*: CHAR END; VAR y: BYTE; r: R; PROCEDURE V(VAR x: INTEGER; VAR r: R); END V; BEGIN V(y, r) END M.
abbrev type_mismatch_101_0 : Parsed
type_mismatch_101_0 = record { source = record { bytes = (77 ∷ 79 ∷ 68 ∷ 85 ∷ 76 ∷ 69 ∷ 32 ∷ 77 ∷ 59 ∷ 32 ∷ 84 ∷ 89 ∷ 80 ∷ 69 ∷ 32 ∷ 82 ∷ 32 ∷ 61 ∷ 32 ∷ 82 ∷ 69 ∷ 67 ∷ 79 ∷ 82 ∷ 68 ∷ 32 ∷ 120 ∷ 58 ∷ 32 ∷ 73 ∷ 78 ∷ 84 ∷ 69 ∷ 71 ∷ 69 ∷ 82 ∷ 59 ∷ 32 ∷ 121 ∷ 42 ∷ 58 ∷ 32 ∷ 67 ∷ 72 ∷ 65 ∷ 82 ∷ 32 ∷ 69 ∷ 78 ∷ 68 ∷ 59 ∷ 32 ∷ 86 ∷ 65 ∷ 82 ∷ 32 ∷ 121 ∷ 58 ∷ 32 ∷ 66 ∷ 89 ∷ 84 ∷ 69 ∷ 59 ∷ 32 ∷ 114 ∷ 58 ∷ 32 ∷ 82 ∷ 59 ∷ 32 ∷ 80 ∷ 82 ∷ 79 ∷ 67 ∷ 69 ∷ 68 ∷ 85 ∷ 82 ∷ 69 ∷ 32 ∷ 86 ∷ 40 ∷ 86 ∷ 65 ∷ 82 ∷ 32 ∷ 120 ∷ 58 ∷ 32 ∷ 73 ∷ 78 ∷ 84 ∷ 69 ∷ 71 ∷ 69 ∷ 82 ∷ 59 ∷ 32 ∷ 86 ∷ 65 ∷ 82 ∷ 32 ∷ 114 ∷ 58 ∷ 32 ∷ 82 ∷ 41 ∷ 59 ∷ 32 ∷ 69 ∷ 78 ∷ 68 ∷ 32 ∷ 86 ∷ 59 ∷ 32 ∷ 66 ∷ 69 ∷ 71 ∷ 73 ∷ 78 ∷ 32 ∷ 86 ∷ 40 ∷ 121 ∷ 44 ∷ 32 ∷ 114 ∷ 41 ∷ 32 ∷ 69 ∷ 78 ∷ 68 ∷ 32 ∷ 77 ∷ 46 ∷ []); symbols = (symbol (Ident) 0 6 ∷ symbol (Ident) 7 8 ∷ symbol (Ident) 8 9 ∷ symbol (Ident) 10 14 ∷ symbol (Ident) 15 16 ∷ symbol (Ident) 17 18 ∷ symbol (Ident) 19 25 ∷ symbol (Ident) 26 27 ∷ symbol (Ident) 27 28 ∷ symbol (Ident) 29 36 ∷ symbol (Ident) 36 37 ∷ symbol (Ident) 38 39 ∷ symbol (Ident) 39 40 ∷ symbol (Ident) 40 41 ∷ symbol (Ident) 42 46 ∷ symbol (Ident) 47 50 ∷ symbol (Ident) 50 51 ∷ symbol (Ident) 52 55 ∷ symbol (Ident) 56 57 ∷ symbol (Ident) 57 58 ∷ symbol (Ident) 59 63 ∷ symbol (Ident) 63 64 ∷ symbol (Ident) 65 66 ∷ symbol (Ident) 66 67 ∷ symbol (Ident) 68 69 ∷ symbol (Ident) 69 70 ∷ symbol (Ident) 71 80 ∷ symbol (Ident) 81 82 ∷ symbol (Ident) 82 83 ∷ symbol (Ident) 83 86 ∷ symbol (Ident) 87 88 ∷ symbol (Ident) 88 89 ∷ symbol (Ident) 90 97 ∷ symbol (Ident) 97 98 ∷ symbol (Ident) 99 102 ∷ symbol (Ident) 103 104 ∷ symbol (Ident) 104 105 ∷ symbol (Ident) 106 107 ∷ symbol (Ident) 107 108 ∷ symbol (Ident) 108 109 ∷ symbol (Ident) 110 113 ∷ symbol (Ident) 114 115 ∷ symbol (Ident) 115 116 ∷ symbol (Ident) 117 122 ∷ symbol (Ident) 123 124 ∷ symbol (Ident) 124 125 ∷ symbol (Ident) 125 126 ∷ symbol (Ident) 126 127 ∷ symbol (Ident) 128 129 ∷ symbol (Ident) 129 130 ∷ symbol (Ident) 131 134 ∷ symbol (Ident) 135 136 ∷ symbol (Ident) 136 137 ∷ []) }; tree = record { module_word = 0; name = 1; semicolon = 0; imports = None; decls = (S.decls None (Some (record { type_word = 0; each = (record { name = (record { name = 4; star = None }); equal = 0; is = (S.Record 6 None (S.fields (record { first = (record { name = 7; star = None }); more = [] }) 0 (S.Named (record { name = 9; member = None }))) (S.next_fields 0 (S.fields (record { first = (record { name = 11; star = Some 0 }); more = [] }) 0 (S.Named (record { name = 14; member = None }))) S.no_more_fields) 0); semicolon = 0 } ∷ []) })) (Some (record { var_word = 0; each = (record { names = (record { first = (record { name = 18; star = None }); more = [] }); colon = 0; of = (S.Named (record { name = 20; member = None })); semicolon = 0 } ∷ record { names = (record { first = (record { name = 22; star = None }); more = [] }); colon = 0; of = (S.Named (record { name = 24; member = None })); semicolon = 0 } ∷ []) })) (S.procedure 0 (record { name = 27; star = None }) (Some (record { left_paren = 0; sections = Some (record { first = (record { var_word = Some 0; first = 30; more = []; colon = 0; open_array = None; of = (record { name = 32; member = None }) }); more = (record { semicolon = 0; section = (record { var_word = Some 0; first = 35; more = []; colon = 0; open_array = None; of = (record { name = 37; member = None }) }) } ∷ []) }); right_paren = 0; result = None })) 0 (S.decls None None None S.no_procedure) None None 40 41 0 S.no_procedure)); body = (Some (record { begin_word = 0; stats = (S.stats (S.AssignOrCall (record { name = 44; selectors = (S.selected (S.Parens 0 (S.expressions (S.only (S.simple None (S.term (S.Designated 46 S.no_selector) S.no_factor) S.no_term)) (S.next_expression 0 (S.only (S.simple None (S.term (S.Designated 48 S.no_selector) S.no_factor) S.no_term)) S.no_expression)) 0) S.no_selector) }) None) S.no_stat) })); end_word = 0; end_name = 51; period = 0 } }

pub type_mismatch_101 : checked (type_mismatch_101_0 ∷ []) ≡ Fault 0 31 125
type_mismatch_101 = refl

-- MODULE M; VAR c: CHAR; a: ARRAY 3 OF INTEGER; PROCEDURE O(x: ARRAY OF CHAR; VAR z: ARRAY OF INTEGER); END O; BEGIN O(c, a) END M.
abbrev type_mismatch_102_0 : Parsed
type_mismatch_102_0 = record { source = record { bytes = (77 ∷ 79 ∷ 68 ∷ 85 ∷ 76 ∷ 69 ∷ 32 ∷ 77 ∷ 59 ∷ 32 ∷ 86 ∷ 65 ∷ 82 ∷ 32 ∷ 99 ∷ 58 ∷ 32 ∷ 67 ∷ 72 ∷ 65 ∷ 82 ∷ 59 ∷ 32 ∷ 97 ∷ 58 ∷ 32 ∷ 65 ∷ 82 ∷ 82 ∷ 65 ∷ 89 ∷ 32 ∷ 51 ∷ 32 ∷ 79 ∷ 70 ∷ 32 ∷ 73 ∷ 78 ∷ 84 ∷ 69 ∷ 71 ∷ 69 ∷ 82 ∷ 59 ∷ 32 ∷ 80 ∷ 82 ∷ 79 ∷ 67 ∷ 69 ∷ 68 ∷ 85 ∷ 82 ∷ 69 ∷ 32 ∷ 79 ∷ 40 ∷ 120 ∷ 58 ∷ 32 ∷ 65 ∷ 82 ∷ 82 ∷ 65 ∷ 89 ∷ 32 ∷ 79 ∷ 70 ∷ 32 ∷ 67 ∷ 72 ∷ 65 ∷ 82 ∷ 59 ∷ 32 ∷ 86 ∷ 65 ∷ 82 ∷ 32 ∷ 122 ∷ 58 ∷ 32 ∷ 65 ∷ 82 ∷ 82 ∷ 65 ∷ 89 ∷ 32 ∷ 79 ∷ 70 ∷ 32 ∷ 73 ∷ 78 ∷ 84 ∷ 69 ∷ 71 ∷ 69 ∷ 82 ∷ 41 ∷ 59 ∷ 32 ∷ 69 ∷ 78 ∷ 68 ∷ 32 ∷ 79 ∷ 59 ∷ 32 ∷ 66 ∷ 69 ∷ 71 ∷ 73 ∷ 78 ∷ 32 ∷ 79 ∷ 40 ∷ 99 ∷ 44 ∷ 32 ∷ 97 ∷ 41 ∷ 32 ∷ 69 ∷ 78 ∷ 68 ∷ 32 ∷ 77 ∷ 46 ∷ []); symbols = (symbol (Ident) 0 6 ∷ symbol (Ident) 7 8 ∷ symbol (Ident) 8 9 ∷ symbol (Ident) 10 13 ∷ symbol (Ident) 14 15 ∷ symbol (Ident) 15 16 ∷ symbol (Ident) 17 21 ∷ symbol (Ident) 21 22 ∷ symbol (Ident) 23 24 ∷ symbol (Ident) 24 25 ∷ symbol (Ident) 26 31 ∷ symbol (Int (pos 3)) 32 33 ∷ symbol (Ident) 34 36 ∷ symbol (Ident) 37 44 ∷ symbol (Ident) 44 45 ∷ symbol (Ident) 46 55 ∷ symbol (Ident) 56 57 ∷ symbol (Ident) 57 58 ∷ symbol (Ident) 58 59 ∷ symbol (Ident) 59 60 ∷ symbol (Ident) 61 66 ∷ symbol (Ident) 67 69 ∷ symbol (Ident) 70 74 ∷ symbol (Ident) 74 75 ∷ symbol (Ident) 76 79 ∷ symbol (Ident) 80 81 ∷ symbol (Ident) 81 82 ∷ symbol (Ident) 83 88 ∷ symbol (Ident) 89 91 ∷ symbol (Ident) 92 99 ∷ symbol (Ident) 99 100 ∷ symbol (Ident) 100 101 ∷ symbol (Ident) 102 105 ∷ symbol (Ident) 106 107 ∷ symbol (Ident) 107 108 ∷ symbol (Ident) 109 114 ∷ symbol (Ident) 115 116 ∷ symbol (Ident) 116 117 ∷ symbol (Ident) 117 118 ∷ symbol (Ident) 118 119 ∷ symbol (Ident) 120 121 ∷ symbol (Ident) 121 122 ∷ symbol (Ident) 123 126 ∷ symbol (Ident) 127 128 ∷ symbol (Ident) 128 129 ∷ []) }; tree = record { module_word = 0; name = 1; semicolon = 0; imports = None; decls = (S.decls None None (Some (record { var_word = 0; each = (record { names = (record { first = (record { name = 4; star = None }); more = [] }); colon = 0; of = (S.Named (record { name = 6; member = None })); semicolon = 0 } ∷ record { names = (record { first = (record { name = 8; star = None }); more = [] }); colon = 0; of = (S.Array 10 (S.only (S.simple None (S.term (S.Int 11) S.no_factor) S.no_term)) S.no_expression 0 (S.Named (record { name = 13; member = None }))); semicolon = 0 } ∷ []) })) (S.procedure 0 (record { name = 16; star = None }) (Some (record { left_paren = 0; sections = Some (record { first = (record { var_word = None; first = 18; more = []; colon = 0; open_array = Some (record { array_word = 0; of_word = 0 }); of = (record { name = 22; member = None }) }); more = (record { semicolon = 0; section = (record { var_word = Some 0; first = 25; more = []; colon = 0; open_array = Some (record { array_word = 0; of_word = 0 }); of = (record { name = 29; member = None }) }) } ∷ []) }); right_paren = 0; result = None })) 0 (S.decls None None None S.no_procedure) None None 32 33 0 S.no_procedure)); body = (Some (record { begin_word = 0; stats = (S.stats (S.AssignOrCall (record { name = 36; selectors = (S.selected (S.Parens 0 (S.expressions (S.only (S.simple None (S.term (S.Designated 38 S.no_selector) S.no_factor) S.no_term)) (S.next_expression 0 (S.only (S.simple None (S.term (S.Designated 40 S.no_selector) S.no_factor) S.no_term)) S.no_expression)) 0) S.no_selector) }) None) S.no_stat) })); end_word = 0; end_name = 43; period = 0 } }

pub type_mismatch_102 : checked (type_mismatch_102_0 ∷ []) ≡ Fault 0 31 117
type_mismatch_102 = refl

-- MODULE M; VAR a: ARRAY 3 OF INTEGER; PROCEDURE O(x: ARRAY OF CHAR; VAR z: ARRAY OF INTEGER); END O; BEGIN O(41X, a) END M.
abbrev type_mismatch_103_0 : Parsed
type_mismatch_103_0 = record { source = record { bytes = (77 ∷ 79 ∷ 68 ∷ 85 ∷ 76 ∷ 69 ∷ 32 ∷ 77 ∷ 59 ∷ 32 ∷ 86 ∷ 65 ∷ 82 ∷ 32 ∷ 97 ∷ 58 ∷ 32 ∷ 65 ∷ 82 ∷ 82 ∷ 65 ∷ 89 ∷ 32 ∷ 51 ∷ 32 ∷ 79 ∷ 70 ∷ 32 ∷ 73 ∷ 78 ∷ 84 ∷ 69 ∷ 71 ∷ 69 ∷ 82 ∷ 59 ∷ 32 ∷ 80 ∷ 82 ∷ 79 ∷ 67 ∷ 69 ∷ 68 ∷ 85 ∷ 82 ∷ 69 ∷ 32 ∷ 79 ∷ 40 ∷ 120 ∷ 58 ∷ 32 ∷ 65 ∷ 82 ∷ 82 ∷ 65 ∷ 89 ∷ 32 ∷ 79 ∷ 70 ∷ 32 ∷ 67 ∷ 72 ∷ 65 ∷ 82 ∷ 59 ∷ 32 ∷ 86 ∷ 65 ∷ 82 ∷ 32 ∷ 122 ∷ 58 ∷ 32 ∷ 65 ∷ 82 ∷ 82 ∷ 65 ∷ 89 ∷ 32 ∷ 79 ∷ 70 ∷ 32 ∷ 73 ∷ 78 ∷ 84 ∷ 69 ∷ 71 ∷ 69 ∷ 82 ∷ 41 ∷ 59 ∷ 32 ∷ 69 ∷ 78 ∷ 68 ∷ 32 ∷ 79 ∷ 59 ∷ 32 ∷ 66 ∷ 69 ∷ 71 ∷ 73 ∷ 78 ∷ 32 ∷ 79 ∷ 40 ∷ 52 ∷ 49 ∷ 88 ∷ 44 ∷ 32 ∷ 97 ∷ 41 ∷ 32 ∷ 69 ∷ 78 ∷ 68 ∷ 32 ∷ 77 ∷ 46 ∷ []); symbols = (symbol (Ident) 0 6 ∷ symbol (Ident) 7 8 ∷ symbol (Ident) 8 9 ∷ symbol (Ident) 10 13 ∷ symbol (Ident) 14 15 ∷ symbol (Ident) 15 16 ∷ symbol (Ident) 17 22 ∷ symbol (Int (pos 3)) 23 24 ∷ symbol (Ident) 25 27 ∷ symbol (Ident) 28 35 ∷ symbol (Ident) 35 36 ∷ symbol (Ident) 37 46 ∷ symbol (Ident) 47 48 ∷ symbol (Ident) 48 49 ∷ symbol (Ident) 49 50 ∷ symbol (Ident) 50 51 ∷ symbol (Ident) 52 57 ∷ symbol (Ident) 58 60 ∷ symbol (Ident) 61 65 ∷ symbol (Ident) 65 66 ∷ symbol (Ident) 67 70 ∷ symbol (Ident) 71 72 ∷ symbol (Ident) 72 73 ∷ symbol (Ident) 74 79 ∷ symbol (Ident) 80 82 ∷ symbol (Ident) 83 90 ∷ symbol (Ident) 90 91 ∷ symbol (Ident) 91 92 ∷ symbol (Ident) 93 96 ∷ symbol (Ident) 97 98 ∷ symbol (Ident) 98 99 ∷ symbol (Ident) 100 105 ∷ symbol (Ident) 106 107 ∷ symbol (Ident) 107 108 ∷ symbol (TheKind.Char 65) 108 111 ∷ symbol (Ident) 111 112 ∷ symbol (Ident) 113 114 ∷ symbol (Ident) 114 115 ∷ symbol (Ident) 116 119 ∷ symbol (Ident) 120 121 ∷ symbol (Ident) 121 122 ∷ []) }; tree = record { module_word = 0; name = 1; semicolon = 0; imports = None; decls = (S.decls None None (Some (record { var_word = 0; each = (record { names = (record { first = (record { name = 4; star = None }); more = [] }); colon = 0; of = (S.Array 6 (S.only (S.simple None (S.term (S.Int 7) S.no_factor) S.no_term)) S.no_expression 0 (S.Named (record { name = 9; member = None }))); semicolon = 0 } ∷ []) })) (S.procedure 0 (record { name = 12; star = None }) (Some (record { left_paren = 0; sections = Some (record { first = (record { var_word = None; first = 14; more = []; colon = 0; open_array = Some (record { array_word = 0; of_word = 0 }); of = (record { name = 18; member = None }) }); more = (record { semicolon = 0; section = (record { var_word = Some 0; first = 21; more = []; colon = 0; open_array = Some (record { array_word = 0; of_word = 0 }); of = (record { name = 25; member = None }) }) } ∷ []) }); right_paren = 0; result = None })) 0 (S.decls None None None S.no_procedure) None None 28 29 0 S.no_procedure)); body = (Some (record { begin_word = 0; stats = (S.stats (S.AssignOrCall (record { name = 32; selectors = (S.selected (S.Parens 0 (S.expressions (S.only (S.simple None (S.term (S.Char 34) S.no_factor) S.no_term)) (S.next_expression 0 (S.only (S.simple None (S.term (S.Designated 36 S.no_selector) S.no_factor) S.no_term)) S.no_expression)) 0) S.no_selector) }) None) S.no_stat) })); end_word = 0; end_name = 39; period = 0 } }

pub type_mismatch_103 : checked (type_mismatch_103_0 ∷ []) ≡ Fault 0 31 108
type_mismatch_103 = refl

-- MODULE M; VAR a: ARRAY 3 OF INTEGER; PROCEDURE O(x: ARRAY OF CHAR; VAR z: ARRAY OF INTEGER); END O; BEGIN O(a, a) END M.
abbrev type_mismatch_104_0 : Parsed
type_mismatch_104_0 = record { source = record { bytes = (77 ∷ 79 ∷ 68 ∷ 85 ∷ 76 ∷ 69 ∷ 32 ∷ 77 ∷ 59 ∷ 32 ∷ 86 ∷ 65 ∷ 82 ∷ 32 ∷ 97 ∷ 58 ∷ 32 ∷ 65 ∷ 82 ∷ 82 ∷ 65 ∷ 89 ∷ 32 ∷ 51 ∷ 32 ∷ 79 ∷ 70 ∷ 32 ∷ 73 ∷ 78 ∷ 84 ∷ 69 ∷ 71 ∷ 69 ∷ 82 ∷ 59 ∷ 32 ∷ 80 ∷ 82 ∷ 79 ∷ 67 ∷ 69 ∷ 68 ∷ 85 ∷ 82 ∷ 69 ∷ 32 ∷ 79 ∷ 40 ∷ 120 ∷ 58 ∷ 32 ∷ 65 ∷ 82 ∷ 82 ∷ 65 ∷ 89 ∷ 32 ∷ 79 ∷ 70 ∷ 32 ∷ 67 ∷ 72 ∷ 65 ∷ 82 ∷ 59 ∷ 32 ∷ 86 ∷ 65 ∷ 82 ∷ 32 ∷ 122 ∷ 58 ∷ 32 ∷ 65 ∷ 82 ∷ 82 ∷ 65 ∷ 89 ∷ 32 ∷ 79 ∷ 70 ∷ 32 ∷ 73 ∷ 78 ∷ 84 ∷ 69 ∷ 71 ∷ 69 ∷ 82 ∷ 41 ∷ 59 ∷ 32 ∷ 69 ∷ 78 ∷ 68 ∷ 32 ∷ 79 ∷ 59 ∷ 32 ∷ 66 ∷ 69 ∷ 71 ∷ 73 ∷ 78 ∷ 32 ∷ 79 ∷ 40 ∷ 97 ∷ 44 ∷ 32 ∷ 97 ∷ 41 ∷ 32 ∷ 69 ∷ 78 ∷ 68 ∷ 32 ∷ 77 ∷ 46 ∷ []); symbols = (symbol (Ident) 0 6 ∷ symbol (Ident) 7 8 ∷ symbol (Ident) 8 9 ∷ symbol (Ident) 10 13 ∷ symbol (Ident) 14 15 ∷ symbol (Ident) 15 16 ∷ symbol (Ident) 17 22 ∷ symbol (Int (pos 3)) 23 24 ∷ symbol (Ident) 25 27 ∷ symbol (Ident) 28 35 ∷ symbol (Ident) 35 36 ∷ symbol (Ident) 37 46 ∷ symbol (Ident) 47 48 ∷ symbol (Ident) 48 49 ∷ symbol (Ident) 49 50 ∷ symbol (Ident) 50 51 ∷ symbol (Ident) 52 57 ∷ symbol (Ident) 58 60 ∷ symbol (Ident) 61 65 ∷ symbol (Ident) 65 66 ∷ symbol (Ident) 67 70 ∷ symbol (Ident) 71 72 ∷ symbol (Ident) 72 73 ∷ symbol (Ident) 74 79 ∷ symbol (Ident) 80 82 ∷ symbol (Ident) 83 90 ∷ symbol (Ident) 90 91 ∷ symbol (Ident) 91 92 ∷ symbol (Ident) 93 96 ∷ symbol (Ident) 97 98 ∷ symbol (Ident) 98 99 ∷ symbol (Ident) 100 105 ∷ symbol (Ident) 106 107 ∷ symbol (Ident) 107 108 ∷ symbol (Ident) 108 109 ∷ symbol (Ident) 109 110 ∷ symbol (Ident) 111 112 ∷ symbol (Ident) 112 113 ∷ symbol (Ident) 114 117 ∷ symbol (Ident) 118 119 ∷ symbol (Ident) 119 120 ∷ []) }; tree = record { module_word = 0; name = 1; semicolon = 0; imports = None; decls = (S.decls None None (Some (record { var_word = 0; each = (record { names = (record { first = (record { name = 4; star = None }); more = [] }); colon = 0; of = (S.Array 6 (S.only (S.simple None (S.term (S.Int 7) S.no_factor) S.no_term)) S.no_expression 0 (S.Named (record { name = 9; member = None }))); semicolon = 0 } ∷ []) })) (S.procedure 0 (record { name = 12; star = None }) (Some (record { left_paren = 0; sections = Some (record { first = (record { var_word = None; first = 14; more = []; colon = 0; open_array = Some (record { array_word = 0; of_word = 0 }); of = (record { name = 18; member = None }) }); more = (record { semicolon = 0; section = (record { var_word = Some 0; first = 21; more = []; colon = 0; open_array = Some (record { array_word = 0; of_word = 0 }); of = (record { name = 25; member = None }) }) } ∷ []) }); right_paren = 0; result = None })) 0 (S.decls None None None S.no_procedure) None None 28 29 0 S.no_procedure)); body = (Some (record { begin_word = 0; stats = (S.stats (S.AssignOrCall (record { name = 32; selectors = (S.selected (S.Parens 0 (S.expressions (S.only (S.simple None (S.term (S.Designated 34 S.no_selector) S.no_factor) S.no_term)) (S.next_expression 0 (S.only (S.simple None (S.term (S.Designated 36 S.no_selector) S.no_factor) S.no_term)) S.no_expression)) 0) S.no_selector) }) None) S.no_stat) })); end_word = 0; end_name = 39; period = 0 } }

pub type_mismatch_104 : checked (type_mismatch_104_0 ∷ []) ≡ Fault 0 31 108
type_mismatch_104 = refl

-- MODULE M; VAR t: ARRAY 8 OF CHAR; PROCEDURE O(x: ARRAY OF CHAR; VAR z: ARRAY OF INTEGER); END O; BEGIN O(''a'', t) END M.
abbrev type_mismatch_105_0 : Parsed
type_mismatch_105_0 = record { source = record { bytes = (77 ∷ 79 ∷ 68 ∷ 85 ∷ 76 ∷ 69 ∷ 32 ∷ 77 ∷ 59 ∷ 32 ∷ 86 ∷ 65 ∷ 82 ∷ 32 ∷ 116 ∷ 58 ∷ 32 ∷ 65 ∷ 82 ∷ 82 ∷ 65 ∷ 89 ∷ 32 ∷ 56 ∷ 32 ∷ 79 ∷ 70 ∷ 32 ∷ 67 ∷ 72 ∷ 65 ∷ 82 ∷ 59 ∷ 32 ∷ 80 ∷ 82 ∷ 79 ∷ 67 ∷ 69 ∷ 68 ∷ 85 ∷ 82 ∷ 69 ∷ 32 ∷ 79 ∷ 40 ∷ 120 ∷ 58 ∷ 32 ∷ 65 ∷ 82 ∷ 82 ∷ 65 ∷ 89 ∷ 32 ∷ 79 ∷ 70 ∷ 32 ∷ 67 ∷ 72 ∷ 65 ∷ 82 ∷ 59 ∷ 32 ∷ 86 ∷ 65 ∷ 82 ∷ 32 ∷ 122 ∷ 58 ∷ 32 ∷ 65 ∷ 82 ∷ 82 ∷ 65 ∷ 89 ∷ 32 ∷ 79 ∷ 70 ∷ 32 ∷ 73 ∷ 78 ∷ 84 ∷ 69 ∷ 71 ∷ 69 ∷ 82 ∷ 41 ∷ 59 ∷ 32 ∷ 69 ∷ 78 ∷ 68 ∷ 32 ∷ 79 ∷ 59 ∷ 32 ∷ 66 ∷ 69 ∷ 71 ∷ 73 ∷ 78 ∷ 32 ∷ 79 ∷ 40 ∷ 34 ∷ 97 ∷ 34 ∷ 44 ∷ 32 ∷ 116 ∷ 41 ∷ 32 ∷ 69 ∷ 78 ∷ 68 ∷ 32 ∷ 77 ∷ 46 ∷ []); symbols = (symbol (Ident) 0 6 ∷ symbol (Ident) 7 8 ∷ symbol (Ident) 8 9 ∷ symbol (Ident) 10 13 ∷ symbol (Ident) 14 15 ∷ symbol (Ident) 15 16 ∷ symbol (Ident) 17 22 ∷ symbol (Int (pos 8)) 23 24 ∷ symbol (Ident) 25 27 ∷ symbol (Ident) 28 32 ∷ symbol (Ident) 32 33 ∷ symbol (Ident) 34 43 ∷ symbol (Ident) 44 45 ∷ symbol (Ident) 45 46 ∷ symbol (Ident) 46 47 ∷ symbol (Ident) 47 48 ∷ symbol (Ident) 49 54 ∷ symbol (Ident) 55 57 ∷ symbol (Ident) 58 62 ∷ symbol (Ident) 62 63 ∷ symbol (Ident) 64 67 ∷ symbol (Ident) 68 69 ∷ symbol (Ident) 69 70 ∷ symbol (Ident) 71 76 ∷ symbol (Ident) 77 79 ∷ symbol (Ident) 80 87 ∷ symbol (Ident) 87 88 ∷ symbol (Ident) 88 89 ∷ symbol (Ident) 90 93 ∷ symbol (Ident) 94 95 ∷ symbol (Ident) 95 96 ∷ symbol (Ident) 97 102 ∷ symbol (Ident) 103 104 ∷ symbol (Ident) 104 105 ∷ symbol (TheKind.Text) 105 108 ∷ symbol (Ident) 108 109 ∷ symbol (Ident) 110 111 ∷ symbol (Ident) 111 112 ∷ symbol (Ident) 113 116 ∷ symbol (Ident) 117 118 ∷ symbol (Ident) 118 119 ∷ []) }; tree = record { module_word = 0; name = 1; semicolon = 0; imports = None; decls = (S.decls None None (Some (record { var_word = 0; each = (record { names = (record { first = (record { name = 4; star = None }); more = [] }); colon = 0; of = (S.Array 6 (S.only (S.simple None (S.term (S.Int 7) S.no_factor) S.no_term)) S.no_expression 0 (S.Named (record { name = 9; member = None }))); semicolon = 0 } ∷ []) })) (S.procedure 0 (record { name = 12; star = None }) (Some (record { left_paren = 0; sections = Some (record { first = (record { var_word = None; first = 14; more = []; colon = 0; open_array = Some (record { array_word = 0; of_word = 0 }); of = (record { name = 18; member = None }) }); more = (record { semicolon = 0; section = (record { var_word = Some 0; first = 21; more = []; colon = 0; open_array = Some (record { array_word = 0; of_word = 0 }); of = (record { name = 25; member = None }) }) } ∷ []) }); right_paren = 0; result = None })) 0 (S.decls None None None S.no_procedure) None None 28 29 0 S.no_procedure)); body = (Some (record { begin_word = 0; stats = (S.stats (S.AssignOrCall (record { name = 32; selectors = (S.selected (S.Parens 0 (S.expressions (S.only (S.simple None (S.term (S.Text 34) S.no_factor) S.no_term)) (S.next_expression 0 (S.only (S.simple None (S.term (S.Designated 36 S.no_selector) S.no_factor) S.no_term)) S.no_expression)) 0) S.no_selector) }) None) S.no_stat) })); end_word = 0; end_name = 39; period = 0 } }

pub type_mismatch_105 : checked (type_mismatch_105_0 ∷ []) ≡ Fault 0 31 110
type_mismatch_105 = refl

-- MODULE M; TYPE R = RECORD x: INTEGER; y*: CHAR END; P = POINTER TO R; VAR p: P; a: ARRAY 3 OF INTEGER; PROCEDURE W(r: R; a: ARRAY OF INTEGER); END W; BEGIN W(p, a) END M.
abbrev type_mismatch_106_0 : Parsed
type_mismatch_106_0 = record { source = record { bytes = (77 ∷ 79 ∷ 68 ∷ 85 ∷ 76 ∷ 69 ∷ 32 ∷ 77 ∷ 59 ∷ 32 ∷ 84 ∷ 89 ∷ 80 ∷ 69 ∷ 32 ∷ 82 ∷ 32 ∷ 61 ∷ 32 ∷ 82 ∷ 69 ∷ 67 ∷ 79 ∷ 82 ∷ 68 ∷ 32 ∷ 120 ∷ 58 ∷ 32 ∷ 73 ∷ 78 ∷ 84 ∷ 69 ∷ 71 ∷ 69 ∷ 82 ∷ 59 ∷ 32 ∷ 121 ∷ 42 ∷ 58 ∷ 32 ∷ 67 ∷ 72 ∷ 65 ∷ 82 ∷ 32 ∷ 69 ∷ 78 ∷ 68 ∷ 59 ∷ 32 ∷ 80 ∷ 32 ∷ 61 ∷ 32 ∷ 80 ∷ 79 ∷ 73 ∷ 78 ∷ 84 ∷ 69 ∷ 82 ∷ 32 ∷ 84 ∷ 79 ∷ 32 ∷ 82 ∷ 59 ∷ 32 ∷ 86 ∷ 65 ∷ 82 ∷ 32 ∷ 112 ∷ 58 ∷ 32 ∷ 80 ∷ 59 ∷ 32 ∷ 97 ∷ 58 ∷ 32 ∷ 65 ∷ 82 ∷ 82 ∷ 65 ∷ 89 ∷ 32 ∷ 51 ∷ 32 ∷ 79 ∷ 70 ∷ 32 ∷ 73 ∷ 78 ∷ 84 ∷ 69 ∷ 71 ∷ 69 ∷ 82 ∷ 59 ∷ 32 ∷ 80 ∷ 82 ∷ 79 ∷ 67 ∷ 69 ∷ 68 ∷ 85 ∷ 82 ∷ 69 ∷ 32 ∷ 87 ∷ 40 ∷ 114 ∷ 58 ∷ 32 ∷ 82 ∷ 59 ∷ 32 ∷ 97 ∷ 58 ∷ 32 ∷ 65 ∷ 82 ∷ 82 ∷ 65 ∷ 89 ∷ 32 ∷ 79 ∷ 70 ∷ 32 ∷ 73 ∷ 78 ∷ 84 ∷ 69 ∷ 71 ∷ 69 ∷ 82 ∷ 41 ∷ 59 ∷ 32 ∷ 69 ∷ 78 ∷ 68 ∷ 32 ∷ 87 ∷ 59 ∷ 32 ∷ 66 ∷ 69 ∷ 71 ∷ 73 ∷ 78 ∷ 32 ∷ 87 ∷ 40 ∷ 112 ∷ 44 ∷ 32 ∷ 97 ∷ 41 ∷ 32 ∷ 69 ∷ 78 ∷ 68 ∷ 32 ∷ 77 ∷ 46 ∷ []); symbols = (symbol (Ident) 0 6 ∷ symbol (Ident) 7 8 ∷ symbol (Ident) 8 9 ∷ symbol (Ident) 10 14 ∷ symbol (Ident) 15 16 ∷ symbol (Ident) 17 18 ∷ symbol (Ident) 19 25 ∷ symbol (Ident) 26 27 ∷ symbol (Ident) 27 28 ∷ symbol (Ident) 29 36 ∷ symbol (Ident) 36 37 ∷ symbol (Ident) 38 39 ∷ symbol (Ident) 39 40 ∷ symbol (Ident) 40 41 ∷ symbol (Ident) 42 46 ∷ symbol (Ident) 47 50 ∷ symbol (Ident) 50 51 ∷ symbol (Ident) 52 53 ∷ symbol (Ident) 54 55 ∷ symbol (Ident) 56 63 ∷ symbol (Ident) 64 66 ∷ symbol (Ident) 67 68 ∷ symbol (Ident) 68 69 ∷ symbol (Ident) 70 73 ∷ symbol (Ident) 74 75 ∷ symbol (Ident) 75 76 ∷ symbol (Ident) 77 78 ∷ symbol (Ident) 78 79 ∷ symbol (Ident) 80 81 ∷ symbol (Ident) 81 82 ∷ symbol (Ident) 83 88 ∷ symbol (Int (pos 3)) 89 90 ∷ symbol (Ident) 91 93 ∷ symbol (Ident) 94 101 ∷ symbol (Ident) 101 102 ∷ symbol (Ident) 103 112 ∷ symbol (Ident) 113 114 ∷ symbol (Ident) 114 115 ∷ symbol (Ident) 115 116 ∷ symbol (Ident) 116 117 ∷ symbol (Ident) 118 119 ∷ symbol (Ident) 119 120 ∷ symbol (Ident) 121 122 ∷ symbol (Ident) 122 123 ∷ symbol (Ident) 124 129 ∷ symbol (Ident) 130 132 ∷ symbol (Ident) 133 140 ∷ symbol (Ident) 140 141 ∷ symbol (Ident) 141 142 ∷ symbol (Ident) 143 146 ∷ symbol (Ident) 147 148 ∷ symbol (Ident) 148 149 ∷ symbol (Ident) 150 155 ∷ symbol (Ident) 156 157 ∷ symbol (Ident) 157 158 ∷ symbol (Ident) 158 159 ∷ symbol (Ident) 159 160 ∷ symbol (Ident) 161 162 ∷ symbol (Ident) 162 163 ∷ symbol (Ident) 164 167 ∷ symbol (Ident) 168 169 ∷ symbol (Ident) 169 170 ∷ []) }; tree = record { module_word = 0; name = 1; semicolon = 0; imports = None; decls = (S.decls None (Some (record { type_word = 0; each = (record { name = (record { name = 4; star = None }); equal = 0; is = (S.Record 6 None (S.fields (record { first = (record { name = 7; star = None }); more = [] }) 0 (S.Named (record { name = 9; member = None }))) (S.next_fields 0 (S.fields (record { first = (record { name = 11; star = Some 0 }); more = [] }) 0 (S.Named (record { name = 14; member = None }))) S.no_more_fields) 0); semicolon = 0 } ∷ record { name = (record { name = 17; star = None }); equal = 0; is = (S.Pointer 19 0 (S.Named (record { name = 21; member = None }))); semicolon = 0 } ∷ []) })) (Some (record { var_word = 0; each = (record { names = (record { first = (record { name = 24; star = None }); more = [] }); colon = 0; of = (S.Named (record { name = 26; member = None })); semicolon = 0 } ∷ record { names = (record { first = (record { name = 28; star = None }); more = [] }); colon = 0; of = (S.Array 30 (S.only (S.simple None (S.term (S.Int 31) S.no_factor) S.no_term)) S.no_expression 0 (S.Named (record { name = 33; member = None }))); semicolon = 0 } ∷ []) })) (S.procedure 0 (record { name = 36; star = None }) (Some (record { left_paren = 0; sections = Some (record { first = (record { var_word = None; first = 38; more = []; colon = 0; open_array = None; of = (record { name = 40; member = None }) }); more = (record { semicolon = 0; section = (record { var_word = None; first = 42; more = []; colon = 0; open_array = Some (record { array_word = 0; of_word = 0 }); of = (record { name = 46; member = None }) }) } ∷ []) }); right_paren = 0; result = None })) 0 (S.decls None None None S.no_procedure) None None 49 50 0 S.no_procedure)); body = (Some (record { begin_word = 0; stats = (S.stats (S.AssignOrCall (record { name = 53; selectors = (S.selected (S.Parens 0 (S.expressions (S.only (S.simple None (S.term (S.Designated 55 S.no_selector) S.no_factor) S.no_term)) (S.next_expression 0 (S.only (S.simple None (S.term (S.Designated 57 S.no_selector) S.no_factor) S.no_term)) S.no_expression)) 0) S.no_selector) }) None) S.no_stat) })); end_word = 0; end_name = 60; period = 0 } }

pub type_mismatch_106 : checked (type_mismatch_106_0 ∷ []) ≡ Fault 0 31 158
type_mismatch_106 = refl

-- MODULE M; TYPE R = RECORD x: INTEGER; y*: CHAR END; VAR r: R; t: ARRAY 8 OF CHAR; PROCEDURE W(r: R; a: ARRAY OF INTEGER); END W; BEGIN W(r, t) END M.
abbrev type_mismatch_107_0 : Parsed
type_mismatch_107_0 = record { source = record { bytes = (77 ∷ 79 ∷ 68 ∷ 85 ∷ 76 ∷ 69 ∷ 32 ∷ 77 ∷ 59 ∷ 32 ∷ 84 ∷ 89 ∷ 80 ∷ 69 ∷ 32 ∷ 82 ∷ 32 ∷ 61 ∷ 32 ∷ 82 ∷ 69 ∷ 67 ∷ 79 ∷ 82 ∷ 68 ∷ 32 ∷ 120 ∷ 58 ∷ 32 ∷ 73 ∷ 78 ∷ 84 ∷ 69 ∷ 71 ∷ 69 ∷ 82 ∷ 59 ∷ 32 ∷ 121 ∷ 42 ∷ 58 ∷ 32 ∷ 67 ∷ 72 ∷ 65 ∷ 82 ∷ 32 ∷ 69 ∷ 78 ∷ 68 ∷ 59 ∷ 32 ∷ 86 ∷ 65 ∷ 82 ∷ 32 ∷ 114 ∷ 58 ∷ 32 ∷ 82 ∷ 59 ∷ 32 ∷ 116 ∷ 58 ∷ 32 ∷ 65 ∷ 82 ∷ 82 ∷ 65 ∷ 89 ∷ 32 ∷ 56 ∷ 32 ∷ 79 ∷ 70 ∷ 32 ∷ 67 ∷ 72 ∷ 65 ∷ 82 ∷ 59 ∷ 32 ∷ 80 ∷ 82 ∷ 79 ∷ 67 ∷ 69 ∷ 68 ∷ 85 ∷ 82 ∷ 69 ∷ 32 ∷ 87 ∷ 40 ∷ 114 ∷ 58 ∷ 32 ∷ 82 ∷ 59 ∷ 32 ∷ 97 ∷ 58 ∷ 32 ∷ 65 ∷ 82 ∷ 82 ∷ 65 ∷ 89 ∷ 32 ∷ 79 ∷ 70 ∷ 32 ∷ 73 ∷ 78 ∷ 84 ∷ 69 ∷ 71 ∷ 69 ∷ 82 ∷ 41 ∷ 59 ∷ 32 ∷ 69 ∷ 78 ∷ 68 ∷ 32 ∷ 87 ∷ 59 ∷ 32 ∷ 66 ∷ 69 ∷ 71 ∷ 73 ∷ 78 ∷ 32 ∷ 87 ∷ 40 ∷ 114 ∷ 44 ∷ 32 ∷ 116 ∷ 41 ∷ 32 ∷ 69 ∷ 78 ∷ 68 ∷ 32 ∷ 77 ∷ 46 ∷ []); symbols = (symbol (Ident) 0 6 ∷ symbol (Ident) 7 8 ∷ symbol (Ident) 8 9 ∷ symbol (Ident) 10 14 ∷ symbol (Ident) 15 16 ∷ symbol (Ident) 17 18 ∷ symbol (Ident) 19 25 ∷ symbol (Ident) 26 27 ∷ symbol (Ident) 27 28 ∷ symbol (Ident) 29 36 ∷ symbol (Ident) 36 37 ∷ symbol (Ident) 38 39 ∷ symbol (Ident) 39 40 ∷ symbol (Ident) 40 41 ∷ symbol (Ident) 42 46 ∷ symbol (Ident) 47 50 ∷ symbol (Ident) 50 51 ∷ symbol (Ident) 52 55 ∷ symbol (Ident) 56 57 ∷ symbol (Ident) 57 58 ∷ symbol (Ident) 59 60 ∷ symbol (Ident) 60 61 ∷ symbol (Ident) 62 63 ∷ symbol (Ident) 63 64 ∷ symbol (Ident) 65 70 ∷ symbol (Int (pos 8)) 71 72 ∷ symbol (Ident) 73 75 ∷ symbol (Ident) 76 80 ∷ symbol (Ident) 80 81 ∷ symbol (Ident) 82 91 ∷ symbol (Ident) 92 93 ∷ symbol (Ident) 93 94 ∷ symbol (Ident) 94 95 ∷ symbol (Ident) 95 96 ∷ symbol (Ident) 97 98 ∷ symbol (Ident) 98 99 ∷ symbol (Ident) 100 101 ∷ symbol (Ident) 101 102 ∷ symbol (Ident) 103 108 ∷ symbol (Ident) 109 111 ∷ symbol (Ident) 112 119 ∷ symbol (Ident) 119 120 ∷ symbol (Ident) 120 121 ∷ symbol (Ident) 122 125 ∷ symbol (Ident) 126 127 ∷ symbol (Ident) 127 128 ∷ symbol (Ident) 129 134 ∷ symbol (Ident) 135 136 ∷ symbol (Ident) 136 137 ∷ symbol (Ident) 137 138 ∷ symbol (Ident) 138 139 ∷ symbol (Ident) 140 141 ∷ symbol (Ident) 141 142 ∷ symbol (Ident) 143 146 ∷ symbol (Ident) 147 148 ∷ symbol (Ident) 148 149 ∷ []) }; tree = record { module_word = 0; name = 1; semicolon = 0; imports = None; decls = (S.decls None (Some (record { type_word = 0; each = (record { name = (record { name = 4; star = None }); equal = 0; is = (S.Record 6 None (S.fields (record { first = (record { name = 7; star = None }); more = [] }) 0 (S.Named (record { name = 9; member = None }))) (S.next_fields 0 (S.fields (record { first = (record { name = 11; star = Some 0 }); more = [] }) 0 (S.Named (record { name = 14; member = None }))) S.no_more_fields) 0); semicolon = 0 } ∷ []) })) (Some (record { var_word = 0; each = (record { names = (record { first = (record { name = 18; star = None }); more = [] }); colon = 0; of = (S.Named (record { name = 20; member = None })); semicolon = 0 } ∷ record { names = (record { first = (record { name = 22; star = None }); more = [] }); colon = 0; of = (S.Array 24 (S.only (S.simple None (S.term (S.Int 25) S.no_factor) S.no_term)) S.no_expression 0 (S.Named (record { name = 27; member = None }))); semicolon = 0 } ∷ []) })) (S.procedure 0 (record { name = 30; star = None }) (Some (record { left_paren = 0; sections = Some (record { first = (record { var_word = None; first = 32; more = []; colon = 0; open_array = None; of = (record { name = 34; member = None }) }); more = (record { semicolon = 0; section = (record { var_word = None; first = 36; more = []; colon = 0; open_array = Some (record { array_word = 0; of_word = 0 }); of = (record { name = 40; member = None }) }) } ∷ []) }); right_paren = 0; result = None })) 0 (S.decls None None None S.no_procedure) None None 43 44 0 S.no_procedure)); body = (Some (record { begin_word = 0; stats = (S.stats (S.AssignOrCall (record { name = 47; selectors = (S.selected (S.Parens 0 (S.expressions (S.only (S.simple None (S.term (S.Designated 49 S.no_selector) S.no_factor) S.no_term)) (S.next_expression 0 (S.only (S.simple None (S.term (S.Designated 51 S.no_selector) S.no_factor) S.no_term)) S.no_expression)) 0) S.no_selector) }) None) S.no_stat) })); end_word = 0; end_name = 54; period = 0 } }

pub type_mismatch_107 : checked (type_mismatch_107_0 ∷ []) ≡ Fault 0 31 140
type_mismatch_107 = refl

-- MODULE M; TYPE R = RECORD x: INTEGER; y*: CHAR END; VAR r: R; a: ARRAY 3 OF INTEGER; PROCEDURE W(r: R; a: ARRAY OF INTEGER); END W; BEGIN W((r), a) END M.
abbrev type_mismatch_108_0 : Parsed
type_mismatch_108_0 = record { source = record { bytes = (77 ∷ 79 ∷ 68 ∷ 85 ∷ 76 ∷ 69 ∷ 32 ∷ 77 ∷ 59 ∷ 32 ∷ 84 ∷ 89 ∷ 80 ∷ 69 ∷ 32 ∷ 82 ∷ 32 ∷ 61 ∷ 32 ∷ 82 ∷ 69 ∷ 67 ∷ 79 ∷ 82 ∷ 68 ∷ 32 ∷ 120 ∷ 58 ∷ 32 ∷ 73 ∷ 78 ∷ 84 ∷ 69 ∷ 71 ∷ 69 ∷ 82 ∷ 59 ∷ 32 ∷ 121 ∷ 42 ∷ 58 ∷ 32 ∷ 67 ∷ 72 ∷ 65 ∷ 82 ∷ 32 ∷ 69 ∷ 78 ∷ 68 ∷ 59 ∷ 32 ∷ 86 ∷ 65 ∷ 82 ∷ 32 ∷ 114 ∷ 58 ∷ 32 ∷ 82 ∷ 59 ∷ 32 ∷ 97 ∷ 58 ∷ 32 ∷ 65 ∷ 82 ∷ 82 ∷ 65 ∷ 89 ∷ 32 ∷ 51 ∷ 32 ∷ 79 ∷ 70 ∷ 32 ∷ 73 ∷ 78 ∷ 84 ∷ 69 ∷ 71 ∷ 69 ∷ 82 ∷ 59 ∷ 32 ∷ 80 ∷ 82 ∷ 79 ∷ 67 ∷ 69 ∷ 68 ∷ 85 ∷ 82 ∷ 69 ∷ 32 ∷ 87 ∷ 40 ∷ 114 ∷ 58 ∷ 32 ∷ 82 ∷ 59 ∷ 32 ∷ 97 ∷ 58 ∷ 32 ∷ 65 ∷ 82 ∷ 82 ∷ 65 ∷ 89 ∷ 32 ∷ 79 ∷ 70 ∷ 32 ∷ 73 ∷ 78 ∷ 84 ∷ 69 ∷ 71 ∷ 69 ∷ 82 ∷ 41 ∷ 59 ∷ 32 ∷ 69 ∷ 78 ∷ 68 ∷ 32 ∷ 87 ∷ 59 ∷ 32 ∷ 66 ∷ 69 ∷ 71 ∷ 73 ∷ 78 ∷ 32 ∷ 87 ∷ 40 ∷ 40 ∷ 114 ∷ 41 ∷ 44 ∷ 32 ∷ 97 ∷ 41 ∷ 32 ∷ 69 ∷ 78 ∷ 68 ∷ 32 ∷ 77 ∷ 46 ∷ []); symbols = (symbol (Ident) 0 6 ∷ symbol (Ident) 7 8 ∷ symbol (Ident) 8 9 ∷ symbol (Ident) 10 14 ∷ symbol (Ident) 15 16 ∷ symbol (Ident) 17 18 ∷ symbol (Ident) 19 25 ∷ symbol (Ident) 26 27 ∷ symbol (Ident) 27 28 ∷ symbol (Ident) 29 36 ∷ symbol (Ident) 36 37 ∷ symbol (Ident) 38 39 ∷ symbol (Ident) 39 40 ∷ symbol (Ident) 40 41 ∷ symbol (Ident) 42 46 ∷ symbol (Ident) 47 50 ∷ symbol (Ident) 50 51 ∷ symbol (Ident) 52 55 ∷ symbol (Ident) 56 57 ∷ symbol (Ident) 57 58 ∷ symbol (Ident) 59 60 ∷ symbol (Ident) 60 61 ∷ symbol (Ident) 62 63 ∷ symbol (Ident) 63 64 ∷ symbol (Ident) 65 70 ∷ symbol (Int (pos 3)) 71 72 ∷ symbol (Ident) 73 75 ∷ symbol (Ident) 76 83 ∷ symbol (Ident) 83 84 ∷ symbol (Ident) 85 94 ∷ symbol (Ident) 95 96 ∷ symbol (Ident) 96 97 ∷ symbol (Ident) 97 98 ∷ symbol (Ident) 98 99 ∷ symbol (Ident) 100 101 ∷ symbol (Ident) 101 102 ∷ symbol (Ident) 103 104 ∷ symbol (Ident) 104 105 ∷ symbol (Ident) 106 111 ∷ symbol (Ident) 112 114 ∷ symbol (Ident) 115 122 ∷ symbol (Ident) 122 123 ∷ symbol (Ident) 123 124 ∷ symbol (Ident) 125 128 ∷ symbol (Ident) 129 130 ∷ symbol (Ident) 130 131 ∷ symbol (Ident) 132 137 ∷ symbol (Ident) 138 139 ∷ symbol (Ident) 139 140 ∷ symbol (Ident) 140 141 ∷ symbol (Ident) 141 142 ∷ symbol (Ident) 142 143 ∷ symbol (Ident) 143 144 ∷ symbol (Ident) 145 146 ∷ symbol (Ident) 146 147 ∷ symbol (Ident) 148 151 ∷ symbol (Ident) 152 153 ∷ symbol (Ident) 153 154 ∷ []) }; tree = record { module_word = 0; name = 1; semicolon = 0; imports = None; decls = (S.decls None (Some (record { type_word = 0; each = (record { name = (record { name = 4; star = None }); equal = 0; is = (S.Record 6 None (S.fields (record { first = (record { name = 7; star = None }); more = [] }) 0 (S.Named (record { name = 9; member = None }))) (S.next_fields 0 (S.fields (record { first = (record { name = 11; star = Some 0 }); more = [] }) 0 (S.Named (record { name = 14; member = None }))) S.no_more_fields) 0); semicolon = 0 } ∷ []) })) (Some (record { var_word = 0; each = (record { names = (record { first = (record { name = 18; star = None }); more = [] }); colon = 0; of = (S.Named (record { name = 20; member = None })); semicolon = 0 } ∷ record { names = (record { first = (record { name = 22; star = None }); more = [] }); colon = 0; of = (S.Array 24 (S.only (S.simple None (S.term (S.Int 25) S.no_factor) S.no_term)) S.no_expression 0 (S.Named (record { name = 27; member = None }))); semicolon = 0 } ∷ []) })) (S.procedure 0 (record { name = 30; star = None }) (Some (record { left_paren = 0; sections = Some (record { first = (record { var_word = None; first = 32; more = []; colon = 0; open_array = None; of = (record { name = 34; member = None }) }); more = (record { semicolon = 0; section = (record { var_word = None; first = 36; more = []; colon = 0; open_array = Some (record { array_word = 0; of_word = 0 }); of = (record { name = 40; member = None }) }) } ∷ []) }); right_paren = 0; result = None })) 0 (S.decls None None None S.no_procedure) None None 43 44 0 S.no_procedure)); body = (Some (record { begin_word = 0; stats = (S.stats (S.AssignOrCall (record { name = 47; selectors = (S.selected (S.Parens 0 (S.expressions (S.only (S.simple None (S.term (S.Paren 49 (S.only (S.simple None (S.term (S.Designated 50 S.no_selector) S.no_factor) S.no_term)) 0) S.no_factor) S.no_term)) (S.next_expression 0 (S.only (S.simple None (S.term (S.Designated 53 S.no_selector) S.no_factor) S.no_term)) S.no_expression)) 0) S.no_selector) }) None) S.no_stat) })); end_word = 0; end_name = 56; period = 0 } }

pub type_mismatch_108 : checked (type_mismatch_108_0 ∷ []) ≡ Fault 0 31 140
type_mismatch_108 = refl

-- MODULE M; TYPE R = RECORD x: INTEGER; y*: CHAR END; VAR r: R; a: ARRAY 3 OF INTEGER; PROCEDURE W(r: R; a: ARRAY OF INTEGER); END W; BEGIN W(r, (a)) END M.
abbrev type_mismatch_109_0 : Parsed
type_mismatch_109_0 = record { source = record { bytes = (77 ∷ 79 ∷ 68 ∷ 85 ∷ 76 ∷ 69 ∷ 32 ∷ 77 ∷ 59 ∷ 32 ∷ 84 ∷ 89 ∷ 80 ∷ 69 ∷ 32 ∷ 82 ∷ 32 ∷ 61 ∷ 32 ∷ 82 ∷ 69 ∷ 67 ∷ 79 ∷ 82 ∷ 68 ∷ 32 ∷ 120 ∷ 58 ∷ 32 ∷ 73 ∷ 78 ∷ 84 ∷ 69 ∷ 71 ∷ 69 ∷ 82 ∷ 59 ∷ 32 ∷ 121 ∷ 42 ∷ 58 ∷ 32 ∷ 67 ∷ 72 ∷ 65 ∷ 82 ∷ 32 ∷ 69 ∷ 78 ∷ 68 ∷ 59 ∷ 32 ∷ 86 ∷ 65 ∷ 82 ∷ 32 ∷ 114 ∷ 58 ∷ 32 ∷ 82 ∷ 59 ∷ 32 ∷ 97 ∷ 58 ∷ 32 ∷ 65 ∷ 82 ∷ 82 ∷ 65 ∷ 89 ∷ 32 ∷ 51 ∷ 32 ∷ 79 ∷ 70 ∷ 32 ∷ 73 ∷ 78 ∷ 84 ∷ 69 ∷ 71 ∷ 69 ∷ 82 ∷ 59 ∷ 32 ∷ 80 ∷ 82 ∷ 79 ∷ 67 ∷ 69 ∷ 68 ∷ 85 ∷ 82 ∷ 69 ∷ 32 ∷ 87 ∷ 40 ∷ 114 ∷ 58 ∷ 32 ∷ 82 ∷ 59 ∷ 32 ∷ 97 ∷ 58 ∷ 32 ∷ 65 ∷ 82 ∷ 82 ∷ 65 ∷ 89 ∷ 32 ∷ 79 ∷ 70 ∷ 32 ∷ 73 ∷ 78 ∷ 84 ∷ 69 ∷ 71 ∷ 69 ∷ 82 ∷ 41 ∷ 59 ∷ 32 ∷ 69 ∷ 78 ∷ 68 ∷ 32 ∷ 87 ∷ 59 ∷ 32 ∷ 66 ∷ 69 ∷ 71 ∷ 73 ∷ 78 ∷ 32 ∷ 87 ∷ 40 ∷ 114 ∷ 44 ∷ 32 ∷ 40 ∷ 97 ∷ 41 ∷ 41 ∷ 32 ∷ 69 ∷ 78 ∷ 68 ∷ 32 ∷ 77 ∷ 46 ∷ []); symbols = (symbol (Ident) 0 6 ∷ symbol (Ident) 7 8 ∷ symbol (Ident) 8 9 ∷ symbol (Ident) 10 14 ∷ symbol (Ident) 15 16 ∷ symbol (Ident) 17 18 ∷ symbol (Ident) 19 25 ∷ symbol (Ident) 26 27 ∷ symbol (Ident) 27 28 ∷ symbol (Ident) 29 36 ∷ symbol (Ident) 36 37 ∷ symbol (Ident) 38 39 ∷ symbol (Ident) 39 40 ∷ symbol (Ident) 40 41 ∷ symbol (Ident) 42 46 ∷ symbol (Ident) 47 50 ∷ symbol (Ident) 50 51 ∷ symbol (Ident) 52 55 ∷ symbol (Ident) 56 57 ∷ symbol (Ident) 57 58 ∷ symbol (Ident) 59 60 ∷ symbol (Ident) 60 61 ∷ symbol (Ident) 62 63 ∷ symbol (Ident) 63 64 ∷ symbol (Ident) 65 70 ∷ symbol (Int (pos 3)) 71 72 ∷ symbol (Ident) 73 75 ∷ symbol (Ident) 76 83 ∷ symbol (Ident) 83 84 ∷ symbol (Ident) 85 94 ∷ symbol (Ident) 95 96 ∷ symbol (Ident) 96 97 ∷ symbol (Ident) 97 98 ∷ symbol (Ident) 98 99 ∷ symbol (Ident) 100 101 ∷ symbol (Ident) 101 102 ∷ symbol (Ident) 103 104 ∷ symbol (Ident) 104 105 ∷ symbol (Ident) 106 111 ∷ symbol (Ident) 112 114 ∷ symbol (Ident) 115 122 ∷ symbol (Ident) 122 123 ∷ symbol (Ident) 123 124 ∷ symbol (Ident) 125 128 ∷ symbol (Ident) 129 130 ∷ symbol (Ident) 130 131 ∷ symbol (Ident) 132 137 ∷ symbol (Ident) 138 139 ∷ symbol (Ident) 139 140 ∷ symbol (Ident) 140 141 ∷ symbol (Ident) 141 142 ∷ symbol (Ident) 143 144 ∷ symbol (Ident) 144 145 ∷ symbol (Ident) 145 146 ∷ symbol (Ident) 146 147 ∷ symbol (Ident) 148 151 ∷ symbol (Ident) 152 153 ∷ symbol (Ident) 153 154 ∷ []) }; tree = record { module_word = 0; name = 1; semicolon = 0; imports = None; decls = (S.decls None (Some (record { type_word = 0; each = (record { name = (record { name = 4; star = None }); equal = 0; is = (S.Record 6 None (S.fields (record { first = (record { name = 7; star = None }); more = [] }) 0 (S.Named (record { name = 9; member = None }))) (S.next_fields 0 (S.fields (record { first = (record { name = 11; star = Some 0 }); more = [] }) 0 (S.Named (record { name = 14; member = None }))) S.no_more_fields) 0); semicolon = 0 } ∷ []) })) (Some (record { var_word = 0; each = (record { names = (record { first = (record { name = 18; star = None }); more = [] }); colon = 0; of = (S.Named (record { name = 20; member = None })); semicolon = 0 } ∷ record { names = (record { first = (record { name = 22; star = None }); more = [] }); colon = 0; of = (S.Array 24 (S.only (S.simple None (S.term (S.Int 25) S.no_factor) S.no_term)) S.no_expression 0 (S.Named (record { name = 27; member = None }))); semicolon = 0 } ∷ []) })) (S.procedure 0 (record { name = 30; star = None }) (Some (record { left_paren = 0; sections = Some (record { first = (record { var_word = None; first = 32; more = []; colon = 0; open_array = None; of = (record { name = 34; member = None }) }); more = (record { semicolon = 0; section = (record { var_word = None; first = 36; more = []; colon = 0; open_array = Some (record { array_word = 0; of_word = 0 }); of = (record { name = 40; member = None }) }) } ∷ []) }); right_paren = 0; result = None })) 0 (S.decls None None None S.no_procedure) None None 43 44 0 S.no_procedure)); body = (Some (record { begin_word = 0; stats = (S.stats (S.AssignOrCall (record { name = 47; selectors = (S.selected (S.Parens 0 (S.expressions (S.only (S.simple None (S.term (S.Designated 49 S.no_selector) S.no_factor) S.no_term)) (S.next_expression 0 (S.only (S.simple None (S.term (S.Paren 51 (S.only (S.simple None (S.term (S.Designated 52 S.no_selector) S.no_factor) S.no_term)) 0) S.no_factor) S.no_term)) S.no_expression)) 0) S.no_selector) }) None) S.no_stat) })); end_word = 0; end_name = 56; period = 0 } }

pub type_mismatch_109 : checked (type_mismatch_109_0 ∷ []) ≡ Fault 0 31 143
type_mismatch_109 = refl

-- MODULE M; VAR i: INTEGER; BEGIN i := LEN(i) END M.
abbrev type_mismatch_110_0 : Parsed
type_mismatch_110_0 = record { source = record { bytes = (77 ∷ 79 ∷ 68 ∷ 85 ∷ 76 ∷ 69 ∷ 32 ∷ 77 ∷ 59 ∷ 32 ∷ 86 ∷ 65 ∷ 82 ∷ 32 ∷ 105 ∷ 58 ∷ 32 ∷ 73 ∷ 78 ∷ 84 ∷ 69 ∷ 71 ∷ 69 ∷ 82 ∷ 59 ∷ 32 ∷ 66 ∷ 69 ∷ 71 ∷ 73 ∷ 78 ∷ 32 ∷ 105 ∷ 32 ∷ 58 ∷ 61 ∷ 32 ∷ 76 ∷ 69 ∷ 78 ∷ 40 ∷ 105 ∷ 41 ∷ 32 ∷ 69 ∷ 78 ∷ 68 ∷ 32 ∷ 77 ∷ 46 ∷ []); symbols = (symbol (Ident) 0 6 ∷ symbol (Ident) 7 8 ∷ symbol (Ident) 8 9 ∷ symbol (Ident) 10 13 ∷ symbol (Ident) 14 15 ∷ symbol (Ident) 15 16 ∷ symbol (Ident) 17 24 ∷ symbol (Ident) 24 25 ∷ symbol (Ident) 26 31 ∷ symbol (Ident) 32 33 ∷ symbol (Ident) 34 36 ∷ symbol (Ident) 37 40 ∷ symbol (Ident) 40 41 ∷ symbol (Ident) 41 42 ∷ symbol (Ident) 42 43 ∷ symbol (Ident) 44 47 ∷ symbol (Ident) 48 49 ∷ symbol (Ident) 49 50 ∷ []) }; tree = record { module_word = 0; name = 1; semicolon = 0; imports = None; decls = (S.decls None None (Some (record { var_word = 0; each = (record { names = (record { first = (record { name = 4; star = None }); more = [] }); colon = 0; of = (S.Named (record { name = 6; member = None })); semicolon = 0 } ∷ []) })) S.no_procedure); body = (Some (record { begin_word = 0; stats = (S.stats (S.AssignOrCall (record { name = 9; selectors = S.no_selector }) (Some (record { becomes = 0; value = (S.only (S.simple None (S.term (S.Designated 11 (S.selected (S.Parens 0 (S.expressions (S.only (S.simple None (S.term (S.Designated 13 S.no_selector) S.no_factor) S.no_term)) S.no_expression) 0) S.no_selector)) S.no_factor) S.no_term)) }))) S.no_stat) })); end_word = 0; end_name = 16; period = 0 } }

pub type_mismatch_110 : checked (type_mismatch_110_0 ∷ []) ≡ Fault 0 31 41
type_mismatch_110 = refl

-- MODULE M; VAR i: INTEGER; BEGIN i := LEN(''abc'') END M.
abbrev type_mismatch_111_0 : Parsed
type_mismatch_111_0 = record { source = record { bytes = (77 ∷ 79 ∷ 68 ∷ 85 ∷ 76 ∷ 69 ∷ 32 ∷ 77 ∷ 59 ∷ 32 ∷ 86 ∷ 65 ∷ 82 ∷ 32 ∷ 105 ∷ 58 ∷ 32 ∷ 73 ∷ 78 ∷ 84 ∷ 69 ∷ 71 ∷ 69 ∷ 82 ∷ 59 ∷ 32 ∷ 66 ∷ 69 ∷ 71 ∷ 73 ∷ 78 ∷ 32 ∷ 105 ∷ 32 ∷ 58 ∷ 61 ∷ 32 ∷ 76 ∷ 69 ∷ 78 ∷ 40 ∷ 34 ∷ 97 ∷ 98 ∷ 99 ∷ 34 ∷ 41 ∷ 32 ∷ 69 ∷ 78 ∷ 68 ∷ 32 ∷ 77 ∷ 46 ∷ []); symbols = (symbol (Ident) 0 6 ∷ symbol (Ident) 7 8 ∷ symbol (Ident) 8 9 ∷ symbol (Ident) 10 13 ∷ symbol (Ident) 14 15 ∷ symbol (Ident) 15 16 ∷ symbol (Ident) 17 24 ∷ symbol (Ident) 24 25 ∷ symbol (Ident) 26 31 ∷ symbol (Ident) 32 33 ∷ symbol (Ident) 34 36 ∷ symbol (Ident) 37 40 ∷ symbol (Ident) 40 41 ∷ symbol (TheKind.Text) 41 46 ∷ symbol (Ident) 46 47 ∷ symbol (Ident) 48 51 ∷ symbol (Ident) 52 53 ∷ symbol (Ident) 53 54 ∷ []) }; tree = record { module_word = 0; name = 1; semicolon = 0; imports = None; decls = (S.decls None None (Some (record { var_word = 0; each = (record { names = (record { first = (record { name = 4; star = None }); more = [] }); colon = 0; of = (S.Named (record { name = 6; member = None })); semicolon = 0 } ∷ []) })) S.no_procedure); body = (Some (record { begin_word = 0; stats = (S.stats (S.AssignOrCall (record { name = 9; selectors = S.no_selector }) (Some (record { becomes = 0; value = (S.only (S.simple None (S.term (S.Designated 11 (S.selected (S.Parens 0 (S.expressions (S.only (S.simple None (S.term (S.Text 13) S.no_factor) S.no_term)) S.no_expression) 0) S.no_selector)) S.no_factor) S.no_term)) }))) S.no_stat) })); end_word = 0; end_name = 16; period = 0 } }

pub type_mismatch_111 : checked (type_mismatch_111_0 ∷ []) ≡ Fault 0 31 41
type_mismatch_111 = refl

-- MODULE M; VAR i: INTEGER; a: ARRAY 3 OF INTEGER; BEGIN i := LEN((a)) END M.
abbrev type_mismatch_112_0 : Parsed
type_mismatch_112_0 = record { source = record { bytes = (77 ∷ 79 ∷ 68 ∷ 85 ∷ 76 ∷ 69 ∷ 32 ∷ 77 ∷ 59 ∷ 32 ∷ 86 ∷ 65 ∷ 82 ∷ 32 ∷ 105 ∷ 58 ∷ 32 ∷ 73 ∷ 78 ∷ 84 ∷ 69 ∷ 71 ∷ 69 ∷ 82 ∷ 59 ∷ 32 ∷ 97 ∷ 58 ∷ 32 ∷ 65 ∷ 82 ∷ 82 ∷ 65 ∷ 89 ∷ 32 ∷ 51 ∷ 32 ∷ 79 ∷ 70 ∷ 32 ∷ 73 ∷ 78 ∷ 84 ∷ 69 ∷ 71 ∷ 69 ∷ 82 ∷ 59 ∷ 32 ∷ 66 ∷ 69 ∷ 71 ∷ 73 ∷ 78 ∷ 32 ∷ 105 ∷ 32 ∷ 58 ∷ 61 ∷ 32 ∷ 76 ∷ 69 ∷ 78 ∷ 40 ∷ 40 ∷ 97 ∷ 41 ∷ 41 ∷ 32 ∷ 69 ∷ 78 ∷ 68 ∷ 32 ∷ 77 ∷ 46 ∷ []); symbols = (symbol (Ident) 0 6 ∷ symbol (Ident) 7 8 ∷ symbol (Ident) 8 9 ∷ symbol (Ident) 10 13 ∷ symbol (Ident) 14 15 ∷ symbol (Ident) 15 16 ∷ symbol (Ident) 17 24 ∷ symbol (Ident) 24 25 ∷ symbol (Ident) 26 27 ∷ symbol (Ident) 27 28 ∷ symbol (Ident) 29 34 ∷ symbol (Int (pos 3)) 35 36 ∷ symbol (Ident) 37 39 ∷ symbol (Ident) 40 47 ∷ symbol (Ident) 47 48 ∷ symbol (Ident) 49 54 ∷ symbol (Ident) 55 56 ∷ symbol (Ident) 57 59 ∷ symbol (Ident) 60 63 ∷ symbol (Ident) 63 64 ∷ symbol (Ident) 64 65 ∷ symbol (Ident) 65 66 ∷ symbol (Ident) 66 67 ∷ symbol (Ident) 67 68 ∷ symbol (Ident) 69 72 ∷ symbol (Ident) 73 74 ∷ symbol (Ident) 74 75 ∷ []) }; tree = record { module_word = 0; name = 1; semicolon = 0; imports = None; decls = (S.decls None None (Some (record { var_word = 0; each = (record { names = (record { first = (record { name = 4; star = None }); more = [] }); colon = 0; of = (S.Named (record { name = 6; member = None })); semicolon = 0 } ∷ record { names = (record { first = (record { name = 8; star = None }); more = [] }); colon = 0; of = (S.Array 10 (S.only (S.simple None (S.term (S.Int 11) S.no_factor) S.no_term)) S.no_expression 0 (S.Named (record { name = 13; member = None }))); semicolon = 0 } ∷ []) })) S.no_procedure); body = (Some (record { begin_word = 0; stats = (S.stats (S.AssignOrCall (record { name = 16; selectors = S.no_selector }) (Some (record { becomes = 0; value = (S.only (S.simple None (S.term (S.Designated 18 (S.selected (S.Parens 0 (S.expressions (S.only (S.simple None (S.term (S.Paren 20 (S.only (S.simple None (S.term (S.Designated 21 S.no_selector) S.no_factor) S.no_term)) 0) S.no_factor) S.no_term)) S.no_expression) 0) S.no_selector)) S.no_factor) S.no_term)) }))) S.no_stat) })); end_word = 0; end_name = 25; period = 0 } }

pub type_mismatch_112 : checked (type_mismatch_112_0 ∷ []) ≡ Fault 0 31 64
type_mismatch_112 = refl

-- MODULE M; VAR i: INTEGER; b: BOOLEAN; BEGIN i := LSL(b, 1) END M.
abbrev type_mismatch_113_0 : Parsed
type_mismatch_113_0 = record { source = record { bytes = (77 ∷ 79 ∷ 68 ∷ 85 ∷ 76 ∷ 69 ∷ 32 ∷ 77 ∷ 59 ∷ 32 ∷ 86 ∷ 65 ∷ 82 ∷ 32 ∷ 105 ∷ 58 ∷ 32 ∷ 73 ∷ 78 ∷ 84 ∷ 69 ∷ 71 ∷ 69 ∷ 82 ∷ 59 ∷ 32 ∷ 98 ∷ 58 ∷ 32 ∷ 66 ∷ 79 ∷ 79 ∷ 76 ∷ 69 ∷ 65 ∷ 78 ∷ 59 ∷ 32 ∷ 66 ∷ 69 ∷ 71 ∷ 73 ∷ 78 ∷ 32 ∷ 105 ∷ 32 ∷ 58 ∷ 61 ∷ 32 ∷ 76 ∷ 83 ∷ 76 ∷ 40 ∷ 98 ∷ 44 ∷ 32 ∷ 49 ∷ 41 ∷ 32 ∷ 69 ∷ 78 ∷ 68 ∷ 32 ∷ 77 ∷ 46 ∷ []); symbols = (symbol (Ident) 0 6 ∷ symbol (Ident) 7 8 ∷ symbol (Ident) 8 9 ∷ symbol (Ident) 10 13 ∷ symbol (Ident) 14 15 ∷ symbol (Ident) 15 16 ∷ symbol (Ident) 17 24 ∷ symbol (Ident) 24 25 ∷ symbol (Ident) 26 27 ∷ symbol (Ident) 27 28 ∷ symbol (Ident) 29 36 ∷ symbol (Ident) 36 37 ∷ symbol (Ident) 38 43 ∷ symbol (Ident) 44 45 ∷ symbol (Ident) 46 48 ∷ symbol (Ident) 49 52 ∷ symbol (Ident) 52 53 ∷ symbol (Ident) 53 54 ∷ symbol (Ident) 54 55 ∷ symbol (Int (pos 1)) 56 57 ∷ symbol (Ident) 57 58 ∷ symbol (Ident) 59 62 ∷ symbol (Ident) 63 64 ∷ symbol (Ident) 64 65 ∷ []) }; tree = record { module_word = 0; name = 1; semicolon = 0; imports = None; decls = (S.decls None None (Some (record { var_word = 0; each = (record { names = (record { first = (record { name = 4; star = None }); more = [] }); colon = 0; of = (S.Named (record { name = 6; member = None })); semicolon = 0 } ∷ record { names = (record { first = (record { name = 8; star = None }); more = [] }); colon = 0; of = (S.Named (record { name = 10; member = None })); semicolon = 0 } ∷ []) })) S.no_procedure); body = (Some (record { begin_word = 0; stats = (S.stats (S.AssignOrCall (record { name = 13; selectors = S.no_selector }) (Some (record { becomes = 0; value = (S.only (S.simple None (S.term (S.Designated 15 (S.selected (S.Parens 0 (S.expressions (S.only (S.simple None (S.term (S.Designated 17 S.no_selector) S.no_factor) S.no_term)) (S.next_expression 0 (S.only (S.simple None (S.term (S.Int 19) S.no_factor) S.no_term)) S.no_expression)) 0) S.no_selector)) S.no_factor) S.no_term)) }))) S.no_stat) })); end_word = 0; end_name = 22; period = 0 } }

pub type_mismatch_113 : checked (type_mismatch_113_0 ∷ []) ≡ Fault 0 31 53
type_mismatch_113 = refl

-- MODULE M; VAR i: INTEGER; b: BOOLEAN; BEGIN i := LSL(1, b) END M.
abbrev type_mismatch_114_0 : Parsed
type_mismatch_114_0 = record { source = record { bytes = (77 ∷ 79 ∷ 68 ∷ 85 ∷ 76 ∷ 69 ∷ 32 ∷ 77 ∷ 59 ∷ 32 ∷ 86 ∷ 65 ∷ 82 ∷ 32 ∷ 105 ∷ 58 ∷ 32 ∷ 73 ∷ 78 ∷ 84 ∷ 69 ∷ 71 ∷ 69 ∷ 82 ∷ 59 ∷ 32 ∷ 98 ∷ 58 ∷ 32 ∷ 66 ∷ 79 ∷ 79 ∷ 76 ∷ 69 ∷ 65 ∷ 78 ∷ 59 ∷ 32 ∷ 66 ∷ 69 ∷ 71 ∷ 73 ∷ 78 ∷ 32 ∷ 105 ∷ 32 ∷ 58 ∷ 61 ∷ 32 ∷ 76 ∷ 83 ∷ 76 ∷ 40 ∷ 49 ∷ 44 ∷ 32 ∷ 98 ∷ 41 ∷ 32 ∷ 69 ∷ 78 ∷ 68 ∷ 32 ∷ 77 ∷ 46 ∷ []); symbols = (symbol (Ident) 0 6 ∷ symbol (Ident) 7 8 ∷ symbol (Ident) 8 9 ∷ symbol (Ident) 10 13 ∷ symbol (Ident) 14 15 ∷ symbol (Ident) 15 16 ∷ symbol (Ident) 17 24 ∷ symbol (Ident) 24 25 ∷ symbol (Ident) 26 27 ∷ symbol (Ident) 27 28 ∷ symbol (Ident) 29 36 ∷ symbol (Ident) 36 37 ∷ symbol (Ident) 38 43 ∷ symbol (Ident) 44 45 ∷ symbol (Ident) 46 48 ∷ symbol (Ident) 49 52 ∷ symbol (Ident) 52 53 ∷ symbol (Int (pos 1)) 53 54 ∷ symbol (Ident) 54 55 ∷ symbol (Ident) 56 57 ∷ symbol (Ident) 57 58 ∷ symbol (Ident) 59 62 ∷ symbol (Ident) 63 64 ∷ symbol (Ident) 64 65 ∷ []) }; tree = record { module_word = 0; name = 1; semicolon = 0; imports = None; decls = (S.decls None None (Some (record { var_word = 0; each = (record { names = (record { first = (record { name = 4; star = None }); more = [] }); colon = 0; of = (S.Named (record { name = 6; member = None })); semicolon = 0 } ∷ record { names = (record { first = (record { name = 8; star = None }); more = [] }); colon = 0; of = (S.Named (record { name = 10; member = None })); semicolon = 0 } ∷ []) })) S.no_procedure); body = (Some (record { begin_word = 0; stats = (S.stats (S.AssignOrCall (record { name = 13; selectors = S.no_selector }) (Some (record { becomes = 0; value = (S.only (S.simple None (S.term (S.Designated 15 (S.selected (S.Parens 0 (S.expressions (S.only (S.simple None (S.term (S.Int 17) S.no_factor) S.no_term)) (S.next_expression 0 (S.only (S.simple None (S.term (S.Designated 19 S.no_selector) S.no_factor) S.no_term)) S.no_expression)) 0) S.no_selector)) S.no_factor) S.no_term)) }))) S.no_stat) })); end_word = 0; end_name = 22; period = 0 } }

pub type_mismatch_114 : checked (type_mismatch_114_0 ∷ []) ≡ Fault 0 31 56
type_mismatch_114 = refl

-- MODULE M; VAR i: INTEGER; BEGIN i := ORD(i) END M.
abbrev type_mismatch_115_0 : Parsed
type_mismatch_115_0 = record { source = record { bytes = (77 ∷ 79 ∷ 68 ∷ 85 ∷ 76 ∷ 69 ∷ 32 ∷ 77 ∷ 59 ∷ 32 ∷ 86 ∷ 65 ∷ 82 ∷ 32 ∷ 105 ∷ 58 ∷ 32 ∷ 73 ∷ 78 ∷ 84 ∷ 69 ∷ 71 ∷ 69 ∷ 82 ∷ 59 ∷ 32 ∷ 66 ∷ 69 ∷ 71 ∷ 73 ∷ 78 ∷ 32 ∷ 105 ∷ 32 ∷ 58 ∷ 61 ∷ 32 ∷ 79 ∷ 82 ∷ 68 ∷ 40 ∷ 105 ∷ 41 ∷ 32 ∷ 69 ∷ 78 ∷ 68 ∷ 32 ∷ 77 ∷ 46 ∷ []); symbols = (symbol (Ident) 0 6 ∷ symbol (Ident) 7 8 ∷ symbol (Ident) 8 9 ∷ symbol (Ident) 10 13 ∷ symbol (Ident) 14 15 ∷ symbol (Ident) 15 16 ∷ symbol (Ident) 17 24 ∷ symbol (Ident) 24 25 ∷ symbol (Ident) 26 31 ∷ symbol (Ident) 32 33 ∷ symbol (Ident) 34 36 ∷ symbol (Ident) 37 40 ∷ symbol (Ident) 40 41 ∷ symbol (Ident) 41 42 ∷ symbol (Ident) 42 43 ∷ symbol (Ident) 44 47 ∷ symbol (Ident) 48 49 ∷ symbol (Ident) 49 50 ∷ []) }; tree = record { module_word = 0; name = 1; semicolon = 0; imports = None; decls = (S.decls None None (Some (record { var_word = 0; each = (record { names = (record { first = (record { name = 4; star = None }); more = [] }); colon = 0; of = (S.Named (record { name = 6; member = None })); semicolon = 0 } ∷ []) })) S.no_procedure); body = (Some (record { begin_word = 0; stats = (S.stats (S.AssignOrCall (record { name = 9; selectors = S.no_selector }) (Some (record { becomes = 0; value = (S.only (S.simple None (S.term (S.Designated 11 (S.selected (S.Parens 0 (S.expressions (S.only (S.simple None (S.term (S.Designated 13 S.no_selector) S.no_factor) S.no_term)) S.no_expression) 0) S.no_selector)) S.no_factor) S.no_term)) }))) S.no_stat) })); end_word = 0; end_name = 16; period = 0 } }

pub type_mismatch_115 : checked (type_mismatch_115_0 ∷ []) ≡ Fault 0 31 41
type_mismatch_115 = refl

-- MODULE M; VAR i: INTEGER; BEGIN i := ORD(''ab'') END M.
abbrev type_mismatch_116_0 : Parsed
type_mismatch_116_0 = record { source = record { bytes = (77 ∷ 79 ∷ 68 ∷ 85 ∷ 76 ∷ 69 ∷ 32 ∷ 77 ∷ 59 ∷ 32 ∷ 86 ∷ 65 ∷ 82 ∷ 32 ∷ 105 ∷ 58 ∷ 32 ∷ 73 ∷ 78 ∷ 84 ∷ 69 ∷ 71 ∷ 69 ∷ 82 ∷ 59 ∷ 32 ∷ 66 ∷ 69 ∷ 71 ∷ 73 ∷ 78 ∷ 32 ∷ 105 ∷ 32 ∷ 58 ∷ 61 ∷ 32 ∷ 79 ∷ 82 ∷ 68 ∷ 40 ∷ 34 ∷ 97 ∷ 98 ∷ 34 ∷ 41 ∷ 32 ∷ 69 ∷ 78 ∷ 68 ∷ 32 ∷ 77 ∷ 46 ∷ []); symbols = (symbol (Ident) 0 6 ∷ symbol (Ident) 7 8 ∷ symbol (Ident) 8 9 ∷ symbol (Ident) 10 13 ∷ symbol (Ident) 14 15 ∷ symbol (Ident) 15 16 ∷ symbol (Ident) 17 24 ∷ symbol (Ident) 24 25 ∷ symbol (Ident) 26 31 ∷ symbol (Ident) 32 33 ∷ symbol (Ident) 34 36 ∷ symbol (Ident) 37 40 ∷ symbol (Ident) 40 41 ∷ symbol (TheKind.Text) 41 45 ∷ symbol (Ident) 45 46 ∷ symbol (Ident) 47 50 ∷ symbol (Ident) 51 52 ∷ symbol (Ident) 52 53 ∷ []) }; tree = record { module_word = 0; name = 1; semicolon = 0; imports = None; decls = (S.decls None None (Some (record { var_word = 0; each = (record { names = (record { first = (record { name = 4; star = None }); more = [] }); colon = 0; of = (S.Named (record { name = 6; member = None })); semicolon = 0 } ∷ []) })) S.no_procedure); body = (Some (record { begin_word = 0; stats = (S.stats (S.AssignOrCall (record { name = 9; selectors = S.no_selector }) (Some (record { becomes = 0; value = (S.only (S.simple None (S.term (S.Designated 11 (S.selected (S.Parens 0 (S.expressions (S.only (S.simple None (S.term (S.Text 13) S.no_factor) S.no_term)) S.no_expression) 0) S.no_selector)) S.no_factor) S.no_term)) }))) S.no_stat) })); end_word = 0; end_name = 16; period = 0 } }

pub type_mismatch_116 : checked (type_mismatch_116_0 ∷ []) ≡ Fault 0 31 41
type_mismatch_116 = refl

-- MODULE M; VAR c: CHAR; BEGIN c := CHR(c) END M.
abbrev type_mismatch_117_0 : Parsed
type_mismatch_117_0 = record { source = record { bytes = (77 ∷ 79 ∷ 68 ∷ 85 ∷ 76 ∷ 69 ∷ 32 ∷ 77 ∷ 59 ∷ 32 ∷ 86 ∷ 65 ∷ 82 ∷ 32 ∷ 99 ∷ 58 ∷ 32 ∷ 67 ∷ 72 ∷ 65 ∷ 82 ∷ 59 ∷ 32 ∷ 66 ∷ 69 ∷ 71 ∷ 73 ∷ 78 ∷ 32 ∷ 99 ∷ 32 ∷ 58 ∷ 61 ∷ 32 ∷ 67 ∷ 72 ∷ 82 ∷ 40 ∷ 99 ∷ 41 ∷ 32 ∷ 69 ∷ 78 ∷ 68 ∷ 32 ∷ 77 ∷ 46 ∷ []); symbols = (symbol (Ident) 0 6 ∷ symbol (Ident) 7 8 ∷ symbol (Ident) 8 9 ∷ symbol (Ident) 10 13 ∷ symbol (Ident) 14 15 ∷ symbol (Ident) 15 16 ∷ symbol (Ident) 17 21 ∷ symbol (Ident) 21 22 ∷ symbol (Ident) 23 28 ∷ symbol (Ident) 29 30 ∷ symbol (Ident) 31 33 ∷ symbol (Ident) 34 37 ∷ symbol (Ident) 37 38 ∷ symbol (Ident) 38 39 ∷ symbol (Ident) 39 40 ∷ symbol (Ident) 41 44 ∷ symbol (Ident) 45 46 ∷ symbol (Ident) 46 47 ∷ []) }; tree = record { module_word = 0; name = 1; semicolon = 0; imports = None; decls = (S.decls None None (Some (record { var_word = 0; each = (record { names = (record { first = (record { name = 4; star = None }); more = [] }); colon = 0; of = (S.Named (record { name = 6; member = None })); semicolon = 0 } ∷ []) })) S.no_procedure); body = (Some (record { begin_word = 0; stats = (S.stats (S.AssignOrCall (record { name = 9; selectors = S.no_selector }) (Some (record { becomes = 0; value = (S.only (S.simple None (S.term (S.Designated 11 (S.selected (S.Parens 0 (S.expressions (S.only (S.simple None (S.term (S.Designated 13 S.no_selector) S.no_factor) S.no_term)) S.no_expression) 0) S.no_selector)) S.no_factor) S.no_term)) }))) S.no_stat) })); end_word = 0; end_name = 16; period = 0 } }

pub type_mismatch_117 : checked (type_mismatch_117_0 ∷ []) ≡ Fault 0 31 38
type_mismatch_117 = refl

-- MODULE M; VAR c: CHAR; BEGIN INC(c) END M.
abbrev type_mismatch_118_0 : Parsed
type_mismatch_118_0 = record { source = record { bytes = (77 ∷ 79 ∷ 68 ∷ 85 ∷ 76 ∷ 69 ∷ 32 ∷ 77 ∷ 59 ∷ 32 ∷ 86 ∷ 65 ∷ 82 ∷ 32 ∷ 99 ∷ 58 ∷ 32 ∷ 67 ∷ 72 ∷ 65 ∷ 82 ∷ 59 ∷ 32 ∷ 66 ∷ 69 ∷ 71 ∷ 73 ∷ 78 ∷ 32 ∷ 73 ∷ 78 ∷ 67 ∷ 40 ∷ 99 ∷ 41 ∷ 32 ∷ 69 ∷ 78 ∷ 68 ∷ 32 ∷ 77 ∷ 46 ∷ []); symbols = (symbol (Ident) 0 6 ∷ symbol (Ident) 7 8 ∷ symbol (Ident) 8 9 ∷ symbol (Ident) 10 13 ∷ symbol (Ident) 14 15 ∷ symbol (Ident) 15 16 ∷ symbol (Ident) 17 21 ∷ symbol (Ident) 21 22 ∷ symbol (Ident) 23 28 ∷ symbol (Ident) 29 32 ∷ symbol (Ident) 32 33 ∷ symbol (Ident) 33 34 ∷ symbol (Ident) 34 35 ∷ symbol (Ident) 36 39 ∷ symbol (Ident) 40 41 ∷ symbol (Ident) 41 42 ∷ []) }; tree = record { module_word = 0; name = 1; semicolon = 0; imports = None; decls = (S.decls None None (Some (record { var_word = 0; each = (record { names = (record { first = (record { name = 4; star = None }); more = [] }); colon = 0; of = (S.Named (record { name = 6; member = None })); semicolon = 0 } ∷ []) })) S.no_procedure); body = (Some (record { begin_word = 0; stats = (S.stats (S.AssignOrCall (record { name = 9; selectors = (S.selected (S.Parens 0 (S.expressions (S.only (S.simple None (S.term (S.Designated 11 S.no_selector) S.no_factor) S.no_term)) S.no_expression) 0) S.no_selector) }) None) S.no_stat) })); end_word = 0; end_name = 14; period = 0 } }

pub type_mismatch_118 : checked (type_mismatch_118_0 ∷ []) ≡ Fault 0 31 33
type_mismatch_118 = refl

-- MODULE M; VAR i: INTEGER; c: CHAR; BEGIN INC(i, c) END M.
abbrev type_mismatch_119_0 : Parsed
type_mismatch_119_0 = record { source = record { bytes = (77 ∷ 79 ∷ 68 ∷ 85 ∷ 76 ∷ 69 ∷ 32 ∷ 77 ∷ 59 ∷ 32 ∷ 86 ∷ 65 ∷ 82 ∷ 32 ∷ 105 ∷ 58 ∷ 32 ∷ 73 ∷ 78 ∷ 84 ∷ 69 ∷ 71 ∷ 69 ∷ 82 ∷ 59 ∷ 32 ∷ 99 ∷ 58 ∷ 32 ∷ 67 ∷ 72 ∷ 65 ∷ 82 ∷ 59 ∷ 32 ∷ 66 ∷ 69 ∷ 71 ∷ 73 ∷ 78 ∷ 32 ∷ 73 ∷ 78 ∷ 67 ∷ 40 ∷ 105 ∷ 44 ∷ 32 ∷ 99 ∷ 41 ∷ 32 ∷ 69 ∷ 78 ∷ 68 ∷ 32 ∷ 77 ∷ 46 ∷ []); symbols = (symbol (Ident) 0 6 ∷ symbol (Ident) 7 8 ∷ symbol (Ident) 8 9 ∷ symbol (Ident) 10 13 ∷ symbol (Ident) 14 15 ∷ symbol (Ident) 15 16 ∷ symbol (Ident) 17 24 ∷ symbol (Ident) 24 25 ∷ symbol (Ident) 26 27 ∷ symbol (Ident) 27 28 ∷ symbol (Ident) 29 33 ∷ symbol (Ident) 33 34 ∷ symbol (Ident) 35 40 ∷ symbol (Ident) 41 44 ∷ symbol (Ident) 44 45 ∷ symbol (Ident) 45 46 ∷ symbol (Ident) 46 47 ∷ symbol (Ident) 48 49 ∷ symbol (Ident) 49 50 ∷ symbol (Ident) 51 54 ∷ symbol (Ident) 55 56 ∷ symbol (Ident) 56 57 ∷ []) }; tree = record { module_word = 0; name = 1; semicolon = 0; imports = None; decls = (S.decls None None (Some (record { var_word = 0; each = (record { names = (record { first = (record { name = 4; star = None }); more = [] }); colon = 0; of = (S.Named (record { name = 6; member = None })); semicolon = 0 } ∷ record { names = (record { first = (record { name = 8; star = None }); more = [] }); colon = 0; of = (S.Named (record { name = 10; member = None })); semicolon = 0 } ∷ []) })) S.no_procedure); body = (Some (record { begin_word = 0; stats = (S.stats (S.AssignOrCall (record { name = 13; selectors = (S.selected (S.Parens 0 (S.expressions (S.only (S.simple None (S.term (S.Designated 15 S.no_selector) S.no_factor) S.no_term)) (S.next_expression 0 (S.only (S.simple None (S.term (S.Designated 17 S.no_selector) S.no_factor) S.no_term)) S.no_expression)) 0) S.no_selector) }) None) S.no_stat) })); end_word = 0; end_name = 20; period = 0 } }

pub type_mismatch_119 : checked (type_mismatch_119_0 ∷ []) ≡ Fault 0 31 48
type_mismatch_119 = refl

-- MODULE M; VAR i: INTEGER; BEGIN INCL(i, 1) END M.
abbrev type_mismatch_120_0 : Parsed
type_mismatch_120_0 = record { source = record { bytes = (77 ∷ 79 ∷ 68 ∷ 85 ∷ 76 ∷ 69 ∷ 32 ∷ 77 ∷ 59 ∷ 32 ∷ 86 ∷ 65 ∷ 82 ∷ 32 ∷ 105 ∷ 58 ∷ 32 ∷ 73 ∷ 78 ∷ 84 ∷ 69 ∷ 71 ∷ 69 ∷ 82 ∷ 59 ∷ 32 ∷ 66 ∷ 69 ∷ 71 ∷ 73 ∷ 78 ∷ 32 ∷ 73 ∷ 78 ∷ 67 ∷ 76 ∷ 40 ∷ 105 ∷ 44 ∷ 32 ∷ 49 ∷ 41 ∷ 32 ∷ 69 ∷ 78 ∷ 68 ∷ 32 ∷ 77 ∷ 46 ∷ []); symbols = (symbol (Ident) 0 6 ∷ symbol (Ident) 7 8 ∷ symbol (Ident) 8 9 ∷ symbol (Ident) 10 13 ∷ symbol (Ident) 14 15 ∷ symbol (Ident) 15 16 ∷ symbol (Ident) 17 24 ∷ symbol (Ident) 24 25 ∷ symbol (Ident) 26 31 ∷ symbol (Ident) 32 36 ∷ symbol (Ident) 36 37 ∷ symbol (Ident) 37 38 ∷ symbol (Ident) 38 39 ∷ symbol (Int (pos 1)) 40 41 ∷ symbol (Ident) 41 42 ∷ symbol (Ident) 43 46 ∷ symbol (Ident) 47 48 ∷ symbol (Ident) 48 49 ∷ []) }; tree = record { module_word = 0; name = 1; semicolon = 0; imports = None; decls = (S.decls None None (Some (record { var_word = 0; each = (record { names = (record { first = (record { name = 4; star = None }); more = [] }); colon = 0; of = (S.Named (record { name = 6; member = None })); semicolon = 0 } ∷ []) })) S.no_procedure); body = (Some (record { begin_word = 0; stats = (S.stats (S.AssignOrCall (record { name = 9; selectors = (S.selected (S.Parens 0 (S.expressions (S.only (S.simple None (S.term (S.Designated 11 S.no_selector) S.no_factor) S.no_term)) (S.next_expression 0 (S.only (S.simple None (S.term (S.Int 13) S.no_factor) S.no_term)) S.no_expression)) 0) S.no_selector) }) None) S.no_stat) })); end_word = 0; end_name = 16; period = 0 } }

pub type_mismatch_120 : checked (type_mismatch_120_0 ∷ []) ≡ Fault 0 31 37
type_mismatch_120 = refl

-- MODULE M; VAR c: CHAR; s: SET; BEGIN INCL(s, c) END M.
abbrev type_mismatch_121_0 : Parsed
type_mismatch_121_0 = record { source = record { bytes = (77 ∷ 79 ∷ 68 ∷ 85 ∷ 76 ∷ 69 ∷ 32 ∷ 77 ∷ 59 ∷ 32 ∷ 86 ∷ 65 ∷ 82 ∷ 32 ∷ 99 ∷ 58 ∷ 32 ∷ 67 ∷ 72 ∷ 65 ∷ 82 ∷ 59 ∷ 32 ∷ 115 ∷ 58 ∷ 32 ∷ 83 ∷ 69 ∷ 84 ∷ 59 ∷ 32 ∷ 66 ∷ 69 ∷ 71 ∷ 73 ∷ 78 ∷ 32 ∷ 73 ∷ 78 ∷ 67 ∷ 76 ∷ 40 ∷ 115 ∷ 44 ∷ 32 ∷ 99 ∷ 41 ∷ 32 ∷ 69 ∷ 78 ∷ 68 ∷ 32 ∷ 77 ∷ 46 ∷ []); symbols = (symbol (Ident) 0 6 ∷ symbol (Ident) 7 8 ∷ symbol (Ident) 8 9 ∷ symbol (Ident) 10 13 ∷ symbol (Ident) 14 15 ∷ symbol (Ident) 15 16 ∷ symbol (Ident) 17 21 ∷ symbol (Ident) 21 22 ∷ symbol (Ident) 23 24 ∷ symbol (Ident) 24 25 ∷ symbol (Ident) 26 29 ∷ symbol (Ident) 29 30 ∷ symbol (Ident) 31 36 ∷ symbol (Ident) 37 41 ∷ symbol (Ident) 41 42 ∷ symbol (Ident) 42 43 ∷ symbol (Ident) 43 44 ∷ symbol (Ident) 45 46 ∷ symbol (Ident) 46 47 ∷ symbol (Ident) 48 51 ∷ symbol (Ident) 52 53 ∷ symbol (Ident) 53 54 ∷ []) }; tree = record { module_word = 0; name = 1; semicolon = 0; imports = None; decls = (S.decls None None (Some (record { var_word = 0; each = (record { names = (record { first = (record { name = 4; star = None }); more = [] }); colon = 0; of = (S.Named (record { name = 6; member = None })); semicolon = 0 } ∷ record { names = (record { first = (record { name = 8; star = None }); more = [] }); colon = 0; of = (S.Named (record { name = 10; member = None })); semicolon = 0 } ∷ []) })) S.no_procedure); body = (Some (record { begin_word = 0; stats = (S.stats (S.AssignOrCall (record { name = 13; selectors = (S.selected (S.Parens 0 (S.expressions (S.only (S.simple None (S.term (S.Designated 15 S.no_selector) S.no_factor) S.no_term)) (S.next_expression 0 (S.only (S.simple None (S.term (S.Designated 17 S.no_selector) S.no_factor) S.no_term)) S.no_expression)) 0) S.no_selector) }) None) S.no_stat) })); end_word = 0; end_name = 20; period = 0 } }

pub type_mismatch_121 : checked (type_mismatch_121_0 ∷ []) ≡ Fault 0 31 45
type_mismatch_121 = refl

-- MODULE M; TYPE R = RECORD x: INTEGER; y*: CHAR END; VAR r: R; BEGIN NEW(r) END M.
abbrev type_mismatch_122_0 : Parsed
type_mismatch_122_0 = record { source = record { bytes = (77 ∷ 79 ∷ 68 ∷ 85 ∷ 76 ∷ 69 ∷ 32 ∷ 77 ∷ 59 ∷ 32 ∷ 84 ∷ 89 ∷ 80 ∷ 69 ∷ 32 ∷ 82 ∷ 32 ∷ 61 ∷ 32 ∷ 82 ∷ 69 ∷ 67 ∷ 79 ∷ 82 ∷ 68 ∷ 32 ∷ 120 ∷ 58 ∷ 32 ∷ 73 ∷ 78 ∷ 84 ∷ 69 ∷ 71 ∷ 69 ∷ 82 ∷ 59 ∷ 32 ∷ 121 ∷ 42 ∷ 58 ∷ 32 ∷ 67 ∷ 72 ∷ 65 ∷ 82 ∷ 32 ∷ 69 ∷ 78 ∷ 68 ∷ 59 ∷ 32 ∷ 86 ∷ 65 ∷ 82 ∷ 32 ∷ 114 ∷ 58 ∷ 32 ∷ 82 ∷ 59 ∷ 32 ∷ 66 ∷ 69 ∷ 71 ∷ 73 ∷ 78 ∷ 32 ∷ 78 ∷ 69 ∷ 87 ∷ 40 ∷ 114 ∷ 41 ∷ 32 ∷ 69 ∷ 78 ∷ 68 ∷ 32 ∷ 77 ∷ 46 ∷ []); symbols = (symbol (Ident) 0 6 ∷ symbol (Ident) 7 8 ∷ symbol (Ident) 8 9 ∷ symbol (Ident) 10 14 ∷ symbol (Ident) 15 16 ∷ symbol (Ident) 17 18 ∷ symbol (Ident) 19 25 ∷ symbol (Ident) 26 27 ∷ symbol (Ident) 27 28 ∷ symbol (Ident) 29 36 ∷ symbol (Ident) 36 37 ∷ symbol (Ident) 38 39 ∷ symbol (Ident) 39 40 ∷ symbol (Ident) 40 41 ∷ symbol (Ident) 42 46 ∷ symbol (Ident) 47 50 ∷ symbol (Ident) 50 51 ∷ symbol (Ident) 52 55 ∷ symbol (Ident) 56 57 ∷ symbol (Ident) 57 58 ∷ symbol (Ident) 59 60 ∷ symbol (Ident) 60 61 ∷ symbol (Ident) 62 67 ∷ symbol (Ident) 68 71 ∷ symbol (Ident) 71 72 ∷ symbol (Ident) 72 73 ∷ symbol (Ident) 73 74 ∷ symbol (Ident) 75 78 ∷ symbol (Ident) 79 80 ∷ symbol (Ident) 80 81 ∷ []) }; tree = record { module_word = 0; name = 1; semicolon = 0; imports = None; decls = (S.decls None (Some (record { type_word = 0; each = (record { name = (record { name = 4; star = None }); equal = 0; is = (S.Record 6 None (S.fields (record { first = (record { name = 7; star = None }); more = [] }) 0 (S.Named (record { name = 9; member = None }))) (S.next_fields 0 (S.fields (record { first = (record { name = 11; star = Some 0 }); more = [] }) 0 (S.Named (record { name = 14; member = None }))) S.no_more_fields) 0); semicolon = 0 } ∷ []) })) (Some (record { var_word = 0; each = (record { names = (record { first = (record { name = 18; star = None }); more = [] }); colon = 0; of = (S.Named (record { name = 20; member = None })); semicolon = 0 } ∷ []) })) S.no_procedure); body = (Some (record { begin_word = 0; stats = (S.stats (S.AssignOrCall (record { name = 23; selectors = (S.selected (S.Parens 0 (S.expressions (S.only (S.simple None (S.term (S.Designated 25 S.no_selector) S.no_factor) S.no_term)) S.no_expression) 0) S.no_selector) }) None) S.no_stat) })); end_word = 0; end_name = 28; period = 0 } }

pub type_mismatch_122 : checked (type_mismatch_122_0 ∷ []) ≡ Fault 0 31 72
type_mismatch_122 = refl

-- MODULE M; VAR i: INTEGER; BEGIN NEW(i) END M.
abbrev type_mismatch_123_0 : Parsed
type_mismatch_123_0 = record { source = record { bytes = (77 ∷ 79 ∷ 68 ∷ 85 ∷ 76 ∷ 69 ∷ 32 ∷ 77 ∷ 59 ∷ 32 ∷ 86 ∷ 65 ∷ 82 ∷ 32 ∷ 105 ∷ 58 ∷ 32 ∷ 73 ∷ 78 ∷ 84 ∷ 69 ∷ 71 ∷ 69 ∷ 82 ∷ 59 ∷ 32 ∷ 66 ∷ 69 ∷ 71 ∷ 73 ∷ 78 ∷ 32 ∷ 78 ∷ 69 ∷ 87 ∷ 40 ∷ 105 ∷ 41 ∷ 32 ∷ 69 ∷ 78 ∷ 68 ∷ 32 ∷ 77 ∷ 46 ∷ []); symbols = (symbol (Ident) 0 6 ∷ symbol (Ident) 7 8 ∷ symbol (Ident) 8 9 ∷ symbol (Ident) 10 13 ∷ symbol (Ident) 14 15 ∷ symbol (Ident) 15 16 ∷ symbol (Ident) 17 24 ∷ symbol (Ident) 24 25 ∷ symbol (Ident) 26 31 ∷ symbol (Ident) 32 35 ∷ symbol (Ident) 35 36 ∷ symbol (Ident) 36 37 ∷ symbol (Ident) 37 38 ∷ symbol (Ident) 39 42 ∷ symbol (Ident) 43 44 ∷ symbol (Ident) 44 45 ∷ []) }; tree = record { module_word = 0; name = 1; semicolon = 0; imports = None; decls = (S.decls None None (Some (record { var_word = 0; each = (record { names = (record { first = (record { name = 4; star = None }); more = [] }); colon = 0; of = (S.Named (record { name = 6; member = None })); semicolon = 0 } ∷ []) })) S.no_procedure); body = (Some (record { begin_word = 0; stats = (S.stats (S.AssignOrCall (record { name = 9; selectors = (S.selected (S.Parens 0 (S.expressions (S.only (S.simple None (S.term (S.Designated 11 S.no_selector) S.no_factor) S.no_term)) S.no_expression) 0) S.no_selector) }) None) S.no_stat) })); end_word = 0; end_name = 14; period = 0 } }

pub type_mismatch_123 : checked (type_mismatch_123_0 ∷ []) ≡ Fault 0 31 36
type_mismatch_123 = refl

-- MODULE M; VAR i: INTEGER; BEGIN ASSERT(i) END M.
abbrev type_mismatch_124_0 : Parsed
type_mismatch_124_0 = record { source = record { bytes = (77 ∷ 79 ∷ 68 ∷ 85 ∷ 76 ∷ 69 ∷ 32 ∷ 77 ∷ 59 ∷ 32 ∷ 86 ∷ 65 ∷ 82 ∷ 32 ∷ 105 ∷ 58 ∷ 32 ∷ 73 ∷ 78 ∷ 84 ∷ 69 ∷ 71 ∷ 69 ∷ 82 ∷ 59 ∷ 32 ∷ 66 ∷ 69 ∷ 71 ∷ 73 ∷ 78 ∷ 32 ∷ 65 ∷ 83 ∷ 83 ∷ 69 ∷ 82 ∷ 84 ∷ 40 ∷ 105 ∷ 41 ∷ 32 ∷ 69 ∷ 78 ∷ 68 ∷ 32 ∷ 77 ∷ 46 ∷ []); symbols = (symbol (Ident) 0 6 ∷ symbol (Ident) 7 8 ∷ symbol (Ident) 8 9 ∷ symbol (Ident) 10 13 ∷ symbol (Ident) 14 15 ∷ symbol (Ident) 15 16 ∷ symbol (Ident) 17 24 ∷ symbol (Ident) 24 25 ∷ symbol (Ident) 26 31 ∷ symbol (Ident) 32 38 ∷ symbol (Ident) 38 39 ∷ symbol (Ident) 39 40 ∷ symbol (Ident) 40 41 ∷ symbol (Ident) 42 45 ∷ symbol (Ident) 46 47 ∷ symbol (Ident) 47 48 ∷ []) }; tree = record { module_word = 0; name = 1; semicolon = 0; imports = None; decls = (S.decls None None (Some (record { var_word = 0; each = (record { names = (record { first = (record { name = 4; star = None }); more = [] }); colon = 0; of = (S.Named (record { name = 6; member = None })); semicolon = 0 } ∷ []) })) S.no_procedure); body = (Some (record { begin_word = 0; stats = (S.stats (S.AssignOrCall (record { name = 9; selectors = (S.selected (S.Parens 0 (S.expressions (S.only (S.simple None (S.term (S.Designated 11 S.no_selector) S.no_factor) S.no_term)) S.no_expression) 0) S.no_selector) }) None) S.no_stat) })); end_word = 0; end_name = 14; period = 0 } }

pub type_mismatch_124 : checked (type_mismatch_124_0 ∷ []) ≡ Fault 0 31 39
type_mismatch_124 = refl

-- MODULE M; IMPORT Out; VAR i: INTEGER; BEGIN Out.Char(i) END M.
abbrev type_mismatch_125_0 : Parsed
type_mismatch_125_0 = record { source = record { bytes = (77 ∷ 79 ∷ 68 ∷ 85 ∷ 76 ∷ 69 ∷ 32 ∷ 77 ∷ 59 ∷ 32 ∷ 73 ∷ 77 ∷ 80 ∷ 79 ∷ 82 ∷ 84 ∷ 32 ∷ 79 ∷ 117 ∷ 116 ∷ 59 ∷ 32 ∷ 86 ∷ 65 ∷ 82 ∷ 32 ∷ 105 ∷ 58 ∷ 32 ∷ 73 ∷ 78 ∷ 84 ∷ 69 ∷ 71 ∷ 69 ∷ 82 ∷ 59 ∷ 32 ∷ 66 ∷ 69 ∷ 71 ∷ 73 ∷ 78 ∷ 32 ∷ 79 ∷ 117 ∷ 116 ∷ 46 ∷ 67 ∷ 104 ∷ 97 ∷ 114 ∷ 40 ∷ 105 ∷ 41 ∷ 32 ∷ 69 ∷ 78 ∷ 68 ∷ 32 ∷ 77 ∷ 46 ∷ []); symbols = (symbol (Ident) 0 6 ∷ symbol (Ident) 7 8 ∷ symbol (Ident) 8 9 ∷ symbol (Ident) 10 16 ∷ symbol (Ident) 17 20 ∷ symbol (Ident) 20 21 ∷ symbol (Ident) 22 25 ∷ symbol (Ident) 26 27 ∷ symbol (Ident) 27 28 ∷ symbol (Ident) 29 36 ∷ symbol (Ident) 36 37 ∷ symbol (Ident) 38 43 ∷ symbol (Ident) 44 47 ∷ symbol (Ident) 47 48 ∷ symbol (Ident) 48 52 ∷ symbol (Ident) 52 53 ∷ symbol (Ident) 53 54 ∷ symbol (Ident) 54 55 ∷ symbol (Ident) 56 59 ∷ symbol (Ident) 60 61 ∷ symbol (Ident) 61 62 ∷ []) }; tree = record { module_word = 0; name = 1; semicolon = 0; imports = Some (record { import_word = 0; first = (record { name = 4; of = None }); more = []; semicolon = 0 }); decls = (S.decls None None (Some (record { var_word = 0; each = (record { names = (record { first = (record { name = 7; star = None }); more = [] }); colon = 0; of = (S.Named (record { name = 9; member = None })); semicolon = 0 } ∷ []) })) S.no_procedure); body = (Some (record { begin_word = 0; stats = (S.stats (S.AssignOrCall (record { name = 12; selectors = (S.selected (S.Field 0 14) (S.selected (S.Parens 0 (S.expressions (S.only (S.simple None (S.term (S.Designated 16 S.no_selector) S.no_factor) S.no_term)) S.no_expression) 0) S.no_selector)) }) None) S.no_stat) })); end_word = 0; end_name = 19; period = 0 } }

pub type_mismatch_125 : checked (type_mismatch_125_0 ∷ []) ≡ Fault 0 31 53
type_mismatch_125 = refl

-- MODULE M; IMPORT Out; BEGIN Out.Char(''ab'') END M.
abbrev type_mismatch_126_0 : Parsed
type_mismatch_126_0 = record { source = record { bytes = (77 ∷ 79 ∷ 68 ∷ 85 ∷ 76 ∷ 69 ∷ 32 ∷ 77 ∷ 59 ∷ 32 ∷ 73 ∷ 77 ∷ 80 ∷ 79 ∷ 82 ∷ 84 ∷ 32 ∷ 79 ∷ 117 ∷ 116 ∷ 59 ∷ 32 ∷ 66 ∷ 69 ∷ 71 ∷ 73 ∷ 78 ∷ 32 ∷ 79 ∷ 117 ∷ 116 ∷ 46 ∷ 67 ∷ 104 ∷ 97 ∷ 114 ∷ 40 ∷ 34 ∷ 97 ∷ 98 ∷ 34 ∷ 41 ∷ 32 ∷ 69 ∷ 78 ∷ 68 ∷ 32 ∷ 77 ∷ 46 ∷ []); symbols = (symbol (Ident) 0 6 ∷ symbol (Ident) 7 8 ∷ symbol (Ident) 8 9 ∷ symbol (Ident) 10 16 ∷ symbol (Ident) 17 20 ∷ symbol (Ident) 20 21 ∷ symbol (Ident) 22 27 ∷ symbol (Ident) 28 31 ∷ symbol (Ident) 31 32 ∷ symbol (Ident) 32 36 ∷ symbol (Ident) 36 37 ∷ symbol (TheKind.Text) 37 41 ∷ symbol (Ident) 41 42 ∷ symbol (Ident) 43 46 ∷ symbol (Ident) 47 48 ∷ symbol (Ident) 48 49 ∷ []) }; tree = record { module_word = 0; name = 1; semicolon = 0; imports = Some (record { import_word = 0; first = (record { name = 4; of = None }); more = []; semicolon = 0 }); decls = (S.decls None None None S.no_procedure); body = (Some (record { begin_word = 0; stats = (S.stats (S.AssignOrCall (record { name = 7; selectors = (S.selected (S.Field 0 9) (S.selected (S.Parens 0 (S.expressions (S.only (S.simple None (S.term (S.Text 11) S.no_factor) S.no_term)) S.no_expression) 0) S.no_selector)) }) None) S.no_stat) })); end_word = 0; end_name = 14; period = 0 } }

pub type_mismatch_126 : checked (type_mismatch_126_0 ∷ []) ≡ Fault 0 31 37
type_mismatch_126 = refl

-- MODULE M; IMPORT Out; VAR c: CHAR; BEGIN Out.Int(c, 0) END M.
abbrev type_mismatch_127_0 : Parsed
type_mismatch_127_0 = record { source = record { bytes = (77 ∷ 79 ∷ 68 ∷ 85 ∷ 76 ∷ 69 ∷ 32 ∷ 77 ∷ 59 ∷ 32 ∷ 73 ∷ 77 ∷ 80 ∷ 79 ∷ 82 ∷ 84 ∷ 32 ∷ 79 ∷ 117 ∷ 116 ∷ 59 ∷ 32 ∷ 86 ∷ 65 ∷ 82 ∷ 32 ∷ 99 ∷ 58 ∷ 32 ∷ 67 ∷ 72 ∷ 65 ∷ 82 ∷ 59 ∷ 32 ∷ 66 ∷ 69 ∷ 71 ∷ 73 ∷ 78 ∷ 32 ∷ 79 ∷ 117 ∷ 116 ∷ 46 ∷ 73 ∷ 110 ∷ 116 ∷ 40 ∷ 99 ∷ 44 ∷ 32 ∷ 48 ∷ 41 ∷ 32 ∷ 69 ∷ 78 ∷ 68 ∷ 32 ∷ 77 ∷ 46 ∷ []); symbols = (symbol (Ident) 0 6 ∷ symbol (Ident) 7 8 ∷ symbol (Ident) 8 9 ∷ symbol (Ident) 10 16 ∷ symbol (Ident) 17 20 ∷ symbol (Ident) 20 21 ∷ symbol (Ident) 22 25 ∷ symbol (Ident) 26 27 ∷ symbol (Ident) 27 28 ∷ symbol (Ident) 29 33 ∷ symbol (Ident) 33 34 ∷ symbol (Ident) 35 40 ∷ symbol (Ident) 41 44 ∷ symbol (Ident) 44 45 ∷ symbol (Ident) 45 48 ∷ symbol (Ident) 48 49 ∷ symbol (Ident) 49 50 ∷ symbol (Ident) 50 51 ∷ symbol (Int (pos 0)) 52 53 ∷ symbol (Ident) 53 54 ∷ symbol (Ident) 55 58 ∷ symbol (Ident) 59 60 ∷ symbol (Ident) 60 61 ∷ []) }; tree = record { module_word = 0; name = 1; semicolon = 0; imports = Some (record { import_word = 0; first = (record { name = 4; of = None }); more = []; semicolon = 0 }); decls = (S.decls None None (Some (record { var_word = 0; each = (record { names = (record { first = (record { name = 7; star = None }); more = [] }); colon = 0; of = (S.Named (record { name = 9; member = None })); semicolon = 0 } ∷ []) })) S.no_procedure); body = (Some (record { begin_word = 0; stats = (S.stats (S.AssignOrCall (record { name = 12; selectors = (S.selected (S.Field 0 14) (S.selected (S.Parens 0 (S.expressions (S.only (S.simple None (S.term (S.Designated 16 S.no_selector) S.no_factor) S.no_term)) (S.next_expression 0 (S.only (S.simple None (S.term (S.Int 18) S.no_factor) S.no_term)) S.no_expression)) 0) S.no_selector)) }) None) S.no_stat) })); end_word = 0; end_name = 21; period = 0 } }

pub type_mismatch_127 : checked (type_mismatch_127_0 ∷ []) ≡ Fault 0 31 49
type_mismatch_127 = refl

-- MODULE M; IMPORT Out; VAR c: CHAR; BEGIN Out.Int(1, c) END M.
abbrev type_mismatch_128_0 : Parsed
type_mismatch_128_0 = record { source = record { bytes = (77 ∷ 79 ∷ 68 ∷ 85 ∷ 76 ∷ 69 ∷ 32 ∷ 77 ∷ 59 ∷ 32 ∷ 73 ∷ 77 ∷ 80 ∷ 79 ∷ 82 ∷ 84 ∷ 32 ∷ 79 ∷ 117 ∷ 116 ∷ 59 ∷ 32 ∷ 86 ∷ 65 ∷ 82 ∷ 32 ∷ 99 ∷ 58 ∷ 32 ∷ 67 ∷ 72 ∷ 65 ∷ 82 ∷ 59 ∷ 32 ∷ 66 ∷ 69 ∷ 71 ∷ 73 ∷ 78 ∷ 32 ∷ 79 ∷ 117 ∷ 116 ∷ 46 ∷ 73 ∷ 110 ∷ 116 ∷ 40 ∷ 49 ∷ 44 ∷ 32 ∷ 99 ∷ 41 ∷ 32 ∷ 69 ∷ 78 ∷ 68 ∷ 32 ∷ 77 ∷ 46 ∷ []); symbols = (symbol (Ident) 0 6 ∷ symbol (Ident) 7 8 ∷ symbol (Ident) 8 9 ∷ symbol (Ident) 10 16 ∷ symbol (Ident) 17 20 ∷ symbol (Ident) 20 21 ∷ symbol (Ident) 22 25 ∷ symbol (Ident) 26 27 ∷ symbol (Ident) 27 28 ∷ symbol (Ident) 29 33 ∷ symbol (Ident) 33 34 ∷ symbol (Ident) 35 40 ∷ symbol (Ident) 41 44 ∷ symbol (Ident) 44 45 ∷ symbol (Ident) 45 48 ∷ symbol (Ident) 48 49 ∷ symbol (Int (pos 1)) 49 50 ∷ symbol (Ident) 50 51 ∷ symbol (Ident) 52 53 ∷ symbol (Ident) 53 54 ∷ symbol (Ident) 55 58 ∷ symbol (Ident) 59 60 ∷ symbol (Ident) 60 61 ∷ []) }; tree = record { module_word = 0; name = 1; semicolon = 0; imports = Some (record { import_word = 0; first = (record { name = 4; of = None }); more = []; semicolon = 0 }); decls = (S.decls None None (Some (record { var_word = 0; each = (record { names = (record { first = (record { name = 7; star = None }); more = [] }); colon = 0; of = (S.Named (record { name = 9; member = None })); semicolon = 0 } ∷ []) })) S.no_procedure); body = (Some (record { begin_word = 0; stats = (S.stats (S.AssignOrCall (record { name = 12; selectors = (S.selected (S.Field 0 14) (S.selected (S.Parens 0 (S.expressions (S.only (S.simple None (S.term (S.Int 16) S.no_factor) S.no_term)) (S.next_expression 0 (S.only (S.simple None (S.term (S.Designated 18 S.no_selector) S.no_factor) S.no_term)) S.no_expression)) 0) S.no_selector)) }) None) S.no_stat) })); end_word = 0; end_name = 21; period = 0 } }

pub type_mismatch_128 : checked (type_mismatch_128_0 ∷ []) ≡ Fault 0 31 52
type_mismatch_128 = refl

-- MODULE M; IMPORT Out; BEGIN Out.String(41X) END M.
abbrev type_mismatch_129_0 : Parsed
type_mismatch_129_0 = record { source = record { bytes = (77 ∷ 79 ∷ 68 ∷ 85 ∷ 76 ∷ 69 ∷ 32 ∷ 77 ∷ 59 ∷ 32 ∷ 73 ∷ 77 ∷ 80 ∷ 79 ∷ 82 ∷ 84 ∷ 32 ∷ 79 ∷ 117 ∷ 116 ∷ 59 ∷ 32 ∷ 66 ∷ 69 ∷ 71 ∷ 73 ∷ 78 ∷ 32 ∷ 79 ∷ 117 ∷ 116 ∷ 46 ∷ 83 ∷ 116 ∷ 114 ∷ 105 ∷ 110 ∷ 103 ∷ 40 ∷ 52 ∷ 49 ∷ 88 ∷ 41 ∷ 32 ∷ 69 ∷ 78 ∷ 68 ∷ 32 ∷ 77 ∷ 46 ∷ []); symbols = (symbol (Ident) 0 6 ∷ symbol (Ident) 7 8 ∷ symbol (Ident) 8 9 ∷ symbol (Ident) 10 16 ∷ symbol (Ident) 17 20 ∷ symbol (Ident) 20 21 ∷ symbol (Ident) 22 27 ∷ symbol (Ident) 28 31 ∷ symbol (Ident) 31 32 ∷ symbol (Ident) 32 38 ∷ symbol (Ident) 38 39 ∷ symbol (TheKind.Char 65) 39 42 ∷ symbol (Ident) 42 43 ∷ symbol (Ident) 44 47 ∷ symbol (Ident) 48 49 ∷ symbol (Ident) 49 50 ∷ []) }; tree = record { module_word = 0; name = 1; semicolon = 0; imports = Some (record { import_word = 0; first = (record { name = 4; of = None }); more = []; semicolon = 0 }); decls = (S.decls None None None S.no_procedure); body = (Some (record { begin_word = 0; stats = (S.stats (S.AssignOrCall (record { name = 7; selectors = (S.selected (S.Field 0 9) (S.selected (S.Parens 0 (S.expressions (S.only (S.simple None (S.term (S.Char 11) S.no_factor) S.no_term)) S.no_expression) 0) S.no_selector)) }) None) S.no_stat) })); end_word = 0; end_name = 14; period = 0 } }

pub type_mismatch_129 : checked (type_mismatch_129_0 ∷ []) ≡ Fault 0 31 39
type_mismatch_129 = refl

-- MODULE M; IMPORT Out; VAR t: ARRAY 8 OF CHAR; BEGIN Out.String((t)) END M.
abbrev type_mismatch_130_0 : Parsed
type_mismatch_130_0 = record { source = record { bytes = (77 ∷ 79 ∷ 68 ∷ 85 ∷ 76 ∷ 69 ∷ 32 ∷ 77 ∷ 59 ∷ 32 ∷ 73 ∷ 77 ∷ 80 ∷ 79 ∷ 82 ∷ 84 ∷ 32 ∷ 79 ∷ 117 ∷ 116 ∷ 59 ∷ 32 ∷ 86 ∷ 65 ∷ 82 ∷ 32 ∷ 116 ∷ 58 ∷ 32 ∷ 65 ∷ 82 ∷ 82 ∷ 65 ∷ 89 ∷ 32 ∷ 56 ∷ 32 ∷ 79 ∷ 70 ∷ 32 ∷ 67 ∷ 72 ∷ 65 ∷ 82 ∷ 59 ∷ 32 ∷ 66 ∷ 69 ∷ 71 ∷ 73 ∷ 78 ∷ 32 ∷ 79 ∷ 117 ∷ 116 ∷ 46 ∷ 83 ∷ 116 ∷ 114 ∷ 105 ∷ 110 ∷ 103 ∷ 40 ∷ 40 ∷ 116 ∷ 41 ∷ 41 ∷ 32 ∷ 69 ∷ 78 ∷ 68 ∷ 32 ∷ 77 ∷ 46 ∷ []); symbols = (symbol (Ident) 0 6 ∷ symbol (Ident) 7 8 ∷ symbol (Ident) 8 9 ∷ symbol (Ident) 10 16 ∷ symbol (Ident) 17 20 ∷ symbol (Ident) 20 21 ∷ symbol (Ident) 22 25 ∷ symbol (Ident) 26 27 ∷ symbol (Ident) 27 28 ∷ symbol (Ident) 29 34 ∷ symbol (Int (pos 8)) 35 36 ∷ symbol (Ident) 37 39 ∷ symbol (Ident) 40 44 ∷ symbol (Ident) 44 45 ∷ symbol (Ident) 46 51 ∷ symbol (Ident) 52 55 ∷ symbol (Ident) 55 56 ∷ symbol (Ident) 56 62 ∷ symbol (Ident) 62 63 ∷ symbol (Ident) 63 64 ∷ symbol (Ident) 64 65 ∷ symbol (Ident) 65 66 ∷ symbol (Ident) 66 67 ∷ symbol (Ident) 68 71 ∷ symbol (Ident) 72 73 ∷ symbol (Ident) 73 74 ∷ []) }; tree = record { module_word = 0; name = 1; semicolon = 0; imports = Some (record { import_word = 0; first = (record { name = 4; of = None }); more = []; semicolon = 0 }); decls = (S.decls None None (Some (record { var_word = 0; each = (record { names = (record { first = (record { name = 7; star = None }); more = [] }); colon = 0; of = (S.Array 9 (S.only (S.simple None (S.term (S.Int 10) S.no_factor) S.no_term)) S.no_expression 0 (S.Named (record { name = 12; member = None }))); semicolon = 0 } ∷ []) })) S.no_procedure); body = (Some (record { begin_word = 0; stats = (S.stats (S.AssignOrCall (record { name = 15; selectors = (S.selected (S.Field 0 17) (S.selected (S.Parens 0 (S.expressions (S.only (S.simple None (S.term (S.Paren 19 (S.only (S.simple None (S.term (S.Designated 20 S.no_selector) S.no_factor) S.no_term)) 0) S.no_factor) S.no_term)) S.no_expression) 0) S.no_selector)) }) None) S.no_stat) })); end_word = 0; end_name = 24; period = 0 } }

pub type_mismatch_130 : checked (type_mismatch_130_0 ∷ []) ≡ Fault 0 31 63
type_mismatch_130 = refl

-- MODULE M; IMPORT Out; VAR a: ARRAY 3 OF INTEGER; BEGIN Out.String(a) END M.
abbrev type_mismatch_131_0 : Parsed
type_mismatch_131_0 = record { source = record { bytes = (77 ∷ 79 ∷ 68 ∷ 85 ∷ 76 ∷ 69 ∷ 32 ∷ 77 ∷ 59 ∷ 32 ∷ 73 ∷ 77 ∷ 80 ∷ 79 ∷ 82 ∷ 84 ∷ 32 ∷ 79 ∷ 117 ∷ 116 ∷ 59 ∷ 32 ∷ 86 ∷ 65 ∷ 82 ∷ 32 ∷ 97 ∷ 58 ∷ 32 ∷ 65 ∷ 82 ∷ 82 ∷ 65 ∷ 89 ∷ 32 ∷ 51 ∷ 32 ∷ 79 ∷ 70 ∷ 32 ∷ 73 ∷ 78 ∷ 84 ∷ 69 ∷ 71 ∷ 69 ∷ 82 ∷ 59 ∷ 32 ∷ 66 ∷ 69 ∷ 71 ∷ 73 ∷ 78 ∷ 32 ∷ 79 ∷ 117 ∷ 116 ∷ 46 ∷ 83 ∷ 116 ∷ 114 ∷ 105 ∷ 110 ∷ 103 ∷ 40 ∷ 97 ∷ 41 ∷ 32 ∷ 69 ∷ 78 ∷ 68 ∷ 32 ∷ 77 ∷ 46 ∷ []); symbols = (symbol (Ident) 0 6 ∷ symbol (Ident) 7 8 ∷ symbol (Ident) 8 9 ∷ symbol (Ident) 10 16 ∷ symbol (Ident) 17 20 ∷ symbol (Ident) 20 21 ∷ symbol (Ident) 22 25 ∷ symbol (Ident) 26 27 ∷ symbol (Ident) 27 28 ∷ symbol (Ident) 29 34 ∷ symbol (Int (pos 3)) 35 36 ∷ symbol (Ident) 37 39 ∷ symbol (Ident) 40 47 ∷ symbol (Ident) 47 48 ∷ symbol (Ident) 49 54 ∷ symbol (Ident) 55 58 ∷ symbol (Ident) 58 59 ∷ symbol (Ident) 59 65 ∷ symbol (Ident) 65 66 ∷ symbol (Ident) 66 67 ∷ symbol (Ident) 67 68 ∷ symbol (Ident) 69 72 ∷ symbol (Ident) 73 74 ∷ symbol (Ident) 74 75 ∷ []) }; tree = record { module_word = 0; name = 1; semicolon = 0; imports = Some (record { import_word = 0; first = (record { name = 4; of = None }); more = []; semicolon = 0 }); decls = (S.decls None None (Some (record { var_word = 0; each = (record { names = (record { first = (record { name = 7; star = None }); more = [] }); colon = 0; of = (S.Array 9 (S.only (S.simple None (S.term (S.Int 10) S.no_factor) S.no_term)) S.no_expression 0 (S.Named (record { name = 12; member = None }))); semicolon = 0 } ∷ []) })) S.no_procedure); body = (Some (record { begin_word = 0; stats = (S.stats (S.AssignOrCall (record { name = 15; selectors = (S.selected (S.Field 0 17) (S.selected (S.Parens 0 (S.expressions (S.only (S.simple None (S.term (S.Designated 19 S.no_selector) S.no_factor) S.no_term)) S.no_expression) 0) S.no_selector)) }) None) S.no_stat) })); end_word = 0; end_name = 22; period = 0 } }

pub type_mismatch_131 : checked (type_mismatch_131_0 ∷ []) ≡ Fault 0 31 66
type_mismatch_131 = refl

-- MODULE M; IMPORT Out; VAR i: INTEGER; BEGIN Out.String(i) END M.
abbrev type_mismatch_132_0 : Parsed
type_mismatch_132_0 = record { source = record { bytes = (77 ∷ 79 ∷ 68 ∷ 85 ∷ 76 ∷ 69 ∷ 32 ∷ 77 ∷ 59 ∷ 32 ∷ 73 ∷ 77 ∷ 80 ∷ 79 ∷ 82 ∷ 84 ∷ 32 ∷ 79 ∷ 117 ∷ 116 ∷ 59 ∷ 32 ∷ 86 ∷ 65 ∷ 82 ∷ 32 ∷ 105 ∷ 58 ∷ 32 ∷ 73 ∷ 78 ∷ 84 ∷ 69 ∷ 71 ∷ 69 ∷ 82 ∷ 59 ∷ 32 ∷ 66 ∷ 69 ∷ 71 ∷ 73 ∷ 78 ∷ 32 ∷ 79 ∷ 117 ∷ 116 ∷ 46 ∷ 83 ∷ 116 ∷ 114 ∷ 105 ∷ 110 ∷ 103 ∷ 40 ∷ 105 ∷ 41 ∷ 32 ∷ 69 ∷ 78 ∷ 68 ∷ 32 ∷ 77 ∷ 46 ∷ []); symbols = (symbol (Ident) 0 6 ∷ symbol (Ident) 7 8 ∷ symbol (Ident) 8 9 ∷ symbol (Ident) 10 16 ∷ symbol (Ident) 17 20 ∷ symbol (Ident) 20 21 ∷ symbol (Ident) 22 25 ∷ symbol (Ident) 26 27 ∷ symbol (Ident) 27 28 ∷ symbol (Ident) 29 36 ∷ symbol (Ident) 36 37 ∷ symbol (Ident) 38 43 ∷ symbol (Ident) 44 47 ∷ symbol (Ident) 47 48 ∷ symbol (Ident) 48 54 ∷ symbol (Ident) 54 55 ∷ symbol (Ident) 55 56 ∷ symbol (Ident) 56 57 ∷ symbol (Ident) 58 61 ∷ symbol (Ident) 62 63 ∷ symbol (Ident) 63 64 ∷ []) }; tree = record { module_word = 0; name = 1; semicolon = 0; imports = Some (record { import_word = 0; first = (record { name = 4; of = None }); more = []; semicolon = 0 }); decls = (S.decls None None (Some (record { var_word = 0; each = (record { names = (record { first = (record { name = 7; star = None }); more = [] }); colon = 0; of = (S.Named (record { name = 9; member = None })); semicolon = 0 } ∷ []) })) S.no_procedure); body = (Some (record { begin_word = 0; stats = (S.stats (S.AssignOrCall (record { name = 12; selectors = (S.selected (S.Field 0 14) (S.selected (S.Parens 0 (S.expressions (S.only (S.simple None (S.term (S.Designated 16 S.no_selector) S.no_factor) S.no_term)) S.no_expression) 0) S.no_selector)) }) None) S.no_stat) })); end_word = 0; end_name = 19; period = 0 } }

pub type_mismatch_132 : checked (type_mismatch_132_0 ∷ []) ≡ Fault 0 31 55
type_mismatch_132 = refl

-- MODULE M; IMPORT In; VAR i: INTEGER; BEGIN In.Char(i) END M.
abbrev type_mismatch_133_0 : Parsed
type_mismatch_133_0 = record { source = record { bytes = (77 ∷ 79 ∷ 68 ∷ 85 ∷ 76 ∷ 69 ∷ 32 ∷ 77 ∷ 59 ∷ 32 ∷ 73 ∷ 77 ∷ 80 ∷ 79 ∷ 82 ∷ 84 ∷ 32 ∷ 73 ∷ 110 ∷ 59 ∷ 32 ∷ 86 ∷ 65 ∷ 82 ∷ 32 ∷ 105 ∷ 58 ∷ 32 ∷ 73 ∷ 78 ∷ 84 ∷ 69 ∷ 71 ∷ 69 ∷ 82 ∷ 59 ∷ 32 ∷ 66 ∷ 69 ∷ 71 ∷ 73 ∷ 78 ∷ 32 ∷ 73 ∷ 110 ∷ 46 ∷ 67 ∷ 104 ∷ 97 ∷ 114 ∷ 40 ∷ 105 ∷ 41 ∷ 32 ∷ 69 ∷ 78 ∷ 68 ∷ 32 ∷ 77 ∷ 46 ∷ []); symbols = (symbol (Ident) 0 6 ∷ symbol (Ident) 7 8 ∷ symbol (Ident) 8 9 ∷ symbol (Ident) 10 16 ∷ symbol (Ident) 17 19 ∷ symbol (Ident) 19 20 ∷ symbol (Ident) 21 24 ∷ symbol (Ident) 25 26 ∷ symbol (Ident) 26 27 ∷ symbol (Ident) 28 35 ∷ symbol (Ident) 35 36 ∷ symbol (Ident) 37 42 ∷ symbol (Ident) 43 45 ∷ symbol (Ident) 45 46 ∷ symbol (Ident) 46 50 ∷ symbol (Ident) 50 51 ∷ symbol (Ident) 51 52 ∷ symbol (Ident) 52 53 ∷ symbol (Ident) 54 57 ∷ symbol (Ident) 58 59 ∷ symbol (Ident) 59 60 ∷ []) }; tree = record { module_word = 0; name = 1; semicolon = 0; imports = Some (record { import_word = 0; first = (record { name = 4; of = None }); more = []; semicolon = 0 }); decls = (S.decls None None (Some (record { var_word = 0; each = (record { names = (record { first = (record { name = 7; star = None }); more = [] }); colon = 0; of = (S.Named (record { name = 9; member = None })); semicolon = 0 } ∷ []) })) S.no_procedure); body = (Some (record { begin_word = 0; stats = (S.stats (S.AssignOrCall (record { name = 12; selectors = (S.selected (S.Field 0 14) (S.selected (S.Parens 0 (S.expressions (S.only (S.simple None (S.term (S.Designated 16 S.no_selector) S.no_factor) S.no_term)) S.no_expression) 0) S.no_selector)) }) None) S.no_stat) })); end_word = 0; end_name = 19; period = 0 } }

pub type_mismatch_133 : checked (type_mismatch_133_0 ∷ []) ≡ Fault 0 31 51
type_mismatch_133 = refl

-- MODULE M; VAR t: ARRAY 8 OF CHAR; BEGIN t := 41X END M.
abbrev type_mismatch_134_0 : Parsed
type_mismatch_134_0 = record { source = record { bytes = (77 ∷ 79 ∷ 68 ∷ 85 ∷ 76 ∷ 69 ∷ 32 ∷ 77 ∷ 59 ∷ 32 ∷ 86 ∷ 65 ∷ 82 ∷ 32 ∷ 116 ∷ 58 ∷ 32 ∷ 65 ∷ 82 ∷ 82 ∷ 65 ∷ 89 ∷ 32 ∷ 56 ∷ 32 ∷ 79 ∷ 70 ∷ 32 ∷ 67 ∷ 72 ∷ 65 ∷ 82 ∷ 59 ∷ 32 ∷ 66 ∷ 69 ∷ 71 ∷ 73 ∷ 78 ∷ 32 ∷ 116 ∷ 32 ∷ 58 ∷ 61 ∷ 32 ∷ 52 ∷ 49 ∷ 88 ∷ 32 ∷ 69 ∷ 78 ∷ 68 ∷ 32 ∷ 77 ∷ 46 ∷ []); symbols = (symbol (Ident) 0 6 ∷ symbol (Ident) 7 8 ∷ symbol (Ident) 8 9 ∷ symbol (Ident) 10 13 ∷ symbol (Ident) 14 15 ∷ symbol (Ident) 15 16 ∷ symbol (Ident) 17 22 ∷ symbol (Int (pos 8)) 23 24 ∷ symbol (Ident) 25 27 ∷ symbol (Ident) 28 32 ∷ symbol (Ident) 32 33 ∷ symbol (Ident) 34 39 ∷ symbol (Ident) 40 41 ∷ symbol (Ident) 42 44 ∷ symbol (TheKind.Char 65) 45 48 ∷ symbol (Ident) 49 52 ∷ symbol (Ident) 53 54 ∷ symbol (Ident) 54 55 ∷ []) }; tree = record { module_word = 0; name = 1; semicolon = 0; imports = None; decls = (S.decls None None (Some (record { var_word = 0; each = (record { names = (record { first = (record { name = 4; star = None }); more = [] }); colon = 0; of = (S.Array 6 (S.only (S.simple None (S.term (S.Int 7) S.no_factor) S.no_term)) S.no_expression 0 (S.Named (record { name = 9; member = None }))); semicolon = 0 } ∷ []) })) S.no_procedure); body = (Some (record { begin_word = 0; stats = (S.stats (S.AssignOrCall (record { name = 12; selectors = S.no_selector }) (Some (record { becomes = 0; value = (S.only (S.simple None (S.term (S.Char 14) S.no_factor) S.no_term)) }))) S.no_stat) })); end_word = 0; end_name = 16; period = 0 } }

pub type_mismatch_134 : checked (type_mismatch_134_0 ∷ []) ≡ Fault 0 31 45
type_mismatch_134 = refl

-- MODULE M; VAR b: BOOLEAN; t: ARRAY 8 OF CHAR; BEGIN b := t = 41X END M.
abbrev type_mismatch_135_0 : Parsed
type_mismatch_135_0 = record { source = record { bytes = (77 ∷ 79 ∷ 68 ∷ 85 ∷ 76 ∷ 69 ∷ 32 ∷ 77 ∷ 59 ∷ 32 ∷ 86 ∷ 65 ∷ 82 ∷ 32 ∷ 98 ∷ 58 ∷ 32 ∷ 66 ∷ 79 ∷ 79 ∷ 76 ∷ 69 ∷ 65 ∷ 78 ∷ 59 ∷ 32 ∷ 116 ∷ 58 ∷ 32 ∷ 65 ∷ 82 ∷ 82 ∷ 65 ∷ 89 ∷ 32 ∷ 56 ∷ 32 ∷ 79 ∷ 70 ∷ 32 ∷ 67 ∷ 72 ∷ 65 ∷ 82 ∷ 59 ∷ 32 ∷ 66 ∷ 69 ∷ 71 ∷ 73 ∷ 78 ∷ 32 ∷ 98 ∷ 32 ∷ 58 ∷ 61 ∷ 32 ∷ 116 ∷ 32 ∷ 61 ∷ 32 ∷ 52 ∷ 49 ∷ 88 ∷ 32 ∷ 69 ∷ 78 ∷ 68 ∷ 32 ∷ 77 ∷ 46 ∷ []); symbols = (symbol (Ident) 0 6 ∷ symbol (Ident) 7 8 ∷ symbol (Ident) 8 9 ∷ symbol (Ident) 10 13 ∷ symbol (Ident) 14 15 ∷ symbol (Ident) 15 16 ∷ symbol (Ident) 17 24 ∷ symbol (Ident) 24 25 ∷ symbol (Ident) 26 27 ∷ symbol (Ident) 27 28 ∷ symbol (Ident) 29 34 ∷ symbol (Int (pos 8)) 35 36 ∷ symbol (Ident) 37 39 ∷ symbol (Ident) 40 44 ∷ symbol (Ident) 44 45 ∷ symbol (Ident) 46 51 ∷ symbol (Ident) 52 53 ∷ symbol (Ident) 54 56 ∷ symbol (Ident) 57 58 ∷ symbol (Ident) 59 60 ∷ symbol (TheKind.Char 65) 61 64 ∷ symbol (Ident) 65 68 ∷ symbol (Ident) 69 70 ∷ symbol (Ident) 70 71 ∷ []) }; tree = record { module_word = 0; name = 1; semicolon = 0; imports = None; decls = (S.decls None None (Some (record { var_word = 0; each = (record { names = (record { first = (record { name = 4; star = None }); more = [] }); colon = 0; of = (S.Named (record { name = 6; member = None })); semicolon = 0 } ∷ record { names = (record { first = (record { name = 8; star = None }); more = [] }); colon = 0; of = (S.Array 10 (S.only (S.simple None (S.term (S.Int 11) S.no_factor) S.no_term)) S.no_expression 0 (S.Named (record { name = 13; member = None }))); semicolon = 0 } ∷ []) })) S.no_procedure); body = (Some (record { begin_word = 0; stats = (S.stats (S.AssignOrCall (record { name = 16; selectors = S.no_selector }) (Some (record { becomes = 0; value = (S.compared (S.simple None (S.term (S.Designated 18 S.no_selector) S.no_factor) S.no_term) (TheRelation.Equal 19) (S.simple None (S.term (S.Char 20) S.no_factor) S.no_term)) }))) S.no_stat) })); end_word = 0; end_name = 22; period = 0 } }

pub type_mismatch_135 : checked (type_mismatch_135_0 ∷ []) ≡ Fault 0 31 59
type_mismatch_135 = refl

-- MODULE M; VAR i: INTEGER; PROCEDURE F(x: INTEGER): INTEGER; RETURN x END F; BEGIN i := F(1).x END M.
abbrev type_mismatch_136_0 : Parsed
type_mismatch_136_0 = record { source = record { bytes = (77 ∷ 79 ∷ 68 ∷ 85 ∷ 76 ∷ 69 ∷ 32 ∷ 77 ∷ 59 ∷ 32 ∷ 86 ∷ 65 ∷ 82 ∷ 32 ∷ 105 ∷ 58 ∷ 32 ∷ 73 ∷ 78 ∷ 84 ∷ 69 ∷ 71 ∷ 69 ∷ 82 ∷ 59 ∷ 32 ∷ 80 ∷ 82 ∷ 79 ∷ 67 ∷ 69 ∷ 68 ∷ 85 ∷ 82 ∷ 69 ∷ 32 ∷ 70 ∷ 40 ∷ 120 ∷ 58 ∷ 32 ∷ 73 ∷ 78 ∷ 84 ∷ 69 ∷ 71 ∷ 69 ∷ 82 ∷ 41 ∷ 58 ∷ 32 ∷ 73 ∷ 78 ∷ 84 ∷ 69 ∷ 71 ∷ 69 ∷ 82 ∷ 59 ∷ 32 ∷ 82 ∷ 69 ∷ 84 ∷ 85 ∷ 82 ∷ 78 ∷ 32 ∷ 120 ∷ 32 ∷ 69 ∷ 78 ∷ 68 ∷ 32 ∷ 70 ∷ 59 ∷ 32 ∷ 66 ∷ 69 ∷ 71 ∷ 73 ∷ 78 ∷ 32 ∷ 105 ∷ 32 ∷ 58 ∷ 61 ∷ 32 ∷ 70 ∷ 40 ∷ 49 ∷ 41 ∷ 46 ∷ 120 ∷ 32 ∷ 69 ∷ 78 ∷ 68 ∷ 32 ∷ 77 ∷ 46 ∷ []); symbols = (symbol (Ident) 0 6 ∷ symbol (Ident) 7 8 ∷ symbol (Ident) 8 9 ∷ symbol (Ident) 10 13 ∷ symbol (Ident) 14 15 ∷ symbol (Ident) 15 16 ∷ symbol (Ident) 17 24 ∷ symbol (Ident) 24 25 ∷ symbol (Ident) 26 35 ∷ symbol (Ident) 36 37 ∷ symbol (Ident) 37 38 ∷ symbol (Ident) 38 39 ∷ symbol (Ident) 39 40 ∷ symbol (Ident) 41 48 ∷ symbol (Ident) 48 49 ∷ symbol (Ident) 49 50 ∷ symbol (Ident) 51 58 ∷ symbol (Ident) 58 59 ∷ symbol (Ident) 60 66 ∷ symbol (Ident) 67 68 ∷ symbol (Ident) 69 72 ∷ symbol (Ident) 73 74 ∷ symbol (Ident) 74 75 ∷ symbol (Ident) 76 81 ∷ symbol (Ident) 82 83 ∷ symbol (Ident) 84 86 ∷ symbol (Ident) 87 88 ∷ symbol (Ident) 88 89 ∷ symbol (Int (pos 1)) 89 90 ∷ symbol (Ident) 90 91 ∷ symbol (Ident) 91 92 ∷ symbol (Ident) 92 93 ∷ symbol (Ident) 94 97 ∷ symbol (Ident) 98 99 ∷ symbol (Ident) 99 100 ∷ []) }; tree = record { module_word = 0; name = 1; semicolon = 0; imports = None; decls = (S.decls None None (Some (record { var_word = 0; each = (record { names = (record { first = (record { name = 4; star = None }); more = [] }); colon = 0; of = (S.Named (record { name = 6; member = None })); semicolon = 0 } ∷ []) })) (S.procedure 0 (record { name = 9; star = None }) (Some (record { left_paren = 0; sections = Some (record { first = (record { var_word = None; first = 11; more = []; colon = 0; open_array = None; of = (record { name = 13; member = None }) }); more = [] }); right_paren = 0; result = Some (record { colon = 0; name = (record { name = 16; member = None }) }) })) 0 (S.decls None None None S.no_procedure) None (Some (record { return_word = 18; value = (S.only (S.simple None (S.term (S.Designated 19 S.no_selector) S.no_factor) S.no_term)) })) 20 21 0 S.no_procedure)); body = (Some (record { begin_word = 0; stats = (S.stats (S.AssignOrCall (record { name = 24; selectors = S.no_selector }) (Some (record { becomes = 0; value = (S.only (S.simple None (S.term (S.Designated 26 (S.selected (S.Parens 0 (S.expressions (S.only (S.simple None (S.term (S.Int 28) S.no_factor) S.no_term)) S.no_expression) 0) (S.selected (S.Field 0 31) S.no_selector))) S.no_factor) S.no_term)) }))) S.no_stat) })); end_word = 0; end_name = 33; period = 0 } }

pub type_mismatch_136 : checked (type_mismatch_136_0 ∷ []) ≡ Fault 0 31 87
type_mismatch_136 = refl

-- MODULE M; PROCEDURE N; END N; BEGIN N()() END M.
abbrev type_mismatch_137_0 : Parsed
type_mismatch_137_0 = record { source = record { bytes = (77 ∷ 79 ∷ 68 ∷ 85 ∷ 76 ∷ 69 ∷ 32 ∷ 77 ∷ 59 ∷ 32 ∷ 80 ∷ 82 ∷ 79 ∷ 67 ∷ 69 ∷ 68 ∷ 85 ∷ 82 ∷ 69 ∷ 32 ∷ 78 ∷ 59 ∷ 32 ∷ 69 ∷ 78 ∷ 68 ∷ 32 ∷ 78 ∷ 59 ∷ 32 ∷ 66 ∷ 69 ∷ 71 ∷ 73 ∷ 78 ∷ 32 ∷ 78 ∷ 40 ∷ 41 ∷ 40 ∷ 41 ∷ 32 ∷ 69 ∷ 78 ∷ 68 ∷ 32 ∷ 77 ∷ 46 ∷ []); symbols = (symbol (Ident) 0 6 ∷ symbol (Ident) 7 8 ∷ symbol (Ident) 8 9 ∷ symbol (Ident) 10 19 ∷ symbol (Ident) 20 21 ∷ symbol (Ident) 21 22 ∷ symbol (Ident) 23 26 ∷ symbol (Ident) 27 28 ∷ symbol (Ident) 28 29 ∷ symbol (Ident) 30 35 ∷ symbol (Ident) 36 37 ∷ symbol (Ident) 37 38 ∷ symbol (Ident) 38 39 ∷ symbol (Ident) 39 40 ∷ symbol (Ident) 40 41 ∷ symbol (Ident) 42 45 ∷ symbol (Ident) 46 47 ∷ symbol (Ident) 47 48 ∷ []) }; tree = record { module_word = 0; name = 1; semicolon = 0; imports = None; decls = (S.decls None None None (S.procedure 0 (record { name = 4; star = None }) None 0 (S.decls None None None S.no_procedure) None None 6 7 0 S.no_procedure)); body = (Some (record { begin_word = 0; stats = (S.stats (S.AssignOrCall (record { name = 10; selectors = (S.selected (S.EmptyParens 0 0) (S.selected (S.EmptyParens 0 0) S.no_selector)) }) None) S.no_stat) })); end_word = 0; end_name = 16; period = 0 } }

pub type_mismatch_137 : checked (type_mismatch_137_0 ∷ []) ≡ Fault 0 31 36
type_mismatch_137 = refl

-- MODULE M; PROCEDURE F(x: INTEGER): INTEGER; RETURN x END F; BEGIN F(1).x := 2 END M.
abbrev type_mismatch_138_0 : Parsed
type_mismatch_138_0 = record { source = record { bytes = (77 ∷ 79 ∷ 68 ∷ 85 ∷ 76 ∷ 69 ∷ 32 ∷ 77 ∷ 59 ∷ 32 ∷ 80 ∷ 82 ∷ 79 ∷ 67 ∷ 69 ∷ 68 ∷ 85 ∷ 82 ∷ 69 ∷ 32 ∷ 70 ∷ 40 ∷ 120 ∷ 58 ∷ 32 ∷ 73 ∷ 78 ∷ 84 ∷ 69 ∷ 71 ∷ 69 ∷ 82 ∷ 41 ∷ 58 ∷ 32 ∷ 73 ∷ 78 ∷ 84 ∷ 69 ∷ 71 ∷ 69 ∷ 82 ∷ 59 ∷ 32 ∷ 82 ∷ 69 ∷ 84 ∷ 85 ∷ 82 ∷ 78 ∷ 32 ∷ 120 ∷ 32 ∷ 69 ∷ 78 ∷ 68 ∷ 32 ∷ 70 ∷ 59 ∷ 32 ∷ 66 ∷ 69 ∷ 71 ∷ 73 ∷ 78 ∷ 32 ∷ 70 ∷ 40 ∷ 49 ∷ 41 ∷ 46 ∷ 120 ∷ 32 ∷ 58 ∷ 61 ∷ 32 ∷ 50 ∷ 32 ∷ 69 ∷ 78 ∷ 68 ∷ 32 ∷ 77 ∷ 46 ∷ []); symbols = (symbol (Ident) 0 6 ∷ symbol (Ident) 7 8 ∷ symbol (Ident) 8 9 ∷ symbol (Ident) 10 19 ∷ symbol (Ident) 20 21 ∷ symbol (Ident) 21 22 ∷ symbol (Ident) 22 23 ∷ symbol (Ident) 23 24 ∷ symbol (Ident) 25 32 ∷ symbol (Ident) 32 33 ∷ symbol (Ident) 33 34 ∷ symbol (Ident) 35 42 ∷ symbol (Ident) 42 43 ∷ symbol (Ident) 44 50 ∷ symbol (Ident) 51 52 ∷ symbol (Ident) 53 56 ∷ symbol (Ident) 57 58 ∷ symbol (Ident) 58 59 ∷ symbol (Ident) 60 65 ∷ symbol (Ident) 66 67 ∷ symbol (Ident) 67 68 ∷ symbol (Int (pos 1)) 68 69 ∷ symbol (Ident) 69 70 ∷ symbol (Ident) 70 71 ∷ symbol (Ident) 71 72 ∷ symbol (Ident) 73 75 ∷ symbol (Int (pos 2)) 76 77 ∷ symbol (Ident) 78 81 ∷ symbol (Ident) 82 83 ∷ symbol (Ident) 83 84 ∷ []) }; tree = record { module_word = 0; name = 1; semicolon = 0; imports = None; decls = (S.decls None None None (S.procedure 0 (record { name = 4; star = None }) (Some (record { left_paren = 0; sections = Some (record { first = (record { var_word = None; first = 6; more = []; colon = 0; open_array = None; of = (record { name = 8; member = None }) }); more = [] }); right_paren = 0; result = Some (record { colon = 0; name = (record { name = 11; member = None }) }) })) 0 (S.decls None None None S.no_procedure) None (Some (record { return_word = 13; value = (S.only (S.simple None (S.term (S.Designated 14 S.no_selector) S.no_factor) S.no_term)) })) 15 16 0 S.no_procedure)); body = (Some (record { begin_word = 0; stats = (S.stats (S.AssignOrCall (record { name = 19; selectors = (S.selected (S.Parens 0 (S.expressions (S.only (S.simple None (S.term (S.Int 21) S.no_factor) S.no_term)) S.no_expression) 0) (S.selected (S.Field 0 24) S.no_selector)) }) (Some (record { becomes = 0; value = (S.only (S.simple None (S.term (S.Int 26) S.no_factor) S.no_term)) }))) S.no_stat) })); end_word = 0; end_name = 28; period = 0 } }

pub type_mismatch_138 : checked (type_mismatch_138_0 ∷ []) ≡ Fault 0 31 66
type_mismatch_138 = refl

-- MODULE M; VAR i: INTEGER; PROCEDURE F(x: INTEGER): INTEGER; RETURN x END F; BEGIN i := F(1)(2) END M.
abbrev type_mismatch_139_0 : Parsed
type_mismatch_139_0 = record { source = record { bytes = (77 ∷ 79 ∷ 68 ∷ 85 ∷ 76 ∷ 69 ∷ 32 ∷ 77 ∷ 59 ∷ 32 ∷ 86 ∷ 65 ∷ 82 ∷ 32 ∷ 105 ∷ 58 ∷ 32 ∷ 73 ∷ 78 ∷ 84 ∷ 69 ∷ 71 ∷ 69 ∷ 82 ∷ 59 ∷ 32 ∷ 80 ∷ 82 ∷ 79 ∷ 67 ∷ 69 ∷ 68 ∷ 85 ∷ 82 ∷ 69 ∷ 32 ∷ 70 ∷ 40 ∷ 120 ∷ 58 ∷ 32 ∷ 73 ∷ 78 ∷ 84 ∷ 69 ∷ 71 ∷ 69 ∷ 82 ∷ 41 ∷ 58 ∷ 32 ∷ 73 ∷ 78 ∷ 84 ∷ 69 ∷ 71 ∷ 69 ∷ 82 ∷ 59 ∷ 32 ∷ 82 ∷ 69 ∷ 84 ∷ 85 ∷ 82 ∷ 78 ∷ 32 ∷ 120 ∷ 32 ∷ 69 ∷ 78 ∷ 68 ∷ 32 ∷ 70 ∷ 59 ∷ 32 ∷ 66 ∷ 69 ∷ 71 ∷ 73 ∷ 78 ∷ 32 ∷ 105 ∷ 32 ∷ 58 ∷ 61 ∷ 32 ∷ 70 ∷ 40 ∷ 49 ∷ 41 ∷ 40 ∷ 50 ∷ 41 ∷ 32 ∷ 69 ∷ 78 ∷ 68 ∷ 32 ∷ 77 ∷ 46 ∷ []); symbols = (symbol (Ident) 0 6 ∷ symbol (Ident) 7 8 ∷ symbol (Ident) 8 9 ∷ symbol (Ident) 10 13 ∷ symbol (Ident) 14 15 ∷ symbol (Ident) 15 16 ∷ symbol (Ident) 17 24 ∷ symbol (Ident) 24 25 ∷ symbol (Ident) 26 35 ∷ symbol (Ident) 36 37 ∷ symbol (Ident) 37 38 ∷ symbol (Ident) 38 39 ∷ symbol (Ident) 39 40 ∷ symbol (Ident) 41 48 ∷ symbol (Ident) 48 49 ∷ symbol (Ident) 49 50 ∷ symbol (Ident) 51 58 ∷ symbol (Ident) 58 59 ∷ symbol (Ident) 60 66 ∷ symbol (Ident) 67 68 ∷ symbol (Ident) 69 72 ∷ symbol (Ident) 73 74 ∷ symbol (Ident) 74 75 ∷ symbol (Ident) 76 81 ∷ symbol (Ident) 82 83 ∷ symbol (Ident) 84 86 ∷ symbol (Ident) 87 88 ∷ symbol (Ident) 88 89 ∷ symbol (Int (pos 1)) 89 90 ∷ symbol (Ident) 90 91 ∷ symbol (Ident) 91 92 ∷ symbol (Int (pos 2)) 92 93 ∷ symbol (Ident) 93 94 ∷ symbol (Ident) 95 98 ∷ symbol (Ident) 99 100 ∷ symbol (Ident) 100 101 ∷ []) }; tree = record { module_word = 0; name = 1; semicolon = 0; imports = None; decls = (S.decls None None (Some (record { var_word = 0; each = (record { names = (record { first = (record { name = 4; star = None }); more = [] }); colon = 0; of = (S.Named (record { name = 6; member = None })); semicolon = 0 } ∷ []) })) (S.procedure 0 (record { name = 9; star = None }) (Some (record { left_paren = 0; sections = Some (record { first = (record { var_word = None; first = 11; more = []; colon = 0; open_array = None; of = (record { name = 13; member = None }) }); more = [] }); right_paren = 0; result = Some (record { colon = 0; name = (record { name = 16; member = None }) }) })) 0 (S.decls None None None S.no_procedure) None (Some (record { return_word = 18; value = (S.only (S.simple None (S.term (S.Designated 19 S.no_selector) S.no_factor) S.no_term)) })) 20 21 0 S.no_procedure)); body = (Some (record { begin_word = 0; stats = (S.stats (S.AssignOrCall (record { name = 24; selectors = S.no_selector }) (Some (record { becomes = 0; value = (S.only (S.simple None (S.term (S.Designated 26 (S.selected (S.Parens 0 (S.expressions (S.only (S.simple None (S.term (S.Int 28) S.no_factor) S.no_term)) S.no_expression) 0) (S.selected (S.Parens 0 (S.expressions (S.only (S.simple None (S.term (S.Int 31) S.no_factor) S.no_term)) S.no_expression) 0) S.no_selector))) S.no_factor) S.no_term)) }))) S.no_stat) })); end_word = 0; end_name = 34; period = 0 } }

pub type_mismatch_139 : checked (type_mismatch_139_0 ∷ []) ≡ Fault 0 31 87
type_mismatch_139 = refl

-- MODULE M; IMPORT Out; BEGIN Out.Ln()() END M.
abbrev type_mismatch_140_0 : Parsed
type_mismatch_140_0 = record { source = record { bytes = (77 ∷ 79 ∷ 68 ∷ 85 ∷ 76 ∷ 69 ∷ 32 ∷ 77 ∷ 59 ∷ 32 ∷ 73 ∷ 77 ∷ 80 ∷ 79 ∷ 82 ∷ 84 ∷ 32 ∷ 79 ∷ 117 ∷ 116 ∷ 59 ∷ 32 ∷ 66 ∷ 69 ∷ 71 ∷ 73 ∷ 78 ∷ 32 ∷ 79 ∷ 117 ∷ 116 ∷ 46 ∷ 76 ∷ 110 ∷ 40 ∷ 41 ∷ 40 ∷ 41 ∷ 32 ∷ 69 ∷ 78 ∷ 68 ∷ 32 ∷ 77 ∷ 46 ∷ []); symbols = (symbol (Ident) 0 6 ∷ symbol (Ident) 7 8 ∷ symbol (Ident) 8 9 ∷ symbol (Ident) 10 16 ∷ symbol (Ident) 17 20 ∷ symbol (Ident) 20 21 ∷ symbol (Ident) 22 27 ∷ symbol (Ident) 28 31 ∷ symbol (Ident) 31 32 ∷ symbol (Ident) 32 34 ∷ symbol (Ident) 34 35 ∷ symbol (Ident) 35 36 ∷ symbol (Ident) 36 37 ∷ symbol (Ident) 37 38 ∷ symbol (Ident) 39 42 ∷ symbol (Ident) 43 44 ∷ symbol (Ident) 44 45 ∷ []) }; tree = record { module_word = 0; name = 1; semicolon = 0; imports = Some (record { import_word = 0; first = (record { name = 4; of = None }); more = []; semicolon = 0 }); decls = (S.decls None None None S.no_procedure); body = (Some (record { begin_word = 0; stats = (S.stats (S.AssignOrCall (record { name = 7; selectors = (S.selected (S.Field 0 9) (S.selected (S.EmptyParens 0 0) (S.selected (S.EmptyParens 0 0) S.no_selector))) }) None) S.no_stat) })); end_word = 0; end_name = 15; period = 0 } }

pub type_mismatch_140 : checked (type_mismatch_140_0 ∷ []) ≡ Fault 0 31 28
type_mismatch_140 = refl

-- MODULE M; BEGIN ABS(1) END M.
abbrev type_mismatch_141_0 : Parsed
type_mismatch_141_0 = record { source = record { bytes = (77 ∷ 79 ∷ 68 ∷ 85 ∷ 76 ∷ 69 ∷ 32 ∷ 77 ∷ 59 ∷ 32 ∷ 66 ∷ 69 ∷ 71 ∷ 73 ∷ 78 ∷ 32 ∷ 65 ∷ 66 ∷ 83 ∷ 40 ∷ 49 ∷ 41 ∷ 32 ∷ 69 ∷ 78 ∷ 68 ∷ 32 ∷ 77 ∷ 46 ∷ []); symbols = (symbol (Ident) 0 6 ∷ symbol (Ident) 7 8 ∷ symbol (Ident) 8 9 ∷ symbol (Ident) 10 15 ∷ symbol (Ident) 16 19 ∷ symbol (Ident) 19 20 ∷ symbol (Int (pos 1)) 20 21 ∷ symbol (Ident) 21 22 ∷ symbol (Ident) 23 26 ∷ symbol (Ident) 27 28 ∷ symbol (Ident) 28 29 ∷ []) }; tree = record { module_word = 0; name = 1; semicolon = 0; imports = None; decls = (S.decls None None None S.no_procedure); body = (Some (record { begin_word = 0; stats = (S.stats (S.AssignOrCall (record { name = 4; selectors = (S.selected (S.Parens 0 (S.expressions (S.only (S.simple None (S.term (S.Int 6) S.no_factor) S.no_term)) S.no_expression) 0) S.no_selector) }) None) S.no_stat) })); end_word = 0; end_name = 9; period = 0 } }

pub type_mismatch_141 : checked (type_mismatch_141_0 ∷ []) ≡ Fault 0 31 16
type_mismatch_141 = refl

-- MODULE M; VAR i: INTEGER; BEGIN i := ABS.x END M.
abbrev type_mismatch_142_0 : Parsed
type_mismatch_142_0 = record { source = record { bytes = (77 ∷ 79 ∷ 68 ∷ 85 ∷ 76 ∷ 69 ∷ 32 ∷ 77 ∷ 59 ∷ 32 ∷ 86 ∷ 65 ∷ 82 ∷ 32 ∷ 105 ∷ 58 ∷ 32 ∷ 73 ∷ 78 ∷ 84 ∷ 69 ∷ 71 ∷ 69 ∷ 82 ∷ 59 ∷ 32 ∷ 66 ∷ 69 ∷ 71 ∷ 73 ∷ 78 ∷ 32 ∷ 105 ∷ 32 ∷ 58 ∷ 61 ∷ 32 ∷ 65 ∷ 66 ∷ 83 ∷ 46 ∷ 120 ∷ 32 ∷ 69 ∷ 78 ∷ 68 ∷ 32 ∷ 77 ∷ 46 ∷ []); symbols = (symbol (Ident) 0 6 ∷ symbol (Ident) 7 8 ∷ symbol (Ident) 8 9 ∷ symbol (Ident) 10 13 ∷ symbol (Ident) 14 15 ∷ symbol (Ident) 15 16 ∷ symbol (Ident) 17 24 ∷ symbol (Ident) 24 25 ∷ symbol (Ident) 26 31 ∷ symbol (Ident) 32 33 ∷ symbol (Ident) 34 36 ∷ symbol (Ident) 37 40 ∷ symbol (Ident) 40 41 ∷ symbol (Ident) 41 42 ∷ symbol (Ident) 43 46 ∷ symbol (Ident) 47 48 ∷ symbol (Ident) 48 49 ∷ []) }; tree = record { module_word = 0; name = 1; semicolon = 0; imports = None; decls = (S.decls None None (Some (record { var_word = 0; each = (record { names = (record { first = (record { name = 4; star = None }); more = [] }); colon = 0; of = (S.Named (record { name = 6; member = None })); semicolon = 0 } ∷ []) })) S.no_procedure); body = (Some (record { begin_word = 0; stats = (S.stats (S.AssignOrCall (record { name = 9; selectors = S.no_selector }) (Some (record { becomes = 0; value = (S.only (S.simple None (S.term (S.Designated 11 (S.selected (S.Field 0 13) S.no_selector)) S.no_factor) S.no_term)) }))) S.no_stat) })); end_word = 0; end_name = 15; period = 0 } }

pub type_mismatch_142 : checked (type_mismatch_142_0 ∷ []) ≡ Fault 0 31 37
type_mismatch_142 = refl

-- MODULE M; VAR i: INTEGER; BEGIN i := ABS[1] END M.
abbrev type_mismatch_143_0 : Parsed
type_mismatch_143_0 = record { source = record { bytes = (77 ∷ 79 ∷ 68 ∷ 85 ∷ 76 ∷ 69 ∷ 32 ∷ 77 ∷ 59 ∷ 32 ∷ 86 ∷ 65 ∷ 82 ∷ 32 ∷ 105 ∷ 58 ∷ 32 ∷ 73 ∷ 78 ∷ 84 ∷ 69 ∷ 71 ∷ 69 ∷ 82 ∷ 59 ∷ 32 ∷ 66 ∷ 69 ∷ 71 ∷ 73 ∷ 78 ∷ 32 ∷ 105 ∷ 32 ∷ 58 ∷ 61 ∷ 32 ∷ 65 ∷ 66 ∷ 83 ∷ 91 ∷ 49 ∷ 93 ∷ 32 ∷ 69 ∷ 78 ∷ 68 ∷ 32 ∷ 77 ∷ 46 ∷ []); symbols = (symbol (Ident) 0 6 ∷ symbol (Ident) 7 8 ∷ symbol (Ident) 8 9 ∷ symbol (Ident) 10 13 ∷ symbol (Ident) 14 15 ∷ symbol (Ident) 15 16 ∷ symbol (Ident) 17 24 ∷ symbol (Ident) 24 25 ∷ symbol (Ident) 26 31 ∷ symbol (Ident) 32 33 ∷ symbol (Ident) 34 36 ∷ symbol (Ident) 37 40 ∷ symbol (Ident) 40 41 ∷ symbol (Int (pos 1)) 41 42 ∷ symbol (Ident) 42 43 ∷ symbol (Ident) 44 47 ∷ symbol (Ident) 48 49 ∷ symbol (Ident) 49 50 ∷ []) }; tree = record { module_word = 0; name = 1; semicolon = 0; imports = None; decls = (S.decls None None (Some (record { var_word = 0; each = (record { names = (record { first = (record { name = 4; star = None }); more = [] }); colon = 0; of = (S.Named (record { name = 6; member = None })); semicolon = 0 } ∷ []) })) S.no_procedure); body = (Some (record { begin_word = 0; stats = (S.stats (S.AssignOrCall (record { name = 9; selectors = S.no_selector }) (Some (record { becomes = 0; value = (S.only (S.simple None (S.term (S.Designated 11 (S.selected (S.Index 0 (S.expressions (S.only (S.simple None (S.term (S.Int 13) S.no_factor) S.no_term)) S.no_expression) 0) S.no_selector)) S.no_factor) S.no_term)) }))) S.no_stat) })); end_word = 0; end_name = 16; period = 0 } }

pub type_mismatch_143 : checked (type_mismatch_143_0 ∷ []) ≡ Fault 0 31 37
type_mismatch_143 = refl

-- MODULE M; IMPORT Out; VAR i: INTEGER; BEGIN i := Out.Int END M.
abbrev type_mismatch_144_0 : Parsed
type_mismatch_144_0 = record { source = record { bytes = (77 ∷ 79 ∷ 68 ∷ 85 ∷ 76 ∷ 69 ∷ 32 ∷ 77 ∷ 59 ∷ 32 ∷ 73 ∷ 77 ∷ 80 ∷ 79 ∷ 82 ∷ 84 ∷ 32 ∷ 79 ∷ 117 ∷ 116 ∷ 59 ∷ 32 ∷ 86 ∷ 65 ∷ 82 ∷ 32 ∷ 105 ∷ 58 ∷ 32 ∷ 73 ∷ 78 ∷ 84 ∷ 69 ∷ 71 ∷ 69 ∷ 82 ∷ 59 ∷ 32 ∷ 66 ∷ 69 ∷ 71 ∷ 73 ∷ 78 ∷ 32 ∷ 105 ∷ 32 ∷ 58 ∷ 61 ∷ 32 ∷ 79 ∷ 117 ∷ 116 ∷ 46 ∷ 73 ∷ 110 ∷ 116 ∷ 32 ∷ 69 ∷ 78 ∷ 68 ∷ 32 ∷ 77 ∷ 46 ∷ []); symbols = (symbol (Ident) 0 6 ∷ symbol (Ident) 7 8 ∷ symbol (Ident) 8 9 ∷ symbol (Ident) 10 16 ∷ symbol (Ident) 17 20 ∷ symbol (Ident) 20 21 ∷ symbol (Ident) 22 25 ∷ symbol (Ident) 26 27 ∷ symbol (Ident) 27 28 ∷ symbol (Ident) 29 36 ∷ symbol (Ident) 36 37 ∷ symbol (Ident) 38 43 ∷ symbol (Ident) 44 45 ∷ symbol (Ident) 46 48 ∷ symbol (Ident) 49 52 ∷ symbol (Ident) 52 53 ∷ symbol (Ident) 53 56 ∷ symbol (Ident) 57 60 ∷ symbol (Ident) 61 62 ∷ symbol (Ident) 62 63 ∷ []) }; tree = record { module_word = 0; name = 1; semicolon = 0; imports = Some (record { import_word = 0; first = (record { name = 4; of = None }); more = []; semicolon = 0 }); decls = (S.decls None None (Some (record { var_word = 0; each = (record { names = (record { first = (record { name = 7; star = None }); more = [] }); colon = 0; of = (S.Named (record { name = 9; member = None })); semicolon = 0 } ∷ []) })) S.no_procedure); body = (Some (record { begin_word = 0; stats = (S.stats (S.AssignOrCall (record { name = 12; selectors = S.no_selector }) (Some (record { becomes = 0; value = (S.only (S.simple None (S.term (S.Designated 14 (S.selected (S.Field 0 16) S.no_selector)) S.no_factor) S.no_term)) }))) S.no_stat) })); end_word = 0; end_name = 18; period = 0 } }

pub type_mismatch_144 : checked (type_mismatch_144_0 ∷ []) ≡ Fault 0 31 49
type_mismatch_144 = refl

-- MODULE M; TYPE R = RECORD x: INTEGER; y*: CHAR END; P = POINTER TO R; VAR i: INTEGER; p: P; BEGIN i := NEW(p) END M.
abbrev type_mismatch_145_0 : Parsed
type_mismatch_145_0 = record { source = record { bytes = (77 ∷ 79 ∷ 68 ∷ 85 ∷ 76 ∷ 69 ∷ 32 ∷ 77 ∷ 59 ∷ 32 ∷ 84 ∷ 89 ∷ 80 ∷ 69 ∷ 32 ∷ 82 ∷ 32 ∷ 61 ∷ 32 ∷ 82 ∷ 69 ∷ 67 ∷ 79 ∷ 82 ∷ 68 ∷ 32 ∷ 120 ∷ 58 ∷ 32 ∷ 73 ∷ 78 ∷ 84 ∷ 69 ∷ 71 ∷ 69 ∷ 82 ∷ 59 ∷ 32 ∷ 121 ∷ 42 ∷ 58 ∷ 32 ∷ 67 ∷ 72 ∷ 65 ∷ 82 ∷ 32 ∷ 69 ∷ 78 ∷ 68 ∷ 59 ∷ 32 ∷ 80 ∷ 32 ∷ 61 ∷ 32 ∷ 80 ∷ 79 ∷ 73 ∷ 78 ∷ 84 ∷ 69 ∷ 82 ∷ 32 ∷ 84 ∷ 79 ∷ 32 ∷ 82 ∷ 59 ∷ 32 ∷ 86 ∷ 65 ∷ 82 ∷ 32 ∷ 105 ∷ 58 ∷ 32 ∷ 73 ∷ 78 ∷ 84 ∷ 69 ∷ 71 ∷ 69 ∷ 82 ∷ 59 ∷ 32 ∷ 112 ∷ 58 ∷ 32 ∷ 80 ∷ 59 ∷ 32 ∷ 66 ∷ 69 ∷ 71 ∷ 73 ∷ 78 ∷ 32 ∷ 105 ∷ 32 ∷ 58 ∷ 61 ∷ 32 ∷ 78 ∷ 69 ∷ 87 ∷ 40 ∷ 112 ∷ 41 ∷ 32 ∷ 69 ∷ 78 ∷ 68 ∷ 32 ∷ 77 ∷ 46 ∷ []); symbols = (symbol (Ident) 0 6 ∷ symbol (Ident) 7 8 ∷ symbol (Ident) 8 9 ∷ symbol (Ident) 10 14 ∷ symbol (Ident) 15 16 ∷ symbol (Ident) 17 18 ∷ symbol (Ident) 19 25 ∷ symbol (Ident) 26 27 ∷ symbol (Ident) 27 28 ∷ symbol (Ident) 29 36 ∷ symbol (Ident) 36 37 ∷ symbol (Ident) 38 39 ∷ symbol (Ident) 39 40 ∷ symbol (Ident) 40 41 ∷ symbol (Ident) 42 46 ∷ symbol (Ident) 47 50 ∷ symbol (Ident) 50 51 ∷ symbol (Ident) 52 53 ∷ symbol (Ident) 54 55 ∷ symbol (Ident) 56 63 ∷ symbol (Ident) 64 66 ∷ symbol (Ident) 67 68 ∷ symbol (Ident) 68 69 ∷ symbol (Ident) 70 73 ∷ symbol (Ident) 74 75 ∷ symbol (Ident) 75 76 ∷ symbol (Ident) 77 84 ∷ symbol (Ident) 84 85 ∷ symbol (Ident) 86 87 ∷ symbol (Ident) 87 88 ∷ symbol (Ident) 89 90 ∷ symbol (Ident) 90 91 ∷ symbol (Ident) 92 97 ∷ symbol (Ident) 98 99 ∷ symbol (Ident) 100 102 ∷ symbol (Ident) 103 106 ∷ symbol (Ident) 106 107 ∷ symbol (Ident) 107 108 ∷ symbol (Ident) 108 109 ∷ symbol (Ident) 110 113 ∷ symbol (Ident) 114 115 ∷ symbol (Ident) 115 116 ∷ []) }; tree = record { module_word = 0; name = 1; semicolon = 0; imports = None; decls = (S.decls None (Some (record { type_word = 0; each = (record { name = (record { name = 4; star = None }); equal = 0; is = (S.Record 6 None (S.fields (record { first = (record { name = 7; star = None }); more = [] }) 0 (S.Named (record { name = 9; member = None }))) (S.next_fields 0 (S.fields (record { first = (record { name = 11; star = Some 0 }); more = [] }) 0 (S.Named (record { name = 14; member = None }))) S.no_more_fields) 0); semicolon = 0 } ∷ record { name = (record { name = 17; star = None }); equal = 0; is = (S.Pointer 19 0 (S.Named (record { name = 21; member = None }))); semicolon = 0 } ∷ []) })) (Some (record { var_word = 0; each = (record { names = (record { first = (record { name = 24; star = None }); more = [] }); colon = 0; of = (S.Named (record { name = 26; member = None })); semicolon = 0 } ∷ record { names = (record { first = (record { name = 28; star = None }); more = [] }); colon = 0; of = (S.Named (record { name = 30; member = None })); semicolon = 0 } ∷ []) })) S.no_procedure); body = (Some (record { begin_word = 0; stats = (S.stats (S.AssignOrCall (record { name = 33; selectors = S.no_selector }) (Some (record { becomes = 0; value = (S.only (S.simple None (S.term (S.Designated 35 (S.selected (S.Parens 0 (S.expressions (S.only (S.simple None (S.term (S.Designated 37 S.no_selector) S.no_factor) S.no_term)) S.no_expression) 0) S.no_selector)) S.no_factor) S.no_term)) }))) S.no_stat) })); end_word = 0; end_name = 40; period = 0 } }

pub type_mismatch_145 : checked (type_mismatch_145_0 ∷ []) ≡ Fault 0 31 103
type_mismatch_145 = refl

-- MODULE M; VAR b: BOOLEAN; c: CHAR; PROCEDURE N; END N; BEGIN b := c & N END M.
abbrev type_mismatch_146_0 : Parsed
type_mismatch_146_0 = record { source = record { bytes = (77 ∷ 79 ∷ 68 ∷ 85 ∷ 76 ∷ 69 ∷ 32 ∷ 77 ∷ 59 ∷ 32 ∷ 86 ∷ 65 ∷ 82 ∷ 32 ∷ 98 ∷ 58 ∷ 32 ∷ 66 ∷ 79 ∷ 79 ∷ 76 ∷ 69 ∷ 65 ∷ 78 ∷ 59 ∷ 32 ∷ 99 ∷ 58 ∷ 32 ∷ 67 ∷ 72 ∷ 65 ∷ 82 ∷ 59 ∷ 32 ∷ 80 ∷ 82 ∷ 79 ∷ 67 ∷ 69 ∷ 68 ∷ 85 ∷ 82 ∷ 69 ∷ 32 ∷ 78 ∷ 59 ∷ 32 ∷ 69 ∷ 78 ∷ 68 ∷ 32 ∷ 78 ∷ 59 ∷ 32 ∷ 66 ∷ 69 ∷ 71 ∷ 73 ∷ 78 ∷ 32 ∷ 98 ∷ 32 ∷ 58 ∷ 61 ∷ 32 ∷ 99 ∷ 32 ∷ 38 ∷ 32 ∷ 78 ∷ 32 ∷ 69 ∷ 78 ∷ 68 ∷ 32 ∷ 77 ∷ 46 ∷ []); symbols = (symbol (Ident) 0 6 ∷ symbol (Ident) 7 8 ∷ symbol (Ident) 8 9 ∷ symbol (Ident) 10 13 ∷ symbol (Ident) 14 15 ∷ symbol (Ident) 15 16 ∷ symbol (Ident) 17 24 ∷ symbol (Ident) 24 25 ∷ symbol (Ident) 26 27 ∷ symbol (Ident) 27 28 ∷ symbol (Ident) 29 33 ∷ symbol (Ident) 33 34 ∷ symbol (Ident) 35 44 ∷ symbol (Ident) 45 46 ∷ symbol (Ident) 46 47 ∷ symbol (Ident) 48 51 ∷ symbol (Ident) 52 53 ∷ symbol (Ident) 53 54 ∷ symbol (Ident) 55 60 ∷ symbol (Ident) 61 62 ∷ symbol (Ident) 63 65 ∷ symbol (Ident) 66 67 ∷ symbol (Ident) 68 69 ∷ symbol (Ident) 70 71 ∷ symbol (Ident) 72 75 ∷ symbol (Ident) 76 77 ∷ symbol (Ident) 77 78 ∷ []) }; tree = record { module_word = 0; name = 1; semicolon = 0; imports = None; decls = (S.decls None None (Some (record { var_word = 0; each = (record { names = (record { first = (record { name = 4; star = None }); more = [] }); colon = 0; of = (S.Named (record { name = 6; member = None })); semicolon = 0 } ∷ record { names = (record { first = (record { name = 8; star = None }); more = [] }); colon = 0; of = (S.Named (record { name = 10; member = None })); semicolon = 0 } ∷ []) })) (S.procedure 0 (record { name = 13; star = None }) None 0 (S.decls None None None S.no_procedure) None None 15 16 0 S.no_procedure)); body = (Some (record { begin_word = 0; stats = (S.stats (S.AssignOrCall (record { name = 19; selectors = S.no_selector }) (Some (record { becomes = 0; value = (S.only (S.simple None (S.term (S.Designated 21 S.no_selector) (S.multiplied (TheMulOperator.And 22) (S.Designated 23 S.no_selector) S.no_factor)) S.no_term)) }))) S.no_stat) })); end_word = 0; end_name = 25; period = 0 } }

pub type_mismatch_146 : checked (type_mismatch_146_0 ∷ []) ≡ Fault 0 31 68
type_mismatch_146 = refl

-- MODULE M; VAR i: INTEGER; PROCEDURE F(x: INTEGER): INTEGER; RETURN x END F; BEGIN i := F END M.
abbrev type_mismatch_147_0 : Parsed
type_mismatch_147_0 = record { source = record { bytes = (77 ∷ 79 ∷ 68 ∷ 85 ∷ 76 ∷ 69 ∷ 32 ∷ 77 ∷ 59 ∷ 32 ∷ 86 ∷ 65 ∷ 82 ∷ 32 ∷ 105 ∷ 58 ∷ 32 ∷ 73 ∷ 78 ∷ 84 ∷ 69 ∷ 71 ∷ 69 ∷ 82 ∷ 59 ∷ 32 ∷ 80 ∷ 82 ∷ 79 ∷ 67 ∷ 69 ∷ 68 ∷ 85 ∷ 82 ∷ 69 ∷ 32 ∷ 70 ∷ 40 ∷ 120 ∷ 58 ∷ 32 ∷ 73 ∷ 78 ∷ 84 ∷ 69 ∷ 71 ∷ 69 ∷ 82 ∷ 41 ∷ 58 ∷ 32 ∷ 73 ∷ 78 ∷ 84 ∷ 69 ∷ 71 ∷ 69 ∷ 82 ∷ 59 ∷ 32 ∷ 82 ∷ 69 ∷ 84 ∷ 85 ∷ 82 ∷ 78 ∷ 32 ∷ 120 ∷ 32 ∷ 69 ∷ 78 ∷ 68 ∷ 32 ∷ 70 ∷ 59 ∷ 32 ∷ 66 ∷ 69 ∷ 71 ∷ 73 ∷ 78 ∷ 32 ∷ 105 ∷ 32 ∷ 58 ∷ 61 ∷ 32 ∷ 70 ∷ 32 ∷ 69 ∷ 78 ∷ 68 ∷ 32 ∷ 77 ∷ 46 ∷ []); symbols = (symbol (Ident) 0 6 ∷ symbol (Ident) 7 8 ∷ symbol (Ident) 8 9 ∷ symbol (Ident) 10 13 ∷ symbol (Ident) 14 15 ∷ symbol (Ident) 15 16 ∷ symbol (Ident) 17 24 ∷ symbol (Ident) 24 25 ∷ symbol (Ident) 26 35 ∷ symbol (Ident) 36 37 ∷ symbol (Ident) 37 38 ∷ symbol (Ident) 38 39 ∷ symbol (Ident) 39 40 ∷ symbol (Ident) 41 48 ∷ symbol (Ident) 48 49 ∷ symbol (Ident) 49 50 ∷ symbol (Ident) 51 58 ∷ symbol (Ident) 58 59 ∷ symbol (Ident) 60 66 ∷ symbol (Ident) 67 68 ∷ symbol (Ident) 69 72 ∷ symbol (Ident) 73 74 ∷ symbol (Ident) 74 75 ∷ symbol (Ident) 76 81 ∷ symbol (Ident) 82 83 ∷ symbol (Ident) 84 86 ∷ symbol (Ident) 87 88 ∷ symbol (Ident) 89 92 ∷ symbol (Ident) 93 94 ∷ symbol (Ident) 94 95 ∷ []) }; tree = record { module_word = 0; name = 1; semicolon = 0; imports = None; decls = (S.decls None None (Some (record { var_word = 0; each = (record { names = (record { first = (record { name = 4; star = None }); more = [] }); colon = 0; of = (S.Named (record { name = 6; member = None })); semicolon = 0 } ∷ []) })) (S.procedure 0 (record { name = 9; star = None }) (Some (record { left_paren = 0; sections = Some (record { first = (record { var_word = None; first = 11; more = []; colon = 0; open_array = None; of = (record { name = 13; member = None }) }); more = [] }); right_paren = 0; result = Some (record { colon = 0; name = (record { name = 16; member = None }) }) })) 0 (S.decls None None None S.no_procedure) None (Some (record { return_word = 18; value = (S.only (S.simple None (S.term (S.Designated 19 S.no_selector) S.no_factor) S.no_term)) })) 20 21 0 S.no_procedure)); body = (Some (record { begin_word = 0; stats = (S.stats (S.AssignOrCall (record { name = 24; selectors = S.no_selector }) (Some (record { becomes = 0; value = (S.only (S.simple None (S.term (S.Designated 26 S.no_selector) S.no_factor) S.no_term)) }))) S.no_stat) })); end_word = 0; end_name = 28; period = 0 } }

pub type_mismatch_147 : checked (type_mismatch_147_0 ∷ []) ≡ Fault 0 31 87
type_mismatch_147 = refl

-- MODULE M; PROCEDURE N; END N; BEGIN N.x END M.
abbrev type_mismatch_148_0 : Parsed
type_mismatch_148_0 = record { source = record { bytes = (77 ∷ 79 ∷ 68 ∷ 85 ∷ 76 ∷ 69 ∷ 32 ∷ 77 ∷ 59 ∷ 32 ∷ 80 ∷ 82 ∷ 79 ∷ 67 ∷ 69 ∷ 68 ∷ 85 ∷ 82 ∷ 69 ∷ 32 ∷ 78 ∷ 59 ∷ 32 ∷ 69 ∷ 78 ∷ 68 ∷ 32 ∷ 78 ∷ 59 ∷ 32 ∷ 66 ∷ 69 ∷ 71 ∷ 73 ∷ 78 ∷ 32 ∷ 78 ∷ 46 ∷ 120 ∷ 32 ∷ 69 ∷ 78 ∷ 68 ∷ 32 ∷ 77 ∷ 46 ∷ []); symbols = (symbol (Ident) 0 6 ∷ symbol (Ident) 7 8 ∷ symbol (Ident) 8 9 ∷ symbol (Ident) 10 19 ∷ symbol (Ident) 20 21 ∷ symbol (Ident) 21 22 ∷ symbol (Ident) 23 26 ∷ symbol (Ident) 27 28 ∷ symbol (Ident) 28 29 ∷ symbol (Ident) 30 35 ∷ symbol (Ident) 36 37 ∷ symbol (Ident) 37 38 ∷ symbol (Ident) 38 39 ∷ symbol (Ident) 40 43 ∷ symbol (Ident) 44 45 ∷ symbol (Ident) 45 46 ∷ []) }; tree = record { module_word = 0; name = 1; semicolon = 0; imports = None; decls = (S.decls None None None (S.procedure 0 (record { name = 4; star = None }) None 0 (S.decls None None None S.no_procedure) None None 6 7 0 S.no_procedure)); body = (Some (record { begin_word = 0; stats = (S.stats (S.AssignOrCall (record { name = 10; selectors = (S.selected (S.Field 0 12) S.no_selector) }) None) S.no_stat) })); end_word = 0; end_name = 14; period = 0 } }

pub type_mismatch_148 : checked (type_mismatch_148_0 ∷ []) ≡ Fault 0 31 36
type_mismatch_148 = refl

-- MODULE M; TYPE R = RECORD x: INTEGER; y*: CHAR END; E = RECORD (R) z: SET END; P = POINTER TO R; Q = POINTER TO E; VAR i: INTEGER; p: P; BEGIN i := p(Q) END M.
abbrev type_mismatch_149_0 : Parsed
type_mismatch_149_0 = record { source = record { bytes = (77 ∷ 79 ∷ 68 ∷ 85 ∷ 76 ∷ 69 ∷ 32 ∷ 77 ∷ 59 ∷ 32 ∷ 84 ∷ 89 ∷ 80 ∷ 69 ∷ 32 ∷ 82 ∷ 32 ∷ 61 ∷ 32 ∷ 82 ∷ 69 ∷ 67 ∷ 79 ∷ 82 ∷ 68 ∷ 32 ∷ 120 ∷ 58 ∷ 32 ∷ 73 ∷ 78 ∷ 84 ∷ 69 ∷ 71 ∷ 69 ∷ 82 ∷ 59 ∷ 32 ∷ 121 ∷ 42 ∷ 58 ∷ 32 ∷ 67 ∷ 72 ∷ 65 ∷ 82 ∷ 32 ∷ 69 ∷ 78 ∷ 68 ∷ 59 ∷ 32 ∷ 69 ∷ 32 ∷ 61 ∷ 32 ∷ 82 ∷ 69 ∷ 67 ∷ 79 ∷ 82 ∷ 68 ∷ 32 ∷ 40 ∷ 82 ∷ 41 ∷ 32 ∷ 122 ∷ 58 ∷ 32 ∷ 83 ∷ 69 ∷ 84 ∷ 32 ∷ 69 ∷ 78 ∷ 68 ∷ 59 ∷ 32 ∷ 80 ∷ 32 ∷ 61 ∷ 32 ∷ 80 ∷ 79 ∷ 73 ∷ 78 ∷ 84 ∷ 69 ∷ 82 ∷ 32 ∷ 84 ∷ 79 ∷ 32 ∷ 82 ∷ 59 ∷ 32 ∷ 81 ∷ 32 ∷ 61 ∷ 32 ∷ 80 ∷ 79 ∷ 73 ∷ 78 ∷ 84 ∷ 69 ∷ 82 ∷ 32 ∷ 84 ∷ 79 ∷ 32 ∷ 69 ∷ 59 ∷ 32 ∷ 86 ∷ 65 ∷ 82 ∷ 32 ∷ 105 ∷ 58 ∷ 32 ∷ 73 ∷ 78 ∷ 84 ∷ 69 ∷ 71 ∷ 69 ∷ 82 ∷ 59 ∷ 32 ∷ 112 ∷ 58 ∷ 32 ∷ 80 ∷ 59 ∷ 32 ∷ 66 ∷ 69 ∷ 71 ∷ 73 ∷ 78 ∷ 32 ∷ 105 ∷ 32 ∷ 58 ∷ 61 ∷ 32 ∷ 112 ∷ 40 ∷ 81 ∷ 41 ∷ 32 ∷ 69 ∷ 78 ∷ 68 ∷ 32 ∷ 77 ∷ 46 ∷ []); symbols = (symbol (Ident) 0 6 ∷ symbol (Ident) 7 8 ∷ symbol (Ident) 8 9 ∷ symbol (Ident) 10 14 ∷ symbol (Ident) 15 16 ∷ symbol (Ident) 17 18 ∷ symbol (Ident) 19 25 ∷ symbol (Ident) 26 27 ∷ symbol (Ident) 27 28 ∷ symbol (Ident) 29 36 ∷ symbol (Ident) 36 37 ∷ symbol (Ident) 38 39 ∷ symbol (Ident) 39 40 ∷ symbol (Ident) 40 41 ∷ symbol (Ident) 42 46 ∷ symbol (Ident) 47 50 ∷ symbol (Ident) 50 51 ∷ symbol (Ident) 52 53 ∷ symbol (Ident) 54 55 ∷ symbol (Ident) 56 62 ∷ symbol (Ident) 63 64 ∷ symbol (Ident) 64 65 ∷ symbol (Ident) 65 66 ∷ symbol (Ident) 67 68 ∷ symbol (Ident) 68 69 ∷ symbol (Ident) 70 73 ∷ symbol (Ident) 74 77 ∷ symbol (Ident) 77 78 ∷ symbol (Ident) 79 80 ∷ symbol (Ident) 81 82 ∷ symbol (Ident) 83 90 ∷ symbol (Ident) 91 93 ∷ symbol (Ident) 94 95 ∷ symbol (Ident) 95 96 ∷ symbol (Ident) 97 98 ∷ symbol (Ident) 99 100 ∷ symbol (Ident) 101 108 ∷ symbol (Ident) 109 111 ∷ symbol (Ident) 112 113 ∷ symbol (Ident) 113 114 ∷ symbol (Ident) 115 118 ∷ symbol (Ident) 119 120 ∷ symbol (Ident) 120 121 ∷ symbol (Ident) 122 129 ∷ symbol (Ident) 129 130 ∷ symbol (Ident) 131 132 ∷ symbol (Ident) 132 133 ∷ symbol (Ident) 134 135 ∷ symbol (Ident) 135 136 ∷ symbol (Ident) 137 142 ∷ symbol (Ident) 143 144 ∷ symbol (Ident) 145 147 ∷ symbol (Ident) 148 149 ∷ symbol (Ident) 149 150 ∷ symbol (Ident) 150 151 ∷ symbol (Ident) 151 152 ∷ symbol (Ident) 153 156 ∷ symbol (Ident) 157 158 ∷ symbol (Ident) 158 159 ∷ []) }; tree = record { module_word = 0; name = 1; semicolon = 0; imports = None; decls = (S.decls None (Some (record { type_word = 0; each = (record { name = (record { name = 4; star = None }); equal = 0; is = (S.Record 6 None (S.fields (record { first = (record { name = 7; star = None }); more = [] }) 0 (S.Named (record { name = 9; member = None }))) (S.next_fields 0 (S.fields (record { first = (record { name = 11; star = Some 0 }); more = [] }) 0 (S.Named (record { name = 14; member = None }))) S.no_more_fields) 0); semicolon = 0 } ∷ record { name = (record { name = 17; star = None }); equal = 0; is = (S.Record 19 (Some (record { left_paren = 0; name = (record { name = 21; member = None }); right_paren = 0 })) (S.fields (record { first = (record { name = 23; star = None }); more = [] }) 0 (S.Named (record { name = 25; member = None }))) S.no_more_fields 0); semicolon = 0 } ∷ record { name = (record { name = 28; star = None }); equal = 0; is = (S.Pointer 30 0 (S.Named (record { name = 32; member = None }))); semicolon = 0 } ∷ record { name = (record { name = 34; star = None }); equal = 0; is = (S.Pointer 36 0 (S.Named (record { name = 38; member = None }))); semicolon = 0 } ∷ []) })) (Some (record { var_word = 0; each = (record { names = (record { first = (record { name = 41; star = None }); more = [] }); colon = 0; of = (S.Named (record { name = 43; member = None })); semicolon = 0 } ∷ record { names = (record { first = (record { name = 45; star = None }); more = [] }); colon = 0; of = (S.Named (record { name = 47; member = None })); semicolon = 0 } ∷ []) })) S.no_procedure); body = (Some (record { begin_word = 0; stats = (S.stats (S.AssignOrCall (record { name = 50; selectors = S.no_selector }) (Some (record { becomes = 0; value = (S.only (S.simple None (S.term (S.Designated 52 (S.selected (S.Parens 0 (S.expressions (S.only (S.simple None (S.term (S.Designated 54 S.no_selector) S.no_factor) S.no_term)) S.no_expression) 0) S.no_selector)) S.no_factor) S.no_term)) }))) S.no_stat) })); end_word = 0; end_name = 57; period = 0 } }

pub type_mismatch_149 : checked (type_mismatch_149_0 ∷ []) ≡ Fault 0 31 148
type_mismatch_149 = refl

-- MODULE M; VAR f: PROCEDURE (x: INTEGER): INTEGER; BEGIN f.x := 1 END M.
abbrev type_mismatch_150_0 : Parsed
type_mismatch_150_0 = record { source = record { bytes = (77 ∷ 79 ∷ 68 ∷ 85 ∷ 76 ∷ 69 ∷ 32 ∷ 77 ∷ 59 ∷ 32 ∷ 86 ∷ 65 ∷ 82 ∷ 32 ∷ 102 ∷ 58 ∷ 32 ∷ 80 ∷ 82 ∷ 79 ∷ 67 ∷ 69 ∷ 68 ∷ 85 ∷ 82 ∷ 69 ∷ 32 ∷ 40 ∷ 120 ∷ 58 ∷ 32 ∷ 73 ∷ 78 ∷ 84 ∷ 69 ∷ 71 ∷ 69 ∷ 82 ∷ 41 ∷ 58 ∷ 32 ∷ 73 ∷ 78 ∷ 84 ∷ 69 ∷ 71 ∷ 69 ∷ 82 ∷ 59 ∷ 32 ∷ 66 ∷ 69 ∷ 71 ∷ 73 ∷ 78 ∷ 32 ∷ 102 ∷ 46 ∷ 120 ∷ 32 ∷ 58 ∷ 61 ∷ 32 ∷ 49 ∷ 32 ∷ 69 ∷ 78 ∷ 68 ∷ 32 ∷ 77 ∷ 46 ∷ []); symbols = (symbol (Ident) 0 6 ∷ symbol (Ident) 7 8 ∷ symbol (Ident) 8 9 ∷ symbol (Ident) 10 13 ∷ symbol (Ident) 14 15 ∷ symbol (Ident) 15 16 ∷ symbol (Ident) 17 26 ∷ symbol (Ident) 27 28 ∷ symbol (Ident) 28 29 ∷ symbol (Ident) 29 30 ∷ symbol (Ident) 31 38 ∷ symbol (Ident) 38 39 ∷ symbol (Ident) 39 40 ∷ symbol (Ident) 41 48 ∷ symbol (Ident) 48 49 ∷ symbol (Ident) 50 55 ∷ symbol (Ident) 56 57 ∷ symbol (Ident) 57 58 ∷ symbol (Ident) 58 59 ∷ symbol (Ident) 60 62 ∷ symbol (Int (pos 1)) 63 64 ∷ symbol (Ident) 65 68 ∷ symbol (Ident) 69 70 ∷ symbol (Ident) 70 71 ∷ []) }; tree = record { module_word = 0; name = 1; semicolon = 0; imports = None; decls = (S.decls None None (Some (record { var_word = 0; each = (record { names = (record { first = (record { name = 4; star = None }); more = [] }); colon = 0; of = (S.Procedure 6 (Some (record { left_paren = 0; sections = Some (record { first = (record { var_word = None; first = 8; more = []; colon = 0; open_array = None; of = (record { name = 10; member = None }) }); more = [] }); right_paren = 0; result = Some (record { colon = 0; name = (record { name = 13; member = None }) }) }))); semicolon = 0 } ∷ []) })) S.no_procedure); body = (Some (record { begin_word = 0; stats = (S.stats (S.AssignOrCall (record { name = 16; selectors = (S.selected (S.Field 0 18) S.no_selector) }) (Some (record { becomes = 0; value = (S.only (S.simple None (S.term (S.Int 20) S.no_factor) S.no_term)) }))) S.no_stat) })); end_word = 0; end_name = 22; period = 0 } }

pub type_mismatch_150 : checked (type_mismatch_150_0 ∷ []) ≡ Fault 0 31 56
type_mismatch_150 = refl

-- MODULE M; VAR i: INTEGER; PROCEDURE N; END N; BEGIN i := -N END M.
abbrev type_mismatch_151_0 : Parsed
type_mismatch_151_0 = record { source = record { bytes = (77 ∷ 79 ∷ 68 ∷ 85 ∷ 76 ∷ 69 ∷ 32 ∷ 77 ∷ 59 ∷ 32 ∷ 86 ∷ 65 ∷ 82 ∷ 32 ∷ 105 ∷ 58 ∷ 32 ∷ 73 ∷ 78 ∷ 84 ∷ 69 ∷ 71 ∷ 69 ∷ 82 ∷ 59 ∷ 32 ∷ 80 ∷ 82 ∷ 79 ∷ 67 ∷ 69 ∷ 68 ∷ 85 ∷ 82 ∷ 69 ∷ 32 ∷ 78 ∷ 59 ∷ 32 ∷ 69 ∷ 78 ∷ 68 ∷ 32 ∷ 78 ∷ 59 ∷ 32 ∷ 66 ∷ 69 ∷ 71 ∷ 73 ∷ 78 ∷ 32 ∷ 105 ∷ 32 ∷ 58 ∷ 61 ∷ 32 ∷ 45 ∷ 78 ∷ 32 ∷ 69 ∷ 78 ∷ 68 ∷ 32 ∷ 77 ∷ 46 ∷ []); symbols = (symbol (Ident) 0 6 ∷ symbol (Ident) 7 8 ∷ symbol (Ident) 8 9 ∷ symbol (Ident) 10 13 ∷ symbol (Ident) 14 15 ∷ symbol (Ident) 15 16 ∷ symbol (Ident) 17 24 ∷ symbol (Ident) 24 25 ∷ symbol (Ident) 26 35 ∷ symbol (Ident) 36 37 ∷ symbol (Ident) 37 38 ∷ symbol (Ident) 39 42 ∷ symbol (Ident) 43 44 ∷ symbol (Ident) 44 45 ∷ symbol (Ident) 46 51 ∷ symbol (Ident) 52 53 ∷ symbol (Ident) 54 56 ∷ symbol (Ident) 57 58 ∷ symbol (Ident) 58 59 ∷ symbol (Ident) 60 63 ∷ symbol (Ident) 64 65 ∷ symbol (Ident) 65 66 ∷ []) }; tree = record { module_word = 0; name = 1; semicolon = 0; imports = None; decls = (S.decls None None (Some (record { var_word = 0; each = (record { names = (record { first = (record { name = 4; star = None }); more = [] }); colon = 0; of = (S.Named (record { name = 6; member = None })); semicolon = 0 } ∷ []) })) (S.procedure 0 (record { name = 9; star = None }) None 0 (S.decls None None None S.no_procedure) None None 11 12 0 S.no_procedure)); body = (Some (record { begin_word = 0; stats = (S.stats (S.AssignOrCall (record { name = 15; selectors = S.no_selector }) (Some (record { becomes = 0; value = (S.only (S.simple (Some (TheSign.Minus 17)) (S.term (S.Designated 18 S.no_selector) S.no_factor) S.no_term)) }))) S.no_stat) })); end_word = 0; end_name = 20; period = 0 } }

pub type_mismatch_151 : checked (type_mismatch_151_0 ∷ []) ≡ Fault 0 31 57
type_mismatch_151 = refl

-- MODULE M; VAR i: INTEGER; BEGIN i := {1} END M.
abbrev type_mismatch_152_0 : Parsed
type_mismatch_152_0 = record { source = record { bytes = (77 ∷ 79 ∷ 68 ∷ 85 ∷ 76 ∷ 69 ∷ 32 ∷ 77 ∷ 59 ∷ 32 ∷ 86 ∷ 65 ∷ 82 ∷ 32 ∷ 105 ∷ 58 ∷ 32 ∷ 73 ∷ 78 ∷ 84 ∷ 69 ∷ 71 ∷ 69 ∷ 82 ∷ 59 ∷ 32 ∷ 66 ∷ 69 ∷ 71 ∷ 73 ∷ 78 ∷ 32 ∷ 105 ∷ 32 ∷ 58 ∷ 61 ∷ 32 ∷ 123 ∷ 49 ∷ 125 ∷ 32 ∷ 69 ∷ 78 ∷ 68 ∷ 32 ∷ 77 ∷ 46 ∷ []); symbols = (symbol (Ident) 0 6 ∷ symbol (Ident) 7 8 ∷ symbol (Ident) 8 9 ∷ symbol (Ident) 10 13 ∷ symbol (Ident) 14 15 ∷ symbol (Ident) 15 16 ∷ symbol (Ident) 17 24 ∷ symbol (Ident) 24 25 ∷ symbol (Ident) 26 31 ∷ symbol (Ident) 32 33 ∷ symbol (Ident) 34 36 ∷ symbol (Ident) 37 38 ∷ symbol (Int (pos 1)) 38 39 ∷ symbol (Ident) 39 40 ∷ symbol (Ident) 41 44 ∷ symbol (Ident) 45 46 ∷ symbol (Ident) 46 47 ∷ []) }; tree = record { module_word = 0; name = 1; semicolon = 0; imports = None; decls = (S.decls None None (Some (record { var_word = 0; each = (record { names = (record { first = (record { name = 4; star = None }); more = [] }); colon = 0; of = (S.Named (record { name = 6; member = None })); semicolon = 0 } ∷ []) })) S.no_procedure); body = (Some (record { begin_word = 0; stats = (S.stats (S.AssignOrCall (record { name = 9; selectors = S.no_selector }) (Some (record { becomes = 0; value = (S.only (S.simple None (S.term (S.Set 11 (S.one (S.only (S.simple None (S.term (S.Int 12) S.no_factor) S.no_term))) S.no_element 0) S.no_factor) S.no_term)) }))) S.no_stat) })); end_word = 0; end_name = 15; period = 0 } }

pub type_mismatch_152 : checked (type_mismatch_152_0 ∷ []) ≡ Fault 0 31 37
type_mismatch_152 = refl

-- MODULE M; VAR i: INTEGER; BEGIN i := NIL END M.
abbrev type_mismatch_153_0 : Parsed
type_mismatch_153_0 = record { source = record { bytes = (77 ∷ 79 ∷ 68 ∷ 85 ∷ 76 ∷ 69 ∷ 32 ∷ 77 ∷ 59 ∷ 32 ∷ 86 ∷ 65 ∷ 82 ∷ 32 ∷ 105 ∷ 58 ∷ 32 ∷ 73 ∷ 78 ∷ 84 ∷ 69 ∷ 71 ∷ 69 ∷ 82 ∷ 59 ∷ 32 ∷ 66 ∷ 69 ∷ 71 ∷ 73 ∷ 78 ∷ 32 ∷ 105 ∷ 32 ∷ 58 ∷ 61 ∷ 32 ∷ 78 ∷ 73 ∷ 76 ∷ 32 ∷ 69 ∷ 78 ∷ 68 ∷ 32 ∷ 77 ∷ 46 ∷ []); symbols = (symbol (Ident) 0 6 ∷ symbol (Ident) 7 8 ∷ symbol (Ident) 8 9 ∷ symbol (Ident) 10 13 ∷ symbol (Ident) 14 15 ∷ symbol (Ident) 15 16 ∷ symbol (Ident) 17 24 ∷ symbol (Ident) 24 25 ∷ symbol (Ident) 26 31 ∷ symbol (Ident) 32 33 ∷ symbol (Ident) 34 36 ∷ symbol (Ident) 37 40 ∷ symbol (Ident) 41 44 ∷ symbol (Ident) 45 46 ∷ symbol (Ident) 46 47 ∷ []) }; tree = record { module_word = 0; name = 1; semicolon = 0; imports = None; decls = (S.decls None None (Some (record { var_word = 0; each = (record { names = (record { first = (record { name = 4; star = None }); more = [] }); colon = 0; of = (S.Named (record { name = 6; member = None })); semicolon = 0 } ∷ []) })) S.no_procedure); body = (Some (record { begin_word = 0; stats = (S.stats (S.AssignOrCall (record { name = 9; selectors = S.no_selector }) (Some (record { becomes = 0; value = (S.only (S.simple None (S.term (S.Nil 11) S.no_factor) S.no_term)) }))) S.no_stat) })); end_word = 0; end_name = 13; period = 0 } }

pub type_mismatch_153 : checked (type_mismatch_153_0 ∷ []) ≡ Fault 0 31 37
type_mismatch_153 = refl

-- MODULE M; VAR i: INTEGER; b: BOOLEAN; BEGIN b := i = NIL END M.
abbrev type_mismatch_154_0 : Parsed
type_mismatch_154_0 = record { source = record { bytes = (77 ∷ 79 ∷ 68 ∷ 85 ∷ 76 ∷ 69 ∷ 32 ∷ 77 ∷ 59 ∷ 32 ∷ 86 ∷ 65 ∷ 82 ∷ 32 ∷ 105 ∷ 58 ∷ 32 ∷ 73 ∷ 78 ∷ 84 ∷ 69 ∷ 71 ∷ 69 ∷ 82 ∷ 59 ∷ 32 ∷ 98 ∷ 58 ∷ 32 ∷ 66 ∷ 79 ∷ 79 ∷ 76 ∷ 69 ∷ 65 ∷ 78 ∷ 59 ∷ 32 ∷ 66 ∷ 69 ∷ 71 ∷ 73 ∷ 78 ∷ 32 ∷ 98 ∷ 32 ∷ 58 ∷ 61 ∷ 32 ∷ 105 ∷ 32 ∷ 61 ∷ 32 ∷ 78 ∷ 73 ∷ 76 ∷ 32 ∷ 69 ∷ 78 ∷ 68 ∷ 32 ∷ 77 ∷ 46 ∷ []); symbols = (symbol (Ident) 0 6 ∷ symbol (Ident) 7 8 ∷ symbol (Ident) 8 9 ∷ symbol (Ident) 10 13 ∷ symbol (Ident) 14 15 ∷ symbol (Ident) 15 16 ∷ symbol (Ident) 17 24 ∷ symbol (Ident) 24 25 ∷ symbol (Ident) 26 27 ∷ symbol (Ident) 27 28 ∷ symbol (Ident) 29 36 ∷ symbol (Ident) 36 37 ∷ symbol (Ident) 38 43 ∷ symbol (Ident) 44 45 ∷ symbol (Ident) 46 48 ∷ symbol (Ident) 49 50 ∷ symbol (Ident) 51 52 ∷ symbol (Ident) 53 56 ∷ symbol (Ident) 57 60 ∷ symbol (Ident) 61 62 ∷ symbol (Ident) 62 63 ∷ []) }; tree = record { module_word = 0; name = 1; semicolon = 0; imports = None; decls = (S.decls None None (Some (record { var_word = 0; each = (record { names = (record { first = (record { name = 4; star = None }); more = [] }); colon = 0; of = (S.Named (record { name = 6; member = None })); semicolon = 0 } ∷ record { names = (record { first = (record { name = 8; star = None }); more = [] }); colon = 0; of = (S.Named (record { name = 10; member = None })); semicolon = 0 } ∷ []) })) S.no_procedure); body = (Some (record { begin_word = 0; stats = (S.stats (S.AssignOrCall (record { name = 13; selectors = S.no_selector }) (Some (record { becomes = 0; value = (S.compared (S.simple None (S.term (S.Designated 15 S.no_selector) S.no_factor) S.no_term) (TheRelation.Equal 16) (S.simple None (S.term (S.Nil 17) S.no_factor) S.no_term)) }))) S.no_stat) })); end_word = 0; end_name = 19; period = 0 } }

pub type_mismatch_154 : checked (type_mismatch_154_0 ∷ []) ≡ Fault 0 31 51
type_mismatch_154 = refl

-- MODULE M; VAR c: CHAR; BEGIN c := ''ab'' END M.
abbrev type_mismatch_155_0 : Parsed
type_mismatch_155_0 = record { source = record { bytes = (77 ∷ 79 ∷ 68 ∷ 85 ∷ 76 ∷ 69 ∷ 32 ∷ 77 ∷ 59 ∷ 32 ∷ 86 ∷ 65 ∷ 82 ∷ 32 ∷ 99 ∷ 58 ∷ 32 ∷ 67 ∷ 72 ∷ 65 ∷ 82 ∷ 59 ∷ 32 ∷ 66 ∷ 69 ∷ 71 ∷ 73 ∷ 78 ∷ 32 ∷ 99 ∷ 32 ∷ 58 ∷ 61 ∷ 32 ∷ 34 ∷ 97 ∷ 98 ∷ 34 ∷ 32 ∷ 69 ∷ 78 ∷ 68 ∷ 32 ∷ 77 ∷ 46 ∷ []); symbols = (symbol (Ident) 0 6 ∷ symbol (Ident) 7 8 ∷ symbol (Ident) 8 9 ∷ symbol (Ident) 10 13 ∷ symbol (Ident) 14 15 ∷ symbol (Ident) 15 16 ∷ symbol (Ident) 17 21 ∷ symbol (Ident) 21 22 ∷ symbol (Ident) 23 28 ∷ symbol (Ident) 29 30 ∷ symbol (Ident) 31 33 ∷ symbol (TheKind.Text) 34 38 ∷ symbol (Ident) 39 42 ∷ symbol (Ident) 43 44 ∷ symbol (Ident) 44 45 ∷ []) }; tree = record { module_word = 0; name = 1; semicolon = 0; imports = None; decls = (S.decls None None (Some (record { var_word = 0; each = (record { names = (record { first = (record { name = 4; star = None }); more = [] }); colon = 0; of = (S.Named (record { name = 6; member = None })); semicolon = 0 } ∷ []) })) S.no_procedure); body = (Some (record { begin_word = 0; stats = (S.stats (S.AssignOrCall (record { name = 9; selectors = S.no_selector }) (Some (record { becomes = 0; value = (S.only (S.simple None (S.term (S.Text 11) S.no_factor) S.no_term)) }))) S.no_stat) })); end_word = 0; end_name = 13; period = 0 } }

pub type_mismatch_155 : checked (type_mismatch_155_0 ∷ []) ≡ Fault 0 31 34
type_mismatch_155 = refl

-- MODULE M; VAR c: CHAR; BEGIN c := '''' END M.
abbrev type_mismatch_156_0 : Parsed
type_mismatch_156_0 = record { source = record { bytes = (77 ∷ 79 ∷ 68 ∷ 85 ∷ 76 ∷ 69 ∷ 32 ∷ 77 ∷ 59 ∷ 32 ∷ 86 ∷ 65 ∷ 82 ∷ 32 ∷ 99 ∷ 58 ∷ 32 ∷ 67 ∷ 72 ∷ 65 ∷ 82 ∷ 59 ∷ 32 ∷ 66 ∷ 69 ∷ 71 ∷ 73 ∷ 78 ∷ 32 ∷ 99 ∷ 32 ∷ 58 ∷ 61 ∷ 32 ∷ 34 ∷ 34 ∷ 32 ∷ 69 ∷ 78 ∷ 68 ∷ 32 ∷ 77 ∷ 46 ∷ []); symbols = (symbol (Ident) 0 6 ∷ symbol (Ident) 7 8 ∷ symbol (Ident) 8 9 ∷ symbol (Ident) 10 13 ∷ symbol (Ident) 14 15 ∷ symbol (Ident) 15 16 ∷ symbol (Ident) 17 21 ∷ symbol (Ident) 21 22 ∷ symbol (Ident) 23 28 ∷ symbol (Ident) 29 30 ∷ symbol (Ident) 31 33 ∷ symbol (TheKind.Text) 34 36 ∷ symbol (Ident) 37 40 ∷ symbol (Ident) 41 42 ∷ symbol (Ident) 42 43 ∷ []) }; tree = record { module_word = 0; name = 1; semicolon = 0; imports = None; decls = (S.decls None None (Some (record { var_word = 0; each = (record { names = (record { first = (record { name = 4; star = None }); more = [] }); colon = 0; of = (S.Named (record { name = 6; member = None })); semicolon = 0 } ∷ []) })) S.no_procedure); body = (Some (record { begin_word = 0; stats = (S.stats (S.AssignOrCall (record { name = 9; selectors = S.no_selector }) (Some (record { becomes = 0; value = (S.only (S.simple None (S.term (S.Text 11) S.no_factor) S.no_term)) }))) S.no_stat) })); end_word = 0; end_name = 13; period = 0 } }

pub type_mismatch_156 : checked (type_mismatch_156_0 ∷ []) ≡ Fault 0 31 34
type_mismatch_156 = refl

-- MODULE M; TYPE R = RECORD x: INTEGER; y*: CHAR END; P = POINTER TO R; VAR p: P; BEGIN p := 0 END M.
abbrev type_mismatch_157_0 : Parsed
type_mismatch_157_0 = record { source = record { bytes = (77 ∷ 79 ∷ 68 ∷ 85 ∷ 76 ∷ 69 ∷ 32 ∷ 77 ∷ 59 ∷ 32 ∷ 84 ∷ 89 ∷ 80 ∷ 69 ∷ 32 ∷ 82 ∷ 32 ∷ 61 ∷ 32 ∷ 82 ∷ 69 ∷ 67 ∷ 79 ∷ 82 ∷ 68 ∷ 32 ∷ 120 ∷ 58 ∷ 32 ∷ 73 ∷ 78 ∷ 84 ∷ 69 ∷ 71 ∷ 69 ∷ 82 ∷ 59 ∷ 32 ∷ 121 ∷ 42 ∷ 58 ∷ 32 ∷ 67 ∷ 72 ∷ 65 ∷ 82 ∷ 32 ∷ 69 ∷ 78 ∷ 68 ∷ 59 ∷ 32 ∷ 80 ∷ 32 ∷ 61 ∷ 32 ∷ 80 ∷ 79 ∷ 73 ∷ 78 ∷ 84 ∷ 69 ∷ 82 ∷ 32 ∷ 84 ∷ 79 ∷ 32 ∷ 82 ∷ 59 ∷ 32 ∷ 86 ∷ 65 ∷ 82 ∷ 32 ∷ 112 ∷ 58 ∷ 32 ∷ 80 ∷ 59 ∷ 32 ∷ 66 ∷ 69 ∷ 71 ∷ 73 ∷ 78 ∷ 32 ∷ 112 ∷ 32 ∷ 58 ∷ 61 ∷ 32 ∷ 48 ∷ 32 ∷ 69 ∷ 78 ∷ 68 ∷ 32 ∷ 77 ∷ 46 ∷ []); symbols = (symbol (Ident) 0 6 ∷ symbol (Ident) 7 8 ∷ symbol (Ident) 8 9 ∷ symbol (Ident) 10 14 ∷ symbol (Ident) 15 16 ∷ symbol (Ident) 17 18 ∷ symbol (Ident) 19 25 ∷ symbol (Ident) 26 27 ∷ symbol (Ident) 27 28 ∷ symbol (Ident) 29 36 ∷ symbol (Ident) 36 37 ∷ symbol (Ident) 38 39 ∷ symbol (Ident) 39 40 ∷ symbol (Ident) 40 41 ∷ symbol (Ident) 42 46 ∷ symbol (Ident) 47 50 ∷ symbol (Ident) 50 51 ∷ symbol (Ident) 52 53 ∷ symbol (Ident) 54 55 ∷ symbol (Ident) 56 63 ∷ symbol (Ident) 64 66 ∷ symbol (Ident) 67 68 ∷ symbol (Ident) 68 69 ∷ symbol (Ident) 70 73 ∷ symbol (Ident) 74 75 ∷ symbol (Ident) 75 76 ∷ symbol (Ident) 77 78 ∷ symbol (Ident) 78 79 ∷ symbol (Ident) 80 85 ∷ symbol (Ident) 86 87 ∷ symbol (Ident) 88 90 ∷ symbol (Int (pos 0)) 91 92 ∷ symbol (Ident) 93 96 ∷ symbol (Ident) 97 98 ∷ symbol (Ident) 98 99 ∷ []) }; tree = record { module_word = 0; name = 1; semicolon = 0; imports = None; decls = (S.decls None (Some (record { type_word = 0; each = (record { name = (record { name = 4; star = None }); equal = 0; is = (S.Record 6 None (S.fields (record { first = (record { name = 7; star = None }); more = [] }) 0 (S.Named (record { name = 9; member = None }))) (S.next_fields 0 (S.fields (record { first = (record { name = 11; star = Some 0 }); more = [] }) 0 (S.Named (record { name = 14; member = None }))) S.no_more_fields) 0); semicolon = 0 } ∷ record { name = (record { name = 17; star = None }); equal = 0; is = (S.Pointer 19 0 (S.Named (record { name = 21; member = None }))); semicolon = 0 } ∷ []) })) (Some (record { var_word = 0; each = (record { names = (record { first = (record { name = 24; star = None }); more = [] }); colon = 0; of = (S.Named (record { name = 26; member = None })); semicolon = 0 } ∷ []) })) S.no_procedure); body = (Some (record { begin_word = 0; stats = (S.stats (S.AssignOrCall (record { name = 29; selectors = S.no_selector }) (Some (record { becomes = 0; value = (S.only (S.simple None (S.term (S.Int 31) S.no_factor) S.no_term)) }))) S.no_stat) })); end_word = 0; end_name = 33; period = 0 } }

pub type_mismatch_157 : checked (type_mismatch_157_0 ∷ []) ≡ Fault 0 31 91
type_mismatch_157 = refl

-- MODULE M; TYPE R = RECORD x: INTEGER; y*: CHAR END; E = RECORD (R) z: SET END; P = POINTER TO R; Q = POINTER TO E; VAR q: Q; BEGIN q(P).x := 1 END M.
abbrev type_mismatch_158_0 : Parsed
type_mismatch_158_0 = record { source = record { bytes = (77 ∷ 79 ∷ 68 ∷ 85 ∷ 76 ∷ 69 ∷ 32 ∷ 77 ∷ 59 ∷ 32 ∷ 84 ∷ 89 ∷ 80 ∷ 69 ∷ 32 ∷ 82 ∷ 32 ∷ 61 ∷ 32 ∷ 82 ∷ 69 ∷ 67 ∷ 79 ∷ 82 ∷ 68 ∷ 32 ∷ 120 ∷ 58 ∷ 32 ∷ 73 ∷ 78 ∷ 84 ∷ 69 ∷ 71 ∷ 69 ∷ 82 ∷ 59 ∷ 32 ∷ 121 ∷ 42 ∷ 58 ∷ 32 ∷ 67 ∷ 72 ∷ 65 ∷ 82 ∷ 32 ∷ 69 ∷ 78 ∷ 68 ∷ 59 ∷ 32 ∷ 69 ∷ 32 ∷ 61 ∷ 32 ∷ 82 ∷ 69 ∷ 67 ∷ 79 ∷ 82 ∷ 68 ∷ 32 ∷ 40 ∷ 82 ∷ 41 ∷ 32 ∷ 122 ∷ 58 ∷ 32 ∷ 83 ∷ 69 ∷ 84 ∷ 32 ∷ 69 ∷ 78 ∷ 68 ∷ 59 ∷ 32 ∷ 80 ∷ 32 ∷ 61 ∷ 32 ∷ 80 ∷ 79 ∷ 73 ∷ 78 ∷ 84 ∷ 69 ∷ 82 ∷ 32 ∷ 84 ∷ 79 ∷ 32 ∷ 82 ∷ 59 ∷ 32 ∷ 81 ∷ 32 ∷ 61 ∷ 32 ∷ 80 ∷ 79 ∷ 73 ∷ 78 ∷ 84 ∷ 69 ∷ 82 ∷ 32 ∷ 84 ∷ 79 ∷ 32 ∷ 69 ∷ 59 ∷ 32 ∷ 86 ∷ 65 ∷ 82 ∷ 32 ∷ 113 ∷ 58 ∷ 32 ∷ 81 ∷ 59 ∷ 32 ∷ 66 ∷ 69 ∷ 71 ∷ 73 ∷ 78 ∷ 32 ∷ 113 ∷ 40 ∷ 80 ∷ 41 ∷ 46 ∷ 120 ∷ 32 ∷ 58 ∷ 61 ∷ 32 ∷ 49 ∷ 32 ∷ 69 ∷ 78 ∷ 68 ∷ 32 ∷ 77 ∷ 46 ∷ []); symbols = (symbol (Ident) 0 6 ∷ symbol (Ident) 7 8 ∷ symbol (Ident) 8 9 ∷ symbol (Ident) 10 14 ∷ symbol (Ident) 15 16 ∷ symbol (Ident) 17 18 ∷ symbol (Ident) 19 25 ∷ symbol (Ident) 26 27 ∷ symbol (Ident) 27 28 ∷ symbol (Ident) 29 36 ∷ symbol (Ident) 36 37 ∷ symbol (Ident) 38 39 ∷ symbol (Ident) 39 40 ∷ symbol (Ident) 40 41 ∷ symbol (Ident) 42 46 ∷ symbol (Ident) 47 50 ∷ symbol (Ident) 50 51 ∷ symbol (Ident) 52 53 ∷ symbol (Ident) 54 55 ∷ symbol (Ident) 56 62 ∷ symbol (Ident) 63 64 ∷ symbol (Ident) 64 65 ∷ symbol (Ident) 65 66 ∷ symbol (Ident) 67 68 ∷ symbol (Ident) 68 69 ∷ symbol (Ident) 70 73 ∷ symbol (Ident) 74 77 ∷ symbol (Ident) 77 78 ∷ symbol (Ident) 79 80 ∷ symbol (Ident) 81 82 ∷ symbol (Ident) 83 90 ∷ symbol (Ident) 91 93 ∷ symbol (Ident) 94 95 ∷ symbol (Ident) 95 96 ∷ symbol (Ident) 97 98 ∷ symbol (Ident) 99 100 ∷ symbol (Ident) 101 108 ∷ symbol (Ident) 109 111 ∷ symbol (Ident) 112 113 ∷ symbol (Ident) 113 114 ∷ symbol (Ident) 115 118 ∷ symbol (Ident) 119 120 ∷ symbol (Ident) 120 121 ∷ symbol (Ident) 122 123 ∷ symbol (Ident) 123 124 ∷ symbol (Ident) 125 130 ∷ symbol (Ident) 131 132 ∷ symbol (Ident) 132 133 ∷ symbol (Ident) 133 134 ∷ symbol (Ident) 134 135 ∷ symbol (Ident) 135 136 ∷ symbol (Ident) 136 137 ∷ symbol (Ident) 138 140 ∷ symbol (Int (pos 1)) 141 142 ∷ symbol (Ident) 143 146 ∷ symbol (Ident) 147 148 ∷ symbol (Ident) 148 149 ∷ []) }; tree = record { module_word = 0; name = 1; semicolon = 0; imports = None; decls = (S.decls None (Some (record { type_word = 0; each = (record { name = (record { name = 4; star = None }); equal = 0; is = (S.Record 6 None (S.fields (record { first = (record { name = 7; star = None }); more = [] }) 0 (S.Named (record { name = 9; member = None }))) (S.next_fields 0 (S.fields (record { first = (record { name = 11; star = Some 0 }); more = [] }) 0 (S.Named (record { name = 14; member = None }))) S.no_more_fields) 0); semicolon = 0 } ∷ record { name = (record { name = 17; star = None }); equal = 0; is = (S.Record 19 (Some (record { left_paren = 0; name = (record { name = 21; member = None }); right_paren = 0 })) (S.fields (record { first = (record { name = 23; star = None }); more = [] }) 0 (S.Named (record { name = 25; member = None }))) S.no_more_fields 0); semicolon = 0 } ∷ record { name = (record { name = 28; star = None }); equal = 0; is = (S.Pointer 30 0 (S.Named (record { name = 32; member = None }))); semicolon = 0 } ∷ record { name = (record { name = 34; star = None }); equal = 0; is = (S.Pointer 36 0 (S.Named (record { name = 38; member = None }))); semicolon = 0 } ∷ []) })) (Some (record { var_word = 0; each = (record { names = (record { first = (record { name = 41; star = None }); more = [] }); colon = 0; of = (S.Named (record { name = 43; member = None })); semicolon = 0 } ∷ []) })) S.no_procedure); body = (Some (record { begin_word = 0; stats = (S.stats (S.AssignOrCall (record { name = 46; selectors = (S.selected (S.Parens 0 (S.expressions (S.only (S.simple None (S.term (S.Designated 48 S.no_selector) S.no_factor) S.no_term)) S.no_expression) 0) (S.selected (S.Field 0 51) S.no_selector)) }) (Some (record { becomes = 0; value = (S.only (S.simple None (S.term (S.Int 53) S.no_factor) S.no_term)) }))) S.no_stat) })); end_word = 0; end_name = 55; period = 0 } }

pub type_mismatch_158 : checked (type_mismatch_158_0 ∷ []) ≡ Fault 0 31 131
type_mismatch_158 = refl

-- MODULE M; TYPE T = POINTER TO INTEGER; END M.
abbrev type_mismatch_159_0 : Parsed
type_mismatch_159_0 = record { source = record { bytes = (77 ∷ 79 ∷ 68 ∷ 85 ∷ 76 ∷ 69 ∷ 32 ∷ 77 ∷ 59 ∷ 32 ∷ 84 ∷ 89 ∷ 80 ∷ 69 ∷ 32 ∷ 84 ∷ 32 ∷ 61 ∷ 32 ∷ 80 ∷ 79 ∷ 73 ∷ 78 ∷ 84 ∷ 69 ∷ 82 ∷ 32 ∷ 84 ∷ 79 ∷ 32 ∷ 73 ∷ 78 ∷ 84 ∷ 69 ∷ 71 ∷ 69 ∷ 82 ∷ 59 ∷ 32 ∷ 69 ∷ 78 ∷ 68 ∷ 32 ∷ 77 ∷ 46 ∷ []); symbols = (symbol (Ident) 0 6 ∷ symbol (Ident) 7 8 ∷ symbol (Ident) 8 9 ∷ symbol (Ident) 10 14 ∷ symbol (Ident) 15 16 ∷ symbol (Ident) 17 18 ∷ symbol (Ident) 19 26 ∷ symbol (Ident) 27 29 ∷ symbol (Ident) 30 37 ∷ symbol (Ident) 37 38 ∷ symbol (Ident) 39 42 ∷ symbol (Ident) 43 44 ∷ symbol (Ident) 44 45 ∷ []) }; tree = record { module_word = 0; name = 1; semicolon = 0; imports = None; decls = (S.decls None (Some (record { type_word = 0; each = (record { name = (record { name = 4; star = None }); equal = 0; is = (S.Pointer 6 0 (S.Named (record { name = 8; member = None }))); semicolon = 0 } ∷ []) })) None S.no_procedure); body = None; end_word = 0; end_name = 11; period = 0 } }

pub type_mismatch_159 : checked (type_mismatch_159_0 ∷ []) ≡ Fault 0 31 30
type_mismatch_159 = refl

-- MODULE M; TYPE T = POINTER TO ARRAY 3 OF CHAR; END M.
abbrev type_mismatch_160_0 : Parsed
type_mismatch_160_0 = record { source = record { bytes = (77 ∷ 79 ∷ 68 ∷ 85 ∷ 76 ∷ 69 ∷ 32 ∷ 77 ∷ 59 ∷ 32 ∷ 84 ∷ 89 ∷ 80 ∷ 69 ∷ 32 ∷ 84 ∷ 32 ∷ 61 ∷ 32 ∷ 80 ∷ 79 ∷ 73 ∷ 78 ∷ 84 ∷ 69 ∷ 82 ∷ 32 ∷ 84 ∷ 79 ∷ 32 ∷ 65 ∷ 82 ∷ 82 ∷ 65 ∷ 89 ∷ 32 ∷ 51 ∷ 32 ∷ 79 ∷ 70 ∷ 32 ∷ 67 ∷ 72 ∷ 65 ∷ 82 ∷ 59 ∷ 32 ∷ 69 ∷ 78 ∷ 68 ∷ 32 ∷ 77 ∷ 46 ∷ []); symbols = (symbol (Ident) 0 6 ∷ symbol (Ident) 7 8 ∷ symbol (Ident) 8 9 ∷ symbol (Ident) 10 14 ∷ symbol (Ident) 15 16 ∷ symbol (Ident) 17 18 ∷ symbol (Ident) 19 26 ∷ symbol (Ident) 27 29 ∷ symbol (Ident) 30 35 ∷ symbol (Int (pos 3)) 36 37 ∷ symbol (Ident) 38 40 ∷ symbol (Ident) 41 45 ∷ symbol (Ident) 45 46 ∷ symbol (Ident) 47 50 ∷ symbol (Ident) 51 52 ∷ symbol (Ident) 52 53 ∷ []) }; tree = record { module_word = 0; name = 1; semicolon = 0; imports = None; decls = (S.decls None (Some (record { type_word = 0; each = (record { name = (record { name = 4; star = None }); equal = 0; is = (S.Pointer 6 0 (S.Array 8 (S.only (S.simple None (S.term (S.Int 9) S.no_factor) S.no_term)) S.no_expression 0 (S.Named (record { name = 11; member = None })))); semicolon = 0 } ∷ []) })) None S.no_procedure); body = None; end_word = 0; end_name = 14; period = 0 } }

pub type_mismatch_160 : checked (type_mismatch_160_0 ∷ []) ≡ Fault 0 31 30
type_mismatch_160 = refl

-- MODULE M; TYPE T = POINTER TO POINTER TO RECORD END; END M.
abbrev type_mismatch_161_0 : Parsed
type_mismatch_161_0 = record { source = record { bytes = (77 ∷ 79 ∷ 68 ∷ 85 ∷ 76 ∷ 69 ∷ 32 ∷ 77 ∷ 59 ∷ 32 ∷ 84 ∷ 89 ∷ 80 ∷ 69 ∷ 32 ∷ 84 ∷ 32 ∷ 61 ∷ 32 ∷ 80 ∷ 79 ∷ 73 ∷ 78 ∷ 84 ∷ 69 ∷ 82 ∷ 32 ∷ 84 ∷ 79 ∷ 32 ∷ 80 ∷ 79 ∷ 73 ∷ 78 ∷ 84 ∷ 69 ∷ 82 ∷ 32 ∷ 84 ∷ 79 ∷ 32 ∷ 82 ∷ 69 ∷ 67 ∷ 79 ∷ 82 ∷ 68 ∷ 32 ∷ 69 ∷ 78 ∷ 68 ∷ 59 ∷ 32 ∷ 69 ∷ 78 ∷ 68 ∷ 32 ∷ 77 ∷ 46 ∷ []); symbols = (symbol (Ident) 0 6 ∷ symbol (Ident) 7 8 ∷ symbol (Ident) 8 9 ∷ symbol (Ident) 10 14 ∷ symbol (Ident) 15 16 ∷ symbol (Ident) 17 18 ∷ symbol (Ident) 19 26 ∷ symbol (Ident) 27 29 ∷ symbol (Ident) 30 37 ∷ symbol (Ident) 38 40 ∷ symbol (Ident) 41 47 ∷ symbol (Ident) 48 51 ∷ symbol (Ident) 51 52 ∷ symbol (Ident) 53 56 ∷ symbol (Ident) 57 58 ∷ symbol (Ident) 58 59 ∷ []) }; tree = record { module_word = 0; name = 1; semicolon = 0; imports = None; decls = (S.decls None (Some (record { type_word = 0; each = (record { name = (record { name = 4; star = None }); equal = 0; is = (S.Pointer 6 0 (S.Pointer 8 0 (S.Record 10 None S.no_fields S.no_more_fields 0))); semicolon = 0 } ∷ []) })) None S.no_procedure); body = None; end_word = 0; end_name = 14; period = 0 } }

pub type_mismatch_161 : checked (type_mismatch_161_0 ∷ []) ≡ Fault 0 31 30
type_mismatch_161 = refl

-- MODULE M; TYPE T = POINTER TO PROCEDURE; END M.
abbrev type_mismatch_162_0 : Parsed
type_mismatch_162_0 = record { source = record { bytes = (77 ∷ 79 ∷ 68 ∷ 85 ∷ 76 ∷ 69 ∷ 32 ∷ 77 ∷ 59 ∷ 32 ∷ 84 ∷ 89 ∷ 80 ∷ 69 ∷ 32 ∷ 84 ∷ 32 ∷ 61 ∷ 32 ∷ 80 ∷ 79 ∷ 73 ∷ 78 ∷ 84 ∷ 69 ∷ 82 ∷ 32 ∷ 84 ∷ 79 ∷ 32 ∷ 80 ∷ 82 ∷ 79 ∷ 67 ∷ 69 ∷ 68 ∷ 85 ∷ 82 ∷ 69 ∷ 59 ∷ 32 ∷ 69 ∷ 78 ∷ 68 ∷ 32 ∷ 77 ∷ 46 ∷ []); symbols = (symbol (Ident) 0 6 ∷ symbol (Ident) 7 8 ∷ symbol (Ident) 8 9 ∷ symbol (Ident) 10 14 ∷ symbol (Ident) 15 16 ∷ symbol (Ident) 17 18 ∷ symbol (Ident) 19 26 ∷ symbol (Ident) 27 29 ∷ symbol (Ident) 30 39 ∷ symbol (Ident) 39 40 ∷ symbol (Ident) 41 44 ∷ symbol (Ident) 45 46 ∷ symbol (Ident) 46 47 ∷ []) }; tree = record { module_word = 0; name = 1; semicolon = 0; imports = None; decls = (S.decls None (Some (record { type_word = 0; each = (record { name = (record { name = 4; star = None }); equal = 0; is = (S.Pointer 6 0 (S.Procedure 8 None)); semicolon = 0 } ∷ []) })) None S.no_procedure); body = None; end_word = 0; end_name = 11; period = 0 } }

pub type_mismatch_162 : checked (type_mismatch_162_0 ∷ []) ≡ Fault 0 31 30
type_mismatch_162 = refl

-- MODULE M; TYPE T = POINTER TO U; U = INTEGER; END M.
abbrev type_mismatch_163_0 : Parsed
type_mismatch_163_0 = record { source = record { bytes = (77 ∷ 79 ∷ 68 ∷ 85 ∷ 76 ∷ 69 ∷ 32 ∷ 77 ∷ 59 ∷ 32 ∷ 84 ∷ 89 ∷ 80 ∷ 69 ∷ 32 ∷ 84 ∷ 32 ∷ 61 ∷ 32 ∷ 80 ∷ 79 ∷ 73 ∷ 78 ∷ 84 ∷ 69 ∷ 82 ∷ 32 ∷ 84 ∷ 79 ∷ 32 ∷ 85 ∷ 59 ∷ 32 ∷ 85 ∷ 32 ∷ 61 ∷ 32 ∷ 73 ∷ 78 ∷ 84 ∷ 69 ∷ 71 ∷ 69 ∷ 82 ∷ 59 ∷ 32 ∷ 69 ∷ 78 ∷ 68 ∷ 32 ∷ 77 ∷ 46 ∷ []); symbols = (symbol (Ident) 0 6 ∷ symbol (Ident) 7 8 ∷ symbol (Ident) 8 9 ∷ symbol (Ident) 10 14 ∷ symbol (Ident) 15 16 ∷ symbol (Ident) 17 18 ∷ symbol (Ident) 19 26 ∷ symbol (Ident) 27 29 ∷ symbol (Ident) 30 31 ∷ symbol (Ident) 31 32 ∷ symbol (Ident) 33 34 ∷ symbol (Ident) 35 36 ∷ symbol (Ident) 37 44 ∷ symbol (Ident) 44 45 ∷ symbol (Ident) 46 49 ∷ symbol (Ident) 50 51 ∷ symbol (Ident) 51 52 ∷ []) }; tree = record { module_word = 0; name = 1; semicolon = 0; imports = None; decls = (S.decls None (Some (record { type_word = 0; each = (record { name = (record { name = 4; star = None }); equal = 0; is = (S.Pointer 6 0 (S.Named (record { name = 8; member = None }))); semicolon = 0 } ∷ record { name = (record { name = 10; star = None }); equal = 0; is = (S.Named (record { name = 12; member = None })); semicolon = 0 } ∷ []) })) None S.no_procedure); body = None; end_word = 0; end_name = 15; period = 0 } }

pub type_mismatch_163 : checked (type_mismatch_163_0 ∷ []) ≡ Fault 0 31 30
type_mismatch_163 = refl

-- MODULE M; TYPE T = POINTER TO U; U = T; END M.
abbrev type_mismatch_164_0 : Parsed
type_mismatch_164_0 = record { source = record { bytes = (77 ∷ 79 ∷ 68 ∷ 85 ∷ 76 ∷ 69 ∷ 32 ∷ 77 ∷ 59 ∷ 32 ∷ 84 ∷ 89 ∷ 80 ∷ 69 ∷ 32 ∷ 84 ∷ 32 ∷ 61 ∷ 32 ∷ 80 ∷ 79 ∷ 73 ∷ 78 ∷ 84 ∷ 69 ∷ 82 ∷ 32 ∷ 84 ∷ 79 ∷ 32 ∷ 85 ∷ 59 ∷ 32 ∷ 85 ∷ 32 ∷ 61 ∷ 32 ∷ 84 ∷ 59 ∷ 32 ∷ 69 ∷ 78 ∷ 68 ∷ 32 ∷ 77 ∷ 46 ∷ []); symbols = (symbol (Ident) 0 6 ∷ symbol (Ident) 7 8 ∷ symbol (Ident) 8 9 ∷ symbol (Ident) 10 14 ∷ symbol (Ident) 15 16 ∷ symbol (Ident) 17 18 ∷ symbol (Ident) 19 26 ∷ symbol (Ident) 27 29 ∷ symbol (Ident) 30 31 ∷ symbol (Ident) 31 32 ∷ symbol (Ident) 33 34 ∷ symbol (Ident) 35 36 ∷ symbol (Ident) 37 38 ∷ symbol (Ident) 38 39 ∷ symbol (Ident) 40 43 ∷ symbol (Ident) 44 45 ∷ symbol (Ident) 45 46 ∷ []) }; tree = record { module_word = 0; name = 1; semicolon = 0; imports = None; decls = (S.decls None (Some (record { type_word = 0; each = (record { name = (record { name = 4; star = None }); equal = 0; is = (S.Pointer 6 0 (S.Named (record { name = 8; member = None }))); semicolon = 0 } ∷ record { name = (record { name = 10; star = None }); equal = 0; is = (S.Named (record { name = 12; member = None })); semicolon = 0 } ∷ []) })) None S.no_procedure); body = None; end_word = 0; end_name = 15; period = 0 } }

pub type_mismatch_164 : checked (type_mismatch_164_0 ∷ []) ≡ Fault 0 31 30
type_mismatch_164 = refl

-- MODULE M; VAR v: INTEGER; x: v; END M.
abbrev type_mismatch_165_0 : Parsed
type_mismatch_165_0 = record { source = record { bytes = (77 ∷ 79 ∷ 68 ∷ 85 ∷ 76 ∷ 69 ∷ 32 ∷ 77 ∷ 59 ∷ 32 ∷ 86 ∷ 65 ∷ 82 ∷ 32 ∷ 118 ∷ 58 ∷ 32 ∷ 73 ∷ 78 ∷ 84 ∷ 69 ∷ 71 ∷ 69 ∷ 82 ∷ 59 ∷ 32 ∷ 120 ∷ 58 ∷ 32 ∷ 118 ∷ 59 ∷ 32 ∷ 69 ∷ 78 ∷ 68 ∷ 32 ∷ 77 ∷ 46 ∷ []); symbols = (symbol (Ident) 0 6 ∷ symbol (Ident) 7 8 ∷ symbol (Ident) 8 9 ∷ symbol (Ident) 10 13 ∷ symbol (Ident) 14 15 ∷ symbol (Ident) 15 16 ∷ symbol (Ident) 17 24 ∷ symbol (Ident) 24 25 ∷ symbol (Ident) 26 27 ∷ symbol (Ident) 27 28 ∷ symbol (Ident) 29 30 ∷ symbol (Ident) 30 31 ∷ symbol (Ident) 32 35 ∷ symbol (Ident) 36 37 ∷ symbol (Ident) 37 38 ∷ []) }; tree = record { module_word = 0; name = 1; semicolon = 0; imports = None; decls = (S.decls None None (Some (record { var_word = 0; each = (record { names = (record { first = (record { name = 4; star = None }); more = [] }); colon = 0; of = (S.Named (record { name = 6; member = None })); semicolon = 0 } ∷ record { names = (record { first = (record { name = 8; star = None }); more = [] }); colon = 0; of = (S.Named (record { name = 10; member = None })); semicolon = 0 } ∷ []) })) S.no_procedure); body = None; end_word = 0; end_name = 13; period = 0 } }

pub type_mismatch_165 : checked (type_mismatch_165_0 ∷ []) ≡ Fault 0 31 29
type_mismatch_165 = refl

-- MODULE M; TYPE A = ARRAY ''a'' OF CHAR; END M.
abbrev type_mismatch_166_0 : Parsed
type_mismatch_166_0 = record { source = record { bytes = (77 ∷ 79 ∷ 68 ∷ 85 ∷ 76 ∷ 69 ∷ 32 ∷ 77 ∷ 59 ∷ 32 ∷ 84 ∷ 89 ∷ 80 ∷ 69 ∷ 32 ∷ 65 ∷ 32 ∷ 61 ∷ 32 ∷ 65 ∷ 82 ∷ 82 ∷ 65 ∷ 89 ∷ 32 ∷ 34 ∷ 97 ∷ 34 ∷ 32 ∷ 79 ∷ 70 ∷ 32 ∷ 67 ∷ 72 ∷ 65 ∷ 82 ∷ 59 ∷ 32 ∷ 69 ∷ 78 ∷ 68 ∷ 32 ∷ 77 ∷ 46 ∷ []); symbols = (symbol (Ident) 0 6 ∷ symbol (Ident) 7 8 ∷ symbol (Ident) 8 9 ∷ symbol (Ident) 10 14 ∷ symbol (Ident) 15 16 ∷ symbol (Ident) 17 18 ∷ symbol (Ident) 19 24 ∷ symbol (TheKind.Text) 25 28 ∷ symbol (Ident) 29 31 ∷ symbol (Ident) 32 36 ∷ symbol (Ident) 36 37 ∷ symbol (Ident) 38 41 ∷ symbol (Ident) 42 43 ∷ symbol (Ident) 43 44 ∷ []) }; tree = record { module_word = 0; name = 1; semicolon = 0; imports = None; decls = (S.decls None (Some (record { type_word = 0; each = (record { name = (record { name = 4; star = None }); equal = 0; is = (S.Array 6 (S.only (S.simple None (S.term (S.Text 7) S.no_factor) S.no_term)) S.no_expression 0 (S.Named (record { name = 9; member = None }))); semicolon = 0 } ∷ []) })) None S.no_procedure); body = None; end_word = 0; end_name = 12; period = 0 } }

pub type_mismatch_166 : checked (type_mismatch_166_0 ∷ []) ≡ Fault 0 31 25
type_mismatch_166 = refl

-- MODULE M; TYPE A = ARRAY TRUE OF CHAR; END M.
abbrev type_mismatch_167_0 : Parsed
type_mismatch_167_0 = record { source = record { bytes = (77 ∷ 79 ∷ 68 ∷ 85 ∷ 76 ∷ 69 ∷ 32 ∷ 77 ∷ 59 ∷ 32 ∷ 84 ∷ 89 ∷ 80 ∷ 69 ∷ 32 ∷ 65 ∷ 32 ∷ 61 ∷ 32 ∷ 65 ∷ 82 ∷ 82 ∷ 65 ∷ 89 ∷ 32 ∷ 84 ∷ 82 ∷ 85 ∷ 69 ∷ 32 ∷ 79 ∷ 70 ∷ 32 ∷ 67 ∷ 72 ∷ 65 ∷ 82 ∷ 59 ∷ 32 ∷ 69 ∷ 78 ∷ 68 ∷ 32 ∷ 77 ∷ 46 ∷ []); symbols = (symbol (Ident) 0 6 ∷ symbol (Ident) 7 8 ∷ symbol (Ident) 8 9 ∷ symbol (Ident) 10 14 ∷ symbol (Ident) 15 16 ∷ symbol (Ident) 17 18 ∷ symbol (Ident) 19 24 ∷ symbol (Ident) 25 29 ∷ symbol (Ident) 30 32 ∷ symbol (Ident) 33 37 ∷ symbol (Ident) 37 38 ∷ symbol (Ident) 39 42 ∷ symbol (Ident) 43 44 ∷ symbol (Ident) 44 45 ∷ []) }; tree = record { module_word = 0; name = 1; semicolon = 0; imports = None; decls = (S.decls None (Some (record { type_word = 0; each = (record { name = (record { name = 4; star = None }); equal = 0; is = (S.Array 6 (S.only (S.simple None (S.term (S.True 7) S.no_factor) S.no_term)) S.no_expression 0 (S.Named (record { name = 9; member = None }))); semicolon = 0 } ∷ []) })) None S.no_procedure); body = None; end_word = 0; end_name = 12; period = 0 } }

pub type_mismatch_167 : checked (type_mismatch_167_0 ∷ []) ≡ Fault 0 31 25
type_mismatch_167 = refl

-- MODULE M; TYPE A = ARRAY {} OF CHAR; END M.
abbrev type_mismatch_168_0 : Parsed
type_mismatch_168_0 = record { source = record { bytes = (77 ∷ 79 ∷ 68 ∷ 85 ∷ 76 ∷ 69 ∷ 32 ∷ 77 ∷ 59 ∷ 32 ∷ 84 ∷ 89 ∷ 80 ∷ 69 ∷ 32 ∷ 65 ∷ 32 ∷ 61 ∷ 32 ∷ 65 ∷ 82 ∷ 82 ∷ 65 ∷ 89 ∷ 32 ∷ 123 ∷ 125 ∷ 32 ∷ 79 ∷ 70 ∷ 32 ∷ 67 ∷ 72 ∷ 65 ∷ 82 ∷ 59 ∷ 32 ∷ 69 ∷ 78 ∷ 68 ∷ 32 ∷ 77 ∷ 46 ∷ []); symbols = (symbol (Ident) 0 6 ∷ symbol (Ident) 7 8 ∷ symbol (Ident) 8 9 ∷ symbol (Ident) 10 14 ∷ symbol (Ident) 15 16 ∷ symbol (Ident) 17 18 ∷ symbol (Ident) 19 24 ∷ symbol (Ident) 25 26 ∷ symbol (Ident) 26 27 ∷ symbol (Ident) 28 30 ∷ symbol (Ident) 31 35 ∷ symbol (Ident) 35 36 ∷ symbol (Ident) 37 40 ∷ symbol (Ident) 41 42 ∷ symbol (Ident) 42 43 ∷ []) }; tree = record { module_word = 0; name = 1; semicolon = 0; imports = None; decls = (S.decls None (Some (record { type_word = 0; each = (record { name = (record { name = 4; star = None }); equal = 0; is = (S.Array 6 (S.only (S.simple None (S.term (S.EmptySet 7 0) S.no_factor) S.no_term)) S.no_expression 0 (S.Named (record { name = 10; member = None }))); semicolon = 0 } ∷ []) })) None S.no_procedure); body = None; end_word = 0; end_name = 13; period = 0 } }

pub type_mismatch_168 : checked (type_mismatch_168_0 ∷ []) ≡ Fault 0 31 25
type_mismatch_168 = refl

-- MODULE M; TYPE R = RECORD END; PROCEDURE P(): R; END P; END M.
abbrev type_mismatch_169_0 : Parsed
type_mismatch_169_0 = record { source = record { bytes = (77 ∷ 79 ∷ 68 ∷ 85 ∷ 76 ∷ 69 ∷ 32 ∷ 77 ∷ 59 ∷ 32 ∷ 84 ∷ 89 ∷ 80 ∷ 69 ∷ 32 ∷ 82 ∷ 32 ∷ 61 ∷ 32 ∷ 82 ∷ 69 ∷ 67 ∷ 79 ∷ 82 ∷ 68 ∷ 32 ∷ 69 ∷ 78 ∷ 68 ∷ 59 ∷ 32 ∷ 80 ∷ 82 ∷ 79 ∷ 67 ∷ 69 ∷ 68 ∷ 85 ∷ 82 ∷ 69 ∷ 32 ∷ 80 ∷ 40 ∷ 41 ∷ 58 ∷ 32 ∷ 82 ∷ 59 ∷ 32 ∷ 69 ∷ 78 ∷ 68 ∷ 32 ∷ 80 ∷ 59 ∷ 32 ∷ 69 ∷ 78 ∷ 68 ∷ 32 ∷ 77 ∷ 46 ∷ []); symbols = (symbol (Ident) 0 6 ∷ symbol (Ident) 7 8 ∷ symbol (Ident) 8 9 ∷ symbol (Ident) 10 14 ∷ symbol (Ident) 15 16 ∷ symbol (Ident) 17 18 ∷ symbol (Ident) 19 25 ∷ symbol (Ident) 26 29 ∷ symbol (Ident) 29 30 ∷ symbol (Ident) 31 40 ∷ symbol (Ident) 41 42 ∷ symbol (Ident) 42 43 ∷ symbol (Ident) 43 44 ∷ symbol (Ident) 44 45 ∷ symbol (Ident) 46 47 ∷ symbol (Ident) 47 48 ∷ symbol (Ident) 49 52 ∷ symbol (Ident) 53 54 ∷ symbol (Ident) 54 55 ∷ symbol (Ident) 56 59 ∷ symbol (Ident) 60 61 ∷ symbol (Ident) 61 62 ∷ []) }; tree = record { module_word = 0; name = 1; semicolon = 0; imports = None; decls = (S.decls None (Some (record { type_word = 0; each = (record { name = (record { name = 4; star = None }); equal = 0; is = (S.Record 6 None S.no_fields S.no_more_fields 0); semicolon = 0 } ∷ []) })) None (S.procedure 0 (record { name = 10; star = None }) (Some (record { left_paren = 0; sections = None; right_paren = 0; result = Some (record { colon = 0; name = (record { name = 14; member = None }) }) })) 0 (S.decls None None None S.no_procedure) None None 16 17 0 S.no_procedure)); body = None; end_word = 0; end_name = 20; period = 0 } }

pub type_mismatch_169 : checked (type_mismatch_169_0 ∷ []) ≡ Fault 0 31 46
type_mismatch_169 = refl

-- MODULE M; PROCEDURE P(): BOOLEAN; RETURN 1 END P; END M.
abbrev type_mismatch_170_0 : Parsed
type_mismatch_170_0 = record { source = record { bytes = (77 ∷ 79 ∷ 68 ∷ 85 ∷ 76 ∷ 69 ∷ 32 ∷ 77 ∷ 59 ∷ 32 ∷ 80 ∷ 82 ∷ 79 ∷ 67 ∷ 69 ∷ 68 ∷ 85 ∷ 82 ∷ 69 ∷ 32 ∷ 80 ∷ 40 ∷ 41 ∷ 58 ∷ 32 ∷ 66 ∷ 79 ∷ 79 ∷ 76 ∷ 69 ∷ 65 ∷ 78 ∷ 59 ∷ 32 ∷ 82 ∷ 69 ∷ 84 ∷ 85 ∷ 82 ∷ 78 ∷ 32 ∷ 49 ∷ 32 ∷ 69 ∷ 78 ∷ 68 ∷ 32 ∷ 80 ∷ 59 ∷ 32 ∷ 69 ∷ 78 ∷ 68 ∷ 32 ∷ 77 ∷ 46 ∷ []); symbols = (symbol (Ident) 0 6 ∷ symbol (Ident) 7 8 ∷ symbol (Ident) 8 9 ∷ symbol (Ident) 10 19 ∷ symbol (Ident) 20 21 ∷ symbol (Ident) 21 22 ∷ symbol (Ident) 22 23 ∷ symbol (Ident) 23 24 ∷ symbol (Ident) 25 32 ∷ symbol (Ident) 32 33 ∷ symbol (Ident) 34 40 ∷ symbol (Int (pos 1)) 41 42 ∷ symbol (Ident) 43 46 ∷ symbol (Ident) 47 48 ∷ symbol (Ident) 48 49 ∷ symbol (Ident) 50 53 ∷ symbol (Ident) 54 55 ∷ symbol (Ident) 55 56 ∷ []) }; tree = record { module_word = 0; name = 1; semicolon = 0; imports = None; decls = (S.decls None None None (S.procedure 0 (record { name = 4; star = None }) (Some (record { left_paren = 0; sections = None; right_paren = 0; result = Some (record { colon = 0; name = (record { name = 8; member = None }) }) })) 0 (S.decls None None None S.no_procedure) None (Some (record { return_word = 10; value = (S.only (S.simple None (S.term (S.Int 11) S.no_factor) S.no_term)) })) 12 13 0 S.no_procedure)); body = None; end_word = 0; end_name = 16; period = 0 } }

pub type_mismatch_170 : checked (type_mismatch_170_0 ∷ []) ≡ Fault 0 31 41
type_mismatch_170 = refl

-- MODULE M; TYPE A = ARRAY 2 OF CHAR; F = PROCEDURE (): A; END M.
abbrev type_mismatch_171_0 : Parsed
type_mismatch_171_0 = record { source = record { bytes = (77 ∷ 79 ∷ 68 ∷ 85 ∷ 76 ∷ 69 ∷ 32 ∷ 77 ∷ 59 ∷ 32 ∷ 84 ∷ 89 ∷ 80 ∷ 69 ∷ 32 ∷ 65 ∷ 32 ∷ 61 ∷ 32 ∷ 65 ∷ 82 ∷ 82 ∷ 65 ∷ 89 ∷ 32 ∷ 50 ∷ 32 ∷ 79 ∷ 70 ∷ 32 ∷ 67 ∷ 72 ∷ 65 ∷ 82 ∷ 59 ∷ 32 ∷ 70 ∷ 32 ∷ 61 ∷ 32 ∷ 80 ∷ 82 ∷ 79 ∷ 67 ∷ 69 ∷ 68 ∷ 85 ∷ 82 ∷ 69 ∷ 32 ∷ 40 ∷ 41 ∷ 58 ∷ 32 ∷ 65 ∷ 59 ∷ 32 ∷ 69 ∷ 78 ∷ 68 ∷ 32 ∷ 77 ∷ 46 ∷ []); symbols = (symbol (Ident) 0 6 ∷ symbol (Ident) 7 8 ∷ symbol (Ident) 8 9 ∷ symbol (Ident) 10 14 ∷ symbol (Ident) 15 16 ∷ symbol (Ident) 17 18 ∷ symbol (Ident) 19 24 ∷ symbol (Int (pos 2)) 25 26 ∷ symbol (Ident) 27 29 ∷ symbol (Ident) 30 34 ∷ symbol (Ident) 34 35 ∷ symbol (Ident) 36 37 ∷ symbol (Ident) 38 39 ∷ symbol (Ident) 40 49 ∷ symbol (Ident) 50 51 ∷ symbol (Ident) 51 52 ∷ symbol (Ident) 52 53 ∷ symbol (Ident) 54 55 ∷ symbol (Ident) 55 56 ∷ symbol (Ident) 57 60 ∷ symbol (Ident) 61 62 ∷ symbol (Ident) 62 63 ∷ []) }; tree = record { module_word = 0; name = 1; semicolon = 0; imports = None; decls = (S.decls None (Some (record { type_word = 0; each = (record { name = (record { name = 4; star = None }); equal = 0; is = (S.Array 6 (S.only (S.simple None (S.term (S.Int 7) S.no_factor) S.no_term)) S.no_expression 0 (S.Named (record { name = 9; member = None }))); semicolon = 0 } ∷ record { name = (record { name = 11; star = None }); equal = 0; is = (S.Procedure 13 (Some (record { left_paren = 0; sections = None; right_paren = 0; result = Some (record { colon = 0; name = (record { name = 17; member = None }) }) }))); semicolon = 0 } ∷ []) })) None S.no_procedure); body = None; end_word = 0; end_name = 20; period = 0 } }

pub type_mismatch_171 : checked (type_mismatch_171_0 ∷ []) ≡ Fault 0 31 54
type_mismatch_171 = refl

-- MODULE M; CONST c = INTEGER; END M.
abbrev type_mismatch_172_0 : Parsed
type_mismatch_172_0 = record { source = record { bytes = (77 ∷ 79 ∷ 68 ∷ 85 ∷ 76 ∷ 69 ∷ 32 ∷ 77 ∷ 59 ∷ 32 ∷ 67 ∷ 79 ∷ 78 ∷ 83 ∷ 84 ∷ 32 ∷ 99 ∷ 32 ∷ 61 ∷ 32 ∷ 73 ∷ 78 ∷ 84 ∷ 69 ∷ 71 ∷ 69 ∷ 82 ∷ 59 ∷ 32 ∷ 69 ∷ 78 ∷ 68 ∷ 32 ∷ 77 ∷ 46 ∷ []); symbols = (symbol (Ident) 0 6 ∷ symbol (Ident) 7 8 ∷ symbol (Ident) 8 9 ∷ symbol (Ident) 10 15 ∷ symbol (Ident) 16 17 ∷ symbol (Ident) 18 19 ∷ symbol (Ident) 20 27 ∷ symbol (Ident) 27 28 ∷ symbol (Ident) 29 32 ∷ symbol (Ident) 33 34 ∷ symbol (Ident) 34 35 ∷ []) }; tree = record { module_word = 0; name = 1; semicolon = 0; imports = None; decls = (S.decls (Some (record { const_word = 0; each = (record { name = (record { name = 4; star = None }); equal = 0; value = (S.only (S.simple None (S.term (S.Designated 6 S.no_selector) S.no_factor) S.no_term)); semicolon = 0 } ∷ []) })) None None S.no_procedure); body = None; end_word = 0; end_name = 9; period = 0 } }

pub type_mismatch_172 : checked (type_mismatch_172_0 ∷ []) ≡ Fault 0 31 20
type_mismatch_172 = refl

-- MODULE M; CONST c = 1 + TRUE; END M.
abbrev type_mismatch_173_0 : Parsed
type_mismatch_173_0 = record { source = record { bytes = (77 ∷ 79 ∷ 68 ∷ 85 ∷ 76 ∷ 69 ∷ 32 ∷ 77 ∷ 59 ∷ 32 ∷ 67 ∷ 79 ∷ 78 ∷ 83 ∷ 84 ∷ 32 ∷ 99 ∷ 32 ∷ 61 ∷ 32 ∷ 49 ∷ 32 ∷ 43 ∷ 32 ∷ 84 ∷ 82 ∷ 85 ∷ 69 ∷ 59 ∷ 32 ∷ 69 ∷ 78 ∷ 68 ∷ 32 ∷ 77 ∷ 46 ∷ []); symbols = (symbol (Ident) 0 6 ∷ symbol (Ident) 7 8 ∷ symbol (Ident) 8 9 ∷ symbol (Ident) 10 15 ∷ symbol (Ident) 16 17 ∷ symbol (Ident) 18 19 ∷ symbol (Int (pos 1)) 20 21 ∷ symbol (Ident) 22 23 ∷ symbol (Ident) 24 28 ∷ symbol (Ident) 28 29 ∷ symbol (Ident) 30 33 ∷ symbol (Ident) 34 35 ∷ symbol (Ident) 35 36 ∷ []) }; tree = record { module_word = 0; name = 1; semicolon = 0; imports = None; decls = (S.decls (Some (record { const_word = 0; each = (record { name = (record { name = 4; star = None }); equal = 0; value = (S.only (S.simple None (S.term (S.Int 6) S.no_factor) (S.added (TheAddOperator.Plus 7) (S.term (S.True 8) S.no_factor) S.no_term))); semicolon = 0 } ∷ []) })) None None S.no_procedure); body = None; end_word = 0; end_name = 11; period = 0 } }

pub type_mismatch_173 : checked (type_mismatch_173_0 ∷ []) ≡ Fault 0 31 22
type_mismatch_173 = refl

-- MODULE M; PROCEDURE P(INTEGER: CHAR; x: INTEGER); END P; END M.
abbrev type_mismatch_174_0 : Parsed
type_mismatch_174_0 = record { source = record { bytes = (77 ∷ 79 ∷ 68 ∷ 85 ∷ 76 ∷ 69 ∷ 32 ∷ 77 ∷ 59 ∷ 32 ∷ 80 ∷ 82 ∷ 79 ∷ 67 ∷ 69 ∷ 68 ∷ 85 ∷ 82 ∷ 69 ∷ 32 ∷ 80 ∷ 40 ∷ 73 ∷ 78 ∷ 84 ∷ 69 ∷ 71 ∷ 69 ∷ 82 ∷ 58 ∷ 32 ∷ 67 ∷ 72 ∷ 65 ∷ 82 ∷ 59 ∷ 32 ∷ 120 ∷ 58 ∷ 32 ∷ 73 ∷ 78 ∷ 84 ∷ 69 ∷ 71 ∷ 69 ∷ 82 ∷ 41 ∷ 59 ∷ 32 ∷ 69 ∷ 78 ∷ 68 ∷ 32 ∷ 80 ∷ 59 ∷ 32 ∷ 69 ∷ 78 ∷ 68 ∷ 32 ∷ 77 ∷ 46 ∷ []); symbols = (symbol (Ident) 0 6 ∷ symbol (Ident) 7 8 ∷ symbol (Ident) 8 9 ∷ symbol (Ident) 10 19 ∷ symbol (Ident) 20 21 ∷ symbol (Ident) 21 22 ∷ symbol (Ident) 22 29 ∷ symbol (Ident) 29 30 ∷ symbol (Ident) 31 35 ∷ symbol (Ident) 35 36 ∷ symbol (Ident) 37 38 ∷ symbol (Ident) 38 39 ∷ symbol (Ident) 40 47 ∷ symbol (Ident) 47 48 ∷ symbol (Ident) 48 49 ∷ symbol (Ident) 50 53 ∷ symbol (Ident) 54 55 ∷ symbol (Ident) 55 56 ∷ symbol (Ident) 57 60 ∷ symbol (Ident) 61 62 ∷ symbol (Ident) 62 63 ∷ []) }; tree = record { module_word = 0; name = 1; semicolon = 0; imports = None; decls = (S.decls None None None (S.procedure 0 (record { name = 4; star = None }) (Some (record { left_paren = 0; sections = Some (record { first = (record { var_word = None; first = 6; more = []; colon = 0; open_array = None; of = (record { name = 8; member = None }) }); more = (record { semicolon = 0; section = (record { var_word = None; first = 10; more = []; colon = 0; open_array = None; of = (record { name = 12; member = None }) }) } ∷ []) }); right_paren = 0; result = None })) 0 (S.decls None None None S.no_procedure) None None 15 16 0 S.no_procedure)); body = None; end_word = 0; end_name = 19; period = 0 } }

pub type_mismatch_174 : checked (type_mismatch_174_0 ∷ []) ≡ Fault 0 31 40
type_mismatch_174 = refl

-- MODULE M; PROCEDURE P; VAR f: PROCEDURE; PROCEDURE L; END L; BEGIN f := L END P; END M.
abbrev type_mismatch_175_0 : Parsed
type_mismatch_175_0 = record { source = record { bytes = (77 ∷ 79 ∷ 68 ∷ 85 ∷ 76 ∷ 69 ∷ 32 ∷ 77 ∷ 59 ∷ 32 ∷ 80 ∷ 82 ∷ 79 ∷ 67 ∷ 69 ∷ 68 ∷ 85 ∷ 82 ∷ 69 ∷ 32 ∷ 80 ∷ 59 ∷ 32 ∷ 86 ∷ 65 ∷ 82 ∷ 32 ∷ 102 ∷ 58 ∷ 32 ∷ 80 ∷ 82 ∷ 79 ∷ 67 ∷ 69 ∷ 68 ∷ 85 ∷ 82 ∷ 69 ∷ 59 ∷ 32 ∷ 80 ∷ 82 ∷ 79 ∷ 67 ∷ 69 ∷ 68 ∷ 85 ∷ 82 ∷ 69 ∷ 32 ∷ 76 ∷ 59 ∷ 32 ∷ 69 ∷ 78 ∷ 68 ∷ 32 ∷ 76 ∷ 59 ∷ 32 ∷ 66 ∷ 69 ∷ 71 ∷ 73 ∷ 78 ∷ 32 ∷ 102 ∷ 32 ∷ 58 ∷ 61 ∷ 32 ∷ 76 ∷ 32 ∷ 69 ∷ 78 ∷ 68 ∷ 32 ∷ 80 ∷ 59 ∷ 32 ∷ 69 ∷ 78 ∷ 68 ∷ 32 ∷ 77 ∷ 46 ∷ []); symbols = (symbol (Ident) 0 6 ∷ symbol (Ident) 7 8 ∷ symbol (Ident) 8 9 ∷ symbol (Ident) 10 19 ∷ symbol (Ident) 20 21 ∷ symbol (Ident) 21 22 ∷ symbol (Ident) 23 26 ∷ symbol (Ident) 27 28 ∷ symbol (Ident) 28 29 ∷ symbol (Ident) 30 39 ∷ symbol (Ident) 39 40 ∷ symbol (Ident) 41 50 ∷ symbol (Ident) 51 52 ∷ symbol (Ident) 52 53 ∷ symbol (Ident) 54 57 ∷ symbol (Ident) 58 59 ∷ symbol (Ident) 59 60 ∷ symbol (Ident) 61 66 ∷ symbol (Ident) 67 68 ∷ symbol (Ident) 69 71 ∷ symbol (Ident) 72 73 ∷ symbol (Ident) 74 77 ∷ symbol (Ident) 78 79 ∷ symbol (Ident) 79 80 ∷ symbol (Ident) 81 84 ∷ symbol (Ident) 85 86 ∷ symbol (Ident) 86 87 ∷ []) }; tree = record { module_word = 0; name = 1; semicolon = 0; imports = None; decls = (S.decls None None None (S.procedure 0 (record { name = 4; star = None }) None 0 (S.decls None None (Some (record { var_word = 0; each = (record { names = (record { first = (record { name = 7; star = None }); more = [] }); colon = 0; of = (S.Procedure 9 None); semicolon = 0 } ∷ []) })) (S.procedure 0 (record { name = 12; star = None }) None 0 (S.decls None None None S.no_procedure) None None 14 15 0 S.no_procedure)) (Some (record { begin_word = 0; stats = (S.stats (S.AssignOrCall (record { name = 18; selectors = S.no_selector }) (Some (record { becomes = 0; value = (S.only (S.simple None (S.term (S.Designated 20 S.no_selector) S.no_factor) S.no_term)) }))) S.no_stat) })) None 21 22 0 S.no_procedure)); body = None; end_word = 0; end_name = 25; period = 0 } }

pub type_mismatch_175 : checked (type_mismatch_175_0 ∷ []) ≡ Fault 0 31 72
type_mismatch_175 = refl

-- MODULE M; VAR f: PROCEDURE; PROCEDURE P; PROCEDURE L; END L; BEGIN f := L END P; END M.
abbrev type_mismatch_176_0 : Parsed
type_mismatch_176_0 = record { source = record { bytes = (77 ∷ 79 ∷ 68 ∷ 85 ∷ 76 ∷ 69 ∷ 32 ∷ 77 ∷ 59 ∷ 32 ∷ 86 ∷ 65 ∷ 82 ∷ 32 ∷ 102 ∷ 58 ∷ 32 ∷ 80 ∷ 82 ∷ 79 ∷ 67 ∷ 69 ∷ 68 ∷ 85 ∷ 82 ∷ 69 ∷ 59 ∷ 32 ∷ 80 ∷ 82 ∷ 79 ∷ 67 ∷ 69 ∷ 68 ∷ 85 ∷ 82 ∷ 69 ∷ 32 ∷ 80 ∷ 59 ∷ 32 ∷ 80 ∷ 82 ∷ 79 ∷ 67 ∷ 69 ∷ 68 ∷ 85 ∷ 82 ∷ 69 ∷ 32 ∷ 76 ∷ 59 ∷ 32 ∷ 69 ∷ 78 ∷ 68 ∷ 32 ∷ 76 ∷ 59 ∷ 32 ∷ 66 ∷ 69 ∷ 71 ∷ 73 ∷ 78 ∷ 32 ∷ 102 ∷ 32 ∷ 58 ∷ 61 ∷ 32 ∷ 76 ∷ 32 ∷ 69 ∷ 78 ∷ 68 ∷ 32 ∷ 80 ∷ 59 ∷ 32 ∷ 69 ∷ 78 ∷ 68 ∷ 32 ∷ 77 ∷ 46 ∷ []); symbols = (symbol (Ident) 0 6 ∷ symbol (Ident) 7 8 ∷ symbol (Ident) 8 9 ∷ symbol (Ident) 10 13 ∷ symbol (Ident) 14 15 ∷ symbol (Ident) 15 16 ∷ symbol (Ident) 17 26 ∷ symbol (Ident) 26 27 ∷ symbol (Ident) 28 37 ∷ symbol (Ident) 38 39 ∷ symbol (Ident) 39 40 ∷ symbol (Ident) 41 50 ∷ symbol (Ident) 51 52 ∷ symbol (Ident) 52 53 ∷ symbol (Ident) 54 57 ∷ symbol (Ident) 58 59 ∷ symbol (Ident) 59 60 ∷ symbol (Ident) 61 66 ∷ symbol (Ident) 67 68 ∷ symbol (Ident) 69 71 ∷ symbol (Ident) 72 73 ∷ symbol (Ident) 74 77 ∷ symbol (Ident) 78 79 ∷ symbol (Ident) 79 80 ∷ symbol (Ident) 81 84 ∷ symbol (Ident) 85 86 ∷ symbol (Ident) 86 87 ∷ []) }; tree = record { module_word = 0; name = 1; semicolon = 0; imports = None; decls = (S.decls None None (Some (record { var_word = 0; each = (record { names = (record { first = (record { name = 4; star = None }); more = [] }); colon = 0; of = (S.Procedure 6 None); semicolon = 0 } ∷ []) })) (S.procedure 0 (record { name = 9; star = None }) None 0 (S.decls None None None (S.procedure 0 (record { name = 12; star = None }) None 0 (S.decls None None None S.no_procedure) None None 14 15 0 S.no_procedure)) (Some (record { begin_word = 0; stats = (S.stats (S.AssignOrCall (record { name = 18; selectors = S.no_selector }) (Some (record { becomes = 0; value = (S.only (S.simple None (S.term (S.Designated 20 S.no_selector) S.no_factor) S.no_term)) }))) S.no_stat) })) None 21 22 0 S.no_procedure)); body = None; end_word = 0; end_name = 25; period = 0 } }

pub type_mismatch_176 : checked (type_mismatch_176_0 ∷ []) ≡ Fault 0 31 72
type_mismatch_176 = refl

-- MODULE M; TYPE F = PROCEDURE; PROCEDURE Q(f: F); END Q; PROCEDURE P; PROCEDURE L; END L; BEGIN Q(L) END P; END M.
abbrev type_mismatch_177_0 : Parsed
type_mismatch_177_0 = record { source = record { bytes = (77 ∷ 79 ∷ 68 ∷ 85 ∷ 76 ∷ 69 ∷ 32 ∷ 77 ∷ 59 ∷ 32 ∷ 84 ∷ 89 ∷ 80 ∷ 69 ∷ 32 ∷ 70 ∷ 32 ∷ 61 ∷ 32 ∷ 80 ∷ 82 ∷ 79 ∷ 67 ∷ 69 ∷ 68 ∷ 85 ∷ 82 ∷ 69 ∷ 59 ∷ 32 ∷ 80 ∷ 82 ∷ 79 ∷ 67 ∷ 69 ∷ 68 ∷ 85 ∷ 82 ∷ 69 ∷ 32 ∷ 81 ∷ 40 ∷ 102 ∷ 58 ∷ 32 ∷ 70 ∷ 41 ∷ 59 ∷ 32 ∷ 69 ∷ 78 ∷ 68 ∷ 32 ∷ 81 ∷ 59 ∷ 32 ∷ 80 ∷ 82 ∷ 79 ∷ 67 ∷ 69 ∷ 68 ∷ 85 ∷ 82 ∷ 69 ∷ 32 ∷ 80 ∷ 59 ∷ 32 ∷ 80 ∷ 82 ∷ 79 ∷ 67 ∷ 69 ∷ 68 ∷ 85 ∷ 82 ∷ 69 ∷ 32 ∷ 76 ∷ 59 ∷ 32 ∷ 69 ∷ 78 ∷ 68 ∷ 32 ∷ 76 ∷ 59 ∷ 32 ∷ 66 ∷ 69 ∷ 71 ∷ 73 ∷ 78 ∷ 32 ∷ 81 ∷ 40 ∷ 76 ∷ 41 ∷ 32 ∷ 69 ∷ 78 ∷ 68 ∷ 32 ∷ 80 ∷ 59 ∷ 32 ∷ 69 ∷ 78 ∷ 68 ∷ 32 ∷ 77 ∷ 46 ∷ []); symbols = (symbol (Ident) 0 6 ∷ symbol (Ident) 7 8 ∷ symbol (Ident) 8 9 ∷ symbol (Ident) 10 14 ∷ symbol (Ident) 15 16 ∷ symbol (Ident) 17 18 ∷ symbol (Ident) 19 28 ∷ symbol (Ident) 28 29 ∷ symbol (Ident) 30 39 ∷ symbol (Ident) 40 41 ∷ symbol (Ident) 41 42 ∷ symbol (Ident) 42 43 ∷ symbol (Ident) 43 44 ∷ symbol (Ident) 45 46 ∷ symbol (Ident) 46 47 ∷ symbol (Ident) 47 48 ∷ symbol (Ident) 49 52 ∷ symbol (Ident) 53 54 ∷ symbol (Ident) 54 55 ∷ symbol (Ident) 56 65 ∷ symbol (Ident) 66 67 ∷ symbol (Ident) 67 68 ∷ symbol (Ident) 69 78 ∷ symbol (Ident) 79 80 ∷ symbol (Ident) 80 81 ∷ symbol (Ident) 82 85 ∷ symbol (Ident) 86 87 ∷ symbol (Ident) 87 88 ∷ symbol (Ident) 89 94 ∷ symbol (Ident) 95 96 ∷ symbol (Ident) 96 97 ∷ symbol (Ident) 97 98 ∷ symbol (Ident) 98 99 ∷ symbol (Ident) 100 103 ∷ symbol (Ident) 104 105 ∷ symbol (Ident) 105 106 ∷ symbol (Ident) 107 110 ∷ symbol (Ident) 111 112 ∷ symbol (Ident) 112 113 ∷ []) }; tree = record { module_word = 0; name = 1; semicolon = 0; imports = None; decls = (S.decls None (Some (record { type_word = 0; each = (record { name = (record { name = 4; star = None }); equal = 0; is = (S.Procedure 6 None); semicolon = 0 } ∷ []) })) None (S.procedure 0 (record { name = 9; star = None }) (Some (record { left_paren = 0; sections = Some (record { first = (record { var_word = None; first = 11; more = []; colon = 0; open_array = None; of = (record { name = 13; member = None }) }); more = [] }); right_paren = 0; result = None })) 0 (S.decls None None None S.no_procedure) None None 16 17 0 (S.procedure 0 (record { name = 20; star = None }) None 0 (S.decls None None None (S.procedure 0 (record { name = 23; star = None }) None 0 (S.decls None None None S.no_procedure) None None 25 26 0 S.no_procedure)) (Some (record { begin_word = 0; stats = (S.stats (S.AssignOrCall (record { name = 29; selectors = (S.selected (S.Parens 0 (S.expressions (S.only (S.simple None (S.term (S.Designated 31 S.no_selector) S.no_factor) S.no_term)) S.no_expression) 0) S.no_selector) }) None) S.no_stat) })) None 33 34 0 S.no_procedure))); body = None; end_word = 0; end_name = 37; period = 0 } }

pub type_mismatch_177 : checked (type_mismatch_177_0 ∷ []) ≡ Fault 0 31 97
type_mismatch_177 = refl

-- MODULE M; CONST c = CHR; END M.
abbrev type_mismatch_178_0 : Parsed
type_mismatch_178_0 = record { source = record { bytes = (77 ∷ 79 ∷ 68 ∷ 85 ∷ 76 ∷ 69 ∷ 32 ∷ 77 ∷ 59 ∷ 32 ∷ 67 ∷ 79 ∷ 78 ∷ 83 ∷ 84 ∷ 32 ∷ 99 ∷ 32 ∷ 61 ∷ 32 ∷ 67 ∷ 72 ∷ 82 ∷ 59 ∷ 32 ∷ 69 ∷ 78 ∷ 68 ∷ 32 ∷ 77 ∷ 46 ∷ []); symbols = (symbol (Ident) 0 6 ∷ symbol (Ident) 7 8 ∷ symbol (Ident) 8 9 ∷ symbol (Ident) 10 15 ∷ symbol (Ident) 16 17 ∷ symbol (Ident) 18 19 ∷ symbol (Ident) 20 23 ∷ symbol (Ident) 23 24 ∷ symbol (Ident) 25 28 ∷ symbol (Ident) 29 30 ∷ symbol (Ident) 30 31 ∷ []) }; tree = record { module_word = 0; name = 1; semicolon = 0; imports = None; decls = (S.decls (Some (record { const_word = 0; each = (record { name = (record { name = 4; star = None }); equal = 0; value = (S.only (S.simple None (S.term (S.Designated 6 S.no_selector) S.no_factor) S.no_term)); semicolon = 0 } ∷ []) })) None None S.no_procedure); body = None; end_word = 0; end_name = 9; period = 0 } }

pub type_mismatch_178 : checked (type_mismatch_178_0 ∷ []) ≡ Fault 0 31 20
type_mismatch_178 = refl

-- MODULE M; PROCEDURE P(): CHAR; RETURN ''ab'' END P; END M.
abbrev type_mismatch_179_0 : Parsed
type_mismatch_179_0 = record { source = record { bytes = (77 ∷ 79 ∷ 68 ∷ 85 ∷ 76 ∷ 69 ∷ 32 ∷ 77 ∷ 59 ∷ 32 ∷ 80 ∷ 82 ∷ 79 ∷ 67 ∷ 69 ∷ 68 ∷ 85 ∷ 82 ∷ 69 ∷ 32 ∷ 80 ∷ 40 ∷ 41 ∷ 58 ∷ 32 ∷ 67 ∷ 72 ∷ 65 ∷ 82 ∷ 59 ∷ 32 ∷ 82 ∷ 69 ∷ 84 ∷ 85 ∷ 82 ∷ 78 ∷ 32 ∷ 34 ∷ 97 ∷ 98 ∷ 34 ∷ 32 ∷ 69 ∷ 78 ∷ 68 ∷ 32 ∷ 80 ∷ 59 ∷ 32 ∷ 69 ∷ 78 ∷ 68 ∷ 32 ∷ 77 ∷ 46 ∷ []); symbols = (symbol (Ident) 0 6 ∷ symbol (Ident) 7 8 ∷ symbol (Ident) 8 9 ∷ symbol (Ident) 10 19 ∷ symbol (Ident) 20 21 ∷ symbol (Ident) 21 22 ∷ symbol (Ident) 22 23 ∷ symbol (Ident) 23 24 ∷ symbol (Ident) 25 29 ∷ symbol (Ident) 29 30 ∷ symbol (Ident) 31 37 ∷ symbol (TheKind.Text) 38 42 ∷ symbol (Ident) 43 46 ∷ symbol (Ident) 47 48 ∷ symbol (Ident) 48 49 ∷ symbol (Ident) 50 53 ∷ symbol (Ident) 54 55 ∷ symbol (Ident) 55 56 ∷ []) }; tree = record { module_word = 0; name = 1; semicolon = 0; imports = None; decls = (S.decls None None None (S.procedure 0 (record { name = 4; star = None }) (Some (record { left_paren = 0; sections = None; right_paren = 0; result = Some (record { colon = 0; name = (record { name = 8; member = None }) }) })) 0 (S.decls None None None S.no_procedure) None (Some (record { return_word = 10; value = (S.only (S.simple None (S.term (S.Text 11) S.no_factor) S.no_term)) })) 12 13 0 S.no_procedure)); body = None; end_word = 0; end_name = 16; period = 0 } }

pub type_mismatch_179 : checked (type_mismatch_179_0 ∷ []) ≡ Fault 0 31 38
type_mismatch_179 = refl

-- MODULE M; IMPORT A := Out; VAR x: A; END M.
abbrev type_mismatch_180_0 : Parsed
type_mismatch_180_0 = record { source = record { bytes = (77 ∷ 79 ∷ 68 ∷ 85 ∷ 76 ∷ 69 ∷ 32 ∷ 77 ∷ 59 ∷ 32 ∷ 73 ∷ 77 ∷ 80 ∷ 79 ∷ 82 ∷ 84 ∷ 32 ∷ 65 ∷ 32 ∷ 58 ∷ 61 ∷ 32 ∷ 79 ∷ 117 ∷ 116 ∷ 59 ∷ 32 ∷ 86 ∷ 65 ∷ 82 ∷ 32 ∷ 120 ∷ 58 ∷ 32 ∷ 65 ∷ 59 ∷ 32 ∷ 69 ∷ 78 ∷ 68 ∷ 32 ∷ 77 ∷ 46 ∷ []); symbols = (symbol (Ident) 0 6 ∷ symbol (Ident) 7 8 ∷ symbol (Ident) 8 9 ∷ symbol (Ident) 10 16 ∷ symbol (Ident) 17 18 ∷ symbol (Ident) 19 21 ∷ symbol (Ident) 22 25 ∷ symbol (Ident) 25 26 ∷ symbol (Ident) 27 30 ∷ symbol (Ident) 31 32 ∷ symbol (Ident) 32 33 ∷ symbol (Ident) 34 35 ∷ symbol (Ident) 35 36 ∷ symbol (Ident) 37 40 ∷ symbol (Ident) 41 42 ∷ symbol (Ident) 42 43 ∷ []) }; tree = record { module_word = 0; name = 1; semicolon = 0; imports = Some (record { import_word = 0; first = (record { name = 4; of = Some (record { becomes = 0; name = 6 }) }); more = []; semicolon = 0 }); decls = (S.decls None None (Some (record { var_word = 0; each = (record { names = (record { first = (record { name = 9; star = None }); more = [] }); colon = 0; of = (S.Named (record { name = 11; member = None })); semicolon = 0 } ∷ []) })) S.no_procedure); body = None; end_word = 0; end_name = 14; period = 0 } }

pub type_mismatch_180 : checked (type_mismatch_180_0 ∷ []) ≡ Fault 0 31 34
type_mismatch_180 = refl

-- MODULE M; VAR x: INTEGER.y; END M.
abbrev type_mismatch_181_0 : Parsed
type_mismatch_181_0 = record { source = record { bytes = (77 ∷ 79 ∷ 68 ∷ 85 ∷ 76 ∷ 69 ∷ 32 ∷ 77 ∷ 59 ∷ 32 ∷ 86 ∷ 65 ∷ 82 ∷ 32 ∷ 120 ∷ 58 ∷ 32 ∷ 73 ∷ 78 ∷ 84 ∷ 69 ∷ 71 ∷ 69 ∷ 82 ∷ 46 ∷ 121 ∷ 59 ∷ 32 ∷ 69 ∷ 78 ∷ 68 ∷ 32 ∷ 77 ∷ 46 ∷ []); symbols = (symbol (Ident) 0 6 ∷ symbol (Ident) 7 8 ∷ symbol (Ident) 8 9 ∷ symbol (Ident) 10 13 ∷ symbol (Ident) 14 15 ∷ symbol (Ident) 15 16 ∷ symbol (Ident) 17 24 ∷ symbol (Ident) 24 25 ∷ symbol (Ident) 25 26 ∷ symbol (Ident) 26 27 ∷ symbol (Ident) 28 31 ∷ symbol (Ident) 32 33 ∷ symbol (Ident) 33 34 ∷ []) }; tree = record { module_word = 0; name = 1; semicolon = 0; imports = None; decls = (S.decls None None (Some (record { var_word = 0; each = (record { names = (record { first = (record { name = 4; star = None }); more = [] }); colon = 0; of = (S.Named (record { name = 6; member = Some (record { period = 0; name = 8 }) })); semicolon = 0 } ∷ []) })) S.no_procedure); body = None; end_word = 0; end_name = 11; period = 0 } }

pub type_mismatch_181 : checked (type_mismatch_181_0 ∷ []) ≡ Fault 0 31 17
type_mismatch_181 = refl

-- MODULE M; IMPORT Out; VAR x: Out.Ln; END M.
abbrev type_mismatch_182_0 : Parsed
type_mismatch_182_0 = record { source = record { bytes = (77 ∷ 79 ∷ 68 ∷ 85 ∷ 76 ∷ 69 ∷ 32 ∷ 77 ∷ 59 ∷ 32 ∷ 73 ∷ 77 ∷ 80 ∷ 79 ∷ 82 ∷ 84 ∷ 32 ∷ 79 ∷ 117 ∷ 116 ∷ 59 ∷ 32 ∷ 86 ∷ 65 ∷ 82 ∷ 32 ∷ 120 ∷ 58 ∷ 32 ∷ 79 ∷ 117 ∷ 116 ∷ 46 ∷ 76 ∷ 110 ∷ 59 ∷ 32 ∷ 69 ∷ 78 ∷ 68 ∷ 32 ∷ 77 ∷ 46 ∷ []); symbols = (symbol (Ident) 0 6 ∷ symbol (Ident) 7 8 ∷ symbol (Ident) 8 9 ∷ symbol (Ident) 10 16 ∷ symbol (Ident) 17 20 ∷ symbol (Ident) 20 21 ∷ symbol (Ident) 22 25 ∷ symbol (Ident) 26 27 ∷ symbol (Ident) 27 28 ∷ symbol (Ident) 29 32 ∷ symbol (Ident) 32 33 ∷ symbol (Ident) 33 35 ∷ symbol (Ident) 35 36 ∷ symbol (Ident) 37 40 ∷ symbol (Ident) 41 42 ∷ symbol (Ident) 42 43 ∷ []) }; tree = record { module_word = 0; name = 1; semicolon = 0; imports = Some (record { import_word = 0; first = (record { name = 4; of = None }); more = []; semicolon = 0 }); decls = (S.decls None None (Some (record { var_word = 0; each = (record { names = (record { first = (record { name = 7; star = None }); more = [] }); colon = 0; of = (S.Named (record { name = 9; member = Some (record { period = 0; name = 11 }) })); semicolon = 0 } ∷ []) })) S.no_procedure); body = None; end_word = 0; end_name = 14; period = 0 } }

pub type_mismatch_182 : checked (type_mismatch_182_0 ∷ []) ≡ Fault 0 31 29
type_mismatch_182 = refl

-- MODULE M; IMPORT Out; BEGIN Out END M.
abbrev type_mismatch_183_0 : Parsed
type_mismatch_183_0 = record { source = record { bytes = (77 ∷ 79 ∷ 68 ∷ 85 ∷ 76 ∷ 69 ∷ 32 ∷ 77 ∷ 59 ∷ 32 ∷ 73 ∷ 77 ∷ 80 ∷ 79 ∷ 82 ∷ 84 ∷ 32 ∷ 79 ∷ 117 ∷ 116 ∷ 59 ∷ 32 ∷ 66 ∷ 69 ∷ 71 ∷ 73 ∷ 78 ∷ 32 ∷ 79 ∷ 117 ∷ 116 ∷ 32 ∷ 69 ∷ 78 ∷ 68 ∷ 32 ∷ 77 ∷ 46 ∷ []); symbols = (symbol (Ident) 0 6 ∷ symbol (Ident) 7 8 ∷ symbol (Ident) 8 9 ∷ symbol (Ident) 10 16 ∷ symbol (Ident) 17 20 ∷ symbol (Ident) 20 21 ∷ symbol (Ident) 22 27 ∷ symbol (Ident) 28 31 ∷ symbol (Ident) 32 35 ∷ symbol (Ident) 36 37 ∷ symbol (Ident) 37 38 ∷ []) }; tree = record { module_word = 0; name = 1; semicolon = 0; imports = Some (record { import_word = 0; first = (record { name = 4; of = None }); more = []; semicolon = 0 }); decls = (S.decls None None None S.no_procedure); body = (Some (record { begin_word = 0; stats = (S.stats (S.AssignOrCall (record { name = 7; selectors = S.no_selector }) None) S.no_stat) })); end_word = 0; end_name = 9; period = 0 } }

pub type_mismatch_183 : checked (type_mismatch_183_0 ∷ []) ≡ Fault 0 31 28
type_mismatch_183 = refl

-- MODULE M; IMPORT Out; BEGIN Out[1] END M.
abbrev type_mismatch_184_0 : Parsed
type_mismatch_184_0 = record { source = record { bytes = (77 ∷ 79 ∷ 68 ∷ 85 ∷ 76 ∷ 69 ∷ 32 ∷ 77 ∷ 59 ∷ 32 ∷ 73 ∷ 77 ∷ 80 ∷ 79 ∷ 82 ∷ 84 ∷ 32 ∷ 79 ∷ 117 ∷ 116 ∷ 59 ∷ 32 ∷ 66 ∷ 69 ∷ 71 ∷ 73 ∷ 78 ∷ 32 ∷ 79 ∷ 117 ∷ 116 ∷ 91 ∷ 49 ∷ 93 ∷ 32 ∷ 69 ∷ 78 ∷ 68 ∷ 32 ∷ 77 ∷ 46 ∷ []); symbols = (symbol (Ident) 0 6 ∷ symbol (Ident) 7 8 ∷ symbol (Ident) 8 9 ∷ symbol (Ident) 10 16 ∷ symbol (Ident) 17 20 ∷ symbol (Ident) 20 21 ∷ symbol (Ident) 22 27 ∷ symbol (Ident) 28 31 ∷ symbol (Ident) 31 32 ∷ symbol (Int (pos 1)) 32 33 ∷ symbol (Ident) 33 34 ∷ symbol (Ident) 35 38 ∷ symbol (Ident) 39 40 ∷ symbol (Ident) 40 41 ∷ []) }; tree = record { module_word = 0; name = 1; semicolon = 0; imports = Some (record { import_word = 0; first = (record { name = 4; of = None }); more = []; semicolon = 0 }); decls = (S.decls None None None S.no_procedure); body = (Some (record { begin_word = 0; stats = (S.stats (S.AssignOrCall (record { name = 7; selectors = (S.selected (S.Index 0 (S.expressions (S.only (S.simple None (S.term (S.Int 9) S.no_factor) S.no_term)) S.no_expression) 0) S.no_selector) }) None) S.no_stat) })); end_word = 0; end_name = 12; period = 0 } }

pub type_mismatch_184 : checked (type_mismatch_184_0 ∷ []) ≡ Fault 0 31 28
type_mismatch_184 = refl

-- MODULE M; IMPORT Out; CONST c = Out.Ln; END M.
abbrev type_mismatch_185_0 : Parsed
type_mismatch_185_0 = record { source = record { bytes = (77 ∷ 79 ∷ 68 ∷ 85 ∷ 76 ∷ 69 ∷ 32 ∷ 77 ∷ 59 ∷ 32 ∷ 73 ∷ 77 ∷ 80 ∷ 79 ∷ 82 ∷ 84 ∷ 32 ∷ 79 ∷ 117 ∷ 116 ∷ 59 ∷ 32 ∷ 67 ∷ 79 ∷ 78 ∷ 83 ∷ 84 ∷ 32 ∷ 99 ∷ 32 ∷ 61 ∷ 32 ∷ 79 ∷ 117 ∷ 116 ∷ 46 ∷ 76 ∷ 110 ∷ 59 ∷ 32 ∷ 69 ∷ 78 ∷ 68 ∷ 32 ∷ 77 ∷ 46 ∷ []); symbols = (symbol (Ident) 0 6 ∷ symbol (Ident) 7 8 ∷ symbol (Ident) 8 9 ∷ symbol (Ident) 10 16 ∷ symbol (Ident) 17 20 ∷ symbol (Ident) 20 21 ∷ symbol (Ident) 22 27 ∷ symbol (Ident) 28 29 ∷ symbol (Ident) 30 31 ∷ symbol (Ident) 32 35 ∷ symbol (Ident) 35 36 ∷ symbol (Ident) 36 38 ∷ symbol (Ident) 38 39 ∷ symbol (Ident) 40 43 ∷ symbol (Ident) 44 45 ∷ symbol (Ident) 45 46 ∷ []) }; tree = record { module_word = 0; name = 1; semicolon = 0; imports = Some (record { import_word = 0; first = (record { name = 4; of = None }); more = []; semicolon = 0 }); decls = (S.decls (Some (record { const_word = 0; each = (record { name = (record { name = 7; star = None }); equal = 0; value = (S.only (S.simple None (S.term (S.Designated 9 (S.selected (S.Field 0 11) S.no_selector)) S.no_factor) S.no_term)); semicolon = 0 } ∷ []) })) None None S.no_procedure); body = None; end_word = 0; end_name = 14; period = 0 } }

pub type_mismatch_185 : checked (type_mismatch_185_0 ∷ []) ≡ Fault 0 31 32
type_mismatch_185 = refl
