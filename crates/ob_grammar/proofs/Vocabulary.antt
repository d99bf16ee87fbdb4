-- Different terminals have different numbers: each is found again by its number.
use Rattle.std.proofs.Common.{◌≡◌, ℕ, List, [], ◌∷◌, get_or, refl, sym, ap, ◌∙◌}
use Rattle.ob_symbol.specs.declared.symbol.Reserved.{Reserved}
use Rattle.ob_symbol.specs.declared.symbol.Reserved.TheVariants as W
use Rattle.ob_symbol.specs.declared.symbol.Delimiter.{Delimiter}
use Rattle.ob_symbol.specs.declared.symbol.Delimiter.TheVariants as D
use Rattle.ob_grammar.specs.declared.terminal.Terminal.{Terminal}
use Rattle.ob_grammar.specs.declared.terminal.Terminal.TheVariants as T
use Rattle.ob_grammar.specs.Terminals.{number_of, number_of_word, number_of_mark}

-- all terminals, by number
abbrev vocabulary : List Terminal
vocabulary = T.Ident ∷ T.Int ∷ T.Char ∷ T.Text
    ∷ T.Word W.ArrayWord ∷ T.Word W.BeginWord ∷ T.Word W.ByWord ∷ T.Word W.CaseWord ∷ T.Word W.ConstWord
    ∷ T.Word W.DivWord ∷ T.Word W.DoWord ∷ T.Word W.ElseWord ∷ T.Word W.ElsifWord ∷ T.Word W.EndWord
    ∷ T.Word W.FalseWord ∷ T.Word W.ForWord ∷ T.Word W.IfWord ∷ T.Word W.ImportWord ∷ T.Word W.InWord
    ∷ T.Word W.IsWord ∷ T.Word W.ModWord ∷ T.Word W.ModuleWord ∷ T.Word W.NilWord ∷ T.Word W.OfWord
    ∷ T.Word W.OrWord ∷ T.Word W.PointerWord ∷ T.Word W.ProcedureWord ∷ T.Word W.RecordWord ∷ T.Word W.RepeatWord
    ∷ T.Word W.ReturnWord ∷ T.Word W.ThenWord ∷ T.Word W.ToWord ∷ T.Word W.TrueWord ∷ T.Word W.TypeWord
    ∷ T.Word W.UntilWord ∷ T.Word W.VarWord ∷ T.Word W.WhileWord
    ∷ T.Mark D.Plus ∷ T.Mark D.Minus ∷ T.Mark D.Times ∷ T.Mark D.Slash ∷ T.Mark D.Tilde
    ∷ T.Mark D.Ampersand ∷ T.Mark D.Period ∷ T.Mark D.Comma ∷ T.Mark D.Semicolon ∷ T.Mark D.Bar
    ∷ T.Mark D.LeftParen ∷ T.Mark D.LeftBracket ∷ T.Mark D.LeftBrace ∷ T.Mark D.Becomes ∷ T.Mark D.Arrow
    ∷ T.Mark D.Equal ∷ T.Mark D.NotEqual ∷ T.Mark D.Less ∷ T.Mark D.Greater ∷ T.Mark D.LessEqual
    ∷ T.Mark D.GreaterEqual ∷ T.Mark D.Range ∷ T.Mark D.Colon ∷ T.Mark D.RightParen ∷ T.Mark D.RightBracket
    ∷ T.Mark D.RightBrace ∷ []

-- the terminal with this number
abbrev numbered : ℕ → Terminal
numbered n = get_or vocabulary n T.Ident

word_again : (w : Reserved) → numbered (number_of_word w) ≡ T.Word w
word_again W.ArrayWord = refl
word_again W.BeginWord = refl
word_again W.ByWord = refl
word_again W.CaseWord = refl
word_again W.ConstWord = refl
word_again W.DivWord = refl
word_again W.DoWord = refl
word_again W.ElseWord = refl
word_again W.ElsifWord = refl
word_again W.EndWord = refl
word_again W.FalseWord = refl
word_again W.ForWord = refl
word_again W.IfWord = refl
word_again W.ImportWord = refl
word_again W.InWord = refl
word_again W.IsWord = refl
word_again W.ModWord = refl
word_again W.ModuleWord = refl
word_again W.NilWord = refl
word_again W.OfWord = refl
word_again W.OrWord = refl
word_again W.PointerWord = refl
word_again W.ProcedureWord = refl
word_again W.RecordWord = refl
word_again W.RepeatWord = refl
word_again W.ReturnWord = refl
word_again W.ThenWord = refl
word_again W.ToWord = refl
word_again W.TrueWord = refl
word_again W.TypeWord = refl
word_again W.UntilWord = refl
word_again W.VarWord = refl
word_again W.WhileWord = refl

mark_again : (d : Delimiter) → numbered (number_of_mark d) ≡ T.Mark d
mark_again D.Plus = refl
mark_again D.Minus = refl
mark_again D.Times = refl
mark_again D.Slash = refl
mark_again D.Tilde = refl
mark_again D.Ampersand = refl
mark_again D.Period = refl
mark_again D.Comma = refl
mark_again D.Semicolon = refl
mark_again D.Bar = refl
mark_again D.LeftParen = refl
mark_again D.LeftBracket = refl
mark_again D.LeftBrace = refl
mark_again D.Becomes = refl
mark_again D.Arrow = refl
mark_again D.Equal = refl
mark_again D.NotEqual = refl
mark_again D.Less = refl
mark_again D.Greater = refl
mark_again D.LessEqual = refl
mark_again D.GreaterEqual = refl
mark_again D.Range = refl
mark_again D.Colon = refl
mark_again D.RightParen = refl
mark_again D.RightBracket = refl
mark_again D.RightBrace = refl

again : (x : Terminal) → numbered (number_of x) ≡ x
again T.Ident = refl
again T.Int = refl
again T.Char = refl
again T.Text = refl
again (T.Word w) = word_again w
again (T.Mark d) = mark_again d

pub same_terminal : (x y : Terminal) → number_of x ≡ number_of y → x ≡ y
same_terminal x y e = sym (again x) ∙ (ap numbered e ∙ again y)
