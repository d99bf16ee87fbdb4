-- The symbols of a text, or the first rule that it breaks. (Oberon-07 report, section 3: Vocabulary.)
use Rattle.std.specs.Prelude.{◌≡◌, ℕ, zero, ◌+◌, ◌<◌, ◌≤◌, List, [], ◌∷◌, ◌++◌, Bool, true, false, Some, None, length, slice_range}
use Rattle.ob_symbol.specs.declared.symbol.Kind.{Kind}
use Rattle.ob_symbol.specs.declared.symbol.Symbol.{Symbol}
use Rattle.ob_scan.specs.declared.fault.ScanFault.{ScanFault}
use Rattle.ob_scan.specs.declared.fault.ScanFault.TheVariants.{Fault, Memory}
use Rattle.ob_scan.specs.Words.{WordForm, form_of, kind_of, IsTooLarge, IsTooLong, IsWithin, is_gap, is_all, is_quotable, is_line_end, begins_comment}

-- the longest beginning of a text that is blanks and comments; rest is what follows
pub record Gap (gap rest : List ℕ) : Type 0 where
  pub is : is_gap zero gap ≡ true
  pub longest : (u v : List ℕ) → rest ≡ u ++ v → is_gap zero (gap ++ u) ≡ true → u ≡ []

-- the longest beginning of a text that is a symbol; rest is what follows
pub record Longest (word rest : List ℕ) (form : WordForm) : Type 0 where
  pub is : form_of word ≡ Some form
  pub longest : (u v : List ℕ) (other : WordForm) → rest ≡ u ++ v → form_of (word ++ u) ≡ Some other → u ≡ []

-- a text ends or begins with the end of a line
abbrev pub is_line_over : List ℕ → Bool
is_line_over [] = true
is_line_over (b ∷ w) = is_line_end b

-- a quote that isn't closed before the end of its line
pub record Unclosed (rest : List ℕ) : Type 0 where
  pub inside : List ℕ
  pub after : List ℕ
  pub split : rest ≡ 34 ∷ (inside ++ after)
  pub quotable : is_all is_quotable inside ≡ true
  pub over : is_line_over after ≡ true

-- a symbol of this kind from one place up to another
abbrev pub symbol : Kind → ℕ → ℕ → Symbol
symbol kind from to = record { kind = kind; from = from; to = to }

-- how the symbols of a text end: at its end, or where a rule is broken
pub data End : Type 0 where
  Done : End
  Broken : (rule : ℕ) → (at : ℕ) → End

-- the text that begins at place i has these symbols, and then its end or its first fault
pub data Scans : ℕ → List ℕ → List Symbol → End → Type 0 where
  ends : {i : ℕ} {gap : List ℕ} → Gap gap [] → Scans i gap [] Done
  reads : {i : ℕ} {gap word rest : List ℕ} {form : WordForm} {more : List Symbol} {e : End} →
      Gap gap (word ++ rest) → begins_comment (word ++ rest) ≡ false → Longest word rest form → IsWithin form word →
      Scans (i + length gap + length word) rest more e →
      Scans i (gap ++ (word ++ rest)) (symbol (kind_of form) (i + length gap) (i + length gap + length word) ∷ more) e
  -- 10: no symbol begins with the byte
  bad_byte : {i : ℕ} {gap : List ℕ} {b : ℕ} {rest : List ℕ} →
      Gap gap (b ∷ rest) → begins_comment (b ∷ rest) ≡ false → ((w : List ℕ) → form_of (b ∷ w) ≡ None) →
      Scans i (gap ++ (b ∷ rest)) [] (Broken 10 (i + length gap))
  -- 11: the gap stops before a comment, so that comment isn't closed
  open_comment : {i : ℕ} {gap rest : List ℕ} → Gap gap rest → begins_comment rest ≡ true → Scans i (gap ++ rest) [] (Broken 11 (i + length gap))
  -- 12: the line or the text ends before the closing quote
  open_string : {i : ℕ} {gap rest : List ℕ} → Gap gap rest → Unclosed rest → Scans i (gap ++ rest) [] (Broken 12 (i + length gap))
  -- 13: a literal is past its range
  too_large : {i : ℕ} {gap word rest : List ℕ} {form : WordForm} →
      Gap gap (word ++ rest) → begins_comment (word ++ rest) ≡ false → Longest word rest form → IsTooLarge form →
      Scans i (gap ++ (word ++ rest)) [] (Broken 13 (i + length gap))
  -- 14: an identifier is too long
  too_long : {i : ℕ} {gap word rest : List ℕ} {form : WordForm} →
      Gap gap (word ++ rest) → begins_comment (word ++ rest) ≡ false → Longest word rest form → IsTooLong form word →
      Scans i (gap ++ (word ++ rest)) [] (Broken 14 (i + length gap))

-- the first fault of a text
abbrev pub IsFirst : List ℕ → ScanFault → Type 0
IsFirst w (Fault number at) = (before : List Symbol) × Scans zero w before (Broken number at)
IsFirst w Memory = Unit {0}

-- what stands in the text at a symbol: a word of a form that has the symbol's kind
pub record Spells (w : List ℕ) (s : Symbol) : Type 0 where
  pub form : WordForm
  pub is : form_of (slice_range w s.from s.to) ≡ Some form
  pub kind : s.kind ≡ kind_of form
  pub within : IsWithin form (slice_range w s.from s.to)

-- each of the symbols spells its kind
pub data AllSpell (w : List ℕ) : List Symbol → Type 0 where
  none_spelled : AllSpell w []
  spelled : {s : Symbol} {more : List Symbol} → Spells w s → AllSpell w more → AllSpell w (s ∷ more)

-- symbols that lie one after another in the bytes from low up to high, none of them empty
pub data InOrder : ℕ → List Symbol → ℕ → Type 0 where
  none : {low high : ℕ} → low ≤ high → InOrder low [] high
  next : {low high : ℕ} {s : Symbol} {more : List Symbol} → low ≤ s.from → s.from < s.to → InOrder s.to more high → InOrder low (s ∷ more) high
