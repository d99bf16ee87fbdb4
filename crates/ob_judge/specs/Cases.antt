-- The labels of a CASE judged, and what it is on (Oberon-07 report, section 9.5).
use Rattle.std.specs.Prelude.{ℕ, List, [], ◌∷◌, ◌++◌, Bool, true, false, not, ◌&&◌, ◌||◌, if◌then◌else◌, Option, Some, None, ℤ, pos, int_le}
use Rattle.wrapping_numbers.specs.Numbers.{signed}
use Rattle.ob_syntax.specs.declared.statements.NextRange.{NextRange}
use Rattle.ob_syntax.specs.declared.statements.Range.{Range}
use Rattle.ob_syntax.specs.declared.statements.High.{High}
use Rattle.ob_syntax.specs.declared.statements.Label.{Label}
use Rattle.ob_syntax.specs.declared.statements.Label.TheVariants as TheLabel
use Rattle.ob_types.specs.declared.statements.Label.{Label as ValueLabel}
use Rattle.ob_types.specs.declared.statements.Label.TheVariants as TheValueLabel
use Rattle.ob_judge.specs.Judged.{Judged, Keeps, Breaks, ◌>>=◌, ◌>>◌, rule, some}
use Rattle.ob_judge.specs.Shapes.{Shape, Integer, Char, Record, Pointer, Known, extends, is_number, is_pointer, target_of}
use Rattle.ob_judge.specs.Image.{Place, Constant, Bits, When, Labels, Extends, Statement, CasePointer, CaseParameter, Parts}
use Rattle.ob_judge.specs.Image as Tree
use Rattle.ob_judge.specs.Scopes.{Object, AConstant, AType, AVariable, Entry, World, Source, look_up, symbol_at, place, spelled, characters}
use Rattle.ob_judge.specs.Operands.{Operand, checked, designator_of, is_tagged_home}
use Rattle.ob_judge.specs.Names.{qualified, member_symbol}
use Rattle.ob_judge.specs.Parts.{int_of, char_of}

-- labels of a part, and all labels before them, each from one value up to another
pub record Labelled : Type 0 where
  pub labels : List ValueLabel
  pub taken : List (ℤ × ℤ)

abbrev pub overlaps : ℤ → ℤ → List (ℤ × ℤ) → Bool
overlaps low high [] = false
overlaps low high (r ∷ rs) = int_le r.0 high && int_le low r.1 || overlaps low high rs

abbrev pub as_list : Range → List NextRange → List Range
as_list first [] = first ∷ []
as_list first (r ∷ rs) = first ∷ as_list r.range rs

-- what a CASE is on: INTEGER or CHAR, or the type of a variable named by its identifier
pub data SelectorOf : Type 0 where
  OnInteger OnChar : SelectorOf
  OnType : (variable : Place) → (shape : Shape) → SelectorOf

-- of INTEGER (false) or CHAR (true): a string of one character is a character
abbrev pub label_in : (of_char : Bool) → Constant → Option ℤ
label_in false (Bits Integer n) = Some (signed n)
label_in true (Bits Char n) = Some (pos n)
label_in true (Tree.Chars (c ∷ [])) = Some (pos c)
label_in of_char c = None

abbrev pub constant_only : Object → Option Constant
constant_only (AConstant c) = Some c
constant_only o = None

abbrev pub label_symbol : Label → ℕ
label_symbol (TheLabel.Int i) = i
label_symbol (TheLabel.Char i) = i
label_symbol (TheLabel.Text i) = i
label_symbol (TheLabel.Named q) = q.name

abbrev pub value_label : ℤ → ℤ → Option High → ValueLabel
value_label low high None = TheValueLabel.One low
value_label low high (Some h) = TheValueLabel.Range low high

abbrev pub label_type : Option Object → Option Shape
label_type (Some (AType s)) = Some s
label_type o = None

abbrev pub case_variable : Option Object → Option Place
case_variable (Some (AVariable v)) = if is_pointer v.shape || is_tagged_home v.home then Some v.place else None
case_variable o = None

abbrev pub entry_object : Option Entry → Option Object
entry_object None = None
entry_object (Some e) = Some e.object

abbrev pub on_values : Shape → Option SelectorOf
on_values s = if is_number s then Some OnInteger else elim s as (λ _. Option SelectorOf) [ Char ↦ Some OnChar | other ↦ None ]

abbrev pub selector_of : Option Place → Shape → Option SelectorOf
selector_of (Some d) s = Some (OnType d s)
selector_of None s = on_values s

abbrev pub tag_of : Known → Shape → ℕ
tag_of known (Record r) = r
tag_of known s = elim (target_of known s) as (λ _. ℕ) [ Some r ↦ r | None ↦ 0 ]

-- in a part for a type each read of the variable is its guard
abbrev pub narrow : World → Place → Shape → World
narrow w d t = record w { narrowed = record { variable = d; shape = t; tag = tag_of w.known t } ∷ w.narrowed }

abbrev pub case_of : SelectorOf → Operand → Parts → Statement
case_of (OnType d (Pointer n)) x parts = CasePointer (checked x) parts
case_of (OnType d s) x parts = CaseParameter (designator_of x) parts
case_of s x parts = Tree.Case (checked x) parts

module _ (p : Source) where
  -- ---- labels

  abbrev pub label_constant : World → Label → Judged Constant
  label_constant w (TheLabel.Int i) = Keeps (Bits Integer (int_of (symbol_at p i).kind))
  label_constant w (TheLabel.Char i) = Keeps (Bits Char (char_of (symbol_at p i).kind))
  label_constant w (TheLabel.Text i) = Keeps (Tree.Chars (characters p i))
  label_constant w (TheLabel.Named q) = do
    o ← qualified p w q.name (member_symbol q.member)
    some 39 (place p q.name) (constant_only o)

  abbrev pub label : World → Bool → Label → Judged ℤ
  label w of_char l = do
    c ← label_constant w l
    some 39 (place p (label_symbol l)) (label_in of_char c)

  abbrev pub high_label : World → Bool → ℤ → Option High → Judged ℤ
  high_label w of_char low None = Keeps low
  high_label w of_char low (Some h) = label w of_char h.label

  -- 39 at the first label of a range that runs downward or overlaps
  abbrev pub range : World → Bool → Range → List (ℤ × ℤ) → Judged Labelled
  range w of_char r taken = do
    low ← label w of_char r.low
    high ← high_label w of_char low r.high
    rule 39 (place p (label_symbol r.low)) (int_le low high && not (overlaps low high taken))
    Keeps (record { labels = value_label low high r.high ∷ []; taken = (low, high) ∷ taken })

  abbrev pub ranges : World → Bool → List Range → List (ℤ × ℤ) → Judged Labelled
  ranges w of_char [] taken = Keeps (record { labels = []; taken = taken })
  ranges w of_char (r ∷ rs) taken = do
    x ← range w of_char r taken
    y ← ranges w of_char rs x.taken
    Keeps (record { labels = x.labels ++ y.labels; taken = y.taken })

  -- a label of a CASE on types
  abbrev pub label_object : World → Label → Judged (Option Object)
  label_object w (TheLabel.Named q) = do
    o ← qualified p w q.name (member_symbol q.member)
    Keeps (Some o)
  label_object w l = Keeps None

  abbrev pub no_high : World → (at : ℕ) → Option High → Judged (Unit {0})
  no_high w at None = Keeps tt
  no_high w at (Some h) = do
    _ ← label_object w h.label
    Breaks 39 at

  -- 39: no type that extends the variable's, a range, a second label
  abbrev pub type_label : World → Shape → (is_first : Bool) → Range → Judged Shape
  type_label w s is_first r = do
    o ← label_object w r.low
    t ← some 39 (place p (label_symbol r.low)) (label_type o)
    rule 39 (place p (label_symbol r.low)) (extends w.known t s)
    no_high w (place p (label_symbol r.low)) r.high
    rule 39 (place p (label_symbol r.low)) is_first
    Keeps t

  abbrev pub type_labels : World → Shape → Range → List NextRange → Judged Shape
  type_labels w s first [] = type_label w s true first
  type_labels w s first (r ∷ rs) = do
    _ ← type_label w s true first
    type_label w s false r.range

  -- ---- CASE

  abbrev pub named_alone : World → Option (ℕ × Option ℕ) → Option Object
  named_alone w (Some (name, None)) = entry_object (look_up (spelled p name) w.levels)
  named_alone w q = None

  -- the labels of a part: when it is done, the world of its body, and all labels so far
  abbrev pub when_of : World → SelectorOf → List (ℤ × ℤ) → Range → List NextRange → Judged (When × World × List (ℤ × ℤ))
  when_of w OnInteger taken first more = do
    x ← ranges w false (as_list first more) taken
    Keeps (Labels x.labels, w, x.taken)
  when_of w OnChar taken first more = do
    x ← ranges w true (as_list first more) taken
    Keeps (Labels x.labels, w, x.taken)
  when_of w (OnType d s) taken first more = do
    t ← type_labels w s first more
    Keeps (Extends (tag_of w.known t), narrow w d t, taken)
