-- Labels of values, and which of the judgement's they are.
use Rattle.std.specs.Prelude.{◌≡◌, ℕ, ℤ, List, [], ◌∷◌, ◌++◌, Bool, not, ◌&&◌, int_le, Option}
use Rattle.ob_syntax.specs.declared.names.Qualident.{Qualident}
use Rattle.ob_syntax.specs.declared.statements.High.{High}
use Rattle.ob_syntax.specs.declared.statements.NextRange.{NextRange}
use Rattle.ob_syntax.specs.declared.statements.Range.{Range}
use Rattle.ob_syntax.specs.declared.statements.Label.TheVariants as TheLabel
use Rattle.ob_judge.specs.Judged.{Judged, Keeps, ◌>>=◌, ◌>>◌, rule}
use Rattle.ob_judge.specs.Scopes.{World, Source}
use Rattle.ob_judge.specs.Cases as J
use Rattle.check_statements.specs.ranges.Ranges.{AreRanges}
use Rattle.check_statements.specs.declared.cases.labels.Labelled.{Labelled}

-- this is the number
abbrev pub IsNumber : ℤ → ℤ → Type 0
IsNumber n z = n ≡ z

-- these are the labels
pub record IsLabelled (x : Labelled) (a : J.Labelled) : Type 0 where
  pub labels : x.labels ≡ a.labels
  pub taken : AreRanges x.taken a.taken

module _ (p : Source) (w : World) (of_char : Bool) where
  abbrev pub named_label : Qualident → Judged ℤ
  named_label q = J.label p w of_char (TheLabel.Named q)

  -- one more range
  abbrev pub labelled_one : J.Labelled → Range → Judged J.Labelled
  labelled_one a r = do
    x ← J.range p w of_char r a.taken
    Keeps (record { labels = a.labels ++ x.labels; taken = x.taken })

  -- further ranges
  abbrev pub labelled_more : J.Labelled → List NextRange → Judged J.Labelled
  labelled_more a [] = Keeps a
  labelled_more a (r ∷ rs) = do
    z ← labelled_one a r.range
    labelled_more z rs

-- one more range, whose labels are known
abbrev pub labelled_ends : Source → World → (at : ℕ) → ℤ → ℤ → Option High → J.Labelled → Judged J.Labelled
labelled_ends p w at low high tree a = do
  rule 39 at (int_le low high && not (J.overlaps low high a.taken))
  Keeps (record { labels = a.labels ++ J.value_label low high tree ∷ []; taken = (low, high) ∷ a.taken })
