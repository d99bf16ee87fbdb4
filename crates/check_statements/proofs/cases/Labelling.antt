-- Labels judged one range after another.
use Rattle.std.proofs.Common.{◌≡◌, ℕ, ℤ, List, [], ◌∷◌, ◌++◌, ◌≤◌, length, get_or, Bool, Option, Some, None, refl, sym, ap, subst, ◌∙◌, append_assoc, append-nil, true, false, Ok, Err, not, ◌&&◌, arith}
use Rattle.std.specs.Prelude.{int_le}
use Rattle.ob_syntax.specs.declared.statements.High.{High}
use Rattle.ob_syntax.specs.declared.statements.NextRange.{NextRange}
use Rattle.ob_syntax.specs.declared.statements.Range.{Range}
use Rattle.ob_judge.specs.Judged.{Judged, Keeps, Breaks, ◌>>=◌, ◌>>◌, rule, some}
use Rattle.ob_judge.specs.Shapes.{Shape}
use Rattle.ob_judge.specs.Scopes.{World, Source, place}
use Rattle.ob_judge.specs.Cases as J
use Rattle.check_types.specs.steps.Answers.{Answers}
use Rattle.check_types.proofs.steps.Answering.{kept}
use Rattle.check_types.specs.declared.steps.fault.CheckFault.{CheckFault}
use Rattle.check_types.specs.declared.steps.fault.CheckFault.TheVariants.{Fault}
use Rattle.check_statements.specs.ranges.Ranges.{AreRanges}
use Rattle.check_statements.specs.declared.cases.labels.Labelled.{Labelled}
use Rattle.check_statements.specs.cases.Labels.{IsLabelled, labelled_ends, labelled_one, labelled_more}
use Rattle.check_statements.specs.cases.Selecting.{label_end, type_in_label}

-- a rule, what it keeps, and what is added to that
ruled : {A B : Type 0} (n at : ℕ) (b : Bool) (x : A) (f : A → Judged B) → ((rule n at b >> Keeps x) >>= f) ≡ (rule n at b >> f x)
ruled n at b x f = by b
  where
    by : (b : Bool) → ((rule n at b >> Keeps x) >>= f) ≡ (rule n at b >> f x)
    by true = refl
    by false = refl

module _ (p : Source) (w : World) (of_char : Bool) where
  -- what a range with these ends comes to
  abbrev ended : Range → J.Labelled → ℤ → ℤ → Judged J.Labelled
  ended r a low high = rule 39 (place p (J.label_symbol r.low)) (int_le low high && not (J.overlaps low high a.taken)) >> Keeps (record { labels = J.value_label low high r.high ∷ []; taken = (low, high) ∷ a.taken })

  abbrev added_to : J.Labelled → J.Labelled → Judged J.Labelled
  added_to a y = Keeps (record { labels = a.labels ++ y.labels; taken = y.taken })

  with_high : (r : Range) (a : J.Labelled) (low : ℤ) (m : Judged ℤ) →
      ((m >>= λ high. ended r a low high) >>= λ x. added_to a x) ≡ (m >>= λ high. labelled_ends p w (place p (J.label_symbol r.low)) low high r.high a)
  with_high r a low (Keeps high) = ruled 39 (place p (J.label_symbol r.low)) (int_le low high && not (J.overlaps low high a.taken)) (record { labels = J.value_label low high r.high ∷ []; taken = (low, high) ∷ a.taken }) (λ x. added_to a x)
  with_high r a low (Breaks n at) = refl

  with_low : (r : Range) (a : J.Labelled) (m : Judged ℤ) →
      ((m >>= λ low. J.high_label p w of_char low r.high >>= λ high. ended r a low high) >>= λ x. added_to a x)
      ≡ (m >>= λ low. J.high_label p w of_char low r.high >>= λ high. labelled_ends p w (place p (J.label_symbol r.low)) low high r.high a)
  with_low r a (Keeps low) = with_high r a low (J.high_label p w of_char low r.high)
  with_low r a (Breaks n at) = refl

  pub one_is : (a : J.Labelled) (r : Range) → labelled_one p w of_char a r
      ≡ (J.label p w of_char r.low >>= λ low. J.high_label p w of_char low r.high >>= λ high. labelled_ends p w (place p (J.label_symbol r.low)) low high r.high a)
  one_is a r = with_low r a (J.label p w of_char r.low)

  -- ---- all ranges

  added_twice : (a x : J.Labelled) (m : Judged J.Labelled) → ((m >>= λ y. added_to x y) >>= λ y. added_to a y) ≡ (m >>= λ y. added_to (record { labels = a.labels ++ x.labels; taken = x.taken }) y)
  added_twice a x (Keeps y) = ap (λ ls. Keeps (record { labels = ls; taken = y.taken })) (sym (append_assoc a.labels x.labels y.labels))
  added_twice a x (Breaks n at) = refl

  alone : (a : J.Labelled) (m : Judged J.Labelled) → ((m >>= λ x. Keeps (record { labels = x.labels ++ []; taken = x.taken })) >>= λ y. added_to a y) ≡ ((m >>= λ x. added_to a x) >>= λ z. Keeps z)
  alone a (Keeps x) = ap (λ ls. Keeps (record { labels = a.labels ++ ls; taken = x.taken })) (append-nil x.labels)
  alone a (Breaks n at) = refl

  further : (a : J.Labelled) (r : NextRange) (rs : List NextRange) (m : Judged J.Labelled) →
      ((z : J.Labelled) → (J.ranges p w of_char (J.as_list r.range rs) z.taken >>= λ y. added_to z y) ≡ labelled_more p w of_char z (r ∷ rs)) →
      ((m >>= λ x. J.ranges p w of_char (J.as_list r.range rs) x.taken >>= λ y. added_to x y) >>= λ y. added_to a y) ≡ ((m >>= λ x. added_to a x) >>= λ z. labelled_more p w of_char z (r ∷ rs))
  further a r rs (Keeps x) rest = added_twice a x (J.ranges p w of_char (J.as_list r.range rs) x.taken) ∙ rest (record { labels = a.labels ++ x.labels; taken = x.taken })
  further a r rs (Breaks n at) rest = refl

  more_are : (a : J.Labelled) (first : Range) (more : List NextRange) → (J.ranges p w of_char (J.as_list first more) a.taken >>= λ y. added_to a y) ≡ (labelled_one p w of_char a first >>= λ z. labelled_more p w of_char z more)
  more_are a first [] = alone a (J.range p w of_char first a.taken)
  more_are a first (r ∷ rs) = further a r rs (J.range p w of_char first a.taken) (λ z. more_are z r.range rs)

  itself : (m : Judged J.Labelled) → m ≡ (m >>= λ y. Keeps (record { labels = y.labels; taken = y.taken }))
  itself (Keeps y) = refl
  itself (Breaks n at) = refl

  pub ranges_are : (ts : List (ℤ × ℤ)) (first : Range) (more : List NextRange) →
      J.ranges p w of_char (J.as_list first more) ts ≡ (labelled_one p w of_char (record { labels = []; taken = ts }) first >>= λ z. labelled_more p w of_char z more)
  ranges_are ts first more = itself (J.ranges p w of_char (J.as_list first more) ts) ∙ more_are (record { labels = []; taken = ts }) first more

-- ---- labels of types

module _ (p : Source) (w : World) where
  pub type_label_is : (s : Shape) (is_first : Bool) (r : Range) → J.type_label p w s is_first r
      ≡ (type_in_label p w (place p (J.label_symbol r.low)) r.low >>= λ t. label_end p w (place p (J.label_symbol r.low)) s is_first r.high t)
  type_label_is s is_first r = by (J.label_object p w r.low)
    where
      by : (m : Judged _) → (m >>= λ o. some 39 (place p (J.label_symbol r.low)) (J.label_type o) >>= λ t. label_end p w (place p (J.label_symbol r.low)) s is_first r.high t)
          ≡ ((m >>= λ o. some 39 (place p (J.label_symbol r.low)) (J.label_type o)) >>= λ t. label_end p w (place p (J.label_symbol r.low)) s is_first r.high t)
      by (Keeps o) = refl
      by (Breaks n at) = refl

  pub two_labels : (s : Shape) (first : Range) (more : List NextRange) (d : NextRange) → 1 ≤ length more → J.type_labels p w s first more
      ≡ (J.type_label p w s true first >>= λ _. J.type_label p w s false (get_or more 0 d).range)
  two_labels s first [] d h = absurd (omega (arith, h))
  two_labels s first (r ∷ rs) d h = refl

-- ---- the last steps

-- there is one, or none, and nothing behind it
pub there_last : {A B : Type 0} {S : B → A → Type 0} {b : B} {o : Option A} {a : A} (n at : ℕ) → o ≡ Some a → S b a → Answers S (some n at o) (Ok b)
there_last {S} {b} n at e h = subst (λ o. Answers S (some n at o) (Ok b)) (sym e) (record { by = h })

pub missing_last : {A B : Type 0} {S : B → A → Type 0} {o : Option A} {e : CheckFault} (n at : ℕ) → o ≡ None → e ≡ Fault n at → Answers S (some n at o) (Err e)
missing_last {S} {e} n at i j = subst (λ o. Answers S (some n at o) (Err e)) (sym i) (subst (λ (z : CheckFault). Answers S (some n at None) (Err z)) (sym j) (record { by = (refl, refl) }))

pub ends_kept : (p : Source) (w : World) (at : ℕ) (low high : ℤ) (tree : Option High) (a : J.Labelled) (x : Labelled) →
    (int_le low high && not (J.overlaps low high a.taken)) ≡ true → x.labels ≡ a.labels ++ J.value_label low high tree ∷ [] → AreRanges x.taken ((low, high) ∷ a.taken) → Answers IsLabelled (labelled_ends p w at low high tree a) (Ok x)
ends_kept p w at low high tree a x t l r = kept 39 at (Keeps (record { labels = a.labels ++ J.value_label low high tree ∷ []; taken = (low, high) ∷ a.taken })) t (record { by = record { labels = l; taken = r } })
