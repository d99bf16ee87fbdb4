-- What parts leave as it was.
use Rattle.std.proofs.Common.{◌≡◌, ℕ, ◌+◌, List, [], ◌∷◌, length, Bool, true, false, not, Option, Some, None, refl, sym, ap, ◌∙◌}
use Rattle.std.specs.Prelude.{is_some, nat_le}
use Rattle.ob_syntax.specs.Syntax as S
use Rattle.ob_judge.specs.Judged.{Judged, Keeps, Breaks, ◌>>=◌, rule}
use Rattle.ob_judge.specs.Shapes.{Shape}
use Rattle.ob_judge.specs.Scopes.{Source, place, spelled}
use Rattle.ob_judge.specs.Making.{Making, is_among}
use Rattle.ob_judge.specs.Parameters.{Listed, no_parameters, stand, type_at, opened, words_of, listed, declare_parameter, add_parameters, section, next_sections, sections, next_names, result_shape, formal_part}
use Rattle.judged_well.specs.Gives.{Gives}
use Rattle.judged_well.proofs.Judging.{keeps, breaks, weaken, and_then}

-- all but the names that stand is as it was
pub record IsBeside (m n : Making) : Type 0 where
  pub same : n ≡ record m { standing = n.standing }

pub beside_on : (m n k : Making) → IsBeside m n → IsBeside n k → IsBeside m k
beside_on m n k g h = record { same = h.same ∙ ap (λ (z : Making). record z { standing = k.standing }) g.same }

beside_self : (m : Making) → IsBeside m m
beside_self m = record { same = refl }

-- what is judged in the scope as it is leaves it
pub looked : {A : Type 0} (j : Judged A) (m : Making) → Gives (λ (a : A × Making). a.1 ≡ m) (j >>= λ a. Keeps (a, m))
looked {A = A} (Keeps a) m = keeps (λ (a : A × Making). a.1 ≡ m) (a, m) refl
looked {A = A} (Breaks n at) m = breaks (λ (a : A × Making). a.1 ≡ m) n at

module _ (p : Source) where
  pub stand_beside : (xs : List ℕ) (m : Making) → Gives (λ (a : Unit {0} × Making). IsBeside m a.1) (stand p xs m)
  stand_beside [] m = keeps (λ (a : Unit {0} × Making). IsBeside m a.1) (tt, m) (beside_self m)
  stand_beside (i ∷ is) m = and_then (looked (rule 36 (place p i) (not (is_among (spelled p i) m.standing))) m) (λ a h.
      weaken (stand_beside is (record (a.1) { standing = spelled p i ∷ (a.1).standing })) (λ b k. record { same = k.same ∙ ap (λ (z : Making). record z { standing = (b.1).standing }) h }))

  -- ---- the procedure stays open

  abbrev pub StaysIn : {A : Type 0} → Making → A × Making → Type 0
  StaysIn m a = (a.1).world.procedure ≡ m.world.procedure

  pub stand_stays : (xs : List ℕ) (m : Making) → Gives (StaysIn m) (stand p xs m)
  stand_stays xs m = weaken (stand_beside xs m) (λ a h. ap (λ (n : Making). n.world.procedure) h.same)

  pub declared_stays : (known_here : Bool) (i : ℕ) (v : Bool) (s : Shape) (number : ℕ) (m : Making) → Gives (StaysIn m) (declare_parameter p known_here i v s number m)
  declared_stays true i v s number m = keeps (StaysIn m) _ refl
  declared_stays false i v s number m = keeps (StaysIn m) _ refl

  pub added_stays : (known_here v : Bool) (s : Shape) (xs : List ℕ) (l : Listed) (m : Making) → Gives (StaysIn m) (add_parameters p known_here v s xs l m)
  added_stays known_here v s [] l m = keeps (StaysIn m) (l, m) refl
  added_stays known_here v s (i ∷ is) l m = and_then (looked (rule 40 (place p i) (nat_le (l.words + words_of v s) 24)) m) (λ a h.
      and_then (declared_stays known_here i v s (length l.parameters) a.1) (λ b k.
      weaken (added_stays known_here v s is (listed v s l) b.1) (λ c g. g ∙ k ∙ ap (λ (n : Making). n.world.procedure) h)))

  pub section_stays : (known_here : Bool) (x : S.Section) (l : Listed) (m : Making) → Gives (StaysIn m) (section p known_here x l m)
  section_stays known_here x l m = and_then (stand_stays (x.first ∷ next_names x.more) m) (λ a h. and_then (looked (type_at p 31 x.of (a.1).world) a.1) (λ s k.
      weaken (added_stays known_here (is_some x.var_word) (opened (is_some x.open_array) s.0) (x.first ∷ next_names x.more) l s.1) (λ c g. g ∙ ap (λ (n : Making). n.world.procedure) k ∙ h)))

  -- ---- names that aren't made known leave all but those that stand

  abbrev pub StaysBeside : {A : Type 0} → Making → A × Making → Type 0
  StaysBeside m a = IsBeside m a.1

  added_beside : (v : Bool) (s : Shape) (xs : List ℕ) (l : Listed) (m : Making) → Gives (StaysBeside m) (add_parameters p false v s xs l m)
  added_beside v s [] l m = keeps (StaysBeside m) (l, m) (beside_self m)
  added_beside v s (i ∷ is) l m = and_then (looked (rule 40 (place p i) (nat_le (l.words + words_of v s) 24)) m) (λ a h.
      weaken (added_beside v s is (listed v s l) a.1) (λ c g. record { same = g.same ∙ ap (λ (z : Making). record z { standing = (c.1).standing }) h }))

  section_beside : (x : S.Section) (l : Listed) (m : Making) → Gives (StaysBeside m) (section p false x l m)
  section_beside x l m = and_then (stand_beside (x.first ∷ next_names x.more) m) (λ a h. and_then (looked (type_at p 31 x.of (a.1).world) a.1) (λ s k.
      weaken (added_beside (is_some x.var_word) (opened (is_some x.open_array) s.0) (x.first ∷ next_names x.more) l s.1) (λ c g. record { same = g.same ∙ ap (λ (z : Making). record z { standing = (c.1).standing }) (k ∙ h.same) })))

  next_beside : (xs : List S.NextSection) (l : Listed) (m : Making) → Gives (StaysBeside m) (next_sections p false xs l m)
  next_beside [] l m = keeps (StaysBeside m) (l, m) (beside_self m)
  next_beside (x ∷ xs) l m = and_then (section_beside x.section l m) (λ a h. weaken (next_beside xs a.0 a.1) (λ b k. beside_on m a.1 b.1 h k))

  sections_beside : (x : Option S.Sections) (m : Making) → Gives (StaysBeside m) (sections p false x m)
  sections_beside None m = keeps (StaysBeside m) (no_parameters, m) (beside_self m)
  sections_beside (Some x) m = and_then (section_beside x.first no_parameters m) (λ a h. weaken (next_beside x.more a.0 a.1) (λ b k. beside_on m a.1 b.1 h k))

  pub heading_beside : (x : Option S.Formals) (m : Making) → Gives (StaysBeside m) (formal_part p false x m)
  heading_beside None m = keeps (StaysBeside m) _ (beside_self m)
  heading_beside (Some x) m = and_then (sections_beside x.sections m) (λ a h. and_then (looked (result_shape p x.result (a.1).world) a.1) (λ b k.
      keeps (StaysBeside m) ((a.0, b.0), b.1) (record { same = k ∙ h.same ∙ ap (λ (n : Making). record m { standing = n.standing }) (sym k) })))
