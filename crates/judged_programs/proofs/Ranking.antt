-- An order in which record types are completed: each behind its base and the record types that its fields have by value.
use Rattle.std.proofs.Common.{◌≡◌, ℕ, suc, ◌+◌, ◌<◌, ◌≤◌, List, [], ◌∷◌, ◌++◌, length, Bool, true, false, ◌==◌, Some, refl, ap, ap₂, sym, ◌∙◌, subst, arith, eqb-true, eq-eqb, inl, inr}
use Rattle.std.specs.Prelude.{slice_get, slice_set, if◌then◌else◌}
use Rattle.ob_types.proofs.Tests.{some_same, less_or_past}
use Rattle.ob_types.specs.Trees.{with_part, rounded_extent}
use Rattle.ob_types.specs.declared.types.Extent.{Extent}
use Rattle.ob_judge.specs.Shapes.{Shape, Added, Layout, extent_in}
use Rattle.ob_judge.specs.Making.{no_layout}
use Rattle.ob_judge.specs.Types.{limit}
use Rattle.judged_modules.proofs.Lists.{get_append, get_last, get_within, set_other, set_here, append_length}
use Rattle.judged_modules.specs.Lines.{AllLines, IsLine}
use Rattle.judged_modules.proofs.Lines.{decided}
use Rattle.judged_modules.specs.Lists.{Each}
use Rattle.judged_modules.proofs.TypesGrow.{each_map}
use Rattle.judged_programs.specs.Complete.{IsComplete, IsKnown, CompleteStay}
use Rattle.judged_programs.specs.LegalTable.{extent_with}
use Rattle.judged_programs.proofs.Cores.{known_later, cells_same, inherited_same, extents_same, extended_same, line_head, base_complete}
use Rattle.judged_programs.specs.Ranked.{IsBefore, IsLegalRecord, IsRanked, cells_of_all, counted, inherited, measured, with_all, extended, IsBase, no_base, some_base, IsAdding}

cells_all_same : (records more : List Layout) → CompleteStay records more → (rank : ℕ → ℕ) (r : ℕ) (xs : List Added) → Each (IsBefore records rank r) xs → cells_of_all (counted more) xs ≡ cells_of_all (counted records) xs
cells_all_same records more later rank r [] h = refl
cells_all_same records more later rank r (x ∷ xs) h = ap₂ (λ a b. a + b) (cells_same records more later x.shape (h.0).0.core_there) (cells_all_same records more later rank r xs h.1)

all_same : (records more : List Layout) → CompleteStay records more → (rank : ℕ → ℕ) (r : ℕ) (xs : List Added) → Each (IsBefore records rank r) xs → (e f : Extent) → e ≡ f → with_all (measured more) e xs ≡ with_all (measured records) f xs
all_same records more later rank r [] h e f is = is
all_same records more later rank r (x ∷ xs) h e f is =
    all_same records more later rank r xs h.1 (with_part e (extent_with (measured more) x.shape)) (with_part f (extent_with (measured records) x.shape)) (ap₂ with_part is (extents_same records more later x.shape (h.0).0.core_there))

-- what is legal stays so, where complete record types and their ranks stay
pub legal_later : (records more : List Layout) (rank after : ℕ → ℕ) (clock until r : ℕ) (l : Layout) → CompleteStay records more → ((k : ℕ) → IsComplete records k → after k ≡ rank k) → after r ≡ rank r → clock ≤ until
    → AllLines records → IsLine records r l.line → IsLegalRecord records rank clock r l → IsLegalRecord more after until r l
legal_later records more rank after clock until r l later ranks mine longer all line h = record {
  before = λ some. let b = h.before some in omega (arith, b, mine, longer);
  short = h.short;
  few = h.few;
  added = each_map (IsBefore records rank r) (IsBefore more after r) l.added (λ x k. (known_later records more later x.shape k.0, λ c is. let b = k.1 c is in let e = ranks c (k.0.core_there c is) in omega (arith, b, e, mine))) h.added;
  base = λ x b more e. let k = h.base x b more e in let i = ranks b (base_complete records all r l.line line x b more e) in omega (arith, k, i, mine);
  cells = h.cells ∙ sym (ap₂ (λ a b. a + b) (inherited_same records more later all r l.line line) (cells_all_same records more later rank r l.added h.added));
  extent = h.extent ∙ sym (ap rounded_extent (all_same records more later rank r l.added h.added (extended more l.line) (extended records l.line) (extended_same records more later all r l.line line)));
}

-- one more record type, of which nothing is known
blank_legal : (records : List Layout) (rank : ℕ → ℕ) (clock r : ℕ) (l : Layout) → l ≡ no_layout → IsLegalRecord records rank clock r l
blank_legal records rank clock r l e = subst (λ x. IsLegalRecord records rank clock r x) (sym e) (record {
  before = λ some. absurd (some refl);
  short = omega arith;
  few = omega arith;
  added = tt;
  base = λ x b more i. absurd (let z = i in cc);
  cells = refl;
  extent = refl;
})

is_last : (r n : ℕ) → n ≤ r → r < suc n → r ≡ n
is_last r n a b = omega (arith, a, b)

last_more : (xs : List Layout) (y : Layout) (r : ℕ) → r < length (xs ++ y ∷ []) → r < suc (length xs)
last_more xs y r l = let h = append_length xs (y ∷ []) in omega (arith, l, h)

pub blank_later : (records : List Layout) → CompleteStay records (records ++ no_layout ∷ [])
blank_later records r h = get_append records (no_layout ∷ []) r (get_within records r h.layout h.there)

pub ranked_with_record : (records : List Layout) → AllLines records → IsRanked records → IsRanked (records ++ no_layout ∷ [])
ranked_with_record records all h = record {
  rank = h.rank;
  clock = h.clock;
  each = λ r l at. elim (less_or_past r (length records)) as (λ _. IsLegalRecord (records ++ no_layout ∷ []) h.rank h.clock r l) [
    | inl less ↦
        let was : slice_get records r ≡ Some l = sym (get_append records (no_layout ∷ []) r less) ∙ at in
        legal_later records (records ++ no_layout ∷ []) h.rank h.rank h.clock h.clock r l (blank_later records) (λ k i. refl) refl (omega arith) all (all r l was) (h.each r l was)
    | inr past ↦
        let e = is_last r (length records) past (last_more records no_layout r (get_within (records ++ no_layout ∷ []) r l at)) in
        blank_legal (records ++ no_layout ∷ []) h.rank h.clock r l (sym (some_same no_layout l (sym (get_last records no_layout) ∙ ap (slice_get (records ++ no_layout ∷ [])) (sym e) ∙ at)))
  ];
}

-- ---- a record type that becomes complete

pub set_later : (records : List Layout) (n : ℕ) (l : Layout) → slice_get records n ≡ Some no_layout → CompleteStay records (slice_set records n l)
set_later records n l empty r h = set_other records n r l (λ e. apart e)
  where
    apart : r ≡ n → ⊥
    apart e = h.ended (sym (ap (λ x. x.line) (some_same no_layout h.layout (sym empty ∙ ap (slice_get records) (sym e) ∙ h.there))))

pub base_later : (records more : List Layout) → CompleteStay records more → (b : Layout) → IsBase records b → IsBase more b
base_later records more later b (no_base i j e) = no_base i j e
base_later records more later b (some_base r l at some i j e k) = some_base r l (later r (record { layout = l; there = at; ended = some }) ∙ at) some i j e k

known_all_same : (records more : List Layout) → CompleteStay records more → (xs : List Added) → Each (λ x. IsKnown records x.shape) xs → cells_of_all (counted more) xs ≡ cells_of_all (counted records) xs
known_all_same records more later [] h = refl
known_all_same records more later (x ∷ xs) h = ap₂ (λ a b. a + b) (cells_same records more later x.shape (h.0).core_there) (known_all_same records more later xs h.1)

known_all : (records more : List Layout) → CompleteStay records more → (xs : List Added) → Each (λ x. IsKnown records x.shape) xs → (e f : Extent) → e ≡ f → with_all (measured more) e xs ≡ with_all (measured records) f xs
known_all records more later [] h e f is = is
known_all records more later (x ∷ xs) h e f is =
    known_all records more later xs h.1 (with_part e (extent_with (measured more) x.shape)) (with_part f (extent_with (measured records) x.shape)) (ap₂ with_part is (extents_same records more later x.shape (h.0).core_there))

pub adding_later : (records more : List Layout) → CompleteStay records more → (b g : Layout) → IsAdding records b g → IsAdding more b g
adding_later records more later b g h = record {
  line = h.line;
  added = each_map (λ x. IsKnown records x.shape) (λ x. IsKnown more x.shape) g.added (λ x k. known_later records more later x.shape k) h.added;
  cells = h.cells ∙ sym (ap (λ c. b.cells + c) (known_all_same records more later g.added h.added));
  extent = h.extent ∙ sym (known_all records more later g.added h.added b.extent b.extent refl);
}

module _ (records : List Layout) (n : ℕ) (empty : slice_get records n ≡ Some no_layout) (all : AllLines records) (h : IsRanked records) where
  -- the last of all
  abbrev after : ℕ → ℕ
  after r = if r == n then h.clock else h.rank r

  after_here : after n ≡ h.clock
  after_here = ap (λ b. if b then h.clock else h.rank n) (eq-eqb n n refl)

  after_other : (r : ℕ) → (r ≡ n → ⊥) → after r ≡ h.rank r
  after_other r d = by (r == n) refl
    where
      by : (b : Bool) → (r == n) ≡ b → (if b then h.clock else h.rank r) ≡ h.rank r
      by true e = absurd (d (eqb-true r n e))
      by false e = refl

  complete_apart : (r : ℕ) → IsComplete records r → r ≡ n → ⊥
  complete_apart r k e = k.ended (sym (ap (λ x. x.line) (some_same no_layout k.layout (sym empty ∙ ap (slice_get records) (sym e) ∙ k.there))))

  rank_of_complete : (r : ℕ) → IsComplete records r → h.rank r < h.clock
  rank_of_complete r k = (h.each r k.layout k.there).before k.ended

  pub ranked_set : (b g l : Layout) → IsBase records b → IsAdding records b g → l.line ≡ n ∷ g.line → l.added ≡ g.added → l.cells ≡ g.cells → l.extent ≡ rounded_extent g.extent → l.cells ≤ limit → IsRanked (slice_set records n l)
  ranked_set b g l base adding line added cells extent few = record {
    rank = after;
    clock = suc h.clock;
    each = λ r m at. elim (decided r n) as (λ _. IsLegalRecord (slice_set records n l) after (suc h.clock) r m) [
      | inl e ↦
          let same : l ≡ m = some_same l m (sym (set_here records n l (get_within records n no_layout empty)) ∙ ap (slice_get (slice_set records n l)) (sym e) ∙ at) in
          subst (λ k. IsLegalRecord (slice_set records n l) after (suc h.clock) k m) (sym e) (subst (λ x. IsLegalRecord (slice_set records n l) after (suc h.clock) n x) same new)
      | inr d ↦
          let was : slice_get records r ≡ Some m = sym (set_other records n r l d) ∙ at in
          legal_later records (slice_set records n l) h.rank after h.clock (suc h.clock) r m later (λ k i. after_other k (complete_apart k i)) (after_other r d) (omega arith) all (all r m was) (h.each r m was)
    ];
  }
    where
      later : CompleteStay records (slice_set records n l)
      later = set_later records n l empty

      now : IsAdding (slice_set records n l) b g
      now = adding_later records (slice_set records n l) later b g adding

      -- the line with its base
      whole : l.line ≡ n ∷ b.line
      whole = line ∙ ap (λ xs. n ∷ xs) adding.line

      short_of : IsBase records b → length b.line ≤ 15
      short_of (no_base i j u) = let e = ap length i in omega (arith, e)
      short_of (some_base r m at some i j u k) = let e = ap length i in omega (arith, e, k)

      same_tail : (x y : ℕ) (xs ys : List ℕ) → x ∷ xs ≡ y ∷ ys → xs ≡ ys
      same_tail x y xs ys e = cc

      base_rank : IsBase records b → (x c : ℕ) (more : List ℕ) → l.line ≡ x ∷ c ∷ more → after c < after n
      base_rank (no_base i j u) x c more e = absurd (let z = sym i ∙ same_tail n x b.line (c ∷ more) (sym whole ∙ e) in cc)
      base_rank (some_base r m at some i j u k) x c more e =
          let it = same_tail n x b.line (c ∷ more) (sym whole ∙ e) in
          let same : c ≡ r = line_head records r m.line (all r m at) c more (sym i ∙ it) in
          let complete : IsComplete records c = record { layout = m; there = ap (slice_get records) same ∙ at; ended = some } in
          let a = after_here in let o = after_other c (complete_apart c complete) in let l = rank_of_complete c complete in
          omega (arith, a, o, l)

      base_cells : IsBase records b → (zs : List ℕ) → b.line ≡ zs → b.cells ≡ inherited (slice_set records n l) (n ∷ zs)
      base_cells (no_base i j u) [] e = j
      base_cells (no_base i j u) (z ∷ zs) e = absurd (let y = sym i ∙ e in cc)
      base_cells (some_base r m at some i j u k) [] e = absurd (some (sym i ∙ e))
      base_cells (some_base r m at some i j u k) (z ∷ zs) e =
          let same : z ≡ r = line_head records r m.line (all r m at) z zs (sym i ∙ e) in
          let complete : IsComplete records z = record { layout = m; there = ap (slice_get records) same ∙ at; ended = some } in
          j ∙ sym (ap Rattle.ob_judge.specs.Shapes.cells_of (later z complete ∙ complete.there))

      base_extent : IsBase records b → (zs : List ℕ) → b.line ≡ zs → b.extent ≡ extended (slice_set records n l) (n ∷ zs)
      base_extent (no_base i j u) [] e = u
      base_extent (no_base i j u) (z ∷ zs) e = absurd (let y = sym i ∙ e in cc)
      base_extent (some_base r m at some i j u k) [] e = absurd (some (sym i ∙ e))
      base_extent (some_base r m at some i j u k) (z ∷ zs) e =
          let same : z ≡ r = line_head records r m.line (all r m at) z zs (sym i ∙ e) in
          let complete : IsComplete records z = record { layout = m; there = ap (slice_get records) same ∙ at; ended = some } in
          u ∙ sym (ap extent_in (later z complete ∙ complete.there))

      new : IsLegalRecord (slice_set records n l) after (suc h.clock) n l
      new = record {
        before = λ some. let a = after_here in omega (arith, a);
        short = let e = ap length whole in let k = short_of base in omega (arith, e, k);
        few = few;
        added = subst (Each (IsBefore (slice_set records n l) after n)) (sym added) (each_map (λ x. IsKnown records x.shape) (IsBefore (slice_set records n l) after n) g.added (λ x k. (
          known_later records (slice_set records n l) later x.shape k,
          λ c is.
              let a = after_here in let o = after_other c (complete_apart c (k.core_there c is)) in let l = rank_of_complete c (k.core_there c is) in omega (arith, a, o, l),
        )) adding.added);
        base = base_rank base;
        cells = cells ∙ now.cells ∙ ap₂ (λ x y. x + y) (base_cells base b.line refl ∙ ap (inherited (slice_set records n l)) (sym whole)) (ap (cells_of_all (counted (slice_set records n l))) (sym added));
        extent = extent ∙ ap rounded_extent (now.extent ∙ ap₂ (λ e xs. with_all (measured (slice_set records n l)) e xs) (base_extent base b.line refl ∙ ap (extended (slice_set records n l)) (sym whole)) (sym added));
      }
