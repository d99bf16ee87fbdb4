-- Fields of record types, kept while record types are added, and of one that becomes complete.
use Rattle.std.proofs.Common.{◌≡◌, ℕ, zero, suc, ◌+◌, ◌<◌, ◌≤◌, List, [], ◌∷◌, ◌++◌, length, Bool, true, false, ◌||◌, Some, refl, ap, sym, ◌∙◌, subst, arith, eq-eqb, ◌⊎◌, inl, inr}
use Rattle.std.specs.Prelude.{slice_get, slice_set, nat_eq, if◌then◌else◌, is_some}
use Rattle.std.specs.Str.{bytes_eq}
use Rattle.ob_types.proofs.Tests.{none_some, some_same, less_or_past}
use Rattle.ob_syntax.specs.declared.names.Identdef.{Identdef}
use Rattle.ob_types.specs.Trees.{with_part}
use Rattle.ob_judge.specs.Shapes.{Shape, Added, Layout, contains, cells, extent}
use Rattle.ob_judge.specs.Shapes.{Field as FieldOf}
use Rattle.ob_judge.specs.Scopes.{World, Source, spelled}
use Rattle.ob_judge.specs.Making.{Making, no_layout}
use Rattle.ob_judge.specs.Types.{add_field, add_fields}
use Rattle.judged_modules.specs.Final.{Final}
use Rattle.judged_modules.specs.Agrees.{records_of}
use Rattle.judged_modules.specs.Sound.{IsGood, FieldKept}
use Rattle.judged_modules.proofs.Lists.{get_append, get_last, get_within, set_other, set_here, append_length}
use Rattle.judged_modules.proofs.Growing.{Grows}

module _ (w : Final) where
  -- where the record type that adds it is as it was
  pub field_again : (records more : List Layout) (line : List ℕ) (f : FieldOf) → (k : FieldKept w records line f) → slice_get more f.adder ≡ slice_get records f.adder → FieldKept w more line f
  field_again records more line f k same = record { among = k.among; adds = k.adds; there = same ∙ k.there; added = k.added; stands = k.stands; shape = k.shape; good = k.good }

  pub field_later : (s t : Making) → Grows s t → (line : List ℕ) (f : FieldOf) → FieldKept w (records_of s) line f → FieldKept w (records_of t) line f
  field_later s t g line f k = field_again (records_of s) (records_of t) line f k (g.records f.adder (get_within (records_of s) f.adder k.adds k.there))

  -- what holds of the fields of all record types
  abbrev pub AllFields : List Layout → Type 0
  AllFields records = (r : ℕ) (l : Layout) (q : List ℕ) (f : FieldOf) → slice_get records r ≡ Some l → l.fields q ≡ Some f → FieldKept w records l.line f

  is_last : (r n : ℕ) → n ≤ r → r < suc n → r ≡ n
  is_last r n a b = omega (arith, a, b)

  last_more : (xs : List Layout) (y : Layout) (r : ℕ) → r < length (xs ++ y ∷ []) → r < suc (length xs)
  last_more xs y r l = let h = append_length xs (y ∷ []) in omega (arith, l, h)

  -- one more, which has none yet
  pub fields_with_record : (records : List Layout) → AllFields records → AllFields (records ++ no_layout ∷ [])
  fields_with_record records all r l q f at field = elim (less_or_past r (length records)) as (λ _. FieldKept w (records ++ no_layout ∷ []) l.line f) [
    | inl less ↦ let k = all r l q f (sym (get_append records (no_layout ∷ []) r less) ∙ at) field in
        field_again records (records ++ no_layout ∷ []) l.line f k (get_append records (no_layout ∷ []) f.adder (get_within records f.adder k.adds k.there))
    | inr past ↦
        let e = is_last r (length records) past (last_more records no_layout r (get_within (records ++ no_layout ∷ []) r l at)) in
        none_some f (ap (λ x. x.fields q) (some_same no_layout l (sym (get_last records no_layout) ∙ ap (slice_get (records ++ no_layout ∷ [])) (sym e) ∙ at)) ∙ field)
  ]

  -- ---- a record type in the making

  -- a field of it: of its base, or its own
  pub data IsField (records : List Layout) (n : ℕ) (g : Layout) (f : FieldOf) : Type 0 where
    inherited : FieldKept w records g.line f → IsField records n g f
    own : f.adder ≡ n → (x : Added) → slice_get g.added f.number ≡ Some x → x.shape ≡ f.shape → IsGood w f.shape → IsField records n g f

  abbrev pub Adding : ℕ → Layout → Making → Type 0
  Adding n g s = (q : List ℕ) (f : FieldOf) → g.fields q ≡ Some f → IsField (records_of s) n g f

  pub adding_later : (n : ℕ) (g : Layout) (s t : Making) → Grows s t → Adding n g s → Adding n g t
  adding_later n g s t h all q f at = elim (all q f at) as (λ _. IsField (records_of t) n g f) [
    | inherited k ↦ inherited (field_later s t h g.line f k)
    | own a x b c d ↦ own a x b c d
  ]

  module _ (p : Source) where
    abbrev new : Identdef → Shape → Added
    new x a = record { name = spelled p x.name; exported = is_some x.star; shape = a }

    abbrev field : ℕ → World → Identdef → Shape → Layout → FieldOf
    field n v x a g = record { adder = n; number = length g.added; shape = a; exported = is_some x.star; owner = v.module_number }

    abbrev with_field : ℕ → World → Identdef → Shape → Layout → Layout
    with_field n v x a g = record {
      module_number = g.module_number;
      line = g.line;
      added = g.added ++ new x a ∷ [];
      fields = add_field (spelled p x.name) (field n v x a g) g.fields;
      cells = g.cells + cells v.known a;
      extent = with_part g.extent (extent v.known a);
    }

    pub adding_fields : (n : ℕ) (v : World) (a : Shape) → IsGood w a → (xs : List Identdef) (g : Layout) (s : Making) → Adding n g s → Adding n (add_fields p n v a xs g) s
    adding_fields n v a good [] g s all = all
    adding_fields n v a good (x ∷ xs) g s all = adding_fields n v a good xs (with_field n v x a g) s (λ q f at. one (bytes_eq (spelled p x.name) q) q f at)
      where
        one : (b : Bool) (q : List ℕ) (f : FieldOf) → (if b then Some (field n v x a g) else g.fields q) ≡ Some f → IsField (records_of s) n (with_field n v x a g) f
        one true q f at = subst (λ y. IsField (records_of s) n (with_field n v x a g) y) (some_same (field n v x a g) f at) (own refl (new x a) (get_last g.added (new x a)) refl good)
        one false q f at = elim (all q f at) as (λ _. IsField (records_of s) n (with_field n v x a g) f) [
          | inherited k ↦ inherited k
          | own e y i j k ↦ own e y (get_append g.added (new x a ∷ []) f.number (get_within g.added f.number y i) ∙ i) j k
        ]

  -- ---- it becomes complete

  differ : (records : List Layout) (n : ℕ) → slice_get records n ≡ Some no_layout → (line : List ℕ) (f : FieldOf) → (k : FieldKept w records line f) → f.adder ≡ n → ⊥
  differ records n at line f k e = none_some k.added (ap (λ l. slice_get l.added f.number) (some_same no_layout k.adds (sym at ∙ ap (slice_get records) (sym e) ∙ k.there)) ∙ k.stands)

  or_right : (a b : Bool) → b ≡ true → (a || b) ≡ true
  or_right true b h = refl
  or_right false b h = h

  pub decided : (r n : ℕ) → (r ≡ n) ⊎ (r ≡ n → ⊥)
  decided zero zero = inl refl
  decided zero (suc n) = inr (λ e. absurd (omega (arith, e)))
  decided (suc r) zero = inr (λ e. absurd (omega (arith, e)))
  decided (suc r) (suc n) = elim (decided r n) as (λ _. (suc r ≡ suc n) ⊎ (suc r ≡ suc n → ⊥)) [ inl e ↦ inl (ap suc e) | inr d ↦ inr (λ e. d (omega (arith, e))) ]

  pub fields_set : (s : Making) (n : ℕ) (h l : Layout) → slice_get (records_of s) n ≡ Some no_layout → l.line ≡ n ∷ h.line → l.added ≡ h.added → ((q : List ℕ) → l.fields q ≡ h.fields q) → AllFields (records_of s) → Adding n h s → AllFields (slice_set (records_of s) n l)
  fields_set s n h l empty line added same all adding r m q f at field = elim (decided r n) as (λ _. FieldKept w (slice_set (records_of s) n l) m.line f) [
    | inl e ↦
        let is = some_same l m (sym (set_here (records_of s) n l (get_within (records_of s) n no_layout empty)) ∙ ap (slice_get (slice_set (records_of s) n l)) (sym e) ∙ at) in
        subst (λ x. FieldKept w (slice_set (records_of s) n l) x.line f) is (subst (λ x. FieldKept w (slice_set (records_of s) n l) x f) (sym line) (new (adding q f (sym (same q) ∙ ap (λ x. x.fields q) is ∙ field))))
    | inr d ↦
        let k = all r m q f (sym (set_other (records_of s) n r l d) ∙ at) field in
        field_again (records_of s) (slice_set (records_of s) n l) m.line f k (set_other (records_of s) n f.adder l (differ (records_of s) n empty m.line f k))
  ]
    where
      new : IsField (records_of s) n h f → FieldKept w (slice_set (records_of s) n l) (n ∷ h.line) f
      new (inherited k) = record {
        among = or_right (nat_eq f.adder n) (contains f.adder h.line) k.among;
        adds = k.adds;
        there = set_other (records_of s) n f.adder l (differ (records_of s) n empty h.line f k) ∙ k.there;
        added = k.added;
        stands = k.stands;
        shape = k.shape;
        good = k.good;
      }
      new (own e x i j good) = record {
        among = ap (λ b. b || contains f.adder h.line) (eq-eqb f.adder n e);
        adds = l;
        there = ap (slice_get (slice_set (records_of s) n l)) e ∙ set_here (records_of s) n l (get_within (records_of s) n no_layout empty);
        added = x;
        stands = ap (λ xs. slice_get xs f.number) added ∙ i;
        shape = j;
        good = good;
      }
