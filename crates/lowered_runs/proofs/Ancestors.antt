-- Descriptors tell extensions: the cell at a record type's level is the address of that type's descriptor just in the descriptors of what extends it.
use Rattle.std.proofs.Common.{◌≡◌, ℕ, zero, suc, ◌+◌, ◌*◌, ◌<◌, ◌≤◌, ◌⊎◌, ⊎_elim, inl, inr, length, Bool, true, false, ◌&&◌, ◌||◌, refl, sym, ap, ◌∙◌, subst, arith, Option, Some, None, eq-eqb, ne_eqb, eqb-true, leb-true, ltb-true}
use Rattle.std.specs.Prelude.{◌==◌, nat_le, if◌then◌else◌}
use Rattle.std.proofs.lemmas.Bool.{cases_lt}
use Rattle.std.proofs.lemmas.List.{get_or_past}
use Rattle.ob_types.specs.Forms.{all, all_below, if_base}
use Rattle.ob_types.specs.Layout.{record_of, types_of, or_base, extends_within, extends, no_record_type}
use Rattle.ob_types.specs.LegalTypes.{most_cells, type_legal, record_legal, signature_legal, is_record_type, is_variable_type, types_legal}
use Rattle.ob_types.specs.Table.{Table}
use Rattle.ob_types.specs.WellFormed.{argument_words, counts_fine, level_by, level_fine, sizes_fine, variables_fine, bodies_in_order, declarations_fine}
use Rattle.ob_types.specs.declared.program.Program.{Program}
use Rattle.ob_types.proofs.Tests.{and_of, below, no, none_some, some_same}
use Rattle.ssa_lowered.specs.Data.{Layout, descriptor_at}
use Rattle.ssa_lowered.specs.Constants.{ancestor_within, ancestor, base_by, address_of}

-- one of two tests holds, the latter of a base
or_base_is : (a : Bool) (o : Option ℕ) (f : ℕ → Bool) → (a || or_base o f) ≡ true → (a ≡ true) ⊎ ((b : ℕ) × (o ≡ Some b) × (f b ≡ true))
or_base_is true o f h = inl refl
or_base_is false None f h = no h
or_base_is false (Some b) f h = inr (b, refl, h)

pub or_first : (a b : Bool) → a ≡ true → (a || b) ≡ true
or_first true b h = refl
or_first false b h = no h

pub or_second : (a b : Bool) → b ≡ true → (a || b) ≡ true
or_second true b h = refl
or_second false b h = h

module _ (p : Program) (lay : Layout) (declared : declarations_fine p ≡ true) where
  abbrev t : Table
  t = p.types

  abbrev many : ℕ
  many = length p.types.records

  abbrev pub level : ℕ → ℕ
  level r = (record_of t r).level

  legal : (types_legal t ≡ true) × (counts_fine p ≡ true)
  legal = and_of (types_legal t) (counts_fine p) (and_of (types_legal t && counts_fine p) (variables_fine p && bodies_in_order p) declared).0

  records_legal : all_below many (record_legal t) ≡ true
  records_legal = (and_of (all_below many (record_legal t)) (all (signature_legal t) t.signatures) (and_of (all_below (length t.kinds) (type_legal t)) (all_below many (record_legal t) && all (signature_legal t) t.signatures) legal.0).1).0

  levels_fine : all_below many (level_fine p) ≡ true
  levels_fine = (and_of (all_below many (level_fine p)) (all_below many (sizes_fine p)) (and_of (all_below many (level_fine p) && all_below many (sizes_fine p)) (all (λ g. nat_le (argument_words g.formals) 24) t.signatures && all (λ q. nat_le (argument_words q.formals) 24) p.procedures) legal.1).0).0

  base_there : (r a : ℕ) → r < many → (record_of t r).base ≡ Some a → a < many
  base_there r a lt is =
      let one = below many (record_legal t) records_legal r lt in
      let two = (and_of (nat_le (record_of t r).cells most_cells) (if_base (record_of t r).base (is_record_type t) && all (is_variable_type t) (types_of (record_of t r).fields)) one).1 in
      let base = (and_of (if_base (record_of t r).base (is_record_type t)) (all (is_variable_type t) (types_of (record_of t r).fields)) two).0 in
      ltb-true a many (subst (λ o. if_base o (is_record_type t) ≡ true) is base)

  level_is : (r : ℕ) → r < many → (level r ≡ level_by p (record_of t r).base) × (level r ≤ 15)
  level_is r lt =
      let one = and_of (level r == level_by p (record_of t r).base) (nat_le (level r) 15) (below many (level_fine p) levels_fine r lt) in
      (eqb-true (level r) (level_by p (record_of t r).base) one.0, leb-true (level r) 15 one.1)

  pub level_most : (r : ℕ) → r < many → level r ≤ 15
  level_most r lt = (level_is r lt).1

  -- one more than the base's
  above : (r a : ℕ) → r < many → (record_of t r).base ≡ Some a → level r ≡ suc (level a)
  above r a lt is = (level_is r lt).0 ∙ ap (level_by p) is

  -- what extends a record type of the table is in the table
  pub extends_there : (s r : ℕ) → r < many → extends t s r ≡ true → s < many
  extends_there s r lt h = ⊎_elim (λ (less : s < many). less) (λ (past : many ≤ s). by past (extends_past (length t.records) past h)) (cases_lt s many)
    where
      none : (s : ℕ) → many ≤ s → (record_of t s).base ≡ None
      none s past = ap (λ x. x.base) (get_or_past t.records s no_record_type past)

      some_none : {a : ℕ} → None ≡ Some a → ⊥
      some_none e = cc

      extends_past : (d : ℕ) → many ≤ s → extends_within t d s r ≡ true → s ≡ r
      extends_past zero past h = eqb-true s r h
      extends_past (suc d) past h = elim (or_base_is (s == r) (record_of t s).base (λ a. extends_within t d a r) h) [
        | inl e ↦ eqb-true s r e
        | inr x ↦ absurd (some_none (sym (none s past) ∙ x.1))
      ]

      by : many ≤ s → s ≡ r → s < many
      by past e = omega (arith, e, lt)

  low : (d s r : ℕ) → s < many → extends_within t d s r ≡ true → level r ≤ level s
  low zero s r lt h = let e = ap level (eqb-true s r h) in omega (arith, e)
  low (suc d) s r lt h = by (or_base_is (s == r) (record_of t s).base (λ a. extends_within t d a r) h) (λ a less x. low d a r less x)
    where
      by : ((s == r) ≡ true) ⊎ ((a : ℕ) × ((record_of t s).base ≡ Some a) × (extends_within t d a r ≡ true)) → ((a : ℕ) → a < many → extends_within t d a r ≡ true → level r ≤ level a) → level r ≤ level s
      by (inl e) go = let f = ap level (eqb-true s r e) in omega (arith, f)
      by (inr x) go = let le = go x.0 (base_there s x.0 lt x.1) x.2 in let e = above s x.0 lt x.1 in omega (arith, le, e)

  own : (d r : ℕ) → ancestor_within t (suc d) (level r) r ≡ Some r
  own d r = ap (λ b. if b then Some r else base_by (record_of t r).base (ancestor_within t d (level r))) (eq-eqb (level r) (level r) refl)

  -- the type of that level among the bases
  found : (d s r : ℕ) → s < many → extends_within t d s r ≡ true → ancestor_within t (suc d) (level r) s ≡ Some r
  found zero s r lt h = subst (λ x. ancestor_within t 1 (level r) x ≡ Some r) (sym (eqb-true s r h)) (own zero r)
  found (suc d) s r lt h = by (or_base_is (s == r) (record_of t s).base (λ a. extends_within t d a r) h) (λ a less x. found d a r less x)
    where
      by : ((s == r) ≡ true) ⊎ ((a : ℕ) × ((record_of t s).base ≡ Some a) × (extends_within t d a r ≡ true)) → ((a : ℕ) → a < many → extends_within t d a r ≡ true → ancestor_within t (suc d) (level r) a ≡ Some r) → ancestor_within t (suc (suc d)) (level r) s ≡ Some r
      by (inl e) go = subst (λ x. ancestor_within t (suc (suc d)) (level r) x ≡ Some r) (sym (eqb-true s r e)) (own (suc d) r)
      by (inr x) go =
          let less = base_there s x.0 lt x.1 in
          let le = low d x.0 r less x.2 in
          let e = above s x.0 lt x.1 in
          ap (λ b. if b then Some s else base_by (record_of t s).base (ancestor_within t (suc d) (level r))) (ne_eqb (level s) (level r) (λ f. absurd (omega (arith, le, e, f))))
          ∙ ap (λ o. base_by o (ancestor_within t (suc d) (level r))) x.1 ∙ go x.0 less x.2

  extends_self : (d r : ℕ) → extends_within t d r r ≡ true
  extends_self zero r = eq-eqb r r refl
  extends_self (suc d) r = or_first (r == r) (or_base (record_of t r).base (λ a. extends_within t d a r)) (eq-eqb r r refl)

  by_level : (d s r : ℕ) (b : Bool) → (if b then Some s else base_by (record_of t s).base (ancestor_within t d (level r))) ≡ Some r → (base_by (record_of t s).base (ancestor_within t d (level r)) ≡ Some r → extends_within t d s r ≡ true) → extends_within t d s r ≡ true
  by_level d s r true h go = subst (λ x. extends_within t d s x ≡ true) (some_same s r h) (extends_self d s)
  by_level d s r false h go = go h

  none_within : (o : Option ℕ) (r : ℕ) → base_by o (λ a. None) ≡ Some r → ⊥
  none_within None r h = none_some r h
  none_within (Some a) r h = none_some r h

  told : (d s r : ℕ) → ancestor_within t (suc d) (level r) s ≡ Some r → extends_within t d s r ≡ true
  told zero s r is = by_level zero s r (level s == level r) is (λ h. absurd (none_within (record_of t s).base r h))
  told (suc d) s r is = by_level (suc d) s r (level s == level r) is (λ h. by (record_of t s).base h (λ a x. told d a r x))
    where
      by : (o : Option ℕ) → base_by o (ancestor_within t (suc d) (level r)) ≡ Some r → ((a : ℕ) → ancestor_within t (suc d) (level r) a ≡ Some r → extends_within t d a r ≡ true) → ((s == r) || or_base o (λ a. extends_within t d a r)) ≡ true
      by None h go = none_some r h
      by (Some a) h go = or_second (s == r) (extends_within t d a r) (go a h)

  -- it is in the table
  there : (d j s a : ℕ) → s < many → ancestor_within t d j s ≡ Some a → a < many
  there zero j s a lt is = none_some a is
  there (suc d) j s a lt is = by (level s == j) is (λ b less h. there d j b a less h)
    where
      base : (o : Option ℕ) → (record_of t s).base ≡ o → base_by o (ancestor_within t d j) ≡ Some a → ((b : ℕ) → b < many → ancestor_within t d j b ≡ Some a → a < many) → a < many
      base None at h go = none_some a h
      base (Some b) at h go = go b (base_there s b lt at) h

      by : (b : Bool) → (if b then Some s else base_by (record_of t s).base (ancestor_within t d j)) ≡ Some a → ((b : ℕ) → b < many → ancestor_within t d j b ≡ Some a → a < many) → a < many
      by true h go = subst (λ x. x < many) (some_same s a h) lt
      by false h go = base (record_of t s).base refl h go

  -- the cell at a level of a descriptor, where the globals start at an address
  abbrev pub cell_at : ℕ → ℕ → ℕ → ℕ
  cell_at globals j s = address_of p lay globals (ancestor t j s)

  -- the cell at the level of a record type is the address of its descriptor just where it is extended
  pub tells : (globals s r : ℕ) → 0 < globals → s < many → (cell_at globals (level r) s == globals + descriptor_at p lay r) ≡ extends t s r
  tells globals s r some lt = by (extends t s r) refl
    where
      different : {b : Bool} → b ≡ true → b ≡ false → ⊥
      different e f = cc

      not_same : (o : Option ℕ) → ancestor t (level r) s ≡ o → extends t s r ≡ false → address_of p lay globals o ≡ globals + descriptor_at p lay r → ⊥
      not_same None at none e = absurd (omega (arith, e, some))
      not_same (Some a) at none e = let same : a ≡ r = omega (arith, e) in different (told many s r (at ∙ ap (λ x. Some x) same)) none

      by : (b : Bool) → extends t s r ≡ b → (cell_at globals (level r) s == globals + descriptor_at p lay r) ≡ b
      by true e = eq-eqb (cell_at globals (level r) s) (globals + descriptor_at p lay r) (ap (address_of p lay globals) (found many s r lt e))
      by false e = ne_eqb (cell_at globals (level r) s) (globals + descriptor_at p lay r) (λ same. not_same (ancestor t (level r) s) refl e same)

  -- it is below what all descriptors have
  pub cell_below : (globals j s : ℕ) → s < many → cell_at globals j s < globals + (descriptor_at p lay 0 + 128 * many)
  cell_below globals j s lt = by (ancestor t j s) refl
    where
      by : (o : Option ℕ) → ancestor t j s ≡ o → address_of p lay globals o < globals + (descriptor_at p lay 0 + 128 * many)
      by None at = omega (arith, lt)
      by (Some a) at = let less = there (suc many) j s a lt at in omega (arith, less)
