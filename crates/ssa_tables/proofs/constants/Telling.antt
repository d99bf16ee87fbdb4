-- Lists that are made one part after the other, and that they are the defined constants.
use Rattle.std.proofs.Common.{◌≡◌, ℕ, zero, suc, ◌+◌, ◌-◌, ◌*◌, ◌<◌, ◌≤◌, List, [], ◌∷◌, ◌++◌, take, drop, replicate, length, get_or, Bool, true, false, Option, Some, None, refl, sym, ap, ap₂, ◌∙◌, arith, append_assoc, eqb-true}
use Rattle.std.specs.Prelude.{◌==◌, if◌then◌else◌}
use Rattle.std.specs.List.{flat_map}
use Rattle.std.specs.Int.{to_le_bytes, w64}
use Rattle.std.proofs.lemmas.Bool.{eq-eqb}
use Rattle.std.proofs.lemmas.List.{drop_more}
use Rattle.std.proofs.lemmas.Grind.{flat_map-append}
use Rattle.std.proofs.Math.ListN.{drop_of_length-le}
use Rattle.ob_types.specs.Layout.{record_of}
use Rattle.ob_types.specs.Meaning.{texts_of}
use Rattle.ob_types.specs.Table.{Table}
use Rattle.ob_types.specs.declared.program.Procedure.{Procedure}
use Rattle.ob_types.specs.declared.program.Program.{Program}
use Rattle.ssa_lowered.specs.Constants.{base_by, ancestor_within, ancestor, address_of, descriptor_bytes, character_bytes, text_bytes, constants}
use Rattle.ssa_lowered.specs.Data.{Layout, layout, globals_room, text_room}
use Rattle.ssa_lowered.specs.Pieces.{numbers}
use Rattle.ssa_tables.specs.Places.{string_size}
use Rattle.ssa_tables.specs.constants.Described.{address_by, described, all_described, padded, all_texts}
use Rattle.ssa_tables.proofs.Placing.{take_none}

append_none : {A : Type 0} (xs : List A) → xs ++ [] ≡ xs
append_none [] = refl
append_none (x ∷ xs) = ap (λ ys. x ∷ ys) (append_none xs)

-- one more item of a list
pub made_more : {A : Type 0} (f : A → List ℕ) (xs : List A) (i : ℕ) (d : A) (old new all : List ℕ) → i < length xs → new ≡ old ++ f (get_or xs i d) → old ++ flat_map f (drop i xs) ≡ all → new ++ flat_map f (drop (i + 1) xs) ≡ all
made_more f xs i d old new all lt is before =
    ap (λ l. l ++ flat_map f (drop (i + 1) xs)) is
    ∙ append_assoc old (f (get_or xs i d)) (flat_map f (drop (i + 1) xs))
    ∙ sym (ap (λ ys. old ++ flat_map f ys) (drop_more xs i d lt))
    ∙ before

pub made_end : {A : Type 0} (f : A → List ℕ) (xs : List A) (i : ℕ) (list all : List ℕ) → length xs ≤ i → list ++ flat_map f (drop i xs) ≡ all → list ≡ all
made_end f xs i list all le before = sym (append_none list) ∙ sym (ap (λ ys. list ++ flat_map f ys) (drop_of_length-le xs le)) ∙ before

-- one more number
pub counted_more : (f : ℕ → List ℕ) (i n : ℕ) (old new all : List ℕ) → i < n → new ≡ old ++ f i → old ++ flat_map f (numbers i (n - i)) ≡ all → new ++ flat_map f (numbers (i + 1) (n - (i + 1))) ≡ all
counted_more f i n old new all lt is before =
    let e : n - i ≡ suc (n - (i + 1)) = omega (arith, lt) in
    let g : i + 1 ≡ suc i = omega arith in
    ap₂ (λ l k. l ++ flat_map f (numbers k (n - (i + 1)))) is g
    ∙ append_assoc old (f i) (flat_map f (numbers (suc i) (n - (i + 1))))
    ∙ sym (ap (λ k. old ++ flat_map f (numbers i k)) e)
    ∙ before

pub counted_end : (f : ℕ → List ℕ) (i n : ℕ) (list all : List ℕ) → n ≤ i → list ++ flat_map f (numbers i (n - i)) ≡ all → list ≡ all
counted_end f i n list all le before =
    let e : n - i ≡ 0 = omega (arith, le) in
    sym (append_none list) ∙ sym (ap (λ k. list ++ flat_map f (numbers i k)) e) ∙ before

-- one procedure's strings
pub procedure_more : (qs : List Procedure) (i : ℕ) (q : Procedure) (old new all : List ℕ) → i < length qs → q ≡ get_or qs i q → new ≡ old ++ all_texts q.texts → old ++ all_texts (texts_of (drop i qs)) ≡ all → new ++ all_texts (texts_of (drop (i + 1) qs)) ≡ all
procedure_more qs i q old new all lt is more before =
    let e : drop i qs ≡ q ∷ drop (i + 1) qs = drop_more qs i q lt ∙ ap (λ y. y ∷ drop (i + 1) qs) (sym is) in
    ap (λ l. l ++ all_texts (texts_of (drop (i + 1) qs))) more
    ∙ append_assoc old (all_texts q.texts) (all_texts (texts_of (drop (i + 1) qs)))
    ∙ ap (λ l. old ++ l) (sym (flat_map-append padded q.texts (texts_of (drop (i + 1) qs))))
    ∙ sym (ap (λ ys. old ++ all_texts (texts_of ys)) e)
    ∙ before

pub procedures_end : (qs : List Procedure) (i : ℕ) (list all : List ℕ) → length qs ≤ i → list ++ all_texts (texts_of (drop i qs)) ≡ all → list ≡ all
procedures_end qs i list all le before = sym (append_none list) ∙ sym (ap (λ ys. list ++ all_texts (texts_of ys)) (drop_of_length-le qs le)) ∙ before

-- zeros out of eight
take_zeros : (n m : ℕ) → n ≤ m → take {A = ℕ} n (replicate m 0) ≡ replicate n 0
take_zeros zero m le = take_none {A = ℕ} (replicate m 0)
take_zeros (suc n) zero le = absurd (omega (arith, le))
take_zeros (suc n) (suc m) le = ap (λ xs. 0 ∷ xs) (take_zeros n m (omega (arith, le)))

---- Ancestors

other : (a b : ℕ) → (a ≡ b → ⊥) → (a == b) ≡ false
other a b differ = by (a == b) refl
  where
    by : (x : Bool) → (a == b) ≡ x → x ≡ false
    by true is = absurd (differ (eqb-true a b is))
    by false is = refl

module _ (t : Table) (j : ℕ) where
  pub ancestor_on : (left at next : ℕ) → ((record_of t at).level ≡ j → ⊥) → (left ≡ 0 → ⊥) → (record_of t at).base ≡ Some next → ancestor_within t (suc (left - 1)) j next ≡ ancestor_within t (suc left) j at
  ancestor_on left at next differ some is =
      let e : suc (left - 1) ≡ left = let h = some in grind (arith, h) in
      ap (λ n. ancestor_within t n j next) e
      ∙ sym (ap (λ (b : Bool). if b then Some at else base_by (record_of t at).base (ancestor_within t left j)) (other (record_of t at).level j differ) ∙ ap (λ o. base_by o (ancestor_within t left j)) is)

  pub ancestor_here : (left at : ℕ) → (record_of t at).level ≡ j → ancestor_within t (suc left) j at ≡ Some at
  ancestor_here left at is = ap (λ (b : Bool). if b then Some at else base_by (record_of t at).base (ancestor_within t left j)) (eq-eqb (record_of t at).level j is)

  pub ancestor_rootless : (left at : ℕ) → ((record_of t at).level ≡ j → ⊥) → (record_of t at).base ≡ None → ancestor_within t (suc left) j at ≡ None
  ancestor_rootless left at differ none =
      ap (λ (b : Bool). if b then Some at else base_by (record_of t at).base (ancestor_within t left j)) (other (record_of t at).level j differ) ∙ ap (λ o. base_by o (ancestor_within t left j)) none

  base_none : (o : Option ℕ) → base_by o (ancestor_within t 0 j) ≡ None
  base_none None = refl
  base_none (Some b) = refl

  pub ancestor_last : (left at : ℕ) → ((record_of t at).level ≡ j → ⊥) → left ≡ 0 → ancestor_within t (suc left) j at ≡ None
  ancestor_last left at differ none =
      ap (λ n. ancestor_within t (suc n) j at) none
      ∙ ap (λ (b : Bool). if b then Some at else base_by (record_of t at).base (ancestor_within t 0 j)) (other (record_of t at).level j differ)
      ∙ base_none (record_of t at).base

---- The whole

same_items : {A : Type 0} (f g : A → List ℕ) → ((x : A) → f x ≡ g x) → (xs : List A) → flat_map f xs ≡ flat_map g xs
same_items f g e [] = refl
same_items f g e (x ∷ xs) = ap₂ (λ a b. a ++ b) (e x) (same_items f g e xs)

module _ (p : Program) (globals : ℕ) where
  abbrev l : Layout
  l = layout p.types

  address_is : (o : Option ℕ) → address_by (globals + globals_room p l) o ≡ address_of p l globals o
  address_is None = refl
  address_is (Some r) = omega arith

  descriptor_is : (r : ℕ) → described p.types (globals + globals_room p l) r ≡ descriptor_bytes p l globals r
  descriptor_is r = same_items (λ j. to_le_bytes w64 (address_by (globals + globals_room p l) (ancestor p.types j r))) (λ j. to_le_bytes w64 (address_of p l globals (ancestor p.types j r))) (λ j. ap (to_le_bytes w64) (address_is (ancestor p.types j r))) (numbers 0 16)

  one_each : (xs : List ℕ) → flat_map (character_bytes l) xs ≡ xs
  one_each [] = refl
  one_each (x ∷ xs) = ap (λ ys. x ∷ ys) (one_each xs)

  text_is : (xs : List ℕ) → padded xs ≡ text_bytes l xs
  text_is xs =
      let some : string_size xs - length xs ≡ suc (text_room l xs - l.character * suc (length xs)) = omega arith in
      ap (λ n. xs ++ replicate n 0) some
      ∙ sym (append_assoc xs (0 ∷ []) (replicate (text_room l xs - l.character * suc (length xs)) 0))
      ∙ ap (λ ys. ys ++ replicate (text_room l xs - l.character * suc (length xs)) 0) (sym (one_each (xs ++ 0 ∷ [])))

  pub constants_are : (first : ℕ) → first ≡ globals + globals_room p l → all_described p.types first ++ all_texts (texts_of p.procedures) ≡ constants p l globals
  constants_are first is =
      ap₂ (λ a b. a ++ b)
      (ap (all_described p.types) is ∙ same_items (described p.types (globals + globals_room p l)) (descriptor_bytes p l globals) descriptor_is (numbers 0 (length p.types.records)))
      (same_items padded (text_bytes l) text_is (texts_of p.procedures))
