-- What is marked, in a list.
use Rattle.std.proofs.Common.{◌≡◌, ℕ, Bool, true, false, ◌||◌, ◌&&◌, cond, List, [], ◌∷◌, refl, sym, ap, ap₂, subst, ◌∙◌, append-nil, arith}
use Rattle.std.specs.Prelude.{nat_lt, filter}
use Rattle.std.specs.List.{list_any}
use Rattle.run_laws.specs.Layers.{places_from}
use Rattle.block_runs.specs.Live.{has}
use Rattle.lir_core.specs.Rows.{has_bit, live_into}
use Rattle.lir_core.specs.Spots.{IsRising}
use Rattle.global_live.proofs.Lists.{has-append, has-filter}
use Rattle.loc_state.specs.Homed.{inserted, all_inserted}
use Rattle.loc_state.proofs.Homing.{has_all_inserted, all_inserted_rises, filter_rises, inserted_append}
use Rattle.value_sets.proofs.Sets.{same_rising, rising_places, places_are}
use Rattle.simple_policies.specs.plain.Plain.{picked}
use Rattle.simple_policies.specs.plain.Marks.{live_into_each}

pub marks_live : (n : ℕ) (rows : List (List ℕ)) (m : ℕ) (before after : List ℕ) → after ≡ all_inserted (live_into n rows m) before → after ≡ all_inserted (live_into_each n rows (m ∷ [])) before
marks_live n rows m before after e = e ∙ ap (λ xs. all_inserted xs before) (sym (append-nil (live_into n rows m)))

pub marks_both : (n : ℕ) (rows : List (List ℕ)) (m k : ℕ) (before first both : List ℕ) → first ≡ all_inserted (live_into n rows m) before → both ≡ all_inserted (live_into n rows k) first → both ≡ all_inserted (live_into_each n rows (m ∷ k ∷ [])) before
marks_both n rows m k before first both e f =
    marks_live n rows k first both f ∙ ap (all_inserted (live_into_each n rows (k ∷ []))) e
    ∙ sym (inserted_append (live_into n rows m) (live_into_each n rows (k ∷ [])) before)

has_live : (n : ℕ) (rows : List (List ℕ)) (m v : ℕ) → has (live_into n rows m) v ≡ (nat_lt v n && has_bit rows m v)
has_live n rows m v = has-filter (has_bit rows m) (places_from 0 n) v ∙ ap (λ b. b && has_bit rows m v) (places_are n v)

any_live : (n : ℕ) (rows : List (List ℕ)) (ms : List ℕ) (v : ℕ) → has (live_into_each n rows ms) v ≡ (nat_lt v n && list_any (λ to. has_bit rows to v) ms)
any_live n rows [] v = and_none (nat_lt v n)
  where
    and_none : (b : Bool) → false ≡ (b && false)
    and_none true = refl
    and_none false = refl
any_live n rows (m ∷ ms) v =
    has-append (live_into n rows m) (live_into_each n rows ms) v ∙ ap₂ (λ a b. a || b) (has_live n rows m v) (any_live n rows ms v)
    ∙ parted (nat_lt v n) (has_bit rows m v) (list_any (λ to. has_bit rows to v) ms)
  where
    parted : (a b c : Bool) → ((a && b) || (a && c)) ≡ (a && (b || c))
    parted true b c = refl
    parted false b c = refl

-- of so many values those that are in one of two lists, where the first has what passes a test
module _ (n : ℕ) (p : ℕ → Bool) (xs ys first both : List ℕ) (there : (v : ℕ) → has xs v ≡ (nat_lt v n && p v)) (a : first ≡ all_inserted xs []) (b : both ≡ all_inserted ys first) where
  each : (v : ℕ) → has both v ≡ cond (has ys v) true (cond (nat_lt v n && p v) true false)
  each v =
      ap (λ zs. has zs v) b ∙ has_all_inserted ys first v
      ∙ ap (cond (has ys v) true) (ap (λ zs. has zs v) a ∙ has_all_inserted xs [] v ∙ ap (λ c. cond c true false) (there v))

  rises : IsRising both
  rises = subst IsRising (sym (b ∙ ap (all_inserted ys) a)) (all_inserted_rises ys (all_inserted xs []) (all_inserted_rises xs [] tt))

  pub picks_both : filter (λ v. nat_lt v n) both ≡ picked n (λ v. p v || has ys v)
  picks_both =
      same_rising _ _ (filter_rises (λ v. nat_lt v n) both rises) (filter_rises (λ v. p v || has ys v) (places_from 0 n) (rising_places 0 n))
      (λ v. has-filter (λ v. nat_lt v n) both v ∙ ap (λ c. c && nat_lt v n) (each v) ∙ by (nat_lt v n) (p v) (has ys v) ∙ sym (has-filter (λ v. p v || has ys v) (places_from 0 n) v ∙ ap (λ c. c && (p v || has ys v)) (places_are n v)))
    where
      by : (l p y : Bool) → (cond y true (cond (l && p) true false) && l) ≡ (l && (p || y))
      by true true true = refl
      by true true false = refl
      by true false true = refl
      by true false false = refl
      by false p true = refl
      by false p false = refl

pub picks_start : (n : ℕ) (rows : List (List ℕ)) (m : ℕ) (ys first both : List ℕ) → first ≡ all_inserted (live_into n rows m) [] → both ≡ all_inserted ys first → filter (λ v. nat_lt v n) both ≡ picked n (λ v. has_bit rows m v || has ys v)
picks_start n rows m ys first both a b = picks_both n (has_bit rows m) (live_into n rows m) ys first both (has_live n rows m) a b

pub picks_end : (n : ℕ) (rows : List (List ℕ)) (ms ys first both : List ℕ) → first ≡ all_inserted (live_into_each n rows ms) [] → both ≡ all_inserted ys first → filter (λ v. nat_lt v n) both ≡ picked n (λ v. list_any (λ to. has_bit rows to v) ms || has ys v)
picks_end n rows ms ys first both a b = picks_both n (λ v. list_any (λ to. has_bit rows to v) ms) (live_into_each n rows ms) ys first both (any_live n rows ms) a b
