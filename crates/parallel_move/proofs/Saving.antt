-- A destination saved to X16.
use Rattle.std.proofs.Common.{◌≡◌, ℕ, zero, suc, ◌+◌, ◌<◌, ◌≤◌, Bool, true, false, not, ◌&&◌, cond, List, [], ◌∷◌, ◌++◌, map, length, Option, Some, None, refl, sym, ap, ap₂, ◌∙◌, subst, arith, append_assoc}
use Rattle.std.specs.Prelude.{◌==◌, option_map}
use Rattle.std.proofs.lemmas.Bool.{eqb-true, eq-eqb}
use Rattle.std.proofs.lemmas.List.{length-map, length-set}
use Rattle.lir_core.specs.declared.places.Place.{Place}
use Rattle.lir_core.specs.Spots.{same, spot}
use Rattle.parallel_move.specs.declared.step.Step.{Step}
use Rattle.parallel_move.specs.declared.step.Step.TheVariants.{Save}
use Rattle.parallel_move.specs.declared.entry.Entry.{Entry}
use Rattle.parallel_move.specs.Order.{Pending, from_spot, pick, instead, make, round, ordered}
use Rattle.parallel_move.specs.Entries.{entry_at, is_saved, pending_in, slot, in_front, listed, left, one, reads, is_free, saved_at, IsLinked, IsCounted, Ordering, OnlyFree, NoneFree, AllMade, StayMade, is_at}
use Rattle.parallel_move.proofs.Sequence.{from_place, same_is, same_self, apart, first_then}
use Rattle.parallel_move.proofs.Listed.{Table, listed_same, listed_map, all_blocked, picks_none}
use Rattle.parallel_move.proofs.Table.{written_at, unequal, linked_same, reads_by_writer, blocked_at}

pub record Saved (es es' : List Entry) (i : ℕ) : Type 0 where
  pub each : length es' ≡ length es
  pub entry : (q : ℕ) → entry_at es' q ≡ record (entry_at es q) { saved = cond (q == i) true (entry_at es q).saved; readers = cond (q == i) 0 (entry_at es q).readers }

saved_is : (es : List Entry) (i : ℕ) → i < length es → Saved es (saved_at es i) i
saved_is es i h = record {
  each = length-set es i (record (entry_at es i) { saved = true; readers = 0 });
  entry = λ q. written_at es i q (record (entry_at es i) { saved = true; readers = 0 }) h ∙ at_test q (q == i) refl;
}
  where
    at_test : (q : ℕ) (b : Bool) → (q == i) ≡ b → cond b (record (entry_at es i) { saved = true; readers = 0 }) (entry_at es q) ≡ record (entry_at es q) { saved = cond b true (entry_at es q).saved; readers = cond b 0 (entry_at es q).readers }
    at_test q true t = ap (λ x. let r : Entry = record (entry_at es x) { saved = true; readers = 0 } in r) (sym (eqb-true q i t))
    at_test q false t = refl

-- X16 takes the part of the readers' source
reads_instead : (d : Place) (ms : List Pending) (p : Place) → reads (map (instead d) ms) (spot p) ≡ cond (same (spot p) (spot d)) 0 (reads ms (spot p))
reads_instead d [] p = at_test (same (spot p) (spot d))
  where
    at_test : (b : Bool) → zero ≡ cond b 0 0
    at_test true = refl
    at_test false = refl
reads_instead d (m ∷ ms) p = at_tests (same (spot p) (spot d)) refl (same (from_spot m.from) (spot d)) refl (reads_instead d ms p)
  where
    at_tests : (b : Bool) → same (spot p) (spot d) ≡ b → (c : Bool) → same (from_spot m.from) (spot d) ≡ c → reads (map (instead d) ms) (spot p) ≡ cond b 0 (reads ms (spot p)) → one (same (from_spot (cond c None m.from)) (spot p)) + reads (map (instead d) ms) (spot p) ≡ cond b 0 (one (same (from_spot m.from) (spot p)) + reads ms (spot p))
    at_tests true e true f on = let a = ap one (from_place p) in omega (arith, a, on)
    at_tests false e true f on =
        let a = ap one (from_place p) in
        let off : same (from_spot m.from) (spot p) ≡ false = ap (λ x. same x (spot p)) (same_is (from_spot m.from) (spot d) f) ∙ apart (spot d) (spot p) (λ q. let t : true ≡ false = sym (same_self (spot p)) ∙ ap (same (spot p)) (sym q) ∙ e in cc) in
        let z = ap one off in
        omega (arith, a, on, z)
    at_tests true e false f on =
        let off : same (from_spot m.from) (spot p) ≡ false = ap (same (from_spot m.from)) (same_is (spot p) (spot d) e) ∙ f in
        let z = ap one off in
        omega (arith, on, z)
    at_tests false e false f on = omega (arith, on)

-- the first entry that is left is listed first
first_at : (T : Table) (n i k : ℕ) (m : Pending) → i ≤ n → n < i + k → T n ≡ Some m → ((j : ℕ) → i ≤ j → j < n → T j ≡ None) → (ms : List Pending) × (listed T i k ≡ m ∷ ms)
first_at T n i zero m a b t before = absurd (omega (arith, a, b))
first_at T n i (suc k) m a b t before = at_test (i == n) refl (λ c. first_at T n (suc i) k m c (omega (arith, b)) t (λ j p q. before j (omega (arith, p)) q))
  where
    at_test : (c : Bool) → (i == n) ≡ c → (suc i ≤ n → (ms : List Pending) × (listed T (suc i) k ≡ m ∷ ms)) → (ms : List Pending) × (listed T i (suc k) ≡ m ∷ ms)
    at_test true e on = (listed T (suc i) k, ap (λ o. in_front o (listed T (suc i) k)) (ap T (eqb-true i n e) ∙ t))
    at_test false e on =
        let ne = unequal i n e in
        let c : suc i ≤ n = omega (arith, a, ne) in
        let rest = on c in
        (rest.0, ap (λ o. in_front o (listed T (suc i) k)) (before i (omega arith) (omega (arith, c))) ∙ rest.1)

ordered_save : (m : Pending) (ms : List Pending) → pick (m ∷ ms) (m ∷ ms) ≡ None → ordered (suc (length ms)) (m ∷ ms) ≡ Save m.to ∷ ordered (suc (length ms)) (map (instead m.to) (m ∷ ms))
ordered_save m ms e =
    let then = first_then m ms in
    ap (λ o. round o m ms (ordered (length ms))) e
    ∙ ap (λ o. Save m.to ∷ make o (ordered (length ms))) then
    ∙ ap (λ o. Save m.to ∷ round o (instead m.to m) (map (instead m.to) ms) (ordered (length ms))) (sym then)

module _ (es es' : List Entry) (i : ℕ) (m : Saved es es' i) (h : i < length es) (l : IsLinked es) where
  saved_then : (w : Option ℕ) → is_saved es' w ≡ cond (is_at w i) true (is_saved es w)
  saved_then None = refl
  saved_then (Some j) = ap (λ (e : Entry). e.saved) (m.entry j)

  to_same : (q : ℕ) → (entry_at es' q).to ≡ (entry_at es q).to
  to_same q = ap (λ (e : Entry). e.to) (m.entry q)

  slot_saved : (q : ℕ) → q < length es → slot es' q ≡ option_map (instead (entry_at es i).to) (slot es q)
  slot_saved q lt =
      ap (λ (e : Entry). cond e.made None (Some (pending_in es' e))) (m.entry q)
      ∙ ap (λ b. cond (entry_at es q).made None (Some (let r : Pending = record { to = (entry_at es q).to; from = cond b None (Some (entry_at es q).from) } in r))) (saved_then (entry_at es q).writer)
      ∙ at_made (entry_at es q).made
    where
      at_saved : (a b : Bool) (f : Place) → cond (cond a true b) None (Some f) ≡ cond (cond b false a) None (cond b None (Some f))
      at_saved true true f = refl
      at_saved true false f = refl
      at_saved false true f = refl
      at_saved false false f = refl

      from_then : cond (cond (is_at (entry_at es q).writer i) true (is_saved es (entry_at es q).writer)) None (Some (entry_at es q).from) ≡ (instead (entry_at es i).to (pending_in es (entry_at es q))).from
      from_then =
          at_saved (is_at (entry_at es q).writer i) (is_saved es (entry_at es q).writer) (entry_at es q).from
          ∙ ap (λ b. cond b None (cond (is_saved es (entry_at es q).writer) None (Some (entry_at es q).from))) (sym (reads_by_writer es (entry_at es q).from (entry_at es q).writer i l (l.writers q lt) h))

      at_made : (b : Bool) → cond b None (Some (let r : Pending = record { to = (entry_at es q).to; from = cond (cond (is_at (entry_at es q).writer i) true (is_saved es (entry_at es q).writer)) None (Some (entry_at es q).from) } in r)) ≡ option_map (instead (entry_at es i).to) (cond b None (Some (pending_in es (entry_at es q))))
      at_made true = refl
      at_made false = ap (λ f. Some (let r : Pending = record { to = (entry_at es q).to; from = f } in r)) from_then

  left_saved : left es' ≡ map (instead (entry_at es i).to) (left es)
  left_saved = ap (listed (slot es') 0) m.each ∙ listed_same (slot es') (λ q. option_map (instead (entry_at es i).to) (slot es q)) 0 (length es) (λ q a b. slot_saved q (omega (arith, b))) ∙ listed_map (instead (entry_at es i).to) (slot es) 0 (length es)

  counted_saved : IsCounted es → IsCounted es'
  counted_saved c q lt' =
      let lt : q < length es = subst (λ n. q < n) m.each lt' in
      ap (λ (e : Entry). e.readers) (m.entry q) ∙ at_same (same (spot (entry_at es q).to) (spot (entry_at es i).to)) (q == i) refl refl lt ∙ sym (ap (λ x. reads x (spot (entry_at es' q).to)) left_saved ∙ ap (λ x. reads (map (instead (entry_at es i).to) (left es)) (spot x)) (to_same q) ∙ reads_instead (entry_at es i).to (left es) (entry_at es q).to)
    where
      at_same : (b t : Bool) → same (spot (entry_at es q).to) (spot (entry_at es i).to) ≡ b → (q == i) ≡ t → q < length es → cond t 0 (entry_at es q).readers ≡ cond (same (spot (entry_at es q).to) (spot (entry_at es i).to)) 0 (reads (left es) (spot (entry_at es q).to))
      at_same true true e f lt = sym (ap (λ b. cond b 0 (reads (left es) (spot (entry_at es q).to))) e)
      at_same false false e f lt = c q lt ∙ sym (ap (λ b. cond b 0 (reads (left es) (spot (entry_at es q).to))) e)
      at_same true false e f lt = absurd (unequal q i f (l.distinct q i lt h e))
      at_same false true e f lt = let t : same (spot (entry_at es q).to) (spot (entry_at es i).to) ≡ true = ap (λ x. same (spot (entry_at es q).to) (spot (entry_at es x).to)) (sym (eqb-true q i f)) ∙ same_self (spot (entry_at es q).to) in cc

pub not_left : (es : List Entry) (j : ℕ) → (entry_at es j).made ≡ true → slot es j ≡ None
not_left es j e = ap (λ b. cond b None (Some (pending_in es (entry_at es j)))) e

pub save_step : (all : List Step) (es es' : List Entry) (steps steps' : List Step) (i : ℕ) → Ordering all es steps → i < length es → NoneFree es (length es) → AllMade es i → (entry_at es i).made ≡ false → es' ≡ saved_at es i → steps' ≡ steps ++ Save (entry_at es i).to ∷ [] → Ordering all es' steps'
save_step all es es' steps steps' i o h none before undone is more =
    let m : Saved es es' i = subst (λ x. Saved es x i) (sym is) (saved_is es i h) in
    let first = first_at (slot es) i 0 (length es) (pending_in es (entry_at es i)) (omega arith) (omega (arith, h)) (ap (λ b. cond b None (Some (pending_in es (entry_at es i)))) undone) (λ j a b. not_left es j (before j b)) in
    let stuck : pick (left es) (left es) ≡ None = picks_none (left es) (left es) (all_blocked (left es) (slot es) 0 (length es) (λ j x a b t. blocked_at es j x o.counted (omega (arith, b)) (none j (omega (arith, b))) t)) in
    let head : pick (pending_in es (entry_at es i) ∷ first.0) (pending_in es (entry_at es i) ∷ first.0) ≡ None = ap₂ pick (sym first.1) (sym first.1) ∙ stuck in
    let now : left es' ≡ map (instead (entry_at es i).to) (pending_in es (entry_at es i) ∷ first.0) = left_saved es es' i m h o.linked ∙ ap (map (instead (entry_at es i).to)) first.1 in
    let size : length (left es') ≡ suc (length first.0) = ap length now ∙ ap suc (length-map first.0 (instead (entry_at es i).to)) in
    let one_more : ordered (length (left es)) (left es) ≡ Save (entry_at es i).to ∷ ordered (length (left es')) (left es') =
    ap (λ x. ordered (length x) x) first.1 ∙ ordered_save (pending_in es (entry_at es i)) first.0 head ∙ ap₂ (λ k x. Save (entry_at es i).to ∷ ordered k x) (sym size) (sym now) in
    record {
      linked = linked_same es es' m.each (λ q. ap (λ (e : Entry). e.to) (m.entry q)) (λ q. ap (λ (e : Entry). e.from) (m.entry q)) (λ q. ap (λ (e : Entry). e.writer) (m.entry q)) o.linked;
      counted = counted_saved es es' i m h o.linked o.counted;
      sequence = ap (λ x. x ++ ordered (length (left es')) (left es')) more ∙ append_assoc steps (Save (entry_at es i).to ∷ []) (ordered (length (left es')) (left es')) ∙ ap (λ x. steps ++ x) (sym one_more) ∙ o.sequence;
    }

-- it alone is free then
pub saved_only : (es es' : List Entry) (i : ℕ) → i < length es → es' ≡ saved_at es i → NoneFree es (length es) → (entry_at es i).made ≡ false → (is_free (entry_at es' i) ≡ true) × OnlyFree es' (length es') (Some i)
saved_only es es' i h is none undone =
    let m : Saved es es' i = subst (λ x. Saved es x i) (sym is) (saved_is es i h) in
    (ap (λ (e : Entry). not e.made && e.readers == 0) (m.entry i) ∙ ap₂ (λ x y. not x && cond y 0 (entry_at es i).readers == 0) undone (eq-eqb i i refl), λ j lt f. at_test m j (omega (arith, lt, m.each)) (j == i) refl f)
  where
    at_test : Saved es es' i → (j : ℕ) → j < length es → (b : Bool) → (j == i) ≡ b → is_free (entry_at es' j) ≡ true → Some i ≡ Some j
    at_test m j lt true e f = ap Some (sym (eqb-true j i e))
    at_test m j lt false e f =
        let still : is_free (entry_at es j) ≡ true = sym (ap (λ (x : Entry). not x.made && x.readers == 0) (m.entry j) ∙ ap (λ b. not (entry_at es j).made && cond b 0 (entry_at es j).readers == 0) e) ∙ f in
        let never = none j lt in
        cc

pub saved_stays : (es es' : List Entry) (i : ℕ) → i < length es → es' ≡ saved_at es i → StayMade es es'
saved_stays es es' i h is =
    let m : Saved es es' i = subst (λ x. Saved es x i) (sym is) (saved_is es i h) in
    (m.each, λ j e. ap (λ (x : Entry). x.made) (m.entry j) ∙ e)
