-- Stores stay typed.
use Rattle.std.proofs.Common.{List, ◌≡◌, ◌≢◌, ℕ, ◌+◌, ◌-◌, ◌<◌, ◌≤◌, ⊎_elim, inl, inr, Bool, false, cond, ◌&&◌, nat_eq, nat_le, nat_lt, length, refl, sym, ap, ap₂, ◌∙◌, subst, arith, Option, Some, None}
use Rattle.std.proofs.lemmas.Bool.{cases_lt, cases_eq}
use Rattle.a64_memory.specs.Memory.{Area}
use Rattle.object_bytes.specs.Layouts.{Kind, Numbers, Pointers, Routines, Tags, Spot, Form, Body, Part, moved}
use Rattle.object_bytes.specs.Objects.{Cell, Number, Pointer, Routine, Tag, Objects, write, create, copied, Placing, with_new, without, Means, Kept, load}
use Rattle.object_bytes.specs.Typing.{Suits, Typed}
use Rattle.object_bytes.proofs.Parts.{get_some}
use Rattle.object_bytes.proofs.Kept.{here_or_not, test_same, test_else}
use Rattle.object_bytes.proofs.Lives.{at_new, place_without, form_here, form_else, cell_here, cell_else}
use Rattle.object_bytes.proofs.Blocks.{in_range, out_of_object, out_of_range}

module _ (records : ℕ → Form) where
  same_spot : {x y : Spot} {w : Option Spot} → w ≡ Some x → w ≡ Some y → x ≡ y
  same_spot e f = cc

  -- it is of the forms alone
  pub suits_forms : (o q : Objects) (t : Kind) (v : Cell) → ((k : ℕ) → v ≡ Pointer k → q.form k ≡ o.form k) → Suits records o t v → Suits records q t v
  suits_forms o q Numbers (Number n) e h = h
  suits_forms o q Numbers (Pointer k) e h = h
  suits_forms o q Numbers (Routine f) e h = h
  suits_forms o q Numbers (Tag n) e h = h
  suits_forms o q (Pointers t) (Number n) e h = h
  suits_forms o q (Pointers t) (Pointer k) e h = subst (λ b. Part b 1 8 (records t)) (sym (e k refl)) h
  suits_forms o q (Pointers t) (Routine f) e h = h
  suits_forms o q (Pointers t) (Tag n) e h = h
  suits_forms o q Routines (Number n) e h = h
  suits_forms o q Routines (Pointer k) e h = h
  suits_forms o q Routines (Routine f) e h = h
  suits_forms o q Routines (Tag n) e h = h
  suits_forms o q Tags (Number n) e h = h
  suits_forms o q Tags (Pointer k) e h = h
  suits_forms o q Tags (Routine f) e h = h
  suits_forms o q Tags (Tag n) e h = h

  pub typed_write : (o : Objects) (p : Placing) (k a c : ℕ) (s : Spot) (v : Cell) → Typed records o p → (o.form k).spot c ≡ Some s → Suits records o s.kind v → Typed records (write k c v o) p
  typed_write o p k a c s v h is suits = record {
    at = λ j b d t bt js. ⊎_elim
        (λ (e : (j ≡ k) × (d ≡ c)).
        let g : s ≡ t = same_spot is (ap₂ (λ i z. (o.form i).spot z) (sym e.0) (sym e.1) ∙ js) in
        subst (λ w. Suits records (write k c v o) t.kind w) (sym (ap (λ z. cond z v (o.cell j d)) (test_same j d k c e.0 e.1)))
        (suits_forms o (write k c v o) t.kind v (λ i e. refl) (subst (λ z. Suits records o z.kind v) g suits)))
        (λ e. subst (λ w. Suits records (write k c v o) t.kind w) (sym (ap (λ z. cond z v (o.cell j d)) (test_else j d k c e)))
        (suits_forms o (write k c v o) t.kind (o.cell j d) (λ i e. refl) (h.at j b d t bt js)))
        (here_or_not j d k c);
  }

  -- a pointer that a placed cell has names an object that is there
  pub typed_create : (o : Objects) (p : Placing) (m : List Area) (named : Bool) (k a : ℕ) (f : Body) (cells : ℕ → Cell) → Kept o p m → Typed records o p → p.heap k ≡ None
      → ((c : ℕ) (s : Spot) → f.spot c ≡ Some s → Suits records (create k f cells o) s.kind (cells c)) → Typed records (create k f cells o) (with_new named k a p)
  typed_create o p m named k a f cells kept h unnamed suits = record {
    at = λ j b d t bt js. ⊎_elim
        (λ (e : (j ≡ k) × (a ≡ b)).
        subst (λ w. Suits records (create k f cells o) t.kind w) (sym (cell_here o k f cells j d e.0))
        (suits d t (ap (λ g. g.spot d) (sym (form_here o k f cells j e.0)) ∙ js)))
        (λ (e : (j ≢ k) × (p.place j ≡ Some b)).
        let js' : (o.form j).spot d ≡ Some t = ap (λ g. g.spot d) (sym (form_else o k f cells j e.0)) ∙ js in
        subst (λ w. Suits records (create k f cells o) t.kind w) (sym (cell_else o k f cells j d e.0))
        (suits_forms o (create k f cells o) t.kind (o.cell j d)
        (λ i is. form_else o k f cells i (λ s. some_or_none (ap p.heap (sym s) ∙ (subst (λ v. Means p v (load t.small m (b + t.at))) is (kept.holds j b d t e.1 js'))) unnamed))
        (h.at j b d t e.1 js')))
        (at_new p.place k a j b bt);
  }
    where
      some_or_none : {x : ℕ} {w : Option ℕ} → w ≡ Some x → w ≡ None → ⊥
      some_or_none e f = cc

  pub typed_without : (o : Objects) (p : Placing) (k : ℕ) → Typed records o p → Typed records o (without k p)
  typed_without o p k h = record { at = λ j b d t bt js. h.at j b d t (place_without k j b p bt).1 js }

  pub typed_copy : (o : Objects) (p : Placing) (f : Form) (k d u j a c w : ℕ) → Typed records o p → Part (o.form k) d u f → p.place j ≡ Some a → Part (o.form j) c w f → Typed records (copied k d j c (length f.spots) o) p
  typed_copy o p f k d u j a c w h into from out = record {
    at = λ i q e t at is. ⊎_elim
        (λ (s : i ≡ k). ⊎_elim
        (λ (l : e < d). kept_as i q e t at is (out_of_range i e k d (length f.spots) (inl l)))
        (λ (g : d ≤ e). ⊎_elim
        (λ (l : e < d + length f.spots).
        let y = get_some f.spots (e - d) (omega (arith, g, l)) in
        let z : d + (e - d) ≡ e = omega (arith, g) in
        let same : t ≡ moved u y.0 = same_spot is (ap₂ (λ i e. (o.form i).spot e) s (sym z) ∙ into.at (e - d) y.0 y.1) in
        subst (λ v. Suits records (copied k d j c (length f.spots) o) t.kind v) (sym (ap (λ z. cond z (o.cell j (c + (e - d))) (o.cell i e)) (in_range i e k d (length f.spots) s g l)))
        (suits_forms o (copied k d j c (length f.spots) o) t.kind (o.cell j (c + (e - d))) (λ i e. refl)
        (subst (λ x. Suits records o x.kind (o.cell j (c + (e - d)))) (sym same) (h.at j a (c + (e - d)) (moved w y.0) from (out.at (e - d) y.0 y.1)))))
        (λ (n : d + length f.spots ≤ e). kept_as i q e t at is (out_of_range i e k d (length f.spots) (inr n)))
        (cases_lt e (d + length f.spots)))
        (cases_lt e d))
        (λ (n : i ≢ k). kept_as i q e t at is (out_of_object i e k d (length f.spots) n))
        (cases_eq i k);
  }
    where
      kept_as : (i q e : ℕ) (t : Spot) → p.place i ≡ Some q → (o.form i).spot e ≡ Some t → (nat_eq i k && (nat_le d e && nat_lt e (d + length f.spots))) ≡ false → Suits records (copied k d j c (length f.spots) o) t.kind ((copied k d j c (length f.spots) o).cell i e)
      kept_as i q e t at is test =
          subst (λ v. Suits records (copied k d j c (length f.spots) o) t.kind v) (sym (ap (λ z. cond z (o.cell j (c + (e - d))) (o.cell i e)) test))
          (suits_forms o (copied k d j c (length f.spots) o) t.kind (o.cell i e) (λ i e. refl) (h.at i q e t at is))
