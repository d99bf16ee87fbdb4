-- The next items of a list, one by one, and lists of these.
use Rattle.std.proofs.Common.{◌≡◌, ℕ, zero, suc, ◌+◌, ◌-◌, ◌<◌, List, [], ◌∷◌, ◌++◌, length, map, take, drop, get_or, refl, sym, ap, ap₂, ◌∙◌, arith, append_assoc}
use Rattle.std.proofs.lemmas.List.{drop_more, map-append}
use Rattle.lir_core.specs.declared.places.TraceOut.{TraceOut}
use Rattle.trace_work.specs.declared.planning.TracePlan.{TracePlan}
use Rattle.flow_allocation.specs.Sharing.{shares}

module _ {A : Type 0} where
  pub to_end : (xs : List A) → xs ++ [] ≡ xs
  to_end [] = refl
  to_end (x ∷ xs) = ap (λ ys. x ∷ ys) (to_end xs)

  pub none_of : (xs : List A) → length xs ≡ 0 → xs ≡ []
  none_of [] e = refl
  none_of (x ∷ xs) e = absurd (omega (arith, e))

  pub take_none : (k : ℕ) (xs : List A) → xs ≡ [] → take k xs ≡ []
  take_none zero xs e = refl
  take_none (suc k) [] e = refl
  take_none (suc k) (x ∷ xs) e = cc

  pub drop_none : (k : ℕ) (xs : List A) → xs ≡ [] → drop k xs ≡ []
  drop_none zero xs e = e
  drop_none (suc k) [] e = refl
  drop_none (suc k) (x ∷ xs) e = cc

  -- how far the taking of so many has come
  pub record IsTaken (count counter : ℕ) (own rest all : List A) : Type 0 where
    pub front : own ++ take (count - counter) rest ≡ take count all
    pub back : drop (count - counter) rest ≡ drop count all

  pub none_yet : (count : ℕ) (own all : List A) → own ≡ [] → IsTaken count 0 own all all
  none_yet count own all e =
      let n : count - 0 ≡ count = omega arith in
      record { front = ap₂ (λ xs k. xs ++ take k all) e n; back = ap (λ k. drop k all) n }

  pub one_more : (count counter : ℕ) (own rest all : List A) (x : A) (own' rest' : List A) → IsTaken count counter own rest all → counter < count → rest ≡ x ∷ rest' → own' ≡ own ++ x ∷ [] → IsTaken count (counter + 1) own' rest' all
  one_more count counter own rest all x own' rest' h lt r o =
      let n : count - counter ≡ suc (count - (counter + 1)) = omega (arith, lt) in record {
        front =
            ap (λ xs. xs ++ take (count - (counter + 1)) rest') o
            ∙ append_assoc own (x ∷ []) (take (count - (counter + 1)) rest')
            ∙ ap (λ ys. own ++ take (suc (count - (counter + 1))) ys) (sym r)
            ∙ ap (λ k. own ++ take k rest) (sym n)
            ∙ h.front;
        back = ap (drop (suc (count - (counter + 1)))) (sym r) ∙ ap (λ k. drop k rest) (sym n) ∙ h.back;
      }

  pub all_taken : (count counter : ℕ) (own rest all : List A) → IsTaken count counter own rest all → count - counter ≡ 0 → (own ≡ take count all) × (rest ≡ drop count all)
  all_taken count counter own rest all h e = (
    sym (to_end own) ∙ ap (λ k. own ++ take k rest) (sym e) ∙ h.front,
    ap (λ k. drop k rest) (sym e) ∙ h.back,
  )

  -- where there are no more
  pub no_more : (count counter : ℕ) (own rest all rest' : List A) → IsTaken count counter own rest all → length rest ≡ 0 → length rest' ≡ 0 → (own ≡ take count all) × (rest' ≡ drop count all)
  no_more count counter own rest all rest' h e e' =
      let r = none_of rest e in (
        sym (to_end own) ∙ ap (λ ys. own ++ ys) (sym (take_none (count - counter) rest r)) ∙ h.front,
        none_of rest' e' ∙ sym (drop_none (count - counter) rest r) ∙ h.back,
      )

-- the items of lists, one more
pub items_more : {A B : Type 0} (f : A → B) (xs ys : List A) (x : A) → ys ≡ xs ++ x ∷ [] → map f ys ≡ map f xs ++ f x ∷ []
items_more f xs ys x e = ap (map f) e ∙ map-append f xs (x ∷ [])

---- Shares

pub share_more : (plans : List TracePlan) (i : ℕ) (p : TracePlan) (lt : i < length plans) (item : p ≡ get_or plans i p) (outs : List (List TraceOut)) (rest all : List TraceOut) (own rest' : List TraceOut) (outs' : List (List TraceOut))
    → outs ++ shares (drop i plans) rest ≡ shares plans all → own ≡ take (length p.traces) rest → rest' ≡ drop (length p.traces) rest → outs' ≡ outs ++ own ∷ []
    → outs' ++ shares (drop (i + 1) plans) rest' ≡ shares plans all
share_more plans i p lt item outs rest all own rest' outs' before o r new =
    ap₂ (λ xs ys. xs ++ shares (drop (i + 1) plans) ys) new r
    ∙ append_assoc outs (own ∷ []) (shares (drop (i + 1) plans) (drop (length p.traces) rest))
    ∙ ap (λ ys. outs ++ ys ∷ shares (drop (i + 1) plans) (drop (length p.traces) rest)) o
    ∙ ap (λ ps. outs ++ shares ps rest) (sym (drop_more plans i p lt ∙ ap (λ x. x ∷ drop (i + 1) plans) (sym item)))
    ∙ before
