use Rattle.std.proofs.Common.{◌≡◌, ◌≢◌, ℕ, ◌+◌, ◌<◌, List, [], ◌∷◌, ◌++◌, refl, sym, ap, ◌∙◌, subst, length, get_or, set, arith, add-one, rules}
use Rattle.std.proofs.lemmas.List.{length-set, append-nil}
use native.Mathlib.Decide.{ℕ_discrete}
use Rattle.batch_serve.proofs.Moves.{takes, rests, indices_of-append, indices_of-own, indices_of-other, length-first_indices}
use Rattle.batch_serve.specs.Tickets.{most_tickets, indices_of, first_indices}
use Rattle.batch_serve.specs.Rule.{with_taken, ComesNext}
use Rattle.batch_serve.specs.Desks.{TookFirst, IsNextTicket, taken_of_sight}
use Rattle.batch_serve.specs.declared.sights.Ticket.{Ticket}
use Rattle.batch_serve.specs.declared.sights.Sight.{Sight}
use Rattle.batch_serve.specs.declared.sights.Sight.TheVariants.{Takes}
use Rattle.batch_serve.proofs.desk.Taker.take.Goals as goal

set_here : (xs : List ℕ) (i y : ℕ) → i < length xs → get_or (set xs i y) i 0 ≡ y
set_here xs i y small = search rules

set_else : (xs : List ℕ) (i j y : ℕ) → j ≢ i → get_or (set xs i y) j 0 ≡ get_or xs j 0
set_else xs i j y other = search rules

-- the counts after one more ticket
more : (taken : List Ticket) (x : Ticket) (counts : List ℕ) → length counts ≡ 2 → x.sender < 2 → x.index ≡ length (indices_of x.sender taken)
    → ((s : ℕ) → s < 2 → TookFirst taken s (get_or counts s 0))
    → (s : ℕ) → s < 2 → TookFirst (taken ++ x ∷ []) s (get_or (set counts x.sender (get_or counts x.sender 0 + 1)) s 0)
more taken x counts two one place first s small = elim (ℕ_discrete s x.sender) [ yes e ↦ here e | no n ↦ there n ] where
  here : s ≡ x.sender → TookFirst (taken ++ x ∷ []) s (get_or (set counts x.sender (get_or counts x.sender 0 + 1)) s 0)
  here e =
      let k : ℕ = get_or counts x.sender 0 in
      let was : indices_of x.sender taken ≡ first_indices k = first x.sender one in
      let index : x.index ≡ k = place ∙ (ap length was ∙ length-first_indices k) in
      let now : indices_of x.sender (taken ++ x ∷ []) ≡ first_indices k ++ k ∷ [] =
      indices_of-append x.sender taken (x ∷ []) ∙ ((λ i. was i ++ indices_of x.sender (x ∷ [])) ∙ (ap (λ l. first_indices k ++ l) (indices_of-own x.sender x [] refl) ∙ ap (λ j. first_indices k ++ j ∷ []) index)) in
      let count : get_or (set counts x.sender (k + 1)) x.sender 0 ≡ k + 1 = set_here counts x.sender (k + 1) (omega arith) in
      let P : ℕ → Type 0 = λ r. TookFirst (taken ++ x ∷ []) r (get_or (set counts x.sender (k + 1)) r 0) in
      subst P (sym e) (now ∙ sym (ap first_indices (count ∙ add-one k)))

  there : s ≢ x.sender → TookFirst (taken ++ x ∷ []) s (get_or (set counts x.sender (get_or counts x.sender 0 + 1)) s 0)
  there n =
      indices_of-append s taken (x ∷ []) ∙ (ap (λ l. indices_of s taken ++ l) (indices_of-other s x [] (λ e. n (sym e)))
      ∙ (append-nil (indices_of s taken) ∙ (first s small ∙ sym (ap first_indices (set_else counts x.sender s (get_or counts x.sender 0 + 1) n)))))

-- the count of the ticket's sender is small
few : (taken : List Ticket) (x : Ticket) (counts : List ℕ) → x.sender < 2 → x.index ≡ length (indices_of x.sender taken) → x.index < most_tickets
    → ((s : ℕ) → s < 2 → TookFirst taken s (get_or counts s 0)) → get_or counts x.sender 0 < most_tickets
few taken x counts one place small first =
    omega (arith, ap length (first x.sender one), length-first_indices (get_or counts x.sender 0))

-- what the pass tells of the ticket
next : (v : Sight) (taken : List Ticket) (x : Ticket) → v ≡ Takes 2 taken [] → ComesNext v x → IsNextTicket taken x
next v taken x is n = subst (λ y. ComesNext y x) is n

-- what the pass knows afterwards
after : (v w : Sight) (taken : List Ticket) (x : Ticket) → v ≡ Takes 2 taken [] → w ≡ with_taken v x → w ≡ Takes 2 (taken ++ x ∷ []) []
after v w taken x is e = e ∙ ap (λ y. with_taken y x) is

sym_took : (xs ys : List Ticket) (s count : ℕ) → xs ≡ ys → TookFirst ys s count → TookFirst xs s count
sym_took xs ys s count e t = ap (indices_of s) e ∙ t

seated : (v w : Sight) (x : Ticket) (counts : List ℕ) → v ≡ Takes 2 (taken_of_sight v) [] → w ≡ with_taken v x → ComesNext v x
    → length counts ≡ 2 → ((s : ℕ) → s < 2 → TookFirst (taken_of_sight v) s (get_or counts s 0))
    → (w ≡ Takes 2 (taken_of_sight w) []) × (length (set counts x.sender (get_or counts x.sender 0 + 1)) ≡ 2)
    × ((s : ℕ) → s < 2 → TookFirst (taken_of_sight w) s (get_or (set counts x.sender (get_or counts x.sender 0 + 1)) s 0))
seated v w x counts is e follows two first =
    let n = next v (taken_of_sight v) x is follows in
    let w_is : w ≡ Takes 2 (taken_of_sight v ++ x ∷ []) [] = after v w (taken_of_sight v) x is e in
    let taken_is : taken_of_sight w ≡ taken_of_sight v ++ x ∷ [] = ap taken_of_sight w_is in
    let m = more (taken_of_sight v) x counts two n.0 n.1 first in (
      w_is ∙ ap (λ l. Takes 2 l []) (sym taken_is),
      simp length-set two,
      λ s small. sym_took (taken_of_sight w) (taken_of_sight v ++ x ∷ []) s (get_or (set counts x.sender (get_or counts x.sender 0 + 1)) s 0) taken_is (m s small),
    )

pub pop_as-requires-clause-rule : goal.pop_as-requires-clause-rule
pop_as-requires-clause-rule g c = (takes _ _ _ _ _ c.requires.desk.1, rests _ _ _ _ _ c.requires.desk.1)

pub overflow_add-self : goal.overflow_add-self
overflow_add-self g c =
    let n = next _ _ _ c.requires.desk.1 c.in_ok-ticket.ensures.rule.1 in
    let b = few _ _ _ n.0 n.1 n.2 c.requires.desk.3 in omega arith

pub returns-clause-desk : goal.returns-clause-desk
returns-clause-desk g c =
    let same = c.in_ok-ticket.ensures.queue in
    let t = seated _ _ _ _ c.requires.desk.1 c.in_ok-ticket.ensures.rule.0 c.in_ok-ticket.ensures.rule.1 c.requires.desk.2 c.requires.desk.3 in
    ((same.0 ∙ c.requires.desk.0.0, same.2 ∙ c.requires.desk.0.1), t.0, t.1, t.2)
