use Rattle.std.proofs.Common.{◌≡◌, ℕ, ◌<◌, ◌≤◌, List, [], ◌∷◌, ◌++◌, refl, sym, ap, ◌∙◌, subst, length, get_or, arith, length-append}
use Rattle.batch_serve.proofs.Moves.{merges, settles, indices_of-append, length-first_indices}
use Rattle.batch_serve.specs.Tickets.{indices_of, first_indices}
use Rattle.batch_serve.specs.Rule.{with_ended, Settled}
use Rattle.batch_serve.specs.Desks.{TookFirst}
use Rattle.batch_serve.specs.declared.sights.Ticket.{Ticket}
use Rattle.batch_serve.specs.declared.sights.Sight.{Sight}
use Rattle.batch_serve.specs.declared.sights.Sight.TheVariants.{Sends, Takes}
use Rattle.batch_serve.proofs.desk.Desk.close.Goals as goal

-- what the taker's pass knows after it took in two senders
both_ended : (v w u x y : Sight) (taken : List Ticket) (p q : ℕ) → v ≡ Takes 2 taken [] → w ≡ Sends 0 p → u ≡ Sends 1 q
    → x ≡ with_ended v w → y ≡ with_ended x u → y ≡ Takes 2 taken (p ∷ q ∷ [])
both_ended v w u x y taken p q a b d e f =
    let e' : x ≡ Takes 2 taken (p ∷ []) = e ∙ (λ i. with_ended (a i) (b i)) in
    f ∙ (λ i. with_ended (e' i) (d i))

-- no more was taken than was put
no_more : (taken items : List Ticket) (s count put : ℕ) → indices_of s (taken ++ items) ≡ first_indices put → TookFirst taken s count → count ≤ put
no_more taken items s count put all first =
    omega (arith, ap length (sym (indices_of-append s taken items) ∙ all), length-append (indices_of s taken) (indices_of s items), length-first_indices put, ap length first, length-first_indices count)

numbered : (n : ℕ) (v : Sight) (m p : ℕ) → m ≡ n → v ≡ Sends m p → v ≡ Sends n p
numbered n v m p e f = f ∙ ap (λ k. Sends k p) e

-- what the counts say
closed : (taken : List Ticket) (y : Sight) (s : ℕ) (counts : List ℕ) (p q put : ℕ) → y ≡ Takes 2 taken (p ∷ q ∷ []) → s < 2
    → put ≡ get_or (p ∷ q ∷ []) s 0 → ((items : List Ticket) × Settled y items)
    → ((r : ℕ) → r < 2 → TookFirst taken r (get_or counts r 0))
    → TookFirst taken s (get_or counts s 0) × (get_or counts s 0 ≤ put)
closed taken y s counts p q put is small its seen first =
    let all = subst (λ z. Settled z seen.0) is seen.1 s small in
    (first s small, no_more taken seen.0 s (get_or counts s 0) put (all ∙ ap first_indices (sym its)) (first s small))

pub absorb-requires-clause-rule : goal.absorb-requires-clause-rule
absorb-requires-clause-rule c =
    merges _ _ _ _ _ _ _ _ _ c.requires.taker.1 (numbered 0 _ _ _ c.requires.first.1 c.requires.first.0.1) refl

first_in : (v w x : Sight) (taken : List Ticket) (p : ℕ) → v ≡ Takes 2 taken [] → w ≡ Sends 0 p → x ≡ with_ended v w → x ≡ Takes 2 taken (p ∷ [])
first_in v w x taken p a b e = e ∙ (λ i. with_ended (a i) (b i))

pub absorb-requires-2-clause-rule : goal.absorb-requires-2-clause-rule
absorb-requires-2-clause-rule c =
    merges _ _ _ _ _ _ _ _ _
    (first_in _ _ _ _ _ c.requires.taker.1 (numbered 0 _ _ _ c.requires.first.1 c.requires.first.0.1) c.absorb.ensures.rule)
    (numbered 1 _ _ _ c.requires.second.1 c.requires.second.0.1) refl

pub learn_as-requires-clause-rule : goal.learn_as-requires-clause-rule
learn_as-requires-clause-rule c =
    settles _ _ _ _ _
    (both_ended _ _ _ _ _ _ _ _ c.requires.taker.1 (numbered 0 _ _ _ c.requires.first.1 c.requires.first.0.1) (numbered 1 _ _ _ c.requires.second.1 c.requires.second.0.1) c.absorb.ensures.rule c.absorb-2.ensures.rule)

pub returns-clause-first : goal.returns-clause-first
returns-clause-first c =
    closed _ _ 0 _ _ _ _
    (both_ended _ _ _ _ _ _ _ _ c.requires.taker.1 (numbered 0 _ _ _ c.requires.first.1 c.requires.first.0.1) (numbered 1 _ _ _ c.requires.second.1 c.requires.second.0.1) c.absorb.ensures.rule c.absorb-2.ensures.rule)
    (omega arith) refl c.learn_as.ensures.rule c.requires.taker.3

pub returns-clause-second : goal.returns-clause-second
returns-clause-second c =
    closed _ _ 1 _ _ _ _
    (both_ended _ _ _ _ _ _ _ _ c.requires.taker.1 (numbered 0 _ _ _ c.requires.first.1 c.requires.first.0.1) (numbered 1 _ _ _ c.requires.second.1 c.requires.second.0.1) c.absorb.ensures.rule c.absorb-2.ensures.rule)
    (omega arith) refl c.learn_as.ensures.rule c.requires.taker.3
