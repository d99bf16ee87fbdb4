-- Each move keeps the rule of a desk's queue.
use Rattle.std.proofs.Common.{◌≡◌, ◌≢◌, ℕ, zero, suc, eqb, eq-eqb, ne_eqb, cond, true, false, List, [], ◌∷◌, ◌++◌, ◌+◌, ◌<◌, ◌≤◌, length, set, sym, refl, ap, ◌∙◌, subst, ⊎_elim, append_assoc, add-one, lt_of_not-le, arith, length-append, get_or}
use Rattle.std.proofs.lemmas.List.{append-nil}
use mathlib.Core.Option.{some, some-ne-none, some-injective}
use lib.ListN.{get_elem?}
use native.Mathlib.Decide.{ℕ_discrete}
use Rattle.crossbeam_queue.specs.Fifo.{Pushes, Pops, Forks, Merges, Learns}
use Rattle.crossbeam_queue.proofs.Lists.{at_set}
use Rattle.batch_serve.specs.Tickets.{most_tickets, ticket, indices_of, first_indices}
use Rattle.batch_serve.specs.Rule.{Parties, IsTrueSight, KeepsOrder, first_sight, with_sender, newcomer, with_ended, with_put, with_taken, ComesNext, Lasts, Rests, Settled}
use Rattle.batch_serve.specs.declared.sights.Ticket.{Ticket}
use Rattle.batch_serve.specs.declared.sights.Sight.{Sight}
use Rattle.batch_serve.specs.declared.sights.Sight.TheVariants.{Sends, Takes, Spent}

-- an index that is looked up at another number than n keeps its value
abbrev pub at_one : ℕ → ℕ → (ℕ → ℕ) → ℕ → ℕ
at_one n y f m = cond (eqb m n) y (f m)

pub at_here : (n y : ℕ) (f : ℕ → ℕ) → at_one n y f n ≡ y
at_here n y f = rw (eq-eqb n n refl) refl

pub at_else : (n y : ℕ) (f : ℕ → ℕ) (m : ℕ) → m ≢ n → at_one n y f m ≡ f m
at_else n y f m other = rw (ne_eqb m n other) refl

at_here_by : (m n y : ℕ) (f : ℕ → ℕ) → m ≡ n → at_one n y f m ≡ y
at_here_by m n y f e = ap (at_one n y f) e ∙ at_here n y f

pub indices_of-append : (s : ℕ) (xs ys : List Ticket) → indices_of s (xs ++ ys) ≡ indices_of s xs ++ indices_of s ys
indices_of-append s [] ys = refl
indices_of-append s (x ∷ xs) ys = by_test (eqb x.sender s) x.index (indices_of s xs) (indices_of s (xs ++ ys)) (indices_of s ys) (indices_of-append s xs ys) where
  by_test : (b : _) (i : ℕ) (l m r : List ℕ) → m ≡ l ++ r → cond b (i ∷ m) m ≡ cond b (i ∷ l) l ++ r
  by_test true i l m r e = ap (λ w. i ∷ w) e
  by_test false i l m r e = e

pub indices_of-own : (s : ℕ) (x : Ticket) (xs : List Ticket) → x.sender ≡ s → indices_of s (x ∷ xs) ≡ x.index ∷ indices_of s xs
indices_of-own s x xs e = rw (eq-eqb x.sender s e) refl

pub indices_of-other : (s : ℕ) (x : Ticket) (xs : List Ticket) → x.sender ≢ s → indices_of s (x ∷ xs) ≡ indices_of s xs
indices_of-other s x xs e = rw (ne_eqb x.sender s e) refl

-- an item in front of the last
front_of : (xs : List ℕ) (y k d : ℕ) → k < length xs → get_or (xs ++ y ∷ []) k d ≡ get_or xs k d
front_of [] y k d small = absurd (omega arith)
front_of (x ∷ xs) y zero d small = refl
front_of (x ∷ xs) y (suc k) d small = front_of xs y k d (omega arith)

-- the last item
last_of : (xs : List ℕ) (y d : ℕ) → get_or (xs ++ y ∷ []) (length xs) d ≡ y
last_of [] y d = refl
last_of (x ∷ xs) y d = last_of xs y d

pub length-first_indices : (n : ℕ) → length (first_indices n) ≡ n
length-first_indices zero = refl
length-first_indices (suc n) = omega (arith, length-append (first_indices n) (n ∷ []), length-first_indices n)

-- what all passes know, after one of them changed
abbrev All : (ℕ → Sight → Type 0) → List Sight → Type 0
All F sights = (port : ℕ) (v : Sight) → get_elem? sights port ≡ some v → F port v

all_set : (F : ℕ → Sight → Type 0) (sights : List Sight) (port : ℕ) (w : Sight) → F port w → ((j : ℕ) (u : Sight) → j ≢ port → get_elem? sights j ≡ some u → F j u) → All F (set sights port w)
all_set F sights port w mine others j u e = ⊎_elim (λ (x : (j ≡ port) × (w ≡ u)). subst (λ (y : ℕ × Sight). F y.0 y.1) (λ i. (sym x.0 i, x.1 i)) mine)
    (λ (x : (j ≢ port) × (get_elem? sights j ≡ some u)). others j u x.0 x.1) (at_set sights port j w u e)

abbrev first_parties : Parties
first_parties = record { seat = λ s. 0; put = λ s. 0; made = 0; taker = 0; taken = []; ended = [] }

begins_known : (port : ℕ) (v : Sight) → get_elem? (first_sight ∷ []) port ≡ some v → IsTrueSight first_parties port v
begins_known zero v e = subst (IsTrueSight first_parties 0) (some-injective first_sight v e) (refl, refl, refl, refl)
begins_known (suc port) v e = absurd (some-ne-none v (sym e))

pub begins : KeepsOrder [] (first_sight ∷ [])
begins = record {
  parties = first_parties;
  in_order = λ s. refl;
  known = begins_known;
  few = λ s. omega arith;
  unmade = λ s m. refl;
  ended = λ s m. absurd (omega arith);
  ended_made = omega arith;
}

-- the parties after a sender put one more
abbrev after_put : Parties → ℕ → ℕ → Parties
after_put h s p = record { seat = h.seat; put = at_one s (p + 1) h.put; made = h.made; taker = h.taker; taken = h.taken; ended = h.ended }

-- another pass still knows what there is
kept_else : (h : Parties) (s p port j : ℕ) (u : Sight) → port ≡ h.seat s → j ≢ port → IsTrueSight h j u → IsTrueSight (after_put h s p) j u
kept_else h s p port j (Sends r q) mine other fits =
    let apart : r ≢ s = λ (e : r ≡ s). other (fits.0 ∙ (ap h.seat e ∙ sym mine)) in
    (fits.0, fits.1 ∙ sym (at_else s (p + 1) h.put r apart), fits.2, fits.3)
kept_else h s p port j (Takes made taken ended) mine other fits = fits
kept_else h s p port j Spent mine other fits = tt

put_order : (taken items : List Ticket) (put : ℕ → ℕ) (s p : ℕ) → ((r : ℕ) → indices_of r (taken ++ items) ≡ first_indices (put r)) → p ≡ put s
    → (r : ℕ) → indices_of r (taken ++ (items ++ ticket s p ∷ [])) ≡ first_indices (at_one s (p + 1) put r)
put_order taken items put s p held is r = elim (ℕ_discrete r s) [ yes e ↦ here e | no n ↦ there n ] where
  split : indices_of r (taken ++ (items ++ ticket s p ∷ [])) ≡ indices_of r (taken ++ items) ++ indices_of r (ticket s p ∷ [])
  split = ap (indices_of r) (sym (append_assoc taken items (ticket s p ∷ []))) ∙ indices_of-append r (taken ++ items) (ticket s p ∷ [])

  here : r ≡ s → indices_of r (taken ++ (items ++ ticket s p ∷ [])) ≡ first_indices (at_one s (p + 1) put r)
  here e =
      let a : indices_of r (ticket s p ∷ []) ≡ p ∷ [] = indices_of-own r (ticket s p) [] (sym e) in
      let b : indices_of r (taken ++ items) ≡ first_indices p = held r ∙ ap first_indices (ap put e ∙ sym is) in
      let c : at_one s (p + 1) put r ≡ suc p = ap (at_one s (p + 1) put) e ∙ (at_here s (p + 1) put ∙ add-one p) in
      split ∙ (ap (λ l. l ++ indices_of r (ticket s p ∷ [])) b ∙ (ap (λ l. first_indices p ++ l) a ∙ sym (ap first_indices c)))

  there : r ≢ s → indices_of r (taken ++ (items ++ ticket s p ∷ [])) ≡ first_indices (at_one s (p + 1) put r)
  there n =
      let a : indices_of r (ticket s p ∷ []) ≡ [] = indices_of-other r (ticket s p) [] (λ e. n (sym e)) in
      split ∙ (ap (λ l. indices_of r (taken ++ items) ++ l) a ∙ (append-nil (indices_of r (taken ++ items)) ∙ (held r ∙ sym (ap first_indices (at_else s (p + 1) put r n)))))

few_more : (put : ℕ → ℕ) (s p r : ℕ) → p < most_tickets → ((q : ℕ) → put q ≤ most_tickets) → at_one s (p + 1) put r ≤ most_tickets
few_more put s p r small few = elim (ℕ_discrete r s) [
  | yes e ↦ let b = at_here_by r s (p + 1) put e in omega arith
  | no n ↦ let b = at_else s (p + 1) put r n in let c = few r in omega arith
]

pub puts : (n port : ℕ) (v : Sight) (x : Ticket) (s p : ℕ) → v ≡ Sends s p → x ≡ ticket s p → p < most_tickets → Pushes KeepsOrder n port v x (λ w. w ≡ with_put v)
puts n port v x s p is what small items sights room k at =
    let h = k.parties in
    let mine : IsTrueSight h port (Sends s p) = subst (IsTrueSight h port) is (k.known port v at) in
    let at_s : at_one s (p + 1) h.put s ≡ p + 1 = at_here s (p + 1) h.put in
    let new : KeepsOrder (items ++ ticket s p ∷ []) (set sights port (Sends s (p + 1))) = record {
      parties = after_put h s p;
      in_order = put_order h.taken items h.put s p k.in_order mine.1;
      known = all_set (IsTrueSight (after_put h s p)) sights port (Sends s (p + 1)) (mine.0, sym at_s, mine.2, mine.3)
          (λ j u other e. kept_else h s p port j u mine.0 other (k.known j u e));
      few = λ r. few_more h.put s p r small k.few;
      unmade = λ r late. at_else s (p + 1) h.put r (λ e. let b = mine.3 in omega arith) ∙ k.unmade r late;
      ended = λ r done. k.ended r done ∙ sym (at_else s (p + 1) h.put r (λ e. let b = mine.2 in omega arith));
      ended_made = k.ended_made;
    } in (
      Sends s (p + 1),
      subst (λ (y : Ticket). KeepsOrder (items ++ y ∷ []) (set sights port (Sends s (p + 1)))) (sym what) new,
      ap with_put (sym is),
    )

-- the first item behind a list
at_end : (xs : List ℕ) (i : ℕ) (ys : List ℕ) → get_or (xs ++ i ∷ ys) (length xs) i ≡ i
at_end [] i ys = refl
at_end (x ∷ xs) i ys = at_end xs i ys

get_or-first_indices : (n k d : ℕ) → k < n → get_or (first_indices n) k d ≡ k
get_or-first_indices zero k d small = absurd (omega arith)
get_or-first_indices (suc n) k d small = elim (ℕ_discrete k n) [
  | yes e ↦ ap (λ j. get_or (first_indices n ++ n ∷ []) j d) (e ∙ sym (length-first_indices n)) ∙ (last_of (first_indices n) n d ∙ sym e)
  | no other ↦ front_of (first_indices n) n k d (let b = length-first_indices n in omega arith) ∙ get_or-first_indices n k d (omega arith)
]

not_late : (made s put : ℕ) → (made ≤ s → put ≡ 0) → 0 < put → s < made
not_late made s put late some_there = lt_of_not-le (λ l. let e = late l in omega arith)

-- the list of those that ended, one longer
ended_more : (ended : List ℕ) (put : ℕ → ℕ) (p s : ℕ) → length ended ≡ s → p ≡ put s → ((r : ℕ) → r < length ended → get_or ended r 0 ≡ put r)
    → (r : ℕ) → r < length (ended ++ p ∷ []) → get_or (ended ++ p ∷ []) r 0 ≡ put r
ended_more ended put p s count is told r small = elim (ℕ_discrete r s) [
  | yes e ↦ ap (λ j. get_or (ended ++ p ∷ []) j 0) (e ∙ sym count) ∙ (last_of ended p 0 ∙ (is ∙ ap put (sym e)))
  | no other ↦
      let less : r < length ended = omega (arith, length-append ended (p ∷ [])) in
      front_of ended p r 0 less ∙ told r less
]

-- the parties after a ticket was taken
abbrev after_take : Parties → Ticket → Parties
after_take h x = record { seat = h.seat; put = h.put; made = h.made; taker = h.taker; taken = h.taken ++ x ∷ []; ended = h.ended }

kept_by_others : (h : Parties) (x : Ticket) (port j : ℕ) (u : Sight) → port ≡ h.taker → j ≢ port → IsTrueSight h j u → IsTrueSight (after_take h x) j u
kept_by_others h x port j (Sends r q) mine other fits = fits
kept_by_others h x port j (Takes made taken ended) mine other fits = absurd (other (fits.0 ∙ sym mine))
kept_by_others h x port j Spent mine other fits = tt

-- the numbers below n begin with their own places
place_of : (n : ℕ) (xs : List ℕ) (i : ℕ) (ys : List ℕ) → xs ++ i ∷ ys ≡ first_indices n → i ≡ length xs
place_of n xs i ys e =
    let here : get_or (xs ++ i ∷ ys) (length xs) i ≡ i = at_end xs i ys in
    let short : length xs < n = omega (arith, ap length e, length-append xs (i ∷ ys), length-first_indices n) in
    sym here ∙ (ap (λ l. get_or l (length xs) i) e ∙ get_or-first_indices n (length xs) i short)

-- a ticket that is there was put
some_put : (n : ℕ) (xs : List ℕ) (i : ℕ) (ys : List ℕ) → xs ++ i ∷ ys ≡ first_indices n → 0 < n
some_put n xs i ys e = omega (arith, ap length e, length-append xs (i ∷ ys), length-first_indices n)

small_index : (n : ℕ) (xs : List ℕ) (i : ℕ) (ys : List ℕ) → xs ++ i ∷ ys ≡ first_indices n → n ≤ most_tickets → i < most_tickets
small_index n xs i ys e few = let p = place_of n xs i ys e in omega (arith, ap length e, length-append xs (i ∷ ys), length-first_indices n)

pub takes : (port : ℕ) (v : Sight) (made : ℕ) (taken : List Ticket) (ended : List ℕ) → v ≡ Takes made taken ended
    → Pops KeepsOrder port v (λ x w. (w ≡ with_taken v x) × ComesNext v x)
takes port v made taken ended is x items sights k at =
    let h = k.parties in
    let mine : IsTrueSight h port (Takes made taken ended) = subst (IsTrueSight h port) is (k.known port v at) in
    let row : indices_of x.sender (taken ++ x ∷ items) ≡ first_indices (h.put x.sender) = ap (λ l. indices_of x.sender (l ++ x ∷ items)) mine.2 ∙ k.in_order x.sender in
    let cut : indices_of x.sender taken ++ x.index ∷ indices_of x.sender items ≡ first_indices (h.put x.sender) =
    ap (λ l. indices_of x.sender taken ++ l) (sym (indices_of-own x.sender x items refl)) ∙ (sym (indices_of-append x.sender taken (x ∷ items)) ∙ row) in
    let some_there : 0 < h.put x.sender = some_put (h.put x.sender) (indices_of x.sender taken) x.index (indices_of x.sender items) cut in
    let early : x.sender < h.made = not_late h.made x.sender (h.put x.sender) (k.unmade x.sender) some_there in
    let next : ComesNext (Takes made taken ended) x = (subst (λ m. x.sender < m) (sym mine.1) early, place_of (h.put x.sender) (indices_of x.sender taken) x.index (indices_of x.sender items) cut, small_index (h.put x.sender) (indices_of x.sender taken) x.index (indices_of x.sender items) cut (k.few x.sender)) in
    let new : KeepsOrder items (set sights port (Takes made (taken ++ x ∷ []) ended)) = record {
      parties = after_take h x;
      in_order = λ s. ap (indices_of s) (append_assoc h.taken (x ∷ []) items) ∙ k.in_order s;
      known = all_set (IsTrueSight (after_take h x)) sights port (Takes made (taken ++ x ∷ []) ended) (mine.0, mine.1, ap (λ l. l ++ x ∷ []) mine.2, mine.3)
          (λ j u other e. kept_by_others h x port j u mine.0 other (k.known j u e));
      few = k.few;
      unmade = k.unmade;
      ended = k.ended;
      ended_made = k.ended_made;
    } in (
      Takes made (taken ++ x ∷ []) ended,
      new,
      (ap (λ y. with_taken y x) (sym is), subst (λ y. ComesNext y x) (sym is) next),
    )

-- the parties after a sender was made, whose pass is at this port
abbrev after_made : Parties → ℕ → Parties
after_made h port = record { seat = at_one h.made port h.seat; put = h.put; made = h.made + 1; taker = h.taker; taken = h.taken; ended = h.ended }

kept_made : (h : Parties) (new port j : ℕ) (u : Sight) → port ≡ h.taker → j ≢ port → IsTrueSight h j u → IsTrueSight (after_made h new) j u
kept_made h new port j (Sends r q) mine other fits =
    (fits.0 ∙ sym (at_else h.made new h.seat r (λ e. let b = fits.3 in omega arith)), fits.1, fits.2, (let b = fits.3 in omega arith))
kept_made h new port j (Takes made taken ended) mine other fits = absurd (other (fits.0 ∙ sym mine))
kept_made h new port j Spent mine other fits = tt

at_longer_or_last : (F : ℕ → Sight → Type 0) (sights : List Sight) (w : Sight) → All F sights → F (length sights) w → All F (sights ++ w ∷ [])
at_longer_or_last F [] w all last zero v e = subst (F 0) (some-injective w v e) last
at_longer_or_last F [] w all last (suc j) v e = absurd (some-ne-none v (sym e))
at_longer_or_last F (x ∷ xs) w all last zero v e = all 0 v e
at_longer_or_last F (x ∷ xs) w all last (suc j) v e = at_longer_or_last (λ n. F (suc n)) xs w (λ n. all (suc n)) last j v e

pub forks : (port : ℕ) (v : Sight) (made : ℕ) (taken : List Ticket) (ended : List ℕ) → v ≡ Takes made taken ended
    → Forks KeepsOrder port v (with_sender v) (newcomer v)
forks port v made taken ended is items sights k at =
    let h = k.parties in
    let mine : IsTrueSight h port (Takes made taken ended) = subst (IsTrueSight h port) is (k.known port v at) in
    let left : List Sight = set sights port (Takes (made + 1) taken ended) in
    let h' : Parties = after_made h (length left) in
    let new : KeepsOrder items (left ++ Sends made 0 ∷ []) = record {
      parties = h';
      in_order = k.in_order;
      known = at_longer_or_last (IsTrueSight h') left (Sends made 0)
          (all_set (IsTrueSight h') sights port (Takes (made + 1) taken ended) (mine.0, ap (λ m. m + 1) mine.1, mine.2, mine.3)
          (λ j u other e. kept_made h (length left) port j u mine.0 other (k.known j u e)))
          (sym (at_here_by made h.made (length left) h.seat mine.1), sym (k.unmade made (let b = mine.1 in omega arith)), (let b = mine.1 in let d = k.ended_made in omega arith), (let b = mine.1 in omega arith));
      few = k.few;
      unmade = λ s late. k.unmade s (omega arith);
      ended = k.ended;
      ended_made = let b = k.ended_made in omega arith;
    } in
    subst (λ y. KeepsOrder items (set sights port (with_sender y) ++ newcomer y ∷ [])) (sym is) new

-- the parties after a sender ended
abbrev after_end : Parties → ℕ → Parties
after_end h p = record { seat = h.seat; put = h.put; made = h.made; taker = h.taker; taken = h.taken; ended = h.ended ++ p ∷ [] }

kept_end : (h : Parties) (s p port other j : ℕ) (u : Sight) → port ≡ h.taker → other ≡ h.seat s → length h.ended ≡ s
    → j ≢ port → j ≢ other → IsTrueSight h j u → IsTrueSight (after_end h p) j u
kept_end h s p port other j (Sends r q) mine its count here there fits =
    let apart : r ≢ s = λ (e : r ≡ s). there (fits.0 ∙ (ap h.seat e ∙ sym its)) in
    (fits.0, fits.1, (let b = fits.2 in omega (arith, length-append h.ended (p ∷ []))), fits.3)
kept_end h s p port other j (Takes made taken ended) mine its count here there fits = absurd (here (fits.0 ∙ sym mine))
kept_end h s p port other j Spent mine its count here there fits = tt

pub merges : (port : ℕ) (v : Sight) (other : ℕ) (w : Sight) (made : ℕ) (taken : List Ticket) (ended : List ℕ) (s p : ℕ)
    → v ≡ Takes made taken ended → w ≡ Sends s p → length ended ≡ s
    → Merges KeepsOrder port v other w (with_ended v w) Spent
merges port v other w made taken ended s p is its count items sights k at two at' =
    let h = k.parties in
    let both : Sight = Takes made taken (ended ++ p ∷ []) in
    let both_is : with_ended v w ≡ both = (λ i. with_ended (is i) (its i)) in
    let mine : IsTrueSight h port (Takes made taken ended) = subst (IsTrueSight h port) is (k.known port v at) in
    let was : get_elem? sights other ≡ some w = ⊎_elim (λ x. absurd (two x.0)) (λ x. x.1) (at_set sights port other (with_ended v w) w at') in
    let theirs : IsTrueSight h other (Sends s p) = subst (IsTrueSight h other) its (k.known other w was) in
    let count' : length h.ended ≡ s = ap length (sym mine.3) ∙ count in
    let h' : Parties = after_end h p in
    let first : (j : ℕ) (u : Sight) → get_elem? (set sights port both) j ≡ some u → j ≢ other → IsTrueSight h' j u =
    all_set (λ j u. j ≢ other → IsTrueSight h' j u) sights port both (λ apart. (mine.0, mine.1, mine.2, ap (λ l. l ++ p ∷ []) mine.3))
    (λ j u here e there. kept_end h s p port other j u mine.0 theirs.0 count' here there (k.known j u e)) in
    let new : KeepsOrder items (set (set sights port both) other Spent) = record {
      parties = h';
      in_order = k.in_order;
      known = all_set (IsTrueSight h') (set sights port both) other Spent tt (λ j u there e. first j u e there);
      few = k.few;
      unmade = k.unmade;
      ended = ended_more h.ended h.put p s count' theirs.1 k.ended;
      ended_made = let b = theirs.3 in omega (arith, length-append h.ended (p ∷ []));
    } in
    subst (λ y. KeepsOrder items (set (set sights port y) other Spent)) (sym both_is) new

pub lasts : (port : ℕ) (v : Sight) (s p : ℕ) → v ≡ Sends s p → Learns KeepsOrder port v (Lasts v)
lasts port v s p is items sights k at =
    let h = k.parties in
    let mine : IsTrueSight h port (Sends s p) = subst (IsTrueSight h port) is (k.known port v at) in
    subst (λ y. Lasts y items) (sym is)
    (indices_of s h.taken, sym (indices_of-append s h.taken items) ∙ (k.in_order s ∙ ap first_indices (sym mine.1)))

pub rests : (port : ℕ) (v : Sight) (made : ℕ) (taken : List Ticket) (ended : List ℕ) → v ≡ Takes made taken ended → Learns KeepsOrder port v (Rests v)
rests port v made taken ended is items sights k at =
    let h = k.parties in
    let mine : IsTrueSight h port (Takes made taken ended) = subst (IsTrueSight h port) is (k.known port v at) in
    subst (λ y. Rests y items) (sym is) (h.put, λ s. ap (λ l. indices_of s (l ++ items)) mine.2 ∙ k.in_order s)

pub settles : (port : ℕ) (v : Sight) (made : ℕ) (taken : List Ticket) (ended : List ℕ) → v ≡ Takes made taken ended → Learns KeepsOrder port v (Settled v)
settles port v made taken ended is items sights k at =
    let h = k.parties in
    let mine : IsTrueSight h port (Takes made taken ended) = subst (IsTrueSight h port) is (k.known port v at) in
    subst (λ y. Settled y items) (sym is)
    (λ s done. ap (λ l. indices_of s (l ++ items)) mine.2 ∙ (k.in_order s ∙ ap first_indices (sym (ap (λ l. get_or l s 0) mine.3 ∙ k.ended s (subst (λ l. s < length l) mine.3 done)))))
