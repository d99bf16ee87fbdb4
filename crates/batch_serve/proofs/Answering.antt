-- One more job is answered.
use Rattle.std.proofs.Common.{◌≡◌, ◌≢◌, ℕ, zero, suc, List, [], ◌∷◌, ◌++◌, ◌+◌, ◌<◌, ◌≤◌, length, take, get_or, sym, refl, ap, ◌∙◌, subst, arith, length-append}
use Rattle.std.proofs.lemmas.List.{append-nil}
use Rattle.std.specs.List.{AllZip}
use Rattle.batch_serve.proofs.Moves.{indices_of-append, indices_of-own, indices_of-other, length-first_indices}
use Rattle.batch_serve.specs.Tickets.{indices_of}
use Rattle.batch_serve.specs.Answered.{AnswersUpTo, IsAnswered, ticket_count}
use Rattle.batch_serve.specs.Desks.{IsNextTicket, TookFirst}
use Rattle.batch_serve.specs.declared.sights.Ticket.{Ticket}

zip_push : {J A : Type 0} (R : J → A → Type 0) (xs : List J) (ys : List A) (x : J) (y : A) → AllZip R xs ys → R x y → AllZip R (xs ++ x ∷ []) (ys ++ y ∷ [])
zip_push R [] [] x y all r = (r, tt)
zip_push R [] (b ∷ bs) x y all r = absurd all
zip_push R (a ∷ as') [] x y all r = absurd all
zip_push R (a ∷ as') (b ∷ bs) x y all r = (all.0, zip_push R as' bs x y all.1 r)

take_whole : {A : Type 0} (xs : List A) (n : ℕ) → n ≡ length xs → take n xs ≡ xs
take_whole [] zero e = refl
take_whole [] (suc n) e = absurd (omega arith)
take_whole (x ∷ xs) zero e = absurd (omega arith)
take_whole (x ∷ xs) (suc n) e = ap (λ l. x ∷ l) (take_whole xs n (omega arith))

take_next : {A : Type 0} (xs : List A) (n : ℕ) (x : A) → n < length xs → x ≡ get_or xs n x → take (suc n) xs ≡ take n xs ++ x ∷ []
take_next [] n x small e = absurd (omega arith)
take_next (y ∷ ys) zero x small e = ap (λ z. z ∷ []) (sym e)
take_next (y ∷ ys) (suc n) x small e = ap (λ l. y ∷ l) (take_next ys n x (omega arith) e)

-- the job with the next number was answered
pub answered_more : {J A : Type 0} (R : J → A → Type 0) (jobs : List J) (given : List A) (i : ℕ) (j : J) (a : A)
    → AnswersUpTo R jobs i given → i < length jobs → j ≡ get_or jobs i j → R j a → AnswersUpTo R jobs (i + 1) (given ++ a ∷ [])
answered_more R jobs given i j a so_far small its r =
    let as_many : length given ≡ i = let b = so_far.1 in omega arith in
    let more : length (given ++ a ∷ []) ≡ suc i = omega (arith, length-append given (a ∷ [])) in
    let zip : AllZip R (take i jobs ++ j ∷ []) (given ++ a ∷ []) = zip_push R (take i jobs) given j a (subst (λ n. AllZip R (take n jobs) given) as_many so_far.0) r in
    let row : take (length (given ++ a ∷ [])) jobs ≡ take i jobs ++ j ∷ [] = ap (λ n. take n jobs) more ∙ take_next jobs i j small its in
    (subst (λ l. AllZip R l (given ++ a ∷ [])) (sym row) zip, omega arith)

pub answered_none : {J A : Type 0} (R : J → A → Type 0) (first second : List J) (taken : List Ticket) → taken ≡ [] → IsAnswered R first second taken [] []
answered_none R first second taken none =
    subst (λ t. IsAnswered R first second t [] []) (sym none) ((tt, omega arith), (tt, omega arith))

-- a ticket more of its sender
count_own : (s : ℕ) (taken now : List Ticket) (t : Ticket) → now ≡ taken ++ t ∷ [] → t.sender ≡ s → length (indices_of s now) ≡ length (indices_of s taken) + 1
count_own s taken now t e own =
    ap (λ l. length (indices_of s l)) e ∙ (ap length (indices_of-append s taken (t ∷ []) ∙ ap (λ l. indices_of s taken ++ l) (indices_of-own s t [] own)) ∙ length-append (indices_of s taken) (t.index ∷ []))

count_other : (s : ℕ) (taken now : List Ticket) (t : Ticket) → now ≡ taken ++ t ∷ [] → t.sender ≢ s → length (indices_of s now) ≡ length (indices_of s taken)
count_other s taken now t e other =
    ap (λ l. length (indices_of s l)) e ∙ ap length (indices_of-append s taken (t ∷ []) ∙ (ap (λ l. indices_of s taken ++ l) (indices_of-other s t [] other) ∙ append-nil (indices_of s taken)))

pub one_more_taken : (taken now : List Ticket) (t : Ticket) → now ≡ taken ++ t ∷ [] → t.sender < 2 → ticket_count now ≡ ticket_count taken + 1
one_more_taken taken now t e low = by_sender t.sender refl low where
  by_sender : (s : ℕ) → t.sender ≡ s → s < 2 → ticket_count now ≡ ticket_count taken + 1
  by_sender zero is l = let a = count_own 0 taken now t e is in let b = count_other 1 taken now t e (λ x. omega arith) in omega arith
  by_sender (suc zero) is l = let a = count_own 1 taken now t e is in let b = count_other 0 taken now t e (λ x. omega arith) in omega arith
  by_sender (suc (suc s)) is l = absurd (omega arith)

pub answered_first : {J A : Type 0} (R : J → A → Type 0) (first second : List J) (taken now : List Ticket) (t : Ticket) (one two : List A)
    → now ≡ taken ++ t ∷ [] → IsNextTicket taken t → t.sender ≡ 0 → AnswersUpTo R first (t.index + 1) one → AnswersUpTo R second (length (indices_of 1 taken)) two
    → IsAnswered R first second now one two
answered_first R first second taken now t one two e next is a b =
    let place : t.index + 1 ≡ length (indices_of 0 now) = ap (λ i. i + 1) (next.1 ∙ ap (λ s. length (indices_of s taken)) is) ∙ sym (count_own 0 taken now t e is) in
    let same : length (indices_of 1 taken) ≡ length (indices_of 1 now) = sym (count_other 1 taken now t e (λ x. omega arith)) in
    (subst (λ n. AnswersUpTo R first n one) place a, subst (λ n. AnswersUpTo R second n two) same b)

pub answered_second : {J A : Type 0} (R : J → A → Type 0) (first second : List J) (taken now : List Ticket) (t : Ticket) (one two : List A)
    → now ≡ taken ++ t ∷ [] → IsNextTicket taken t → t.sender ≢ 0 → AnswersUpTo R second (t.index + 1) two → AnswersUpTo R first (length (indices_of 0 taken)) one
    → IsAnswered R first second now one two
answered_second R first second taken now t one two e next other b a =
    let low = next.0 in
    let is : t.sender ≡ 1 = omega arith in
    let place : t.index + 1 ≡ length (indices_of 1 now) = ap (λ i. i + 1) (next.1 ∙ ap (λ s. length (indices_of s taken)) is) ∙ sym (count_own 1 taken now t e is) in
    let same : length (indices_of 0 taken) ≡ length (indices_of 0 now) = sym (count_other 0 taken now t e other) in
    (subst (λ n. AnswersUpTo R first n one) same a, subst (λ n. AnswersUpTo R second n two) place b)

-- all jobs are answered where as many tickets were taken as there are jobs
pub all_answered : {J A : Type 0} (R : J → A → Type 0) (jobs : List J) (given : List A) (number : ℕ) → AnswersUpTo R jobs number given → number ≡ length jobs → AllZip R jobs given
all_answered R jobs given number so_far all =
    let n : length given ≡ length jobs = let b = so_far.1 in omega arith in
    subst (λ l. AllZip R l given) (take_whole jobs (length given) n) so_far.0

-- where no more was taken of each sender than there are jobs, and as many in all, all was taken
pub all_taken : (taken : List Ticket) (a b p q m n : ℕ) → TookFirst taken 0 a → a ≤ p → TookFirst taken 1 b → b ≤ q → p ≤ m → q ≤ n
    → ticket_count taken ≡ m + n → (length (indices_of 0 taken) ≡ m) × (length (indices_of 1 taken) ≡ n)
all_taken taken a b p q m n one few two many first second count =
    let x : length (indices_of 0 taken) ≡ a = ap length one ∙ length-first_indices a in
    let y : length (indices_of 1 taken) ≡ b = ap length two ∙ length-first_indices b in
    (omega arith, omega arith)

pub answered_push : {J A : Type 0} (R : J → A → Type 0) (jobs : List J) (given now : List A) (i : ℕ) (j : J) (a : A)
    → AnswersUpTo R jobs i given → i < length jobs → j ≡ get_or jobs i j → R j a → now ≡ given ++ a ∷ [] → AnswersUpTo R jobs (i + 1) now
answered_push R jobs given now i j a so_far small its r e = subst (AnswersUpTo R jobs (i + 1)) (sym e) (answered_more R jobs given i j a so_far small its r)

-- at the end each list of answers is whole
pub all_served : {J A : Type 0} (R : J → A → Type 0) (first second : List J) (one two : List A) (taken : List Ticket) (a b p q : ℕ)
    → IsAnswered R first second taken one two → ticket_count taken ≡ length first + length second
    → TookFirst taken 0 a → a ≤ p → p ≤ length first → TookFirst taken 1 b → b ≤ q → q ≤ length second
    → AllZip R first one × AllZip R second two
all_served R first second one two taken a b p q answered count took few small took' few' small' =
    let n = all_taken taken a b p q (length first) (length second) took few took' few' small small' count in
    (all_answered R first one (length (indices_of 0 taken)) answered.0 n.0, all_answered R second two (length (indices_of 1 taken)) answered.1 n.1)

pub all_served_of : {J A : Type 0} (R : J → A → Type 0) (first second xs ys : List J) (one two : List A) (taken : List Ticket) (a b p q : ℕ)
    → xs ≡ first → ys ≡ second
    → IsAnswered R xs ys taken one two → ticket_count taken ≡ length xs + length ys
    → TookFirst taken 0 a → a ≤ p → p ≤ length xs → TookFirst taken 1 b → b ≤ q → q ≤ length ys
    → AllZip R first one × AllZip R second two
all_served_of R first second xs ys one two taken a b p q e f answered count took few small took' few' small' =
    let all = all_served R xs ys one two taken a b p q answered count took few small took' few' small' in
    (subst (λ l. AllZip R l one) e all.0, subst (λ l. AllZip R l two) f all.1)
