-- What was taken, piece by piece.
use Rattle.std.proofs.Common.{◌≡◌, ℕ, ◌+◌, ◌-◌, List, [], ◌++◌, length, length-append, take, drop, length-drop, Option, Some, None, refl, sym, ap, ◌∙◌, subst, arith, append_assoc}
use Rattle.std.proofs.lemmas.List.{append-nil, take-append-drop, take_all}
use Rattle.std.proofs.Math.Seq.{take-add}
use Rattle.outside.specs.Counts.{raised}
use Rattle.outside.specs.Sink.{Account, Took, Grew, TookAll, TookFront, TookNothing}

took_none : (told : Option (List ℕ)) → Took told [] told
took_none None = refl
took_none (Some old) = ap Some (sym (append-nil old))

took_on : (first second third : Option (List ℕ)) (a b : List ℕ) → Took first a second → Took second b third → Took first (a ++ b) third
took_on None None third a b h k = k
took_on None (Some old) third a b h k = cc
took_on (Some old) None third a b h k = cc
took_on (Some old) (Some now) third a b h k =
    let same : now ≡ old ++ a = cc in
    k ∙ ap Some (ap (λ l. l ++ b) same ∙ append_assoc old a b)

grew_none : (told : Option ℕ) → Grew told 0 told
grew_none None = refl
grew_none (Some old) = ap Some still
  where
    still : old ≡ raised old 0
    still = omega arith

grew_on : (first second third : Option ℕ) (m n whole : ℕ) → Grew first m second → Grew second n third → whole ≡ m + n → Grew first whole third
grew_on None None third m n whole h k e = k
grew_on None (Some old) third m n whole h k e = cc
grew_on (Some old) None third m n whole h k e = cc
grew_on (Some old) (Some now) third m n whole h k e =
    let same : now ≡ raised old m = cc in
    k ∙ ap Some (ap (λ x. raised x n) same ∙ sums)
  where
    sums : raised (raised old m) n ≡ raised old whole
    sums = omega (arith, e)

-- nothing was taken yet
pub all_none : (a : Account) → TookAll a a []
all_none a = record { took = took_none a.taken; grew = grew_none a.amount }

-- what was taken first, and what was taken then
pub all_on : (a b c : Account) (first then : List ℕ) → TookAll a b first → TookAll b c then → TookAll a c (first ++ then)
all_on a b c first then h k = record {
  took = took_on a.taken b.taken c.taken first then h.took k.took;
  grew = grew_on a.amount b.amount c.amount (length first) (length then) (length (first ++ then)) h.grew k.grew (length-append first then);
}

-- then nothing more was taken
pub all_still : (a b c : Account) (bytes : List ℕ) → TookAll a b bytes → TookNothing b c → TookAll a c bytes
all_still a b c bytes h k = record {
  took = subst (Took a.taken bytes) (sym k.taken) h.took;
  grew = subst (Grew a.amount (length bytes)) (sym k.amount) h.grew;
}

-- what was taken first, and a front of what was to be taken then
pub front_on : (a b c : Account) (first then whole : List ℕ) → TookAll a b first → TookFront b c then → whole ≡ first ++ then → TookFront a c whole
front_on a b c first then whole h k e = record {
  front = first ++ k.front;
  rest = k.rest;
  parts = e ∙ ap (λ l. first ++ l) k.parts ∙ sym (append_assoc first k.front k.rest);
  took = all_on a b c first k.front h k.took;
}

-- a front of a front
pub front_longer : (a b : Account) (bytes rest whole : List ℕ) → TookFront a b bytes → whole ≡ bytes ++ rest → TookFront a b whole
front_longer a b bytes rest whole h e = record {
  front = h.front;
  rest = h.rest ++ rest;
  parts = e ∙ ap (λ l. l ++ rest) h.parts ∙ append_assoc h.front h.rest rest;
  took = h.took;
}

-- all of a front was taken
pub front_all : (a b : Account) (front rest whole : List ℕ) → TookAll a b front → whole ≡ front ++ rest → TookFront a b whole
front_all a b front rest whole h e = record { front = front; rest = rest; parts = e; took = h }

-- of no bytes, nothing was taken
pub nothing_all : (a b : Account) → TookAll a b [] → TookNothing a b
nothing_all a b h = record { taken = taken_still a.taken b.taken h.took; amount = amount_still a.amount b.amount h.grew }
  where
    taken_still : (old new : Option (List ℕ)) → Took old [] new → new ≡ old
    taken_still None new k = k
    taken_still (Some old) new k = k ∙ ap Some (append-nil old)

    amount_still : (old new : Option ℕ) → Grew old 0 new → new ≡ old
    amount_still None new k = k
    amount_still (Some old) new k = k ∙ ap Some still
      where
        still : raised old 0 ≡ old
        still = omega arith

-- the next piece of a list from a place on
pub piece_on : (from n : ℕ) (bytes : List ℕ) → take (from + n) bytes ≡ take from bytes ++ take n (take (length bytes - from) (drop from bytes))
piece_on from n bytes =
    let whole : take (length bytes - from) (drop from bytes) ≡ drop from bytes = take_all (length bytes - from) (drop from bytes) (omega (arith, length-drop from bytes)) in
    take-add from n bytes ∙ ap (λ l. take from bytes ++ take n l) (sym whole)

-- a piece more of a list was taken
pub all_more : (a b c : Account) (from n : ℕ) (bytes : List ℕ) → TookAll a b (take from bytes) → TookAll b c (take n (take (length bytes - from) (drop from bytes))) → TookAll a c (take (from + n) bytes)
all_more a b c from n bytes h k = subst (TookAll a c) (sym (piece_on from n bytes)) (all_on a b c _ _ h k)

-- so much of a list was taken, and the last call took nothing
pub front_taken : (a b c : Account) (from : ℕ) (bytes : List ℕ) → TookAll a b (take from bytes) → TookNothing b c → TookFront a c bytes
front_taken a b c from bytes h k = front_all a c (take from bytes) (drop from bytes) bytes (all_still a b c (take from bytes) h k) (sym (take-append-drop from bytes))

-- so much of a list was taken, and the last call took none of it
pub front_taken_and_none : (a b c : Account) (from n : ℕ) (bytes piece : List ℕ) → TookAll a b (take from bytes) → TookAll b c (take n piece) → n ≡ 0 → TookFront a c bytes
front_taken_and_none a b c from n bytes piece h k none = front_taken a b c from bytes h (nothing_all b c (subst (λ m. TookAll b c (take m piece)) none k))
