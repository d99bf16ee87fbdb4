-- How the parts of a right side are put together.
use Rattle.std.proofs.Common.{◌≡◌, ℕ, zero, suc, ◌+◌, ◌-◌, ◌<◌, ◌≤◌, List, [], ◌∷◌, ◌++◌, true, false, Option, None, Some, cond, nat_eq, length, drop, map, get_or, refl, sym, ap, ap₂, ◌∙◌, subst, arith, append_assoc, Result}
use Rattle.std.proofs.lemmas.Result.{err_from_is_err_and}
use Rattle.std.specs.Result.{IsErrAnd}
use Rattle.ob_symbol.specs.declared.symbol.Symbol.{Symbol}
use Rattle.ob_grammar.specs.Terminals.{number_at, numbers}
use Rattle.ob_grammar.specs.Grammar.{Production, Phrase, one, part, ◌·◌, ◌∣◌, opt, many, nest, rule}
use Rattle.ob_grammar.specs.Trees.{depth_limit}
use Rattle.ob_grammar.specs.Reading.{is_in, is_next, first, Item, item, Outcome, Wrong, Deep, Stops, eats, misses, calls, splits, goes_left, goes_right, takes, skips, repeats, ends, opens, is_deep, is_not_open}
use Rattle.ob_syntax.specs.Leaves.{Leaf, leaf, numbered, maybe, optional, each}
use Rattle.ob_syntax.proofs.Lists.{each_more}
use Rattle.parse_steps.specs.declared.fault.ParseFault.{ParseFault}
use Rattle.parse_steps.specs.declared.fault.ParseFault.TheVariants.{Syntax, TooDeep, Memory}
use Rattle.parse_steps.specs.Parsing.{State, is_none, first_of, ahead, Parsed, Stopped, StopsBy, Fails, Gives, Taken, Left, Takes, Entered, Repeated}

-- the same, of equal leaves
pub as_text : {f : Phrase} {a b : State} {t u : List Leaf} → u ≡ t → Parsed f a b t → Parsed f a b u
as_text {f} {a} {b} e h = subst (Parsed f a b) (sym e) h

-- a production was read where its right side was
pub reads_part : {p : Production} {a b : State} {t : List Leaf} → Parsed (rule p) a b t → Parsed (part p) a b t
reads_part h = record { text = h.text; level = h.level; later = h.later; whole = h.whole; by = λ s r o x. calls (h.by s r o x) }

-- one after the other
pub reads_then : {f g : Phrase} {a b c : State} {t u : List Leaf} → Parsed f a b t → Parsed g b c u → Parsed (f · g) a c (t ++ u)
reads_then {f} {g} {a} {b} {c} {t} {u} h k = record {
  text = (h.text ∙ ap (λ z. t ++ z) k.text) ∙ sym (append_assoc t u (ahead c));
  level = k.level ∙ h.level;
  later = (let x = h.later in let y = k.later in omega arith);
  whole = h.whole ∙ k.whole;
  by = λ s r o x. splits (h.by (item a.level g ∷ s) r o (subst (λ l. Stops (item l g ∷ s) b.rest r o) h.level (k.by s r o x)));
}

-- an alternative, by its left side: what it begins with is next
pub reads_left : {f g : Phrase} {a b : State} {t : List Leaf} → true ≡ is_next (first f) a.rest → Parsed f a b t → Parsed (f ∣ g) a b t
reads_left e h = record { text = h.text; level = h.level; later = h.later; whole = h.whole; by = λ s r o x. goes_left (sym e) (h.by s r o x) }

-- an alternative, by its right side
pub reads_right : {f g : Phrase} {a b : State} {t : List Leaf} → false ≡ is_next (first f) a.rest → Parsed g a b t → Parsed (f ∣ g) a b t
reads_right e h = record { text = h.text; level = h.level; later = h.later; whole = h.whole; by = λ s r o x. goes_right (sym e) (h.by s r o x) }

-- an option that is there
pub reads_some : {f : Phrase} {a b : State} {t : List Leaf} → true ≡ is_next (first f) a.rest → Parsed f a b t → Parsed (opt f) a b t
reads_some e h = record { text = h.text; level = h.level; later = h.later; whole = h.whole; by = λ s r o x. takes (sym e) (h.by s r o x) }

-- an option that isn't
pub reads_none : {f : Phrase} {a : State} → false ≡ is_next (first f) a.rest → Parsed (opt f) a a []
reads_none e = record { text = refl; level = refl; later = omega arith; whole = refl; by = λ s r o x. skips (sym e) x }

-- the same of what stops

-- a fault is carried from one right side to another
stops_as : (f g : Phrase) (a b c : State) (e : ParseFault) → ((at : ℕ) (o : Outcome) → Stopped f b c at o → Stopped g a c at o) → StopsBy f b c e → StopsBy g a c e
stops_as f g a b c (Syntax at) m h = m at Wrong h
stops_as f g a b c (TooDeep at) m h = m at Deep h
stops_as f g a b c Memory m h = tt

-- the same, as a record
fails_as : {f g : Phrase} {a b c : State} {e : ParseFault} → ((at : ℕ) (o : Outcome) → Stopped f b c at o → Stopped g a c at o) → Fails f b c e → Fails g a c e
fails_as {f} {g} {a} {b} {c} {e} m h = record { stops = stops_as f g a b c e m h.stops }

-- a production
pub fails_part : {p : Production} {a b : State} {e : ParseFault} → Fails (rule p) a b e → Fails (part p) a b e
fails_part = fails_as (λ at o h. record { place = h.place; whole = h.whole; by = λ s. calls (h.by s) })

-- one after the other: the first fails
pub fails_first : {f g : Phrase} {a b : State} {e : ParseFault} → Fails f a b e → Fails (f · g) a b e
fails_first {f} {g} {a} = fails_as (λ at o h. record { place = h.place; whole = h.whole; by = λ s. splits (h.by (item a.level g ∷ s)) })

-- one after the other: the second fails
pub fails_then : {f g : Phrase} {a b c : State} {t : List Leaf} {e : ParseFault} → Parsed f a b t → Fails g b c e → Fails (f · g) a c e
fails_then {f} {g} {a} {b} {c} k = fails_as (λ at o h. record {
  place = h.place;
  whole = k.whole ∙ h.whole;
  by = λ s. splits (k.by (item a.level g ∷ s) c.rest o (subst (λ l. Stops (item l g ∷ s) b.rest c.rest o) k.level (h.by s)));
})

-- an alternative, in its left side
pub fails_left : {f g : Phrase} {a b : State} {e : ParseFault} → true ≡ is_next (first f) a.rest → Fails f a b e → Fails (f ∣ g) a b e
fails_left y = fails_as (λ at o h. record { place = h.place; whole = h.whole; by = λ s. goes_left (sym y) (h.by s) })

-- an alternative, in its right side
pub fails_right : {f g : Phrase} {a b : State} {e : ParseFault} → false ≡ is_next (first f) a.rest → Fails g a b e → Fails (f ∣ g) a b e
fails_right y = fails_as (λ at o h. record { place = h.place; whole = h.whole; by = λ s. goes_right (sym y) (h.by s) })

-- an option, in what it holds
pub fails_some : {f : Phrase} {a b : State} {e : ParseFault} → true ≡ is_next (first f) a.rest → Fails f a b e → Fails (opt f) a b e
fails_some y = fails_as (λ at o h. record { place = h.place; whole = h.whole; by = λ s. takes (sym y) (h.by s) })

-- constructs

-- reading goes on inside a construct that was entered
nested : {k : ℕ} {f : Phrase} {a b : State} {i : ℕ} {s : List Item} {r : List ℕ} {o : Outcome} → Entered k a b i → Stops (item b.level f ∷ s) b.rest r o → Stops (item a.level (nest k f) ∷ s) a.rest r o
nested {k} {f} {a} {b} {i} {s} {r} {o} n x =
    subst (λ w. Stops (item a.level (nest k f) ∷ s) w r o) (sym n.next) (opens n.room (subst (λ l. Stops (item l f ∷ s) b.rest r o) n.level x))

-- a construct that was entered fails in its inside
pub fails_inside : {k : ℕ} {f : Phrase} {a b c : State} {i : ℕ} {e : ParseFault} → Entered k a b i → Fails f b c e → Fails (nest k f) a c e
fails_inside {k} {f} {a} {b} {c} n = fails_as (λ at o h. record {
  place = h.place;
  whole = (let x = ap length n.next in let y = n.later in let z = h.whole in omega arith);
  by = λ s. nested n (h.by s);
})

-- a construct that was entered and left
pub reads_inside : {k : ℕ} {f : Phrase} {a b c : State} {i : ℕ} {t : List Leaf} → (d : State) → Entered k a b i → Parsed f b c t → d ≡ record { rest = c.rest; at = c.at; level = c.level - 1 } → Parsed (nest k f) a d (record { asks = k; at = i } ∷ t)
reads_inside {k} {f} {a} {b} {c} {i} {t} d n h e = subst (λ (z : State). Parsed (nest k f) a z (record { asks = k; at = i } ∷ t)) (sym e) (record {
  text = ap (numbered a.at) n.next ∙ ap₂ (λ (j : ℕ) (w : List Leaf). record { asks = k; at = j } ∷ w) (sym n.place) (ap (λ j. numbered j b.rest) (sym n.later) ∙ h.text);
  level = (let y = h.level in let z = n.level in omega arith);
  later = (let y = n.later in let z = h.later in omega arith);
  whole = (let x = ap length n.next in let y = n.later in let z = h.whole in omega arith);
  by = λ s r o x. nested n (h.by s r o x);
})

-- repetitions

-- one more round
one_round : {f : Phrase} {a b c : State} {t u : List Leaf} → Repeated f a b t → true ≡ is_next (first f) b.rest → Parsed f b c u → Repeated f a c (t ++ u)
one_round {f} {a} {b} {c} {t} {u} h e k = record {
  text = (h.text ∙ ap (λ z. t ++ z) k.text) ∙ sym (append_assoc t u (ahead c));
  level = k.level ∙ h.level;
  later = (let x = h.later in let y = k.later in omega arith);
  whole = h.whole ∙ k.whole;
  by = λ s r o x. h.by s r o (repeats (sym e) (subst (λ l. Stops (item l f ∷ item a.level (many f) ∷ s) b.rest r o) h.level (k.by (item a.level (many f) ∷ s) r o x)));
}

-- one more round, whose tree was put at the end of a list
pub one_more : {A : Type 0} {f : Phrase} {a b c : State} (text : A → List Leaf) (xs ys : List A) (x : A) → ys ≡ xs ++ x ∷ [] → Repeated f a b (each text xs) → true ≡ is_next (first f) b.rest → Parsed f b c (text x) → Repeated f a c (each text ys)
one_more {A} {f} {a} {b} {c} text xs ys x e h n k = subst (Repeated f a c) (sym (ap (each text) e ∙ each_more text xs x)) (one_round h n k)

-- the rounds are at their end where what they begin with isn't next
pub end_rounds : {f : Phrase} {a b : State} {t : List Leaf} → Repeated f a b t → false ≡ is_next (first f) b.rest → Parsed (many f) a b t
end_rounds {f} {a} {b} {t} h e = record { text = h.text; level = h.level; later = h.later; whole = h.whole; by = λ s r o x. h.by s r o (ends (sym e) x) }

-- a round fails
pub fails_round : {f : Phrase} {a b c : State} {t : List Leaf} {e : ParseFault} → Repeated f a b t → true ≡ is_next (first f) b.rest → Fails f b c e → Fails (many f) a c e
fails_round {f} {a} {b} {c} h y = fails_as (λ at o k. record {
  place = k.place;
  whole = h.whole ∙ k.whole;
  by = λ s. h.by s c.rest o (repeats (sym y) (subst (λ l. Stops (item l f ∷ item a.level (many f) ∷ s) b.rest c.rest o) h.level (k.by (item a.level (many f) ∷ s))));
})

-- one symbol

-- the terminal that is next
one_next : (k : ℕ) (w : List ℕ) → is_next (k ∷ []) w ≡ true → w ≡ k ∷ drop 1 w
one_next k [] h = cc
one_next k (x ∷ w) h = let e : k ≡ x = grind arith in ap (λ y. y ∷ w) (sym e)

-- the parser went past the terminal that was asked
pub ate : (k : ℕ) (a b : State) (i : ℕ) → true ≡ is_next (k ∷ []) a.rest → b ≡ record { rest = drop 1 a.rest; at = suc a.at; level = a.level } → i ≡ a.at → Parsed (one k) a b (record { asks = k; at = i } ∷ [])
ate k a b i h e p =
    let n = one_next k a.rest (sym h) in
    subst (λ (z : State). Parsed (one k) a z (record { asks = k; at = i } ∷ [])) (sym e) (record {
      text = ap (numbered a.at) n ∙ ap (λ (j : ℕ). record { asks = k; at = j } ∷ numbered (suc a.at) (drop 1 a.rest)) (sym p);
      level = refl;
      later = omega arith;
      whole = (let x = ap length n in omega arith);
      by = λ s r o x. subst (λ w. Stops (item a.level (one k) ∷ s) w r o) (sym n) (eats x);
    })

-- another terminal stands there
pub missed : (k : ℕ) (a : State) (i : ℕ) → false ≡ is_next (k ∷ []) a.rest → i ≡ a.at → Fails (one k) a a (Syntax i)
missed k a i h p = record { stops = record { place = p; whole = refl; by = λ s. misses (sym h) } }

-- another terminal stands where a construct is to be opened
pub not_entered : (k : ℕ) (a : State) (i : ℕ) → false ≡ is_next (k ∷ []) a.rest → i ≡ a.at → (f : Phrase) → Fails (nest k f) a a (Syntax i)
not_entered k a i h p f = record { stops = record { place = p; whole = refl; by = λ s. is_not_open (sym h) } }

-- as many constructs as may be are open
pub too_deep : (k : ℕ) (a : State) (i : ℕ) → true ≡ is_next (k ∷ []) a.rest → depth_limit ≤ a.level → i ≡ a.at → (f : Phrase) → Fails (nest k f) a a (TooDeep i)
too_deep k a i h ge p f =
    let n = one_next k a.rest (sym h) in
    record { stops = record { place = p; whole = refl; by = λ s. subst (λ w. Stops (item a.level (nest k f) ∷ s) w w Deep) (sym n) (is_deep ge) } }

-- the view of a parser

-- the first of what is ahead
pub look : {A : Type 0} (f : A → ℕ) (xs : List A) (i : ℕ) (d : A) → i < length xs → drop i (map f xs) ≡ f (get_or xs i d) ∷ drop (suc i) (map f xs)
look f [] i d h = absurd (omega arith)
look f (x ∷ xs) zero d h = refl
look f (x ∷ xs) (suc i) d h = look f xs i d (omega arith)

-- the number of the first of what is ahead
pub looks_at : (xs : List Symbol) (i n : ℕ) (d : Symbol) → i < length xs → d ≡ get_or xs i d → n ≡ number_at d → Some n ≡ first_of (drop i (numbers xs))
looks_at xs i n d h e v = sym (ap first_of (look number_at xs i d h) ∙ (ap (λ (z : Symbol). Some (number_at z)) (sym e) ∙ ap (λ (m : ℕ). Some m) (sym v)))

-- drop 1 of what is ahead
go_past : (w : List ℕ) (i : ℕ) → drop (suc i) w ≡ drop 1 (drop i w)
go_past [] zero = refl
go_past [] (suc i) = refl
go_past (x ∷ w) zero = refl
go_past (x ∷ w) (suc i) = go_past w i

-- the view of a parser that went past a symbol
pub gone_past : (w : List ℕ) (i l : ℕ) (a b : State) → record { rest = drop i w; at = i; level = l } ≡ a → record { rest = drop 1 a.rest; at = suc a.at; level = a.level } ≡ b → record { rest = drop (i + 1) w; at = i + 1; level = l } ≡ b
gone_past w i l a b h e =
    let step : i + 1 ≡ suc i = omega arith in
    let k : drop i w ≡ a.rest = ap (λ (z : State). z.rest) h in
    let j : i ≡ a.at = ap (λ (z : State). z.at) h in
    let m : l ≡ a.level = ap (λ (z : State). z.level) h in
    let u : drop (i + 1) w ≡ drop 1 a.rest = (ap (λ x. drop x w) step ∙ go_past w i) ∙ ap (drop 1) k in
    let v : i + 1 ≡ suc a.at = step ∙ ap suc j in
    cc

-- a terminal that was taken
pub took : (k : ℕ) (a b : State) (i : ℕ) → true ≡ is_next (k ∷ []) a.rest → b ≡ record { rest = drop 1 a.rest; at = suc a.at; level = a.level } → i ≡ a.at → Taken (one k) a b (record { asks = k; at = i } ∷ [])
took k a b i h e p = record { here = h; read = ate k a b i h e p; next = (let n = ap (λ (z : State). z.at) e in omega arith) }

-- another terminal stands where one is asked
pub not_taken : (k i : ℕ) (a b : State) → Left (one k) a b → i ≡ b.at → Fails (one k) a b (Syntax i)
not_taken k i a b h p =
    let at : i ≡ a.at = p ∙ ap (λ (z : State). z.at) h.same in
    subst (λ (z : State). Fails (one k) a z (Syntax i)) (sym h.same) (missed k a i h.none at)

-- an option that isn't there: what it begins with is what wasn't taken
pub left_out : {f g : Phrase} {a b : State} → false ≡ is_next (first f) a.rest → Left g a b → Parsed (opt f) a b []
left_out {f} {g} {a} {b} n h = subst (λ (z : State). Parsed (opt f) a z []) (sym h.same) (reads_none n)

-- an option, there or not
pub maybe_taken : {X : Type 0} {f : Phrase} {a b : State} (text : X → List Leaf) (r : Option X) → Takes f text a b r → Parsed (opt f) a b (optional text r)
maybe_taken text None h = left_out h.none h
maybe_taken text (Some x) h = reads_some h.here h.read

-- the same of one terminal
pub maybe_terminal : {k : ℕ} {a b : State} (r : Option ℕ) → Takes (one k) (leaf (one k)) a b r → Parsed (opt (one k)) a b (maybe (one k) r)
maybe_terminal None h = left_out h.none h
maybe_terminal (Some i) h = reads_some h.here h.read

-- the rounds are over where what they begin with wasn't taken
pub rounds_over : {f g : Phrase} {a b c : State} {t : List Leaf} → Repeated f a b t → false ≡ is_next (first f) b.rest → Left g b c → Parsed (many f) a c t
rounds_over {f} {g} {a} {b} {c} {t} h n k = subst (λ (z : State). Parsed (many f) a z t) (sym k.same) (end_rounds h n)

-- what the exit of a `?` answers
pub gives_err : {X : Type 0} {f : Phrase} (text : X → List Leaf) {a b : State} {e : ParseFault} → (r : Result X ParseFault) → IsErrAnd r (λ x. x ≡ e) → Fails f a b e → Gives f text a b r
gives_err {X} {f} text {a} {b} {e} r h k =
    let x = err_from_is_err_and r h in
    subst (Gives f text a b) (sym x.1) (subst (λ (z : ParseFault). Fails f a b z) (sym x.2) k)

-- one of several

-- the first of several terminals is next
pub next_here : (k : ℕ) (F w : List ℕ) → true ≡ is_next (k ∷ []) w → true ≡ is_next (k ∷ F) w
next_here k F [] h = h
next_here k F (x ∷ w) h = elim (nat_eq k x) as (λ b. true ≡ cond b true false → true ≡ cond b true (is_in F x)) [ true ↦ λ _. refl | false ↦ λ e. cc ] h

-- one of the others is next
pub next_there : (k : ℕ) (F w : List ℕ) → true ≡ is_next F w → true ≡ is_next (k ∷ F) w
next_there k F [] h = h
next_there k F (x ∷ w) h = elim (nat_eq k x) as (λ b. true ≡ cond b true (is_in F x)) [ true ↦ refl | false ↦ h ]

-- whether the end is reached

same_suc : (i j : ℕ) → nat_eq (suc i) (suc j) ≡ nat_eq i j
same_suc i j = grind arith

-- a parser is at its end where its index is the number of symbols
pub at_end : {A : Type 0} (f : A → ℕ) (xs : List A) (i : ℕ) → i ≤ length xs → nat_eq i (length xs) ≡ is_none (drop i (map f xs))
at_end f [] zero h = refl
at_end f [] (suc i) h = absurd (omega arith)
at_end f (x ∷ xs) zero h = grind arith
at_end f (x ∷ xs) (suc i) h = same_suc i (length xs) ∙ at_end f xs i (omega arith)

-- what was taken of several alternatives

-- the first
pub taken_left : {k : ℕ} {g : Phrase} {a b : State} {t : List Leaf} → Taken (one k) a b t → Taken (one k ∣ g) a b t
taken_left {k} {g} {a} h = record { here = next_here k (first g) a.rest h.here; read = reads_left h.here h.read; next = h.next }

-- one of the others
pub taken_right : {k : ℕ} {g : Phrase} {a b : State} {t : List Leaf} → false ≡ is_next (k ∷ []) a.rest → Taken g a b t → Taken (one k ∣ g) a b t
taken_right {k} {g} {a} n h = record { here = next_there k (first g) a.rest h.here; read = reads_right n h.read; next = h.next }

-- an option of several alternatives

-- one of several is next
next_either : (xs ys w : List ℕ) → true ≡ is_next xs w → true ≡ is_next (xs ++ ys) w
next_either [] ys [] h = cc
next_either [] ys (k ∷ w) h = cc
next_either (x ∷ xs) ys [] h = cc
next_either (x ∷ xs) ys (k ∷ w) h = elim (nat_eq x k) as (λ b. true ≡ cond b true (is_in xs k) → true ≡ cond b true (is_in (xs ++ ys) k)) [ true ↦ λ _. refl | false ↦ λ e. next_either xs ys (k ∷ w) e ] h

next_or : (xs ys w : List ℕ) → true ≡ is_next ys w → true ≡ is_next (xs ++ ys) w
next_or [] ys w h = h
next_or (x ∷ xs) ys [] h = cc
next_or (x ∷ xs) ys (k ∷ w) h = elim (nat_eq x k) as (λ b. true ≡ cond b true (is_in (xs ++ ys) k)) [ true ↦ refl | false ↦ next_or xs ys (k ∷ w) h ]

next_neither : (xs ys w : List ℕ) → false ≡ is_next xs w → false ≡ is_next ys w → false ≡ is_next (xs ++ ys) w
next_neither [] ys w g h = h
next_neither (x ∷ xs) ys [] g h = refl
next_neither (x ∷ xs) ys (k ∷ w) g h = elim (nat_eq x k) as (λ b. false ≡ cond b true (is_in xs k) → false ≡ cond b true (is_in (xs ++ ys) k)) [ true ↦ λ e. e | false ↦ λ e. next_neither xs ys (k ∷ w) e h ] g

-- what f begins with is next, and f was read
pub record Stands (f : Phrase) (a b : State) (t : List Leaf) : Type 0 where
  pub here : true ≡ is_next (first f) a.rest
  pub read : Parsed f a b t

pub stands_left : {f g : Phrase} {a b : State} {t : List Leaf} → Stands f a b t → Stands (f ∣ g) a b t
stands_left {f} {g} {a} h = record { here = next_either (first f) (first g) a.rest h.here; read = reads_left h.here h.read }

pub stands_right : {f g : Phrase} {a b : State} {t : List Leaf} → false ≡ is_next (first f) a.rest → Stands g a b t → Stands (f ∣ g) a b t
stands_right {f} {g} {a} n h = record { here = next_or (first f) (first g) a.rest h.here; read = reads_right n h.read }

pub reads_standing : {f : Phrase} {a b : State} {t : List Leaf} → Stands f a b t → Parsed (opt f) a b t
reads_standing h = reads_some h.here h.read

-- what f begins with is next, and reading f failed
pub record Breaks (f : Phrase) (a b : State) (e : ParseFault) : Type 0 where
  pub here : true ≡ is_next (first f) a.rest
  pub fails : Fails f a b e

pub breaks_left : {f g : Phrase} {a b : State} {e : ParseFault} → Breaks f a b e → Breaks (f ∣ g) a b e
breaks_left {f} {g} {a} h = record { here = next_either (first f) (first g) a.rest h.here; fails = fails_left h.here h.fails }

pub breaks_right : {f g : Phrase} {a b : State} {e : ParseFault} → false ≡ is_next (first f) a.rest → Breaks g a b e → Breaks (f ∣ g) a b e
breaks_right {f} {g} {a} n h = record { here = next_or (first f) (first g) a.rest h.here; fails = fails_right n h.fails }

pub fails_breaking : {f : Phrase} {a b : State} {e : ParseFault} → Breaks f a b e → Fails (opt f) a b e
fails_breaking h = fails_some h.here h.fails

-- what f begins with isn't next
pub record Missing (f : Phrase) (a : State) : Type 0 where
  pub none : false ≡ is_next (first f) a.rest

pub missing_both : {f g : Phrase} {a : State} → false ≡ is_next (first f) a.rest → Missing g a → Missing (f ∣ g) a
missing_both {f} {g} {a} n h = record { none = next_neither (first f) (first g) a.rest n h.none }

pub reads_missing : {f : Phrase} {a : State} → Missing f a → Parsed (opt f) a a []
reads_missing h = reads_none h.none
