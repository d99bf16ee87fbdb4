-- The code of conditions and of statements with blocks of their own, over alike parts.
use Rattle.std.proofs.Common.{◌≡◌, ℕ, suc, List, [], ◌∷◌, ◌++◌, refl, ap, ap₂, subst, ◌∙◌, Some, None}
use Rattle.block_runs.specs.declared.end.End.{End}
use Rattle.block_runs.specs.declared.end.End.TheVariants.{Jump, Branch, Nonzero}
use Rattle.ssa_lowered.specs.Pieces.{Cursor, Piece, Made, Low, give, close, fresh, plain, Mask, picked, join, join_start}
use Rattle.ssa_lowered.specs.Control.{half, often, at_freq, Fork, Test, fork, fork_value, fork_branch, fork_not, fork_and, fork_or, flag, Lowers, valued, tested, choose, Round, behind, rounds, loop, repeat, for, Rung, Ladder, ladder, before, Limbs, limbs, case}
use Rattle.moved_lowering.proofs.Making.{bare, both, AreAlikeMade, AreAlike, alike, and_then, same_behind}

abbrev Deed : Type 0
Deed = Low (Unit {0})

---- Conditions

pub record AreAlikeForks (s t : Fork) : Type 0 where
  pub pieces : (yes no freq : ℕ) → bare (s.pieces yes no freq) ≡ bare (t.pieces yes no freq)
  pub after : s.after ≡ t.after

pub record AreAlikeTests (s t : Test) : Type 0 where
  pub each : (c : Cursor) → AreAlikeForks (s c) (t c)

one_close : (c : Cursor) (e : End) (s : _) → bare (close c e s ∷ []) ≡ close c e s ∷ []
one_close c e s = refl

pub fork_alike : {m n : Low (ℕ → ℕ → End)} → AreAlike m n → AreAlikeTests (fork m) (fork n)
fork_alike {m} {n} h = record {
  each = λ c.
      let a = h.each c in
      record {
        pieces = λ yes no f. both (m c).pieces (close (m c).after ((m c).result yes no) (plain f c.seen) ∷ []) (n c).pieces (close (n c).after ((n c).result yes no) (plain f c.seen) ∷ [])
            a.pieces (ap₂ (λ x (r : ℕ → ℕ → End). close x (r yes no) (plain f c.seen) ∷ []) a.after a.result);
        after = ap (λ x. record (fresh x) { env = c.env; seen = c.seen }) a.after;
      };
}

pub value_test : {x y : Low ℕ} → AreAlike x y → AreAlikeTests (fork_value x) (fork_value y)
value_test h = fork_alike (same_behind (λ a. give (λ yes no. Nonzero a yes no)) h)

pub branch_test : (cond : ℕ) {x y u v : Low ℕ} → AreAlike x u → AreAlike y v → AreAlikeTests (fork_branch cond x y) (fork_branch cond u v)
branch_test cond h g = fork_alike (and_then h (λ a. same_behind (λ b. give (λ yes no. Branch cond a b yes no)) g))

pub not_test : {s t : Test} → AreAlikeTests s t → AreAlikeTests (fork_not s) (fork_not t)
not_test h = record { each = λ c. record { pieces = λ yes no f. (h.each c).pieces no yes f; after = (h.each c).after } }

pub test_same : (t : Test) → AreAlikeTests t t
test_same t = record { each = λ c. record { pieces = λ yes no f. refl; after = refl } }

-- a test behind another
next_fork : (s : Test) (t : Test) → AreAlikeTests s t → (a b : Cursor) → a ≡ b → AreAlikeForks (s a) (t b)
next_fork s t h a b e = subst (λ x. AreAlikeForks (s a) (t x)) e (h.each a)

pub and_test : {s t u v : Test} → AreAlikeTests s u → AreAlikeTests t v → AreAlikeTests (fork_and s t) (fork_and u v)
and_test {s} {t} {u} {v} h g = record {
  each = λ c.
      let a = h.each c in
      let b = next_fork t v g (s c).after (u c).after a.after in
      record {
        pieces = λ yes no f. both ((s c).pieces (s c).after.block no c.freq) ((t (s c).after).pieces yes no f) ((u c).pieces (u c).after.block no c.freq) ((v (u c).after).pieces yes no f)
            (a.pieces (s c).after.block no c.freq ∙ ap (λ (x : Cursor). bare ((u c).pieces x.block no c.freq)) a.after) (b.pieces yes no f);
        after = b.after;
      };
}

pub or_test : {s t u v : Test} → AreAlikeTests s u → AreAlikeTests t v → AreAlikeTests (fork_or s t) (fork_or u v)
or_test {s} {t} {u} {v} h g = record {
  each = λ c.
      let a = h.each c in
      let b = next_fork t v g (s c).after (u c).after a.after in
      record {
        pieces = λ yes no f. both ((s c).pieces yes (s c).after.block c.freq) ((t (s c).after).pieces yes no f) ((u c).pieces yes (u c).after.block c.freq) ((v (u c).after).pieces yes no f)
            (a.pieces yes (s c).after.block c.freq ∙ ap (λ (x : Cursor). bare ((u c).pieces yes x.block c.freq)) a.after) (b.pieces yes no f);
        after = b.after;
      };
}

-- a condition as a value, from its pieces and where it ends
abbrev fork_with : (ℕ → ℕ → ℕ → List Piece) → Cursor → Fork
fork_with p x = record { pieces = p; after = x }

flag_pieces : (p q : ℕ → ℕ → ℕ → List Piece) → ((yes no freq : ℕ) → bare (p yes no freq) ≡ bare (q yes no freq)) → (x c : Cursor) → AreAlikeMade (flag (λ d. fork_with p x) c) (flag (λ d. fork_with q x) c)
flag_pieces p q e x c = record {
  pieces = both (p x.block (suc x.block) (half c.freq)) _ (q x.block (suc x.block) (half c.freq)) _ (e x.block (suc x.block) (half c.freq)) refl;
  result = refl;
  after = refl;
}

pub flag_alike : {s t : Test} → AreAlikeTests s t → AreAlike (flag s) (flag t)
flag_alike {s} {t} h = record {
  each = λ c.
      let a = h.each c in
      let moved : flag (λ d. fork_with (t c).pieces (s c).after) c ≡ flag t c = ap (λ x. flag (λ d. fork_with (t c).pieces x) c) a.after in
      subst (AreAlikeMade (flag s c)) moved (flag_pieces (s c).pieces (t c).pieces a.pieces (s c).after c);
}

---- Expressions

pub record AreAlikeLowers (x y : Lowers) : Type 0 where
  pub value : AreAlike x.value y.value
  pub test : AreAlikeTests x.test y.test

pub valued_alike : {x y : Low ℕ} → AreAlike x y → AreAlikeLowers (valued x) (valued y)
valued_alike h = record { value = h; test = value_test h }

pub tested_alike : {s t : Test} → AreAlikeTests s t → AreAlikeLowers (tested s) (tested t)
tested_alike h = record { value = flag_alike h; test = h }

---- IF

abbrev Done : Type 0
Done = Made (Unit {0})

abbrev done : List Piece → Cursor → Done
done ps x = record { pieces = ps; result = tt; after = x }

abbrev other_of : Cursor → Cursor → Cursor → Cursor
other_of c x y = record (fresh y) { freq = half c.freq; env = x.env; seen = x.seen }

abbrev choose_with : Mask → Cursor → (ℕ → ℕ → ℕ → List Piece) → Cursor → List Piece → Cursor → List Piece → Cursor → Done
choose_with mask c p x ones y twos z =
    let other = other_of c x y in
    let out = join mask z other c.freq in
    record {
      pieces = p x.block other.block (half c.freq)
          ++ (ones ++ (close y (Jump out.block (picked mask y.env)) (plain other.freq other.seen)
          ∷ (twos ++ (close z (Jump out.block (picked mask z.env)) (join_start mask z other c.freq None)
          ∷ []))));
      result = tt;
      after = out;
    }

choose_pieces : (mask : Mask) (c : Cursor) (p q : ℕ → ℕ → ℕ → List Piece) → ((yes no freq : ℕ) → bare (p yes no freq) ≡ bare (q yes no freq)) → (x : Cursor) (ones fewer : List Piece) → bare ones ≡ bare fewer → (y : Cursor) (twos others : List Piece) → bare twos ≡ bare others → (z : Cursor)
    → AreAlikeMade (choose_with mask c p x ones y twos z) (choose_with mask c q x fewer y others z)
choose_pieces mask c p q e x ones fewer e1 y twos others e2 z =
    let other = other_of c x y in
    let out = join mask z other c.freq in
    let first : Piece = close y (Jump out.block (picked mask y.env)) (plain other.freq other.seen) in
    let last : List Piece = close z (Jump out.block (picked mask z.env)) (join_start mask z other c.freq None) ∷ [] in
    record {
      pieces = both (p x.block other.block (half c.freq)) (ones ++ (first ∷ (twos ++ last))) (q x.block other.block (half c.freq)) (fewer ++ (first ∷ (others ++ last))) (e x.block other.block (half c.freq))
          (both ones (first ∷ (twos ++ last)) fewer (first ∷ (others ++ last)) e1 (ap (λ (ps : List Piece). first ∷ ps) (both twos last others last e2 refl)));
      result = refl;
      after = refl;
    }

-- what comes of the same cursor
run_same : {m n : Deed} → AreAlike m n → (a b : Cursor) → a ≡ b → AreAlikeMade (m a) (n b)
run_same {m} {n} h a b e = subst (λ x. AreAlikeMade (m a) (n x)) e (h.each a)

pub choose_alike : (mask : Mask) {s t : Test} {f g u v : Deed} → AreAlikeTests s t → AreAlike f u → AreAlike g v → AreAlike (choose mask s f g) (choose mask t u v)
choose_alike mask {s} {t} {f} {g} {u} {v} h k l = record {
  each = λ c.
      let a = h.each c in
      let x = (s c).after in
      let one = run_same k (at_freq x (half c.freq)) (at_freq (t c).after (half c.freq)) (ap (λ w. at_freq w (half c.freq)) a.after) in
      let m = f (at_freq x (half c.freq)) in
      let n = u (at_freq (t c).after (half c.freq)) in
      let two = run_same l (other_of c x m.after) (other_of c (t c).after n.after) (ap₂ (λ w y. other_of c w y) a.after one.after) in
      let m2 = g (other_of c x m.after) in
      let n2 = v (other_of c (t c).after n.after) in
      let moved : choose_with mask c (t c).pieces x n.pieces m.after n2.pieces m2.after ≡ choose_with mask c (t c).pieces (t c).after n.pieces n.after n2.pieces n2.after =
      λ i. choose_with mask c (t c).pieces (a.after i) n.pieces (one.after i) n2.pieces (two.after i) in
      subst (AreAlikeMade (choose mask s f g c)) moved (choose_pieces mask c (s c).pieces (t c).pieces a.pieces x m.pieces n.pieces one.pieces m.after m2.pieces n2.pieces two.pieces m2.after);
}

---- Loops

pub record AreAlikeRounds (r q : Round) : Type 0 where
  pub test : AreAlikeTests r.test q.test
  pub body : AreAlike r.body q.body

abbrev pub AllAlikeRounds : List Round → List Round → Type 0
AllAlikeRounds [] [] = Unit {0}
AllAlikeRounds [] (q ∷ qs) = ⊥
AllAlikeRounds (r ∷ rs) [] = ⊥
AllAlikeRounds (r ∷ rs) (q ∷ qs) = AreAlikeRounds r q × AllAlikeRounds rs qs

behind_same : (rs qs : List Round) → AllAlikeRounds rs qs → (a b : ℕ) → behind rs a b ≡ behind qs a b
behind_same [] [] h a b = refl
behind_same [] (q ∷ qs) h a b = absurd h
behind_same (r ∷ rs) [] h a b = absurd h
behind_same (r ∷ rs) (q ∷ qs) h a b = refl

abbrev next_of : Cursor → ℕ → Cursor → Cursor → Cursor
next_of c freq x y = record (fresh y) { freq = freq; env = x.env; seen = x.seen }

abbrev round_with : Mask → ℕ → Cursor → ℕ → (ℕ → ℕ → ℕ → List Piece) → Cursor → List Piece → Cursor → List Piece → Cursor → Done
round_with mask head c freq p x ones y more z =
    let next = next_of c freq x y in
    record { pieces = p x.block next.block c.freq ++ (ones ++ (close y (Jump head (picked mask y.env)) (plain next.freq next.seen) ∷ more)); result = tt; after = z }

round_pieces : (mask : Mask) (head : ℕ) (c : Cursor) (freq : ℕ) (p q : ℕ → ℕ → ℕ → List Piece) → ((yes no freq : ℕ) → bare (p yes no freq) ≡ bare (q yes no freq)) → (x : Cursor) (ones fewer : List Piece) → bare ones ≡ bare fewer → (y : Cursor) (more rest : List Piece) → bare more ≡ bare rest → (z : Cursor)
    → AreAlikeMade (round_with mask head c freq p x ones y more z) (round_with mask head c freq q x fewer y rest z)
round_pieces mask head c freq p q e x ones fewer e1 y more rest e2 z =
    let next = next_of c freq x y in
    let first : Piece = close y (Jump head (picked mask y.env)) (plain next.freq next.seen) in
    record {
      pieces = both (p x.block next.block c.freq) (ones ++ (first ∷ more)) (q x.block next.block c.freq) (fewer ++ (first ∷ rest)) (e x.block next.block c.freq)
          (both ones (first ∷ more) fewer (first ∷ rest) e1 (ap (λ (ps : List Piece). first ∷ ps) e2));
      result = refl;
      after = refl;
    }

rounds_alike : (mask : Mask) (head outside : ℕ) (rs qs : List Round) → AllAlikeRounds rs qs → (c : Cursor) → AreAlikeMade (rounds mask head outside rs c) (rounds mask head outside qs c)
rounds_alike mask head outside [] [] h c = record { pieces = refl; result = refl; after = refl }
rounds_alike mask head outside [] (q ∷ qs) h c = absurd h
rounds_alike mask head outside (r ∷ rs) [] h c = absurd h
rounds_alike mask head outside (r ∷ rs) (q ∷ qs) h c =
    let a = (h.0).test.each c in
    let x = (r.test c).after in
    let w = (q.test c).after in
    let one = run_same (h.0).body (at_freq x c.freq) (at_freq w c.freq) (ap (λ k. at_freq k c.freq) a.after) in
    let m = r.body (at_freq x c.freq) in
    let n = q.body (at_freq w c.freq) in
    let f = behind_same rs qs h.1 c.freq outside in
    let more = rounds_alike mask head outside rs qs h.1 (next_of c (behind rs c.freq outside) x m.after) in
    let next : next_of c (behind rs c.freq outside) x m.after ≡ next_of c (behind qs c.freq outside) w n.after = λ i. next_of c (f i) (a.after i) (one.after i) in
    let there : AreAlikeMade (rounds mask head outside rs (next_of c (behind rs c.freq outside) x m.after)) (rounds mask head outside qs (next_of c (behind qs c.freq outside) w n.after)) =
    subst (λ k. AreAlikeMade (rounds mask head outside rs (next_of c (behind rs c.freq outside) x m.after)) (rounds mask head outside qs k)) next more in
    let m2 = rounds mask head outside rs (next_of c (behind rs c.freq outside) x m.after) in
    let n2 = rounds mask head outside qs (next_of c (behind qs c.freq outside) w n.after) in
    let moved : round_with mask head c (behind rs c.freq outside) (q.test c).pieces x n.pieces m.after n2.pieces m2.after ≡ round_with mask head c (behind qs c.freq outside) (q.test c).pieces w n.pieces n.after n2.pieces n2.after =
    λ i. round_with mask head c (f i) (q.test c).pieces (a.after i) n.pieces (one.after i) n2.pieces (there.after i) in
    subst (AreAlikeMade (rounds mask head outside (r ∷ rs) c)) moved (round_pieces mask head c (behind rs c.freq outside) (r.test c).pieces (q.test c).pieces a.pieces x m.pieces n.pieces one.pieces m.after m2.pieces n2.pieces there.pieces m2.after)

pub loop_alike : (mask : Mask) (rs qs : List Round) → AllAlikeRounds rs qs → AreAlike (loop mask rs) (loop mask qs)
loop_alike mask rs qs h = record {
  each = λ c.
      let head = join mask c c (often c.freq) in
      let a = rounds_alike mask head.block c.freq rs qs h head in
      record { pieces = ap (λ ps. close c (Jump head.block (picked mask c.env)) (join_start mask c c head.freq (Some c.block)) ∷ ps) a.pieces; result = refl; after = a.after };
}

abbrev repeat_with : Mask → Cursor → List Piece → Cursor → (ℕ → ℕ → ℕ → List Piece) → Cursor → Done
repeat_with mask c ones y p x =
    let head = join mask c c (often c.freq) in
    let back = at_freq x head.freq in
    let exit = at_freq (fresh back) c.freq in
    record {
      pieces = close c (Jump head.block (picked mask c.env)) (join_start mask c c head.freq (Some c.block))
          ∷ (ones ++ (p exit.block back.block back.freq ++ (close back (Jump head.block (picked mask back.env)) (plain exit.freq exit.seen) ∷ [])));
      result = tt;
      after = exit;
    }

repeat_pieces : (mask : Mask) (c : Cursor) (ones fewer : List Piece) → bare ones ≡ bare fewer → (y : Cursor) (p q : ℕ → ℕ → ℕ → List Piece) → ((yes no freq : ℕ) → bare (p yes no freq) ≡ bare (q yes no freq)) → (x : Cursor)
    → AreAlikeMade (repeat_with mask c ones y p x) (repeat_with mask c fewer y q x)
repeat_pieces mask c ones fewer e1 y p q e x =
    let head = join mask c c (often c.freq) in
    let back = at_freq x head.freq in
    let exit = at_freq (fresh back) c.freq in
    let first : Piece = close c (Jump head.block (picked mask c.env)) (join_start mask c c head.freq (Some c.block)) in
    let last : List Piece = close back (Jump head.block (picked mask back.env)) (plain exit.freq exit.seen) ∷ [] in
    record {
      pieces = ap (λ (ps : List Piece). first ∷ ps) (both ones (p exit.block back.block back.freq ++ last) fewer (q exit.block back.block back.freq ++ last) e1
          (both (p exit.block back.block back.freq) last (q exit.block back.block back.freq) last (e exit.block back.block back.freq) refl));
      result = refl;
      after = refl;
    }

pub repeat_alike : (mask : Mask) {f g : Deed} {s t : Test} → AreAlike f g → AreAlikeTests s t → AreAlike (repeat mask f s) (repeat mask g t)
repeat_alike mask {f} {g} {s} {t} h k = record {
  each = λ c.
      let head = join mask c c (often c.freq) in
      let one = h.each head in
      let y = (f head).after in
      let w = (g head).after in
      let a = next_fork s t k y w one.after in
      let moved : repeat_with mask c (g head).pieces y (t w).pieces (s y).after ≡ repeat_with mask c (g head).pieces w (t w).pieces (t w).after = λ i. repeat_with mask c (g head).pieces (one.after i) (t w).pieces (a.after i) in
      subst (AreAlikeMade (repeat mask f s c)) moved (repeat_pieces mask c (f head).pieces (g head).pieces one.pieces y (s y).pieces (t w).pieces a.pieces (s y).after);
}

one_loop : (mask : Mask) (cond n : ℕ) {current now : Low ℕ} {body inner : Deed} → AreAlike current now → AreAlike body inner
    → AreAlike (loop mask (record { test = fork_branch cond current (give n); body = body } ∷ [])) (loop mask (record { test = fork_branch cond now (give n); body = inner } ∷ []))
one_loop mask cond n {current} {now} {body} {inner} k l =
    let one : AreAlikeRounds (record { test = fork_branch cond current (give n); body = body }) (record { test = fork_branch cond now (give n); body = inner }) = record { test = branch_test cond k (alike (give n)); body = l } in
    loop_alike mask (record { test = fork_branch cond current (give n); body = body } ∷ []) (record { test = fork_branch cond now (give n); body = inner } ∷ []) (one, tt)

pub for_alike : (mask : Mask) (cond : ℕ) {first begun : Deed} {limit bound current now : Low ℕ} {body inner : Deed} → AreAlike first begun → AreAlike limit bound → AreAlike current now → AreAlike body inner
    → AreAlike (for mask cond first limit current body) (for mask cond begun bound now inner)
for_alike mask cond h g k l = and_then h (λ u. and_then g (λ n. one_loop mask cond n k l))

---- CASE

pub record AreAlikeRungs (r q : Rung) : Type 0 where
  pub test : AreAlikeTests r.test q.test
  pub part : r.part ≡ q.part

abbrev pub AllAlikeRungs : List Rung → List Rung → Type 0
AllAlikeRungs [] [] = Unit {0}
AllAlikeRungs [] (q ∷ qs) = ⊥
AllAlikeRungs (r ∷ rs) [] = ⊥
AllAlikeRungs (r ∷ rs) (q ∷ qs) = AreAlikeRungs r q × AllAlikeRungs rs qs

record AreAlikeLadders (a b : Ladder) : Type 0 where
  pub pieces : (to : ℕ → ℕ) → bare (a.pieces to) ≡ bare (b.pieces to)
  pub after : a.after ≡ b.after

ladder_alike : (last : ℕ) (rs qs : List Rung) → AllAlikeRungs rs qs → (c : Cursor) → AreAlikeLadders (ladder last rs c) (ladder last qs c)
ladder_alike last [] [] h c = record { pieces = λ to. refl; after = refl }
ladder_alike last [] (q ∷ qs) h c = absurd h
ladder_alike last (r ∷ rs) [] h c = absurd h
ladder_alike last (r ∷ []) (q ∷ []) h c =
    let a = (h.0).test.each c in
    record {
      pieces = λ to. a.pieces (to r.part) (r.test c).after.block last ∙ ap₂ (λ n (x : Cursor). bare ((q.test c).pieces (to n) x.block last)) (h.0).part a.after;
      after = ap (λ x. at_freq x last) a.after;
    }
ladder_alike last (r ∷ []) (q ∷ (o ∷ qs)) h c = absurd h.1
ladder_alike last (r ∷ (s ∷ rs)) (q ∷ []) h c = absurd h.1
ladder_alike last (r ∷ (s ∷ rs)) (q ∷ (o ∷ qs)) h c =
    let a = (h.0).test.each c in
    let more = ladder_alike last (s ∷ rs) (o ∷ qs) h.1 (r.test c).after in
    let there : AreAlikeLadders (ladder last (s ∷ rs) (r.test c).after) (ladder last (o ∷ qs) (q.test c).after) = subst (λ x. AreAlikeLadders (ladder last (s ∷ rs) (r.test c).after) (ladder last (o ∷ qs) x)) a.after more in
    record {
      pieces = λ to. both ((r.test c).pieces (to r.part) (r.test c).after.block c.freq) _ ((q.test c).pieces (to q.part) (q.test c).after.block c.freq) _
          (a.pieces (to r.part) (r.test c).after.block c.freq ∙ ap₂ (λ n (x : Cursor). bare ((q.test c).pieces (to n) x.block c.freq)) (h.0).part a.after) (there.pieces to);
      after = there.after;
    }

abbrev pub AllAlike : List Deed → List Deed → Type 0
AllAlike [] [] = Unit {0}
AllAlike [] (g ∷ gs) = ⊥
AllAlike (f ∷ fs) [] = ⊥
AllAlike (f ∷ fs) (g ∷ gs) = AreAlike f g × AllAlike fs gs

record AreAlikeLimbs (a b : Limbs) : Type 0 where
  pub pieces : (out : ℕ) → bare (a.pieces out) ≡ bare (b.pieces out)
  pub starts : a.starts ≡ b.starts
  pub after : a.after ≡ b.after

limbs_alike : (mask : Mask) (s : Cursor) (fs gs : List Deed) → AllAlike fs gs → (c : Cursor) (end : ℕ → End) → AreAlikeLimbs (limbs mask s fs c end) (limbs mask s gs c end)
limbs_alike mask s [] [] h c end = record { pieces = λ out. refl; starts = refl; after = refl }
limbs_alike mask s [] (g ∷ gs) h c end = absurd h
limbs_alike mask s (f ∷ fs) [] h c end = absurd h
limbs_alike mask s (f ∷ fs) (g ∷ gs) h c end =
    let start : Cursor = record (fresh c) { freq = half s.freq; env = s.env; seen = s.seen } in
    let one = (h.0).each start in
    let more = limbs_alike mask s fs gs h.1 (f start).after (λ out. Jump out (picked mask (f start).after.env)) in
    let there : AreAlikeLimbs (limbs mask s fs (f start).after (λ out. Jump out (picked mask (f start).after.env))) (limbs mask s gs (g start).after (λ out. Jump out (picked mask (g start).after.env))) =
    subst (λ x. AreAlikeLimbs (limbs mask s fs (f start).after (λ out. Jump out (picked mask (f start).after.env))) (limbs mask s gs x (λ out. Jump out (picked mask x.env)))) one.after more in
    record {
      pieces = λ out. ap (λ ps. close c (end out) (plain start.freq start.seen) ∷ ps) (both (f start).pieces _ (g start).pieces _ one.pieces (there.pieces out));
      starts = ap (before start.block) there.starts;
      after = there.after;
    }

pub case_alike : (mask : Mask) (rs qs : List Rung) → AllAlikeRungs rs qs → (fs gs : List Deed) → AllAlike fs gs → (unmatched : ℕ → List ℕ → End) → AreAlike (case mask rs fs unmatched) (case mask qs gs unmatched)
case_alike mask rs qs h fs gs k unmatched = record {
  each = λ c.
      let t = ladder_alike (half c.freq) rs qs h c in
      let end : ℕ → End = λ out. unmatched out (picked mask c.env) in
      let m = limbs_alike mask c fs gs k (ladder (half c.freq) rs c).after end in
      let there : AreAlikeLimbs (limbs mask c fs (ladder (half c.freq) rs c).after end) (limbs mask c gs (ladder (half c.freq) qs c).after end) =
      subst (λ x. AreAlikeLimbs (limbs mask c fs (ladder (half c.freq) rs c).after end) (limbs mask c gs x end)) t.after m in
      let a = limbs mask c fs (ladder (half c.freq) rs c).after end in
      let b = limbs mask c gs (ladder (half c.freq) qs c).after end in
      record {
        pieces = both ((ladder (half c.freq) rs c).pieces a.starts) (a.pieces a.after.block) ((ladder (half c.freq) qs c).pieces b.starts) (b.pieces b.after.block)
            (t.pieces a.starts ∙ ap (λ starts. bare ((ladder (half c.freq) qs c).pieces starts)) there.starts)
            (there.pieces a.after.block ∙ ap (λ (x : Cursor). bare (b.pieces x.block)) there.after);
        result = refl;
        after = there.after;
      };
}
