-- What a system has done since its start, and what it may still pass before its next moment.
use Rattle.std.proofs.Common.{◌≡◌, ℕ, suc, ◌+◌, ◌*◌, ◌≤◌, List, [], ◌∷◌, ◌++◌, refl, sym, ap, ◌∙◌, subst, arith, append_assoc}
use Rattle.run_laws.specs.Runs.{Step, Moves, weigh, System, Walk, Passes, Halts, GoesOn, turns_a_step}
use Rattle.run_laws.proofs.Weights.{append-nil, weigh-append}
use Rattle.run_laws.proofs.Walks.{Walk-append, Passes-snoc}

module _ {S T P : Type 0} (y : System S T P) (least : P → ℕ) (all : List P) (s0 : S) (n0 : ℕ) where
  -- with n0 turns at first the system has left turns left, at most m, wrote out and stands at s; since its last moment it
  -- passed points that leave room for free; its steps have paid for g turns more than it spent
  pub record Reached (m g left : ℕ) (out : List ℕ) (s : S) (free : (P → ℕ) → ℕ) : Type 0 where
    -- the moments passed, the steps in the stretches behind, and where the open stretch began
    pub k : ℕ
    pub j : ℕ
    pub mid : S
    -- the points of the open stretch, and what was written before it and in it
    pub ps : List P
    pub before : List ℕ
    pub last : List ℕ
    pub turns : k + left ≡ n0
    pub bound : left ≤ m
    pub passes : Passes y least all k j s0 before mid
    pub walk : Walk y mid ps last s
    pub wrote : out ≡ before ++ last
    pub room : (h : P → ℕ) → weigh h ps + free h ≤ weigh h all
    pub pace : k + g ≤ turns_a_step * (j + weigh least ps)

  -- at the start
  pub starts : (free : (P → ℕ) → ℕ) → ((h : P → ℕ) → free h ≤ weigh h all) → Reached n0 0 n0 [] s0 free
  starts free fits = record { k = 0; j = 0; mid = s0; ps = []; before = []; last = []; turns = omega arith; bound = omega arith; passes = (refl, refl, refl); walk = (refl, refl); wrote = refl; room = λ h. let f = fits h in omega (arith, f); pace = omega arith }

  -- a walk: its points are taken from the room, and their least steps pay
  pub pass_walk : {m g left : ℕ} {out : List ℕ} {s : S} {free : (P → ℕ) → ℕ} (more : ℕ) (rest : (P → ℕ) → ℕ) (qs : List P) (w : List ℕ) (t : S) → Reached m g left out s free → Walk y s qs w t → ((h : P → ℕ) → weigh h qs + rest h ≤ free h) → more ≤ g + turns_a_step * weigh least qs → Reached m more left (out ++ w) t rest
  pass_walk {m} {g} {left} {out} {s} {free} more rest qs w t r walk fits pays =
      let turns = r.turns in let bound = r.bound in let pace = r.pace in
      let grown = weigh-append least r.ps qs in
      record {
        k = r.k;
        j = r.j;
        mid = r.mid;
        ps = r.ps ++ qs;
        before = r.before;
        last = r.last ++ w;
        turns = turns;
        bound = bound;
        passes = r.passes;
        walk = Walk-append y r.ps qs r.mid s t r.last w r.walk walk;
        wrote = ap (λ x. x ++ w) r.wrote ∙ append_assoc r.before r.last w;
        room = λ h. let a = r.room h in let b = fits h in omega (arith, a, b, weigh-append h r.ps qs);
        pace = omega (arith, pace, pays, grown);
      }

  -- one step
  pub pass : {m g left : ℕ} {out : List ℕ} {s : S} {free : (P → ℕ) → ℕ} (more : ℕ) (rest : (P → ℕ) → ℕ) (p : P) (w : List ℕ) (t : S) → Reached m g left out s free → y.at s ≡ p → y.step s ≡ Moves w t → ((h : P → ℕ) → h p + rest h ≤ free h) → more ≤ g + turns_a_step * least p → Reached m more left (out ++ w) t rest
  pass {m} {g} {left} {out} {s} {free} more rest p w t r here step fits pays =
      pass_walk more rest (p ∷ []) w t r (record { after = t; now = w; later = []; here = here; moves = step; wrote = sym (append-nil w); more = (refl, refl) })
      (λ h. let a = fits h in omega (arith, a)) (omega (arith, pays))

  -- one step that writes nothing
  pub pass_quiet : {m g left : ℕ} {out : List ℕ} {s : S} {free : (P → ℕ) → ℕ} (more : ℕ) (rest : (P → ℕ) → ℕ) (p : P) (t : S) → Reached m g left out s free → y.at s ≡ p → y.step s ≡ Moves [] t → ((h : P → ℕ) → h p + rest h ≤ free h) → more ≤ g + turns_a_step * least p → Reached m more left out t rest
  pass_quiet {m} {g} {left} {out} {s} {free} more rest p t r here step fits pays =
      subst (λ o. Reached m more left o t rest) (append-nil out) (pass more rest p [] t r here step fits pays)

  -- less room, a later bound, less paid
  pub loosen : {m g left : ℕ} {out : List ℕ} {s : S} {free : (P → ℕ) → ℕ} (most more : ℕ) (rest : (P → ℕ) → ℕ) → Reached m g left out s free → m ≤ most → more ≤ g → ((h : P → ℕ) → rest h ≤ free h) → Reached most more left out s rest
  loosen {m} {g} {left} {out} {s} {free} most more rest r le less fits =
      let turns = r.turns in let bound = r.bound in let pace = r.pace in
      record {
        k = r.k;
        j = r.j;
        mid = r.mid;
        ps = r.ps;
        before = r.before;
        last = r.last;
        turns = turns;
        bound = omega (arith, bound, le);
        passes = r.passes;
        walk = r.walk;
        wrote = r.wrote;
        room = λ h. let a = r.room h in let b = fits h in omega (arith, a, b);
        pace = omega (arith, pace, less);
      }

  -- the open stretch closed
  closed : {m g left : ℕ} {out : List ℕ} {s : S} {free : (P → ℕ) → ℕ} (r : Reached m g left out s free) → Passes y least all (suc r.k) (r.j + weigh least r.ps) s0 out s
  closed {m} {g} {left} {out} {s} {free} r =
      subst (λ o. Passes y least all (suc r.k) (r.j + weigh least r.ps) s0 o s) (sym r.wrote)
      (Passes-snoc y least all r.k r.j s0 r.mid s r.before r.last r.ps r.passes (λ h. let a = r.room h in omega (arith, a)) r.walk)

  -- a moment: a turn is spent, and all points are free again; what was paid beyond it stays paid
  pub moment : {m g left : ℕ} {out : List ℕ} {s : S} {free : (P → ℕ) → ℕ} (n : ℕ) (rest : (P → ℕ) → ℕ) → Reached m (suc g) left out s free → left ≡ suc n → ((h : P → ℕ) → rest h ≤ weigh h all) → Reached n g n out s rest
  moment {m} {g} {left} {out} {s} {free} n rest r is fits =
      let turns = r.turns in let bound = r.bound in let pace = r.pace in
      record {
        k = suc r.k;
        j = r.j + weigh least r.ps;
        mid = s;
        ps = [];
        before = out;
        last = [];
        turns = omega (arith, turns, is);
        bound = omega arith;
        passes = closed r;
        walk = (refl, refl);
        wrote = sym (append-nil out);
        room = λ h. let f = fits h in omega (arith, f);
        pace = omega (arith, pace);
      }

  -- a moment with no turn left: all n0 are used up
  pub spent : {m g left : ℕ} {out : List ℕ} {s : S} {free : (P → ℕ) → ℕ} → Reached m (suc g) left out s free → left ≡ 0 → GoesOn y least all n0 s0 out
  spent {m} {g} {left} {out} {s} {free} r is =
      let turns = r.turns in let pace = r.pace in
      let all_spent : r.k ≡ n0 = omega (arith, turns, is) in
      record { after = s; weight = r.j + weigh least r.ps; pace = omega (arith, pace, all_spent); passes = subst (λ k. Passes y least all (suc k) (r.j + weigh least r.ps) s0 out s) all_spent (closed r) }

  -- a halt
  pub halts : {m g left : ℕ} {out : List ℕ} {s : S} {free : (P → ℕ) → ℕ} (halt : Step S T) → Reached m g left out s free → y.step s ≡ halt → ((h : P → ℕ) → h (y.at s) ≤ free h) → Halts y least all n0 s0 out halt
  halts {m} {g} {left} {out} {s} {free} halt r step fits =
      let turns = r.turns in
      record {
        moments = r.k;
        weight = r.j;
        mid = r.mid;
        points = r.ps;
        stop = s;
        before = r.before;
        last = r.last;
        most = omega (arith, turns);
        passes = r.passes;
        within = λ h. let a = r.room h in let b = fits h in omega (arith, a, b, weigh-append h r.ps (y.at s ∷ []));
        walk = r.walk;
        halts = step;
        wrote = r.wrote;
      }
