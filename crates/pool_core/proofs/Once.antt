-- What follows from the rule: each trace is shown and taken once at most, and there is a cell for each.
use Rattle.std.proofs.Common.{◌≡◌, ℕ, zero, suc, ◌+◌, ◌<◌, ◌≤◌, List, [], ◌∷◌, ◌++◌, length, refl, ap, ⊎_elim, arith}
use Rattle.std.specs.Prelude.{Option}
use mathlib.Core.Logic.{dite}
use native.Mathlib.Decide.{dec_lt}
use mathlib.Core.Option.{some}
use lib.ListN.{get_elem?}
use Rattle.pool_core.specs.Sums.{total, hit, times}
use Rattle.pool_core.specs.Tree.{children, IsTree}
use Rattle.pool_core.specs.Rule.{having, showing, spread, Within, both, taken, size, Rule}
use Rattle.pool_core.specs.declared.model.Stage.{Stage}
use Rattle.pool_core.specs.declared.model.Stage.TheVariants.{Idle, Ticket, Trace, Placed, Stopped, Spent}
use Rattle.pool_core.specs.declared.model.Worker.{Worker}
use Rattle.pool_core.specs.declared.model.State.{State}
use Rattle.pool_core.proofs.Sums.{hit-sym, total-append, total_le, total_le_all, total_less, total-zero, total-take-le, below, distinct_le}
use Rattle.pool_core.proofs.Trees.{place_of, outside, spread_le}

abbrev traces : Stage → List ℕ
traces Idle = []
traces (Ticket d) = []
traces (Trace t k) = t ∷ []
traces (Placed t k d) = t ∷ []
traces Stopped = []
traces Spent = []

traces-total : (g : ℕ → ℕ) (st : Stage) → total g (traces st) ≡ having g st
traces-total g Idle = refl
traces-total g (Ticket d) = refl
traces-total g (Trace t k) = omega arith
traces-total g (Placed t k d) = omega arith
traces-total g Stopped = refl
traces-total g Spent = refl

abbrev given : List Stage → List ℕ
given [] = []
given (st ∷ sts) = traces st ++ given sts

-- all that was taken
abbrev gathered : List Worker → List Stage → List ℕ
gathered [] lost = given lost
gathered (w ∷ ws) lost = (traces w.stage ++ w.finished) ++ gathered ws lost

given-total : (g : ℕ → ℕ) (sts : List Stage) → total g (given sts) ≡ total (having g) sts
given-total g [] = refl
given-total g (st ∷ sts) = omega (arith, total-append g (traces st) (given sts), traces-total g st, given-total g sts)

module _ (P : List (Option ℕ)) where
  gathered-total : (g : ℕ → ℕ) (ws : List Worker) (lost : List Stage) → total g (gathered ws lost) ≡ both P (having g) g ws lost
  gathered-total g [] lost = omega (arith, given-total g lost)
  gathered-total g (w ∷ ws) lost = omega (arith, total-append g (traces w.stage ++ w.finished) (gathered ws lost), total-append g (traces w.stage) w.finished, traces-total g w.stage, gathered-total g ws lost)

  both_le : (f f' : Stage → ℕ) (g g' : ℕ → ℕ) (ws : List Worker) (lost : List Stage) → ((st : Stage) → f st ≤ f' st) → ((t : ℕ) → g t ≤ g' t) → both P f g ws lost ≤ both P f' g' ws lost
  both_le f f' g g' ws lost hf hg = omega (
    arith,
    total_le_all (λ w. f w.stage + total g w.finished) (λ w. f' w.stage + total g' w.finished) ws (λ w. omega (arith, hf w.stage, total_le_all g g' w.finished hg)),
    total_le_all f f' lost hf,
  )

  nothing : (ws : List Worker) (lost : List Stage) → both P (λ _. 0) (λ _. 0) ws lost ≡ 0
  nothing [] lost = omega (arith, total-zero lost)
  nothing (w ∷ ws) lost = omega (arith, nothing ws lost, total-zero w.finished)

  pub showing-le : (x p : ℕ) → ((t : ℕ) → times x (children P t) ≡ hit t p) → (st : Stage) → showing P (hit x) st ≤ having (hit p) st
  showing-le x p h Idle = omega arith
  showing-le x p h (Ticket d) = omega arith
  showing-le x p h (Trace t k) = omega (arith, total-take-le (hit x) k (children P t), h t, hit-sym t p)
  showing-le x p h (Placed t k d) = omega (arith, total-take-le (hit x) k (children P t), h t, hit-sym t p)
  showing-le x p h Stopped = omega arith
  showing-le x p h Spent = omega arith

  none-shown : (x : ℕ) → ((t : ℕ) → times x (children P t) ≡ 0) → (st : Stage) → showing P (hit x) st ≤ 0
  none-shown x h Idle = omega arith
  none-shown x h (Ticket d) = omega arith
  none-shown x h (Trace t k) = omega (arith, total-take-le (hit x) k (children P t), h t)
  none-shown x h (Placed t k d) = omega (arith, total-take-le (hit x) k (children P t), h t)
  none-shown x h Stopped = omega arith
  none-shown x h Spent = omega arith

  spread-le : (st : Stage) → Within P st → spread P st ≤ having (size P) st
  spread-le Idle h = omega arith
  spread-le (Ticket d) h = omega arith
  spread-le (Trace t k) h = h
  spread-le (Placed t k d) h = omega arith
  spread-le Stopped h = omega arith
  spread-le Spent h = omega arith

  module _ (tree : IsTree P) (whole : ℕ) (lost : List Stage) (s : State) (r : Rule P whole lost s) where
    abbrev Once : ℕ → Type 0
    Once t = (times (suc t) s.cells ≤ 1) × (taken P t s.workers lost ≤ 1)

    once_below : (n t : ℕ) → t < n → Once t
    once_below zero t h = absurd (omega arith)
    once_below (suc n) t h =
        let few : times (suc t) s.cells ≤ 1 = (⊎_elim
        (λ root. omega (arith, r.shown t, root.0, nothing s.workers lost, both_le (showing P (hit t)) (λ _. 0) (λ p. times t (children P p)) (λ _. 0) s.workers lost (none-shown t root.1) (λ p. omega (arith, root.1 p))))
        (λ ch. let p : ℕ = ch.0 in omega (arith, r.shown t, ch.2.0, (once_below n p (omega (arith, ch.1))).1, both_le (showing P (hit t)) (having (hit p)) (λ q. times t (children P q)) (hit p) s.workers lost (showing-le t p ch.2.1) (λ q. omega (arith, ch.2.1 q, hit-sym q p))))
        (place_of P t tree)) in
        (few, omega (arith, r.known t))

    -- each trace is shown in one cell at most, and was taken once at most
    pub once : (t : ℕ) → (times (suc t) s.cells ≤ 1) × (taken P t s.workers lost ≤ 1)
    once t = once_below (suc t) t (omega arith)

    -- only traces are shown
    pub only_traces : (t : ℕ) → length P ≤ t → times (suc t) s.cells ≡ 0
    only_traces t h = let o = outside P t h in omega (arith, r.shown t, o.0, nothing s.workers lost, both_le (showing P (hit t)) (λ _. 0) (λ p. times t (children P p)) (λ _. 0) s.workers lost (none-shown t o.1) (λ p. omega (arith, o.1 p)))

    pub is_trace : (t : ℕ) → 0 < times (suc t) s.cells → t < length P
    is_trace t h = dite (dec_lt t (length P)) (λ lt. lt) (λ ge. absurd (omega (arith, only_traces t (omega arith))))

    -- a number that is no trace is never taken
    pub out : (t : ℕ) → length P ≤ t → taken P t s.workers lost ≡ 0
    out t h = let o = outside P t h in omega (arith, r.known t, r.shown t, o.0, nothing s.workers lost, both_le (showing P (hit t)) (λ _. 0) (λ p. times t (children P p)) (λ _. 0) s.workers lost (none-shown t o.1) (λ p. omega (arith, o.1 p)))

    taken-le : both P (having (size P)) (size P) s.workers lost ≤ below (size P) (length P)
    taken-le = omega (
      arith,
      gathered-total (size P) s.workers lost,
      distinct_le (size P) (gathered s.workers lost) (length P) (λ t. omega (arith, gathered-total (hit t) s.workers lost, (once t).1)) (λ t h. omega (arith, gathered-total (hit t) s.workers lost, out t h)),
    )

    -- no more is finished than there is
    pub finished-le : s.finished ≤ length P
    finished-le = omega (
      arith,
      r.counted,
      total_le (λ w. length w.finished) (λ w. having (λ _. 1) w.stage + total (λ _. 1) w.finished) s.workers (λ i w at. omega (arith, ones w.finished)),
      gathered-total (λ _. 1) s.workers lost,
      distinct_le (λ _. 1) (gathered s.workers lost) (length P) (λ t. omega (arith, gathered-total (hit t) s.workers lost, (once t).1)) (λ t h. omega (arith, gathered-total (hit t) s.workers lost, out t h)),
      counted (length P),
    )
      where
        ones : (xs : List ℕ) → total (λ _. 1) xs ≡ length xs
        ones [] = refl
        ones (x ∷ xs) = omega (arith, ones xs)

        counted : (n : ℕ) → below (λ _. 1) n ≡ n
        counted zero = refl
        counted (suc n) = omega (arith, counted n)

    -- the shares bound the number of draws
    pub head-le : s.head ≤ whole
    head-le = omega (arith, r.heads, r.shares, total_le (λ w. w.draws) (λ w. w.share) s.workers (λ i w at. (r.fair i w at).bounded))

    -- there is a cell for each that is shown
    pub short : s.tail ≤ length P
    short = omega (
      arith,
      r.tails,
      spread_le P (length P),
      taken-le,
      total_le (λ w. spread P w.stage + total (size P) w.finished) (λ w. having (size P) w.stage + total (size P) w.finished) s.workers (λ i w at. omega (arith, spread-le w.stage (r.fair i w at).within)),
      total_le (spread P) (having (size P)) lost (λ i st at. spread-le st (r.lost_within i st at)),
    )

    -- and for the next child
    pub room : (i : ℕ) (w : Worker) (t k : ℕ) → get_elem? s.workers i ≡ some w → w.stage ≡ Trace t k → k < size P t → s.tail < length P
    room i w t k at is h = omega (
      arith,
      r.tails,
      spread_le P (length P),
      taken-le,
      total_less (λ w. spread P w.stage + total (size P) w.finished) (λ w. having (size P) w.stage + total (size P) w.finished) s.workers i w at (omega (arith, ap (spread P) is, ap (having (size P)) is)) (λ i w at. omega (arith, spread-le w.stage (r.fair i w at).within)),
      total_le (spread P) (having (size P)) lost (λ i st at. spread-le st (r.lost_within i st at)),
    )
