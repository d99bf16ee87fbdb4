-- The table of nodes' seats.
use Rattle.std.proofs.Common.{◌≡◌, ℕ, ◌+◌, ◌<◌, Bool, true, false, cond, List, ◌∷◌, length, drop, get_or, set, Option, Some, None, refl, sym, ap, ◌∙◌, subst, arith}
use Rattle.std.specs.Prelude.{◌==◌}
use Rattle.std.proofs.lemmas.Bool.{eqb-true}
use Rattle.std.proofs.lemmas.Bool.Decides.{nat_tests}
use Rattle.std.proofs.lemmas.List.{drop_more, get_or-set_other}
use Rattle.std.proofs.lemmas.Grind.{get_or-set_at}
use Rattle.boundary_resolve.specs.declared.seats.Seat.{Seat}
use Rattle.boundary_resolve.specs.Placing.{seat_of}
use Rattle.boundary_resolve.specs.Seats.{FindsSeats, AreBelow, no_seat}

pub seat_found : (seats : List Seat) (i j : ℕ) (s : Seat) (found : List (Option Seat)) → FindsSeats (drop i seats) found → AreBelow (length found) seats → i ≡ j + 1 → j < length seats → s ≡ get_or seats j no_seat → FindsSeats (drop j seats) (set found s.node (Some s))
seat_found seats i j s found finds below next lt is n =
    at_test (s.node == n) refl
    ∙ sym (ap (λ ss. seat_of ss n) (drop_more seats j no_seat lt ∙ ap (λ y. y ∷ drop (j + 1) seats) (sym is)))
  where
    low : s.node < length found
    low = subst (λ (x : Seat). x.node < length found) (sym is) (below j lt)

    other : (s.node == n) ≡ false → n ≡ s.node → ⊥
    other e h = grind (arith, nat_tests)

    at_test : (b : Bool) → (s.node == n) ≡ b → get_or (set found s.node (Some s)) n None ≡ cond b (Some s) (seat_of (drop (j + 1) seats) n)
    at_test true e = get_or-set_at found s.node n (Some s) None (sym (eqb-true s.node n e)) low
    at_test false e = get_or-set_other found s.node n (Some s) None (λ h. other e h) ∙ finds n ∙ ap (λ m. seat_of (drop m seats) n) next
