-- Nodes' seats, by a table.
use Rattle.std.specs.Prelude.{◌≡◌, ℕ, ◌<◌, List, length, Option, None, slice_index_or}
use Rattle.boundary_resolve.specs.declared.seats.Seat.{Seat}
use Rattle.boundary_resolve.specs.Placing.{seat_of}

-- the first seat of each node
abbrev pub FindsSeats : List Seat → List (Option Seat) → Type 0
FindsSeats seats found = (n : ℕ) → slice_index_or found n None ≡ seat_of seats n

abbrev pub no_seat : Seat
no_seat = record { node = 0; trace = 0; at = 0 }

-- the numbers of the nodes are below a number
abbrev pub AreBelow : ℕ → List Seat → Type 0
AreBelow count seats = (k : ℕ) → k < length seats → (slice_index_or seats k no_seat).node < count
