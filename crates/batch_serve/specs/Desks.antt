-- What contracts say of a desk, of its senders and of its taker.
use Rattle.std.specs.Prelude.{◌≡◌, ℕ, ◌<◌, List, [], length, slice_index}
use Rattle.crossbeam_queue.specs.Passes.{view, IsPassOf, ruled_capacity}
use Rattle.crossbeam_queue.specs.Fifo.{Held}
use Rattle.batch_serve.specs.Tickets.{most_tickets, indices_of, first_indices}
use Rattle.batch_serve.specs.Rule.{Lasts, Rests}
use Rattle.batch_serve.specs.declared.sights.Ticket.{Ticket}
use Rattle.batch_serve.specs.declared.sights.Sight.{Sight}
use Rattle.batch_serve.specs.declared.sights.Sight.TheVariants.{Sends, Takes, Spent}
use Rattle.batch_serve.specs.declared.desk.Desk.{Desk}
use Rattle.batch_serve.specs.declared.desk.Sender.{Sender}
use Rattle.batch_serve.specs.declared.desk.Taker.{Taker}
use Rattle.batch_serve.specs.declared.desk.Put.{Put as Answer}
use Rattle.batch_serve.specs.declared.desk.Put.TheVariants.{Put, Full}

-- how many tickets the desk's queue has room for
abbrev pub room_of : Desk → ℕ
room_of desk = ruled_capacity desk.queue

abbrev pub number_of : Sender → ℕ
number_of sender = sender.number

-- how many tickets the sender put
abbrev pub put_of : Sender → ℕ
put_of sender = sender.count

-- the sender is one of this desk
abbrev pub IsSenderOf : Desk → Sender → Type 0
IsSenderOf desk sender = IsPassOf desk.queue sender.pass × (view sender.pass ≡ Sends sender.number sender.count)

-- it is, has this number, and put so many tickets
abbrev pub IsSender : Desk → Sender → ℕ → ℕ → Type 0
IsSender desk sender number put = IsSenderOf desk sender × (number_of sender ≡ number) × (put_of sender ≡ put)

abbrev pub taken_of_sight : Sight → List Ticket
taken_of_sight (Takes made taken ended) = taken
taken_of_sight (Sends s p) = []
taken_of_sight Spent = []

-- what the taker took, in order
abbrev pub taken_of : Taker → List Ticket
taken_of taker = taken_of_sight (view taker.pass)

-- of this sender so many were taken: its first ones, in order and each once
abbrev pub TookFirst : List Ticket → ℕ → ℕ → Type 0
TookFirst taken sender count = indices_of sender taken ≡ first_indices count

-- the taker is the one of this desk
abbrev pub IsTakerOf : Desk → Taker → Type 0
IsTakerOf desk taker =
    IsPassOf desk.queue taker.pass × (view taker.pass ≡ Takes 2 (taken_of taker) [])
    × (length taker.counts ≡ 2)
    × ((s : ℕ) → s < 2 → TookFirst (taken_of taker) s (slice_index taker.counts s))

-- the next ticket of its sender, after these were taken
abbrev pub IsNextTicket : List Ticket → Ticket → Type 0
IsNextTicket taken t = (t.sender < 2) × (t.index ≡ length (indices_of t.sender taken)) × (t.index < most_tickets)

-- at a moment the queue held as many tickets as it has room for, and those of this sender were the last that it put
abbrev pub WasFull : Desk → ℕ → ℕ → Type 0
WasFull desk number put = Held (room_of desk) (Lasts (Sends number put))

-- at a moment the queue was empty, and what was taken was all that was put
abbrev pub WasEmpty : List Ticket → Type 0
WasEmpty taken = Held 0 (Rests (Takes 2 taken []))

-- a fact for each answer of a put
abbrev pub MatchPut : Answer → Type 0 → Type 0 → Type 0
MatchPut Put p q = p
MatchPut Full p q = q
