-- Lists of tickets.
use Rattle.std.specs.Prelude.{ℕ, zero, suc, eqb, List, [], ◌∷◌, ◌++◌, if◌then◌else◌}
use Rattle.batch_serve.specs.declared.sights.Ticket.{Ticket}

abbrev pub ticket : ℕ → ℕ → Ticket
ticket sender index = record { sender = sender; index = index }

-- how many tickets a sender puts at most
abbrev pub most_tickets : ℕ
most_tickets = 1024

-- the indices of this sender's tickets, in order
abbrev pub indices_of : ℕ → List Ticket → List ℕ
indices_of sender [] = []
indices_of sender (t ∷ ts) = if eqb t.sender sender then t.index ∷ indices_of sender ts else indices_of sender ts

-- the first n indices, rising
abbrev pub first_indices : ℕ → List ℕ
first_indices zero = []
first_indices (suc n) = first_indices n ++ n ∷ []
