-- The rule of the queue of a desk.
use Rattle.std.specs.Prelude.{◌≡◌, ℕ, ◌+◌, ◌<◌, ◌≤◌, List, [], ◌∷◌, ◌++◌, length, slice_index}
use mathlib.Core.Option.{some}
use lib.ListN.{get_elem?}
use Rattle.batch_serve.specs.Tickets.{most_tickets, indices_of, first_indices}
use Rattle.batch_serve.specs.declared.sights.Ticket.{Ticket}
use Rattle.batch_serve.specs.declared.sights.Sight.{Sight}
use Rattle.batch_serve.specs.declared.sights.Sight.TheVariants.{Sends, Takes, Spent}

-- what there is: the number of each sender's pass, how many tickets each sender put, how many senders were made, the number of the
-- taker's pass, what was taken, and how many tickets each sender put that the taker took in
pub record Parties : Type 0 where
  pub seat : ℕ → ℕ
  pub put : ℕ → ℕ
  pub made : ℕ
  pub taker : ℕ
  pub taken : List Ticket
  pub ended : List ℕ

-- what the pass of this number knows is so; a pass that sends is that of a sender that was made and isn't taken in
abbrev pub IsTrueSight : Parties → ℕ → Sight → Type 0
IsTrueSight h port (Sends s p) = (port ≡ h.seat s) × (p ≡ h.put s) × (length h.ended ≤ s) × (s < h.made)
IsTrueSight h port (Takes made taken ended) = (port ≡ h.taker) × (made ≡ h.made) × (taken ≡ h.taken) × (ended ≡ h.ended)
IsTrueSight h port Spent = Unit {0}

-- The rule. Of each sender, what was taken and what the queue holds are together its indices from 0 up to those that it put, in order
-- and each once (`in_order`). What passes know is so (`known`): the taker's pass has what was taken, each sender's how many it put.
pub record KeepsOrder (items : List Ticket) (sights : List Sight) : Type 0 where
  pub parties : Parties
  pub in_order : (s : ℕ) → indices_of s (parties.taken ++ items) ≡ first_indices (parties.put s)
  pub known : (port : ℕ) (v : Sight) → get_elem? sights port ≡ some v → IsTrueSight parties port v
  pub few : (s : ℕ) → parties.put s ≤ most_tickets
  pub unmade : (s : ℕ) → parties.made ≤ s → parties.put s ≡ 0
  pub ended : (s : ℕ) → s < length parties.ended → slice_index parties.ended s ≡ parties.put s
  pub ended_made : length parties.ended ≤ parties.made

-- the first pass takes, and no sender was made
abbrev pub first_sight : Sight
first_sight = Takes 0 [] []

---- What a step makes of what a pass knows

-- the taker made a sender
abbrev pub with_sender : Sight → Sight
with_sender (Takes made taken ended) = Takes (made + 1) taken ended
with_sender (Sends s p) = Sends s p
with_sender Spent = Spent

-- the sender that it made
abbrev pub newcomer : Sight → Sight
newcomer (Takes made taken ended) = Sends made 0
newcomer (Sends s p) = Spent
newcomer Spent = Spent

-- how many tickets it put
abbrev pub put_by : Sight → ℕ
put_by (Sends s p) = p
put_by (Takes made taken ended) = 0
put_by Spent = 0

-- the taker took a sender in
abbrev pub with_ended : Sight → Sight → Sight
with_ended (Takes made taken ended) w = Takes made taken (ended ++ put_by w ∷ [])
with_ended (Sends s p) w = Sends s p
with_ended Spent w = Spent

-- a sender put a ticket
abbrev pub with_put : Sight → Sight
with_put (Sends s p) = Sends s (p + 1)
with_put (Takes made taken ended) = Takes made taken ended
with_put Spent = Spent

-- the taker took a ticket
abbrev pub with_taken : Sight → Ticket → Sight
with_taken (Takes made taken ended) x = Takes made (taken ++ x ∷ []) ended
with_taken (Sends s p) x = Sends s p
with_taken Spent x = Spent

---- What a step tells

-- the ticket is of a sender that was made, and its index is how many of that sender's were taken before
abbrev pub ComesNext : Sight → Ticket → Type 0
ComesNext (Takes made taken ended) x = (x.sender < made) × (x.index ≡ length (indices_of x.sender taken)) × (x.index < most_tickets)
ComesNext (Sends s p) x = Unit {0}
ComesNext Spent x = Unit {0}

-- the tickets of this sender that the queue holds are the last that it put
abbrev pub Lasts : Sight → List Ticket → Type 0
Lasts (Sends s p) items = (gone : List ℕ) × (gone ++ indices_of s items ≡ first_indices p)
Lasts (Takes made taken ended) items = Unit {0}
Lasts Spent items = Unit {0}

-- what was taken of each sender, and what the queue holds of it, are together what it put
abbrev pub Rests : Sight → List Ticket → Type 0
Rests (Takes made taken ended) items = (put : ℕ → ℕ) × ((s : ℕ) → indices_of s (taken ++ items) ≡ first_indices (put s))
Rests (Sends s p) items = Unit {0}
Rests Spent items = Unit {0}

-- the same of each sender that was taken in, by how many it put
abbrev pub Settled : Sight → List Ticket → Type 0
Settled (Takes made taken ended) items = (s : ℕ) → s < length ended → indices_of s (taken ++ items) ≡ first_indices (slice_index ended s)
Settled (Sends s p) items = Unit {0}
Settled Spent items = Unit {0}
