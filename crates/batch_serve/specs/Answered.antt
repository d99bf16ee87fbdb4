-- Which jobs are answered.
use Rattle.std.specs.Prelude.{◌≡◌, ℕ, ◌+◌, List, length, take, min}
use Rattle.std.specs.List.{AllZip}
use Rattle.batch_serve.specs.Tickets.{indices_of}
use Rattle.batch_serve.specs.declared.sights.Ticket.{Ticket}

module _ {J A : Type 0} (IsAnswer : J → A → Type 0) where
  -- the first jobs, up to this number or as many as there are, have their answers, in order
  abbrev pub AnswersUpTo : List J → ℕ → List A → Type 0
  AnswersUpTo jobs number given = AllZip IsAnswer (take (length given) jobs) given × (length given ≡ min number (length jobs))

  -- the job of each ticket that was taken is answered
  abbrev pub IsAnswered : List J → List J → List Ticket → List A → List A → Type 0
  IsAnswered first second taken one two = AnswersUpTo first (length (indices_of 0 taken)) one × AnswersUpTo second (length (indices_of 1 taken)) two

-- how many tickets of the two senders there are
abbrev pub ticket_count : List Ticket → ℕ
ticket_count taken = length (indices_of 0 taken) + length (indices_of 1 taken)
