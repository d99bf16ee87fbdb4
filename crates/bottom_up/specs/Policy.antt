-- The policy at a position of a walk from a trace's end: which register is given up, what is taken and defined. A mention tells the last position before a number that uses or makes a value.
use Rattle.std.specs.Prelude.{slice_set, ℕ, suc, ◌+◌, nat_lt, Bool, true, false, ◌&&◌, cond, List, [], ◌∷◌, map, Option, Some, None}
use Rattle.block_runs.specs.Blocks.{Operation}
use Rattle.block_runs.specs.Live.{has}
use Rattle.lir_core.specs.declared.flow.Lir.{Lir}
use Rattle.lir_core.specs.Flows.{operation_of}
use Rattle.lir_core.specs.Lines.{is_aimed, arguments}
use Rattle.lir_core.specs.Spots.{get, in_register}
use Rattle.loc_state.specs.Registers.{register_of, lowest_empty}
use Rattle.loc_back.specs.declared.part.BackPart.{BackPart}
use Rattle.loc_back.specs.Steps.{taken, evicted, defined, called}
use Rattle.bottom_up.specs.declared.choosing.Found.{Found}

---- The register that is given up

-- the first of two mentions is earlier; none is the earliest
abbrev pub is_earlier : Option ℕ → Option ℕ → Bool
is_earlier None None = false
is_earlier None (Some b) = true
is_earlier (Some a) None = false
is_earlier (Some a) (Some b) = nat_lt a b

-- the register of the earlier mention, the one found before where they are the same
abbrev pub earlier : ℕ → Option ℕ → Option Found → Option Found
earlier r mention None = Some (record { reg = r; mention = mention })
earlier r mention (Some f) = cond (is_earlier mention f.mention) (Some (record { reg = r; mention = mention })) (Some f)

abbrev pub nearer : List ℕ → (ℕ → Option ℕ) → ℕ → Option ℕ → Option Found → Option Found
nearer keep mention r None best = best
nearer keep mention r (Some v) best = cond (has keep v) best (earlier r (mention v) best)

-- of registers, the first of which is register r, the lowest with the earliest mention of a value that isn't kept
abbrev pub earliest : List ℕ → (ℕ → Option ℕ) → ℕ → List (Option ℕ) → Option Found → Option Found
earliest keep mention r [] best = best
earliest keep mention r (o ∷ os) best = earliest keep mention (suc r) os (nearer keep mention r o best)

abbrev pub reg_of : Option Found → ℕ
reg_of None = 0
reg_of (Some f) = f.reg

abbrev pub victim : List ℕ → (ℕ → Option ℕ) → List (Option ℕ) → ℕ
victim keep mention regs = reg_of (earliest keep mention 0 regs None)

---- Calls

abbrev pub is_empty : Option ℕ → Bool
is_empty None = true
is_empty (Some v) = false

-- an argument's own place among the first four where that is empty, else the lowest empty register
abbrev pub own_or_lowest : ℕ → List (Option ℕ) → Option ℕ
own_or_lowest i regs = cond (nat_lt i 4 && is_empty (get regs i)) (Some i) (lowest_empty 0 regs)

abbrev pub seated_at : ℕ → Option ℕ → List (Option ℕ) → List (Option ℕ)
seated_at u None regs = regs
seated_at u (Some r) regs = slice_set regs r (Some u)

-- a use that is in no register yet takes one, if there is one
abbrev pub with_use : ℕ → Option ℕ → List (Option ℕ) → List (Option ℕ)
with_use u r regs = cond (in_register regs u) regs (seated_at u r regs)

abbrev pub with_arguments : ℕ → List ℕ → List (Option ℕ) → List (Option ℕ)
with_arguments i [] regs = regs
with_arguments i (u ∷ us) regs = with_arguments (suc i) us (with_use u (own_or_lowest i regs) regs)

abbrev pub with_first : List ℕ → List (Option ℕ) → List (Option ℕ)
with_first [] regs = regs
with_first (u ∷ us) regs = with_use u (lowest_empty 0 regs) regs

-- the registers before a call: its arguments, in order, then its target, if it has one
abbrev pub before_call : Operation → List (Option ℕ) → List (Option ℕ)
before_call op regs = cond (is_aimed op.code) (with_first op.uses (with_arguments 0 (arguments op) regs)) (with_arguments 0 (arguments op) regs)

abbrev pub register_in : List (Option ℕ) → ℕ → Option ℕ
register_in regs u = cond (in_register regs u) (Some (register_of u regs)) None

-- a call, before which all registers are empty but for its uses
abbrev pub call_one : ℕ → Lir → BackPart → BackPart
call_one i x t = called i (operation_of x) (map (register_in (before_call (operation_of x) (map (λ o. None) t.regs))) x.uses) t

module _ (mention : ℕ → ℕ → Option ℕ) where
  abbrev pub before : ℕ → ℕ → Option ℕ
  before p v = mention v p

  ---- Uses

  abbrev pub take_at : ℕ → List ℕ → ℕ → Option ℕ → BackPart → BackPart
  take_at p keep u (Some r) t = taken u (Some r) t
  take_at p keep u None t = taken u (Some (victim keep (before p) t.regs)) (evicted (victim keep (before p) t.regs) t)

  -- a use in no register takes the lowest empty one, or that of the value that isn't kept and was mentioned earliest
  abbrev pub take_one : ℕ → List ℕ → ℕ → BackPart → BackPart
  take_one p keep u t = cond (in_register t.regs u) (taken u None t) (take_at p keep u (lowest_empty 0 t.regs) t)

  abbrev pub take_all : ℕ → List ℕ → List ℕ → BackPart → BackPart
  take_all p keep [] t = t
  take_all p keep (u ∷ us) t = take_all p keep us (take_one p keep u t)

  ---- Definitions

  abbrev pub empty_or : ℕ → List (Option ℕ) → Option ℕ → ℕ
  empty_or p regs (Some r) = r
  empty_or p regs None = victim [] (before p) regs

  -- a definition's own register, else the lowest empty one, or that of the value that was mentioned earliest
  abbrev pub made_in : ℕ → Option ℕ → List (Option ℕ) → Option ℕ
  made_in p None regs = None
  made_in p (Some d) regs = Some (cond (in_register regs d) (register_of d regs) (empty_or p regs (lowest_empty 0 regs)))

  ---- Operations

  -- an operation at position p
  abbrev pub operate : ℕ → ℕ → Lir → BackPart → BackPart
  operate p i x t = cond x.call (call_one i x t) (take_all p x.uses x.uses (defined i x.def (made_in p x.def t.regs) t))

  -- operations, the first of which is at position p and has index i, from the last to the first
  abbrev pub operate_all : ℕ → ℕ → List Lir → BackPart → BackPart
  operate_all p i [] t = t
  operate_all p i (x ∷ xs) t = operate p i x (operate_all (p + 1) (i + 1) xs t)
