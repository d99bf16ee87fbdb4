-- The policy at a position: which register is given up, what is brought, dropped and defined. A need tells the first position from a number on that needs a value.
use Rattle.std.specs.Prelude.{ℕ, suc, ◌+◌, nat_lt, Bool, true, false, cond, List, [], ◌∷◌, ◌++◌, map, filter, Option, Some, None, is_some, option_to_list}
use Rattle.block_runs.specs.Live.{has}
use Rattle.lir_core.specs.declared.flow.Lir.{Lir}
use Rattle.lir_core.specs.Flows.{operation_of}
use Rattle.lir_core.specs.Spots.{in_register}
use Rattle.loc_state.specs.declared.part.Part.{Part}
use Rattle.loc_state.specs.Registers.{lowest_empty}
use Rattle.loc_state.specs.Steps.{brought, evicted, dropped, defines, called}
use Rattle.linear_scan.specs.declared.choosing.Found.{Found}

---- The register that is given up

-- the second of two needs is later; none is the latest
abbrev pub is_later : Option ℕ → Option ℕ → Bool
is_later (Some a) (Some b) = nat_lt a b
is_later (Some a) None = true
is_later None b = false

-- the register of the later need, the one found before where they are the same
abbrev pub later : ℕ → Option ℕ → Option Found → Option Found
later r need None = Some (record { reg = r; need = need })
later r need (Some f) = cond (is_later f.need need) (Some (record { reg = r; need = need })) (Some f)

abbrev pub farther : List ℕ → (ℕ → Option ℕ) → ℕ → Option ℕ → Option Found → Option Found
farther keep need r None best = best
farther keep need r (Some v) best = cond (has keep v) best (later r (need v) best)

-- of registers, the first of which is register r, the lowest with the latest need of a value that isn't kept
abbrev pub farthest : List ℕ → (ℕ → Option ℕ) → ℕ → List (Option ℕ) → Option Found → Option Found
farthest keep need r [] best = best
farthest keep need r (o ∷ os) best = farthest keep need (suc r) os (farther keep need r o best)

abbrev pub reg_of : Option Found → ℕ
reg_of None = 0
reg_of (Some f) = f.reg

abbrev pub victim : List ℕ → (ℕ → Option ℕ) → List (Option ℕ) → ℕ
victim keep need regs = reg_of (farthest keep need 0 regs None)

module _ (need : ℕ → ℕ → Option ℕ) where
  abbrev pub from : ℕ → ℕ → Option ℕ
  from p v = need v p

  abbrev pub is_needed : ℕ → ℕ → Bool
  is_needed p v = is_some (need v p)

  ---- Uses

  abbrev pub bring_at : ℕ → List ℕ → ℕ → Option ℕ → Part → Part
  bring_at p keep u (Some r) t = brought u (Some r) t
  bring_at p keep u None t = brought u (Some (victim keep (from p) t.regs)) (evicted (victim keep (from p) t.regs) t)

  -- a use in no register takes the lowest empty one, or that of the value that isn't kept and is needed last
  abbrev pub bring_one : ℕ → List ℕ → ℕ → Part → Part
  bring_one p keep u t = cond (in_register t.regs u) (brought u None t) (bring_at p keep u (lowest_empty 0 t.regs) t)

  abbrev pub bring_all : ℕ → List ℕ → List ℕ → Part → Part
  bring_all p keep [] t = t
  bring_all p keep (u ∷ us) t = bring_all p keep us (bring_one p keep u t)

  ---- Values without a need

  abbrev pub living : ℕ → Option ℕ → Option ℕ
  living p None = None
  living p (Some v) = cond (is_needed p v) (Some v) None

  -- all values without a need from p on lose their places
  abbrev pub drop_dead : ℕ → Part → Part
  drop_dead p t = record t { regs = map (living p) t.regs; homed = filter (is_needed p) t.homed }

  abbrev pub drop_one : ℕ → ℕ → Part → Part
  drop_one p v t = cond (is_needed p v) t (dropped v t)

  -- of some values those without a need
  abbrev pub drop_all : ℕ → List ℕ → Part → Part
  drop_all p [] t = t
  drop_all p (v ∷ vs) t = drop_all p vs (drop_one p v t)

  ---- Definitions

  -- the definition takes the lowest empty register, or that of the value that is needed last
  abbrev pub define_at : ℕ → ℕ → ℕ → Option ℕ → Part → Part
  define_at p i v (Some r) t = defines i (Some v) (Some r) t
  define_at p i v None t = defines i (Some v) (Some (victim [] (from p) t.regs)) (evicted (victim [] (from p) t.regs) t)

  -- and loses its place where it has no need
  abbrev pub define_one : ℕ → ℕ → Option ℕ → Part → Part
  define_one p i None t = defines i None None t
  define_one p i (Some v) t = drop_one p v (define_at p i v (lowest_empty 0 t.regs) t)

  -- the values in registers that have a need
  abbrev pub needed_in : ℕ → List (Option ℕ) → List ℕ
  needed_in p [] = []
  needed_in p (None ∷ os) = needed_in p os
  needed_in p (Some v ∷ os) = cond (is_needed p v) (v ∷ needed_in p os) (needed_in p os)

  ---- Operations, with a way to drop: it is told from where on needs count, and which values the operation mentions

  module _ (drops : ℕ → List ℕ → Part → Part) where
    -- a call: what registers have and is needed is kept
    abbrev pub call_one : ℕ → ℕ → Lir → Part → Part
    call_one p i x t = drops p (x.uses ++ option_to_list x.def) (called i (operation_of x) (needed_in p t.regs) t)

    -- an operation at position p
    abbrev pub operate : ℕ → ℕ → Lir → Part → Part
    operate p i x t =
        cond x.call
        (call_one (p + 1) i x t)
        (define_one (p + 1) i x.def (drops (p + 1) x.uses (bring_all p x.uses x.uses t)))

    abbrev pub operate_all : ℕ → ℕ → List Lir → Part → Part
    operate_all p i [] t = t
    operate_all p i (x ∷ xs) t = operate_all (p + 1) (i + 1) xs (operate p i x t)
