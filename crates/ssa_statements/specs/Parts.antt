-- Statements with blocks of their own, from their parts.
use Rattle.std.specs.Prelude.{◌≡◌, ℕ, suc, List, ◌∷◌, length, Some, None}
use Rattle.block_runs.specs.declared.end.End.TheVariants.{Jump}
use Rattle.ssa_lowered.specs.Pieces.{Mask}
use Rattle.ssa_lowered.specs.Statements.{Deed}
use Rattle.ssa_lowered.specs.Control.{Test, Round, choose, behind, loop, repeat, half, often}
use Rattle.ssa_exprs.specs.Changes.{rewound, chosen, values_of, joined}
use Rattle.ssa_exprs.specs.Making.{View, asked, bound, closed, Tests}
use Rattle.ssa_statements.specs.Steps.{Steps, Rounds}

-- a jump's arguments are the values of the mask's variables, where no limit is passed
abbrev pub Hands : View → View → Mask → List ℕ → Type 0
Hands v w mask args = w.over ≡ None → args ≡ values_of w.known.env (chosen mask 0 v.known.env)

-- the open block jumps on, and the next begins with the variables as they were at another moment
abbrev pub left : View → View → (to : ℕ) → (args : List ℕ) → (freq : ℕ) → View
left v w to args freq = let u = closed w (Jump to args) 0 freq None in record u { known = rewound u.known (length v.known.log) }

-- it jumps to a join, which begins behind it with the variables of the mask as its parameters
abbrev pub met : View → View → Mask → (to : ℕ) → (args : List ℕ) → View
met v w mask to args = bound (joined (record w { known = rewound w.known (length v.known.log) }) (Jump to args) (chosen mask 0 v.known.env) v.freq None) to

-- it jumps to a loop's header, which begins behind it
abbrev pub headed : View → Mask → (args : List ℕ) → View
headed v mask args = bound (joined (asked v) (Jump v.labels args) (chosen mask 0 v.known.env) (often v.freq) (Some v.block)) v.labels

abbrev pub MakesChoice : (v u u2 u5 : View) → Test → (f g : Deed) → Mask → (args1 args2 : List ℕ) → Type 0
MakesChoice v u u2 u5 t f g mask args1 args2 =
    Tests (asked (asked (asked v))) u t v.labels (suc v.labels) (half v.freq)
    → Steps (bound u v.labels) u2 f
    → Hands v u2 mask args1
    → Steps (bound (left v u2 (suc (suc v.labels)) args1 (half v.freq)) (suc v.labels)) u5 g
    → Hands v u5 mask args2
    → Steps v (met v u5 mask (suc (suc v.labels)) args2) (choose mask t f g)

abbrev pub MakesGuard : (v u u2 w : View) → Test → Deed → Mask → (head outside next : ℕ) → (args : List ℕ) → List Round → Type 0
MakesGuard v u u2 w t f mask head outside next args rs =
    Tests (asked (asked v)) u t v.labels (suc v.labels) v.freq
    → Steps (bound u v.labels) u2 f
    → Hands v u2 mask args
    → next ≡ behind rs v.freq outside
    → Rounds (bound (left v u2 head args next) (suc v.labels)) w mask head outside rs
    → Rounds v w mask head outside (record { test = t; body = f } ∷ rs)

abbrev pub MakesLoop : (v w : View) → Mask → (args : List ℕ) → List Round → Type 0
MakesLoop v w mask args rs = Hands v v mask args → Rounds (headed v mask args) w mask v.labels v.freq rs → Steps v w (loop mask rs)

abbrev pub MakesRepeat : (v u3 u4 : View) → Test → Deed → Mask → (args1 args2 : List ℕ) → Type 0
MakesRepeat v u3 u4 t body mask args1 args2 =
    Hands v v mask args1
    → Steps (headed v mask args1) u3 body
    → Tests (asked (asked u3)) u4 t u3.labels (suc u3.labels) (often v.freq)
    → Hands v u4 mask args2
    → Steps v (bound (closed (bound u4 (suc u3.labels)) (Jump v.labels args2) 0 v.freq None) u3.labels) (repeat mask body t)
