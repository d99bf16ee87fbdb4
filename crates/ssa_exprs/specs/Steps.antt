-- What is done behind the first links of a chain, and what it comes to.
use Rattle.std.specs.Prelude.{◌≡◌, ℕ, suc, List, [], ◌∷◌, Some, None, slice_get}
use Rattle.ob_types.specs.declared.program.Program.{Program}
use Rattle.ob_types.specs.declared.tree.Expr.{Expr}
use Rattle.ob_types.specs.declared.tree.Link.{Link, Operate, And, Or, Element, Elements'}
use Rattle.block_runs.specs.declared.end.End.TheVariants.{Nonzero}
use Rattle.ssa_lowered.specs.Control.{Lowers, Test, half, flag}
use Rattle.ssa_lowered.specs.Lowered.{Here}
use Rattle.ssa_exprs.specs.declared.steps.Wanted.{Wanted}
use Rattle.ssa_exprs.specs.declared.steps.Wanted.TheVariants.{Value, Condition}
use Rattle.ssa_exprs.specs.declared.steps.Step.{Step}
use Rattle.ssa_exprs.specs.declared.steps.Step.TheVariants as The
use Rattle.ssa_exprs.specs.Making.{View, Gives, Tests, asked, bound, closed}
use Rattle.ssa_exprs.specs.Tables.{expr_in}
use Rattle.ssa_exprs.specs.Walk.{link_in}

-- the last operand of a link
abbrev pub operand_of : Link → Expr
operand_of (Operate op y) = y
operand_of (And y) = y
operand_of (Or y) = y
operand_of (Element y) = y
operand_of (Elements' _ y _ z) = z

-- an expression was lowered as it is wanted; the number is its value, where that is wanted
abbrev pub Fulfils : Wanted → View → View → Lowers → ℕ → Type 0
Fulfils Value v w x r = Gives v w x.value r
Fulfils (Condition q) v w x r = Tests v w x.test q.yes q.no q.next

module _ (p : Program) (here : Here) (ks : List Link) where
  -- a step was taken, from one number to another
  abbrev pub Taken : Step → View → View → ℕ → ℕ → Type 0
  Taken (The.Apply i) u w a r = (k : Link) → slice_get ks i ≡ Some k → (v : View) (x : Lowers) → Gives v u x.value a → Gives v w (link_in p here k x).value r
  Taken (The.Fork q) u w a r = w ≡ closed u (Nonzero a q.yes q.no) 0 q.next None
  Taken (The.Part i label q) u w a r = (k : Link) → slice_get ks i ≡ Some k → Tests (bound u label) w (expr_in p here (operand_of k)).test q.yes q.no q.next
  Taken (The.Flag yes_to no_to freq) u w a r =
      (v : View) (t : Test) → yes_to ≡ v.labels → no_to ≡ suc v.labels → freq ≡ v.freq → Tests (asked (asked v)) u t yes_to no_to (half v.freq) → Gives v w (flag t) r

  -- steps were taken, the last of them first
  abbrev pub AllTaken : List Step → View → View → ℕ → ℕ → Type 0
  AllTaken [] u w a r = (w ≡ u) × (r ≡ a)
  AllTaken (s ∷ ss) u w a r = (m : View) × (c : ℕ) × AllTaken ss u m a c × Taken s m w c r

  -- where one expression was lowered as it is wanted and the steps were taken, another one was lowered as that is wanted
  pub record Leads (ss : List Step) (first : Wanted) (u : View) (x : Lowers) (last : Wanted) (v : View) (y : Lowers) : Type 0 where
    pub by : (m w : View) (a r : ℕ) → Fulfils first u m x a → AllTaken ss m w a r → Fulfils last v w y r
