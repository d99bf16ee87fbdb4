-- What is taken from the stack of values, or isn't there.
use Rattle.std.proofs.Common.{◌≡◌, ℕ, List, [], ◌∷◌, Some, None, Ok, Err, refl, sym, ap, ◌∙◌}
use Rattle.run_laws.specs.Turns.{State, Fails, after, ◌>>=◌}
use Rattle.ob_types.specs.Store.{Cell, Bits, Pointer, Code, Store, Senseless, Address, Handed, At, Sized, Tagged, Value, bits_in}
use Rattle.ob_types.specs.Statements.{Deed}
use Rattle.eval_store.specs.Areas.{address_of}
use Rattle.eval_store.specs.Cells.{number_of}
use Rattle.eval_store.specs.declared.stop.Stop.{Stop}
use Rattle.eval_store.specs.declared.stop.Stop.TheVariants.{NoSense}
use Rattle.eval_tasks.specs.Tasks.{popped, taken, limited}
use Rattle.ob_eval.specs.Steps.{TookCell, TookNumber, Took}
use Rattle.ob_eval.specs.Limits.{TookLimit}
use Rattle.ob_eval.specs.declared.loops.Limit.{Limit}
use Rattle.ob_eval.specs.declared.machine.Machine.{Machine}
use Rattle.ob_eval.proofs.Steps.{number_is, no_bits}

-- a number

pub took_no_cell : (old new : Machine) (stop : Stop) → TookCell old (Err stop) new → TookNumber old (Err stop) new
took_no_cell old new stop h = (h.0, λ go. h.1 (λ c rest. bits_in c >>= λ n. go n rest))

pub took_number : (old new : Machine) (c : Cell) (n : ℕ) → TookCell old (Ok c) new → number_of c ≡ Some n → TookNumber old (Ok n) new
took_number old new c n h is = let F : Cell → Machine = λ d. record new { values = Value d ∷ new.values } in h ∙ ap F (number_is c n is)

pub took_no_number : (old new : Machine) (c : Cell) → TookCell old (Ok c) new → number_of c ≡ None → TookNumber old (Err NoSense) new
took_no_number old new c h none = (
  refl,
  λ go.
      ap (λ m. popped m.values (λ c rest. bits_in c >>= λ n. go n rest) m.world) h
      ∙ ap (λ e. after e (λ n. go n new.values)) (no_bits c new.world none),
)

-- a limit on an address

by_number : (vs : List Handed) (go : ℕ → Address → List Handed → Deed) (s : State Store) → limited vs go s ≡ popped vs (λ c rest. bits_in c >>= λ n. limited (Value (Bits n) ∷ rest) go) s
by_number [] go s = refl
by_number (Value (Bits n) ∷ vs) go s = refl
by_number (Value (Pointer o) ∷ vs) go s = refl
by_number (Value (Code f) ∷ vs) go s = refl
by_number (At a ∷ vs) go s = refl
by_number (Sized a n ∷ vs) go s = refl
by_number (Tagged a t ∷ vs) go s = refl

by_handed : (n : ℕ) (vs : List Handed) (go : ℕ → Address → List Handed → Deed) (s : State Store) → limited (Value (Bits n) ∷ vs) go s ≡ taken vs (λ h rest. limited (Value (Bits n) ∷ h ∷ rest) go) s
by_handed n [] go s = refl
by_handed n (h ∷ vs) go s = refl

no_address : (n : ℕ) (h : Handed) (vs : List Handed) (go : ℕ → Address → List Handed → Deed) (s : State Store) → ((a : Address) → h ≡ At a → ⊥) → limited (Value (Bits n) ∷ h ∷ vs) go s ≡ Fails Senseless s.out
no_address n (At a) vs go s none = absurd (none a refl)
no_address n (Sized a m) vs go s none = refl
no_address n (Tagged a t) vs go s none = refl
no_address n (Value c) vs go s none = refl

pub took_no_limit : (old new : Machine) (stop : Stop) → TookNumber old (Err stop) new → TookLimit old (Err stop) new
took_no_limit old new stop h = (h.0, λ go. by_number old.values go old.world ∙ h.1 (λ n rest. limited (Value (Bits n) ∷ rest) go))

module _ (old mid : Machine) (n : ℕ) (number : TookNumber old (Ok n) mid) where
  pub took_no_variable : (new : Machine) (stop : Stop) → Took mid (Err stop) new → TookLimit old (Err stop) new
  took_no_variable new stop h = (
    h.0,
    λ go.
        ap (λ m. limited m.values go m.world) number
        ∙ by_handed n mid.values go mid.world
        ∙ h.1 (λ h rest. limited (Value (Bits n) ∷ h ∷ rest) go),
  )

  module _ (new : Machine) (h : Handed) (handed : Took mid (Ok h) new) where
    abbrev F : Machine → Machine
    F m = record m { values = Value (Bits n) ∷ m.values }

    pub took_no_address : ((a : Address) → h ≡ At a → ⊥) → TookLimit old (Err NoSense) new
    took_no_address none = (
      refl,
      λ go.
          ap (λ m. limited m.values go m.world) (number ∙ ap F handed)
          ∙ no_address n h new.values go new.world none,
    )

    pub took_limit : (w : Limit) → w.value ≡ n → h ≡ At (address_of w.variable) → TookLimit old (Ok w) new
    took_limit w v a =
        let G : Handed → Machine = λ g. record new { values = Value (Bits n) ∷ g ∷ new.values } in
        let L : ℕ → Machine = λ k. record new { values = Value (Bits k) ∷ At (address_of w.variable) ∷ new.values } in
        number ∙ ap F handed ∙ ap G a ∙ ap L (sym v)
