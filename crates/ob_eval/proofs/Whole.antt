-- What a well-formed program and bytes are to an executed meaning.
use Rattle.std.proofs.Common.{◌≡◌, ℕ, ◌<◌, List, [], ◌∷◌, length, get_or, suc, true, ◌&&◌, lt-ltb, refl, sym, ap, subst, ◌∙◌}
use Rattle.std.specs.Prelude.{nat_lt, nat_le}
use Rattle.run_laws.specs.Turns.{Ending, Gives, Fails, Spent, outcome}
use Rattle.ob_types.specs.Store.{Store, Trap, Kind, Senseless}
use Rattle.ob_types.specs.Forms.{all, all_below}
use Rattle.ob_types.specs.Meaning.{bodies, start, meaning}
use Rattle.ob_types.specs.Sense.{MakesSense}
use Rattle.ob_types.specs.WellFormed.{argument_words, level_fine, sizes_fine, well_formed}
use Rattle.ob_types.specs.declared.program.Program.{Program}
use Rattle.ob_types.proofs.Tests.{and_of, and_from, below}
use Rattle.ob_types.proofs.WellFormedParts.{parts_of, said}
use Rattle.ob_sound.proofs.Programs.{makes_sense}
use Rattle.eval_layouts.specs.Lays.{IsMeasured}
use Rattle.eval_store.specs.Did.{Sensible}

-- its record types have the cells that they say
pub measured : (p : Program) → well_formed p ≡ true → IsMeasured p.types
measured p h =
    let t = p.types in
    let fine = parts_of p h in
    let levels = all_below (length t.records) (level_fine p) in
    let counts = all_below (length t.records) (sizes_fine p) in
    let tests = and_of (levels && counts) (all (λ g. nat_le (argument_words g.formals) 24) t.signatures && all (λ q. nat_le (argument_words q.formals) 24) p.procedures) fine.counts in
    let cells = and_of levels counts tests.0 in
    record {
      fine = fine.table;
      records = λ r l. (said p r (below (length t.records) (sizes_fine p) cells.1 r l)).0;
    }

-- bytes are an input
pub are_bytes : (bs : List ℕ) → ((k : ℕ) → get_or bs k 0 < 256) → all (λ x. nat_lt x 256) bs ≡ true
are_bytes [] h = refl
are_bytes (b ∷ bs) h = let first : b < 256 = h 0 in and_from (nat_lt b 256) (all (λ x. nat_lt x 256) bs) (lt-ltb b 256 first) (are_bytes bs (λ k. h (suc k)))

-- a meaning that makes sense
pub sensible_of : (e : Ending Store Trap (Unit {0})) → MakesSense (outcome e) → Sensible e
sensible_of (Gives a s) h = tt
sensible_of (Fails (Kind kind f) out) h = tt
sensible_of (Fails Senseless out) h = h
sensible_of (Spent out) h = tt

-- what is left before the first body is the meaning, and makes sense
module _ (p q : Program) (input : List ℕ) (n : ℕ) (e : Ending Store Trap (Unit {0})) (is : q ≡ p) (begins : e ≡ bodies q n q.modules (record { store = start q input; out = []; turns = n })) where
  pub means : outcome e ≡ meaning p input n
  means = ap outcome begins ∙ ap (λ q. meaning q input n) is

  pub sensible : well_formed p ≡ true → ((k : ℕ) → get_or input k 0 < 256) → Sensible e
  sensible fine bytes = sensible_of e (subst MakesSense (sym means) (makes_sense p input n fine (are_bytes input bytes)))
