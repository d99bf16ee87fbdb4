-- A text that was read is one that the judgement may look at.
use Rattle.std.proofs.Common.{◌≡◌, ◌<◌, ℕ, zero, suc, List, [], ◌∷◌, true, nat_lt, refl, subst, arith}
use Rattle.std.specs.Prelude.{All, slice_index_or, get_or}
use Rattle.ob_types.specs.Forms.{all}
use Rattle.std.proofs.lemmas.Bool.{lt-ltb}
use Rattle.std.proofs.lemmas.Option.{get_or_from_slice_get}
use Rattle.ob_symbol.specs.declared.symbol.Symbol.{Symbol}
use Rattle.ob_syntax.specs.declared.modules.Module.{Module}
use Rattle.ob_judge.specs.Scopes.{empty_symbol}
use Rattle.judged_well.specs.Standing.{IsRead}
use Rattle.judged_programs.proofs.Ends.{all_from}
use Rattle.ob_scan.proofs.Order.{spells}
use Rattle.ob_read.specs.Texts.{IsModuleText, HasFittingLiteral, fits}
use Rattle.ob_read.proofs.Literals.{all_fit}

literal_at : (symbols : List Symbol) (i : ℕ) → All HasFittingLiteral symbols → HasFittingLiteral (slice_index_or symbols i empty_symbol)
literal_at [] i h = record { fits = tt }
literal_at (s ∷ ss) zero h = h zero empty_symbol (omega arith)
literal_at (s ∷ ss) (suc i) h = literal_at ss i (λ k d p. h (suc k) d (omega (arith, p)))

all_bytes : (bytes : List ℕ) → ((i : ℕ) → get_or bytes i 0 < 256) → all (λ c. nat_lt c 256) bytes ≡ true
all_bytes bytes h = all_from (λ c. nat_lt c 256) bytes (λ i x at. lt-ltb x 256 (subst (λ n. n < 256) (get_or_from_slice_get bytes i x 0 at) (h i)))

pub text_is_read : (bytes : List ℕ) (symbols : List Symbol) (tree : Module) → ((i : ℕ) → get_or bytes i 0 < 256) → IsModuleText bytes symbols tree → IsRead (record { bytes = bytes; symbols = symbols })
text_is_read bytes symbols tree are_bytes text =
    let literals = all_fit (spells text.scanned [] refl) in
    record {
      bytes = all_bytes bytes are_bytes;
      few = omega (arith, text.short);
      numbers = λ i z is. subst fits is (literal_at symbols i literals).fits;
      chars = λ i n is. subst fits is (literal_at symbols i literals).fits;
    }
