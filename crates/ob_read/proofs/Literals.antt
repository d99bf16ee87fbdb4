-- Literals are within their range.
use Rattle.std.proofs.Common.{◌≡◌, ℕ, ◌<◌, ◌^◌, ◌-◌, zero, suc, pos, negsuc, List, [], ◌∷◌, true, false, nat_lt, Some, refl, sym, ap, subst, arith}
use Rattle.std.specs.Prelude.{All}
use Rattle.wrapping_numbers.specs.Numbers.{unsigned}
use Rattle.ob_symbol.specs.declared.symbol.Symbol.{Symbol}
use Rattle.ob_scan.specs.Words.{WordForm, Name, Keyword, Decimal, Hexadecimal, Character, Quoted, Operator, kind_of, signed, IsWithin}
use Rattle.ob_scan.specs.Scans.{AllSpell, none_spelled, spelled, Spells}
use Rattle.ob_read.specs.Texts.{fits, HasFittingLiteral}

signed_fits : (n : ℕ) → n < 2 ^ 64 → unsigned (signed n) < 2 ^ 64
signed_fits n p = by (nat_lt n (2 ^ 63))
  where
    by : (b : _) → unsigned (Rattle.std.specs.Prelude.if◌then◌else◌ b (pos n) (negsuc (2 ^ 64 - suc n))) < 2 ^ 64
    by true = p
    by false = omega arith

form_fits : (form : WordForm) (w : List ℕ) → IsWithin form w → fits (kind_of form)
form_fits Name w h = tt
form_fits (Keyword r) w h = tt
form_fits (Decimal n) w h = omega arith
form_fits (Hexadecimal n) w h = signed_fits n h
form_fits (Character n) w h = h
form_fits Quoted w h = tt
form_fits (Operator d) w h = tt

pub all_fit : {w : List ℕ} {a : List Symbol} → AllSpell w a → All HasFittingLiteral a
all_fit none_spelled k d p = absurd (omega (arith, p))
all_fit {w} (spelled {s} h more) zero d p = record { fits = subst fits (sym h.kind) (form_fits h.form _ h.within) }
all_fit (spelled h more) (suc k) d p = all_fit more k d (omega (arith, p))
