-- Registers that are given, one after the other.
use Rattle.std.proofs.Common.{◌≡◌, ℕ, zero, suc, ◌+◌, ◌<◌, List, [], ◌∷◌, length, drop, min, get_or, Option, Some, None, refl, sym, ap, ◌∙◌, arith, set, length-set, Bool, true, false, cond}
use Rattle.lir_core.specs.Spots.{in_register}
use Rattle.loc_back.specs.Steps.{seated, unseated, seated_new, seated_news}

-- a pair more
pub seat_step : (us : List ℕ) (rs : List (Option ℕ)) (i : ℕ) (regs : List (Option ℕ)) → i < length us → i < length rs → seated (drop i us) (drop i rs) regs ≡ seated (drop (i + 1) us) (drop (i + 1) rs) (seated (get_or us i 0 ∷ []) (get_or rs i None ∷ []) regs)
seat_step [] rs i regs l m = absurd (omega (arith, l))
seat_step (u ∷ us) [] i regs l m = absurd (omega (arith, m))
seat_step (u ∷ us) (None ∷ rs) zero regs l m = refl
seat_step (u ∷ us) (Some r ∷ rs) zero regs l m = refl
seat_step (u ∷ us) (r ∷ rs) (suc i) regs l m = seat_step us rs i regs (omega (arith, l)) (omega (arith, m)) ∙ (let e : suc i + 1 ≡ suc (i + 1) = omega arith in ap (λ k. seated (drop k (u ∷ us)) (drop k (r ∷ rs)) (seated (get_or us i 0 ∷ []) (get_or rs i None ∷ []) regs)) (sym e))

pub unseat_step : (us : List ℕ) (rs : List (Option ℕ)) (i : ℕ) (homed : List ℕ) → i < length us → i < length rs → unseated (drop i us) (drop i rs) homed ≡ unseated (drop (i + 1) us) (drop (i + 1) rs) (unseated (get_or us i 0 ∷ []) (get_or rs i None ∷ []) homed)
unseat_step [] rs i homed l m = absurd (omega (arith, l))
unseat_step (u ∷ us) [] i homed l m = absurd (omega (arith, m))
unseat_step (u ∷ us) (None ∷ rs) zero homed l m = refl
unseat_step (u ∷ us) (Some r ∷ rs) zero homed l m = refl
unseat_step (u ∷ us) (r ∷ rs) (suc i) homed l m = unseat_step us rs i homed (omega (arith, l)) (omega (arith, m)) ∙ (let e : suc i + 1 ≡ suc (i + 1) = omega arith in ap (λ k. unseated (drop k (u ∷ us)) (drop k (r ∷ rs)) (unseated (get_or us i 0 ∷ []) (get_or rs i None ∷ []) homed)) (sym e))

pub seat_new_step : (us : List ℕ) (rs : List (Option ℕ)) (i : ℕ) (regs : List (Option ℕ)) → i < length us → i < length rs → seated_news (drop i us) (drop i rs) regs ≡ seated_news (drop (i + 1) us) (drop (i + 1) rs) (seated_new (get_or us i 0) (get_or rs i None) regs)
seat_new_step [] rs i regs l m = absurd (omega (arith, l))
seat_new_step (u ∷ us) [] i regs l m = absurd (omega (arith, m))
seat_new_step (u ∷ us) (r ∷ rs) zero regs l m = refl
seat_new_step (u ∷ us) (r ∷ rs) (suc i) regs l m = seat_new_step us rs i regs (omega (arith, l)) (omega (arith, m)) ∙ (let e : suc i + 1 ≡ suc (i + 1) = omega arith in ap (λ k. seated_news (drop k (u ∷ us)) (drop k (r ∷ rs)) (seated_new (get_or us i 0) (get_or rs i None) regs)) (sym e))

-- nothing is left behind the shorter list
pub seats_over : (us : List ℕ) (rs : List (Option ℕ)) (n : ℕ) (regs : List (Option ℕ)) → n ≡ min (length us) (length rs) → seated (drop n us) (drop n rs) regs ≡ regs
seats_over [] rs zero regs e = refl
seats_over [] rs (suc n) regs e = refl
seats_over (u ∷ us) [] zero regs e = refl
seats_over (u ∷ us) [] (suc n) regs e = absurd (omega (arith, e))
seats_over (u ∷ us) (r ∷ rs) zero regs e = absurd (omega (arith, e))
seats_over (u ∷ us) (r ∷ rs) (suc n) regs e = seats_over us rs n regs (omega (arith, e))

pub unseats_over : (us : List ℕ) (rs : List (Option ℕ)) (n : ℕ) (homed : List ℕ) → n ≡ min (length us) (length rs) → unseated (drop n us) (drop n rs) homed ≡ homed
unseats_over [] rs zero homed e = refl
unseats_over [] rs (suc n) homed e = refl
unseats_over (u ∷ us) [] zero homed e = refl
unseats_over (u ∷ us) [] (suc n) homed e = absurd (omega (arith, e))
unseats_over (u ∷ us) (r ∷ rs) zero homed e = absurd (omega (arith, e))
unseats_over (u ∷ us) (r ∷ rs) (suc n) homed e = unseats_over us rs n homed (omega (arith, e))

pub seat_news_over : (us : List ℕ) (rs : List (Option ℕ)) (n : ℕ) (regs : List (Option ℕ)) → n ≡ min (length us) (length rs) → seated_news (drop n us) (drop n rs) regs ≡ regs
seat_news_over [] rs zero regs e = refl
seat_news_over [] rs (suc n) regs e = refl
seat_news_over (u ∷ us) [] zero regs e = refl
seat_news_over (u ∷ us) [] (suc n) regs e = absurd (omega (arith, e))
seat_news_over (u ∷ us) (r ∷ rs) zero regs e = absurd (omega (arith, e))
seat_news_over (u ∷ us) (r ∷ rs) (suc n) regs e = seat_news_over us rs n regs (omega (arith, e))

---- How many registers there are

pub length-seated : (us : List ℕ) (rs : List (Option ℕ)) (regs : List (Option ℕ)) → length (seated us rs regs) ≡ length regs
length-seated [] rs regs = refl
length-seated (u ∷ us) [] regs = refl
length-seated (u ∷ us) (None ∷ rs) regs = length-seated us rs regs
length-seated (u ∷ us) (Some r ∷ rs) regs = length-seated us rs (set regs r (Some u)) ∙ length-set regs r (Some u)

pub length-seated_new : (a : ℕ) (r : Option ℕ) (regs : List (Option ℕ)) → length (seated_new a r regs) ≡ length regs
length-seated_new a None regs = refl
length-seated_new a (Some r) regs = by (in_register regs a)
  where
    by : (b : Bool) → length (cond b regs (set regs r (Some a))) ≡ length regs
    by true = refl
    by false = length-set regs r (Some a)

pub length-seated_news : (us : List ℕ) (rs : List (Option ℕ)) (regs : List (Option ℕ)) → length (seated_news us rs regs) ≡ length regs
length-seated_news [] rs regs = refl
length-seated_news (u ∷ us) [] regs = refl
length-seated_news (u ∷ us) (r ∷ rs) regs = length-seated_news us rs (seated_new u r regs) ∙ length-seated_new u r regs
