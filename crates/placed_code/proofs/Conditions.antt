-- Conditions by their numbers: what the flows test is what the words test.
use Rattle.std.proofs.Common.{◌≡◌, ℕ, zero, suc, ◌<◌, refl, arith}
use Rattle.a64_numbers.specs.Conditions as machine
use Rattle.a64_instr.specs.declared.instr.Cond.TheVariants.{Al}
use Rattle.a64_table.specs.Decode.{cond_of}
use Rattle.block_runs.specs.Compares.{compares}

pub compares_is : (k a b : ℕ) → k < 14 → compares k a b ≡ machine.compares (cond_of k) a b
compares_is zero a b l = refl
compares_is (suc zero) a b l = refl
compares_is (suc (suc zero)) a b l = refl
compares_is (suc (suc (suc zero))) a b l = refl
compares_is (suc (suc (suc (suc zero)))) a b l = refl
compares_is (suc (suc (suc (suc (suc zero))))) a b l = refl
compares_is (suc (suc (suc (suc (suc (suc zero)))))) a b l = refl
compares_is (suc (suc (suc (suc (suc (suc (suc zero))))))) a b l = refl
compares_is (suc (suc (suc (suc (suc (suc (suc (suc zero)))))))) a b l = refl
compares_is (suc (suc (suc (suc (suc (suc (suc (suc (suc zero))))))))) a b l = refl
compares_is (suc (suc (suc (suc (suc (suc (suc (suc (suc (suc zero)))))))))) a b l = refl
compares_is (suc (suc (suc (suc (suc (suc (suc (suc (suc (suc (suc zero))))))))))) a b l = refl
compares_is (suc (suc (suc (suc (suc (suc (suc (suc (suc (suc (suc (suc zero)))))))))))) a b l = refl
compares_is (suc (suc (suc (suc (suc (suc (suc (suc (suc (suc (suc (suc (suc zero))))))))))))) a b l = refl
compares_is (suc (suc (suc (suc (suc (suc (suc (suc (suc (suc (suc (suc (suc (suc k)))))))))))))) a b l = absurd (omega (arith, l))

-- none of them is AL
pub not_al : (k : ℕ) → k < 14 → cond_of k ≡ Al → ⊥
not_al zero l e = cc
not_al (suc zero) l e = cc
not_al (suc (suc zero)) l e = cc
not_al (suc (suc (suc zero))) l e = cc
not_al (suc (suc (suc (suc zero)))) l e = cc
not_al (suc (suc (suc (suc (suc zero))))) l e = cc
not_al (suc (suc (suc (suc (suc (suc zero)))))) l e = cc
not_al (suc (suc (suc (suc (suc (suc (suc zero))))))) l e = cc
not_al (suc (suc (suc (suc (suc (suc (suc (suc zero)))))))) l e = cc
not_al (suc (suc (suc (suc (suc (suc (suc (suc (suc zero))))))))) l e = cc
not_al (suc (suc (suc (suc (suc (suc (suc (suc (suc (suc zero)))))))))) l e = cc
not_al (suc (suc (suc (suc (suc (suc (suc (suc (suc (suc (suc zero))))))))))) l e = cc
not_al (suc (suc (suc (suc (suc (suc (suc (suc (suc (suc (suc (suc zero)))))))))))) l e = cc
not_al (suc (suc (suc (suc (suc (suc (suc (suc (suc (suc (suc (suc (suc zero))))))))))))) l e = cc
not_al (suc (suc (suc (suc (suc (suc (suc (suc (suc (suc (suc (suc (suc (suc k)))))))))))))) l e = absurd (omega (arith, l))
